use Rattle.std.proofs.Common.{◌≡◌, None, drop}
use Rattle.std.specs.List.{filter}
use Rattle.xl_base.specs.Leasts.{least_from}
use Rattle.xl_table.specs.Least.{range_before, counts}
use Rattle.xl_table.specs.Pages.{paged}
use Rattle.xl_table.proofs.least.least_in.Given as goal

abbrev pub invariant-loop-page : goal.invariant-loop-page
invariant-loop-page l = least_from (range_before l.names) l.least (filter (counts l.ask l.ranges) (paged (drop l.page-index l.pages))) ≡ least_from (range_before l.names) None (filter (counts l.ask l.ranges) (paged l.pages))
