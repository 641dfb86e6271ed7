use Rattle.std.proofs.Common.{◌≡◌, drop}
use Rattle.std.specs.List.{list_any}
use Rattle.xl_table.specs.Pages.{paged, is_met}
use Rattle.xl_table.proofs.touching.any_met_in.Given as goal

abbrev pub invariant-loop-page : goal.invariant-loop-page
invariant-loop-page l = list_any (is_met l.file l.owner l.first l.last) (paged l.pages) ≡ list_any (is_met l.file l.owner l.first l.last) (paged (drop l.page-index l.pages))
