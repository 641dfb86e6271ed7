use Rattle.std.proofs.Common.{◌≡◌, drop}
use Rattle.xl_table.specs.Flat.{is_blocked}
use Rattle.xl_table.specs.Pages.{paged}
use Rattle.xl_table.proofs.listing.any_blocks_in.Given as goal

abbrev pub invariant-loop-page : goal.invariant-loop-page
invariant-loop-page l = is_blocked (paged l.pages) l.ask ≡ is_blocked (paged (drop l.page-index l.pages)) l.ask
