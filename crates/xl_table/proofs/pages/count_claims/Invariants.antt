use Rattle.std.proofs.Common.{◌≡◌, ◌+◌, length, drop}
use Rattle.xl_table.specs.Pages.{paged}
use Rattle.xl_table.proofs.pages.count_claims.Given as goal

abbrev pub invariant-loop-page : goal.invariant-loop-page
invariant-loop-page l = l.count + length (paged (drop l.page-index l.pages)) ≡ length (paged l.pages)
