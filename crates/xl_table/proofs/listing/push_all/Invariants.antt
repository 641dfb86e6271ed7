use Rattle.std.proofs.Common.{◌≡◌, ◌++◌, drop}
use Rattle.xl_table.specs.Pages.{paged}
use Rattle.xl_table.proofs.listing.push_all.Given as goal

abbrev pub invariant-loop-page : goal.invariant-loop-page
invariant-loop-page l = l.all.items ++ paged (drop l.page-index l.pages) ≡ l.fn.all.items ++ paged l.pages
