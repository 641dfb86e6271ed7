use Rattle.std.proofs.Common.{◌≡◌, ◌+◌, ◌-◌, ◌≤◌, take, length}
use Rattle.xl_table.specs.Pages.{paged}
use Rattle.xl_table.proofs.pages.locate.Given as goal

abbrev pub decreases-pages : goal.decreases-pages
decreases-pages l = length l.pages - l.at

abbrev pub invariant-pages : goal.invariant-pages
invariant-pages l = (l.place ≡ length (paged (take l.at l.pages)) + l.left) × (l.at ≤ length l.pages)
