use Rattle.std.proofs.Common.{◌-◌, not, length}
use Rattle.xl_table.specs.Leaving.{goes}
use Rattle.xl_table.proofs.PageLaws.{AreThin}
use Rattle.xl_table.proofs.listing.thin_pages.Given as goal

abbrev pub decreases-pages : goal.decreases-pages
decreases-pages l = length l.pages.items - l.at

abbrev pub invariant-pages : goal.invariant-pages
invariant-pages l = AreThin (λ held. not (goes l.leaver held)) l.at l.pages.items l.fn.pages.items
