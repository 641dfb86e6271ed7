use Rattle.xl_exact.proofs.ElementLaws.{exclusive_unlocked}
use Rattle.xl_exact.proofs.listing.place_to_unlock.Goals as goal

pub returns-in-Some-clause-found : goal.returns-in-Some-clause-found
returns-in-Some-clause-found c = exclusive_unlocked c.args.first c.args.len c.args.elements.now c.in-Some.place (cc)
