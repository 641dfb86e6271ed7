use Rattle.std.proofs.Common.{◌≡◌, true, Option, sym, subst}
use Rattle.std.specs.Prelude.{IfSome}
use Rattle.std.specs.Option.{IsSomeAnd}
use Rattle.xl_matrix.specs.declared.claim.CacheKind.{CacheKind}
use Rattle.xl_matrix.specs.Kinds.{kind_lies_within}
use Rattle.xl_cache.proofs.WishLaws.{joined_above, joined_least}
use Rattle.xl_cache.proofs.wish.join.Goals as goal

pub returns-clause-above : goal.returns-clause-above
returns-clause-above c =
    subst (λ (o : Option CacheKind). IfSome o (λ least. (kind_lies_within c.args.kind least ≡ true) × (kind_lies_within c.args.other least ≡ true))) (sym c.least_join.ensures) (joined_above c.args.kind c.args.other)

pub returns-clause-least : goal.returns-clause-least
returns-clause-least c = λ upper h k.
    subst (λ (o : Option CacheKind). IsSomeAnd o (λ least. kind_lies_within least upper ≡ true)) (sym c.least_join.ensures) (joined_least c.args.kind c.args.other upper h k)
