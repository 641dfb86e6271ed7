use Rattle.std.proofs.Common.{◌≡◌, true, Option, sym, subst}
use Rattle.std.specs.Prelude.{IfSome}
use Rattle.xl_matrix.specs.declared.claim.CacheKind.{CacheKind}
use Rattle.xl_matrix.specs.Kinds.{kind_lies_within}
use Rattle.xl_cache.specs.Wishing.{may_replace}
use Rattle.xl_cache.proofs.WishLaws.{best_join_is_chosen}
use Rattle.xl_cache.proofs.wish.best_join.Goals as goal

pub returns-clause-some : goal.returns-clause-some
returns-clause-some c =
    subst (λ (o : Option CacheKind). IfSome o (λ least. (kind_lies_within c.args.kind least ≡ true) × (may_replace c.args.wanted.now c.args.held.now least ≡ true))) (sym c.first_join.ensures) (best_join_is_chosen c.args.wanted.now c.args.kind c.args.held.now)
