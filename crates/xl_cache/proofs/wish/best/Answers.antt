use Rattle.std.proofs.Common.{◌≡◌, true, false, Option, sym, subst}
use Rattle.std.specs.Prelude.{IfSome, IfNone}
use Rattle.std.specs.List.{AllByRecursion}
use Rattle.xl_base.specs.Lists.{IsIn}
use Rattle.xl_matrix.specs.declared.claim.CacheKind.{CacheKind}
use Rattle.xl_cache.specs.Wishing.{may_stand}
use Rattle.xl_cache.proofs.WishLaws.{best_is_chosen, none_is_chosen}
use Rattle.xl_cache.proofs.wish.best.Goals as goal

pub returns-clause-some : goal.returns-clause-some
returns-clause-some c =
    subst (λ (o : Option CacheKind). IfSome o (λ kind. IsIn kind c.args.wanted.now.kinds × (may_stand c.args.wanted.now c.args.held.now kind ≡ true))) (sym c.first_choice.ensures) (best_is_chosen c.args.wanted.now c.args.held.now)

pub returns-clause-none : goal.returns-clause-none
returns-clause-none c =
    subst (λ (o : Option CacheKind). IfNone o (AllByRecursion (λ kind. may_stand c.args.wanted.now c.args.held.now kind ≡ false) c.args.wanted.now.kinds)) (sym c.first_choice.ensures) (none_is_chosen c.args.wanted.now c.args.held.now)
