use Rattle.std.proofs.Common.{◌≡◌, true, Option, find, sym, subst}
use Rattle.std.specs.Prelude.{IfSome}
use Rattle.xl_matrix.specs.declared.claim.CacheKind.{CacheKind}
use Rattle.xl_cache.specs.Wishing.{is_its_cache, may_replace, Keeps}
use Rattle.xl_cache.proofs.WishLaws.{granted_may_stand, granted_keeps}
use Rattle.xl_cache.proofs.wish.kind_for.Goals as goal

pub returns-clause-stands : goal.returns-clause-stands
returns-clause-stands c =
    subst (λ (o : Option CacheKind). IfSome o (λ kind. may_replace c.args.wanted.now c.args.held.now kind ≡ true)) (sym c.new_kind.ensures) (granted_may_stand c.args.wanted.now c.args.held.now)

pub returns-clause-keeps : goal.returns-clause-keeps
returns-clause-keeps c =
    subst (λ (o : Option CacheKind). IfSome o (λ kind. IfSome (find (is_its_cache c.args.wanted.now) c.args.held.now) (λ d. Keeps d.what kind))) (sym c.new_kind.ensures) (granted_keeps c.args.wanted.now c.args.held.now)
