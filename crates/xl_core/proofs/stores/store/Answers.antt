use Rattle.std.proofs.Common.{◌≡◌, [], ◌∷◌, ◌++◌, refl, ap, ◌∙◌}
use Rattle.xl_base.specs.Stable.{Stable}
use Rattle.xl_core.specs.Whole.{state_of}
use Rattle.xl_core.proofs.StoreLaws.{hands_stored, hands_failed, made_more}
use Rattle.xl_core.proofs.stores.store.Goals as goal

pub returns-in-Stored-clause-keeper : goal.returns-in-Stored-clause-keeper
returns-in-Stored-clause-keeper g c =
    let put : c.push.new.self.items ≡ c.args.parts.now.given.items ++ c.args.stable ∷ [] = c.in_ok-push.ensures.items ∙ ap (λ (x : Stable). c.args.parts.now.given.items ++ x ∷ []) c.in_ok-copy.ensures in
    hands_stored c.store.result c.args.stable (state_of c.args.parts.now) _ _ _ c.in-Stored.is c.if-parts.false refl refl (made_more c.args.parts.now.failed c.args.parts.now.given.items c.push.new.self.items c.args.stable c.if-parts.false put).0 put c.store.ensures.held c.store.ensures.given c.store.ensures.left c.store.ensures.counts

pub returns-in-Failed-clause-keeper : goal.returns-in-Failed-clause-keeper
returns-in-Failed-clause-keeper g c =
    let put : c.push.new.self.items ≡ c.args.parts.now.given.items ++ c.args.stable ∷ [] = c.in_ok-push.ensures.items ∙ ap (λ (x : Stable). c.args.parts.now.given.items ++ x ∷ []) c.in_ok-copy.ensures in
    hands_failed c.store.result c.args.stable (state_of c.args.parts.now) _ _ _ c.in-Failed.is c.if-parts.false refl refl (made_more c.args.parts.now.failed c.args.parts.now.given.items c.push.new.self.items c.args.stable c.if-parts.false put).1 put c.store.ensures.held c.store.ensures.given c.store.ensures.left c.store.ensures.later c.store.ensures.counts
