use Rattle.std.proofs.Common.{◌≡◌, Bool, List, [], IfOk, map, ap, sym, subst, ◌∙◌}
use Rattle.xl_matrix.specs.declared.claim.Extent.{Extent}
use Rattle.xl_core.specs.Askers.{range_what, asked_whats, asked_claims}
use Rattle.xl_core.specs.InFront.{IsKnown}
use Rattle.xl_core.specs.Decide.{Answered, claims_asked}
use Rattle.xl_core.specs.State.{MayBe}
use Rattle.xl_core.specs.Whole.{state_of}
use Rattle.xl_core.specs.declared.ask.Act.{Act}
use Rattle.xl_core.proofs.DoorLaws.{known_alone}
use Rattle.xl_core.proofs.AskCode.{decided_as, on_ok, parts_stores}
use Rattle.xl_core.proofs.StoreLaws.{hands_self, hands_same}
use Rattle.xl_core.proofs.decide.decided.Goals as goal

pub ask_for-requires-clause-known : goal.ask_for-requires-clause-known
ask_for-requires-clause-known g c = subst (λ (act : Act). IsKnown c.args.parts.now.queue c.args.known (state_of c.args.parts.now) (asked_claims c.args.request.now (asked_whats act) c.args.parts.now.names)) c.in-Share.is c.requires.known

pub ask_ranges-requires-clause-known : goal.ask_ranges-requires-clause-known
ask_ranges-requires-clause-known g c =
    subst (λ (rs : List (Extent × Bool)). IsKnown c.args.parts.now.queue c.args.known (state_of c.args.parts.now) (asked_claims c.args.request.now (map range_what rs) c.args.parts.now.names)) (sym c.as_slice.ensures)
    (subst (λ (act : Act). IsKnown c.args.parts.now.queue c.args.known (state_of c.args.parts.now) (asked_claims c.args.request.now (asked_whats act) c.args.parts.now.names)) c.in-Ranges.is c.requires.known)

pub unlock-requires-clause-party : goal.unlock-requires-clause-party
unlock-requires-clause-party g c = known_alone c.args.parts.now c.args.request.now c.in-Unlock.extent c.known_claim-claim-in-Unlock.result c.known_claim-claim-in-Unlock.ensures c.requires.good c.requires.fit.party

pub returns-in-Share-clause-answer : goal.returns-in-Share-clause-answer
returns-in-Share-clause-answer g c =
    let t = state_of c.ask_for.new.parts in
    λ n. subst (λ (x : Answered). IfOk c.ask_for.result (λ answer. MayBe n t → x ≡ (answer, [], t))) (sym (decided_as n c.args.left.now (state_of c.args.parts.now) c.args.request.now _ c.in-Share.is)) (c.ask_for.ensures.answer n)

pub returns-in-Ranges-clause-answer : goal.returns-in-Ranges-clause-answer
returns-in-Ranges-clause-answer g c =
    let s = state_of c.args.parts.now in
    let a = c.args.request.now in
    let t = state_of c.ask_ranges.new.parts in
    λ n. subst (λ (x : Answered). IfOk c.ask_ranges.result (λ answer. MayBe n t → x ≡ (answer, [], t)))
    (ap (λ (rs : List (Extent × Bool)). claims_asked n c.args.left.now s a (asked_claims a (map range_what rs) s.names)) c.as_slice.ensures ∙ sym (decided_as n c.args.left.now s a _ c.in-Ranges.is)) (c.ask_ranges.ensures.answer n)

pub returns-in-Test-clause-keeper : goal.returns-in-Test-clause-keeper
returns-in-Test-clause-keeper g c = on_ok c.test.result (hands_self (state_of c.args.parts.now) _)

pub returns-in-Unlock-clause-keeper : goal.returns-in-Unlock-clause-keeper
returns-in-Unlock-clause-keeper g c = on_ok c.unlock.result (hands_same (state_of c.args.parts.now) (state_of c.unlock.new.parts) _ (parts_stores c.args.parts.now c.unlock.new.parts c.unlock.ensures.stable c.unlock.ensures.failed c.unlock.ensures.given))

pub returns-in-Wish-clause-keeper : goal.returns-in-Wish-clause-keeper
returns-in-Wish-clause-keeper g c = on_ok c.wish_alone.result (hands_same (state_of c.args.parts.now) (state_of c.wish_alone.new.parts) _ (parts_stores c.args.parts.now c.wish_alone.new.parts c.wish_alone.ensures.stable c.wish_alone.ensures.failed c.wish_alone.ensures.given))
