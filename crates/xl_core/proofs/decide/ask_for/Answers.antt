use Rattle.xl_core.proofs.DoorLaws.{asked_alone, asked_grantable}
use Rattle.std.proofs.Common.{◌≡◌, IfOk, [], ◌∷◌, sym, subst}
use Rattle.xl_matrix.specs.declared.claim.Claim.{Claim}
use Rattle.xl_core.specs.InFront.{IsKnown}
use Rattle.xl_core.specs.Decide.{claims_asked}
use Rattle.xl_core.specs.State.{MayBe}
use Rattle.xl_core.specs.Whole.{state_of}
use Rattle.xl_core.proofs.decide.ask_for.Goals as goal

pub ask_claims-requires-clause-known : goal.ask_claims-requires-clause-known
ask_claims-requires-clause-known g c = subst (λ (x : Claim). IsKnown c.args.parts.now.queue c.args.known (state_of c.args.parts.now) (x ∷ [])) (sym c.asked_claim.ensures) c.requires.known

pub ask_claims-requires-clause-row : goal.ask_claims-requires-clause-row
ask_claims-requires-clause-row g c = asked_grantable c.args.parts.now c.args.ask.now c.args.what c.asked_claim.result c.asked_claim.ensures c.requires.client c.requires.own c.requires.real

pub ask_claims-requires-clause-party : goal.ask_claims-requires-clause-party
ask_claims-requires-clause-party g c = (asked_alone c.args.parts.now c.args.ask.now c.args.what c.asked_claim.result c.asked_claim.ensures c.requires.good c.requires.client, tt)

pub returns-clause-answer : goal.returns-clause-answer
returns-clause-answer g c =
    let s = state_of c.args.parts.now in
    let t = state_of c.ask_claims.new.parts in
    λ n. subst (λ (x : Claim). IfOk c.ask_claims.result (λ answer. MayBe n t → claims_asked n c.args.left.now s c.args.ask.now (x ∷ []) ≡ (answer, [], t))) c.asked_claim.ensures (c.ask_claims.ensures.answer n)
