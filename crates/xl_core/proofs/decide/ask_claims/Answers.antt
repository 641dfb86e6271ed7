use Rattle.xl_core.specs.Whole.{state_of}
use Rattle.xl_core.proofs.AskCode.{front_line, front_stands, known_of_plea, plea_new, got_state, got_stores, claims_got, on_behind, hands_behind}
use Rattle.xl_core.proofs.DoorLaws.{head_rest}
use Rattle.xl_core.proofs.decide.ask_claims.Goals as goal

pub judge_all-requires-clause-new : goal.judge_all-requires-clause-new
judge_all-requires-clause-new g c = plea_new c.args.left.now (state_of c.args.parts.now) c.args.ask.now c.in_ok-plea.plea c.in_ok-plea.ensures.plea

pub returns-in-Gets-clause-answer : goal.returns-in-Gets-clause-answer
returns-in-Gets-clause-answer g c =
    let a = c.args.ask.now in
    let s = state_of c.args.parts.now in
    let t = state_of c.judge_all.new.parts in
    λ n may. claims_got n c.args.left.now s t _ a c.in_ok-plea.plea c.args.claims.now _ _ c.in_ok-judge_all.field-0 (head_rest c.args.claims.now _ c.in-len1-up.len_at_least)
    c.in_ok-plea.ensures.plea (c.in_ok-judge_all.ensures.judged n s.waiters (front_stands c.in_ok-plea.plea c.front_by-front.result s.waiters c.front_by-front.ensures)) c.in-Gets.is (got_state a t c.note_back.new.parts c.enter_both.new.names c.in_ok-note_back-in-Gets.ensures c.in_ok-enter_both-in-Gets.ensures) may

pub returns-in-Gets-clause-on : goal.returns-in-Gets-clause-on
returns-in-Gets-clause-on g c =
    let t = state_of c.judge_all.new.parts in
    on_behind (state_of c.args.parts.now) t _ c.in_ok-judge_all.ensures.on (got_stores c.args.ask.now t _ (got_state c.args.ask.now t c.note_back.new.parts c.enter_both.new.names c.in_ok-note_back-in-Gets.ensures c.in_ok-enter_both-in-Gets.ensures))

pub returns-in-Gets-clause-keeper : goal.returns-in-Gets-clause-keeper
returns-in-Gets-clause-keeper g c =
    let t = state_of c.judge_all.new.parts in
    hands_behind (state_of c.args.parts.now) t _ _ _ c.in_ok-judge_all.ensures.on c.in_ok-judge_all.ensures.keeper (got_stores c.args.ask.now t _ (got_state c.args.ask.now t c.note_back.new.parts c.enter_both.new.names c.in_ok-note_back-in-Gets.ensures c.in_ok-enter_both-in-Gets.ensures))

pub judge_all-requires-clause-line : goal.judge_all-requires-clause-line
judge_all-requires-clause-line g c = front_line c.in_ok-plea.plea c.front_by-front.result c.args.parts.now.queue c.args.claims.now c.front_by-front.ensures

pub judge_all-requires-clause-known : goal.judge_all-requires-clause-known
judge_all-requires-clause-known g c = known_of_plea c.args.left.now (state_of c.args.parts.now) c.args.ask.now c.in_ok-plea.plea c.front_by-front.result c.args.known c.args.claims.now c.in_ok-plea.ensures.plea c.front_by-front.ensures c.requires.known c.requires.back
