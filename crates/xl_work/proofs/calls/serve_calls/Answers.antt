use Rattle.std.proofs.Common.{◌∙◌, arith}
use Rattle.xl_work.proofs.CallLaws.{cut_early, going_begins, going_looked, going_done, longer}
use Rattle.xl_work.proofs.calls.serve_calls.Goals as goal

pub turns-init : goal.turns-init
turns-init g c = record {
  desk = c.first-from.ensures.desk ∙ c.requires.desk;
  low = omega (arith, c.first-from.ensures.first);
  high = omega (arith, c.first-from.ensures.first);
  going = going_begins c.args.post (g.C.Caller.told c.args.caller) c.args.pass.now.view c.first-from.new.pass.view c.first-from.result c.first-from.ensures.looked c.first-from.ensures.first;
  most = omega arith;
  runs = λ _ some. absurd (omega arith);
  asked = λ _ _. omega arith;
}

pub turns-preserved-then-not-pass : goal.turns-preserved-then-not-pass
turns-preserved-then-not-pass g c =
    let looked = c.see.ensures.looked in
    let low = c.turns.invariant.low in
    let high = c.turns.invariant.high in
    let long = longer c.turns.pass.view.seen c.see.new.pass.view.seen looked.goes.seen in
    let base = looked.goes.first in record {
      desk = c.see.ensures.desk ∙ c.turns.invariant.desk;
      low = omega arith;
      high = omega arith;
      going = going_looked c.args.post (g.C.Caller.told c.args.caller) c.args.pass.now.view _ _ _ _ _ c.turns.invariant.going looked;
      most = (let so_far = c.turns.invariant.most in omega arith);
      runs = λ open_gate. absurd (cc (c.pass.ensures.open open_gate, c.if-not-pass.true));
      asked = λ open_gate. absurd (cc (c.pass.ensures.open open_gate, c.if-not-pass.true));
    }

pub returns-in-Err-clause-made : goal.returns-in-Err-clause-made
returns-in-Err-clause-made g c = c.in-Err.ensures.made (g.C.Caller.told c.args.caller) c.args.pass.now.view c.turns.invariant.going

pub returns-clause-made : goal.returns-clause-made
returns-clause-made g c = going_done c.args.post (g.C.Caller.told c.args.caller) c.args.pass.now.view _ _ _ _ c.turns.invariant.going

pub returns-in-Err-clause-runs : goal.returns-in-Err-clause-runs
returns-in-Err-clause-runs g c open_gate some n is = absurd (cut_early g.H.Serial.may_halt c.turn.new.pass.view c.in-Err.end n c.in-Err.ensures.cut is)
