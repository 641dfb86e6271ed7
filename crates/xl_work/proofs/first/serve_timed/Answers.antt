use Rattle.std.proofs.Common.{refl, sym, subst, ◌∙◌, ◌+◌, arith, ℕ}
use Rattle.xl_work.specs.Calls.{RoseBy}
use Rattle.xl_work.specs.Lives.{HasPlace, IsCaught, IsSettled}
use Rattle.xl_work.specs.Ticks.{IsTicking}
use Rattle.xl_work.specs.declared.first.Ticks.{Ticks}
use Rattle.xl_work.proofs.LifeLaws.{serving_done}
use Rattle.xl_work.proofs.CrewLaws.{once_more, rose_more}
use Rattle.xl_work.proofs.TickLaws.{ticking_begins, ticking_done}
use Rattle.xl_work.proofs.first.serve_timed.Goals as goal

pub turns-init : goal.turns-init
turns-init g c =
    let view = c.args.timed.now.worker.pass.view in
    let none = c.requires.idle.0 in record {
      desk = refl;
      own = refl;
      place = subst (HasPlace view) (sym none) tt;
      room = c.requires.room;
      settled = subst IsSettled (sym none) tt;
      caught = subst (IsCaught view) (sym none) tt;
      done = omega (arith, c.requires.idle.1);
      serving = λ told before s. s;
      asked = λ _ _. omega (arith, c.requires.idle.1);
      most = omega arith;
      lost = refl;
      runs = λ some. absurd (omega (arith, c.requires.idle.1));
      later = omega arith;
      ticking = subst (λ (z : Ticks × ℕ). IsTicking (g.G.Gate.is_open c.args.gate.now) z.0 z.1 (g.T.Clock.told c.args.clock.now) c.args.timed.now.pass.view (g.T.Clock.told c.args.clock.now) c.args.timed.now.pass.view) (λ i. (sym c.requires.idle.2 i, sym c.requires.idle.1 i)) (ticking_begins (g.T.Clock.told c.args.clock.now) c.args.timed.now.pass.view (g.G.Gate.is_open c.args.gate.now));
    }

pub returns-in-Err-clause-left : goal.returns-in-Err-clause-left
returns-in-Err-clause-left g c told before s = c.in-Err.ensures.left told before (c.turns.invariant.serving told before s)

pub returns-in-Err-clause-timed : goal.returns-in-Err-clause-timed
returns-in-Err-clause-timed g c =
    c.in-Err.ensures.timed c.turns.timed.worker.done (g.L.Lane.asked c.args.timed.now.worker.lane) (g.T.Clock.told c.args.clock.now) (g.T.Clock.told c.turns.clock) (g.T.Clock.told c.now-reading.new.self) c.args.timed.now.pass.view c.turns.invariant.ticking c.turns.invariant.asked c.now-reading.ensures.told

pub returns-clause-left : goal.returns-clause-left
returns-clause-left g c told before s = serving_done told before _ _ _ _ _ _ (c.turns.invariant.serving told before s) c.turns.invariant.place c.turns.invariant.settled c.turns.invariant.caught

pub turns-preserved : goal.turns-preserved
turns-preserved g c =
    let inv = c.turns.invariant in
    let e = c.in_default.ensures in
    let open_gate = g.G.Gate.is_open c.args.gate.now in
    let told = g.T.Clock.told c.args.clock.now in
    let before = c.args.timed.now.pass.view in record {
      desk = e.desk.0 ∙ inv.desk;
      own = e.desk.1 ∙ inv.own;
      place = e.place;
      room = e.room;
      settled = e.settled;
      caught = e.caught;
      done = e.done.1;
      serving = λ links since s. e.serving links since (inv.serving links since s);
      asked = λ is. subst (λ n. RoseBy n (g.L.Lane.asked c.args.timed.now.worker.lane) (g.L.Lane.asked c.timed_turn.new.timed.worker.lane)) (sym (e.passes is)) (rose_more c.turns.timed.worker.done (g.L.Lane.asked c.args.timed.now.worker.lane) (g.L.Lane.asked c.turns.timed.worker.lane) (g.L.Lane.asked c.timed_turn.new.timed.worker.lane) (inv.asked is) e.asked.asked);
      most = once_more c.turns.timed.worker.done c.timed_turn.new.timed.worker.done (g.L.Lane.asked c.args.timed.now.worker.lane) (g.L.Lane.asked c.turns.timed.worker.lane) (g.L.Lane.asked c.timed_turn.new.timed.worker.lane) inv.most e.once e.done.0;
      lost = e.asked.lost ∙ inv.lost;
      runs = λ _. e.runs;
      later = (let one = inv.later in let two = e.asked.later in omega arith);
      ticking = ticking_done told before open_gate c.timed_turn.new.timed.ticks (c.turns.timed.worker.done + 1) c.timed_turn.new.timed.worker.done (g.T.Clock.told c.now-reading.new.self) c.timed_turn.new.timed.pass.view
          (e.ticking open_gate c.turns.timed.worker.done told (g.T.Clock.told c.turns.clock) (g.T.Clock.told c.now-reading.new.self) before inv.ticking c.now-reading.ensures.told) (λ is. sym (e.passes is));
    }

pub returns-in-Err-clause-runs : goal.returns-in-Err-clause-runs
returns-in-Err-clause-runs g c open_gate some n is = absurd (cc (open_gate, c.in-Err.ensures.held n is))
