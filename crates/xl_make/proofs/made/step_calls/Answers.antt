use Rattle.std.proofs.Common.{◌≡◌, ◌++◌, ◌∙◌, ap, arith, length, subst, [], ◌∷◌}
use Rattle.std.proofs.lemmas.List.{length-append}
use Rattle.xl_base.specs.declared.journal.Head.{Head}
use Rattle.xl_capture.specs.Capture.{all_stores}
use Rattle.xl_house.specs.Journals.{entry, replay}
use Rattle.xl_house.specs.Machine.{step}
use Rattle.xl_house.specs.State.{start_of}
use Rattle.xl_make.proofs.MadeLaws.{call_stepped, drawn_event, none_left}
use Rattle.xl_make.proofs.made.step_calls.Goals as goal

pub calls-preserved : goal.calls-preserved
calls-preserved c =
    let first = c.args.house.now.head in
    let old = c.calls.house in
    let new = c.step_surely.new.house in
    let event = c.in-Ok.event in
    let same = c.calls.invariant.head in
    let ok = c.in_default-step_surely.ensures.ok in
    let entered : new.entries ≡ old.entries ++ entry all_stores (replay (start_of first) old.entries) event ∷ [] = subst (λ (h : Head). new.entries ≡ old.entries ++ entry all_stores (replay (start_of h) old.entries) event ∷ []) same ok.0 in
    let next : replay (start_of first) new.entries ≡ (step all_stores (replay (start_of first) old.entries) event).next = subst (λ (h : Head). replay (start_of h) new.entries ≡ (step all_stores (replay (start_of h) old.entries) event).next) same ok.1 in
    record {
      goes = c.in_default-step_surely.ensures.goes;
      head = c.step_surely.ensures.head ∙ same;
      seed = c.draw-last.ensures.fit;
      at = omega (arith, ap length entered, length-append old.entries (entry all_stores (replay (start_of first) old.entries) event ∷ []), c.calls.invariant.at);
      left = omega (arith, c.calls.invariant.left, c.calls-test.true);
      entries = call_stepped (replay (start_of first) old.entries) (replay (start_of first) new.entries) old.entries new.entries c.calls.x c.draw-last.result.1 c.calls.number c.calls.left event _ entered next
          (c.in-Ok.ensures ∙ drawn_event c.calls.x c.calls.number c.draw-last.result.0 c.draw-last.ensures.draws) c.draw-last.ensures.last (omega (arith, c.calls-test.true)) c.calls.invariant.entries;
    }

pub returns-clause-ok : goal.returns-clause-ok
returns-clause-ok c = none_left (replay (start_of c.args.house.now.head) c.calls.house.entries) c.calls.house.entries c.calls.x c.calls.number c.calls.left _ (omega (arith, c.calls-test.false)) c.calls.invariant.entries
