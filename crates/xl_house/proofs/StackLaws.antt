-- Frames go on to their ends, and then those below them.
use Rattle.std.proofs.Common.{◌≡◌, ℕ, zero, suc, ◌+◌, ◌≤◌, Bool, true, false, List, [], ◌∷◌, ◌++◌, refl, sym, ap, ◌∙◌, inl, inr, ◌⊎◌, arith, append_assoc}
use Rattle.xl_base.specs.declared.journal.Exports.{Exports}
use Rattle.xl_smb_frames.specs.Answers.{answered}
use Rattle.xl_smb_frames.specs.Steps.{next_step}
use Rattle.xl_smb_frames.specs.declared.frame.Frame.{Frame}
use Rattle.xl_smb_frames.specs.declared.steps.Step.{Step}
use Rattle.xl_smb_frames.specs.declared.steps.Step.TheVariants as steps
use Rattle.xl_house.specs.Done.{Round, done_round, rounds_for, step_round, top_round}
use Rattle.xl_house.specs.Machine.{Gone, Ground, advanced_by, after_part, gone_further, gone_on, part_done, part_heard, run, settled_in, steps_left}
use Rattle.xl_house.specs.Parted.{rounds_run}
use Rattle.xl_house.specs.Sifting.{is_smb, last_apart, message_or_none, on_top, popped, sifted}
use Rattle.xl_house.specs.State.{kind_of}
use Rattle.xl_house.specs.Telling.{settled}
use Rattle.xl_house.proofs.RunLaws.{either, further_less, none_further, run_none, run_steps}

-- ---- from one state to another

-- all frames go on from here with these rounds, and then as from there
pub record RunsTo (n : ℕ) (at : Ground) (g : Gone) (rs : List Round) (h : Gone) : Type 0 where
  pub goes : run n at g ≡ run n at h
  pub each : rounds_run n at g ≡ rs ++ rounds_run n at h

pub runs_on : (n : ℕ) (at : Ground) (g h j : Gone) (rs qs : List Round) → RunsTo n at g rs h → RunsTo n at h qs j → RunsTo n at g (rs ++ qs) j
runs_on n at g h j rs qs first later =
    record { goes = first.goes ∙ later.goes; each = first.each ∙ ap (λ (rest : List Round). rs ++ rest) later.each ∙ sym (append_assoc rs qs (rounds_run n at j)) }

none_rounds : (fuel n : ℕ) (at : Ground) (g : Gone) → g.0.stack ≡ [] → rounds_for fuel n at g ≡ []
none_rounds zero n at g e = refl
none_rounds (suc fuel) n at g e = (λ i. top_round n at g (popped (e i)).0 ++ rounds_for fuel n at (none_further n at g e i)) ∙ none_rounds fuel n at g e

pub no_rounds_run : (n : ℕ) (at : Ground) (g : Gone) → g.0.stack ≡ [] → rounds_run n at g ≡ []
no_rounds_run n at g e = none_rounds (steps_left g.0) n at g e

is_none_left : (g : Gone) (n : ℕ) (at : Ground) → steps_left g.0 ≤ 0 → (g.0.stack ≡ []) ⊎ (g.0.stack ≡ [] → ⊥) → g.0.stack ≡ []
is_none_left g n at none (inl e) = e
is_none_left g n at none (inr some) = absurd (omega (arith, none, further_less n at g some))

-- where as many steps may come as are left
same_rounds : (p q n : ℕ) (at : Ground) (g : Gone) → steps_left g.0 ≤ p → steps_left g.0 ≤ q → rounds_for p n at g ≡ rounds_for q n at g
same_rounds zero q n at g few enough = sym (none_rounds q n at g (is_none_left g n at few (either g.0.stack)))
same_rounds (suc p) zero n at g few enough = none_rounds (suc p) n at g (is_none_left g n at enough (either g.0.stack))
same_rounds (suc p) (suc q) n at g few enough =
    elim (either g.0.stack) [
      | inl e ↦ none_rounds (suc p) n at g e ∙ sym (none_rounds (suc q) n at g e)
      | inr some ↦ (let less = further_less n at g some in ap (λ (rs : List Round). top_round n at g (popped g.0.stack).0 ++ rs) (same_rounds p q n at (gone_further n at g) (omega (arith, less, few)) (omega (arith, less, enough))))
    ]

first_rounds : (k n : ℕ) (at : Ground) (g : Gone) → steps_left g.0 ≡ k → (g.0.stack ≡ [] → ⊥) → rounds_for k n at g ≡ top_round n at g (popped g.0.stack).0 ++ rounds_run n at (gone_further n at g)
first_rounds zero n at g left some = absurd (omega (arith, left, further_less n at g some))
first_rounds (suc k) n at g left some =
    ap (λ (rs : List Round). top_round n at g (popped g.0.stack).0 ++ rs) (same_rounds k (steps_left (gone_further n at g).0) n at (gone_further n at g) (omega (arith, left, further_less n at g some)) (omega arith))

-- a step that comes to this
pub one_step : (n : ℕ) (at : Ground) (g h : Gone) (rs : List Round) → (g.0.stack ≡ [] → ⊥) → gone_further n at g ≡ h → top_round n at g (popped g.0.stack).0 ≡ rs → RunsTo n at g rs h
one_step n at g h rs some goes does =
    record {
      goes = run_steps n at g some ∙ ap (λ (x : Gone). run n at x) goes;
      each = first_rounds (steps_left g.0) n at g refl some ∙ (λ i. does i ++ rounds_run n at (goes i));
    }

-- ---- frames above others

-- these frames go on from here
abbrev pub with_frames : List Frame → Gone → Gone
with_frames fs g = (record { paused = g.0.paused; stack = fs; outs = g.0.outs }, g.1, g.2)

-- these stand below those that go on
abbrev pub below : List Frame → Gone → Gone
below fs g = with_frames (g.0.stack ++ fs) g

on_top_append : (xs ys zs : List Frame) → on_top xs (ys ++ zs) ≡ on_top xs ys ++ zs
on_top_append [] ys zs = refl
on_top_append (x ∷ xs) ys zs = on_top_append xs (x ∷ ys) zs

-- settling puts frames on top
pub settled_below : (n : ℕ) (exports : Exports) (g : Gone) (fs : List Frame) → settled_in n exports (below fs g) ≡ below fs (settled_in n exports g)
settled_below n exports g fs =
    let v = sifted false g.0.paused (settled n exports g.1 g.2).0 in
    ap (λ (stack : List Frame). with_frames stack (settled_in n exports g)) (on_top_append v.woken g.0.stack fs)

part_above : (n : ℕ) (at : Ground) (g : Gone) (gs : List Frame) (f : Frame) (message : List ℕ) (smb : Bool) (fs : List Frame) → part_done n at (with_frames (gs ++ fs) g) f message smb ≡ below fs (part_done n at (with_frames gs g) f message smb)
part_above n at g gs f message true fs =
    let h = part_heard n at g.1 g.2 f.conn message in
    let w = sifted true g.0.paused (last_apart h.0).0 in
    let a = answered f (message_or_none (last_apart h.0).1) in
    let mid : Gone = after_part (record g.0 { stack = gs }) f h in
    ap (λ (stack : List Frame). settled_in n at.0 (with_frames stack mid)) (sym (append_assoc w.woken (a.0 ∷ gs) fs)) ∙ settled_below n at.0 mid fs
part_above n at g gs f message false fs = refl

step_above : (n : ℕ) (at : Ground) (g : Gone) (gs : List Frame) (f : Frame) (next : Step) (fs : List Frame) → gone_on n at (with_frames (gs ++ fs) g) f next ≡ below fs (gone_on n at (with_frames gs g) f next)
step_above n at g gs f steps.Ends fs = refl
step_above n at g gs f (steps.Replied reply) fs = refl
step_above n at g gs f (steps.Asked message) fs = part_above n at g gs f message (is_smb (kind_of at.1 f.conn)) fs

-- a step of the topmost leaves those below
further_above : (n : ℕ) (at : Ground) (g : Gone) (fs : List Frame) → (g.0.stack ≡ [] → ⊥) → gone_further n at (below fs g) ≡ below fs (gone_further n at g)
unfolding gone_further
further_above n at g fs some = by g.0.stack refl where
  by : (stack : List Frame) → g.0.stack ≡ stack → advanced_by n at (below fs g) (popped (stack ++ fs)) ≡ below fs (advanced_by n at g (popped stack))
  by [] e = absurd (some e)
  by (f ∷ gs) e = step_above n at g gs f (next_step f) fs

done_above : (n : ℕ) (at : Ground) (g : Gone) (conn : ℕ) (message : List ℕ) (smb : Bool) (fs : List Frame) → done_round n at (below fs g) conn message smb ≡ done_round n at g conn message smb
done_above n at g conn message true fs = refl
done_above n at g conn message false fs = refl

round_above : (n : ℕ) (at : Ground) (g : Gone) (f : Frame) (next : Step) (fs : List Frame) → step_round n at (below fs g) f next ≡ step_round n at g f next
round_above n at g f steps.Ends fs = refl
round_above n at g f (steps.Replied reply) fs = refl
round_above n at g f (steps.Asked message) fs = done_above n at g f.conn message (is_smb (kind_of at.1 f.conn)) fs

top_above : (n : ℕ) (at : Ground) (g : Gone) (fs stack : List Frame) → (stack ≡ [] → ⊥) → top_round n at (below fs g) (popped (stack ++ fs)).0 ≡ top_round n at g (popped stack).0
top_above n at g fs [] some = absurd (some refl)
top_above n at g fs (f ∷ gs) some = round_above n at g f (next_step f) fs

some_above : (stack fs : List Frame) → (stack ≡ [] → ⊥) → stack ++ fs ≡ [] → ⊥
some_above [] fs some e = absurd (some refl)
some_above (f ∷ gs) fs some e = cc

-- where none goes on above them
none_above : (n : ℕ) (at : Ground) (g : Gone) (fs : List Frame) → g.0.stack ≡ [] → RunsTo n at (below fs g) (rounds_run n at g) (with_frames fs (run n at g))
none_above n at g fs e =
    let same : below fs g ≡ with_frames fs (run n at g) = ap (λ (stack : List Frame). with_frames (stack ++ fs) g) e ∙ ap (λ (h : Gone). with_frames fs h) (sym (run_none n at g e)) in
    record {
      goes = ap (λ (h : Gone). run n at h) same;
      each = ap (λ (h : Gone). rounds_run n at h) same ∙ ap (λ (rs : List Round). rs ++ rounds_run n at (with_frames fs (run n at g))) (sym (no_rounds_run n at g e));
    }

next_above : (n : ℕ) (at : Ground) (g : Gone) (fs : List Frame) → (g.0.stack ≡ [] → ⊥)
    → (let h = gone_further n at g in RunsTo n at (below fs h) (rounds_run n at h) (with_frames fs (run n at h)) → RunsTo n at (below fs g) (rounds_run n at g) (with_frames fs (run n at g)))
next_above n at g fs some later =
    let h = gone_further n at g in
    let top = top_round n at g (popped g.0.stack).0 in
    let both = runs_on n at (below fs g) (below fs h) (with_frames fs (run n at h)) top (rounds_run n at h) (one_step n at (below fs g) (below fs h) top (some_above g.0.stack fs some) (further_above n at g fs some) (top_above n at g fs g.0.stack some)) later in
    let here : RunsTo n at g top h = one_step n at g h top some refl refl in
    record {
      goes = both.goes ∙ ap (λ (x : Gone). run n at (with_frames fs x)) (sym here.goes);
      each = both.each ∙ (λ i. sym here.each i ++ rounds_run n at (with_frames fs (sym here.goes i)));
    }

above_for : (k n : ℕ) (at : Ground) (g : Gone) (fs : List Frame) → steps_left g.0 ≤ k → RunsTo n at (below fs g) (rounds_run n at g) (with_frames fs (run n at g))
above_for zero n at g fs few = none_above n at g fs (is_none_left g n at few (either g.0.stack))
above_for (suc k) n at g fs few =
    elim (either g.0.stack) [
      | inl e ↦ none_above n at g fs e
      | inr some ↦ next_above n at g fs some (above_for k n at (gone_further n at g) fs (omega (arith, few, further_less n at g some)))
    ]

-- frames go on to their ends, and then those below them
pub above : (n : ℕ) (at : Ground) (g : Gone) (fs : List Frame) → RunsTo n at (below fs g) (rounds_run n at g) (with_frames fs (run n at g))
above n at g fs = above_for (steps_left g.0) n at g fs (omega arith)
