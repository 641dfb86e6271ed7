-- What is called for a turn.
use Rattle.std.proofs.Common.{◌≡◌, ℕ, Bool, if◌then◌else◌, true, false, inl, inr, List, [], ◌∷◌, ◌++◌, Some, None, IfSome, is_some, refl, sym, ap, subst, ◌∙◌}
use Rattle.std.proofs.lemmas.Bool.{cases_Bool, or_parts}
use Rattle.xl_core.specs.Blockers.{before_number}
use Rattle.xl_core.specs.Judge.{those_before}
use Rattle.xl_core.specs.declared.judge.Plea.{Plea}
use Rattle.xl_core.specs.declared.standings.Standing.{Standing}
use Rattle.xl_core.specs.declared.standings.Standing.TheVariants.{Timely, Stays}
use Rattle.std.proofs.lemmas.Option.{same_Some}
use Rattle.xl_base.specs.Stable.{Stable, is_kept, is_recordable}
use Rattle.xl_base.specs.declared.stable.Recorded.{Recorded}
use Rattle.xl_wait.specs.declared.waiter.Waiter.{Waiter}
use Rattle.xl_core.specs.State.{CoreState}
use Rattle.xl_core.specs.Good.{holds_up, is_held_up, of_first}
use Rattle.xl_core.specs.Settle.{plea_again, called_of, first_called}
use Rattle.xl_core.specs.Stores.{unrecorded}
use Rattle.xl_core.specs.declared.settling.Called.{Called}

-- while grace runs nobody is called
pub none_called : (s : CoreState) (earlier ws : List Waiter) → is_some s.grace ≡ true → first_called s earlier ws ≡ None
none_called s earlier [] runs = refl
none_called s earlier (w ∷ ws) runs = rw runs (none_called s (earlier ++ w ∷ []) ws runs)

-- the name that is to be recorded can be
pub unrecorded_new : (stores : Bool) (name : Recorded) (stable : Stable) → IfSome (unrecorded stores name stable) (λ x. is_recordable x ≡ true)
unrecorded_new false name stable = tt
unrecorded_new true name stable =
    elim (cases_Bool (is_recordable name)) [
      | inr out ↦ rw out tt
      | inl able ↦ elim (cases_Bool (is_kept name stable.names)) [
        | inl there ↦ rw (able, there) tt
        | inr apart ↦ rw (able, apart) able
      ]
    ]

pub called_new : (s : CoreState) (earlier ws : List Waiter) (called : Called) → first_called s earlier ws ≡ Some called → IfSome called.plea.unrecorded (λ x. is_recordable x ≡ true)
unfolding plea_again
called_new s earlier [] called e = absurd cc
called_new s earlier (w ∷ ws) called e =
    elim (cases_Bool (holds_up earlier s w w.asked)) [
      | inl up ↦ called_new s (earlier ++ w ∷ []) ws called (sym (rw up refl) ∙ e)
      | inr free ↦
          let same : called_of s w ≡ called = same_Some (called_of s w) called (sym (rw free refl) ∙ e) in
          subst (λ (x : Called). IfSome x.plea.unrecorded (λ y. is_recordable y ≡ true)) same (unrecorded_new w.monitored _ s.stable)
    ]

-- who is called stands so that those before it stay before it, as no grace runs
pub called_timely : (s : CoreState) (called : Called) (ws : List Waiter) → first_called s [] ws ≡ Some called → called.plea.standing ≡ Timely
unfolding plea_again
called_timely s called ws e = by [] ws e where
  alone : (earlier : List Waiter) (w : Waiter) → holds_up earlier s w w.asked ≡ false → (called_of s w).plea.standing ≡ Timely
  alone earlier w free = ap (λ (b : Bool). if b then Stays else Timely) (or_parts (is_some s.grace) (of_first (λ c. is_held_up earlier s w c) w.asked) free).0

  by : (earlier us : List Waiter) → first_called s earlier us ≡ Some called → called.plea.standing ≡ Timely
  by earlier [] f = absurd cc
  by earlier (w ∷ us) f =
      elim (cases_Bool (holds_up earlier s w w.asked)) [
        | inl up ↦ by (earlier ++ w ∷ []) us (sym (rw up refl) ∙ f)
        | inr free ↦ subst (λ (x : Called). x.plea.standing ≡ Timely) (same_Some (called_of s w) called (sym (rw free refl) ∙ f)) (alone earlier w free)
      ]

pub timely_front : (p : Plea) (id : ℕ) (ws vs : List Waiter) → p.standing ≡ Timely → vs ≡ ws → those_before p.standing (before_number id ws) ≡ before_number id vs
timely_front p id ws vs timely same = ap (λ (st : Standing). those_before st (before_number id ws)) timely ∙ ap (before_number id) (sym same)
