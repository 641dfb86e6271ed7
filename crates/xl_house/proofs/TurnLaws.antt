-- What holds of turns in a row, where each turn brings it in front of those behind it.
use Rattle.std.proofs.Common.{◌≡◌, ℕ, zero, suc, Option, Some, None, List, [], ◌∷◌, refl}
use Rattle.xl_base.specs.declared.journal.Exports.{Exports}
use Rattle.xl_core.specs.Settle.{settle, turns_left}
use Rattle.xl_core.specs.State.{CoreState}
use Rattle.xl_core.specs.declared.ask.Effect.{Effect}
use Rattle.xl_house.specs.State.{rooms_of}
use Rattle.xl_house.specs.Telling.{TurnTaken, all_shown, taken, turn_and_rest, turns}
use Rattle.xl_house.specs.declared.layers.Fronts.{Fronts}

-- P speaks of the fronts and the core that turns begin from, and of the turns
module _ (n : ℕ) (exports : Exports) (P : Fronts → CoreState → List TurnTaken → Type 0) (none : (f : Fronts) (s : CoreState) → P f s [])
    (more : (fuel : ℕ) (f : Fronts) (s t : CoreState) (told : List Effect) → settle n (rooms_of f) s ≡ Some (told, t)
    → (let r = all_shown exports f t told in P r.1 r.2 (taken fuel n exports r.1 r.2) → P f s (record { front = f; told = told; left = t } ∷ taken fuel n exports r.1 r.2))) where
  by_turn : (fuel : ℕ) (f : Fronts) (s : CoreState) (o : Option (List Effect × CoreState)) → settle n (rooms_of f) s ≡ o → ((g : Fronts) (t : CoreState) → P g t (taken fuel n exports g t)) → P f s (turn_and_rest exports (taken fuel n exports) f o)
  by_turn fuel f s None e rest = none f s
  by_turn fuel f s (Some turn) e rest = let r = all_shown exports f turn.1 turn.0 in more fuel f s turn.1 turn.0 e (rest r.1 r.2)

  -- so it holds of as many as may come
  pub of_taken : (fuel : ℕ) (f : Fronts) (s : CoreState) → P f s (taken fuel n exports f s)
  of_taken zero f s = none f s
  of_taken (suc fuel) f s = by_turn fuel f s (settle n (rooms_of f) s) refl (λ g t. of_taken fuel g t)

  -- and of all
  pub of_turns : (f : Fronts) (s : CoreState) → P f s (turns n exports f s)
  unfolding turns
  of_turns f s = of_taken (turns_left s) f s
