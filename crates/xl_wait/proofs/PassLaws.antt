-- Those who wait, while some of them are taken out in one pass.
use Rattle.std.proofs.Common.{◌≡◌, ℕ, ◌<◌, ◌≤◌, ◌==◌, List, [], ◌∷◌, length, slice_index_or, refl, sym, ap, ◌∙◌, inl, inr, arith}
use Rattle.std.proofs.lemmas.Bool.{cases_Bool}
use Rattle.xl_wait.specs.Waiting.{cancelled, without_all}
use Rattle.xl_wait.specs.declared.waiter.Waiter.{Waiter}

none_out : (ws : List Waiter) → without_all [] ws ≡ ws
none_out [] = refl
none_out (w ∷ ws) = ap (λ (vs : List Waiter). w ∷ vs) (none_out ws)

one_out : (id : ℕ) (ws : List Waiter) → without_all (id ∷ []) ws ≡ cancelled id ws
one_out id [] = refl
one_out id (w ∷ ws) =
    elim (cases_Bool (w.id == id)) [
      | inl e ↦ rw e (none_out ws)
      | inr e ↦ rw e (ap (λ (vs : List Waiter). w ∷ vs) (one_out id ws))
    ]

-- none is listed, or one alone
pub none_go : (ids : List ℕ) (ws : List Waiter) → length ids < 1 → ws ≡ without_all ids ws
none_go [] ws short = sym (none_out ws)
none_go (id ∷ ids) ws short = absurd (omega (arith, short))

pub one_goes : (ids : List ℕ) (old new : List Waiter) → 1 ≤ length ids → length ids < 2 → new ≡ cancelled (slice_index_or ids 0 0) old → new ≡ without_all ids old
one_goes [] old new some few left = absurd (omega (arith, some))
one_goes (id ∷ []) old new some few left = left ∙ sym (one_out id old)
one_goes (id ∷ other ∷ ids) old new some few left = absurd (omega (arith, few))
