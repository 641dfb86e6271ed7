-- Lease states and kinds.
use Rattle.std.proofs.Common.{◌≡◌, ℕ, true, false, ◌==◌, Some, None, refl, sym, ap, inl, inr, ◌∙◌}
use Rattle.std.proofs.lemmas.Bool.{cases_Bool, both_ways, eqb-true}
use Rattle.xl_matrix.specs.declared.claim.CacheKind.{CacheKind}
use Rattle.xl_matrix.specs.declared.claim.CacheKind.TheVariants.{R, RH, RW, RWH, ReadDeleg, WriteDeleg}
use Rattle.xl_cache.specs.Targets.{is_delegation}
use Rattle.xl_cache.specs.Levels.{state_of, kind_of_state}

pub kind_of_state-state_of : (kind : CacheKind) → is_delegation kind ≡ false → kind_of_state (state_of (Some kind)) ≡ Some kind
unfolding kind_of_state
kind_of_state-state_of R other = refl
kind_of_state-state_of RH other = refl
kind_of_state-state_of RW other = refl
kind_of_state-state_of RWH other = refl
kind_of_state-state_of ReadDeleg other = absurd (both_ways true other refl)
kind_of_state-state_of WriteDeleg other = absurd (both_ways true other refl)

some_state : (kind other : CacheKind) (state number : ℕ) → (state == number) ≡ true → state_of (Some other) ≡ number → Some other ≡ Some kind → state_of (Some kind) ≡ state
some_state kind other state number at is same = sym (ap state_of same) ∙ is ∙ sym (eqb-true state number at)

pub state_of-kind_of_state : (state : ℕ) (kind : CacheKind) → kind_of_state state ≡ Some kind → state_of (Some kind) ≡ state
unfolding kind_of_state
state_of-kind_of_state state kind h =
    elim (cases_Bool (state == 1)) [
      | inl one ↦ some_state kind R state 1 one refl (rw one at h)
      | inr e1 ↦ elim (cases_Bool (state == 3)) [
        | inl three ↦ some_state kind RH state 3 three refl (rw (e1, three) at h)
        | inr e3 ↦ elim (cases_Bool (state == 5)) [
          | inl five ↦ some_state kind RW state 5 five refl (rw (e1, e3, five) at h)
          | inr e5 ↦ elim (cases_Bool (state == 7)) [
            | inl seven ↦ some_state kind RWH state 7 seven refl (rw (e1, e3, e5, seven) at h)
            | inr e7 ↦ let none : None ≡ Some kind = rw (e1, e3, e5, e7) at h in absurd cc
          ]
        ]
      ]
    ]
