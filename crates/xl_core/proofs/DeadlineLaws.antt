-- Breaks that nobody answers are over at their deadline, shown on the smallest.
use Rattle.std.proofs.Common.{◌≡◌, ◌<◌, nat_lt, ℕ, true, false, inl, inr, [], ◌∷◌, refl, ◌∙◌}
use Rattle.std.proofs.lemmas.Bool.{cases_Bool, lt-ltb}
use Rattle.xl_base.specs.Stable.{Stable, is_recorded}
use Rattle.xl_matrix.specs.Equal.{same_what, same_claims}
use Rattle.xl_core.specs.BreakAnswers.{due}
use Rattle.xl_core.specs.Leases.{without_lease, ended}
use Rattle.xl_core.specs.Settle.{waits_for, told_with, end_party}
use Rattle.xl_core.specs.Smallest.{broken_oplock, its_share, broken_delegation, with_claims}
use Rattle.xl_core.specs.State.{CoreState}
use Rattle.xl_core.specs.Stores.{stored, store_failed, client_name}
use Rattle.xl_core.specs.Ticks.{advanced, barred, gone_client, expire, try_expire, lapse_all, expire_all, lapse, try_lapse, try_end_grace, tick}
use Rattle.xl_core.specs.declared.ask.Effect.TheVariants.{Expired}
use Rattle.xl_core.specs.declared.lease.Times.{Times}
use Rattle.xl_core.proofs.AsideLaws.{of_end}

-- the end of grace takes no claim
end_claims : (n : ℕ) (s : CoreState) → (try_end_grace n s).claims ≡ s.claims
end_claims n s = of_end n (λ t. t.claims ≡ s.claims) s (λ x. refl)

pub oplock_stands : (n : ℕ) (stable : Stable) (times : Times) → (tick n (with_claims stable times (broken_oplock ∷ [])) (record { 0 = 6 })).1.claims ≡ broken_oplock ∷ []
unfolding tick advanced lapse_all due expire_all ended
oplock_stands n stable times = end_claims n _ ∙ refl

pub oplock_goes : (n : ℕ) (stable : Stable) (times : Times) → (tick n (with_claims stable times (broken_oplock ∷ [])) (record { 0 = 7 })).1.claims ≡ []
unfolding tick advanced lapse_all due lapse try_lapse same_claims same_what expire_all ended
oplock_goes n stable times = end_claims n _ ∙ refl

pub client_stands : (n : ℕ) (stable : Stable) (times : Times) → (tick n (with_claims stable times (broken_delegation ∷ its_share ∷ [])) (record { 0 = 6 })).1.claims ≡ broken_delegation ∷ its_share ∷ []
unfolding tick advanced lapse_all due expire_all ended
client_stands n stable times = end_claims n _ ∙ refl

pub stranger_goes : (n : ℕ) (stable : Stable) (times : Times) → is_recorded (client_name []) stable.names ≡ false → (let r = tick n (with_claims stable times (broken_delegation ∷ its_share ∷ [])) (record { 0 = 7 }) in (r.1.claims ≡ []) × (r.0 ≡ Expired [] ∷ []))
unfolding tick advanced lapse_all due lapse try_lapse same_claims same_what try_expire expire gone_client barred end_party told_with waits_for without_lease expire_all ended
stranger_goes n stable times un = (end_claims n _ ∙ rw un refl, rw un refl)

-- a client that is recorded goes with the store that it wants
recorded_goes : (n : ℕ) (stable : Stable) (times : Times) → nat_lt 0 n ≡ true → is_recorded (client_name []) stable.names ≡ true → (let r = tick n (with_claims stable times (broken_delegation ∷ its_share ∷ [])) (record { 0 = 7 }) in (r.1.claims ≡ []) × (r.0 ≡ Expired [] ∷ []))
unfolding tick advanced lapse_all due lapse try_lapse same_claims same_what try_expire expire gone_client barred stored end_party told_with waits_for without_lease expire_all ended
recorded_goes n stable times some there = (end_claims n _ ∙ rw (there, some) refl, rw (there, some) refl)

pub client_goes : (n : ℕ) (stable : Stable) (times : Times) → 0 < n → (let r = tick n (with_claims stable times (broken_delegation ∷ its_share ∷ [])) (record { 0 = 7 }) in (r.1.claims ≡ []) × (r.0 ≡ Expired [] ∷ []))
client_goes n stable times some =
    elim (cases_Bool (is_recorded (client_name []) stable.names)) [
      | inr un ↦ stranger_goes n stable times un
      | inl there ↦ recorded_goes n stable times (lt-ltb 0 n some) there
    ]

pub client_stays : (stable : Stable) (times : Times) → is_recorded (client_name []) stable.names ≡ true → (let r = tick 0 (with_claims stable times (broken_delegation ∷ its_share ∷ [])) (record { 0 = 7 }) in (r.1.claims ≡ broken_delegation ∷ its_share ∷ []) × (r.0 ≡ []))
unfolding tick advanced lapse_all due lapse try_lapse same_claims same_what try_expire store_failed expire_all ended
client_stays stable times there = (end_claims 0 _ ∙ rw there refl, rw there refl)
