-- The stores that a reading of the clock makes, of which n succeed: the first n go, and behind one that failed none is tried.
use Rattle.std.proofs.Common.{◌≡◌, ℕ, Bool, true, false, not, ◌&&◌, ◌||◌, inl, inr, List, [], ◌∷◌, Option, Some, None, refl, sym, ap, subst, ◌∙◌, arith}
use Rattle.std.specs.Prelude.{nat_lt}
use Rattle.std.proofs.lemmas.Bool.{cases_Bool, both_ways, and_parts, or_parts}
use Rattle.std.proofs.lemmas.Bool.Decides.{nat_tests}
use Rattle.xl_base.specs.Stable.{Stable, is_recorded}
use Rattle.xl_base.specs.declared.event.Moment.{Moment}
use Rattle.xl_matrix.specs.declared.claim.Claim.{Claim}
use Rattle.xl_grace.specs.Grace.{is_over, shortened}
use Rattle.xl_core.specs.State.{CoreState, MayBe, GoesOn}
use Rattle.xl_core.specs.BreakAnswers.{due, client_of}
use Rattle.xl_core.specs.Leases.{ended}
use Rattle.xl_core.specs.Stores.{may_store, stored, store_failed, client_name, without_name}
use Rattle.xl_core.specs.Ticks.{advanced, gone_client, forgotten, expire, may_expire, try_expire, in_turn, is_still_held, is_lease_over, lapsed_by, try_lapsed_by, try_lapse, lapse_all, expire_all, end_grace, try_end_grace, tick}
use Rattle.xl_core.specs.declared.ask.Effect.{Effect}
use Rattle.xl_core.proofs.AsideLaws.{failed_already, failed_first}
use Rattle.xl_core.proofs.StoreLaws.{SameStores, goes_on_same, goes_on_self, goes_on_then}
use Rattle.xl_core.proofs.TickCode.{gone_stores, advanced_stores}

-- what is tried with n stores that succeed
record IsTried (n : ℕ) (s t : CoreState) : Type 0 where
  on : GoesOn s t
  may : MayBe n s → MayBe n t
  none : s.failed ≡ true → t.given ≡ s.given

tried_same : (n : ℕ) (s t : CoreState) → SameStores s t → IsTried n s t
tried_same n s t same = record {
  on = goes_on_same s t same;
  may = λ may. record { enough = omega (arith, same.made, may.enough); spent = λ f. same.made ∙ may.spent (sym same.failed ∙ f) };
  none = λ f. same.given;
}

tried_self : (n : ℕ) (s : CoreState) → IsTried n s s
tried_self n s = record { on = goes_on_self s; may = λ may. may; none = λ f. refl }

tried_then : (n : ℕ) (s t u : CoreState) → IsTried n s t → IsTried n t u → IsTried n s u
tried_then n s t u first next = record {
  on = goes_on_then s t u first.on next.on;
  may = λ may. next.may (first.may may);
  none = λ f. next.none (first.on.failed f).0 ∙ first.none f;
}

-- ---- a store

not_true : (b : Bool) → not b ≡ true → b ≡ false
not_true true e = absurd (both_ways false refl e)
not_true false e = refl

tried_store : (n : ℕ) (s : CoreState) (stable : Stable) → may_store n s ≡ true → IsTried n s (stored stable s)
unfolding stored
tried_store n s stable fits = record {
  on = record { made = omega arith; failed = λ f. absurd (both_ways s.failed runs f); more = stable ∷ []; given = refl };
  may = λ may. record { enough = grind (arith, nat_tests, parts.1); spent = λ f. absurd (both_ways s.failed runs f) };
  none = λ f. absurd (both_ways s.failed runs f);
} where
  parts : (not s.failed ≡ true) × (nat_lt s.made n ≡ true)
  parts = and_parts (not s.failed) (nat_lt s.made n) fits

  runs : s.failed ≡ false
  runs = not_true s.failed parts.0

-- the first store that fails comes behind n that were made
all_made : (n : ℕ) (s : CoreState) → may_store n s ≡ false → s.failed ≡ false → MayBe n s → s.made ≡ n
all_made n s out runs may =
    let none : nat_lt s.made n ≡ false = sym (ap (λ (b : Bool). not b && nat_lt s.made n) runs) ∙ out in grind (arith, nat_tests, none, may.enough)

tried_failed : (n : ℕ) (s : CoreState) (stable : Stable) → may_store n s ≡ false → IsTried n s (store_failed stable s)
tried_failed n s stable out =
    elim (cases_Bool s.failed) [
      | inl before ↦ subst (λ (t : CoreState). IsTried n s t) (sym (failed_already stable s before)) (tried_self n s)
      | inr runs ↦ subst (λ (t : CoreState). IsTried n s t) (sym (failed_first stable s runs)) (record {
        on = record { made = omega arith; failed = λ f. absurd (both_ways s.failed runs f); more = stable ∷ []; given = refl };
        may = λ may. record { enough = may.enough; spent = λ f. all_made n s out runs may };
        none = λ f. absurd (both_ways s.failed runs f);
      })
    ]

-- ---- an expiry

tried_forgotten : (n : ℕ) (s : CoreState) (client : List ℕ) → may_expire n s client ≡ true → IsTried n s (forgotten s client)
tried_forgotten n s client may =
    elim (cases_Bool (is_recorded (client_name client) s.stable.names)) [
      | inl has ↦ rw has (tried_store n s (without_name (client_name client) s.stable) (sym (ap (λ (b : Bool). not b || may_store n s) has) ∙ may))
      | inr lacks ↦ rw lacks (tried_self n s)
    ]

tried_expire : (n : ℕ) (s : CoreState) (client : List ℕ) → IsTried n s (try_expire n s client).1
unfolding try_expire expire
tried_expire n s client =
    elim (cases_Bool (may_expire n s client)) [
      | inl may ↦ let t = forgotten s client in rw may (tried_then n s t (gone_client t client).1 (tried_forgotten n s client may) (tried_same n t (gone_client t client).1 (gone_stores t client)))
      | inr out ↦ rw out (tried_failed n s (without_name (client_name client) s.stable) (or_parts (not (is_recorded (client_name client) s.stable.names)) (may_store n s) out).1)
    ]

tried_lapse : (n : ℕ) (s : CoreState) (cache : Claim) → IsTried n s (try_lapse n s cache).1
unfolding try_lapse
tried_lapse n s cache = by (client_of s.names cache.party) where
  by : (o : Option (List ℕ)) → IsTried n s (try_lapsed_by n s cache o).1
  by None = tried_same n s (lapsed_by s cache None).1 (record { stable = refl; made = refl; failed = refl; given = refl })
  by (Some client) = tried_expire n s client

-- ---- a reading

tried_turns : {A : Type 0} (n : ℕ) (is_left : CoreState → A → Bool) (does : CoreState → A → List Effect × CoreState) → ((s : CoreState) (x : A) → IsTried n s (does s x).1) → (xs : List A) (s : CoreState) → IsTried n s (in_turn is_left does xs s).1
tried_turns n is_left does each [] s = tried_self n s
tried_turns n is_left does each (x ∷ xs) s =
    elim (cases_Bool (is_left s x)) [
      | inl e ↦ let t = (does s x).1 in rw e (tried_then n s t (in_turn is_left does xs t).1 (each s x) (tried_turns n is_left does each xs t))
      | inr e ↦ rw e (tried_turns n is_left does each xs s)
    ]

tried_end : (n : ℕ) (s : CoreState) → IsTried n s (try_end_grace n s)
unfolding try_end_grace end_grace
tried_end n s =
    elim (cases_Bool (is_over s.grace s.clock)) [
      | inr runs ↦ rw runs (tried_self n s)
      | inl over ↦ elim (cases_Bool (may_store n s)) [
        | inl may ↦
            let stable = shortened s.grace s.stable in
            let t = stored stable s in
            rw (over, may) (tried_then n s t (record t { grace = None }) (tried_store n s stable may) (tried_same n t (record t { grace = None }) (record { stable = refl; made = refl; failed = refl; given = refl })))
        | inr none ↦ rw (over, none) (tried_failed n s (shortened s.grace s.stable) none)
      ]
    ]

tick_tried : (n : ℕ) (s : CoreState) (now : Moment) → IsTried n s (tick n s now).1
unfolding tick lapse_all expire_all
tick_tried n s now =
    let t = advanced s now in
    let u = (lapse_all n t).1 in
    let v = (expire_all n u).1 in
    tried_then n s t (try_end_grace n v) (tried_same n s t (advanced_stores s t now refl))
    (tried_then n t u (try_end_grace n v) (tried_turns n is_still_held (try_lapse n) (tried_lapse n) (due t) t)
    (tried_then n u v (try_end_grace n v) (tried_turns n is_lease_over (try_expire n) (tried_expire n) (ended u.clock u.leases) u) (tried_end n v)))

-- what was made and given before stays
pub tick_goes_on : (n : ℕ) (s : CoreState) (now : Moment) → GoesOn s (tick n s now).1
tick_goes_on n s now = (tick_tried n s now).on

-- no more than n are made, and one fails only behind n
pub tick_makes_no_more : (n : ℕ) (s : CoreState) (now : Moment) → MayBe n s → MayBe n (tick n s now).1
tick_makes_no_more n s now may = (tick_tried n s now).may may

-- behind a store that failed none is tried
pub tick_tries_none : (n : ℕ) (s : CoreState) (now : Moment) → s.failed ≡ true → (tick n s now).1.given ≡ s.given
tick_tries_none n s now failed = (tick_tried n s now).none failed
