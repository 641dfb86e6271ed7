-- What never goes back in a step, and what a keeper is given in it.
use Rattle.std.proofs.Common.{◌≡◌, ℕ, ◌+◌, ◌-◌, ◌≤◌, length, Bool, true, false, inl, inr, List, [], ◌∷◌, ◌++◌, Option, Some, None, option_map, refl, sym, ap, subst, ◌∙◌, arith}
use Rattle.std.proofs.lemmas.Bool.{cases_Bool, both_ways}
use Rattle.std.proofs.lemmas.List.{append_assoc, append-nil, append_cancel_left, length-append}
use Rattle.xl_base.specs.Outside.{Rose, StoreCounts, Spends, held_after, given_after}
use Rattle.xl_base.specs.declared.keeper.StoreOutcome.{StoreOutcome}
use Rattle.xl_base.specs.declared.keeper.StoreOutcome.TheVariants as outcomes
use Rattle.xl_base.specs.Stable.{Stable}
use Rattle.xl_core.specs.State.{CoreState, Aside, aside_of, MayBe, GoesOn}
use Rattle.xl_core.specs.Stores.{made_of, given_more, Holds, Telling, HandsOn}

-- ---- the stores of a step

-- nothing is stored, and no store fails
pub record SameStores (s t : CoreState) : Type 0 where
  pub stable : t.stable ≡ s.stable
  pub made : t.made ≡ s.made
  pub failed : t.failed ≡ s.failed
  pub given : t.given ≡ s.given

pub stores_same : (s t : CoreState) → aside_of t ≡ aside_of s → SameStores s t
stores_same s t same = record { stable = ap (λ (x : Aside). x.stable) same; made = ap (λ (x : Aside). x.made) same; failed = ap (λ (x : Aside). x.failed) same; given = ap (λ (x : Aside). x.given) same }

pub goes_on_same : (s t : CoreState) → SameStores s t → GoesOn s t
goes_on_same s t same = record { made = omega (arith, same.made); failed = λ f. (same.failed ∙ f, same.made); more = []; given = same.given ∙ sym (append-nil s.given) }

pub goes_on_self : (s : CoreState) → GoesOn s s
goes_on_self s = goes_on_same s s (stores_same s s refl)

pub goes_on_then : (s t u : CoreState) → GoesOn s t → GoesOn t u → GoesOn s u
goes_on_then s t u first next = record {
  made = omega (arith, first.made, next.made);
  failed = λ f. let a = first.failed f in let b = next.failed a.0 in (b.0, b.1 ∙ a.1);
  more = first.more ++ next.more;
  given = next.given ∙ ap (λ (xs : List Stable). xs ++ next.more) first.given ∙ append_assoc s.given first.more next.more;
}

pub may_be_made : (s : CoreState) → MayBe s.made s
may_be_made s = record { enough = omega arith; spent = λ _. refl }

-- what may be at the end may be before
pub may_be_before : (n : ℕ) (s t : CoreState) → GoesOn s t → MayBe n t → MayBe n s
may_be_before n s t on may = record {
  enough = omega (arith, on.made, may.enough);
  spent = λ f. let a = on.failed f in sym a.1 ∙ may.spent a.0;
}

-- ---- what the keeper is given

given_none : (given : Option (List Stable)) → given_more given [] ≡ given
given_none None = refl
given_none (Some xs) = ap Some (append-nil xs)

given_both : (given : Option (List Stable)) (xs ys : List Stable) → given_more (given_more given xs) ys ≡ given_more given (xs ++ ys)
given_both None xs ys = refl
given_both (Some zs) xs ys = ap Some (append_assoc zs xs ys)

-- where nothing is stored and no store fails the keeper stays
pub hands_same : (s t : CoreState) (k : Telling) → SameStores s t → HandsOn s t k k
hands_same s t k same = record {
  held = λ h. subst (λ (stable : Stable). Holds k.held stable) (sym same.stable) h;
  given = λ more e.
      let none : more ≡ [] = append_cancel_left s.given more [] (sym e ∙ same.given ∙ sym (append-nil s.given)) in
      sym (ap (λ (xs : List Stable). given_more k.given xs) none ∙ given_none k.given);
  rose = λ a b. absurd (both_ways s.failed a (sym same.failed ∙ b));
  still = λ _. refl;
  later = omega arith;
  left = λ n is. subst (λ (f : Bool). (t.made ≤ n) × (k.left ≡ Some (n - t.made)) × (f ≡ true → t.made ≡ n)) (sym same.failed) (subst (λ (made : ℕ). (made ≤ n) × (k.left ≡ Some (n - made)) × (s.failed ≡ true → made ≡ n)) (sym same.made) is);
}

pub hands_self : (s : CoreState) (k : Telling) → HandsOn s s k k
hands_self s k = hands_same s s k (stores_same s s refl)

rose_later : (a b c : ℕ) → Rose a b → b ≤ c → Rose a c
rose_later a b c rose later below = omega (arith, rose (omega (arith, later, below)), later)

pub hands_then : (s t u : CoreState) (a b c : Telling) → GoesOn s t → HandsOn s t a b → GoesOn t u → HandsOn t u b c → HandsOn s u a c
hands_then s t u a b c on first more next = record {
  held = λ h. next.held (first.held h);
  given = λ all e. given all e;
  rose = rose;
  still = still;
  later = omega (arith, first.later, next.later);
  left = λ n is. next.left n (first.left n is);
} where
  both : u.given ≡ s.given ++ (on.more ++ more.more)
  both = more.given ∙ ap (λ (xs : List Stable). xs ++ more.more) on.given ∙ append_assoc s.given on.more more.more

  given : (all : List Stable) → u.given ≡ s.given ++ all → c.given ≡ given_more a.given all
  given all e =
      next.given more.more more.given
      ∙ ap (λ (o : Option (List Stable)). given_more o more.more) (first.given on.more on.given)
      ∙ given_both a.given on.more more.more
      ∙ ap (λ (xs : List Stable). given_more a.given xs) (append_cancel_left s.given (on.more ++ more.more) all (sym both ∙ e))

  rose : s.failed ≡ false → u.failed ≡ true → Rose a.faults c.faults
  rose begins fails =
      elim (cases_Bool t.failed) [
        | inl failed ↦ rose_later a.faults b.faults c.faults (first.rose begins failed) next.later
        | inr none ↦ subst (λ (count : ℕ). Rose count c.faults) (first.still (none ∙ sym begins)) (next.rose none fails)
      ]

  still : u.failed ≡ s.failed → c.faults ≡ a.faults
  still same =
      elim (cases_Bool s.failed) [
        | inl before ↦ let now = (on.failed before).0 in next.still (same ∙ before ∙ sym now) ∙ first.still (now ∙ sym before)
        | inr before ↦ elim (cases_Bool t.failed) [
          | inl failed ↦ absurd (both_ways u.failed (same ∙ before) (more.failed failed).0)
          | inr none ↦ next.still (same ∙ before ∙ sym none) ∙ first.still (none ∙ sym before)
        ]
      ]

-- ---- a store

holds_it : (stable : Stable) (held : Option Stable) → Holds (option_map (λ _. stable) held) stable
holds_it stable None = refl
holds_it stable (Some old) = refl

given_it : (stable : Stable) (given : Option (List Stable)) → option_map (λ list. list ++ stable ∷ []) given ≡ given_more given (stable ∷ [])
given_it stable None = refl
given_it stable (Some list) = refl

-- it was given this one alone
one_given : (stable : Stable) (s : CoreState) (more : List Stable) (old new : Option (List Stable)) → s.given ++ stable ∷ [] ≡ s.given ++ more → new ≡ option_map (λ list. list ++ stable ∷ []) old → new ≡ given_more old more
one_given stable s more old new e is = is ∙ given_it stable old ∙ ap (λ (xs : List Stable). given_more old xs) (append_cancel_left s.given (stable ∷ []) more e)

-- the keeper stored it
pub hands_stored : (outcome : StoreOutcome) (stable : Stable) (s t : CoreState) (a b : Telling) → outcome ≡ outcomes.Stored → s.failed ≡ false → t.failed ≡ s.failed → t.stable ≡ stable → t.made ≡ s.made + 1 → t.given ≡ s.given ++ stable ∷ [] → b.held ≡ held_after outcome stable a.held → b.given ≡ given_after outcome stable a.given → ((n : ℕ) → a.left ≡ Some n → Spends outcome n b.left) → StoreCounts outcome a.faults b.faults → HandsOn s t a b
hands_stored outcome stable s t a b out none failed is made put held given left counts = record {
  held = λ h. subst (λ (x : Stable). Holds b.held x) (sym is) (subst (λ (o : Option Stable). Holds o stable) (sym (held ∙ ap (λ (x : StoreOutcome). held_after x stable a.held) out)) (holds_it stable a.held));
  given = λ more e. one_given stable s more a.given b.given (sym put ∙ e) (given ∙ ap (λ (x : StoreOutcome). given_after x stable a.given) out);
  rose = λ begins fails. absurd (both_ways s.failed none (sym failed ∙ fails));
  still = λ same. subst (λ (x : StoreOutcome). StoreCounts x a.faults b.faults) out counts;
  later = omega (arith, subst (λ (x : StoreOutcome). StoreCounts x a.faults b.faults) out counts);
  left = λ n allows.
      let spends = subst (λ (x : StoreOutcome). Spends x (n - s.made) b.left) out (left (n - s.made) allows.1) in (
        omega (arith, allows.0, spends.0, made),
        spends.1 ∙ ap Some (omega (arith, allows.0, spends.0, made)),
        λ f. absurd (both_ways s.failed none (sym failed ∙ f)),
      );
}

-- the keeper's store failed
pub hands_failed : (outcome : StoreOutcome) (stable : Stable) (s t : CoreState) (a b : Telling) → outcome ≡ outcomes.Failed → s.failed ≡ false → t.failed ≡ true → t.stable ≡ s.stable → t.made ≡ s.made → t.given ≡ s.given ++ stable ∷ [] → b.held ≡ held_after outcome stable a.held → b.given ≡ given_after outcome stable a.given → ((n : ℕ) → a.left ≡ Some n → Spends outcome n b.left) → a.faults ≤ b.faults → StoreCounts outcome a.faults b.faults → HandsOn s t a b
hands_failed outcome stable s t a b out none failed is made put held given left later counts = record {
  held = λ h. subst (λ (x : Stable). Holds b.held x) (sym is) (subst (λ (o : Option Stable). Holds o s.stable) (sym (held ∙ ap (λ (x : StoreOutcome). held_after x stable a.held) out)) h);
  given = λ more e. one_given stable s more a.given b.given (sym put ∙ e) (given ∙ ap (λ (x : StoreOutcome). given_after x stable a.given) out);
  rose = λ begins fails. subst (λ (x : StoreOutcome). StoreCounts x a.faults b.faults) out counts;
  still = λ same. absurd (both_ways s.failed none (sym same ∙ failed));
  later = later;
  left = λ n allows.
      let spends = subst (λ (x : StoreOutcome). Spends x (n - s.made) b.left) out (left (n - s.made) allows.1) in (
        omega (arith, allows.0, made),
        spends.1 ∙ ap Some (omega (arith, spends.0, made)),
        λ f. omega (arith, allows.0, spends.0, made),
      );
}

-- how many were made, once one more is given
pub made_more : (failed : Bool) (given more : List Stable) (stable : Stable) → failed ≡ false → more ≡ given ++ stable ∷ [] → (made_of failed more ≡ made_of failed given + 1) × (made_of true more ≡ made_of failed given)
made_more true given more stable none is = absurd (both_ways true none refl)
made_more false given more stable none is =
    let longer : length more ≡ length given + 1 = ap (λ (xs : List Stable). length xs) is ∙ length-append given (stable ∷ []) in (omega (arith, longer), omega (arith, longer))
