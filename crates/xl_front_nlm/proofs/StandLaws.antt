-- What is found stands in the list.
use Rattle.std.proofs.Common.{◌≡◌, ℕ, Bool, true, false, not, List, [], ◌∷◌, Option, Some, None, refl, sym, ap, subst, ◌∙◌, inl, inr, arith}
use Rattle.std.proofs.lemmas.Bool.{cases_Bool, or_parts, true≢false}
use Rattle.std.proofs.lemmas.Bool.Decides.{nat_tests}
use Rattle.std.specs.Bool.{◌==◌}
use Rattle.std.specs.List.{AllByRecursion, find, slice_get}
use Rattle.std.specs.Prelude.{IfSome, option_map}
use Rattle.xl_base.specs.Lists.{IsIn, Pairwise}
use Rattle.xl_base.specs.declared.name.Owner.{Owner}
use Rattle.xl_base.specs.declared.name.Owner.TheVariants as owners
use Rattle.xl_base.specs.declared.name.Protocol.TheVariants.{Nlm}
use Rattle.xl_names.specs.Names.{number_of}
use Rattle.xl_nlm.specs.Items.{LockItem}
use Rattle.xl_core.specs.Good.{IsGood, are_apart}
use Rattle.xl_core.specs.State.{CoreState}
use Rattle.xl_front_nlm.specs.Asks.{owner_of}
use Rattle.xl_front_nlm.specs.Standing.{is_same, waits_for, waiter_by, waiter_for}
use Rattle.xl_front_nlm.specs.declared.aim.Aim.{Aim}
use Rattle.xl_matrix.specs.declared.claim.Claim.{Claim}
use Rattle.xl_wait.specs.Waiting.{is_waiting, first_file, is_file, waits_on}
use Rattle.xl_wait.specs.declared.waiter.Waiter.{Waiter}

-- ---- waiters

same_number : (n : ℕ) → (n == n) ≡ true
same_number n = grind (arith, nat_tests)

-- who waits among some waits among one more
abbrev AreWaiting : List Waiter → Option ℕ → Type 0
AreWaiting ws number = IfSome number (λ id. is_waiting id ws ≡ true)

one_more : (w : Waiter) (ws : List Waiter) (number : Option ℕ) → AreWaiting ws number → AreWaiting (w ∷ ws) number
one_more w ws None waits = tt
one_more w ws (Some id) waits =
    elim (cases_Bool (w.id == id)) [
      | inl e ↦ rw e refl
      | inr e ↦ rw e waits
    ]

waiter_found : (p : Waiter → Bool) (ws : List Waiter) → AreWaiting ws (option_map (λ (w : Waiter). w.id) (find p ws))
waiter_found p [] = tt
waiter_found p (w ∷ ws) =
    elim (cases_Bool (p w)) [
      | inl e ↦ rw (e, same_number w.id) refl
      | inr e ↦ rw e (one_more w ws (option_map (λ (v : Waiter). v.id) (find p ws)) (waiter_found p ws))
    ]

pub found_waits : (number : Option ℕ) (p : Waiter → Bool) (ws : List Waiter) → number ≡ option_map (λ (w : Waiter). w.id) (find p ws) → IfSome number (λ id. is_waiting id ws ≡ true)
found_waits number p ws e = subst (AreWaiting ws) (sym e) (waiter_found p ws)

-- where nobody waits on the file nobody waits for a range there
not_there : (owner : Owner) (at : Aim) (exclusive : Bool) (asked : List Claim) → is_file at.file (first_file asked) ≡ false → is_same owner at exclusive (slice_get asked 0) ≡ false
not_there owner at exclusive [] e = refl
not_there owner at exclusive (c ∷ cs) e = let apart : (c.file == at.file) ≡ false = e in rw apart refl

none_there : (owner : Owner) (at : Aim) (exclusive : Bool) (ws : List Waiter) → waits_on at.file ws ≡ false → find (waits_for owner at exclusive) ws ≡ None
none_there owner at exclusive [] e = refl
none_there owner at exclusive (w ∷ ws) e =
    let parts = or_parts (is_file at.file (first_file w.asked)) (waits_on at.file ws) e in
    let other : waits_for owner at exclusive w ≡ false = not_there owner at exclusive w.asked parts.0 in
    rw other (none_there owner at exclusive ws parts.1)

pub nobody_there : (ws : List Waiter) (at : Aim) (exclusive : Bool) (number : Option ℕ) → waits_on at.file ws ≡ false → waiter_by ws at exclusive number ≡ None
nobody_there ws at exclusive None e = refl
nobody_there ws at exclusive (Some known) e = ap (λ (o : Option Waiter). option_map (λ w. w.id) o) (none_there (owners.Name Nlm known) at exclusive ws e)

-- nobody among those apart from a waiter has its number
no_other : (v : Waiter) (ws : List Waiter) → AllByRecursion (λ (w : Waiter). are_apart v w ≡ true) ws → is_waiting v.id ws ≡ false
no_other v [] apart = refl
no_other v (w ∷ ws) apart =
    let other : (w.id == v.id) ≡ false = apart_numbers v.id w.id apart.0 in
    rw other (no_other v ws apart.1)
  where
    apart_numbers : (m n : ℕ) → not (m == n) ≡ true → (n == m) ≡ false
    apart_numbers m n e = grind (arith, nat_tests)

-- of waiters with numbers of their own, the one of the number that is found is the one that is looked for
abbrev IsTheOne : (Waiter → Bool) → ℕ → Waiter → Type 0
IsTheOne p id w = w.id ≡ id → p w ≡ true

found_here : (p : Waiter → Bool) (v : Waiter) (vs : List Waiter) (w : Waiter) → AllByRecursion (λ (u : Waiter). are_apart v u ≡ true) vs → p v ≡ true → IsIn w (v ∷ vs) → IsTheOne p v.id w
found_here p v vs w apart e (inl same) = λ _. subst (λ (u : Waiter). p u ≡ true) same e
found_here p v vs w apart e (inr h) = λ k. absurd (true≢false (sym (is_there vs w h k) ∙ no_other v vs apart))
  where
    is_there : (ws : List Waiter) (w : Waiter) → IsIn w ws → w.id ≡ v.id → is_waiting v.id ws ≡ true
    is_there [] w h k = absurd h
    is_there (u ∷ us) w (inl same) k = rw (ap (λ (x : Waiter). x.id) same ∙ k) (rw (same_number v.id) refl)
    is_there (u ∷ us) w (inr h) k =
        elim (cases_Bool (u.id == v.id)) [
          | inl e ↦ rw e refl
          | inr e ↦ rw e (is_there us w h k)
        ]

there_not_here : (p : Waiter → Bool) (v : Waiter) (vs : List Waiter) (id : ℕ) → AllByRecursion (λ (u : Waiter). are_apart v u ≡ true) vs → option_map (λ (u : Waiter). u.id) (find p vs) ≡ Some id → v.id ≡ id → ⊥
there_not_here p v vs id apart e k =
    let waits : is_waiting id vs ≡ true = subst (AreWaiting vs) e (waiter_found p vs) in
    true≢false (sym waits ∙ subst (λ (i : ℕ). is_waiting i vs ≡ false) k (no_other v vs apart))

pub found_is_the_one : (p : Waiter → Bool) (ws : List Waiter) (id : ℕ) (w : Waiter) → Pairwise are_apart ws → option_map (λ (v : Waiter). v.id) (find p ws) ≡ Some id → IsIn w ws → w.id ≡ id → p w ≡ true
found_is_the_one p [] id w apart e h k = absurd h
found_is_the_one p (v ∷ vs) id w apart e h k =
    elim (cases_Bool (p v)) [
      | inl y ↦ found_here p v vs w apart.0 y h (k ∙ sym (number_in (rw y at e)))
      | inr n ↦ elim h [
        | inl same ↦ absurd (there_not_here p v vs id apart.0 (rw n at e) (ap (λ (x : Waiter). x.id) same ∙ k))
        | inr later ↦ found_is_the_one p vs id w apart.1 (rw n at e) later k
      ]
    ]
  where
    number_in : Some v.id ≡ Some id → v.id ≡ id
    number_in e = cc

-- ---- the waiter that a CANCEL takes out

pub that_waits : (s : CoreState) (l : LockItem) (exclusive : Bool) (at : Aim) (number id : ℕ) (w : Waiter) → IsGood s → number_of (owner_of l) s.names ≡ Some number → waiter_for s l exclusive at ≡ Some id
    → IsIn w s.waiters → w.id ≡ id → waits_for (owners.Name Nlm number) at exclusive w ≡ true
that_waits s l exclusive at number id w good known e h k =
    found_is_the_one (waits_for (owners.Name Nlm number) at exclusive) s.waiters id w good.apart (sym (ap (waiter_by s.waiters at exclusive) known) ∙ e) h k
