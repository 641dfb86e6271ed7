-- Walks from context to context, and the context of a lease.
use Rattle.std.proofs.Common.{◌≡◌, ℕ, zero, suc, ◌<◌, ◌≤◌, true, false, ltb, eqb, List, [], ◌++◌, length, drop, Option, Some, None, Result, Ok, Err, refl, sym, ap, subst, ◌∙◌, arith, inl, inr}
use Rattle.std.specs.Prelude.{codes}
use Rattle.std.proofs.lemmas.Bool.{cases_Bool, le-ltb, lt-ltb, or_right}
use Rattle.std.proofs.lemmas.Bool.Decides.{nat_tests}
use Rattle.std.proofs.lemmas.List.{length-drop, append-nil}
use Rattle.xl_base.specs.Codec.{little_endian, ◌>>=◌}
use Rattle.xl_layout.specs.Places.{bytes_at, u16_at, u32_at, lies, joined, zeros}
use Rattle.xl_layout.specs.Layouts.{fields, Fit}
use Rattle.xl_layout.proofs.LayoutLaws.{part_there, fields_length, again}
use Rattle.xl_smb.specs.Leases.{ContextItem, context_fields, context_at, is_wanted, among, first_among, first_of, are_contexts, lease_fields, lease_at, lease_of, lease_context}
use Rattle.xl_smb.specs.declared.lease.Lease.{Lease}
use Rattle.xl_smb.specs.declared.fault.SmbBad.{SmbBad}
use Rattle.xl_smb.specs.declared.fault.SmbBad.TheVariants.{Offset}

-- a list of less than a head has no context
no_context : (list : List ℕ) → length list < 16 → context_at list ≡ Err Offset
unfolding context_at
no_context list few = rw (lt-ltb _ _ few) refl

-- A list has at most as many contexts as bytes, so that looking at more of them changes nothing.
enough : (wanted : Option (List ℕ × ℕ)) (n m : ℕ) (list : List ℕ) → length list ≤ n → length list ≤ m → first_among wanted n list ≡ first_among wanted m list
unfolding first_among
enough wanted zero zero list a b = refl
enough wanted zero (suc m) list a b = rw (no_context list (omega arith)) refl
enough wanted (suc n) zero list a b = rw (no_context list (omega arith)) refl
enough wanted (suc n) (suc m) list a b =
    same (context_at list) (λ next. first_among wanted n (drop next list)) (λ next. first_among wanted m (drop next list)) (λ next some. enough wanted n m (drop next list) (omega (arith, length-drop next list)) (omega (arith, length-drop next list))) where
      same : (r : Result ContextItem SmbBad) (f g : ℕ → Result (Option ContextItem) SmbBad) → ((next : ℕ) → 0 < next → f next ≡ g next) → (r >>= λ c. among wanted c f) ≡ (r >>= λ c. among wanted c g)
      same (Err e) f g others = refl
      same (Ok c) f g others = elim (cases_Bool (eqb c.next 0)) [ inl last ↦ rw last refl | inr more ↦ rw (more, others c.next (grind (arith, nat_tests))) refl ]

-- the first context, before the others
opens : (wanted : Option (List ℕ × ℕ)) (list : List ℕ) → first_of wanted list ≡ (context_at list >>= λ c. among wanted c (λ next. first_among wanted (length list) (drop next list)))
unfolding first_among
opens wanted list = enough wanted (length list) (suc (length list)) list (omega arith) (omega arith)

-- a list comes to what its first context does: it leaves the list, is wanted, or is the last; or to what the next one comes to
pub comes_to : (wanted : Option (List ℕ × ℕ)) (list : List ℕ) (e : SmbBad) → context_at list ≡ Err e → first_of wanted list ≡ Err e
comes_to wanted list e bad = opens wanted list ∙ rw bad refl

pub found_at : (wanted : Option (List ℕ × ℕ)) (list : List ℕ) (c : ContextItem) → context_at list ≡ Ok c → is_wanted wanted c ≡ true → first_of wanted list ≡ Ok (Some c)
found_at wanted list c there this = opens wanted list ∙ rw (there, this) refl

pub ends_at : (wanted : Option (List ℕ × ℕ)) (list : List ℕ) (c : ContextItem) → context_at list ≡ Ok c → is_wanted wanted c ≡ false → c.next ≡ 0 → first_of wanted list ≡ Ok None
ends_at wanted list c there other last = opens wanted list ∙ rw (there, other, last) refl

pub goes_on : (wanted : Option (List ℕ × ℕ)) (list rest : List ℕ) (c : ContextItem) → context_at list ≡ Ok c → is_wanted wanted c ≡ false → (c.next ≡ 0 → ⊥) → rest ≡ drop c.next list → first_of wanted rest ≡ first_of wanted list
goes_on wanted list rest c there other more on =
    let is : eqb c.next 0 ≡ false = grind (arith, nat_tests) in
    ap (first_of wanted) on ∙ enough wanted (length (drop c.next list)) (length list) (drop c.next list) (omega arith) (omega (arith, length-drop c.next list)) ∙ sym (opens wanted list ∙ rw (there, other, is) refl)

-- ---- the lease's context

bytes_of : Lease → List ℕ
bytes_of l = joined (fields lease_fields 0 l)

its : Lease → ContextItem
its l = record { next = 0; name = codes "RqLs"; content = bytes_of l }

context_again : (l : Lease) → Fit lease_fields l → context_at (lease_context l) ≡ Ok (its l)
unfolding context_at context_fields lease_context bytes_of its little_endian u16_at u32_at
context_again l fits =
    let list = lease_context l in
    let content = bytes_of l in
    let long : length content ≡ 32 = fields_length lease_fields 0 l fits in
    let whole : ltb (length list) 16 ≡ false = le-ltb _ _ (omega arith) in
    let name = part_there 16 (codes "RqLs") (zeros 4 ++ content) list refl in
    let found : (lies 24 32 list ≡ true) × (bytes_at 32 24 list ≡ content) = subst (λ (n : ℕ). (lies 24 n list ≡ true) × (bytes_at n 24 list ≡ content)) long (part_there 24 content [] list (sym (append-nil content))) in
    rw (whole, name.0, found.0, found.1) refl

pub lease_contexts : (l : Lease) → Fit lease_fields l → are_contexts (lease_context l) ≡ true
unfolding its
lease_contexts l fits = or_right (eqb (length (lease_context l)) 0) _ (rw (ends_at None (lease_context l) (its l) (context_again l fits) refl refl) refl)

pub lease_again : (l : Lease) → Fit lease_fields l → lease_of (lease_context l) ≡ Some l
unfolding lease_at its bytes_of
lease_again l fits =
    let long : length (bytes_of l) ≡ 32 = fields_length lease_fields 0 l fits in
    let this : is_wanted (Some (codes "RqLs", 32)) (its l) ≡ true = rw long refl in
    let read : lease_at (bytes_of l) ≡ l = (again lease_fields l 0 32 0 0 0 0 (bytes_of l) [] (bytes_of l) fits refl (omega arith) (omega arith) (sym (append-nil (bytes_of l))) refl).1 in
    rw (found_at (Some (codes "RqLs", 32)) (lease_context l) (its l) (context_again l fits) this) (ap (λ (x : Lease). Some x) read)
