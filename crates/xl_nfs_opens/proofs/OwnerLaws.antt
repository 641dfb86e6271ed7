-- Owners and stateids that are found by their names and by their numbers.
use Rattle.std.proofs.Common.{◌≡◌, ℕ, Bool, true, false, List, [], ◌∷◌, map, Option, Some, None, is_some, refl, sym, ap, subst, ◌∙◌, inl, inr, true≢false}
use Rattle.std.proofs.lemmas.Bool.{cases_Bool, eq-eqb, eqb-true}
use Rattle.std.proofs.lemmas.Map.Keys.{IsDistinct-tail, IsDistinct-head}
use Rattle.std.proofs.lemmas.Option.{same_Some}
use Rattle.std.specs.Bool.{◌==◌}
use Rattle.std.specs.Cmp.Lexicographic.{bytes_decides}
use Rattle.std.specs.List.{AllByRecursion, find, IsDistinct}
use Rattle.std.specs.Prelude.{IsSome, bytes_eq}
use Rattle.xl_cache.specs.Parties.{is_kind_of}
use Rattle.xl_matrix.specs.declared.claim.CacheKind.{CacheKind}
use Rattle.xl_names.specs.declared.name.Name.TheVariants.{NfsParty}
use Rattle.xl_core.specs.Askers.{may_wish_for}
use Rattle.xl_core.specs.declared.ask.Who.TheVariants.{Named}
use Rattle.xl_nfs_opens.specs.Opens.{wished_kinds}
use Rattle.xl_nfs_state.specs.Keys.{stateid_key}
use Rattle.xl_nfs_state.specs.State.{is_owner, is_stateid, is_under, is_whose, without}
use Rattle.xl_nfs_state.specs.declared.owner.OwnerRow.{OwnerRow}
use Rattle.xl_nfs_state.specs.declared.stateid.StateidRow.{StateidRow}
use Rattle.xl_nfs_state.specs.declared.stateid.Whose.TheVariants as whose
use Rattle.xl_nfs_opens.specs.Seqids.{is_opener}
use Rattle.xl_nfs_opens.specs.declared.opener.Opener.{Opener}

pub own_client : (id : List ℕ) → bytes_eq id id ≡ true
own_client id = (bytes_decides id id).1 refl

-- delegations are what an NFSv4 client may have
pub wished_fit : (id : List ℕ) (wish : Option Bool) → AllByRecursion (λ kind. may_wish_for (Named (NfsParty id)) false kind ≡ true) (wished_kinds wish)
unfolding is_kind_of
wished_fit id None = tt
wished_fit id (Some true) = (refl, tt)
wished_fit id (Some false) = (refl, tt)

pub kinds_fit : (id : List ℕ) (wish : Option Bool) (kinds : List CacheKind) → kinds ≡ wished_kinds wish → AllByRecursion (λ kind. may_wish_for (Named (NfsParty id)) false kind ≡ true) kinds
kinds_fit id wish kinds is = subst (λ (ks : List CacheKind). AllByRecursion (λ kind. may_wish_for (Named (NfsParty id)) false kind ≡ true) ks) (sym is) (wished_fit id wish)

module _ {A : Type 0} where
  -- what is found by a test is there by its number
  pub numbered : (p : A → Bool) (number : A → ℕ) (xs : List A) (x : A) → find p xs ≡ Some x → IsSome (find (λ y. number x == number y) xs)
  numbered p number [] x found = absurd (true≢false (ap is_some (sym found)))
  numbered p number (y ∷ ys) x found =
      elim (cases_Bool (p y)) [
        | inl e ↦ (let same : y ≡ x = same_Some y x (rw e at found) in subst (λ (z : A). IsSome (find (λ w. number z == number w) (y ∷ ys))) same (rw (eq-eqb (number y) (number y) refl) refl))
        | inr e ↦ elim (cases_Bool (number x == number y)) [
          | inl d ↦ rw d refl
          | inr d ↦ rw d (numbered p number ys x (rw e at found))
        ]
      ]

  apart : (number : A → ℕ) (p : A → Bool) (y : A) (ys : List A) (x : A) → AllByRecursion (λ (k : ℕ). (number y == k) ≡ false) (map number ys) → find p ys ≡ Some x → (number x == number y) ≡ false
  apart number p y [] x all found = absurd (true≢false (ap is_some (sym found)))
  apart number p y (z ∷ zs) x all found =
      elim (cases_Bool (p z)) [
        | inl e ↦ (let same : z ≡ x = same_Some z x (rw e at found) in subst (λ (w : A). (number w == number y) ≡ false) same (other all.0))
        | inr e ↦ apart number p y zs x all.1 (rw e at found)
      ]
    where
      other : (number y == number z) ≡ false → (number z == number y) ≡ false
      other differs = elim (cases_Bool (number z == number y)) [
        | inl e ↦ absurd (true≢false (sym (eq-eqb (number y) (number z) (sym (eqb-true (number z) (number y) e))) ∙ differs))
        | inr e ↦ e
      ]

  -- where no two have one number, it is what is found by its number
  pub found_again : (p : A → Bool) (number : A → ℕ) (xs : List A) (x : A) → IsDistinct ◌==◌ (map number xs) → find p xs ≡ Some x → find (λ y. number x == number y) xs ≡ Some x
  found_again p number [] x distinct found = found
  found_again p number (y ∷ ys) x distinct found =
      elim (cases_Bool (p y)) [
        | inl e ↦ (let same : y ≡ x = same_Some y x (rw e at found) in subst (λ (z : A). find (λ w. number z == number w) (y ∷ ys) ≡ Some z) same (rw (eq-eqb (number y) (number y) refl) refl))
        | inr e ↦ (let rest = rw e at found in rw (apart number p y ys x (IsDistinct-head ◌==◌ (number y) (map number ys) distinct) rest) (found_again p number ys x (IsDistinct-tail ◌==◌ (number y) (map number ys) distinct) rest))
      ]

-- an owner that is found by its name is there by its number
pub named_there : (o : Opener) (rs : List OwnerRow) (r : OwnerRow) → find (is_opener o) rs ≡ Some r → IsSome (find (is_owner r.number) rs)
named_there o rs r found = numbered (is_opener o) (λ x. x.number) rs r found

-- an open that is found by its owner and file is there by its number
pub open_there : (test : StateidRow → Bool) (ss : List StateidRow) (r : StateidRow) → IsDistinct ◌==◌ (map stateid_key ss) → find test ss ≡ Some r → find (is_stateid r.number) ss ≡ Some r
open_there test ss r distinct found = found_again test (λ s. s.number) ss r distinct found

-- once what stands under a number is gone, nothing has that number
pub number_gone : (number : ℕ) (ss : List StateidRow) → find (is_stateid number) (without (is_whose (whose.Stateid number)) ss) ≡ None
number_gone number [] = refl
number_gone number (s ∷ ss) =
    elim (cases_Bool (number == s.number)) [
      | inl e ↦ rw e (number_gone number ss)
      | inr e ↦ rw e (elim (cases_Bool (is_under number s.holder)) [
        | inl d ↦ rw d (number_gone number ss)
        | inr d ↦ rw d (rw e (number_gone number ss))
      ])
    ]

-- what is found by a number has it
pub is_number : (ss : List StateidRow) (number : ℕ) (r : StateidRow) → find (is_stateid number) ss ≡ Some r → number ≡ r.number
is_number [] number r e = absurd (true≢false (ap is_some (sym e)))
is_number (x ∷ xs) number r e =
    elim (cases_Bool (number == x.number)) [
      | inl h ↦ eqb-true number x.number h ∙ ap (λ (y : StateidRow). y.number) (same_Some x r (rw h at e))
      | inr h ↦ is_number xs number r (rw h at e)
    ]

pub same_number : (ss : List StateidRow) (number : ℕ) (r : StateidRow) → find (is_stateid number) ss ≡ Some r → find (is_stateid r.number) ss ≡ Some r
same_number ss number r found = subst (λ (m : ℕ). find (is_stateid m) ss ≡ Some r) (is_number ss number r found) found
