-- What is found in the lists of clients once records are dropped.
use Rattle.std.proofs.Common.{◌≡◌, ℕ, ◌+◌, ◌≤◌, Bool, true, false, List, [], ◌∷◌, map, length, Option, Some, None, is_some, option_map, refl, sym, ap, subst, ◌∙◌, inl, inr, true≢false, arith}
use Rattle.std.proofs.lemmas.Bool.{cases_Bool, and_parts, false≢true}
use Rattle.std.proofs.lemmas.Map.Keys.{IsDistinct-tail, IsDistinct-head}
use Rattle.std.proofs.lemmas.Option.{same_Some}
use Rattle.std.specs.Bool.{beq}
use Rattle.std.specs.Cmp.{booleans_Decides}
use Rattle.std.specs.List.{AllByRecursion, find, IsDistinct}
use Rattle.std.specs.Prelude.{IsSome, bytes_eq}
use Rattle.xl_nfs_state.specs.Alike.{client_names_are}
use Rattle.xl_nfs_state.specs.Keys.{client_name, same_client_name}
use Rattle.xl_nfs_state.specs.State.{without, is_client, is_client_named}
use Rattle.xl_nfs_state.specs.declared.client.ClientName.{ClientName}
use Rattle.xl_nfs_state.specs.declared.client.ClientRow.{ClientRow}
use Rattle.xl_nfs_opens.proofs.OpenerLaws.{is_itself}

module _ {A : Type 0} where
  none_some : {B : Type 0} (x : A) → Some x ≡ None → B
  none_some x e = absurd (true≢false (ap is_some e))

  pub gone : (p : A → Bool) (xs : List A) → find p (without p xs) ≡ None
  gone p [] = refl
  gone p (x ∷ xs) =
      elim (cases_Bool (p x)) [
        | inl e ↦ rw e (gone p xs)
        | inr e ↦ rw e (rw e (gone p xs))
      ]

  pub none_left : (p q : A → Bool) (xs : List A) → find p xs ≡ None → find p (without q xs) ≡ None
  none_left p q [] none = refl
  none_left p q (x ∷ xs) none =
      elim (cases_Bool (p x)) [
        | inl e ↦ none_some x (rw e at none)
        | inr e ↦ elim (cases_Bool (q x)) [
          | inl d ↦ rw d (none_left p q xs (rw e at none))
          | inr d ↦ rw d (rw e (none_left p q xs (rw e at none)))
        ]
      ]

  pub no_more : (p : A → Bool) (xs : List A) → length (without p xs) ≤ length xs
  no_more p [] = omega arith
  no_more p (x ∷ xs) =
      elim (cases_Bool (p x)) [
        | inl e ↦ rw e (omega (arith, no_more p xs))
        | inr e ↦ rw e (omega (arith, no_more p xs))
      ]

  pub one_less : (p : A → Bool) (xs : List A) → IsSome (find p xs) → length (without p xs) + 1 ≤ length xs
  one_less p [] some = absurd (false≢true some)
  one_less p (x ∷ xs) some =
      elim (cases_Bool (p x)) [
        | inl e ↦ rw e (omega (arith, no_more p xs))
        | inr e ↦ rw e (omega (arith, one_less p xs (rw e at some)))
      ]

  pub all_left : (p : A → Bool) (xs : List A) → find p xs ≡ None → without p xs ≡ xs
  all_left p [] none = refl
  all_left p (x ∷ xs) none =
      elim (cases_Bool (p x)) [
        | inl e ↦ none_some x (rw e at none)
        | inr e ↦ rw e (ap (λ ys. x ∷ ys) (all_left p xs (rw e at none)))
      ]

-- ---- by name and by number

-- the key by which a record of this id string is found
abbrev named : List ℕ → Bool → ClientName
named id b = record { id = id; confirmed = b }

-- a record that is found by its name is of that kind
kind_is : (id : List ℕ) (b : Bool) (x : ClientRow) → is_client_named id b x ≡ true → x.confirmed ≡ b
kind_is id b x h = sym ((booleans_Decides b x.confirmed).0 (and_parts (bytes_eq id x.id) (beq b x.confirmed) h).1)

pub named_numbered : (id : List ℕ) (b : Bool) (xs : List ClientRow) (r : ClientRow) → find (is_client_named id b) xs ≡ Some r → IsSome (find (is_client r.number b) xs)
named_numbered id b [] r found = absurd (true≢false (ap is_some (sym found)))
named_numbered id b (x ∷ xs) r found =
    elim (cases_Bool (is_client_named id b x)) [
      | inl e ↦
          let same : x ≡ r = same_Some x r (rw e at found) in
          subst (λ (y : ClientRow). IsSome (find (is_client y.number b) (x ∷ xs))) same (rw (is_itself x b (kind_is id b x e)) refl)
      | inr e ↦ elim (cases_Bool (is_client r.number b x)) [
        | inl d ↦ rw d refl
        | inr d ↦ rw d (named_numbered id b xs r (rw e at found))
      ]
    ]

-- no other has the name of the first
none_named : (id : List ℕ) (b : Bool) (x : ClientRow) (xs : List ClientRow) → is_client_named id b x ≡ true → AllByRecursion (λ (k : ClientName). same_client_name (client_name x) k ≡ false) (map client_name xs) → find (is_client_named id b) xs ≡ None
none_named id b x [] is apart = refl
none_named id b x (y ∷ ys) is apart =
    let key : named id b ≡ client_name x = client_names_are (named id b) (client_name x) is in
    let other : is_client_named id b y ≡ false = ap (λ (k : ClientName). same_client_name k (client_name y)) key ∙ apart.0 in
    rw other (none_named id b x ys is apart.1)

-- once the record of a name is dropped by its number, none has that name
pub gone_named : (id : List ℕ) (b : Bool) (xs : List ClientRow) (r : ClientRow) → IsDistinct same_client_name (map client_name xs) → find (is_client_named id b) xs ≡ Some r → find (is_client_named id b) (without (is_client r.number b) xs) ≡ None
gone_named id b [] r apart found = refl
gone_named id b (x ∷ xs) r apart found =
    elim (cases_Bool (is_client_named id b x)) [
      | inl e ↦
          let same : x ≡ r = same_Some x r (rw e at found) in
          let rest : find (is_client_named id b) xs ≡ None = none_named id b x xs e (IsDistinct-head same_client_name (client_name x) (map client_name xs) apart) in
          subst (λ (y : ClientRow). find (is_client_named id b) (without (is_client y.number b) (x ∷ xs)) ≡ None) same (rw (is_itself x b (kind_is id b x e)) (none_left (is_client_named id b) (is_client x.number b) xs rest))
      | inr e ↦
          let rest = gone_named id b xs r (IsDistinct-tail same_client_name (client_name x) (map client_name xs) apart) (rw e at found) in
          elim (cases_Bool (is_client r.number b x)) [
            | inl d ↦ rw d rest
            | inr d ↦ rw d (rw e rest)
          ]
    ]

-- the same where the number is known
pub gone_under : (id : List ℕ) (b : Bool) (xs : List ClientRow) (number : ℕ) → IsDistinct same_client_name (map client_name xs) → option_map (λ r. r.number) (find (is_client_named id b) xs) ≡ Some number → find (is_client_named id b) (without (is_client number b) xs) ≡ None
gone_under id b xs number apart under = by (find (is_client_named id b) xs) refl under
  where
    by : (o : Option ClientRow) → find (is_client_named id b) xs ≡ o → option_map (λ r. r.number) o ≡ Some number → find (is_client_named id b) (without (is_client number b) xs) ≡ None
    by None e k = absurd (true≢false (ap is_some (sym k)))
    by (Some r) e k = subst (λ (m : ℕ). find (is_client_named id b) (without (is_client m b) xs) ≡ None) (same_Some r.number number k) (gone_named id b xs r apart e)

pub number_under : (id : List ℕ) (b : Bool) (xs : List ClientRow) (number : ℕ) → option_map (λ r. r.number) (find (is_client_named id b) xs) ≡ Some number → IsSome (find (is_client number b) xs)
number_under id b xs number under = by (find (is_client_named id b) xs) refl under
  where
    by : (o : Option ClientRow) → find (is_client_named id b) xs ≡ o → option_map (λ r. r.number) o ≡ Some number → IsSome (find (is_client number b) xs)
    by None e k = absurd (true≢false (ap is_some (sym k)))
    by (Some r) e k = subst (λ (m : ℕ). IsSome (find (is_client m b) xs)) (same_Some r.number number k) (named_numbered id b xs r e)
