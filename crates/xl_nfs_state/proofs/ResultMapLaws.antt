-- A map from owners to results, as a list of rows.
use Rattle.std.proofs.Common.{◌≡◌, ℕ, Bool, true, ◌==◌, List, [], ◌∷◌, ◌++◌, map, Option, Some, None, Result, Ok, Err, OnOk, OnErr, is_some, Bor, option_copied, refl, sym, ap, subst, ◌∙◌, inl, inr, true≢false}
use Rattle.std.specs.List.{IsDistinct, filter, find, list_any}
use Rattle.std.specs.Map.{lookup}
use Rattle.std.specs.Option.{option_map}
use Rattle.std.proofs.lemmas.Bool.{cases_Bool}
use Rattle.indexmap.specs.IndexMap.{insert_entry}
use Rattle.xl_nfs_state.proofs.FiledLaws.{insert_new}
use Rattle.xl_nfs_state.specs.Filed.{changed}
use Rattle.xl_nfs_state.specs.Rows.{kept_row, with_result}
use Rattle.xl_nfs_state.specs.State.{is_kept}
use Rattle.xl_nfs_state.specs.declared.kept.KeptRow.{KeptRow}

abbrev Entries : Type 0
Entries = List (ℕ × List ℕ)

pub kept_found : (n : ℕ) (es : Entries) → lookup (λ k. n == k) es ≡ option_map (λ k. k.result) (find (is_kept n) (map kept_row es))
kept_found n [] = refl
kept_found n (e ∷ es) =
    elim (cases_Bool (n == e.0)) [
      | inl h ↦ rw h refl
      | inr h ↦ rw h (kept_found n es)
    ]

kept_missing : (n : ℕ) (es : Entries) → find (is_kept n) (map kept_row es) ≡ None → lookup (λ k. n == k) es ≡ None
kept_missing n es h = kept_found n es ∙ ap (option_map (λ (k : KeptRow). k.result)) h

map_more : (es : Entries) (e : ℕ × List ℕ) → map kept_row (es ++ e ∷ []) ≡ map kept_row es ++ kept_row e ∷ []
map_more [] e = refl
map_more (x ∷ xs) e = ap (λ ks. kept_row x ∷ ks) (map_more xs e)

pub kept_added : (es new : Entries) (k : KeptRow) → new ≡ insert_entry (λ a b. a == b) es k.owner k.result → find (is_kept k.owner) (map kept_row es) ≡ None → map kept_row new ≡ map kept_row es ++ k ∷ []
kept_added es new k is none =
    ap (map kept_row) (is ∙ insert_new (λ a b. a == b) es k.owner k.result (kept_missing k.owner es none)) ∙ map_more es (k.owner, k.result)

insert_there : (n : ℕ) (bytes : List ℕ) (es : Entries) → is_some (find (is_kept n) (map kept_row es)) ≡ true → map kept_row (insert_entry (λ a b. a == b) es n bytes) ≡ changed (is_kept n) (with_result bytes) (map kept_row es)
insert_there n bytes [] h = absurd (true≢false (sym h))
insert_there n bytes (e ∷ es) h =
    elim (cases_Bool (n == e.0)) [
      | inl same ↦ rw same refl
      | inr other ↦ rw other (ap (λ ks. kept_row e ∷ ks) (insert_there n bytes es (rw other at h)))
    ]

pub kept_changed : {A E : Type 0} (r : Result A E) (n : ℕ) (bytes : List ℕ) (es new : Entries) → OnOk r (new ≡ insert_entry (λ a b. a == b) es n bytes) → OnErr r (lookup (λ k. n == k) es ≡ None)
    → is_some (find (is_kept n) (map kept_row es)) ≡ true → map kept_row new ≡ changed (is_kept n) (with_result bytes) (map kept_row es)
kept_changed (Ok x) n bytes es new is absent there = ap (map kept_row) is ∙ insert_there n bytes es there
kept_changed (Err e) n bytes es new is absent there = absurd (true≢false (sym (some_there n es there) ∙ ap is_some absent))
  where
    some_there : (n : ℕ) (es : Entries) → is_some (find (is_kept n) (map kept_row es)) ≡ true → is_some (lookup (λ k. n == k) es) ≡ true
    some_there n es h = ap is_some (kept_found n es) ∙ mapped (find (is_kept n) (map kept_row es)) h
      where
        mapped : (o : Option KeptRow) → is_some o ≡ true → is_some (option_map (λ k. k.result) o) ≡ true
        mapped None h = h
        mapped (Some k) h = refl

-- entries that are left, by a test of the owner
pub kept_left : (test : ℕ → Bool) (es : Entries) → map kept_row (filter (λ e. test e.0) es) ≡ filter (λ k. test k.owner) (map kept_row es)
kept_left test [] = refl
kept_left test (e ∷ es) =
    elim (cases_Bool (test e.0)) [
      | inl h ↦ rw h (ap (λ ks. kept_row e ∷ ks) (kept_left test es))
      | inr h ↦ rw h (kept_left test es)
    ]

pub some_found : {A : Type 0} (test : A → Bool) (xs : List A) → is_some (find test xs) ≡ list_any test xs
some_found test [] = refl
some_found test (x ∷ xs) =
    elim (cases_Bool (test x)) [
      | inl h ↦ rw h refl
      | inr h ↦ rw h (some_found test xs)
    ]

pub some_copied : {A : Type 0} (o : Option (Bor A)) → is_some o ≡ is_some (option_copied o)
some_copied None = refl
some_copied (Some x) = refl

owners_of : (es : Entries) → map (λ e. e.0) es ≡ map (λ k. k.owner) (map kept_row es)
owners_of [] = refl
owners_of (e ∷ es) = ap (λ os. e.0 ∷ os) (owners_of es)

pub kept_distinct : (es : Entries) → IsDistinct ◌==◌ (map (λ e. e.0) es) → IsDistinct ◌==◌ (map (λ k. k.owner) (map kept_row es))
kept_distinct es h = subst (IsDistinct ◌==◌) (owners_of es) h

some_mapped : {A B : Type 0} (f : A → B) (o : Option A) → is_some (option_map f o) ≡ is_some o
some_mapped f None = refl
some_mapped f (Some x) = refl

pub kept_there : (o : Option (Bor (List ℕ))) (n : ℕ) (ks : List KeptRow) → option_copied o ≡ option_map (λ k. k.result) (find (is_kept n) ks) → is_some o ≡ list_any (is_kept n) ks
kept_there o n ks h = some_copied o ∙ ap is_some h ∙ some_mapped (λ k. k.result) (find (is_kept n) ks) ∙ some_found (is_kept n) ks
