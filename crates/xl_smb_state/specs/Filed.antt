-- Rows that stand in numbered slots, with an index from each row's key to its slot. The order is the index's.
use Rattle.std.specs.Prelude.{◌≡◌, ℕ, nat_eq, Bool, true, false, List, [], ◌∷◌, Option, Some, None, is_some, count_by, length, slice_index_or}
use Rattle.std.specs.List.{AllByRecursion, list_any}
use Rattle.std.specs.Map.{values_of, remove_entry, set_value}

-- the row with its key, if there is one, in front of others
abbrev pub in_front : {K A : Type 0} → K → Option A → List (K × A) → List (K × A)
in_front key None rows = rows
in_front key (Some row) rows = (key, row) ∷ rows

-- the rows under their keys
abbrev pub filed : {A : Type 0} → List (ℕ × ℕ) → List (Option A) → List (ℕ × A)
filed [] slots = []
filed (e ∷ es) slots = in_front e.0 (slice_index_or slots e.1 None) (filed es slots)

-- there is a row, and it passes
abbrev pub passes : {A : Type 0} → (A → Bool) → Option A → Bool
passes test None = false
passes test (Some row) = test row

-- no two slots are one
abbrev pub AreApart : List ℕ → Type 0
AreApart [] = Unit {0}
AreApart (k ∷ ks) = (list_any (nat_eq k) ks ≡ false) × AreApart ks

-- each slot of the index has a row, no two keys have one slot, and there is no other row
pub record IsFiled {A : Type 0} (es : List (ℕ × ℕ)) (slots : List (Option A)) : Type 0 where
  pub there : AllByRecursion (λ e. is_some (slice_index_or slots e.1 None) ≡ true) es
  pub apart : AreApart (values_of es)
  pub whole : count_by is_some slots ≡ length es

-- the rows of places under keys, of which some are empty
abbrev pub standing : {K A : Type 0} → List (K × Option A) → List (K × A)
standing [] = []
standing (e ∷ es) = in_front e.0 e.1 (standing es)

-- the row of the slot that a place leads to, unless the place is empty
abbrev pub row_at : {A : Type 0} → List (Option A) → Option ℕ → Option A
row_at slots None = None
row_at slots (Some slot) = slice_index_or slots slot None

-- the row of a place, if that is there
abbrev pub flat : {A : Type 0} → Option (Option A) → Option A
flat None = None
flat (Some place) = place

-- another row, or none, is put in a place, unless that is empty
abbrev pub left : {A : Type 0} → Option A → Option A → Option A
left to None = None
left to (Some row) = to

-- another row, or none, in place of the first whose key passes
abbrev pub replaced : {K A : Type 0} → (K → Bool) → Option A → List (K × A) → List (K × A)
replaced test None rows = remove_entry test rows
replaced test (Some row) rows = set_value test rows row
