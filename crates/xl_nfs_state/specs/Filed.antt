-- Rows in a slab, of which each is found by two keys: a map leads from a key to the row's place in the slab.
use Rattle.std.specs.Prelude.{◌≡◌, ℕ, Bool, true, cond, ◌==◌, List, [], ◌∷◌, map, Option, Some, None, is_some}
use Rattle.std.specs.List.{AllByRecursion}
use Rattle.std.specs.Map.{lookup}
use Rattle.std.specs.Option.{option_and_then, option_map}
use Rattle.slab.specs.Slab.{Slab, get}

-- the places that a map leads to, in its order
abbrev pub places : {K : Type 0} → List (K × ℕ) → List ℕ
places entries = map (λ e. e.1) entries

module _ {R : Type 0} where
  -- a row if there is one, in front of others
  abbrev pub front : Option R → List R → List R
  front None rows = rows
  front (Some row) rows = row ∷ rows

  -- the rows at these places of the slab
  abbrev pub rows_at : Slab R → List ℕ → List R
  rows_at slab [] = []
  rows_at slab (at ∷ ats) = front (get slab at) (rows_at slab ats)

  -- the row, if it isn't dropped
  abbrev pub left : (R → Bool) → Option R → Option R
  left drops None = None
  left drops (Some row) = cond (drops row) None (Some row)

  -- the row, changed if it stands at the place that was found
  abbrev pub written : (R → R) → Option ℕ → ℕ → Option R → Option R
  written to None at row = row
  written to (Some place) at row = option_map (λ r. cond (place == at) (to r) r) row

  module _ {K : Type 0} where
    -- the row that a map finds by a test of its key
    abbrev pub found : (K → Bool) → Slab R → List (K × ℕ) → Option R
    found test slab entries = option_and_then (get slab) (lookup test entries)

    -- the entry of a row at this place, in front of others
    abbrev pub entered : (R → K) → ℕ → Option R → List (K × ℕ) → List (K × ℕ)
    entered key at None entries = entries
    entered key at (Some row) entries = (key row, at) ∷ entries

    -- the entries of a map that leads from a key of each row to its place
    abbrev pub indexed : (R → K) → Slab R → List ℕ → List (K × ℕ)
    indexed key slab [] = []
    indexed key slab (at ∷ ats) = entered key at (get slab at) (indexed key slab ats)

  -- the rows, in the order of the map from their numbers
  abbrev pub filed : {K : Type 0} → Slab R → List (K × ℕ) → List R
  filed slab numbers = rows_at slab (places numbers)

  -- both maps lead to all the rows, in one order
  pub record IsFiled {K N : Type 0} (number : R → K) (name : R → N) (slab : Slab R) (ns : List (K × ℕ)) (ms : List (N × ℕ)) : Type 0 where
    pub numbers : ns ≡ indexed number slab (places ns)
    pub names : ms ≡ indexed name slab (places ns)
    pub held : AllByRecursion (λ at. is_some (get slab at) ≡ true) (places ns)

module _ {A : Type 0} where
  -- the list with the first element that passes the test changed
  abbrev pub changed : (A → Bool) → (A → A) → List A → List A
  changed test to [] = []
  changed test to (x ∷ xs) = cond (test x) (to x ∷ xs) (x ∷ changed test to xs)
