-- Rows in a slab that two maps lead to are a list: found, entered, changed and dropped as in a list.
use Rattle.std.proofs.Common.{◌≡◌, ℕ, Bool, true, false, cond, not, List, [], ◌∷◌, ◌++◌, map, Option, Some, None, is_some, MutBor, get_or, zero, suc, ◌+◌, ◌==◌, length, eqb-true, eq-eqb, slice_get, if◌then◌else◌, refl, sym, ap, subst, ◌∙◌, inl, inr, true≢false}
use Rattle.std.specs.List.{AllByRecursion, filter, find, IsDistinct}
use Rattle.std.specs.Map.{lookup}
use Rattle.std.specs.Option.{option_and_then}
use Rattle.std.proofs.lemmas.Bool.{cases_Bool}
use Rattle.std.proofs.lemmas.Option.{same_Some}
use Rattle.xl_base.proofs.Members.{all_append}
use Rattle.slab.specs.Slab.{Slab, get, Updates, RetainsFrom}
use Rattle.indexmap.specs.IndexMap.{insert_entry}
use Rattle.xl_nfs_state.specs.Filed.{front, rows_at, left, places, found, entered, indexed, filed, IsFiled, written, changed}

none_or : {A : Type 0} (o : Option A) → is_some o ≡ true → o ≡ None → ⊥
none_or o h e = true≢false (sym h ∙ ap is_some e)

module _ {R : Type 0} where
  module _ {K : Type 0} (key : R → K) (slab : Slab R) (test : K → Bool) where
    -- a map finds what the list does
    pub found_at : (ats : List ℕ) → found test slab (indexed key slab ats) ≡ find (λ row. test (key row)) (rows_at slab ats)
    found_at [] = refl
    found_at (at ∷ ats) = by (get slab at) refl (found_at ats)
      where
        by : (o : Option R) → get slab at ≡ o → found test slab (indexed key slab ats) ≡ find (λ row. test (key row)) (rows_at slab ats) → option_and_then (get slab) (lookup test (entered key at o (indexed key slab ats))) ≡ find (λ row. test (key row)) (front o (rows_at slab ats))
        by None e rest = rest
        by (Some row) e rest =
            elim (cases_Bool (test (key row))) [
              | inl h ↦ rw h e
              | inr h ↦ rw h rest
            ]

    -- and a key that the list lacks is in no map
    pub absent_at : (ats : List ℕ) → find (λ row. test (key row)) (rows_at slab ats) ≡ None → lookup test (indexed key slab ats) ≡ None
    absent_at [] h = refl
    absent_at (at ∷ ats) h = by (get slab at) (absent_at ats) h
      where
        by : (o : Option R) → (find (λ row. test (key row)) (rows_at slab ats) ≡ None → lookup test (indexed key slab ats) ≡ None) → find (λ row. test (key row)) (front o (rows_at slab ats)) ≡ None → lookup test (entered key at o (indexed key slab ats)) ≡ None
        by None rest h = rest h
        by (Some row) rest h =
            elim (cases_Bool (test (key row))) [
              | inl e ↦ let none : Some row ≡ None = rw e at h in absurd (true≢false (ap is_some none))
              | inr e ↦ rw e (rest (rw e at h))
            ]

  -- a place more, with its row
  module _ {K : Type 0} (key : R → K) (slab : Slab R) (at : ℕ) (row : R) (is : get slab at ≡ Some row) where
    rows_more : (ats : List ℕ) → rows_at slab (ats ++ at ∷ []) ≡ rows_at slab ats ++ row ∷ []
    rows_more [] = ap (λ o. front o []) is
    rows_more (a ∷ ats) = by (get slab a) (rows_more ats)
      where
        by : (o : Option R) → rows_at slab (ats ++ at ∷ []) ≡ rows_at slab ats ++ row ∷ [] → front o (rows_at slab (ats ++ at ∷ [])) ≡ front o (rows_at slab ats) ++ row ∷ []
        by None rest = rest
        by (Some r) rest = ap (λ rs. r ∷ rs) rest

    indexed_more : (ats : List ℕ) → indexed key slab (ats ++ at ∷ []) ≡ indexed key slab ats ++ (key row, at) ∷ []
    indexed_more [] = ap (λ o. entered key at o []) is
    indexed_more (a ∷ ats) = by (get slab a) (indexed_more ats)
      where
        by : (o : Option R) → indexed key slab (ats ++ at ∷ []) ≡ indexed key slab ats ++ (key row, at) ∷ [] → entered key a o (indexed key slab (ats ++ at ∷ [])) ≡ entered key a o (indexed key slab ats) ++ (key row, at) ∷ []
        by None rest = rest
        by (Some r) rest = ap (λ es. (key r, a) ∷ es) rest

  -- places whose rows stay
  abbrev Stays : Slab R → Slab R → List ℕ → Type 0
  Stays old new ats = AllByRecursion (λ at. get new at ≡ get old at) ats

  rows_stay : (old new : Slab R) (ats : List ℕ) → Stays old new ats → rows_at new ats ≡ rows_at old ats
  rows_stay old new [] h = refl
  rows_stay old new (at ∷ ats) h = λ i. front (h.0 i) (rows_stay old new ats h.1 i)

  indexed_stay : {K : Type 0} (key : R → K) (old new : Slab R) (ats : List ℕ) → Stays old new ats → indexed key new ats ≡ indexed key old ats
  indexed_stay key old new [] h = refl
  indexed_stay key old new (at ∷ ats) h = λ i. entered key at (h.0 i) (indexed_stay key old new ats h.1 i)

  held_stay : (old new : Slab R) (ats : List ℕ) → Stays old new ats → AllByRecursion (λ at. is_some (get old at) ≡ true) ats → AllByRecursion (λ at. is_some (get new at) ≡ true) ats
  held_stay old new [] h all = tt
  held_stay old new (at ∷ ats) h all = (ap is_some h.0 ∙ all.0, held_stay old new ats h.1 all.1)

  -- a vacant place is none of those that have rows
  stays_beside : (old new : Slab R) (v : ℕ) (slot : Option R) (ats : List ℕ) → get old v ≡ None → Updates old new v slot → AllByRecursion (λ at. is_some (get old at) ≡ true) ats → Stays old new ats
  stays_beside old new v slot [] vacant updates all = tt
  stays_beside old new v slot (at ∷ ats) vacant updates all =
      (updates.others at (λ e. none_or (get old at) all.0 (ap (get old) e ∙ vacant)), stays_beside old new v slot ats vacant updates all.1)

pub insert_new : {K V : Type 0} (eq : K → K → Bool) (es : List (K × V)) (k : K) (v : V) → lookup (eq k) es ≡ None → insert_entry eq es k v ≡ es ++ (k, v) ∷ []
insert_new eq [] k v h = refl
insert_new eq (e ∷ es) k v h =
    elim (cases_Bool (eq k e.0)) [
      | inl same ↦ let none : Some e.1 ≡ None = rw same at h in absurd (true≢false (ap is_some none))
      | inr other ↦ rw other (ap (λ fs. e ∷ fs) (insert_new eq es k v (rw other at h)))
    ]

places_more : {K : Type 0} (es : List (K × ℕ)) (k : K) (v : ℕ) → places (es ++ (k, v) ∷ []) ≡ places es ++ v ∷ []
places_more [] k v = refl
places_more (e ∷ es) k v = ap (λ ats. e.1 ∷ ats) (places_more es k v)

-- what is_filed says of maps that are as they should be
filed_by : {R K N : Type 0} (number : R → K) (name : R → N) (slab : Slab R) (numbers : List (K × ℕ)) (names : List (N × ℕ)) (ats : List ℕ)
    → places numbers ≡ ats → numbers ≡ indexed number slab ats → names ≡ indexed name slab ats → AllByRecursion (λ at. is_some (get slab at) ≡ true) ats → IsFiled number name slab numbers names
filed_by number name slab numbers names ats order is named held =
    record {
      numbers = is ∙ ap (indexed number slab) (sym order);
      names = named ∙ ap (indexed name slab) (sym order);
      held = subst (AllByRecursion (λ at. is_some (get slab at) ≡ true)) (sym order) held;
    }

module _ {R K N : Type 0} (number : R → K) (name : R → N) where
  -- a row is found by either key as in the list
  pub found_number : (slab : Slab R) (numbers : List (K × ℕ)) (names : List (N × ℕ)) (test : K → Bool) → IsFiled number name slab numbers names → found test slab numbers ≡ find (λ row. test (number row)) (filed slab numbers)
  found_number slab numbers names test sound = ap (found test slab) sound.numbers ∙ found_at number slab test (places numbers)

  pub found_name : (slab : Slab R) (numbers : List (K × ℕ)) (names : List (N × ℕ)) (test : N → Bool) → IsFiled number name slab numbers names → found test slab names ≡ find (λ row. test (name row)) (filed slab numbers)
  found_name slab numbers names test sound = ap (found test slab) sound.names ∙ found_at name slab test (places numbers)

  -- a row that is entered at a vacant place, under its keys, comes behind the others
  module _ (old new : Slab R) (ns ns' : List (K × ℕ)) (ms ms' : List (N × ℕ)) (same_number : K → K → Bool) (same_name : N → N → Bool) (v : ℕ) (row : R) (k : K) (m : N)
      (k-is : k ≡ number row) (m-is : m ≡ name row) (sound : IsFiled number name old ns ms) (vacant : get old v ≡ None) (updates : Updates old new v (Some row))
      (under_number : ns' ≡ insert_entry same_number ns k v) (under_name : ms' ≡ insert_entry same_name ms m v) (lists : List R) (lists-are : filed old ns ≡ lists)
      (new_number : find (λ r. same_number (number row) (number r)) lists ≡ None) (new_name : find (λ r. same_name (name row) (name r)) lists ≡ None) where
    numbered : ns' ≡ insert_entry same_number ns (number row) v
    numbered = under_number ∙ ap (λ l. insert_entry same_number ns l v) k-is

    named : ms' ≡ insert_entry same_name ms (name row) v
    named = under_name ∙ ap (λ l. insert_entry same_name ms l v) m-is

    no_number : find (λ r. same_number (number row) (number r)) (filed old ns) ≡ None
    no_number = ap (find (λ r. same_number (number row) (number r))) lists-are ∙ new_number

    no_name : find (λ r. same_name (name row) (name r)) (filed old ns) ≡ None
    no_name = ap (find (λ r. same_name (name row) (name r))) lists-are ∙ new_name

    stay : Stays old new (places ns)
    stay = stays_beside old new v (Some row) (places ns) vacant updates sound.held

    more_numbers : ns' ≡ ns ++ (number row, v) ∷ []
    more_numbers = numbered ∙ insert_new same_number ns (number row) v (ap (lookup (same_number (number row))) sound.numbers ∙ absent_at number old (same_number (number row)) (places ns) no_number)

    more_names : ms' ≡ ms ++ (name row, v) ∷ []
    more_names = named ∙ insert_new same_name ms (name row) v (ap (lookup (same_name (name row))) sound.names ∙ absent_at name old (same_name (name row)) (places ns) no_name)

    order : places ns' ≡ places ns ++ v ∷ []
    order = ap places more_numbers ∙ places_more ns (number row) v

    pub entered_filed : IsFiled number name new ns' ms'
    entered_filed =
        filed_by number name new ns' ms' (places ns ++ v ∷ []) order
        (more_numbers ∙ ap (λ es. es ++ (number row, v) ∷ []) (sound.numbers ∙ sym (indexed_stay number old new (places ns) stay)) ∙ sym (indexed_more number new v row updates.changed (places ns)))
        (more_names ∙ ap (λ es. es ++ (name row, v) ∷ []) (sound.names ∙ sym (indexed_stay name old new (places ns) stay)) ∙ sym (indexed_more name new v row updates.changed (places ns)))
        (all_append (λ at. is_some (get new at) ≡ true) (places ns) (v ∷ []) (held_stay old new (places ns) stay sound.held) (ap is_some updates.changed, tt))

    pub entered_rows : filed new ns' ≡ lists ++ row ∷ []
    entered_rows = ap (rows_at new) order ∙ rows_more number new v row updates.changed (places ns) ∙ ap (λ rs. rs ++ row ∷ []) (rows_stay old new (places ns) stay ∙ lists-are)

-- Rows are dropped.
module _ {R : Type 0} (drops : R → Bool) (old new : Slab R) (rest : (at : ℕ) → get new at ≡ left drops (get old at)) where
  abbrev here : ℕ → Bool
  here at = is_some (get new at)

  -- the places that still have rows
  rows_left : (ats : List ℕ) → rows_at new (filter here ats) ≡ filter (λ row. not (drops row)) (rows_at old ats)
  rows_left [] = refl
  rows_left (at ∷ ats) = by (get old at) (rest at) (rows_left ats)
    where
      by : (o : Option R) → get new at ≡ left drops o → rows_at new (filter here ats) ≡ filter (λ row. not (drops row)) (rows_at old ats) → rows_at new (filter here (at ∷ ats)) ≡ filter (λ row. not (drops row)) (front o (rows_at old ats))
      by None e later = ap (λ o. rows_at new (cond (is_some o) (at ∷ filter here ats) (filter here ats))) e ∙ later
      by (Some row) e later =
          elim (cases_Bool (drops row)) [
            | inl h ↦
                let gone : get new at ≡ None = rw h at e in
                rw h (ap (λ o. rows_at new (cond (is_some o) (at ∷ filter here ats) (filter here ats))) gone ∙ later)
            | inr h ↦
                let stays : get new at ≡ Some row = rw h at e in
                rw h (ap (λ o. rows_at new (cond (is_some o) (at ∷ filter here ats) (filter here ats))) stays ∙ (λ i. front (stays i) (later i)))
          ]

  indexed_left : {K : Type 0} (key : R → K) (ats : List ℕ) → filter (λ e. here e.1) (indexed key old ats) ≡ indexed key new (filter here ats)
  indexed_left key [] = refl
  indexed_left key (at ∷ ats) = by (get old at) (rest at) (indexed_left key ats)
    where
      by : (o : Option R) → get new at ≡ left drops o → filter (λ e. here e.1) (indexed key old ats) ≡ indexed key new (filter here ats) → filter (λ e. here e.1) (entered key at o (indexed key old ats)) ≡ indexed key new (filter here (at ∷ ats))
      by None e later = later ∙ sym (ap (λ o. indexed key new (cond (is_some o) (at ∷ filter here ats) (filter here ats))) e)
      by (Some row) e later =
          elim (cases_Bool (drops row)) [
            | inl h ↦
                let gone : get new at ≡ None = rw h at e in
                let off : here at ≡ false = ap is_some gone in
                rw off later
            | inr h ↦
                let stays : get new at ≡ Some row = rw h at e in
                let on : here at ≡ true = ap is_some stays in
                rw on ((λ i. (key row, at) ∷ later i) ∙ sym (ap (λ o. entered key at o (indexed key new (filter here ats))) stays))
          ]

  places_left : {K : Type 0} (es : List (K × ℕ)) → places (filter (λ e. here e.1) es) ≡ filter here (places es)
  places_left [] = refl
  places_left (e ∷ es) =
      elim (cases_Bool (here e.1)) [
        | inl h ↦ rw h (ap (λ ats. e.1 ∷ ats) (places_left es))
        | inr h ↦ rw h (places_left es)
      ]

  held_left : (ats : List ℕ) → AllByRecursion (λ at. is_some (get new at) ≡ true) (filter here ats)
  held_left [] = tt
  held_left (at ∷ ats) =
      elim (cases_Bool (here at)) [
        | inl h ↦ rw h (h, held_left ats)
        | inr h ↦ rw h (held_left ats)
      ]

  module _ {K N : Type 0} (number : R → K) (name : R → N) (ns ns' : List (K × ℕ)) (ms ms' : List (N × ℕ)) (sound : IsFiled number name old ns ms)
      (numbered : ns' ≡ filter (λ e. is_some (get new e.1)) ns) (named : ms' ≡ filter (λ e. is_some (get new e.1)) ms) where
    order_left : places ns' ≡ filter here (places ns)
    order_left = ap places numbered ∙ places_left ns

    pub dropped_filed : IsFiled number name new ns' ms'
    dropped_filed =
        filed_by number name new ns' ms' (filter here (places ns)) order_left
        (numbered ∙ ap (filter (λ e. here e.1)) sound.numbers ∙ indexed_left number (places ns))
        (named ∙ ap (filter (λ e. here e.1)) sound.names ∙ indexed_left name (places ns))
        (held_left (places ns))

    pub dropped_rows : filed new ns' ≡ filter (λ row. not (drops row)) (filed old ns)
    dropped_rows = ap (rows_at new) order_left ∙ rows_left (places ns)

-- what a slab's retain leaves, where the closure keeps no state and leaves each row as it was
module _ {T F : Type 0} (step : F → ℕ → MutBor T → Bool → MutBor T → F → Type 0) (drops : T → Bool) (f : F)
    (says : (at : ℕ) (x : MutBor T) (keep : Bool) (y : MutBor T) (next : F) → step f at x keep y next → (keep ≡ not (drops x.now)) × (y.now ≡ x.now) × (next ≡ f)) where
  slot_left : (keep : Bool) (row new : T) → keep ≡ not (drops row) → new ≡ row → (if keep then Some new else None) ≡ left drops (Some row)
  slot_left keep row new e same =
      elim (cases_Bool (drops row)) [
        | inl h ↦ rw h (ap (λ k. if k then Some new else None) (e ∙ ap not h))
        | inr h ↦ rw h (ap (λ k. if k then Some new else None) (e ∙ ap not h) ∙ ap Some same)
      ]

  pub retained_left : (slots kept : List (Option T)) (key : ℕ) → RetainsFrom step f key slots kept → (at : ℕ) → get_or kept at None ≡ left drops (get_or slots at None)
  retained_left [] kept key h at = ap (λ ss. get_or ss at None) h
  retained_left (None ∷ slots) kept key h zero = ap (λ ss. get_or ss zero None) h.1
  retained_left (None ∷ slots) kept key h (suc at) = ap (λ ss. get_or ss (suc at) None) h.1 ∙ retained_left slots h.0 (key + 1) h.2 at
  retained_left (Some row ∷ slots) kept key h zero =
      let called = h.3 in
      let told = says key called.shown h.0 called.left h.2 called.called in
      ap (λ ss. get_or ss zero None) h.5 ∙ slot_left h.0 row h.1 (told.0 ∙ ap (λ r. not (drops r)) called.shows) (sym called.leaves ∙ told.1 ∙ called.shows)
  retained_left (Some row ∷ slots) kept key h (suc at) =
      let called = h.3 in
      let told = says key called.shown h.0 called.left h.2 called.called in
      ap (λ ss. get_or ss (suc at) None) h.5 ∙ retained_left slots h.4 (key + 1) (subst (λ g. RetainsFrom step g (key + 1) slots h.4) told.2 h.6) at

-- the keys of a map are those of the rows
module _ {R K : Type 0} (key : R → K) (slab : Slab R) where
  keys_at : (ats : List ℕ) → map (λ e. e.0) (indexed key slab ats) ≡ map key (rows_at slab ats)
  keys_at [] = refl
  keys_at (at ∷ ats) = by (get slab at) (keys_at ats)
    where
      by : (o : Option R) → map (λ e. e.0) (indexed key slab ats) ≡ map key (rows_at slab ats) → map (λ e. e.0) (entered key at o (indexed key slab ats)) ≡ map key (front o (rows_at slab ats))
      by None rest = rest
      by (Some row) rest = ap (λ ks. key row ∷ ks) rest

  length_at : (ats : List ℕ) → length (indexed key slab ats) ≡ length (rows_at slab ats)
  length_at [] = refl
  length_at (at ∷ ats) = by (get slab at) (length_at ats)
    where
      by : (o : Option R) → length (indexed key slab ats) ≡ length (rows_at slab ats) → length (entered key at o (indexed key slab ats)) ≡ length (front o (rows_at slab ats))
      by None rest = rest
      by (Some row) rest = ap suc rest

module _ {R K N : Type 0} (number : R → K) (name : R → N) (slab : Slab R) (ns : List (K × ℕ)) (ms : List (N × ℕ)) (sound : IsFiled number name slab ns ms) where
  pub length_filed : length ns ≡ length (filed slab ns)
  length_filed = ap length sound.numbers ∙ length_at number slab (places ns)

  pub distinct_numbers : (eq : K → K → Bool) → IsDistinct eq (map (λ e. e.0) ns) → IsDistinct eq (map number (filed slab ns))
  distinct_numbers eq h = subst (IsDistinct eq) (ap (map (λ e. e.0)) sound.numbers ∙ keys_at number slab (places ns)) h

  pub distinct_names : (eq : N → N → Bool) → IsDistinct eq (map (λ e. e.0) ms) → IsDistinct eq (map name (filed slab ns))
  distinct_names eq h = subst (IsDistinct eq) (ap (map (λ e. e.0)) sound.names ∙ keys_at name slab (places ns)) h

-- A row is changed where it stands.
module _ {R : Type 0} (to : R → R) (old new : Slab R) where
  same_key : {K : Type 0} (key : R → K) (keeps : (r : R) → key (to r) ≡ key r) (place : Option ℕ) (at : ℕ) (o : Option R) (es : List (K × ℕ)) → entered key at (written to place at o) es ≡ entered key at o es
  same_key key keeps None at o es = refl
  same_key key keeps (Some v) at None es = refl
  same_key key keeps (Some v) at (Some r) es =
      elim (cases_Bool (v == at)) [
        | inl h ↦ rw h (ap (λ k. (k, at) ∷ es) (keeps r))
        | inr h ↦ rw h refl
      ]

  none_written : (place : Option ℕ) (at : ℕ) → written to place at None ≡ None
  none_written None at = refl
  none_written (Some v) at = refl

  same_held : (place : Option ℕ) (at : ℕ) (o : Option R) → is_some (written to place at o) ≡ is_some o
  same_held None at o = refl
  same_held (Some v) at None = refl
  same_held (Some v) at (Some r) = refl

  module _ (place : Option ℕ) (rows : (at : ℕ) → get new at ≡ written to place at (get old at)) where
    indexed_written : {K : Type 0} (key : R → K) (keeps : (r : R) → key (to r) ≡ key r) (ats : List ℕ) → indexed key new ats ≡ indexed key old ats
    indexed_written key keeps [] = refl
    indexed_written key keeps (at ∷ ats) =
        (λ i. entered key at (rows at i) (indexed_written key keeps ats i)) ∙ same_key key keeps place at (get old at) (indexed key old ats)

    held_written : (ats : List ℕ) → AllByRecursion (λ at. is_some (get old at) ≡ true) ats → AllByRecursion (λ at. is_some (get new at) ≡ true) ats
    held_written [] h = tt
    held_written (at ∷ ats) h = (ap is_some (rows at) ∙ same_held place at (get old at) ∙ h.0, held_written ats h.1)

  module _ {K : Type 0} (number : R → K) (test : K → Bool) (eq : K → K → Bool) (eq_self : (k : K) → eq k k ≡ true) where
    abbrev Written : Option ℕ → Type 0
    Written place = (at : ℕ) → get new at ≡ written to place at (get old at)

    abbrev Apart : K → List (K × ℕ) → Type 0
    Apart k es = AllByRecursion (λ l. eq k l ≡ false) (map (λ e. e.0) es)

    written_other : (v at : ℕ) (o : Option R) → (v == at) ≡ false → written to (Some v) at o ≡ o
    written_other v at None h = refl
    written_other v at (Some r) h = rw h refl

    apart_later : (k : K) (at : ℕ) (o : Option R) (es : List (K × ℕ)) → Apart k (entered number at o es) → Apart k es
    apart_later k at None es apart = apart
    apart_later k at (Some r) es apart = apart.1

    -- no later place is that of a row with this number
    beside : (v : ℕ) (row : R) → get old v ≡ Some row → (ats : List ℕ) → Apart (number row) (indexed number old ats) → Written (Some v) → Stays old new ats
    beside v row is [] apart rows = tt
    beside v row is (at ∷ ats) apart rows =
        elim (cases_Bool (v == at)) [
          | inl h ↦
              let here : get old at ≡ Some row = ap (get old) (sym (eqb-true v at h)) ∙ is in
              let first = subst (λ o. Apart (number row) (entered number at o (indexed number old ats))) here apart in
              absurd (true≢false (sym (eq_self (number row)) ∙ first.0))
          | inr h ↦ (rows at ∙ written_other v at (get old at) h, beside v row is ats (apart_later (number row) at (get old at) (indexed number old ats) apart) rows)
        ]

    -- what is found passes the test
    looked_up : (ats : List ℕ) (v : ℕ) → lookup test (indexed number old ats) ≡ Some v → (row : R) × (get old v ≡ Some row) × (test (number row) ≡ true)
    looked_up [] v h = absurd (true≢false (sym (ap is_some h)))
    looked_up (at ∷ ats) v h = by (get old at) refl h (looked_up ats v)
      where
        by : (o : Option R) → get old at ≡ o → lookup test (entered number at o (indexed number old ats)) ≡ Some v → (lookup test (indexed number old ats) ≡ Some v → (row : R) × (get old v ≡ Some row) × (test (number row) ≡ true)) → (row : R) × (get old v ≡ Some row) × (test (number row) ≡ true)
        by None e h later = later h
        by (Some r) e h later =
            elim (cases_Bool (test (number r))) [
              | inl t ↦
                  let same : Some at ≡ Some v = rw t at h in
                  (r, ap (get old) (sym (same_Some at v same)) ∙ e, t)
              | inr t ↦ later (rw t at h)
            ]

    -- a place that isn't found stays
    passed_over : (ats : List ℕ) (at : ℕ) (row : R) → get old at ≡ Some row → test (number row) ≡ false → written to (lookup test (indexed number old ats)) at (Some row) ≡ Some row
    passed_over ats at row is fails = by (lookup test (indexed number old ats)) refl
      where
        by : (place : Option ℕ) → lookup test (indexed number old ats) ≡ place → written to place at (Some row) ≡ Some row
        by None e = refl
        by (Some v) e =
            elim (cases_Bool (v == at)) [
              | inl h ↦
                  let there = looked_up ats v e in
                  let same : Some there.0 ≡ Some row = sym there.1 ∙ ap (get old) (eqb-true v at h) ∙ is in
                  absurd (true≢false (sym there.2 ∙ ap (λ r. test (number r)) (same_Some there.0 row same) ∙ fails))
              | inr h ↦ rw h refl
            ]

    changed_at : (ats : List ℕ) → IsDistinct eq (map (λ e. e.0) (indexed number old ats)) → Written (lookup test (indexed number old ats)) → rows_at new ats ≡ changed (λ row. test (number row)) to (rows_at old ats)
    unfolding IsDistinct
    changed_at [] distinct rows = refl
    changed_at (at ∷ ats) distinct rows = by (get old at) refl distinct rows (changed_at ats)
      where
        by : (o : Option R) → get old at ≡ o → IsDistinct eq (map (λ e. e.0) (entered number at o (indexed number old ats))) → Written (lookup test (entered number at o (indexed number old ats)))
            → (IsDistinct eq (map (λ e. e.0) (indexed number old ats)) → Written (lookup test (indexed number old ats)) → rows_at new ats ≡ changed (λ row. test (number row)) to (rows_at old ats))
            → rows_at new (at ∷ ats) ≡ changed (λ row. test (number row)) to (front o (rows_at old ats))
        by None e distinct rows later =
            let place = lookup test (indexed number old ats) in
            let gone : get new at ≡ None = rows at ∙ ap (written to place at) e ∙ none_written place at in
            ap (λ o. front o (rows_at new ats)) gone ∙ later distinct rows
        by (Some row) e distinct rows later =
            elim (cases_Bool (test (number row))) [
              | inl t ↦
                  let found : Written (Some at) = rw t at rows in
                  let self : (at == at) ≡ true = eq-eqb at at refl in
                  let here : get new at ≡ Some (to row) = found at ∙ ap (written to (Some at) at) e ∙ rw self refl in
                  let stay = beside at row e ats distinct.0 found in
                  rw t (λ i. front (here i) (rows_stay old new ats stay i))
              | inr t ↦
                  let rest : Written (lookup test (indexed number old ats)) = rw t at rows in
                  let here : get new at ≡ Some row = rest at ∙ ap (written to (lookup test (indexed number old ats)) at) e ∙ passed_over ats at row e t in
                  rw t (λ i. front (here i) (later distinct.1 rest i))
            ]

    module _ {N : Type 0} (name : R → N) (keeps_number : (r : R) → number (to r) ≡ number r) (keeps_name : (r : R) → name (to r) ≡ name r) (ns : List (K × ℕ)) (ms : List (N × ℕ)) (sound : IsFiled number name old ns ms) (rows : Written (lookup test ns)) where
      pub changed_filed : IsFiled number name new ns ms
      changed_filed =
          filed_by number name new ns ms (places ns) refl
          (sound.numbers ∙ sym (indexed_written (lookup test ns) rows number keeps_number (places ns)))
          (sound.names ∙ sym (indexed_written (lookup test ns) rows name keeps_name (places ns)))
          (held_written (lookup test ns) rows (places ns) sound.held)

      pub changed_rows : IsDistinct eq (map (λ e. e.0) ns) → filed new ns ≡ changed (λ row. test (number row)) to (filed old ns)
      changed_rows distinct =
          changed_at (places ns) (subst (λ es. IsDistinct eq (map (λ e. e.0) es)) sound.numbers distinct) (subst (λ es. Written (lookup test es)) sound.numbers rows)

-- the row at a place of the list
pub row_at_place : {R : Type 0} (slab : Slab R) (ats : List ℕ) (i : ℕ) → AllByRecursion (λ at. is_some (get slab at) ≡ true) ats → option_and_then (get slab) (slice_get ats i) ≡ slice_get (rows_at slab ats) i
row_at_place slab [] i held = refl
row_at_place {R} slab (at ∷ ats) i held = by (get slab at) refl held.0 i (λ j. row_at_place slab ats j held.1)
  where
    by : (o : Option R) → get slab at ≡ o → is_some o ≡ true → (i : ℕ) → ((j : ℕ) → option_and_then (get slab) (slice_get ats j) ≡ slice_get (rows_at slab ats) j) → option_and_then (get slab) (slice_get (at ∷ ats) i) ≡ slice_get (front o (rows_at slab ats)) i
    by None e some i later = absurd (true≢false (sym some))
    by (Some row) e some zero later = e
    by (Some row) e some (suc j) later = later j
