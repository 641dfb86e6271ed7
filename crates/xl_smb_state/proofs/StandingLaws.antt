-- Laws of rows in places under keys, of which some are empty.
use Rattle.std.proofs.Common.{◌≡◌, Bool, true, false, cond, List, [], ◌∷◌, ◌++◌, Option, Some, None, is_some, filter, refl, sym, ap, ◌∙◌, inl, inr}
use Rattle.std.specs.Cmp.{IsEquivalence}
use Rattle.std.specs.List.{AllByRecursion, IsDistinct}
use Rattle.std.specs.Option.{IfSome, IfNone}
use Rattle.std.specs.Map.{keys_of, lookup, remove_entry, set_value}
use Rattle.std.proofs.lemmas.Bool.{cases_Bool}
use Rattle.std.proofs.lemmas.Map.{NonePasses, lookup-none, lookup-remove_entry, none_passes_from_lookup}
use Rattle.std.proofs.lemmas.Map.Keys.{IsDistinct-head, IsDistinct-tail, IsDistinct-cons}
use Rattle.std.proofs.lemmas.Map.Entries.{none_past_head}
use Rattle.xl_smb_state.specs.Filed.{in_front, standing, flat, left, replaced}
use Rattle.xl_smb_state.proofs.RowLaws.{none_some, some_none, none_out}

module _ {K A : Type 0} where
  -- ---- no place has the key

  pub none_stands : (t : K → Bool) (es : List (K × Option A)) → NonePasses t es → NonePasses t (standing es)
  none_stands t [] none = tt
  none_stands t (e ∷ es) none = front e.1 (none_stands t es none.1)
    where
      front : (o : Option A) → NonePasses t (standing es) → NonePasses t (in_front e.0 o (standing es))
      front None rest = rest
      front (Some row) rest = (none.0, rest)

  absent : (t : K → Bool) (es : List (K × Option A)) → NonePasses t es → lookup t (standing es) ≡ None
  absent t es none = lookup-none t (standing es) (none_stands t es none)

  set_none : (t : K → Bool) (rows : List (K × A)) (row : A) → NonePasses t rows → set_value t rows row ≡ rows
  set_none t [] row none = refl
  set_none t (r ∷ rows) row none = rw none.0 (ap (λ (rest : List (K × A)). r ∷ rest) (set_none t rows row none.1))

  replaced_none : (t : K → Bool) (to : Option A) (rows : List (K × A)) → NonePasses t rows → replaced t to rows ≡ rows
  replaced_none t None rows none = none_out t rows (lookup-none t rows none)
  replaced_none t (Some row) rows none = set_none t rows row none

  -- ---- look-ups

  lookup_front : (t : K → Bool) (k : K) (o : Option A) (rest : List (K × A)) → t k ≡ false → lookup t (in_front k o rest) ≡ lookup t rest
  lookup_front t k None rest other = refl
  lookup_front t k (Some row) rest other = rw other refl

  module _ (eq : K → K → Bool) (laws : IsEquivalence eq) where
    pub found_standing : (q : K) (es : List (K × Option A)) → IsDistinct eq (keys_of es) → lookup (eq q) (standing es) ≡ flat (lookup (eq q) es)
    found_standing q [] distinct = refl
    found_standing q (e ∷ es) distinct =
        elim (cases_Bool (eq q e.0)) [
          | inl here ↦ rw here (front here e.1)
          | inr later ↦ lookup_front (eq q) e.0 e.1 (standing es) later ∙ found_standing q es (IsDistinct-tail eq e.0 (keys_of es) distinct) ∙ rw later refl
        ]
      where
        front : eq q e.0 ≡ true → (o : Option A) → lookup (eq q) (in_front e.0 o (standing es)) ≡ o
        front here None = absent (eq q) es (none_past_head laws q e es distinct here)
        front here (Some row) = rw here refl

    -- ---- a place changes

    replaced_front : (t : K → Bool) (k : K) (o to : Option A) (rest : List (K × A)) → t k ≡ false → replaced t to (in_front k o rest) ≡ in_front k o (replaced t to rest)
    replaced_front t k None to rest other = refl
    replaced_front t k (Some row) None rest other = rw other refl
    replaced_front t k (Some row) (Some new) rest other = rw other refl

    replaced_here : (t : K → Bool) (k : K) (row : A) (to : Option A) (rest : List (K × A)) → t k ≡ true → replaced t to ((k, row) ∷ rest) ≡ in_front k to rest
    replaced_here t k row None rest here = rw here refl
    replaced_here t k row (Some new) rest here = rw here refl

    set_standing : (q : K) (place to : Option A) (es : List (K × Option A)) → IsDistinct eq (keys_of es) → lookup (eq q) es ≡ Some place → standing (set_value (eq q) es (left to place)) ≡ replaced (eq q) to (standing es)
    set_standing q place to [] distinct at = absurd (none_some at)
    set_standing q place to (e ∷ es) distinct at =
        elim (cases_Bool (eq q e.0)) [
          | inl here ↦ rw here (front here e.1 place (same (rw here at at)))
          | inr later ↦
              rw later (ap (in_front e.0 e.1) (set_standing q place to es (IsDistinct-tail eq e.0 (keys_of es) distinct) (rw later at at)))
              ∙ sym (replaced_front (eq q) e.0 e.1 to (standing es) later)
        ]
      where
        same : {x y : Option A} → Some x ≡ Some y → x ≡ y
        same h = cc

        front : eq q e.0 ≡ true → (o place : Option A) → o ≡ place → in_front e.0 (left to place) (standing es) ≡ replaced (eq q) to (in_front e.0 o (standing es))
        front here None None is = sym (replaced_none (eq q) to (standing es) (none_stands (eq q) es (none_past_head laws q e es distinct here)))
        front here None (Some row) is = absurd (none_some is)
        front here (Some row) None is = absurd (some_none is)
        front here (Some old) (Some row) is = sym (replaced_here (eq q) e.0 old to (standing es) here)

    pub exchanged_row : (q : K) (to found : Option A) (es fs : List (K × Option A)) → IfSome (lookup (eq q) es) (λ place. (fs ≡ set_value (eq q) es (left to place)) × (found ≡ place)) → IfNone (lookup (eq q) es) ((fs ≡ es) × (found ≡ None)) → IsDistinct eq (keys_of es) → found ≡ lookup (eq q) (standing es)
    exchanged_row q to found es fs some none distinct = by (lookup (eq q) es) refl some none
      where
        by : (o : Option (Option A)) → lookup (eq q) es ≡ o → IfSome o (λ place. (fs ≡ set_value (eq q) es (left to place)) × (found ≡ place)) → IfNone o ((fs ≡ es) × (found ≡ None)) → found ≡ lookup (eq q) (standing es)
        by None at h k = k.1 ∙ sym (found_standing q es distinct ∙ ap flat at)
        by (Some place) at h k = h.1 ∙ sym (found_standing q es distinct ∙ ap flat at)

    pub exchanged_rest : (q : K) (to found : Option A) (es fs : List (K × Option A)) → IfSome (lookup (eq q) es) (λ place. (fs ≡ set_value (eq q) es (left to place)) × (found ≡ place)) → IfNone (lookup (eq q) es) ((fs ≡ es) × (found ≡ None)) → IsDistinct eq (keys_of es) → standing fs ≡ replaced (eq q) to (standing es)
    exchanged_rest q to found es fs some none distinct = by (lookup (eq q) es) refl some none
      where
        by : (o : Option (Option A)) → lookup (eq q) es ≡ o → IfSome o (λ place. (fs ≡ set_value (eq q) es (left to place)) × (found ≡ place)) → IfNone o ((fs ≡ es) × (found ≡ None)) → standing fs ≡ replaced (eq q) to (standing es)
        by None at h k = ap standing k.0 ∙ sym (replaced_none (eq q) to (standing es) (none_stands (eq q) es (none_passes_from_lookup (eq q) es at)))
        by (Some place) at h k = ap standing h.0 ∙ set_standing q place to es distinct at

    -- ---- the keys of rows differ as those of places do

    apart_standing : (k : K) (es : List (K × Option A)) → AllByRecursion (λ y. eq k y ≡ false) (keys_of es) → AllByRecursion (λ y. eq k y ≡ false) (keys_of (standing es))
    apart_standing k [] all = tt
    apart_standing k (e ∷ es) all = front e.1 (apart_standing k es all.1)
      where
        front : (o : Option A) → AllByRecursion (λ y. eq k y ≡ false) (keys_of (standing es)) → AllByRecursion (λ y. eq k y ≡ false) (keys_of (in_front e.0 o (standing es)))
        front None rest = rest
        front (Some row) rest = (all.0, rest)

    pub distinct_standing : (es : List (K × Option A)) → IsDistinct eq (keys_of es) → IsDistinct eq (keys_of (standing es))
    distinct_standing [] distinct = distinct
    distinct_standing (e ∷ es) distinct = front e.1 (distinct_standing es (IsDistinct-tail eq e.0 (keys_of es) distinct))
      where
        front : (o : Option A) → IsDistinct eq (keys_of (standing es)) → IsDistinct eq (keys_of (in_front e.0 o (standing es)))
        front None rest = rest
        front (Some row) rest = IsDistinct-cons eq e.0 (keys_of (standing es)) (apart_standing e.0 es (IsDistinct-head eq e.0 (keys_of es) distinct)) rest

  -- ---- a row comes

  -- where no row stands under a key, its place may go
  pub removed_standing : (t : K → Bool) (es : List (K × Option A)) → lookup t (standing es) ≡ None → standing (remove_entry t es) ≡ standing es
  removed_standing t [] none = refl
  removed_standing t (e ∷ es) none =
      elim (cases_Bool (t e.0)) [
        | inl here ↦ rw here (front here e.1 none)
        | inr later ↦ rw later (ap (in_front e.0 e.1) (removed_standing t es (sym (lookup_front t e.0 e.1 (standing es) later) ∙ none)))
      ]
    where
      front : t e.0 ≡ true → (o : Option A) → lookup t (in_front e.0 o (standing es)) ≡ None → standing es ≡ in_front e.0 o (standing es)
      front here None h = refl
      front here (Some row) h = absurd (some_none (rw here at h))

  pub standing_added : (es : List (K × Option A)) (k : K) (row : A) → standing (es ++ (k, Some row) ∷ []) ≡ standing es ++ (k, row) ∷ []
  standing_added [] k row = refl
  standing_added (e ∷ es) k row = ap (in_front e.0 e.1) (standing_added es k row) ∙ front e.1
    where
      front : (o : Option A) → in_front e.0 o (standing es ++ (k, row) ∷ []) ≡ in_front e.0 o (standing es) ++ (k, row) ∷ []
      front None = refl
      front (Some old) = refl

  -- a place goes, and the same row comes behind the others
  pub row_added : (t : K → Bool) (k : K) (row : A) (es mid fs : List (K × Option A)) → lookup t (standing es) ≡ None → mid ≡ remove_entry t es → fs ≡ mid ++ (k, Some row) ∷ [] → standing fs ≡ standing es ++ (k, row) ∷ []
  row_added t k row es mid fs none gone come =
      ap standing come
      ∙ standing_added mid k row
      ∙ ap (λ (rows : List (K × A)). rows ++ (k, row) ∷ []) (ap standing gone ∙ removed_standing t es none)

  pub rows_still : (t : K → Bool) (es mid fs : List (K × Option A)) → lookup t (standing es) ≡ None → mid ≡ remove_entry t es → fs ≡ mid → standing fs ≡ standing es
  rows_still t es mid fs none gone same = ap standing (same ∙ gone) ∙ removed_standing t es none

  pub place_gone : (eq : K → K → Bool) (laws : IsEquivalence eq) (q : K) (es mid : List (K × Option A)) → IsDistinct eq (keys_of es) → mid ≡ remove_entry (eq q) es → lookup (eq q) mid ≡ None
  place_gone eq laws q es mid distinct gone =
      ap (lookup (eq q)) gone
      ∙ lookup-remove_entry laws (eq q) (λ x y h. laws.congr q x y h) q es distinct
      ∙ rw (laws.refl q) refl

  -- ---- empty places go

  pub standing_closed : (es : List (K × Option A)) → standing (filter (λ e. is_some e.1) es) ≡ standing es
  standing_closed [] = refl
  standing_closed (e ∷ es) = front e.1 (standing_closed es)
    where
      front : (o : Option A) → standing (filter (λ d. is_some d.1) es) ≡ standing es → standing (cond (is_some o) ((e.0, o) ∷ filter (λ d. is_some d.1) es) (filter (λ d. is_some d.1) es)) ≡ in_front e.0 o (standing es)
      front None rest = rest
      front (Some row) rest = ap (λ (rows : List (K × A)). (e.0, row) ∷ rows) rest

  pub closed_still : (es fs : List (K × Option A)) → fs ≡ filter (λ e. is_some e.1) es → standing fs ≡ standing es
  closed_still es fs is = ap standing is ∙ standing_closed es
