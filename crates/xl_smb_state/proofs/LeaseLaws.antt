-- An open that leaves its lease.
use Rattle.std.proofs.Common.{◌≡◌, ℕ, Bool, true, false, eqb, cond, List, [], ◌∷◌, ◌++◌, if◌then◌else◌, Option, Some, None, is_some, Result, Ok, Err, refl, sym, ap, subst, ◌∙◌, inl, inr, arith}
use Rattle.std.specs.Prelude.{nat_eq, bytes_eq}
use Rattle.std.specs.List.{AllByRecursion, IsDistinct, list_any, filter_map}
use Rattle.std.specs.Option.{IfSome, IfNone, option_map}
use Rattle.std.specs.Map.{keys_of, lookup, remove_entry, set_value}
use Rattle.std.proofs.lemmas.Bool.{cases_Bool, false≢true, true≢false, and_parts}
use Rattle.std.proofs.lemmas.Bool.Decides.{nat_tests}
use Rattle.std.specs.Result.{OnOk, OnErr, is_ok}
use Rattle.std.proofs.lemmas.Map.Steps.{set_value_same}
use Rattle.std.proofs.lemmas.Slice.Eq.{bytes_eq-Decides}
use Rattle.xl_base.proofs.Members.{all_weaker}
use Rattle.std.proofs.lemmas.Map.Keys.{IsDistinct-head, IsDistinct-tail}
use Rattle.xl_smb_state.specs.declared.row.LeaseKey.{LeaseKey}
use Rattle.xl_smb_state.specs.declared.row.Lease.{Lease}
use Rattle.xl_smb_state.specs.declared.row.Open.{Open}
use Rattle.xl_smb_state.specs.State.{Lists, is_key, key_of, is_empty, same_lease, without, left_row, grown_row, joined, kept_lease, lease_left, is_listed, open_of, open_added, lease_of, lease_added, lease_joined, lease_begun, come_under, with_open, is_of_file, is_last, is_last_under, is_last_open}
use Rattle.xl_smb_state.specs.Links.{ListsOnly, IsLeaseLinked, is_under, only_opens}
use Rattle.xl_smb_state.proofs.LinkLaws.{same_lease_is}
use Rattle.xl_smb_state.proofs.RowLaws.{none_some, equal_from, equal_self, same_Some}

without_absent : (number : ℕ) (ns : List ℕ) → list_any (nat_eq number) ns ≡ false → without number ns ≡ ns
without_absent number [] h = refl
without_absent number (n ∷ ns) h =
    elim (cases_Bool (eqb number n)) [
      | inl same ↦ absurd (true≢false (rw same at h))
      | inr apart ↦ let other : eqb n number ≡ false = grind (arith, nat_tests) in rw other (ap (λ ms. n ∷ ms) (without_absent number ns (rw apart at h)))
    ]

kept_whole : (number : ℕ) (e : LeaseKey × Lease) → list_any (nat_eq number) e.1.opens ≡ false → is_empty e.1.opens ≡ false → kept_lease number e ≡ Some e
kept_whole number e absent filled =
    let same = without_absent number e.1.opens absent in
    ap (λ ns. cond (is_empty ns) None (Some (e.0, record { file = e.1.file; opens = ns }))) same
    ∙ ap (λ b. cond b None (Some e)) filled

-- where no lease has the key nothing changes
pub none_left : (key : LeaseKey) (number : ℕ) (es : List (LeaseKey × Lease)) → AllByRecursion (λ e. same_lease key e.0 ≡ false) es → AllByRecursion (ListsOnly key number) es → filter_map (kept_lease number) es ≡ es
none_left key number [] apart only = refl
none_left key number (e ∷ es) apart only =
    rw (kept_whole number e (only.0.0 apart.0) only.0.1) (ap (λ fs. e ∷ fs) (none_left key number es apart.1 only.1))

pub none_found : (key : LeaseKey) (es : List (LeaseKey × Lease)) → lookup (same_lease key) es ≡ None → AllByRecursion (λ e. same_lease key e.0 ≡ false) es
none_found key [] h = tt
none_found key (e ∷ es) h =
    elim (cases_Bool (same_lease key e.0)) [
      | inl same ↦ absurd (none_some (sym (rw same at h)))
      | inr apart ↦ (apart, none_found key es (rw apart at h))
    ]

pub left_nowhere : (key : LeaseKey) (number : ℕ) (es : List (LeaseKey × Lease)) → lookup (same_lease key) es ≡ None → AllByRecursion (ListsOnly key number) es → filter_map (kept_lease number) es ≡ es
left_nowhere key number es h only = none_left key number es (none_found key es h) only

pub others_apart : (key k : LeaseKey) (es : List (LeaseKey × Lease)) → same_lease key k ≡ true → AllByRecursion (λ y. same_lease k y ≡ false) (keys_of es) → AllByRecursion (λ e. same_lease key e.0 ≡ false) es
others_apart key k [] same all = tt
others_apart key k (e ∷ es) same all = (subst (λ j. same_lease j e.0 ≡ false) (sym (same_lease_is key k same)) all.0, others_apart key k es same all.1)

-- where a lease has the key it alone changes, and goes where no open is left
pub left_one : (key : LeaseKey) (number : ℕ) (row : Lease) (es : List (LeaseKey × Lease)) → IsDistinct same_lease (keys_of es) → lookup (same_lease key) es ≡ Some row → AllByRecursion (ListsOnly key number) es
    → filter_map (kept_lease number) es ≡ cond (is_empty (without number row.opens)) (remove_entry (same_lease key) es) (set_value (same_lease key) es (left_row number row))
left_one key number row [] distinct h only = absurd (none_some h)
left_one key number row (e ∷ es) distinct h only =
    elim (cases_Bool (same_lease key e.0)) [
      | inl same ↦
          let found : e.1 ≡ row = same_Some (rw same at h) in
          let rest = none_left key number es (others_apart key e.0 es same (IsDistinct-head same_lease e.0 (keys_of es) distinct)) only.1 in
          subst (λ r. filter_map (kept_lease number) (e ∷ es) ≡ cond (is_empty (without number r.opens)) (remove_entry (same_lease key) (e ∷ es)) (set_value (same_lease key) (e ∷ es) (left_row number r))) found
          (elim (cases_Bool (is_empty (without number e.1.opens))) [
            | inl none ↦ rw (none, same) rest
            | inr some ↦ rw (some, same) (ap (λ fs. (e.0, left_row number e.1) ∷ fs) rest)
          ])
      | inr apart ↦
          let rest = left_one key number row es (IsDistinct-tail same_lease e.0 (keys_of es) distinct) (rw apart at h) only.1 in
          rw (kept_whole number e (only.0.0 apart) only.0.1, apart) (ap (λ fs. e ∷ fs) rest ∙ behind (is_empty (without number row.opens)))
    ]
  where
    behind : (b : Bool) → e ∷ cond b (remove_entry (same_lease key) es) (set_value (same_lease key) es (left_row number row)) ≡ cond b (e ∷ remove_entry (same_lease key) es) (e ∷ set_value (same_lease key) es (left_row number row))
    behind true = refl
    behind false = refl

-- a row that is taken out goes whatever it was made before
pub remove_set : (key : LeaseKey) (es : List (LeaseKey × Lease)) (row : Lease) → remove_entry (same_lease key) (set_value (same_lease key) es row) ≡ remove_entry (same_lease key) es
remove_set key [] row = refl
remove_set key (e ∷ es) row =
    elim (cases_Bool (same_lease key e.0)) [
      | inl same ↦
          ap (λ b. remove_entry (same_lease key) (cond b ((e.0, row) ∷ es) (e ∷ set_value (same_lease key) es row))) same
          ∙ ap (λ b. cond b es ((e.0, row) ∷ remove_entry (same_lease key) es)) same
          ∙ sym (ap (λ b. cond b es (e ∷ remove_entry (same_lease key) es)) same)
      | inr apart ↦
          ap (λ b. remove_entry (same_lease key) (cond b ((e.0, row) ∷ es) (e ∷ set_value (same_lease key) es row))) apart
          ∙ ap (λ b. cond b (set_value (same_lease key) es row) (e ∷ remove_entry (same_lease key) (set_value (same_lease key) es row))) apart
          ∙ ap (λ fs. e ∷ fs) (remove_set key es row)
          ∙ sym (ap (λ b. cond b es (e ∷ remove_entry (same_lease key) es)) apart)
    ]

-- a lease is shrunk, and goes where it is empty then
pub shrunk : (key : LeaseKey) (number : ℕ) (es mid : List (LeaseKey × Lease)) (emptied : Bool) → IfSome (lookup (same_lease key) es) (λ row. (mid ≡ set_value (same_lease key) es (left_row number row)) × (emptied ≡ is_empty (without number row.opens))) → IfNone (lookup (same_lease key) es) ((mid ≡ es) × (emptied ≡ false)) → IsDistinct same_lease (keys_of es) → AllByRecursion (ListsOnly key number) es
    → cond emptied (remove_entry (same_lease key) mid) mid ≡ filter_map (kept_lease number) es
shrunk key number es mid emptied some none distinct only = by (lookup (same_lease key) es) refl some none
  where
    by : (found : Option Lease) → lookup (same_lease key) es ≡ found → IfSome found (λ row. (mid ≡ set_value (same_lease key) es (left_row number row)) × (emptied ≡ is_empty (without number row.opens))) → IfNone found ((mid ≡ es) × (emptied ≡ false)) → cond emptied (remove_entry (same_lease key) mid) mid ≡ filter_map (kept_lease number) es
    by None at h k = ap (λ b. cond b (remove_entry (same_lease key) mid) mid) k.1 ∙ k.0 ∙ sym (left_nowhere key number es at only)
    by (Some row) at h k =
        ap (λ fs. cond emptied (remove_entry (same_lease key) fs) fs) h.0
        ∙ ap (λ fs. cond emptied fs (set_value (same_lease key) es (left_row number row))) (remove_set key es (left_row number row))
        ∙ ap (λ b. cond b (remove_entry (same_lease key) es) (set_value (same_lease key) es (left_row number row))) h.1
        ∙ sym (left_one key number row es distinct at only)

-- ---- a lease is put back, changed, in place of one that stood for it

set_again : (key : LeaseKey) (es : List (LeaseKey × Lease)) (one other : Lease) → set_value (same_lease key) (set_value (same_lease key) es one) other ≡ set_value (same_lease key) es other
set_again key [] one other = refl
set_again key (e ∷ es) one other =
    elim (cases_Bool (same_lease key e.0)) [
      | inl same ↦ rw same (rw same refl)
      | inr apart ↦ rw apart (rw apart (ap (λ (fs : List (LeaseKey × Lease)). e ∷ fs) (set_again key es one other)))
    ]

back_again : (key : LeaseKey) (es mid new : List (LeaseKey × Lease)) (one other : Lease) → mid ≡ set_value (same_lease key) es one → new ≡ set_value (same_lease key) mid other → new ≡ set_value (same_lease key) es other
back_again key es mid new one other h k = k ∙ ap (λ (fs : List (LeaseKey × Lease)). set_value (same_lease key) fs other) h ∙ set_again key es one other

pub shrunk_there : (key : LeaseKey) (number : ℕ) (row one : Lease) (es mid new : List (LeaseKey × Lease)) (emptied : Bool) → Some row ≡ lookup (same_lease key) es → mid ≡ set_value (same_lease key) es one → new ≡ set_value (same_lease key) mid (left_row number row) → emptied ≡ is_empty (without number row.opens) → IfSome (lookup (same_lease key) es) (λ r. (new ≡ set_value (same_lease key) es (left_row number r)) × (emptied ≡ is_empty (without number r.opens)))
shrunk_there key number row one es mid new emptied at set back is = subst (λ (o : Option Lease). IfSome o (λ r. (new ≡ set_value (same_lease key) es (left_row number r)) × (emptied ≡ is_empty (without number r.opens)))) at (back_again key es mid new one (left_row number row) set back, is)

pub grown_there : (key : LeaseKey) (number : ℕ) (row one : Lease) (es mid new : List (LeaseKey × Lease)) (ok : Bool) → Some row ≡ lookup (same_lease key) es → mid ≡ set_value (same_lease key) es one → new ≡ set_value (same_lease key) mid (if ok then grown_row number row else row) → IfSome (lookup (same_lease key) es) (λ r. new ≡ set_value (same_lease key) es (if ok then grown_row number r else r))
grown_there key number row one es mid new ok at set back = subst (λ (o : Option Lease). IfSome o (λ r. new ≡ set_value (same_lease key) es (if ok then grown_row number r else r))) at (back_again key es mid new one (if ok then grown_row number row else row) set back)

-- where no lease has the key, none is changed
set_nowhere : (key : LeaseKey) (es : List (LeaseKey × Lease)) (one : Lease) → lookup (same_lease key) es ≡ None → set_value (same_lease key) es one ≡ es
set_nowhere key [] one h = refl
set_nowhere key (e ∷ es) one h =
    elim (cases_Bool (same_lease key e.0)) [
      | inl same ↦ absurd (none_some (sym (rw same at h)))
      | inr apart ↦ rw apart (ap (λ (fs : List (LeaseKey × Lease)). e ∷ fs) (set_nowhere key es one (rw apart at h)))
    ]

pub ungrown_there : (key : LeaseKey) (one : Lease) (es new : List (LeaseKey × Lease)) → None ≡ lookup (same_lease key) es → new ≡ set_value (same_lease key) es one → IfNone (lookup (same_lease key) es) (new ≡ es)
ungrown_there key one es new at set = subst (λ (o : Option Lease). IfNone o (new ≡ es)) at (set ∙ set_nowhere key es one (sym at))

pub unchanged_there : (key : LeaseKey) (one : Lease) (es new : List (LeaseKey × Lease)) (emptied : Bool) → None ≡ lookup (same_lease key) es → new ≡ set_value (same_lease key) es one → emptied ≡ false → IfNone (lookup (same_lease key) es) ((new ≡ es) × (emptied ≡ false))
unchanged_there key one es new emptied at set is = subst (λ (o : Option Lease). IfNone o ((new ≡ es) × (emptied ≡ false))) at (set ∙ set_nowhere key es one (sym at), is)

-- once an open has left, no lease lists it
absent_without : (number : ℕ) (ns : List ℕ) → list_any (nat_eq number) (without number ns) ≡ false
absent_without number [] = refl
absent_without number (n ∷ ns) =
    elim (cases_Bool (eqb n number)) [
      | inl same ↦ rw same (absent_without number ns)
      | inr apart ↦ let other : eqb number n ≡ false = grind (arith, nat_tests) in rw (apart, other) (absent_without number ns)
    ]

unlisted_in : (number : ℕ) (es : List (LeaseKey × Lease)) → list_any (λ e. list_any (nat_eq number) e.1.opens) (filter_map (kept_lease number) es) ≡ false
unlisted_in number [] = refl
unlisted_in number (e ∷ es) =
    elim (cases_Bool (is_empty (without number e.1.opens))) [
      | inl none ↦ rw none (unlisted_in number es)
      | inr some ↦ rw (some, absent_without number e.1.opens) (unlisted_in number es)
    ]

pub unlisted : (number : ℕ) (s : Lists) → is_listed number (lease_left number s) ≡ false
unlisted number s = unlisted_in number s.leases

-- ---- by the open's own row

bytes_self : (a : List ℕ) → bytes_eq a a ≡ true
bytes_self a = (bytes_eq-Decides a a).1 refl

pub same_lease_self : (a : LeaseKey) → same_lease a a ≡ true
same_lease_self a = rw (bytes_self a.client, bytes_self a.key) refl

key_under : (key mine : LeaseKey) (file : ℕ) (found : Option Open) → is_under key file found ≡ true → key_of found ≡ Some mine → same_lease mine key ≡ true
key_under key mine file None h k = absurd (false≢true h)
key_under key mine file (Some row) h k = by row.lease (and_parts (eqb row.file file) (is_key key row.client row.lease) h).1 k
  where
    by : (name : Option (List ℕ)) → is_key key row.client name ≡ true → option_map (λ n. record { client = row.client; key = n }) name ≡ Some mine → same_lease mine key ≡ true
    by None h k = absurd (false≢true h)
    by (Some name) h k =
        let both = and_parts (bytes_eq key.client row.client) (bytes_eq key.key name) h in
        let client = (bytes_eq-Decides key.client row.client).0 both.0 in
        let inside = (bytes_eq-Decides key.key name).0 both.1 in
        let mine_is : record { client = row.client; key = name } ≡ mine = same_Some k in
        subst (λ m. same_lease m key ≡ true) mine_is (rw (← client, ← inside) (same_lease_self key))

key_none : (key : LeaseKey) (file : ℕ) (found : Option Open) → is_under key file found ≡ true → key_of found ≡ None → ⊥
key_none key file None h k = false≢true h
key_none key file (Some row) h k = by row.lease (and_parts (eqb row.file file) (is_key key row.client row.lease) h).1 k
  where
    by : (name : Option (List ℕ)) → is_key key row.client name ≡ true → option_map {U = LeaseKey} (λ n. record { client = row.client; key = n }) name ≡ None → ⊥
    by None h k = false≢true h
    by (Some name) h k = none_some (sym k)

-- an open that a lease lists is under it
listed_under : (P : ℕ → Type 0) (number : ℕ) (ns : List ℕ) → AllByRecursion P ns → list_any (nat_eq number) ns ≡ true → P number
listed_under P number [] all h = absurd (false≢true h)
listed_under P number (n ∷ ns) all h =
    elim (cases_Bool (eqb number n)) [
      | inl same ↦ subst P (equal_from number n same) all.0
      | inr apart ↦ listed_under P number ns all.1 (rw apart at h)
    ]

unlisted_here : (number : ℕ) (ns : List ℕ) → (list_any (nat_eq number) ns ≡ true → ⊥) → list_any (nat_eq number) ns ≡ false
unlisted_here number ns never = elim (cases_Bool (list_any (nat_eq number) ns)) [ inl h ↦ absurd (never h) | inr h ↦ h ]

pub lists_only : (opens : List (ℕ × Open)) (key : LeaseKey) (number : ℕ) (es : List (LeaseKey × Lease)) → AllByRecursion (λ e. IsLeaseLinked (only_opens opens) e.0 e.1) es → key_of (lookup (nat_eq number) opens) ≡ Some key → AllByRecursion (ListsOnly key number) es
lists_only opens key number es all mine =
    all_weaker (λ e. IsLeaseLinked (only_opens opens) e.0 e.1) (ListsOnly key number) es
    (λ e h. (
      λ apart. unlisted_here number e.1.opens (λ listed. true≢false (sym (key_under e.0 key e.1.file (lookup (nat_eq number) opens) (listed_under (λ n. is_under e.0 e.1.file (lookup (nat_eq n) opens) ≡ true) number e.1.opens h.1 listed) mine) ∙ apart)),
      h.0,
    ))
    all

pub listed_nowhere : (opens : List (ℕ × Open)) (number : ℕ) (es : List (LeaseKey × Lease)) → AllByRecursion (λ e. IsLeaseLinked (only_opens opens) e.0 e.1) es → key_of (lookup (nat_eq number) opens) ≡ None → filter_map (kept_lease number) es ≡ es
listed_nowhere opens number [] all mine = refl
listed_nowhere opens number (e ∷ es) all mine =
    let absent = unlisted_here number e.1.opens (λ listed. key_none e.0 e.1.file (lookup (nat_eq number) opens) (listed_under (λ n. is_under e.0 e.1.file (lookup (nat_eq n) opens) ≡ true) number e.1.opens all.0.1 listed) mine) in
    rw (kept_whole number e absent all.0.0) (ap (λ fs. e ∷ fs) (listed_nowhere opens number es all.1 mine))

-- ---- an open that joins a lease

module _ {A E : Type 0} where
  abbrev Grows : LeaseKey → ℕ → List (LeaseKey × Lease) → List (LeaseKey × Lease) → Result A E → Option Lease → Type 0
  Grows key number es mid r found = IfSome found (λ row. mid ≡ set_value (same_lease key) es (cond (is_ok r) (grown_row number row) row))

  pub grown_ok : (key : LeaseKey) (number : ℕ) (es mid : List (LeaseKey × Lease)) (r : Result A E) → Grows key number es mid r (lookup (same_lease key) es) → IfNone (lookup (same_lease key) es) (mid ≡ es) → OnOk r (mid ≡ joined number (lookup (same_lease key) es) key es)
  grown_ok key number es mid (Err e) some none = tt
  grown_ok key number es mid (Ok x) some none = by (lookup (same_lease key) es) some none
    where
      by : (found : Option Lease) → IfSome found (λ row. mid ≡ set_value (same_lease key) es (grown_row number row)) → IfNone found (mid ≡ es) → mid ≡ joined number found key es
      by None h k = k
      by (Some row) h k = h

  pub grown_err : (key : LeaseKey) (number : ℕ) (es mid : List (LeaseKey × Lease)) (r : Result A E) → Grows key number es mid r (lookup (same_lease key) es) → IfNone (lookup (same_lease key) es) (mid ≡ es) → OnErr r (mid ≡ es)
  grown_err key number es mid (Ok x) some none = tt
  grown_err key number es mid (Err e) some none = by (lookup (same_lease key) es) refl some none
    where
      by : (found : Option Lease) → lookup (same_lease key) es ≡ found → IfSome found (λ row. mid ≡ set_value (same_lease key) es row) → IfNone found (mid ≡ es) → mid ≡ es
      by None at h k = k
      by (Some row) at h k = h ∙ set_value_same (same_lease key) es row at

-- ---- the last open of a lease

pub last_under : (number : ℕ) (key : LeaseKey) (s : Lists) (b : Bool) → key_of (open_of number s) ≡ Some key → b ≡ is_last number (lease_of key s) → b ≡ is_last_open number s
last_under number key s b at is = is ∙ ap (λ (o : Option LeaseKey). is_last_under number o s) (sym at)

-- ---- an open that comes under a lease

row_came : (number : ℕ) (row : Open) (es : List (ℕ × Open)) → lookup (nat_eq number) es ≡ None → lookup (nat_eq number) (es ++ (number, row) ∷ []) ≡ Some row
row_came number row [] none = rw (equal_self number) refl
row_came number row (e ∷ es) none =
    elim (cases_Bool (eqb number e.0)) [
      | inl same ↦ absurd (none_some (sym (rw same at none)))
      | inr apart ↦ rw apart (row_came number row es (rw apart at none))
    ]

own_key : (row : Open) (name : Option (List ℕ)) (key : LeaseKey) → option_map (λ k. record { client = row.client; key = k }) name ≡ Some key → is_key key row.client name ≡ true
own_key row None key e = absurd (none_some e)
own_key row (Some name) key e =
    let is : record { client = row.client; key = name } ≡ key = same_Some e in
    subst (λ (k : LeaseKey). is_key k row.client (Some name) ≡ true) is (rw ((bytes_eq-Decides row.client row.client).1 refl, (bytes_eq-Decides name name).1 refl) refl)

-- it is under the lease that it asks for
pub comes_under : (number : ℕ) (row : Open) (key : LeaseKey) (s : Lists) → open_of number s ≡ None → key_of (Some row) ≡ Some key → is_under key row.file (open_of number (open_added number row s)) ≡ true
comes_under number row key s none e =
    ap (is_under key row.file) (row_came number row s.opens none)
    ∙ rw (equal_self row.file) (own_key row row.lease key e)

-- it begins the lease, or joins it
pub under_lease : (key : LeaseKey) (file number : ℕ) (s : Lists) → is_of_file file (lease_of key s) ≡ true → is_under key file (open_of number s) ≡ true → IfSome (lease_of key s) (λ row. is_under key row.file (open_of number s) ≡ true)
under_lease key file number s on under = by (lease_of key s) on where
  by : (o : Option Lease) → is_of_file file o ≡ true → IfSome o (λ row. is_under key row.file (open_of number s) ≡ true)
  by None on = tt
  by (Some row) on = subst (λ (n : ℕ). is_under key n (open_of number s) ≡ true) (equal_from row.file file on) under

pub first_linked : (key : LeaseKey) (file number : ℕ) (s : Lists) → is_under key file (open_of number s) ≡ true → IsLeaseLinked s key (record { file = file; opens = number ∷ [] })
first_linked key file number s under = (refl, (under, tt))

pub lease_elsewhere : (key : LeaseKey) (file number : ℕ) (s : Lists) → is_of_file file (lease_of key s) ≡ false → s ≡ lease_begun number file key (lease_of key s) s
lease_elsewhere key file number s apart = by (lease_of key s) apart where
  by : (o : Option Lease) → is_of_file file o ≡ false → s ≡ lease_begun number file key o s
  by None apart = absurd (true≢false apart)
  by (Some row) apart = rw apart refl

pub lease_joins : (key : LeaseKey) (file number : ℕ) (s : Lists) → is_of_file file (lease_of key s) ≡ true → is_some (lease_of key s) ≡ true → lease_joined key number s ≡ lease_begun number file key (lease_of key s) s
lease_joins key file number s on there = by (lease_of key s) on there where
  by : (o : Option Lease) → is_of_file file o ≡ true → is_some o ≡ true → lease_joined key number s ≡ lease_begun number file key o s
  by None on there = absurd (false≢true there)
  by (Some row) on there = rw on refl

pub lease_begins : (key : LeaseKey) (file number : ℕ) (s : Lists) → is_some (lease_of key s) ≡ false → (lease_added key (record { file = file; opens = number ∷ [] }) s ≡ lease_begun number file key (lease_of key s) s) × (lease_of key s ≡ None)
lease_begins key file number s new = by (lease_of key s) new where
  by : (o : Option Lease) → is_some o ≡ false → (lease_added key (record { file = file; opens = number ∷ [] }) s ≡ lease_begun number file key o s) × (o ≡ None)
  by None new = (refl, refl)
  by (Some row) new = absurd (true≢false new)

-- ---- what stands where an open comes

begun_keeps : (number file : ℕ) (key : LeaseKey) (found : Option Lease) (s : Lists) → lease_begun number file key found s ≡ record s { leases = (lease_begun number file key found s).leases }
begun_keeps number file key None s = refl
begun_keeps number file key (Some row) s = by (eqb row.file file)
  where
    by : (b : Bool) → (if b then lease_joined key number s else s) ≡ record s { leases = (if b then lease_joined key number s else s).leases }
    by true = refl
    by false = refl

under_keeps : (number file : ℕ) (key : Option LeaseKey) (s : Lists) → come_under number file key s ≡ record s { leases = (come_under number file key s).leases }
under_keeps number file None s = refl
under_keeps number file (Some key) s = begun_keeps number file key (lease_of key s) s

-- an open that is added stands, and of all else the leases alone change
pub with_keeps : (number : ℕ) (row : Open) (s : Lists) → with_open number row s ≡ record (open_added number row s) { leases = (with_open number row s).leases }
with_keeps number row s = under_keeps number row.file (key_of (Some row)) (open_added number row s)
