-- The key of a lease is in use on one file, and an open comes under the lease that it asks for and stays there.
use Rattle.std.proofs.Common.{◌≡◌, ℕ, Bool, true, false, not, eqb, List, [], ◌∷◌, ◌++◌, Option, Some, None, if◌then◌else◌, refl, sym, ap, subst, ◌∙◌, inl, inr}
use Rattle.std.specs.Prelude.{nat_eq, bytes_eq}
use Rattle.std.specs.List.{AllByRecursion, IsDistinct, filter_map, list_any}
use Rattle.std.specs.Map.{keys_of, lookup, set_value}
use Rattle.std.specs.Option.{option_map}
use Rattle.std.proofs.lemmas.Bool.{cases_Bool, true≢false, false≢true, and_parts}
use Rattle.std.proofs.lemmas.Map.Keys.{IsDistinct-head, IsDistinct-tail}
use Rattle.std.proofs.lemmas.Slice.Eq.{bytes_eq-Decides}
use Rattle.xl_base.proofs.Members.{all_append, all_weaker}
use Rattle.xl_base.specs.Lists.{IsIn}
use Rattle.xl_smb_state.proofs.LeaseLaws.{none_found, others_apart, same_lease_self}
use Rattle.xl_smb_state.proofs.LinkLaws.{same_lease_is}
use Rattle.xl_smb_state.proofs.RowLaws.{all_mapped, all_set, equal_from, equal_self, none_some, same_Some}
use Rattle.xl_smb_state.specs.State.{Lists, closed, come_under, file_for, grown_row, is_empty, is_key, is_of_file, joined, kept_lease, key_file, key_of, lease_begun, lease_joined, lease_of, left_row, open_added, or_else, same_lease, tree_dropped, trees_of, sessions_on, waiting_file, with_open, without}
use Rattle.xl_smb_state.specs.declared.row.Lease.{Lease}
use Rattle.xl_smb_state.specs.declared.row.LeaseKey.{LeaseKey}
use Rattle.xl_smb_state.specs.declared.row.Open.{Open}
use Rattle.xl_smb_state.specs.declared.row.Request.{Request}
use Rattle.xl_smb_state.specs.declared.row.Request.TheVariants as request
use Rattle.xl_smb_state.specs.declared.row.Waiting.{Waiting}
use Rattle.xl_smb_laws.specs.WaitingRequests.{IsOnFile, IsUnder, IsUsedOn}
use Rattle.xl_front_smb.specs.Ending.{all_closed, connection_gone, session_gone, sessions_gone, trees_dropped}
use Rattle.xl_front_smb.specs.Files.{is_key_elsewhere, is_other}
use Rattle.xl_front_smb.specs.Laws.{IsLeased}

-- ---- leases of one key

-- the one that is found is on the file
found_on : (key : LeaseKey) (file : ℕ) (es : List (LeaseKey × Lease)) (row : Lease) → AllByRecursion (IsOnFile key file) es → lookup (same_lease key) es ≡ Some row → row.file ≡ file
found_on key file [] row all at = absurd (none_some at)
found_on key file (e ∷ es) row all at =
    elim (cases_Bool (same_lease key e.0)) [
      | inl same ↦ subst (λ (r : Lease). r.file ≡ file) (same_Some (rw same at at)) (all.0 same)
      | inr apart ↦ found_on key file es row all.1 (rw apart at at)
    ]

apart_on : (key : LeaseKey) (file : ℕ) (es : List (LeaseKey × Lease)) → AllByRecursion (λ (e : LeaseKey × Lease). same_lease key e.0 ≡ false) es → AllByRecursion (IsOnFile key file) es
apart_on key file es all = all_weaker (λ (e : LeaseKey × Lease). same_lease key e.0 ≡ false) (IsOnFile key file) es (λ e apart same. absurd (true≢false (sym same ∙ apart))) all

one_on : (key : LeaseKey) (es : List (LeaseKey × Lease)) (row : Lease) → IsDistinct same_lease (keys_of es) → lookup (same_lease key) es ≡ Some row → AllByRecursion (IsOnFile key row.file) es
one_on key [] row distinct at = absurd (none_some at)
one_on key (e ∷ es) row distinct at =
    elim (cases_Bool (same_lease key e.0)) [
      | inl same ↦ (λ h. ap (λ (r : Lease). r.file) (same_Some (rw same at at)), apart_on key row.file es (others_apart key e.0 es same (IsDistinct-head same_lease e.0 (keys_of es) distinct)))
      | inr apart ↦ (λ h. absurd (true≢false (sym h ∙ apart)), one_on key es row (IsDistinct-tail same_lease e.0 (keys_of es) distinct) (rw apart at at))
    ]

-- ---- requests that wait to make an open under one

first_on : (key : LeaseKey) (es : List (ℕ × Waiting)) (file : ℕ) → waiting_file key es ≡ Some file → (x : ℕ × Waiting) × IsIn x es × (file_for key x.1.request ≡ Some file)
first_on key [] file at = absurd (none_some at)
first_on key (e ∷ es) file at = by (file_for key e.1.request) refl at (λ found. first_on key es file found)
  where
    by : (o : Option ℕ) → file_for key e.1.request ≡ o → or_else o (waiting_file key es) ≡ Some file → (waiting_file key es ≡ Some file → (x : ℕ × Waiting) × IsIn x es × (file_for key x.1.request ≡ Some file))
        → (x : ℕ × Waiting) × IsIn x (e ∷ es) × (file_for key x.1.request ≡ Some file)
    by (Some f) is found behind = (e, inl refl, is ∙ found)
    by None is found behind = let rest = behind found in (rest.0, inr rest.1, rest.2)

none_on : (key : LeaseKey) (es : List (ℕ × Waiting)) (x : ℕ × Waiting) (file : ℕ) → waiting_file key es ≡ None → IsIn x es → file_for key x.1.request ≡ Some file → ⊥
none_on key [] x file none here at = here
none_on key (e ∷ es) x file none here at = by (file_for key e.1.request) refl none (λ none_behind rest. none_on key es x file none_behind rest at)
  where
    by : (o : Option ℕ) → file_for key e.1.request ≡ o → or_else o (waiting_file key es) ≡ None → (waiting_file key es ≡ None → IsIn x es → ⊥) → ⊥
    by (Some f) is none_here behind = none_some (sym none_here)
    by None is none_here behind = elim here [ inl same ↦ none_some (sym is ∙ ap (λ (y : ℕ × Waiting). file_for key y.1.request) same ∙ at) | inr rest ↦ behind none_here rest ]

-- the open that it waits to make is on this file
pub own_file : (key : LeaseKey) (file : ℕ) (made : Open) → file_for key (request.Create made) ≡ Some file → (is_key key made.client made.lease ≡ true) × (made.file ≡ file)
own_file key file made at = by (is_key key made.client made.lease) refl at
  where
    by : (b : Bool) → is_key key made.client made.lease ≡ b → (if b then Some made.file else None) ≡ Some file → (is_key key made.client made.lease ≡ true) × (made.file ≡ file)
    by true is found = (is, same_Some found)
    by false is found = absurd (none_some found)

pub has_file : (key : LeaseKey) (made : Open) → is_key key made.client made.lease ≡ true → file_for key (request.Create made) ≡ Some made.file
has_file key made is = rw is refl

-- each that waits to make an open under it has the key in use on its file alone
abbrev pub AllUsed : Lists → Type 0
AllUsed l = (x : ℕ × Waiting) → IsIn x l.waiting → (key : LeaseKey) (file : ℕ) → file_for key x.1.request ≡ Some file → IsUsedOn key file l

pub used_by : (l : Lists) (e : ℕ × Waiting) (r : Request) (key : LeaseKey) (file : ℕ) → IsUnder l e r → file_for key r ≡ Some file → IsUsedOn key file l
used_by l e request.Lock key file under at = absurd (none_some at)
used_by l e (request.Create made) key file under at = let own = own_file key file made at in subst (λ (f : ℕ). IsUsedOn key f l) own.1 (under.keyed key own.0)

-- ---- the key of an open is this

pub key_is : (key : LeaseKey) (row : Open) → is_key key row.client row.lease ≡ true → key_of (Some row) ≡ Some key
key_is key row is = by row.lease is
  where
    by : (name : Option (List ℕ)) → is_key key row.client name ≡ true → option_map {U = LeaseKey} (λ k. record { client = row.client; key = k }) name ≡ Some key
    by None h = absurd (false≢true h)
    by (Some name) h =
        let both = and_parts (bytes_eq key.client row.client) (bytes_eq key.key name) h in
        let client = (bytes_eq-Decides key.client row.client).0 both.0 in
        let inside = (bytes_eq-Decides key.key name).0 both.1 in
        λ i. Some (record { client = sym client i; key = sym inside i })

is_of : (key : LeaseKey) (row : Open) → key_of (Some row) ≡ Some key → is_key key row.client row.lease ≡ true
is_of key row is = by row.lease is
  where
    by : (name : Option (List ℕ)) → option_map {U = LeaseKey} (λ k. record { client = row.client; key = k }) name ≡ Some key → is_key key row.client name ≡ true
    by None h = absurd (none_some h)
    by (Some name) h = subst (λ (k : LeaseKey). is_key k row.client (Some name) ≡ true) (same_Some h) (same_lease_self (record { client = row.client; key = name }))

-- ---- where it isn't in use elsewhere it is in use on this file alone

not_other : (file used : ℕ) → is_other file (Some used) ≡ false → used ≡ file
not_other file used h = by (eqb used file) refl h
  where
    by : (b : Bool) → eqb used file ≡ b → not b ≡ false → used ≡ file
    by true is n = sym (equal_from used file is)
    by false is n = absurd (true≢false n)

pub used_on : (l : Lists) (key : LeaseKey) (file : ℕ) → AllUsed l → IsDistinct same_lease (keys_of l.leases) → is_other file (key_file key l) ≡ false → IsUsedOn key file l
used_on l key file all distinct here = by (waiting_file key l.waiting) refl (lease_of key l) refl
  where
    used_so : (o : Option Lease) → lease_of key l ≡ o → (w : Option ℕ) → waiting_file key l.waiting ≡ w → is_other file (or_else (option_map (λ (r : Lease). r.file) o) w) ≡ false
    used_so o at w waits = ap (λ (x : Option Lease). is_other file (or_else (option_map (λ (r : Lease). r.file) x) w)) (sym at) ∙ ap (λ (x : Option ℕ). is_other file (or_else (option_map (λ (r : Lease). r.file) (lease_of key l)) x)) (sym waits) ∙ here

    nobody : waiting_file key l.waiting ≡ None → (x : ℕ × Waiting) → IsIn x l.waiting → (other : ℕ) → file_for key x.1.request ≡ Some other → other ≡ file
    nobody none x there other is = absurd (none_on key l.waiting x other none there is)

    by : (w : Option ℕ) → waiting_file key l.waiting ≡ w → (o : Option Lease) → lease_of key l ≡ o → IsUsedOn key file l
    by None waits None at = record { leases = apart_on key file l.leases (none_found key l.leases at); waiting = nobody waits }
    by None waits (Some row) at = record {
      leases = subst (λ (f : ℕ). AllByRecursion (IsOnFile key f) l.leases) (not_other file row.file (used_so (Some row) at None waits)) (one_on key l.leases row distinct at);
      waiting = nobody waits;
    }
    by (Some f) waits o at =
        let first = first_on key l.waiting f waits in
        let used : IsUsedOn key f l = all first.0 first.1 key f first.2 in
        subst (λ (k : ℕ). IsUsedOn key k l) (same f o at waits used) used
      where
        same : (g : ℕ) (found : Option Lease) → lease_of key l ≡ found → waiting_file key l.waiting ≡ Some g → IsUsedOn key g l → g ≡ file
        same g None at_it waits_it used = not_other file g (used_so None at_it (Some g) waits_it)
        same g (Some row) at_it waits_it used = sym (found_on key g l.leases row used.leases at_it) ∙ not_other file row.file (used_so (Some row) at_it (Some g) waits_it)

pub key_free : (row : Open) (key : LeaseKey) (l : Lists) → is_key key row.client row.lease ≡ true → is_key_elsewhere row.file (key_of (Some row)) l ≡ false → is_other row.file (key_file key l) ≡ false
key_free row key l is here = ap (λ (o : Option LeaseKey). is_key_elsewhere row.file o l) (sym (key_is key row is)) ∙ here

pub used_for : (l : Lists) (row : Open) (key : LeaseKey) → AllUsed l → IsDistinct same_lease (keys_of l.leases) → is_key_elsewhere row.file (key_of (Some row)) l ≡ false → is_key key row.client row.lease ≡ true → IsUsedOn key row.file l
used_for l row key all distinct here is = used_on l key row.file all distinct (key_free row key l is here)

-- ---- what keeps it so

-- no lease came, and none moved to another file
abbrev pub LeasesStay : Lists → Lists → Type 0
LeasesStay l m = (key : LeaseKey) (file : ℕ) → AllByRecursion (IsOnFile key file) l.leases → AllByRecursion (IsOnFile key file) m.leases

pub same_leases : (l m : Lists) → m.leases ≡ l.leases → LeasesStay l m
same_leases l m same key file all = subst (λ (es : List (LeaseKey × Lease)). AllByRecursion (IsOnFile key file) es) (sym same) all

pub used_still : (l m : Lists) (key : LeaseKey) (file : ℕ) → LeasesStay l m → ((x : ℕ × Waiting) → IsIn x m.waiting → IsIn x l.waiting) → IsUsedOn key file l → IsUsedOn key file m
used_still l m key file leases rows used = record { leases = leases key file used.leases; waiting = λ x here other is. used.waiting x (rows x here) other is }

kept_on : (key : LeaseKey) (file number : ℕ) (e y : LeaseKey × Lease) → IsOnFile key file e → kept_lease number e ≡ Some y → IsOnFile key file y
kept_on key file number e y on is = by (is_empty (without number e.1.opens)) is
  where
    by : (b : Bool) → (if b then None else Some (e.0, left_row number e.1)) ≡ Some y → IsOnFile key file y
    by true h = absurd (none_some h)
    by false h = subst (IsOnFile key file) (same_Some h) on

pub closed_leases : (numbers : List ℕ) (l : Lists) → LeasesStay l (all_closed numbers l)
closed_leases [] l key file all = all
closed_leases (number ∷ numbers) l key file all = closed_leases numbers (closed number l) key file (all_mapped (IsOnFile key file) (IsOnFile key file) (kept_lease number) l.leases (λ e y on is. kept_on key file number e y on is) all)

dropped_leases : (numbers : List ℕ) (l : Lists) → (trees_dropped numbers l).leases ≡ l.leases
dropped_leases [] l = refl
dropped_leases (number ∷ numbers) l = dropped_leases numbers (tree_dropped number l)

pub gone_leases : (number : ℕ) (l : Lists) → (session_gone number l).leases ≡ l.leases
unfolding session_gone
gone_leases number l = dropped_leases (trees_of number l) l

all_gone_leases : (numbers : List ℕ) (l : Lists) → (sessions_gone numbers l).leases ≡ l.leases
all_gone_leases [] l = refl
all_gone_leases (number ∷ numbers) l = all_gone_leases numbers (session_gone number l) ∙ gone_leases number l

pub ended_leases : (conn : ℕ) (l : Lists) → (connection_gone conn l).leases ≡ l.leases
unfolding connection_gone
ended_leases conn l = all_gone_leases (sessions_on conn l) l

-- an open comes under its lease
begun_on : (key k : LeaseKey) (file number new : ℕ) (o : Option Lease) (s : Lists) → lease_of k s ≡ o → (same_lease key k ≡ true → new ≡ file) → AllByRecursion (IsOnFile key file) s.leases → AllByRecursion (IsOnFile key file) (lease_begun number new k o s).leases
begun_on key k file number new None s at same all = all_append (IsOnFile key file) s.leases ((k, record { file = new; opens = number ∷ [] }) ∷ []) all (same, tt)
begun_on key k file number new (Some row) s at same all = by (eqb row.file new)
  where
    grown : (o : Option Lease) → lease_of k s ≡ o → AllByRecursion (IsOnFile key file) (joined number o k s.leases)
    grown None found = all
    grown (Some r) found = all_set (IsOnFile key file) (same_lease k) s.leases (grown_row number r)
        (λ j same_k same_key. (let one : key ≡ k = same_lease_is key j same_key ∙ sym (same_lease_is k j same_k) in found_on key file s.leases r all (ap (λ (i : LeaseKey). lease_of i s) one ∙ found)))
        all

    by : (b : Bool) → AllByRecursion (IsOnFile key file) (if b then lease_joined k number s else s).leases
    by true = grown (lease_of k s) refl
    by false = all

pub came_on : (key : LeaseKey) (file number : ℕ) (row : Open) (s : Lists) → (is_key key row.client row.lease ≡ true → row.file ≡ file) → AllByRecursion (IsOnFile key file) s.leases → AllByRecursion (IsOnFile key file) (with_open number row s).leases
came_on key file number row s same all = by (key_of (Some row)) refl
  where
    by : (o : Option LeaseKey) → key_of (Some row) ≡ o → AllByRecursion (IsOnFile key file) (come_under number row.file o (open_added number row s)).leases
    by None is = all
    by (Some k) is = begun_on key k file number row.file (lease_of k s) (open_added number row s) refl (λ one. same (is_of key row (is ∙ ap Some (sym (same_lease_is key k one))))) all

-- ---- an open under its lease

set_found : (key : LeaseKey) (es : List (LeaseKey × Lease)) (row new : Lease) → lookup (same_lease key) es ≡ Some row → lookup (same_lease key) (set_value (same_lease key) es new) ≡ Some new
set_found key [] row new at = absurd (none_some at)
set_found key (e ∷ es) row new at =
    elim (cases_Bool (same_lease key e.0)) [
      | inl same ↦ rw (same, same) refl
      | inr apart ↦ rw (apart, apart) (set_found key es row new (rw apart at at))
    ]

last_found : (key : LeaseKey) (es : List (LeaseKey × Lease)) (row : Lease) → lookup (same_lease key) es ≡ None → lookup (same_lease key) (es ++ (key, row) ∷ []) ≡ Some row
last_found key [] row none = rw (same_lease_self key) refl
last_found key (e ∷ es) row none =
    elim (cases_Bool (same_lease key e.0)) [
      | inl same ↦ absurd (none_some (sym (rw same at none)))
      | inr apart ↦ rw apart (last_found key es row (rw apart at none))
    ]

last_listed : (number : ℕ) (ns : List ℕ) → list_any (nat_eq number) (ns ++ number ∷ []) ≡ true
last_listed number [] = rw (equal_self number) refl
last_listed number (n ∷ ns) = elim (cases_Bool (eqb number n)) [ inl same ↦ rw same refl | inr apart ↦ rw apart (last_listed number ns) ]

begun_leased : (number file : ℕ) (key : LeaseKey) (o : Option Lease) (s : Lists) → lease_of key s ≡ o → is_of_file file o ≡ true → (row : Lease) × (lease_of key (lease_begun number file key o s) ≡ Some row) × (row.file ≡ file) × (list_any (nat_eq number) row.opens ≡ true)
begun_leased number file key None s at on = (record { file = file; opens = number ∷ [] }, last_found key s.leases (record { file = file; opens = number ∷ [] }) at, refl, last_listed number [])
begun_leased number file key (Some row) s at on =
    rw on (
      grown_row number row,
      ap (λ (o : Option Lease). lookup (same_lease key) (joined number o key s.leases)) at ∙ set_found key s.leases row (grown_row number row) at,
      sym (equal_from row.file file on),
      last_listed number row.opens,
    )

pub comes_leased : (number : ℕ) (row : Open) (s : Lists) → ((key : LeaseKey) → is_key key row.client row.lease ≡ true → is_of_file row.file (lease_of key s) ≡ true) → IsLeased (with_open number row s) number row
comes_leased number row s on key is =
    subst (λ (o : Option LeaseKey). (r : Lease) × (lease_of key (come_under number row.file o (open_added number row s)) ≡ Some r) × (r.file ≡ row.file) × (list_any (nat_eq number) r.opens ≡ true)) (sym is)
    (begun_leased number row.file key (lease_of key s) (open_added number row s) refl (on key (is_of key row is)))

-- the lease is on the file, if it is there
pub lease_on : (key : LeaseKey) (file : ℕ) (s : Lists) → AllByRecursion (IsOnFile key file) s.leases → is_of_file file (lease_of key s) ≡ true
lease_on key file s all = by (lease_of key s) refl
  where
    by : (o : Option Lease) → lease_of key s ≡ o → is_of_file file o ≡ true
    by None at = refl
    by (Some row) at = ap (λ (f : ℕ). eqb f file) (found_on key file s.leases row all at) ∙ equal_self file

pub free_lease : (file : ℕ) (key : LeaseKey) (l : Lists) → is_other file (key_file key l) ≡ false → is_of_file file (lease_of key l) ≡ true
free_lease file key l here = by (lease_of key l) here
  where
    by : (o : Option Lease) → is_other file (or_else (option_map (λ (r : Lease). r.file) o) (waiting_file key l.waiting)) ≡ false → is_of_file file o ≡ true
    by None h = refl
    by (Some row) h = ap (λ (f : ℕ). eqb f file) (not_other file row.file h) ∙ equal_self file

-- ---- another open leaves it

still_listed : (other number : ℕ) (ns : List ℕ) → eqb other number ≡ false → list_any (nat_eq other) ns ≡ true → list_any (nat_eq other) (without number ns) ≡ true
still_listed other number [] apart here = here
still_listed other number (n ∷ ns) apart here =
    elim (cases_Bool (eqb n number)) [
      | inl out ↦ (
          let not_it : eqb other n ≡ false = subst (λ (k : ℕ). eqb other k ≡ false) (equal_from n number out) apart in
          rw out (still_listed other number ns apart (rw not_it at here)))
      | inr stays ↦ rw stays (elim (cases_Bool (eqb other n)) [ inl it ↦ rw it refl | inr more ↦ rw more (still_listed other number ns apart (rw more at here)) ])
    ]

pub not_empty : (k : ℕ) (ns : List ℕ) → list_any (nat_eq k) ns ≡ true → is_empty ns ≡ false
not_empty k [] here = absurd (false≢true here)
not_empty k (n ∷ ns) here = refl

pub left_found : (key : LeaseKey) (number : ℕ) (es : List (LeaseKey × Lease)) (row : Lease) → lookup (same_lease key) es ≡ Some row → is_empty (without number row.opens) ≡ false → lookup (same_lease key) (filter_map (kept_lease number) es) ≡ Some (left_row number row)
left_found key number [] row at filled = absurd (none_some at)
left_found key number (e ∷ es) row at filled =
    elim (cases_Bool (same_lease key e.0)) [
      | inl same ↦ (
          let found : e.1 ≡ row = same_Some (rw same at at) in
          let keeps : is_empty (without number e.1.opens) ≡ false = subst (λ (r : Lease). is_empty (without number r.opens) ≡ false) (sym found) filled in
          rw (keeps, same) (ap (λ (r : Lease). Some (left_row number r)) found))
      | inr apart ↦ (
          let rest = left_found key number es row (rw apart at at) filled in
          elim (cases_Bool (is_empty (without number e.1.opens))) [ inl none ↦ rw none rest | inr some ↦ rw (some, apart) rest ])
    ]

pub one_stays : (number other : ℕ) (made : Open) (l : Lists) → eqb other number ≡ false → IsLeased l other made → IsLeased (closed number l) other made
one_stays number other made l apart leased key is =
    let had = leased key is in
    let listed = still_listed other number had.0.opens apart had.3 in
    (left_row number had.0, left_found key number l.leases had.0 had.1 (not_empty other (without number had.0.opens) listed), had.2, listed)

pub stay_leased : (numbers : List ℕ) (other : ℕ) (made : Open) (l : Lists) → list_any (nat_eq other) numbers ≡ false → IsLeased l other made → IsLeased (all_closed numbers l) other made
stay_leased [] other made l apart leased = leased
stay_leased (number ∷ numbers) other made l apart leased =
    elim (cases_Bool (eqb other number)) [
      | inl same ↦ (let f : true ≡ false = rw same at apart in absurd (true≢false f))
      | inr not_it ↦ stay_leased numbers other made (closed number l) (rw not_it at apart) (one_stays number other made l not_it leased)
    ]

pub leased_with : (l m : Lists) (number : ℕ) (made : Open) → m.leases ≡ l.leases → IsLeased l number made → IsLeased m number made
leased_with l m number made same leased key is =
    let had = leased key is in
    (had.0, ap (λ (es : List (LeaseKey × Lease)). lookup (same_lease key) es) same ∙ had.1, had.2, had.3)
