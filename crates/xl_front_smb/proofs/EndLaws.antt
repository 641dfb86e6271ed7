-- Opens, tree connects and sessions go one after the other.
use Rattle.std.proofs.Common.{◌≡◌, ℕ, ◌+◌, ◌<◌, Bool, true, false, eqb, List, [], ◌∷◌, ◌++◌, Option, Some, None, is_some, length, map, drop, get_or, refl, sym, ap, subst, ◌∙◌, inl, inr, append_assoc}
use Rattle.std.specs.Prelude.{nat_eq, if◌then◌else◌}
use Rattle.std.specs.List.{AllByRecursion, IsDistinct, list_any}
use Rattle.std.specs.Map.{keys_of, lookup, remove_entry}
use Rattle.std.proofs.lemmas.Bool.{cases_Bool, true≢false}
use Rattle.std.proofs.lemmas.List.{drop_more}
use Rattle.std.proofs.lemmas.Map.Keys.{IsDistinct-head, IsDistinct-tail}
use Rattle.xl_smb_state.specs.declared.row.Connection.{Connection}
use Rattle.xl_smb_state.specs.declared.row.Holder.{Holder}
use Rattle.xl_smb_state.specs.declared.row.Holder.TheVariants.{Nobody}
use Rattle.xl_smb_state.specs.declared.row.Holder.TheVariants as holder
use Rattle.xl_smb_state.specs.declared.row.Open.{Open}
use Rattle.xl_smb_state.specs.declared.row.Scope.{Scope}
use Rattle.xl_smb_state.specs.declared.row.Scope.TheVariants as scope
use Rattle.xl_smb_state.specs.declared.row.Session.{Session}
use Rattle.xl_smb_state.specs.declared.row.Tree.{Tree}
use Rattle.xl_smb_state.specs.declared.row.Waiting.{Waiting}
use Rattle.xl_smb_state.specs.Links.{IsHolderLinked, IsOpenLinked, IsSound, AreDistinct}
use Rattle.xl_smb_state.specs.State.{Lists, keys_where, connection_of, connection_dropped, session_of, sessions_on, tree_of, tree_dropped, trees_of, open_of, covers_holder, opens_under, creates_under, closed, waiting_of}
use Rattle.xl_smb_state.proofs.LinkLaws.{place_session}
use Rattle.xl_smb_state.proofs.RowLaws.{none_out, same_Some, equal_from, equal_self, all_both, none_where}
use Rattle.xl_smb_state.proofs.WalkLaws.{opens_walk, sessions_walk, trees_walk, free_by_session}
use Rattle.xl_base.specs.declared.name.Party.{Party}
use Rattle.xl_names.specs.declared.name.Name.{Name}
use Rattle.xl_core.specs.Deeds.{all_done, all_told_of}
use Rattle.xl_core.specs.Settle.{close_open}
use Rattle.xl_core.specs.State.{CoreState}
use Rattle.xl_core.specs.Ticks.{behind_told}
use Rattle.xl_core.specs.declared.ask.Effect.{Effect}
use Rattle.xl_smb_locks.specs.Finals.{ended_with, request_ended, is_cancelled, and_sent, dismissed}
use Rattle.xl_smb_locks.specs.declared.status.SmbStatus.{SmbStatus}
use Rattle.xl_smb_locks.specs.declared.status.SmbStatus.TheVariants.{Cancelled}
use Rattle.xl_front_smb.specs.Ending.{numbers_under, party_going, leavers, without_party, leavers_under, ends, all_ended, all_closed, trees_dropped, session_gone, sessions_gone}

cons_head : {n m : ℕ} {ns ms : List ℕ} → n ∷ ns ≡ m ∷ ms → n ≡ m
cons_head h = cc

no_cons : {n : ℕ} {ns : List ℕ} → [] ≡ n ∷ ns → ⊥
no_cons h = cc

apart_any : (k : ℕ) (ks : List ℕ) → AllByRecursion (λ y. eqb k y ≡ false) ks → list_any (nat_eq k) ks ≡ false
apart_any k [] all = refl
apart_any k (j ∷ ks) all = rw all.0 (apart_any k ks all.1)

-- a row that is found, and passes
abbrev pub IsFound : {X : Type 0} → (X → Bool) → Option X → Type 0
IsFound test None = ⊥
IsFound test (Some x) = test x ≡ true

module _ {X : Type 0} where
  passing : (test : X → Bool) (es : List (ℕ × X)) (n : ℕ) (ns : List ℕ) → keys_where test es ≡ n ∷ ns → list_any (nat_eq n) (keys_of es) ≡ true
  passing test [] n ns h = absurd (no_cons h)
  passing test (e ∷ es) n ns h =
      elim (cases_Bool (test e.1)) [
        | inl k ↦ let same : eqb n e.0 ≡ true = subst (λ j. eqb j e.0 ≡ true) (cons_head (rw k at h)) (equal_self e.0) in rw same refl
        | inr k ↦ elim (cases_Bool (eqb n e.0)) [ inl same ↦ rw same refl | inr apart ↦ rw apart (passing test es n ns (rw k at h)) ]
      ]

  -- the first of the rows that pass is found by its key
  pub first_found : (test : X → Bool) (es : List (ℕ × X)) (n : ℕ) (ns : List ℕ) → IsDistinct nat_eq (keys_of es) → keys_where test es ≡ n ∷ ns → IsFound test (lookup (nat_eq n) es)
  first_found test [] n ns distinct h = absurd (no_cons h)
  first_found test (e ∷ es) n ns distinct h =
      elim (cases_Bool (test e.1)) [
        | inl k ↦ let same : eqb n e.0 ≡ true = subst (λ j. eqb j e.0 ≡ true) (cons_head (rw k at h)) (equal_self e.0) in rw same k
        | inr k ↦ elim (cases_Bool (eqb n e.0)) [
          | inl same ↦
              let there = passing test es n ns (rw k at h) in
              absurd (true≢false (sym (subst (λ j. list_any (nat_eq j) (keys_of es) ≡ true) (sym (equal_from n e.0 same)) there) ∙ apart_any e.0 (keys_of es) (IsDistinct-head nat_eq e.0 (keys_of es) distinct)))
          | inr apart ↦ rw apart (first_found test es n ns (IsDistinct-tail nat_eq e.0 (keys_of es) distinct) (rw k at h))
        ]
      ]

  pub found_some : (test : X → Bool) (o : Option X) → IsFound test o → is_some o ≡ true
  found_some test None h = absurd h
  found_some test (Some x) h = refl

  pub where_none : (test : X → Bool) (es : List (ℕ × X)) → AllByRecursion (λ e. test e.1 ≡ false) es → keys_where test es ≡ []
  where_none test [] all = refl
  where_none test (e ∷ es) all = rw all.0 (where_none test es all.1)

-- ---- opens

pub open_there : (under : Scope) (s : Lists) (numbers : List ℕ) (i d : ℕ) → AreDistinct s → i < length numbers → opens_under under s ≡ drop i numbers → is_some (open_of (get_or numbers i d) s) ≡ true
open_there under s numbers i d ok within h =
    let test = λ (r : Open). covers_holder under r.holder in
    found_some test (open_of (get_or numbers i d) s) (first_found test s.opens (get_or numbers i d) (drop (i + 1) numbers) ok.opens (h ∙ drop_more numbers i d within))

pub opens_step : (under : Scope) (s : Lists) (numbers : List ℕ) (i d : ℕ) → AreDistinct s → i < length numbers → opens_under under s ≡ drop i numbers → opens_under under (closed (get_or numbers i d) s) ≡ drop (i + 1) numbers
opens_step under s numbers i d ok within h = opens_walk under s (get_or numbers i d) (drop (i + 1) numbers) ok (h ∙ drop_more numbers i d within)

pub closed_step : (s : Lists) (numbers : List ℕ) (i d : ℕ) → i < length numbers → all_closed (drop (i + 1) numbers) (closed (get_or numbers i d) s) ≡ all_closed (drop i numbers) s
closed_step s numbers i d within = ap (λ (ns : List ℕ). all_closed ns s) (sym (drop_more numbers i d within))

-- ---- tree connects

tree_found : (session : ℕ) (s : Lists) (numbers : List ℕ) (i d : ℕ) → AreDistinct s → i < length numbers → trees_of session s ≡ drop i numbers → IsFound (λ (r : Tree). eqb r.session session) (tree_of (get_or numbers i d) s)
tree_found session s numbers i d ok within h = first_found (λ (r : Tree). eqb r.session session) s.trees (get_or numbers i d) (drop (i + 1) numbers) ok.trees (h ∙ drop_more numbers i d within)

pub tree_there : (session : ℕ) (s : Lists) (numbers : List ℕ) (i d : ℕ) → AreDistinct s → i < length numbers → trees_of session s ≡ drop i numbers → is_some (tree_of (get_or numbers i d) s) ≡ true
tree_there session s numbers i d ok within h = found_some (λ (r : Tree). eqb r.session session) (tree_of (get_or numbers i d) s) (tree_found session s numbers i d ok within h)

free_by : (session number : ℕ) (s : Lists) (found : Option Tree) → tree_of number s ≡ found → IsFound (λ (r : Tree). eqb r.session session) found → IsSound s → opens_under (scope.Session session) s ≡ [] → opens_under (scope.Tree number) s ≡ []
free_by session number s None at is ok free = absurd is
free_by session number s (Some row) at is ok free = free_by_session s number row ok at (ap (λ k. opens_under (scope.Session k) s) (sym (equal_from row.session session is)) ∙ free)

pub tree_free : (session : ℕ) (s : Lists) (numbers : List ℕ) (i d : ℕ) → IsSound s → AreDistinct s → i < length numbers → trees_of session s ≡ drop i numbers → opens_under (scope.Session session) s ≡ [] → opens_under (scope.Tree (get_or numbers i d)) s ≡ []
tree_free session s numbers i d sound ok within h free = free_by session (get_or numbers i d) s (tree_of (get_or numbers i d) s) refl (tree_found session s numbers i d ok within h) sound free

pub trees_step : (session : ℕ) (s : Lists) (numbers : List ℕ) (i d : ℕ) → AreDistinct s → i < length numbers → trees_of session s ≡ drop i numbers → trees_of session (tree_dropped (get_or numbers i d) s) ≡ drop (i + 1) numbers
trees_step session s numbers i d ok within h = trees_walk session s (get_or numbers i d) (drop (i + 1) numbers) ok (h ∙ drop_more numbers i d within)

pub dropped_step : (s : Lists) (numbers : List ℕ) (i d : ℕ) → i < length numbers → trees_dropped (drop (i + 1) numbers) (tree_dropped (get_or numbers i d) s) ≡ trees_dropped (drop i numbers) s
dropped_step s numbers i d within = ap (λ (ns : List ℕ). trees_dropped ns s) (sym (drop_more numbers i d within))

-- ---- sessions

pub session_stays : (numbers : List ℕ) (s : Lists) (session : ℕ) → session_of session (trees_dropped numbers s) ≡ session_of session s
session_stays [] s session = refl
session_stays (number ∷ numbers) s session = session_stays numbers (tree_dropped number s) session

sessions_stay : (numbers : List ℕ) (s : Lists) → (trees_dropped numbers s).sessions ≡ s.sessions
sessions_stay [] s = refl
sessions_stay (number ∷ numbers) s = sessions_stay numbers (tree_dropped number s)

opens_of : (numbers : List ℕ) (s : Lists) → (trees_dropped numbers s).opens ≡ s.opens
opens_of [] s = refl
opens_of (number ∷ numbers) s = opens_of numbers (tree_dropped number s)

pub opens_stay : (under : Scope) (s : Lists) (number : ℕ) → opens_under under (session_gone number s) ≡ opens_under under s
unfolding session_gone
opens_stay under s number = ap (keys_where (λ (r : Open). covers_holder under r.holder)) (opens_of (trees_of number s) s)

session_found : (conn : ℕ) (s : Lists) (numbers : List ℕ) (i d : ℕ) → AreDistinct s → i < length numbers → sessions_on conn s ≡ drop i numbers → IsFound (λ (r : Session). eqb r.connection conn) (session_of (get_or numbers i d) s)
session_found conn s numbers i d ok within h = first_found (λ (r : Session). eqb r.connection conn) s.sessions (get_or numbers i d) (drop (i + 1) numbers) ok.sessions (h ∙ drop_more numbers i d within)

pub session_there : (conn : ℕ) (s : Lists) (numbers : List ℕ) (i d : ℕ) → AreDistinct s → i < length numbers → sessions_on conn s ≡ drop i numbers → is_some (session_of (get_or numbers i d) s) ≡ true
session_there conn s numbers i d ok within h = found_some (λ (r : Session). eqb r.connection conn) (session_of (get_or numbers i d) s) (session_found conn s numbers i d ok within h)

-- the opens of a session are those of its connection
holder_free : (s : Lists) (conn number : ℕ) (row : Session) (client : List ℕ) (by : Holder) → IsSound s → session_of number s ≡ Some row → eqb row.connection conn ≡ true → covers_holder (scope.Connection conn) by ≡ false → IsHolderLinked s client by → covers_holder (scope.Session number) by ≡ false
holder_free s conn number row client (Nobody until) sound at is free link = refl
holder_free s conn number row client (holder.Tree place) sound at is free link =
    elim (cases_Bool (eqb place.session number)) [
      | inl same ↦
          let one : record { connection = place.connection } ≡ row = same_Some (sym (place_session s place sound link.0) ∙ ap (λ n. session_of n s) (sym (equal_from place.session number same)) ∙ at) in
          absurd (true≢false (sym (subst (λ (r : Session). eqb r.connection conn ≡ true) (sym one) is) ∙ free))
      | inr apart ↦ apart
    ]

free_on : (s : Lists) (conn number : ℕ) (found : Option Session) → session_of number s ≡ found → IsFound (λ (r : Session). eqb r.connection conn) found → IsSound s → opens_under (scope.Connection conn) s ≡ [] → opens_under (scope.Session number) s ≡ []
free_on s conn number None at is sound free = absurd is
free_on s conn number (Some row) at is sound free =
    where_none (λ (r : Open). covers_holder (scope.Session number) r.holder) s.opens
    (all_both (λ e. covers_holder (scope.Connection conn) e.1.holder ≡ false) (λ e. IsOpenLinked s e.1) (λ e. covers_holder (scope.Session number) e.1.holder ≡ false) s.opens
    (λ e h k. holder_free s conn number row e.1.client e.1.holder sound at is h k)
    (none_where (λ (r : Open). covers_holder (scope.Connection conn) r.holder) s.opens free) sound.opens)

pub session_free : (conn : ℕ) (s : Lists) (numbers : List ℕ) (i d : ℕ) → IsSound s → AreDistinct s → i < length numbers → sessions_on conn s ≡ drop i numbers → opens_under (scope.Connection conn) s ≡ [] → opens_under (scope.Session (get_or numbers i d)) s ≡ []
session_free conn s numbers i d sound ok within h free = free_on s conn (get_or numbers i d) (session_of (get_or numbers i d) s) refl (session_found conn s numbers i d ok within h) sound free

pub sessions_step : (conn : ℕ) (s : Lists) (numbers : List ℕ) (i d : ℕ) → AreDistinct s → i < length numbers → sessions_on conn s ≡ drop i numbers → sessions_on conn (session_gone (get_or numbers i d) s) ≡ drop (i + 1) numbers
unfolding session_gone
sessions_step conn s numbers i d ok within h =
    let number = get_or numbers i d in
    ap (λ (es : List (ℕ × Session)). keys_where (λ (r : Session). eqb r.connection conn) (remove_entry (nat_eq number) es)) (sessions_stay (trees_of number s) s)
    ∙ sessions_walk conn s number (drop (i + 1) numbers) ok (h ∙ drop_more numbers i d within)

pub gone_step : (s : Lists) (numbers : List ℕ) (i d : ℕ) → i < length numbers → sessions_gone (drop (i + 1) numbers) (session_gone (get_or numbers i d) s) ≡ sessions_gone (drop i numbers) s
gone_step s numbers i d within = ap (λ (ns : List ℕ). sessions_gone ns s) (sym (drop_more numbers i d within))

-- ---- the connection

pub no_connection : (conn : ℕ) (s : Lists) → connection_of conn s ≡ None → connection_dropped conn s ≡ s
no_connection conn s h = ap (λ (es : List (ℕ × Connection)). record s { connections = es }) (none_out (nat_eq conn) s.connections h)

-- ---- those that are closed, with what goes with them

-- one more is closed
pub leavers_step : (names : List Name) (s : Lists) (numbers : List ℕ) (i d : ℕ) (before : List (ℕ × Option Party)) → i < length numbers
    → (before ++ (get_or numbers i d, party_going names s (get_or numbers i d)) ∷ []) ++ leavers names (closed (get_or numbers i d) s) (drop (i + 1) numbers) ≡ before ++ leavers names s (drop i numbers)
leavers_step names s numbers i d before within =
    let number = get_or numbers i d in
    append_assoc before ((number, party_going names s number) ∷ []) (leavers names (closed number s) (drop (i + 1) numbers))
    ∙ ap (λ (ns : List ℕ). before ++ leavers names s ns) (sym (drop_more numbers i d within))

pub leavers_next : (names : List Name) (s new : Lists) (numbers : List ℕ) (i d : ℕ) (before after all : List (ℕ × Option Party)) (party : Option Party) → i < length numbers → after ≡ before ++ (get_or numbers i d, party) ∷ [] → party ≡ party_going names s (get_or numbers i d)
    → new ≡ closed (get_or numbers i d) s → before ++ leavers names s (drop i numbers) ≡ all → after ++ leavers names new (drop (i + 1) numbers) ≡ all
leavers_next names s new numbers i d before after all party within push going close old =
    (λ j. push j ++ leavers names (close j) (drop (i + 1) numbers))
    ∙ ap (λ (p : Option Party). (before ++ (get_or numbers i d, p) ∷ []) ++ leavers names (closed (get_or numbers i d) s) (drop (i + 1) numbers)) going
    ∙ leavers_step names s numbers i d before within
    ∙ old

-- one more that a request waits to make
pub creates_step : (numbers : List ℕ) (i d : ℕ) (before : List (ℕ × Option Party)) → i < length numbers → (before ++ (get_or numbers i d, None) ∷ []) ++ without_party (drop (i + 1) numbers) ≡ before ++ without_party (drop i numbers)
creates_step numbers i d before within =
    append_assoc before ((get_or numbers i d, None) ∷ []) (without_party (drop (i + 1) numbers)) ∙ ap (λ (ns : List ℕ). before ++ without_party ns) (sym (drop_more numbers i d within))

numbers_of_leavers : (names : List Name) (s : Lists) (numbers : List ℕ) → map (λ e. e.0) (leavers names s numbers) ≡ numbers
numbers_of_leavers names s [] = refl
numbers_of_leavers names s (number ∷ numbers) = ap (λ (ns : List ℕ). number ∷ ns) (numbers_of_leavers names (closed number s) numbers)

numbers_without : (numbers : List ℕ) → map (λ e. e.0) (without_party numbers) ≡ numbers
numbers_without [] = refl
numbers_without (number ∷ numbers) = ap (λ (ns : List ℕ). number ∷ ns) (numbers_without numbers)

map_both : (xs ys : List (ℕ × Option Party)) → map (λ e. e.0) (xs ++ ys) ≡ map (λ e. e.0) xs ++ map (λ e. e.0) ys
map_both [] ys = refl
map_both (x ∷ xs) ys = ap (λ (ns : List ℕ). x.0 ∷ ns) (map_both xs ys)

-- they are those under it, and those that requests under it wait to make
pub numbers_going : (names : List Name) (under : Scope) (s : Lists) → map (λ e. e.0) (leavers_under names under s) ≡ numbers_under under s
numbers_going names under s =
    map_both (leavers names s (opens_under under s)) (without_party (creates_under under s))
    ∙ ap (λ (ns : List ℕ). ns ++ map (λ e. e.0) (without_party (creates_under under s))) (numbers_of_leavers names s (opens_under under s))
    ∙ ap (λ (ns : List ℕ). opens_under under s ++ ns) (numbers_without (creates_under under s))

-- ---- the core

pub ended_step : (s : CoreState) (told : List Effect) (going : List (ℕ × Option Party)) (i : ℕ) (d : ℕ × Option Party) → i < length going
    → behind_told (told ++ (close_open s (get_or going i d).0 (get_or going i d).1).0) (all_ended (drop (i + 1) going) (close_open s (get_or going i d).0 (get_or going i d).1).1) ≡ behind_told told (all_ended (drop i going) s)
ended_step s told going i d within =
    let e = get_or going i d in
    let ended = close_open s e.0 e.1 in
    let rest = all_ended (drop (i + 1) going) ended.1 in
    ap (λ (x : List Effect). (x, rest.1)) (append_assoc told ended.0 rest.0)
    ∙ ap (λ (es : List (ℕ × Option Party)). behind_told told (all_ended es s)) (sym (drop_more going i d within))

pub ended_done : (n : ℕ) (s : CoreState) (going : List (ℕ × Option Party)) → all_done n s (ends going) ≡ (all_ended going s).1
ended_done n s [] = refl
ended_done n s (e ∷ going) = ended_done n (close_open s e.0 e.1).1 going

pub ended_told : (n : ℕ) (s : CoreState) (going : List (ℕ × Option Party)) → all_told_of n s (ends going) ≡ (all_ended going s).0
ended_told n s [] = refl
ended_told n s (e ∷ going) = ap (λ (told : List Effect). (close_open s e.0 e.1).0 ++ told) (ended_told n (close_open s e.0 e.1).1 going)

-- ---- closing opens takes out no session and no tree connect

pub session_left : (numbers : List ℕ) (s : Lists) (session : ℕ) → session_of session (all_closed numbers s) ≡ session_of session s
session_left [] s session = refl
session_left (number ∷ numbers) s session = session_left numbers (closed number s) session

pub tree_left : (numbers : List ℕ) (s : Lists) (tree : ℕ) → tree_of tree (all_closed numbers s) ≡ tree_of tree s
tree_left [] s tree = refl
tree_left (number ∷ numbers) s tree = tree_left numbers (closed number s) tree

-- ---- requests that wait no more

-- who is dismissed is taken out of those who wait, and nothing else changes
pub ended_keeps : (id : ℕ) (status : SmbStatus) (l : Lists) → (request_ended id status l).1 ≡ record l { waiting = (request_ended id status l).1.waiting }
unfolding request_ended
ended_keeps id status l = by (waiting_of id l)
  where
    by : (o : Option Waiting) → (ended_with id status o l).1 ≡ record l { waiting = (ended_with id status o l).1.waiting }
    by None = refl
    by (Some row) = refl

pub dismissed_keeps : (told : List Effect) (ids : List ℕ) (l : Lists) → (dismissed told ids l).1 ≡ record l { waiting = (dismissed told ids l).1.waiting }
dismissed_keeps told [] l = refl
dismissed_keeps told (id ∷ ids) l = by (is_cancelled id told) (dismissed_keeps told ids l) (dismissed_keeps told ids (request_ended id Cancelled l).1) (ended_keeps id Cancelled l)
  where
    by : (b : Bool) → (dismissed told ids l).1 ≡ record l { waiting = (dismissed told ids l).1.waiting }
        → (dismissed told ids (request_ended id Cancelled l).1).1 ≡ record (request_ended id Cancelled l).1 { waiting = (dismissed told ids (request_ended id Cancelled l).1).1.waiting }
        → (request_ended id Cancelled l).1 ≡ record l { waiting = (request_ended id Cancelled l).1.waiting }
        → (if b then and_sent (request_ended id Cancelled l) (dismissed told ids) else dismissed told ids l).1 ≡ record l { waiting = (if b then and_sent (request_ended id Cancelled l) (dismissed told ids) else dismissed told ids l).1.waiting }
    by true rest later first = later ∙ ap (λ (m : Lists). record m { waiting = (dismissed told ids (request_ended id Cancelled l).1).1.waiting }) first
    by false rest later first = rest
