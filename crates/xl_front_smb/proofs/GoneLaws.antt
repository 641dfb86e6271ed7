-- What the ends of opens, sessions and connections leave.
use Rattle.std.proofs.Common.{◌≡◌, ◌↔◌, ℕ, Bool, true, false, not, ◌||◌, eqb, cond, List, [], ◌∷◌, Option, Some, None, refl, sym, ap, subst, ◌∙◌, inl, inr}
use Rattle.std.specs.Prelude.{nat_eq}
use Rattle.std.specs.List.{AllByRecursion, IsDistinct, list_any}
use Rattle.std.specs.Map.{keys_of, lookup, remove_entry}
use Rattle.std.proofs.lemmas.Bool.{cases_Bool, true≢false}
use Rattle.std.proofs.lemmas.Map.Keys.{IsDistinct-head, IsDistinct-tail}
use Rattle.std.proofs.lemmas.Map.Made.{IsDistinct-keys_filter}
use Rattle.xl_base.specs.Lists.{IsIn}
use Rattle.xl_base.specs.declared.name.Party.{Party}
use Rattle.xl_matrix.specs.declared.claim.Claim.{Claim}
use Rattle.xl_wait.specs.declared.waiter.Waiter.{Waiter}
use Rattle.xl_smb.specs.Calls.{Logoff, TreeDisconnect, Close}
use Rattle.xl_smb.specs.declared.lock.CloseCall.{CloseCall}
use Rattle.xl_smb.specs.declared.file.FileId.{FileId}
use Rattle.xl_smb.specs.declared.head.SmbHead.{SmbHead}
use Rattle.xl_smb_state.specs.Links.{IsTreeLinked, IsSound, AreDistinct}
use Rattle.xl_smb_state.specs.State.{Lists, client_of, keys_where, sessions_on, trees_of, tree_dropped, covers_holder, opens_under, closed}
use Rattle.xl_smb_state.specs.declared.row.Open.{Open}
use Rattle.xl_smb_state.specs.declared.row.Place.{Place}
use Rattle.xl_smb_state.specs.declared.row.Scope.{Scope}
use Rattle.xl_smb_state.specs.declared.row.Scope.TheVariants as scope
use Rattle.xl_smb_state.specs.declared.row.Session.{Session}
use Rattle.xl_smb_state.specs.declared.row.Tree.{Tree}
use Rattle.xl_smb_state.proofs.RowLaws.{unequal_both, equal_self, equal_from, none_some, same_Some}
use Rattle.xl_core.specs.Deeds.{all_done, all_told_of}
use Rattle.xl_table.specs.Leaving.{goes}
use Rattle.xl_table.specs.declared.leaver.Leaver.TheVariants as leavers
use Rattle.xl_core.specs.Settle.{close_open as close_core, waits_as}
use Rattle.xl_core.specs.State.{CoreState}
use Rattle.xl_core.proofs.SettleLaws.{open_claims, open_waiters}
use Rattle.xl_front_smb.specs.Ending.{party_going, leavers_under, ends, all_ended, all_closed, trees_dropped, session_gone, sessions_gone, connection_gone, requests_gone, smb_end}
use Rattle.xl_front_smb.specs.Checks.{session_named, tree_named, open_named, negotiated_by, in_session, on_tree, on_open}
use Rattle.xl_front_smb.specs.Files.{close_open, close}
use Rattle.xl_front_smb.specs.Plans.{Plan, Does, Outcome, carried}
use Rattle.xl_front_smb.specs.Requests.{commanded, planned}
use Rattle.xl_front_smb.specs.Sessions.{logoff, disconnect, tree_disconnect}
use Rattle.xl_smb_locks.specs.declared.status.SmbStatus.TheVariants.{UserSessionDeleted, NetworkNameDeleted, FileClosed}
use Rattle.xl_front_smb.specs.declared.told.Told.TheVariants.{Failed, LoggedOff, Disconnected, Closed}
use Rattle.xl_front_smb.specs.Laws.{rows_but, goes_among, waits_among, Without, outcome_of, IsInSession, IsOnTree}
use Rattle.xl_front_smb.specs.State.{FrontSmb}
use Rattle.xl_front_smb.proofs.EndLaws.{ended_done, dismissed_keeps}

-- ---- the core

neither : (a b : Bool) → a ≡ false → b ≡ false → (a || b) ≡ false
neither a b first second = rw first second

both_not : (a b : Bool) → (a || b) ≡ false → (a ≡ false) × (b ≡ false)
both_not true b h = absurd (true≢false h)
both_not false b h = (refl, h)

claims_left : (going : List (ℕ × Option Party)) (s : CoreState) (c : Claim) → IsIn c (all_ended going s).1.claims ↔ (IsIn c s.claims × (goes_among going c ≡ false))
claims_left [] s c = (λ h. (h, refl), λ h. h.0)
claims_left (e ∷ going) s c =
    let t = (close_core s e.0 e.1).1 in
    let one = goes (leavers.Open e.0 e.1) c in
    let later = claims_left going t c in
    let now = open_claims s e.0 e.1 c in (
      λ h. let k = later.0 h in let j = now.0 k.0 in (j.0, neither one (goes_among going c) j.1 k.1),
      λ h. let k = both_not one (goes_among going c) h.1 in later.1 (now.1 (h.0, k.0), k.1),
    )

waiters_left : (going : List (ℕ × Option Party)) (s : CoreState) (w : Waiter) → IsIn w (all_ended going s).1.waiters ↔ (IsIn w s.waiters × (waits_among going w ≡ false))
waiters_left [] s w = (λ h. (h, refl), λ h. h.0)
waiters_left (e ∷ going) s w =
    let t = (close_core s e.0 e.1).1 in
    let one = waits_as e.0 w in
    let later = waiters_left going t w in
    let now = open_waiters s e.0 e.1 w in (
      λ h. let k = later.0 h in let j = now.0 k.0 in (j.0, neither one (waits_among going w) j.1 k.1),
      λ h. let k = both_not one (waits_among going w) h.1 in later.1 (now.1 (h.0, k.0), k.1),
    )

without : (going : List (ℕ × Option Party)) (s : CoreState) → Without going s (all_ended going s).1
without going s = record { claims = claims_left going s; waiters = waiters_left going s }

pub done_without : (n : ℕ) (going : List (ℕ × Option Party)) (s : CoreState) → Without going s (all_done n s (ends going))
done_without n going s = subst (λ (t : CoreState). Without going s t) (sym (ended_done n s going)) (without going s)

pub end_without : (f : FrontSmb) (s : CoreState) (conn : ℕ) → Without (leavers_under s.names (scope.Connection conn) f.state) s (smb_end f s conn).2
unfolding smb_end
end_without f s conn = without (leavers_under s.names (scope.Connection conn) f.state) s

-- ---- rows

module _ {X : Type 0} where
  -- the rows once these are taken out, one after the other
  abbrev pub taken_out : List ℕ → List (ℕ × X) → List (ℕ × X)
  taken_out [] es = es
  taken_out (n ∷ ns) es = taken_out ns (remove_entry (nat_eq n) es)

  behind : (e : ℕ × X) (ns : List ℕ) (es : List (ℕ × X)) → AllByRecursion (λ n. eqb n e.0 ≡ false) ns → taken_out ns (e ∷ es) ≡ e ∷ taken_out ns es
  behind e [] es all = refl
  behind e (n ∷ ns) es all = rw all.0 (behind e ns (remove_entry (nat_eq n) es) all.1)

  apart_where : (test : X → Bool) (k : ℕ) (es : List (ℕ × X)) → AllByRecursion (λ y. eqb k y ≡ false) (keys_of es) → AllByRecursion (λ n. eqb n k ≡ false) (keys_where test es)
  apart_where test k [] all = tt
  apart_where test k (e ∷ es) all = elim (cases_Bool (test e.1)) [ inl h ↦ rw h (unequal_both k e.0 all.0, apart_where test k es all.1) | inr h ↦ rw h (apart_where test k es all.1) ]

  -- those that pass are taken out by their keys
  pub out_where : (test : X → Bool) (es : List (ℕ × X)) → IsDistinct nat_eq (keys_of es) → taken_out (keys_where test es) es ≡ rows_but (λ e. test e.1) es
  out_where test [] distinct = refl
  out_where test (e ∷ es) distinct =
      let later = out_where test es (IsDistinct-tail nat_eq e.0 (keys_of es) distinct) in
      elim (cases_Bool (test e.1)) [
        | inl h ↦ rw h (ap (λ b. taken_out (keys_where test es) (cond b es (e ∷ remove_entry (nat_eq e.0) es))) (equal_self e.0) ∙ later)
        | inr h ↦ rw h (behind e (keys_where test es) es (apart_where test e.0 es (IsDistinct-head nat_eq e.0 (keys_of es) distinct)) ∙ ap (λ (fs : List (ℕ × X)). e ∷ fs) later)
      ]

  all_stay : (k : ℕ) (es : List (ℕ × X)) → AllByRecursion (λ y. eqb k y ≡ false) (keys_of es) → es ≡ rows_but (λ e. eqb k e.0) es
  all_stay k [] all = refl
  all_stay k (e ∷ es) all = rw all.0 (ap (λ (fs : List (ℕ × X)). e ∷ fs) (all_stay k es all.1))

  -- one is taken out by its key
  pub out_one : (k : ℕ) (es : List (ℕ × X)) → IsDistinct nat_eq (keys_of es) → remove_entry (nat_eq k) es ≡ rows_but (λ e. eqb k e.0) es
  out_one k [] distinct = refl
  out_one k (e ∷ es) distinct =
      elim (cases_Bool (eqb k e.0)) [
        | inl h ↦ rw h (all_stay k es (subst (λ j. AllByRecursion (λ y. eqb j y ≡ false) (keys_of es)) (equal_from k e.0 h) (IsDistinct-head nat_eq e.0 (keys_of es) distinct)))
        | inr h ↦ rw h (ap (λ (fs : List (ℕ × X)). e ∷ fs) (out_one k es (IsDistinct-tail nat_eq e.0 (keys_of es) distinct)))
      ]

  -- those of either kind
  but_both : (p q : ℕ × X → Bool) (es : List (ℕ × X)) → rows_but p (rows_but q es) ≡ rows_but (λ e. q e || p e) es
  but_both p q [] = refl
  but_both p q (e ∷ es) =
      elim (cases_Bool (q e)) [
        | inl h ↦ rw h (but_both p q es)
        | inr h ↦ elim (cases_Bool (p e)) [ inl k ↦ rw (h, k) (but_both p q es) | inr k ↦ rw (h, k) (ap (λ (fs : List (ℕ × X)). e ∷ fs) (but_both p q es)) ]
      ]

  but_none : (es : List (ℕ × X)) → es ≡ rows_but (λ e. false) es
  but_none [] = refl
  but_none (e ∷ es) = ap (λ (fs : List (ℕ × X)). e ∷ fs) (but_none es)

  but_same : (p q : ℕ × X → Bool) (es : List (ℕ × X)) → AllByRecursion (λ e. p e ≡ q e) es → rows_but p es ≡ rows_but q es
  but_same p q [] all = refl
  but_same p q (e ∷ es) all = elim (cases_Bool (q e)) [ inl h ↦ rw (all.0, h) (but_same p q es all.1) | inr h ↦ rw (all.0, h) (ap (λ (fs : List (ℕ × X)). e ∷ fs) (but_same p q es all.1)) ]

-- ---- opens

closed_opens : (numbers : List ℕ) (l : Lists) → (all_closed numbers l).opens ≡ taken_out numbers l.opens
closed_opens [] l = refl
closed_opens (number ∷ numbers) l = closed_opens numbers (closed number l)

pub opens_out : (under : Scope) (l : Lists) → IsDistinct nat_eq (keys_of l.opens) → (all_closed (opens_under under l) l).opens ≡ rows_but (λ e. covers_holder under e.1.holder) l.opens
opens_out under l distinct = closed_opens (opens_under under l) l ∙ out_where (λ (r : Open). covers_holder under r.holder) l.opens distinct

pub closed_trees : (numbers : List ℕ) (l : Lists) → (all_closed numbers l).trees ≡ l.trees
closed_trees [] l = refl
closed_trees (number ∷ numbers) l = closed_trees numbers (closed number l)

pub closed_sessions : (numbers : List ℕ) (l : Lists) → (all_closed numbers l).sessions ≡ l.sessions
closed_sessions [] l = refl
closed_sessions (number ∷ numbers) l = closed_sessions numbers (closed number l)

pub closed_connections : (numbers : List ℕ) (l : Lists) → (all_closed numbers l).connections ≡ l.connections
closed_connections [] l = refl
closed_connections (number ∷ numbers) l = closed_connections numbers (closed number l)

-- ---- sessions

dropped_trees : (numbers : List ℕ) (l : Lists) → (trees_dropped numbers l).trees ≡ taken_out numbers l.trees
dropped_trees [] l = refl
dropped_trees (number ∷ numbers) l = dropped_trees numbers (tree_dropped number l)

dropped_sessions : (numbers : List ℕ) (l : Lists) → (trees_dropped numbers l).sessions ≡ l.sessions
dropped_sessions [] l = refl
dropped_sessions (number ∷ numbers) l = dropped_sessions numbers (tree_dropped number l)

dropped_opens : (numbers : List ℕ) (l : Lists) → (trees_dropped numbers l).opens ≡ l.opens
dropped_opens [] l = refl
dropped_opens (number ∷ numbers) l = dropped_opens numbers (tree_dropped number l)

dropped_connections : (numbers : List ℕ) (l : Lists) → (trees_dropped numbers l).connections ≡ l.connections
dropped_connections [] l = refl
dropped_connections (number ∷ numbers) l = dropped_connections numbers (tree_dropped number l)

pub gone_opens : (number : ℕ) (l : Lists) → (session_gone number l).opens ≡ l.opens
unfolding session_gone
gone_opens number l = dropped_opens (trees_of number l) l

gone_connections : (number : ℕ) (l : Lists) → (session_gone number l).connections ≡ l.connections
unfolding session_gone
gone_connections number l = dropped_connections (trees_of number l) l

gone_sessions : (number : ℕ) (l : Lists) → (session_gone number l).sessions ≡ remove_entry (nat_eq number) l.sessions
unfolding session_gone
gone_sessions number l = ap (remove_entry (nat_eq number)) (dropped_sessions (trees_of number l) l)

gone_trees : (number : ℕ) (l : Lists) → IsDistinct nat_eq (keys_of l.trees) → (session_gone number l).trees ≡ rows_but (λ e. eqb e.1.session number) l.trees
unfolding session_gone
gone_trees number l distinct = dropped_trees (trees_of number l) l ∙ out_where (λ (r : Tree). eqb r.session number) l.trees distinct

-- ---- a logoff, behind the ends of its opens

pub off_opens : (number : ℕ) (l : Lists) → AreDistinct l → (session_gone number (all_closed (opens_under (scope.Session number) l) l)).opens ≡ rows_but (λ e. covers_holder (scope.Session number) e.1.holder) l.opens
off_opens number l distinct = gone_opens number (all_closed (opens_under (scope.Session number) l) l) ∙ opens_out (scope.Session number) l distinct.opens

pub off_trees : (number : ℕ) (l : Lists) (numbers : List ℕ) → AreDistinct l → (session_gone number (all_closed numbers l)).trees ≡ rows_but (λ e. eqb e.1.session number) l.trees
off_trees number l numbers distinct =
    let same = closed_trees numbers l in
    gone_trees number (all_closed numbers l) (subst (λ (es : List (ℕ × Tree)). IsDistinct nat_eq (keys_of es)) (sym same) distinct.trees) ∙ ap (rows_but (λ e. eqb e.1.session number)) same

pub off_sessions : (number : ℕ) (l : Lists) (numbers : List ℕ) → AreDistinct l → (session_gone number (all_closed numbers l)).sessions ≡ rows_but (λ e. eqb number e.0) l.sessions
off_sessions number l numbers distinct = gone_sessions number (all_closed numbers l) ∙ ap (remove_entry (nat_eq number)) (closed_sessions numbers l) ∙ out_one number l.sessions distinct.sessions

pub off_connections : (number : ℕ) (l : Lists) (numbers : List ℕ) → (session_gone number (all_closed numbers l)).connections ≡ l.connections
off_connections number l numbers = gone_connections number (all_closed numbers l) ∙ closed_connections numbers l

-- ---- several sessions

pub all_gone_opens : (numbers : List ℕ) (l : Lists) → (sessions_gone numbers l).opens ≡ l.opens
all_gone_opens [] l = refl
all_gone_opens (number ∷ numbers) l = all_gone_opens numbers (session_gone number l) ∙ gone_opens number l

all_connections : (numbers : List ℕ) (l : Lists) → (sessions_gone numbers l).connections ≡ l.connections
all_connections [] l = refl
all_connections (number ∷ numbers) l = all_connections numbers (session_gone number l) ∙ gone_connections number l

all_sessions : (numbers : List ℕ) (l : Lists) → (sessions_gone numbers l).sessions ≡ taken_out numbers l.sessions
all_sessions [] l = refl
all_sessions (number ∷ numbers) l = all_sessions numbers (session_gone number l) ∙ ap (taken_out numbers) (gone_sessions number l)

all_trees : (numbers : List ℕ) (l : Lists) → IsDistinct nat_eq (keys_of l.trees) → (sessions_gone numbers l).trees ≡ rows_but (λ e. list_any (nat_eq e.1.session) numbers) l.trees
all_trees [] l distinct = but_none l.trees
all_trees (number ∷ numbers) l distinct =
    let same = gone_trees number l distinct in
    let still = subst (λ (es : List (ℕ × Tree)). IsDistinct nat_eq (keys_of es)) (sym same) (IsDistinct-keys_filter nat_eq (λ (e : ℕ × Tree). not (eqb e.1.session number)) l.trees distinct) in
    all_trees numbers (session_gone number l) still
    ∙ ap (rows_but (λ (e : ℕ × Tree). list_any (nat_eq e.1.session) numbers)) same
    ∙ but_both (λ (e : ℕ × Tree). list_any (nat_eq e.1.session) numbers) (λ e. eqb e.1.session number) l.trees

-- ---- a connection

-- a session that is found passes exactly where it is among those that pass
passes_in : (test : Session → Bool) (es : List (ℕ × Session)) (k : ℕ) (row : Session) → IsDistinct nat_eq (keys_of es) → lookup (nat_eq k) es ≡ Some row → list_any (nat_eq k) (keys_where test es) ≡ test row
passes_in test [] k row distinct at = absurd (none_some at)
passes_in test (e ∷ es) k row distinct at =
    let tail = IsDistinct-tail nat_eq e.0 (keys_of es) distinct in
    elim (cases_Bool (eqb k e.0)) [
      | inl here ↦
          let this : e.1 ≡ row = same_Some (rw here at at) in
          subst (λ (r : Session). list_any (nat_eq k) (keys_where test (e ∷ es)) ≡ test r) this (
          elim (cases_Bool (test e.1)) [
            | inl h ↦ rw (h, here) refl
            | inr h ↦ rw h (none_of k (keys_where test es) (apart_where test k es (subst (λ j. AllByRecursion (λ y. eqb j y ≡ false) (keys_of es)) (equal_from k e.0 here) (IsDistinct-head nat_eq e.0 (keys_of es) distinct))))
          ])
      | inr other ↦
          let later = passes_in test es k row tail (rw other at at) in
          elim (cases_Bool (test e.1)) [ inl h ↦ rw (h, other) later | inr h ↦ rw h later ]
    ]
  where
    none_of : (j : ℕ) (ns : List ℕ) → AllByRecursion (λ n. eqb n j ≡ false) ns → list_any (nat_eq j) ns ≡ false
    none_of j [] all = refl
    none_of j (n ∷ ns) all = rw (unequal_both n j all.0) (none_of j ns all.1)

-- the tree connects of the sessions on a connection are those on it
trees_same : (conn : ℕ) (l : Lists) (es : List (ℕ × Tree)) → AreDistinct l → AllByRecursion (λ e. IsTreeLinked l e.1) es → AllByRecursion (λ e. list_any (nat_eq e.1.session) (sessions_on conn l) ≡ eqb e.1.connection conn) es
trees_same conn l [] distinct all = tt
trees_same conn l (e ∷ es) distinct all = (passes_in (λ r. eqb r.connection conn) l.sessions e.1.session (record { connection = e.1.connection }) distinct.sessions all.0, trees_same conn l es distinct all.1)

-- the lists without the opens under a connection
abbrev freed : ℕ → Lists → Lists
freed conn l = all_closed (opens_under (scope.Connection conn) l) l

freed_on : (conn : ℕ) (l : Lists) → sessions_on conn (freed conn l) ≡ sessions_on conn l
freed_on conn l = ap (keys_where (λ (r : Session). eqb r.connection conn)) (closed_sessions (opens_under (scope.Connection conn) l) l)

-- what is left once the requests are forgotten is what was left before, but for them
left_lists : (f : FrontSmb) (s : CoreState) (conn : ℕ) → (smb_end f s conn).1.state ≡ record (connection_gone conn (freed conn f.state)) { waiting = (smb_end f s conn).1.state.waiting }
unfolding smb_end
left_lists f s conn =
    let l = requests_gone conn (connection_gone conn (freed conn f.state)) in
    dismissed_keeps (all_ended (leavers_under s.names (scope.Connection conn) f.state) s).0 (keys_of l.waiting) l

pub end_opens : (f : FrontSmb) (s : CoreState) (conn : ℕ) → AreDistinct f.state → (smb_end f s conn).1.state.opens ≡ rows_but (λ e. covers_holder (scope.Connection conn) e.1.holder) f.state.opens
unfolding connection_gone
end_opens f s conn distinct = ap (λ (l : Lists). l.opens) (left_lists f s conn) ∙ all_gone_opens (sessions_on conn (freed conn f.state)) (freed conn f.state) ∙ opens_out (scope.Connection conn) f.state distinct.opens

pub end_sessions : (f : FrontSmb) (s : CoreState) (conn : ℕ) → AreDistinct f.state → (smb_end f s conn).1.state.sessions ≡ rows_but (λ e. eqb e.1.connection conn) f.state.sessions
unfolding connection_gone
end_sessions f s conn distinct =
    let l = f.state in
    let test = λ (r : Session). eqb r.connection conn in
    ap (λ (m : Lists). m.sessions) (left_lists f s conn)
    ∙ all_sessions (sessions_on conn (freed conn l)) (freed conn l)
    ∙ ap (λ (es : List (ℕ × Session)). taken_out (keys_where test es) es) (closed_sessions (opens_under (scope.Connection conn) l) l)
    ∙ out_where test l.sessions distinct.sessions

pub end_trees : (f : FrontSmb) (s : CoreState) (conn : ℕ) → IsSound f.state → AreDistinct f.state → (smb_end f s conn).1.state.trees ≡ rows_but (λ e. eqb e.1.connection conn) f.state.trees
unfolding connection_gone
end_trees f s conn sound distinct =
    let l = f.state in
    let same = closed_trees (opens_under (scope.Connection conn) l) l in
    ap (λ (m : Lists). m.trees) (left_lists f s conn)
    ∙ all_trees (sessions_on conn (freed conn l)) (freed conn l) (subst (λ (es : List (ℕ × Tree)). IsDistinct nat_eq (keys_of es)) (sym same) distinct.trees)
    ∙ ap (λ (ns : List ℕ). rows_but (λ (e : ℕ × Tree). list_any (nat_eq e.1.session) ns) (freed conn l).trees) (freed_on conn l)
    ∙ ap (rows_but (λ (e : ℕ × Tree). list_any (nat_eq e.1.session) (sessions_on conn l))) same
    ∙ but_same (λ (e : ℕ × Tree). list_any (nat_eq e.1.session) (sessions_on conn l)) (λ e. eqb e.1.connection conn) l.trees (trees_same conn l l.trees distinct sound.trees)

pub end_connections : (f : FrontSmb) (s : CoreState) (conn : ℕ) → AreDistinct f.state → (smb_end f s conn).1.state.connections ≡ rows_but (λ e. eqb conn e.0) f.state.connections
unfolding connection_gone
end_connections f s conn distinct =
    let l = f.state in
    ap (λ (m : Lists). m.connections) (left_lists f s conn)
    ∙ ap (remove_entry (nat_eq conn)) (all_connections (sessions_on conn (freed conn l)) (freed conn l) ∙ closed_connections (opens_under (scope.Connection conn) l) l)
    ∙ out_one conn l.connections distinct.connections

-- ---- LOGOFF

planned_is : (s : CoreState) (files : List (List ℕ)) (others : ℕ) (l : Lists) (conn : ℕ) (h : SmbHead) (client : List ℕ) → client_of conn l ≡ Some client
    → (planned s files others l conn h Logoff ≡ logoff s l conn h) × (planned s files others l conn h TreeDisconnect ≡ tree_disconnect s l conn client h)
    × ((c : CloseCall) → planned s files others l conn h (Close c) ≡ close s l conn client h c.file_id)
unfolding planned commanded
planned_is s files others l conn h client at = (
  ap (negotiated_by (λ _. logoff s l conn h)) at,
  ap (negotiated_by (λ k. tree_disconnect s l conn k h)) at,
  λ c. ap (negotiated_by (λ k. close s l conn k h c.file_id)) at,
)

logoff_by : (s : CoreState) (l : Lists) (conn : ℕ) (h : SmbHead) (o : Option ℕ) → session_named s l conn h.session_id ≡ o
    → logoff s l conn h ≡ in_session (λ k. Does (ends (leavers_under s.names (scope.Session k) l)) (session_gone k (all_closed (opens_under (scope.Session k) l) l)) LoggedOff) o
unfolding logoff
logoff_by s l conn h o at = ap (in_session (λ k. Does (ends (leavers_under s.names (scope.Session k) l)) (session_gone k (all_closed (opens_under (scope.Session k) l) l)) LoggedOff)) at

disconnect_by : (s : CoreState) (l : Lists) (conn : ℕ) (client : List ℕ) (h : SmbHead) (o : Option ℕ) → session_named s l conn h.session_id ≡ o
    → tree_disconnect s l conn client h ≡ in_session (λ k. on_tree (disconnect s l) (tree_named l conn client h k)) o
unfolding tree_disconnect
disconnect_by s l conn client h o at = ap (in_session (λ k. on_tree (disconnect s l) (tree_named l conn client h k))) at

close_by : (s : CoreState) (l : Lists) (conn : ℕ) (client : List ℕ) (h : SmbHead) (id : FileId) (o : Option ℕ) → session_named s l conn h.session_id ≡ o
    → close s l conn client h id ≡ in_session (λ k. on_tree (λ _. on_open (close_open s l) (open_named s l conn id)) (tree_named l conn client h k)) o
unfolding close
close_by s l conn client h id o at = ap (in_session (λ k. on_tree (λ _. on_open (close_open s l) (open_named s l conn id)) (tree_named l conn client h k))) at

-- what holds of an outcome holds of a request's that is planned so
by_plan : (P : Outcome → Type 0) (n : ℕ) (s : CoreState) (l : Lists) (made plan : Plan) → made ≡ plan → P (carried n s l plan) → P (carried n s l made)
by_plan P n s l made plan e p = subst (λ (x : Plan). P (carried n s l x)) (sym e) p

module _ (n : ℕ) (s : CoreState) (files : List (List ℕ)) (others : ℕ) (l : Lists) (conn : ℕ) (h : SmbHead) (client : List ℕ) where
  pub logged_off : (P : Outcome → Type 0) (session : ℕ) → IsInSession s l conn h client session
      → P (LoggedOff, all_told_of n s (ends (leavers_under s.names (scope.Session session) l)), session_gone session (all_closed (opens_under (scope.Session session) l) l), all_done n s (ends (leavers_under s.names (scope.Session session) l)))
      → P (outcome_of n s files others l conn h Logoff)
  logged_off P session named = by_plan P n s l _ _ ((planned_is s files others l conn h client named.0).0 ∙ logoff_by s l conn h (Some session) named.1)

  pub logoff_refused : client_of conn l ≡ Some client → session_named s l conn h.session_id ≡ None → outcome_of n s files others l conn h Logoff ≡ (Failed UserSessionDeleted, [], l, s)
  logoff_refused known none = ap (carried n s l) ((planned_is s files others l conn h client known).0 ∙ logoff_by s l conn h None none)

  -- ---- TREE_DISCONNECT

  pub disconnected : (P : Outcome → Type 0) (session : ℕ) (place : Place) → IsOnTree s l conn h client session place
      → P (Disconnected, all_told_of n s (ends (leavers_under s.names (scope.Tree place.tree) l)), tree_dropped place.tree (all_closed (opens_under (scope.Tree place.tree) l) l), all_done n s (ends (leavers_under s.names (scope.Tree place.tree) l)))
      → P (outcome_of n s files others l conn h TreeDisconnect)
  disconnected P session place named =
      by_plan P n s l _ _ ((planned_is s files others l conn h client named.0.0).1 ∙ disconnect_by s l conn client h (Some session) named.0.1 ∙ ap (on_tree (disconnect s l)) named.1)

  pub disconnect_lost : client_of conn l ≡ Some client → session_named s l conn h.session_id ≡ None → outcome_of n s files others l conn h TreeDisconnect ≡ (Failed UserSessionDeleted, [], l, s)
  disconnect_lost known none = ap (carried n s l) ((planned_is s files others l conn h client known).1 ∙ disconnect_by s l conn client h None none)

  pub disconnect_refused : (session : ℕ) → IsInSession s l conn h client session → tree_named l conn client h session ≡ None → outcome_of n s files others l conn h TreeDisconnect ≡ (Failed NetworkNameDeleted, [], l, s)
  disconnect_refused session named none =
      ap (carried n s l) ((planned_is s files others l conn h client named.0).1 ∙ disconnect_by s l conn client h (Some session) named.1 ∙ ap (on_tree (disconnect s l)) none)

  -- ---- CLOSE

  pub closes_open : (P : Outcome → Type 0) (c : CloseCall) (session : ℕ) (place : Place) (number : ℕ) → IsOnTree s l conn h client session place → open_named s l conn c.file_id ≡ Some number
      → P (Closed, all_told_of n s (ends ((number, party_going s.names l number) ∷ [])), closed number l, all_done n s (ends ((number, party_going s.names l number) ∷ [])))
      → P (outcome_of n s files others l conn h (Close c))
  closes_open P c session place number named third =
      by_plan P n s l _ _
      ((planned_is s files others l conn h client named.0.0).2 c
      ∙ close_by s l conn client h c.file_id (Some session) named.0.1
      ∙ ap (on_tree (λ _. on_open (close_open s l) (open_named s l conn c.file_id))) named.1
      ∙ ap (on_open (close_open s l)) third)

  pub close_lost : (c : CloseCall) → client_of conn l ≡ Some client → session_named s l conn h.session_id ≡ None → outcome_of n s files others l conn h (Close c) ≡ (Failed UserSessionDeleted, [], l, s)
  close_lost c known none = ap (carried n s l) ((planned_is s files others l conn h client known).2 c ∙ close_by s l conn client h c.file_id None none)

  pub close_apart : (c : CloseCall) (session : ℕ) → IsInSession s l conn h client session → tree_named l conn client h session ≡ None → outcome_of n s files others l conn h (Close c) ≡ (Failed NetworkNameDeleted, [], l, s)
  close_apart c session named none =
      ap (carried n s l) ((planned_is s files others l conn h client named.0).2 c ∙ close_by s l conn client h c.file_id (Some session) named.1 ∙ ap (on_tree (λ _. on_open (close_open s l) (open_named s l conn c.file_id))) none)

  pub close_refused : (c : CloseCall) (session : ℕ) (place : Place) → IsOnTree s l conn h client session place → open_named s l conn c.file_id ≡ None → outcome_of n s files others l conn h (Close c) ≡ (Failed FileClosed, [], l, s)
  close_refused c session place named none =
      ap (carried n s l)
      ((planned_is s files others l conn h client named.0.0).2 c
      ∙ close_by s l conn client h c.file_id (Some session) named.0.1
      ∙ ap (on_tree (λ _. on_open (close_open s l) (open_named s l conn c.file_id))) named.1
      ∙ ap (on_open (close_open s l)) none)

pub tree_trees : (l : Lists) (tree : ℕ) (numbers : List ℕ) → AreDistinct l → (tree_dropped tree (all_closed numbers l)).trees ≡ rows_but (λ e. eqb tree e.0) l.trees
tree_trees l tree numbers distinct = ap (remove_entry (nat_eq tree)) (closed_trees numbers l) ∙ out_one tree l.trees distinct.trees
