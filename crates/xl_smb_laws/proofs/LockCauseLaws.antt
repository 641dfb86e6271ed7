-- LOCK is answered with its status for its cause.
use Rattle.std.proofs.Common.{◌≡◌, ◌↔◌, ℕ, ◌+◌, ◌-◌, ◌^◌, ◌<◌, ◌≤◌, ◌&&◌, ◌||◌, Bool, true, false, not, if◌then◌else◌, List, [], ◌∷◌, length, map, Option, Some, None, refl, sym, ap, subst, ◌∙◌, arith}
use Rattle.std.specs.Prelude.{◌==◌, nat_lt}
use Rattle.std.specs.List.{list_any}
use Rattle.std.proofs.lemmas.Bool.Decides.{nat_tests}
use Rattle.xl_matrix.specs.declared.claim.Claim.{Claim}
use Rattle.xl_smb.specs.Calls.{Lock}
use Rattle.xl_smb.specs.Locks.{LockItem, elements_of}
use Rattle.xl_smb.specs.declared.head.SmbHead.{SmbHead}
use Rattle.xl_smb.specs.declared.lock.LockElement.{LockElement}
use Rattle.xl_smb_state.specs.State.{Lists, client_of, open_of}
use Rattle.xl_smb_state.specs.declared.row.Open.{Open}
use Rattle.xl_smb_state.specs.declared.row.Place.{Place}
use Rattle.xl_smb_state.specs.declared.row.Request.TheVariants as request
use Rattle.xl_wait.specs.Waiting.{no_rows}
use Rattle.xl_core.specs.Causes.{IsClaimDue}
use Rattle.xl_core.specs.Decide.{ask, way}
use Rattle.xl_core.specs.Deeds.{Asks}
use Rattle.xl_core.specs.Dues.{IsRangesDue}
use Rattle.xl_core.specs.Good.{IsGood}
use Rattle.xl_core.specs.State.{CoreState}
use Rattle.xl_core.specs.declared.ask.Answer.{Answer}
use Rattle.xl_core.specs.declared.ask.Answer.TheVariants as answers
use Rattle.xl_core.specs.declared.ask.Ask.{Ask}
use Rattle.xl_core.proofs.DeedLaws.{deed_due}
use Rattle.xl_core.proofs.WayAsks.{ask_due}
use Rattle.xl_smb_locks.specs.Elements.{any_waits, is_count, is_lock, is_locking, is_unlock, lock_fault, unlocks_first, wraps}
use Rattle.xl_smb_locks.specs.Locks.{lock_ask, lock_told, range_of}
use Rattle.xl_smb_locks.specs.declared.status.SmbStatus.{SmbStatus}
use Rattle.xl_smb_locks.specs.declared.status.SmbStatus.TheVariants as status
use Rattle.xl_smb_locks.proofs.FitLaws.{lock_fits}
use Rattle.xl_smb_locks.proofs.PlainLaws.{no_other}
use Rattle.xl_smb_locks.specs.Short.{IsOpenAsk}
use Rattle.xl_front_smb.specs.Checks.{in_session, on_open, on_tree, open_named, session_named, tree_named}
use Rattle.xl_front_smb.specs.Laws.{IsInSession, IsOnTree, outcome_of}
use Rattle.xl_front_smb.specs.Locks.{lock, lock_by, lock_found, place_of, waiting_row}
use Rattle.xl_front_smb.specs.Plans.{Outcome, carried, told_as}
use Rattle.xl_front_smb.specs.declared.told.Told.{Told}
use Rattle.xl_front_smb.specs.declared.told.Told.TheVariants as told
use Rattle.xl_front_smb.proofs.LockLaws.{counted}
use Rattle.xl_smb_laws.specs.LockCauses.{AreDue, IsLockOf, IsOneDue, once_asked, range_claim}
use Rattle.xl_smb_laws.specs.LockLaws.{IsOfOpen, held_as}
use Rattle.xl_smb_laws.proofs.RangeLaws.{by_lock, lock_planned}

-- ---- flags

pub flags_shared : (e : LockElement) → e.flags ≡ 1 → IsLockOf false true e
flags_shared e is = record { lock = rw is refl; unlock = rw is refl; exclusive_is = rw is refl; waits_is = rw is refl }

pub flags_exclusive : (e : LockElement) → e.flags ≡ 2 → IsLockOf true true e
flags_exclusive e is = record { lock = rw is refl; unlock = rw is refl; exclusive_is = rw is refl; waits_is = rw is refl }

pub flags_shared_now : (e : LockElement) → e.flags ≡ 0x11 → IsLockOf false false e
flags_shared_now e is = record { lock = rw is refl; unlock = rw is refl; exclusive_is = rw is refl; waits_is = rw is refl }

pub flags_exclusive_now : (e : LockElement) → e.flags ≡ 0x12 → IsLockOf true false e
flags_exclusive_now e is = record { lock = rw is refl; unlock = rw is refl; exclusive_is = rw is refl; waits_is = rw is refl }

pub flags_unlock : (e : LockElement) → e.flags ≡ 4 → (is_unlock e ≡ true) × (is_locking e ≡ false) × (is_lock e ≡ false)
flags_unlock e is = (rw is refl, rw is refl, rw is refl)

reaches : (offset len : ℕ) → offset < 2 ^ 64 → len < 2 ^ 64 → ((not (len == 0) && (nat_lt (2 ^ 64 - 1) len || nat_lt (2 ^ 64 - 1) (offset + (len - 1)))) ≡ true → 2 ^ 64 < offset + len) × (2 ^ 64 < offset + len → (not (len == 0) && (nat_lt (2 ^ 64 - 1) len || nat_lt (2 ^ 64 - 1) (offset + (len - 1)))) ≡ true)
reaches offset len low few = ((λ h. grind (arith, nat_tests)), (λ h. grind (arith, nat_tests)))

pub past_is : (e : LockElement) → e.offset < 2 ^ 64 → e.length < 2 ^ 64 → (wraps e ≡ true) ↔ (2 ^ 64 < e.offset + e.length)
past_is e low few = reaches e.offset e.length low few

-- ---- one lock

one_forth : (n : ℕ) (s : CoreState) (a : Ask) (claim : Claim) (answer : Answer) → IsOpenAsk a → a.awaits ≡ true → IsClaimDue n no_rows s a claim answer → IsOneDue n s a claim (told_as (lock_told answer))
one_forth n s a claim (answers.Granted c) is rests due = (refl, due.1, due.2, due.3, due.4)
one_forth n s a claim (answers.Conflict c) is rests due = (c, due)
one_forth n s a claim (answers.Full limit) is rests due = (limit, due)
one_forth n s a claim (answers.Queued id) is rests due = due
one_forth n s a claim (answers.NoGrace clock) is rests due = absurd (no_other n no_rows s a claim (answers.NoGrace clock) is rests refl due)
one_forth n s a claim (answers.Recall c) is rests due = absurd (no_other n no_rows s a claim (answers.Recall c) is rests refl due)
one_forth n s a claim (answers.Grace until) is rests due = absurd (no_other n no_rows s a claim (answers.Grace until) is rests refl due)
one_forth n s a claim answers.NotRecorded is rests due = absurd (no_other n no_rows s a claim answers.NotRecorded is rests refl due)
one_forth n s a claim answers.NotHeld is rests due = absurd due
one_forth n s a claim answers.StoreFailed is rests due = absurd (no_other n no_rows s a claim answers.StoreFailed is rests refl due)

status_back : (n : ℕ) (s : CoreState) (a : Ask) (claim : Claim) (r : Answer) → ((answer : Answer) → IsClaimDue n no_rows s a claim answer → r ≡ answer) → (refused : SmbStatus) → IsOneDue n s a claim (told.Failed refused) → told_as (lock_told r) ≡ told.Failed refused
status_back n s a claim r exact status.LockNotGranted due = ap (λ (x : Answer). told_as (lock_told x)) (exact (answers.Conflict due.0) due.1)
status_back n s a claim r exact status.InsufficientResources due = ap (λ (x : Answer). told_as (lock_told x)) (exact (answers.Full due.0) due.1)
status_back n s a claim r exact status.SharingViolation due = absurd due
status_back n s a claim r exact status.InvalidParameter due = absurd due
status_back n s a claim r exact status.ObjectNameNotFound due = absurd due
status_back n s a claim r exact status.ObjectNameCollision due = absurd due
status_back n s a claim r exact status.NotSupported due = absurd due
status_back n s a claim r exact status.NetworkNameDeleted due = absurd due
status_back n s a claim r exact status.BadNetworkName due = absurd due
status_back n s a claim r exact status.InvalidOplockProtocol due = absurd due
status_back n s a claim r exact status.FileClosed due = absurd due
status_back n s a claim r exact status.InvalidDeviceState due = absurd due
status_back n s a claim r exact status.UserSessionDeleted due = absurd due
status_back n s a claim r exact status.RangeNotLocked due = absurd due
status_back n s a claim r exact status.InvalidLockRange due = absurd due
status_back n s a claim r exact status.Cancelled due = absurd due
status_back n s a claim r exact status.Unsuccessful due = absurd due
status_back n s a claim r exact status.RequestNotAccepted due = absurd due

one_back : (n : ℕ) (s : CoreState) (a : Ask) (claim : Claim) (r : Answer) → ((answer : Answer) → IsClaimDue n no_rows s a claim answer → r ≡ answer) → (t : Told) → IsOneDue n s a claim t → told_as (lock_told r) ≡ t
one_back n s a claim r exact told.Locked due = ap (λ (x : Answer). told_as (lock_told x)) (exact (answers.Granted claim) due)
one_back n s a claim r exact (told.Pending id) due = ap (λ (x : Answer). told_as (lock_told x)) (exact (answers.Queued id) due)
one_back n s a claim r exact (told.Failed refused) due = status_back n s a claim r exact refused due
one_back n s a claim r exact told.Nothing due = absurd due
one_back n s a claim r exact told.Negotiated due = absurd due
one_back n s a claim r exact (told.SetUp session) due = absurd due
one_back n s a claim r exact told.LoggedOff due = absurd due
one_back n s a claim r exact (told.Connected tree) due = absurd due
one_back n s a claim r exact told.Disconnected due = absurd due
one_back n s a claim r exact (told.Opened id cache) due = absurd due
one_back n s a claim r exact (told.Acknowledged id level) due = absurd due
one_back n s a claim r exact (told.Answered lease) due = absurd due
one_back n s a claim r exact told.Closed due = absurd due
one_back n s a claim r exact told.Echoed due = absurd due

one_exactly : (n : ℕ) (s : CoreState) (conn number : ℕ) (row : Open) (e : LockElement) (t : Told) → lock_fault (e ∷ []) ≡ None
    → (told_as (lock_told (ask n no_rows s (lock_ask conn number row (e ∷ []))).0) ≡ t) ↔ IsOneDue n (once_asked s conn number row (e ∷ [])) (lock_ask conn number row (e ∷ [])) (range_claim s.names number row e) t
unfolding lock_ask
one_exactly n s conn number row e t fault =
    let is = lock_fits conn number row (e ∷ []) fault (omega arith) in
    let a = lock_ask conn number row (e ∷ []) in
    let claim = range_claim s.names number row e in
    let r = (ask n no_rows s a).0 in
    let begun = (way no_rows s a).1 in (
      λ h. subst (IsOneDue n begun a claim) h (one_forth n begun a claim r is refl ((ask_due n no_rows s a (held_as e) r refl).0 refl)),
      λ due. one_back n begun a claim r (λ answer k. (ask_due n no_rows s a (held_as e) answer refl).1 k) t due,
    )

-- ---- several

several_due : (n : ℕ) (s : CoreState) (a : Ask) (es : List LockElement) (answer : Answer) → IsRangesDue n no_rows s a (map range_of es) answer → AreDue n s a es (told_as (lock_told answer))
several_due n s a es (answers.Granted c) due = (c, due)
several_due n s a es (answers.Conflict c) due = (c, due)
several_due n s a es (answers.Queued id) due = due
several_due n s a es (answers.Full limit) due = (answers.Full limit, refl, due)
several_due n s a es (answers.Recall c) due = (answers.Recall c, refl, due)
several_due n s a es (answers.NoGrace clock) due = (answers.NoGrace clock, refl, due)
several_due n s a es (answers.Grace until) due = (answers.Grace until, refl, due)
several_due n s a es answers.NotRecorded due = (answers.NotRecorded, refl, due)
several_due n s a es answers.NotHeld due = (answers.NotHeld, refl, due)
several_due n s a es answers.StoreFailed due = (answers.StoreFailed, refl, due)

asked_due : (n : ℕ) (s : CoreState) (conn number : ℕ) (row : Open) (es : List LockElement) → IsGood s → lock_fault es ≡ None → 1 ≤ length es
    → AreDue n (once_asked s conn number row es) (lock_ask conn number row es) es (told_as (lock_told (ask n no_rows s (lock_ask conn number row es)).0))
unfolding lock_ask
asked_due n s conn number row es good fault some =
    let a = lock_ask conn number row es in
    several_due n (way no_rows s a).1 a es (ask n no_rows s a).0 (deed_due n s (Asks no_rows a) good (lock_fits conn number row es fault some).fit)

-- ---- the checks

fault_flags : (es : List LockElement) → list_any (λ e. not (is_lock e)) es ≡ true → lock_fault es ≡ Some status.InvalidParameter
unfolding lock_fault
fault_flags es h = rw h refl

fault_many : (es : List LockElement) → nat_lt 1 (length es) ≡ true → any_waits es ≡ true → lock_fault es ≡ Some status.InvalidParameter
unfolding lock_fault
fault_many es more waits = by (list_any (λ e. not (is_lock e)) es) (nat_lt 1 (length es)) (any_waits es) more waits
  where
    by : (a b c : Bool) → b ≡ true → c ≡ true → (if a then Some status.InvalidParameter else if b && c then Some status.InvalidParameter else if list_any wraps es then Some status.InvalidLockRange else None) ≡ Some status.InvalidParameter
    by true b c first second = refl
    by false b c first second = rw (first, second) refl

fault_past : (es : List LockElement) → list_any (λ e. not (is_lock e)) es ≡ false → (nat_lt 1 (length es) && any_waits es) ≡ false → list_any wraps es ≡ true → lock_fault es ≡ Some status.InvalidLockRange
unfolding lock_fault
fault_past es first second third = rw (first, second, third) refl

module _ (n : ℕ) (s : CoreState) (files : List (List ℕ)) (others : ℕ) (l : Lists) (conn : ℕ) (h : SmbHead) (client : List ℕ) (c : LockItem) where
  pub lock_lost : client_of conn l ≡ Some client → session_named s l conn h.session_id ≡ None → outcome_of n s files others l conn h (Lock c) ≡ (told.Failed status.UserSessionDeleted, [], l, s)
  unfolding lock
  lock_lost known none =
      ap (carried n s l) (lock_planned n s files others l conn h client c known)
      ∙ ap (λ (o : Option ℕ). carried n s l (in_session (λ k. on_tree (λ p. on_open (λ m. lock_found s l conn h m p (elements_of c.elements) (open_of m l)) (open_named s l conn c.file_id)) (tree_named l conn client h k)) o)) none

  pub lock_apart : (session : ℕ) → IsInSession s l conn h client session → tree_named l conn client h session ≡ None → outcome_of n s files others l conn h (Lock c) ≡ (told.Failed status.NetworkNameDeleted, [], l, s)
  unfolding lock
  lock_apart session named none =
      ap (carried n s l) (lock_planned n s files others l conn h client c named.0)
      ∙ ap (λ (o : Option ℕ). carried n s l (in_session (λ k. on_tree (λ p. on_open (λ m. lock_found s l conn h m p (elements_of c.elements) (open_of m l)) (open_named s l conn c.file_id)) (tree_named l conn client h k)) o)) named.1
      ∙ ap (λ (o : Option Place). carried n s l (on_tree (λ p. on_open (λ m. lock_found s l conn h m p (elements_of c.elements) (open_of m l)) (open_named s l conn c.file_id)) o)) none

  pub lock_closed : (session : ℕ) (place : Place) → IsOnTree s l conn h client session place → open_named s l conn c.file_id ≡ None → outcome_of n s files others l conn h (Lock c) ≡ (told.Failed status.FileClosed, [], l, s)
  unfolding lock
  lock_closed session place named none =
      ap (carried n s l) (lock_planned n s files others l conn h client c named.0.0)
      ∙ ap (λ (o : Option ℕ). carried n s l (in_session (λ k. on_tree (λ p. on_open (λ m. lock_found s l conn h m p (elements_of c.elements) (open_of m l)) (open_named s l conn c.file_id)) (tree_named l conn client h k)) o)) named.0.1
      ∙ ap (λ (o : Option Place). carried n s l (on_tree (λ p. on_open (λ m. lock_found s l conn h m p (elements_of c.elements) (open_of m l)) (open_named s l conn c.file_id)) o)) named.1
      ∙ ap (λ (o : Option ℕ). carried n s l (on_open (λ m. lock_found s l conn h m place (elements_of c.elements) (open_of m l)) o)) none

  module _ (session : ℕ) (place : Place) (number : ℕ) (row : Open) (of : IsOfOpen s l conn h client c.file_id session place number row) where
    abbrev es : List LockElement
    es = elements_of c.elements

    -- locks that are counted, and fail so if they do
    counted_by : (fault : Option SmbStatus) → unlocks_first es ≡ false → is_count (length es) ≡ true → lock_fault es ≡ fault
        → outcome_of n s files others l conn h (Lock c) ≡ carried n s l (lock_by conn (waiting_row h (place_of row.holder place) number request.Lock) number row es fault)
    counted_by fault first count is =
        by_lock n s files others l conn h client (λ (r : Outcome). r ≡ carried n s l (lock_by conn (waiting_row h (place_of row.holder place) number request.Lock) number row es fault)) c session place number row of
        (rw (count, first) (ap (λ (o : Option SmbStatus). carried n s l (lock_by conn (waiting_row h (place_of row.holder place) number request.Lock) number row es o)) is))

    -- what fails as it isn't in order fails so if it isn't counted
    pub parameter : unlocks_first es ≡ false → lock_fault es ≡ Some status.InvalidParameter → outcome_of n s files others l conn h (Lock c) ≡ (told.Failed status.InvalidParameter, [], l, s)
    parameter first is = by (is_count (length es)) refl
      where
        by : (b : Bool) → is_count (length es) ≡ b → outcome_of n s files others l conn h (Lock c) ≡ (told.Failed status.InvalidParameter, [], l, s)
        by true count = counted_by (Some status.InvalidParameter) first count is
        by false count = by_lock n s files others l conn h client (λ (r : Outcome). r ≡ (told.Failed status.InvalidParameter, [], l, s)) c session place number row of (rw count refl)

    pub lock_flagged : unlocks_first es ≡ false → list_any (λ e. not (is_lock e)) es ≡ true → outcome_of n s files others l conn h (Lock c) ≡ (told.Failed status.InvalidParameter, [], l, s)
    lock_flagged first h = parameter first (fault_flags es h)

    pub lock_many : unlocks_first es ≡ false → nat_lt 1 (length es) ≡ true → any_waits es ≡ true → outcome_of n s files others l conn h (Lock c) ≡ (told.Failed status.InvalidParameter, [], l, s)
    lock_many first more waits = parameter first (fault_many es more waits)

    pub lock_past : unlocks_first es ≡ false → is_count (length es) ≡ true → list_any (λ e. not (is_lock e)) es ≡ false → (nat_lt 1 (length es) && any_waits es) ≡ false → list_any wraps es ≡ true → outcome_of n s files others l conn h (Lock c) ≡ (told.Failed status.InvalidLockRange, [], l, s)
    lock_past first count locks alone past = counted_by (Some status.InvalidLockRange) first count (fault_past es locks alone past)

    pub lock_one : (e : LockElement) (t : Told) → es ≡ e ∷ [] → is_unlock e ≡ false → lock_fault (e ∷ []) ≡ None
        → ((outcome_of n s files others l conn h (Lock c)).0 ≡ t) ↔ IsOneDue n (once_asked s conn number row (e ∷ [])) (lock_ask conn number row (e ∷ [])) (range_claim s.names number row e) t
    lock_one e t one locks fault =
        let row_kept = waiting_row h (place_of row.holder place) number request.Lock in
        let comes = counted_by None (ap unlocks_first one ∙ locks) (ap (λ (xs : List LockElement). is_count (length xs)) one) (ap lock_fault one ∙ fault) ∙ ap (λ (xs : List LockElement). carried n s l (lock_by conn row_kept number row xs None)) one in
        subst (λ (r : Outcome). (r.0 ≡ t) ↔ IsOneDue n (once_asked s conn number row (e ∷ [])) (lock_ask conn number row (e ∷ [])) (range_claim s.names number row e) t) (sym comes) (one_exactly n s conn number row e t fault)

    pub lock_several : unlocks_first es ≡ false → is_count (length es) ≡ true → lock_fault es ≡ None → IsGood s → AreDue n (once_asked s conn number row es) (lock_ask conn number row es) es (outcome_of n s files others l conn h (Lock c)).0
    lock_several first count fault good =
        subst (λ (r : Outcome). AreDue n (once_asked s conn number row es) (lock_ask conn number row es) es r.0) (sym (counted_by None first count fault)) (asked_due n s conn number row es good fault (counted (length es) count))
