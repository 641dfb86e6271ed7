-- What is asked is of its open, and the caches are those that the breaks leave that are told of.
use Rattle.std.proofs.Common.{◌≡◌, ℕ, ◌+◌, Bool, true, false, not, if◌then◌else◌, List, [], ◌∷◌, ◌++◌, length, Option, Some, None, refl, sym, ap, subst, ◌∙◌, append-nil}
use Rattle.std.specs.List.{AllByRecursion}
use Rattle.xl_smb.specs.Calls.{Create, Lock}
use Rattle.xl_smb.specs.Creates.{CreateCallItem}
use Rattle.xl_smb.specs.Locks.{LockItem, elements_of}
use Rattle.xl_smb.specs.declared.head.SmbHead.{SmbHead}
use Rattle.xl_smb.specs.declared.lock.LockElement.{LockElement}
use Rattle.xl_smb_state.specs.State.{Lists}
use Rattle.xl_smb_state.specs.declared.row.Open.{Open}
use Rattle.xl_smb_state.specs.declared.row.Place.{Place}
use Rattle.xl_smb_state.specs.declared.row.Request.TheVariants as request
use Rattle.xl_smb_state.specs.declared.row.Waiting.{Waiting}
use Rattle.xl_wait.specs.Waiting.{no_rows}
use Rattle.xl_wait.specs.declared.waiter.Rooms.{Rooms}
use Rattle.xl_core.specs.Askers.{asked_claims, asked_whats, is_client}
use Rattle.xl_core.specs.BreaksBegun.{begun_at}
use Rattle.xl_core.specs.Leases.{moment_after}
use Rattle.xl_core.specs.Decide.{ask, plea_of, way, before_wish}
use Rattle.xl_core.specs.Deeds.{Asks, Deed}
use Rattle.xl_core.specs.Good.{IsGood, caches_of}
use Rattle.xl_core.specs.Places.{CacheOf, else_was, held_at}
use Rattle.xl_core.specs.State.{CoreState, drawn}
use Rattle.xl_core.specs.declared.ask.Answer.{Answer}
use Rattle.xl_core.specs.declared.ask.Answer.TheVariants as answers
use Rattle.xl_core.specs.declared.ask.Ask.{Ask}
use Rattle.xl_core.specs.declared.ask.Effect.{Effect}
use Rattle.xl_core.proofs.CachePlaces.{held_of_caches}
use Rattle.xl_core.proofs.FrameLaws.{decided_quiet}
use Rattle.xl_core.proofs.GoodLaws.{asked_way_good, drawn_good}
use Rattle.xl_core.proofs.WayAsks.{ask_own}
use Rattle.xl_core.proofs.WayDeeds.{way_made}
use Rattle.xl_smb_locks.specs.Elements.{is_count, lock_fault, unlock_fault, unlocks_first}
use Rattle.xl_smb_locks.specs.Levels.{caching, party_by, party_for}
use Rattle.xl_smb_locks.specs.Locks.{lock_ask, unlock_ask, unlock_next, unlock_told, unlocks}
use Rattle.xl_smb_locks.specs.declared.levels.Caching.{Caching}
use Rattle.xl_smb_locks.specs.declared.locking.Locking.{Locking}
use Rattle.xl_smb_locks.specs.declared.status.SmbStatus.{SmbStatus}
use Rattle.xl_smb_locks.specs.declared.status.SmbStatus.TheVariants as status
use Rattle.xl_smb_locks.proofs.FitLaws.{party_fits}
use Rattle.xl_front_smb.specs.Checks.{id_of}
use Rattle.xl_front_smb.specs.Files.{open_as, open_ask, open_row, rooms_left}
use Rattle.xl_front_smb.specs.Laws.{IsOnTree, outcome_of}
use Rattle.xl_front_smb.specs.Locks.{lock_by, lock_on, place_of, unlock_by, waiting_row}
use Rattle.xl_front_smb.specs.Plans.{Outcome, Plan, carried, deeds_of, opened_told}
use Rattle.xl_front_smb.specs.Requests.{planned}
use Rattle.xl_front_smb.specs.Texts.{file_spelled}
use Rattle.xl_front_smb.specs.declared.told.Told.TheVariants as told
use Rattle.xl_smb_laws.specs.AskedRows.{IsAskOf, IsPartyOf, OnlyTold}
use Rattle.xl_smb_laws.specs.LockLaws.{IsOfOpen}
use Rattle.xl_smb_laws.proofs.CreateLaws.{found_is, found_checks}
use Rattle.xl_smb_laws.proofs.PlanWalks.{walk_created, walk_refused}
use Rattle.xl_smb_laws.proofs.RangeLaws.{by_lock, lock_named, lock_planned}

-- ---- for whom it is asked

own_party : (number : ℕ) (row : Open) → IsPartyOf number row (party_for number row)
own_party number row = record { leased = λ key under. ap (party_by row.client number) under; alone = λ none. ap (party_by row.client number) none }

unlock_of : (number : ℕ) (row : Open) (e : LockElement) → IsAskOf number row (Asks no_rows (unlock_ask number row e))
unfolding unlock_ask
unlock_of number row e = (refl, refl, own_party number row)

told_of_row : (number : ℕ) (row : Open) (e : LockElement) (answer : Answer) (rest : List Deed × Locking) → AllByRecursion (IsAskOf number row) rest.0 → AllByRecursion (IsAskOf number row) (unlock_told (unlock_ask number row e) answer rest).0
told_of_row number row e (answers.Granted c) rest all = (unlock_of number row e, all)
told_of_row number row e (answers.Conflict c) rest all = (unlock_of number row e, tt)
told_of_row number row e (answers.Queued id) rest all = (unlock_of number row e, tt)
told_of_row number row e (answers.Recall c) rest all = (unlock_of number row e, tt)
told_of_row number row e (answers.Grace until) rest all = (unlock_of number row e, tt)
told_of_row number row e (answers.NoGrace clock) rest all = (unlock_of number row e, tt)
told_of_row number row e answers.NotRecorded rest all = (unlock_of number row e, tt)
told_of_row number row e (answers.Full limit) rest all = (unlock_of number row e, tt)
told_of_row number row e answers.NotHeld rest all = (unlock_of number row e, tt)
told_of_row number row e answers.StoreFailed rest all = (unlock_of number row e, tt)

next_of_row : (number : ℕ) (row : Open) (fault : Option SmbStatus) (next : List Deed × Locking) → AllByRecursion (IsAskOf number row) next.0 → AllByRecursion (IsAskOf number row) (unlock_next fault next).0
next_of_row number row None next all = all
next_of_row number row (Some refused) next all = tt

unlocks_of : (s : CoreState) (number : ℕ) (row : Open) (es : List LockElement) → AllByRecursion (IsAskOf number row) (unlocks s number row es).0
unlocks_of s number row [] = tt
unlocks_of s number row (e ∷ es) =
    let r = ask 0 no_rows s (unlock_ask number row e) in
    next_of_row number row (unlock_fault e) (unlock_told (unlock_ask number row e) r.0 (unlocks r.2 number row es)) (told_of_row number row e r.0 (unlocks r.2 number row es) (unlocks_of r.2 number row es))

locks_of : (n : ℕ) (s : CoreState) (l : Lists) (conn : ℕ) (kept : Waiting) (number : ℕ) (row : Open) (es : List LockElement) (o : Option SmbStatus) → AllByRecursion (IsAskOf number row) (deeds_of n s l (lock_by conn kept number row es o))
unfolding lock_ask
locks_of n s l conn kept number row es (Some refused) = tt
locks_of n s l conn kept number row es None = ((refl, refl, own_party number row), tt)

module _ (n : ℕ) (s : CoreState) (files : List (List ℕ)) (others : ℕ) (l : Lists) (conn : ℕ) (h : SmbHead) (client : List ℕ) where
  on_of : (number : ℕ) (place : Place) (es : List LockElement) (row : Open) (first : Bool)
      → AllByRecursion (IsAskOf number row) (deeds_of n s l (if first then unlock_by l (unlocks s number row es) else lock_by conn (waiting_row h (place_of row.holder place) number request.Lock) number row es (lock_fault es)))
  on_of number place es row true = unlocks_of s number row es
  on_of number place es row false = locks_of n s l conn (waiting_row h (place_of row.holder place) number request.Lock) number row es (lock_fault es)

  pub lock_asks_of : (c : LockItem) (session : ℕ) (place : Place) (number : ℕ) (row : Open) → IsOfOpen s l conn h client c.file_id session place number row → AllByRecursion (IsAskOf number row) (deeds_of n s l (planned s files others l conn h (Lock c)))
  lock_asks_of c session place number row of =
      let es = elements_of c.elements in
      subst (λ (x : Plan). AllByRecursion (IsAskOf number row) (deeds_of n s l x)) (sym (lock_planned n s files others l conn h client c of.0.0.0 ∙ lock_named n s files others l conn h client c session place number row of))
      (walk_refused (λ plan. AllByRecursion (IsAskOf number row) (deeds_of n s l plan)) (λ refusal. tt) ((not (is_count (length es)), status.InvalidParameter) ∷ [])
      (if unlocks_first es then unlock_by l (unlocks s number row es) else lock_by conn (waiting_row h (place_of row.holder place) number request.Lock) number row es (lock_fault es)) (λ all. on_of number place es row (unlocks_first es)))

  opens_of : (c : CreateCallItem) (file : ℕ) (place : Place) → AllByRecursion (IsAskOf (s.counter + 1) (open_row file client place c)) (deeds_of n s l (open_as s others l h client place c file (s.counter + 1)))
  unfolding open_ask
  opens_of c file place = (tt, ((refl, refl, own_party (s.counter + 1) (open_row file client place c)), tt))

  pub create_asks_of : (c : CreateCallItem) (session file : ℕ) (place : Place) → IsOnTree s l conn h client session place → file_spelled files c.name ≡ Some file → AllByRecursion (IsAskOf (s.counter + 1) (open_row file client place c)) (deeds_of n s l (planned s files others l conn h (Create c)))
  create_asks_of c session file place named at =
      let P : Plan → Type 0 = λ plan. AllByRecursion (IsAskOf (s.counter + 1) (open_row file client place c)) (deeds_of n s l plan) in
      subst P (sym (found_is s files others l conn h client c session file place named at))
      (walk_refused P (λ refusal. tt) (found_checks s others l client c file) (open_as s others l h client place c file (s.counter + 1)) (λ all. opens_of c file place))

-- ---- the caches

-- an ask tells of the breaks that its way begins
asked_tells : (n : ℕ) (left : Rooms) (s : CoreState) (a : Ask) → IsGood s → is_client a.owner a.party ≡ true → (ask n left s a).1 ≡ (way left s a).0
unfolding ask before_wish
asked_tells n left s a good fit =
    let w = way left s a in
    ap (λ (es : List Effect). w.0 ++ es) (decided_quiet n left w.1 a (asked_way_good left s a good) fit) ∙ append-nil w.0

asked_only : (n : ℕ) (left : Rooms) (s : CoreState) (a : Ask) → IsGood s → is_client a.owner a.party ≡ true → caches_of (ask n left s a).2.claims ≡ caches_of (way left s a).1.claims → OnlyTold s (ask n left s a).1 (ask n left s a).2
asked_only n left s a good fit same file party =
    let w = way left s a in
    held_of_caches file party w.1.claims (ask n left s a).2.claims same
    ∙ subst (λ (told : List Effect). held_at w.1 (CacheOf file party) ≡ else_was (begun_at (moment_after s.clock s.times.break_time) file party told) (held_at s (CacheOf file party))) (sym (asked_tells n left s a good fit))
    (way_made s.waiters (plea_of left s a) (asked_claims a (asked_whats a.act) s.names) s (CacheOf file party) good)

still_only : (s : CoreState) → OnlyTold s [] s
still_only s file party = refl

abbrev Only : CoreState → Outcome → Type 0
Only s r = OnlyTold s r.1 r.3

lock_only : (n : ℕ) (s : CoreState) (l : Lists) (conn : ℕ) (kept : Waiting) (number : ℕ) (row : Open) (es : List LockElement) (o : Option SmbStatus) → IsGood s → Only s (carried n s l (lock_by conn kept number row es o))
unfolding lock_ask
lock_only n s l conn kept number row es (Some refused) good = still_only s
lock_only n s l conn kept number row es None good =
    let a = lock_ask conn number row es in
    let r = ask n no_rows s a in
    subst (λ (told : List Effect). OnlyTold s told r.2) (sym (append-nil r.1)) (asked_only n no_rows s a good (party_fits number row) ((ask_own n no_rows s a good (party_fits number row)).unwished refl))

module _ (n : ℕ) (s : CoreState) (files : List (List ℕ)) (others : ℕ) (l : Lists) (conn : ℕ) (h : SmbHead) where
  pub locks_only : (client : List ℕ) (c : LockItem) (session : ℕ) (place : Place) (number : ℕ) (row : Open) → IsOfOpen s l conn h client c.file_id session place number row → unlocks_first (elements_of c.elements) ≡ false → IsGood s
      → Only s (outcome_of n s files others l conn h (Lock c))
  locks_only client c session place number row of first good =
      by_lock n s files others l conn h client (Only s) c session place number row of (on_only (is_count (length es)) refl)
    where
      es : List LockElement
      es = elements_of c.elements

      on_only : (count : Bool) → is_count (length es) ≡ count → Only s (carried n s l (lock_on s l conn h number place es row))
      on_only false is = rw is (still_only s)
      on_only true is = rw (is, first) (lock_only n s l conn (waiting_row h (place_of row.holder place) number request.Lock) number row es (lock_fault es) good)

  -- one that isn't open
  abbrev NotOpen : Plan → Type 0
  NotOpen plan = ((id : ℕ) (cache : Caching) → (carried n s l plan).0 ≡ told.Opened id cache → ⊥) → Only s (carried n s l plan)

  opens_only : IsGood s → (client : List ℕ) (place : Place) (c : CreateCallItem) (file : ℕ) → NotOpen (open_as s others l h client place c file (s.counter + 1))
  unfolding open_ask drawn
  opens_only good client place c file shut =
      let number = s.counter + 1 in
      let row = open_row file client place c in
      let a = open_ask place.connection number row c in
      let r = ask n (rooms_left others l) (drawn s) a in
      let own = ask_own n (rooms_left others l) (drawn s) a (drawn_good s good) (party_fits number row) in
      let same = own.claims (λ g at. shut (id_of s number) (caching r.2 number row) (ap (opened_told (id_of s number) (caching r.2 number row)) at)) in
      subst (λ (told : List Effect). OnlyTold s told r.2) (sym (append-nil r.1)) (asked_only n (rooms_left others l) (drawn s) a (drawn_good s good) (party_fits number row) (ap caches_of same))

  pub creates_only : (c : CreateCallItem) → IsGood s → NotOpen (planned s files others l conn h (Create c))
  creates_only c good = walk_created NotOpen (λ refused shut. still_only s) s files others l conn h c (λ client place file here. opens_only good client place c file)
