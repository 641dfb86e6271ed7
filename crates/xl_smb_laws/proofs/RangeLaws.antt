-- What LOCK leaves of an open's ranges, and what CANCEL leaves.
use Rattle.std.proofs.Common.{◌≡◌, ℕ, ◌≤◌, ◌||◌, Bool, true, false, is_some, List, [], ◌∷◌, ◌++◌, length, map, Option, Some, None, refl, sym, ap, subst, ◌∙◌, ◌⊎◌, inl, inr, find, append-nil}
use Rattle.std.specs.List.{AllByRecursion}
use Rattle.std.specs.Option.{option_or}
use Rattle.std.proofs.lemmas.Bool.{true≢false}
use Rattle.xl_matrix.specs.declared.claim.Extent.{Extent}
use Rattle.xl_matrix.specs.declared.claim.What.TheVariants.{Range}
use Rattle.xl_table.proofs.ElementLaws.{among_found}
use Rattle.xl_core.specs.declared.ask.Effect.{Effect}
use Rattle.xl_core.proofs.WayOpens.{ask_element, ask_refused}
use Rattle.xl_smb_locks.specs.declared.status.SmbStatus.TheVariants as statuses
use Rattle.xl_smb_locks.proofs.UnlockLaws.{no_way}
use Rattle.xl_base.specs.Lists.{IsIn}
use Rattle.xl_base.specs.declared.name.Owner.TheVariants as owners
use Rattle.xl_matrix.specs.declared.claim.Claim.{Claim}
use Rattle.xl_matrix.specs.declared.claim.What.{What}
use Rattle.xl_names.specs.declared.name.Name.{Name}
use Rattle.xl_smb.specs.Calls.{Lock, Cancel}
use Rattle.xl_smb.specs.Locks.{LockItem, elements_of}
use Rattle.xl_smb.specs.declared.head.SmbHead.{SmbHead}
use Rattle.xl_smb.specs.declared.lock.LockElement.{LockElement}
use Rattle.xl_smb_state.specs.State.{Lists, client_of, open_of, waiting_under}
use Rattle.xl_smb_state.specs.declared.row.Open.{Open}
use Rattle.xl_smb_state.specs.declared.row.Place.{Place}
use Rattle.xl_smb_state.specs.declared.row.Scope.TheVariants as scope
use Rattle.xl_smb_state.specs.declared.row.Request.TheVariants as request
use Rattle.xl_smb_state.specs.declared.row.Waiting.{Waiting}
use Rattle.xl_table.specs.Elements.{element_held, is_element, unlocked_elements}
use Rattle.xl_table.specs.Elements.{elements_of as ranges_of}
use Rattle.xl_wait.specs.Waiting.{no_rows, is_waiting}
use Rattle.xl_core.proofs.DeedLaws.{ask_queue}
use Rattle.xl_core.specs.Askers.{asked_claims, asker, asking_party, known_claim, range_what}
use Rattle.xl_core.specs.BreaksBegun.{others_of}
use Rattle.xl_core.specs.Decide.{Answered, way, ask, waiter_of}
use Rattle.xl_core.specs.Deeds.{Deed, Asks, all_done, queue_with}
use Rattle.xl_core.specs.Good.{IsGood}
use Rattle.xl_core.specs.Places.{RangesOf, held_at}
use Rattle.xl_core.specs.Settle.{cancel as cancel_of}
use Rattle.xl_core.specs.State.{CoreState}
use Rattle.xl_core.specs.declared.ask.Answer.{Answer}
use Rattle.xl_core.specs.declared.ask.Answer.TheVariants as answers
use Rattle.xl_core.specs.declared.ask.Ask.{Ask}
use Rattle.xl_wait.specs.declared.waiter.Rooms.{Rooms}
use Rattle.xl_core.proofs.BreaksBegunLaws.{begun_others}
use Rattle.xl_core.proofs.GoodLaws.{ask_good}
use Rattle.xl_core.proofs.WayAsks.{ask_way_keeps, ask_way_names, ask_way_waiters, ask_own}
use Rattle.xl_core.proofs.WayOpens.{ask_locked, ask_unlocked}
use Rattle.xl_smb_locks.specs.Elements.{extent_of, is_count, unlocks_first, unlock_fault, lock_fault}
use Rattle.xl_smb_locks.specs.Locks.{range_of, unlock_ask, unlock_told, unlock_next, unlocks, lock_ask, lock_told}
use Rattle.xl_smb_locks.specs.declared.locking.Locking.{Locking}
use Rattle.xl_smb_locks.specs.declared.locking.Locking.TheVariants as locking
use Rattle.xl_smb_locks.specs.declared.status.SmbStatus.{SmbStatus}
use Rattle.xl_smb_locks.proofs.FitLaws.{unlock_fits, lock_fits}
use Rattle.xl_smb_locks.proofs.PlainLaws.{plain_noted}
use Rattle.xl_smb_locks.proofs.UnlockLaws.{any_stores}
use Rattle.xl_front_smb.specs.Checks.{tree_named, open_named, negotiated_by, in_session, on_tree, on_open}
use Rattle.xl_front_smb.specs.Laws.{OnlyBreaks, outcome_of}
use Rattle.xl_smb_laws.specs.LockLaws.{IsOfOpen, OnlyWaits, held_as, all_unlocked, before_fault, has_range, unlocks_told}
use Rattle.xl_front_smb.specs.Locks.{waiting_row, place_of, lock_by, lock_on, lock_found, lock, request_named, cancel_named, cancel}
use Rattle.xl_front_smb.specs.Plans.{Plan, Outcome, told_as, lists_as, carried}
use Rattle.xl_front_smb.specs.Requests.{commanded, planned}
use Rattle.xl_front_smb.specs.declared.told.Told.TheVariants as told
use Rattle.xl_front_smb.proofs.LockLaws.{counted}
use Rattle.xl_smb_laws.proofs.RequestOwn.{named_in}

-- ---- locks

granted_by : (answer : Answer) → told_as (lock_told answer) ≡ told.Locked → (c : Claim) × (answer ≡ answers.Granted c)
granted_by (answers.Granted c) h = (c, refl)
granted_by (answers.Conflict c) h = absurd cc
granted_by (answers.Queued id) h = absurd cc
granted_by (answers.Recall c) h = absurd cc
granted_by (answers.Grace until) h = absurd cc
granted_by (answers.NoGrace clock) h = absurd cc
granted_by answers.NotRecorded h = absurd cc
granted_by (answers.Full limit) h = absurd cc
granted_by answers.NotHeld h = absurd cc
granted_by answers.StoreFailed h = absurd cc

-- refused, they are neither had nor wait
refused_by : (answer : Answer) (status : SmbStatus) → told_as (lock_told answer) ≡ told.Failed status → ((c : Claim) → answer ≡ answers.Granted c → ⊥) × ((id : ℕ) → answer ≡ answers.Queued id → ⊥)
refused_by (answers.Granted c) status h = absurd cc
refused_by (answers.Conflict c) status h = (λ d e. cc, λ id e. cc)
refused_by (answers.Queued id) status h = absurd cc
refused_by (answers.Recall c) status h = (λ d e. cc, λ id e. cc)
refused_by (answers.Grace until) status h = (λ d e. cc, λ id e. cc)
refused_by (answers.NoGrace clock) status h = (λ d e. cc, λ id e. cc)
refused_by answers.NotRecorded status h = (λ d e. cc, λ id e. cc)
refused_by (answers.Full limit) status h = (λ d e. cc, λ id e. cc)
refused_by answers.NotHeld status h = (λ d e. cc, λ id e. cc)
refused_by answers.StoreFailed status h = (λ d e. cc, λ id e. cc)

kept_by : (row : Waiting) (l : Lists) (answer : Answer) → ((id : ℕ) → answer ≡ answers.Queued id → ⊥) → lists_as row l (lock_told answer) ≡ l
kept_by row l (answers.Granted c) none = refl
kept_by row l (answers.Conflict c) none = refl
kept_by row l (answers.Queued id) none = absurd (none id refl)
kept_by row l (answers.Recall c) none = refl
kept_by row l (answers.Grace until) none = refl
kept_by row l (answers.NoGrace clock) none = refl
kept_by row l answers.NotRecorded none = refl
kept_by row l (answers.Full limit) none = refl
kept_by row l answers.NotHeld none = refl
kept_by row l answers.StoreFailed none = refl

all_held : (es : List LockElement) → map range_what (map range_of es) ≡ map held_as es
all_held [] = refl
all_held (e ∷ es) = ap (λ (ws : List What). held_as e ∷ ws) (all_held es)

not_locked : {s : SmbStatus} → told.Failed s ≡ told.Locked → ⊥
not_locked h = cc

-- what holds of an outcome that was told Locked: the ranges are held once more, and the lists stand
abbrev Holds : ℕ → ℕ → List LockElement → CoreState → Lists → Outcome → Type 0
Holds file number es s l r = r.0 ≡ told.Locked → (held_at r.3 (RangesOf file number) ≡ held_at s (RangesOf file number) ++ map held_as es) × (r.2 ≡ l)

-- and of one that was told to fail: the lists stand, and no more changed than that breaks began
abbrev Stays : CoreState → Lists → Outcome → Type 0
Stays s l r = (status : SmbStatus) → r.0 ≡ told.Failed status → (r.2 ≡ l) × OnlyBreaks s r.3

-- where breaks begin only caches change
way_breaks : (left : Rooms) (s : CoreState) (a : Ask) → OnlyBreaks s (way left s a).1
way_breaks left s a = record { claims = ask_way_keeps (λ x. others_of x.claims) left s a (λ d. begun_others s d); waiters = ask_way_waiters left s a; names = ask_way_names left s a }

unbroken : (s : CoreState) → OnlyBreaks s s
unbroken s = record { claims = refl; waiters = refl; names = refl }

asked_holds : (n : ℕ) (s : CoreState) (l : Lists) (conn number : ℕ) (held : Open) (es : List LockElement) (row : Waiting) → IsGood s → lock_fault es ≡ None → 1 ≤ length es
    → (let r = ask n no_rows s (lock_ask conn number held es) in told_as (lock_told r.0) ≡ told.Locked → (held_at r.2 (RangesOf held.file number) ≡ held_at s (RangesOf held.file number) ++ map held_as es) × (lists_as row l (lock_told r.0) ≡ l))
unfolding lock_ask
asked_holds n s l conn number held es row good fault some is =
    let a = lock_ask conn number held es in
    let got = granted_by (ask n no_rows s a).0 is in
    let fit = (lock_fits conn number held es fault some).fit in (
      ask_locked n no_rows s a (map range_of es) number got.0 good fit refl refl got.1 ∙ ap (λ (ws : List What). ranges_of held.file (owners.Open number) s.claims ++ ws) (all_held es),
      kept_by row l (ask n no_rows s a).0 (λ id e. different (sym got.1 ∙ e)),
    )
  where
    different : {c : Claim} {id : ℕ} → answers.Granted c ≡ answers.Queued id → ⊥
    different h = cc

asked_stays : (n : ℕ) (s : CoreState) (l : Lists) (conn number : ℕ) (held : Open) (es : List LockElement) (row : Waiting) → IsGood s → lock_fault es ≡ None → 1 ≤ length es
    → (status : SmbStatus) → (let r = ask n no_rows s (lock_ask conn number held es) in told_as (lock_told r.0) ≡ told.Failed status → (lists_as row l (lock_told r.0) ≡ l) × OnlyBreaks s r.2)
asked_stays n s l conn number held es row good fault some status is =
    let a = lock_ask conn number held es in
    let none = refused_by (ask n no_rows s a).0 status is in
    let fits = lock_fits conn number held es fault some in
    let same = (ask_own n no_rows s a good fits.fit.party).refused none.0 none.1 ∙ plain_noted (way no_rows s a).1 a (ask n no_rows s a).0 fits in
    (kept_by row l (ask n no_rows s a).0 none.1, subst (λ (t : CoreState). OnlyBreaks s t) (sym same) (way_breaks no_rows s a))

-- ---- locks that wait

queued_by : (answer : Answer) (id : ℕ) → told_as (lock_told answer) ≡ told.Pending id → answer ≡ answers.Queued id
queued_by (answers.Queued k) id h = ap (λ (j : ℕ). answers.Queued j) (one_number h)
  where
    one_number : {k id : ℕ} → told.Pending k ≡ told.Pending id → k ≡ id
    one_number e = cc
queued_by (answers.Granted c) id h = absurd cc
queued_by (answers.Conflict c) id h = absurd cc
queued_by (answers.Recall c) id h = absurd cc
queued_by (answers.Grace until) id h = absurd cc
queued_by (answers.NoGrace clock) id h = absurd cc
queued_by answers.NotRecorded id h = absurd cc
queued_by (answers.Full limit) id h = absurd cc
queued_by answers.NotHeld id h = absurd cc
queued_by answers.StoreFailed id h = absurd cc

whats_back : (a : Ask) (names : List Name) (ws : List What) → map (λ (c : Claim). c.what) (asked_claims a ws names) ≡ ws
whats_back a names [] = refl
whats_back a names (w ∷ ws) = ap (λ (vs : List What). w ∷ vs) (whats_back a names ws)

own_claims : (a : Ask) (names : List Name) (file number : ℕ) (ws : List What) → a.file ≡ file → asker a names ≡ owners.Open number → AllByRecursion (λ (c : Claim). (c.file ≡ file) × (c.owner ≡ owners.Open number)) (asked_claims a ws names)
own_claims a names file number [] at by = tt
own_claims a names file number (w ∷ ws) at by = ((at, by), own_claims a names file number ws at by)

not_pending : {status : SmbStatus} {id : ℕ} → told.Failed status ≡ told.Pending id → ⊥
not_pending h = cc

-- what holds of an outcome that was told Pending
abbrev Waits : ℕ → ℕ → List LockElement → CoreState → Outcome → Type 0
Waits file number es s r = (id : ℕ) → r.0 ≡ told.Pending id → OnlyWaits s file number id es r.3

asked_waits : (n : ℕ) (s : CoreState) (conn number : ℕ) (held : Open) (es : List LockElement) → IsGood s → lock_fault es ≡ None → 1 ≤ length es
    → (id : ℕ) → (let r = ask n no_rows s (lock_ask conn number held es) in told_as (lock_told r.0) ≡ told.Pending id → OnlyWaits s held.file number id es r.2)
unfolding lock_ask
asked_waits n s conn number held es good fault some id is =
    let a = lock_ask conn number held es in
    let fits = lock_fits conn number held es fault some in
    let queued = queued_by (ask n no_rows s a).0 id is in
    let whats = map range_what (map range_of es) in
    record {
      claims = ap others_of ((ask_own n no_rows s a good fits.fit.party).claims (λ c e. different (sym e ∙ queued))) ∙ (way_breaks no_rows s a).claims;
      waiter = waiter_of id a (asking_party a s.names) (asked_claims a whats s.names);
      waiters = ask_queue n no_rows s a good fits.fit ∙ ap (λ (x : Answer). queue_with s a x s.waiters) queued;
      number_is = refl;
      ranges = whats_back a s.names whats ∙ all_held es;
      own = own_claims a s.names held.file number whats refl refl;
    }
  where
    different : {c : Claim} {k : ℕ} → answers.Granted c ≡ answers.Queued k → ⊥
    different h = cc

by_waits : (n : ℕ) (s : CoreState) (l : Lists) (conn : ℕ) (row : Waiting) (number : ℕ) (held : Open) (es : List LockElement) (o : Option SmbStatus) → IsGood s → lock_fault es ≡ o → 1 ≤ length es → Waits held.file number es s (carried n s l (lock_by conn row number held es o))
by_waits n s l conn row number held es (Some status) good fault some = λ id h. absurd (not_pending h)
by_waits n s l conn row number held es None good fault some = asked_waits n s conn number held es good fault some

by_holds : (n : ℕ) (s : CoreState) (l : Lists) (conn : ℕ) (row : Waiting) (number : ℕ) (held : Open) (es : List LockElement) (o : Option SmbStatus) → IsGood s → lock_fault es ≡ o → 1 ≤ length es → Holds held.file number es s l (carried n s l (lock_by conn row number held es o)) × Stays s l (carried n s l (lock_by conn row number held es o))
by_holds n s l conn row number held es (Some status) good fault some = (λ h. absurd (not_locked h), λ other h. (refl, unbroken s))
by_holds n s l conn row number held es None good fault some =
    (asked_holds n s l conn number held es row good fault some, asked_stays n s l conn number held es row good fault some)

-- ---- a request

module _ (n : ℕ) (s : CoreState) (files : List (List ℕ)) (others : ℕ) (l : Lists) (conn : ℕ) (h : SmbHead) (client : List ℕ) where
  pub lock_planned : (c : LockItem) → client_of conn l ≡ Some client → planned s files others l conn h (Lock c) ≡ lock s l conn client h c
  unfolding planned commanded
  lock_planned c at = ap (negotiated_by (λ k. lock s l conn k h c)) at

  pub lock_named : (c : LockItem) (session : ℕ) (place : Place) (number : ℕ) (row : Open) → IsOfOpen s l conn h client c.file_id session place number row → lock s l conn client h c ≡ lock_on s l conn h number place (elements_of c.elements) row
  unfolding lock
  lock_named c session place number row of =
      ap (in_session (λ k. on_tree (λ p. on_open (λ m. lock_found s l conn h m p (elements_of c.elements) (open_of m l)) (open_named s l conn c.file_id)) (tree_named l conn client h k))) of.0.0.1
      ∙ ap (on_tree (λ p. on_open (λ m. lock_found s l conn h m p (elements_of c.elements) (open_of m l)) (open_named s l conn c.file_id))) of.0.1
      ∙ ap (on_open (λ m. lock_found s l conn h m place (elements_of c.elements) (open_of m l))) of.1
      ∙ ap (lock_found s l conn h number place (elements_of c.elements)) of.2

  -- what holds of LOCK's plan for an open holds of the request's outcome
  pub by_lock : (P : Outcome → Type 0) (c : LockItem) (session : ℕ) (place : Place) (number : ℕ) (row : Open) → IsOfOpen s l conn h client c.file_id session place number row → P (carried n s l (lock_on s l conn h number place (elements_of c.elements) row)) → P (outcome_of n s files others l conn h (Lock c))
  by_lock P c session place number row of p = subst (λ (x : Plan). P (carried n s l x)) (sym (lock_planned c of.0.0.0 ∙ lock_named c session place number row of)) p

  -- LOCK of locks
  locks_on : (number : ℕ) (place : Place) (es : List LockElement) (row : Open) (count : Bool) → is_count (length es) ≡ count → unlocks_first es ≡ false → IsGood s
      → Holds row.file number es s l (carried n s l (lock_on s l conn h number place es row)) × Stays s l (carried n s l (lock_on s l conn h number place es row))
  locks_on number place es row true is first good =
      rw (is, first) (by_holds n s l conn (waiting_row h (place_of row.holder place) number request.Lock) number row es (lock_fault es) good refl (counted (length es) is))
  locks_on number place es row false is first good = rw is (λ e. absurd (not_locked e), λ other e. (refl, unbroken s))

  pub locked_holds : (c : LockItem) (session : ℕ) (place : Place) (number : ℕ) (row : Open) → IsOfOpen s l conn h client c.file_id session place number row → unlocks_first (elements_of c.elements) ≡ false → IsGood s
      → Holds row.file number (elements_of c.elements) s l (outcome_of n s files others l conn h (Lock c)) × Stays s l (outcome_of n s files others l conn h (Lock c))
  locked_holds c session place number row of first good =
      by_lock (λ r. Holds row.file number (elements_of c.elements) s l r × Stays s l r) c session place number row of (locks_on number place (elements_of c.elements) row (is_count (length (elements_of c.elements))) refl first good)

  waits_on : (number : ℕ) (place : Place) (es : List LockElement) (row : Open) (count : Bool) → is_count (length es) ≡ count → unlocks_first es ≡ false → IsGood s → Waits row.file number es s (carried n s l (lock_on s l conn h number place es row))
  waits_on number place es row true is first good =
      rw (is, first) (by_waits n s l conn (waiting_row h (place_of row.holder place) number request.Lock) number row es (lock_fault es) good refl (counted (length es) is))
  waits_on number place es row false is first good = rw is (λ id e. absurd (not_pending e))

  pub locks_wait : (c : LockItem) (session : ℕ) (place : Place) (number : ℕ) (row : Open) → IsOfOpen s l conn h client c.file_id session place number row → unlocks_first (elements_of c.elements) ≡ false → IsGood s → Waits row.file number (elements_of c.elements) s (outcome_of n s files others l conn h (Lock c))
  locks_wait c session place number row of first good =
      by_lock (Waits row.file number (elements_of c.elements) s) c session place number row of (waits_on number place (elements_of c.elements) row (is_count (length (elements_of c.elements))) refl first good)

-- ---- unlocks

given_up : (answer : Answer) (rest : List Deed × Locking) (number : ℕ) (held : Open) (e : LockElement) → (unlock_told (unlock_ask number held e) answer rest).1 ≡ locking.Done → ((c : Claim) × (answer ≡ answers.Granted c)) × (rest.1 ≡ locking.Done)
given_up (answers.Granted c) rest number held e h = ((c, refl), h)
given_up (answers.Conflict c) rest number held e h = absurd cc
given_up (answers.Queued id) rest number held e h = absurd cc
given_up (answers.Recall c) rest number held e h = absurd cc
given_up (answers.Grace until) rest number held e h = absurd cc
given_up (answers.NoGrace clock) rest number held e h = absurd cc
given_up answers.NotRecorded rest number held e h = absurd cc
given_up (answers.Full limit) rest number held e h = absurd cc
given_up answers.NotHeld rest number held e h = absurd cc
given_up answers.StoreFailed rest number held e h = absurd cc

sound_by : (fault : Option SmbStatus) (next : List Deed × Locking) → (unlock_next fault next).1 ≡ locking.Done → (fault ≡ None) × (next.1 ≡ locking.Done)
sound_by None next h = (refl, h)
sound_by (Some status) next h = absurd cc

unlock_takes : (n : ℕ) (s : CoreState) (number : ℕ) (held : Open) (e : LockElement) (c : Claim) → IsGood s → (ask n no_rows s (unlock_ask number held e)).0 ≡ answers.Granted c
    → ranges_of held.file (owners.Open number) (ask n no_rows s (unlock_ask number held e)).2.claims ≡ unlocked_elements (extent_of e) (ranges_of held.file (owners.Open number) s.claims)
unfolding unlock_ask
unlock_takes n s number held e c good at = ask_unlocked n no_rows s (unlock_ask number held e) (extent_of e) number c good (unlock_fits number held e).fit refl refl at

pub unlocks_take : (n : ℕ) (s : CoreState) (number : ℕ) (held : Open) (es : List LockElement) → IsGood s → (unlocks s number held es).1 ≡ locking.Done
    → held_at (all_done n s (unlocks s number held es).0) (RangesOf held.file number) ≡ all_unlocked es (held_at s (RangesOf held.file number))
unlocks_take n s number held [] good h = refl
unlocks_take n s number held (e ∷ es) good h =
    let a = unlock_ask number held e in
    let r = ask 0 no_rows s a in
    let rest = unlocks r.2 number held es in
    let sound = sound_by (unlock_fault e) (unlock_told a r.0 rest) h in
    let got = given_up r.0 rest number held e sound.1 in
    let deeds : (unlocks s number held (e ∷ es)).0 ≡ Asks no_rows a ∷ rest.0
    = ap (λ (o : Option SmbStatus). (unlock_next o (unlock_told a r.0 rest)).0) sound.0 ∙ ap (λ (x : Answer). (unlock_told a x rest).0) got.0.1 in
    let same : (ask n no_rows s a).2 ≡ r.2 = ap (λ (x : Answered). x.2) (any_stores n s number held e) in
    ap (λ (ds : List Deed). held_at (all_done n s ds) (RangesOf held.file number)) deeds
    ∙ ap (λ (t : CoreState). held_at (all_done n t rest.0) (RangesOf held.file number)) same
    ∙ unlocks_take n r.2 number held es (ask_good 0 no_rows s a good (unlock_fits number held e).fit) got.1
    ∙ ap (all_unlocked es) (unlock_takes 0 s number held e got.0.0 good got.0.1)

-- ---- unlocks up to the first that can't be done

-- an open has a range to unlock exactly where one is among those that it holds
by_either : {X : Type 0} (o p : Option X) → is_some (option_or o p) ≡ (is_some o || is_some p)
by_either (Some x) p = refl
by_either None p = refl

is_held_one : (s : CoreState) (c : Claim) (extent : Extent) → is_some (element_held c extent s.claims) ≡ has_range extent (ranges_of c.file c.owner s.claims)
unfolding element_held
is_held_one s c extent =
    by_either (find (is_element c (Range extent true)) s.claims) (find (is_element c (Range extent false)) s.claims)
    ∙ (λ i. among_found c (Range extent true) s.claims i || among_found c (Range extent false) s.claims i)

some_of : {X : Type 0} (o : Option X) → is_some o ≡ false → o ≡ None
some_of None h = refl
some_of (Some x) h = absurd (true≢false h)

unlock_granted : (n : ℕ) (s : CoreState) (number : ℕ) (held : Open) (e : LockElement) → IsGood s → has_range (extent_of e) (ranges_of held.file (owners.Open number) s.claims) ≡ true → (c : Claim) × ((ask n no_rows s (unlock_ask number held e)).0 ≡ answers.Granted c)
unfolding unlock_ask
unlock_granted n s number held e good has =
    let a = unlock_ask number held e in
    let claim = known_claim a (extent_of e) false s.names in
    (claim, (ask_element n no_rows s a (extent_of e) number (answers.Granted claim) refl refl).1 (refl, is_held_one s claim (extent_of e) ∙ has))

unlock_missed : (n : ℕ) (s : CoreState) (number : ℕ) (held : Open) (e : LockElement) → IsGood s → has_range (extent_of e) (ranges_of held.file (owners.Open number) s.claims) ≡ false
    → ((ask n no_rows s (unlock_ask number held e)).0 ≡ answers.NotHeld) × ((ask n no_rows s (unlock_ask number held e)).2.claims ≡ s.claims)
unfolding unlock_ask
unlock_missed n s number held e good has =
    let a = unlock_ask number held e in
    let claim = known_claim a (extent_of e) false s.names in
    let none = (ask_element n no_rows s a (extent_of e) number answers.NotHeld refl refl).1 (some_of (element_held claim (extent_of e) s.claims) (is_held_one s claim (extent_of e) ∙ has)) in (
      none,
      ask_refused n no_rows s a good (unlock_fits number held e).fit (λ c h. different (sym none ∙ h)) ∙ ap (λ (r : List Effect × CoreState). r.1.claims) (no_way s number held e),
    )
  where
    different : {c : Claim} → answers.NotHeld ≡ answers.Granted c → ⊥
    different h = cc

-- what they are told, and which are done
stops_at : (e : LockElement) (es : List LockElement) (ws : List What) (status : SmbStatus) → unlock_fault e ≡ Some status → (told.Failed status ≡ unlocks_told (e ∷ es) ws) × (before_fault (e ∷ es) ws ≡ [])
stops_at e es ws status fault = rw fault (refl, refl)

misses_at : (e : LockElement) (es : List LockElement) (ws : List What) → unlock_fault e ≡ None → has_range (extent_of e) ws ≡ false → (told.Failed statuses.RangeNotLocked ≡ unlocks_told (e ∷ es) ws) × (before_fault (e ∷ es) ws ≡ [])
misses_at e es ws fault has = rw (fault, has) (refl, refl)

goes_past : (e : LockElement) (es : List LockElement) (ws : List What) → unlock_fault e ≡ None → has_range (extent_of e) ws ≡ true
    → (unlocks_told es (unlocked_elements (extent_of e) ws) ≡ unlocks_told (e ∷ es) ws) × (before_fault (e ∷ es) ws ≡ e ∷ before_fault es (unlocked_elements (extent_of e) ws))
goes_past e es ws fault has = rw (fault, has) (refl, refl)

-- what unlocks of these come to in a state, as their deeds and their answer
abbrev Gives : ℕ → CoreState → ℕ → Open → List LockElement → List Deed × Locking → Type 0
Gives n s number held es r =
    (told_as r.1 ≡ unlocks_told es (held_at s (RangesOf held.file number)))
    × (held_at (all_done n s r.0) (RangesOf held.file number) ≡ all_unlocked (before_fault es (held_at s (RangesOf held.file number))) (held_at s (RangesOf held.file number)))

one_gives : (n : ℕ) (s : CoreState) (number : ℕ) (held : Open) (e : LockElement) (es : List LockElement) (has : Bool) → IsGood s → unlock_fault e ≡ None → has_range (extent_of e) (held_at s (RangesOf held.file number)) ≡ has
    → Gives n (ask 0 no_rows s (unlock_ask number held e)).2 number held es (unlocks (ask 0 no_rows s (unlock_ask number held e)).2 number held es)
    → Gives n s number held (e ∷ es) (unlock_told (unlock_ask number held e) (ask 0 no_rows s (unlock_ask number held e)).0 (unlocks (ask 0 no_rows s (unlock_ask number held e)).2 number held es))
one_gives n s number held e es false good fault is later =
    let a = unlock_ask number held e in
    let ws = held_at s (RangesOf held.file number) in
    let rest = unlocks (ask 0 no_rows s a).2 number held es in
    let all = misses_at e es ws fault is in
    subst (λ (x : Answer). Gives n s number held (e ∷ es) (unlock_told a x rest)) (sym (unlock_missed 0 s number held e good is).0)
    (all.0, ap (λ (cs : List Claim). ranges_of held.file (owners.Open number) cs) (unlock_missed n s number held e good is).1 ∙ ap (λ (fs : List LockElement). all_unlocked fs ws) (sym all.1))
one_gives n s number held e es true good fault is later =
    let a = unlock_ask number held e in
    let ws = held_at s (RangesOf held.file number) in
    let r = ask 0 no_rows s a in
    let rest = unlocks r.2 number held es in
    let got = unlock_granted 0 s number held e good is in
    let all = goes_past e es ws fault is in
    let takes : held_at r.2 (RangesOf held.file number) ≡ unlocked_elements (extent_of e) ws = unlock_takes 0 s number held e got.0 good got.1 in
    let same : (ask n no_rows s a).2 ≡ r.2 = ap (λ (x : Answered). x.2) (any_stores n s number held e) in
    subst (λ (x : Answer). Gives n s number held (e ∷ es) (unlock_told a x rest)) (sym got.1) (
      later.0 ∙ ap (unlocks_told es) takes ∙ all.0,
      ap (λ (t : CoreState). held_at (all_done n t rest.0) (RangesOf held.file number)) same
          ∙ later.1
          ∙ ap (λ (vs : List What). all_unlocked (before_fault es vs) vs) takes
          ∙ ap (λ (fs : List LockElement). all_unlocked fs ws) (sym all.1),
    )

next_gives : (n : ℕ) (s : CoreState) (number : ℕ) (held : Open) (e : LockElement) (es : List LockElement) (o : Option SmbStatus) (next : List Deed × Locking) → unlock_fault e ≡ o → (o ≡ None → Gives n s number held (e ∷ es) next) → Gives n s number held (e ∷ es) (unlock_next o next)
next_gives n s number held e es None next fault rest = rest refl
next_gives n s number held e es (Some status) next fault rest =
    let ws = held_at s (RangesOf held.file number) in
    let all = stops_at e es ws status fault in
    (all.0, ap (λ (fs : List LockElement). all_unlocked fs ws) (sym all.1))

pub unlocks_give : (n : ℕ) (s : CoreState) (number : ℕ) (held : Open) (es : List LockElement) → IsGood s → Gives n s number held es (unlocks s number held es)
unlocks_give n s number held [] good = (refl, refl)
unlocks_give n s number held (e ∷ es) good =
    let a = unlock_ask number held e in
    let r = ask 0 no_rows s a in
    next_gives n s number held e es (unlock_fault e) (unlock_told a r.0 (unlocks r.2 number held es)) refl
    (λ fault. one_gives n s number held e es (has_range (extent_of e) (held_at s (RangesOf held.file number))) good fault refl (unlocks_give n r.2 number held es (ask_good 0 no_rows s a good (unlock_fits number held e).fit)))

module _ (n : ℕ) (s : CoreState) (files : List (List ℕ)) (others : ℕ) (l : Lists) (conn : ℕ) (h : SmbHead) (client : List ℕ) where
  abbrev Takes : ℕ → ℕ → List LockElement → Outcome → Type 0
  Takes file number es r = r.0 ≡ told.Locked → (held_at r.3 (RangesOf file number) ≡ all_unlocked es (held_at s (RangesOf file number))) × (r.2 ≡ l)

  done_by : (r : Locking) → told_as r ≡ told.Locked → r ≡ locking.Done
  done_by locking.Done h = refl
  done_by (locking.Failed status) h = absurd cc
  done_by (locking.Waits id) h = absurd cc

  unlocks_on : (number : ℕ) (place : Place) (es : List LockElement) (row : Open) (count : Bool) → is_count (length es) ≡ count → unlocks_first es ≡ true → IsGood s → Takes row.file number es (carried n s l (lock_on s l conn h number place es row))
  unlocks_on number place es row true is first good = rw (is, first) (λ e. (unlocks_take n s number row es good (done_by (unlocks s number row es).1 e), refl))
  unlocks_on number place es row false is first good = rw is (λ e. absurd (not_locked e))

  pub unlocked_takes : (c : LockItem) (session : ℕ) (place : Place) (number : ℕ) (row : Open) → IsOfOpen s l conn h client c.file_id session place number row → unlocks_first (elements_of c.elements) ≡ true → IsGood s → Takes row.file number (elements_of c.elements) (outcome_of n s files others l conn h (Lock c))
  unlocked_takes c session place number row of first good =
      by_lock n s files others l conn h client (Takes row.file number (elements_of c.elements)) c session place number row of (unlocks_on number place (elements_of c.elements) row (is_count (length (elements_of c.elements))) refl first good)

  -- what they are told, and what they leave
  abbrev Ends : ℕ → ℕ → List LockElement → Outcome → Type 0
  Ends file number es r =
      (r.0 ≡ unlocks_told es (held_at s (RangesOf file number)))
      × (held_at r.3 (RangesOf file number) ≡ all_unlocked (before_fault es (held_at s (RangesOf file number))) (held_at s (RangesOf file number)))
      × (r.2 ≡ l)

  ends_on : (number : ℕ) (place : Place) (es : List LockElement) (row : Open) → is_count (length es) ≡ true → unlocks_first es ≡ true → IsGood s → Ends row.file number es (carried n s l (lock_on s l conn h number place es row))
  ends_on number place es row is first good = let all = unlocks_give n s number row es good in rw (is, first) (all.0, all.1, refl)

  unlocked_ends : (c : LockItem) (session : ℕ) (place : Place) (number : ℕ) (row : Open) → IsOfOpen s l conn h client c.file_id session place number row → unlocks_first (elements_of c.elements) ≡ true → is_count (length (elements_of c.elements)) ≡ true → IsGood s
      → Ends row.file number (elements_of c.elements) (outcome_of n s files others l conn h (Lock c))
  unlocked_ends c session place number row of first count good =
      by_lock n s files others l conn h client (Ends row.file number (elements_of c.elements)) c session place number row of (ends_on number place (elements_of c.elements) row count first good)

  pub unlocked_leaves : (c : LockItem) (session : ℕ) (place : Place) (number : ℕ) (row : Open) → IsOfOpen s l conn h client c.file_id session place number row → unlocks_first (elements_of c.elements) ≡ true → is_count (length (elements_of c.elements)) ≡ true → IsGood s
      → (held_at (outcome_of n s files others l conn h (Lock c)).3 (RangesOf row.file number) ≡ all_unlocked (before_fault (elements_of c.elements) (held_at s (RangesOf row.file number))) (held_at s (RangesOf row.file number))) × ((outcome_of n s files others l conn h (Lock c)).2 ≡ l)
  unlocked_leaves c session place number row of first count good = let all = unlocked_ends c session place number row of first count good in (all.1, all.2)

  pub unlocked_tells : (c : LockItem) (session : ℕ) (place : Place) (number : ℕ) (row : Open) → IsOfOpen s l conn h client c.file_id session place number row → unlocks_first (elements_of c.elements) ≡ true → is_count (length (elements_of c.elements)) ≡ true → IsGood s
      → (outcome_of n s files others l conn h (Lock c)).0 ≡ unlocks_told (elements_of c.elements) (held_at s (RangesOf row.file number))
  unlocked_tells c session place number row of first count good = (unlocked_ends c session place number row of first count good).0

  pub uncounted_refused : (c : LockItem) (session : ℕ) (place : Place) (number : ℕ) (row : Open) → IsOfOpen s l conn h client c.file_id session place number row → is_count (length (elements_of c.elements)) ≡ false → outcome_of n s files others l conn h (Lock c) ≡ (told.Failed statuses.InvalidParameter, [], l, s)
  uncounted_refused c session place number row of count =
      by_lock n s files others l conn h client (λ (r : Outcome). r ≡ (told.Failed statuses.InvalidParameter, [], l, s)) c session place number row of (rw count refl)

  -- ---- CANCEL

  cancel_planned : client_of conn l ≡ Some client → planned s files others l conn h Cancel ≡ cancel s l conn h
  unfolding planned commanded
  cancel_planned at = ap (negotiated_by (λ k. cancel s l conn h)) at

  abbrev CancelsOne : Outcome → Type 0
  CancelsOne r = (r ≡ (told.Nothing, [], l, s)) ⊎ ((id : ℕ) × IsIn id (waiting_under (scope.Connection conn) l) × (is_waiting id s.waiters ≡ true) × (r ≡ (told.Nothing, (cancel_of s id).0, l, (cancel_of s id).1)))

  cancel_waiter : (id : ℕ) (waits : Bool) → is_waiting id s.waiters ≡ waits → IsIn id (waiting_under (scope.Connection conn) l) → CancelsOne (carried n s l (cancel_named s l (Some id)))
  cancel_waiter id true is there = rw is (inr (id, there, is, (λ i. (told.Nothing, append-nil (cancel_of s id).0 i, l, (cancel_of s id).1))))
  cancel_waiter id false is there = rw is (inl refl)

  cancel_by : (o : Option ℕ) → ((number : ℕ) → o ≡ Some number → IsIn number (waiting_under (scope.Connection conn) l)) → CancelsOne (carried n s l (cancel_named s l o))
  cancel_by None there = inl refl
  cancel_by (Some id) there = cancel_waiter id (is_waiting id s.waiters) refl (there id refl)

  cancel_one : CancelsOne (carried n s l (cancel s l conn h))
  unfolding cancel
  cancel_one = cancel_by (request_named conn l h.message_id h.route) (named_in conn l h.message_id h.route)

  pub cancels_one : client_of conn l ≡ Some client → CancelsOne (outcome_of n s files others l conn h Cancel)
  cancels_one at = subst (λ (x : Plan). CancelsOne (carried n s l x)) (sym (cancel_planned at)) cancel_one
