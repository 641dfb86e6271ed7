-- CREATE is told what it is for its cause, and what is open is held.
use Rattle.std.proofs.Common.{◌≡◌, ◌↔◌, ℕ, ◌+◌, Bool, true, false, not, eqb, cond, List, [], ◌∷◌, ◌++◌, Option, Some, None, if◌then◌else◌, refl, sym, ap, subst, ◌∙◌, inl, inr}
use Rattle.std.specs.Prelude.{◌==◌, nat_eq, nat_lt, map}
use Rattle.std.specs.List.{AllByRecursion}
use Rattle.std.specs.Map.{lookup}
use Rattle.std.proofs.lemmas.Bool.{cases_Bool}
use Rattle.xl_base.specs.declared.name.Owner.TheVariants as owners
use Rattle.xl_matrix.specs.declared.claim.Claim.{Claim}
use Rattle.xl_matrix.specs.declared.claim.What.TheVariants.{Share}
use Rattle.xl_smb.specs.Calls.{Create}
use Rattle.xl_smb.specs.Creates.{CreateCallItem}
use Rattle.xl_smb.specs.declared.head.SmbHead.{SmbHead}
use Rattle.xl_smb_state.specs.State.{Lists, client_of, open_of}
use Rattle.xl_smb_state.specs.declared.row.Open.{Open}
use Rattle.xl_smb_state.specs.declared.row.Place.{Place}
use Rattle.xl_smb_state.proofs.LeaseLaws.{with_keeps}
use Rattle.xl_smb_state.proofs.RowLaws.{equal_self, some_none}
use Rattle.xl_wait.specs.declared.waiter.Rooms.{Rooms}
use Rattle.xl_core.specs.Causes.{IsClaimDue}
use Rattle.xl_core.specs.BreaksBegun.{others_of}
use Rattle.xl_core.specs.Decide.{way, ask}
use Rattle.xl_core.specs.Good.{IsGood}
use Rattle.xl_core.specs.Places.{ShareOf, share_held, held_at}
use Rattle.xl_core.specs.State.{CoreState, drawn}
use Rattle.xl_core.specs.declared.ask.Answer.{Answer}
use Rattle.xl_core.specs.declared.ask.Answer.TheVariants as answers
use Rattle.xl_core.specs.declared.ask.Ask.{Ask}
use Rattle.xl_core.specs.declared.ask.Effect.{Effect}
use Rattle.xl_core.proofs.BreaksBegunLaws.{begun_others}
use Rattle.xl_core.proofs.GoodLaws.{drawn_good}
use Rattle.xl_core.proofs.WayAsks.{ask_way_keeps, ask_due, ask_own, ask_shared}
use Rattle.xl_smb_laws.proofs.LeaseKeyLaws.{comes_leased, free_lease, key_free}
use Rattle.xl_front_smb.specs.Checks.{id_of, session_named, tree_named, refused, found, negotiated_by, in_session, on_tree}
use Rattle.xl_front_smb.specs.Files.{access_of, deny_of, open_ask, open_row, rooms_left, key_asked, lease_key, is_key_elsewhere, open_as, has_room_for_open, file_create, file_overwrite_if, overwrites, create_on, create, create_row}
use Rattle.xl_front_smb.specs.Laws.{IsLeased, outcome_of, IsOnTree, FailsIf, OnceFound, IsRefusalDue, IsOpenDue, open_claim, IsNextDue, IsFileDue, IsDispositionDue, IsCreateDue}
use Rattle.xl_front_smb.specs.Plans.{Plan, Fails, Outcome, carried, opened_told, opened_lists}
use Rattle.xl_front_smb.specs.Requests.{commanded, planned}
use Rattle.xl_front_smb.specs.Texts.{file_spelled}
use Rattle.xl_smb_locks.specs.declared.status.SmbStatus.{SmbStatus}
use Rattle.xl_smb_locks.specs.declared.status.SmbStatus.TheVariants as status
use Rattle.xl_front_smb.specs.declared.told.Told.{Told}
use Rattle.xl_front_smb.specs.declared.told.Told.TheVariants.{Nothing, Failed, Negotiated, SetUp, LoggedOff, Connected, Disconnected, Opened, Closed, Locked, Pending, Echoed, Acknowledged, Answered}
use Rattle.xl_front_smb.proofs.AckLaws.{not_false}
use Rattle.xl_front_smb.proofs.PlanLaws.{open_new}
use Rattle.xl_smb_laws.proofs.PlanWalks.{walk_created, walk_refused}
use Rattle.xl_smb_locks.proofs.FitLaws.{party_fits}
use Rattle.xl_smb_locks.proofs.PlainLaws.{no_other}
use Rattle.xl_smb_locks.specs.Short.{IsOpenAsk}
use Rattle.xl_front_smb.proofs.AskLaws.{open_fits}
use Rattle.xl_smb_locks.specs.Levels.{caching}
use Rattle.xl_smb_locks.specs.declared.levels.Caching.{Caching}
use Rattle.xl_smb_state.specs.declared.row.Waiting.{Waiting}

-- ---- by what the core is due to answer

due_forth : (n : ℕ) (left : Rooms) (s : CoreState) (a : Ask) (claim : Claim) (id : ℕ) (cache : Caching) (answer : Answer) → IsOpenAsk a → a.awaits ≡ true → IsClaimDue n left s a claim answer → IsOpenDue n left s a claim id cache (opened_told id cache answer)
due_forth n left s a claim id cache (answers.Granted c) is rests due = (refl, refl, (refl, due.1, due.2, due.3, due.4))
due_forth n left s a claim id cache (answers.Conflict c) is rests due = (c, due)
due_forth n left s a claim id cache (answers.Full limit) is rests due = (limit, due)
due_forth n left s a claim id cache (answers.Queued number) is rests due = due
due_forth n left s a claim id cache (answers.NoGrace clock) is rests due = absurd (no_other n left s a claim (answers.NoGrace clock) is rests refl due)
due_forth n left s a claim id cache (answers.Recall c) is rests due = absurd (no_other n left s a claim (answers.Recall c) is rests refl due)
due_forth n left s a claim id cache (answers.Grace until) is rests due = absurd (no_other n left s a claim (answers.Grace until) is rests refl due)
due_forth n left s a claim id cache answers.NotRecorded is rests due = absurd (no_other n left s a claim answers.NotRecorded is rests refl due)
due_forth n left s a claim id cache answers.StoreFailed is rests due = absurd (no_other n left s a claim answers.StoreFailed is rests refl due)
due_forth n left s a claim id cache answers.NotHeld is rests due = absurd due

refusal_back : (n : ℕ) (left : Rooms) (s : CoreState) (a : Ask) (claim : Claim) (id : ℕ) (cache : Caching) (r : Answer) → ((answer : Answer) → IsClaimDue n left s a claim answer → r ≡ answer) → (refused : SmbStatus) → IsRefusalDue n left s a claim refused → opened_told id cache r ≡ Failed refused
refusal_back n left s a claim id cache r exact status.SharingViolation due = ap (opened_told id cache) (exact (answers.Conflict due.0) due.1)
refusal_back n left s a claim id cache r exact status.InsufficientResources due = ap (opened_told id cache) (exact (answers.Full due.0) due.1)
refusal_back n left s a claim id cache r exact status.InvalidParameter due = absurd due
refusal_back n left s a claim id cache r exact status.ObjectNameNotFound due = absurd due
refusal_back n left s a claim id cache r exact status.ObjectNameCollision due = absurd due
refusal_back n left s a claim id cache r exact status.NotSupported due = absurd due
refusal_back n left s a claim id cache r exact status.NetworkNameDeleted due = absurd due
refusal_back n left s a claim id cache r exact status.BadNetworkName due = absurd due
refusal_back n left s a claim id cache r exact status.InvalidOplockProtocol due = absurd due
refusal_back n left s a claim id cache r exact status.FileClosed due = absurd due
refusal_back n left s a claim id cache r exact status.InvalidDeviceState due = absurd due
refusal_back n left s a claim id cache r exact status.UserSessionDeleted due = absurd due
refusal_back n left s a claim id cache r exact status.LockNotGranted due = absurd due
refusal_back n left s a claim id cache r exact status.RangeNotLocked due = absurd due
refusal_back n left s a claim id cache r exact status.InvalidLockRange due = absurd due
refusal_back n left s a claim id cache r exact status.Cancelled due = absurd due
refusal_back n left s a claim id cache r exact status.Unsuccessful due = absurd due
refusal_back n left s a claim id cache r exact status.RequestNotAccepted due = absurd due

due_back : (n : ℕ) (left : Rooms) (s : CoreState) (a : Ask) (claim : Claim) (id : ℕ) (cache : Caching) (r : Answer) → ((answer : Answer) → IsClaimDue n left s a claim answer → r ≡ answer) → (told : Told) → IsOpenDue n left s a claim id cache told → opened_told id cache r ≡ told
due_back n left s a claim id cache r exact (Opened opened of) due = ap (opened_told id cache) (exact (answers.Granted claim) due.2) ∙ (λ i. Opened ((sym due.0) i) ((sym due.1) i))
due_back n left s a claim id cache r exact (Pending number) due = ap (opened_told id cache) (exact (answers.Queued number) due)
due_back n left s a claim id cache r exact (Failed refused) due = refusal_back n left s a claim id cache r exact refused due
due_back n left s a claim id cache r exact Nothing due = absurd due
due_back n left s a claim id cache r exact Negotiated due = absurd due
due_back n left s a claim id cache r exact (SetUp session) due = absurd due
due_back n left s a claim id cache r exact LoggedOff due = absurd due
due_back n left s a claim id cache r exact (Connected tree) due = absurd due
due_back n left s a claim id cache r exact Disconnected due = absurd due
due_back n left s a claim id cache r exact Closed due = absurd due
due_back n left s a claim id cache r exact Locked due = absurd due
due_back n left s a claim id cache r exact (Acknowledged opened of) due = absurd due
due_back n left s a claim id cache r exact (Answered lease) due = absurd due
due_back n left s a claim id cache r exact Echoed due = absurd due

-- this is told exactly where that is due
abbrev Exactly : Told → (Told → Type 0) → Type 0
Exactly is due = (told : Told) → (is ≡ told) ↔ due told

-- an outcome tells exactly what is due where its state is left
abbrev Comes : Outcome → (CoreState → Told → Type 0) → Type 0
Comes r due = Exactly r.0 (due r.3)

open_exactly : (n : ℕ) (left : Rooms) (s : CoreState) (conn number id : ℕ) (cache : Caching) (row : Open) (c : CreateCallItem) → row.lease ≡ key_asked c → Exactly (opened_told id cache (ask n left s (open_ask conn number row c)).0) (IsOpenDue n left (way left s (open_ask conn number row c)).1 (open_ask conn number row c) (open_claim s.names number row c) id cache)
unfolding open_ask
open_exactly n left s conn number id cache row c under told =
    let a = open_ask conn number row c in
    let claim = open_claim s.names number row c in
    let r = (ask n left s a).0 in
    let t = (way left s a).1 in
    let what = Share (access_of c.desired_access) (deny_of (access_of c.desired_access) c.share_access) in (
      λ e. subst (IsOpenDue n left t a claim id cache) e (due_forth n left t a claim id cache r (open_fits conn number row c under) refl ((ask_due n left s a what r refl).0 refl)),
      λ due. due_back n left t a claim id cache r (λ answer k. (ask_due n left s a what answer refl).1 k) told due,
    )

-- ---- by the checks before

failed_exactly : (refused : SmbStatus) → Exactly (Failed refused) (λ told. told ≡ Failed refused)
failed_exactly refused told = (λ e. sym e, λ e. sym e)

-- the plan of a file that is found, once its disposition passes
abbrev pub file_plan : CoreState → ℕ → Lists → SmbHead → List ℕ → Place → CreateCallItem → ℕ → Plan
file_plan s others l h client place c file =
    refused (
    (c.disposition == file_create, status.ObjectNameCollision)
    ∷ (is_key_elsewhere file (lease_key client (key_asked c)) l, status.InvalidParameter)
    ∷ (not (has_room_for_open others l (s.counter + 1)), status.InsufficientResources)
    ∷ [])
    (open_as s others l h client place c file (s.counter + 1))

-- the checks of a file that is found
abbrev pub found_checks : CoreState → ℕ → Lists → List ℕ → CreateCallItem → ℕ → List (Bool × SmbStatus)
found_checks s others l client c file =
    (nat_lt file_overwrite_if c.disposition, status.InvalidParameter)
    ∷ (overwrites c.disposition, status.NotSupported)
    ∷ (c.disposition == file_create, status.ObjectNameCollision)
    ∷ (is_key_elsewhere file (lease_key client (key_asked c)) l, status.InvalidParameter)
    ∷ (not (has_room_for_open others l (s.counter + 1)), status.InsufficientResources)
    ∷ []

module _ (n : ℕ) (s : CoreState) (l : Lists) where
  by_check : (b : Bool) (refused : SmbStatus) (plan : Plan) (due : CoreState → Told → Type 0) → Comes (carried n s l plan) due → Comes (carried n s l (if b then Fails refused else plan)) (λ t. FailsIf b refused (due t))
  by_check true refused plan due rest = failed_exactly refused
  by_check false refused plan due rest = rest

  by_found : {X : Type 0} (o : Option X) (refused : SmbStatus) (go : X → Plan) (due : CoreState → X → Told → Type 0) → ((x : X) → Comes (carried n s l (go x)) (λ t. due t x)) → Comes (carried n s l (found o refused go)) (λ t. OnceFound refused (due t) o)
  by_found None refused go due rest = failed_exactly refused
  by_found (Some x) refused go due rest = rest x

  file_exactly : (others : ℕ) (h : SmbHead) (client : List ℕ) (place : Place) (c : CreateCallItem) (file : ℕ) → Comes (carried n s l (file_plan s others l h client place c file)) (λ t. IsFileDue n s t others l client place c file)
  file_exactly others h client place c file =
      let row = open_row file client place c in
      let opens = open_as s others l h client place c file (s.counter + 1) in
      let next = λ (t : CoreState). IsNextDue n s t others l place.connection c row in
      let full = not (has_room_for_open others l (s.counter + 1)) in
      let room = λ (t : CoreState). FailsIf full status.InsufficientResources (next t) in
      let elsewhere = is_key_elsewhere file (lease_key client (key_asked c)) l in
      by_check (c.disposition == 2) status.ObjectNameCollision (if elsewhere then Fails status.InvalidParameter else if full then Fails status.InsufficientResources else opens) (λ t. FailsIf elsewhere status.InvalidParameter (room t))
      (by_check elsewhere status.InvalidParameter (if full then Fails status.InsufficientResources else opens) room
      (by_check full status.InsufficientResources opens next (open_exactly n (rooms_left others l) (drawn s) place.connection (s.counter + 1) (id_of s (s.counter + 1)) _ row c refl)))

  create_exactly : (files : List (List ℕ)) (others : ℕ) (h : SmbHead) (client : List ℕ) (c : CreateCallItem) (place : Place) → Comes (carried n s l (create_on s files others l h client c place)) (λ t. IsDispositionDue n s t files others l client place c)
  create_exactly files others h client c place =
      let named = λ (t : CoreState). OnceFound status.ObjectNameNotFound (IsFileDue n s t others l client place c) (file_spelled files c.name) in
      let plan = found (file_spelled files c.name) status.ObjectNameNotFound (file_plan s others l h client place c) in
      by_check (nat_lt 5 c.disposition) status.InvalidParameter (if overwrites c.disposition then Fails status.NotSupported else plan) (λ t. FailsIf (overwrites c.disposition) status.NotSupported (named t))
      (by_check (overwrites c.disposition) status.NotSupported plan named
      (by_found (file_spelled files c.name) status.ObjectNameNotFound (file_plan s others l h client place c) (λ t file. IsFileDue n s t others l client place c file) (file_exactly others h client place c)))

pub create_due : (n : ℕ) (s : CoreState) (files : List (List ℕ)) (others : ℕ) (l : Lists) (conn : ℕ) (h : SmbHead) (c : CreateCallItem) (told : Told) → ((outcome_of n s files others l conn h (Create c)).0 ≡ told) ↔ IsCreateDue n s (outcome_of n s files others l conn h (Create c)).3 files others l conn h c told
unfolding planned commanded create
create_due n s files others l conn h c told =
    let at = λ (client : List ℕ) (session : ℕ). tree_named l conn client h session in
    let placed = λ (t : CoreState) (client : List ℕ) (session : ℕ). OnceFound status.NetworkNameDeleted (λ (place : Place). IsDispositionDue n s t files others l client place c) (at client session) in
    by_found n s l (client_of conn l) status.InvalidParameter (λ client. commanded s files others l conn h (Create c) client)
    (λ t client. OnceFound status.UserSessionDeleted (placed t client) (session_named s l conn h.session_id))
    (λ client. by_found n s l (session_named s l conn h.session_id) status.UserSessionDeleted (λ session. on_tree (create_on s files others l h client c) (at client session)) (λ t session. placed t client session)
    (λ session. by_found n s l (at client session) status.NetworkNameDeleted (create_on s files others l h client c) (λ t place. IsDispositionDue n s t files others l client place c) (λ place. create_exactly n s l files others h client c place))) told

-- ---- what is open is held

not_open : {refused : SmbStatus} {id : ℕ} {cache : Caching} → Failed refused ≡ Opened id cache → ⊥
not_open e = cc

not_pending : {number id : ℕ} {cache : Caching} → Pending number ≡ Opened id cache → ⊥
not_pending e = cc

same_number : {id opened : ℕ} {cache of : Caching} → Opened id cache ≡ Opened opened of → (id ≡ opened) × (cache ≡ of)
same_number e = (cc, cc)

-- who is told that it is open was granted its share
granted_from : (id : ℕ) (cache : Caching) (opened : ℕ) (of : Caching) (answer : Answer) → opened_told id cache answer ≡ Opened opened of → ((id ≡ opened) × (cache ≡ of)) × (c : Claim) × (answer ≡ answers.Granted c)
granted_from id cache opened of (answers.Granted c) e = (same_number e, c, refl)
granted_from id cache opened of (answers.Conflict c) e = absurd (not_open e)
granted_from id cache opened of (answers.Full limit) e = absurd (not_open e)
granted_from id cache opened of (answers.Queued number) e = absurd (not_pending e)
granted_from id cache opened of (answers.NoGrace clock) e = absurd (not_open e)
granted_from id cache opened of (answers.Recall c) e = absurd (not_open e)
granted_from id cache opened of (answers.Grace until) e = absurd (not_open e)
granted_from id cache opened of answers.NotRecorded e = absurd (not_open e)
granted_from id cache opened of answers.NotHeld e = absurd (not_open e)
granted_from id cache opened of answers.StoreFailed e = absurd (not_open e)

lookup_last : {X : Type 0} (k : ℕ) (x : X) (es : List (ℕ × X)) → lookup (nat_eq k) es ≡ None → lookup (nat_eq k) (es ++ (k, x) ∷ []) ≡ Some x
lookup_last k x [] none = ap (λ b. cond b (Some x) None) (equal_self k)
lookup_last k x (e ∷ es) none = elim (cases_Bool (eqb k e.0)) [ inl h ↦ absurd (some_none (rw h at none)) | inr h ↦ rw h (lookup_last k x es (rw h at none)) ]

pub found_is : (s : CoreState) (files : List (List ℕ)) (others : ℕ) (l : Lists) (conn : ℕ) (h : SmbHead) (client : List ℕ) (c : CreateCallItem) (session file : ℕ) (place : Place) → IsOnTree s l conn h client session place → file_spelled files c.name ≡ Some file
    → planned s files others l conn h (Create c) ≡ refused (found_checks s others l client c file) (open_as s others l h client place c file (s.counter + 1))
unfolding planned commanded create
found_is s files others l conn h client c session file place named at =
    ap (negotiated_by (λ k. in_session (λ j. on_tree (create_on s files others l h k c) (tree_named l conn k h j)) (session_named s l conn h.session_id))) named.0.0
    ∙ ap (in_session (λ j. on_tree (create_on s files others l h client c) (tree_named l conn client h j))) named.0.1
    ∙ ap (on_tree (create_on s files others l h client c)) named.1
    ∙ ap (λ (o : Option ℕ). refused ((nat_lt file_overwrite_if c.disposition, status.InvalidParameter) ∷ (overwrites c.disposition, status.NotSupported) ∷ []) (found o status.ObjectNameNotFound (file_plan s others l h client place c))) at

module _ (n : ℕ) (s : CoreState) (files : List (List ℕ)) (others : ℕ) (l : Lists) (conn : ℕ) (h : SmbHead) (client : List ℕ) (c : CreateCallItem) (session file id : ℕ) (cache : Caching) (place : Place)
    (named : IsOnTree s l conn h client session place) (at : file_spelled files c.name ≡ Some file) (e : (outcome_of n s files others l conn h (Create c)).0 ≡ Opened id cache) where
  -- the number, the ask and its answer
  abbrev number : ℕ
  number = s.counter + 1

  abbrev row : Open
  row = open_row file client place c

  abbrev asks : Ask
  asks = open_ask place.connection number row c

  abbrev answered : Answer × List Effect × CoreState
  answered = ask n (rooms_left others l) (drawn s) asks

  abbrev opens : Plan
  opens = open_as s others l h client place c file number

  abbrev is_planned : planned s files others l conn h (Create c) ≡ refused (found_checks s others l client c file) opens
  is_planned = found_is s files others l conn h client c session file place named at

  -- none of the checks is the case
  passes : (refused (found_checks s others l client c file) opens ≡ opens) × AllByRecursion (λ (check : Bool × SmbStatus). check.0 ≡ false) (found_checks s others l client c file)
  passes =
      walk_refused (λ plan. (carried n s l plan).0 ≡ Opened id cache → (plan ≡ opens) × AllByRecursion (λ (check : Bool × SmbStatus). check.0 ≡ false) (found_checks s others l client c file)) (λ refusal told. absurd (not_open told)) (found_checks s others l client c file) opens (λ all told. (refl, all))
      (ap (λ (p : Plan). (carried n s l p).0) (sym is_planned) ∙ e)

  has_room : has_room_for_open others l number ≡ true
  has_room = not_false (has_room_for_open others l number) passes.1.1.1.1.1.0

  abbrev is_asked : outcome_of n s files others l conn h (Create c) ≡ carried n s l opens
  is_asked = ap (carried n s l) (is_planned ∙ passes.0)

  granted : ((id_of s number ≡ id) × (caching answered.2 number row ≡ cache)) × (g : Claim) × (answered.0 ≡ answers.Granted g)
  granted = granted_from (id_of s number) (caching answered.2 number row) id cache answered.0 (ap (λ (o : Outcome). o.0) (sym is_asked) ∙ e)

  pub open_numbered : id ≡ id_of s (s.counter + 1)
  open_numbered = sym granted.0.0

  pub open_cache : cache ≡ caching (outcome_of n s files others l conn h (Create c)).3 (s.counter + 1) (open_row file client place c)
  open_cache = sym granted.0.1 ∙ ap (λ (o : Outcome). caching o.3 number row) (sym is_asked)

  pub open_stands : open_of (s.counter + 1) (outcome_of n s files others l conn h (Create c)).2 ≡ Some (open_row file client place c)
  open_stands =
      ap (λ (o : Outcome). open_of number o.2) is_asked
      ∙ ap (λ (a : Answer). open_of number (opened_lists l number row (create_row h place number row) a)) granted.2
      ∙ ap (λ (m : Lists). open_of number m) (with_keeps number row l)
      ∙ lookup_last number row l.opens (open_new others l number has_room)

  pub open_leased : IsLeased (outcome_of n s files others l conn h (Create c)).2 (s.counter + 1) (open_row file client place c)
  open_leased =
      subst (λ (m : Lists). IsLeased m number row)
      (sym (ap (λ (o : Outcome). o.2) is_asked ∙ ap (λ (a : Answer). opened_lists l number row (create_row h place number row) a) granted.2))
      (comes_leased number row l (λ key own. free_lease file key l (key_free row key l own passes.1.1.1.1.0)))

  pub open_shares : IsGood s → held_at (outcome_of n s files others l conn h (Create c)).3 (ShareOf file (owners.Open (s.counter + 1))) ≡ Share (access_of c.desired_access) (deny_of (access_of c.desired_access) c.share_access) ∷ []
  unfolding open_ask
  open_shares good =
      ap (λ (o : Outcome). held_at o.3 (ShareOf file (owners.Open number))) is_asked
      ∙ ap (map share_held) (ask_shared n (rooms_left others l) (drawn s) asks (access_of c.desired_access) (deny_of (access_of c.desired_access) c.share_access) granted.1 (drawn_good s good) (party_fits number row) refl refl granted.2)

-- ---- what is refused changes nothing but caches

opened_failed : {id : ℕ} {cache : Caching} {refused : SmbStatus} → Opened id cache ≡ Failed refused → ⊥
opened_failed e = cc

pending_failed : {number : ℕ} {refused : SmbStatus} → Pending number ≡ Failed refused → ⊥
pending_failed e = cc

same_lists : (l : Lists) (key id : ℕ) (cache : Caching) (row : Open) (waiting : Waiting) (refused : SmbStatus) (answer : Answer) → opened_told id cache answer ≡ Failed refused → opened_lists l key row waiting answer ≡ l
same_lists l key id cache row waiting refused (answers.Granted c) e = absurd (opened_failed e)
same_lists l key id cache row waiting refused (answers.Conflict c) e = refl
same_lists l key id cache row waiting refused (answers.Full limit) e = refl
same_lists l key id cache row waiting refused (answers.Queued waiter) e = absurd (pending_failed e)
same_lists l key id cache row waiting refused (answers.NoGrace clock) e = refl
same_lists l key id cache row waiting refused (answers.Recall c) e = refl
same_lists l key id cache row waiting refused (answers.Grace until) e = refl
same_lists l key id cache row waiting refused answers.NotRecorded e = refl
same_lists l key id cache row waiting refused answers.NotHeld e = refl
same_lists l key id cache row waiting refused answers.StoreFailed e = refl

same_claims : (n : ℕ) (left : Rooms) (s : CoreState) (conn number id : ℕ) (cache : Caching) (row : Open) (c : CreateCallItem) (refused : SmbStatus) → IsGood s → opened_told id cache (ask n left (drawn s) (open_ask conn number row c)).0 ≡ Failed refused
    → others_of (ask n left (drawn s) (open_ask conn number row c)).2.claims ≡ others_of s.claims
unfolding open_ask drawn
same_claims n left s conn number id cache row c refused good e =
    let a = open_ask conn number row c in
    ap others_of ((ask_own n left (drawn s) a (drawn_good s good) (party_fits number row)).claims (λ g at. opened_failed (sym (ap (opened_told id cache) at) ∙ e)))
    ∙ ask_way_keeps (λ x. others_of x.claims) left (drawn s) a (λ d. begun_others (drawn s) d)

module _ (n : ℕ) (s : CoreState) (l : Lists) (good : IsGood s) where
  -- where the plan comes to fail, lists stay, and claims but for caches
  abbrev Keeps : Plan → Type 0
  Keeps plan = (refused : SmbStatus) → (carried n s l plan).0 ≡ Failed refused → ((carried n s l plan).2 ≡ l) × (others_of (carried n s l plan).3.claims ≡ others_of s.claims)

  fails_keeps : (refused : SmbStatus) → Keeps (Fails refused)
  fails_keeps refused told e = (refl, refl)

  asks_keeps : (others : ℕ) (h : SmbHead) (client : List ℕ) (place : Place) (c : CreateCallItem) (file : ℕ) → Keeps (open_as s others l h client place c file (s.counter + 1))
  asks_keeps others h client place c file refused e =
      let number = s.counter + 1 in
      let row = open_row file client place c in
      let r = ask n (rooms_left others l) (drawn s) (open_ask place.connection number row c) in
      let cache = caching r.2 number row in (
        same_lists l number (id_of s number) cache row (create_row h place number row) refused r.0 e,
        same_claims n (rooms_left others l) s place.connection number (id_of s number) cache row c refused good e,
      )

pub refused_keeps : (n : ℕ) (s : CoreState) (files : List (List ℕ)) (others : ℕ) (l : Lists) (conn : ℕ) (h : SmbHead) (c : CreateCallItem) (refused : SmbStatus) → IsGood s → (outcome_of n s files others l conn h (Create c)).0 ≡ Failed refused
    → ((outcome_of n s files others l conn h (Create c)).2 ≡ l) × (others_of (outcome_of n s files others l conn h (Create c)).3.claims ≡ others_of s.claims)
refused_keeps n s files others l conn h c refused good e =
    walk_created (Keeps n s l good) (fails_keeps n s l good) s files others l conn h c (λ client place file on. asks_keeps n s l good others h client place c file) refused e
