-- What holds of each end of a plan holds of the plan.
use Rattle.std.proofs.Common.{◌≡◌, ℕ, ◌+◌, Bool, true, false, not, List, [], ◌∷◌, ◌⊎◌, Option, Some, None, if◌then◌else◌, refl, sym, ap, ◌∙◌, inl, inr}
use Rattle.std.specs.Prelude.{◌==◌, nat_lt, length}
use Rattle.std.specs.List.{AllByRecursion}
use Rattle.xl_base.specs.Lists.{IsIn}
use Rattle.xl_base.specs.declared.name.Party.{Party}
use Rattle.xl_base.specs.declared.name.Party.TheVariants as parties
use Rattle.xl_cache.specs.Levels.{kind_of_state, level_of}
use Rattle.xl_cache.specs.Targets.{rest_lies_within}
use Rattle.xl_matrix.specs.declared.claim.Break.{Break}
use Rattle.xl_matrix.specs.declared.claim.CacheKind.{CacheKind}
use Rattle.xl_matrix.specs.declared.claim.Claim.{Claim}
use Rattle.xl_matrix.specs.declared.claim.What.{What}
use Rattle.xl_matrix.specs.declared.claim.What.TheVariants as whats
use Rattle.xl_smb.specs.Calls.{Create}
use Rattle.xl_smb.specs.Creates.{CreateCallItem}
use Rattle.xl_smb.specs.Locks.{LockItem, elements_of}
use Rattle.xl_smb.specs.declared.breaks.Break.{Break as Acknowledgement}
use Rattle.xl_smb.specs.declared.breaks.Break.TheVariants as held
use Rattle.xl_smb.specs.declared.head.SmbHead.{SmbHead}
use Rattle.xl_smb.specs.declared.lease.Lease.{Lease}
use Rattle.xl_smb.specs.declared.lock.LockElement.{LockElement}
use Rattle.xl_smb_state.proofs.RowLaws.{none_some, same_Some}
use Rattle.xl_smb_state.specs.Links.{has_place}
use Rattle.xl_smb_state.specs.State.{Lists, client_of, lease_of as lease_row, open_of}
use Rattle.xl_smb_state.specs.declared.row.Open.{Open}
use Rattle.xl_smb_state.specs.declared.row.Place.{Place}
use Rattle.xl_smb_state.specs.declared.row.Request.TheVariants as request
use Rattle.xl_smb_state.specs.declared.row.Waiting.{Waiting}
use Rattle.xl_core.specs.BreakAnswers.{may_be_left}
use Rattle.xl_core.specs.Deeds.{Acks}
use Rattle.xl_core.specs.Ids.{id_of}
use Rattle.xl_core.specs.State.{CoreState}
use Rattle.xl_smb_locks.specs.Elements.{is_count, lock_fault, unlocks_first}
use Rattle.xl_smb_locks.specs.Levels.{cache_of, lease_party, oplock_of}
use Rattle.xl_smb_locks.specs.Locks.{lock_ask, unlocks}
use Rattle.xl_smb_locks.specs.declared.status.SmbStatus.{SmbStatus}
use Rattle.xl_smb_locks.specs.declared.status.SmbStatus.TheVariants as status
use Rattle.xl_front_smb.specs.Checks.{file_number, found, in_session, is_open_on, kept_if, negotiated_by, on_open, on_tree, refused, session_named, tree_named}
use Rattle.xl_front_smb.specs.Files.{ack_by, ack_cache, ack_of, ack_oplock, acknowledge, break_by, create, create_on, file_create, file_overwrite_if, has_room_for_open, is_key_elsewhere, is_refused, key_asked, lease_key, lease_left, lease_level, left_at, may_keep, open_as, overwrites, running_of}
use Rattle.xl_front_smb.specs.Locks.{lock, lock_by, lock_on, place_of, unlock_by, waiting_row}
use Rattle.xl_front_smb.specs.Plans.{Does, Fails, Locks, Plan}
use Rattle.xl_front_smb.specs.Replies.{tree_id}
use Rattle.xl_front_smb.specs.Requests.{commanded, planned}
use Rattle.xl_front_smb.specs.Texts.{file_spelled}
use Rattle.xl_front_smb.specs.declared.told.Told.{Told}
use Rattle.xl_front_smb.specs.declared.told.Told.TheVariants as told
use Rattle.xl_front_smb.proofs.AckLaws.{cache_is, kept_within, left_within, may_be_none, not_false, oplock_is}

-- it is told that it waits
abbrev pub is_pending : Told → Bool
is_pending (told.Pending id) = true
is_pending _ = false

-- whose break a request by this connection, of this client, may answer: of an open under the connection, or of a lease of the client
abbrev pub IsAcker : CoreState → Lists → ℕ → List ℕ → Party → Type 0
IsAcker s l conn client party = ((number : ℕ) × (is_open_on conn (open_of number l) ≡ true) × (party ≡ parties.Open number)) ⊎ ((key : List ℕ) × (party ≡ lease_party s.names client key))

runs_within : (what : What) (running : Break) (to : Option CacheKind) → running_of what ≡ Some running → rest_lies_within to running.target ≡ true → may_be_left what to ≡ true
runs_within (whats.Cache kind None) running to is within = absurd (none_some is)
runs_within (whats.Cache kind (Some other)) running to is within = ap (λ (b : Break). rest_lies_within to b.target) (same_Some is) ∙ within
runs_within (whats.Share access deny) running to is within = absurd (none_some is)
runs_within (whats.Range extent exclusive) running to is within = absurd (none_some is)

-- ---- checks, whatever holds of a plan

module _ (P : Plan → Type 0) where
  session_kept : (test : ℕ → Bool) (go : ℕ → Plan) (number : ℕ) (b : Bool) → test number ≡ b → P (in_session go None) → ((k : ℕ) → test k ≡ true → P (go k)) → P (in_session go (if b then Some number else None))
  session_kept test go number true is fails goes = goes number is
  session_kept test go number false is fails goes = fails

  pub by_session : (test : ℕ → Bool) (go : ℕ → Plan) (o : Option ℕ) → P (in_session go None) → ((k : ℕ) → test k ≡ true → P (go k)) → P (in_session go (kept_if test o))
  by_session test go None fails goes = fails
  by_session test go (Some number) fails goes = session_kept test go number (test number) refl fails goes

  open_kept : (test : ℕ → Bool) (go : ℕ → Plan) (number : ℕ) (b : Bool) → test number ≡ b → P (on_open go None) → ((k : ℕ) → test k ≡ true → P (go k)) → P (on_open go (if b then Some number else None))
  open_kept test go number true is fails goes = goes number is
  open_kept test go number false is fails goes = fails

  pub by_open : (test : ℕ → Bool) (go : ℕ → Plan) (o : Option ℕ) → P (on_open go None) → ((k : ℕ) → test k ≡ true → P (go k)) → P (on_open go (kept_if test o))
  by_open test go None fails goes = fails
  by_open test go (Some number) fails goes = open_kept test go number (test number) refl fails goes

  pub by_tree : (go : Place → Plan) (place : Place) (b : Bool) → P (on_tree go None) → (b ≡ true → P (go place)) → P (on_tree go (if b then Some place else None))
  by_tree go place true fails goes = goes refl
  by_tree go place false fails goes = fails

  pub by_known : (go : List ℕ → Plan) (o : Option (List ℕ)) → P (negotiated_by go None) → ((client : List ℕ) → o ≡ Some client → P (go client)) → P (negotiated_by go o)
  by_known go None fails goes = fails
  by_known go (Some client) fails goes = goes client refl

  pub by_client : (go : List ℕ → Plan) (o : Option (List ℕ)) → P (negotiated_by go None) → ((client : List ℕ) → P (go client)) → P (negotiated_by go o)
  by_client go o fails goes = by_known go o fails (λ client at. goes client)

module _ (P : Plan → Type 0) (fails : (refusal : SmbStatus) → P (Fails refusal)) where
  pub walk_unless : (b : Bool) (refusal : SmbStatus) (plan : Plan) → P plan → P (if b then Fails refusal else plan)
  walk_unless true refusal plan rest = fails refusal
  walk_unless false refusal plan rest = rest

  pub walk_if : (b : Bool) (refusal : SmbStatus) (plan : Plan) → P plan → P (if b then plan else Fails refusal)
  walk_if true refusal plan rest = rest
  walk_if false refusal plan rest = fails refusal

  walk_check : (b : Bool) (refusal : SmbStatus) (plan : Plan) → (b ≡ false → P plan) → P (if b then Fails refusal else plan)
  walk_check true refusal plan rest = fails refusal
  walk_check false refusal plan rest = rest refl

  -- what goes on where none of these is the case
  pub walk_refused : (checks : List (Bool × SmbStatus)) (plan : Plan) → (AllByRecursion (λ (check : Bool × SmbStatus). check.0 ≡ false) checks → P plan) → P (refused checks plan)
  walk_refused [] plan rest = rest tt
  walk_refused (check ∷ checks) plan rest = walk_check check.0 check.1 (refused checks plan) (λ is. walk_refused checks plan (λ all. rest (is, all)))

  -- and with what is there
  pub walk_found : {X : Type 0} (o : Option X) (refusal : SmbStatus) (go : X → Plan) → ((x : X) → o ≡ Some x → P (go x)) → P (found o refusal go)
  walk_found None refusal go rest = fails refusal
  walk_found (Some x) refusal go rest = rest x refl

  pub walk_client : (go : List ℕ → Plan) (o : Option (List ℕ)) → ((client : List ℕ) → P (go client)) → P (negotiated_by go o)
  walk_client go o rest = by_client P go o (fails status.InvalidParameter) rest

  pub walk_session : (go : ℕ → Plan) (o : Option ℕ) → ((session : ℕ) → P (go session)) → P (in_session go o)
  walk_session go o rest = walk_found o status.UserSessionDeleted go (λ session at. rest session)

  pub walk_tree : (l : Lists) (conn session : ℕ) (client : List ℕ) (h : SmbHead) (go : Place → Plan) → ((place : Place) → place.connection ≡ conn → has_place place client l ≡ true → P (go place)) → P (on_tree go (tree_named l conn client h session))
  walk_tree l conn session client h go rest =
      let place : Place = record { connection = conn; session = session; tree = tree_id h.route } in
      by_tree P go place (has_place place client l) (fails status.NetworkNameDeleted) (λ there. rest place refl there)

  -- ---- CREATE

  pub walk_create : (s : CoreState) (files : List (List ℕ)) (others : ℕ) (l : Lists) (conn : ℕ) (client : List ℕ) (h : SmbHead) (c : CreateCallItem)
      → ((place : Place) (file : ℕ) → place.connection ≡ conn → has_place place client l ≡ true → is_key_elsewhere file (lease_key client (key_asked c)) l ≡ false → has_room_for_open others l (s.counter + 1) ≡ true → P (open_as s others l h client place c file (s.counter + 1)))
      → P (create s files others l conn client h c)
  unfolding create
  walk_create s files others l conn client h c opens =
      walk_session (λ session. on_tree (create_on s files others l h client c) (tree_named l conn client h session)) (session_named s l conn h.session_id)
      (λ session. walk_tree l conn session client h (create_on s files others l h client c) named)
    where
      named : (place : Place) → place.connection ≡ conn → has_place place client l ≡ true → P (create_on s files others l h client c place)
      named place on there =
          let checks : ℕ → List (Bool × SmbStatus) = λ file.
          (c.disposition == file_create, status.ObjectNameCollision)
          ∷ (is_key_elsewhere file (lease_key client (key_asked c)) l, status.InvalidParameter)
          ∷ (not (has_room_for_open others l (s.counter + 1)), status.InsufficientResources)
          ∷ [] in
          let opened : ℕ → Plan = λ file. open_as s others l h client place c file (s.counter + 1) in
          walk_refused ((nat_lt file_overwrite_if c.disposition, status.InvalidParameter) ∷ (overwrites c.disposition, status.NotSupported) ∷ []) _
          (λ none. walk_found (file_spelled files c.name) status.ObjectNameNotFound (λ file. refused (checks file) (opened file))
          (λ file at. walk_refused (checks file) (opened file) (λ all. opens place file on there all.1.0 (not_false (has_room_for_open others l (s.counter + 1)) all.1.1.0))))

  -- the same of a client that has negotiated
  pub walk_created : (s : CoreState) (files : List (List ℕ)) (others : ℕ) (l : Lists) (conn : ℕ) (h : SmbHead) (c : CreateCallItem)
      → ((client : List ℕ) (place : Place) (file : ℕ) → place.connection ≡ conn → P (open_as s others l h client place c file (s.counter + 1)))
      → P (planned s files others l conn h (Create c))
  unfolding planned commanded
  walk_created s files others l conn h c opens =
      walk_client (λ client. commanded s files others l conn h (Create c) client) (client_of conn l)
      (λ client. walk_create s files others l conn client h c (λ place file on there unused room. opens client place file on))

  -- ---- LOCK

  walk_locks : (l : Lists) (conn : ℕ) (kept : Waiting) (number : ℕ) (row : Open) (es : List LockElement) (o : Option SmbStatus) → lock_fault es ≡ o → (lock_fault es ≡ None → P (Locks (lock_ask conn number row es) kept)) → P (lock_by conn kept number row es o)
  walk_locks l conn kept number row es (Some refusal) is rest = fails refusal
  walk_locks l conn kept number row es None is rest = rest is

  walk_either : (b : Bool) (one other : Plan) → P one → P other → P (if b then one else other)
  walk_either true one other first second = first
  walk_either false one other first second = second

  pub walk_lock : (s : CoreState) (l : Lists) (conn : ℕ) (client : List ℕ) (h : SmbHead) (c : LockItem)
      → ((number : ℕ) (row : Open) → open_of number l ≡ Some row → is_open_on conn (Some row) ≡ true → P (unlock_by l (unlocks s number row (elements_of c.elements))))
      → ((place : Place) (number : ℕ) (row : Open) → open_of number l ≡ Some row → is_open_on conn (Some row) ≡ true → is_count (length (elements_of c.elements)) ≡ true → lock_fault (elements_of c.elements) ≡ None → P (Locks (lock_ask conn number row (elements_of c.elements)) (waiting_row h (place_of row.holder place) number request.Lock)))
      → P (lock s l conn client h c)
  unfolding lock
  walk_lock s l conn client h c ends locks =
      walk_session _ (session_named s l conn h.session_id)
      (λ session. walk_tree l conn session client h _
      (λ place here there. by_open P (λ number. is_open_on conn (open_of number l)) _ (file_number s c.file_id) (fails status.FileClosed)
      (λ number on. walk_found (open_of number l) status.FileClosed (lock_on s l conn h number place (elements_of c.elements))
      (λ row at. ranges place number row at (ap (is_open_on conn) (sym at) ∙ on)))))
    where
      ranges : (place : Place) (number : ℕ) (row : Open) → open_of number l ≡ Some row → is_open_on conn (Some row) ≡ true → P (lock_on s l conn h number place (elements_of c.elements) row)
      ranges place number row at on =
          let es = elements_of c.elements in
          let kept = waiting_row h (place_of row.holder place) number request.Lock in
          walk_refused ((not (is_count (length es)), status.InvalidParameter) ∷ []) _
          (λ all. walk_either (unlocks_first es) (unlock_by l (unlocks s number row es)) (lock_by conn kept number row es (lock_fault es)) (ends number row at on)
          (walk_locks l conn kept number row es (lock_fault es) refl (locks place number row at on (not_false (is_count (length es)) all.0))))

  -- ---- OPLOCK_BREAK

  module _ (s : CoreState) (l : Lists) (conn : ℕ) (client : List ℕ)
      (acks : (cache : Claim) (to : Option CacheKind) (t : Told) → IsIn cache s.claims → may_be_left cache.what to ≡ true → IsAcker s l conn client cache.party → is_pending t ≡ false → P (Does (Acks cache to ∷ []) l t)) where
    walk_ran : (id level : ℕ) (cache : Claim) (kind : CacheKind) (running : Break) (unfit : Bool) → is_refused level kind (Some running) ≡ unfit → cache.what ≡ whats.Cache kind (Some running) → IsIn cache s.claims → IsAcker s l conn client cache.party
        → P (if unfit then Does (Acks cache None ∷ []) l (told.Failed status.InvalidOplockProtocol) else Does (Acks cache (left_at level) ∷ []) l (told.Acknowledged id (level_of (left_at level))))
    walk_ran id level cache kind running true at is here own = acks cache None (told.Failed status.InvalidOplockProtocol) here (may_be_none cache.what kind running is) own refl
    walk_ran id level cache kind running false at is here own =
        acks cache (left_at level) (told.Acknowledged id (level_of (left_at level))) here (ap (λ (w : What). may_be_left w (left_at level)) is ∙ left_within level kind running at) own refl

    walk_by : (id level : ℕ) (cache : Claim) (what : What) → cache.what ≡ what → IsIn cache s.claims → IsAcker s l conn client cache.party → P (ack_by l id level cache what)
    walk_by id level cache (whats.Cache kind None) is here own = walk_unless (is_refused level kind None) status.InvalidOplockProtocol (Fails status.InvalidDeviceState) (fails status.InvalidDeviceState)
    walk_by id level cache (whats.Cache kind (Some running)) is here own = walk_ran id level cache kind running (is_refused level kind (Some running)) refl is here own
    walk_by id level cache (whats.Share access deny) is here own = fails status.InvalidDeviceState
    walk_by id level cache (whats.Range extent exclusive) is here own = fails status.InvalidDeviceState

    walk_of : (file number id level : ℕ) (o : Option Claim) → oplock_of file number s.claims ≡ o → is_open_on conn (open_of number l) ≡ true → P (ack_of l id level o)
    walk_of file number id level None at on = walk_unless (nat_lt 1 level) status.InvalidOplockProtocol (Fails status.InvalidDeviceState) (fails status.InvalidDeviceState)
    walk_of file number id level (Some cache) at on =
        let its = oplock_is file number s.claims cache at in
        walk_by id level cache cache.what refl its.0 (inl (number, on, its.1))

    walk_cache : (lease : Lease) (cache : Claim) → IsIn cache s.claims → IsAcker s l conn client cache.party → P (ack_cache l lease cache)
    walk_cache lease cache here own =
        let to = kind_of_state lease.state in
        let answers = Does (Acks cache to ∷ []) l (told.Answered (lease_left lease)) in
        walk_found (running_of cache.what) status.Unsuccessful (λ running. refused ((not (may_keep lease.state running), status.RequestNotAccepted) ∷ []) answers)
        (λ running is. walk_refused ((not (may_keep lease.state running), status.RequestNotAccepted) ∷ []) answers
        (λ all. acks cache to (told.Answered (lease_left lease)) here (runs_within cache.what running to is (kept_within lease.state running (not_false (may_keep lease.state running) all.0))) own refl))

    walk_break : (b : Acknowledgement) → P (break_by s l conn client b)
    walk_break (held.Oplock level id) =
        by_open P (λ number. is_open_on conn (open_of number l)) (ack_oplock s l level) (file_number s id) (fails status.FileClosed)
        (λ number on. walk_unless (level == lease_level) status.InvalidParameter _
        (walk_found (open_of number l) status.FileClosed (λ row. ack_of l (id_of s number) level (oplock_of row.file number s.claims))
        (λ row at. walk_of row.file number (id_of s number) level (oplock_of row.file number s.claims) refl on)))
    walk_break (held.Lease lease) =
        walk_found (lease_row (record { client = client; key = lease.key }) l) status.ObjectNameNotFound (λ row. found (cache_of row.file (lease_party s.names client lease.key) s.claims) status.Unsuccessful (ack_cache l lease))
        (λ row at. walk_found (cache_of row.file (lease_party s.names client lease.key) s.claims) status.Unsuccessful (ack_cache l lease)
        (λ cache is. let its = cache_is row.file (lease_party s.names client lease.key) s.claims cache is in walk_cache lease cache its.0 (inr (lease.key, its.1))))

    pub walk_acknowledge : (h : SmbHead) (b : Acknowledgement) → P (acknowledge s l conn client h b)
    unfolding acknowledge
    walk_acknowledge h b = walk_session (λ session. break_by s l conn client b) (session_named s l conn h.session_id) (λ session. walk_break b)
