-- What OPLOCK_BREAK comes to, and what it leaves.
use Rattle.std.proofs.Common.{◌≡◌, ℕ, Bool, true, false, List, [], ◌∷◌, Option, Some, None, if◌then◌else◌, refl, sym, ap, subst, ◌∙◌, inl, inr}
use Rattle.std.specs.Prelude.{◌==◌, ◌||◌, nat_lt, not}
use Rattle.std.proofs.lemmas.Bool.{cases_Bool, and_parts, or_cases, eqb-true}
use Rattle.xl_base.specs.declared.name.Party.{Party}
use Rattle.xl_base.specs.declared.name.Party.TheVariants as parties
use Rattle.xl_cache.specs.Levels.{kind_of_state, level_of, state_of}
use Rattle.xl_cache.specs.Targets.{rest_lies_within}
use Rattle.xl_matrix.specs.declared.claim.Break.{Break}
use Rattle.xl_matrix.specs.declared.claim.CacheKind.{CacheKind}
use Rattle.xl_matrix.specs.declared.claim.CacheKind.TheVariants.{R}
use Rattle.xl_matrix.specs.declared.claim.Claim.{Claim}
use Rattle.xl_matrix.specs.declared.claim.What.{What}
use Rattle.xl_matrix.specs.declared.claim.What.TheVariants as whats
use Rattle.xl_smb.specs.Calls.{OplockBreak}
use Rattle.xl_smb.specs.declared.breaks.Break.{Break as Acknowledgement}
use Rattle.xl_smb.specs.declared.breaks.Break.TheVariants as held
use Rattle.xl_smb.specs.declared.file.FileId.{FileId}
use Rattle.xl_smb.specs.declared.head.SmbHead.{SmbHead}
use Rattle.xl_smb.specs.declared.lease.Lease.{Lease}
use Rattle.xl_smb_state.proofs.RowLaws.{none_some, same_Some}
use Rattle.xl_smb_state.specs.State.{Lists, lease_of as lease_row, open_of}
use Rattle.xl_smb_state.specs.declared.row.Lease.{Lease as LeaseRow}
use Rattle.xl_smb_state.specs.declared.row.Open.{Open}
use Rattle.xl_table.specs.Held.{is_cache}
use Rattle.xl_core.specs.BreakAnswers.{may_be_left, ack}
use Rattle.xl_core.specs.Deeds.{Acks}
use Rattle.xl_core.specs.Good.{IsGood}
use Rattle.xl_core.specs.Places.{CacheOf, is_cache_on, part_by, entered_by, cleared_by, acked_at, else_was, held_at}
use Rattle.xl_core.specs.State.{CoreState}
use Rattle.xl_core.proofs.DeedLaws.{deed_makes}
use Rattle.xl_core.specs.Ids.{id_of}
use Rattle.xl_smb_locks.specs.Levels.{cache_of, first_kind, lease_party, level_held, oplock_of}
use Rattle.xl_smb_locks.specs.declared.status.SmbStatus.{SmbStatus}
use Rattle.xl_smb_locks.specs.declared.status.SmbStatus.TheVariants.{InvalidParameter, InvalidOplockProtocol, InvalidDeviceState, FileClosed, ObjectNameNotFound, Unsuccessful, RequestNotAccepted}
use Rattle.xl_front_smb.specs.Checks.{open_named, refused, found, negotiated_by, in_session, on_open}
use Rattle.xl_front_smb.specs.Files.{is_refused, left_at, ack_by, ack_of, ack_oplock, may_keep, lease_left, running_of, ack_cache, break_by, acknowledge}
use Rattle.xl_front_smb.specs.Laws.{IsInSession, IsAckOf, outcome_of, rest_status}
use Rattle.xl_front_smb.specs.Plans.{Plan, Fails, Does, Outcome, carried}
use Rattle.xl_front_smb.specs.Requests.{commanded, planned}
use Rattle.xl_front_smb.specs.declared.told.Told.TheVariants.{Failed, Acknowledged, Answered}
use Rattle.xl_front_smb.proofs.AckLaws.{above, left_within, kept_within, cache_is, acks, ran_refused, ran_taken}

-- ---- what is left

cache_on : (file : ℕ) (party : Party) (cs : List Claim) (cache : Claim) → cache_of file party cs ≡ Some cache → is_cache_on file party cache ≡ true
cache_on file party [] cache at = absurd (none_some at)
cache_on file party (c ∷ cs) cache at =
    elim (cases_Bool (is_cache_on file party c)) [
      | inl here ↦ subst (λ (x : Claim). is_cache_on file party x ≡ true) (same_Some (rw here at at)) here
      | inr other ↦ cache_on file party cs cache (rw other at at)
    ]

-- a level that isn't refused is none or II
level_kept : (level : ℕ) (kind : CacheKind) (running : Break) → is_refused level kind (Some running) ≡ false → level_of (left_at level) ≡ level
level_kept level kind running h =
    elim (cases_Bool (level == 0)) [
      | inl none ↦ ap (λ (b : Bool). level_of (if b then None else Some R)) none ∙ sym (eqb-true level 0 none)
      | inr some ↦ ap (λ (b : Bool). level_of (if b then None else Some R)) some ∙ sym (eqb-true level 1 (above level _ some h))
    ]

module _ (file : ℕ) (party : Party) (cache : Claim) (kind : CacheKind) (running : Break) (on : is_cache_on file party cache ≡ true) (is : cache.what ≡ whats.Cache kind (Some running)) where
  none_left : acked_at cache None (CacheOf file party) ≡ Some []
  none_left =
      ap (λ (b : Bool). cleared_by (if b then part_by cache.what (CacheOf file party) else [])) on
      ∙ ap (λ (w : What). cleared_by (part_by w (CacheOf file party))) is

  some_left : (left : CacheKind) → acked_at cache (Some left) (CacheOf file party) ≡ Some (whats.Cache left None ∷ [])
  some_left left = ap (λ (b : Bool). entered_by (if b then whats.Cache left None ∷ [] else [])) (and_parts (is_cache cache.what) _ on).1

  -- the kind that is held there then
  kind_left : (to : Option CacheKind) (was : List What) → first_kind (else_was (acked_at cache to (CacheOf file party)) was) ≡ to
  kind_left None was = ap (λ (o : Option (List What)). first_kind (else_was o was)) none_left
  kind_left (Some left) was = ap (λ (o : Option (List What)). first_kind (else_was o was)) (some_left left)

kind_held : (s : CoreState) (file : ℕ) (party : Party) (cache : Claim) (kind : CacheKind) (running : Break) (to : Option CacheKind) → IsGood s → cache_of file party s.claims ≡ Some cache → cache.what ≡ whats.Cache kind (Some running) → rest_lies_within to running.target ≡ true
    → first_kind (held_at (ack s cache to).1 (CacheOf file party)) ≡ to
kind_held s file party cache kind running to good at is within =
    let p = CacheOf file party in
    let may : may_be_left cache.what to ≡ true = ap (λ (w : What). may_be_left w to) is ∙ within in
    ap first_kind (deed_makes 0 s (Acks cache to) p good ((cache_is file party s.claims cache at).0, may)) ∙ kind_left file party cache kind running (cache_on file party s.claims cache at) is to (held_at s p)

left_held : (s : CoreState) (file number level : ℕ) (cache : Claim) (kind : CacheKind) (running : Break) → IsGood s → oplock_of file number s.claims ≡ Some cache → cache.what ≡ whats.Cache kind (Some running) → is_refused level kind (Some running) ≡ false
    → level_held (ack s cache (left_at level)).1 file number ≡ level
unfolding level_held
left_held s file number level cache kind running good at is taken =
    ap level_of (kind_held s file (parties.Open number) cache kind running (left_at level) good at is (left_within level kind running taken)) ∙ level_kept level kind running taken

-- what a lease may keep is a state
state_kept : (state : ℕ) (running : Break) → may_keep state running ≡ true → state_of (kind_of_state state) ≡ state
unfolding kind_of_state
state_kept state running may = by (and_parts (state == 0 || (state == 1 || state == 3)) (rest_lies_within (kind_of_state state) running.target) may).0
  where
    by : (state == 0 || (state == 1 || state == 3)) ≡ true → state_of (kind_of_state state) ≡ state
    by h =
        elim (or_cases (state == 0) (state == 1 || state == 3) h) [
          | inl none ↦ subst (λ (k : ℕ). state_of (kind_of_state k) ≡ k) (sym (eqb-true state 0 none)) refl
          | inr some ↦ elim (or_cases (state == 1) (state == 3) some) [
            | inl one ↦ subst (λ (k : ℕ). state_of (kind_of_state k) ≡ k) (sym (eqb-true state 1 one)) refl
            | inr three ↦ subst (λ (k : ℕ). state_of (kind_of_state k) ≡ k) (sym (eqb-true state 3 three)) refl
          ]
        ]

-- ---- answers are apart

failed_told : {status : SmbStatus} {named left : ℕ} → Failed status ≡ Acknowledged named left → ⊥
failed_told e = cc

failed_answered : {status : SmbStatus} {left : Lease} → Failed status ≡ Answered left → ⊥
failed_answered e = cc

named_is : {a b c d : ℕ} → Acknowledged a b ≡ Acknowledged c d → a ≡ c
named_is e = cc

level_is : {a b c d : ℕ} → Acknowledged a b ≡ Acknowledged c d → b ≡ d
level_is e = cc

answered_is : {a b : Lease} → Answered a ≡ Answered b → a ≡ b
answered_is e = cc

-- ---- why it is told so

-- of an open that is there
abbrev of_row : CoreState → Lists → ℕ → ℕ → Open → Plan
of_row s l level number row = ack_of l (id_of s number) level (oplock_of row.file number s.claims)

module _ (n : ℕ) (s : CoreState) (files : List (List ℕ)) (others : ℕ) (l : Lists) (conn : ℕ) (h : SmbHead) (client : List ℕ) (session : ℕ) where
  break_planned : (b : Acknowledgement) → IsInSession s l conn h client session → planned s files others l conn h (OplockBreak b) ≡ break_by s l conn client b
  unfolding planned commanded acknowledge
  break_planned b named = ap (negotiated_by (λ k. acknowledge s l conn k h b)) named.0 ∙ ap (in_session (λ k. break_by s l conn client b)) named.1

  pub ack_closed : (level : ℕ) (id : FileId) → IsInSession s l conn h client session → open_named s l conn id ≡ None → outcome_of n s files others l conn h (OplockBreak (held.Oplock level id)) ≡ (Failed FileClosed, [], l, s)
  ack_closed level id named none = ap (carried n s l) (break_planned (held.Oplock level id) named ∙ ap (on_open (ack_oplock s l level)) none)

  pub ack_leased : (level : ℕ) (id : FileId) (number : ℕ) → IsInSession s l conn h client session → open_named s l conn id ≡ Some number → (level == 0xFF) ≡ true → outcome_of n s files others l conn h (OplockBreak (held.Oplock level id)) ≡ (Failed InvalidParameter, [], l, s)
  ack_leased level id number named at lease =
      ap (carried n s l) (break_planned (held.Oplock level id) named ∙ ap (on_open (ack_oplock s l level)) at ∙ ap (λ (b : Bool). refused ((b, InvalidParameter) ∷ []) (found (open_of number l) FileClosed (of_row s l level number))) lease)

  module _ (level : ℕ) (id : FileId) (number : ℕ) (row : Open) (of : IsAckOf s l conn h client id level session number row) where
    acked_plan : (o : Option Claim) → oplock_of row.file number s.claims ≡ o → planned s files others l conn h (OplockBreak (held.Oplock level id)) ≡ ack_of l (id_of s number) level o
    acked_plan o at =
        break_planned (held.Oplock level id) of.0
        ∙ ap (on_open (ack_oplock s l level)) of.1
        ∙ ap (λ (b : Bool). refused ((b, InvalidParameter) ∷ []) (found (open_of number l) FileClosed (of_row s l level number))) of.3
        ∙ ap (λ (o : Option Open). found o FileClosed (of_row s l level number)) of.2
        ∙ ap (ack_of l (id_of s number) level) at

    rests : (above : Bool) → carried n s l (refused ((above, InvalidOplockProtocol) ∷ []) (Fails InvalidDeviceState)) ≡ (Failed (rest_status above), [], l, s)
    rests true = refl
    rests false = refl

    pub ack_bare : oplock_of row.file number s.claims ≡ None → outcome_of n s files others l conn h (OplockBreak (held.Oplock level id)) ≡ (Failed (rest_status (nat_lt 1 level)), [], l, s)
    ack_bare none = ap (carried n s l) (acked_plan None none) ∙ rests (nat_lt 1 level)

    module _ (cache : Claim) (kind : CacheKind) (at : oplock_of row.file number s.claims ≡ Some cache) where
      pub ack_resting : cache.what ≡ whats.Cache kind None → outcome_of n s files others l conn h (OplockBreak (held.Oplock level id)) ≡ (Failed (rest_status (is_refused level kind None)), [], l, s)
      ack_resting is = ap (carried n s l) (acked_plan (Some cache) at ∙ ap (ack_by l (id_of s number) level cache) is) ∙ rests (is_refused level kind None)

      module _ (running : Break) (is : cache.what ≡ whats.Cache kind (Some running)) where
        ran : (x : Outcome) → carried n s l (ack_by l (id_of s number) level cache (whats.Cache kind (Some running))) ≡ x → outcome_of n s files others l conn h (OplockBreak (held.Oplock level id)) ≡ x
        ran x done = ap (carried n s l) (acked_plan (Some cache) at ∙ ap (ack_by l (id_of s number) level cache) is) ∙ done

        pub ack_refused : is_refused level kind (Some running) ≡ true → outcome_of n s files others l conn h (OplockBreak (held.Oplock level id)) ≡ (Failed InvalidOplockProtocol, (ack s cache None).0, l, (ack s cache None).1)
        ack_refused unfit = ran _ (ran_refused n s l (id_of s number) level cache kind running _ unfit (acks n s (ack s cache None).1 l cache None (Failed InvalidOplockProtocol) (ack s cache None).0 refl))

        pub ack_taken : is_refused level kind (Some running) ≡ false → outcome_of n s files others l conn h (OplockBreak (held.Oplock level id)) ≡ (Acknowledged (id_of s number) level, (ack s cache (left_at level)).0, l, (ack s cache (left_at level)).1)
        ack_taken taken =
            ran _ (ran_taken n s l (id_of s number) level cache kind running (left_at level) level _ taken refl (sym (level_kept level kind running taken)) (acks n s (ack s cache (left_at level)).1 l cache (left_at level) (Acknowledged (id_of s number) level) (ack s cache (left_at level)).0 refl))

        pub ack_left : is_refused level kind (Some running) ≡ false → IsGood s → level_held (outcome_of n s files others l conn h (OplockBreak (held.Oplock level id))).3 row.file number ≡ level
        ack_left taken good = ap (λ (r : Outcome). level_held r.3 row.file number) (ack_taken taken) ∙ left_held s row.file number level cache kind running good at is taken

    -- ---- if it is told that this level is left

    abbrev acked : Outcome
    acked = outcome_of n s files others l conn h (OplockBreak (held.Oplock level id))

    abbrev IsTaken : ℕ → ℕ → Type 0
    IsTaken named left = (named ≡ id_of s number) × (left ≡ level) × (level_held acked.3 row.file number ≡ left)

    pub ack_told : (named left : ℕ) → IsGood s → acked.0 ≡ Acknowledged named left → IsTaken named left
    ack_told named left good told = by_found (oplock_of row.file number s.claims) refl
      where
        failed : {x : Outcome} {status : SmbStatus} → acked ≡ x → x.0 ≡ Failed status → ⊥
        failed e fails = failed_told (sym fails ∙ sym (ap (λ (y : Outcome). y.0) e) ∙ told)

        by_kept : (cache : Claim) → oplock_of row.file number s.claims ≡ Some cache → (w : What) → cache.what ≡ w → IsTaken named left
        by_kept cache at (whats.Share access deny) is = absurd (failed (ap (carried n s l) (acked_plan (Some cache) at ∙ ap (ack_by l (id_of s number) level cache) is)) refl)
        by_kept cache at (whats.Range extent exclusive) is = absurd (failed (ap (carried n s l) (acked_plan (Some cache) at ∙ ap (ack_by l (id_of s number) level cache) is)) refl)
        by_kept cache at (whats.Cache kind None) is = absurd (failed (ack_resting cache kind at is) refl)
        by_kept cache at (whats.Cache kind (Some running)) is =
            elim (cases_Bool (is_refused level kind (Some running))) [
              | inl unfit ↦ absurd (failed (ack_refused cache kind at running is unfit) refl)
              | inr taken ↦ (
                  let e : Acknowledged (id_of s number) level ≡ Acknowledged named left = sym (ap (λ (y : Outcome). y.0) (ack_taken cache kind at running is taken)) ∙ told in
                  (sym (named_is e), sym (level_is e), ack_left cache kind at running is taken good ∙ level_is e))
            ]

        by_found : (o : Option Claim) → oplock_of row.file number s.claims ≡ o → IsTaken named left
        by_found None at = absurd (failed (ack_bare at) refl)
        by_found (Some cache) at = by_kept cache at cache.what refl

  -- ---- of a lease

  module _ (lease : Lease) (named : IsInSession s l conn h client session) where
    abbrev party : Party
    party = lease_party s.names client lease.key

    abbrev of_lease : LeaseRow → Plan
    of_lease row = found (cache_of row.file party s.claims) Unsuccessful (ack_cache l lease)

    abbrev answers : Claim → Plan
    answers cache = Does (Acks cache (kind_of_state lease.state) ∷ []) l (Answered (lease_left lease))

    pub lease_unknown : lease_row (record { client = client; key = lease.key }) l ≡ None → outcome_of n s files others l conn h (OplockBreak (held.Lease lease)) ≡ (Failed ObjectNameNotFound, [], l, s)
    lease_unknown none = ap (carried n s l) (break_planned (held.Lease lease) named ∙ ap (λ (o : Option LeaseRow). found o ObjectNameNotFound of_lease) none)

    module _ (row : LeaseRow) (there : lease_row (record { client = client; key = lease.key }) l ≡ Some row) where
      lease_plan : (o : Option Claim) → cache_of row.file party s.claims ≡ o → planned s files others l conn h (OplockBreak (held.Lease lease)) ≡ found o Unsuccessful (ack_cache l lease)
      lease_plan o at = break_planned (held.Lease lease) named ∙ ap (λ (r : Option LeaseRow). found r ObjectNameNotFound of_lease) there ∙ ap (λ (x : Option Claim). found x Unsuccessful (ack_cache l lease)) at

      pub lease_bare : cache_of row.file party s.claims ≡ None → outcome_of n s files others l conn h (OplockBreak (held.Lease lease)) ≡ (Failed Unsuccessful, [], l, s)
      lease_bare none = ap (carried n s l) (lease_plan None none)

      module _ (cache : Claim) (kind : CacheKind) (at : cache_of row.file party s.claims ≡ Some cache) where
        pub lease_resting : cache.what ≡ whats.Cache kind None → outcome_of n s files others l conn h (OplockBreak (held.Lease lease)) ≡ (Failed Unsuccessful, [], l, s)
        lease_resting is = ap (carried n s l) (lease_plan (Some cache) at ∙ ap (λ (w : What). found (running_of w) Unsuccessful (λ r. refused ((not (may_keep lease.state r), RequestNotAccepted) ∷ []) (answers cache))) is)

        module _ (running : Break) (is : cache.what ≡ whats.Cache kind (Some running)) where
          lease_ran : (may : Bool) → may_keep lease.state running ≡ may → planned s files others l conn h (OplockBreak (held.Lease lease)) ≡ refused ((not may, RequestNotAccepted) ∷ []) (answers cache)
          lease_ran may keeps =
              lease_plan (Some cache) at
              ∙ ap (λ (w : What). found (running_of w) Unsuccessful (λ r. refused ((not (may_keep lease.state r), RequestNotAccepted) ∷ []) (answers cache))) is
              ∙ ap (λ (b : Bool). refused ((not b, RequestNotAccepted) ∷ []) (answers cache)) keeps

          pub lease_refused : may_keep lease.state running ≡ false → outcome_of n s files others l conn h (OplockBreak (held.Lease lease)) ≡ (Failed RequestNotAccepted, [], l, s)
          lease_refused keeps = ap (carried n s l) (lease_ran false keeps)

          pub lease_taken : may_keep lease.state running ≡ true
              → outcome_of n s files others l conn h (OplockBreak (held.Lease lease)) ≡ (Answered (lease_left lease), (ack s cache (kind_of_state lease.state)).0, l, (ack s cache (kind_of_state lease.state)).1)
          lease_taken keeps =
              let to = kind_of_state lease.state in
              ap (carried n s l) (lease_ran true keeps) ∙ acks n s (ack s cache to).1 l cache to (Answered (lease_left lease)) (ack s cache to).0 refl

          pub lease_holds : may_keep lease.state running ≡ true → IsGood s → state_of (first_kind (held_at (outcome_of n s files others l conn h (OplockBreak (held.Lease lease))).3 (CacheOf row.file party))) ≡ lease.state
          lease_holds keeps good =
              ap (λ (r : Outcome). state_of (first_kind (held_at r.3 (CacheOf row.file party)))) (lease_taken keeps)
              ∙ ap state_of (kind_held s row.file party cache kind running (kind_of_state lease.state) good at is (kept_within lease.state running keeps))
              ∙ state_kept lease.state running keeps

      -- ---- if it is told that this state is left

      abbrev answered : Outcome
      answered = outcome_of n s files others l conn h (OplockBreak (held.Lease lease))

      abbrev IsLeft : Lease → Type 0
      IsLeft left = (left.key ≡ lease.key) × (left.state ≡ lease.state) × (state_of (first_kind (held_at answered.3 (CacheOf row.file party))) ≡ left.state)

      pub lease_told : (left : Lease) → IsGood s → answered.0 ≡ Answered left → IsLeft left
      lease_told left good told = by_found (cache_of row.file party s.claims) refl
        where
          failed : {x : Outcome} {status : SmbStatus} → answered ≡ x → x.0 ≡ Failed status → ⊥
          failed e fails = failed_answered (sym fails ∙ sym (ap (λ (y : Outcome). y.0) e) ∙ told)

          bare : (cache : Claim) (w : What) → cache_of row.file party s.claims ≡ Some cache → cache.what ≡ w → running_of w ≡ None → answered ≡ (Failed Unsuccessful, [], l, s)
          bare cache w at is none =
              ap (carried n s l) (
              lease_plan (Some cache) at
              ∙ ap (λ (x : What). found (running_of x) Unsuccessful (λ r. refused ((not (may_keep lease.state r), RequestNotAccepted) ∷ []) (answers cache))) is
              ∙ ap (λ (o : Option Break). found o Unsuccessful (λ r. refused ((not (may_keep lease.state r), RequestNotAccepted) ∷ []) (answers cache))) none)

          by_kept : (cache : Claim) → cache_of row.file party s.claims ≡ Some cache → (w : What) → cache.what ≡ w → IsLeft left
          by_kept cache at (whats.Share access deny) is = absurd (failed (bare cache (whats.Share access deny) at is refl) refl)
          by_kept cache at (whats.Range extent exclusive) is = absurd (failed (bare cache (whats.Range extent exclusive) at is refl) refl)
          by_kept cache at (whats.Cache kind None) is = absurd (failed (bare cache (whats.Cache kind None) at is refl) refl)
          by_kept cache at (whats.Cache kind (Some running)) is =
              elim (cases_Bool (may_keep lease.state running)) [
                | inr unfit ↦ absurd (failed (lease_refused cache kind at running is unfit) refl)
                | inl keeps ↦ (
                    let e : lease_left lease ≡ left = answered_is (sym (ap (λ (y : Outcome). y.0) (lease_taken cache kind at running is keeps)) ∙ told) in
                    (sym (ap (λ (x : Lease). x.key) e), sym (ap (λ (x : Lease). x.state) e), lease_holds cache kind at running is keeps good ∙ ap (λ (x : Lease). x.state) e))
              ]

          by_found : (o : Option Claim) → cache_of row.file party s.claims ≡ o → IsLeft left
          by_found None at = absurd (failed (lease_bare at) refl)
          by_found (Some cache) at = by_kept cache at cache.what refl
