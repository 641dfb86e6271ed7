-- What is said of opens.
use Rattle.std.specs.Prelude.{◌≡◌, ◌≤◌, ◌⊎◌, ◌+◌, Bool, true, false, List, [], ◌∷◌, ℕ, Option, Some, None, option_map}
use Rattle.std.specs.List.{find}
use Rattle.xl_base.specs.declared.event.Moment.{Moment}
use Rattle.xl_nfs.specs.Opens.{OpenArgsItem}
use Rattle.xl_nfs.specs.declared.basics.Stateid.{Stateid}
use Rattle.xl_nfs_state.specs.State.{NfsLists, is_owner, is_stateid}
use Rattle.xl_nfs_state.specs.declared.owner.OwnerRow.{OwnerRow}
use Rattle.xl_nfs_state.specs.declared.owner.SeqidState.{SeqidState}
use Rattle.xl_nfs_state.specs.declared.stateid.Holder.TheVariants as holders
use Rattle.xl_nfs_state.specs.declared.stateid.StateidRow.{StateidRow}
use Rattle.xl_matrix.specs.Rights.{rights_lie_within}
use Rattle.xl_matrix.specs.declared.claim.Claim.{Claim}
use Rattle.xl_matrix.specs.declared.claim.Rwd.{Rwd}
use Rattle.xl_matrix.specs.declared.claim.What.TheVariants as whats
use Rattle.xl_nfs.specs.declared.status.NfsStatus.{NfsStatus}
use Rattle.xl_nfs.specs.declared.status.NfsStatus.TheVariants as statuses
use Rattle.xl_core.specs.Askers.{asked_claim}
use Rattle.xl_core.specs.Causes.{IsClaimDue}
use Rattle.xl_core.specs.Decide.{way}
use Rattle.xl_core.specs.State.{CoreState}
use Rattle.xl_core.specs.declared.ask.Answer.TheVariants as answers
use Rattle.xl_core.specs.declared.ask.Ask.{Ask}
use Rattle.xl_nfs_opens.specs.Opens.{all_rooms, can_enter, freed, open_row, open_seqids, rights_of, share_ask}
use Rattle.xl_nfs_opens.specs.Plans.{Outcome}
use Rattle.xl_nfs_opens.specs.Renewing.{number_of as number_in_other}
use Rattle.xl_nfs_opens.specs.Seqids.{is_opener, opener_number, seated}
use Rattle.xl_nfs_opens.specs.declared.opener.Judged.{Judged}
use Rattle.xl_nfs_opens.specs.declared.opener.Judged.TheVariants as judgements
use Rattle.xl_nfs_opens.specs.declared.opener.Opener.{Opener}
use Rattle.xl_nfs_opens.specs.declared.told.Told.TheVariants.{Kept}

-- these bytes are sent again, and nothing changes: neither what is remembered nor the core
abbrev pub IsRepeated : List ℕ → NfsLists → CoreState → Outcome → Type 0
IsRepeated bytes l s r = (r.0 ≡ Kept bytes) × (r.3 ≡ l) × (r.4 ≡ s)

-- the open of the next number can come once its owner is seated
abbrev pub can_come : CoreState → NfsLists → Opener → OpenArgsItem → ℕ → Bool → Bool
can_come s l o a file confirmed = can_enter (open_row (s.counter + 1) o (opener_number o l) file a) (freed (s.counter + 1) (seated o (open_seqids a confirmed) l))

-- the stateid is of this start, and of this open, which is of the owner of number w
pub record IsOpenOf (s : CoreState) (l : NfsLists) (stateid : Stateid) (r : StateidRow) (w : ℕ) (o : OwnerRow) : Type 0 where
  pub number : number_in_other s stateid.other ≡ Some r.number
  pub found : find (is_stateid r.number) l.stateids ≡ Some r
  pub holder : r.holder ≡ holders.Open w
  pub owner : find (is_owner w) l.owners ≡ Some o

-- the owner's requests have come this far, and those of others as far as before
pub record HasCome (o : Opener) (seqids : SeqidState) (old new : NfsLists) : Type 0 where
  pub own : option_map (λ (x : OwnerRow). x.seqids) (find (is_opener o) new.owners) ≡ Some seqids
  pub others : (number : ℕ) → (number ≡ opener_number o old → ⊥) → find (is_owner number) new.owners ≡ find (is_owner number) old.owners

-- the share that an OPEN of this file asks for
abbrev pub share_claim : CoreState → Opener → OpenArgsItem → ℕ → Claim
share_claim s o a file = asked_claim (share_ask None o a file) (whats.Share (rights_of a.access) (rights_of a.deny)) s.names

-- the state in which that ask, with this wish, is judged: the breaks have begun that it begins
abbrev pub share_way : CoreState → Option Bool → Opener → OpenArgsItem → ℕ → CoreState
share_way s wish o a file = (way all_rooms s (share_ask wish o a file)).1

-- OK if grace lets the share in, nothing stands against it, there is room for it, and its client is recorded or can be, if n
-- stores of the step succeed; SHARE_DENIED if something stands against it for good, and RECLAIM_CONFLICT if anything does against
-- a reclaim; DELAY if a cache keeps it off, and RESOURCE if a limit is passed, that of the record too; GRACE while grace runs,
-- for what is no reclaim, and NO_GRACE for a reclaim while none runs; RECLAIM_BAD for a reclaim of a client that isn't recorded, or
-- is with another verifier; and SERVERFAULT if it would be OK, but the store fails that records its client. Nothing else is
-- answered (RFC 7530 9.6.2).
abbrev pub IsOpenTold : ℕ → CoreState → Ask → Claim → NfsStatus → Type 0
IsOpenTold n s a claim statuses.Ok = IsClaimDue n all_rooms s a claim (answers.Granted claim)
IsOpenTold n s a claim statuses.ShareDenied = (a.reclaim ≡ false) × ((c : Claim) × IsClaimDue n all_rooms s a claim (answers.Conflict c))
IsOpenTold n s a claim statuses.ReclaimConflict = (a.reclaim ≡ true) × ((c : Claim) × IsClaimDue n all_rooms s a claim (answers.Conflict c))
IsOpenTold n s a claim statuses.Delay = (c : Claim) × IsClaimDue n all_rooms s a claim (answers.Recall c)
IsOpenTold n s a claim statuses.Resource = (limit : ℕ) × IsClaimDue n all_rooms s a claim (answers.Full limit)
IsOpenTold n s a claim statuses.Grace = (until : Moment) × IsClaimDue n all_rooms s a claim (answers.Grace until)
IsOpenTold n s a claim statuses.NoGrace = IsClaimDue n all_rooms s a claim (answers.NoGrace s.clock)
IsOpenTold n s a claim statuses.ReclaimBad = IsClaimDue n all_rooms s a claim answers.NotRecorded
IsOpenTold n s a claim statuses.ServerFault = IsClaimDue n all_rooms s a claim answers.StoreFailed
IsOpenTold n s a claim _ = ⊥

-- an OPEN that is judged so goes on: of an owner that is confirmed, or of a new one
abbrev pub goes_on : Judged → Option Bool
goes_on judgements.Next = Some true
goes_on judgements.New = Some false
goes_on judgements.Bad = None
goes_on (judgements.Repeats number) = None
goes_on (judgements.Anew number) = None

-- one share, with this access and this deny at least
abbrev pub IsShared : Rwd → Rwd → List (Rwd × Rwd) → Type 0
IsShared access deny (share ∷ []) = (rights_lie_within access share.0 ≡ true) × (rights_lie_within deny share.1 ≡ true)
IsShared access deny _ = ⊥

-- each right that the first bits name is among those of the second: reading is 1 or 3, writing 2 or 3
abbrev pub AreOf : ℕ → ℕ → Type 0
AreOf asked had = ((asked ≡ 1) ⊎ (asked ≡ 3) → (had ≡ 1) ⊎ (had ≡ 3)) × ((asked ≡ 2) ⊎ (asked ≡ 3) → (had ≡ 2) ⊎ (had ≡ 3))

-- something is left of the open's access, no bit is asked for that has no meaning, and each that is asked for is the open's
pub record IsLess (r : StateidRow) (access deny : ℕ) : Type 0 where
  pub least : 1 ≤ access
  pub most : access ≤ 3
  pub deny_most : deny ≤ 3
  pub access_of : AreOf access r.standing.access
  pub deny_of : AreOf deny r.standing.deny
