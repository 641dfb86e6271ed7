-- The check of a stateid (RFC 7530 9.1.4, 9.1.7), and what opens come to: OPEN_CONFIRM, OPEN_DOWNGRADE, CLOSE and DELEGRETURN (RFC 7530 16.18, 16.19, 16.2, 16.6).
use Rattle.std.specs.Prelude.{◌≡◌, ℕ, Bool, true, false, not, ◌&&◌, ◌||◌, ◌==◌, nat_le, nat_lt, if◌then◌else◌, List, [], ◌∷◌, ◌++◌, Option, Some, None, IsSome, Result, Ok, Err}
use Rattle.std.specs.Bool.{beq}
use Rattle.std.specs.List.{filter, find}
use Rattle.xl_matrix.specs.declared.claim.Claim.{Claim}
use Rattle.xl_matrix.specs.Rights.{rights_lie_within}
use Rattle.xl_nfs.specs.declared.basics.Stateid.{Stateid}
use Rattle.xl_nfs.specs.declared.opens.CloseArgs.{CloseArgs}
use Rattle.xl_nfs.specs.declared.opens.OpenConfirmArgs.{OpenConfirmArgs}
use Rattle.xl_nfs.specs.declared.status.NfsStatus.{NfsStatus}
use Rattle.xl_nfs.specs.declared.status.NfsStatus.TheVariants as statuses
use Rattle.xl_nfs_state.specs.State.{NfsLists, with_stateids, without, is_client, is_owner, is_stateid, is_kept, is_whose}
use Rattle.xl_nfs_state.specs.Verdict.{verdict, next_seqid}
use Rattle.xl_nfs_state.specs.declared.client.ClientRow.{ClientRow}
use Rattle.xl_nfs_state.specs.declared.owner.OwnerKind.{OwnerKind}
use Rattle.xl_nfs_state.specs.declared.owner.OwnerKind.TheVariants as kinds
use Rattle.xl_nfs_state.specs.declared.owner.OwnerRow.{OwnerRow}
use Rattle.xl_nfs_state.specs.declared.owner.SeqidState.{SeqidState}
use Rattle.xl_nfs_state.specs.declared.seqid.SeqidVerdict.{SeqidVerdict}
use Rattle.xl_nfs_state.specs.declared.seqid.SeqidVerdict.TheVariants as verdicts
use Rattle.xl_nfs_state.specs.declared.stateid.Holder.{Holder}
use Rattle.xl_nfs_state.specs.declared.stateid.Holder.TheVariants as holders
use Rattle.xl_nfs_state.specs.declared.stateid.StateidRow.{StateidRow}
use Rattle.xl_nfs_state.specs.declared.stateid.Whose.TheVariants as whose
use Rattle.xl_core.specs.Deeds.{Deed, Asks}
use Rattle.xl_core.specs.State.{CoreState}
use Rattle.xl_nfs_opens.specs.Asks.{all_ones, unlock_ask}
use Rattle.xl_nfs_opens.specs.Checks.{found, refused_by, failing}
use Rattle.xl_nfs_opens.specs.Opens.{share_read, share_both, all_rooms, cache_held, rights_of, repeated, share_held, gives, freed, stood}
use Rattle.xl_plan.specs.Plans.{Does, Behind}
use Rattle.xl_nfs_opens.specs.Operations.{op_close, op_open_confirm}
use Rattle.xl_nfs_opens.specs.Plans.{Plan, status_of}
use Rattle.xl_nfs_opens.specs.Renewing.{stateid_of, number_of, state_client, renewing}
use Rattle.xl_nfs_opens.specs.Results.{spelled}
use Rattle.xl_nfs_opens.specs.Seqids.{advances, counted}
use Rattle.xl_nfs_opens.specs.declared.opener.Checked.{Checked}
use Rattle.xl_nfs_opens.specs.declared.opener.Checked.TheVariants.{Refused, Repeated, Passed}
use Rattle.xl_nfs_opens.specs.declared.opener.Opener.{Opener}
use Rattle.xl_nfs_opens.specs.declared.told.Told.{Told}
use Rattle.xl_nfs_opens.specs.declared.told.Told.TheVariants.{Ended, State}

-- ---- the check of a stateid

-- the row of a stateid of this start, on the current file
unfoldable pub state_found : CoreState → NfsLists → Option ℕ → Stateid → Result StateidRow NfsStatus
state_found s l current stateid =
    found current (Err statuses.NoFileHandle) (λ at. found (number_of s stateid.other) (Err statuses.StaleStateid) (λ number. found (find (is_stateid number) l.stateids) (Err statuses.BadStateid) (λ r. if r.file == at then Ok r else Err statuses.BadStateid)))

-- the owner of an open, or of locks, that a stateid is of
abbrev pub owner_as : OwnerKind → Holder → Option ℕ
owner_as kinds.Open (holders.Open owner) = Some owner
owner_as kinds.Lock (holders.Lock owner under opener) = Some owner
owner_as _ _ = None

-- by the owner's seqid; an open that was closed is known to the repeat of its CLOSE alone (NFS-22)
abbrev pub seqid_checked : StateidRow → ℕ → SeqidState → SeqidVerdict → Checked
seqid_checked r owner seqids verdicts.Repeat = Repeated owner
seqid_checked r owner seqids verdicts.Next = if r.standing.closed then Refused statuses.BadStateid else Passed r owner seqids
seqid_checked r owner seqids _ = Refused (if r.standing.closed then statuses.BadStateid else statuses.BadSeqid)

abbrev pub state_checked : OwnerKind → NfsLists → ℕ → ℕ → Result StateidRow NfsStatus → Checked
state_checked kind l op seqid (Err status) = Refused status
state_checked kind l op seqid (Ok r) =
    found (owner_as kind r.holder) (Refused statuses.BadStateid) (λ owner. found (find (is_owner owner) l.owners) (Refused statuses.BadStateid) (λ o. seqid_checked r owner o.seqids (verdict (Some o.seqids) op seqid)))

-- what is found for a stateid of an owner of this kind, and what the owner's seqid says
unfoldable pub checked_as : OwnerKind → CoreState → NfsLists → Option ℕ → ℕ → ℕ → Stateid → Checked
checked_as kind s l current op seqid stateid = state_checked kind l op seqid (state_found s l current stateid)

-- the same of an open
abbrev pub checked : CoreState → NfsLists → Option ℕ → ℕ → ℕ → Stateid → Checked
checked s l current op seqid stateid = checked_as kinds.Open s l current op seqid stateid

-- the stateid's own seqid, and whether its owner was confirmed, as it has to be, or not
abbrev pub standing_checks : StateidRow → SeqidState → ℕ → Bool → List (Bool × NfsStatus)
standing_checks r seqids seqid confirmed =
    (nat_lt seqid r.standing.seqid, statuses.OldStateid) ∷ (nat_lt r.standing.seqid seqid, statuses.BadStateid) ∷ (not (beq seqids.confirmed confirmed), statuses.BadStateid) ∷ []

unfoldable pub standing_fault : StateidRow → SeqidState → ℕ → Bool → Option NfsStatus
standing_fault r seqids seqid confirmed = failing (standing_checks r seqids seqid confirmed)

-- ---- a request that counts with its owner's seqid

-- it is refused, and nothing is kept of it; if it comes again, what was kept is the answer; else this becomes of it
abbrev pub counts : CoreState → NfsLists → Option ℕ → (StateidRow → ℕ → SeqidState → Plan) → Checked → Plan
counts s l current rest (Refused status) = Does [] l (Ended status, current)
counts s l current rest (Repeated owner) = repeated s l current (find (is_kept owner) l.kept)
counts s l current rest (Passed r owner seqids) = rest r owner seqids

-- ---- what is remembered of a request on an open

-- the owner's requests have come this far, with this one
abbrev pub next_seqids : ℕ → ℕ → Bool → Option ℕ → SeqidState
next_seqids op seqid confirmed closed = record { seqid = seqid; op = op; confirmed = confirmed; closed = closed }

-- it was answered so, and is kept if that counts
abbrev pub told_lists : NfsLists → ℕ → SeqidState → ℕ → ℕ → Told → NfsLists
told_lists l owner seqids op seqid told =
    if advances (status_of told) then counted owner seqids.closed (next_seqids op seqid seqids.confirmed None) (spelled op told) l else l

-- it failed so
abbrev pub failed_lists : NfsLists → ℕ → SeqidState → ℕ → ℕ → NfsStatus → NfsLists
failed_lists l owner seqids op seqid status = told_lists l owner seqids op seqid (Ended status)

abbrev pub failed : NfsLists → Option ℕ → ℕ → SeqidState → ℕ → ℕ → NfsStatus → Plan
failed l current owner seqids op seqid status = Does [] (failed_lists l owner seqids op seqid status) (Ended status, current)

-- the stateid as it is then
abbrev pub state_told : CoreState → StateidRow → Told
state_told s r = State (stateid_of s r.number (next_seqid r.standing.seqid))

-- it was done: the open has these rights from then on, or is closed
abbrev pub done_lists : CoreState → NfsLists → StateidRow → ℕ → SeqidState → ℕ → ℕ → Bool → Option ℕ → ℕ → ℕ → Bool → NfsLists
done_lists s l r owner seqids op seqid confirmed closing access deny closed =
    counted owner seqids.closed (next_seqids op seqid confirmed closing) (spelled op (state_told s r)) (stood r.number r access deny closed l)

-- ---- OPEN_CONFIRM

abbrev pub confirm_done : CoreState → NfsLists → Option ℕ → OpenConfirmArgs → StateidRow → ℕ → SeqidState → Option NfsStatus → Plan
confirm_done s l current a r owner seqids (Some status) = failed l current owner seqids op_open_confirm a.seqid status
confirm_done s l current a r owner seqids None = Does [] (done_lists s l r owner seqids op_open_confirm a.seqid true None r.standing.access r.standing.deny false) (state_told s r, current)

abbrev pub confirm_by : CoreState → NfsLists → Option ℕ → OpenConfirmArgs → Checked → Plan
confirm_by s l current a c = counts s l current (λ r owner seqids. confirm_done s l current a r owner seqids (standing_fault r seqids a.stateid.seqid false)) c

unfoldable pub open_confirm : CoreState → NfsLists → Option ℕ → OpenConfirmArgs → Plan
open_confirm s l current a = renewing l (state_client s l a.stateid) (λ t. confirm_by t l current a (checked t l current op_open_confirm a.seqid a.stateid))

-- ---- OPEN_DOWNGRADE

-- an access is left, and both lie within what the open has
unfoldable pub can_weaken : StateidRow → ℕ → ℕ → Bool
can_weaken r access deny =
    nat_le share_read access && (nat_le access share_both && (nat_le deny share_both && (rights_lie_within (rights_of access) (rights_of r.standing.access) && rights_lie_within (rights_of deny) (rights_of r.standing.deny))))

-- ---- the owner's share in the core

abbrev pub opener_named : Option ClientRow → Option OwnerRow → Option Opener
opener_named (Some c) (Some o) = Some (record { client = c.number; id = c.id; verifier = c.details.verifier; kind = o.name.kind; owner = o.name.owner })
opener_named _ _ = None

-- the owner of an open, or of locks
unfoldable pub opener_by : NfsLists → ℕ → ℕ → Option Opener
opener_by l client owner = opener_named (find (is_client client true) l.clients) (find (is_owner owner) l.owners)

abbrev pub share_by_opener : CoreState → ℕ → Option Opener → Option Claim
share_by_opener s file None = None
share_by_opener s file (Some o) = share_held s o file

-- the share that stands for an open
abbrev pub share_of_open : CoreState → NfsLists → StateidRow → ℕ → Option Claim
share_of_open s l r owner = share_by_opener s r.file (opener_by l r.client owner)

-- ---- the locks under an open

-- the owner of locks
abbrev pub lock_owner : Holder → ℕ
lock_owner (holders.Lock owner under opener) = owner
lock_owner _ = 0

-- a lock owner gives up all bytes of the file
abbrev pub gives_up : ℕ → Option Opener → List Deed
gives_up file None = []
gives_up file (Some o) = Asks all_rooms (unlock_ask o file 0 all_ones) ∷ []

-- so does each owner of these locks, which are under the open (NFS-31)
abbrev pub ends_locks : NfsLists → StateidRow → List StateidRow → List Deed
ends_locks l r [] = []
ends_locks l r (q ∷ qs) = gives_up r.file (opener_by l r.client (lock_owner q.holder)) ++ ends_locks l r qs

abbrev pub locks_under : NfsLists → ℕ → List StateidRow
locks_under l number = filter (is_whose (whose.Under number)) l.stateids

-- the lists without the locks under the open of this number
abbrev pub locks_gone : ℕ → NfsLists → NfsLists
locks_gone number l = with_stateids l (without (is_whose (whose.Under number)) l.stateids)

-- ---- CLOSE

-- the share goes, and the stateids of the locks; the open is closed
abbrev pub share_closed : CoreState → NfsLists → Option ℕ → CloseArgs → StateidRow → ℕ → SeqidState → Plan
share_closed s l current a r owner seqids =
    Does (gives (share_of_open s l r owner)) (locks_gone r.number (done_lists s l r owner seqids op_close a.seqid seqids.confirmed (Some r.number) r.standing.access r.standing.deny true)) (state_told s r, current)

-- the locks under it end before its share (NFS-31)
abbrev pub close_done : CoreState → NfsLists → Option ℕ → CloseArgs → StateidRow → ℕ → SeqidState → Option NfsStatus → Plan
close_done s l current a r owner seqids (Some status) = failed l current owner seqids op_close a.seqid status
close_done s l current a r owner seqids None = Behind (ends_locks l r (locks_under l r.number)) l (λ t. share_closed t l current a r owner seqids)

abbrev pub close_by : CoreState → NfsLists → Option ℕ → CloseArgs → Checked → Plan
close_by s l current a c = counts s l current (λ r owner seqids. close_done s l current a r owner seqids (standing_fault r seqids a.stateid.seqid true)) c

unfoldable pub close : CoreState → NfsLists → Option ℕ → CloseArgs → Plan
close s l current a = renewing l (state_client s l a.stateid) (λ t. close_by t l current a (checked t l current op_close a.seqid a.stateid))

-- ---- DELEGRETURN

-- what is found for the stateid: its delegation, or why there is none
abbrev pub Returning : Type 0
Returning = Result StateidRow NfsStatus

abbrev pub delegates : Holder → Bool
delegates (holders.Delegation write) = true
delegates _ = false

-- it is of a delegation and wasn't closed; and its own seqid
abbrev pub returned_checks : StateidRow → ℕ → List (Bool × NfsStatus)
returned_checks r seqid =
    (r.standing.closed || not (delegates r.holder), statuses.BadStateid) ∷ (nat_lt seqid r.standing.seqid, statuses.OldStateid) ∷ (nat_lt r.standing.seqid seqid, statuses.BadStateid) ∷ []

abbrev pub state_returned : ℕ → Returning → Returning
state_returned seqid (Err status) = Err status
state_returned seqid (Ok r) = refused_by Err (returned_checks r seqid) (Ok r)

unfoldable pub returned : CoreState → NfsLists → Option ℕ → Stateid → Returning
returned s l current stateid = state_returned stateid.seqid (state_found s l current stateid)

-- how it ends
abbrev pub returned_status : Returning → NfsStatus
returned_status (Ok r) = statuses.Ok
returned_status (Err status) = status

abbrev pub cache_of_client : CoreState → ℕ → Option ClientRow → Option Claim
cache_of_client s file None = None
cache_of_client s file (Some c) = cache_held s c.id file

-- the cache that stands for a delegation
abbrev pub cache_of : CoreState → NfsLists → StateidRow → Option Claim
cache_of s l r = cache_of_client s r.file (find (is_client r.client true) l.clients)

-- the cache is given back, and the stateid goes (NFS-17)
abbrev pub return_done : CoreState → NfsLists → Option ℕ → Returning → Plan
return_done s l current (Err status) = Does [] l (Ended status, current)
return_done s l current (Ok r) = Does (gives (cache_of s l r)) (freed r.number l) (Ended statuses.Ok, current)

unfoldable pub deleg_return : CoreState → NfsLists → Option ℕ → Stateid → Plan
deleg_return s l current stateid = renewing l (state_client s l stateid) (λ t. return_done t l current (returned t l current stateid))

-- what was found is there: the open, which isn't closed, and its owner
abbrev pub IsChecked : NfsLists → Checked → Type 0
IsChecked l (Passed r owner seqids) = (find (is_stateid r.number) l.stateids ≡ Some r) × (IsSome (find (is_owner owner) l.owners) × (r.standing.closed ≡ false))
IsChecked l _ = Unit {0}
