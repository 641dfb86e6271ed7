-- OPEN (RFC 7530 16.16).
use Rattle.std.specs.Prelude.{ℕ, ◌+◌, Bool, true, false, not, ◌&&◌, ◌||◌, ◌==◌, nat_le, nat_lt, if◌then◌else◌, List, [], ◌∷◌, ◌++◌, length, Option, Some, None, is_some, Result, Ok, Err}
use Rattle.std.specs.List.{find}
use Rattle.std.specs.Option.{option_and_then}
use Rattle.xl_base.specs.declared.name.Owner.TheVariants as owners
use Rattle.xl_base.specs.declared.name.Party.{Party}
use Rattle.xl_base.specs.declared.name.Protocol.TheVariants.{Nfs}
use Rattle.xl_base.specs.declared.stable.Mark.TheVariants.{Verifier}
use Rattle.xl_matrix.specs.declared.claim.CacheKind.{CacheKind}
use Rattle.xl_matrix.specs.declared.claim.CacheKind.TheVariants as cache_kinds
use Rattle.xl_matrix.specs.declared.claim.What.{What}
use Rattle.xl_matrix.specs.declared.claim.What.TheVariants.{Cache}
use Rattle.xl_matrix.specs.declared.claim.Claim.{Claim}
use Rattle.xl_matrix.specs.declared.claim.Rwd.{Rwd}
use Rattle.xl_names.specs.Names.{number_of}
use Rattle.xl_names.specs.declared.name.Name.TheVariants.{NfsShare, NfsParty}
use Rattle.xl_nfs.specs.Opens.{OpenArgsItem, OpenHowItem, Create, Guarded, Exclusive, OpenClaimItem, Null, Previous, DelegateCurrent, DelegatePrevious}
use Rattle.xl_nfs.specs.Results.{ResultItem, OpenAnswer, nfs_result}
use Rattle.xl_nfs.specs.declared.basics.Stateid.{Stateid}
use Rattle.xl_nfs.specs.declared.opens.DelegationType.{DelegationType}
use Rattle.xl_nfs.specs.declared.opens.DelegationType.TheVariants as types
use Rattle.xl_nfs.specs.declared.status.NfsStatus.{NfsStatus}
use Rattle.xl_nfs.specs.declared.status.NfsStatus.TheVariants as statuses
use Rattle.xl_nfs_state.specs.Filed.{changed}
use Rattle.xl_nfs_state.specs.Keys.{same_place, place_of}
use Rattle.xl_nfs_state.specs.Rows.{with_standing}
use Rattle.xl_nfs_state.specs.State.{NfsLists, with_stateids, without, without_owner, is_client, is_stateid, is_kept, is_whose, owned_on, delegated_on, can_hang, opens, most_opens}
use Rattle.xl_nfs_state.specs.Verdict.{verdict, next_seqid}
use Rattle.xl_nfs_state.specs.declared.client.ClientRow.{ClientRow}
use Rattle.xl_nfs_state.specs.declared.kept.KeptRow.{KeptRow}
use Rattle.xl_nfs_state.specs.declared.owner.OwnerKind.TheVariants as kinds
use Rattle.xl_nfs_state.specs.declared.owner.OwnerRow.{OwnerRow}
use Rattle.xl_nfs_state.specs.declared.owner.SeqidState.{SeqidState}
use Rattle.xl_nfs_state.specs.declared.seqid.SeqidVerdict.{SeqidVerdict}
use Rattle.xl_nfs_state.specs.declared.seqid.SeqidVerdict.TheVariants as verdicts
use Rattle.xl_nfs_state.specs.declared.stateid.Holder.TheVariants as holders
use Rattle.xl_nfs_state.specs.declared.stateid.StateidRow.{StateidRow}
use Rattle.xl_nfs_state.specs.declared.stateid.Whose.TheVariants as whose
use Rattle.xl_table.specs.Relock.{either_right, is_share_of}
use Rattle.xl_wait.specs.Waiting.{no_rows}
use Rattle.xl_wait.specs.declared.waiter.Rooms.{Rooms}
use Rattle.xl_core.specs.Askers.{party_named}
use Rattle.xl_core.specs.Deeds.{Deed, GivesBack, Draws}
use Rattle.xl_core.specs.Limits.{most_hosts, most_owners}
use Rattle.xl_core.specs.Limits as limits
use Rattle.xl_core.specs.Places.{is_cache_on}
use Rattle.xl_core.specs.Settle.{give_back}
use Rattle.xl_core.specs.State.{CoreState, drawn}
use Rattle.xl_core.specs.declared.ask.Act.TheVariants.{Share}
use Rattle.xl_core.specs.declared.ask.Answer.{Answer}
use Rattle.xl_core.specs.declared.ask.Answer.TheVariants as answers
use Rattle.xl_core.specs.declared.ask.Ask.{Ask}
use Rattle.xl_core.specs.declared.ask.Who.TheVariants.{Named}
use Rattle.std.specs.List.{filter}
use Rattle.xl_core.specs.Ids.{number_in}
use Rattle.xl_nfs_opens.specs.Checks.{found, passed, unless, refused_by, failing}
use Rattle.xl_nfs_opens.specs.Files.{root, file_named}
use Rattle.xl_plan.specs.Plans.{Does, Behind, Asking}
use Rattle.xl_nfs_opens.specs.Operations.{op_open}
use Rattle.xl_nfs_opens.specs.Plans.{Plan}
use Rattle.xl_nfs_opens.specs.Renewing.{first_seqid, same_stateid, stateid_of, number_of as number_in_other, state_client, renewing}
use Rattle.xl_nfs_opens.specs.Results.{spelled}
use Rattle.xl_nfs_opens.specs.Seqids.{advances, is_short, is_opener, is_room_for, opener_number, seated, kept_for, remembered}
use Rattle.xl_nfs_opens.specs.declared.opener.Judged.{Judged}
use Rattle.xl_nfs_opens.specs.declared.opener.Judged.TheVariants as judgements
use Rattle.xl_nfs_opens.specs.declared.opener.Opener.{Opener}
use Rattle.xl_nfs_opens.specs.declared.told.Told.{Told}
use Rattle.xl_nfs_opens.specs.declared.told.Told.TheVariants.{Ended, Opened, Kept}

-- ---- access and deny: OPEN4_SHARE_ACCESS_READ, _WRITE and _BOTH, and the same of OPEN4_SHARE_DENY (RFC 7531)

abbrev pub share_none : ℕ
share_none = 0

abbrev pub share_read : ℕ
share_read = 1

abbrev pub share_write : ℕ
share_write = 2

abbrev pub share_both : ℕ
share_both = 3

abbrev pub rights_of : ℕ → Rwd
rights_of bits = record { r = (bits == share_read) || (bits == share_both); w = (bits == share_write) || (bits == share_both); d = false }

abbrev pub bits_of : Bool → Bool → ℕ
bits_of true true = share_both
bits_of false true = share_write
bits_of true false = share_read
bits_of false false = share_none

-- the rights of both
unfoldable pub either_bits : ℕ → ℕ → ℕ
either_bits a b = bits_of (either_right (rights_of a) (rights_of b)).r (either_right (rights_of a) (rights_of b)).w

-- ---- what is opened

-- a claim by a name
abbrev pub is_by_name : OpenClaimItem → Bool
is_by_name (Null name) = true
is_by_name (DelegateCurrent a) = true
is_by_name claim = false

-- a claim of a file that was open before the server's restart
abbrev pub reclaims : OpenClaimItem → Bool
reclaims (Previous type) = true
reclaims _ = false

-- a claim by a delegation from before the client's restart
abbrev pub is_from_before : OpenClaimItem → Bool
is_from_before (DelegatePrevious name) = true
is_from_before claim = false

-- something is asked for, and no other bits
abbrev pub are_bits : ℕ → ℕ → Bool
are_bits access deny = nat_le share_read access && (nat_le access share_both && nat_le deny share_both)

-- a file has to be made; an unchecked creation opens what is there (NFS-15)
abbrev pub makes : OpenHowItem → Bool
makes (Create (Guarded a)) = true
makes (Create (Exclusive v)) = true
makes how = false

abbrev pub named_file : List (List ℕ) → List ℕ → Option ℕ
named_file files name = if length name == 0 then None else file_named files name

-- the stateid is whole that of this row
abbrev pub is_stateid_of : CoreState → Stateid → Option StateidRow → Bool
is_stateid_of s stateid None = false
is_stateid_of s stateid (Some r) = same_stateid stateid (stateid_of s r.number r.standing.seqid)

-- the stateid is that of the client's delegation on the file (NFS-16)
abbrev pub is_delegation : CoreState → NfsLists → ℕ → ℕ → Stateid → Bool
is_delegation s l client file stateid = is_stateid_of s stateid (find (delegated_on client file) l.stateids)

-- the file that is claimed at this handle
abbrev pub file_claimed : List (List ℕ) → ℕ → OpenClaimItem → Option ℕ
file_claimed files at (Null name) = named_file files name
file_claimed files at (Previous type) = Some at
file_claimed files at (DelegateCurrent a) = named_file files a.name
file_claimed files at (DelegatePrevious name) = None

-- it is claimed by a stateid that isn't that of the client's delegation on it
abbrev pub is_astray : CoreState → NfsLists → ℕ → ℕ → OpenClaimItem → Bool
is_astray s l client file (DelegateCurrent a) = not (is_delegation s l client file a.stateid)
is_astray s l client file claim = false

-- A claim by a name is made in the root, and one of a file that was open before a restart at the file; no delegation
-- from before a client's restart is kept (NFS-15).
abbrev pub asked_checks : ℕ → OpenArgsItem → List (Bool × NfsStatus)
asked_checks at a =
    (is_by_name a.claim && not (at == root), statuses.NotDir)
    ∷ (reclaims a.claim && (at == root), statuses.IsDir)
    ∷ (is_from_before a.claim, statuses.NotSupp)
    ∷ (not (are_bits a.access a.deny), statuses.Inval)
    ∷ (makes a.how, statuses.NotSupp)
    ∷ []

unfoldable pub asked_fault : ℕ → OpenArgsItem → Option NfsStatus
asked_fault at a = failing (asked_checks at a)

-- the file that this client opens, or the status of the first check that fails
unfoldable pub opened_file : List (List ℕ) → CoreState → NfsLists → ℕ → ℕ → OpenArgsItem → Result ℕ NfsStatus
opened_file files s l client at a =
    unless (asked_fault at a) Err
    (found (file_claimed files at a.claim) (Err statuses.NoEnt) (λ file.
    refused_by Err ((is_astray s l client file a.claim, statuses.BadStateid) ∷ [])
    (Ok file)))

-- ---- the owner

abbrev pub judged_row : OwnerRow → SeqidVerdict → Judged
judged_row r verdicts.Repeat = judgements.Repeats r.number
judged_row r verdicts.Next = if r.seqids.confirmed then judgements.Next else judgements.Anew r.number
judged_row r verdicts.New = judgements.New
judged_row r (verdicts.Bad last) = if r.seqids.confirmed then judgements.Bad else judgements.Anew r.number

abbrev pub judged_by : ℕ → Option OwnerRow → Judged
judged_by seqid None = judgements.New
judged_by seqid (Some r) = judged_row r (verdict (Some r.seqids) op_open seqid)

-- what the owner's seqid says; one that was never confirmed and doesn't repeat is new (NFS-18)
unfoldable pub judged : NfsLists → Opener → ℕ → Judged
judged l o seqid = judged_by seqid (find (is_opener o) l.owners)

-- ---- a repeat

abbrev pub opened_by : NfsLists → Option ℕ → Option ℕ → Option ℕ
opened_by l current None = current
opened_by l current (Some number) = handle_of current (find (is_stateid number) l.stateids) where
  handle_of : Option ℕ → Option StateidRow → Option ℕ
  handle_of current None = current
  handle_of current (Some r) = Some r.file

abbrev pub handle_by : {F : Type 0} → CoreState → NfsLists → Option ℕ → Result (ResultItem × List ℕ) F → Option ℕ
handle_by s l current (Ok (OpenAnswer (Ok r), rest)) = opened_by l current (number_in_other s r.stateid.other)
handle_by s l current read = current

-- an OPEN that was OK makes its file the current one, also when it comes again; a longer result is that of a lock that was
-- denied (NFS-19)
unfoldable pub handle_again : CoreState → NfsLists → Option ℕ → List ℕ → Option ℕ
handle_again s l current bytes = if is_short bytes then handle_by s l current (nfs_result.at bytes) else current

-- the kept result is the answer, and nothing changes
abbrev pub repeated : CoreState → NfsLists → Option ℕ → Option KeptRow → Plan
repeated s l current None = Does [] l (Ended statuses.BadSeqid, current)
repeated s l current (Some k) = Does [] l (Kept k.result, handle_again s l current k.result)

-- ---- the owner's share in the core

abbrev pub share_by : List Claim → ℕ → Option ℕ → Option Claim
share_by claims file None = None
share_by claims file (Some number) = find (is_share_of file (owners.Name Nfs number)) claims

-- the owner's share on the file; it has one at most (NFS-32)
unfoldable pub share_held : CoreState → Opener → ℕ → Option Claim
share_held s o file = share_by s.claims file (number_of (NfsShare o.id o.owner) s.names)

abbrev pub gives : Option Claim → List Deed
gives None = []
gives (Some claim) = GivesBack claim ∷ []

-- the state without the share
abbrev pub given_up : CoreState → Option Claim → CoreState
given_up s None = s
given_up s (Some claim) = (give_back s claim).1

-- the owner's shares on the files of these are given back
abbrev pub gives_all : CoreState → Opener → List StateidRow → List Deed
gives_all s o [] = []
gives_all s o (r ∷ rs) = gives (share_held s o r.file) ++ gives_all (given_up s (share_held s o r.file)) o rs

-- ---- what is asked

abbrev pub all_rooms : Rooms
all_rooms = record { hosts = most_hosts; owners = most_owners; opens = limits.most_opens }

-- ---- a delegation that is wished for (RFC 7530 10.4)

-- the client can be called back
abbrev pub has_program : Option ClientRow → Bool
has_program None = false
has_program (Some c) = not (c.details.callback.program == 0)

-- whether a delegation that is claimed from before a restart is for writing, if it is one (open_delegation_type4)
abbrev pub type_claimed : DelegationType → Option Bool
type_claimed types.None = None
type_claimed types.Read = Some false
type_claimed types.Write = Some true

-- Whether the delegation is for writing that a claim may get, if it may. A file that is claimed by its name: of a
-- confirmed owner whose client can be called back, for writing if the access has that, else for reading. A file that
-- was open before a restart: what is claimed with it, by any owner and of any client (RFC 7530 9.6.2, 10.2.1) (NFS-16).
abbrev pub kind_for : Option ClientRow → OpenArgsItem → Bool → OpenClaimItem → Option Bool
kind_for client a confirmed (Null name) = if confirmed && has_program client then Some (rights_of a.access).w else None
kind_for client a confirmed (Previous type) = type_claimed type
kind_for client a confirmed (DelegateCurrent named) = None
kind_for client a confirmed (DelegatePrevious name) = None

-- the cache that a party has on the file; it has one at most
abbrev pub cache_by : List Claim → ℕ → Option Party → Option Claim
cache_by claims file None = None
cache_by claims file (Some party) = find (is_cache_on file party) claims

-- the cache on the file of the client of this id string
unfoldable pub cache_held : CoreState → List ℕ → ℕ → Option Claim
cache_held s id file = cache_by s.claims file (party_named s.names (NfsParty id))

-- the client has neither a cache nor a delegation on the file
abbrev pub has_none : CoreState → NfsLists → Opener → ℕ → Bool
has_none s l o file = not (is_some (cache_held s o.id file)) && not (is_some (find (delegated_on o.client file) l.stateids))

-- nothing is wished for if the client has one there (NFS-16)
abbrev pub unless_held : CoreState → NfsLists → Opener → ℕ → Option Bool → Option Bool
unless_held s l o file None = None
unless_held s l o file (Some write) = if has_none s l o file then Some write else None

-- the delegation for which an OPEN wishes: whether it is for writing
unfoldable pub wish_of : CoreState → NfsLists → Opener → OpenArgsItem → Bool → ℕ → Option Bool
wish_of s l o a confirmed file = unless_held s l o file (kind_for (find (is_client o.client true) l.clients) a confirmed a.claim)

abbrev pub wished_kinds : Option Bool → List CacheKind
wished_kinds None = []
wished_kinds (Some write) = (if write then cache_kinds.WriteDeleg else cache_kinds.ReadDeleg) ∷ []

-- The share of an owner, which never waits, with this wish: of a reclaim the delegation that is claimed with it, so that both are
-- there or neither (RFC 7530 10.2.1) (NFS-34). Its client is recorded with its verifier before the grant (RFC 7530 9.1.1, 9.6.3). The
-- rows that it adds are counted before (CORE-6).
unfoldable pub share_ask : Option Bool → Opener → OpenArgsItem → ℕ → Ask
share_ask wish o a file = record {
  file = file;
  owner = Named (NfsShare o.id o.owner);
  party = Named (NfsParty o.id);
  act = Share (rights_of a.access) (rights_of a.deny);
  wish = wished_kinds wish;
  conn = None;
  blocking = false;
  awaits = false;
  reclaim = reclaims a.claim;
  monitored = true;
  mark = Some (Verifier o.verifier);
  rows = no_rows;
}

-- whether a delegation is for writing, if this is one
abbrev pub delegation_of : What → Option Bool
delegation_of (Cache cache_kinds.WriteDeleg running) = Some true
delegation_of (Cache cache_kinds.ReadDeleg running) = Some false
delegation_of what = None

abbrev pub delegation_in : Option Claim → Option Bool
delegation_in None = None
delegation_in (Some cache) = delegation_of cache.what

-- the wish was granted if the client has a delegation there then, which is sent as what it is
abbrev pub granted_wish : CoreState → Opener → ℕ → Option Bool → Option Bool
granted_wish s o file None = None
granted_wish s o file (Some write) = delegation_in (cache_held s o.id file)

abbrev pub is_granted : Answer → Bool
is_granted (answers.Granted c) = true
is_granted answer = false

-- the status by the core's answer (NFS-33)
abbrev pub answer_status : Bool → Answer → NfsStatus
answer_status reclaim (answers.Granted c) = statuses.Ok
answer_status reclaim (answers.Conflict c) = if reclaim then statuses.ReclaimConflict else statuses.ShareDenied
answer_status reclaim (answers.Queued id) = statuses.Delay
answer_status reclaim (answers.Recall c) = statuses.Delay
answer_status reclaim (answers.Grace until) = statuses.Grace
answer_status reclaim (answers.NoGrace clock) = statuses.NoGrace
answer_status reclaim answers.NotRecorded = statuses.ReclaimBad
answer_status reclaim (answers.Full limit) = statuses.Resource
answer_status reclaim answers.NotHeld = statuses.ServerFault
answer_status reclaim answers.StoreFailed = statuses.ServerFault

-- ---- what is remembered

-- the owner's requests have come this far; a reclaim confirms its owner (NFS-18)
abbrev pub open_seqids : OpenArgsItem → Bool → SeqidState
open_seqids a confirmed = record { seqid = a.seqid; op = op_open; confirmed = confirmed; closed = None }

-- of a request that is refused so
abbrev pub refused_lists : Opener → OpenArgsItem → Bool → NfsStatus → NfsLists → NfsLists
refused_lists o a confirmed status l = if advances status then remembered o (open_seqids a confirmed) (spelled op_open (Ended status)) l else l

abbrev pub refused : NfsLists → Option ℕ → Opener → OpenArgsItem → Bool → NfsStatus → Plan
refused l current o a confirmed status = Does [] (refused_lists o a confirmed status l) (Ended status, current)

abbrev pub live : Option StateidRow → Option StateidRow
live None = None
live (Some r) = if r.standing.closed then None else Some r

-- the open that the owner has on the file
abbrev pub open_held : NfsLists → Opener → ℕ → Option StateidRow
open_held l o file = live (option_and_then (λ r. find (owned_on r.number file) l.stateids) (find (is_opener o) l.owners))

-- there is room for the owner and for the open, beside so many opens of others (NFS-20)
abbrev pub has_room : ℕ → NfsLists → Opener → ℕ → Bool
has_room others l o file = is_room_for o l && (is_some (open_held l o file) || nat_lt (opens l.stateids + others) most_opens)

-- the open of this number, new
abbrev pub open_row : ℕ → Opener → ℕ → ℕ → OpenArgsItem → StateidRow
open_row number o owner file a = record {
  number = number;
  client = o.client;
  file = file;
  holder = holders.Open owner;
  standing = record { seqid = first_seqid; access = a.access; deny = a.deny; closed = false };
}

-- what a stateid stands on is there, nothing else stands in its place, and there is room for it
abbrev pub can_enter : StateidRow → NfsLists → Bool
can_enter r l = not (is_some (find (λ s. same_place (place_of r) (place_of s)) l.stateids)) && (can_hang l r && nat_lt (opens l.stateids) most_opens)

-- what stands under this number gone
abbrev pub freed : ℕ → NfsLists → NfsLists
freed number l = with_stateids l (without (is_whose (whose.Stateid number)) l.stateids)

abbrev pub entered_in : StateidRow → NfsLists → NfsLists
entered_in r l = if can_enter r l then with_stateids l (l.stateids ++ r ∷ []) else l

-- an open comes, and nothing stays that stood under its number before
unfoldable pub entered : StateidRow → NfsLists → NfsLists
entered r l = entered_in r (freed r.number l)

-- the client's delegation of this number on the file, new
abbrev pub delegation_row : ℕ → Opener → ℕ → Bool → StateidRow
delegation_row number o file write = record {
  number = number;
  client = o.client;
  file = file;
  holder = holders.Delegation write;
  standing = record { seqid = first_seqid; access = share_none; deny = share_none; closed = false };
}

-- nothing has its number or stands in its place, and its client is confirmed
abbrev pub can_stand : StateidRow → NfsLists → Bool
can_stand r l = not (is_some (find (is_stateid r.number) l.stateids)) && (not (is_some (find (λ s. same_place (place_of r) (place_of s)) l.stateids)) && can_hang l r)

-- a delegation comes
unfoldable pub delegated_in : StateidRow → NfsLists → NfsLists
delegated_in r l = if can_stand r l then with_stateids l (l.stateids ++ r ∷ []) else l

-- if one is granted, under the next number (NFS-16)
abbrev pub delegated : CoreState → Opener → ℕ → Option Bool → NfsLists → NfsLists
delegated s o file None l = l
delegated s o file (Some write) l = delegated_in (delegation_row (s.counter + 1) o file write) l

-- the number that its stateid takes
abbrev pub draws_for : Option Bool → List Deed
draws_for None = []
draws_for (Some write) = Draws ∷ []

abbrev pub drawn_for : Option Bool → CoreState → CoreState
drawn_for None s = s
drawn_for (Some write) s = drawn s

-- what is sent of it: its stateid, and whether it is for writing
abbrev pub delegation_told : CoreState → Option Bool → Option (Stateid × Bool)
delegation_told s None = None
delegation_told s (Some write) = Some (stateid_of (drawn s) (s.counter + 1) first_seqid, write)

-- what changes of this stateid
abbrev pub stood : ℕ → StateidRow → ℕ → ℕ → Bool → NfsLists → NfsLists
stood number r access deny closed l =
    with_stateids l (changed (is_stateid number) (with_standing (record { seqid = next_seqid r.standing.seqid; access = access; deny = deny; closed = closed })) l.stateids)

-- OPEN4_RESULT_CONFIRM (RFC 7531)
abbrev pub open_result_confirm : ℕ
open_result_confirm = 2

abbrev pub no_flags : ℕ
no_flags = 0

abbrev pub flags_of : Bool → ℕ
flags_of confirmed = if confirmed then no_flags else open_result_confirm

abbrev pub opened_told : CoreState → ℕ → ℕ → Bool → Option (Stateid × Bool) → Told
opened_told s number seqid confirmed delegation = Opened (stateid_of s number seqid) (flags_of confirmed) delegation

-- the owner has no open on the file: a new one takes the next number, and a delegation the one behind it (NFS-20)
abbrev pub granted_new : CoreState → NfsLists → Opener → OpenArgsItem → ℕ → Bool → Option Bool → Plan
granted_new s l o a file confirmed write =
    let number = opener_number o l in
    let t = drawn s in
    let told = opened_told (drawn_for write t) (s.counter + 1) first_seqid confirmed (delegation_told t write) in
    Does (Draws ∷ draws_for write) (kept_for number (spelled op_open told) (delegated t o file write (entered (open_row (s.counter + 1) o number file a) (seated o (open_seqids a confirmed) l)))) (told, Some file)

-- it has one: that has the rights of both from then on
abbrev pub granted_more : CoreState → NfsLists → Opener → OpenArgsItem → ℕ → Bool → Option Bool → StateidRow → Plan
granted_more s l o a file confirmed write r =
    let number = opener_number o l in
    let told = opened_told (drawn_for write s) r.number (next_seqid r.standing.seqid) confirmed (delegation_told s write) in
    Does (draws_for write) (kept_for number (spelled op_open told) (delegated s o file write (seated o (open_seqids a confirmed) (stood r.number r (either_bits r.standing.access a.access) (either_bits r.standing.deny a.deny) false l)))) (told, Some file)

abbrev pub granted_by : CoreState → NfsLists → Opener → OpenArgsItem → ℕ → Bool → Option Bool → Option StateidRow → Plan
granted_by s l o a file confirmed write None = granted_new s l o a file confirmed write
granted_by s l o a file confirmed write (Some r) = granted_more s l o a file confirmed write r

-- what becomes of the request with this wish by the core's answer
abbrev pub answered : NfsLists → Option ℕ → Opener → OpenArgsItem → ℕ → Bool → Option Bool → Answer → CoreState → Plan
answered l current o a file confirmed wish answer s =
    if is_granted answer then granted_by s l o a file (confirmed || reclaims a.claim) (granted_wish s o file wish) (open_held l o file)
    else refused l current o a confirmed (answer_status (reclaims a.claim) answer)

-- ---- the checks in their order

-- the share is asked, with this wish
abbrev pub open_wish : NfsLists → Option ℕ → Opener → OpenArgsItem → Bool → ℕ → Option Bool → Plan
open_wish l current o a confirmed file wish = Asking all_rooms (share_ask wish o a file) (answered l current o a file confirmed wish)

abbrev pub open_on : ℕ → CoreState → NfsLists → Option ℕ → Opener → OpenArgsItem → Bool → ℕ → Plan
open_on others s l current o a confirmed file =
    refused_by (refused l current o a confirmed) ((not (has_room others l o file), statuses.Resource) ∷ [])
    (open_wish l current o a confirmed file (wish_of s l o a confirmed file))

abbrev pub open_by : ℕ → CoreState → NfsLists → Option ℕ → Opener → OpenArgsItem → Bool → Result ℕ NfsStatus → Plan
open_by others s l current o a confirmed file = passed file (refused l current o a confirmed) (open_on others s l current o a confirmed)

-- of an owner that is confirmed, or new
unfoldable pub open_as : List (List ℕ) → ℕ → CoreState → NfsLists → Option ℕ → ℕ → Opener → OpenArgsItem → Bool → Plan
open_as files others s l current at o a confirmed = open_by others s l current o a confirmed (opened_file files s l o.client at a)

abbrev pub open_judged : List (List ℕ) → ℕ → CoreState → NfsLists → Option ℕ → ℕ → Opener → OpenArgsItem → Judged → Plan
open_judged files others s l current at o a judgements.Bad = Does [] l (Ended statuses.BadSeqid, current)
open_judged files others s l current at o a (judgements.Repeats number) = repeated s l current (find (is_kept number) l.kept)
open_judged files others s l current at o a (judgements.Anew number) =
    Behind (gives_all s o (filter (is_whose (whose.Owner number)) l.stateids)) (without_owner number l) (λ t. open_as files others t (without_owner number l) current at o a false)
open_judged files others s l current at o a judgements.New = open_as files others s l current at o a false
open_judged files others s l current at o a judgements.Next = open_as files others s l current at o a true

abbrev pub opener_of : ClientRow → OpenArgsItem → Opener
opener_of c a = record { client = c.number; id = c.id; verifier = c.details.verifier; kind = kinds.Open; owner = a.owner.owner }

abbrev pub open_of : List (List ℕ) → ℕ → CoreState → NfsLists → Option ℕ → ℕ → OpenArgsItem → Option ClientRow → Plan
open_of files others s l current at a client =
    found client (Does [] l (Ended statuses.StaleClientId, current)) (λ c. open_judged files others s l current at (opener_of c a) a (judged l (opener_of c a) a.seqid))

-- the confirmed client of a clientid
abbrev pub client_in : CoreState → NfsLists → ℕ → Option ClientRow
client_in s l clientid = option_and_then (λ number. find (is_client number true) l.clients) (number_in s clientid)

abbrev pub open_at : List (List ℕ) → ℕ → CoreState → NfsLists → OpenArgsItem → Option ℕ → Plan
open_at files others s l a current =
    found current (Does [] l (Ended statuses.NoFileHandle, current)) (λ at. open_of files others s l current at a (client_in s l a.owner.clientid))

-- the client that a delegation names
abbrev pub claim_client : CoreState → NfsLists → OpenClaimItem → Option ℕ
claim_client s l (DelegateCurrent a) = state_client s l a.stateid
claim_client s l _ = None

-- behind the renewal of that client
unfoldable pub open_claimed : List (List ℕ) → ℕ → CoreState → NfsLists → Option ℕ → OpenArgsItem → Plan
open_claimed files others s l current a = renewing l (claim_client s l a.claim) (λ t. open_at files others t l a current)

-- OPEN: the client, and that of the delegation by which a file is claimed, are renewed before (NFS-15)
unfoldable pub open_file : List (List ℕ) → ℕ → CoreState → NfsLists → Option ℕ → OpenArgsItem → Plan
open_file files others s l current a = renewing l (number_in s a.owner.clientid) (λ t. open_claimed files others t l current a)
