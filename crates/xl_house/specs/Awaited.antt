-- Requests of SMB that wait: each is a waiter of the core at a free moment, and each waiter of an SMB open has its
-- request; and what a turn grants to an SMB open has its open behind its round, and is answered (MS-SMB2 3.3.4.2, 3.3.4.4,
-- 3.3.5.9).
use Rattle.std.specs.Prelude.{◌≡◌, ℕ, true, List, [], ◌∷◌, ◌++◌, map, Some}
use Rattle.std.specs.List.{AllByRecursion}
use Rattle.xl_base.specs.Lists.{IsIn}
use Rattle.xl_base.specs.declared.event.Event.{Event}
use Rattle.xl_base.specs.declared.event.Kind.TheVariants.{Smb}
use Rattle.xl_base.specs.declared.journal.Exports.{Exports}
use Rattle.xl_base.specs.declared.name.Owner.TheVariants as owners
use Rattle.xl_base.specs.declared.name.Party.{Party}
use Rattle.xl_matrix.specs.declared.claim.Claim.{Claim}
use Rattle.xl_smb_state.specs.Links.{AreDistinct, IsSound}
use Rattle.xl_smb_state.specs.State.{Lists, open_of, waiting_of}
use Rattle.xl_smb_state.specs.declared.row.Request.{Request}
use Rattle.xl_smb_state.specs.declared.row.Request.TheVariants as request
use Rattle.xl_smb_state.specs.declared.row.Waiting.{Waiting}
use Rattle.xl_core.specs.State.{CoreState}
use Rattle.xl_core.specs.declared.ask.Answer.TheVariants.{Granted}
use Rattle.xl_core.specs.declared.ask.Effect.{Effect}
use Rattle.xl_core.specs.declared.ask.Effect.TheVariants.{Served}
use Rattle.xl_smb_locks.specs.Finals.{final_outs}
use Rattle.xl_smb_locks.specs.declared.finals.FinalReply.{FinalReply}
use Rattle.xl_smb_locks.specs.declared.finals.FinalReply.TheVariants.{Locked, Opened}
use Rattle.xl_core.specs.Ids.{id_of}
use Rattle.xl_smb_locks.specs.Levels.{caching}
use Rattle.xl_smb_laws.specs.TiedRows.{AreSmbTied}
use Rattle.xl_smb_laws.specs.WaitingRequests.{AreAwaited, AreKept}
use Rattle.xl_front_smb.specs.Checks.{is_open_on}
use Rattle.xl_front_smb.specs.Laws.{IsLeased}
use Rattle.xl_house.specs.Done.{Round, rounds}
use Rattle.xl_house.specs.Lawful.{Law}
use Rattle.xl_house.specs.Owed.{IsGoneBy}
use Rattle.xl_house.specs.State.{Whole}
use Rattle.xl_house.specs.Telling.{TurnTaken, all_shown, turn_sent, framed}

-- each request that waits in SMB's lists is a waiter of the core, and each waiter of an SMB open has its request there; and what the
-- lists have has its number, and each open its share
pub record IsAwaiting (s : Whole) : Type 0 where
  pub awaits : AreAwaited s.core s.front.smb.state
  pub keeps : AreKept s.core s.front.smb.state
  pub tied : AreSmbTied s.core s.front.smb.state

-- what a row of SMB's lists names is there, no list outgrows its limit, and no two rows of one have one key
pub record IsInOrder (s : Whole) : Type 0 where
  pub sound : IsSound s.front.smb.state
  pub distinct : AreDistinct s.front.smb.state

-- ---- what a turn grants

-- The open of the request is there: the one that a CREATE waited to make, of the file of the claim that is granted, and one of the
-- opens of the lease that it asks for, if it does; that whose ranges a LOCK waited for, under the connection that it came by.
abbrev pub OpenStands : Lists → Waiting → Claim → Request → Type 0
OpenStands last row claim (request.Create made) = (claim.file ≡ made.file) × (open_of row.opened last ≡ Some made) × IsLeased last row.opened made
OpenStands last row claim request.Lock = is_open_on row.place.connection (open_of row.opened last) ≡ true

-- its final reply, STATUS_SUCCESS, with what the open has of caches
abbrev pub success_of : CoreState → Waiting → Request → FinalReply
success_of t row (request.Create made) = Opened (id_of t row.opened) (caching t row.opened made)
success_of t row request.Lock = Locked

-- The claim that the waiter of this number is granted by a turn for an SMB open: a request under that number waits for this open in
-- the front's lists, and the open is there in the last ones. The grant is the last that the turn tells of; and what is sent for the
-- turn is what telling of the effects before sends, and behind that the reply that the request succeeded.
pub record HasItsOpen (exports : Exports) (last : Lists) (turn : TurnTaken) (party : Party) (id number : ℕ) (claim : Claim) : Type 0 where
  pub row : Waiting
  pub waited : waiting_of id turn.front.smb.state ≡ Some row
  pub own : row.opened ≡ number
  pub there : OpenStands last row claim row.request
  pub before : List Effect
  pub told : turn.told ≡ before ++ Served party id (Granted claim) ∷ []
  pub sent : (turn_sent exports turn).0 ≡ (all_shown exports turn.front turn.left before).0 ++ map (framed Smb) (final_outs id row (success_of turn.left row row.request))

-- so it is of each claim that is granted by it to an SMB open
abbrev pub HaveOpens : Exports → Lists → TurnTaken → Type 0
HaveOpens exports last turn = (party : Party) (id number : ℕ) (claim : Claim) → IsIn (Served party id (Granted claim)) turn.told → claim.owner ≡ owners.Open number → HasItsOpen exports last turn party id number claim

-- ---- a round

-- what these rounds lead on from: the state that the first of them finds, or that after them if there is none
abbrev pub found_first : List Round → Whole → Whole
found_first [] t = t
found_first (r ∷ rs) t = r.found

-- What a round leaves, which this state shows: who waits then; each claim that its turns granted to an SMB open has its open; and
-- nothing is left of a connection that it ended. It found the lists in order.
pub record IsRoundServed (n : ℕ) (r : Round) (left : Whole) : Type 0 where
  pub ordered : IsInOrder r.found
  pub awaiting : IsAwaiting left
  pub granted : AllByRecursion (λ turn. HaveOpens r.found.exports left.front.smb.state turn) r.turns
  pub gone : IsGoneBy n r.found r.cause r.own.deeds

-- so it is of each of these, behind which this state is: a round leaves what the next one finds
abbrev pub AreServed : ℕ → List Round → Whole → Type 0
AreServed n [] t = Unit {0}
AreServed n (r ∷ rs) t = IsRoundServed n r (found_first rs t) × AreServed n rs t

-- ---- an entry

-- who waits afterwards, what its rounds leave, and how the lists were found, by the event
abbrev pub IsServedBy : ℕ → Whole → Event → Whole → Type 0
IsServedBy n s event t = IsAwaiting t × AreServed n (rounds n s event) t × IsInOrder s

-- After the entry, and behind each of its rounds, each request of SMB that waits is a waiter of the core, and each waiter
-- of an SMB open has its request. What a turn of a round grants to an SMB open was waited for by a request of that open,
-- which is there behind that round, and the request is answered that it succeeded; a later part of the same frame may
-- close it. The end of a connection of SMB leaves nothing of the opens that were under it. The lists of SMB are in order
-- before the entry and before each round, and tied to the core behind each.
abbrev pub IsServed : Law
IsServed n s e t = IsServedBy n s e.event t
