-- The state between two events.
use Rattle.std.specs.Prelude.{ℕ, ◌-◌, not, ◌==◌, nat_lt, if◌then◌else◌, List, [], ◌∷◌, ◌++◌, length, filter, find, option_map, Option}
pub use Rattle.xl_base.specs.Limits.{most_connections}
use Rattle.xl_base.specs.Stable.{raised}
use Rattle.xl_base.specs.declared.event.Kind.{Kind}
use Rattle.xl_base.specs.declared.journal.Exports.{Exports}
use Rattle.xl_base.specs.declared.journal.Head.{Head}
use Rattle.xl_wait.specs.declared.waiter.Rooms.{Rooms}
use Rattle.xl_core.specs.State.{CoreState, started, step_begun}
use Rattle.xl_core.specs.Limits.{most_hosts, most_owners, most_opens}
use Rattle.xl_core.specs.declared.lease.Times.{Times}
use Rattle.xl_front_nfs.specs.State.{empty_nfs_front}
use Rattle.xl_front_nlm.specs.State.{empty_front}
use Rattle.xl_nfs_state.specs.State.{opens}
use Rattle.xl_front_smb.specs.State.{empty_smb_front, opens_held}
use Rattle.xl_smb_frames.specs.declared.frame.Paused.{Paused}
use Rattle.xl_house.specs.declared.layers.Fronts.{Fronts}
use Rattle.xl_house.specs.declared.connections.Connection.{Connection}

-- the state between two events: what is exported, the place of the next event, the open connections, what stands behind
-- requests of SMB that wait in their frames, the fronts, and the core
pub record Whole : Type 0 where
  pub exports : Exports
  pub place : ℕ
  pub connections : List Connection
  pub paused : List Paused
  pub front : Fronts
  pub core : CoreState

-- how long leases, grace and breaks last
abbrev pub times_of : Exports → Times
times_of exports = record { lease = exports.lease; grace = exports.grace; break_time = exports.break_time }

-- the fronts at a start
abbrev pub no_fronts : Fronts
no_fronts = record { nlm = empty_front; nfs = empty_nfs_front; smb = empty_smb_front }

-- the state after a first start: nothing is held, and the record is the loaded one with its epoch raised (HOUSE-9)
abbrev pub begin : Head → Whole
begin head = record { exports = head.exports; place = 0; connections = []; paused = []; front = no_fronts; core = started (raised head.record) head.start (times_of head.exports) }

-- the state from which the entries of a journal with this head lead on
abbrev pub start_of : Head → Whole
start_of head = begin head

-- the state as an event finds it: no store of its step is made yet
abbrev pub as_found : Whole → Whole
as_found s = record s { core = step_begun s.core }

-- ---- connections

-- the connections with one more, whose number is the place of its opening (HOUSE-2), if there is room (HOUSE-3)
unfoldable pub with_connection : List Connection → ℕ → Kind → List Connection
with_connection connections place kind =
    if nat_lt (length connections) most_connections then connections ++ record { number = place; kind = kind } ∷ [] else connections

-- the connections without the one of this number
unfoldable pub without : List Connection → ℕ → List Connection
without connections number = filter (λ c. not (c.number == number)) connections

-- what the open connection of this number speaks
unfoldable pub kind_of : List Connection → ℕ → Option Kind
kind_of connections number = option_map (λ c. c.kind) (find (λ c. c.number == number) connections)

-- ---- opens

-- how many opens NFSv4 has, except closed ones, and how many SMB has, which share one room (HOUSE-5)
abbrev pub nfs_opens : Fronts → ℕ
nfs_opens f = opens f.nfs.state.stateids

abbrev pub smb_opens : Fronts → ℕ
smb_opens f = opens_held f.smb

-- the room that is left in the fronts' tables: for hosts of NLM, for owners of NFSv4, and for opens of NFSv4 and SMB together
-- (HOUSE-5)
abbrev pub rooms_of : Fronts → Rooms
rooms_of f = record { hosts = most_hosts - length f.nlm.hosts; owners = most_owners - length f.nfs.state.owners; opens = most_opens - nfs_opens f - smb_opens f }
