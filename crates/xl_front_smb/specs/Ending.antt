-- The end of opens, sessions and connections (MS-SMB2 3.3.4.17, 3.3.5.6, 3.3.7.1).
use Rattle.std.specs.Prelude.{ℕ, ◌==◌, not, if◌then◌else◌, List, [], ◌∷◌, ◌++◌, map, filter, Option, Some, None}
use Rattle.std.specs.Map.{keys_of}
use Rattle.xl_base.specs.declared.event.Out.{Out}
use Rattle.xl_base.specs.declared.name.Party.{Party}
use Rattle.xl_names.specs.declared.name.Name.{Name}
use Rattle.xl_core.specs.Deeds.{Deed, Closes}
use Rattle.xl_core.specs.Settle.{close_open}
use Rattle.xl_core.specs.State.{CoreState}
use Rattle.xl_core.specs.Ticks.{behind_told}
use Rattle.xl_core.specs.declared.ask.Effect.{Effect}
use Rattle.xl_smb_state.specs.State.{Lists, waiting_dropped, connection_dropped, session_dropped, sessions_on, tree_dropped, trees_of, open_of, opens_under, is_last_open, closed, creates_under}
use Rattle.xl_smb_state.specs.declared.row.Open.{Open}
use Rattle.xl_smb_state.specs.declared.row.Scope.{Scope}
use Rattle.xl_smb_state.specs.declared.row.Scope.TheVariants as scope
use Rattle.xl_smb_locks.specs.Finals.{dismissed}
use Rattle.xl_smb_locks.specs.Levels.{party_of}
use Rattle.xl_front_smb.specs.State.{FrontSmb}

-- ---- opens

-- the opens under it, and those that requests under it wait to make
abbrev pub numbers_under : Scope → Lists → List ℕ
numbers_under under l = opens_under under l ++ creates_under under l

-- the party whose caches go with the open: its own, or the lease's that it is the last open of (SMB-28)
abbrev pub going_by : List Name → Lists → ℕ → Option Open → Option Party
going_by names l number None = None
going_by names l number (Some row) = if is_last_open number l then Some (party_of names number row) else None

abbrev pub party_going : List Name → Lists → ℕ → Option Party
party_going names l number = going_by names l number (open_of number l)

-- these opens, which are closed one after the other, each with the party whose caches go with it
abbrev pub leavers : List Name → Lists → List ℕ → List (ℕ × Option Party)
leavers names l [] = []
leavers names l (number ∷ numbers) = (number, party_going names l number) ∷ leavers names (closed number l) numbers

-- an open that a request waits to make has no cache
abbrev pub without_party : List ℕ → List (ℕ × Option Party)
without_party numbers = map (λ number. (number, None)) numbers

-- the opens under it, and those that requests under it wait to make
abbrev pub leavers_under : List Name → Scope → Lists → List (ℕ × Option Party)
leavers_under names under l = leavers names l (opens_under under l) ++ without_party (creates_under under l)

-- the deeds by which these opens are closed, with all that they hold and wait for
abbrev pub ends : List (ℕ × Option Party) → List Deed
ends going = map (λ e. Closes e.0 e.1) going

-- what the core tells of then, and the core afterwards
abbrev pub all_ended : List (ℕ × Option Party) → CoreState → List Effect × CoreState
all_ended [] s = ([], s)
all_ended (e ∷ es) s = behind_told (close_open s e.0 e.1).0 (all_ended es (close_open s e.0 e.1).1)

-- the lists once these are closed, one after the other
abbrev pub all_closed : List ℕ → Lists → Lists
all_closed [] l = l
all_closed (number ∷ numbers) l = all_closed numbers (closed number l)

-- ---- sessions and connections, under which no open is left

abbrev pub trees_dropped : List ℕ → Lists → Lists
trees_dropped [] l = l
trees_dropped (number ∷ numbers) l = trees_dropped numbers (tree_dropped number l)

-- a session goes with its tree connects
unfoldable pub session_gone : ℕ → Lists → Lists
session_gone number l = session_dropped number (trees_dropped (trees_of number l) l)

abbrev pub sessions_gone : List ℕ → Lists → Lists
sessions_gone [] l = l
sessions_gone (number ∷ numbers) l = sessions_gone numbers (session_gone number l)

-- a connection goes with its sessions
unfoldable pub connection_gone : ℕ → Lists → Lists
connection_gone conn l = connection_dropped conn (sessions_gone (sessions_on conn l) l)

-- the requests that wait and came by a connection are forgotten (HOUSE-4)
abbrev pub requests_gone : ℕ → Lists → Lists
requests_gone conn l = record l { waiting = filter (λ e. not (e.1.place.connection == conn)) l.waiting }

-- what is sent to those of whom these effects tell that they wait no more, in order of arrival, and the lists without them
-- (SMB-27)
abbrev pub all_dismissed : List Effect → Lists → List Out × Lists
all_dismissed told l = dismissed told (keys_of l.waiting) l

-- these are forgotten one after the other
abbrev pub requests_dropped : List ℕ → Lists → Lists
requests_dropped [] l = l
requests_dropped (number ∷ numbers) l = requests_dropped numbers (waiting_dropped number l)

-- ---- the end of a connection

-- What the end of a connection does to the core: each open under it ends, in the order in which they came, and then each that a
-- request under it waits to make (HOUSE-4).
unfoldable pub smb_end_deeds : FrontSmb → CoreState → ℕ → List Deed
smb_end_deeds f s conn = ends (leavers_under s.names (scope.Connection conn) f.state)

abbrev pub ended_with : Lists → List Effect × CoreState → List Effect × FrontSmb × CoreState
ended_with l r = (r.0, record { state = (all_dismissed r.0 l).1 }, r.1)

-- What the core tells of then, and the front and the core afterwards: the connection goes with its sessions, their tree
-- connects, and the requests that came by it or wait no more, which get no reply.
unfoldable pub smb_end : FrontSmb → CoreState → ℕ → List Effect × FrontSmb × CoreState
smb_end f s conn = ended_with (requests_gone conn (connection_gone conn (all_closed (opens_under (scope.Connection conn) f.state) f.state))) (all_ended (leavers_under s.names (scope.Connection conn) f.state) s)
