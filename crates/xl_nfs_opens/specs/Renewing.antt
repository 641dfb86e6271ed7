-- Whose leases an operation renews (RFC 7530 9.5), and the numbers in a stateid.
use Rattle.std.specs.Prelude.{ℕ, ◌==◌, ◌&&◌, bytes_eq, Bool, true, if◌then◌else◌, List, [], ◌∷◌, ◌++◌, take, drop, Option, Some, None}
use Rattle.std.specs.Int.{w32, w64, to_be_bytes, from_be_bytes}
use Rattle.std.specs.List.{find}
use Rattle.xl_nfs.specs.declared.basics.Stateid.{Stateid}
use Rattle.xl_nfs_state.specs.State.{NfsLists, is_client, is_stateid}
use Rattle.xl_nfs_state.specs.declared.client.ClientRow.{ClientRow}
use Rattle.xl_nfs_state.specs.declared.stateid.StateidRow.{StateidRow}
use Rattle.xl_core.specs.Deeds.{Deed, Renews}
use Rattle.xl_core.specs.State.{CoreState}
use Rattle.xl_plan.specs.Plans.{Behind}
use Rattle.xl_nfs_opens.specs.Plans.{Plan}

-- ---- stateids (RFC 7530 9.1.4)

-- the seqid of a stateid that is new
abbrev pub first_seqid : ℕ
first_seqid = 1

-- the stateid of this number and seqid: its `other` is the epoch of this start and the number (NFS-21)
unfoldable pub stateid_of : CoreState → ℕ → ℕ → Stateid
stateid_of s number seqid = record { seqid = seqid; other = to_be_bytes w32 s.stable.epoch ++ to_be_bytes w64 number }

abbrev pub same_stateid : Stateid → Stateid → Bool
same_stateid a b = (a.seqid == b.seqid) && bytes_eq a.other b.other

-- the number in a stateid, if it is of this start
unfoldable pub number_of : CoreState → List ℕ → Option ℕ
number_of s other = if from_be_bytes w32 (take 4 other) == s.stable.epoch then Some (from_be_bytes w64 (drop 4 other)) else None

-- ---- leases

-- the client of an open that isn't closed
abbrev pub client_if_live : Option StateidRow → Option ℕ
client_if_live None = None
client_if_live (Some r) = if r.standing.closed then None else Some r.client

abbrev pub state_numbered : NfsLists → Option ℕ → Option ℕ
state_numbered l None = None
state_numbered l (Some number) = client_if_live (find (is_stateid number) l.stateids)

-- the number of the client that a live stateid names; its seqid is not looked at (NFS-13)
abbrev pub state_client : CoreState → NfsLists → Stateid → Option ℕ
state_client s l stateid = state_numbered l (number_of s stateid.other)

abbrev pub renewals_by : Option ClientRow → List Deed
renewals_by None = []
renewals_by (Some r) = Renews r.id ∷ []

-- the lease of the client of this number, if it is confirmed, is renewed (NFS-13)
abbrev pub renewals : NfsLists → Option ℕ → List Deed
renewals l None = []
renewals l (Some number) = renewals_by (find (is_client number true) l.clients)

-- behind the renewal of that lease, of which the core alone knows
abbrev pub renewing : NfsLists → Option ℕ → (CoreState → Plan) → Plan
renewing l client rest = Behind (renewals l client) l rest
