-- What the front keeps (RFC 7530 9.1), and what the clock and the core's news change of it.
use Rattle.std.specs.Prelude.{true, Option, Some, None}
use Rattle.std.specs.List.{find}
use Rattle.xl_base.specs.declared.event.Moment.{Moment}
use Rattle.xl_nfs_state.specs.State.{NfsLists, no_lists, with_clients, without, without_client, is_client_named, is_due}
use Rattle.xl_nfs_state.specs.declared.client.ClientRow.{ClientRow}
use Rattle.xl_core.specs.declared.ask.Effect.{Effect}
use Rattle.xl_core.specs.declared.ask.Effect.TheVariants.{Expired}
use Rattle.xl_front_nfs.specs.declared.front.NfsFront.{NfsFront}

-- what is remembered of the clients: the lists of its state
abbrev pub FrontNfs : Type 0
FrontNfs = NfsFront

-- the front at a start
abbrev pub empty_nfs_front : FrontNfs
empty_nfs_front = record { state = no_lists }

-- ---- time

-- at this moment the unconfirmed records go whose time has come (NFS-13)
unfoldable pub nfs_tick : FrontNfs → Moment → FrontNfs
nfs_tick f now = record { state = with_clients f.state (without (is_due now) f.state.clients) }

-- without this client and all that is its
abbrev pub forgotten : NfsLists → Option ClientRow → NfsLists
forgotten l None = l
forgotten l (Some r) = without_client r.number l

abbrev pub lists_shown : NfsLists → Effect → NfsLists
lists_shown l (Expired id) = forgotten l (find (is_client_named id true) l.clients)
lists_shown l _ = l

-- A client that expired is forgotten, with all that is its; no other effect changes anything. Nothing is sent (STATE-6).
unfoldable pub nfs_shown : FrontNfs → Effect → FrontNfs
nfs_shown f effect = record { state = lists_shown f.state effect }
