-- A request: what becomes of it, by its command (MS-SMB2 3.3.5).
use Rattle.std.specs.Prelude.{ℕ, not, ◌==◌, nat_lt, List, [], ◌∷◌, Result, Ok, is_some}
use Rattle.xl_smb.specs.Calls.{CallItem, Negotiate, SessionSetup, Logoff, TreeConnect, TreeDisconnect, Create, Close, Lock, Cancel, Echo, OplockBreak, Other}
use Rattle.xl_smb.specs.Heads.{command_of, number_of}
use Rattle.xl_smb.specs.Messages.{MessageItem, Call, message_at}
use Rattle.xl_smb.specs.declared.command.Command.TheVariants as command
use Rattle.xl_smb.specs.declared.fault.SmbBad.{SmbBad}
use Rattle.xl_smb.specs.declared.head.SmbHead.{SmbHead}
use Rattle.xl_smb_state.specs.State.{Lists, client_of}
use Rattle.xl_core.specs.State.{CoreState}
use Rattle.xl_front_smb.specs.Checks.{negotiated_by, refused}
use Rattle.xl_front_smb.specs.Files.{create, close, acknowledge}
use Rattle.xl_front_smb.specs.Locks.{lock, cancel}
use Rattle.xl_front_smb.specs.Plans.{Plan, Fails, Does}
use Rattle.xl_front_smb.specs.Sessions.{negotiate, session_setup, logoff, tree_connect, tree_disconnect}
use Rattle.xl_smb_locks.specs.declared.status.SmbStatus.TheVariants.{InvalidParameter, NotSupported}
use Rattle.xl_front_smb.specs.declared.told.Told.TheVariants.{Echoed}

-- the table, for a client that has negotiated
unfoldable pub commanded : CoreState → List (List ℕ) → ℕ → Lists → ℕ → SmbHead → CallItem → List ℕ → Plan
commanded s files others l conn h (SessionSetup c) client = session_setup s l conn h
commanded s files others l conn h Logoff client = logoff s l conn h
commanded s files others l conn h (TreeConnect path) client = tree_connect s l conn h path
commanded s files others l conn h TreeDisconnect client = tree_disconnect s l conn client h
commanded s files others l conn h (Create c) client = create s files others l conn client h c
commanded s files others l conn h (Close c) client = close s l conn client h c.file_id
commanded s files others l conn h (Lock c) client = lock s l conn client h c
commanded s files others l conn h Cancel client = cancel s l conn h
commanded s files others l conn h Echo client = Does [] l Echoed
commanded s files others l conn h (OplockBreak b) client = acknowledge s l conn client h b
commanded s files others l conn h (Negotiate c) client = Fails InvalidParameter
commanded s files others l conn h Other client = Fails NotSupported

-- NEGOTIATE comes first, and once (SMB-10)
unfoldable pub planned : CoreState → List (List ℕ) → ℕ → Lists → ℕ → SmbHead → CallItem → Plan
planned s files others l conn h (Negotiate c) = negotiate l conn c
planned s files others l conn h call = negotiated_by (commanded s files others l conn h call) (client_of conn l)

-- a body whose size or whose parts are wrong is not in order (SMB-10)
abbrev pub read_as : CoreState → List (List ℕ) → ℕ → Lists → ℕ → Result MessageItem SmbBad → Plan
read_as s files others l conn (Ok (Call h call)) = planned s files others l conn h call
read_as s files others l conn _ = Fails InvalidParameter

-- A request of this header: it is alone in its frame, its command has a number up to 18, and is served (SMB-10).
unfoldable pub requested : CoreState → List (List ℕ) → ℕ → Lists → ℕ → List ℕ → SmbHead → Plan
requested s files others l conn bytes h =
    refused (
    (not (h.next_command == 0), InvalidParameter)
    ∷ (nat_lt (number_of command.OplockBreak) h.command, InvalidParameter)
    ∷ (not (is_some (command_of h.command)), NotSupported)
    ∷ [])
    (read_as s files others l conn (message_at bytes))
