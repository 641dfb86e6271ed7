-- Which programs of ONC RPC are served, and what becomes of a record before a front reads its arguments (RFC 5531 9).
use Rattle.std.specs.Prelude.{◌≡◌, ℕ, Bool, true, not, ◌==◌, ◌&&◌, ◌||◌, nat_le, if◌then◌else◌, List, Option, Some, None, Result, Ok, Err}
use Rattle.xl_rpc.specs.Calls.{HeadItem, call_at}
use Rattle.xl_rpc.specs.declared.fault.RpcBad.{RpcBad}
use Rattle.xl_rpc.specs.declared.fault.RpcBad.TheVariants as bad
use Rattle.xl_rpc.specs.declared.reply.Verdict.{Verdict}
use Rattle.xl_rpc.specs.declared.reply.Verdict.TheVariants.{ProgUnavail, ProgMismatch, ProcUnavail, RpcMismatch}
use Rattle.xl_programs.specs.declared.incoming.Incoming.{Incoming}
use Rattle.xl_programs.specs.declared.incoming.Incoming.TheVariants as ways
use Rattle.xl_programs.specs.declared.incoming.Request.{Request}
use Rattle.xl_programs.specs.declared.program.Program.{Program}
use Rattle.xl_programs.specs.declared.program.Program.TheVariants.{Nlm, Nfs}

-- ---- the tables

abbrev pub number_of : Program → ℕ
number_of Nlm = 100021
number_of Nfs = 100003

-- the one version in which it is served (RPC-7)
abbrev pub version_of : Program → ℕ
version_of Nlm = 4
version_of Nfs = 4

-- of NLM NULL, TEST, LOCK, CANCEL and UNLOCK; SHARE, UNSHARE, NM_LOCK and FREE_ALL; of NFS NULL and COMPOUND (RPC-7)
abbrev pub serves : Program → ℕ → Bool
serves Nlm procedure = nat_le procedure 4 || (nat_le 20 procedure && nat_le procedure 23)
serves Nfs procedure = nat_le procedure 1

abbrev pub program_at : ℕ → Option Program
program_at number = if number == number_of Nlm then Some Nlm else if number == number_of Nfs then Some Nfs else None

-- ---- a record

-- a call of a procedure that is served, with its arguments unread (HOUSE-12)
pub record RequestItem : Type 0 where
  pub program : Program
  pub xid : ℕ
  pub procedure : ℕ
  pub arguments : List ℕ

-- what a record is: it is not answered, or by this verdict alone, or it asks a front
pub data IncomingItem : Type 0 where
  Unanswered : IncomingItem
  Refused : ℕ → Verdict → IncomingItem
  Asked : RequestItem → IncomingItem

abbrev pub shown_request : Request → RequestItem
shown_request r = record { program = r.program; xid = r.xid; procedure = r.procedure; arguments = r.arguments.rest.now }

abbrev pub shown_incoming : Incoming → IncomingItem
shown_incoming ways.Unanswered = Unanswered
shown_incoming (ways.Refused xid verdict) = Refused xid verdict
shown_incoming (ways.Asked r) = Asked (shown_request r)

abbrev pub IsServed : Incoming → Type 0
IsServed (ways.Asked r) = serves r.program r.procedure ≡ true
IsServed _ = Unit {0}

-- its version, then the procedure (RPC-5)
unfoldable pub in_program : HeadItem → List ℕ → Program → IncomingItem
in_program head arguments program =
    if not (head.vers == version_of program) then Refused head.xid (ProgMismatch (version_of program) (version_of program))
    else if not (serves program head.proc) then Refused head.xid ProcUnavail
    else Asked (record { program = program; xid = head.xid; procedure = head.proc; arguments = arguments })

abbrev pub in_some : HeadItem → List ℕ → Option Program → IncomingItem
in_some head arguments None = Refused head.xid ProgUnavail
in_some head arguments (Some program) = in_program head arguments program

abbrev pub incoming_by : Result (HeadItem × List ℕ) RpcBad → IncomingItem
incoming_by (Ok call) = in_some call.0 call.1 (program_at call.0.prog)
incoming_by (Err (bad.Version xid)) = Refused xid (RpcMismatch 2 2)
incoming_by (Err _) = Unanswered

-- what isn't a call of ONC RPC is not answered, except that a call of another version of it is answered so (RPC-2,
-- RPC-3)
unfoldable pub incoming_at : List ℕ → IncomingItem
incoming_at bytes = incoming_by (call_at bytes)
