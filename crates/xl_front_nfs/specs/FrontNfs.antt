-- What a call of program 100003 version 4 is answered (RFC 7530 15.1, 15.2).
use Rattle.std.specs.Prelude.{ℕ, ◌+◌, ◌*◌, not, ◌==◌, nat_lt, if◌then◌else◌, List, [], ◌++◌, length, Result, Ok, Err}
use Rattle.xl_base.specs.declared.event.Out.{Out}
use Rattle.xl_base.specs.declared.journal.Exports.{Exports}
use Rattle.xl_nfs.specs.Compounds.{CompoundHeadItem, compound_head_at}
use Rattle.xl_nfs.specs.declared.status.NfsStatus.{NfsStatus}
use Rattle.xl_nfs.specs.declared.status.NfsStatus.TheVariants.{MinorVersMismatch, Resource}
use Rattle.xl_programs.specs.Programs.{RequestItem}
use Rattle.xl_programs.specs.Sent.{sent_to}
use Rattle.xl_rpc.specs.Replies.{reply}
use Rattle.xl_rpc.specs.declared.fault.RpcBad.{RpcBad}
use Rattle.xl_rpc.specs.declared.reply.Verdict.TheVariants.{Success, GarbageArgs}
use Rattle.xl_core.specs.Deeds.{Deed}
use Rattle.xl_core.specs.State.{CoreState}
use Rattle.xl_core.specs.declared.ask.Effect.{Effect}
use Rattle.xl_nfs_state.specs.State.{NfsLists}
use Rattle.xl_plan.specs.Plans.{Outcome, deeds_of, carried}
use Rattle.xl_nfs_state.specs.Bytes.{most_result_bytes}
use Rattle.xl_nfs_opens.specs.Results.{compound_results}
use Rattle.xl_nfs_opens.specs.Seqids.{most_short}
use Rattle.xl_front_nfs.specs.State.{FrontNfs}
use Rattle.xl_front_nfs.specs.Steps.{Step, Course, begun, steps_in, compound}

-- ---- the call that a request is

-- the arguments can't be read; NULL; a COMPOUND of which nothing is done, with its tag and its status; or one of these steps
pub data Called : Type 0 where
  Garbage : Called
  Null : Called
  Refused : List ℕ → NfsStatus → Called
  Compound : List ℕ → List Step → Called

-- bytes behind NULL are garbage (NFS-8)
abbrev pub null_in : List ℕ → Called
null_in bytes = if length bytes == 0 then Null else Garbage

-- how many operations a COMPOUND has at most (NFS-8)
abbrev pub most_ops : ℕ
most_ops = 64

-- how many bytes its results have at most: only the last may be that of a lock that is denied
abbrev pub most_results : ℕ
most_results = most_short * most_ops + most_result_bytes

-- numbers that a COMPOUND draws at most, four an operation
abbrev pub most_drawn : ℕ
most_drawn = 4 * most_ops

-- the minor version that is served
abbrev pub minor_version : ℕ
minor_version = 0

-- the minor version is judged before the count; what stands behind the last operation is not read (NFS-8)
abbrev pub compound_in : Result (CompoundHeadItem × List ℕ) RpcBad → Called
compound_in (Err fault) = Garbage
compound_in (Ok (head, bytes)) =
    if not (head.minorversion == minor_version) then Refused head.tag MinorVersMismatch
    else if nat_lt most_ops head.count then Refused head.tag Resource
    else Compound head.tag (steps_in head.count bytes)

-- the procedure NULL; the other one is COMPOUND
abbrev pub null_procedure : ℕ
null_procedure = 0

unfoldable pub call_in : RequestItem → Called
call_in r = if r.procedure == null_procedure then null_in r.arguments else compound_in (compound_head_at r.arguments)

-- ---- what it does, and what it is answered

-- what a COMPOUND comes to
abbrev pub run : ℕ → List (List ℕ) → ℕ → FrontNfs → CoreState → List Step → Outcome NfsLists Course
run n files others f s steps = carried n s f.state (compound files others begun s f.state steps)

abbrev pub call_deeds : ℕ → List (List ℕ) → ℕ → FrontNfs → CoreState → Called → List Deed
call_deeds n files others f s (Compound tag steps) = deeds_of n s (compound files others begun s f.state steps)
call_deeds n files others f s _ = []

-- What a request does to the core, beside so many opens of other protocols: what each of its operations does, up to the
-- first that fails.
abbrev pub nfs_deeds : ℕ → Exports → ℕ → FrontNfs → CoreState → RequestItem → List Deed
nfs_deeds n exports others f s r = call_deeds n exports.files others f s (call_in r)

-- a COMPOUND's reply
abbrev pub compound_reply : ℕ → List ℕ → Course → List ℕ
compound_reply xid tag c = reply xid Success ++ compound_results tag c.status c.count c.results

abbrev pub call_reply : ℕ → List (List ℕ) → ℕ → FrontNfs → CoreState → ℕ → Called → List ℕ
call_reply n files others f s xid Garbage = reply xid GarbageArgs
call_reply n files others f s xid Null = reply xid Success
call_reply n files others f s xid (Refused tag status) = reply xid Success ++ compound_results tag status 0 []
call_reply n files others f s xid (Compound tag steps) = compound_reply xid tag (run n files others f s steps).0

-- What it is answered: a function of the request and of what it meets.
abbrev pub nfs_reply : ℕ → Exports → ℕ → FrontNfs → CoreState → RequestItem → List ℕ
nfs_reply n exports others f s r = call_reply n exports.files others f s r.xid (call_in r)

-- ---- a step: a reply, the effects, and the front and the core afterwards

abbrev pub with_reply : ℕ → List ℕ → Outcome NfsLists Course → List ℕ × List Effect × FrontNfs × CoreState
with_reply xid tag r = (compound_reply xid tag r.0, r.1, record { state = r.2 }, r.3)

abbrev pub replied : ℕ → List (List ℕ) → ℕ → FrontNfs → CoreState → ℕ → Called → List ℕ × List Effect × FrontNfs × CoreState
replied n files others f s xid (Compound tag steps) = with_reply xid tag (run n files others f s steps)
replied n files others f s xid Garbage = (reply xid GarbageArgs, [], f, s)
replied n files others f s xid Null = (reply xid Success, [], f, s)
replied n files others f s xid (Refused tag status) = (reply xid Success ++ compound_results tag status 0 [], [], f, s)

abbrev pub sent_with : ℕ → List ℕ × List Effect × FrontNfs × CoreState → List Out × List Effect × FrontNfs × CoreState
sent_with conn r = (sent_to conn r.0, r.1, r.2, r.3)

-- What a request from a connection is answered, what the core told of besides, and the front and the core afterwards,
-- if n stores succeed in the step.
unfoldable pub nfs_step : ℕ → Exports → ℕ → FrontNfs → CoreState → ℕ → RequestItem → List Out × List Effect × FrontNfs × CoreState
nfs_step n exports others f s conn r = sent_with conn (replied n exports.files others f s r.xid (call_in r))
