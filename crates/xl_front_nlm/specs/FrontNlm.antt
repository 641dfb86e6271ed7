-- What a call of program 100021 version 4 is answered: the Network Lock Manager (XNFS C702).
use Rattle.std.specs.Prelude.{ℕ, ◌==◌, if◌then◌else◌, List, [], ◌++◌, length, Option, Some, None, Result, Ok, Err}
use Rattle.std.specs.Option.{option_and_then}
use Rattle.xl_base.specs.declared.event.Out.{Out}
use Rattle.xl_base.specs.declared.journal.Exports.{Exports}
use Rattle.xl_names.specs.declared.name.Name.{Name}
use Rattle.xl_nlm.specs.Arguments.{arguments_at}
use Rattle.xl_nlm.specs.Items.{CallItem}
use Rattle.xl_nlm.specs.Replies.{results}
use Rattle.xl_programs.specs.Programs.{RequestItem}
use Rattle.xl_programs.specs.Sent.{sent_to}
use Rattle.xl_rpc.specs.Replies.{reply}
use Rattle.xl_rpc.specs.declared.fault.RpcBad.{RpcBad}
use Rattle.xl_rpc.specs.declared.reply.Verdict.TheVariants.{Success, GarbageArgs}
use Rattle.xl_core.specs.State.{CoreState}
use Rattle.xl_core.specs.Deeds.{Deed}
use Rattle.xl_core.specs.declared.ask.Answer.{Answer}
use Rattle.xl_core.specs.declared.ask.Effect.{Effect}
use Rattle.xl_plan.specs.Answers.{by_answers}
use Rattle.xl_plan.specs.Plans.{deeds_of}
use Rattle.xl_front_nlm.specs.Results.{reply_of}
use Rattle.xl_front_nlm.specs.Serving.{planned, served, client_of}
use Rattle.xl_front_nlm.specs.State.{FrontState}
use Rattle.xl_front_nlm.specs.declared.outcome.Outcome.{Outcome}
use Rattle.xl_front_nlm.specs.declared.outcome.Outcome.TheVariants.{Ended}

-- ---- the call that a request is

-- bytes behind the arguments are garbage (RPC-4)
abbrev pub whole_call : Result (CallItem × List ℕ) RpcBad → Option CallItem
whole_call (Err fault) = None
whole_call (Ok call) = if length call.1 == 0 then Some call.0 else None

-- the call, or none if the arguments are garbage
unfoldable pub call_in : RequestItem → Option CallItem
call_in r = whole_call (arguments_at r.procedure r.arguments)

-- the client that the request names
abbrev pub nlm_client : RequestItem → Option Name
nlm_client r = option_and_then (λ call. client_of call) (call_in r)

-- ---- what it does, and what it is answered

abbrev pub call_deeds : ℕ → ℕ → FrontState → CoreState → Option CallItem → List Deed
call_deeds n count f s None = []
call_deeds n count f s (Some call) = deeds_of n s (planned count f s call)

-- What a request does to the core, in a step of which n stores succeed: what the table has for its call, and nothing if
-- the arguments are garbage.
abbrev pub nlm_deeds : ℕ → Exports → FrontState → CoreState → RequestItem → List Deed
nlm_deeds n exports f s r = call_deeds n (length exports.files) f s (call_in r)

abbrev pub call_reply : ℕ → FrontState → CoreState → List Name → ℕ → Option CallItem → List Answer → List ℕ
call_reply count f s names xid None answers = reply xid GarbageArgs
call_reply count f s names xid (Some call) answers = reply xid Success ++ results (reply_of names call (by_answers s f Ended (planned count f s call) answers).0)

-- What it is answered: a function of its call and of what its deeds are answered. These are the names kept afterwards.
abbrev pub nlm_reply : Exports → FrontState → CoreState → List Name → RequestItem → List Answer → List ℕ
nlm_reply exports f s names r answers = call_reply (length exports.files) f s names r.xid (call_in r) answers

-- ---- a step: a reply, the effects, and the front and the core afterwards

abbrev pub with_results : ℕ → CallItem → Outcome × List Effect × FrontState × CoreState → List ℕ × List Effect × FrontState × CoreState
with_results xid call done = (reply xid Success ++ results (reply_of done.3.names call done.0), done.1, done.2, done.3)

abbrev pub replied : ℕ → ℕ → FrontState → CoreState → ℕ → Option CallItem → List ℕ × List Effect × FrontState × CoreState
replied n count f s xid None = (reply xid GarbageArgs, [], f, s)
replied n count f s xid (Some call) = with_results xid call (served n count f s call)

abbrev pub sent_with : ℕ → List ℕ × List Effect × FrontState × CoreState → List Out × List Effect × FrontState × CoreState
sent_with conn r = (sent_to conn r.0, r.1, r.2, r.3)

-- What a request from a connection is answered, what the core told of besides, and the front and the core afterwards,
-- if n stores succeed in the step.
unfoldable pub nlm_step : ℕ → Exports → FrontState → CoreState → ℕ → RequestItem → List Out × List Effect × FrontState × CoreState
nlm_step n exports f s conn r = sent_with conn (replied n (length exports.files) f s r.xid (call_in r))
