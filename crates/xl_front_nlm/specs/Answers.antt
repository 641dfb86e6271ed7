-- What the answer to a call of GRANTED does (XNFS C702, NLM_GRANTED).
use Rattle.std.specs.Prelude.{ℕ, Bool, true, false, not, ◌==◌, if◌then◌else◌, List, [], ◌∷◌, Option, Some, None, Result, Ok}
use Rattle.std.specs.List.{find}
use Rattle.xl_nlm.specs.Items.{ReplyItem, Answer as ResAnswer}
use Rattle.xl_nlm.specs.Replies.{results_at}
use Rattle.xl_nlm.specs.declared.item.NlmStatus.{NlmStatus}
use Rattle.xl_nlm.specs.declared.item.NlmStatus.TheVariants as stats
use Rattle.xl_rpc.specs.Replies.{reply_at}
use Rattle.xl_rpc.specs.declared.fault.RpcBad.{RpcBad}
use Rattle.xl_rpc.specs.declared.reply.Verdict.{Verdict}
use Rattle.xl_rpc.specs.declared.reply.Verdict.TheVariants.{Success}
use Rattle.xl_core.specs.State.{CoreState}
use Rattle.xl_core.specs.Decide.{ask}
use Rattle.xl_core.specs.Deeds.{Deed, Asks}
use Rattle.xl_core.specs.declared.ask.Effect.{Effect}
use Rattle.xl_front_nlm.specs.Asks.{refusal_ask}
use Rattle.xl_front_nlm.specs.Grants.{grant_of}
use Rattle.xl_front_nlm.specs.Hosts.{rooms}
use Rattle.xl_front_nlm.specs.State.{FrontState, taken}
use Rattle.xl_front_nlm.specs.declared.call.GrantedCall.{GrantedCall}
use Rattle.xl_front_nlm.specs.declared.grant.Grant.{Grant}

-- ---- a refusal

abbrev pub is_granted : NlmStatus → Bool
is_granted stats.Granted = true
is_granted _ = false

-- results of GRANTED with another status
abbrev pub refuses_with : Result (ReplyItem × List ℕ) RpcBad → Bool
refuses_with (Ok (ResAnswer r, rest)) = not (is_granted r.stat)
refuses_with _ = false

-- xid and cookie are not compared, and what stands behind the status is not looked at (NLM-11)
abbrev pub refuses_by : Result ((ℕ × Verdict) × List ℕ) RpcBad → Bool
refuses_by (Ok ((xid, Success), body)) = refuses_with (results_at 5 body)
refuses_by _ = false

-- a reply that says that the client doesn't want the lock; no reply, a denied one and one that can't be read don't (NLM-11)
unfoldable pub refuses : Option (List ℕ) → Bool
refuses (Some bytes) = refuses_by (reply_at bytes)
refuses None = false

-- ---- what it does

-- what the call sent, if it awaits an answer and is refused
abbrev pub refused_grant : CoreState → Bool → Option GrantedCall → Option Grant
refused_grant s refused None = None
refused_grant s refused (Some call) = if refused then grant_of s.names call.claim else None

abbrev pub refusal_deeds : List (List ℕ) → Option Grant → List Deed
refusal_deeds hosts None = []
refusal_deeds hosts (Some grant) = Asks (rooms hosts) (refusal_ask grant) ∷ []

-- What the end of the server's call of this number does to the core, with its reply or without one: a refusal unlocks
-- the range that the call sent, at this time and whatever its owner locked since; all else does nothing (NLM-11).
abbrev pub called_deeds : FrontState → CoreState → ℕ → Option (List ℕ) → List Deed
called_deeds f s number reply = refusal_deeds f.hosts (refused_grant s (refuses reply) (find (λ c. c.number == number) f.calls))

abbrev pub given_up : ℕ → List (List ℕ) → CoreState → Option Grant → List Effect × CoreState
given_up n hosts s None = ([], s)
given_up n hosts s (Some grant) = ((ask n (rooms hosts) s (refusal_ask grant)).1, (ask n (rooms hosts) s (refusal_ask grant)).2)

abbrev pub with_front : FrontState → List Effect × CoreState → List Effect × FrontState × CoreState
with_front f r = (r.0, f, r.1)

abbrev pub called_by : ℕ → FrontState → CoreState → ℕ → Bool → Option GrantedCall → List Effect × FrontState × CoreState
called_by n f s number refused None = ([], f, s)
called_by n f s number refused (Some call) = with_front (taken f number) (given_up n f.hosts s (refused_grant s refused (Some call)))

-- What it tells of besides, and the front and the core afterwards, if n stores succeed in the step. A call that awaits
-- no answer does nothing; the others await none from then on.
unfoldable pub nlm_called : ℕ → FrontState → CoreState → ℕ → Option (List ℕ) → List Effect × FrontState × CoreState
nlm_called n f s number reply = called_by n f s number (refuses reply) (find (λ c. c.number == number) f.calls)
