-- What the front keeps: its hosts, and the calls of GRANTED that await an answer (XNFS C702, NLM_GRANTED).
use Rattle.std.specs.Prelude.{ℕ, not, ◌==◌, List, [], ◌∷◌, ◌++◌}
use Rattle.std.specs.List.{AllByRecursion, filter}
use Rattle.xl_core.specs.Good.{IsRangeBy}
use Rattle.xl_core.specs.declared.ask.Answer.{Answer}
use Rattle.xl_front_nlm.specs.Hosts.{AreHosts, hosts_after}
use Rattle.xl_front_nlm.specs.declared.call.GrantedCall.{GrantedCall}

-- the hosts in order of arrival, and the calls that await an answer, in the order in which they were made
pub record FrontState : Type 0 where
  pub hosts : List (List ℕ)
  pub calls : List GrantedCall

-- the front at a start
abbrev pub empty_front : FrontState
empty_front = record { hosts = []; calls = [] }

-- a call sends a range with bytes, in their order
abbrev pub IsCall : GrantedCall → Type 0
IsCall call = IsRangeBy call.claim.what

abbrev pub IsFront : FrontState → Type 0
IsFront f = AreHosts f.hosts × AllByRecursion IsCall f.calls

-- the caller is a host from now on, if the answer makes it one
abbrev pub noted : Answer → List ℕ → FrontState → FrontState
noted answer caller f = record { hosts = hosts_after answer caller f.hosts; calls = f.calls }

-- one call more awaits an answer
abbrev pub awaited : FrontState → GrantedCall → FrontState
awaited f call = record { hosts = f.hosts; calls = f.calls ++ call ∷ [] }

-- the calls without the one of this number
unfoldable pub without : ℕ → List GrantedCall → List GrantedCall
without number calls = filter (λ c. not (c.number == number)) calls

-- the call of this number awaits no answer any more
abbrev pub taken : FrontState → ℕ → FrontState
taken f number = record { hosts = f.hosts; calls = without number f.calls }
