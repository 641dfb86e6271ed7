-- What each call of the core leaves alone, what it may raise, and who leaves the queue by it.
use Rattle.std.specs.Prelude.{◌≡◌, ℕ, suc, ◌+◌, Some, Bool, true, false, if◌then◌else◌, List, [], ◌∷◌, ◌++◌}
use Rattle.xl_names.specs.declared.name.Name.{Name}
use Rattle.xl_wait.specs.Waiting.{is_waiting, cancelled}
use Rattle.xl_wait.specs.declared.waiter.Waiter.{Waiter}
use Rattle.xl_base.specs.declared.event.Moment.{Moment}
use Rattle.xl_core.specs.State.{CoreState, aside_of}
use Rattle.xl_core.specs.Leases.{Lease, moment_after, later, with_lease, without_lease}
use Rattle.xl_core.specs.Askers.{asking_party, both_entered, asked_whats, asked_claims}
use Rattle.xl_core.specs.Decide.{waiter_of}
use Rattle.xl_core.specs.Settle.{all_cancelled}
use Rattle.xl_core.specs.declared.ask.Act.{Act}
use Rattle.xl_core.specs.declared.ask.Act.TheVariants.{Share, Ranges, Test, Unlock, Wish}
use Rattle.xl_core.specs.declared.ask.Answer.{Answer}
use Rattle.xl_core.specs.declared.ask.Answer.TheVariants.{Granted, Queued}
use Rattle.xl_core.specs.declared.ask.Ask.{Ask}
use Rattle.xl_core.specs.declared.ask.Effect.{Effect}
use Rattle.xl_core.specs.declared.ask.Effect.TheVariants.{Begun, Served, Cancelled, Expired}

-- ---- who leaves the queue

abbrev pub with_told : Effect → List ℕ → List ℕ
with_told (Served party id answer) ids = id ∷ ids
with_told (Cancelled party id) ids = id ∷ ids
with_told _ ids = ids

-- the numbers of the waiters that these tell of, in order: they wait no more
abbrev pub who_left : List Effect → List ℕ
who_left [] = []
who_left (effect ∷ effects) = with_told effect (who_left effects)

-- each of these waits once those before it left; so each leaves once
abbrev pub AllLeave : List ℕ → List Waiter → Type 0
AllLeave [] ws = Unit {0}
AllLeave (id ∷ ids) ws = (is_waiting id ws ≡ true) × AllLeave ids (cancelled id ws)

-- the clients that these tell have expired, in order
abbrev pub with_expired : Effect → List (List ℕ) → List (List ℕ)
with_expired (Expired client) clients = client ∷ clients
with_expired _ clients = clients

abbrev pub who_expired : List Effect → List (List ℕ)
who_expired [] = []
who_expired (effect ∷ effects) = with_expired effect (who_expired effects)

-- the leases without these clients', one after another
abbrev pub all_unleased : List (List ℕ) → List Lease → List Lease
all_unleased [] leases = leases
all_unleased (client ∷ clients) leases = all_unleased clients (without_lease client leases)

-- how many of these have a call of the server's own, which has a number
abbrev pub with_call : Effect → ℕ → ℕ
with_call (Begun cache to (Some number)) calls = suc calls
with_call _ calls = calls

abbrev pub calls_in : List Effect → ℕ
calls_in [] = 0
calls_in (effect ∷ effects) = with_call effect (calls_in effects)

-- none of these says that someone was served
abbrev pub serves_none : List Effect → Bool
serves_none [] = true
serves_none (Served party id answer ∷ effects) = false
serves_none (effect ∷ effects) = serves_none effects

-- ---- a call

-- A call with these effects: the epoch, the clock, the times and the leases stay, so many numbers are given out, these names are
-- kept then, who leaves the queue is told of once, and these come behind those who stay. Of the record, grace and stores see
-- `aside_of`.
pub record IsFrame (s : CoreState) (told : List Effect) (t : CoreState) (given : ℕ) (known : List Name) (come : List Waiter) : Type 0 where
  pub epoch : t.stable.epoch ≡ s.stable.epoch
  pub clock : t.clock ≡ s.clock
  pub counter : t.counter ≡ s.counter + given
  pub names : t.names ≡ known
  pub leave : AllLeave (who_left told) s.waiters
  pub waiters : t.waiters ≡ all_cancelled (who_left told) s.waiters ++ come
  pub times : t.times ≡ s.times
  pub leases : t.leases ≡ s.leases

-- A client's lease renewed: it ends its whole length from now, there is no effect, and all else stays.
pub record IsRenewed (s : CoreState) (client : List ℕ) (told : List Effect) (t : CoreState) : Type 0 where
  pub silent : told ≡ []
  pub claims : t.claims ≡ s.claims
  pub waiters : t.waiters ≡ s.waiters
  pub names : t.names ≡ s.names
  pub clock : t.clock ≡ s.clock
  pub times : t.times ≡ s.times
  pub leases : t.leases ≡ with_lease client (moment_after s.clock s.times.lease) s.leases
  pub counter : t.counter ≡ s.counter
  pub aside : aside_of t ≡ aside_of s

-- A reading of the clock with these effects: the clock shows the later moment, who leaves the queue is told of once and
-- nobody comes, a lease goes if its client is told of, and the epoch, the times, the numbers and the names stay.
pub record IsTicked (s : CoreState) (now : Moment) (told : List Effect) (t : CoreState) : Type 0 where
  pub clock : t.clock ≡ later s.clock now
  pub epoch : t.stable.epoch ≡ s.stable.epoch
  pub counter : t.counter ≡ s.counter
  pub names : t.names ≡ s.names
  pub leave : AllLeave (who_left told) s.waiters
  pub waiters : t.waiters ≡ all_cancelled (who_left told) s.waiters
  pub times : t.times ≡ s.times
  pub leases : t.leases ≡ all_unleased (who_expired told) s.leases

-- ---- an ask, by its answer

-- how many numbers it draws
abbrev pub drawn_by : Answer → ℕ
drawn_by (Queued number) = 1
drawn_by _ = 0

-- it asks for something that is held then
abbrev pub asks_to_hold : Act → Bool
asks_to_hold (Share access deny) = true
asks_to_hold (Ranges ranges) = true
asks_to_hold (Test extent exclusive) = false
asks_to_hold (Unlock extent) = false
asks_to_hold Wish = true

-- the names that are kept then: those of one that was granted what it holds, or that waits, with the others
abbrev pub names_after : Ask → Answer → List Name → List Name
names_after a (Granted claim) names = if asks_to_hold a.act then both_entered a names else names
names_after a (Queued number) names = both_entered a names
names_after a _ names = names

-- who comes to wait
abbrev pub come_by : Ask → Answer → List Name → List Waiter
come_by a (Queued number) names = waiter_of number a (asking_party a names) (asked_claims a (asked_whats a.act) names) ∷ []
come_by a _ names = []
