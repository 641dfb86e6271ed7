-- What is done to the core: its calls as values, what each gives, and who waits after them.
use Rattle.std.specs.Prelude.{◌≡◌, ◌==◌, if◌then◌else◌, ℕ, Bool, true, false, not, ◌||◌, List, [], ◌∷◌, ◌++◌, Option, Some, None}
use Rattle.std.specs.List.{filter, slice_get}
use Rattle.xl_base.specs.Lists.{IsIn}
use Rattle.xl_base.specs.Stable.{Stable}
use Rattle.xl_base.specs.declared.event.Moment.{Moment}
use Rattle.xl_base.specs.declared.name.Party.{Party}
use Rattle.xl_matrix.specs.Equal.{same_parties, same_claims}
use Rattle.xl_matrix.specs.declared.claim.CacheKind.{CacheKind}
use Rattle.xl_matrix.specs.declared.claim.Claim.{Claim}
use Rattle.xl_matrix.specs.declared.claim.Rwd.{Rwd}
use Rattle.xl_names.specs.declared.name.Name.{Name}
use Rattle.xl_names.specs.declared.name.Name.TheVariants.{NfsParty}
use Rattle.xl_wait.specs.Waiting.{is_waiting, cancelled}
use Rattle.xl_wait.specs.declared.waiter.Rooms.{Rooms}
use Rattle.xl_wait.specs.declared.waiter.Waiter.{Waiter}
use Rattle.xl_core.specs.State.{CoreState, drawn}
use Rattle.xl_core.specs.Askers.{party_named, asking_party, asked_whats, asked_claims, IsFit}
use Rattle.xl_core.specs.Causes.{held_once}
use Rattle.xl_core.specs.Decide.{waiter_of, way, before_wish, does_wish, ask}
use Rattle.xl_core.specs.Wishes.{caches_wished}
use Rattle.xl_table.specs.Flat.{removed}
use Rattle.xl_table.specs.Held.{is_range}
use Rattle.xl_table.specs.Leaving.{is_of_some}
use Rattle.xl_core.specs.BreakAnswers.{may_be_left, with_rest, ack, due, client_of}
use Rattle.xl_core.specs.Leases.{ended}
use Rattle.xl_core.specs.Good.{caches_of}
use Rattle.xl_core.specs.Settle.{next_way, settle, waits_for, waits_as, cancel, give_back, share_has, weaken, end_party, close_open}
use Rattle.xl_core.specs.Stores.{may_store, store_failed, client_name, without_name}
use Rattle.xl_core.specs.Ticks.{advanced, renew, expire, lapse, may_expire, end_grace, is_still_held, is_lease_over}
use Rattle.xl_grace.specs.Grace.{is_over, shortened}
use Rattle.xl_core.specs.declared.ask.Answer.{Answer}
use Rattle.xl_core.specs.declared.ask.Answer.TheVariants.{Queued}
use Rattle.xl_core.specs.declared.ask.Ask.{Ask}
use Rattle.xl_core.specs.declared.ask.Effect.{Effect}
use Rattle.xl_core.specs.declared.ask.Effect.TheVariants.{Served}

-- ---- a call of the core as a value

-- an ask, with the room left in the fronts' tables; a claim given back; a share made weaker, to this access and deny; the
-- break of this cache answered, so that this much is left of it; the waiter of this number taken out; a party ended; a
-- turn; a number given out; the clock read; the break of this cache over without an answer; the lease of the NFSv4 client
-- of this id string renewed; such a client expired; an SMB open closed, with which the caches of this party go; the store of
-- this record failed; the grace that runs ended (CORE-7)
pub data Deed : Type 0 where
  Asks : Rooms → Ask → Deed
  GivesBack : Claim → Deed
  Weakens : Claim → Rwd → Rwd → Deed
  Acks : Claim → Option CacheKind → Deed
  Cancels : ℕ → Deed
  Ends : Party → Deed
  Serves : Rooms → Deed
  Draws : Deed
  Advances : Moment → Deed
  Lapses : Claim → Deed
  Renews : List ℕ → Deed
  Expires : List ℕ → Deed
  Closes : ℕ → Option Party → Deed
  FailsStore : Stable → Deed
  EndsGrace : Deed

-- the answer, if the call has one, the effects besides, and the state that is left
abbrev pub Given : Type 0
Given = Option Answer × List Effect × CoreState

abbrev pub answered : Answer × List Effect × CoreState → Given
answered r = (Some r.0, r.1, r.2)

abbrev pub unanswered : List Effect × CoreState → Given
unanswered r = (None, r.0, r.1)

-- if no waiter has a turn nothing happens
abbrev pub turned : CoreState → Option (List Effect × CoreState) → Given
turned s None = (None, [], s)
turned s (Some r) = unanswered r

-- what each deed gives, of whose step n stores succeed: what the call's own definition gives
abbrev pub given : ℕ → CoreState → Deed → Given
given n s (Asks left a) = answered (ask n left s a)
given n s (GivesBack claim) = unanswered (give_back s claim)
given n s (Weakens share access deny) = unanswered (weaken s share access deny)
given n s (Acks cache to) = unanswered (ack s cache to)
given n s (Cancels id) = unanswered (cancel s id)
given n s (Ends party) = unanswered (end_party s party)
given n s (Serves left) = turned s (settle n left s)
given n s Draws = (None, [], drawn s)
given n s (Advances now) = (None, [], advanced s now)
given n s (Lapses cache) = unanswered (lapse s cache)
given n s (Renews client) = unanswered (renew s client)
given n s (Expires client) = unanswered (expire s client)
given n s (Closes number party) = unanswered (close_open s number party)
given n s (FailsStore stable) = (None, [], store_failed stable s)
given n s EndsGrace = (None, [], end_grace s)

-- the state after one deed, and after these in a row
abbrev pub done : ℕ → CoreState → Deed → CoreState
done n s d = (given n s d).2

abbrev pub all_done : ℕ → CoreState → List Deed → CoreState
all_done n s [] = s
all_done n s (d ∷ ds) = all_done n (done n s d) ds

-- what these tell besides, in order
abbrev pub all_told_of : ℕ → CoreState → List Deed → List Effect
all_told_of n s [] = []
all_told_of n s (d ∷ ds) = (given n s d).1 ++ all_told_of n (done n s d) ds

abbrev pub with_answer : Option Answer → List Answer → List Answer
with_answer None answers = answers
with_answer (Some answer) answers = answer ∷ answers

-- what these are answered, in order
abbrev pub answers_of : ℕ → CoreState → List Deed → List Answer
answers_of n s [] = []
answers_of n s (d ∷ ds) = with_answer (given n s d).0 (answers_of n (done n s d) ds)

-- ---- which deeds the core takes

-- an ask that is fit; a share or a cache that is held, given back; a share that is held, which comes to have no more than it
-- has; a cache that is held and whose break runs, of which no more is left than the break leaves; a waiter who stands; a cache
-- whose deadline has come; a client whose lease has ended; and a grace whose end has come. Ranges are unlocked by an ask
-- (CORE-7).
abbrev pub IsFitDeed : CoreState → Deed → Type 0
IsFitDeed s (Asks left a) = IsFit a
IsFitDeed s (GivesBack claim) = IsIn claim s.claims × (is_range claim.what ≡ false)
IsFitDeed s (Weakens share access deny) = IsIn share s.claims × (share_has share.what access deny ≡ true)
IsFitDeed s (Acks cache to) = IsIn cache s.claims × (may_be_left cache.what to ≡ true)
IsFitDeed s (Cancels id) = is_waiting id s.waiters ≡ true
IsFitDeed s (Lapses cache) = IsIn cache (due s)
IsFitDeed s (Expires client) = IsIn client (ended s.clock s.leases)
IsFitDeed s EndsGrace = is_over s.grace s.clock ≡ true
IsFitDeed s _ = Unit {0}

abbrev pub AreFit : ℕ → CoreState → List Deed → Type 0
AreFit n s [] = Unit {0}
AreFit n s (d ∷ ds) = IsFitDeed s d × AreFit n (done n s d) ds

-- ---- who waits

-- one who is answered that it waits comes last
abbrev pub queue_with : CoreState → Ask → Answer → List Waiter → List Waiter
queue_with s a (Queued id) waiters = waiters ++ waiter_of id a (asking_party a s.names) (asked_claims a (asked_whats a.act) s.names) ∷ []
queue_with s a answer waiters = waiters

-- one who is served waits no more
abbrev pub queue_without : List Effect → List Waiter → List Waiter
queue_without [] waiters = waiters
queue_without (Served party id answer ∷ effects) waiters = cancelled id waiters
queue_without (effect ∷ effects) waiters = queue_without effects waiters

-- those of a party that ends wait no more
abbrev pub queue_without_party : Option Party → List Waiter → List Waiter
queue_without_party None waiters = waiters
queue_without_party (Some party) waiters = filter (λ w. not (waits_for party w)) waiters

-- those of a client that expires wait no more
abbrev pub queue_without_client : List Name → Option (List ℕ) → List Waiter → List Waiter
queue_without_client names None waiters = waiters
queue_without_client names (Some client) waiters = queue_without_party (party_named names (NfsParty client)) waiters

-- who waits after one deed, of those who waited
abbrev pub waits_after : ℕ → CoreState → Deed → List Waiter → List Waiter
waits_after n s (Asks left a) waiters = queue_with s a (ask n left s a).0 waiters
waits_after n s (Cancels id) waiters = cancelled id waiters
waits_after n s (Ends party) waiters = filter (λ w. not (waits_for party w)) waiters
waits_after n s (Serves left) waiters = queue_without (given n s (Serves left)).1 waiters
waits_after n s (Lapses cache) waiters = queue_without_client s.names (client_of s.names cache.party) waiters
waits_after n s (Expires client) waiters = queue_without_party (party_named s.names (NfsParty client)) waiters
waits_after n s (Closes number party) waiters = filter (λ w. not (waits_as number w)) waiters
waits_after n s _ waiters = waiters

-- who waits after these: who waited, except those that each of them queued, took out, ended or served, in order
abbrev pub queue_after : ℕ → CoreState → List Deed → List Waiter → List Waiter
queue_after n s [] waiters = waiters
queue_after n s (d ∷ ds) waiters = queue_after n (done n s d) ds (waits_after n s d waiters)

-- ---- a tick

-- each of these that is still to be done once its turn has come, as a deed
abbrev pub deeds_in_turn : {A : Type 0} → (CoreState → A → Bool) → (CoreState → A → Deed) → ℕ → List A → CoreState → List Deed
deeds_in_turn is_left does n [] s = []
deeds_in_turn is_left does n (x ∷ xs) s = if is_left s x then does s x ∷ deeds_in_turn is_left does n xs (done n s (does s x)) else deeds_in_turn is_left does n xs s

-- the deed, unless the store fails that the expiry of this client wants first
abbrev pub or_fails : ℕ → CoreState → List ℕ → Deed → Deed
or_fails n s client d = if may_expire n s client then d else FailsStore (without_name (client_name client) s.stable)

abbrev pub lapse_of : ℕ → CoreState → Claim → Option (List ℕ) → Deed
lapse_of n s cache None = Lapses cache
lapse_of n s cache (Some client) = or_fails n s client (Lapses cache)

-- the breaks whose deadline has come, in the order in which they are due
abbrev pub lapses : ℕ → CoreState → List Deed
lapses n s = deeds_in_turn is_still_held (λ t cache. lapse_of n t cache (client_of t.names cache.party)) n (due s) s

-- the clients whose lease has ended, in the order of their id strings
abbrev pub expiries : ℕ → CoreState → List Deed
expiries n s = deeds_in_turn is_lease_over (λ t client. or_fails n t client (Expires client)) n (ended s.clock s.leases) s

-- the end of the grace that runs, if it has come, or the store that failed first
abbrev pub grace_deeds : ℕ → CoreState → List Deed
grace_deeds n s = if is_over s.grace s.clock then (if may_store n s then EndsGrace else FailsStore (shortened s.grace s.stable)) ∷ [] else []

abbrev pub and_grace : ℕ → CoreState → List Deed → List Deed
and_grace n s ds = ds ++ grace_deeds n (all_done n s ds)

-- what a reading of the clock does: it rises, each break is over whose deadline has come, each client whose lease has ended
-- expires, and the grace that runs ends
abbrev pub tick_deeds : ℕ → CoreState → Moment → List Deed
tick_deeds n s now = let t = advanced s now in Advances now ∷ and_grace n t (lapses n t ++ expiries n (all_done n t (lapses n t)))

-- ---- caches

-- those of a party that ends go
abbrev pub caches_without_party : Option Party → List Claim → List Claim
caches_without_party None caches = caches
caches_without_party (Some party) caches = filter (λ c. not (same_parties c.party party)) caches

-- the cache goes, or those of its client that expires
abbrev pub caches_without : List Name → Claim → Option (List ℕ) → List Claim → List Claim
caches_without names cache None caches = removed cache caches
caches_without names cache (Some client) caches = caches_without_party (party_named names (NfsParty client)) caches

-- the caches for which the waiter of this number wishes
abbrev pub wish_by_number : ℕ → List Waiter → List CacheKind
wish_by_number id [] = []
wish_by_number id (w ∷ ws) = if w.id == id then w.wish else wish_by_number id ws

-- what the waiter of this number asks for
abbrev pub asked_by : ℕ → List Waiter → List Claim
asked_by id [] = []
asked_by id (w ∷ ws) = if w.id == id then w.asked else asked_by id ws

-- the state once the waiter of this number is answered so, before its wish is granted
abbrev pub once_served : CoreState → ℕ → Answer → CoreState
once_served s id answer = record s { claims = held_once (asked_by id s.waiters) answer s.claims; waiters = cancelled id s.waiters }

-- the caches once the wish is granted of one who is served
abbrev pub caches_served : CoreState → List Effect → List Claim → List Claim
caches_served s [] caches = caches
caches_served s (Served party id answer ∷ effects) caches = caches_wished (wish_by_number id s.waiters) answer (once_served s id answer) caches
caches_served s (effect ∷ effects) caches = caches_served s effects caches

-- and that of an ask
abbrev pub caches_asked : ℕ → Rooms → CoreState → Ask → List Claim → List Claim
caches_asked n left s a caches = if does_wish a.act then caches_wished a.wish (ask n left s a).0 (before_wish n left s a).2 caches else caches

-- The caches after one deed, of those that were held: one that is given back goes; of one whose break is answered that is
-- left which the answer says; one whose deadline passed goes, or those of its client; and those of a party that ends go.
-- Where an ask or a turn begins breaks those are left that are left then, and what is granted has the cache that its wish gets.
abbrev pub caches_after : ℕ → CoreState → Deed → List Claim → List Claim
caches_after n s (Asks left a) caches = caches_asked n left s a (caches_of (way left s a).1.claims)
caches_after n s (Serves left) caches = caches_served (next_way s).1 (given n s (Serves left)).1 (caches_of (next_way s).1.claims)
caches_after n s (GivesBack claim) caches = removed claim caches
caches_after n s (Acks cache to) caches = with_rest cache to caches
caches_after n s (Ends party) caches = caches_without_party (Some party) caches
caches_after n s (Lapses cache) caches = caches_without s.names cache (client_of s.names cache.party) caches
caches_after n s (Expires client) caches = caches_without_party (party_named s.names (NfsParty client)) caches
caches_after n s (Closes number party) caches = caches_without_party party caches
caches_after n s _ caches = caches

-- and after these
abbrev pub all_caches_after : ℕ → CoreState → List Deed → List Claim → List Claim
all_caches_after n s [] caches = caches
all_caches_after n s (d ∷ ds) caches = all_caches_after n (done n s d) ds (caches_after n s d caches)

-- ---- breaks that run

-- the cache is this one, or its client's that expires
abbrev pub is_lapsed : List Name → Claim → Option (List ℕ) → Claim → Bool
is_lapsed names cache None c = same_claims cache c
is_lapsed names cache (Some client) c = is_of_some (party_named names (NfsParty client)) c

-- The deed ends the break that runs of this cache: it is the party's answer, gives the cache back, ends its party, is the
-- passing of the deadline, the expiry of the client, or the close of its last open.
abbrev pub ends_break : CoreState → Claim → Deed → Bool
ends_break s c (GivesBack claim) = same_claims claim c
ends_break s c (Acks cache to) = same_claims cache c
ends_break s c (Ends party) = same_parties c.party party
ends_break s c (Lapses cache) = is_lapsed s.names cache (client_of s.names cache.party) c
ends_break s c (Expires client) = is_of_some (party_named s.names (NfsParty client)) c
ends_break s c (Closes number party) = is_of_some party c
ends_break s c _ = false

-- one of these does, in the state that those before it left
abbrev pub any_ends_break : ℕ → CoreState → Claim → List Deed → Bool
any_ends_break n s c [] = false
any_ends_break n s c (d ∷ ds) = ends_break s c d || any_ends_break n (done n s d) c ds

-- ---- names

-- each name that is kept stands at its number
abbrev pub KeepNames : List Name → List Name → Type 0
KeepNames old new = (number : ℕ) (name : Name) → slice_get old number ≡ Some name → slice_get new number ≡ Some name
