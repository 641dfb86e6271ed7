-- What holds of each entry of a journal, whatever protocol it came by: what is held afterwards, who waits, what was
-- granted, what caused it, and what is sent.
use Rattle.std.specs.Prelude.{◌≡◌, ◌⊎◌, ℕ, ◌==◌, Bool, true, false, List, [], ◌∷◌}
use Rattle.std.specs.List.{AllByRecursion}
use Rattle.xl_base.specs.Lists.{IsIn}
use Rattle.xl_base.specs.declared.event.Event.{Event}
use Rattle.xl_base.specs.declared.event.Event.TheVariants.{Message, End, Called, Tick, Restart}
use Rattle.xl_base.specs.declared.event.Moment.{Moment}
use Rattle.xl_base.specs.declared.journal.Entry.{Entry}
use Rattle.xl_cache.specs.BreakPlans.{is_running}
use Rattle.xl_grace.specs.Grace.{is_over}
use Rattle.xl_matrix.specs.Matrix.{compat}
use Rattle.xl_matrix.specs.declared.claim.Claim.{Claim}
use Rattle.xl_table.specs.Held.{is_cache}
use Rattle.xl_core.specs.State.{CoreState, step_begun}
use Rattle.xl_core.specs.BreakAnswers.{due, client_of}
use Rattle.xl_core.specs.Deeds.{Deed, Asks, GivesBack, Weakens, Acks, Cancels, Ends, Closes, Serves, Draws, Advances, Lapses, Renews, Expires, FailsStore, EndsGrace, all_done, queue_after, any_ends_break, KeepNames}
use Rattle.xl_core.specs.Dues.{AreDue, AreInTurn, IsPutOff, IsLate}
use Rattle.xl_core.specs.Leases.{ended}
use Rattle.xl_core.specs.Places.{Place, held_at, stands}
use Rattle.xl_core.specs.declared.ask.Act.{Act}
use Rattle.xl_core.specs.declared.ask.Act.TheVariants.{Unlock}
use Rattle.xl_house.specs.Done.{Round, behind_own, rounds, deeds, messages}
use Rattle.xl_house.specs.Machine.{step}
use Rattle.xl_house.specs.Own.{own_of}
use Rattle.xl_house.specs.Owners.{AreOf}
use Rattle.xl_house.specs.State.{Whole, as_found}
use Rattle.xl_house.specs.Timed.{leases_after, clock_after}

-- a law of an entry: between the state before it and the one after, for its event and its stores
abbrev pub Law : Type 1
Law = ℕ → Whole → Entry → Whole → Type 0

-- it holds of each entry of the journal
abbrev pub Always : Law → Whole → List Entry → Type 0
Always law s [] = Unit {0}
Always law s (e ∷ es) = law e.stores s e (step e.stores s e.event).next × Always law (step e.stores s e.event).next es

-- the core as the entry's deeds find it
abbrev pub found : Whole → CoreState
found s = step_begun s.core

-- ---- lawful

-- at each place there is what the deeds, of the core as they find it, made of what was there before the entry
abbrev pub IsLeftBy : ℕ → Whole → List Deed → CoreState → Type 0
IsLeftBy n s ds t = (p : Place) → held_at t p ≡ stands n (found s) ds p (held_at s.core p)

-- what is held afterwards, which leases run, and what the clock shows, by the event
abbrev pub IsLawfulBy : ℕ → Whole → Event → Whole → Type 0
IsLawfulBy n s Restart t = ((p : Place) → held_at t.core p ≡ []) × (t.core.leases ≡ []) × (t.core.clock ≡ s.core.clock)
IsLawfulBy n s event t =
    IsLeftBy n s (deeds n s event) t.core × (t.core.leases ≡ leases_after n (found s) (deeds n s event) s.core.leases) × (t.core.clock ≡ clock_after event s.core.clock)

-- At each place there is what the last of the entry's deeds that reaches it made of it, and if none does, what was
-- there. The leases are those that ran, except for what the deeds made of them: each client that one renews has its own
-- for a whole lease time from then on, and who expires has none. The clock shows what is read, if that is later, and
-- else stays. A restart leaves nothing except the clock.
abbrev pub IsLawful : Law
IsLawful n s e t = IsLawfulBy n s e.event t

-- ---- waiting

-- who waits afterwards, by the event
abbrev pub IsWaitingBy : ℕ → Whole → Event → Whole → Type 0
IsWaitingBy n s Restart t = t.core.waiters ≡ []
IsWaitingBy n s event t = (t.core.waiters ≡ queue_after n (found s) (deeds n s event) s.core.waiters) × KeepNames s.core.names t.core.names

-- Who waits is who waited, except for those whom the deeds queued, took out, ended or served, each by its own line, in
-- order; and each name is at its number. After a restart nobody waits.
abbrev pub IsWaiting : Law
IsWaiting n s e t = IsWaitingBy n s e.event t

-- ---- kept until it is answered

-- the cache is held, and beside it no share or range that it guards against
abbrev pub IsGuarding : Claim → List Claim → Type 0
IsGuarding c claims = IsIn c claims × AllByRecursion (λ d. is_cache d.what ≡ false → compat c d ≡ true) claims

-- which caches are held afterwards, by the event
abbrev pub IsKeptBy : ℕ → Whole → Event → Whole → Type 0
IsKeptBy n s Restart t = t.core.claims ≡ []
IsKeptBy n s event t = (c : Claim) → IsIn c s.core.claims → is_running c.what ≡ true → any_ends_break n (found s) c (deeds n s event) ≡ false → IsGuarding c t.core.claims

-- A cache of which a break runs before the entry is held after it with that break, at its full kind, and no share or
-- range is held that it guards against, unless one of the entry's deeds is its party's answer, gives it back, ends its
-- party, is the passing of its deadline, or the expiry of its client (MS-SMB2 3.3.4.6, 3.3.4.7, 3.3.6.1; RFC 7530
-- 10.4.4 to 10.4.6). A restart leaves nothing.
abbrev pub IsKept : Law
IsKept n s e t = IsKeptBy n s e.event t

-- ---- complete

-- What a reading of the clock owes, whose own deeds leave the core so. A break whose deadline has come is left only if it is that of a
-- client whose expiry is put off, and at its end a lease that has ended runs only if its client's is: a store of the reading failed,
-- and the record has the client still. And the grace whose end has come runs on only if a store failed (MS-SMB2 3.3.6.1; RFC 7530
-- 9.5, 9.6.3, 10.4.6). Breaks are over in the order in which they are due, and clients expire in the order of their id strings: what
-- stands ahead of one and isn't taken before it is left by the last of these deeds.
pub record IsOnTimeWith (n : ℕ) (s : Whole) (ds : List Deed) (left : CoreState) (t : Whole) : Type 0 where
  pub breaks : AllByRecursion (λ c. IsLate left (client_of left.names c.party)) (due left)
  pub leases : AllByRecursion (λ client. IsPutOff left.failed left.stable client) (ended t.core.clock t.core.leases)
  pub grace : is_over left.grace left.clock ≡ true → left.failed ≡ true
  pub turns : AreInTurn n (found s) ds left

abbrev pub IsOnTime : ℕ → Whole → Moment → Whole → Type 0
IsOnTime n s now t = let ds = (own_of n (as_found s) (Tick now)).deeds in IsOnTimeWith n s ds (all_done n (found s) ds) t

-- what is owed by the event
abbrev pub IsOnTimeBy : ℕ → Whole → Event → Whole → Type 0
IsOnTimeBy n s (Tick now) t = IsOnTime n s now t
IsOnTimeBy n s event t = Unit {0}

-- Each deed is given what is due to it, in the state that those before it left: an ask that grace lets in, that nothing held
-- stands against, nor, unless it is a reclaim, the range of one who waits, and for which there is room is granted, if its client is
-- recorded or can be; each answer has its cause, and each turn is that of the first waiter who isn't held up. And a reading of the
-- clock does what is due by then.
abbrev pub IsComplete : Law
IsComplete n s e t = AreDue n (found s) (deeds n s e.event) × IsOnTimeBy n s e.event t

-- ---- caused

-- the act gives bytes up
abbrev pub is_unlock : Act → Bool
is_unlock (Unlock extent) = true
is_unlock act = false

-- which event does what itself: a message asks, gives back, makes a share weaker, answers a break, cancels, ends, renews or
-- draws a number, the end of a connection closes opens, the end of a call unlocks, and a reading of the clock has it show that moment,
-- ends breaks, lets clients expire and ends the grace that runs, or fails to store the record first
abbrev pub may_do : Event → Deed → Bool
may_do (Message number bytes) (Asks left a) = true
may_do (Message number bytes) (GivesBack claim) = true
may_do (Message number bytes) (Weakens share access deny) = true
may_do (Message number bytes) (Acks cache to) = true
may_do (Message number bytes) (Cancels id) = true
may_do (Message number bytes) (Ends party) = true
may_do (Message number bytes) (Closes opened party) = true
may_do (Message number bytes) (Renews client) = true
may_do (Message number bytes) Draws = true
may_do (End number) (Closes opened party) = true
may_do (Called number bytes) (Asks left a) = is_unlock a.act
may_do (Tick now) (Advances moment) = moment.0 == now.0
may_do (Tick now) (Lapses cache) = true
may_do (Tick now) (Expires client) = true
may_do (Tick now) (FailsStore stable) = true
may_do (Tick now) EndsGrace = true
may_do event deed = false

-- what may stand behind: turns, and the numbers of the calls that tell of them
abbrev pub may_follow : Deed → Bool
may_follow (Serves left) = true
may_follow Draws = true
may_follow deed = false

-- a message that stands in a frame of several
abbrev pub IsPart : Event → Type 0
IsPart cause = (conn : ℕ) × (message : List ℕ) × (cause ≡ Message conn message)

-- What is done in a round is done by the entry's event, or by a part of a frame that it brings or that goes on by it. Each of
-- its own deeds is one that such an event may do; a message's are of the clients that the message names, or of opens of its
-- connection, those of a connection's end are of its opens, and those of a call's end of the grant that it sent; behind them
-- stand turns alone.
pub record IsCausedBy (n : ℕ) (event : Event) (r : Round) : Type 0 where
  pub cause : (r.cause ≡ event) ⊎ IsPart r.cause
  pub own : AllByRecursion (λ d. may_do r.cause d ≡ true) r.own.deeds
  pub clients : AreOf n r.found.exports r.found.front r.found.core r.own.whose r.own.deeds
  pub behind : AllByRecursion (λ d. may_follow d ≡ true) (behind_own r)

-- each deed of the entry has its cause in the event
abbrev pub IsCaused : Law
IsCaused n s e t = AllByRecursion (λ r. IsCausedBy n e.event r) (rounds n s e.event)

-- ---- sent

-- What is sent is what telling of the own deeds of each round sends, the fronts' reply to what they were answered, and behind it what
-- telling of the turns sends; the replies of a frame of several messages are sent together.
abbrev pub IsTold : Law
IsTold n s e t = e.outs ≡ messages n s e.event
