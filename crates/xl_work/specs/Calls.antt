-- What a caller makes of the calls that a journal asks for.
use Rattle.std.specs.Prelude.{◌≡◌, ℕ, ◌+◌, ◌-◌, ◌<◌, ◌≤◌, ◌%◌, ◌^◌, ◌==◌, Bool, true, false, if◌then◌else◌, List, [], ◌∷◌, ◌++◌, map, length, take, drop, Option, Some, None}
use Rattle.std.specs.List.{AllByRecursion}
use mathlib.Core.List.{IsPrefix}
use Rattle.xl_base.specs.Lists.{IsIn}
use Rattle.xl_base.specs.Telling.{Follows}
use Rattle.xl_base.specs.declared.caller.Asked.{Asked}
use Rattle.xl_base.specs.declared.caller.Asked.TheVariants.{Call, Idle}
use Rattle.xl_base.specs.declared.caller.CallOutcome.{CallOutcome}
use Rattle.xl_base.specs.declared.caller.CallOutcome.TheVariants.{Answer}
use Rattle.xl_base.specs.declared.event.Dest.{Dest}
use Rattle.xl_base.specs.declared.event.Dest.TheVariants.{Conn, Back}
use Rattle.xl_base.specs.declared.event.Event.{Event}
use Rattle.xl_base.specs.declared.event.Event.TheVariants.{Called}
use Rattle.xl_base.specs.declared.event.Out.{Out}
use Rattle.xl_base.specs.declared.journal.Entry.{Entry}
use Rattle.xl_base.specs.declared.halt.Halt.{Halt}
use Rattle.xl_base.specs.declared.lane_end.LaneEnd.{LaneEnd}
use Rattle.xl_base.specs.declared.lane_end.LaneEnd.TheVariants as lane_end
use Rattle.xl_desk.specs.declared.view.View.{View}
use Rattle.xl_desk.specs.Passes.{Goes}
use Rattle.xl_work.specs.declared.calls.CallerPost.{CallerPost}

-- ---- the calls of a share

-- the number of a call
abbrev pub number_of : Dest → ℕ
number_of (Conn number) = 0
number_of (Back call) = call

abbrev pub number : Out → ℕ
number o = number_of o.dest

-- a call is of this share of so many
abbrev pub is_of_share : ℕ → ℕ → Dest → Bool
is_of_share share parts (Conn number) = false
is_of_share share parts (Back call) = call % parts == share

abbrev pub share_of : ℕ → ℕ → List Out → List Out
share_of share parts [] = []
share_of share parts (o ∷ os) = if is_of_share share parts o.dest then o ∷ share_of share parts os else share_of share parts os

-- the calls of a share that entries ask for, in order
abbrev pub asked_in : ℕ → ℕ → List Entry → List Out
asked_in share parts [] = []
asked_in share parts (e ∷ es) = share_of share parts e.outs ++ asked_in share parts es

-- their numbers rise from above k on
abbrev pub Rises : ℕ → List Out → Type 0
Rises k [] = Unit {0}
Rises k (o ∷ os) = (k < number o) × Rises (number o) os

-- ---- what a caller did

-- what is entered as a call's answer: nobody's if the call failed
abbrev pub answer_of : CallOutcome → Option (List ℕ)
answer_of (Answer bytes) = Some bytes
answer_of _ = None

-- the calls' numbers
abbrev pub called : Event → ℕ
called (Called call answer) = call
called _ = 0

abbrev pub numbers : List (ℕ × Event) → List ℕ
numbers calls = map (λ c. called c.1) calls

-- the end of a call
abbrev pub is_called : Event → Bool
is_called (Called call answer) = true
is_called _ = false

-- the entries ask for this call
abbrev pub HasAsked : List Entry → ℕ → List ℕ → List ℕ → Type 0
HasAsked log call to bytes = (e : Entry) × (o : Out) × IsIn e log × IsIn o e.outs × (o.dest ≡ Back call) × (o.to ≡ to) × (o.bytes ≡ bytes)

-- What the caller was asked for is what its calls were entered for, in order: each is the end of a call that the journal
-- asks for, made to its address with its bytes, with the answer that it was given. At each idle all calls of the share were
-- made that stand before its place, which is at least the start's.
abbrev pub Answers : CallerPost → ℕ → ℕ → List Entry → List ℕ → List Asked → List (ℕ × Event) → Type 0
Answers post first start log made [] calls = calls ≡ []
Answers post first start log made (Idle place ∷ more) calls = (start ≤ place) × (first ≤ place) × (place ≤ first + length log) × (Rises 0 (asked_in post.share post.of log) → made ≡ map number (asked_in post.share post.of (take (place - first) log))) × Answers post first start log made more calls
Answers post first start log made (Call to bytes outcome ∷ more) [] = ⊥
Answers post first start log made (Call to bytes outcome ∷ more) (c ∷ cs) = (c.1 ≡ Called (called c.1) (answer_of outcome)) × HasAsked log (called c.1) to bytes × Answers post first start log (made ++ called c.1 ∷ []) more cs

-- a last call, which the machine didn't take any more, or for whose answer there was no memory
abbrev pub IsLast : List Entry → List Asked → Type 0
IsLast log [] = Unit {0}
IsLast log (Call to bytes outcome ∷ []) = (call : ℕ) × HasAsked log call to bytes
IsLast log _ = ⊥

-- What a caller with this post made of its turns in this journal, of which it had seen all before the place `start` at first: its
-- calls are the ends of calls, and, in order, the first of its share, if their numbers rise.
pub record CallerMade (post : CallerPost) (start first : ℕ) (log : List Entry) (told told' : Option (List Asked)) (calls : List (ℕ × Event)) : Type 0 where
  pub ends : AllByRecursion (λ c. is_called c.1 ≡ true) calls
  pub in_order : Rises 0 (asked_in post.share post.of log) → IsPrefix (numbers calls) (map number (asked_in post.share post.of log))
  pub asked : Follows told told' (λ old new. (asked : List Asked) × (last : List Asked) × (new ≡ (old ++ asked) ++ last) × IsLast log last × Answers post first start log [] asked calls)

-- what a caller made by the calls of its pass
pub record AreMade {O : Type 0} (post : CallerPost) (told : Option (List Asked)) (before : View O) (told' : Option (List Asked)) (after : View O) : Type 0 where
  pub goes : Goes before after
  pub shares : after.shares ≡ before.shares
  pub calls : List (ℕ × Event)
  pub mine : after.mine ≡ before.mine ++ calls
  pub made : after.made ≡ before.made + length calls
  pub caller : CallerMade post (before.first + length before.seen) after.first after.seen told told' calls

-- ---- on the way

abbrev pub last_or : ℕ → List ℕ → ℕ
last_or k [] = k
last_or k (x ∷ xs) = last_or x xs

-- no number is above k
abbrev pub AllLow : ℕ → List Out → Type 0
AllLow k os = AllByRecursion (λ o. number o ≤ k) os

-- If the numbers rise: the calls made are all of the share before a place, and some behind it, up to the last one made.
pub record IsOnWay (post : CallerPost) (first from after : ℕ) (log : List Entry) (made : List ℕ) : Type 0 where
  pub low : first ≤ from
  pub high : from ≤ first + length log
  pub last : after ≡ last_or 0 made
  pub way : Rises 0 (asked_in post.share post.of log) → (done : List Out) × (due : List Out) × (asked_in post.share post.of (drop (from - first) log) ≡ done ++ due) × (made ≡ map number (asked_in post.share post.of (take (from - first) log) ++ done)) × AllLow after done

-- a caller goes on: what it has made so far, all calls before the place `from` and those behind it up to the number `last`
pub record IsGoing {O : Type 0} (post : CallerPost) (told : Option (List Asked)) (before : View O) (told' : Option (List Asked)) (after : View O) (from last : ℕ) : Type 0 where
  pub goes : Goes before after
  pub shares : after.shares ≡ before.shares
  pub calls : List (ℕ × Event)
  pub mine : after.mine ≡ before.mine ++ calls
  pub ends : AllByRecursion (λ c. is_called c.1 ≡ true) calls
  pub made : after.made ≡ before.made + length calls
  pub way : IsOnWay post after.first from last after.seen (numbers calls)
  pub asked : Follows told told' (λ old new. (asked : List Asked) × (new ≡ old ++ asked) × Answers post after.first (before.first + length before.seen) after.seen [] asked calls)

-- a count rose by so many, or is at its last value
abbrev pub RoseBy : ℕ → ℕ → ℕ → Type 0
RoseBy n before now = now < 2 ^ 64 - 1 → now ≡ before + n

-- a count rose by at most so many
abbrev pub RoseAtMost : ℕ → ℕ → ℕ → Type 0
RoseAtMost n before now = now ≤ before + n

-- why a worker's turns were cut off: the machine is halted for a reason that may come there, and the pass has seen just so many
-- entries; or memory ran out
abbrev pub IsCut : {O : Type 0} → (List Entry → Halt → Type 0) → View O → LaneEnd → Type 0
IsCut may_halt v (lane_end.Stopped reason count) = (v.halt ≡ Some reason) × (length v.seen ≡ count) × may_halt v.seen reason
IsCut may_halt v lane_end.NoMemory = Unit {0}
IsCut may_halt v (lane_end.Turns n) = ⊥
IsCut may_halt v lane_end.End = ⊥
IsCut may_halt v (lane_end.Failed count) = ⊥

-- why the calls ended: they were cut off, or all turns are done, in each of which the caller was asked something if the
-- gate is open
abbrev pub IsEnd : {O : Type 0} → (List Entry → Halt → Type 0) → Bool → ℕ → View O → ℕ → ℕ → LaneEnd → Type 0
IsEnd may_halt open_gate turns v asked asked' (lane_end.Turns n) = (n ≡ turns) × (open_gate ≡ true → RoseBy turns asked asked')
IsEnd may_halt open_gate turns v asked asked' end = IsCut may_halt v end
