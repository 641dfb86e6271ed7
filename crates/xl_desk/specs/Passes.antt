-- What a pass knows after each call of its desk.
use Rattle.std.specs.Prelude.{◌≡◌, ◌+◌, ℕ, List, [], ◌∷◌, ◌++◌, length, Some, None, IfSome}
use mathlib.Core.List.{IsPrefix}
use Rattle.atomic_table.specs.Seated.{TableId}
use Rattle.xl_base.specs.declared.event.Event.{Event}
use Rattle.xl_base.specs.declared.halt.Halt.{Halt}
use Rattle.xl_base.specs.declared.journal.Entry.{Entry}
use Rattle.xl_desk.specs.declared.fault.DeskErr.{DeskErr}
use Rattle.xl_desk.specs.declared.fault.DeskErr.TheVariants.{Halted, Stopped}
use Rattle.xl_desk.specs.declared.view.View.{View}
use Rattle.xl_desk.specs.Turns.{either_halt}

-- the view is of a machine that began from something, whose first entry has the view's first place
abbrev pub IsRooted : {O : Type 0} → (O → ℕ) → View O → Type 0
IsRooted {O} first v = (origin : O) × (v.origin ≡ Some origin) × (v.first ≡ first origin)

-- and what it has seen is a lawful history of that machine
abbrev pub IsLawful : {O : Type 0} → (O → ℕ) → (O → List Entry → Type 0) → View O → Type 0
IsLawful {O} first lawful v = (origin : O) × (v.origin ≡ Some origin) × (v.first ≡ first origin) × lawful origin v.seen

-- a pass as its holder sees it: which desk it is of, and what it knows
pub record Known (O : Type 0) : Type 0 where
  pub desk : TableId
  pub view : View O

module _ {O : Type 0} where
  -- The pass has seen at least as much as before, and is of the same machine. A halt that it has seen is final, and it has seen
  -- the whole journal then (THREAD-11).
  pub record Goes (before after : View O) : Type 0 where
    pub seen : IsPrefix before.seen after.seen
    pub origin : after.origin ≡ before.origin
    pub first : after.first ≡ before.first
    pub start : after.start ≡ before.start
    pub halt : IfSome before.halt (λ reason. after.halt ≡ Some reason)
    pub whole : IfSome before.halt (λ _. after.seen ≡ before.seen)

  -- no call of the pass more
  pub record MadeNone (before after : View O) : Type 0 where
    pub mine : after.mine ≡ before.mine
    pub made : after.made ≡ before.made
    pub shares : after.shares ≡ before.shares

  -- The journal begins with all that the pass had seen, and ends with this call, at this place; it is one more call of
  -- the pass, and the only one, whose own place counts from the first entry (THREAD-3). The machine isn't halted.
  pub record IsCalled (before after : View O) (place : ℕ) (event : Event) : Type 0 where
    pub goes : Goes before after
    pub seen : (between : List Entry) × (entry : Entry) × (after.seen ≡ (before.seen ++ between) ++ entry ∷ []) × (place ≡ before.first + length (before.seen ++ between)) × (entry.event ≡ event)
    pub mine : (at : ℕ) × (place ≡ before.first + at) × (after.mine ≡ before.mine ++ (at, event) ∷ [])
    pub made : after.made ≡ before.made + 1
    pub shares : after.shares ≡ before.shares
    pub runs : after.halt ≡ None

  -- the pass has seen just so many entries, behind which the machine is halted for this reason, for good (THREAD-4)
  pub record IsHalted (may_halt : List Entry → Halt → Type 0) (before after : View O) (reason : Halt) (n : ℕ) : Type 0 where
    pub goes : Goes before after
    pub none : MadeNone before after
    pub count : length after.seen ≡ n
    pub may : may_halt after.seen reason
    pub halt : after.halt ≡ Some reason

  -- why a call was not entered
  abbrev pub IsRefused : (List Entry → Halt → Type 0) → View O → View O → DeskErr → Type 0
  IsRefused may_halt before after (Halted reason count) = IsHalted may_halt before after reason count
  IsRefused may_halt before after (Stopped reason count) = IsHalted may_halt before after reason count

  -- the journal was looked at
  pub record IsLooked (before after : View O) : Type 0 where
    pub goes : Goes before after
    pub none : MadeNone before after

  -- The pass has seen at least what both had seen, has both passes' calls, and both one's shares. A halt that either has seen
  -- is final, and the pass has seen just the journal that it had seen then.
  pub record IsJoined (before other after : View O) : Type 0 where
    pub goes : Goes before after
    pub told : IsPrefix other.seen after.seen
    pub mine : after.mine ≡ before.mine ++ other.mine
    pub made : after.made ≡ before.made + other.made
    pub shares : after.shares ≡ before.shares + other.shares
    pub halt : after.halt ≡ either_halt before.halt other.halt
    pub stops : IfSome other.halt (λ reason. (after.halt ≡ Some reason) × (after.seen ≡ other.seen))
