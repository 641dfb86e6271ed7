-- What the steps of a capture make.
use Rattle.std.specs.Prelude.{◌≡◌, ℕ, ◌<◌, ◌≤◌, Bool, true, false, not, if◌then◌else◌, List, [], ◌∷◌, length, map, slice_get, take, Option, None, Some, Result, Ok, Err}
use Rattle.std.specs.List.{list_any}
use Rattle.xl_base.specs.declared.event.Event.{Event}
use Rattle.xl_base.specs.declared.halt.Halt.{Halt}
use Rattle.xl_base.specs.declared.halt.Halt.TheVariants.{NoMemory, JournalFull, StartStore}
use Rattle.xl_base.specs.declared.journal.Entry.{Entry}
use Rattle.xl_base.specs.declared.journal.Head.{Head}
use Rattle.xl_house.specs.declared.start.Ended.{Ended}
use Rattle.xl_capture.specs.Capture.{all_stores}
use Rattle.xl_capture.specs.declared.step.Step.{Step}
use Rattle.xl_base.specs.Memory.{BudgetStorage}
use Rattle.xl_house.specs.Awaited.{IsServed}
use Rattle.xl_house.specs.Housed.{Housed, is_spoiled}
use Rattle.xl_house.specs.Journals.{IsLegal, IsOrderly, entry, entries_of, may_enter, most_entries}
use Rattle.xl_house.specs.Lawful.{Always}
use Rattle.xl_house.specs.Machine.{step}
use Rattle.xl_house.specs.State.{Whole, start_of}

-- ---- steps

-- the events of steps, how many stores of each succeed, and both
abbrev pub events_of : List Step → List Event
events_of steps = map (λ s. s.event) steps

abbrev pub stores_of : List Step → List ℕ
stores_of steps = map (λ s. s.stores) steps

abbrev pub pairs_of : List Step → List (Event × ℕ)
pairs_of steps = map (λ s. (s.event, s.stores)) steps

-- a start that fails, since its store does: a replay ends with it (HOUSE-10)
abbrev pub is_failed_start : Step → Bool
is_failed_start s = not (may_enter s.stores s.event)

abbrev pub has_failed_start : List Step → Bool
has_failed_start steps = list_any is_failed_start steps

-- the steps that a replay comes to: up to the first start that fails, and with it
abbrev pub tried : List Step → List Step
tried [] = []
tried (s ∷ ss) = if is_failed_start s then s ∷ [] else s ∷ tried ss

-- the entries that the steps make, if the journal has room for them
abbrev pub made_of : Whole → List Step → List Entry
made_of s steps = entries_of s (pairs_of steps)

-- ---- entries

-- the events of entries
abbrev pub events_in : List Entry → List Event
events_in [] = []
events_in (e ∷ es) = e.event ∷ events_in es

-- the events of entries, each with its stores
abbrev pub pairs_in : List Entry → List (Event × ℕ)
pairs_in es = map (λ e. (e.event, e.stores)) es

-- how many stores succeed at a place: all, if nothing is said of it
abbrev pub or_all : Option ℕ → ℕ
or_all None = all_stores
or_all (Some stores) = stores

abbrev pub allowed_at : List ℕ → ℕ → ℕ
allowed_at allowed place = or_all (slice_get allowed place)

-- the entry is what its event makes in this state if so many stores succeed, and leads where they do
pub record IsMade (stores : ℕ) (s : Whole) (e : Entry) : Type 0 where
  pub entry : e ≡ entry stores s e.event
  pub next : (step e.stores s e.event).next ≡ (step stores s e.event).next
  pub enters : may_enter stores e.event ≡ true

-- each entry is, with the stores that are allowed at its place
abbrev pub AreMade : Whole → List Entry → List ℕ → Type 0
AreMade s [] allowed = Unit {0}
AreMade s (e ∷ es) [] = IsMade all_stores s e × AreMade (step e.stores s e.event).next es []
AreMade s (e ∷ es) (n ∷ allowed) = IsMade n s e × AreMade (step e.stores s e.event).next es allowed

-- ---- how a replay ends

-- All steps were made, and no start failed; or memory ran out; or a step met a full journal; or a start failed, for which the journal had
-- room.
abbrev pub HasEnded : Whole → List Step → List Entry → Result (Unit {0}) Halt → Type 0
HasEnded s steps es (Ok done) = (es ≡ made_of s steps) × (has_failed_start steps ≡ false)
HasEnded s steps es (Err NoMemory) = Unit {0}
HasEnded s steps es (Err (JournalFull count)) = (length es ≡ most_entries) × (most_entries < length (tried steps))
HasEnded s steps es (Err (StartStore count)) = (es ≡ made_of s steps) × (has_failed_start steps ≡ true) × (length es < most_entries)

-- the entries are a beginning of what the steps make, and all unless the replay ended before
pub record IsEnded (s : Whole) (steps : List Step) (es : List Entry) (ended : Result (Unit {0}) Halt) : Type 0 where
  pub begun : take (length es) (made_of s steps) ≡ es
  pub so : HasEnded s steps es ended

-- ---- the house

-- a house, and how many stores of the step at each place succeed
pub record Replaying : Type 0 where
  pub house : Housed BudgetStorage
  pub allowed : List ℕ

-- what is left of a replay: its house, or what ended as it was to start
abbrev pub head_left : {K : Type 0} → Result (Housed K) (Ended K) → Head
head_left (Ok h) = h.head
head_left (Err e) = e.journal.head

abbrev pub entries_left : {K : Type 0} → Result (Housed K) (Ended K) → List Entry
entries_left (Ok h) = h.entries
entries_left (Err e) = e.journal.entries

-- what it began from, and how many stores succeed
abbrev pub origin_of : Replaying → Head × List ℕ
origin_of r = (r.house.head, r.allowed)

-- a house whose start failed, or found no memory, leaves a journal as lawful as its own
pub record IsUnstarted {K : Type 0} (e : Ended K) (ended : Result (Unit {0}) Halt) : Type 0 where
  pub legal : IsLegal (start_of e.journal.head) e.journal.entries
  pub served : Always IsServed (start_of e.journal.head) e.journal.entries
  pub orderly : IsOrderly [] 0 e.journal.entries
  pub most : length e.journal.entries ≤ most_entries
  pub halt : ended ≡ Err e.halt
  pub full : (count : ℕ) → e.halt ≡ JournalFull count → ⊥

-- a house isn't spoiled if all steps were made, or the journal is full
abbrev pub IsWhole : {K : Type 0} → Housed K → Result (Unit {0}) Halt → Type 0
IsWhole h (Err NoMemory) = Unit {0}
IsWhole h (Err (StartStore count)) = ⊥
IsWhole h ended = is_spoiled h.halt ≡ false

abbrev pub IsLeft : {K : Type 0} → Result (Housed K) (Ended K) → Result (Unit {0}) Halt → Type 0
IsLeft (Ok h) ended = IsWhole h ended
IsLeft (Err e) ended = IsUnstarted e ended
