-- Values that take one event after another, each of which is one entry of their history.
use Rattle.std.specs.Prelude.{◌≡◌, ℕ, ◌+◌, ◌<◌, ◌≤◌, ◌^◌, List, [], ◌∷◌, ◌++◌, length}
use Rattle.xl_base.specs.declared.event.Event.{Event}
use Rattle.xl_base.specs.declared.event.Event.TheVariants.{End}
use Rattle.xl_base.specs.declared.journal.Entry.{Entry}
use Rattle.xl_base.specs.Outs.{IsSilent}

-- One entry with this event was added at this place, which counts from that of the first entry and is below 2^63.
abbrev pub Extends : ℕ → List Entry → List Entry → Event → ℕ → Type 0
Extends first before after event place = (entry : Entry) × (after ≡ before ++ entry ∷ []) × (entry.event ≡ event) × (place ≡ first + length before) × (place < 2 ^ 63)

-- No out goes to a connection before the entry of its number, the place of its opening, or after its end: an end at or
-- before that place isn't its own.
pub record IsInTime (first : ℕ) (log : List Entry) : Type 0 where
  pub opening : (before behind : List Entry) (number : ℕ) → log ≡ before ++ behind → first + length before ≤ number → IsSilent number before
  pub ending : (before behind : List Entry) (e : Entry) (number : ℕ) → log ≡ before ++ e ∷ behind → e.event ≡ End number → number < first + length before → IsSilent number behind

-- what may be the history of a value with this origin sends nothing before an opening or after an end
abbrev pub AreInTime : {O : Type 0} → (O → ℕ) → (O → List Entry → Type 0) → Type 0
AreInTime {O} first lawful = (origin : O) (log : List Entry) → lawful origin log → IsInTime (first origin) log
