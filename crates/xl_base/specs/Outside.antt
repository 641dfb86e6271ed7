-- What the outside gives and takes, if it tells it, and what its counts of faults say.
use Rattle.std.specs.Prelude.{◌≡◌, ℕ, ◌-◌, ◌^◌, ◌<◌, ◌≤◌, List, [], ◌++◌, ◌∷◌, length, take, Option, Some, None, option_map}
use Rattle.xl_base.specs.declared.source.ReadOutcome.{ReadOutcome}
use Rattle.xl_base.specs.declared.source.ReadOutcome.TheVariants.{Got, End, Failed}
use Rattle.xl_base.specs.Stable.{Stable}
use Rattle.xl_base.specs.declared.keeper.LoadOutcome.{LoadOutcome}
use Rattle.xl_base.specs.declared.keeper.LoadOutcome.TheVariants as load
use Rattle.xl_base.specs.declared.keeper.StoreOutcome.{StoreOutcome}
use Rattle.xl_base.specs.declared.keeper.StoreOutcome.TheVariants as store
use Rattle.xl_base.specs.declared.sink.WriteOutcome.{WriteOutcome}
use Rattle.xl_base.specs.declared.sink.WriteOutcome.TheVariants as write

-- A count of faults rose: it is greater than before, or is at its last value (PROOF-2).
abbrev pub Rose : ℕ → ℕ → Type 0
Rose before now = now < 2 ^ 64 - 1 → before < now

-- What one call of a source, a sink or a keeper says of the count of its faults: it rose if the call failed, and
-- stays if it didn't.
abbrev pub ReadCounts : ReadOutcome → ℕ → ℕ → Type 0
ReadCounts Failed before now = Rose before now
ReadCounts _ before now = now ≡ before

abbrev pub WriteCounts : WriteOutcome → ℕ → ℕ → Type 0
WriteCounts write.Failed before now = Rose before now
WriteCounts write.Wrote before now = now ≡ before

abbrev pub LoadCounts : LoadOutcome → ℕ → ℕ → Type 0
LoadCounts load.Failed before now = Rose before now
LoadCounts _ before now = now ≡ before

abbrev pub StoreCounts : StoreOutcome → ℕ → ℕ → Type 0
StoreCounts store.Failed before now = Rose before now
StoreCounts _ before now = now ≡ before

-- These bytes were taken from the front of what was left, if that is told (PROOF-4).
abbrev pub Took : Option (List ℕ) → List ℕ → Option (List ℕ) → Type 0
Took None bytes new = Unit {0}
Took (Some left) bytes None = ⊥
Took (Some left) bytes (Some rest) = left ≡ bytes ++ rest

-- Nothing is left, if that is told.
abbrev pub Ended : Option (List ℕ) → Type 0
Ended None = Unit {0}
Ended (Some left) = left ≡ []

-- What one read says of the buffer after it and of what was left before and after it.
abbrev pub Reads : ReadOutcome → List ℕ → Option (List ℕ) → Option (List ℕ) → Type 0
Reads (Got n) buffer old new = (0 < n) × (n ≤ length buffer) × Took old (take n buffer) new
Reads End buffer old new = Ended old × (new ≡ old)
Reads Failed buffer old new = new ≡ old

-- These bytes were added to what was written, if that is told.
abbrev pub Added : Option (List ℕ) → List ℕ → Option (List ℕ) → Type 0
Added None bytes new = Unit {0}
Added (Some held) bytes None = ⊥
Added (Some held) bytes (Some now) = now ≡ held ++ bytes

-- A list is the front of another.
abbrev pub IsPrefix : List ℕ → List ℕ → Type 0
IsPrefix front whole = (length front ≤ length whole) × (take (length front) whole ≡ front)

-- A beginning of these bytes, perhaps nothing, was added to what was written, if that is told.
abbrev pub Began : Option (List ℕ) → List ℕ → Option (List ℕ) → Type 0
Began None bytes new = Unit {0}
Began (Some held) bytes None = ⊥
Began (Some held) bytes (Some now) = IsPrefix held now × IsPrefix now (held ++ bytes)

-- What one write says of what was written before and after it.
abbrev pub Writes : WriteOutcome → List ℕ → Option (List ℕ) → Option (List ℕ) → Type 0
Writes write.Wrote bytes old new = Added old bytes new
Writes write.Failed bytes old new = Began old bytes new

-- What one load says of the record that is held: if that is told, it is the one that was loaded.
abbrev pub Loads : LoadOutcome → Option Stable → Type 0
Loads (load.Loaded stable) held = held ≡ option_map (λ _. stable) held
Loads load.Failed held = Unit {0}
Loads load.NoMemory held = Unit {0}

-- The record that is held after a store of this one, if it is told: this one if it was stored, and else the one from before
-- (RECORD-2).
abbrev pub held_after : StoreOutcome → Stable → Option Stable → Option Stable
held_after store.Stored stable held = option_map (λ _. stable) held
held_after store.Failed stable held = held
held_after store.NoMemory stable held = held

-- The records given to be stored, with this one behind them unless memory ran out, if they are told.
abbrev pub given_after : StoreOutcome → Stable → Option (List Stable) → Option (List Stable)
given_after store.Stored stable given = option_map (λ list. list ++ stable ∷ []) given
given_after store.Failed stable given = option_map (λ list. list ++ stable ∷ []) given
given_after store.NoMemory stable given = given

-- What one store says of how many stores succeed, if it is told that so many did before it: it succeeds if there is one, and then
-- there is one less; and it fails if there is none. Want of memory may leave any number.
abbrev pub Spends : StoreOutcome → ℕ → Option ℕ → Type 0
Spends store.Stored before left = (0 < before) × (left ≡ Some (before - 1))
Spends store.Failed before left = (before ≡ 0) × (left ≡ Some 0)
Spends store.NoMemory before left = Unit {0}
