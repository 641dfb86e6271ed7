-- A source, a sink and a keeper in memory as their callers see them.
use Rattle.std.specs.Prelude.{ℕ, ◌+◌, ◌-◌, ◌^◌, min, Bool, ◌==◌, List, [], ◌∷◌, ◌++◌}
use Rattle.std.specs.List.{list_any}
use Rattle.xl_base.specs.Stable.{Stable}
use Rattle.xl_base.specs.declared.source.ReadOutcome.{ReadOutcome}
use Rattle.xl_base.specs.declared.source.ReadOutcome.TheVariants.{Failed}
use Rattle.xl_base.specs.declared.sink.WriteOutcome.{WriteOutcome}
use Rattle.xl_base.specs.declared.sink.WriteOutcome.TheVariants as write
use Rattle.xl_base.specs.declared.keeper.LoadOutcome.{LoadOutcome}
use Rattle.xl_base.specs.declared.keeper.LoadOutcome.TheVariants as load
use Rattle.xl_base.specs.declared.keeper.StoreOutcome.{StoreOutcome}
use Rattle.xl_base.specs.declared.keeper.StoreOutcome.TheVariants as store

pub record MemoryInput : Type 0 where
  -- the bytes that are not yet read
  pub left : List ℕ
  -- the numbers of the calls that fail, of which the first is 1
  pub failing : List ℕ
  -- how many calls were made, and how many failed
  pub calls : ℕ
  pub faults : ℕ

pub record MemoryOutput : Type 0 where
  -- the bytes written so far
  pub held : List ℕ
  pub failing : List ℕ
  pub calls : ℕ
  pub faults : ℕ

-- whether the call of this number is one that fails
abbrev pub is_failing : List ℕ → ℕ → Bool
is_failing failing call = list_any (λ number. number == call) failing

pub record MemoryStorage : Type 0 where
  -- the record that is held
  pub held : Stable
  -- the records that were given to be stored, in order
  pub given : List Stable
  pub failing : List ℕ
  pub calls : ℕ
  pub faults : ℕ

-- a keeper in memory that is told how many stores succeed
pub record BudgetStorage : Type 0 where
  -- the record that is held
  pub held : Stable
  -- how many stores succeed from now on, and how many failed
  pub left : ℕ
  pub faults : ℕ

-- a count of 64 bits after one more; it stops at its last value
abbrev pub counted : ℕ → ℕ
counted count = min (count + 1) (2 ^ 64 - 1)

-- a source in memory after a read that leaves these bytes
abbrev pub after_read : ReadOutcome → List ℕ → MemoryInput → MemoryInput
after_read Failed left s = record { left = left; failing = s.failing; calls = counted s.calls; faults = counted s.faults }
after_read _ left s = record { left = left; failing = s.failing; calls = counted s.calls; faults = s.faults }

-- a sink in memory after a write that leaves these bytes written
abbrev pub after_write : WriteOutcome → List ℕ → MemoryOutput → MemoryOutput
after_write write.Failed held s = record { held = held; failing = s.failing; calls = counted s.calls; faults = counted s.faults }
after_write write.Wrote held s = record { held = held; failing = s.failing; calls = counted s.calls; faults = s.faults }

-- a keeper in memory after a load
abbrev pub after_load : LoadOutcome → MemoryStorage → MemoryStorage
after_load (load.Loaded _) k = record { held = k.held; given = k.given; failing = k.failing; calls = counted k.calls; faults = k.faults }
after_load load.Failed k = record { held = k.held; given = k.given; failing = k.failing; calls = counted k.calls; faults = counted k.faults }
after_load load.NoMemory k = record { held = k.held; given = k.given; failing = k.failing; calls = counted k.calls; faults = k.faults }

-- a keeper in memory after a store of this record
abbrev pub after_store : StoreOutcome → Stable → MemoryStorage → MemoryStorage
after_store store.Stored stable k = record { held = stable; given = k.given ++ stable ∷ []; failing = k.failing; calls = counted k.calls; faults = k.faults }
after_store store.Failed stable k = record { held = k.held; given = k.given ++ stable ∷ []; failing = k.failing; calls = counted k.calls; faults = counted k.faults }
after_store store.NoMemory stable k = record { held = k.held; given = k.given; failing = k.failing; calls = counted k.calls; faults = k.faults }

-- a keeper that is told how many stores succeed, after a store of this record
abbrev pub after_spent : StoreOutcome → Stable → BudgetStorage → BudgetStorage
after_spent store.Stored stable k = record { held = stable; left = k.left - 1; faults = k.faults }
after_spent store.Failed stable k = record { held = k.held; left = k.left; faults = counted k.faults }
after_spent store.NoMemory stable k = k
