-- The stores of a step, of which n succeed: the record as it is stored, and what the keeper was given.
use Rattle.std.specs.Prelude.{◌≡◌, ℕ, ◌+◌, ◌-◌, ◌≤◌, Bool, true, false, not, ◌&&◌, ◌||◌, nat_lt, if◌then◌else◌, List, [], ◌∷◌, ◌++◌, length, Option, Some, None, is_some, option_map}
use Rattle.std.specs.List.{filter}
use Rattle.xl_base.specs.Outside.{Rose}
use Rattle.xl_base.specs.RecordFile.{record_text, with_name}
use Rattle.xl_base.specs.Stable.{Stable, same_name, is_kept, is_recordable}
use Rattle.xl_base.specs.declared.name.Protocol.TheVariants.{Nfs}
use Rattle.xl_base.specs.declared.stable.Recorded.{Recorded}
use Rattle.xl_core.specs.State.{CoreState}
use Rattle.xl_core.specs.declared.ask.Answer.{Answer}
use Rattle.xl_core.specs.declared.ask.Answer.TheVariants.{Granted, StoreFailed}

-- ---- a store

-- one store more succeeds: none of this step failed, and fewer were made than succeed
abbrev pub may_store : ℕ → CoreState → Bool
may_store n s = not s.failed && nat_lt s.made n

-- the record is stored
unfoldable pub stored : Stable → CoreState → CoreState
stored stable s = record s { stable = stable; made = s.made + 1; given = s.given ++ stable ∷ [] }

-- the store of the record failed; behind one that failed none is tried in this step
unfoldable pub store_failed : Stable → CoreState → CoreState
store_failed stable s = if s.failed then s else record s { failed = true; given = s.given ++ stable ∷ [] }

-- ---- what is stored

-- the name of an NFSv4 client in the record
abbrev pub client_name : List ℕ → Recorded
client_name id = record { protocol = Nfs; name = id; mark = None }

-- the record without the name
abbrev pub without_name : Recorded → Stable → Stable
without_name name stable = record { epoch = stable.epoch; names = filter (λ held. not (same_name held name)) stable.names }

-- the name that is to be recorded before a grant, with its mark: of one whose name is stored (XNFS C702, NLM_LOCK), if the record
-- lacks it, or keeps none of its marks or another
abbrev pub unrecorded : Bool → Recorded → Stable → Option Recorded
unrecorded stores name stable = if stores && (is_recordable name && not (is_kept name stable.names)) then Some name else None

-- the bytes of the record once the name is in it, or none if none is to be recorded
abbrev pub bytes_with : Option Recorded → Stable → ℕ
bytes_with None stable = 0
bytes_with (Some name) stable = length (record_text (with_name name stable))

-- the name is recorded, if there is one, and not if the store failed
abbrev pub recorded : Option Recorded → CoreState → CoreState
recorded None s = s
recorded (Some name) s = stored (with_name name s.stable) s

abbrev pub unstored : Option Recorded → CoreState → CoreState
unstored None s = s
unstored (Some name) s = store_failed (with_name name s.stable) s

-- The record and the stores of the step once one is answered so before whose grant this name is to be recorded: a grant alone
-- records it.
abbrev pub record_left : Option Recorded → Answer → CoreState → CoreState
record_left name (Granted c) s = recorded name s
record_left name StoreFailed s = unstored name s
record_left name answer s = s

-- no store is wanted, or one more succeeds
abbrev pub may_record : ℕ → CoreState → Option Recorded → Bool
may_record n s name = not (is_some name) || may_store n s

-- ---- what the keeper tells

-- the keeper holds this record, if it tells
abbrev pub Holds : Option Stable → Stable → Type 0
Holds held stable = held ≡ option_map (λ _. stable) held

-- these came behind what the keeper was given, if it tells that
abbrev pub given_more : Option (List Stable) → List Stable → Option (List Stable)
given_more None more = None
given_more (Some given) more = Some (given ++ more)

-- what a keeper tells: what it holds, what it was given, how many of its calls failed, and how many stores succeed from now on
pub record Telling : Type 0 where
  pub held : Option Stable
  pub given : Option (List Stable)
  pub faults : ℕ
  pub left : Option ℕ

-- the keeper tells that n stores of this step succeed: beside those that were made the others are left, and one fails only behind them
abbrev pub Allows : ℕ → CoreState → Option ℕ → Type 0
Allows n s left = (s.made ≤ n) × (left ≡ Some (n - s.made)) × (s.failed ≡ true → s.made ≡ n)

-- A call that takes the core from one state to the other leaves the keeper so: it holds the record as it is stored, was given
-- the records of this call behind the others, in order, and its count of faults rose if a store failed, and only then. If it tells
-- how many stores of the step succeed, just so many do.
pub record HandsOn (s t : CoreState) (old new : Telling) : Type 0 where
  pub held : Holds old.held s.stable → Holds new.held t.stable
  pub given : (more : List Stable) → t.given ≡ s.given ++ more → new.given ≡ given_more old.given more
  pub rose : s.failed ≡ false → t.failed ≡ true → Rose old.faults new.faults
  pub still : t.failed ≡ s.failed → new.faults ≡ old.faults
  pub later : old.faults ≤ new.faults
  pub left : (n : ℕ) → Allows n s old.left → Allows n t new.left

-- ---- how many were made

-- of the records that were given all were stored but the last, if that store failed
abbrev pub made_of : Bool → List Stable → ℕ
made_of failed given = length given - (if failed then 1 else 0)
