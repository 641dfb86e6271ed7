-- What the parts of a step hand on to each other of the keeper of the record.
use Rattle.std.specs.Prelude.{◌≡◌, ℕ, true, false, List, Option, Some}
use Rattle.xl_base.specs.Outside.{Rose}
use Rattle.xl_base.specs.Stable.{Stable}
use Rattle.xl_core.specs.State.{CoreState}
use Rattle.xl_core.specs.Stores.{Telling, Holds, Allows, given_more}

-- The keeper tells this in a step before which it told that, when the step has come to this state: it holds the record as it
-- is stored, was given the records of the step behind the others, in order, and its count of faults rose if a store of the
-- step failed, and only then. If it told how many stores succeed, just so many do.
pub record IsTold (before : Telling) (s : CoreState) (now : Telling) : Type 0 where
  pub held : Holds now.held s.stable
  pub given : now.given ≡ given_more before.given s.given
  pub rose : s.failed ≡ true → Rose before.faults now.faults
  pub still : s.failed ≡ false → now.faults ≡ before.faults
  pub left : (n : ℕ) → before.left ≡ Some n → Allows n s now.left

-- a part of a step that stores nothing
abbrev pub IsQuiet : CoreState → CoreState → Type 0
IsQuiet s t = (before now : Telling) → IsTold before s now → IsTold before t now

-- what a keeper tells
abbrev pub telling : {K : Type 0} → (K → Option Stable) → (K → Option (List Stable)) → (K → ℕ) → (K → Option ℕ) → K → Telling
telling held given faults left k = record { held = held k; given = given k; faults = faults k; left = left k }

-- a part of a step that takes the core from one state to the other hands the keeper on, by what it tells
abbrev pub HandsTo : {K : Type 0} → (K → Option Stable) → (K → Option (List Stable)) → (K → ℕ) → (K → Option ℕ) → CoreState → CoreState → K → K → Type 0
HandsTo held given faults left s t old new = (before : Telling) → IsTold before s (telling held given faults left old) → IsTold before t (telling held given faults left new)
