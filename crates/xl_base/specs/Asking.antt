-- What a caller is asked, as it is told.
use Rattle.std.specs.Prelude.{◌≡◌, ℕ, Bool, true, false, List, [], ◌∷◌, ◌++◌, drop, Option, Some, None}
use Rattle.xl_base.specs.declared.caller.Asked.{Asked}
use Rattle.xl_base.specs.declared.caller.Asked.TheVariants.{Call, Idle}
use Rattle.xl_base.specs.declared.caller.CallOutcome.{CallOutcome}
use Rattle.xl_base.specs.declared.caller.CallOutcome.TheVariants.{Answer, Nobody, Failed, NoMemory}

-- one call more
abbrev pub Calls : List ℕ → List ℕ → CallOutcome → List Asked → List Asked → Type 0
Calls to bytes outcome old new = new ≡ old ++ Call to bytes outcome ∷ []

-- one idle more
abbrev pub Idles : ℕ → List Asked → List Asked → Type 0
Idles seen old new = new ≡ old ++ Idle seen ∷ []

-- a call that found no memory did not fail (PROOF-8)
abbrev pub call_failed : CallOutcome → Bool
call_failed Failed = true
call_failed _ = false

-- the outcome is the first of these answers, or nobody's if there is none, unless memory ran out
abbrev pub IsAnswer : CallOutcome → List (Option (List ℕ)) → Type 0
IsAnswer NoMemory answers = Unit {0}
IsAnswer outcome [] = outcome ≡ Nobody
IsAnswer outcome (None ∷ answers) = outcome ≡ Nobody
IsAnswer outcome (Some bytes ∷ answers) = outcome ≡ Answer bytes

-- the answers that are left after a call, which takes the first unless it is one that fails
abbrev pub left_by : Bool → List (Option (List ℕ)) → List (Option (List ℕ))
left_by true answers = answers
left_by false answers = drop 1 answers

-- a caller in memory: what its clients answer still, what it was asked, if it tells it still, and its counts
pub record MemoryCalls : Type 0 where
  pub answers : List (Option (List ℕ))
  pub told : Option (List Asked)
  -- the numbers of the calls that fail, of which the first is 1
  pub failing : List ℕ
  -- how many calls were made, how many failed, and how often the caller was asked
  pub calls : ℕ
  pub faults : ℕ
  pub asked : ℕ
