-- What a start leaves of the keeper.
use Rattle.std.specs.Prelude.{◌≡◌, ◌⊎◌, ℕ, ◌-◌, ◌<◌, List, [], ◌∷◌, ◌++◌, Option, Some, option_map}
use Rattle.xl_base.specs.Stable.{Stable, raised}
use Rattle.xl_core.specs.Stores.{Telling, Holds, given_more}

-- the records given, with the loaded one with its epoch raised behind them, if they are told
abbrev pub given_at_start : Stable → Option (List Stable) → Option (List Stable)
given_at_start loaded given = option_map (λ list. list ++ raised loaded ∷ []) given

abbrev pub no_record : Stable
no_record = record { epoch = 0; names = [] }

-- the loaded record, or the empty one if none was loaded (RECORD-3)
abbrev pub IsLoaded : Option Stable → Stable → Type 0
IsLoaded held loaded = Holds held loaded ⊎ (loaded ≡ no_record)

-- nothing was given; or the record that the keeper held was loaded, and just that was given with its epoch raised (RECORD-3)
abbrev pub IsGiven : Option Stable → Stable → Option (List Stable) → Option (List Stable) → Type 0
IsGiven held loaded old new = (new ≡ old) ⊎ (Holds held loaded × (new ≡ given_at_start loaded old))

-- What a keeper tells once it stored this record, that told the other before it: it holds that, was given that behind the others, and
-- no call of it failed. If it told how many stores succeed, one is left less.
pub record IsStored (stable : Stable) (before now : Telling) : Type 0 where
  pub held : Holds now.held stable
  pub given : now.given ≡ given_more before.given (stable ∷ [])
  pub still : now.faults ≡ before.faults
  pub left : (n : ℕ) → before.left ≡ Some n → (0 < n) × (now.left ≡ Some (n - 1))
