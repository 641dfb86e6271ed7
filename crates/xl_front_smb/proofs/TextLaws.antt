-- Texts are read one unit after the other.
use Rattle.std.proofs.Common.{◌≡◌, ℕ, ◌≤◌, ◌<◌, true, false, List, [], ◌∷◌, length, drop, refl, arith}
use Rattle.std.specs.Prelude.{slice_index}
use Rattle.xl_front_smb.specs.Texts.{is_unit, spells, is_backslash, part_behind}

pub spells_step : (text name : List ℕ) → 2 ≤ length text → 1 ≤ length name → is_unit (slice_index text 0) (slice_index text 1) (slice_index name 0) ≡ true → spells (drop 2 text) (drop 1 name) ≡ spells text name
spells_step [] name long there is = absurd (omega (arith, long))
spells_step (low ∷ []) name long there is = absurd (omega (arith, long))
spells_step (low ∷ high ∷ more) [] long there is = absurd (omega (arith, there))
spells_step (low ∷ high ∷ more) (byte ∷ bytes) long there is = rw is refl

pub part_step : (part rest : List ℕ) → 2 ≤ length rest → is_backslash (slice_index rest 0) (slice_index rest 1) ≡ true → part_behind (drop 2 rest) (drop 2 rest) ≡ part_behind part rest
part_step part [] long is = absurd (omega (arith, long))
part_step part (low ∷ []) long is = absurd (omega (arith, long))
part_step part (low ∷ high ∷ more) long is = rw is refl

pub part_same : (part rest : List ℕ) → 2 ≤ length rest → is_backslash (slice_index rest 0) (slice_index rest 1) ≡ false → part_behind part (drop 2 rest) ≡ part_behind part rest
part_same part [] long is = absurd (omega (arith, long))
part_same part (low ∷ []) long is = absurd (omega (arith, long))
part_same part (low ∷ high ∷ more) long is = rw is refl

pub part_end : (part rest : List ℕ) → length rest < 2 → part_behind part rest ≡ part
part_end part [] short = refl
part_end part (low ∷ []) short = refl
part_end part (low ∷ high ∷ more) short = absurd (omega (arith, short))
