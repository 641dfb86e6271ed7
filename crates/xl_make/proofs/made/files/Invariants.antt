use Rattle.std.proofs.Common.{◌≡◌, ◌++◌, [], ◌∷◌, drop, map}
use Rattle.xl_make.specs.Made.{made_files}
use Rattle.xl_make.proofs.made.files.Given as goal

abbrev pub invariant-loop-digit : goal.invariant-loop-digit
invariant-loop-digit l = l.files ++ map (λ digit. 102 ∷ digit ∷ []) (drop l.digit-index l.digit-items) ≡ made_files
