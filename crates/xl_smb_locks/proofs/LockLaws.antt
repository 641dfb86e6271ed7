-- The loops over ranges.
use Rattle.std.proofs.Common.{◌≡◌, ℕ, ◌+◌, ◌<◌, List, [], ◌∷◌, ◌++◌, length, sym, ap, ◌∙◌, append_assoc, drop}
use Rattle.std.specs.Prelude.{slice_index_or}
use Rattle.std.proofs.lemmas.List.{drop_more}
use Rattle.xl_smb.specs.declared.lock.LockElement.{LockElement}

-- one range more is listed
pub next_listed : (all listed new : List LockElement) (i : ℕ) (x : LockElement) → i < length all → ((d : LockElement) → slice_index_or all i d ≡ x) → new ≡ listed ++ x ∷ [] → listed ++ drop i all ≡ all → new ++ drop (i + 1) all ≡ all
next_listed all listed new i x there is joined before =
    ap (λ (xs : List LockElement). xs ++ drop (i + 1) all) joined
    ∙ append_assoc listed (x ∷ []) (drop (i + 1) all)
    ∙ ap (λ (y : LockElement). listed ++ y ∷ drop (i + 1) all) (sym (is x))
    ∙ ap (λ (xs : List LockElement). listed ++ xs) (sym (drop_more all i x there))
    ∙ before
