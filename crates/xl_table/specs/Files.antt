-- The claims by file: a list of each file's, and the files in order.
use Rattle.std.specs.Prelude.{◌≡◌, ℕ, true, ◌==◌, nat_lt, zero, suc, List, [], ◌∷◌, ◌++◌}
use Rattle.std.specs.List.{AllByRecursion, filter}
use Rattle.xl_matrix.specs.declared.claim.Claim.{Claim}
use Rattle.xl_table.specs.declared.files.OnFile.{OnFile}
use Rattle.xl_table.specs.Pages.{paged, AreFull}

-- the lists of all files, one behind another: the flat list
abbrev pub joined : List OnFile → List Claim
joined [] = []
joined (l ∷ ls) = paged l.pages.items ++ joined ls

-- all of these claims are on this file
abbrev pub AreOn : ℕ → List Claim → Type 0
AreOn file cs = AllByRecursion (λ c. (c.file == file) ≡ true) cs

-- each list is of one file's claims, files rise from list to list, and no page is without claims (TABLE-10, TABLE-11)
abbrev pub IsFiled : List OnFile → Type 0
IsFiled [] = Unit {0}
IsFiled (l ∷ ls) = AreOn l.file (paged l.pages.items) × AllByRecursion (λ m. nat_lt l.file m.file ≡ true) ls × IsFiled ls × AreFull l.pages.items

-- the list at this place is the file's
abbrev pub IsAt : ℕ → ℕ → List OnFile → Type 0
IsAt file at [] = ⊥
IsAt file zero (l ∷ ls) = l.file ≡ file
IsAt file (suc at) (l ∷ ls) = IsAt file at ls

-- the claims on the file
abbrev pub here : ℕ → List Claim → List Claim
here file cs = filter (λ c. c.file == file) cs

-- what is done to a file's claims alone: those of the files before it and behind it stay
abbrev pub alone : ℕ → (List Claim → List Claim) → List Claim → List Claim
alone file act cs = filter (λ c. nat_lt c.file file) cs ++ (act (here file cs) ++ filter (λ c. nat_lt file c.file) cs)
