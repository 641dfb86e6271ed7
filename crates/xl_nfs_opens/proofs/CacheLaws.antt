-- The cache that a client has on a file.
use Rattle.std.proofs.Common.{◌≡◌, ℕ, List, [], ◌∷◌, Option, Some, None, refl, sym, ap, ◌∙◌, inl, inr}
use Rattle.std.proofs.lemmas.Bool.{cases_Bool}
use Rattle.std.specs.Bool.{◌==◌}
use Rattle.std.specs.List.{filter, find}
use Rattle.std.specs.Prelude.{◌&&◌}
use Rattle.std.specs.Prelude.{IfSome}
use Rattle.xl_base.specs.Lists.{IsIn}
use Rattle.xl_base.specs.declared.name.Party.{Party}
use Rattle.xl_core.proofs.DeedLeaves.{found_in}
use Rattle.xl_matrix.specs.Equal.{same_parties}
use Rattle.xl_matrix.specs.declared.claim.Claim.{Claim}
use Rattle.xl_table.specs.Held.{is_cache}
use Rattle.xl_core.specs.Places.{is_cache_on}

-- it is the party's among the caches on the file
found_among : (file : ℕ) (party : Party) (cs : List Claim) → find (λ c. same_parties c.party party) (filter (λ c. (c.file == file) && is_cache c.what) cs) ≡ find (is_cache_on file party) cs
found_among file party [] = refl
found_among file party (c ∷ cs) =
    elim (cases_Bool (c.file == file)) [
      | inr e ↦ elim (cases_Bool (is_cache c.what)) [
        | inl d ↦ rw (e, d) (found_among file party cs)
        | inr d ↦ rw e (rw d (found_among file party cs))
      ]
      | inl e ↦ elim (cases_Bool (is_cache c.what)) [
        | inr d ↦ rw e (rw d (found_among file party cs))
        | inl d ↦ rw e (rw d (elim (cases_Bool (same_parties c.party party)) [
          | inl s ↦ rw s refl
          | inr s ↦ rw s (found_among file party cs)
        ]))
      ]
    ]

pub cache_found : (file : ℕ) (party : Party) (cs caches : List Claim) (o : Option Claim) → caches ≡ filter (λ c. (c.file == file) && is_cache c.what) cs → o ≡ find (λ c. same_parties c.party party) caches → o ≡ find (is_cache_on file party) cs
cache_found file party cs caches o all is = is ∙ ap (λ (ds : List Claim). find (λ c. same_parties c.party party) ds) all ∙ found_among file party cs

pub found_held : (file : ℕ) (party : Party) (cs caches : List Claim) (o : Option Claim) → caches ≡ filter (λ c. (c.file == file) && is_cache c.what) cs → o ≡ find (λ c. same_parties c.party party) caches → IfSome o (λ c. IsIn c cs)
found_held file party cs caches None all is = tt
found_held file party cs caches (Some c) all is = (found_in (is_cache_on file party) cs c (sym (cache_found file party cs caches (Some c) all is))).0
