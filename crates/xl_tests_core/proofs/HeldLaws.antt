-- What is found among the claims of a file is held.
use Rattle.std.proofs.Common.{◌≡◌, ℕ, List, true, Option, Some, None, IfSome, find, ◌==◌, sym, subst}
use Rattle.std.specs.List.{filter}
use Rattle.xl_base.proofs.Members.{in_filter_from}
use Rattle.xl_base.proofs.Searches.{find_in}
use Rattle.xl_cache.specs.Wishing.{is_its_cache}
use Rattle.xl_cache.specs.declared.wish.Wish.{Wish}
use Rattle.xl_base.specs.Lists.{IsIn}
use Rattle.xl_matrix.specs.declared.claim.Claim.{Claim}

pub found_held : (wanted : Wish) (found : Option Claim) (claims held : List Claim) (file : ℕ) → found ≡ find (is_its_cache wanted) claims → claims ≡ filter (λ d. d.file == file) held → IfSome found (λ c. IsIn c held)
found_held wanted None claims held file e among = tt
found_held wanted (Some c) claims held file e among =
    let there = subst (λ (o : Option Claim). IfSome o (λ d. IsIn d claims × (is_its_cache wanted d ≡ true))) (sym e) (find_in (is_its_cache wanted) claims) in
    (in_filter_from (λ d. d.file == file) c held (subst (λ (cs : List Claim). IsIn c cs) among there.0)).0
