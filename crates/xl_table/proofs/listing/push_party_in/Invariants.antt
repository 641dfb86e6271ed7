use Rattle.std.proofs.Common.{◌≡◌, ◌++◌, drop}
use Rattle.std.specs.List.{filter}
use Rattle.xl_matrix.specs.Equal.{same_parties}
use Rattle.xl_table.specs.Pages.{paged}
use Rattle.xl_table.proofs.listing.push_party_in.Given as goal

abbrev pub invariant-loop-page : goal.invariant-loop-page
invariant-loop-page l =
    l.found.items ++ filter (λ held. same_parties held.party l.party) (paged (drop l.page-index l.pages)) ≡ l.fn.found.items ++ filter (λ held. same_parties held.party l.party) (paged l.pages)
