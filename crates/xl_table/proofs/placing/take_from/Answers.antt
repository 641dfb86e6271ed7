use Rattle.std.proofs.Common.{List, sym, ap, ◌∙◌}
use Rattle.std.specs.List.{list_any}
use Rattle.xl_matrix.specs.declared.claim.Claim.{Claim}
use Rattle.xl_matrix.specs.Equal.{same_claims}
use Rattle.xl_table.specs.Pages.{paged}
use Rattle.xl_table.proofs.FlatLaws.{removed_none}
use Rattle.xl_table.proofs.placing.take_from.Goals as goal

pub returns-in-None-clause-claims : goal.returns-in-None-clause-claims
returns-in-None-clause-claims c =
    let claim = c.args.claim.now in
    sym (removed_none claim (paged c.args.pages.now.items) (ap (λ (ps : List (List Claim)). list_any (λ d. same_claims d claim) (paged ps)) (sym c.as_slice.ensures.value) ∙ c.in-None.ensures.none))
