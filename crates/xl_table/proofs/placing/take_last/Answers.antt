use Rattle.std.proofs.Common.{List, ap, ◌∙◌, arith}
use Rattle.std.specs.List.{prefix_len}
use Rattle.xl_matrix.specs.declared.claim.Claim.{Claim}
use Rattle.xl_table.specs.Order.{goes_first}
use Rattle.xl_table.specs.Pages.{paged}
use Rattle.xl_table.proofs.PlaceLaws.{last_removed}
use Rattle.xl_table.proofs.placing.take_last.Goals as goal

pub returns-clause-claims : goal.returns-clause-claims
returns-clause-claims c =
    let claim = c.args.claim.now in
    let count = c.place_of-place.ensures.count ∙ ap (λ (ps : List (List Claim)). prefix_len (λ held. goes_first held claim) (paged ps)) c.as_slice.ensures.value in
    last_removed claim c.place_of-place.result (paged c.args.pages.now.items) (paged c.take_between.new.pages.items) count (omega (arith, count, c.requires.some)) c.take_between.ensures.taken
