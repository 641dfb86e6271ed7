use Rattle.std.proofs.Common.{List, ap, ◌∙◌}
use Rattle.std.specs.List.{prefix_len}
use Rattle.xl_matrix.specs.declared.claim.Claim.{Claim}
use Rattle.xl_table.specs.Order.{goes_first}
use Rattle.xl_table.specs.Pages.{paged}
use Rattle.xl_table.proofs.PlaceLaws.{put_at_place}
use Rattle.xl_table.proofs.placing.put_in.Goals as goal

pub returns-clause-ok : goal.returns-clause-ok
returns-clause-ok c =
    put_at_place c.args.claim (paged c.args.pages.now.items) (paged c.splice.new.pages.items) c.place_of-place.result
    (c.place_of-place.ensures.count ∙ ap (λ (ps : List (List Claim)). prefix_len (λ held. goes_first held c.args.claim) (paged ps)) c.as_slice.ensures.value) c.in_ok-splice.ensures.ok
