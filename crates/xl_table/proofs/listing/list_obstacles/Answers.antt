use Rattle.std.proofs.Common.{◌++◌, List, ap, ◌∙◌}
use Rattle.std.specs.List.{filter}
use Rattle.xl_matrix.specs.declared.claim.Claim.{Claim}
use Rattle.xl_table.specs.Flat.{may_obstruct}
use Rattle.xl_table.specs.Files.{joined}
use Rattle.xl_table.specs.Pages.{paged}
use Rattle.xl_table.proofs.SectionLaws.{obstacles_on_file}
use Rattle.xl_table.proofs.listing.list_obstacles.Goals as goal

pub returns : goal.returns
returns c =
    let on = paged c.on_file.result.now in
    let found = c.in_ok-push_obstacles_in.ensures ∙ ap (λ (ds : List Claim). ds ++ filter (may_obstruct c.args.ask.now) on) c.new-found.ensures.items in
    obstacles_on_file c.args.ask.now (joined c.args.lists.now) on _ found c.on_file.ensures.claims
