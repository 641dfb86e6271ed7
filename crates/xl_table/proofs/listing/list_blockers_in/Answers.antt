use Rattle.std.proofs.Common.{◌++◌, List, ap, ◌∙◌}
use Rattle.std.specs.List.{filter}
use Rattle.xl_matrix.specs.declared.claim.Claim.{Claim}
use Rattle.xl_table.specs.Flat.{blocks}
use Rattle.xl_table.specs.Files.{joined}
use Rattle.xl_table.specs.Pages.{paged}
use Rattle.xl_table.proofs.SectionLaws.{blocks_on_file}
use Rattle.xl_table.proofs.listing.list_blockers_in.Goals as goal

pub returns-clause-found : goal.returns-clause-found
returns-clause-found g c =
    let on = paged c.on_file.result.now in
    let found = c.in_ok-push_blockers_in.ensures.found ∙ ap (λ (ds : List Claim). ds ++ filter (λ held. blocks c.args.ask.now held) on) c.new-found.ensures.items in
    blocks_on_file c.args.ask.now (joined c.args.lists.now) on _ found c.on_file.ensures.claims
