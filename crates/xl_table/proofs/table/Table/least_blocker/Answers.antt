use Rattle.std.proofs.Common.{List, ap, ◌∙◌}
use Rattle.std.specs.List.{filter}
use Rattle.xl_matrix.specs.declared.claim.Claim.{Claim}
use Rattle.xl_table.specs.Files.{joined}
use Rattle.xl_table.specs.Flat.{blocks}
use Rattle.xl_table.specs.Least.{least}
use Rattle.xl_table.proofs.BeyondLaws.{all_count}
use Rattle.xl_table.proofs.table.Table.least_blocker.Goals as goal

pub returns : goal.returns
returns c =
    c.in_ok-least.ensures
    ∙ all_count c.args.names.now c.args.ask.now (joined c.deref.result.now)
    ∙ ap (λ (cs : List Claim). least c.args.names.now (filter (λ held. blocks c.args.ask.now held) cs)) (ap joined c.deref.ensures.value ∙ c.self.view_is)
