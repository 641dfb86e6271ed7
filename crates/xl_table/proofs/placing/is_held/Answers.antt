use Rattle.std.proofs.Common.{◌∙◌}
use Rattle.xl_table.proofs.AloneLaws.{equal_here}
use Rattle.xl_table.specs.Files.{joined}
use Rattle.xl_table.specs.Pages.{paged}
use Rattle.xl_table.proofs.PlaceLaws.{held_on_file}
use Rattle.xl_table.proofs.placing.is_held.Goals as goal

pub returns-clause-test : goal.returns-clause-test
returns-clause-test c = c.has_in.ensures ∙ equal_here c.args.claim.now (joined c.args.lists.now) (paged c.on_file.result.now) c.on_file.ensures.claims

pub returns-clause-held : goal.returns-clause-held
returns-clause-held c = held_on_file c.args.claim.now (joined c.args.lists.now) (paged c.on_file.result.now) c.has_in.result c.has_in.ensures c.on_file.ensures.claims
