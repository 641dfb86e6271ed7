use Rattle.std.proofs.Common.{◌∙◌}
use Rattle.xl_table.specs.Files.{joined}
use Rattle.xl_table.specs.Pages.{paged}
use Rattle.xl_table.proofs.BeyondLaws.{counted_on_file}
use Rattle.xl_table.proofs.least.least_on.Goals as goal

pub returns : goal.returns
returns c = c.in_ok-least.ensures ∙ counted_on_file c.args.names.now c.args.ask.now c.args.ranges (joined c.args.lists.now) (paged c.on_file.result.now) c.on_file.ensures.claims
