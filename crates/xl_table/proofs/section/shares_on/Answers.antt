use Rattle.xl_table.specs.Files.{joined}
use Rattle.xl_table.specs.Pages.{paged}
use Rattle.xl_table.proofs.SectionLaws.{shares_here}
use Rattle.xl_table.proofs.section.shares_on.Goals as goal

pub returns : goal.returns
returns c = shares_here c.args.file (joined c.args.lists.now) _ (paged c.on_file.result.now) c.in_ok-shares.ensures c.on_file.ensures.claims
