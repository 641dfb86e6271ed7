use Rattle.xl_table.specs.Files.{joined}
use Rattle.xl_table.specs.Pages.{paged}
use Rattle.xl_table.proofs.SectionLaws.{ranges_here}
use Rattle.xl_table.proofs.section.ranges_by.Goals as goal

pub returns : goal.returns
returns c = ranges_here c.args.file c.args.owner (joined c.args.lists.now) _ (paged c.on_file.result.now) c.in_ok-ranges.ensures c.on_file.ensures.claims
