use Rattle.xl_table.specs.Pages.{paged}
use Rattle.xl_table.proofs.SectionLaws.{shares_section}
use Rattle.xl_table.proofs.section.shares_in.Goals as goal

pub returns : goal.returns
returns c = shares_section c.args.file (paged c.args.pages.now) _ _ _ c.from.result c.from.ensures c.requires.ordered c.places-start.ensures.start c.places-start.ensures.end c.in_ok-shares.ensures
