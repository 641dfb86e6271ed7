use Rattle.xl_table.specs.Files.{joined}
use Rattle.xl_table.specs.Pages.{paged}
use Rattle.xl_table.proofs.SectionLaws.{has_here}
use Rattle.xl_table.proofs.section.has_cache.Goals as goal

pub returns : goal.returns
returns c = has_here c.args.file (joined c.args.lists.now) (paged c.on_file.result.now) _ c.is_cache_in.ensures c.on_file.ensures.claims
