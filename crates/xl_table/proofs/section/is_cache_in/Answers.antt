use Rattle.xl_table.specs.Pages.{paged}
use Rattle.xl_table.proofs.CacheLaws.{cache_is_last}
use Rattle.xl_table.proofs.section.is_cache_in.Goals as goal

pub returns : goal.returns
returns c = cache_is_last c.args.file (paged c.args.pages.now) c.last_is_cache.result c.requires.own c.requires.ordered c.last_is_cache.ensures
