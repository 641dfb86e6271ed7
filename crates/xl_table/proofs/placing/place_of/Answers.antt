use Rattle.xl_table.specs.Pages.{paged}
use Rattle.xl_table.proofs.PlaceLaws.{placed_upto}
use Rattle.xl_table.proofs.placing.place_of.Goals as goal

pub returns-clause-count : goal.returns-clause-count
returns-clause-count c = placed_upto c.args.claim.now (paged c.args.pages.now) c.key_of-key.result c.count_passing.result c.key_of-key.ensures c.count_passing.ensures.count
