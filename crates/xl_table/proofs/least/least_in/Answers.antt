use Rattle.xl_table.specs.Least.{counts}
use Rattle.xl_table.proofs.BeyondLaws.{least_page}
use Rattle.xl_table.proofs.least.least_in.Goals as goal

pub loop-page-preserved : goal.loop-page-preserved
loop-page-preserved c =
    least_page c.args.names.now (counts c.args.ask.now c.args.ranges) c.loop-page.least c.in_ok-least.least _ c.loop-page.page-index c.args.pages.now c.page-item.result c.loop-page-test.true c.page-item.is c.in_ok-least.ensures c.loop-page.invariant
