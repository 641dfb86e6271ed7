use Rattle.std.proofs.Common.{refl}
use Rattle.xl_table.proofs.PlaceLaws.{holder_page}
use Rattle.xl_table.proofs.holding.holder_among.Goals as goal

pub loop-page-preserved : goal.loop-page-preserved
loop-page-preserved c =
    holder_page c.loop-page.least c.holder_with-least.result _ c.args.file c.args.byte c.loop-page.page-index c.args.pages.now c.page-item.result c.page-item.result c.loop-page-test.true c.page-item.is refl c.holder_with-least.ensures c.loop-page.invariant
