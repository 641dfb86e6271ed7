use Rattle.std.proofs.Common.{refl}
use Rattle.xl_table.specs.Flat.{is_due}
use Rattle.xl_table.proofs.PageLaws.{filtered_page}
use Rattle.xl_table.proofs.listing.push_due_in.Goals as goal

pub loop-page-preserved : goal.loop-page-preserved
loop-page-preserved c =
    filtered_page (λ held. is_due c.args.now held) c.args.pages.now c.loop-page.page-index c.page-item.result c.page-item.result c.loop-page.due.items c.push_due.new.due.items _ c.loop-page-test.true c.page-item.is refl c.in_ok-push_due.ensures c.loop-page.invariant
