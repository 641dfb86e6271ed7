use Rattle.xl_matrix.specs.Equal.{same_parties}
use Rattle.xl_table.proofs.PageLaws.{filtered_page}
use Rattle.xl_table.proofs.listing.push_party_in.Goals as goal

pub loop-page-preserved : goal.loop-page-preserved
loop-page-preserved c =
    filtered_page (λ held. same_parties held.party c.args.party) c.args.pages.now c.loop-page.page-index c.page-item.result c.as_slice.result.now c.loop-page.found.items c.push_party.new.found.items _ c.loop-page-test.true c.page-item.is c.as_slice.ensures c.in_ok-push_party.ensures c.loop-page.invariant
