use Rattle.std.proofs.Common.{arith}
use Rattle.xl_table.proofs.PageLaws.{take_more, take_done}
use Rattle.xl_table.proofs.pages.take_between.Goals as goal

pub claims-preserved : goal.claims-preserved
claims-preserved c =
    take_more c.args.start c.args.end c.claims.end c.take_some-n.result c.args.pages.now.items c.claims.pages.items c.take_some-n.new.pages.items c.claims.invariant c.take_some-n.ensures.some c.take_some-n.ensures.most c.take_some-n.ensures.taken c.take_some-n.ensures.full

pub returns-clause-taken : goal.returns-clause-taken
returns-clause-taken c = take_done c.args.start c.args.end c.claims.end c.args.pages.now.items c.claims.pages.items c.claims.invariant (omega (arith, c.claims-test.false))
