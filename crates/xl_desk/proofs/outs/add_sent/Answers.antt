use Rattle.std.proofs.Common.{sym}
use Rattle.xl_desk.proofs.Walks.{sends, all_sent}
use Rattle.xl_desk.proofs.outs.add_sent.Goals as goal

pub outs-preserved : goal.outs-preserved
outs-preserved g c = sends g.args.conn g.args.outs.now g.outs.out-index g.out-item.result _ g.outs.bytes.items g.extend_from_slice.new.self.items _ g.outs-test.true g.out-item.is (sym g.if-not-goes_to.ensures) g.as_slice.ensures g.in_ok-extend_from_slice.ensures.items g.outs.invariant c

pub returns : goal.returns
returns g c = all_sent g.args.conn g.args.outs.now g.outs.out-index g.outs.bytes.items _ g.outs-test.false g.outs.invariant c
