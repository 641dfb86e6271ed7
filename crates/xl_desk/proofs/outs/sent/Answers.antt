use Rattle.xl_desk.proofs.Walks.{sends_of, all_sent_of}
use Rattle.xl_desk.proofs.outs.sent.Goals as goal

pub entries-preserved : goal.entries-preserved
entries-preserved g c = sends_of g.args.conn g.args.entries.now g.entries.entry-index g.entry-item.result _ g.entries.bytes.items g.add_sent.new.bytes.items _ g.entries-test.true g.entry-item.is g.as_slice.ensures g.in_ok-add_sent.ensures g.entries.invariant c

pub returns : goal.returns
returns g c = all_sent_of g.args.conn g.args.entries.now g.entries.entry-index g.entries.bytes.items _ g.entries-test.false g.entries.invariant c
