use Rattle.std.proofs.Common.{arith}
use Rattle.xl_table.proofs.PageLaws.{halved_done, halved_len, there_fits}
use Rattle.xl_table.proofs.pages.halve.Goals as goal

pub returns-clause-same : goal.returns-clause-same
returns-clause-same c =
    (halved_done c.args.pages.now.items c.insert.new.self.items c.args.at 64 c.len-len.result c.index.result.now c.in_ok-tail.tail c.index_mut.result.now c.index-2.result.now c.take_out.new.self
    c.requires.long c.requires.full c.index.ensures c.in_ok-tail.ensures c.in_ok-insert.ensures.items c.index-2.ensures c.len-len.ensures c.index_mut.ensures.value c.take_out.ensures (omega arith) (omega arith)).same

pub returns-clause-full : goal.returns-clause-full
returns-clause-full c =
    (halved_done c.args.pages.now.items c.insert.new.self.items c.args.at 64 c.len-len.result c.index.result.now c.in_ok-tail.tail c.index_mut.result.now c.index-2.result.now c.take_out.new.self
    c.requires.long c.requires.full c.index.ensures c.in_ok-tail.ensures c.in_ok-insert.ensures.items c.index-2.ensures c.len-len.ensures c.index_mut.ensures.value c.take_out.ensures (omega arith) (omega arith)).full

pub tail-requires : goal.tail-requires
tail-requires c = omega (arith, there_fits c.args.pages.now.items c.args.at 128 c.index.result.now c.requires.long c.index.ensures)

pub take_out-requires-clause-order : goal.take_out-requires-clause-order
take_out-requires-clause-order c =
    omega (arith, halved_len c.args.pages.now.items c.insert.new.self.items c.args.at c.len-len.result c.index.result.now c.in_ok-tail.tail c.index-2.result.now c.requires.long c.index.ensures c.in_ok-insert.ensures.items c.index-2.ensures c.len-len.ensures)
