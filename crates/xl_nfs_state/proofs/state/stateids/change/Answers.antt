use Rattle.std.proofs.Common.{ap, sym, ◌∙◌, arith}
use Rattle.xl_nfs_state.specs.State.{opens}
use Rattle.xl_nfs_state.proofs.SoundLaws.{recounted}
use Rattle.xl_nfs_state.proofs.state.stateids.change.Goals as goal

pub overflow_sub-live : goal.overflow_sub-live
overflow_sub-live c =
    let count = rw c.if-closes.true at (recounted c.args.stateids.now c.args.number c.args.standing c.is_closed_by-closes.result c.requires.there c.requires.closing c.is_closed_by-closes.ensures) in
    omega (arith, count, c.requires.count)

pub returns-then-closes-clause-count : goal.returns-then-closes-clause-count
returns-then-closes-clause-count c =
    let count = rw c.if-closes.true at (recounted c.args.stateids.now c.args.number c.args.standing c.is_closed_by-closes.result c.requires.there c.requires.closing c.is_closed_by-closes.ensures) in
    omega (arith, count, c.requires.count) ∙ sym (ap opens c.change.ensures)

pub returns-else-closes-clause-count : goal.returns-else-closes-clause-count
returns-else-closes-clause-count c =
    let count = rw c.if-closes.false at (recounted c.args.stateids.now c.args.number c.args.standing c.is_closed_by-closes.result c.requires.there c.requires.closing c.is_closed_by-closes.ensures) in
    omega (arith, count, c.requires.count) ∙ sym (ap opens c.change.ensures)
