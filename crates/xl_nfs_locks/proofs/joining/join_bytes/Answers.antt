use Rattle.std.proofs.Common.{◌∙◌, sym, ap}
use Rattle.xl_core.specs.Decide.{ask}
use Rattle.xl_core.specs.declared.ask.Ask.{Ask}
use Rattle.xl_nfs_opens.specs.Opens.{all_rooms}
use Rattle.xl_nfs_opens.proofs.BehindLaws.{asking_done}
use Rattle.xl_plan.proofs.BudgetLaws.{may_before}
use Rattle.xl_nfs_opens.proofs.LeaveLaws.{asked_leaves}
use Rattle.xl_nfs_locks.specs.FirstLocks.{join_answered}
use Rattle.xl_nfs_locks.specs.Ranges.{lock_ask}
use Rattle.xl_nfs_locks.proofs.joining.join_bytes.Goals as goal

pub returns-clause-done : goal.returns-clause-done
returns-clause-done g c = λ n may.
    let s = c.args.core.now in
    let t = c.asked.new.core in
    let l = c.args.state.now in
    let a = c.args.on.now.turn.asked.args.now in
    let before = may_before n 2 t c.join_answered.new.core c.in_ok-told.ensures.leaves may in
    rw c.requires.room (asking_done n s t c.join_answered.new.core l c.join_answered.new.state c.in_ok-told.handle all_rooms (lock_ask c.args.on.now.locker.now c.args.on.now.turn.above.file a.kind a.reclaim a.offset c.args.last) (join_answered l c.args.on.now.turn.asked.current c.args.on.now.turn.both c.args.on.now.locker.now c.args.on.now.turn.above c.args.on.now.had a.reclaim) c.in_ok-said.said c.in_ok-told.told c.in_ok-said.effects
    (ap (λ (q : Ask). ask n all_rooms s q) (sym c.in_ok-request.ensures.value) ∙ c.in_ok-said.ensures.state n before) (c.in_ok-told.ensures.done n))

pub returns-clause-leaves : goal.returns-clause-leaves
returns-clause-leaves g c = asked_leaves c.args.core.now c.asked.new.core c.join_answered.new.core c.in_ok-said.ensures.leaves c.in_ok-told.ensures.leaves

pub returns-clause-keeper : goal.returns-clause-keeper
returns-clause-keeper g c = λ before told. c.in_ok-told.ensures.quiet before _ (c.in_ok-said.ensures.keeper before told)
