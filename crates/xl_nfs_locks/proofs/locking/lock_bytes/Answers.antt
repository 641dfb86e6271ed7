use Rattle.std.proofs.Common.{◌∙◌, sym, ap}
use Rattle.xl_core.specs.Decide.{ask}
use Rattle.xl_core.specs.declared.ask.Ask.{Ask}
use Rattle.xl_nfs_opens.specs.Opens.{all_rooms}
use Rattle.xl_nfs_opens.proofs.BehindLaws.{asking_done}
use Rattle.xl_nfs_locks.specs.Locks.{lock_answered}
use Rattle.xl_nfs_locks.specs.Ranges.{lock_ask}
use Rattle.xl_nfs_locks.proofs.locking.lock_bytes.Goals as goal

pub returns-clause-done : goal.returns-clause-done
returns-clause-done g c = λ n may.
    let s = c.args.core.now in
    let t = c.asked.new.core in
    let l = c.args.state.now in
    let a = c.args.turn.now.asked.args.now in
    asking_done n s t t l c.lock_answered.new.state c.in_ok-told.handle all_rooms (lock_ask c.args.by.now c.args.turn.now.found.row.file a.kind a.reclaim a.offset c.args.last)
    (lock_answered l c.args.turn.now.asked.current c.args.turn.now.found.row c.args.turn.now.found.owner c.args.turn.now.found.seqids c.args.turn.now.asked.known.now.seqid a.reclaim) c.in_ok-said.said c.in_ok-told.told c.in_ok-said.effects
    (ap (λ (q : Ask). ask n all_rooms s q) (sym c.in_ok-request.ensures.value) ∙ c.in_ok-said.ensures.state n may) (c.in_ok-told.ensures n)
