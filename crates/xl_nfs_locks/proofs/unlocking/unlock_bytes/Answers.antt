use Rattle.std.proofs.Common.{◌∙◌, sym, ap}
use Rattle.xl_nfs.specs.declared.status.NfsStatus.{NfsStatus}
use Rattle.xl_core.specs.Decide.{ask}
use Rattle.xl_core.specs.declared.ask.Ask.{Ask}
use Rattle.xl_nfs_opens.specs.Asks.{unlock_ask}
use Rattle.xl_nfs_opens.specs.Opens.{all_rooms}
use Rattle.xl_nfs_opens.specs.Plans.{carried}
use Rattle.xl_nfs_opens.proofs.BehindLaws.{asking_done}
use Rattle.xl_nfs_locks.specs.Unlocks.{unlock_status, unlocked_as}
use Rattle.xl_nfs_locks.proofs.unlocking.unlock_bytes.Goals as goal

pub returns-clause-done : goal.returns-clause-done
returns-clause-done g c = λ n may.
    let s = c.args.core.now in
    let t = c.asked.new.core in
    let l = c.args.state.now in
    asking_done n s t t l c.unlocked_as.new.state c.in_ok-told.handle all_rooms (unlock_ask c.args.by.now c.args.turn.now.found.row.file c.args.turn.now.args.now.offset c.args.last)
    (λ answer u. unlocked_as u l c.args.turn.now.current c.args.turn.now.args.now c.args.turn.now.found.row c.args.turn.now.found.owner c.args.turn.now.found.seqids (unlock_status answer)) c.in_ok-said.said c.in_ok-told.told c.in_ok-said.effects
    (ap (λ (q : Ask). ask n all_rooms s q) (sym c.in_ok-request.ensures.value) ∙ c.in_ok-said.ensures.state n may)
    (ap (λ (x : NfsStatus). carried n t l (unlocked_as t l c.args.turn.now.current c.args.turn.now.args.now c.args.turn.now.found.row c.args.turn.now.found.owner c.args.turn.now.found.seqids x)) (sym c.unlock_status-status.ensures) ∙ c.in_ok-told.ensures n)
