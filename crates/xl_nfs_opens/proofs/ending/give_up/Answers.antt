use Rattle.xl_nfs_opens.specs.Asks.{all_ones}
use Rattle.xl_nfs_opens.proofs.LeaveLaws.{may_be_made}
use Rattle.xl_nfs_opens.proofs.UnderLaws.{unlock_done, unlock_told, unlock_leaves}
use Rattle.xl_nfs_opens.proofs.ending.give_up.Goals as goal

pub returns-clause-done : goal.returns-clause-done
returns-clause-done g c = λ n.
    let t = c.asked.new.core in
    rw c.in-Some.is (unlock_done n c.args.core.now t c.in-Some.opener c.args.file 0 all_ones c.in_ok-request.request _ _ c.in_ok-request.ensures.value (c.in_ok-_said.ensures.state t.made (may_be_made t)))

pub returns-clause-told : goal.returns-clause-told
returns-clause-told g c = λ n. rw c.in-Some.is (unlock_told n c.args.core.now c.in-Some.opener c.args.file 0 all_ones)

pub returns-clause-leaves : goal.returns-clause-leaves
returns-clause-leaves g c =
    let t = c.asked.new.core in
    unlock_leaves t.made c.args.core.now t c.in-Some.opener c.args.file 0 all_ones 2 c.in_ok-request.request _ _ c.in_ok-request.ensures.value (c.in_ok-_said.ensures.state t.made (may_be_made t)) c.in_ok-_said.ensures.leaves
