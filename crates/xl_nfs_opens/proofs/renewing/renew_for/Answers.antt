use Rattle.xl_nfs_opens.proofs.RenewLaws.{renewals_done, renewals_told}
use Rattle.xl_nfs_opens.proofs.renewing.renew_for.Goals as goal

pub returns-clause-done : goal.returns-clause-done
returns-clause-done c = λ n. rw c.in-Some.is (renewals_done n c.args.core.now c.renewed.new.core c.args.state.now c.in-Some.number c.in-Some-find_client.row.now c.as_slice.result.now c.in-Some-find_client.ensures c.as_slice.ensures (c.in_ok-renewed.ensures.state n))

pub returns-clause-told : goal.returns-clause-told
returns-clause-told c = λ n. rw c.in-Some.is (renewals_told n c.args.core.now c.args.state.now c.in-Some.number c.in-Some-find_client.row.now c.as_slice.result.now c.in-Some-find_client.ensures c.as_slice.ensures (c.renewed.ensures.told n))
