use Rattle.xl_nfs_opens.proofs.HeldLaws.{denied_grown}
use Rattle.xl_nfs_opens.proofs.results.put_denied.Goals as goal

pub returns-clause-little : goal.returns-clause-little
returns-clause-little c = denied_grown _ _ _ _ _ c.denied_as.ensures.few c.denied_as.ensures.value c.in_ok-write_result.ensures.ok
