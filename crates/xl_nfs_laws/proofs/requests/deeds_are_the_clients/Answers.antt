use Rattle.xl_nfs_laws.proofs.RequestOwn.{plan_own, request_own}
use Rattle.xl_nfs_laws.proofs.RenewedLaws.{plan_renews}
use Rattle.xl_nfs_laws.proofs.requests.deeds_are_the_clients.Goals as goal

pub returns-clause-operations : goal.returns-clause-operations
returns-clause-operations c = λ n files others s l current item good. (plan_own n files others s l current item good).1

pub returns-clause-renewed : goal.returns-clause-renewed
returns-clause-renewed c = plan_renews

pub returns-clause-requests : goal.returns-clause-requests
returns-clause-requests c = λ n exports others f s r good. request_own n exports others f s r good
