use Rattle.xl_nfs.proofs.op.put_op_part.Goals as goal

pub returns-in-Renew : goal.returns-in-Renew
returns-in-Renew c = rw c.in-Renew.is (c.u64.ensures.ok, c.u64.ensures.kept)
