use Rattle.xl_front_nfs.proofs.compound.+run_ops.Given as goal

abbrev pub decreases-run_ops : goal.decreases-run_ops
decreases-run_ops g l = l.ops.now.count
