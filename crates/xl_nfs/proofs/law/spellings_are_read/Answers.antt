use Rattle.xl_nfs.specs.Compounds.{compound_head}
use Rattle.xl_nfs.specs.Ops.{op}
use Rattle.xl_nfs.specs.Results.{nfs_result}
use Rattle.xl_nfs.specs.Callbacks.{recall_reply}
use Rattle.xl_nfs.proofs.law.spellings_are_read.Goals as goal

pub returns : goal.returns
returns c = record {
  of_heads = compound_head.codec;
  of_ops = op.codec;
  of_results = nfs_result.codec;
  of_recall_replies = recall_reply.codec;
}
