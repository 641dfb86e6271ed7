use Rattle.xl_base.proofs.CodecLaws as laws
use Rattle.xl_nfs.specs.Compounds.{compound_head}
use Rattle.xl_nfs.specs.Ops.{op}
use Rattle.xl_nfs.specs.Results.{nfs_result}
use Rattle.xl_nfs.specs.Callbacks.{recall_reply}
use Rattle.xl_nfs.proofs.law.one_spelling.Goals as goal

pub returns : goal.returns
returns c = record {
  of_heads = laws.one_spelling (compound_head.codec);
  of_ops = laws.one_spelling (op.codec);
  of_results = laws.one_spelling (nfs_result.codec);
  of_recall_replies = laws.one_spelling (recall_reply.codec);
}
