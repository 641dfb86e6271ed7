use Rattle.xl_base.proofs.CodecLaws as laws
use Rattle.xl_nlm.specs.Arguments.{arguments_of}
use Rattle.xl_nlm.specs.Replies.{results_of}
use Rattle.xl_nlm.proofs.law.one_spelling.Goals as goal

pub returns : goal.returns
unfolding arguments_of results_of
returns c = record {
  of_calls = λ proc. laws.one_spelling ((arguments_of proc).codec);
  of_replies = λ proc. laws.one_spelling ((results_of proc).codec);
}
