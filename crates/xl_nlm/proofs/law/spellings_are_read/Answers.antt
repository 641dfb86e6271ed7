use Rattle.xl_nlm.specs.Arguments.{arguments_of}
use Rattle.xl_nlm.specs.Replies.{results_of}
use Rattle.xl_nlm.proofs.law.spellings_are_read.Goals as goal

pub returns : goal.returns
unfolding arguments_of results_of
returns c = record { of_calls = λ proc. (arguments_of proc).codec; of_replies = λ proc. (results_of proc).codec }
