use Rattle.std.proofs.Common.{append_assoc, rules}
use Rattle.xl_capture.specs.Show.{call_text}
use Rattle.xl_capture.proofs.show.put_call.Goals as goal

pub returns : goal.returns
unfolding call_text
returns c = search (rules, append_assoc)
