use Rattle.xl_base.proofs.CodecLaws.{one_spelling}
use Rattle.xl_rpc.proofs.CallLaws.{call_codec}
use Rattle.xl_rpc.proofs.law.one_call_spelling.Goals as goal

pub returns : goal.returns
returns c = one_spelling call_codec
