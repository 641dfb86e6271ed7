use Rattle.xl_rpc.proofs.XdrLaws.{unsigned_codec, hyper_codec, signed_codec, boolean_codec, opaque_fixed_codec, opaque_codec, words_codec, void_codec}
use Rattle.xl_rpc.proofs.CallLaws.{call_codec}
use Rattle.xl_rpc.proofs.ReplyLaws.{reply_codec}
use Rattle.xl_rpc.proofs.law.spellings_are_read.Goals as goal

pub returns : goal.returns
returns c = record {
  unsigned_integer = unsigned_codec;
  hyper_integer = hyper_codec;
  signed_integer = signed_codec;
  flag = boolean_codec;
  fixed_opaque = opaque_fixed_codec;
  variable_opaque = opaque_codec;
  words = words_codec;
  nothing = void_codec;
  calls = call_codec;
  replies = reply_codec;
}
