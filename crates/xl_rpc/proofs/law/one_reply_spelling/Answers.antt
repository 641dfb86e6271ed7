use Rattle.std.proofs.Common.{ℕ, ap}
use Rattle.xl_base.proofs.CodecLaws.{one_spelling}
use Rattle.xl_rpc.specs.declared.reply.Verdict.{Verdict}
use Rattle.xl_rpc.proofs.ReplyLaws.{reply_codec}
use Rattle.xl_rpc.proofs.law.one_reply_spelling.Goals as goal

pub returns : goal.returns
returns c = λ m n v w x y small fit small' fit' same.
    let both = one_spelling reply_codec (m, v) (n, w) x y (small, fit) (small', fit') same in
    (ap (λ (p : ℕ × Verdict). p.0) both.0, ap (λ (p : ℕ × Verdict). p.1) both.0, both.1)
