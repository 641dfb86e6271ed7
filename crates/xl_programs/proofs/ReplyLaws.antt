-- Replies without results are short.
use Rattle.std.proofs.Common.{◌≡◌, ℕ, ◌+◌, ◌≤◌, List, [], ◌++◌, length, refl, arith}
use Rattle.std.proofs.lemmas.List.{length-append}
use Rattle.xl_base.specs.Codec.{big_endian}
use Rattle.xl_rpc.specs.Replies.{reply, told, reply_stat}
use Rattle.xl_rpc.specs.Xdr.{unsigned}
use Rattle.xl_rpc.specs.declared.reply.Verdict.{Verdict}
use Rattle.xl_rpc.specs.declared.reply.Verdict.TheVariants.{Success, ProgUnavail, ProgMismatch, ProcUnavail, GarbageArgs, SystemErr, RpcMismatch, AuthError}

pub length-unsigned : (n : ℕ) → length (unsigned n) ≡ 4
unfolding big_endian
length-unsigned n = refl

-- one word before the rest
pub longer : (n : ℕ) (rest : List ℕ) (most : ℕ) → length rest ≤ most → length (unsigned n ++ rest) ≤ most + 4
longer n rest most le = omega (arith, length-append (unsigned n) rest, length-unsigned n, le)

two : (m n : ℕ) → length (unsigned m ++ unsigned n) ≤ 8
two m n = longer m (unsigned n) 4 (omega (arith, length-unsigned n))

accepted_short : (n : ℕ) (detail : List ℕ) → length detail ≤ 8 → length (unsigned 0 ++ (unsigned 0 ++ (unsigned n ++ detail))) ≤ 20
accepted_short n detail le = longer 0 (unsigned 0 ++ (unsigned n ++ detail)) 16 (longer 0 (unsigned n ++ detail) 12 (longer n detail 8 le))

told_short : (v : Verdict) → length (told v) ≤ 20
told_short Success = accepted_short 0 [] (omega arith)
told_short ProgUnavail = accepted_short 1 [] (omega arith)
told_short (ProgMismatch low high) = accepted_short 2 (unsigned low ++ unsigned high) (two low high)
told_short ProcUnavail = accepted_short 3 [] (omega arith)
told_short GarbageArgs = accepted_short 4 [] (omega arith)
told_short SystemErr = accepted_short 5 [] (omega arith)
told_short (RpcMismatch low high) = omega (arith, longer 0 (unsigned low ++ unsigned high) 8 (two low high))
told_short (AuthError why) = omega (arith, two 1 why)

pub reply_little : (xid : ℕ) (v : Verdict) → length (reply xid v) ≤ 32
unfolding reply
reply_little xid v = omega (arith, longer xid (unsigned 1 ++ (unsigned (reply_stat v) ++ told v)) 28 (longer 1 (unsigned (reply_stat v) ++ told v) 24 (longer (reply_stat v) (told v) 20 (told_short v))))
