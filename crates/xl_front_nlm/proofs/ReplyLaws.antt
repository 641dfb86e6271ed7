-- Replies and results fit a record.
use Rattle.std.proofs.Common.{◌≡◌, ℕ, ◌-◌, ◌%◌, ◌<◌, ◌≤◌, List, ◌++◌, length, replicate, Option, Some, None, refl, ap, arith}
use Rattle.std.proofs.Math.Nat.{mod-lt}
use Rattle.std.proofs.lemmas.List.{length-append, length-replicate}
use Rattle.std.specs.Int.{w32, cast_unsigned}
use Rattle.std.specs.Prelude.{if◌then◌else◌}
use Rattle.xl_base.specs.Codec.{big_endian}
use Rattle.xl_base.specs.Limits.{most_message_bytes}
use Rattle.xl_programs.proofs.ReplyLaws.{length-unsigned, longer, reply_little}
use Rattle.xl_nlm.specs.Arguments.{TextFits}
use Rattle.xl_nlm.specs.Items.{HolderItem, TestResItem, ResItem, ShareResItem, ReplyItem, Void, TestAnswer, Answer, ShareAnswer}
use Rattle.xl_base.specs.Formats.{spelled}
use Rattle.xl_format.specs.Formats.{nothing, chosen_part}
use Rattle.xl_nlm.specs.declared.item.NlmStatus.{NlmStatus}
use Rattle.xl_nlm.specs.Replies.{status, holder, test_res, res, share_res, results, status_number, ReplyFits}
use Rattle.xl_rpc.specs.Xdr.{void, hyper, pad, fixed, opaque}
use Rattle.xl_rpc.specs.Replies.{reply}
use Rattle.xl_rpc.specs.Xdr.{unsigned}
use Rattle.xl_rpc.specs.declared.reply.Verdict.{Verdict}

-- ---- results

length-hyper : (n : ℕ) → length (hyper n) ≡ 8
unfolding big_endian
length-hyper n = refl

pad_short : (n : ℕ) → pad n < 4
unfolding pad
pad_short n = mod-lt (4 - n % 4) (omega arith)

opaque_short : (bytes : List ℕ) → TextFits bytes → length (opaque bytes) ≤ 1031
unfolding opaque fixed
opaque_short bytes le =
    let fill = length-append bytes (replicate (pad (length bytes)) 0) in
    let zeros = length-replicate {A = ℕ} (pad (length bytes)) 0 in
    longer (length bytes) (bytes ++ replicate (pad (length bytes)) 0) 1027 (omega (arith, fill, zeros, pad_short (length bytes), le))

length-status : (s : NlmStatus) → length (status.spell s) ≡ 4
unfolding status
length-status s = length-unsigned (status_number s)

res_short : (r : ResItem) → res.Fit r → length (res.spell r) ≤ 4096
unfolding res
res_short r fits = omega (arith, length-append (opaque r.cookie) (status.spell r.stat), opaque_short r.cookie fits.0, length-status r.stat)

share_res_short : (r : ShareResItem) → share_res.Fit r → length (share_res.spell r) ≤ 4096
unfolding share_res
share_res_short r fits =
    let rest = length-append (status.spell r.stat) (unsigned (cast_unsigned w32 r.sequence)) in
    let all = length-append (opaque r.cookie) (status.spell r.stat ++ unsigned (cast_unsigned w32 r.sequence)) in
    omega (arith, all, rest, opaque_short r.cookie fits.0, length-status r.stat, length-unsigned (cast_unsigned w32 r.sequence))

holder_short : (h : HolderItem) → holder.Fit h → length (holder.spell h) ≤ 1055
unfolding holder
holder_short h fits =
    let bytes = hyper h.l_offset ++ hyper h.l_len in
    let two = length-append (hyper h.l_offset) (hyper h.l_len) in
    let oh = length-append (opaque h.oh) bytes in
    let rest : length (opaque h.oh ++ bytes) ≤ 1047 = omega (arith, two, oh, length-hyper h.l_offset, length-hyper h.l_len, opaque_short h.oh fits.1.1.0) in
    longer (if h.exclusive then 1 else 0) (unsigned (cast_unsigned w32 h.svid) ++ (opaque h.oh ++ bytes)) 1051 (longer (cast_unsigned w32 h.svid) (opaque h.oh ++ bytes) 1047 rest)

part_short : (h : Option HolderItem) → (chosen_part holder h).Fit → length (spelled (chosen_part holder h)) ≤ 1055
unfolding nothing void
part_short None fits = omega arith
part_short (Some h) fits = holder_short h fits

test_res_short : (r : TestResItem) → test_res.Fit r → length (test_res.spell r) ≤ 4096
unfolding test_res
test_res_short r fits =
    let part = spelled (chosen_part holder r.holder) in
    let rest = length-append (status.spell r.stat) part in
    omega (arith, length-append (opaque r.cookie) (status.spell r.stat ++ part), rest, length-status r.stat, opaque_short r.cookie fits.0, part_short r.holder fits.1.1.1)

results_short : (r : ReplyItem) → ReplyFits r → length (results r) ≤ 4096
unfolding nothing void
results_short Void fits = omega arith
results_short (TestAnswer r) fits = test_res_short r fits
results_short (Answer r) fits = res_short r fits
results_short (ShareAnswer r) fits = share_res_short r fits

-- a reply with results fits a record
pub whole_short : (bytes : List ℕ) (xid : ℕ) (v : Verdict) (r : ReplyItem) → bytes ≡ reply xid v ++ results r → ReplyFits r → length bytes ≤ most_message_bytes
whole_short bytes xid v r e fits = omega (arith, ap length e, length-append (reply xid v) (results r), reply_little xid v, results_short r fits)
