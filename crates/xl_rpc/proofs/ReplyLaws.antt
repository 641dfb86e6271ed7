-- A reply up to its results is a codec.
use Rattle.std.proofs.Common.{◌≡◌, ℕ, ◌<◌, ◌^◌, ◌==◌, List, ◌++◌, length, drop, Ok, false, refl, arith}
use Rattle.std.proofs.lemmas.Bool.Decides.{nat_tests}
use Rattle.xl_base.specs.Codec.{IsCodec}
use Rattle.xl_base.proofs.CodecLaws.{pair_codec, view_codec, exactly_codec, tagged_codec, if_codec, nothing_codec, never_codec, same_codec}
use Rattle.xl_rpc.specs.declared.fault.RpcBad.TheVariants as bad
use Rattle.xl_rpc.specs.declared.reply.Verdict.{Verdict}
use Rattle.xl_rpc.specs.declared.reply.Verdict.TheVariants.{Success, ProgUnavail, ProgMismatch, ProcUnavail, GarbageArgs, SystemErr, RpcMismatch, AuthError}
use Rattle.xl_rpc.specs.Xdr.{unsigned}
use Rattle.xl_rpc.specs.Replies.{reply_stat, stat, detail, denied, accepted, told, reply, VerdictFits, denied_with, accepted_with, denied_at, accepted_at, verdict_at, reply_at}
use Rattle.xl_rpc.proofs.XdrLaws.{read_again, unsigned_codec}

abbrev IsAccepted : ℕ → Verdict → Type 0
IsAccepted n v = (stat v ≡ n) × ((reply_stat v ≡ 0) × VerdictFits v)

abbrev IsDenied : ℕ → Verdict → Type 0
IsDenied n v = (stat v ≡ n) × ((reply_stat v ≡ 1) × VerdictFits v)

other_tag : (tag n : ℕ) → (tag == n) ≡ false → n ≡ tag → ⊥
other_tag tag n differs same = grind (arith, nat_tests)

-- ---- which verdict a stat is of

is_success : (v : Verdict) → IsAccepted 0 v → Success ≡ v
is_success Success fit = refl
is_success _ fit = absurd (omega (arith, fit.0, fit.1.0))

is_prog_unavail : (v : Verdict) → IsAccepted 1 v → ProgUnavail ≡ v
is_prog_unavail ProgUnavail fit = refl
is_prog_unavail _ fit = absurd (omega (arith, fit.0, fit.1.0))

is_prog_mismatch : (v : Verdict) → IsAccepted 2 v → (p : ℕ × ℕ) × (ProgMismatch p.0 p.1 ≡ v) × ((p.0 < 2 ^ 32) × (p.1 < 2 ^ 32))
is_prog_mismatch (ProgMismatch low high) fit = ((low, high), refl, fit.1.1)
is_prog_mismatch _ fit = absurd (omega (arith, fit.0, fit.1.0))

is_proc_unavail : (v : Verdict) → IsAccepted 3 v → ProcUnavail ≡ v
is_proc_unavail ProcUnavail fit = refl
is_proc_unavail _ fit = absurd (omega (arith, fit.0, fit.1.0))

is_garbage_args : (v : Verdict) → IsAccepted 4 v → GarbageArgs ≡ v
is_garbage_args GarbageArgs fit = refl
is_garbage_args _ fit = absurd (omega (arith, fit.0, fit.1.0))

is_system_err : (v : Verdict) → IsAccepted 5 v → SystemErr ≡ v
is_system_err SystemErr fit = refl
is_system_err _ fit = absurd (omega (arith, fit.0, fit.1.0))

is_rpc_mismatch : (v : Verdict) → IsDenied 0 v → (p : ℕ × ℕ) × (RpcMismatch p.0 p.1 ≡ v) × ((p.0 < 2 ^ 32) × (p.1 < 2 ^ 32))
is_rpc_mismatch (RpcMismatch low high) fit = ((low, high), refl, fit.1.1)
is_rpc_mismatch _ fit = absurd (omega (arith, fit.0, fit.1.0))

is_auth_error : (v : Verdict) → IsDenied 1 v → (why : ℕ) × (AuthError why ≡ v) × (why < 2 ^ 32)
is_auth_error (AuthError why) fit = (why, refl, fit.1.1)
is_auth_error _ fit = absurd (omega (arith, fit.0, fit.1.0))

none_denied : (n : ℕ) → (n == 0) ≡ false → (n == 1) ≡ false → (v : Verdict) → IsDenied n v → ⊥
none_denied n h0 h1 (RpcMismatch low high) fit = other_tag n 0 h0 fit.0
none_denied n h0 h1 (AuthError why) fit = other_tag n 1 h1 fit.0
none_denied n h0 h1 _ fit = omega (arith, fit.1.0)

none_accepted : (n : ℕ) → (n == 0) ≡ false → (n == 1) ≡ false → (n == 2) ≡ false → (n == 3) ≡ false → (n == 4) ≡ false → (n == 5) ≡ false → (v : Verdict) → IsAccepted n v → ⊥
none_accepted n h0 h1 h2 h3 h4 h5 Success fit = other_tag n 0 h0 fit.0
none_accepted n h0 h1 h2 h3 h4 h5 ProgUnavail fit = other_tag n 1 h1 fit.0
none_accepted n h0 h1 h2 h3 h4 h5 (ProgMismatch low high) fit = other_tag n 2 h2 fit.0
none_accepted n h0 h1 h2 h3 h4 h5 ProcUnavail fit = other_tag n 3 h3 fit.0
none_accepted n h0 h1 h2 h3 h4 h5 GarbageArgs fit = other_tag n 4 h4 fit.0
none_accepted n h0 h1 h2 h3 h4 h5 SystemErr fit = other_tag n 5 h5 fit.0
none_accepted n h0 h1 h2 h3 h4 h5 _ fit = omega (arith, fit.1.0)

-- ---- the codecs

denied_with_codec : (n : ℕ) → IsCodec (denied_with n) detail (IsDenied n)
denied_with_codec n =
    if_codec IsDenied n 0 (view_codec (λ p. RpcMismatch p.0 p.1) detail (IsDenied 0) (pair_codec unsigned_codec (λ _. unsigned_codec)) (λ p fit. (refl, (refl, (refl, fit)))) is_rpc_mismatch) (λ h0.
    if_codec IsDenied n 1 (view_codec AuthError detail (IsDenied 1) unsigned_codec (λ why fit. (refl, (refl, (refl, fit)))) is_auth_error) (λ h1.
    never_codec bad.Value detail (IsDenied n) (none_denied n h0 h1)))

accepted_with_codec : (n : ℕ) → IsCodec (accepted_with n) detail (IsAccepted n)
accepted_with_codec n =
    if_codec IsAccepted n 0 (view_codec (λ _. Success) detail (IsAccepted 0) nothing_codec (λ _ _. (refl, (refl, (refl, tt)))) (λ v fit. (tt, is_success v fit, tt))) (λ h0.
    if_codec IsAccepted n 1 (view_codec (λ _. ProgUnavail) detail (IsAccepted 1) nothing_codec (λ _ _. (refl, (refl, (refl, tt)))) (λ v fit. (tt, is_prog_unavail v fit, tt))) (λ h1.
    if_codec IsAccepted n 2 (view_codec (λ p. ProgMismatch p.0 p.1) detail (IsAccepted 2) (pair_codec unsigned_codec (λ _. unsigned_codec)) (λ p fit. (refl, (refl, (refl, fit)))) is_prog_mismatch) (λ h2.
    if_codec IsAccepted n 3 (view_codec (λ _. ProcUnavail) detail (IsAccepted 3) nothing_codec (λ _ _. (refl, (refl, (refl, tt)))) (λ v fit. (tt, is_proc_unavail v fit, tt))) (λ h3.
    if_codec IsAccepted n 4 (view_codec (λ _. GarbageArgs) detail (IsAccepted 4) nothing_codec (λ _ _. (refl, (refl, (refl, tt)))) (λ v fit. (tt, is_garbage_args v fit, tt))) (λ h4.
    if_codec IsAccepted n 5 (view_codec (λ _. SystemErr) detail (IsAccepted 5) nothing_codec (λ _ _. (refl, (refl, (refl, tt)))) (λ v fit. (tt, is_system_err v fit, tt))) (λ h5.
    never_codec bad.Value detail (IsAccepted n) (none_accepted n h0 h1 h2 h3 h4 h5)))))))

abbrev IsReply : ℕ → Verdict → Type 0
IsReply n v = (reply_stat v ≡ n) × VerdictFits v

stat_fits : (v : Verdict) → stat v < 2 ^ 32
stat_fits ProgUnavail = omega arith
stat_fits _ = omega arith

told_denied : (v : Verdict) → reply_stat v ≡ 1 → told v ≡ denied v
told_denied (RpcMismatch low high) is = refl
told_denied (AuthError why) is = refl
told_denied _ is = absurd (omega arith)

told_accepted : (v : Verdict) → reply_stat v ≡ 0 → told v ≡ accepted v
told_accepted (RpcMismatch low high) is = absurd (omega arith)
told_accepted (AuthError why) is = absurd (omega arith)
told_accepted _ is = refl

denied_codec : IsCodec denied_at told (IsReply 1)
unfolding denied_at
denied_codec = same_codec told (IsReply 1) (tagged_codec stat unsigned_codec denied_with_codec)
    (λ v fit. (told_denied v fit.1.0, fit.1)) (λ v fit. (stat_fits v, fit))

accepted_codec : IsCodec accepted_at told (IsReply 0)
unfolding accepted_at
accepted_codec = same_codec told (IsReply 0)
    (exactly_codec 0 bad.Value unsigned_codec (omega arith) (exactly_codec 0 bad.TooLong unsigned_codec (omega arith) (tagged_codec stat unsigned_codec accepted_with_codec)))
    (λ v fit. (told_accepted v fit.1.0, fit.1)) (λ v fit. (stat_fits v, fit))

none_other : (n : ℕ) → (n == 0) ≡ false → (n == 1) ≡ false → (v : Verdict) → IsReply n v → ⊥
none_other n h0 h1 (RpcMismatch low high) fit = other_tag n 1 h1 fit.0
none_other n h0 h1 (AuthError why) fit = other_tag n 1 h1 fit.0
none_other n h0 h1 _ fit = other_tag n 0 h0 fit.0

reply_stat_fits : (v : Verdict) → reply_stat v < 2 ^ 32
reply_stat_fits ProgUnavail = omega arith
reply_stat_fits _ = omega arith

verdict_codec : IsCodec verdict_at (λ v. unsigned (reply_stat v) ++ told v) VerdictFits
unfolding verdict_at
verdict_codec = same_codec (λ v. unsigned (reply_stat v) ++ told v) VerdictFits
    (tagged_codec reply_stat unsigned_codec (λ n.
    if_codec IsReply n 0 accepted_codec (λ h0. if_codec IsReply n 1 denied_codec (λ h1. never_codec bad.Value told (IsReply n) (none_other n h0 h1)))))
    (λ v fit. (refl, fit.1)) (λ v fit. (reply_stat_fits v, fit))

pub reply_codec : IsCodec reply_at (λ r. reply r.0 r.1) (λ r. (r.0 < 2 ^ 32) × VerdictFits r.1)
unfolding reply_at reply
reply_codec = pair_codec unsigned_codec (λ _. exactly_codec 1 bad.NotCall unsigned_codec (omega arith) verdict_codec)

pub reply_again : (xid : ℕ) (v : Verdict) (old new rest : List ℕ) → xid < 2 ^ 32 → VerdictFits v → new ≡ old ++ reply xid v → reply_at (drop (length old) new ++ rest) ≡ Ok ((xid, v), rest)
reply_again xid v old new rest small fits is = read_again reply_codec (xid, v) old new (small, fits) is rest
