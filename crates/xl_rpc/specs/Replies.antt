-- Replies (RFC 5531 9): their spelling, and their reading up to what a successful one gives.
use Rattle.std.specs.Prelude.{ℕ, Bool, true, false, List, [], ◌++◌, Result, if◌then◌else◌}
use Rattle.xl_base.specs.Codec.{pair_at, as_at, exactly_at, tagged_at, if_at, nothing_at, never_at}
use Rattle.xl_rpc.specs.declared.fault.RpcBad.{RpcBad}
use Rattle.xl_rpc.specs.declared.fault.RpcBad.TheVariants as bad
use Rattle.xl_rpc.specs.declared.reply.Verdict.{Verdict}
use Rattle.xl_rpc.specs.declared.reply.Verdict.TheVariants.{Success, ProgUnavail, ProgMismatch, ProcUnavail, GarbageArgs, SystemErr, RpcMismatch, AuthError}
use Rattle.xl_rpc.specs.Xdr.{unsigned, UnsignedFits, unsigned_at}

-- ---- spelling

-- the call was not even judged
abbrev pub is_denied : Verdict → Bool
is_denied (RpcMismatch low high) = true
is_denied (AuthError why) = true
is_denied _ = false

-- reply_stat: 0 accepted, 1 denied
abbrev pub reply_stat : Verdict → ℕ
reply_stat v = if is_denied v then 1 else 0

-- accept_stat of an accepted reply, reject_stat of a denied one
abbrev pub stat : Verdict → ℕ
stat Success = 0
stat ProgUnavail = 1
stat (ProgMismatch low high) = 2
stat ProcUnavail = 3
stat GarbageArgs = 4
stat SystemErr = 5
stat (RpcMismatch low high) = 0
stat (AuthError why) = 1

-- what stands behind the stat: the lowest and the highest version, or why the credential was refused
abbrev pub detail : Verdict → List ℕ
detail (ProgMismatch low high) = unsigned low ++ unsigned high
detail (RpcMismatch low high) = unsigned low ++ unsigned high
detail (AuthError why) = unsigned why
detail _ = []

abbrev pub denied : Verdict → List ℕ
denied v = unsigned (stat v) ++ detail v

-- the verifier of an accepted reply is AUTH_NONE: flavor 0 without bytes (RPC-6)
abbrev pub accepted : Verdict → List ℕ
accepted v = unsigned 0 ++ (unsigned 0 ++ (unsigned (stat v) ++ detail v))

-- what stands behind reply_stat
abbrev pub told : Verdict → List ℕ
told v = if is_denied v then denied v else accepted v

-- the message type of a reply is 1
unfoldable pub reply : ℕ → Verdict → List ℕ
reply xid v = unsigned xid ++ (unsigned 1 ++ (unsigned (reply_stat v) ++ told v))

-- the numbers of a verdict are unsigned integers
abbrev pub VerdictFits : Verdict → Type 0
VerdictFits (ProgMismatch low high) = UnsignedFits low × UnsignedFits high
VerdictFits (RpcMismatch low high) = UnsignedFits low × UnsignedFits high
VerdictFits (AuthError why) = UnsignedFits why
VerdictFits _ = Unit {0}

-- ---- reading

-- what stands behind a reject_stat and behind an accept_stat
abbrev pub denied_with : ℕ → List ℕ → Result (Verdict × List ℕ) RpcBad
denied_with n =
    if_at n 0 (as_at (λ p. RpcMismatch p.0 p.1) (pair_at unsigned_at (λ _. unsigned_at)))
    (if_at n 1 (as_at AuthError unsigned_at) (never_at bad.Value))

abbrev pub accepted_with : ℕ → List ℕ → Result (Verdict × List ℕ) RpcBad
accepted_with n =
    if_at n 0 (as_at (λ _. Success) nothing_at)
    (if_at n 1 (as_at (λ _. ProgUnavail) nothing_at)
    (if_at n 2 (as_at (λ p. ProgMismatch p.0 p.1) (pair_at unsigned_at (λ _. unsigned_at)))
    (if_at n 3 (as_at (λ _. ProcUnavail) nothing_at)
    (if_at n 4 (as_at (λ _. GarbageArgs) nothing_at)
    (if_at n 5 (as_at (λ _. SystemErr) nothing_at) (never_at bad.Value))))))

unfoldable pub denied_at : List ℕ → Result (Verdict × List ℕ) RpcBad
denied_at bytes = tagged_at unsigned_at denied_with bytes

-- any other verifier is a fault (RPC-6)
unfoldable pub accepted_at : List ℕ → Result (Verdict × List ℕ) RpcBad
accepted_at bytes = exactly_at 0 bad.Value unsigned_at (exactly_at 0 bad.TooLong unsigned_at (tagged_at unsigned_at accepted_with)) bytes

unfoldable pub verdict_at : List ℕ → Result (Verdict × List ℕ) RpcBad
verdict_at bytes = tagged_at unsigned_at (λ n. if_at n 0 accepted_at (if_at n 1 denied_at (never_at bad.Value))) bytes

-- the xid and the verdict
unfoldable pub reply_at : List ℕ → Result ((ℕ × Verdict) × List ℕ) RpcBad
reply_at bytes = pair_at unsigned_at (λ _. exactly_at 1 bad.NotCall unsigned_at verdict_at) bytes
