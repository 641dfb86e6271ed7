-- The head of a call is a codec.
use Rattle.std.proofs.Common.{◌≡◌, ℕ, List, ◌++◌, length, drop, Ok, refl, arith}
use Rattle.xl_base.specs.Codec.{IsCodec}
use Rattle.xl_base.proofs.CodecLaws.{pair_codec, as_codec, exactly_codec}
use Rattle.xl_rpc.specs.declared.fault.RpcBad.TheVariants as bad
use Rattle.xl_rpc.specs.Calls.{HeadItem, AuthFits, HeadFits, auth, call, made_auth, made_head, auth_at, call_at}
use Rattle.xl_rpc.proofs.XdrLaws.{read_again, unsigned_codec, opaque_codec}

pub auth_codec : IsCodec auth_at auth AuthFits
unfolding auth_at auth
auth_codec = as_codec made_auth (λ a. (a.flavor, a.body)) (pair_codec unsigned_codec (λ _. opaque_codec 400 (omega arith))) (λ a fit. refl) (λ a. refl)

pub call_codec : IsCodec call_at call HeadFits
unfolding call_at call HeadFits
call_codec = as_codec made_head (λ h. (h.xid, (h.prog, (h.vers, (h.proc, (h.cred, h.verf))))))
    (pair_codec unsigned_codec (λ xid. exactly_codec 0 bad.NotCall unsigned_codec (omega arith) (exactly_codec 2 (bad.Version xid) unsigned_codec (omega arith)
    (pair_codec unsigned_codec (λ _. pair_codec unsigned_codec (λ _. pair_codec unsigned_codec (λ _. pair_codec auth_codec (λ _. auth_codec))))))))
    (λ h fit. refl) (λ h. refl)

pub call_again : (h : HeadItem) (old new rest : List ℕ) → HeadFits h → new ≡ old ++ call h → call_at (drop (length old) new ++ rest) ≡ Ok (h, rest)
call_again h old new rest fits is = read_again call_codec h old new fits is rest
