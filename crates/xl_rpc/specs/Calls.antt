-- The head of a call (RFC 5531 9): its spelling, and its reading.
use Rattle.std.specs.Prelude.{ℕ, List, ◌++◌, Result}
use Rattle.xl_base.specs.Codec.{pair_at, as_at, exactly_at}
use Rattle.xl_rpc.specs.declared.call.Auth.{Auth}
use Rattle.xl_rpc.specs.declared.call.CallHead.{CallHead}
use Rattle.xl_rpc.specs.declared.fault.RpcBad.{RpcBad}
use Rattle.xl_rpc.specs.declared.fault.RpcBad.TheVariants as bad
use Rattle.xl_rpc.specs.Xdr.{unsigned, opaque, UnsignedFits, OpaqueFits, unsigned_at, opaque_at}

-- a credential or verifier, and a call's head, without where they lie in memory
pub record AuthItem : Type 0 where
  pub flavor : ℕ
  pub body : List ℕ

pub record HeadItem : Type 0 where
  pub xid : ℕ
  pub prog : ℕ
  pub vers : ℕ
  pub proc : ℕ
  pub cred : AuthItem
  pub verf : AuthItem

abbrev pub shown_auth : Auth → AuthItem
shown_auth a = record { flavor = a.flavor; body = a.body.now }

abbrev pub shown_head : CallHead → HeadItem
shown_head h = record { xid = h.xid; prog = h.prog; vers = h.vers; proc = h.proc; cred = shown_auth h.cred; verf = shown_auth h.verf }

-- opaque_auth (8.2)
unfoldable pub auth : AuthItem → List ℕ
auth a = unsigned a.flavor ++ opaque a.body

abbrev pub AuthFits : AuthItem → Type 0
AuthFits a = UnsignedFits a.flavor × OpaqueFits 400 a.body

-- the message type of a call is 0, the version of the protocol 2
unfoldable pub call : HeadItem → List ℕ
call h = unsigned h.xid ++ (unsigned 0 ++ (unsigned 2 ++ (unsigned h.prog ++ (unsigned h.vers ++ (unsigned h.proc ++ (auth h.cred ++ auth h.verf))))))

unfoldable pub HeadFits : HeadItem → Type 0
HeadFits h = UnsignedFits h.xid × (UnsignedFits h.prog × (UnsignedFits h.vers × (UnsignedFits h.proc × (AuthFits h.cred × AuthFits h.verf))))

-- ---- reading

abbrev pub made_auth : ℕ × List ℕ → AuthItem
made_auth a = record { flavor = a.0; body = a.1 }

abbrev pub made_head : ℕ × (ℕ × (ℕ × (ℕ × (AuthItem × AuthItem)))) → HeadItem
made_head h = record { xid = h.0; prog = h.1.0; vers = h.1.1.0; proc = h.1.1.1.0; cred = h.1.1.1.1.0; verf = h.1.1.1.1.1 }

-- a credential or a verifier, of at most 400 bytes, which are not judged (RPC-3)
unfoldable pub auth_at : List ℕ → Result (AuthItem × List ℕ) RpcBad
auth_at bytes = as_at made_auth (pair_at unsigned_at (λ _. opaque_at 400)) bytes

-- the head of a call: another version is a fault that names the call, whatever follows it (RPC-2)
unfoldable pub call_at : List ℕ → Result (HeadItem × List ℕ) RpcBad
call_at bytes =
    as_at made_head
    (pair_at unsigned_at (λ xid. exactly_at 0 bad.NotCall unsigned_at (exactly_at 2 (bad.Version xid) unsigned_at
    (pair_at unsigned_at (λ _. pair_at unsigned_at (λ _. pair_at unsigned_at (λ _. pair_at auth_at (λ _. auth_at)))))))) bytes
