-- Clients: the arguments of SETCLIENTID and SETCLIENTID_CONFIRM (RFC 7531).
use Rattle.std.specs.Prelude.{ℕ, List}
use Rattle.std.proofs.Common.{refl}
use Rattle.xl_base.specs.Formats.{Format}
use Rattle.xl_rpc.specs.declared.fault.RpcBad.{RpcBad}
use Rattle.xl_format.specs.Formats.{u32, u64, text, ◌⋆◌, seen}
use Rattle.xl_nfs.specs.Basics.{identifier, verifier}
use Rattle.xl_nfs.specs.declared.clients.SetClientIdArgs.{SetClientIdArgs}
use Rattle.xl_nfs.specs.declared.clients.ClientConfirm.{ClientConfirm}

-- netid and address of clientaddr4 (NFS-2)
abbrev pub label : Format (List ℕ) RpcBad
label = text 64 refl

-- SETCLIENTID4args
pub record SetClientIdArgsItem : Type 0 where
  pub verifier : List ℕ
  pub id : List ℕ
  pub program : ℕ
  pub netid : List ℕ
  pub address : List ℕ
  pub callback_ident : ℕ

abbrev pub shown_set_client_id_args : SetClientIdArgs → SetClientIdArgsItem
shown_set_client_id_args x = record { verifier = x.verifier; id = x.id.now; program = x.program; netid = x.netid.now; address = x.address.now; callback_ident = x.callback_ident }

-- SETCLIENTID4args
unfoldable pub set_client_id_args : Format SetClientIdArgsItem RpcBad
set_client_id_args = seen (λ x. record { verifier = x.0; id = x.1.0; program = x.1.1.0; netid = x.1.1.1.0; address = x.1.1.1.1.0; callback_ident = x.1.1.1.1.1 })
    (λ x. (x.verifier, (x.id, (x.program, (x.netid, (x.address, x.callback_ident)))))) (verifier ⋆ identifier ⋆ u32 ⋆ label ⋆ label ⋆ u32) (λ _. refl) (λ _. refl)

-- SETCLIENTID4resok, SETCLIENTID_CONFIRM4args
unfoldable pub client_confirm : Format ClientConfirm RpcBad
client_confirm = seen (λ x. record { clientid = x.0; verifier = x.1 }) (λ x. (x.clientid, x.verifier)) (u64 ⋆ verifier) (λ _. refl) (λ _. refl)
