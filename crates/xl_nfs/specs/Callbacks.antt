-- The call that asks a client for a delegation, and the client's reply (RFC 7531).
use Rattle.std.specs.Prelude.{◌++◌, [], ℕ, false, List, Option, Some, None, Result, option_map}
use Rattle.std.proofs.Common.{refl}
use Rattle.xl_base.specs.Formats.{Format, Cases, case, Chosen, chosen, IsMade}
use Rattle.xl_base.specs.Handles.{handle}
use Rattle.xl_rpc.specs.declared.fault.RpcBad.{RpcBad}
use Rattle.xl_rpc.specs.declared.fault.RpcBad.TheVariants as bad
use Rattle.xl_rpc.specs.Calls.{AuthItem, HeadItem, call}
use Rattle.xl_rpc.specs.Xdr.{unsigned, boolean, opaque}
use Rattle.xl_format.specs.Formats.{u32, ◌⋆◌, seen, nothing, otherwise, none_else, tagged}
use Rattle.xl_nfs.specs.Basics.{identifier, stateid}
use Rattle.xl_nfs.specs.declared.basics.Stateid.{Stateid}
use Rattle.xl_nfs.specs.declared.status.NfsStatus.{NfsStatus}
use Rattle.xl_nfs.specs.Statuses.{status}
use Rattle.xl_nfs.specs.declared.callback.RecallResult.{RecallResult}
use Rattle.xl_nfs.specs.declared.callback.RecallResult.TheVariants as wire
use Rattle.xl_nfs.specs.declared.callback.RecallReply.{RecallReply}

-- nfs_cb_resop4
pub data RecallResultItem : Type 0 where
  Recall : NfsStatus → RecallResultItem
  IllegalRecall : NfsStatus → RecallResultItem

abbrev pub shown_recall_result : RecallResult → RecallResultItem
shown_recall_result (wire.Recall x) = Recall x
shown_recall_result (wire.Illegal x) = IllegalRecall x

abbrev pub recall_results : Cases ℕ RecallResultItem RpcBad
recall_results = case 4 Recall status (case 10044 IllegalRecall status (otherwise bad.Value))

abbrev pub recall_result_case : RecallResultItem → Chosen ℕ RecallResultItem RpcBad
recall_result_case (Recall x) = chosen 4 Recall status x
recall_result_case (IllegalRecall x) = chosen 10044 IllegalRecall status x

pub recall_result_made : (x : RecallResultItem) → IsMade recall_results x (recall_result_case x)
recall_result_made (Recall x) = (refl, λ _ _. refl)
recall_result_made _ = (refl, λ _ _. refl)

-- CB_RECALL4res
unfoldable pub recall_result : Format RecallResultItem RpcBad
recall_result = tagged u32 recall_results recall_result_case (λ _. refl, (λ _. refl, none_else recall_result_case _ bad.Value)) recall_result_made

-- at most one result (NFS-7)
abbrev pub result_lists : Cases ℕ (Option RecallResultItem) RpcBad
result_lists = case 0 (λ _. None) nothing (case 1 Some recall_result (otherwise bad.Value))

abbrev pub result_list_case : Option RecallResultItem → Chosen ℕ (Option RecallResultItem) RpcBad
result_list_case None = chosen 0 (λ _. None) nothing tt
result_list_case (Some x) = chosen 1 Some recall_result x

pub result_list_made : (x : Option RecallResultItem) → IsMade result_lists x (result_list_case x)
result_list_made None = (refl, λ _ _. refl)
result_list_made (Some x) = (refl, λ _ _. refl)

-- the results of a CB_COMPOUND: none, or that of the recall
unfoldable pub result_list : Format (Option RecallResultItem) RpcBad
result_list = tagged u32 result_lists result_list_case (λ _. refl, (λ _. refl, none_else result_list_case _ bad.Value)) result_list_made

-- CB_COMPOUND4res
pub record RecallReplyItem : Type 0 where
  pub status : NfsStatus
  pub tag : List ℕ
  pub results : Option RecallResultItem

abbrev pub shown_recall_reply : RecallReply → RecallReplyItem
shown_recall_reply x = record { status = x.status; tag = x.tag.now; results = option_map shown_recall_result x.results }

-- CB_COMPOUND4res
unfoldable pub recall_reply : Format RecallReplyItem RpcBad
recall_reply = seen (λ x. record { status = x.0; tag = x.1.0; results = x.1.1 }) (λ x. (x.status, (x.tag, x.results))) (status ⋆ identifier ⋆ result_list) (λ _. refl) (λ _. refl)

abbrev pub recall_reply_at : List ℕ → Result (RecallReplyItem × List ℕ) RpcBad
recall_reply_at bytes = recall_reply.at bytes

-- the call: the procedure CB_COMPOUND of the client's program, with an empty tag, minor version 0 and the one operation
-- CB_RECALL

-- AUTH_NONE without a body
abbrev pub no_auth : AuthItem
no_auth = record { flavor = 0; body = [] }

-- the xid is the call's number, and credential and verifier are AUTH_NONE (NFS-7)
abbrev pub recall_head : ℕ → ℕ → HeadItem
recall_head number program = record { xid = number; prog = program; vers = 1; proc = 1; cred = no_auth; verf = no_auth }

-- CB_RECALL4args: the delegation, truncate false, the handle of the file
unfoldable pub recall_args : Stateid → ℕ → List ℕ
recall_args s file = stateid.spell s ++ (boolean false ++ opaque (handle file))

-- CB_COMPOUND4args (NFS-7)
unfoldable pub recall_compound : ℕ → Stateid → ℕ → List ℕ
recall_compound ident s file = opaque [] ++ (unsigned 0 ++ (unsigned ident ++ (unsigned 1 ++ (unsigned 4 ++ recall_args s file))))

abbrev pub recall_record : ℕ → ℕ → ℕ → Stateid → ℕ → List ℕ
recall_record number program ident s file = call (recall_head number program) ++ recall_compound ident s file
