-- LOCKU (RFC 7530 16.12).
use Rattle.std.specs.Prelude.{ℕ, true, false, if◌then◌else◌, [], Option, Some, None}
use Rattle.xl_nfs.specs.Outcomes.{is_ok}
use Rattle.xl_nfs.specs.declared.locks.UnlockArgs.{UnlockArgs}
use Rattle.xl_nfs.specs.declared.status.NfsStatus.{NfsStatus}
use Rattle.xl_nfs.specs.declared.status.NfsStatus.TheVariants as statuses
use Rattle.xl_nfs_state.specs.State.{NfsLists}
use Rattle.xl_nfs_state.specs.declared.owner.SeqidState.{SeqidState}
use Rattle.xl_nfs_state.specs.declared.stateid.StateidRow.{StateidRow}
use Rattle.xl_core.specs.State.{CoreState}
use Rattle.xl_core.specs.declared.ask.Answer.{Answer}
use Rattle.xl_core.specs.declared.ask.Answer.TheVariants as answers
use Rattle.xl_nfs_locks.specs.Checks.{locks_found}
use Rattle.xl_nfs_locks.specs.Ranges.{last_byte}
use Rattle.xl_nfs_opens.specs.Asks.{unlock_ask}
use Rattle.xl_nfs_opens.specs.Closing.{counts, standing_fault, failed, done_lists, state_told, opener_by}
use Rattle.xl_nfs_opens.specs.Opens.{share_none, all_rooms, answer_status}
use Rattle.xl_plan.specs.Plans.{Does, Asking}
use Rattle.xl_nfs_opens.specs.Operations.{op_unlock}
use Rattle.xl_nfs_opens.specs.Plans.{Plan}
use Rattle.xl_nfs_opens.specs.Renewing.{state_client, renewing}
use Rattle.xl_nfs_opens.specs.declared.opener.Checked.{Checked}
use Rattle.xl_nfs_opens.specs.declared.opener.Opener.{Opener}
use Rattle.xl_nfs_opens.specs.declared.told.Told.TheVariants.{Ended}

-- bytes that aren't held are unlocked already (NFS-29)
abbrev pub unlock_status : Answer → NfsStatus
unlock_status (answers.Granted c) = statuses.Ok
unlock_status answers.NotHeld = statuses.Ok
unlock_status answer = answer_status false answer

abbrev pub unlocked_as : CoreState → NfsLists → Option ℕ → UnlockArgs → StateidRow → ℕ → SeqidState → NfsStatus → Plan
unlocked_as s l current a r owner seqids status =
    if is_ok status then Does [] (done_lists s l r owner seqids op_unlock a.seqid seqids.confirmed None share_none share_none false) (state_told s r, current)
    else failed l current owner seqids op_unlock a.seqid status

abbrev pub unlock_by_owner : NfsLists → Option ℕ → UnlockArgs → StateidRow → ℕ → SeqidState → ℕ → Option Opener → Plan
unlock_by_owner l current a r owner seqids last None = Does [] l (Ended statuses.ServerFault, current)
unlock_by_owner l current a r owner seqids last (Some o) = Asking all_rooms (unlock_ask o r.file a.offset last) (λ answer t. unlocked_as t l current a r owner seqids (unlock_status answer))

abbrev pub unlock_to : NfsLists → Option ℕ → UnlockArgs → StateidRow → ℕ → SeqidState → Option ℕ → Plan
unlock_to l current a r owner seqids None = failed l current owner seqids op_unlock a.seqid statuses.Inval
unlock_to l current a r owner seqids (Some last) = unlock_by_owner l current a r owner seqids last (opener_by l r.client owner)

abbrev pub unlock_standing : NfsLists → Option ℕ → UnlockArgs → StateidRow → ℕ → SeqidState → Option NfsStatus → Plan
unlock_standing l current a r owner seqids (Some status) = failed l current owner seqids op_unlock a.seqid status
unlock_standing l current a r owner seqids None = unlock_to l current a r owner seqids (last_byte a.offset a.len)

abbrev pub unlock_found : CoreState → NfsLists → Option ℕ → UnlockArgs → Checked → Plan
unlock_found s l current a c = counts s l current (λ r owner seqids. unlock_standing l current a r owner seqids (standing_fault r seqids a.stateid.seqid true)) c

-- the client is renewed before
unfoldable pub unlock : CoreState → NfsLists → Option ℕ → UnlockArgs → Plan
unlock s l current a = renewing l (state_client s l a.stateid) (λ t. unlock_found t l current a (locks_found t l current op_unlock a.seqid a.stateid))
