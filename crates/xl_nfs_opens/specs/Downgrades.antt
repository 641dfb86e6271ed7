-- OPEN_DOWNGRADE (RFC 7530 16.19).
use Rattle.std.specs.Prelude.{ℕ, true, false, if◌then◌else◌, List, [], ◌∷◌, Option, Some, None}
use Rattle.xl_matrix.specs.declared.claim.Claim.{Claim}
use Rattle.xl_nfs.specs.declared.opens.OpenDowngradeArgs.{OpenDowngradeArgs}
use Rattle.xl_nfs.specs.declared.status.NfsStatus.{NfsStatus}
use Rattle.xl_nfs.specs.declared.status.NfsStatus.TheVariants.{Inval}
use Rattle.xl_nfs_state.specs.State.{NfsLists}
use Rattle.xl_nfs_state.specs.declared.owner.SeqidState.{SeqidState}
use Rattle.xl_nfs_state.specs.declared.stateid.StateidRow.{StateidRow}
use Rattle.xl_core.specs.Deeds.{Deed, Weakens}
use Rattle.xl_core.specs.Settle.{share_has}
use Rattle.xl_matrix.specs.declared.claim.Rwd.{Rwd}
use Rattle.xl_core.specs.State.{CoreState}
use Rattle.xl_nfs_opens.specs.Closing.{checked, counts, standing_fault, failed, done_lists, state_told, can_weaken, share_of_open}
use Rattle.xl_nfs_opens.specs.Opens.{rights_of}
use Rattle.xl_plan.specs.Plans.{Does}
use Rattle.xl_nfs_opens.specs.Operations.{op_open_downgrade}
use Rattle.xl_nfs_opens.specs.Plans.{Plan}
use Rattle.xl_nfs_opens.specs.Renewing.{state_client, renewing}
use Rattle.xl_nfs_opens.specs.declared.opener.Checked.{Checked}

-- the share has no more than these rights from then on, if they lie within what it has
abbrev pub weakens : Option Claim → Rwd → Rwd → List Deed
weakens None access deny = []
weakens (Some claim) access deny = if share_has claim.what access deny then Weakens claim access deny ∷ [] else []

-- the stateid is as it should be, and both lie within what the open has (NFS-23)
abbrev pub range_fault : StateidRow → OpenDowngradeArgs → Option NfsStatus
range_fault r a = if can_weaken r a.access a.deny then None else Some Inval

abbrev pub first_fault : Option NfsStatus → Option NfsStatus → Option NfsStatus
first_fault None later = later
first_fault (Some status) later = Some status

unfoldable pub downgrade_fault : StateidRow → SeqidState → OpenDowngradeArgs → Option NfsStatus
downgrade_fault r seqids a = first_fault (standing_fault r seqids a.stateid.seqid true) (range_fault r a)

abbrev pub downgrade_done : CoreState → NfsLists → Option ℕ → OpenDowngradeArgs → StateidRow → ℕ → SeqidState → Option NfsStatus → Plan
downgrade_done s l current a r owner seqids (Some status) = failed l current owner seqids op_open_downgrade a.seqid status
downgrade_done s l current a r owner seqids None =
    Does (weakens (share_of_open s l r owner) (rights_of a.access) (rights_of a.deny)) (done_lists s l r owner seqids op_open_downgrade a.seqid seqids.confirmed None a.access a.deny false) (state_told s r, current)

abbrev pub downgrade_by : CoreState → NfsLists → Option ℕ → OpenDowngradeArgs → Checked → Plan
downgrade_by s l current a c = counts s l current (λ r owner seqids. downgrade_done s l current a r owner seqids (downgrade_fault r seqids a)) c

unfoldable pub open_downgrade : CoreState → NfsLists → Option ℕ → OpenDowngradeArgs → Plan
open_downgrade s l current a = renewing l (state_client s l a.stateid) (λ t. downgrade_by t l current a (checked t l current op_open_downgrade a.seqid a.stateid))
