-- The result of OPEN (RFC 7531).
use Rattle.std.specs.Prelude.{ℕ, Bool, List}
use Rattle.std.proofs.Common.{refl}
use Rattle.xl_base.specs.Formats.{Format, Cases, case, Chosen, chosen, IsMade}
use Rattle.xl_rpc.specs.declared.fault.RpcBad.{RpcBad}
use Rattle.xl_rpc.specs.declared.fault.RpcBad.TheVariants as bad
use Rattle.xl_format.specs.Formats.{u32, u64, flag, array, ◌⋆◌, seen, marked, nothing, otherwise, none_else, tagged}
use Rattle.xl_nfs.specs.Basics.{name, stateid}
use Rattle.xl_nfs.specs.declared.basics.Stateid.{Stateid}
use Rattle.xl_nfs.specs.declared.opened.ChangeInfo.{ChangeInfo}
use Rattle.xl_nfs.specs.declared.opened.Ace.{Ace}
use Rattle.xl_nfs.specs.declared.opened.ReadDelegation.{ReadDelegation}
use Rattle.xl_nfs.specs.declared.opened.WriteDelegation.{WriteDelegation}
use Rattle.xl_nfs.specs.declared.opened.Delegation.{Delegation}
use Rattle.xl_nfs.specs.declared.opened.Delegation.TheVariants as wire
use Rattle.xl_nfs.specs.declared.opened.OpenResult.{OpenResult}

-- nfs_space_limit4: a size alone (NFS-5)
unfoldable pub limit : Format ℕ RpcBad
limit = marked 1 bad.Value refl u64

-- change_info4
unfoldable pub change_info : Format ChangeInfo RpcBad
change_info = seen (λ x. record { atomic = x.0; before = x.1.0; after = x.1.1 }) (λ x. (x.atomic, (x.before, x.after))) (flag ⋆ u64 ⋆ u64) (λ _. refl) (λ _. refl)

-- nfsace4
pub record AceItem : Type 0 where
  pub kind : ℕ
  pub flag : ℕ
  pub mask : ℕ
  pub who : List ℕ

abbrev pub shown_ace : Ace → AceItem
shown_ace x = record { kind = x.kind; flag = x.flag; mask = x.mask; who = x.who.now }

-- nfsace4, which is not judged (NFS-6)
unfoldable pub ace : Format AceItem RpcBad
ace = seen (λ x. record { kind = x.0; flag = x.1.0; mask = x.1.1.0; who = x.1.1.1 }) (λ x. (x.kind, (x.flag, (x.mask, x.who)))) (u32 ⋆ u32 ⋆ u32 ⋆ name) (λ _. refl) (λ _. refl)

-- open_read_delegation4
pub record ReadDelegationItem : Type 0 where
  pub stateid : Stateid
  pub recall : Bool
  pub permissions : AceItem

abbrev pub shown_read_delegation : ReadDelegation → ReadDelegationItem
shown_read_delegation x = record { stateid = x.stateid; recall = x.recall; permissions = shown_ace x.permissions }

-- open_read_delegation4
unfoldable pub read_delegation : Format ReadDelegationItem RpcBad
read_delegation = seen (λ x. record { stateid = x.0; recall = x.1.0; permissions = x.1.1 }) (λ x. (x.stateid, (x.recall, x.permissions))) (stateid ⋆ flag ⋆ ace) (λ _. refl) (λ _. refl)

-- open_write_delegation4
pub record WriteDelegationItem : Type 0 where
  pub stateid : Stateid
  pub recall : Bool
  pub limit : ℕ
  pub permissions : AceItem

abbrev pub shown_write_delegation : WriteDelegation → WriteDelegationItem
shown_write_delegation x = record { stateid = x.stateid; recall = x.recall; limit = x.limit; permissions = shown_ace x.permissions }

-- open_write_delegation4
unfoldable pub write_delegation : Format WriteDelegationItem RpcBad
write_delegation = seen (λ x. record { stateid = x.0; recall = x.1.0; limit = x.1.1.0; permissions = x.1.1.1 })
    (λ x. (x.stateid, (x.recall, (x.limit, x.permissions)))) (stateid ⋆ flag ⋆ limit ⋆ ace) (λ _. refl) (λ _. refl)

-- open_delegation4
pub data DelegationItem : Type 0 where
  NoDelegation : DelegationItem
  ReadDelegated : ReadDelegationItem → DelegationItem
  WriteDelegated : WriteDelegationItem → DelegationItem

abbrev pub shown_delegation : Delegation → DelegationItem
shown_delegation wire.None = NoDelegation
shown_delegation (wire.Read x) = ReadDelegated (shown_read_delegation x)
shown_delegation (wire.Write x) = WriteDelegated (shown_write_delegation x)

abbrev pub delegations : Cases ℕ DelegationItem RpcBad
delegations = case 0 (λ _. NoDelegation) nothing (case 1 ReadDelegated read_delegation (case 2 WriteDelegated write_delegation (otherwise bad.Value)))

abbrev pub delegation_case : DelegationItem → Chosen ℕ DelegationItem RpcBad
delegation_case NoDelegation = chosen 0 (λ _. NoDelegation) nothing tt
delegation_case (ReadDelegated x) = chosen 1 ReadDelegated read_delegation x
delegation_case (WriteDelegated x) = chosen 2 WriteDelegated write_delegation x

pub delegation_made : (x : DelegationItem) → IsMade delegations x (delegation_case x)
delegation_made NoDelegation = (refl, λ _ _. refl)
delegation_made _ = (refl, λ _ _. refl)

-- open_delegation4
unfoldable pub delegation : Format DelegationItem RpcBad
delegation = tagged u32 delegations delegation_case (λ _. refl, (λ _. refl, (λ _. refl, none_else delegation_case _ bad.Value))) delegation_made

-- OPEN4resok
pub record OpenResultItem : Type 0 where
  pub stateid : Stateid
  pub change : ChangeInfo
  pub flags : ℕ
  pub attributes : List ℕ
  pub delegation : DelegationItem

abbrev pub shown_open_result : OpenResult → OpenResultItem
shown_open_result x = record { stateid = x.stateid; change = x.change; flags = x.flags; attributes = x.attributes.words.now; delegation = shown_delegation x.delegation }

-- OPEN4resok
unfoldable pub open_result : Format OpenResultItem RpcBad
open_result = seen (λ x. record { stateid = x.0; change = x.1.0; flags = x.1.1.0; attributes = x.1.1.1.0; delegation = x.1.1.1.1 })
    (λ x. (x.stateid, (x.change, (x.flags, (x.attributes, x.delegation))))) (stateid ⋆ change_info ⋆ u32 ⋆ array ⋆ delegation) (λ _. refl) (λ _. refl)
