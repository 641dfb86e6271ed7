-- Opens: the arguments of OPEN, OPEN_CONFIRM, OPEN_DOWNGRADE and CLOSE (RFC 7531).
use Rattle.std.specs.Prelude.{◌≡◌, ℕ, ◌^◌, ◌==◌, true, List, nat_lt, if◌then◌else◌}
use Rattle.std.proofs.Common.{refl}
use Rattle.xl_base.specs.Formats.{Format, Cases, case, Chosen, chosen, IsMade}
use Rattle.xl_rpc.specs.declared.fault.RpcBad.{RpcBad}
use Rattle.xl_rpc.specs.declared.fault.RpcBad.TheVariants as bad
use Rattle.xl_format.specs.Formats.{u32, array, ◌⋆◌, seen, nothing, numbered, otherwise, none_else, tagged}
use Rattle.xl_nfs.specs.Basics.{name, verifier, stateid, OwnerItem, shown_owner, owner}
use Rattle.xl_nfs.specs.declared.basics.Stateid.{Stateid}
use Rattle.xl_nfs.specs.declared.opens.CloseArgs.{CloseArgs}
use Rattle.xl_nfs.specs.declared.opens.OpenConfirmArgs.{OpenConfirmArgs}
use Rattle.xl_nfs.specs.declared.opens.OpenDowngradeArgs.{OpenDowngradeArgs}
use Rattle.xl_nfs.specs.declared.opens.Attributes.{Attributes}
use Rattle.xl_nfs.specs.declared.opens.CreateHow.{CreateHow}
use Rattle.xl_nfs.specs.declared.opens.CreateHow.TheVariants as create_wire
use Rattle.xl_nfs.specs.declared.opens.OpenHow.{OpenHow}
use Rattle.xl_nfs.specs.declared.opens.OpenHow.TheVariants as how_wire
use Rattle.xl_nfs.specs.declared.opens.DelegationType.{DelegationType}
use Rattle.xl_nfs.specs.declared.opens.DelegationType.TheVariants as types
use Rattle.xl_nfs.specs.declared.opens.NamedDelegation.{NamedDelegation}
use Rattle.xl_nfs.specs.declared.opens.OpenClaim.{OpenClaim}
use Rattle.xl_nfs.specs.declared.opens.OpenClaim.TheVariants as claim_wire
use Rattle.xl_nfs.specs.declared.opens.OpenArgs.{OpenArgs}

-- CLOSE4args
unfoldable pub close_args : Format CloseArgs RpcBad
close_args = seen (λ x. record { seqid = x.0; stateid = x.1 }) (λ x. (x.seqid, x.stateid)) (u32 ⋆ stateid) (λ _. refl) (λ _. refl)

-- OPEN_CONFIRM4args
unfoldable pub open_confirm_args : Format OpenConfirmArgs RpcBad
open_confirm_args = seen (λ x. record { stateid = x.0; seqid = x.1 }) (λ x. (x.stateid, x.seqid)) (stateid ⋆ u32) (λ _. refl) (λ _. refl)

-- OPEN_DOWNGRADE4args
unfoldable pub open_downgrade_args : Format OpenDowngradeArgs RpcBad
open_downgrade_args = seen (λ x. record { stateid = x.0; seqid = x.1.0; access = x.1.1.0; deny = x.1.1.1 })
    (λ x. (x.stateid, (x.seqid, (x.access, x.deny)))) (stateid ⋆ u32 ⋆ u32 ⋆ u32) (λ _. refl) (λ _. refl)

-- fattr4
pub record AttributesItem : Type 0 where
  pub mask : List ℕ
  pub values : List ℕ

abbrev pub shown_attributes : Attributes → AttributesItem
shown_attributes x = record { mask = x.mask.words.now; values = x.values.now }

-- fattr4, whose mask and values are not judged (NFS-6)
unfoldable pub attributes : Format AttributesItem RpcBad
attributes = seen (λ x. record { mask = x.0; values = x.1 }) (λ x. (x.mask, x.values)) (array ⋆ name) (λ _. refl) (λ _. refl)

-- createhow4
pub data CreateHowItem : Type 0 where
  Unchecked : AttributesItem → CreateHowItem
  Guarded : AttributesItem → CreateHowItem
  Exclusive : List ℕ → CreateHowItem

abbrev pub shown_create_how : CreateHow → CreateHowItem
shown_create_how (create_wire.Unchecked x) = Unchecked (shown_attributes x)
shown_create_how (create_wire.Guarded x) = Guarded (shown_attributes x)
shown_create_how (create_wire.Exclusive x) = Exclusive x

abbrev pub create_hows : Cases ℕ CreateHowItem RpcBad
create_hows = case 0 Unchecked attributes (case 1 Guarded attributes (case 2 Exclusive verifier (otherwise bad.Value)))

abbrev pub create_how_case : CreateHowItem → Chosen ℕ CreateHowItem RpcBad
create_how_case (Unchecked x) = chosen 0 Unchecked attributes x
create_how_case (Guarded x) = chosen 1 Guarded attributes x
create_how_case (Exclusive x) = chosen 2 Exclusive verifier x

pub create_how_made : (x : CreateHowItem) → IsMade create_hows x (create_how_case x)
create_how_made (Unchecked x) = (refl, λ _ _. refl)
create_how_made _ = (refl, λ _ _. refl)

-- createhow4; any other mode is a fault (NFS-3)
unfoldable pub create_how : Format CreateHowItem RpcBad
create_how = tagged u32 create_hows create_how_case (λ _. refl, (λ _. refl, (λ _. refl, none_else create_how_case _ bad.Value))) create_how_made

-- openflag4
pub data OpenHowItem : Type 0 where
  NoCreate : OpenHowItem
  Create : CreateHowItem → OpenHowItem

abbrev pub shown_open_how : OpenHow → OpenHowItem
shown_open_how how_wire.NoCreate = NoCreate
shown_open_how (how_wire.Create x) = Create (shown_create_how x)

abbrev pub open_hows : Cases ℕ OpenHowItem RpcBad
open_hows = case 0 (λ _. NoCreate) nothing (case 1 Create create_how (otherwise bad.Value))

abbrev pub open_how_case : OpenHowItem → Chosen ℕ OpenHowItem RpcBad
open_how_case NoCreate = chosen 0 (λ _. NoCreate) nothing tt
open_how_case (Create x) = chosen 1 Create create_how x

pub open_how_made : (x : OpenHowItem) → IsMade open_hows x (open_how_case x)
open_how_made NoCreate = (refl, λ _ _. refl)
open_how_made _ = (refl, λ _ _. refl)

-- openflag4; any other form is a fault (NFS-3)
unfoldable pub open_how : Format OpenHowItem RpcBad
open_how = tagged u32 open_hows open_how_case (λ _. refl, (λ _. refl, none_else open_how_case _ bad.Value)) open_how_made

-- open_delegation_type4
abbrev pub delegation_type_number : DelegationType → ℕ
delegation_type_number types.None = 0
delegation_type_number types.Read = 1
delegation_type_number types.Write = 2

abbrev pub made_delegation_type : ℕ → DelegationType
made_delegation_type n = if n == 0 then types.None else if n == 1 then types.Read else types.Write

pub delegation_type_made : (t : DelegationType) → (made_delegation_type (delegation_type_number t) ≡ t) × (nat_lt (delegation_type_number t) (2 ^ 32) ≡ true)
delegation_type_made types.None = (refl, refl)
delegation_type_made _ = (refl, refl)

-- open_delegation_type4; any other number is a fault (NFS-3)
unfoldable pub delegation_type : Format DelegationType RpcBad
delegation_type = numbered bad.Value made_delegation_type delegation_type_number delegation_type_made

-- open_claim_delegate_cur4
pub record NamedDelegationItem : Type 0 where
  pub stateid : Stateid
  pub name : List ℕ

abbrev pub shown_named_delegation : NamedDelegation → NamedDelegationItem
shown_named_delegation x = record { stateid = x.stateid; name = x.name.now }

-- open_claim_delegate_cur4
unfoldable pub named_delegation : Format NamedDelegationItem RpcBad
named_delegation = seen (λ x. record { stateid = x.0; name = x.1 }) (λ x. (x.stateid, x.name)) (stateid ⋆ name) (λ _. refl) (λ _. refl)

-- open_claim4
pub data OpenClaimItem : Type 0 where
  Null : List ℕ → OpenClaimItem
  Previous : DelegationType → OpenClaimItem
  DelegateCurrent : NamedDelegationItem → OpenClaimItem
  DelegatePrevious : List ℕ → OpenClaimItem

abbrev pub shown_open_claim : OpenClaim → OpenClaimItem
shown_open_claim (claim_wire.Null x) = Null x.now
shown_open_claim (claim_wire.Previous x) = Previous x
shown_open_claim (claim_wire.DelegateCurrent x) = DelegateCurrent (shown_named_delegation x)
shown_open_claim (claim_wire.DelegatePrevious x) = DelegatePrevious x.now

abbrev pub open_claims : Cases ℕ OpenClaimItem RpcBad
open_claims = case 0 Null name (case 1 Previous delegation_type (case 2 DelegateCurrent named_delegation (case 3 DelegatePrevious name (otherwise bad.Value))))

abbrev pub open_claim_case : OpenClaimItem → Chosen ℕ OpenClaimItem RpcBad
open_claim_case (Null x) = chosen 0 Null name x
open_claim_case (Previous x) = chosen 1 Previous delegation_type x
open_claim_case (DelegateCurrent x) = chosen 2 DelegateCurrent named_delegation x
open_claim_case (DelegatePrevious x) = chosen 3 DelegatePrevious name x

pub open_claim_made : (x : OpenClaimItem) → IsMade open_claims x (open_claim_case x)
open_claim_made (Null x) = (refl, λ _ _. refl)
open_claim_made _ = (refl, λ _ _. refl)

-- open_claim4; any other claim is a fault (NFS-3)
unfoldable pub open_claim : Format OpenClaimItem RpcBad
open_claim = tagged u32 open_claims open_claim_case (λ _. refl, (λ _. refl, (λ _. refl, (λ _. refl, none_else open_claim_case _ bad.Value)))) open_claim_made

-- OPEN4args
pub record OpenArgsItem : Type 0 where
  pub seqid : ℕ
  pub access : ℕ
  pub deny : ℕ
  pub owner : OwnerItem
  pub how : OpenHowItem
  pub claim : OpenClaimItem

abbrev pub shown_open_args : OpenArgs → OpenArgsItem
shown_open_args x = record { seqid = x.seqid; access = x.access; deny = x.deny; owner = shown_owner x.owner; how = shown_open_how x.how; claim = shown_open_claim x.claim }

-- OPEN4args, whose access and deny are not judged here (NFS-3)
unfoldable pub open_args : Format OpenArgsItem RpcBad
open_args = seen (λ x. record { seqid = x.0; access = x.1.0; deny = x.1.1.0; owner = x.1.1.1.0; how = x.1.1.1.1.0; claim = x.1.1.1.1.1 })
    (λ x. (x.seqid, (x.access, (x.deny, (x.owner, (x.how, x.claim)))))) (u32 ⋆ u32 ⋆ u32 ⋆ owner ⋆ open_how ⋆ open_claim) (λ _. refl) (λ _. refl)
