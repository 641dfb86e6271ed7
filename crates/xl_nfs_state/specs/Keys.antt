-- The keys by which rows are found.
use Rattle.std.specs.Prelude.{ℕ, Bool, true, false, ◌&&◌, ◌==◌, bytes_eq}
use Rattle.std.specs.Bool.{beq}
use Rattle.xl_nfs_state.specs.declared.client.ClientRow.{ClientRow}
use Rattle.xl_nfs_state.specs.declared.client.ClientKey.{ClientKey}
use Rattle.xl_nfs_state.specs.declared.client.ClientName.{ClientName}
use Rattle.xl_nfs_state.specs.declared.owner.OwnerKind.{OwnerKind}
use Rattle.xl_nfs_state.specs.declared.owner.OwnerKind.TheVariants.{Open as Opens, Lock as Locks}
use Rattle.xl_nfs_state.specs.declared.owner.OwnerName.{OwnerName}
use Rattle.xl_nfs_state.specs.declared.owner.OwnerRow.{OwnerRow}
use Rattle.xl_nfs_state.specs.declared.stateid.StateidRow.{StateidRow}
use Rattle.xl_nfs_state.specs.declared.stateid.Holder.{Holder}
use Rattle.xl_nfs_state.specs.declared.stateid.Holder.TheVariants.{Open, Lock, Delegation}
use Rattle.xl_nfs_state.specs.declared.stateid.Place.{Place}
use Rattle.xl_nfs_state.specs.declared.stateid.Place.TheVariants.{Owned, Delegated}

abbrev pub client_key : ClientRow → ClientKey
client_key r = record { number = r.number; confirmed = r.confirmed }

abbrev pub client_name : ClientRow → ClientName
client_name r = record { id = r.id; confirmed = r.confirmed }

abbrev pub same_client_key : ClientKey → ClientKey → Bool
same_client_key a b = a.number == b.number && beq a.confirmed b.confirmed

abbrev pub same_client_name : ClientName → ClientName → Bool
same_client_name a b = bytes_eq a.id b.id && beq a.confirmed b.confirmed

abbrev pub owner_key : OwnerRow → ℕ
owner_key o = o.number

abbrev pub owner_name : OwnerRow → OwnerName
owner_name o = o.name

abbrev pub same_kind : OwnerKind → OwnerKind → Bool
same_kind Opens Opens = true
same_kind Locks Locks = true
same_kind _ _ = false

abbrev pub same_owner_name : OwnerName → OwnerName → Bool
same_owner_name a b = a.client == b.client && (same_kind a.kind b.kind && bytes_eq a.owner b.owner)

abbrev pub stateid_key : StateidRow → ℕ
stateid_key s = s.number

abbrev pub held_at : Holder → ℕ → ℕ → Place
held_at (Open owner) client file = Owned owner file
held_at (Lock owner under opener) client file = Owned owner file
held_at (Delegation write) client file = Delegated client file

-- where a stateid stands: an owner has one on a file, and of delegations a client
abbrev pub place_of : StateidRow → Place
place_of s = held_at s.holder s.client s.file

abbrev pub same_place : Place → Place → Bool
same_place (Owned a f) (Owned b g) = a == b && f == g
same_place (Delegated a f) (Delegated b g) = a == b && f == g
same_place _ _ = false
