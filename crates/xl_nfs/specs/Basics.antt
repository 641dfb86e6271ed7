-- What the arguments and results of several operations share (RFC 7531).
use Rattle.std.specs.Prelude.{◌≡◌, ℕ, ◌*◌, ◌/◌, ◌^◌, ◌==◌, true, List, length, take, drop, Option, Some, None, nat_le, nat_lt, if◌then◌else◌}
use Rattle.std.specs.Int.{w32, from_be_bytes}
use Rattle.std.proofs.Common.{refl}
use Rattle.xl_base.specs.Formats.{Format}
use Rattle.xl_rpc.specs.declared.fault.RpcBad.{RpcBad}
use Rattle.xl_rpc.specs.declared.fault.RpcBad.TheVariants as bad
use Rattle.xl_format.specs.Formats.{u32, u64, bytes, text, ◌⋆◌, seen, numbered}
use Rattle.xl_nfs.specs.declared.basics.Stateid.{Stateid}
use Rattle.xl_nfs.specs.declared.basics.Owner.{Owner}
use Rattle.xl_nfs.specs.declared.basics.LockType.{LockType}
use Rattle.xl_nfs.specs.declared.basics.LockType.TheVariants as types

-- bytes of a tag, an owner or a client's id (NFS4_OPAQUE_LIMIT)
abbrev pub most_text_bytes : ℕ
most_text_bytes = 1024

-- opaque data: a tag, an owner or a client's id, a handle, and what has no bound except what its length can say (NFS-2)
abbrev pub identifier : Format (List ℕ) RpcBad
identifier = text most_text_bytes refl

-- nfs_fh4
unfoldable pub handle : Format (List ℕ) RpcBad
handle = text 128 refl

-- component4
unfoldable pub name : Format (List ℕ) RpcBad
name = text 4294967295 refl

-- verifier4
abbrev pub verifier : Format (List ℕ) RpcBad
verifier = bytes 8

-- stateid4
unfoldable pub stateid : Format Stateid RpcBad
stateid = seen (λ x. record { seqid = x.0; other = x.1 }) (λ x. (x.seqid, x.other)) (u32 ⋆ bytes 12) (λ _. refl) (λ _. refl)

-- open_owner4, lock_owner4
pub record OwnerItem : Type 0 where
  pub clientid : ℕ
  pub owner : List ℕ

abbrev pub shown_owner : Owner → OwnerItem
shown_owner x = record { clientid = x.clientid; owner = x.owner.now }

-- open_owner4 and lock_owner4
unfoldable pub owner : Format OwnerItem RpcBad
owner = seen (λ x. record { clientid = x.0; owner = x.1 }) (λ x. (x.clientid, x.owner)) (u64 ⋆ identifier) (λ _. refl) (λ _. refl)

-- nfs_lock_type4
abbrev pub lock_type_number : LockType → ℕ
lock_type_number types.Read = 1
lock_type_number types.Write = 2
lock_type_number types.ReadWaiting = 3
lock_type_number types.WriteWaiting = 4

abbrev pub made_lock_type : ℕ → LockType
made_lock_type n = if n == 1 then types.Read else if n == 2 then types.Write else if n == 3 then types.ReadWaiting else types.WriteWaiting

pub lock_type_made : (t : LockType) → (made_lock_type (lock_type_number t) ≡ t) × (nat_lt (lock_type_number t) (2 ^ 32) ≡ true)
lock_type_made types.Read = (refl, refl)
lock_type_made _ = (refl, refl)

-- nfs_lock_type4; any other number is a fault (NFS-3)
unfoldable pub lock_type : Format LockType RpcBad
lock_type = numbered bad.Value made_lock_type lock_type_number lock_type_made

-- bitmap4, seen as the bytes of its words: the word at a place
abbrev pub word_at : ℕ → List ℕ → Option ℕ
word_at place words = if nat_le (length words / 4) place then None else Some (from_be_bytes w32 (take 4 (drop (place * 4) words)))
