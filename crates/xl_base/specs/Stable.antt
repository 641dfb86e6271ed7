-- The record on stable storage (RFC 7530 9.6.2).
use Rattle.std.specs.Prelude.{◌≡◌, ℕ, ◌+◌, ◌-◌, ◌^◌, Bool, true, false, ◌&&◌, ◌==◌, if◌then◌else◌, List, [], ◌∷◌, length, bytes_eq, Option, Some, None}
use Rattle.std.specs.List.{list_any, AllByRecursion}
use Rattle.xl_base.specs.declared.name.Protocol.{Protocol}
use Rattle.xl_base.specs.declared.name.Protocol.TheVariants.{Nlm, Nfs, Smb}
use Rattle.xl_base.specs.declared.stable.Mark.{Mark}
use Rattle.xl_base.specs.declared.stable.Mark.TheVariants.{Verifier, State}
use Rattle.xl_base.specs.declared.stable.Recorded.{Recorded}

-- the record as callers see it
pub record Stable : Type 0 where
  pub epoch : ℕ
  pub names : List Recorded

-- the record with its epoch raised by one, as at a start; after 4,294,967,295 comes 1 (RECORD-1)
abbrev pub raised : Stable → Stable
raised stable = record { epoch = if stable.epoch == 2 ^ 32 - 1 then 1 else stable.epoch + 1; names = stable.names }

-- two protocols are the same one
abbrev pub same_protocol : Protocol → Protocol → Bool
same_protocol Nlm Nlm = true
same_protocol Nfs Nfs = true
same_protocol Smb Smb = true
same_protocol _ _ = false

-- one name: the same protocol and the same bytes, whatever the marks
abbrev pub same_name : Recorded → Recorded → Bool
same_name a b = same_protocol a.protocol b.protocol && bytes_eq a.name b.name

-- whether the name is among these
abbrev pub is_recorded : Recorded → List Recorded → Bool
is_recorded name names = list_any (λ held. same_name held name) names

-- the bytes of a mark
abbrev pub mark_bytes : Mark → List ℕ
mark_bytes (Verifier bytes) = bytes
mark_bytes (State bytes) = bytes

-- a mark has as many bytes as the messages of its protocol have there
abbrev pub IsWhole : Option Mark → Type 0
IsWhole None = Unit {0}
IsWhole (Some (Verifier bytes)) = length bytes ≡ 8
IsWhole (Some (State bytes)) = length bytes ≡ 4

abbrev pub AreWhole : List Recorded → Type 0
AreWhole names = AllByRecursion (λ name. IsWhole name.mark) names

-- two marks are the same one
abbrev pub same_mark : Mark → Mark → Bool
same_mark (Verifier a) (Verifier b) = bytes_eq a b
same_mark (State a) (State b) = bytes_eq a b
same_mark _ _ = false

-- two marks agree: they are the same, or one is missing
abbrev pub agree : Option Mark → Option Mark → Bool
agree None mark = true
agree (Some kept) None = true
agree (Some kept) (Some mark) = same_mark kept mark

-- a client that comes with this mark leaves the kept one as it is: it comes with none, or with the same
abbrev pub keeps : Option Mark → Option Mark → Bool
keeps kept None = true
keeps None (Some mark) = false
keeps (Some kept) (Some mark) = same_mark kept mark

-- the name is recorded, with its mark if it comes with one
abbrev pub is_kept : Recorded → List Recorded → Bool
is_kept name names = list_any (λ held. same_name held name && keeps held.mark name.mark) names

-- the names with this one: in its place with its mark, or behind the others if it is new
abbrev pub put_name : Recorded → List Recorded → List Recorded
put_name name [] = name ∷ []
put_name name (held ∷ names) = if same_name held name then name ∷ names else held ∷ put_name name names

-- the mark is of this protocol: an NFSv4 client's verifier, the state of an NLM client's host, or none
abbrev pub is_mark_of : Protocol → Option Mark → Bool
is_mark_of protocol None = true
is_mark_of Nfs (Some (Verifier bytes)) = true
is_mark_of Nlm (Some (State bytes)) = true
is_mark_of _ (Some mark) = false

-- only clients of NFSv4 and NLM reclaim
abbrev pub is_reclaiming : Protocol → Bool
is_reclaiming Nlm = true
is_reclaiming Nfs = true
is_reclaiming Smb = false

-- a client that reclaims, with a mark of its protocol or none
abbrev pub is_recordable : Recorded → Bool
is_recordable name = is_mark_of name.protocol name.mark && is_reclaiming name.protocol

-- distinct names of clients that reclaim
abbrev pub AreRecordable : List Recorded → Type 0
AreRecordable [] = Unit {0}
AreRecordable (name ∷ names) = (is_recordable name ≡ true) × (is_recorded name names ≡ false) × AreRecordable names
