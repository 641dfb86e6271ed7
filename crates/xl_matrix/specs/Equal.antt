-- Equal claims, part by part.
use Rattle.std.specs.Prelude.{Bool, true, false, not, ◌&&◌, ◌==◌, Option, Some, None}
use Rattle.xl_base.specs.declared.name.Owner.{Owner}
use Rattle.xl_base.specs.declared.name.Owner.TheVariants as owner
use Rattle.xl_base.specs.declared.name.Party.{Party}
use Rattle.xl_base.specs.declared.name.Party.TheVariants as party
use Rattle.xl_base.specs.Stable.{same_protocol}
use Rattle.xl_matrix.specs.declared.claim.Rwd.{Rwd}
use Rattle.xl_matrix.specs.declared.claim.Extent.{Extent}
use Rattle.xl_matrix.specs.declared.claim.Extent.TheVariants.{Bytes, Empty}
use Rattle.xl_matrix.specs.declared.claim.CacheKind.{CacheKind}
use Rattle.xl_matrix.specs.declared.claim.CacheKind.TheVariants.{R, RH, RW, RWH, ReadDeleg, WriteDeleg}
use Rattle.xl_matrix.specs.declared.claim.Break.{Break}
use Rattle.xl_matrix.specs.declared.claim.What.{What}
use Rattle.xl_matrix.specs.declared.claim.What.TheVariants.{Share, Range, Cache}
use Rattle.xl_matrix.specs.declared.claim.Claim.{Claim}

abbrev pub same_owners : Owner → Owner → Bool
same_owners (owner.Name protocol number) (owner.Name other at) = same_protocol protocol other && (number == at)
same_owners (owner.Open number) (owner.Open at) = number == at
same_owners _ _ = false

abbrev pub same_parties : Party → Party → Bool
same_parties (party.Name protocol number) (party.Name other at) = same_protocol protocol other && (number == at)
same_parties (party.Open number) (party.Open at) = number == at
same_parties _ _ = false

abbrev pub same_flag : Bool → Bool → Bool
same_flag true b = b
same_flag false b = not b

abbrev pub same_rights : Rwd → Rwd → Bool
same_rights p q = same_flag p.r q.r && (same_flag p.w q.w && same_flag p.d q.d)

abbrev pub same_extent : Extent → Extent → Bool
same_extent (Bytes first last) (Bytes start end) = (first == start) && (last == end)
same_extent (Empty offset) (Empty at) = offset == at
same_extent _ _ = false

abbrev pub same_kind : CacheKind → CacheKind → Bool
same_kind R R = true
same_kind RH RH = true
same_kind RW RW = true
same_kind RWH RWH = true
same_kind ReadDeleg ReadDeleg = true
same_kind WriteDeleg WriteDeleg = true
same_kind _ _ = false

abbrev pub same_target : Option CacheKind → Option CacheKind → Bool
same_target None None = true
same_target (Some kind) (Some other) = same_kind kind other
same_target _ _ = false

abbrev pub same_break : Option Break → Option Break → Bool
same_break None None = true
same_break (Some p) (Some q) = same_target p.target q.target && (p.deadline.0 == q.deadline.0)
same_break _ _ = false

unfoldable pub same_what : What → What → Bool
same_what (Share access deny) (Share rights denied) = same_rights access rights && same_rights deny denied
same_what (Range extent exclusive) (Range place alone) = same_extent extent place && same_flag exclusive alone
same_what (Cache kind running) (Cache other due) = same_kind kind other && same_break running due
same_what _ _ = false

-- one claim: equal in each part
unfoldable pub same_claims : Claim → Claim → Bool
same_claims a b = (a.file == b.file) && (same_owners a.owner b.owner && (same_parties a.party b.party && same_what a.what b.what))
