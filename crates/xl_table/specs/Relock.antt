-- What a share, a lock, and an unlock of a POSIX range do to the claims (XNFS C702 chapter 10, RFC 7530 16.10, 16.12 and 16.16).
use Rattle.std.specs.Prelude.{ℕ, Bool, true, false, not, ◌&&◌, ◌||◌, nat_lt, if◌then◌else◌, List, [], ◌∷◌, map, Option, Some}
use Rattle.std.specs.List.{filter, list_any}
use Rattle.xl_base.specs.declared.name.Owner.{Owner}
use Rattle.xl_base.specs.declared.name.Owner.TheVariants as owners
use Rattle.xl_base.specs.declared.name.Party.{Party}
use Rattle.xl_base.specs.declared.name.Protocol.TheVariants.{Nlm, Nfs, Smb}
use Rattle.xl_matrix.specs.Equal.{same_owners}
use Rattle.xl_matrix.specs.Owners.{posix}
use Rattle.xl_matrix.specs.declared.claim.Claim.{Claim}
use Rattle.xl_matrix.specs.declared.claim.Extent.TheVariants.{Bytes, Empty}
use Rattle.xl_matrix.specs.declared.claim.What.{What}
use Rattle.xl_matrix.specs.declared.claim.Rwd.{Rwd}
use Rattle.xl_matrix.specs.declared.claim.What.TheVariants.{Share, Range, Cache}
use Rattle.xl_spans.specs.Spans.{relocked, meets}
use Rattle.xl_spans.specs.declared.span.Mode.{Mode}
use Rattle.xl_spans.specs.declared.span.Mode.TheVariants.{Shared, Exclusive}
use Rattle.xl_spans.specs.declared.span.Span.{Span}
use Rattle.xl_table.specs.Flat.{inserted, with_what}
pub use Rattle.xl_table.specs.Held.{most_claims}
use Rattle.xl_table.specs.Held.{is_of, is_range, is_share, spans_of, mode_of}

-- the claims with these entered, one after another
abbrev pub all_inserted : List Claim → List Claim → List Claim
all_inserted [] held = held
all_inserted (c ∷ cs) held = all_inserted cs (inserted c held)

-- ---- an owner's ranges

-- the mode shuts all others out
abbrev pub is_exclusive : Mode → Bool
is_exclusive Exclusive = true
is_exclusive Shared = false

-- a span as a claim
abbrev pub range_claim : ℕ → Owner → Party → Span → Claim
range_claim file owner party s = record { file = file; owner = owner; party = party; what = Range (Bytes s.first s.last) (is_exclusive s.mode) }

-- the claim is a range of this owner on this file
abbrev pub is_range_of : ℕ → Owner → Claim → Bool
is_range_of file owner c = is_of file owner c && is_range c.what

-- all except the owner's ranges on the file
unfoldable pub unranged : ℕ → Owner → List Claim → List Claim
unranged file owner cs = filter (λ c. not (is_range_of file owner c)) cs

-- the claims after the owner's lock of the range in this mode, or after its unlock at None: its ranges on the file are
-- its spans relocked, and all else stays
unfoldable pub relocked_in : ℕ → Owner → Party → ℕ → ℕ → Option Mode → List Claim → List Claim
relocked_in file owner party first last mode cs =
    all_inserted (map (range_claim file owner party) (relocked (spans_of file owner cs) first last mode)) (unranged file owner cs)

-- the owner has a byte of the range
unfoldable pub holds_byte : ℕ → Owner → ℕ → ℕ → List Claim → Bool
holds_byte file owner first last cs = list_any (meets first last) (spans_of file owner cs)

-- the claim is a range of this owner, on whatever file
abbrev pub is_range_by : Owner → Claim → Bool
is_range_by owner c = same_owners c.owner owner && is_range c.what

-- the owner has a range on some file
abbrev pub holds_range : Owner → List Claim → Bool
holds_range owner cs = list_any (is_range_by owner) cs

-- the span has bytes on both sides of the range, so that an unlock of the range cuts it in two
abbrev pub is_cut : ℕ → ℕ → Span → Bool
is_cut first last s = nat_lt s.first first && nat_lt last s.last

-- ---- an owner's share

-- the claim is a share of this owner on this file
abbrev pub is_share_of : ℕ → Owner → Claim → Bool
is_share_of file owner c = is_of file owner c && is_share c.what

-- the access and the deny of what is claimed, if that is a share, before these
abbrev pub with_share : What → List (Rwd × Rwd) → List (Rwd × Rwd)
with_share (Share access deny) shares = (access, deny) ∷ shares
with_share _ shares = shares

-- an owner's shares on a file, as they stand in the list: one at most
abbrev pub shares_of : ℕ → Owner → List Claim → List (Rwd × Rwd)
shares_of file owner [] = []
shares_of file owner (c ∷ cs) = if is_of file owner c then with_share c.what (shares_of file owner cs) else shares_of file owner cs

-- without the owner's share on the file, and the claims of such shares
unfoldable pub unshared : ℕ → Owner → List Claim → List Claim
unshared file owner cs = filter (λ c. not (is_share_of file owner c)) cs

-- the shares of this owner on this file: one at most
unfoldable pub old_shares : ℕ → Owner → List Claim → List Claim
old_shares file owner cs = filter (is_share_of file owner) cs

-- the rights of both
abbrev pub either_right : Rwd → Rwd → Rwd
either_right p q = record { r = p.r || q.r; w = p.w || q.w; d = p.d || q.d }

-- one share with the access and the deny of both
abbrev pub united_what : What → What → What
united_what (Share access deny) (Share rights denied) = Share (either_right access rights) (either_right deny denied)
united_what what _ = what

-- the first of these joined with what is asked
abbrev pub united_with : What → List Claim → What
united_with what [] = what
united_with what (c ∷ cs) = united_with (united_what what c.what) cs

-- whose shares on a file are united: an NFSv4 open owner's (RFC 7530 9.9); an NLM share replaces its owner's (XNFS C702,
-- NLM_SHARE), and so does that of an SMB open, which has one
abbrev pub unites : Owner → Bool
unites (owners.Name Nlm number) = false
unites (owners.Name Nfs number) = true
unites (owners.Name Smb number) = false
unites (owners.Open number) = false

-- what is asked, joined with what the owner had if its shares unite
unfoldable pub united_by : Owner → What → List Claim → What
united_by owner what old = if unites owner then united_with what old else what

-- the share that its owner has once this one is granted
abbrev pub united : Claim → List Claim → Claim
united c cs = with_what c (united_by c.owner c.what (old_shares c.file c.owner cs))

-- the claims with this share in the place of its owner's on the file, or united with it
unfoldable pub shared_in : Claim → List Claim → List Claim
shared_in c cs = inserted (united c cs) (unshared c.file c.owner cs)

-- ---- a granted claim

-- the claims after a grant, by what is granted: a share; a range with bytes of a POSIX owner; or a range of an SMB open, which
-- comes behind the others that it has on the file (MS-FSA 2.1.5.8). Nothing is said yet of a cache
abbrev pub granted_by : Claim → What → List Claim → List Claim
granted_by c (Share access deny) cs = shared_in c cs
granted_by c (Range (Bytes first last) exclusive) cs = if posix c.owner then relocked_in c.file c.owner c.party first last (Some (mode_of exclusive)) cs else inserted c cs
granted_by c (Range (Empty offset) exclusive) cs = inserted c cs
granted_by c (Cache kind running) cs = cs

-- the claims once this one is granted, by its kind and its owner: what it replaces goes (TABLE-7)
unfoldable pub granted_claims : Claim → List Claim → List Claim
granted_claims c cs = granted_by c c.what cs
