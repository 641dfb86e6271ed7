-- What the claims in a table keep.
use Rattle.std.specs.Prelude.{◌≡◌, ℕ, ◌≤◌, ◌-◌, ◌^◌, Bool, true, false, not, ◌&&◌, ◌||◌, ◌==◌, nat_le, List, [], ◌∷◌, length, if◌then◌else◌}
use Rattle.std.specs.List.{AllByRecursion}
use Rattle.xl_base.specs.Lists.{Pairwise}
use Rattle.xl_base.specs.declared.name.Owner.{Owner}
use Rattle.xl_matrix.specs.declared.claim.Extent.TheVariants.{Bytes, Empty}
use Rattle.xl_matrix.specs.declared.claim.What.{What}
use Rattle.xl_matrix.specs.declared.claim.What.TheVariants.{Share, Range, Cache}
use Rattle.xl_matrix.specs.declared.claim.Claim.{Claim}
use Rattle.xl_matrix.specs.Owners.{posix}
pub use Rattle.xl_matrix.specs.Blocks.{is_share, is_range, is_cache}
use Rattle.xl_matrix.specs.Equal.{same_owners, same_parties}
use Rattle.xl_spans.specs.declared.span.Mode.{Mode}
use Rattle.xl_spans.specs.declared.span.Mode.TheVariants.{Shared, Exclusive}
use Rattle.xl_spans.specs.declared.span.Span.{Span}
use Rattle.xl_spans.specs.Spans.{IsCanonical}
use Rattle.xl_table.specs.Order.{goes_first}

-- a range that such an owner may hold: its bytes stand in order, an empty one is of an SMB open, and no SMB range has
-- all bytes (TABLE-6)
abbrev pub is_real_by : Owner → What → Bool
is_real_by owner (Range (Bytes first last) exclusive) = nat_le first last && (posix owner || not ((first == 0) && (last == 2 ^ 64 - 1)))
is_real_by owner (Range (Empty offset) exclusive) = not (posix owner)
is_real_by owner _ = true

abbrev pub is_real : Claim → Bool
is_real claim = is_real_by claim.owner claim.what

-- a share, or a range with its bytes in order, or without any
abbrev pub IsShareOrLock : What → Type 0
IsShareOrLock (Share access deny) = Unit {0}
IsShareOrLock (Range (Bytes first last) exclusive) = first ≤ last
IsShareOrLock (Range (Empty offset) exclusive) = Unit {0}
IsShareOrLock (Cache kind running) = ⊥

-- a share is anyone's; a range with bytes is a POSIX owner's, or an SMB open's if it hasn't all of them; an empty one
-- is an SMB open's
abbrev pub may_own : Owner → What → Bool
may_own owner (Range (Bytes first last) exclusive) = posix owner || not ((first == 0) && (last == 2 ^ 64 - 1))
may_own owner (Range (Empty offset) exclusive) = not (posix owner)
may_own owner _ = true

-- what may be granted: a share of anyone, or such a range
abbrev pub IsGrantable : Claim → Type 0
IsGrantable c = IsShareOrLock c.what × (may_own c.owner c.what ≡ true)

-- two ranges of one POSIX owner on one file, which are cut and joined, have one party; those of an SMB open stand one by one
-- (TABLE-6)
abbrev pub has_one_party : Claim → Claim → Bool
has_one_party a b =
    not (posix a.owner && (is_range a.what && (is_range b.what && ((a.file == b.file) && same_owners a.owner b.owner)))) || same_parties a.party b.party

abbrev pub mode_of : Bool → Mode
mode_of true = Exclusive
mode_of false = Shared

-- the span of what is claimed, if that is a range with bytes, before these
abbrev pub with_span : What → List Span → List Span
with_span (Range (Bytes first last) exclusive) spans = record { first = first; last = last; mode = mode_of exclusive } ∷ spans
with_span _ spans = spans

-- the claim is of this owner, on this file
abbrev pub is_of : ℕ → Owner → Claim → Bool
is_of file owner claim = (claim.file == file) && same_owners claim.owner owner

-- the spans of an owner's ranges on a file, as they stand in the list
abbrev pub spans_of : ℕ → Owner → List Claim → List Span
spans_of file owner [] = []
spans_of file owner (c ∷ cs) = if is_of file owner c then with_span c.what (spans_of file owner cs) else spans_of file owner cs

-- a span begins no later than another
abbrev pub begins_first : Span → Span → Bool
begins_first s t = nat_le s.first t.first

-- the most claims that a table holds (TABLE-4)
abbrev pub most_claims : ℕ
most_claims = 16384

-- claims that a table may hold: real ranges, and for each POSIX owner on each file one party and maximal runs of one mode
pub record IsSound (held : List Claim) : Type 0 where
  pub real : AllByRecursion (λ c. is_real c ≡ true) held
  pub parties : Pairwise has_one_party held
  pub canonical : (file : ℕ) (owner : Owner) → posix owner ≡ true → IsCanonical (spans_of file owner held)

-- the claims of a table: such claims, in their order, and no more than it holds
pub record IsKept (held : List Claim) : Type 0 where
  pub sound : IsSound held
  pub ordered : Pairwise goes_first held
  pub room : length held ≤ most_claims
