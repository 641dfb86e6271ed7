-- Parts of the flat list that bisection finds: a file's claims, an owner's share or its ranges, those that a range touches.
use Rattle.std.specs.Prelude.{ℕ, ◌-◌, Bool, true, false, not, ◌&&◌, ◌||◌, ◌==◌, nat_lt, nat_le, if◌then◌else◌, List, [], ◌∷◌, length, Option, Some, None}
use Rattle.std.specs.List.{slice_get}
use Rattle.xl_base.specs.declared.name.Owner.{Owner}
use Rattle.xl_base.specs.declared.name.Party.{Party}
use Rattle.xl_matrix.specs.declared.claim.Extent.TheVariants.{Bytes}
use Rattle.xl_matrix.specs.declared.claim.What.{What}
use Rattle.xl_matrix.specs.declared.claim.What.TheVariants.{Range}
use Rattle.xl_matrix.specs.declared.claim.Claim.{Claim}
use Rattle.xl_matrix.specs.Equal.{same_parties}
use Rattle.xl_spans.specs.declared.span.Span.{Span}
use Rattle.xl_table.specs.declared.ordering.Side.{Side}
use Rattle.xl_table.specs.declared.ordering.Side.TheVariants.{Earlier, Among, Later}
use Rattle.xl_table.specs.Held.{is_cache, with_span}
use Rattle.xl_table.specs.Order.{no_later, owner_key, party_key, key}

-- the numbers with which those of a file's claims begin, and those of an owner's shares (class 0) or ranges (class 1) there
abbrev pub group : ℕ → ℕ → Owner → List ℕ
group file class owner = file ∷ class ∷ owner_key owner

-- and those of a party's caches
abbrev pub party_group : ℕ → Party → List ℕ
party_group file party = file ∷ 2 ∷ party_key party

-- a claim's numbers begin with these
abbrev pub starts : List ℕ → List ℕ → Bool
starts [] ks = true
starts (f ∷ fs) [] = false
starts (f ∷ fs) (k ∷ ks) = (k == f) && starts fs ks

-- a claim's numbers are no later than all that begin with these
abbrev pub is_no_later_than : List ℕ → List ℕ → Bool
is_no_later_than [] ks = true
is_no_later_than (f ∷ fs) [] = true
is_no_later_than (f ∷ fs) (k ∷ ks) = nat_lt k f || (k == f) && is_no_later_than fs ks

-- where numbers stand by those that begin with these
abbrev pub side_of : List ℕ → List ℕ → Side
side_of [] ks = Among
side_of (f ∷ fs) [] = Earlier
side_of (f ∷ fs) (k ∷ ks) = if nat_lt k f then Earlier else if nat_lt f k then Later else side_of fs ks

-- the claim is a cache of the party on the file
abbrev pub is_cache_by : ℕ → Party → Claim → Bool
is_cache_by file party c = is_cache c.what && ((c.file == file) && same_parties c.party party)

-- the claim stands before those whose numbers begin with these, or at most among them: what a bisection tests (TABLE-12)
abbrev pub is_before : List ℕ → Claim → Bool
is_before front c = not (no_later front (key c))

abbrev pub is_upto : List ℕ → Claim → Bool
is_upto front c = is_no_later_than front (key c)

-- a range with bytes that ends before a byte, and one that begins by the byte past this one
abbrev pub range_ends_before : ℕ → What → Bool
range_ends_before byte (Range (Bytes first last) exclusive) = nat_lt last byte
range_ends_before byte _ = false

abbrev pub range_begins_by : ℕ → What → Bool
range_begins_by byte (Range (Bytes first last) exclusive) = nat_le (first - 1) byte
range_begins_by byte _ = false

-- the spans of these claims, whoever's they are
abbrev pub spans_in : List Claim → List Span
spans_in [] = []
spans_in (c ∷ cs) = with_span c.what (spans_in cs)

-- the last of these claims is a cache
abbrev pub is_cache_there : Option Claim → Bool
is_cache_there None = false
is_cache_there (Some c) = is_cache c.what

abbrev pub ends_in_cache : List Claim → Bool
ends_in_cache cs = is_cache_there (slice_get cs (length cs - 1))
