-- The byte ranges that one SMB open has locked in one file, in the order of locking (MS-FSA 2.1.4.10, 2.1.5.8, 2.1.5.9).
use Rattle.std.specs.Prelude.{ℕ, ◌+◌, ◌-◌, ◌≤◌, ◌^◌, ◌==◌, nat_lt, nat_le, min, max, Bool, ◌&&◌, ◌||◌, if◌then◌else◌, List, Option, length, take, position}
use Rattle.std.specs.List.{AllByRecursion, find, list_any}
use Rattle.std.specs.Option.{option_or}
use Rattle.std.specs.Set.{remove_key as without_first}
use Rattle.xl_exact.specs.declared.element.Element.{Element}

-- an open's elements as callers see them, and how many more fit without memory
pub record Elements : Type 0 where
  pub elements : List Element
  pub spare : ℕ

-- the range does not wrap: no byte of it is past 2^64 - 1
abbrev pub IsRange : ℕ → ℕ → Type 0
IsRange first len = first + len ≤ 2 ^ 64

abbrev pub AreRanges : List Element → Type 0
AreRanges es = AllByRecursion (λ e. IsRange e.first e.len) es

-- byte x is one of the len bytes from first on
abbrev pub covers : ℕ → ℕ → ℕ → Bool
covers first len x = nat_le first x && nat_lt x (first + len)

-- both the byte before the offset and the byte at it are; at offset 0 there is none before
abbrev pub covers_both : ℕ → ℕ → ℕ → Bool
covers_both first len offset = nat_lt first offset && nat_lt offset (first + len)

-- The range meets the element: they have a common byte. One of length 0 has none, and meets what has both the byte
-- before its offset and the byte at it.
unfoldable pub meets : ℕ → ℕ → Element → Bool
meets first len e =
    if len == 0
    then covers_both e.first e.len first
    else if e.len == 0
    then covers_both first len e.first
    else nat_lt (max first e.first) (min (first + len) (e.first + e.len))

-- another open's lock of the range in this mode conflicts with the element: they meet, and one of the two is exclusive
abbrev pub conflicts : ℕ → ℕ → Bool → Element → Bool
conflicts first len exclusive e = meets first len e && (exclusive || e.exclusive)

-- the open's own lock does: they meet, and it is exclusive (EXACT-4)
abbrev pub conflicts_own : ℕ → ℕ → Bool → Element → Bool
conflicts_own first len exclusive e = meets first len e && exclusive

-- the first such element, in the order of locking (EXACT-4)
abbrev pub first_conflict : ℕ → ℕ → Bool → List Element → Option Element
first_conflict first len exclusive es = find (conflicts first len exclusive) es

abbrev pub first_own_conflict : ℕ → ℕ → Bool → List Element → Option Element
first_own_conflict first len exclusive es = find (conflicts_own first len exclusive) es

-- the element has just this range, whatever its mode; and it is exclusive too
abbrev pub has_range : ℕ → ℕ → Element → Bool
has_range first len e = e.first == first && e.len == len

abbrev pub is_exclusive_at : ℕ → ℕ → Element → Bool
is_exclusive_at first len e = has_range first len e && e.exclusive

-- some element has just this range
abbrev pub is_locked : ℕ → ℕ → List Element → Bool
is_locked first len es = list_any (has_range first len) es

-- the elements after an unlock: without the first exclusive one of just this range, or if there is none, without the
-- first one
unfoldable pub unlocked : ℕ → ℕ → List Element → List Element
unlocked first len es =
    if list_any (is_exclusive_at first len) es
    then without_first (is_exclusive_at first len) es
    else without_first (has_range first len) es

-- the place of the element that it takes out
abbrev pub place_unlocked : ℕ → ℕ → List Element → Option ℕ
place_unlocked first len es = option_or (position (is_exclusive_at first len) es) (position (has_range first len) es)

-- the elements after the last k locks are taken back (EXACT-3)
abbrev pub undone : ℕ → List Element → List Element
undone k es = take (length es - k) es
