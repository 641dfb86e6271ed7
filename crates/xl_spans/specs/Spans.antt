-- The byte ranges that one owner has locked in one file, as maximal runs of one mode (XNFS C702, RFC 7530 16.10 and 16.12).
use Rattle.std.specs.Prelude.{◌≡◌, ℕ, ◌+◌, ◌-◌, ◌*◌, ◌<◌, ◌≤◌, ◌==◌, nat_lt, nat_le, min, max, Bool, true, false, not, ◌&&◌, if◌then◌else◌, List, [], ◌∷◌, ◌++◌, Option, Some, None, length}
use Rattle.std.specs.List.{AllByRecursion, filter_map, find, slice_get}
use Rattle.std.specs.Option.{option_and_then, option_to_list}
use Rattle.xl_spans.specs.declared.span.Mode.{Mode}
use Rattle.xl_spans.specs.declared.span.Mode.TheVariants.{Shared, Exclusive}
use Rattle.xl_spans.specs.declared.span.Span.{Span}

-- an owner's spans as callers see them, and how many more fit without memory
pub record Ranges : Type 0 where
  pub spans : List Span
  pub spare : ℕ

-- byte x lies in the range from first to last, both of them in it
abbrev pub within : ℕ → ℕ → ℕ → Bool
within first last x = nat_le first x && nat_le x last

-- the mode in which byte x is locked, or None
abbrev pub mode_at : List Span → ℕ → Option Mode
mode_at [] x = None
mode_at (s ∷ ss) x = if within s.first s.last x then Some s.mode else mode_at ss x

-- two modes are the same one
abbrev pub same_mode : Mode → Mode → Bool
same_mode Shared Shared = true
same_mode Exclusive Exclusive = true
same_mode _ _ = false

-- b begins at the byte past a and has a's mode, so that the two are one run
abbrev pub joins : Span → Span → Bool
joins a b = (a.last + 1 == b.first) && same_mode a.mode b.mode

-- the first of these spans, if any, begins past a, and is not one run with it
abbrev pub IsBefore : Span → List Span → Type 0
IsBefore a [] = Unit {0}
IsBefore a (b ∷ bs) = (a.last < b.first) × (joins a b ≡ false)

-- maximal runs of one mode, in the order of their bytes (TABLE-2)
abbrev pub IsCanonical : List Span → Type 0
IsCanonical [] = Unit {0}
IsCanonical (s ∷ ss) = (s.first ≤ s.last) × IsBefore s ss × IsCanonical ss

-- no span reaches byte n
abbrev pub EndsBelow : ℕ → List Span → Type 0
EndsBelow n ss = AllByRecursion (λ s. s.last < n) ss

-- what is left of a span below byte first
abbrev pub part_before : ℕ → Span → Option Span
part_before first s = if nat_lt s.first first then Some (record { first = s.first; last = min s.last (first - 1); mode = s.mode }) else None

-- what is left of a span past byte last
abbrev pub part_past : ℕ → Span → Option Span
part_past last s = if nat_lt last s.last then Some (record { first = max s.first (last + 1); last = s.last; mode = s.mode }) else None

-- the span that a lock asks for; an unlock, which has no mode, asks for none
abbrev pub asked : ℕ → ℕ → Option Mode → List Span
asked first last None = []
asked first last (Some mode) = record { first = first; last = last; mode = mode } ∷ []

-- a before these runs: one run with the first of them, if they join
abbrev pub joined : Span → List Span → List Span
joined a [] = a ∷ []
joined a (b ∷ bs) = if joins a b then record { first = a.first; last = b.last; mode = a.mode } ∷ bs else a ∷ b ∷ bs

-- neighbours that join made one
abbrev pub runs : List Span → List Span
runs [] = []
runs (s ∷ ss) = joined s (runs ss)

-- the spans after a lock of the range in this mode, or after its unlock at None: the range is cut out of them, what is
-- asked is put in its place, and what joins is made one
unfoldable pub relocked : List Span → ℕ → ℕ → Option Mode → List Span
relocked ss first last mode = runs (filter_map (part_before first) ss ++ (asked first last mode ++ filter_map (part_past last) ss))

-- the span has a byte in the range
abbrev pub meets : ℕ → ℕ → Span → Bool
meets first last s = nat_le s.first last && nat_le first s.last

-- two owners cannot both have one byte in these modes
abbrev pub excludes : Mode → Mode → Bool
excludes Shared Shared = false
excludes _ _ = true

-- another owner's lock of the range in this mode conflicts with the span
abbrev pub conflicts : ℕ → ℕ → Mode → Span → Bool
conflicts first last mode s = meets first last s && excludes mode s.mode

-- the first such span, which in maximal runs is the least (TABLE-2)
unfoldable pub first_conflict : ℕ → ℕ → Mode → List Span → Option Span
first_conflict first last mode ss = find (conflicts first last mode) ss

-- what a search by bisection tests: the span ends before a byte, or begins by it
abbrev pub ends_before : ℕ → Span → Bool
ends_before byte s = nat_lt s.last byte

abbrev pub begins_by : ℕ → Span → Bool
begins_by byte s = nat_le s.first byte

-- what a relock leaves of the first span below the range, and of the last one past it; of spans that are touched no other has such a part
abbrev pub left_part : ℕ → List Span → Option Span
left_part first ss = option_and_then (part_before first) (slice_get ss 0)

abbrev pub right_part : ℕ → List Span → Option Span
right_part last ss = option_and_then (part_past last) (slice_get ss (length ss - 1))

-- what a relock puts in place of the spans that it touches, in order
abbrev pub listed : Option Span → Option Span → Option Span → List Span
listed left middle right = option_to_list left ++ (option_to_list middle ++ option_to_list right)

-- these runs behind the span, if there is one
abbrev pub joined_behind : Option Span → List Span → List Span
joined_behind None ss = ss
joined_behind (Some s) ss = joined s ss

-- the mode of byte x, if this is the first span that does not end before it
abbrev pub mode_in : ℕ → Option Span → Option Mode
mode_in x None = None
mode_in x (Some s) = if nat_le s.first x then Some s.mode else None

-- an owner who locks a byte in one mode leaves another owner free to lock it in the other
abbrev pub leaves_free : Mode → Option Mode → Bool
leaves_free mode None = true
leaves_free mode (Some held) = not (excludes mode held)

-- the span has a byte in the range, or right beside it; a lock or unlock of the range leaves all other spans as they
-- are
abbrev pub touches : ℕ → ℕ → Span → Bool
touches first last s = nat_le first (s.last + 1) && nat_le s.first (last + 1)

-- two to the number of looks that a bisection of so many spans takes is at most this
abbrev pub most_looks : ℕ → ℕ
most_looks n = max 1 (2 * n)
