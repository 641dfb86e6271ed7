-- The least of some claims, as a blocker is reported.
use Rattle.std.specs.Prelude.{ℕ, Bool, false, not, ◌&&◌, ◌||◌, ◌==◌, nat_lt, if◌then◌else◌, List, Option, Some, None}
use Rattle.std.specs.Ordering.{nat_cmp, is_lt}
use Rattle.std.specs.Cmp.Lexicographic.{slice_cmp}
use Rattle.xl_base.specs.Leasts.{least_by}
use Rattle.xl_matrix.specs.declared.claim.Claim.{Claim}
use Rattle.xl_matrix.specs.declared.claim.Extent.TheVariants.{Bytes, Empty}
use Rattle.xl_matrix.specs.declared.claim.What.{What}
use Rattle.xl_matrix.specs.declared.claim.What.TheVariants.{Range}
use Rattle.xl_names.specs.Texts.{owner_text}
use Rattle.xl_names.specs.declared.name.Name.{Name}
use Rattle.xl_table.specs.Flat.{blocks}
use Rattle.xl_table.specs.Held.{is_range}
use Rattle.xl_table.specs.declared.bounds.Bounds.{Bounds}

-- how ranges are told apart: the first byte, whether there are bytes, the last, and exclusive before shared
abbrev pub range_key : What → ℕ × ℕ × ℕ × ℕ
range_key (Range (Bytes first last) exclusive) = (first, 1, last, if exclusive then 0 else 1)
range_key (Range (Empty offset) exclusive) = (offset, 0, 0, if exclusive then 0 else 1)
range_key _ = (0, 0, 0, 0)

abbrev pub before_by : ℕ × ℕ × ℕ × ℕ → ℕ × ℕ × ℕ × ℕ → Bool → Bool
before_by a b text =
    if a.0 == b.0 then (if a.1 == b.1 then (if a.2 == b.2 then (if a.3 == b.3 then text else nat_lt a.3 b.3) else nat_lt a.2 b.2) else nat_lt a.1 b.1) else nat_lt a.0 b.0

-- the first range comes before the second; if nothing else parts them, by the text of their owners
abbrev pub range_before : List Name → Claim → Claim → Bool
range_before names a b = before_by (range_key a.what) (range_key b.what) (is_lt (slice_cmp nat_cmp (owner_text names a.owner) (owner_text names b.owner)))

-- the least of these, which a refusal names (CORE-2)
unfoldable pub least : List Name → List Claim → Option Claim
least names cs = least_by (range_before names) cs

-- the held claim blocks the ask, and is a range if ranges alone count
abbrev pub counts : Claim → Bool → Claim → Bool
counts ask ranges held = blocks ask held && (not ranges || is_range held.what)

-- the claim begins behind the least so far
abbrev pub begins_behind : Option Claim → Claim → Bool
begins_behind None c = false
begins_behind (Some least) c = nat_lt (range_key least.what).0 (range_key c.what).0

-- no claim within these bounds comes before the least so far: each is a range that begins behind it
abbrev pub is_beyond : Option Claim → Bounds → Bool
is_beyond None b = false
is_beyond (Some c) b = not b.mixed && nat_lt (range_key c.what).0 b.low
