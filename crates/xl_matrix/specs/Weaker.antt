-- Which claim is no more than another.
use Rattle.std.specs.Prelude.{Bool, false, ◌&&◌, ◌==◌}
use Rattle.xl_matrix.specs.declared.claim.What.{What}
use Rattle.xl_matrix.specs.declared.claim.What.TheVariants.{Share, Range, Cache}
use Rattle.xl_matrix.specs.declared.claim.Claim.{Claim}
use Rattle.xl_matrix.specs.Rights.{implies, rights_lie_within}
use Rattle.xl_matrix.specs.Extents.{lies_in}
use Rattle.xl_matrix.specs.Kinds.{kind_lies_within}
use Rattle.xl_matrix.specs.Equal.{same_owners, same_parties}

-- the first claim is no more than the second, of the same file and names: for a share of its access and deny, for a
-- range of its bytes (an empty one: itself) in no stronger mode, for a cache, which its party has, of its kind.
-- A running break changes nothing (CLAIM-5).
unfoldable pub weaker_by : Claim → Claim → What → What → Bool
weaker_by a b (Share access deny) (Share rights denied) = same_owners a.owner b.owner && (rights_lie_within access rights && rights_lie_within deny denied)
weaker_by a b (Range extent exclusive) (Range place alone) = same_owners a.owner b.owner && (lies_in extent place && implies exclusive alone)
weaker_by a b (Cache kind running) (Cache other due) = kind_lies_within kind other
weaker_by _ _ _ _ = false

unfoldable pub weaker : Claim → Claim → Bool
weaker a b = (a.file == b.file) && (same_parties a.party b.party && weaker_by a b a.what b.what)
