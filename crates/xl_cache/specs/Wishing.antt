-- What a wish for a cache gets (MS-SMB2 3.3.5.9, RFC 7530 10.4).
use Rattle.std.specs.Prelude.{◌≡◌, Bool, true, ◌&&◌, ◌||◌, ◌==◌, Option, Some, None, if◌then◌else◌, List}
use Rattle.std.specs.List.{filter_map, find, list_all}
use Rattle.xl_matrix.specs.declared.claim.CacheKind.{CacheKind}
use Rattle.xl_matrix.specs.declared.claim.CacheKind.TheVariants.{RWH}
use Rattle.xl_matrix.specs.declared.claim.What.{What}
use Rattle.xl_matrix.specs.declared.claim.What.TheVariants.{Cache}
use Rattle.xl_matrix.specs.declared.claim.Claim.{Claim}
use Rattle.xl_matrix.specs.Kinds.{kind_lies_within}
use Rattle.xl_matrix.specs.Equal.{same_parties}
use Rattle.xl_matrix.specs.Matrix.{compat}
use Rattle.xl_matrix.specs.Blocks.{is_cache}
use Rattle.xl_cache.specs.declared.wish.Wish.{Wish}
use Rattle.xl_cache.specs.Targets.{is_delegation}

-- the claim that the wish is for, were it to get this kind
abbrev pub wished_claim : Wish → CacheKind → Claim
wished_claim wanted kind = record { file = wanted.file; owner = wanted.owner; party = wanted.party; what = Cache kind None }

-- ---- a party without a cache on the file

-- the kind may stand beside all that is held
abbrev pub may_stand : Wish → List Claim → CacheKind → Bool
may_stand wanted held kind = list_all (compat (wished_claim wanted kind)) held

-- the first choice that may
unfoldable pub best_of : Wish → List Claim → Option CacheKind
best_of wanted held = find (may_stand wanted held) wanted.kinds

-- ---- a party that has one

-- the least kind that both lie within; a delegation and an oplock or lease have none
abbrev pub joined : CacheKind → CacheKind → Option CacheKind
joined kind other =
    if kind_lies_within kind other then Some other
    else if kind_lies_within other kind then Some kind
    else if is_delegation kind || is_delegation other then None
    else Some RWH

-- the party's cache on the file
abbrev pub is_its_cache : Wish → Claim → Bool
is_its_cache wanted c = is_cache c.what && ((c.file == wanted.file) && same_parties c.party wanted.party)

-- the kind may stand beside all that is held except the party's own cache, in whose place it comes
abbrev pub may_replace : Wish → List Claim → CacheKind → Bool
may_replace wanted held kind = list_all (λ c. is_its_cache wanted c || compat (wished_claim wanted kind) c) held

-- the first choice that may, each joined with the kind that the party has
unfoldable pub best_join_of : Wish → CacheKind → List Claim → Option CacheKind
best_join_of wanted kind held = find (may_replace wanted held) (filter_map (joined kind) wanted.kinds)

-- ---- a wish

abbrev pub raised_by : Wish → List Claim → What → Option CacheKind
raised_by wanted held (Cache kind None) = best_join_of wanted kind held
raised_by wanted held _ = None

abbrev pub granted_beside : Wish → List Claim → Option Claim → Option CacheKind
granted_beside wanted held None = best_of wanted held
granted_beside wanted held (Some c) = raised_by wanted held c.what

-- The kind that the party is to have on the file from now on: if it has no cache there, the first choice that may
-- stand; if it has one, the first join that may, but nothing while its break runs. None if all stays as it is.
unfoldable pub granted_kind : Wish → List Claim → Option CacheKind
granted_kind wanted held = granted_beside wanted held (find (is_its_cache wanted) held)

-- a cache of which no break runs, that lies within this kind
abbrev pub Keeps : What → CacheKind → Type 0
Keeps (Cache kind None) raised = kind_lies_within kind raised ≡ true
Keeps _ raised = ⊥
