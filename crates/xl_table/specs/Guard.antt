-- What the claims of a page stand against at most.
use Rattle.std.specs.Prelude.{◌≡◌, Bool, true, false, not, ◌&&◌, ◌||◌}
use Rattle.xl_matrix.specs.declared.claim.CacheKind.{CacheKind}
use Rattle.xl_matrix.specs.declared.claim.CacheKind.TheVariants.{R, RH}
use Rattle.xl_matrix.specs.declared.claim.What.{What}
use Rattle.xl_matrix.specs.declared.claim.What.TheVariants.{Share, Range, Cache}
use Rattle.xl_matrix.specs.Rights.{implies, common, rights_lie_within}
use Rattle.xl_table.specs.Relock.{either_right}
use Rattle.xl_table.specs.declared.guard.Guard.{Guard}

-- nothing stands against anything
abbrev pub unguarded : Guard
unguarded = record { access = record { r = false; w = false; d = false }; deny = record { r = false; w = false; d = false }; exclusive = false; cached = false; guarded = false }

-- a cache of this kind may stand against a share (CLAIM-4)
abbrev pub may_guard : CacheKind → Bool
may_guard R = false
may_guard RH = false
may_guard _ = true

-- the same with one more claim
abbrev pub guard_with : Guard → What → Guard
guard_with g (Share access deny) = record { access = either_right g.access access; deny = either_right g.deny deny; exclusive = g.exclusive; cached = g.cached; guarded = g.guarded }
guard_with g (Cache kind running) = record { access = g.access; deny = g.deny; exclusive = g.exclusive; cached = true; guarded = g.guarded || may_guard kind }
guard_with g (Range extent exclusive) = record { access = g.access; deny = g.deny; exclusive = g.exclusive || exclusive; cached = g.cached; guarded = g.guarded }

-- what is claimed is counted: what a share has and denies is, an exclusive range, a cache, and one that may stand against a share
abbrev pub IsCounted : Guard → What → Type 0
IsCounted g (Share access deny) = (rights_lie_within access g.access ≡ true) × (rights_lie_within deny g.deny ≡ true)
IsCounted g (Cache kind running) = (g.cached ≡ true) × (implies (may_guard kind) g.guarded ≡ true)
IsCounted g (Range extent exclusive) = implies exclusive g.exclusive ≡ true

-- a share or a shared range is asked against which none of these stands
abbrev pub lets_by : Guard → What → Bool
lets_by g (Share access deny) = not g.guarded && (not (common access g.deny) && not (common g.access deny))
lets_by g (Range extent false) = not g.cached && not g.exclusive
lets_by g _ = false
