-- What a break leaves of a cache (MS-FSA 2.1.4.12, MS-SMB2 3.3.4.7; of a delegation RFC 7530 10.4.4).
use Rattle.std.specs.Prelude.{Bool, true, false, ◌||◌, Option, Some, None, if◌then◌else◌}
use Rattle.xl_matrix.specs.declared.claim.CacheKind.{CacheKind}
use Rattle.xl_matrix.specs.declared.claim.CacheKind.TheVariants.{R, RH, RW, RWH, ReadDeleg, WriteDeleg}
use Rattle.xl_matrix.specs.Kinds.{kind_lies_within}
use Rattle.xl_cache.specs.declared.need.Need.{Need}

abbrev pub is_delegation : CacheKind → Bool
is_delegation ReadDeleg = true
is_delegation WriteDeleg = true
is_delegation _ = false

-- what a break leaves of each kind: first if a range is asked, then if a share is, last if a share is and the
-- handle has to go as well
abbrev pub rests : CacheKind → Option CacheKind × Option CacheKind × Option CacheKind
rests R = (None, Some R, Some R)
rests RH = (None, Some RH, Some R)
rests RW = (None, Some R, Some R)
rests RWH = (None, Some RH, Some R)
rests ReadDeleg = (None, None, None)
rests WriteDeleg = (None, None, None)

-- the handle has to go: the share that it kept open is in the way, or the cache is an oplock, which has no kind RH
abbrev pub loses_handle : Need → Bool
loses_handle need = need.covered || need.oplock

-- what a break leaves, None if it leaves nothing
unfoldable pub target_of : CacheKind → Need → Option CacheKind
target_of kind need = if need.range then (rests kind).0 else if loses_handle need then (rests kind).2 else (rests kind).1

-- the break takes effect once it is answered: each except that of R to none, which is only sent (MS-SMB2 3.3.4.6)
abbrev pub needs_answer : CacheKind → Option CacheKind → Bool
needs_answer R None = false
needs_answer _ _ = true

-- of two things that may be left of a cache, the first is no more than the second
abbrev pub rest_lies_within : Option CacheKind → Option CacheKind → Bool
rest_lies_within None other = true
rest_lies_within (Some kind) None = false
rest_lies_within (Some kind) (Some other) = kind_lies_within kind other

-- two reasons to break one cache, taken together
abbrev pub together : Need → Need → Need
together p q = record { range = p.range || q.range; covered = p.covered || q.covered; oplock = p.oplock || q.oplock }
