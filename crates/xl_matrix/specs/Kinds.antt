-- Kinds of caches: what they allow, and which lies within which.
use Rattle.std.specs.Prelude.{Bool, true, false, not, ◌&&◌, ◌||◌}
use Rattle.xl_matrix.specs.declared.claim.Rwd.{Rwd}
use Rattle.xl_matrix.specs.declared.claim.CacheKind.{CacheKind}
use Rattle.xl_matrix.specs.declared.claim.CacheKind.TheVariants.{R, RH, RW, RWH, ReadDeleg, WriteDeleg}
use Rattle.xl_matrix.specs.Rights.{empty}

-- its party may write without telling
abbrev pub writes : CacheKind → Bool
writes R = false
writes RH = false
writes RW = true
writes RWH = true
writes ReadDeleg = false
writes WriteDeleg = true

-- its party may keep the file open without telling
abbrev pub keeps_handle : CacheKind → Bool
keeps_handle R = false
keeps_handle RH = true
keeps_handle RW = false
keeps_handle RWH = true
keeps_handle ReadDeleg = true
keeps_handle WriteDeleg = true

-- the cache stands against a share of another party: one that may write against each share that has or denies
-- anything, a read delegation against writing and against a share that denies reading (CLAIM-4)
abbrev pub guarding : CacheKind → Rwd → Rwd → Bool
guarding R access deny = false
guarding RH access deny = false
guarding RW access deny = not (empty access && empty deny)
guarding RWH access deny = not (empty access && empty deny)
guarding ReadDeleg access deny = access.w || deny.r
guarding WriteDeleg access deny = not (empty access && empty deny)

-- what the first allows the second allows too: R lies within RH and RW, these within RWH, a read delegation within a
-- write delegation, and each within itself
abbrev pub kind_lies_within : CacheKind → CacheKind → Bool
kind_lies_within R R = true
kind_lies_within R RH = true
kind_lies_within R RW = true
kind_lies_within R RWH = true
kind_lies_within RH RH = true
kind_lies_within RH RWH = true
kind_lies_within RW RW = true
kind_lies_within RW RWH = true
kind_lies_within RWH RWH = true
kind_lies_within ReadDeleg ReadDeleg = true
kind_lies_within ReadDeleg WriteDeleg = true
kind_lies_within WriteDeleg WriteDeleg = true
kind_lies_within _ _ = false
