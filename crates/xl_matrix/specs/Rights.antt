-- Sets of rights: reading, writing, deleting.
use Rattle.std.specs.Prelude.{Bool, not, ◌&&◌, ◌||◌}
use Rattle.xl_matrix.specs.declared.claim.Rwd.{Rwd}

-- the second holds wherever the first does
abbrev pub implies : Bool → Bool → Bool
implies p q = not p || q

-- a right is in both
abbrev pub common : Rwd → Rwd → Bool
common p q = (p.r && q.r) || ((p.w && q.w) || (p.d && q.d))

-- no right at all
abbrev pub empty : Rwd → Bool
empty p = not p.r && (not p.w && not p.d)

-- each right of the first is in the second
abbrev pub rights_lie_within : Rwd → Rwd → Bool
rights_lie_within p q = implies p.r q.r && (implies p.w q.w && implies p.d q.d)
