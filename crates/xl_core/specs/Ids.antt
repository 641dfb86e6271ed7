-- Ids: the epoch of this start, and a number that was given out.
use Rattle.std.specs.Prelude.{ℕ, ◌+◌, ◌*◌, ◌/◌, ◌%◌, ◌^◌, ◌==◌, if◌then◌else◌, Option, Some, None}
use Rattle.xl_core.specs.State.{CoreState}

-- the id with this number (NFS-11, SMB-12)
abbrev pub id_of : CoreState → ℕ → ℕ
id_of s number = s.stable.epoch * 2 ^ 32 + number

-- the number in an id, if it is of this start
abbrev pub number_in : CoreState → ℕ → Option ℕ
number_in s id = if id / 2 ^ 32 == s.stable.epoch then Some (id % 2 ^ 32) else None
