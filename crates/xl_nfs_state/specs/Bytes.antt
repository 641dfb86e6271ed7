-- How long a result is that is kept.
use Rattle.std.specs.Prelude.{ℕ}

-- how many bytes it has at most: as many as that of LOCK denied by an owner of 1,024 bytes (NFS-14)
abbrev pub most_result_bytes : ℕ
most_result_bytes = 1064
