-- Which statuses leave an owner's seqid (RFC 7530 9.1.7), by their numbers in RFC 7531: STALE_CLIENTID, STALE_STATEID,
-- BAD_STATEID, BAD_SEQID, BADXDR, RESOURCE and NOFILEHANDLE.
use Rattle.std.specs.Prelude.{ℕ, List, [], ◌∷◌}

abbrev pub uncounted_statuses : List ℕ
uncounted_statuses = 10022 ∷ 10023 ∷ 10025 ∷ 10026 ∷ 10036 ∷ 10018 ∷ 10020 ∷ []
