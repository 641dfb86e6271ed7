-- Which claims the tests enter.
use Rattle.std.specs.Prelude.{Bool, not, ◌&&◌, ◌||◌, List}
use Rattle.std.specs.List.{list_all}
use Rattle.xl_matrix.specs.declared.claim.Claim.{Claim}
use Rattle.xl_matrix.specs.Owners.{posix}
use Rattle.xl_table.specs.Held.{is_of, is_range, is_real}

-- the held claim is no range of the owner on the file, or the owner is an SMB open, whose ranges stand one by one
abbrev pub is_beside : Claim → Claim → Bool
is_beside claim held = not (is_range held.what && is_of claim.file claim.owner held) || not (posix claim.owner)

-- a real claim, and no second range of an NLM or NFSv4 owner on a file
abbrev pub is_simple : Claim → List Claim → Bool
is_simple claim held = is_real claim && list_all (is_beside claim) held
