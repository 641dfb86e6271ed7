-- Who has a claim on which file, by numbers.
use Rattle.std.specs.Prelude.{ℕ, ◌==◌, Bool, not, ◌&&◌, ◌||◌, if◌then◌else◌, List, Option, None}
use Rattle.std.specs.List.{list_any}
use Rattle.xl_base.specs.declared.name.Party.{Party}
use Rattle.xl_base.specs.declared.name.Party.TheVariants as party
use Rattle.xl_base.specs.declared.name.Protocol.{Protocol}
use Rattle.xl_base.specs.declared.name.Protocol.TheVariants.{Nlm, Nfs, Smb}
use Rattle.xl_matrix.specs.Blocks.{is_share, is_range, is_cache, blocks}
use Rattle.xl_matrix.specs.Equal.{same_parties}
use Rattle.xl_matrix.specs.declared.claim.CacheKind.{CacheKind}
use Rattle.xl_matrix.specs.declared.claim.Claim.{Claim}
use Rattle.xl_cache.specs.declared.need.Need.{Need}
use Rattle.xl_cache.specs.BreakPlans.{keeps_handle_by, is_running, is_oplock, break_by, is_left_by}

-- two numbers for each party: no two have the same
abbrev pub rank : Protocol → ℕ
rank Nlm = 0
rank Nfs = 1
rank Smb = 2

abbrev pub numbers_of : ℕ → Party → ℕ × ℕ × ℕ
numbers_of file (party.Name protocol number) = (file, rank protocol, number)
numbers_of file (party.Open number) = (file, 3, number)

-- the claim's file and party
abbrev pub holder_of : Claim → ℕ × ℕ × ℕ
holder_of c = numbers_of c.file c.party

abbrev pub same_numbers : ℕ × ℕ × ℕ → ℕ × ℕ × ℕ → Bool
same_numbers a b = ((a.0 == b.0) && (a.1 == b.1)) && (a.2 == b.2)

-- the claim's party is one of these, on its file
abbrev pub is_among : List (ℕ × ℕ × ℕ) → Claim → Bool
is_among holders c = list_any (same_numbers (holder_of c)) holders

-- the two are of one party, on one file
abbrev pub are_beside : Claim → Claim → Bool
are_beside a b = (a.file == b.file) && same_parties a.party b.party

-- ---- what a plan asks of each claim, if it is known who keeps a handle, or who has the shares that block the ask

-- it keeps a handle
abbrev pub is_keeper : Claim → Bool
is_keeper c = keeps_handle_by c.what

-- it blocks the ask for good, if these keep a handle
abbrev pub is_final_beside : Claim → List (ℕ × ℕ × ℕ) → Claim → Bool
is_final_beside ask keepers c = blocks ask c && (not (is_cache c.what) && not (is_share c.what && (not (same_parties c.party ask.party) && is_among keepers c)))

-- it covers one of the shares, if these have them
abbrev pub covers_beside : Claim → List (ℕ × ℕ × ℕ) → Claim → Bool
covers_beside ask sharers cache = not (same_parties cache.party ask.party) && (keeps_handle_by cache.what && is_among sharers cache)

-- it is in the way, if it covers one or doesn't
abbrev pub stands_so : Claim → Bool → Claim → Bool
stands_so ask covered c = (is_cache c.what && blocks ask c) || covered

abbrev pub need_so : Claim → Bool → Claim → Need
need_so ask covered c = record { range = is_range ask.what; covered = covered; oplock = is_oplock c.party }

abbrev pub break_so : Claim → Bool → Claim → Option (Claim × Option CacheKind)
break_so ask covered c = if stands_so ask covered c then break_by c (need_so ask covered c) c.what else None

abbrev pub is_awaited_beside : Claim → List (ℕ × ℕ × ℕ) → Claim → Bool
is_awaited_beside ask sharers c = stands_so ask (covers_beside ask sharers c) c && is_running c.what

abbrev pub is_left_beside : Claim → List (ℕ × ℕ × ℕ) → Claim → Bool
is_left_beside ask sharers c = let covered = covers_beside ask sharers c in stands_so ask covered c && is_left_by (need_so ask covered c) c.what
