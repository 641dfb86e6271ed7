-- Who leaves, and what goes with it.
use Rattle.std.specs.Prelude.{◌≡◌, ℕ, ◌==◌, ◌&&◌, ◌||◌, nat_lt, Bool, true, false, if◌then◌else◌, List, Option, Some, None}
use Rattle.std.specs.List.{AllByRecursion}
use Rattle.xl_base.specs.declared.name.Owner.TheVariants as owners
use Rattle.xl_base.specs.declared.name.Party.{Party}
use Rattle.xl_index.specs.Stands.{who_of, who_opens, is_by, is_past, any_on}
use Rattle.xl_matrix.specs.Blocks.{is_cache}
use Rattle.xl_matrix.specs.Equal.{same_owners, same_parties}
use Rattle.xl_matrix.specs.declared.claim.Claim.{Claim}
use Rattle.xl_table.specs.Order.{key}
use Rattle.xl_table.specs.Sections.{group, party_group, starts}
use Rattle.xl_table.specs.declared.leaver.Leaver.{Leaver}
use Rattle.xl_table.specs.declared.leaver.Leaver.TheVariants as leavers

-- it is this party, if there is one
abbrev pub is_some_party : Option Party → Party → Bool
is_some_party None holder = false
is_some_party (Some party) holder = same_parties holder party

-- the claim is this party's
abbrev pub is_of_some : Option Party → Claim → Bool
is_of_some party c = is_some_party party c.party

-- With a party goes all that it has; with an SMB open its share and its ranges, and the caches of the party that goes with it.
abbrev pub goes : Leaver → Claim → Bool
goes (leavers.Party party) c = same_parties c.party party
goes (leavers.Open number party) c = if is_cache c.what then is_of_some party c else same_owners c.owner (owners.Open number)

-- and it does, being on this file
abbrev pub goes_on : Leaver → ℕ → Claim → Bool
goes_on who file c = goes who c && (c.file == file)

-- the claim's numbers begin with these
abbrev pub in_group : List ℕ → Claim → Bool
in_group front c = starts front (key c)

-- what goes with an SMB open on a file: its share and its ranges there; and with the party that goes with it its caches besides
abbrev pub owned : ℕ → ℕ → Claim → Bool
owned file number c = in_group (group file 0 (owners.Open number)) c || in_group (group file 1 (owners.Open number)) c

abbrev pub all_owned : ℕ → ℕ → Party → Claim → Bool
all_owned file number party c = owned file number c || in_group (party_group file party) c

-- The claim is that of who leaves: of the party, or of the SMB open or the party that goes with it. All that goes is,
-- but not all of it goes: an SMB open's claims by another party stay if that one leaves alone.
abbrev pub is_leavers : Leaver → Claim → Bool
is_leavers (leavers.Party party) c = is_by (who_of party) c
is_leavers (leavers.Open number None) c = is_by (who_opens number) c
is_leavers (leavers.Open number (Some party)) c = is_by (who_opens number) c || is_by (who_of party) c

-- a file past one on which some of those claims are, and none of these is on one between; or none of these is on any past it
abbrev pub IsFirst : Option ℕ → (Claim → Bool) → (Claim → Bool) → Option ℕ → List Claim → Type 0
IsFirst (Some file) these those past cs = (is_past past file ≡ true) × AllByRecursion (λ c. ((these c && is_past past c.file) && nat_lt c.file file) ≡ false) cs × (any_on those file cs ≡ true)
IsFirst None these those past cs = AllByRecursion (λ c. (these c && is_past past c.file) ≡ false) cs

-- the next file past one on which who leaves has something: nothing goes from one between; or from any past it
abbrev pub IsNextLeft : Option ℕ → Leaver → Option ℕ → List Claim → Type 0
IsNextLeft file who past cs = IsFirst file (goes who) (is_leavers who) past cs

-- the earlier of two files, as far as they are there
abbrev pub earlier : Option ℕ → Option ℕ → Option ℕ
earlier None other = other
earlier (Some one) None = Some one
earlier (Some one) (Some other) = if nat_lt one other then Some one else Some other
