-- The order of the flat list of claims.
use Rattle.std.specs.Prelude.{ℕ, Bool, true, false, ◌&&◌, ◌||◌, ◌==◌, nat_lt, List, [], ◌∷◌, ◌++◌, if◌then◌else◌}
use Rattle.xl_base.specs.declared.name.Protocol.{Protocol}
use Rattle.xl_base.specs.declared.name.Protocol.TheVariants.{Nlm, Nfs, Smb}
use Rattle.xl_base.specs.declared.name.Owner.{Owner}
use Rattle.xl_base.specs.declared.name.Owner.TheVariants as owner
use Rattle.xl_base.specs.declared.name.Party.{Party}
use Rattle.xl_base.specs.declared.name.Party.TheVariants as party
use Rattle.xl_matrix.specs.declared.claim.Extent.{Extent}
use Rattle.xl_matrix.specs.declared.claim.Extent.TheVariants.{Bytes, Empty}
use Rattle.xl_matrix.specs.declared.claim.What.{What}
use Rattle.xl_matrix.specs.declared.claim.What.TheVariants.{Share, Range, Cache}
use Rattle.xl_matrix.specs.declared.claim.Claim.{Claim}
use Rattle.xl_matrix.specs.Owners.{posix}

-- the first list is no later than the second: by the first number that differs
abbrev pub no_later : List ℕ → List ℕ → Bool
no_later [] ys = true
no_later (x ∷ xs) [] = false
no_later (x ∷ xs) (y ∷ ys) = nat_lt x y || (x == y) && no_later xs ys

-- the order of the protocols
abbrev pub rank : Protocol → ℕ
rank Nlm = 0
rank Nfs = 1
rank Smb = 2

-- an owner by its protocol and number; of equal ones a name stands before an open
abbrev pub owner_key : Owner → List ℕ
owner_key (owner.Name protocol number) = rank protocol ∷ number ∷ 0 ∷ []
owner_key (owner.Open number) = 2 ∷ number ∷ 1 ∷ []

abbrev pub party_key : Party → List ℕ
party_key (party.Name protocol number) = rank protocol ∷ number ∷ 0 ∷ []
party_key (party.Open number) = 2 ∷ number ∷ 1 ∷ []

abbrev pub first_of : Extent → ℕ
first_of (Bytes first last) = first
first_of (Empty offset) = offset

-- the place in its owner's group: a POSIX owner's ranges go by their first byte, an SMB open's as they come
abbrev pub place_in_group : Owner → Extent → ℕ
place_in_group owner extent = if posix owner then first_of extent else 0

abbrev pub key_from : ℕ → ℕ → List ℕ → ℕ → List ℕ
key_from file class who place = file ∷ class ∷ (who ++ place ∷ [])

abbrev pub key_by : Claim → What → List ℕ
key_by claim (Share access deny) = key_from claim.file 0 (owner_key claim.owner) 0
key_by claim (Range extent exclusive) = key_from claim.file 1 (owner_key claim.owner) (place_in_group claim.owner extent)
key_by claim (Cache kind running) = key_from claim.file 2 (party_key claim.party) 0

-- the numbers by which claims stand in order: the file, then shares, ranges and caches, then the owner of a share or
-- a range, or the party of a cache, then the place in that group (TABLE-3)
unfoldable pub key : Claim → List ℕ
key claim = key_by claim claim.what

-- the first claim stands no later than the second
abbrev pub goes_first : Claim → Claim → Bool
goes_first a b = no_later (key a) (key b)
