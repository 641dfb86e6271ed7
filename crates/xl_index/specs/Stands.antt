-- On which files someone stands: a party with all that it has, an SMB open with what it owns.
use Rattle.std.specs.Prelude.{◌≡◌, ◌≢◌, ℕ, ◌+◌, ◌*◌, Bool, true, false, ◌==◌, ◌&&◌, ◌||◌, nat_lt, List, Option, Some, None}
use Rattle.std.specs.BTreeMap.{BTreeMap, get}
use Rattle.std.specs.List.{AllByRecursion, list_any}
use Rattle.std.specs.Option.{unwrap_or}
use Rattle.std.specs.declared.cmp.Ordering.{Ordering}
use Rattle.std.specs.declared.ops.Bound.{Bound}
use Rattle.std.specs.declared.ops.Bound.TheVariants.{Included, Excluded}
use Rattle.std.specs.Ordering.{nat_cmp, on, then_cmp}
use Rattle.xl_base.specs.declared.name.Owner.{Owner}
use Rattle.xl_base.specs.declared.name.Owner.TheVariants as owners
use Rattle.xl_base.specs.declared.name.Party.{Party}
use Rattle.xl_base.specs.declared.name.Party.TheVariants as parties
use Rattle.xl_base.specs.declared.name.Protocol.{Protocol}
use Rattle.xl_base.specs.declared.name.Protocol.TheVariants.{Nlm, Nfs, Smb}
use Rattle.xl_matrix.specs.declared.claim.Claim.{Claim}
use Rattle.xl_index.specs.Totals.{one}
use Rattle.xl_index.specs.declared.stands.Stand.{Stand}

-- a number for each who may stand: no two have the same (TABLE-14)
abbrev pub kind_of : Protocol → ℕ
kind_of Nlm = 0
kind_of Nfs = 1
kind_of Smb = 2

abbrev pub who_opens : ℕ → ℕ
who_opens number = 3 * 4294967296 + number

abbrev pub who_of : Party → ℕ
who_of (parties.Name protocol number) = kind_of protocol * 4294967296 + number
who_of (parties.Open number) = who_opens number

-- stands in order: by who, then by file
abbrev pub stand_cmp : Stand → Stand → Ordering
stand_cmp = then_cmp (on (λ s. s.who) nat_cmp) (on (λ s. s.file) nat_cmp)

-- it stands here
abbrev pub is_here : Stand → ℕ → ℕ → Bool
is_here at who file = (at.who == who) && (at.file == file)

-- an SMB open stands here, and owns
abbrev pub owned_here : Stand → ℕ → Owner → ℕ
owned_here at file (owners.Open number) = one (is_here at (who_opens number) file)
owned_here at file (owners.Name protocol number) = 0

-- how often a claim is counted at a stand: for its party, and for the SMB open that owns it
abbrev pub bears : Stand → Claim → ℕ
bears at c = one (is_here at (who_of c.party) c.file) + owned_here at c.file c.owner

-- how many are counted there, by a map
abbrev pub many_at : BTreeMap Stand ℕ → Stand → ℕ
many_at stands at = unwrap_or (get stand_cmp stands at) 0

-- no stand is kept at which none is counted (TABLE-14)
abbrev pub AreTold : BTreeMap Stand ℕ → Type 0
AreTold stands = (at : Stand) → get stand_cmp stands at ≢ Some 0

-- so many more are counted now at one stand, and at each other as many as before
abbrev pub ComesOne : BTreeMap Stand ℕ → BTreeMap Stand ℕ → ℕ → ℕ → Type 0
ComesOne old new who file = (at : Stand) → many_at new at ≡ one (is_here at who file) + many_at old at

-- the claim is this one's: its party's, or owned by its SMB open
abbrev pub owned_by : ℕ → Owner → Bool
owned_by who (owners.Open number) = who_opens number == who
owned_by who (owners.Name protocol number) = false

abbrev pub is_by : ℕ → Claim → Bool
is_by who c = (who_of c.party == who) || owned_by who c.owner

-- the file stands behind this one, if there is one
abbrev pub is_past : Option ℕ → ℕ → Bool
is_past None file = true
is_past (Some past) file = nat_lt past file

-- the claim is this one's, and on a file past that
abbrev pub is_ahead : ℕ → Option ℕ → Claim → Bool
is_ahead who past c = is_by who c && is_past past c.file

-- some of these claims are on this file
abbrev pub any_on : (Claim → Bool) → ℕ → List Claim → Bool
any_on these file cs = list_any (λ c. these c && (c.file == file)) cs

-- the first file past one on which someone stands: some of its claims are on it, and none is on one between; or none on any
abbrev pub IsNext : Option ℕ → ℕ → Option ℕ → List Claim → Type 0
IsNext (Some file) who past cs = (is_past past file ≡ true) × AllByRecursion (λ c. (is_ahead who past c && nat_lt c.file file) ≡ false) cs × (any_on (is_by who) file cs ≡ true)
IsNext None who past cs = AllByRecursion (λ c. is_ahead who past c ≡ false) cs

-- where the stands past a file begin
abbrev pub first_past : ℕ → Option ℕ → Bound Stand
first_past who None = Included (record { who = who; file = 0 })
first_past who (Some past) = Excluded (record { who = who; file = past })
