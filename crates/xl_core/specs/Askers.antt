-- Who asks: the numbers of names, which may still have to come, and the claim that an ask is for.
use Rattle.std.specs.Prelude.{◌≡◌, ℕ, ◌≤◌, ◌-◌, ◌^◌, ◌==◌, Bool, true, false, not, ◌&&◌, ◌||◌, if◌then◌else◌, List, [], ◌∷◌, map, Option, Some, None, option_map}
use Rattle.std.specs.List.{AllByRecursion}
use Rattle.xl_base.specs.declared.name.Owner.{Owner}
use Rattle.xl_base.specs.declared.name.Owner.TheVariants as owners
use Rattle.xl_base.specs.declared.name.Party.{Party}
use Rattle.xl_base.specs.declared.name.Party.TheVariants as parties
use Rattle.xl_cache.specs.Parties.{is_kind_of}
use Rattle.xl_cache.specs.Targets.{is_delegation}
use Rattle.xl_matrix.specs.declared.claim.CacheKind.{CacheKind}
use Rattle.xl_matrix.specs.declared.claim.Claim.{Claim}
use Rattle.xl_matrix.specs.declared.claim.Extent.{Extent}
use Rattle.xl_matrix.specs.declared.claim.Extent.TheVariants.{Bytes, Empty}
use Rattle.xl_matrix.specs.declared.claim.What.{What}
use Rattle.xl_matrix.specs.declared.claim.What.TheVariants as whats
use Rattle.xl_names.specs.Names.{protocol_of, same_name, number_of, place_of, is_kept, entered}
use Rattle.xl_names.specs.declared.name.Name.{Name}
use Rattle.xl_names.specs.declared.name.Name.TheVariants.{NlmRange, NlmShare, NlmParty, NfsRange, NfsShare, NfsParty, SmbLease}
use Rattle.xl_core.specs.declared.ask.Who.{Who}
use Rattle.xl_core.specs.declared.ask.Who.TheVariants.{Named, Open}
use Rattle.xl_core.specs.declared.ask.Act.{Act}
use Rattle.xl_core.specs.declared.ask.Act.TheVariants.{Share, Ranges, Test, Unlock, Wish}
use Rattle.xl_core.specs.declared.ask.Ask.{Ask}

-- ---- a client

-- the party of a client's name, if the name is kept
abbrev pub party_named : List Name → Name → Option Party
party_named names client = option_map (λ number. parties.Name (protocol_of client) number) (number_of client names)

-- ---- an ask that may enter its names

-- the owner and the party with the number that the name has, or gets when it comes
abbrev pub owner_in : Who → List Name → Owner
owner_in (Named name) names = owners.Name (protocol_of name) (place_of name names)
owner_in (Open number) names = owners.Open number

abbrev pub party_in : Who → List Name → Party
party_in (Named name) names = parties.Name (protocol_of name) (place_of name names)
party_in (Open number) names = parties.Open number

-- the names once this one came
abbrev pub who_entered : Who → List Name → List Name
who_entered (Named name) names = entered name names
who_entered (Open number) names = names

-- of an ask the owner comes first, then the party
abbrev pub asker : Ask → List Name → Owner
asker a names = owner_in a.owner names

abbrev pub asking_party : Ask → List Name → Party
asking_party a names = party_in a.party (who_entered a.owner names)

abbrev pub both_entered : Ask → List Name → List Name
both_entered a names = who_entered a.party (who_entered a.owner names)

-- how many names come with this one (CORE-9)
abbrev pub coming : Who → List Name → ℕ
coming (Named name) names = if is_kept name names then 0 else 1
coming (Open number) names = 0

abbrev pub range_what : Extent × Bool → What
range_what range = whats.Range range.0 range.1

-- what is to be held once the ask is granted, in order; nothing by a test, an unlock or a wish
abbrev pub asked_whats : Act → List What
asked_whats (Share access deny) = whats.Share access deny ∷ []
asked_whats (Ranges ranges) = map range_what ranges
asked_whats (Test extent exclusive) = []
asked_whats (Unlock extent) = []
asked_whats Wish = []

abbrev pub alone : List What → Option What
alone (what ∷ []) = Some what
alone _ = None

-- the same, if it is one thing
abbrev pub asked_what : Act → Option What
asked_what act = alone (asked_whats act)

-- the claim that the ask is for
abbrev pub asked_claim : Ask → What → List Name → Claim
asked_claim a what names = record { file = a.file; owner = asker a names; party = asking_party a names; what = what }

abbrev pub asked_claims : Ask → List What → List Name → List Claim
asked_claims a whats names = map (λ what. asked_claim a what names) whats

-- ---- an ask that enters no name

-- what stands for the number of a name that has none (CORE-9)
abbrev pub no_number : ℕ
no_number = 4294967295

abbrev pub number_or : Option ℕ → ℕ
number_or None = no_number
number_or (Some number) = number

abbrev pub known_owner : Who → List Name → Owner
known_owner (Named name) names = owners.Name (protocol_of name) (number_or (number_of name names))
known_owner (Open number) names = owners.Open number

abbrev pub known_party : Who → List Name → Party
known_party (Named name) names = parties.Name (protocol_of name) (number_or (number_of name names))
known_party (Open number) names = parties.Open number

-- the claim on a range that a test or an unlock is for (CORE-9)
abbrev pub known_claim : Ask → Extent → Bool → List Name → Claim
known_claim a extent exclusive names =
    record { file = a.file; owner = known_owner a.owner names; party = known_party a.party names; what = whats.Range extent exclusive }

-- ---- which asks the core takes

-- the client that an owner of POSIX ranges or of shares belongs to
abbrev pub client_of : Name → Option Name
client_of (NlmRange caller svid oh) = Some (NlmParty caller)
client_of (NlmShare caller oh) = Some (NlmParty caller)
client_of (NfsRange client owner) = Some (NfsParty client)
client_of (NfsShare client owner) = Some (NfsParty client)
client_of _ = None

abbrev pub is_name : Option Name → Name → Bool
is_name None name = false
is_name (Some client) name = same_name client name

-- the name is that of an SMB lease, which opens of one client on one file are under (MS-SMB2 3.3.1.12)
abbrev pub is_lease : Name → Bool
is_lease (SmbLease guid key) = true
is_lease _ = false

-- the party is the owner's client; that of an SMB open is itself, or the lease that it is under
abbrev pub is_client : Who → Who → Bool
is_client (Named owner) (Named party) = is_name (client_of owner) party
is_client (Open number) (Open other) = number == other
is_client (Open number) (Named party) = is_lease party
is_client _ _ = false

-- who asks has a name
abbrev pub is_named : Who → Bool
is_named (Named name) = true
is_named (Open number) = false

-- a share may be anyone's; a range with bytes one's who has a name, or an SMB open's if it hasn't all bytes; an empty
-- range is an SMB open's alone
abbrev pub may_hold : Who → What → Bool
may_hold who (whats.Share access deny) = true
may_hold who (whats.Range (Bytes first last) exclusive) = is_named who || not ((first == 0) && (last == 2 ^ 64 - 1))
may_hold who (whats.Range (Empty offset) exclusive) = not (is_named who)
may_hold who (whats.Cache kind running) = is_named who

-- each of these may be held
abbrev pub may_hold_all : Who → List (Extent × Bool) → Bool
may_hold_all who [] = true
may_hold_all who (range ∷ ranges) = may_hold who (range_what range) && may_hold_all who ranges

-- so may it be asked for; only who has a name tests
abbrev pub may_ask : Who → Act → Bool
may_ask who (Share access deny) = true
may_ask who (Ranges ranges) = may_hold_all who ranges
may_ask who (Test extent exclusive) = is_named who
may_ask who (Unlock extent) = true
may_ask who Wish = true

-- a range with its bytes in order
abbrev pub IsRealExtent : Extent → Type 0
IsRealExtent (Bytes first last) = first ≤ last
IsRealExtent (Empty offset) = ⊥

-- such a range, or one without bytes, which only an SMB open unlocks
abbrev pub IsOrdered : Extent → Type 0
IsOrdered (Bytes first last) = first ≤ last
IsOrdered (Empty offset) = Unit {0}

-- Of several ranges all are an SMB open's, and the ask waits for answers to breaks alone: a request with several locks of which
-- one may wait for what is held is refused before (MS-SMB2 3.3.5.14.2) (CORE-14).
abbrev pub AreMore : Who → Bool → List (Extent × Bool) → Type 0
AreMore who blocking [] = Unit {0}
AreMore who blocking (range ∷ ranges) = (is_named who ≡ false) × (blocking ≡ false) × IsOrdered range.0 × AreMore who blocking ranges

-- a share, ranges of which there is one at least, a test of one with bytes, an unlock of one, or a wish
abbrev pub IsFitAct : Who → Bool → Act → Type 0
IsFitAct who blocking (Share access deny) = Unit {0}
IsFitAct who blocking (Ranges []) = ⊥
IsFitAct who blocking (Ranges (range ∷ ranges)) = IsOrdered range.0 × AreMore who blocking ranges
IsFitAct who blocking (Test extent exclusive) = IsRealExtent extent
IsFitAct who blocking (Unlock extent) = IsOrdered extent
IsFitAct who blocking Wish = Unit {0}

-- such a party may have a cache of this kind (CACHE-1)
abbrev pub may_have : Who → CacheKind → Bool
may_have (Named name) kind = is_kind_of (parties.Name (protocol_of name) no_number) kind
may_have (Open number) kind = is_kind_of (parties.Open number) kind

-- it may wish for one, whether it waits or not: an NFSv4 client that wishes for a delegation never waits (RFC 7530
-- 16.16.5) (CACHE-10)
abbrev pub may_wish_for : Who → Bool → CacheKind → Bool
may_wish_for who waits kind = may_have who kind && not (waits && is_delegation kind)

-- A wish is for kinds that the party may have. It comes with a share, or by itself, for one kind at least, and is no reclaim
-- then; else there is none (CACHE-10).
abbrev pub IsFitWish : Who → Bool → Bool → Act → List CacheKind → Type 0
IsFitWish party waits reclaim (Share access deny) kinds = AllByRecursion (λ kind. may_wish_for party waits kind ≡ true) kinds
IsFitWish party waits reclaim (Ranges ranges) kinds = kinds ≡ []
IsFitWish party waits reclaim (Test extent exclusive) kinds = kinds ≡ []
IsFitWish party waits reclaim (Unlock extent) kinds = kinds ≡ []
IsFitWish party waits reclaim Wish [] = ⊥
IsFitWish party waits reclaim Wish (kind ∷ kinds) = (reclaim ≡ false) × AllByRecursion (λ other. may_wish_for party waits other ≡ true) (kind ∷ kinds)

-- Which asks the core takes: a client's by its name for a share, one range with bytes, a test, an unlock or a cache; and an SMB
-- open's, which is its own party or under a lease, for a share, for ranges, for the unlock of one, or for a cache (CORE-13).
pub record IsFit (a : Ask) : Type 0 where
  pub act : IsFitAct a.owner a.blocking a.act
  pub own : may_ask a.owner a.act ≡ true
  pub party : is_client a.owner a.party ≡ true
  pub wish : IsFitWish a.party (a.blocking || a.awaits) a.reclaim a.act a.wish
