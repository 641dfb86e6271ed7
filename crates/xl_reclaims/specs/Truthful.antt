-- Truthful reclaims: what one who reclaims may ask for is what it held before, by names, since numbers begin anew at a restart
-- (RFC 7530 9.6.2, 9.6.3; XNFS C702, NLM_LOCK).
use Rattle.std.specs.Prelude.{◌≡◌, ℕ, ◌≤◌, ◌==◌, ◌&&◌, Bool, true, false, List, Option, Some, None}
use Rattle.std.specs.List.{AllByRecursion, list_any, slice_get}
use Rattle.xl_base.specs.Lists.{Pairwise}
use Rattle.xl_base.specs.declared.name.Owner.{Owner}
use Rattle.xl_base.specs.declared.name.Owner.TheVariants as owners
use Rattle.xl_base.specs.declared.name.Party.{Party}
use Rattle.xl_base.specs.declared.name.Party.TheVariants as parties
use Rattle.xl_grace.specs.Grace.{Running, is_known}
use Rattle.xl_matrix.specs.Kinds.{kind_lies_within}
use Rattle.xl_matrix.specs.Matrix.{compat, lock_on, is_as_strong}
use Rattle.xl_matrix.specs.declared.claim.CacheKind.{CacheKind}
use Rattle.xl_matrix.specs.declared.claim.Claim.{Claim}
use Rattle.xl_matrix.specs.declared.claim.Extent.TheVariants.{Bytes, Empty}
use Rattle.xl_matrix.specs.declared.claim.What.{What}
use Rattle.xl_matrix.specs.declared.claim.What.TheVariants.{Share, Range, Cache}
use Rattle.xl_names.specs.Names.{same_name, AreDistinct}
use Rattle.xl_names.specs.declared.name.Name.{Name}
use Rattle.xl_core.specs.Askers.{asked_whats, asked_claim, asked_claims, both_entered}
use Rattle.xl_core.specs.Causes.{asks_claims}
use Rattle.xl_core.specs.Decide.{ask}
use Rattle.xl_core.specs.Deeds.{Deed, Asks}
use Rattle.xl_core.specs.Good.{IsHeld, is_single}
use Rattle.xl_core.specs.Settle.{share_has}
use Rattle.xl_core.specs.Standings.{asker_as}
use Rattle.xl_core.specs.State.{CoreState}
use Rattle.xl_core.specs.declared.ask.Answer.{Answer}
use Rattle.xl_core.specs.declared.ask.Answer.TheVariants.{Conflict, NoGrace, NotRecorded}
use Rattle.xl_core.specs.declared.ask.Ask.{Ask}

-- ---- what was held before

-- what was held at some moment: the claims, and the names that their numbers stood for
pub record Before : Type 0 where
  pub names : List Name
  pub claims : List Claim

-- what is held in this state
abbrev pub held_in : CoreState → Before
held_in s = record { names = s.names; claims = s.claims }

-- Claims that were held together: any two may be by the matrix, an owner has one share on a file and a party one cache, and each is
-- of a client known by name or of an SMB open.
pub record WereHeld (before : Before) : Type 0 where
  pub compatible : Pairwise compat before.claims
  pub single : Pairwise is_single before.claims
  pub known : AllByRecursion (IsHeld before.names) before.claims
  pub distinct : AreDistinct before.names

-- ---- by names

-- the name of an owner of NLM or NFSv4; an SMB open has none
abbrev pub owner_name : List Name → Owner → Option Name
owner_name names (owners.Name protocol number) = slice_get names number
owner_name names (owners.Open number) = None

-- the name of a client of NLM or NFSv4, or of an SMB lease
abbrev pub party_name : List Name → Party → Option Name
party_name names (parties.Name protocol number) = slice_get names number
party_name names (parties.Open number) = None

-- both have a name, and it is one
abbrev pub is_one_name : Option Name → Option Name → Bool
is_one_name (Some a) (Some b) = same_name a b
is_one_name _ _ = false

-- the claim that was held was on the file of this one, by an owner of the same name
abbrev pub is_by_owner : Before → List Name → Claim → Claim → Bool
is_by_owner before names c held = (held.file == c.file) && is_one_name (owner_name before.names held.owner) (owner_name names c.owner)

-- or by a party of the same name
abbrev pub is_by_party : Before → List Name → Claim → Claim → Bool
is_by_party before names c held = (held.file == c.file) && is_one_name (party_name before.names held.party) (party_name names c.party)

-- ---- within what was held before

-- a cache of this kind, or of a greater one
abbrev pub cache_has : What → CacheKind → Bool
cache_has (Cache other running) kind = kind_lies_within kind other
cache_has _ kind = false

-- a share of the owner had this access and deny
abbrev pub had_share : Before → List Name → Claim → What → Bool
had_share before names c (Share access deny) = list_any (λ held. is_by_owner before names c held && share_has held.what access deny) before.claims
had_share before names c what = false

-- a range of the owner had this byte, in this mode or the stronger one
abbrev pub had_byte : Before → List Name → Claim → Bool → ℕ → Bool
had_byte before names c exclusive byte = list_any (λ held. is_by_owner before names c held && is_as_strong exclusive (lock_on held byte)) before.claims

-- a cache of the party had this kind
abbrev pub had_cache : Before → List Name → Claim → CacheKind → Bool
had_cache before names c kind = list_any (λ held. is_by_party before names c held && cache_has held.what kind) before.claims

-- The claim, of these names, lies within what was held before: a share within the access and deny of its owner's, each byte of a
-- range within ranges of its owner, in no stronger mode, and a cache within its party's. A range without bytes is an SMB open's,
-- which has no name.
abbrev pub IsWithinBy : Before → List Name → Claim → What → Type 0
IsWithinBy before names c (Share access deny) = had_share before names c (Share access deny) ≡ true
IsWithinBy before names c (Range (Bytes first last) exclusive) = (byte : ℕ) → first ≤ byte → byte ≤ last → had_byte before names c exclusive byte ≡ true
IsWithinBy before names c (Range (Empty offset) exclusive) = ⊥
IsWithinBy before names c (Cache kind running) = had_cache before names c kind ≡ true

abbrev pub IsWithin : Before → List Name → Claim → Type 0
IsWithin before names c = IsWithinBy before names c c.what

-- a range with its bytes in order
abbrev pub IsInOrder : What → Type 0
IsInOrder (Range (Bytes first last) exclusive) = first ≤ last
IsInOrder what = Unit {0}

-- each of these claims lies within it
abbrev pub AreWithin : Before → List Name → List Claim → Type 0
AreWithin before names cs = AllByRecursion (λ c. IsWithin before names c) cs

-- while grace runs all that is held lies within what was held before
abbrev pub HoldsWithin : Before → CoreState → Type 0
HoldsWithin before s = (g : Running) → s.grace ≡ Some g → AreWithin before s.names s.claims

-- ---- reclaims

-- it asks for a share or for ranges as a reclaim, while grace runs
abbrev pub Reclaims : CoreState → Ask → Type 0
Reclaims s a = (g : Running) × (s.grace ≡ Some g) × (asks_claims a.act ≡ true) × (a.reclaim ≡ true)

-- A reclaim is truthful if the record has its client with a mark that agrees, and each share or range that it asks for, and each
-- delegation that it asks for with a share, lies within what the client held before, by names.
pub record IsTruthful (before : Before) (s : CoreState) (a : Ask) : Type 0 where
  pub recorded : is_known (asker_as a) s.stable.names ≡ true
  pub claims : AreWithin before (both_entered a s.names) (asked_claims a (asked_whats a.act) s.names)
  pub caches : AllByRecursion (λ kind. IsWithin before (both_entered a s.names) (asked_claim a (Cache kind None) s.names)) a.wish

-- so the deed is, if it is a reclaim
abbrev pub TellsTruth : Before → CoreState → Deed → Type 0
TellsTruth before s (Asks left a) = Reclaims s a → IsTruthful before s a
TellsTruth before s deed = Unit {0}

-- a reclaim is turned away by what is held, for want of its name in the record with its mark, or for want of a grace that runs
abbrev pub turns_away : Answer → Bool
turns_away (Conflict c) = true
turns_away NotRecorded = true
turns_away (NoGrace clock) = true
turns_away answer = false

-- the deed, if it is a reclaim, is not turned away
abbrev pub IsLetIn : ℕ → CoreState → Deed → Type 0
IsLetIn n s (Asks left a) = Reclaims s a → turns_away (ask n left s a).0 ≡ false
IsLetIn n s deed = Unit {0}
