-- What the core's state keeps at each free moment.
use Rattle.std.specs.Prelude.{◌≡◌, ℕ, ◌≤◌, Bool, true, false, not, ◌&&◌, ◌||◌, ◌==◌, if◌then◌else◌, List, [], ◌∷◌, ◌++◌, length, Option, Some, None, is_some}
use Rattle.std.specs.List.{AllByRecursion, filter, slice_get}
use Rattle.xl_base.specs.Lists.{Pairwise}
use Rattle.xl_base.specs.Stable.{same_protocol}
use Rattle.xl_base.specs.declared.name.Owner.{Owner}
use Rattle.xl_base.specs.declared.name.Owner.TheVariants as owners
use Rattle.xl_base.specs.declared.name.Party.{Party}
use Rattle.xl_base.specs.declared.name.Party.TheVariants as parties
use Rattle.xl_base.specs.declared.name.Protocol.{Protocol}
use Rattle.xl_cache.specs.Parties.{is_kind_of, is_cache_of}
use Rattle.xl_cache.specs.Targets.{is_delegation}
use Rattle.xl_matrix.specs.Equal.{same_owners, same_parties}
use Rattle.xl_matrix.specs.Matrix.{compat}
use Rattle.xl_matrix.specs.Owners.{posix}
use Rattle.xl_matrix.specs.declared.claim.CacheKind.{CacheKind}
use Rattle.xl_matrix.specs.declared.claim.Claim.{Claim}
use Rattle.xl_matrix.specs.declared.claim.Extent.TheVariants.{Bytes}
use Rattle.xl_matrix.specs.declared.claim.What.{What}
use Rattle.xl_matrix.specs.declared.claim.What.TheVariants.{Share, Range, Cache}
use Rattle.xl_names.specs.Names.{protocol_of, AreDistinct, most_names}
use Rattle.xl_names.specs.declared.name.Name.{Name}
use Rattle.xl_table.specs.Held.{is_share, is_cache, may_own, IsKept, IsGrantable, IsShareOrLock}
use Rattle.xl_wait.specs.declared.waiter.Waiter.{Waiter}
use Rattle.xl_core.specs.State.{CoreState}
use Rattle.xl_core.specs.Askers.{client_of, is_name, is_lease}
use Rattle.xl_core.specs.Blockers.{is_stopped, is_in_line, first_broken, all_run}
use Rattle.xl_core.specs.declared.blockers.Passage.{Passage}
use Rattle.xl_core.specs.declared.blockers.Passage.TheVariants.{Barred, Open}
use Rattle.xl_core.specs.Judge.{IsRow}
use Rattle.xl_core.specs.Limits.{most_waiters}

-- ---- the claims

-- a range of a POSIX owner, with its bytes in order
abbrev pub IsRangeBy : What → Type 0
IsRangeBy (Range (Bytes first last) exclusive) = first ≤ last
IsRangeBy _ = ⊥

-- such a range of a POSIX owner
abbrev pub IsRange : Claim → Type 0
IsRange c = IsRangeBy c.what × (posix c.owner ≡ true)

-- the two names are of these protocols, and the party's is the owner's client
abbrev pub agree : Protocol → Protocol → Option Name → Option Name → Bool
agree protocol other (Some owner) (Some party) = same_protocol protocol (protocol_of owner) && (same_protocol other (protocol_of party) && is_name (client_of owner) party)
agree protocol other _ _ = false

-- a name of this protocol is an SMB lease's
abbrev pub is_lease_of : Protocol → Option Name → Bool
is_lease_of protocol None = false
is_lease_of protocol (Some name) = same_protocol protocol (protocol_of name) && is_lease name

-- the owner's name and the party's are kept, and the party is the owner's client; an SMB open has no name, and is its own
-- party, or under a lease whose name is kept
abbrev pub are_kept : List Name → Owner → Party → Bool
are_kept names (owners.Name protocol number) (parties.Name other at) = agree protocol other (slice_get names number) (slice_get names at)
are_kept names (owners.Open number) (parties.Open other) = number == other
are_kept names (owners.Open number) (parties.Name protocol at) = is_lease_of protocol (slice_get names at)
are_kept names _ _ = false

-- a share of a client that is known by name or of an open, or a real range of such a client: what may be asked for, and
-- waited for
abbrev pub IsKnown : List Name → Claim → Type 0
IsKnown names c = IsGrantable c × (are_kept names c.owner c.party ≡ true)

-- what a party may hold: a share, a range with its bytes in order, or a cache of one of its protocol's kinds, whose
-- break, if one runs, leaves less
abbrev pub IsHeldBy : Party → What → Type 0
IsHeldBy party (Share access deny) = Unit {0}
IsHeldBy party (Range extent exclusive) = IsShareOrLock (Range extent exclusive)
IsHeldBy party (Cache kind running) = is_cache_of party kind running ≡ true

-- such a claim of a client that is known by name, or of an open
abbrev pub IsHeld : List Name → Claim → Type 0
IsHeld names c = (IsHeldBy c.party c.what × (may_own c.owner c.what ≡ true)) × (are_kept names c.owner c.party ≡ true)

-- two claims may stand beside each other as far as an owner has one share on a file, and a party one cache
abbrev pub is_single_by : Claim → Claim → What → What → Bool
is_single_by a b (Share access deny) (Share rights denied) = not (same_owners a.owner b.owner)
is_single_by a b (Cache kind running) (Cache other due) = not (same_parties a.party b.party)
is_single_by a b _ _ = true

-- the two stand on two files, or there as far as an owner has one share and a party one cache
abbrev pub is_single : Claim → Claim → Bool
is_single a b = not (a.file == b.file && not (is_single_by a b a.what b.what))

-- ---- the waiters

-- the two wait under two numbers
abbrev pub are_apart : Waiter → Waiter → Bool
are_apart v w = not (v.id == w.id)

-- claims on one file that may be asked for in one request, of which there is one at least
abbrev pub IsPled : List Claim → Type 0
IsPled [] = ⊥
IsPled (c ∷ cs) = IsRow (c ∷ cs) × AllByRecursion (λ d. d.file ≡ c.file) cs

-- the caches for which one wishes who waits for these: with a share alone, of kinds that its party may have, and no delegations
abbrev pub IsWished : List CacheKind → List Claim → Type 0
IsWished kinds [] = Unit {0}
IsWished kinds (c ∷ cs) = AllByRecursion (λ kind. (is_kind_of c.party kind ≡ true) × (is_share c.what ≡ true) × (is_delegation kind ≡ false)) kinds

-- one who waits, under a number that was given out, for shares or ranges
abbrev pub IsWaiter : List Name → ℕ → Waiter → Type 0
IsWaiter names counter w = (w.id ≤ counter) × AllByRecursion (IsKnown names) w.asked × IsPled w.asked × IsWished w.wish w.asked

-- ---- the state

-- The claims stand in the table's order, each POSIX owner's ranges on a file as sorted maximal runs (kept); any two may
-- be held together by the matrix; an owner has one share on a file and a party one cache; each is a share, a real range or
-- a cache that its party may have, of a client known by name or of an open. The waiters are known too, wait for shares and
-- ranges, have numbers of their own, and are 1,024 at most.
pub record IsGood (s : CoreState) : Type 0 where
  pub kept : IsKept s.claims
  pub compatible : Pairwise compat s.claims
  pub single : Pairwise is_single s.claims
  pub known : AllByRecursion (IsHeld s.names) s.claims
  pub waiters : AllByRecursion (IsWaiter s.names s.counter) s.waiters
  pub apart : Pairwise are_apart s.waiters
  pub crowd : length s.waiters ≤ most_waiters
  pub distinct : AreDistinct s.names
  pub few : length s.names ≤ most_names

-- the state with these claims
abbrev pub holding : CoreState → List Claim → CoreState
holding s cs = record s { claims = cs }

-- the caches among these
abbrev pub caches_of : List Claim → List Claim
caches_of cs = filter (λ c. is_cache c.what) cs

-- the caches except that of this party on this file
abbrev pub caches_but : ℕ → Party → List Claim → List Claim
caches_but file party caches = filter (λ c. not (is_cache c.what && ((c.file == file) && same_parties c.party party))) caches

abbrev pub caches_beside : ℕ → Party → List Claim → List Claim
caches_beside file party cs = caches_but file party (caches_of cs)

-- ---- nobody is forgotten

-- each of these waiters is so behind those before it, the first of them behind the earlier ones
abbrev pub AllBehind : (List Waiter → Waiter → Type 0) → List Waiter → List Waiter → Type 0
AllBehind P earlier [] = Unit {0}
AllBehind P earlier (w ∷ ws) = P earlier w × AllBehind P (earlier ++ w ∷ []) ws

-- Whether the claim of one who waits behind these is held up: something is in its way, held or asked for by one of them; if that
-- blocks it for good the waiter waits for it, and else for the answers to breaks, all of which run.
abbrev pub is_held_up : List Waiter → CoreState → Waiter → Claim → Bool
is_held_up earlier s w c = is_in_line earlier s c && (if is_stopped earlier s c then w.blocking else all_run s.claims c)

-- so it is where the way of its claim, in which something is, stands so
abbrev pub holds_back : Waiter → Passage → Bool
holds_back w (Barred c) = w.blocking
holds_back w (Open plan) = not (is_some (first_broken plan.breaks))

-- the test holds of the first of these
abbrev pub of_first : (Claim → Bool) → List Claim → Bool
of_first test [] = false
of_first test (c ∷ cs) = test c

-- grace runs, for whose end all who wait are waiting, or of several claims the first is held up
abbrev pub holds_up : List Waiter → CoreState → Waiter → List Claim → Bool
holds_up earlier s w asked = is_some s.grace || of_first (λ c. is_held_up earlier s w c) asked

-- the waiter is held up behind these
abbrev pub IsUp : CoreState → List Waiter → Waiter → Type 0
IsUp s earlier w = holds_up earlier s w w.asked ≡ true

-- each waiter is held up behind those before it
abbrev pub IsSettled : CoreState → Type 0
IsSettled s = AllBehind (IsUp s) [] s.waiters
