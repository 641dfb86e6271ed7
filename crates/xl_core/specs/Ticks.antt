-- What the clock does: it rises, breaks that nobody answered are over, leases are renewed by it, and clients whose lease
-- has ended expire (MS-SMB2 3.3.6.1, RFC 7530 9.5).
use Rattle.std.specs.Prelude.{ℕ, Bool, true, false, not, ◌||◌, if◌then◌else◌, List, [], ◌∷◌, ◌++◌, Option, Some, None}
use Rattle.xl_base.specs.Stable.{is_recorded}
use Rattle.xl_base.specs.declared.event.Moment.{Moment}
use Rattle.xl_base.specs.declared.name.Party.{Party}
use Rattle.xl_matrix.specs.declared.claim.Claim.{Claim}
use Rattle.xl_names.specs.declared.name.Name.TheVariants.{NfsParty}
use Rattle.xl_table.specs.Elements.{is_held}
use Rattle.xl_table.specs.Flat.{removed}
use Rattle.xl_core.specs.State.{CoreState}
use Rattle.xl_core.specs.Askers.{party_named}
use Rattle.xl_core.specs.BreakAnswers.{due, client_of}
use Rattle.xl_core.specs.Leases.{moment_after, later, with_lease, without_lease, ended, is_ended}
use Rattle.xl_core.specs.Settle.{end_party}
use Rattle.xl_core.specs.Stores.{may_store, stored, store_failed, client_name, without_name}
use Rattle.xl_grace.specs.Grace.{expired, is_over, shortened}
use Rattle.xl_core.specs.declared.ask.Effect.{Effect}
use Rattle.xl_core.specs.declared.ask.Effect.TheVariants.{Expired}

-- the clock reads this moment, if that is later; it never goes back (HOUSE-7)
unfoldable pub advanced : CoreState → Moment → CoreState
advanced s now = record s { clock = later s.clock now }

-- the client's lease runs for its whole length from now on; it has no effects
unfoldable pub renew : CoreState → List ℕ → List Effect × CoreState
renew s client = ([], record s { leases = with_lease client (moment_after s.clock s.times.lease) s.leases })

-- a party ends, if there is one
abbrev pub end_some : CoreState → Option Party → List Effect × CoreState
end_some s None = ([], s)
end_some s (Some party) = end_party s party

-- the client has no lease any more, and that is an effect behind those before
abbrev pub unleased : List ℕ → List Effect × CoreState → List Effect × CoreState
unleased client r = (r.0 ++ Expired client ∷ [], record r.1 { leases = without_lease client r.1.leases })

-- the client may reclaim no more in the grace that runs (RECORD-8)
unfoldable pub barred : CoreState → List ℕ → CoreState
barred s client = record s { grace = expired (client_name client) s.grace }

-- the client of this id string is gone: all that it has, its lease, and its right to reclaim; the number of its name stays
-- (HOUSE-8)
unfoldable pub gone_client : CoreState → List ℕ → List Effect × CoreState
gone_client s client = unleased client (end_some (barred s client) (party_named s.names (NfsParty client)))

-- the record lacks the client from now on, if it had it
abbrev pub forgotten : CoreState → List ℕ → CoreState
forgotten s client = if is_recorded (client_name client) s.stable.names then stored (without_name (client_name client) s.stable) s else s

-- the client expires: first the record without it is stored, if it had it, and then the client is gone
unfoldable pub expire : CoreState → List ℕ → List Effect × CoreState
expire s client = gone_client (forgotten s client) client

-- a client that the record has not expires without a store, and one that it has if the store succeeds, n of them in this step
abbrev pub may_expire : ℕ → CoreState → List ℕ → Bool
may_expire n s client = not (is_recorded (client_name client) s.stable.names) || may_store n s

-- the client expires, or all that it has stays, and the next reading of the clock tries again (RECORD-10)
unfoldable pub try_expire : ℕ → CoreState → List ℕ → List Effect × CoreState
try_expire n s client = if may_expire n s client then expire s client else ([], store_failed (without_name (client_name client) s.stable) s)

-- these effects come first
abbrev pub behind_told : List Effect → List Effect × CoreState → List Effect × CoreState
behind_told told r = (told ++ r.0, r.1)

-- each of these is done, one after another, that is still to be done once its turn has come
abbrev pub in_turn : {A : Type 0} → (CoreState → A → Bool) → (CoreState → A → List Effect × CoreState) → List A → CoreState → List Effect × CoreState
in_turn is_left does [] s = ([], s)
in_turn is_left does (x ∷ xs) s = if is_left s x then behind_told (does s x).0 (in_turn is_left does xs (does s x).1) else in_turn is_left does xs s

-- what comes of a cache whose deadline has passed, by whose delegation it is (CACHE-5)
abbrev pub lapsed_by : CoreState → Claim → Option (List ℕ) → List Effect × CoreState
lapsed_by s cache None = ([], record s { claims = removed cache s.claims })
lapsed_by s cache (Some client) = expire s client

-- a break is over without a store, but one of a client that expires
abbrev pub may_lapse_by : ℕ → CoreState → Option (List ℕ) → Bool
may_lapse_by n s None = true
may_lapse_by n s (Some client) = may_expire n s client

abbrev pub may_lapse : ℕ → CoreState → Claim → Bool
may_lapse n s cache = may_lapse_by n s (client_of s.names cache.party)

abbrev pub try_lapsed_by : ℕ → CoreState → Claim → Option (List ℕ) → List Effect × CoreState
try_lapsed_by n s cache None = lapsed_by s cache None
try_lapsed_by n s cache (Some client) = try_expire n s client

-- the break of the cache is over without an answer: an SMB cache goes (MS-SMB2 3.3.6.1), and the client expires that
-- didn't return its delegation (RFC 7530 10.4.6)
unfoldable pub lapse : CoreState → Claim → List Effect × CoreState
lapse s cache = lapsed_by s cache (client_of s.names cache.party)

-- it is, unless a store fails that is wanted first
unfoldable pub try_lapse : ℕ → CoreState → Claim → List Effect × CoreState
try_lapse n s cache = try_lapsed_by n s cache (client_of s.names cache.party)

-- the cache is still held, and not gone with its client
abbrev pub is_still_held : CoreState → Claim → Bool
is_still_held s cache = is_held cache s.claims

-- the client's lease has ended, and wasn't taken out yet
abbrev pub is_lease_over : CoreState → List ℕ → Bool
is_lease_over s client = is_ended s.clock s.leases client

-- the breaks are over whose deadline has come, in the order in which they are due
unfoldable pub lapse_all : ℕ → CoreState → List Effect × CoreState
lapse_all n s = in_turn is_still_held (try_lapse n) (due s) s

-- each client whose lease has ended expires, in the order of their id strings
unfoldable pub expire_all : ℕ → CoreState → List Effect × CoreState
expire_all n s = in_turn is_lease_over (try_expire n) (ended s.clock s.leases) s

-- the grace that runs is over: the record without the names that reclaimed nothing is stored, and from now on nobody reclaims
unfoldable pub end_grace : CoreState → CoreState
end_grace s = record (stored (shortened s.grace s.stable) s) { grace = None }

abbrev pub end_grace_if : Bool → CoreState → CoreState
end_grace_if true s = end_grace s
end_grace_if false s = store_failed (shortened s.grace s.stable) s

-- so it is once its end has come and the store succeeds; else grace goes on (RECORD-7)
unfoldable pub try_end_grace : ℕ → CoreState → CoreState
try_end_grace n s = if is_over s.grace s.clock then end_grace_if (may_store n s) s else s

-- The clock reads this moment, if that is later; then each break is over whose deadline has come; then each client
-- expires whose lease has ended (CACHE-5); then the grace that runs is over, if its end has come. n stores succeed.
unfoldable pub tick : ℕ → CoreState → Moment → List Effect × CoreState
tick n s now = let r = lapse_all n (advanced s now) in let q = expire_all n r.1 in (r.0 ++ q.0, try_end_grace n q.1)
