-- Places where something is held, and what a deed makes of each.
use Rattle.std.specs.Prelude.{◌≡◌, ℕ, Bool, true, false, not, ◌&&◌, ◌==◌, if◌then◌else◌, List, [], ◌∷◌, ◌++◌, map, Option, Some, None}
use Rattle.std.specs.List.{filter, list_any}
use Rattle.xl_base.specs.declared.name.Owner.{Owner}
use Rattle.xl_base.specs.declared.name.Owner.TheVariants as owners
use Rattle.xl_base.specs.declared.name.Party.{Party}
use Rattle.xl_matrix.specs.Equal.{same_owners, same_parties}
use Rattle.xl_matrix.specs.declared.claim.CacheKind.{CacheKind}
use Rattle.xl_matrix.specs.declared.claim.Claim.{Claim}
use Rattle.xl_matrix.specs.Owners.{posix}
use Rattle.xl_matrix.specs.declared.claim.Extent.{Extent}
use Rattle.xl_matrix.specs.declared.claim.Extent.TheVariants.{Bytes}
use Rattle.xl_matrix.specs.declared.claim.Rwd.{Rwd}
use Rattle.xl_matrix.specs.declared.claim.What.{What}
use Rattle.xl_matrix.specs.declared.claim.What.TheVariants as whats
use Rattle.xl_spans.specs.Spans.{within, mode_at}
use Rattle.xl_spans.specs.declared.span.Mode.{Mode}
use Rattle.xl_table.specs.Elements.{elements_of, unlocked_elements}
use Rattle.xl_table.specs.Flat.{with_what}
use Rattle.xl_table.specs.Held.{is_cache, is_of, spans_of}
use Rattle.xl_table.specs.Leaving.{is_some_party}
use Rattle.xl_names.specs.declared.name.Name.TheVariants.{NfsParty}
use Rattle.xl_cache.specs.declared.wish.Wish.{Wish}
use Rattle.xl_wait.specs.declared.waiter.Rooms.{Rooms}
use Rattle.xl_core.specs.State.{CoreState}
use Rattle.xl_core.specs.BreaksBegun.{begun_at}
use Rattle.xl_core.specs.Decide.{way, before_wish, does_wish, ask}
use Rattle.xl_core.specs.Wishes.{wished_kind, wish_of, wished_at}
use Rattle.xl_core.specs.Leases.{moment_after}
use Rattle.xl_core.specs.Settle.{next_way}
use Rattle.xl_core.specs.Askers.{party_named, range_what}
use Rattle.xl_core.specs.BreakAnswers.{client_of}
use Rattle.xl_core.specs.Deeds.{wish_by_number, asked_by, once_served, Deed, Asks, GivesBack, Weakens, Acks, Ends, Serves, Lapses, Expires, Closes, given, done}
use Rattle.xl_table.specs.Relock.{is_exclusive, is_range_of, shares_of, old_shares, united_by, granted_claims}
use Rattle.xl_core.specs.declared.ask.Act.{Act}
use Rattle.xl_core.specs.declared.ask.Act.TheVariants as acts
use Rattle.xl_core.specs.declared.ask.Answer.{Answer}
use Rattle.xl_core.specs.declared.ask.Answer.TheVariants.{Granted}
use Rattle.xl_core.specs.declared.ask.Ask.{Ask}
use Rattle.xl_core.specs.declared.ask.Effect.{Effect}
use Rattle.xl_core.specs.declared.ask.Effect.TheVariants.{Served}

-- ---- places

-- a byte of a file as its POSIX owner may have it locked; an owner's share of a file; the ranges of an SMB open on a file,
-- which stand one by one; a party's cache of a file (CORE-8)
pub data Place : Type 0 where
  ByteOf : ℕ → Owner → ℕ → Place
  ShareOf : ℕ → Owner → Place
  RangesOf : ℕ → ℕ → Place
  CacheOf : ℕ → Party → Place

abbrev pub byte_held : Owner → ℕ → Option Mode → List What
byte_held owner byte None = []
byte_held owner byte (Some mode) = if posix owner then whats.Range (Bytes byte byte) (is_exclusive mode) ∷ [] else []

abbrev pub share_held : Rwd × Rwd → What
share_held share = whats.Share share.0 share.1

-- the claim is a cache that this party has on this file
abbrev pub is_cache_on : ℕ → Party → Claim → Bool
is_cache_on file party c = is_cache c.what && ((c.file == file) && same_parties c.party party)

abbrev pub held_in : List Claim → Place → List What
held_in claims (ByteOf file owner byte) = byte_held owner byte (mode_at (spans_of file owner claims) byte)
held_in claims (ShareOf file owner) = map share_held (shares_of file owner claims)
held_in claims (RangesOf file number) = elements_of file (owners.Open number) claims
held_in claims (CacheOf file party) = map (λ c. c.what) (filter (is_cache_on file party) claims)

-- what is held there: nothing, the lock of that one byte, the share, the open's ranges as they were locked, or the cache
-- with the break of it that runs
abbrev pub held_at : CoreState → Place → List What
held_at s p = held_in s.claims p

-- ---- a claim at a place

-- the claim is one of the place's owner, on its file, or the cache of the place's party there
abbrev pub is_at : Place → Claim → Bool
is_at (ByteOf file owner byte) c = is_of file owner c
is_at (ShareOf file owner) c = is_of file owner c
is_at (RangesOf file number) c = is_of file (owners.Open number) c
is_at (CacheOf file party) c = is_cache_on file party c

abbrev pub part_by : What → Place → List What
part_by (whats.Range (Bytes first last) exclusive) (ByteOf file owner byte) = if posix owner && within first last byte then whats.Range (Bytes byte byte) exclusive ∷ [] else []
part_by (whats.Share access deny) (ShareOf file owner) = whats.Share access deny ∷ []
part_by (whats.Cache kind running) (CacheOf file party) = whats.Cache kind running ∷ []
part_by _ _ = []

-- what of the claim is held at the place
abbrev pub part_of : Claim → Place → List What
part_of c p = if is_at p c then part_by c.what p else []

abbrev pub entered_by : List What → Option (List What)
entered_by [] = None
entered_by (what ∷ rest) = Some (what ∷ rest)

-- a share as it is held once it is entered among these: united with its owner's if it is NFSv4's (CORE-15)
abbrev pub held_as : List Claim → Claim → What → What
held_as held c (whats.Share access deny) = united_by c.owner (whats.Share access deny) (old_shares c.file c.owner held)
held_as held c what = what

-- a claim that is entered is held then at each place that it reaches, whatever was there except for a share that it is
-- united with; a range of an SMB open is held once more, behind its others
abbrev pub entered_at : List Claim → Claim → Place → Option (List What)
entered_at held c (ByteOf file owner byte) = entered_by (if is_of file owner c then part_by (held_as held c c.what) (ByteOf file owner byte) else [])
entered_at held c (ShareOf file owner) = entered_by (if is_of file owner c then part_by (held_as held c c.what) (ShareOf file owner) else [])
entered_at held c (RangesOf file number) = if is_range_of file (owners.Open number) c then Some (elements_of file (owners.Open number) held ++ c.what ∷ []) else None
entered_at held c (CacheOf file party) = None

abbrev pub then_entered : Option (List What) → Option (List What) → Option (List What)
then_entered first None = first
then_entered first (Some later) = Some later

-- claims that are entered, one after another
abbrev pub all_entered_at : List Claim → List Claim → Place → Option (List What)
all_entered_at held [] p = None
all_entered_at held (c ∷ cs) p = then_entered (entered_at held c p) (all_entered_at (granted_claims c held) cs p)

abbrev pub cleared_by : List What → Option (List What)
cleared_by [] = None
cleared_by (what ∷ rest) = Some []

-- a claim that is taken out leaves nothing there
abbrev pub cleared_at : Claim → Place → Option (List What)
cleared_at c p = cleared_by (part_of c p)

-- a share that is made weaker is this one at its owner's place
abbrev pub weakened_at : Claim → Rwd → Rwd → Place → Option (List What)
weakened_at share access deny p = entered_by (part_of (with_what share (whats.Share access deny)) p)

-- of a cache whose break is answered this much is left at its party's place
abbrev pub acked_at : Claim → Option CacheKind → Place → Option (List What)
acked_at cache None p = cleared_at cache p
acked_at cache (Some kind) p = entered_by (part_of (with_what cache (whats.Cache kind None)) p)

-- ---- what a deed makes of a place, or none if it leaves it

abbrev pub entered_for : List Claim → Answer → Place → Option (List What)
entered_for held (Granted c) p = entered_at held c p
entered_for held answer p = None

-- the claims that are asked for if this is the first of them
abbrev pub claims_like : Claim → List (Extent × Bool) → List Claim
claims_like c ranges = map (λ range. with_what c (range_what range)) ranges

abbrev pub all_entered_for : List Claim → List (Extent × Bool) → Answer → Place → Option (List What)
all_entered_for held ranges (Granted c) p = all_entered_at held (claims_like c ranges) p
all_entered_for held ranges answer p = None

-- an unlock clears its bytes; of an SMB open it takes out one element
abbrev pub unlocked_at : List Claim → Extent → Claim → Place → Option (List What)
unlocked_at held extent c (ByteOf file owner byte) = cleared_at c (ByteOf file owner byte)
unlocked_at held extent c (ShareOf file owner) = None
unlocked_at held extent c (CacheOf file party) = None
unlocked_at held extent c (RangesOf file number) = if is_of file (owners.Open number) c then Some (unlocked_elements extent (elements_of file (owners.Open number) held)) else None

abbrev pub unlocked_for : List Claim → Extent → Answer → Place → Option (List What)
unlocked_for held extent (Granted c) p = unlocked_at held extent c p
unlocked_for held extent answer p = None

-- a granted share or lock is entered, of several ranges each; a granted unlock clears its range; a test, a wish by itself and any
-- other answer leave all
abbrev pub answered_at : List Claim → Act → Answer → Place → Option (List What)
answered_at held (acts.Share access deny) answer p = entered_for held answer p
answered_at held (acts.Ranges ranges) answer p = all_entered_for held ranges answer p
answered_at held (acts.Test extent exclusive) answer p = None
answered_at held (acts.Unlock extent) answer p = unlocked_for held extent answer p
answered_at held acts.Wish answer p = None

-- a party that ends leaves at a place where it has something what is not its own there
abbrev pub ended_at : List Claim → Party → Place → Option (List What)
ended_at claims party p = if list_any (λ c. if is_at p c then same_parties c.party party else false) claims then Some (held_in (filter (λ c. not (same_parties c.party party)) claims) p) else None

abbrev pub cleared_if : Bool → Option (List What)
cleared_if true = Some []
cleared_if false = None

-- an SMB open that is closed leaves neither its share nor its ranges, and nothing of the caches that go with it
abbrev pub closed_at : ℕ → Option Party → Place → Option (List What)
closed_at number party (ByteOf file owner byte) = None
closed_at number party (ShareOf file owner) = cleared_if (same_owners owner (owners.Open number))
closed_at number party (RangesOf file other) = cleared_if (other == number)
closed_at number party (CacheOf file holder) = cleared_if (is_some_party party holder)

abbrev pub ended_some : List Claim → Option Party → Place → Option (List What)
ended_some claims None p = None
ended_some claims (Some party) p = ended_at claims party p

-- a cache whose deadline passed is gone, or its client has expired
abbrev pub lapsed_at : CoreState → Claim → Option (List ℕ) → Place → Option (List What)
lapsed_at s cache None p = cleared_at cache p
lapsed_at s cache (Some client) p = ended_some s.claims (party_named s.names (NfsParty client)) p

abbrev pub served_at : List Claim → List Claim → Answer → Place → Option (List What)
served_at held asked (Granted c) p = all_entered_at held asked p
served_at held asked answer p = None

-- a waiter that is granted what it waited for has all of that
abbrev pub told_at : CoreState → List Effect → Place → Option (List What)
told_at s [] p = None
told_at s (Served party id answer ∷ effects) p = served_at s.claims (asked_by id s.waiters) answer p
told_at s (effect ∷ effects) p = told_at s effects p

-- a wish that gets a kind leaves the party's cache on the file at that kind
abbrev pub wish_at : Wish → CoreState → Place → Option (List What)
wish_at wanted s (CacheOf file party) = wished_at wanted (wished_kind wanted s) file party
wish_at wanted s p = None

abbrev pub wished_for : List CacheKind → Answer → CoreState → Place → Option (List What)
wished_for kinds (Granted c) s p = wish_at (wish_of kinds c) s p
wished_for kinds answer s p = None

-- so does that of an ask that is granted
abbrev pub wished_by : ℕ → Rooms → CoreState → Ask → Place → Option (List What)
wished_by n left s a p = if does_wish a.act then wished_for a.wish (ask n left s a).0 (before_wish n left s a).2 p else None

-- and that of a waiter that is granted what it waited for
abbrev pub wished_then : CoreState → List Effect → Place → Option (List What)
wished_then s [] p = None
wished_then s (Served party id answer ∷ effects) p = wished_for (wish_by_number id s.waiters) answer (once_served s id answer) p
wished_then s (effect ∷ effects) p = wished_then s effects p

-- of a cache of whose break these tell there is left what that says
abbrev pub broken_at : CoreState → List Effect → Place → Option (List What)
broken_at s told (CacheOf file party) = begun_at (moment_after s.clock s.times.break_time) file party told
broken_at s told p = None

-- what the deed makes of the place: of an ask or a turn first the breaks that began, then what was granted, then the wish
abbrev pub made : ℕ → CoreState → Deed → Place → Option (List What)
made n s (Asks left a) p = then_entered (then_entered (broken_at s (way left s a).0 p) (answered_at (way left s a).1.claims a.act (ask n left s a).0 p)) (wished_by n left s a p)
made n s (GivesBack claim) p = cleared_at claim p
made n s (Weakens share access deny) p = weakened_at share access deny p
made n s (Acks cache to) p = acked_at cache to p
made n s (Ends party) p = ended_at s.claims party p
made n s (Serves left) p = then_entered (then_entered (broken_at s (next_way s).0 p) (told_at (next_way s).1 (given n s (Serves left)).1 p)) (wished_then (next_way s).1 (given n s (Serves left)).1 p)
made n s (Lapses cache) p = lapsed_at s cache (client_of s.names cache.party) p
made n s (Expires client) p = ended_some s.claims (party_named s.names (NfsParty client)) p
made n s (Closes number party) p = closed_at number party p
made n s d p = None

abbrev pub else_was : Option (List What) → List What → List What
else_was None had = had
else_was (Some has) had = has

-- what stands at the place after these deeds, if this stood before: what the last that reaches it made of it
abbrev pub stands : ℕ → CoreState → List Deed → Place → List What → List What
stands n s [] p had = had
stands n s (d ∷ ds) p had = stands n (done n s d) ds p (else_was (made n s d p) had)

-- at each place there is what the deeds made of it
abbrev pub IsChangedBy : ℕ → CoreState → List Deed → CoreState → Type 0
IsChangedBy n s ds t = (p : Place) → held_at t p ≡ stands n s ds p (held_at s p)
