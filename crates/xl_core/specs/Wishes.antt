-- What the claims are once a wish for a cache is granted (MS-SMB2 3.3.5.9, RFC 7530 10.4).
use Rattle.std.specs.Prelude.{ℕ, Bool, true, not, ◌&&◌, ◌==◌, nat_lt, if◌then◌else◌, List, [], ◌∷◌, length, Option, Some, None, is_some, find}
use Rattle.xl_base.specs.declared.name.Party.{Party}
use Rattle.xl_cache.specs.Wishing.{wished_claim, is_its_cache, granted_kind}
use Rattle.xl_cache.specs.declared.wish.Wish.{Wish}
use Rattle.xl_matrix.specs.Equal.{same_parties}
use Rattle.xl_matrix.specs.declared.claim.CacheKind.{CacheKind}
use Rattle.xl_matrix.specs.declared.claim.Claim.{Claim}
use Rattle.xl_matrix.specs.declared.claim.What.{What}
use Rattle.xl_matrix.specs.declared.claim.What.TheVariants.{Cache}
use Rattle.xl_table.specs.Flat.{inserted, changed}
use Rattle.xl_table.specs.Relock.{most_claims}
use Rattle.xl_wait.specs.Waiting.{waits_on}
use Rattle.xl_core.specs.State.{CoreState}
use Rattle.xl_core.specs.declared.ask.Answer.{Answer}
use Rattle.xl_core.specs.declared.ask.Answer.TheVariants.{Granted}

-- there is room for the party's cache: it has this one on the file, or the table has room for one claim more (CACHE-9)
abbrev pub has_room : Option Claim → List Claim → Bool
has_room (Some own) held = true
has_room None held = nat_lt (length held) most_claims

-- Someone waits on the file for what the cache would keep from it. Who waits while grace runs waits for its end, and what is
-- granted then was held before.
abbrev pub is_waited_for : ℕ → CoreState → Bool
is_waited_for file s = not (is_some s.grace) && waits_on file s.waiters

-- The kind that the party is to have on the file from now on. A wish breaks nothing: it gets none if that takes a
-- break, nor if someone waits on the file or there is no room (CACHE-8, CACHE-9).
unfoldable pub wished_kind : Wish → CoreState → Option CacheKind
wished_kind wanted s = if is_waited_for wanted.file s then None else if has_room (find (is_its_cache wanted) s.claims) s.claims then granted_kind wanted s.claims else None

-- the claims once the party's cache on the file, if this is what it has there, is of this kind
abbrev pub cached : Wish → CacheKind → Option Claim → List Claim → List Claim
cached wanted kind None held = inserted (wished_claim wanted kind) held
cached wanted kind (Some own) held = changed own (Cache kind None) held

abbrev pub once_wished : Wish → Option CacheKind → List Claim → List Claim
once_wished wanted None held = held
once_wished wanted (Some kind) held = cached wanted kind (find (is_its_cache wanted) held) held

-- The wish is granted, as far as it may be: the party's cache on the file is of the kind that it gets. There is nothing to
-- tell.
unfoldable pub wish_granted : Wish → CoreState → CoreState
wish_granted wanted s = record s { claims = once_wished wanted (wished_kind wanted s) s.claims }

-- ---- the wish of one who asks

-- the wish for these kinds of who has the claim
abbrev pub wish_of : List CacheKind → Claim → Wish
wish_of kinds c = record { file = c.file; owner = c.owner; party = c.party; kinds = kinds }

-- the state once the wish for these kinds is granted of one who is answered so: of who is answered that this claim is
-- granted
abbrev pub wish_for : List CacheKind → Answer → CoreState → CoreState
wish_for kinds (Granted c) s = wish_granted (wish_of kinds c) s
wish_for kinds _ s = s

-- ---- what is held then

-- what is held then of a party's cache on a file, if the wish got this kind; or none if it leaves that
abbrev pub wished_at : Wish → Option CacheKind → ℕ → Party → Option (List What)
wished_at wanted None file party = None
wished_at wanted (Some kind) file party = if (wanted.file == file) && same_parties wanted.party party then Some (Cache kind None ∷ []) else None

-- of the caches those that are held then, if these are held before
abbrev pub caches_wished : List CacheKind → Answer → CoreState → List Claim → List Claim
caches_wished kinds (Granted c) s caches = once_wished (wish_of kinds c) (wished_kind (wish_of kinds c) s) caches
caches_wished kinds _ s caches = caches
