-- How the code finds who stands in front of a claim, and what it carries from one look at a way to the next: no definition of an answer
-- stands on these.
use Rattle.std.specs.Prelude.{◌≡◌, ℕ, Bool, true, false, ◌==◌, List, [], ◌∷◌, Option, Some}
use Rattle.xl_matrix.specs.declared.claim.Claim.{Claim}
use Rattle.xl_wait.specs.Waiting.{waiting_on}
use Rattle.xl_wait.specs.declared.waiter.Waiter.{Waiter}
use Rattle.xl_core.specs.Blockers.{before_number, passage_of}
use Rattle.xl_core.specs.State.{CoreState}
use Rattle.xl_core.specs.declared.blockers.Front.{Front}
use Rattle.xl_core.specs.declared.blockers.Front.TheVariants.{Nobody, Everybody, Before}
use Rattle.xl_core.specs.declared.blockers.Passage.{Passage}
use Rattle.xl_core.specs.declared.standings.Standing.{Standing}
use Rattle.xl_core.specs.declared.standings.Standing.TheVariants.{Reclaims}

-- of these those who stand in front
abbrev pub in_front_of : Front → List Waiter → List Waiter
in_front_of Nobody ws = []
in_front_of Everybody ws = ws
in_front_of (Before id) ws = before_number id ws

-- they end before the waiter of this number
abbrev pub ends_at : Front → ℕ → Bool
ends_at Nobody id = true
ends_at Everybody id = false
ends_at (Before own) id = id == own

-- who stands in front of this claim on its file is found in the file's queue: the one of this number, if one is named, waits there
-- too
abbrev pub IsInLine : Front → List Waiter → Claim → Type 0
IsInLine front ws c = waiting_on c.file (in_front_of front ws) ≡ in_front_of front (waiting_on c.file ws)

-- nobody stands in front of one who reclaims
abbrev pub front_by : Standing → Front → Front
front_by Reclaims front = Nobody
front_by _ front = front

-- so stands the way of the first of these behind these waiters, if that is known
abbrev pub IsKnown : List Waiter → Option Passage → CoreState → List Claim → Type 0
IsKnown earlier (Some passage) s (c ∷ cs) = passage ≡ passage_of earlier s c
IsKnown earlier _ s cs = Unit {0}
