-- What becomes of the leases and of the clock by what an entry does.
use Rattle.std.specs.Prelude.{ℕ, List, [], ◌∷◌, Option, Some, None}
use Rattle.xl_base.specs.declared.event.Event.{Event}
use Rattle.xl_base.specs.declared.event.Event.TheVariants.{Tick}
use Rattle.xl_base.specs.declared.event.Moment.{Moment}
use Rattle.xl_core.specs.State.{CoreState}
use Rattle.xl_core.specs.BreakAnswers.{client_of}
use Rattle.xl_core.specs.Deeds.{Deed, Lapses, Renews, Expires, done}
use Rattle.xl_core.specs.Leases.{Lease, moment_after, later, with_lease, without_lease}

-- ---- leases

-- without that of the client of this id string, if there is one
abbrev pub without_some : Option (List ℕ) → List Lease → List Lease
without_some None leases = leases
without_some (Some client) leases = without_lease client leases

-- The leases after one deed, of those that ran: that of a client that is renewed ends a whole lease time after the
-- clock, and that of one that expires is over, as it does if it left the recall of a delegation without an answer (RFC
-- 7530 9.5, 10.4.6).
abbrev pub leases_left : CoreState → Deed → List Lease → List Lease
leases_left s (Renews client) leases = with_lease client (moment_after s.clock s.times.lease) leases
leases_left s (Expires client) leases = without_lease client leases
leases_left s (Lapses cache) leases = without_some (client_of s.names cache.party) leases
leases_left s deed leases = leases

-- and after these, in order
abbrev pub leases_after : ℕ → CoreState → List Deed → List Lease → List Lease
leases_after n s [] leases = leases
leases_after n s (d ∷ ds) leases = leases_after n (done n s d) ds (leases_left s d leases)

-- ---- the clock

-- it shows what is read, if that is later, and else what it showed; no other event moves it
abbrev pub clock_after : Event → Moment → Moment
clock_after (Tick now) clock = later clock now
clock_after event clock = clock
