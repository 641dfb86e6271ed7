-- Whose deeds they are.
use Rattle.std.specs.Prelude.{◌≡◌, Option, Some, None}
use Rattle.std.specs.List.{slice_get}
use Rattle.xl_base.specs.Lists.{IsIn}
use Rattle.xl_matrix.specs.declared.claim.Claim.{Claim}
use Rattle.xl_names.specs.declared.name.Name.{Name}
use Rattle.xl_names.specs.declared.name.Name.TheVariants.{NfsParty}
use Rattle.xl_wait.specs.declared.waiter.Waiter.{Waiter}
use Rattle.xl_core.specs.State.{CoreState}
use Rattle.xl_core.specs.Askers.{party_named}
use Rattle.xl_core.specs.Deeds.{Deed, Asks, GivesBack, Weakens, Cancels, Ends, Renews}
use Rattle.xl_core.specs.declared.ask.Who.TheVariants.{Named}

-- the deed is this client's: it asks as this party, gives back what this party has, makes a share of it weaker, takes out
-- whoever waits for it, ends it, or renews its lease; turns, numbers, the clock and who expires are nobody's
abbrev pub IsOf : CoreState → Name → Deed → Type 0
IsOf s client (Asks left a) = a.party ≡ Named client
IsOf s client (GivesBack claim) = party_named s.names client ≡ Some claim.party
IsOf s client (Weakens share access deny) = party_named s.names client ≡ Some share.party
IsOf s client (Cancels id) = (w : Waiter) (c : Claim) → IsIn w s.waiters → w.id ≡ id → slice_get w.asked 0 ≡ Some c → party_named s.names client ≡ Some c.party
IsOf s client (Ends party) = party_named s.names client ≡ Some party
IsOf s client (Renews id) = client ≡ NfsParty id
IsOf s client deed = ⊥

-- if none is named it is nobody's
abbrev pub IsOfSome : CoreState → Option Name → Deed → Type 0
IsOfSome s None deed = ⊥
IsOfSome s (Some client) deed = IsOf s client deed
