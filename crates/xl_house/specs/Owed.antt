-- What the end of a call and the end of a connection owe.
use Rattle.std.specs.Prelude.{◌≡◌, ◌==◌, ℕ, true, false, List, [], ◌∷◌, find, Some}
use Rattle.std.specs.List.{AllByRecursion}
use Rattle.xl_base.specs.declared.event.Event.{Event}
use Rattle.xl_base.specs.declared.event.Event.TheVariants.{End, Called}
use Rattle.xl_base.specs.declared.event.Kind.TheVariants.{Smb}
use Rattle.xl_names.specs.declared.name.Name.{Name}
use Rattle.xl_smb_state.specs.State.{Lists}
use Rattle.xl_smb_state.specs.declared.row.Scope.TheVariants as scope
use Rattle.xl_core.specs.Deeds.{Deed, all_done}
use Rattle.xl_core.specs.Settle.{waits_as}
use Rattle.xl_core.specs.State.{CoreState}
use Rattle.xl_front_nlm.specs.Answers.{refuses}
use Rattle.xl_front_nlm.specs.Grants.{grant_of}
use Rattle.xl_front_nlm.specs.declared.call.GrantedCall.{GrantedCall}
use Rattle.xl_front_nlm.specs.declared.grant.Grant.{Grant}
use Rattle.xl_front_smb.specs.Ending.{numbers_under}
use Rattle.xl_smb_laws.specs.OpenRights.{LeavesNothing}
use Rattle.xl_house.specs.Done.{rounds}
use Rattle.xl_house.specs.Lawful.{Law}
use Rattle.xl_house.specs.Own.{own_of}
use Rattle.xl_house.specs.Owners.{IsRefusal}
use Rattle.xl_house.specs.State.{Whole, as_found, kind_of}

-- ---- the end of a call

-- the event's own deeds
abbrev pub own_deeds : ℕ → Whole → Event → List Deed
own_deeds n s event = (own_of n (as_found s) event).deeds

-- If the client refuses the lock whose grant a call sent, which awaits its answer, just one thing is done in the call's round: what
-- the call sent is unlocked (XNFS C702, NLM_GRANTED). So it is by what the round finds, and by its own deeds.
abbrev pub IsOwedBy : Whole → Event → List Deed → Type 0
IsOwedBy s (Called number reply) ds =
    (call : GrantedCall) (g : Grant) → find (λ c. c.number == number) s.front.nlm.calls ≡ Some call → refuses reply ≡ true → grant_of s.core.names call.claim ≡ Some g
    → (d : Deed) × (ds ≡ d ∷ []) × IsRefusal g d
IsOwedBy s event ds = Unit {0}

-- so it is of each round of an entry
abbrev pub IsOwed : Law
IsOwed n s e t = AllByRecursion (λ r. IsOwedBy r.found r.cause r.own.deeds) (rounds n s e.event)

-- ---- the end of a connection

-- Of the opens that were under the connection, by its sessions and tree connects, nothing is held, nor a cache of a lease that lost its
-- last open with them; and nobody waits for one of them, or for one that a request under it was to make.
pub record AreGone (names : List Name) (conn : ℕ) (l : Lists) (left : CoreState) : Type 0 where
  pub held : LeavesNothing names (scope.Connection conn) l left
  pub waiting : AllByRecursion (λ w. AllByRecursion (λ number. waits_as number w ≡ false) (numbers_under (scope.Connection conn) l)) left.waiters

-- So it is once the own deeds of the round of the end of a connection of SMB are done, by what the round finds (MS-SMB2 3.3.7.1).
abbrev pub IsGoneBy : ℕ → Whole → Event → List Deed → Type 0
IsGoneBy n s (End number) ds = kind_of s.connections number ≡ Some Smb → AreGone s.core.names number s.front.smb.state (all_done n s.core ds)
IsGoneBy n s event ds = Unit {0}
