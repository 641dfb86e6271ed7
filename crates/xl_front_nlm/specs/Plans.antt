-- What the code plans for a call, as what becomes of it.
use Rattle.xl_base.specs.declared.name.Party.TheVariants as parties
use Rattle.xl_base.specs.declared.name.Protocol.TheVariants.{Nlm}
use Rattle.std.specs.Prelude.{ℕ, List, Option}
use Rattle.xl_core.specs.Deeds.{Deed, GivesBack, Cancels, Ends}
use Rattle.xl_plan.specs.Plans.{Tells}
use Rattle.xl_front_nlm.specs.Serving.{CallPlan, asks, does}
use Rattle.xl_front_nlm.specs.State.{FrontState}
use Rattle.xl_front_nlm.specs.declared.plan.Deed.{Deed as CodeDeed}
use Rattle.xl_front_nlm.specs.declared.plan.Deed.TheVariants as deeds
use Rattle.xl_front_nlm.specs.declared.plan.Plan.{Plan as CodePlan}
use Rattle.xl_front_nlm.specs.declared.plan.Plan.TheVariants as plans

abbrev pub shown_deed : CodeDeed → Deed
shown_deed (deeds.GivesBack claim) = GivesBack claim
shown_deed (deeds.Cancels waiter) = Cancels waiter
shown_deed (deeds.Ends number) = Ends (parties.Name Nlm number)

-- of what the front keeps, once this caller, if there is one, may be a host
abbrev pub shown_plan : Option (List ℕ) → FrontState → CodePlan → CallPlan
shown_plan host f (plans.Tells outcome) = Tells outcome
shown_plan host f (plans.Asks left request) = asks host f left request
shown_plan host f (plans.Does deed) = does f (shown_deed deed)
