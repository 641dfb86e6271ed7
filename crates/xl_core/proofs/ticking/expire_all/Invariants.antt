use Rattle.std.proofs.Common.{◌≡◌, ℕ, drop}
use Rattle.xl_core.specs.Good.{IsGood}
use Rattle.xl_core.specs.State.{MayBe, GoesOn}
use Rattle.xl_core.specs.Stores.{HandsOn}
use Rattle.xl_core.specs.Ticks.{behind_told, in_turn, is_lease_over, try_expire, expire_all}
use Rattle.xl_core.specs.Unsettled.{AreHeldUp}
use Rattle.xl_core.specs.Whole.{state_of}
use Rattle.xl_core.proofs.ticking.expire_all.Given as goal

abbrev pub invariant-loop-client : goal.invariant-loop-client
invariant-loop-client g l = record {
  turns : (n : ℕ) → MayBe n (state_of l.parts) → behind_told l.fn.effects (expire_all n (state_of l.fn.parts)) ≡ behind_told l.effects (in_turn is_lease_over (try_expire n) (drop l.client-index l.client-items) (state_of l.parts));
  good : IsGood (state_of l.parts);
  held_up : AreHeldUp l.unsettled (state_of l.parts);
  on : GoesOn (state_of l.fn.parts) (state_of l.parts);
  keeper : HandsOn (state_of l.fn.parts) (state_of l.parts) (record { held = g.K.Keeper.held l.fn.keeper; given = g.K.Keeper.given l.fn.keeper; faults = g.K.Keeper.faults l.fn.keeper; left = g.K.Keeper.left l.fn.keeper }) (record { held = g.K.Keeper.held l.keeper; given = g.K.Keeper.given l.keeper; faults = g.K.Keeper.faults l.keeper; left = g.K.Keeper.left l.keeper });
}
