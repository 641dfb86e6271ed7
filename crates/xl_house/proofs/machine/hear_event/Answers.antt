use Rattle.std.proofs.Common.{subst}
use Rattle.xl_base.specs.Limits.{most_numbers}
use Rattle.xl_core.specs.State.{CoreState}
use Rattle.xl_plan.proofs.KeeperLaws.{hands_quiet}
use Rattle.xl_plan.specs.Keepers.{HandsTo, IsQuiet}
use Rattle.xl_house.proofs.HearLaws.{on_ok, ready_begun}
use Rattle.xl_house.proofs.machine.hear_event.Goals as goal

pub hear-requires : goal.hear-requires
hear-requires g c = record { ready = ready_begun most_numbers _ _ c.begin_step.ensures.state c.requires.ready }

pub hear_answer-requires : goal.hear_answer-requires
hear_answer-requires g c = record { ready = ready_begun most_numbers _ _ c.begin_step.ensures.state c.requires.ready }

pub hear_tick-requires : goal.hear_tick-requires
hear_tick-requires g c = record { ready = ready_begun most_numbers _ _ c.begin_step.ensures.state c.requires.ready }

pub hear_end-requires : goal.hear_end-requires
hear_end-requires g c = record { ready = ready_begun most_numbers _ _ c.begin_step.ensures.state c.requires.ready }

pub returns-in-End-clause-keeper : goal.returns-in-End-clause-keeper
returns-in-End-clause-keeper g c =
    let left = c.hear_end.new.layers.core in
    let keeper = c.args.keeper.now in
    on_ok c.hear_end.result _ _
    (λ (quiet : IsQuiet c.begin_step.new.self left). subst (λ (s : CoreState). HandsTo g.K.Keeper.held g.K.Keeper.given g.K.Keeper.faults g.K.Keeper.left s left keeper keeper) c.begin_step.ensures.state
    (hands_quiet g.K.Keeper.held g.K.Keeper.given g.K.Keeper.faults g.K.Keeper.left c.begin_step.new.self left keeper quiet))
    c.hear_end.ensures.quiet
