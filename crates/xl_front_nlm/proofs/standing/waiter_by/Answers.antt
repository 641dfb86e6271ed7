use Rattle.std.proofs.Common.{Bool, List, option_map, ap, ◌∙◌}
use Rattle.std.specs.List.{find}
use Rattle.xl_base.specs.declared.name.Owner.TheVariants as owners
use Rattle.xl_base.specs.declared.name.Protocol.TheVariants.{Nlm}
use Rattle.xl_wait.specs.declared.waiter.Waiter.{Waiter}
use Rattle.xl_front_nlm.proofs.StandLaws.{found_waits}
use Rattle.xl_front_nlm.specs.Standing.{waits_for}
use Rattle.xl_front_nlm.proofs.standing.waiter_by.Goals as goal

pub returns-in-Some-clause-waits : goal.returns-in-Some-clause-waits
returns-in-Some-clause-waits c =
    let p : Waiter → Bool = waits_for (owners.Name Nlm c.in-Some.known) c.args.at.now c.args.exclusive in
    found_waits c.find_waiter.result p c.args.queue.now (c.find_waiter.ensures ∙ ap (λ (ws : List Waiter). option_map (λ (w : Waiter). w.id) (find p ws)) c.waiters.ensures.waiters)
