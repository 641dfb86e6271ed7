use Rattle.std.proofs.Common.{List, ap, sym, ◌∙◌}
use Rattle.xl_nlm.specs.Items.{shown_lock}
use Rattle.xl_names.specs.Names.{number_of}
use Rattle.xl_wait.specs.Waiting.{waits_on}
use Rattle.xl_wait.specs.declared.waiter.Waiter.{Waiter}
use Rattle.xl_front_nlm.specs.Asks.{owner_of}
use Rattle.xl_front_nlm.proofs.StandLaws.{nobody_there}
use Rattle.xl_front_nlm.proofs.standing.waiter_for.Goals as goal

pub returns-then-not-waits_on-clause-value : goal.returns-then-not-waits_on-clause-value
returns-then-not-waits_on-clause-value c =
    sym (nobody_there c.args.core.now.waiters c.args.at.now c.args.exclusive (number_of (owner_of (shown_lock c.args.lock.now)) c.args.core.now.names)
    (ap (λ (ws : List Waiter). waits_on c.args.at.now.file ws) (sym c.queue.ensures) ∙ (sym c.waits_on.ensures ∙ c.if-not-waits_on.true)))
