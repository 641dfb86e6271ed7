use Rattle.std.proofs.Common.{sym, ◌∙◌}
use Rattle.xl_core.specs.InFront.{in_front_of}
use Rattle.xl_core.specs.Whole.{state_of}
use Rattle.xl_core.proofs.PassageLaws.{quiet_so, way_barred}
use Rattle.xl_core.proofs.ways.make_way_of.Goals as goal

pub returns-in-Barred-clause-way : goal.returns-in-Barred-clause-way
returns-in-Barred-clause-way c =
    λ claims. quiet_so _ (state_of c.args.parts.now) c.new.result
    (way_barred (in_front_of c.args.front c.args.parts.now.queue) c.args.plea.now c.args.claim.now c.in-Barred.blocker claims (state_of c.args.parts.now) (sym c.in-Barred.is ∙ c.in_ok-blocker.ensures)) c.new.ensures
