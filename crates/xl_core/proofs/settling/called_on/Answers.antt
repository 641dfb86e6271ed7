use Rattle.std.proofs.Common.{◌∙◌}
use Rattle.xl_core.specs.Whole.{state_of}
use Rattle.xl_core.proofs.UnsettledLaws.{called_on}
use Rattle.xl_core.proofs.settling.called_on.Goals as goal

pub returns-clause-called : goal.returns-clause-called
returns-clause-called c = c.in_ok-called.ensures.called ∙ called_on (state_of c.args.parts.now) c.args.file c.requires.good c.requires.held_up
