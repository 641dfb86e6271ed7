use Rattle.xl_front_smb.proofs.FinalLaws.{nobody_dismissed, none_below}
use Rattle.xl_front_smb.proofs.ending.dismiss_all.Goals as goal

pub returns-in-empty-clause-state : goal.returns-in-empty-clause-state
returns-in-empty-clause-state c = nobody_dismissed c.args.effects.now c.args.state.now c.new.result (none_below c.args.effects.now c.in-empty.len_below) c.new.ensures
