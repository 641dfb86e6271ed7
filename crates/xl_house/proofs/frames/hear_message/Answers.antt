use Rattle.std.proofs.lemmas.Result.{IfOk-weaker}
use Rattle.xl_house.specs.Whole.{ground_of}
use Rattle.xl_house.proofs.HearLaws.{part_is_heard}
use Rattle.xl_house.proofs.frames.hear_message.Goals as goal

pub returns-clause-heard : goal.returns-clause-heard
returns-clause-heard g c = λ n. IfOk-weaker c.hear_part.result _ _
    (λ outs is may. part_is_heard n (ground_of c.args.ground.now) c.args.layers.now.front c.args.layers.now.core c.args.conn c.args.message.now (outs, c.hear_part.new.layers.front, c.hear_part.new.layers.core) c.requires.smb (is may))
    (c.hear_part.ensures.heard n)
