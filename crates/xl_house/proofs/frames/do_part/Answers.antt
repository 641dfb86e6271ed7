use Rattle.std.proofs.Common.{ap, sym, ◌∙◌}
use Rattle.std.proofs.lemmas.Result.{IfOk-weaker}
use Rattle.xl_house.specs.Machine.{part_done}
use Rattle.xl_house.specs.Sifting.{is_smb}
use Rattle.xl_house.specs.Whole.{ground_of}
use Rattle.xl_house.proofs.frames.do_part.Goals as goal

pub returns-then-is_smb-clause-state : goal.returns-then-is_smb-clause-state
returns-then-is_smb-clause-state g c = λ n. IfOk-weaker c.do_message.result _ _
    (λ last is may. ap (λ smb. part_done n (ground_of c.args.ground.now) (c.args.going, c.args.layers.now.front, c.args.layers.now.core) c.args.frame c.args.message.now smb) (ap is_smb (sym c.kind_of.ensures) ∙ sym c.is_smb.ensures ∙ c.if-is_smb.true) ∙ is may)
    (c.do_message.ensures.state n)
