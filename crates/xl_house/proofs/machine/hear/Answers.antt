use Rattle.std.proofs.lemmas.Result.{IfOk-weaker}
use Rattle.xl_house.proofs.HearLaws.{packet_is_heard}
use Rattle.xl_house.proofs.machine.hear.Goals as goal

pub returns-in-Smb-clause-heard : goal.returns-in-Smb-clause-heard
returns-in-Smb-clause-heard g c = λ n. IfOk-weaker c.hear_packet.result _ _
    (λ outs is may. packet_is_heard n c.args.exports.now c.args.layers.now.front c.args.layers.now.core c.args.number c.args.bytes.now c.args.kind c.in-Some.kind (outs, c.hear_packet.new.layers.front, c.hear_packet.new.layers.core) c.in-Some.is c.in-Smb.is (is may))
    (c.hear_packet.ensures.heard n)
