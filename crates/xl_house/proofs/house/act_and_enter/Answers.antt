use Rattle.std.proofs.Common.{◌++◌, ◌∷◌, [], ◌∙◌}
use Rattle.xl_base.specs.declared.halt.Halt.TheVariants.{JournalFull}
use Rattle.xl_house.specs.Whole.{whole_of}
use Rattle.xl_house.proofs.JournalLaws.{entered_is, entered_so, entered_kept}
use Rattle.xl_house.proofs.StartLaws.{handed_back}
use Rattle.xl_house.proofs.house.act_and_enter.Goals as goal

pub returns-in_err-make_room-clause-full : goal.returns-in_err-make_room-clause-full
returns-in_err-make_room-clause-full g c = λ count. handed_back _ _ c.make_room.result c.from_residual.result c.in_err-make_room.field-0.0 (JournalFull count) _ c.in_err-make_room.was c.from_residual.ensures.1 (c.make_room.ensures.full count)

pub returns-clause-entered : goal.returns-clause-entered
returns-clause-entered g c =
    (entered_is c.args.entries.now.items c.push_reserved.new.self.items c.in-Ok.field-0.stores (whole_of c.args.exports.now c.args.machine.now) (whole_of c.args.exports.now c.act.new.machine) c.args.event c.in-Ok.field-0.outs (c.push_reserved.ensures.items ∙ (λ i. c.make_room.ensures.items i ++ record { event = c.args.event; stores = c.in-Ok.field-0.stores; outs = c.in-Ok.field-0.outs } ∷ [])) c.in-Ok.ensures.step).entered

pub returns-clause-made : goal.returns-clause-made
returns-clause-made g c =
    (entered_is c.args.entries.now.items c.push_reserved.new.self.items c.in-Ok.field-0.stores (whole_of c.args.exports.now c.args.machine.now) (whole_of c.args.exports.now c.act.new.machine) c.args.event c.in-Ok.field-0.outs (c.push_reserved.ensures.items ∙ (λ i. c.make_room.ensures.items i ++ record { event = c.args.event; stores = c.in-Ok.field-0.stores; outs = c.in-Ok.field-0.outs } ∷ [])) c.in-Ok.ensures.step).made

pub returns-clause-next : goal.returns-clause-next
returns-clause-next g c =
    (entered_is c.args.entries.now.items c.push_reserved.new.self.items c.in-Ok.field-0.stores (whole_of c.args.exports.now c.args.machine.now) (whole_of c.args.exports.now c.act.new.machine) c.args.event c.in-Ok.field-0.outs (c.push_reserved.ensures.items ∙ (λ i. c.make_room.ensures.items i ++ record { event = c.args.event; stores = c.in-Ok.field-0.stores; outs = c.in-Ok.field-0.outs } ∷ [])) c.in-Ok.ensures.step).next

pub returns-clause-allowed : goal.returns-clause-allowed
returns-clause-allowed g c = λ n left.
    entered_so c.in-Ok.field-0.stores n _ (whole_of c.args.exports.now c.args.machine.now) (whole_of c.args.exports.now c.act.new.machine) c.args.event c.in-Ok.field-0.outs
    (entered_is c.args.entries.now.items c.push_reserved.new.self.items c.in-Ok.field-0.stores (whole_of c.args.exports.now c.args.machine.now) (whole_of c.args.exports.now c.act.new.machine) c.args.event c.in-Ok.field-0.outs (c.push_reserved.ensures.items ∙ (λ i. c.make_room.ensures.items i ++ record { event = c.args.event; stores = c.in-Ok.field-0.stores; outs = c.in-Ok.field-0.outs } ∷ [])) c.in-Ok.ensures.step).last
    c.in-Ok.ensures.step (c.in-Ok.ensures.allowed n left)

pub returns-clause-keeper : goal.returns-clause-keeper
returns-clause-keeper g c =
    entered_kept c.in-Ok.field-0.stores _ (whole_of c.args.exports.now c.args.machine.now) c.args.event _ _
    (entered_is c.args.entries.now.items c.push_reserved.new.self.items c.in-Ok.field-0.stores (whole_of c.args.exports.now c.args.machine.now) (whole_of c.args.exports.now c.act.new.machine) c.args.event c.in-Ok.field-0.outs (c.push_reserved.ensures.items ∙ (λ i. c.make_room.ensures.items i ++ record { event = c.args.event; stores = c.in-Ok.field-0.stores; outs = c.in-Ok.field-0.outs } ∷ [])) c.in-Ok.ensures.step).last
    c.in-Ok.ensures.keeper
