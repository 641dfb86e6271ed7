use Rattle.std.proofs.Common.{Err, ap, ◌∙◌}
use Rattle.xl_names.specs.declared.names.NameErr.{NameErr}
use Rattle.xl_core.proofs.AskerLaws.{no_room}
use Rattle.xl_core.proofs.askers.enter.Goals as goal

pub unreachable-requires : goal.unreachable-requires
unreachable-requires c =
    let full = (c.intern.ensures.full c.in-Err-Full.field-0-0).0 (c.in-Err-Full.is ∙ ap (λ (e : NameErr). Err e) c.in-Err-Full.field-0-is) in
    no_room c.args.who.now c.in-Named.name c.args.names.now c.in-Named.is full.1 full.2 c.requires
