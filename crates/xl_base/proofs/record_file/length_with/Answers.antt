use Rattle.std.proofs.Common.{sym, ◌∙◌}
use Rattle.xl_base.proofs.RecordFileLaws.{length_put, length_behind}
use Rattle.xl_base.proofs.record_file.length_with.Goals as goal

pub returns-in-Some : goal.returns-in-Some
returns-in-Some c =
    length_put c.args.stable.now c.args.name.now c.names-names.result.now c.in-Some.place c.names_length.result c.names_length-in-Some.result c.name_length.result c.saturating_add-others.result c.saturating_add.result c.saturating_add-in-Some.result
    c.names-names.ensures.names (sym c.place_of.ensures ∙ c.in-Some.is) c.names_length.ensures c.names_length-in-Some.ensures c.name_length.ensures c.saturating_add-others.ensures c.saturating_add.ensures c.saturating_add-in-Some.ensures

pub returns-in-None : goal.returns-in-None
returns-in-None c =
    length_behind c.args.stable.now c.args.name.now c.names-names.result.now c.record_length.result c.name_length-in-None.result c.saturating_add-in-None.result
    c.names-names.ensures.names (sym c.place_of.ensures ∙ c.in-None.is) c.record_length.ensures c.name_length-in-None.ensures c.saturating_add-in-None.ensures
