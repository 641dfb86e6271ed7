use Rattle.std.proofs.Common.{List, ap, ◌∙◌}
use Rattle.xl_matrix.specs.declared.claim.Claim.{Claim}
use Rattle.xl_table.specs.declared.files.OnFile.{OnFile}
use Rattle.xl_table.specs.Files.{joined}
use Rattle.xl_table.specs.Flat.{holder}
use Rattle.xl_table.proofs.HolderLaws.{holder_none, holder_found, holder_least}
use Rattle.xl_table.proofs.table.Table.holder_of.Goals as goal

pub returns-clause-none : goal.returns-clause-none
returns-clause-none c =
    holder_none c.find_holder.result c.args.file c.args.byte c.args.self.now
    (c.find_holder.ensures ∙ ap (λ (lists : List OnFile). holder c.args.file c.args.byte (joined lists)) c.deref.ensures.value ∙ ap (λ (held : List Claim). holder c.args.file c.args.byte held) c.self.view_is)

pub returns-clause-found : goal.returns-clause-found
returns-clause-found c =
    holder_found c.find_holder.result c.args.file c.args.byte c.args.self.now
    (c.find_holder.ensures ∙ ap (λ (lists : List OnFile). holder c.args.file c.args.byte (joined lists)) c.deref.ensures.value ∙ ap (λ (held : List Claim). holder c.args.file c.args.byte held) c.self.view_is)

pub returns-clause-least : goal.returns-clause-least
returns-clause-least c =
    holder_least c.find_holder.result c.args.file c.args.byte c.args.self.now
    (c.find_holder.ensures ∙ ap (λ (lists : List OnFile). holder c.args.file c.args.byte (joined lists)) c.deref.ensures.value ∙ ap (λ (held : List Claim). holder c.args.file c.args.byte held) c.self.view_is)
