use Rattle.std.proofs.Common.{List, ap, ◌∙◌}
use Rattle.std.specs.List.{find}
use Rattle.xl_matrix.specs.declared.claim.Claim.{Claim}
use Rattle.xl_table.specs.declared.files.OnFile.{OnFile}
use Rattle.xl_table.specs.Files.{joined}
use Rattle.xl_table.specs.Relock.{is_share_of}
use Rattle.xl_table.proofs.SectionLaws.{first_is_in}
use Rattle.xl_table.proofs.table.Table.share_of.Goals as goal

pub returns-clause-held : goal.returns-clause-held
returns-clause-held c =
    first_is_in (is_share_of c.args.file c.args.owner) c.args.self.now c.find_share.result
    (c.find_share.ensures ∙ ap (λ (lists : List OnFile). find (is_share_of c.args.file c.args.owner) (joined lists)) c.deref.ensures.value ∙ ap (λ (held : List Claim). find (is_share_of c.args.file c.args.owner) held) c.self.view_is)
