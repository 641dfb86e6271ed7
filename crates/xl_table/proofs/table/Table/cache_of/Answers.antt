use Rattle.std.proofs.Common.{List, ap, ◌∙◌}
use Rattle.std.specs.List.{find}
use Rattle.xl_matrix.specs.declared.claim.Claim.{Claim}
use Rattle.xl_table.specs.declared.files.OnFile.{OnFile}
use Rattle.xl_table.specs.Files.{joined}
use Rattle.xl_table.specs.Sections.{is_cache_by}
use Rattle.xl_table.proofs.SectionLaws.{first_is_in}
use Rattle.xl_table.proofs.table.Table.cache_of.Goals as goal

pub returns-clause-held : goal.returns-clause-held
returns-clause-held c =
    first_is_in (is_cache_by c.args.file c.args.party) c.args.self.now c.find_cache.result
    (c.find_cache.ensures ∙ ap (λ (lists : List OnFile). find (is_cache_by c.args.file c.args.party) (joined lists)) c.deref.ensures.value ∙ ap (λ (held : List Claim). find (is_cache_by c.args.file c.args.party) held) c.self.view_is)
