use Rattle.std.proofs.Common.{◌∙◌}
use Rattle.std.specs.List.{slice_range}
use Rattle.xl_table.specs.Pages.{paged}
use Rattle.xl_table.specs.Sections.{party_group}
use Rattle.xl_table.proofs.DropLaws.{section_in, first_cache}
use Rattle.xl_table.proofs.section.cache_in.Goals as goal

pub returns : goal.returns
returns c =
    let claims = paged c.args.pages.now in
    let part = slice_range claims c.party_places-start.result.0 c.party_places-start.result.1 in
    c.first_between.ensures ∙ first_cache c.args.file c.args.party claims part (section_in (party_group c.args.file c.args.party) claims _ _ c.requires.ordered c.party_places-start.ensures.start c.party_places-start.ensures.end)
