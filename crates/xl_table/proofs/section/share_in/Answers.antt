use Rattle.std.proofs.Common.{refl, ◌∙◌}
use Rattle.std.specs.List.{slice_range}
use Rattle.xl_table.specs.Pages.{paged}
use Rattle.xl_table.proofs.SectionLaws.{share_section, first_share}
use Rattle.xl_table.proofs.section.share_in.Goals as goal

pub returns : goal.returns
returns c =
    let claims = paged c.args.pages.now in
    let part = slice_range claims c.group_places-start.result.0 c.group_places-start.result.1 in
    c.first_between.ensures ∙ first_share c.args.file c.args.owner claims part (share_section c.args.file c.args.owner claims part _ _ c.requires.ordered c.group_places-start.ensures.start c.group_places-start.ensures.end refl)
