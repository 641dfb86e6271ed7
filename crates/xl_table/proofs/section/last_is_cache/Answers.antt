use Rattle.std.proofs.Common.{◌-◌, length, refl, ◌∙◌}
use Rattle.xl_table.proofs.CacheLaws.{last_page}
use Rattle.xl_table.proofs.section.last_is_cache.Goals as goal

pub returns : goal.returns
returns c =
    let pages = c.args.pages.now in
    c.ends_in_cache.ensures ∙ last_page pages (length pages - 1) c.index-pages-last.result refl c.requires.full c.requires.some c.index-pages-last.is
