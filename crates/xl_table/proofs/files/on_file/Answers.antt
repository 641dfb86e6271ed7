use Rattle.std.proofs.Common.{sym, ap, subst, List, ◌∙◌}
use Rattle.xl_matrix.specs.declared.claim.Claim.{Claim}
use Rattle.xl_table.specs.declared.files.OnFile.{OnFile}
use Rattle.xl_table.specs.Pages.{paged, AreFull}
use Rattle.xl_table.proofs.FileLaws.{here_at, full_at}
use Rattle.xl_table.proofs.files.on_file.Goals as goal

pub returns-in-Some-clause-claims : goal.returns-in-Some-clause-claims
returns-in-Some-clause-claims c =
    ap (λ (ps : List (List Claim)). paged ps) c.deref.ensures.value ∙ ap (λ (list : OnFile). paged list.pages.items) (sym c.index-lists-at.is)
    ∙ here_at c.args.file c.in-Some.at c.args.lists.now c.index-lists-at.result c.requires c.in-Some.ensures.found.0 c.index-lists-at.is

pub returns-in-Some-clause-full : goal.returns-in-Some-clause-full
returns-in-Some-clause-full c =
    subst AreFull (sym (c.deref.ensures.value ∙ ap (λ (list : OnFile). list.pages.items) (sym c.index-lists-at.is)))
    (full_at c.args.file c.in-Some.at c.args.lists.now c.index-lists-at.result c.requires c.in-Some.ensures.found.0 c.index-lists-at.is)
