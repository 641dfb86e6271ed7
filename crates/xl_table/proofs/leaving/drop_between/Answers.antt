use Rattle.std.proofs.Common.{◌≡◌, arith, drop, sym, take, ap, ◌++◌, ◌∙◌}
use Rattle.std.proofs.lemmas.List.{take-append-drop}
use Rattle.xl_table.specs.Pages.{paged}
use Rattle.xl_table.proofs.leaving.drop_between.Goals as goal

-- no place lies between
pub returns-else-start-end-clause-taken : goal.returns-else-start-end-clause-taken
returns-else-start-end-clause-taken c =
    let claims = paged c.args.pages.now.items in
    let same : c.args.start ≡ c.args.end = omega (arith, c.requires.order, c.if-start-end.false) in
    sym (take-append-drop c.args.start claims) ∙ ap (λ n. take c.args.start claims ++ drop n claims) same
