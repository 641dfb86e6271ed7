use Rattle.std.proofs.Common.{List, ◌==◌, ap, ◌∙◌}
use Rattle.std.specs.List.{filter}
use Rattle.xl_matrix.specs.declared.claim.Claim.{Claim}
use Rattle.xl_tests_core.proofs.HeldLaws.{found_held}
use Rattle.xl_tests_core.proofs.calls.steps.own_cache.Goals as goal

pub returns : goal.returns
returns c =
    found_held c.whose.result c.find_own_cache.result c.deref.result.now c.args.core.now.claims 1 c.find_own_cache.ensures
    (c.deref.ensures.value ∙ c.in_ok-held.ensures ∙ ap (λ (cs : List Claim). filter (λ d. d.file == 1) cs) c.table.ensures)
