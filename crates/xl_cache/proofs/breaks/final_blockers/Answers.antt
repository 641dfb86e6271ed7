use Rattle.std.proofs.Common.{List, ap, ◌∙◌}
use Rattle.std.specs.List.{list_any}
use Rattle.xl_matrix.specs.declared.claim.Claim.{Claim}
use Rattle.xl_cache.specs.Holders.{are_beside}
use Rattle.xl_cache.proofs.HolderLaws.{finals}
use Rattle.xl_cache.proofs.breaks.final_blockers.Goals as goal

pub returns : goal.returns
returns c =
    c.in_ok-blockers.ensures ∙ finals c.args.ask.now c.in_ok-holders.holders.keys c.args.held.now (λ d.
    c.in_ok-holders.ensures d ∙ ap (λ (cs : List Claim). list_any (are_beside d) cs) (c.deref.ensures.value ∙ c.in_ok-keepers.ensures))
