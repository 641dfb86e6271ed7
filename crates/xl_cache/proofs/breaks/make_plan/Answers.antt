use Rattle.std.proofs.Common.{List, ap, ◌∙◌}
use Rattle.std.specs.List.{list_any}
use Rattle.xl_matrix.specs.declared.claim.Claim.{Claim}
use Rattle.xl_cache.specs.Holders.{are_beside}
use Rattle.xl_cache.proofs.HolderLaws.{plan_is}
use Rattle.xl_cache.proofs.breaks.make_plan.Goals as goal

pub returns : goal.returns
returns c =
    (λ i. record { breaks = (c.from_vec.ensures ∙ c.in_ok-breaks.ensures) i; awaited = c.find_awaited-awaited.ensures i; left = c.find_left-left.ensures i })
    ∙ plan_is c.args.ask.now c.in_ok-sharers.sharers.keys c.args.held.now (λ d.
    c.in_ok-sharers.ensures d ∙ ap (λ (cs : List Claim). list_any (are_beside d) cs) (c.deref.ensures.value ∙ c.in_ok-shares.ensures))
