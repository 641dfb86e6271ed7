use Rattle.std.proofs.Common.{◌∙◌, ap, List, []}
use Rattle.std.specs.List.{list_any}
use Rattle.xl_matrix.specs.declared.claim.Claim.{Claim}
use Rattle.xl_cache.specs.Wishing.{is_its_cache}
use Rattle.xl_core.specs.Wishes.{wish_of}
use Rattle.xl_core.proofs.ReclaimLaws.{own_among}
use Rattle.xl_core.proofs.reclaims.has_own_cache.Goals as goal

pub returns : goal.returns
returns c =
    own_among c.args.claim.now c.args.parts.now.table c.in_ok-here.here.items c.is_own_among.result c.in_ok-here.ensures
    (c.is_own_among.ensures ∙ ap (λ (cs : List Claim). list_any (is_its_cache (wish_of [] c.args.claim.now)) cs) c.deref.ensures.value)
