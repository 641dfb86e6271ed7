use Rattle.std.proofs.Common.{rules}
use Rattle.std.proofs.lemmas.Fn.{filter_same}
use Rattle.xl_core.proofs.ReclaimLaws.{beside_among}
use Rattle.xl_core.proofs.reclaims.others_against.Goals as goal

pub returns : goal.returns
returns c =
    beside_among c.args.kind c.args.claim.now c.cache_beside-cache.result c.args.parts.now.table c.in_ok-held.held.items c.retain.new.self.items c.cache_beside-cache.ensures c.in_ok-held.ensures
    (filter_same _ _ _ (λ x b f' k. search rules) _ _ c.retain.ensures.filtered)
