use Rattle.std.proofs.Common.{List, ap, sym, ◌∙◌}
use Rattle.xl_matrix.specs.declared.claim.Claim.{Claim}
use Rattle.xl_core.specs.InFront.{in_front_of}
use Rattle.xl_core.specs.Whole.{state_of}
use Rattle.xl_core.specs.Ways.{made_way}
use Rattle.xl_core.proofs.DoorLaws.{head_rest}
use Rattle.xl_core.proofs.PassageLaws.{known_now}
use Rattle.xl_core.proofs.WayCode.{no_way_first}
use Rattle.xl_core.proofs.ways.make_way.Goals as goal

pub returns-then-not-has_cache-clause-way : goal.returns-then-not-has_cache-clause-way
returns-then-not-has_cache-clause-way c =
    no_way_first (in_front_of c.args.front c.args.parts.now.queue) c.args.plea.now c.args.claims.now _ _ (state_of c.args.parts.now) c.new-then-not-has_cache.result (head_rest c.args.claims.now _ c.in-len1-up.len_at_least)
    (sym c.has_cache.ensures ∙ c.if-not-has_cache.true) c.new-then-not-has_cache.ensures

pub returns-clause-way : goal.returns-clause-way
returns-clause-way c =
    ap (λ (ds : List Claim). made_way (in_front_of c.args.front c.args.parts.now.queue) c.args.plea.now ds (state_of c.args.parts.now)) (head_rest c.args.claims.now _ c.in-len1-up.len_at_least) ∙ c.in_ok-told.ensures.way _

pub returns-clause-known : goal.returns-clause-known
returns-clause-known c = known_now (in_front_of c.args.front c.make_way_of.new.parts.queue) c.in_ok-told.passage (state_of c.make_way_of.new.parts) c.args.claims.now _ _ (head_rest c.args.claims.now _ c.in-len1-up.len_at_least) c.in_ok-told.ensures.passage
