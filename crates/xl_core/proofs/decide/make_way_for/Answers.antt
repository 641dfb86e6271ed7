use Rattle.std.proofs.Common.{◌≡◌, List, IfOk, sym, subst, ◌∙◌}
use Rattle.xl_core.specs.Whole.{state_of}
use Rattle.xl_core.specs.State.{CoreState}
use Rattle.xl_core.specs.declared.ask.Effect.{Effect}
use Rattle.xl_core.proofs.WayCode.{no_way_back, no_way_for, way_of_share}
use Rattle.xl_core.proofs.decide.make_way_for.Goals as goal

pub returns-then-request-clause-way : goal.returns-then-request-clause-way
returns-then-request-clause-way c = no_way_back c.args.left.now (state_of c.args.parts.now) c.args.request.now c.new.result c.if-request.true c.new.ensures

pub returns-then-not-has_cache-clause-way : goal.returns-then-not-has_cache-clause-way
returns-then-not-has_cache-clause-way c =
    no_way_for c.args.left.now (state_of c.args.parts.now) c.args.request.now c.new-then-not-has_cache.result (sym c.has_cache.ensures ∙ c.if-not-has_cache.true) c.new-then-not-has_cache.ensures

pub returns-in_ok-plea-in-Share-clause-way : goal.returns-in_ok-plea-in-Share-clause-way
returns-in_ok-plea-in-Share-clause-way c =
    let s = state_of c.args.parts.now in
    subst (λ (w : List Effect × CoreState). IfOk c.make_way.result (λ r. w ≡ (r.0, state_of c.make_way.new.parts)))
    (way_of_share c.args.left.now s c.args.request.now c.in-Share.access c.in-Share.deny c.in_ok-plea-in-Share.plea c.asked_claim.result c.in-Share.is c.in_ok-plea-in-Share.ensures.plea c.asked_claim.ensures)
    c.make_way.ensures.way
