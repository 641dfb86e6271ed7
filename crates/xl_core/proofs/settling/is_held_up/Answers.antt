use Rattle.std.proofs.Common.{◌≡◌, true, sym, ◌∙◌}
use Rattle.xl_table.specs.Flat.{is_blocked}
use Rattle.xl_core.specs.Blockers.{before_number}
use Rattle.xl_core.specs.Whole.{state_of}
use Rattle.xl_core.proofs.DecideLaws.{blocked_in_line}
use Rattle.xl_core.proofs.PassageLaws.{held_back}
use Rattle.xl_core.proofs.WayCode.{barred_uncached, waits_blocking}
use Rattle.xl_core.proofs.settling.is_held_up.Goals as goal

pub returns-then-not-has_cache : goal.returns-then-not-has_cache
returns-then-not-has_cache c =
    let s = state_of c.args.parts.now in
    let claim = c.args.claim.now in
    let blocked : is_blocked s.claims claim ≡ true = sym c.is_blocked.ensures ∙ c.if-not-is_blocked.false in
    waits_blocking (before_number c.args.waiter.now.id c.args.parts.now.queue) s c.args.waiter.now claim blocked (barred_uncached s claim (sym c.has_cache.ensures ∙ c.if-not-has_cache.true) ∙ blocked)

pub returns : goal.returns
returns c =
    let s = state_of c.args.parts.now in
    let earlier = before_number c.args.waiter.now.id c.args.parts.now.queue in
    c.holds_back.ensures ∙ held_back earlier s c.args.waiter.now c.args.claim.now c.in_ok-passage.passage c.in_ok-passage.ensures (blocked_in_line earlier s c.args.claim.now (sym c.is_blocked.ensures ∙ c.if-not-is_blocked.false))
