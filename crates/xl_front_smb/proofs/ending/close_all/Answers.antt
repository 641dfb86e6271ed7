use Rattle.std.proofs.Common.{◌+◌, drop, ap, ◌∙◌}
use Rattle.xl_smb_state.specs.State.{Lists, opens_under}
use Rattle.xl_front_smb.specs.Ending.{all_closed}
use Rattle.xl_front_smb.proofs.EndLaws.{closed_step, leavers_next, opens_step}
use Rattle.xl_front_smb.proofs.ending.close_all.Goals as goal

pub opens-preserved : goal.opens-preserved
opens-preserved c = (
  leavers_next c.args.core.now.names c.opens.state c.close.new.self c.args.numbers.now c.opens.number-index 0 c.opens.leavers.items c.push.new.self.items _ c.party_going.result c.opens-test.true c.in_ok-push.ensures.items c.party_going.ensures c.close.ensures c.opens.invariant.0,
  ap (λ (m : Lists). all_closed (drop (c.opens.number-index + 1) c.args.numbers.now) m) c.close.ensures ∙ closed_step c.opens.state c.args.numbers.now c.opens.number-index 0 c.opens-test.true ∙ c.opens.invariant.1,
  ap (opens_under c.args.under) c.close.ensures ∙ opens_step c.args.under c.opens.state c.args.numbers.now c.opens.number-index 0 c.links.ensures.distinct c.opens-test.true c.opens.invariant.2,
)
