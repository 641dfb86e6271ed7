use Rattle.std.proofs.Common.{sym, ap, cond, ◌∙◌}
use Rattle.std.specs.Map.{remove_entry}
use Rattle.xl_smb_state.specs.State.{same_lease}
use Rattle.xl_smb_state.proofs.LeaseLaws.{shrunk}
use Rattle.xl_smb_state.proofs.leases.leave.Goals as goal

pub returns-then-shrink : goal.returns-then-shrink
returns-then-shrink c =
    let key = c.args.key.now in
    let mid = c.shrink.new.leases in
    c.take.ensures.rest
    ∙ sym (ap (λ b. cond b (remove_entry (same_lease key) mid) mid) c.if-shrink.true)
    ∙ shrunk key c.args.number c.args.leases.now mid c.shrink.result c.shrink.ensures.found c.shrink.ensures.none c.shrink.ensures.distinct c.requires

pub returns-else-shrink : goal.returns-else-shrink
returns-else-shrink c =
    let key = c.args.key.now in
    let mid = c.shrink.new.leases in
    sym (ap (λ b. cond b (remove_entry (same_lease key) mid) mid) c.if-shrink.false)
    ∙ shrunk key c.args.number c.args.leases.now mid c.shrink.result c.shrink.ensures.found c.shrink.ensures.none c.shrink.ensures.distinct c.requires
