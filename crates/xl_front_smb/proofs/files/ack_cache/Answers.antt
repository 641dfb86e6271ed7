use Rattle.std.proofs.Common.{rules, sym, ◌∙◌}
use Rattle.xl_plan.proofs.BudgetLaws.{leaves_self}
use Rattle.xl_front_smb.proofs.AckLaws.{kept_done}
use Rattle.xl_front_smb.proofs.files.ack_cache.Goals as goal

pub returns-in_default-clause-leaves : goal.returns-in_default-clause-leaves
returns-in_default-clause-leaves c = leaves_self c.args.core.now 0 0 c.requires.ready

pub returns-then-not-may_keep-clause-leaves : goal.returns-then-not-may_keep-clause-leaves
returns-then-not-may_keep-clause-leaves c = leaves_self c.args.core.now 0 0 c.requires.ready

pub returns-clause-done : goal.returns-clause-done
returns-clause-done c = λ n l.
    kept_done n c.args.core.now l c.args.lease.now c.args.cache.now c.in-Cache-default-Some.field-0 c.in-Cache-default-Some.running _ c.kind_in_lease-left.result c.lease_left.result (search rules) (sym c.may_keep.ensures ∙ c.if-not-may_keep.false) c.kind_in_lease-left.ensures c.lease_left.ensures (c.answer_break.ensures.done n l)
