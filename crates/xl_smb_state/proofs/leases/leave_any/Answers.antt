use Rattle.std.proofs.Common.{sym, ap, ◌∙◌}
use Rattle.xl_smb_state.specs.State.{key_of}
use Rattle.xl_smb_state.proofs.LeaseLaws.{lists_only, listed_nowhere}
use Rattle.xl_smb_state.proofs.leases.leave_any.Goals as goal

pub leave-requires : goal.leave-requires
leave-requires c = lists_only c.args.opens.now c.in-Some.key c.args.number c.args.leases.now c.requires (ap key_of (sym c.find.ensures) ∙ sym c.key_of.ensures ∙ c.in-Some.is)

pub returns-in_default : goal.returns-in_default
returns-in_default c = sym (listed_nowhere c.args.opens.now c.args.number c.args.leases.now c.requires (ap key_of (sym c.find.ensures) ∙ sym c.key_of.ensures ∙ c.in_default.is))
