use Rattle.std.proofs.Common.{◌≡◌, true, sym, subst}
use Rattle.std.specs.Option.{IfSome}
use Rattle.xl_smb_state.specs.State.{Lists, open_of, lease_of, joined}
use Rattle.xl_smb_state.specs.Links.{IsSound, is_under}
use Rattle.xl_smb_state.specs.contracts.state.SmbState.{the_view}
use Rattle.xl_smb_state.proofs.RowLaws.{on_result}
use Rattle.xl_smb_state.proofs.LinkLaws.{lease_joined_sound}
use Rattle.xl_smb_state.proofs.state.SmbState.join_lease.Goals as goal

pub invariant_of-self : goal.invariant_of-self
invariant_of-self c =
    let w : Lists = the_view c.self.inside in
    let key = c.args.key.now in
    let fact = subst (λ (v : Lists). IfSome (lease_of key v) (λ row. is_under key row.file (open_of c.args.number v) ≡ true)) (sym c.self.view_is) c.requires in
    on_result c.join.result (λ es. IsSound (record w { leases = es })) c.join.new.leases w.leases (joined c.args.number (lease_of key w) key w.leases) c.join.ensures.ok c.join.ensures.err (lease_joined_sound key c.args.number w fact c.self.invariant) c.self.invariant
