use Rattle.std.proofs.Common.{[], ◌∷◌, ◌++◌, sym, subst}
use Rattle.xl_smb_state.specs.State.{Lists}
use Rattle.xl_smb_state.specs.Links.{IsSound, IsLeaseLinked}
use Rattle.xl_smb_state.specs.contracts.state.SmbState.{the_view}
use Rattle.xl_smb_state.proofs.RowLaws.{on_result}
use Rattle.xl_smb_state.proofs.LinkLaws.{lease_added_sound}
use Rattle.xl_smb_state.proofs.state.SmbState.add_lease.Goals as goal

pub invariant_of-self : goal.invariant_of-self
invariant_of-self c =
    let w : Lists = the_view c.self.inside in
    let fact0 = subst (λ (w : Lists). IsLeaseLinked w c.args.key c.args.row) (sym c.self.view_is) c.requires.link in
    on_result c.add.result (λ es. IsSound (record w { leases = es })) c.add.new.self w.leases (w.leases ++ (c.args.key, c.args.row) ∷ []) c.add.ensures.ok c.add.ensures.err (lease_added_sound c.args.key c.args.row w fact0 c.self.invariant) c.self.invariant
