use Rattle.std.proofs.Common.{◌<◌, [], ◌∷◌, ◌++◌, length, sym, subst}
use Rattle.xl_smb_state.specs.State.{Lists}
use Rattle.xl_smb_state.specs.Links.{IsSound, most_waiting}
use Rattle.xl_smb_state.specs.contracts.state.SmbState.{the_view}
use Rattle.xl_smb_state.proofs.RowLaws.{on_result}
use Rattle.xl_smb_state.proofs.LinkLaws.{waiting_added_sound}
use Rattle.xl_smb_state.proofs.state.SmbState.add_waiting.Goals as goal

pub invariant_of-self : goal.invariant_of-self
invariant_of-self c =
    let w : Lists = the_view c.self.inside in
    let fact0 = subst (λ (w : Lists). length w.waiting < most_waiting) (sym c.self.view_is) c.requires.room in
    on_result c.add.result (λ es. IsSound (record w { waiting = es })) c.add.new.rows.entries w.waiting (w.waiting ++ (c.args.number, c.args.row) ∷ []) c.add.ensures.ok c.add.ensures.err (waiting_added_sound c.args.number c.args.row w fact0 c.self.invariant) c.self.invariant
