use Rattle.std.proofs.Common.{◌<◌, [], ◌∷◌, ◌++◌, length, sym, subst}
use Rattle.xl_smb_state.specs.State.{Lists}
use Rattle.xl_smb_state.specs.Links.{IsSound, IsOpenLinked, most_opens}
use Rattle.xl_smb_state.specs.contracts.state.SmbState.{the_view}
use Rattle.xl_smb_state.proofs.RowLaws.{on_result}
use Rattle.xl_smb_state.proofs.LinkLaws.{open_added_sound}
use Rattle.xl_smb_state.proofs.state.SmbState.add_open.Goals as goal

pub invariant_of-self : goal.invariant_of-self
invariant_of-self c =
    let w : Lists = the_view c.self.inside in
    let fact0 = subst (λ (w : Lists). IsOpenLinked w c.args.row) (sym c.self.view_is) c.requires.link in
    let fact1 = subst (λ (w : Lists). length w.opens < most_opens) (sym c.self.view_is) c.requires.room in
    on_result c.add.result (λ es. IsSound (record w { opens = es })) c.add.new.self w.opens (w.opens ++ (c.args.number, c.args.row) ∷ []) c.add.ensures.ok c.add.ensures.err (open_added_sound c.args.number c.args.row w fact0 fact1 c.self.invariant) c.self.invariant
