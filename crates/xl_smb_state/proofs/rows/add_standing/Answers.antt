use Rattle.xl_smb_state.proofs.StandingLaws.{place_gone}
use Rattle.xl_smb_state.proofs.rows.add_standing.Goals as goal

pub add-requires : goal.add-requires
add-requires g c = place_gone g.K.PartialEq.eq g.met.K.Eq.laws c.args.key c.args.places.now.entries c.remove.new.rows.entries c.len.ensures.unique c.remove.ensures
