use Rattle.xl_smb_state.proofs.StandingLaws.{distinct_standing}
use Rattle.xl_smb_state.proofs.rows.tell_keys.Goals as goal

pub returns : goal.returns
returns g c = distinct_standing g.K.PartialEq.eq g.met.K.Eq.laws c.args.places.now.entries c.len.ensures.unique
