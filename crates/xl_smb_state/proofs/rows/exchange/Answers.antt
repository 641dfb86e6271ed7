use Rattle.xl_smb_state.proofs.StandingLaws.{exchanged_row, exchanged_rest}
use Rattle.xl_smb_state.proofs.rows.exchange.Goals as goal

pub returns-clause-row : goal.returns-clause-row
returns-clause-row g c = exchanged_row g.K.PartialEq.eq g.met.K.Eq.laws c.args.key.now c.args.to c.exchange_in.result c.args.places.now.entries c.exchange_in.new.places.entries c.exchange_in.ensures.found c.exchange_in.ensures.none c.exchange_in.ensures.distinct

pub returns-clause-rest : goal.returns-clause-rest
returns-clause-rest g c = exchanged_rest g.K.PartialEq.eq g.met.K.Eq.laws c.args.key.now c.args.to c.exchange_in.result c.args.places.now.entries c.exchange_in.new.places.entries c.exchange_in.ensures.found c.exchange_in.ensures.none c.exchange_in.ensures.distinct
