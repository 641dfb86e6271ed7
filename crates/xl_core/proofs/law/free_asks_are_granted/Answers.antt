use Rattle.xl_core.proofs.CauseLaws.{real_extent, real_unlock}
use Rattle.xl_core.proofs.WayAsks.{ask_free, ask_held, ask_shares, ask_shared, ask_left}
use Rattle.xl_core.proofs.law.free_asks_are_granted.Goals as goal

pub returns-clause-granted : goal.returns-clause-granted
returns-clause-granted c = ask_free

pub returns-clause-held : goal.returns-clause-held
returns-clause-held c = λ n left s a first last exclusive claim good fit named act at. ask_held n left s a first last exclusive claim good fit.party named (real_extent a first last exclusive fit act) act at

pub returns-clause-shared : goal.returns-clause-shared
returns-clause-shared c = λ n left s a access deny claim good fit apart act at. ask_shared n left s a access deny claim good fit.party apart act at

pub returns-clause-united : goal.returns-clause-united
returns-clause-united c = λ n left s a access deny claim good fit act at. ask_shares n left s a access deny claim good fit.party act at

pub returns-clause-given_up : goal.returns-clause-given_up
returns-clause-given_up c = λ n left s a first last claim good fit named act at. ask_left n left s a first last claim good fit.party named (real_unlock a first last fit act) act at
