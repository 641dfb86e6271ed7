use Rattle.xl_core.proofs.CauseLaws.{real_unlock}
use Rattle.xl_core.proofs.WayAsks.{ask_due, ask_recalls, ask_test, ask_unlock, ask_wish}
use Rattle.xl_table.proofs.LeastLaws.{least_first}
use Rattle.xl_core.proofs.law.answers_have_causes.Goals as goal

pub returns-clause-claims : goal.returns-clause-claims
returns-clause-claims c = ask_due

pub returns-clause-recalls : goal.returns-clause-recalls
returns-clause-recalls c = ask_recalls

pub returns-clause-tests : goal.returns-clause-tests
returns-clause-tests c = ask_test

pub returns-clause-unlocks : goal.returns-clause-unlocks
returns-clause-unlocks c = λ n left s a first last answer good fit named act. ask_unlock n left s a first last answer act fit.party named (real_unlock a first last fit act) good

pub returns-clause-wishes : goal.returns-clause-wishes
returns-clause-wishes c = ask_wish

pub returns-clause-least : goal.returns-clause-least
returns-clause-least c = least_first
