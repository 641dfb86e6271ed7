use Rattle.xl_matrix.proofs.OrderLaws.{weaker-self, weaker-on}
use Rattle.xl_matrix.proofs.law.within_is_an_order.Goals as goal

pub returns-clause-reflexive : goal.returns-clause-reflexive
returns-clause-reflexive c = weaker-self

pub returns-clause-transitive : goal.returns-clause-transitive
returns-clause-transitive c = weaker-on
