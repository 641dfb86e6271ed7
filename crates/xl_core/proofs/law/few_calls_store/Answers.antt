use Rattle.xl_core.proofs.FrameLaws.{cancel_aside, give_back_aside, weaken_aside, ack_aside, end_party_aside, close_open_aside, drawn_aside, renew_aside}
use Rattle.xl_core.proofs.law.few_calls_store.Goals as goal

pub returns-clause-cancels : goal.returns-clause-cancels
returns-clause-cancels c = cancel_aside

pub returns-clause-gives_back : goal.returns-clause-gives_back
returns-clause-gives_back c = give_back_aside

pub returns-clause-weakens : goal.returns-clause-weakens
returns-clause-weakens c = weaken_aside

pub returns-clause-acks : goal.returns-clause-acks
returns-clause-acks c = ack_aside

pub returns-clause-ends : goal.returns-clause-ends
returns-clause-ends c = end_party_aside

pub returns-clause-closes : goal.returns-clause-closes
returns-clause-closes c = close_open_aside

pub returns-clause-draws : goal.returns-clause-draws
returns-clause-draws c = drawn_aside

pub returns-clause-renews : goal.returns-clause-renews
returns-clause-renews c = renew_aside
