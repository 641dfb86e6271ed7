use Rattle.xl_core.proofs.FrameLaws.{cancel_unserved, give_back_unserved, weaken_unserved, ack_unserved, end_party_unserved, close_open_unserved, tick_unserved}
use Rattle.xl_core.proofs.law.only_turns_serve.Goals as goal

pub returns-clause-cancels : goal.returns-clause-cancels
returns-clause-cancels c = cancel_unserved

pub returns-clause-gives_back : goal.returns-clause-gives_back
returns-clause-gives_back c = give_back_unserved

pub returns-clause-ends : goal.returns-clause-ends
returns-clause-ends c = end_party_unserved

pub returns-clause-closes : goal.returns-clause-closes
returns-clause-closes c = close_open_unserved

pub returns-clause-ticks : goal.returns-clause-ticks
returns-clause-ticks c = tick_unserved

pub returns-clause-weakens : goal.returns-clause-weakens
returns-clause-weakens c = weaken_unserved

pub returns-clause-acks : goal.returns-clause-acks
returns-clause-acks c = ack_unserved
