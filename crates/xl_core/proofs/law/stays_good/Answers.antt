use Rattle.xl_core.proofs.BreakAnswerLaws.{ack_good}
use Rattle.xl_core.proofs.GoodLaws.{started_good, begun_good, ask_good, settle_good, cancel_good, give_back_good, drawn_good, end_party_good, close_open_good, renew_good, tick_good}
use Rattle.xl_core.proofs.WeakenLaws.{weaken_good}
use Rattle.xl_core.proofs.law.stays_good.Goals as goal

pub returns-clause-started : goal.returns-clause-started
returns-clause-started c = started_good

pub returns-clause-begun : goal.returns-clause-begun
returns-clause-begun c = begun_good

pub returns-clause-asked : goal.returns-clause-asked
returns-clause-asked c = ask_good

pub returns-clause-settled : goal.returns-clause-settled
returns-clause-settled c = settle_good

pub returns-clause-cancelled : goal.returns-clause-cancelled
returns-clause-cancelled c = cancel_good

pub returns-clause-given_back : goal.returns-clause-given_back
returns-clause-given_back c = give_back_good

pub returns-clause-drawn : goal.returns-clause-drawn
returns-clause-drawn c = drawn_good

pub returns-clause-ended : goal.returns-clause-ended
returns-clause-ended c = end_party_good

pub returns-clause-closed : goal.returns-clause-closed
returns-clause-closed c = close_open_good

pub returns-clause-renewed : goal.returns-clause-renewed
returns-clause-renewed c = renew_good

pub returns-clause-ticked : goal.returns-clause-ticked
returns-clause-ticked c = tick_good

pub returns-clause-weakened : goal.returns-clause-weakened
returns-clause-weakened c = weaken_good

pub returns-clause-acked : goal.returns-clause-acked
returns-clause-acked c = ack_good
