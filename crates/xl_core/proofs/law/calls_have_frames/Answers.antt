use Rattle.xl_core.proofs.FrameLaws.{ask_frame, ask_quiet, turn_frame, cancel_frame, give_back_frame, weaken_frame, ack_frame, end_party_frame, close_open_frame, drawn_frame, renew_frame, tick_frame}
use Rattle.xl_core.proofs.law.calls_have_frames.Goals as goal

pub returns-clause-asks : goal.returns-clause-asks
returns-clause-asks c = λ n left s a good fit. ask_frame n left s a good fit.party

pub returns-clause-tells : goal.returns-clause-tells
returns-clause-tells c = λ n left s a good fit. ask_quiet n left s a good fit.party

pub returns-clause-turns : goal.returns-clause-turns
returns-clause-turns c = turn_frame

pub returns-clause-cancels : goal.returns-clause-cancels
returns-clause-cancels c = cancel_frame

pub returns-clause-gives_back : goal.returns-clause-gives_back
returns-clause-gives_back c = give_back_frame

pub returns-clause-ends : goal.returns-clause-ends
returns-clause-ends c = end_party_frame

pub returns-clause-closes : goal.returns-clause-closes
returns-clause-closes c = close_open_frame

pub returns-clause-draws : goal.returns-clause-draws
returns-clause-draws c = drawn_frame

pub returns-clause-renews : goal.returns-clause-renews
returns-clause-renews c = renew_frame

pub returns-clause-ticks : goal.returns-clause-ticks
returns-clause-ticks c = tick_frame

pub returns-clause-weakens : goal.returns-clause-weakens
returns-clause-weakens c = weaken_frame

pub returns-clause-acks : goal.returns-clause-acks
returns-clause-acks c = ack_frame
