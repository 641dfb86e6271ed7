use Rattle.std.proofs.Common.{arith}
use Rattle.xl_front_smb.proofs.EndLaws.{session_free}
use Rattle.xl_front_smb.proofs.ending.end_sessions.Goals as goal

pub end_session-requires-clause-free : goal.end_session-requires-clause-free
end_session-requires-clause-free c =
    session_free c.args.conn c.sessions.state c.args.numbers.now c.sessions.number-index 0 c.links.ensures.sound c.links.ensures.distinct (omega (arith, c.sessions-test.true)) c.sessions.invariant.1 c.sessions.invariant.2
