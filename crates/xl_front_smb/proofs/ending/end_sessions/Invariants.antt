use Rattle.std.proofs.Common.{◌≡◌, drop, []}
use Rattle.xl_smb_state.specs.State.{sessions_on, opens_under}
use Rattle.xl_smb_state.specs.declared.row.Scope.TheVariants as scope
use Rattle.xl_front_smb.specs.Ending.{sessions_gone}
use Rattle.xl_front_smb.proofs.ending.end_sessions.Given as goal

abbrev pub invariant-sessions : goal.invariant-sessions
invariant-sessions l = (sessions_gone (drop l.number-index l.numbers) l.state ≡ sessions_gone l.numbers l.initial.state) × (sessions_on l.conn l.state ≡ drop l.number-index l.numbers) × (opens_under (scope.Connection l.conn) l.state ≡ [])
