use Rattle.std.proofs.Common.{◌≡◌, drop}
use Rattle.std.specs.List.{AllByRecursion}
use Rattle.xl_programs.specs.Sent.{FitsFrame}
use Rattle.xl_smb_locks.specs.Finals.{dismissed}
use Rattle.xl_smb_locks.proofs.FinalLaws.{behind}
use Rattle.xl_smb_locks.proofs.finals.dismiss.Given as goal

abbrev pub invariant-requests : goal.invariant-requests
invariant-requests l = (behind l.outs (dismissed l.effects (drop l.number-index l.numbers) l.state) ≡ dismissed l.effects l.numbers l.initial.state) × AllByRecursion FitsFrame l.outs
