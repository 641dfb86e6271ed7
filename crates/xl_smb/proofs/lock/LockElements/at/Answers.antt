use Rattle.std.proofs.Common.{arith}
use Rattle.std.proofs.lemmas.Grind.{common_steps}
use Rattle.xl_smb.specs.Locks.{element_at}
use Rattle.xl_layout.proofs.PlaceLaws.{whole_at}
use Rattle.xl_smb.proofs.lock.LockElements.at.Goals as goal

pub returns : goal.returns
returns c = λ d. let read = whole_at element_at 24 c.args.self.now.0.now c.args.index d c.requires in grind (arith, common_steps)
