use Rattle.xl_house.proofs.PartedLaws.{always_parted, frames_run, heard_alone}
use Rattle.xl_house.proofs.compounds.frames_are_their_parts.Goals as goal

pub returns-clause-alone : goal.returns-clause-alone
returns-clause-alone c = λ n conn bytes s. heard_alone n conn bytes s

pub returns-clause-between : goal.returns-clause-between
returns-clause-between c = λ n at g smb. frames_run n at g smb

pub returns-clause-parted : goal.returns-clause-parted
returns-clause-parted c = λ head es legal. always_parted head es legal
