use Rattle.xl_matrix.proofs.ByteLaws.{meeting-common, common-meeting}
use Rattle.xl_matrix.proofs.law.meets_by_bytes.Goals as goal

pub returns-clause-bytes : goal.returns-clause-bytes
returns-clause-bytes c = λ smb first last start end. (
  meeting-common smb first last start end,
  λ found. common-meeting smb first last start end found.0 found.1 found.2,
)
