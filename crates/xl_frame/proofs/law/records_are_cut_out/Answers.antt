use Rattle.xl_frame.proofs.RecordLaws.{cut_are_records}
use Rattle.xl_frame.proofs.law.records_are_cut_out.Goals as goal

pub returns-clause-cut : goal.returns-clause-cut
returns-clause-cut c = cut_are_records
