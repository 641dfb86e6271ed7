use Rattle.xl_frame.proofs.RecordLaws.{cut_are_packets}
use Rattle.xl_frame.proofs.law.packets_are_cut_out.Goals as goal

pub returns : goal.returns
returns c = cut_are_packets
