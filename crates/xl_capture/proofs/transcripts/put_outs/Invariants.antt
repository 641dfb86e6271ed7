use Rattle.std.proofs.Common.{◌≡◌, ◌++◌, drop}
use Rattle.std.specs.String.{string_bytes}
use Rattle.xl_capture.specs.Transcript.{out_lines}
use Rattle.xl_capture.proofs.transcripts.put_outs.Given as goal

abbrev pub invariant-loop-out : goal.invariant-loop-out
invariant-loop-out l = string_bytes l.text ++ out_lines l.place (drop l.out-index l.outs) ≡ string_bytes l.fn.text ++ out_lines l.place l.outs
