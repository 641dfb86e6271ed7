use Rattle.std.proofs.Common.{◌≡◌, ◌-◌, ◌≤◌, length, drop}
use Rattle.xl_frame.specs.Frames.{frames, with_frames}
use Rattle.xl_frame.specs.Progress.{Resumes}
use Rattle.xl_frame.proofs.cutting.cut_frames.Given as goal

abbrev pub invariant-frames : goal.invariant-frames
invariant-frames l = record {
  frames : with_frames l.frames.items (frames l.kind (drop l.begin l.bytes)) ≡ frames l.kind l.bytes;
  within : l.begin ≤ length l.bytes;
  read : Resumes l.kind l.read (drop l.begin l.bytes);
}

abbrev pub decreases-frames : goal.decreases-frames
decreases-frames l = length l.bytes - l.begin
