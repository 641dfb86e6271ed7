use Rattle.std.proofs.Common.{◌+◌, ◌≤◌, length, drop, arith}
use Rattle.std.proofs.lemmas.List.{length-drop}
use Rattle.xl_frame.specs.Frames.{frames}
use Rattle.xl_frame.proofs.Growth.{Resumes-start}
use Rattle.xl_frame.proofs.FrameLaws.{cut_whole, cut_ends, cut_breaks}
use Rattle.xl_frame.proofs.cutting.cut_frames.Goals as goal

pub frames-preserved : goal.frames-preserved
frames-preserved c =
    let size : c.in_ok-message-in-Whole.size ≤ length (drop c.frames.begin c.args.bytes.now) = rw c.behind-in-Whole.ensures at c.in_ok-message-in-Whole.ensures.size.1 in
    record {
      frames = rw (c.in_ok-push-in-Whole.ensures.items, c.from_vec.ensures) (cut_whole c.args.kind c.args.bytes.now c.frames.begin c.in_ok-message-in-Whole.size c.frames.frames.items c.in_ok-message-in-Whole.message.items (frames c.args.kind c.args.bytes.now) c.frames.invariant.frames (rw c.behind-in-Whole.ensures at c.in_ok-message-in-Whole.ensures.message));
      within = omega (arith, c.frames.invariant.within, length-drop c.frames.begin c.args.bytes.now);
      read = rw c.beginning-read.ensures (Resumes-start c.args.kind (drop (c.frames.begin + c.in_ok-message-in-Whole.size) c.args.bytes.now));
    }

pub returns-in-Part-clause-framed : goal.returns-in-Part-clause-framed
returns-in-Part-clause-framed c = cut_ends c.args.kind c.args.bytes.now c.frames.begin c.frames.frames.items (frames c.args.kind c.args.bytes.now) c.frames.invariant.frames (rw c.behind.ensures at c.in-Part.ensures.sight)

pub returns-in-Broken-clause-framed : goal.returns-in-Broken-clause-framed
returns-in-Broken-clause-framed c = cut_breaks c.args.kind c.args.bytes.now c.frames.begin c.frames.frames.items c.in-Broken.fault (frames c.args.kind c.args.bytes.now) c.frames.invariant.frames (rw c.behind.ensures at c.in-Broken.ensures.sight)
