-- How far the message at the front of a stream is read.
use Rattle.std.specs.Prelude.{◌≡◌, ℕ, ◌≤◌, List, ◌++◌, length, drop}
use Rattle.xl_base.specs.Limits.{most_message_bytes}
use Rattle.xl_base.specs.declared.event.Kind.{Kind}
use Rattle.xl_frame.specs.declared.fault.FrameBad.{FrameBad}
use Rattle.xl_frame.specs.declared.message.Progress.{Progress}
use Rattle.xl_frame.specs.declared.message as declared
use Rattle.xl_frame.specs.declared.message.Sight.TheVariants as sights
use Rattle.xl_frame.specs.Frames.{Front, Whole, Part, Broken, front_of, message_at}

-- what stands at the front of a stream, without the message
pub data Sight : Type 0 where
  IsWhole : Sight
  IsPart : Sight
  IsBroken : FrameBad → Sight

abbrev pub sight : Front → Sight
sight (Whole message rest) = IsWhole
sight Part = IsPart
sight (Broken fault) = IsBroken fault

abbrev pub shown_sight : declared.Sight.Sight → Sight
shown_sight sights.Whole = IsWhole
shown_sight (sights.Part progress) = IsPart
shown_sight (sights.Broken fault) = IsBroken fault

-- The message is read to the header at this place, so that whatever follows is judged alike from there and from the
-- beginning.
pub record Resumes (kind : Kind) (p : Progress) (bytes : List ℕ) : Type 0 where
  pub within : p.at ≤ length bytes
  pub sum : p.sum ≤ most_message_bytes
  pub same : (more : List ℕ) → sight (message_at kind p.left p.sum (drop p.at bytes ++ more)) ≡ sight (front_of kind (bytes ++ more))

-- of a sight of less than a frame, the progress is so
abbrev pub IfPart : declared.Sight.Sight → (Progress → Type 0) → Type 0
IfPart sights.Whole p = Unit {0}
IfPart (sights.Part progress) p = p progress
IfPart (sights.Broken fault) p = Unit {0}
