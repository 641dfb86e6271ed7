-- Streams cut into frames piece by piece.
use Rattle.std.specs.Prelude.{List, [], ◌∷◌, ◌++◌, Option, Some, None, ℕ, ◌≡◌, take, drop}
use Rattle.std.specs.Prelude.{Result, Ok, Err}
use Rattle.xl_base.specs.declared.event.Kind.{Kind}
use Rattle.xl_frame.specs.declared.fault.FrameBad.{FrameBad}
use Rattle.xl_frame.specs.declared.fault.FeedErr.{FeedErr}
use Rattle.xl_frame.specs.declared.fault.FeedErr.TheVariants.{NoMemory, Bad}
use Rattle.xl_frame.specs.Frames.{Framed, with_frames, frames}

-- the old one if it has a fault, else the new one
abbrev pub unless_bad : Option FrameBad → Framed → Framed → Framed
unless_bad None old new = new
unless_bad (Some fault) old new = old

-- what was cut, and then a piece of the stream; behind a bad place nothing changes
unfoldable pub then_piece : Kind → Framed → List ℕ → Framed
then_piece kind framed piece = unless_bad framed.bad framed (with_frames framed.frames (frames kind (framed.rest ++ piece)))

-- A cutter: what it cuts, the messages that were not handed out yet, the bytes behind their frames, and the fault of the
-- first bad place.
pub record Cutting : Type 0 where
  pub kind : Kind
  pub ready : List (List ℕ)
  pub rest : List ℕ
  pub bad : Option FrameBad

-- a cutter that has been fed what was cut so, and has handed out nothing
abbrev pub cutting : Kind → Framed → Cutting
cutting kind framed = record { kind = kind; ready = framed.frames; rest = framed.rest; bad = framed.bad }

-- what a cutter would still hand out, and what it holds
abbrev pub framed_of : Cutting → Framed
framed_of c = record { frames = c.ready; rest = c.rest; bad = c.bad }

-- the cutter after a piece of the stream
abbrev pub fed : Cutting → List ℕ → Cutting
fed c piece = cutting c.kind (then_piece c.kind (framed_of c) piece)

-- What feeding a piece answers and leaves: Ok if no bad place is met, else its fault, and after want of memory what
-- was there before.
abbrev pub Feeds : Cutting → List ℕ → Result (Unit {0}) FeedErr → Cutting → Type 0
Feeds old piece (Ok done) new = (new ≡ fed old piece) × (new.bad ≡ None)
Feeds old piece (Err NoMemory) new = new ≡ old
Feeds old piece (Err (Bad fault)) new = (new ≡ fed old piece) × (new.bad ≡ Some fault)

-- the cutter without the first of its messages
abbrev pub without_first : Cutting → Cutting
without_first c = record { kind = c.kind; ready = drop 1 c.ready; rest = c.rest; bad = c.bad }

-- ---- calls of a cutter

-- a piece of the stream is fed and taken, or the next message is asked for
pub data Call : Type 0 where
  Feed : List ℕ → Call
  Next : Call

-- the messages that were handed out so far, and the cutter
pub record Run : Type 0 where
  pub handed : List (List ℕ)
  pub cutter : Cutting

-- before the first call
abbrev pub begun : Kind → Run
begun kind = record { handed = []; cutter = record { kind = kind; ready = []; rest = []; bad = None } }

-- after one call more
abbrev pub called : Run → Call → Run
called run (Feed piece) = record { handed = run.handed; cutter = fed run.cutter piece }
called run Next = record { handed = run.handed ++ take 1 run.cutter.ready; cutter = without_first run.cutter }

-- after these calls, in order
abbrev pub after : Run → List Call → Run
after run [] = run
after run (call ∷ calls) = after (called run call) calls

-- the stream that was fed
abbrev pub stream_of : List Call → List ℕ
stream_of [] = []
stream_of (Feed piece ∷ calls) = piece ++ stream_of calls
stream_of (Next ∷ calls) = stream_of calls
