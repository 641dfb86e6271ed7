-- The open connections of a capture.
use Rattle.std.specs.Prelude.{◌≡◌, ℕ, ◌<◌, ◌==◌, if◌then◌else◌, List, [], ◌∷◌, ◌++◌, map, Option, Some, None}
use Rattle.std.specs.List.{AllByRecursion}
use Rattle.std.specs.Option.{is_none}
use Rattle.xl_base.specs.declared.event.Event.{Event}
use Rattle.xl_base.specs.declared.event.Event.TheVariants.{Message, End}
use Rattle.xl_base.specs.declared.event.Kind.{Kind}
use Rattle.xl_frame.specs.Frames.{Framed, frames}
use Rattle.xl_frame.specs.declared.fault.FrameBad.{FrameBad}

-- an open connection: its number, what it speaks, and what came of its stream behind the last whole frame
pub record Link : Type 0 where
  pub conn : ℕ
  pub kind : Kind
  pub rest : List ℕ

-- a connection that was just opened
abbrev pub opened : ℕ → Kind → Link
opened conn kind = record { conn = conn; kind = kind; rest = [] }

-- the open connection of this number
abbrev pub link_of : ℕ → List Link → Option Link
link_of conn [] = None
link_of conn (l ∷ ls) = if l.conn == conn then Some l else link_of conn ls

-- without the open connection of this number
abbrev pub without : ℕ → List Link → List Link
without conn [] = []
without conn (l ∷ ls) = if l.conn == conn then ls else l ∷ without conn ls

-- the frames that stand in a connection's stream with these bytes more, from the last whole frame on
abbrev pub framed : Link → List ℕ → Framed
framed l bytes = frames l.kind (l.rest ++ bytes)

-- a bad frame ends the connection
abbrev pub end_of : ℕ → Option FrameBad → List Event
end_of conn bad = if is_none bad then [] else End conn ∷ []

-- what frames of a connection come to: a message for each, and its end if a bad one stands behind them (TEXT-10)
abbrev pub events_of : ℕ → Framed → List Event
events_of conn f = map (Message conn) f.frames ++ end_of conn f.bad

-- the connection behind these frames, if it is open still
abbrev pub still_open : Link → Framed → Option Link
still_open l f = if is_none f.bad then Some (record l { rest = f.rest }) else None

-- no two of these have one number
abbrev pub AreDistinct : List Link → Type 0
AreDistinct [] = Unit {0}
AreDistinct (l ∷ ls) = (link_of l.conn ls ≡ None) × AreDistinct ls

-- each number is a place below n
abbrev pub AreBelow : ℕ → List Link → Type 0
AreBelow n ls = AllByRecursion (λ l. l.conn < n) ls
