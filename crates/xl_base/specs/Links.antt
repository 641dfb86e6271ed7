-- Lanes and their links, as they are told.
use Rattle.std.specs.Prelude.{◌≡◌, ℕ, ◌<◌, ◌≤◌, Bool, true, false, List, [], ◌∷◌, ◌++◌, length, take}
use mathlib.Core.List.{IsPrefix}
use Rattle.xl_base.specs.Memory.{counted}
use Rattle.xl_base.specs.declared.event.Kind.{Kind}
use Rattle.xl_base.specs.declared.lane.Link.{Link}
use Rattle.xl_base.specs.declared.lane.NextOutcome.{NextOutcome}
use Rattle.xl_base.specs.declared.lane.NextOutcome.TheVariants as next
use Rattle.xl_base.specs.declared.lane.ReceiveOutcome.{ReceiveOutcome}
use Rattle.xl_base.specs.declared.lane.ReceiveOutcome.TheVariants as receive
use Rattle.xl_base.specs.declared.sink.WriteOutcome.{WriteOutcome}
use Rattle.xl_base.specs.declared.sink.WriteOutcome.TheVariants as write

-- a link of this kind, of which nothing was taken and to which nothing was sent
abbrev pub fresh : Kind → Link
fresh kind = record { kind = kind; taken = []; sent = []; ended = false; failed = 0; shut = false }

-- ---- what one call did to the links of a lane, the newest in front

abbrev pub Nexts : NextOutcome → List Link → List Link → Type 0
Nexts (next.Link kind) old new = new ≡ fresh kind ∷ old
Nexts next.Quiet old new = new ≡ old
Nexts next.End old new = new ≡ old
Nexts next.Failed old new = new ≡ old

-- the newest link, of which these bytes were taken, that said its end, or of which a call failed
abbrev pub Receives : ReceiveOutcome → List ℕ → Link → Link → Type 0
Receives (receive.Got n) buffer old new = new ≡ record old { taken = old.taken ++ take n buffer }
Receives receive.Quiet buffer old new = new ≡ old
Receives receive.End buffer old new = new ≡ record old { ended = true }
Receives receive.Failed buffer old new = new ≡ record old { failed = counted old.failed }

-- the newest link, to which these bytes were sent, or a beginning of them if the call failed
abbrev pub Sends : WriteOutcome → List ℕ → Link → Link → Type 0
Sends write.Wrote bytes old new = new ≡ record old { sent = old.sent ++ bytes }
Sends write.Failed bytes old new = (front : List ℕ) × IsPrefix front bytes × (new ≡ record old { sent = old.sent ++ front; failed = counted old.failed })

-- the newest link, which tells from then on that it was shut (PROOF-7)
abbrev pub Shuts : Link → Link → Type 0
Shuts old new = new ≡ record old { shut = true }

-- ---- what an outcome says of the lane's counts

abbrev pub next_failed : NextOutcome → Bool
next_failed next.Failed = true
next_failed _ = false

abbrev pub next_ended : NextOutcome → Bool
next_ended next.End = true
next_ended _ = false

abbrev pub receive_failed : ReceiveOutcome → Bool
receive_failed receive.Failed = true
receive_failed _ = false

abbrev pub send_failed : WriteOutcome → Bool
send_failed write.Failed = true
send_failed write.Wrote = false

-- a buffer has the bytes that were got
abbrev pub Fits : ReceiveOutcome → List ℕ → Type 0
Fits (receive.Got n) buffer = (0 < n) × (n ≤ length buffer)
Fits _ buffer = Unit {0}

-- a lane in memory as its callers see it: its links, the newest in front, and its counts
pub record MemoryLinks : Type 0 where
  pub told : List Link
  -- the numbers of the calls that fail, of which the first is 1
  pub failing : List ℕ
  -- how many calls were made, how many failed, and how many of these were for a next link
  pub calls : ℕ
  pub faults : ℕ
  pub lost : ℕ
  -- whether no link comes any more, and how often a link and bytes were waited for
  pub ended : Bool
  pub asked : ℕ
