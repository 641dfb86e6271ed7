-- Grace after a restart (RFC 7530 9.6.2, 9.6.3): until it ends the clients of the record alone are let in, and only to
-- reclaim what they held before.
use Rattle.std.specs.Prelude.{ℕ, ◌+◌, ◌-◌, ◌^◌, min, nat_le, Bool, true, false, not, ◌&&◌, if◌then◌else◌, List, [], ◌∷◌, map, Option, Some, None}
use Rattle.std.specs.List.{filter, list_any}
use Rattle.xl_base.specs.declared.event.Moment.{Moment}
use Rattle.xl_base.specs.declared.stable.Recorded.{Recorded}
use Rattle.xl_base.specs.declared.stable.Mark.{Mark}
use Rattle.xl_base.specs.Stable.{Stable, same_name, agree}
use Rattle.xl_grace.specs.declared.reclaimant.Reclaimant.{Reclaimant}
use Rattle.xl_grace.specs.declared.grace.Admission.{Admission}
use Rattle.xl_grace.specs.declared.grace.Admission.TheVariants.{Enters, Grace, NoGrace, NotRecorded}

-- ---- the names

abbrev pub is_of : Recorded → Reclaimant → Bool
is_of name one = same_name one.name name

abbrev pub newly : List Recorded → List Reclaimant
newly names = map (λ name. record { name = name; reclaimed = false }) names

-- the name is among these, with a mark of this kind
abbrev pub some_of : (Option Mark → Bool) → Recorded → List Reclaimant → Bool
some_of p name reclaimants = list_any (λ one. is_of name one && p one.name.mark) reclaimants

-- the name may reclaim with its mark, which agrees with the kept one
abbrev pub may_reclaim : Recorded → List Reclaimant → Bool
may_reclaim name reclaimants = some_of (λ kept. agree kept name.mark) name reclaimants

-- the name is recorded, with a mark that agrees with its own
abbrev pub is_known : Recorded → List Recorded → Bool
is_known name names = list_any (λ held. same_name held name && agree held.mark name.mark) names

abbrev pub has_reclaimed : Recorded → List Reclaimant → Bool
has_reclaimed name reclaimants = list_any (λ one. one.reclaimed && is_of name one) reclaimants

-- the one that has reclaimed something from now on
abbrev pub noting : Reclaimant → Reclaimant
noting one = record { name = one.name; reclaimed = true }

abbrev pub noted : Recorded → List Reclaimant → List Reclaimant
noted name [] = []
noted name (one ∷ more) = if is_of name one then noting one ∷ more else one ∷ noted name more

abbrev pub others : Recorded → List Reclaimant → List Reclaimant
others name reclaimants = filter (λ one. not (is_of name one)) reclaimants

-- ---- a grace that runs, or none

pub record Running : Type 0 where
  -- the moment from which on it may end
  pub end : Moment
  -- who may reclaim, and whether it has reclaimed something
  pub reclaimants : List Reclaimant

-- somebody is recorded
abbrev pub has_names : List Recorded → Bool
has_names [] = false
has_names (name ∷ names) = true

-- the end of a grace of so many milliseconds from this moment on; sums of moments stop at the last one
abbrev pub end_of : Moment → ℕ → Moment
end_of now milliseconds = record { 0 = min (now.0 + milliseconds) (2 ^ 64 - 1) }

-- grace after a start at this moment, of so many milliseconds: none runs if nobody is recorded (RECORD-7)
abbrev pub begun : Stable → Moment → ℕ → Option Running
begun stable now milliseconds = by stable.names where
  by : List Recorded → Option Running
  by [] = None
  by (name ∷ names) = Some (record { end = end_of now milliseconds; reclaimants = newly (name ∷ names) })

-- what becomes of an ask of this name, a reclaim or not
abbrev pub admission : Option Running → Recorded → Bool → Admission
admission None name true = NoGrace
admission None name false = Enters
admission (Some g) name true = if may_reclaim name g.reclaimants then Enters else NotRecorded
admission (Some g) name false = Grace g.end

-- a client reclaimed something; a name that isn't among those who may changes nothing (RECORD-9)
abbrev pub reclaimed : Recorded → Option Running → Option Running
reclaimed name None = None
reclaimed name (Some g) = Some (record { end = g.end; reclaimants = noted name g.reclaimants })

-- a client expired: the record lacks its name from now on (RECORD-8)
abbrev pub expired : Recorded → Option Running → Option Running
expired name None = None
expired name (Some g) = Some (record { end = g.end; reclaimants = others name g.reclaimants })

-- a reading of the clock ends the grace, once the record without the names that reclaimed nothing is stored (RECORD-7)
abbrev pub is_over : Option Running → Moment → Bool
is_over None now = false
is_over (Some g) now = nat_le g.end.0 now.0

abbrev pub ended : Moment → Option Running → Option Running
ended now grace = if is_over grace now then None else grace

-- whether the name has reclaimed something in the grace that runs
abbrev pub is_back : Recorded → Option Running → Bool
is_back name None = false
is_back name (Some g) = has_reclaimed name g.reclaimants

-- the record that is to be stored at the end: without the names that reclaimed nothing
abbrev pub shortened : Option Running → Stable → Stable
shortened grace stable = record { epoch = stable.epoch; names = filter (λ name. is_back name grace) stable.names }

-- ---- what becomes of a grace from a start on

pub data Turn : Type 0 where
  Reclaims : Recorded → Turn
  Expires : Recorded → Turn
  Reads : Moment → Turn

abbrev pub turned : Turn → Option Running → Option Running
turned (Reclaims name) grace = reclaimed name grace
turned (Expires name) grace = expired name grace
turned (Reads now) grace = ended now grace

abbrev pub after : Option Running → List Turn → Option Running
after grace [] = grace
after grace (turn ∷ turns) = after (turned turn grace) turns

-- the turn is this name's first or later reclaim, its expiry, a reading of the clock at or after the moment
abbrev pub is_reclaim : Recorded → Turn → Bool
is_reclaim name (Reclaims other) = same_name other name
is_reclaim name _ = false

abbrev pub is_expiry : Recorded → Turn → Bool
is_expiry name (Expires other) = same_name other name
is_expiry name _ = false

abbrev pub is_reading_from : ℕ → Turn → Bool
is_reading_from moment (Reads now) = nat_le moment now.0
is_reading_from moment _ = false
