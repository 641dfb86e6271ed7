-- What the only pass of a desk enters is the journal.
use Rattle.std.proofs.Common.{◌≡◌, ◌≢◌, ℕ, suc, ◌+◌, ◌<◌, Bool, true, false, List, [], ◌∷◌, ◌++◌, length, take, Option, Some, Result, Ok, Err, IfOk, IfErr, IfSome, refl, sym, ap, subst, ◌∙◌, append_assoc, length-append, arith}
use Rattle.std.proofs.Math.Seq.{take-append_seam}
use Rattle.std.proofs.lemmas.Bool.{both_ways}
use Rattle.std.proofs.lemmas.List.{append-nil}
use Rattle.xl_base.specs.declared.event.Event.{Event}
use Rattle.xl_base.specs.declared.event.Event.TheVariants.{Restart}
use Rattle.xl_base.specs.declared.halt.Halt.{Halt}
use Rattle.xl_base.specs.declared.halt.Halt.TheVariants.{NoMemory, JournalFull, StartStore}
use Rattle.xl_base.specs.declared.journal.Entry.{Entry}
use Rattle.xl_desk.specs.Passes.{IsCalled, IsHalted, IsLooked, IsRefused}
use Rattle.xl_desk.specs.Turns.{IsClosed, all_shares}
use Rattle.xl_desk.specs.declared.desk.Receipt.{Receipt}
use Rattle.xl_desk.specs.declared.fault.DeskErr.{DeskErr}
use Rattle.xl_desk.specs.declared.fault.DeskErr.TheVariants.{Halted, Stopped}
use Rattle.xl_desk.specs.declared.view.View.{View}
use Rattle.xl_house.specs.Serials.{MayHalt}
use Rattle.xl_jobs.proofs.FrontLaws.{front_all, longer, none_left}
use Rattle.xl_replay.specs.Enter.{HasEntered, HasPaused, HasRun, IsAlone, IsStoppedBy, entered_as}
use Rattle.xl_replay.specs.Replays.{events_in}

-- ---- lists

events_append : (es more : List Entry) → events_in (es ++ more) ≡ events_in es ++ events_in more
events_append [] more = refl
events_append (e ∷ es) more = ap (λ (xs : List Event). e.event ∷ xs) (events_append es more)

pub events_length : (es : List Entry) → length (events_in es) ≡ length es
events_length [] = refl
events_length (e ∷ es) = ap suc (events_length es)

-- ---- one event

module _ {O : Type 0} where
  entered : (b m a : View O) (event : Event) (place : ℕ) → IsCalled b m place event → IsLooked m a → IsAlone b → length a.seen ≡ a.start + a.made → events_in a.seen ≡ events_in b.seen ++ event ∷ []
  entered b m a event place call look alone whole =
      let between : List Entry = call.seen.0 in
      let entry : Entry = call.seen.1 in
      let seen = call.seen.2 in
      let long = ap length seen in
      let one = length-append (b.seen ++ between) (entry ∷ []) in
      let two = length-append b.seen between in
      let more = longer m.seen a.seen look.goes.seen in
      let none : between ≡ [] = none_left between (omega (arith, long, one, two, more, alone.whole, whole, look.goes.start, call.goes.start, look.none.made, call.made)) in
      let same : m.seen ≡ a.seen = front_all m.seen a.seen look.goes.seen (omega (arith, long, one, two, more, alone.whole, whole, look.goes.start, call.goes.start, look.none.made, call.made)) in
      ap events_in (sym same ∙ seen ∙ ap (λ (es : List Entry). (b.seen ++ es) ++ entry ∷ []) none ∙ ap (λ (es : List Entry). es ++ entry ∷ []) (append-nil b.seen))
      ∙ events_append b.seen (entry ∷ []) ∙ ap (λ (e : Event). events_in b.seen ++ e ∷ []) call.seen.4

  stopped : (b m a : View O) (reason : Halt) (n : ℕ) → IsHalted MayHalt b m reason n → IsLooked m a → IsAlone b → length a.seen ≡ a.start + a.made → (a.seen ≡ b.seen) × (a.halt ≡ Some reason) × MayHalt a.seen reason
  stopped b m a reason n halted look alone whole =
      let first = longer b.seen m.seen halted.goes.seen in
      let next = longer m.seen a.seen look.goes.seen in
      let long : length a.seen ≡ length b.seen = omega (arith, alone.whole, whole, look.goes.start, halted.goes.start, look.none.made, halted.none.made) in
      let one : b.seen ≡ m.seen = front_all b.seen m.seen halted.goes.seen (omega (arith, first, next, long)) in
      let two : m.seen ≡ a.seen = front_all m.seen a.seen look.goes.seen (omega (arith, first, next, long)) in
      let heard : a.halt ≡ Some reason = subst (λ (o : Option Halt). IfSome o (λ r. a.halt ≡ Some r)) halted.halt look.goes.halt in
      (sym (one ∙ two), heard, subst (λ (es : List Entry). MayHalt es reason) two halted.may)

  pub has_entered : (b m a : View O) (event : Event) (called : Result Receipt DeskErr) → IfOk called (λ r. IsCalled b m r.place event) → IfErr called (λ e. IsRefused MayHalt b m e) → IsLooked m a → IsAlone b → length a.seen ≡ a.start + a.made → HasEntered b a event (entered_as called)
  has_entered b m a event (Ok r) ok err look alone whole = entered b m a event r.place ok look alone whole
  has_entered b m a event (Err (Halted reason count)) ok err look alone whole = stopped b m a reason count err look alone whole
  has_entered b m a event (Err (Stopped reason count)) ok err look alone whole = stopped b m a reason count err look alone whole

  call_goes : (b m : View O) (event : Event) (called : Result Receipt DeskErr) → IfOk called (λ r. IsCalled b m r.place event) → IfErr called (λ e. IsRefused MayHalt b m e) → (m.shares ≡ b.shares) × (m.origin ≡ b.origin)
  call_goes b m event (Ok r) ok err = (ok.shares, ok.goes.origin)
  call_goes b m event (Err (Halted reason count)) ok err = (err.none.shares, err.goes.origin)
  call_goes b m event (Err (Stopped reason count)) ok err = (err.none.shares, err.goes.origin)

  -- the pass stays the only one, and of the same machine
  pub still_alone : (b m a : View O) (event : Event) (called : Result Receipt DeskErr) → IfOk called (λ r. IsCalled b m r.place event) → IfErr called (λ e. IsRefused MayHalt b m e) → IsLooked m a → IsAlone b → (a.shares ≡ all_shares → length a.seen ≡ a.start + a.made) → IsAlone a × (a.origin ≡ b.origin)
  still_alone b m a event called ok err look alone whole =
      let goes = call_goes b m event called ok err in
      let shares : a.shares ≡ all_shares = look.none.shares ∙ goes.0 ∙ alone.shares in
      (record { shares = shares; whole = whole shares }, look.goes.origin ∙ goes.1)

-- ---- up to the next restart

-- one more is entered
pub one_more : (old new : List Entry) (event : Event) (rest all : List Event) → events_in new ≡ events_in old ++ event ∷ [] → events_in old ++ event ∷ rest ≡ all → events_in new ++ rest ≡ all
one_more old new event rest all more same = ap (λ (xs : List Event). xs ++ rest) more ∙ append_assoc (events_in old) (event ∷ []) rest ∙ same

-- the machine is halted before this one
pub cut_short : (old new : List Entry) (event : Event) (rest all : List Event) (halt : Halt) → new ≡ old → MayHalt new halt → events_in old ++ event ∷ rest ≡ all → HasPaused new rest all (Err halt)
cut_short old new event rest all halt still may same =
    let here : events_in new ++ event ∷ rest ≡ all = ap (λ (es : List Entry). events_in es ++ event ∷ rest) still ∙ same in
    let long = events_length new in (
      ap (λ (xs : List Event). take (length new) xs) (sym here) ∙ ap (λ (n : ℕ). take n (events_in new ++ event ∷ rest)) (sym long) ∙ take-append_seam (events_in new) (event ∷ rest),
      omega (arith, ap length here, length-append (events_in new) (event ∷ rest), long),
      may,
    )

pub all_entered : (es : List Entry) (rest all : List Event) → events_in es ++ rest ≡ all → rest ≡ [] → events_in es ≡ all
all_entered es rest all same none = sym (append-nil (events_in es)) ∙ ap (λ (xs : List Event). events_in es ++ xs) (sym none) ∙ same

-- ---- once the desk is closed

seam : (es : List Entry) (rest all : List Event) → events_in es ++ rest ≡ all → take (length es) all ≡ events_in es
seam es rest all same =
    ap (λ (xs : List Event). take (length es) xs) (sym same) ∙ ap (λ (n : ℕ). take n (events_in es ++ rest)) (sym (events_length es)) ∙ take-append_seam (events_in es) rest

paused_front : (es : List Entry) (rest all : List Event) (called : Result Bool Halt) → HasPaused es rest all called → take (length es) all ≡ events_in es
paused_front es rest all (Ok true) paused = seam es (Restart ∷ rest) all paused
paused_front es rest all (Ok false) paused = seam es [] all (append-nil (events_in es) ∙ paused)
paused_front es rest all (Err halt) paused = paused.0

stopped_by : (es : List Entry) (all : List Event) (halt : Halt) → length es < length all → MayHalt es halt → IsStoppedBy es all halt
stopped_by es all NoMemory more may = tt
stopped_by es all (JournalFull count) more may = (may.1, more)
stopped_by es all (StartStore count) more may = may

paused_run : (es : List Entry) (rest all : List Event) (called : Result Bool Halt) → HasPaused es rest all called → HasRun es rest all called
paused_run es rest all (Ok true) paused = paused
paused_run es rest all (Ok false) paused = paused
paused_run es rest all (Err halt) paused = (paused.0, stopped_by es all halt paused.1 paused.2)

abbrev is_starved : Result Bool Halt → Bool
is_starved (Err NoMemory) = true
is_starved _ = false

other : (r : Result Bool Halt) → is_starved r ≡ false → r ≢ Err NoMemory
other r fine same = both_ways (is_starved r) fine (ap is_starved same)

pub goes_on : (r : Result Bool Halt) (more : Bool) → r ≡ Ok more → r ≢ Err NoMemory
goes_on r more is = other r (ap is_starved is)

-- the calls ended so, or memory ran out
pub has_run : (es : List Entry) (rest all : List Event) (called ended : Result Bool Halt) → HasPaused es rest all called → (ended ≢ Err NoMemory → called ≡ ended) → HasRun es rest all ended
has_run es rest all called (Ok more) paused same = subst (λ (r : Result Bool Halt). HasRun es rest all r) (same (other (Ok more) refl)) (paused_run es rest all called paused)
has_run es rest all called (Err NoMemory) paused same = (paused_front es rest all called paused, tt)
has_run es rest all called (Err (JournalFull count)) paused same = subst (λ (r : Result Bool Halt). HasRun es rest all r) (same (other (Err (JournalFull count)) refl)) (paused_run es rest all called paused)
has_run es rest all called (Err (StartStore count)) paused same = subst (λ (r : Result Bool Halt). HasRun es rest all r) (same (other (Err (StartStore count)) refl)) (paused_run es rest all called paused)

-- nothing was entered
pub none_run : (es : List Entry) (rest all more : List Event) → events_in es ++ more ≡ all → HasRun es rest all (Err NoMemory)
none_run es rest all more same = (seam es more all same, tt)

module _ {H O : Type 0} (history : H → List Entry) (halt_of : H → Option Halt) (origin_of : H → O) (lawful : O → List Entry → Type 0) where
  -- the pass has seen all that the machine has
  pub seen_all : (v : View O) (h : H) → IsClosed history halt_of origin_of lawful v h → IsAlone v → v.seen ≡ history h
  seen_all v h closed alone = front_all v.seen (history h) closed.seen (alone.whole ∙ sym closed.grown)
