-- Events that are entered one behind another by the only pass of a desk.
use Rattle.std.specs.Prelude.{◌≡◌, ◌<◌, ◌+◌, Bool, true, false, List, [], ◌∷◌, ◌++◌, length, take, Some, Result, Ok, Err}
use Rattle.xl_base.specs.declared.event.Event.{Event}
use Rattle.xl_base.specs.declared.event.Event.TheVariants.{Restart}
use Rattle.xl_base.specs.declared.halt.Halt.{Halt}
use Rattle.xl_base.specs.declared.halt.Halt.TheVariants.{NoMemory, JournalFull, StartStore}
use Rattle.xl_base.specs.declared.journal.Entry.{Entry}
use Rattle.xl_desk.specs.Turns.{all_shares}
use Rattle.xl_desk.specs.declared.desk.Receipt.{Receipt}
use Rattle.xl_desk.specs.declared.fault.DeskErr.{DeskErr}
use Rattle.xl_desk.specs.declared.fault.DeskErr.TheVariants.{Halted, Stopped}
use Rattle.xl_desk.specs.declared.view.View.{View}
use Rattle.xl_house.specs.Journals.{most_entries}
use Rattle.xl_house.specs.Serials.{MayHalt}
use Rattle.xl_replay.specs.Replays.{events_in}

-- why a call of the desk entered nothing
abbrev pub halt_in : DeskErr → Halt
halt_in (Halted reason count) = reason
halt_in (Stopped reason count) = reason

abbrev pub entered_as : Result Receipt DeskErr → Result (Unit {0}) Halt
entered_as (Ok receipt) = Ok tt
entered_as (Err refused) = Err (halt_in refused)

module _ {O : Type 0} where
  -- the pass is the only one of its desk, and has seen the whole journal
  pub record IsAlone (v : View O) : Type 0 where
    pub shares : v.shares ≡ all_shares
    pub whole : length v.seen ≡ v.start + v.made

  -- one event was entered, or the machine is halted
  abbrev pub HasEntered : View O → View O → Event → Result (Unit {0}) Halt → Type 0
  HasEntered before after event (Ok done) = events_in after.seen ≡ events_in before.seen ++ event ∷ []
  HasEntered before after event (Err halt) = (after.seen ≡ before.seen) × (after.halt ≡ Some halt) × MayHalt after.seen halt

-- Of all events those of these entries were entered, and a restart comes next, behind which come these; or none is left; or the
-- machine is halted before the next one.
abbrev pub HasPaused : List Entry → List Event → List Event → Result Bool Halt → Type 0
HasPaused entered rest all (Ok true) = events_in entered ++ Restart ∷ rest ≡ all
HasPaused entered rest all (Ok false) = events_in entered ≡ all
HasPaused entered rest all (Err halt) = (take (length entered) all ≡ events_in entered) × (length entered < length all) × MayHalt entered halt

-- why no more were entered: memory ran out, or the journal is full before the next one
abbrev pub IsStoppedBy : List Entry → List Event → Halt → Type 0
IsStoppedBy entered all NoMemory = Unit {0}
IsStoppedBy entered all (JournalFull count) = (length entered ≡ most_entries) × (length entered < length all)
IsStoppedBy entered all (StartStore count) = ⊥

-- the same, once the desk is closed
abbrev pub HasRun : List Entry → List Event → List Event → Result Bool Halt → Type 0
HasRun entered rest all (Ok true) = events_in entered ++ Restart ∷ rest ≡ all
HasRun entered rest all (Ok false) = events_in entered ≡ all
HasRun entered rest all (Err halt) = (take (length entered) all ≡ events_in entered) × IsStoppedBy entered all halt
