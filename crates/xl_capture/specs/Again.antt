-- The journals that their captures say whole.
use Rattle.std.specs.Prelude.{◌≡◌, ℕ, ◌+◌, ◌^◌, ◌<◌, ◌≤◌, true, false, not, ◌==◌, nat_lt, if◌then◌else◌, List, [], ◌∷◌, ◌++◌, length, filter, map, Option, Some, None}
use Rattle.std.specs.List.{AllByRecursion}
use Rattle.xl_base.specs.Codec.{IsBytes}
use Rattle.xl_base.specs.Limits.{most_connections, most_message_bytes}
use Rattle.xl_base.specs.Lists.{IsIn}
use Rattle.xl_base.specs.Stable.{AreRecordable, IsWhole, mark_bytes}
use Rattle.xl_base.specs.declared.stable.Mark.{Mark}
use Rattle.xl_base.specs.declared.event.Event.{Event}
use Rattle.xl_base.specs.declared.event.Event.TheVariants.{Open, Message, End, Called, Tick, Restart}
use Rattle.xl_base.specs.declared.journal.Entry.{Entry}
use Rattle.xl_base.specs.declared.journal.Head.{Head}
use Rattle.xl_base.specs.declared.journal.Journal.{Journal}
use Rattle.xl_capture.specs.Addresses.{has_address}
use Rattle.xl_capture.specs.Capture.{is_file_name, is_address, is_named, most_files, longest_time, most_stores}
use Rattle.xl_capture.specs.declared.capture.Capture.{Capture}
use Rattle.xl_capture.specs.declared.step.Step.{Step}

-- ---- what a run began from

-- these files have names, and each another than those before it
abbrev pub AreNamed : List (List ℕ) → List (List ℕ) → Type 0
AreNamed before [] = Unit {0}
AreNamed before (f ∷ fs) = (is_file_name f ≡ true) × (is_named f before ≡ false) × AreNamed (before ++ f ∷ []) fs

-- these callers have addresses, and each another name than those before it
abbrev pub AreAddressed : List (List ℕ × List ℕ) → List (List ℕ × List ℕ) → Type 0
AreAddressed before [] = Unit {0}
AreAddressed before (a ∷ rest) = IsBytes a.0 × (is_address a.1 ≡ true) × (has_address a.0 before ≡ false) × AreAddressed (before ++ a ∷ []) rest

-- a time that a line may say
abbrev pub IsTime : ℕ → Type 0
IsTime n = (1 ≤ n) × (n ≤ longest_time)

-- the mark, if there is one, is of bytes
abbrev pub IsMarkBytes : Option Mark → Type 0
IsMarkBytes None = Unit {0}
IsMarkBytes (Some mark) = IsBytes (mark_bytes mark)

-- header lines say this head
pub record IsHeaded (h : Head) : Type 0 where
  pub files : AreNamed [] h.exports.files
  pub few : length h.exports.files ≤ most_files
  pub addresses : AreAddressed [] h.exports.addresses
  pub lease : IsTime h.exports.lease
  pub grace : IsTime h.exports.grace
  pub break_time : IsTime h.exports.break_time
  pub epoch : h.«record».epoch < 2 ^ 32
  pub names : AreRecordable h.«record».names
  pub bytes : AllByRecursion (λ n. IsBytes n.name) h.«record».names
  pub marks : AllByRecursion (λ n. IsWhole n.mark × IsMarkBytes n.mark) h.«record».names

-- ---- entries

-- the connections that are open behind an event at this place, by their numbers
abbrev pub opened_after : List ℕ → ℕ → Event → List ℕ
opened_after opened place (Open kind) = if nat_lt (length opened) most_connections then opened ++ place ∷ [] else opened
opened_after opened place (End number) = filter (λ c. not (c == number)) opened
opened_after opened place Restart = []
opened_after opened place _ = opened

-- the bytes of a reply, if there is one
abbrev pub AreReplied : Option (List ℕ) → Type 0
AreReplied None = Unit {0}
AreReplied (Some bytes) = IsBytes bytes

-- a line says this event while these connections are open: what comes by a connection comes by one of them
abbrev pub IsSaid : List ℕ → Event → Type 0
IsSaid opened (Open kind) = Unit {0}
IsSaid opened (Message number bytes) = IsIn number opened × (length bytes ≤ most_message_bytes) × IsBytes bytes
IsSaid opened (End number) = IsIn number opened
IsSaid opened (Called call reply) = (call < 2 ^ 64) × AreReplied reply
IsSaid opened (Tick moment) = moment.0 < 2 ^ 64
IsSaid opened Restart = Unit {0}

-- lines say these entries, of which the first stands at this place
abbrev pub AreSaid : List ℕ → ℕ → List Entry → Type 0
AreSaid opened place [] = Unit {0}
AreSaid opened place (e ∷ es) = IsSaid opened e.event × (e.stores ≤ most_stores) × AreSaid (opened_after opened place e.event) (place + 1) es

-- ---- the whole

-- a capture says this journal whole, but for what was sent and when it began
pub record IsSayable (j : Journal) : Type 0 where
  pub head : IsHeaded j.head
  pub entries : AreSaid [] 0 j.entries
  pub few : length j.entries < 2 ^ 64

-- an entry as a step
abbrev pub step_of : Entry → Step
step_of e = record { event = e.event; stores = e.stores }

-- what the capture of a journal says
abbrev pub said_by : Journal → Capture
said_by j = record {
  files = j.head.exports.files;
  addresses = j.head.exports.addresses;
  lease = j.head.exports.lease;
  grace = j.head.exports.grace;
  break_time = j.head.exports.break_time;
  stable = j.head.«record»;
  steps = map step_of j.entries;
}
