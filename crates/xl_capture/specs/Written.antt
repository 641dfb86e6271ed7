-- The capture that a journal is written as.
use Rattle.std.specs.Prelude.{ℕ, nat_le, if◌then◌else◌, List, [], ◌∷◌, ◌++◌, codes, length, slice_get, Option, Some, None}
use Rattle.std.specs.Fmt.{decimal}
use Rattle.xl_base.specs.Limits.{most_message_bytes}
use Rattle.xl_base.specs.declared.event.Event.{Event}
use Rattle.xl_base.specs.declared.event.Event.TheVariants.{Open, Message, End, Called, Tick, Restart}
use Rattle.xl_base.specs.declared.event.Kind.{Kind}
use Rattle.xl_base.specs.declared.event.Kind.TheVariants.{Rpc, Smb}
use Rattle.xl_base.specs.declared.journal.Entry.{Entry}
use Rattle.xl_base.specs.declared.journal.Exports.{Exports}
use Rattle.xl_base.specs.declared.journal.Head.{Head}
use Rattle.xl_base.specs.declared.journal.Journal.{Journal}
use Rattle.xl_base.specs.declared.name.Protocol.{Protocol}
use Rattle.xl_base.specs.declared.name.Protocol.TheVariants.{Nlm}
use Rattle.xl_base.specs.declared.stable.Mark.{Mark}
use Rattle.xl_base.specs.declared.stable.Recorded.{Recorded}
use Rattle.xl_base.specs.Stable.{mark_bytes}
use Rattle.xl_frame.specs.Frames.{wrapped}
use Rattle.xl_names.specs.Texts.{hex_word}

-- ---- header lines

abbrev pub file_lines : List (List ℕ) → List ℕ
file_lines [] = []
file_lines (f ∷ fs) = (codes "F " ++ f ++ codes "\n") ++ file_lines fs

abbrev pub address_lines : List (List ℕ × List ℕ) → List ℕ
address_lines [] = []
address_lines (a ∷ addresses) = (codes "H " ++ hex_word a.0 ++ codes " " ++ a.1 ++ codes "\n") ++ address_lines addresses

unfoldable pub times_line : Exports → List ℕ
times_line e = codes "L " ++ decimal e.lease ++ codes " " ++ decimal e.grace ++ codes " " ++ decimal e.break_time ++ codes "\n"

abbrev pub epoch_line : ℕ → List ℕ
epoch_line epoch = codes "K " ++ decimal epoch ++ codes "\n"

-- whose client is recorded; no other has a name there
abbrev pub protocol_word : Protocol → List ℕ
protocol_word Nlm = codes "nlm"
protocol_word _ = codes "nfs"

-- the mark of a recorded client behind a blank, if it has one
abbrev pub mark_word : Option Mark → List ℕ
mark_word None = []
mark_word (Some mark) = codes " " ++ hex_word (mark_bytes mark)

abbrev pub name_lines : List Recorded → List ℕ
name_lines [] = []
name_lines (n ∷ names) = (codes "N " ++ protocol_word n.protocol ++ codes " " ++ hex_word n.name ++ mark_word n.mark ++ codes "\n") ++ name_lines names

-- the lines of what is exported, and of the record that the first start loaded
abbrev pub header_lines : Head → List ℕ
header_lines h = file_lines h.exports.files ++ address_lines h.exports.addresses ++ times_line h.exports ++ epoch_line h.«record».epoch ++ name_lines h.«record».names

-- ---- event lines

abbrev pub kind_word : Kind → List ℕ
kind_word Rpc = codes "rpc"
kind_word Smb = codes "smb"

-- what a connection speaks that this event opened; ONC RPC if it opened none
abbrev pub opened_by : Event → Kind
opened_by (Open kind) = kind
opened_by _ = Rpc

abbrev pub opened_in : Option Entry → Kind
opened_in None = Rpc
opened_in (Some e) = opened_by e.event

-- what the connection of this number speaks, which is the place of its opening
abbrev pub kind_at : List Entry → ℕ → Kind
kind_at es number = opened_in (slice_get es number)

abbrev pub answer_words : Option (List ℕ) → List ℕ
answer_words None = []
answer_words (Some bytes) = codes " " ++ hex_word bytes

-- the end of an event line: how many stores succeeded in the event
abbrev pub stores_end : ℕ → List ℕ
stores_end stores = codes " !" ++ decimal stores ++ codes "\n"

-- the line of a message as one whole frame; nothing of one that is too long for a frame, which no stream gives
unfoldable pub message_line : Kind → ℕ → List ℕ → ℕ → List ℕ
message_line kind number bytes stores =
    if nat_le (length bytes) most_message_bytes then (codes "B " ++ decimal number ++ codes " ") ++ hex_word (wrapped kind bytes) ++ stores_end stores else []

-- the line of an event
unfoldable pub event_line : List Entry → Event → ℕ → List ℕ
event_line es (Open kind) stores = codes "O " ++ kind_word kind ++ stores_end stores
event_line es (Message number bytes) stores = message_line (kind_at es number) number bytes stores
event_line es (End number) stores = codes "E " ++ decimal number ++ stores_end stores
event_line es (Called call answer) stores = (codes "C " ++ decimal call) ++ answer_words answer ++ stores_end stores
event_line es (Tick moment) stores = codes "T " ++ decimal moment.0 ++ stores_end stores
event_line es Restart stores = codes "R" ++ stores_end stores

abbrev pub event_lines : List Entry → List Entry → List ℕ
event_lines all [] = []
event_lines all (e ∷ es) = event_line all e.event e.stores ++ event_lines all es

-- the capture of a journal: what it began from, and then a line for each entry (TEXT-15)
unfoldable pub capture_of : Journal → List ℕ
capture_of j = header_lines j.head ++ event_lines j.entries j.entries
