-- The text of a capture.
use Rattle.std.specs.Prelude.{◌≡◌, ℕ, ◌+◌, ◌-◌, ◌^◌, Bool, true, false, not, ◌==◌, ◌&&◌, ◌||◌, nat_le, nat_lt, if◌then◌else◌, List, [], ◌∷◌, ◌++◌, length, take, map, codes, bytes_eq, Option, Some, None, Result, Ok, Err}
use Rattle.std.specs.List.{slice_split, list_all, list_any, last_or}
use Rattle.std.specs.Option.{option_map, option_map_or, option_and_then, option_to_list}
use Rattle.std.specs.Result.{result_ok}
use Rattle.hex.specs.Hex.{decode_of}
pub use Rattle.xl_base.specs.Limits.{most_connections}
use Rattle.xl_base.specs.declared.event.Event.{Event}
use Rattle.xl_base.specs.declared.event.Event.TheVariants.{Open, End, Called, Tick, Restart}
use Rattle.xl_base.specs.declared.event.Kind.{Kind}
use Rattle.xl_base.specs.declared.event.Kind.TheVariants.{Rpc, Smb}
use Rattle.xl_base.specs.declared.name.Protocol.{Protocol}
use Rattle.xl_base.specs.declared.name.Protocol.TheVariants as protocols
use Rattle.xl_base.specs.declared.stable.Mark.{Mark}
use Rattle.xl_base.specs.declared.stable.Recorded.{Recorded}
use Rattle.xl_base.specs.RecordFile.{mark_length, mark_of}
use Rattle.xl_base.specs.Stable.{Stable, is_recorded}
use Rattle.xl_frame.specs.Frames.{Framed}
use Rattle.xl_capture.specs.Addresses.{has_address}
use Rattle.xl_capture.specs.Links.{Link, opened, link_of, without, framed, events_of, still_open, AreDistinct, AreBelow}
use Rattle.xl_capture.specs.Numbers.{number_of}
use Rattle.xl_capture.specs.declared.capture.Capture.{Capture}
use Rattle.xl_capture.specs.declared.capture.Reading.{Reading}
use Rattle.xl_capture.specs.declared.capture.CaptureError.{CaptureError}
use Rattle.xl_capture.specs.declared.capture.CaptureError.TheVariants as errors
use Rattle.xl_capture.specs.declared.capture.LineError.{LineError}
use Rattle.xl_capture.specs.declared.capture.LineError.TheVariants as line
use Rattle.xl_capture.specs.declared.step.Step.{Step}

-- what stands behind the last line end is a line if there is anything
abbrev pub last_line : List ℕ → List (List ℕ)
last_line [] = []
last_line (b ∷ bs) = (b ∷ bs) ∷ []

-- the parts of a text between its line ends as its lines
abbrev pub whole_lines : List (List ℕ) → List (List ℕ)
whole_lines [] = []
whole_lines (part ∷ []) = last_line part
whole_lines (part ∷ next ∷ parts) = part ∷ whole_lines (next ∷ parts)

-- a line feed
abbrev pub is_line_end : ℕ → Bool
is_line_end b = b == 10

-- the lines of a text; the last may lack its end
abbrev pub lines_of : List ℕ → List (List ℕ)
lines_of text = whole_lines (slice_split is_line_end text)

-- a blank is a space or a tab (TEXT-2)
abbrev pub is_blank : ℕ → Bool
is_blank b = b == 32 || b == 9

-- the words of a line, each two parted by one blank (TEXT-2)
abbrev pub words_of : List ℕ → List (List ℕ)
words_of text = slice_split is_blank text

-- a letter of a file's name: a small letter, a digit, a dot, an underscore or a dash
abbrev pub is_name_byte : ℕ → Bool
is_name_byte b = (nat_le 97 b && nat_le b 122) || (nat_le 48 b && nat_le b 57) || b == 46 || b == 95 || b == 45

-- 1 to 64 such letters
abbrev pub is_file_name : List ℕ → Bool
is_file_name name = nat_le 1 (length name) && nat_le (length name) 64 && list_all is_name_byte name

-- a byte of an address: a graphic one of ASCII (TEXT-6)
abbrev pub is_graphic : ℕ → Bool
is_graphic b = nat_le 33 b && nat_le b 126

-- 1 to 64 such bytes
abbrev pub is_address : List ℕ → Bool
is_address address = nat_le 1 (length address) && nat_le (length address) 64 && list_all is_graphic address

-- the bytes of a hex word; a dash stands for none
abbrev pub bytes_of : List ℕ → Option (List ℕ)
bytes_of [] = None
bytes_of (c ∷ cs) = if bytes_eq (c ∷ cs) (codes "-") then Some [] else result_ok (decode_of (c ∷ cs))

-- the file's name is taken
abbrev pub is_named : List ℕ → List (List ℕ) → Bool
is_named name names = list_any (λ held. bytes_eq held name) names

-- the most bytes of a capture, and the most files
abbrev pub most_bytes : ℕ
most_bytes = 268435456

abbrev pub most_files : ℕ
most_files = 1024

-- how long leases, grace and breaks last if nothing is said of it, and the longest that may be said, in milliseconds
abbrev pub default_lease : ℕ
default_lease = 90000

abbrev pub default_grace : ℕ
default_grace = 90000

abbrev pub default_break : ℕ
default_break = 35000

abbrev pub longest_time : ℕ
longest_time = 4000000000

-- as many stores as no step makes; and the most that a line may say
abbrev pub all_stores : ℕ
all_stores = 2 ^ 64 - 1

abbrev pub most_stores : ℕ
most_stores = 9999

-- the record of a server that never started
abbrev pub no_record : Stable
no_record = record { epoch = 0; names = [] }

-- what is known if nothing is read: no file, no address, the default times, no record, no event, nothing open
abbrev pub no_lines : Capture
no_lines = record { files = []; addresses = []; lease = default_lease; grace = default_grace; break_time = default_break; stable = no_record; steps = [] }

abbrev pub no_reading : Reading
no_reading = record { capture = no_lines; links = []; timed = false; counted = false; begun = false }

-- the open connections have distinct numbers, each the place of an event
pub record IsNumbered (r : Reading) : Type 0 where
  pub places : AreBelow (length r.capture.steps) r.links
  pub distinct : AreDistinct r.links

-- a file with this name may be added: no event line stands before it
abbrev pub takes_file : Reading → List ℕ → Bool
takes_file r name = not r.begun && nat_lt (length r.capture.files) most_files && is_file_name name && not (is_named name r.capture.files)

-- with a file more
abbrev pub with_name : Reading → List ℕ → Reading
with_name r name = record r { capture = record r.capture { files = r.capture.files ++ name ∷ [] } }

-- with a line `F NAME`
unfoldable pub with_file : Reading → List ℕ → Option Reading
with_file r name = if takes_file r name then Some (with_name r name) else None

-- this address of this caller may be added: no event line stands before it, and the caller has none yet; its name may be
-- any (TEXT-5)
abbrev pub takes_address : Reading → List ℕ → List ℕ → Bool
takes_address r caller address = is_address address && not r.begun && not (has_address caller r.capture.addresses)

-- with the address of a caller more
abbrev pub with_caller : Reading → List ℕ → List ℕ → Reading
with_caller r caller address = record r { capture = record r.capture { addresses = r.capture.addresses ++ (caller, address) ∷ [] } }

-- with the address of a caller
unfoldable pub with_address : Reading → List ℕ → List ℕ → Option Reading
with_address r caller address = if takes_address r caller address then Some (with_caller r caller address) else None

-- with a line `H HEX ADDR`
unfoldable pub with_host : Reading → List ℕ → List ℕ → Option Reading
with_host r hex address = option_and_then (λ caller. with_address r caller address) (bytes_of hex)

-- a time in milliseconds, from 1 to the longest
abbrev pub time_of : List ℕ → Option ℕ
time_of word = option_and_then (λ n. if nat_le 1 n && nat_le n longest_time then Some n else None) (number_of word)

-- with these times, if no event line stands before them, and no times
abbrev pub with_times : Reading → ℕ → ℕ → ℕ → Option Reading
with_times r lease grace break_time =
    if r.begun || r.timed then None
    else Some (record r { capture = record r.capture { lease = lease; grace = grace; break_time = break_time }; timed = true })

-- with a line `L LEASE GRACE BREAK`
unfoldable pub with_lasting : Reading → List ℕ → List ℕ → List ℕ → Option Reading
with_lasting r lease grace break_time =
    option_and_then (λ a. option_and_then (λ b. option_and_then (λ c. with_times r a b c) (time_of break_time)) (time_of grace)) (time_of lease)

-- an epoch: a number below 2 ^ 32
abbrev pub epoch_of : List ℕ → Option ℕ
epoch_of word = option_and_then (λ n. if nat_lt n (2 ^ 32) then Some n else None) (number_of word)

-- with this epoch, if no event line stands before it, and no epoch
abbrev pub with_count : Reading → ℕ → Option Reading
with_count r epoch =
    if r.begun || r.counted then None
    else Some (record r { capture = record r.capture { stable = record r.capture.stable { epoch = epoch } }; counted = true })

-- with a line `K EPOCH`
unfoldable pub with_epoch : Reading → List ℕ → Option Reading
with_epoch r word = option_and_then (λ epoch. with_count r epoch) (epoch_of word)

-- whose clients are recorded by this word: those of NFSv4, or of NLM
abbrev pub protocol_of : List ℕ → Option Protocol
protocol_of word = if bytes_eq word (codes "nfs") then Some protocols.Nfs else if bytes_eq word (codes "nlm") then Some protocols.Nlm else None

-- this client may be recorded: no event line stands before it, and it isn't recorded yet; its name may be any, and the
-- record of any length (TEXT-5)
abbrev pub takes_client : Reading → Recorded → Bool
takes_client r client = not r.begun && not (is_recorded client r.capture.stable.names)

-- with a recorded client more
abbrev pub with_recorded : Reading → Recorded → Reading
with_recorded r client = record r { capture = record r.capture { stable = record r.capture.stable { names = r.capture.stable.names ++ client ∷ [] } } }

-- with the client of this name, with this mark or none
unfoldable pub with_client : Reading → Protocol → List ℕ → Option Mark → Option Reading
with_client r protocol name mark =
    if takes_client r (record { protocol = protocol; name = name; mark = mark }) then Some (with_recorded r (record { protocol = protocol; name = name; mark = mark })) else None

-- with a line `N PROTOCOL HEX`
unfoldable pub with_named : Reading → List ℕ → List ℕ → Option Reading
with_named r word hex = option_and_then (λ protocol. option_and_then (λ name. with_client r protocol name None) (bytes_of hex)) (protocol_of word)

-- the mark of these bytes, if a client of this protocol has one of so many
abbrev pub mark_said : Protocol → List ℕ → Option Mark
mark_said protocol bytes = if length bytes == mark_length protocol then Some (mark_of protocol bytes) else None

-- with a line `N PROTOCOL HEX MARK`
unfoldable pub with_marked : Reading → List ℕ → List ℕ → List ℕ → Option Reading
with_marked r word hex mark =
    option_and_then (λ protocol. option_and_then (λ name. option_and_then (λ bytes. option_and_then (λ kept. with_client r protocol name (Some kept)) (mark_said protocol bytes)) (bytes_of mark)) (bytes_of hex)) (protocol_of word)

-- these events, in each of which so many stores succeed
abbrev pub steps_of : ℕ → List Event → List Step
steps_of stores events = map (λ event. record { event = event; stores = stores }) events

-- With an event line that makes these events, or none, in each of which so many stores succeed, and leaves these connections
-- open: no header line may follow (TEXT-4).
abbrev pub with_events : Reading → ℕ → List Event → List Link → Reading
with_events r stores events links = record r { capture = record r.capture { steps = r.capture.steps ++ steps_of stores events }; links = links; begun = true }

-- what a connection of this word speaks: ONC RPC, or SMB
abbrev pub kind_of : List ℕ → Option Kind
kind_of word = if bytes_eq word (codes "rpc") then Some Rpc else if bytes_eq word (codes "smb") then Some Smb else None

-- with one connection more, of the number of its opening's place; none if as many are open as may be
abbrev pub with_link : List Link → ℕ → Kind → List Link
with_link links place kind = if nat_lt (length links) most_connections then links ++ opened place kind ∷ [] else links

-- with the opening of a connection of this kind, which is an event also if none is opened (TEXT-9)
unfoldable pub with_opened : Reading → ℕ → Kind → Reading
with_opened r stores kind = with_events r stores (Open kind ∷ []) (with_link r.links (length r.capture.steps) kind)

-- with a line `O KIND`
unfoldable pub with_open : Reading → ℕ → List ℕ → Option Reading
with_open r stores word = option_map (λ kind. with_opened r stores kind) (kind_of word)

-- with frames of a connection's stream; others are the open connections beside it, and it stands behind them
abbrev pub with_frames : Reading → ℕ → List Link → Link → Framed → Reading
with_frames r stores others l f = with_events r stores (events_of l.conn f) (others ++ option_to_list (still_open l f))

-- with bytes of a connection's stream, if it is open, and else without an event (TEXT-10)
abbrev pub with_stream : Reading → ℕ → List Link → Option Link → List ℕ → Reading
with_stream r stores others None bytes = with_events r stores [] others
with_stream r stores others (Some l) bytes = with_frames r stores others l (framed l bytes)

-- with bytes that come by the connection of this number; nothing happens if it isn't open
unfoldable pub with_piece : Reading → ℕ → ℕ → List ℕ → Reading
with_piece r stores conn bytes = with_stream r stores (without conn r.links) (link_of conn r.links) bytes

-- with a line `B CONN HEX`
unfoldable pub with_bytes : Reading → ℕ → List ℕ → List ℕ → Option Reading
with_bytes r stores conn hex = option_and_then (λ n. option_map (λ bytes. with_piece r stores n bytes) (bytes_of hex)) (number_of conn)

-- with the end of a connection, if it is open, and else without an event (TEXT-10)
abbrev pub with_last : Reading → ℕ → List Link → Option Link → Reading
with_last r stores others None = with_events r stores [] others
with_last r stores others (Some l) = with_events r stores (End l.conn ∷ []) others

-- with the end of the connection of this number, if it is open
unfoldable pub with_ended : Reading → ℕ → ℕ → Reading
with_ended r stores conn = with_last r stores (without conn r.links) (link_of conn r.links)

-- with a line `E CONN`
unfoldable pub with_end : Reading → ℕ → List ℕ → Option Reading
with_end r stores conn = option_map (λ n. with_ended r stores n) (number_of conn)

-- with the end of a call of any number, with a reply or without one (TEXT-7)
unfoldable pub with_called : Reading → ℕ → ℕ → Option (List ℕ) → Reading
with_called r stores call reply = with_events r stores (Called call reply ∷ []) r.links

-- with a line `C CALL HEX`, the reply of any length; a dash is a reply without bytes (TEXT-5, TEXT-8)
unfoldable pub with_reply : Reading → ℕ → List ℕ → List ℕ → Option Reading
with_reply r stores call hex = option_and_then (λ n. option_map (λ bytes. with_called r stores n (Some bytes)) (bytes_of hex)) (number_of call)

-- with a line `C CALL`: no reply (TEXT-8)
unfoldable pub with_no_reply : Reading → ℕ → List ℕ → Option Reading
with_no_reply r stores call = option_map (λ n. with_called r stores n None) (number_of call)

-- with a line `T MS`
unfoldable pub with_tick : Reading → ℕ → List ℕ → Option Reading
with_tick r stores moment = option_map (λ n. with_events r stores (Tick (record { 0 = n }) ∷ []) r.links) (number_of moment)

-- with a line `R`: no connection is open behind it
abbrev pub with_restart : Reading → ℕ → Reading
with_restart r stores = with_events r stores (Restart ∷ []) []

-- with an event line, given by its words without ` !n`; in each of its entries so many stores succeed
unfoldable pub with_event : Reading → ℕ → List (List ℕ) → Option Reading
with_event r stores (a ∷ []) = if bytes_eq a (codes "R") then Some (with_restart r stores) else None
with_event r stores (a ∷ b ∷ []) =
    if bytes_eq a (codes "O") then with_open r stores b
    else if bytes_eq a (codes "E") then with_end r stores b
    else if bytes_eq a (codes "C") then with_no_reply r stores b
    else if bytes_eq a (codes "T") then with_tick r stores b
    else None
with_event r stores (a ∷ b ∷ d ∷ []) =
    if bytes_eq a (codes "B") then with_bytes r stores b d
    else if bytes_eq a (codes "C") then with_reply r stores b d
    else None
with_event r stores words = None

-- so many stores, if a line may say so
abbrev pub few_stores : ℕ → Option ℕ
few_stores n = if nat_le n most_stores then Some n else None

-- the number of stores that a word `!n` says
abbrev pub stores_of : List ℕ → Option ℕ
stores_of [] = None
stores_of (b ∷ digits) = if b == 33 then option_and_then few_stores (number_of digits) else None

-- what the last word says of stores
abbrev pub said_stores : List (List ℕ) → Option ℕ
said_stores words = option_and_then stores_of (last_or None words)

-- the words before the last
abbrev pub all_but_last : List (List ℕ) → List (List ℕ)
all_but_last [] = []
all_but_last (word ∷ []) = []
all_but_last (word ∷ next ∷ words) = word ∷ all_but_last (next ∷ words)

-- with an event line, given by its words, of which the last may say how many stores succeed
abbrev pub with_entries : Reading → List (List ℕ) → Option ℕ → Option Reading
with_entries r words None = with_event r all_stores words
with_entries r words (Some stores) = with_event r stores (all_but_last words)

-- with one line more, given by its words: a header line, or an event line, which may end with ` !n` (TEXT-14)
unfoldable pub with_words : Reading → List (List ℕ) → Option Reading
with_words r (a ∷ b ∷ []) =
    if bytes_eq a (codes "F") then with_file r b
    else if bytes_eq a (codes "K") then with_epoch r b
    else with_entries r (a ∷ b ∷ []) (said_stores (a ∷ b ∷ []))
with_words r (a ∷ b ∷ d ∷ []) =
    if bytes_eq a (codes "H") then with_host r b d
    else if bytes_eq a (codes "N") then with_named r b d
    else with_entries r (a ∷ b ∷ d ∷ []) (said_stores (a ∷ b ∷ d ∷ []))
with_words r (a ∷ b ∷ d ∷ e ∷ []) =
    if bytes_eq a (codes "L") then with_lasting r b d e
    else if bytes_eq a (codes "N") then with_marked r b d e
    else with_entries r (a ∷ b ∷ d ∷ e ∷ []) (said_stores (a ∷ b ∷ d ∷ e ∷ []))
with_words r words = with_entries r words (said_stores words)

-- an empty line, and one that begins with `#`, is passed over
abbrev pub is_passed_over : List ℕ → Bool
is_passed_over [] = true
is_passed_over (b ∷ bs) = b == 35

-- with one line more; none if it isn't in the grammar
unfoldable pub with_line : Reading → List ℕ → Option Reading
with_line r line = if is_passed_over line then Some r else with_words r (words_of line)

-- no line follows
abbrev pub is_last : List (List ℕ) → Bool
is_last [] = true
is_last (l ∷ ls) = false

-- What is known with these lines more, or the number of the first that isn't in the grammar. n lines stand before them;
-- past says that the text goes past its most bytes, with the last of its lines.
unfoldable pub with_lines : Bool → Reading → ℕ → List (List ℕ) → Result Reading ℕ
with_lines past r n [] = Ok r
with_lines past r n (l ∷ ls) =
    if past && is_last ls then Err (n + 1)
    else option_map_or (λ s. with_lines past s (n + 1) ls) (with_line r l) (Err (n + 1))

-- the capture in what is known at the end
abbrev pub capture_in : Result Reading ℕ → Result Capture ℕ
capture_in (Ok r) = Ok r.capture
capture_in (Err line) = Err line

-- what is looked at of a text: no more than one byte past the most
abbrev pub looked_at : List ℕ → List ℕ
looked_at text = take (most_bytes + 1) text

-- the capture that a text is; if the text goes past the most bytes, the line with the byte past them is bad (TEXT-3)
unfoldable pub captured : List ℕ → Result Capture ℕ
captured text = capture_in (with_lines (nat_lt most_bytes (length text)) no_reading 0 (lines_of (looked_at text)))

-- the line that an error names, none for want of memory
abbrev pub bad_line : CaptureError → Option ℕ
bad_line errors.NoMemory = None
bad_line (errors.BadLine n) = Some n

-- a function that adds a line gave what the definition gives, unless memory ran out
abbrev pub Follows : Result (Unit {0}) LineError → Option Reading → Reading → Type 0
Follows (Ok u) given new = given ≡ Some new
Follows (Err line.Bad) given new = given ≡ None
Follows (Err line.NoMemory) given new = Unit {0}

-- the same of a function that reads a value, seen by view
abbrev pub ReadsAs : {X Y : Type 0} → (X → Y) → Result X LineError → Option Y → Type 0
ReadsAs view (Ok x) given = given ≡ Some (view x)
ReadsAs view (Err line.Bad) given = given ≡ None
ReadsAs view (Err line.NoMemory) given = Unit {0}
