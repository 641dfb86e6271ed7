-- What the program's words ask for.
use Rattle.std.specs.Prelude.{ℕ, ◌+◌, ◌^◌, ◌≤◌, ◌<◌, take, drop, position, Bool, true, false, ◌&&◌, ◌==◌, nat_lt, nat_le, if◌then◌else◌, List, [], ◌∷◌, codes, bytes_eq, Option, Some, None, option_map}
use Rattle.std.specs.Option.{option_and_then}
use Rattle.clap.specs.declared.builder.action.ArgAction.TheVariants.{Set}
use Rattle.clap.specs.Words.{App, Row, Rule, Text, fault_of, first_of, new_app, new_rule, subcommand_of, with_rule, with_subcommand}
use Rattle.clap.specs.Kinds.{Kinds}
use Rattle.xl_words.specs.declared.words.Job.{Job}
use Rattle.xl_words.specs.declared.words.Job.TheVariants.{Replay, Show, Make, Serve}
use Rattle.xl_capture.specs.Numbers.{number_of}

-- an argument that has to be given
abbrev pub wanted : Text → Rule
wanted id = record (new_rule id) { required = true }

-- `make` and its two numbers
abbrev pub make_command : App
make_command = with_rule (with_rule (new_app (codes "make")) (wanted (codes "SEED"))) (wanted (codes "COUNT"))

-- an option with a value, under its own name
abbrev pub option_of : Text → Bool → Rule
option_of id required = record (new_rule id) { long = Some id; action = Some Set; required = required }

-- `serve` and its options
abbrev pub serve_command : App
serve_command =
    with_rule (with_rule (with_rule (with_rule (with_rule (with_rule (new_app (codes "serve")) (option_of (codes "rpc") true)) (option_of (codes "smb") true)) (option_of (codes "record") true))
    (option_of (codes "lanes") false)) (option_of (codes "turns") false)) (option_of (codes "listen") false)

-- the command line: a command that wants one of its subcommands
abbrev pub bare : App
bare = record { top = record (new_app (codes "xlockd")).top { subcommand_required = true }; subs = [] }

unfoldable pub program : App
program = with_subcommand (with_subcommand (with_subcommand (with_subcommand bare (new_app (codes "replay")).top) (new_app (codes "show")).top) make_command.top) serve_command.top

-- if nothing is wrong with the words
abbrev pub unless_faulty : {X : Type 0} → Kinds → Option X → Option X
unless_faulty [] x = x
unless_faulty (k ∷ ks) x = None

-- the subcommand that the words name, with its own words, if nothing is wrong with them; they ask for no help then (TEXT-11)
unfoldable pub asked : List Text → Option (Text × List Row)
asked words = unless_faulty (fault_of program words) (subcommand_of program words)

-- the most calls that are made
abbrev pub most_made : ℕ
most_made = 1000000

-- the seed is below 2 ^ 31, and there are no more calls than that
abbrev pub fits : ℕ → ℕ → Bool
fits seed count = nat_lt seed (2 ^ 31) && nat_le count most_made

abbrev pub make_of : ℕ → ℕ → Option Job
make_of seed count = if fits seed count then Some (Make seed count) else None

-- the number that a word of the command is, without sign and without leading zeros
abbrev pub number_in : Text → List Row → Option ℕ
number_in id rows = option_and_then number_of (first_of id rows)

abbrev pub make_job : Option ℕ → Option ℕ → Option Job
make_job seed count = option_and_then (λ n. option_and_then (make_of n) count) seed

-- the most lanes of a kind, and the most turns
abbrev pub most_lanes : ℕ
most_lanes = 16

abbrev pub most_turns : ℕ
most_turns = 1000000000

-- a number from 1 to the most
abbrev pub number_to : Option ℕ → ℕ → Option ℕ
number_to None most = None
number_to (Some n) most = if nat_le 1 n && nat_le n most then Some n else None

abbrev pub port_in : Text → List Row → Option ℕ
port_in id rows = number_to (number_in id rows) 65535

-- the number of an option, or this one if the option isn't there
abbrev pub given_or : Option Text → ℕ → ℕ → Option ℕ
given_or None otherwise most = Some otherwise
given_or (Some word) otherwise most = number_to (number_of word) most

abbrev pub number_or : Text → ℕ → ℕ → List Row → Option ℕ
number_or id otherwise most rows = given_or (first_of id rows) otherwise most

-- a dot
abbrev pub is_dot : ℕ → Bool
is_dot b = b == 46

-- what stands before the first dot, and what behind it
abbrev pub parted_at : Option ℕ → Text → Text × Option Text
parted_at None text = (text, None)
parted_at (Some at) text = (take at text, Some (drop (at + 1) text))

abbrev pub parted : Text → Text × Option Text
parted text = parted_at (position is_dot text) text

-- a number of a byte
abbrev pub byte_from : Option ℕ → Option ℕ
byte_from None = None
byte_from (Some n) = if nat_lt n 256 then Some n else None

-- the byte that the text up to its first dot is, and what stands behind the dot
abbrev pub next_byte : Option Text → Option (ℕ × Option Text)
next_byte None = None
next_byte (Some text) = option_map (λ n. (n, (parted text).1)) (byte_from (number_of (parted text).0))

abbrev pub unless_more : ℕ → ℕ → ℕ → ℕ → Option Text → Option (ℕ × ℕ × ℕ × ℕ)
unless_more a b c d None = Some (a, b, c, d)
unless_more a b c d (Some rest) = None

-- an IPv4 address of four decimal numbers with dots between them (RFC 1123 2.1)
unfoldable pub address_of : Text → Option (ℕ × ℕ × ℕ × ℕ)
address_of text = option_and_then (λ a. option_and_then (λ b. option_and_then (λ c. option_and_then (λ d. unless_more a.0 b.0 c.0 d.0 d.1) (next_byte c.1)) (next_byte b.1)) (next_byte a.1)) (next_byte (Some text))

abbrev pub given_address : Option Text → Option (Option (ℕ × ℕ × ℕ × ℕ))
given_address None = Some None
given_address (Some word) = option_map Some (address_of word)

unfoldable pub serve_job : List Row → Option Job
serve_job rows = option_and_then (λ rpc. option_and_then (λ smb. option_and_then (λ lanes. option_and_then (λ turns. option_map (λ address. Serve (record { rpc = rpc; smb = smb; lanes = lanes; turns = turns; address = address })) (given_address (first_of (codes "listen") rows)))
    (number_or (codes "turns") 1000000 most_turns rows)) (number_or (codes "lanes") 2 most_lanes rows)) (port_in (codes "smb") rows)) (port_in (codes "rpc") rows)

-- the job of a subcommand with its own words
abbrev pub job_by : Text → List Row → Option Job
job_by name rows =
    if bytes_eq name (codes "replay") then Some Replay
    else if bytes_eq name (codes "show") then Some Show
    else if bytes_eq name (codes "make") then make_job (number_in (codes "SEED") rows) (number_in (codes "COUNT") rows)
    else if bytes_eq name (codes "serve") then serve_job rows
    else None

abbrev pub job_of : Option (Text × List Row) → Option Job
job_of None = None
job_of (Some p) = job_by p.0 p.1

-- what the words ask for, the program's name first
abbrev pub job : List Text → Option Job
job words = job_of (asked words)

-- the numbers of a job are in their ranges
abbrev pub HasFit : Job → Type 0
HasFit (Make seed count) = (seed < 2 ^ 31) × (count ≤ most_made)
HasFit (Serve s) = (1 ≤ s.rpc) × (1 ≤ s.smb) × (1 ≤ s.lanes) × (s.lanes ≤ most_lanes) × (1 ≤ s.turns) × (s.turns ≤ most_turns)
HasFit job = Unit {0}

-- a job that serves lanes and callers
abbrev pub is_server : Option Job → Bool
is_server (Some (Serve s)) = true
is_server _ = false

-- a job that reads the input
abbrev pub is_reader : Option Job → Bool
is_reader (Some (Make seed count)) = false
is_reader _ = true
