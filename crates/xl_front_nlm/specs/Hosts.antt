-- The hosts: the caller names that were granted something or waited since the start, in order of arrival.
use Rattle.std.specs.Prelude.{◌≡◌, ℕ, ◌-◌, ◌<◌, ◌≤◌, Bool, true, false, not, bytes_eq, if◌then◌else◌, List, [], ◌∷◌, ◌++◌, length, Option, Some, None}
use Rattle.std.specs.List.{list_any}
use Rattle.xl_base.specs.Lists.{Pairwise}
use Rattle.xl_wait.specs.declared.waiter.Rooms.{Rooms}
use Rattle.xl_core.specs.Limits.{most_hosts, most_opens, most_owners}
use Rattle.xl_core.specs.declared.ask.Answer.{Answer}
use Rattle.xl_core.specs.declared.ask.Answer.TheVariants.{Granted, Queued}

-- the caller is a host already (NLM-17)
abbrev pub is_host : List ℕ → List (List ℕ) → Bool
is_host caller hosts = list_any (bytes_eq caller) hosts

-- the hosts once this one came
abbrev pub host_entered : List ℕ → List (List ℕ) → List (List ℕ)
host_entered caller hosts = if is_host caller hosts then hosts else hosts ++ caller ∷ []

-- what the front keeps: at most 256 hosts, each once
abbrev pub are_apart : List ℕ → List ℕ → Bool
are_apart a b = not (bytes_eq a b)

-- hosts are few, and each is there once
abbrev pub AreHosts : List (List ℕ) → Type 0
AreHosts hosts = (length hosts ≤ most_hosts) × Pairwise are_apart hosts

-- the room that is left in the tables of the fronts; the others have no rows
abbrev pub rooms : List (List ℕ) → Rooms
rooms hosts = record { hosts = most_hosts - length hosts; owners = most_owners; opens = most_opens }

-- the rows that a lock or a share of this caller adds
abbrev pub host_rows : List ℕ → List (List ℕ) → Rooms
host_rows caller hosts = record { hosts = if is_host caller hosts then 0 else 1; owners = 0; opens = 0 }

-- a grant and a wait make the caller a host (NLM-17)
abbrev pub makes_host : Answer → Bool
makes_host (Granted c) = true
makes_host (Queued id) = true
makes_host _ = false

-- the hosts once the caller's ask has this answer
abbrev pub hosts_after : Answer → List ℕ → List (List ℕ) → List (List ℕ)
hosts_after answer caller hosts = if makes_host answer then host_entered caller hosts else hosts

-- there is room for the caller, if the answer makes it a new host
abbrev pub HasHostRoom : Option (List ℕ) → Answer → List (List ℕ) → Type 0
HasHostRoom (Some caller) answer hosts = makes_host answer ≡ true → is_host caller hosts ≡ false → length hosts < most_hosts
HasHostRoom None answer hosts = Unit {0}
