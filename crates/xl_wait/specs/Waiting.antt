-- The list of those who wait, in order of arrival.
use Rattle.std.specs.Prelude.{◌≡◌, ◌≢◌, ℕ, ◌+◌, ◌-◌, nat_lt, Bool, true, false, not, ◌==◌, List, [], ◌∷◌, drop, map, Option, Some, None, if◌then◌else◌}
use Rattle.std.specs.BTreeMap.{BTreeMap, get}
use Rattle.std.specs.List.{filter, list_any}
use Rattle.std.specs.Option.{unwrap_or}
use Rattle.std.specs.Ordering.{nat_cmp}
use Rattle.xl_matrix.specs.declared.claim.Claim.{Claim}
use Rattle.xl_wait.specs.declared.waiter.Rooms.{Rooms}
use Rattle.xl_wait.specs.declared.waiter.Waiter.{Waiter}

-- no room, or no rows
abbrev pub no_rows : Rooms
no_rows = record { hosts = 0; owners = 0; opens = 0 }

-- a waiter of this number is among them
abbrev pub is_waiting : ℕ → List Waiter → Bool
is_waiting id [] = false
is_waiting id (w ∷ ws) = if w.id == id then true else is_waiting id ws

-- without the first waiter of this number
abbrev pub cancelled : ℕ → List Waiter → List Waiter
cancelled id [] = []
cancelled id (w ∷ ws) = if w.id == id then ws else w ∷ cancelled id ws

-- the number is the first of these; those behind the first
abbrev pub is_first : ℕ → List ℕ → Bool
is_first id [] = false
is_first id (first ∷ rest) = id == first

abbrev pub rest_of : List ℕ → List ℕ
rest_of [] = []
rest_of (first ∷ rest) = rest

-- without the waiters of these numbers, which stand in this order: each is the first of its number behind the one before it
abbrev pub without_all : List ℕ → List Waiter → List Waiter
without_all ids [] = []
without_all ids (w ∷ ws) = if is_first w.id ids then without_all (rest_of ids) ws else w ∷ without_all ids ws

-- the waiter came by this connection
abbrev pub came_by : Option ℕ → ℕ → Bool
came_by None conn = false
came_by (Some own) conn = own == conn

-- the numbers of the waiters that came by this connection
abbrev pub numbers_of : ℕ → List Waiter → List ℕ
numbers_of conn [] = []
numbers_of conn (w ∷ ws) = if came_by w.conn conn then w.id ∷ numbers_of conn ws else numbers_of conn ws

-- the file of the first of these claims
abbrev pub first_file : List Claim → Option ℕ
first_file [] = None
first_file (c ∷ cs) = Some c.file

-- the file on which each waits: that of the first claim that it asks for
abbrev pub files_of : List Waiter → List (Option ℕ)
files_of ws = map (λ w. first_file w.asked) ws

abbrev pub is_file : ℕ → Option ℕ → Bool
is_file file None = false
is_file file (Some own) = own == file

-- those who wait on this file, in order of arrival
abbrev pub waiting_on : ℕ → List Waiter → List Waiter
waiting_on file ws = filter (λ w. is_file file (first_file w.asked)) ws

-- someone waits on this file
abbrev pub waits_on : ℕ → List Waiter → Bool
waits_on file ws = list_any (is_file file) (files_of ws)

-- the places of those who wait on this file, of whom the first has this place
abbrev pub places_from : ℕ → ℕ → List (Option ℕ) → List ℕ
places_from n file [] = []
places_from n file (f ∷ fs) = if is_file file f then n ∷ places_from (n + 1) file fs else places_from (n + 1) file fs

-- a queue once the one at this place is gone: those behind it stand one place nearer
abbrev pub nearer : ℕ → ℕ → ℕ
nearer at place = if nat_lt at place then place - 1 else place

abbrev pub closed_up : ℕ → List ℕ → List ℕ
closed_up at places = map (nearer at) (filter (λ p. not (p == at)) places)

-- a file's queue, as a map from files says, which may lack those on which nobody waits
abbrev pub places_in : BTreeMap ℕ (List ℕ) → ℕ → List ℕ
places_in queues file = unwrap_or (get nat_cmp queues file) []

-- no queue of the map is empty
abbrev pub NoneEmpty : BTreeMap ℕ (List ℕ) → Type 0
NoneEmpty queues = (file : ℕ) → get nat_cmp queues file ≢ Some []

-- the map has the queue of each file on which someone waits, and no other; the first of all who wait has this place (TABLE-16)
abbrev pub AreQueued : ℕ → BTreeMap ℕ (List ℕ) → List (Option ℕ) → Type 0
AreQueued first queues fs = ((file : ℕ) → places_in queues file ≡ places_from first file fs) × NoneEmpty queues

-- one more stands at this place in the queue of its file, if it has one
abbrev pub one_more : ℕ → Option ℕ → ℕ → List ℕ
one_more file own place = if is_file file own then place ∷ [] else []

-- once the first of all is gone, its place stands first in the queue of its file no more
abbrev pub passed : ℕ → Option ℕ → List ℕ → List ℕ
passed file own places = if is_file file own then drop 1 places else places
