-- The rule of a desk, and what each step on its words tells.
-- Word 0 is the place past the journal's last entry. Word 1 is the number of the halt that the machine is in, 0 for none.
-- Word 2 is 1 while a pass has the turn and with it the machine, and 0 while the machine is at home in its slot.
use Rattle.std.specs.Prelude.{◌≡◌, ◌≢◌, ◌<◌, ◌≤◌, ◌+◌, ◌-◌, ◌/◌, ◌^◌, ◌==◌, ◌⊎◌, ℕ, Bool, true, false, List, [], ◌∷◌, ◌++◌, length, slice_index, slice_get, Option, Some, None, IfSome}
use mathlib.Core.Option.{none, some}
use mathlib.Core.List.{IsPrefix}
use lib.ListN.{get_elem?}
use Rattle.atomic_table.specs.Table.{State, Me, Step, rest}
use Rattle.xl_base.specs.declared.event.Event.{Event}
use Rattle.xl_base.specs.declared.halt.Halt.{Halt}
use Rattle.xl_base.specs.declared.halt.Halt.TheVariants.{NoMemory, JournalFull, StartStore}
use Rattle.xl_base.specs.declared.journal.Entry.{Entry}
use Rattle.xl_desk.specs.declared.view.View.{View}

-- ---- numbers

-- f of each, added up
abbrev pub total : {V : Type 0} → (V → ℕ) → List V → ℕ
total f [] = 0
total f (x ∷ xs) = f x + total f xs

-- the shares of a desk
abbrev pub all_shares : ℕ
all_shares = 2 ^ 32

abbrev pub bit : Bool → ℕ
bit true = 1
bit false = 0

-- the number of a halt, 0 for none
abbrev pub number_of : Option Halt → ℕ
number_of None = 0
number_of (Some NoMemory) = 1
number_of (Some (JournalFull count)) = 2
number_of (Some (StartStore count)) = 3

-- how often an index stands among calls
abbrev pub times : ℕ → List (ℕ × Event) → ℕ
times p calls = total (λ (c : ℕ × Event). bit (c.0 == p)) calls

-- an entry with this event stands behind so many others
abbrev pub StandsAt : List Entry → ℕ → Event → Type 0
StandsAt log at event = (entry : Entry) × (slice_get log at ≡ Some entry) × (entry.event ≡ event)

-- each call stands in the journal, none among the first `start` entries
abbrev pub AllStand : List Entry → ℕ → List (ℕ × Event) → Type 0
AllStand log start [] = Unit {0}
AllStand log start (c ∷ cs) = (start ≤ c.0) × (c.0 < length log) × StandsAt log c.0 c.1 × AllStand log start cs

-- ---- views

-- the first of two halts that are seen
abbrev pub either_halt : Option Halt → Option Halt → Option Halt
either_halt None other = other
either_halt (Some reason) other = Some reason

module _ {O : Type 0} where
  -- 1 if the view has the turn, its calls, its shares, and how often an index stands among its calls
  abbrev pub turn_of : View O → ℕ
  turn_of v = bit v.turn

  abbrev pub made_of : View O → ℕ
  made_of v = v.made

  abbrev pub shares_of : View O → ℕ
  shares_of v = v.shares

  abbrev pub times_of : ℕ → View O → ℕ
  times_of p v = times p v.mine

  -- how a seat's view and the journal fit together
  pub record Fits (origin : O) (base start : ℕ) (log : List Entry) (halt : Option Halt) (v : View O) : Type 0 where
    pub seen : IsPrefix v.seen log
    pub told : IsPrefix v.told log
    pub whole : v.turn ≡ true → v.seen ≡ log
    pub stops : v.turn ≡ true → v.halt ≡ halt
    pub final : IfSome v.halt (λ reason. halt ≡ Some reason)
    pub heard : IfSome v.heard (λ reason. halt ≡ Some reason)
    pub ends : IfSome v.halt (λ _. v.seen ≡ log)
    pub hears : IfSome v.heard (λ _. v.told ≡ log)
    pub mine : AllStand log start v.mine
    pub based : 0 < v.shares → (v.origin ≡ Some origin) × (v.first ≡ base) × (v.start ≡ start)
    pub spent : v.shares ≡ 0 → (v.turn ≡ false) × (v.made ≡ 0) × (v.mine ≡ [])

  -- the view of the first seat
  abbrev pub opened : O → ℕ → List Entry → Option Halt → View O
  opened origin base log halt = record { origin = Some origin; first = base; start = length log; seen = log; told = []; mine = []; made = 0; shares = all_shares; turn = false; halt = halt; heard = None }

  abbrev pub with_turn : View O → List Entry → Option Halt → View O
  with_turn v log halt = record v { seen = log; turn = true; halt = halt }

  abbrev pub stopped : View O → Halt → View O
  stopped v halt = record v { halt = Some halt }

  -- the whole journal is seen, and the halt behind it
  abbrev pub stopped_behind : View O → List Entry → Halt → View O
  stopped_behind v log halt = record v { seen = log; halt = Some halt }

  abbrev pub without_turn : View O → View O
  without_turn v = record v { turn = false }

  abbrev pub after_call : View O → Entry → View O
  after_call v entry = record v { seen = v.seen ++ entry ∷ []; mine = v.mine ++ (length v.seen, entry.event) ∷ []; made = v.made + 1 }

  -- half of the shares, rounded down, goes to a new seat
  abbrev pub halved : View O → View O
  halved v = record v { shares = v.shares - v.shares / 2 }

  abbrev pub half : View O → View O
  half v = record v { told = []; mine = []; made = 0; shares = v.shares / 2; turn = false; heard = None }

  -- what the other seat has seen is told, until the next look
  abbrev pub both : View O → View O → View O
  both v w = record v { told = w.seen; mine = v.mine ++ w.mine; made = v.made + w.made; shares = v.shares + w.shares; heard = w.halt }

  -- the whole journal is seen, and whatever halt was heard of
  abbrev pub looked : View O → List Entry → View O
  looked v log = record v { seen = log; halt = either_halt v.halt v.heard; heard = None }

  abbrev pub spent : View O
  spent = record { origin = None; first = 0; start = 0; seen = []; told = []; mine = []; made = 0; shares = 0; turn = false; halt = None; heard = None }

-- ---- the rule

-- the machine has this history, is in this halt, and began from this
abbrev pub Is : {H O : Type 0} → (H → List Entry) → (H → Option Halt) → (H → O) → H → List Entry → Option Halt → O → Type 0
Is history halt_of origin_of h log halt origin = (history h ≡ log) × (halt_of h ≡ halt) × (origin_of h ≡ origin)

module _ {H O : Type 0} (history : H → List Entry) (halt_of : H → Option Halt) (origin_of : H → O) (first : O → ℕ) (lawful : O → List Entry → Type 0) (may_halt : List Entry → Halt → Type 0) where
  -- What holds between any two steps. The journal is lawful, and word 0 counts it. Word 1 is the number of a halt that may
  -- come behind it. The machine is at home exactly if nobody has the turn, and has the journal as its history. The
  -- entries from the start on are the calls of all seats, each once; and their shares add up to all (THREAD-1).
  pub record OneTurn (s : State (Option H) (View O)) : Type 0 where
    pub log : List Entry
    pub start : ℕ
    pub origin : O
    pub halt : Option Halt
    pub legal : lawful origin log
    pub wide : length s.words ≡ 3
    pub counted : slice_index s.words 0 ≡ first origin + length log
    pub halted : slice_index s.words 1 ≡ number_of halt
    pub may : IfSome halt (λ reason. may_halt log reason)
    pub one : slice_index s.words 2 ≤ 1
    pub home : slice_index s.words 2 ≡ 0 → (h : H) × (get_elem? s.homes 0 ≡ some (some (Some h))) × Is history halt_of origin_of h log halt origin
    pub away : slice_index s.words 2 ≡ 1 → get_elem? s.homes 0 ≡ some none
    pub turns : total turn_of s.views ≡ slice_index s.words 2
    pub each : (i : ℕ) (v : View O) → get_elem? s.views i ≡ some v → Fits origin (first origin) start log halt v
    pub made : start + total made_of s.views ≡ length log
    pub shares : total shares_of s.views ≡ all_shares
    pub once : (p : ℕ) → start ≤ p → p < length log → total (times_of p) s.views ≡ 1
    pub never : (p : ℕ) → (p < start) ⊎ (length log ≤ p) → total (times_of p) s.views ≡ 0

-- ---- what the steps tell, of the seat before, the number found and the seat after

-- a seat at the desk: its view and the slots in its hand
abbrev pub Sat : Type 0 → Type 0 → Type 0
Sat H O = Me (Option H) (View O)

module _ {H : Type 0} where
  -- the first value in hand
  abbrev pub in_hand : List (ℕ × Option H) → Option H
  in_hand [] = None
  in_hand ((k, x) ∷ more) = x

module _ {O : Type 0} where
  -- the origin of a view, if it has one, is so
  abbrev pub Began : View O → (O → Type 0) → Type 0
  Began v p = IfSome v.origin p

module _ {H O : Type 0} where
  -- the machine is in hand, and is so
  abbrev pub HasInHand : Sat H O → (H → Type 0) → Type 0
  HasInHand m p = (h : H) × (in_hand m.1 ≡ Some h) × p h

  -- if the turn was free it is taken, and the machine with it; the seat sees the whole journal then (THREAD-2)
  abbrev pub taken : (H → List Entry) → (H → Option Halt) → (H → O) → (O → ℕ) → (O → List Entry → Type 0) → Step (Option H) → Sat H O → ℕ → Sat H O → Type 0
  taken history halt_of origin_of first lawful st m r m' = (r ≡ 0 → (h : H) × (m' ≡ (with_turn m.0 (history h) (halt_of h), (0, Some h) ∷ m.1)) × IsPrefix m.0.seen (history h) × lawful (origin_of h) (history h) × (m.0.origin ≡ Some (origin_of h)) × (m.0.first ≡ first (origin_of h)) × IfSome m.0.halt (λ reason. halt_of h ≡ Some reason) × IfSome m.0.halt (λ _. history h ≡ m.0.seen))
      × (r ≢ 0 → m' ≡ m)

  -- the number is that of the halt in hand
  abbrev pub checked : Step (Option H) → Sat H O → ℕ → Sat H O → Type 0
  checked st m r m' = (r ≡ number_of m.0.halt) × (m' ≡ m)

  -- If the number is 0 the machine isn't halted, and the seat knows no more than before. Otherwise it is halted, and the seat
  -- sees the whole journal, and why (THREAD-4).
  abbrev pub glanced : Step (Option H) → Sat H O → ℕ → Sat H O → Type 0
  glanced st m r m' = (r ≡ 0 → (m' ≡ m) × (m.0.halt ≡ None))
      × (r ≢ 0 → (log : List Entry) × (reason : Halt) × (m' ≡ (stopped_behind m.0 log reason, m.1)) × IsPrefix m.0.seen log × IfSome m.0.halt (λ seen. Some reason ≡ Some seen) × IfSome m.0.halt (λ _. log ≡ m.0.seen))

  -- the machine in hand has one entry more than the seat has seen
  abbrev pub added : (H → List Entry) → Step (Option H) → Sat H O → ℕ → Sat H O → Type 0
  added history st m r m' = (entry : Entry) × HasInHand m (λ h. history h ≡ m.0.seen ++ entry ∷ []) × (m' ≡ (after_call m.0 entry, m.1))

  -- the machine in hand is halted
  abbrev pub halted : (H → Option Halt) → Step (Option H) → Sat H O → ℕ → Sat H O → Type 0
  halted halt_of st m r m' = (reason : Halt) × HasInHand m (λ h. halt_of h ≡ Some reason) × (m' ≡ (stopped m.0 reason, m.1))

  abbrev pub given : Step (Option H) → Sat H O → ℕ → Sat H O → Type 0
  given st m r m' = m' ≡ (without_turn m.0, rest m.1)

  -- the whole journal is seen
  abbrev pub seen_more : (O → List Entry → Type 0) → Step (Option H) → Sat H O → ℕ → Sat H O → Type 0
  seen_more lawful st m r m' = (log : List Entry) × (m' ≡ (looked m.0 log, m.1)) × IsPrefix m.0.seen log × IsPrefix m.0.told log × (m.0.first + length log ≡ r) × Began m.0 (λ origin. lawful origin log) × IfSome m.0.halt (λ _. log ≡ m.0.seen) × IfSome m.0.heard (λ reason. (either_halt m.0.halt m.0.heard ≡ Some reason) × (log ≡ m.0.told)) × (m.0.shares ≡ all_shares → length log ≡ m.0.start + m.0.made)

-- ---- who has the turn

module _ {H O : Type 0} (history : H → List Entry) (halt_of : H → Option Halt) (origin_of : H → O) (first : O → ℕ) where
  -- the view tells what the machine is
  abbrev pub Tells : View O → H → Type 0
  Tells v h = (history h ≡ v.seen) × (halt_of h ≡ v.halt) × (v.origin ≡ Some (origin_of h)) × (v.first ≡ first (origin_of h))

  -- the seat has the turn and this machine in hand, of which its view tells what it is
  abbrev pub HasTurn : Sat H O → H → Type 0
  HasTurn m h = (m.1 ≡ (0, Some h) ∷ []) × Tells m.0 h × (m.0.turn ≡ true) × (0 < m.0.shares)

-- ---- the end

-- All calls are in. The journal begins with what the pass has seen, is lawful, and has grown by just the pass's calls: each of
-- its entries from the start on is one of them, and stands among them once. A halt that was seen is the machine's (THREAD-4).
pub record IsClosed {H O : Type 0} (history : H → List Entry) (halt_of : H → Option Halt) (origin_of : H → O) (lawful : O → List Entry → Type 0) (v : View O) (h : H) : Type 0 where
  pub seen : IsPrefix v.seen (history h)
  pub origin : v.origin ≡ Some (origin_of h)
  pub legal : lawful (origin_of h) (history h)
  pub halt : IfSome v.halt (λ reason. halt_of h ≡ Some reason)
  pub grown : length (history h) ≡ v.start + v.made
  pub mine : AllStand (history h) v.start v.mine
  pub once : (p : ℕ) → v.start ≤ p → p < length (history h) → times p v.mine ≡ 1
