-- Journals: what entries a list of events makes, which journals are legal, and the state that a journal leads to.
use Rattle.std.specs.Prelude.{◌≡◌, ℕ, ◌+◌, not, ◌&&◌, ◌==◌, nat_lt, if◌then◌else◌, Bool, true, false, List, [], ◌∷◌, ◌++◌, length, filter}
use Rattle.std.specs.List.{AllByRecursion}
use Rattle.xl_base.specs.Lists.{IsIn}
use Rattle.xl_base.specs.declared.event.Dest.{Dest}
use Rattle.xl_base.specs.declared.event.Dest.TheVariants.{Conn, Back}
use Rattle.xl_base.specs.declared.event.Event.{Event}
use Rattle.xl_base.specs.declared.event.Event.TheVariants.{Open, End, Restart}
use Rattle.xl_base.specs.declared.journal.Entry.{Entry}
use Rattle.xl_house.specs.Machine.{step}
use Rattle.xl_house.specs.State.{Whole, most_connections}

-- the state after these entries
abbrev pub replay : Whole → List Entry → Whole
replay s [] = s
replay s (e ∷ es) = replay (step e.stores s e.event).next es

-- whether an event starts the server again
abbrev pub is_restart : Event → Bool
is_restart Restart = true
is_restart _ = false

-- an event of whose stores n succeed makes an entry: a restart only if its store does (HOUSE-10)
abbrev pub may_enter : ℕ → Event → Bool
may_enter n event = not (is_restart event && (n == 0))

-- an entry has the stores and the outs that the machine's step gives
abbrev pub IsStep : Whole → Entry → Type 0
IsStep s e = (e.stores ≡ (step e.stores s e.event).made) × (e.outs ≡ (step e.stores s e.event).outs) × (may_enter e.stores e.event ≡ true)

-- each entry is the machine's step at its place
abbrev pub IsLegal : Whole → List Entry → Type 0
IsLegal s [] = Unit {0}
IsLegal s (e ∷ es) = IsStep s e × IsLegal (step e.stores s e.event).next es

-- the entry that an event makes, of whose stores n succeed
abbrev pub entry : ℕ → Whole → Event → Entry
entry n s e = record { event = e; stores = (step n s e).made; outs = (step n s e).outs }

-- the stores of the last of these entries
abbrev pub last_stores : List Entry → ℕ
last_stores [] = 0
last_stores (e ∷ []) = e.stores
last_stores (e ∷ f ∷ es) = last_stores (f ∷ es)

-- The entries that events make in order, each with how many stores succeed in it. A restart whose store fails makes none, and none
-- comes behind it.
abbrev pub entries_of : Whole → List (Event × ℕ) → List Entry
entries_of s [] = []
entries_of s ((event, n) ∷ events) = if may_enter n event then entry n s event ∷ entries_of (step n s event).next events else []

-- the most entries of a journal
abbrev pub most_entries : ℕ
most_entries = 1048576

-- ---- no out before its connection's opening or after its end

-- the connections that are open after the event at this place, of those that were: an opening while 64 are open opens
-- none, and a restart ends all
abbrev pub opened_after : List ℕ → ℕ → Event → List ℕ
opened_after opened place (Open kind) = if nat_lt (length opened) most_connections then opened ++ place ∷ [] else opened
opened_after opened place (End number) = filter (λ c. not (c == number)) opened
opened_after opened place Restart = []
opened_after opened place _ = opened

-- an out to a connection goes to one that is open before the entry and after it
abbrev pub IsTimely : List ℕ → List ℕ → Dest → Type 0
IsTimely before after (Conn number) = IsIn number before × IsIn number after
IsTimely before after (Back call) = Unit {0}

-- no out to a connection stands before its opening or after its end
abbrev pub IsOrderly : List ℕ → ℕ → List Entry → Type 0
IsOrderly opened place [] = Unit {0}
IsOrderly opened place (e ∷ es) = AllByRecursion (λ o. IsTimely opened (opened_after opened place e.event) o.dest) e.outs × IsOrderly (opened_after opened place e.event) (place + 1) es
