-- Who waits, and whose turn comes.
use Rattle.std.specs.Prelude.{◌≡◌, ℕ, ◌+◌, Bool, true, false, not, ◌&&◌, ◌==◌, if◌then◌else◌, List, [], ◌∷◌, ◌++◌, length, map, Option, Some, None}
use Rattle.std.specs.List.{filter, list_any}
use Rattle.xl_base.specs.declared.name.Owner.TheVariants as owners
use Rattle.xl_base.specs.declared.name.Party.{Party}
use Rattle.xl_matrix.specs.Equal.{same_owners, same_parties}
use Rattle.xl_matrix.specs.Rights.{rights_lie_within}
use Rattle.xl_matrix.specs.declared.claim.Claim.{Claim}
use Rattle.xl_matrix.specs.declared.claim.Rwd.{Rwd}
use Rattle.xl_matrix.specs.declared.claim.What.{What}
use Rattle.xl_matrix.specs.declared.claim.What.TheVariants.{Share}
use Rattle.xl_table.specs.Flat.{removed, changed}
use Rattle.xl_table.specs.Leaving.{goes}
use Rattle.xl_table.specs.declared.leaver.Leaver.{Leaver}
use Rattle.xl_table.specs.declared.leaver.Leaver.TheVariants as leavers
use Rattle.xl_wait.specs.Waiting.{cancelled}
use Rattle.xl_wait.specs.declared.waiter.Rooms.{Rooms}
use Rattle.xl_wait.specs.declared.waiter.Waiter.{Waiter}
use Rattle.xl_core.specs.State.{CoreState}
use Rattle.xl_core.specs.Blockers.{before_number}
use Rattle.xl_core.specs.BreaksBegun.{idle_caches}
use Rattle.xl_core.specs.Good.{AllBehind, holds_up}
use Rattle.xl_core.specs.Judge.{Ruled, judged}
use Rattle.xl_core.specs.Standings.{waiter_as, standing_again}
use Rattle.xl_core.specs.Stores.{unrecorded}
use Rattle.xl_core.specs.Ways.{made_way}
use Rattle.xl_core.specs.Wishes.{wish_for}
use Rattle.xl_core.specs.declared.ask.Answer.{Answer}
use Rattle.xl_core.specs.declared.ask.Answer.TheVariants.{Granted, NotHeld}
use Rattle.xl_core.specs.declared.ask.Effect.{Effect}
use Rattle.xl_core.specs.declared.ask.Effect.TheVariants.{Served, Cancelled}
use Rattle.xl_core.specs.declared.judge.Plea.{Plea}
use Rattle.xl_core.specs.declared.settling.Called.{Called}
use Rattle.xl_core.specs.declared.judge.Ruling.{Ruling}
use Rattle.xl_core.specs.declared.judge.Ruling.TheVariants.{Gets, Waits, Told}

-- ---- whose turn comes

-- what a waiter pleads: its names are kept already, it waits for answers and for the end of grace, it reclaims nothing, and its wait
-- passes no limit (CORE-1)
unfoldable pub plea_again : CoreState → Waiter → Plea
plea_again s w = record { blocking = w.blocking; awaits = true; standing = standing_again s; beside = None; unrecorded = unrecorded w.monitored (waiter_as s.names w) s.stable; rows = w.rows; kept = length s.names; crowded = None }

-- it waits on, and nothing begins
abbrev pub rests : Ruling → List Effect → Bool
rests Waits [] = true
rests _ _ = false

-- what claims that are granted are answered
abbrev pub all_of : List Claim → Answer
all_of [] = NotHeld
all_of (c ∷ cs) = Granted c

-- the waiter is taken out, and answered with this behind what began
abbrev pub served : Waiter → Answer → List Effect → CoreState → List Effect × CoreState
served w answer told s = (told ++ Served w.party w.id answer ∷ [], record s { waiters = cancelled w.id s.waiters })

-- and then its wish is granted, as it waits no more
abbrev pub with_its_wish : Waiter → Answer → List Effect × CoreState → List Effect × CoreState
with_its_wish w answer r = (r.0, wish_for w.wish answer r.1)

abbrev pub turned : Waiter → Ruling → List Effect → CoreState → List Effect × CoreState
turned w Gets told s = with_its_wish w (all_of w.asked) (served w (all_of w.asked) told s)
turned w Waits told s = (told, s)
turned w (Told answer) told s = served w answer told s

-- what is ruled behind the effects before it
abbrev pub ruled_behind : List Effect → Ruled → Ruled
ruled_behind told r = (r.0, told ++ r.1, r.2)

-- the way that is made for a waiter behind these
abbrev pub way_again : List Waiter → CoreState → Waiter → List Effect × CoreState
way_again earlier s w = made_way earlier (plea_again s w) w.asked s

-- what is judged of a waiter behind these, once its breaks run
abbrev pub again : ℕ → Rooms → CoreState → List Waiter → Waiter → Ruled
again n left s earlier w = let way = way_again earlier s w in ruled_behind way.0 (judged n earlier left (plea_again s w) w.asked way.1)

abbrev pub turn_or : Waiter → Ruled → Option (List Effect × CoreState) → Option (List Effect × CoreState)
turn_or w r later = if rests r.0 r.1 then later else Some (turned w r.0 r.1 r.2)

-- the turn of the first of these that has one, behind earlier ones that have none
abbrev pub first_turn : ℕ → Rooms → CoreState → List Waiter → List Waiter → Option (List Effect × CoreState)
first_turn n left s earlier [] = None
first_turn n left s earlier (w ∷ ws) = turn_or w (again n left s earlier w) (first_turn n left s (earlier ++ w ∷ []) ws)

-- One turn: the first waiter is served that doesn't wait on with nothing begun. None if there is no such (CORE-11).
unfoldable pub settle : ℕ → Rooms → CoreState → Option (List Effect × CoreState)
settle n left s = first_turn n left s [] s.waiters

-- how many turns there may be at most: each takes a waiter out, which may be served with a cache, or begins a break
abbrev pub turns_left : CoreState → ℕ
turns_left s = length s.waiters + length s.waiters + idle_caches s.claims

-- each of these waits on, behind those before it, and nothing begins or changes
abbrev pub AllRest : ℕ → Rooms → CoreState → List Waiter → List Waiter → Type 0
AllRest n left s earlier ws = AllBehind (λ before w. again n left s before w ≡ (Waits, [], s)) earlier ws

-- ---- how the first that has a turn is found

abbrev pub called_of : CoreState → Waiter → Called
called_of s w = record { id = w.id; party = w.party; asked = w.asked; wish = w.wish; plea = plea_again s w }

-- the first of these that isn't held up behind earlier ones
abbrev pub first_called : CoreState → List Waiter → List Waiter → Option Called
first_called s earlier [] = None
first_called s earlier (w ∷ ws) = if holds_up earlier s w w.asked then first_called s (earlier ++ w ∷ []) ws else Some (called_of s w)

-- the waiter is held up behind those before it
abbrev pub is_up : CoreState → Waiter → Bool
is_up s w = holds_up (before_number w.id s.waiters) s w w.asked

-- the first of these that isn't
abbrev pub first_free : CoreState → List Waiter → Option Called
first_free s [] = None
first_free s (w ∷ ws) = if is_up s w then first_free s ws else Some (called_of s w)

-- the way that is made for the first that isn't held up
abbrev pub first_way : CoreState → List Waiter → List Waiter → List Effect × CoreState
first_way s earlier [] = ([], s)
first_way s earlier (w ∷ ws) = if holds_up earlier s w w.asked then first_way s (earlier ++ w ∷ []) ws else way_again earlier s w

-- the way of the next turn
abbrev pub next_way : CoreState → List Effect × CoreState
next_way s = first_way s [] s.waiters

-- ---- who leaves

-- the waiter is this party's
unfoldable pub waits_for : Party → Waiter → Bool
waits_for party w = list_any (λ c. same_parties c.party party) w.asked

-- the waiter is this SMB open's
unfoldable pub waits_as : ℕ → Waiter → Bool
waits_as number w = list_any (λ c. same_owners c.owner (owners.Open number)) w.asked

-- the waiter waits no more once this one leaves
abbrev pub waits_with : Leaver → Waiter → Bool
waits_with (leavers.Party party) w = waits_for party w
waits_with (leavers.Open number party) w = waits_as number w

-- the numbers of those who wait no more then
unfoldable pub numbers_with : Leaver → List Waiter → List ℕ
numbers_with leaver waiters = map (λ w. w.id) (filter (waits_with leaver) waiters)

-- the waiter waits no more
abbrev pub gone : Waiter → Effect
gone w = Cancelled w.party w.id

-- what is told of those who wait no more then
unfoldable pub told_with : Leaver → List Waiter → List Effect
told_with leaver waiters = map gone (filter (waits_with leaver) waiters)

-- what is told of the first waiter of this number, who waits no more
abbrev pub told_of_one : ℕ → List Waiter → List Effect
told_of_one id [] = []
told_of_one id (w ∷ ws) = if w.id == id then gone w ∷ [] else told_of_one id ws

-- one waiter is taken out; no claim changes (TABLE-22)
unfoldable pub cancel : CoreState → ℕ → List Effect × CoreState
cancel s id = (told_of_one id s.waiters, record s { waiters = cancelled id s.waiters })

-- one claim is taken out (CORE-15)
unfoldable pub give_back : CoreState → Claim → List Effect × CoreState
give_back s claim = ([], record s { claims = removed claim s.claims })

-- what is claimed is a share that has at least this access and deny
abbrev pub share_has : What → Rwd → Rwd → Bool
share_has (Share rights denied) access deny = rights_lie_within access rights && rights_lie_within deny denied
share_has _ access deny = false

-- a share has this access and deny from now on, and no more (RFC 7530 16.19)
unfoldable pub weaken : CoreState → Claim → Rwd → Rwd → List Effect × CoreState
weaken s share access deny = ([], record s { claims = changed share (Share access deny) s.claims })

-- the claims are taken out that go with who leaves, and the waiters
abbrev pub departed : CoreState → Leaver → List Effect × CoreState
departed s leaver = (
  told_with leaver s.waiters,
  record s { claims = filter (λ c. not (goes leaver c)) s.claims; waiters = filter (λ w. not (waits_with leaver w)) s.waiters },
)

-- all claims and waiters of a party are taken out; its name stays (CORE-9)
unfoldable pub end_party : CoreState → Party → List Effect × CoreState
end_party s party = departed s (leavers.Party party)

-- an SMB open is closed: its share, its ranges and its waiters are taken out, and the caches of the party that goes with it
unfoldable pub close_open : CoreState → ℕ → Option Party → List Effect × CoreState
close_open s number party = departed s (leavers.Open number party)

-- the waiters without those of these numbers, taken out one after another
abbrev pub all_cancelled : List ℕ → List Waiter → List Waiter
all_cancelled [] waiters = waiters
all_cancelled (id ∷ ids) waiters = all_cancelled ids (cancelled id waiters)
