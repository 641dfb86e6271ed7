-- Plans: what becomes of an operation of a front, whatever protocol it came by, and how plans follow one another.
use Rattle.std.specs.Prelude.{ℕ, List, [], ◌∷◌, ◌++◌}
use Rattle.xl_wait.specs.declared.waiter.Rooms.{Rooms}
use Rattle.xl_core.specs.Decide.{ask}
use Rattle.xl_core.specs.Deeds.{Deed, Asks, done, all_done, all_told_of}
use Rattle.xl_core.specs.State.{CoreState}
use Rattle.xl_core.specs.declared.ask.Answer.{Answer}
use Rattle.xl_core.specs.declared.ask.Ask.{Ask}
use Rattle.xl_core.specs.declared.ask.Effect.{Effect}

-- ---- a plan

-- F is what the front keeps, and T what an operation is answered. It is answered with this, and nothing is done; or
-- these deeds are done to the core, this is kept and this is answered; or these deeds are done and this is kept, and
-- the rest is by the core that is left; or this is asked, with this room left in the fronts' tables, and the rest is by
-- the answer and the core that is left.
pub data Plan (F T : Type 0) : Type 0 where
  Tells : T → Plan F T
  Does : List Deed → F → T → Plan F T
  Behind : List Deed → F → (CoreState → Plan F T) → Plan F T
  Asking : Rooms → Ask → (Answer → CoreState → Plan F T) → Plan F T

-- its deeds, in a step of which n stores succeed
abbrev pub deeds_of : {F T : Type 0} → ℕ → CoreState → Plan F T → List Deed
deeds_of n s (Tells told) = []
deeds_of n s (Does deeds kept told) = deeds
deeds_of n s (Behind deeds kept rest) = deeds ++ deeds_of n (all_done n s deeds) (rest (all_done n s deeds))
deeds_of n s (Asking left a rest) = Asks left a ∷ deeds_of n (ask n left s a).2 (rest (ask n left s a).0 (ask n left s a).2)

-- what is answered, what the core tells of besides, what the front keeps, and the core
abbrev pub Outcome : Type 0 → Type 0 → Type 0
Outcome F T = T × List Effect × F × CoreState

-- behind what was told of before
abbrev pub told_behind : {F T : Type 0} → List Effect → Outcome F T → Outcome F T
told_behind effects r = (r.0, effects ++ r.1, r.2, r.3)

-- what it comes to, if the front kept this before
abbrev pub carried : {F T : Type 0} → ℕ → CoreState → F → Plan F T → Outcome F T
carried n s f (Tells told) = (told, [], f, s)
carried n s f (Does deeds kept told) = (told, all_told_of n s deeds, kept, all_done n s deeds)
carried n s f (Behind deeds kept rest) = told_behind (all_told_of n s deeds) (carried n (all_done n s deeds) kept (rest (all_done n s deeds)))
carried n s f (Asking left a rest) = told_behind (ask n left s a).1 (carried n (ask n left s a).2 f (rest (ask n left s a).0 (ask n left s a).2))

-- ---- one behind another

-- the second is planned by what the first is answered, by the core that it leaves, and by what the front keeps then
abbrev pub bind : {F T U : Type 0} → CoreState → F → Plan F T → (T → CoreState → F → Plan F U) → Plan F U
bind s f (Tells told) next = next told s f
bind s f (Does deeds kept told) next = Behind deeds kept (λ t. next told t kept)
bind s f (Behind deeds kept rest) next = Behind deeds kept (λ t. bind t kept (rest t) next)
bind s f (Asking left a rest) next = Asking left a (λ answer t. bind t f (rest answer t) next)

-- what the second comes to behind the first, which came to this
abbrev pub carried_next : {F T U : Type 0} → ℕ → Outcome F T → (T → CoreState → F → Plan F U) → Outcome F U
carried_next n r next = told_behind r.1 (carried n r.3 r.2 (next r.0 r.3 r.2))

abbrev pub deeds_next : {F T U : Type 0} → ℕ → Outcome F T → (T → CoreState → F → Plan F U) → List Deed
deeds_next n r next = deeds_of n r.3 (next r.0 r.3 r.2)

-- ---- a plan within a larger one

-- a plan of a part of what the front keeps: G is kept while the part is F, and at its end this is answered and kept
abbrev pub within : {F G T U : Type 0} → (F → G) → (T → F → U × G) → F → Plan F T → Plan G U
within keep end f (Tells told) = Does [] (end told f).1 (end told f).0
within keep end f (Does deeds kept told) = Does deeds (end told kept).1 (end told kept).0
within keep end f (Behind deeds kept rest) = Behind deeds (keep kept) (λ t. within keep end kept (rest t))
within keep end f (Asking left a rest) = Asking left a (λ answer t. within keep end f (rest answer t))

abbrev pub ended_within : {F G T U : Type 0} → (T → F → U × G) → Outcome F T → Outcome G U
ended_within end r = ((end r.0 r.2).0, r.1, (end r.0 r.2).1, r.3)

-- ---- what holds of each deed

-- of each of these, in the state that those before it left
abbrev pub AllAt : (CoreState → Deed → Type 0) → ℕ → CoreState → List Deed → Type 0
AllAt P n s [] = Unit {0}
AllAt P n s (d ∷ ds) = P s d × AllAt P n (done n s d) ds

-- of each deed of a plan
abbrev pub AllDeeds : {F T : Type 0} → (CoreState → Deed → Type 0) → ℕ → CoreState → Plan F T → Type 0
AllDeeds P n s plan = AllAt P n s (deeds_of n s plan)

-- ---- what holds whichever way it goes, whatever is answered and whatever core is left

-- of what is answered at each end
abbrev pub AllEnds : {F T : Type 0} → (T → Type 0) → Plan F T → Type 0
AllEnds E (Tells told) = E told
AllEnds E (Does deeds kept told) = E told
AllEnds E (Behind deeds kept rest) = (t : CoreState) → AllEnds E (rest t)
AllEnds E (Asking left a rest) = (answer : Answer) (t : CoreState) → AllEnds E (rest answer t)

-- of all that the front keeps along it
abbrev pub AllKept : {F T : Type 0} → (F → Type 0) → Plan F T → Type 0
AllKept K (Tells told) = Unit {0}
AllKept K (Does deeds kept told) = K kept
AllKept K (Behind deeds kept rest) = K kept × ((t : CoreState) → AllKept K (rest t))
AllKept K (Asking left a rest) = (answer : Answer) (t : CoreState) → AllKept K (rest answer t)
