-- Whose turn comes: the first waiter that isn't held up is found, and each other rests.
use Rattle.std.proofs.Common.{◌≡◌, ℕ, Bool, true, false, not, ◌&&◌, if◌then◌else◌, List, [], ◌∷◌, ◌++◌, Option, Some, None, is_some, inl, inr, refl, sym, ap, subst, append-nil, ◌∙◌}
use Rattle.xl_core.specs.declared.standings.Standing.TheVariants.{Timely, Stays}
use Rattle.xl_core.specs.Standings.{standing_again, is_timely}
use Rattle.std.specs.List.{AllByRecursion, slice_get}
use Rattle.std.proofs.lemmas.Bool.{cases_Bool, both_ways, and_parts, or_left, or_right, or_cases}
use Rattle.xl_base.specs.Lists.{IsIn}
use Rattle.xl_base.proofs.Members.{all_in}
use Rattle.xl_matrix.specs.declared.claim.Claim.{Claim}
use Rattle.xl_wait.specs.declared.waiter.Rooms.{Rooms}
use Rattle.xl_wait.specs.declared.waiter.Waiter.{Waiter}
use Rattle.xl_core.specs.State.{CoreState}
use Rattle.std.proofs.lemmas.List.{append_assoc}
use Rattle.xl_core.specs.Blockers.{is_in_line, is_stopped, all_run}
use Rattle.xl_core.specs.BreaksBegun.{breaks_begun}
use Rattle.xl_core.specs.Ways.{made_way}
use Rattle.xl_cache.specs.BreakPlans.{planned, recalled_by}
use Rattle.xl_core.specs.Good.{IsKnown, IsPled, IsWaiter, IsGood, is_held_up, holds_up, of_first}
use Rattle.xl_core.specs.Judge.{Ruled, stopped, kept_off, does_wait, judged, graced}
use Rattle.xl_core.specs.Settle.{plea_again, rests, turned, ruled_behind, way_again, again, turn_or, first_turn, called_of, first_called}
use Rattle.xl_core.specs.declared.ask.Effect.{Effect}
use Rattle.xl_core.specs.declared.judge.Plea.{Plea}
use Rattle.xl_core.specs.declared.judge.Ruling.{Ruling}
use Rattle.xl_core.specs.declared.judge.Ruling.TheVariants.{Gets, Waits, Told}
use Rattle.xl_core.specs.declared.settling.Called.{Called}
use Rattle.xl_core.proofs.DecideLaws.{stops_some, none_blockers, moves_cache}
use Rattle.xl_core.proofs.WayLaws.{unbroken, runs, way_unbroken, way_stopped, begun_quiet, way_quiet, way_graced}
use Rattle.xl_core.proofs.RowLaws.{IsRuled, first_waits, judged_ruled, judged_stopped, judged_kept_off, judged_graced}

-- ---- it rests exactly where it is held up

pub plea_is : (s : CoreState) (w : Waiter) → ((plea_again s w).blocking ≡ w.blocking) × ((plea_again s w).awaits ≡ true) × ((plea_again s w).standing ≡ standing_again s) × ((plea_again s w).crowded ≡ None)
unfolding plea_again
plea_is s w = (refl, refl, refl, refl)

pub is_calm : (s : CoreState) (w : Waiter) → is_some s.grace ≡ false → (plea_again s w).standing ≡ Timely
is_calm s w calm = (plea_is s w).2 ∙ ap (λ (b : Bool). if b then Stays else Timely) calm

-- what it pleads for is ruled so on the state that the way left
again_is : (n : ℕ) (left : Rooms) (s : CoreState) (earlier : List Waiter) (w : Waiter) (told : List Effect) (t : CoreState) → way_again earlier s w ≡ (told, t) → again n left s earlier w ≡ ruled_behind told (judged n earlier left (plea_again s w) w.asked t)
again_is n left s earlier w told t e = ap (λ (way : List Effect × CoreState). ruled_behind way.0 (judged n earlier left (plea_again s w) w.asked way.1)) e

-- while grace runs nobody has a turn
pub graced_rests : (n : ℕ) (left : Rooms) (s : CoreState) (earlier : List Waiter) (w : Waiter) → is_some s.grace ≡ true → again n left s earlier w ≡ (Waits, [], s)
unfolding plea_again
graced_rests n left s earlier w runs =
    again_is n left s earlier w [] s (way_graced earlier (plea_again s w) w.asked s (ap is_timely stays))
    ∙ ap (ruled_behind []) (judged_graced n earlier left (plea_again s w) w.asked s Waits (ap (graced (plea_again s w)) stays))
  where
    stays : standing_again s ≡ Stays
    stays = ap (λ (b : Bool). if b then Stays else Timely) runs

stopped_waits : (p : Plea) (d : Claim) → p.blocking ≡ true → p.crowded ≡ None → stopped p d ≡ Waits
stopped_waits p d waits room = rw (waits, room) refl

kept_waits : (p : Plea) (d : Claim) → p.awaits ≡ true → p.crowded ≡ None → kept_off p d ≡ Waits
kept_waits p d waits room = rw (waits, room) refl

-- one that is held up begins nothing
pub way_up : (earlier : List Waiter) (s : CoreState) (w : Waiter) (c : Claim) (cs : List Claim) → w.asked ≡ c ∷ cs → is_held_up earlier s w c ≡ true → way_again earlier s w ≡ ([], s)
way_up earlier s w c cs asked up = ap (λ (ds : List Claim). made_way earlier (plea_again s w) ds s) asked ∙ by (is_stopped earlier s c) refl where
  run : is_stopped earlier s c ≡ false → all_run s.claims c ≡ true
  run moves = sym (ap (λ (b : Bool). if b then w.blocking else all_run s.claims c) moves) ∙ (and_parts (is_in_line earlier s c) (if is_stopped earlier s c then w.blocking else all_run s.claims c) up).1

  by : (b : Bool) → is_stopped earlier s c ≡ b → made_way earlier (plea_again s w) (c ∷ cs) s ≡ ([], s)
  by true stops = way_stopped earlier (plea_again s w) c cs s stops
  by false moves = way_unbroken earlier (plea_again s w) c cs s (unbroken s.claims c (run moves))

-- one that waits for what is in the way of the first of its claims is ruled to wait
pub waits_now : (n : ℕ) (left : Rooms) (s t : CoreState) (earlier : List Waiter) (w : Waiter) (c : Claim) (cs : List Claim) → is_some s.grace ≡ false → does_wait earlier (plea_again s w) t c ≡ true → judged n earlier left (plea_again s w) (c ∷ cs) t ≡ (Waits, [], t)
waits_now n left s t earlier w c cs calm waits = by (is_stopped earlier t c) refl where
  p : Plea
  p = plea_again s w

  parts : (is_in_line earlier t c ≡ true) × ((if is_stopped earlier t c then p.blocking else p.awaits) ≡ true)
  parts = and_parts (is_in_line earlier t c) (if is_stopped earlier t c then p.blocking else p.awaits) waits

  by : (b : Bool) → is_stopped earlier t c ≡ b → judged n earlier left p (c ∷ cs) t ≡ (Waits, [], t)
  by true stops =
      let found = stops_some earlier t c stops in
      let blocks : p.blocking ≡ true = sym (ap (λ (b : Bool). if b then p.blocking else p.awaits) stops) ∙ parts.1 in
      judged_stopped n earlier left p c found.0 cs t (is_calm s w calm) found.1 ∙ (λ i. (stopped_waits p found.0 blocks (plea_is s w).3 i, [], t))
  by false moves =
      let found = moves_cache earlier t c parts.0 moves in
      judged_kept_off n earlier left p c found.0 cs t (is_calm s w calm) (none_blockers earlier t c moves) found.1 ∙ (λ i. (kept_waits p found.0 (plea_is s w).1 (plea_is s w).3 i, [], t))

-- so does one that is held up
pub up_waits : (earlier : List Waiter) (s t : CoreState) (w : Waiter) (c : Claim) → is_held_up earlier t w c ≡ true → does_wait earlier (plea_again s w) t c ≡ true
unfolding plea_again
up_waits earlier s t w c up = by (is_in_line earlier t c) (is_stopped earlier t c) w.blocking (all_run t.claims c) up where
  by : (x y z r : Bool) → (x && (if y then z else r)) ≡ true → (x && (if y then z else true)) ≡ true
  by true true z r e = e
  by true false z r e = refl
  by false y z r e = e

-- the first of several claims is held up
pub held_rests : (n : ℕ) (left : Rooms) (s : CoreState) (earlier : List Waiter) (w : Waiter) (c : Claim) (cs : List Claim) → w.asked ≡ c ∷ cs → is_held_up earlier s w c ≡ true → again n left s earlier w ≡ (Waits, [], s)
held_rests n left s earlier w c cs asked up = elim (cases_Bool (is_some s.grace)) [ inl runs ↦ graced_rests n left s earlier w runs | inr calm ↦ rests_calm calm ] where
  rests_calm : is_some s.grace ≡ false → again n left s earlier w ≡ (Waits, [], s)
  rests_calm calm =
      again_is n left s earlier w [] s (way_up earlier s w c cs asked up)
      ∙ ap (λ (ds : List Claim). ruled_behind [] (judged n earlier left (plea_again s w) ds s)) asked
      ∙ ap (ruled_behind []) (waits_now n left s s earlier w c cs calm (up_waits earlier s s w c up))

rested : (ruling : Ruling) (told : List Effect) → rests ruling told ≡ true → (ruling ≡ Waits) × (told ≡ [])
rested Waits [] e = (refl, refl)
rested Waits (x ∷ xs) e = absurd (both_ways false refl e)
rested Gets told e = absurd (both_ways false refl e)
rested (Told answer) told e = absurd (both_ways false refl e)

waits_ruled : (n : ℕ) (earlier : List Waiter) (left : Rooms) (p : Plea) (asked : List Claim) (s : CoreState) (ruling : Ruling) (told : List Effect) (t : CoreState) → p.standing ≡ Timely → IsRuled n earlier left p asked s ruling told t → ruling ≡ Waits → (told ≡ []) × (t ≡ s) × first_waits earlier p s asked
waits_ruled n earlier left p asked s ruling told t timely is e =
    let all = subst (λ (r : Ruling). IsRuled n earlier left p asked s r told t) e is in (
      all.0,
      all.1,
      elim all.3 [
        | inl stays ↦ let two : Stays ≡ Timely = sym stays ∙ timely in absurd cc
        | inr waits ↦ waits.1
      ],
    )

same_ruled : (r : Ruled) (s : CoreState) → r.0 ≡ Waits → r.1 ≡ [] → r.2 ≡ s → r ≡ (Waits, [], s)
same_ruled r s e f g = λ i. (e i, f i, g i)

-- where nothing is told besides no break began
pub quiet_runs : (earlier : List Waiter) (s : CoreState) (w : Waiter) (c : Claim) (cs : List Claim) → is_some s.grace ≡ false → made_way earlier (plea_again s w) (c ∷ cs) s ≡ ([], s) → is_stopped earlier s c ≡ false → all_run s.claims c ≡ true
unfolding plea_again made_way
quiet_runs earlier s w c cs calm quiet moves =
    runs s.claims c
    (begun_quiet c s (sym (ap (λ (b : Bool). (if b && not (true && (false && is_some (recalled_by (planned c s.claims)))) then breaks_begun c s else ([], s)).0) (does calm moves)) ∙ ap (λ (way : List Effect × CoreState). way.0) (regroup ∙ quiet)))
  where
    test : Bool
    test = not (true && (false && is_some (recalled_by (planned c s.claims))))

    does : is_some s.grace ≡ false → is_stopped earlier s c ≡ false → (is_timely (standing_again s) && not (is_stopped earlier s c)) ≡ true
    does calm moves = (λ i. is_timely (if calm i then Stays else Timely) && not (moves i))

    -- the tests of the way, in other brackets
    regroup : (if (is_timely (standing_again s) && not (is_stopped earlier s c)) && test then breaks_begun c s else ([], s)) ≡ (if is_timely (standing_again s) && (not (is_stopped earlier s c) && test) then breaks_begun c s else ([], s))
    regroup = by (is_timely (standing_again s)) where
      by : (b : Bool) → (if (b && not (is_stopped earlier s c)) && test then breaks_begun c s else ([], s)) ≡ (if b && (not (is_stopped earlier s c) && test) then breaks_begun c s else ([], s))
      by true = refl
      by false = refl

first_held : (earlier : List Waiter) (s : CoreState) (w : Waiter) (asked : List Claim) → is_some s.grace ≡ false → made_way earlier (plea_again s w) asked s ≡ ([], s) → first_waits earlier (plea_again s w) s asked → holds_up earlier s w asked ≡ true
unfolding plea_again
first_held earlier s w [] calm quiet h = absurd h
first_held earlier s w (c ∷ cs) calm quiet h =
    or_right (is_some s.grace) (is_held_up earlier s w c) (by (is_in_line earlier s c) (is_stopped earlier s c) w.blocking (all_run s.claims c) h (λ moves. quiet_runs earlier s w c cs calm quiet moves))
  where
    by : (x y z r : Bool) → (x && (if y then z else true)) ≡ true → (y ≡ false → r ≡ true) → (x && (if y then z else r)) ≡ true
    by true true z r e run = e
    by true false z r e run = run refl
    by false y z r e run = e

-- who rests is held up, and then nothing changes
pub rests_held : (n : ℕ) (left : Rooms) (s : CoreState) (earlier : List Waiter) (w : Waiter) → (let r = again n left s earlier w in rests r.0 r.1 ≡ true) → (again n left s earlier w ≡ (Waits, [], s)) × (holds_up earlier s w w.asked ≡ true)
rests_held n left s earlier w e = elim (cases_Bool (is_some s.grace)) [
  | inl runs ↦ (graced_rests n left s earlier w runs, or_left (is_some s.grace) (of_first (λ c. is_held_up earlier s w c) w.asked) runs)
  | inr calm ↦
      let way = way_again earlier s w in
      let inner = judged n earlier left (plea_again s w) w.asked way.1 in
      let at = rested inner.0 (way.0 ++ inner.1) e in
      let none = both_empty way.0 inner.1 at.1 in
      let quiet = way_quiet earlier (plea_again s w) w.asked s none.0 in
      let r = judged n earlier left (plea_again s w) w.asked s in
      let same : inner ≡ r = ap (λ (x : List Effect × CoreState). judged n earlier left (plea_again s w) w.asked x.1) quiet in
      let waits : r.0 ≡ Waits = sym (ap (λ (x : Ruled). x.0) same) ∙ at.0 in
      let why = waits_ruled n earlier left (plea_again s w) w.asked s r.0 r.1 r.2 (is_calm s w calm) (judged_ruled n earlier left (plea_again s w) w.asked s) waits in
      (again_is n left s earlier w [] s quiet ∙ ap (ruled_behind []) (same_ruled r s waits why.0 why.1), first_held earlier s w w.asked calm quiet why.2)
]
  where
    both_empty : (xs ys : List Effect) → xs ++ ys ≡ [] → (xs ≡ []) × (ys ≡ [])
    both_empty [] ys e = (refl, e)
    both_empty (x ∷ xs) ys e = absurd cc

-- one that isn't held up doesn't rest
pub free_moves : (n : ℕ) (left : Rooms) (s : CoreState) (earlier : List Waiter) (w : Waiter) → holds_up earlier s w w.asked ≡ false → (let r = again n left s earlier w in rests r.0 r.1 ≡ false)
free_moves n left s earlier w free =
    let r = again n left s earlier w in
    elim (cases_Bool (rests r.0 r.1)) [
      | inr moves ↦ moves
      | inl e ↦ absurd (both_ways (holds_up earlier s w w.asked) free (rests_held n left s earlier w e).1)
    ]

-- one that is held up does
pub up_rests : (n : ℕ) (left : Rooms) (s : CoreState) (earlier : List Waiter) (w : Waiter) → holds_up earlier s w w.asked ≡ true → again n left s earlier w ≡ (Waits, [], s)
up_rests n left s earlier w up = elim (or_cases (is_some s.grace) (of_first (λ c. is_held_up earlier s w c) w.asked) up) [ inl runs ↦ graced_rests n left s earlier w runs | inr first ↦ by w.asked refl first ] where
  by : (asked : List Claim) → w.asked ≡ asked → of_first (λ c. is_held_up earlier s w c) asked ≡ true → again n left s earlier w ≡ (Waits, [], s)
  by [] is e = absurd (both_ways false refl e)
  by (c ∷ cs) is e = held_rests n left s earlier w c cs is e

-- ---- the search

abbrev Given : Type 0
Given = Option (List Effect × CoreState)

same_called : (a b : Called) → Some a ≡ Some b → a ≡ b
same_called a b e = cc

rest_first : (n : ℕ) (left : Rooms) (s : CoreState) (earlier : List Waiter) (w : Waiter) (later : Given) → again n left s earlier w ≡ (Waits, [], s) → turn_or w (again n left s earlier w) later ≡ later
rest_first n left s earlier w later e = ap (λ (r : Ruled). turn_or w r later) e

pub move_first : (w : Waiter) (r : Ruled) (later : Given) → rests r.0 r.1 ≡ false → turn_or w r later ≡ Some (turned w r.0 r.1 r.2)
move_first w r later e = rw e refl

called_later : (s : CoreState) (earlier : List Waiter) (w : Waiter) (ws : List Waiter) → holds_up earlier s w w.asked ≡ true → first_called s earlier (w ∷ ws) ≡ first_called s (earlier ++ w ∷ []) ws
called_later s earlier w ws e = rw e refl

called_here : (s : CoreState) (earlier : List Waiter) (w : Waiter) (ws : List Waiter) → holds_up earlier s w w.asked ≡ false → first_called s earlier (w ∷ ws) ≡ Some (called_of s w)
called_here s earlier w ws e = rw e refl

-- its turn is the first
pub turn_is_found : (left : Rooms) (s r t u : CoreState) (front earlier ws : List Waiter) (called : Called) (begun : List Effect) (ruling : Ruling) (effects : List Effect) → first_called s earlier ws ≡ Some called
    → ((before behind : List Waiter) (w : Waiter) → earlier ++ ws ≡ before ++ w ∷ behind → w.id ≡ called.id → front ≡ before)
    → made_way front called.plea called.asked s ≡ (begun, r)
    → (n : ℕ) → judged n front left called.plea called.asked r ≡ (ruling, [], t) → ((w : Waiter) → w.id ≡ called.id → w.party ≡ called.party → w.asked ≡ called.asked → w.wish ≡ called.wish → turned w ruling begun t ≡ (effects, u))
    → first_turn n left s earlier ws ≡ Some (effects, u)
turn_is_found left s r t u front earlier [] called begun ruling effects e at way n judges turns = absurd cc
turn_is_found left s r t u front earlier (w ∷ ws) called begun ruling effects e at way n judges turns =
    elim (cases_Bool (holds_up earlier s w w.asked)) [
      | inl up ↦
          rest_first n left s earlier w _ (up_rests n left s earlier w up)
          ∙ turn_is_found left s r t u front (earlier ++ w ∷ []) ws called begun ruling effects (sym (called_later s earlier w ws up) ∙ e) (λ before behind v is. at before behind v (sym (append_assoc earlier (w ∷ []) ws) ∙ is)) way n judges turns
      | inr free ↦
          let same : called_of s w ≡ called = same_called (called_of s w) called (sym (called_here s earlier w ws free) ∙ e) in
          let stands : front ≡ earlier = at earlier ws w refl (ap (λ (x : Called). x.id) same) in
          let made : way_again earlier s w ≡ (begun, r) = ap (λ (x : Called). made_way earlier x.plea x.asked s) same ∙ ap (λ (vs : List Waiter). made_way vs called.plea called.asked s) (sym stands) ∙ way in
          let ruled : again n left s earlier w ≡ (ruling, begun, t) =
          again_is n left s earlier w begun r made
          ∙ ap (ruled_behind begun) (ap (λ (x : Called). judged n earlier left x.plea x.asked r) same ∙ ap (λ (vs : List Waiter). judged n vs left called.plea called.asked r) (sym stands) ∙ judges)
          ∙ (λ i. (ruling, append-nil begun i, t)) in
          move_first w (again n left s earlier w) _ (free_moves n left s earlier w free)
          ∙ ap (λ (x : Ruled). Some (turned w x.0 x.1 x.2)) ruled
          ∙ ap (λ (x : List Effect × CoreState). Some x) (turns w (ap (λ (x : Called). x.id) same) (ap (λ (x : Called). x.party) same) (ap (λ (x : Called). x.asked) same) (ap (λ (x : Called). x.wish) same))
    ]

-- who is called is one of these
pub called_in : (s : CoreState) (earlier ws : List Waiter) (called : Called) → first_called s earlier ws ≡ Some called → (w : Waiter) × IsIn w ws × (called_of s w ≡ called)
called_in s earlier [] called e = absurd cc
called_in s earlier (w ∷ ws) called e =
    elim (cases_Bool (holds_up earlier s w w.asked)) [
      | inl up ↦ let found = called_in s (earlier ++ w ∷ []) ws called (sym (called_later s earlier w ws up) ∙ e) in (found.0, inr found.1, found.2)
      | inr free ↦ (w, inl refl, same_called (called_of s w) called (sym (called_here s earlier w ws free) ∙ e))
    ]

pub none_is_found : (left : Rooms) (s : CoreState) (earlier ws : List Waiter) → first_called s earlier ws ≡ None → (n : ℕ) → first_turn n left s earlier ws ≡ None
none_is_found left s earlier [] e n = refl
none_is_found left s earlier (w ∷ ws) e n =
    elim (cases_Bool (holds_up earlier s w w.asked)) [
      | inl up ↦ rest_first n left s earlier w _ (up_rests n left s earlier w up) ∙ none_is_found left s (earlier ++ w ∷ []) ws (sym (called_later s earlier w ws up) ∙ e) n
      | inr free ↦ let two : Some (called_of s w) ≡ None = sym (called_here s earlier w ws free) ∙ e in absurd cc
    ]

-- what is called for is known, and may be asked for in one request
pub called_known : (s : CoreState) (earlier ws : List Waiter) (called : Called) → AllByRecursion (IsWaiter s.names s.counter) ws → first_called s earlier ws ≡ Some called → AllByRecursion (IsKnown s.names) called.asked × IsPled called.asked
called_known s earlier [] called all e = absurd cc
called_known s earlier (w ∷ ws) called all e =
    elim (cases_Bool (holds_up earlier s w w.asked)) [
      | inl up ↦ called_known s (earlier ++ w ∷ []) ws called all.1 (sym (called_later s earlier w ws up) ∙ e)
      | inr free ↦
          let same : called_of s w ≡ called = same_called (called_of s w) called (sym (called_here s earlier w ws free) ∙ e) in
          subst (λ (x : Called). AllByRecursion (IsKnown s.names) x.asked × IsPled x.asked) same (all.0.1, all.0.2)
    ]

-- what a waiter asks for first is known
pub waiter_known : (s : CoreState) (w : Waiter) (claim : Claim) → IsGood s → IsIn w s.waiters → slice_get w.asked 0 ≡ Some claim → IsKnown s.names claim
waiter_known s w claim good h e = by w.asked (all_in (IsWaiter s.names s.counter) w s.waiters good.waiters h).1 e where
  same_claim : (a b : Claim) → Some a ≡ Some b → a ≡ b
  same_claim a b e = cc

  by : (asked : List Claim) → AllByRecursion (IsKnown s.names) asked → slice_get asked 0 ≡ Some claim → IsKnown s.names claim
  by [] all e = absurd cc
  by (c ∷ cs) all e = subst (λ (x : Claim). IsKnown s.names x) (same_claim c claim e) all.0
