-- A turn is the first waiter's that nothing held blocks, nobody else's, and comes while there is one. Who leaves.
use Rattle.std.proofs.Common.{◌≡◌, ℕ, ◌+◌, Bool, true, false, not, ◌||◌, cond, ◌==◌, inl, inr, List, [], ◌∷◌, ◌++◌, map, length, append-nil, Some, None, is_some, IfSome, refl, sym, ap, subst, ◌∙◌, ◌↔◌, ◌⊎◌, ◌≤◌, suc, arith, Option}
use Rattle.xl_core.proofs.StandingLaws.{no_grace}
use Rattle.xl_core.proofs.AsideLaws.{left_aside}
use Rattle.xl_core.specs.Stores.{bytes_with}
use Rattle.std.specs.List.{AllByRecursion, filter}
use Rattle.std.proofs.lemmas.Bool.{cases_Bool, both_ways, and_parts, or_cases, or_parts, eq-eqb, not-true, not_from_false}
use Rattle.std.proofs.lemmas.List.{append_assoc, length-append}
use Rattle.xl_base.specs.Lists.{IsIn, Pairwise}
use Rattle.xl_base.proofs.Members.{all_in, in_filter, in_filter_from, in_append_right}
use Rattle.xl_base.specs.declared.name.Party.{Party}
use Rattle.xl_matrix.specs.Equal.{same_parties}
use Rattle.xl_matrix.specs.declared.claim.Claim.{Claim}
use Rattle.xl_names.specs.declared.name.Name.{Name}
use Rattle.xl_table.specs.Flat.{is_blocked, removed}
use Rattle.xl_cache.specs.BreakPlans.{is_running}
use Rattle.xl_base.specs.declared.name.Owner.{Owner}
use Rattle.xl_table.specs.Held.{spans_of, is_cache, is_share}
use Rattle.xl_table.specs.Relock.{shares_of}
use Rattle.xl_wait.specs.Waiting.{cancelled, is_first, without_all}
use Rattle.xl_wait.specs.declared.waiter.Rooms.{Rooms}
use Rattle.xl_wait.specs.declared.waiter.Waiter.{Waiter}
use Rattle.xl_core.specs.declared.ask.Effect.{Effect}
use Rattle.xl_core.specs.State.{CoreState}
use Rattle.xl_core.specs.BreaksBegun.{idle_caches, breaks_begun}
use Rattle.xl_core.specs.Causes.{IsEachBehind, held_once, IsServed, Answered, WaitsOn, IsTurn, name_waiting, once_told}
use Rattle.xl_core.specs.Good.{are_apart, caches_of, caches_beside, caches_but, IsKnown, IsPled, IsGood, IsWaiter, is_held_up, holds_up, IsUp, AllBehind, IsSettled}
use Rattle.xl_core.specs.Judge.{Ruled, all_granted, to_record}
use Rattle.xl_table.specs.Leaving.{goes}
use Rattle.xl_table.specs.declared.leaver.Leaver.{Leaver}
use Rattle.xl_table.specs.declared.leaver.Leaver.TheVariants as leavers
use Rattle.xl_core.specs.Frames.{who_left}
use Rattle.xl_core.specs.Settle.{rests, turned, plea_again, way_again, again, turn_or, first_turn, settle, turns_left, AllRest, waits_for, waits_as, waits_with, numbers_with, gone, told_with, told_of_one, all_cancelled, cancel, give_back, departed, end_party, close_open}
use Rattle.xl_core.specs.declared.ask.Answer.{Answer}
use Rattle.xl_core.specs.declared.ask.Answer.TheVariants.{Granted, Queued, Conflict, Recall, Grace, NoGrace, NotRecorded, Full, NotHeld, StoreFailed}
use Rattle.xl_core.proofs.CacheLaws.{all_granted_caches}
use Rattle.xl_core.proofs.ChangeLaws.{all_spans_left, all_shares_left}
use Rattle.xl_core.specs.declared.ask.Effect.TheVariants.{Served, Cancelled}
use Rattle.xl_core.proofs.BreaksBegunLaws.{begun_spans, begun_shares}
use Rattle.xl_core.specs.Wishes.{wish_for}
use Rattle.xl_core.proofs.WishLaws.{wish_spans, wish_shares}
use Rattle.xl_core.proofs.AskWishLaws.{wish_keeps, wish_claims, empty_wish, wish_for_idle, wish_beside_at}
use Rattle.xl_core.proofs.GoodLaws.{once_answered, Turned, IsMoved, Answers, Rests, IsFirst, each_turn, told_last}
use Rattle.xl_core.proofs.WayLaws.{way_keeps, begun_names, begun_waiters, way_idle}
use Rattle.xl_core.proofs.TurnLaws.{up_rests, rests_held, move_first}
use Rattle.xl_wait.specs.Waiting.{first_file, is_file, waiting_on, waits_on}
use Rattle.xl_core.specs.Blockers.{is_in_line, range_ahead}
use Rattle.xl_core.proofs.DecideLaws.{none_ahead}
use Rattle.xl_core.proofs.LineLaws.{range_alike}

-- ---- there is no turn exactly where each waiter rests

none_rests : (n : ℕ) (left : Rooms) (s : CoreState) (earlier ws : List Waiter) → first_turn n left s earlier ws ≡ None → AllRest n left s earlier ws
none_rests n left s earlier [] e = tt
none_rests n left s earlier (w ∷ ws) e =
    let r = again n left s earlier w in
    let later = first_turn n left s (earlier ++ w ∷ []) ws in
    elim (cases_Bool (rests r.0 r.1)) [
      | inl rest ↦ let is = (rests_held n left s earlier w rest).0 in (is, none_rests n left s (earlier ++ w ∷ []) ws (sym (ap (λ (x : Ruled). turn_or w x later) is) ∙ e))
      | inr moves ↦ let two : Some (turned w r.0 r.1 r.2) ≡ None = sym (move_first w r later moves) ∙ e in absurd cc
    ]

rests_none : (n : ℕ) (left : Rooms) (s : CoreState) (earlier ws : List Waiter) → AllRest n left s earlier ws → first_turn n left s earlier ws ≡ None
rests_none n left s earlier [] all = refl
rests_none n left s earlier (w ∷ ws) all = ap (λ (x : Ruled). turn_or w x (first_turn n left s (earlier ++ w ∷ []) ws)) all.0 ∙ rests_none n left s (earlier ++ w ∷ []) ws all.1

pub settle_rests : (n : ℕ) (left : Rooms) (s : CoreState) → (settle n left s ≡ None) ↔ AllRest n left s [] s.waiters
unfolding settle
settle_rests n left s = (none_rests n left s [] s.waiters, rests_none n left s [] s.waiters)

-- ---- who rests is held up

pub rest_held : (n : ℕ) (left : Rooms) (s : CoreState) (earlier ws : List Waiter) → AllRest n left s earlier ws → AllBehind (IsUp s) earlier ws
rest_held n left s earlier [] all = tt
rest_held n left s earlier (w ∷ ws) all = ((rests_held n left s earlier w (ap (λ (x : Ruled). rests x.0 x.1) all.0)).1, rest_held n left s (earlier ++ w ∷ []) ws all.1)

held_rest : (n : ℕ) (left : Rooms) (s : CoreState) (earlier ws : List Waiter) → AllBehind (IsUp s) earlier ws → AllRest n left s earlier ws
held_rest n left s earlier [] all = tt
held_rest n left s earlier (w ∷ ws) all = (up_rests n left s earlier w all.0, held_rest n left s (earlier ++ w ∷ []) ws all.1)

-- and who is held up rests
pub settled_is : (n : ℕ) (left : Rooms) (s : CoreState) → AllRest n left s [] s.waiters ↔ IsSettled s
settled_is n left s = (rest_held n left s [] s.waiters, held_rest n left s [] s.waiters)

pub none_settled : (n : ℕ) (left : Rooms) (s : CoreState) → settle n left s ≡ None → IsSettled s
none_settled n left s e = rest_held n left s [] s.waiters ((settle_rests n left s).0 e)

-- ---- what a turn is

pub without : (before : List Waiter) (w : Waiter) (behind : List Waiter) → Pairwise are_apart (before ++ w ∷ behind) → cancelled w.id (before ++ w ∷ behind) ≡ before ++ behind
without [] w behind apart = let same : (w.id == w.id) ≡ true = eq-eqb w.id w.id refl in rw same refl
without (v ∷ vs) w behind apart =
    let other : (v.id == w.id) ≡ false = not-true (v.id == w.id) (all_in (λ x. are_apart v x ≡ true) w (vs ++ w ∷ behind) apart.0 (in_append_right w vs (w ∷ behind) (inl refl))) in
    rw other (ap (λ (xs : List Waiter). v ∷ xs) (without vs w behind apart.1))

-- a grant enters what was asked for, and any other answer leaves what is held
pub once_cases : (P : List Claim → Type 0) (asked held : List Claim) (answer : Answer) → P held → P (all_granted asked held) → P (held_once asked answer held)
once_cases P asked held (Granted c) same all = all
once_cases P asked held (Queued number) same all = same
once_cases P asked held (Conflict c) same all = same
once_cases P asked held (Recall c) same all = same
once_cases P asked held (Grace until) same all = same
once_cases P asked held (NoGrace clock) same all = same
once_cases P asked held NotRecorded same all = same
once_cases P asked held (Full limit) same all = same
once_cases P asked held NotHeld same all = same
once_cases P asked held StoreFailed same all = same

-- the state once a waiter is answered so
pub told_state : (t : CoreState) (w : Waiter) (answer : Answer) → once_told t w answer ≡ once_answered t w w.asked answer
told_state t w answer = ap (λ (x : CoreState). record x { claims = held_once w.asked answer t.claims; waiters = cancelled w.id t.waiters }) (left_aside (to_record (name_waiting t w) w.asked) answer t)

pub waiters_left : (n : ℕ) (left : Rooms) (s : CoreState) (turn : Turned) (first : IsFirst n left s [] s.waiters turn) → IsGood s → cancelled first.waiter.id s.waiters ≡ first.before ++ first.behind
waiters_left n left s turn first good =
    ap (λ (ws : List Waiter). cancelled first.waiter.id ws) first.stood ∙ without first.before first.waiter first.behind (subst (λ (ws : List Waiter). Pairwise are_apart ws) first.stood good.apart)

first_turn_is : (n : ℕ) (left : Rooms) (s : CoreState) (turn : Turned) → IsGood s → IsFirst n left s [] s.waiters turn → IsTurn n left s turn.0 turn.1
first_turn_is n left s turn good first = by first.moved where
  w : Waiter
  w = first.waiter

  t : CoreState
  t = (way_again first.before s w).1

  all : List Claim
  all = first.claim ∷ first.claims

  -- each waiter's way leaves what no break changes
  same : {A : Type 0} (f : CoreState → A) → ((c : Claim) → f (breaks_begun c s).1 ≡ f s) → f t ≡ f s
  same f keeps = way_keeps f first.before (plea_again s w) w.asked s keeps

  turned_so : (told : List Effect) → turn.0 ≡ (way_again first.before s w).0 ++ told → IsServed n left first.before t w first.claim told turn.1
      → turn.1.names ≡ s.names
      → ((file : ℕ) (owner : Owner) → AllByRecursion (λ c. (file ≡ c.file) × (owner ≡ c.owner) × (is_share c.what ≡ false) → ⊥) w.asked → spans_of file owner turn.1.claims ≡ spans_of file owner t.claims)
      → ((file : ℕ) (owner : Owner) → AllByRecursion (λ c. (file ≡ c.file) × (owner ≡ c.owner) × (is_share c.what ≡ true) → ⊥) w.asked → shares_of file owner turn.1.claims ≡ shares_of file owner t.claims)
      → caches_beside first.claim.file first.claim.party turn.1.claims ≡ caches_beside first.claim.file first.claim.party t.claims → (w.wish ≡ [] → caches_of turn.1.claims ≡ caches_of t.claims) → IsTurn n left s turn.0 turn.1
  turned_so told effects served names spans shares caches unwished = record {
    before = first.before;
    waiter = w;
    behind = first.behind;
    claim = first.claim;
    claims = first.claims;
    told = told;
    stood = first.stood;
    blocked = first.blocked;
    asked = first.asked;
    calm = no_grace s.grace first.calm;
    free = first.free;
    effects_are = effects;
    served = served;
    names = names;
    spans = λ file owner apart. spans file owner apart ∙ same (λ x. spans_of file owner x.claims) (λ c. begun_spans s c file owner);
    shares = λ file owner apart. shares file owner apart ∙ same (λ x. shares_of file owner x.claims) (λ c. begun_shares s c file owner);
    caches = caches;
    unwished = unwished;
  }

  by : IsMoved n left first.before s w first.claim first.claims turn → IsTurn n left s turn.0 turn.1
  by (Answers answer told new due pass clear) =
      let u = once_answered t w all answer in
      let once_caches : caches_of u.claims ≡ caches_of t.claims = once_cases (λ cs. caches_of cs ≡ caches_of t.claims) all t.claims answer refl (all_granted_caches all t.claims) in
      let same_asked : u ≡ once_answered t w w.asked answer = ap (λ (cs : List Claim). once_answered t w cs answer) (sym first.asked) in
      let due_here : IsEachBehind first.before left w.rows (bytes_with (name_waiting t w) t.stable) (length t.names) (told_last n t w w.asked first.claim) w.asked t answer =
      subst (λ (cs : List Claim). IsEachBehind first.before left w.rows (bytes_with (name_waiting t w) t.stable) (length t.names) (told_last n t w cs first.claim) cs t answer) (sym first.asked)
      (subst (λ (names : List Name). IsEachBehind first.before left w.rows (bytes_with (name_waiting t w) t.stable) (length names) (told_last n t w all first.claim) all t answer) (sym (same (λ x. x.names) (λ c. begun_names c s))) due) in
      turned_so (Served w.party w.id answer ∷ []) told
      (Answered answer refl (λ d e. (pass d e).0) due_here (new ∙ ap (wish_for w.wish answer) (same_asked ∙ sym (told_state t w answer))) clear)
      (ap (λ (x : CoreState). x.names) new ∙ ap (λ (x : CoreState). x.names) (wish_claims w.wish answer u) ∙ same (λ x. x.names) (λ c. begun_names c s))
      (λ file owner apart.
      ap (λ (x : CoreState). spans_of file owner x.claims) (new ∙ ap (wish_for w.wish answer) same_asked)
      ∙ wish_keeps (λ x. spans_of file owner x.claims) w.wish answer (once_answered t w w.asked answer) (λ wanted. wish_spans wanted (once_answered t w w.asked answer) file owner)
      ∙ once_cases (λ cs. spans_of file owner cs ≡ spans_of file owner t.claims) w.asked t.claims answer refl (all_spans_left w.asked t.claims file owner apart))
      (λ file owner apart.
      ap (λ (x : CoreState). shares_of file owner x.claims) (new ∙ ap (wish_for w.wish answer) same_asked)
      ∙ wish_keeps (λ x. shares_of file owner x.claims) w.wish answer (once_answered t w w.asked answer) (λ wanted. wish_shares wanted (once_answered t w w.asked answer) file owner)
      ∙ once_cases (λ cs. shares_of file owner cs ≡ shares_of file owner t.claims) w.asked t.claims answer refl (all_shares_left w.asked t.claims file owner apart))
      (ap (λ (x : CoreState). caches_beside first.claim.file first.claim.party x.claims) new ∙ wish_beside_at w.wish answer u first.claim.file first.claim.party (λ d e. let is = (pass d e).0 in (ap (λ (x : Claim). x.file) is, ap (λ (x : Claim). x.party) is))
      ∙ ap (λ (cs : List Claim). caches_but first.claim.file first.claim.party cs) once_caches)
      (λ none. ap (λ (x : CoreState). caches_of x.claims) (new ∙ empty_wish w.wish answer u none) ∙ once_caches)
  by (Rests e up) =
      turned_so [] (ap (λ (x : Turned). x.0) e ∙ sym (append-nil (way_again first.before s w).0)) (WaitsOn refl up (ap (λ (x : Turned). x.1) e))
      (ap (λ (x : Turned). x.1.names) e ∙ same (λ x. x.names) (λ c. begun_names c s))
      (λ file owner apart. ap (λ (x : Turned). spans_of file owner x.1.claims) e)
      (λ file owner apart. ap (λ (x : Turned). shares_of file owner x.1.claims) e)
      (ap (λ (x : Turned). caches_beside first.claim.file first.claim.party x.1.claims) e) (λ none. ap (λ (x : Turned). caches_of x.1.claims) e)

pub turn_is : (n : ℕ) (left : Rooms) (s : CoreState) → IsGood s → IfSome (settle n left s) (λ r. IsTurn n left s r.0 r.1)
turn_is n left s good = each_turn n left s (λ r. IsTurn n left s r.0 r.1) good (λ turn first. first_turn_is n left s turn good first)

-- who is served waited for claims that are known
pub turn_is_known : (n : ℕ) (left : Rooms) (s : CoreState) (effects : List Effect) (t : CoreState) → IsGood s → (turn : IsTurn n left s effects t) → AllByRecursion (IsKnown s.names) turn.waiter.asked × IsPled turn.waiter.asked
turn_is_known n left s effects t good turn =
    let is = all_in (IsWaiter s.names s.counter) turn.waiter s.waiters good.waiters (subst (λ (ws : List Waiter). IsIn turn.waiter ws) (sym turn.stood) (in_append_right turn.waiter turn.before (turn.waiter ∷ turn.behind) (inl refl))) in
    (is.1, is.2)

-- each turn leaves one waiter less, or one break less to begin
idle_by : (held : List Claim) → idle_caches held ≡ length (filter (λ c. not (is_running c.what)) (caches_of held))
idle_by [] = refl
idle_by (c ∷ cs) =
    elim (cases_Bool (is_cache c.what)) [
      | inr e ↦ rw e (idle_by cs)
      | inl e ↦ elim (cases_Bool (is_running c.what)) [ inl r ↦ rw (e, r) (idle_by cs) | inr r ↦ rw (e, r) (ap suc (idle_by cs)) ]
    ]

same_idle : (old new : List Claim) → caches_of new ≡ caches_of old → idle_caches new ≡ idle_caches old
same_idle old new e = idle_by new ∙ ap (λ (cs : List Claim). length (filter (λ c. not (is_running c.what)) cs)) e ∙ sym (idle_by old)

fewer_by : (n : ℕ) (left : Rooms) (s : CoreState) (turn : Turned) → IsGood s → IsFirst n left s [] s.waiters turn → turns_left turn.1 + 1 ≤ turns_left s
fewer_by n left s turn good first = by first.moved where
  w : Waiter
  w = first.waiter

  t : CoreState
  t = (way_again first.before s w).1

  waiters : t.waiters ≡ s.waiters
  waiters = way_keeps (λ x. x.waiters) first.before (plea_again s w) w.asked s (λ c. begun_waiters c s)

  no_more : (way_again first.before s w ≡ ([], s)) ⊎ (idle_caches t.claims + 1 ≤ idle_caches s.claims) → idle_caches t.claims ≤ idle_caches s.claims
  no_more (inl e) = omega (arith, ap (λ (x : Turned). idle_caches x.1.claims) e)
  no_more (inr fewer) = omega (arith, fewer)

  fell : is_held_up first.before t w first.claim ≡ true → (way_again first.before s w ≡ ([], s)) ⊎ (idle_caches t.claims + 1 ≤ idle_caches s.claims) → idle_caches t.claims + 1 ≤ idle_caches s.claims
  fell up (inl e) = absurd (both_ways (is_held_up first.before s w first.claim) first.free (subst (λ (x : Turned). is_held_up first.before x.1 w first.claim ≡ true) e up))
  fell up (inr fewer) = fewer

  by : IsMoved n left first.before s w first.claim first.claims turn → turns_left turn.1 + 1 ≤ turns_left s
  by (Answers answer told new due pass clear) =
      let u = once_answered t w (first.claim ∷ first.claims) answer in
      let idle : idle_caches u.claims ≡ idle_caches t.claims = same_idle t.claims u.claims
      (once_cases (λ cs. caches_of cs ≡ caches_of t.claims) (first.claim ∷ first.claims) t.claims answer refl (all_granted_caches (first.claim ∷ first.claims) t.claims)) in
      let gone : turn.1.waiters ≡ first.before ++ first.behind = ap (λ (x : CoreState). x.waiters) (new ∙ wish_claims w.wish answer u) ∙ ap (λ (ws : List Waiter). cancelled w.id ws) waiters ∙ waiters_left n left s turn first good in
      omega (arith, idle, ap (λ (x : CoreState). idle_caches x.claims) new, wish_for_idle w.wish answer u, no_more (way_idle first.before (plea_again s w) w.asked s), ap (λ (ws : List Waiter). length ws) gone, ap (λ (ws : List Waiter). length ws) first.stood, length-append first.before first.behind, length-append first.before (w ∷ first.behind))
  by (Rests e up) =
      omega (arith, ap (λ (x : Turned). idle_caches x.1.claims) e, ap (λ (x : Turned). length x.1.waiters) e, ap (λ (ws : List Waiter). length ws) waiters, fell up (way_idle first.before (plea_again s w) w.asked s))

pub turn_fewer : (n : ℕ) (left : Rooms) (s : CoreState) → IsGood s → IfSome (settle n left s) (λ r. turns_left r.1 + 1 ≤ turns_left s)
turn_fewer n left s good = each_turn n left s (λ r. turns_left r.1 + 1 ≤ turns_left s) good (λ turn first. fewer_by n left s turn good first)

-- ---- a party's waiters leave

cancelled_behind : (id : ℕ) (w : Waiter) (ws : List Waiter) → (w.id == id) ≡ false → cancelled id (w ∷ ws) ≡ w ∷ cancelled id ws
cancelled_behind id w ws other = rw other refl

all_behind : (ids : List ℕ) (w : Waiter) (ws : List Waiter) → AllByRecursion (λ id. (w.id == id) ≡ false) ids → all_cancelled ids (w ∷ ws) ≡ w ∷ all_cancelled ids ws
all_behind [] w ws others = refl
all_behind (id ∷ ids) w ws others = ap (λ (vs : List Waiter). all_cancelled ids vs) (cancelled_behind id w ws others.0) ∙ all_behind ids w (cancelled id ws) others.1

pub apart_ids : (p : Waiter → Bool) (w : Waiter) (ws : List Waiter) → AllByRecursion (λ v. are_apart w v ≡ true) ws → AllByRecursion (λ id. (w.id == id) ≡ false) (map (λ v. v.id) (filter p ws))
apart_ids p w [] apart = tt
apart_ids p w (v ∷ vs) apart =
    elim (cases_Bool (p v)) [
      | inl e ↦ rw e (not-true (w.id == v.id) apart.0, apart_ids p w vs apart.1)
      | inr e ↦ rw e (apart_ids p w vs apart.1)
    ]

first_gone : (w : Waiter) (ids : List ℕ) (ws : List Waiter) → all_cancelled (w.id ∷ ids) (w ∷ ws) ≡ all_cancelled ids ws
first_gone w ids ws = ap (λ (b : Bool). all_cancelled ids (cond b ws (w ∷ cancelled w.id ws))) (eq-eqb w.id w.id refl)

out : (p : Waiter → Bool) (ws : List Waiter) → Pairwise are_apart ws → all_cancelled (map (λ v. v.id) (filter p ws)) ws ≡ filter (λ v. not (p v)) ws
out p [] apart = refl
out p (w ∷ ws) apart =
    elim (cases_Bool (p w)) [
      | inl e ↦ rw e (first_gone w (map (λ v. v.id) (filter p ws)) ws ∙ out p ws apart.1)
      | inr e ↦ rw e (all_behind (map (λ v. v.id) (filter p ws)) w ws (apart_ids p w ws apart.0) ∙ ap (λ (vs : List Waiter). w ∷ vs) (out p ws apart.1))
    ]

-- the waiters without those of who leaves
pub all_out : (leaver : Leaver) (ws : List Waiter) → Pairwise are_apart ws → all_cancelled (numbers_with leaver ws) ws ≡ filter (λ w. not (waits_with leaver w)) ws
unfolding numbers_with
all_out leaver ws apart = out (waits_with leaver) ws apart

-- and in one pass, as the numbers stand in the order of the waiters
not_first : (w : Waiter) (ids : List ℕ) → AllByRecursion (λ id. (w.id == id) ≡ false) ids → is_first w.id ids ≡ false
not_first w [] others = refl
not_first w (id ∷ ids) others = others.0

passed : (p : Waiter → Bool) (ws : List Waiter) → Pairwise are_apart ws → without_all (map (λ v. v.id) (filter p ws)) ws ≡ filter (λ v. not (p v)) ws
passed p [] apart = refl
passed p (w ∷ ws) apart =
    elim (cases_Bool (p w)) [
      | inl e ↦ rw (e, eq-eqb w.id w.id refl) (passed p ws apart.1)
      | inr e ↦ rw (e, not_first w (map (λ v. v.id) (filter p ws)) (apart_ids p w ws apart.0)) (ap (λ (vs : List Waiter). w ∷ vs) (passed p ws apart.1))
    ]

told_left : (ws : List Waiter) → who_left (map gone ws) ≡ map (λ w. w.id) ws
told_left [] = refl
told_left (w ∷ ws) = ap (λ (rest : List ℕ). w.id ∷ rest) (told_left ws)

-- of whom it is told that they wait no more with who leaves
pub leaver_left : (leaver : Leaver) (ws : List Waiter) → who_left (told_with leaver ws) ≡ numbers_with leaver ws
unfolding told_with numbers_with
leaver_left leaver ws = told_left (filter (waits_with leaver) ws)

pub passed_out : (leaver : Leaver) (ws : List Waiter) → Pairwise are_apart ws → without_all (who_left (told_with leaver ws)) ws ≡ filter (λ w. not (waits_with leaver w)) ws
unfolding numbers_with
passed_out leaver ws apart = ap (λ (ids : List ℕ). without_all ids ws) (leaver_left leaver ws) ∙ passed (waits_with leaver) ws apart

-- ---- who leaves

pub cancel_is : (s : CoreState) (id : ℕ) → ((cancel s id).1.claims ≡ s.claims) × ((cancel s id).1.waiters ≡ cancelled id s.waiters)
unfolding cancel
cancel_is s id = (refl, refl)

-- of the waiters of a number there is one, whom the effect names
one_named : (id : ℕ) (ws : List Waiter) (w : Waiter) → Pairwise are_apart ws → IsIn w ws → w.id ≡ id → told_of_one id ws ≡ Cancelled w.party id ∷ []
one_named id [] w apart here same = absurd here
one_named id (v ∷ ws) w apart here same =
    elim (cases_Bool (v.id == id)) [
      | inl own ↦ elim here [
        | inl first ↦ rw own (ap (λ (x : Waiter). gone x ∷ []) first ∙ ap (λ (k : ℕ). Cancelled w.party k ∷ []) same)
        | inr rest ↦ absurd (both_ways (v.id == w.id) (not-true (v.id == w.id) (all_in (λ (y : Waiter). are_apart v y ≡ true) w ws apart.0 rest)) (ap (λ (k : ℕ). v.id == k) same ∙ own))
      ]
      | inr other ↦ elim here [
        | inl first ↦ absurd (both_ways (v.id == id) other (eq-eqb v.id id (ap (λ (x : Waiter). x.id) first ∙ same)))
        | inr rest ↦ rw other (one_named id ws w apart.1 rest same)
      ]
    ]

pub cancel_names : (s : CoreState) (id : ℕ) (w : Waiter) → IsGood s → IsIn w s.waiters → w.id ≡ id → (cancel s id).0 ≡ Cancelled w.party id ∷ []
unfolding cancel
cancel_names s id w good here same = one_named id s.waiters w good.apart here same

pub give_back_is : (s : CoreState) (claim : Claim) → ((give_back s claim).1.claims ≡ removed claim s.claims) × ((give_back s claim).1.waiters ≡ s.waiters)
unfolding give_back
give_back_is s claim = (refl, refl)

-- of the claims who leaves takes those along that go with it
departed_claims : (s : CoreState) (leaver : Leaver) (c : Claim) → IsIn c (departed s leaver).1.claims ↔ (IsIn c s.claims × (goes leaver c ≡ false))
departed_claims s leaver c = (
  λ h. let found = in_filter_from (λ (d : Claim). not (goes leaver d)) c s.claims h in (found.0, not-true (goes leaver c) found.1),
  λ h. in_filter (λ (d : Claim). not (goes leaver d)) c s.claims h.0 (not_from_false (goes leaver c) h.1),
)

-- and of the waiters its own
departed_waiters : (s : CoreState) (leaver : Leaver) (w : Waiter) → IsIn w (departed s leaver).1.waiters ↔ (IsIn w s.waiters × (waits_with leaver w ≡ false))
departed_waiters s leaver w = (
  λ h. let found = in_filter_from (λ (v : Waiter). not (waits_with leaver v)) w s.waiters h in (found.0, not-true (waits_with leaver w) found.1),
  λ h. in_filter (λ (v : Waiter). not (waits_with leaver v)) w s.waiters h.0 (not_from_false (waits_with leaver w) h.1),
)

pub party_claims : (s : CoreState) (party : Party) (c : Claim) → IsIn c (end_party s party).1.claims ↔ (IsIn c s.claims × (same_parties c.party party ≡ false))
unfolding end_party
party_claims s party c = departed_claims s (leavers.Party party) c

pub party_waiters : (s : CoreState) (party : Party) (w : Waiter) → IsIn w (end_party s party).1.waiters ↔ (IsIn w s.waiters × (waits_for party w ≡ false))
unfolding end_party
party_waiters s party w = departed_waiters s (leavers.Party party) w

pub open_claims : (s : CoreState) (number : ℕ) (party : Option Party) (c : Claim) → IsIn c (close_open s number party).1.claims ↔ (IsIn c s.claims × (goes (leavers.Open number party) c ≡ false))
unfolding close_open
open_claims s number party c = departed_claims s (leavers.Open number party) c

pub open_waiters : (s : CoreState) (number : ℕ) (party : Option Party) (w : Waiter) → IsIn w (close_open s number party).1.waiters ↔ (IsIn w s.waiters × (waits_as number w ≡ false))
unfolding close_open
open_waiters s number party w = departed_waiters s (leavers.Open number party) w

-- ---- the first who waits on a file

nobody_there : (file : ℕ) (ws : List Waiter) → waits_on file ws ≡ false → waiting_on file ws ≡ []
nobody_there file [] e = refl
nobody_there file (w ∷ ws) e = let parts = or_parts (is_file file (first_file w.asked)) (waits_on file ws) e in rw parts.0 (nobody_there file ws parts.1)

none_in_front : (s : CoreState) (c : Claim) (before : List Waiter) → waiting_on c.file before ≡ [] → range_ahead before s c ≡ None
none_in_front s c before none = range_alike before [] s c none ∙ none_ahead s c

up_behind : (s : CoreState) (before : List Waiter) (w : Waiter) (behind earlier : List Waiter) → AllBehind (IsUp s) earlier (before ++ w ∷ behind) → IsUp s (earlier ++ before) w
up_behind s [] w behind earlier all = subst (λ (ws : List Waiter). IsUp s ws w) (sym (append-nil earlier)) all.0
up_behind s (v ∷ vs) w behind earlier all = subst (λ (ws : List Waiter). IsUp s ws w) (append_assoc earlier (v ∷ []) vs) (up_behind s vs w behind (earlier ++ v ∷ []) all.1)

-- something held blocks it, unless grace runs
pub first_blocked : (s : CoreState) (before behind : List Waiter) (w : Waiter) (c : Claim) (cs : List Claim) → IsSettled s → s.grace ≡ None → s.waiters ≡ before ++ w ∷ behind → w.asked ≡ c ∷ cs → waits_on c.file before ≡ false → is_blocked s.claims c ≡ true
first_blocked s before behind w c cs settled calm stood asked first =
    let up : IsUp s before w = up_behind s before w behind [] (subst (λ (ws : List Waiter). AllBehind (IsUp s) [] ws) stood settled) in
    let held : (is_some s.grace || is_held_up before s w c) ≡ true = ap (λ (ds : List Claim). holds_up before s w ds) (sym asked) ∙ up in
    let line : is_in_line before s c ≡ true = (and_parts (is_in_line before s c) _ (sym (ap (λ (b : Bool). b || is_held_up before s w c) (ap is_some calm)) ∙ held)).0 in
    elim (or_cases (is_blocked s.claims c) (is_some (range_ahead before s c)) line) [
      | inl blocked ↦ blocked
      | inr behind ↦ absurd (both_ways (is_some (range_ahead before s c)) (ap is_some (none_in_front s c before (nobody_there c.file before first))) behind)
    ]
