-- Why a ruling is what it is, and what it leaves.
use Rattle.std.proofs.Common.{◌≡◌, ℕ, ◌+◌, ◌≤◌, ◌⊎◌, inl, inr, Bool, true, false, ◌&&◌, ◌==◌, if◌then◌else◌, List, [], ◌∷◌, length, Option, Some, None, option_map, refl, sym, ap, subst, ◌∙◌, arith}
use Rattle.xl_base.specs.RecordFile.{with_name}
use Rattle.xl_base.specs.Stable.{Stable}
use Rattle.std.specs.List.{filter, list_any}
use Rattle.std.specs.Option.{unwrap_or}
use Rattle.std.proofs.lemmas.Bool.{both_ways}
use Rattle.xl_matrix.specs.declared.claim.Claim.{Claim}
use Rattle.xl_wait.specs.declared.waiter.Rooms.{Rooms}
use Rattle.xl_wait.specs.declared.waiter.Waiter.{Waiter}
use Rattle.xl_core.specs.State.{CoreState}
use Rattle.xl_core.specs.Blockers.{held_blockers, blocker, is_in_line, is_stopped, cache_against}
use Rattle.xl_core.specs.Judge.{Ruled, followed, after, held_with, held_then, waits, stopped, check_held, kept_off, check_caches, full, check_room, graced, conflicts, those_before, first_of, least_beside, reclaim_blocker, reclaim_by, reclaim_stop, check_grace, check_reclaim, check_row, to_record, recorded_or, record_name, enter_all, does_wait, at_once, judged, or_else, first_stop, IsFew, stop_of, recorded_by}
use Rattle.xl_core.specs.Limits.{grant_limits, first_passed}
use Rattle.xl_table.specs.Flat.{blocks, is_blocked}
use Rattle.xl_table.specs.Held.{is_cache}
use Rattle.xl_table.specs.Least.{least}
use Rattle.xl_table.specs.Relock.{most_claims, granted_claims}
use Rattle.xl_names.specs.Names.{most_names}
use Rattle.xl_base.specs.declared.stable.Recorded.{Recorded}
use Rattle.xl_cache.specs.Wishing.{is_its_cache}
use Rattle.xl_core.specs.Wishes.{wish_of}
use Rattle.xl_matrix.specs.declared.claim.CacheKind.{CacheKind}
use Rattle.xl_core.specs.Standings.{enters}
use Rattle.xl_core.specs.Stores.{may_record, recorded, unstored, record_left, bytes_with, may_store, stored, store_failed}
use Rattle.xl_core.specs.declared.standings.Standing.{Standing}
use Rattle.xl_core.specs.declared.standings.Standing.TheVariants.{Timely, Reclaims, Stays, Early, Late, Unrecorded}
use Rattle.xl_table.proofs.LeastLaws.{least_none, none_passes}
use Rattle.xl_core.specs.declared.ask.Answer.{Answer}
use Rattle.xl_core.specs.declared.ask.Answer.TheVariants.{Granted, Queued, Conflict, Recall, Grace, NoGrace, NotRecorded, Full, NotHeld, StoreFailed}
use Rattle.xl_core.specs.declared.ask.Effect.{Effect}
use Rattle.xl_core.specs.declared.judge.Plea.{Plea}
use Rattle.xl_core.specs.declared.judge.Ruling.{Ruling}
use Rattle.xl_core.specs.declared.judge.Ruling.TheVariants.{Gets, Waits, Told}
use Rattle.xl_core.proofs.BreaksInOrderLaws.{all_final}
use Rattle.xl_core.proofs.LimitLaws.{grant_room}
use Rattle.xl_core.proofs.DecideLaws.{blocker_by, blockers_none, none_blockers, some_stops, stopped_in_line, blocked_in_line, cache_blocked, free_unless, free_parts, free_moves, free_from, none_ahead, free_clear}

-- ---- why a ruling is, and what it leaves

-- so many claims may be held, and there is room for the rows and the names of the plea
abbrev pub HasRoom : Rooms → Plea → ℕ → Type 0
HasRoom left p held = (p.rows.hosts ≤ left.hosts) × (held ≤ most_claims) × (p.kept ≤ most_names)

-- nothing held blocks these and there is room for them, each behind those before it
abbrev pub AllPass : Rooms → Plea → List Claim → List Claim → Type 0
AllPass left p held [] = Unit {0}
AllPass left p held (c ∷ cs) = (is_blocked held c ≡ false) × HasRoom left p (length (granted_claims c held)) × AllPass left p (granted_claims c held) cs

-- an answer that grants nothing and lets nobody wait
abbrev pub is_refusal : Answer → Bool
is_refusal (Granted c) = false
is_refusal (Queued number) = false
is_refusal _ = true

-- one that no store brings
abbrev pub is_still : Answer → Bool
is_still (Granted c) = false
is_still (Queued number) = false
is_still StoreFailed = false
is_still _ = true

pub still_refuses : (answer : Answer) → is_still answer ≡ true → is_refusal answer ≡ true
still_refuses (Granted c) e = absurd (both_ways false refl e)
still_refuses (Queued number) e = absurd (both_ways false refl e)
still_refuses StoreFailed e = absurd (both_ways false refl e)
still_refuses (Conflict c) e = refl
still_refuses (Recall c) e = refl
still_refuses (Grace until) e = refl
still_refuses (NoGrace clock) e = refl
still_refuses NotRecorded e = refl
still_refuses (Full limit) e = refl
still_refuses NotHeld e = refl

-- it leaves the record and the stores
pub still_left : (name : Option Recorded) (answer : Answer) (s : CoreState) → is_still answer ≡ true → s ≡ record_left name answer s
still_left name (Granted c) s e = absurd (both_ways false refl e)
still_left name (Queued number) s e = absurd (both_ways false refl e)
still_left name StoreFailed s e = absurd (both_ways false refl e)
still_left name (Conflict c) s e = refl
still_left name (Recall c) s e = refl
still_left name (Grace until) s e = refl
still_left name (NoGrace clock) s e = refl
still_left name NotRecorded s e = refl
still_left name (Full limit) s e = refl
still_left name NotHeld s e = refl

-- the first of these waits
abbrev pub first_waits : List Waiter → Plea → CoreState → List Claim → Type 0
first_waits earlier p s [] = ⊥
first_waits earlier p s (c ∷ cs) = does_wait earlier p s c ≡ true

-- all of these pass, or this stops one of them
abbrev IsStop : List Waiter → Rooms → Plea → List Claim → CoreState → Option Ruling → Type 0
IsStop earlier left p asked s None = AllPass left p s.claims asked
IsStop earlier left p asked s (Some Gets) = ⊥
IsStop earlier left p asked s (Some Waits) = (p.crowded ≡ None) × first_waits earlier p s asked
IsStop earlier left p asked s (Some (Told answer)) = is_still answer ≡ true

pass_at_once : (left : Rooms) (p : Plea) (held cs : List Claim) → AllPass left (at_once p) held cs → AllPass left p held cs
pass_at_once left p held [] pass = tt
pass_at_once left p held (c ∷ cs) pass = (pass.0, pass.1, pass_at_once left p (granted_claims c held) cs pass.2)

-- with the cache beside the claim no less is held
pub held_less : (beside : Option CacheKind) (c : Claim) (held : List Claim) → length (granted_claims c held) ≤ held_then beside c held
held_less None c held = omega arith
held_less (Some kind) c held = by (list_any (is_its_cache (wish_of [] c)) held) where
  by : (b : Bool) → length (granted_claims c held) ≤ length (granted_claims c held) + (if b then 0 else 1)
  by true = omega arith
  by false = omega arith

-- where no limit is passed there is room for the claim
pub has_room : (left : Rooms) (p : Plea) (c : Claim) (s : CoreState) → first_passed (grant_limits left p.rows (held_then p.beside c s.claims) (bytes_with p.unrecorded s.stable) p.kept) ≡ None → HasRoom left p (length (granted_claims c s.claims))
has_room left p c s e =
    let room = grant_room left p.rows (held_then p.beside c s.claims) (bytes_with p.unrecorded s.stable) p.kept e in
    (room.0, omega (arith, room.1, held_less p.beside c s.claims), room.2)

-- none of those behind the first waits
waits_not : (earlier : List Waiter) (p : Plea) (s : CoreState) (cs : List Claim) → first_waits earlier (at_once p) s cs → ⊥
waits_not earlier p s [] h = h
waits_not earlier p s (c ∷ cs) h = by (is_in_line earlier s c) (is_stopped earlier s c) h where
  by : (x y : Bool) → (x && (if y then false else false)) ≡ true → ⊥
  by true true e = both_ways false refl e
  by true false e = both_ways false refl e
  by false y e = both_ways false refl e

waits_stopped : (earlier : List Waiter) (p : Plea) (s : CoreState) (c : Claim) → is_in_line earlier s c ≡ true → is_stopped earlier s c ≡ true → p.blocking ≡ true → does_wait earlier p s c ≡ true
waits_stopped earlier p s c blocked stopped waits = rw (blocked, stopped) waits

waits_kept_off : (earlier : List Waiter) (p : Plea) (s : CoreState) (c : Claim) → is_in_line earlier s c ≡ true → is_stopped earlier s c ≡ false → p.awaits ≡ true → does_wait earlier p s c ≡ true
waits_kept_off earlier p s c blocked moves waits = rw (blocked, moves) waits

-- what stops the first that is stopped has its cause
row_stops : (earlier : List Waiter) (left : Rooms) (p : Plea) (asked : List Claim) (s : CoreState) → IsStop earlier left p asked s (first_stop earlier left p asked s)
unfolding check_held check_caches check_room held_with
row_stops earlier left p [] s = tt
row_stops earlier left p (c ∷ cs) s = by (blocker earlier s c) (cache_against s.claims c) (first_passed limits) refl refl refl (row_stops earlier left (at_once p) cs there) where
  limits : List (ℕ × Bool)
  limits = grant_limits left p.rows (held_then p.beside c s.claims) (bytes_with p.unrecorded s.stable) p.kept

  there : CoreState
  there = record s { claims = granted_claims c s.claims }

  later : Option Ruling
  later = first_stop earlier left (at_once p) cs there

  stops : (told : Answer) → is_still told ≡ true → (b : Bool) (o : Option ℕ) → (b ≡ true → does_wait earlier p s c ≡ true) → p.crowded ≡ o → IsStop earlier left p (c ∷ cs) s (Some (if b then waits o else Told told))
  stops told refuses true None waits room = (room, waits refl)
  stops told refuses true (Some limit) waits room = refl
  stops told refuses false o waits room = refuses

  behind : is_blocked s.claims c ≡ false → first_passed limits ≡ None → (o : Option Ruling) → IsStop earlier left (at_once p) cs there o → IsStop earlier left p (c ∷ cs) s o
  behind free room None pass = (free, has_room left p c s room, pass_at_once left p there.claims cs pass)
  behind free room (Some Gets) is = is
  behind free room (Some Waits) is = absurd (waits_not earlier p there cs is.1)
  behind free room (Some (Told answer)) is = is

  by : (o k : Option Claim) (l : Option ℕ) → blocker earlier s c ≡ o → cache_against s.claims c ≡ k → first_passed limits ≡ l → IsStop earlier left (at_once p) cs there later
      → IsStop earlier left p (c ∷ cs) s (or_else (or_else (option_map (stopped p) o) (or_else (option_map (kept_off p) k) (option_map full l))) later)
  by (Some d) k l e f g passes = let is = some_stops earlier s c d e in stops (Conflict d) refl p.blocking p.crowded (λ waits. waits_stopped earlier p s c (stopped_in_line earlier s c is) is waits) refl
  by None (Some d) l e f g passes = stops (Recall d) refl p.awaits p.crowded (λ waits. waits_kept_off earlier p s c (blocked_in_line earlier s c (cache_blocked s.claims c d f)) (blockers_none earlier s c e) waits) refl
  by None None (Some limit) e f g passes = refl
  by None None None e f g passes = behind (free_parts earlier s c (free_unless earlier s c (blockers_none earlier s c e) f)).0 g later passes

-- what stops one of them is no grant
pub row_gets : (earlier : List Waiter) (left : Rooms) (p : Plea) (asked : List Claim) (s : CoreState) → first_stop earlier left p asked s ≡ Some Gets → ⊥
row_gets earlier left p asked s e = subst (IsStop earlier left p asked s) e (row_stops earlier left p asked s)

-- who is left to wait passes no limit by that
pub row_waits : (earlier : List Waiter) (left : Rooms) (p : Plea) (asked : List Claim) (s : CoreState) → first_stop earlier left p asked s ≡ Some Waits → p.crowded ≡ None
row_waits earlier left p asked s e = (subst (IsStop earlier left p asked s) e (row_stops earlier left p asked s)).0

-- where all pass there is room for the names that are kept
pub row_few : (earlier : List Waiter) (left : Rooms) (p : Plea) (asked : List Claim) (s : CoreState) → first_stop earlier left p asked s ≡ None → IsFew p asked
row_few earlier left p [] s e = tt
row_few earlier left p (c ∷ cs) s e = (subst (IsStop earlier left p (c ∷ cs) s) e (row_stops earlier left p (c ∷ cs) s)).1.2

-- it waits for the end of grace, or for what is in the way of the first
abbrev pub Waiting : List Waiter → Plea → CoreState → List Claim → Type 0
Waiting earlier p s asked = (p.standing ≡ Stays) ⊎ ((p.standing ≡ Timely) × first_waits earlier p s asked)

-- Of a plea for all of these: nothing is told, and all of them are held then, or none. The name that is to be recorded is, if they
-- are, and if they aren't a store of it may have failed.
abbrev pub IsRuled : ℕ → List Waiter → Rooms → Plea → List Claim → CoreState → Ruling → List Effect → CoreState → Type 0
IsRuled n earlier left p asked s Gets told t =
    (told ≡ []) × (t ≡ held_with asked (recorded (to_record p.unrecorded asked) s)) × (enters p.standing ≡ true) × (may_record n s (to_record p.unrecorded asked) ≡ true) × AllPass left p s.claims asked
IsRuled n earlier left p asked s Waits told t = (told ≡ []) × (t ≡ s) × (p.crowded ≡ None) × Waiting earlier p s asked
IsRuled n earlier left p asked s (Told answer) told t = (told ≡ []) × (t ≡ record_left (to_record p.unrecorded asked) answer s) × (is_refusal answer ≡ true)

-- who reclaims doesn't wait: what blocks it is a conflict
pub reclaims_free : (earlier : List Waiter) (p : Plea) (c : Claim) (s : CoreState) → reclaim_by Reclaims p.beside c s ≡ None → is_blocked s.claims c ≡ false
reclaims_free earlier p c s e = none_passes (λ d. blocks c d) s.claims (least_none s.names (filter (λ held. blocks c held) s.claims) (first_none (least s.names (filter (λ held. blocks c held) s.claims)) (least_beside p.beside c s) e)) where
  first_none : (o l : Option Claim) → option_map conflicts (first_of o l) ≡ None → o ≡ None
  first_none None l e = refl
  first_none (Some d) l e = absurd cc

rest_free : (p : Plea) (s : CoreState) (asked : List Claim) → reclaim_stop Reclaims p.beside asked s ≡ None → first_waits [] p s asked → ⊥
rest_free p s [] none waits = waits
rest_free p s (c ∷ cs) none waits = both_ways (does_wait [] p s c) (ap (λ (b : Bool). b && (if is_stopped [] s c then p.blocking else p.awaits)) (free_from [] s c (reclaims_free [] p c s none) (none_ahead s c))) waits

-- the rest of the row, behind grace
abbrev behind_grace : ℕ → List Waiter → Rooms → Plea → List Claim → CoreState → Option Ruling → Ruled
behind_grace n earlier left p asked s o = followed o [] s (after (check_row earlier left p asked) (after (record_name n p asked) (enter_all asked)))

-- the row as a function of how it stands to grace
abbrev by_standing : ℕ → List Waiter → Rooms → Plea → List Claim → CoreState → Standing → Ruled
by_standing n earlier left p asked s standing = followed (graced p standing) [] s (λ t. behind_grace n (those_before standing earlier) left p asked t (reclaim_stop standing p.beside asked t))

pub judged_by : (n : ℕ) (earlier : List Waiter) (left : Rooms) (p : Plea) (asked : List Claim) (s : CoreState) → judged n earlier left p asked s ≡ by_standing n earlier left p asked s p.standing
unfolding judged check_grace check_reclaim
judged_by n earlier left p asked s = refl

-- what ends the row once nothing stops a claim
ends : (n : ℕ) (earlier : List Waiter) (left : Rooms) (p : Plea) (asked : List Claim) (s : CoreState) → enters p.standing ≡ true → AllPass left p s.claims asked → (let r = after (record_name n p asked) (enter_all asked) s in IsRuled n earlier left p asked s r.0 r.1 r.2)
unfolding record_name enter_all
ends n earlier left p asked s in_time pass = by (may_record n s name) refl where
  name : Option Recorded
  name = to_record p.unrecorded asked

  by : (b : Bool) → may_record n s name ≡ b → (let x = recorded_or b name s in let r = followed x.0 x.1 x.2 (enter_all asked) in IsRuled n earlier left p asked s r.0 r.1 r.2)
  by true e = (refl, refl, in_time, e, pass)
  by false e = (refl, refl, refl)

-- each ruling has its cause
pub judged_ruled : (n : ℕ) (earlier : List Waiter) (left : Rooms) (p : Plea) (asked : List Claim) (s : CoreState) → (let r = judged n earlier left p asked s in IsRuled n earlier left p asked s r.0 r.1 r.2)
unfolding check_row
judged_ruled n earlier left p asked s = subst (λ (r : Ruled). IsRuled n earlier left p asked s r.0 r.1 r.2) (sym (judged_by n earlier left p asked s)) (by p.standing refl) where
  name : Option Recorded
  name = to_record p.unrecorded asked

  waited : (o : Option ℕ) → p.crowded ≡ o → p.standing ≡ Stays → IsRuled n earlier left p asked s (waits o) [] s
  waited None room stays = (refl, refl, room, inl stays)
  waited (Some limit) room stays = (refl, refl, refl)

  goes : (front : List Waiter) → (o : Option Ruling) → IsStop front left p asked s o → enters p.standing ≡ true → (first_waits front p s asked → Waiting earlier p s asked) → (let r = followed o [] s (after (record_name n p asked) (enter_all asked)) in IsRuled n earlier left p asked s r.0 r.1 r.2)
  goes front None is in_time timely = ends n earlier left p asked s in_time is
  goes front (Some Gets) is in_time timely = absurd is
  goes front (Some Waits) is in_time timely = (refl, refl, is.0, timely is.1)
  goes front (Some (Told answer)) is in_time timely = (refl, still_left name answer s is, still_refuses answer is)

  row : (front : List Waiter) → enters p.standing ≡ true → (first_waits front p s asked → Waiting earlier p s asked) → (let r = behind_grace n front left p asked s None in IsRuled n earlier left p asked s r.0 r.1 r.2)
  row front in_time timely = goes front (first_stop front left p asked s) (row_stops front left p asked s) in_time timely

  reclaims : (o : Option Claim) → p.standing ≡ Reclaims → (o ≡ None → first_waits [] p s asked → ⊥) → (let r = behind_grace n [] left p asked s (option_map conflicts o) in IsRuled n earlier left p asked s r.0 r.1 r.2)
  reclaims None is never = row [] (ap enters is) (λ waits. absurd (never refl waits))
  reclaims (Some d) is never = (refl, refl, refl)

  by_claim : (asks : List Claim) → asked ≡ asks → p.standing ≡ Reclaims → (let r = behind_grace n [] left p asked s (reclaim_stop Reclaims p.beside asks s) in IsRuled n earlier left p asked s r.0 r.1 r.2)
  by_claim [] e is = row [] (ap enters is) (λ waits. absurd (subst (λ (cs : List Claim). first_waits [] p s cs) e waits))
  by_claim (c ∷ cs) e is =
      reclaims (reclaim_blocker p.beside c s) is (λ none waits. rest_free p s (c ∷ cs) (ap (option_map conflicts) none) (subst (λ (ds : List Claim). first_waits [] p s ds) e waits))

  timely_row : (asks : List Claim) → p.standing ≡ Timely → (let r = behind_grace n earlier left p asked s (reclaim_stop Timely p.beside asks s) in IsRuled n earlier left p asked s r.0 r.1 r.2)
  timely_row [] is = row earlier (ap enters is) (λ waits. inr (is, waits))
  timely_row (c ∷ cs) is = row earlier (ap enters is) (λ waits. inr (is, waits))

  by : (standing : Standing) → p.standing ≡ standing → (let r = by_standing n earlier left p asked s standing in IsRuled n earlier left p asked s r.0 r.1 r.2)
  by Timely is = timely_row asked is
  by Reclaims is = by_claim asked refl is
  by Stays is = waited p.crowded refl is
  by (Early until) is = (refl, refl, refl)
  by (Late clock) is = (refl, refl, refl)
  by Unrecorded is = (refl, refl, refl)

-- ---- the first claim: where something blocks it the ruling is a function of what is looked at

abbrev pub least_blocker : List Waiter → CoreState → Claim → Option Claim
least_blocker earlier s c = blocker earlier s c

abbrev pub passed_by : Rooms → Plea → CoreState → Claim → Option ℕ
passed_by left p s c = first_passed (grant_limits left p.rows (held_then p.beside c s.claims) (bytes_with p.unrecorded s.stable) p.kept)

-- one whom grace stops
pub judged_graced : (n : ℕ) (earlier : List Waiter) (left : Rooms) (p : Plea) (asked : List Claim) (s : CoreState) (r : Ruling) → graced p p.standing ≡ Some r → judged n earlier left p asked s ≡ (r, [], s)
judged_graced n earlier left p asked s r e =
    judged_by n earlier left p asked s ∙ ap (λ (o : Option Ruling). followed o [] s (λ t. behind_grace n (those_before p.standing earlier) left p asked t (reclaim_stop p.standing p.beside asked t))) e

-- one whom grace doesn't concern
pub judged_timely : (n : ℕ) (earlier : List Waiter) (left : Rooms) (p : Plea) (asked : List Claim) (s : CoreState) → p.standing ≡ Timely → judged n earlier left p asked s ≡ behind_grace n earlier left p asked s None
judged_timely n earlier left p asked s e = judged_by n earlier left p asked s ∙ ap (by_standing n earlier left p asked s) e ∙ ap (behind_grace n earlier left p asked s) (timely_goes asked) where
  timely_goes : (asks : List Claim) → reclaim_stop Timely p.beside asks s ≡ None
  timely_goes [] = refl
  timely_goes (c ∷ cs) = refl

-- one who reclaims
pub judged_reclaims : (n : ℕ) (earlier : List Waiter) (left : Rooms) (p : Plea) (c : Claim) (cs : List Claim) (s : CoreState) → p.standing ≡ Reclaims → judged n earlier left p (c ∷ cs) s ≡ behind_grace n [] left p (c ∷ cs) s (option_map conflicts (reclaim_blocker p.beside c s))
judged_reclaims n earlier left p c cs s e = judged_by n earlier left p (c ∷ cs) s ∙ ap (by_standing n earlier left p (c ∷ cs) s) e

pub judged_conflicts : (n : ℕ) (earlier : List Waiter) (left : Rooms) (p : Plea) (c d : Claim) (cs : List Claim) (s : CoreState) → p.standing ≡ Reclaims → reclaim_blocker p.beside c s ≡ Some d → judged n earlier left p (c ∷ cs) s ≡ (Told (Conflict d), [], s)
judged_conflicts n earlier left p c d cs s is e = judged_reclaims n earlier left p c cs s is ∙ ap (λ (o : Option Claim). behind_grace n [] left p (c ∷ cs) s (option_map conflicts o)) e

-- one that something blocks for good
stopped_row : (n : ℕ) (earlier : List Waiter) (left : Rooms) (p : Plea) (c d : Claim) (cs : List Claim) (s : CoreState) → least_blocker earlier s c ≡ Some d → behind_grace n earlier left p (c ∷ cs) s None ≡ (stopped p d, [], s)
unfolding check_row check_held held_with
stopped_row n earlier left p c d cs s e = rw e refl

pub judged_stopped : (n : ℕ) (earlier : List Waiter) (left : Rooms) (p : Plea) (c d : Claim) (cs : List Claim) (s : CoreState) → p.standing ≡ Timely → least_blocker earlier s c ≡ Some d → judged n earlier left p (c ∷ cs) s ≡ (stopped p d, [], s)
judged_stopped n earlier left p c d cs s timely e = judged_timely n earlier left p (c ∷ cs) s timely ∙ stopped_row n earlier left p c d cs s e

-- one that a cache keeps off
kept_row : (n : ℕ) (earlier : List Waiter) (left : Rooms) (p : Plea) (c d : Claim) (cs : List Claim) (s : CoreState) → least_blocker earlier s c ≡ None → cache_against s.claims c ≡ Some d → behind_grace n earlier left p (c ∷ cs) s None ≡ (kept_off p d, [], s)
unfolding check_row check_held check_caches held_with
kept_row n earlier left p c d cs s e k = rw (e, k) refl

pub judged_kept_off : (n : ℕ) (earlier : List Waiter) (left : Rooms) (p : Plea) (c d : Claim) (cs : List Claim) (s : CoreState) → p.standing ≡ Timely → least_blocker earlier s c ≡ None → cache_against s.claims c ≡ Some d → judged n earlier left p (c ∷ cs) s ≡ (kept_off p d, [], s)
judged_kept_off n earlier left p c d cs s timely e k = judged_timely n earlier left p (c ∷ cs) s timely ∙ kept_row n earlier left p c d cs s e k

-- what is ruled once nothing stops a claim
abbrev pub ended : ℕ → Plea → List Claim → CoreState → Ruled
ended n p asked s = after (record_name n p asked) (enter_all asked) s

abbrev pub last_ruled : Bool → Plea → List Claim → CoreState → Ruled
last_ruled true p asked s = (Gets, [], held_with asked (recorded (to_record p.unrecorded asked) s))
last_ruled false p asked s = (Told StoreFailed, [], unstored (to_record p.unrecorded asked) s)

pub ended_by : (n : ℕ) (p : Plea) (asked : List Claim) (s : CoreState) (b : Bool) → may_record n s (to_record p.unrecorded asked) ≡ b → ended n p asked s ≡ last_ruled b p asked s
unfolding record_name enter_all
ended_by n p asked s b e = ap (λ (x : Bool). let r = recorded_or x (to_record p.unrecorded asked) s in followed r.0 r.1 r.2 (enter_all asked)) e ∙ both b where
  both : (b : Bool) → (let r = recorded_or b (to_record p.unrecorded asked) s in followed r.0 r.1 r.2 (enter_all asked)) ≡ last_ruled b p asked s
  both true = refl
  both false = refl

-- all are granted where nothing stops one of them, if no store fails that is wanted first
pub judged_row : (n : ℕ) (earlier : List Waiter) (left : Rooms) (p : Plea) (asked : List Claim) (s : CoreState) → p.standing ≡ Timely → judged n earlier left p asked s ≡ followed (first_stop earlier left p asked s) [] s (ended n p asked)
unfolding check_row
judged_row n earlier left p asked s timely = judged_timely n earlier left p asked s timely

-- ---- what most claims meet

-- where no cache stands on its file the least of what blocks it is what does so for good
pub held_for_good : (earlier : List Waiter) (p : Plea) (c d : Claim) (s : CoreState) (later : Option Ruling) → least s.names (filter (λ held. blocks c held) s.claims) ≡ Some d → list_any (λ h. (h.file == c.file) && is_cache h.what) s.claims ≡ false → or_else (check_held earlier p c s) (or_else (check_caches p c s) later) ≡ Some (stopped p d)
unfolding check_held held_blockers
held_for_good earlier p c d s later e none = rw (blocker_by earlier s c (Some d) (ap (least s.names) (all_final c s.claims none) ∙ e)) refl

-- ---- one claim

abbrev pub ruled_by : ℕ → Plea → CoreState → Claim → Option Claim → Option Claim → Option ℕ → Ruled
ruled_by n p s c (Some d) cache passed = (stopped p d, [], s)
ruled_by n p s c None (Some d) passed = (kept_off p d, [], s)
ruled_by n p s c None None (Some limit) = (Told (Full limit), [], s)
ruled_by n p s c None None None = ended n p (c ∷ []) s

row_is : (n : ℕ) (earlier : List Waiter) (left : Rooms) (p : Plea) (c : Claim) (s : CoreState) → behind_grace n earlier left p (c ∷ []) s None ≡ ruled_by n p s c (least_blocker earlier s c) (cache_against s.claims c) (passed_by left p s c)
unfolding check_row check_held check_caches check_room held_with
row_is n earlier left p c s = go (least_blocker earlier s c) (cache_against s.claims c) (passed_by left p s c) refl refl refl where
  go : (o k : Option Claim) (l : Option ℕ) → least_blocker earlier s c ≡ o → cache_against s.claims c ≡ k → passed_by left p s c ≡ l → behind_grace n earlier left p (c ∷ []) s None ≡ ruled_by n p s c o k l
  go (Some d) k l e f g = rw e refl
  go None (Some d) l e f g = rw (e, f) refl
  go None None (Some limit) e f g = rw (e, f, g) refl
  go None None None e f g = rw (e, f, g) refl

pub judged_is : (n : ℕ) (earlier : List Waiter) (left : Rooms) (p : Plea) (c : Claim) (s : CoreState) → p.standing ≡ Timely → judged n earlier left p (c ∷ []) s ≡ ruled_by n p s c (least_blocker earlier s c) (cache_against s.claims c) (passed_by left p s c)
judged_is n earlier left p c s timely = judged_timely n earlier left p (c ∷ []) s timely ∙ row_is n earlier left p c s

-- one who reclaims, by what blocks it
abbrev pub reclaimed_by : ℕ → Plea → CoreState → Claim → Option Claim → Option ℕ → Ruled
reclaimed_by n p s c (Some d) passed = (Told (Conflict d), [], s)
reclaimed_by n p s c None (Some limit) = (Told (Full limit), [], s)
reclaimed_by n p s c None None = ended n p (c ∷ []) s

pub judged_back : (n : ℕ) (earlier : List Waiter) (left : Rooms) (p : Plea) (c : Claim) (s : CoreState) → p.standing ≡ Reclaims → judged n earlier left p (c ∷ []) s ≡ reclaimed_by n p s c (reclaim_blocker p.beside c s) (passed_by left p s c)
judged_back n earlier left p c s is = judged_reclaims n earlier left p c [] s is ∙ go (reclaim_blocker p.beside c s) refl where
  last : (l : Option ℕ) → ruled_by n p s c None None l ≡ reclaimed_by n p s c None l
  last None = refl
  last (Some limit) = refl

  go : (o : Option Claim) → reclaim_blocker p.beside c s ≡ o → behind_grace n [] left p (c ∷ []) s (option_map conflicts o) ≡ reclaimed_by n p s c o (passed_by left p s c)
  go (Some d) e = refl
  go None e =
      let free = reclaims_free [] p c s (ap (option_map conflicts) e) in
      row_is n [] left p c s ∙ ap (λ (o : Option Claim). ruled_by n p s c o (cache_against s.claims c) (passed_by left p s c)) (none_blockers [] s c (free_moves [] s c (free_from [] s c free (none_ahead s c))))
      ∙ ap (λ (o : Option Claim). ruled_by n p s c None o (passed_by left p s c)) (free_clear s.claims c free) ∙ last (passed_by left p s c)

-- ---- one claim alone, as it is judged

-- the row of one claim, behind grace
abbrev alone_row : ℕ → List Waiter → Rooms → Plea → Claim → CoreState → Ruled
alone_row n earlier left p c s = after (check_row earlier left p (c ∷ [])) (after (record_name n p (c ∷ [])) (enter_all (c ∷ []))) s

pub alone_stopped : (n : ℕ) (earlier : List Waiter) (left : Rooms) (p : Plea) (c : Claim) (s : CoreState) (r : Ruling) → stop_of earlier left p c s ≡ Some r → alone_row n earlier left p c s ≡ (r, [], s)
unfolding check_row
alone_stopped n earlier left p c s r e = ap (λ (o : Option Ruling). followed (or_else o None) [] s (after (record_name n p (c ∷ [])) (enter_all (c ∷ [])))) e

alone_goes : (n : ℕ) (earlier : List Waiter) (left : Rooms) (p : Plea) (c : Claim) (s : CoreState) → stop_of earlier left p c s ≡ None → alone_row n earlier left p c s ≡ ended n p (c ∷ []) s
unfolding check_row
alone_goes n earlier left p c s e = ap (λ (o : Option Ruling). followed (or_else o None) [] s (after (record_name n p (c ∷ [])) (enter_all (c ∷ [])))) e

pub alone_failed : (n : ℕ) (earlier : List Waiter) (left : Rooms) (p : Plea) (c : Claim) (s t : CoreState) → stop_of earlier left p c s ≡ None → recorded_by n p.unrecorded s ≡ (Some (Told StoreFailed), [], t) → alone_row n earlier left p c s ≡ (Told StoreFailed, [], t)
unfolding record_name
alone_failed n earlier left p c s t none e = alone_goes n earlier left p c s none ∙ ap (λ (x : Option Ruling × List Effect × CoreState). followed x.0 x.1 x.2 (enter_all (c ∷ []))) e

pub alone_gets : (n : ℕ) (earlier : List Waiter) (left : Rooms) (p : Plea) (c : Claim) (s t : CoreState) → stop_of earlier left p c s ≡ None → recorded_by n p.unrecorded s ≡ (None, [], t) → alone_row n earlier left p c s ≡ (Gets, [], held_with (c ∷ []) t)
unfolding record_name enter_all
alone_gets n earlier left p c s t none e = alone_goes n earlier left p c s none ∙ ap (λ (x : Option Ruling × List Effect × CoreState). followed x.0 x.1 x.2 (enter_all (c ∷ []))) e

-- the name is recorded, or its store fails
pub recorded_some : (n : ℕ) (s t : CoreState) (name : Recorded) (longer : Stable) (ok : Bool) → longer ≡ with_name name s.stable → may_store n s ≡ ok → t ≡ (if ok then stored longer s else store_failed longer s)
    → recorded_by n (Some name) s ≡ ((if ok then None else Some (Told StoreFailed)), [], t)
recorded_some n s t name longer ok is may e = ap (λ (b : Bool). recorded_or b (Some name) s) may ∙ by ok e where
  by : (b : Bool) → t ≡ (if b then stored longer s else store_failed longer s) → recorded_or b (Some name) s ≡ ((if b then None else Some (Told StoreFailed)), [], t)
  by true e = (λ i. (None, [], (ap (λ (x : Stable). stored x s) (sym is) ∙ sym e) i))
  by false e = (λ i. (Some (Told StoreFailed), [], (ap (λ (x : Stable). store_failed x s) (sym is) ∙ sym e) i))

pub judged_alone : (n : ℕ) (earlier front : List Waiter) (left : Rooms) (p : Plea) (asked : List Claim) (c : Claim) (s : CoreState) (graced_so back : Option Ruling) → those_before p.standing earlier ≡ front → asked ≡ c ∷ [] → check_grace p s ≡ (graced_so, [], s) → graced_so ≡ None → check_reclaim p asked s ≡ (back, [], s) → back ≡ None
    → judged n earlier left p asked s ≡ alone_row n front left p c s
unfolding judged
judged_alone n earlier front left p asked c s graced_so back at is on none off free =
    ap (λ (ws : List Waiter). after (check_grace p) (after (check_reclaim p asked) (after (check_row ws left p asked) (after (record_name n p asked) (enter_all asked)))) s) at
    ∙ ap (λ (x : Option Ruling × List Effect × CoreState). followed x.0 x.1 x.2 (after (check_reclaim p asked) (after (check_row front left p asked) (after (record_name n p asked) (enter_all asked))))) (on ∙ (λ i. (none i, [], s)))
    ∙ ap (λ (x : Option Ruling × List Effect × CoreState). followed x.0 x.1 x.2 (after (check_row front left p asked) (after (record_name n p asked) (enter_all asked)))) (off ∙ (λ i. (free i, [], s)))
    ∙ ap (λ (cs : List Claim). after (check_row front left p cs) (after (record_name n p cs) (enter_all cs)) s) is

-- ---- what the code finds

-- what stops one claim, once what is held against it is known
pub stop_one : (earlier : List Waiter) (left : Rooms) (p : Plea) (c : Claim) (s : CoreState) (found o : Option Ruling) → ((later : Option Ruling) → or_else (check_held earlier p c s) (or_else (check_caches p c s) later) ≡ or_else found later) → found ≡ o → first_stop earlier left p (c ∷ []) s ≡ or_else o (check_room left p c s)
stop_one earlier left p c s found o fact is = alone (stop_of earlier left p c s) ∙ fact (check_room left p c s) ∙ ap (λ (x : Option Ruling). or_else x (check_room left p c s)) is where
  alone : (x : Option Ruling) → or_else x None ≡ x
  alone None = refl
  alone (Some r) = refl

-- what is ruled of several, by what stopped one of them
pub gets_few : (earlier : List Waiter) (left : Rooms) (p : Plea) (asked : List Claim) (s : CoreState) (o : Option Ruling) → first_stop earlier left p asked s ≡ o → unwrap_or o Gets ≡ Gets → IsFew p asked
gets_few earlier left p asked s None e is = row_few earlier left p asked s e
gets_few earlier left p asked s (Some r) e is = absurd (row_gets earlier left p asked s (e ∙ ap Some is))

pub waits_room : (earlier : List Waiter) (left : Rooms) (p : Plea) (asked : List Claim) (s : CoreState) (o : Option Ruling) → first_stop earlier left p asked s ≡ o → unwrap_or o Gets ≡ Waits → p.crowded ≡ None
waits_room earlier left p asked s None e is = absurd cc
waits_room earlier left p asked s (Some r) e is = row_waits earlier left p asked s (e ∙ ap Some is)
