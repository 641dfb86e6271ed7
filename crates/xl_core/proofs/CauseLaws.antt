-- Each answer of an ask is given exactly where its cause stands.
use Rattle.std.proofs.Common.{◌≡◌, ℕ, ◌+◌, ◌≤◌, Bool, true, false, not, if◌then◌else◌, ◌&&◌, nat_le, leb, max, ◌⊎◌, inl, inr, List, [], ◌∷◌, length, Option, Some, None, option_map, refl, sym, ap, subst, ◌∙◌, ◌↔◌, arith, map, is_some, ◌||◌}
use Rattle.std.specs.List.{filter, list_any, AllByRecursion}
use Rattle.std.proofs.lemmas.Bool.Decides.{nat_tests}
use Rattle.std.proofs.lemmas.Bool.{cases_Bool, both_ways, and_from, and_right, or_parts, or_left, or_right, leb-true, le-leb, lt-leb, leb-false, and_parts}
use Rattle.xl_base.specs.Lists.{IsIn}
use Rattle.xl_base.proofs.Members.{in_filter_from}
use Rattle.xl_matrix.specs.declared.claim.CacheKind.{CacheKind}
use Rattle.xl_matrix.specs.declared.claim.Claim.{Claim}
use Rattle.xl_matrix.specs.declared.claim.Extent.{Extent}
use Rattle.xl_matrix.specs.declared.claim.Extent.TheVariants.{Bytes}
use Rattle.xl_matrix.specs.declared.claim.Extent.TheVariants as extents
use Rattle.xl_matrix.specs.declared.claim.What.{What}
use Rattle.xl_matrix.specs.declared.claim.What.TheVariants as whats
use Rattle.xl_spans.specs.Spans.{within, mode_at, meets}
use Rattle.xl_spans.specs.declared.span.Span.{Span}
use Rattle.xl_spans.specs.declared.span.Mode.{Mode}
use Rattle.xl_spans.proofs.Bytes.{AreRanges}
use Rattle.xl_spans.proofs.Chains.{canonical_ranges}
use Rattle.xl_table.specs.Flat.{blocks, is_blocked}
use Rattle.xl_table.specs.Held.{is_range, spans_of, IsShareOrLock}
use Rattle.xl_table.specs.Least.{least}
use Rattle.xl_table.specs.Relock.{most_claims, holds_byte, granted_claims}
use Rattle.xl_wait.specs.declared.waiter.Rooms.{Rooms}
use Rattle.xl_wait.specs.declared.waiter.Waiter.{Waiter}
use Rattle.xl_core.specs.State.{CoreState}
use Rattle.xl_core.specs.Askers.{both_entered, asked_whats, alone, asked_what, asked_claim, asked_claims, known_claim, is_client, is_named, may_hold, may_ask, IsFitAct, IsFit, IsOrdered, AreMore, may_hold_all, range_what, known_owner}
use Rattle.xl_core.specs.Blockers.{test_blockers, is_stopped, cache_against, blocker, range_ahead, is_in_line}
use Rattle.xl_core.specs.Causes.{limits_of_grant, limits_of_wait, may_wait, IsWaiting, IsFree, IsAgainst, wanted, IsClaimDue, stands_against, IsTestDue, HasNoByte, HasByte, left_by_unlock, IsUnlockDue, IsElementDue, IsEachBehind, IsEachDue, last_answer, IsWishBy, IsWishDue}
use Rattle.xl_core.specs.Decide.{Answered, beside_of, plea_of, answered, claims_asked, test_answered, tested_by, tested, unlocked_claims, unlocked_bytes, unlocked, wish_by, wish_graced, wish_asked, acted, decided, unlocked_one, freed}
use Rattle.xl_core.specs.Good.{IsGood}
use Rattle.xl_core.specs.Judge.{Ruled, judged, graced, first_of, least_beside, reclaim_blocker, blocks_beside, blocks_its_cache, held_then, followed, stopped, check_held, kept_off, check_caches, full, check_room, held_with, waits, does_wait, at_once, or_else, first_stop, those_before}
use Rattle.xl_core.specs.Limits.{first_passed, IsRoom, grant_limits, wish_limits}
use Rattle.xl_core.specs.declared.ask.Act.{Act}
use Rattle.xl_core.specs.declared.ask.Act.TheVariants.{Share, Ranges, Test, Unlock, Wish}
use Rattle.xl_core.specs.declared.ask.Answer.{Answer}
use Rattle.xl_core.specs.declared.ask.Answer.TheVariants as answers
use Rattle.xl_core.specs.declared.ask.Ask.{Ask}
use Rattle.xl_core.specs.declared.ask.Who.{Who}
use Rattle.xl_table.proofs.LeastLaws.{least_in, least_none, least_empty, none_passes}
use Rattle.xl_core.proofs.DecideLaws.{blockers_none, none_blockers, blockers_some, some_stops, some_blocks, stops_some, cache_some, cache_blocked, free_unless, free_moves, free_clear, moves_cache, blocked_in_line, free_parts, free_from, none_ahead}
use Rattle.xl_core.proofs.KnownLaws.{known_posix}
use Rattle.xl_core.proofs.LimitLaws.{IsFound, grant_found, wait_found, grant_least, wait_least, wish_found, wish_least}
use Rattle.xl_core.proofs.RowLaws.{ruled_by, reclaimed_by, least_blocker, ended, ended_by, judged_graced, judged_stopped, judged_kept_off, judged_conflicts, judged_is, judged_back, judged_row}
use Rattle.xl_core.proofs.StandingLaws.{enters_cases, timely_asks, late_asks, alone_goes, late}
use Rattle.xl_core.specs.Standings.{asker_as, is_smb, standing, stands, stands_alone, refusal, enters}
use Rattle.xl_core.specs.Stores.{may_record, bytes_with}
use Rattle.xl_core.specs.declared.standings.Standing.{Standing}
use Rattle.xl_core.specs.declared.standings.Standing.TheVariants.{Timely, Reclaims, Stays, Early, Late, Unrecorded}
use Rattle.xl_matrix.specs.Owners.{posix}
use Rattle.xl_core.specs.declared.judge.Ruling.{Ruling}
use Rattle.xl_core.specs.declared.judge.Ruling.TheVariants.{Gets, Waits, Told}
use Rattle.xl_core.specs.declared.judge.Plea.{Plea}
use Rattle.xl_table.specs.Elements.{element_held}

abbrev first_is : Answered → Answer
first_is r = r.0

-- ---- a share or a lock

pub same_list : (what : What) (asked : List What) → alone asked ≡ Some what → asked ≡ what ∷ []
same_list what [] e = absurd cc
same_list what (w ∷ []) e = cc
same_list what (w ∷ v ∷ more) e = absurd cc

by_act : (n : ℕ) (left : Rooms) (s : CoreState) (a : Ask) (act : Act) (what : What) → asked_what act ≡ Some what → acted n left s a act ≡ claims_asked n left s a (asked_claims a (asked_whats act) s.names)
by_act n left s a (Share access deny) what e = refl
by_act n left s a (Ranges ranges) what e = refl
by_act n left s a (Test extent exclusive) what e = absurd cc
by_act n left s a (Unlock extent) what e = absurd cc
by_act n left s a Wish what e = absurd cc

-- what becomes of an ask for one claim, by its ruling
abbrev pub ruled : Ask → Claim → Ruled → Answered
ruled a claim r = answered a (claim ∷ []) claim r.0 r.1 r.2

pub lock_is : (n : ℕ) (left : Rooms) (s : CoreState) (a : Ask) (what : What) → asked_what a.act ≡ Some what
    → (let claim = asked_claim a what s.names in decided n left s a ≡ ruled a claim (judged n s.waiters left (plea_of left s a) (claim ∷ []) s))
unfolding decided claims_asked
lock_is n left s a what e =
    by_act n left s a a.act what e ∙ ap (λ (asked : List What). claims_asked n left s a (asked_claims a asked s.names)) (same_list what (asked_whats a.act) e)

-- what one is told whose wait passes this limit, or none
abbrev told_wait : CoreState → Option ℕ → Answer
told_wait s None = answers.Queued (s.counter + 1)
told_wait s (Some limit) = answers.Full limit

-- what a timely ask is told, by the least that blocks it for good, the cache that keeps it off, the least limits that its
-- grant and its wait pass, and whether its client is recorded or can be
abbrev told_by : CoreState → Ask → Claim → Option Claim → Option Claim → Option ℕ → Bool → Bool → Option ℕ → Bool → Answer
told_by s a claim (Some c) cache grant true awaiting wait may = told_wait s wait
told_by s a claim (Some c) cache grant false awaiting wait may = answers.Conflict c
told_by s a claim None (Some c) grant blocking true wait may = told_wait s wait
told_by s a claim None (Some c) grant blocking false wait may = answers.Recall c
told_by s a claim None None (Some limit) blocking awaiting wait may = answers.Full limit
told_by s a claim None None None blocking awaiting wait may = last_answer may claim

-- and a reclaim, by what blocks it
abbrev told_back : Claim → Option Claim → Option ℕ → Bool → Answer
told_back claim (Some c) grant may = answers.Conflict c
told_back claim None (Some limit) may = answers.Full limit
told_back claim None None may = last_answer may claim

-- what is looked at
abbrev told_timely : ℕ → Rooms → CoreState → Ask → Claim → Answer
told_timely n left s a claim =
    told_by s a claim (least_blocker s.waiters s claim) (cache_against s.claims claim) (first_passed (limits_of_grant left s a claim)) a.blocking a.awaits (first_passed (limits_of_wait left s a)) (may_record n s (wanted s a))

abbrev told_reclaim : ℕ → Rooms → CoreState → Ask → Claim → Answer
told_reclaim n left s a claim = told_back claim (reclaim_blocker (beside_of a.reclaim a.wish) claim s) (first_passed (limits_of_grant left s a claim)) (may_record n s (wanted s a))

abbrev told_standing : ℕ → Rooms → CoreState → Ask → Claim → Standing → Answer
told_standing n left s a claim Timely = told_timely n left s a claim
told_standing n left s a claim Reclaims = told_reclaim n left s a claim
told_standing n left s a claim Stays = told_wait s (first_passed (limits_of_wait left s a))
told_standing n left s a claim (Early until) = answers.Grace until
told_standing n left s a claim (Late clock) = answers.NoGrace clock
told_standing n left s a claim Unrecorded = answers.NotRecorded

waits_told : (s : CoreState) (a : Ask) (claim : Claim) (o : Option ℕ) → (ruled a claim (waits o, [], s)).0 ≡ told_wait s o
waits_told s a claim None = refl
waits_told s a claim (Some limit) = refl

ended_told : (n : ℕ) (p : Plea) (s : CoreState) (a : Ask) (claim : Claim) → (ruled a claim (ended n p (claim ∷ []) s)).0 ≡ last_answer (may_record n s p.unrecorded) claim
ended_told n p s a claim = by (may_record n s p.unrecorded) refl where
  by : (b : Bool) → may_record n s p.unrecorded ≡ b → (ruled a claim (ended n p (claim ∷ []) s)).0 ≡ last_answer b claim
  by true e = ap (λ (r : Ruled). (ruled a claim r).0) (ended_by n p (claim ∷ []) s true e)
  by false e = ap (λ (r : Ruled). (ruled a claim r).0) (ended_by n p (claim ∷ []) s false e)

lock_told : (n : ℕ) (left : Rooms) (s : CoreState) (a : Ask) (claim : Claim) → (ruled a claim (judged n s.waiters left (plea_of left s a) (claim ∷ []) s)).0 ≡ told_standing n left s a claim (stands s a)
unfolding plea_of
lock_told n left s a claim = by (stands s a) refl where
  p : Plea
  p = plea_of left s a

  go : (o k : Option Claim) (l : Option ℕ) (b u : Bool) (w : Option ℕ) → a.blocking ≡ b → a.awaits ≡ u → first_passed (limits_of_wait left s a) ≡ w → (ruled a claim (ruled_by n p s claim o k l)).0 ≡ told_by s a claim o k l b u w (may_record n s (wanted s a))
  go (Some c) k l true u w e f g = ap (λ (x : Bool). (ruled a claim (if x then waits p.crowded else Told (answers.Conflict c), [], s)).0) e ∙ waits_told s a claim (first_passed (limits_of_wait left s a)) ∙ ap (told_wait s) g
  go (Some c) k l false u w e f g = ap (λ (x : Bool). (ruled a claim (if x then waits p.crowded else Told (answers.Conflict c), [], s)).0) e
  go None (Some c) l b true w e f g = ap (λ (x : Bool). (ruled a claim (if x then waits p.crowded else Told (answers.Recall c), [], s)).0) f ∙ waits_told s a claim (first_passed (limits_of_wait left s a)) ∙ ap (told_wait s) g
  go None (Some c) l b false w e f g = ap (λ (x : Bool). (ruled a claim (if x then waits p.crowded else Told (answers.Recall c), [], s)).0) f
  go None None (Some limit) b u w e f g = refl
  go None None None b u w e f g = ended_told n p s a claim

  back : (o : Option Claim) (l : Option ℕ) → (ruled a claim (reclaimed_by n p s claim o l)).0 ≡ told_back claim o l (may_record n s (wanted s a))
  back (Some c) l = refl
  back None (Some limit) = refl
  back None None = ended_told n p s a claim

  graced_told : (r : Ruling) (x : Answer) → graced p (stands s a) ≡ Some r → (ruled a claim (r, [], s)).0 ≡ x → (ruled a claim (judged n s.waiters left p (claim ∷ []) s)).0 ≡ x
  graced_told r x e f = ap (λ (q : Ruled). (ruled a claim q).0) (judged_graced n s.waiters left p (claim ∷ []) s r e) ∙ f

  by : (standing : Standing) → stands s a ≡ standing → (ruled a claim (judged n s.waiters left p (claim ∷ []) s)).0 ≡ told_standing n left s a claim standing
  by Timely is =
      ap (λ (r : Ruled). (ruled a claim r).0) (judged_is n s.waiters left p claim s is)
      ∙ go (least_blocker s.waiters s claim) (cache_against s.claims claim) (first_passed (limits_of_grant left s a claim)) a.blocking a.awaits (first_passed (limits_of_wait left s a)) refl refl refl
  by Reclaims is = ap (λ (r : Ruled). (ruled a claim r).0) (judged_back n s.waiters left p claim s is) ∙ back (reclaim_blocker (beside_of a.reclaim a.wish) claim s) (first_passed (limits_of_grant left s a claim))
  by Stays is = graced_told (waits p.crowded) _ (ap (graced p) is) (waits_told s a claim (first_passed (limits_of_wait left s a)))
  by (Early until) is = graced_told (Told (answers.Grace until)) _ (ap (graced p) is) refl
  by (Late clock) is = graced_told (Told (answers.NoGrace clock)) _ (ap (graced p) is) refl
  by Unrecorded is = graced_told (Told answers.NotRecorded) _ (ap (graced p) is) refl

-- who is stopped for good may wait where it blocks, and who isn't where it awaits answers
may_stopped : (earlier : List Waiter) (s : CoreState) (a : Ask) (claim : Claim) → is_stopped earlier s claim ≡ true → a.blocking ≡ true → may_wait earlier s a claim ≡ true
may_stopped earlier s a claim stops blocking = rw stops blocking

may_moves : (earlier : List Waiter) (s : CoreState) (a : Ask) (claim : Claim) → is_stopped earlier s claim ≡ false → a.awaits ≡ true → may_wait earlier s a claim ≡ true
may_moves earlier s a claim moves waits = ap (λ (b : Bool). if b then a.blocking else a.awaits) moves ∙ waits

stopped_may : (earlier : List Waiter) (s : CoreState) (a : Ask) (claim : Claim) → is_stopped earlier s claim ≡ true → may_wait earlier s a claim ≡ true → a.blocking ≡ true
stopped_may earlier s a claim stops may = sym (ap (λ (b : Bool). if b then a.blocking else a.awaits) stops) ∙ may

moves_may : (earlier : List Waiter) (s : CoreState) (a : Ask) (claim : Claim) → is_stopped earlier s claim ≡ false → may_wait earlier s a claim ≡ true → a.awaits ≡ true
moves_may earlier s a claim moves may = sym (ap (λ (b : Bool). if b then a.blocking else a.awaits) moves) ∙ may

-- nothing is asked for beside the claim of one who doesn't reclaim
none_beside : (a : Ask) (claim : Claim) (cs : List Claim) → a.reclaim ≡ false → list_any (λ c. blocks_its_cache (beside_of a.reclaim a.wish) claim c) cs ≡ false
none_beside a claim cs e = ap (λ (b : Bool). list_any (λ c. blocks_its_cache (beside_of b a.wish) claim c) cs) e ∙ none cs where
  none : (cs : List Claim) → list_any (λ c. blocks_its_cache (beside_of false a.wish) claim c) cs ≡ false
  none [] = refl
  none (c ∷ cs) = none cs

timely_free : (s : CoreState) (a : Ask) (claim : Claim) → stands s a ≡ Timely → is_in_line s.waiters s claim ≡ false → IsFree s a claim
timely_free s a claim timely free =
    let parts = free_parts s.waiters s claim free in (
      parts.0,
      none_beside a claim s.claims (timely_asks s (asker_as a) (is_smb a.party) a.reclaim timely),
      subst (λ (st : Standing). range_ahead (those_before st s.waiters) s claim ≡ None) (sym timely) parts.1,
    )

-- who reclaims has nobody in front
back_free : (s : CoreState) (a : Ask) (claim : Claim) → stands s a ≡ Reclaims → (is_blocked s.claims claim ≡ false) × (list_any (λ c. blocks_its_cache (beside_of a.reclaim a.wish) claim c) s.claims ≡ false) → IsFree s a claim
back_free s a claim is free = (free.0, free.1, subst (λ (st : Standing). range_ahead (those_before st s.waiters) s claim ≡ None) (sym is) (none_ahead s claim))

-- what blocks a reclaim, and what doesn't
pub reclaim_some : (beside : Option CacheKind) (claim c : Claim) (s : CoreState) → reclaim_blocker beside claim s ≡ Some c → IsIn c s.claims × ((blocks claim c || blocks_its_cache beside claim c) ≡ true)
reclaim_some beside claim c s e = first (least s.names (filter (λ held. blocks claim held) s.claims)) refl e where
  later : (b : Option CacheKind) → least_beside b claim s ≡ Some c → IsIn c s.claims × ((blocks claim c || blocks_its_cache b claim c) ≡ true)
  later None e = absurd cc
  later (Some kind) e =
      let held = in_filter_from (λ d. blocks_beside kind claim d) c s.claims (least_in s.names (filter (λ d. blocks_beside kind claim d) s.claims) c e) in
      (held.0, or_right (blocks claim c) (blocks_beside kind claim c) held.1)

  first : (o : Option Claim) → least s.names (filter (λ held. blocks claim held) s.claims) ≡ o → first_of o (least_beside beside claim s) ≡ Some c → IsIn c s.claims × ((blocks claim c || blocks_its_cache beside claim c) ≡ true)
  first (Some d) is e =
      let held = in_filter_from (λ d. blocks claim d) c s.claims (least_in s.names (filter (λ d. blocks claim d) s.claims) c (is ∙ e)) in
      (held.0, or_left (blocks claim c) (blocks_its_cache beside claim c) held.1)
  first None is e = later beside e

pub reclaim_none : (beside : Option CacheKind) (claim : Claim) (s : CoreState) → reclaim_blocker beside claim s ≡ None → (is_blocked s.claims claim ≡ false) × (list_any (λ c. blocks_its_cache beside claim c) s.claims ≡ false)
reclaim_none beside claim s e = first (least s.names (filter (λ held. blocks claim held) s.claims)) refl e where
  nothing : (cs : List Claim) → list_any (λ c. blocks_its_cache None claim c) cs ≡ false
  nothing [] = refl
  nothing (c ∷ cs) = nothing cs

  later : (b : Option CacheKind) → least_beside b claim s ≡ None → list_any (λ c. blocks_its_cache b claim c) s.claims ≡ false
  later None e = nothing s.claims
  later (Some kind) e = none_passes (λ d. blocks_beside kind claim d) s.claims (least_none s.names (filter (λ d. blocks_beside kind claim d) s.claims) e)

  first : (o : Option Claim) → least s.names (filter (λ held. blocks claim held) s.claims) ≡ o → first_of o (least_beside beside claim s) ≡ None → (is_blocked s.claims claim ≡ false) × (list_any (λ c. blocks_its_cache beside claim c) s.claims ≡ false)
  first (Some d) is e = absurd cc
  first None is e = (none_passes (λ d. blocks claim d) s.claims (least_none s.names (filter (λ held. blocks claim held) s.claims) is), later beside e)

none_filtered : (p : Claim → Bool) (cs : List Claim) → list_any p cs ≡ false → filter p cs ≡ []
none_filtered p [] e = refl
none_filtered p (c ∷ cs) e = let parts = or_parts (p c) (list_any p cs) e in rw parts.0 (none_filtered p cs parts.1)

pub none_reclaim : (beside : Option CacheKind) (claim : Claim) (s : CoreState) → is_blocked s.claims claim ≡ false → list_any (λ c. blocks_its_cache beside claim c) s.claims ≡ false → reclaim_blocker beside claim s ≡ None
none_reclaim beside claim s free clear =
    ap (λ (o : Option Claim). first_of o (least_beside beside claim s)) (least_empty s.names (filter (λ held. blocks claim held) s.claims) (none_filtered (λ held. blocks claim held) s.claims free)) ∙ by beside clear
  where
    by : (b : Option CacheKind) → list_any (λ c. blocks_its_cache b claim c) s.claims ≡ false → least_beside b claim s ≡ None
    by None e = refl
    by (Some kind) e = least_empty s.names (filter (λ d. blocks_beside kind claim d) s.claims) (none_filtered (λ d. blocks_beside kind claim d) s.claims e)

lock_forth : (n : ℕ) (left : Rooms) (s : CoreState) (a : Ask) (claim : Claim) → IsClaimDue n left s a claim (told_standing n left s a claim (stands s a))
lock_forth n left s a claim = by (stands s a) refl where
  kept : ℕ
  kept = length (both_entered a s.names)

  held : ℕ
  held = held_then (beside_of a.reclaim a.wish) claim s.claims

  bytes : ℕ
  bytes = bytes_with (wanted s a) s.stable

  waiting : (w : Option ℕ) → IsWaiting (stands s a) s.waiters s a claim → first_passed (limits_of_wait left s a) ≡ w → IsClaimDue n left s a claim (told_wait s w)
  waiting None may wait = (refl, may, wait_found left a.rows (length s.waiters) kept None wait)
  waiting (Some limit) may wait = inr (may, wait_found left a.rows (length s.waiters) kept (Some limit) wait)

  last : (b : Bool) → enters (stands s a) ≡ true → IsFree s a claim → first_passed (limits_of_grant left s a claim) ≡ None → may_record n s (wanted s a) ≡ b → IsClaimDue n left s a claim (last_answer b claim)
  last true in_time free grant may = (refl, in_time, free, grant_found left a.rows held bytes kept None grant, may)
  last false in_time free grant may = (in_time, free, grant_found left a.rows held bytes kept None grant, may)

  may_wait_so : stands s a ≡ Timely → may_wait s.waiters s a claim ≡ true → is_in_line s.waiters s claim ≡ true → IsWaiting (stands s a) s.waiters s a claim
  may_wait_so timely may blocked = subst (λ (st : Standing). IsWaiting st s.waiters s a claim) (sym timely) (may, blocked)

  go : stands s a ≡ Timely → (o k : Option Claim) (l : Option ℕ) (b u : Bool) → least_blocker s.waiters s claim ≡ o → cache_against s.claims claim ≡ k → first_passed (limits_of_grant left s a claim) ≡ l → a.blocking ≡ b → a.awaits ≡ u
      → IsClaimDue n left s a claim (told_by s a claim o k l b u (first_passed (limits_of_wait left s a)) (may_record n s (wanted s a)))
  go timely (Some c) k l true u is cache grant may answers =
      waiting (first_passed (limits_of_wait left s a)) (may_wait_so timely (may_stopped s.waiters s a claim (some_stops s.waiters s claim c is) may) (some_blocks s.waiters s claim c is)) refl
  go timely (Some c) k l false u is cache grant may answers = let found = blockers_some s.waiters s claim c is in subst (λ (st : Standing). IsAgainst st s a claim c) (sym timely) (may, is, found)
  go timely None (Some c) l b true is cache grant may answers =
      waiting (first_passed (limits_of_wait left s a)) (may_wait_so timely (may_moves s.waiters s a claim (blockers_none s.waiters s claim is) answers) (blocked_in_line s.waiters s claim (cache_blocked s.claims claim c cache))) refl
  go timely None (Some c) l b false is cache grant may answers = let found = cache_some s.claims claim c cache in (timely, answers, blockers_none s.waiters s claim is, cache, found.0, found.1)
  go timely None None (Some limit) b u is cache grant may answers =
      inl (ap enters timely, timely_free s a claim timely (free_unless s.waiters s claim (blockers_none s.waiters s claim is) cache), grant_found left a.rows held bytes kept (Some limit) grant)
  go timely None None None b u is cache grant may answers =
      last (may_record n s (wanted s a)) (ap enters timely) (timely_free s a claim timely (free_unless s.waiters s claim (blockers_none s.waiters s claim is) cache)) grant refl

  back : stands s a ≡ Reclaims → (o : Option Claim) (l : Option ℕ) → reclaim_blocker (beside_of a.reclaim a.wish) claim s ≡ o → first_passed (limits_of_grant left s a claim) ≡ l → IsClaimDue n left s a claim (told_back claim o l (may_record n s (wanted s a)))
  back is (Some c) l e grant = let found = reclaim_some (beside_of a.reclaim a.wish) claim c s e in subst (λ (st : Standing). IsAgainst st s a claim c) (sym is) (e, found.0, found.1)
  back is None (Some limit) e grant = inl (ap enters is, back_free s a claim is (reclaim_none (beside_of a.reclaim a.wish) claim s e), grant_found left a.rows held bytes kept (Some limit) grant)
  back is None None e grant = last (may_record n s (wanted s a)) (ap enters is) (back_free s a claim is (reclaim_none (beside_of a.reclaim a.wish) claim s e)) grant refl

  by : (standing : Standing) → stands s a ≡ standing → IsClaimDue n left s a claim (told_standing n left s a claim standing)
  by Timely is = go is (least_blocker s.waiters s claim) (cache_against s.claims claim) (first_passed (limits_of_grant left s a claim)) a.blocking a.awaits refl refl refl refl refl
  by Reclaims is = back is (reclaim_blocker (beside_of a.reclaim a.wish) claim s) (first_passed (limits_of_grant left s a claim)) refl refl
  by Stays is = waiting (first_passed (limits_of_wait left s a)) (subst (λ (st : Standing). IsWaiting st s.waiters s a claim) (sym is) tt) refl
  by (Early until) is = is
  by (Late clock) is = late_asks s (asker_as a) (is_smb a.party) a.reclaim clock is
  by Unrecorded is = is

-- a reclaim out of grace comes too late
pub stands_late : (s : CoreState) (a : Ask) (stays : Bool) → s.grace ≡ None → a.reclaim ≡ true → standing s (asker_as a) stays a.reclaim ≡ Late s.clock
stands_late s a stays none reclaim = ap (standing s (asker_as a) stays) reclaim ∙ late s (asker_as a) stays none

-- a cause brings its answer
lock_back : (n : ℕ) (left : Rooms) (s : CoreState) (a : Ask) (claim : Claim) (answer : Answer) → IsClaimDue n left s a claim answer → told_standing n left s a claim (stands s a) ≡ answer
lock_back n left s a claim answer due = go answer due where
  kept : ℕ
  kept = length (both_entered a s.names)

  held : ℕ
  held = held_then (beside_of a.reclaim a.wish) claim s.claims

  bytes : ℕ
  bytes = bytes_with (wanted s a) s.stable

  so : (standing : Standing) → stands s a ≡ standing → told_standing n left s a claim (stands s a) ≡ told_standing n left s a claim standing
  so standing is = ap (told_standing n left s a claim) is

  at : (o k : Option Claim) (l : Option ℕ) (b u : Bool) (w : Option ℕ) (m : Bool) → stands s a ≡ Timely → least_blocker s.waiters s claim ≡ o → cache_against s.claims claim ≡ k → first_passed (limits_of_grant left s a claim) ≡ l → a.blocking ≡ b → a.awaits ≡ u → first_passed (limits_of_wait left s a) ≡ w → may_record n s (wanted s a) ≡ m
      → told_standing n left s a claim (stands s a) ≡ told_by s a claim o k l b u w m
  at o k l b u w m timely e f g h i j y = so Timely timely ∙ (λ x. told_by s a claim (e x) (f x) (g x) (h x) (i x) (j x) (y x))

  back : (o : Option Claim) (l : Option ℕ) (m : Bool) → stands s a ≡ Reclaims → reclaim_blocker (beside_of a.reclaim a.wish) claim s ≡ o → first_passed (limits_of_grant left s a claim) ≡ l → may_record n s (wanted s a) ≡ m → told_standing n left s a claim (stands s a) ≡ told_back claim o l m
  back o l m is e f y = so Reclaims is ∙ (λ x. told_back claim (e x) (f x) (y x))

  clear : stands s a ≡ Timely → IsFree s a claim → (least_blocker s.waiters s claim ≡ None) × (cache_against s.claims claim ≡ None)
  clear timely free = (
    none_blockers s.waiters s claim (free_moves s.waiters s claim (free_from s.waiters s claim free.0 (subst (λ (st : Standing). range_ahead (those_before st s.waiters) s claim ≡ None) timely free.2))),
    free_clear s.claims claim free.0,
  )

  told_last : Option ℕ → Bool → Answer
  told_last None m = last_answer m claim
  told_last (Some limit) m = answers.Full limit

  -- what nothing blocks
  unblocked : (l : Option ℕ) (m : Bool) → enters (stands s a) ≡ true → IsFree s a claim → first_passed (limits_of_grant left s a claim) ≡ l → may_record n s (wanted s a) ≡ m → told_standing n left s a claim (stands s a) ≡ told_last l m
  unblocked l m in_time free grant may = elim (enters_cases (stands s a) in_time) [
    | inl timely ↦ let none = clear timely free in at None None l _ _ _ m timely none.0 none.1 grant refl refl refl may ∙ timely_last l
    | inr is ↦ back None l m is (none_reclaim (beside_of a.reclaim a.wish) claim s free.0 free.1) grant may ∙ back_last l
  ]
    where
      timely_last : (l : Option ℕ) → told_by s a claim None None l a.blocking a.awaits (first_passed (limits_of_wait left s a)) m ≡ told_last l m
      timely_last None = refl
      timely_last (Some limit) = refl

      back_last : (l : Option ℕ) → told_back claim None l m ≡ told_last l m
      back_last None = refl
      back_last (Some limit) = refl

  -- who waits for what is in its way
  held_up : (limit : Option ℕ) → stands s a ≡ Timely → may_wait s.waiters s a claim ≡ true → is_in_line s.waiters s claim ≡ true → first_passed (limits_of_wait left s a) ≡ limit → told_standing n left s a claim (stands s a) ≡ told_wait s limit
  held_up limit timely may blocked is = by (is_stopped s.waiters s claim) refl where
    by : (b : Bool) → is_stopped s.waiters s claim ≡ b → told_standing n left s a claim (stands s a) ≡ told_wait s limit
    by true stops = let found = stops_some s.waiters s claim stops in at (Some found.0) _ _ true _ limit _ timely found.1 refl refl (stopped_may s.waiters s a claim stops may) refl is refl
    by false moves = let found = moves_cache s.waiters s claim blocked moves in at None (Some found.0) _ _ true limit _ timely (none_blockers s.waiters s claim moves) found.1 refl refl (moves_may s.waiters s a claim moves may) is refl

  -- who waits
  waits_so : (limit : Option ℕ) → IsWaiting (stands s a) s.waiters s a claim → first_passed (limits_of_wait left s a) ≡ limit → told_standing n left s a claim (stands s a) ≡ told_wait s limit
  waits_so limit may wait = by (stands s a) refl may where
    by : (standing : Standing) → stands s a ≡ standing → IsWaiting standing s.waiters s a claim → told_standing n left s a claim (stands s a) ≡ told_wait s limit
    by Timely is may = held_up limit is may.0 may.1 wait
    by Stays is may = so Stays is ∙ ap (told_wait s) wait
    by Reclaims is may = absurd may
    by (Early until) is may = absurd may
    by (Late clock) is may = absurd may
    by Unrecorded is may = absurd may

  against : (c : Claim) → IsAgainst (stands s a) s a claim c → told_standing n left s a claim (stands s a) ≡ answers.Conflict c
  against c due = by (stands s a) refl due where
    by : (standing : Standing) → stands s a ≡ standing → IsAgainst standing s a claim c → told_standing n left s a claim (stands s a) ≡ answers.Conflict c
    by Timely is due = at (Some c) _ _ false _ _ _ is due.1 refl refl due.0 refl refl refl
    by Reclaims is due = back (Some c) _ _ is due.0 refl refl
    by Stays is due = absurd due
    by (Early until) is due = absurd due
    by (Late clock) is due = absurd due
    by Unrecorded is due = absurd due

  go : (x : Answer) → IsClaimDue n left s a claim x → told_standing n left s a claim (stands s a) ≡ x
  go (answers.Granted c) due = unblocked None true due.1 due.2 (grant_least left a.rows held bytes kept None due.3) due.4 ∙ ap answers.Granted (sym due.0)
  go (answers.Conflict c) due = against c due
  go (answers.Recall c) due = at None (Some c) _ _ false _ _ due.0 (none_blockers s.waiters s claim due.2) due.3 refl refl due.1 refl refl
  go (answers.Queued number) due = waits_so None due.1 (wait_least left a.rows (length s.waiters) kept None due.2) ∙ ap answers.Queued (sym due.0)
  go (answers.NoGrace clock) due = so (Late s.clock) (stands_late s a (is_smb a.party) due.1 due.2) ∙ ap answers.NoGrace (sym due.0)
  go (answers.Full limit) due =
      elim due [
        | inl grants ↦ unblocked (Some limit) _ grants.0 grants.1 (grant_least left a.rows held bytes kept (Some limit) grants.2) refl
        | inr may ↦ waits_so (Some limit) may.0 (wait_least left a.rows (length s.waiters) kept (Some limit) may.1)
      ]
  go (answers.Grace until) due = so (Early until) due
  go answers.NotRecorded due = so Unrecorded due
  go answers.NotHeld due = absurd due
  go answers.StoreFailed due = unblocked None false due.0 due.1 (grant_least left a.rows held bytes kept None due.2) due.3

-- an ask for one claim
claim_exactly : (n : ℕ) (left : Rooms) (s : CoreState) (a : Ask) (claim : Claim) (r answer : Answer) → r ≡ (ruled a claim (judged n s.waiters left (plea_of left s a) (claim ∷ []) s)).0 → (r ≡ answer) ↔ IsClaimDue n left s a claim answer
claim_exactly n left s a claim r answer is =
    let told = is ∙ lock_told n left s a claim in (
      λ k. subst (λ (x : Answer). IsClaimDue n left s a claim x) (sym told ∙ k) (lock_forth n left s a claim),
      λ due. told ∙ lock_back n left s a claim answer due,
    )

claim_due : (n : ℕ) (left : Rooms) (s : CoreState) (a : Ask) (claim : Claim) (r : Answer) → r ≡ (ruled a claim (judged n s.waiters left (plea_of left s a) (claim ∷ []) s)).0 → IsClaimDue n left s a claim r
claim_due n left s a claim r is = (claim_exactly n left s a claim r r is).0 refl

pub lock_due : (n : ℕ) (left : Rooms) (s : CoreState) (a : Ask) (what : What) (answer : Answer) → asked_what a.act ≡ Some what → ((decided n left s a).0 ≡ answer) ↔ IsClaimDue n left s a (asked_claim a what s.names) answer
lock_due n left s a what answer act = claim_exactly n left s a (asked_claim a what s.names) (decided n left s a).0 answer (ap first_is (lock_is n left s a what act))

-- ---- why a test is

none_stands : (claim : Claim) (cs : List Claim) → filter (λ c. is_range c.what) (filter (λ c. blocks claim c) cs) ≡ [] → list_any (stands_against claim) cs ≡ false
none_stands claim [] e = refl
none_stands claim (c ∷ cs) e =
    elim (cases_Bool (blocks claim c)) [
      | inr free ↦ rw (free, and_right (is_range c.what) false refl) (none_stands claim cs (rw free at e))
      | inl stands ↦ elim (cases_Bool (is_range c.what)) [
        | inl range ↦ let two : (c ∷ filter (λ d. is_range d.what) (filter (λ d. blocks claim d) cs)) ≡ [] = rw range at (rw stands at e) in absurd cc
        | inr other ↦ rw other (none_stands claim cs (rw other at (rw stands at e)))
      ]
    ]

stands_none : (claim : Claim) (cs : List Claim) → list_any (stands_against claim) cs ≡ false → filter (λ c. is_range c.what) (filter (λ c. blocks claim c) cs) ≡ []
stands_none claim [] e = refl
stands_none claim (c ∷ cs) e =
    elim (cases_Bool (blocks claim c)) [
      | inr free ↦ rw free (stands_none claim cs (or_parts (stands_against claim c) (list_any (stands_against claim) cs) e).1)
      | inl stands ↦ elim (cases_Bool (is_range c.what)) [
        | inl range ↦ absurd (both_ways (stands_against claim c) (or_parts (stands_against claim c) (list_any (stands_against claim) cs) e).0 (and_from (is_range c.what) (blocks claim c) range stands))
        | inr other ↦ rw stands (rw other (stands_none claim cs (or_parts (stands_against claim c) (list_any (stands_against claim) cs) e).1))
      ]
    ]

pub test_none : (s : CoreState) (claim : Claim) → least s.names (test_blockers s claim) ≡ None → list_any (stands_against claim) s.claims ≡ false
unfolding test_blockers
test_none s claim e = none_stands claim s.claims (least_none s.names (filter (λ c. is_range c.what) (filter (λ c. blocks claim c) s.claims)) e)

none_test : (s : CoreState) (claim : Claim) → list_any (stands_against claim) s.claims ≡ false → least s.names (test_blockers s claim) ≡ None
unfolding test_blockers
none_test s claim e = least_empty s.names (filter (λ c. is_range c.what) (filter (λ c. blocks claim c) s.claims)) (stands_none claim s.claims e)

pub test_some : (s : CoreState) (claim c : Claim) → least s.names (test_blockers s claim) ≡ Some c → IsIn c s.claims × (stands_against claim c ≡ true)
unfolding test_blockers
test_some s claim c e =
    let ranges = in_filter_from (λ d. is_range d.what) c (filter (λ d. blocks claim d) s.claims) (least_in s.names (filter (λ d. is_range d.what) (filter (λ d. blocks claim d) s.claims)) c e) in
    let held = in_filter_from (λ d. blocks claim d) c s.claims ranges.0 in
    (held.0, and_from (is_range c.what) (blocks claim c) ranges.1 held.1)

test_at : (s : CoreState) (a : Ask) (claim : Claim) (standing : Standing) → stands_alone s a ≡ standing → tested s a claim ≡ tested_by (refusal standing) s claim
unfolding tested
test_at s a claim standing e = ap (λ (st : Standing). tested_by (refusal st) s claim) e

test_by : (s : CoreState) (a : Ask) (claim : Claim) (o : Option Claim) → enters (stands_alone s a) ≡ true → least s.names (test_blockers s claim) ≡ o → tested s a claim ≡ test_answered claim o
test_by s a claim o e is =
    elim (enters_cases (stands_alone s a) e) [ inl timely ↦ test_at s a claim Timely timely | inr back ↦ test_at s a claim Reclaims back ] ∙ ap (λ (p : Option Claim). test_answered claim p) is

pub option_cases : (o : Option Claim) → (o ≡ None) ⊎ ((c : Claim) × (o ≡ Some c))
option_cases None = inl refl
option_cases (Some c) = inr (c, refl)

test_forth : (s : CoreState) (a : Ask) (claim : Claim) → IsTestDue s a claim (tested s a claim)
test_forth s a claim = by (stands_alone s a) refl where
  due_at : (x : Answer) → tested s a claim ≡ x → IsTestDue s a claim x → IsTestDue s a claim (tested s a claim)
  due_at x e due = subst (λ (y : Answer). IsTestDue s a claim y) (sym e) due

  goes : enters (stands_alone s a) ≡ true → IsTestDue s a claim (tested s a claim)
  goes e = elim (option_cases (least s.names (test_blockers s claim))) [
    | inl none ↦ due_at (answers.Granted claim) (test_by s a claim None e none) (refl, e, test_none s claim none)
    | inr found ↦ let held = test_some s claim found.0 found.1 in due_at (answers.Conflict found.0) (test_by s a claim (Some found.0) e found.1) (e, found.1, held.0, held.1)
  ]

  by : (standing : Standing) → stands_alone s a ≡ standing → IsTestDue s a claim (tested s a claim)
  by Timely is = goes (ap enters is)
  by Reclaims is = goes (ap enters is)
  by Stays is = absurd (alone_goes s (asker_as a) a.reclaim is)
  by (Early until) is = due_at (answers.Grace until) (test_at s a claim (Early until) is) is
  by (Late clock) is = due_at (answers.NoGrace clock) (test_at s a claim (Late clock) is) (late_asks s (asker_as a) false a.reclaim clock is)
  by Unrecorded is = due_at answers.NotRecorded (test_at s a claim Unrecorded is) is

test_back : (s : CoreState) (a : Ask) (claim : Claim) (answer : Answer) → IsTestDue s a claim answer → tested s a claim ≡ answer
test_back s a claim (answers.Granted c) due = test_by s a claim None due.1 (none_test s claim due.2) ∙ ap answers.Granted (sym due.0)
test_back s a claim (answers.Conflict c) due = test_by s a claim (Some c) due.0 due.1
test_back s a claim (answers.NoGrace clock) due = test_at s a claim (Late s.clock) (stands_late s a false due.1 due.2) ∙ ap answers.NoGrace (sym due.0)
test_back s a claim (answers.Grace until) due = test_at s a claim (Early until) due
test_back s a claim answers.NotRecorded due = test_at s a claim Unrecorded due
test_back s a claim (answers.Queued number) due = absurd due
test_back s a claim (answers.Full limit) due = absurd due
test_back s a claim (answers.Recall c) due = absurd due
test_back s a claim answers.NotHeld due = absurd due
test_back s a claim answers.StoreFailed due = absurd due

pub test_is : (n : ℕ) (left : Rooms) (s : CoreState) (a : Ask) (extent : Extent) (exclusive : Bool) → a.act ≡ Test extent exclusive → decided n left s a ≡ (tested s a (known_claim a extent exclusive s.names), [], s)
unfolding decided
test_is n left s a extent exclusive e = ap (λ (act : Act). acted n left s a act) e

pub test_due : (n : ℕ) (left : Rooms) (s : CoreState) (a : Ask) (extent : Extent) (exclusive : Bool) (answer : Answer) → a.act ≡ Test extent exclusive → ((decided n left s a).0 ≡ answer) ↔ IsTestDue s a (known_claim a extent exclusive s.names) answer
test_due n left s a extent exclusive answer act =
    let claim = known_claim a extent exclusive s.names in
    let is = ap first_is (test_is n left s a extent exclusive act) in (
      λ e. subst (λ (x : Answer). IsTestDue s a claim x) (sym is ∙ e) (test_forth s a claim),
      λ due. is ∙ test_back s a claim answer due,
    )

-- ---- why an unlock is

common_byte : (a b f l : ℕ) → a ≤ b → f ≤ l → (leb a l && leb f b) ≡ true → ((leb f (max a f) && leb (max a f) l) ≡ true) × ((leb a (max a f) && leb (max a f) b) ≡ true)
common_byte a b f l h k e = (grind (arith, nat_tests), grind (arith, nat_tests))

apart_byte : (a b f l x : ℕ) → (leb a l && leb f b) ≡ false → (leb f x && leb x l) ≡ true → (leb a x && leb x b) ≡ false
apart_byte a b f l x e k = grind (arith, nat_tests)

abbrev some_mode : Mode → Option Mode
some_mode m = Some m

met_byte : (first last : ℕ) (ss : List Span) → first ≤ last → AreRanges ss → list_any (meets first last) ss ≡ true → (byte : ℕ) × (within first last byte ≡ true) × (mode_at ss byte ≡ None → ⊥)
met_byte first last [] ends ranges e = absurd (both_ways false refl e)
met_byte first last (s ∷ ss) ends ranges e =
    elim (cases_Bool (meets first last s)) [
      | inl met ↦
          let both = common_byte s.first s.last first last ranges.0 ends met in
          (max s.first first, both.0, λ none. let two : some_mode s.mode ≡ None = rw both.1 at none in absurd cc)
      | inr apart ↦
          let rest = met_byte first last ss ends ranges.1 (rw apart at e) in (
            rest.0,
            rest.1,
            λ none. elim (cases_Bool (within s.first s.last rest.0)) [
              | inl inside ↦ let two : some_mode s.mode ≡ None = rw inside at none in absurd cc
              | inr outside ↦ rest.2 (rw outside at none)
            ],
          )
    ]

no_byte : (first last : ℕ) (ss : List Span) → list_any (meets first last) ss ≡ false → (byte : ℕ) → within first last byte ≡ true → mode_at ss byte ≡ None
no_byte first last [] e byte inside = refl
no_byte first last (s ∷ ss) e byte inside =
    let parts = or_parts (meets first last s) (list_any (meets first last) ss) e in
    rw (apart_byte s.first s.last first last byte parts.0 inside) (no_byte first last ss parts.1 byte inside)

-- what is needed of the owner's spans
record IsUnlock (s : CoreState) (claim : Claim) (first last : ℕ) : Type 0 where
  ends : first ≤ last
  ranges : AreRanges (spans_of claim.file claim.owner s.claims)

holds_is : (s : CoreState) (claim : Claim) (first last : ℕ) → IsUnlock s claim first last → holds_byte claim.file claim.owner first last s.claims ≡ true → HasByte s claim.file claim.owner first last
unfolding holds_byte
holds_is s claim first last is e = met_byte first last (spans_of claim.file claim.owner s.claims) is.ends is.ranges e

none_is : (s : CoreState) (claim : Claim) (first last : ℕ) → holds_byte claim.file claim.owner first last s.claims ≡ false → HasNoByte s claim.file claim.owner first last
unfolding holds_byte
none_is s claim first last e = no_byte first last (spans_of claim.file claim.owner s.claims) e

pub is_holds : (s : CoreState) (claim : Claim) (first last : ℕ) → HasByte s claim.file claim.owner first last → holds_byte claim.file claim.owner first last s.claims ≡ true
is_holds s claim first last has =
    elim (cases_Bool (holds_byte claim.file claim.owner first last s.claims)) [
      | inl holds ↦ holds
      | inr none ↦ absurd (has.2 (none_is s claim first last none has.0 has.1))
    ]

is_none : (s : CoreState) (claim : Claim) (first last : ℕ) → IsUnlock s claim first last → HasNoByte s claim.file claim.owner first last → holds_byte claim.file claim.owner first last s.claims ≡ false
is_none s claim first last is none =
    elim (cases_Bool (holds_byte claim.file claim.owner first last s.claims)) [
      | inl holds ↦ let has = holds_is s claim first last is holds in absurd (has.2 (none has.0 has.1))
      | inr e ↦ e
    ]

-- what an unlock comes to, by whether its owner has a byte of the range, and whether there is room afterwards
abbrev pub left_so : CoreState → Claim → ℕ → ℕ → Bool → Bool → Answered
left_so s claim first last holds fits =
    if not holds then (answers.NotHeld, [], s) else if not fits then (answers.Full most_claims, [], s) else (answers.Granted claim, [], record s { claims = unlocked_claims claim first last s.claims })

pub unlock_by : (s : CoreState) (claim : Claim) (first last : ℕ) (holds fits : Bool) → holds_byte claim.file claim.owner first last s.claims ≡ holds → nat_le (left_by_unlock s claim first last) most_claims ≡ fits
    → unlocked_bytes s claim first last ≡ left_so s claim first last holds fits
unlock_by s claim first last holds fits e f = λ i. left_so s claim first last (e i) (f i)

unlock_forth : (s : CoreState) (claim : Claim) (first last : ℕ) → IsUnlock s claim first last → IsUnlockDue s claim first last (unlocked_bytes s claim first last).0
unlock_forth s claim first last is = go (holds_byte claim.file claim.owner first last s.claims) (nat_le (left_by_unlock s claim first last) most_claims) refl refl where
  go : (h f : Bool) → holds_byte claim.file claim.owner first last s.claims ≡ h → nat_le (left_by_unlock s claim first last) most_claims ≡ f → IsUnlockDue s claim first last (left_so s claim first last h f).0
  go false f none e = none_is s claim first last none
  go true false holds full = (refl, holds_is s claim first last is holds, leb-false (left_by_unlock s claim first last) most_claims full)
  go true true holds fits = (refl, holds_is s claim first last is holds, leb-true (left_by_unlock s claim first last) most_claims fits)

unlock_back : (s : CoreState) (claim : Claim) (first last : ℕ) (answer : Answer) → IsUnlock s claim first last → IsUnlockDue s claim first last answer → (unlocked_bytes s claim first last).0 ≡ answer
unlock_back s claim first last (answers.Granted c) is due =
    ap first_is (unlock_by s claim first last true true (is_holds s claim first last due.1) (le-leb (left_by_unlock s claim first last) most_claims due.2)) ∙ ap answers.Granted (sym due.0)
unlock_back s claim first last (answers.Full limit) is due =
    ap first_is (unlock_by s claim first last true false (is_holds s claim first last due.1) (lt-leb (left_by_unlock s claim first last) most_claims due.2)) ∙ ap answers.Full (sym due.0)
unlock_back s claim first last answers.NotHeld is due = ap first_is (unlock_by s claim first last false _ (is_none s claim first last is due) refl)
unlock_back s claim first last (answers.Conflict c) is due = absurd due
unlock_back s claim first last (answers.Queued number) is due = absurd due
unlock_back s claim first last (answers.NoGrace clock) is due = absurd due
unlock_back s claim first last (answers.Recall c) is due = absurd due
unlock_back s claim first last (answers.Grace until) is due = absurd due
unlock_back s claim first last answers.NotRecorded is due = absurd due
unlock_back s claim first last answers.StoreFailed is due = absurd due

unlock_acted : (n : ℕ) (left : Rooms) (s : CoreState) (a : Ask) (extent : Extent) → a.act ≡ Unlock extent → decided n left s a ≡ unlocked s (known_claim a extent false s.names) extent
unfolding decided
unlock_acted n left s a extent e = ap (λ (act : Act). acted n left s a act) e

pub unlock_is : (n : ℕ) (left : Rooms) (s : CoreState) (a : Ask) (first last : ℕ) → a.act ≡ Unlock (Bytes first last) → is_client a.owner a.party ≡ true → is_named a.owner ≡ true → decided n left s a ≡ unlocked_bytes s (known_claim a (Bytes first last) false s.names) first last
unfolding unlocked
unlock_is n left s a first last e client named =
    unlock_acted n left s a (Bytes first last) e
    ∙ ap (λ (b : Bool). let claim = known_claim a (Bytes first last) false s.names in if b then unlocked_bytes s claim first last else unlocked_one s claim (Bytes first last)) (known_posix a s.names client named)

-- an open's unlock takes out an element
pub element_is : (n : ℕ) (left : Rooms) (s : CoreState) (a : Ask) (extent : Extent) → a.act ≡ Unlock extent → posix (known_owner a.owner s.names) ≡ false → decided n left s a ≡ unlocked_one s (known_claim a extent false s.names) extent
unfolding unlocked
element_is n left s a (Bytes first last) e unnamed =
    unlock_acted n left s a (Bytes first last) e
    ∙ ap (λ (b : Bool). let claim = known_claim a (Bytes first last) false s.names in if b then unlocked_bytes s claim first last else unlocked_one s claim (Bytes first last)) unnamed
element_is n left s a (extents.Empty offset) e unnamed = unlock_acted n left s a (extents.Empty offset) e

-- one without a byte is unlocked so by whomever
pub empty_is : (n : ℕ) (left : Rooms) (s : CoreState) (a : Ask) (offset : ℕ) → a.act ≡ Unlock (extents.Empty offset) → decided n left s a ≡ unlocked_one s (known_claim a (extents.Empty offset) false s.names) (extents.Empty offset)
unfolding unlocked
empty_is n left s a offset e = unlock_acted n left s a (extents.Empty offset) e

element_forth : (s : CoreState) (claim : Claim) (extent : Extent) → IsElementDue s claim extent (unlocked_one s claim extent).0
element_forth s claim extent = by (element_held claim extent s.claims) refl where
  by : (o : Option Claim) → element_held claim extent s.claims ≡ o → IsElementDue s claim extent (freed s claim o).0
  by None none = none
  by (Some c) some = (refl, ap (λ (o : Option Claim). is_some o) some)

element_back : (s : CoreState) (claim : Claim) (extent : Extent) (answer : Answer) → IsElementDue s claim extent answer → (unlocked_one s claim extent).0 ≡ answer
element_back s claim extent (answers.Granted c) due = by (element_held claim extent s.claims) due.1 ∙ ap answers.Granted (sym due.0) where
  by : (o : Option Claim) → is_some o ≡ true → (freed s claim o).0 ≡ answers.Granted claim
  by None none = absurd (both_ways false refl none)
  by (Some d) some = refl
element_back s claim extent answers.NotHeld due = ap (λ (o : Option Claim). (freed s claim o).0) due
element_back s claim extent (answers.Conflict c) due = absurd due
element_back s claim extent (answers.Queued number) due = absurd due
element_back s claim extent (answers.NoGrace clock) due = absurd due
element_back s claim extent (answers.Full limit) due = absurd due
element_back s claim extent (answers.Recall c) due = absurd due
element_back s claim extent (answers.Grace until) due = absurd due
element_back s claim extent answers.NotRecorded due = absurd due
element_back s claim extent answers.StoreFailed due = absurd due

element_either : (s : CoreState) (claim : Claim) (extent : Extent) (r : Answered) (answer : Answer) → r ≡ unlocked_one s claim extent → (r.0 ≡ answer) ↔ IsElementDue s claim extent answer
element_either s claim extent r answer is = (
  λ e. subst (λ (x : Answer). IsElementDue s claim extent x) (sym (ap first_is is) ∙ e) (element_forth s claim extent),
  λ due. ap first_is is ∙ element_back s claim extent answer due,
)

pub element_due : (n : ℕ) (left : Rooms) (s : CoreState) (a : Ask) (extent : Extent) (answer : Answer) → a.act ≡ Unlock extent → posix (known_owner a.owner s.names) ≡ false → ((decided n left s a).0 ≡ answer) ↔ IsElementDue s (known_claim a extent false s.names) extent answer
element_due n left s a extent answer act unnamed = element_either s (known_claim a extent false s.names) extent (decided n left s a) answer (element_is n left s a extent act unnamed)

pub empty_due : (n : ℕ) (left : Rooms) (s : CoreState) (a : Ask) (offset : ℕ) (answer : Answer) → a.act ≡ Unlock (extents.Empty offset) → ((decided n left s a).0 ≡ answer) ↔ IsElementDue s (known_claim a (extents.Empty offset) false s.names) (extents.Empty offset) answer
empty_due n left s a offset answer act = element_either s (known_claim a (extents.Empty offset) false s.names) (extents.Empty offset) (decided n left s a) answer (empty_is n left s a offset act)

pub unlock_due : (n : ℕ) (left : Rooms) (s : CoreState) (a : Ask) (first last : ℕ) (answer : Answer) → a.act ≡ Unlock (Bytes first last) → is_client a.owner a.party ≡ true → is_named a.owner ≡ true → first ≤ last → IsGood s
    → ((decided n left s a).0 ≡ answer) ↔ IsUnlockDue s (known_claim a (Bytes first last) false s.names) first last answer
unlock_due n left s a first last answer act client named ends good =
    let claim = known_claim a (Bytes first last) false s.names in
    let is : IsUnlock s claim first last = record {
      ends = ends;
      ranges = canonical_ranges (spans_of claim.file claim.owner s.claims) (good.kept.sound.canonical claim.file claim.owner (known_posix a s.names client named));
    } in
    let same = ap first_is (unlock_is n left s a first last act client named) in (
      λ e. subst (λ (x : Answer). IsUnlockDue s claim first last x) (sym same ∙ e) (unlock_forth s claim first last is),
      λ due. same ∙ unlock_back s claim first last answer is due,
    )

-- ---- asks that are fit

abbrev pub some_what : What → Option What
some_what what = Some what

pub same_what : (v w : What) → some_what v ≡ some_what w → v ≡ w
same_what v w e = cc

pub real_range : (extent : Extent) (exclusive : Bool) → IsOrdered extent → IsShareOrLock (whats.Range extent exclusive)
real_range (Bytes first last) exclusive h = h
real_range (extents.Empty offset) exclusive h = tt

by_fit : (who : Who) (blocking : Bool) (act : Act) (what : What) → IsFitAct who blocking act → asked_what act ≡ Some what → IsShareOrLock what
by_fit who blocking (Share access deny) what fit e = subst (λ (w : What). IsShareOrLock w) (same_what (whats.Share access deny) what e) tt
by_fit who blocking (Ranges []) what fit e = absurd fit
by_fit who blocking (Ranges (range ∷ [])) what fit e = subst (λ (w : What). IsShareOrLock w) (same_what (whats.Range range.0 range.1) what e) (real_range range.0 range.1 fit.0)
by_fit who blocking (Ranges (range ∷ more ∷ rest)) what fit e = absurd cc
by_fit who blocking (Test extent exclusive) what fit e = absurd cc
by_fit who blocking (Unlock extent) what fit e = absurd cc
by_fit who blocking Wish what fit e = absurd cc

-- what a fit ask is for may be held
pub fit_what : (a : Ask) (what : What) → IsFit a → asked_what a.act ≡ Some what → IsShareOrLock what
fit_what a what fit e = by_fit a.owner a.blocking a.act what fit.act e

-- so may each of the ranges
pub fit_ranges : (who : Who) (blocking : Bool) (ranges : List (Extent × Bool)) → AreMore who blocking ranges → AllByRecursion (λ (w : What). IsShareOrLock w) (map range_what ranges)
fit_ranges who blocking [] fit = tt
fit_ranges who blocking (range ∷ ranges) fit = (real_range range.0 range.1 fit.2, fit_ranges who blocking ranges fit.3)

pub own_ranges : (who : Who) (ranges : List (Extent × Bool)) → may_hold_all who ranges ≡ true → AllByRecursion (λ (w : What). may_hold who w ≡ true) (map range_what ranges)
own_ranges who [] may = tt
own_ranges who (range ∷ ranges) may = let both = and_parts (may_hold who (range_what range)) (may_hold_all who ranges) may in (both.0, own_ranges who ranges both.1)

act_owned : (who : Who) (act : Act) (what : What) → may_ask who act ≡ true → asked_what act ≡ Some what → may_hold who what ≡ true
act_owned who (Share access deny) what may e = subst (λ (w : What). may_hold who w ≡ true) (same_what (whats.Share access deny) what e) refl
act_owned who (Ranges []) what may e = absurd cc
act_owned who (Ranges (range ∷ [])) what may e = subst (λ (w : What). may_hold who w ≡ true) (same_what (whats.Range range.0 range.1) what e) (and_parts (may_hold who (range_what range)) true may).0
act_owned who (Ranges (range ∷ more ∷ rest)) what may e = absurd cc
act_owned who (Test extent exclusive) what may e = absurd cc
act_owned who (Unlock extent) what may e = absurd cc
act_owned who Wish what may e = absurd cc

-- and by whom it is asked for
pub fit_owned : (a : Ask) (what : What) → IsFit a → asked_what a.act ≡ Some what → may_hold a.owner what ≡ true
fit_owned a what fit e = act_owned a.owner a.act what fit.own e

pub real_extent : (a : Ask) (first last : ℕ) (exclusive : Bool) → IsFit a → a.act ≡ Ranges ((Bytes first last, exclusive) ∷ []) → first ≤ last
real_extent a first last exclusive fit e = (subst (λ (act : Act). IsFitAct a.owner a.blocking act) e fit.act).0

pub real_unlock : (a : Ask) (first last : ℕ) → IsFit a → a.act ≡ Unlock (Bytes first last) → first ≤ last
real_unlock a first last fit e = subst (λ (act : Act). IsFitAct a.owner a.blocking act) e fit.act

-- nothing stands against the claim, so it is granted
pub lock_free : (n : ℕ) (left : Rooms) (s : CoreState) (a : Ask) (what : What) → asked_what a.act ≡ Some what → enters (stands s a) ≡ true → IsFree s a (asked_claim a what s.names)
    → IsRoom (limits_of_grant left s a (asked_claim a what s.names)) → may_record n s (wanted s a) ≡ true → (decided n left s a).0 ≡ answers.Granted (asked_claim a what s.names)
lock_free n left s a what act in_time free room may =
    (lock_due n left s a what (answers.Granted (asked_claim a what s.names)) act).1 (refl, in_time, free, room, may)

pub test_leaves : (n : ℕ) (left : Rooms) (s : CoreState) (a : Ask) (extent : Extent) (exclusive : Bool) → a.act ≡ Test extent exclusive → (decided n left s a).2 ≡ s
test_leaves n left s a extent exclusive act = ap (λ (r : Answered). r.2) (test_is n left s a extent exclusive act)

-- ---- several ranges

-- what is told if this stops one of several claims, or the last answer
abbrev pub tells : Answer → Option Ruling → Answer → Type 0
tells last None answer = answer ≡ last
tells last (Some Gets) answer = Unit {0}
tells last (Some Waits) answer = Unit {0}
tells last (Some (Told told)) answer = answer ≡ told

-- the first of these isn't waited for
abbrev IsJudgedNow : List Waiter → Plea → CoreState → List Claim → Type 0
IsJudgedNow earlier p s [] = Unit {0}
IsJudgedNow earlier p s (c ∷ cs) = does_wait earlier p s c ≡ false

judged_at_once : (earlier : List Waiter) (p : Plea) (s : CoreState) (cs : List Claim) → IsJudgedNow earlier (at_once p) s cs
judged_at_once earlier p s [] = tt
judged_at_once earlier p s (c ∷ cs) = by (is_in_line earlier s c) (is_stopped earlier s c) where
  by : (x y : Bool) → (x && (if y then false else false)) ≡ false
  by true true = refl
  by true false = refl
  by false y = refl

all_due : (earlier : List Waiter) (left : Rooms) (p : Plea) (last : Answer) (cs : List Claim) (s : CoreState) (answer : Answer) → p.beside ≡ None → IsJudgedNow earlier p s cs → tells last (first_stop earlier left p cs s) answer → IsEachBehind earlier left p.rows (bytes_with p.unrecorded s.stable) p.kept last cs s answer
unfolding check_held check_caches check_room held_with
all_due earlier left p last [] s answer alone now is = is
all_due earlier left p last (c ∷ cs) s answer alone now is = (
  λ d e. conflict d e,
  λ d moves e. recall d moves e,
  λ limit free least. so None None (Some limit) (none_blockers earlier s c (free_moves earlier s c free)) (free_clear s.claims c (free_parts earlier s c free).0) (grant_least left p.rows (length (granted_claims c s.claims)) (bytes_with p.unrecorded s.stable) p.kept (Some limit) least),
  λ free room. all_due earlier left (at_once p) last cs (record s { claims = granted_claims c s.claims }) answer refl (judged_at_once earlier p (record s { claims = granted_claims c s.claims }) cs) (rest free room),
)
  where
    limits : List (ℕ × Bool)
    limits = grant_limits left p.rows (length (granted_claims c s.claims)) (bytes_with p.unrecorded s.stable) p.kept

    later : Option Ruling
    later = first_stop earlier left (at_once p) cs (record s { claims = granted_claims c s.claims })

    looked_at : first_passed (grant_limits left p.rows (held_then p.beside c s.claims) (bytes_with p.unrecorded s.stable) p.kept) ≡ first_passed limits
    looked_at = ap (λ (beside : Option CacheKind). first_passed (grant_limits left p.rows (held_then beside c s.claims) (bytes_with p.unrecorded s.stable) p.kept)) alone

    stop : Option Claim → Option Claim → Option ℕ → Option Ruling
    stop o k l = or_else (or_else (option_map (stopped p) o) (or_else (option_map (kept_off p) k) (option_map full l))) later

    so : (o k : Option Claim) (l : Option ℕ) → blocker earlier s c ≡ o → cache_against s.claims c ≡ k → first_passed limits ≡ l → tells last (stop o k l) answer
    so o k l e f g =
        subst (λ (x : Option Claim). tells last (stop x k l) answer) e
        (subst (λ (y : Option Claim). tells last (stop (blocker earlier s c) y l) answer) f
        (subst (λ (z : Option ℕ). tells last (stop (blocker earlier s c) (cache_against s.claims c) z) answer) (looked_at ∙ g) is))

    hurries_so : (x y z u : Bool) → x ≡ true → y ≡ true → (x && (if y then z else u)) ≡ false → z ≡ false
    hurries_so x y z u e f g = rw (e, f) at g

    moves_so : (x y z u : Bool) → x ≡ true → y ≡ false → (x && (if y then z else u)) ≡ false → u ≡ false
    moves_so x y z u e f g = rw (e, f) at g

    conflict : (d : Claim) → blocker earlier s c ≡ Some d → answer ≡ answers.Conflict d
    conflict d e =
        let hurries : p.blocking ≡ false = hurries_so (is_in_line earlier s c) (is_stopped earlier s c) p.blocking p.awaits (some_blocks earlier s c d e) (some_stops earlier s c d e) now in
        subst (λ (b : Bool). tells last (Some (if b then waits p.crowded else Told (answers.Conflict d))) answer) hurries (so (Some d) (cache_against s.claims c) (first_passed limits) e refl refl)

    recall : (d : Claim) → is_stopped earlier s c ≡ false → cache_against s.claims c ≡ Some d → answer ≡ answers.Recall d
    recall d moves e =
        let hurries : p.awaits ≡ false = moves_so (is_in_line earlier s c) (is_stopped earlier s c) p.blocking p.awaits (blocked_in_line earlier s c (cache_blocked s.claims c d e)) moves now in
        subst (λ (b : Bool). tells last (Some (if b then waits p.crowded else Told (answers.Recall d))) answer) hurries (so None (Some d) (first_passed limits) (none_blockers earlier s c moves) e refl)

    rest : is_in_line earlier s c ≡ false → IsRoom limits → tells last later answer
    rest free room = so None None None (none_blockers earlier s c (free_moves earlier s c free)) (free_clear s.claims c (free_parts earlier s c free).0) (grant_least left p.rows (length (granted_claims c s.claims)) (bytes_with p.unrecorded s.stable) p.kept None room)

-- each of these is judged beside those before it, where the first isn't waited for
pub row_due : (earlier : List Waiter) (left : Rooms) (p : Plea) (last : Answer) (cs : List Claim) (s : CoreState) (answer : Answer) (c : Claim) (rest : List Claim) → cs ≡ c ∷ rest → p.beside ≡ None → does_wait earlier p s c ≡ false → tells last (first_stop earlier left p cs s) answer → IsEachBehind earlier left p.rows (bytes_with p.unrecorded s.stable) p.kept last cs s answer
row_due earlier left p last cs s answer c rest e alone now is = all_due earlier left p last cs s answer alone (subst (λ (ds : List Claim). IsJudgedNow earlier p s ds) (sym e) now) is

pub ranges_asked : (n : ℕ) (left : Rooms) (s : CoreState) (a : Ask) (ranges : List (Extent × Bool)) → a.act ≡ Ranges ranges → decided n left s a ≡ claims_asked n left s a (asked_claims a (map range_what ranges) s.names)
unfolding decided
ranges_asked n left s a ranges e = ap (λ (act : Act). acted n left s a act) e

-- what is answered isn't a grant of the last claim, so it is the same for one claim
same_told : (a : Ask) (c : Claim) (cs : List Claim) (r : Ruled) → (answered a (c ∷ cs) c r.0 r.1 r.2).0 ≡ (ruled a c r).0
same_told a c cs r = by r.0 where
  by : (ruling : Ruling) → (answered a (c ∷ cs) c ruling r.1 r.2).0 ≡ (ruled a c (ruling, r.1, r.2)).0
  by Gets = refl
  by Waits = refl
  by (Told x) = refl

-- several are answered as one is where the first is ruled as it is alone
as_one : (n : ℕ) (left : Rooms) (s : CoreState) (a : Ask) (c : Claim) (cs : List Claim) (r : Answered) → judged n s.waiters left (plea_of left s a) (c ∷ cs) s ≡ judged n s.waiters left (plea_of left s a) (c ∷ []) s → r ≡ claims_asked n left s a (c ∷ cs) → IsClaimDue n left s a c r.0
unfolding claims_asked
as_one n left s a c cs r same is =
    claim_due n left s a c r.0 (ap first_is is ∙ ap (λ (x : Ruled). (answered a (c ∷ cs) c x.0 x.1 x.2).0) same ∙ same_told a c cs (judged n s.waiters left (plea_of left s a) (c ∷ []) s))

pleads : (left : Rooms) (s : CoreState) (a : Ask) → ((plea_of left s a).standing ≡ stands s a) × ((plea_of left s a).beside ≡ beside_of a.reclaim a.wish)
unfolding plea_of
pleads left s a = (refl, refl)

-- whom grace stops is told the same, whatever is asked for
pub graced_due : (n : ℕ) (left : Rooms) (s : CoreState) (a : Ask) (c : Claim) (cs : List Claim) (r : Answered) → enters (stands s a) ≡ false → r ≡ claims_asked n left s a (c ∷ cs) → IsClaimDue n left s a c r.0
graced_due n left s a c cs r out is = as_one n left s a c cs r (by p.standing refl) is where
  p : Plea
  p = plea_of left s a

  stops : (ruling : Ruling) → graced p p.standing ≡ Some ruling → judged n s.waiters left p (c ∷ cs) s ≡ judged n s.waiters left p (c ∷ []) s
  stops ruling e = judged_graced n s.waiters left p (c ∷ cs) s ruling e ∙ sym (judged_graced n s.waiters left p (c ∷ []) s ruling e)

  by : (standing : Standing) → p.standing ≡ standing → judged n s.waiters left p (c ∷ cs) s ≡ judged n s.waiters left p (c ∷ []) s
  by Timely e = absurd (both_ways (enters (stands s a)) out (ap enters (sym (pleads left s a).0 ∙ e)))
  by Reclaims e = absurd (both_ways (enters (stands s a)) out (ap enters (sym (pleads left s a).0 ∙ e)))
  by Stays e = stops (waits p.crowded) (ap (graced p) e)
  by (Early until) e = stops (Told (answers.Grace until)) (ap (graced p) e)
  by (Late clock) e = stops (Told (answers.NoGrace clock)) (ap (graced p) e)
  by Unrecorded e = stops (Told answers.NotRecorded) (ap (graced p) e)

-- the first is told so where something blocks it, whatever is asked for behind it
pub first_due : (n : ℕ) (left : Rooms) (s : CoreState) (a : Ask) (c : Claim) (cs : List Claim) (r : Answered) → is_in_line (those_before (stands s a) s.waiters) s c ≡ true → r ≡ claims_asked n left s a (c ∷ cs) → IsClaimDue n left s a c r.0
first_due n left s a c cs r blocked is = elim (cases_Bool (enters (stands s a))) [
  | inr out ↦ graced_due n left s a c cs r out is
  | inl in_time ↦ as_one n left s a c cs r (elim (enters_cases (stands s a) in_time) [
    | inl timely ↦ by ((pleads left s a).0 ∙ timely) (subst (λ (st : Standing). is_in_line (those_before st s.waiters) s c ≡ true) timely blocked) (is_stopped s.waiters s c) refl
    | inr back ↦ reclaims ((pleads left s a).0 ∙ back) (subst (λ (st : Standing). is_in_line (those_before st s.waiters) s c ≡ true) back blocked)
  ]) is
]
  where
    p : Plea
    p = plea_of left s a

    by : p.standing ≡ Timely → is_in_line s.waiters s c ≡ true → (b : Bool) → is_stopped s.waiters s c ≡ b → judged n s.waiters left p (c ∷ cs) s ≡ judged n s.waiters left p (c ∷ []) s
    by timely line true stops = let found = stops_some s.waiters s c stops in judged_stopped n s.waiters left p c found.0 cs s timely found.1 ∙ sym (judged_stopped n s.waiters left p c found.0 [] s timely found.1)
    by timely line false moves =
        let found = moves_cache s.waiters s c line moves in
        let none = none_blockers s.waiters s c moves in
        judged_kept_off n s.waiters left p c found.0 cs s timely none found.1 ∙ sym (judged_kept_off n s.waiters left p c found.0 [] s timely none found.1)

    reclaims : p.standing ≡ Reclaims → is_in_line [] s c ≡ true → judged n s.waiters left p (c ∷ cs) s ≡ judged n s.waiters left p (c ∷ []) s
    reclaims back line = so (reclaim_blocker p.beside c s) refl where
      so : (o : Option Claim) → reclaim_blocker p.beside c s ≡ o → judged n s.waiters left p (c ∷ cs) s ≡ judged n s.waiters left p (c ∷ []) s
      so None e = absurd (both_ways (is_in_line [] s c) (free_from [] s c (reclaim_none p.beside c s e).0 (none_ahead s c)) line)
      so (Some d) e = judged_conflicts n s.waiters left p c d cs s back e ∙ sym (judged_conflicts n s.waiters left p c d [] s back e)

-- each of several is judged beside those before it, where nothing blocks the first
pub each_due : (n : ℕ) (left : Rooms) (s : CoreState) (a : Ask) (c d : Claim) (cs : List Claim) (r : Answered) → stands s a ≡ Timely → is_in_line s.waiters s c ≡ false → r ≡ claims_asked n left s a (c ∷ d ∷ cs) → IsEachDue left s a c (c ∷ d ∷ cs) r.0
unfolding claims_asked plea_of
each_due n left s a c d cs r timely free is =
    subst (λ (st : Standing). IsEachBehind (those_before st s.waiters) left a.rows (bytes_with (wanted s a) s.stable) (length (both_entered a s.names)) (answers.Granted c) (c ∷ d ∷ cs) s r.0) (sym timely)
    (row_due s.waiters left p (answers.Granted c) (c ∷ d ∷ cs) s r.0 c (d ∷ cs) refl (ap (λ (b : Bool). beside_of b a.wish) (timely_asks s (asker_as a) (is_smb a.party) a.reclaim timely))
    (ap (λ (b : Bool). b && (if is_stopped s.waiters s c then a.blocking else a.awaits)) free)
    (subst (λ (x : Answer). tells (answers.Granted c) (first_stop s.waiters left p (c ∷ d ∷ cs) s) x) (sym (ap first_is is ∙ ap (λ (x : Ruled). (answered a (c ∷ d ∷ cs) c x.0 x.1 x.2).0) (judged_row n s.waiters left p (c ∷ d ∷ cs) s timely))) (by (first_stop s.waiters left p (c ∷ d ∷ cs) s))))
  where
    p : Plea
    p = plea_of left s a

    by : (o : Option Ruling) → (let x = followed o [] s (ended n p (c ∷ d ∷ cs)) in tells (answers.Granted c) o (answered a (c ∷ d ∷ cs) c x.0 x.1 x.2).0)
    by None = ap (λ (x : Ruled). (answered a (c ∷ d ∷ cs) c x.0 x.1 x.2).0) (ended_by n p (c ∷ d ∷ cs) s true refl)
    by (Some Gets) = tt
    by (Some Waits) = tt
    by (Some (Told x)) = refl

-- ---- a wish by itself

-- what a wish by itself is answered, by what grace makes of it
abbrev wished_by : CoreState → Ask → Claim → Option ℕ → Option Answer → Answer
wished_by s a claim o (Some answer) = answer
wished_by s a claim o None = (wish_by s a claim o).0

abbrev wished_so : CoreState → Ask → Claim → List (ℕ × Bool) → Standing → Answer
wished_so s a claim limits standing = wished_by s a claim (first_passed limits) (refusal standing)

wish_forth : (s : CoreState) (a : Ask) (claim : Claim) (limits : List (ℕ × Bool)) → IsFound limits (first_passed limits) → IsWishBy s a limits claim (wished_so s a claim limits (stands_alone s a))
wish_forth s a claim limits found = by (stands_alone s a) refl where
  goes : (o : Option ℕ) → enters (stands_alone s a) ≡ true → IsFound limits o → IsWishBy s a limits claim (wish_by s a claim o).0
  goes None in_time found = (refl, in_time, found)
  goes (Some limit) in_time found = (in_time, found)

  by : (standing : Standing) → stands_alone s a ≡ standing → IsWishBy s a limits claim (wished_so s a claim limits standing)
  by Timely is = goes (first_passed limits) (ap enters is) found
  by Reclaims is = goes (first_passed limits) (ap enters is) found
  by Stays is = absurd (alone_goes s (asker_as a) a.reclaim is)
  by (Early until) is = is
  by (Late clock) is = late_asks s (asker_as a) false a.reclaim clock is
  by Unrecorded is = is

wish_back : (s : CoreState) (a : Ask) (claim : Claim) (limits : List (ℕ × Bool)) → ((o : Option ℕ) → IsFound limits o → first_passed limits ≡ o) → (answer : Answer) → IsWishBy s a limits claim answer → wished_so s a claim limits (stands_alone s a) ≡ answer
wish_back s a claim limits least answer due = go answer due where
  so : (standing : Standing) → stands_alone s a ≡ standing → wished_so s a claim limits (stands_alone s a) ≡ wished_so s a claim limits standing
  so standing is = ap (wished_so s a claim limits) is

  goes : (o : Option ℕ) → enters (stands_alone s a) ≡ true → first_passed limits ≡ o → wished_so s a claim limits (stands_alone s a) ≡ (wish_by s a claim o).0
  goes o in_time e = elim (enters_cases (stands_alone s a) in_time) [ inl timely ↦ so Timely timely | inr back ↦ so Reclaims back ] ∙ ap (λ (l : Option ℕ). (wish_by s a claim l).0) e

  go : (x : Answer) → IsWishBy s a limits claim x → wished_so s a claim limits (stands_alone s a) ≡ x
  go (answers.Granted c) is = goes None is.1 (least None is.2) ∙ ap (λ (d : Claim). answers.Granted d) (sym is.0)
  go (answers.Full limit) is = goes (Some limit) is.0 (least (Some limit) is.1)
  go (answers.Grace until) is = so (Early until) is
  go (answers.NoGrace clock) is = so (Late s.clock) (stands_late s a false is.1 is.2) ∙ ap answers.NoGrace (sym is.0)
  go answers.NotRecorded is = so Unrecorded is
  go (answers.Conflict c) is = absurd is
  go (answers.Queued number) is = absurd is
  go (answers.Recall c) is = absurd is
  go answers.NotHeld is = absurd is
  go answers.StoreFailed is = absurd is

wish_so : (left : Rooms) (s : CoreState) (a : Ask) (kind : CacheKind) (kinds : List CacheKind) → (wish_asked left s a (kind ∷ kinds)).0 ≡ wished_so s a (asked_claim a (whats.Cache kind None) s.names) (wish_limits left a.rows (length (both_entered a s.names))) (stands_alone s a)
unfolding wish_asked
wish_so left s a kind kinds = by (refusal (stands_alone s a)) where
  claim : Claim
  claim = asked_claim a (whats.Cache kind None) s.names

  by : (r : Option Answer) → (wish_graced left s a claim r).0 ≡ wished_by s a claim (first_passed (wish_limits left a.rows (length (both_entered a s.names)))) r
  by (Some answer) = refl
  by None = refl

pub wish_due : (n : ℕ) (left : Rooms) (s : CoreState) (a : Ask) (kind : CacheKind) (kinds : List CacheKind) (answer : Answer) → a.act ≡ Wish → a.wish ≡ kind ∷ kinds → ((decided n left s a).0 ≡ answer) ↔ IsWishDue left s a a.wish answer
unfolding decided
wish_due n left s a kind kinds answer act wish =
    let claim = asked_claim a (whats.Cache kind None) s.names in
    let limits = wish_limits left a.rows (length (both_entered a s.names)) in
    let told = wish_so left s a kind kinds in
    subst (λ (ks : List CacheKind). ((acted n left s a a.act).0 ≡ answer) ↔ IsWishDue left s a ks answer) (sym wish)
    (subst (λ (x : Answered). (x.0 ≡ answer) ↔ IsWishDue left s a (kind ∷ kinds) answer) (sym (ap (acted n left s a) act ∙ ap (wish_asked left s a) wish)) (
      λ e. subst (IsWishBy s a limits claim) (sym told ∙ e) (wish_forth s a claim limits (wish_found left a.rows (length (both_entered a s.names)) _ refl)),
      λ due. told ∙ wish_back s a claim limits (wish_least left a.rows (length (both_entered a s.names))) answer due,
    ))

pub wish_is_due : (n : ℕ) (left : Rooms) (s : CoreState) (a : Ask) → a.act ≡ Wish → IsWishDue left s a a.wish (decided n left s a).0
wish_is_due n left s a act = by a.wish refl where
  by : (kinds : List CacheKind) → a.wish ≡ kinds → IsWishDue left s a a.wish (decided n left s a).0
  by [] none = subst (λ (ks : List CacheKind). IsWishDue left s a ks (decided n left s a).0) (sym none) tt
  by (kind ∷ kinds) some = (wish_due n left s a kind kinds (decided n left s a).0 act some).0 refl
