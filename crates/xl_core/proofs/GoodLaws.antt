-- The state stays good: by each ask, each turn, each cancel, and when a party leaves.
use Rattle.std.proofs.Common.{◌≡◌, ℕ, ◌+◌, ◌≤◌, Bool, true, false, not, ◌&&◌, ◌||◌, ◌==◌, nat_le, inl, inr, List, [], ◌∷◌, ◌++◌, length, append-nil, append_assoc, Option, Some, None, IfSome, refl, sym, ap, subst, ◌∙◌, arith, map, if◌then◌else◌, ◌⊎◌, is_some, find}
use Rattle.xl_cache.specs.Wishing.{is_its_cache, granted_kind}
use Rattle.xl_cache.specs.declared.wish.Wish.{Wish as CacheWish}
use Rattle.xl_core.specs.Deeds.{asked_by, once_served}
use Rattle.xl_core.specs.BreaksBegun.{breaks_begun}
use Rattle.xl_core.proofs.StandingLaws.{stays_asks}
use Rattle.xl_core.specs.declared.standings.Standing.TheVariants.{Timely, Reclaims, Stays, Early, Late, Unrecorded}
use Rattle.xl_core.specs.declared.standings.Standing.{Standing}
use Rattle.xl_core.specs.Standings.{recorded_as, asker_as, is_smb, stands, stands_alone, refusal, enters}
use Rattle.xl_core.specs.declared.ask.Who.TheVariants.{Named, Open}
use Rattle.xl_matrix.specs.declared.claim.CacheKind.TheVariants.{R, RH, RW, RWH, ReadDeleg, WriteDeleg}
use Rattle.xl_grace.specs.Grace.{reclaimed, Running}
use Rattle.xl_base.specs.declared.stable.Recorded.{Recorded}
use Rattle.std.specs.List.{AllByRecursion, filter, list_any}
use Rattle.std.proofs.lemmas.Bool.{cases_Bool, both_ways, and_parts, ne_eqb, not-true, not_from_false, leb-true, or_parts}
use Rattle.std.proofs.lemmas.List.{length-append}
use Rattle.xl_base.specs.Lists.{IsIn, Pairwise}
use Rattle.xl_base.proofs.Members.{all_in, all_from, all_append, in_filter_from, pairwise_append, pairwise_filter}
use Rattle.xl_base.specs.Stable.{Stable}
use Rattle.xl_base.specs.declared.event.Moment.{Moment}
use Rattle.xl_base.specs.declared.name.Owner.{Owner}
use Rattle.xl_base.specs.declared.name.Party.{Party}
use Rattle.xl_matrix.specs.Matrix.{compat}
use Rattle.xl_matrix.specs.Owners.{posix}
use Rattle.xl_matrix.specs.declared.claim.CacheKind.{CacheKind}
use Rattle.xl_matrix.specs.declared.claim.Claim.{Claim}
use Rattle.xl_matrix.specs.declared.claim.Rwd.{Rwd}
use Rattle.xl_cache.specs.Parties.{is_kind_of, is_oplock_kind}
use Rattle.xl_cache.specs.Targets.{is_delegation}
use Rattle.xl_matrix.specs.declared.claim.Extent.{Extent}
use Rattle.xl_matrix.specs.declared.claim.Extent.TheVariants.{Bytes, Empty}
use Rattle.xl_matrix.specs.declared.claim.What.{What}
use Rattle.xl_matrix.specs.declared.claim.What.TheVariants as whats
use Rattle.xl_names.specs.Names.{AreDistinct, most_names, same_name}
use Rattle.xl_names.specs.declared.name.Name.{Name}
use Rattle.xl_spans.specs.Spans.{meets}
use Rattle.xl_spans.specs.declared.span.Span.{Span}
use Rattle.xl_table.specs.Leaving.{goes}
use Rattle.xl_table.specs.declared.leaver.Leaver.{Leaver}
use Rattle.xl_table.specs.declared.leaver.Leaver.TheVariants as leavers
use Rattle.xl_table.specs.Flat.{removed}
use Rattle.xl_table.specs.Held.{is_share, is_of, spans_of, has_one_party}
use Rattle.xl_table.specs.Relock.{most_claims, holds_byte, granted_claims}
use Rattle.xl_table.proofs.FlatLaws.{all_removed, pairwise_removed}
use Rattle.xl_table.proofs.KeptLaws.{kept_empty, kept_removed}
use Rattle.xl_table.proofs.WriteBack.{is_of-true, one_party_open, all_one_party, kept_filter}
use Rattle.xl_wait.specs.Waiting.{cancelled, waits_on}
use Rattle.xl_wait.specs.declared.waiter.Rooms.{Rooms}
use Rattle.xl_wait.specs.declared.waiter.Waiter.{Waiter}
use Rattle.xl_core.specs.State.{CoreState, started, step_begun, drawn, aside_of}
use Rattle.xl_core.specs.Leases.{Lease, moment_after, later, with_lease, without_lease, ended as ended_leases}
use Rattle.xl_core.specs.BreakAnswers.{due, client_of}
use Rattle.xl_core.specs.Stores.{store_failed, client_name, without_name, may_record, recorded, record_left, stored, bytes_with}
use Rattle.xl_core.specs.Ticks.{advanced, renew, end_some, unleased, expire, may_expire, try_expire, lapsed_by, try_lapsed_by, lapse, try_lapse, is_still_held, is_lease_over, lapse_all, expire_all, end_grace, tick}
use Rattle.xl_core.proofs.AsideLaws.{with_aside, aside_good, failed_aside, grace_aside, of_aside, of_end, of_expire, noted_for, noted_aside, left_aside, left_grace}
use Rattle.xl_core.specs.Askers.{party_named, who_entered, asking_party, may_have, may_wish_for, IsFitWish, IsOrdered, range_what, known_owner, is_name, client_of as client_behind}
use Rattle.xl_core.specs.declared.lease.Times.{Times}
use Rattle.xl_names.specs.declared.name.Name.TheVariants.{NfsParty, NlmRange, NlmShare, NlmParty, NfsRange, NfsShare, SmbLease}
use Rattle.xl_core.specs.Askers.{both_entered, asked_whats, asked_claim, asked_claims, known_claim, is_client, may_ask, IsFitAct, IsFit}
use Rattle.xl_core.specs.Causes.{limits_of_wait, may_wait, left_by_unlock, IsEachBehind, held_once, IsWaiting, wanted, name_waiting, last_answer}
use Rattle.xl_core.specs.Decide.{Answered, plea_of, waiter_of, waiting, named, answered, claims_asked, unlocked_claims, unlocked_bytes, unlocked, wish_by, wish_asked, acted, decided, way, before_wish, does_wish, ask, freed, unlocked_one, is_back, wish_graced}
use Rattle.xl_core.specs.Good.{are_kept, IsKnown, IsHeld, is_single, are_apart, IsPled, IsWished, IsWaiter, IsGood, AllBehind, is_held_up, holds_up, IsUp, of_first}
use Rattle.xl_core.specs.Blockers.{is_in_line, is_stopped, all_run}
use Rattle.xl_core.specs.Ways.{made_way}
use Rattle.xl_core.specs.Wishes.{wish_for, has_room, wished_kind}
use Rattle.xl_core.specs.declared.ask.Who.{Who}
use Rattle.xl_core.proofs.InTurnLaws.{in_turn_keeps}
use Rattle.xl_core.proofs.AskWishLaws.{refused_wish, MayWish, wish_for_good, after_good, same_kinds}
use Rattle.xl_core.specs.Judge.{Ruled, followed, all_granted, held_with, does_wait, judged, first_stop, to_record}
use Rattle.xl_core.specs.Limits.{most_waiters, wish_limits, first_passed}
use Rattle.xl_core.specs.Settle.{plea_again, all_of, turned, way_again, again, turn_or, first_turn, settle, waits_with, cancel, give_back, departed, end_party, close_open}
use Rattle.xl_core.specs.declared.ask.Act.{Act}
use Rattle.xl_core.specs.declared.ask.Act.TheVariants.{Share, Ranges, Test, Unlock}
use Rattle.xl_core.specs.declared.ask.Act.TheVariants as acts
use Rattle.xl_core.specs.declared.ask.Answer.{Answer}
use Rattle.xl_core.specs.declared.ask.Answer.TheVariants as answers
use Rattle.xl_core.specs.declared.ask.Ask.{Ask}
use Rattle.xl_core.specs.declared.ask.Effect.{Effect}
use Rattle.xl_core.specs.declared.ask.Effect.TheVariants.{Served}
use Rattle.xl_core.specs.declared.judge.Plea.{Plea}
use Rattle.xl_core.specs.declared.judge.Ruling.{Ruling}
use Rattle.xl_core.specs.declared.judge.Ruling.TheVariants.{Gets, Waits, Told}
use Rattle.xl_core.proofs.RequestLaws.{ranges_pled}
use Rattle.xl_core.proofs.CauseLaws.{left_so, real_range, own_ranges, fit_ranges, tells, row_due}
pub use Rattle.xl_core.proofs.StateLaws.{good_claims, good_from}
use Rattle.xl_core.proofs.ClaimLaws.{AreGood, relocked_good, granted_good}
use Rattle.xl_core.proofs.KnownLaws.{GoOn, both_go_on, both_distinct, held_on, waiters_on, one_party, asker_kept, asked_known, kept_on, known_party_is, asked_all_known}
use Rattle.xl_core.proofs.LimitLaws.{wait_room, wish_room}
use Rattle.xl_core.proofs.RowLaws.{AllPass, is_refusal, IsRuled, judged_ruled, judged_row, Waiting, ended, ended_by}
use Rattle.xl_core.proofs.TurnLaws.{waits_now, free_moves, move_first, up_rests}
use Rattle.xl_core.proofs.WayLaws.{way_stopped, way_runs, AsksNoCache, known_no_cache, way_good, way_names, way_keeps}
use Rattle.xl_table.specs.Elements.{element_held}

-- ---- a good state, part by part

pub claims_on : (names more : List Name) (cs : List Claim) → GoOn names more → AreGood names cs → AreGood more cs
claims_on names more cs on good = record { kept = good.kept; compatible = good.compatible; single = good.single; known = held_on names more cs on good.known }

-- ---- at a start, and at the beginning of a step

pub started_good : (stable : Stable) (clock : Moment) (times : Times) → IsGood (started stable clock times)
started_good stable clock times = record { kept = kept_empty; compatible = tt; single = tt; known = tt; waiters = tt; apart = tt; crowd = omega arith; distinct = tt; few = omega arith }

pub begun_good : (s : CoreState) → IsGood s → IsGood (step_begun s)
unfolding step_begun
begun_good s good = good_from (record s { made = 0; failed = false; given = [] }) (good_claims s good) good.distinct good.few good.waiters good.apart good.crowd

pub advanced_good : (s : CoreState) (now : Moment) → IsGood s → IsGood (advanced s now)
unfolding advanced
advanced_good s now good = good_from (record s { clock = later s.clock now }) (good_claims s good) good.distinct good.few good.waiters good.apart good.crowd

leased_good : (s : CoreState) (leases : List Lease) → IsGood s → IsGood (record s { leases = leases })
leased_good s leases good = good_from (record s { leases = leases }) (good_claims s good) good.distinct good.few good.waiters good.apart good.crowd

pub renew_good : (s : CoreState) (client : List ℕ) → IsGood s → IsGood (renew s client).1
unfolding renew
renew_good s client good = leased_good s (with_lease client (moment_after s.clock s.times.lease) s.leases) good

pub drawn_good : (s : CoreState) → IsGood s → IsGood (drawn s)
unfolding drawn
drawn_good s good =
    good_from (record s { counter = s.counter + 1 }) (good_claims s good) good.distinct good.few (waiters_on s.names s.names s.counter (s.counter + 1) s.waiters (λ number name h. h) (omega arith) good.waiters) good.apart good.crowd

-- ---- a party for each owner

known_one : (names : List Name) (c : Claim) (cs : List Claim) (more : List Name) → GoOn names more → AreDistinct more → AllByRecursion (IsHeld names) cs → are_kept more c.owner c.party ≡ true → AllByRecursion (λ d. has_one_party c d ≡ true) cs
known_one names c cs more on distinct all kept =
    elim (cases_Bool (posix c.owner)) [
      | inr smb ↦ all_from (λ d. has_one_party c d ≡ true) cs (λ d h. one_party_open c d smb)
      | inl named ↦ all_one_party c cs (λ d h own range. one_party more c.owner d.party c.party named distinct (subst (λ (o : Owner). are_kept more o d.party ≡ true) (owner_of d own) (kept_on names more d.owner d.party on (all_in (IsHeld names) d cs all h).1)) kept)
    ]
  where
    owner_of : (d : Claim) → is_of c.file c.owner d ≡ true → d.owner ≡ c.owner
    owner_of d own = (is_of-true c.file c.owner d own).1

-- the claim that is asked for, and the ranges that its owner has on its file, are of one party
pub asked_one_party : (s : CoreState) (a : Ask) (what : What) → IsGood s → is_client a.owner a.party ≡ true → AllByRecursion (λ c. has_one_party (asked_claim a what s.names) c ≡ true) s.claims
asked_one_party s a what good client =
    known_one s.names (asked_claim a what s.names) s.claims (both_entered a s.names) (both_go_on a s.names) (both_distinct a s.names good.distinct) good.known (asker_kept a s.names client)

-- so is what a waiter asks for
pub known_one_party : (s : CoreState) (c : Claim) → IsGood s → IsKnown s.names c → AllByRecursion (λ d. has_one_party c d ≡ true) s.claims
known_one_party s c good known = known_one s.names c s.claims s.names (λ number name h. h) good.distinct good.known known.1

-- and so is what an unlock is for
pub unlocked_one_party : (s : CoreState) (a : Ask) (extent : Extent) (exclusive : Bool) → IsGood s → is_client a.owner a.party ≡ true → AllByRecursion (λ c. has_one_party (known_claim a extent exclusive s.names) c ≡ true) s.claims
unlocked_one_party s a extent exclusive good client =
    let claim = known_claim a extent exclusive s.names in
    elim (cases_Bool (posix claim.owner)) [
      | inr smb ↦ all_from (λ d. has_one_party claim d ≡ true) s.claims (λ d h. one_party_open claim d smb)
      | inl named ↦ all_one_party claim s.claims (λ d h own range. known_party_is a s.names d.party named good.distinct good.few client
          (subst (λ (o : Owner). are_kept s.names o d.party ≡ true) (is_of-true claim.file claim.owner d own).1 (all_in (IsHeld s.names) d s.claims good.known h).1))
    ]

-- ---- a share or a lock

-- what becomes of an ask for these claims: it has all of them, it waits, or it is refused
pub data AskCase (n : ℕ) (left : Rooms) (s : CoreState) (a : Ask) (claims : List Claim) (first : Claim) (r : Answered) : Type 0 where
  Goes : enters (stands s a) ≡ true → may_record n s (to_record (wanted s a) claims) ≡ true → AllPass left (plea_of left s a) s.claims claims
      → r ≡ (answers.Granted first, [], with_aside (aside_of (noted_for s a claims (answers.Granted first))) (named a (held_with claims s))) → AskCase n left s a claims first r
  Queues : IsWaiting (stands s a) s.waiters s a first → first_passed (limits_of_wait left s a) ≡ None → r ≡ (answers.Queued (s.counter + 1), [], waiting a claims s) → AskCase n left s a claims first r
  Refuses : (answer : Answer) → is_refusal answer ≡ true → r ≡ (answer, [], with_aside (aside_of (noted_for s a claims answer)) s) → AskCase n left s a claims first r

-- the state once the claims are granted
granted_state : (s : CoreState) (a : Ask) (claims : List Claim) (first : Claim) → named a (is_back a (held_with claims (recorded (to_record (wanted s a) claims) s))) ≡ with_aside (aside_of (noted_for s a claims (answers.Granted first))) (named a (held_with claims s))
unfolding held_with stored
granted_state s a claims first = by (to_record (wanted s a) claims) a.reclaim where
  back : Bool → CoreState → CoreState
  back b t = if b then record t { grace = reclaimed (recorded_as a.party) t.grace } else t

  by : (name : Option Recorded) (b : Bool) → named a (back b (held_with claims (recorded name s))) ≡ with_aside (aside_of (back b (recorded name s))) (named a (held_with claims s))
  by None true = refl
  by None false = refl
  by (Some name) true = refl
  by (Some name) false = refl

refused_noted : (s : CoreState) (a : Ask) (claims : List Claim) (answer : Answer) → is_refusal answer ≡ true → record_left (to_record (wanted s a) claims) answer s ≡ noted_for s a claims answer
refused_noted s a claims (answers.Granted c) h = absurd (both_ways false refl h)
refused_noted s a claims (answers.Queued number) h = refl
refused_noted s a claims (answers.Conflict c) h = refl
refused_noted s a claims (answers.Recall c) h = refl
refused_noted s a claims (answers.Grace until) h = refl
refused_noted s a claims (answers.NoGrace clock) h = refl
refused_noted s a claims answers.NotRecorded h = refl
refused_noted s a claims (answers.Full limit) h = refl
refused_noted s a claims answers.NotHeld h = refl
refused_noted s a claims answers.StoreFailed h = refl

pub ask_case : (n : ℕ) (left : Rooms) (s : CoreState) (a : Ask) (c : Claim) (cs : List Claim) → AskCase n left s a (c ∷ cs) c (claims_asked n left s a (c ∷ cs))
unfolding claims_asked plea_of
ask_case n left s a c cs = by r.0 r.1 r.2 (judged_ruled n s.waiters left (plea_of left s a) (c ∷ cs) s) where
  r : Ruled
  r = judged n s.waiters left (plea_of left s a) (c ∷ cs) s

  waits_so : (x y z u : Bool) → (x && (if y then z else u)) ≡ true → ((if y then z else u) ≡ true) × (x ≡ true)
  waits_so x y z u e = let both = and_parts x (if y then z else u) e in (both.1, both.0)

  waits_for : Waiting s.waiters (plea_of left s a) s (c ∷ cs) → IsWaiting (stands s a) s.waiters s a c
  waits_for why =
      elim why [
        | inl stays ↦ subst (λ (st : Standing). IsWaiting st s.waiters s a c) (sym stays) tt
        | inr timely ↦ subst (λ (st : Standing). IsWaiting st s.waiters s a c) (sym timely.0) (waits_so (is_in_line s.waiters s c) (is_stopped s.waiters s c) a.blocking a.awaits timely.1)
      ]

  by : (ruling : Ruling) (told : List Effect) (t : CoreState) → IsRuled n s.waiters left (plea_of left s a) (c ∷ cs) s ruling told t → AskCase n left s a (c ∷ cs) c (answered a (c ∷ cs) c ruling told t)
  by Gets told t is = Goes is.2 is.3 is.4 ((λ i. (answers.Granted c, is.0 i, named a (is_back a (is.1 i)))) ∙ (λ i. (answers.Granted c, [], granted_state s a (c ∷ cs) c i)))
  by Waits told t is = Queues (waits_for is.3) is.2 (λ i. answered a (c ∷ cs) c Waits (is.0 i) (is.1 i))
  by (Told answer) told t is =
      Refuses answer is.2 ((λ i. answered a (c ∷ cs) c (Told answer) (is.0 i) (is.1 i)) ∙ (λ i. (answer, [], refused_noted s a (c ∷ cs) answer is.2 i)) ∙ (λ i. (answer, [], noted_aside s a (c ∷ cs) answer i)))

-- claims that pass, one behind another, leave the claims good
pub all_granted_good : (left : Rooms) (p : Plea) (names : List Name) (asked held : List Claim) → AreDistinct names → AreGood names held → AllByRecursion (IsKnown names) asked → AllPass left p held asked → AreGood names (all_granted asked held)
all_granted_good left p names [] held distinct good known pass = good
all_granted_good left p names (c ∷ cs) held distinct good known pass =
    all_granted_good left p names cs (granted_claims c held) distinct
    (granted_good names c held distinct good known.0 pass.0 pass.1.1) known.1 pass.2

goes_good : (left : Rooms) (s : CoreState) (a : Ask) (c : Claim) (cs : List Claim) → IsGood s → AllByRecursion (IsKnown (both_entered a s.names)) (c ∷ cs) → AllPass left (plea_of left s a) s.claims (c ∷ cs) → IsGood (named a (held_with (c ∷ cs) s))
unfolding held_with plea_of
goes_good left s a c cs good known pass =
    let more = both_entered a s.names in
    let on = both_go_on a s.names in
    let distinct = both_distinct a s.names good.distinct in
    good_from (record s { claims = all_granted (c ∷ cs) s.claims; names = more }) (all_granted_good left (plea_of left s a) more (c ∷ cs) s.claims distinct (claims_on s.names more s.claims on (good_claims s good)) known pass) distinct
    pass.1.2 (waiters_on s.names more s.counter s.counter s.waiters on (omega arith) good.waiters) good.apart good.crowd

waiting_good : (left : Rooms) (s : CoreState) (a : Ask) (c : Claim) (cs : List Claim) → IsGood s → AllByRecursion (IsKnown (both_entered a s.names)) (c ∷ cs) → IsPled (c ∷ cs) → IsWished a.wish (c ∷ cs) → first_passed (limits_of_wait left s a) ≡ None → IsGood (waiting a (c ∷ cs) s)
waiting_good left s a c cs good known row wished room =
    let more = both_entered a s.names in
    let next = s.counter + 1 in
    let new = waiter_of next a (asking_party a s.names) (c ∷ cs) in
    let on = both_go_on a s.names in
    let fits = wait_room left a.rows (length s.waiters) (length more) room in
    good_from (waiting a (c ∷ cs) s) (claims_on s.names more s.claims on (good_claims s good)) (both_distinct a s.names good.distinct) fits.2
    (all_append (IsWaiter more next) s.waiters (new ∷ []) (waiters_on s.names more s.counter next s.waiters on (omega arith) good.waiters) ((omega arith, known, row, wished), tt))
    (pairwise_append are_apart s.waiters (new ∷ []) good.apart (tt, tt)
    (λ v w h k. elim k [
      | inl e ↦ subst (λ (x : Waiter). are_apart v x ≡ true) e (not_from_false (v.id == next) (ne_eqb v.id next (λ same. omega (arith, same, (all_in (IsWaiter s.names s.counter) v s.waiters good.waiters h).0))))
      | inr none ↦ absurd none
    ]))
    (omega (arith, fits.1, length-append s.waiters (new ∷ [])))

nlm_party : (caller : List ℕ) (p : Name) → same_name (NlmParty caller) p ≡ true → false ≡ is_smb (Named p)
nlm_party caller (NlmParty other) e = refl
nlm_party caller (NlmRange other svid oh) e = absurd (both_ways false refl e)
nlm_party caller (NlmShare other oh) e = absurd (both_ways false refl e)
nlm_party caller (NfsRange id name) e = absurd (both_ways false refl e)
nlm_party caller (NfsShare id name) e = absurd (both_ways false refl e)
nlm_party caller (NfsParty id) e = absurd (both_ways false refl e)
nlm_party caller (SmbLease guid key) e = absurd (both_ways false refl e)

nfs_party : (id : List ℕ) (p : Name) → same_name (NfsParty id) p ≡ true → false ≡ is_smb (Named p)
nfs_party id (NfsParty other) e = refl
nfs_party id (NlmParty caller) e = absurd (both_ways false refl e)
nfs_party id (NlmRange other svid oh) e = absurd (both_ways false refl e)
nfs_party id (NlmShare other oh) e = absurd (both_ways false refl e)
nfs_party id (NfsRange other name) e = absurd (both_ways false refl e)
nfs_party id (NfsShare other name) e = absurd (both_ways false refl e)
nfs_party id (SmbLease guid key) e = absurd (both_ways false refl e)

oplock_kinds : (kind : CacheKind) → is_oplock_kind kind ≡ true → is_delegation kind ≡ false
oplock_kinds R e = refl
oplock_kinds RH e = refl
oplock_kinds RW e = refl
oplock_kinds RWH e = refl
oplock_kinds ReadDeleg e = absurd (both_ways false refl e)
oplock_kinds WriteDeleg e = absurd (both_ways false refl e)

-- the caches of a client of SMB are no delegations
smb_kinds : (owner party : Who) (kind : CacheKind) → is_client owner party ≡ true → is_smb party ≡ true → may_have party kind ≡ true → is_delegation kind ≡ false
unfolding is_kind_of
smb_kinds (Open number) (Open other) kind client smb may = oplock_kinds kind may
smb_kinds (Open number) (Named (SmbLease guid key)) kind client smb may = not-true (is_delegation kind) may
smb_kinds (Open number) (Named (NlmRange caller svid oh)) kind client smb may = absurd (both_ways false refl client)
smb_kinds (Open number) (Named (NlmShare caller oh)) kind client smb may = absurd (both_ways false refl client)
smb_kinds (Open number) (Named (NlmParty caller)) kind client smb may = absurd (both_ways false refl smb)
smb_kinds (Open number) (Named (NfsRange id owner)) kind client smb may = absurd (both_ways false refl client)
smb_kinds (Open number) (Named (NfsShare id owner)) kind client smb may = absurd (both_ways false refl client)
smb_kinds (Open number) (Named (NfsParty id)) kind client smb may = absurd (both_ways false refl smb)
smb_kinds (Named owner) (Open other) kind client smb may = absurd (both_ways false refl client)
smb_kinds (Named owner) (Named party) kind client smb may = absurd (both_ways (is_smb (Named party)) (sym (named_client owner party client)) smb) where
  named_client : (o p : Name) → is_name (client_behind o) p ≡ true → false ≡ is_smb (Named p)
  named_client (NlmRange caller svid oh) p e = nlm_party caller p e
  named_client (NlmShare caller oh) p e = nlm_party caller p e
  named_client (NfsRange id name) p e = nfs_party id p e
  named_client (NfsShare id name) p e = nfs_party id p e
  named_client (NlmParty caller) p e = absurd (both_ways false refl e)
  named_client (NfsParty id) p e = absurd (both_ways false refl e)
  named_client (SmbLease guid key) p e = absurd (both_ways false refl e)

-- who may wait asks to wait for one thing or the other
waits_then : (s : CoreState) (a : Ask) (c : Claim) → may_wait s.waiters s a c ≡ true → (a.blocking || a.awaits) ≡ true
waits_then s a c may = by (is_stopped s.waiters s c) a.blocking a.awaits may where
  by : (x y z : Bool) → (if x then y else z) ≡ true → (y || z) ≡ true
  by true true z h = refl
  by true false z h = absurd (both_ways false refl h)
  by false true z h = refl
  by false false z h = h

-- or it is of SMB, and waits for the end of grace
waits_or : (s : CoreState) (a : Ask) (c : Claim) → IsWaiting (stands s a) s.waiters s a c → ((a.blocking || a.awaits) ≡ true) ⊎ (is_smb a.party ≡ true)
waits_or s a c why = by (stands s a) refl why where
  by : (standing : Standing) → stands s a ≡ standing → IsWaiting standing s.waiters s a c → ((a.blocking || a.awaits) ≡ true) ⊎ (is_smb a.party ≡ true)
  by Timely is why = inl (waits_then s a c why.0)
  by Stays is why = inr (stays_asks s (asker_as a) (is_smb a.party) a.reclaim is)
  by Reclaims is why = absurd why
  by (Early until) is why = absurd why
  by (Late clock) is why = absurd why
  by Unrecorded is why = absurd why

claims_good : (n : ℕ) (left : Rooms) (s : CoreState) (a : Ask) (c : Claim) (cs : List Claim) → IsGood s → AllByRecursion (IsKnown (both_entered a s.names)) (c ∷ cs) → IsPled (c ∷ cs) → (((a.blocking || a.awaits) ≡ true) ⊎ (is_smb a.party ≡ true) → IsWished a.wish (c ∷ cs)) → IsGood (claims_asked n left s a (c ∷ cs)).2
claims_good n left s a c cs good known row wished = by (claims_asked n left s a (c ∷ cs)) (ask_case n left s a c cs) where
  by : (r : Answered) → AskCase n left s a (c ∷ cs) c r → IsGood r.2
  by r (Goes in_time may pass e) = subst (λ (x : Answered). IsGood x.2) (sym e) (aside_good (aside_of (noted_for s a (c ∷ cs) (answers.Granted c))) (named a (held_with (c ∷ cs) s)) (goes_good left s a c cs good known pass))
  by r (Queues why room e) = subst (λ (x : Answered). IsGood x.2) (sym e) (waiting_good left s a c cs good known row (wished (waits_or s a c why)) room)
  by r (Refuses answer refused e) = subst (λ (x : Answered). IsGood x.2) (sym e) (aside_good (aside_of (noted_for s a (c ∷ cs) answer)) s good)

-- ---- an unlock

pub span_owner : (file : ℕ) (owner : Owner) (p : Span → Bool) (cs : List Claim) → list_any p (spans_of file owner cs) ≡ true → (c : Claim) × IsIn c cs × (is_of file owner c ≡ true)
span_owner file owner p [] e = absurd (both_ways false refl e)
span_owner file owner p (c ∷ cs) e =
    elim (cases_Bool (is_of file owner c)) [
      | inl own ↦ (c, inl refl, own)
      | inr other ↦ let rest = span_owner file owner p cs (rw other at e) in (rest.0, inr rest.1, rest.2)
    ]

-- who holds a byte is known, of a party that is kept
pub holder_of : (s : CoreState) (a : Ask) (extent : Extent) (exclusive : Bool) (first last : ℕ) → IsGood s → (let claim = known_claim a extent exclusive s.names in holds_byte claim.file claim.owner first last s.claims ≡ true → (party : Party) × (are_kept s.names claim.owner party ≡ true))
unfolding holds_byte
holder_of s a extent exclusive first last good holds =
    let claim = known_claim a extent exclusive s.names in
    let found = span_owner claim.file claim.owner (meets first last) s.claims holds in
    let owner = (is_of-true claim.file claim.owner found.0 found.2).1 in
    (found.0.party, subst (λ (o : Owner). are_kept s.names o found.0.party ≡ true) owner (all_in (IsHeld s.names) found.0 s.claims good.known found.1).1)

-- a POSIX owner's is that of the asker
pub holder_kept : (s : CoreState) (a : Ask) (extent : Extent) (exclusive : Bool) (first last : ℕ) → posix (known_owner a.owner s.names) ≡ true → IsGood s → is_client a.owner a.party ≡ true → (let claim = known_claim a extent exclusive s.names in holds_byte claim.file claim.owner first last s.claims ≡ true → are_kept s.names claim.owner claim.party ≡ true)
holder_kept s a extent exclusive first last named good client holds =
    let claim = known_claim a extent exclusive s.names in
    let found = holder_of s a extent exclusive first last good holds in
    subst (λ (p : Party). are_kept s.names claim.owner p ≡ true) (known_party_is a s.names found.0 named good.distinct good.few client found.1) found.1

unlocked_bytes_good : (s : CoreState) (claim : Claim) (first last : ℕ) → IsGood s → first ≤ last → posix claim.owner ≡ true → (holds_byte claim.file claim.owner first last s.claims ≡ true → are_kept s.names claim.owner claim.party ≡ true) → IsGood (unlocked_bytes s claim first last).2
unlocked_bytes_good s claim first last good ends own kept = go (holds_byte claim.file claim.owner first last s.claims) (nat_le (left_by_unlock s claim first last) most_claims) refl refl where
  go : (h f : Bool) → holds_byte claim.file claim.owner first last s.claims ≡ h → nat_le (left_by_unlock s claim first last) most_claims ≡ f → IsGood (left_so s claim first last h f).2
  go false f none e = good
  go true false holds full = good
  go true true holds fits =
      good_from (record s { claims = unlocked_claims claim first last s.claims })
      (relocked_good s.names claim.file claim.owner claim.party first last None s.claims good.distinct (good_claims s good) ends own (kept holds) tt (leb-true (left_by_unlock s claim first last) most_claims fits))
      good.distinct good.few good.waiters good.apart good.crowd

pub without_good : (s : CoreState) (claim : Claim) → IsGood s → IsGood (record s { claims = removed claim s.claims })
without_good s claim good =
    good_from (record s { claims = removed claim s.claims })
    (record {
      kept = kept_removed claim s.claims good.kept;
      compatible = pairwise_removed compat claim s.claims good.compatible;
      single = pairwise_removed is_single claim s.claims good.single;
      known = all_removed (IsHeld s.names) claim s.claims good.known;
    })
    good.distinct good.few good.waiters good.apart good.crowd

freed_good : (s : CoreState) (claim : Claim) (o : Option Claim) → IsGood s → IsGood (freed s claim o).2
freed_good s claim None good = good
freed_good s claim (Some c) good = without_good s c good

unlock_good : (s : CoreState) (a : Ask) (extent : Extent) → IsGood s → is_client a.owner a.party ≡ true → IsOrdered extent → IsGood (unlocked s (known_claim a extent false s.names) extent).2
unfolding unlocked
unlock_good s a (Bytes first last) good client ends = by (posix claim.owner) refl where
  claim : Claim
  claim = known_claim a (Bytes first last) false s.names

  by : (b : Bool) → posix claim.owner ≡ b → IsGood (if b then unlocked_bytes s claim first last else unlocked_one s claim (Bytes first last)).2
  by true named = unlocked_bytes_good s claim first last good ends named (holder_kept s a (Bytes first last) false first last named good client)
  by false unnamed = freed_good s claim (element_held claim (Bytes first last) s.claims) good
unlock_good s a (Empty offset) good client ends = let claim = known_claim a (Empty offset) false s.names in freed_good s claim (element_held claim (Empty offset) s.claims) good

-- ---- an ask

-- a share comes with a wish for kinds that its party may have
party_kinds : (a : Ask) (names : List Name) (waits : Bool) (kinds : List CacheKind) → AllByRecursion (λ kind. may_wish_for a.party waits kind ≡ true) kinds → AllByRecursion (λ kind. is_kind_of (asking_party a names) kind ≡ true) kinds
party_kinds a names waits [] may = tt
party_kinds a names waits (kind ∷ kinds) may =
    (same_kinds a.party (who_entered a.owner names) kind (and_parts (may_have a.party kind) (not (waits && is_delegation kind)) may.0).0, party_kinds a names waits kinds may.1)

share_wished : (a : Ask) (access deny : Rwd) (names : List Name) (waits : Bool) (kinds : List CacheKind) → is_client a.owner a.party ≡ true → (waits ≡ true) ⊎ (is_smb a.party ≡ true) → AllByRecursion (λ kind. may_wish_for a.party waits kind ≡ true) kinds → IsWished kinds (asked_claim a (whats.Share access deny) names ∷ [])
share_wished a access deny names waits [] client does may = tt
share_wished a access deny names waits (kind ∷ kinds) client does may =
    let both = and_parts (may_have a.party kind) (not (waits && is_delegation kind)) may.0 in (
      (
        same_kinds a.party (who_entered a.owner names) kind both.0,
        refl,
        elim does [
          | inl waits_on ↦ not-true (is_delegation kind) (ap (λ (b : Bool). not (b && is_delegation kind)) (sym waits_on) ∙ both.1)
          | inr smb ↦ smb_kinds a.owner a.party kind client smb both.0
        ],
      ),
      share_wished a access deny names waits kinds client does may.1,
    )

-- the names of a wish by itself are kept
named_good : (s : CoreState) (a : Ask) → IsGood s → length (both_entered a s.names) ≤ most_names → IsGood (named a s)
named_good s a good few =
    let more = both_entered a s.names in
    let on = both_go_on a s.names in
    good_from (named a s) (claims_on s.names more s.claims on (good_claims s good)) (both_distinct a s.names good.distinct) few
    (waiters_on s.names more s.counter s.counter s.waiters on (omega arith) good.waiters) good.apart good.crowd

wish_asked_good : (left : Rooms) (s : CoreState) (a : Ask) (kinds : List CacheKind) → IsGood s → IsGood (wish_asked left s a kinds).2
unfolding wish_asked
wish_asked_good left s a [] good = good
wish_asked_good left s a (kind ∷ kinds) good = graced_so (refusal (stands_alone s a)) where
  by : (o : Option ℕ) → first_passed (wish_limits left a.rows (length (both_entered a s.names))) ≡ o → IsGood (wish_by s a (asked_claim a (whats.Cache kind None) s.names) o).2
  by None e = named_good s a good (wish_room left a.rows (length (both_entered a s.names)) e)
  by (Some limit) e = good

  graced_so : (r : Option Answer) → IsGood (wish_graced left s a (asked_claim a (whats.Cache kind None) s.names) r).2
  graced_so (Some answer) = good
  graced_so None = by (first_passed (wish_limits left a.rows (length (both_entered a s.names)))) refl

acted_good : (n : ℕ) (left : Rooms) (s : CoreState) (a : Ask) (act : Act) → IsGood s → is_client a.owner a.party ≡ true → may_ask a.owner act ≡ true → IsFitAct a.owner a.blocking act → IsFitWish a.party (a.blocking || a.awaits) a.reclaim act a.wish → IsGood (acted n left s a act).2
acted_good n left s a (Share access deny) good client may fit wish =
    let known = asked_known a (whats.Share access deny) s.names client refl tt in claims_good n left s a (asked_claim a (whats.Share access deny) s.names) [] good (known, tt) (known.0, tt) (λ does. share_wished a access deny s.names (a.blocking || a.awaits) a.wish client does wish)
acted_good n left s a (Ranges []) good client may fit wish = absurd fit
acted_good n left s a (Ranges (range ∷ ranges)) good client may fit wish =
    claims_good n left s a (asked_claim a (range_what range) s.names) (asked_claims a (map range_what ranges) s.names) good
    (asked_all_known a (map range_what (range ∷ ranges)) s.names client (own_ranges a.owner (range ∷ ranges) may) (real_range range.0 range.1 fit.0, fit_ranges a.owner a.blocking ranges fit.1)) (ranges_pled a (range ∷ ranges) s.names fit client may)
    (λ does. subst (λ (kinds : List CacheKind). IsWished kinds (asked_claim a (range_what range) s.names ∷ asked_claims a (map range_what ranges) s.names)) (sym wish) tt)
acted_good n left s a (Test extent exclusive) good client may fit wish = good
acted_good n left s a (Unlock extent) good client may fit wish = unlock_good s a extent good client fit
acted_good n left s a acts.Wish good client may fit wish = wish_asked_good left s a a.wish good

-- each ask leaves the state good
pub decided_good : (n : ℕ) (left : Rooms) (s : CoreState) (a : Ask) → IsGood s → IsFit a → IsGood (decided n left s a).2
unfolding decided
decided_good n left s a good fit = acted_good n left s a a.act good fit.party fit.own fit.act fit.wish

pub ranges_no_cache : (a : Ask) (names : List Name) (ranges : List (Extent × Bool)) → AsksNoCache (asked_claims a (map range_what ranges) names)
ranges_no_cache a names [] = tt
ranges_no_cache a names (range ∷ ranges) = (refl, ranges_no_cache a names ranges)

-- no ask is for a cache
asks_no_cache : (a : Ask) (names : List Name) (act : Act) → AsksNoCache (asked_claims a (asked_whats act) names)
asks_no_cache a names (Share access deny) = (refl, tt)
asks_no_cache a names (Ranges ranges) = ranges_no_cache a names ranges
asks_no_cache a names (Test extent exclusive) = tt
asks_no_cache a names (Unlock extent) = tt
asks_no_cache a names acts.Wish = tt

pub asked_way_good : (left : Rooms) (s : CoreState) (a : Ask) → IsGood s → IsGood (way left s a).1
asked_way_good left s a good = way_good s.waiters (plea_of left s a) (asked_claims a (asked_whats a.act) s.names) s good (asks_no_cache a s.names a.act)

-- so it is before the wish is granted
pub before_good : (n : ℕ) (left : Rooms) (s : CoreState) (a : Ask) → IsGood s → IsFit a → IsGood (before_wish n left s a).2
unfolding before_wish
before_good n left s a good fit = decided_good n left (way left s a).1 a (asked_way_good left s a good) fit

-- what is granted of an ask that may wish is a claim of who asks, whose names are kept then
abbrev pub IsAsked : CoreState → Ask → Answered → Claim → Type 0
IsAsked s a r c = (what : What) × (c ≡ asked_claim a what s.names) × (r.2.names ≡ both_entered a s.names)

-- grace grants nothing
refused_never : (s : CoreState) (a : Ask) (c : Claim) → refusal (stands_alone s a) ≡ Some (answers.Granted c) → ⊥
refused_never s a c e = by (stands_alone s a) e where
  by : (standing : Standing) → refusal standing ≡ Some (answers.Granted c) → ⊥
  by Timely e = cc
  by Reclaims e = cc
  by Stays e = cc
  by (Early until) e = cc
  by (Late clock) e = cc
  by Unrecorded e = cc

acted_grants : (n : ℕ) (left : Rooms) (s : CoreState) (a : Ask) (act : Act) (d : Claim) → does_wish act ≡ true → (acted n left s a act).0 ≡ answers.Granted d → IsAsked s a (acted n left s a act) d
unfolding wish_asked held_with claims_asked
acted_grants n left s a (Share access deny) d does at = by (claims_asked n left s a (claim ∷ [])) (ask_case n left s a claim []) at where
  claim : Claim
  claim = asked_claim a (whats.Share access deny) s.names

  same : (x y : Claim) → answers.Granted x ≡ answers.Granted y → y ≡ x
  same x y e = cc

  by : (r : Answered) → AskCase n left s a (claim ∷ []) claim r → r.0 ≡ answers.Granted d → IsAsked s a r d
  by r (Goes in_time may pass e) at = (whats.Share access deny, same claim d (sym (ap (λ (x : Answered). x.0) e) ∙ at), ap (λ (x : Answered). x.2.names) e)
  by r (Queues why room e) at = let two : answers.Queued (s.counter + 1) ≡ answers.Granted d = sym (ap (λ (x : Answered). x.0) e) ∙ at in absurd cc
  by r (Refuses answer refused e) at = absurd (both_ways (is_refusal answer) (ap is_refusal (sym (ap (λ (x : Answered). x.0) e) ∙ at)) refused)
acted_grants n left s a (Ranges ranges) d does at = absurd (both_ways false refl does)
acted_grants n left s a (Test extent exclusive) d does at = absurd (both_ways false refl does)
acted_grants n left s a (Unlock extent) d does at = absurd (both_ways false refl does)
acted_grants n left s a acts.Wish d does at = by a.wish at where
  same : (x y : Claim) → answers.Granted x ≡ answers.Granted y → y ≡ x
  same x y e = cc

  one : (kind : CacheKind) (o : Option ℕ) → (wish_by s a (asked_claim a (whats.Cache kind None) s.names) o).0 ≡ answers.Granted d → IsAsked s a (wish_by s a (asked_claim a (whats.Cache kind None) s.names) o) d
  one kind None at = (whats.Cache kind None, same (asked_claim a (whats.Cache kind None) s.names) d at, refl)
  one kind (Some limit) at = let two : answers.Full limit ≡ answers.Granted d = at in absurd cc

  by : (kinds : List CacheKind) → (wish_asked left s a kinds).0 ≡ answers.Granted d → IsAsked s a (wish_asked left s a kinds) d
  by [] at = let two : answers.NotHeld ≡ answers.Granted d = at in absurd cc
  by (kind ∷ kinds) at = graced_so (refusal (stands_alone s a)) (refused_never s a) at where
    graced_so : (r : Option Answer) → ((c : Claim) → r ≡ Some (answers.Granted c) → ⊥) → (wish_graced left s a (asked_claim a (whats.Cache kind None) s.names) r).0 ≡ answers.Granted d → IsAsked s a (wish_graced left s a (asked_claim a (whats.Cache kind None) s.names) r) d
    graced_so (Some answer) never at = absurd (never d (ap Some at))
    graced_so None never at = one kind (first_passed (wish_limits left a.rows (length (both_entered a s.names)))) at

pub decided_grants : (n : ℕ) (left : Rooms) (s : CoreState) (a : Ask) (d : Claim) → does_wish a.act ≡ true → (decided n left s a).0 ≡ answers.Granted d → IsAsked s a (decided n left s a) d
unfolding decided
decided_grants n left s a d does at = acted_grants n left s a a.act d does at

-- the kinds of a wish are those that the party may have
fit_kinds : (party : Who) (waits reclaim : Bool) (act : Act) (kinds : List CacheKind) → does_wish act ≡ true → IsFitWish party waits reclaim act kinds → AllByRecursion (λ kind. may_wish_for party waits kind ≡ true) kinds
fit_kinds party waits reclaim (Share access deny) kinds does fit = fit
fit_kinds party waits reclaim acts.Wish [] does fit = tt
fit_kinds party waits reclaim acts.Wish (kind ∷ kinds) does fit = fit.1
fit_kinds party waits reclaim (Ranges ranges) kinds does fit = absurd (both_ways false refl does)
fit_kinds party waits reclaim (Test extent exclusive) kinds does fit = absurd (both_ways false refl does)
fit_kinds party waits reclaim (Unlock extent) kinds does fit = absurd (both_ways false refl does)

-- so who is granted what it asks for may wish
pub may_wish : (n : ℕ) (left : Rooms) (s : CoreState) (a : Ask) → IsGood s → IsFit a → does_wish a.act ≡ true → MayWish (before_wish n left s a).2 a.wish (before_wish n left s a).0
unfolding before_wish
may_wish n left s a good fit does d at =
    let t = (way left s a).1 in
    let is = decided_grants n left t a d does at in (
      subst (λ (c : Claim). AllByRecursion (λ kind. is_kind_of c.party kind ≡ true) a.wish) (sym is.1) (party_kinds a t.names (a.blocking || a.awaits) a.wish (fit_kinds a.party (a.blocking || a.awaits) a.reclaim a.act a.wish does fit.wish)),
      subst (λ (names : List Name). are_kept names d.owner d.party ≡ true) (sym is.2) (subst (λ (c : Claim). are_kept (both_entered a t.names) c.owner c.party ≡ true) (sym is.1) (asker_kept a t.names fit.party)),
    )

pub ask_good : (n : ℕ) (left : Rooms) (s : CoreState) (a : Ask) → IsGood s → IsFit a → IsGood (ask n left s a).2
unfolding ask
ask_good n left s a good fit = let r = before_wish n left s a in after_good a r.0 r.2 (before_good n left s a good fit) (may_wish n left s a good fit)

-- ---- a turn

abbrev pub Turned : Type 0
Turned = List Effect × CoreState

-- What becomes of a waiter for these that isn't held up, once the breaks run that it begins: it is held up by them, or each is
-- judged beside those before it, and it has all of them or is refused.
-- the state once a waiter for these is answered so, before its wish is granted
abbrev pub once_answered : CoreState → Waiter → List Claim → Answer → CoreState
once_answered t w asked answer = with_aside (aside_of (record_left (to_record (name_waiting t w) asked) answer t)) (record t { claims = held_once asked answer t.claims; waiters = cancelled w.id t.waiters })

-- what is told of these claims of a waiter that nothing stops
abbrev pub told_last : ℕ → CoreState → Waiter → List Claim → Claim → Answer
told_last n t w asked first = last_answer (may_record n t (to_record (name_waiting t w) asked)) first

pub data IsMoved (n : ℕ) (left : Rooms) (earlier : List Waiter) (s : CoreState) (w : Waiter) (c : Claim) (cs : List Claim) (turn : Turned) : Type 0 where
  Answers : (answer : Answer) → turn.0 ≡ (way_again earlier s w).0 ++ Served w.party w.id answer ∷ []
      → turn.1 ≡ wish_for w.wish answer (once_answered (way_again earlier s w).1 w (c ∷ cs) answer)
      → IsEachBehind earlier left w.rows (bytes_with (name_waiting (way_again earlier s w).1 w) (way_again earlier s w).1.stable) (length s.names) (told_last n (way_again earlier s w).1 w (c ∷ cs) c) (c ∷ cs) (way_again earlier s w).1 answer
      → ((d : Claim) → answer ≡ answers.Granted d → (d ≡ c) × AllPass left (plea_again s w) (way_again earlier s w).1.claims (c ∷ cs))
      → is_held_up earlier (way_again earlier s w).1 w c ≡ false
      → IsMoved n left earlier s w c cs turn
  Rests : turn ≡ way_again earlier s w → is_held_up earlier (way_again earlier s w).1 w c ≡ true → IsMoved n left earlier s w c cs turn

-- a refusal leaves what is held
refused_once : (asked : List Claim) (answer : Answer) (held : List Claim) → is_refusal answer ≡ true → held_once asked answer held ≡ held
refused_once asked (answers.Granted c) held h = absurd (both_ways false refl h)
refused_once asked (answers.Queued number) held h = refl
refused_once asked (answers.Conflict c) held h = refl
refused_once asked (answers.Recall c) held h = refl
refused_once asked (answers.Grace until) held h = refl
refused_once asked (answers.NoGrace clock) held h = refl
refused_once asked answers.NotRecorded held h = refl
refused_once asked (answers.Full limit) held h = refl
refused_once asked answers.NotHeld held h = refl
refused_once asked answers.StoreFailed held h = refl

-- where the first of its claims is waited for once the breaks run, it is held up
waits_up : (earlier : List Waiter) (s : CoreState) (w : Waiter) (c : Claim) (cs : List Claim) → is_some s.grace ≡ false → w.asked ≡ c ∷ cs → is_held_up earlier s w c ≡ false → does_wait earlier (plea_again s w) (way_again earlier s w).1 c ≡ true → is_held_up earlier (way_again earlier s w).1 w c ≡ true
unfolding plea_again
waits_up earlier s w c cs calm asked free waits = by (is_stopped earlier s c) refl where
  t : CoreState
  t = (way_again earlier s w).1

  -- where what blocks it for good was there, nothing began
  same : is_stopped earlier s c ≡ true → t ≡ s
  same stops = ap (λ (x : List Effect × CoreState). x.1) (ap (λ (ds : List Claim). made_way earlier (plea_again s w) ds s) asked ∙ way_stopped earlier (plea_again s w) c cs s stops)

  up : (x y z r : Bool) → (x && (if y then z else true)) ≡ true → (y ≡ false → r ≡ true) → (x && (if y then z else r)) ≡ true
  up true true z r e run = e
  up true false z r e run = run refl
  up false y z r e run = e

  firm : (x y z r : Bool) → y ≡ true → (x && (if y then z else true)) ≡ true → (x && (if y then z else r)) ≡ true
  firm true true z r h e = e
  firm true false z r h e = absurd (both_ways false refl h)
  firm false y z r h e = e

  by : (b : Bool) → is_stopped earlier s c ≡ b → is_held_up earlier t w c ≡ true
  by true stops =
      let now : (is_in_line earlier s c && (if is_stopped earlier s c then w.blocking else true)) ≡ true = subst (λ (x : CoreState). (is_in_line earlier x c && (if is_stopped earlier x c then w.blocking else true)) ≡ true) (same stops) waits in
      absurd (both_ways (is_held_up earlier s w c) free (firm (is_in_line earlier s c) (is_stopped earlier s c) w.blocking (all_run s.claims c) stops now))
  by false moves =
      up (is_in_line earlier t c) (is_stopped earlier t c) w.blocking (all_run t.claims c) waits
      (λ clear. ap (λ (ds : List Claim). all_run (made_way earlier (plea_again s w) ds s).1.claims c) asked ∙ way_runs earlier (plea_again s w) c cs s (ap (λ (b : Bool). if b then Stays else Timely) calm) refl moves)

-- and where it isn't waited for, it isn't held up
not_up : (earlier : List Waiter) (s t : CoreState) (w : Waiter) (c : Claim) → does_wait earlier (plea_again s w) t c ≡ false → is_held_up earlier t w c ≡ false
unfolding plea_again
not_up earlier s t w c clear = by (is_in_line earlier t c) (is_stopped earlier t c) w.blocking (all_run t.claims c) clear where
  by : (x y z r : Bool) → (x && (if y then z else true)) ≡ false → (x && (if y then z else r)) ≡ false
  by true true z r e = e
  by true false z r e = absurd (both_ways true e refl)
  by false y z r e = e

-- a break that begins leaves what a waiter pleads, and the name that is to be recorded
begun_pleads : (c : Claim) (s : CoreState) (w : Waiter) → plea_again (breaks_begun c s).1 w ≡ plea_again s w
unfolding plea_again breaks_begun
begun_pleads c s w = refl

begun_waits : (c : Claim) (s : CoreState) (w : Waiter) → name_waiting (breaks_begun c s).1 w ≡ name_waiting s w
unfolding breaks_begun
begun_waits c s w = refl

pub again_pleads : (earlier : List Waiter) (s : CoreState) (w : Waiter) → plea_again s w ≡ plea_again (way_again earlier s w).1 w
again_pleads earlier s w = sym (way_keeps (λ t. plea_again t w) earlier (plea_again s w) w.asked s (λ c. begun_pleads c s w))

pub again_waits : (earlier : List Waiter) (s : CoreState) (w : Waiter) → name_waiting s w ≡ name_waiting (way_again earlier s w).1 w
again_waits earlier s w = sym (way_keeps (λ t. name_waiting t w) earlier (plea_again s w) w.asked s (λ c. begun_waits c s w))

-- the state once all is granted, and once it is refused
got_state : (name : Option Recorded) (t : CoreState) (asked : List Claim) (ws : List Waiter) → (record (held_with asked (recorded name t)) { waiters = ws }) ≡ with_aside (aside_of (recorded name t)) (record t { claims = all_granted asked t.claims; waiters = ws })
unfolding held_with stored
got_state None t asked ws = refl
got_state (Some name) t asked ws = refl

got_waiters : (name : Option Recorded) (t : CoreState) (asked : List Claim) → (held_with asked (recorded name t)).waiters ≡ t.waiters
unfolding held_with stored
got_waiters None t asked = refl
got_waiters (Some name) t asked = refl

moved : (n : ℕ) (left : Rooms) (s : CoreState) (earlier : List Waiter) (w : Waiter) (c : Claim) (cs : List Claim) → is_some s.grace ≡ false → w.asked ≡ c ∷ cs → is_held_up earlier s w c ≡ false → (let r = again n left s earlier w in IsMoved n left earlier s w c cs (turned w r.0 r.1 r.2))
unfolding plea_again
moved n left s earlier w c cs calm asked free =
    subst (λ (ds : List Claim). let r = judged n earlier left p ds t in IsMoved n left earlier s w c cs (turned w r.0 (way.0 ++ r.1) r.2)) (sym asked)
    (elim (cases_Bool (does_wait earlier p t c)) [
      | inl waits ↦
          subst (λ (r : Ruled). IsMoved n left earlier s w c cs (turned w r.0 (way.0 ++ r.1) r.2)) (sym (waits_now n left s t earlier w c cs calm waits))
          (Rests (λ i. (append-nil way.0 i, t)) (waits_up earlier s w c cs calm asked free waits))
      | inr clear ↦
          by r.0 r.1 r.2 (judged_ruled n earlier left p (c ∷ cs) t)
          (subst (λ (nm : Option Recorded). IsEachBehind earlier left w.rows (bytes_with nm t.stable) (length s.names) (last_answer (may_record n t (to_record nm (c ∷ cs))) c) (c ∷ cs) t (answer_by r.0)) same_name
          (row_due earlier left p last (c ∷ cs) t (answer_by r.0) c cs refl refl clear (subst (λ (x : Ruled). tells last stop (answer_by x.0)) (sym (judged_row n earlier left p (c ∷ cs) t timely)) (tells_by stop)))) clear
    ])
  where
    p : Plea
    p = plea_again s w

    way : List Effect × CoreState
    way = way_again earlier s w

    t : CoreState
    t = way.1

    r : Ruled
    r = judged n earlier left p (c ∷ cs) t

    stop : Option Ruling
    stop = first_stop earlier left p (c ∷ cs) t

    name : Option Recorded
    name = name_waiting s w

    same_name : name ≡ name_waiting t w
    same_name = again_waits earlier s w

    timely : p.standing ≡ Timely
    timely = ap (λ (b : Bool). if b then Stays else Timely) calm

    last : Answer
    last = last_answer (may_record n t (to_record name (c ∷ cs))) c

    answer_by : Ruling → Answer
    answer_by Gets = answers.Granted c
    answer_by Waits = answers.NotHeld
    answer_by (Told answer) = answer

    ends_by : (b : Bool) → may_record n t (to_record name (c ∷ cs)) ≡ b → answer_by (ended n p (c ∷ cs) t).0 ≡ last_answer b c
    ends_by true e = ap (λ (x : Ruled). answer_by x.0) (ended_by n p (c ∷ cs) t true e)
    ends_by false e = ap (λ (x : Ruled). answer_by x.0) (ended_by n p (c ∷ cs) t false e)

    tells_by : (o : Option Ruling) → tells last o (answer_by (followed o [] t (ended n p (c ∷ cs))).0)
    tells_by None = ends_by (may_record n t (to_record name (c ∷ cs))) refl
    tells_by (Some Gets) = tt
    tells_by (Some Waits) = tt
    tells_by (Some (Told answer)) = refl

    same_claim : (x y : Claim) → answers.Granted x ≡ answers.Granted y → y ≡ x
    same_claim x y e = cc

    behind : (told : List Effect) (answer : Answer) → told ≡ [] → (way.0 ++ told) ++ Served w.party w.id answer ∷ [] ≡ way.0 ++ Served w.party w.id answer ∷ []
    behind told answer none = ap (λ (xs : List Effect). (way.0 ++ xs) ++ Served w.party w.id answer ∷ []) none ∙ ap (λ (xs : List Effect). xs ++ Served w.party w.id answer ∷ []) (append-nil way.0)

    got : (u : CoreState) → u ≡ held_with (c ∷ cs) (recorded (to_record name (c ∷ cs)) t) → (record u { waiters = cancelled w.id u.waiters }) ≡ once_answered t w (c ∷ cs) (answers.Granted c)
    got u is =
        ap (λ (x : CoreState). record x { waiters = cancelled w.id x.waiters }) is
        ∙ ap (λ (ws : List Waiter). record (held_with (c ∷ cs) (recorded (to_record name (c ∷ cs)) t)) { waiters = cancelled w.id ws }) (got_waiters (to_record name (c ∷ cs)) t (c ∷ cs))
        ∙ got_state (to_record name (c ∷ cs)) t (c ∷ cs) (cancelled w.id t.waiters)
        ∙ ap (λ (nm : Option Recorded). with_aside (aside_of (recorded (to_record nm (c ∷ cs)) t)) (record t { claims = all_granted (c ∷ cs) t.claims; waiters = cancelled w.id t.waiters })) same_name

    refused_so : (answer : Answer) (u : CoreState) → is_refusal answer ≡ true → u ≡ record_left (to_record name (c ∷ cs)) answer t → (record u { waiters = cancelled w.id u.waiters }) ≡ once_answered t w (c ∷ cs) answer
    refused_so answer u refused is =
        ap (λ (x : CoreState). record x { waiters = cancelled w.id x.waiters }) (is ∙ left_aside (to_record name (c ∷ cs)) answer t)
        ∙ ap (λ (held : List Claim). with_aside (aside_of (record_left (to_record name (c ∷ cs)) answer t)) (record t { claims = held; waiters = cancelled w.id t.waiters })) (sym (refused_once (c ∷ cs) answer t.claims refused))
        ∙ ap (λ (nm : Option Recorded). with_aside (aside_of (record_left (to_record nm (c ∷ cs)) answer t)) (record t { claims = held_once (c ∷ cs) answer t.claims; waiters = cancelled w.id t.waiters })) same_name

    by : (ruling : Ruling) (told : List Effect) (u : CoreState) → IsRuled n earlier left p (c ∷ cs) t ruling told u
        → IsEachBehind earlier left w.rows (bytes_with (name_waiting t w) t.stable) (length s.names) (told_last n t w (c ∷ cs) c) (c ∷ cs) t (answer_by ruling) → does_wait earlier p t c ≡ false → IsMoved n left earlier s w c cs (turned w ruling (way.0 ++ told) u)
    by Gets told u is due clear = Answers (answers.Granted c)
        (behind told (all_of w.asked) is.0 ∙ ap (λ (ds : List Claim). way.0 ++ Served w.party w.id (all_of ds) ∷ []) asked)
        (ap (λ (ds : List Claim). wish_for w.wish (all_of ds) (record u { waiters = cancelled w.id u.waiters })) asked ∙ ap (wish_for w.wish (answers.Granted c)) (got u is.1))
        due
        (λ d e. (same_claim c d e, is.4))
        (not_up earlier s t w c clear)
    by Waits told u is due clear =
        elim is.3 [
          | inl stays ↦ let two : Stays ≡ Timely = sym stays ∙ timely in absurd cc
          | inr waits ↦ absurd (both_ways (does_wait earlier p t c) clear waits.1)
        ]
    by (Told answer) told u is due clear = Answers answer
        (behind told answer is.0)
        (refused_so answer u is.2 is.1 ∙ sym (refused_wish w.wish answer (once_answered t w (c ∷ cs) answer) is.2))
        due
        (λ d e. absurd (both_ways (is_refusal answer) (ap is_refusal e) is.2))
        (not_up earlier s t w c clear)

-- the first waiter that has a turn
pub record IsFirst (n : ℕ) (left : Rooms) (s : CoreState) (earlier ws : List Waiter) (turn : Turned) : Type 0 where
  pub before : List Waiter
  pub waiter : Waiter
  pub behind : List Waiter
  pub claim : Claim
  pub claims : List Claim
  pub stood : ws ≡ before ++ waiter ∷ behind
  pub blocked : AllBehind (IsUp s) earlier before
  pub is : IsWaiter s.names s.counter waiter
  pub asked : waiter.asked ≡ claim ∷ claims
  pub calm : is_some s.grace ≡ false
  pub free : is_held_up (earlier ++ before) s waiter claim ≡ false
  pub moved : IsMoved n left (earlier ++ before) s waiter claim claims turn

same_turn : (a b : Turned) → Some a ≡ Some b → a ≡ b
same_turn a b e = cc

pub first_is : (n : ℕ) (left : Rooms) (s : CoreState) (earlier ws : List Waiter) (turn : Turned) → AllByRecursion (IsWaiter s.names s.counter) ws → first_turn n left s earlier ws ≡ Some turn → IsFirst n left s earlier ws turn
first_is n left s earlier [] turn all e = absurd cc
first_is n left s earlier (w ∷ ws) turn all e =
    let r = again n left s earlier w in
    let later = first_turn n left s (earlier ++ w ∷ []) ws in
    let one = pled w.asked all.0.2 in
    elim (cases_Bool (holds_up earlier s w w.asked)) [
      | inl up ↦
          let rest = up_rests n left s earlier w up in
          let found = first_is n left s (earlier ++ w ∷ []) ws turn all.1 (sym (ap (λ (x : Ruled). turn_or w x later) rest) ∙ e) in
          record {
            before = w ∷ found.before;
            waiter = found.waiter;
            behind = found.behind;
            claim = found.claim;
            claims = found.claims;
            stood = ap (λ (vs : List Waiter). w ∷ vs) found.stood;
            blocked = (up, found.blocked);
            is = found.is;
            asked = found.asked;
            calm = found.calm;
            free = subst (λ (before : List Waiter). is_held_up before s found.waiter found.claim ≡ false) (append_assoc earlier (w ∷ []) found.before) found.free;
            moved = subst (λ (before : List Waiter). IsMoved n left before s found.waiter found.claim found.claims turn) (append_assoc earlier (w ∷ []) found.before) found.moved;
          }
      | inr clear ↦
          let parts = or_parts (is_some s.grace) (of_first (λ c. is_held_up earlier s w c) w.asked) clear in
          let free : is_held_up earlier s w one.0 ≡ false = sym (ap (of_first (λ c. is_held_up earlier s w c)) one.2) ∙ parts.1 in
          record {
            before = [];
            waiter = w;
            behind = ws;
            claim = one.0;
            claims = one.1;
            stood = refl;
            blocked = tt;
            is = all.0;
            asked = one.2;
            calm = parts.0;
            free = subst (λ (before : List Waiter). is_held_up before s w one.0 ≡ false) (sym (append-nil earlier)) free;
            moved = subst (λ (before : List Waiter). IsMoved n left before s w one.0 one.1 turn) (sym (append-nil earlier)) (subst (IsMoved n left earlier s w one.0 one.1) (same_turn (turned w r.0 r.1 r.2) turn (sym (move_first w r later (free_moves n left s earlier w clear)) ∙ e)) (moved n left s earlier w one.0 one.1 parts.0 one.2 free));
          }
    ]
  where
    -- there is a first claim
    pled : (asked : List Claim) → IsPled asked → (c : Claim) × (cs : List Claim) × (asked ≡ c ∷ cs)
    pled [] none = absurd none
    pled (c ∷ cs) some = (c, cs, refl)

pub cancelled_all : (P : Waiter → Type 0) (id : ℕ) (ws : List Waiter) → AllByRecursion P ws → AllByRecursion P (cancelled id ws)
cancelled_all P id [] all = tt
cancelled_all P id (w ∷ ws) all =
    elim (cases_Bool (w.id == id)) [
      | inl here ↦ rw here all.1
      | inr other ↦ rw other (all.0, cancelled_all P id ws all.1)
    ]

cancelled_pairwise : (test : Waiter → Waiter → Bool) (id : ℕ) (ws : List Waiter) → Pairwise test ws → Pairwise test (cancelled id ws)
cancelled_pairwise test id [] all = tt
cancelled_pairwise test id (w ∷ ws) all =
    elim (cases_Bool (w.id == id)) [
      | inl here ↦ rw here all.1
      | inr other ↦ rw other (cancelled_all (λ v. test w v ≡ true) id ws all.0, cancelled_pairwise test id ws all.1)
    ]

pub fewer_cancelled : (id : ℕ) (ws : List Waiter) → length (cancelled id ws) ≤ length ws
fewer_cancelled id [] = omega arith
fewer_cancelled id (w ∷ ws) = elim (cases_Bool (w.id == id)) [ inl e ↦ rw e (omega arith) | inr e ↦ rw e (omega (arith, fewer_cancelled id ws)) ]

fewer_crowd : (id : ℕ) (ws : List Waiter) → length ws ≤ most_waiters → length (cancelled id ws) ≤ most_waiters
fewer_crowd id ws crowd = omega (arith, fewer_cancelled id ws, crowd)

once_good : (left : Rooms) (s : CoreState) (w : Waiter) (asked : List Claim) (answer : Answer) → IsGood s → AllByRecursion (IsKnown s.names) asked → ((d : Claim) → answer ≡ answers.Granted d → AllPass left (plea_again s w) s.claims asked) → AreGood s.names (held_once asked answer s.claims)
once_good left s w asked (answers.Granted c) good known pass = all_granted_good left (plea_again s w) s.names asked s.claims good.distinct (good_claims s good) known (pass c refl)
once_good left s w asked (answers.Queued number) good known pass = good_claims s good
once_good left s w asked (answers.Conflict c) good known pass = good_claims s good
once_good left s w asked (answers.Recall c) good known pass = good_claims s good
once_good left s w asked (answers.Grace until) good known pass = good_claims s good
once_good left s w asked (answers.NoGrace clock) good known pass = good_claims s good
once_good left s w asked answers.NotRecorded good known pass = good_claims s good
once_good left s w asked (answers.Full limit) good known pass = good_claims s good
once_good left s w asked answers.NotHeld good known pass = good_claims s good
once_good left s w asked answers.StoreFailed good known pass = good_claims s good

-- who is free is held up by nothing
pub clear_up : (earlier : List Waiter) (s : CoreState) (w : Waiter) (c : Claim) (cs : List Claim) → is_some s.grace ≡ false → w.asked ≡ c ∷ cs → is_held_up earlier s w c ≡ false → holds_up earlier s w w.asked ≡ false
clear_up earlier s w c cs calm asked free = (λ i. calm i || of_first (λ d. is_held_up earlier s w d) (asked i)) ∙ free

-- what a wish gets goes by what is held and who waits, and by whether grace runs
pub kind_once : (wanted : CacheWish) (answer : Answer) (t : CoreState) (w : Waiter) → wished_kind wanted (once_served t w.id answer) ≡ wished_kind wanted (once_answered t w (asked_by w.id t.waiters) answer)
unfolding wished_kind
kind_once wanted answer t w =
    let u = once_answered t w (asked_by w.id t.waiters) answer in
    ap (λ (g : Option Running). if not (is_some g) && waits_on wanted.file u.waiters then None else if has_room (find (is_its_cache wanted) u.claims) u.claims then granted_kind wanted u.claims else None) (sym (left_grace (to_record (name_waiting t w) (asked_by w.id t.waiters)) answer t))

-- a waiter wishes for what its party may have
waiter_may : (names : List Name) (counter : ℕ) (w : Waiter) (c : Claim) (cs : List Claim) → w.asked ≡ c ∷ cs → IsWaiter names counter w → AllByRecursion (λ kind. is_kind_of c.party kind ≡ true) w.wish × (are_kept names c.owner c.party ≡ true)
waiter_may names counter w c cs asked is = (kinds w.wish (subst (λ (ds : List Claim). IsWished w.wish ds) asked is.3), (subst (λ (ds : List Claim). AllByRecursion (IsKnown names) ds) asked is.1).0.1) where
  kinds : (ks : List CacheKind) → AllByRecursion (λ kind. (is_kind_of c.party kind ≡ true) × (is_share c.what ≡ true) × (is_delegation kind ≡ false)) ks → AllByRecursion (λ kind. is_kind_of c.party kind ≡ true) ks
  kinds [] all = tt
  kinds (k ∷ ks) all = (all.0.0, kinds ks all.1)

-- one who is served is so in a good state, in which it may wish
pub served_good : (n : ℕ) (left : Rooms) (s : CoreState) (turn : Turned) (first : IsFirst n left s [] s.waiters turn) → IsGood s → (answer : Answer) → ((d : Claim) → answer ≡ answers.Granted d → (d ≡ first.claim) × AllPass left (plea_again s first.waiter) (way_again first.before s first.waiter).1.claims (first.claim ∷ first.claims))
    → (let u = once_answered (way_again first.before s first.waiter).1 first.waiter (first.claim ∷ first.claims) answer in IsGood u × MayWish u first.waiter.wish answer)
served_good n left s turn first good answer pass = (
  good_from (once_answered t w (first.claim ∷ first.claims) answer)
      (once_good left t w (first.claim ∷ first.claims) answer sound known (λ d e. subst (λ (p : Plea). AllPass left p t.claims (first.claim ∷ first.claims)) (again_pleads first.before s w) (pass d e).1)) sound.distinct sound.few
      (cancelled_all (IsWaiter t.names t.counter) w.id t.waiters sound.waiters) (cancelled_pairwise are_apart w.id t.waiters sound.apart) (fewer_crowd w.id t.waiters sound.crowd),
  λ d e. subst (λ (c : Claim). AllByRecursion (λ kind. is_kind_of c.party kind ≡ true) w.wish × (are_kept t.names c.owner c.party ≡ true)) (sym (pass d e).0)
      (subst (λ (names : List Name). AllByRecursion (λ kind. is_kind_of first.claim.party kind ≡ true) w.wish × (are_kept names first.claim.owner first.claim.party ≡ true)) (sym same) (waiter_may s.names s.counter w first.claim first.claims first.asked first.is)),
) where
  w : Waiter
  w = first.waiter

  t : CoreState
  t = (way_again first.before s w).1

  sound : IsGood t
  sound = way_good first.before (plea_again s w) w.asked s good (known_no_cache s.names w.asked first.is.1)

  same : t.names ≡ s.names
  same = way_names first.before (plea_again s w) w.asked s

  known : AllByRecursion (IsKnown t.names) (first.claim ∷ first.claims)
  known = subst (λ (names : List Name). AllByRecursion (IsKnown names) (first.claim ∷ first.claims)) (sym same) (subst (λ (cs : List Claim). AllByRecursion (IsKnown s.names) cs) first.asked first.is.1)

turn_good : (n : ℕ) (left : Rooms) (s : CoreState) (turn : Turned) (first : IsFirst n left s [] s.waiters turn) → IsGood s → IsGood turn.1
turn_good n left s turn first good = by first.moved where
  by : IsMoved n left first.before s first.waiter first.claim first.claims turn → IsGood turn.1
  by (Answers answer told new due pass clear) =
      let is = served_good n left s turn first good answer pass in
      subst IsGood (sym new) (wish_for_good first.waiter.wish answer (once_answered (way_again first.before s first.waiter).1 first.waiter (first.claim ∷ first.claims) answer) is.0 is.1)
  by (Rests e up) = subst (λ (x : Turned). IsGood x.1) (sym e) (way_good first.before (plea_again s first.waiter) first.waiter.asked s good (known_no_cache s.names first.waiter.asked first.is.1))

pub each_turn : (n : ℕ) (left : Rooms) (s : CoreState) (P : Turned → Type 0) → IsGood s → ((turn : Turned) → IsFirst n left s [] s.waiters turn → P turn) → IfSome (settle n left s) P
unfolding settle
each_turn n left s P good holds = by (first_turn n left s [] s.waiters) refl where
  by : (o : Option Turned) → first_turn n left s [] s.waiters ≡ o → IfSome o P
  by None e = tt
  by (Some turn) e = holds turn (first_is n left s [] s.waiters turn good.waiters e)

-- each turn leaves the state good
pub settle_good : (n : ℕ) (left : Rooms) (s : CoreState) → IsGood s → IfSome (settle n left s) (λ r. IsGood r.1)
settle_good n left s good =
    each_turn n left s (λ r. IsGood r.1) good
    (λ turn first. turn_good n left s turn first good)

-- ---- who leaves

pub cancel_good : (s : CoreState) (id : ℕ) → IsGood s → IsGood (cancel s id).1
unfolding cancel
cancel_good s id good =
    good_from (record s { waiters = cancelled id s.waiters }) (good_claims s good) good.distinct good.few
    (cancelled_all (IsWaiter s.names s.counter) id s.waiters good.waiters) (cancelled_pairwise are_apart id s.waiters good.apart) (fewer_crowd id s.waiters good.crowd)

pub give_back_good : (s : CoreState) (claim : Claim) → IsGood s → IsGood (give_back s claim).1
unfolding give_back
give_back_good s claim good = without_good s claim good

pub fewer_filtered : (keep : Waiter → Bool) (ws : List Waiter) → length (filter keep ws) ≤ length ws
fewer_filtered keep [] = omega arith
fewer_filtered keep (w ∷ ws) = elim (cases_Bool (keep w)) [ inl e ↦ rw e (omega (arith, fewer_filtered keep ws)) | inr e ↦ rw e (omega (arith, fewer_filtered keep ws)) ]

pub departed_good : (s : CoreState) (leaver : Leaver) → IsGood s → IsGood (departed s leaver).1
departed_good s leaver good =
    let stays : Claim → Bool = λ c. not (goes leaver c) in
    let waits : Waiter → Bool = λ w. not (waits_with leaver w) in
    good_from (record s { claims = filter stays s.claims; waiters = filter waits s.waiters })
    (record {
      kept = kept_filter stays s.claims good.kept;
      compatible = pairwise_filter compat stays s.claims good.compatible;
      single = pairwise_filter is_single stays s.claims good.single;
      known = all_from (IsHeld s.names) (filter stays s.claims) (λ c h. all_in (IsHeld s.names) c s.claims good.known (in_filter_from stays c s.claims h).0);
    })
    good.distinct good.few
    (all_from (IsWaiter s.names s.counter) (filter waits s.waiters) (λ w h. all_in (IsWaiter s.names s.counter) w s.waiters good.waiters (in_filter_from waits w s.waiters h).0))
    (pairwise_filter are_apart waits s.waiters good.apart) (omega (arith, fewer_filtered waits s.waiters, good.crowd))

pub end_party_good : (s : CoreState) (party : Party) → IsGood s → IsGood (end_party s party).1
unfolding end_party
end_party_good s party good = departed_good s (leavers.Party party) good

pub close_open_good : (s : CoreState) (number : ℕ) (party : Option Party) → IsGood s → IsGood (close_open s number party).1
unfolding close_open
close_open_good s number party good = departed_good s (leavers.Open number party) good

-- ---- the clock

ended_good : (s : CoreState) (client : List ℕ) (party : Option Party) → IsGood s → IsGood (unleased client (end_some s party)).1
ended_good s client None good = leased_good s (without_lease client s.leases) good
ended_good s client (Some party) good = leased_good (end_party s party).1 (without_lease client (end_party s party).1.leases) (end_party_good s party good)

pub expire_good : (s : CoreState) (client : List ℕ) → IsGood s → IsGood (expire s client).1
expire_good s client good = of_expire (λ (r : List Effect × CoreState). IsGood r.1) s client (λ x. ended_good (with_aside x s) client (party_named s.names (NfsParty client)) (aside_good x s good))

pub store_failed_good : (stable : Stable) (s : CoreState) → IsGood s → IsGood (store_failed stable s)
store_failed_good stable s good = of_aside IsGood s (store_failed stable s) (failed_aside stable s) (λ x. aside_good x s good)

pub end_grace_good : (s : CoreState) → IsGood s → IsGood (end_grace s)
end_grace_good s good = of_aside IsGood s (end_grace s) (grace_aside s) (λ x. aside_good x s good)

pub try_expire_good : (n : ℕ) (s : CoreState) (client : List ℕ) → IsGood s → IsGood (try_expire n s client).1
unfolding try_expire
try_expire_good n s client good =
    elim (cases_Bool (may_expire n s client)) [ inl may ↦ rw may (expire_good s client good) | inr none ↦ rw none (store_failed_good (without_name (client_name client) s.stable) s good) ]

lapsed_by_good : (s : CoreState) (cache : Claim) (client : Option (List ℕ)) → IsGood s → IsGood (lapsed_by s cache client).1
lapsed_by_good s cache None good = without_good s cache good
lapsed_by_good s cache (Some client) good = expire_good s client good

pub lapse_good : (s : CoreState) (cache : Claim) → IsGood s → IsGood (lapse s cache).1
unfolding lapse
lapse_good s cache good = lapsed_by_good s cache (client_of s.names cache.party) good

try_lapsed_good : (n : ℕ) (s : CoreState) (cache : Claim) (client : Option (List ℕ)) → IsGood s → IsGood (try_lapsed_by n s cache client).1
try_lapsed_good n s cache None good = without_good s cache good
try_lapsed_good n s cache (Some client) good = try_expire_good n s client good

pub try_lapse_good : (n : ℕ) (s : CoreState) (cache : Claim) → IsGood s → IsGood (try_lapse n s cache).1
unfolding try_lapse
try_lapse_good n s cache good = try_lapsed_good n s cache (client_of s.names cache.party) good

pub lapse_all_good : (n : ℕ) (s : CoreState) → IsGood s → IsGood (lapse_all n s).1
unfolding lapse_all
lapse_all_good n s good = in_turn_keeps is_still_held (try_lapse n) IsGood (try_lapse_good n) (due s) s good

pub expire_all_good : (n : ℕ) (s : CoreState) → IsGood s → IsGood (expire_all n s).1
unfolding expire_all
expire_all_good n s good = in_turn_keeps is_lease_over (try_expire n) IsGood (try_expire_good n) (ended_leases s.clock s.leases) s good

pub tick_good : (n : ℕ) (s : CoreState) (now : Moment) → IsGood s → IsGood (tick n s now).1
unfolding tick
tick_good n s now good =
    let u = (expire_all n (lapse_all n (advanced s now)).1).1 in
    of_end n IsGood u (λ x. aside_good x u (expire_all_good n (lapse_all n (advanced s now)).1 (lapse_all_good n (advanced s now) (advanced_good s now good))))
