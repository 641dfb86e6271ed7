-- What an ask is answered and leaves: that of the judgement at the state that its way left.
use Rattle.std.proofs.Common.{◌≡◌, ℕ, ◌+◌, ◌≤◌, Bool, true, false, ◌&&◌, if◌then◌else◌, inl, inr, List, [], ◌∷◌, ◌++◌, Some, None, refl, sym, ap, subst, ◌∙◌, ◌↔◌, arith, Option}
use Rattle.xl_core.specs.declared.standings.Standing.{Standing}
use Rattle.xl_grace.specs.Grace.{reclaimed}
use Rattle.xl_base.specs.declared.stable.Recorded.{Recorded}
use Rattle.xl_base.specs.Stable.{Stable}
use Rattle.xl_base.specs.RecordFile.{with_name}
use Rattle.xl_core.specs.Stores.{may_record, recorded, unstored, stored, store_failed}
use Rattle.xl_core.specs.Standings.{recorded_as, standing, stands, stands_alone, refusal, enters}
use Rattle.std.proofs.lemmas.Bool.{cases_Bool, both_ways, and_right}
use Rattle.std.specs.List.{filter, slice_get}
use Rattle.xl_base.specs.Lists.{IsIn}
use Rattle.xl_base.specs.declared.name.Owner.{Owner}
use Rattle.xl_matrix.specs.declared.claim.CacheKind.{CacheKind}
use Rattle.xl_matrix.specs.declared.claim.Claim.{Claim}
use Rattle.xl_matrix.specs.declared.claim.Extent.{Extent}
use Rattle.xl_matrix.specs.declared.claim.Extent.TheVariants.{Bytes}
use Rattle.xl_matrix.specs.declared.claim.Rwd.{Rwd}
use Rattle.xl_matrix.specs.declared.claim.What.{What}
use Rattle.xl_names.specs.declared.name.Name.{Name}
use Rattle.xl_spans.specs.Spans.{relocked}
use Rattle.xl_table.specs.Flat.{blocks, is_blocked}
use Rattle.xl_base.specs.declared.event.Moment.{Moment}
use Rattle.xl_matrix.specs.declared.claim.What.TheVariants.{Share, Range, Cache}
use Rattle.xl_table.specs.Held.{spans_of, mode_of, is_share, is_range, is_cache, is_of}
use Rattle.xl_table.specs.Least.{least}
use Rattle.xl_table.specs.Relock.{shares_of, old_shares, is_share_of, with_share, united_by, unites}
use Rattle.xl_wait.specs.declared.waiter.Rooms.{Rooms}
use Rattle.xl_wait.specs.declared.waiter.Waiter.{Waiter}
use Rattle.xl_core.specs.State.{CoreState, aside_of}
use Rattle.xl_core.specs.Askers.{alone, asker, asking_party, asked_whats, asked_what, asked_claim, asked_claims, known_claim, is_client, is_named}
use Rattle.xl_core.specs.BreaksBegun.{with_break, once_broken, breaks_begun}
use Rattle.xl_core.specs.Frames.{calls_in, drawn_by}
use Rattle.xl_core.specs.Leases.{moment_after}
use Rattle.xl_cache.specs.BreakPlans.{is_running}
use Rattle.xl_core.specs.Blockers.{is_stopped, range_ahead, all_run, test_blockers}
use Rattle.xl_core.proofs.LineLaws.{begun_line}
use Rattle.xl_core.specs.Causes.{IsWishDue, IsSameAsker, IsConflict, IsClaimDue, IsTestDue, IsUnlockDue, IsOwn, limits_of_grant, IsFree, wanted, asks_claims, name_asked, noted_by}
use Rattle.xl_core.specs.Decide.{Answered, test_answered, tested, plea_of, waiter_of, decided, way, before_wish, does_wish, wish_after, with_wish, ask, tested_by}
use Rattle.xl_core.specs.Wishes.{wish_granted, wish_of, wish_for}
use Rattle.xl_core.proofs.AskWishLaws.{ungranted_wish, after_keeps, after_claims, ungranted_after, empty_after, wish_beside_at}
use Rattle.xl_core.proofs.WishLaws.{wish_spans, wish_shares}
use Rattle.xl_core.specs.Good.{IsGood, caches_of, caches_beside}
use Rattle.xl_core.specs.Limits.{IsRoom}
use Rattle.xl_core.specs.Ways.{made_way}
use Rattle.xl_core.specs.declared.ask.Act.TheVariants as acts
use Rattle.xl_core.specs.declared.ask.Answer.{Answer}
use Rattle.xl_core.specs.declared.ask.Answer.TheVariants as answers
use Rattle.xl_core.specs.declared.ask.Ask.{Ask}
use Rattle.xl_core.specs.declared.ask.Effect.{Effect}
use Rattle.xl_core.proofs.BreaksBegunLaws.{broken_cache, broken_is_cache, filter_broken, begun_spans}
use Rattle.xl_core.proofs.CauseLaws.{wish_due, lock_due, lock_free, test_is, test_due, unlock_due, test_leaves}
use Rattle.xl_core.proofs.ChangeLaws.{decided_own, decided_held, decided_shares, decided_shared, decided_left, decided_waits}
use Rattle.xl_core.proofs.FrameLaws.{ask_frame}
use Rattle.xl_core.proofs.GoodLaws.{asked_way_good, decided_grants}
use Rattle.xl_core.proofs.TestLaws.{test_foretells}
use Rattle.xl_core.proofs.DecideLaws.{cache_runs}
use Rattle.xl_core.proofs.WayLaws.{way_keeps, way_names, way_waiters, way_free, way_stopped, way_runs_at_once}

-- the way that is made for an ask leaves what no break changes
pub ask_way_keeps : {A : Type 0} (f : CoreState → A) (left : Rooms) (s : CoreState) (a : Ask) → ((c : Claim) → f (breaks_begun c s).1 ≡ f s) → f (way left s a).1 ≡ f s
ask_way_keeps f left s a keeps = way_keeps f s.waiters (plea_of left s a) (asked_claims a (asked_whats a.act) s.names) s keeps

pub ask_way_names : (left : Rooms) (s : CoreState) (a : Ask) → (way left s a).1.names ≡ s.names
ask_way_names left s a = way_names s.waiters (plea_of left s a) (asked_claims a (asked_whats a.act) s.names) s

pub ask_way_waiters : (left : Rooms) (s : CoreState) (a : Ask) → (way left s a).1.waiters ≡ s.waiters
ask_way_waiters left s a = way_waiters s.waiters (plea_of left s a) (asked_claims a (asked_whats a.act) s.names) s

-- and so how it stands to grace
begun_stands : (c : Claim) (s : CoreState) (a : Ask) → stands (breaks_begun c s).1 a ≡ stands s a
unfolding breaks_begun standing
begun_stands c s a = refl

pub ask_way_stands : (left : Rooms) (s : CoreState) (a : Ask) → stands (way left s a).1 a ≡ stands s a
ask_way_stands left s a = ask_way_keeps (λ t. stands t a) left s a (λ c. begun_stands c s a)

begun_noted : (c : Claim) (s : CoreState) (a : Ask) (answer : Answer) → aside_of (noted_by (breaks_begun c s).1 a answer) ≡ aside_of (noted_by s a answer)
unfolding breaks_begun stored store_failed
begun_noted c s a (answers.Granted d) = by (name_asked s a) (asks_claims a.act) a.reclaim where
  t : CoreState
  t = (breaks_begun c s).1

  back : Bool → CoreState → CoreState
  back b u = if b then record u { grace = reclaimed (recorded_as a.party) u.grace } else u

  by : (name : Option Recorded) (asks reclaims : Bool) → aside_of (if asks then back reclaims (recorded name t) else recorded name t) ≡ aside_of (if asks then back reclaims (recorded name s) else recorded name s)
  by None true true = refl
  by None true false = refl
  by None false reclaims = refl
  by (Some name) true true = refl
  by (Some name) true false = refl
  by (Some name) false reclaims = refl
begun_noted c s a answers.StoreFailed = by (name_asked s a) where
  t : CoreState
  t = (breaks_begun c s).1

  failed : (stable : Stable) (b : Bool) → s.failed ≡ b → aside_of (store_failed stable t) ≡ aside_of (store_failed stable s)
  failed stable true e = rw e refl
  failed stable false e = rw e refl

  by : (name : Option Recorded) → aside_of (unstored name t) ≡ aside_of (unstored name s)
  by None = refl
  by (Some name) = failed (with_name name s.stable) s.failed refl
begun_noted c s a (answers.Conflict d) = refl
begun_noted c s a (answers.Queued number) = refl
begun_noted c s a (answers.Recall d) = refl
begun_noted c s a (answers.Grace until) = refl
begun_noted c s a (answers.NoGrace clock) = refl
begun_noted c s a answers.NotRecorded = refl
begun_noted c s a (answers.Full limit) = refl
begun_noted c s a answers.NotHeld = refl

pub ask_way_noted : (left : Rooms) (s : CoreState) (a : Ask) (answer : Answer) → aside_of (noted_by (way left s a).1 a answer) ≡ aside_of (noted_by s a answer)
ask_way_noted left s a answer = ask_way_keeps (λ t. aside_of (noted_by t a answer)) left s a (λ c. begun_noted c s a answer)

-- what is asked for one thing is a list of one
one_asked : (a : Ask) (what : What) (names : List Name) (whats : List What) → alone whats ≡ Some what → asked_claims a whats names ≡ asked_claim a what names ∷ []
one_asked a what names [] e = absurd cc
one_asked a what names (w ∷ []) e = λ i. asked_claim a (same w what e i) names ∷ [] where
  same : (x y : What) → Some x ≡ Some y → x ≡ y
  same x y k = cc
one_asked a what names (w ∷ v ∷ ws) e = absurd cc

-- where nothing blocks it nothing begins, nor where nothing is to be held
pub ask_way_free : (left : Rooms) (s : CoreState) (a : Ask) (what : What) → asked_what a.act ≡ Some what → is_blocked s.claims (asked_claim a what s.names) ≡ false → way left s a ≡ ([], s)
ask_way_free left s a what act free =
    ap (λ (cs : List Claim). made_way s.waiters (plea_of left s a) cs s) (one_asked a what s.names (asked_whats a.act) act) ∙ way_free s.waiters (plea_of left s a) (asked_claim a what s.names) [] s free

pub ask_way_none : (left : Rooms) (s : CoreState) (a : Ask) → asked_whats a.act ≡ [] → way left s a ≡ ([], s)
unfolding made_way
ask_way_none left s a none = ap (λ (ws : List What). made_way s.waiters (plea_of left s a) (asked_claims a ws s.names) s) none

-- ---- why it is answered so

pub ask_due : (n : ℕ) (left : Rooms) (s : CoreState) (a : Ask) (what : What) (answer : Answer) → asked_what a.act ≡ Some what → ((ask n left s a).0 ≡ answer) ↔ IsClaimDue n left (way left s a).1 a (asked_claim a what s.names) answer
unfolding ask before_wish
ask_due n left s a what answer act =
    subst (λ (names : List Name). ((decided n left (way left s a).1 a).0 ≡ answer) ↔ IsClaimDue n left (way left s a).1 a (asked_claim a what names) answer) (ask_way_names left s a) (lock_due n left (way left s a).1 a what answer act)

-- a cache that is told of is one whose break runs
pub ask_recalls : (n : ℕ) (left : Rooms) (s : CoreState) (a : Ask) (what : What) (c : Claim) → asked_what a.act ≡ Some what → (ask n left s a).0 ≡ answers.Recall c → is_running c.what ≡ true
unfolding plea_of
ask_recalls n left s a what c act at = cache_runs t.claims claim c (runs (is_stopped s.waiters s claim) refl) due.3 where
  claim : Claim
  claim = asked_claim a what s.names

  t : CoreState
  t = (way left s a).1

  due : IsClaimDue n left t a claim (answers.Recall c)
  due = (ask_due n left s a what (answers.Recall c) act).0 at

  made : way left s a ≡ made_way s.waiters (plea_of left s a) (claim ∷ []) s
  made = ap (λ (cs : List Claim). made_way s.waiters (plea_of left s a) cs s) (one_asked a what s.names (asked_whats a.act) act)

  runs : (b : Bool) → is_stopped s.waiters s claim ≡ b → all_run t.claims claim ≡ true
  runs true stops =
      let stays : t ≡ s = ap (λ (w : List Effect × CoreState). w.1) (made ∙ way_stopped s.waiters (plea_of left s a) claim [] s stops) in
      absurd (both_ways (is_stopped t.waiters t claim) due.2 (subst (λ (x : CoreState). is_stopped x.waiters x claim ≡ true) (sym stays) stops))
  runs false moves = ap (λ (w : List Effect × CoreState). all_run w.1.claims claim) made ∙ way_runs_at_once s.waiters (plea_of left s a) claim [] s (sym (ask_way_stands left s a) ∙ due.0) due.1 moves

-- an ask for which no way is made is judged where it is
pub ask_there : (n : ℕ) (left : Rooms) (s : CoreState) (a : Ask) → way left s a ≡ ([], s) → ask n left s a ≡ with_wish a (decided n left s a)
unfolding ask before_wish
ask_there n left s a none = ap (λ (w : List Effect × CoreState). let r = decided n left w.1 a in with_wish a (r.0, w.0 ++ r.1, r.2)) none

-- a test and an unlock come with no wish
pub no_wish_after : (a : Ask) (answer : Answer) (s : CoreState) → does_wish a.act ≡ false → wish_after a answer s ≡ s
no_wish_after a answer s doesnt = ap (λ (b : Bool). if b then wish_for a.wish answer s else s) doesnt

pub ask_test : (n : ℕ) (left : Rooms) (s : CoreState) (a : Ask) (extent : Extent) (exclusive : Bool) (answer : Answer) → a.act ≡ acts.Test extent exclusive → ((ask n left s a).0 ≡ answer) ↔ IsTestDue s a (known_claim a extent exclusive s.names) answer
ask_test n left s a extent exclusive answer act =
    subst (λ (r : Answered). (r.0 ≡ answer) ↔ IsTestDue s a (known_claim a extent exclusive s.names) answer) (sym (ask_there n left s a (ask_way_none left s a (ap asked_whats act)))) (test_due n left s a extent exclusive answer act)

pub ask_unlock : (n : ℕ) (left : Rooms) (s : CoreState) (a : Ask) (first last : ℕ) (answer : Answer) → a.act ≡ acts.Unlock (Bytes first last) → is_client a.owner a.party ≡ true → is_named a.owner ≡ true → first ≤ last → IsGood s
    → ((ask n left s a).0 ≡ answer) ↔ IsUnlockDue s (known_claim a (Bytes first last) false s.names) first last answer
ask_unlock n left s a first last answer act client named ends good =
    subst (λ (r : Answered). (r.0 ≡ answer) ↔ IsUnlockDue s (known_claim a (Bytes first last) false s.names) first last answer) (sym (ask_there n left s a (ask_way_none left s a (ap asked_whats act)))) (unlock_due n left s a first last answer act client named ends good)

pub ask_wish : (n : ℕ) (left : Rooms) (s : CoreState) (a : Ask) (kind : CacheKind) (kinds : List CacheKind) (answer : Answer) → a.act ≡ acts.Wish → a.wish ≡ kind ∷ kinds → ((ask n left s a).0 ≡ answer) ↔ IsWishDue left s a a.wish answer
ask_wish n left s a kind kinds answer act some =
    subst (λ (r : Answered). (r.0 ≡ answer) ↔ IsWishDue left s a a.wish answer) (sym (ask_there n left s a (ask_way_none left s a (ap asked_whats act)))) (wish_due n left s a kind kinds answer act some)

-- what its wish leaves, by its own definition
pub ask_wishes : (n : ℕ) (left : Rooms) (s : CoreState) (a : Ask) (c : Claim) → does_wish a.act ≡ true → (ask n left s a).0 ≡ answers.Granted c → (ask n left s a).2 ≡ wish_granted (wish_of a.wish c) (before_wish n left s a).2
unfolding ask
ask_wishes n left s a c does at = (λ i. if does i then wish_for a.wish (at i) (before_wish n left s a).2 else (before_wish n left s a).2)

pub ask_unwished : (n : ℕ) (left : Rooms) (s : CoreState) (a : Ask) → ((c : Claim) → does_wish a.act ≡ true → (ask n left s a).0 ≡ answers.Granted c → ⊥) → (ask n left s a).2 ≡ (before_wish n left s a).2
unfolding ask
ask_unwished n left s a none = by (does_wish a.act) refl where
  r : Answered
  r = before_wish n left s a

  by : (b : Bool) → does_wish a.act ≡ b → (if b then wish_for a.wish r.0 r.2 else r.2) ≡ r.2
  by true does = ungranted_wish a.wish r.0 r.2 (λ c at. none c does at)
  by false doesnt = refl

pub ask_free : (n : ℕ) (left : Rooms) (s : CoreState) (a : Ask) (what : What) → asked_what a.act ≡ Some what → enters (stands s a) ≡ true → IsFree s a (asked_claim a what s.names)
    → IsRoom (limits_of_grant left s a (asked_claim a what s.names)) → may_record n s (wanted s a) ≡ true → (ask n left s a).0 ≡ answers.Granted (asked_claim a what s.names)
ask_free n left s a what act in_time free room may = ap (λ (r : Answered). r.0) (ask_there n left s a (ask_way_free left s a what act free.0)) ∙ lock_free n left s a what act in_time free room may

pub test_stands : (n : ℕ) (left : Rooms) (s : CoreState) (a : Ask) (extent : Extent) (exclusive : Bool) → a.act ≡ acts.Test extent exclusive → (ask n left s a).2 ≡ s
test_stands n left s a extent exclusive act = ap (λ (r : Answered). r.2) (ask_there n left s a (ask_way_none left s a (ap asked_whats act))) ∙ no_wish_after a (decided n left s a).0 (decided n left s a).2 (ap does_wish act) ∙ test_leaves n left s a extent exclusive act

-- ---- what it leaves

pub ask_own : (n : ℕ) (left : Rooms) (s : CoreState) (a : Ask) → IsGood s → is_client a.owner a.party ≡ true → IsOwn (way left s a).1 a (ask n left s a).0 (ask n left s a).2
unfolding ask before_wish
ask_own n left s a good client = record {
  claims = λ none. ap (λ (x : CoreState). x.claims) (ungranted_after a r.0 r.2 none) ∙ own.claims none;
  waiters = λ none. ap (λ (x : CoreState). x.waiters) (after_claims a r.0 r.2) ∙ own.waiters none;
  refused = λ none nobody. ungranted_after a r.0 r.2 none ∙ own.refused none nobody;
  noted = ap aside_of (after_claims a r.0 r.2) ∙ own.noted;
  spans = λ file owner apart. after_keeps (λ x. spans_of file owner x.claims) a r.0 r.2 (λ wanted. wish_spans wanted r.2 file owner) ∙ own.spans file owner apart;
  shares = λ file owner apart. after_keeps (λ x. shares_of file owner x.claims) a r.0 r.2 (λ wanted. wish_shares wanted r.2 file owner) ∙ own.shares file owner apart;
  caches = beside (does_wish a.act) refl ∙ own.caches;
  unwished = λ none. ap (λ (x : CoreState). caches_of x.claims) (empty_after a r.0 r.2 none) ∙ own.unwished none;
  stay = λ w h. subst (λ (ws : List Waiter). IsIn w ws) (sym (ap (λ (x : CoreState). x.waiters) (after_claims a r.0 r.2))) (own.stay w h);
  names = λ number name h. subst (λ (names : List Name). slice_get names number ≡ Some name) (sym (ap (λ (x : CoreState). x.names) (after_claims a r.0 r.2))) (own.names number name h);
} where
  t : CoreState
  t = (way left s a).1

  r : Answered
  r = decided n left t a

  own : IsOwn t a r.0 r.2
  own = decided_own n left t a (asked_way_good left s a good) client

  -- what is granted is of the asker's party, on its file
  beside : (b : Bool) → does_wish a.act ≡ b → caches_beside a.file (asking_party a t.names) (if b then wish_for a.wish r.0 r.2 else r.2).claims ≡ caches_beside a.file (asking_party a t.names) r.2.claims
  beside false doesnt = refl
  beside true does = granted r.0 (λ d e. let is = decided_grants n left t a d does e in (ap (λ (x : Claim). x.file) is.1, ap (λ (x : Claim). x.party) is.1)) where
    granted : (answer : Answer) → ((d : Claim) → answer ≡ answers.Granted d → (d.file ≡ a.file) × (d.party ≡ asking_party a t.names)) → caches_beside a.file (asking_party a t.names) (wish_for a.wish answer r.2).claims ≡ caches_beside a.file (asking_party a t.names) r.2.claims
    granted answer is = wish_beside_at a.wish answer r.2 a.file (asking_party a t.names) is

pub ask_waits : (n : ℕ) (left : Rooms) (s : CoreState) (a : Ask) (number : ℕ) → IsGood s → is_client a.owner a.party ≡ true → (ask n left s a).0 ≡ answers.Queued number
    → (ask n left s a).2.waiters ≡ s.waiters ++ waiter_of number a (asking_party a s.names) (asked_claims a (asked_whats a.act) s.names) ∷ []
unfolding ask before_wish
ask_waits n left s a number good client at =
    ap (λ (x : CoreState). x.waiters) (after_claims a (decided n left (way left s a).1 a).0 (decided n left (way left s a).1 a).2) ∙
    decided_waits n left (way left s a).1 a number (asked_way_good left s a good) client at
    ∙ (λ i. ask_way_waiters left s a i ++ waiter_of number a (asking_party a (ask_way_names left s a i)) (asked_claims a (asked_whats a.act) (ask_way_names left s a i)) ∷ [])

pub ask_held : (n : ℕ) (left : Rooms) (s : CoreState) (a : Ask) (first last : ℕ) (exclusive : Bool) (c : Claim) → IsGood s → is_client a.owner a.party ≡ true → is_named a.owner ≡ true → first ≤ last → a.act ≡ acts.Ranges ((Bytes first last, exclusive) ∷ []) → (ask n left s a).0 ≡ answers.Granted c
    → spans_of a.file (asker a s.names) (ask n left s a).2.claims ≡ relocked (spans_of a.file (asker a s.names) s.claims) first last (Some (mode_of exclusive))
unfolding ask before_wish
ask_held n left s a first last exclusive c good client named ends act at =
    after_keeps (λ x. spans_of a.file (asker a s.names) x.claims) a (decided n left (way left s a).1 a).0 (decided n left (way left s a).1 a).2 (λ wanted. wish_spans wanted (decided n left (way left s a).1 a).2 a.file (asker a s.names)) ∙
    subst (λ (names : List Name). spans_of a.file (asker a names) (decided n left (way left s a).1 a).2.claims ≡ relocked (spans_of a.file (asker a names) (way left s a).1.claims) first last (Some (mode_of exclusive))) (ask_way_names left s a)
    (decided_held n left (way left s a).1 a first last exclusive c (asked_way_good left s a good) client named ends act at)
    ∙ ap (λ (spans : _). relocked spans first last (Some (mode_of exclusive))) (ask_way_keeps (λ x. spans_of a.file (asker a s.names) x.claims) left s a (λ d. begun_spans s d a.file (asker a s.names)))

none_shared : (w : What) → is_cache w ≡ true → is_share w ≡ false
none_shared (Cache kind running) h = refl
none_shared (Share access deny) h = absurd (both_ways false refl h)
none_shared (Range extent exclusive) h = refl

no_share : (file : ℕ) (owner : Owner) (c : Claim) → is_cache c.what ≡ true → is_share_of file owner c ≡ false
no_share file owner c cache = rw (none_shared c.what cache) (and_right (is_of file owner c) false refl)

old_stay : (deadline : Moment) (ask : Claim) (held : List Claim) (file : ℕ) (owner : Owner) → old_shares file owner (once_broken deadline ask held) ≡ old_shares file owner held
unfolding old_shares
old_stay deadline ask held file owner =
    filter_broken deadline ask held (is_share_of file owner) (record {
      old = λ c b e. no_share file owner c (broken_is_cache ask held c b e);
      new = λ c b e. no_share file owner (with_break c c.what b.1 deadline) (broken_cache c c.what b.1 deadline refl ∙ broken_is_cache ask held c b e);
    })

begun_old : (s : CoreState) (c : Claim) (file : ℕ) (owner : Owner) → old_shares file owner (breaks_begun c s).1.claims ≡ old_shares file owner s.claims
unfolding breaks_begun
begun_old s c file owner = old_stay (moment_after s.clock s.times.break_time) c s.claims file owner

pub ask_shares : (n : ℕ) (left : Rooms) (s : CoreState) (a : Ask) (access deny : Rwd) (c : Claim) → IsGood s → is_client a.owner a.party ≡ true → a.act ≡ acts.Share access deny → (ask n left s a).0 ≡ answers.Granted c
    → shares_of a.file (asker a s.names) (ask n left s a).2.claims ≡ with_share (united_by (asker a s.names) (Share access deny) (old_shares a.file (asker a s.names) s.claims)) []
unfolding ask before_wish
ask_shares n left s a access deny c good client act at =
    after_keeps (λ x. shares_of a.file (asker a s.names) x.claims) a (decided n left (way left s a).1 a).0 (decided n left (way left s a).1 a).2 (λ wanted. wish_shares wanted (decided n left (way left s a).1 a).2 a.file (asker a s.names)) ∙
    subst (λ (names : List Name). shares_of a.file (asker a names) (decided n left (way left s a).1 a).2.claims ≡ with_share (united_by (asker a names) (Share access deny) (old_shares a.file (asker a names) (way left s a).1.claims)) []) (ask_way_names left s a)
    (decided_shares n left (way left s a).1 a access deny c (asked_way_good left s a good) client act at)
    ∙ ap (λ (old : List Claim). with_share (united_by (asker a s.names) (Share access deny) old) []) (ask_way_keeps (λ x. old_shares a.file (asker a s.names) x.claims) left s a (λ d. begun_old s d a.file (asker a s.names)))

pub ask_shared : (n : ℕ) (left : Rooms) (s : CoreState) (a : Ask) (access deny : Rwd) (c : Claim) → IsGood s → is_client a.owner a.party ≡ true → unites (asker a s.names) ≡ false → a.act ≡ acts.Share access deny → (ask n left s a).0 ≡ answers.Granted c
    → shares_of a.file (asker a s.names) (ask n left s a).2.claims ≡ (access, deny) ∷ []
unfolding ask before_wish
ask_shared n left s a access deny c good client alone act at =
    after_keeps (λ x. shares_of a.file (asker a s.names) x.claims) a (decided n left (way left s a).1 a).0 (decided n left (way left s a).1 a).2 (λ wanted. wish_shares wanted (decided n left (way left s a).1 a).2 a.file (asker a s.names)) ∙
    subst (λ (names : List Name). unites (asker a names) ≡ false → shares_of a.file (asker a names) (decided n left (way left s a).1 a).2.claims ≡ (access, deny) ∷ []) (ask_way_names left s a)
    (λ apart. decided_shared n left (way left s a).1 a access deny c (asked_way_good left s a good) client apart act at) alone

pub ask_left : (n : ℕ) (left : Rooms) (s : CoreState) (a : Ask) (first last : ℕ) (c : Claim) → IsGood s → is_client a.owner a.party ≡ true → is_named a.owner ≡ true → first ≤ last → a.act ≡ acts.Unlock (Bytes first last) → (ask n left s a).0 ≡ answers.Granted c
    → spans_of a.file (asker a s.names) (ask n left s a).2.claims ≡ relocked (spans_of a.file (asker a s.names) s.claims) first last None
ask_left n left s a first last c good client named ends act at =
    let there = ask_there n left s a (ask_way_none left s a (ap asked_whats act)) in
    ap (λ (r : Answered). spans_of a.file (asker a s.names) r.2.claims) there
    ∙ ap (λ (x : CoreState). spans_of a.file (asker a s.names) x.claims) (no_wish_after a (decided n left s a).0 (decided n left s a).2 (ap does_wish act))
    ∙ decided_left n left s a first last c good client named ends act (sym (ap (λ (r : Answered). r.0) there) ∙ at)

pub grant_frame : (n : ℕ) (left : Rooms) (s : CoreState) (a : Ask) (c : Claim) → IsGood s → is_client a.owner a.party ≡ true → (ask n left s a).0 ≡ answers.Granted c
    → ((ask n left s a).2.clock ≡ s.clock) × (aside_of (ask n left s a).2 ≡ aside_of (noted_by s a (answers.Granted c))) × ((ask n left s a).2.counter ≡ s.counter + calls_in (ask n left s a).1)
grant_frame n left s a c good client at =
    let frame = ask_frame n left s a good client in
    let none : drawn_by (ask n left s a).0 ≡ 0 = ap drawn_by at in (
      frame.clock,
      (ask_own n left s a good client).noted ∙ ask_way_noted left s a (ask n left s a).0 ∙ ap (λ (answer : Answer). aside_of (noted_by s a answer)) at,
      omega (arith, frame.counter, none),
    )

-- ---- a test and the lock that it foretells

-- both tests at once
both_tests : (p q : Claim → Bool) (cs : List Claim) → filter p (filter q cs) ≡ filter (λ c. q c && p c) cs
both_tests p q [] = refl
both_tests p q (c ∷ cs) =
    elim (cases_Bool (q c)) [
      | inr e ↦ rw e (both_tests p q cs)
      | inl e ↦ rw e (ap (λ (ds : List Claim). if p c then c ∷ ds else ds) (both_tests p q cs))
    ]

no_range : (w : What) → is_cache w ≡ true → is_range w ≡ false
no_range (Cache kind running) h = refl
no_range (Share access deny) h = absurd (both_ways false refl h)
no_range (Range extent exclusive) h = absurd (both_ways false refl h)

-- a test is told of ranges, which stay
begun_tests : (s : CoreState) (c claim : Claim) → test_blockers (breaks_begun c s).1 claim ≡ test_blockers s claim
unfolding test_blockers breaks_begun
begun_tests s c claim =
    let deadline = moment_after s.clock s.times.break_time in
    both_tests (λ held. is_range held.what) (λ held. blocks claim held) (once_broken deadline c s.claims)
    ∙ filter_broken deadline c s.claims (λ d. blocks claim d && is_range d.what) (record {
      old = λ d b e. none d (broken_is_cache c s.claims d b e);
      new = λ d b e. none (with_break d d.what b.1 deadline) (broken_cache d d.what b.1 deadline refl ∙ broken_is_cache c s.claims d b e);
    })
    ∙ sym (both_tests (λ held. is_range held.what) (λ held. blocks claim held) s.claims)
  where
    none : (d : Claim) → is_cache d.what ≡ true → (blocks claim d && is_range d.what) ≡ false
    none d cache = rw (no_range d.what cache) (and_right (blocks claim d) false refl)

begun_alone : (c : Claim) (s : CoreState) (a : Ask) → stands_alone (breaks_begun c s).1 a ≡ stands_alone s a
unfolding breaks_begun standing
begun_alone c s a = refl

same_test : (s t : CoreState) (a : Ask) (claim : Claim) → t.names ≡ s.names → stands_alone t a ≡ stands_alone s a → test_blockers t claim ≡ test_blockers s claim → tested t a claim ≡ tested s a claim
unfolding tested
same_test s t a claim names stand blockers = ap (λ (st : Standing). tested_by (refusal st) t claim) stand ∙ by (refusal (stands_alone s a)) where
  by : (r : Option Answer) → tested_by r t claim ≡ tested_by r s claim
  by (Some answer) = refl
  by None = λ i. test_answered claim (least (names i) (blockers i))

pub ask_foretells : (n : ℕ) (left : Rooms) (s : CoreState) (test lock : Ask) (first last : ℕ) (exclusive : Bool) → IsGood s → is_client lock.owner lock.party ≡ true → is_named lock.owner ≡ true → IsSameAsker test lock
    → test.act ≡ acts.Test (Bytes first last) exclusive → lock.act ≡ acts.Ranges ((Bytes first last, exclusive) ∷ []) → lock.blocking ≡ false → lock.reclaim ≡ false
    → (range_ahead s.waiters s (asked_claim lock (Range (Bytes first last) exclusive) s.names) ≡ None → IsConflict (ask n left s lock).0 → IsConflict (ask n left s test).0) × (IsConflict (ask n left s test).0 → IsConflict (ask n left s lock).0)
unfolding ask before_wish
ask_foretells n left s test lock first last exclusive good client has same tests locks hurries fresh =
    subst (λ (answer : Answer). (range_ahead s.waiters s asked ≡ None → IsConflict (ask n left s lock).0 → IsConflict answer) × (IsConflict answer → IsConflict (ask n left s lock).0)) told ((λ none. both.0 (in_front ∙ none)), both.1)
  where
    t : CoreState
    t = (way left s lock).1

    asked : Claim
    asked = asked_claim lock (Range (Bytes first last) exclusive) s.names

    -- who waits in front does so whatever breaks begin
    in_front : range_ahead t.waiters t (asked_claim lock (Range (Bytes first last) exclusive) t.names) ≡ range_ahead s.waiters s asked
    in_front =
        (λ i. range_ahead (ask_way_waiters left s lock i) t (asked_claim lock (Range (Bytes first last) exclusive) (ask_way_names left s lock i)))
        ∙ ask_way_keeps (λ x. range_ahead s.waiters x asked) left s lock (λ c. begun_line s.waiters s c asked)

    both : (range_ahead t.waiters t (asked_claim lock (Range (Bytes first last) exclusive) t.names) ≡ None → IsConflict (decided n left t lock).0 → IsConflict (decided n left t test).0) × (IsConflict (decided n left t test).0 → IsConflict (decided n left t lock).0)
    both = (test_foretells n left t test lock first last exclusive (asked_way_good left s lock good) client has same tests locks hurries fresh)

    claim : Claim
    claim = known_claim test (Bytes first last) exclusive s.names

    alike : tested t test (known_claim test (Bytes first last) exclusive t.names) ≡ tested s test claim
    alike =
        ap (λ (names : List Name). tested t test (known_claim test (Bytes first last) exclusive names)) (ask_way_names left s lock)
        ∙ same_test s t test claim (ask_way_names left s lock) (ask_way_keeps (λ x. stands_alone x test) left s lock (λ c. begun_alone c s test)) (ask_way_keeps (λ x. test_blockers x claim) left s lock (λ c. begun_tests s c claim))

    told : (decided n left t test).0 ≡ (ask n left s test).0
    told =
        ap (λ (r : Answered). r.0) (test_is n left t test (Bytes first last) exclusive tests) ∙ alike
        ∙ sym (ap (λ (r : Answered). r.0) (ask_there n left s test (ask_way_none left s test (ap asked_whats tests))) ∙ ap (λ (r : Answered). r.0) (test_is n left s test (Bytes first last) exclusive tests))
