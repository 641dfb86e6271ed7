-- What each call leaves alone, and who leaves the queue by it.
use Rattle.std.proofs.Common.{◌≡◌, ℕ, suc, ◌+◌, ◌≤◌, nat_lt, length, Bool, true, false, if◌then◌else◌, ◌==◌, inl, inr, List, [], ◌∷◌, ◌++◌, map, Option, Some, None, IfSome, refl, sym, ap, subst, ◌∙◌, append-nil, arith}
use Rattle.xl_core.specs.Causes.{noted_by, name_waiting}
use Rattle.std.specs.List.{AllByRecursion, filter}
use Rattle.std.proofs.lemmas.Bool.{cases_Bool, both_ways, eq-eqb, eqb-true}
use Rattle.xl_base.specs.Lists.{Pairwise}
use Rattle.xl_base.specs.declared.name.Party.{Party}
use Rattle.xl_matrix.specs.declared.claim.CacheKind.{CacheKind}
use Rattle.xl_matrix.specs.declared.claim.Claim.{Claim}
use Rattle.xl_matrix.specs.declared.claim.Rwd.{Rwd}
use Rattle.xl_names.specs.declared.name.Name.{Name}
use Rattle.xl_wait.specs.Waiting.{is_waiting, cancelled}
use Rattle.xl_wait.specs.declared.waiter.Rooms.{Rooms}
use Rattle.xl_wait.specs.declared.waiter.Waiter.{Waiter}
use Rattle.xl_base.specs.Stable.{Stable, is_recorded}
use Rattle.xl_grace.specs.Grace.{expired, is_over, shortened}
use Rattle.xl_core.specs.State.{CoreState, GoesOn, aside_of, drawn, Aside}
use Rattle.xl_core.specs.Stores.{may_store, stored, store_failed, client_name, without_name}
use Rattle.xl_core.proofs.AsideLaws.{IsAside, aside_good, failed_aside, forgotten_aside, grace_aside, of_aside, with_aside, by_epoch, left_epoch}
pub use Rattle.xl_core.proofs.StoreLaws.{stores_same, goes_on_same, goes_on_self, may_be_made}
use Rattle.xl_core.specs.Askers.{asking_party, party_named, both_entered, asked_whats, asked_claims, is_client}
use Rattle.xl_core.specs.Decide.{Answered, plea_of, waiter_of, decided, way, before_wish, wish_after, ask}
use Rattle.xl_core.specs.Wishes.{wish_for}
use Rattle.xl_cache.specs.BreakPlans.{planned}
use Rattle.xl_core.specs.Ways.{made_way}
use Rattle.xl_core.specs.BreaksBegun.{is_recall, recalls, begun_told, told_before, breaks_in_order, breaks_begun}
use Rattle.xl_core.specs.declared.judge.Plea.{Plea}
use Rattle.xl_core.proofs.BreaksInOrderLaws.{recalls_sorted}
use Rattle.xl_core.proofs.BreaksBegunLaws.{begun_leave}
use Rattle.xl_core.proofs.WayLaws.{NoWay, Begins, way_is, way_names, way_waiters}
use Rattle.xl_core.specs.Frames.{who_left, who_expired, all_unleased, calls_in, serves_none, AllLeave, IsFrame, IsRenewed, IsTicked, drawn_by, asks_to_hold, names_after, come_by}
use Rattle.xl_core.specs.Good.{are_apart, IsGood}
use Rattle.xl_core.specs.Judge.{held_with, to_record}
use Rattle.xl_table.specs.declared.leaver.Leaver.{Leaver}
use Rattle.xl_table.specs.declared.leaver.Leaver.TheVariants as leavers
use Rattle.xl_core.specs.Settle.{settle, plea_again, way_again, waits_with, numbers_with, gone, told_with, told_of_one, cancel, give_back, weaken, departed, end_party, close_open, all_cancelled}
use Rattle.xl_core.specs.declared.ask.Answer.{Answer}
use Rattle.xl_core.specs.declared.ask.Answer.TheVariants as answers
use Rattle.xl_core.specs.declared.ask.Ask.{Ask}
use Rattle.xl_core.specs.declared.ask.Effect.{Effect}
use Rattle.xl_core.specs.declared.ask.Effect.TheVariants.{Begun, Served, Cancelled, Expired}
use Rattle.xl_base.specs.declared.event.Moment.{Moment}
use Rattle.xl_names.specs.declared.name.Name.TheVariants.{NfsParty}
use Rattle.xl_core.specs.Leases.{Lease, later, without_lease, ended}
use Rattle.xl_core.specs.BreakAnswers.{ack, due, client_of}
use Rattle.xl_core.specs.Ticks.{advanced, renew, end_some, unleased, barred, gone_client, forgotten, expire, may_expire, try_expire, behind_told, in_turn, lapsed_by, try_lapsed_by, lapse, try_lapse, is_still_held, is_lease_over, lapse_all, expire_all, end_grace, try_end_grace, tick}
use Rattle.xl_core.proofs.ChangeLaws.{AskWay, Stays, Tests, Holds, Waits, Frees, Gives, decided_way}
use Rattle.xl_core.proofs.AskWishLaws.{wish_claims, after_claims}
use Rattle.xl_core.proofs.GoodLaws.{once_answered, fewer_cancelled, Turned, IsMoved, Answers, Rests, IsFirst, each_turn, asked_way_good, advanced_good, try_expire_good, try_lapse_good, lapse_all_good, expire_all_good}
use Rattle.xl_core.proofs.RowLaws.{is_refusal}
use Rattle.xl_core.proofs.SettleLaws.{apart_ids, all_out, leaver_left}

-- ---- an ask

-- nobody leaves
nobody : (ws : List Waiter) → ws ≡ ws ++ []
nobody ws = sym (append-nil ws)

-- the frame of an ask that is answered so
abbrev AskFrame : CoreState → Ask → Answered → Type 0
AskFrame s a r = IsFrame s r.1 r.2 (drawn_by r.0) (names_after a r.0 s.names) (come_by a r.0 s.names)

still : (s : CoreState) → IsFrame s [] s 0 s.names []
still s = record { epoch = refl; clock = refl; counter = omega arith; names = refl; leave = tt; waiters = nobody s.waiters; times = refl; leases = refl }

-- the record, the stores and the grace may change, but the epoch
noted_still : (s : CoreState) (x : Aside) → x.stable.epoch ≡ s.stable.epoch → IsFrame s [] (with_aside x s) 0 s.names []
noted_still s x epoch = record { epoch = epoch; clock = refl; counter = omega arith; names = refl; leave = tt; waiters = nobody s.waiters; times = refl; leases = refl }

refused_frame : (s : CoreState) (a : Ask) (answer : Answer) → is_refusal answer ≡ true → (x : Aside) → x.stable.epoch ≡ s.stable.epoch → AskFrame s a (answer, [], with_aside x s)
refused_frame s a (answers.Granted c) h x epoch = absurd (both_ways false refl h)
refused_frame s a (answers.Queued number) h x epoch = absurd (both_ways false refl h)
refused_frame s a (answers.Conflict c) h x epoch = noted_still s x epoch
refused_frame s a (answers.Recall c) h x epoch = noted_still s x epoch
refused_frame s a (answers.Grace until) h x epoch = noted_still s x epoch
refused_frame s a (answers.NoGrace clock) h x epoch = noted_still s x epoch
refused_frame s a answers.NotRecorded h x epoch = noted_still s x epoch
refused_frame s a (answers.Full limit) h x epoch = noted_still s x epoch
refused_frame s a answers.NotHeld h x epoch = noted_still s x epoch
refused_frame s a answers.StoreFailed h x epoch = noted_still s x epoch

names_held : (a : Ask) (c : Claim) (names : List Name) (b : Bool) → asks_to_hold a.act ≡ b → names_after a (answers.Granted c) names ≡ (if b then both_entered a names else names)
names_held a c names b e = ap (λ (x : Bool). if x then both_entered a names else names) e

way_frame : (s : CoreState) (a : Ask) (r : Answered) → AskWay s a r → AskFrame s a r
unfolding held_with
way_frame s a r (Stays answer refused e) = subst (AskFrame s a) (sym e) (refused_frame s a answer refused (aside_of (noted_by s a answer)) (by_epoch s a answer))
way_frame s a r (Tests c holds e) = subst (AskFrame s a) (sym e) (record { epoch = refl; clock = refl; counter = omega arith; names = sym (names_held a c s.names false holds); leave = tt; waiters = nobody s.waiters; times = refl; leases = refl })
way_frame s a r (Holds c claims is holds e) = subst (AskFrame s a) (sym e) (record { epoch = by_epoch s a (answers.Granted c); clock = refl; counter = omega arith; names = sym (names_held a c s.names true holds); leave = tt; waiters = nobody s.waiters; times = refl; leases = refl })
way_frame s a r (Waits c cs why is holds e) =
    subst (AskFrame s a) (sym e)
    (record { epoch = refl; clock = refl; counter = refl; names = refl; leave = tt; waiters = ap (λ (ds : List Claim). s.waiters ++ waiter_of (s.counter + 1) a (asking_party a s.names) ds ∷ []) is; times = refl; leases = refl })
way_frame s a r (Frees c first last holds act file owner e) = subst (AskFrame s a) (sym e) (record { epoch = refl; clock = refl; counter = omega arith; names = sym (names_held a c s.names false holds); leave = tt; waiters = nobody s.waiters; times = refl; leases = refl })
way_frame s a r (Gives c d holds act file owner range e) = subst (AskFrame s a) (sym e) (record { epoch = refl; clock = refl; counter = omega arith; names = sym (names_held a c s.names false holds); leave = tt; waiters = nobody s.waiters; times = refl; leases = refl })

pub decided_frame : (n : ℕ) (left : Rooms) (s : CoreState) (a : Ask) → IsGood s → is_client a.owner a.party ≡ true → AskFrame s a (decided n left s a)
decided_frame n left s a good client = way_frame s a (decided n left s a) (decided_way n left s a good client)

-- an ask tells of nothing
pub decided_quiet : (n : ℕ) (left : Rooms) (s : CoreState) (a : Ask) → IsGood s → is_client a.owner a.party ≡ true → (decided n left s a).1 ≡ []
decided_quiet n left s a good client = by (decided n left s a) (decided_way n left s a good client) where
  by : (r : Answered) → AskWay s a r → r.1 ≡ []
  by r (Stays answer refused e) = ap (λ (x : Answered). x.1) e
  by r (Tests c holds e) = ap (λ (x : Answered). x.1) e
  by r (Holds c claims is holds e) = ap (λ (x : Answered). x.1) e
  by r (Waits c cs why is holds e) = ap (λ (x : Answered). x.1) e
  by r (Frees c first last holds act file owner e) = ap (λ (x : Answered). x.1) e
  by r (Gives c d holds act file owner range e) = ap (λ (x : Answered). x.1) e

-- ---- a turn

stands_waiting : (before : List Waiter) (w : Waiter) (behind : List Waiter) → is_waiting w.id (before ++ w ∷ behind) ≡ true
stands_waiting [] w behind = let same : (w.id == w.id) ≡ true = eq-eqb w.id w.id refl in rw same refl
stands_waiting (v ∷ vs) w behind = elim (cases_Bool (v.id == w.id)) [ inl e ↦ rw e refl | inr e ↦ rw e (stands_waiting vs w behind) ]

-- who leaves by both
pub told_both : (xs ys : List Effect) → who_left (xs ++ ys) ≡ who_left xs ++ who_left ys
told_both [] ys = refl
told_both (Served party id answer ∷ xs) ys = ap (λ (ids : List ℕ). id ∷ ids) (told_both xs ys)
told_both (Cancelled party id ∷ xs) ys = ap (λ (ids : List ℕ). id ∷ ids) (told_both xs ys)
told_both (Begun c to call ∷ xs) ys = told_both xs ys
told_both (Expired text ∷ xs) ys = told_both xs ys

calls_both : (xs ys : List Effect) → calls_in (xs ++ ys) ≡ calls_in xs + calls_in ys
calls_both [] ys = omega arith
calls_both (Served party id answer ∷ xs) ys = calls_both xs ys
calls_both (Cancelled party id ∷ xs) ys = calls_both xs ys
calls_both (Begun c to (Some number) ∷ xs) ys = omega (arith, calls_both xs ys)
calls_both (Begun c to None ∷ xs) ys = calls_both xs ys
calls_both (Expired text ∷ xs) ys = calls_both xs ys

-- as many numbers are drawn as breaks are told by a call
told_calls : (last : ℕ) (bs : List (Claim × Option CacheKind)) → calls_in (begun_told last bs) ≡ recalls bs
told_calls last [] = refl
told_calls last (b ∷ bs) =
    elim (cases_Bool (is_recall b)) [
      | inl e ↦ rw e (ap suc (told_calls (last + 1) bs))
      | inr e ↦ rw e (told_calls last bs)
    ]

begun_frame : (c : Claim) (s : CoreState) → IsFrame s (breaks_begun c s).0 (breaks_begun c s).1 (calls_in (breaks_begun c s).0) s.names []
unfolding breaks_begun
begun_frame c s = record {
  epoch = refl;
  clock = refl;
  counter = ap (λ (calls : ℕ). s.counter + calls) (sym (told_calls s.counter (breaks_in_order c s) ∙ recalls_sorted (told_before s.names) (planned c s.claims).breaks));
  names = refl;
  leave = subst (λ (ids : List ℕ). AllLeave ids s.waiters) (sym (begun_leave s c)) tt;
  waiters = nobody s.waiters ∙ ap (λ (ids : List ℕ). all_cancelled ids s.waiters ++ []) (sym (begun_leave s c));
  times = refl;
  leases = refl;
}

pub made_way_frame : (earlier : List Waiter) (p : Plea) (asked : List Claim) (s : CoreState) → (let way = made_way earlier p asked s in IsFrame s way.0 way.1 (calls_in way.0) s.names [])
made_way_frame earlier p asked s =
    elim (way_is earlier p asked s) [
      | NoWay e ↦ subst (λ (w : Turned). IsFrame s w.0 w.1 (calls_in w.0) s.names []) (sym e) (still s)
      | Begins c cs is does e ↦ subst (λ (w : Turned). IsFrame s w.0 w.1 (calls_in w.0) s.names []) (sym e) (begun_frame c s)
    ]

-- who is told of by a way is nobody
pub way_leaves : (earlier : List Waiter) (p : Plea) (asked : List Claim) (s : CoreState) → who_left (made_way earlier p asked s).0 ≡ []
way_leaves earlier p asked s =
    elim (way_is earlier p asked s) [
      | NoWay e ↦ ap (λ (w : Turned). who_left w.0) e
      | Begins c cs is does e ↦ ap (λ (w : Turned). who_left w.0) e ∙ begun_leave s c
    ]

-- a frame behind the way
behind_frame : (earlier : List Waiter) (p : Plea) (asked : List Claim) (s u : CoreState) (told : List Effect) (given : ℕ) (known : List Name) (come : List Waiter)
    → (let way = made_way earlier p asked s in IsFrame way.1 told u given known come → calls_in told ≡ 0 → IsFrame s (way.0 ++ told) u (given + calls_in (way.0 ++ told)) known come)
behind_frame earlier p asked s u told given known come frame quiet =
    let way = made_way earlier p asked s in
    let first = made_way_frame earlier p asked s in
    let same : way.1.waiters ≡ s.waiters = way_waiters earlier p asked s in
    let ids : who_left (way.0 ++ told) ≡ who_left told = told_both way.0 told ∙ ap (λ (xs : List ℕ). xs ++ who_left told) (way_leaves earlier p asked s) in
    record {
      epoch = frame.epoch ∙ first.epoch;
      clock = frame.clock ∙ first.clock;
      counter = omega (arith, frame.counter, first.counter, calls_both way.0 told, quiet);
      names = frame.names;
      leave = subst (λ (xs : List ℕ). AllLeave xs s.waiters) (sym ids) (subst (λ (ws : List Waiter). AllLeave (who_left told) ws) same frame.leave);
      waiters = frame.waiters ∙ (λ i. all_cancelled (sym ids i) (same i) ++ come);
      times = frame.times ∙ first.times;
      leases = frame.leases ∙ first.leases;
    }

-- a wish that is granted leaves all but the claims
same_frame : (s t u : CoreState) (told : List Effect) (given : ℕ) (known : List Name) (come : List Waiter) → u ≡ record t { claims = u.claims } → IsFrame s told t given known come → IsFrame s told u given known come
same_frame s t u told given known come is frame =
    subst (λ (x : CoreState). IsFrame s told x given known come) (sym is)
    (record { epoch = frame.epoch; clock = frame.clock; counter = frame.counter; names = frame.names; leave = frame.leave; waiters = frame.waiters; times = frame.times; leases = frame.leases })

for_frame : (kinds : List CacheKind) (answer : Answer) (s t : CoreState) (told : List Effect) (given : ℕ) (known : List Name) (come : List Waiter) → IsFrame s told t given known come → IsFrame s told (wish_for kinds answer t) given known come
for_frame kinds answer s t told given known come frame = same_frame s t (wish_for kinds answer t) told given known come (wish_claims kinds answer t) frame

none_more : (n : ℕ) → 0 + n ≡ n
none_more n = omega arith

first_frame : (n : ℕ) (left : Rooms) (s : CoreState) (turn : Turned) → IsFirst n left s [] s.waiters turn → IsFrame s turn.0 turn.1 (calls_in turn.0) s.names []
first_frame n left s turn first = by first.moved where
  w : Waiter
  w = first.waiter

  way : Turned
  way = way_again first.before s w

  t : CoreState
  t = way.1

  same : t.waiters ≡ s.waiters
  same = way_waiters first.before (plea_again s w) w.asked s

  named : t.names ≡ s.names
  named = way_names first.before (plea_again s w) w.asked s

  waits : is_waiting w.id t.waiters ≡ true
  waits = subst (λ (ws : List Waiter). is_waiting w.id ws ≡ true) (sym (same ∙ first.stood)) (stands_waiting first.before w first.behind)

  whole : (told : List Effect) (u : CoreState) → turn.0 ≡ way.0 ++ told → turn.1 ≡ u → calls_in told ≡ 0 → IsFrame t told u 0 s.names [] → IsFrame s turn.0 turn.1 (calls_in turn.0) s.names []
  whole told u e f quiet frame =
      subst (λ (x : List Effect). IsFrame s x turn.1 (calls_in x) s.names []) (sym e)
      (subst (λ (x : CoreState). IsFrame s (way.0 ++ told) x (calls_in (way.0 ++ told)) s.names []) (sym f) (subst (λ (given : ℕ). IsFrame s (way.0 ++ told) u given s.names []) (none_more (calls_in (way.0 ++ told))) (behind_frame first.before (plea_again s w) w.asked s u told 0 s.names [] frame quiet)))

  by : IsMoved n left first.before s w first.claim first.claims turn → IsFrame s turn.0 turn.1 (calls_in turn.0) s.names []
  by (Answers answer told new due pass clear) =
      let u = once_answered t w (first.claim ∷ first.claims) answer in
      whole (Served w.party w.id answer ∷ []) (wish_for w.wish answer u) told new refl
      (for_frame w.wish answer t u (Served w.party w.id answer ∷ []) 0 s.names [] (record { epoch = left_epoch (to_record (name_waiting t w) (first.claim ∷ first.claims)) answer t; clock = refl; counter = omega arith; names = named; leave = (waits, tt); waiters = nobody (cancelled w.id t.waiters); times = refl; leases = refl }))
  by (Rests e up) =
      whole [] t (ap (λ (x : Turned). x.0) e ∙ sym (append-nil way.0)) (ap (λ (x : Turned). x.1) e) refl
      (record { epoch = refl; clock = refl; counter = omega arith; names = named; leave = tt; waiters = nobody t.waiters; times = refl; leases = refl })

pub turn_frame : (n : ℕ) (left : Rooms) (s : CoreState) → IsGood s → IfSome (settle n left s) (λ r. IsFrame s r.0 r.1 (calls_in r.0) s.names [])
turn_frame n left s good = each_turn n left s (λ r. IsFrame s r.0 r.1 (calls_in r.0) s.names []) good (λ turn first. first_frame n left s turn first)

-- ---- an ask, behind its way

pub ask_quiet : (n : ℕ) (left : Rooms) (s : CoreState) (a : Ask) → IsGood s → is_client a.owner a.party ≡ true → (ask n left s a).1 ≡ (way left s a).0
unfolding ask before_wish
ask_quiet n left s a good client = ap (λ (told : List Effect). (way left s a).0 ++ told) (decided_quiet n left (way left s a).1 a (asked_way_good left s a good) client) ∙ append-nil (way left s a).0

pub ask_frame : (n : ℕ) (left : Rooms) (s : CoreState) (a : Ask) → IsGood s → is_client a.owner a.party ≡ true
    → (let r = ask n left s a in IsFrame s r.1 r.2 (drawn_by r.0 + calls_in r.1) (names_after a r.0 s.names) (come_by a r.0 s.names))
unfolding ask before_wish
ask_frame n left s a good client =
    let p = plea_of left s a in
    let asked = asked_claims a (asked_whats a.act) s.names in
    let t = (way left s a).1 in
    let r = decided n left t a in
    let sound = asked_way_good left s a good in
    let frame = decided_frame n left t a sound client in
    let whole = before_wish n left s a in
    same_frame s whole.2 (wish_after a whole.0 whole.2) whole.1 (drawn_by whole.0 + calls_in whole.1) (names_after a whole.0 s.names) (come_by a whole.0 s.names) (after_claims a whole.0 whole.2)
    (behind_frame s.waiters p asked s r.2 r.1 (drawn_by r.0) (names_after a r.0 s.names) (come_by a r.0 s.names)
    (subst (λ (names : List Name). IsFrame t r.1 r.2 (drawn_by r.0) (names_after a r.0 names) (come_by a r.0 names)) (way_names s.waiters p asked s) frame)
    (ap calls_in (decided_quiet n left t a sound client)))

-- ---- who leaves, and a number

-- one who waits is told of once
one_left : (id : ℕ) (ws : List Waiter) → is_waiting id ws ≡ true → who_left (told_of_one id ws) ≡ id ∷ []
one_left id [] waits = absurd (both_ways false refl waits)
one_left id (w ∷ ws) waits =
    elim (cases_Bool (w.id == id)) [
      | inl same ↦ rw same (ap (λ (k : ℕ). k ∷ []) (eqb-true w.id id same))
      | inr other ↦ rw other (one_left id ws (rw other at waits))
    ]

pub cancel_frame : (s : CoreState) (id : ℕ) → is_waiting id s.waiters ≡ true → IsFrame s (cancel s id).0 (cancel s id).1 0 s.names []
unfolding cancel
cancel_frame s id waits =
    let left = one_left id s.waiters waits in
    record {
      epoch = refl;
      clock = refl;
      counter = omega arith;
      names = refl;
      leave = subst (λ (ids : List ℕ). AllLeave ids s.waiters) (sym left) (waits, tt);
      waiters = ap (λ (ids : List ℕ). all_cancelled ids s.waiters) (sym left) ∙ nobody _;
      times = refl;
      leases = refl;
    }

pub give_back_frame : (s : CoreState) (claim : Claim) → IsFrame s (give_back s claim).0 (give_back s claim).1 0 s.names []
unfolding give_back
give_back_frame s claim = record { epoch = refl; clock = refl; counter = omega arith; names = refl; leave = tt; waiters = nobody s.waiters; times = refl; leases = refl }

pub weaken_frame : (s : CoreState) (share : Claim) (access deny : Rwd) → IsFrame s (weaken s share access deny).0 (weaken s share access deny).1 0 s.names []
unfolding weaken
weaken_frame s share access deny = record { epoch = refl; clock = refl; counter = omega arith; names = refl; leave = tt; waiters = nobody s.waiters; times = refl; leases = refl }

pub ack_frame : (s : CoreState) (cache : Claim) (to : Option CacheKind) → IsFrame s (ack s cache to).0 (ack s cache to).1 0 s.names []
unfolding ack
ack_frame s cache to = record { epoch = refl; clock = refl; counter = omega arith; names = refl; leave = tt; waiters = nobody s.waiters; times = refl; leases = refl }

pub drawn_frame : (s : CoreState) → IsFrame s [] (drawn s) 1 s.names []
unfolding drawn
drawn_frame s = record { epoch = refl; clock = refl; counter = refl; names = refl; leave = tt; waiters = nobody s.waiters; times = refl; leases = refl }

-- the first of some waiters that are told apart stays where others leave
kept_behind : (ids : List ℕ) (w : Waiter) (ws : List Waiter) → AllByRecursion (λ id. (w.id == id) ≡ false) ids → AllLeave ids ws → AllLeave ids (w ∷ ws)
kept_behind [] w ws others all = tt
kept_behind (id ∷ ids) w ws others all = rw others.0 (all.0, kept_behind ids w (cancelled id ws) others.1 all.1)

all_leave : (p : Waiter → Bool) (ws : List Waiter) → Pairwise are_apart ws → AllLeave (map (λ v. v.id) (filter p ws)) ws
all_leave p [] apart = tt
all_leave p (w ∷ ws) apart =
    elim (cases_Bool (p w)) [
      | inl e ↦ let same : (w.id == w.id) ≡ true = eq-eqb w.id w.id refl in rw e (rw same (refl, all_leave p ws apart.1))
      | inr e ↦ rw e (kept_behind (map (λ v. v.id) (filter p ws)) w ws (apart_ids p w ws apart.0) (all_leave p ws apart.1))
    ]

leaver_leaves : (leaver : Leaver) (ws : List Waiter) → Pairwise are_apart ws → AllLeave (numbers_with leaver ws) ws
unfolding numbers_with
leaver_leaves leaver ws apart = all_leave (waits_with leaver) ws apart

departed_frame : (s : CoreState) (leaver : Leaver) → IsGood s → IsFrame s (departed s leaver).0 (departed s leaver).1 0 s.names []
departed_frame s leaver good = record {
  epoch = refl;
  clock = refl;
  counter = omega arith;
  names = refl;
  leave = subst (λ (ids : List ℕ). AllLeave ids s.waiters) (sym (leaver_left leaver s.waiters)) (leaver_leaves leaver s.waiters good.apart);
  waiters = sym (all_out leaver s.waiters good.apart) ∙ ap (λ (ids : List ℕ). all_cancelled ids s.waiters) (sym (leaver_left leaver s.waiters)) ∙ nobody _;
  times = refl;
  leases = refl;
}

pub end_party_frame : (s : CoreState) (party : Party) → IsGood s → IsFrame s (end_party s party).0 (end_party s party).1 0 s.names []
unfolding end_party
end_party_frame s party good = departed_frame s (leavers.Party party) good

pub close_open_frame : (s : CoreState) (number : ℕ) (party : Option Party) → IsGood s → IsFrame s (close_open s number party).0 (close_open s number party).1 0 s.names []
unfolding close_open
close_open_frame s number party good = departed_frame s (leavers.Open number party) good

-- ---- who leaves is served nothing

gone_unserved : (ws : List Waiter) → serves_none (map gone ws) ≡ true
gone_unserved [] = refl
gone_unserved (w ∷ ws) = gone_unserved ws

told_unserved : (leaver : Leaver) (ws : List Waiter) → serves_none (told_with leaver ws) ≡ true
unfolding told_with
told_unserved leaver ws = gone_unserved (filter (waits_with leaver) ws)

one_unserved : (id : ℕ) (ws : List Waiter) → serves_none (told_of_one id ws) ≡ true
one_unserved id [] = refl
one_unserved id (w ∷ ws) = elim (cases_Bool (w.id == id)) [ inl same ↦ rw same refl | inr other ↦ rw other (one_unserved id ws) ]

pub cancel_unserved : (s : CoreState) (id : ℕ) → serves_none (cancel s id).0 ≡ true
unfolding cancel
cancel_unserved s id = one_unserved id s.waiters

pub give_back_unserved : (s : CoreState) (claim : Claim) → serves_none (give_back s claim).0 ≡ true
unfolding give_back
give_back_unserved s claim = refl

pub weaken_unserved : (s : CoreState) (share : Claim) (access deny : Rwd) → serves_none (weaken s share access deny).0 ≡ true
unfolding weaken
weaken_unserved s share access deny = refl

pub ack_unserved : (s : CoreState) (cache : Claim) (to : Option CacheKind) → serves_none (ack s cache to).0 ≡ true
unfolding ack
ack_unserved s cache to = refl

pub end_party_unserved : (s : CoreState) (party : Party) → serves_none (end_party s party).0 ≡ true
unfolding end_party
end_party_unserved s party = told_unserved (leavers.Party party) s.waiters

pub close_open_unserved : (s : CoreState) (number : ℕ) (party : Option Party) → serves_none (close_open s number party).0 ≡ true
unfolding close_open
close_open_unserved s number party = told_unserved (leavers.Open number party) s.waiters

-- ---- the clock

unserved_more : (xs ys : List Effect) → serves_none xs ≡ true → serves_none ys ≡ true → serves_none (xs ++ ys) ≡ true
unserved_more [] ys first later = later
unserved_more (Served party id answer ∷ xs) ys first later = absurd (both_ways false refl first)
unserved_more (Begun c to number ∷ xs) ys first later = unserved_more xs ys first later
unserved_more (Cancelled party id ∷ xs) ys first later = unserved_more xs ys first later
unserved_more (Expired client ∷ xs) ys first later = unserved_more xs ys first later

-- who leaves by both, one after another
leave_both : (xs ys : List ℕ) (ws : List Waiter) → AllLeave xs ws → AllLeave ys (all_cancelled xs ws) → AllLeave (xs ++ ys) ws
leave_both [] ys ws first later = later
leave_both (id ∷ xs) ys ws first later = (first.0, leave_both xs ys (cancelled id ws) first.1 later)

cancelled_both : (xs ys : List ℕ) (ws : List Waiter) → all_cancelled (xs ++ ys) ws ≡ all_cancelled ys (all_cancelled xs ws)
cancelled_both [] ys ws = refl
cancelled_both (id ∷ xs) ys ws = cancelled_both xs ys (cancelled id ws)

pub expired_both : (xs ys : List Effect) → who_expired (xs ++ ys) ≡ who_expired xs ++ who_expired ys
expired_both [] ys = refl
expired_both (Served party id answer ∷ xs) ys = expired_both xs ys
expired_both (Cancelled party id ∷ xs) ys = expired_both xs ys
expired_both (Begun c to call ∷ xs) ys = expired_both xs ys
expired_both (Expired client ∷ xs) ys = ap (λ (clients : List (List ℕ)). client ∷ clients) (expired_both xs ys)

unleased_both : (xs ys : List (List ℕ)) (ls : List Lease) → all_unleased (xs ++ ys) ls ≡ all_unleased ys (all_unleased xs ls)
unleased_both [] ys ls = refl
unleased_both (client ∷ xs) ys ls = unleased_both xs ys (without_lease client ls)

-- who are taken out with their party are no clients that expired
gone_expired : (ws : List Waiter) → who_expired (map gone ws) ≡ []
gone_expired [] = refl
gone_expired (w ∷ ws) = gone_expired ws

none_expired : (leaver : Leaver) (ws : List Waiter) → who_expired (told_with leaver ws) ≡ []
unfolding told_with
none_expired leaver ws = gone_expired (filter (waits_with leaver) ws)

-- what an expiry and those behind it leave alone
abbrev pub IsLeft : CoreState → List Effect × CoreState → Type 0
IsLeft s r = (IsGood s → IsTicked s s.clock r.0 r.1) × (serves_none r.0 ≡ true)

clock_stays : (now : Moment) → later now now ≡ now
clock_stays now = elim (cases_Bool (nat_lt now.0 now.0)) [ inl e ↦ rw e refl | inr e ↦ rw e refl ]

-- a call by which nobody comes, no number is given out and no client expires
framed_ticked : (s t : CoreState) (told : List Effect) → who_expired told ≡ [] → IsFrame s told t 0 s.names [] → IsTicked s s.clock told t
framed_ticked s t told none frame = record {
  clock = frame.clock ∙ sym (clock_stays s.clock);
  epoch = frame.epoch;
  counter = omega (arith, frame.counter);
  names = frame.names;
  leave = frame.leave;
  waiters = frame.waiters ∙ append-nil (all_cancelled (who_left told) s.waiters);
  times = frame.times;
  leases = frame.leases ∙ ap (λ (clients : List (List ℕ)). all_unleased clients s.leases) (sym none);
}

left_so : (s : CoreState) → IsLeft s ([], s)
left_so s = (λ good. framed_ticked s s [] refl (still s), refl)

pub ended_expires : (s : CoreState) (party : Party) → who_expired (end_party s party).0 ≡ []
unfolding end_party
ended_expires s party = none_expired (leavers.Party party) s.waiters

some_left : (s : CoreState) (party : Option Party) → IsLeft s (end_some s party)
some_left s None = left_so s
some_left s (Some party) = (λ good. framed_ticked s (end_party s party).1 (end_party s party).0 (ended_expires s party) (end_party_frame s party good), end_party_unserved s party)

-- and of what comes behind it
ticked_on : (s t u : CoreState) (now : Moment) (told more : List Effect) → IsTicked s now told t → IsTicked t t.clock more u → IsTicked s now (told ++ more) u
ticked_on s t u now told more first next = record {
  clock = next.clock ∙ clock_stays t.clock ∙ first.clock;
  epoch = next.epoch ∙ first.epoch;
  counter = next.counter ∙ first.counter;
  names = next.names ∙ first.names;
  leave = subst (λ (ids : List ℕ). AllLeave ids s.waiters) (sym (told_both told more)) (leave_both (who_left told) (who_left more) s.waiters first.leave (subst (λ (ws : List Waiter). AllLeave (who_left more) ws) first.waiters next.leave));
  waiters =
      next.waiters ∙ ap (λ (ws : List Waiter). all_cancelled (who_left more) ws) first.waiters ∙ sym (cancelled_both (who_left told) (who_left more) s.waiters)
      ∙ ap (λ (ids : List ℕ). all_cancelled ids s.waiters) (sym (told_both told more));
  times = next.times ∙ first.times;
  leases =
      next.leases ∙ ap (λ (ls : List Lease). all_unleased (who_expired more) ls) first.leases ∙ sym (unleased_both (who_expired told) (who_expired more) s.leases)
      ∙ ap (λ (clients : List (List ℕ)). all_unleased clients s.leases) (sym (expired_both told more));
}

left_on : (s t : CoreState) (told : List Effect) (r : List Effect × CoreState) → IsLeft s (told, t) → (IsGood s → IsGood t) → IsLeft t r → IsLeft s (behind_told told r)
left_on s t told r first sound next = (λ good. ticked_on s t r.1 s.clock told r.0 (first.0 good) (next.0 (sound good)), unserved_more told r.0 first.1 next.1)

-- the record, the grace and the stores of the step alone change, and the epoch stays
aside_left : (s t : CoreState) → IsAside s t → t.stable.epoch ≡ s.stable.epoch → IsLeft s ([], t)
aside_left s t is epoch =
    (λ good. subst (λ (u : CoreState). IsTicked s s.clock [] u) (sym is) (record { clock = sym (clock_stays s.clock); epoch = epoch; counter = refl; names = refl; leave = tt; waiters = refl; times = refl; leases = refl }), refl)

epoch_failed : (stable : Stable) (s : CoreState) → (store_failed stable s).stable.epoch ≡ s.stable.epoch
unfolding store_failed
epoch_failed stable s = elim (cases_Bool s.failed) [ inl e ↦ rw e refl | inr e ↦ rw e refl ]

pub failed_left : (s : CoreState) (stable : Stable) → IsLeft s ([], store_failed stable s)
failed_left s stable = aside_left s (store_failed stable s) (failed_aside stable s) (epoch_failed stable s)

epoch_forgotten : (s : CoreState) (client : List ℕ) → (forgotten s client).stable.epoch ≡ s.stable.epoch
unfolding stored
epoch_forgotten s client = elim (cases_Bool (is_recorded (client_name client) s.stable.names)) [ inl e ↦ rw e refl | inr e ↦ rw e refl ]

forgotten_left : (s : CoreState) (client : List ℕ) → IsLeft s ([], forgotten s client)
forgotten_left s client = aside_left s (forgotten s client) (forgotten_aside s client) (epoch_forgotten s client)

-- the lease goes, which is told last
lease_goes : (s t : CoreState) (client : List ℕ) (told : List Effect) → IsTicked s s.clock told t → (let r = unleased client (told, t) in IsTicked s s.clock r.0 r.1)
lease_goes s t client told is = ticked_on s t (record t { leases = without_lease client t.leases }) s.clock told (Expired client ∷ []) is
    (record { clock = sym (clock_stays t.clock); epoch = refl; counter = refl; names = refl; leave = tt; waiters = refl; times = refl; leases = refl })

unleased_left : (s : CoreState) (client : List ℕ) (party : Option Party) → IsLeft s (unleased client (end_some s party))
unleased_left s client party =
    let r = end_some s party in
    let is = some_left s party in
    (λ good. lease_goes s r.1 client r.0 (is.0 good), unserved_more r.0 (Expired client ∷ []) is.1 refl)

gone_left : (s : CoreState) (client : List ℕ) → IsLeft s (gone_client s client)
unfolding gone_client barred
gone_left s client =
    let t = record s { grace = expired (client_name client) s.grace } in
    left_on s t [] (unleased client (end_some t (party_named s.names (NfsParty client)))) (aside_left s t refl refl) (aside_good (record (aside_of s) { grace = expired (client_name client) s.grace }) s) (unleased_left t client (party_named s.names (NfsParty client)))

pub expire_left : (s : CoreState) (client : List ℕ) → IsLeft s (expire s client)
unfolding expire
expire_left s client =
    let t = forgotten s client in
    left_on s t [] (gone_client t client) (forgotten_left s client) (λ good. of_aside IsGood s t (forgotten_aside s client) (λ x. aside_good x s good)) (gone_left t client)

try_expire_left : (n : ℕ) (s : CoreState) (client : List ℕ) → IsLeft s (try_expire n s client)
unfolding try_expire
try_expire_left n s client =
    elim (cases_Bool (may_expire n s client)) [ inl may ↦ rw may (expire_left s client) | inr none ↦ rw none (failed_left s (without_name (client_name client) s.stable)) ]

-- what is done in turn leaves the state as each of it does
in_turn_left : {A : Type 0} (is_left : CoreState → A → Bool) (does : CoreState → A → List Effect × CoreState) → ((s : CoreState) (x : A) → IsLeft s (does s x)) → ((s : CoreState) (x : A) → IsGood s → IsGood (does s x).1) → (xs : List A) (s : CoreState) → IsLeft s (in_turn is_left does xs s)
in_turn_left is_left does each sound [] s = left_so s
in_turn_left is_left does each sound (x ∷ xs) s =
    elim (cases_Bool (is_left s x)) [
      | inl e ↦ let r = does s x in rw e (left_on s r.1 r.0 (in_turn is_left does xs r.1) (each s x) (sound s x) (in_turn_left is_left does each sound xs r.1))
      | inr e ↦ rw e (in_turn_left is_left does each sound xs s)
    ]

without_left : (s : CoreState) (cache : Claim) (client : Option (List ℕ)) → IsLeft s (lapsed_by s cache client)
unfolding give_back
without_left s cache None = (λ good. framed_ticked s (lapsed_by s cache None).1 [] refl (give_back_frame s cache), refl)
without_left s cache (Some client) = expire_left s client

pub lapse_left : (s : CoreState) (cache : Claim) → IsLeft s (lapse s cache)
unfolding lapse
lapse_left s cache = without_left s cache (client_of s.names cache.party)

try_without_left : (n : ℕ) (s : CoreState) (cache : Claim) (client : Option (List ℕ)) → IsLeft s (try_lapsed_by n s cache client)
try_without_left n s cache None = without_left s cache None
try_without_left n s cache (Some client) = try_expire_left n s client

try_lapse_left : (n : ℕ) (s : CoreState) (cache : Claim) → IsLeft s (try_lapse n s cache)
unfolding try_lapse
try_lapse_left n s cache = try_without_left n s cache (client_of s.names cache.party)

lapse_all_left : (n : ℕ) (s : CoreState) → IsLeft s (lapse_all n s)
unfolding lapse_all
lapse_all_left n s = in_turn_left is_still_held (try_lapse n) (try_lapse_left n) (try_lapse_good n) (due s) s

expire_all_left : (n : ℕ) (s : CoreState) → IsLeft s (expire_all n s)
unfolding expire_all
expire_all_left n s = in_turn_left is_lease_over (try_expire n) (try_expire_left n) (try_expire_good n) (ended s.clock s.leases) s

epoch_ended : (s : CoreState) → (end_grace s).stable.epoch ≡ s.stable.epoch
unfolding end_grace stored
epoch_ended s = refl

pub end_grace_left : (s : CoreState) → IsLeft s ([], end_grace s)
end_grace_left s = aside_left s (end_grace s) (grace_aside s) (epoch_ended s)

end_left : (n : ℕ) (s : CoreState) → IsLeft s ([], try_end_grace n s)
unfolding try_end_grace
end_left n s =
    elim (cases_Bool (is_over s.grace s.clock)) [
      | inr runs ↦ rw runs (left_so s)
      | inl over ↦ elim (cases_Bool (may_store n s)) [ inl may ↦ rw (over, may) (end_grace_left s) | inr none ↦ rw (over, none) (failed_left s (shortened s.grace s.stable)) ]
    ]

ticked_left : (n : ℕ) (s : CoreState) (now : Moment) → IsLeft (advanced s now) (tick n s now)
unfolding tick
ticked_left n s now =
    let t = advanced s now in
    let r = lapse_all n t in
    let q = expire_all n r.1 in
    let e = try_end_grace n q.1 in
    left_on t r.1 r.0 (q.0, e) (lapse_all_left n t) (lapse_all_good n t)
    (subst (λ (told : List Effect). IsLeft r.1 (told, e)) (append-nil q.0) (left_on r.1 q.1 q.0 ([], e) (expire_all_left n r.1) (expire_all_good n r.1) (end_left n q.1)))

pub advanced_ticked : (s : CoreState) (now : Moment) → IsTicked s now [] (advanced s now)
unfolding advanced
advanced_ticked s now = record { clock = refl; epoch = refl; counter = refl; names = refl; leave = tt; waiters = refl; times = refl; leases = refl }

pub tick_frame : (n : ℕ) (s : CoreState) (now : Moment) → IsGood s → IsTicked s now (tick n s now).0 (tick n s now).1
tick_frame n s now good = ticked_on s (advanced s now) (tick n s now).1 now [] (tick n s now).0 (advanced_ticked s now) ((ticked_left n s now).0 (advanced_good s now good))

pub tick_unserved : (n : ℕ) (s : CoreState) (now : Moment) → serves_none (tick n s now).0 ≡ true
tick_unserved n s now = (ticked_left n s now).1

pub renew_unserved : (s : CoreState) (client : List ℕ) → serves_none (renew s client).0 ≡ true
unfolding renew
renew_unserved s client = refl

pub renew_frame : (s : CoreState) (client : List ℕ) → IsRenewed s client (renew s client).0 (renew s client).1
unfolding renew
renew_frame s client = record { silent = refl; claims = refl; waiters = refl; names = refl; clock = refl; times = refl; leases = refl; counter = refl; aside = refl }

-- ---- what a frame leaves, where nobody comes

fewer_left : (ids : List ℕ) (ws : List Waiter) → length (all_cancelled ids ws) ≤ length ws
fewer_left [] ws = omega arith
fewer_left (id ∷ ids) ws = omega (arith, fewer_left ids (cancelled id ws), fewer_cancelled id ws)

pub frame_goes_on : (s t : CoreState) (told : List Effect) (given : ℕ) (known : List Name) → aside_of t ≡ aside_of s → IsFrame s told t given known [] → GoesOn s t × (length t.waiters ≤ length s.waiters)
frame_goes_on s t told given known same frame =
    let queue : t.waiters ≡ all_cancelled (who_left told) s.waiters = frame.waiters ∙ append-nil (all_cancelled (who_left told) s.waiters) in
    (goes_on_same s t (stores_same s t same), omega (arith, ap (λ (ws : List Waiter). length ws) queue, fewer_left (who_left told) s.waiters))

-- ---- what stores nothing

pub cancel_aside : (s : CoreState) (id : ℕ) → aside_of (cancel s id).1 ≡ aside_of s
unfolding cancel
cancel_aside s id = refl

pub give_back_aside : (s : CoreState) (claim : Claim) → aside_of (give_back s claim).1 ≡ aside_of s
unfolding give_back
give_back_aside s claim = refl

pub weaken_aside : (s : CoreState) (share : Claim) (access deny : Rwd) → aside_of (weaken s share access deny).1 ≡ aside_of s
unfolding weaken
weaken_aside s share access deny = refl

pub ack_aside : (s : CoreState) (cache : Claim) (to : Option CacheKind) → aside_of (ack s cache to).1 ≡ aside_of s
unfolding ack
ack_aside s cache to = refl

pub end_party_aside : (s : CoreState) (party : Party) → aside_of (end_party s party).1 ≡ aside_of s
unfolding end_party
end_party_aside s party = refl

pub close_open_aside : (s : CoreState) (number : ℕ) (party : Option Party) → aside_of (close_open s number party).1 ≡ aside_of s
unfolding close_open
close_open_aside s number party = refl

pub drawn_aside : (s : CoreState) → aside_of (drawn s) ≡ aside_of s
unfolding drawn
drawn_aside s = refl

pub renew_aside : (s : CoreState) (client : List ℕ) → aside_of (renew s client).1 ≡ aside_of s
unfolding renew
renew_aside s client = refl

pub advanced_aside : (s : CoreState) (now : Moment) → aside_of (advanced s now) ≡ aside_of s
unfolding advanced
advanced_aside s now = refl
