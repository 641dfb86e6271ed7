-- What each call that is drawn does to the machine, and what it is told.
use Rattle.std.proofs.Common.{◌≡◌, ℕ, pos, ◌+◌, ◌-◌, ◌*◌, ◌%◌, ◌^◌, Bool, true, false, ◌==◌, ◌⊎◌, inl, inr, if◌then◌else◌, List, [], ◌∷◌, ◌++◌, codes, Option, Some, None, is_some, Ok, refl, sym, ap, subst, ◌∙◌, append_assoc, append-nil, arith}
use Rattle.std.proofs.lemmas.Bool.{cases_Bool, le-leb}
use Rattle.xl_matrix.specs.declared.claim.Extent.TheVariants.{Bytes}
use Rattle.xl_names.specs.declared.name.Name.{Name}
use Rattle.xl_wait.specs.declared.waiter.Waiter.{Waiter}
use Rattle.xl_nlm.specs.Items.{CallItem, LockArgsItem, TestArgsItem, Test, Lock, Unlock, TestResItem, TestAnswer, Answer as ResAnswer}
use Rattle.xl_nlm.specs.Replies.{results, results_at, res, test_res, status, holder, is_denied}
use Rattle.xl_nlm.specs.Arguments.{name}
use Rattle.xl_format.specs.Formats.{optional}
use Rattle.xl_nlm.specs.declared.item.NlmStatus.{NlmStatus}
use Rattle.xl_nlm.specs.declared.item.NlmStatus.TheVariants as stats
use Rattle.xl_core.specs.Decide.{ask}
use Rattle.xl_core.specs.State.{CoreState}
use Rattle.xl_core.specs.declared.ask.Act.TheVariants as acts
use Rattle.xl_core.specs.declared.ask.Answer.{Answer}
use Rattle.xl_core.specs.declared.ask.Answer.TheVariants as answers
use Rattle.xl_core.specs.declared.ask.Ask.{Ask}
use Rattle.xl_core.specs.declared.ask.Effect.{Effect}
use Rattle.xl_plan.specs.Plans.{Tells, carried}
use Rattle.xl_front_nlm.specs.Aims.{aimed, aimed_in, aimed_at, last_of}
use Rattle.xl_front_nlm.specs.Asks.{owner_of, test_ask, unlock_ask}
use Rattle.xl_names.specs.Names.{number_of}
use Rattle.xl_front_nlm.specs.Hosts.{rooms, host_rows, host_entered, hosts_after, makes_host}
use Rattle.xl_front_nlm.specs.Results.{reply_of, answer_status, test_result}
use Rattle.xl_front_nlm.specs.Serving.{asks, planned, at_bytes, lock_plan, hosted, served}
use Rattle.xl_front_nlm.specs.Standing.{waiter_by, does_wait}
use Rattle.xl_front_nlm.specs.State.{FrontState}
use Rattle.xl_front_nlm.specs.declared.aim.Aim.{Aim}
use Rattle.xl_front_nlm.specs.declared.outcome.Outcome.{Outcome}
use Rattle.xl_front_nlm.specs.declared.outcome.Outcome.TheVariants.{Waits, Answered}
use Rattle.xl_capture.specs.Summary.{results_status}
use Rattle.xl_make.specs.Made.{asked_by, lock_by}
use Rattle.xl_make.proofs.CallLaws.{exported_again, res_again}
use Rattle.xl_make.proofs.DrawnLaws.{AreOurs, IsAble, IsMadeCore, IsPlain, IsDrawnWell, drawn_ask, tells_nothing, lock_well, test_well, unlock_well}

-- ---- what a call names

last_is : (d : ℕ) → last_of (10 * (d % 16)) 10 ≡ Some (10 * (d % 16) + 10 - 1)
last_is d = rw (le-leb (10 * (d % 16) + 10) (2 ^ 64) (omega arith)) refl

abbrev aim_by : ℕ → ℕ → Aim
aim_by b d = record { file = 1 + b % 8; first = 10 * (d % 16); last = 10 * (d % 16) + 10 - 1 }

aimed_is : (b c d : ℕ) → aimed 8 (lock_by b c d) ≡ Ok (aim_by b d)
unfolding aimed
aimed_is b c d = ap (aimed_in (lock_by b c d)) (exported_again (1 + b % 8) (omega arith) (omega arith)) ∙ ap (aimed_at (lock_by b c d) (1 + b % 8)) (last_is d)

-- ---- what a reply tells

-- granted or denied
abbrev pub IsTold : Option NlmStatus → Type 0
IsTold o = (o ≡ Some stats.Granted) ⊎ (o ≡ Some stats.Denied)

plain_told : (answer : Answer) → IsPlain answer → IsTold (Some (answer_status answer))
plain_told (answers.Granted c) plain = inl refl
plain_told (answers.Conflict c) plain = inr refl
plain_told answers.NotHeld plain = inl refl
plain_told (answers.Queued id) plain = absurd plain
plain_told (answers.NoGrace clock) plain = absurd plain
plain_told (answers.Full limit) plain = absurd plain
plain_told (answers.Recall c) plain = inr refl
plain_told (answers.Grace until) plain = absurd plain
plain_told answers.NotRecorded plain = absurd plain
plain_told answers.StoreFailed plain = absurd plain

res_status : (stat : NlmStatus) → results_status (results_at 2 (results (ResAnswer (record { cookie = []; stat = stat })))) ≡ Some stat
res_status stat =
    let bytes = results (ResAnswer (record { cookie = []; stat = stat })) in
    ap (λ (b : List ℕ). results_status (results_at 2 b)) (sym (append-nil bytes)) ∙ ap results_status (res_again stat [])

-- a test's result begins as that of a lock
test_front : (t : TestResItem) → (rest : List ℕ) × (results (TestAnswer t) ≡ results (ResAnswer (record { cookie = t.cookie; stat = t.stat })) ++ rest)
unfolding test_res res
test_front t = ((optional (is_denied t.stat) holder).spell t.holder, sym (append_assoc (name.spell t.cookie) (status.spell t.stat) ((optional (is_denied t.stat) holder).spell t.holder)))

test_status_is : (t : TestResItem) → t.cookie ≡ [] → results_status (results_at 2 (results (TestAnswer t))) ≡ Some t.stat
test_status_is t none =
    let parts = test_front t in
    let begins : results (TestAnswer t) ≡ results (ResAnswer (record { cookie = []; stat = t.stat })) ++ parts.0 = parts.1 ∙ ap (λ (c : List ℕ). results (ResAnswer (record { cookie = c; stat = t.stat })) ++ parts.0) none in
    ap (λ (b : List ℕ). results_status (results_at 2 b)) begins ∙ ap results_status (res_again t.stat parts.0)

-- ---- what comes of a call

pub record IsServed (n : ℕ) (f : FrontState) (s : CoreState) (c : CallItem) : Type 0 where
  pub answer : Answer
  pub front : FrontState
  pub core : CoreState
  pub is : served n 8 f s c ≡ (Answered answer, [], front, core)
  pub told : (names : List Name) → IsTold (results_status (results_at 2 (results (reply_of names c (Answered answer)))))
  pub hosts : AreOurs front.hosts
  pub kept : IsMadeCore core

hosts_ours : (answer : Answer) (hosts : List (List ℕ)) → AreOurs hosts → AreOurs (hosts_after answer (codes "m") hosts)
hosts_ours answer hosts ours = by (makes_host answer) where
  entered : AreOurs hosts → AreOurs (host_entered (codes "m") hosts)
  entered (inl none) = inr (ap (λ (hs : List (List ℕ)). host_entered (codes "m") hs) none)
  entered (inr one) = inr (ap (λ (hs : List (List ℕ)). host_entered (codes "m") hs) one)

  by : (b : Bool) → AreOurs (if b then host_entered (codes "m") hosts else hosts)
  by true = entered ours
  by false = ours

none_by : (at : Aim) (exclusive : Bool) (o : Option ℕ) → is_some (waiter_by [] at exclusive o) ≡ false
none_by at exclusive None = refl
none_by at exclusive (Some number) = refl

nobody_waits : (s : CoreState) (a : LockArgsItem) (at : Aim) → s.waiters ≡ [] → does_wait s a at ≡ false
nobody_waits s a at none =
    ap (λ (ws : List Waiter). is_some (waiter_by ws at a.exclusive (number_of (owner_of a.lock) s.names))) none ∙ none_by at a.exclusive (number_of (owner_of a.lock) s.names)

-- an ask is told so
abbrev gives : ℕ → FrontState → CoreState → Option (List ℕ) → Ask → Outcome × List Effect × FrontState × CoreState
gives n f s host a = carried n s f (asks host f (rooms f.hosts) a)

quietly : (n : ℕ) (f : FrontState) (s : CoreState) (host : Option (List ℕ)) (a : Ask) → (ask n (rooms f.hosts) s a).1 ≡ []
    → gives n f s host a ≡ (Answered (ask n (rooms f.hosts) s a).0, [], hosted host (ask n (rooms f.hosts) s a).0 f, (ask n (rooms f.hosts) s a).2)
quietly n f s host a none =
    ap (λ (es : List Effect). (Answered (ask n (rooms f.hosts) s a).0, es ++ [], hosted host (ask n (rooms f.hosts) s a).0 f, (ask n (rooms f.hosts) s a).2)) none

lock_served : (n : ℕ) (f : FrontState) (s : CoreState) (exclusive : Bool) (b c d : ℕ) → IsMadeCore s → IsAble n s → AreOurs f.hosts
    → IsServed n f s (Lock (record { cookie = []; block = false; exclusive = exclusive; lock = lock_by b c d; reclaim = false; state = pos 0 }))
unfolding served planned reply_of
lock_served n f s exclusive b c d core able ours = record {
  answer = (ask n (rooms f.hosts) s a).0;
  front = hosted (Some (codes "m")) (ask n (rooms f.hosts) s a).0 f;
  core = (ask n (rooms f.hosts) s a).2;
  is = ap (carried n s f) plan ∙ quietly n f s (Some (codes "m")) a (tells_nothing n (rooms f.hosts) s a core refl);
  told = λ names. subst (λ (o : Option NlmStatus). IsTold o) (sym (res_status (answer_status (ask n (rooms f.hosts) s a).0))) (plain_told (ask n (rooms f.hosts) s a).0 well.plain);
  hosts = hosts_ours (ask n (rooms f.hosts) s a).0 f.hosts ours;
  kept = well.core;
} where
  args : LockArgsItem
  args = record { cookie = []; block = false; exclusive = exclusive; lock = lock_by b c d; reclaim = false; state = pos 0 }

  a : Ask
  a = drawn_ask true (c % 4) (1 + b % 8) (acts.Ranges ((Bytes (10 * (d % 16)) (10 * (d % 16) + 10 - 1), exclusive) ∷ [])) (host_rows (codes "m") f.hosts)

  well : IsDrawnWell s (ask n (rooms f.hosts) s a)
  well = lock_well n f.hosts s (c % 4) (1 + b % 8) (10 * (d % 16)) (10 * (d % 16) + 10 - 1) exclusive core able ours (omega arith) (omega arith) (omega arith) (omega arith)

  plan : planned 8 f s (Lock args) ≡ asks (Some (codes "m")) f (rooms f.hosts) a
  plan =
      ap (at_bytes (λ at. lock_plan true f s args at)) (aimed_is b c d)
      ∙ ap (λ (w : Bool). if w then Tells Waits else asks (Some (codes "m")) f (rooms f.hosts) a) (nobody_waits s args (aim_by b d) core.waiters)

unlock_served : (n : ℕ) (f : FrontState) (s : CoreState) (b c d : ℕ) → IsMadeCore s → AreOurs f.hosts → IsServed n f s (Unlock (record { cookie = []; lock = lock_by b c d }))
unfolding served planned reply_of
unlock_served n f s b c d core ours = record {
  answer = (ask n (rooms f.hosts) s a).0;
  front = f;
  core = (ask n (rooms f.hosts) s a).2;
  is = ap (carried n s f) plan ∙ quietly n f s None a (tells_nothing n (rooms f.hosts) s a core refl);
  told = λ names. subst (λ (o : Option NlmStatus). IsTold o) (sym (res_status (answer_status (ask n (rooms f.hosts) s a).0))) (plain_told (ask n (rooms f.hosts) s a).0 well.plain);
  hosts = ours;
  kept = well.core;
} where
  a : Ask
  a = drawn_ask false (c % 4) (1 + b % 8) (acts.Unlock (Bytes (10 * (d % 16)) (10 * (d % 16) + 10 - 1))) (record { hosts = 0; owners = 0; opens = 0 })

  well : IsDrawnWell s (ask n (rooms f.hosts) s a)
  well = unlock_well n (rooms f.hosts) s (c % 4) (1 + b % 8) (10 * (d % 16)) (10 * (d % 16) + 10 - 1) (record { hosts = 0; owners = 0; opens = 0 }) core (omega arith) (omega arith) (omega arith) (omega arith)

  plan : planned 8 f s (Unlock (record { cookie = []; lock = lock_by b c d })) ≡ asks None f (rooms f.hosts) a
  plan = ap (at_bytes (λ at. asks None f (rooms f.hosts) (unlock_ask (record { cookie = []; lock = lock_by b c d }) at))) (aimed_is b c d)

test_served : (n : ℕ) (f : FrontState) (s : CoreState) (exclusive : Bool) (b c d : ℕ) → IsMadeCore s → AreOurs f.hosts → IsServed n f s (Test (record { cookie = []; exclusive = exclusive; lock = lock_by b c d }))
unfolding served planned reply_of
test_served n f s exclusive b c d core ours = record {
  answer = (ask n (rooms f.hosts) s a).0;
  front = f;
  core = (ask n (rooms f.hosts) s a).2;
  is = ap (carried n s f) plan ∙ quietly n f s None a (tells_nothing n (rooms f.hosts) s a core refl);
  told = λ names. subst (λ (o : Option NlmStatus). IsTold o) (sym (test_status_is (test_result [] names (Answered (ask n (rooms f.hosts) s a).0)) refl)) (plain_told (ask n (rooms f.hosts) s a).0 well.plain);
  hosts = ours;
  kept = well.core;
} where
  args : TestArgsItem
  args = record { cookie = []; exclusive = exclusive; lock = lock_by b c d }

  a : Ask
  a = drawn_ask false (c % 4) (1 + b % 8) (acts.Test (Bytes (10 * (d % 16)) (10 * (d % 16) + 10 - 1)) exclusive) (record { hosts = 0; owners = 0; opens = 0 })

  well : IsDrawnWell s (ask n (rooms f.hosts) s a)
  well = test_well n (rooms f.hosts) s (c % 4) (1 + b % 8) (10 * (d % 16)) (10 * (d % 16) + 10 - 1) exclusive (record { hosts = 0; owners = 0; opens = 0 }) core (omega arith) (omega arith)

  plan : planned 8 f s (Test args) ≡ asks None f (rooms f.hosts) a
  plan = ap (at_bytes (λ at. asks None f (rooms f.hosts) (test_ask args at))) (aimed_is b c d)

pub call_served : (n : ℕ) (f : FrontState) (s : CoreState) (choice : ℕ) (exclusive : Bool) (b c d : ℕ) → IsMadeCore s → IsAble n s → AreOurs f.hosts → IsServed n f s (asked_by choice exclusive (lock_by b c d))
call_served n f s choice exclusive b c d core able ours =
    elim (cases_Bool (choice == 2)) [
      | inl two ↦ rw two (unlock_served n f s b c d core ours)
      | inr other ↦
          elim (cases_Bool (choice == 3)) [
            | inl three ↦ rw (other, three) (test_served n f s exclusive b c d core ours)
            | inr locks ↦ rw (other, locks) (lock_served n f s exclusive b c d core able ours)
          ]
    ]
