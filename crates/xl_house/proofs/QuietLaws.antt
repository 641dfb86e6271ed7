-- No step of a front tells of a grant; and of who is told of one by a turn, none waits any more.
use Rattle.std.proofs.Common.{◌≡◌, ℕ, ◌+◌, ◌≤◌, if◌then◌else◌, Option, Some, None, IfSome, List, [], ◌∷◌, length, refl, sym, ap, ◌∙◌, arith}
use Rattle.std.specs.Bool.{◌==◌}
use Rattle.std.specs.List.{find}
use Rattle.xl_base.specs.declared.event.Moment.{Moment}
use Rattle.xl_base.specs.declared.event.Out.{Out}
use Rattle.xl_base.specs.declared.journal.Exports.{Exports}
use Rattle.xl_wait.specs.declared.waiter.Rooms.{Rooms}
use Rattle.xl_programs.specs.Programs.{RequestItem}
use Rattle.xl_core.specs.Decide.{ask}
use Rattle.xl_core.specs.Deeds.{all_told_of, AreFit}
use Rattle.xl_core.specs.Good.{IsGood}
use Rattle.xl_core.specs.State.{CoreState, MayBe}
use Rattle.xl_core.specs.Ticks.{tick}
use Rattle.xl_core.specs.declared.ask.Effect.{Effect}
use Rattle.xl_core.specs.declared.ask.Effect.TheVariants.{Begun, Served, Cancelled, Expired}
use Rattle.xl_core.specs.declared.ask.Answer.TheVariants as answers
use Rattle.xl_core.proofs.FrameLaws.{tick_unserved}
use Rattle.xl_core.proofs.NumberLaws.{turn_numbers}
use Rattle.xl_core.specs.Frames.{with_told, who_left}
use Rattle.xl_core.specs.Numbers.{numbers_of}
use Rattle.xl_core.specs.Settle.{settle}
use Rattle.xl_front_nfs.specs.FrontNfs.{nfs_deeds, nfs_step}
use Rattle.xl_front_nfs.specs.State.{FrontNfs}
use Rattle.xl_nfs_laws.proofs.RequestDeedLaws as nfs
use Rattle.xl_nfs_laws.proofs.RequestOwn.{request_takes}
use Rattle.xl_front_nlm.proofs.AnswerLaws.{answer_tells, answer_takes}
use Rattle.xl_front_nlm.proofs.DoesLaws.{step_tells, step_takes}
use Rattle.xl_front_nlm.specs.Answers.{refuses, refused_grant, refusal_deeds, nlm_called}
use Rattle.xl_front_nlm.specs.Asks.{refusal_ask}
use Rattle.xl_front_nlm.specs.FrontNlm.{nlm_deeds, nlm_step}
use Rattle.xl_front_nlm.specs.Hosts.{rooms}
use Rattle.xl_front_nlm.specs.State.{FrontState}
use Rattle.xl_front_nlm.specs.declared.call.GrantedCall.{GrantedCall}
use Rattle.xl_front_nlm.specs.declared.grant.Grant.{Grant}
use Rattle.xl_front_smb.specs.Ending.{smb_end_deeds, smb_end}
use Rattle.xl_front_smb.specs.FrontSmb.{smb_deeds, smb_step}
use Rattle.xl_front_smb.specs.State.{FrontSmb}
use Rattle.xl_smb_laws.proofs.RequestDeedLaws as smb
use Rattle.xl_smb_laws.proofs.RequestOwn as smb_own
use Rattle.xl_house.specs.Telling.{is_grant, grants}
use Rattle.xl_house.proofs.MayLaws.{nlm_may, nfs_may, smb_may, last_may, unserved_quiet, both_quiet, asked_quiet, may_quiet, end_quiet}
use Rattle.xl_core.proofs.StoreLaws.{may_be_made}

-- a reading of the clock tells of no grant
tick_quiet : (n : ℕ) (s : CoreState) (now : Moment) → grants (tick n s now).0 ≡ 0
tick_quiet n s now = unserved_quiet (tick n s now).0 (tick_unserved n s now)

-- ---- as the code tells it

pub reading_quiet : (s t : CoreState) (now : Moment) (effects : List Effect) → ((n : ℕ) → MayBe n t → tick n s now ≡ (effects, t)) → grants effects ≡ 0
reading_quiet s t now effects is = ap (λ (r : List Effect × CoreState). grants r.0) (sym (is t.made (may_be_made t))) ∙ tick_quiet t.made s now

pub step_quiet : (exports : Exports) (f g : FrontState) (s t : CoreState) (conn : ℕ) (r : RequestItem) (outs : List Out) (effects : List Effect) → IsGood s → ((n : ℕ) → MayBe n t → nlm_step n exports f s conn r ≡ (outs, effects, g, t)) → grants effects ≡ 0
step_quiet exports f g s t conn r outs effects good is =
    let n = t.made in
    ap (λ (x : List Out × List Effect × FrontState × CoreState). grants x.1) (sym (is n (may_be_made t)))
    ∙ ap (λ (told : List Effect). grants told) (step_tells n exports f s conn r)
    ∙ may_quiet n s conn [] (nlm_deeds n exports f s r) good (step_takes n exports f s r) (nlm_may n conn [] exports f s r good)

pub nfs_quiet : (exports : Exports) (others : ℕ) (f g : FrontNfs) (s t : CoreState) (conn : ℕ) (r : RequestItem) (outs : List Out) (effects : List Effect) → IsGood s → ((n : ℕ) → MayBe n t → nfs_step n exports others f s conn r ≡ (outs, effects, g, t)) → grants effects ≡ 0
nfs_quiet exports others f g s t conn r outs effects good is =
    let n = t.made in
    ap (λ (x : List Out × List Effect × FrontNfs × CoreState). grants x.1) (sym (is n (may_be_made t)))
    ∙ ap (λ (told : List Effect). grants told) (nfs.request_tells n exports others f s conn r)
    ∙ may_quiet n s conn [] (nfs_deeds n exports others f s r) good (request_takes n exports others f s r good) (nfs_may n conn [] exports others f s r good)

pub smb_quiet : (exports : Exports) (others : ℕ) (f g : FrontSmb) (s t : CoreState) (conn : ℕ) (bytes : List ℕ) (outs : List Out) (effects : List Effect) → IsGood s → ((n : ℕ) → MayBe n t → smb_step n exports others f s conn bytes ≡ (outs, effects, g, t)) → grants effects ≡ 0
smb_quiet exports others f g s t conn bytes outs effects good is =
    let n = t.made in
    ap (λ (x : List Out × List Effect × FrontSmb × CoreState). grants x.1) (sym (is n (may_be_made t)))
    ∙ ap (λ (told : List Effect). grants told) (smb.step_tells n exports others f s conn bytes)
    ∙ may_quiet n s conn bytes (smb_deeds n exports others f s conn bytes) good (smb_own.step_takes n exports others f s conn bytes) (smb_may n exports others f s conn bytes)

pub last_quiet : (f g : FrontSmb) (s t : CoreState) (conn : ℕ) (effects : List Effect) → IsGood s → smb_end f s conn ≡ (effects, g, t) → grants effects ≡ 0
last_quiet f g s t conn effects good is =
    ap (λ (x : List Effect × FrontSmb × CoreState). grants x.0) (sym is)
    ∙ ap (λ (told : List Effect). grants told) (smb.end_tells 0 f s conn)
    ∙ end_quiet 0 s conn (smb_end_deeds f s conn) good (smb_own.end_takes 0 f s conn) (last_may f s conn)

refusal_quiet : (n : ℕ) (hosts : List (List ℕ)) (s : CoreState) (o : Option Grant) → IsGood s → AreFit n s (refusal_deeds hosts o) → grants (all_told_of n s (refusal_deeds hosts o)) ≡ 0
refusal_quiet n hosts s None good fit = refl
refusal_quiet n hosts s (Some grant) good fit =
    let a = refusal_ask grant in
    both_quiet (ask n (rooms hosts) s a).1 [] (asked_quiet n (rooms hosts) s a good fit.0.party) refl

pub answer_quiet : (f g : FrontState) (s t : CoreState) (number : ℕ) (reply : Option (List ℕ)) (effects : List Effect) → IsGood s → ((n : ℕ) → MayBe n t → nlm_called n f s number reply ≡ (effects, g, t)) → grants effects ≡ 0
answer_quiet f g s t number reply effects good is =
    let n = t.made in
    ap (λ (x : List Effect × FrontState × CoreState). grants x.0) (sym (is n (may_be_made t)))
    ∙ ap (λ (told : List Effect). grants told) (answer_tells n f s number reply)
    ∙ refusal_quiet n f.hosts s (refused_grant s (refuses reply) (find (λ (c : GrantedCall). c.number == number) f.calls)) good (answer_takes n f s number reply)

-- ---- a turn

-- who is told of a grant waits no more
with_left : (effect : Effect) (effects : List Effect) → (if is_grant effect then grants effects + 1 else grants effects) ≤ length (with_told effect []) + grants effects
with_left (Served party id (answers.Granted claim)) effects = omega arith
with_left (Served party id (answers.Conflict claim)) effects = omega arith
with_left (Served party id (answers.Queued number)) effects = omega arith
with_left (Served party id (answers.Recall claim)) effects = omega arith
with_left (Served party id (answers.Grace until)) effects = omega arith
with_left (Served party id (answers.NoGrace clock)) effects = omega arith
with_left (Served party id answers.NotRecorded) effects = omega arith
with_left (Served party id (answers.Full limit)) effects = omega arith
with_left (Served party id answers.NotHeld) effects = omega arith
with_left (Served party id answers.StoreFailed) effects = omega arith
with_left (Begun cache to call) effects = omega arith
with_left (Cancelled party id) effects = omega arith
with_left (Expired client) effects = omega arith

one_left : (effect : Effect) (ids : List ℕ) → length (with_told effect ids) ≡ length (with_told effect []) + length ids
one_left (Served party id answer) ids = omega arith
one_left (Begun cache to (Some number)) ids = omega arith
one_left (Begun cache to None) ids = omega arith
one_left (Cancelled party id) ids = omega arith
one_left (Expired client) ids = omega arith

grants_left : (effects : List Effect) → grants effects ≤ length (who_left effects)
grants_left [] = omega arith
grants_left (effect ∷ effects) = omega (arith, with_left effect effects, one_left effect (who_left effects), grants_left effects)

-- a turn leaves the numbers for the calls that tell of it
pub turn_pays : (n : ℕ) (left : Rooms) (s : CoreState) → IsGood s → IfSome (settle n left s) (λ r. numbers_of r.1 + grants r.0 ≤ numbers_of s)
turn_pays n left s good = by (settle n left s) (turn_numbers n left s good) where
  by : (o : Option (List Effect × CoreState)) → IfSome o (λ r. numbers_of r.1 + length (who_left r.0) ≤ numbers_of s) → IfSome o (λ r. numbers_of r.1 + grants r.0 ≤ numbers_of s)
  by None pays = tt
  by (Some r) pays = omega (arith, pays, grants_left r.0)
