-- While grace runs requests wait for its end; and nothing of SMB is stored.
use Rattle.std.proofs.Common.{◌≡◌, ◌⊎◌, ℕ, ◌+◌, Bool, true, false, not, List, [], ◌∷◌, length, Some, None, is_some, refl, sym, ap, subst, ◌∙◌, inl, inr, append-nil, arith}
use Rattle.std.specs.List.{AllByRecursion}
use Rattle.std.proofs.lemmas.Bool.{false≢true}
use Rattle.xl_base.specs.declared.journal.Exports.{Exports}
use Rattle.xl_matrix.specs.declared.claim.Claim.{Claim}
use Rattle.xl_names.specs.declared.name.Name.{Name}
use Rattle.xl_smb.specs.Calls.{Create, Lock}
use Rattle.xl_smb.specs.Creates.{CreateCallItem}
use Rattle.xl_smb.specs.Locks.{LockItem, elements_of}
use Rattle.xl_smb.specs.declared.head.SmbHead.{SmbHead}
use Rattle.xl_smb.specs.declared.lock.LockElement.{LockElement}
use Rattle.xl_smb_state.specs.State.{Lists}
use Rattle.xl_smb_state.specs.declared.row.Open.{Open}
use Rattle.xl_smb_state.specs.declared.row.Place.{Place}
use Rattle.xl_smb_state.specs.declared.row.Request.TheVariants as request
use Rattle.xl_smb_state.specs.declared.row.Waiting.{Waiting}
use Rattle.xl_wait.specs.Waiting.{no_rows}
use Rattle.xl_wait.specs.declared.waiter.Rooms.{Rooms}
use Rattle.xl_core.proofs.DeedLaws.{deed_due, deed_good}
use Rattle.xl_core.proofs.FrameLaws.{ask_quiet}
use Rattle.xl_core.proofs.GoodLaws.{drawn_good}
use Rattle.xl_core.proofs.WayAsks.{ask_own}
use Rattle.xl_core.proofs.WayLaws.{way_graced}
use Rattle.xl_core.specs.Askers.{IsFitAct, asked_claim, asked_claims, asked_whats, is_named, range_what}
use Rattle.xl_core.specs.Causes.{IsAgainst, IsClaimDue, asks_claims, limits_of_wait}
use Rattle.xl_core.specs.Decide.{ask, plea_of, way}
use Rattle.xl_core.specs.Deeds.{Deed, Acks, Advances, AreFit, Asks, Cancels, Closes, Draws, Ends, EndsGrace, Expires, FailsStore, GivesBack, IsFitDeed, Lapses, Renews, Serves, Weakens, all_done, done}
use Rattle.xl_core.specs.Dues.{IsAnswerDue}
use Rattle.xl_core.specs.Good.{IsGood}
use Rattle.xl_core.specs.Limits.{IsLeastPassed, IsRoom}
use Rattle.xl_core.specs.Standings.{enters, is_timely, refusal, standing_again, stands}
use Rattle.xl_core.specs.State.{CoreState, aside_of, drawn}
use Rattle.xl_core.specs.declared.ask.Act.{Act}
use Rattle.xl_core.specs.declared.ask.Act.TheVariants as acts
use Rattle.xl_core.specs.declared.ask.Answer.{Answer}
use Rattle.xl_core.specs.declared.ask.Answer.TheVariants as answers
use Rattle.xl_core.specs.declared.ask.Ask.{Ask}
use Rattle.xl_core.specs.declared.ask.Effect.{Effect}
use Rattle.xl_core.specs.declared.ask.Who.{Who}
use Rattle.xl_core.specs.declared.ask.Who.TheVariants as who
use Rattle.xl_plan.proofs.AsideLaws.{ack_aside, cancel_aside, close_aside, drawn_aside}
use Rattle.xl_smb_locks.specs.Elements.{is_count, lock_fault, unlocks_first}
use Rattle.xl_smb_locks.specs.Levels.{caching}
use Rattle.xl_smb_locks.specs.Locks.{lock_ask, lock_told}
use Rattle.xl_smb_locks.specs.Short.{IsOpenAsk}
use Rattle.xl_smb_locks.specs.declared.status.SmbStatus.{SmbStatus}
use Rattle.xl_smb_locks.specs.declared.status.SmbStatus.TheVariants.{InsufficientResources}
use Rattle.xl_smb_locks.proofs.FitLaws.{lock_fits}
use Rattle.xl_smb_locks.proofs.PlainLaws.{none_refused, plain_aside, plain_stands, plain_unrefused}
use Rattle.xl_front_smb.specs.Checks.{refused}
use Rattle.xl_front_smb.specs.Ending.{smb_end, smb_end_deeds}
use Rattle.xl_front_smb.specs.Files.{open_as, open_ask, open_row, rooms_left}
use Rattle.xl_front_smb.specs.FrontSmb.{smb_deeds, smb_step}
use Rattle.xl_front_smb.specs.Laws.{IsOnTree, outcome_of}
use Rattle.xl_front_smb.specs.Locks.{lock_by, place_of, waiting_row}
use Rattle.xl_front_smb.specs.Owners.{IsAskedBy, IsOwn}
use Rattle.xl_front_smb.specs.Plans.{Outcome, Plan, carried, opened_told, told_as}
use Rattle.xl_front_smb.specs.State.{FrontSmb}
use Rattle.xl_front_smb.specs.Texts.{file_spelled}
use Rattle.xl_front_smb.specs.declared.told.Told.{Told}
use Rattle.xl_front_smb.specs.declared.told.Told.TheVariants.{Failed, Pending}
use Rattle.xl_front_smb.proofs.AskLaws.{open_fits}
use Rattle.xl_front_smb.proofs.LockLaws.{counted}
use Rattle.xl_smb_laws.specs.InGrace.{MayAsk, WaitsForGrace}
use Rattle.xl_smb_laws.specs.LockLaws.{IsOfOpen}
use Rattle.xl_smb_laws.proofs.CreateLaws.{found_checks, found_is}
use Rattle.xl_smb_laws.proofs.RangeLaws.{by_lock}
use Rattle.xl_smb_laws.proofs.RequestDeedLaws.{end_does, step_does}
use Rattle.xl_smb_laws.proofs.RequestOwn.{end_own, end_takes, step_own, step_takes}

-- ---- an ask

out_of_time : (s : CoreState) (a : Ask) → IsOpenAsk a → is_some s.grace ≡ true → is_timely (stands s a) ≡ false
out_of_time s a is runs = ap is_timely (plain_stands s a is) ∙ rw runs refl

kept_out : (s : CoreState) (a : Ask) → IsOpenAsk a → is_some s.grace ≡ true → enters (stands s a) ≡ false
kept_out s a is runs = ap enters (plain_stands s a is) ∙ rw runs refl

no_way : (left : Rooms) (s : CoreState) (a : Ask) → IsOpenAsk a → is_some s.grace ≡ true → way left s a ≡ ([], s)
unfolding plea_of
no_way left s a is runs = way_graced s.waiters (plea_of left s a) (asked_claims a (asked_whats a.act) s.names) s (out_of_time s a is runs)

-- it waits, or a limit of those who wait is passed
abbrev Awaits : List (ℕ × Bool) → CoreState → Answer → Type 0
Awaits limits s answer = ((answer ≡ answers.Queued (s.counter + 1)) × IsRoom limits) ⊎ ((limit : ℕ) × (answer ≡ answers.Full limit) × IsLeastPassed limits limit)

against_none : (s : CoreState) (a : Ask) (claim c : Claim) → is_some s.grace ≡ true → IsAgainst (standing_again s) s a claim c → ⊥
against_none s a claim c runs against = rw runs at against

claim_waits : (n : ℕ) (left : Rooms) (s : CoreState) (a : Ask) (claim : Claim) (answer : Answer) → IsOpenAsk a → is_some s.grace ≡ true → IsClaimDue n left s a claim answer → Awaits (limits_of_wait left s a) s answer
claim_waits n left s a claim (answers.Queued number) is runs due = inl (ap answers.Queued due.0, due.2)
claim_waits n left s a claim (answers.Full limit) is runs due = elim due [ inl granted ↦ absurd (false≢true (sym (kept_out s a is runs) ∙ granted.0)) | inr waits ↦ inr (limit, refl, waits.1) ]
claim_waits n left s a claim (answers.Granted c) is runs due = absurd (false≢true (sym (kept_out s a is runs) ∙ due.1))
claim_waits n left s a claim (answers.Conflict c) is runs due = absurd (against_none s a claim c runs (subst (λ x. IsAgainst x s a claim c) (plain_stands s a is) due))
claim_waits n left s a claim (answers.Recall c) is runs due = absurd (false≢true (sym (out_of_time s a is runs) ∙ ap is_timely due.0))
claim_waits n left s a claim (answers.Grace until) is runs due = absurd (none_refused (sym (plain_unrefused s a is) ∙ ap refusal due))
claim_waits n left s a claim (answers.NoGrace clock) is runs due = absurd (false≢true (sym is.reclaim ∙ due.2))
claim_waits n left s a claim answers.NotRecorded is runs due = absurd (none_refused (sym (plain_unrefused s a is) ∙ ap refusal due))
claim_waits n left s a claim answers.NotHeld is runs due = absurd due
claim_waits n left s a claim answers.StoreFailed is runs due = absurd (false≢true (sym (kept_out s a is runs) ∙ due.0))

act_waits : (n : ℕ) (left : Rooms) (s : CoreState) (a : Ask) (act : Act) (answer : Answer) → IsOpenAsk a → is_some s.grace ≡ true → asks_claims act ≡ true → IsFitAct a.owner a.blocking act → IsAnswerDue n left s a act answer → Awaits (limits_of_wait left s a) s answer
act_waits n left s a (acts.Share access deny) answer is runs asks fit due = claim_waits n left s a _ answer is runs due.cause
act_waits n left s a (acts.Ranges []) answer is runs asks fit due = absurd fit
act_waits n left s a (acts.Ranges (range ∷ [])) answer is runs asks fit due = claim_waits n left s a _ answer is runs due.cause
act_waits n left s a (acts.Ranges (range ∷ more ∷ ranges)) answer is runs asks fit due = claim_waits n left s a (asked_claim a (range_what range) s.names) answer is runs (due.0 (kept_out s a is runs))
act_waits n left s a (acts.Test extent exclusive) answer is runs asks fit due = absurd (false≢true asks)
act_waits n left s a (acts.Unlock extent) answer is runs asks fit due = absurd (false≢true asks)
act_waits n left s a acts.Wish answer is runs asks fit due = absurd (false≢true asks)

queued_granted : {id : ℕ} {c : Claim} → answers.Queued id ≡ answers.Granted c → ⊥
queued_granted e = cc

full_granted : {limit : ℕ} {c : Claim} → answers.Full limit ≡ answers.Granted c → ⊥
full_granted e = cc

not_granted : (limits : List (ℕ × Bool)) (s : CoreState) (answer : Answer) → Awaits limits s answer → (c : Claim) → answer ≡ answers.Granted c → ⊥
not_granted limits s answer waits c e = elim waits [ inl queued ↦ queued_granted (sym queued.0 ∙ e) | inr full ↦ full_granted (sym full.1 ∙ e) ]

-- nothing begins for it, and no claim changes
ask_waits : (n : ℕ) (left : Rooms) (s : CoreState) (a : Ask) → IsGood s → IsOpenAsk a → asks_claims a.act ≡ true → is_some s.grace ≡ true
    → Awaits (limits_of_wait left s a) s (ask n left s a).0 × ((ask n left s a).1 ≡ []) × ((ask n left s a).2.claims ≡ s.claims)
ask_waits n left s a good is asks runs =
    let r = ask n left s a in
    let none : way left s a ≡ ([], s) = no_way left s a is runs in
    let due : IsAnswerDue n left s a a.act r.0 = subst (λ (w : List Effect × CoreState). IsAnswerDue n left w.1 a a.act r.0) none (deed_due n s (Asks left a) good is.fit) in
    let waits = act_waits n left s a a.act r.0 is runs asks is.fit.act due in (
      waits,
      ask_quiet n left s a good is.fit.party ∙ ap (λ (w : List Effect × CoreState). w.0) none,
      (ask_own n left s a good is.fit.party).claims (not_granted (limits_of_wait left s a) s r.0 waits) ∙ ap (λ (w : List Effect × CoreState). w.1.claims) none,
    )

-- as an answer of it is told
told_waits : (limits : List (ℕ × Bool)) (s : CoreState) (answer : Answer) (tell : Answer → Told) (number : ℕ) → ((id : ℕ) → tell (answers.Queued id) ≡ Pending id) → ((limit : ℕ) → tell (answers.Full limit) ≡ Failed InsufficientResources) → s.counter + 1 ≡ number → Awaits limits s answer
    → ((tell answer ≡ Pending number) × IsRoom limits) ⊎ ((limit : ℕ) × (tell answer ≡ Failed InsufficientResources) × IsLeastPassed limits limit)
told_waits limits s answer tell number queued full next waits = elim waits [
  | inl is ↦ inl (ap tell is.0 ∙ queued (s.counter + 1) ∙ ap Pending next, is.1)
  | inr is ↦ inr (is.0, ap tell is.1 ∙ full is.0, is.2)
]

-- ---- CREATE

all_passed : (checks : List (Bool × SmbStatus)) (plan : Plan) → AllByRecursion (λ (check : Bool × SmbStatus). check.0 ≡ false) checks → refused checks plan ≡ plan
all_passed [] plan all = refl
all_passed (check ∷ checks) plan all = rw all.0 (all_passed checks plan all.1)

may_pass : (s : CoreState) (others : ℕ) (l : Lists) (client : List ℕ) (c : CreateCallItem) (file : ℕ) → MayAsk s others l client c file → AllByRecursion (λ (check : Bool × SmbStatus). check.0 ≡ false) (found_checks s others l client c file)
may_pass s others l client c file may = (may.known, (may.keeps, (may.opens, (may.keyed, (ap not may.room, tt)))))

open_waits : (n : ℕ) (s : CoreState) (others : ℕ) (l : Lists) (h : SmbHead) (client : List ℕ) (place : Place) (c : CreateCallItem) (file : ℕ) → IsGood s → is_some s.grace ≡ true
    → WaitsForGrace (limits_of_wait (rooms_left others l) (drawn s) (open_ask place.connection (s.counter + 1) (open_row file client place c) c)) (s.counter + 2) s (carried n s l (open_as s others l h client place c file (s.counter + 1)))
unfolding open_ask drawn
open_waits n s others l h client place c file good runs =
    let number = s.counter + 1 in
    let row = open_row file client place c in
    let a = open_ask place.connection number row c in
    let left = rooms_left others l in
    let r = ask n left (drawn s) a in
    let waits = ask_waits n left (drawn s) a (drawn_good s good) (open_fits place.connection number row c refl) refl runs in
    record {
      told = told_waits (limits_of_wait left (drawn s) a) (drawn s) r.0 (opened_told _ (caching r.2 number row)) (s.counter + 2) (λ id. refl) (λ limit. refl) (omega arith) waits.0;
      silent = append-nil r.1 ∙ waits.1;
      held = waits.2;
    }

pub creates_wait : (n : ℕ) (s : CoreState) (files : List (List ℕ)) (others : ℕ) (l : Lists) (conn : ℕ) (h : SmbHead) (client : List ℕ) (c : CreateCallItem) (session file : ℕ) (place : Place)
    → IsOnTree s l conn h client session place → file_spelled files c.name ≡ Some file → MayAsk s others l client c file → IsGood s → is_some s.grace ≡ true
    → WaitsForGrace (limits_of_wait (rooms_left others l) (drawn s) (open_ask place.connection (s.counter + 1) (open_row file client place c) c)) (s.counter + 2) s (outcome_of n s files others l conn h (Create c))
creates_wait n s files others l conn h client c session file place named at may good runs =
    let opens = open_as s others l h client place c file (s.counter + 1) in
    let is = found_is s files others l conn h client c session file place named at ∙ all_passed (found_checks s others l client c file) opens (may_pass s others l client c file may) in
    subst (λ (plan : Plan). WaitsForGrace (limits_of_wait (rooms_left others l) (drawn s) (open_ask place.connection (s.counter + 1) (open_row file client place c) c)) (s.counter + 2) s (carried n s l plan)) (sym is)
    (open_waits n s others l h client place c file good runs)

-- ---- LOCK

lock_waits : (n : ℕ) (s : CoreState) (l : Lists) (conn : ℕ) (kept : Waiting) (number : ℕ) (row : Open) (es : List LockElement) → IsGood s → is_some s.grace ≡ true → lock_fault es ≡ None → is_count (length es) ≡ true
    → WaitsForGrace (limits_of_wait no_rows s (lock_ask conn number row es)) (s.counter + 1) s (carried n s l (lock_by conn kept number row es None))
unfolding lock_ask
lock_waits n s l conn kept number row es good runs fault count =
    let a = lock_ask conn number row es in
    let r = ask n no_rows s a in
    let waits = ask_waits n no_rows s a good (lock_fits conn number row es fault (counted (length es) count)) refl runs in
    record {
      told = told_waits (limits_of_wait no_rows s a) s r.0 (λ answer. told_as (lock_told answer)) (s.counter + 1) (λ id. refl) (λ limit. refl) refl waits.0;
      silent = append-nil r.1 ∙ waits.1;
      held = waits.2;
    }

pub locks_wait : (n : ℕ) (s : CoreState) (files : List (List ℕ)) (others : ℕ) (l : Lists) (conn : ℕ) (h : SmbHead) (client : List ℕ) (c : LockItem) (session : ℕ) (place : Place) (number : ℕ) (row : Open)
    → IsOfOpen s l conn h client c.file_id session place number row → unlocks_first (elements_of c.elements) ≡ false → is_count (length (elements_of c.elements)) ≡ true → lock_fault (elements_of c.elements) ≡ None → IsGood s → is_some s.grace ≡ true
    → WaitsForGrace (limits_of_wait no_rows s (lock_ask conn number row (elements_of c.elements))) (s.counter + 1) s (outcome_of n s files others l conn h (Lock c))
locks_wait n s files others l conn h client c session place number row of first count fault good runs =
    let es = elements_of c.elements in
    let kept = waiting_row h (place_of row.holder place) number request.Lock in
    let waits = lock_waits n s l conn kept number row es good runs fault count in
    by_lock n s files others l conn h client (λ (r : Outcome). WaitsForGrace (limits_of_wait no_rows s (lock_ask conn number row es)) (s.counter + 1) s r) c session place number row of
    (rw (count, first, fault) waits)

-- ---- nothing is stored

unnamed_by : (conn : ℕ) (l : Lists) (last : ℕ) (owner party : Who) → IsAskedBy conn l last owner party → is_named owner ≡ false
unnamed_by conn l last (who.Open number) party own = refl
unnamed_by conn l last (who.Named name) party own = absurd own

deed_stores_none : (n : ℕ) (s : CoreState) (names : List Name) (conn : ℕ) (l : Lists) (last : ℕ) (d : Deed) → IsGood s → IsFitDeed s d → IsOwn names conn l last d → aside_of (done n s d) ≡ aside_of s
deed_stores_none n s names conn l last Draws good fit own = drawn_aside s
deed_stores_none n s names conn l last (Asks left a) good fit own = plain_aside n left s a good (record { fit = fit; unnamed = unnamed_by conn l last a.owner a.party own.0; reclaim = own.1; monitored = own.2 })
deed_stores_none n s names conn l last (Closes number party) good fit own = close_aside s number party
deed_stores_none n s names conn l last (Acks cache to) good fit own = ack_aside s cache to
deed_stores_none n s names conn l last (Cancels id) good fit own = cancel_aside s id
deed_stores_none n s names conn l last (GivesBack claim) good fit own = absurd own
deed_stores_none n s names conn l last (Weakens share access deny) good fit own = absurd own
deed_stores_none n s names conn l last (Ends party) good fit own = absurd own
deed_stores_none n s names conn l last (Serves left) good fit own = absurd own
deed_stores_none n s names conn l last (Advances now) good fit own = absurd own
deed_stores_none n s names conn l last (Lapses cache) good fit own = absurd own
deed_stores_none n s names conn l last (Renews id) good fit own = absurd own
deed_stores_none n s names conn l last (Expires id) good fit own = absurd own
deed_stores_none n s names conn l last (FailsStore stable) good fit own = absurd own
deed_stores_none n s names conn l last EndsGrace good fit own = absurd own

deeds_store_none : (n : ℕ) (s : CoreState) (names : List Name) (conn : ℕ) (l : Lists) (last : ℕ) (ds : List Deed) → IsGood s → AreFit n s ds → AllByRecursion (IsOwn names conn l last) ds → aside_of (all_done n s ds) ≡ aside_of s
deeds_store_none n s names conn l last [] good fit own = refl
deeds_store_none n s names conn l last (d ∷ ds) good fit own =
    deeds_store_none n (done n s d) names conn l last ds (deed_good n s d good fit.0) fit.1 own.1 ∙ deed_stores_none n s names conn l last d good fit.0 own.0

pub messages_store_none : (n : ℕ) (exports : Exports) (others : ℕ) (f : FrontSmb) (s : CoreState) (conn : ℕ) (bytes : List ℕ) → IsGood s → aside_of (smb_step n exports others f s conn bytes).3 ≡ aside_of s
messages_store_none n exports others f s conn bytes good =
    ap (λ (t : CoreState). aside_of t) (step_does n exports others f s conn bytes)
    ∙ deeds_store_none n s s.names conn f.state s.counter (smb_deeds n exports others f s conn bytes) good (step_takes n exports others f s conn bytes) (step_own n exports others f s conn bytes)

pub ends_store_none : (f : FrontSmb) (s : CoreState) (conn : ℕ) → IsGood s → aside_of (smb_end f s conn).2 ≡ aside_of s
ends_store_none f s conn good =
    ap (λ (t : CoreState). aside_of t) (end_does 0 f s conn) ∙ deeds_store_none 0 s s.names conn f.state s.counter (smb_end_deeds f s conn) good (end_takes 0 f s conn) (end_own f s conn)
