-- No two requests of SMB that wait have one number, whatever comes.
use Rattle.std.proofs.Common.{◌≡◌, ℕ, Bool, true, false, not, ◌&&◌, if◌then◌else◌, eqb, is_some, length, List, [], ◌∷◌, ◌++◌, Option, Some, None, refl, sym, ap, subst, ◌∙◌}
use Rattle.std.specs.Prelude.{nat_eq, nat_lt}
use Rattle.std.specs.List.{IsDistinct}
use Rattle.std.specs.Map.{keys_of}
use Rattle.std.proofs.lemmas.Bool.{true≢false}
use Rattle.std.proofs.lemmas.Cmp.{nat_eq_equiv}
use Rattle.std.proofs.lemmas.Map.Keys.{IsDistinct-push}
use Rattle.std.proofs.lemmas.Map.Made.{IsDistinct-keys_filter, is_some-lookup}
use Rattle.xl_base.specs.declared.journal.Exports.{Exports}
use Rattle.xl_smb.specs.Heads.{head_of}
use Rattle.xl_smb.specs.declared.head.SmbHead.{SmbHead}
use Rattle.xl_smb_state.proofs.LeaseLaws.{with_keeps}
use Rattle.xl_smb_state.specs.Links.{most_waiting}
use Rattle.xl_smb_state.specs.State.{Lists, connection_added, waiting_added, waiting_of, with_open}
use Rattle.xl_smb_state.specs.declared.row.Open.{Open}
use Rattle.xl_smb_state.specs.declared.row.Scope.TheVariants as scope
use Rattle.xl_smb_state.specs.declared.row.Waiting.{Waiting}
use Rattle.xl_wait.specs.Waiting.{no_rows}
use Rattle.xl_core.specs.Decide.{ask}
use Rattle.xl_core.specs.State.{CoreState, drawn}
use Rattle.xl_core.specs.declared.ask.Answer.{Answer}
use Rattle.xl_core.specs.declared.ask.Answer.TheVariants as answers
use Rattle.xl_core.specs.declared.ask.Effect.{Effect}
use Rattle.xl_core.specs.declared.ask.Effect.TheVariants as effects
use Rattle.xl_smb_locks.specs.Finals.{and_sent, dismissed, is_cancelled, request_ended, told_of}
use Rattle.xl_smb_locks.specs.Locks.{lock_told}
use Rattle.xl_smb_locks.specs.declared.locking.Locking.{Locking}
use Rattle.xl_smb_locks.specs.declared.locking.Locking.TheVariants as locking
use Rattle.xl_smb_locks.specs.declared.status.SmbStatus.TheVariants as statuses
use Rattle.xl_front_smb.specs.Ending.{all_ended, leavers_under, smb_end}
use Rattle.xl_front_smb.specs.FrontSmb.{head_heard, plan_for, smb_shown, smb_step, stepped}
use Rattle.xl_front_smb.specs.Plans.{Plan, Fails, Does, Opens, Locks, carried, has_room_to_wait, lists_as, opened_lists, with_waiting}
use Rattle.xl_front_smb.specs.State.{FrontSmb, smb_begin}
use Rattle.xl_smb_laws.proofs.AwaitedRequestLaws.{Sorts, ended_rows, gone_lists, gone_rows, requested_sorts, served_rows, still_distinct}

-- no two have one number
abbrev pub AreApart : Lists → Type 0
AreApart l = IsDistinct nat_eq (keys_of l.waiting)

same_apart : (l m : Lists) → m.waiting ≡ l.waiting → AreApart l → AreApart m
same_apart l m same apart = subst (λ (es : List (ℕ × Waiting)). IsDistinct nat_eq (keys_of es)) (sym same) apart

-- ---- one that comes

keys_added : (id : ℕ) (row : Waiting) (es : List (ℕ × Waiting)) → keys_of (es ++ (id, row) ∷ []) ≡ keys_of es ++ id ∷ []
keys_added id row [] = refl
keys_added id row (e ∷ es) = ap (λ (ks : List ℕ). e.0 ∷ ks) (keys_added id row es)

added_apart : (id : ℕ) (row : Waiting) (l : Lists) → is_some (waiting_of id l) ≡ false → AreApart l → AreApart (waiting_added id row l)
added_apart id row l none apart = subst (λ (ks : List ℕ). IsDistinct nat_eq ks) (sym (keys_added id row l.waiting)) (IsDistinct-push nat_eq_equiv (keys_of l.waiting) id apart (sym (is_some-lookup (nat_eq id) l.waiting) ∙ none))

room_apart : (id : ℕ) (row : Waiting) (l : Lists) (room : Bool) → has_room_to_wait l id ≡ room → AreApart l → AreApart (if room then waiting_added id row l else l)
room_apart id row l false is apart = apart
room_apart id row l true is apart = added_apart id row l (second (nat_lt (length l.waiting) most_waiting) (is_some (waiting_of id l)) is) apart
  where
    second : (a b : Bool) → (a && not b) ≡ true → b ≡ false
    second true false h = refl
    second true true h = absurd (true≢false (sym h))
    second false b h = absurd (true≢false (sym h))

with_apart : (id : ℕ) (row : Waiting) (l : Lists) → AreApart l → AreApart (with_waiting id row l)
with_apart id row l apart = room_apart id row l (has_room_to_wait l id) refl apart

opened_apart : (l : Lists) (number : ℕ) (row : Open) (waiting : Waiting) (answer : Answer) → AreApart l → AreApart (opened_lists l number row waiting answer)
opened_apart l number row waiting (answers.Granted c) apart = same_apart l (with_open number row l) (ap (λ (m : Lists). m.waiting) (with_keeps number row l)) apart
opened_apart l number row waiting (answers.Queued id) apart = with_apart id waiting l apart
opened_apart l number row waiting (answers.Conflict c) apart = apart
opened_apart l number row waiting (answers.Recall c) apart = apart
opened_apart l number row waiting (answers.Grace until) apart = apart
opened_apart l number row waiting (answers.NoGrace clock) apart = apart
opened_apart l number row waiting answers.NotRecorded apart = apart
opened_apart l number row waiting (answers.Full limit) apart = apart
opened_apart l number row waiting answers.NotHeld apart = apart
opened_apart l number row waiting answers.StoreFailed apart = apart

locked_apart : (row : Waiting) (l : Lists) (r : Locking) → AreApart l → AreApart (lists_as row l r)
locked_apart row l locking.Done apart = apart
locked_apart row l (locking.Failed status) apart = apart
locked_apart row l (locking.Waits id) apart = with_apart id row l apart

carried_apart : (n : ℕ) (s : CoreState) (l : Lists) (plan : Plan) → Sorts s l plan → AreApart l → AreApart (carried n s l plan).2
carried_apart n s l (Fails status) sorts apart = apart
carried_apart n s l (Does deeds lists told) sorts apart = same_apart l lists sorts.0 apart
carried_apart n s l (Opens left a number row id waiting) sorts apart = opened_apart l number row waiting (ask n left (drawn s) a).0 apart
carried_apart n s l (Locks a row) sorts apart = locked_apart row l (lock_told (ask n no_rows s a).0) apart

-- ---- those that go

ended_apart : (id : ℕ) (l : Lists) → AreApart l → AreApart (request_ended id statuses.Cancelled l).1
ended_apart id l apart = subst (λ (es : List (ℕ × Waiting)). IsDistinct nat_eq (keys_of es)) (sym (ended_rows id statuses.Cancelled l).0) (still_distinct id l.waiting apart)

dismissed_apart : (told : List Effect) (ids : List ℕ) (l : Lists) → AreApart l → AreApart (dismissed told ids l).1
dismissed_apart told [] l apart = apart
dismissed_apart told (id ∷ ids) l apart = by (is_cancelled id told) (dismissed_apart told ids (request_ended id statuses.Cancelled l).1 (ended_apart id l apart)) (dismissed_apart told ids l apart)
  where
    by : (b : Bool) → AreApart (dismissed told ids (request_ended id statuses.Cancelled l).1).1 → AreApart (dismissed told ids l).1 → AreApart (if b then and_sent (request_ended id statuses.Cancelled l) (dismissed told ids) else dismissed told ids l).1
    by true first second = first
    by false first second = second

-- ---- what comes to the front

heard_apart : (n : ℕ) (exports : Exports) (others : ℕ) (f : FrontSmb) (s : CoreState) (conn : ℕ) (bytes : List ℕ) (h : Option SmbHead) → AreApart f.state → AreApart (stepped n exports others f s conn bytes h).2.state
heard_apart n exports others f s conn bytes None apart = apart
heard_apart n exports others f s conn bytes (Some h) apart =
    let plan = plan_for exports others f s conn bytes h in
    let r = carried n s f.state plan in
    dismissed_apart r.1 (keys_of r.2.waiting) r.2 (carried_apart n s f.state plan (requested_sorts s exports.files others f.state conn bytes h) apart)

pub step_apart : (n : ℕ) (exports : Exports) (others : ℕ) (f : FrontSmb) (s : CoreState) (conn : ℕ) (bytes : List ℕ) → AreApart f.state → AreApart (smb_step n exports others f s conn bytes).2.state
unfolding smb_step
step_apart n exports others f s conn bytes apart = heard_apart n exports others f s conn bytes (head_heard (head_of bytes)) apart

pub end_apart : (f : FrontSmb) (s : CoreState) (conn : ℕ) → AreApart f.state → AreApart (smb_end f s conn).1.state
unfolding smb_end
end_apart f s conn apart =
    let l : Lists = gone_lists conn f.state in
    dismissed_apart (all_ended (leavers_under s.names (scope.Connection conn) f.state) s).0 (keys_of l.waiting) l
    (same_distinct (gone_rows conn f.state) (IsDistinct-keys_filter nat_eq (λ (x : ℕ × Waiting). not (eqb x.1.place.connection conn)) f.state.waiting apart))
  where
    same_distinct : {es xs : List (ℕ × Waiting)} → es ≡ xs → IsDistinct nat_eq (keys_of xs) → IsDistinct nat_eq (keys_of es)
    same_distinct same distinct = subst (λ (ys : List (ℕ × Waiting)). IsDistinct nat_eq (keys_of ys)) (sym same) distinct

begun_by : (l : Lists) (number : ℕ) (b : Bool) → AreApart l → AreApart (if b then l else connection_added number (record { client = None }) l)
begun_by l number true apart = apart
begun_by l number false apart = apart

pub begin_apart : (f : FrontSmb) (number : ℕ) → AreApart f.state → AreApart (smb_begin f number).state
unfolding smb_begin
begin_apart f number apart = begun_by f.state number _ apart

pub shown_apart : (f : FrontSmb) (s : CoreState) (effect : Effect) → AreApart f.state → AreApart (smb_shown f s effect).1.state
unfolding smb_shown told_of
shown_apart f s (effects.Served party id answer) apart = subst (λ (es : List (ℕ × Waiting)). IsDistinct nat_eq (keys_of es)) (sym (served_rows s id answer f.state).0) (still_distinct id f.state.waiting apart)
shown_apart f s (effects.Cancelled party id) apart = apart
shown_apart f s (effects.Begun claim to number) apart = apart
shown_apart f s (effects.Expired client) apart = apart
