-- What LOCK and CANCEL come to.
use Rattle.std.proofs.Common.{◌≡◌, ℕ, zero, suc, ◌<◌, ◌≤◌, Bool, true, false, List, [], ◌∷◌, ◌++◌, length, Option, Some, None, is_some, refl, sym, ap, subst, ◌∙◌, append-nil, arith, inl, inr}
use Rattle.std.specs.Prelude.{◌==◌, nat_lt}
use Rattle.std.specs.List.{list_any}
use Rattle.std.proofs.lemmas.Bool.{cases_Bool, false≢true}
use Rattle.xl_matrix.specs.Owners.{posix}
use Rattle.xl_matrix.specs.declared.claim.Claim.{Claim}
use Rattle.xl_matrix.specs.declared.claim.Extent.{Extent}
use Rattle.xl_matrix.specs.declared.claim.Extent.TheVariants.{Bytes, Empty}
use Rattle.xl_smb.specs.declared.lock.LockElement.{LockElement}
use Rattle.xl_smb_state.specs.Links.{most_waiting}
use Rattle.xl_smb_state.specs.declared.row.Open.{Open}
use Rattle.xl_smb_state.specs.State.{Lists, waiting_of}
use Rattle.xl_wait.specs.Waiting.{no_rows, is_waiting}
use Rattle.xl_wait.specs.declared.waiter.Waiter.{Waiter}
use Rattle.xl_core.specs.Decide.{Answered, freed, unlocked, decided, ask}
use Rattle.xl_core.specs.Deeds.{Deed, all_done, all_told_of}
use Rattle.xl_core.specs.Good.{IsGood}
use Rattle.xl_core.specs.Settle.{cancel}
use Rattle.xl_core.specs.State.{CoreState}
use Rattle.xl_core.proofs.WayAsks.{ask_there}
use Rattle.xl_smb_locks.specs.Short.{Leaves}
use Rattle.xl_plan.proofs.BudgetLaws.{cancel_leaves}
use Rattle.xl_core.specs.declared.ask.Answer.{Answer}
use Rattle.xl_core.specs.declared.ask.Answer.TheVariants as answers
use Rattle.xl_core.specs.declared.ask.Ask.{Ask}
use Rattle.xl_core.specs.declared.ask.Effect.{Effect}
use Rattle.xl_smb_locks.specs.Elements.{extent_of, is_count, unlock_fault}
use Rattle.xl_smb_locks.specs.Locks.{unlock_ask, unlock_told, unlock_next, unlocks}
use Rattle.xl_smb_locks.specs.declared.locking.Locking.{Locking}
use Rattle.xl_smb_locks.specs.declared.status.SmbStatus.{SmbStatus}
use Rattle.xl_smb_locks.proofs.UnlockLaws.{any_stores, no_way}
use Rattle.xl_front_smb.specs.declared.told.Told.{Told}
use Rattle.xl_front_smb.specs.Locks.{unlock_by}
use Rattle.xl_front_smb.specs.Plans.{has_room_to_wait, told_as, carried}
use Rattle.xl_front_smb.proofs.PlanLaws.{room_of, below, none_of}

-- ---- room for a request that waits

pub wait_room : (l : Lists) (id : ℕ) → has_room_to_wait l id ≡ true → length l.waiting < most_waiting
wait_room l id h = below (length l.waiting) most_waiting (room_of (nat_lt (length l.waiting) most_waiting) (is_some (waiting_of id l)) h).0

pub wait_new : (l : Lists) (id : ℕ) → has_room_to_wait l id ≡ true → waiting_of id l ≡ None
wait_new l id h = none_of (waiting_of id l) (room_of (nat_lt (length l.waiting) most_waiting) (is_some (waiting_of id l)) h).1

-- ---- unlocks

freed_tells : (s : CoreState) (claim : Claim) (o : Option Claim) → (freed s claim o).1 ≡ []
freed_tells s claim None = refl
freed_tells s claim (Some c) = refl

unlocked_tells : (s : CoreState) (claim : Claim) (x : Extent) → posix claim.owner ≡ false → (unlocked s claim x).1 ≡ []
unfolding unlocked
unlocked_tells s claim (Bytes first last) own = rw own (freed_tells s claim _)
unlocked_tells s claim (Empty offset) own = freed_tells s claim _

decided_tells : (n : ℕ) (s : CoreState) (number : ℕ) (row : Open) (e : LockElement) → (decided n no_rows s (unlock_ask number row e)).1 ≡ []
unfolding decided unlock_ask
decided_tells n s number row e = unlocked_tells s _ (extent_of e) refl

unlock_tells : (n : ℕ) (s : CoreState) (number : ℕ) (row : Open) (e : LockElement) → (ask n no_rows s (unlock_ask number row e)).1 ≡ []
unlock_tells n s number row e =
    ap (λ (r : Answered). r.1) (ask_there n no_rows s (unlock_ask number row e) (no_way s number row e)) ∙ decided_tells n s number row e

one_tells : (n : ℕ) (s : CoreState) (a : Ask) (answer : Answer) (rest : List Deed × Locking) → (ask n no_rows s a).1 ≡ [] → all_told_of n (ask n no_rows s a).2 rest.0 ≡ [] → all_told_of n s (unlock_told a answer rest).0 ≡ []
one_tells n s a (answers.Granted c) rest none more = ap (λ (xs : List Effect). xs ++ all_told_of n (ask n no_rows s a).2 rest.0) none ∙ more
one_tells n s a (answers.Conflict c) rest none more = append-nil (ask n no_rows s a).1 ∙ none
one_tells n s a (answers.Queued id) rest none more = append-nil (ask n no_rows s a).1 ∙ none
one_tells n s a (answers.Recall c) rest none more = append-nil (ask n no_rows s a).1 ∙ none
one_tells n s a (answers.Grace until) rest none more = append-nil (ask n no_rows s a).1 ∙ none
one_tells n s a (answers.NoGrace clock) rest none more = append-nil (ask n no_rows s a).1 ∙ none
one_tells n s a answers.NotRecorded rest none more = append-nil (ask n no_rows s a).1 ∙ none
one_tells n s a (answers.Full limit) rest none more = append-nil (ask n no_rows s a).1 ∙ none
one_tells n s a answers.NotHeld rest none more = append-nil (ask n no_rows s a).1 ∙ none
one_tells n s a answers.StoreFailed rest none more = append-nil (ask n no_rows s a).1 ∙ none

next_tells : (n : ℕ) (s : CoreState) (fault : Option SmbStatus) (next : List Deed × Locking) → all_told_of n s next.0 ≡ [] → all_told_of n s (unlock_next fault next).0 ≡ []
next_tells n s None next none = none
next_tells n s (Some status) next none = refl

pub unlocks_tell : (n : ℕ) (s : CoreState) (number : ℕ) (row : Open) (es : List LockElement) → all_told_of n s (unlocks s number row es).0 ≡ []
unlocks_tell n s number row [] = refl
unlocks_tell n s number row (e ∷ es) =
    let a = unlock_ask number row e in
    let r = ask 0 no_rows s a in
    let rest = unlocks r.2 number row es in
    next_tells n s (unlock_fault e) (unlock_told a r.0 rest)
    (one_tells n s a r.0 rest (unlock_tells n s number row e) (subst (λ (x : CoreState). all_told_of n x rest.0 ≡ []) (sym (ap (λ (x : Answered). x.2) (any_stores n s number row e))) (unlocks_tell n r.2 number row es)))

pub unlocks_done : (n : ℕ) (s new : CoreState) (l : Lists) (number : ℕ) (row : Open) (es : List LockElement) (told : Locking) (t : Told) (effects : List Effect) → told ≡ (unlocks s number row es).1 → ((m : ℕ) → new ≡ all_done m s (unlocks s number row es).0) → t ≡ told_as told → effects ≡ [] → carried n s l (unlock_by l (unlocks s number row es)) ≡ (t, effects, l, new)
unlocks_done n s new l number row es told t effects said done tells none = λ i. ((ap told_as (sym said) ∙ sym tells) i, (unlocks_tell n s number row es ∙ sym none) i, l, (sym (done n)) i)

-- ---- what is judged

pub counted : (count : ℕ) → is_count count ≡ true → 1 ≤ count
counted zero h = absurd (false≢true h)
counted (suc count) h = omega arith

-- ---- CANCEL

waiting_any : (id : ℕ) (ws : List Waiter) → list_any (λ (w : Waiter). w.id == id) ws ≡ is_waiting id ws
waiting_any id [] = refl
waiting_any id (w ∷ ws) = elim (cases_Bool (w.id == id)) [ inl is ↦ rw is refl | inr other ↦ rw other (waiting_any id ws) ]

pub waiting_is : (id : ℕ) (ws vs : List Waiter) (b : Bool) → b ≡ list_any (λ (w : Waiter). w.id == id) vs → vs ≡ ws → b ≡ is_waiting id ws
waiting_is id ws vs b is same = is ∙ ap (λ (xs : List Waiter). list_any (λ (w : Waiter). w.id == id) xs) same ∙ waiting_any id ws

pub cancel_leaves_by : (s new : CoreState) (id : ℕ) (effects : List Effect) (ws : List Waiter) (b : Bool) → cancel s id ≡ (effects, new) → b ≡ is_waiting id ws → ws ≡ s.waiters → b ≡ true → IsGood new → Leaves 0 s new
cancel_leaves_by s new id effects ws b e is same waits kept = cancel_leaves s new id effects (ap (is_waiting id) (sym same) ∙ sym is ∙ waits) e kept
