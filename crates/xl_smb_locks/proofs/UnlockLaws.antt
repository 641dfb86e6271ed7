-- Unlocks, one after the other.
use Rattle.std.proofs.Common.{◌≡◌, ℕ, ◌+◌, ◌<◌, ◌≤◌, true, false, List, [], ◌∷◌, length, Option, Some, None, refl, sym, ap, subst, ◌∙◌, arith, drop, get_or}
use Rattle.std.proofs.lemmas.List.{drop_more}
use Rattle.xl_matrix.specs.Owners.{posix}
use Rattle.xl_matrix.specs.declared.claim.Claim.{Claim}
use Rattle.xl_matrix.specs.declared.claim.Extent.{Extent}
use Rattle.xl_matrix.specs.declared.claim.Extent.TheVariants.{Bytes, Empty}
use Rattle.xl_smb.specs.declared.lock.LockElement.{LockElement}
use Rattle.xl_wait.specs.Waiting.{no_rows}
use Rattle.xl_smb_state.specs.declared.row.Open.{Open}
use Rattle.xl_core.specs.Decide.{Answered, freed, unlocked, decided, way, ask, before_wish}
use Rattle.xl_core.specs.Askers.{IsFit}
use Rattle.xl_core.specs.Deeds.{Deed, Asks, done, all_done, AreFit}
use Rattle.xl_core.specs.declared.ask.Ask.{Ask}
use Rattle.std.specs.List.{AllByRecursion}
use Rattle.xl_plan.proofs.BudgetLaws.{ask_leaves}
use Rattle.xl_smb_locks.proofs.LeaveLaws.{open_names}
use Rattle.xl_smb_locks.proofs.FitLaws.{unlock_fits}
use Rattle.xl_core.specs.State.{CoreState, GoesOn}
use Rattle.xl_core.specs.declared.ask.Answer.{Answer}
use Rattle.xl_core.specs.declared.ask.Answer.TheVariants as answers
use Rattle.xl_core.specs.Good.{IsGood}
use Rattle.xl_core.specs.declared.ask.Effect.{Effect}
use Rattle.xl_core.specs.Numbers.{numbers_of}
use Rattle.xl_core.specs.Settle.{give_back}
use Rattle.xl_core.proofs.FrameLaws.{ask_quiet}
use Rattle.xl_core.proofs.NumberLaws.{give_back_numbers}
use Rattle.xl_core.proofs.WayAsks.{ask_way_none, ask_there}
use Rattle.xl_smb_locks.specs.Short.{IsOpenAsk, Leaves}
use Rattle.xl_smb_locks.specs.Elements.{extent_of, unlock_fault}
use Rattle.xl_smb_locks.specs.Locks.{unlock_ask, is_granted, unlock_told, unlock_next, unlocks}
use Rattle.xl_smb_locks.specs.declared.locking.Locking.{Locking}
use Rattle.xl_smb_locks.specs.declared.locking.Locking.TheVariants.{Failed}
use Rattle.xl_smb_locks.specs.declared.status.SmbStatus.{SmbStatus}
use Rattle.xl_smb_locks.specs.declared.status.SmbStatus.TheVariants.{RangeNotLocked}

-- no unlock stores anything
pub any_stores : (n : ℕ) (s : CoreState) (number : ℕ) (row : Open) (e : LockElement) → ask n no_rows s (unlock_ask number row e) ≡ ask 0 no_rows s (unlock_ask number row e)
unfolding ask before_wish decided unlock_ask
any_stores n s number row e = refl

-- no break begins for it
pub no_way : (s : CoreState) (number : ℕ) (row : Open) (e : LockElement) → way no_rows s (unlock_ask number row e) ≡ ([], s)
unfolding unlock_ask
no_way s number row e = ask_way_none no_rows s (unlock_ask number row e) refl

-- nothing is told of besides
pub unlock_said : (n : ℕ) (s new : CoreState) (a : Ask) (number : ℕ) (row : Open) (e : LockElement) (answer : Answer) (effects : List Effect) → IsGood s → IsOpenAsk a → a ≡ unlock_ask number row e → ask n no_rows s a ≡ (answer, effects, new) → ask 0 no_rows s (unlock_ask number row e) ≡ (answer, [], new)
unlock_said n s new a number row e answer effects good fits is said =
    let none : effects ≡ [] = ap (λ (r : Answered). r.1) (sym said) ∙ ask_quiet n no_rows s a good fits.fit.party ∙ ap (λ (x : Ask). (way no_rows s x).0) is ∙ ap (λ (w : List Effect × CoreState). w.0) (no_way s number row e) in
    sym (any_stores n s number row e) ∙ ap (ask n no_rows s) (sym is) ∙ said ∙ ap (λ (told : List Effect). (answer, told, new)) none

-- it draws no number
freed_numbers : (s : CoreState) (claim : Claim) (o : Option Claim) → numbers_of (freed s claim o).2 ≤ numbers_of s
unfolding give_back
freed_numbers s claim None = omega arith
freed_numbers s claim (Some c) = give_back_numbers s c

unlocked_numbers : (s : CoreState) (claim : Claim) (x : Extent) → posix claim.owner ≡ false → numbers_of (unlocked s claim x).2 ≤ numbers_of s
unfolding unlocked
unlocked_numbers s claim (Bytes first last) own = rw own (freed_numbers s claim _)
unlocked_numbers s claim (Empty offset) own = freed_numbers s claim _

decided_numbers : (n : ℕ) (s : CoreState) (number : ℕ) (row : Open) (e : LockElement) → numbers_of (decided n no_rows s (unlock_ask number row e)).2 ≤ numbers_of s
unfolding decided unlock_ask
decided_numbers n s number row e = unlocked_numbers s _ (extent_of e) refl

unlock_numbers : (n : ℕ) (s : CoreState) (number : ℕ) (row : Open) (e : LockElement) → numbers_of (ask n no_rows s (unlock_ask number row e)).2 ≤ numbers_of s
unfolding unlock_ask decided
unlock_numbers n s number row e =
    subst (λ (r : Answered). numbers_of r.2 ≤ numbers_of s) (sym (ask_there n no_rows s (unlock_ask number row e) (no_way s number row e))) (decided_numbers n s number row e)

pub unlock_leaves : (n : ℕ) (s new : CoreState) (a : Ask) (number : ℕ) (row : Open) (e : LockElement) (answer : Answer) (effects : List Effect) → a ≡ unlock_ask number row e → ask n no_rows s a ≡ (answer, effects, new) → GoesOn s new → IsGood s → IsOpenAsk a → IsGood new → Leaves 0 s new
unlock_leaves n s new a number row e answer effects is said on good fits kept =
    let leaves : Leaves 2 s new = ask_leaves n no_rows s new a answer effects said on fits.fit good kept (open_names a fits) in
    record {
      on = leaves.on;
      good = kept;
      numbers = omega (arith, subst (λ (t : CoreState). numbers_of t ≤ numbers_of s) (ap (λ (x : Ask). (ask n no_rows s x).2) (sym is) ∙ ap (λ (r : Answered). r.2) said) (unlock_numbers n s number row e));
      names = leaves.names;
    }

-- the unlocks come to what the rest comes to, from where they have come
pub record ComeOn (number : ℕ) (row : Open) (s : CoreState) (es : List LockElement) (t : CoreState) (fs : List LockElement) : Type 0 where
  pub told : (unlocks s number row es).1 ≡ (unlocks t number row fs).1
  pub done : (n : ℕ) → all_done n s (unlocks s number row es).0 ≡ all_done n t (unlocks t number row fs).0

pub come_self : (number : ℕ) (row : Open) (s : CoreState) (es : List LockElement) → ComeOn number row s es s es
come_self number row s es = record { told = refl; done = λ n. refl }

come_then : (number : ℕ) (row : Open) (s t u : CoreState) (es fs gs : List LockElement) → ComeOn number row s es t fs → ComeOn number row t fs u gs → ComeOn number row s es u gs
come_then number row s t u es fs gs first next = record { told = first.told ∙ next.told; done = λ n. first.done n ∙ next.done n }

-- what one more comes to
abbrev Next : ℕ → Open → CoreState → LockElement → List LockElement → List Deed × Locking → Type 0
Next number row s e es r = unlocks s number row (e ∷ es) ≡ r

granted_next : (number : ℕ) (row : Open) (s t : CoreState) (e : LockElement) (es : List LockElement) (fault : Option SmbStatus) (answer : Answer) (c : Claim) → unlock_fault e ≡ None → ask 0 no_rows s (unlock_ask number row e) ≡ (answer, [], t) → answer ≡ answers.Granted c → ComeOn number row s (e ∷ es) t es
granted_next number row s t e es fault answer c sound at is =
    let a = unlock_ask number row e in
    let told : (ask 0 no_rows s a).0 ≡ answers.Granted c = ap (λ (r : Answered). r.0) at ∙ is in
    let left : (ask 0 no_rows s a).2 ≡ t = ap (λ (r : Answered). r.2) at in
    let one : unlocks s number row (e ∷ es) ≡ unlock_told a (answers.Granted c) (unlocks t number row es)
    = ap (λ (o : Option SmbStatus). unlock_next o (unlock_told a (ask 0 no_rows s a).0 (unlocks (ask 0 no_rows s a).2 number row es))) sound
    ∙ ap (λ (x : Answer). unlock_told a x (unlocks (ask 0 no_rows s a).2 number row es)) told
    ∙ ap (λ (x : CoreState). unlock_told a (answers.Granted c) (unlocks x number row es)) left in
    record {
      told = ap (λ (r : List Deed × Locking). r.1) one;
      done = λ n. ap (λ (r : List Deed × Locking). all_done n s r.0) one
          ∙ ap (λ (x : CoreState). all_done n x (unlocks t number row es).0) (ap (λ (r : Answered). r.2) (any_stores n s number row e) ∙ left);
    }

-- ---- as the code goes

-- an unlock more is granted
granted_is : (answer : Answer) → is_granted answer ≡ true → (c : Claim) × (answer ≡ answers.Granted c)
granted_is (answers.Granted c) h = (c, refl)
granted_is (answers.Conflict c) h = absurd cc
granted_is (answers.Queued id) h = absurd cc
granted_is (answers.Recall c) h = absurd cc
granted_is (answers.Grace until) h = absurd cc
granted_is (answers.NoGrace clock) h = absurd cc
granted_is answers.NotRecorded h = absurd cc
granted_is (answers.Full limit) h = absurd cc
granted_is answers.NotHeld h = absurd cc
granted_is answers.StoreFailed h = absurd cc

pub one_more : (number : ℕ) (row : Open) (s t u : CoreState) (es : List LockElement) (i : ℕ) (d e : LockElement) (answer : Answer) → i < length es → e ≡ get_or es i d → ComeOn number row s es t (drop i es) → unlock_fault e ≡ None → ask 0 no_rows t (unlock_ask number row e) ≡ (answer, [], u) → is_granted answer ≡ true
    → ComeOn number row s es u (drop (i + 1) es)
one_more number row s t u es i d e answer there item come sound at is =
    let all : drop i es ≡ e ∷ drop (i + 1) es = drop_more es i d there ∙ ap (λ (x : LockElement). x ∷ drop (i + 1) es) (sym item) in
    come_then number row s t u es (drop i es) (drop (i + 1) es) come
    (subst (λ (xs : List LockElement). ComeOn number row t xs u (drop (i + 1) es)) (sym all) (let has = granted_is answer is in granted_next number row t u e (drop (i + 1) es) None answer has.0 sound at has.1))

-- a range is refused: what was done stays
pub refused_at : (number : ℕ) (row : Open) (s t : CoreState) (es : List LockElement) (i : ℕ) (d e : LockElement) (status : SmbStatus) → i < length es → e ≡ get_or es i d → ComeOn number row s es t (drop i es) → unlock_fault e ≡ Some status
    → ((unlocks s number row es).1 ≡ Failed status) × ((n : ℕ) → all_done n s (unlocks s number row es).0 ≡ t)
refused_at number row s t es i d e status there item come fault =
    let all : drop i es ≡ e ∷ drop (i + 1) es = drop_more es i d there ∙ ap (λ (x : LockElement). x ∷ drop (i + 1) es) (sym item) in
    let a = unlock_ask number row e in
    let r = ask 0 no_rows t a in
    let one : unlocks t number row (drop i es) ≡ ([], Failed status)
    = ap (λ (xs : List LockElement). unlocks t number row xs) all ∙ ap (λ (o : Option SmbStatus). unlock_next o (unlock_told a r.0 (unlocks r.2 number row (drop (i + 1) es)))) fault in
    (come.told ∙ ap (λ (x : List Deed × Locking). x.1) one, λ n. come.done n ∙ ap (λ (x : List Deed × Locking). all_done n t x.0) one)

not_told : (a : Ask) (answer : Answer) (rest : List Deed × Locking) → is_granted answer ≡ false → unlock_told a answer rest ≡ unlock_told a answers.NotHeld rest
not_told a (answers.Granted c) rest h = absurd cc
not_told a (answers.Conflict c) rest h = refl
not_told a (answers.Queued id) rest h = refl
not_told a (answers.Recall c) rest h = refl
not_told a (answers.Grace until) rest h = refl
not_told a (answers.NoGrace clock) rest h = refl
not_told a answers.NotRecorded rest h = refl
not_told a (answers.Full limit) rest h = refl
not_told a answers.NotHeld rest h = refl
not_told a answers.StoreFailed rest h = refl

-- a range isn't locked
pub missed_at : (number : ℕ) (row : Open) (s t u : CoreState) (es : List LockElement) (i : ℕ) (d e : LockElement) (answer : Answer) → i < length es → e ≡ get_or es i d → ComeOn number row s es t (drop i es) → unlock_fault e ≡ None → ask 0 no_rows t (unlock_ask number row e) ≡ (answer, [], u) → is_granted answer ≡ false
    → ((unlocks s number row es).1 ≡ Failed RangeNotLocked) × ((n : ℕ) → all_done n s (unlocks s number row es).0 ≡ u)
missed_at number row s t u es i d e answer there item come sound at missed =
    let all : drop i es ≡ e ∷ drop (i + 1) es = drop_more es i d there ∙ ap (λ (x : LockElement). x ∷ drop (i + 1) es) (sym item) in
    let a = unlock_ask number row e in
    let r = ask 0 no_rows t a in
    let rest = unlocks r.2 number row (drop (i + 1) es) in
    let one : unlocks t number row (drop i es) ≡ unlock_told a answers.NotHeld rest
    = ap (λ (xs : List LockElement). unlocks t number row xs) all
    ∙ ap (λ (o : Option SmbStatus). unlock_next o (unlock_told a r.0 rest)) sound
    ∙ ap (λ (x : Answer). unlock_told a x rest) (ap (λ (x : Answered). x.0) at)
    ∙ not_told a answer rest missed in (
      come.told ∙ ap (λ (x : List Deed × Locking). x.1) one,
      λ n. come.done n ∙ ap (λ (x : List Deed × Locking). all_done n t x.0) one ∙ ap (λ (x : Answered). x.2) (any_stores n t number row e) ∙ ap (λ (x : Answered). x.2) at,
    )

-- ---- the deeds of unlocks

granted_are : (P : Deed → Type 0) (a : Ask) (answer : Answer) (rest : List Deed × Locking) → P (Asks no_rows a) → AllByRecursion P rest.0 → AllByRecursion P (unlock_told a answer rest).0
granted_are P a (answers.Granted c) rest one all = (one, all)
granted_are P a (answers.Conflict c) rest one all = (one, tt)
granted_are P a (answers.Queued id) rest one all = (one, tt)
granted_are P a (answers.Recall c) rest one all = (one, tt)
granted_are P a (answers.Grace until) rest one all = (one, tt)
granted_are P a (answers.NoGrace clock) rest one all = (one, tt)
granted_are P a answers.NotRecorded rest one all = (one, tt)
granted_are P a (answers.Full limit) rest one all = (one, tt)
granted_are P a answers.NotHeld rest one all = (one, tt)
granted_are P a answers.StoreFailed rest one all = (one, tt)

next_are : (P : Deed → Type 0) (fault : Option SmbStatus) (next : List Deed × Locking) → AllByRecursion P next.0 → AllByRecursion P (unlock_next fault next).0
next_are P None next all = all
next_are P (Some status) next all = tt

-- each asks to unlock one of the ranges
pub unlocks_are : (P : Deed → Type 0) (s : CoreState) (number : ℕ) (row : Open) (es : List LockElement) → ((e : LockElement) → P (Asks no_rows (unlock_ask number row e))) → AllByRecursion P (unlocks s number row es).0
unlocks_are P s number row [] each = tt
unlocks_are P s number row (e ∷ es) each =
    let a = unlock_ask number row e in
    let r = ask 0 no_rows s a in
    next_are P (unlock_fault e) (unlock_told a r.0 (unlocks r.2 number row es)) (granted_are P a r.0 (unlocks r.2 number row es) (each e) (unlocks_are P r.2 number row es each))

granted_fit : (n : ℕ) (s : CoreState) (a : Ask) (answer : Answer) (rest : List Deed × Locking) → IsFit a → AreFit n (done n s (Asks no_rows a)) rest.0 → AreFit n s (unlock_told a answer rest).0
granted_fit n s a (answers.Granted c) rest one all = (one, all)
granted_fit n s a (answers.Conflict c) rest one all = (one, tt)
granted_fit n s a (answers.Queued id) rest one all = (one, tt)
granted_fit n s a (answers.Recall c) rest one all = (one, tt)
granted_fit n s a (answers.Grace until) rest one all = (one, tt)
granted_fit n s a (answers.NoGrace clock) rest one all = (one, tt)
granted_fit n s a answers.NotRecorded rest one all = (one, tt)
granted_fit n s a (answers.Full limit) rest one all = (one, tt)
granted_fit n s a answers.NotHeld rest one all = (one, tt)
granted_fit n s a answers.StoreFailed rest one all = (one, tt)

next_fit : (n : ℕ) (s : CoreState) (fault : Option SmbStatus) (next : List Deed × Locking) → AreFit n s next.0 → AreFit n s (unlock_next fault next).0
next_fit n s None next all = all
next_fit n s (Some status) next all = tt

-- the core takes them
pub unlocks_fit : (n : ℕ) (s : CoreState) (number : ℕ) (row : Open) (es : List LockElement) → AreFit n s (unlocks s number row es).0
unlocks_fit n s number row [] = tt
unlocks_fit n s number row (e ∷ es) =
    let a = unlock_ask number row e in
    let r = ask 0 no_rows s a in
    let rest = unlocks r.2 number row es in
    next_fit n s (unlock_fault e) (unlock_told a r.0 rest)
    (granted_fit n s a r.0 rest (unlock_fits number row e).fit (subst (λ (x : CoreState). AreFit n x rest.0) (sym (ap (λ (x : Answered). x.2) (any_stores n s number row e))) (unlocks_fit n r.2 number row es)))
