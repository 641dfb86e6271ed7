-- A request that is told to wait is kept: as each that waits is a waiter of the core there is room for it.
use Rattle.std.proofs.Common.{◌≡◌, ℕ, suc, ◌≤◌, Bool, true, false, not, ◌&&◌, eqb, List, [], ◌∷◌, ◌++◌, map, length, Option, Some, None, is_some, refl, sym, ap, subst, ◌∙◌, inl, inr, arith}
use Rattle.std.specs.Prelude.{nat_eq, nat_lt}
use Rattle.std.specs.List.{IsDistinct, list_any}
use Rattle.std.specs.Map.{keys_of, lookup}
use Rattle.std.proofs.lemmas.Bool.{cases_Bool, true≢false}
use Rattle.std.proofs.lemmas.Bool.Decides.{nat_tests}
use Rattle.std.proofs.lemmas.Cmp.{nat_eq_equiv}
use Rattle.std.proofs.lemmas.List.{length-append}
use Rattle.std.proofs.lemmas.Map.Made.{length-le_from_is_member}
use Rattle.xl_base.proofs.Members.{all_in}
use Rattle.xl_base.specs.Lists.{IsIn, Pairwise}
use Rattle.xl_smb_state.proofs.RowLaws.{equal_from, equal_self, none_some}
use Rattle.xl_smb_state.specs.Links.{most_waiting}
use Rattle.xl_smb_state.specs.State.{Lists, waiting_of}
use Rattle.xl_smb_state.specs.declared.row.Waiting.{Waiting}
use Rattle.xl_wait.specs.declared.waiter.Rooms.{Rooms}
use Rattle.xl_wait.specs.declared.waiter.Waiter.{Waiter}
use Rattle.xl_core.proofs.GoodLaws.{ask_good}
use Rattle.xl_core.specs.Askers.{IsFit, asked_claims, asked_whats, asking_party}
use Rattle.xl_core.specs.Decide.{ask, waiter_of}
use Rattle.xl_core.specs.Frames.{come_by}
use Rattle.xl_core.specs.Good.{IsGood, are_apart}
use Rattle.xl_core.specs.State.{CoreState}
use Rattle.xl_core.specs.declared.ask.Answer.{Answer}
use Rattle.xl_core.specs.declared.ask.Answer.TheVariants.{Queued}
use Rattle.xl_core.specs.declared.ask.Ask.{Ask}
use Rattle.xl_smb_laws.specs.WaitingRequests.{AreAwaited, IsAwaited}
use Rattle.xl_front_smb.specs.Plans.{has_room_to_wait}
use Rattle.xl_smb_laws.proofs.AwaitedRequestLaws.{asked_waits}

-- ---- the rows are no more than the waiters

id_in : (k : ℕ) (ws : List Waiter) (w : Waiter) → IsIn w ws → w.id ≡ k → list_any (nat_eq k) (map (λ (v : Waiter). v.id) ws) ≡ true
id_in k [] w here is = absurd here
id_in k (v ∷ ws) w here is =
    elim (cases_Bool (eqb k v.id)) [
      | inl same ↦ rw same refl
      | inr other ↦ rw other (elim here [
        | inl first ↦ absurd (true≢false (sym (subst (λ (j : ℕ). eqb k j ≡ true) (sym (ap (λ (x : Waiter). x.id) first ∙ is)) (equal_self k)) ∙ other))
        | inr rest ↦ id_in k ws w rest is
      ])
    ]

row_of : (k : ℕ) (es : List (ℕ × Waiting)) → list_any (nat_eq k) (keys_of es) ≡ true → (e : ℕ × Waiting) × IsIn e es × (e.0 ≡ k)
row_of k [] any = absurd (true≢false (sym any))
row_of k (x ∷ es) any =
    elim (cases_Bool (eqb k x.0)) [
      | inl same ↦ (x, inl refl, equal_from k x.0 same)
      | inr other ↦ (let later = row_of k es (rw other at any) in (later.0, inr later.1, later.2))
    ]

row_found : (k : ℕ) (es : List (ℕ × Waiting)) (row : Waiting) → lookup (nat_eq k) es ≡ Some row → (e : ℕ × Waiting) × IsIn e es × (e.0 ≡ k)
row_found k [] row at = absurd (none_some at)
row_found k (x ∷ es) row at =
    elim (cases_Bool (eqb k x.0)) [
      | inl same ↦ (x, inl refl, equal_from k x.0 same)
      | inr other ↦ (let later = row_found k es row (rw other at at) in (later.0, inr later.1, later.2))
    ]

ids_long : (ws : List Waiter) → length (map (λ (v : Waiter). v.id) ws) ≡ length ws
ids_long [] = refl
ids_long (w ∷ ws) = ap suc (ids_long ws)

keys_long : (es : List (ℕ × Waiting)) → length (keys_of es) ≡ length es
keys_long [] = refl
keys_long (e ∷ es) = ap suc (keys_long es)

pub rows_few : (s : CoreState) (l : Lists) → IsDistinct nat_eq (keys_of l.waiting) → AreAwaited s l → length l.waiting ≤ length s.waiters
rows_few s l distinct all =
    let few = length-le_from_is_member nat_eq_equiv (keys_of l.waiting) (map (λ (v : Waiter). v.id) s.waiters) distinct (λ k any.
    (let row = row_of k l.waiting any in
    let is = all_in (IsAwaited s l) row.0 l.waiting all row.1 in
    id_in k s.waiters is.waiter is.waits (is.number ∙ row.2))) in
    omega (arith, few, keys_long l.waiting, ids_long s.waiters)

-- ---- the one that comes stands apart

last_apart : (ws : List Waiter) (v w : Waiter) → Pairwise are_apart (ws ++ w ∷ []) → IsIn v ws → eqb v.id w.id ≡ false
last_apart [] v w apart here = absurd here
last_apart (x ∷ ws) v w apart here =
    elim here [
      | inl first ↦ subst (λ (y : Waiter). eqb y.id w.id ≡ false) first (not_equal (eqb x.id w.id) (all_in (λ (y : Waiter). are_apart x y ≡ true) w (ws ++ w ∷ []) apart.0 (at_end ws w)))
      | inr rest ↦ last_apart ws v w apart.1 rest
    ]
  where
    not_equal : (b : Bool) → not b ≡ true → b ≡ false
    not_equal true h = absurd (true≢false (sym h))
    not_equal false h = refl

    at_end : (vs : List Waiter) (y : Waiter) → IsIn y (vs ++ y ∷ [])
    at_end [] y = inl refl
    at_end (z ∷ vs) y = inr (at_end vs y)

none_there : (s : CoreState) (l : Lists) (w : Waiter) (o : Option Waiting) → waiting_of w.id l ≡ o → Pairwise are_apart (s.waiters ++ w ∷ []) → AreAwaited s l → is_some o ≡ false
none_there s l w None at apart all = refl
none_there s l w (Some row) at apart all =
    let found = row_found w.id l.waiting row at in
    let is = all_in (IsAwaited s l) found.0 l.waiting all found.1 in
    let same : is.waiter.id ≡ w.id = is.number ∙ found.2 in
    absurd (true≢false (sym (subst (λ (k : ℕ). eqb is.waiter.id k ≡ true) same (equal_self is.waiter.id)) ∙ last_apart s.waiters is.waiter w apart is.waits))

both : (a b : Bool) → a ≡ true → b ≡ false → (a && not b) ≡ true
both a b first second = ap (λ (x : Bool). x && not b) first ∙ ap (λ (x : Bool). not x) second

-- ---- so it is kept

pub queued_kept : (n : ℕ) (left : Rooms) (s : CoreState) (l : Lists) (a : Ask) (id : ℕ) → IsGood s → IsFit a → IsDistinct nat_eq (keys_of l.waiting) → AreAwaited s l → (ask n left s a).0 ≡ Queued id → has_room_to_wait l id ≡ true
queued_kept n left s l a id good fit distinct all at =
    let t = (ask n left s a).2 in
    let new : Waiter = waiter_of id a (asking_party a s.names) (asked_claims a (asked_whats a.act) s.names) in
    let queue : t.waiters ≡ s.waiters ++ new ∷ [] = asked_waits n left s a good fit.party ∙ ap (λ (answer : Answer). s.waiters ++ come_by a answer s.names) at in
    let kept : IsGood t = ask_good n left s a good fit in
    let crowd : length (s.waiters ++ new ∷ []) ≤ most_waiting = subst (λ (ws : List Waiter). length ws ≤ most_waiting) queue kept.crowd in
    let few = rows_few s l distinct all in
    let room : nat_lt (length l.waiting) most_waiting ≡ true = grind (arith, nat_tests, crowd, few, length-append s.waiters (new ∷ [])) in
    both (nat_lt (length l.waiting) most_waiting) (is_some (waiting_of id l)) room (none_there s l new (waiting_of id l) refl (subst (λ (ws : List Waiter). Pairwise are_apart ws) queue kept.apart) all)
