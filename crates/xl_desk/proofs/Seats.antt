-- What a seat has in hand, from what the table's steps tell.
use Rattle.std.proofs.Common.{◌≡◌, ◌<◌, ◌+◌, ◌-◌, ◌%◌, ◌^◌, ◌==◌, ℕ, zero, suc, Bool, true, false, List, [], ◌∷◌, ◌++◌, length, drop, get_or, set, sym, refl, ap, ◌∙◌, subst, arith, Option, Some, None, IfSome}
use Rattle.std.proofs.lemmas.Bool.{eqb-true, eq-eqb}
use mathlib.Core.List.{IsPrefix}
use mathlib.Core.Option.{none}
use Rattle.atomic_table.specs.Seated.{TableId}
use Rattle.atomic_table.specs.Table.{step, rest, Allows}
use Rattle.xl_base.specs.declared.event.Event.{Event}
use Rattle.xl_base.specs.declared.halt.Halt.{Halt}
use Rattle.xl_base.specs.declared.journal.Entry.{Entry}
use Rattle.xl_desk.specs.declared.view.View.{View}
use Rattle.xl_desk.specs.declared.fault.DeskErr.TheVariants.{Halted}
use Rattle.xl_desk.specs.Due.{entries_from}
use Rattle.xl_desk.specs.Passes.{IsRooted, IsLawful, IsLooked, IsCalled, IsRefused}
use Rattle.xl_base.specs.Serials.{Extends}
use Rattle.xl_desk.specs.Turns.{Sat, HasTurn, HasInHand, OneTurn, Tells, opened, taken, added, halted, with_turn, without_turn, after_call, stopped, number_of}
use Rattle.xl_desk.proofs.Grown.{front_grows}
use Rattle.xl_desk.proofs.Steps.{nothing_grew, adds_put, has_added, halts_put, has_stopped, halted_here}

-- the three words of a desk
pub word_0 : (n : ℕ) → n ≡ 3 → 0 < n
word_0 n three = omega arith

pub word_1 : (n : ℕ) → n ≡ 3 → 1 < n
word_1 n three = omega arith

pub word_2 : (n : ℕ) → n ≡ 3 → 2 < n
word_2 n three = omega arith

-- a seat is at the same table after two calls, and after three
pub table_on : (a b c : TableId) → c ≡ b → b ≡ a → c ≡ a
table_on a b c two one = two ∙ one

-- a place past a lower one is a number of 64 bits
pub has_room : (place base first n m : ℕ) → place ≡ base + n → place < 2 ^ 63 → first ≡ base → m ≡ n → first + m + 1 < 2 ^ 64
has_room place base first n m at small same long = omega arith

-- the one slot of a desk, once it was emptied
first_off : (filled : List Bool) → get_or (set filled 0 false) 0 false ≡ false
first_off [] = refl
first_off (x ∷ xs) = refl

pub emptied : (old new : List Bool) (n k : ℕ) → n ≡ 1 → new ≡ set old 0 false → k < n → get_or new k false ≡ false
emptied old new n zero one now low = ap (λ (z : List Bool). get_or z 0 false) now ∙ first_off old
emptied old new n (suc k) one now low = absurd (omega arith)

pub slot_0 : (n : ℕ) → n ≡ 1 → 0 < n
slot_0 n one = omega arith

module _ {H : Type 0} where
  same_first : (x y : ℕ × Option H) (xs ys : List (ℕ × Option H)) → x ∷ xs ≡ y ∷ ys → x ≡ y
  same_first x y xs ys e = cc e

  -- the machine that was in hand is what the slot gave
  pub lifted : (cs : List (ℕ × Option H)) (h : H) (found : Option H) → cs ≡ (0, Some h) ∷ [] → cs ≡ (0, found) ∷ rest cs → found ≡ Some h
  lifted cs h found hand slot = sym (ap (λ (z : ℕ × Option H). z.1) (same_first (0, Some h) (0, found) [] (rest cs) (sym hand ∙ slot)))

module _ {H O : Type 0} where
  pub view_of : (m : Sat H O) (v : View O) (cs : List (ℕ × Option H)) → m ≡ (v, cs) → m.0 ≡ v
  view_of m v cs is = ap (λ (z : Sat H O). z.0) is

  pub hand_of : (m : Sat H O) (v : View O) (cs : List (ℕ × Option H)) → m ≡ (v, cs) → m.1 ≡ cs
  hand_of m v cs is = ap (λ (z : Sat H O). z.1) is

  -- the machine was lifted out of the hand
  pub lifted_hand : (m new : Sat H O) (h : H) → new ≡ (m.0, (0, None) ∷ rest m.1) → m.1 ≡ (0, Some h) ∷ [] → new ≡ (m.0, (0, None) ∷ [])
  lifted_hand m new h now hand = now ∙ ap (λ (cs : List (ℕ × Option H)). (m.0, (0, None) ∷ rest cs)) hand

  -- the machine was lifted and put back as it was
  pub as_before : (old new : Sat H O) (u : View O) (h : H) → u ≡ old.0 → old.1 ≡ (0, Some h) ∷ [] → new.0 ≡ u → new.1 ≡ (0, Some h) ∷ [] → new ≡ old
  as_before old new u h lifted had put hand = λ k. ((put ∙ lifted) k, (hand ∙ sym had) k)

module _ {H O : Type 0} (history : H → List Entry) (halt_of : H → Option Halt) (origin_of : H → O) (first : O → ℕ) (lawful : O → List Entry → Type 0) where
  -- the turn was free, and the seat has it now
  pub took : (m new : Sat H O) (r : ℕ) → m.1 ≡ [] → 0 < m.0.shares → taken history halt_of origin_of first lawful (step 0 0 0 0 none) m r new → (r == 0) ≡ true
      → (h : H) × HasTurn history halt_of origin_of first new h × (new.0 ≡ with_turn m.0 (history h) (halt_of h)) × IsPrefix m.0.seen (history h) × lawful (origin_of h) (history h) × IfSome m.0.halt (λ reason. halt_of h ≡ Some reason) × IfSome m.0.halt (λ _. history h ≡ m.0.seen)
  took m new r empty live told free =
      let t = told.0 (eqb-true r 0 free) in
      let h : H = t.0 in
      let now : new ≡ (with_turn m.0 (history h) (halt_of h), (0, Some h) ∷ []) = t.1 ∙ ap (λ cs. (with_turn m.0 (history h) (halt_of h), (0, Some h) ∷ cs)) empty in
      (h, subst (λ (z : Sat H O). HasTurn history halt_of origin_of first z h) (sym now) (refl, (refl, refl, t.4, t.5), refl, live), ap (λ (z : Sat H O). z.0) now, t.2, t.3, t.6, t.7)

  -- the first seat is a pass's
  pub opened_idle : (m : Sat H O) (h : H) → m ≡ (opened (origin_of h) (first (origin_of h)) (history h) (halt_of h), []) → (m.1 ≡ []) × (m.0.turn ≡ false) × (0 < m.0.shares) × IsRooted first m.0
  opened_idle m h is = subst (λ (z : Sat H O). (z.1 ≡ []) × (z.0.turn ≡ false) × (0 < z.0.shares) × IsRooted first z.0) (sym is) (refl, refl, omega arith, (origin_of h, refl, refl))

  pub opened_of : (m : Sat H O) (h k : H) → m ≡ (opened (origin_of h) (first (origin_of h)) (history h) (halt_of h), []) → h ≡ k → m.0 ≡ opened (origin_of k) (first (origin_of k)) (history k) (halt_of k)
  opened_of m h k is same = ap (λ (z : Sat H O). z.0) is ∙ ap (λ (z : H). opened (origin_of z) (first (origin_of z)) (history z) (halt_of z)) same

  -- it was taken, and the seat is as it was
  pub waits : (m new : Sat H O) (r : ℕ) → taken history halt_of origin_of first lawful (step 0 0 0 0 none) m r new → (r == 0) ≡ false → new ≡ m
  waits m new r told busy = told.1 (λ free. absurd (cc (eq-eqb r 0 free, busy)))

  -- the machine was lifted, and put back as it was
  pub put_again : (v u : View O) (m : Sat H O) (h : H) → Tells history halt_of origin_of first v h → v.turn ≡ true → 0 < v.shares → u ≡ v → m.0 ≡ u → m.1 ≡ (0, Some h) ∷ [] → HasTurn history halt_of origin_of first m h
  put_again v u m h tells turn live lifted put hand = subst (λ (z : Sat H O). HasTurn history halt_of origin_of first z h) (λ k. (sym (put ∙ lifted) k, sym hand k)) (refl, tells, turn, live)

  -- what the machine has from a place on, and the place past its last entry, as the view tells them
  pub from_on : (v : View O) (h : H) (from : ℕ) (found : List Entry) → Tells history halt_of origin_of first v h → found ≡ drop (from - first (origin_of h)) (history h) → found ≡ entries_from v.first from v.seen
  from_on v h from found tells is = is ∙ ap (λ (z : ℕ × List Entry). drop (from - z.0) z.1) (λ i. (sym tells.3 i, tells.0 i))

  pub end_on : (v : View O) (h : H) (n : ℕ) → Tells history halt_of origin_of first v h → n ≡ first (origin_of h) + length (history h) → n ≡ v.first + length v.seen
  end_on v h n tells is = is ∙ ap (λ (z : ℕ × List Entry). z.0 + length z.1) (λ i. (sym tells.3 i, tells.0 i))

  -- a seat that gave the turn back is a pass's, and what it has seen is lawful
  pub rested : (m : Sat H O) (x : View O) → ((h : H) × HasTurn history halt_of origin_of first m h) → x ≡ without_turn m.0 → (x.turn ≡ false) × (0 < x.shares) × IsRooted first x
  rested m x has end = subst (λ (z : View O). (z.turn ≡ false) × (0 < z.shares) × IsRooted first z) (sym end) (refl, has.1.3, (origin_of has.0, has.1.1.2, has.1.1.3))

  pub rests_lawful : (u w x : View O) (h : H) → Tells history halt_of origin_of first u h → lawful (origin_of h) (history h) → w ≡ u → x ≡ without_turn w → IsLawful first lawful x
  rests_lawful u w x h tells ok same end = subst (λ (z : View O). IsLawful first lawful z) (sym (end ∙ ap without_turn same)) (origin_of h, tells.2, tells.3, subst (λ (l : List Entry). lawful (origin_of h) l) tells.0 ok)

module _ {H O : Type 0} (history : H → List Entry) (halt_of : H → Option Halt) (origin_of : H → O) (first : O → ℕ) (lawful : O → List Entry → Type 0) (may_halt : List Entry → Halt → Type 0) where
  -- The machine was lifted, stepped and put back. If it has one entry more, that may be counted.
  pub may_count : (n id : ℕ) (v u : View O) (m : Sat H O) (h k : H) (event : Event) (place : ℕ) → Tells history halt_of origin_of first v h → v.turn ≡ true → v.halt ≡ None → 0 < v.shares → u ≡ v → m.0 ≡ u → m.1 ≡ (0, Some k) ∷ [] → origin_of k ≡ origin_of h → Extends (first (origin_of h)) (history h) (history k) event place → lawful (origin_of k) (history k)
      → Allows (OneTurn history halt_of origin_of first lawful may_halt) n id m 0 (λ n. (n + 1) % 2 ^ 64) (added history (step n 0 1 0 none) m)
  may_count n id v u m h k event place tells turn runs live lifted put hand same x ok =
      adds_put history halt_of origin_of first lawful may_halt n id v m k (put ∙ lifted) hand turn runs live (has_room place (first (origin_of h)) v.first (length (history h)) (length v.seen) x.3 x.4 tells.3 (ap length (sym tells.0))) (x.0, x.1 ∙ ap (λ (l : List Entry). l ++ x.0 ∷ []) tells.0) (tells.2 ∙ ap Some (sym same)) ok

  pub has_counted : (v u : View O) (m new : Sat H O) (h k : H) (event : Event) (place : ℕ) → Tells history halt_of origin_of first v h → v.turn ≡ true → v.halt ≡ None → 0 < v.shares → u ≡ v → m.0 ≡ u → m.1 ≡ (0, Some k) ∷ [] → origin_of k ≡ origin_of h → halt_of k ≡ None → Extends (first (origin_of h)) (history h) (history k) event place → ((entry : Entry) × HasInHand m (λ z. history z ≡ m.0.seen ++ entry ∷ []) × (new ≡ (after_call m.0 entry, m.1)))
      → HasTurn history halt_of origin_of first new k × ((entry : Entry) → history k ≡ v.seen ++ entry ∷ [] → new.0 ≡ after_call v entry)
  has_counted v u m new h k event place tells turn runs live lifted put hand same running x done =
      has_added history halt_of origin_of first lawful may_halt v m new k (put ∙ lifted) hand turn runs live (running, tells.2 ∙ ap Some (sym same), tells.3 ∙ ap first (sym same)) done

  pub call_counted : (v : View O) (new : Sat H O) (h k : H) (event : Event) (place : ℕ) → Tells history halt_of origin_of first v h → Extends (first (origin_of h)) (history h) (history k) event place → ((entry : Entry) → history k ≡ v.seen ++ entry ∷ [] → new.0 ≡ after_call v entry)
      → (entry : Entry) × (new.0 ≡ after_call v entry) × (entry.event ≡ event) × (place ≡ v.first + length v.seen)
  call_counted v new h k event place tells x counted =
      (x.0, counted x.0 (x.1 ∙ ap (λ (l : List Entry). l ++ x.0 ∷ []) tells.0), x.2, x.3 ∙ ap (λ (z : ℕ × List Entry). z.0 + length z.1) (λ i. (sym tells.3 i, tells.0 i)))

  -- If it has halted, that may be noted.
  pub may_note : (n id : ℕ) (v u : View O) (m : Sat H O) (h k : H) (word : ℕ) (reason : Halt) → Tells history halt_of origin_of first v h → v.turn ≡ true → v.halt ≡ None → u ≡ v → m.0 ≡ u → m.1 ≡ (0, Some k) ∷ [] → (history k ≡ history h) × (halt_of k ≡ Some reason) × may_halt (history h) reason → word ≡ number_of (Some reason)
      → Allows (OneTurn history halt_of origin_of first lawful may_halt) n id m 1 (λ _. word) (λ _. halted halt_of (step n 1 word 0 none) m word)
  may_note n id v u m h k word reason tells turn runs lifted put hand stops is =
      halts_put history halt_of origin_of first lawful may_halt n id v m k word reason (put ∙ lifted) hand turn runs stops.1 is (subst (λ (l : List Entry). may_halt l reason) tells.0 stops.2)

  pub has_noted : (v u : View O) (m new : Sat H O) (h k : H) (reason : Halt) (n : ℕ) → Tells history halt_of origin_of first v h → v.turn ≡ true → v.halt ≡ None → 0 < v.shares → u ≡ v → m.0 ≡ u → m.1 ≡ (0, Some k) ∷ [] → origin_of k ≡ origin_of h → (history k ≡ history h) × (halt_of k ≡ Some reason) × may_halt (history h) reason → n ≡ length (history k) → ((why : Halt) × HasInHand m (λ z. halt_of z ≡ Some why) × (new ≡ (stopped m.0 why, m.1)))
      → HasTurn history halt_of origin_of first new k × IsRefused may_halt v new.0 (Halted reason n)
  has_noted v u m new h k reason n tells turn runs live lifted put hand same stops count done =
      let has = has_stopped history halt_of origin_of first lawful may_halt v m new k reason (put ∙ lifted) hand turn live (stops.0 ∙ tells.0, stops.1, tells.2 ∙ ap Some (sym same), tells.3 ∙ ap first (sym same)) done in (
        has.0,
        halted_here may_halt v new.0 reason n has.1 runs (count ∙ ap length (stops.0 ∙ tells.0)) (subst (λ (l : List Entry). may_halt l reason) tells.0 stops.2),
      )

module _ {O : Type 0} where
  -- a turn in which nothing was entered is a look
  pub looked_in_turn : (v u w x : View O) (log : List Entry) (halt : Option Halt) → u ≡ with_turn v log halt → w ≡ u → x ≡ without_turn w → IsPrefix v.seen log → IfSome v.halt (λ seen. halt ≡ Some seen) → IfSome v.halt (λ _. log ≡ v.seen) → IsLooked v x
  looked_in_turn v u w x log halt begin same end begins final grew =
      subst (λ (z : View O). IsLooked v z) (sym (end ∙ ap without_turn (same ∙ begin))) record {
        goes = record { seen = begins; origin = refl; first = refl; start = refl; halt = final; whole = grew };
        none = record { mine = refl; made = refl; shares = refl };
      }

  -- a turn in which one event was entered is a call
  pub called_in_turn : (v u w x : View O) (log : List Entry) (halt : Option Halt) (event : Event) (place : ℕ) → u ≡ with_turn v log halt → x ≡ without_turn w → IsPrefix v.seen log → IfSome v.halt (λ seen. halt ≡ Some seen) → u.halt ≡ None → ((entry : Entry) × (w ≡ after_call u entry) × (entry.event ≡ event) × (place ≡ u.first + length u.seen)) → IsCalled v x place event
  called_in_turn v u w x log halt event place begin end begins final runs done =
      let entry : Entry = done.0 in
      let free : halt ≡ None = ap (λ (z : View O). z.halt) (sym begin) ∙ runs in
      let at : place ≡ v.first + length log = done.3 ∙ ap (λ (z : View O). z.first + length z.seen) begin in
      subst (λ (z : View O). IsCalled v z place event) (sym (end ∙ ap without_turn (done.1 ∙ ap (λ (z : View O). after_call z entry) begin))) record {
        goes = record { seen = front_grows v.seen log (entry ∷ []) begins; origin = refl; first = refl; start = refl; halt = final; whole = nothing_grew v.halt halt v.seen (log ++ entry ∷ []) final free };
        seen = (begins.0, entry, ap (λ (l : List Entry). l ++ entry ∷ []) (sym begins.1), at ∙ ap (λ (l : List Entry). v.first + length l) (sym begins.1), done.2);
        mine = (length log, at, ap (λ (e : Event). v.mine ++ (length log, e) ∷ []) done.2);
        made = refl;
        shares = refl;
        runs = free;
      }
