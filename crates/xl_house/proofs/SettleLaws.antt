-- Turns come to an end.
use Rattle.std.proofs.Common.{◌≡◌, ℕ, zero, suc, ◌+◌, ◌<◌, ◌≤◌, ◌^◌, Option, Some, None, IfSome, option_map, List, [], ◌∷◌, ◌++◌, refl, sym, ap, subst, ◌∙◌, arith, append_assoc, append-nil}
use Rattle.xl_base.specs.Limits.{numbers_left}
use Rattle.xl_base.specs.declared.event.Out.{Out}
use Rattle.xl_core.specs.State.{CoreState, MayBe, GoesOn}
use Rattle.xl_core.specs.Good.{IsGood, IsSettled}
use Rattle.xl_core.specs.Numbers.{numbers_of}
use Rattle.xl_core.specs.Settle.{turns_left, settle}
use Rattle.xl_core.specs.declared.ask.Effect.{Effect}
use Rattle.xl_core.specs.Causes.{IsTurn}
use Rattle.xl_core.proofs.SettleLaws.{none_settled, turn_is, turn_fewer}
use Rattle.xl_core.proofs.NumberLaws.{counter_numbers}
use Rattle.xl_house.proofs.QuietLaws.{turn_pays}
use Rattle.xl_core.proofs.StoreLaws.{goes_on_then, may_be_before, may_be_made}
use Rattle.xl_plan.proofs.AsideLaws.{aside_goes_on}
use Rattle.xl_house.proofs.ShownLaws.{all_shown_is, all_shown_good, shown_aside, shown_numbers, shown_names, told_turns}
use Rattle.xl_base.specs.declared.journal.Exports.{Exports}
use Rattle.xl_house.specs.declared.layers.Fronts.{Fronts}
use Rattle.xl_names.specs.declared.name.Name.{Name}
use Rattle.xl_core.proofs.GoodLaws.{settle_good}
use Rattle.xl_plan.proofs.BudgetLaws.{come_same}
use Rattle.xl_front_nlm.specs.Short.{AreShort, IsReady, Leaves}
use Rattle.xl_house.specs.Shown.{IsShown}
use Rattle.xl_house.specs.State.{rooms_of}
use Rattle.xl_house.specs.Telling.{Sent, TurnTaken, grants, behind, and_then, all_shown, turn_and_rest, taken, turns, turns_sent, settled}

-- what a turn gave
abbrev Turned : Type 0
Turned = Option (List Effect × CoreState)

-- ---- settling

none_for : (fuel n : ℕ) (exports : Exports) (f : Fronts) (s : CoreState) → settle n (rooms_of f) s ≡ None → taken fuel n exports f s ≡ []
none_for zero n exports f s e = refl
none_for (suc fuel) n exports f s e = ap (λ (r : Turned). turn_and_rest exports (taken fuel n exports) f r) e

fewer : (n : ℕ) (f : Fronts) (s t : CoreState) (effects : List Effect) → IsGood s → settle n (rooms_of f) s ≡ Some (effects, t) → turns_left t + 1 ≤ turns_left s
fewer n f s t effects good e = subst (λ (r : Turned). IfSome r (λ x. turns_left x.1 + 1 ≤ turns_left s)) e (turn_fewer n (rooms_of f) s good)

no_turn : (o : Turned) (most : ℕ) → IfSome o (λ r. turns_left r.1 + 1 ≤ most) → most ≤ 0 → o ≡ None
no_turn None most fewer none = refl
no_turn (Some turn) most fewer none = absurd (omega (arith, fewer, none))

-- where no turn is left none comes
no_more : (n : ℕ) (f : Fronts) (s : CoreState) → IsGood s → turns_left s ≤ 0 → settle n (rooms_of f) s ≡ None
no_more n f s good none = no_turn (settle n (rooms_of f) s) (turns_left s) (turn_fewer n (rooms_of f) s good) none

pub turned_good : (n : ℕ) (f : Fronts) (s t : CoreState) (effects : List Effect) → IsGood s → settle n (rooms_of f) s ≡ Some (effects, t) → IsGood t
turned_good n f s t effects good e = subst (λ (r : Turned). IfSome r (λ x. IsGood x.1)) e (settle_good n (rooms_of f) s good)

-- ---- where as many turns may come as are left

same_by : (p q n : ℕ) (exports : Exports) (f : Fronts) (s : CoreState) (o : Turned) → settle n (rooms_of f) s ≡ o → IsGood s → turns_left s ≤ suc p → turns_left s ≤ suc q
    → ((g : Fronts) (t : CoreState) → IsGood t → turns_left t ≤ p → turns_left t ≤ q → taken p n exports g t ≡ taken q n exports g t) → turn_and_rest exports (taken p n exports) f o ≡ turn_and_rest exports (taken q n exports) f o
same_by p q n exports f s None e good few enough each = refl
same_by p q n exports f s (Some turn) e good few enough each =
    let r = all_shown exports f turn.1 turn.0 in
    let less = fewer n f s turn.1 turn.0 good e in
    let same = told_turns exports f turn.1 turn.0 in
    ap (λ (rest : List TurnTaken). record { front = f; told = turn.0; left = turn.1 } ∷ rest)
    (each r.1 r.2 (all_shown_good exports f turn.1 turn.0 (turned_good n f s turn.1 turn.0 good e)) (omega (arith, less, few, same)) (omega (arith, less, enough, same)))

-- more of them change nothing
same_for : (p q n : ℕ) (exports : Exports) (f : Fronts) (s : CoreState) → IsGood s → turns_left s ≤ p → turns_left s ≤ q → taken p n exports f s ≡ taken q n exports f s
same_for zero q n exports f s good few enough = sym (none_for q n exports f s (no_more n f s good few))
same_for (suc p) zero n exports f s good few enough = none_for (suc p) n exports f s (no_more n f s good enough)
same_for (suc p) (suc q) n exports f s good few enough = same_by p q n exports f s (settle n (rooms_of f) s) refl good few enough (λ g t h k l. same_for p q n exports g t h k l)

-- none has one behind them
ends_by : (fuel n : ℕ) (exports : Exports) (f : Fronts) (s : CoreState) (o : Turned) → settle n (rooms_of f) s ≡ o → IsGood s → turns_left s ≤ suc fuel
    → ((g : Fronts) (t : CoreState) → IsGood t → turns_left t ≤ fuel → IsSettled (turns_sent exports g t (taken fuel n exports g t)).2) → IsSettled (turns_sent exports f s (turn_and_rest exports (taken fuel n exports) f o)).2
ends_by fuel n exports f s None e good few rests = none_settled n (rooms_of f) s e
ends_by fuel n exports f s (Some turn) e good few rests =
    let r = all_shown exports f turn.1 turn.0 in
    rests r.1 r.2 (all_shown_good exports f turn.1 turn.0 (turned_good n f s turn.1 turn.0 good e)) (omega (arith, fewer n f s turn.1 turn.0 good e, few, told_turns exports f turn.1 turn.0))

ends_for : (fuel n : ℕ) (exports : Exports) (f : Fronts) (s : CoreState) → IsGood s → turns_left s ≤ fuel → IsSettled (turns_sent exports f s (taken fuel n exports f s)).2
ends_for zero n exports f s good few = none_settled n (rooms_of f) s (no_more n f s good few)
ends_for (suc fuel) n exports f s good few = ends_by fuel n exports f s (settle n (rooms_of f) s) refl good few (λ g t h k. ends_for fuel n exports g t h k)

-- ---- all turns

-- nobody is forgotten
pub settling_ends : (n : ℕ) (exports : Exports) (f : Fronts) (s : CoreState) → IsGood s → IsSettled (settled n exports f s).2
unfolding settled turns
settling_ends n exports f s good = ends_for (turns_left s) n exports f s good (omega arith)

-- where no waiter has a turn there is none
none_turn : (n : ℕ) (exports : Exports) (f : Fronts) (s : CoreState) → settle n (rooms_of f) s ≡ None → turns n exports f s ≡ []
unfolding turns
none_turn n exports f s e = none_for (turns_left s) n exports f s e

pub none_settles : (n : ℕ) (exports : Exports) (f : Fronts) (s : CoreState) → settle n (rooms_of f) s ≡ None → settled n exports f s ≡ ([], f, s)
unfolding settled
none_settles n exports f s e = ap (λ (ts : List TurnTaken). turns_sent exports f s ts) (none_turn n exports f s e)

-- a turn, and then the rest
pub turns_are : (n : ℕ) (exports : Exports) (f : Fronts) (s t : CoreState) (effects : List Effect) → IsGood s → settle n (rooms_of f) s ≡ Some (effects, t)
    → (let r = all_shown exports f t effects in turns n exports f s ≡ record { front = f; told = effects; left = t } ∷ turns n exports r.1 r.2)
unfolding turns
turns_are n exports f s t effects good e =
    let r = all_shown exports f t effects in
    let left = turns_left s in
    let fell : turns_left r.2 ≤ left = omega (arith, fewer n f s t effects good e, told_turns exports f t effects) in
    same_for left (suc left) n exports f s good (omega arith) (omega arith)
    ∙ ap (λ (x : Turned). turn_and_rest exports (taken left n exports) f x) e
    ∙ ap (λ (rest : List TurnTaken). record { front = f; told = effects; left = t } ∷ rest) (same_for left (turns_left r.2) n exports r.1 r.2 (all_shown_good exports f t effects (turned_good n f s t effects good e)) fell (omega arith))

turn_settles : (n : ℕ) (exports : Exports) (f : Fronts) (s t : CoreState) (effects : List Effect) → IsGood s → settle n (rooms_of f) s ≡ Some (effects, t) → settled n exports f s ≡ and_then (settled n exports) (all_shown exports f t effects)
unfolding settled
turn_settles n exports f s t effects good e = ap (λ (ts : List TurnTaken). turns_sent exports f s ts) (turns_are n exports f s t effects good e)

-- how far settling came: what is still to be done gives what all of it gives
pub record IsSettling (exports : Exports) (before : Fronts) (first : CoreState) (sent : List Out) (f : Fronts) (s : CoreState) (outs : List Out) : Type 0 where
  pub on : GoesOn first s
  pub names : s.names ≡ first.names
  pub numbers : numbers_of s ≤ numbers_of first
  pub told : (n : ℕ) → MayBe n s → behind outs (settled n exports f s) ≡ behind sent (settled n exports before first)

behind_on : (outs more : List Out) (rest : Sent) → behind (outs ++ more) rest ≡ behind outs (behind more rest)
behind_on outs more rest = λ i. (append_assoc outs more rest.0 i, rest.1, rest.2)

-- ---- as the code tells it: what a turn gave, if there was one

abbrev Gives : Fronts → CoreState → CoreState → Option (List Effect) → Type 0
Gives f s t r = (n : ℕ) → MayBe n t → settle n (rooms_of f) s ≡ option_map (λ effects. (effects, t)) r

gives_some : (f : Fronts) (s t : CoreState) (r : Option (List Effect)) (effects : List Effect) → Gives f s t r → r ≡ Some effects → Gives f s t (Some effects)
gives_some f s t r effects gives e = subst (λ (x : Option (List Effect)). Gives f s t x) e gives

a_turn : (f : Fronts) (s t : CoreState) (effects : List Effect) → IsGood s → Gives f s t (Some effects) → IsTurn t.made (rooms_of f) s effects t
a_turn f s t effects good gives = subst (λ (r : Turned). IfSome r (λ x. IsTurn t.made (rooms_of f) s x.0 x.1)) (gives t.made (may_be_made t)) (turn_is t.made (rooms_of f) s good)

-- the calls that tell of a turn have their numbers
turn_room : (f : Fronts) (s t : CoreState) (effects : List Effect) → IsGood s → Gives f s t (Some effects) → numbers_of t + grants effects ≤ numbers_of s
turn_room f s t effects good gives = subst (λ (r : Turned). IfSome r (λ x. numbers_of x.1 + grants x.0 ≤ numbers_of s)) (gives t.made (may_be_made t)) (turn_pays t.made (rooms_of f) s good)

turn_names : (f : Fronts) (s t : CoreState) (effects : List Effect) → IsGood s → Gives f s t (Some effects) → t.names ≡ s.names
turn_names f s t effects good gives = (a_turn f s t effects good gives).names

turn_good : (f : Fronts) (s t : CoreState) (effects : List Effect) → IsGood s → Gives f s t (Some effects) → IsGood t
turn_good f s t effects good gives = subst (λ (r : Turned). IfSome r (λ x. IsGood x.1)) (gives t.made (may_be_made t)) (settle_good t.made (rooms_of f) s good)

-- so what a turn tells may be told
pub settling_numbers : (exports : Exports) (before : Fronts) (first : CoreState) (sent : List Out) (f : Fronts) (s : CoreState) (outs : List Out) → IsSettling exports before first sent f s outs → IsReady 0 first → s.counter + numbers_left < 2 ^ 32
settling_numbers exports before first sent f s outs settling ready = omega (arith, counter_numbers s, settling.numbers, ready.core.numbers)

pub turn_ready : (exports : Exports) (before : Fronts) (first : CoreState) (sent : List Out) (f : Fronts) (s t : CoreState) (outs : List Out) (r : Option (List Effect)) (effects : List Effect)
    → IsSettling exports before first sent f s outs → IsGood s → Gives f s t r → r ≡ Some effects → IsReady 0 first → IsReady (grants effects) t
turn_ready exports before first sent f s t outs r effects settling good gives e ready =
    let given = gives_some f s t r effects gives e in
    record {
      core = record { good = turn_good f s t effects good given; numbers = omega (arith, settling.numbers, turn_room f s t effects good given, ready.core.numbers) };
      short = subst (λ (names : List Name). AreShort names) (sym (turn_names f s t effects good given ∙ settling.names)) ready.short;
    }

pub turn_smaller : (exports : Exports) (f g : Fronts) (s t u : CoreState) (r : Option (List Effect)) (effects : List Effect) (outs new : List Out) → IsGood s → Gives f s t r → r ≡ Some effects → behind outs (all_shown exports f t effects) ≡ (new, g, u) → suc (turns_left u) ≤ turns_left s
turn_smaller exports f g s t u r effects outs new good gives e shown =
    let one = fewer t.made f s t effects good (gives_some f s t r effects gives e t.made (may_be_made t)) in
    let same : turns_left u ≡ turns_left t = ap (λ (x : Sent). turns_left x.2) (sym shown) ∙ told_turns exports f t effects in
    omega (arith, one, same)

pub turn_preserves : (exports : Exports) (before : Fronts) (first : CoreState) (sent : List Out) (f g : Fronts) (s t u : CoreState) (outs new : List Out) (r : Option (List Effect)) (effects : List Effect)
    → IsSettling exports before first sent f s outs → IsGood s → Gives f s t r → r ≡ Some effects → GoesOn s t → behind outs (all_shown exports f t effects) ≡ (new, g, u) → IsSettling exports before first sent g u new
turn_preserves exports before first sent f g s t u outs new r effects settling good gives e on shown =
    let given = gives_some f s t r effects gives e in
    let done = all_shown exports f t effects in
    let last : done.2 ≡ u = ap (λ (x : Sent). x.2) shown in
    let is : IsShown (grants effects) t u = subst (λ (x : CoreState). IsShown (grants effects) t x) last (all_shown_is exports f t effects) in
    let further : GoesOn t u = aside_goes_on t u (shown_aside (grants effects) t u is) in
    record {
      on = goes_on_then first s u settling.on (goes_on_then s t u on further);
      names = shown_names (grants effects) t u is ∙ turn_names f s t effects good given ∙ settling.names;
      numbers = omega (arith, settling.numbers, turn_room f s t effects good given, shown_numbers (grants effects) t u is);
      told = λ n may.
          ap (λ (x : Sent). and_then (settled n exports) x) (sym shown)
          ∙ behind_on outs done.0 (settled n exports done.1 done.2)
          ∙ ap (λ (x : Sent). behind outs x) (sym (turn_settles n exports f s t effects good (given n (may_be_before n t u further may))))
          ∙ settling.told n (may_be_before n s u (goes_on_then s t u on further) may);
    }

gives_none : (f : Fronts) (s t : CoreState) (r : Option (List Effect)) → Gives f s t r → r ≡ None → (n : ℕ) → MayBe n t → settle n (rooms_of f) s ≡ None
gives_none f s t r gives e n may = gives n may ∙ ap (λ (x : Option (List Effect)). option_map (λ effects. (effects, t)) x) e

-- once no waiter has a turn
pub ended_state : (exports : Exports) (before : Fronts) (first : CoreState) (sent : List Out) (f : Fronts) (s t : CoreState) (outs : List Out) (r : Option (List Effect))
    → IsSettling exports before first sent f s outs → Gives f s t r → r ≡ None → t ≡ s → (n : ℕ) → MayBe n t → behind sent (settled n exports before first) ≡ (outs, f, t)
ended_state exports before first sent f s t outs r settling gives e same n may =
    sym (settling.told n (subst (λ (x : CoreState). MayBe n x) same may))
    ∙ ap (λ (x : Sent). behind outs x) (none_settles n exports f s (gives_none f s t r gives e n may))
    ∙ (λ i. (append-nil outs i, f, sym same i))

pub ended_settled : (f : Fronts) (s t : CoreState) (r : Option (List Effect)) → Gives f s t r → r ≡ None → t ≡ s → IsSettled t
ended_settled f s t r gives e same =
    subst (λ (x : CoreState). IsSettled x) (sym same) (none_settled t.made (rooms_of f) s (gives_none f s t r gives e t.made (may_be_made t)))

pub ended_leaves : (exports : Exports) (before : Fronts) (first : CoreState) (sent : List Out) (f : Fronts) (s t : CoreState) (outs : List Out) → IsSettling exports before first sent f s outs → IsGood s → t ≡ s → Leaves 0 first t
ended_leaves exports before first sent f s t outs settling good same =
    subst (λ (x : CoreState). Leaves 0 first x) (sym same)
    (record { on = settling.on; good = good; numbers = omega (arith, settling.numbers); names = come_same first.names s.names settling.names })
