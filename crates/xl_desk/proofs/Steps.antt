-- Each step keeps the rule of the desk.
use Rattle.std.proofs.Common.{◌≡◌, ◌≢◌, ◌≤◌, ◌<◌, ◌+◌, ◌^◌, ◌%◌, ◌/◌, ◌==◌, ℕ, zero, suc, Bool, true, false, List, [], ◌∷◌, ◌++◌, length, get_or, set, sym, refl, ap, ◌∙◌, subst, inl, inr, ⊎_elim, arith, Option, Some, None, IfSome, length-set, length-append, append_assoc, div-add-mod', mod-lt, get_or-set_other, get_or-set_same, eq-eqb, ne_eqb}
use Rattle.std.proofs.Math.Nat.{mod-eq_of_lt}
use mathlib.Core.Logic.{dite}
use mathlib.Core.Option as opt
use mathlib.Core.Option.{none, some, some-injective, some-ne-none}
use mathlib.Core.List.{IsPrefix}
use native.Mathlib.Decide.{ℕ_discrete}
use lib.ListN.{get_elem?}
use lib.Seq.{set-get_or}
use prog.Atomic.{either}
use Rattle.atomic_table.specs.Table.{State, step, put_back, stepped, keeps, takes, gives, Allows, Splits, Joins, Final, Seen, opening}
use Rattle.atomic_table.proofs.Lists.{at_set, at_snoc, set_again, set_else, set_here}
use Rattle.xl_base.specs.declared.event.Event.{Event}
use Rattle.xl_base.specs.declared.halt.Halt.{Halt}
use Rattle.xl_base.specs.declared.halt.Halt.TheVariants as halt
use Rattle.xl_base.specs.declared.journal.Entry.{Entry}
use Rattle.xl_desk.specs.declared.view.View.{View}
use Rattle.xl_desk.specs.Turns.{total, bit, number_of, times, all_shares, AllStand, turn_of, made_of, shares_of, times_of, Fits, opened, with_turn, stopped, without_turn, stopped_behind, after_call, halved, half, both, looked, either_halt, spent, Is, OneTurn, Sat, HasInHand, HasTurn, Tells, Began, taken, checked, glanced, added, halted, given, seen_more, IsClosed}
use Rattle.xl_desk.specs.declared.fault.DeskErr.{DeskErr}
use Rattle.xl_desk.specs.declared.fault.DeskErr.TheVariants.{Halted, Stopped}
use Rattle.xl_desk.specs.Passes.{IsRooted, IsLawful, IsHalted, IsRefused}
use Rattle.xl_desk.proofs.Totals.{total_set, total_append, part_below, parts_below, alone_in}
use Rattle.xl_desk.proofs.Grown.{whole, front_grows, last_stands, still_stand, one_more, together}

-- ---- words, halts and values

no_bit : (b : Bool) → bit b ≤ 0 → b ≡ false
no_bit true low = absurd (omega arith)
no_bit false low = refl

pub same_some : {A : Type 0} (a b : A) (x : Option A) → x ≡ Some a → x ≡ Some b → a ≡ b
same_some a b x one two = cc (one, two)

some_same : {A : Type 0} (a b : A) → Some a ≡ Some b → a ≡ b
some_same a b e = cc e

same_last : {A : Type 0} (xs : List A) (a b : A) → xs ++ a ∷ [] ≡ xs ++ b ∷ [] → a ≡ b
same_last [] a b e = cc e
same_last (x ∷ xs) a b e = same_last xs a b (cc e)

-- a halt is final for itself
final_self : (x : Option Halt) → IfSome x (λ reason. x ≡ Some reason)
final_self None = tt
final_self (Some reason) = refl

-- nobody has seen a halt that isn't there
none_seen : (u halt : Option Halt) → IfSome u (λ reason. halt ≡ Some reason) → halt ≡ None → u ≡ None
none_seen None halt final runs = refl
none_seen (Some reason) halt final runs = absurd (cc (final, runs))

either_final : (a b halt : Option Halt) → IfSome a (λ reason. halt ≡ Some reason) → IfSome b (λ reason. halt ≡ Some reason) → IfSome (either_halt a b) (λ reason. halt ≡ Some reason)
either_final None b halt one two = two
either_final (Some reason) b halt one two = one

either_is : (a b halt : Option Halt) → a ≡ halt → IfSome b (λ reason. halt ≡ Some reason) → either_halt a b ≡ halt
either_is None None halt same two = same
either_is None (Some reason) halt same two = absurd (cc (same, two))
either_is (Some reason) b halt same two = same

-- a halt that was heard of is the machine's, behind the journal that was told
hears_all : (a b halt : Option Halt) (log told : List Entry) → IfSome a (λ reason. halt ≡ Some reason) → IfSome b (λ reason. halt ≡ Some reason) → IfSome b (λ _. told ≡ log) → IfSome b (λ reason. (either_halt a b ≡ Some reason) × (log ≡ told))
hears_all None None halt log told one two all = tt
hears_all None (Some reason) halt log told one two all = (refl, sym all)
hears_all (Some first) None halt log told one two all = tt
hears_all (Some first) (Some reason) halt log told one two all = (sym one ∙ two, sym all)

-- a halt has a number, and no halt has none
number_none : (x : Option Halt) → number_of x ≡ 0 → x ≡ None
number_none None e = refl
number_none (Some halt.NoMemory) e = absurd (cc e)
number_none (Some (halt.JournalFull count)) e = absurd (cc e)
number_none (Some (halt.StartStore count)) e = absurd (cc e)

number_some : (x : Option Halt) → number_of x ≢ 0 → (reason : Halt) × (x ≡ Some reason)
number_some None other = absurd (other refl)
number_some (Some reason) other = (reason, refl)

of_all : (x : Option Halt) (P : Type 0) → P → IfSome x (λ _. P)
of_all None P p = tt
of_all (Some reason) P p = p

some_as : (x : Option Halt) (P Q : Type 0) → (P → Q) → IfSome x (λ _. P) → IfSome x (λ _. Q)
some_as None P Q as_q p = tt
some_as (Some reason) P Q as_q p = as_q p

may_of : (P : Halt → Type 0) (x : Option Halt) → x ≡ None → IfSome x P
may_of P None runs = tt
may_of P (Some reason) runs = absurd (cc runs)

pub lawful_from : {O : Type 0} (first : O → ℕ) (lawful : O → List Entry → Type 0) (v : View O) → IsRooted first v → Began v (λ origin. lawful origin v.seen) → IsLawful first lawful v
lawful_from first lawful v rooted began = (rooted.0, rooted.1, rooted.2, subst (λ x. IfSome x (λ origin. lawful origin v.seen)) rooted.1 began)

-- what was seen stays seen
pub either_stays : (a b : Option Halt) → IfSome a (λ reason. either_halt a b ≡ Some reason)
either_stays None b = tt
either_stays (Some reason) b = refl

-- nothing was seen where the machine isn't halted
pub nothing_seen : (x halt : Option Halt) (reason : Halt) → IfSome x (λ seen. halt ≡ Some seen) → halt ≡ None → IfSome x (λ seen. Some reason ≡ Some seen)
nothing_seen None halt reason final runs = tt
nothing_seen (Some seen) halt reason final runs = absurd (cc (final, runs))

pub nothing_grew : (x halt : Option Halt) (old new : List Entry) → IfSome x (λ seen. halt ≡ Some seen) → halt ≡ None → IfSome x (λ _. new ≡ old)
nothing_grew None halt old new final runs = tt
nothing_grew (Some seen) halt old new final runs = absurd (cc (final, runs))

-- one halt behind another that was seen
halt_on : (a b c : Option Halt) → IfSome a (λ reason. b ≡ Some reason) → IfSome b (λ reason. c ≡ Some reason) → IfSome a (λ reason. c ≡ Some reason)
halt_on None b c one two = tt
halt_on (Some reason) b c one two = subst (λ (z : Option Halt). IfSome z (λ seen. c ≡ Some seen)) one two

-- and of a halt that was seen the whole journal was seen
whole_on : (a b : Option Halt) (x y z : List Entry) → IfSome a (λ reason. b ≡ Some reason) → IfSome a (λ _. y ≡ x) → IfSome b (λ _. z ≡ y) → IfSome a (λ _. z ≡ x)
whole_on None b x y z final one two = tt
whole_on (Some reason) b x y z final one two = subst (λ (h : Option Halt). IfSome h (λ _. z ≡ y)) final two ∙ one

prefix_on : {A : Type 0} (xs ys zs : List A) → IsPrefix xs ys → IsPrefix ys zs → IsPrefix xs zs
prefix_on xs ys zs p q = (p.0 ++ q.0, sym (append_assoc xs p.0 q.0) ∙ ap (λ w. w ++ q.0) p.1 ∙ q.1)

module _ {O : Type 0} (may_halt : List Entry → Halt → Type 0) where
  -- this call's step halted the machine
  pub halted_here : (v w : View O) (reason : Halt) (n : ℕ) → w ≡ stopped v reason → v.halt ≡ None → n ≡ length v.seen → may_halt v.seen reason → IsRefused may_halt v w (Halted reason n)
  halted_here v w reason n now runs count may = subst (λ (z : View O). IsRefused may_halt v z (Halted reason n)) (sym now) record {
    goes = record { seen = whole v.seen; origin = refl; first = refl; start = refl; halt = nothing_seen v.halt v.halt reason (final_self v.halt) runs; whole = of_all v.halt (v.seen ≡ v.seen) refl };
    none = record { mine = refl; made = refl; shares = refl };
    count = sym count;
    may = may;
    halt = refl;
  }

  -- the machine was found halted
  pub stopped_here : (v w : View O) (reason : Halt) (n : ℕ) → w ≡ v → v.halt ≡ Some reason → n ≡ length v.seen → may_halt v.seen reason → IsRefused may_halt v w (Stopped reason n)
  stopped_here v w reason n now halt count may = subst (λ (z : View O). IsRefused may_halt v z (Stopped reason n)) (sym now) record {
    goes = record { seen = whole v.seen; origin = refl; first = refl; start = refl; halt = final_self v.halt; whole = of_all v.halt (v.seen ≡ v.seen) refl };
    none = record { mine = refl; made = refl; shares = refl };
    count = sym count;
    may = may;
    halt = halt;
  }

  halted_through : (v w : View O) (log : List Entry) (halt : Option Halt) (reason : Halt) (n : ℕ) → IsPrefix v.seen log → IfSome v.halt (λ seen. halt ≡ Some seen) → IfSome v.halt (λ _. log ≡ v.seen) → IsHalted may_halt (with_turn v log halt) w reason n → IsHalted may_halt v (without_turn w) reason n
  halted_through v w log halt reason n begins final grew is = record {
    goes = record { seen = prefix_on v.seen log w.seen begins is.goes.seen; origin = is.goes.origin; first = is.goes.first; start = is.goes.start; halt = halt_on v.halt halt w.halt final is.goes.halt; whole = whole_on v.halt halt v.seen log w.seen final grew is.goes.whole };
    none = record { mine = is.none.mine; made = is.none.made; shares = is.none.shares };
    count = is.count;
    may = is.may;
    halt = is.halt;
  }

  refused_through : (v w : View O) (log : List Entry) (halt : Option Halt) (e : DeskErr) → IsPrefix v.seen log → IfSome v.halt (λ seen. halt ≡ Some seen) → IfSome v.halt (λ _. log ≡ v.seen) → IsRefused may_halt (with_turn v log halt) w e → IsRefused may_halt v (without_turn w) e
  refused_through v w log halt (Halted reason n) begins final grew is = halted_through v w log halt reason n begins final grew is
  refused_through v w log halt (Stopped reason n) begins final grew is = halted_through v w log halt reason n begins final grew is

  -- what was refused in a turn is refused
  pub refused_in_turn : (v u w x : View O) (log : List Entry) (halt : Option Halt) (e : DeskErr) → u ≡ with_turn v log halt → x ≡ without_turn w → IsPrefix v.seen log → IfSome v.halt (λ seen. halt ≡ Some seen) → IfSome v.halt (λ _. log ≡ v.seen) → IsRefused may_halt u w e → IsRefused may_halt v x e
  refused_in_turn v u w x log halt e begin end begins final grew is = subst (λ (z : View O). IsRefused may_halt v z e) (sym end) (refused_through v w log halt e begins final grew (subst (λ (z : View O). IsRefused may_halt z w e) begin is))

module _ {H O : Type 0} (history : H → List Entry) (halt_of : H → Option Halt) (origin_of : H → O) (first : O → ℕ) (lawful : O → List Entry → Type 0) (may_halt : List Entry → Halt → Type 0) where
  abbrev St : Type 0
  St = State (Option H) (View O)

  abbrev Rule : St → Type 0
  Rule = OneTurn history halt_of origin_of first lawful may_halt

  abbrev word : St → ℕ → ℕ
  word s i = get_or s.words i 0

  -- how a view fits the state
  abbrev FitsIn : (s : St) → Rule s → View O → Type 0
  FitsIn s r v = Fits r.origin (first r.origin) r.start r.log r.halt v

  -- no other seat has the turn
  idle_else : (s : St) (r : Rule s) (id : ℕ) (v : View O) → get_elem? s.views id ≡ some v → v.turn ≡ true → (j : ℕ) (u : View O) → j ≢ id → get_elem? s.views j ≡ some u → u.turn ≡ false
  idle_else s r id v at mine j u other there =
      let both : turn_of u + turn_of v ≤ total turn_of s.views = parts_below turn_of s.views j id u v other there at in
      let me : turn_of v ≡ 1 = ap bit mine in
      let turns = r.turns in
      let one = r.one in
      no_bit u.turn (omega arith)

  -- a step after which the journal, the calls and the shares are as before
  quiet : (s : St) (r : Rule s) (halt : Option Halt) (ws : List ℕ) (hs : List (opt.Option (Option H))) (id : ℕ) (v w : View O) → get_elem? s.views id ≡ some v
      → length ws ≡ 3 → get_or ws 0 0 ≡ word s 0 → get_or ws 1 0 ≡ number_of halt → IfSome halt (λ reason. may_halt r.log reason) → get_or ws 2 0 ≤ 1
      → (get_or ws 2 0 ≡ 0 → (h : H) × (get_elem? hs 0 ≡ some (some (Some h))) × Is history halt_of origin_of h r.log halt r.origin) → (get_or ws 2 0 ≡ 1 → get_elem? hs 0 ≡ some none)
      → total turn_of (set s.views id w) ≡ get_or ws 2 0
      → ((j : ℕ) (u : View O) → j ≢ id → get_elem? s.views j ≡ some u → Fits r.origin (first r.origin) r.start r.log halt u) → Fits r.origin (first r.origin) r.start r.log halt w
      → w.made ≡ v.made → w.mine ≡ v.mine → w.shares ≡ v.shares
      → Rule record { words = ws; homes = hs; views = set s.views id w }
  quiet s r halt ws hs id v w at wide count stop may one home away turns others me made mine shares = record {
    log = r.log;
    start = r.start;
    origin = r.origin;
    halt = halt;
    legal = r.legal;
    wide = wide;
    counted = count ∙ r.counted;
    halted = stop;
    may = may;
    one = one;
    home = home;
    away = away;
    turns = turns;
    each = λ j u e. ⊎_elim (λ (t : (j ≡ id) × (w ≡ u)). subst (λ (z : View O). Fits r.origin (first r.origin) r.start r.log halt z) t.1 me) (λ (t : (j ≢ id) × (get_elem? s.views j ≡ some u)). others j u t.0 t.1) (at_set s.views id j w u e);
    made = (let sums = total_set made_of s.views id v w at in let was = r.made in omega arith);
    shares = (let sums = total_set shares_of s.views id v w at in let was = r.shares in omega arith);
    once = λ p from to. let sums = total_set (times_of p) s.views id v w at in let was = r.once p from to in let same : times_of p w ≡ times_of p v = ap (times p) mine in omega arith;
    never = λ p out. let sums = total_set (times_of p) s.views id v w at in let was = r.never p out in let same : times_of p w ≡ times_of p v = ap (times p) mine in omega arith;
  }

  -- a step that changes the view alone
  unmoved : (s : St) (r : Rule s) (i id : ℕ) (cs : List (ℕ × Option H)) (v w : View O) → get_elem? s.views id ≡ some v → w.turn ≡ v.turn → FitsIn s r w → w.made ≡ v.made → w.mine ≡ v.mine → w.shares ≡ v.shares
      → Rule (stepped s i (word s i) id cs w keeps)
  unmoved s r i id cs v w at turn me made mine shares =
      let sums = total_set turn_of s.views id v w at in
      let same : turn_of w ≡ turn_of v = ap bit turn in
      let was = r.turns in
      subst (λ (ws : List ℕ). Rule record { words = ws; homes = s.homes; views = set s.views id w }) (sym (set-get_or s.words i 0))
      (quiet s r r.halt s.words s.homes id v w at r.wide refl r.halted r.may r.one r.home r.away (omega arith) (λ j u _. r.each j u) me made mine shares)

  pub takes_turn : (n id : ℕ) (m : Sat H O) → n ≡ 1 → m.0.turn ≡ false → 0 < m.0.shares → Allows Rule n id m 2 (λ n. either (n == 0) 1 n) (taken history halt_of origin_of first lawful (step n 2 0 1 none) m)
  takes_turn n id m size idle live s r one at small =
      let v = m.0 in
      let word2 : ℕ = word s 2 in
      let wide = r.wide in
      let fits = r.each id v at in
      let turns = r.turns in
      dite (ℕ_discrete word2 0)
      (λ free.
      let t = r.home free in
      let h : H = t.0 in
      let is = t.2 in
      let w : View O = with_turn v (history h) (halt_of h) in
      let now : either (word2 == 0) 1 word2 ≡ 1 = ap (λ (z : ℕ). either (z == 0) 1 z) free in
      let sums = total_set turn_of s.views id v w at in
      let was : turn_of v ≡ 0 = ap bit idle in
      let ws : List ℕ = set s.words 2 1 in
      let w0 : get_or ws 0 0 ≡ word s 0 = get_or-set_other s.words 2 0 1 0 (λ e. omega arith) in
      let w1 : get_or ws 1 0 ≡ word s 1 = get_or-set_other s.words 2 1 1 0 (λ e. omega arith) in
      let w2 : get_or ws 2 0 ≡ 1 = get_or-set_same s.words 2 1 0 (omega arith) in (
        w,
        takes 0 (Some h),
        t.1,
        subst (λ (z : ℕ). Rule (stepped s 2 z id m.1 w (takes 0 (Some h)))) (sym now)
            (quiet s r r.halt ws (set s.homes 0 none) id v w at (length-set s.words 2 1 ∙ wide) w0 (w1 ∙ r.halted) r.may (omega arith) (λ e. absurd (omega arith)) (λ _. set_here s.homes 0 none (omega arith)) (omega arith)
            (λ j u other there. r.each j u there)
            record { seen = subst (λ (z : List Entry). IsPrefix z r.log) (sym is.0) (whole r.log); told = fits.told; whole = λ _. is.0; stops = λ _. is.1; final = subst (λ (z : Option Halt). IfSome z (λ reason. r.halt ≡ Some reason)) (sym is.1) (final_self r.halt); heard = fits.heard; ends = of_all (halt_of h) (history h ≡ r.log) is.0; hears = fits.hears; mine = fits.mine; based = fits.based; spent = λ e. absurd (omega arith) }
            refl refl refl),
        ((λ _. (h, refl, subst (λ (z : List Entry). IsPrefix v.seen z) (sym is.0) fits.seen, subst (λ (z : O × List Entry). lawful z.0 z.1) (λ i. (sym is.2 i, sym is.0 i)) r.legal, (fits.based live).0 ∙ ap Some (sym is.2), (fits.based live).1 ∙ ap first (sym is.2), subst (λ (z : Option Halt). IfSome v.halt (λ reason. z ≡ Some reason)) (sym is.1) fits.final, some_as v.halt (v.seen ≡ r.log) (history h ≡ v.seen) (λ e. is.0 ∙ sym e) fits.ends)), (λ e. absurd (e free))),
      ))
      (λ busy.
      let now : either (word2 == 0) 1 word2 ≡ word2 = ap (λ (b : Bool). either b 1 word2) (ne_eqb word2 0 busy) in (
        v,
        keeps,
        tt,
        subst (λ (z : List ℕ × List (View O)). Rule record { words = z.0; homes = s.homes; views = z.1 }) (λ k. (sym (ap (set s.words 2) now ∙ set-get_or s.words 2 0) k, sym (set_again s.views id v at) k)) r,
        ((λ e. absurd (busy e)), (λ _. refl)),
      ))

  pub checks : (n id : ℕ) (m : Sat H O) → m.0.turn ≡ true → Allows Rule n id m 1 (λ n. n) (checked (step n 1 0 0 none) m)
  checks n id m turn s r _ at _ =
      let v = m.0 in
      let fits = r.each id v at in (
        v,
        keeps,
        tt,
        unmoved s r 1 id m.1 v v at refl fits refl refl refl,
        (r.halted ∙ ap number_of (sym (fits.stops turn)), refl),
      )

  pub glances : (n id : ℕ) (m : Sat H O) → Allows Rule n id m 1 (λ n. n) (glanced (step n 1 0 0 none) m)
  glances n id m s r _ at _ =
      let v = m.0 in
      let fits = r.each id v at in
      dite (ℕ_discrete (word s 1) 0)
      (λ free. (
        v,
        keeps,
        tt,
        unmoved s r 1 id m.1 v v at refl fits refl refl refl,
        ((λ _. (refl, none_seen v.halt r.halt fits.final (number_none r.halt (sym r.halted ∙ free)))), (λ e. absurd (e free))),
      ))
      (λ stops.
      let t = number_some r.halt (λ e. stops (r.halted ∙ e)) in
      let w : View O = stopped_behind v r.log t.0 in (
        w,
        keeps,
        tt,
        unmoved s r 1 id m.1 v w at refl record { seen = whole r.log; told = fits.told; whole = λ _. refl; stops = λ _. sym t.1; final = t.1; heard = fits.heard; ends = refl; hears = fits.hears; mine = fits.mine; based = fits.based; spent = fits.spent } refl refl refl,
        ((λ e. absurd (stops e)), (λ _. (r.log, t.0, refl, fits.seen, subst (λ (z : Option Halt). IfSome v.halt (λ seen. z ≡ Some seen)) t.1 fits.final, some_as v.halt (v.seen ≡ r.log) (r.log ≡ v.seen) (λ e. sym e) fits.ends))),
      ))

  pub halts : (n id : ℕ) (m : Sat H O) (k : ℕ) (reason : Halt) → m.0.turn ≡ true → m.0.halt ≡ None → HasInHand m (λ h. halt_of h ≡ Some reason) → k ≡ number_of (Some reason) → may_halt m.0.seen reason
      → Allows Rule n id m 1 (λ _. k) (λ _. halted halt_of (step n 1 k 0 none) m k)
  halts n id m k reason turn runs hand is may s r _ at _ =
      let v = m.0 in
      let w : View O = stopped v reason in
      let wide = r.wide in
      let fits = r.each id v at in
      let turns = r.turns in
      let sums = total_set turn_of s.views id v w at in
      let mine : turn_of v ≡ 1 = ap bit turn in
      let below : turn_of v ≤ total turn_of s.views = part_below turn_of s.views id v at in
      let none_yet : r.halt ≡ None = sym (fits.stops turn) ∙ runs in
      let ws : List ℕ = set s.words 1 k in
      let w0 : get_or ws 0 0 ≡ word s 0 = get_or-set_other s.words 1 0 k 0 (λ e. omega arith) in
      let w1 : get_or ws 1 0 ≡ k = get_or-set_same s.words 1 k 0 (omega arith) in
      let w2 : get_or ws 2 0 ≡ word s 2 = get_or-set_other s.words 1 2 k 0 (λ e. omega arith) in
      let one = r.one in (
        w,
        keeps,
        tt,
        quiet s r (Some reason) ws s.homes id v w at (length-set s.words 1 k ∙ wide) w0 (w1 ∙ is) (subst (λ (z : List Entry). may_halt z reason) (fits.whole turn) may) (omega arith) (λ e. absurd (omega arith)) (λ e. r.away (sym w2 ∙ e)) (omega arith)
            (λ j u other there. let u_fits = r.each j u there in let idle = idle_else s r id v at turn j u other there in record { seen = u_fits.seen; told = u_fits.told; whole = u_fits.whole; stops = λ e. absurd (cc (idle, e)); final = may_of (λ other. Some reason ≡ Some other) u.halt (none_seen u.halt r.halt u_fits.final none_yet); heard = may_of (λ other. Some reason ≡ Some other) u.heard (none_seen u.heard r.halt u_fits.heard none_yet); ends = u_fits.ends; hears = u_fits.hears; mine = u_fits.mine; based = u_fits.based; spent = u_fits.spent })
            record { seen = fits.seen; told = fits.told; whole = fits.whole; stops = λ _. refl; final = refl; heard = may_of (λ other. Some reason ≡ Some other) v.heard (none_seen v.heard r.halt fits.heard none_yet); ends = fits.whole turn; hears = fits.hears; mine = fits.mine; based = fits.based; spent = fits.spent }
            refl refl refl,
        (reason, hand, refl),
      )

  pub gives_turn : (n id : ℕ) (m : Sat H O) (h : H) (more : List (ℕ × Option H)) → n ≡ 1 → m.1 ≡ (0, Some h) ∷ more → history h ≡ m.0.seen → halt_of h ≡ m.0.halt → m.0.turn ≡ true → m.0.origin ≡ Some (origin_of h) → 0 < m.0.shares
      → Allows Rule n id m 2 (λ _. 0) (λ _. given (step n 2 0 0 none) m 0)
  gives_turn n id m h more size hand same stop turn began live s r one at _ =
      let v = m.0 in
      let w : View O = without_turn v in
      let wide = r.wide in
      let fits = r.each id v at in
      let turns = r.turns in
      let sums = total_set turn_of s.views id v w at in
      let mine : turn_of v ≡ 1 = ap bit turn in
      let below : turn_of v ≤ total turn_of s.views = part_below turn_of s.views id v at in
      let one_turn = r.one in
      let ws : List ℕ = set s.words 2 0 in
      let w0 : get_or ws 0 0 ≡ word s 0 = get_or-set_other s.words 2 0 0 0 (λ e. omega arith) in
      let w1 : get_or ws 1 0 ≡ word s 1 = get_or-set_other s.words 2 1 0 0 (λ e. omega arith) in
      let w2 : get_or ws 2 0 ≡ 0 = get_or-set_same s.words 2 0 0 (omega arith) in (
        w,
        gives,
        tt,
        subst (λ (c : List (ℕ × Option H)). Rule record { words = ws; homes = put_back s.homes c; views = set s.views id w }) (sym hand)
            (quiet s r r.halt ws (set s.homes 0 (some (Some h))) id v w at (length-set s.words 2 0 ∙ wide) w0 (w1 ∙ r.halted) r.may (omega arith)
            (λ _. (h, set_here s.homes 0 (some (Some h)) (omega arith), (same ∙ fits.whole turn, stop ∙ fits.stops turn, same_some (origin_of h) r.origin v.origin began (fits.based live).0))) (λ e. absurd (omega arith)) (omega arith)
            (λ j u other there. r.each j u there)
            record { seen = fits.seen; told = fits.told; whole = λ e. absurd (cc e); stops = λ e. absurd (cc e); final = fits.final; heard = fits.heard; ends = fits.ends; hears = fits.hears; mine = fits.mine; based = fits.based; spent = λ e. (refl, (fits.spent e).1, (fits.spent e).2) }
            refl refl refl),
        refl,
      )

  pub adds : (n id : ℕ) (m : Sat H O) (entry : Entry) → m.0.turn ≡ true → m.0.halt ≡ None → 0 < m.0.shares → m.0.first + length m.0.seen + 1 < 2 ^ 64 → HasInHand m (λ h. history h ≡ m.0.seen ++ entry ∷ []) → Began m.0 (λ origin. lawful origin (m.0.seen ++ entry ∷ []))
      → Allows Rule n id m 0 (λ n. (n + 1) % 2 ^ 64) (added history (step n 0 1 0 none) m)
  adds n id m entry turn runs live room hand ok s r _ at _ =
      let v = m.0 in
      let here : ℕ = length v.seen in
      let w : View O = after_call v entry in
      let c : ℕ × Event = (here, entry.event) in
      let wide = r.wide in
      let fits = r.each id v at in
      let all : v.seen ≡ r.log = fits.whole turn in
      let none_yet : r.halt ≡ None = sym (fits.stops turn) ∙ runs in
      let log : List Entry = v.seen ++ entry ∷ [] in
      let base : ℕ = first r.origin in
      let based : v.first ≡ base = (fits.based live).1 in
      let counted = r.counted in
      let was : word s 0 ≡ base + here = counted ∙ ap (λ (l : List Entry). base + length l) (sym all) in
      let old : length r.log ≡ here = ap length (sym all) in
      let long : length log ≡ here + 1 = length-append v.seen (entry ∷ []) in
      let low : (base + here) + 1 < 2 ^ 64 = omega arith in
      let next : (word s 0 + 1) % 2 ^ 64 ≡ (base + here) + 1 = ap (λ (z : ℕ). (z + 1) % 2 ^ 64) was ∙ mod-eq_of_lt low in
      let turns = r.turns in
      let turn_sums = total_set turn_of s.views id v w at in
      let mine : turn_of v ≡ 1 = ap bit turn in
      let below : turn_of v ≤ total turn_of s.views = part_below turn_of s.views id v at in
      let one = r.one in
      let ws : List ℕ = set s.words 0 ((base + here) + 1) in
      let w0 : get_or ws 0 0 ≡ (base + here) + 1 = get_or-set_same s.words 0 ((base + here) + 1) 0 (omega arith) in
      let w1 : get_or ws 1 0 ≡ word s 1 = get_or-set_other s.words 0 1 ((base + here) + 1) 0 (λ e. omega arith) in
      let w2 : get_or ws 2 0 ≡ word s 2 = get_or-set_other s.words 0 2 ((base + here) + 1) 0 (λ e. omega arith) in
      let made = r.made in
      let start_in : r.start ≤ here = omega arith in
      let place_sums : (p : ℕ) → total (times_of p) (set s.views id w) ≡ total (times_of p) s.views + bit (here == p) =
      λ p. let sums = total_set (times_of p) s.views id v w at in let more = total_append (λ (c : ℕ × Event). bit (c.0 == p)) v.mine (c ∷ []) in omega arith in
      let rule : Rule record { words = ws; homes = s.homes; views = set s.views id w } = record {
        log = log;
        start = r.start;
        origin = r.origin;
        halt = r.halt;
        legal = subst (λ (z : Option O). IfSome z (λ origin. lawful origin log)) (fits.based live).0 ok;
        wide = length-set s.words 0 ((base + here) + 1) ∙ wide;
        counted = omega (arith, w0, long);
        halted = w1 ∙ r.halted;
        may = may_of (λ reason. may_halt log reason) r.halt none_yet;
        one = omega arith;
        home = λ e. absurd (omega arith);
        away = λ e. r.away (sym w2 ∙ e);
        turns = omega arith;
        each = λ j u e. ⊎_elim
            (λ (t : (j ≡ id) × (w ≡ u)). subst (λ (z : View O). Fits r.origin base r.start log r.halt z) t.1 record {
              seen = whole log;
              told = subst (λ (z : List Entry). IsPrefix v.told (z ++ entry ∷ [])) (sym all) (front_grows v.told r.log (entry ∷ []) fits.told);
              whole = λ _. refl;
              stops = fits.stops;
              final = fits.final;
              heard = fits.heard;
              ends = may_of (λ _. log ≡ log) v.halt runs;
              hears = may_of (λ _. v.told ≡ log) v.heard (none_seen v.heard r.halt fits.heard none_yet);
              mine = one_more log r.start v.mine c (still_stand v.seen entry r.start v.mine (subst (λ (z : List Entry). AllStand z r.start v.mine) (sym all) fits.mine)) start_in (omega arith) (last_stands v.seen entry);
              based = fits.based;
              spent = λ e. absurd (omega arith);
            })
            (λ (t : (j ≢ id) × (get_elem? s.views j ≡ some u)).
            let u_fits = r.each j u t.1 in
            let idle = idle_else s r id v at turn j u t.0 t.1 in record {
              seen = front_grows u.seen v.seen (entry ∷ []) (subst (λ (z : List Entry). IsPrefix u.seen z) (sym all) u_fits.seen);
              told = front_grows u.told v.seen (entry ∷ []) (subst (λ (z : List Entry). IsPrefix u.told z) (sym all) u_fits.told);
              whole = λ e. absurd (cc (e, idle));
              stops = λ e. absurd (cc (e, idle));
              final = u_fits.final;
              heard = u_fits.heard;
              ends = may_of (λ _. u.seen ≡ log) u.halt (none_seen u.halt r.halt u_fits.final none_yet);
              hears = may_of (λ _. u.told ≡ log) u.heard (none_seen u.heard r.halt u_fits.heard none_yet);
              mine = still_stand v.seen entry r.start u.mine (subst (λ (z : List Entry). AllStand z r.start u.mine) (sym all) u_fits.mine);
              based = u_fits.based;
              spent = u_fits.spent;
            })
            (at_set s.views id j w u e);
        made = (let sums = total_set made_of s.views id v w at in omega arith);
        shares = (let sums = total_set shares_of s.views id v w at in let was = r.shares in omega arith);
        once = λ p from to. dite (ℕ_discrete here p)
            (λ same. let sums = place_sums p in let none_yet = r.never p (inr (omega arith)) in let one : bit (here == p) ≡ 1 = ap bit (eq-eqb here p same) in omega arith)
            (λ other. let sums = place_sums p in let once = r.once p from (omega arith) in let none_new : bit (here == p) ≡ 0 = ap bit (ne_eqb here p other) in omega arith);
        never = λ p out. let sums = place_sums p in let was = r.never p (⊎_elim (λ (a : p < r.start). inl a) (λ (b : length log ≤ p). inr (omega arith)) out) in
            let other : here ≢ p = λ e. ⊎_elim (λ (a : p < r.start). absurd (omega arith)) (λ (b : length log ≤ p). absurd (omega arith)) out in
            let none_new : bit (here == p) ≡ 0 = ap bit (ne_eqb here p other) in omega arith;
      } in (
        w,
        keeps,
        tt,
        subst (λ (z : ℕ). Rule (stepped s 0 z id m.1 w keeps)) (sym next) rule,
        (entry, hand, refl),
      )

  pub adds_put : (n id : ℕ) (v : View O) (m : Sat H O) (h : H) → m.0 ≡ v → m.1 ≡ (0, Some h) ∷ [] → v.turn ≡ true → v.halt ≡ None → 0 < v.shares → v.first + length v.seen + 1 < 2 ^ 64 → ((entry : Entry) × (history h ≡ v.seen ++ entry ∷ [])) → v.origin ≡ Some (origin_of h) → lawful (origin_of h) (history h)
      → Allows Rule n id m 0 (λ n. (n + 1) % 2 ^ 64) (added history (step n 0 1 0 none) m)
  adds_put n id v m h view hand turn runs live room grown began ok =
      subst (λ (z : Sat H O). Allows Rule n id z 0 (λ n. (n + 1) % 2 ^ 64) (added history (step n 0 1 0 none) z)) (λ k. (sym view k, sym hand k))
      (adds n id (v, (0, Some h) ∷ []) grown.0 turn runs live room (h, refl, grown.1) (subst (λ (z : Option O). IfSome z (λ origin. lawful origin (v.seen ++ grown.0 ∷ []))) (sym began) (subst (λ (z : List Entry). lawful (origin_of h) z) grown.1 ok)))

  pub halts_put : (n id : ℕ) (v : View O) (m : Sat H O) (h : H) (k : ℕ) (reason : Halt) → m.0 ≡ v → m.1 ≡ (0, Some h) ∷ [] → v.turn ≡ true → v.halt ≡ None → halt_of h ≡ Some reason → k ≡ number_of (Some reason) → may_halt v.seen reason
      → Allows Rule n id m 1 (λ _. k) (λ _. halted halt_of (step n 1 k 0 none) m k)
  halts_put n id v m h k reason view hand turn runs stops is may =
      subst (λ (z : Sat H O). Allows Rule n id z 1 (λ _. k) (λ _. halted halt_of (step n 1 k 0 none) z k)) (λ k. (sym view k, sym hand k))
      (halts n id (v, (0, Some h) ∷ []) k reason turn runs (h, refl, stops) is may)

  -- the machine in hand after its entry was counted, and after its halt was noted
  pub has_added : (v : View O) (m new : Sat H O) (h : H) → m.0 ≡ v → m.1 ≡ (0, Some h) ∷ [] → v.turn ≡ true → v.halt ≡ None → 0 < v.shares → (halt_of h ≡ None) × (v.origin ≡ Some (origin_of h)) × (v.first ≡ first (origin_of h)) → ((entry : Entry) × HasInHand m (λ x. history x ≡ m.0.seen ++ entry ∷ []) × (new ≡ (after_call m.0 entry, m.1)))
      → HasTurn history halt_of origin_of first new h × ((entry : Entry) → history h ≡ v.seen ++ entry ∷ [] → new.0 ≡ after_call v entry)
  has_added v m new h view hand turn runs live tells done =
      let at = subst (λ (z : Sat H O). (entry : Entry) × HasInHand z (λ x. history x ≡ z.0.seen ++ entry ∷ []) × (new ≡ (after_call z.0 entry, z.1))) (λ k. (view k, hand k)) done in
      let same : h ≡ at.1.0 = some_same h at.1.0 at.1.1 in
      let grown : history h ≡ v.seen ++ at.0 ∷ [] = ap history same ∙ at.1.2 in (
        subst (λ (z : Sat H O). HasTurn history halt_of origin_of first z h) (sym at.2) (refl, (grown, tells.0 ∙ sym runs, tells.1, tells.2), turn, live),
        (λ entry e. ap (λ (z : Sat H O). z.0) at.2 ∙ ap (after_call v) (same_last v.seen at.0 entry (sym grown ∙ e))),
      )

  pub has_stopped : (v : View O) (m new : Sat H O) (h : H) (reason : Halt) → m.0 ≡ v → m.1 ≡ (0, Some h) ∷ [] → v.turn ≡ true → 0 < v.shares → Tells history halt_of origin_of first (stopped v reason) h → ((why : Halt) × HasInHand m (λ x. halt_of x ≡ Some why) × (new ≡ (stopped m.0 why, m.1)))
      → HasTurn history halt_of origin_of first new h × (new.0 ≡ stopped v reason)
  has_stopped v m new h reason view hand turn live tells done =
      let at = subst (λ (z : Sat H O). (why : Halt) × HasInHand z (λ x. halt_of x ≡ Some why) × (new ≡ (stopped z.0 why, z.1))) (λ k. (view k, hand k)) done in
      let same : h ≡ at.1.0 = some_same h at.1.0 at.1.1 in
      let why : at.0 ≡ reason = some_same at.0 reason (sym (ap halt_of same ∙ at.1.2) ∙ tells.1) in
      let now : new ≡ (stopped v reason, (0, Some h) ∷ []) = at.2 ∙ ap {A = Halt} (λ z. (stopped v z, (0, Some h) ∷ [])) why in (
        subst (λ (z : Sat H O). HasTurn history halt_of origin_of first z h) (sym now) (refl, tells, turn, live),
        ap (λ (z : Sat H O). z.0) now,
      )

  -- the seat with all shares has made all calls
  all_made : (s : St) (r : Rule s) (id : ℕ) (v : View O) → get_elem? s.views id ≡ some v → v.shares ≡ all_shares → total made_of s.views ≡ v.made
  all_made s r id v at all =
      let shares = r.shares in
      alone_in made_of s.views id v at (λ j u other there. let two = parts_below shares_of s.views j id u v other there at in ((r.each j u there).spent (omega arith)).1)

  pub sees : (n id : ℕ) (m : Sat H O) → 0 < m.0.shares → Allows Rule n id m 0 (λ n. n) (seen_more lawful (step n 0 0 0 none) m)
  sees n id m live s r _ at _ =
      let v = m.0 in
      let fits = r.each id v at in
      let w : View O = looked v r.log in (
        w,
        keeps,
        tt,
        unmoved s r 0 id m.1 v w at refl record { seen = whole r.log; told = fits.told; whole = λ _. refl; stops = λ e. either_is v.halt v.heard r.halt (fits.stops e) fits.heard; final = either_final v.halt v.heard r.halt fits.final fits.heard; heard = tt; ends = of_all (either_halt v.halt v.heard) (r.log ≡ r.log) refl; hears = tt; mine = fits.mine; based = fits.based; spent = fits.spent } refl refl refl,
        (r.log, refl, fits.seen, fits.told, (let counted = r.counted in let based = (fits.based live).1 in omega arith), subst (λ (z : Option O). IfSome z (λ origin. lawful origin r.log)) (sym (fits.based live).0) r.legal, some_as v.halt (v.seen ≡ r.log) (r.log ≡ v.seen) (λ e. sym e) fits.ends, hears_all v.halt v.heard r.halt r.log v.told fits.final fits.heard fits.hears, (λ all. let mine = all_made s r id v at all in let made = r.made in let began = (fits.based live).2 in omega arith)),
      )

  pub opens : (n k : ℕ) (h : H) → n ≡ first (origin_of h) + length (history h) → k ≡ number_of (halt_of h) → IfSome (halt_of h) (λ reason. may_halt (history h) reason) → lawful (origin_of h) (history h)
      → Rule (opening (n ∷ k ∷ 0 ∷ []) (Some h ∷ []) (opened (origin_of h) (first (origin_of h)) (history h) (halt_of h)))
  opens n k h counts stops may ok = record {
    log = history h;
    start = length (history h);
    origin = origin_of h;
    halt = halt_of h;
    legal = ok;
    wide = refl;
    counted = counts;
    halted = stops;
    may = may;
    one = omega arith;
    home = λ _. (h, refl, (refl, refl, refl));
    away = λ z. absurd (omega arith);
    turns = refl;
    each = λ j u at. first_fits h j u at;
    made = omega arith;
    shares = refl;
    once = λ p from to. absurd (omega arith);
    never = λ p out. refl;
  }
    where
      fits : (h : H) → Fits (origin_of h) (first (origin_of h)) (length (history h)) (history h) (halt_of h) (opened (origin_of h) (first (origin_of h)) (history h) (halt_of h))
      fits h = record { seen = whole (history h); told = (history h, refl); whole = λ e. absurd (cc e); stops = λ e. absurd (cc e); final = final_self (halt_of h); heard = tt; ends = of_all (halt_of h) (history h ≡ history h) refl; hears = tt; mine = tt; based = λ _. (refl, refl, refl); spent = λ z. absurd (omega arith) }

      first_fits : (h : H) (j : ℕ) (u : View O) → get_elem? (opened (origin_of h) (first (origin_of h)) (history h) (halt_of h) ∷ []) j ≡ some u → Fits (origin_of h) (first (origin_of h)) (length (history h)) (history h) (halt_of h) u
      first_fits h zero u at = subst (λ (z : View O). Fits (origin_of h) (first (origin_of h)) (length (history h)) (history h) (halt_of h) z) (some-injective (opened (origin_of h) (first (origin_of h)) (history h) (halt_of h)) u at) (fits h)
      first_fits h (suc j) u at = absurd (some-ne-none u (sym at))

  pub splits : (id : ℕ) (v : View O) → v.turn ≡ false → 2 ≤ v.shares → Splits Rule id v (halved v) (half v)
  splits id v idle enough s r at =
      let fits = r.each id v at in
      let w : View O = halved v in
      let u : View O = half v in
      let q : ℕ = v.shares / 2 in
      let size = div-add-mod' v.shares 2 in
      let odd : v.shares % 2 < 2 = mod-lt v.shares (omega arith) in
      let views : List (View O) = set s.views id w in
      let all_times : (p : ℕ) → total (times_of p) (views ++ u ∷ []) ≡ total (times_of p) s.views = λ p. let sums = total_set (times_of p) s.views id v w at in let more = total_append (times_of p) views (u ∷ []) in omega arith in
      let w_fits : FitsIn s r w = record { seen = fits.seen; told = fits.told; whole = fits.whole; stops = fits.stops; final = fits.final; heard = fits.heard; ends = fits.ends; hears = fits.hears; mine = fits.mine; based = λ _. fits.based (omega arith); spent = λ e. absurd (omega arith) } in
      let u_fits : FitsIn s r u = record { seen = fits.seen; told = (r.log, refl); whole = λ e. absurd (cc e); stops = λ e. absurd (cc e); final = fits.final; heard = tt; ends = fits.ends; hears = tt; mine = tt; based = λ _. fits.based (omega arith); spent = λ e. (refl, refl, refl) } in
      record {
        log = r.log;
        start = r.start;
        origin = r.origin;
        halt = r.halt;
        legal = r.legal;
        wide = r.wide;
        counted = r.counted;
        halted = r.halted;
        may = r.may;
        one = r.one;
        home = r.home;
        away = r.away;
        turns = (let sums = total_set turn_of s.views id v w at in let more = total_append turn_of views (u ∷ []) in let was = r.turns in omega arith);
        each = λ j x e. ⊎_elim (λ (a : get_elem? views j ≡ some x). ⊎_elim (λ (t : (j ≡ id) × (w ≡ x)). subst (λ (z : View O). FitsIn s r z) t.1 w_fits) (λ (t : (j ≢ id) × (get_elem? s.views j ≡ some x)). r.each j x t.1) (at_set s.views id j w x a)) (λ (b : u ≡ x). subst (λ (z : View O). FitsIn s r z) b u_fits) (at_snoc views u x j e);
        made = (let sums = total_set made_of s.views id v w at in let more = total_append made_of views (u ∷ []) in let was = r.made in omega arith);
        shares = (let sums = total_set shares_of s.views id v w at in let more = total_append shares_of views (u ∷ []) in let was = r.shares in omega arith);
        once = λ p from to. let same = all_times p in let was = r.once p from to in omega arith;
        never = λ p out. let same = all_times p in let was = r.never p out in omega arith;
      }

  pub joins : (id other : ℕ) (v w : View O) → v.turn ≡ false → w.turn ≡ false → 0 < v.shares → Joins Rule id v other w (both v w) spent
  joins id other v w idle still live s r at apart there =
      let x : View O = both v w in
      let views : List (View O) = set s.views id x in
      let fits = r.each id v at in
      let was_there : get_elem? s.views other ≡ some w = sym (set_else s.views id other x apart) ∙ there in
      let w_fits = r.each other w was_there in
      let x_fits : FitsIn s r x = record { seen = fits.seen; told = w_fits.seen; whole = fits.whole; stops = λ e. absurd (cc (idle, e)); final = fits.final; heard = w_fits.final; ends = fits.ends; hears = w_fits.ends; mine = together r.log r.start v.mine w.mine fits.mine w_fits.mine; based = λ _. fits.based live; spent = λ e. absurd (omega arith) } in
      let none_fits : FitsIn s r spent = record { seen = (r.log, refl); told = (r.log, refl); whole = λ e. absurd (cc e); stops = λ e. absurd (cc e); final = tt; heard = tt; ends = tt; hears = tt; mine = tt; based = λ e. absurd (omega arith); spent = λ e. (refl, refl, refl) } in
      let v_off : turn_of v ≡ 0 = ap bit idle in
      let w_off : turn_of w ≡ 0 = ap bit still in
      let all_times : (p : ℕ) → total (times_of p) (set views other spent) ≡ total (times_of p) s.views = λ p. let one = total_set (times_of p) s.views id v x at in let two = total_set (times_of p) views other w spent there in let more = total_append (λ (c : ℕ × Event). bit (c.0 == p)) v.mine w.mine in omega arith in
      record {
        log = r.log;
        start = r.start;
        origin = r.origin;
        halt = r.halt;
        legal = r.legal;
        wide = r.wide;
        counted = r.counted;
        halted = r.halted;
        may = r.may;
        one = r.one;
        home = r.home;
        away = r.away;
        turns = (let one = total_set turn_of s.views id v x at in let two = total_set turn_of views other w spent there in let was = r.turns in omega arith);
        each = λ j y e. ⊎_elim (λ (t : (j ≡ other) × (spent ≡ y)). subst (λ (z : View O). FitsIn s r z) t.1 none_fits) (λ (t : (j ≢ other) × (get_elem? views j ≡ some y)). ⊎_elim (λ (a : (j ≡ id) × (x ≡ y)). subst (λ (z : View O). FitsIn s r z) a.1 x_fits) (λ (a : (j ≢ id) × (get_elem? s.views j ≡ some y)). r.each j y a.1) (at_set s.views id j x y t.1)) (at_set views other j spent y e);
        made = (let one = total_set made_of s.views id v x at in let two = total_set made_of views other w spent there in let was = r.made in omega arith);
        shares = (let one = total_set shares_of s.views id v x at in let two = total_set shares_of views other w spent there in let was = r.shares in omega arith);
        once = λ p from to. let same = all_times p in let was = r.once p from to in omega arith;
        never = λ p out. let same = all_times p in let was = r.never p out in omega arith;
      }

  -- the seat with all shares knows the whole growth of the journal
  pub closes : (id : ℕ) (v : View O) → v.turn ≡ false → v.shares ≡ all_shares → (ws : List ℕ) (xs : List (Option H)) → Final (Seen Rule id v) ws xs → (h : H) × (get_elem? xs 0 ≡ some (Some h)) × IsClosed history halt_of origin_of lawful v h
  closes id v idle all ws xs f =
      let s : St = f.0 in
      let r : Rule s = f.1.0 in
      let at : get_elem? s.views id ≡ some v = f.1.1 in
      let fits = r.each id v at in
      let shares = r.shares in
      let nobody : (j : ℕ) (u : View O) → j ≢ id → get_elem? s.views j ≡ some u → (u.turn ≡ false) × (u.made ≡ 0) × (u.mine ≡ []) =
      λ j u other there. let two = parts_below shares_of s.views j id u v other there at in (r.each j u there).spent (omega arith) in
      let turns = r.turns in
      let no_turn : total turn_of s.views ≡ turn_of v = alone_in turn_of s.views id v at (λ j u other there. ap bit (nobody j u other there).0) in
      let me_off : turn_of v ≡ 0 = ap bit idle in
      let mine : total made_of s.views ≡ v.made = all_made s r id v at all in
      let all_times : (p : ℕ) → total (times_of p) s.views ≡ times p v.mine = λ p. alone_in (times_of p) s.views id v at (λ j u other there. ap (times p) (nobody j u other there).2) in
      let t = r.home (omega arith) in
      let h : H = t.0 in
      let is = t.2 in
      let same : r.log ≡ history h = sym is.0 in
      let based = fits.based (omega arith) in
      let began : v.start ≡ r.start = based.2 in
      let made = r.made in
      let long : length r.log ≡ length (history h) = ap length same in (
        h,
        f.4 0 (Some h) t.1,
        record {
          seen = subst (λ (z : List Entry). IsPrefix v.seen z) same fits.seen;
          origin = based.0 ∙ ap Some (sym is.2);
          legal = subst (λ (z : O × List Entry). lawful z.0 z.1) (λ k. (sym is.2 k, same k)) r.legal;
          halt = subst (λ (z : Option Halt). IfSome v.halt (λ reason. z ≡ Some reason)) (sym is.1) fits.final;
          grown = omega arith;
          mine = subst (λ (z : List Entry × ℕ). AllStand z.0 z.1 v.mine) (λ k. (same k, sym began k)) fits.mine;
          once = λ p from to. sym (all_times p) ∙ r.once p (omega arith) (omega arith);
        },
      )
