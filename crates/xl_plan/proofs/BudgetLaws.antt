-- Budgets: what calls of the core leave, one behind the other.
use Rattle.std.proofs.Common.{◌≡◌, ℕ, ◌+◌, ◌<◌, ◌≤◌, ◌^◌, Bool, true, false, if◌then◌else◌, List, [], ◌∷◌, ◌++◌, Option, refl, sym, ap, subst, ◌∙◌, inl, inr, arith, append-nil, append_assoc}
use Rattle.std.proofs.lemmas.Bool.{cases_Bool}
use Rattle.std.specs.List.{AllByRecursion}
use Rattle.xl_base.proofs.Members.{all_append, all_weaker}
use Rattle.xl_base.specs.Limits.{numbers_left}
use Rattle.xl_base.specs.Lists.{IsIn}
use Rattle.xl_base.specs.Stable.{Stable}
use Rattle.xl_base.specs.declared.name.Party.{Party}
use Rattle.xl_matrix.specs.declared.claim.CacheKind.{CacheKind}
use Rattle.xl_matrix.specs.declared.claim.Claim.{Claim}
use Rattle.xl_matrix.specs.declared.claim.Rwd.{Rwd}
use Rattle.xl_names.specs.Names.{entered, is_kept}
use Rattle.xl_names.specs.declared.name.Name.{Name}
use Rattle.xl_wait.specs.Waiting.{is_waiting}
use Rattle.xl_wait.specs.declared.waiter.Rooms.{Rooms}
use Rattle.xl_core.specs.Askers.{who_entered, both_entered, IsFit}
use Rattle.xl_core.specs.Decide.{Answered, ask}
use Rattle.xl_core.specs.Frames.{IsFrame, asks_to_hold, names_after}
use Rattle.xl_core.specs.Good.{IsGood}
use Rattle.xl_core.specs.Numbers.{numbers_of}
use Rattle.xl_core.specs.BreakAnswers.{ack, may_be_left}
use Rattle.xl_core.specs.Settle.{cancel, close_open, end_party, give_back, weaken}
use Rattle.xl_core.specs.State.{CoreState, Aside, aside_of, GoesOn, MayBe, drawn}
use Rattle.xl_core.specs.Ticks.{renew}
use Rattle.xl_core.specs.declared.ask.Answer.{Answer}
use Rattle.xl_core.specs.declared.ask.Answer.TheVariants as answers
use Rattle.xl_core.specs.declared.ask.Ask.{Ask}
use Rattle.xl_core.specs.declared.ask.Effect.{Effect}
use Rattle.xl_core.specs.declared.ask.Who.{Who}
use Rattle.xl_core.specs.declared.ask.Who.TheVariants.{Named, Open}
use Rattle.xl_core.proofs.FrameLaws.{ack_frame, ask_frame, cancel_frame, close_open_frame, drawn_frame, end_party_frame, give_back_frame, renew_frame, weaken_frame}
use Rattle.xl_core.proofs.NumberLaws.{ack_numbers, ask_numbers, cancel_numbers, close_open_numbers, drawn_numbers, end_party_numbers, give_back_numbers, renew_numbers, weaken_numbers}
use Rattle.xl_plan.proofs.AsideLaws.{aside_goes_on, drawn_aside, cancel_aside, give_aside, weaken_aside, ack_aside, end_aside, close_aside, renew_aside}
use Rattle.xl_plan.specs.Budgets.{Come, IsReady, Leaves, IsWho, IsAskOf}

-- ---- names that come

pub come_self : {P : Name → Type 0} (names : List Name) → Come P names names
come_self names = record { more = []; is = sym (append-nil names); all = tt }

pub come_same : {P : Name → Type 0} (old new : List Name) → new ≡ old → Come P old new
come_same {P} old new same = subst (λ (names : List Name). Come P old names) (sym same) (come_self old)

pub come_then : {P : Name → Type 0} (xs ys zs : List Name) → Come P xs ys → Come P ys zs → Come P xs zs
come_then {P} xs ys zs first second = record {
  more = first.more ++ second.more;
  is = second.is ∙ ap (λ (x : List Name). x ++ second.more) first.is ∙ append_assoc xs first.more second.more;
  all = all_append P first.more second.more first.all second.all;
}

-- where Q holds of the names that were kept, and of each that P holds of, it holds of all
pub all_come : {P : Name → Type 0} (Q : Name → Type 0) (old new : List Name) → ((name : Name) → P name → Q name) → Come P old new → AllByRecursion Q old → AllByRecursion Q new
all_come {P} Q old new each come all = subst (λ (names : List Name). AllByRecursion Q names) (sym come.is) (all_append Q old come.more all (all_weaker P Q come.more each come.all))

pub one_comes : {P : Name → Type 0} (name : Name) (names : List Name) → P name → Come P names (entered name names)
one_comes name names is =
    elim (cases_Bool (is_kept name names)) [
      | inl e ↦ rw e (come_self names)
      | inr e ↦ rw e (record { more = name ∷ []; is = refl; all = (is, tt) })
    ]

who_comes : {P : Name → Type 0} (who : Who) (names : List Name) → IsWho P who → Come P names (who_entered who names)
who_comes (Named name) names is = one_comes name names is
who_comes (Open number) names is = come_self names

both_come : {P : Name → Type 0} (a : Ask) (names : List Name) → IsAskOf P a → Come P names (both_entered a names)
both_come a names is = come_then names (who_entered a.owner names) (both_entered a names) (who_comes a.owner names is.0) (who_comes a.party (who_entered a.owner names) is.1)

-- ---- one step behind the other

pub leaves_self : {P : Name → Type 0} (s : CoreState) (more least : ℕ) → IsReady more s → Leaves P least s s
leaves_self s more least ready = record { on = aside_goes_on s s refl; good = ready.good; numbers = omega arith; names = come_self s.names }

pub leaves_then : {P : Name → Type 0} (s t u : CoreState) (a b : ℕ) → Leaves P a s t → Leaves P b t u → Leaves P (a + b) s u
leaves_then s t u a b first second =
    record {
      on = record {
        made = omega (arith, first.on.made, second.on.made);
        failed = λ f. (let g = first.on.failed f in let h = second.on.failed g.0 in (h.0, h.1 ∙ g.1));
        more = first.on.more ++ second.on.more;
        given = second.on.given ∙ ap (λ (given : List Stable). given ++ second.on.more) first.on.given ∙ append_assoc s.given first.on.more second.on.more;
      };
      good = second.good;
      numbers = omega (arith, first.numbers, second.numbers);
      names = come_then s.names t.names u.names first.names second.names;
    }

pub leaves_more : {P : Name → Type 0} (s t : CoreState) (a b : ℕ) → a ≤ b → Leaves P a s t → Leaves P b s t
leaves_more s t a b le leaves = record { on = leaves.on; good = leaves.good; numbers = omega (arith, le, leaves.numbers); names = leaves.names }

pub leaves_weaker : {P : Name → Type 0} (Q : Name → Type 0) (s t : CoreState) (most : ℕ) → ((name : Name) → P name → Q name) → Leaves P most s t → Leaves Q most s t
leaves_weaker {P} Q s t most each leaves = record {
  on = leaves.on;
  good = leaves.good;
  numbers = leaves.numbers;
  names = record { more = leaves.names.more; is = leaves.names.is; all = all_weaker P Q leaves.names.more each leaves.names.all };
}

pub ready_then : {P : Name → Type 0} (s t : CoreState) (a b : ℕ) → IsReady (a + b) s → Leaves P a s t → IsReady b t
ready_then s t a b ready leaves = record { good = leaves.good; numbers = omega (arith, ready.numbers, leaves.numbers) }

pub ready_less : (s : CoreState) (a b : ℕ) → b ≤ a → IsReady a s → IsReady b s
ready_less s a b le ready = record { good = ready.good; numbers = omega (arith, le, ready.numbers) }

-- the numbers that are left to give out
pub ready_numbers : (s : CoreState) (more : ℕ) → IsReady more s → s.counter + numbers_left < 2 ^ 32
ready_numbers s more ready = omega (arith, ready.numbers)

-- what may be at the end of a step may be before it
pub may_before : {P : Name → Type 0} (n most : ℕ) (s t : CoreState) → Leaves P most s t → MayBe n t → MayBe n s
may_before n most s t leaves may = record {
  enough = omega (arith, leaves.on.made, may.enough);
  spent = λ f. (let g = leaves.on.failed f in omega (arith, g.1, may.spent g.0));
}

-- ---- the calls of the core

-- who is let go is told of
pub frame_leaves : {P : Name → Type 0} (s t : CoreState) (told : List Effect) (given most : ℕ) → IsFrame s told t given s.names [] → aside_of t ≡ aside_of s → numbers_of t ≤ numbers_of s + most → IsGood t → Leaves P most s t
frame_leaves s t told given most frame same numbers good = record {
  on = aside_goes_on s t same;
  good = good;
  numbers = numbers;
  names = come_same s.names t.names frame.names;
}

-- the same of a call, by what it gives
call_leaves : {P : Name → Type 0} (s new : CoreState) (effects : List Effect) (call : List Effect × CoreState) → call ≡ (effects, new) → IsFrame s call.0 call.1 0 s.names [] → aside_of call.1 ≡ aside_of s → numbers_of call.1 ≤ numbers_of s → IsGood new → Leaves P 0 s new
call_leaves s new effects call e frame same numbers good =
    frame_leaves s new effects 0 0 (subst (λ (r : List Effect × CoreState). IsFrame s r.0 r.1 0 s.names []) e frame) (subst (λ (r : List Effect × CoreState). aside_of r.1 ≡ aside_of s) e same) (subst (λ (r : List Effect × CoreState). numbers_of r.1 ≤ numbers_of s + 0) e (omega (arith, numbers))) good

pub cancel_leaves : {P : Name → Type 0} (s new : CoreState) (id : ℕ) (effects : List Effect) → is_waiting id s.waiters ≡ true → cancel s id ≡ (effects, new) → IsGood new → Leaves P 0 s new
cancel_leaves s new id effects waits e good = call_leaves s new effects (cancel s id) e (cancel_frame s id waits) (cancel_aside s id) (omega (arith, cancel_numbers s id)) good

pub give_leaves : {P : Name → Type 0} (s new : CoreState) (claim : Claim) (effects : List Effect) → give_back s claim ≡ (effects, new) → IsGood new → Leaves P 0 s new
give_leaves s new claim effects e good = call_leaves s new effects (give_back s claim) e (give_back_frame s claim) (give_aside s claim) (omega (arith, give_back_numbers s claim)) good

pub weaken_leaves : {P : Name → Type 0} (s new : CoreState) (claim : Claim) (access deny : Rwd) (effects : List Effect) → weaken s claim access deny ≡ (effects, new) → IsGood new → Leaves P 0 s new
weaken_leaves s new claim access deny effects e good = call_leaves s new effects (weaken s claim access deny) e (weaken_frame s claim access deny) (weaken_aside s claim access deny) (omega (arith, weaken_numbers s claim access deny)) good

pub ack_leaves : {P : Name → Type 0} (s new : CoreState) (cache : Claim) (to : Option CacheKind) (effects : List Effect) → ack s cache to ≡ (effects, new) → IsIn cache s.claims → may_be_left cache.what to ≡ true → IsGood new → Leaves P 0 s new
ack_leaves s new cache to effects e held may good = call_leaves s new effects (ack s cache to) e (ack_frame s cache to) (ack_aside s cache to) (omega (arith, ack_numbers s cache to held may)) good

pub end_leaves : {P : Name → Type 0} (s new : CoreState) (party : Party) (effects : List Effect) → IsGood s → end_party s party ≡ (effects, new) → IsGood new → Leaves P 0 s new
end_leaves s new party effects first e good = call_leaves s new effects (end_party s party) e (end_party_frame s party first) (end_aside s party) (omega (arith, end_party_numbers s party)) good

pub close_leaves : {P : Name → Type 0} (s new : CoreState) (number : ℕ) (party : Option Party) (effects : List Effect) → close_open s number party ≡ (effects, new) → IsGood s → IsGood new → Leaves P 0 s new
close_leaves s new number party effects e first good = call_leaves s new effects (close_open s number party) e (close_open_frame s number party first) (close_aside s number party) (omega (arith, close_open_numbers s number party)) good

pub renew_leaves : {P : Name → Type 0} (s new : CoreState) (id : List ℕ) (effects : List Effect) → renew s id ≡ (effects, new) → IsGood new → Leaves P 0 s new
renew_leaves {P} s new id effects e good =
    let frame = renew_frame s id in
    let same : (renew s id).1 ≡ new = ap (λ (r : List Effect × CoreState). r.1) e in record {
      on = subst (λ (t : CoreState). GoesOn s t) same (aside_goes_on s (renew s id).1 frame.aside);
      good = good;
      numbers = subst (λ (t : CoreState). numbers_of t ≤ numbers_of s + 0) same (omega (arith, renew_numbers s id));
      names = subst (λ (t : CoreState). Come P s.names t.names) same (come_same s.names (renew s id).1.names frame.names);
    }

pub drawn_leaves : {P : Name → Type 0} (s new : CoreState) → new ≡ drawn s → IsGood new → Leaves P 1 s new
drawn_leaves {P} s new e good = subst (λ (t : CoreState). Leaves P 1 s t) (sym e) (frame_leaves s (drawn s) [] 1 1 (drawn_frame s) (drawn_aside s) (omega (arith, drawn_numbers s)) (subst (λ (t : CoreState). IsGood t) e good))

pub drawn_number : (s : CoreState) → (drawn s).counter ≡ s.counter + 1
drawn_number s = (drawn_frame s).counter

pub drawn_stable : (s : CoreState) → (drawn s).stable ≡ s.stable
drawn_stable s = ap (λ (x : Aside). x.stable) (drawn_aside s)

-- ---- an ask

asked_names : {P : Name → Type 0} (a : Ask) (names : List Name) (answer : Answer) → IsAskOf P a → Come P names (names_after a answer names)
asked_names {P} a names (answers.Granted c) is = either (asks_to_hold a.act) where
  either : (b : Bool) → Come P names (if b then both_entered a names else names)
  either true = both_come a names is
  either false = come_self names
asked_names a names (answers.Queued id) is = both_come a names is
asked_names a names answer is = come_self names

pub ask_leaves : {P : Name → Type 0} (n : ℕ) (left : Rooms) (s new : CoreState) (a : Ask) (answer : Answer) (effects : List Effect) → ask n left s a ≡ (answer, effects, new) → GoesOn s new → IsFit a → IsGood s → IsGood new → IsAskOf P a → Leaves P 2 s new
ask_leaves {P} n left s new a answer effects e on fit ready good is =
    let r = ask n left s a in
    let frame = ask_frame n left s a ready fit.party in
    let same : r.2 ≡ new = ap (λ (x : Answered). x.2) e in
    record {
      on = on;
      good = good;
      numbers = subst (λ (t : CoreState). numbers_of t ≤ numbers_of s + 2) same (omega (arith, ask_numbers n left s a ready fit));
      names = subst (λ (t : CoreState). Come P s.names t.names) same (subst (λ (names : List Name). Come P s.names names) (sym frame.names) (asked_names a s.names r.0 is));
    }
