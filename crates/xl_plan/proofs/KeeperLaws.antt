-- What the parts of a step hand on to each other of the keeper.
use Rattle.std.proofs.Common.{◌≡◌, ℕ, ◌≤◌, ◌<◌, ◌^◌, ◌-◌, Bool, true, false, List, [], ◌∷◌, ◌++◌, Option, Some, None, inl, inr, refl, sym, ap, subst, ◌∙◌, append_assoc, append-nil, arith}
use Rattle.std.proofs.lemmas.Bool.{cases_Bool, both_ways}
use Rattle.xl_base.specs.Outside.{Rose}
use Rattle.xl_base.specs.Stable.{Stable}
use Rattle.xl_base.specs.declared.name.Party.{Party}
use Rattle.xl_matrix.specs.declared.claim.CacheKind.{CacheKind}
use Rattle.xl_matrix.specs.declared.claim.Claim.{Claim}
use Rattle.xl_matrix.specs.declared.claim.Rwd.{Rwd}
use Rattle.xl_core.specs.BreakAnswers.{ack}
use Rattle.xl_core.specs.Settle.{cancel, close_open, end_party, give_back, weaken}
use Rattle.xl_core.specs.State.{CoreState, Aside, aside_of, GoesOn, drawn, step_begun}
use Rattle.xl_core.specs.Stores.{Telling, HandsOn, Holds, Allows, given_more}
use Rattle.xl_core.specs.Ticks.{renew}
use Rattle.xl_core.specs.declared.ask.Effect.{Effect}
use Rattle.xl_plan.proofs.AsideLaws.{drawn_aside, cancel_aside, give_aside, weaken_aside, ack_aside, end_aside, close_aside, renew_aside}
use Rattle.xl_plan.specs.Keepers.{IsTold, IsQuiet, HandsTo, telling}

-- ---- a call that may store

given_twice : (o : Option (List Stable)) (first second : List Stable) → given_more (given_more o first) second ≡ given_more o (first ++ second)
given_twice None first second = refl
given_twice (Some given) first second = ap Some (append_assoc given first second)

rose_later : (a b c : ℕ) → Rose a b → b ≤ c → Rose a c
rose_later a b c rose le = λ below. (let up : a < b = rose (omega (arith, below, le)) in omega (arith, up, le))

failed_before : (s t : CoreState) → GoesOn s t → t.failed ≡ false → s.failed ≡ false
failed_before s t on none = elim (cases_Bool s.failed) [ inl e ↦ absurd (both_ways t.failed none (on.failed e).0) | inr e ↦ e ]

pub told_on : (s t : CoreState) (old new before : Telling) → HandsOn s t old new → GoesOn s t → IsTold before s old → IsTold before t new
told_on s t old new before hands on told = record {
  held = hands.held told.held;
  given = hands.given on.more on.given ∙ ap (λ (o : Option (List Stable)). given_more o on.more) told.given ∙ given_twice before.given s.given on.more ∙ ap (λ (given : List Stable). given_more before.given given) (sym on.given);
  rose = λ failed. elim (cases_Bool s.failed) [
    | inl e ↦ rose_later before.faults old.faults new.faults (told.rose e) hands.later
    | inr e ↦ subst (λ (count : ℕ). Rose count new.faults) (told.still e) (hands.rose e failed)
  ];
  still = λ none. hands.still (none ∙ sym (failed_before s t on none)) ∙ told.still (failed_before s t on none);
  left = λ n is. hands.left n (told.left n is);
}

-- ---- a call that stores nothing

told_same : (s t : CoreState) (before now : Telling) → aside_of t ≡ aside_of s → IsTold before s now → IsTold before t now
told_same s t before now same told = record {
  held = subst (λ (x : Aside). Holds now.held x.stable) (sym same) told.held;
  given = told.given ∙ ap (λ (x : Aside). given_more before.given x.given) (sym same);
  rose = λ e. told.rose (sym (ap (λ (x : Aside). x.failed) same) ∙ e);
  still = λ e. told.still (sym (ap (λ (x : Aside). x.failed) same) ∙ e);
  left = λ n is. (let was = told.left n is in let made = ap (λ (x : Aside). x.made) same in (omega (arith, made, was.0), was.1 ∙ ap (λ (m : ℕ). Some (n - m)) (sym made), λ e. made ∙ was.2 (sym (ap (λ (x : Aside). x.failed) same) ∙ e)));
}

pub quiet_same : (s t : CoreState) → aside_of t ≡ aside_of s → IsQuiet s t
quiet_same s t same = λ before now told. told_same s t before now same told

pub quiet_self : (s : CoreState) → IsQuiet s s
quiet_self s = λ before now told. told

pub quiet_then : (s t u : CoreState) → IsQuiet s t → IsQuiet t u → IsQuiet s u
quiet_then s t u first second = λ before now told. second before now (first before now told)

-- the same of a call, by what it gives
by_call : (s new : CoreState) (effects : List Effect) (call : List Effect × CoreState) → call ≡ (effects, new) → aside_of call.1 ≡ aside_of s → IsQuiet s new
by_call s new effects call e same = subst (λ (r : List Effect × CoreState). IsQuiet s r.1) e (quiet_same s call.1 same)

pub drawn_quiet : (s new : CoreState) → new ≡ drawn s → IsQuiet s new
drawn_quiet s new e = subst (IsQuiet s) (sym e) (quiet_same s (drawn s) (drawn_aside s))

pub cancel_quiet : (s new : CoreState) (id : ℕ) (effects : List Effect) → cancel s id ≡ (effects, new) → IsQuiet s new
cancel_quiet s new id effects e = by_call s new effects (cancel s id) e (cancel_aside s id)

pub give_quiet : (s new : CoreState) (claim : Claim) (effects : List Effect) → give_back s claim ≡ (effects, new) → IsQuiet s new
give_quiet s new claim effects e = by_call s new effects (give_back s claim) e (give_aside s claim)

pub weaken_quiet : (s new : CoreState) (share : Claim) (access deny : Rwd) (effects : List Effect) → weaken s share access deny ≡ (effects, new) → IsQuiet s new
weaken_quiet s new share access deny effects e = by_call s new effects (weaken s share access deny) e (weaken_aside s share access deny)

pub ack_quiet : (s new : CoreState) (cache : Claim) (to : Option CacheKind) (effects : List Effect) → ack s cache to ≡ (effects, new) → IsQuiet s new
ack_quiet s new cache to effects e = by_call s new effects (ack s cache to) e (ack_aside s cache to)

pub end_quiet : (s new : CoreState) (party : Party) (effects : List Effect) → end_party s party ≡ (effects, new) → IsQuiet s new
end_quiet s new party effects e = by_call s new effects (end_party s party) e (end_aside s party)

pub close_quiet : (s new : CoreState) (number : ℕ) (party : Option Party) (effects : List Effect) → close_open s number party ≡ (effects, new) → IsQuiet s new
close_quiet s new number party effects e = by_call s new effects (close_open s number party) e (close_aside s number party)

pub renew_quiet : (s new : CoreState) (id : List ℕ) (effects : List Effect) → renew s id ≡ (effects, new) → IsQuiet s new
renew_quiet s new id effects e = by_call s new effects (renew s id) e (renew_aside s id)

-- ---- a step

-- where a step begins nothing is given yet
pub told_begun : (s : CoreState) (now : Telling) → Holds now.held s.stable → IsTold now (step_begun s) now
unfolding step_begun
told_begun s now holds =
    record {
      held = holds;
      given = none_given now.given;
      rose = λ e. absurd (both_ways false refl e);
      still = λ e. refl;
      left = λ n is. (omega arith, is ∙ ap (λ (m : ℕ). Some m) (all_left n), λ e. absurd (both_ways false refl e));
    }
  where
    all_left : (n : ℕ) → n ≡ n - 0
    all_left n = omega arith

    none_given : (o : Option (List Stable)) → o ≡ given_more o []
    none_given None = refl
    none_given (Some given) = ap Some (sym (append-nil given))

-- ---- as the code hands the keeper on, by what it tells

module _ {K : Type 0} (held : K → Option Stable) (given : K → Option (List Stable)) (faults : K → ℕ) (left : K → Option ℕ) where
  pub hands_self : (s : CoreState) (k : K) → HandsTo held given faults left s s k k
  hands_self s k = λ before told. told

  pub hands_quiet : (s t : CoreState) (k : K) → IsQuiet s t → HandsTo held given faults left s t k k
  hands_quiet s t k quiet = λ before told. quiet before (telling held given faults left k) told

  pub hands_then : (s t u : CoreState) (old mid new : K) → HandsTo held given faults left s t old mid → HandsTo held given faults left t u mid new → HandsTo held given faults left s u old new
  hands_then s t u old mid new first second = λ before told. second before (first before told)

  -- a call of the core
  pub hands_by : (s t : CoreState) (old new : K) → HandsOn s t (telling held given faults left old) (telling held given faults left new) → GoesOn s t → HandsTo held given faults left s t old new
  hands_by s t old new hands on = λ before told. told_on s t (telling held given faults left old) (telling held given faults left new) before hands on told
