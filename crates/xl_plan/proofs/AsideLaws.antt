-- The calls of the core that leave the record, the grace and the stores of the step alone.
use Rattle.std.proofs.Common.{◌≡◌, ℕ, Bool, true, List, [], ◌++◌, Option, refl, sym, ap, ◌∙◌, append-nil, arith}
use Rattle.xl_base.specs.Stable.{Stable}
use Rattle.xl_base.specs.declared.name.Party.{Party}
use Rattle.xl_matrix.specs.declared.claim.CacheKind.{CacheKind}
use Rattle.xl_matrix.specs.declared.claim.Claim.{Claim}
use Rattle.xl_matrix.specs.declared.claim.Rwd.{Rwd}
use Rattle.xl_core.specs.BreakAnswers.{ack}
use Rattle.xl_core.specs.Settle.{cancel, close_open, end_party, give_back, weaken}
use Rattle.xl_core.specs.State.{CoreState, Aside, aside_of, GoesOn, drawn}
use Rattle.xl_core.specs.Ticks.{renew}

-- the stores of the step go on where none is made
pub aside_goes_on : (s t : CoreState) → aside_of t ≡ aside_of s → GoesOn s t
aside_goes_on s t same =
    let made : t.made ≡ s.made = ap (λ (x : Aside). x.made) same in
    record {
      made = omega (arith, made);
      failed = λ f. (ap (λ (x : Aside). x.failed) same ∙ f, made);
      more = [];
      given = ap (λ (x : Aside). x.given) same ∙ sym (append-nil s.given);
    }

pub drawn_aside : (s : CoreState) → aside_of (drawn s) ≡ aside_of s
unfolding drawn
drawn_aside s = refl

pub cancel_aside : (s : CoreState) (id : ℕ) → aside_of (cancel s id).1 ≡ aside_of s
unfolding cancel
cancel_aside s id = refl

pub give_aside : (s : CoreState) (claim : Claim) → aside_of (give_back s claim).1 ≡ aside_of s
unfolding give_back
give_aside s claim = refl

pub weaken_aside : (s : CoreState) (share : Claim) (access deny : Rwd) → aside_of (weaken s share access deny).1 ≡ aside_of s
unfolding weaken
weaken_aside s share access deny = refl

pub ack_aside : (s : CoreState) (cache : Claim) (to : Option CacheKind) → aside_of (ack s cache to).1 ≡ aside_of s
unfolding ack
ack_aside s cache to = refl

pub end_aside : (s : CoreState) (party : Party) → aside_of (end_party s party).1 ≡ aside_of s
unfolding end_party
end_aside s party = refl

pub close_aside : (s : CoreState) (number : ℕ) (party : Option Party) → aside_of (close_open s number party).1 ≡ aside_of s
unfolding close_open
close_aside s number party = refl

pub renew_aside : (s : CoreState) (id : List ℕ) → aside_of (renew s id).1 ≡ aside_of s
unfolding renew
renew_aside s id = refl
