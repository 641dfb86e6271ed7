-- The deeds of each entry are fit.
use Rattle.std.proofs.Common.{◌≡◌, ℕ, false, List, [], ◌∷◌, Option, subst}
use Rattle.std.proofs.lemmas.Bool.{both_ways}
use Rattle.xl_base.specs.declared.event.Event.{Event}
use Rattle.xl_base.specs.declared.event.Event.TheVariants.{Message, Restart}
use Rattle.xl_base.specs.declared.event.Out.{Out}
use Rattle.xl_base.specs.declared.journal.Entry.{Entry}
use Rattle.xl_base.specs.declared.journal.Head.{Head}
use Rattle.xl_matrix.specs.declared.claim.CacheKind.{CacheKind}
use Rattle.xl_matrix.specs.declared.claim.Claim.{Claim}
use Rattle.xl_matrix.specs.declared.claim.Rwd.{Rwd}
use Rattle.xl_core.specs.State.{step_begun}
use Rattle.xl_core.specs.BreakAnswers.{may_be_left}
use Rattle.xl_core.specs.Deeds.{Deed, Weakens, Acks, AreFit}
use Rattle.xl_core.specs.Settle.{share_has}
use Rattle.xl_core.proofs.GoodLaws.{begun_good}
use Rattle.xl_house.specs.Done.{rounds, deeds}
use Rattle.xl_house.specs.Fitting.{IsFitting}
use Rattle.xl_house.specs.Free.{IsFree}
use Rattle.xl_house.specs.Lawful.{Always, found}
use Rattle.xl_house.specs.State.{Whole, start_of}
use Rattle.xl_house.proofs.DoneLaws.{deeds_taken, each_event}
use Rattle.xl_house.proofs.EachEntry.{always}

nothing_done : (n : ℕ) (s : Whole) → AreFit n (step_begun s.core) (deeds n s Restart)
unfolding deeds rounds
nothing_done n s = tt

pub fit_by : (n : ℕ) (s : Whole) (event : Event) → IsFree s → AreFit n (step_begun s.core) (deeds n s event)
fit_by n s event free = each_event (λ e. AreFit n (step_begun s.core) (deeds n s e)) (λ e other. deeds_taken n s e other (begun_good s.core free.good)) (nothing_done n s) event

pub always_fitting : (head : Head) (es : List Entry) → Always IsFitting (start_of head) es
always_fitting head es = always IsFitting (λ n s e free. fit_by n s e.event free) head es

-- ---- machines that don't

pub share_widened_in : (n stores number : ℕ) (bytes : List ℕ) (outs : List Out) (s t : Whole) (share : Claim) (access deny : Rwd) → deeds n s (Message number bytes) ≡ Weakens share access deny ∷ []
    → share_has share.what access deny ≡ false → IsFitting n s (record { event = Message number bytes; stores = stores; outs = outs }) t → ⊥
share_widened_in n stores number bytes outs s t share access deny does less fits = both_ways (share_has share.what access deny) less (subst (λ (ds : List Deed). AreFit n (found s) ds) does fits).0.1

pub more_left_in : (n stores number : ℕ) (bytes : List ℕ) (outs : List Out) (s t : Whole) (cache : Claim) (to : Option CacheKind) → deeds n s (Message number bytes) ≡ Acks cache to ∷ []
    → may_be_left cache.what to ≡ false → IsFitting n s (record { event = Message number bytes; stores = stores; outs = outs }) t → ⊥
more_left_in n stores number bytes outs s t cache to does less fits = both_ways (may_be_left cache.what to) less (subst (λ (ds : List Deed). AreFit n (found s) ds) does fits).0.1
