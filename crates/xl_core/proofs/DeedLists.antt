-- What deeds in a row keep, by induction over them.
use Rattle.std.proofs.Common.{◌≡◌, ℕ, List, [], ◌∷◌, ◌++◌, refl, sym, ap, ◌∙◌, append_assoc}
use Rattle.xl_matrix.specs.declared.claim.What.{What}
use Rattle.xl_wait.specs.declared.waiter.Waiter.{Waiter}
use Rattle.xl_core.specs.State.{CoreState}
use Rattle.xl_core.specs.Deeds.{Deed, given, done, all_done, all_told_of, AreFit, queue_after, KeepNames}
use Rattle.xl_core.specs.Dues.{AreDue}
use Rattle.xl_core.specs.Good.{IsGood}
use Rattle.xl_core.specs.Places.{Place, held_at, stands}
use Rattle.xl_core.specs.declared.ask.Effect.{Effect}
use Rattle.xl_core.proofs.DeedLaws.{deed_good, deed_makes, deed_queues, deed_names, deed_due}

pub deeds_good : (n : ℕ) (s : CoreState) (ds : List Deed) → IsGood s → AreFit n s ds → IsGood (all_done n s ds)
deeds_good n s [] good fit = good
deeds_good n s (d ∷ ds) good fit = deeds_good n (done n s d) ds (deed_good n s d good fit.0) fit.1

pub deeds_make : (n : ℕ) (s : CoreState) (ds : List Deed) (p : Place) → IsGood s → AreFit n s ds → held_at (all_done n s ds) p ≡ stands n s ds p (held_at s p)
deeds_make n s [] p good fit = refl
deeds_make n s (d ∷ ds) p good fit =
    deeds_make n (done n s d) ds p (deed_good n s d good fit.0) fit.1 ∙ ap (λ (had : List What). stands n (done n s d) ds p had) (deed_makes n s d p good fit.0)

pub deeds_queue : (n : ℕ) (s : CoreState) (ds : List Deed) → IsGood s → AreFit n s ds → (all_done n s ds).waiters ≡ queue_after n s ds s.waiters
deeds_queue n s [] good fit = refl
deeds_queue n s (d ∷ ds) good fit =
    deeds_queue n (done n s d) ds (deed_good n s d good fit.0) fit.1 ∙ ap (λ (ws : List Waiter). queue_after n (done n s d) ds ws) (deed_queues n s d good fit.0)

pub deeds_names : (n : ℕ) (s : CoreState) (ds : List Deed) → IsGood s → AreFit n s ds → KeepNames s.names (all_done n s ds).names
deeds_names n s [] good fit = λ number name h. h
deeds_names n s (d ∷ ds) good fit = λ number name h. deeds_names n (done n s d) ds (deed_good n s d good fit.0) fit.1 number name (deed_names n s d good fit.0 number name h)

pub deeds_due : (n : ℕ) (s : CoreState) (ds : List Deed) → IsGood s → AreFit n s ds → AreDue n s ds
deeds_due n s [] good fit = tt
deeds_due n s (d ∷ ds) good fit = (deed_due n s d good fit.0, deeds_due n (done n s d) ds (deed_good n s d good fit.0) fit.1)

-- ---- deeds behind others

pub done_append : (n : ℕ) (s : CoreState) (ds es : List Deed) → all_done n s (ds ++ es) ≡ all_done n (all_done n s ds) es
done_append n s [] es = refl
done_append n s (d ∷ ds) es = done_append n (done n s d) ds es

pub told_append : (n : ℕ) (s : CoreState) (ds es : List Deed) → all_told_of n s (ds ++ es) ≡ all_told_of n s ds ++ all_told_of n (all_done n s ds) es
told_append n s [] es = refl
told_append n s (d ∷ ds) es = ap (λ (told : List Effect). (given n s d).1 ++ told) (told_append n (done n s d) ds es) ∙ sym (append_assoc (given n s d).1 (all_told_of n (done n s d) ds) (all_told_of n (all_done n (done n s d) ds) es))

pub fit_append : (n : ℕ) (s : CoreState) (ds es : List Deed) → AreFit n s ds → AreFit n (all_done n s ds) es → AreFit n s (ds ++ es)
fit_append n s [] es fit more = more
fit_append n s (d ∷ ds) es fit more = (fit.0, fit_append n (done n s d) ds es fit.1 more)
