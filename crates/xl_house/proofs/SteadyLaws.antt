-- What each entry leaves alone, and how many numbers it gives out.
use Rattle.std.proofs.Common.{◌≡◌, ℕ, ◌+◌, ◌≤◌, false, List, [], ◌∷◌, Option, Some, None, refl, sym, ap, ◌∙◌, arith}
use Rattle.std.specs.Prelude.{IfSome}
use Rattle.xl_base.specs.declared.event.Event.{Event}
use Rattle.xl_base.specs.declared.event.Event.TheVariants.{Message, Restart}
use Rattle.xl_base.specs.declared.event.Moment.{Moment}
use Rattle.xl_base.specs.declared.event.Out.{Out}
use Rattle.xl_base.specs.declared.journal.Entry.{Entry}
use Rattle.xl_base.specs.declared.journal.Head.{Head}
use Rattle.xl_names.specs.declared.name.Name.{Name}
use Rattle.xl_wait.specs.declared.waiter.Waiter.{Waiter}
use Rattle.xl_core.specs.State.{CoreState, Aside, drawn, step_begun}
use Rattle.xl_core.specs.Stores.{stored}
use Rattle.xl_core.specs.BreakAnswers.{ack}
use Rattle.xl_core.specs.Decide.{ask}
use Rattle.xl_core.specs.Deeds.{Deed, Asks, GivesBack, Weakens, Acks, Cancels, Ends, Closes, Serves, Draws, Advances, Lapses, Renews, Expires, FailsStore, EndsGrace, turned, done, all_done, IsFitDeed, AreFit}
use Rattle.xl_core.specs.Frames.{IsFrame, IsTicked, calls_in, drawn_by, names_after, come_by}
use Rattle.xl_core.specs.Good.{IsGood}
use Rattle.xl_core.specs.Settle.{settle, cancel, close_open, give_back, weaken, end_party}
use Rattle.xl_core.specs.Ticks.{advanced, expire, lapse, end_grace}
use Rattle.xl_core.specs.declared.ask.Effect.{Effect}
use Rattle.xl_core.proofs.AsideLaws.{IsAside, failed_aside, failed_epoch, grace_aside}
use Rattle.xl_core.proofs.DeedLaws.{deed_good}
use Rattle.xl_core.proofs.FrameLaws.{ask_frame, turn_frame, cancel_frame, give_back_frame, weaken_frame, ack_frame, drawn_frame, close_open_frame, end_party_frame, advanced_ticked, renew_frame, expire_left, lapse_left}
use Rattle.xl_core.proofs.GoodLaws.{begun_good}
use Rattle.xl_house.specs.Done.{deeds}
use Rattle.xl_house.specs.Free.{IsFree}
use Rattle.xl_house.specs.Journals.{is_restart}
use Rattle.xl_house.specs.Lawful.{Always, found}
use Rattle.xl_house.specs.Machine.{Turn, step}
use Rattle.xl_house.specs.State.{Whole, start_of}
use Rattle.xl_house.specs.Steady.{numbers_in, all_numbers_in, IsSteadyIn, IsBegunAnew, IsSteadyBy, IsSteady}
use Rattle.xl_house.proofs.DoneLaws.{deeds_taken, each_event}
use Rattle.xl_house.proofs.EachEntry.{always}
use Rattle.xl_house.proofs.LawfulLaws.{next_core}
use Rattle.xl_house.proofs.MachineLaws.{next_place, step_is}

-- ---- one deed

-- the times and the epoch stay, and so many numbers are given out
pub record IsCounted (s t : CoreState) (given : ℕ) : Type 0 where
  pub times : t.times ≡ s.times
  pub epoch : t.stable.epoch ≡ s.stable.epoch
  pub counter : t.counter ≡ s.counter + given

framed_counts : (s : CoreState) (told : List Effect) (t : CoreState) (given : ℕ) (known : List Name) (come : List Waiter) → IsFrame s told t given known come → IsCounted s t given
framed_counts s told t given known come frame = record { times = frame.times; epoch = frame.epoch; counter = frame.counter }

ticked_counts : (s : CoreState) (now : Moment) (told : List Effect) (t : CoreState) → IsTicked s now told t → IsCounted s t 0
ticked_counts s now told t frame = record { times = frame.times; epoch = frame.epoch; counter = omega (arith, frame.counter) }

-- where only the record, the grace and the stores differ
aside_counts : (s t : CoreState) → IsAside s t → t.stable.epoch ≡ s.stable.epoch → IsCounted s t 0
aside_counts s t is epoch = record { times = ap (λ (x : CoreState). x.times) is; epoch = epoch; counter = omega (arith, ap (λ (x : CoreState). x.counter) is) }

end_epoch : (s : CoreState) → (end_grace s).stable.epoch ≡ s.stable.epoch
unfolding end_grace stored
end_epoch s = refl

turned_counts : (s : CoreState) (o : Option (List Effect × CoreState)) → IfSome o (λ r. IsFrame s r.0 r.1 (calls_in r.0) s.names []) → IsCounted s (turned s o).2 (calls_in (turned s o).1)
turned_counts s None frame = record { times = refl; epoch = refl; counter = omega arith }
turned_counts s (Some r) frame = framed_counts s r.0 r.1 (calls_in r.0) s.names [] frame

pub deed_counts : (n : ℕ) (s : CoreState) (d : Deed) → IsGood s → IsFitDeed s d → IsCounted s (done n s d) (numbers_in n s d)
deed_counts n s (Asks left a) good fit = let r = ask n left s a in framed_counts s r.1 r.2 (drawn_by r.0 + calls_in r.1) (names_after a r.0 s.names) (come_by a r.0 s.names) (ask_frame n left s a good fit.party)
deed_counts n s (GivesBack claim) good fit = let r = give_back s claim in framed_counts s r.0 r.1 0 s.names [] (give_back_frame s claim)
deed_counts n s (Weakens share access deny) good fit = let r = weaken s share access deny in framed_counts s r.0 r.1 0 s.names [] (weaken_frame s share access deny)
deed_counts n s (Acks cache to) good fit = let r = ack s cache to in framed_counts s r.0 r.1 0 s.names [] (ack_frame s cache to)
deed_counts n s (Cancels id) good fit = let r = cancel s id in framed_counts s r.0 r.1 0 s.names [] (cancel_frame s id fit)
deed_counts n s (Ends party) good fit = let r = end_party s party in framed_counts s r.0 r.1 0 s.names [] (end_party_frame s party good)
deed_counts n s (Closes opened party) good fit = let r = close_open s opened party in framed_counts s r.0 r.1 0 s.names [] (close_open_frame s opened party good)
deed_counts n s (Serves left) good fit = turned_counts s (settle n left s) (turn_frame n left s good)
deed_counts n s Draws good fit = framed_counts s [] (drawn s) 1 s.names [] (drawn_frame s)
deed_counts n s (Advances now) good fit = ticked_counts s now [] (advanced s now) (advanced_ticked s now)
deed_counts n s (Renews client) good fit = let frame = renew_frame s client in record { times = frame.times; epoch = ap (λ (x : Aside). x.stable.epoch) frame.aside; counter = omega (arith, frame.counter) }
deed_counts n s (Lapses cache) good fit = let r = lapse s cache in ticked_counts s s.clock r.0 r.1 ((lapse_left s cache).0 good)
deed_counts n s (Expires client) good fit = let r = expire s client in ticked_counts s s.clock r.0 r.1 ((expire_left s client).0 good)
deed_counts n s (FailsStore stable) good fit = aside_counts s (done n s (FailsStore stable)) (failed_aside stable s) (failed_epoch stable s)
deed_counts n s EndsGrace good fit = aside_counts s (done n s EndsGrace) (grace_aside s) (end_epoch s)

deeds_count : (n : ℕ) (s : CoreState) (ds : List Deed) → IsGood s → AreFit n s ds → IsCounted s (all_done n s ds) (all_numbers_in n s ds)
deeds_count n s [] good fit = record { times = refl; epoch = refl; counter = omega arith }
deeds_count n s (d ∷ ds) good fit =
    let first = deed_counts n s d good fit.0 in
    let later = deeds_count n (done n s d) ds (deed_good n s d good fit.0) fit.1 in
    record { times = later.times ∙ first.times; epoch = later.epoch ∙ first.epoch; counter = omega (arith, first.counter, later.counter) }

-- numbers are not taken back
pub deeds_rise : (n : ℕ) (s : CoreState) (ds : List Deed) → IsGood s → AreFit n s ds → s.counter ≤ (all_done n s ds).counter
deeds_rise n s ds good fit = let counted = deeds_count n s ds good fit in omega (arith, counted.counter)

-- ---- an entry

begun_same : (s : CoreState) → s.made ≡ 0 → s.failed ≡ false → s.given ≡ [] → step_begun s ≡ s
unfolding step_begun
begun_same s made failed given = λ i. record s { made = sym made i; failed = sym failed i; given = sym given i }

pub begun_counts : (s : CoreState) → IsCounted s (step_begun s) 0
unfolding step_begun
begun_counts s = record { times = refl; epoch = refl; counter = omega arith }

next_exports : (n : ℕ) (s : Whole) (e : Event) → (step n s e).next.exports ≡ s.exports
unfolding step
next_exports n s e = each_event (λ d. (step n s d).next.exports ≡ s.exports) (λ d other. ap (λ (r : Turn). r.next.exports) (step_is n s d other)) refl e

steadily : (n : ℕ) (s : Whole) (event : Event) → is_restart event ≡ false → IsFree s → IsSteadyIn n s event (step n s event).next
steadily n s event other free =
    let found = step_begun s.core in
    let ds = deeds n s event in
    let good = begun_good s.core free.good in
    let counted = deeds_count n found ds good (deeds_taken n s event other good) in
    let last = next_core n s event other in
    record {
      begins = begun_same s.core free.made free.failed free.given;
      times = ap (λ (t : CoreState). t.times) last ∙ (begun_counts (all_done n found ds)).times ∙ counted.times ∙ (begun_counts s.core).times;
      epoch = ap (λ (t : CoreState). t.stable.epoch) last ∙ (begun_counts (all_done n found ds)).epoch ∙ counted.epoch ∙ (begun_counts s.core).epoch;
      numbers = omega (arith, ap (λ (t : CoreState). t.counter) last, (begun_counts (all_done n found ds)).counter, counted.counter, (begun_counts s.core).counter);
    }

anew : (n : ℕ) (s : Whole) → IsBegunAnew s (step n s Restart).next
unfolding step
anew n s = record { connections = refl; front = refl; times = refl; stable = refl; numbers = refl; names = refl }

steady_by : (n : ℕ) (s : Whole) (event : Event) → IsFree s → IsSteadyBy n s event (step n s event).next
steady_by n s Restart free = anew n s
steady_by n s event free = steadily n s event refl free

pub always_steady : (head : Head) (es : List Entry) → Always IsSteady (start_of head) es
always_steady head es = always IsSteady (λ n s e free. (next_exports n s e.event, next_place n s e.event, steady_by n s e.event free)) head es

-- ---- machines that don't

pub numbers_stand_in : (n stores number : ℕ) (bytes : List ℕ) (outs : List Out) (s t : Whole) → deeds n s (Message number bytes) ≡ Draws ∷ [] → t.core.counter ≡ s.core.counter → IsSteady n s (record { event = Message number bytes; stores = stores; outs = outs }) t → ⊥
numbers_stand_in n stores number bytes outs s t does stands steady =
    let rises : t.core.counter ≡ s.core.counter + 1 = steady.2.numbers ∙ ap (λ (ds : List Deed). s.core.counter + all_numbers_in n (found s) ds) does in
    absurd (omega (arith, sym stands ∙ rises))
