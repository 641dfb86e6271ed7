-- Machines that keep the record wrongly, or let the wrong clients in, meet none of the laws of these.
use Rattle.std.proofs.Common.{◌≡◌, ◌⊎◌, inl, inr, ℕ, true, false, List, [], ◌∷◌, Some, None, refl, sym, ap, subst, ◌∙◌}
use Rattle.std.proofs.lemmas.Bool.{both_ways}
use Rattle.xl_base.specs.Lists.{IsIn}
use Rattle.xl_base.specs.Stable.{Stable, is_recorded, is_recordable, is_kept}
use Rattle.xl_base.specs.declared.event.Event.TheVariants.{Message, Tick, Restart}
use Rattle.xl_base.specs.declared.event.Moment.{Moment}
use Rattle.xl_base.specs.declared.event.Out.{Out}
use Rattle.xl_base.specs.declared.stable.Mark.{Mark}
use Rattle.xl_base.specs.declared.stable.Recorded.{Recorded}
use Rattle.xl_grace.specs.Grace.{Running, is_known}
use Rattle.xl_matrix.specs.declared.claim.Claim.{Claim}
use Rattle.xl_matrix.specs.declared.claim.What.{What}
use Rattle.xl_reclaims.specs.Truthful.{Reclaims, IsLetIn, turns_away}
use Rattle.xl_wait.specs.declared.waiter.Rooms.{Rooms}
use Rattle.xl_core.specs.Askers.{asked_what}
use Rattle.xl_core.specs.Causes.{asks_claims}
use Rattle.xl_core.specs.Decide.{ask}
use Rattle.xl_core.specs.Deeds.{Deed, Asks, all_told_of}
use Rattle.xl_core.specs.Frames.{who_expired}
use Rattle.xl_core.specs.Standings.{asker_as}
use Rattle.xl_core.specs.State.{CoreState, step_begun}
use Rattle.xl_core.specs.Stores.{client_name}
use Rattle.xl_core.specs.declared.ask.Answer.{Answer}
use Rattle.xl_core.specs.declared.ask.Answer.TheVariants.{Granted}
use Rattle.xl_core.specs.declared.ask.Ask.{Ask}
use Rattle.xl_plan.specs.Plans.{AllAt}
use Rattle.xl_house.specs.Done.{deeds}
use Rattle.xl_house.specs.Lawful.{found}
use Rattle.xl_house.specs.Own.{own_of}
use Rattle.xl_house.specs.Recording.{IsMonitored, IsChanged, IsRecordedBy, IsRecording, IsAdmittedBy, IsAdmitting}
use Rattle.xl_house.specs.State.{Whole, as_found}
use Rattle.xl_house.specs.Truthful.{AreLetIn}

begun_as : (s : CoreState) → ((step_begun s).stable ≡ s.stable) × ((step_begun s).grace ≡ s.grace)
unfolding step_begun
begun_as s = (refl, refl)

pub expired_stays_in : (n stores : ℕ) (outs : List Out) (s t : Whole) (now : Moment) (client : List ℕ) → IsIn client (who_expired (all_told_of n (found s) (own_of n (as_found s) (Tick now)).deeds)) → is_recorded (client_name client) t.core.stable.names ≡ true
    → IsRecording n s (record { event = Tick now; stores = stores; outs = outs }) t → ⊥
expired_stays_in n stores outs s t now client gone there recording = both_ways (is_recorded (client_name client) t.core.stable.names) (recording.0.1 client gone) there

pub unrecorded_let_in : (n stores number : ℕ) (bytes : List ℕ) (outs : List Out) (s t : Whole) (left : Rooms) (a : Ask) (g : Running) (c : Claim) → deeds n s (Message number bytes) ≡ Asks left a ∷ [] → s.core.grace ≡ Some g → asks_claims a.act ≡ true
    → is_known (asker_as a) s.core.stable.names ≡ false → (ask n left (found s) a).0 ≡ Granted c → IsAdmitting n s (record { event = Message number bytes; stores = stores; outs = outs }) t → ⊥
unrecorded_let_in n stores number bytes outs s t left a g c does runs claims unknown granted admitting =
    both_ways (is_known (asker_as a) s.core.stable.names) unknown
    (sym (ap (λ (stable : Stable). is_known (asker_as a) stable.names) (begun_as s.core).0)
    ∙ ((subst (λ (ds : List Deed). AllAt (λ u d. IsAdmittedBy n u d) n (found s) ds) does admitting).0 g c ((begun_as s.core).1 ∙ runs) claims granted).1)

-- what the record has is what the one deed of the entry left
one_deed : (n stores number : ℕ) (bytes : List ℕ) (outs : List Out) (s t : Whole) (left : Rooms) (a : Ask) → deeds n s (Message number bytes) ≡ Asks left a ∷ [] → IsRecording n s (record { event = Message number bytes; stores = stores; outs = outs }) t → IsRecordedBy n (found s) (Asks left a ∷ []) t.core
one_deed n stores number bytes outs s t left a does recording = subst (λ (ds : List Deed). IsRecordedBy n (found s) ds t.core) does recording.0

pub mark_missed_in : (n stores number : ℕ) (bytes : List ℕ) (outs : List Out) (s t : Whole) (left : Rooms) (a : Ask) (what : What) (c : Claim) → deeds n s (Message number bytes) ≡ Asks left a ∷ [] → asked_what a.act ≡ Some what → a.monitored ≡ true → a.reclaim ≡ false → is_recordable (asker_as a) ≡ true
    → (ask n left (found s) a).0 ≡ Granted c → is_kept (asker_as a) t.core.stable.names ≡ false → IsRecording n s (record { event = Message number bytes; stores = stores; outs = outs }) t → ⊥
mark_missed_in n stores number bytes outs s t left a what c does one monitored fresh able granted lacks recording =
    elim ((one_deed n stores number bytes outs s t left a does recording).held.0 (asker_as a) (what, c, one, monitored, fresh, able, refl, granted)).kept [
      | inl kept ↦ both_ways (is_kept (asker_as a) t.core.stable.names) lacks kept
      | inr never ↦ never
    ]

pub reclaim_stores_in : (n stores number : ℕ) (bytes : List ℕ) (outs : List Out) (s t : Whole) (left : Rooms) (a : Ask) (name : Recorded) → deeds n s (Message number bytes) ≡ Asks left a ∷ [] → a.reclaim ≡ true
    → IsIn name t.core.stable.names → (IsIn name s.core.stable.names → ⊥) → IsRecording n s (record { event = Message number bytes; stores = stores; outs = outs }) t → ⊥
reclaim_stores_in n stores number bytes outs s t left a name does reclaims now before recording =
    elim ((one_deed n stores number bytes outs s t left a does recording).comes name now) [
      | inl there ↦ before (subst (λ (stable : Stable). IsIn name stable.names) (begun_as s.core).0 there)
      | inr came ↦ by came
    ]
  where
    by : IsMonitored name n (found s) (Asks left a) ⊎ ⊥ → ⊥
    by (inl monitored) = both_ways a.reclaim monitored.4 reclaims
    by (inr never) = never

pub mark_dropped_in : (n stores number : ℕ) (bytes : List ℕ) (outs : List Out) (s t : Whole) (left : Rooms) (a : Ask) (name : Recorded) → deeds n s (Message number bytes) ≡ Asks left a ∷ [] → a.mark ≡ None
    → IsIn name s.core.stable.names → (IsIn name t.core.stable.names → ⊥) → IsRecording n s (record { event = Message number bytes; stores = stores; outs = outs }) t → ⊥
mark_dropped_in n stores number bytes outs s t left a name does unmarked before now recording =
    elim ((one_deed n stores number bytes outs s t left a does recording).stays name (subst (λ (stable : Stable). IsIn name stable.names) (sym (begun_as s.core).0) before)) [
      | inl there ↦ now there
      | inr changed ↦ by changed
    ]
  where
    none_is : (mark : Mark) → None ≡ Some mark → ⊥
    none_is mark e = absurd cc

    by : IsChanged name n (found s) (Asks left a) ⊎ ⊥ → ⊥
    by (inl (inl over)) = over
    by (inl (inr anew)) = none_is anew.0 (sym unmarked ∙ ap (λ (x : Recorded). x.mark) anew.2.6)
    by (inr never) = never

pub name_forgotten_in : (n stores : ℕ) (outs : List Out) (s t : Whole) (name : Recorded) → is_recorded name s.core.stable.names ≡ true → is_recorded name t.core.stable.names ≡ false → IsRecording n s (record { event = Restart; stores = stores; outs = outs }) t → ⊥
name_forgotten_in n stores outs s t name before now recording =
    both_ways (is_recorded name t.core.stable.names) now (ap (λ (stable : Stable). is_recorded name stable.names) recording.0.stable ∙ before)

pub reclaim_turned_away_in : (n number : ℕ) (bytes : List ℕ) (s : Whole) (left : Rooms) (a : Ask) (answer : Answer) → deeds n s (Message number bytes) ≡ Asks left a ∷ [] → Reclaims (found s) a → (ask n left (found s) a).0 ≡ answer → turns_away answer ≡ true → AreLetIn n s (Message number bytes) → ⊥
reclaim_turned_away_in n number bytes s left a answer does reclaims told away let_in =
    both_ways (turns_away answer) (sym (ap turns_away told) ∙ (subst (λ (ds : List Deed). AllAt (λ u d. IsLetIn n u d) n (found s) ds) does let_in).0 reclaims) away
