-- The record lasts: what a granted ask left in it stays from entry to entry, until something ends it.
use Rattle.std.proofs.Common.{◌≡◌, ℕ, Bool, true, false, List, [], ◌∷◌, inl, inr, ◌⊎◌, refl, ap, ◌∙◌}
use Rattle.std.proofs.lemmas.Bool.{cases_Bool}
use Rattle.xl_base.specs.Lists.{IsIn}
use Rattle.xl_base.specs.Stable.{Stable, raised, same_name, is_recorded, keeps, is_kept}
use Rattle.xl_base.specs.declared.event.Event.{Event}
use Rattle.xl_base.specs.declared.event.Event.TheVariants.{Open, Message, End, Called, Tick, Restart}
use Rattle.xl_base.specs.declared.journal.Entry.{Entry}
use Rattle.xl_base.specs.declared.journal.Head.{Head}
use Rattle.xl_base.specs.declared.stable.Recorded.{Recorded}
use Rattle.xl_core.specs.Deeds.{Deed, done}
use Rattle.xl_core.specs.State.{CoreState, step_begun}
use Rattle.xl_house.specs.Done.{deeds, rounds}
use Rattle.xl_house.specs.Journals.{IsLegal, replay}
use Rattle.xl_house.specs.Lawful.{Always, found}
use Rattle.xl_house.specs.Machine.{step}
use Rattle.xl_house.specs.Recording.{AnyAt, IsChanged, IsHeldOn, IsOver, AreHeldOn, IsRecordedBy, IsRecordingBy, IsRecording, IsToStayBy, NeverEnds, IsToStay}
use Rattle.xl_house.specs.State.{Whole, start_of}
use Rattle.xl_house.proofs.MarkLaws.{kept_in, kept_of}
use Rattle.xl_house.proofs.RecordLaws.{always_recording}
use Rattle.xl_house.proofs.RecordingLaws.{any_weaker, changed_like}

-- what is the case of the record stays so as long as no deed ends it, and at a restart; and a granted ask leaves it so
record IsLasting (ends : ℕ → CoreState → Deed → Type 0) (name : Recorded) (has : Stable → Bool) : Type 0 where
  pub kept_on : (stable : Stable) → has (raised stable) ≡ has stable
  pub stays : (n : ℕ) (s : CoreState) (ds : List Deed) (t : CoreState) → IsRecordedBy n s ds t → (AnyAt (ends n) n s ds → ⊥) → has s.stable ≡ true → has t.stable ≡ true
  pub left : (n : ℕ) (s : CoreState) (ds : List Deed) (stable : Stable) → IsHeldOn name n s ds stable → (AnyAt (ends n) n s ds → ⊥) → has stable ≡ true

found_stable : (has : Stable → Bool) (s : Whole) → has s.core.stable ≡ true → has (found s).stable ≡ true
unfolding step_begun
found_stable has s there = there

none_granted : (ends : ℕ → CoreState → Deed → Type 0) (name : Recorded) (n : ℕ) (s : Whole) → IsToStayBy ends name n (found s) (deeds n s Restart) → ⊥
unfolding deeds rounds
none_granted ends name n s granted = granted

module _ (ends : ℕ → CoreState → Deed → Type 0) (name : Recorded) (has : Stable → Bool) (lasting : IsLasting ends name has) where
  held_by : (n : ℕ) (s : CoreState) (ds : List Deed) (stable : Stable) → AreHeldOn n s ds stable → IsToStayBy ends name n s ds → has stable ≡ true
  held_by n s [] stable held granted = absurd granted
  held_by n s (d ∷ ds) stable held (inl now) = lasting.left n (done n s d) ds stable (held.0 name now.0) now.1
  held_by n s (d ∷ ds) stable held (inr later) = held_by n (done n s d) ds stable held.1 later

  entry_stays : (n : ℕ) (s : Whole) (event : Event) (t : Whole) → IsRecordingBy n s event t → (AnyAt (ends n) n (found s) (deeds n s event) → ⊥) → has s.core.stable ≡ true → has t.core.stable ≡ true
  entry_stays n s Restart t is none there = ap has is.stable ∙ lasting.kept_on s.core.stable ∙ there
  entry_stays n s (Tick now) t is none there = lasting.stays n (found s) (deeds n s (Tick now)) t.core is.0 none (found_stable has s there)
  entry_stays n s (Open kind) t is none there = lasting.stays n (found s) (deeds n s (Open kind)) t.core is none (found_stable has s there)
  entry_stays n s (Message number bytes) t is none there = lasting.stays n (found s) (deeds n s (Message number bytes)) t.core is none (found_stable has s there)
  entry_stays n s (End number) t is none there = lasting.stays n (found s) (deeds n s (End number)) t.core is none (found_stable has s there)
  entry_stays n s (Called number reply) t is none there = lasting.stays n (found s) (deeds n s (Called number reply)) t.core is none (found_stable has s there)

  entry_leaves : (n : ℕ) (s : Whole) (event : Event) (t : Whole) → IsRecordingBy n s event t → IsToStayBy ends name n (found s) (deeds n s event) → has t.core.stable ≡ true
  entry_leaves n s Restart t is granted = absurd (none_granted ends name n s granted)
  entry_leaves n s (Tick now) t is granted = held_by n (found s) (deeds n s (Tick now)) t.core.stable is.0.held granted
  entry_leaves n s (Open kind) t is granted = held_by n (found s) (deeds n s (Open kind)) t.core.stable is.held granted
  entry_leaves n s (Message number bytes) t is granted = held_by n (found s) (deeds n s (Message number bytes)) t.core.stable is.held granted
  entry_leaves n s (End number) t is granted = held_by n (found s) (deeds n s (End number)) t.core.stable is.held granted
  entry_leaves n s (Called number reply) t is granted = held_by n (found s) (deeds n s (Called number reply)) t.core.stable is.held granted

  entries_stay : (s : Whole) (es : List Entry) → Always IsRecording s es → NeverEnds ends s es → has s.core.stable ≡ true → has (replay s es).core.stable ≡ true
  entries_stay s [] each none there = there
  entries_stay s (e ∷ es) each none there =
      let t = (step e.stores s e.event).next in
      entries_stay t es each.1 none.1 (entry_stays e.stores s e.event t each.0.0 none.0 there)

  entries_leave : (s : Whole) (es : List Entry) → Always IsRecording s es → IsToStay ends name s es → has (replay s es).core.stable ≡ true
  entries_leave s [] each granted = absurd granted
  entries_leave s (e ∷ es) each (inl now) =
      let t = (step e.stores s e.event).next in
      entries_stay t es each.1 now.1 (entry_leaves e.stores s e.event t each.0.0 now.0)
  entries_leave s (e ∷ es) each (inr later) = entries_leave (step e.stores s e.event).next es each.1 later

unless : {A : Type 0} (b : Bool) → (b ≡ true) ⊎ A → (A → ⊥) → b ≡ true
unless b (inl is) none = is
unless b (inr other) none = absurd (none other)

-- ---- a name, and its mark

name_lasting : (name : Recorded) → IsLasting (λ n u d. IsOver name u d) name (λ stable. is_recorded name stable.names)
name_lasting name = record {
  kept_on = λ stable. refl;
  stays = λ n s ds t by none there.
      elim (cases_Bool (is_recorded name t.stable.names)) [
        | inl last ↦ last
        | inr gone ↦ absurd (none (by.goes name there gone))
      ];
  left = λ n s ds stable held none. unless (is_recorded name stable.names) held.named none;
}

mark_lasting : (name : Recorded) → IsLasting (λ n u d. IsChanged name n u d) name (λ stable. is_kept name stable.names)
mark_lasting name = record {
  kept_on = λ stable. refl;
  stays = λ n s ds t by none there. mark_stays n s ds t by none (kept_of name s.stable.names there);
  left = λ n s ds stable held none. unless (is_kept name stable.names) held.kept none;
} where
  mark_stays : (n : ℕ) (s : CoreState) (ds : List Deed) (t : CoreState) → IsRecordedBy n s ds t → (AnyAt (λ u d. IsChanged name n u d) n s ds → ⊥)
      → (held : Recorded) × IsIn held s.stable.names × (same_name held name ≡ true) × (keeps held.mark name.mark ≡ true) → is_kept name t.stable.names ≡ true
  mark_stays n s ds t by none held =
      elim (by.stays held.0 held.1) [
        | inl last ↦ kept_in name held.0 t.stable.names last held.2 held.3
        | inr changed ↦ absurd (none (any_weaker (λ u d. IsChanged held.0 n u d) (λ u d. IsChanged name n u d) n s ds (λ u d is. changed_like n u d held.0 name held.2 held.3 is) changed))
      ]

pub names_last : (head : Head) (es : List Entry) (name : Recorded) → IsLegal (start_of head) es → IsToStay (λ n u d. IsOver name u d) name (start_of head) es → is_recorded name (replay (start_of head) es).core.stable.names ≡ true
names_last head es name legal granted = entries_leave (λ n u d. IsOver name u d) name (λ stable. is_recorded name stable.names) (name_lasting name) (start_of head) es (always_recording head es legal) granted

pub marks_last : (head : Head) (es : List Entry) (name : Recorded) → IsLegal (start_of head) es → IsToStay (λ n u d. IsChanged name n u d) name (start_of head) es → is_kept name (replay (start_of head) es).core.stable.names ≡ true
marks_last head es name legal granted = entries_leave (λ n u d. IsChanged name n u d) name (λ stable. is_kept name stable.names) (mark_lasting name) (start_of head) es (always_recording head es legal) granted
