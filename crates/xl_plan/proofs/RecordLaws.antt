-- What one who asks for one thing leaves of the record and of the stores of the step.
use Rattle.std.proofs.Common.{◌≡◌, ℕ, Bool, true, false, not, ◌&&◌, if◌then◌else◌, inl, inr, ◌⊎◌, List, [], ◌∷◌, Option, Some, None, is_some, ◌↔◌, refl, sym, ap, subst, ◌∙◌, arith}
use Rattle.std.proofs.lemmas.Bool.{cases_Bool, both_ways, and_parts, not-true}
use Rattle.std.proofs.lemmas.Bool.Decides.{nat_tests}
use Rattle.std.proofs.lemmas.Slice.Eq.{bytes_eq-Decides}
use Rattle.xl_base.specs.RecordFile.{with_name}
use Rattle.xl_base.specs.Stable.{Stable, same_protocol, same_name, same_mark, keeps, is_kept, put_name, is_recordable}
use Rattle.xl_base.specs.declared.name.Protocol.{Protocol}
use Rattle.xl_base.specs.declared.name.Protocol.TheVariants.{Nlm, Nfs, Smb}
use Rattle.xl_base.specs.declared.stable.Mark.{Mark}
use Rattle.xl_base.specs.declared.stable.Mark.TheVariants.{Verifier, State}
use Rattle.xl_base.specs.declared.stable.Recorded.{Recorded}
use Rattle.xl_grace.specs.Grace.{reclaimed}
use Rattle.xl_matrix.specs.declared.claim.Claim.{Claim}
use Rattle.xl_matrix.specs.declared.claim.What.{What}
use Rattle.xl_names.specs.declared.name.Name.{Name}
use Rattle.xl_wait.specs.declared.waiter.Rooms.{Rooms}
use Rattle.xl_core.proofs.WayAsks.{ask_due, ask_own, ask_way_keeps, ask_way_noted}
use Rattle.xl_core.specs.Askers.{alone, asked_what, asked_whats, asked_claims, is_client}
use Rattle.xl_core.specs.Causes.{IsClaimDue, asks_claims, back_by, name_asked, noted_by, wanted}
use Rattle.xl_core.specs.Decide.{is_back, way, ask}
use Rattle.xl_core.specs.Good.{IsGood}
use Rattle.xl_core.specs.Judge.{to_record}
use Rattle.xl_core.specs.Standings.{recorded_as, asker_as, stores_name}
use Rattle.xl_core.specs.State.{CoreState, Aside, aside_of}
use Rattle.xl_core.specs.Stores.{may_record, may_store, recorded, record_left, store_failed, stored, unrecorded, unstored}
use Rattle.xl_core.specs.BreaksBegun.{breaks_begun}
use Rattle.xl_core.specs.declared.ask.Answer.{Answer}
use Rattle.xl_core.specs.declared.ask.Answer.TheVariants as answers
use Rattle.xl_core.specs.declared.ask.Ask.{Ask}

-- ---- what is wanted

-- of one thing the name that is wanted is the one that is to be recorded
one_named : (s : CoreState) (a : Ask) (what : What) → asked_what a.act ≡ Some what → name_asked s a ≡ wanted s a
one_named s a what act = by (asked_whats a.act) act where
  by : (whats : List What) → alone whats ≡ Some what → to_record (wanted s a) (asked_claims a whats s.names) ≡ wanted s a
  by [] e = absurd cc
  by (w ∷ []) e = refl
  by (w ∷ v ∷ ws) e = absurd cc

begun_wanted : (c : Claim) (s : CoreState) (a : Ask) → wanted (breaks_begun c s).1 a ≡ wanted s a
unfolding breaks_begun
begun_wanted c s a = refl

-- ---- what the answer leaves

left_aside : (n : ℕ) (left : Rooms) (s : CoreState) (a : Ask) → IsGood s → is_client a.owner a.party ≡ true → aside_of (ask n left s a).2 ≡ aside_of (noted_by s a (ask n left s a).0)
left_aside n left s a good client = (ask_own n left s a good client).noted ∙ ask_way_noted left s a (ask n left s a).0

-- one who is granted something has failed no store
back_failed : (asks reclaims : Bool) (name : Recorded) (t : CoreState) → (if asks then (if reclaims then record t { grace = reclaimed name t.grace } else t) else t).failed ≡ t.failed
back_failed true true name t = refl
back_failed true false name t = refl
back_failed false reclaims name t = refl

recorded_failed : (name : Option Recorded) (s : CoreState) → (recorded name s).failed ≡ s.failed
unfolding stored
recorded_failed None s = refl
recorded_failed (Some name) s = refl

-- a store failed then only if that is told
noted_failed : (s : CoreState) (a : Ask) (answer : Answer) → s.failed ≡ false → (noted_by s a answer).failed ≡ true → answer ≡ answers.StoreFailed
noted_failed s a answers.StoreFailed fresh e = refl
noted_failed s a (answers.Granted c) fresh e = absurd (both_ways s.failed fresh (sym (recorded_failed (name_asked s a) s) ∙ sym (back_failed (asks_claims a.act) a.reclaim (recorded_as a.party) (recorded (name_asked s a) s)) ∙ e))
noted_failed s a (answers.Conflict c) fresh e = absurd (both_ways s.failed fresh e)
noted_failed s a (answers.Queued number) fresh e = absurd (both_ways s.failed fresh e)
noted_failed s a (answers.Recall c) fresh e = absurd (both_ways s.failed fresh e)
noted_failed s a (answers.Grace until) fresh e = absurd (both_ways s.failed fresh e)
noted_failed s a (answers.NoGrace clock) fresh e = absurd (both_ways s.failed fresh e)
noted_failed s a answers.NotRecorded fresh e = absurd (both_ways s.failed fresh e)
noted_failed s a (answers.Full limit) fresh e = absurd (both_ways s.failed fresh e)
noted_failed s a answers.NotHeld fresh e = absurd (both_ways s.failed fresh e)

unstored_failed : (name : Option Recorded) (s : CoreState) → is_some name ≡ true → (unstored name s).failed ≡ true
unfolding store_failed
unstored_failed None s some = absurd (both_ways false refl some)
unstored_failed (Some name) s some = elim (cases_Bool s.failed) [ inl e ↦ rw e refl | inr e ↦ rw e refl ]

was_wanted : (n : ℕ) (s : CoreState) (name : Option Recorded) → may_record n s name ≡ false → is_some name ≡ true
was_wanted n s None e = absurd (both_ways true e refl)
was_wanted n s (Some name) e = refl

-- A store is told to have failed exactly if one failed, in a step in which none had.
pub failed_told : (n : ℕ) (left : Rooms) (s : CoreState) (a : Ask) (what : What) → IsGood s → is_client a.owner a.party ≡ true → asked_what a.act ≡ Some what → s.failed ≡ false
    → ((ask n left s a).0 ≡ answers.StoreFailed) ↔ ((ask n left s a).2.failed ≡ true)
failed_told n left s a what good client act fresh = (forth, back) where
  left_failed : (ask n left s a).2.failed ≡ (noted_by s a (ask n left s a).0).failed
  left_failed = ap (λ (x : Aside). x.failed) (left_aside n left s a good client)

  forth : (ask n left s a).0 ≡ answers.StoreFailed → (ask n left s a).2.failed ≡ true
  forth told =
      let due = (ask_due n left s a what answers.StoreFailed act).0 told in
      let some = was_wanted n (way left s a).1 (wanted (way left s a).1 a) due.3 in
      let same = ask_way_keeps (λ t. wanted t a) left s a (λ c. begun_wanted c s a) in
      left_failed ∙ ap (λ (answer : Answer). (noted_by s a answer).failed) told
      ∙ unstored_failed (name_asked s a) s (ap is_some (one_named s a what act) ∙ ap is_some (sym same) ∙ some)

  back : (ask n left s a).2.failed ≡ true → (ask n left s a).0 ≡ answers.StoreFailed
  back failed = noted_failed s a (ask n left s a).0 fresh (sym left_failed ∙ failed)

-- ---- the record

same_protocol_self : (p : Protocol) → same_protocol p p ≡ true
same_protocol_self Nlm = refl
same_protocol_self Nfs = refl
same_protocol_self Smb = refl

same_self : (name : Recorded) → same_name name name ≡ true
same_self name = rw (same_protocol_self name.protocol) ((bytes_eq-Decides name.name name.name).1 refl)

same_marks : (mark : Mark) → same_mark mark mark ≡ true
same_marks (Verifier bytes) = (bytes_eq-Decides bytes bytes).1 refl
same_marks (State bytes) = (bytes_eq-Decides bytes bytes).1 refl

keeps_self : (mark : Option Mark) → keeps mark mark ≡ true
keeps_self None = refl
keeps_self (Some mark) = same_marks mark

-- a name that is put among others is there with its mark
kept_put : (name : Recorded) (names : List Recorded) → is_kept name (put_name name names) ≡ true
kept_put name [] = rw (same_self name, keeps_self name.mark) refl
kept_put name (held ∷ names) =
    elim (cases_Bool (same_name held name)) [
      | inl here ↦ rw here (rw (same_self name, keeps_self name.mark) refl)
      | inr other ↦ rw other (rw (kept_put name names) (grind (arith, nat_tests)))
    ]

back_stable : (asks reclaims : Bool) (name : Recorded) (t : CoreState) → (if asks then (if reclaims then record t { grace = reclaimed name t.grace } else t) else t).stable ≡ t.stable
back_stable true true name t = refl
back_stable true false name t = refl
back_stable false reclaims name t = refl

granted_stable : (s : CoreState) (a : Ask) (c : Claim) → (noted_by s a (answers.Granted c)).stable ≡ (recorded (name_asked s a) s).stable
granted_stable s a c = back_stable (asks_claims a.act) a.reclaim (recorded_as a.party) (recorded (name_asked s a) s)

-- A client that is monitored, reclaims nothing and is granted something is in the record then, with its mark.
pub recorded_told : (n : ℕ) (left : Rooms) (s : CoreState) (a : Ask) (what : What) (c : Claim) → IsGood s → is_client a.owner a.party ≡ true → asked_what a.act ≡ Some what → a.monitored ≡ true → a.reclaim ≡ false → is_recordable (asker_as a) ≡ true
    → (ask n left s a).0 ≡ answers.Granted c → is_kept (asker_as a) (ask n left s a).2.stable.names ≡ true
unfolding stored
recorded_told n left s a what c good client act monitored plain recordable told = ap (λ (stable : Stable). is_kept name stable.names) stable ∙ by (is_kept name s.stable.names) refl where
  name : Recorded
  name = asker_as a

  stable : (ask n left s a).2.stable ≡ (recorded (wanted s a) s).stable
  stable =
      ap (λ (x : Aside). x.stable) (left_aside n left s a good client) ∙ ap (λ (answer : Answer). (noted_by s a answer).stable) told ∙ granted_stable s a c
      ∙ ap (λ (o : Option Recorded). (recorded o s).stable) (one_named s a what act)

  by : (b : Bool) → is_kept name s.stable.names ≡ b → is_kept name (recorded (wanted s a) s).stable.names ≡ true
  by true known = rw (monitored, plain, recordable, known) known
  by false new = rw (monitored, plain, recordable, new) (kept_put name s.stable.names)

abbrev Gains : CoreState → Ask → Stable → Answer → Type 0
Gains s a new answer =
    (new ≡ s.stable) ⊎ (((c : Claim) × (answer ≡ answers.Granted c)) × (a.monitored ≡ true) × (a.reclaim ≡ false) × (is_kept (asker_as a) s.stable.names ≡ false) × (new ≡ with_name (asker_as a) s.stable))

-- The record is as it was, or it gains the client's name with its mark, which it lacked, where one who is monitored and reclaims nothing
-- is granted something.
pub gained_told : (n : ℕ) (left : Rooms) (s : CoreState) (a : Ask) → IsGood s → is_client a.owner a.party ≡ true
    → ((ask n left s a).2.stable ≡ s.stable)
    ⊎ (((c : Claim) × ((ask n left s a).0 ≡ answers.Granted c)) × (a.monitored ≡ true) × (a.reclaim ≡ false) × (is_kept (asker_as a) s.stable.names ≡ false) × ((ask n left s a).2.stable ≡ with_name (asker_as a) s.stable))
unfolding stored store_failed
gained_told n left s a good client = by (ask n left s a).0 refl where
  name : Recorded
  name = asker_as a

  new : Stable
  new = (ask n left s a).2.stable

  noted : (answer : Answer) → (ask n left s a).0 ≡ answer → new ≡ (noted_by s a answer).stable
  noted answer e = ap (λ (x : Aside). x.stable) (left_aside n left s a good client) ∙ ap (λ (r : Answer). (noted_by s a r).stable) e

  failed : (o : Option Recorded) → (unstored o s).stable ≡ s.stable
  failed None = refl
  failed (Some other) = elim (cases_Bool s.failed) [ inl e ↦ rw e refl | inr e ↦ rw e refl ]

  wants : (b : Bool) → (stores_name a && (is_recordable name && not (is_kept name s.stable.names))) ≡ b → (c : Claim) → new ≡ (recorded (if b then Some name else None) s).stable → Gains s a new (answers.Granted c)
  wants false none c is = inl is
  wants true some c is =
      let parts = and_parts (stores_name a) (is_recordable name && not (is_kept name s.stable.names)) some in
      let stores = and_parts a.monitored (not a.reclaim) parts.0 in
      let rest = and_parts (is_recordable name) (not (is_kept name s.stable.names)) parts.1 in
      inr ((c, refl), stores.0, not-true a.reclaim stores.1, not-true (is_kept name s.stable.names) rest.1, is)

  granted : (whats : List What) → (c : Claim) → new ≡ (recorded (to_record (wanted s a) (asked_claims a whats s.names)) s).stable → Gains s a new (answers.Granted c)
  granted [] c is = inl is
  granted (w ∷ []) c is = wants _ refl c is
  granted (w ∷ v ∷ ws) c is = inl is

  by : (answer : Answer) → (ask n left s a).0 ≡ answer → Gains s a new answer
  by (answers.Granted c) e = granted (asked_whats a.act) c (noted (answers.Granted c) e ∙ granted_stable s a c)
  by answers.StoreFailed e = inl (noted answers.StoreFailed e ∙ failed (name_asked s a))
  by (answers.Conflict c) e = inl (noted (answers.Conflict c) e)
  by (answers.Queued number) e = inl (noted (answers.Queued number) e)
  by (answers.Recall c) e = inl (noted (answers.Recall c) e)
  by (answers.Grace until) e = inl (noted (answers.Grace until) e)
  by (answers.NoGrace clock) e = inl (noted (answers.NoGrace clock) e)
  by answers.NotRecorded e = inl (noted answers.NotRecorded e)
  by (answers.Full limit) e = inl (noted (answers.Full limit) e)
  by answers.NotHeld e = inl (noted answers.NotHeld e)

-- One whose name isn't to be stored leaves the record and the stores of the step alone.
left_alone : (n : ℕ) (left : Rooms) (s : CoreState) (a : Ask) → IsGood s → is_client a.owner a.party ≡ true → stores_name a ≡ false → aside_of (record (ask n left s a).2 { grace = s.grace }) ≡ aside_of s
left_alone n left s a good client plain = ap (λ (x : Aside). record x { grace = s.grace }) (left_aside n left s a good client) ∙ by (ask n left s a).0 where
  unwanted : wanted s a ≡ None
  unwanted = ap (λ (stores : Bool). unrecorded stores (asker_as a) s.stable) plain

  none : name_asked s a ≡ None
  none = of (asked_whats a.act) where
    of : (whats : List What) → to_record (wanted s a) (asked_claims a whats s.names) ≡ None
    of [] = refl
    of (w ∷ []) = unwanted
    of (w ∷ v ∷ ws) = refl

  back : (asks reclaims : Bool) (name : Recorded) → aside_of (record (if asks then (if reclaims then record s { grace = reclaimed name s.grace } else s) else s) { grace = s.grace }) ≡ aside_of s
  back true true name = refl
  back true false name = refl
  back false reclaims name = refl

  by : (answer : Answer) → aside_of (record (noted_by s a answer) { grace = s.grace }) ≡ aside_of s
  by (answers.Granted c) = ap (λ (o : Option Recorded). aside_of (record (back_by a (answers.Granted c) (recorded o s)) { grace = s.grace })) none ∙ back (asks_claims a.act) a.reclaim (recorded_as a.party)
  by answers.StoreFailed = ap (λ (o : Option Recorded). aside_of (record (unstored o s) { grace = s.grace })) none
  by (answers.Conflict c) = refl
  by (answers.Queued number) = refl
  by (answers.Recall c) = refl
  by (answers.Grace until) = refl
  by (answers.NoGrace clock) = refl
  by answers.NotRecorded = refl
  by (answers.Full limit) = refl
  by answers.NotHeld = refl

-- One who isn't monitored does.
pub unmonitored_told : (n : ℕ) (left : Rooms) (s : CoreState) (a : Ask) → IsGood s → is_client a.owner a.party ≡ true → a.monitored ≡ false → aside_of (record (ask n left s a).2 { grace = s.grace }) ≡ aside_of s
unmonitored_told n left s a good client plain = left_alone n left s a good client (ap (λ (b : Bool). b && not a.reclaim) plain)

-- So does one who reclaims.
pub reclaim_told : (n : ℕ) (left : Rooms) (s : CoreState) (a : Ask) → IsGood s → is_client a.owner a.party ≡ true → a.reclaim ≡ true → aside_of (record (ask n left s a).2 { grace = s.grace }) ≡ aside_of s
reclaim_told n left s a good client reclaims = left_alone n left s a good client (ap (λ (b : Bool). a.monitored && not b) reclaims ∙ and_false a.monitored) where
  and_false : (b : Bool) → (b && false) ≡ false
  and_false true = refl
  and_false false = refl
