-- What the steps of a capture make.
use Rattle.std.proofs.Common.{◌≡◌, ◌≢◌, ℕ, suc, ◌<◌, ◌≤◌, min, Bool, true, false, not, ◌==◌, ◌&&◌, inl, inr, if◌then◌else◌, List, [], ◌∷◌, ◌++◌, length, take, drop, Option, Some, None, Result, Ok, Err, IfOk, IfErr, IfSome, OnOk, ◌↔◌, refl, sym, ap, ap₂, subst, ◌∙◌, append-nil, length-append, arith}
use Rattle.std.proofs.lemmas.Bool.{cases_Bool, cases_lt}
use Rattle.std.proofs.lemmas.Bool.Decides.{nat_tests}
use Rattle.std.proofs.lemmas.List.{take-append-drop}
use Rattle.xl_base.specs.declared.event.Event.{Event}
use Rattle.xl_base.specs.declared.event.Event.TheVariants.{Restart}
use Rattle.xl_base.specs.declared.journal.Entry.{Entry}
use Rattle.xl_base.specs.declared.journal.Head.{Head}
use Rattle.xl_capture.specs.declared.step.Step.{Step}
use Rattle.xl_house.specs.Housed.{Housed, is_spoiled}
use Rattle.xl_base.specs.Serials.{Extends}
use Rattle.xl_base.specs.declared.halt.Halt.{Halt}
use Rattle.xl_base.specs.declared.halt.Halt.TheVariants.{NoMemory, JournalFull, StartStore}
use Rattle.xl_house.specs.Journals.{IsLegal, IsOrderly, entries_of, entry, is_restart, may_enter, most_entries, replay}
use Rattle.xl_house.specs.Machine.{Turn, restarted, step}
use Rattle.xl_house.specs.Recording.{HasKept}
use Rattle.xl_core.specs.Stores.{Telling}
use Rattle.xl_house.specs.State.{Whole, start_of}
use Rattle.xl_house.proofs.OrderLaws.{legal_orderly}
use Rattle.xl_house.specs.declared.start.Ended.{Ended}
use Rattle.xl_house.specs.Serials.{MayHalt}
use Rattle.xl_replay.specs.Enter.{HasRun, IsStoppedBy}
use Rattle.xl_replay.proofs.EnterLaws.{events_length}
use Rattle.xl_replay.specs.Replays.{IsEnded, IsWhole, Replaying, origin_of, AreMade, IsMade, allowed_at, events_in, events_of, has_failed_start, is_failed_start, made_of, pairs_in, stores_of, tried}

-- ---- one entry more

replay_more : (s : Whole) (es : List Entry) (e : Entry) → replay s (es ++ e ∷ []) ≡ (step e.stores (replay s es) e.event).next
replay_more s [] e = refl
replay_more s (x ∷ es) e = replay_more (step x.stores s x.event).next es e

made_more : (s : Whole) (es : List Entry) (allowed : List ℕ) (e : Entry) → AreMade s es allowed → IsMade (allowed_at allowed (length es)) (replay s es) e → AreMade s (es ++ e ∷ []) allowed
made_more s [] [] e all one = (one, tt)
made_more s [] (n ∷ allowed) e all one = (one, tt)
made_more s (x ∷ es) [] e all one = (all.0, made_more (step x.stores s x.event).next es [] e all.1 one)
made_more s (x ∷ es) (n ∷ allowed) e all one = (all.0, made_more (step x.stores s x.event).next es allowed e all.1 one)

steps_enter : (n : ℕ) (event : Event) → is_restart event ≡ false → may_enter n event ≡ true
steps_enter n event steps = ap (λ (b : Bool). not (b && (n == 0))) steps

start_enters : (n : ℕ) → 0 < n → may_enter n Restart ≡ true
start_enters n some = grind (arith, nat_tests)

-- the entry of a step, as the house makes it
pub step_made : (s : Whole) (old new : List Entry) (allowed : List ℕ) (n : ℕ) (event : Event) → is_restart event ≡ false → AreMade s old allowed → n ≡ allowed_at allowed (length old)
    → new ≡ old ++ entry n (replay s old) event ∷ [] → replay s new ≡ (step n (replay s old) event).next → AreMade s new allowed
step_made s old new allowed n event steps all at entered next =
    let e : Entry = entry n (replay s old) event in
    let one : IsMade n (replay s old) e = record {
      entry = refl;
      next = sym (replay_more s old e) ∙ ap (replay s) (sym entered) ∙ next;
      enters = steps_enter n event steps;
    } in
    subst (λ (es : List Entry). AreMade s es allowed) (sym entered) (made_more s old allowed e all (subst (λ (m : ℕ). IsMade m (replay s old) e) at one))

-- a start that comes to pass does the same whatever succeeds besides
one_start : (n : ℕ) → 0 < n → min n 1 ≡ 1
one_start n some = grind (arith, nat_tests)

start_same : (n : ℕ) (s : Whole) → 0 < n → step 1 s Restart ≡ step n s Restart
unfolding step
start_same n s some = ap (λ (m : ℕ). record (restarted n s) { made = m }) (sym (one_start n some))

start_one : (n : ℕ) (s : Whole) → 0 < n → (step n s Restart).made ≡ 1
unfolding step
start_one n s some = one_start n some

start_made : (s : Whole) (old new : List Entry) (allowed : List ℕ) (n : ℕ) → 0 < n → AreMade s old allowed → n ≡ allowed_at allowed (length old) → new ≡ old ++ entry 1 (replay s old) Restart ∷ [] → AreMade s new allowed
start_made s old new allowed n some all at entered =
    let e : Entry = entry 1 (replay s old) Restart in
    let one : IsMade n (replay s old) e = record {
      entry = ap (λ (t : Turn). record { event = Restart; stores = t.made; outs = t.outs }) (start_same n (replay s old) some);
      next = ap (λ (m : ℕ). (step m (replay s old) Restart).next) (start_one 1 (replay s old) (omega arith)) ∙ ap (λ (t : Turn). t.next) (start_same n (replay s old) some);
      enters = start_enters n some;
    } in
    subst (λ (es : List Entry). AreMade s es allowed) (sym entered) (made_more s old allowed e all (subst (λ (m : ℕ). IsMade m (replay s old) e) at one))

-- what a house says of a step, in the words of the house before its stores were allowed
pub step_enters : (n : ℕ) (event : Event) (was head : Head) (old es new : List Entry) (r : Result ℕ Halt) → head ≡ was → es ≡ old
    → OnOk r ((new ≡ es ++ entry n (replay (start_of head) es) event ∷ []) × (replay (start_of head) new ≡ (step n (replay (start_of head) es) event).next))
    → OnOk r ((new ≡ old ++ entry n (replay (start_of was) old) event ∷ []) × (replay (start_of was) new ≡ (step n (replay (start_of was) old) event).next))
step_enters n event was head old es new (Ok place) first second says =
    let shape : Head → List Entry → Type 0 = λ h xs. (new ≡ xs ++ entry n (replay (start_of h) xs) event ∷ []) × (replay (start_of h) new ≡ (step n (replay (start_of h) xs) event).next) in
    subst (λ xs. shape was xs) second (subst (λ h. shape h es) first says)
step_enters n event was head old es new (Err halt) first second says = tt

-- a step of the house, which stops it or enters what so many stores make
pub stepped_made : (start : Whole) (old new : List Entry) (allowed : List ℕ) (n : ℕ) (event : Event) (r : Result ℕ Halt) → is_restart event ≡ false → AreMade start old allowed → n ≡ allowed_at allowed (length old)
    → OnOk r ((new ≡ old ++ entry n (replay start old) event ∷ []) × (replay start new ≡ (step n (replay start old) event).next)) → IfErr r (λ halt. new ≡ old) → AreMade start new allowed
stepped_made start old new allowed n event (Ok place) steps all at ok err = step_made start old new allowed n event steps all at ok.0 ok.1
stepped_made start old new allowed n event (Err halt) steps all at ok err = subst (λ (es : List Entry). AreMade start es allowed) (sym err) all

pub extends_so : (old new : List Entry) (s : Whole) (n : ℕ) (event : Event) (r : Result ℕ Halt) → OnOk r (new ≡ old ++ entry n s event ∷ []) → IfOk r (λ place. (place ≡ length old) × (place < most_entries)) → IfOk r (λ place. Extends 0 old new event place)
extends_so old new s n event (Ok place) entered at = (entry n s event, entered, refl, omega (arith, at.0), omega (arith, at.1))
extends_so old new s n event (Err halt) entered at = tt

events_append : (es more : List Entry) → events_in (es ++ more) ≡ events_in es ++ events_in more
events_append [] more = refl
events_append (e ∷ es) more = ap (λ (xs : List Event). e.event ∷ xs) (events_append es more)

pub events_more : (old new : List Entry) (e : Entry) → new ≡ old ++ e ∷ [] → events_in new ≡ events_in old ++ e.event ∷ []
events_more old new e is = ap events_in is ∙ events_append old (e ∷ [])

module _ {K : Type 0} where
  -- what a house says of its start
  abbrev Starts : Housed K → Housed K → Type 0
  Starts old h = (h.head ≡ old.head) × (h.entries ≡ old.entries ++ entry 1 (replay (start_of old.head) old.entries) Restart ∷ []) × (h.halt ≡ None)

  pub started_made : (old : Housed K) (allowed : List ℕ) (n : ℕ) (r : Result (Housed K) (Ended K)) → AreMade (start_of old.head) old.entries allowed → n ≡ allowed_at allowed (length old.entries) → OnOk r (0 < n) → IfOk r (λ h. Starts old h)
      → IfOk r (λ h. AreMade (start_of h.head) h.entries allowed)
  started_made old allowed n (Ok h) all at some is = subst (λ head. AreMade (start_of head) h.entries allowed) (sym is.0) (start_made (start_of old.head) old.entries h.entries allowed n some all at is.1)
  started_made old allowed n (Err e) all at some is = tt

  pub started_events : (old : Housed K) (r : Result (Housed K) (Ended K)) → IfOk r (λ h. Starts old h) → IfOk r (λ h. events_in h.entries ≡ events_in old.entries ++ Restart ∷ [])
  started_events old (Ok h) is = events_more old.entries h.entries (entry 1 (replay (start_of old.head) old.entries) Restart) is.1
  started_events old (Err e) is = tt

  -- a start whose keeper tells how many stores succeed made one of them
  pub started_some : (n : ℕ) (s : Whole) (before : Telling) (told : Housed K → Telling) (r : Result (Housed K) (Ended K)) → before.left ≡ Some n → IfOk r (λ h. HasKept (step 1 s Restart) before (told h)) → OnOk r (0 < n)
  unfolding step
  started_some n s before told (Ok h) left kept = omega (arith, (kept.left n left).0)
  started_some n s before told (Err e) left kept = tt

-- ---- all entries

cons_injective : (a b : Event) (xs ys : List Event) → a ∷ xs ≡ b ∷ ys → (a ≡ b) × (xs ≡ ys)
cons_injective a b xs ys e = (cc, cc)

none_before : (a : Event) (xs : List Event) → a ∷ xs ≡ [] → ⊥
none_before a xs e = cc

-- the first entry and the first step
enters_so : (x : Step) (e : Entry) (s : Whole) → IsMade x.stores s e → e.event ≡ x.event → may_enter x.stores x.event ≡ true
enters_so x e s one same = ap (may_enter x.stores) (sym same) ∙ one.enters

fine_so : (x : Step) (e : Entry) (s : Whole) → IsMade x.stores s e → e.event ≡ x.event → is_failed_start x ≡ false
fine_so x e s one same = ap not (enters_so x e s one same)

entry_so : (x : Step) (e : Entry) (s : Whole) → IsMade x.stores s e → e.event ≡ x.event → entry x.stores s x.event ≡ e
entry_so x e s one same = ap (entry x.stores s) (sym same) ∙ sym one.entry

next_so : (x : Step) (e : Entry) (s : Whole) → IsMade x.stores s e → e.event ≡ x.event → (step x.stores s x.event).next ≡ (step e.stores s e.event).next
next_so x e s one same = ap (λ (event : Event). (step x.stores s event).next) (sym same) ∙ sym one.next

-- what the steps make begins with the entry of the first, if that enters
made_first : (x : Step) (steps : List Step) (e : Entry) (s : Whole) → IsMade x.stores s e → e.event ≡ x.event → made_of s (x ∷ steps) ≡ e ∷ made_of (step e.stores s e.event).next steps
made_first x steps e s one same =
    ap (λ (b : Bool). if b then entry x.stores s x.event ∷ made_of (step x.stores s x.event).next steps else []) (enters_so x e s one same)
    ∙ ap₂ (λ (y : Entry) (ys : List Entry). y ∷ ys) (entry_so x e s one same) (ap (λ (t : Whole). made_of t steps) (next_so x e s one same))

-- the entries are what the first of the steps make
pub begun_so : (s : Whole) (es : List Entry) (steps : List Step) (rest : List Event) → AreMade s es (stores_of steps) → events_in es ++ rest ≡ events_of steps → take (length es) (made_of s steps) ≡ es
begun_so s [] steps rest all front = refl
begun_so s (e ∷ es) [] rest all front = absurd (none_before e.event (events_in es ++ rest) front)
begun_so s (e ∷ es) (x ∷ steps) rest all front =
    let parts = cons_injective e.event x.event (events_in es ++ rest) (events_of steps) front in
    ap (λ (ys : List Entry). take (suc (length es)) ys) (made_first x steps e s all.0 parts.0)
    ∙ ap (λ (ys : List Entry). e ∷ ys) (begun_so (step e.stores s e.event).next es steps rest all.1 parts.1)

-- where a step is left
comes_next : (s : Whole) (es : List Entry) (steps : List Step) (event : Event) (rest : List Event) → AreMade s es (stores_of steps) → events_in es ++ event ∷ rest ≡ events_of steps → length es < length (tried steps)
comes_next s [] [] event rest all front = absurd (none_before event rest front)
comes_next s [] (x ∷ steps) event rest all front = elim (cases_Bool (is_failed_start x)) [ inl e ↦ rw e (omega arith) | inr e ↦ rw e (omega arith) ]
comes_next s (e ∷ es) [] event rest all front = absurd (none_before e.event (events_in es ++ event ∷ rest) front)
comes_next s (e ∷ es) (x ∷ steps) event rest all front =
    let parts = cons_injective e.event x.event (events_in es ++ event ∷ rest) (events_of steps) front in
    let more = comes_next (step e.stores s e.event).next es steps event rest all.1 parts.1 in
    rw (fine_so x e s all.0 parts.0) (omega (arith, more))

-- where none is left
none_failed : (s : Whole) (es : List Entry) (steps : List Step) → AreMade s es (stores_of steps) → events_in es ≡ events_of steps → (has_failed_start steps ≡ false) × (made_of s steps ≡ es)
none_failed s [] [] all front = (refl, refl)
none_failed s [] (x ∷ steps) all front = absurd (none_before x.event (events_of steps) (sym front))
none_failed s (e ∷ es) [] all front = absurd (none_before e.event (events_in es) front)
none_failed s (e ∷ es) (x ∷ steps) all front =
    let parts = cons_injective e.event x.event (events_in es) (events_of steps) front in
    let more = none_failed (step e.stores s e.event).next es steps all.1 parts.1 in (
      rw (fine_so x e s all.0 parts.0) more.0,
      made_first x steps e s all.0 parts.0 ∙ ap (λ (ys : List Entry). e ∷ ys) more.1,
    )

-- where a start comes next that fails
start_failed : (s : Whole) (es : List Entry) (steps : List Step) (rest : List Event) → AreMade s es (stores_of steps) → events_in es ++ Restart ∷ rest ≡ events_of steps → allowed_at (stores_of steps) (length es) ≡ 0 → (has_failed_start steps ≡ true) × (made_of s steps ≡ es)
start_failed s [] [] rest all front none = absurd (none_before Restart rest front)
start_failed s [] (x ∷ steps) rest all front none =
    let parts = cons_injective Restart x.event rest (events_of steps) front in
    let bars : may_enter x.stores x.event ≡ false = ap₂ (λ (event : Event) (n : ℕ). may_enter n event) (sym parts.0) none in
    (rw bars refl, ap (λ (b : Bool). if b then entry x.stores s x.event ∷ made_of (step x.stores s x.event).next steps else []) bars)
start_failed s (e ∷ es) [] rest all front none = absurd (none_before e.event (events_in es ++ Restart ∷ rest) front)
start_failed s (e ∷ es) (x ∷ steps) rest all front none =
    let parts = cons_injective e.event x.event (events_in es ++ Restart ∷ rest) (events_of steps) front in
    let more = start_failed (step e.stores s e.event).next es steps rest all.1 parts.1 none in (
      rw (fine_so x e s all.0 parts.0) more.0,
      made_first x steps e s all.0 parts.0 ∙ ap (λ (ys : List Entry). e ∷ ys) more.1,
    )

-- ---- how a replay ended

none_more : (es : List Entry) (all : List Event) → events_in es ≡ all → events_in es ++ [] ≡ all
none_more es all same = append-nil (events_in es) ∙ same

-- all were made
pub all_ended : (s : Whole) (es : List Entry) (steps : List Step) → AreMade s es (stores_of steps) → events_in es ≡ events_of steps → IsEnded s steps es (Ok tt)
all_ended s es steps made same =
    let all = none_failed s es steps made same in
    record { begun = begun_so s es steps [] made (none_more es (events_of steps) same); so = (sym all.1, all.0) }

-- a run stopped before the next
cons_left : {A : Type 0} (xs : List A) → 0 < length xs → (x : A) × (ys : List A) × (xs ≡ x ∷ ys)
cons_left [] some = absurd (omega (arith, some))
cons_left (x ∷ xs) some = (x, xs, refl)

rest_front : (es : List Entry) (all : List Event) → take (length es) all ≡ events_in es → events_in es ++ drop (length es) all ≡ all
rest_front es all front = ap (λ (xs : List Event). xs ++ drop (length es) all) (sym front) ∙ take-append-drop (length es) all

pub stopped_ended : (s : Whole) (es : List Entry) (steps : List Step) (halt : Halt) → AreMade s es (stores_of steps) → take (length es) (events_of steps) ≡ events_in es → IsStoppedBy es (events_of steps) halt → IsEnded s steps es (Err halt)
stopped_ended s es steps NoMemory made front by = record { begun = begun_so s es steps (drop (length es) (events_of steps)) made (rest_front es (events_of steps) front); so = tt }
stopped_ended s es steps (JournalFull count) made front by =
    let all = rest_front es (events_of steps) front in
    let long : 0 < length (drop (length es) (events_of steps)) = omega (arith, by.1, ap length all, length-append (events_in es) (drop (length es) (events_of steps)), events_length es) in
    let next = cons_left (drop (length es) (events_of steps)) long in
    let comes = comes_next s es steps next.0 next.1 made (ap (λ (xs : List Event). events_in es ++ xs) (sym next.2) ∙ all) in
    record { begun = begun_so s es steps (drop (length es) (events_of steps)) made all; so = (by.0, omega (arith, by.0, comes)) }
stopped_ended s es steps (StartStore count) made front by = absurd by

-- a start came next of a house that is halted, or whose journal is full
pub barred_ended : (s : Whole) (es : List Entry) (steps : List Step) (rest : List Event) (halt : Halt) → AreMade s es (stores_of steps) → events_in es ++ Restart ∷ rest ≡ events_of steps → MayHalt es halt → IsEnded s steps es (Err halt)
barred_ended s es steps rest NoMemory made front may = record { begun = begun_so s es steps (Restart ∷ rest) made front; so = tt }
barred_ended s es steps rest (JournalFull count) made front may =
    let comes = comes_next s es steps Restart rest made front in
    record { begun = begun_so s es steps (Restart ∷ rest) made front; so = (may.1, omega (arith, may.1, comes)) }
barred_ended s es steps rest (StartStore count) made front may = absurd may

-- its house isn't spoiled unless memory ran out
pub barred_left : {K : Type 0} (h : Housed K) (halt : Halt) → MayHalt h.entries halt → IfSome h.halt (λ reason. Some halt ≡ Some reason) → IsWhole h (Err halt)
barred_left h NoMemory may told = tt
barred_left h (JournalFull count) may told = of h.halt told where
  of : (o : Option Halt) → IfSome o (λ reason. Some (JournalFull count) ≡ Some reason) → is_spoiled o ≡ false
  of None told = refl
  of (Some NoMemory) told = absurd cc
  of (Some (JournalFull other)) told = refl
  of (Some (StartStore other)) told = refl
barred_left h (StartStore count) may told = absurd may

-- a start came next, and failed
pub unstarted_ended : (s : Whole) (es : List Entry) (steps : List Step) (rest : List Event) (halt : Halt) → AreMade s es (stores_of steps) → events_in es ++ Restart ∷ rest ≡ events_of steps → length es ≤ most_entries → length es ≢ most_entries
    → ((count : ℕ) → halt ≡ JournalFull count → ⊥) → ((count : ℕ) → halt ≡ StartStore count → allowed_at (stores_of steps) (length es) ≡ 0) → IsEnded s steps es (Err halt)
unstarted_ended s es steps rest NoMemory made front few room full failed = record { begun = begun_so s es steps (Restart ∷ rest) made front; so = tt }
unstarted_ended s es steps rest (JournalFull count) made front few room full failed = absurd (full count refl)
unstarted_ended s es steps rest (StartStore count) made front few room full failed =
    let fails = start_failed s es steps rest made front (failed count refl) in
    record { begun = begun_so s es steps (Restart ∷ rest) made front; so = (sym fails.1, fails.0, under (length es) most_entries few room) }
  where
    under : (n m : ℕ) → n ≤ m → n ≢ m → n < m
    under n m le apart = elim (cases_lt n m) [ inl lt ↦ lt | inr ge ↦ absurd (apart (omega (arith, le, ge))) ]

-- ---- results

pub first_of : {A E : Type 0} (r : Result A E) (P Q : Type 0) → OnOk r (P × Q) → OnOk r P
first_of (Ok x) P Q both = both.0
first_of (Err e) P Q both = tt

-- a house whose journal has room isn't refused for that
pub never_full : {H K : Type 0} (old : Housed K) (r : Result H (Ended K)) → old.halt ≡ None → length old.entries ≢ most_entries → IfErr r (λ e. (count : ℕ) → old.halt ≡ None → (e.halt ≡ JournalFull count) ↔ ((count ≡ length old.entries) × (length old.entries ≡ most_entries)))
    → IfErr r (λ e. (count : ℕ) → e.halt ≡ JournalFull count → ⊥)
never_full old (Ok h) runs room each = tt
never_full old (Err e) runs room each = λ count is. room ((each count runs).0 is).1

-- a start fails only if none of its stores is to succeed
pub spent_all : {H K : Type 0} (n m : ℕ) (left : Option ℕ) (r : Result H (Ended K)) → left ≡ Some n → m ≡ n → IfErr r (λ e. (k count : ℕ) → left ≡ Some k → e.halt ≡ StartStore count → k ≡ 0) → IfErr r (λ e. (count : ℕ) → e.halt ≡ StartStore count → m ≡ 0)
spent_all n m left (Ok h) told is each = tt
spent_all n m left (Err e) told is each = λ count failed. is ∙ each n count told failed

pub ended_orderly : {H K : Type 0} (r : Result H (Ended K)) → IfErr r (λ e. IsLegal (start_of e.journal.head) e.journal.entries) → IfErr r (λ e. IsOrderly [] 0 e.journal.entries)
ended_orderly (Ok h) legal = tt
ended_orderly (Err e) legal = legal_orderly e.journal.head e.journal.entries legal

-- ---- runs

-- what was made, in the words of what the replay began from
pub made_from : (first r : Replaying) (steps : List Step) → origin_of r ≡ origin_of first → first.allowed ≡ stores_of steps → AreMade (start_of r.house.head) r.house.entries r.allowed → AreMade (start_of first.house.head) r.house.entries (stores_of steps)
made_from first r steps origin allowed made =
    subst (λ (ns : List ℕ). AreMade (start_of first.house.head) r.house.entries ns) (ap (λ o. o.1) origin ∙ allowed) (subst (λ (head : Head). AreMade (start_of head) r.house.entries r.allowed) (ap (λ o. o.0) origin) made)

pub run_all : (es : List Entry) (rest all whole : List Event) (run : Result Bool Halt) → run ≡ Ok false → HasRun es rest all run → all ≡ whole → events_in es ≡ whole
run_all es rest all whole run is has same = subst (λ (r : Result Bool Halt). HasRun es rest all r) is has ∙ same

pub run_next : (es : List Entry) (rest all whole : List Event) (run : Result Bool Halt) → run ≡ Ok true → HasRun es rest all run → all ≡ whole → events_in es ++ Restart ∷ rest ≡ whole
run_next es rest all whole run is has same = subst (λ (r : Result Bool Halt). HasRun es rest all r) is has ∙ same

pub run_stopped : (es : List Entry) (rest all whole : List Event) (run : Result Bool Halt) (halt : Halt) → run ≡ Err halt → HasRun es rest all run → all ≡ whole → (take (length es) whole ≡ events_in es) × IsStoppedBy es whole halt
run_stopped es rest all whole run halt is has same = subst (λ (xs : List Event). (take (length es) xs ≡ events_in es) × IsStoppedBy es xs halt) same (subst (λ (r : Result Bool Halt). HasRun es rest all r) is has)

-- ---- a journal by itself

-- a legal journal is what its own events make with its own stores
pub remade_so : (s : Whole) (es : List Entry) → IsLegal s es → entries_of s (pairs_in es) ≡ es
remade_so s [] legal = refl
remade_so s (e ∷ es) legal =
    let is = legal.0 in
    ap (λ (b : Bool). if b then entry e.stores s e.event ∷ entries_of (step e.stores s e.event).next (pairs_in es) else []) is.2
    ∙ (λ i. record { event = e.event; stores = sym is.0 i; outs = sym is.1 i } ∷ remade_so (step e.stores s e.event).next es legal.1 i)
