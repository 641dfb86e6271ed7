-- The journal of calls that were made.
use Rattle.std.proofs.Common.{◌≡◌, ℕ, zero, suc, ◌+◌, ◌-◌, ◌<◌, Bool, true, false, not, ◌==◌, ◌&&◌, if◌then◌else◌, List, [], ◌∷◌, ◌++◌, length, take, Result, Err, refl, sym, ap, ◌∙◌, append_assoc, append-nil, arith, subst}
use Rattle.std.proofs.Math.Seq.{take-append_seam}
use Rattle.xl_base.specs.declared.event.Event.{Event}
use Rattle.xl_base.specs.declared.event.Event.TheVariants.{Message}
use Rattle.xl_base.specs.declared.halt.Halt.{Halt}
use Rattle.xl_base.specs.declared.halt.Halt.TheVariants.{NoMemory, JournalFull, StartStore}
use Rattle.xl_base.specs.declared.journal.Entry.{Entry}
use Rattle.xl_base.specs.declared.journal.Head.{Head}
use Rattle.xl_base.specs.declared.journal.Journal.{Journal}
use Rattle.xl_jobs.specs.Jobs.{no_journal}
use Rattle.xl_capture.specs.Capture.{all_stores}
use Rattle.xl_house.specs.Journals.{entry, entries_of, is_restart, may_enter}
use Rattle.xl_house.specs.Machine.{step}
use Rattle.xl_house.specs.State.{Whole}
use Rattle.xl_make.specs.declared.made.Draws.{Draws}
use Rattle.xl_make.specs.Made.{IsMadePart, next, draw, fourth, call_by, call_from, record_of, calls_from, made_entries, made_head, made_journal, summary_from, surely, whole_summary}

abbrev journal_with : Head → List Entry → Journal
journal_with head entries = record { head = head; entries = entries }

pub same_journal : (seed count : ℕ) (journal : Journal) → journal.head ≡ made_head → journal.entries ≡ made_entries seed count → journal ≡ made_journal seed count
same_journal seed count journal head entries = ap (λ (h : Head). journal_with h journal.entries) head ∙ ap (journal_with made_head) entries

pub made_part : (seed count : ℕ) (journal : Journal) → journal.head ≡ made_head → take (length journal.entries) (made_entries seed count) ≡ journal.entries → IsMadePart seed count journal
made_part seed count journal head entries = record { entries = entries; head = λ some. head }

pub part_stepped : (seed count : ℕ) (journal : Journal) (head : Head) (es : List Entry) → journal.head ≡ head → journal.entries ≡ es → head ≡ made_head → take (length es) (made_entries seed count) ≡ es → IsMadePart seed count journal
part_stepped seed count journal head es same entered is begun = made_part seed count journal (same ∙ is) (subst (λ (xs : List Entry). take (length xs) (made_entries seed count) ≡ xs) (sym entered) begun)

pub no_part : (seed count : ℕ) → IsMadePart seed count no_journal
no_part seed count = record { entries = refl; head = λ some. absurd (omega (arith, some)) }

-- ---- stepping the calls

abbrev failed : Halt → Result ℕ Halt
failed halt = Err halt

-- a step that fails, where the journal isn't full, found no memory
pub only_memory : (halt : Halt) → ((count : ℕ) → failed halt ≡ failed (JournalFull count) → ⊥) → ((count : ℕ) → failed halt ≡ failed (StartStore count) → ⊥) → halt ≡ NoMemory
only_memory NoMemory full started = refl
only_memory (JournalFull count) full started = absurd (full count refl)
only_memory (StartStore count) full started = absurd (started count refl)

next_call : (x number left : ℕ) → 0 < left → calls_from x number left ≡ Message 0 (record_of number (call_from x)) ∷ calls_from (fourth x) (number + 1) (left - 1)
unfolding calls_from
next_call x number zero some = absurd (omega (arith, some))
next_call x number (suc more) some = let e : suc more - 1 ≡ more = omega arith in rw e refl

pub drawn_event : (x number : ℕ) (draws : Draws) → draws ≡ record { first = draw (next x); second = draw (next (next x)); third = draw (next (next (next x))); fourth = draw (fourth x) }
    → Message 0 (record_of number (call_by draws.first draws.second draws.third draws.fourth)) ≡ Message 0 (record_of number (call_from x))
unfolding call_from
drawn_event x number draws e = ap (λ (d : Draws). Message 0 (record_of number (call_by d.first d.second d.third d.fourth))) e

-- one event more is entered
pub entries_more : (s : Whole) (es new : List Entry) (event : Event) (t : Whole) (rest : List Event) → is_restart event ≡ false → new ≡ es ++ entry all_stores s event ∷ [] → t ≡ (step all_stores s event).next → new ++ entries_of t (surely rest) ≡ es ++ entries_of s (surely (event ∷ rest))
entries_more s es new event t rest steps entered next =
    let first : Entry = entry all_stores s event in
    let enters : may_enter all_stores event ≡ true = ap (λ (b : Bool). not (b && (all_stores == 0))) steps in
    ap (λ (xs : List Entry). xs ++ entries_of t (surely rest)) entered
    ∙ append_assoc es (first ∷ []) (entries_of t (surely rest))
    ∙ ap (λ (u : Whole). es ++ first ∷ entries_of u (surely rest)) next
    ∙ ap (λ (b : Bool). es ++ (if b then first ∷ entries_of (step all_stores s event).next (surely rest) else [])) (sym enters)

-- one call more is
pub call_stepped : (s t : Whole) (es new : List Entry) (x y number left : ℕ) (event : Event) (whole : List Entry) → new ≡ es ++ entry all_stores s event ∷ [] → t ≡ (step all_stores s event).next
    → event ≡ Message 0 (record_of number (call_from x)) → y ≡ fourth x → 0 < left → es ++ entries_of s (surely (calls_from x number left)) ≡ whole → new ++ entries_of t (surely (calls_from y (number + 1) (left - 1))) ≡ whole
call_stepped s t es new x y number left event whole entered next is last some before =
    ap (λ (z : ℕ). new ++ entries_of t (surely (calls_from z (number + 1) (left - 1)))) last
    ∙ entries_more s es new event t (calls_from (fourth x) (number + 1) (left - 1)) (ap is_restart is) entered next
    ∙ ap (λ (e : Event). es ++ entries_of s (surely (e ∷ calls_from (fourth x) (number + 1) (left - 1)))) is
    ∙ ap (λ (events : List Event). es ++ entries_of s (surely events)) (sym (next_call x number left some))
    ∙ before

-- no call is left
pub none_left : (s : Whole) (es : List Entry) (x number left : ℕ) (whole : List Entry) → left ≡ 0 → es ++ entries_of s (surely (calls_from x number left)) ≡ whole → es ≡ whole
unfolding calls_from
none_left s es x number left whole none before = sym (append-nil es) ∙ ap (λ (n : ℕ). es ++ entries_of s (surely (calls_from x number n))) (sym none) ∙ before

-- the entries so far are a front of all
pub front_so : (es more whole : List Entry) → es ++ more ≡ whole → take (length es) whole ≡ es
front_so es more whole same = ap (λ (xs : List Entry). take (length es) xs) (sym same) ∙ take-append_seam es more

-- ---- its summary

pub same_summary : (journal : Journal) (head : Head) (es : List Entry) → journal.head ≡ head → journal.entries ≡ es → summary_from head es ≡ whole_summary journal
same_summary journal head es h e = ap (λ (x : Head). summary_from x es) (sym h) ∙ ap (λ (x : List Entry). summary_from journal.head x) (sym e)
