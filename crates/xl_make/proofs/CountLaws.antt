-- Each call that is made is granted or denied.
use Rattle.std.proofs.Common.{◌≡◌, ℕ, zero, suc, ◌+◌, ◌%◌, ◌^◌, ◌<◌, ◌≤◌, Bool, ◌==◌, inl, inr, if◌then◌else◌, List, [], ◌∷◌, ◌++◌, length, map, Option, Some, None, refl, sym, ap, subst, ◌∙◌, arith}
use Rattle.std.proofs.lemmas.Bool.{cases_Bool}
use Rattle.std.proofs.lemmas.List.Sums.{sum_by-cons}
use Rattle.xl_core.specs.declared.ask.Answer.{Answer}
use Rattle.xl_base.specs.declared.event.Event.TheVariants.{Open, Message}
use Rattle.xl_base.specs.declared.event.Kind.TheVariants.{Rpc}
use Rattle.xl_base.specs.declared.journal.Entry.{Entry}
use Rattle.xl_base.specs.declared.journal.Exports.{Exports}
use Rattle.xl_base.specs.declared.journal.Journal.{Journal}
use Rattle.xl_wait.specs.declared.waiter.Rooms.{Rooms}
use Rattle.xl_wait.specs.declared.waiter.Waiter.{Waiter}
use Rattle.xl_rpc.specs.Replies.{reply}
use Rattle.xl_rpc.specs.declared.reply.Verdict.TheVariants.{Success}
use Rattle.xl_nlm.specs.Items.{CallItem}
use Rattle.xl_nlm.specs.Replies.{results, results_at}
use Rattle.xl_nlm.specs.declared.item.NlmStatus.{NlmStatus}
use Rattle.xl_programs.specs.Programs.{Asked, incoming_at, in_program}
use Rattle.xl_programs.specs.Sent.{sent_to}
use Rattle.xl_core.specs.Settle.{first_turn, settle}
use Rattle.xl_core.specs.State.{CoreState, step_begun}
use Rattle.xl_core.proofs.GoodLaws.{begun_good, started_good}
use Rattle.xl_front_nlm.specs.FrontNlm.{nlm_step, call_in, sent_with, replied, with_results}
use Rattle.xl_front_nlm.specs.Results.{reply_of}
use Rattle.xl_front_nlm.specs.State.{FrontState}
use Rattle.xl_front_nlm.specs.declared.outcome.Outcome.TheVariants.{Answered}
use Rattle.xl_house.specs.Journals.{entry, entries_of}
use Rattle.xl_house.specs.declared.layers.Fronts.{Fronts}
use Rattle.xl_house.specs.Machine.{Turn, all_sent, heard, sent_of, connected, turn_of, step}
use Rattle.xl_house.specs.Own.{with_nlm, message_own, record_own}
use Rattle.xl_house.specs.State.{as_found, Whole, kind_of, with_connection, rooms_of, start_of}
use Rattle.xl_house.specs.Telling.{Sent, and_then, framed, settled, behind}
use Rattle.xl_house.proofs.MachineLaws.{step_plain}
use Rattle.xl_house.proofs.PlainLaws.{record_plain}
use Rattle.xl_house.proofs.SettleLaws.{none_settles}
use Rattle.xl_capture.specs.Capture.{all_stores}
use Rattle.xl_capture.specs.Summary.{is_granted, is_denied, granted, denied, results_status, told_status, or_status}
use Rattle.xl_make.specs.Made.{next, draw, exclusive_by, asked_by, call_from, lock_by, record_of, calls_from, fourth, made_head, made_entries, made_journal, surely}
use Rattle.xl_words.specs.Words.{most_made}
use Rattle.xl_make.proofs.CallLaws.{arrives, call_fits, framed_is, replied_is, request, whole}
use Rattle.xl_make.proofs.DrawnLaws.{AreOurs, IsAble, IsMadeCore}
use Rattle.xl_make.proofs.StepLaws.{IsServed, IsTold, call_served}

-- ---- the machine between two calls

pub record IsMade (s : Whole) : Type 0 where
  pub exports : s.exports ≡ made_head.exports
  pub connections : s.connections ≡ record { number = 0; kind = Rpc } ∷ []
  pub paused : s.paused ≡ []
  pub hosts : AreOurs s.front.nlm.hosts
  pub core : IsMadeCore s.core

begun_core : (s : CoreState) → IsMadeCore s → IsMadeCore (step_begun s)
unfolding step_begun
begun_core s core = record { good = begun_good s core.good; waiters = core.waiters; names = core.names; claims = core.claims; calm = core.calm; recorded = core.recorded }

-- a step begins without a store
begun_able : (n : ℕ) (s : CoreState) → 0 < n → IsAble n (step_begun s)
unfolding step_begun
begun_able n s some = record { made = some; failed = refl }

-- ---- one call

abbrev told_by : ℕ → CallItem → FrontState → CoreState → Answer → List ℕ
told_by number c f core answer = reply number Success ++ results (reply_of core.names c (Answered answer))

abbrev sent_by : List ℕ → Fronts → CoreState → Sent
sent_by bytes f core = (map (framed Rpc) (sent_to 0 bytes), f, core)

-- the front of NLM changes alone
abbrev fronts_with : Whole → FrontState → Fronts
fronts_with s f = record s.front { nlm = f }

kind_is : (s : Whole) → IsMade s → kind_of s.connections 0 ≡ Some Rpc
unfolding kind_of
kind_is s ok = ap (λ cs. kind_of cs 0) ok.connections

files_are : (s : Whole) → IsMade s → length s.exports.files ≡ 8
files_are s ok = ap (λ (e : Exports). length e.files) ok.exports

heard_is : (n : ℕ) (s : Whole) (number : ℕ) (c : CallItem) (ok : IsMade s) (done : IsServed n s.front.nlm (step_begun s.core) c) → incoming_at (record_of number c) ≡ Asked (request number c) → call_in (request number c) ≡ Some c
    → heard n (as_found s) (Message 0 (record_of number c)) ≡ sent_by (told_by number c done.front done.core done.answer) (fronts_with s done.front) done.core
unfolding heard nlm_step
heard_is n s number c ok done asked whole =
    ap (λ k. sent_of s.exports k (message_own n s.exports s.front (step_begun s.core) k 0 (record_of number c)).given) (kind_is s ok)
    ∙ ap (λ incoming. sent_of s.exports (Some Rpc) (record_own n s.exports s.front (step_begun s.core) 0 incoming).given) asked
    ∙ ap (λ count. sent_of s.exports (Some Rpc) (with_nlm s.front (sent_with 0 (replied n count s.front.nlm (step_begun s.core) number (call_in (request number c)))))) (files_are s ok)
    ∙ ap (λ o. sent_of s.exports (Some Rpc) (with_nlm s.front (sent_with 0 (replied n 8 s.front.nlm (step_begun s.core) number o)))) whole
    ∙ ap (λ r. sent_of s.exports (Some Rpc) (with_nlm s.front (sent_with 0 (with_results number c r)))) done.is

no_turn : (n : ℕ) (left : Rooms) (s : CoreState) → s.waiters ≡ [] → settle n left s ≡ None
unfolding settle
no_turn n left s none = ap (λ (ws : List Waiter). first_turn n left s [] ws) none

settled_none : (n : ℕ) (exports : Exports) (f : Fronts) (s : CoreState) → s.waiters ≡ [] → settled n exports f s ≡ ([], f, s)
settled_none n exports f s none = none_settles n exports f s (no_turn n (rooms_of f) s none)

turn_is : (n : ℕ) (s : Whole) (number : ℕ) (c : CallItem) (ok : IsMade s) (done : IsServed n s.front.nlm (step_begun s.core) c) → incoming_at (record_of number c) ≡ Asked (request number c) → call_in (request number c) ≡ Some c
    → step n s (Message 0 (record_of number c)) ≡ turn_of s s.connections (all_sent s (sent_by (told_by number c done.front done.core done.answer) (fronts_with s done.front) done.core))
unfolding connected
turn_is n s number c ok done asked whole =
    let sent = sent_by (told_by number c done.front done.core done.answer) (fronts_with s done.front) done.core in
    step_plain n s (Message 0 (record_of number c)) refl (record_plain s 0 (record_of number c) ok.paused (kind_is s ok))
    ∙ ap (λ (h : Sent). turn_of s s.connections (all_sent s (and_then (settled n s.exports) h))) (heard_is n s number c ok done asked whole)
    ∙ ap (λ (r : Sent). turn_of s s.connections (all_sent s (behind sent.0 r))) (settled_none n s.exports (fronts_with s done.front) done.core done.kept.waiters)

or_none : (o : Option NlmStatus) → or_status o None ≡ o
or_none None = refl
or_none (Some status) = refl

status_is : (number : ℕ) (body : List ℕ) → number < 2 ^ 32 → told_status (map (framed Rpc) (sent_to 0 (reply number Success ++ body))) ≡ results_status (results_at 2 body)
status_is number body small = or_none _ ∙ framed_is (reply number Success ++ body) ∙ replied_is number body small

record IsWell (r : Turn) : Type 0 where
  next : IsMade r.next
  told : IsTold (told_status r.outs)

one_call : (n : ℕ) (s : Whole) (number : ℕ) (c : CallItem) → IsMade s → number < 2 ^ 32 → IsServed n s.front.nlm (step_begun s.core) c → incoming_at (record_of number c) ≡ Asked (request number c) → call_in (request number c) ≡ Some c
    → IsWell (step n s (Message 0 (record_of number c)))
one_call n s number c ok small done asked whole =
    subst (λ (r : Turn). IsWell r) (sym (turn_is n s number c ok done asked whole))
    (record {
      next = record { exports = ok.exports; connections = ok.connections; paused = ok.paused; hosts = done.hosts; core = begun_core done.core done.kept };
      told = subst (λ (o : Option NlmStatus). IsTold o) (sym (status_is number (results (reply_of done.core.names c (Answered done.answer))) small)) (done.told done.core.names);
    })

-- ---- the call that is drawn

drawn_arrives : (number choice : ℕ) (exclusive : Bool) (b c d : ℕ) → number < 2 ^ 32 → incoming_at (record_of number (asked_by choice exclusive (lock_by b c d))) ≡ Asked (request number (asked_by choice exclusive (lock_by b c d)))
unfolding in_program
drawn_arrives number choice exclusive b c d small =
    elim (cases_Bool (choice == 2)) [
      | inl two ↦ rw two (arrives number _ small (omega arith) refl)
      | inr other ↦
          elim (cases_Bool (choice == 3)) [
            | inl three ↦ rw (other, three) (arrives number _ small (omega arith) refl)
            | inr locks ↦ rw (other, locks) (arrives number _ small (omega arith) refl)
          ]
    ]

one_by : (n : ℕ) (s : Whole) (number choice : ℕ) (exclusive : Bool) (b c d : ℕ) → 0 < n → IsMade s → number < 2 ^ 32 → IsWell (step n s (Message 0 (record_of number (asked_by choice exclusive (lock_by b c d)))))
one_by n s number choice exclusive b c d some ok small =
    one_call n s number (asked_by choice exclusive (lock_by b c d)) ok small (call_served n s.front.nlm (step_begun s.core) choice exclusive b c d (begun_core s.core ok.core) (begun_able n s.core some) ok.hosts)
    (drawn_arrives number choice exclusive b c d small) (whole number (asked_by choice exclusive (lock_by b c d)) (call_fits choice exclusive b c d))

one_drawn : (n : ℕ) (s : Whole) (number x : ℕ) → 0 < n → IsMade s → number < 2 ^ 32 → IsWell (step n s (Message 0 (record_of number (call_from x))))
unfolding call_from
one_drawn n s number x some ok small =
    one_by n s number (draw (next x) % 4) (exclusive_by (draw (next x))) (draw (next (next x))) (draw (next (next (next x)))) (draw (fourth x)) some ok small

-- ---- so many calls

abbrev tally : List Entry → ℕ
tally es = granted es + denied es

is_one : (o : Option NlmStatus) → IsTold o → (if is_granted o then 1 else 0) + (if is_denied o then 1 else 0) ≡ 1
is_one o (inl yes_granted) = ap (λ (x : Option NlmStatus). (if is_granted x then 1 else 0) + (if is_denied x then 1 else 0)) yes_granted
is_one o (inr yes_denied) = ap (λ (x : Option NlmStatus). (if is_granted x then 1 else 0) + (if is_denied x then 1 else 0)) yes_denied

counted_one : (e : Entry) (es : List Entry) → IsTold (told_status e.outs) → tally (e ∷ es) ≡ tally es + 1
counted_one e es told =
    let grants : granted (e ∷ es) ≡ (if is_granted (told_status e.outs) then 1 else 0) + granted es = sum_by-cons (λ (d : Entry). if is_granted (told_status d.outs) then 1 else 0) e es in
    let denies : denied (e ∷ es) ≡ (if is_denied (told_status e.outs) then 1 else 0) + denied es = sum_by-cons (λ (d : Entry). if is_denied (told_status d.outs) then 1 else 0) e es in
    omega (arith, grants, denies, is_one (told_status e.outs) told)

all_counted : (s : Whole) (x number count : ℕ) → IsMade s → number + count < 2 ^ 32 → tally (entries_of s (surely (calls_from x number count))) ≡ count
unfolding calls_from
all_counted s x number zero ok small = refl
all_counted s x number (suc more) ok small =
    let well = one_drawn all_stores s number x (omega arith) ok (omega (arith, small)) in
    counted_one (entry all_stores s (Message 0 (record_of number (call_from x)))) (entries_of (step all_stores s (Message 0 (record_of number (call_from x)))).next (surely (calls_from (fourth x) (number + 1) more))) well.told
    ∙ omega (arith, all_counted (step all_stores s (Message 0 (record_of number (call_from x)))).next (fourth x) (number + 1) more well.next (omega (arith, small)))

-- ---- from the start

abbrev first_turn_is : Turn
first_turn_is = turn_of (start_of made_head) (record { number = 0; kind = Rpc } ∷ []) (all_sent (start_of made_head) ([], (start_of made_head).front, step_begun (start_of made_head).core))

opened_is : (n : ℕ) → step n (start_of made_head) (Open Rpc) ≡ first_turn_is
unfolding connected with_connection heard step_begun
opened_is n =
    step_plain n (start_of made_head) (Open Rpc) refl refl
    ∙ ap (λ (r : Sent). turn_of (start_of made_head) (record { number = 0; kind = Rpc } ∷ []) (all_sent (start_of made_head) (behind [] r))) (settled_none n made_head.exports (start_of made_head).front (step_begun (start_of made_head).core) (begun_waiters (start_of made_head).core refl))
  where
    begun_waiters : (s : CoreState) → s.waiters ≡ [] → (step_begun s).waiters ≡ []
    begun_waiters s none = none

begun_made : IsMade first_turn_is.next
begun_made = record {
  exports = refl;
  connections = refl;
  paused = refl;
  hosts = inl refl;
  core = begun_core _ (begun_core _ (record { good = started_good _ _ _; waiters = refl; names = tt; claims = record { each = tt; ends = λ file number. tt }; calm = refl; recorded = inl refl }));
}

-- the entry of the opening, and those of the calls
made_is : (seed count : ℕ) → made_entries seed count ≡ entry all_stores (start_of made_head) (Open Rpc) ∷ entries_of first_turn_is.next (surely (calls_from seed 1 count))
unfolding made_entries
made_is seed count = ap (λ (r : Turn). entry all_stores (start_of made_head) (Open Rpc) ∷ entries_of r.next (surely (calls_from seed 1 count))) (opened_is all_stores)

-- each call that is made is granted or denied
made_counts : (seed count : ℕ) → count ≤ most_made → granted (made_entries seed count) + denied (made_entries seed count) ≡ count
made_counts seed count few =
    let rest = entries_of first_turn_is.next (surely (calls_from seed 1 count)) in
    let first : Entry = entry all_stores (start_of made_head) (Open Rpc) in
    let silent : told_status first.outs ≡ None = ap (λ (r : Turn). told_status r.outs) (opened_is all_stores) in
    let grants : granted (first ∷ rest) ≡ 0 + granted rest = sum_by-cons (λ (d : Entry). if is_granted (told_status d.outs) then 1 else 0) first rest ∙ ap (λ (o : Option NlmStatus). (if is_granted o then 1 else 0) + granted rest) silent in
    let denies : denied (first ∷ rest) ≡ 0 + denied rest = sum_by-cons (λ (d : Entry). if is_denied (told_status d.outs) then 1 else 0) first rest ∙ ap (λ (o : Option NlmStatus). (if is_denied o then 1 else 0) + denied rest) silent in
    ap tally (made_is seed count) ∙ omega (arith, grants, denies, all_counted first_turn_is.next seed 1 count begun_made (omega (arith, few)))

length_calls : (s : Whole) (x number count : ℕ) → length (entries_of s (surely (calls_from x number count))) ≡ count
unfolding calls_from
length_calls s x number zero = refl
length_calls s x number (suc more) = omega (arith, length_calls (step all_stores s (Message 0 (record_of number (call_from x)))).next (fourth x) (number + 1) more)

-- the opening and each call have an entry
made_length : (seed count : ℕ) → length (made_entries seed count) ≡ count + 1
made_length seed count = ap (λ (es : List Entry). length es) (made_is seed count) ∙ omega (arith, length_calls first_turn_is.next seed 1 count)

pub journal_counts : (seed count : ℕ) (journal : Journal) → count ≤ most_made → journal ≡ made_journal seed count → (length journal.entries ≡ count + 1) × (granted journal.entries + denied journal.entries ≡ count)
journal_counts seed count journal few e =
    subst (λ (j : Journal). (length j.entries ≡ count + 1) × (granted j.entries + denied j.entries ≡ count)) (sym e) (made_length seed count, made_counts seed count few)
