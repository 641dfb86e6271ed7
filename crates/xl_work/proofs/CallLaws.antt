-- Laws of the calls that a caller makes.
use Rattle.std.proofs.Common.{◌≡◌, ℕ, ◌+◌, ◌-◌, ◌<◌, ◌≤◌, ◌%◌, ◌==◌, ◌&&◌, nat_lt, if◌then◌else◌, Bool, true, false, List, [], ◌∷◌, ◌++◌, map, length, take, drop, sym, refl, ap, ◌∙◌, subst, inl, inr, arith, Option, Some, None, IfSome, append_assoc, length-append}
use Rattle.std.proofs.lemmas.List.{append-nil, take-append-drop, take-append-le, drop-append-le, take_all, drop_all, map-append}
use Rattle.std.proofs.lemmas.Bool.{cases_Bool}
use Rattle.std.proofs.lemmas.Bool.Decides.{nat_tests}
use Rattle.std.specs.List.{AllByRecursion}
use mathlib.Core.List.{IsPrefix}
use Rattle.xl_base.specs.Lists.{IsIn}
use Rattle.xl_base.proofs.Members.{in_append_left, in_append_right}
use Rattle.xl_base.specs.declared.caller.Asked.{Asked}
use Rattle.xl_base.specs.declared.caller.Asked.TheVariants.{Call, Idle}
use Rattle.xl_base.specs.declared.caller.CallOutcome.{CallOutcome}
use Rattle.xl_base.specs.declared.event.Dest.{Dest}
use Rattle.xl_base.specs.declared.event.Dest.TheVariants.{Conn, Back}
use Rattle.xl_base.specs.declared.event.Event.{Event}
use Rattle.xl_base.specs.declared.event.Event.TheVariants.{Called}
use Rattle.xl_base.specs.declared.event.Out.{Out}
use Rattle.xl_base.specs.declared.journal.Entry.{Entry}
use Rattle.xl_base.specs.Asking.{Calls, Idles}
use Rattle.xl_base.specs.Telling.{Follows}
use Rattle.xl_base.specs.declared.halt.Halt.{Halt}
use Rattle.xl_base.specs.declared.lane_end.LaneEnd.{LaneEnd}
use Rattle.xl_base.specs.declared.lane_end.LaneEnd.TheVariants as lane_end
use Rattle.xl_desk.specs.declared.outs.Due.{Due}
use Rattle.xl_desk.specs.declared.view.View.{View}
use Rattle.xl_desk.specs.Passes.{Goes, MadeNone, IsCalled, IsLooked, IsRefused}
use Rattle.xl_desk.specs.declared.fault.DeskErr.{DeskErr}
use Rattle.xl_desk.specs.declared.fault.DeskErr.TheVariants.{Halted, Stopped}
use Rattle.xl_desk.specs.Due.{is_due, due_of, due_in, or_later}
use Rattle.xl_work.specs.declared.calls.CallerPost.{CallerPost}
use Rattle.xl_work.specs.Calls.{number, is_of_share, share_of, asked_in, Rises, called, is_called, numbers, answer_of, HasAsked, IsLast, Answers, CallerMade, AreMade, IsOnWay, IsGoing, IsCut, AllLow, last_or}

-- ---- the calls of a share, one behind the other

-- the first whose number is above k
abbrev first_above : ℕ → List Out → Option Out
first_above k [] = None
first_above k (o ∷ os) = above (nat_lt k (number o)) o (first_above k os) where
  above : Bool → Out → Option Out → Option Out
  above true o later = Some o
  above false o later = later

above_append : (k : ℕ) (xs ys : List Out) → first_above k (xs ++ ys) ≡ or_later (first_above k xs) (first_above k ys)
above_append k [] ys = refl
above_append k (x ∷ xs) ys = elim (cases_Bool (nat_lt k (number x))) [ inl e ↦ rw e refl | inr e ↦ rw e (above_append k xs ys) ]

above_low : (k : ℕ) (xs ys : List Out) → AllLow k xs → first_above k (xs ++ ys) ≡ first_above k ys
above_low k [] ys low = refl
above_low k (x ∷ xs) ys low = let no : nat_lt k (number x) ≡ false = grind (arith, nat_tests) in rw no (above_low k xs ys low.1)

asked_append : (share parts : ℕ) (xs ys : List Entry) → asked_in share parts (xs ++ ys) ≡ asked_in share parts xs ++ asked_in share parts ys
asked_append share parts [] ys = refl
asked_append share parts (x ∷ xs) ys = ap (λ more. share_of share parts x.outs ++ more) (asked_append share parts xs ys) ∙ sym (append_assoc (share_of share parts x.outs) (asked_in share parts xs) (asked_in share parts ys))

-- an out that is no call of the share, is one but too low, or is the first
one_flat : (k : ℕ) (ours : Bool) (above : Bool) (o : Out) (rest : List Out) (later : Option Out) → nat_lt k (number o) ≡ above → later ≡ first_above k rest → (if above && ours then Some o else later) ≡ first_above k (if ours then o ∷ rest else rest)
one_flat k true true o rest later up same = rw up refl
one_flat k true false o rest later up same = rw up same
one_flat k false true o rest later up same = same
one_flat k false false o rest later up same = same

due_of_flat : (due : Due) (os : List Out) → due_of due os ≡ first_above due.after (share_of due.share due.of os)
due_of_flat due [] = refl
due_of_flat due (o ∷ os) = by_dest o.dest refl (due_of_flat due os) where
  by_dest : (d : Dest) → o.dest ≡ d → due_of due os ≡ first_above due.after (share_of due.share due.of os) → due_of due (o ∷ os) ≡ first_above due.after (share_of due.share due.of (o ∷ os))
  by_dest (Conn other) at same = subst (λ d. (if is_due due d then Some o else due_of due os) ≡ first_above due.after (if is_of_share due.share due.of d then o ∷ share_of due.share due.of os else share_of due.share due.of os)) (sym at) same
  by_dest (Back call) at same = subst (λ d. (if is_due due d then Some o else due_of due os) ≡ first_above due.after (if is_of_share due.share due.of d then o ∷ share_of due.share due.of os else share_of due.share due.of os)) (sym at) (one_flat due.after (call % due.of == due.share) (nat_lt due.after call) o (share_of due.share due.of os) (due_of due os) (ap (nat_lt due.after) (ap Rattle.xl_work.specs.Calls.number_of at)) same)

due_flat : (due : Due) (es : List Entry) → due_in due es ≡ first_above due.after (asked_in due.share due.of es)
due_flat due [] = refl
due_flat due (e ∷ es) =
    ap (λ first. or_later first (due_in due es)) (due_of_flat due e.outs)
    ∙ ap (λ later. or_later (first_above due.after (share_of due.share due.of e.outs)) later) (due_flat due es)
    ∙ sym (above_append due.after (share_of due.share due.of e.outs) (asked_in due.share due.of es))

-- ---- rising numbers

rises_front : (k : ℕ) (xs ys : List Out) → Rises k (xs ++ ys) → Rises k xs
rises_front k [] ys rises = tt
rises_front k (x ∷ xs) ys rises = (rises.0, rises_front (number x) xs ys rises.1)

rises_behind : (k : ℕ) (xs : List Out) (y : Out) (ys : List Out) → Rises k (xs ++ y ∷ ys) → last_or k (map number xs) < number y
rises_behind k [] y ys rises = rises.0
rises_behind k (x ∷ xs) y ys rises = rises_behind (number x) xs y ys rises.1

last_snoc : (k : ℕ) (ns : List ℕ) (n : ℕ) → last_or k (ns ++ n ∷ []) ≡ n
last_snoc k [] n = refl
last_snoc k (x ∷ ns) n = last_snoc x ns n

low_still : (k n : ℕ) (os : List Out) → k ≤ n → AllLow k os → AllLow n os
low_still k n [] up low = tt
low_still k n (o ∷ os) up low = (omega (arith, low.0), low_still k n os up low.1)

low_snoc : (n : ℕ) (os : List Out) (o : Out) → AllLow n os → number o ≤ n → AllLow n (os ++ o ∷ [])
low_snoc n [] o low here = (here, tt)
low_snoc n (x ∷ xs) o low here = (low.0, low_snoc n xs o low.1 here)

-- ---- on the way

-- the calls of the share before a place and behind it
split_at : (share parts : ℕ) (k : ℕ) (log : List Entry) → asked_in share parts log ≡ asked_in share parts (take k log) ++ asked_in share parts (drop k log)
split_at share parts k log = ap (asked_in share parts) (sym (take-append-drop k log)) ∙ asked_append share parts (take k log) (drop k log)

-- the journal grows
pub way_grows : (post : CallerPost) (first from after : ℕ) (log more : List Entry) (made : List ℕ) → IsOnWay post first from after log made → IsOnWay post first from after (log ++ more) made
way_grows post first from after log more made way =
    let low = way.low in
    let high = way.high in
    let k : ℕ = from - first in
    let within : k ≤ length log = omega arith in
    record {
      low = low;
      high = omega (arith, length-append log more);
      last = way.last;
      way = λ rises.
          let before = way.way (rises_front 0 (asked_in post.share post.of log) (asked_in post.share post.of more) (subst (Rises 0) (asked_append post.share post.of log more) rises)) in (
            before.0,
            before.1 ++ asked_in post.share post.of more,
            ap (asked_in post.share post.of) (drop-append-le k log more within) ∙ asked_append post.share post.of (drop k log) more ∙ ap (λ front. front ++ asked_in post.share post.of more) before.2 ∙ append_assoc before.0 before.1 (asked_in post.share post.of more),
            before.3 ∙ ap (λ front. map number (asked_in post.share post.of front ++ before.0)) (sym (take-append-le k log more within)),
            before.4,
          );
    }

-- what a search finds is the first that is due
next_due : (k : ℕ) (done due : List Out) (y : Out) → AllLow k done → (m : List Out) → Rises 0 (m ++ (done ++ due)) → k ≡ last_or 0 (map number (m ++ done)) → first_above k (done ++ due) ≡ Some y → (rest : List Out) × (due ≡ y ∷ rest)
next_due k done [] y low m all last found = absurd (cc (found, above_low k done [] low))
next_due k done (z ∷ zs) y low m all last found =
    let up : last_or 0 (map number (m ++ done)) < number z = rises_behind 0 (m ++ done) z zs (subst (Rises 0) (sym (append_assoc m done (z ∷ zs))) all) in
    let above : nat_lt k (number z) ≡ true = grind (arith, nat_tests) in
    let first : first_above k (done ++ z ∷ zs) ≡ Some z = above_low k done (z ∷ zs) low ∙ (rw above refl) in
    (zs, cc (first, found))

none_due : (k : ℕ) (done due : List Out) → AllLow k done → (m : List Out) → Rises 0 (m ++ (done ++ due)) → k ≡ last_or 0 (map number (m ++ done)) → first_above k (done ++ due) ≡ None → due ≡ []
none_due k done [] low m all last found = refl
none_due k done (z ∷ zs) low m all last found =
    let up : last_or 0 (map number (m ++ done)) < number z = rises_behind 0 (m ++ done) z zs (subst (Rises 0) (sym (append_assoc m done (z ∷ zs))) all) in
    let above : nat_lt k (number z) ≡ true = grind (arith, nat_tests) in
    let first : first_above k (done ++ z ∷ zs) ≡ Some z = above_low k done (z ∷ zs) low ∙ (rw above refl) in
    absurd (cc (first, found))

-- the parts in which the numbers rise
parts_rise : (share parts k : ℕ) (log : List Entry) (done due : List Out) → asked_in share parts (drop k log) ≡ done ++ due → Rises 0 (asked_in share parts log) → Rises 0 (asked_in share parts (take k log) ++ (done ++ due))
parts_rise share parts k log done due is rises = subst (Rises 0) (split_at share parts k log ∙ ap (λ behind. asked_in share parts (take k log) ++ behind) is) rises

abbrev due_by : CallerPost → ℕ → Due
due_by post after = record { after = after; share = post.share; of = post.of }

-- the call that is due is made
pub way_called : (post : CallerPost) (first from after : ℕ) (log : List Entry) (made : List ℕ) (y : Out) → IsOnWay post first from after log made → due_in (due_by post after) (drop (from - first) log) ≡ Some y → IsOnWay post first from (number y) log (made ++ number y ∷ [])
way_called post first from after log made y way found = record {
  low = way.low;
  high = way.high;
  last = sym (last_snoc 0 made (number y));
  way = λ rises.
      let before = way.way rises in
      let k : ℕ = from - first in
      let front : List Out = asked_in post.share post.of (take k log) in
      let all = parts_rise post.share post.of k log before.0 before.1 before.2 rises in
      let last : after ≡ last_or 0 (map number (front ++ before.0)) = way.last ∙ ap (last_or 0) before.3 in
      let flat : first_above after (before.0 ++ before.1) ≡ Some y = ap (first_above after) (sym before.2) ∙ sym (due_flat (due_by post after) (drop k log)) ∙ found in
      let next = next_due after before.0 before.1 y before.4 front all last flat in
      let up : last_or 0 (map number (front ++ before.0)) < number y = rises_behind 0 (front ++ before.0) y next.0 (subst (Rises 0) (ap (λ due. front ++ (before.0 ++ due)) next.1 ∙ sym (append_assoc front before.0 (y ∷ next.0))) all) in (
        before.0 ++ y ∷ [],
        next.0,
        before.2 ∙ ap (λ due. before.0 ++ due) next.1 ∙ sym (append_assoc before.0 (y ∷ []) next.0),
        ap (λ ns. ns ++ number y ∷ []) before.3 ∙ sym (map-append number (front ++ before.0) (y ∷ [])) ∙ ap (map number) (append_assoc front before.0 (y ∷ [])),
        low_snoc (number y) before.0 y (low_still after (number y) before.0 (omega arith) before.4) (omega arith),
      );
}

-- no call is due: all of the share are made
pub way_idle : (post : CallerPost) (first from after : ℕ) (log : List Entry) (made : List ℕ) → IsOnWay post first from after log made → due_in (due_by post after) (drop (from - first) log) ≡ None → Rises 0 (asked_in post.share post.of log) → made ≡ map number (asked_in post.share post.of log)
way_idle post first from after log made way found rises =
    let before = way.way rises in
    let k : ℕ = from - first in
    let front : List Out = asked_in post.share post.of (take k log) in
    let all = parts_rise post.share post.of k log before.0 before.1 before.2 rises in
    let last : after ≡ last_or 0 (map number (front ++ before.0)) = way.last ∙ ap (last_or 0) before.3 in
    let flat : first_above after (before.0 ++ before.1) ≡ None = ap (first_above after) (sym before.2) ∙ sym (due_flat (due_by post after) (drop k log)) ∙ found in
    let none_left : before.1 ≡ [] = none_due after before.0 before.1 before.4 front all last flat in
    let behind : asked_in post.share post.of (drop k log) ≡ before.0 = before.2 ∙ ap (λ due. before.0 ++ due) none_left ∙ append-nil before.0 in
    before.3 ∙ ap (λ rest. map number (front ++ rest)) (sym behind) ∙ ap (map number) (sym (split_at post.share post.of k log))

pub way_past : (post : CallerPost) (first from after : ℕ) (log : List Entry) (made : List ℕ) → IsOnWay post first from after log made → due_in (due_by post after) (drop (from - first) log) ≡ None → IsOnWay post first (first + length log) after log made
way_past post first from after log made way found =
    let past : (first + length log) - first ≡ length log = omega arith in record {
      low = omega arith;
      high = omega arith;
      last = way.last;
      way = λ rises. (
        [],
        [],
        ap (asked_in post.share post.of) (drop_all ((first + length log) - first) log (omega arith)),
        way_idle post first from after log made way found rises ∙ ap (λ front. map number (asked_in post.share post.of front)) (sym (take_all ((first + length log) - first) log (omega arith))) ∙ ap (map number) (sym (append-nil (asked_in post.share post.of (take ((first + length log) - first) log)))),
        tt,
      );
    }

pub way_begins : (post : CallerPost) (first : ℕ) (log : List Entry) → IsOnWay post first first 0 log []
way_begins post first log =
    let none : first - first ≡ 0 = omega arith in record {
      low = omega arith;
      high = omega arith;
      last = refl;
      way = λ rises. ([], asked_in post.share post.of (drop (first - first) log), refl, ap (λ k. map number (asked_in post.share post.of (take k log) ++ [])) (sym none), tt);
    }

-- the calls made are the first of the share
pub way_in_order : (post : CallerPost) (first from after : ℕ) (log : List Entry) (made : List ℕ) → IsOnWay post first from after log made → Rises 0 (asked_in post.share post.of log) → IsPrefix made (map number (asked_in post.share post.of log))
way_in_order post first from after log made way rises =
    let before = way.way rises in
    let k : ℕ = from - first in
    let front : List Out = asked_in post.share post.of (take k log) in (
      map number before.1,
      ap (λ ns. ns ++ map number before.1) before.3 ∙ sym (map-append number (front ++ before.0) before.1) ∙ ap (map number) (append_assoc front before.0 before.1 ∙ ap (λ behind. front ++ behind) (sym before.2) ∙ sym (split_at post.share post.of k log)),
    )

-- ---- what is asked

in_drop : {A : Type 0} (x : A) (k : ℕ) (xs : List A) → IsIn x (drop k xs) → IsIn x xs
in_drop x k xs at = subst (IsIn x) (take-append-drop k xs) (in_append_right x (take k xs) (drop k xs) at)

-- the journal asks for a call that is due
due_out_asked : (due : Due) (os : List Out) (y : Out) → due_of due os ≡ Some y → IsIn y os × (y.dest ≡ Back (number y))
due_out_asked due [] y found = absurd (cc found)
due_out_asked due (o ∷ os) y found = elim (cases_Bool (is_due due o.dest)) [
  | inl holds ↦ (let here : o ≡ y = cc (found, ap (λ b. if b then Some o else due_of due os) holds) in (inl here, subst (λ z. z.dest ≡ Back (number z)) here (is_call o.dest holds)))
  | inr fails ↦ (let later = due_out_asked due os y (sym (ap (λ b. if b then Some o else due_of due os) fails) ∙ found) in (inr later.0, later.1))
] where
  is_call : (d : Dest) → is_due due d ≡ true → d ≡ Back (Rattle.xl_work.specs.Calls.number_of d)
  is_call (Conn other) holds = absurd (cc holds)
  is_call (Back call) holds = refl

due_asked : (due : Due) (es : List Entry) (y : Out) → due_in due es ≡ Some y → (e : Entry) × IsIn e es × IsIn y e.outs × (y.dest ≡ Back (number y))
due_asked due [] y found = absurd (cc found)
due_asked due (e ∷ es) y found = by_first (due_of due e.outs) refl (λ later. due_asked due es y later) where
  by_first : (first : Option Out) → due_of due e.outs ≡ first → (due_in due es ≡ Some y → (d : Entry) × IsIn d es × IsIn y d.outs × (y.dest ≡ Back (number y))) → (d : Entry) × IsIn d (e ∷ es) × IsIn y d.outs × (y.dest ≡ Back (number y))
  by_first None is again = let later = again (sym (ap (λ f. or_later f (due_in due es)) is) ∙ found) in (later.0, inr later.1, later.2, later.3)
  by_first (Some call) is again = let here : due_of due e.outs ≡ Some y = is ∙ sym (ap (λ f. or_later f (due_in due es)) is) ∙ found in let at = due_out_asked due e.outs y here in (e, inl refl, at.0, at.1)

pub has_asked : (due : Due) (k : ℕ) (log : List Entry) (y : Out) → due_in due (drop k log) ≡ Some y → HasAsked log (number y) y.to y.bytes
has_asked due k log y found = let at = due_asked due (drop k log) y found in (at.0, y, in_drop at.0 k log at.1, at.2, at.3, refl, refl)

pub asked_still : (log more : List Entry) (call : ℕ) (to bytes : List ℕ) → HasAsked log call to bytes → HasAsked (log ++ more) call to bytes
asked_still log more call to bytes asked = (asked.0, asked.1, in_append_left asked.0 log more asked.2, asked.3, asked.4, asked.5, asked.6)

-- ---- what a caller was asked

pub answers_grow : (post : CallerPost) (first start : ℕ) (log more : List Entry) (made : List ℕ) (asked : List Asked) (calls : List (ℕ × Event)) → Answers post first start log made asked calls → Answers post first start (log ++ more) made asked calls
answers_grow post first start log more made [] calls all = all
answers_grow post first start log more made (Idle place ∷ more_asked) calls all =
    let low = all.1 in
    let high = all.2 in
    let within : place - first ≤ length log = omega arith in (
      all.0,
      all.1,
      omega (arith, length-append log more),
      (λ rises. all.3 (rises_front 0 (asked_in post.share post.of log) (asked_in post.share post.of more) (subst (Rises 0) (asked_append post.share post.of log more) rises)) ∙ ap (λ front. map number (asked_in post.share post.of front)) (sym (take-append-le (place - first) log more within))),
      answers_grow post first start log more made more_asked calls all.4,
    )
answers_grow post first start log more made (Call to bytes outcome ∷ more_asked) [] all = all
answers_grow post first start log more made (Call to bytes outcome ∷ more_asked) (c ∷ cs) all = (all.0, asked_still log more (called c.1) to bytes all.1, answers_grow post first start log more (made ++ called c.1 ∷ []) more_asked cs all.2)

pub answers_idle : (post : CallerPost) (first start : ℕ) (log : List Entry) (made : List ℕ) (asked : List Asked) (calls : List (ℕ × Event)) (place : ℕ) → Answers post first start log made asked calls → start ≤ place → first ≤ place → place ≤ first + length log
    → (Rises 0 (asked_in post.share post.of log) → made ++ numbers calls ≡ map number (asked_in post.share post.of (take (place - first) log))) → Answers post first start log made (asked ++ Idle place ∷ []) calls
answers_idle post first start log made [] calls place all from low high way = (from, low, high, (λ rises. sym (append-nil made) ∙ ap (λ cs. made ++ numbers cs) (sym all) ∙ way rises), all)
answers_idle post first start log made (Idle other ∷ more_asked) calls place all from low high way = (all.0, all.1, all.2, all.3, answers_idle post first start log made more_asked calls place all.4 from low high way)
answers_idle post first start log made (Call to bytes outcome ∷ more_asked) [] place all from low high way = all
answers_idle post first start log made (Call to bytes outcome ∷ more_asked) (c ∷ cs) place all from low high way = (all.0, all.1, answers_idle post first start log (made ++ called c.1 ∷ []) more_asked cs place all.2 from low high (λ rises. append_assoc made (called c.1 ∷ []) (numbers cs) ∙ way rises))

pub answers_call : (post : CallerPost) (first start : ℕ) (log : List Entry) (made : List ℕ) (asked : List Asked) (calls : List (ℕ × Event)) (to bytes : List ℕ) (outcome : CallOutcome) (c : ℕ × Event) → Answers post first start log made asked calls → c.1 ≡ Called (called c.1) (answer_of outcome) → HasAsked log (called c.1) to bytes
    → Answers post first start log made (asked ++ Call to bytes outcome ∷ []) (calls ++ c ∷ [])
answers_call post first start log made [] calls to bytes outcome c all is has = subst (λ cs. Answers post first start log made (Call to bytes outcome ∷ []) (cs ++ c ∷ [])) (sym all) (is, has, refl)
answers_call post first start log made (Idle other ∷ more_asked) calls to bytes outcome c all is has = (all.0, all.1, all.2, all.3, answers_call post first start log made more_asked calls to bytes outcome c all.4 is has)
answers_call post first start log made (Call to' bytes' outcome' ∷ more_asked) [] to bytes outcome c all is has = absurd all
answers_call post first start log made (Call to' bytes' outcome' ∷ more_asked) (d ∷ cs) to bytes outcome c all is has = (all.0, all.1, answers_call post first start log (made ++ called d.1 ∷ []) more_asked cs to bytes outcome c all.2 is has)

pub numbers_append : (xs ys : List (ℕ × Event)) → numbers (xs ++ ys) ≡ numbers xs ++ numbers ys
numbers_append xs ys = map-append (λ (c : ℕ × Event). called c.1) xs ys

-- ---- a caller goes on

pub follows_then : {A : Type 0} (a b c : Option A) (p q r : A → A → Type 0) → Follows a b p → Follows b c q → ((x y z : A) → p x y → q y z → r x z) → Follows a c r
follows_then a b None p q r one two both = tt
follows_then a None (Some z) p q r one two both = absurd two
follows_then None (Some y) (Some z) p q r one two both = absurd one
follows_then (Some x) (Some y) (Some z) p q r one two both = both x y z one two

pub follows_as : {A : Type 0} (a b : Option A) (p r : A → A → Type 0) → Follows a b p → ((x y : A) → p x y → r x y) → Follows a b r
follows_as a None p r one as_r = tt
follows_as None (Some y) p r one as_r = absurd one
follows_as (Some x) (Some y) p r one as_r = as_r x y one

pub longer : {A : Type 0} (xs ys : List A) → IsPrefix xs ys → length xs ≤ length ys
longer xs ys p = let sum = length-append xs p.0 in let same : length (xs ++ p.0) ≡ length ys = ap length p.1 in omega arith

both_fronts : {A : Type 0} (xs ys zs : List A) → IsPrefix xs ys → IsPrefix ys zs → IsPrefix xs zs
both_fronts xs ys zs p q = (p.0 ++ q.0, sym (append_assoc xs p.0 q.0) ∙ ap (λ front. front ++ q.0) p.1 ∙ q.1)

halt_stays : (a b c : Option Halt) → IfSome a (λ reason. b ≡ Some reason) → IfSome b (λ reason. c ≡ Some reason) → IfSome a (λ reason. c ≡ Some reason)
halt_stays None b c one two = tt
halt_stays (Some reason) b c one two = subst (λ x. IfSome x (λ reason. c ≡ Some reason)) one two

whole_then : (a b : Option Halt) (us vs ws : List Entry) → IfSome a (λ reason. b ≡ Some reason) → IfSome a (λ _. vs ≡ us) → IfSome b (λ _. ws ≡ vs) → IfSome a (λ _. ws ≡ us)
whole_then None b us vs ws halt one two = tt
whole_then (Some reason) b us vs ws halt one two = subst (λ x. IfSome x (λ _. ws ≡ vs)) halt two ∙ one

pub goes_then : {O : Type 0} (u v w : View O) → Goes u v → Goes v w → Goes u w
goes_then u v w one two = record {
  seen = both_fronts u.seen v.seen w.seen one.seen two.seen;
  origin = two.origin ∙ one.origin;
  first = two.first ∙ one.first;
  start = two.start ∙ one.start;
  halt = halt_stays u.halt v.halt w.halt one.halt two.halt;
  whole = whole_then u.halt v.halt u.seen v.seen w.seen one.halt one.whole two.whole;
}

pub all_more : {A : Type 0} (P : A → Type 0) (xs : List A) (x : A) → AllByRecursion P xs → P x → AllByRecursion P (xs ++ x ∷ [])
all_more P [] x all here = (here, tt)
all_more P (y ∷ ys) x all here = (all.0, all_more P ys x all.1 here)

module _ {O : Type 0} (post : CallerPost) (told : Option (List Asked)) (before : View O) where
  -- the journal is longer, and nothing was called
  grown : (told' : Option (List Asked)) (v w : View O) (from last : ℕ) → IsGoing post told before told' v from last → Goes v w → w.mine ≡ v.mine → w.made ≡ v.made → w.shares ≡ v.shares → IsGoing post told before told' w from last
  grown told' v w from last g goes mine made shares =
      let more = goes.seen.0 in
      let is : v.seen ++ more ≡ w.seen = goes.seen.1 in record {
        goes = goes_then before v w g.goes goes;
        shares = shares ∙ g.shares;
        calls = g.calls;
        mine = mine ∙ g.mine;
        ends = g.ends;
        made = made ∙ g.made;
        way = subst (λ (z : ℕ × List Entry). IsOnWay post z.0 from last z.1 (numbers g.calls)) (λ i. (sym goes.first i, is i)) (way_grows post v.first from last v.seen more (numbers g.calls) g.way);
        asked = follows_as told told' _ _ g.asked (λ old new a. (a.0, a.1, subst (λ (z : ℕ × List Entry). Answers post z.0 (before.first + length before.seen) z.1 [] a.0 g.calls) (λ i. (sym goes.first i, is i)) (answers_grow post v.first (before.first + length before.seen) v.seen more [] a.0 g.calls a.2)));
      }

  pub going_looked : (told' : Option (List Asked)) (v w : View O) (from last : ℕ) → IsGoing post told before told' v from last → IsLooked v w → IsGoing post told before told' w from last
  going_looked told' v w from last g looked = grown told' v w from last g looked.goes looked.none.mine looked.none.made looked.none.shares

  pub going_idle : (told' told2 : Option (List Asked)) (v : View O) (from last end : ℕ) → IsGoing post told before told' v from last → due_in (due_by post last) (drop (from - v.first) v.seen) ≡ None → end ≡ v.first + length v.seen → Follows told' told2 (Idles end) → IsGoing post told before told2 v end last
  going_idle told' told2 v from last end g found ends idles =
      let way = way_past post v.first from last v.seen (numbers g.calls) g.way found in
      let long = longer before.seen v.seen g.goes.seen in
      let base = g.goes.first in record {
        goes = g.goes;
        shares = g.shares;
        calls = g.calls;
        mine = g.mine;
        ends = g.ends;
        made = g.made;
        way = subst (λ place. IsOnWay post v.first place last v.seen (numbers g.calls)) (sym ends) way;
        asked = follows_then told told' told2 _ _ _ g.asked idles (λ x y z a b. (
          a.0 ++ Idle end ∷ [],
          b ∙ ap (λ front. front ++ Idle end ∷ []) a.1 ∙ append_assoc x a.0 (Idle end ∷ []),
          answers_idle post v.first (before.first + length before.seen) v.seen [] a.0 g.calls end a.2 (omega arith) (omega arith) (omega arith)
              (λ rises. way_idle post v.first from last v.seen (numbers g.calls) g.way found rises ∙ ap (λ front. map number (asked_in post.share post.of front)) (sym (take_all (end - v.first) v.seen (omega arith)))),
        ));
      }

  pub going_called : (told' told2 : Option (List Asked)) (v w : View O) (from last place : ℕ) (y : Out) (outcome : CallOutcome) → IsGoing post told before told' v from last → due_in (due_by post last) (drop (from - v.first) v.seen) ≡ Some y → Follows told' told2 (Calls y.to y.bytes outcome) → IsCalled v w place (Called (number y) (answer_of outcome))
      → IsGoing post told before told2 w from (number y)
  going_called told' told2 v w from last place y outcome g found tells did =
      let at = did.mine.0 in
      let c : ℕ × Event = (at, Called (number y) (answer_of outcome)) in
      let more = did.goes.seen.0 in
      let is : v.seen ++ more ≡ w.seen = did.goes.seen.1 in
      let calls : List (ℕ × Event) = g.calls ++ c ∷ [] in
      let way = way_grows post v.first from (number y) v.seen more (numbers g.calls ++ number y ∷ []) (way_called post v.first from last v.seen (numbers g.calls) y g.way found) in record {
        goes = goes_then before v w g.goes did.goes;
        shares = did.shares ∙ g.shares;
        calls = calls;
        ends = all_more (λ (d : ℕ × Event). is_called d.1 ≡ true) g.calls c g.ends refl;
        mine = did.mine.2 ∙ ap (λ front. front ++ c ∷ []) g.mine ∙ append_assoc before.mine g.calls (c ∷ []);
        made = (let one = did.made in let all = g.made in omega (arith, length-append g.calls (c ∷ [])));
        way = subst (λ (z : ℕ × List Entry × List ℕ). IsOnWay post z.0 from (number y) z.1 z.2) (λ i. (sym did.goes.first i, is i, sym (numbers_append g.calls (c ∷ [])) i)) way;
        asked = follows_then told told' told2 _ _ _ g.asked tells (λ x y' z a b. (
          a.0 ++ Call y.to y.bytes outcome ∷ [],
          b ∙ ap (λ front. front ++ Call y.to y.bytes outcome ∷ []) a.1 ∙ append_assoc x a.0 (Call y.to y.bytes outcome ∷ []),
          subst (λ (z : ℕ × List Entry). Answers post z.0 (before.first + length before.seen) z.1 [] (a.0 ++ Call y.to y.bytes outcome ∷ []) calls) (λ i. (sym did.goes.first i, is i))
              (answers_grow post v.first (before.first + length before.seen) v.seen more [] (a.0 ++ Call y.to y.bytes outcome ∷ []) calls
              (answers_call post v.first (before.first + length before.seen) v.seen [] a.0 g.calls y.to y.bytes outcome c a.2 refl (has_asked (due_by post last) (from - v.first) v.seen y found))),
        ));
      }

  -- all is done
  pub going_done : (told' : Option (List Asked)) (v : View O) (from last : ℕ) → IsGoing post told before told' v from last → AreMade post told before told' v
  going_done told' v from last g = record {
    goes = g.goes;
    shares = g.shares;
    calls = g.calls;
    mine = g.mine;
    made = g.made;
    caller = record {
      ends = g.ends;
      in_order = way_in_order post v.first from last v.seen (numbers g.calls) g.way;
      asked = follows_as told told' _ _ g.asked (λ old new a. (a.0, [], a.1 ∙ sym (append-nil (old ++ a.0)), tt, a.2));
    };
  }

  -- a last call was made, and not entered
  pub going_left : (told' told2 : Option (List Asked)) (v w : View O) (from last : ℕ) (y : Out) (outcome : CallOutcome) → IsGoing post told before told' v from last → due_in (due_by post last) (drop (from - v.first) v.seen) ≡ Some y → Follows told' told2 (Calls y.to y.bytes outcome) → Goes v w → MadeNone v w → AreMade post told before told2 w
  going_left told' told2 v w from last y outcome g found tells goes none_more =
      let h = grown told' v w from last g goes none_more.mine none_more.made none_more.shares in
      let has = has_asked (due_by post last) (from - v.first) v.seen y found in record {
        goes = h.goes;
        shares = h.shares;
        calls = h.calls;
        mine = h.mine;
        made = h.made;
        caller = record {
          ends = h.ends;
          in_order = way_in_order post w.first from last w.seen (numbers h.calls) h.way;
          asked = follows_then told told' told2 _ _ _ h.asked tells (λ x y' z a b. (a.0, Call y.to y.bytes outcome ∷ [], b ∙ ap (λ front. front ++ Call y.to y.bytes outcome ∷ []) a.1, (number y, subst (λ log. HasAsked log (number y) y.to y.bytes) goes.seen.1 (asked_still v.seen goes.seen.0 (number y) y.to y.bytes has)), a.2));
        };
      }

pub going_begins : {O : Type 0} (post : CallerPost) (told : Option (List Asked)) (v w : View O) (first : ℕ) → IsLooked v w → first ≡ w.first → IsGoing post told v told w first 0
going_begins post told v w first looked is = record {
  goes = looked.goes;
  shares = looked.none.shares;
  calls = [];
  mine = looked.none.mine ∙ sym (append-nil v.mine);
  ends = tt;
  made = omega (arith, looked.none.made);
  way = subst (λ place. IsOnWay post w.first place 0 w.seen []) (sym is) (way_begins post w.first w.seen);
  asked = nothing_asked told;
}
  where
    nothing_asked : (told : Option (List Asked)) → Follows told told (λ old new. (asked : List Asked) × (new ≡ old ++ asked) × Answers post w.first (v.first + length v.seen) w.seen [] asked [])
    nothing_asked None = tt
    nothing_asked (Some list) = ([], sym (append-nil list), refl)

pub goes_self : {O : Type 0} (v : View O) → Goes v v
goes_self v = record { seen = ([], append-nil v.seen); origin = refl; first = refl; start = refl; halt = self v.halt; whole = same v.halt }
  where
    self : (x : Option Halt) → IfSome x (λ reason. x ≡ Some reason)
    self None = tt
    self (Some reason) = refl

    same : (x : Option Halt) → IfSome x (λ _. v.seen ≡ v.seen)
    same None = tt
    same (Some reason) = refl

pub none_made : {O : Type 0} (v : View O) → MadeNone v v
none_made v = record { mine = refl; made = refl; shares = refl }

-- a call that was refused is none
pub refused_none : {O : Type 0} (may_halt : List Entry → Halt → Type 0) (v w : View O) (e : DeskErr) → IsRefused may_halt v w e → Goes v w × MadeNone v w
refused_none may_halt v w (Halted reason count) refused = (refused.goes, refused.none)
refused_none may_halt v w (Stopped reason count) refused = (refused.goes, refused.none)

-- what was called is what was found
pub tells_call : (told told' : Option (List Asked)) (y : Out) (to bytes : List ℕ) (outcome : CallOutcome) → to ≡ y.to → bytes ≡ y.bytes → Follows told told' (Calls to bytes outcome) → Follows told told' (Calls y.to y.bytes outcome)
tells_call told told' y to bytes outcome one two tells = subst (λ (z : List ℕ × List ℕ). Follows told told' (Calls z.0 z.1 outcome)) (λ i. (one i, two i)) tells

-- ---- the journal grows

last_still : (log more : List Entry) (last : List Asked) → IsLast log last → IsLast (log ++ more) last
last_still log more [] is = tt
last_still log more (Call to bytes outcome ∷ []) is = (is.0, asked_still log more is.0 to bytes is.1)
last_still log more (Call to bytes outcome ∷ x ∷ xs) is = absurd is
last_still log more (Idle place ∷ xs) is = absurd is

pub caller_grows : (post : CallerPost) (start first : ℕ) (log more : List Entry) (told told' : Option (List Asked)) (calls : List (ℕ × Event)) → CallerMade post start first log told told' calls → CallerMade post start first (log ++ more) told told' calls
caller_grows post start first log more told told' calls made =
    let share : ℕ = post.share in
    let parts : ℕ = post.of in
    let both : asked_in share parts (log ++ more) ≡ asked_in share parts log ++ asked_in share parts more = asked_append share parts log more in record {
      ends = made.ends;
      in_order = λ rises.
          let front = made.in_order (rises_front 0 (asked_in share parts log) (asked_in share parts more) (subst (Rises 0) both rises)) in
          (front.0 ++ map number (asked_in share parts more), sym (append_assoc (numbers calls) front.0 (map number (asked_in share parts more))) ∙ ap (λ xs. xs ++ map number (asked_in share parts more)) front.1 ∙ sym (map-append number (asked_in share parts log) (asked_in share parts more)) ∙ ap (map number) (sym both));
      asked = follows_as told told' _ _ made.asked (λ old new a. (a.0, a.1, a.2, last_still log more a.1 a.3, answers_grow post first start log more [] a.0 calls a.4));
    }

-- what is cut off hasn't done all its turns
pub cut_early : {O : Type 0} (may_halt : List Entry → Halt → Type 0) (v : View O) (end : LaneEnd) (n : ℕ) → IsCut may_halt v end → end ≡ lane_end.Turns n → ⊥
cut_early may_halt v (lane_end.Turns m) n is same = is
cut_early may_halt v (lane_end.Stopped reason count) n is same = absurd (cc same)
cut_early may_halt v lane_end.NoMemory n is same = absurd (cc same)
cut_early may_halt v lane_end.End n is same = absurd (cc same)
cut_early may_halt v (lane_end.Failed count) n is same = absurd (cc same)
