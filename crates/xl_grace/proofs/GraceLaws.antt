-- Who may reclaim, and when that ends, from a start on.
use Rattle.std.proofs.Common.{◌≡◌, ℕ, ◌+◌, ◌-◌, ◌^◌, ◌<◌, min, Bool, true, false, not, ◌&&◌, ◌||◌, if◌then◌else◌, List, [], ◌∷◌, ◌++◌, length, get_or, drop, Option, Some, None, refl, sym, ap, ap₂, subst, ◌∙◌, arith, inl, inr}
use Rattle.std.specs.Prelude.{is_some, nat_le}
use Rattle.std.specs.List.{filter, list_any}
use Rattle.std.proofs.lemmas.Bool.{cases_Bool, true≢false, or_parts, or_from}
use Rattle.std.proofs.lemmas.Bool.Decides.{nat_tests}
use Rattle.std.proofs.lemmas.List.{drop_more}
use Rattle.xl_base.specs.declared.event.Moment.{Moment}
use Rattle.xl_base.specs.declared.stable.Recorded.{Recorded}
use Rattle.xl_base.specs.declared.stable.Mark.{Mark}
use Rattle.xl_base.specs.Stable.{Stable, same_name, agree, is_recorded, is_recordable, AreRecordable}
use Rattle.xl_base.proofs.RecordFileLaws.{apart}
use Rattle.xl_base.proofs.StableLaws.{like_left, like_right}
use Rattle.xl_grace.specs.declared.reclaimant.Reclaimant.{Reclaimant}
use Rattle.xl_grace.specs.declared.grace.Admission.TheVariants.{Enters, Grace, NoGrace, NotRecorded}
use Rattle.xl_grace.specs.Grace.{is_of, newly, some_of, is_known, has_reclaimed, noted, others, Running, has_names, begun, admission, is_over, ended, is_back, Turn, Reclaims, Expires, Reads, after, is_reclaim, is_expiry, is_reading_from, end_of}

-- ---- equal names

-- one that has reclaimed has so under each mark
pub like_back : (a b : Recorded) (grace : Option Running) → same_name a b ≡ true → is_back a grace ≡ is_back b grace
like_back a b None e = refl
like_back a b (Some g) e = by g.reclaimants where
  by : (ones : List Reclaimant) → has_reclaimed a ones ≡ has_reclaimed b ones
  by [] = refl
  by (one ∷ ones) = ap₂ (λ (x y : Bool). (one.reclaimed && x) || y) (like_right one.name a b e) (by ones)

-- ---- the names

and_true : (a : Bool) → (a && true) ≡ a
and_true true = refl
and_true false = refl

some_begin : (p : Option Mark → Bool) (name : Recorded) (names : List Recorded) → some_of p name (newly names) ≡ list_any (λ held. same_name held name && p held.mark) names
some_begin p name [] = refl
some_begin p name (first ∷ names) = ap (λ b. (same_name first name && p first.mark) || b) (some_begin p name names)

none_back : (name : Recorded) (names : List Recorded) → has_reclaimed name (newly names) ≡ false
none_back name [] = refl
none_back name (first ∷ names) = none_back name names

some_noted : (p : Option Mark → Bool) (name other : Recorded) (ones : List Reclaimant) → some_of p name (noted other ones) ≡ some_of p name ones
some_noted p name other [] = refl
some_noted p name other (one ∷ ones) =
    elim (cases_Bool (is_of other one)) [
      | inl here ↦ rw here refl
      | inr other_one ↦ rw other_one (ap (λ b. (is_of name one && p one.name.mark) || b) (some_noted p name other ones))
    ]

-- who is another than the one who goes stays
kept_one : (name other : Recorded) (one : Reclaimant) → is_of other one ≡ true → is_of name one ≡ same_name other name
kept_one name other one here = like_left one.name other name here

-- one who is not the other
differs : (name other : Recorded) (one : Reclaimant) → is_of other one ≡ false → same_name other name ≡ true → is_of name one ≡ false
differs name other one apart same = sym (like_right one.name other name same) ∙ apart

some_others : (p : Option Mark → Bool) (name other : Recorded) (ones : List Reclaimant) → some_of p name (others other ones) ≡ (some_of p name ones && not (same_name other name))
some_others p name other [] = refl
some_others p name other (one ∷ ones) =
    elim (cases_Bool (is_of other one)) [
      | inl here ↦ rw (here, kept_one name other one here, some_others p name other ones) (gone_one (same_name other name) (p one.name.mark) (some_of p name ones))
      | inr other_one ↦ rw (other_one, some_others p name other ones) (
          elim (cases_Bool (same_name other name)) [
            | inl same ↦ (
                let unlike : is_of name one ≡ false = differs name other one other_one same in
                rw (same, unlike) refl)
            | inr unlike ↦ rw unlike (stays_one (is_of name one && p one.name.mark) (some_of p name ones))
          ])
    ] where
      gone_one : (s a m : Bool) → (m && not s) ≡ (((s && a) || m) && not s)
      gone_one true a m = grind (arith, nat_tests)
      gone_one false a m = grind (arith, nat_tests)

      stays_one : (n m : Bool) → (n || (m && true)) ≡ ((n || m) && true)
      stays_one true m = grind (arith, nat_tests)
      stays_one false m = grind (arith, nat_tests)

-- the name is among these, whatever the mark
abbrev is_among : Recorded → List Reclaimant → Bool
is_among name ones = some_of (λ kept. true) name ones

among_begin : (name : Recorded) (names : List Recorded) → is_among name (newly names) ≡ is_recorded name names
among_begin name [] = refl
among_begin name (first ∷ names) = ap₂ (λ (x y : Bool). x || y) (and_true (same_name first name)) (among_begin name names)

-- ---- from a start on

after_none : (turns : List Turn) → after None turns ≡ None
after_none [] = refl
after_none (Reclaims name ∷ turns) = after_none turns
after_none (Expires name ∷ turns) = after_none turns
after_none (Reads now ∷ turns) = after_none turns

-- a grace that runs does so until a reading of the clock at or past its end
runs_after : (g : Running) (turns : List Turn) → is_some (after (Some g) turns) ≡ not (list_any (is_reading_from g.end.0) turns)
runs_after g [] = refl
runs_after g (Reclaims name ∷ turns) = runs_after (record { end = g.end; reclaimants = noted name g.reclaimants }) turns
runs_after g (Expires name ∷ turns) = runs_after (record { end = g.end; reclaimants = others name g.reclaimants }) turns
runs_after g (Reads now ∷ turns) =
    elim (cases_Bool (nat_le g.end.0 now.0)) [
      | inl past ↦ rw past (ap (λ (o : Option Running). is_some o) (after_none turns))
      | inr before ↦ rw before (runs_after g turns)
    ]

pub runs_from : (stable : Stable) (now : Moment) (milliseconds : ℕ) (turns : List Turn)
    → is_some (after (begun stable now milliseconds) turns) ≡ (has_names stable.names && not (list_any (is_reading_from (min (now.0 + milliseconds) (2 ^ 64 - 1))) turns))
runs_from stable now milliseconds turns = by stable.names where
  by : (names : List Recorded) → is_some (after (begun (record { epoch = stable.epoch; names = names }) now milliseconds) turns) ≡ (has_names names && not (list_any (is_reading_from (min (now.0 + milliseconds) (2 ^ 64 - 1))) turns))
  by [] = ap (λ (o : Option Running). is_some o) (after_none turns)
  by (name ∷ names) = runs_after (record { end = end_of now milliseconds; reclaimants = newly (name ∷ names) }) turns

some_running : (g h : Running) → Some g ≡ Some h → g ≡ h
some_running g h e = cc

none_running : {A : Type 0} (h : Running) → None ≡ Some h → A
none_running h e = absurd cc

regrouped : (a b c : Bool) → ((a && not b) && not c) ≡ (a && not (b || c))
regrouped true true c = refl
regrouped true false c = refl
regrouped false b c = refl

-- who may reclaim then, with such a mark: who might, and has not expired since
some_after : (p : Option Mark → Bool) (name : Recorded) (g h : Running) (turns : List Turn) → after (Some g) turns ≡ Some h → some_of p name h.reclaimants ≡ (some_of p name g.reclaimants && not (list_any (is_expiry name) turns))
some_after p name g h [] e = ap (λ (k : Running). some_of p name k.reclaimants) (sym (some_running g h e)) ∙ sym (and_true (some_of p name g.reclaimants))
some_after p name g h (Reclaims other ∷ turns) e =
    some_after p name (record { end = g.end; reclaimants = noted other g.reclaimants }) h turns e
    ∙ ap (λ b. b && not (list_any (is_expiry name) turns)) (some_noted p name other g.reclaimants)
some_after p name g h (Expires other ∷ turns) e =
    some_after p name (record { end = g.end; reclaimants = others other g.reclaimants }) h turns e
    ∙ ap (λ b. b && not (list_any (is_expiry name) turns)) (some_others p name other g.reclaimants)
    ∙ regrouped (some_of p name g.reclaimants) (same_name other name) (list_any (is_expiry name) turns)
some_after p name g h (Reads now ∷ turns) e =
    elim (cases_Bool (nat_le g.end.0 now.0)) [
      | inl past ↦ none_running h (sym (after_none turns) ∙ (rw past at e))
      | inr before ↦ some_after p name g h turns (rw before at e)
    ]

-- what becomes of a reclaim, from a start on
pub reclaims_from : (stable : Stable) (now : Moment) (milliseconds : ℕ) (turns : List Turn) (name : Recorded) → let grace = after (begun stable now milliseconds) turns in
    admission grace name true ≡ (if is_some grace then (if is_known name stable.names && not (list_any (is_expiry name) turns) then Enters else NotRecorded) else NoGrace)
reclaims_from stable now milliseconds turns name = by stable.names (after (begun stable now milliseconds) turns) refl where
  by : (names : List Recorded) (grace : Option Running) → after (begun (record { epoch = stable.epoch; names = names }) now milliseconds) turns ≡ grace
      → admission grace name true ≡ (if is_some grace then (if is_known name names && not (list_any (is_expiry name) turns) then Enters else NotRecorded) else NoGrace)
  by names None e = refl
  by [] (Some h) e = none_running h (sym (after_none turns) ∙ e)
  by (first ∷ names) (Some h) e =
      ap (λ b. if b then Enters else NotRecorded)
      (some_after (λ kept. agree kept name.mark) name (record { end = end_of now milliseconds; reclaimants = newly (first ∷ names) }) h turns e ∙ ap (λ b. b && not (list_any (is_expiry name) turns)) (some_begin (λ kept. agree kept name.mark) name (first ∷ names)))

-- the end stays
end_after : (g h : Running) (turns : List Turn) → after (Some g) turns ≡ Some h → h.end ≡ g.end
end_after g h [] e = ap (λ (k : Running). k.end) (sym (some_running g h e))
end_after g h (Reclaims other ∷ turns) e = end_after (record { end = g.end; reclaimants = noted other g.reclaimants }) h turns e
end_after g h (Expires other ∷ turns) e = end_after (record { end = g.end; reclaimants = others other g.reclaimants }) h turns e
end_after g h (Reads now ∷ turns) e =
    elim (cases_Bool (nat_le g.end.0 now.0)) [
      | inl past ↦ none_running h (sym (after_none turns) ∙ (rw past at e))
      | inr before ↦ end_after g h turns (rw before at e)
    ]

-- what becomes of an ask that is no reclaim, from a start on
pub asks_from : (stable : Stable) (now : Moment) (milliseconds : ℕ) (turns : List Turn) (name : Recorded) → let grace = after (begun stable now milliseconds) turns in
    admission grace name false ≡ (if is_some grace then Grace (end_of now milliseconds) else Enters)
asks_from stable now milliseconds turns name = by stable.names (after (begun stable now milliseconds) turns) refl where
  by : (names : List Recorded) (grace : Option Running) → after (begun (record { epoch = stable.epoch; names = names }) now milliseconds) turns ≡ grace
      → admission grace name false ≡ (if is_some grace then Grace (end_of now milliseconds) else Enters)
  by names None e = refl
  by [] (Some h) e = none_running h (sym (after_none turns) ∙ e)
  by (first ∷ names) (Some h) e = ap Grace (end_after (record { end = end_of now milliseconds; reclaimants = newly (first ∷ names) }) h turns e)

-- after the end nobody reclaims
pub none_after_end : (grace : Option Running) (now : Moment) (turns : List Turn) (name : Recorded) → is_over grace now ≡ true → admission (after (ended now grace) turns) name true ≡ NoGrace
none_after_end grace now turns name over = rw over (ap (λ (o : Option Running). admission o name true) (after_none turns))

-- ---- who has reclaimed

back_head : (r s h m : Bool) → ((true && s) || h) ≡ (((r && s) || h) || ((s || m) && s))
back_head true true h m = refl
back_head false true true m = refl
back_head false true false m = refl
back_head true false true true = refl
back_head true false true false = refl
back_head true false false true = refl
back_head true false false false = refl
back_head false false true true = refl
back_head false false true false = refl
back_head false false false true = refl
back_head false false false false = refl

back_tail : (a h n m s : Bool) → (s ≡ true → n ≡ false) → ((a && n) || (h || (m && s))) ≡ (((a && n) || h) || ((n || m) && s))
back_tail a h true m true apart = absurd (true≢false (apart refl))
back_tail a h n m false apart = grind (arith, nat_tests)
back_tail a h false m true apart = grind (arith, nat_tests)

back_noted : (name other : Recorded) (ones : List Reclaimant) → has_reclaimed name (noted other ones) ≡ (has_reclaimed name ones || (is_among name ones && same_name other name))
back_noted name other [] = refl
back_noted name other (one ∷ ones) =
    elim (cases_Bool (is_of other one)) [
      | inl here ↦ rw (here, kept_one name other one here, and_true) (back_head one.reclaimed (same_name other name) (has_reclaimed name ones) (is_among name ones))
      | inr other_one ↦ rw (other_one, back_noted name other ones, and_true) (back_tail one.reclaimed (has_reclaimed name ones) (is_of name one) (is_among name ones) (same_name other name) (differs name other one other_one))
    ]

gone_head : (r s h : Bool) → (h && not s) ≡ (((r && s) || h) && not s)
gone_head r true h = grind (arith, nat_tests)
gone_head r false h = grind (arith, nat_tests)

gone_tail : (a h n s : Bool) → (s ≡ true → n ≡ false) → ((a && n) || (h && not s)) ≡ (((a && n) || h) && not s)
gone_tail a h true true apart = absurd (true≢false (apart refl))
gone_tail a h n false apart = grind (arith, nat_tests)
gone_tail a h false true apart = grind (arith, nat_tests)

back_others : (name other : Recorded) (ones : List Reclaimant) → has_reclaimed name (others other ones) ≡ (has_reclaimed name ones && not (same_name other name))
back_others name other [] = refl
back_others name other (one ∷ ones) =
    elim (cases_Bool (is_of other one)) [
      | inl here ↦ rw (here, kept_one name other one here, back_others name other ones) (gone_head one.reclaimed (same_name other name) (has_reclaimed name ones))
      | inr other_one ↦ rw (other_one, back_others name other ones) (gone_tail one.reclaimed (has_reclaimed name ones) (is_of name one) (same_name other name) (differs name other one other_one))
    ]

on_reclaim : (h m s r e : Bool) → (((h || (m && s)) || (m && r)) && not e) ≡ ((h || (m && (s || r))) && not e)
on_reclaim true m s r e = grind (arith, nat_tests)
on_reclaim false true s r e = grind (arith, nat_tests)
on_reclaim false false s r e = grind (arith, nat_tests)

on_expiry : (h m s r e : Bool) → (((h && not s) || ((m && not s) && r)) && not e) ≡ ((h || (m && r)) && not (s || e))
on_expiry h m true r e = grind (arith, nat_tests)
on_expiry h m false r e = grind (arith, nat_tests)

no_turn : (h m : Bool) → h ≡ ((h || (m && false)) && not false)
no_turn h m = grind (arith, nat_tests)

-- who has reclaimed then: who had, or might and did since, and has not expired since
back_after : (name : Recorded) (g h : Running) (turns : List Turn) → after (Some g) turns ≡ Some h
    → has_reclaimed name h.reclaimants ≡ ((has_reclaimed name g.reclaimants || (is_among name g.reclaimants && list_any (is_reclaim name) turns)) && not (list_any (is_expiry name) turns))
back_after name g h [] e = ap (λ (k : Running). has_reclaimed name k.reclaimants) (sym (some_running g h e)) ∙ no_turn (has_reclaimed name g.reclaimants) (is_among name g.reclaimants)
back_after name g h (Reclaims other ∷ turns) e =
    let r = list_any (is_reclaim name) turns in
    let e' = list_any (is_expiry name) turns in
    back_after name (record { end = g.end; reclaimants = noted other g.reclaimants }) h turns e
    ∙ ap₂ (λ (b m : Bool). (b || (m && r)) && not e') (back_noted name other g.reclaimants) (some_noted (λ kept. true) name other g.reclaimants)
    ∙ on_reclaim (has_reclaimed name g.reclaimants) (is_among name g.reclaimants) (same_name other name) r e'
back_after name g h (Expires other ∷ turns) e =
    let r = list_any (is_reclaim name) turns in
    let e' = list_any (is_expiry name) turns in
    back_after name (record { end = g.end; reclaimants = others other g.reclaimants }) h turns e
    ∙ ap₂ (λ (b m : Bool). (b || (m && r)) && not e') (back_others name other g.reclaimants) (some_others (λ kept. true) name other g.reclaimants)
    ∙ on_expiry (has_reclaimed name g.reclaimants) (is_among name g.reclaimants) (same_name other name) r e'
back_after name g h (Reads now ∷ turns) e =
    elim (cases_Bool (nat_le g.end.0 now.0)) [
      | inl past ↦ none_running h (sym (after_none turns) ∙ (rw past at e))
      | inr before ↦ back_after name g h turns (rw before at e)
    ]

-- who has reclaimed, from a start on
pub back_from : (stable : Stable) (now : Moment) (milliseconds : ℕ) (turns : List Turn) (name : Recorded) → let grace = after (begun stable now milliseconds) turns in
    is_some grace ≡ true → is_back name grace ≡ ((is_recorded name stable.names && list_any (is_reclaim name) turns) && not (list_any (is_expiry name) turns))
back_from stable now milliseconds turns name = by stable.names (after (begun stable now milliseconds) turns) refl where
  by : (names : List Recorded) (grace : Option Running) → after (begun (record { epoch = stable.epoch; names = names }) now milliseconds) turns ≡ grace
      → is_some grace ≡ true → is_back name grace ≡ ((is_recorded name names && list_any (is_reclaim name) turns) && not (list_any (is_expiry name) turns))
  by names None e runs = absurd (true≢false (sym runs))
  by [] (Some h) e runs = none_running h (sym (after_none turns) ∙ e)
  by (first ∷ names) (Some h) e runs =
      let r = list_any (is_reclaim name) turns in
      let e' = list_any (is_expiry name) turns in
      back_after name (record { end = end_of now milliseconds; reclaimants = newly (first ∷ names) }) h turns e
      ∙ ap₂ (λ (b m : Bool). (b || (m && r)) && not e') (none_back name (first ∷ names)) (among_begin name (first ∷ names))

-- ---- the record without the names that reclaimed nothing

recorded_among : (p : Recorded → Bool) (name : Recorded) (names : List Recorded) → is_recorded name names ≡ false → is_recorded name (filter p names) ≡ false
recorded_among p name [] none = refl
recorded_among p name (first ∷ names) none =
    let parts = or_parts (same_name first name) (is_recorded name names) none in
    elim (cases_Bool (p first)) [
      | inl kept ↦ rw kept (or_from (same_name first name) (is_recorded name (filter p names)) parts.0 (recorded_among p name names parts.1))
      | inr dropped ↦ rw dropped (recorded_among p name names parts.1)
    ]

pub recordable_among : (p : Recorded → Bool) (names : List Recorded) → AreRecordable names → AreRecordable (filter p names)
recordable_among p [] ok = tt
recordable_among p (first ∷ names) ok =
    elim (cases_Bool (p first)) [
      | inl kept ↦ rw kept (ok.0, recorded_among p first names ok.1, recordable_among p names ok.2)
      | inr dropped ↦ rw dropped (recordable_among p names ok.2)
    ]

able : (held : List Recorded) (name : Recorded) (more : List Recorded) → AreRecordable (held ++ name ∷ more) → is_recordable name ≡ true
able [] name more ok = ok.0
able (first ∷ held) name more ok = able held name more ok.2

-- a name that stays can be put behind those that stayed before it
pub addable : (p : Recorded → Bool) (names held : List Recorded) (i : ℕ) (name : Recorded) → AreRecordable names → i < length names → name ≡ get_or names i name → p name ≡ true
    → held ++ filter p (drop i names) ≡ filter p names → (is_recordable name ≡ true) × (is_recorded name held ≡ false)
addable p names held i name ok lt is stays so_far =
    let front : drop i names ≡ name ∷ drop (i + 1) names = drop_more names i name lt ∙ ap (λ (n : Recorded). n ∷ drop (i + 1) names) (sym is) in
    let kept : filter p (drop i names) ≡ name ∷ filter p (drop (i + 1) names) = ap (λ (ns : List Recorded). filter p ns) front ∙ rw stays refl in
    let parts : filter p names ≡ held ++ name ∷ filter p (drop (i + 1) names) = sym so_far ∙ ap (λ (ns : List Recorded). held ++ ns) kept in
    let whole = subst AreRecordable parts (recordable_among p names ok) in
    (able held name (filter p (drop (i + 1) names)) whole, apart held name (filter p (drop (i + 1) names)) whole)
