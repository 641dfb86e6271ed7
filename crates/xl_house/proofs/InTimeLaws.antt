-- An orderly journal sends nothing to a connection before its opening or after its end.
use Rattle.std.proofs.Common.{◌≡◌, ◌⊎◌, ℕ, ◌+◌, ◌<◌, ◌≤◌, ◌==◌, Bool, true, false, not, eqb, inl, inr, List, [], ◌∷◌, ◌++◌, length, refl, subst, arith}
use Rattle.std.proofs.lemmas.Bool.{cases_Bool, eq-eqb, eqb-true}
use Rattle.std.proofs.lemmas.Bool.Decides.{nat_tests}
use Rattle.std.specs.Prelude.{nat_lt, if◌then◌else◌}
use Rattle.xl_base.proofs.Members.{all_weaker, in_filter_from}
use Rattle.xl_base.specs.Lists.{IsIn}
use Rattle.xl_base.specs.Outs.{goes_to, IsSilent}
use Rattle.xl_base.specs.Serials.{IsInTime}
use Rattle.xl_base.specs.declared.event.Dest.{Dest}
use Rattle.xl_base.specs.declared.event.Dest.TheVariants.{Conn, Back}
use Rattle.xl_base.specs.declared.event.Event.{Event}
use Rattle.xl_base.specs.declared.event.Event.TheVariants.{Open, End, Restart}
use Rattle.xl_base.specs.declared.event.Out.{Out}
use Rattle.xl_base.specs.declared.journal.Entry.{Entry}
use Rattle.xl_base.specs.declared.journal.Head.{Head}
use Rattle.xl_house.specs.Journals.{opened_after, IsTimely, IsOrderly, IsLegal}
use Rattle.xl_house.specs.State.{start_of, most_connections}
use Rattle.xl_house.specs.Serials.{IsHistory}
use Rattle.xl_house.proofs.OrderLaws.{legal_orderly}

-- ---- who is open after an event

in_behind : (opened : List ℕ) (place number : ℕ) → IsIn number (opened ++ place ∷ []) → IsIn number opened ⊎ (place ≡ number)
in_behind [] place number (inl is) = inr is
in_behind [] place number (inr none) = absurd none
in_behind (o ∷ os) place number (inl is) = inl (inl is)
in_behind (o ∷ os) place number (inr there) = by (in_behind os place number there) where
  by : IsIn number os ⊎ (place ≡ number) → IsIn number (o ∷ os) ⊎ (place ≡ number)
  by (inl earlier) = inl (inr earlier)
  by (inr last) = inr last

after_from : (opened : List ℕ) (place number : ℕ) (event : Event) → IsIn number (opened_after opened place event) → IsIn number opened ⊎ (place ≡ number)
after_from opened place number (Open kind) there = by (nat_lt (length opened) most_connections) there where
  by : (room : Bool) → IsIn number (if room then opened ++ place ∷ [] else opened) → IsIn number opened ⊎ (place ≡ number)
  by true now = in_behind opened place number now
  by false now = inl now
after_from opened place number (End ended) there = inl (in_filter_from (λ c. not (eqb c ended)) number opened there).0
after_from opened place number Restart there = absurd there
after_from opened place number event there = inl there

-- each was opened before this place
abbrev Below : ℕ → List ℕ → Type 0
Below place opened = (number : ℕ) → IsIn number opened → number < place

below_after : (place : ℕ) (opened : List ℕ) (event : Event) → Below place opened → Below (place + 1) (opened_after opened place event)
below_after place opened event below number there = by (after_from opened place number event there) where
  by : IsIn number opened ⊎ (place ≡ number) → number < place + 1
  by (inl earlier) = omega (arith, below number earlier)
  by (inr last) = omega (arith, last)

-- ---- before an opening

apart : (other place number : ℕ) → other < place → place ≤ number → (other == number) ≡ false
apart other place number under low = grind (arith, nat_tests)

elsewhere : (opened after : List ℕ) (place number : ℕ) (dest : Dest) → Below place opened → place ≤ number → IsTimely opened after dest → goes_to number dest ≡ false
elsewhere opened after place number (Conn other) below low timely = apart other place number (below other timely.0) low
elsewhere opened after place number (Back call) below low timely = refl

silent_before : (opened : List ℕ) (place number : ℕ) (before behind : List Entry) → Below place opened → IsOrderly opened place (before ++ behind) → place + length before ≤ number → IsSilent number before
silent_before opened place number [] behind below orderly low = tt
silent_before opened place number (e ∷ es) behind below orderly low =
    let after = opened_after opened place e.event in (
      all_weaker (λ (o : Out). IsTimely opened after o.dest) (λ o. goes_to number o.dest ≡ false) e.outs (λ o timely. elsewhere opened after place number o.dest below (omega (arith, low)) timely) orderly.0,
      silent_before after (place + 1) number es behind (below_after place opened e.event below) orderly.1 (omega (arith, low)),
    )

-- ---- after an end

not_there : (opened after : List ℕ) (number : ℕ) (dest : Dest) → (IsIn number opened → ⊥) → IsTimely opened after dest → goes_to number dest ≡ false
not_there opened after number (Conn other) gone timely =
    elim (cases_Bool (other == number)) [
      | inl same ↦ absurd (gone (subst (λ (n : ℕ). IsIn n opened) (eqb-true other number same) timely.0))
      | inr differs ↦ differs
    ]
not_there opened after number (Back call) gone timely = refl

never : (opened : List ℕ) (place number : ℕ) (es : List Entry) → (IsIn number opened → ⊥) → number < place → IsOrderly opened place es → IsSilent number es
never opened place number [] gone past orderly = tt
never opened place number (e ∷ es) gone past orderly =
    let after = opened_after opened place e.event in (
      all_weaker (λ (o : Out). IsTimely opened after o.dest) (λ o. goes_to number o.dest ≡ false) e.outs (λ o timely. not_there opened after number o.dest gone timely) orderly.0,
      never after (place + 1) number es (λ there. still_gone (after_from opened place number e.event there)) (omega (arith, past)) orderly.1,
    )
  where
    still_gone : IsIn number opened ⊎ (place ≡ number) → ⊥
    still_gone (inl earlier) = gone earlier
    still_gone (inr last) = absurd (omega (arith, past, last))

silent_behind : (opened : List ℕ) (place number : ℕ) (before behind : List Entry) (e : Entry) → IsOrderly opened place (before ++ e ∷ behind) → e.event ≡ End number → number < place + length before → IsSilent number behind
silent_behind opened place number [] behind e orderly is past =
    never (opened_after opened place e.event) (place + 1) number behind (λ there. gone (subst (λ (event : Event). IsIn number (opened_after opened place event)) is there)) (omega (arith, past)) orderly.1
  where
    gone : IsIn number (opened_after opened place (End number)) → ⊥
    gone there = absurd (cc ((in_filter_from (λ c. not (eqb c number)) number opened there).1, eq-eqb number number refl))
silent_behind opened place number (x ∷ xs) behind e orderly is past = silent_behind (opened_after opened place x.event) (place + 1) number xs behind e orderly.1 is (omega (arith, past))

in_time : (es : List Entry) → IsOrderly [] 0 es → IsInTime 0 es
in_time es orderly = record {
  opening = λ before behind number parts low. silent_before [] 0 number before behind (λ n there. absurd there) (subst (λ (xs : List Entry). IsOrderly [] 0 xs) parts orderly) low;
  ending = λ before behind e number parts is past. silent_behind [] 0 number before behind e (subst (λ (xs : List Entry). IsOrderly [] 0 xs) parts orderly) is past;
}

pub legal_history : (head : Head) (es : List Entry) → IsLegal (start_of head) es → IsHistory head es
legal_history head es legal = (legal, in_time es (legal_orderly head es legal))
