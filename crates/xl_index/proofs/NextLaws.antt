-- The first file past one on which someone stands.
use Rattle.std.proofs.Common.{◌≡◌, ◌≢◌, ℕ, zero, suc, ◌<◌, ◌≤◌, Bool, true, false, ◌==◌, ◌&&◌, ◌||◌, nat_lt, List, [], ◌∷◌, Option, Some, None, IsSome, is_some, refl, sym, ap, subst, ◌∙◌, inl, inr, arith}
use Rattle.std.proofs.lemmas.Bool.{cases_Bool, both_ways, eqb-true, eq-eqb, false_from_ne_true}
use Rattle.std.proofs.lemmas.Bool.Decides.{nat_tests}
use Rattle.std.specs.BTreeMap.{BTreeMap, get}
use Rattle.std.specs.BTreeMap.Range.{IsLeBy, IsLtBy, IsFromStart, IsRangeOf}
use Rattle.std.specs.declared.ops.Bound.TheVariants.{Unbounded}
use Rattle.std.specs.List.{list_any}
use Rattle.std.specs.Option.{unwrap_or}
use Rattle.xl_base.specs.Lists.{IsIn}
use Rattle.xl_base.proofs.Members.{all_from}
use Rattle.xl_base.specs.declared.name.Owner.{Owner}
use Rattle.xl_base.specs.declared.name.Owner.TheVariants as owners
use Rattle.xl_matrix.specs.declared.claim.Claim.{Claim}
use Rattle.xl_index.specs.Totals.{one, total}
use Rattle.xl_index.specs.Stands.{who_of, who_opens, stand_cmp, is_here, owned_here, owned_by, bears, many_at, is_by, is_past, is_ahead, any_on, first_past, AreTold, IsNext}
use Rattle.xl_index.specs.declared.stands.Stand.{Stand}
use Rattle.xl_index.proofs.TotalLaws.{total_in}

here_by : (who own file : ℕ) → (own == who) ≡ true → one (is_here (record { who = who; file = file }) own file) ≡ 1
here_by who own file same = rw (eq-eqb who own (sym (eqb-true own who same)), eq-eqb file file refl) refl

owned_told : (who file : ℕ) (owner : Owner) → owned_by who owner ≡ true → owned_here (record { who = who; file = file }) file owner ≡ 1
owned_told who file (owners.Open number) own = here_by who (who_opens number) file own
owned_told who file (owners.Name protocol number) own = absurd (both_ways false refl own)

-- a claim is told at the stand of who has it, on its file
told_by : (who : ℕ) (c : Claim) → is_by who c ≡ true → 0 < bears (record { who = who; file = c.file }) c
told_by who c by =
    elim (cases_Bool (who_of c.party == who)) [
      | inl whose ↦ omega (arith, here_by who (who_of c.party) c.file whose)
      | inr other ↦ omega (arith, owned_told who c.file c.owner (rw other at by))
    ]

-- so something is kept for that stand
some_kept : (o : Option ℕ) → 0 < unwrap_or o 0 → IsSome o
some_kept None h = absurd (omega (arith, h))
some_kept (Some n) h = refl

kept_there : (stands : BTreeMap Stand ℕ) (cs : List Claim) → ((at : Stand) → many_at stands at ≡ total (bears at) cs) → (who : ℕ) (c : Claim) → IsIn c cs → is_by who c ≡ true → IsSome (get stand_cmp stands (record { who = who; file = c.file }))
kept_there stands cs standing who c h by =
    let at : Stand = record { who = who; file = c.file } in
    some_kept (get stand_cmp stands at) (omega (arith, standing at, told_by who c by, total_in (bears at) c cs h))

-- ---- the order of stands

from_first : (who file : ℕ) → IsLeBy stand_cmp (record { who = who; file = 0 }) (record { who = who; file = file })
from_first who file = grind (arith, nat_tests)

from_past : (who past file : ℕ) → nat_lt past file ≡ true → IsLtBy stand_cmp (record { who = who; file = past }) (record { who = who; file = file })
from_past who past file h = grind (arith, nat_tests)

files_rise : (a b : Stand) → a.who ≡ b.who → IsLeBy stand_cmp a b → a.file ≤ b.file
files_rise a b same h = grind (arith, nat_tests)

past_rise : (a b : Stand) → a.who ≡ b.who → IsLtBy stand_cmp a b → nat_lt a.file b.file ≡ true
past_rise a b same h = grind (arith, nat_tests)

whose_rise : (a b : Stand) → IsLeBy stand_cmp a b → a.who ≤ b.who
whose_rise a b h = grind (arith, nat_tests)

whose_past : (a b : Stand) → IsLtBy stand_cmp a b → a.who ≤ b.who
whose_past a b h = grind (arith, nat_tests)

no_less : (a b : ℕ) → a ≤ b → nat_lt b a ≡ false
no_less a b h = grind (arith, nat_tests)

-- a stand past a file, from where those begin
ahead : (who : ℕ) (past : Option ℕ) (file : ℕ) → is_past past file ≡ true → IsFromStart stand_cmp (first_past who past) (record { who = who; file = file })
ahead who None file h = from_first who file
ahead who (Some past) file h = from_past who past file h

ahead_whose : (who : ℕ) (past : Option ℕ) (at : Stand) → IsFromStart stand_cmp (first_past who past) at → who ≤ at.who
ahead_whose who None at h = whose_rise (record { who = who; file = 0 }) at h
ahead_whose who (Some past) at h = whose_past (record { who = who; file = past }) at h

ahead_file : (who : ℕ) (past : Option ℕ) (at : Stand) → at.who ≡ who → IsFromStart stand_cmp (first_past who past) at → is_past past at.file ≡ true
ahead_file who None at same h = refl
ahead_file who (Some past) at same h = past_rise (record { who = who; file = past }) at (sym same) h

-- the entries of a map past a file, or of all from someone's on
abbrev pub IsRest : BTreeMap Stand ℕ → ℕ → Option ℕ → List (Stand × ℕ) → Type 0
IsRest stands who past r = IsRangeOf stand_cmp (first_past who past) Unbounded stands r

both : (a b : Bool) → a && b ≡ true → (a ≡ true) × (b ≡ true)
both true true h = (refl, refl)
both true false h = absurd (both_ways false refl h)
both false b h = absurd (both_ways false refl h)

-- a claim past the file stands no earlier than the first entry
behind_first : (stands : BTreeMap Stand ℕ) (who : ℕ) (past : Option ℕ) (e : Stand × ℕ) (rest : List (Stand × ℕ)) → IsRest stands who past (e ∷ rest) → (cs : List Claim) → ((at : Stand) → many_at stands at ≡ total (bears at) cs) → (c : Claim) → IsIn c cs → is_ahead who past c ≡ true → IsLeBy stand_cmp e.0 (record { who = who; file = c.file })
behind_first stands who past e rest is cs standing c h there =
    let parts = both (is_by who c) (is_past past c.file) there in
    is.2 (record { who = who; file = c.file }) (ahead who past c.file parts.1, tt) (kept_there stands cs standing who c h parts.0)

-- ---- a stand that is kept has a claim

one_apart : (at : Stand) (own file : ℕ) → ((own == at.who) && (file == at.file)) ≡ false → one (is_here at own file) ≡ 0
one_apart at own file apart =
    elim (cases_Bool (is_here at own file)) [
      | inl here ↦
          let parts = both (at.who == own) (at.file == file) here in
          absurd (both_ways ((own == at.who) && (file == at.file)) apart (rw (eq-eqb own at.who (sym (eqb-true at.who own parts.0)), eq-eqb file at.file (sym (eqb-true at.file file parts.1))) refl))
      | inr off ↦ rw off refl
    ]

owned_apart : (at : Stand) (file : ℕ) (owner : Owner) → (owned_by at.who owner && (file == at.file)) ≡ false → owned_here at file owner ≡ 0
owned_apart at file (owners.Open number) apart = one_apart at (who_opens number) file apart
owned_apart at file (owners.Name protocol number) apart = refl

neither : (a b c : Bool) → ((a || b) && c) ≡ false → ((a && c) ≡ false) × ((b && c) ≡ false)
neither false b c h = (refl, h)
neither true false c h = (h, refl)
neither true true c h = (h, h)

none_told : (at : Stand) (c : Claim) → (is_by at.who c && (c.file == at.file)) ≡ false → bears at c ≡ 0
none_told at c apart =
    let parts = neither (who_of c.party == at.who) (owned_by at.who c.owner) (c.file == at.file) apart in
    omega (arith, one_apart at (who_of c.party) c.file parts.0, owned_apart at c.file c.owner parts.1)

told_on : (at : Stand) (cs : List Claim) → 0 < total (bears at) cs → any_on (is_by at.who) at.file cs ≡ true
told_on at [] h = absurd (omega (arith, h))
told_on at (c ∷ cs) h =
    elim (cases_Bool (is_by at.who c && (c.file == at.file))) [
      | inl on ↦ rw on refl
      | inr off ↦ rw off (told_on at cs (omega (arith, h, none_told at c off)))
    ]

some_told : (o : Option ℕ) (n : ℕ) → o ≡ Some n → o ≢ Some 0 → 0 < unwrap_or o 0
some_told o zero is told = absurd (told is)
some_told o (suc n) is told = omega (arith, ap (λ (p : Option ℕ). unwrap_or p 0) is)

-- ---- the first entry

pub next_found : (stands : BTreeMap Stand ℕ) (who : ℕ) (past : Option ℕ) (e : Stand × ℕ) (rest : List (Stand × ℕ)) → IsRest stands who past (e ∷ rest) → e.0.who ≡ who → (cs : List Claim) → AreTold stands → ((at : Stand) → many_at stands at ≡ total (bears at) cs) → IsNext (Some e.0.file) who past cs
next_found stands who past e rest is same cs told standing = (
  ahead_file who past e.0 same is.1.0.0,
  all_from (λ c. (is_ahead who past c && nat_lt c.file e.0.file) ≡ false) cs missed,
  subst (λ (own : ℕ). any_on (is_by own) e.0.file cs ≡ true) same
      (told_on e.0 cs (omega (arith, standing e.0, some_told (get stand_cmp stands e.0) e.1 is.1.1 (told e.0)))),
)
  where
    missed : (c : Claim) → IsIn c cs → (is_ahead who past c && nat_lt c.file e.0.file) ≡ false
    missed c h =
        elim (cases_Bool (is_ahead who past c)) [
          | inl there ↦ rw there (no_less e.0.file c.file (files_rise e.0 (record { who = who; file = c.file }) same (behind_first stands who past e rest is cs standing c h there)))
          | inr not_there ↦ rw not_there refl
        ]

pub next_other : (stands : BTreeMap Stand ℕ) (who : ℕ) (past : Option ℕ) (e : Stand × ℕ) (rest : List (Stand × ℕ)) → IsRest stands who past (e ∷ rest) → e.0.who ≢ who → (cs : List Claim) → ((at : Stand) → many_at stands at ≡ total (bears at) cs) → IsNext None who past cs
next_other stands who past e rest is other cs standing =
    all_from (λ c. is_ahead who past c ≡ false) cs
    (λ c h. false_from_ne_true (is_ahead who past c) (λ there. other (whose (ahead_whose who past e.0 is.1.0.0) (whose_rise e.0 (record { who = who; file = c.file }) (behind_first stands who past e rest is cs standing c h there)))))
  where
    whose : who ≤ e.0.who → e.0.who ≤ who → e.0.who ≡ who
    whose h k = omega (arith, h, k)

pub next_none : (stands : BTreeMap Stand ℕ) (who : ℕ) (past : Option ℕ) → IsRest stands who past [] → (cs : List Claim) → ((at : Stand) → many_at stands at ≡ total (bears at) cs) → IsNext None who past cs
next_none stands who past is cs standing =
    all_from (λ c. is_ahead who past c ≡ false) cs (λ c h. false_from_ne_true (is_ahead who past c) (λ there. none c h there))
  where
    none : (c : Claim) → IsIn c cs → is_ahead who past c ≡ true → ⊥
    none c h there =
        let parts = both (is_by who c) (is_past past c.file) there in
        let at : Stand = record { who = who; file = c.file } in
        both_ways false refl (sym (ap (λ (o : Option ℕ). is_some o) (is.5 refl at (ahead who past c.file parts.1, tt))) ∙ kept_there stands cs standing who c h parts.0)
