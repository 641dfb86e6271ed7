-- How many claims there are at a stand, as one comes and goes.
use Rattle.std.proofs.Common.{◌≡◌, ℕ, ◌+◌, ◌<◌, ◌≤◌, Bool, true, false, ◌==◌, Option, Some, None, List, cond, refl, sym, ap, ◌∙◌, inl, inr, arith}
use Rattle.std.proofs.lemmas.Bool.{cases_Bool, both_ways, eqb-true, eq-eqb}
use Rattle.std.proofs.lemmas.Bool.Decides.{nat_tests}
use Rattle.std.specs.BTreeMap.{BTreeMap, get, is_at, IsUnchanged}
use Rattle.std.specs.Map.{lookup}
use Rattle.std.specs.Option.{unwrap_or}
use Rattle.xl_base.specs.declared.name.Owner.{Owner}
use Rattle.xl_base.specs.declared.name.Owner.TheVariants as owners
use Rattle.xl_base.specs.declared.name.Protocol.{Protocol}
use Rattle.xl_matrix.specs.declared.claim.Claim.{Claim}
use Rattle.xl_index.specs.Totals.{one}
use Rattle.xl_index.specs.Stands.{who_of, who_opens, stand_cmp, is_here, owned_here, bears, many_at, AreTold, ComesOne}
use Rattle.xl_index.specs.declared.stands.Stand.{Stand}
use Rattle.xl_index.proofs.TotalLaws.{one_few}

-- a query for one stand finds another where both their numbers are equal
pub same_stand : (a b : Stand) → is_at (stand_cmp a) b ≡ is_here b a.who a.file
same_stand a b = grind (arith, nat_tests)

-- what is told at a stand that is here
pub told_here : (stands : BTreeMap Stand ℕ) (at q : Stand) → is_here q at.who at.file ≡ true → many_at stands q ≡ many_at stands at
told_here stands at q here =
    elim (cases_Bool (q.who == at.who)) [
      | inl whose ↦
          let file : (q.file == at.file) ≡ true = rw whose at here in
          let p : q.who ≡ at.who = eqb-true q.who at.who whose in
          let r : q.file ≡ at.file = eqb-true q.file at.file file in
          λ i. many_at stands (record { who = p i; file = r i })
      | inr other ↦ absurd (both_ways false refl (rw other at here))
    ]

-- this was written at a stand, and all others stay
abbrev pub IsWritten : BTreeMap Stand ℕ → BTreeMap Stand ℕ → Stand → Option ℕ → Type 0
IsWritten old new at w = (q : Stand) → get stand_cmp new q ≡ cond (is_at (stand_cmp at) q) w (get stand_cmp old q)

pub told_now : (old new : BTreeMap Stand ℕ) (at : Stand) (w : Option ℕ) → IsWritten old new at w → (q : Stand) → many_at new q ≡ unwrap_or (cond (is_here q at.who at.file) w (get stand_cmp old q)) 0
told_now old new at w written q =
    ap (λ (o : Option ℕ). unwrap_or o 0) (written q) ∙ ap (λ (b : Bool). unwrap_or (cond b w (get stand_cmp old q)) 0) (same_stand at q)

pub comes_one : (old new : BTreeMap Stand ℕ) (at : Stand) (n : ℕ) → IsWritten old new at (Some n) → n ≡ many_at old at + 1 → ComesOne old new at.who at.file
comes_one old new at n written is q =
    elim (cases_Bool (is_here q at.who at.file)) [
      | inl here ↦ omega (arith, told_now old new at (Some n) written q, ap one here, ap (λ (b : Bool). unwrap_or (cond b (Some n) (get stand_cmp old q)) 0) here, told_here old at q here, is)
      | inr other ↦ omega (arith, told_now old new at (Some n) written q, ap one other, ap (λ (b : Bool). unwrap_or (cond b (Some n) (get stand_cmp old q)) 0) other)
    ]

pub goes_one : (old new : BTreeMap Stand ℕ) (at : Stand) (w : Option ℕ) → IsWritten old new at w → unwrap_or w 0 + 1 ≡ many_at old at → (q : Stand) → one (is_here q at.who at.file) + many_at new q ≡ many_at old q
goes_one old new at w written is q =
    elim (cases_Bool (is_here q at.who at.file)) [
      | inl here ↦ omega (arith, told_now old new at w written q, ap one here, ap (λ (b : Bool). unwrap_or (cond b w (get stand_cmp old q)) 0) here, told_here old at q here, is)
      | inr other ↦ omega (arith, told_now old new at w written q, ap one other, ap (λ (b : Bool). unwrap_or (cond b w (get stand_cmp old q)) 0) other)
    ]

pub some_at : (stands : BTreeMap Stand ℕ) (at : Stand) → ((q : Stand) → one (is_here q at.who at.file) ≤ many_at stands q) → 0 < many_at stands at
some_at stands at some = omega (arith, some at, ap one (here at))
  where
    here : (q : Stand) → is_here q q.who q.file ≡ true
    here q = rw (eq-eqb q.who q.who refl, eq-eqb q.file q.file refl) refl

-- where something is written, it is not none
pub told_more : (old new : BTreeMap Stand ℕ) (at : Stand) (n : ℕ) → AreTold old → IsWritten old new at (Some n) → 0 < n → AreTold new
told_more old new at n told written more q none =
    elim (cases_Bool (is_at (stand_cmp at) q)) [
      | inl here ↦
          let at_none : n ≡ 0 = ap (λ (o : Option ℕ). unwrap_or o 0) (sym (ap (λ (b : Bool). cond b (Some n) (get stand_cmp old q)) here) ∙ sym (written q) ∙ none) in
          absurd (omega (arith, at_none, more))
      | inr other ↦
          absurd (told q (sym (ap (λ (b : Bool). cond b (Some n) (get stand_cmp old q)) other) ∙ sym (written q) ∙ none))
    ]

abbrev pub is_there : Option ℕ → Bool
is_there None = false
is_there (Some n) = true

pub told_gone : (old new : BTreeMap Stand ℕ) (at : Stand) → AreTold old → IsWritten old new at None → AreTold new
told_gone old new at told written q none =
    elim (cases_Bool (is_at (stand_cmp at) q)) [
      | inl here ↦
          let is : None ≡ Some 0 = sym (ap (λ (b : Bool). cond b None (get stand_cmp old q)) here) ∙ sym (written q) ∙ none in
          absurd (both_ways false refl (ap is_there is))
      | inr other ↦
          absurd (told q (sym (ap (λ (b : Bool). cond b None (get stand_cmp old q)) other) ∙ sym (written q) ∙ none))
    ]

pub all_stay : (old new : BTreeMap Stand ℕ) → IsUnchanged old new → (q : Stand) → many_at new q ≡ many_at old q
all_stay old new same q = ap (λ (es : List (Stand × ℕ)). unwrap_or (lookup (is_at (stand_cmp q)) es) 0) same

pub told_still : (old new : BTreeMap Stand ℕ) → AreTold old → IsUnchanged old new → AreTold new
told_still old new told same q none = told q (sym (ap (λ (es : List (Stand × ℕ)). lookup (is_at (stand_cmp q)) es) same) ∙ none)

-- ---- a claim comes and goes

owned_few : (at : Stand) (file : ℕ) (owner : Owner) → owned_here at file owner ≤ 1
owned_few at file (owners.Open number) = one_few (is_here at (who_opens number) file)
owned_few at file (owners.Name protocol number) = omega arith

pub bears_few : (at : Stand) (c : Claim) → bears at c ≤ 2
bears_few at c = omega (arith, one_few (is_here at (who_of c.party) c.file), owned_few at c.file c.owner)

pub none_owned : (at : Stand) (file : ℕ) (owner : Owner) (protocol : Protocol) (number : ℕ) → owner ≡ owners.Name protocol number → owned_here at file owner ≡ 0
none_owned at file owner protocol number is = ap (owned_here at file) is

pub few_more : (old mid : BTreeMap Stand ℕ) (who file : ℕ) → ((at : Stand) → many_at old at ≤ 524288) → ComesOne old mid who file → (at : Stand) → many_at mid at ≤ 1048576
few_more old mid who file few more at = omega (arith, few at, more at, one_few (is_here at who file))

pub comes_both : (old mid new : BTreeMap Stand ℕ) (c : Claim) → ComesOne old mid (who_of c.party) c.file → ((at : Stand) → many_at new at ≡ owned_here at c.file c.owner + many_at mid at) → (at : Stand) → many_at new at ≡ bears at c + many_at old at
comes_both old mid new c whose owned at = omega (arith, whose at, owned at)

pub some_come : (old mid now : BTreeMap Stand ℕ) (who file : ℕ) → ComesOne old mid who file → ((at : Stand) → many_at now at ≡ many_at mid at) → (at : Stand) → one (is_here at who file) ≤ many_at now at
some_come old mid now who file more same at = omega (arith, more at, same at)

pub comes_back : (old mid now new : BTreeMap Stand ℕ) (who file : ℕ) → ComesOne old mid who file → ((at : Stand) → many_at now at ≡ many_at mid at) → ((at : Stand) → one (is_here at who file) + many_at new at ≡ many_at now at) → (at : Stand) → many_at new at ≡ many_at old at
comes_back old mid now new who file more same fewer at = omega (arith, more at, same at, fewer at)

pub some_here : (stands : BTreeMap Stand ℕ) (c : Claim) → ((at : Stand) → bears at c ≤ many_at stands at) → (at : Stand) → one (is_here at (who_of c.party) c.file) ≤ many_at stands at
some_here stands c some at = omega (arith, some at)

pub some_owned : (old mid : BTreeMap Stand ℕ) (c : Claim) → ((at : Stand) → bears at c ≤ many_at old at) → ((at : Stand) → one (is_here at (who_of c.party) c.file) + many_at mid at ≡ many_at old at) → (at : Stand) → owned_here at c.file c.owner ≤ many_at mid at
some_owned old mid c some fewer at = omega (arith, some at, fewer at)

pub goes_both : (old mid new : BTreeMap Stand ℕ) (c : Claim) → ((at : Stand) → one (is_here at (who_of c.party) c.file) + many_at mid at ≡ many_at old at) → ((at : Stand) → owned_here at c.file c.owner + many_at new at ≡ many_at mid at) → (at : Stand) → bears at c + many_at new at ≡ many_at old at
goes_both old mid new c whose owned at = omega (arith, whose at, owned at)
