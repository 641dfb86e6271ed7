-- The holder of a byte is the least of the ranges that have it.
use Rattle.std.proofs.Common.{◌≡◌, ℕ, Bool, true, false, not, Option, Some, None, IfSome, List, [], ◌∷◌, inl, inr, refl, sym, ap, ◌∙◌, ◌↔◌}
use Rattle.std.specs.Cmp.{IsStrictWeakOrder}
use Rattle.std.specs.List.{AllByRecursion, filter}
use Rattle.std.proofs.lemmas.Bool.{cases_Bool, both_ways}
use Rattle.std.proofs.lemmas.List.MinMax.{IsStrictWeakOrder-from_at_least}
use Rattle.xl_base.proofs.LeastLaws as base
use Rattle.xl_base.proofs.Members.{all_from, all_in, in_filter, in_filter_from}
use Rattle.xl_base.specs.Leasts.{least_by}
use Rattle.xl_base.specs.Lists.{IsIn}
use Rattle.xl_matrix.specs.declared.claim.Claim.{Claim}
use Rattle.xl_table.specs.Order.{no_later}
use Rattle.xl_table.specs.Flat.{comes_before, locks, range_key, holder}
use Rattle.xl_table.proofs.OrderLaws.{no_later-total, no_later-on}

-- it is an order of ranges
range_order : IsStrictWeakOrder comes_before
range_order =
    IsStrictWeakOrder-from_at_least (λ (a b : Claim). no_later (range_key a) (range_key b))
    (λ (a b : Claim) (h : no_later (range_key a) (range_key b) ≡ false). no_later-total (range_key a) (range_key b) h)
    (λ (a b c : Claim) (h : no_later (range_key a) (range_key b) ≡ true) (k : no_later (range_key b) (range_key c) ≡ true). no_later-on (range_key a) (range_key b) (range_key c) h k)

not_not : (b : Bool) → not b ≡ false → b ≡ true
not_not true h = refl
not_not false h = absurd (both_ways true h refl)

none_pass : (p : Claim → Bool) (cs : List Claim) → filter p cs ≡ [] → AllByRecursion (λ c. p c ≡ false) cs
none_pass p [] e = tt
none_pass p (c ∷ cs) e =
    elim (cases_Bool (p c)) [
      | inl passes ↦ (let two : (c ∷ filter p cs) ≡ [] = rw passes at e in absurd cc)
      | inr fails ↦ (fails, none_pass p cs (rw fails at e))
    ]

pass_none : (p : Claim → Bool) (cs : List Claim) → AllByRecursion (λ c. p c ≡ false) cs → filter p cs ≡ []
pass_none p [] all = refl
pass_none p (c ∷ cs) all = rw all.0 (pass_none p cs all.1)

pub holder_none : (found : Option Claim) (file byte : ℕ) (held : List Claim) → found ≡ holder file byte held → (found ≡ None) ↔ AllByRecursion (λ c. locks file byte c ≡ false) held
unfolding holder
holder_none found file byte held is = (
  λ none. none_pass (locks file byte) held (base.least_none comes_before (filter (locks file byte) held) (sym is ∙ none)),
  λ all. is ∙ ap (λ (cs : List Claim). least_by comes_before cs) (pass_none (locks file byte) held all),
)

pub holder_found : (found : Option Claim) (file byte : ℕ) (held : List Claim) → found ≡ holder file byte held → IfSome found (λ c. IsIn c held × (locks file byte c ≡ true))
unfolding holder
holder_found None file byte held is = tt
holder_found (Some c) file byte held is = in_filter_from (locks file byte) c held (base.least_in comes_before (filter (locks file byte) held) c (sym is))

pub holder_least : (found : Option Claim) (file byte : ℕ) (held : List Claim) → found ≡ holder file byte held → IfSome found (λ c. AllByRecursion (λ d. locks file byte d ≡ true → no_later (range_key c) (range_key d) ≡ true) held)
unfolding holder
holder_least None file byte held is = tt
holder_least (Some c) file byte held is =
    let least = base.least_first comes_before range_order (filter (locks file byte) held) c (sym is) in
    all_from (λ (d : Claim). locks file byte d ≡ true → no_later (range_key c) (range_key d) ≡ true) held (λ d here on.
    not_not (no_later (range_key c) (range_key d)) (all_in (λ (x : Claim). comes_before x c ≡ false) d (filter (locks file byte) held) least (in_filter (locks file byte) d held here on)))
