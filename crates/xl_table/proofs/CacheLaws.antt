-- Caches stand behind a file's other claims: there is one exactly where the last claim is one.
use Rattle.std.proofs.Common.{◌≡◌, ℕ, suc, ◌-◌, ◌<◌, Bool, true, false, ◌&&◌, ◌||◌, ◌==◌, nat_lt, List, [], ◌∷◌, ◌++◌, length, get_or, Option, refl, sym, ap, subst, ◌∙◌, inl, inr, arith}
use Rattle.std.proofs.lemmas.Bool.{cases_Bool}
use Rattle.std.proofs.lemmas.Bool.Decides.{nat_tests}
use Rattle.std.proofs.lemmas.List.{append-nil, length-append}
use Rattle.std.specs.List.{list_any, slice_get}
use Rattle.xl_base.specs.Lists.{Pairwise}
use Rattle.xl_matrix.specs.declared.claim.Claim.{Claim}
use Rattle.xl_matrix.specs.declared.claim.What.{What}
use Rattle.xl_matrix.specs.declared.claim.What.TheVariants.{Share, Range, Cache}
use Rattle.xl_table.specs.Files.{AreOn}
use Rattle.xl_table.specs.Held.{is_cache}
use Rattle.xl_table.specs.Order.{goes_first, no_later, key, key_by}
use Rattle.xl_table.specs.Pages.{paged, AreFull}
use Rattle.xl_table.specs.Sections.{is_cache_there, ends_in_cache}
use Rattle.xl_table.proofs.PageLaws.{get_late}

abbrev is_cached : ℕ → Claim → Bool
is_cached file c = (c.file == file) && is_cache c.what

one_file : (m n f : ℕ) → (nat_lt m n || (m == n) && false) ≡ true → (m == f) ≡ true → (n == f) ≡ true → false ≡ true
one_file m n f h e k = grind (arith, nat_tests)

cache_by : (file : ℕ) (c d : Claim) (v w : What) → no_later (key_by c v) (key_by d w) ≡ true → (c.file == file) ≡ true → (d.file == file) ≡ true → is_cache v ≡ true → is_cache w ≡ true
cache_by file c d (Cache x y) (Cache z t) h e k is = refl
cache_by file c d (Cache x y) (Share z t) h e k is = one_file c.file d.file file h e k
cache_by file c d (Cache x y) (Range z t) h e k is = one_file c.file d.file file h e k
cache_by file c d (Share x y) w h e k is = cc
cache_by file c d (Range x y) w h e k is = cc

-- what stands behind a cache of a file is one
cache_behind : (file : ℕ) (c d : Claim) → goes_first c d ≡ true → (c.file == file) ≡ true → (d.file == file) ≡ true → is_cache c.what ≡ true → is_cache d.what ≡ true
unfolding key
cache_behind file c d h e k is = cache_by file c d c.what d.what h e k is

any_last : (file : ℕ) (cs : List Claim) → AreOn file cs → Pairwise goes_first cs → ends_in_cache cs ≡ list_any (is_cached file) cs
any_last file [] own ordered = refl
any_last file (c ∷ []) own ordered = elim (cases_Bool (is_cache c.what)) [ inl e ↦ rw (own.0, e) refl | inr e ↦ rw (own.0, e) refl ]
any_last file (c ∷ d ∷ ds) own ordered =
    let rest = any_last file (d ∷ ds) own.1 ordered.1 in
    let place : length (c ∷ d ∷ ds) - 1 ≡ suc (length (d ∷ ds) - 1) = omega arith in
    let last : ends_in_cache (c ∷ d ∷ ds) ≡ ends_in_cache (d ∷ ds) = ap (λ (n : ℕ). is_cache_there (slice_get (c ∷ d ∷ ds) n)) place in
    last ∙ rest ∙ elim (cases_Bool (is_cache c.what)) [
      | inl e ↦ let next = cache_behind file c d ordered.0.0 own.0 own.1.0 e in rw (own.0, e, own.1.0, next) refl
      | inr e ↦ rw (own.0, e) refl
    ]

pub cache_is_last : (file : ℕ) (cs : List Claim) (b : Bool) → AreOn file cs → Pairwise goes_first cs → b ≡ ends_in_cache cs → b ≡ list_any (λ c. (c.file == file) && is_cache c.what) cs
cache_is_last file cs b own ordered is = is ∙ any_last file cs own ordered

-- the last claim of the last page is the last of all
pub last_page : (ps : List (List Claim)) (last : ℕ) (p : List Claim) → last ≡ length ps - 1 → AreFull ps → 0 < length ps → p ≡ get_or ps last p → ends_in_cache p ≡ ends_in_cache (paged ps)
last_page ps last p at full some is = go ps full some (subst (λ (n : ℕ). p ≡ get_or ps n p) at is) where
  go : (ps : List (List Claim)) → AreFull ps → 0 < length ps → p ≡ get_or ps (length ps - 1) p → ends_in_cache p ≡ ends_in_cache (paged ps)
  go [] full some is = absurd (omega (arith, some))
  go (q ∷ []) full some is = ap (λ (cs : List Claim). ends_in_cache cs) (is ∙ sym (append-nil q))
  go (q ∷ r ∷ rs) full some is =
      let behind = paged (r ∷ rs) in
      let place : length (q ∷ r ∷ rs) - 1 ≡ suc (length (r ∷ rs) - 1) = omega arith in
      let rest = go (r ∷ rs) full.1 (omega arith) (is ∙ ap (λ (n : ℕ). get_or (q ∷ r ∷ rs) n p) place) in
      let long : 0 < length behind = omega (arith, full.1.0, length-append r (paged rs)) in
      let all = length-append q behind in
      let less : (length (q ++ behind) - 1) - length q ≡ length behind - 1 = omega (arith, all, long) in
      rest
      ∙ ap (λ (n : ℕ). is_cache_there (slice_get behind n)) (sym less)
      ∙ ap (λ (o : Option Claim). is_cache_there o) (get_late q behind (length (q ++ behind) - 1) (omega (arith, all, long)))
