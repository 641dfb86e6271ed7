-- The least is looked for page by page, and a page all of which begins behind the least so far is passed by.
use Rattle.std.proofs.Common.{◌≡◌, ℕ, ◌+◌, ◌<◌, ◌≤◌, Bool, true, false, not, ◌&&◌, ◌==◌, nat_lt, if◌then◌else◌, List, [], ◌∷◌, drop, length, get_or, Option, Some, None, inl, inr, refl, sym, ap, ◌∙◌, arith}
use Rattle.std.specs.Cmp.Lexicographic.{slice_cmp}
use Rattle.std.specs.List.{AllByRecursion, filter}
use Rattle.std.specs.Ordering.{nat_cmp, is_lt}
use Rattle.std.proofs.lemmas.Bool.{cases_Bool, both_ways}
use Rattle.std.proofs.lemmas.Bool.Decides.{nat_tests}
use Rattle.std.proofs.lemmas.List.Elements.{filter-append}
use Rattle.xl_matrix.specs.declared.claim.Claim.{Claim}
use Rattle.xl_matrix.specs.declared.claim.Extent.TheVariants.{Bytes, Empty}
use Rattle.xl_matrix.specs.declared.claim.What.{What}
use Rattle.xl_matrix.specs.declared.claim.What.TheVariants.{Share, Range, Cache}
use Rattle.xl_names.specs.Texts.{owner_text}
use Rattle.xl_names.specs.declared.name.Name.{Name}
use Rattle.xl_table.specs.Bounds.{is_quiet, IsWithin, AreWithin}
use Rattle.xl_table.specs.Flat.{blocks}
use Rattle.xl_table.specs.Held.{is_range}
use Rattle.xl_base.proofs.LeastLaws.{least_both}
use Rattle.xl_base.specs.Leasts.{least_from}
use Rattle.xl_table.specs.Least.{range_key, before_by, range_before, least, counts, begins_behind, is_beyond}
use Rattle.xl_table.specs.Pages.{paged}
use Rattle.xl_table.specs.declared.bounds.Bounds.{Bounds}
use Rattle.xl_table.proofs.ClearLaws.{quiet_all}
use Rattle.xl_table.proofs.PageLaws.{drop_page}
use Rattle.xl_table.proofs.SectionLaws.{same_filter, filter_within, blocks_there}

-- ---- page by page

pub least_page : (names : List Name) (test : Claim → Bool) (o new whole : Option Claim) (i : ℕ) (ps : List (List Claim)) (p : List Claim) → i < length ps → p ≡ get_or ps i p → new ≡ least_from (range_before names) o (filter test p) → least_from (range_before names) o (filter test (paged (drop i ps))) ≡ whole
    → least_from (range_before names) new (filter test (paged (drop (i + 1) ps))) ≡ whole
least_page names test o new whole i ps p h is e so_far =
    ap (λ (x : Option Claim). least_from (range_before names) x (filter test (paged (drop (i + 1) ps)))) e
    ∙ sym (least_both (range_before names) o (filter test p) (filter test (paged (drop (i + 1) ps))))
    ∙ ap (λ (ds : List Claim). least_from (range_before names) o ds) (sym (filter-append test p (paged (drop (i + 1) ps))) ∙ ap (filter test) (sym (drop_page ps i p h is)))
    ∙ so_far

-- ---- a page that is passed by

begins_later : (k : ℕ × ℕ × ℕ × ℕ) (first last low mode : ℕ) (text : Bool) → k.0 < low → low ≤ first → before_by (first, 1, last, mode) k text ≡ false
begins_later k first last low mode text h w = by k.0 h where
  by : (n : ℕ) → n < low → (if first == n then (if 1 == k.1 then (if last == k.2 then (if mode == k.3 then text else nat_lt mode k.3) else nat_lt last k.2) else nat_lt 1 k.1) else nat_lt first n) ≡ false
  by n less = let other : (first == n) ≡ false = grind (arith, nat_tests) in let later : nat_lt first n ≡ false = grind (arith, nat_tests) in rw (other, later) refl

not_before : (names : List Name) (l d : Claim) (w : What) (b : Bounds) → d.what ≡ w → (not b.mixed && nat_lt (range_key l.what).0 b.low) ≡ true → IsWithin b w → range_before names d l ≡ false
not_before names l d (Range (Bytes first last) exclusive) b is h within =
    let less : (range_key l.what).0 < b.low = part b.mixed (range_key l.what).0 b.low h in
    let text : Bool = is_lt (slice_cmp nat_cmp (owner_text names d.owner) (owner_text names l.owner)) in
    ap (λ (w : What). before_by (range_key w) (range_key l.what) text) is ∙ begins_later (range_key l.what) first last b.low (if exclusive then 0 else 1) text less within.0
  where
    part : (mixed : Bool) (n low : ℕ) → (not mixed && nat_lt n low) ≡ true → n < low
    part true n low h = absurd (both_ways false refl h)
    part false n low h = grind (arith, nat_tests)
not_before names l d (Range (Empty offset) exclusive) b is h within = absurd (both_ways false refl (rw within.0 at h))
not_before names l d (Share access deny) b is h within = absurd (both_ways false refl (rw within.0 at h))
not_before names l d (Cache kind running) b is h within = absurd (both_ways false refl (rw within.0 at h))

passed_over : (names : List Name) (l c : Claim) (cs : List Claim) → range_before names c l ≡ false → least_from (range_before names) (Some l) (c ∷ cs) ≡ least_from (range_before names) (Some l) cs
passed_over names l c cs e = rw e refl

none_before : (names : List Name) (l : Claim) (test : Claim → Bool) (b : Bounds) (cs : List Claim) → (not b.mixed && nat_lt (range_key l.what).0 b.low) ≡ true → AreWithin b cs → least_from (range_before names) (Some l) (filter test cs) ≡ Some l
none_before names l test b [] h all = refl
none_before names l test b (c ∷ cs) h all =
    elim (cases_Bool (test c)) [
      | inr out ↦ rw out (none_before names l test b cs h all.1)
      | inl in_it ↦ rw in_it (passed_over names l c (filter test cs) (not_before names l c c.what b refl h all.0) ∙ none_before names l test b cs h all.1)
    ]

beyond_none : (names : List Name) (o : Option Claim) (test : Claim → Bool) (b : Bounds) (cs : List Claim) → is_beyond o b ≡ true → AreWithin b cs → least_from (range_before names) o (filter test cs) ≡ o
beyond_none names None test b cs h all = absurd (both_ways false refl h)
beyond_none names (Some l) test b cs h all = none_before names l test b cs h all

-- ---- a claim that is passed by

later_first : (a b : ℕ × ℕ × ℕ × ℕ) (text : Bool) → nat_lt b.0 a.0 ≡ true → before_by a b text ≡ false
later_first a b text h =
    let other : (a.0 == b.0) ≡ false = grind (arith, nat_tests) in
    let later : nat_lt a.0 b.0 ≡ false = grind (arith, nat_tests) in
    rw (other, later) refl

behind_one : (names : List Name) (o : Option Claim) (c : Claim) (cs : List Claim) → begins_behind o c ≡ true → least_from (range_before names) o (c ∷ cs) ≡ least_from (range_before names) o cs
behind_one names None c cs h = absurd (both_ways false refl h)
behind_one names (Some l) c cs h = passed_over names l c cs (later_first (range_key c.what) (range_key l.what) (is_lt (slice_cmp nat_cmp (owner_text names c.owner) (owner_text names l.owner))) h)

-- what begins behind the least so far changes nothing
pub behind_stays : (names : List Name) (test : Claim → Bool) (o : Option Claim) (c : Claim) (cs : List Claim) → begins_behind o c ≡ true → least_from (range_before names) o (filter test (c ∷ cs)) ≡ least_from (range_before names) o (filter test cs)
behind_stays names test o c cs h =
    elim (cases_Bool (test c)) [
      | inr out ↦ rw out refl
      | inl in_it ↦ rw in_it (behind_one names o c (filter test cs) h)
    ]

none_counts : (ask : Claim) (ranges : Bool) (cs : List Claim) → AllByRecursion (λ c. blocks ask c ≡ false) cs → filter (counts ask ranges) cs ≡ []
none_counts ask ranges [] all = refl
none_counts ask ranges (c ∷ cs) all = rw all.0 (none_counts ask ranges cs all.1)

pub quiet_counts_none : (names : List Name) (o : Option Claim) (ask : Claim) (ranges b : Bool) (bounds : Bounds) (cs : List Claim) → AreWithin bounds cs → b ≡ is_quiet ask.what bounds → b ≡ true → o ≡ least_from (range_before names) o (filter (counts ask ranges) cs)
quiet_counts_none names o ask ranges b bounds cs all e h = sym (ap (λ (ds : List Claim). least_from (range_before names) o ds) (none_counts ask ranges cs (quiet_all ask bounds cs (sym e ∙ h) all)))

pub beyond_counts_none : (names : List Name) (o : Option Claim) (ask : Claim) (ranges b : Bool) (bounds : Bounds) (cs : List Claim) → AreWithin bounds cs → b ≡ is_beyond o bounds → b ≡ true → o ≡ least_from (range_before names) o (filter (counts ask ranges) cs)
beyond_counts_none names o ask ranges b bounds cs all e h = sym (beyond_none names o (counts ask ranges) bounds cs (sym e ∙ h) all)

-- ---- what counts

and_true : (b : Bool) → (b && true) ≡ b
and_true true = refl
and_true false = refl

pub all_count : (names : List Name) (ask : Claim) (cs : List Claim) → least names (filter (counts ask false) cs) ≡ least names (filter (λ held. blocks ask held) cs)
all_count names ask cs = ap (least names) (same_filter (counts ask false) (λ held. blocks ask held) cs (λ c. and_true (blocks ask c)))

pub ranges_count : (names : List Name) (ask : Claim) (cs : List Claim) → least names (filter (counts ask true) cs) ≡ least names (filter (λ held. is_range held.what) (filter (λ held. blocks ask held) cs))
ranges_count names ask cs = ap (least names) (go cs) where
  go : (ds : List Claim) → filter (counts ask true) ds ≡ filter (λ held. is_range held.what) (filter (λ held. blocks ask held) ds)
  go [] = refl
  go (d ∷ ds) =
      elim (cases_Bool (blocks ask d)) [
        | inr free ↦ rw free (go ds)
        | inl blocked ↦ rw blocked (ap (λ (es : List Claim). if is_range d.what then d ∷ es else es) (go ds))
      ]

-- a file's are all that may count
pub counted_on_file : (names : List Name) (ask : Claim) (ranges : Bool) (cs on : List Claim) → on ≡ filter (λ c. c.file == ask.file) cs → least names (filter (counts ask ranges) on) ≡ least names (filter (counts ask ranges) cs)
counted_on_file names ask ranges cs on is = ap (λ (ds : List Claim). least names (filter (counts ask ranges) ds)) is ∙ ap (least names) (filter_within (counts ask ranges) (λ c. c.file == ask.file) cs (λ c other. rw (blocks_there ask c other) refl))
