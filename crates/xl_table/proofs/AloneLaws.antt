-- What is done to a claim of a file, or to all claims of one, is done to that file's claims alone.
use Rattle.std.proofs.Common.{◌≡◌, ℕ, Bool, true, false, not, ◌&&◌, ◌||◌, ◌==◌, nat_lt, List, [], ◌∷◌, ◌++◌, map, Option, Some, inl, inr, refl, sym, ap, subst, ◌∙◌, arith}
use Rattle.std.specs.List.{AllByRecursion, filter, list_any}
use Rattle.std.proofs.lemmas.Bool.{cases_Bool, both_ways, eq-eqb, eqb-true}
use Rattle.std.proofs.lemmas.Bool.Decides.{nat_tests}
use Rattle.std.proofs.lemmas.List.{append-nil}
use Rattle.std.proofs.lemmas.List.Elements.{filter-append}
use Rattle.xl_base.specs.Lists.{Pairwise}
use Rattle.xl_base.proofs.Members.{all_weaker, all_from, in_filter_from}
use Rattle.xl_base.specs.declared.name.Owner.{Owner}
use Rattle.xl_base.specs.declared.name.Party.{Party}
use Rattle.xl_matrix.specs.declared.claim.Claim.{Claim}
use Rattle.xl_matrix.specs.declared.claim.Extent.TheVariants.{Bytes, Empty}
use Rattle.xl_matrix.specs.declared.claim.What.{What}
use Rattle.xl_matrix.specs.declared.claim.What.TheVariants.{Share, Range, Cache}
use Rattle.xl_matrix.specs.Equal.{same_claims}
use Rattle.xl_matrix.specs.Owners.{posix}
use Rattle.xl_spans.specs.Spans.{relocked}
use Rattle.xl_spans.specs.declared.span.Mode.{Mode}
use Rattle.xl_spans.specs.declared.span.Span.{Span}
use Rattle.xl_table.specs.Files.{AreOn, here, alone}
use Rattle.xl_table.specs.Flat.{inserted, removed, changed, with_what}
use Rattle.xl_table.specs.Held.{spans_of, mode_of}
use Rattle.xl_table.specs.Order.{key_by, key, goes_first, no_later}
use Rattle.xl_table.specs.Relock.{range_claim, is_range_of, unranged, all_inserted, relocked_in, is_share_of, unshared, old_shares, united_by, united, shared_in, granted_by, granted_claims}
use Rattle.xl_table.proofs.FileLaws.{all_pass, none_pass, all_filtered, here_on}
use Rattle.xl_table.proofs.FlatLaws.{all_removed, all_inserted as all_put}
use Rattle.xl_table.proofs.InsertLaws.{spans_of-append}
use Rattle.xl_table.proofs.SectionLaws.{any_within}

-- ---- a flat list in three parts: the claims of the files before one, its own, and those behind

-- claims on files before one, on it, and on files behind it
pub record AreParts (file : ℕ) (front on back : List Claim) : Type 0 where
  pub early : AllByRecursion (λ c. nat_lt c.file file ≡ true) front
  pub own : AreOn file on
  pub late : AllByRecursion (λ c. nat_lt file c.file ≡ true) back

pub ordered_files : (a b : Claim) → goes_first a b ≡ true → nat_lt b.file a.file ≡ false
unfolding key
ordered_files a b h = by a.what b.what h where
  step : (m n : ℕ) (rest : Bool) → (nat_lt m n || (m == n) && rest) ≡ true → nat_lt n m ≡ false
  step m n true h = grind (arith, nat_tests)
  step m n false h = grind (arith, nat_tests)

  by : (v w : What) → no_later (key_by a v) (key_by b w) ≡ true → nat_lt b.file a.file ≡ false
  by (Share x y) (Share z u) h = step a.file b.file _ h
  by (Share x y) (Range z u) h = step a.file b.file _ h
  by (Share x y) (Cache z u) h = step a.file b.file _ h
  by (Range x y) (Share z u) h = step a.file b.file _ h
  by (Range x y) (Range z u) h = step a.file b.file _ h
  by (Range x y) (Cache z u) h = step a.file b.file _ h
  by (Cache x y) (Share z u) h = step a.file b.file _ h
  by (Cache x y) (Range z u) h = step a.file b.file _ h
  by (Cache x y) (Cache z u) h = step a.file b.file _ h

-- a list in order stands as the three parts of each file
pub in_files : (file : ℕ) (cs : List Claim) → Pairwise goes_first cs → cs ≡ alone file (λ on. on) cs
in_files file [] ordered = refl
in_files file (c ∷ cs) ordered =
    let rest = in_files file cs ordered.1 in
    elim (cases_Bool (nat_lt c.file file)) [
      | inl early ↦ rw (early, apart_early c.file file early, not_late c.file file early) (ap (λ (ds : List Claim). c ∷ ds) rest)
      | inr other ↦ elim (cases_Bool (c.file == file)) [
        | inl own ↦
            let none : filter (λ d. nat_lt d.file file) cs ≡ [] = none_pass (λ d. nat_lt d.file file) cs (all_weaker (λ d. goes_first c d ≡ true) (λ d. nat_lt d.file file ≡ false) cs (λ d h. own_next c.file file d.file own (ordered_files c d h)) ordered.0) in
            rw (other, own, own_late c.file file own, none) (ap (λ (ds : List Claim). c ∷ ds) (rw none at rest))
        | inr apart ↦
            let none : filter (λ d. nat_lt d.file file) cs ≡ [] = none_pass (λ d. nat_lt d.file file) cs (all_weaker (λ d. goes_first c d ≡ true) (λ d. nat_lt d.file file ≡ false) cs (λ d h. late_next c.file file d.file other (ordered_files c d h)) ordered.0) in
            let nothing : here file cs ≡ [] = none_pass (λ d. d.file == file) cs (all_weaker (λ d. goes_first c d ≡ true) (λ d. (d.file == file) ≡ false) cs (λ d h. late_apart c.file file d.file other apart (ordered_files c d h)) ordered.0) in
            rw (other, apart, is_late c.file file other apart, none, nothing) (ap (λ (ds : List Claim). c ∷ ds) (rw (none, nothing) at rest))
      ]
    ]
  where
    apart_early : (n m : ℕ) → nat_lt n m ≡ true → (n == m) ≡ false
    apart_early n m h = grind (arith, nat_tests)

    not_late : (n m : ℕ) → nat_lt n m ≡ true → nat_lt m n ≡ false
    not_late n m h = grind (arith, nat_tests)

    own_late : (n m : ℕ) → (n == m) ≡ true → nat_lt m n ≡ false
    own_late n m h = grind (arith, nat_tests)

    own_next : (n m k : ℕ) → (n == m) ≡ true → nat_lt k n ≡ false → nat_lt k m ≡ false
    own_next n m k h e = grind (arith, nat_tests)

    late_next : (n m k : ℕ) → nat_lt n m ≡ false → nat_lt k n ≡ false → nat_lt k m ≡ false
    late_next n m k h e = grind (arith, nat_tests)

    late_apart : (n m k : ℕ) → nat_lt n m ≡ false → (n == m) ≡ false → nat_lt k n ≡ false → (k == m) ≡ false
    late_apart n m k h e g = grind (arith, nat_tests)

    is_late : (n m : ℕ) → nat_lt n m ≡ false → (n == m) ≡ false → nat_lt m n ≡ true
    is_late n m h e = grind (arith, nat_tests)

pub parts_of : (file : ℕ) (cs : List Claim) → AreParts file (filter (λ c. nat_lt c.file file) cs) (here file cs) (filter (λ c. nat_lt file c.file) cs)
parts_of file cs = record {
  early = all_from (λ c. nat_lt c.file file ≡ true) (filter (λ c. nat_lt c.file file) cs) (λ c h. (in_filter_from (λ d. nat_lt d.file file) c cs h).1);
  own = here_on file cs;
  late = all_from (λ c. nat_lt file c.file ≡ true) (filter (λ c. nat_lt file c.file) cs) (λ c h. (in_filter_from (λ d. nat_lt file d.file) c cs h).1);
}

early_other : (file : ℕ) (cs : List Claim) → AllByRecursion (λ c. nat_lt c.file file ≡ true) cs → AllByRecursion (λ c. (c.file == file) ≡ false) cs
early_other file cs all = all_weaker (λ c. nat_lt c.file file ≡ true) (λ c. (c.file == file) ≡ false) cs (λ c h. step c.file file h) all where
  step : (n m : ℕ) → nat_lt n m ≡ true → (n == m) ≡ false
  step n m h = grind (arith, nat_tests)

late_other : (file : ℕ) (cs : List Claim) → AllByRecursion (λ c. nat_lt file c.file ≡ true) cs → AllByRecursion (λ c. (c.file == file) ≡ false) cs
late_other file cs all = all_weaker (λ c. nat_lt file c.file ≡ true) (λ c. (c.file == file) ≡ false) cs (λ c h. step c.file file h) all where
  step : (n m : ℕ) → nat_lt m n ≡ true → (n == m) ≡ false
  step n m h = grind (arith, nat_tests)

-- a filter that all claims of other files pass
filtered_parts : (p : Claim → Bool) (file : ℕ) (front on back : List Claim) → ((c : Claim) → (c.file == file) ≡ false → p c ≡ true) → AreParts file front on back → filter p (front ++ (on ++ back)) ≡ front ++ (filter p on ++ back)
filtered_parts p file front on back out parts =
    filter-append p front (on ++ back)
    ∙ ap (λ (ds : List Claim). ds ++ filter p (on ++ back)) (all_pass p front (all_weaker (λ c. (c.file == file) ≡ false) (λ c. p c ≡ true) front out (early_other file front parts.early)))
    ∙ ap (λ (ds : List Claim). front ++ ds) (filter-append p on back ∙ ap (λ (ds : List Claim). filter p on ++ ds) (all_pass p back (all_weaker (λ c. (c.file == file) ≡ false) (λ c. p c ≡ true) back out (late_other file back parts.late))))

-- and one that none of them passes
picked_parts : (p : Claim → Bool) (file : ℕ) (front on back : List Claim) → ((c : Claim) → (c.file == file) ≡ false → p c ≡ false) → AreParts file front on back → filter p (front ++ (on ++ back)) ≡ filter p on
picked_parts p file front on back out parts =
    filter-append p front (on ++ back)
    ∙ ap (λ (ds : List Claim). ds ++ filter p (on ++ back)) (none_pass p front (all_weaker (λ c. (c.file == file) ≡ false) (λ c. p c ≡ false) front out (early_other file front parts.early)))
    ∙ filter-append p on back
    ∙ ap (λ (ds : List Claim). filter p on ++ ds) (none_pass p back (all_weaker (λ c. (c.file == file) ≡ false) (λ c. p c ≡ false) back out (late_other file back parts.late)))
    ∙ append-nil (filter p on)

pub here_parts : (file : ℕ) (front on back : List Claim) → AreParts file front on back → here file (front ++ (on ++ back)) ≡ on
here_parts file front on back parts = picked_parts (λ c. c.file == file) file front on back (λ c h. h) parts ∙ all_pass (λ c. c.file == file) on parts.own

-- what is done to a file's claims alone leaves the other parts
pub alone_parts : (file : ℕ) (act : List Claim → List Claim) (front on back : List Claim) → AreParts file front on back → alone file act (front ++ (on ++ back)) ≡ front ++ (act on ++ back)
alone_parts file act front on back parts =
    ap (λ (ds : List Claim). ds ++ (act (here file whole) ++ filter (λ c. nat_lt file c.file) whole)) earlier
    ∙ ap (λ (ds : List Claim). front ++ (act ds ++ filter (λ c. nat_lt file c.file) whole)) own
    ∙ ap (λ (ds : List Claim). front ++ (act on ++ ds)) later
  where
    whole : List Claim
    whole = front ++ (on ++ back)

    split : (p : Claim → Bool) → filter p whole ≡ filter p front ++ (filter p on ++ filter p back)
    split p = filter-append p front (on ++ back) ∙ ap (λ (ds : List Claim). filter p front ++ ds) (filter-append p on back)

    same_early : (n m : ℕ) → (n == m) ≡ true → nat_lt n m ≡ false
    same_early n m h = grind (arith, nat_tests)

    same_late : (n m : ℕ) → (n == m) ≡ true → nat_lt m n ≡ false
    same_late n m h = grind (arith, nat_tests)

    turned : (n m : ℕ) → nat_lt n m ≡ true → nat_lt m n ≡ false
    turned n m h = grind (arith, nat_tests)

    earlier : filter (λ c. nat_lt c.file file) whole ≡ front
    earlier =
        split (λ c. nat_lt c.file file)
        ∙ ap (λ (ds : List Claim). ds ++ (filter (λ c. nat_lt c.file file) on ++ filter (λ c. nat_lt c.file file) back)) (all_pass (λ c. nat_lt c.file file) front parts.early)
        ∙ ap (λ (ds : List Claim). front ++ (ds ++ filter (λ c. nat_lt c.file file) back)) (none_pass (λ c. nat_lt c.file file) on (all_weaker (λ c. (c.file == file) ≡ true) (λ c. nat_lt c.file file ≡ false) on (λ c h. same_early c.file file h) parts.own))
        ∙ ap (λ (ds : List Claim). front ++ ds) (none_pass (λ c. nat_lt c.file file) back (all_weaker (λ c. nat_lt file c.file ≡ true) (λ c. nat_lt c.file file ≡ false) back (λ c h. turned file c.file h) parts.late))
        ∙ append-nil front

    own : here file whole ≡ on
    own = here_parts file front on back parts

    later : filter (λ c. nat_lt file c.file) whole ≡ back
    later =
        split (λ c. nat_lt file c.file)
        ∙ ap (λ (ds : List Claim). ds ++ (filter (λ c. nat_lt file c.file) on ++ filter (λ c. nat_lt file c.file) back)) (none_pass (λ c. nat_lt file c.file) front (all_weaker (λ c. nat_lt c.file file ≡ true) (λ c. nat_lt file c.file ≡ false) front (λ c h. turned c.file file h) parts.early))
        ∙ ap (λ (ds : List Claim). ds ++ filter (λ c. nat_lt file c.file) back) (none_pass (λ c. nat_lt file c.file) on (all_weaker (λ c. (c.file == file) ≡ true) (λ c. nat_lt file c.file ≡ false) on (λ c h. same_late c.file file h) parts.own))
        ∙ all_pass (λ c. nat_lt file c.file) back parts.late

-- what passes the parts on is done to the file's claims alone
pub done_alone : (file : ℕ) (act : List Claim → List Claim) → ((front on back : List Claim) → AreParts file front on back → act (front ++ (on ++ back)) ≡ front ++ (act on ++ back)) → (cs : List Claim) → Pairwise goes_first cs → act cs ≡ alone file act cs
done_alone file act over cs ordered = ap act (in_files file cs ordered) ∙ over (filter (λ c. nat_lt c.file file) cs) (here file cs) (filter (λ c. nat_lt file c.file) cs) (parts_of file cs)

-- ---- a claim put in, taken out or changed

earlier_first : (a b : Claim) → nat_lt a.file b.file ≡ true → goes_first a b ≡ true
unfolding key
earlier_first a b h = by a.what b.what where
  step : (m n : ℕ) (rest : Bool) → nat_lt m n ≡ true → (nat_lt m n || (m == n) && rest) ≡ true
  step m n rest h = rw h refl

  by : (v w : What) → no_later (key_by a v) (key_by b w) ≡ true
  by (Share x y) (Share z u) = step a.file b.file _ h
  by (Share x y) (Range z u) = step a.file b.file _ h
  by (Share x y) (Cache z u) = step a.file b.file _ h
  by (Range x y) (Share z u) = step a.file b.file _ h
  by (Range x y) (Range z u) = step a.file b.file _ h
  by (Range x y) (Cache z u) = step a.file b.file _ h
  by (Cache x y) (Share z u) = step a.file b.file _ h
  by (Cache x y) (Range z u) = step a.file b.file _ h
  by (Cache x y) (Cache z u) = step a.file b.file _ h

later_behind : (a b : Claim) → nat_lt b.file a.file ≡ true → goes_first a b ≡ false
later_behind a b h = elim (cases_Bool (goes_first a b)) [ inl e ↦ absurd (both_ways (nat_lt b.file a.file) (ordered_files a b e) h) | inr e ↦ e ]

inserted_among : (claim : Claim) (on back : List Claim) → AllByRecursion (λ c. goes_first c claim ≡ false) back → inserted claim (on ++ back) ≡ inserted claim on ++ back
unfolding inserted
inserted_among claim [] [] late = refl
inserted_among claim [] (c ∷ cs) late = rw late.0 refl
inserted_among claim (c ∷ cs) back late =
    elim (cases_Bool (goes_first c claim)) [
      | inl early ↦ rw early (ap (λ (ds : List Claim). c ∷ ds) (inserted_among claim cs back late))
      | inr behind ↦ rw behind refl
    ]

inserted_behind : (claim : Claim) (front rest : List Claim) → AllByRecursion (λ c. goes_first c claim ≡ true) front → inserted claim (front ++ rest) ≡ front ++ inserted claim rest
unfolding inserted
inserted_behind claim [] rest early = refl
inserted_behind claim (c ∷ cs) rest early = rw early.0 (ap (λ (ds : List Claim). c ∷ ds) (inserted_behind claim cs rest early.1))

pub inserted_parts : (claim : Claim) (front on back : List Claim) → AreParts claim.file front on back → inserted claim (front ++ (on ++ back)) ≡ front ++ (inserted claim on ++ back)
inserted_parts claim front on back parts =
    inserted_behind claim front (on ++ back) (all_weaker (λ c. nat_lt c.file claim.file ≡ true) (λ c. goes_first c claim ≡ true) front (λ c h. earlier_first c claim h) parts.early)
    ∙ ap (λ (ds : List Claim). front ++ ds) (inserted_among claim on back (all_weaker (λ c. nat_lt claim.file c.file ≡ true) (λ c. goes_first c claim ≡ false) back (λ c h. later_behind c claim h) parts.late))

pub inserted_alone : (claim : Claim) (cs : List Claim) → Pairwise goes_first cs → inserted claim cs ≡ alone claim.file (inserted claim) cs
inserted_alone claim cs ordered = done_alone claim.file (inserted claim) (inserted_parts claim) cs ordered

-- a claim on another file is no equal one
pub equal_there : (claim c : Claim) → (c.file == claim.file) ≡ false → same_claims c claim ≡ false
unfolding same_claims
equal_there claim c other = rw other refl

-- whether one that is held equals the claim is seen among its file's
pub equal_here : (claim : Claim) (cs on : List Claim) → on ≡ here claim.file cs → list_any (λ c. same_claims c claim) on ≡ list_any (λ c. same_claims c claim) cs
equal_here claim cs on is = ap (λ (ds : List Claim). list_any (λ c. same_claims c claim) ds) is ∙ any_within (λ c. same_claims c claim) (λ c. c.file == claim.file) cs (equal_there claim)

removed_absent : (claim : Claim) (cs : List Claim) → AllByRecursion (λ c. same_claims c claim ≡ false) cs → removed claim cs ≡ cs
removed_absent claim [] none = refl
removed_absent claim (c ∷ cs) none = rw none.0 (ap (λ (ds : List Claim). c ∷ ds) (removed_absent claim cs none.1))

removed_behind : (claim : Claim) (front rest : List Claim) → AllByRecursion (λ c. same_claims c claim ≡ false) front → removed claim (front ++ rest) ≡ front ++ removed claim rest
removed_behind claim [] rest all = refl
removed_behind claim (c ∷ cs) rest all = rw all.0 (ap (λ (ds : List Claim). c ∷ ds) (removed_behind claim cs rest all.1))

removed_among : (claim : Claim) (on back : List Claim) → AllByRecursion (λ c. same_claims c claim ≡ false) back → removed claim (on ++ back) ≡ removed claim on ++ back
removed_among claim [] back none = removed_absent claim back none
removed_among claim (c ∷ cs) back none =
    elim (cases_Bool (same_claims c claim)) [
      | inl same ↦ rw same refl
      | inr other ↦ rw other (ap (λ (ds : List Claim). c ∷ ds) (removed_among claim cs back none))
    ]

pub removed_parts : (claim : Claim) (front on back : List Claim) → AreParts claim.file front on back → removed claim (front ++ (on ++ back)) ≡ front ++ (removed claim on ++ back)
removed_parts claim front on back parts =
    removed_behind claim front (on ++ back) (all_weaker (λ c. nat_lt c.file claim.file ≡ true) (λ c. same_claims c claim ≡ false) front (λ c h. equal_there claim c (apart_early c.file claim.file h)) parts.early)
    ∙ ap (λ (ds : List Claim). front ++ ds) (removed_among claim on back (all_weaker (λ c. nat_lt claim.file c.file ≡ true) (λ c. same_claims c claim ≡ false) back (λ c h. equal_there claim c (apart_late c.file claim.file h)) parts.late))
  where
    apart_early : (n m : ℕ) → nat_lt n m ≡ true → (n == m) ≡ false
    apart_early n m h = grind (arith, nat_tests)

    apart_late : (n m : ℕ) → nat_lt m n ≡ true → (n == m) ≡ false
    apart_late n m h = grind (arith, nat_tests)

pub removed_alone : (claim : Claim) (cs : List Claim) → Pairwise goes_first cs → removed claim cs ≡ alone claim.file (removed claim) cs
removed_alone claim cs ordered = done_alone claim.file (removed claim) (removed_parts claim) cs ordered

pub changed_alone : (claim : Claim) (to : What) (cs : List Claim) → Pairwise goes_first cs → changed claim to cs ≡ alone claim.file (changed claim to) cs
unfolding changed
changed_alone claim to cs ordered =
    done_alone claim.file (λ held. inserted (with_what claim to) (removed claim held))
    (λ front on back parts.
    ap (λ (ds : List Claim). inserted (with_what claim to) ds) (removed_parts claim front on back parts)
    ∙ inserted_parts (with_what claim to) front (removed claim on) back (record { early = parts.early; own = all_removed (λ c. (c.file == claim.file) ≡ true) claim on parts.own; late = parts.late }))
    cs ordered

-- all stay on the file
pub inserted_on : (claim : Claim) (cs : List Claim) → AreOn claim.file (inserted claim (here claim.file cs))
inserted_on claim cs = all_put (λ c. (c.file == claim.file) ≡ true) claim (here claim.file cs) (eq-eqb claim.file claim.file refl) (here_on claim.file cs)

pub removed_on : (claim : Claim) (cs : List Claim) → AreOn claim.file (removed claim (here claim.file cs))
removed_on claim cs = all_removed (λ c. (c.file == claim.file) ≡ true) claim (here claim.file cs) (here_on claim.file cs)

pub changed_on : (claim : Claim) (to : What) (cs : List Claim) → AreOn claim.file (changed claim to (here claim.file cs))
unfolding changed
changed_on claim to cs = all_put (λ c. (c.file == claim.file) ≡ true) (with_what claim to) (removed claim (here claim.file cs)) (eq-eqb claim.file claim.file refl) (removed_on claim cs)

-- ---- a range locked or unlocked, a share granted

entered_parts : (file : ℕ) (ns front on back : List Claim) → AreOn file ns → AreParts file front on back → all_inserted ns (front ++ (on ++ back)) ≡ front ++ (all_inserted ns on ++ back)
entered_parts file [] front on back own parts = refl
entered_parts file (n ∷ ns) front on back own parts =
    let at : n.file ≡ file = eqb-true n.file file own.0 in
    ap (λ (ds : List Claim). all_inserted ns ds) (inserted_parts n front on back (subst (λ (m : ℕ). AreParts m front on back) (sym at) parts))
    ∙ entered_parts file ns front (inserted n on) back own.1 (record { early = parts.early; own = all_put (λ c. (c.file == file) ≡ true) n on own.0 parts.own; late = parts.late })

pub ranges_on : (file : ℕ) (owner : Owner) (party : Party) (ss : List Span) → AreOn file (map (range_claim file owner party) ss)
ranges_on file owner party [] = tt
ranges_on file owner party (s ∷ ss) = (eq-eqb file file refl, ranges_on file owner party ss)

spans_elsewhere : (file : ℕ) (owner : Owner) (cs : List Claim) → AllByRecursion (λ c. (c.file == file) ≡ false) cs → spans_of file owner cs ≡ []
spans_elsewhere file owner [] all = refl
spans_elsewhere file owner (c ∷ cs) all = rw all.0 (spans_elsewhere file owner cs all.1)

pub spans_parts : (file : ℕ) (owner : Owner) (front on back : List Claim) → AreParts file front on back → spans_of file owner (front ++ (on ++ back)) ≡ spans_of file owner on
spans_parts file owner front on back parts =
    spans_of-append file owner front (on ++ back)
    ∙ ap (λ (ss : List Span). ss ++ spans_of file owner (on ++ back)) (spans_elsewhere file owner front (early_other file front parts.early))
    ∙ spans_of-append file owner on back
    ∙ ap (λ (ss : List Span). spans_of file owner on ++ ss) (spans_elsewhere file owner back (late_other file back parts.late))
    ∙ append-nil (spans_of file owner on)

pub relocked_parts : (file : ℕ) (owner : Owner) (party : Party) (first last : ℕ) (mode : Option Mode) (front on back : List Claim) → AreParts file front on back
    → relocked_in file owner party first last mode (front ++ (on ++ back)) ≡ front ++ (relocked_in file owner party first last mode on ++ back)
unfolding relocked_in unranged
relocked_parts file owner party first last mode front on back parts =
    let new : List Span → List Claim = λ ss. map (range_claim file owner party) (relocked ss first last mode) in
    let left : Claim → Bool = λ c. not (is_range_of file owner c) in
    ap (λ (ss : List Span). all_inserted (new ss) (filter left (front ++ (on ++ back)))) (spans_parts file owner front on back parts)
    ∙ ap (λ (ds : List Claim). all_inserted (new (spans_of file owner on)) ds) (filtered_parts left file front on back (λ c other. rw other refl) parts)
    ∙ entered_parts file (new (spans_of file owner on)) front (filter left on) back (ranges_on file owner party (relocked (spans_of file owner on) first last mode))
    (record { early = parts.early; own = all_filtered (λ c. (c.file == file) ≡ true) left on parts.own; late = parts.late })

pub shared_parts : (c : Claim) (front on back : List Claim) → AreParts c.file front on back → shared_in c (front ++ (on ++ back)) ≡ front ++ (shared_in c on ++ back)
unfolding shared_in unshared old_shares
shared_parts c front on back parts =
    let left : Claim → Bool = λ d. not (is_share_of c.file c.owner d) in
    let one : Claim = united c on in
    ap (λ (ds : List Claim). inserted (with_what c (united_by c.owner c.what ds)) (filter left (front ++ (on ++ back)))) (picked_parts (is_share_of c.file c.owner) c.file front on back (λ d other. rw other refl) parts)
    ∙ ap (λ (ds : List Claim). inserted one ds) (filtered_parts left c.file front on back (λ d other. rw other refl) parts)
    ∙ inserted_parts one front (filter left on) back (record { early = parts.early; own = all_filtered (λ d. (d.file == c.file) ≡ true) left on parts.own; late = parts.late })

pub granted_parts : (c : Claim) (front on back : List Claim) → AreParts c.file front on back → granted_claims c (front ++ (on ++ back)) ≡ front ++ (granted_claims c on ++ back)
unfolding granted_claims
granted_parts c front on back parts = by c.what where
  by : (w : What) → granted_by c w (front ++ (on ++ back)) ≡ front ++ (granted_by c w on ++ back)
  by (Share access deny) = shared_parts c front on back parts
  by (Range (Bytes first last) exclusive) =
      elim (cases_Bool (posix c.owner)) [
        | inl own ↦ rw own (relocked_parts c.file c.owner c.party first last (Some (mode_of exclusive)) front on back parts)
        | inr unnamed ↦ rw unnamed (inserted_parts c front on back parts)
      ]
  by (Range (Empty offset) exclusive) = inserted_parts c front on back parts
  by (Cache kind running) = refl
