-- Where a claim stands in the list, and the one equal to it; who has a byte.
use Rattle.std.proofs.Common.{◌≡◌, ℕ, ◌+◌, ◌-◌, ◌<◌, ◌≤◌, suc, zero, Bool, true, false, nat_lt, ◌&&◌, ◌||◌, ◌==◌, if◌then◌else◌, List, [], ◌∷◌, ◌++◌, length, take, drop, get_or, Option, None, IsTrue, ◌↔◌, refl, sym, ap, subst, ◌∙◌, inl, inr, arith}
use Rattle.std.proofs.Math.Numerals.{one-add}
use Rattle.std.specs.List.{AllByRecursion, filter, list_any, prefix_len, remove}
use Rattle.std.proofs.Math.Seq.{take-length}
use Rattle.std.proofs.lemmas.List.{append_assoc, length-append, length-drop}
use Rattle.std.proofs.lemmas.List.Elements.{filter-append}
use Rattle.xl_base.proofs.LeastLaws.{least_both}
use Rattle.xl_base.specs.Leasts.{least_from}
use Rattle.xl_base.specs.declared.name.Owner.{Owner}
use Rattle.xl_base.specs.declared.name.Owner.TheVariants as owners
use Rattle.xl_base.specs.declared.name.Party.{Party}
use Rattle.xl_base.specs.declared.name.Party.TheVariants as parties
use Rattle.xl_matrix.specs.declared.claim.What.{What}
use Rattle.xl_matrix.specs.declared.claim.What.TheVariants.{Share, Range, Cache}
use Rattle.xl_base.proofs.Members.{all_in}
use Rattle.xl_base.proofs.Searches.{any_none}
use Rattle.xl_matrix.proofs.EqualLaws.{same_claims-true}
use Rattle.xl_table.specs.Pages.{paged, AreFull, passes, ends, IsFoundAt}
use Rattle.xl_table.specs.declared.marks.Mark.TheVariants.{Before}
use Rattle.xl_table.proofs.PageLaws.{any_more, drop_page, front_passes}
use Rattle.std.proofs.lemmas.Bool.{cases_Bool, both_ways, not-true, false_from_ne_true}
use Rattle.xl_base.specs.Lists.{IsIn, Pairwise, placed}
use Rattle.xl_matrix.specs.declared.claim.Claim.{Claim}
use Rattle.xl_matrix.specs.Equal.{same_claims}
use Rattle.xl_table.specs.Order.{no_later, owner_key, party_key, place_in_group, key_from, key_by, key, goes_first}
use Rattle.xl_table.specs.Flat.{inserted, removed, changed, with_what, comes_before, locks, holder_from, holder}
use Rattle.xl_table.specs.Elements.{taken_back}
use Rattle.xl_table.specs.Sections.{is_no_later_than, is_before, is_upto}
use Rattle.xl_index.specs.Parted.{IsParted}
use Rattle.xl_table.proofs.AloneLaws.{equal_here}
use Rattle.xl_table.proofs.FlatLaws.{held_iff}
use Rattle.xl_table.proofs.OrderLaws.{no_later-on, no_later-self}
use Rattle.xl_table.proofs.SectionLaws.{parted_ordered, before_parted}

-- ---- a claim's place, and the one equal to it

pub place_parted : (claim : Claim) (cs : List Claim) → Pairwise goes_first cs → IsParted (λ c. goes_first c claim) cs
place_parted claim cs ordered = parted_ordered (λ c. goes_first c claim) (λ a b h k. no_later-on (key a) (key b) (key claim) h k) cs ordered

pub placed_at : (claim : Claim) (cs : List Claim) (i : ℕ) → i ≡ prefix_len (λ c. goes_first c claim) cs → inserted claim cs ≡ take i cs ++ claim ∷ drop i cs
unfolding inserted
placed_at claim cs i at = go cs ∙ ap (λ (n : ℕ). take n cs ++ claim ∷ drop n cs) (sym at) where
  go : (ds : List Claim) → placed goes_first claim ds ≡ take (prefix_len (λ c. goes_first c claim) ds) ds ++ claim ∷ drop (prefix_len (λ c. goes_first c claim) ds) ds
  go [] = refl
  go (d ∷ ds) =
      elim (cases_Bool (goes_first d claim)) [
        | inl earlier ↦ rw (earlier, one-add (prefix_len (λ c. goes_first c claim) ds)) (ap (λ (es : List Claim). d ∷ es) (go ds))
        | inr later ↦ rw later refl
      ]

pub held_on_file : (claim : Claim) (cs out : List Claim) (test : Bool) → test ≡ list_any (λ c. same_claims c claim) out → out ≡ filter (λ c. c.file == claim.file) cs → IsTrue test ↔ IsIn claim cs
held_on_file claim cs out test e is =
    held_iff test claim cs (e ∙ equal_here claim cs out is)

one_more : (p : Claim → Bool) (c : Claim) (ds cs : List Claim) → filter p ds ≡ filter p cs → filter p (c ∷ ds) ≡ filter p (c ∷ cs)
one_more p c ds cs same = elim (cases_Bool (p c)) [ inl on ↦ rw on (ap (λ (es : List Claim). c ∷ es) same) | inr off ↦ rw off same ]

-- who has the byte is on the file
on_file : (file byte : ℕ) (cs : List Claim) → filter (locks file byte) (filter (λ c. c.file == file) cs) ≡ filter (locks file byte) cs
on_file file byte [] = refl
on_file file byte (c ∷ cs) =
    let there = filter (λ (d : Claim). d.file == file) cs in
    let rest = on_file file byte cs in
    elim (cases_Bool (c.file == file)) [
      | inl here ↦ subst (λ (b : Bool). filter (locks file byte) (if b then c ∷ there else there) ≡ filter (locks file byte) (c ∷ cs)) (sym here) (one_more (locks file byte) c there cs rest)
      | inr apart ↦ rw apart rest
    ]

pub holder_on_file : (file byte : ℕ) (cs out : List Claim) (found : Option Claim) → found ≡ holder file byte out → out ≡ filter (λ c. c.file == file) cs → found ≡ holder file byte cs
unfolding holder
holder_on_file file byte cs out found e is = e ∙ ap (λ (ds : List Claim). holder_from None file byte ds) is ∙ ap (λ (ds : List Claim). least_from comes_before None ds) (on_file file byte cs)

-- ---- a claim's place by its numbers

same_order : (fs ks : List ℕ) → length fs ≡ length ks → is_no_later_than fs ks ≡ no_later ks fs
same_order [] [] e = refl
same_order [] (k ∷ ks) e = absurd (omega (arith, e))
same_order (f ∷ fs) [] e = absurd (omega (arith, e))
same_order (f ∷ fs) (k ∷ ks) e = ap (λ (b : Bool). nat_lt k f || (k == f) && b) (same_order fs ks (omega (arith, e)))

owner_numbers : (owner : Owner) → length (owner_key owner) ≡ 3
owner_numbers (owners.Name protocol number) = refl
owner_numbers (owners.Open number) = refl

party_numbers : (party : Party) → length (party_key party) ≡ 3
party_numbers (parties.Name protocol number) = refl
party_numbers (parties.Open number) = refl

numbers : (c : Claim) → length (key c) ≡ 6
unfolding key
numbers c = by c.what where
  with_three : (file class place : ℕ) (who : List ℕ) → length who ≡ 3 → length (key_from file class who place) ≡ 6
  with_three file class place who e = omega (arith, e, length-append who (place ∷ []))

  by : (w : What) → length (key_by c w) ≡ 6
  by (Share access deny) = with_three c.file 0 0 (owner_key c.owner) (owner_numbers c.owner)
  by (Range extent exclusive) = with_three c.file 1 (place_in_group c.owner extent) (owner_key c.owner) (owner_numbers c.owner)
  by (Cache kind running) = with_three c.file 2 0 (party_key c.party) (party_numbers c.party)

pub placed_upto : (claim : Claim) (cs : List Claim) (front : List ℕ) (n : ℕ) → front ≡ key claim → n ≡ prefix_len (is_upto front) cs → n ≡ prefix_len (λ held. goes_first held claim) cs
placed_upto claim cs front n is e = e ∙ ap (λ (fs : List ℕ). prefix_len (is_upto fs) cs) is ∙ go cs where
  go : (cs : List Claim) → prefix_len (is_upto (key claim)) cs ≡ prefix_len (λ held. goes_first held claim) cs
  go [] = refl
  go (c ∷ cs) = rw (same_order (key claim) (key c) (numbers claim ∙ sym (numbers c)), go cs) refl

-- ---- the place once another claim is gone

prefix_early : (p : Claim → Bool) (cs : List Claim) (i : ℕ) → i < prefix_len p cs → prefix_len p (remove cs i) ≡ prefix_len p cs - 1
prefix_early p [] i h = absurd (omega (arith, h))
prefix_early p (c ∷ cs) zero h = elim (cases_Bool (p c)) [
  | inl passes ↦ rw passes (omega arith)
  | inr fails ↦ absurd (omega (arith, rw fails at h))
]
prefix_early p (c ∷ cs) (suc i) h = elim (cases_Bool (p c)) [
  | inl passes ↦
      let within : i < prefix_len p cs = omega (arith, rw passes at h) in
      rw (passes, prefix_early p cs i within) (omega (arith, within))
  | inr fails ↦ absurd (omega (arith, rw fails at h))
]

none_first : (p : Claim → Bool) (cs : List Claim) → AllByRecursion (λ d. p d ≡ false) cs → prefix_len p cs ≡ 0
none_first p [] all = refl
none_first p (d ∷ ds) all = rw all.0 refl

prefix_late : (p : Claim → Bool) (cs : List Claim) (i : ℕ) → IsParted p cs → prefix_len p cs ≤ i → prefix_len p (remove cs i) ≡ prefix_len p cs
prefix_late p [] zero parted h = refl
prefix_late p [] (suc i) parted h = refl
prefix_late p (c ∷ cs) zero parted h = elim (cases_Bool (p c)) [
  | inl passes ↦ absurd (omega (arith, rw passes at h))
  | inr fails ↦ rw fails (none_first p cs (parted.0 fails))
]
prefix_late p (c ∷ cs) (suc i) parted h = elim (cases_Bool (p c)) [
  | inl passes ↦
      let past : prefix_len p cs ≤ i = omega (arith, rw passes at h) in
      rw (passes, prefix_late p cs i parted.1 past) refl
  | inr fails ↦ rw fails refl
]

pub placed_without_early : (claim : Claim) (cs : List Claim) (i n : ℕ) → n ≡ prefix_len (λ held. goes_first held claim) cs → i < n → inserted claim (remove cs i) ≡ take (n - 1) (remove cs i) ++ claim ∷ drop (n - 1) (remove cs i)
placed_without_early claim cs i n is h = placed_at claim (remove cs i) (n - 1) (sym (prefix_early (λ held. goes_first held claim) cs i (subst (λ (m : ℕ). i < m) is h) ∙ ap (λ (m : ℕ). m - 1) (sym is)))

pub placed_without_late : (claim : Claim) (cs : List Claim) (i n : ℕ) → Pairwise goes_first cs → n ≡ prefix_len (λ held. goes_first held claim) cs → n ≤ i → inserted claim (remove cs i) ≡ take n (remove cs i) ++ claim ∷ drop n (remove cs i)
placed_without_late claim cs i n ordered is h =
    placed_at claim (remove cs i) n (sym (prefix_late (λ held. goes_first held claim) cs i (place_parted claim cs ordered) (subst (λ (m : ℕ). m ≤ i) is h) ∙ sym is))

-- ---- the claim equal to this one

pub found_early : (claim : Claim) (i : ℕ) (xs ys : List Claim) → (i < length xs) × (list_any (λ held. same_claims held claim) xs ≡ true) × (removed claim xs ≡ take i xs ++ drop (i + 1) xs) → IsFoundAt claim i (xs ++ ys)
found_early claim i xs ys found = record {
  within = omega (arith, found.0, length-append xs ys);
  held = any_more (λ held. same_claims held claim) xs ys ∙ rw found.1 refl;
  rest = let e : i + 1 ≡ suc i = omega arith in removed_first xs found.1 ∙ ap (λ (ds : List Claim). ds ++ ys) (found.2 ∙ ap (λ (n : ℕ). take i xs ++ drop n xs) e) ∙ remove_first xs i found.0;
} where
  removed_first : (xs : List Claim) → list_any (λ held. same_claims held claim) xs ≡ true → removed claim (xs ++ ys) ≡ removed claim xs ++ ys
  removed_first [] h = cc
  removed_first (x ∷ xs) h = elim (cases_Bool (same_claims x claim)) [
    | inl same ↦ rw same refl
    | inr other ↦ rw other (ap (λ (ds : List Claim). x ∷ ds) (removed_first xs (rw other at h)))
  ]

  remove_first : (xs : List Claim) (i : ℕ) → i < length xs → remove xs i ++ ys ≡ remove (xs ++ ys) i
  remove_first [] i h = absurd (omega (arith, h))
  remove_first (x ∷ xs) zero h = refl
  remove_first (x ∷ xs) (suc i) h = ap (λ (ds : List Claim). x ∷ ds) (remove_first xs i (omega (arith, h)))

pub found_late : (claim : Claim) (i n : ℕ) (xs ys : List Claim) → list_any (λ held. same_claims held claim) xs ≡ false → n ≡ length xs → IsFoundAt claim i ys → IsFoundAt claim (n + i) (xs ++ ys)
found_late claim i n xs ys none is found = subst (λ (m : ℕ). IsFoundAt claim (m + i) (xs ++ ys)) (sym is) (go xs none) where
  go : (xs : List Claim) → list_any (λ held. same_claims held claim) xs ≡ false → IsFoundAt claim (length xs + i) (xs ++ ys)
  go [] none = let e : 0 + i ≡ i = omega arith in rw e found
  go (x ∷ xs) none = elim (cases_Bool (same_claims x claim)) [
    | inl same ↦ cc
    | inr other ↦
        let rest = go xs (rw other at none) in
        let e : suc (length xs) + i ≡ suc (length xs + i) = omega arith in
        rw e
        (record {
          within = omega (arith, rest.within);
          held = rw other rest.held;
          rest = rw other (ap (λ (ds : List Claim). x ∷ ds) rest.rest);
        })
  ]

pub found_nowhere : (claim : Claim) (xs ys : List Claim) → list_any (λ held. same_claims held claim) xs ≡ false → list_any (λ held. same_claims held claim) ys ≡ false → list_any (λ held. same_claims held claim) (xs ++ ys) ≡ false
found_nowhere claim xs ys none also = any_more (λ held. same_claims held claim) xs ys ∙ rw (none, also) refl

-- none equal to it stands before its numbers, so it is looked for from there on
paged_cut : (ps : List (List Claim)) (at : ℕ) → paged (take at ps) ++ paged (drop at ps) ≡ paged ps
paged_cut [] zero = refl
paged_cut [] (suc at) = refl
paged_cut (p ∷ ps) zero = refl
paged_cut (p ∷ ps) (suc at) = append_assoc p (paged (take at ps)) (paged (drop at ps)) ∙ ap (λ (cs : List Claim). p ++ cs) (paged_cut ps at)

none_ahead : (claim : Claim) (ps : List (List Claim)) (at : ℕ) (front : List ℕ) → Pairwise goes_first (paged ps) → AreFull ps → front ≡ key claim → at ≡ prefix_len (ends (passes Before front)) ps → list_any (λ held. same_claims held claim) (paged (take at ps)) ≡ false
none_ahead claim ps at front ordered full is e =
    any_none (λ held. same_claims held claim) (paged (take at ps)) (λ d there. false_from_ne_true (same_claims d claim) (λ (h : same_claims d claim ≡ true).
    let passing : AllByRecursion (λ x. is_before front x ≡ true) (paged (take at ps)) = subst (λ (n : ℕ). AllByRecursion (λ x. is_before front x ≡ true) (paged (take n ps))) (sym e) (front_passes (passes Before front) ps full (before_parted front (paged ps) ordered)) in
    let before : is_before front d ≡ true = all_in (λ x. is_before front x ≡ true) d (paged (take at ps)) passing there in
    let own : no_later front (key d) ≡ true = (λ i. no_later (is i) (key (same_claims-true d claim h i))) ∙ no_later-self (key claim) in
    both_ways (no_later front (key d)) (not-true (no_later front (key d)) before) own))

-- the pages from a place on, as a slice
abbrev from_page : ℕ → List (List Claim) → List (List Claim)
from_page at ps = take (length ps - at) (drop at ps)

from_is : (ps : List (List Claim)) (at : ℕ) → from_page at ps ≡ drop at ps
from_is ps at = ap (λ (n : ℕ). take n (drop at ps)) (sym (length-drop at ps)) ∙ take-length (drop at ps)

pub found_behind : (claim : Claim) (i n at : ℕ) (ps : List (List Claim)) (front : List ℕ) → Pairwise goes_first (paged ps) → AreFull ps → front ≡ key claim → at ≡ prefix_len (ends (passes Before front)) ps → n ≡ length (paged (take at ps)) → IsFoundAt claim i (paged (from_page at ps)) → IsFoundAt claim (n + i) (paged ps)
found_behind claim i n at ps front ordered full is e long found =
    subst (λ (cs : List Claim). IsFoundAt claim (n + i) cs) (paged_cut ps at)
    (found_late claim i n (paged (take at ps)) (paged (drop at ps)) (none_ahead claim ps at front ordered full is e) long (subst (λ (qs : List (List Claim)). IsFoundAt claim i (paged qs)) (from_is ps at) found))

pub found_none : (claim : Claim) (at : ℕ) (ps : List (List Claim)) (front : List ℕ) → Pairwise goes_first (paged ps) → AreFull ps → front ≡ key claim → at ≡ prefix_len (ends (passes Before front)) ps → list_any (λ held. same_claims held claim) (paged (from_page at ps)) ≡ false → list_any (λ held. same_claims held claim) (paged ps) ≡ false
found_none claim at ps front ordered full is e none =
    subst (λ (cs : List Claim). list_any (λ held. same_claims held claim) cs ≡ false) (paged_cut ps at)
    (found_nowhere claim (paged (take at ps)) (paged (drop at ps)) (none_ahead claim ps at front ordered full is e) (subst (λ (qs : List (List Claim)). list_any (λ held. same_claims held claim) (paged qs) ≡ false) (from_is ps at) none))

pub room_behind : (ps : List (List Claim)) (at : ℕ) → length (paged (take at ps)) + length (paged (from_page at ps)) ≡ length (paged ps)
room_behind ps at =
    ap (λ (qs : List (List Claim)). length (paged (take at ps)) + length (paged qs)) (from_is ps at) ∙ sym (length-append (paged (take at ps)) (paged (drop at ps))) ∙ ap length (paged_cut ps at)

pub found_there : (claim : Claim) (i : ℕ) (cs : List Claim) → IsFoundAt claim i cs → i + 1 ≤ length cs
found_there claim i cs found = omega (arith, found.within)

pub found_is_held : (claim : Claim) (i : ℕ) (cs : List Claim) → IsFoundAt claim i cs → true ≡ list_any (λ held. same_claims held claim) cs
found_is_held claim i cs found = sym found.held

pub found_removed : (claim : Claim) (i : ℕ) (cs new : List Claim) → IsFoundAt claim i cs → new ≡ take i cs ++ drop (i + 1) cs → new ≡ removed claim cs
found_removed claim i cs new found e = let n : i + 1 ≡ suc i = omega arith in e ∙ ap (λ (m : ℕ). take i cs ++ drop m cs) n ∙ sym found.rest

-- the one before the place is taken out
pub last_removed : (claim : Claim) (i : ℕ) (cs new : List Claim) → i ≡ prefix_len (λ held. goes_first held claim) cs → 0 < i → new ≡ take (i - 1) cs ++ drop i cs → new ≡ taken_back claim cs
unfolding taken_back
last_removed claim i cs new at some e = let next : i ≡ suc (i - 1) = omega (arith, some) in e ∙ ap (λ (n : ℕ). take (i - 1) cs ++ drop n cs) next ∙ ap (λ (n : ℕ). remove cs (n - 1)) at

pub found_changed : (claim : Claim) (to : What) (i n : ℕ) (cs new : List Claim) → IsFoundAt claim i cs → inserted (with_what claim to) (remove cs i) ≡ take n (remove cs i) ++ with_what claim to ∷ drop n (remove cs i) → new ≡ take n (remove cs i) ++ with_what claim to ∷ drop n (remove cs i) → new ≡ changed claim to cs
unfolding changed
found_changed claim to i n cs new found place e = e ∙ sym place ∙ ap (λ (ds : List Claim). inserted (with_what claim to) ds) (sym found.rest)

pub put_at_place : (claim : Claim) (cs new : List Claim) (i : ℕ) → i ≡ prefix_len (λ held. goes_first held claim) cs → new ≡ take i cs ++ ((claim ∷ []) ++ drop i cs) → new ≡ inserted claim cs
put_at_place claim cs new i at e = e ∙ sym (placed_at claim cs i at)

pub holder_more : (least : Option Claim) (file byte : ℕ) (xs ys : List Claim) → holder_from least file byte (xs ++ ys) ≡ holder_from (holder_from least file byte xs) file byte ys
holder_more least file byte xs ys = ap (λ (ds : List Claim). least_from comes_before least ds) (filter-append (locks file byte) xs ys) ∙ least_both comes_before least (filter (locks file byte) xs) (filter (locks file byte) ys)

pub holder_page : (least new whole : Option Claim) (file byte i : ℕ) (ps : List (List Claim)) (p seen : List Claim) → i < length ps → p ≡ get_or ps i p → seen ≡ p → new ≡ holder_from least file byte seen → holder_from least file byte (paged (drop i ps)) ≡ whole → holder_from new file byte (paged (drop (i + 1) ps)) ≡ whole
holder_page least new whole file byte i ps p seen h is same e so_far =
    ap (λ (o : Option Claim). holder_from o file byte (paged (drop (i + 1) ps))) (e ∙ ap (λ (ds : List Claim). holder_from least file byte ds) same)
    ∙ sym (holder_more least file byte p (paged (drop (i + 1) ps)))
    ∙ ap (λ (ds : List Claim). holder_from least file byte ds) (sym (drop_page ps i p h is))
    ∙ so_far
