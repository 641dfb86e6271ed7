-- What a grant or an unlock makes of a file's claims, it makes of the flat list.
use Rattle.std.proofs.Common.{◌≡◌, ℕ, zero, suc, get_or, ◌+◌, ◌-◌, ◌≤◌, true, false, ◌==◌, nat_lt, List, [], ◌∷◌, ◌++◌, length, take, drop, None, Some, inl, inr, refl, sym, ap, subst, ◌∙◌, arith}
use Rattle.std.proofs.Math.ListN.{set}
use Rattle.std.specs.List.{AllByRecursion, filter}
use Rattle.std.proofs.lemmas.List.{length-append, length-drop, length-take-le}
use Rattle.xl_base.specs.Lists.{Pairwise}
use Rattle.xl_base.proofs.Members.{all_append, all_from, all_in, in_filter_from}
use Rattle.xl_matrix.specs.declared.claim.Claim.{Claim}
use Rattle.xl_matrix.specs.declared.claim.Extent.TheVariants.{Bytes, Empty}
use Rattle.xl_matrix.specs.declared.claim.What.{What}
use Rattle.xl_matrix.specs.declared.claim.What.TheVariants.{Share, Range, Cache}
use Rattle.xl_matrix.specs.Owners.{posix}
use Rattle.xl_table.specs.declared.change.Change.{Change}
use Rattle.xl_table.specs.declared.files.OnFile.{OnFile}
use Rattle.xl_table.specs.Pages.{paged, AreFull}
use Rattle.xl_table.specs.Changes.{spliced, written, IsOn, MayBeWritten}
use Rattle.xl_table.specs.Files.{joined, AreOn, IsFiled, IsAt, here, alone}
use Rattle.xl_table.specs.Held.{is_range, is_real, is_share, has_one_party, mode_of, may_own, IsGrantable, IsShareOrLock, IsSound, IsKept}
use Rattle.xl_table.specs.Order.{goes_first}
use Rattle.xl_table.specs.Relock.{relocked_in, granted_by, granted_claims}
use Rattle.xl_table.proofs.AloneLaws.{in_files, done_alone, relocked_parts, granted_parts}
use Rattle.std.proofs.lemmas.Bool.{cases_Bool, not-true}
use Rattle.xl_table.specs.Flat.{inserted}
use Rattle.xl_table.proofs.ElementLaws.{real_element, sound_element}
use Rattle.xl_table.proofs.OrderLaws.{inserted_ordered}
use Rattle.xl_table.proofs.FileLaws.{here_at, here_on, set_joined, set_filed, IsDone}
use Rattle.xl_table.proofs.ShareLaws.{sound_shared, ordered_shared}
use Rattle.xl_table.proofs.WriteBack.{of_party, sound_relocked, ordered_relocked, kept_filter}

-- a part of the claims is kept, and no longer
pub kept_here : (file : ℕ) (cs on : List Claim) → IsKept cs → on ≡ here file cs → IsKept on
kept_here file cs on kept is = subst (λ (ds : List Claim). IsKept ds) (sym is) (kept_filter (λ c. c.file == file) cs kept)

pub all_here : (ask : Claim) (file : ℕ) (cs on : List Claim) → AllByRecursion (λ c. has_one_party ask c ≡ true) cs → on ≡ here file cs → AllByRecursion (λ c. has_one_party ask c ≡ true) on
all_here ask file cs on all is =
    subst (λ (ds : List Claim). AllByRecursion (λ c. has_one_party ask c ≡ true) ds) (sym is)
    (all_from (λ c. has_one_party ask c ≡ true) (here file cs) (λ c h. all_in (λ d. has_one_party ask d ≡ true) c cs all (in_filter_from (λ d. d.file == file) c cs h).0))

length_parts : (file : ℕ) (cs : List Claim) → Pairwise goes_first cs → length (filter (λ c. nat_lt c.file file) cs) + (length (here file cs) + length (filter (λ c. nat_lt file c.file) cs)) ≡ length cs
length_parts file cs ordered =
    omega (
      arith,
      ap (λ (ds : List Claim). length ds) (in_files file cs ordered),
      length-append (filter (λ c. nat_lt c.file file) cs) (here file cs ++ filter (λ c. nat_lt file c.file) cs),
      length-append (here file cs) (filter (λ c. nat_lt file c.file) cs),
    )

pub short_here : (file : ℕ) (cs on : List Claim) (n : ℕ) → Pairwise goes_first cs → on ≡ here file cs → n ≡ length cs → length on ≤ n
short_here file cs on n ordered is count = omega (arith, count, ap (λ (ds : List Claim). length ds) is, length_parts file cs ordered)

length_spliced : (change : Change) (on : List Claim) → change.start ≤ change.end → change.end ≤ length on → length (spliced change on) + (change.end - change.start) ≡ length on + length change.entered.items
unfolding spliced
length_spliced change on order within =
    omega (
      arith,
      order,
      within,
      length-append (take change.start on) (change.entered.items ++ drop change.end on),
      length-append change.entered.items (drop change.end on),
      length-take-le change.start on (omega (arith, order, within)),
      length-drop change.end on,
    )

counted : (change : Change) (file : ℕ) (cs : List Claim) → Pairwise goes_first cs → IsOn file (length cs) (here file cs) change → change.held ≡ length (alone file (spliced change) cs)
counted change file cs ordered is =
    omega (
      arith,
      is.count,
      is.order,
      is.within,
      length_parts file cs ordered,
      length_spliced change (here file cs) is.order is.within,
      length-append (filter (λ c. nat_lt c.file file) cs) (spliced change (here file cs) ++ filter (λ c. nat_lt file c.file) cs),
      length-append (spliced change (here file cs)) (filter (λ c. nat_lt file c.file) cs),
    )

-- what the change makes of the file's claims, it makes of all
pub record IsWrittenAs (change : Change) (cs after : List Claim) : Type 0 where
  pub claims : written change cs ≡ after
  pub fits : MayBeWritten change cs

written_as : (act : List Claim → List Claim) (change : Change) (file n : ℕ) (cs on : List Claim) → act cs ≡ alone file act cs → Pairwise goes_first cs → on ≡ here file cs → n ≡ length cs
    → spliced change on ≡ act on → IsOn file n on change → IsSound (act cs) → Pairwise goes_first (act cs) → IsWrittenAs change cs (act cs)
unfolding written
written_as act change file n cs on same ordered is count done fits sound after =
    let on_it : IsOn file (length cs) (here file cs) change = subst (λ (ds : List Claim). IsOn file (length cs) ds change) is (subst (λ (m : ℕ). IsOn file m on change) count fits) in
    let whole : alone change.file (spliced change) cs ≡ act cs =
    ap (λ (m : ℕ). alone m (spliced change) cs) on_it.file
    ∙ ap (λ (ds : List Claim). filter (λ c. nat_lt c.file file) cs ++ (ds ++ filter (λ c. nat_lt file c.file) cs)) (ap (spliced change) (sym is) ∙ done ∙ ap act is)
    ∙ sym same in
    record {
      claims = whole;
      fits = record {
        order = on_it.order;
        within = subst (λ (m : ℕ). change.end ≤ length (here m cs)) (sym on_it.file) on_it.within;
        own = subst (λ (m : ℕ). AreOn m change.entered.items) (sym on_it.file) on_it.own;
        sound = subst (λ (ds : List Claim). IsSound ds) (sym whole) sound;
        ordered = subst (λ (ds : List Claim). Pairwise goes_first ds) (sym whole) after;
        count = subst (λ (m : ℕ). change.held ≡ length (alone m (spliced change) cs)) (sym on_it.file) (counted change file cs ordered on_it);
      };
    }

pub unlock_written : (ask : Claim) (first last n : ℕ) (cs on : List Claim) (change : Change) → IsKept cs → posix ask.owner ≡ true → is_range ask.what ≡ true → first ≤ last
    → AllByRecursion (λ c. has_one_party ask c ≡ true) cs → on ≡ here ask.file cs → n ≡ length cs
    → spliced change on ≡ relocked_in ask.file ask.owner ask.party first last None on → IsOn ask.file n on change → IsWrittenAs change cs (relocked_in ask.file ask.owner ask.party first last None cs)
unlock_written ask first last n cs on change kept p range ends one is count done fits =
    let act : List Claim → List Claim = λ held. relocked_in ask.file ask.owner ask.party first last None held in
    written_as act change ask.file n cs on
    (done_alone ask.file act (relocked_parts ask.file ask.owner ask.party first last None) cs kept.ordered) kept.ordered is count done fits
    (sound_relocked ask.file ask.owner ask.party first last None cs kept p ends (of_party ask cs p range one))
    (ordered_relocked ask.file ask.owner ask.party first last None cs kept.ordered)

-- a grant leaves claims that a table may hold
record IsLeft (cs : List Claim) : Type 0 where
  sound : IsSound cs
  ordered : Pairwise goes_first cs

left_entered : (c : Claim) (cs : List Claim) → IsKept cs → posix c.owner ≡ false → is_real c ≡ true → AllByRecursion (λ d. has_one_party c d ≡ true) cs → IsLeft (inserted c cs)
left_entered c cs kept unnamed real one = record { sound = sound_element c cs kept.sound unnamed real one; ordered = inserted_ordered c cs kept.ordered }

left_granted : (c : Claim) (cs : List Claim) → IsKept cs → IsGrantable c → AllByRecursion (λ d. has_one_party c d ≡ true) cs → IsLeft (granted_claims c cs)
unfolding granted_claims
left_granted c cs kept p one = by c.what refl p.0 p.1 where
  by : (w : What) → c.what ≡ w → IsShareOrLock w → may_own c.owner w ≡ true → IsLeft (granted_by c w cs)
  by (Share access deny) is none own = record { sound = sound_shared c cs kept (ap is_share is); ordered = ordered_shared c cs kept }
  by (Range (Bytes first last) exclusive) is ends own =
      elim (cases_Bool (posix c.owner)) [
        | inl named ↦ rw named (record {
          sound = sound_relocked c.file c.owner c.party first last (Some (mode_of exclusive)) cs kept named ends (of_party c cs named (ap is_range is) one);
          ordered = ordered_relocked c.file c.owner c.party first last (Some (mode_of exclusive)) cs kept.ordered;
        })
        | inr unnamed ↦ rw unnamed (left_entered c cs kept unnamed (real_element c (Range (Bytes first last) exclusive) is ends own) one)
      ]
  by (Range (Empty offset) exclusive) is none own = left_entered c cs kept (not-true (posix c.owner) own) (real_element c (Range (Empty offset) exclusive) is none own) one
  by (Cache kind running) is none own = absurd none

pub grant_written : (c : Claim) (n : ℕ) (cs on : List Claim) (change : Change) → IsKept cs → IsGrantable c → AllByRecursion (λ d. has_one_party c d ≡ true) cs → on ≡ here c.file cs → n ≡ length cs
    → spliced change on ≡ granted_claims c on → IsOn c.file n on change → IsWrittenAs change cs (granted_claims c cs)
grant_written c n cs on change kept p one is count done fits =
    let left = left_granted c cs kept p one in
    written_as (granted_claims c) change c.file n cs on (done_alone c.file (granted_claims c) (granted_parts c) cs kept.ordered) kept.ordered is count done fits left.sound left.ordered

-- a change written on its file's list is written

spliced_on : (file : ℕ) (change : Change) (on : List Claim) → AreOn file change.entered.items → AreOn file on → AreOn file (spliced change on)
unfolding spliced
spliced_on file change on entered own =
    all_append (λ c. (c.file == file) ≡ true) (take change.start on) (change.entered.items ++ drop change.end on) (all_taken change.start on own)
    (all_append (λ c. (c.file == file) ≡ true) change.entered.items (drop change.end on) entered (all_dropped change.end on own))
  where
    all_taken : (n : ℕ) (cs : List Claim) → AreOn file cs → AreOn file (take n cs)
    all_taken zero cs all = tt
    all_taken (suc n) [] all = tt
    all_taken (suc n) (c ∷ cs) all = (all.0, all_taken n cs all.1)

    all_dropped : (n : ℕ) (cs : List Claim) → AreOn file cs → AreOn file (drop n cs)
    all_dropped zero cs all = all
    all_dropped (suc n) [] all = tt
    all_dropped (suc n) (c ∷ cs) all = all_dropped n cs all.1

pub write_done : (change : Change) (at : ℕ) (ls : List OnFile) (x y : OnFile) → IsFiled ls → IsAt change.file at ls → MayBeWritten change (joined ls) → x ≡ get_or ls at x → y.file ≡ x.file → AreFull y.pages.items → (paged y.pages.items) ≡ spliced change (paged x.pages.items) → IsDone (written change) ls (set ls at y)
unfolding written
write_done change at ls x y filed there fits is e full done =
    let mine : (paged y.pages.items) ≡ spliced change (here change.file (joined ls)) = done ∙ ap (spliced change) (here_at change.file at ls x filed there is) in
    record {
      claims = set_joined change.file at ls y filed there ∙ ap (λ (ds : List Claim). filter (λ c. nat_lt c.file change.file) (joined ls) ++ (ds ++ filter (λ c. nat_lt change.file c.file) (joined ls))) mine;
      filed = set_filed change.file at ls x y filed there is e (subst (λ (ds : List Claim). AreOn change.file ds) (sym mine) (spliced_on change.file change (here change.file (joined ls)) fits.own (here_on change.file (joined ls)))) full;
    }
