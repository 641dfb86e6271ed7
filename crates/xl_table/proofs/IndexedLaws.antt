-- The index that stands beside the claims, as these change.
use Rattle.std.proofs.Common.{◌≡◌, ℕ, ◌+◌, ◌≤◌, Bool, true, false, nat_lt, nat_le, List, [], ◌∷◌, ◌++◌, length, take, drop, Some, None, refl, sym, ap, subst, ◌∙◌, inl, inr, arith}
use Rattle.std.proofs.lemmas.Bool.{cases_Bool, both_ways}
use Rattle.std.proofs.lemmas.Bool.Decides.{nat_tests}
use Rattle.std.proofs.lemmas.List.{nil_from_length}
use Rattle.std.specs.List.{filter, list_any, slice_range}
use Rattle.xl_base.specs.Lists.{IsIn, Pairwise}
use Rattle.xl_base.specs.declared.event.Moment.{Moment}
use Rattle.xl_index.specs.Totals.{total, AreAlike}
use Rattle.xl_index.specs.Moments.{runs, running}
use Rattle.xl_index.specs.Stands.{bears}
use Rattle.xl_index.specs.Index.{Has, HasCome, HasLeft, IsIndexOf, most_indexed}
use Rattle.xl_index.specs.declared.index.Index.{Index}
use Rattle.xl_index.specs.declared.stands.Stand.{Stand}
use Rattle.xl_index.proofs.IndexLaws.{index_alike}
use Rattle.xl_index.proofs.TotalLaws.{total_append, total_placed, total_parts, total_ones}
use Rattle.xl_matrix.proofs.EqualLaws.{same_claims-true}
use Rattle.xl_matrix.specs.Equal.{same_claims}
use Rattle.xl_matrix.specs.declared.claim.Claim.{Claim}
use Rattle.xl_matrix.specs.declared.claim.What.{What}
use Rattle.xl_matrix.specs.declared.claim.What.TheVariants.{Share, Range, Cache}
use Rattle.xl_table.specs.declared.change.Change.{Change}
use Rattle.xl_table.specs.Changes.{spliced, written, MayBeWritten}
use Rattle.xl_table.specs.Elements.{taken_back, CameLast}
use Rattle.xl_table.specs.Files.{here}
use Rattle.xl_table.specs.Flat.{inserted, removed, changed, with_what, is_due, due_by}
use Rattle.xl_table.specs.Held.{IsKept, most_claims}
use Rattle.xl_table.specs.Order.{goes_first}
use Rattle.xl_table.proofs.AloneLaws.{in_files}
use Rattle.xl_table.proofs.ElementLaws.{back_entered}
use Rattle.xl_table.proofs.FlatLaws.{removed_none, test_from_held}

-- ---- the same claims in another order

alike_inserted : (claim : Claim) (held : List Claim) → AreAlike (claim ∷ held) (inserted claim held)
unfolding inserted
alike_inserted claim held w = sym (total_placed goes_first w claim held)

total_removed : (w : Claim → ℕ) (claim : Claim) (cs : List Claim) → list_any (λ c. same_claims c claim) cs ≡ true → w claim + total w (removed claim cs) ≡ total w cs
total_removed w claim [] h = absurd (both_ways false refl h)
total_removed w claim (c ∷ cs) h =
    elim (cases_Bool (same_claims c claim)) [
      | inl same ↦ rw same (ap (λ (d : Claim). w d + total w cs) (sym (same_claims-true c claim same)))
      | inr other ↦ rw other (omega (arith, total_removed w claim cs (rw other at h)))
    ]

alike_removed : (claim : Claim) (held : List Claim) → list_any (λ c. same_claims c claim) held ≡ true → AreAlike held (claim ∷ removed claim held)
alike_removed claim held h w = sym (total_removed w claim held h)

alike_back : (claim : Claim) (held : List Claim) → CameLast claim held → AreAlike held (claim ∷ taken_back claim held)
alike_back claim held last w =
    omega (arith, ap (total w) (ap (taken_back claim) last.is ∙ back_entered claim last.before), ap (total w) last.is, alike_inserted claim last.before w)

total_files : (w : Claim → ℕ) (file : ℕ) (cs : List Claim) → Pairwise goes_first cs → total w cs ≡ total w (filter (λ c. nat_lt c.file file) cs) + (total w (here file cs) + total w (filter (λ c. nat_lt file c.file) cs))
total_files w file cs ordered =
    let front = filter (λ c. nat_lt c.file file) cs in
    let on = here file cs in
    let back = filter (λ c. nat_lt file c.file) cs in
    omega (arith, ap (total w) (in_files file cs ordered), total_append w front (on ++ back), total_append w on back)

-- those that give way to others once a change is written
abbrev pub gone_in : Change → List Claim → List Claim
gone_in change held = slice_range (here change.file held) change.start change.end

total_written : (w : Claim → ℕ) (change : Change) (cs : List Claim) → Pairwise goes_first cs → change.start ≤ change.end → total w (written change cs) + total w (gone_in change cs) ≡ total w cs + total w change.entered.items
unfolding written spliced
total_written w change cs ordered order =
    let front = filter (λ c. nat_lt c.file change.file) cs in
    let on = here change.file cs in
    let back = filter (λ c. nat_lt change.file c.file) cs in
    let before = take change.start on in
    let behind = drop change.end on in
    omega (
      arith,
      total_files w change.file cs ordered,
      total_parts w change.start change.end on order,
      total_append w front ((before ++ (change.entered.items ++ behind)) ++ back),
      total_append w (before ++ (change.entered.items ++ behind)) back,
      total_append w before (change.entered.items ++ behind),
      total_append w change.entered.items behind,
    )

alike_written : (change : Change) (held : List Claim) → Pairwise goes_first held → MayBeWritten change held → AreAlike (change.entered.items ++ held) (gone_in change held ++ written change held)
alike_written change held ordered fits w =
    omega (arith, total_append w change.entered.items held, total_append w (gone_in change held) (written change held), total_written w change held ordered fits.order)

-- ---- what an index has

pub has_none : (index : Index) (held : List Claim) → IsIndexOf index held → Has index []
has_none index held is = (held, is)

pub still : (old new : Index) (held now : List Claim) → IsIndexOf old held → HasCome old new [] → now ≡ held → IsIndexOf new now
still old new held now is come same = subst (λ (cs : List Claim). IsIndexOf new cs) (sym same) (come held is)

pub none_left : (old new : Index) → new ≡ old → HasLeft old new []
none_left old new same others is = subst (λ (index : Index). IsIndexOf index others) (sym same) is

pub has_come : (old new : Index) (own held : List Claim) → IsIndexOf old held → HasCome old new own → Has new own
has_come old new own held is come = (held, come held is)

-- what came goes again
pub back_again : (old mid new : Index) (own held now : List Claim) → IsIndexOf old held → HasCome old mid own → HasLeft mid new own → now ≡ held → IsIndexOf new now
back_again old mid new own held now is come left same =
    subst (λ (cs : List Claim). IsIndexOf new cs) (sym same) (left held (come held is))

pub one_come : (old new : Index) (claim : Claim) (held : List Claim) → IsIndexOf old held → HasCome old new (claim ∷ []) → Has new (claim ∷ [])
one_come old new claim held is come = (held, come held is)

pub index_inserted : (old new : Index) (claim : Claim) (held now : List Claim) → IsIndexOf old held → HasCome old new (claim ∷ []) → now ≡ inserted claim held → IsIndexOf new now
index_inserted old new claim held now is come same =
    subst (λ (cs : List Claim). IsIndexOf new cs) (sym same) (index_alike new (claim ∷ held) (inserted claim held) (alike_inserted claim held) (come held is))

pub has_equal : (index : Index) (claim : Claim) (held : List Claim) → IsIndexOf index held → list_any (λ c. same_claims c claim) held ≡ true → Has index (claim ∷ [])
has_equal index claim held is h = (removed claim held, index_alike index held (claim ∷ removed claim held) (alike_removed claim held h) is)

pub has_held : (index : Index) (claim : Claim) (held : List Claim) → IsIndexOf index held → IsIn claim held → Has index (claim ∷ [])
has_held index claim held is h = has_equal index claim held is (test_from_held claim held h)

pub index_removed : (old new : Index) (claim : Claim) (held now : List Claim) → IsIndexOf old held → list_any (λ c. same_claims c claim) held ≡ true → HasLeft old new (claim ∷ []) → now ≡ removed claim held → IsIndexOf new now
unfolding has_equal
index_removed old new claim held now is h left same =
    subst (λ (cs : List Claim). IsIndexOf new cs) (sym same) (left (removed claim held) (has_equal old claim held is h).1)

pub index_none : (index : Index) (claim : Claim) (held now : List Claim) → IsIndexOf index held → list_any (λ c. same_claims c claim) held ≡ false → now ≡ removed claim held → IsIndexOf index now
index_none index claim held now is none same = subst (λ (cs : List Claim). IsIndexOf index cs) (sym (same ∙ removed_none claim held none)) is

pub has_last : (index : Index) (claim : Claim) (held : List Claim) → IsIndexOf index held → CameLast claim held → Has index (claim ∷ [])
has_last index claim held is last = (taken_back claim held, index_alike index held (claim ∷ taken_back claim held) (alike_back claim held last) is)

pub index_back : (old new : Index) (claim : Claim) (held now : List Claim) → IsIndexOf old held → CameLast claim held → HasLeft old new (claim ∷ []) → now ≡ taken_back claim held → IsIndexOf new now
unfolding taken_back has_last
index_back old new claim held now is last left same =
    subst (λ (cs : List Claim). IsIndexOf new cs) (sym same) (left (taken_back claim held) (has_last old claim held is last).1)

-- a claim is told where it was, whatever it claims then
pub index_changed : (old new : Index) (claim : Claim) (to : What) (held now : List Claim) → IsIndexOf old held → IsIn claim held
    → ((d : Claim) (others : List Claim) → d.what ≡ to → ((at : Stand) → bears at d ≡ bears at claim) → IsIndexOf old (claim ∷ others) → IsIndexOf new (d ∷ others)) → now ≡ changed claim to held → IsIndexOf new now
unfolding changed has_held has_equal
index_changed old new claim to held now is h recast same =
    let rest = removed claim held in
    let moved = with_what claim to in
    subst (λ (cs : List Claim). IsIndexOf new cs) (sym same)
    (index_alike new (moved ∷ rest) (inserted moved rest) (alike_inserted moved rest) (recast moved rest refl (λ at. refl) (has_held old claim held is h).1))

-- ---- a change is written

pub few_written : (index : Index) (change : Change) (held : List Claim) → IsIndexOf index held → IsKept held → MayBeWritten change held → change.held ≤ most_claims → index.count + length change.entered.items ≤ most_indexed
few_written index change held is kept fits room =
    omega (
      arith,
      is.count,
      kept.room,
      room,
      fits.count,
      total_written (λ c. 1) change held kept.ordered fits.order,
      total_ones (written change held),
      total_ones held,
      total_ones change.entered.items,
      total_files (λ c. 1) change.file held kept.ordered,
      total_parts (λ c. 1) change.start change.end (here change.file held) fits.order,
    )

pub has_gone : (old mid : Index) (change : Change) (held gone : List Claim) → IsIndexOf old held → IsKept held → MayBeWritten change held → HasCome old mid change.entered.items → gone ≡ gone_in change held → Has mid gone
has_gone old mid change held gone is kept fits come same =
    subst (λ (cs : List Claim). Has mid cs) (sym same) (written change held, index_alike mid (change.entered.items ++ held) (gone_in change held ++ written change held) (alike_written change held kept.ordered fits) (come held is))

pub index_written : (old mid new : Index) (change : Change) (held gone now : List Claim) → IsIndexOf old held → IsKept held → MayBeWritten change held → HasCome old mid change.entered.items → gone ≡ gone_in change held → HasLeft mid new gone → now ≡ written change held → IsIndexOf new now
index_written old mid new change held gone now is kept fits come same left done =
    subst (λ (cs : List Claim). IsIndexOf new cs) (sym done)
    (left (written change held) (subst (λ (cs : List Claim). IsIndexOf mid (cs ++ written change held)) (sym same)
    (index_alike mid (change.entered.items ++ held) (gone_in change held ++ written change held) (alike_written change held kept.ordered fits) (come held is))))

-- ---- what is due

runs_due : (n : ℕ) (w : What) → runs (λ m. nat_le m n) w ≡ due_by w n
runs_due n (Cache kind (Some running)) = refl
runs_due n (Cache kind None) = refl
runs_due n (Share x y) = refl
runs_due n (Range x y) = refl

due_counted : (now : Moment) (cs : List Claim) → running (λ m. nat_le m now.0) cs ≡ length (filter (λ c. is_due now c) cs)
due_counted now [] = refl
due_counted now (c ∷ cs) =
    elim (cases_Bool (is_due now c)) [
      | inl e ↦ rw (runs_due now.0 c.what, e) (omega (arith, due_counted now cs))
      | inr e ↦ rw (runs_due now.0 c.what, e) (omega (arith, due_counted now cs))
    ]

none_over : (n : ℕ) → false ≡ nat_lt 0 n → n ≡ 0
none_over n h = grind (arith, nat_tests)

-- where no deadline has come no answer is due
pub none_due : (now : Moment) (held : List Claim) (b : Bool) → b ≡ nat_lt 0 (running (λ m. nat_le m now.0) held) → b ≡ false → filter (λ c. is_due now c) held ≡ []
none_due now held b is h =
    nil_from_length (filter (λ c. is_due now c) held) (omega (arith, none_over (running (λ m. nat_le m now.0) held) (sym h ∙ is), due_counted now held))

pub none_counted : (now : Moment) (held : List Claim) (n : ℕ) → n ≡ running (λ m. nat_le m now.0) held → n ≡ 0 → filter (λ c. is_due now c) held ≡ []
none_counted now held n is h =
    nil_from_length (filter (λ c. is_due now c) held) (omega (arith, h, is, due_counted now held))

pub few_due : (now : Moment) (held : List Claim) (n old new : ℕ) → n ≡ running (λ m. nat_le m now.0) held → new ≤ old + n + 1 → new ≤ old + length (filter (λ c. is_due now c) held) + 1
few_due now held n old new is few = omega (arith, few, is, due_counted now held)
