-- Laws of rows that stand in numbered slots.
use Rattle.std.proofs.Common.{◌≡◌, ℕ, suc, ◌+◌, ◌<◌, ◌≢◌, Bool, true, false, eqb, ◌||◌, cond, List, [], ◌∷◌, ◌++◌, Option, Some, None, is_some, count_by, length, get_or, set, refl, sym, ap, subst, ◌∙◌, inl, inr, arith}
use Rattle.std.specs.Prelude.{nat_eq}
use Rattle.std.specs.List.{AllByRecursion, IsDistinct, list_any}
use Rattle.std.specs.Option.{option_and_then}
use Rattle.std.specs.Map.{keys_of, values_of, lookup, remove_entry, set_value}
use Rattle.std.proofs.lemmas.Bool.{cases_Bool, false≢true, true≢false}
use Rattle.std.proofs.lemmas.Bool.Decides.{nat_tests}
use Rattle.std.proofs.lemmas.List.Sums.{sum_by-set}
use Rattle.std.proofs.lemmas.List.{length-append, get_or-set_same, get_or-set_other, get_or_past}
use Rattle.xl_smb_state.specs.State.{keys_where}
use Rattle.xl_smb_state.proofs.RowLaws.{equal_from, unequal_both, same_Some, some_none}
use Rattle.xl_smb_state.specs.Filed.{in_front, passes, filed, row_at, AreApart, IsFiled}

differs : (k j : ℕ) → eqb k j ≡ false → j ≢ k
differs k j h e = grind (arith, nat_tests)

or_both : (a b : Bool) → (a || b) ≡ false → (a ≡ false) × (b ≡ false)
or_both true b h = absurd (true≢false h)
or_both false b h = (refl, h)

or_neither : (a b : Bool) → a ≡ false → b ≡ false → (a || b) ≡ false
or_neither a b h k = rw h k

apart_value : (k j : ℕ) (es : List (ℕ × ℕ)) → list_any (nat_eq j) (values_of es) ≡ false → eqb j k ≡ false → (n : ℕ) → list_any (nat_eq j) (values_of (es ++ (n, k) ∷ [])) ≡ false
apart_value k j [] h other n = or_neither (eqb j k) false other refl
apart_value k j (e ∷ es) h other n =
    let parts = or_both (eqb j e.1) (list_any (nat_eq j) (values_of es)) h in
    or_neither (eqb j e.1) (list_any (nat_eq j) (values_of (es ++ (n, k) ∷ []))) parts.0 (apart_value k j es parts.1 other n)

apart_push : (n k : ℕ) (es : List (ℕ × ℕ)) → list_any (nat_eq k) (values_of es) ≡ false → AreApart (values_of es) → AreApart (values_of (es ++ (n, k) ∷ []))
apart_push n k [] h apart = (refl, tt)
apart_push n k (e ∷ es) h apart =
    let parts = or_both (eqb k e.1) (list_any (nat_eq k) (values_of es)) h in
    (apart_value k e.1 es apart.0 (unequal_both k e.1 parts.0) n, apart_push n k es parts.1 apart.1)

apart_from_removed : (t : ℕ → Bool) (j : ℕ) (es : List (ℕ × ℕ)) → list_any (nat_eq j) (values_of es) ≡ false → list_any (nat_eq j) (values_of (remove_entry t es)) ≡ false
apart_from_removed t j [] h = refl
apart_from_removed t j (e ∷ es) h =
    let parts = or_both (eqb j e.1) (list_any (nat_eq j) (values_of es)) h in
    elim (cases_Bool (t e.0)) [
      | inl k ↦ rw k parts.1
      | inr k ↦ rw k (or_neither (eqb j e.1) (list_any (nat_eq j) (values_of (remove_entry t es))) parts.0 (apart_from_removed t j es parts.1))
    ]

apart_removed : (t : ℕ → Bool) (es : List (ℕ × ℕ)) → AreApart (values_of es) → AreApart (values_of (remove_entry t es))
apart_removed t [] h = tt
apart_removed t (e ∷ es) h =
    elim (cases_Bool (t e.0)) [
      | inl k ↦ rw k h.1
      | inr k ↦ rw k (apart_from_removed t e.1 es h.0, apart_removed t es h.1)
    ]

named : (t : ℕ → Bool) (es : List (ℕ × ℕ)) (k j : ℕ) → lookup t es ≡ Some k → list_any (nat_eq j) (values_of es) ≡ false → j ≢ k
named t [] k j h apart = absurd (cc)
named t (e ∷ es) k j h apart =
    let parts = or_both (eqb j e.1) (list_any (nat_eq j) (values_of es)) apart in
    elim (cases_Bool (t e.0)) [
      | inl here ↦ λ same. differs j e.1 parts.0 (same_Some (rw here at h) ∙ sym same)
      | inr later ↦ named t es k j (rw later at h) parts.1
    ]

length_removed : (n k : ℕ) (es : List (ℕ × ℕ)) → lookup (nat_eq n) es ≡ Some k → length (remove_entry (nat_eq n) es) + 1 ≡ length es
length_removed n k [] at = absurd (cc)
length_removed n k (e ∷ es) at =
    elim (cases_Bool (eqb n e.0)) [
      | inl here ↦ rw here (omega arith)
      | inr later ↦ rw later (omega (arith, length_removed n k es (rw later at at)))
    ]

module _ {A : Type 0} where
  -- each slot of the index has a row
  abbrev pub AreThere : List (ℕ × ℕ) → List (Option A) → Type 0
  AreThere es slots = AllByRecursion (λ e. is_some (get_or slots e.1 None) ≡ true) es

  length_front : (n : ℕ) (o : Option A) (rest : List (ℕ × A)) → is_some o ≡ true → length (in_front n o rest) ≡ suc (length rest)
  length_front n None rest h = absurd (false≢true h)
  length_front n (Some row) rest h = refl

  length_there : (es : List (ℕ × ℕ)) (slots : List (Option A)) → AreThere es slots → length (filed es slots) ≡ length es
  length_there [] slots there = refl
  length_there (e ∷ es) slots there = length_front e.0 (get_or slots e.1 None) (filed es slots) there.0 ∙ ap suc (length_there es slots there.1)

  pub length_is : (es : List (ℕ × ℕ)) (slots : List (Option A)) → IsFiled es slots → length (filed es slots) ≡ length es
  length_is es slots ok = length_there es slots ok.there

  pub length_whole : (es : List (ℕ × ℕ)) (slots : List (Option A)) (n : ℕ) → IsFiled es slots → n ≡ count_by is_some slots → n ≡ length (filed es slots)
  length_whole es slots n ok is = is ∙ ok.whole ∙ sym (length_is es slots ok)

  find_front : (n key : ℕ) (o : Option A) (rest : List (ℕ × A)) (found : Option A) → is_some o ≡ true → lookup (nat_eq n) rest ≡ found → lookup (nat_eq n) (in_front key o rest) ≡ cond (eqb n key) o found
  find_front n key None rest found h same = absurd (false≢true h)
  find_front n key (Some row) rest found h same = ap (cond (eqb n key) (Some row)) same

  find_there : (n : ℕ) (es : List (ℕ × ℕ)) (slots : List (Option A)) → AreThere es slots → lookup (nat_eq n) (filed es slots) ≡ option_and_then (λ k. get_or slots k None) (lookup (nat_eq n) es)
  find_there n [] slots there = refl
  find_there n (e ∷ es) slots there =
      find_front n e.0 (get_or slots e.1 None) (filed es slots) (option_and_then (λ k. get_or slots k None) (lookup (nat_eq n) es)) there.0 (find_there n es slots there.1)
      ∙ elim (cases_Bool (eqb n e.0)) [ inl k ↦ rw k refl | inr k ↦ rw k refl ]

  -- a search by key is one of the index, and then of the slots
  pub find_is : (n : ℕ) (es : List (ℕ × ℕ)) (slots : List (Option A)) → IsFiled es slots → lookup (nat_eq n) (filed es slots) ≡ option_and_then (λ k. get_or slots k None) (lookup (nat_eq n) es)
  find_is n es slots ok = find_there n es slots ok.there

  slot_in : (n k : ℕ) (es : List (ℕ × ℕ)) (slots : List (Option A)) → AreThere es slots → lookup (nat_eq n) es ≡ Some k → is_some (get_or slots k None) ≡ true
  slot_in n k [] slots there at = absurd (cc)
  slot_in n k (e ∷ es) slots there at =
      elim (cases_Bool (eqb n e.0)) [
        | inl here ↦ subst (λ j. is_some (get_or slots j None) ≡ true) (same_Some (rw here at at)) there.0
        | inr later ↦ slot_in n k es slots there.1 (rw later at at)
      ]

  -- the slot of a key has a row
  pub slot_there : (n k : ℕ) (es : List (ℕ × ℕ)) (slots : List (Option A)) → IsFiled es slots → lookup (nat_eq n) es ≡ Some k → is_some (get_or slots k None) ≡ true
  slot_there n k es slots ok at = slot_in n k es slots ok.there at

  -- a key without a row has no slot
  pub slot_vacant : (n : ℕ) (es : List (ℕ × ℕ)) (slots : List (Option A)) → IsFiled es slots → lookup (nat_eq n) (filed es slots) ≡ None → lookup (nat_eq n) es ≡ None
  slot_vacant n es slots ok h = by (lookup (nat_eq n) es) refl
    where
      by : (o : Option ℕ) → lookup (nat_eq n) es ≡ o → o ≡ None
      by None at = refl
      by (Some k) at = absurd (false≢true (sym (ap is_some (sym (find_is n es slots ok ∙ ap (option_and_then (λ j. get_or slots j None)) at) ∙ h)) ∙ slot_there n k es slots ok at))

  -- ---- a slot changes

  -- all slots but one are as they were
  abbrev pub AreOthersKept : ℕ → List (Option A) → List (Option A) → Type 0
  AreOthersKept k old new = (j : ℕ) → j ≢ k → get_or new j None ≡ get_or old j None

  kept : (k : ℕ) (es : List (ℕ × ℕ)) (old new : List (Option A)) → list_any (nat_eq k) (values_of es) ≡ false → AreOthersKept k old new → filed es new ≡ filed es old
  kept k [] old new h others = refl
  kept k (e ∷ es) old new h others =
      let parts = or_both (eqb k e.1) (list_any (nat_eq k) (values_of es)) h in
      ap (λ o. in_front e.0 o (filed es new)) (others e.1 (differs k e.1 parts.0)) ∙ ap (in_front e.0 (get_or old e.1 None)) (kept k es old new parts.1 others)

  there_kept : (k : ℕ) (es : List (ℕ × ℕ)) (old new : List (Option A)) → list_any (nat_eq k) (values_of es) ≡ false → AreOthersKept k old new → AreThere es old → AreThere es new
  there_kept k [] old new h others there = tt
  there_kept k (e ∷ es) old new h others there =
      let parts = or_both (eqb k e.1) (list_any (nat_eq k) (values_of es)) h in
      (ap is_some (others e.1 (differs k e.1 parts.0)) ∙ there.0, there_kept k es old new parts.1 others there.1)

  -- ---- a row is added

  fresh : (k : ℕ) (es : List (ℕ × ℕ)) (slots : List (Option A)) → AreThere es slots → get_or slots k None ≡ None → list_any (nat_eq k) (values_of es) ≡ false
  fresh k [] slots there vacant = refl
  fresh k (e ∷ es) slots there vacant =
      elim (cases_Bool (eqb k e.1)) [
        | inl h ↦ absurd (false≢true (sym (ap is_some vacant) ∙ ap (λ j. is_some (get_or slots j None)) (sym (equal_from k e.1 h)) ∙ there.0))
        | inr h ↦ or_neither (eqb k e.1) (list_any (nat_eq k) (values_of es)) h (fresh k es slots there.1 vacant)
      ]

  filed_append : (es fs : List (ℕ × ℕ)) (slots : List (Option A)) → filed (es ++ fs) slots ≡ filed es slots ++ filed fs slots
  filed_append [] fs slots = refl
  filed_append (e ∷ es) fs slots = ap (in_front e.0 (get_or slots e.1 None)) (filed_append es fs slots) ∙ front (get_or slots e.1 None)
    where
      front : (o : Option A) → in_front e.0 o (filed es slots ++ filed fs slots) ≡ in_front e.0 o (filed es slots) ++ filed fs slots
      front None = refl
      front (Some row) = refl

  pub filed_added : (n k : ℕ) (row : A) (es fs : List (ℕ × ℕ)) (old new : List (Option A)) → IsFiled es old → get_or old k None ≡ None → fs ≡ es ++ (n, k) ∷ [] → get_or new k None ≡ Some row → AreOthersKept k old new → filed fs new ≡ filed es old ++ (n, row) ∷ []
  filed_added n k row es fs old new ok vacant is changed others =
      ap (λ gs. filed gs new) is
      ∙ filed_append es ((n, k) ∷ []) new
      ∙ ap (λ rows. rows ++ filed ((n, k) ∷ []) new) (kept k es old new (fresh k es old ok.there vacant) others)
      ∙ ap (λ o. filed es old ++ in_front n o []) changed

  there_push : (n k : ℕ) (es : List (ℕ × ℕ)) (slots : List (Option A)) → AreThere es slots → is_some (get_or slots k None) ≡ true → AreThere (es ++ (n, k) ∷ []) slots
  there_push n k [] slots there h = (h, tt)
  there_push n k (e ∷ es) slots there h = (there.0, there_push n k es slots there.1 h)

  pub is_filed_added : (n k : ℕ) (row : A) (es fs : List (ℕ × ℕ)) (old new : List (Option A)) → IsFiled es old → get_or old k None ≡ None → fs ≡ es ++ (n, k) ∷ [] → get_or new k None ≡ Some row → AreOthersKept k old new → count_by is_some new ≡ count_by is_some old + 1 → IsFiled fs new
  is_filed_added n k row es fs old new ok vacant is changed others more =
      let apart = fresh k es old ok.there vacant in
      subst (λ gs. IsFiled gs new) (sym is) (record {
        there = there_push n k es new (there_kept k es old new apart others ok.there) (ap is_some changed);
        apart = apart_push n k es apart ok.apart;
        whole = omega (arith, more, ok.whole, length-append es ((n, k) ∷ []));
      })

  -- ---- a row is changed

  set_front : (n key : ℕ) (o : Option A) (rest : List (ℕ × A)) (row : A) → is_some o ≡ true → set_value (nat_eq n) (in_front key o rest) row ≡ cond (eqb n key) ((key, row) ∷ rest) (in_front key o (set_value (nat_eq n) rest row))
  set_front n key None rest row h = absurd (false≢true h)
  set_front n key (Some old) rest row h = refl

  changed_there : (n k : ℕ) (row : A) (es : List (ℕ × ℕ)) (old new : List (Option A)) → AreThere es old → AreApart (values_of es) → lookup (nat_eq n) es ≡ Some k → get_or new k None ≡ Some row → AreOthersKept k old new → filed es new ≡ set_value (nat_eq n) (filed es old) row
  changed_there n k row [] old new there apart at changed others = refl
  changed_there n k row (e ∷ es) old new there apart at changed others =
      elim (cases_Bool (eqb n e.0)) [
        | inl here ↦
            let same : e.1 ≡ k = same_Some (rw here at at) in
            ap (λ j. in_front e.0 (get_or new j None) (filed es new)) same
            ∙ ap (λ o. in_front e.0 o (filed es new)) changed
            ∙ ap (λ rest. (e.0, row) ∷ rest) (kept k es old new (subst (λ j. list_any (nat_eq j) (values_of es) ≡ false) same apart.0) others)
            ∙ sym (set_front n e.0 (get_or old e.1 None) (filed es old) row there.0 ∙ rw here refl)
        | inr later ↦
            ap (λ o. in_front e.0 o (filed es new)) (others e.1 (named (nat_eq n) es k e.1 (rw later at at) apart.0))
            ∙ ap (in_front e.0 (get_or old e.1 None)) (changed_there n k row es old new there.1 apart.1 (rw later at at) changed others)
            ∙ sym (set_front n e.0 (get_or old e.1 None) (filed es old) row there.0 ∙ rw later refl)
      ]

  pub filed_changed : (n k : ℕ) (row : A) (es : List (ℕ × ℕ)) (old new : List (Option A)) → IsFiled es old → lookup (nat_eq n) es ≡ Some k → get_or new k None ≡ Some row → AreOthersKept k old new → filed es new ≡ set_value (nat_eq n) (filed es old) row
  filed_changed n k row es old new ok at changed others = changed_there n k row es old new ok.there ok.apart at changed others

  slot_set : (k : ℕ) (row : A) (slots : List (Option A)) → is_some (get_or slots k None) ≡ true → get_or (set slots k (Some row)) k None ≡ Some row
  slot_set k row slots h = get_or-set_same slots k (Some row) None (grind (arith, get_or_past))

  count_set : (k : ℕ) (row : A) (slots : List (Option A)) → is_some (get_or slots k None) ≡ true → count_by is_some (set slots k (Some row)) ≡ count_by is_some slots
  count_set k row slots h =
      let within : k < length slots = grind (arith, get_or_past) in
      let sums = sum_by-set (λ o. cond (is_some o) 1 0) slots k (Some row) None within in
      let was : cond {A = ℕ} (is_some (get_or slots k None)) 1 0 ≡ 1 = rw h refl in
      omega (arith, sums, was)

  others_set : (k : ℕ) (row : A) (slots : List (Option A)) → AreOthersKept k slots (set slots k (Some row))
  others_set k row slots j apart = get_or-set_other slots k j (Some row) None apart

  still_there : (k : ℕ) (row : A) (es : List (ℕ × ℕ)) (old new : List (Option A)) → AreThere es old → get_or new k None ≡ Some row → AreOthersKept k old new → AreThere es new
  still_there k row [] old new there changed others = tt
  still_there k row (e ∷ es) old new there changed others = (
    elim (cases_Bool (eqb k e.1)) [
      | inl h ↦ ap (λ j. is_some (get_or new j None)) (equal_from k e.1 h) ∙ ap is_some changed
      | inr h ↦ ap is_some (others e.1 (differs k e.1 h)) ∙ there.0
    ],
    still_there k row es old new there.1 changed others,
  )

  pub is_filed_changed : (k : ℕ) (row : A) (es : List (ℕ × ℕ)) (old new : List (Option A)) → IsFiled es old → get_or new k None ≡ Some row → AreOthersKept k old new → count_by is_some new ≡ count_by is_some old → IsFiled es new
  is_filed_changed k row es old new ok changed others same = record {
    there = still_there k row es old new ok.there changed others;
    apart = ok.apart;
    whole = same ∙ ok.whole;
  }

  pub filed_set : (n k : ℕ) (row : A) (es : List (ℕ × ℕ)) (slots : List (Option A)) → IsFiled es slots → lookup (nat_eq n) es ≡ Some k → filed es (set slots k (Some row)) ≡ set_value (nat_eq n) (filed es slots) row
  filed_set n k row es slots ok at = filed_changed n k row es slots (set slots k (Some row)) ok at (slot_set k row slots (slot_there n k es slots ok at)) (others_set k row slots)

  pub is_filed_set : (n k : ℕ) (row : A) (es : List (ℕ × ℕ)) (slots : List (Option A)) → IsFiled es slots → lookup (nat_eq n) es ≡ Some k → IsFiled es (set slots k (Some row))
  is_filed_set n k row es slots ok at = is_filed_changed k row es slots (set slots k (Some row)) ok (slot_set k row slots (slot_there n k es slots ok at)) (others_set k row slots) (count_set k row slots (slot_there n k es slots ok at))

  -- ---- a row is taken out

  remove_front : (n key : ℕ) (o : Option A) (rest : List (ℕ × A)) → is_some o ≡ true → remove_entry (nat_eq n) (in_front key o rest) ≡ cond (eqb n key) rest (in_front key o (remove_entry (nat_eq n) rest))
  remove_front n key None rest h = absurd (false≢true h)
  remove_front n key (Some row) rest h = refl

  removed_there : (n k : ℕ) (es : List (ℕ × ℕ)) (old new : List (Option A)) → AreThere es old → AreApart (values_of es) → lookup (nat_eq n) es ≡ Some k → AreOthersKept k old new → filed (remove_entry (nat_eq n) es) new ≡ remove_entry (nat_eq n) (filed es old)
  removed_there n k [] old new there apart at others = refl
  removed_there n k (e ∷ es) old new there apart at others =
      elim (cases_Bool (eqb n e.0)) [
        | inl here ↦
            let same : e.1 ≡ k = same_Some (rw here at at) in
            ap (λ b. filed (cond b es (e ∷ remove_entry (nat_eq n) es)) new) here
            ∙ kept k es old new (subst (λ j. list_any (nat_eq j) (values_of es) ≡ false) same apart.0) others
            ∙ sym (remove_front n e.0 (get_or old e.1 None) (filed es old) there.0 ∙ rw here refl)
        | inr later ↦
            ap (λ b. filed (cond b es (e ∷ remove_entry (nat_eq n) es)) new) later
            ∙ ap (λ o. in_front e.0 o (filed (remove_entry (nat_eq n) es) new)) (others e.1 (named (nat_eq n) es k e.1 (rw later at at) apart.0))
            ∙ ap (in_front e.0 (get_or old e.1 None)) (removed_there n k es old new there.1 apart.1 (rw later at at) others)
            ∙ sym (remove_front n e.0 (get_or old e.1 None) (filed es old) there.0 ∙ rw later refl)
      ]

  pub filed_removed : (n k : ℕ) (es fs : List (ℕ × ℕ)) (old new : List (Option A)) → IsFiled es old → lookup (nat_eq n) es ≡ Some k → fs ≡ remove_entry (nat_eq n) es → AreOthersKept k old new → filed fs new ≡ remove_entry (nat_eq n) (filed es old)
  filed_removed n k es fs old new ok at is others = ap (λ gs. filed gs new) is ∙ removed_there n k es old new ok.there ok.apart at others

  pub is_filed_removed : (n k : ℕ) (es fs : List (ℕ × ℕ)) (old new : List (Option A)) → IsFiled es old → lookup (nat_eq n) es ≡ Some k → fs ≡ remove_entry (nat_eq n) es → AreOthersKept k old new → count_by is_some new + 1 ≡ count_by is_some old → IsFiled fs new
  is_filed_removed n k es fs old new ok at is others fewer =
      subst (λ gs. IsFiled gs new) (sym is) (record {
        there = there_removed es ok.there ok.apart at;
        apart = apart_removed (nat_eq n) es ok.apart;
        whole = omega (arith, fewer, ok.whole, length_removed n k es at);
      })
    where
      there_removed : (es : List (ℕ × ℕ)) → AreThere es old → AreApart (values_of es) → lookup (nat_eq n) es ≡ Some k → AreThere (remove_entry (nat_eq n) es) new
      there_removed [] there apart at = tt
      there_removed (e ∷ es) there apart at =
          elim (cases_Bool (eqb n e.0)) [
            | inl here ↦
                let same : e.1 ≡ k = same_Some (rw here at at) in
                subst (λ b. AreThere (cond b es (e ∷ remove_entry (nat_eq n) es)) new) (sym here) (there_kept k es old new (subst (λ j. list_any (nat_eq j) (values_of es) ≡ false) same apart.0) others there.1)
            | inr later ↦
                subst (λ b. AreThere (cond b es (e ∷ remove_entry (nat_eq n) es)) new) (sym later) (
                  ap is_some (others e.1 (named (nat_eq n) es k e.1 (rw later at at) apart.0)) ∙ there.0,
                  there_removed es there.1 apart.1 (rw later at at),
                )
          ]

  pub removed_none : (n : ℕ) (es : List (ℕ × ℕ)) (slots : List (Option A)) → IsFiled es slots → lookup (nat_eq n) es ≡ None → remove_entry (nat_eq n) (filed es slots) ≡ filed es slots
  removed_none n es slots ok at = nothing_removed (filed es slots) (find_is n es slots ok ∙ ap (option_and_then (λ k. get_or slots k None)) at)
    where
      nothing_removed : (rows : List (ℕ × A)) → lookup (nat_eq n) rows ≡ None → remove_entry (nat_eq n) rows ≡ rows
      nothing_removed [] h = refl
      nothing_removed (r ∷ rows) h =
          elim (cases_Bool (eqb n r.0)) [
            | inl here ↦ absurd (some_none (rw here at h))
            | inr later ↦ rw later (ap (λ rest. r ∷ rest) (nothing_removed rows (rw later at h)))
          ]

  -- ---- walks

  -- the row of the first place stands in front of the others
  pub filed_front : (n : ℕ) (place : Option ℕ) (rest : List (ℕ × ℕ)) (slots : List (Option A)) → filed (in_front n place rest) slots ≡ in_front n (row_at slots place) (filed rest slots)
  filed_front n None rest slots = refl
  filed_front n (Some slot) rest slots = refl

  pub keys_front : (test : A → Bool) (n : ℕ) (o : Option A) (rest : List (ℕ × A)) → keys_where test (in_front n o rest) ≡ cond (passes test o) (n ∷ keys_where test rest) (keys_where test rest)
  keys_front test n None rest = refl
  keys_front test n (Some row) rest = elim (cases_Bool (test row)) [ inl h ↦ rw h refl | inr h ↦ rw h refl ]

  keys_in_front : (n : ℕ) (o : Option A) (rest : List (ℕ × A)) → is_some o ≡ true → keys_of (in_front n o rest) ≡ n ∷ keys_of rest
  keys_in_front n None rest h = absurd (false≢true h)
  keys_in_front n (Some row) rest h = refl

  keys_there : (es : List (ℕ × ℕ)) (slots : List (Option A)) → AreThere es slots → keys_of (filed es slots) ≡ keys_of es
  keys_there [] slots there = refl
  keys_there (e ∷ es) slots there = keys_in_front e.0 (get_or slots e.1 None) (filed es slots) there.0 ∙ ap (λ ks. e.0 ∷ ks) (keys_there es slots there.1)

  -- the rows' keys are those of the index
  pub keys_are : (es : List (ℕ × ℕ)) (slots : List (Option A)) → IsFiled es slots → keys_of (filed es slots) ≡ keys_of es
  keys_are es slots ok = keys_there es slots ok.there

  pub distinct_filed : (es : List (ℕ × ℕ)) (slots : List (Option A)) → IsFiled es slots → IsDistinct nat_eq (keys_of es) → IsDistinct nat_eq (keys_of (filed es slots))
  distinct_filed es slots ok distinct = subst (IsDistinct nat_eq) (sym (keys_are es slots ok)) distinct
