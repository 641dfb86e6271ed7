-- Distinct names stay distinct, and a name that is put among others is there with its mark.
use Rattle.std.proofs.Common.{◌≡◌, ℕ, suc, ◌+◌, ◌<◌, ◌≤◌, Bool, true, false, ◌&&◌, ◌||◌, List, [], ◌∷◌, ◌++◌, length, set, Some, None, refl, sym, ap, ap₂, subst, ◌∙◌, arith, inl, inr}
use Rattle.std.specs.Prelude.{bytes_eq}
use Rattle.std.specs.List.{position, position_or_len}
use Rattle.std.specs.Cmp.Lexicographic.{nat_list_eq_equiv}
use Rattle.std.proofs.lemmas.Bool.{cases_Bool, cases_lt, lt-ltb, le-ltb, true≢false, and_parts, or_parts, or_from}
use Rattle.std.proofs.lemmas.Bool.Decides.{nat_tests}
use Rattle.std.proofs.lemmas.Slice.Eq.{bytes_eq-Decides}
use Rattle.std.proofs.lemmas.List.Folds.{list_any-append}
use Rattle.xl_base.specs.declared.name.Protocol.{Protocol}
use Rattle.xl_base.specs.declared.name.Protocol.TheVariants.{Nlm, Nfs, Smb}
use Rattle.xl_base.specs.declared.stable.Recorded.{Recorded}
use Rattle.xl_base.specs.Stable.{same_protocol, same_name, is_recorded, is_recordable, put_name, AreRecordable, IsWhole, AreWhole}

same_protocol-sym : (a b : Protocol) → same_protocol a b ≡ same_protocol b a
same_protocol-sym Nlm Nlm = refl
same_protocol-sym Nlm Nfs = refl
same_protocol-sym Nlm Smb = refl
same_protocol-sym Nfs Nlm = refl
same_protocol-sym Nfs Nfs = refl
same_protocol-sym Nfs Smb = refl
same_protocol-sym Smb Nlm = refl
same_protocol-sym Smb Nfs = refl
same_protocol-sym Smb Smb = refl

pub same_name-sym : (a b : Recorded) → same_name a b ≡ same_name b a
same_name-sym a b =
    ap (λ p. p && bytes_eq a.name b.name) (same_protocol-sym a.protocol b.protocol)
    ∙ ap (λ q. same_protocol b.protocol a.protocol && q) (nat_list_eq_equiv.symm a.name b.name)

-- ---- equal names

same_protocols : (a b : Protocol) → same_protocol a b ≡ true → a ≡ b
same_protocols Nlm Nlm e = refl
same_protocols Nlm Nfs e = absurd (true≢false (sym e))
same_protocols Nlm Smb e = absurd (true≢false (sym e))
same_protocols Nfs Nlm e = absurd (true≢false (sym e))
same_protocols Nfs Nfs e = refl
same_protocols Nfs Smb e = absurd (true≢false (sym e))
same_protocols Smb Nlm e = absurd (true≢false (sym e))
same_protocols Smb Nfs e = absurd (true≢false (sym e))
same_protocols Smb Smb e = refl

-- what has one name has it whatever the marks
pub like_left : (a b c : Recorded) → same_name a b ≡ true → same_name a c ≡ same_name b c
like_left a b c e =
    let parts = and_parts (same_protocol a.protocol b.protocol) (bytes_eq a.name b.name) e in
    ap₂ (λ (p : Protocol) (n : List ℕ). same_protocol p c.protocol && bytes_eq n c.name) (same_protocols a.protocol b.protocol parts.0) ((bytes_eq-Decides a.name b.name).0 parts.1)

pub like_right : (a b c : Recorded) → same_name b c ≡ true → same_name a b ≡ same_name a c
like_right a b c e = same_name-sym a b ∙ like_left b c a e ∙ same_name-sym c a

-- a name that is recorded is so under each mark
pub like_recorded : (a b : Recorded) (names : List Recorded) → same_name a b ≡ true → is_recorded a names ≡ is_recorded b names
like_recorded a b [] e = refl
like_recorded a b (first ∷ names) e = ap₂ (λ (x y : Bool). x || y) (like_right first a b e) (like_recorded a b names e)

-- ---- a new name

-- a new name at the end
pub recordable_push : (names : List Recorded) (name : Recorded) → AreRecordable names → is_recordable name ≡ true → is_recorded name names ≡ false → AreRecordable (names ++ name ∷ [])
recordable_push [] name ok able new = (able, refl, tt)
recordable_push (n ∷ ns) name ok able new =
    let apart = or_parts (same_name n name) (is_recorded name ns) new in
    let other : same_name name n ≡ false = same_name-sym name n ∙ apart.0 in
    let last : is_recorded n (name ∷ []) ≡ false = or_from (same_name name n) false other refl in
    (ok.0, list_any-append (λ held. same_name held n) ns (name ∷ []) ∙ or_from (is_recorded n ns) (is_recorded n (name ∷ [])) ok.1 last, recordable_push ns name ok.2 able apart.1)

pub whole_push : (names : List Recorded) (name : Recorded) → AreWhole names → IsWhole name.mark → AreWhole (names ++ name ∷ [])
whole_push [] name all one = (one, tt)
whole_push (n ∷ ns) name all one = (all.0, whole_push ns name all.1 one)

-- ---- a name that is put in its place

same_place : (i j : ℕ) → Some i ≡ Some j → i ≡ j
same_place i j e = cc

one_more : (k : ℕ) → 1 + k ≡ suc k
one_more k = omega arith

put_first : (name : Recorded) (names : List Recorded) → position_or_len (λ held. same_name held name) names < length names
    → put_name name names ≡ set names (position_or_len (λ held. same_name held name) names) name
put_first name [] within = absurd (omega (arith, within))
put_first name (held ∷ names) within =
    elim (cases_Bool (same_name held name)) [
      | inl here ↦ rw here refl
      | inr other ↦ (let later = rw other at within in rw (other, one_more) (ap (λ (ns : List Recorded). held ∷ ns) (put_first name names (omega (arith, later)))))
    ]

put_last : (name : Recorded) (names : List Recorded) → length names ≤ position_or_len (λ held. same_name held name) names → put_name name names ≡ names ++ name ∷ []
put_last name [] none = refl
put_last name (held ∷ names) none =
    elim (cases_Bool (same_name held name)) [
      | inl here ↦ (let never = rw here at none in absurd (omega (arith, never)))
      | inr other ↦ (let later = rw other at none in rw other (ap (λ (ns : List Recorded). held ∷ ns) (put_last name names (omega (arith, later)))))
    ]

pub put_at : (name : Recorded) (names : List Recorded) (i : ℕ) → position (λ held. same_name held name) names ≡ Some i → (i < length names) × (put_name name names ≡ set names i name)
put_at name names i at =
    let place = position_or_len (λ held. same_name held name) names in
    elim (cases_lt place (length names)) [
      | inl within ↦ (
          let same : place ≡ i = same_place place i (rw (lt-ltb _ _ within) at at) in
          subst (λ (k : ℕ). (k < length names) × (put_name name names ≡ set names k name)) same (within, put_first name names within))
      | inr past ↦ (let never : None ≡ Some i = rw (le-ltb _ _ past) at at in absurd cc)
    ]

pub put_behind : (name : Recorded) (names : List Recorded) → position (λ held. same_name held name) names ≡ None → put_name name names ≡ names ++ name ∷ []
put_behind name names none =
    let place = position_or_len (λ held. same_name held name) names in
    elim (cases_lt place (length names)) [
      | inl within ↦ (let never : Some place ≡ None = rw (lt-ltb _ _ within) at none in absurd cc)
      | inr past ↦ put_last name names past
    ]

-- a new name is put behind the others
pub put_new : (name : Recorded) (names : List Recorded) → is_recorded name names ≡ false → put_name name names ≡ names ++ name ∷ []
put_new name [] new = refl
put_new name (held ∷ names) new =
    let parts = or_parts (same_name held name) (is_recorded name names) new in
    rw parts.0 (ap (λ (ns : List Recorded). held ∷ ns) (put_new name names parts.1))

-- who is recorded then: who was, and the name
pub recorded_put : (it name : Recorded) (names : List Recorded) → is_recorded it (put_name name names) ≡ (is_recorded it names || same_name name it)
recorded_put it name [] = grind (arith, nat_tests)
recorded_put it name (held ∷ names) =
    elim (cases_Bool (same_name held name)) [
      | inl here ↦ (let like : same_name held it ≡ same_name name it = like_left held name it here in rw (here, like) (grind (arith, nat_tests)))
      | inr other ↦ rw (other, recorded_put it name names) (grind (arith, nat_tests))
    ]

pub recordable_put : (names : List Recorded) (name : Recorded) → AreRecordable names → is_recordable name ≡ true → AreRecordable (put_name name names)
recordable_put [] name ok able = (able, refl, tt)
recordable_put (held ∷ names) name ok able =
    elim (cases_Bool (same_name held name)) [
      | inl here ↦ rw here (able, sym (like_recorded held name names here) ∙ ok.1, ok.2)
      | inr other ↦ rw other (
        ok.0,
        recorded_put held name names ∙ or_from (is_recorded held names) (same_name name held) ok.1 (same_name-sym name held ∙ other),
        recordable_put names name ok.2 able,
      )
    ]

pub whole_put : (names : List Recorded) (name : Recorded) → AreWhole names → IsWhole name.mark → AreWhole (put_name name names)
whole_put [] name all one = (one, tt)
whole_put (held ∷ names) name all one =
    elim (cases_Bool (same_name held name)) [
      | inl here ↦ rw here (one, all.1)
      | inr other ↦ rw other (all.0, whole_put names name all.1 one)
    ]
