-- Nothing is held of what ended.
use Rattle.std.proofs.Common.{◌≡◌, ℕ, Bool, true, false, eqb, List, [], ◌∷◌, Option, Some, None, if◌then◌else◌, refl, sym, ap, subst, ◌∙◌, inl, inr}
use Rattle.std.specs.Prelude.{nat_eq, ◌==◌}
use Rattle.std.specs.List.{AllByRecursion, list_all, list_any}
use Rattle.std.specs.Map.{lookup}
use Rattle.std.proofs.lemmas.Bool.{and_parts, cases_Bool, false≢true, true≢false}
use Rattle.xl_base.specs.Lists.{IsIn}
use Rattle.xl_base.specs.declared.name.Owner.TheVariants as owners
use Rattle.xl_base.specs.declared.name.Party.{Party}
use Rattle.xl_base.specs.declared.name.Party.TheVariants as parties
use Rattle.xl_matrix.proofs.EqualLaws.{same_parties-self}
use Rattle.xl_matrix.specs.Blocks.{is_cache}
use Rattle.xl_matrix.specs.declared.claim.Claim.{Claim}
use Rattle.xl_names.specs.declared.name.Name.{Name}
use Rattle.xl_smb_state.specs.Links.{IsLeaseLinked, IsSound, is_under}
use Rattle.xl_smb_state.specs.State.{Lists, closed, covers_holder, creates_under, is_empty, is_key, is_last, is_last_under, is_last_open, key_of, left_row, lease_of, made_in, makes_under, open_of, opens_under, same_lease, without}
use Rattle.xl_smb_state.specs.declared.row.Lease.{Lease}
use Rattle.xl_smb_state.specs.declared.row.LeaseKey.{LeaseKey}
use Rattle.xl_smb_state.specs.declared.row.Open.{Open}
use Rattle.xl_smb_state.specs.declared.row.Scope.{Scope}
use Rattle.xl_smb_state.specs.declared.row.Waiting.{Waiting}
use Rattle.xl_smb_state.proofs.LinkLaws.{same_lease_is}
use Rattle.xl_smb_state.proofs.RowLaws.{equal_from, equal_self, lookup_removed, none_some, same_Some, unequal_both}
use Rattle.xl_table.specs.Leaving.{goes}
use Rattle.xl_table.specs.declared.leaver.Leaver.TheVariants as leavers_of
use Rattle.xl_core.specs.State.{CoreState}
use Rattle.xl_smb_locks.specs.Levels.{lease_party, party_of}
use Rattle.xl_smb_locks.proofs.LevelLaws.{party_alone, party_under}
use Rattle.xl_front_smb.specs.Ending.{going_by, leavers, leavers_under, party_going, without_party}
use Rattle.xl_front_smb.specs.Laws.{Without, goes_among}
use Rattle.xl_smb_laws.specs.OpenRights.{LeavesNothing, is_held_under}
use Rattle.xl_smb_laws.proofs.AwaitedRequestLaws.{any_left, any_right}
use Rattle.xl_smb_laws.proofs.KeptWaiterLaws.{found_where}
use Rattle.xl_smb_laws.proofs.LeaseKeyLaws.{key_is, left_found}

-- ---- which claims go

abbrev One : ℕ × Option Party → Claim → Bool
One e c = goes (leavers_of.Open e.0 e.1) c

first_goes : (e : ℕ × Option Party) (rest : List (ℕ × Option Party)) (c : Claim) → One e c ≡ true → goes_among (e ∷ rest) c ≡ true
first_goes e rest c h = rw h refl

later_goes : (e : ℕ × Option Party) (rest : List (ℕ × Option Party)) (c : Claim) → goes_among rest c ≡ true → goes_among (e ∷ rest) c ≡ true
later_goes e rest c h = elim (cases_Bool (One e c)) [ inl one ↦ rw one refl | inr other ↦ rw other h ]

-- a share or a range goes with its open
own_goes : (number : ℕ) (party : Option Party) (c : Claim) → is_cache c.what ≡ false → c.owner ≡ owners.Open number → One (number, party) c ≡ true
own_goes number party c kept own = rw (kept, own) (equal_self number)

-- a cache goes with its party
cache_goes : (number : ℕ) (party : Party) (c : Claim) → is_cache c.what ≡ true → c.party ≡ party → One (number, Some party) c ≡ true
cache_goes number party c is own = rw (is, own) (same_parties-self party)

module _ (names : List Name) (c : Claim) where
  owned_goes : (number : ℕ) (numbers : List ℕ) (l : Lists) → list_any (nat_eq number) numbers ≡ true → is_cache c.what ≡ false → c.owner ≡ owners.Open number → goes_among (leavers names l numbers) c ≡ true
  owned_goes number [] l here kept own = absurd (false≢true here)
  owned_goes number (n ∷ ns) l here kept own =
      elim (cases_Bool (eqb number n)) [
        | inl same ↦ first_goes (n, party_going names l n) (leavers names (closed n l) ns) c (own_goes n (party_going names l n) c kept (own ∙ ap (λ (k : ℕ). owners.Open k) (sym (equal_from number n same))))
        | inr apart ↦ later_goes (n, party_going names l n) (leavers names (closed n l) ns) c (owned_goes number ns (closed n l) (rw apart at here) kept own)
      ]

  made_goes : (number : ℕ) (numbers : List ℕ) → list_any (nat_eq number) numbers ≡ true → is_cache c.what ≡ false → c.owner ≡ owners.Open number → goes_among (without_party numbers) c ≡ true
  made_goes number [] here kept own = absurd (false≢true here)
  made_goes number (n ∷ ns) here kept own =
      elim (cases_Bool (eqb number n)) [
        | inl same ↦ first_goes (n, None) (without_party ns) c (own_goes n None c kept (own ∙ ap (λ (k : ℕ). owners.Open k) (sym (equal_from number n same))))
        | inr apart ↦ later_goes (n, None) (without_party ns) c (made_goes number ns (rw apart at here) kept own)
      ]

  -- ---- a cache of an open that is under no lease

  open_apart : (n k : ℕ) (l : Lists) → eqb k n ≡ false → open_of k (closed n l) ≡ open_of k l
  open_apart n k l apart = lookup_removed k n l.opens (unequal_both k n apart)

  alone_goes : (number : ℕ) (row : Open) (numbers : List ℕ) (l : Lists) → open_of number l ≡ Some row → row.lease ≡ None → list_any (nat_eq number) numbers ≡ true → is_cache c.what ≡ true → c.party ≡ parties.Open number → goes_among (leavers names l numbers) c ≡ true
  alone_goes number row [] l at none here is own = absurd (false≢true here)
  alone_goes number row (n ∷ ns) l at none here is own =
      elim (cases_Bool (eqb number n)) [
        | inl same ↦ (
            let there : open_of n l ≡ Some row = ap (λ (k : ℕ). open_of k l) (equal_from number n same) ∙ at in
            let last : is_last_open n l ≡ true = ap (λ (o : Option LeaseKey). is_last_under n o l) (ap key_of there ∙ no_key row none) in
            let going : party_going names l n ≡ Some (parties.Open n) =
            ap (going_by names l n) there ∙ ap (λ (b : Bool). if b then Some (party_of names n row) else None) last ∙ ap (λ (p : Party). Some p) (party_alone names n row none) in
            first_goes (n, party_going names l n) (leavers names (closed n l) ns) c (ap (λ (o : Option Party). One (n, o) c) going ∙ cache_goes n (parties.Open n) c is (own ∙ ap (λ (k : ℕ). parties.Open k) (sym (equal_from number n same)))))
        | inr apart ↦ later_goes (n, party_going names l n) (leavers names (closed n l) ns) c (alone_goes number row ns (closed n l) (open_apart n number l apart ∙ at) none (rw apart at here) is own)
      ]
    where
      no_key : (row : Open) → row.lease ≡ None → key_of (Some row) ≡ None
      no_key row none = ap (λ (o : Option (List ℕ)). keyed o) none
        where
          keyed : Option (List ℕ) → Option LeaseKey
          keyed None = None
          keyed (Some k) = Some (record { client = row.client; key = k })

  -- ---- a cache of a lease that loses all its opens

  none_other : (n : ℕ) (ns : List ℕ) → is_empty (without n ns) ≡ true → list_all (λ k. k == n) ns ≡ true
  none_other n [] none = refl
  none_other n (m ∷ ms) none = elim (cases_Bool (eqb m n)) [ inl out ↦ rw out (none_other n ms (rw out at none)) | inr stays ↦ absurd (false≢true (rw stays at none)) ]

  among_those : (P : ℕ → Type 0) (n : ℕ) (ns : List ℕ) → is_empty ns ≡ false → list_all (λ k. k == n) ns ≡ true → AllByRecursion P ns → P n
  among_those P n [] some all each = absurd (true≢false some)
  among_those P n (m ∷ ms) some all each = elim (cases_Bool (eqb m n)) [ inl same ↦ subst P (sym (equal_from m n same)) each.0 | inr other ↦ absurd (false≢true (rw other at all)) ]

  left_of : (P Q : ℕ → Type 0) (n : ℕ) (ns : List ℕ) → ((k : ℕ) → eqb k n ≡ false → P k → Q k) → AllByRecursion P ns → AllByRecursion Q (without n ns)
  left_of P Q n [] step each = tt
  left_of P Q n (m ∷ ms) step each =
      elim (cases_Bool (eqb m n)) [
        | inl out ↦ (let rest = left_of P Q n ms step each.1 in rw out rest)
        | inr stays ↦ (let first = step m stays each.0 in let rest = left_of P Q n ms step each.1 in rw stays (first, rest))
      ]

  under_key : (key : LeaseKey) (file n : ℕ) (l : Lists) (o : Option Open) → open_of n l ≡ o → is_under key file o ≡ true → (row : Open) × (open_of n l ≡ Some row) × (key_of (Some row) ≡ Some key)
  under_key key file n l None at under = absurd (false≢true under)
  under_key key file n l (Some row) at under = (row, at, key_is key row (and_parts (eqb row.file file) (is_key key row.client row.lease) under).1)

  all_go : (key : LeaseKey) (row : Lease) (numbers : List ℕ) (l : Lists) → lease_of key l ≡ Some row → is_empty row.opens ≡ false → AllByRecursion (λ n. is_under key row.file (open_of n l) ≡ true) row.opens → AllByRecursion (λ n. list_any (nat_eq n) numbers ≡ true) row.opens
      → is_cache c.what ≡ true → c.party ≡ lease_party names key.client key.key → goes_among (leavers names l numbers) c ≡ true
  all_go key row [] l at some under among is own = absurd (nobody row.opens some among)
    where
      nobody : (ns : List ℕ) → is_empty ns ≡ false → AllByRecursion (λ n. list_any (nat_eq n) [] ≡ true) ns → ⊥
      nobody [] some each = true≢false some
      nobody (m ∷ ms) some each = false≢true each.0
  all_go key row (n ∷ ns) l at some under among is own =
      elim (cases_Bool (is_empty (without n row.opens))) [
        | inl none ↦ first_goes (n, party_going names l n) (leavers names (closed n l) ns) c (by_last (none_other n row.opens none))
        | inr left ↦ later_goes (n, party_going names l n) (leavers names (closed n l) ns) c
            (all_go key (left_row n row) ns (closed n l) (left_found key n l.leases row at left) left
            (left_of (λ k. is_under key row.file (open_of k l) ≡ true) (λ k. is_under key row.file (open_of k (closed n l)) ≡ true) n row.opens (λ k apart h. ap (is_under key row.file) (open_apart n k l apart) ∙ h) under)
            (left_of (λ k. list_any (nat_eq k) (n ∷ ns) ≡ true) (λ k. list_any (nat_eq k) ns ≡ true) n row.opens (λ k apart h. rw apart at h) among)
            is own)
      ]
    where
      by_last : list_all (λ k. k == n) row.opens ≡ true → One (n, party_going names l n) c ≡ true
      by_last all =
          let found = under_key key row.file n l (open_of n l) refl (among_those (λ k. is_under key row.file (open_of k l) ≡ true) n row.opens some all under) in
          let last : is_last_open n l ≡ true = ap (λ (o : Option LeaseKey). is_last_under n o l) (ap key_of found.1 ∙ found.2) ∙ ap (is_last n) at ∙ all in
          let going : party_going names l n ≡ Some (lease_party names key.client key.key) =
          ap (going_by names l n) found.1 ∙ ap (λ (b : Bool). if b then Some (party_of names n found.0) else None) last ∙ ap (λ (p : Party). Some p) (party_under names n found.0 key found.2) in
          ap (λ (o : Option Party). One (n, o) c) going ∙ cache_goes n (lease_party names key.client key.key) c is own

-- ---- all that is under one

linked_at : (l : Lists) (key : LeaseKey) (row : Lease) (es : List (LeaseKey × Lease)) → AllByRecursion (λ e. IsLeaseLinked l e.0 e.1) es → lookup (same_lease key) es ≡ Some row → IsLeaseLinked l key row
linked_at l key row [] all at = absurd (none_some at)
linked_at l key row (e ∷ es) all at =
    elim (cases_Bool (same_lease key e.0)) [
      | inl same ↦ (let found : e.1 ≡ row = same_Some (rw same at at) in subst (λ (k : LeaseKey). IsLeaseLinked l k row) (sym (same_lease_is key e.0 same)) (subst (λ (r : Lease). IsLeaseLinked l e.0 r) found all.0))
      | inr apart ↦ linked_at l key row es all.1 (rw apart at at)
    ]

among_made : (under : Scope) (es : List (ℕ × Waiting)) (id : ℕ) (row : Waiting) → lookup (nat_eq id) es ≡ Some row → makes_under under row ≡ true → list_any (nat_eq row.opened) (made_in under es) ≡ true
among_made under [] id row at makes = absurd (none_some at)
among_made under (e ∷ es) id row at makes =
    elim (cases_Bool (eqb id e.0)) [
      | inl same ↦ (
          let found : e.1 ≡ row = same_Some (rw same at at) in
          let here : makes_under under e.1 ≡ true = ap (makes_under under) found ∙ makes in
          let it : eqb row.opened e.1.opened ≡ true = ap (λ (r : Waiting). eqb row.opened r.opened) found ∙ equal_self row.opened in
          rw (here, it) refl)
      | inr apart ↦ (
          let rest = among_made under es id row (rw apart at at) makes in
          elim (cases_Bool (makes_under under e.1)) [
            | inl here ↦ (elim (cases_Bool (eqb row.opened e.1.opened)) [ inl it ↦ rw (here, it) refl | inr more ↦ rw (here, more) rest ])
            | inr none ↦ rw none rest
          ])
    ]

module _ (names : List Name) (under : Scope) (l : Lists) where
  held_among : (number : ℕ) (o : Option Open) → open_of number l ≡ o → is_held_under under o ≡ true → list_any (nat_eq number) (opens_under under l) ≡ true
  held_among number None at held = absurd (false≢true held)
  held_among number (Some row) at held = found_where (λ (r : Open). covers_holder under r.holder) l.opens number row at held

  by_opens : (c : Claim) → goes_among (leavers names l (opens_under under l)) c ≡ true → goes_among (leavers_under names under l) c ≡ true
  by_opens c h = any_left (λ (e : ℕ × Option Party). One e c) (leavers names l (opens_under under l)) (without_party (creates_under under l)) h

  by_made : (c : Claim) → goes_among (without_party (creates_under under l)) c ≡ true → goes_among (leavers_under names under l) c ≡ true
  by_made c h = any_right (λ (e : ℕ × Option Party). One e c) (leavers names l (opens_under under l)) (without_party (creates_under under l)) h

  pub nothing_left : (s t : CoreState) → IsSound l → Without (leavers_under names under l) s t → LeavesNothing names under l t
  nothing_left s t sound left = record {
    opens = λ number c held here own. unless c here (λ kept. by_opens c (owned_goes names c number (opens_under under l) l (held_among number (open_of number l) refl held) kept own));
    oplocks = λ number row c at held none here is own. gone c here (by_opens c (alone_goes names c number row (opens_under under l) l at none (held_among number (Some row) at held) is own));
    leases = λ key row c at held here is own. (let linked = linked_at l key row l.leases sound.leases at in gone c here (by_opens c (all_go names c key row (opens_under under l) l at linked.0 linked.1 (all_held row.opens held) is own)));
    waiting = λ id row c at makes here own. unless c here (λ kept. by_made c (made_goes names c row.opened (creates_under under l) (among_made under l.waiting id row at makes) kept own));
  }
    where
      gone : (c : Claim) → IsIn c t.claims → goes_among (leavers_under names under l) c ≡ true → ⊥
      gone c here going = true≢false (sym going ∙ ((left.claims c).0 here).1)

      unless : (c : Claim) → IsIn c t.claims → (is_cache c.what ≡ false → goes_among (leavers_under names under l) c ≡ true) → is_cache c.what ≡ true
      unless c here going = elim (cases_Bool (is_cache c.what)) [ inl is ↦ is | inr kept ↦ absurd (gone c here (going kept)) ]

      all_held : (ns : List ℕ) → AllByRecursion (λ n. is_held_under under (open_of n l) ≡ true) ns → AllByRecursion (λ n. list_any (nat_eq n) (opens_under under l) ≡ true) ns
      all_held [] each = tt
      all_held (n ∷ ns) each = (held_among n (open_of n l) refl each.0, all_held ns each.1)

-- an open that is closed leaves neither share nor range
pub closed_leaves : (number : ℕ) (party : Option Party) (s t : CoreState) (c : Claim) → Without ((number, party) ∷ []) s t → IsIn c t.claims → c.owner ≡ owners.Open number → is_cache c.what ≡ true
closed_leaves number party s t c left here own =
    elim (cases_Bool (is_cache c.what)) [
      | inl is ↦ is
      | inr kept ↦ absurd (true≢false (sym (first_goes (number, party) [] c (own_goes number party c kept own)) ∙ ((left.claims c).0 here).1))
    ]
