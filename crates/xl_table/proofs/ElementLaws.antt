-- The ranges of an SMB open: one put in behind the others, one taken out, the last taken back.
use Rattle.std.proofs.Common.{◌≡◌, ℕ, ◌-◌, ◌<◌, ◌+◌, suc, Bool, true, false, not, ◌&&◌, ◌||◌, ◌==◌, nat_le, nat_lt, ◌^◌, if◌then◌else◌, List, [], ◌∷◌, ◌++◌, length, Option, Some, None, is_some, inl, inr, refl, sym, ap, subst, ◌∙◌, arith}
use Rattle.std.proofs.Math.Numerals.{one-add}
use Rattle.std.specs.List.{AllByRecursion, filter, find, prefix_len, remove}
use Rattle.std.specs.Option.{option_or}
use Rattle.std.proofs.lemmas.Bool.{cases_Bool, both_ways, and_parts, and_from, or_parts, false_from_ne_true, eqb-true, eq-eqb, le-leb}
use Rattle.std.proofs.lemmas.Option.{same_Some}
use Rattle.xl_base.specs.Lists.{IsIn, Pairwise, placed}
use Rattle.xl_base.specs.declared.name.Owner.{Owner}
use Rattle.xl_matrix.proofs.EqualLaws.{same_claims-true, same_claims-self, same_owners-true, same_owners-self, same_parties-self}
use Rattle.xl_matrix.specs.Equal.{same_owners, same_what, same_claims}
use Rattle.xl_matrix.specs.Owners.{posix}
use Rattle.xl_matrix.specs.declared.claim.Claim.{Claim}
use Rattle.xl_matrix.specs.declared.claim.Extent.{Extent}
use Rattle.xl_matrix.specs.declared.claim.Extent.TheVariants.{Bytes, Empty}
use Rattle.xl_matrix.specs.declared.claim.What.{What}
use Rattle.xl_matrix.specs.declared.claim.What.TheVariants.{Share, Range, Cache}
use Rattle.xl_table.specs.Elements.{elements_of, is_among, without, unlocked_elements, is_element, element_held, taken_out, taken_back, CameLast}
use Rattle.xl_table.specs.Files.{AreOn, alone, here}
use Rattle.xl_table.specs.Flat.{inserted, removed, with_what}
use Rattle.xl_table.specs.Held.{is_of, is_range, is_real_by, is_real, has_one_party, may_own, IsShareOrLock, IsSound, IsKept}
use Rattle.xl_table.specs.Order.{no_later, owner_key, place_in_group, key_from, key_by, key, goes_first}
use Rattle.xl_table.specs.Relock.{is_range_of}
use Rattle.xl_table.proofs.AloneLaws.{alone_parts, here_parts, in_files, inserted_parts, parts_of}
use Rattle.xl_table.proofs.FileLaws.{here_on}
use Rattle.xl_table.proofs.FlatLaws.{all_inserted as all_put, length_inserted}
use Rattle.xl_table.proofs.InsertLaws.{sound_inserted}
use Rattle.xl_table.proofs.ShareLaws.{is_own}
use Rattle.xl_table.proofs.OrderLaws.{inserted_ordered, no_later-on, no_later-self}

-- ---- a real range of an open

pub real_element : (c : Claim) (w : What) → c.what ≡ w → IsShareOrLock w → may_own c.owner w ≡ true → is_real c ≡ true
real_element c w is order own = ap (λ (v : What). is_real_by c.owner v) is ∙ by w order own where
  by : (v : What) → IsShareOrLock v → may_own c.owner v ≡ true → is_real_by c.owner v ≡ true
  by (Share access deny) o h = refl
  by (Range (Bytes first last) exclusive) o h = and_from (nat_le first last) (posix c.owner || not ((first == 0) && (last == 2 ^ 64 - 1))) (le-leb first last o) h
  by (Range (Empty offset) exclusive) o h = h
  by (Cache kind running) o h = absurd o

pub sound_element : (c : Claim) (cs : List Claim) → IsSound cs → posix c.owner ≡ false → is_real c ≡ true → AllByRecursion (λ d. has_one_party c d ≡ true) cs → IsSound (inserted c cs)
sound_element c cs sound unnamed real one = sound_inserted c cs sound real one (λ own. absurd (both_ways (posix c.owner) unnamed own))

-- ---- the last one taken back

counted : (c : Claim) (cs : List Claim) → 0 < prefix_len (λ d. goes_first d c) (inserted c cs)
unfolding inserted
counted c [] = rw (no_later-self (key c)) (omega arith)
counted c (d ∷ ds) =
    elim (cases_Bool (goes_first d c)) [
      | inl early ↦ rw (early, early) (omega arith)
      | inr late ↦ rw (late, no_later-self (key c)) (omega arith)
    ]

pub back_entered : (c : Claim) (cs : List Claim) → taken_back c (inserted c cs) ≡ cs
unfolding taken_back inserted
back_entered c cs = go cs where
  p : Claim → Bool
  p d = goes_first d c

  step : (d : Claim) (ds : List Claim) (k : ℕ) → 0 < k → remove (d ∷ ds) (suc k - 1) ≡ d ∷ remove ds (k - 1)
  step d ds k some = let e : suc k - 1 ≡ suc (k - 1) = omega (arith, some) in ap (λ (n : ℕ). remove (d ∷ ds) n) e

  go : (ds : List Claim) → remove (placed goes_first c ds) (prefix_len p (placed goes_first c ds) - 1) ≡ ds
  go [] = rw (no_later-self (key c)) refl
  go (d ∷ ds) =
      elim (cases_Bool (goes_first d c)) [
        | inl early ↦ rw (early, early, one-add (prefix_len p (placed goes_first c ds))) (step d (placed goes_first c ds) (prefix_len p (placed goes_first c ds)) (counted c ds) ∙ ap (λ (es : List Claim). d ∷ es) (go ds))
        | inr late ↦ rw (late, no_later-self (key c), late) refl
      ]

-- the file's claims before one came to be put in last, and those of all files
pub back_here : (c : Claim) (cs : List Claim) → Pairwise goes_first cs → here c.file (inserted c cs) ≡ inserted c (here c.file cs)
back_here c cs ordered =
    let front = filter (λ d. nat_lt d.file c.file) cs in
    let back = filter (λ d. nat_lt c.file d.file) cs in
    let parts = parts_of c.file cs in
    ap (λ (ds : List Claim). here c.file (inserted c ds)) (in_files c.file cs ordered)
    ∙ ap (λ (ds : List Claim). here c.file ds) (inserted_parts c front (here c.file cs) back parts)
    ∙ here_parts c.file front (inserted c (here c.file cs)) back (record { early = parts.early; own = all_put (λ d. (d.file == c.file) ≡ true) c (here c.file cs) (eq-eqb c.file c.file refl) parts.own; late = parts.late })

pub back_alone : (c : Claim) (cs : List Claim) → Pairwise goes_first cs → taken_back c (inserted c cs) ≡ alone c.file (taken_back c) (inserted c cs)
back_alone c cs ordered =
    let front = filter (λ d. nat_lt d.file c.file) cs in
    let on = here c.file cs in
    let back = filter (λ d. nat_lt c.file d.file) cs in
    let parts = parts_of c.file cs in
    back_entered c cs
    ∙ in_files c.file cs ordered
    ∙ ap (λ (ds : List Claim). front ++ (ds ++ back)) (sym (back_entered c on))
    ∙ sym (alone_parts c.file (taken_back c) front (inserted c on) back (record { early = parts.early; own = all_put (λ d. (d.file == c.file) ≡ true) c on (eq-eqb c.file c.file refl) parts.own; late = parts.late }))
    ∙ ap (λ (ds : List Claim). alone c.file (taken_back c) ds) (sym (inserted_parts c front on back parts))
    ∙ ap (λ (ds : List Claim). alone c.file (taken_back c) (inserted c ds)) (sym (in_files c.file cs ordered))

-- what came last among all claims came last among its file's
pub last_here : (c : Claim) (cs on : List Claim) → CameLast c cs → on ≡ here c.file cs → 0 < prefix_len (λ d. goes_first d c) on
last_here c cs on last is =
    subst (λ (ds : List Claim). 0 < prefix_len (λ d. goes_first d c) ds) (sym (is ∙ ap (λ (ds : List Claim). here c.file ds) last.is ∙ back_here c last.before last.kept.ordered)) (counted c (here c.file last.before))

pub last_none : (c : Claim) (cs : List Claim) → CameLast c cs → here c.file cs ≡ [] → ⊥
last_none c cs last none = omega (arith, last_here c cs [] last (sym none))

pub last_alone : (c : Claim) (cs : List Claim) → CameLast c cs → taken_back c cs ≡ alone c.file (taken_back c) cs
last_alone c cs last = subst (λ (ds : List Claim). taken_back c ds ≡ alone c.file (taken_back c) ds) (sym last.is) (back_alone c last.before last.kept.ordered)

pub last_on : (c : Claim) (cs : List Claim) → CameLast c cs → AreOn c.file (taken_back c (here c.file cs))
last_on c cs last =
    subst (λ (ds : List Claim). AreOn c.file ds)
    (sym (ap (λ (ds : List Claim). taken_back c (here c.file ds)) last.is ∙ ap (taken_back c) (back_here c last.before last.kept.ordered) ∙ back_entered c (here c.file last.before)))
    (here_on c.file last.before)

pub last_ordered : (c : Claim) (cs : List Claim) → CameLast c cs → Pairwise goes_first cs
last_ordered c cs last = subst (λ (ds : List Claim). Pairwise goes_first ds) (sym last.is) (inserted_ordered c last.before last.kept.ordered)

pub last_kept : (c : Claim) (cs : List Claim) → CameLast c cs → IsKept (taken_back c cs)
last_kept c cs last = subst (λ (ds : List Claim). IsKept ds) (sym (ap (taken_back c) last.is ∙ back_entered c last.before)) last.kept

pub last_before : (c : Claim) (before cs : List Claim) → cs ≡ inserted c before → taken_back c cs ≡ before
last_before c before cs is = ap (taken_back c) is ∙ back_entered c before

pub last_count : (c : Claim) (cs : List Claim) → CameLast c cs → length (taken_back c cs) + 1 ≡ length cs
last_count c cs last =
    omega (arith, ap (λ (ds : List Claim). length ds) (ap (taken_back c) last.is ∙ back_entered c last.before), ap (λ (ds : List Claim). length ds) last.is, length_inserted c last.before)

-- ---- an owner's elements

pub own_parts : (file : ℕ) (owner : Owner) (c : Claim) → is_range_of file owner c ≡ true → (c.file ≡ file) × (c.owner ≡ owner) × (is_range c.what ≡ true)
own_parts file owner c h =
    let both = and_parts (is_of file owner c) (is_range c.what) h in
    let of = and_parts (c.file == file) (same_owners c.owner owner) both.0 in
    (eqb-true c.file file of.0, same_owners-true c.owner owner of.1, both.1)

-- an open's ranges on a file all stand at one place in the order
same_key : (a b : Claim) (v w : What) → a.file ≡ b.file → a.owner ≡ b.owner → posix b.owner ≡ false → is_range v ≡ true → is_range w ≡ true → key_by a v ≡ key_by b w
same_key a b (Range extent exclusive) (Range place alone) file owner unnamed h k =
    (λ i. key_from (file i) 1 (owner_key (owner i)) (place_in_group (owner i) extent)) ∙ (rw unnamed refl)
same_key a b (Share access deny) w file owner unnamed h k = absurd (both_ways false refl h)
same_key a b (Cache kind running) w file owner unnamed h k = absurd (both_ways false refl h)
same_key a b (Range extent exclusive) (Share access deny) file owner unnamed h k = absurd (both_ways false refl k)
same_key a b (Range extent exclusive) (Cache kind running) file owner unnamed h k = absurd (both_ways false refl k)

goes_among : (a b : Claim) → a.file ≡ b.file → a.owner ≡ b.owner → posix b.owner ≡ false → is_range a.what ≡ true → is_range b.what ≡ true → goes_first a b ≡ true
unfolding key
goes_among a b file owner unnamed h k = ap (λ (ks : List ℕ). no_later ks (key_by b b.what)) (same_key a b a.what b.what file owner unnamed h k) ∙ no_later-self (key_by b b.what)

-- one that is locked comes behind the others
pub elements_entered : (file : ℕ) (owner : Owner) (c : Claim) (cs : List Claim) → is_range_of file owner c ≡ true → posix owner ≡ false → Pairwise goes_first cs → elements_of file owner (inserted c cs) ≡ elements_of file owner cs ++ c.what ∷ []
unfolding inserted
elements_entered file owner c cs mine unnamed ordered = go cs ordered where
  at : (d : Claim) → is_range_of file owner d ≡ true → goes_first d c ≡ true
  at d h =
      let a = own_parts file owner d h in
      let b = own_parts file owner c mine in
      goes_among d c (a.0 ∙ sym b.0) (a.1 ∙ sym b.1) (ap (λ (o : Owner). posix o) b.1 ∙ unnamed) a.2 b.2

  none : (ds : List Claim) → AllByRecursion (λ d. goes_first d c ≡ false) ds → elements_of file owner ds ≡ []
  none [] all = refl
  none (d ∷ ds) all =
      elim (cases_Bool (is_range_of file owner d)) [
        | inl own ↦ absurd (both_ways (goes_first d c) all.0 (at d own))
        | inr other ↦ rw other (none ds all.1)
      ]

  all_later : (d : Claim) (ds : List Claim) → goes_first d c ≡ false → AllByRecursion (λ e. goes_first d e ≡ true) ds → AllByRecursion (λ e. goes_first e c ≡ false) ds
  all_later d [] later all = tt
  all_later d (e ∷ es) later all = (
    false_from_ne_true (goes_first e c) (λ (h : goes_first e c ≡ true). both_ways (goes_first d c) later (no_later-on (key d) (key e) (key c) all.0 h)),
    all_later d es later all.1,
  )

  go : (ds : List Claim) → Pairwise goes_first ds → elements_of file owner (placed goes_first c ds) ≡ elements_of file owner ds ++ c.what ∷ []
  go [] all = rw mine refl
  go (d ∷ ds) all =
      elim (cases_Bool (goes_first d c)) [
        | inl early ↦ rw early
            (elim (cases_Bool (is_range_of file owner d)) [
              | inl own ↦ rw own (ap (λ (ws : List What). d.what ∷ ws) (go ds all.1))
              | inr other ↦ rw other (go ds all.1)
            ])
        | inr late ↦
            rw (late, mine) (ap (λ (ws : List What). c.what ∷ ws) (none (d ∷ ds) (late, all_later d ds late all.0)) ∙ ap (λ (ws : List What). ws ++ c.what ∷ []) (sym (none (d ∷ ds) (late, all_later d ds late all.0))))
      ]

-- one that is no range of the owner on the file changes nothing of it
pub elements_apart : (file : ℕ) (owner : Owner) (c : Claim) (cs : List Claim) → is_range_of file owner c ≡ false → elements_of file owner (inserted c cs) ≡ elements_of file owner cs
unfolding inserted
elements_apart file owner c [] other = rw other refl
elements_apart file owner c (d ∷ ds) other =
    elim (cases_Bool (goes_first d c)) [
      | inr late ↦ rw (late, other) refl
      | inl early ↦ rw early
          (elim (cases_Bool (is_range_of file owner d)) [
            | inl own ↦ rw own (ap (λ (ws : List What). d.what ∷ ws) (elements_apart file owner c ds other))
            | inr apart ↦ rw apart (elements_apart file owner c ds other)
          ])
    ]

-- ---- one taken out

-- a claim that is compared with itself, but for what it claims
alike_what : (c : Claim) (what : What) → same_claims c (with_what c what) ≡ same_what c.what what
unfolding same_claims
alike_what c what = rw (eq-eqb c.file c.file refl, same_owners-self c.owner, same_parties-self c.party) refl

pub what_is : (c : Claim) (what : What) → same_what c.what what ≡ true → c.what ≡ what
what_is c what h = ap (λ (x : Claim). x.what) (same_claims-true c (with_what c what) (alike_what c what ∙ h))

what_self : (c : Claim) → same_what c.what c.what ≡ true
what_self c = sym (alike_what c c.what) ∙ same_claims-self c

-- a range is equal to no claim that isn't one of its owner's ranges on its file
other_same : (c d : Claim) → is_range c.what ≡ true → is_range_of c.file c.owner d ≡ false → same_claims d c ≡ false
other_same c d range other =
    elim (cases_Bool (same_claims d c)) [
      | inr e ↦ e
      | inl same ↦
          let is : d ≡ c = same_claims-true d c same in
          absurd (both_ways (is_range_of c.file c.owner d) other (subst (λ (x : Claim). is_range_of c.file c.owner x ≡ true) (sym is) (and_from (is_of c.file c.owner c) (is_range c.what) (is_own c) range)))
    ]

-- what is found is a range of the asker's on its file, and is what was looked for
pub element_is : (ask : Claim) (what : What) (cs : List Claim) (c : Claim) → find (is_element ask what) cs ≡ Some c → IsIn c cs × (is_range_of ask.file ask.owner c ≡ true) × (c.what ≡ what)
element_is ask what [] c e = absurd cc
element_is ask what (d ∷ ds) c e =
    elim (cases_Bool (is_element ask what d)) [
      | inr later ↦ let rest = element_is ask what ds c (rw later at e) in (inr rest.0, rest.1, rest.2)
      | inl here ↦
          let same : d ≡ c = same_Some d c (rw here at e) in
          let parts = and_parts (is_range_of ask.file ask.owner d) (same_what d.what what) here in
          (inl same, subst (λ (x : Claim). is_range_of ask.file ask.owner x ≡ true) same parts.0, subst (λ (x : Claim). x.what ≡ what) same (what_is d what parts.1))
    ]

-- without it the elements are those without the first that is equal to it
pub elements_removed : (ask : Claim) (what : What) (cs : List Claim) (c : Claim) → find (is_element ask what) cs ≡ Some c → elements_of ask.file ask.owner (removed c cs) ≡ without what (elements_of ask.file ask.owner cs)
elements_removed ask what [] c e = absurd cc
elements_removed ask what (d ∷ ds) c e =
    elim (cases_Bool (is_range_of ask.file ask.owner d)) [
      | inl own ↦ elim (cases_Bool (same_what d.what what)) [
        | inl equal ↦
            let same : d ≡ c = same_Some d c (rw (own, equal) at e) in
            rw (subst (λ (x : Claim). same_claims d x ≡ true) same (same_claims-self d), own, equal) refl
        | inr other ↦
            let more : find (is_element ask what) ds ≡ Some c = rw (own, other) at e in
            let is = element_is ask what ds c more in
            let apart : same_claims d c ≡ false = unequal d c (λ same. both_ways (same_what d.what what) other (ap (λ (w : What). same_what d.what w) (sym is.2 ∙ ap (λ (x : Claim). x.what) (sym same)) ∙ what_self d)) in
            rw (apart, own, other) (ap (λ (ws : List What). d.what ∷ ws) (elements_removed ask what ds c more))
      ]
      | inr apart ↦
          let more : find (is_element ask what) ds ≡ Some c = rw apart at e in
          let is = element_is ask what ds c more in
          let two : same_claims d c ≡ false = unequal d c (λ same. both_ways (is_range_of ask.file ask.owner d) apart (ap (is_range_of ask.file ask.owner) same ∙ is.1)) in
          rw (two, apart) (elements_removed ask what ds c more)
    ]
  where
    unequal : (x y : Claim) → (x ≡ y → ⊥) → same_claims x y ≡ false
    unequal x y apart = elim (cases_Bool (same_claims x y)) [ inr e ↦ e | inl same ↦ absurd (apart (same_claims-true x y same)) ]

pub elements_removed_apart : (file : ℕ) (owner : Owner) (c : Claim) (cs : List Claim) → is_range_of file owner c ≡ false → elements_of file owner (removed c cs) ≡ elements_of file owner cs
elements_removed_apart file owner c [] other = refl
elements_removed_apart file owner c (d ∷ ds) other =
    elim (cases_Bool (same_claims d c)) [
      | inl same ↦
          let is : is_range_of file owner d ≡ false = ap (is_range_of file owner) (same_claims-true d c same) ∙ other in
          rw (same, is) refl
      | inr apart ↦ rw apart
          (elim (cases_Bool (is_range_of file owner d)) [
            | inl own ↦ rw own (ap (λ (ws : List What). d.what ∷ ws) (elements_removed_apart file owner c ds other))
            | inr e ↦ rw e (elements_removed_apart file owner c ds other)
          ])
    ]

-- where none is found none of the elements is equal to it, and else one is
pub among_found : (ask : Claim) (what : What) (cs : List Claim) → is_some (find (is_element ask what) cs) ≡ is_among what (elements_of ask.file ask.owner cs)
among_found ask what [] = refl
among_found ask what (d ∷ ds) =
    elim (cases_Bool (is_range_of ask.file ask.owner d)) [
      | inl own ↦ elim (cases_Bool (same_what d.what what)) [
        | inl equal ↦ rw (own, equal) refl
        | inr other ↦ rw (own, other) (among_found ask what ds)
      ]
      | inr apart ↦ rw apart (among_found ask what ds)
    ]

-- what an unlock takes out, among the claims and among the elements

without_none : (w : What) (ws : List What) → is_among w ws ≡ false → without w ws ≡ ws
without_none w [] none = refl
without_none w (v ∷ vs) none =
    let parts = or_parts (same_what v w) (is_among w vs) none in
    rw parts.0 (ap (λ (ws : List What). v ∷ ws) (without_none w vs parts.1))

pub elements_unlocked : (ask : Claim) (extent : Extent) (cs : List Claim) → elements_of ask.file ask.owner (taken_out (element_held ask extent cs) cs) ≡ unlocked_elements extent (elements_of ask.file ask.owner cs)
unfolding element_held unlocked_elements
elements_unlocked ask extent cs = first (find (is_element ask (Range extent true)) cs) refl where
  es : List What
  es = elements_of ask.file ask.owner cs

  told : Option Claim → List What
  told o = elements_of ask.file ask.owner (taken_out o cs)

  left : Bool → List What
  left b = if b then without (Range extent true) es else without (Range extent false) es

  second : (o : Option Claim) → find (is_element ask (Range extent false)) cs ≡ o → told (find (is_element ask (Range extent false)) cs) ≡ without (Range extent false) es
  second (Some c) e = ap told e ∙ elements_removed ask (Range extent false) cs c e
  second None e = ap told e ∙ sym (without_none (Range extent false) es (sym (among_found ask (Range extent false) cs) ∙ ap is_some e))

  first : (o : Option Claim) → find (is_element ask (Range extent true)) cs ≡ o → told (option_or (find (is_element ask (Range extent true)) cs) (find (is_element ask (Range extent false)) cs)) ≡ left (is_among (Range extent true) es)
  first (Some c) e =
      ap (λ (o : Option Claim). told (option_or o (find (is_element ask (Range extent false)) cs))) e
      ∙ elements_removed ask (Range extent true) cs c e
      ∙ sym (ap left (sym (among_found ask (Range extent true) cs) ∙ ap is_some e))
  first None e =
      ap (λ (o : Option Claim). told (option_or o (find (is_element ask (Range extent false)) cs))) e
      ∙ second (find (is_element ask (Range extent false)) cs) refl
      ∙ sym (ap left (sym (among_found ask (Range extent true) cs) ∙ ap is_some e))
