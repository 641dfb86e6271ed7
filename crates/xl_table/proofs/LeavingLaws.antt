-- What is done file by file, as far as someone stands there.
use Rattle.std.proofs.Common.{◌≡◌, ℕ, suc, ◌-◌, ◌<◌, ◌≤◌, length, Bool, true, false, not, ◌==◌, ◌&&◌, ◌||◌, nat_lt, List, [], ◌∷◌, ◌++◌, Option, Some, None, refl, sym, ap, subst, ◌∙◌, inl, inr, arith}
use Rattle.std.proofs.lemmas.Bool.{cases_Bool, both_ways, eq-eqb, false_from_ne_true, or_right}
use Rattle.std.proofs.lemmas.Bool.Decides.{nat_tests}
use Rattle.std.proofs.lemmas.List.{append_assoc}
use Rattle.std.proofs.lemmas.List.Elements.{filter-append}
use Rattle.std.specs.List.{AllByRecursion, filter}
use Rattle.xl_base.proofs.Members.{all_in, all_from, all_weaker, in_filter_from, pairwise_filter}
use Rattle.xl_base.specs.Lists.{IsIn, Pairwise}
use Rattle.xl_base.specs.declared.name.Owner.TheVariants as owners
use Rattle.xl_base.specs.declared.name.Party.{Party}
use Rattle.xl_index.specs.Index.{Has, HasLeft, IsIndexOf}
use Rattle.xl_index.specs.Totals.{total, AreAlike}
use Rattle.xl_index.proofs.IndexLaws.{index_alike}
use Rattle.xl_index.proofs.TotalLaws.{total_append, total_filters}
use Rattle.xl_index.specs.Stands.{who_of, who_opens, owned_by, is_by, is_past, is_ahead, any_on, IsNext}
use Rattle.xl_index.specs.declared.index.Index.{Index}
use Rattle.xl_matrix.proofs.EqualLaws.{same_owners-true, same_parties-true}
use Rattle.xl_matrix.specs.Blocks.{is_cache}
use Rattle.xl_matrix.specs.Equal.{same_owners, same_parties}
use Rattle.xl_matrix.specs.declared.claim.Claim.{Claim}
use Rattle.xl_table.specs.Files.{here, alone, AreOn}
use Rattle.xl_table.specs.Leaving.{goes, goes_on, earlier, is_leavers, IsFirst, IsNextLeft}
use Rattle.xl_table.specs.Order.{goes_first}
use Rattle.xl_table.specs.declared.leaver.Leaver.{Leaver}
use Rattle.xl_table.specs.declared.leaver.Leaver.TheVariants as leavers
use Rattle.xl_table.proofs.AloneLaws.{ordered_files, done_alone, AreParts}
use Rattle.xl_table.proofs.FileLaws.{all_pass, none_pass, all_filtered, here_on}

-- ---- the index of who leaves, claim by claim

pub one_has : (who : Leaver) (c : Claim) (index : Index) (b : Bool) → b ≡ goes who c → b ≡ true → Has index (filter (goes who) (c ∷ [])) → Has index (c ∷ [])
one_has who c index b is h has = subst (λ (cs : List Claim). Has index cs) (picked (sym is ∙ h)) has
  where
    picked : goes who c ≡ true → filter (goes who) (c ∷ []) ≡ c ∷ []
    picked e = rw e refl

pub one_goes : (who : Leaver) (c : Claim) (old new : Index) (b : Bool) → b ≡ goes who c → b ≡ true → HasLeft old new (c ∷ []) → HasLeft old new (filter (goes who) (c ∷ []))
one_goes who c old new b is h left = rw (sym is ∙ h) left

pub one_stays : (who : Leaver) (c : Claim) (index : Index) (b : Bool) → b ≡ goes who c → b ≡ false → HasLeft index index (filter (goes who) (c ∷ []))
one_stays who c index b is h others has = rw (sym is ∙ h) at has

parted : (who : Leaver) (xs ys others : List Claim) → filter (goes who) (xs ++ ys) ++ others ≡ filter (goes who) xs ++ (filter (goes who) ys ++ others)
parted who xs ys others =
    ap (λ (cs : List Claim). cs ++ others) (filter-append (goes who) xs ys) ∙ append_assoc (filter (goes who) xs) (filter (goes who) ys) others

pub first_has : (who : Leaver) (xs ys : List Claim) (index : Index) → Has index (filter (goes who) (xs ++ ys)) → Has index (filter (goes who) xs)
first_has who xs ys index has = (filter (goes who) ys ++ has.0, subst (λ (cs : List Claim). IsIndexOf index cs) (parted who xs ys has.0) has.1)

pub rest_has : (who : Leaver) (xs ys : List Claim) (old new : Index) → Has old (filter (goes who) (xs ++ ys)) → HasLeft old new (filter (goes who) xs) → Has new (filter (goes who) ys)
rest_has who xs ys old new has left =
    (has.0, left (filter (goes who) ys ++ has.0) (subst (λ (cs : List Claim). IsIndexOf old cs) (parted who xs ys has.0) has.1))

pub both_left : (who : Leaver) (xs ys : List Claim) (old mid new : Index) → HasLeft old mid (filter (goes who) xs) → HasLeft mid new (filter (goes who) ys) → HasLeft old new (filter (goes who) (xs ++ ys))
both_left who xs ys old mid new first rest others is =
    rest others (first (filter (goes who) ys ++ others) (subst (λ (cs : List Claim). IsIndexOf old cs) (parted who xs ys others) is))

-- ---- who stands where

-- a party stands with its claims; an SMB open with those that it owns
party_by : (party : Party) (c : Claim) → same_parties c.party party ≡ true → is_by (who_of party) c ≡ true
party_by party c same =
    rw (eq-eqb (who_of c.party) (who_of party) (ap who_of (same_parties-true c.party party same))) refl

open_by : (number : ℕ) (c : Claim) → same_owners c.owner (owners.Open number) ≡ true → is_by (who_opens number) c ≡ true
open_by number c same =
    let own : owned_by (who_opens number) c.owner ≡ true = ap (owned_by (who_opens number)) (same_owners-true c.owner (owners.Open number) same) ∙ eq-eqb (who_opens number) (who_opens number) refl in
    elim (cases_Bool (who_of c.party == who_opens number)) [ inl e ↦ rw e refl | inr e ↦ rw e own ]

-- none of these goes that are this one's
abbrev pub AreGone : Leaver → ℕ → List Claim → Type 0
AreGone who by cs = AllByRecursion (λ c. (goes who c && is_by by c) ≡ false) cs

stays_by : (who : Leaver) (by : ℕ) (c : Claim) → (goes who c && is_by by c) ≡ false → is_by by c ≡ true → goes who c ≡ false
stays_by who by c none is = elim (cases_Bool (goes who c)) [ inl e ↦ absurd (both_ways false refl (sym (rw e at none) ∙ is)) | inr e ↦ e ]

all_stay : (who : Leaver) (cs new : List Claim) → ((c : Claim) → IsIn c new → goes who c ≡ false) → filter (λ c. not (goes who c)) new ≡ filter (λ c. not (goes who c)) cs → new ≡ filter (λ c. not (goes who c)) cs
all_stay who cs new stay same =
    sym (all_pass (λ c. not (goes who c)) new (all_from (λ c. not (goes who c) ≡ true) new (λ c h. ap not (stay c h)))) ∙ same

pub party_gone : (party : Party) (by : ℕ) (cs new : List Claim) → by ≡ who_of party → AreGone (leavers.Party party) by new → filter (λ c. not (goes (leavers.Party party) c)) new ≡ filter (λ c. not (goes (leavers.Party party) c)) cs → new ≡ filter (λ c. not (goes (leavers.Party party) c)) cs
party_gone party by cs new is gone same = all_stay (leavers.Party party) cs new stay same
  where
    stay : (c : Claim) → IsIn c new → goes (leavers.Party party) c ≡ false
    stay c h = false_from_ne_true (goes (leavers.Party party) c) (λ e. both_ways (goes (leavers.Party party) c) (stays_by (leavers.Party party) by c (all_in (λ d. (goes (leavers.Party party) d && is_by by d) ≡ false) c new gone h) (subst (λ (n : ℕ). is_by n c ≡ true) (sym is) (party_by party c e))) e)

-- what goes with an SMB open is owned by it, or is a cache of the party that goes with it
open_goes : (number : ℕ) (party : Option Party) (c : Claim) → goes (leavers.Open number party) c ≡ true → is_cache c.what ≡ false → is_by (who_opens number) c ≡ true
open_goes number party c h other = open_by number c (rw other at h)

cache_goes : (number : ℕ) (party : Party) (c : Claim) → goes (leavers.Open number (Some party)) c ≡ true → is_cache c.what ≡ true → is_by (who_of party) c ≡ true
cache_goes number party c h cache = party_by party c (rw cache at h)

no_cache_goes : (number : ℕ) (c : Claim) → goes (leavers.Open number None) c ≡ true → is_cache c.what ≡ false
no_cache_goes number c h = elim (cases_Bool (is_cache c.what)) [ inl e ↦ absurd (both_ways false refl (rw e at h)) | inr e ↦ e ]

pub open_gone : (number by : ℕ) (cs new : List Claim) → by ≡ who_opens number → AreGone (leavers.Open number None) by new → filter (λ c. not (goes (leavers.Open number None) c)) new ≡ filter (λ c. not (goes (leavers.Open number None) c)) cs → new ≡ filter (λ c. not (goes (leavers.Open number None) c)) cs
open_gone number by cs new is gone same = all_stay who cs new stay same
  where
    who : Leaver
    who = leavers.Open number None

    stay : (c : Claim) → IsIn c new → goes (leavers.Open number None) c ≡ false
    stay c h = false_from_ne_true (goes (leavers.Open number None) c) (λ e. both_ways (goes (leavers.Open number None) c) (stays_by (leavers.Open number None) by c (all_in (λ d. (goes (leavers.Open number None) d && is_by by d) ≡ false) c new gone h) (subst (λ (n : ℕ). is_by n c ≡ true) (sym is) (open_goes number None c e (no_cache_goes number c e)))) e)

pub both_gone : (number : ℕ) (party : Party) (own by : ℕ) (cs mid new : List Claim) → own ≡ who_opens number → by ≡ who_of party → AreGone (leavers.Open number (Some party)) own mid
    → ((p : Claim → Bool) → AllByRecursion (λ c. p c ≡ true) mid → AllByRecursion (λ c. p c ≡ true) new) → AreGone (leavers.Open number (Some party)) by new
    → filter (λ c. not (goes (leavers.Open number (Some party)) c)) mid ≡ filter (λ c. not (goes (leavers.Open number (Some party)) c)) cs
    → filter (λ c. not (goes (leavers.Open number (Some party)) c)) new ≡ filter (λ c. not (goes (leavers.Open number (Some party)) c)) mid
    → new ≡ filter (λ c. not (goes (leavers.Open number (Some party)) c)) cs
both_gone number party own by cs mid new own_is by_is owned fewer gone first then = all_stay (leavers.Open number (Some party)) cs new stay (then ∙ first)
  where
    kept : AllByRecursion (λ c. not (goes (leavers.Open number (Some party)) c && is_by own c) ≡ true) new
    kept = fewer (λ c. not (goes (leavers.Open number (Some party)) c && is_by own c))
        (all_from (λ c. not (goes (leavers.Open number (Some party)) c && is_by own c) ≡ true) mid
        (λ c h. ap not (all_in (λ d. (goes (leavers.Open number (Some party)) d && is_by own d) ≡ false) c mid owned h)))

    unnot : (b : Bool) → not b ≡ true → b ≡ false
    unnot true e = absurd (both_ways false refl e)
    unnot false e = refl

    stay : (c : Claim) → IsIn c new → goes (leavers.Open number (Some party)) c ≡ false
    stay c h =
        false_from_ne_true (goes (leavers.Open number (Some party)) c)
        (λ e. both_ways (goes (leavers.Open number (Some party)) c)
        (elim (cases_Bool (is_cache c.what)) [
          | inl cache ↦ stays_by (leavers.Open number (Some party)) by c (all_in (λ d. (goes (leavers.Open number (Some party)) d && is_by by d) ≡ false) c new gone h) (subst (λ (n : ℕ). is_by n c ≡ true) (sym by_is) (cache_goes number party c e cache))
          | inr other ↦ stays_by (leavers.Open number (Some party)) own c (unnot (goes (leavers.Open number (Some party)) c && is_by own c) (all_in (λ d. not (goes (leavers.Open number (Some party)) d && is_by own d) ≡ true) c new kept h)) (subst (λ (n : ℕ). is_by n c ≡ true) (sym own_is) (open_goes number (Some party) c e other))
        ]) e)

-- ---- one of a page's claims after another

pub claim_first : (who : Leaver) (c : Claim) (cs : List Claim) (index : Index) → Has index (filter (goes who) (c ∷ cs)) → Has index (filter (goes who) (c ∷ []))
claim_first who c cs index has = first_has who (c ∷ []) cs index has

pub claim_rest : (who : Leaver) (c : Claim) (cs : List Claim) (old new : Index) → Has old (filter (goes who) (c ∷ cs)) → HasLeft old new (filter (goes who) (c ∷ [])) → Has new (filter (goes who) cs)
claim_rest who c cs old new has left = rest_has who (c ∷ []) cs old new has left

pub claim_both : (who : Leaver) (c : Claim) (cs : List Claim) (old mid new : Index) → HasLeft old mid (filter (goes who) (c ∷ [])) → HasLeft mid new (filter (goes who) cs) → HasLeft old new (filter (goes who) (c ∷ cs))
claim_both who c cs old mid new first rest = both_left who (c ∷ []) cs old mid new first rest

-- ---- one file

goes_there : (who : Leaver) (file : ℕ) (cs : List Claim) → filter (goes who) (here file cs) ≡ filter (goes_on who file) cs
goes_there who file [] = refl
goes_there who file (c ∷ cs) =
    elim (cases_Bool (c.file == file)) [
      | inl on ↦ elim (cases_Bool (goes who c)) [
        | inl e ↦ rw (on, e) (ap (λ (ds : List Claim). c ∷ ds) (goes_there who file cs))
        | inr e ↦ rw (on, e) (goes_there who file cs)
      ]
      | inr off ↦ elim (cases_Bool (goes who c)) [
        | inl e ↦ rw (off, e) (goes_there who file cs)
        | inr e ↦ rw (off, e) (goes_there who file cs)
      ]
    ]

alike_dropped : (who : Leaver) (file : ℕ) (held : List Claim) → AreAlike held (filter (goes who) (here file held) ++ filter (λ c. not (goes_on who file c)) held)
alike_dropped who file held w =
    omega (arith, total_append w (filter (goes who) (here file held)) (filter (λ c. not (goes_on who file c)) held), total_filters (goes_on who file) w held, ap (total w) (goes_there who file held))

pub has_there : (who : Leaver) (file : ℕ) (index : Index) (held on : List Claim) → IsIndexOf index held → on ≡ here file held → Has index (filter (goes who) on)
has_there who file index held on is same =
    subst (λ (cs : List Claim). Has index (filter (goes who) cs)) (sym same)
    (filter (λ c. not (goes_on who file c)) held, index_alike index held (filter (goes who) (here file held) ++ filter (λ c. not (goes_on who file c)) held) (alike_dropped who file held) is)

pub index_dropped : (who : Leaver) (file : ℕ) (old new : Index) (held on now : List Claim) → IsIndexOf old held → on ≡ here file held → HasLeft old new (filter (goes who) on) → now ≡ filter (λ c. not (goes_on who file c)) held → IsIndexOf new now
index_dropped who file old new held on now is same left done =
    let kept = filter (λ c. not (goes_on who file c)) held in
    subst (λ (cs : List Claim). IsIndexOf new cs) (sym done)
    (left kept (subst (λ (cs : List Claim). IsIndexOf old (filter (goes who) cs ++ kept)) (sym same)
    (index_alike old held (filter (goes who) (here file held) ++ kept) (alike_dropped who file held) is)))

stays_off : (who : Leaver) (file : ℕ) (c : Claim) → (c.file == file) ≡ false → not (goes_on who file c) ≡ true
stays_off who file c off = elim (cases_Bool (goes who c)) [ inl e ↦ rw (e, off) refl | inr e ↦ rw e refl ]

pub dropped_on : (who : Leaver) (file : ℕ) (cs new : List Claim) → AreOn file cs → new ≡ filter (λ c. not (goes who c)) cs → new ≡ filter (λ c. not (goes_on who file c)) cs
dropped_on who file cs new on is = is ∙ go cs on
  where
    go : (ds : List Claim) → AreOn file ds → filter (λ c. not (goes who c)) ds ≡ filter (λ c. not (goes_on who file c)) ds
    go [] all = refl
    go (d ∷ ds) all =
        elim (cases_Bool (goes who d)) [
          | inl e ↦ rw (e, all.0) (go ds all.1)
          | inr e ↦ rw e (ap (λ (es : List Claim). d ∷ es) (go ds all.1))
        ]

apart_early : (n m : ℕ) → nat_lt n m ≡ true → (n == m) ≡ false
apart_early n m h = grind (arith, nat_tests)

apart_late : (n m : ℕ) → nat_lt m n ≡ true → (n == m) ≡ false
apart_late n m h = grind (arith, nat_tests)

dropped_parts : (who : Leaver) (file : ℕ) (front on back : List Claim) → AreParts file front on back → filter (λ c. not (goes_on who file c)) (front ++ (on ++ back)) ≡ front ++ (filter (λ c. not (goes_on who file c)) on ++ back)
dropped_parts who file front on back parts =
    let p : Claim → Bool = λ c. not (goes_on who file c) in
    filter-append p front (on ++ back)
    ∙ ap (λ (cs : List Claim). cs ++ filter p (on ++ back)) (all_pass p front (all_weaker (λ c. nat_lt c.file file ≡ true) (λ c. p c ≡ true) front (λ c h. stays_off who file c (apart_early c.file file h)) parts.early))
    ∙ ap (λ (cs : List Claim). front ++ cs)
    (filter-append p on back
    ∙ ap (λ (cs : List Claim). filter p on ++ cs) (all_pass p back (all_weaker (λ c. nat_lt file c.file ≡ true) (λ c. p c ≡ true) back (λ c h. stays_off who file c (apart_late c.file file h)) parts.late)))

pub dropped_alone : (who : Leaver) (file : ℕ) (cs : List Claim) → Pairwise goes_first cs → filter (λ c. not (goes_on who file c)) cs ≡ alone file (filter (λ c. not (goes_on who file c))) cs
dropped_alone who file cs ordered = done_alone file (filter (λ c. not (goes_on who file c))) (dropped_parts who file) cs ordered

pub dropped_here : (who : Leaver) (file : ℕ) (cs : List Claim) → AreOn file (filter (λ c. not (goes_on who file c)) (here file cs))
dropped_here who file cs = all_filtered (λ c. (c.file == file) ≡ true) (λ c. not (goes_on who file c)) (here file cs) (here_on file cs)

pub none_on : (who : Leaver) (file : ℕ) (cs : List Claim) → here file cs ≡ [] → cs ≡ filter (λ c. not (goes_on who file c)) cs
none_on who file [] none = refl
none_on who file (c ∷ cs) none =
    elim (cases_Bool (c.file == file)) [
      | inl on ↦ absurd (zero≢suc (length (here file cs)) (sym (ap (λ (ds : List Claim). length ds) (rw on at none))))
      | inr off ↦ rw (stays_off who file c off) (ap (λ (ds : List Claim). c ∷ ds) (none_on who file cs (rw off at none)))
    ]
  where
    zero≢suc : (n : ℕ) → 0 ≡ suc n → ⊥
    zero≢suc n h = omega (arith, h)

-- ---- file after file

-- what was done so far: of those files that are not past this one all are gone that go and are this one's
pub record IsDropping (who : Leaver) (by : ℕ) (past : Option ℕ) (old now : List Claim) : Type 0 where
  pub gone : AllByRecursion (λ c. (goes who c && is_by by c && not (is_past past c.file)) ≡ false) now
  pub fewer : (p : Claim → Bool) → AllByRecursion (λ c. p c ≡ true) old → AllByRecursion (λ c. p c ≡ true) now
  pub still : filter (λ c. not (goes who c)) now ≡ filter (λ c. not (goes who c)) old
  pub ordered : Pairwise goes_first now

none_yet : (a : Bool) → (a && false) ≡ false
none_yet true = refl
none_yet false = refl

pub dropping_first : (who : Leaver) (by : ℕ) (old : List Claim) → Pairwise goes_first old → IsDropping who by None old old
dropping_first who by old ordered =
    record {
      gone = all_from (λ c. (goes who c && is_by by c && false) ≡ false) old (λ c h. none_yet (goes who c && is_by by c));
      fewer = λ p all. all;
      still = refl;
      ordered = ordered;
    }

stays_twice : (who : Leaver) (file : ℕ) (cs : List Claim) → filter (λ c. not (goes who c)) (filter (λ c. not (goes_on who file c)) cs) ≡ filter (λ c. not (goes who c)) cs
stays_twice who file [] = refl
stays_twice who file (c ∷ cs) =
    elim (cases_Bool (goes who c)) [
      | inl e ↦ elim (cases_Bool (c.file == file)) [
        | inl on ↦ rw (e, on) (stays_twice who file cs)
        | inr off ↦ rw (e, off, e) (stays_twice who file cs)
      ]
      | inr e ↦ rw (e, e) (ap (λ (ds : List Claim). c ∷ ds) (stays_twice who file cs))
    ]

-- the numbers of a claim whose file is not past one stand at it or before it
not_past : (file own : ℕ) → nat_lt file own ≡ false → (own == file) ≡ false → nat_lt own file ≡ true
not_past file own h apart = grind (arith, nat_tests)

gone_next : (goes_it by_it was_past before on now_past : Bool) → (goes_it && by_it && not was_past) ≡ false → ((by_it && was_past) && before) ≡ false → not (goes_it && on) ≡ true → (now_past ≡ false → on ≡ false → before ≡ true) → (goes_it && by_it && not now_past) ≡ false
gone_next false by_it was_past before on now_past old next stays apart = refl
gone_next true false was_past before on now_past old next stays apart = refl
gone_next true true was_past before on true old next stays apart = refl
gone_next true true was_past before true false old next stays apart = absurd (both_ways false refl stays)
gone_next true true true before false false old next stays apart = absurd (both_ways before next (apart refl refl))
gone_next true true false before false false old next stays apart = absurd (both_ways false refl (sym old))

pub dropping_more : (who : Leaver) (by : ℕ) (past : Option ℕ) (file : ℕ) (old now new : List Claim) → IsDropping who by past old now → IsNext (Some file) by past now → new ≡ filter (λ c. not (goes_on who file c)) now → IsDropping who by (Some file) old new
dropping_more who by past file old now new so_far next is =
    subst (λ (cs : List Claim). IsDropping who by (Some file) old cs) (sym is)
    (record {
      gone = all_from (λ c. (goes who c && is_by by c && not (nat_lt file c.file)) ≡ false) (filter p now) gone;
      fewer = λ q all. all_filtered (λ c. q c ≡ true) p now (so_far.fewer q all);
      still = stays_twice who file now ∙ so_far.still;
      ordered = pairwise_filter goes_first p now so_far.ordered;
    })
  where
    p : Claim → Bool
    p = λ c. not (goes_on who file c)

    gone : (c : Claim) → IsIn c (filter (λ d. not (goes_on who file d)) now) → (goes who c && is_by by c && not (nat_lt file c.file)) ≡ false
    gone c h =
        let was = in_filter_from (λ d. not (goes_on who file d)) c now h in
        gone_next (goes who c) (is_by by c) (is_past past c.file) (nat_lt c.file file) (c.file == file) (nat_lt file c.file)
        (all_in (λ d. (goes who d && is_by by d && not (is_past past d.file)) ≡ false) c now so_far.gone was.0)
        (all_in (λ d. (is_ahead by past d && nat_lt d.file file) ≡ false) c now next.1 was.0) was.1
        (λ late apart. not_past file c.file late apart)

gone_last : (goes_it by_it was_past : Bool) → (goes_it && by_it && not was_past) ≡ false → (by_it && was_past) ≡ false → (goes_it && by_it) ≡ false
gone_last false by_it was_past old none = refl
gone_last true false was_past old none = refl
gone_last true true true old none = none
gone_last true true false old none = old

pub dropping_done : (who : Leaver) (by : ℕ) (past : Option ℕ) (old now : List Claim) → IsDropping who by past old now → IsNext None by past now → AreGone who by now
dropping_done who by past old now so_far next =
    all_from (λ c. (goes who c && is_by by c) ≡ false) now
    (λ c h. gone_last (goes who c) (is_by by c) (is_past past c.file) (all_in (λ d. (goes who d && is_by by d && not (is_past past d.file)) ≡ false) c now so_far.gone h) (all_in (λ d. is_ahead by past d ≡ false) c now next h))

-- how far the files are gone through, which have 32 bits
abbrev pub files_left : Option ℕ → ℕ
files_left None = 4294967296
files_left (Some file) = 4294967295 - file

pub fewer_left : (past : Option ℕ) (file : ℕ) → is_past past file ≡ true → file < 4294967296 → files_left (Some file) < files_left past
fewer_left None file h fits = omega (arith, fits)
fewer_left (Some past) file h fits = omega (arith, fits, later past file h)
  where
    later : (a b : ℕ) → nat_lt a b ≡ true → a < b
    later a b e = grind (arith, nat_tests)

-- ---- a party's claims, file after file

-- those of a party on the files that are not past this one
abbrev pub listed : Party → Option ℕ → List Claim → List Claim
listed party past cs = filter (λ c. same_parties c.party party && not (is_past past c.file)) cs

same_filter : (p q : Claim → Bool) (cs : List Claim) → ((c : Claim) → IsIn c cs → p c ≡ q c) → filter p cs ≡ filter q cs
same_filter p q [] same = refl
same_filter p q (c ∷ cs) same =
    elim (cases_Bool (q c)) [
      | inl e ↦ rw (same c (inl refl) ∙ e, e) (ap (λ (ds : List Claim). c ∷ ds) (same_filter p q cs (λ d h. same d (inr h))))
      | inr e ↦ rw (same c (inl refl) ∙ e, e) (same_filter p q cs (λ d h. same d (inr h)))
    ]

pub listed_first : (party : Party) (cs out : List Claim) → out ≡ [] → out ≡ listed party None cs
listed_first party cs out is = is ∙ sym (none_pass (λ c. same_parties c.party party && false) cs (all_from (λ c. (same_parties c.party party && false) ≡ false) cs (λ c h. none_yet (same_parties c.party party))))

listed_over : (party : Party) (by : ℕ) (past : Option ℕ) (file : ℕ) (c : Claim) → (same_parties c.party party ≡ true → is_by by c ≡ true) → is_past past file ≡ true → (is_ahead by past c && nat_lt c.file file) ≡ false → (same_parties c.party party && not (is_past past c.file)) ≡ (same_parties c.party party && nat_lt c.file file)
listed_over party by past file c mine later next = go (same_parties c.party party) (is_by by c) (is_past past c.file) (nat_lt c.file file) mine next (before past later)
  where
    before : (p : Option ℕ) → is_past p file ≡ true → is_past p c.file ≡ false → nat_lt c.file file ≡ true
    before None h e = absurd (both_ways false refl (sym e))
    before (Some n) h e = grind (arith, nat_tests)

    go : (own by_it past_it early : Bool) → (own ≡ true → by_it ≡ true) → ((by_it && past_it) && early) ≡ false → (past_it ≡ false → early ≡ true) → (own && not past_it) ≡ (own && early)
    go false by_it past_it early m n b = refl
    go true by_it false early m n b = sym (b refl)
    go true by_it true early m n b = sym (rw (m refl) at n)

files_in_order : (n m : ℕ) → nat_lt m n ≡ false → n ≤ m
files_in_order n m h = grind (arith, nat_tests)

-- claims of a file stand behind those of files before it
no_earlier : (file : ℕ) (c : Claim) (cs : List Claim) → AllByRecursion (λ d. goes_first c d ≡ true) cs → file ≤ c.file → AllByRecursion (λ d. file ≤ d.file) cs
no_earlier file c cs all h = all_weaker (λ d. goes_first c d ≡ true) (λ d. file ≤ d.file) cs (λ d e. omega (arith, files_in_order c.file d.file (ordered_files c d e), h)) all

test_false : (a b : Bool) → b ≡ false → (a && b) ≡ false
test_false true b h = h
test_false false b h = refl

none_before : (p : Claim → Bool) (file : ℕ) (cs : List Claim) → AllByRecursion (λ d. file ≤ d.file) cs → filter (λ c. p c && nat_lt c.file file) cs ≡ []
none_before p file cs all = none_pass (λ c. p c && nat_lt c.file file) cs (all_weaker (λ d. file ≤ d.file) (λ d. (p d && nat_lt d.file file) ≡ false) cs (λ d h. test_false (p d) (nat_lt d.file file) (no_less file d.file h)) all)
  where
    no_less : (a b : ℕ) → a ≤ b → nat_lt b a ≡ false
    no_less a b h = grind (arith, nat_tests)

-- of the files up to one: those before it, and then those on it
listed_on : (party : Party) (file : ℕ) (cs : List Claim) → Pairwise goes_first cs → listed party (Some file) cs ≡ filter (λ c. same_parties c.party party && nat_lt c.file file) cs ++ filter (λ c. same_parties c.party party) (here file cs)
listed_on party file [] ordered = refl
listed_on party file (c ∷ cs) ordered =
    let rest = listed_on party file cs ordered.1 in
    elim (cases_Bool (nat_lt c.file file)) [
      | inl early ↦ elim (cases_Bool (same_parties c.party party)) [
        | inl e ↦ rw (e, early, apart_early c.file file early, not_late c.file file early) (ap (λ (ds : List Claim). c ∷ ds) rest)
        | inr e ↦ rw (e, apart_early c.file file early) rest
      ]
      | inr other ↦
          let none = none_before (λ d. same_parties d.party party) file cs (no_earlier file c cs ordered.0 (no_less c.file file other)) in
          elim (cases_Bool (c.file == file)) [
            | inl own ↦ elim (cases_Bool (same_parties c.party party)) [
              | inl e ↦ rw (e, other, own, own_late c.file file own, none, e) (ap (λ (ds : List Claim). c ∷ ds) (rw none at rest))
              | inr e ↦ rw (e, own, e) rest
            ]
            | inr apart ↦ elim (cases_Bool (same_parties c.party party)) [
              | inl e ↦ rw (e, other, apart, is_late c.file file other apart) rest
              | inr e ↦ rw (e, apart) rest
            ]
          ]
    ]
  where
    not_late : (n m : ℕ) → nat_lt n m ≡ true → nat_lt m n ≡ false
    not_late n m h = grind (arith, nat_tests)

    own_late : (n m : ℕ) → (n == m) ≡ true → nat_lt m n ≡ false
    own_late n m h = grind (arith, nat_tests)

    is_late : (n m : ℕ) → nat_lt n m ≡ false → (n == m) ≡ false → nat_lt m n ≡ true
    is_late n m h e = grind (arith, nat_tests)

    no_less : (n m : ℕ) → nat_lt n m ≡ false → m ≤ n
    no_less n m h = grind (arith, nat_tests)

pub listed_more : (party : Party) (by : ℕ) (past : Option ℕ) (file : ℕ) (held out new on : List Claim) → Pairwise goes_first held → by ≡ who_of party → out ≡ listed party past held → IsNext (Some file) by past held → on ≡ here file held → new ≡ out ++ filter (λ c. same_parties c.party party) on → new ≡ listed party (Some file) held
listed_more party by past file held out new on ordered who is next on_is more =
    more
    ∙ (λ i. is i ++ filter (λ c. same_parties c.party party) (on_is i))
    ∙ ap (λ (ds : List Claim). ds ++ filter (λ c. same_parties c.party party) (here file held))
    (same_filter (λ c. same_parties c.party party && not (is_past past c.file)) (λ c. same_parties c.party party && nat_lt c.file file) held
    (λ c h. listed_over party by past file c (λ e. subst (λ (n : ℕ). is_by n c ≡ true) (sym who) (party_by party c e)) next.0 (all_in (λ d. (is_ahead by past d && nat_lt d.file file) ≡ false) c held next.1 h)))
    ∙ sym (listed_on party file held ordered)

pub listed_done : (party : Party) (by : ℕ) (past : Option ℕ) (held out : List Claim) → by ≡ who_of party → out ≡ listed party past held → IsNext None by past held → out ≡ filter (λ c. same_parties c.party party) held
listed_done party by past held out who is next =
    is
    ∙ same_filter (λ c. same_parties c.party party && not (is_past past c.file)) (λ c. same_parties c.party party) held
    (λ c h. go (same_parties c.party party) (is_by by c) (is_past past c.file) (λ e. subst (λ (n : ℕ). is_by n c ≡ true) (sym who) (party_by party c e)) (all_in (λ d. is_ahead by past d ≡ false) c held next h))
  where
    go : (own by_it past_it : Bool) → (own ≡ true → by_it ≡ true) → (by_it && past_it) ≡ false → (own && not past_it) ≡ own
    go false by_it past_it m n = refl
    go true true past_it m n = ap not n
    go true false past_it m n = absurd (both_ways false refl (m refl))

-- ---- the first file from which something goes

all_two : (P Q R : Claim → Type 0) (cs : List Claim) → ((c : Claim) → P c → Q c → R c) → AllByRecursion P cs → AllByRecursion Q cs → AllByRecursion R cs
all_two P Q R [] both ps qs = tt
all_two P Q R (c ∷ cs) both ps qs = (both c ps.0 qs.0, all_two P Q R cs both ps.1 qs.1)

neither : (r p q ahead here one other : Bool) → (r ≡ true → (p || q) ≡ true) → (here ≡ true → one ≡ true) → (here ≡ true → other ≡ true) → ((p && ahead) && one) ≡ false → ((q && ahead) && other) ≡ false → ((r && ahead) && here) ≡ false
neither false p q ahead here one other some a b f g = refl
neither true p q false here one other some a b f g = refl
neither true p q true false one other some a b f g = refl
neither true true q true true one other some a b f g = absurd (both_ways one f (a refl))
neither true false true true true one other some a b f g = absurd (both_ways other g (b refl))
neither true false false true true one other some a b f g = absurd (both_ways false refl (some refl))

never_both : (b c : Bool) → b ≡ false → (b && c) ≡ false
never_both false c e = refl
never_both true c e = absurd (both_ways true e refl)

never_alone : (b : Bool) → (b && true) ≡ false → b ≡ false
never_alone false e = refl
never_alone true e = e

before_both : (n one other : ℕ) → nat_lt one other ≡ true → nat_lt n one ≡ true → nat_lt n other ≡ true
before_both n one other h e = grind (arith, nat_tests)

before_first : (n one other : ℕ) → nat_lt one other ≡ false → nat_lt n other ≡ true → nat_lt n one ≡ true
before_first n one other h e = grind (arith, nat_tests)

any_weaker : (p q : Claim → Bool) → ((c : Claim) → p c ≡ true → q c ≡ true) → (file : ℕ) (cs : List Claim) → any_on p file cs ≡ true → any_on q file cs ≡ true
any_weaker p q some file [] h = h
any_weaker p q some file (c ∷ cs) h =
    elim (cases_Bool (p c && (c.file == file))) [
      | inl on ↦ rw (weaker (p c) (q c) (c.file == file) (some c) on) refl
      | inr off ↦ later (q c && (c.file == file)) (any_on q file cs) (any_weaker p q some file cs (rw off at h))
    ]
  where
    weaker : (a b e : Bool) → (a ≡ true → b ≡ true) → (a && e) ≡ true → (b && e) ≡ true
    weaker true b e some on = rw (some refl) on
    weaker false b e some on = absurd (both_ways false refl on)

    later : (a b : Bool) → b ≡ true → (a || b) ≡ true
    later true b h = refl
    later false b h = h

earlier_first : (these those one_s other_s : Claim → Bool) (one other past : Option ℕ) (cs : List Claim) → ((c : Claim) → these c ≡ true → (one_s c || other_s c) ≡ true) → ((c : Claim) → one_s c ≡ true → those c ≡ true) → ((c : Claim) → other_s c ≡ true → those c ≡ true) → IsFirst one one_s one_s past cs → IsFirst other other_s other_s past cs → IsFirst (earlier one other) these those past cs
earlier_first r s p q None None past cs some its theirs f g =
    all_two (λ c. (p c && is_past past c.file) ≡ false) (λ c. (q c && is_past past c.file) ≡ false) (λ c. (r c && is_past past c.file) ≡ false) cs
    (λ c a b. never_alone (r c && is_past past c.file)
    (neither (r c) (p c) (q c) (is_past past c.file) true true true (some c) (λ e. e) (λ e. e) (never_both (p c && is_past past c.file) true a) (never_both (q c && is_past past c.file) true b))) f g
earlier_first r s p q None (Some second) past cs some its theirs f g = (
  g.0,
  all_two (λ c. (p c && is_past past c.file) ≡ false) (λ c. ((q c && is_past past c.file) && nat_lt c.file second) ≡ false) (λ c. ((r c && is_past past c.file) && nat_lt c.file second) ≡ false) cs
      (λ c a b. let lt = nat_lt c.file second in neither (r c) (p c) (q c) (is_past past c.file) lt lt lt (some c) (λ e. e) (λ e. e) (never_both (p c && is_past past c.file) lt a) b) f g.1,
  any_weaker q s theirs second cs g.2,
)
earlier_first r s p q (Some first) None past cs some its theirs f g = (
  f.0,
  all_two (λ c. ((p c && is_past past c.file) && nat_lt c.file first) ≡ false) (λ c. (q c && is_past past c.file) ≡ false) (λ c. ((r c && is_past past c.file) && nat_lt c.file first) ≡ false) cs
      (λ c a b. let lt = nat_lt c.file first in neither (r c) (p c) (q c) (is_past past c.file) lt lt lt (some c) (λ e. e) (λ e. e) a (never_both (q c && is_past past c.file) lt b)) f.1 g,
  any_weaker p s its first cs f.2,
)
earlier_first r s p q (Some first) (Some second) past cs some its theirs f g =
    elim (cases_Bool (nat_lt first second)) [
      | inl e ↦ rw e (
        f.0,
        all_two (λ c. ((p c && is_past past c.file) && nat_lt c.file first) ≡ false) (λ c. ((q c && is_past past c.file) && nat_lt c.file second) ≡ false) (λ c. ((r c && is_past past c.file) && nat_lt c.file first) ≡ false) cs
            (λ c a b. neither (r c) (p c) (q c) (is_past past c.file) (nat_lt c.file first) (nat_lt c.file first) (nat_lt c.file second) (some c) (λ h. h) (λ h. before_both c.file first second e h) a b) f.1 g.1,
        any_weaker p s its first cs f.2,
      )
      | inr e ↦ rw e (
        g.0,
        all_two (λ c. ((p c && is_past past c.file) && nat_lt c.file first) ≡ false) (λ c. ((q c && is_past past c.file) && nat_lt c.file second) ≡ false) (λ c. ((r c && is_past past c.file) && nat_lt c.file second) ≡ false) cs
            (λ c a b. neither (r c) (p c) (q c) (is_past past c.file) (nat_lt c.file second) (nat_lt c.file first) (nat_lt c.file second) (some c) (λ h. before_first c.file first second e h) (λ h. h) a b) f.1 g.1,
        any_weaker q s theirs second cs g.2,
      )
    ]

-- the earlier of a file and none is that one, and of a file and itself too
same_earlier : (one : Option ℕ) → earlier one one ≡ one
same_earlier None = refl
same_earlier (Some first) = elim (cases_Bool (nat_lt first first)) [ inl e ↦ rw e refl | inr e ↦ rw e refl ]

either_of : (b : Bool) → b ≡ true → (b || b) ≡ true
either_of true e = refl
either_of false e = e

alone_first : (these those own : Claim → Bool) (file past : Option ℕ) (cs : List Claim) → ((c : Claim) → these c ≡ true → own c ≡ true) → ((c : Claim) → own c ≡ true → those c ≡ true) → IsFirst file own own past cs → IsFirst file these those past cs
alone_first these those own file past cs some its f =
    subst (λ (o : Option ℕ). IsFirst o these those past cs) (same_earlier file) (earlier_first these those own own file file past cs (λ c e. either_of (own c) (some c e)) its its f f)

next_first : (by : ℕ) (file past : Option ℕ) (cs : List Claim) → IsNext file by past cs → IsFirst file (is_by by) (is_by by) past cs
next_first by None past cs f = f
next_first by (Some n) past cs f = f

pub party_first : (party : Party) (by : ℕ) (file past : Option ℕ) (cs : List Claim) → by ≡ who_of party → IsNext file by past cs → IsNextLeft file (leavers.Party party) past cs
party_first party by file past cs is first =
    alone_first (goes (leavers.Party party)) (is_leavers (leavers.Party party)) (is_by by) file past cs (λ c e. subst (λ (n : ℕ). is_by n c ≡ true) (sym is) (party_by party c e)) (λ c e. subst (λ (n : ℕ). is_by n c ≡ true) is e) (next_first by file past cs first)

pub open_first : (number by : ℕ) (file past : Option ℕ) (cs : List Claim) → by ≡ who_opens number → IsNext file by past cs → IsNextLeft file (leavers.Open number None) past cs
open_first number by file past cs is first =
    alone_first (goes (leavers.Open number None)) (is_leavers (leavers.Open number None)) (is_by by) file past cs (λ c e. subst (λ (n : ℕ). is_by n c ≡ true) (sym is) (open_goes number None c e (no_cache_goes number c e))) (λ c e. subst (λ (n : ℕ). is_by n c ≡ true) is e) (next_first by file past cs first)

either_goes : (number : ℕ) (party : Party) (c : Claim) → goes (leavers.Open number (Some party)) c ≡ true → (is_by (who_opens number) c || is_by (who_of party) c) ≡ true
either_goes number party c e =
    elim (cases_Bool (is_by (who_opens number) c)) [
      | inl own ↦ rw own refl
      | inr other ↦ rw other
          (elim (cases_Bool (is_cache c.what)) [
            | inl cache ↦ cache_goes number party c e cache
            | inr plain ↦ absurd (both_ways (is_by (who_opens number) c) other (open_goes number (Some party) c e plain))
          ])
    ]

pub both_first : (number own by : ℕ) (party : Party) (one other result past : Option ℕ) (cs : List Claim) → own ≡ who_opens number → by ≡ who_of party → IsNext one own past cs → IsNext other by past cs → result ≡ earlier one other → IsNextLeft result (leavers.Open number (Some party)) past cs
both_first number own by party one other result past cs own_is by_is first second is =
    subst (λ (o : Option ℕ). IsNextLeft o (leavers.Open number (Some party)) past cs) (sym is)
    (earlier_first (goes (leavers.Open number (Some party))) (is_leavers (leavers.Open number (Some party))) (is_by own) (is_by by) one other past cs
    (λ c e. subst (λ (n : ℕ). (is_by n c || is_by by c) ≡ true) (sym own_is) (subst (λ (m : ℕ). (is_by (who_opens number) c || is_by m c) ≡ true) (sym by_is) (either_goes number party c e)))
    (λ c e. rw (subst (λ (n : ℕ). is_by n c ≡ true) own_is e) refl)
    (λ c e. or_right (is_by (who_opens number) c) (is_by (who_of party) c) (subst (λ (n : ℕ). is_by n c ≡ true) by_is e))
    (next_first own one past cs first) (next_first by other past cs second))
