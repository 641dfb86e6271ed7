-- Parties have numbers of their own, and one is found by them among those that were noted.
use Rattle.std.proofs.Common.{◌≡◌, ℕ, ◌+◌, ◌<◌, ◌==◌, Bool, true, false, not, ◌&&◌, ◌||◌, if◌then◌else◌, List, [], ◌∷◌, ◌++◌, length, drop, drop-cons, add-one, get_or, Option, find, inl, inr, refl, sym, ap, ◌∙◌, arith}
use Rattle.std.specs.List.{cons_option, filter, filter_map, list_any}
use Rattle.std.proofs.lemmas.Bool.{cases_Bool}
use Rattle.std.proofs.lemmas.Bool.Decides.{nat_tests}
use Rattle.xl_base.specs.Stable.{same_protocol}
use Rattle.xl_base.specs.declared.name.Party.{Party}
use Rattle.xl_base.specs.declared.name.Party.TheVariants as party
use Rattle.xl_base.specs.declared.name.Protocol.{Protocol}
use Rattle.xl_base.specs.declared.name.Protocol.TheVariants.{Nlm, Nfs, Smb}
use Rattle.xl_base.proofs.Searches.{any_found, any_from}
use Rattle.xl_matrix.specs.Equal.{same_parties}
use Rattle.xl_matrix.proofs.EqualLaws.{eqb-sym, same_parties-sym}
use Rattle.xl_matrix.specs.Blocks.{is_share, is_cache, blocks}
use Rattle.xl_matrix.specs.declared.claim.Claim.{Claim}
use Rattle.indexmap.specs.IndexSet.{insert_key}
use Rattle.xl_cache.specs.BreakPlans.{keeps_handle_by, is_running, is_covered, is_final, blocking_shares, covers, is_in_the_way, break_of, is_awaited, is_left_by, is_left, planned}
use Rattle.xl_cache.specs.Holders.{rank, numbers_of, holder_of, same_numbers, is_among, are_beside, is_keeper, is_final_beside, covers_beside, need_so, break_so, is_awaited_beside, is_left_beside}

ranks : (p q : Protocol) → (rank p == rank q) ≡ same_protocol p q
ranks Nlm Nlm = refl
ranks Nlm Nfs = refl
ranks Nlm Smb = refl
ranks Nfs Nlm = refl
ranks Nfs Nfs = refl
ranks Nfs Smb = refl
ranks Smb Nlm = refl
ranks Smb Nfs = refl
ranks Smb Smb = refl

no_rank : (p : Protocol) → (rank p == 3) ≡ false
no_rank Nlm = refl
no_rank Nfs = refl
no_rank Smb = refl

rank_no : (p : Protocol) → (3 == rank p) ≡ false
rank_no Nlm = refl
rank_no Nfs = refl
rank_no Smb = refl

three : (a b c d : Bool) → b ≡ d → ((a && b) && c) ≡ (a && (d && c))
three true b c d e = ap (λ (x : Bool). x && c) e
three false b c d e = refl

apart : (a b c : Bool) → b ≡ false → ((a && b) && c) ≡ (a && false)
apart true b c e = ap (λ (x : Bool). x && c) e
apart false b c e = refl

numbers_tell : (m n : ℕ) (p q : Party) → same_numbers (numbers_of m p) (numbers_of n q) ≡ ((m == n) && same_parties p q)
numbers_tell m n (party.Name protocol i) (party.Name other j) = three (m == n) (rank protocol == rank other) (i == j) (same_protocol protocol other) (ranks protocol other)
numbers_tell m n (party.Name protocol i) (party.Open j) = apart (m == n) (rank protocol == 3) (i == j) (no_rank protocol)
numbers_tell m n (party.Open i) (party.Name protocol j) = apart (m == n) (3 == rank protocol) (i == j) (rank_no protocol)
numbers_tell m n (party.Open i) (party.Open j) = three (m == n) true (i == j) true refl

-- two claims have the same numbers where they are of one party on one file
tells : (a b : Claim) → same_numbers (holder_of a) (holder_of b) ≡ are_beside a b
tells a b = numbers_tell a.file b.file a.party b.party

-- ---- one more of them

any_end : (p : ℕ × ℕ × ℕ → Bool) (ks : List (ℕ × ℕ × ℕ)) (k : ℕ × ℕ × ℕ) → list_any p (ks ++ k ∷ []) ≡ (list_any p ks || p k)
any_end p [] k = by (p k) where
  by : (b : Bool) → (b || false) ≡ b
  by true = refl
  by false = refl
any_end p (x ∷ xs) k = elim (cases_Bool (p x)) [ inl here ↦ rw here refl | inr other ↦ rw other (any_end p xs k) ]

through : (a b c : ℕ × ℕ × ℕ) → same_numbers a b ≡ true → same_numbers b c ≡ true → same_numbers a c ≡ true
through a b c e f = by a.0 a.1 a.2 b.0 b.1 b.2 c.0 c.1 c.2 e f where
  by : (a0 a1 a2 b0 b1 b2 c0 c1 c2 : ℕ) → (((a0 == b0) && (a1 == b1)) && (a2 == b2)) ≡ true → (((b0 == c0) && (b1 == c1)) && (b2 == c2)) ≡ true → (((a0 == c0) && (a1 == c1)) && (a2 == c2)) ≡ true
  by a0 a1 a2 b0 b1 b2 c0 c1 c2 e f = grind (arith, nat_tests)

any_inserted : (h k : ℕ × ℕ × ℕ) (ks : List (ℕ × ℕ × ℕ)) → list_any (same_numbers h) (insert_key same_numbers ks k) ≡ (list_any (same_numbers h) ks || same_numbers h k)
any_inserted h k ks =
    elim (cases_Bool (list_any (same_numbers k) ks)) [
      | inl old ↦ rw old (elim (cases_Bool (same_numbers h k)) [
        | inl same ↦
            let one = any_found (same_numbers k) ks old in
            let there = any_from (same_numbers h) one.0 ks one.1 (through h k one.0 same one.2) in
            rw there refl
        | inr other ↦ rw other (or_false (list_any (same_numbers h) ks))
      ])
      | inr new ↦ rw new (any_end (same_numbers h) ks k)
    ]
  where
    or_false : (b : Bool) → b ≡ (b || false)
    or_false true = refl
    or_false false = refl

pub one_more : (old new : List (ℕ × ℕ × ℕ)) (claim c : Claim) → new ≡ insert_key same_numbers old (holder_of claim) → is_among new c ≡ (is_among old c || are_beside c claim)
one_more old new claim c e = ap (λ (ks : List (ℕ × ℕ × ℕ)). list_any (same_numbers (holder_of c)) ks) e ∙ any_inserted (holder_of c) (holder_of claim) old ∙ ap (λ (b : Bool). is_among old c || b) (tells c claim)

pub one_noted : (cs : List Claim) (i : ℕ) (d c : Claim) (old new : Bool) → i < length cs → new ≡ (old || are_beside c (get_or cs i d)) → (old || list_any (are_beside c) (drop i cs)) ≡ list_any (are_beside c) cs → (new || list_any (are_beside c) (drop (i + 1) cs)) ≡ list_any (are_beside c) cs
one_noted cs i d c old new h e before =
    ap (λ (b : Bool). b || list_any (are_beside c) (drop (i + 1) cs)) e
    ∙ both old (are_beside c (get_or cs i d)) (list_any (are_beside c) (drop (i + 1) cs))
    ∙ ap (λ (ds : List Claim). old || list_any (are_beside c) ds) (sym rest)
    ∙ before
  where
    rest : drop i cs ≡ get_or cs i d ∷ drop (i + 1) cs
    rest = rw add-one (drop-cons cs i d h)

    both : (x y z : Bool) → ((x || y) || z) ≡ (x || (y || z))
    both true y z = refl
    both false y z = refl

-- ---- lists

filter_same : (p q : Claim → Bool) (cs : List Claim) → ((c : Claim) → p c ≡ q c) → filter p cs ≡ filter q cs
filter_same p q [] same = refl
filter_same p q (c ∷ cs) same = (λ i. if same c i then c ∷ filter_same p q cs same i else filter_same p q cs same i)

find_same : (p q : Claim → Bool) (cs : List Claim) → ((c : Claim) → p c ≡ q c) → find p cs ≡ find q cs
find_same p q [] same = refl
find_same p q (c ∷ cs) same = rw (same c, find_same p q cs same) refl

map_same : {B : Type 0} (f g : Claim → Option B) (cs : List Claim) → ((c : Claim) → f c ≡ g c) → filter_map f cs ≡ filter_map g cs
map_same f g [] same = refl
map_same f g (c ∷ cs) same = (λ i. cons_option (same c i) (map_same f g cs same i))

any_filtered : (p q : Claim → Bool) (cs : List Claim) → list_any p (filter q cs) ≡ list_any (λ c. q c && p c) cs
any_filtered p q [] = refl
any_filtered p q (c ∷ cs) =
    elim (cases_Bool (q c)) [
      | inl in_it ↦ rw in_it (ap (λ (b : Bool). p c || b) (any_filtered p q cs))
      | inr past ↦ rw past (any_filtered p q cs)
    ]

any_same : (p q : Claim → Bool) (cs : List Claim) → ((c : Claim) → p c ≡ q c) → list_any p cs ≡ list_any q cs
any_same p q [] same = refl
any_same p q (c ∷ cs) same = (λ i. same c i || any_same p q cs same i)

any_both : (b : Bool) (p : Claim → Bool) (cs : List Claim) → (b && list_any p cs) ≡ list_any (λ c. b && p c) cs
any_both true p cs = refl
any_both false p cs = none cs where
  none : (ds : List Claim) → false ≡ list_any (λ c. false) ds
  none [] = refl
  none (d ∷ ds) = none ds

-- ---- what blocks for good

pub finals : (ask : Claim) (keepers : List (ℕ × ℕ × ℕ)) (held : List Claim) → ((c : Claim) → is_among keepers c ≡ list_any (are_beside c) (filter is_keeper held)) → filter (is_final_beside ask keepers) held ≡ filter (is_final ask held) held
unfolding is_covered
finals ask keepers held known =
    filter_same (is_final_beside ask keepers) (is_final ask held) held
    (λ c. ap (λ (b : Bool). blocks ask c && (not (is_cache c.what) && not (is_share c.what && (not (same_parties c.party ask.party) && b)))) (known c ∙ any_filtered (are_beside c) is_keeper held))

-- ---- the plan

module _ (ask : Claim) (sharers : List (ℕ × ℕ × ℕ)) (shares : List Claim) (known : (c : Claim) → is_among sharers c ≡ list_any (are_beside c) shares) where
  beside-sym : (c d : Claim) → are_beside c d ≡ ((d.file == c.file) && same_parties d.party c.party)
  beside-sym c d = (λ i. eqb-sym c.file d.file i && same_parties-sym c.party d.party i)

  covered_so : (c : Claim) → covers_beside ask sharers c ≡ covers ask shares c
  covered_so c =
      ap (λ (b : Bool). not (same_parties c.party ask.party) && b) (
      ap (λ (b : Bool). keeps_handle_by c.what && b) (known c ∙ any_same (are_beside c) (λ d. (d.file == c.file) && same_parties d.party c.party) shares (λ d. beside-sym c d))
      ∙ any_both (keeps_handle_by c.what) (λ d. (d.file == c.file) && same_parties d.party c.party) shares)

  breaks_so : (c : Claim) → break_so ask (covers_beside ask sharers c) c ≡ break_of ask shares c
  unfolding break_of is_in_the_way
  breaks_so c = ap (λ (b : Bool). break_so ask b c) (covered_so c)

  awaited_so : (c : Claim) → is_awaited_beside ask sharers c ≡ is_awaited ask shares c
  unfolding is_in_the_way
  awaited_so c = ap (λ (b : Bool). ((is_cache c.what && blocks ask c) || b) && is_running c.what) (covered_so c)

  left_so : (c : Claim) → is_left_beside ask sharers c ≡ is_left ask shares c
  unfolding is_in_the_way
  left_so c = ap (λ (b : Bool). ((is_cache c.what && blocks ask c) || b) && is_left_by (need_so ask b c) c.what) (covered_so c)

pub plan_is : (ask : Claim) (sharers : List (ℕ × ℕ × ℕ)) (held : List Claim) → ((c : Claim) → is_among sharers c ≡ list_any (are_beside c) (blocking_shares ask held))
    → (record { breaks = filter_map (λ c. break_so ask (covers_beside ask sharers c) c) held; awaited = find (is_awaited_beside ask sharers) held; left = find (is_left_beside ask sharers) held }) ≡ planned ask held
unfolding planned
plan_is ask sharers held known =
    let shares = blocking_shares ask held in
    let breaks = map_same (λ c. break_so ask (covers_beside ask sharers c) c) (break_of ask shares) held (breaks_so ask sharers shares known) in
    let awaited = find_same (is_awaited_beside ask sharers) (is_awaited ask shares) held (awaited_so ask sharers shares known) in
    let left = find_same (is_left_beside ask sharers) (is_left ask shares) held (left_so ask sharers shares known) in
    λ i. record { breaks = breaks i; awaited = awaited i; left = left i }
