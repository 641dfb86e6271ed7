-- An index, as claims come and go.
use Rattle.std.proofs.Common.{◌≡◌, ℕ, ◌+◌, ◌<◌, ◌≤◌, Bool, true, nat_le, nat_lt, Result, Ok, Err, OnErr, Option, Some, None, false, refl, List, [], ◌∷◌, ◌++◌, length, sym, ap, subst, ◌∙◌, arith, vec_capacity}
use Rattle.std.specs.BTreeMap.{BTreeMap, is_at}
use Rattle.std.specs.Map.{lookup}
use Rattle.std.specs.Option.{unwrap_or}
use Rattle.std.proofs.lemmas.Bool.{both_ways}
use Rattle.xl_matrix.specs.declared.claim.Claim.{Claim}
use Rattle.xl_matrix.specs.declared.claim.What.{What}
use Rattle.xl_index.specs.Totals.{one, total, AreAlike}
use Rattle.xl_index.specs.Moments.{passing, runs, running, AreRising}
use Rattle.xl_index.specs.Stands.{bears, many_at, stand_cmp, AreTold, IsNext}
use Rattle.xl_index.specs.Index.{Has, HasCome, HasLeft, IsIndexOf, most_indexed}
use Rattle.xl_index.specs.declared.index.Index.{Index}
use Rattle.xl_index.specs.declared.stands.Stand.{Stand}
use Rattle.xl_index.proofs.TotalLaws.{one_few, total_append, total_few, alike_length}
use Rattle.xl_index.proofs.StandLaws.{bears_few, is_there}

pub rises : (index : Index) (own : List Claim) → Has index own → AreRising index.deadlines.items
rises index own has = has.1.rising

pub are_told : (index : Index) (own : List Claim) → Has index own → AreTold index.stands
are_told index own has = has.1.told

all_pass : (ms : List ℕ) → passing (λ m. true) ms ≡ length ms
all_pass [] = omega arith
all_pass (m ∷ ms) = omega (arith, all_pass ms)

running_few : (p : ℕ → Bool) (cs : List Claim) → running p cs ≤ length cs
running_few p [] = omega arith
running_few p (c ∷ cs) = omega (arith, one_few (runs p c.what), running_few p cs)

moments_few : (index : Index) (cs : List Claim) → IsIndexOf index cs → length index.deadlines.items ≤ length cs
moments_few index cs is = omega (arith, all_pass index.deadlines.items, is.dated (λ m. true), running_few (λ m. true) cs)

-- the same claims in another order
pub index_alike : (index : Index) (cs ds : List Claim) → AreAlike cs ds → IsIndexOf index cs → IsIndexOf index ds
index_alike index cs ds alike is =
    record {
      rising = is.rising;
      dated = λ p. is.dated p ∙ alike (λ c. one (runs p c.what));
      room = omega (arith, is.room, alike_length cs ds alike);
      told = is.told;
      standing = λ at. is.standing at ∙ alike (bears at);
      count = omega (arith, is.count, alike_length cs ds alike);
    }

pub few_stand : (index : Index) → Has index [] → index.count < most_indexed → (at : Stand) → many_at index.stands at ≤ 524288
few_stand index has few at =
    let cs = has.0 in
    omega (arith, has.1.standing at, total_few (bears at) (bears_few at) cs, has.1.count, few)

pub few_run : (index : Index) (own ms : List ℕ) (most : ℕ) → Has index [] → own ≡ index.deadlines.items → ms ≡ own → index.count + 1 ≤ most → length ms < most
few_run index own ms most has whole same room =
    omega (arith, moments_few index has.0 has.1, has.1.count, ap (λ (ns : List ℕ). length ns) whole, ap (λ (ns : List ℕ). length ns) same, room)

pub some_stand : (index : Index) (c : Claim) → Has index (c ∷ []) → (at : Stand) → bears at c ≤ many_at index.stands at
some_stand index c has at = omega (arith, has.1.standing at)

pub some_run : (index : Index) (c : Claim) → Has index (c ∷ []) → (p : ℕ → Bool) → one (runs p c.what) ≤ passing p index.deadlines.items
some_run index c has p = omega (arith, has.1.dated p)

pub some_counted : (index : Index) (c : Claim) → Has index (c ∷ []) → 0 < index.count
some_counted index c has = omega (arith, has.1.count)

-- once one has left there is room for another
pub room_again : (index : Index) (c : Claim) (ms : List ℕ) (most : ℕ) → Has index (c ∷ []) → ((p : ℕ → Bool) → one (runs p c.what) + passing p ms ≡ passing p index.deadlines.items) → most ≡ vec_capacity index.deadlines → length ms < most
room_again index c ms most has fewer same =
    let cs = has.0 in
    omega (arith, all_pass ms, fewer (λ m. true), has.1.dated (λ m. true), running_few (λ m. true) cs, has.1.room, same)

-- ---- a claim comes, and goes

pub index_more : (old new : Index) (c : Claim) → AreRising new.deadlines.items → ((p : ℕ → Bool) → passing p new.deadlines.items ≡ one (runs p c.what) + passing p old.deadlines.items) → new.count ≤ vec_capacity new.deadlines → AreTold new.stands → ((at : Stand) → many_at new.stands at ≡ bears at c + many_at old.stands at) → new.count ≡ old.count + 1 → HasCome old new (c ∷ [])
index_more old new c rising more room told stand count others is =
    record {
      rising = rising;
      dated = λ p. omega (arith, more p, is.dated p);
      room = omega (arith, room, count, is.count);
      told = told;
      standing = λ at. omega (arith, stand at, is.standing at);
      count = omega (arith, count, is.count);
    }

pub index_still : (old new : Index) → new.deadlines.items ≡ old.deadlines.items → vec_capacity old.deadlines ≤ vec_capacity new.deadlines → AreTold new.stands → ((at : Stand) → many_at new.stands at ≡ many_at old.stands at) → new.count ≡ old.count → HasCome old new []
index_still old new same room told stand count others is =
    record {
      rising = subst AreRising (sym same) is.rising;
      dated = λ p. ap (passing p) same ∙ is.dated p;
      room = omega (arith, room, is.room);
      told = told;
      standing = λ at. stand at ∙ is.standing at;
      count = count ∙ is.count;
    }

pub index_less : (old new : Index) (c : Claim) → AreRising new.deadlines.items → ((p : ℕ → Bool) → one (runs p c.what) + passing p new.deadlines.items ≡ passing p old.deadlines.items) → vec_capacity new.deadlines ≡ vec_capacity old.deadlines → AreTold new.stands → ((at : Stand) → bears at c + many_at new.stands at ≡ many_at old.stands at) → new.count + 1 ≡ old.count → HasLeft old new (c ∷ [])
index_less old new c rising fewer room told stand count others is =
    record {
      rising = rising;
      dated = λ p. omega (arith, fewer p, is.dated p);
      room = omega (arith, room, is.room);
      told = told;
      standing = λ at. omega (arith, stand at, is.standing at);
      count = omega (arith, count, is.count);
    }

pub index_recast : (old new : Index) (mid : List ℕ) (c : Claim) (to : What) → ((p : ℕ → Bool) → one (runs p c.what) + passing p mid ≡ passing p old.deadlines.items) → AreRising new.deadlines.items → ((p : ℕ → Bool) → passing p new.deadlines.items ≡ one (runs p to) + passing p mid) → vec_capacity new.deadlines ≡ vec_capacity old.deadlines → new.stands ≡ old.stands → new.count ≡ old.count → (d : Claim) (others : List Claim) → d.what ≡ to → ((at : Stand) → bears at d ≡ bears at c) → IsIndexOf old (c ∷ others) → IsIndexOf new (d ∷ others)
index_recast old new mid c to fewer rising more room stands count d others what same is =
    record {
      rising = rising;
      dated = λ p. omega (arith, fewer p, more p, is.dated p, ap (λ (w : What). one (runs p w)) what);
      room = omega (arith, room, is.room);
      told = subst AreTold (sym stands) is.told;
      standing = λ at. omega (arith, ap (λ (m : BTreeMap Stand ℕ). many_at m at) stands, is.standing at, same at);
      count = omega (arith, count, is.count);
    }

pub err_still : {A E : Type 0} (r : Result A E) (P : Type 0) → P → OnErr r P
err_still (Ok x) P h = tt
err_still (Err e) P h = h

-- ---- several claims come and go

pub first_has : (index : Index) (c : Claim) (cs : List Claim) → Has index (c ∷ cs) → Has index (c ∷ [])
first_has index c cs has = (cs ++ has.0, has.1)

pub rest_has : (old new : Index) (c : Claim) (cs : List Claim) → Has old (c ∷ cs) → HasLeft old new (c ∷ []) → Has new cs
rest_has old new c cs has left = (has.0, left (cs ++ has.0) has.1)

pub both_left : (old mid new : Index) (c : Claim) (cs : List Claim) → HasLeft old mid (c ∷ []) → HasLeft mid new cs → HasLeft old new (c ∷ cs)
both_left old mid new c cs first rest others is = rest others (first (cs ++ others) is)

pub none_left : (old new : Index) → new ≡ old → HasLeft old new []
none_left old new same others is = subst (λ (index : Index). IsIndexOf index others) (sym same) is

pub none_come : (old new : Index) → new ≡ old → HasCome old new []
none_come old new same others is = subst (λ (index : Index). IsIndexOf index others) (sym same) is

pub come_has : (old new : Index) (c : Claim) → Has old [] → HasCome old new (c ∷ []) → Has new []
come_has old new c has come = (c ∷ has.0, come has.0 has.1)

-- the first claim stands behind those that came after it
moved : (c : Claim) (cs others : List Claim) → AreAlike (cs ++ c ∷ others) (c ∷ (cs ++ others))
moved c cs others w = omega (arith, total_append w cs (c ∷ others), total_append w cs others)

pub both_come : (old mid new : Index) (c : Claim) (cs : List Claim) → HasCome old mid (c ∷ []) → HasCome mid new cs → HasCome old new (c ∷ cs)
both_come old mid new c cs first rest others is =
    index_alike new (cs ++ c ∷ others) (c ∷ (cs ++ others)) (moved c cs others) (rest (c ∷ others) (first others is))

pub still_has : (old mid now : Index) (c : Claim) → Has old [] → HasCome old mid (c ∷ []) → HasCome mid now [] → Has now (c ∷ [])
still_has old mid now c has come still = (has.0, still (c ∷ has.0) (come has.0 has.1))

pub come_back : (old mid now new : Index) (c : Claim) → HasCome old mid (c ∷ []) → HasCome mid now [] → HasLeft now new (c ∷ []) → HasCome old new []
come_back old mid now new c come still left others is = left others (still (c ∷ others) (come others is))

-- ---- what is asked

pub has_run : (index : Index) (cs : List Claim) (n : ℕ) (b : Bool) → b ≡ nat_lt 0 (passing (λ m. nat_le m n) index.deadlines.items) → IsIndexOf index cs → b ≡ nat_lt 0 (running (λ m. nat_le m n) cs)
has_run index cs n b test is = test ∙ ap (λ (k : ℕ). nat_lt 0 k) (is.dated (λ m. nat_le m n))

pub count_run : (index : Index) (cs : List Claim) (n k : ℕ) → k ≡ passing (λ m. nat_le m n) index.deadlines.items → IsIndexOf index cs → k ≡ running (λ m. nat_le m n) cs
count_run index cs n k count is = count ∙ is.dated (λ m. nat_le m n)

pub next_stands : (index : Index) (next : Option ℕ) (who : ℕ) (past : Option ℕ) → ((cs : List Claim) → AreTold index.stands → ((at : Stand) → many_at index.stands at ≡ total (bears at) cs) → IsNext next who past cs) → (cs : List Claim) → IsIndexOf index cs → IsNext next who past cs
next_stands index next who past law cs is = law cs is.told is.standing

pub index_of_none : (index : Index) → index.count ≡ 0 → index.deadlines.items ≡ [] → index.stands.entries ≡ [] → IsIndexOf index []
index_of_none index count moments stands =
    record {
      rising = subst AreRising (sym moments) tt;
      dated = λ p. ap (passing p) moments;
      room = omega arith;
      told = λ at none. absurd (none_there at (sym (ap (λ (es : List (Stand × ℕ)). lookup (is_at (stand_cmp at)) es) stands) ∙ none));
      standing = λ at. ap (λ (es : List (Stand × ℕ)). unwrap_or (lookup (is_at (stand_cmp at)) es) 0) stands;
      count = count;
    }
  where
    none_there : (at : Stand) → ◌≡◌ {A = Option ℕ} None (Some 0) → ⊥
    none_there at is = both_ways false refl (ap is_there is)
