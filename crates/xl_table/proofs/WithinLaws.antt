-- What lies within a page's bounds, as claims come and go.
use Rattle.std.proofs.Common.{◌≡◌, ℕ, zero, suc, ◌<◌, Bool, true, false, nat_lt, List, [], ◌∷◌, ◌++◌, take, drop, refl, sym, ap, subst, ◌∙◌, arith}
use Rattle.std.proofs.lemmas.Bool.{ltb-true}
use Rattle.std.proofs.lemmas.List.{append-nil}
use Rattle.std.proofs.Math.ListN.{set}
use Rattle.std.specs.List.{filter}
use Rattle.xl_base.proofs.Members.{all_append, all_weaker}
use Rattle.xl_base.specs.declared.event.Moment.{Moment}
use Rattle.xl_matrix.specs.declared.claim.Claim.{Claim}
use Rattle.xl_matrix.specs.declared.claim.Extent.TheVariants.{Bytes, Empty}
use Rattle.xl_matrix.specs.declared.claim.What.{What}
use Rattle.xl_matrix.specs.declared.claim.What.TheVariants.{Share, Range, Cache}
use Rattle.xl_table.specs.declared.bounds.Bounds.{Bounds}
use Rattle.xl_table.specs.Bounds.{unbounded, widened, bounds_from, bounds_of, IsWithin, AreWithin}
use Rattle.xl_table.specs.Due.{due_with}
use Rattle.xl_table.specs.Flat.{is_due, due_by}
use Rattle.xl_table.proofs.GuardLaws.{still_counted, this_counted}
use Rattle.xl_table.proofs.DueLaws.{later, with_less, with_this, not_due}

-- ---- one claim more

-- what lies within the bounds, lies within wider ones; and so does the claim by which they were widened
keeps : (b : Bounds) (w v : What) → IsWithin b v → IsWithin (widened b w) v
keeps b (Range (Bytes f l) x) (Range (Bytes start end) y) h = (omega (arith, h.0), omega (arith, h.1), still_counted b.guard (Range (Bytes f l) x) (Range (Bytes start end) y) h.2)
keeps b (Range (Bytes f l) x) (Range (Empty offset) y) h = (h.0, h.1, still_counted b.guard (Range (Bytes f l) x) (Range (Empty offset) y) h.2)
keeps b (Range (Bytes f l) x) (Share p q) h = (h.0, h.1, still_counted b.guard (Range (Bytes f l) x) (Share p q) h.2)
keeps b (Range (Bytes f l) x) (Cache p q) h = (h.0, h.1, still_counted b.guard (Range (Bytes f l) x) (Cache p q) h.2)
keeps b (Range (Empty o) x) (Range (Bytes start end) y) h = (h.0, h.1, still_counted b.guard (Range (Empty o) x) (Range (Bytes start end) y) h.2)
keeps b (Range (Empty o) x) (Range (Empty offset) y) h = (refl, h.1, still_counted b.guard (Range (Empty o) x) (Range (Empty offset) y) h.2)
keeps b (Range (Empty o) x) (Share p q) h = (refl, h.1, still_counted b.guard (Range (Empty o) x) (Share p q) h.2)
keeps b (Range (Empty o) x) (Cache p q) h = (refl, h.1, still_counted b.guard (Range (Empty o) x) (Cache p q) h.2)
keeps b (Share r s) (Range (Bytes start end) y) h = (h.0, h.1, still_counted b.guard (Share r s) (Range (Bytes start end) y) h.2)
keeps b (Share r s) (Range (Empty offset) y) h = (refl, h.1, still_counted b.guard (Share r s) (Range (Empty offset) y) h.2)
keeps b (Share r s) (Share p q) h = (refl, h.1, still_counted b.guard (Share r s) (Share p q) h.2)
keeps b (Share r s) (Cache p q) h = (refl, h.1, still_counted b.guard (Share r s) (Cache p q) h.2)
keeps b (Cache r s) (Range (Bytes start end) y) h = (h.0, h.1, still_counted b.guard (Cache r s) (Range (Bytes start end) y) h.2)
keeps b (Cache r s) (Range (Empty offset) y) h = (refl, h.1, still_counted b.guard (Cache r s) (Range (Empty offset) y) h.2)
keeps b (Cache r s) (Share p q) h = (refl, h.1, still_counted b.guard (Cache r s) (Share p q) h.2)
keeps b (Cache r s) (Cache p q) h = (refl, later (due_with b.due (Cache r s)) b.due (Cache p q) (with_less b.due (Cache r s)) h.1, still_counted b.guard (Cache r s) (Cache p q) h.2)

this : (b : Bounds) (w : What) → IsWithin (widened b w) w
this b (Range (Bytes first last) x) = (omega arith, omega arith, this_counted b.guard (Range (Bytes first last) x))
this b (Range (Empty offset) x) = (refl, tt, this_counted b.guard (Range (Empty offset) x))
this b (Share p q) = (refl, tt, this_counted b.guard (Share p q))
this b (Cache p q) = (refl, with_this b.due (Cache p q), this_counted b.guard (Cache p q))

-- ---- several claims

all_keep : (b : Bounds) (w : What) (cs : List Claim) → AreWithin b cs → AreWithin (widened b w) cs
all_keep b w cs all = all_weaker (λ c. IsWithin b c.what) (λ c. IsWithin (widened b w) c.what) cs (λ c h. keeps b w c.what h) all

from_keep : (b : Bounds) (es cs : List Claim) → AreWithin b cs → AreWithin (bounds_from b es) cs
from_keep b [] cs all = all
from_keep b (e ∷ es) cs all = from_keep (widened b e.what) es cs (all_keep b e.what cs all)

from_these : (b : Bounds) (es : List Claim) → AreWithin (bounds_from b es) es
from_these b [] = tt
from_these b (e ∷ es) = ((from_keep (widened b e.what) es (e ∷ []) (this b e.what, tt)).0, from_these (widened b e.what) es)

all_taken : (b : Bounds) (n : ℕ) (cs : List Claim) → AreWithin b cs → AreWithin b (take n cs)
all_taken b zero [] all = tt
all_taken b zero (c ∷ cs) all = tt
all_taken b (suc n) [] all = tt
all_taken b (suc n) (c ∷ cs) all = (all.0, all_taken b n cs all.1)

all_left : (b : Bounds) (n : ℕ) (cs : List Claim) → AreWithin b cs → AreWithin b (drop n cs)
all_left b zero [] all = tt
all_left b zero (c ∷ cs) all = all
all_left b (suc n) [] all = tt
all_left b (suc n) (c ∷ cs) all = all_left b n cs all.1

all_set : (b : Bounds) (n : ℕ) (cs : List Claim) (c : Claim) → AreWithin b cs → IsWithin b c.what → AreWithin b (set cs n c)
all_set b n [] c all one = tt
all_set b zero (d ∷ ds) c all one = (one, all.1)
all_set b (suc n) (d ∷ ds) c all one = (all.0, all_set b n ds c all.1 one)

-- ---- a page's claims

pub within_of : (cs new : List Claim) (b : Bounds) → b ≡ bounds_of cs → new ≡ cs → AreWithin b new
within_of cs new b is same = subst (λ (ds : List Claim). AreWithin b ds) (sym same) (subst (λ (x : Bounds). AreWithin x cs) (sym is) (from_these unbounded cs))

pub within_put : (b wider : Bounds) (i : ℕ) (cs es new : List Claim) → AreWithin b cs → new ≡ take i cs ++ (es ++ drop i cs) → wider ≡ bounds_from b es → AreWithin wider new
within_put b wider i cs es new all is at =
    let w = bounds_from b es in
    let old = from_keep b es cs all in
    subst (λ (x : Bounds). AreWithin x new) (sym at)
    (subst (λ (ds : List Claim). AreWithin w ds) (sym is)
    (all_append (λ c. IsWithin w c.what) (take i cs) (es ++ drop i cs) (all_taken w i cs old)
    (all_append (λ c. IsWithin w c.what) es (drop i cs) (from_these b es) (all_left w i cs old))))

pub within_out : (b : Bounds) (s e : ℕ) (cs new : List Claim) → AreWithin b cs → new ≡ take s cs ++ drop e cs → AreWithin b new
within_out b s e cs new all is =
    subst (λ (ds : List Claim). AreWithin b ds) (sym is) (all_append (λ c. IsWithin b c.what) (take s cs) (drop e cs) (all_taken b s cs all) (all_left b e cs all))

pub within_set : (b wider : Bounds) (i : ℕ) (c : Claim) (cs new : List Claim) → AreWithin b cs → new ≡ set cs i c → wider ≡ widened b c.what → AreWithin wider new
within_set b wider i c cs new all is at =
    subst (λ (x : Bounds). AreWithin x new) (sym at)
    (subst (λ (ds : List Claim). AreWithin (widened b c.what) ds) (sym is) (all_set (widened b c.what) i cs c (all_keep b c.what cs all) (this b c.what)))

-- ---- what is due

asleep_one : (n : ℕ) (b : Bounds) (w : What) → n < b.due → IsWithin b w → due_by w n ≡ false
asleep_one n b (Range x y) h within = refl
asleep_one n b (Share x y) h within = refl
asleep_one n b (Cache x y) h within = not_due n b.due (Cache x y) h within.1

none_due_in : (now : Moment) (b : Bounds) (cs : List Claim) → now.0 < b.due → AreWithin b cs → filter (is_due now) cs ≡ []
none_due_in now b [] h all = refl
none_due_in now b (c ∷ cs) h all = rw (asleep_one now.0 b c.what h all.0) (none_due_in now b cs h all.1)

-- before the bounds' moment no answer is due
pub page_asleep : (now : Moment) (cs found : List Claim) (test : Bool) (b : Bounds) → AreWithin b cs → test ≡ nat_lt now.0 b.due → test ≡ true → found ≡ found ++ filter (is_due now) cs
page_asleep now cs found test b all e h =
    sym (ap (λ (ds : List Claim). found ++ ds) (none_due_in now b cs (ltb-true now.0 b.due (sym e ∙ h)) all) ∙ append-nil found)
