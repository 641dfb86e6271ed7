-- Against what nothing of a page stands.
use Rattle.std.proofs.Common.{◌≡◌, Bool, true, false, not, ◌&&◌, ◌||◌, inl, inr, refl, sym, ap, ◌∙◌, arith}
use Rattle.std.proofs.lemmas.Bool.{cases_Bool, both_ways}
use Rattle.std.proofs.lemmas.Bool.Decides.{nat_tests}
use Rattle.xl_matrix.specs.declared.claim.CacheKind.{CacheKind}
use Rattle.xl_matrix.specs.declared.claim.CacheKind.TheVariants.{R, RH, RW, RWH, ReadDeleg, WriteDeleg}
use Rattle.xl_matrix.specs.declared.claim.Claim.{Claim}
use Rattle.xl_matrix.specs.declared.claim.Rwd.{Rwd}
use Rattle.xl_matrix.specs.declared.claim.What.{What}
use Rattle.xl_matrix.specs.declared.claim.What.TheVariants.{Share, Range, Cache}
use Rattle.xl_matrix.specs.Kinds.{guarding}
use Rattle.xl_base.specs.declared.name.Owner.{Owner}
use Rattle.xl_matrix.proofs.EqualLaws.{same_owners-true}
use Rattle.xl_matrix.specs.Equal.{same_owners, same_parties}
use Rattle.xl_matrix.specs.Owners.{posix}
use Rattle.xl_matrix.specs.Blocks.{is_met, is_replaced}
use Rattle.xl_matrix.specs.Matrix.{compat, fit_by, modes_fit, ranges_meet}
use Rattle.xl_matrix.specs.Rights.{implies, common, rights_lie_within}
use Rattle.xl_table.specs.Flat.{blocks}
use Rattle.xl_table.specs.Guard.{may_guard, guard_with, IsCounted, lets_by}
use Rattle.xl_table.specs.Relock.{either_right}
use Rattle.xl_table.specs.declared.guard.Guard.{Guard}

-- ---- one claim more

implies_left : (p q s : Bool) → implies p q ≡ true → implies p (q || s) ≡ true
implies_left true true s h = refl
implies_left true false s h = absurd (both_ways false refl h)
implies_left false q s h = refl

implies_right : (p q : Bool) → implies p (q || p) ≡ true
implies_right true true = refl
implies_right true false = refl
implies_right false q = refl

and_first : (a b : Bool) → (a && b) ≡ true → a ≡ true
and_first true b h = refl
and_first false b h = h

and_second : (a b : Bool) → (a && b) ≡ true → b ≡ true
and_second true b h = h
and_second false b h = absurd (both_ways false refl h)

all_three : (a b c : Bool) → a ≡ true → b ≡ true → c ≡ true → (a && (b && c)) ≡ true
all_three a b c h k l = rw (h, k, l) refl

within_more : (p q s : Rwd) → rights_lie_within p q ≡ true → rights_lie_within p (either_right q s) ≡ true
within_more p q s h =
    let rest = and_second (implies p.r q.r) (implies p.w q.w && implies p.d q.d) h in
    all_three (implies p.r (q.r || s.r)) (implies p.w (q.w || s.w)) (implies p.d (q.d || s.d))
    (implies_left p.r q.r s.r (and_first (implies p.r q.r) (implies p.w q.w && implies p.d q.d) h))
    (implies_left p.w q.w s.w (and_first (implies p.w q.w) (implies p.d q.d) rest))
    (implies_left p.d q.d s.d (and_second (implies p.w q.w) (implies p.d q.d) rest))

within_this : (p q : Rwd) → rights_lie_within p (either_right q p) ≡ true
within_this p q = all_three (implies p.r (q.r || p.r)) (implies p.w (q.w || p.w)) (implies p.d (q.d || p.d)) (implies_right p.r q.r) (implies_right p.w q.w) (implies_right p.d q.d)

-- what is counted is so with one more claim, and that is too
pub still_counted : (g : Guard) (w v : What) → IsCounted g v → IsCounted (guard_with g w) v
still_counted g (Share a b) (Share p q) h = (within_more p g.access a h.0, within_more q g.deny b h.1)
still_counted g (Share a b) (Cache k x) h = h
still_counted g (Share a b) (Range e x) h = h
still_counted g (Cache a b) (Share p q) h = h
still_counted g (Cache a b) (Cache k x) h = (refl, implies_left (may_guard k) g.guarded (may_guard a) h.1)
still_counted g (Cache a b) (Range e x) h = h
still_counted g (Range a b) (Share p q) h = h
still_counted g (Range a b) (Cache k x) h = h
still_counted g (Range a b) (Range e x) h = implies_left x g.exclusive b h

pub this_counted : (g : Guard) (w : What) → IsCounted (guard_with g w) w
this_counted g (Share a b) = (within_this a g.access, within_this b g.deny)
this_counted g (Cache a b) = (refl, implies_right (may_guard a) g.guarded)
this_counted g (Range a b) = implies_right b g.exclusive

-- ---- what stands against nothing

no_both : (p q s : Bool) → implies q s ≡ true → (p && s) ≡ false → (p && q) ≡ false
no_both false q s h k = refl
no_both true false s h k = refl
no_both true true s h k = absurd (both_ways s k h)

no_left : (p q s : Bool) → implies p s ≡ true → (s && q) ≡ false → (p && q) ≡ false
no_left false q s h k = refl
no_left true q true h k = k
no_left true q false h k = absurd (both_ways false refl h)

or_first : (a b : Bool) → (a || b) ≡ false → a ≡ false
or_first false b h = refl
or_first true b h = h

or_second : (a b : Bool) → (a || b) ≡ false → b ≡ false
or_second false b h = h
or_second true b h = absurd (both_ways true h refl)

none_of : (a b c : Bool) → a ≡ false → b ≡ false → c ≡ false → (a || (b || c)) ≡ false
none_of a b c h k l = rw (h, k, l) refl

common_right : (p q s : Rwd) → rights_lie_within q s ≡ true → common p s ≡ false → common p q ≡ false
common_right p q s h k =
    let more = and_second (implies q.r s.r) (implies q.w s.w && implies q.d s.d) h in
    let rest = or_second (p.r && s.r) ((p.w && s.w) || (p.d && s.d)) k in
    none_of (p.r && q.r) (p.w && q.w) (p.d && q.d)
    (no_both p.r q.r s.r (and_first (implies q.r s.r) (implies q.w s.w && implies q.d s.d) h) (or_first (p.r && s.r) ((p.w && s.w) || (p.d && s.d)) k))
    (no_both p.w q.w s.w (and_first (implies q.w s.w) (implies q.d s.d) more) (or_first (p.w && s.w) (p.d && s.d) rest))
    (no_both p.d q.d s.d (and_second (implies q.w s.w) (implies q.d s.d) more) (or_second (p.w && s.w) (p.d && s.d) rest))

common_left : (p q s : Rwd) → rights_lie_within p s ≡ true → common s q ≡ false → common p q ≡ false
common_left p q s h k =
    let more = and_second (implies p.r s.r) (implies p.w s.w && implies p.d s.d) h in
    let rest = or_second (s.r && q.r) ((s.w && q.w) || (s.d && q.d)) k in
    none_of (p.r && q.r) (p.w && q.w) (p.d && q.d)
    (no_left p.r q.r s.r (and_first (implies p.r s.r) (implies p.w s.w && implies p.d s.d) h) (or_first (s.r && q.r) ((s.w && q.w) || (s.d && q.d)) k))
    (no_left p.w q.w s.w (and_first (implies p.w s.w) (implies p.d s.d) more) (or_first (s.w && q.w) (s.d && q.d) rest))
    (no_left p.d q.d s.d (and_second (implies p.w s.w) (implies p.d s.d) more) (or_second (s.w && q.w) (s.d && q.d) rest))

not_true : (a : Bool) → not a ≡ true → a ≡ false
not_true false h = refl
not_true true h = sym h

no_guard : (kind : CacheKind) (guarded : Bool) (access deny : Rwd) → guarded ≡ false → implies (may_guard kind) guarded ≡ true → guarding kind access deny ≡ false
no_guard R guarded access deny h k = refl
no_guard RH guarded access deny h k = refl
no_guard RW guarded access deny h k = absurd (both_ways guarded h k)
no_guard RWH guarded access deny h k = absurd (both_ways guarded h k)
no_guard ReadDeleg guarded access deny h k = absurd (both_ways guarded h k)
no_guard WriteDeleg guarded access deny h k = absurd (both_ways guarded h k)

or_true : (a : Bool) → (a || true) ≡ true
or_true true = refl
or_true false = refl

modes_agree : (a b : Owner) (exclusive alone : Bool) → exclusive ≡ false → implies alone exclusive ≡ true → (same_owners a b && posix b) ≡ false → modes_fit a false b alone ≡ true
modes_agree a b exclusive true h k own = absurd (both_ways exclusive h k)
modes_agree a b exclusive false h k own =
    elim (cases_Bool (same_owners a b)) [
      | inr other ↦ rw other refl
      | inl same ↦
          let plain : posix a ≡ false = ap posix (same_owners-true a b same) ∙ rw same at own in
          rw (same, plain) refl
    ]

-- what is let by meets nothing that is counted, except what it replaces
let_by : (a b : Claim) (g : Guard) (v w : What) → lets_by g v ≡ true → IsCounted g w → (same_owners a.owner b.owner && is_replaced b.owner w) ≡ false → (fit_by a b v w ≡ true) × (is_met a.owner v b.owner w ≡ false)
unfolding fit_by
let_by a b g (Share access deny) (Share rights denied) h in_it own =
    let free = and_second (not g.guarded) (not (common access g.deny) && not (common g.access deny)) h in
    let one : common access denied ≡ false = common_right access denied g.deny in_it.1 (not_true (common access g.deny) (and_first (not (common access g.deny)) (not (common g.access deny)) free)) in
    let other : common rights deny ≡ false = common_left rights deny g.access in_it.0 (not_true (common g.access deny) (and_second (not (common access g.deny)) (not (common g.access deny)) free)) in
    (rw (one, other) refl, refl)
let_by a b g (Share access deny) (Range extent exclusive) h in_it own = (refl, refl)
let_by a b g (Share access deny) (Cache kind running) h in_it own =
    let none : guarding kind access deny ≡ false = no_guard kind g.guarded access deny (not_true g.guarded (and_first (not g.guarded) (not (common access g.deny) && not (common g.access deny)) h)) in_it.1 in
    (rw none (or_true (same_parties a.party b.party)), refl)
let_by a b g (Range extent true) w h in_it own = absurd (both_ways false refl h)
let_by a b g (Range extent false) (Share rights denied) h in_it own = (refl, refl)
let_by a b g (Range extent false) (Range place alone) h in_it own =
    let none = not_true g.exclusive (and_second (not g.cached) (not g.exclusive) h) in
    (rw (modes_agree a.owner b.owner g.exclusive alone none in_it own) (or_true (not (ranges_meet a.owner extent b.owner place))), refl)
let_by a b g (Range extent false) (Cache kind running) h in_it own = absurd (both_ways g.cached (not_true g.cached (and_first (not g.cached) (not g.exclusive) h)) in_it.0)
let_by a b g (Cache kind running) w h in_it own = absurd (both_ways false refl h)

pub let_by_none : (ask held : Claim) (g : Guard) → lets_by g ask.what ≡ true → IsCounted g held.what → blocks ask held ≡ false
unfolding blocks compat
let_by_none ask held g h in_it =
    elim (cases_Bool (same_owners ask.owner held.owner && is_replaced held.owner held.what)) [
      | inl own ↦ rw own refl
      | inr other ↦
          let free = let_by ask held g ask.what held.what h in_it other in
          rw (other, free.0, free.1) (grind (arith, nat_tests))
    ]
