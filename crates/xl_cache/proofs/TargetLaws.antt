-- What breaks leave of a cache.
use Rattle.std.proofs.Common.{◌≡◌, Bool, true, false, ◌&&◌, ◌||◌, if◌then◌else◌, Option, Some, None, refl, sym, subst}
use Rattle.xl_matrix.specs.declared.claim.CacheKind.{CacheKind}
use Rattle.xl_matrix.specs.declared.claim.CacheKind.TheVariants.{R, RH, RW, RWH, ReadDeleg, WriteDeleg}
use Rattle.xl_cache.specs.declared.need.Need.{Need}
use Rattle.xl_cache.specs.Targets.{rests, loses_handle, target_of, rest_lies_within, together}

-- what a break leaves, by whether a range is asked and whether the handle goes
abbrev pub rest_by : CacheKind → Bool → Bool → Option CacheKind
rest_by kind range handle = if range then (rests kind).0 else if handle then (rests kind).2 else (rests kind).1

idem : (b : Bool) → b ≡ (b && b)
idem true = refl
idem false = refl

no_right : (b : Bool) → false ≡ (b && false)
no_right true = refl
no_right false = refl

-- nothing is left where one of two leaves nothing
none_left : (left other : Option CacheKind) → rest_lies_within left None ≡ (rest_lies_within left None && rest_lies_within left other)
none_left None other = refl
none_left (Some kind) other = refl

none_right : (left other : Option CacheKind) → rest_lies_within left None ≡ (rest_lies_within left other && rest_lies_within left None)
none_right None other = refl
none_right (Some kind) other = no_right (rest_lies_within (Some kind) other)

-- R is the least
least_left : (left : Option CacheKind) → rest_lies_within left (Some R) ≡ (rest_lies_within left (Some R) && rest_lies_within left (Some RH))
least_left None = refl
least_left (Some R) = refl
least_left (Some RH) = refl
least_left (Some RW) = refl
least_left (Some RWH) = refl
least_left (Some ReadDeleg) = refl
least_left (Some WriteDeleg) = refl

least_right : (left : Option CacheKind) → rest_lies_within left (Some R) ≡ (rest_lies_within left (Some RH) && rest_lies_within left (Some R))
least_right None = refl
least_right (Some R) = refl
least_right (Some RH) = refl
least_right (Some RW) = refl
least_right (Some RWH) = refl
least_right (Some ReadDeleg) = refl
least_right (Some WriteDeleg) = refl

-- against a range nothing is left
ends : (kind : CacheKind) → (rests kind).0 ≡ None
ends R = refl
ends RH = refl
ends RW = refl
ends RWH = refl
ends ReadDeleg = refl
ends WriteDeleg = refl

-- two breaks for a share
shares_together : (kind : CacheKind) (h k : Bool) (left : Option CacheKind) → rest_lies_within left (rest_by kind false (h || k)) ≡ (rest_lies_within left (rest_by kind false h) && rest_lies_within left (rest_by kind false k))
shares_together kind true true left = idem (rest_lies_within left (rest_by kind false true))
shares_together kind false false left = idem (rest_lies_within left (rest_by kind false false))
shares_together R h k left = idem (rest_lies_within left (Some R))
shares_together RW true false left = idem (rest_lies_within left (Some R))
shares_together RW false true left = idem (rest_lies_within left (Some R))
shares_together ReadDeleg true false left = none_left left None
shares_together ReadDeleg false true left = none_left left None
shares_together WriteDeleg true false left = none_left left None
shares_together WriteDeleg false true left = none_left left None
shares_together RH true false left = least_left left
shares_together RH false true left = least_right left
shares_together RWH true false left = least_left left
shares_together RWH false true left = least_right left

all_together : (kind : CacheKind) (r s h k : Bool) (left : Option CacheKind) → rest_lies_within left (rest_by kind (r || s) (h || k)) ≡ (rest_lies_within left (rest_by kind r h) && rest_lies_within left (rest_by kind s k))
all_together kind false false h k left = shares_together kind h k left
all_together kind true s h k left =
    subst (λ (o : Option CacheKind). rest_lies_within left o ≡ (rest_lies_within left o && rest_lies_within left (rest_by kind s k))) (sym (ends kind)) (none_left left (rest_by kind s k))
all_together kind false true h k left =
    subst (λ (o : Option CacheKind). rest_lies_within left o ≡ (rest_lies_within left (rest_by kind false h) && rest_lies_within left o)) (sym (ends kind)) (none_right left (rest_by kind false h))

or_swap : (a b c d : Bool) → ((a || b) || (c || d)) ≡ ((a || c) || (b || d))
or_swap true b c d = refl
or_swap false true true d = refl
or_swap false true false d = refl
or_swap false false c d = refl

pub target_of-together : (kind : CacheKind) (p q : Need) (left : Option CacheKind) → rest_lies_within left (target_of kind (together p q)) ≡ (rest_lies_within left (target_of kind p) && rest_lies_within left (target_of kind q))
unfolding target_of
target_of-together kind p q left = rw (or_swap p.covered q.covered p.oplock q.oplock) (all_together kind p.range q.range (loses_handle p) (loses_handle q) left)
