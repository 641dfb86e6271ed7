-- What a wish gets.
use Rattle.std.proofs.Common.{◌≡◌, Bool, true, false, ◌&&◌, ◌||◌, Option, Some, None, inl, inr, List, [], ◌∷◌, find, refl, subst}
use Rattle.std.specs.Prelude.{IfSome, IfNone}
use Rattle.std.specs.Option.{IsSomeAnd}
use Rattle.std.specs.List.{filter_map, list_all, AllByRecursion}
use Rattle.std.proofs.lemmas.Bool.{cases_Bool, both_ways, and_parts, and_from, or_right}
use Rattle.xl_base.specs.Lists.{IsIn}
use Rattle.xl_base.proofs.Searches.{find_in, none_found, in_filter_map_from}
use Rattle.xl_matrix.specs.declared.claim.CacheKind.{CacheKind}
use Rattle.xl_matrix.specs.declared.claim.CacheKind.TheVariants.{R, RH, RW, RWH, ReadDeleg, WriteDeleg}
use Rattle.xl_matrix.specs.declared.claim.What.{What}
use Rattle.xl_matrix.specs.declared.claim.What.TheVariants.{Share, Range, Cache}
use Rattle.xl_matrix.specs.declared.claim.Claim.{Claim}
use Rattle.xl_matrix.specs.Kinds.{kind_lies_within}
use Rattle.xl_matrix.specs.Matrix.{compat}
use Rattle.xl_cache.specs.declared.wish.Wish.{Wish}
use Rattle.xl_cache.specs.Targets.{is_delegation}
use Rattle.xl_cache.specs.Wishing.{wished_claim, may_stand, best_of, joined, is_its_cache, may_replace, best_join_of, raised_by, granted_beside, granted_kind, Keeps}

-- ---- the first choice

pub best_is_chosen : (wanted : Wish) (held : List Claim) → IfSome (best_of wanted held) (λ kind. IsIn kind wanted.kinds × (may_stand wanted held kind ≡ true))
unfolding best_of
best_is_chosen wanted held = find_in (may_stand wanted held) wanted.kinds

pub none_is_chosen : (wanted : Wish) (held : List Claim) → IfNone (best_of wanted held) (AllByRecursion (λ kind. may_stand wanted held kind ≡ false) wanted.kinds)
unfolding best_of
none_is_chosen wanted held = by (find (may_stand wanted held) wanted.kinds) refl where
  by : (o : Option CacheKind) → find (may_stand wanted held) wanted.kinds ≡ o → IfNone o (AllByRecursion (λ kind. may_stand wanted held kind ≡ false) wanted.kinds)
  by (Some kind) e = tt
  by None e = none_found (may_stand wanted held) wanted.kinds e

-- ---- joins

within-self : (kind : CacheKind) → kind_lies_within kind kind ≡ true
within-self R = refl
within-self RH = refl
within-self RW = refl
within-self RWH = refl
within-self ReadDeleg = refl
within-self WriteDeleg = refl

-- all but delegations lie within RWH
within_all : (kind : CacheKind) → is_delegation kind ≡ false → kind_lies_within kind RWH ≡ true
within_all R d = refl
within_all RH d = refl
within_all RW d = refl
within_all RWH d = refl
within_all ReadDeleg d = absurd (both_ways true d refl)
within_all WriteDeleg d = absurd (both_ways true d refl)

pub joined_above : (kind other : CacheKind) → IfSome (joined kind other) (λ least. (kind_lies_within kind least ≡ true) × (kind_lies_within other least ≡ true))
joined_above kind other =
    elim (cases_Bool (kind_lies_within kind other)) [
      | inl below ↦ rw below (below, within-self other)
      | inr e ↦ elim (cases_Bool (kind_lies_within other kind)) [
        | inl above ↦ rw (e, above) (within-self kind, above)
        | inr f ↦ elim (cases_Bool (is_delegation kind)) [
          | inl d ↦ rw (e, f, d) tt
          | inr d ↦ elim (cases_Bool (is_delegation other)) [
            | inl g ↦ rw (e, f, d, g) tt
            | inr g ↦ rw (e, f, d, g) (within_all kind d, within_all other g)
          ]
        ]
      ]
    ]

clash : (x y : Bool) → x ≡ true → y ≡ true → (x && y) ≡ false → ⊥
clash x y h k e = both_ways (x && y) e (and_from x y h k)

pub joined_least : (kind other upper : CacheKind) → kind_lies_within kind upper ≡ true → kind_lies_within other upper ≡ true → IsSomeAnd (joined kind other) (λ least. kind_lies_within least upper ≡ true)
joined_least R R upper h k = h
joined_least R RH upper h k = k
joined_least R RW upper h k = k
joined_least R RWH upper h k = k
joined_least RH R upper h k = h
joined_least RH RH upper h k = k
joined_least RH RWH upper h k = k
joined_least RH RW RWH h k = refl
joined_least RW R upper h k = h
joined_least RW RW upper h k = k
joined_least RW RWH upper h k = k
joined_least RW RH RWH h k = refl
joined_least RWH R upper h k = h
joined_least RWH RH upper h k = h
joined_least RWH RW upper h k = h
joined_least RWH RWH upper h k = k
joined_least ReadDeleg ReadDeleg upper h k = h
joined_least ReadDeleg WriteDeleg upper h k = k
joined_least WriteDeleg ReadDeleg upper h k = h
joined_least WriteDeleg WriteDeleg upper h k = k
joined_least kind other R h k = absurd (clash (kind_lies_within kind R) (kind_lies_within other R) h k refl)
joined_least kind other RH h k = absurd (clash (kind_lies_within kind RH) (kind_lies_within other RH) h k refl)
joined_least kind other RW h k = absurd (clash (kind_lies_within kind RW) (kind_lies_within other RW) h k refl)
joined_least kind other RWH h k = absurd (clash (kind_lies_within kind RWH) (kind_lies_within other RWH) h k refl)
joined_least kind other ReadDeleg h k = absurd (clash (kind_lies_within kind ReadDeleg) (kind_lies_within other ReadDeleg) h k refl)
joined_least kind other WriteDeleg h k = absurd (clash (kind_lies_within kind WriteDeleg) (kind_lies_within other WriteDeleg) h k refl)

-- ---- a party that has a cache there

pub best_join_is_chosen : (wanted : Wish) (kind : CacheKind) (held : List Claim) → IfSome (best_join_of wanted kind held) (λ least. (kind_lies_within kind least ≡ true) × (may_replace wanted held least ≡ true))
unfolding best_join_of
best_join_is_chosen wanted kind held = by (find (may_replace wanted held) (filter_map (joined kind) wanted.kinds)) (find_in (may_replace wanted held) (filter_map (joined kind) wanted.kinds)) where
  over : (other least : CacheKind) → joined kind other ≡ Some least → kind_lies_within kind least ≡ true
  over other least e = (subst (λ (o : Option CacheKind). IfSome o (λ l. (kind_lies_within kind l ≡ true) × (kind_lies_within other l ≡ true))) e (joined_above kind other)).0

  by : (o : Option CacheKind) → IfSome o (λ least. IsIn least (filter_map (joined kind) wanted.kinds) × (may_replace wanted held least ≡ true)) → IfSome o (λ least. (kind_lies_within kind least ≡ true) × (may_replace wanted held least ≡ true))
  by None h = tt
  by (Some least) h = let from = in_filter_map_from (joined kind) least wanted.kinds h.0 in (over from.0 least from.2, h.1)

-- what may stand beside all may stand beside all others
may_replace-from : (wanted : Wish) (kind : CacheKind) (held : List Claim) → may_stand wanted held kind ≡ true → may_replace wanted held kind ≡ true
may_replace-from wanted kind [] h = refl
may_replace-from wanted kind (c ∷ cs) h =
    let parts = and_parts (compat (wished_claim wanted kind) c) (list_all (compat (wished_claim wanted kind)) cs) h in
    and_from (is_its_cache wanted c || compat (wished_claim wanted kind) c) (list_all (λ d. is_its_cache wanted d || compat (wished_claim wanted kind) d) cs)
    (or_right (is_its_cache wanted c) (compat (wished_claim wanted kind) c) parts.0)
    (may_replace-from wanted kind cs parts.1)

raised_stands : (wanted : Wish) (held : List Claim) (what : What) → IfSome (raised_by wanted held what) (λ kind. (may_replace wanted held kind ≡ true) × Keeps what kind)
raised_stands wanted held (Share access deny) = tt
raised_stands wanted held (Range extent exclusive) = tt
raised_stands wanted held (Cache kind (Some running)) = tt
raised_stands wanted held (Cache kind None) = by (best_join_of wanted kind held) (best_join_is_chosen wanted kind held) where
  by : (o : Option CacheKind) → IfSome o (λ least. (kind_lies_within kind least ≡ true) × (may_replace wanted held least ≡ true)) → IfSome o (λ least. (may_replace wanted held least ≡ true) × Keeps (Cache kind None) least)
  by None h = tt
  by (Some least) h = (h.1, h.0)

granted_by : (wanted : Wish) (held : List Claim) (own : Option Claim) → IfSome (granted_beside wanted held own) (λ kind. (may_replace wanted held kind ≡ true) × IfSome own (λ c. Keeps c.what kind))
granted_by wanted held None = by (best_of wanted held) (best_is_chosen wanted held) where
  by : (o : Option CacheKind) → IfSome o (λ kind. IsIn kind wanted.kinds × (may_stand wanted held kind ≡ true)) → IfSome o (λ kind. (may_replace wanted held kind ≡ true) × Unit {0})
  by None h = tt
  by (Some kind) h = (may_replace-from wanted kind held h.1, tt)
granted_by wanted held (Some c) = raised_stands wanted held c.what

granted_stands : (wanted : Wish) (held : List Claim) → IfSome (granted_kind wanted held) (λ kind. (may_replace wanted held kind ≡ true) × IfSome (find (is_its_cache wanted) held) (λ c. Keeps c.what kind))
unfolding granted_kind
granted_stands wanted held = granted_by wanted held (find (is_its_cache wanted) held)

firsts : (o : Option CacheKind) (P Q : CacheKind → Type 0) → IfSome o (λ kind. P kind × Q kind) → IfSome o P × IfSome o Q
firsts None P Q h = (tt, tt)
firsts (Some kind) P Q h = h

pub granted_may_stand : (wanted : Wish) (held : List Claim) → IfSome (granted_kind wanted held) (λ kind. may_replace wanted held kind ≡ true)
granted_may_stand wanted held = (firsts (granted_kind wanted held) (λ kind. may_replace wanted held kind ≡ true) (λ kind. IfSome (find (is_its_cache wanted) held) (λ c. Keeps c.what kind)) (granted_stands wanted held)).0

pub granted_keeps : (wanted : Wish) (held : List Claim) → IfSome (granted_kind wanted held) (λ kind. IfSome (find (is_its_cache wanted) held) (λ c. Keeps c.what kind))
granted_keeps wanted held = (firsts (granted_kind wanted held) (λ kind. may_replace wanted held kind ≡ true) (λ kind. IfSome (find (is_its_cache wanted) held) (λ c. Keeps c.what kind)) (granted_stands wanted held)).1
