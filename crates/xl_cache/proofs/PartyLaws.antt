-- Breaks and wishes keep to the kinds that a party may have.
use Rattle.std.proofs.Common.{◌≡◌, Bool, true, false, ◌||◌, Option, Some, None, IfSome, if◌then◌else◌, refl}
use Rattle.std.proofs.lemmas.Bool.{both_ways, or_right, or_parts}
use Rattle.xl_base.specs.declared.name.Party.{Party}
use Rattle.xl_base.specs.declared.name.Party.TheVariants as parties
use Rattle.xl_base.specs.declared.name.Protocol.TheVariants.{Nlm, Nfs, Smb}
use Rattle.xl_matrix.specs.declared.claim.CacheKind.{CacheKind}
use Rattle.xl_matrix.specs.declared.claim.CacheKind.TheVariants.{R, RH, RW, RWH, ReadDeleg, WriteDeleg}
use Rattle.xl_matrix.specs.Kinds.{kind_lies_within}
use Rattle.xl_cache.specs.declared.need.Need.{Need}
use Rattle.xl_cache.specs.Targets.{is_delegation, loses_handle, target_of}
use Rattle.xl_cache.specs.BreakPlans.{is_oplock}
use Rattle.xl_cache.specs.Parties.{is_kind_of, is_rest_of}
use Rattle.xl_cache.specs.Wishing.{joined}

-- ---- what a break leaves

one_of : (P : Option CacheKind → Bool) (range loses : Bool) (x y z : Option CacheKind) → P x ≡ true → P y ≡ true → P z ≡ true → P (if range then x else if loses then z else y) ≡ true
one_of P true loses x y z p q r = p
one_of P false true x y z p q r = r
one_of P false false x y z p q r = q

-- what an oplock loses always goes with its handle
one_lost : (P : Option CacheKind → Bool) (range : Bool) (x z : Option CacheKind) → P x ≡ true → P z ≡ true → (y : Option CacheKind) (loses : Bool) → loses ≡ true → P (if range then x else if loses then z else y) ≡ true
one_lost P true x z p r y loses e = p
one_lost P false x z p r y true e = r
one_lost P false x z p r y false e = absurd (both_ways false refl e)

or_true : (a b : Bool) → b ≡ true → (a || b) ≡ true
or_true a b h = or_right a b h

pub kept_kind : (p : Party) (kind : CacheKind) (need : Need) → is_kind_of p kind ≡ true → need.oplock ≡ is_oplock p → is_rest_of p (target_of kind need) ≡ true
unfolding is_kind_of target_of
kept_kind (parties.Name Nlm number) kind need h e = absurd (both_ways false refl h)
kept_kind (parties.Name Nfs number) ReadDeleg need h e = one_of (is_rest_of (parties.Name Nfs number)) need.range (loses_handle need) None None None refl refl refl
kept_kind (parties.Name Nfs number) WriteDeleg need h e = one_of (is_rest_of (parties.Name Nfs number)) need.range (loses_handle need) None None None refl refl refl
kept_kind (parties.Name Nfs number) R need h e = absurd (both_ways false refl h)
kept_kind (parties.Name Nfs number) RH need h e = absurd (both_ways false refl h)
kept_kind (parties.Name Nfs number) RW need h e = absurd (both_ways false refl h)
kept_kind (parties.Name Nfs number) RWH need h e = absurd (both_ways false refl h)
kept_kind (parties.Name Smb number) R need h e = one_of (is_rest_of (parties.Name Smb number)) need.range (loses_handle need) None (Some R) (Some R) refl refl refl
kept_kind (parties.Name Smb number) RH need h e = one_of (is_rest_of (parties.Name Smb number)) need.range (loses_handle need) None (Some RH) (Some R) refl refl refl
kept_kind (parties.Name Smb number) RW need h e = one_of (is_rest_of (parties.Name Smb number)) need.range (loses_handle need) None (Some R) (Some R) refl refl refl
kept_kind (parties.Name Smb number) RWH need h e = one_of (is_rest_of (parties.Name Smb number)) need.range (loses_handle need) None (Some RH) (Some R) refl refl refl
kept_kind (parties.Name Smb number) ReadDeleg need h e = absurd (both_ways false refl h)
kept_kind (parties.Name Smb number) WriteDeleg need h e = absurd (both_ways false refl h)
kept_kind (parties.Open number) R need h e = one_of (is_rest_of (parties.Open number)) need.range (loses_handle need) None (Some R) (Some R) refl refl refl
kept_kind (parties.Open number) RH need h e = absurd (both_ways false refl h)
kept_kind (parties.Open number) RW need h e = one_of (is_rest_of (parties.Open number)) need.range (loses_handle need) None (Some R) (Some R) refl refl refl
kept_kind (parties.Open number) RWH need h e = one_lost (is_rest_of (parties.Open number)) need.range None (Some R) refl refl (Some RH) (loses_handle need) (or_true need.covered need.oplock e)
kept_kind (parties.Open number) ReadDeleg need h e = absurd (both_ways false refl h)
kept_kind (parties.Open number) WriteDeleg need h e = absurd (both_ways false refl h)

-- ---- what a wish joins

joins : (P : CacheKind → Bool) (a b d : Bool) (kind other : CacheKind) → P kind ≡ true → P other ≡ true → (d ≡ false → P RWH ≡ true) → IfSome (if a then Some other else if b then Some kind else if d then None else Some RWH) (λ k. P k ≡ true)
joins P true b d kind other p q r = q
joins P false true d kind other p q r = p
joins P false false true kind other p q r = tt
joins P false false false kind other p q r = r refl

-- a party that may have some kind but a delegation may have the whole
whole_kind : (p : Party) (kind other : CacheKind) → is_kind_of p kind ≡ true → (is_delegation kind || is_delegation other) ≡ false → is_kind_of p RWH ≡ true
unfolding is_kind_of
whole_kind (parties.Name Nlm number) kind other h e = absurd (both_ways false refl h)
whole_kind (parties.Name Nfs number) kind other h e = absurd (both_ways (is_delegation kind) (or_parts (is_delegation kind) (is_delegation other) e).0 h)
whole_kind (parties.Name Smb number) kind other h e = refl
whole_kind (parties.Open number) kind other h e = refl

pub joined_kind : (p : Party) (kind other : CacheKind) → is_kind_of p kind ≡ true → is_kind_of p other ≡ true → IfSome (joined kind other) (λ whole. is_kind_of p whole ≡ true)
joined_kind p kind other h k =
    joins (is_kind_of p) (kind_lies_within kind other) (kind_lies_within other kind) (is_delegation kind || is_delegation other) kind other h k (whole_kind p kind other h)
