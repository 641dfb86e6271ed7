-- The state stays good by an answer to a break, and a cache that is left is one that its party may have.
use Rattle.std.proofs.Common.{◌≡◌, Bool, true, false, not, ◌&&◌, ◌==◌, List, Option, Some, None, refl, subst}
use Rattle.std.proofs.lemmas.Bool.{both_ways, and_parts, and_from, eq-eqb}
use Rattle.xl_base.specs.Lists.{IsIn}
use Rattle.xl_base.proofs.Members.{all_in}
use Rattle.xl_base.specs.declared.name.Party.{Party}
use Rattle.xl_base.specs.declared.name.Party.TheVariants as parties
use Rattle.xl_base.specs.declared.name.Protocol.TheVariants.{Nlm, Nfs, Smb}
use Rattle.xl_cache.specs.Parties.{is_lease_kind, is_oplock_kind, is_kind_of, is_rest_of, is_break_of, is_cache_of}
use Rattle.xl_cache.specs.BreakPlans.{is_less}
use Rattle.xl_cache.specs.Targets.{is_delegation, rest_lies_within}
use Rattle.xl_matrix.proofs.EqualLaws.{same_parties-self}
use Rattle.xl_matrix.specs.Equal.{same_parties}
use Rattle.xl_matrix.specs.Kinds.{kind_lies_within}
use Rattle.xl_matrix.specs.Weaker.{weaker_by, weaker}
use Rattle.xl_matrix.specs.declared.claim.Break.{Break}
use Rattle.xl_matrix.specs.declared.claim.CacheKind.{CacheKind}
use Rattle.xl_matrix.specs.declared.claim.CacheKind.TheVariants.{R, RH, RW, RWH, ReadDeleg, WriteDeleg}
use Rattle.xl_matrix.specs.declared.claim.Claim.{Claim}
use Rattle.xl_matrix.specs.declared.claim.What.{What}
use Rattle.xl_matrix.specs.declared.claim.What.TheVariants.{Share, Range, Cache}
use Rattle.xl_names.specs.declared.name.Name.{Name}
use Rattle.xl_table.specs.Flat.{with_what, changed}
use Rattle.xl_table.specs.Held.{is_cache, IsSound}
use Rattle.xl_table.proofs.InsertLaws.{sound_changed_other}
use Rattle.xl_core.specs.State.{CoreState}
use Rattle.xl_core.specs.BreakAnswers.{may_be_left, ack}
use Rattle.xl_core.specs.Good.{IsHeldBy, IsHeld, IsGood}
use Rattle.xl_core.specs.Whole.{state_of}
use Rattle.xl_core.specs.declared.parts.Parts.{Parts}
use Rattle.xl_core.proofs.GoodLaws.{without_good}
use Rattle.xl_core.proofs.HeldCaches.{cache_weakened}

-- ---- what is left is of a kind that the party may have

lease_left : (kind less : CacheKind) → is_lease_kind kind ≡ true → kind_lies_within less kind ≡ true → is_lease_kind less ≡ true
lease_left ReadDeleg less h k = absurd (both_ways false refl h)
lease_left WriteDeleg less h k = absurd (both_ways false refl h)
lease_left kind R h k = refl
lease_left kind RH h k = refl
lease_left kind RW h k = refl
lease_left kind RWH h k = refl
lease_left _ _ h k = cc

delegation_left : (kind less : CacheKind) → is_delegation kind ≡ true → kind_lies_within less kind ≡ true → is_delegation less ≡ true
delegation_left R less h k = absurd (both_ways false refl h)
delegation_left RH less h k = absurd (both_ways false refl h)
delegation_left RW less h k = absurd (both_ways false refl h)
delegation_left RWH less h k = absurd (both_ways false refl h)
delegation_left kind ReadDeleg h k = refl
delegation_left kind WriteDeleg h k = refl
delegation_left _ _ h k = cc

-- of an oplock whose break leaves less than it was, RH is not left
oplock_left : (whole kind less : CacheKind) → is_oplock_kind kind ≡ true → kind_lies_within kind whole ≡ true → kind_lies_within whole kind ≡ false → kind_lies_within less kind ≡ true → is_oplock_kind less ≡ true
oplock_left whole RH less h k l m = absurd (both_ways false refl h)
oplock_left whole ReadDeleg less h k l m = absurd (both_ways false refl h)
oplock_left whole WriteDeleg less h k l m = absurd (both_ways false refl h)
oplock_left whole kind R h k l m = refl
oplock_left whole kind RW h k l m = refl
oplock_left whole kind RWH h k l m = refl
oplock_left RWH RWH less h k l m = absurd (both_ways true l refl)
oplock_left _ _ _ h k l m = cc

kind_left : (p : Party) (whole kind less : CacheKind) → is_kind_of p kind ≡ true → kind_lies_within kind whole ≡ true → kind_lies_within whole kind ≡ false → kind_lies_within less kind ≡ true → is_kind_of p less ≡ true
unfolding is_kind_of
kind_left (parties.Name Nlm number) whole kind less h k l m = absurd (both_ways false refl h)
kind_left (parties.Name Nfs number) whole kind less h k l m = delegation_left kind less h m
kind_left (parties.Name Smb number) whole kind less h k l m = lease_left kind less h m
kind_left (parties.Open number) whole kind less h k l m = oplock_left whole kind less h k l m

kinds_on : (a b c : CacheKind) → kind_lies_within a b ≡ true → kind_lies_within b c ≡ true → kind_lies_within a c ≡ true
kinds_on R b R h k = refl
kinds_on R b RH h k = refl
kinds_on R b RW h k = refl
kinds_on R b RWH h k = refl
kinds_on RH b RH h k = refl
kinds_on RH b RWH h k = refl
kinds_on RW b RW h k = refl
kinds_on RW b RWH h k = refl
kinds_on RWH b RWH h k = refl
kinds_on ReadDeleg b ReadDeleg h k = refl
kinds_on ReadDeleg b WriteDeleg h k = refl
kinds_on WriteDeleg b WriteDeleg h k = refl
kinds_on a R c h k = below a c h k where
  below : (a c : CacheKind) → kind_lies_within a R ≡ true → kind_lies_within R c ≡ true → kind_lies_within a c ≡ true
  below R c h k = k
  below _ c h k = cc
kinds_on RH RH c h k = k
kinds_on RW RW c h k = k
kinds_on _ _ _ h k = cc

not_true : (b : Bool) → not b ≡ true → b ≡ false
not_true true h = absurd (both_ways false refl h)
not_true false h = refl

-- what lies within what the break leaves is less than the cache, and what the party may have
pub left_within : (p : Party) (whole : CacheKind) (running : Option Break) (kind : CacheKind) → is_cache_of p whole running ≡ true → may_be_left (Cache whole running) (Some kind) ≡ true → (is_kind_of p kind ≡ true) × (kind_lies_within kind whole ≡ true)
unfolding is_cache_of
left_within p whole None kind held may = absurd (both_ways false refl may)
left_within p whole (Some running) kind held may = by running.target (and_parts (is_kind_of p whole) (is_break_of p whole (Some running)) held).1 may where
  by : (target : Option CacheKind) → (is_less (Cache whole (Some running)) target && is_rest_of p target) ≡ true → rest_lies_within (Some kind) target ≡ true → (is_kind_of p kind ≡ true) × (kind_lies_within kind whole ≡ true)
  by None less may = absurd (both_ways false refl may)
  by (Some rest) less may =
      let parts = and_parts (kind_lies_within rest whole && not (kind_lies_within whole rest)) (is_kind_of p rest) less in
      let strictly = and_parts (kind_lies_within rest whole) (not (kind_lies_within whole rest)) parts.0 in
      (kind_left p whole rest kind parts.1 strictly.0 (not_true (kind_lies_within whole rest) strictly.1) may, kinds_on kind rest whole may strictly.0)

-- ---- the cache as it is then

cache_weaker : (c : Claim) (w : What) (kind whole : CacheKind) (running : Option Break) → w ≡ Cache whole running → kind_lies_within kind whole ≡ true → weaker_by (with_what c (Cache kind None)) c (Cache kind None) w ≡ true
unfolding weaker_by
cache_weaker c w kind whole running is less = rw is less

acked_held : (names : List Name) (c : Claim) (w : What) (kind : CacheKind) → c.what ≡ w → IsHeld names c → may_be_left w (Some kind) ≡ true → IsHeld names (with_what c (Cache kind None)) × (weaker (with_what c (Cache kind None)) c ≡ true)
unfolding weaker is_cache_of
acked_held names c (Cache whole running) kind is held may =
    let cache : is_cache_of c.party whole running ≡ true = subst (λ (w : What). IsHeldBy c.party w) is held.0.0 in
    let left = left_within c.party whole running kind cache may in
    let new : Claim = with_what c (Cache kind None) in (
      ((and_from (is_kind_of c.party kind) true left.0 refl, refl), held.1),
      and_from (c.file == c.file) (same_parties c.party c.party && weaker_by new c (Cache kind None) c.what) (eq-eqb c.file c.file refl)
          (and_from (same_parties c.party c.party) (weaker_by new c (Cache kind None) c.what) (same_parties-self c.party) (cache_weaker c c.what kind whole running is left.1)),
    )
acked_held names c (Share access deny) kind is held may = absurd (both_ways false refl may)
acked_held names c (Range extent exclusive) kind is held may = absurd (both_ways false refl may)

-- what has a break that runs is a cache
pub is_cache_left : (w : What) (to : Option CacheKind) → may_be_left w to ≡ true → is_cache w ≡ true
is_cache_left (Cache kind running) to h = refl
is_cache_left (Share access deny) to h = absurd (both_ways false refl h)
is_cache_left (Range extent exclusive) to h = absurd (both_ways false refl h)

pub ack_good : (s : CoreState) (cache : Claim) (to : Option CacheKind) → IsGood s → IsIn cache s.claims → may_be_left cache.what to ≡ true → IsGood (ack s cache to).1
unfolding ack
ack_good s cache None good there may = without_good s cache good
ack_good s cache (Some kind) good there may =
    let new = acked_held s.names cache cache.what kind refl (all_in (IsHeld s.names) cache s.claims good.known there) may in
    cache_weakened s cache (Cache kind None) good there new.0 refl new.1

-- the table takes the change
pub acked_sound : (p : Parts) (cache : Claim) (kind : CacheKind) → IsGood (state_of p) → IsSound (changed cache (Cache kind None) p.table)
acked_sound p cache kind good = sound_changed_other cache (Cache kind None) p.table good.kept.sound refl
