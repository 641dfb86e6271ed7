-- What was held lies within what was held.
use Rattle.std.proofs.Common.{◌≡◌, leb, Bool, true, false, not, ◌==◌, ◌&&◌, if◌then◌else◌, Option, Some, None, refl, sym, ap, ◌∙◌}
use Rattle.std.proofs.lemmas.Bool.{both_ways, and_from, eq-eqb, le-leb}
use Rattle.xl_base.specs.Lists.{IsIn}
use Rattle.xl_base.proofs.Members.{all_in}
use Rattle.xl_base.proofs.Searches.{any_from}
use Rattle.xl_matrix.specs.Kinds.{kind_lies_within}
use Rattle.xl_matrix.specs.Matrix.{lock_by, lock_on, is_as_strong}
use Rattle.xl_matrix.specs.Owners.{posix}
use Rattle.xl_matrix.specs.Rights.{implies, rights_lie_within}
use Rattle.xl_matrix.specs.declared.claim.CacheKind.{CacheKind}
use Rattle.xl_matrix.specs.declared.claim.CacheKind.TheVariants.{R, RH, RW, RWH, ReadDeleg, WriteDeleg}
use Rattle.xl_matrix.specs.declared.claim.Claim.{Claim}
use Rattle.xl_matrix.specs.declared.claim.Extent.TheVariants.{Bytes, Empty}
use Rattle.xl_matrix.specs.declared.claim.Rwd.{Rwd}
use Rattle.xl_matrix.specs.declared.claim.What.{What}
use Rattle.xl_matrix.specs.declared.claim.What.TheVariants.{Share, Range, Cache}
use Rattle.xl_names.specs.declared.name.Name.{Name}
use Rattle.xl_names.proofs.NameLaws.{same_name_self}
use Rattle.xl_table.specs.Held.{may_own}
use Rattle.xl_core.specs.Good.{IsHeld}
use Rattle.xl_core.specs.Settle.{share_has}
use Rattle.xl_reclaims.specs.Truthful.{Before, WereHeld, owner_name, party_name, is_one_name, is_by_owner, is_by_party, cache_has, IsWithinBy, IsWithin}
use Rattle.xl_reclaims.proofs.ByNames.{its_client, of_owner, mine_posix}

implies_self : (b : Bool) → implies b b ≡ true
implies_self true = refl
implies_self false = refl

rights_self : (p : Rwd) → rights_lie_within p p ≡ true
rights_self p = and_from _ _ (implies_self p.r) (and_from _ _ (implies_self p.w) (implies_self p.d))

kind_self : (kind : CacheKind) → kind_lies_within kind kind ≡ true
kind_self R = refl
kind_self RH = refl
kind_self RW = refl
kind_self RWH = refl
kind_self ReadDeleg = refl
kind_self WriteDeleg = refl

one_self : (o : Option Name) (name : Name) → o ≡ Some name → is_one_name o o ≡ true
one_self o name e = (λ i. is_one_name (e i) (e i)) ∙ same_name_self name

pub held_within : (before : Before) (c : Claim) (name : Name) → WereHeld before → IsIn c before.claims → owner_name before.names c.owner ≡ Some name → IsWithin before before.names c
held_within before c name were there named = by c.what refl where
  known : IsHeld before.names c
  known = all_in (λ x. IsHeld before.names x) c before.claims were.known there

  own : is_by_owner before before.names c c ≡ true
  own = and_from (c.file == c.file) _ (eq-eqb c.file c.file refl) (one_self (owner_name before.names c.owner) name named)

  client : (client : Name) × (party_name before.names c.party ≡ Some client)
  client = let its = its_client before.names c.owner c.party name known.1 named in (its.0, ap (party_name before.names) its.2.is ∙ its.2.at)

  its : is_by_party before before.names c c ≡ true
  its = and_from (c.file == c.file) _ (eq-eqb c.file c.file refl) (one_self (party_name before.names c.party) client.0 client.1)

  by : (w : What) → c.what ≡ w → IsWithinBy before before.names c w
  by (Share access deny) is =
      any_from (λ held. is_by_owner before before.names c held && share_has held.what access deny) c before.claims there
      (and_from _ _ own (ap (λ (x : What). share_has x access deny) is ∙ and_from _ _ (rights_self access) (rights_self deny)))
  by (Range (Bytes first last) exclusive) is = λ byte low high.
      any_from (λ held. is_by_owner before before.names c held && is_as_strong exclusive (lock_on held byte)) c before.claims there
      (and_from _ _ own
      (ap (λ (x : What). is_as_strong exclusive (lock_by x byte)) is
      ∙ ap (λ (b : Bool). is_as_strong exclusive (if b then Some exclusive else None)) (and_from (leb first byte) (leb byte last) (le-leb first byte low) (le-leb byte last high))
      ∙ implies_self exclusive))
  by (Range (Empty offset) exclusive) is =
      let of = of_owner before before.names c c known.1 known.1 own in
      both_ways (posix c.owner) (not_false (posix c.owner) (sym (ap (may_own c.owner) is) ∙ known.0.1)) (mine_posix before before.names c c of)
    where
      not_false : (b : Bool) → not b ≡ true → b ≡ false
      not_false true e = absurd (both_ways false refl e)
      not_false false e = refl
  by (Cache kind running) is =
      any_from (λ held. is_by_party before before.names c held && cache_has held.what kind) c before.claims there (and_from _ _ its (ap (λ (x : What). cache_has x kind) is ∙ kind_self kind))
