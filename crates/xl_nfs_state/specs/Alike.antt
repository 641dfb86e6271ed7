-- Keys that compare as equal are equal.
use Rattle.std.specs.Prelude.{◌≡◌, true, ◌&&◌, ◌==◌, bytes_eq, refl}
use Rattle.std.specs.Bool.{beq}
use Rattle.std.specs.Cmp.{booleans_Decides}
use Rattle.std.specs.Cmp.Lexicographic.{bytes_decides}
use Rattle.std.proofs.Common.{ap, eqb-true}
use Rattle.std.proofs.lemmas.Bool.{and_parts, false≢true}
use denote.Enum.Bare.{sameb}
use Rattle.xl_nfs_state.specs.contracts.owner.OwnerKind.{the_type}
use Rattle.xl_nfs_state.specs.declared.client.ClientName.{ClientName}
use Rattle.xl_nfs_state.specs.declared.owner.OwnerKind.{OwnerKind}
use Rattle.xl_nfs_state.specs.declared.owner.OwnerKind.TheVariants.{Open, Lock}
use Rattle.xl_nfs_state.specs.declared.owner.OwnerName.{OwnerName}
use Rattle.xl_nfs_state.specs.Keys.{same_client_name, same_kind, same_owner_name}

pub client_names_are : (a b : ClientName) → same_client_name a b ≡ true → a ≡ b
client_names_are a b h =
    let parts = and_parts (bytes_eq a.id b.id) (beq a.confirmed b.confirmed) h in
    λ i. record { id = (bytes_decides a.id b.id).0 parts.0 i; confirmed = (booleans_Decides a.confirmed b.confirmed).0 parts.1 i }

pub kinds_are : (a b : OwnerKind) → same_kind a b ≡ true → a ≡ b
kinds_are Open Open h = refl
kinds_are Lock Lock h = refl
kinds_are a b h = absurd (false≢true h)

pub owner_names_are : (a b : OwnerName) → same_owner_name a b ≡ true → a ≡ b
owner_names_are a b h =
    let parts = and_parts (a.client == b.client) (same_kind a.kind b.kind && bytes_eq a.owner b.owner) h in
    let rest = and_parts (same_kind a.kind b.kind) (bytes_eq a.owner b.owner) parts.1 in
    λ i. record { client = eqb-true a.client b.client parts.0 i; kind = kinds_are a.kind b.kind rest.0 i; owner = (bytes_decides a.owner b.owner).0 rest.1 i }

-- what the derived comparison of kinds answers
pub kinds_same : (a b : OwnerKind) → same_kind a b ≡ sameb the_type a b
kinds_same Open Open = refl
kinds_same Lock Lock = refl
kinds_same Open Lock = refl
kinds_same Lock Open = refl

pub owner_names_same : (a b : OwnerName) → same_owner_name a b ≡ (a.client == b.client && (sameb the_type a.kind b.kind && bytes_eq a.owner b.owner))
owner_names_same a b = ap (λ k. a.client == b.client && (k && bytes_eq a.owner b.owner)) (kinds_same a.kind b.kind)
