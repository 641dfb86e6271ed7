-- Who is one holder by names is so by numbers.
use Rattle.std.proofs.Common.{◌≡◌, ℕ, Bool, true, false, not, ◌==◌, ◌&&◌, List, Option, Some, None, inl, inr, refl, sym, ap, ◌∙◌, slice_get}
use Rattle.std.proofs.lemmas.Bool.{cases_Bool, both_ways, and_parts, eqb-true, eq-eqb}
use Rattle.std.proofs.lemmas.Option.{same_Some}
use Rattle.xl_base.specs.Stable.{same_protocol}
use Rattle.xl_base.specs.declared.name.Owner.{Owner}
use Rattle.xl_base.specs.declared.name.Owner.TheVariants as owners
use Rattle.xl_base.specs.declared.name.Party.{Party}
use Rattle.xl_base.specs.declared.name.Party.TheVariants as parties
use Rattle.xl_base.specs.declared.name.Protocol.{Protocol}
use Rattle.xl_base.specs.declared.name.Protocol.TheVariants.{Nlm, Nfs, Smb}
use Rattle.xl_matrix.specs.Equal.{same_owners, same_parties}
use Rattle.xl_matrix.specs.Owners.{posix}
use Rattle.xl_matrix.specs.declared.claim.Claim.{Claim}
use Rattle.xl_names.specs.Names.{protocol_of, same_name, number_of, AreDistinct}
use Rattle.xl_names.specs.declared.name.Name.{Name}
use Rattle.xl_names.specs.declared.name.Name.TheVariants.{NlmRange, NlmShare, NlmParty, NfsRange, NfsShare, NfsParty, SmbLease}
use Rattle.xl_names.proofs.NameLaws.{same_name_is, same_name_self, number_at}
use Rattle.xl_core.specs.Askers.{client_of}
use Rattle.xl_core.specs.Good.{are_kept, is_lease_of}
use Rattle.xl_core.proofs.KnownLaws.{GoOn, kept_named}
use Rattle.xl_reclaims.specs.Truthful.{Before, owner_name, party_name, is_one_name, is_by_owner, is_by_party}

-- ---- the name of an owner, and of a party

pub record IsOwnerOf (names : List Name) (owner : Owner) (name : Name) : Type 0 where
  pub number : ℕ
  pub is : owner ≡ owners.Name (protocol_of name) number
  pub at : slice_get names number ≡ Some name

pub record IsPartyOf (names : List Name) (party : Party) (name : Name) : Type 0 where
  pub number : ℕ
  pub is : party ≡ parties.Name (protocol_of name) number
  pub at : slice_get names number ≡ Some name

pub one_name : (o p : Option Name) → is_one_name o p ≡ true → (name : Name) × (o ≡ Some name) × (p ≡ Some name)
one_name (Some a) (Some b) e = (a, refl, ap Some (sym (same_name_is a b e)))
one_name None p e = absurd (both_ways false refl e)
one_name (Some a) None e = absurd (both_ways false refl e)

number_same : (x y : Protocol) (n m : ℕ) → owners.Name x n ≡ owners.Name y m → n ≡ m
number_same x y n m e = cc

none_there : {A : Type 0} (name : Name) → None ≡ Some name → A
none_there name e = absurd cc

pub owner_is : (names : List Name) (owner : Owner) (party : Party) (name : Name) → are_kept names owner party ≡ true → owner_name names owner ≡ Some name → IsOwnerOf names owner name
owner_is names (owners.Open number) party name kept e = none_there name e
owner_is names (owners.Name protocol number) party name kept e =
    let named = kept_named names protocol number party kept in
    let at : number ≡ named.number = number_same protocol (protocol_of named.name) number named.number named.owner_is in
    let one : named.name ≡ name = same_Some named.name name (sym named.owner_at ∙ ap (λ (n : ℕ). slice_get names n) (sym at) ∙ e) in
    record {
      number = named.number;
      is = named.owner_is ∙ ap (λ (n : Name). owners.Name (protocol_of n) named.number) one;
      at = named.owner_at ∙ ap Some one;
    }

-- an owner that has a name is of a client
pub its_client : (names : List Name) (owner : Owner) (party : Party) (name : Name) → are_kept names owner party ≡ true → owner_name names owner ≡ Some name → (client : Name) × (client_of name ≡ Some client) × IsPartyOf names party client
its_client names (owners.Open number) party name kept e = none_there name e
its_client names (owners.Name protocol number) party name kept e =
    let named = kept_named names protocol number party kept in
    let at : number ≡ named.number = number_same protocol (protocol_of named.name) number named.number named.owner_is in
    let one : named.name ≡ name = same_Some named.name name (sym named.owner_at ∙ ap (λ (n : ℕ). slice_get names n) (sym at) ∙ e) in
    (named.client, ap client_of (sym one) ∙ named.client_is, record { number = named.at; is = named.party_is; at = named.party_at })

same_protocol_is : (p q : Protocol) → same_protocol p q ≡ true → p ≡ q
same_protocol_is Nlm Nlm h = refl
same_protocol_is Nfs Nfs h = refl
same_protocol_is Smb Smb h = refl
same_protocol_is Nlm Nfs h = absurd (both_ways false refl h)
same_protocol_is Nlm Smb h = absurd (both_ways false refl h)
same_protocol_is Nfs Nlm h = absurd (both_ways false refl h)
same_protocol_is Nfs Smb h = absurd (both_ways false refl h)
same_protocol_is Smb Nlm h = absurd (both_ways false refl h)
same_protocol_is Smb Nfs h = absurd (both_ways false refl h)

lease_protocol : (protocol : Protocol) (o : Option Name) (name : Name) → is_lease_of protocol o ≡ true → o ≡ Some name → protocol ≡ protocol_of name
lease_protocol protocol None name h e = none_there name e
lease_protocol protocol (Some other) name h e = same_protocol_is protocol (protocol_of other) (and_parts (same_protocol protocol (protocol_of other)) _ h).0 ∙ ap protocol_of (same_Some other name e)

party_same : (x y : Protocol) (n m : ℕ) → parties.Name x n ≡ parties.Name y m → n ≡ m
party_same x y n m e = cc

pub party_is : (names : List Name) (owner : Owner) (party : Party) (name : Name) → are_kept names owner party ≡ true → party_name names party ≡ Some name → IsPartyOf names party name
party_is names owner (parties.Open number) name kept e = none_there name e
party_is names (owners.Open own) (parties.Name protocol number) name kept e =
    record { number = number; is = ap (λ (p : Protocol). parties.Name p number) (lease_protocol protocol (slice_get names number) name kept e); at = e }
party_is names (owners.Name other own) (parties.Name protocol number) name kept e =
    let named = kept_named names other own (parties.Name protocol number) kept in
    let at : number ≡ named.at = party_same protocol (protocol_of named.client) number named.at named.party_is in
    let one : named.client ≡ name = same_Some named.client name (sym named.party_at ∙ ap (λ (n : ℕ). slice_get names n) (sym at) ∙ e) in
    record {
      number = named.at;
      is = named.party_is ∙ ap (λ (n : Name). parties.Name (protocol_of n) named.at) one;
      at = named.party_at ∙ ap Some one;
    }

-- ---- equal by number just if by name

same_number : (ns : List Name) (i j : ℕ) (a b : Name) → AreDistinct ns → slice_get ns i ≡ Some a → slice_get ns j ≡ Some b → (i == j) ≡ same_name a b
same_number ns i j a b distinct at there =
    elim (cases_Bool (same_name a b)) [
      | inl same ↦
          let one : i ≡ j = same_Some i j (sym (number_at ns a i distinct at) ∙ ap (λ (n : Name). number_of n ns) (same_name_is a b same) ∙ number_at ns b j distinct there) in
          eq-eqb i j one ∙ sym same
      | inr other ↦ (elim (cases_Bool (i == j)) [
        | inl one ↦
            let names : a ≡ b = same_Some a b (sym at ∙ ap (λ (n : ℕ). slice_get ns n) (eqb-true i j one) ∙ there) in
            absurd (both_ways (same_name a b) other (ap (same_name a) (sym names) ∙ same_name_self a))
        | inr apart ↦ apart ∙ sym other
      ])
    ]

abbrev pub same_named : Name → Name → Bool
same_named a b = same_protocol (protocol_of a) (protocol_of b) && same_name a b

pub owners_by_name : (ns : List Name) (p q : Owner) (a b : Name) → AreDistinct ns → IsOwnerOf ns p a → IsOwnerOf ns q b → same_owners p q ≡ same_named a b
owners_by_name ns p q a b distinct one two =
    ap (λ (x : Owner). same_owners x q) one.is
    ∙ ap (λ (x : Owner). same_owners (owners.Name (protocol_of a) one.number) x) two.is
    ∙ ap (λ (t : Bool). same_protocol (protocol_of a) (protocol_of b) && t) (same_number ns one.number two.number a b distinct one.at two.at)

pub parties_by_name : (ns : List Name) (p q : Party) (a b : Name) → AreDistinct ns → IsPartyOf ns p a → IsPartyOf ns q b → same_parties p q ≡ same_named a b
parties_by_name ns p q a b distinct one two =
    ap (λ (x : Party). same_parties x q) one.is
    ∙ ap (λ (x : Party). same_parties (parties.Name (protocol_of a) one.number) x) two.is
    ∙ ap (λ (t : Bool). same_protocol (protocol_of a) (protocol_of b) && t) (same_number ns one.number two.number a b distinct one.at two.at)

-- ---- a claim and one that was held

-- they are on one file, of a party of one name
pub record IsOfParty (before : Before) (names : List Name) (c held : Claim) : Type 0 where
  pub file : held.file ≡ c.file
  pub name : Name
  pub mine : IsPartyOf names c.party name
  pub theirs : IsPartyOf before.names held.party name

-- and of an owner of one name
pub record IsOfOwner (before : Before) (names : List Name) (c held : Claim) : Type 0 where
  pub party : IsOfParty before names c held
  pub name : Name
  pub mine : IsOwnerOf names c.owner name
  pub theirs : IsOwnerOf before.names held.owner name
  pub posix_is : same_protocol (protocol_of name) Smb ≡ false

of_posix : (name client : Name) → client_of name ≡ Some client → same_protocol (protocol_of name) Smb ≡ false
of_posix (NlmRange caller svid oh) client e = refl
of_posix (NlmShare caller oh) client e = refl
of_posix (NfsRange id owner) client e = refl
of_posix (NfsShare id owner) client e = refl
of_posix (NlmParty caller) client e = none_there client e
of_posix (NfsParty id) client e = none_there client e
of_posix (SmbLease guid key) client e = none_there client e

pub of_party : (before : Before) (names : List Name) (c held : Claim) → are_kept names c.owner c.party ≡ true → are_kept before.names held.owner held.party ≡ true → is_by_party before names c held ≡ true → IsOfParty before names c held
of_party before names c held kept there e =
    let parts = and_parts (held.file == c.file) (is_one_name (party_name before.names held.party) (party_name names c.party)) e in
    let one = one_name (party_name before.names held.party) (party_name names c.party) parts.1 in
    record {
      file = eqb-true held.file c.file parts.0;
      name = one.0;
      mine = party_is names c.owner c.party one.0 kept one.2;
      theirs = party_is before.names held.owner held.party one.0 there one.1;
    }

pub of_owner : (before : Before) (names : List Name) (c held : Claim) → are_kept names c.owner c.party ≡ true → are_kept before.names held.owner held.party ≡ true → is_by_owner before names c held ≡ true → IsOfOwner before names c held
of_owner before names c held kept there e =
    let parts = and_parts (held.file == c.file) (is_one_name (owner_name before.names held.owner) (owner_name names c.owner)) e in
    let one = one_name (owner_name before.names held.owner) (owner_name names c.owner) parts.1 in
    let mine = its_client names c.owner c.party one.0 kept one.2 in
    let theirs = its_client before.names held.owner held.party one.0 there one.1 in
    let client : theirs.0 ≡ mine.0 = same_Some theirs.0 mine.0 (sym theirs.1 ∙ mine.1) in
    record {
      party = record { file = eqb-true held.file c.file parts.0; name = mine.0; mine = mine.2; theirs = subst_client before.names held.party theirs.0 mine.0 client theirs.2 };
      name = one.0;
      mine = owner_is names c.owner c.party one.0 kept one.2;
      theirs = owner_is before.names held.owner held.party one.0 there one.1;
      posix_is = of_posix one.0 mine.0 mine.1;
    }
  where
    subst_client : (ns : List Name) (p : Party) (a b : Name) → a ≡ b → IsPartyOf ns p a → IsPartyOf ns p b
    subst_client ns p a b e is = record { number = is.number; is = is.is ∙ ap (λ (n : Name). parties.Name (protocol_of n) is.number) e; at = is.at ∙ ap Some e }

-- two claims, and two that were held: they are of one party just if those were
pub parties_alike : (before : Before) (names : List Name) (c h b d : Claim) → AreDistinct before.names → AreDistinct names → IsOfParty before names c b → IsOfParty before names h d → same_parties c.party h.party ≡ same_parties b.party d.party
parties_alike before names c h b d were distinct one two =
    parties_by_name names c.party h.party one.name two.name distinct one.mine two.mine ∙ sym (parties_by_name before.names b.party d.party one.name two.name were one.theirs two.theirs)

-- and so with owners
pub owners_alike : (before : Before) (names : List Name) (c h b d : Claim) → AreDistinct before.names → AreDistinct names → IsOfOwner before names c b → IsOfOwner before names h d → same_owners c.owner h.owner ≡ same_owners b.owner d.owner
owners_alike before names c h b d were distinct one two =
    owners_by_name names c.owner h.owner one.name two.name distinct one.mine two.mine ∙ sym (owners_by_name before.names b.owner d.owner one.name two.name were one.theirs two.theirs)

pub mine_posix : (before : Before) (names : List Name) (c b : Claim) → IsOfOwner before names c b → posix c.owner ≡ true
mine_posix before names c b one = ap posix one.mine.is ∙ ap not one.posix_is

pub theirs_posix : (before : Before) (names : List Name) (c b : Claim) → IsOfOwner before names c b → posix b.owner ≡ true
theirs_posix before names c b one = ap posix one.theirs.is ∙ ap not one.posix_is

-- ---- names that come

-- a name that is kept stays the owner's
pub owner_goes_on : (names more : List Name) (owner : Owner) (party : Party) → GoOn names more → are_kept names owner party ≡ true → owner_name more owner ≡ owner_name names owner
owner_goes_on names more (owners.Open number) party on kept = refl
owner_goes_on names more (owners.Name protocol number) party on kept =
    let named = kept_named names protocol number party kept in
    let at : number ≡ named.number = number_same protocol (protocol_of named.name) number named.number named.owner_is in
    let here : slice_get names number ≡ Some named.name = ap (λ (n : ℕ). slice_get names n) at ∙ named.owner_at in
    on number named.name here ∙ sym here

-- and the party's
pub party_goes_on : (names more : List Name) (owner : Owner) (party : Party) → GoOn names more → are_kept names owner party ≡ true → party_name more party ≡ party_name names party
party_goes_on names more owner (parties.Open number) on kept = refl
party_goes_on names more (owners.Name other own) (parties.Name protocol number) on kept =
    let named = kept_named names other own (parties.Name protocol number) kept in
    let at : number ≡ named.at = party_same protocol (protocol_of named.client) number named.at named.party_is in
    let here : slice_get names number ≡ Some named.client = ap (λ (n : ℕ). slice_get names n) at ∙ named.party_at in
    on number named.client here ∙ sym here
party_goes_on names more (owners.Open own) (parties.Name protocol number) on kept = by (slice_get names number) refl kept where
  by : (o : Option Name) → slice_get names number ≡ o → is_lease_of protocol o ≡ true → slice_get more number ≡ slice_get names number
  by None e h = absurd (both_ways false refl h)
  by (Some name) e h = on number name e ∙ sym e
