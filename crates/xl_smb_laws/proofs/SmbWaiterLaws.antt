-- Who asks for an SMB open, and waits, is a party of SMB.
use Rattle.std.proofs.Common.{◌≡◌, ℕ, true, false, List, [], ◌∷◌, refl, sym, ap, ◌∙◌}
use Rattle.std.specs.List.{AllByRecursion, list_any}
use Rattle.std.proofs.lemmas.Bool.{false≢true}
use Rattle.xl_base.specs.declared.name.Owner.TheVariants as owners
use Rattle.xl_base.specs.declared.name.Protocol.TheVariants.{Smb}
use Rattle.xl_matrix.specs.Equal.{same_owners}
use Rattle.xl_matrix.specs.declared.claim.Claim.{Claim}
use Rattle.xl_matrix.specs.declared.claim.What.{What}
use Rattle.xl_names.specs.Names.{protocol_of}
use Rattle.xl_names.specs.declared.name.Name.{Name}
use Rattle.xl_names.specs.declared.name.Name.TheVariants.{NlmRange, NlmShare, NlmParty, NfsRange, NfsShare, NfsParty, SmbLease}
use Rattle.xl_core.specs.Askers.{asked_claims, asked_whats, asker, asking_party, is_client, is_lease, is_named, owner_in, party_in, who_entered}
use Rattle.xl_core.specs.Decide.{waiter_of}
use Rattle.xl_core.specs.Settle.{waits_as}
use Rattle.xl_core.specs.Told.{party_protocol}
use Rattle.xl_core.specs.declared.ask.Ask.{Ask}
use Rattle.xl_core.specs.declared.ask.Who.{Who}
use Rattle.xl_core.specs.declared.ask.Who.TheVariants as who
use Rattle.xl_smb_laws.specs.WaitingRequests.{IsOfSmb}

-- ---- whose claims are asked for

-- who has a name asks for nothing of an open
pub none_for : (a : Ask) (names : List Name) (k : ℕ) (p : Who) (xs : List What) → a.owner ≡ p → is_named p ≡ true → list_any (λ (c : Claim). same_owners c.owner (owners.Open k)) (asked_claims a xs names) ≡ false
none_for a names k (who.Open number) xs is named = absurd (false≢true named)
none_for a names k (who.Named name) [] is named = refl
none_for a names k (who.Named name) (x ∷ xs) is named =
    let apart : same_owners (asker a names) (owners.Open k) ≡ false = ap (λ (w : Who). same_owners (owner_in w names) (owners.Open k)) is in
    rw apart (none_for a names k (who.Named name) xs is named)

-- each claim is the asking party's
one_party : (a : Ask) (names : List Name) (xs : List What) → AllByRecursion (λ (c : Claim). c.party ≡ asking_party a names) (asked_claims a xs names)
one_party a names [] = tt
one_party a names (x ∷ xs) = (refl, one_party a names xs)

-- ---- its protocol

-- a lease is of SMB
pub lease_is : (name : Name) → is_lease name ≡ true → protocol_of name ≡ Smb
lease_is (SmbLease guid key) lease = refl
lease_is (NlmRange caller svid oh) lease = absurd (false≢true lease)
lease_is (NlmShare caller oh) lease = absurd (false≢true lease)
lease_is (NlmParty caller) lease = absurd (false≢true lease)
lease_is (NfsRange client owner) lease = absurd (false≢true lease)
lease_is (NfsShare client owner) lease = absurd (false≢true lease)
lease_is (NfsParty client) lease = absurd (false≢true lease)

-- of an open's ask the party is the open, or a lease
open_party : (number : ℕ) (p : Who) (names : List Name) → is_client (who.Open number) p ≡ true → party_protocol (party_in p names) ≡ Smb
open_party number (who.Open other) names client = refl
open_party number (who.Named name) names client = lease_is name client

asks_in_smb : (a : Ask) (names more : List Name) (k : ℕ) (p : Who) → a.owner ≡ p → is_client p a.party ≡ true → list_any (λ (c : Claim). same_owners c.owner (owners.Open k)) (asked_claims a (asked_whats a.act) names) ≡ true → party_protocol (party_in a.party more) ≡ Smb
asks_in_smb a names more k (who.Named name) is client own = absurd (false≢true (sym (none_for a names k (who.Named name) (asked_whats a.act) is refl) ∙ own))
asks_in_smb a names more k (who.Open number) is client own = open_party number a.party more client

-- who waits by such an ask is a party of SMB
pub asks_of_smb : (a : Ask) (id number : ℕ) (names : List Name) → is_client a.owner a.party ≡ true → waits_as number (waiter_of id a (asking_party a names) (asked_claims a (asked_whats a.act) names)) ≡ true
    → IsOfSmb (waiter_of id a (asking_party a names) (asked_claims a (asked_whats a.act) names))
unfolding waits_as
asks_of_smb a id number names client own = record {
  party = asks_in_smb a names (who_entered a.owner names) number a.owner refl client own;
  claims = one_party a names (asked_whats a.act);
}
