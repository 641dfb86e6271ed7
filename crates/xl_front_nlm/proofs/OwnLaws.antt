-- What a call gives up stands, and is the client's that the call names.
use Rattle.std.proofs.Common.{◌≡◌, ℕ, Bool, true, Option, Some, None, refl, sym, ap, subst, ◌∙◌}
use Rattle.std.proofs.lemmas.Bool.{and_parts}
use Rattle.std.specs.Bool.{◌==◌}
use Rattle.std.specs.Prelude.{◌&&◌}
use Rattle.xl_base.proofs.Members.{all_in}
use Rattle.xl_base.specs.declared.name.Owner.{Owner}
use Rattle.xl_base.specs.declared.name.Owner.TheVariants as owners
use Rattle.xl_base.specs.declared.name.Protocol.TheVariants.{Nlm}
use Rattle.xl_matrix.proofs.EqualLaws.{same_owners-true}
use Rattle.xl_matrix.specs.Equal.{same_owners}
use Rattle.xl_matrix.specs.declared.claim.Claim.{Claim}
use Rattle.xl_names.specs.Names.{protocol_of, number_of}
use Rattle.xl_names.specs.declared.name.Name.{Name}
use Rattle.xl_names.specs.declared.name.Name.TheVariants.{NlmParty}
use Rattle.xl_nlm.specs.Items.{LockItem, ShareArgsItem}
use Rattle.xl_table.specs.Held.{is_of}
use Rattle.xl_wait.specs.Waiting.{is_waiting}
use Rattle.xl_core.proofs.DeedClients.{party_of_owner}
use Rattle.xl_core.proofs.DeedLeaves.{share_given, found_in}
use Rattle.xl_core.proofs.TurnLaws.{waiter_known}
use Rattle.xl_table.proofs.WriteBack.{is_of-true}
use Rattle.xl_core.specs.Askers.{client_of as belongs_to}
use Rattle.xl_core.specs.Askers.{party_named}
use Rattle.xl_core.specs.Clients.{IsOf}
use Rattle.xl_core.specs.Deeds.{GivesBack, Cancels, IsFitDeed}
use Rattle.xl_core.specs.Good.{are_kept, IsHeld, IsGood}
use Rattle.xl_table.specs.Relock.{is_share_of}
use Rattle.xl_table.specs.Held.{is_share}
use Rattle.xl_core.specs.State.{CoreState}
use Rattle.xl_front_nlm.proofs.StandLaws.{found_waits, that_waits}
use Rattle.xl_front_nlm.specs.Asks.{owner_of, share_owner}
use Rattle.xl_front_nlm.specs.Standing.{is_aimed, is_same, waits_for, waiter_by, share_by}
use Rattle.xl_front_nlm.specs.declared.aim.Aim.{Aim}

-- a claim of the owner's is its client's
own_claim : (s : CoreState) (name client : Name) (number : ℕ) (c : Claim) → IsGood s → number_of name s.names ≡ Some number → are_kept s.names c.owner c.party ≡ true → c.owner ≡ owners.Name Nlm number → belongs_to name ≡ Some client → protocol_of name ≡ Nlm → party_named s.names client ≡ Some c.party
own_claim s name client number c good known kept owner belongs nlm =
    party_of_owner s.names name client number c.party good.distinct known belongs
    (subst (λ (o : Owner). are_kept s.names o c.party ≡ true) (owner ∙ ap (λ p. owners.Name p number) (sym nlm)) kept)

same_of : (owner : Owner) (at : Aim) (exclusive : Bool) (c : Claim) → is_same owner at exclusive (Some c) ≡ true → c.owner ≡ owner
same_of owner at exclusive c h =
    let rest = (and_parts (c.file == at.file) (same_owners c.owner owner && is_aimed c.what at exclusive) h).1 in
    same_owners-true c.owner owner (and_parts (same_owners c.owner owner) (is_aimed c.what at exclusive) rest).0

pub cancel_own : (s : CoreState) (l : LockItem) (exclusive : Bool) (at : Aim) (o : Option ℕ) (id : ℕ) → IsGood s → number_of (owner_of l) s.names ≡ o → waiter_by s.waiters at exclusive o ≡ Some id → IsOf s (NlmParty l.caller_name) (Cancels id)
cancel_own s l exclusive at None id good known e = absurd cc
cancel_own s l exclusive at (Some number) id good known e = λ w c there is asked.
    let found = ap (waiter_by s.waiters at exclusive) known ∙ e in
    let waits = that_waits s l exclusive at number id w good known found there is in
    let owner = same_of (owners.Name Nlm number) at exclusive c (subst (λ (x : Option Claim). is_same (owners.Name Nlm number) at exclusive x ≡ true) asked waits) in
    own_claim s (owner_of l) (NlmParty l.caller_name) number c good known (waiter_known s w c good there asked).1 owner refl refl

pub share_own : (s : CoreState) (a : ShareArgsItem) (file : ℕ) (o : Option ℕ) (claim : Claim) → IsGood s → number_of (share_owner a) s.names ≡ o → share_by s.claims file o ≡ Some claim → IsOf s (NlmParty a.caller_name) (GivesBack claim)
share_own s a file None claim good known e = absurd cc
share_own s a file (Some number) claim good known e =
    let found = found_in (is_share_of file (owners.Name Nlm number)) s.claims claim e in
    let own = (and_parts (is_of file (owners.Name Nlm number) claim) (is_share claim.what) found.1).0 in
    own_claim s (share_owner a) (NlmParty a.caller_name) number claim good known (all_in (IsHeld s.names) claim s.claims good.known found.0).1 (is_of-true file (owners.Name Nlm number) claim own).1 refl refl

-- ---- what is found stands

pub waits : (s : CoreState) (at : Aim) (exclusive : Bool) (o : Option ℕ) (id : ℕ) → waiter_by s.waiters at exclusive o ≡ Some id → is_waiting id s.waiters ≡ true
waits s at exclusive None id e = absurd cc
waits s at exclusive (Some number) id e =
    let p = waits_for (owners.Name Nlm number) at exclusive in
    found_waits (Some id) p s.waiters (sym e)

pub share_fits : (s : CoreState) (file : ℕ) (o : Option ℕ) (claim : Claim) → share_by s.claims file o ≡ Some claim → IsFitDeed s (GivesBack claim)
share_fits s file None claim e = absurd cc
share_fits s file (Some number) claim e =
    let found = found_in (is_share_of file (owners.Name Nlm number)) s.claims claim e in
    (found.0, share_given claim.what (and_parts (is_of file (owners.Name Nlm number) claim) (is_share claim.what) found.1).1)
