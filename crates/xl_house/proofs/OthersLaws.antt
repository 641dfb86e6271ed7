-- No ask of NLM or of NFSv4, or of the end of a call, is one by an SMB open, and no deed takes out a waiter of SMB.
use Rattle.std.proofs.Common.{◌≡◌, ℕ, false, List, [], ◌∷◌, Option, Some, None, refl, ap, subst, ◌∙◌}
use Rattle.std.specs.Prelude.{option_map}
use Rattle.std.specs.Option.{option_and_then}
use Rattle.std.proofs.lemmas.Bool.{true≢false}
use Rattle.xl_base.specs.declared.journal.Exports.{Exports}
use Rattle.xl_base.specs.declared.name.Party.{Party}
use Rattle.xl_base.specs.declared.name.Party.TheVariants as parties
use Rattle.xl_base.specs.declared.name.Protocol.TheVariants.{Smb}
use Rattle.xl_names.specs.declared.name.Name.{Name}
use Rattle.xl_names.specs.Names.{number_of, protocol_of}
use Rattle.xl_names.specs.declared.name.Name.TheVariants.{NlmRange, NlmShare, NlmParty, NfsRange, NfsShare, NfsParty, SmbLease}
use Rattle.xl_nlm.specs.Items as calls
use Rattle.xl_programs.specs.Programs.{RequestItem}
use Rattle.xl_smb_state.proofs.RowLaws.{none_some, same_Some}
use Rattle.xl_core.specs.Askers.{is_lease, party_named}
use Rattle.xl_core.specs.Clients.{IsOfSome}
use Rattle.xl_core.specs.Deeds.{AreFit, Deed, Asks, Cancels, Closes, Ends, IsFitDeed, Serves, done}
use Rattle.xl_core.specs.Good.{IsGood}
use Rattle.xl_core.specs.State.{CoreState}
use Rattle.xl_core.specs.Told.{party_protocol}
use Rattle.xl_plan.proofs.PlanLaws.{at_weaker}
use Rattle.xl_plan.specs.Plans.{AllAt}
use Rattle.xl_front_nlm.proofs.DoesLaws as nlm
use Rattle.xl_front_nlm.specs.Answers.{refusal_deeds}
use Rattle.xl_front_nlm.specs.FrontNlm.{call_in, nlm_client, nlm_deeds}
use Rattle.xl_front_nlm.specs.Serving.{client_of}
use Rattle.xl_front_nlm.specs.State.{FrontState}
use Rattle.xl_front_nlm.specs.declared.grant.Grant.{Grant}
use Rattle.xl_nfs_opens.specs.Owners.{AreBy, IsBy}
use Rattle.xl_smb_laws.proofs.SparedLaws.{nfs_apart, nlm_apart}
use Rattle.xl_smb_laws.specs.WaitingRequests.{SparesSmb, is_open_ask}
use Rattle.xl_house.proofs.PairedWaiterLaws.{Others, asked_named, some_named}

-- a caller of NLM is no lease
caller_plain : (call : calls.CallItem) (client : Name) → client_of call ≡ Some client → is_lease client ≡ false
caller_plain calls.Null client is = absurd (none_some is)
caller_plain (calls.Granted a) client is = absurd (none_some is)
caller_plain (calls.Test a) client is = subst (λ (name : Name). is_lease name ≡ false) (same_Some is) refl
caller_plain (calls.Lock a) client is = subst (λ (name : Name). is_lease name ≡ false) (same_Some is) refl
caller_plain (calls.Cancel a) client is = subst (λ (name : Name). is_lease name ≡ false) (same_Some is) refl
caller_plain (calls.Unlock a) client is = subst (λ (name : Name). is_lease name ≡ false) (same_Some is) refl
caller_plain (calls.Share a) client is = subst (λ (name : Name). is_lease name ≡ false) (same_Some is) refl
caller_plain (calls.Unshare a) client is = subst (λ (name : Name). is_lease name ≡ false) (same_Some is) refl
caller_plain (calls.NmLock a) client is = subst (λ (name : Name). is_lease name ≡ false) (same_Some is) refl
caller_plain (calls.FreeAll a) client is = subst (λ (name : Name). is_lease name ≡ false) (same_Some is) refl

pub call_plain : (o : Option calls.CallItem) (client : Name) → option_and_then (λ call. client_of call) o ≡ Some client → is_lease client ≡ false
call_plain None client is = absurd (none_some is)
call_plain (Some call) client is = caller_plain call client is

pub nlm_others : (n : ℕ) (exports : Exports) (f : FrontState) (s : CoreState) (r : RequestItem) → IsGood s → Others (nlm_deeds n exports f s r)
nlm_others n exports f s r good = some_named n s (nlm_client r) (nlm_deeds n exports f s r) (λ client is. call_plain (call_in r) client is) (nlm.step_own n exports f s r good) (nlm.step_takes n exports f s r)

-- ---- and none takes out a waiter of SMB

-- a name that is no lease is of another protocol
plain_apart : (client : Name) → is_lease client ≡ false → protocol_of client ≡ Smb → ⊥
plain_apart (NlmRange caller svid oh) plain is = nlm_apart is
plain_apart (NlmShare caller oh) plain is = nlm_apart is
plain_apart (NlmParty caller) plain is = nlm_apart is
plain_apart (NfsRange client owner) plain is = nfs_apart is
plain_apart (NfsShare client owner) plain is = nfs_apart is
plain_apart (NfsParty client) plain is = nfs_apart is
plain_apart (SmbLease guid key) plain is = true≢false plain

-- so is the party that it names
pub named_apart : (names : List Name) (client : Name) (party : Party) → is_lease client ≡ false → party_named names client ≡ Some party → party_protocol party ≡ Smb → ⊥
named_apart names client party plain at is = by (number_of client names) at
  where
    by : (o : Option ℕ) → option_map (λ (number : ℕ). parties.Name (protocol_of client) number) o ≡ Some party → ⊥
    by None none = none_some none
    by (Some number) some = plain_apart client plain (ap (λ (p : Party). party_protocol p) (same_Some some) ∙ is)

of_spares : (s : CoreState) (o : Option Name) (d : Deed) → ((client : Name) → o ≡ Some client → is_lease client ≡ false) → IsOfSome s o d → SparesSmb s d
of_spares s None d plain own = absurd own
of_spares s (Some client) (Cancels id) plain own = λ w c here same first is. named_apart s.names client c.party (plain client refl) (own w c here same first) is
of_spares s (Some client) (Ends party) plain own = λ is. named_apart s.names client party (plain client refl) own is
of_spares s (Some client) (Closes number party) plain own = absurd own
of_spares s (Some client) (Serves left) plain own = absurd own
of_spares s (Some client) d plain own = tt

pub nlm_spare : (n : ℕ) (exports : Exports) (f : FrontState) (s : CoreState) (r : RequestItem) → IsGood s → AllAt SparesSmb n s (nlm_deeds n exports f s r)
nlm_spare n exports f s r good =
    at_weaker (λ t d. IsOfSome t (nlm_client r) d) SparesSmb n s (nlm_deeds n exports f s r) (λ t d own. of_spares t (nlm_client r) d (λ client is. call_plain (call_in r) client is) own) (nlm.step_own n exports f s r good)

by_spares : (s : CoreState) (d : Deed) → IsBy s (λ _. Unit {0}) d → SparesSmb s d
by_spares s (Cancels id) own = absurd own
by_spares s (Ends party) own = λ is. named_apart s.names (NfsParty own.0) party refl own.2 is
by_spares s (Closes number party) own = absurd own
by_spares s (Serves left) own = absurd own
by_spares s d own = tt

pub theirs_spare : (n : ℕ) (s : CoreState) (ds : List Deed) → AreBy n s (λ _. Unit {0}) ds → AllAt SparesSmb n s ds
theirs_spare n s ds own = at_weaker (λ t d. IsBy t (λ _. Unit {0}) d) SparesSmb n s ds by_spares own

pub refusals_spare : (n : ℕ) (s : CoreState) (hosts : List (List ℕ)) (o : Option Grant) → AllAt SparesSmb n s (refusal_deeds hosts o)
refusals_spare n s hosts None = tt
refusals_spare n s hosts (Some grant) = (tt, tt)

-- ---- of NFSv4, and of the end of a call

by_named : (s : CoreState) (d : Deed) → IsBy s (λ _. Unit {0}) d → IsFitDeed s d → is_open_ask d ≡ false
by_named s (Asks left a) own fit = asked_named a.owner a.party (NfsParty own.0) refl own.2 fit.party
by_named s d own fit = refl

pub theirs_named : (n : ℕ) (s : CoreState) (ds : List Deed) → AreBy n s (λ _. Unit {0}) ds → AreFit n s ds → Others ds
theirs_named n s [] own fit = tt
theirs_named n s (d ∷ ds) own fit = (by_named s d own.0 fit.0, theirs_named n (done n s d) ds own.1 fit.1)

pub refusal_named : (hosts : List (List ℕ)) (o : Option Grant) → Others (refusal_deeds hosts o)
refusal_named hosts None = tt
refusal_named hosts (Some grant) = (refl, tt)
