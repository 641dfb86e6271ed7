-- Whose the deeds are that an event does itself.
use Rattle.std.specs.Prelude.{◌≡◌, ℕ, List, [], Option, Some, None}
use Rattle.std.specs.List.{AllByRecursion}
use Rattle.xl_base.specs.declared.journal.Exports.{Exports}
use Rattle.xl_matrix.specs.declared.claim.Extent.TheVariants.{Bytes}
use Rattle.xl_names.specs.declared.name.Name.{Name}
use Rattle.xl_names.specs.declared.name.Name.TheVariants.{NlmRange, NlmParty}
use Rattle.xl_programs.specs.Programs.{RequestItem}
use Rattle.xl_plan.specs.Plans.{AllAt}
use Rattle.xl_core.specs.Clients.{IsOfSome}
use Rattle.xl_core.specs.State.{CoreState}
use Rattle.xl_core.specs.Deeds.{Deed, Asks}
use Rattle.xl_core.specs.declared.ask.Act.TheVariants.{Unlock}
use Rattle.xl_core.specs.declared.ask.Who.TheVariants.{Named}
use Rattle.xl_front_nlm.specs.declared.grant.Grant.{Grant}
use Rattle.xl_nfs_laws.specs.RequestOwners.{AreTheirs}
use Rattle.xl_front_smb.specs.Owners.{AreOwn}
use Rattle.xl_house.specs.State.{smb_opens}
use Rattle.xl_house.specs.declared.layers.Fronts.{Fronts}

-- it gives up what a call sent: these bytes of the file, by the owner that the grant names
abbrev pub IsRefusal : Grant → Deed → Type 0
IsRefusal g (Asks left a) = (a.party ≡ Named (NlmParty g.caller)) × (a.owner ≡ Named (NlmRange g.caller g.svid g.oh)) × (a.file ≡ g.file) × (a.act ≡ Unlock (Bytes g.first g.last))
IsRefusal g deed = ⊥

-- each does, and if there is no grant there are none
abbrev pub AreRefusals : Option Grant → List Deed → Type 0
AreRefusals None ds = ds ≡ []
AreRefusals (Some g) ds = AllByRecursion (IsRefusal g) ds

-- Of the client that a request of NLM names; of the clients that the operations of a COMPOUND name; of opens under a
-- connection of SMB; of the grant that a call sent, if it awaits an answer and is refused; of the clock; nobody's, if
-- nothing is done.
pub data Whose : Type 0 where
  OfClient : Option Name → Whose
  OfClients : RequestItem → Whose
  OfConnection : ℕ → Whose
  OfGrant : Option Grant → Whose
  OfClock : Whose
  OfNobody : Whose

-- these are, with these fronts and this core; those of a COMPOUND renew each confirmed client of NFSv4 that it names besides
abbrev pub AreOf : ℕ → Exports → Fronts → CoreState → Whose → List Deed → Type 0
AreOf n exports f s (OfClient client) ds = AllAt (λ t d. IsOfSome t client d) n s ds
AreOf n exports f s (OfClients r) ds = AreTheirs n exports (smb_opens f) f.nfs s r
AreOf n exports f s (OfConnection number) ds = AreOwn f.smb s number ds
AreOf n exports f s (OfGrant grant) ds = AreRefusals grant ds
AreOf n exports f s OfClock ds = Unit {0}
AreOf n exports f s OfNobody ds = ds ≡ []
