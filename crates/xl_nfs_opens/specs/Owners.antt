-- Whose deeds they are.
use Rattle.std.specs.Prelude.{◌≡◌, ℕ, Bool, true, false, ◌⊎◌, List, Some, option_map}
use Rattle.std.specs.List.{find}
use Rattle.std.specs.Option.{option_and_then}
use Rattle.xl_names.specs.declared.name.Name.TheVariants.{NfsParty}
use Rattle.xl_nfs.specs.Locks.{LockerItem, New, Known}
use Rattle.xl_nfs.specs.Opens.{OpenClaimItem, DelegateCurrent}
use Rattle.xl_nfs.specs.Ops.{OpItem, Close, DelegReturn, Lock, LockT, LockU, Open, OpenConfirm, OpenDowngrade, Renew, SetClientIdConfirm, ReleaseLockOwner}
use Rattle.xl_nfs.specs.declared.basics.Stateid.{Stateid}
use Rattle.xl_nfs_state.specs.State.{NfsLists, is_client}
use Rattle.xl_core.specs.Clients.{IsOf}
use Rattle.xl_core.specs.Deeds.{Deed, Asks, GivesBack, Weakens, Draws, Ends, Renews}
use Rattle.xl_core.specs.State.{CoreState}
use Rattle.xl_core.specs.Ids.{number_in}
use Rattle.xl_plan.specs.Plans.{AllAt}
use Rattle.xl_nfs_opens.specs.Renewing.{state_client}

-- ---- the client that an operation names

-- the id strings of the records that a clientid names
abbrev pub is_named : CoreState → NfsLists → ℕ → Bool → List ℕ → Type 0
is_named s l clientid confirmed id = option_map (λ r. r.id) (option_and_then (λ number. find (is_client number confirmed) l.clients) (number_in s clientid)) ≡ Some id

-- the id string of the client that a live stateid names
abbrev pub is_holder : CoreState → NfsLists → Stateid → List ℕ → Type 0
is_holder s l stateid id = option_map (λ r. r.id) (option_and_then (λ number. find (is_client number true) l.clients) (state_client s l stateid)) ≡ Some id

-- the same of the delegation by which a file is claimed
abbrev pub is_claimant : CoreState → NfsLists → OpenClaimItem → List ℕ → Type 0
is_claimant s l (DelegateCurrent a) id = is_holder s l a.stateid id
is_claimant s l _ id = ⊥

-- the same of a lock owner, and of the open that it names
abbrev pub is_locker : CoreState → NfsLists → LockerItem → List ℕ → Type 0
is_locker s l (New x) id = is_holder s l x.open_stateid id ⊎ is_named s l x.owner.clientid true id
is_locker s l (Known x) id = is_holder s l x.stateid id

-- the operation names the client of this id string: by the clientid of its record, or by a live stateid
abbrev pub Names : CoreState → NfsLists → OpItem → List ℕ → Type 0
Names s l (Renew clientid) id = is_named s l clientid true id
Names s l (SetClientIdConfirm a) id = is_named s l a.clientid true id ⊎ is_named s l a.clientid false id
Names s l (Open a) id = is_named s l a.owner.clientid true id ⊎ is_claimant s l a.claim id
Names s l (OpenConfirm a) id = is_holder s l a.stateid id
Names s l (OpenDowngrade a) id = is_holder s l a.stateid id
Names s l (Close a) id = is_holder s l a.stateid id
Names s l (DelegReturn stateid) id = is_holder s l stateid id
Names s l (Lock a) id = is_locker s l a.locker id
Names s l (LockT a) id = is_named s l a.owner.clientid true id
Names s l (LockU a) id = is_holder s l a.stateid id
Names s l (ReleaseLockOwner a) id = is_named s l a.clientid true id
Names s l _ id = ⊥

-- ---- deeds

-- it draws a number; or it is an ask by, gives back or weakens a claim of, ends as a party, or renews, a client for which
-- this holds
abbrev pub IsBy : CoreState → (List ℕ → Type 0) → Deed → Type 0
IsBy s Client Draws = Unit {0}
IsBy s Client (Asks left a) = (id : List ℕ) × Client id × IsOf s (NfsParty id) (Asks left a)
IsBy s Client (GivesBack claim) = (id : List ℕ) × Client id × IsOf s (NfsParty id) (GivesBack claim)
IsBy s Client (Weakens share access deny) = (id : List ℕ) × Client id × IsOf s (NfsParty id) (Weakens share access deny)
IsBy s Client (Ends party) = (id : List ℕ) × Client id × IsOf s (NfsParty id) (Ends party)
IsBy s Client (Renews id) = Client id
IsBy s Client _ = ⊥

abbrev pub AreBy : ℕ → CoreState → (List ℕ → Type 0) → List Deed → Type 0
AreBy n s Client ds = AllAt (λ t d. IsBy t Client d) n s ds
