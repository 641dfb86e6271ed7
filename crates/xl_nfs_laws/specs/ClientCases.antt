-- What RENEW, SETCLIENTID and SETCLIENTID_CONFIRM come to (RFC 7530 16.28, 16.33.5, 16.34.5). A client has a confirmed
-- record, an unconfirmed one, or both; each has an id string, a clientid, a verifier of its start, and a verifier that
-- confirms it.
use Rattle.std.specs.Prelude.{◌≡◌, ℕ, true, false, ◌⊎◌, List, Some, None}
use Rattle.std.specs.List.{find}
use Rattle.xl_base.specs.Lists.{IsIn}
use Rattle.xl_names.specs.declared.name.Name.TheVariants.{NfsParty}
use Rattle.xl_nfs.specs.Clients.{SetClientIdArgsItem}
use Rattle.xl_nfs.specs.declared.clients.ClientConfirm.{ClientConfirm}
use Rattle.xl_nfs.specs.declared.status.NfsStatus.TheVariants as statuses
use Rattle.xl_nfs_state.specs.State.{NfsLists, is_client}
use Rattle.xl_nfs_state.specs.declared.client.ClientRow.{ClientRow}
use Rattle.xl_nfs_state.specs.declared.owner.OwnerRow.{OwnerRow}
use Rattle.xl_nfs_state.specs.declared.stateid.StateidRow.{StateidRow}
use Rattle.xl_matrix.specs.declared.claim.Claim.{Claim}
use Rattle.xl_core.specs.Askers.{party_named}
use Rattle.xl_core.specs.Ids.{id_of, number_in}
use Rattle.xl_core.specs.State.{CoreState}
use Rattle.xl_nfs_opens.specs.Plans.{Outcome}
use Rattle.xl_nfs_opens.specs.declared.told.Told.TheVariants.{Client, Ended}

-- ---- SETCLIENTID

-- The client is answered the clientid of this number, with a verifier to confirm it. By that number there is an
-- unconfirmed record then, of this id string, verifier of the start and callback, which that verifier confirms. Each
-- confirmed record stands as it did, and so do owners, stateids and kept results.
pub record IsSet (s : CoreState) (l : NfsLists) (a : SetClientIdArgsItem) (number : ℕ) (done : Outcome) : Type 0 where
  pub told : ClientConfirm
  pub row : ClientRow
  pub told_is : done.0 ≡ Client told
  pub clientid : told.clientid ≡ id_of s number
  pub stands : find (is_client number false) done.3.clients ≡ Some row
  pub id_is : row.id ≡ a.id
  pub verifier : row.details.verifier ≡ a.verifier
  pub confirm : row.details.confirm ≡ told.verifier
  pub callback : row.details.callback ≡ record { program = a.program; netid = a.netid; address = a.address; ident = a.callback_ident }
  pub confirmed : (other : ℕ) → find (is_client other true) done.3.clients ≡ find (is_client other true) l.clients
  pub owners : done.3.owners ≡ l.owners
  pub stateids : done.3.stateids ≡ l.stateids
  pub kept : done.3.kept ≡ l.kept

-- ---- SETCLIENTID_CONFIRM

-- the clientid names a record, unconfirmed or confirmed, which this verifier confirms
pub record CanConfirm (s : CoreState) (l : NfsLists) (a : ClientConfirm) : Type 0 where
  pub number : ℕ
  pub row : ClientRow
  pub named : number_in s a.clientid ≡ Some number
  pub found : (find (is_client number false) l.clients ≡ Some row) ⊎ (find (is_client number true) l.clients ≡ Some row)
  pub verifier : row.details.confirm ≡ a.verifier

-- the clientid names this unconfirmed record, which the verifier confirms
pub record IsUnconfirmed (s : CoreState) (l : NfsLists) (a : ClientConfirm) (number : ℕ) (r : ClientRow) : Type 0 where
  pub named : number_in s a.clientid ≡ Some number
  pub found : find (is_client number false) l.clients ≡ Some r
  pub verifier : r.details.confirm ≡ a.verifier

-- It is OK, and the client of this number is confirmed then as its unconfirmed record has it; that is no more.
pub record IsConfirmed (number : ℕ) (r : ClientRow) (done : Outcome) : Type 0 where
  pub told : done.0 ≡ Ended statuses.Ok
  pub row : ClientRow
  pub stands : find (is_client number true) done.3.clients ≡ Some row
  pub id_is : row.id ≡ r.id
  pub details : row.details ≡ r.details
  pub no_more : find (is_client number false) done.3.clients ≡ None

-- what the clients have is remembered as it was
pub record KeepsState (l : NfsLists) (done : Outcome) : Type 0 where
  pub owners : done.3.owners ≡ l.owners
  pub stateids : done.3.stateids ≡ l.stateids
  pub kept : done.3.kept ≡ l.kept

-- The client of this number and id string is no more: no confirmed record has its number, no owner and no stateid is its,
-- and the core holds nothing of it.
pub record IsGone (s : CoreState) (number : ℕ) (id : List ℕ) (done : Outcome) : Type 0 where
  pub clients : find (is_client number true) done.3.clients ≡ None
  pub owners : (o : OwnerRow) → IsIn o done.3.owners → o.name.client ≡ number → ⊥
  pub stateids : (r : StateidRow) → IsIn r done.3.stateids → r.client ≡ number → ⊥
  pub claims : (c : Claim) → IsIn c done.4.claims → party_named s.names (NfsParty id) ≡ Some c.party → ⊥
