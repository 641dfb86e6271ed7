-- The calls that recall delegations (RFC 7530 10.4.4, 18.2).
use Rattle.std.specs.Prelude.{◌≡◌, ◌<◌, ℕ, true, nat_lt, if◌then◌else◌, List, [], ◌∷◌, Option, Some, None}
use Rattle.std.specs.List.{find}
use Rattle.xl_base.specs.declared.event.Dest.TheVariants.{Back}
use Rattle.xl_base.specs.declared.event.Out.{Out}
use Rattle.xl_nfs.specs.Callbacks.{recall_record}
use Rattle.xl_nfs_state.specs.State.{NfsLists, delegated_on, is_client_named}
use Rattle.xl_nfs_state.specs.declared.client.ClientRow.{ClientRow}
use Rattle.xl_nfs_state.specs.declared.stateid.StateidRow.{StateidRow}
use Rattle.xl_core.specs.BreakAnswers.{client_of}
use Rattle.xl_matrix.specs.declared.claim.CacheKind.{CacheKind}
use Rattle.xl_matrix.specs.declared.claim.Claim.{Claim}
use Rattle.xl_core.specs.State.{CoreState}
use Rattle.xl_core.specs.declared.ask.Effect.{Effect}
use Rattle.xl_core.specs.declared.ask.Effect.TheVariants.{Begun}
use Rattle.xl_nfs_opens.specs.Renewing.{stateid_of}
use Rattle.xl_front_nfs.specs.State.{FrontNfs}

-- the confirmed client of this id string
abbrev pub client_by : NfsLists → Option (List ℕ) → Option ClientRow
client_by l None = None
client_by l (Some id) = find (is_client_named id true) l.clients

-- the call of this number asks the client, if it is called back now, for this delegation of the file (NFS-17)
abbrev pub recall_out : CoreState → ℕ → ℕ → ClientRow → StateidRow → Out
recall_out s number file c r = record {
  dest = Back number;
  to = c.details.callback.address;
  bytes = recall_record number c.details.callback.program c.details.callback.ident (stateid_of s r.number r.standing.seqid) file;
}

-- a delegation that came after the break is another one: what was recalled was returned already (NFS-17)
abbrev pub recalled_as : CoreState → ℕ → ℕ → ClientRow → Option StateidRow → List Out
recalled_as s number file c None = []
recalled_as s number file c (Some r) = if nat_lt r.number number then recall_out s number file c r ∷ [] else []

abbrev pub recalled_from : CoreState → NfsLists → ℕ → ℕ → Option ClientRow → List Out
recalled_from s l number file None = []
recalled_from s l number file (Some c) = recalled_as s number file c (find (delegated_on c.number file) l.stateids)

-- What is sent for this effect of the core: the break of a delegation, which has a call's number, asks its client for
-- it; nothing else is sent (NFS-17).
unfoldable pub recalls : FrontNfs → CoreState → Effect → List Out
recalls f s (Begun cache to (Some number)) = recalled_from s f.state number cache.file (client_by f.state (client_of s.names cache.party))
recalls f s _ = []

-- This is the call of this number that recalls a delegation with this cache: it goes to the callback of the client that the
-- cache is of, as it is confirmed now, and asks for the delegation that this client has on the file, by its own stateid.
pub record IsRecall (f : FrontNfs) (s : CoreState) (cache : Claim) (number : ℕ) (out : Out) : Type 0 where
  pub id : List ℕ
  pub client : ClientRow
  pub row : StateidRow
  pub named : client_of s.names cache.party ≡ Some id
  pub confirmed : find (is_client_named id true) f.state.clients ≡ Some client
  pub delegated : find (delegated_on client.number cache.file) f.state.stateids ≡ Some row
  pub before : row.number < number
  pub sent : out ≡ recall_out s number cache.file client row

-- The break that this call's number is of is sent by one call: to the client's callback, as it is confirmed now, for
-- the client's delegation on the file.
pub record IsRecalledOnce (f : FrontNfs) (s : CoreState) (cache : Claim) (to : Option CacheKind) (number : ℕ) (id : List ℕ) : Type 0 where
  pub client : ClientRow
  pub row : StateidRow
  pub confirmed : find (is_client_named id true) f.state.clients ≡ Some client
  pub delegated : find (delegated_on client.number cache.file) f.state.stateids ≡ Some row
  pub sent : recalls f s (Begun cache to (Some number)) ≡ recall_out s number cache.file client row ∷ []
