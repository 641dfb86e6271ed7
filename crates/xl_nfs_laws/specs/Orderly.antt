-- What holds of owners and stateids at all times.
use Rattle.std.specs.Prelude.{◌≡◌, ℕ, Bool, true, false, not, ◌&&◌, ◌==◌, List, Option, Some, None}
use Rattle.std.specs.List.{AllByRecursion, find}
use Rattle.xl_base.specs.Lists.{Pairwise}
use Rattle.xl_matrix.specs.Rights.{rights_lie_within}
use Rattle.xl_nfs.specs.Opens.{OpenArgsItem}
use Rattle.xl_nfs.specs.declared.basics.Stateid.{Stateid}
use Rattle.xl_nfs_state.specs.Keys.{place_of, same_place}
use Rattle.xl_nfs_state.specs.State.{NfsLists, IsRising, is_owner, is_stateid}
use Rattle.xl_nfs_state.specs.declared.owner.OwnerKind.{OwnerKind}
use Rattle.xl_nfs_state.specs.declared.owner.OwnerKind.TheVariants as kinds
use Rattle.xl_nfs_state.specs.declared.owner.OwnerRow.{OwnerRow}
use Rattle.xl_nfs_state.specs.declared.stateid.Holder.{Holder}
use Rattle.xl_nfs_state.specs.declared.stateid.Holder.TheVariants as holders
use Rattle.xl_nfs_state.specs.declared.stateid.StateidRow.{StateidRow}
use Rattle.xl_core.specs.State.{CoreState}
use Rattle.xl_nfs_opens.specs.Opens.{cache_held, delegation_in, rights_of}
use Rattle.xl_nfs_opens.specs.Plans.{Outcome}
use Rattle.xl_nfs_opens.specs.Renewing.{number_of as number_in_other, stateid_of}
use Rattle.xl_nfs_opens.specs.Seqids.{is_opener}
use Rattle.xl_nfs_opens.specs.declared.opener.Opener.{Opener}

-- the open of this number is the one that was closed
abbrev pub closes : Option ℕ → ℕ → Bool
closes None number = false
closes (Some closed) number = closed == number

-- The owner is there, is the stateid's client's, and of this kind; and an open is closed exactly if its owner's last
-- request closed it.
abbrev pub IsOwnedBy : StateidRow → OwnerKind → Option OwnerRow → Type 0
IsOwnedBy r kind None = ⊥
IsOwnedBy r kind (Some o) = (o.name.client ≡ r.client) × (o.name.kind ≡ kind) × (r.standing.closed ≡ closes o.seqids.closed r.number)

abbrev pub IsHeldBy : List OwnerRow → StateidRow → Holder → Type 0
IsHeldBy owners r (holders.Open owner) = IsOwnedBy r kinds.Open (find (is_owner owner) owners)
IsHeldBy owners r (holders.Lock owner under opener) = IsOwnedBy r kinds.Lock (find (is_owner owner) owners)
IsHeldBy owners r (holders.Delegation write) = Unit {0}

-- a later one has another number, and stands in another place
abbrev pub are_apart : StateidRow → StateidRow → Bool
are_apart r later = not (later.number == r.number) && not (same_place (place_of later) (place_of r))

-- no two owners have one number, no two stateids one number or one place, and each stateid is its owner's
pub record IsOrderly (l : NfsLists) : Type 0 where
  pub rising : IsRising l.owners
  pub apart : Pairwise are_apart l.stateids
  pub held : AllByRecursion (λ r. IsHeldBy l.owners r r.holder) l.stateids

-- what was answered names one open from then on: of this owner, on the file that is the current one, with the access
-- and the deny that were asked, and not closed
pub record IsKnown (o : Opener) (a : OpenArgsItem) (stateid : Stateid) (done : Outcome) : Type 0 where
  pub row : StateidRow
  pub owner : OwnerRow
  pub found : find (is_stateid row.number) done.3.stateids ≡ Some row
  pub named : stateid ≡ stateid_of done.4 row.number row.standing.seqid
  pub opener : find (is_opener o) done.3.owners ≡ Some owner
  pub holder : row.holder ≡ holders.Open owner.number
  pub file : done.1 ≡ Some row.file
  pub live : row.standing.closed ≡ false
  pub access : rights_lie_within (rights_of a.access) (rights_of row.standing.access) ≡ true
  pub deny : rights_lie_within (rights_of a.deny) (rights_of row.standing.deny) ≡ true

-- what was answered names the client's delegation on the file that is the current one, for writing or else for reading,
-- and the client has a cache there
pub record IsDelegated (o : Opener) (given : Stateid) (write : Bool) (done : Outcome) : Type 0 where
  pub row : StateidRow
  pub found : find (is_stateid row.number) done.3.stateids ≡ Some row
  pub named : given ≡ stateid_of done.4 row.number row.standing.seqid
  pub client : row.client ≡ o.client
  pub file : done.1 ≡ Some row.file
  pub holder : row.holder ≡ holders.Delegation write
  pub held : delegation_in (cache_held done.4 o.id row.file) ≡ Some write

-- the stateid of this start names this delegation of the current file, with its own seqid
pub record IsReturned (s : CoreState) (l : NfsLists) (at : ℕ) (stateid : Stateid) (r : StateidRow) : Type 0 where
  pub number : ℕ
  pub write : Bool
  pub named : number_in_other s stateid.other ≡ Some number
  pub found : find (is_stateid number) l.stateids ≡ Some r
  pub file : r.file ≡ at
  pub live : r.standing.closed ≡ false
  pub holder : r.holder ≡ holders.Delegation write
  pub seqid : stateid.seqid ≡ r.standing.seqid
