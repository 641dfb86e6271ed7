-- RELEASE_LOCKOWNER (RFC 7530 16.37).
use Rattle.std.specs.Prelude.{ℕ, Bool, false, if◌then◌else◌, List, [], Option, Some, None}
use Rattle.std.specs.List.{find}
use Rattle.xl_base.specs.declared.name.Owner.TheVariants as owners
use Rattle.xl_base.specs.declared.name.Protocol.TheVariants.{Nfs}
use Rattle.xl_names.specs.Names.{number_of}
use Rattle.xl_names.specs.declared.name.Name.TheVariants.{NfsRange}
use Rattle.xl_nfs.specs.Basics.{OwnerItem}
use Rattle.xl_nfs.specs.declared.status.NfsStatus.TheVariants as statuses
use Rattle.xl_nfs_state.specs.State.{NfsLists, is_owner_named, without_owner}
use Rattle.xl_nfs_state.specs.declared.client.ClientRow.{ClientRow}
use Rattle.xl_nfs_state.specs.declared.owner.OwnerKind.TheVariants.{Lock as Locks}
use Rattle.xl_nfs_state.specs.declared.owner.OwnerRow.{OwnerRow}
use Rattle.xl_table.specs.Relock.{holds_range}
use Rattle.xl_core.specs.State.{CoreState}
use Rattle.xl_core.specs.Ids.{number_in}
use Rattle.xl_nfs_opens.specs.Opens.{client_in}
use Rattle.xl_plan.specs.Plans.{Does}
use Rattle.xl_nfs_opens.specs.Plans.{Plan}
use Rattle.xl_nfs_opens.specs.Renewing.{renewing}
use Rattle.xl_nfs_opens.specs.declared.told.Told.TheVariants.{Ended}

abbrev pub holds_by : CoreState → Option ℕ → Bool
holds_by s None = false
holds_by s (Some number) = holds_range (owners.Name Nfs number) s.claims

-- the lock owner of this client holds a range, on any file (NFS-30)
unfoldable pub holds_any : CoreState → List ℕ → List ℕ → Bool
holds_any s id owner = holds_by s (number_of (NfsRange id owner) s.names)

abbrev pub without_found : NfsLists → Option OwnerRow → NfsLists
without_found l None = l
without_found l (Some r) = without_owner r.number l

-- the lists without the lock owner: its stateids, its seqid and its kept result go (NFS-30)
unfoldable pub released : ℕ → List ℕ → NfsLists → NfsLists
released client owner l = without_found l (find (is_owner_named client Locks owner) l.owners)

abbrev pub release_of : CoreState → NfsLists → Option ℕ → List ℕ → Option ClientRow → Plan
release_of s l current owner None = Does [] l (Ended statuses.StaleClientId, current)
release_of s l current owner (Some c) =
    if holds_any s c.id owner then Does [] l (Ended statuses.LocksHeld, current)
    else Does [] (released c.number owner l) (Ended statuses.Ok, current)

-- the client is renewed before
unfoldable pub release : CoreState → NfsLists → Option ℕ → OwnerItem → Plan
release s l current a = renewing l (number_in s a.clientid) (λ t. release_of t l current a.owner (client_in t l a.clientid))
