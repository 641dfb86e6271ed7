-- Which owners go, and by what: by a RELEASE_LOCKOWNER, by the next OPEN of one that was never confirmed, or with their
-- client, which starts anew or whose lease ends (RFC 7530 9.1.8, 9.5, 16.16, 16.34.5, 16.37).
use Rattle.std.specs.Bool.{◌==◌}
use Rattle.std.specs.List.{find}
use Rattle.std.specs.Prelude.{ℕ, Bool, true, false, not, ◌&&◌, ◌||◌, List, Option, Some, None, option_map}
use Rattle.xl_nfs.specs.Ops.{OpItem, Open, ReleaseLockOwner, SetClientIdConfirm}
use Rattle.xl_nfs_state.specs.State.{NfsLists, is_client, is_client_named, is_owner, is_owner_named}
use Rattle.xl_nfs_state.specs.declared.client.ClientRow.{ClientRow}
use Rattle.xl_nfs_state.specs.declared.owner.OwnerKind.TheVariants as kinds
use Rattle.xl_nfs_state.specs.declared.owner.OwnerName.{OwnerName}
use Rattle.xl_nfs_state.specs.declared.owner.OwnerRow.{OwnerRow}
use Rattle.xl_core.specs.Ids.{number_in}
use Rattle.xl_core.specs.State.{CoreState}
use Rattle.xl_core.specs.declared.ask.Effect.{Effect}
use Rattle.xl_core.specs.declared.ask.Effect.TheVariants.{Expired}
use Rattle.xl_nfs_opens.specs.Opens.{client_in}
use Rattle.xl_front_nfs.specs.Clients.{confirmed_by}

-- the name under which the owner of this number is known, if it is there
abbrev pub name_numbered : ℕ → List OwnerRow → Option OwnerName
name_numbered number owners = option_map (λ (o : OwnerRow). o.name) (find (is_owner number) owners)

-- it is the client's lock owner of these bytes
abbrev pub is_released : List ℕ → OwnerRow → Option ClientRow → Bool
is_released owner o None = false
is_released owner o (Some c) = is_owner_named c.number kinds.Lock owner o

-- it is the client's owner of opens of these bytes, and was never confirmed
abbrev pub is_opened_anew : List ℕ → OwnerRow → Option ClientRow → Bool
is_opened_anew owner o None = false
is_opened_anew owner o (Some c) = is_owner_named c.number kinds.Open owner o && not o.seqids.confirmed

-- the client is the one that had another number than this until now, or what stands under this one
abbrev pub is_other_start : ℕ → ℕ → Option ClientRow → Bool
is_other_start client number None = number == client
is_other_start client number (Some held) = not (held.number == number) && ((held.number == client) || (number == client))

-- the owner's client is confirmed under this number, which it hadn't until now
abbrev pub is_restarted_as : NfsLists → ℕ → OwnerRow → Option ClientRow → Bool
is_restarted_as l number o None = false
is_restarted_as l number o (Some r) = is_other_start o.name.client number (find (is_client_named r.id true) l.clients)

abbrev pub is_restarted : NfsLists → List ℕ → OwnerRow → Option ℕ → Bool
is_restarted l verifier o None = false
is_restarted l verifier o (Some number) = is_restarted_as l number o (confirmed_by verifier (find (is_client number false) l.clients))

-- the owner may go by this operation
abbrev pub may_go : CoreState → NfsLists → OpItem → OwnerRow → Bool
may_go s l (Open a) o = is_opened_anew a.owner.owner o (client_in s l a.owner.clientid)
may_go s l (ReleaseLockOwner a) o = is_released a.owner o (client_in s l a.clientid)
may_go s l (SetClientIdConfirm a) o = is_restarted l a.verifier o (number_in s a.clientid)
may_go s l item o = false

-- the owner's client is this one
abbrev pub is_of : OwnerRow → Option ClientRow → Bool
is_of o None = false
is_of o (Some r) = r.number == o.name.client

-- the owner's client expired, as this effect tells
abbrev pub is_expired : NfsLists → Effect → OwnerRow → Bool
is_expired l (Expired id) o = is_of o (find (is_client_named id true) l.clients)
is_expired l effect o = false
