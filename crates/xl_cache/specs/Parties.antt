-- Which caches a party may have, by its protocol.
use Rattle.std.specs.Prelude.{Bool, true, false, not, ◌&&◌, Option, Some, None}
use Rattle.xl_base.specs.declared.name.Party.{Party}
use Rattle.xl_base.specs.declared.name.Party.TheVariants as party
use Rattle.xl_base.specs.declared.name.Protocol.TheVariants.{Nlm, Nfs, Smb}
use Rattle.xl_matrix.specs.declared.claim.Break.{Break}
use Rattle.xl_matrix.specs.declared.claim.CacheKind.{CacheKind}
use Rattle.xl_matrix.specs.declared.claim.CacheKind.TheVariants.{R, RH, RW, RWH, ReadDeleg, WriteDeleg}
use Rattle.xl_matrix.specs.declared.claim.What.TheVariants.{Cache}
use Rattle.xl_cache.specs.Targets.{is_delegation}
use Rattle.xl_cache.specs.BreakPlans.{is_less}

-- a lease may be of each kind except the delegations (MS-SMB2 2.2.13.2.8)
abbrev pub is_lease_kind : CacheKind → Bool
is_lease_kind kind = not (is_delegation kind)

-- an oplock is of level II, exclusive or batch; it has no RH (MS-SMB2 2.2.13)
abbrev pub is_oplock_kind : CacheKind → Bool
is_oplock_kind R = true
is_oplock_kind RH = false
is_oplock_kind RW = true
is_oplock_kind RWH = true
is_oplock_kind ReadDeleg = false
is_oplock_kind WriteDeleg = false

-- the kinds that a party's cache may have: none that of an NLM client, a delegation that of an NFSv4 client (RFC 7530
-- 10.4), a lease's kinds that of an SMB lease key, an oplock's that of an SMB open
unfoldable pub is_kind_of : Party → CacheKind → Bool
is_kind_of (party.Name Nlm number) kind = false
is_kind_of (party.Name Nfs number) kind = is_delegation kind
is_kind_of (party.Name Smb number) kind = is_lease_kind kind
is_kind_of (party.Open number) kind = is_oplock_kind kind

-- what is left of the party's cache is nothing, or of a kind that it may have
abbrev pub is_rest_of : Party → Option CacheKind → Bool
is_rest_of p None = true
is_rest_of p (Some kind) = is_kind_of p kind

-- a break that runs leaves less than the kind, and what the party may have
abbrev pub is_break_of : Party → CacheKind → Option Break → Bool
is_break_of p kind None = true
is_break_of p kind (Some running) = is_less (Cache kind (Some running)) running.target && is_rest_of p running.target

-- a cache of this kind, with this running break or none, that the party may have
unfoldable pub is_cache_of : Party → CacheKind → Option Break → Bool
is_cache_of p kind running = is_kind_of p kind && is_break_of p kind running
