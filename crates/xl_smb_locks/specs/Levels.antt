-- Oplocks and leases: what an open holds of one, what it is sent of it, and how a break is sent (MS-SMB2 2.2.13,
-- 2.2.13.2.8, 2.2.14, 2.2.23, 3.3.4.6, 3.3.4.7).
use Rattle.std.specs.Prelude.{ℕ, if◌then◌else◌, List, [], ◌∷◌, slice_get, Option, Some, None}
use Rattle.std.specs.List.{find}
use Rattle.std.specs.Option.{option_and_then}
use Rattle.xl_base.specs.declared.event.Out.{Out}
use Rattle.xl_base.specs.declared.name.Party.{Party}
use Rattle.xl_base.specs.declared.name.Party.TheVariants as parties
use Rattle.xl_cache.specs.Levels.{state_of, level_of}
use Rattle.xl_cache.specs.BreakPlans.{needs_answer_by}
use Rattle.xl_matrix.specs.declared.claim.CacheKind.{CacheKind}
use Rattle.xl_matrix.specs.declared.claim.Claim.{Claim}
use Rattle.xl_matrix.specs.declared.claim.What.{What}
use Rattle.xl_matrix.specs.declared.claim.What.TheVariants.{Cache}
use Rattle.xl_names.specs.declared.name.Name.{Name}
use Rattle.xl_names.specs.declared.name.Name.TheVariants.{SmbLease}
use Rattle.xl_programs.specs.Sent.{sent_to}
use Rattle.xl_smb.specs.Creates.{CreateReplyItem}
use Rattle.xl_smb.specs.Leases.{lease_context}
use Rattle.xl_smb.specs.Messages.{Told, spelling}
use Rattle.xl_smb.specs.declared.breaks.Notice.TheVariants as notice
use Rattle.xl_smb.specs.declared.file.FileId.{FileId}
use Rattle.xl_smb.specs.declared.file.FileStatus.{FileStatus}
use Rattle.xl_smb.specs.declared.lease.Lease.{Lease}
use Rattle.xl_smb_state.specs.State.{Lists, open_of, lowest_open}
use Rattle.xl_smb_state.specs.declared.row.Holder.{Holder}
use Rattle.xl_smb_state.specs.declared.row.Holder.TheVariants as holder
use Rattle.xl_smb_state.specs.declared.row.LeaseKey.{LeaseKey}
use Rattle.xl_smb_state.specs.declared.row.Open.{Open}
use Rattle.xl_core.specs.Askers.{known_party}
use Rattle.xl_core.specs.Ids.{id_of}
use Rattle.xl_core.specs.Places.{CacheOf, is_cache_on, held_at}
use Rattle.xl_core.specs.State.{CoreState}
use Rattle.xl_core.specs.declared.ask.Who.{Who}
use Rattle.xl_core.specs.declared.ask.Who.TheVariants as who
use Rattle.xl_smb_locks.specs.declared.levels.Caching.{Caching}
use Rattle.xl_smb_locks.specs.declared.levels.Caching.TheVariants.{Level, Leased}

-- ---- whose caches an open's are

-- the open of this number has caches of its own, or is under the lease of this key of its client (3.3.1.12)
abbrev pub party_by : List ℕ → ℕ → Option (List ℕ) → Who
party_by client number None = who.Open number
party_by client number (Some key) = who.Named (SmbLease client key)

abbrev pub party_for : ℕ → Open → Who
party_for number row = party_by row.client number row.lease

-- the same as a party, if these names are kept
abbrev pub lease_party : List Name → List ℕ → List ℕ → Party
lease_party names client key = known_party (who.Named (SmbLease client key)) names

abbrev pub party_of : List Name → ℕ → Open → Party
party_of names number row = known_party (party_for number row) names

-- ---- what an open holds

-- the cache that a party has on a file, if it has one
abbrev pub cache_of : ℕ → Party → List Claim → Option Claim
cache_of file party held = find (is_cache_on file party) held

-- the open's oplock on the file, if it has one
abbrev pub oplock_of : ℕ → ℕ → List Claim → Option Claim
oplock_of file number held = cache_of file (parties.Open number) held

abbrev pub kind_by : What → Option CacheKind
kind_by (Cache kind running) = Some kind
kind_by _ = None

abbrev pub kind_found : Option Claim → Option CacheKind
kind_found None = None
kind_found (Some c) = kind_by c.what

abbrev pub first_kind : List What → Option CacheKind
first_kind [] = None
first_kind (w ∷ ws) = kind_by w

-- the level of what it holds there
unfoldable pub level_held : CoreState → ℕ → ℕ → ℕ
level_held s file number = level_of (first_kind (held_at s (CacheOf file (parties.Open number))))

-- 2 while a break of the lease's cache runs (2.2.14.2.10)
abbrev pub flags_by : What → ℕ
flags_by (Cache kind (Some running)) = 2
flags_by _ = 0

abbrev pub first_flags : List What → ℕ
first_flags [] = 0
first_flags (w ∷ ws) = flags_by w

abbrev pub flags_found : Option Claim → ℕ
flags_found None = 0
flags_found (Some c) = flags_by c.what

-- the lease of this key, if this is its cache on the file
abbrev pub lease_found : List ℕ → Option Claim → Lease
lease_found key found = record { key = key; state = state_of (kind_found found); flags = flags_found found; duration = 0 }

-- the lease of this key, which holds this on the file
abbrev pub lease_holding : List ℕ → List What → Lease
lease_holding key held = record { key = key; state = state_of (first_kind held); flags = first_flags held; duration = 0 }

-- what the open of this number is sent of its cache: the level of its oplock, or the lease that it is under, as it is
-- then (SMB-18, SMB-19)
unfoldable pub cache_told : CoreState → ℕ → Open → Option (List ℕ) → Caching
cache_told s number row None = Level (level_held s row.file number)
cache_told s number row (Some key) = Leased (lease_holding key (held_at s (CacheOf row.file (party_of s.names number row))))

abbrev pub caching : CoreState → ℕ → Open → Caching
caching s number row = cache_told s number row row.lease

-- ---- a file that is open

abbrev pub file_id : ℕ → FileId
file_id id = record { persistent = id; volatile = id }

-- a file with these attributes, of which nothing else is said
abbrev pub file_of : ℕ → FileStatus
file_of attributes = record { created = 0; accessed = 0; written = 0; changed = 0; allocated = 0; end_of_file = 0; attributes = attributes }

-- a lease's level is 0xFF, and a context carries it (SMB-19)
abbrev pub level_told : Caching → ℕ
level_told (Level level) = level
level_told (Leased lease) = 0xFF

abbrev pub contexts_told : Caching → List ℕ
contexts_told (Level level) = []
contexts_told (Leased lease) = lease_context lease

-- a file that was there is open under this id, with this sent of its cache
abbrev pub opened : ℕ → Caching → CreateReplyItem
opened id told = record { oplock_level = level_told told; action = 1; status = file_of 0x80; file_id = file_id id; contexts = contexts_told told }

-- ---- a break that began is sent to who holds the open, that of a lease to who holds the lowest of its opens

-- the level that it leaves (SMB-20)
abbrev pub notice_of : ℕ → Option CacheKind → List ℕ
notice_of id to = spelling (Told (notice.Oplock (level_of to) (file_id id)))

-- what the lease of this key held, and what it may keep; 1 if the break takes effect only once it is answered (SMB-21)
abbrev pub lease_notice_of : List ℕ → What → Option CacheKind → List ℕ
lease_notice_of key held to = spelling (Told (notice.Lease (record { flags = if needs_answer_by held to then 1 else 0; key = key; current = state_of (kind_by held); new = state_of to })))

abbrev pub noticed_by : List ℕ → Holder → List Out
noticed_by told (holder.Tree place) = sent_to place.connection told
noticed_by told (holder.Nobody until) = []

abbrev pub noticed_to : List ℕ → Option Open → List Out
noticed_to told None = []
noticed_to told (Some row) = noticed_by told row.holder

-- the open that hears of breaks of the lease (SMB-21)
abbrev pub hearer_of : LeaseKey → Lists → Option Open
hearer_of key l = option_and_then (λ number. open_of number l) (lowest_open key l)

abbrev pub noticed_under : What → Option CacheKind → Lists → Option Name → List Out
noticed_under held to l (Some (SmbLease client key)) = noticed_to (lease_notice_of key held to) (hearer_of (record { client = client; key = key }) l)
noticed_under held to l _ = []

-- what is sent of a break that leaves this much of what the party holds
abbrev pub noticed : CoreState → Party → What → Option CacheKind → Lists → List Out
noticed s (parties.Open number) held to l = noticed_to (notice_of (id_of s number) to) (open_of number l)
noticed s (parties.Name protocol number) held to l = noticed_under held to l (slice_get s.names number)
