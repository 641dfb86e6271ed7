-- What the answer to a break leaves of a cache, and whose answers are due.
use Rattle.std.specs.Prelude.{ℕ, Bool, false, List, [], ◌∷◌, Option, Some, None}
use Rattle.std.specs.List.{filter, slice_get}
use Rattle.xl_base.specs.Lists.{sorted}
use Rattle.xl_base.specs.declared.name.Party.{Party}
use Rattle.xl_base.specs.declared.name.Party.TheVariants as parties
use Rattle.xl_base.specs.declared.name.Protocol.TheVariants.{Nfs}
use Rattle.xl_cache.specs.Targets.{rest_lies_within}
use Rattle.xl_matrix.specs.declared.claim.CacheKind.{CacheKind}
use Rattle.xl_matrix.specs.declared.claim.Claim.{Claim}
use Rattle.xl_matrix.specs.declared.claim.What.{What}
use Rattle.xl_matrix.specs.declared.claim.What.TheVariants.{Cache}
use Rattle.xl_names.specs.Texts.{party_text}
use Rattle.xl_names.specs.declared.name.Name.{Name}
use Rattle.xl_names.specs.declared.name.Name.TheVariants.{NfsParty}
use Rattle.xl_table.specs.Flat.{removed, changed, is_due}
use Rattle.xl_core.specs.State.{CoreState}
use Rattle.xl_core.specs.Leases.{comes_before}
use Rattle.xl_core.specs.declared.ask.Effect.{Effect}
use Rattle.xl_core.specs.declared.due.DueRow.{DueRow}

-- ---- an answer

-- a break of it runs, which leaves this much or more (CACHE-4)
abbrev pub may_be_left : What → Option CacheKind → Bool
may_be_left (Cache kind (Some running)) to = rest_lies_within to running.target
may_be_left _ to = false

-- the claims with a cache of this kind, whose break is over; or without it
abbrev pub with_rest : Claim → Option CacheKind → List Claim → List Claim
with_rest cache None held = removed cache held
with_rest cache (Some kind) held = changed cache (Cache kind None) held

-- The party answered the break: this much is left of its cache (MS-SMB2 3.3.5.22). It has no effects (CACHE-4).
unfoldable pub ack : CoreState → Claim → Option CacheKind → List Effect × CoreState
ack s cache to = ([], record s { claims = with_rest cache to s.claims })

-- ---- a deadline

-- the moment at which the answer is due
abbrev pub deadline_of : What → ℕ
deadline_of (Cache kind (Some running)) = running.deadline.0
deadline_of _ = 0

-- a cache with the text of its party, by which it stands in order
abbrev pub due_row : List Name → Claim → DueRow
due_row names c = record { text = party_text names c.party; cache = c }

-- by the deadline, then the file, then the text of the party (CACHE-5)
abbrev pub due_key : DueRow → List ℕ
due_key row = deadline_of row.cache.what ∷ row.cache.file ∷ row.text

abbrev pub row_due_before : DueRow → DueRow → Bool
row_due_before a b = comes_before (due_key a) (due_key b)

-- the first is due before the second
abbrev pub due_before : List Name → Claim → Claim → Bool
due_before names a b = row_due_before (due_row names a) (due_row names b)

-- the caches whose deadline has come, in the order in which they are due (TABLE-21)
unfoldable pub due : CoreState → List Claim
due s = sorted (due_before s.names) (filter (is_due s.clock) s.claims)

-- ---- whose delegation it is

abbrev pub id_of : Option Name → Option (List ℕ)
id_of (Some (NfsParty id)) = Some id
id_of _ = None

-- the id string of the party, if it is an NFSv4 client
abbrev pub client_of : List Name → Party → Option (List ℕ)
client_of names (parties.Name Nfs number) = id_of (slice_get names number)
client_of names _ = None
