-- Who is told of what the core does: for each effect just who has to hear of it is sent one message, and nobody else is sent any
-- (MS-SMB2 3.3.4.2, 3.3.4.6, 3.3.4.7; RFC 7530 10.4.4; XNFS C702, NLM_GRANTED).
use Rattle.std.specs.Prelude.{◌≡◌, ◌+◌, ◌≤◌, ℕ, List, [], ◌∷◌, slice_get, Option, Some, None}
use Rattle.std.specs.Option.{option_and_then}
use Rattle.xl_base.specs.declared.event.Dest.TheVariants.{Conn, Back}
use Rattle.xl_base.specs.declared.event.Kind.TheVariants.{Smb as SmbStream}
use Rattle.xl_base.specs.declared.event.Out.{Out}
use Rattle.xl_base.specs.declared.journal.Exports.{Exports}
use Rattle.xl_base.specs.declared.name.Owner.TheVariants as owners
use Rattle.xl_base.specs.declared.name.Party.{Party}
use Rattle.xl_base.specs.declared.name.Party.TheVariants as parties
use Rattle.xl_base.specs.declared.name.Protocol.{Protocol}
use Rattle.xl_base.specs.declared.name.Protocol.TheVariants.{Nlm, Nfs, Smb}
use Rattle.xl_frame.specs.Frames.{wrapped}
use Rattle.xl_matrix.specs.declared.claim.CacheKind.{CacheKind}
use Rattle.xl_matrix.specs.declared.claim.Claim.{Claim}
use Rattle.xl_matrix.specs.declared.claim.Extent.TheVariants.{Bytes}
use Rattle.xl_matrix.specs.declared.claim.What.TheVariants.{Range}
use Rattle.xl_names.specs.declared.name.Name.{Name}
use Rattle.xl_names.specs.declared.name.Name.TheVariants.{NlmRange, SmbLease}
use Rattle.xl_smb_state.specs.State.{Lists, open_of, lowest_open, waiting_of}
use Rattle.xl_smb_state.specs.declared.row.Holder.{Holder}
use Rattle.xl_smb_state.specs.declared.row.Holder.TheVariants as holder
use Rattle.xl_smb_state.specs.declared.row.Open.{Open}
use Rattle.xl_smb_state.specs.declared.row.Waiting.{Waiting}
use Rattle.xl_core.specs.Ids.{id_of}
use Rattle.xl_core.specs.State.{CoreState}
use Rattle.xl_core.specs.Told.{told_to}
use Rattle.xl_core.specs.declared.ask.Answer.TheVariants.{Granted}
use Rattle.xl_core.specs.declared.ask.Effect.{Effect}
use Rattle.xl_core.specs.declared.ask.Effect.TheVariants.{Begun, Served}
use Rattle.xl_front_nlm.specs.Grants.{address_of, call_of}
use Rattle.xl_front_nlm.specs.declared.grant.Grant.{Grant}
use Rattle.xl_front_nfs.specs.Recalls.{IsRecall}
use Rattle.xl_front_nfs.specs.State.{FrontNfs}
use Rattle.xl_smb_locks.specs.Levels.{notice_of, lease_notice_of}
use Rattle.xl_smb_laws.specs.ReplyHeads.{IsFinalOf}
use Rattle.xl_house.specs.declared.layers.Fronts.{Fronts}

-- ---- one message of SMB

-- one message goes to this connection, in its frame, and its bytes are such
abbrev pub IsOneTo : ℕ → (List ℕ → Type 0) → List Out → Type 0
IsOneTo conn Says outs = (bytes : List ℕ) × Says bytes × (outs ≡ record { dest = Conn conn; to = []; bytes = wrapped SmbStream bytes } ∷ [])

-- so it is if there is such a connection; if there is none nothing is sent
abbrev pub IsOneIf : Option ℕ → (List ℕ → Type 0) → List Out → Type 0
IsOneIf None Says outs = outs ≡ []
IsOneIf (Some conn) Says outs = IsOneTo conn Says outs

-- ---- the break of an oplock or a lease

-- the connection that an open is held on, if it is
abbrev pub connection_by : Holder → Option ℕ
connection_by (holder.Tree place) = Some place.connection
connection_by (holder.Nobody until) = None

abbrev pub connection_of : Option Open → Option ℕ
connection_of None = None
connection_of (Some row) = connection_by row.holder

abbrev pub connection_under : Lists → Option Name → Option ℕ
connection_under l (Some (SmbLease client key)) = connection_of (option_and_then (λ number. open_of number l) (lowest_open (record { client = client; key = key }) l))
connection_under l _ = None

-- the connection by which who has a cache is reached: that of the open whose oplock it is, or of the lowest held open of the lease
abbrev pub reached_by : List Name → Lists → Party → Option ℕ
reached_by names l (parties.Open number) = connection_of (open_of number l)
reached_by names l (parties.Name protocol number) = connection_under l (slice_get names number)

-- The bytes are the notice of the break: of an open's oplock, with the level that is to be left; of a lease, with what it had and
-- what it may keep.
pub data IsNotice (s : CoreState) (cache : Claim) (to : Option CacheKind) (bytes : List ℕ) : Type 0 where
  Oplock : (number : ℕ) → cache.party ≡ parties.Open number → bytes ≡ notice_of (id_of s number) to → IsNotice s cache to bytes
  Lease : (protocol : Protocol) (number : ℕ) (client key : List ℕ) → cache.party ≡ parties.Name protocol number → slice_get s.names number ≡ Some (SmbLease client key) → bytes ≡ lease_notice_of key cache.what to → IsNotice s cache to bytes

-- ---- the end of a request that waited

-- the final reply goes to the connection that the request came by
abbrev pub IsFinalIf : ℕ → Option Waiting → List Out → Type 0
IsFinalIf id None outs = outs ≡ []
IsFinalIf id (Some row) outs = IsOneTo row.place.connection (IsFinalOf id row) outs

-- of SMB: a break is told to who has the cache, and a request that waited and is served has its final reply
abbrev pub IsSmbNews : Lists → CoreState → Effect → List Out → Type 0
IsSmbNews l s (Begun cache to call) outs = IsOneIf (reached_by s.names l cache.party) (IsNotice s cache to) outs
IsSmbNews l s (Served party id answer) outs = IsFinalIf id (waiting_of id l) outs
IsSmbNews l s effect outs = outs ≡ []

-- ---- the recall of a delegation

-- the one call that recalls the client's delegation on the file; none, if there is no such delegation any more
pub data IsRecallSent (f : FrontNfs) (s : CoreState) (cache : Claim) (number : ℕ) (outs : List Out) : Type 0 where
  Recalled : (out : Out) → IsRecall f s cache number out → outs ≡ out ∷ [] → IsRecallSent f s cache number outs
  Returned : ((out : Out) → IsRecall f s cache number out → ⊥) → outs ≡ [] → IsRecallSent f s cache number outs

-- of NFSv4: a break that has the number of a call is told by that call
abbrev pub IsNfsNews : FrontNfs → CoreState → Effect → List Out → Type 0
IsNfsNews f s (Begun cache to (Some number)) outs = IsRecallSent f s cache number outs
IsNfsNews f s effect outs = outs ≡ []

-- ---- a lock that waited and is granted

-- the claim is a range of bytes, of the owner that a grant names
pub record IsGrantOf (names : List Name) (claim : Claim) (g : Grant) : Type 0 where
  pub number : ℕ
  pub owner : claim.owner ≡ owners.Name Nlm number
  pub named : slice_get names number ≡ Some (NlmRange g.caller g.svid g.oh)
  pub file : claim.file ≡ g.file
  pub range : claim.what ≡ Range (Bytes g.first g.last) g.exclusive
  pub real : g.first ≤ g.last

-- the one call of GRANTED to the address of the owner's caller, with the next number; none, if it has no address
pub data IsGrantSent (exports : Exports) (s : CoreState) (claim : Claim) (outs : List Out) : Type 0 where
  Called : (g : Grant) (to : List ℕ) (out : Out) → IsGrantOf s.names claim g → address_of exports.addresses g.caller ≡ Some to → outs ≡ out ∷ [] → out.dest ≡ Back (s.counter + 1) → out.to ≡ to → out ≡ call_of (s.counter + 1) to g → IsGrantSent exports s claim outs
  Unreached : ((g : Grant) (to : List ℕ) → IsGrantOf s.names claim g → address_of exports.addresses g.caller ≡ Some to → ⊥) → outs ≡ [] → IsGrantSent exports s claim outs

-- of NLM: a grant of one who waited is told by a call
abbrev pub IsNlmNews : Exports → CoreState → Effect → List Out → Type 0
IsNlmNews exports s (Served party id (Granted claim)) outs = IsGrantSent exports s claim outs
IsNlmNews exports s effect outs = outs ≡ []

-- ---- each effect

abbrev pub IsNewsBy : Exports → Fronts → CoreState → Effect → Protocol → List Out → Type 0
IsNewsBy exports f s effect Nlm outs = IsNlmNews exports s effect outs
IsNewsBy exports f s effect Nfs outs = IsNfsNews f.nfs s effect outs
IsNewsBy exports f s effect Smb outs = IsSmbNews f.smb.state s effect outs

-- these are what is sent of the effect, if the fronts and the core are these when it is told
abbrev pub IsNews : Exports → Fronts → CoreState → Effect → List Out → Type 0
IsNews exports f s effect outs = IsNewsBy exports f s effect (told_to effect) outs
