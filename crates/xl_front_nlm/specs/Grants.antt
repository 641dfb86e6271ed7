-- How a lock that waited is answered once it is granted: by a call of GRANTED to the client (XNFS C702, NLM_GRANTED).
use Rattle.std.specs.Prelude.{ℕ, ◌+◌, Bool, nat_le, bytes_eq, if◌then◌else◌, List, [], ◌∷◌, Option, Some, None, option_map}
use Rattle.std.specs.List.{find, slice_get}
use Rattle.xl_base.specs.Handles.{handle}
use Rattle.xl_base.specs.declared.event.Dest.TheVariants.{Back}
use Rattle.xl_base.specs.declared.event.Out.{Out}
use Rattle.xl_base.specs.declared.journal.Exports.{Exports}
use Rattle.xl_base.specs.declared.name.Owner.{Owner}
use Rattle.xl_base.specs.declared.name.Owner.TheVariants as owners
use Rattle.xl_base.specs.declared.name.Protocol.TheVariants.{Nlm}
use Rattle.xl_matrix.specs.declared.claim.Claim.{Claim}
use Rattle.xl_matrix.specs.declared.claim.Extent.TheVariants.{Bytes}
use Rattle.xl_matrix.specs.declared.claim.What.{What}
use Rattle.xl_matrix.specs.declared.claim.What.TheVariants.{Range}
use Rattle.xl_names.specs.declared.name.Name.{Name}
use Rattle.xl_names.specs.declared.name.Name.TheVariants.{NlmRange}
use Rattle.xl_nlm.specs.Granted.{granted_record}
use Rattle.xl_nlm.specs.Items.{LockItem}
use Rattle.xl_core.specs.State.{CoreState, drawn}
use Rattle.xl_core.specs.Deeds.{Deed, Draws}
use Rattle.xl_core.specs.declared.ask.Answer.TheVariants.{Granted}
use Rattle.xl_core.specs.declared.ask.Effect.{Effect}
use Rattle.xl_core.specs.declared.ask.Effect.TheVariants.{Served}
use Rattle.xl_front_nlm.specs.Aims.{length_of}
use Rattle.xl_front_nlm.specs.State.{FrontState, awaited}
use Rattle.xl_front_nlm.specs.declared.grant.Grant.{Grant}

-- ---- what is sent

-- the first byte, the last, which is no lesser, and whether the range is exclusive
abbrev pub bytes_of : What → Option (ℕ × ℕ × Bool)
bytes_of (Range (Bytes first last) exclusive) = if nat_le first last then Some (first, last, exclusive) else None
bytes_of _ = None

-- the name behind an owner of NLM
abbrev pub name_of : List Name → Owner → Option Name
name_of names (owners.Name Nlm number) = slice_get names number
name_of names _ = None

abbrev pub grant_by : ℕ → Option (ℕ × ℕ × Bool) → Option Name → Option Grant
grant_by file (Some range) (Some (NlmRange caller svid oh)) =
    Some (record { file = file; caller = caller; svid = svid; oh = oh; first = range.0; last = range.1; exclusive = range.2 })
grant_by file _ _ = None

-- what there is to send of a claim: a range with bytes, of an owner of NLM ranges
unfoldable pub grant_of : List Name → Claim → Option Grant
grant_of names c = grant_by c.file (bytes_of c.what) (name_of names c.owner)

-- the lock that the call sends
abbrev pub lock_of : Grant → LockItem
lock_of g = record { caller_name = g.caller; fh = handle g.file; oh = g.oh; svid = g.svid; l_offset = g.first; l_len = length_of g.first g.last }

-- ---- to whom

-- the address of a caller: the first that is given for it (NLM-10)
unfoldable pub address_of : List (List ℕ × List ℕ) → List ℕ → Option (List ℕ)
address_of addresses caller = option_map (λ entry. entry.1) (find (λ entry. bytes_eq entry.0 caller) addresses)

-- ---- the call

abbrev pub call_of : ℕ → List ℕ → Grant → Out
call_of number to g = record { dest = Back number; to = to; bytes = granted_record number g.exclusive (lock_of g) }

-- the grant, and the address to which it is sent, if its caller has one
abbrev pub with_address : Grant → Option (List ℕ) → Option (Grant × List ℕ)
with_address g None = None
with_address g (Some to) = Some (g, to)

abbrev pub addressed : Exports → Option Grant → Option (Grant × List ℕ)
addressed exports None = None
addressed exports (Some g) = with_address g (address_of exports.addresses g.caller)

-- what there is to send of an effect of NLM, and to whom: a grant of one who waited. One who waited and found no room is sent
-- nothing, and so is one who was cancelled (NLM-10).
abbrev pub news : Exports → CoreState → Effect → Option (Claim × Grant × List ℕ)
news exports s (Served party id (Granted claim)) = option_map (λ told. (claim, told.0, told.1)) (addressed exports (grant_of s.names claim))
news exports s _ = None

-- the call takes the next number, and awaits its answer from then on (NLM-10)
abbrev pub told_by : FrontState → CoreState → Option (Claim × Grant × List ℕ) → List Out × FrontState × CoreState
told_by f s None = ([], f, s)
told_by f s (Some told) = (call_of (s.counter + 1) told.2 told.1 ∷ [], awaited f (record { number = s.counter + 1; claim = told.0 }), drawn s)

-- what is sent for an effect that names a party of NLM, and the front and the core afterwards
unfoldable pub shown : Exports → FrontState → CoreState → Effect → List Out × FrontState × CoreState
shown exports f s effect = told_by f s (news exports s effect)

abbrev pub drawn_for : Option (Claim × Grant × List ℕ) → List Deed
drawn_for None = []
drawn_for (Some told) = Draws ∷ []

-- what telling of an effect does to the core: a call that is made takes a number
abbrev pub shown_deeds : Exports → CoreState → Effect → List Deed
shown_deeds exports s effect = drawn_for (news exports s effect)
