-- The replies to calls of ONC RPC: how many there are, where they go, and whose they are (RFC 5531 9).
use Rattle.std.specs.Prelude.{◌≡◌, ℕ, List, [], ◌∷◌, ◌++◌, Some}
use Rattle.std.specs.List.{AllByRecursion}
use Rattle.xl_base.specs.declared.event.Dest.TheVariants.{Conn}
use Rattle.xl_base.specs.declared.event.Event.{Event}
use Rattle.xl_base.specs.declared.event.Event.TheVariants.{Message}
use Rattle.xl_base.specs.declared.event.Kind.TheVariants.{Rpc}
use Rattle.xl_base.specs.declared.event.Out.{Out}
use Rattle.xl_programs.specs.Programs.{IncomingItem, Unanswered, Refused, Asked, incoming_at}
use Rattle.xl_rpc.specs.Xdr.{unsigned}
use Rattle.xl_house.specs.Done.{rounds}
use Rattle.xl_house.specs.Lawful.{Law}
use Rattle.xl_house.specs.Own.{own_of}
use Rattle.xl_house.specs.State.{Whole, kind_of}

-- there is one reply: it goes to the connection that the call came by, and begins with the call's xid
abbrev pub IsOneReply : ℕ → ℕ → List Out → Type 0
IsOneReply conn xid outs = (out : Out) × (outs ≡ out ∷ []) × (out.dest ≡ Conn conn) × ((rest : List ℕ) × (out.bytes ≡ unsigned xid ++ rest))

-- what isn't a call is not answered; each other record has one reply
abbrev pub IsRecordReplied : ℕ → IncomingItem → List Out → Type 0
IsRecordReplied conn Unanswered outs = outs ≡ []
IsRecordReplied conn (Refused xid verdict) outs = IsOneReply conn xid outs
IsRecordReplied conn (Asked r) outs = IsOneReply conn r.xid outs

abbrev pub IsRepliedBy : ℕ → Whole → Event → Type 0
IsRepliedBy n s (Message number bytes) = kind_of s.connections number ≡ Some Rpc → IsRecordReplied number (incoming_at bytes) (own_of n s (Message number bytes)).replies
IsRepliedBy n s event = Unit {0}

-- so it is of each round of an entry, whose replies are among what it sends
abbrev pub IsReplied : Law
IsReplied n s e t = AllByRecursion (λ r. IsRepliedBy n r.found r.cause) (rounds n s e.event)
