-- What a message asks for is its own: a request of NLM the file that it names, a reclaim only if it says so, and with the room that is
-- left for hosts; each operation of NFSv4 what it says, on the file of its current handle or that it claims there, a reclaim only if
-- it says so; a LOCK and a CREATE of SMB the open or the file that they name.
use Rattle.std.specs.Prelude.{◌≡◌, ℕ, List, length, Some}
use Rattle.std.specs.List.{AllByRecursion}
use Rattle.xl_base.specs.declared.event.Event.{Event}
use Rattle.xl_base.specs.declared.event.Event.TheVariants.{Message}
use Rattle.xl_base.specs.declared.event.Kind.TheVariants.{Rpc, Smb}
use Rattle.xl_programs.specs.Programs.{RequestItem, Asked, incoming_at}
use Rattle.xl_programs.specs.declared.program.Program.TheVariants.{Nlm, Nfs}
use Rattle.xl_core.specs.Deeds.{Deed}
use Rattle.xl_front_nlm.specs.Asking.{AreAsksFor}
use Rattle.xl_nfs_laws.specs.AskedRequests.{AreRequestAsks}
use Rattle.xl_smb_laws.specs.AskedMessages.{AreMessageAsks}
use Rattle.xl_house.specs.Done.{rounds}
use Rattle.xl_house.specs.Lawful.{Law}
use Rattle.xl_house.specs.Own.{own_of}
use Rattle.xl_house.specs.State.{Whole, kind_of, smb_opens}

-- a message's own deeds
abbrev pub message_deeds : ℕ → Whole → ℕ → List ℕ → List Deed
message_deeds n s number bytes = (own_of n s (Message number bytes)).deeds

abbrev pub AreNlmAsks : ℕ → Whole → ℕ → List ℕ → Type 0
AreNlmAsks n s number bytes = kind_of s.connections number ≡ Some Rpc → (r : RequestItem) → incoming_at bytes ≡ Asked r → r.program ≡ Nlm → AreAsksFor (length s.exports.files) (length s.front.nlm.hosts) r (message_deeds n s number bytes)

-- those of a request of NFSv4 are its operations'
abbrev pub AreNfsAsks : ℕ → Whole → ℕ → List ℕ → Type 0
AreNfsAsks n s number bytes = kind_of s.connections number ≡ Some Rpc → (r : RequestItem) → incoming_at bytes ≡ Asked r → r.program ≡ Nfs → AreRequestAsks n s.exports (smb_opens s.front) s.front.nfs s.core r (message_deeds n s number bytes)

abbrev pub AreSmbAsks : ℕ → Whole → ℕ → List ℕ → Type 0
AreSmbAsks n s number bytes = kind_of s.connections number ≡ Some Smb → AreMessageAsks s.exports.files s.front.smb.state s.core number bytes (message_deeds n s number bytes)

abbrev pub IsAskingBy : ℕ → Whole → Event → Type 0
IsAskingBy n s (Message number bytes) = AreNlmAsks n s number bytes × AreNfsAsks n s number bytes × AreSmbAsks n s number bytes
IsAskingBy n s event = Unit {0}

-- so it is of each round of an entry, in the state that it finds
abbrev pub IsAsking : Law
IsAsking n s e t = AllByRecursion (λ r. IsAskingBy n r.found r.cause) (rounds n s e.event)
