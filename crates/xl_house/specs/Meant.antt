-- What the replies of NLM, NFSv4 and SMB say is done is done.
use Rattle.std.specs.Prelude.{◌≡◌, ℕ, List, Some}
use Rattle.std.specs.List.{AllByRecursion}
use Rattle.xl_base.specs.declared.event.Event.{Event}
use Rattle.xl_base.specs.declared.event.Event.TheVariants.{Message}
use Rattle.xl_base.specs.declared.event.Kind.TheVariants.{Rpc, Smb}
use Rattle.xl_programs.specs.Programs.{RequestItem, Asked, incoming_at}
use Rattle.xl_programs.specs.declared.program.Program.TheVariants.{Nlm, Nfs}
use Rattle.xl_core.specs.Deeds.{all_done}
use Rattle.xl_front_nlm.specs.AsTold as nlm
use Rattle.xl_nfs_laws.specs.AsTold as nfs
use Rattle.xl_smb_laws.specs.AsTold as smb
use Rattle.xl_house.specs.Done.{rounds}
use Rattle.xl_house.specs.Lawful.{Law}
use Rattle.xl_house.specs.Own.{own_of}
use Rattle.xl_house.specs.State.{Whole, kind_of, smb_opens}

-- the reply to a request of NLM tells what became of it: the core that the request's deeds leave is as the reply says
abbrev pub IsMeantByNlm : ℕ → Whole → ℕ → List ℕ → Type 0
IsMeantByNlm n s number bytes = kind_of s.connections number ≡ Some Rpc → (r : RequestItem) → incoming_at bytes ≡ Asked r → r.program ≡ Nlm
    → (let o = own_of n s (Message number bytes) in nlm.AreAsTold s.exports s.front.nlm s.core number r o.replies (all_done n s.core o.deeds))

-- that to a request of NFSv4 has the results of its operations in order, the stateids that they tell name what is there then, and
-- what else they say is done is done
abbrev pub IsMeantByNfs : ℕ → Whole → ℕ → List ℕ → Type 0
IsMeantByNfs n s number bytes = kind_of s.connections number ≡ Some Rpc → (r : RequestItem) → incoming_at bytes ≡ Asked r → r.program ≡ Nfs
    → (let o = own_of n s (Message number bytes) in nfs.AreRequestTold n s.exports (smb_opens s.front) s.front.nfs s.core number r o.replies)

-- and so does that to a message of SMB
abbrev pub IsMeantBySmb : ℕ → Whole → ℕ → List ℕ → Type 0
IsMeantBySmb n s number bytes = kind_of s.connections number ≡ Some Smb
    → (let o = own_of n s (Message number bytes) in smb.AreAsTold s.exports.files s.front.smb.state s.core number bytes o.replies (all_done n s.core o.deeds) o.given.2.smb.state)

abbrev pub IsMeantBy : ℕ → Whole → Event → Type 0
IsMeantBy n s (Message number bytes) = IsMeantByNlm n s number bytes × IsMeantByNfs n s number bytes × IsMeantBySmb n s number bytes
IsMeantBy n s event = Unit {0}

-- so it is of each round of an entry, in the state that it finds
abbrev pub IsMeant : Law
IsMeant n s e t = AllByRecursion (λ r. IsMeantBy n r.found r.cause) (rounds n s e.event)
