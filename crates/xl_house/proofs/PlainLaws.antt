-- Where no frame waits, a record of ONC RPC is heard alone.
use Rattle.std.proofs.Common.{◌≡◌, ℕ, ◌&&◌, not, true, List, [], Some}
use Rattle.xl_base.specs.declared.event.Event.TheVariants.{Message}
use Rattle.xl_base.specs.declared.event.Kind.TheVariants.{Rpc}
use Rattle.xl_smb_frames.specs.Frames.{is_alone}
use Rattle.xl_smb_state.specs.State.{is_empty}
use Rattle.xl_house.specs.Machine.{is_plain}
use Rattle.xl_house.specs.Sifting.{is_smb}
use Rattle.xl_house.specs.State.{Whole, kind_of}

pub record_plain : (s : Whole) (number : ℕ) (bytes : List ℕ) → s.paused ≡ [] → kind_of s.connections number ≡ Some Rpc → is_plain s (Message number bytes) ≡ true
record_plain s number bytes none rpc = λ i. is_empty (none i) && not (is_smb (rpc i) && not (is_alone bytes))
