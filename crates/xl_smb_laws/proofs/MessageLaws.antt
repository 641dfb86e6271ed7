-- A message that holds a request comes to what the request comes to.
use Rattle.std.proofs.Common.{◌≡◌, ℕ, Bool, true, false, not, List, is_some, if◌then◌else◌, refl, ap, ◌∙◌}
use Rattle.std.specs.Prelude.{◌==◌, nat_lt}
use Rattle.xl_base.specs.declared.journal.Exports.{Exports}
use Rattle.xl_smb.specs.Calls.{CallItem}
use Rattle.xl_smb.specs.Heads.{command_of}
use Rattle.xl_smb.specs.Messages.{message_at}
use Rattle.xl_smb.specs.declared.head.SmbHead.{SmbHead}
use Rattle.xl_smb_state.specs.State.{Lists}
use Rattle.xl_core.specs.State.{CoreState}
use Rattle.xl_front_smb.specs.FrontSmb.{answered, stepped, smb_step}
use Rattle.xl_front_smb.specs.Laws.{outcome_of, IsRequest}
use Rattle.xl_front_smb.specs.Plans.{Plan, Fails, carried}
use Rattle.xl_front_smb.specs.Requests.{planned, read_as, requested}
use Rattle.xl_front_smb.specs.State.{FrontSmb}
use Rattle.xl_smb_locks.specs.declared.status.SmbStatus.TheVariants.{InvalidParameter, NotSupported}

passed_all : (alone beyond served : Bool) (plan : Plan) → alone ≡ true → beyond ≡ false → served ≡ true
    → (if not alone then Fails InvalidParameter else if beyond then Fails InvalidParameter else if not served then Fails NotSupported else plan) ≡ plan
passed_all alone beyond served plan first second third = rw (first, second, third) refl

pub requested_is : (s : CoreState) (files : List (List ℕ)) (others : ℕ) (l : Lists) (conn : ℕ) (bytes : List ℕ) (h : SmbHead) (call : CallItem) → IsRequest bytes h call → requested s files others l conn bytes h ≡ planned s files others l conn h call
unfolding requested
requested_is s files others l conn bytes h call is =
    passed_all (h.next_command == 0) (nat_lt 18 h.command) (is_some (command_of h.command)) (read_as s files others l conn (message_at bytes)) is.alone is.numbered is.served
    ∙ ap (read_as s files others l conn) is.read

pub request_comes : (n : ℕ) (exports : Exports) (others : ℕ) (f : FrontSmb) (s : CoreState) (conn : ℕ) (bytes : List ℕ) (h : SmbHead) (call : CallItem) → IsRequest bytes h call
    → smb_step n exports others f s conn bytes ≡ answered conn h (outcome_of n s exports.files others f.state conn h call)
unfolding smb_step
request_comes n exports others f s conn bytes h call is =
    ap (stepped n exports others f s conn bytes) is.heard
    ∙ ap (λ (plan : Plan). answered conn h (carried n s f.state plan)) (requested_is s exports.files others f.state conn bytes h call is)
