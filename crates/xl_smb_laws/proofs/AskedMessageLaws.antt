-- What a message asks for is its own.
use Rattle.std.proofs.Common.{◌≡◌, ◌+◌, ℕ, List, Option, sym, ap, subst, ◌∙◌}
use Rattle.std.specs.List.{AllByRecursion}
use Rattle.xl_base.specs.declared.journal.Exports.{Exports}
use Rattle.xl_smb.specs.Calls.{CallItem, Create, Lock}
use Rattle.xl_smb.specs.declared.head.SmbHead.{SmbHead}
use Rattle.xl_smb_state.specs.declared.row.Open.{Open}
use Rattle.xl_core.specs.Deeds.{Deed, Asks}
use Rattle.xl_core.specs.State.{CoreState}
use Rattle.xl_core.specs.declared.ask.Ask.{Ask}
use Rattle.xl_wait.specs.declared.waiter.Rooms.{Rooms}
use Rattle.xl_front_smb.specs.Files.{open_row}
use Rattle.xl_front_smb.specs.FrontSmb.{deeds_for, smb_deeds}
use Rattle.xl_front_smb.specs.Laws.{IsRequest}
use Rattle.xl_front_smb.specs.Plans.{Plan, deeds_of}
use Rattle.xl_front_smb.specs.Requests.{planned}
use Rattle.xl_front_smb.specs.State.{FrontSmb}
use Rattle.xl_smb_laws.specs.AskedMessages.{AreMessageAsks}
use Rattle.xl_smb_laws.specs.AskedRows.{IsAskOf}
use Rattle.xl_smb_laws.proofs.AskedRowLaws.{create_asks_of, lock_asks_of}
use Rattle.xl_smb_laws.proofs.MessageLaws.{requested_is}

pub message_deeds : (n : ℕ) (exports : Exports) (others : ℕ) (f : FrontSmb) (s : CoreState) (conn : ℕ) (bytes : List ℕ) (h : SmbHead) (call : CallItem) → IsRequest bytes h call → smb_deeds n exports others f s conn bytes ≡ deeds_of n s f.state (planned s exports.files others f.state conn h call)
unfolding smb_deeds
message_deeds n exports others f s conn bytes h call is =
    ap (λ (o : Option SmbHead). deeds_for n exports others f s conn bytes o) is.heard ∙ ap (λ (plan : Plan). deeds_of n s f.state plan) (requested_is s exports.files others f.state conn bytes h call is)

pub message_asks : (n : ℕ) (exports : Exports) (others : ℕ) (f : FrontSmb) (s : CoreState) (conn : ℕ) (bytes : List ℕ) → AreMessageAsks exports.files f.state s conn bytes (smb_deeds n exports others f s conn bytes)
message_asks n exports others f s conn bytes = record {
  locks = λ h client c session place number row is at.
      subst (λ (ds : List Deed). AllByRecursion (IsAskOf number row) ds) (sym (message_deeds n exports others f s conn bytes h (Lock c) is)) (lock_asks_of n s exports.files others f.state conn h client c session place number row at);
  creates = λ h client c session file place is at named.
      subst (λ (ds : List Deed). AllByRecursion (IsAskOf (s.counter + 1) (open_row file client place c)) ds) (sym (message_deeds n exports others f s conn bytes h (Create c) is)) (create_asks_of n s exports.files others f.state conn h client c session file place at named);
}

-- ---- a machine that doesn't

-- one asks for ranges of another file than the open's
pub other_file_is : (number : ℕ) (row : Open) (left : Rooms) (a : Ask) → (a.file ≡ row.file → ⊥) → IsAskOf number row (Asks left a) → ⊥
other_file_is number row left a other is = other is.1
