-- What a message asks for is its own (MS-SMB2 3.3.5.9, 3.3.5.14): a LOCK asks for ranges of the open that it names, on the open's file,
-- and a CREATE for the open of the next number, on the file that it names.
use Rattle.std.specs.Prelude.{◌≡◌, ◌+◌, ℕ, List, Some}
use Rattle.std.specs.List.{AllByRecursion}
use Rattle.xl_smb.specs.Calls.{Create, Lock}
use Rattle.xl_smb.specs.Creates.{CreateCallItem}
use Rattle.xl_smb.specs.Locks.{LockItem}
use Rattle.xl_smb.specs.declared.head.SmbHead.{SmbHead}
use Rattle.xl_smb_state.specs.State.{Lists}
use Rattle.xl_smb_state.specs.declared.row.Open.{Open}
use Rattle.xl_smb_state.specs.declared.row.Place.{Place}
use Rattle.xl_core.specs.Deeds.{Deed}
use Rattle.xl_core.specs.State.{CoreState}
use Rattle.xl_front_smb.specs.Files.{open_row}
use Rattle.xl_front_smb.specs.Laws.{IsOnTree, IsRequest}
use Rattle.xl_front_smb.specs.Texts.{file_spelled}
use Rattle.xl_smb_laws.specs.AskedRows.{IsAskOf}
use Rattle.xl_smb_laws.specs.LockLaws.{IsOfOpen}

-- These are the deeds of a message from this connection: those of a LOCK of an open are asks of that open, on its file and for the party
-- of its row, and those of a CREATE of a file asks of the open of the next number there.
pub record AreMessageAsks (files : List (List ℕ)) (l : Lists) (s : CoreState) (conn : ℕ) (bytes : List ℕ) (deeds : List Deed) : Type 0 where
  pub locks : (h : SmbHead) (client : List ℕ) (c : LockItem) (session : ℕ) (place : Place) (number : ℕ) (row : Open) → IsRequest bytes h (Lock c) → IsOfOpen s l conn h client c.file_id session place number row → AllByRecursion (IsAskOf number row) deeds
  pub creates : (h : SmbHead) (client : List ℕ) (c : CreateCallItem) (session file : ℕ) (place : Place) → IsRequest bytes h (Create c) → IsOnTree s l conn h client session place → file_spelled files c.name ≡ Some file → AllByRecursion (IsAskOf (s.counter + 1) (open_row file client place c)) deeds
