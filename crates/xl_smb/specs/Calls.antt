-- Requests, by their command.
use Rattle.std.specs.Prelude.{ℕ, ◌<◌, ◌^◌, List, length, Option, Some, None, Result}
use Rattle.xl_layout.specs.Layouts.{IsCounted}
use Rattle.xl_layout.specs.Forms.{size_found, Body, unread, reads, Spelling, no_body, by_form}
use Rattle.xl_smb.specs.Bodies.{body_at}
use Rattle.xl_smb.specs.Heads.{command_of}
use Rattle.xl_smb.specs.Sessions.{NegotiateCallItem, shown_negotiate_call, negotiate_call, SetupCallItem, shown_setup_call, setup_call, tree_call, empty}
use Rattle.xl_smb.specs.Creates.{CreateCallItem, shown_create_call, create_call, CreateCallHas}
use Rattle.xl_smb.specs.Locks.{close_call, LockItem, shown_lock, lock_call}
use Rattle.xl_smb.specs.Breaks.{break_form, break_spelling}
use Rattle.xl_smb.specs.declared.breaks.Break.{Break}
use Rattle.xl_smb.specs.declared.call.SmbCall.{SmbCall}
use Rattle.xl_smb.specs.declared.call.SmbCall.TheVariants as call
use Rattle.xl_smb.specs.declared.command.Command.{Command}
use Rattle.xl_smb.specs.declared.command.Command.TheVariants as command
use Rattle.xl_smb.specs.declared.fault.SmbBad.{SmbBad}
use Rattle.xl_smb.specs.declared.lock.CloseCall.{CloseCall}

-- a request without where its parts lie in memory
pub data CallItem : Type 0 where
  Negotiate : NegotiateCallItem → CallItem
  SessionSetup : SetupCallItem → CallItem
  Logoff : CallItem
  TreeConnect : List ℕ → CallItem
  TreeDisconnect : CallItem
  Create : CreateCallItem → CallItem
  Close : CloseCall → CallItem
  Lock : LockItem → CallItem
  Cancel : CallItem
  Echo : CallItem
  OplockBreak : Break → CallItem
  Other : CallItem

abbrev pub shown_call : SmbCall → CallItem
shown_call (call.Negotiate c) = Negotiate (shown_negotiate_call c)
shown_call (call.SessionSetup c) = SessionSetup (shown_setup_call c)
shown_call call.Logoff = Logoff
shown_call (call.TreeConnect path) = TreeConnect path.now
shown_call call.TreeDisconnect = TreeDisconnect
shown_call (call.Create c) = Create (shown_create_call c)
shown_call (call.Close c) = Close c
shown_call (call.Lock c) = Lock (shown_lock c)
shown_call call.Cancel = Cancel
shown_call call.Echo = Echo
shown_call (call.OplockBreak b) = OplockBreak b
shown_call call.Other = Other

-- ---- the body of each command, if it begins with this size

-- of a command that is not known it is not looked at (SMB-6)
abbrev pub call_body : ℕ → Option Command → Body CallItem
call_body size (Some command.Negotiate) = reads Negotiate negotiate_call
call_body size (Some command.SessionSetup) = reads SessionSetup setup_call
call_body size (Some command.Logoff) = reads (λ _. Logoff) empty
call_body size (Some command.TreeConnect) = reads TreeConnect tree_call
call_body size (Some command.TreeDisconnect) = reads (λ _. TreeDisconnect) empty
call_body size (Some command.Create) = reads Create create_call
call_body size (Some command.Close) = reads Close close_call
call_body size (Some command.Lock) = reads Lock lock_call
call_body size (Some command.Cancel) = reads (λ _. Cancel) empty
call_body size (Some command.Echo) = reads (λ _. Echo) empty
call_body size (Some command.OplockBreak) = reads OplockBreak (break_form size)
call_body size None = unread Other

unfoldable pub call_at : ℕ → List ℕ → List ℕ → Result CallItem SmbBad
call_at command frame body = body_at (call_body (size_found body) (command_of command)) command frame body

-- ---- how a request is spelled

abbrev pub call_spelling : CallItem → Spelling
call_spelling (Negotiate c) = by_form negotiate_call c
call_spelling (SessionSetup c) = by_form setup_call c
call_spelling Logoff = by_form empty tt
call_spelling (TreeConnect path) = by_form tree_call path
call_spelling TreeDisconnect = by_form empty tt
call_spelling (Create c) = by_form create_call c
call_spelling (Close c) = by_form close_call c
call_spelling (Lock c) = by_form lock_call c
call_spelling Cancel = by_form empty tt
call_spelling Echo = by_form empty tt
call_spelling (OplockBreak b) = break_spelling b
call_spelling Other = no_body

-- the command of a request
abbrev pub command_of_call : CallItem → Option Command
command_of_call (Negotiate c) = Some command.Negotiate
command_of_call (SessionSetup c) = Some command.SessionSetup
command_of_call Logoff = Some command.Logoff
command_of_call (TreeConnect path) = Some command.TreeConnect
command_of_call TreeDisconnect = Some command.TreeDisconnect
command_of_call (Create c) = Some command.Create
command_of_call (Close c) = Some command.Close
command_of_call (Lock c) = Some command.Lock
command_of_call Cancel = Some command.Cancel
command_of_call Echo = Some command.Echo
command_of_call (OplockBreak b) = Some command.OplockBreak
command_of_call Other = None

-- what it takes of a request to be spelled, beside numbers that fit their fields: lengths that their numbers hold, whole
-- elements, contexts within their list
abbrev pub CallHas : CallItem → Type 0
CallHas (Negotiate c) = IsCounted 2 c.dialects
CallHas (SessionSetup c) = length c.buffer < 2 ^ 16
CallHas Logoff = Unit {0}
CallHas (TreeConnect path) = length path < 2 ^ 16
CallHas TreeDisconnect = Unit {0}
CallHas (Create c) = CreateCallHas c
CallHas (Close c) = Unit {0}
CallHas (Lock c) = IsCounted 24 c.elements
CallHas Cancel = Unit {0}
CallHas Echo = Unit {0}
CallHas (OplockBreak b) = Unit {0}
CallHas Other = Unit {0}
