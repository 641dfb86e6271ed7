-- How long results are, and what is read of those that are kept (RFC 7530 9.1.8).
use Rattle.std.specs.Prelude.{ℕ, ◌<◌, ◌^◌, ◌==◌, ◌||◌, Bool, IfSome}
use Rattle.xl_nfs.specs.Basics.{stateid}
use Rattle.xl_nfs.specs.Clients.{client_confirm}
use Rattle.xl_nfs.specs.Locks.{denied}
use Rattle.xl_nfs.specs.Results.{ResultFits}
use Rattle.xl_nfs_opens.specs.Operations.{op_close, op_lock, op_open, op_open_confirm, op_open_downgrade, op_unlock}
use Rattle.xl_nfs_opens.specs.Results.{denied_item, ended_as}
use Rattle.xl_nfs_opens.specs.declared.told.Told.{Told}
use Rattle.xl_nfs_opens.specs.declared.told.Told.TheVariants.{Ended, Client, Opened, State, Denied}

-- each part of what the operation of this number was answered has a spelling
abbrev pub PartsFit : ℕ → Told → Type 0
PartsFit number (Ended status) = ResultFits (ended_as number status)
PartsFit number (Client confirm) = client_confirm.Fit confirm
PartsFit number (Opened opened flags delegation) = stateid.Fit opened × (flags < 2 ^ 32) × IfSome delegation (λ given. stateid.Fit given.0)
PartsFit number (State given) = stateid.Fit given
PartsFit number (Denied held) = denied.Fit (denied_item held)
PartsFit number _ = Unit {0}

-- an operation by an owner's seqid: CLOSE, LOCK, LOCKU, OPEN, OPEN_CONFIRM, OPEN_DOWNGRADE
abbrev pub has_seqid : ℕ → Bool
has_seqid number = (number == op_close) || ((number == op_lock) || ((number == op_unlock) || ((number == op_open) || ((number == op_open_confirm) || (number == op_open_downgrade)))))
