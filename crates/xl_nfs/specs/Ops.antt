-- The operations of a COMPOUND (RFC 7531).
use Rattle.std.specs.Prelude.{◌≡◌, ℕ, ◌&&◌, Bool, true, false, List, Result, nat_le, if◌then◌else◌}
use Rattle.std.proofs.Common.{refl, subst, ap, ◌∙◌}
use Rattle.xl_base.specs.Codec.{as_at}
use Rattle.xl_base.specs.Formats.{Format, Cases, others, case, cases_at, Chosen, chosen, spelled, is_listed, IsMade}
use Rattle.xl_base.proofs.FormatLaws.{read_unlisted}
use Rattle.xl_rpc.specs.declared.fault.RpcBad.{RpcBad}
use Rattle.xl_format.specs.Formats.{u32, u64, nothing, just, standing, tagged}
use Rattle.xl_nfs.specs.Basics.{handle, name, stateid, OwnerItem, shown_owner, owner}
use Rattle.xl_nfs.specs.declared.basics.Stateid.{Stateid}
use Rattle.xl_nfs.specs.declared.locks.UnlockArgs.{UnlockArgs}
use Rattle.xl_nfs.specs.Locks.{LockArgsItem, shown_lock_args, lock_args, LockTestArgsItem, shown_lock_test_args, lock_test_args, unlock_args}
use Rattle.xl_nfs.specs.declared.opens.CloseArgs.{CloseArgs}
use Rattle.xl_nfs.specs.declared.opens.OpenConfirmArgs.{OpenConfirmArgs}
use Rattle.xl_nfs.specs.declared.opens.OpenDowngradeArgs.{OpenDowngradeArgs}
use Rattle.xl_nfs.specs.Opens.{close_args, open_confirm_args, open_downgrade_args, OpenArgsItem, shown_open_args, open_args}
use Rattle.xl_nfs.specs.declared.clients.ClientConfirm.{ClientConfirm}
use Rattle.xl_nfs.specs.Clients.{SetClientIdArgsItem, shown_set_client_id_args, set_client_id_args, client_confirm}
use Rattle.xl_nfs.specs.declared.op.NfsOp.{NfsOp}
use Rattle.xl_nfs.specs.declared.op.NfsOp.TheVariants as op_wire

-- nfs_argop4
pub data OpItem : Type 0 where
  Close : CloseArgs → OpItem
  DelegReturn : Stateid → OpItem
  GetFh : OpItem
  Lock : LockArgsItem → OpItem
  LockT : LockTestArgsItem → OpItem
  LockU : UnlockArgs → OpItem
  Lookup : List ℕ → OpItem
  Open : OpenArgsItem → OpItem
  OpenConfirm : OpenConfirmArgs → OpItem
  OpenDowngrade : OpenDowngradeArgs → OpItem
  PutFh : List ℕ → OpItem
  PutRootFh : OpItem
  Renew : ℕ → OpItem
  SetClientId : SetClientIdArgsItem → OpItem
  SetClientIdConfirm : ClientConfirm → OpItem
  ReleaseLockOwner : OwnerItem → OpItem
  NotSupported : ℕ → OpItem
  Illegal : ℕ → OpItem

abbrev pub shown_op : NfsOp → OpItem
shown_op (op_wire.Close x) = Close x
shown_op (op_wire.DelegReturn x) = DelegReturn x
shown_op op_wire.GetFh = GetFh
shown_op (op_wire.Lock x) = Lock (shown_lock_args x)
shown_op (op_wire.LockT x) = LockT (shown_lock_test_args x)
shown_op (op_wire.LockU x) = LockU x
shown_op (op_wire.Lookup x) = Lookup x.now
shown_op (op_wire.Open x) = Open (shown_open_args x)
shown_op (op_wire.OpenConfirm x) = OpenConfirm x
shown_op (op_wire.OpenDowngrade x) = OpenDowngrade x
shown_op (op_wire.PutFh x) = PutFh x.now
shown_op op_wire.PutRootFh = PutRootFh
shown_op (op_wire.Renew x) = Renew x
shown_op (op_wire.SetClientId x) = SetClientId (shown_set_client_id_args x)
shown_op (op_wire.SetClientIdConfirm x) = SetClientIdConfirm x
shown_op (op_wire.ReleaseLockOwner x) = ReleaseLockOwner (shown_owner x)
shown_op (op_wire.NotSupported n) = NotSupported n
shown_op (op_wire.Illegal n) = Illegal n

-- the numbers of all operations of the minor version
abbrev pub is_numbered : ℕ → Bool
is_numbered n = nat_le 3 n && nat_le n 39

-- an operation whose arguments are not read (NFS-1)
abbrev pub other_op : ℕ → OpItem
other_op n = if is_numbered n then NotSupported n else Illegal n

-- those whose arguments are read (NFS-1)
abbrev pub ops : Cases ℕ OpItem RpcBad
ops =
    case 4 Close close_args (case 8 DelegReturn stateid (case 10 (λ _. GetFh) nothing (case 12 Lock lock_args (
    case 13 LockT lock_test_args (case 14 LockU unlock_args (case 15 Lookup name (case 18 Open open_args (
    case 20 OpenConfirm open_confirm_args (case 21 OpenDowngrade open_downgrade_args (case 22 PutFh handle (case 24 (λ _. PutRootFh) nothing (
    case 30 Renew u64 (case 35 SetClientId set_client_id_args (case 36 SetClientIdConfirm client_confirm (case 39 ReleaseLockOwner owner (
    others (λ n. just (other_op n))))))))))))))))))

-- an operation that is not served has none of these numbers
abbrev pub op_case : OpItem → Chosen ℕ OpItem RpcBad
op_case (Close x) = chosen 4 Close close_args x
op_case (DelegReturn x) = chosen 8 DelegReturn stateid x
op_case GetFh = chosen 10 (λ _. GetFh) nothing tt
op_case (Lock x) = chosen 12 Lock lock_args x
op_case (LockT x) = chosen 13 LockT lock_test_args x
op_case (LockU x) = chosen 14 LockU unlock_args x
op_case (Lookup x) = chosen 15 Lookup name x
op_case (Open x) = chosen 18 Open open_args x
op_case (OpenConfirm x) = chosen 20 OpenConfirm open_confirm_args x
op_case (OpenDowngrade x) = chosen 21 OpenDowngrade open_downgrade_args x
op_case (PutFh x) = chosen 22 PutFh handle x
op_case PutRootFh = chosen 24 (λ _. PutRootFh) nothing tt
op_case (Renew x) = chosen 30 Renew u64 x
op_case (SetClientId x) = chosen 35 SetClientId set_client_id_args x
op_case (SetClientIdConfirm x) = chosen 36 SetClientIdConfirm client_confirm x
op_case (ReleaseLockOwner x) = chosen 39 ReleaseLockOwner owner x
op_case (NotSupported n) = standing n (NotSupported n) ((is_listed ops n ≡ false) × (is_numbered n ≡ true))
op_case (Illegal n) = standing n (Illegal n) ((is_listed ops n ≡ false) × (is_numbered n ≡ false))

pub op_made : (x : OpItem) → IsMade ops x (op_case x)
op_made (NotSupported n) = (refl, λ fit bytes. read_unlisted ops n fit.0 bytes ∙ ap (λ (b : Bool). as_at (λ _. if b then NotSupported n else Illegal n) nothing.at bytes) fit.1)
op_made (Illegal n) = (refl, λ fit bytes. read_unlisted ops n fit.0 bytes ∙ ap (λ (b : Bool). as_at (λ _. if b then NotSupported n else Illegal n) nothing.at bytes) fit.1)
op_made (Close x) = (refl, λ _ _. refl)
op_made _ = (refl, λ _ _. refl)

pub other_seen : (b : Bool) (n : ℕ) → is_numbered n ≡ b → is_listed ops n ≡ false
    → (spelled (op_case (if b then NotSupported n else Illegal n)) ≡ nothing.spell tt) × (((op_case (if b then NotSupported n else Illegal n)).key ≡ n) × (op_case (if b then NotSupported n else Illegal n)).Fit)
other_seen true n is unlisted = (refl, (refl, (unlisted, is)))
other_seen false n is unlisted = (refl, (refl, (unlisted, is)))

-- nfs_argop4
unfoldable pub op : Format OpItem RpcBad
op = tagged u32 ops op_case
    (λ _. refl, (λ _. refl, (λ _. refl, (λ _. refl, (λ _. refl, (λ _. refl, (λ _. refl, (λ _. refl, (λ _. refl, (λ _. refl, (λ _. refl, (λ _. refl, (λ _. refl, (λ _. refl, (λ _. refl, (λ _. refl, (λ n unlisted x same. subst (λ (y : OpItem). (spelled (op_case y) ≡ nothing.spell tt) × (((op_case y).key ≡ n) × (op_case y).Fit)) same (other_seen (is_numbered n) n refl unlisted), tt)))))))))))))))))
    op_made

-- its number, and what stands behind a number
abbrev pub op_number : OpItem → ℕ
op_number x = (op_case x).key

unfoldable pub op_part_at : ℕ → List ℕ → Result (OpItem × List ℕ) RpcBad
op_part_at n bytes = cases_at ops n bytes

abbrev pub op_at : List ℕ → Result (OpItem × List ℕ) RpcBad
op_at bytes = op.at bytes

abbrev pub OpFits : OpItem → Type 0
OpFits x = op.Fit x
