-- The arguments of each call (XNFS C702, chapter 14).
use Rattle.std.specs.Prelude.{◌≡◌, ℕ, ◌^◌, ◌==◌, ◌&&◌, ◌||◌, Bool, true, false, List, Result, nat_le, nat_lt, if◌then◌else◌}
use Rattle.std.proofs.Common.{refl}
use Rattle.xl_base.specs.Formats.{Format, Cases, case, Chosen, chosen, spelled, IsMade}
use Rattle.xl_rpc.specs.declared.fault.RpcBad.{RpcBad}
use Rattle.xl_rpc.specs.declared.fault.RpcBad.TheVariants as bad
use Rattle.xl_rpc.specs.Xdr.{OpaqueFits}
use Rattle.xl_format.specs.Formats.{u64, i32, flag, text, ◌⋆◌, seen, nothing, numbered, otherwise, none_else, choice}
use Rattle.xl_nlm.specs.declared.item.Rights.{Rights}
use Rattle.xl_nlm.specs.Items.{LockItem, TestArgsItem, LockArgsItem, CancelArgsItem, UnlockArgsItem, ShareArgsItem, NotifyItem, CallItem, Null, Test, Lock, Cancel, Unlock, Granted, Share, Unshare, NmLock, FreeAll}

-- bytes of a name or a netobj (LM_MAXSTRLEN, MAXNETOBJ_SZ)
abbrev pub most_text_bytes : ℕ
most_text_bytes = 1024

abbrev pub TextFits : List ℕ → Type 0
TextFits bytes = OpaqueFits most_text_bytes bytes

-- a name or a netobj
abbrev pub name : Format (List ℕ) RpcBad
name = text most_text_bytes refl

-- nlm4_lock
unfoldable pub lock : Format LockItem RpcBad
lock = seen (λ l. record { caller_name = l.0; fh = l.1.0; oh = l.1.1.0; svid = l.1.1.1.0; l_offset = l.1.1.1.1.0; l_len = l.1.1.1.1.1 })
    (λ l. (l.caller_name, (l.fh, (l.oh, (l.svid, (l.l_offset, l.l_len)))))) (name ⋆ name ⋆ name ⋆ i32 ⋆ u64 ⋆ u64) (λ _. refl) (λ _. refl)

-- nlm4_testargs
unfoldable pub test_args : Format TestArgsItem RpcBad
test_args = seen (λ a. record { cookie = a.0; exclusive = a.1.0; lock = a.1.1 }) (λ a. (a.cookie, (a.exclusive, a.lock))) (name ⋆ flag ⋆ lock) (λ _. refl) (λ _. refl)

-- nlm4_lockargs
unfoldable pub lock_args : Format LockArgsItem RpcBad
lock_args = seen (λ a. record { cookie = a.0; block = a.1.0; exclusive = a.1.1.0; lock = a.1.1.1.0; reclaim = a.1.1.1.1.0; state = a.1.1.1.1.1 })
    (λ a. (a.cookie, (a.block, (a.exclusive, (a.lock, (a.reclaim, a.state)))))) (name ⋆ flag ⋆ flag ⋆ lock ⋆ flag ⋆ i32) (λ _. refl) (λ _. refl)

-- nlm4_cancargs
unfoldable pub cancel_args : Format CancelArgsItem RpcBad
cancel_args = seen (λ a. record { cookie = a.0; block = a.1.0; exclusive = a.1.1.0; lock = a.1.1.1 })
    (λ a. (a.cookie, (a.block, (a.exclusive, a.lock)))) (name ⋆ flag ⋆ flag ⋆ lock) (λ _. refl) (λ _. refl)

-- nlm4_unlockargs
unfoldable pub unlock_args : Format UnlockArgsItem RpcBad
unlock_args = seen (λ a. record { cookie = a.0; lock = a.1 }) (λ a. (a.cookie, a.lock)) (name ⋆ lock) (λ _. refl) (λ _. refl)

-- fsh4_mode and fsh4_access: 1 is reading, 2 is writing, 3 is both
abbrev pub rights_number : Rights → ℕ
rights_number r = if r.read then (if r.write then 3 else 1) else (if r.write then 2 else 0)

abbrev pub made_rights : ℕ → Rights
made_rights n =
    if n == 0 then record { read = false; write = false } else if n == 1 then record { read = true; write = false }
    else if n == 2 then record { read = false; write = true } else record { read = true; write = true }

pub rights_made : (r : Rights) → (made_rights (rights_number r) ≡ r) × (nat_lt (rights_number r) (2 ^ 32) ≡ true)
rights_made r = by r.read r.write where
  by : (read write : Bool) → (made_rights (rights_number (record { read = read; write = write })) ≡ record { read = read; write = write }) × (nat_lt (rights_number (record { read = read; write = write })) (2 ^ 32) ≡ true)
  by true true = (refl, refl)
  by true false = (refl, refl)
  by false true = (refl, refl)
  by false false = (refl, refl)

-- fsh4_mode and fsh4_access: none, read, write, both; any other number is a fault (NLM-1)
unfoldable pub rights : Format Rights RpcBad
rights = numbered bad.Value made_rights rights_number rights_made

-- nlm4_shareargs
unfoldable pub share_args : Format ShareArgsItem RpcBad
share_args = seen (λ a. record { cookie = a.0; caller_name = a.1.0; fh = a.1.1.0; oh = a.1.1.1.0; mode = a.1.1.1.1.0; access = a.1.1.1.1.1.0; reclaim = a.1.1.1.1.1.1 })
    (λ a. (a.cookie, (a.caller_name, (a.fh, (a.oh, (a.mode, (a.access, a.reclaim))))))) (name ⋆ name ⋆ name ⋆ name ⋆ rights ⋆ rights ⋆ flag) (λ _. refl) (λ _. refl)

-- nlm4_notify
unfoldable pub notify : Format NotifyItem RpcBad
notify = seen (λ n. record { name = n.0; state = n.1 }) (λ n. (n.name, n.state)) (name ⋆ i32) (λ _. refl) (λ _. refl)

-- ---- the arguments by their procedure

-- the procedures whose arguments and results are known here (NLM-1)
abbrev pub is_known : ℕ → Bool
is_known proc = nat_le proc 5 || (nat_le 20 proc && nat_le proc 23)

abbrev pub calls : Cases ℕ CallItem RpcBad
calls =
    case 0 (λ _. Null) nothing (case 1 Test test_args (case 2 Lock lock_args (case 3 Cancel cancel_args (case 4 Unlock unlock_args (case 5 Granted test_args
    (case 20 Share share_args (case 21 Unshare share_args (case 22 NmLock lock_args (case 23 FreeAll notify (otherwise bad.Value))))))))))

abbrev pub call : CallItem → Chosen ℕ CallItem RpcBad
call Null = chosen 0 (λ _. Null) nothing tt
call (Test a) = chosen 1 Test test_args a
call (Lock a) = chosen 2 Lock lock_args a
call (Cancel a) = chosen 3 Cancel cancel_args a
call (Unlock a) = chosen 4 Unlock unlock_args a
call (Granted a) = chosen 5 Granted test_args a
call (Share a) = chosen 20 Share share_args a
call (Unshare a) = chosen 21 Unshare share_args a
call (NmLock a) = chosen 22 NmLock lock_args a
call (FreeAll n) = chosen 23 FreeAll notify n

pub call_made : (c : CallItem) → IsMade calls c (call c)
call_made Null = (refl, λ _ _. refl)
call_made _ = (refl, λ _ _. refl)

-- the arguments of the procedure of this number
unfoldable pub arguments_of : ℕ → Format CallItem RpcBad
arguments_of proc = choice calls call (λ _. refl, (λ _. refl, (λ _. refl, (λ _. refl, (λ _. refl, (λ _. refl, (λ _. refl, (λ _. refl, (λ _. refl, (λ _. refl, none_else call _ bad.Value)))))))))) call_made proc

-- what has a spelling
abbrev pub LockFits : LockItem → Type 0
LockFits l = lock.Fit l

abbrev pub TestArgsFits : TestArgsItem → Type 0
TestArgsFits a = test_args.Fit a

abbrev pub LockArgsFits : LockArgsItem → Type 0
LockArgsFits a = lock_args.Fit a

abbrev pub UnlockArgsFits : UnlockArgsItem → Type 0
UnlockArgsFits a = unlock_args.Fit a

-- the procedure of a call, its arguments, and whether they have a spelling
abbrev pub procedure_of : CallItem → ℕ
procedure_of c = (call c).key

abbrev pub arguments : CallItem → List ℕ
arguments c = spelled (call c)

abbrev pub CallFits : CallItem → Type 0
CallFits c = (call c).Fit

-- a call of this procedure that has a spelling
abbrev pub IsCallOf : ℕ → CallItem → Type 0
IsCallOf proc c = (procedure_of c ≡ proc) × CallFits c

abbrev pub arguments_at : ℕ → List ℕ → Result (CallItem × List ℕ) RpcBad
arguments_at proc bytes = (arguments_of proc).at bytes
