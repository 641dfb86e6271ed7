-- The messages of NLM version 4 (XNFS C702, chapter 14) without where they lie in memory.
use Rattle.std.specs.Prelude.{ℕ, ℤ, Bool, List, Option, option_map}
use Rattle.xl_nlm.specs.declared.item.Lock.{Lock as WireLock}
use Rattle.xl_nlm.specs.declared.item.TestArgs.{TestArgs}
use Rattle.xl_nlm.specs.declared.item.LockArgs.{LockArgs}
use Rattle.xl_nlm.specs.declared.item.CancelArgs.{CancelArgs}
use Rattle.xl_nlm.specs.declared.item.UnlockArgs.{UnlockArgs}
use Rattle.xl_nlm.specs.declared.item.Rights.{Rights}
use Rattle.xl_nlm.specs.declared.item.ShareArgs.{ShareArgs}
use Rattle.xl_nlm.specs.declared.item.Notify.{Notify}
use Rattle.xl_nlm.specs.declared.item.NlmCall.{NlmCall}
use Rattle.xl_nlm.specs.declared.item.NlmCall.TheVariants as wire
use Rattle.xl_nlm.specs.declared.item.NlmStatus.{NlmStatus}
use Rattle.xl_nlm.specs.declared.item.Holder.{Holder}
use Rattle.xl_nlm.specs.declared.item.TestRes.{TestRes}
use Rattle.xl_nlm.specs.declared.item.Res.{Res}
use Rattle.xl_nlm.specs.declared.item.ShareRes.{ShareRes}
use Rattle.xl_nlm.specs.declared.item.NlmReply.{NlmReply}
use Rattle.xl_nlm.specs.declared.item.NlmReply.TheVariants as result

-- nlm4_lock
pub record LockItem : Type 0 where
  pub caller_name : List ℕ
  pub fh : List ℕ
  pub oh : List ℕ
  pub svid : ℤ
  pub l_offset : ℕ
  pub l_len : ℕ

-- nlm4_testargs
pub record TestArgsItem : Type 0 where
  pub cookie : List ℕ
  pub exclusive : Bool
  pub lock : LockItem

-- nlm4_lockargs
pub record LockArgsItem : Type 0 where
  pub cookie : List ℕ
  pub block : Bool
  pub exclusive : Bool
  pub lock : LockItem
  pub reclaim : Bool
  pub state : ℤ

-- nlm4_cancargs
pub record CancelArgsItem : Type 0 where
  pub cookie : List ℕ
  pub block : Bool
  pub exclusive : Bool
  pub lock : LockItem

-- nlm4_unlockargs
pub record UnlockArgsItem : Type 0 where
  pub cookie : List ℕ
  pub lock : LockItem

-- nlm4_shareargs
pub record ShareArgsItem : Type 0 where
  pub cookie : List ℕ
  pub caller_name : List ℕ
  pub fh : List ℕ
  pub oh : List ℕ
  pub mode : Rights
  pub access : Rights
  pub reclaim : Bool

-- nlm4_notify
pub record NotifyItem : Type 0 where
  pub name : List ℕ
  pub state : ℤ

pub data CallItem : Type 0 where
  Null : CallItem
  Test : TestArgsItem → CallItem
  Lock : LockArgsItem → CallItem
  Cancel : CancelArgsItem → CallItem
  Unlock : UnlockArgsItem → CallItem
  Granted : TestArgsItem → CallItem
  Share : ShareArgsItem → CallItem
  Unshare : ShareArgsItem → CallItem
  NmLock : LockArgsItem → CallItem
  FreeAll : NotifyItem → CallItem

-- nlm4_holder
pub record HolderItem : Type 0 where
  pub exclusive : Bool
  pub svid : ℤ
  pub oh : List ℕ
  pub l_offset : ℕ
  pub l_len : ℕ

-- nlm4_testres
pub record TestResItem : Type 0 where
  pub cookie : List ℕ
  pub stat : NlmStatus
  pub holder : Option HolderItem

-- nlm4_res
pub record ResItem : Type 0 where
  pub cookie : List ℕ
  pub stat : NlmStatus

-- nlm4_shareres
pub record ShareResItem : Type 0 where
  pub cookie : List ℕ
  pub stat : NlmStatus
  pub sequence : ℤ

pub data ReplyItem : Type 0 where
  Void : ReplyItem
  TestAnswer : TestResItem → ReplyItem
  Answer : ResItem → ReplyItem
  ShareAnswer : ShareResItem → ReplyItem

-- ---- the messages of the code

abbrev pub shown_lock : WireLock → LockItem
shown_lock l = record { caller_name = l.caller_name.now; fh = l.fh.now; oh = l.oh.now; svid = l.svid; l_offset = l.l_offset; l_len = l.l_len }

abbrev pub shown_test_args : TestArgs → TestArgsItem
shown_test_args a = record { cookie = a.cookie.now; exclusive = a.exclusive; lock = shown_lock a.lock }

abbrev pub shown_lock_args : LockArgs → LockArgsItem
shown_lock_args a = record { cookie = a.cookie.now; block = a.block; exclusive = a.exclusive; lock = shown_lock a.lock; reclaim = a.reclaim; state = a.state }

abbrev pub shown_cancel_args : CancelArgs → CancelArgsItem
shown_cancel_args a = record { cookie = a.cookie.now; block = a.block; exclusive = a.exclusive; lock = shown_lock a.lock }

abbrev pub shown_unlock_args : UnlockArgs → UnlockArgsItem
shown_unlock_args a = record { cookie = a.cookie.now; lock = shown_lock a.lock }

abbrev pub shown_share_args : ShareArgs → ShareArgsItem
shown_share_args a = record { cookie = a.cookie.now; caller_name = a.caller_name.now; fh = a.fh.now; oh = a.oh.now; mode = a.mode; access = a.access; reclaim = a.reclaim }

abbrev pub shown_notify : Notify → NotifyItem
shown_notify n = record { name = n.name.now; state = n.state }

abbrev pub shown_call : NlmCall → CallItem
shown_call wire.Null = Null
shown_call (wire.Test a) = Test (shown_test_args a)
shown_call (wire.Lock a) = Lock (shown_lock_args a)
shown_call (wire.Cancel a) = Cancel (shown_cancel_args a)
shown_call (wire.Unlock a) = Unlock (shown_unlock_args a)
shown_call (wire.Granted a) = Granted (shown_test_args a)
shown_call (wire.Share a) = Share (shown_share_args a)
shown_call (wire.Unshare a) = Unshare (shown_share_args a)
shown_call (wire.NmLock a) = NmLock (shown_lock_args a)
shown_call (wire.FreeAll n) = FreeAll (shown_notify n)

abbrev pub shown_holder : Holder → HolderItem
shown_holder h = record { exclusive = h.exclusive; svid = h.svid; oh = h.oh.now; l_offset = h.l_offset; l_len = h.l_len }

abbrev pub shown_test_res : TestRes → TestResItem
shown_test_res r = record { cookie = r.cookie.now; stat = r.stat; holder = option_map shown_holder r.holder }

abbrev pub shown_res : Res → ResItem
shown_res r = record { cookie = r.cookie.now; stat = r.stat }

abbrev pub shown_share_res : ShareRes → ShareResItem
shown_share_res r = record { cookie = r.cookie.now; stat = r.stat; sequence = r.sequence }

abbrev pub shown_reply : NlmReply → ReplyItem
shown_reply result.Void = Void
shown_reply (result.Test r) = TestAnswer (shown_test_res r)
shown_reply (result.Res r) = Answer (shown_res r)
shown_reply (result.Share r) = ShareAnswer (shown_share_res r)
