-- What a lock's stateid is judged by.
use Rattle.std.proofs.Common.{◌≡◌, ℕ, Option, Some, refl, sym, ap, ◌∙◌, ◌↔◌}
use Rattle.std.proofs.lemmas.Option.{same_Some}
use Rattle.xl_nfs.specs.declared.basics.Stateid.{Stateid}
use Rattle.xl_nfs.specs.declared.status.NfsStatus.TheVariants as statuses
use Rattle.xl_nfs_state.specs.State.{NfsLists}
use Rattle.xl_nfs_state.specs.declared.owner.OwnerKind.TheVariants as kinds
use Rattle.xl_nfs_state.specs.declared.owner.OwnerRow.{OwnerRow}
use Rattle.xl_nfs_state.specs.declared.owner.SeqidState.{SeqidState}
use Rattle.xl_nfs_state.specs.declared.stateid.Holder.{Holder}
use Rattle.xl_nfs_state.specs.declared.stateid.Holder.TheVariants as holders
use Rattle.xl_nfs_state.specs.declared.stateid.StateidRow.{StateidRow}
use Rattle.xl_core.specs.State.{CoreState}
use Rattle.xl_nfs_laws.proofs.OpenCheckLaws.{is_astray}
use Rattle.xl_nfs_laws.proofs.OpenStateidLaws.{next_passes, others_refused}
use Rattle.xl_nfs_opens.specs.Closing.{owner_as}
use Rattle.xl_nfs_opens.proofs.CheckLaws.{IsOwned, passes, refuses}
use Rattle.xl_nfs_opens.specs.declared.opener.Checked.TheVariants.{Passed, Refused}
use Rattle.xl_nfs_locks.specs.Checks.{locks_found}
use Rattle.xl_nfs_laws.specs.AnsweredStateids.{AreLocksOutOfOrder}
use Rattle.xl_nfs_laws.specs.LockStateids.{IsLocksOf, IsNextOn}

-- locks that are there are owned so, and what is owned so is locks
pub locks_is : (s : CoreState) (l : NfsLists) (stateid : Stateid) (r : StateidRow) (w : ℕ) (o : OwnerRow) → IsLocksOf s l stateid r w o → IsOwned kinds.Lock s l stateid r w o
locks_is s l stateid r w o is = record { number = is.number; found = is.found; holder = ap (owner_as kinds.Lock) is.holder; owner = is.owner }

pub locks_of : (s : CoreState) (l : NfsLists) (stateid : Stateid) (r : StateidRow) (w : ℕ) (o : OwnerRow) → IsOwned kinds.Lock s l stateid r w o → IsLocksOf s l stateid r w o
locks_of s l stateid r w o is = by r.holder refl is.holder
  where
    by : (h : Holder) → r.holder ≡ h → owner_as kinds.Lock h ≡ Some w → IsLocksOf s l stateid r w o
    by (holders.Lock owner under opener) holds e = record { under = under; opener = opener; number = is.number; found = is.found; holder = holds ∙ ap (λ (m : ℕ). holders.Lock m under opener) (same_Some owner w e); owner = is.owner }
    by (holders.Open owner) holds e = absurd cc
    by (holders.Delegation write) holds e = absurd cc

pub passed_next : (s : CoreState) (l : NfsLists) (current : Option ℕ) (op seqid : ℕ) (stateid : Stateid) (r : StateidRow) (w : ℕ) (seqids : SeqidState) → locks_found s l current op seqid stateid ≡ Passed r w seqids → IsNextOn s l current seqid stateid r w seqids
passed_next s l current op seqid stateid = passes (IsNextOn s l current seqid stateid) kinds.Lock s l current op seqid stateid (λ r w o file is live next. record { row = o; locks = locks_of s l stateid r w o is; file = file; live = live; seqids_is = refl; seqid_is = next })

pub passes_exactly : (s : CoreState) (l : NfsLists) (current : Option ℕ) (op seqid : ℕ) (stateid : Stateid) (r : StateidRow) (w : ℕ) (seqids : SeqidState) → (locks_found s l current op seqid stateid ≡ Passed r w seqids) ↔ IsNextOn s l current seqid stateid r w seqids
passes_exactly s l current op seqid stateid r w seqids = (
  passed_next s l current op seqid stateid r w seqids,
  λ is. ap (λ (x : Option ℕ). locks_found s l x op seqid stateid) is.file ∙ next_passes kinds.Lock s l op seqid stateid r w is.row (locks_is s l stateid r w is.row is.locks) is.seqid_is is.live ∙ ap (λ (t : SeqidState). Passed r w t) (sym is.seqids_is),
)

pub astray_exactly : (s : CoreState) (l : NfsLists) (current : Option ℕ) (op seqid : ℕ) (stateid : Stateid) → (locks_found s l current op seqid stateid ≡ Refused statuses.BadSeqid) ↔ AreLocksOutOfOrder s l current op seqid stateid
astray_exactly s l current op seqid stateid = (
  λ e. refuses (λ status. status ≡ statuses.BadSeqid → AreLocksOutOfOrder s l current op seqid stateid) kinds.Lock s l current op seqid stateid (λ _ d. absurd cc) (λ _ _ d. absurd cc) (λ d. absurd cc)
      (λ r w o file is live next last d. record { row = r; number = w; owner = o; locks = locks_of s l stateid r w o is; file = file; live = live; astray = is_astray o op seqid next last }) statuses.BadSeqid e refl,
  λ is. ap (λ (x : Option ℕ). locks_found s l x op seqid stateid) is.file ∙ others_refused kinds.Lock s l op seqid stateid is.row is.number is.owner (locks_is s l stateid is.row is.number is.owner is.locks) is.astray.not_next is.astray.not_last is.live,
)
