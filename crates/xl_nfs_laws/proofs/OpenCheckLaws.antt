-- What the check of an open's stateid passes, and with which status it refuses.
use Rattle.std.proofs.Common.{◌≡◌, ℕ, true, false, Option, Some, refl, sym, ap, ◌∙◌, ◌↔◌, true≢false}
use Rattle.std.proofs.lemmas.Bool.{eq-eqb}
use Rattle.std.proofs.lemmas.Option.{same_Some}
use Rattle.std.specs.Bool.{◌==◌}
use Rattle.std.specs.Prelude.{◌&&◌}
use Rattle.xl_nfs.specs.declared.basics.Stateid.{Stateid}
use Rattle.xl_nfs.specs.declared.status.NfsStatus.TheVariants as statuses
use Rattle.xl_nfs_state.specs.State.{NfsLists}
use Rattle.xl_nfs_state.specs.Verdict.{next_seqid}
use Rattle.xl_nfs_state.specs.declared.owner.OwnerKind.TheVariants as kinds
use Rattle.xl_nfs_state.specs.declared.owner.OwnerRow.{OwnerRow}
use Rattle.xl_nfs_state.specs.declared.owner.SeqidState.{SeqidState}
use Rattle.xl_nfs_state.specs.declared.stateid.Holder.{Holder}
use Rattle.xl_nfs_state.specs.declared.stateid.Holder.TheVariants as holders
use Rattle.xl_nfs_state.specs.declared.stateid.StateidRow.{StateidRow}
use Rattle.xl_core.specs.State.{CoreState}
use Rattle.xl_nfs_opens.specs.Closing.{checked, owner_as}
use Rattle.xl_nfs_opens.proofs.CheckLaws.{IsOwned, passes, refuses}
use Rattle.xl_nfs_opens.specs.declared.opener.Checked.TheVariants.{Passed, Refused}
use Rattle.xl_nfs_laws.specs.AnsweredStateids.{IsAstray, IsNextOnOpen, IsOutOfOrder}
use Rattle.xl_nfs_laws.specs.OpenLaws.{IsOpenOf}
use Rattle.xl_nfs_laws.proofs.OpenStateidLaws.{next_passes, opened_is, others_refused}

-- what is owned so is an open
pub open_of : (s : CoreState) (l : NfsLists) (stateid : Stateid) (r : StateidRow) (w : ℕ) (o : OwnerRow) → IsOwned kinds.Open s l stateid r w o → IsOpenOf s l stateid r w o
open_of s l stateid r w o is = by r.holder refl is.holder
  where
    by : (h : Holder) → r.holder ≡ h → owner_as kinds.Open h ≡ Some w → IsOpenOf s l stateid r w o
    by (holders.Open owner) holds e = record { number = is.number; found = is.found; holder = holds ∙ ap (λ (m : ℕ). holders.Open m) (same_Some owner w e); owner = is.owner }
    by (holders.Lock owner under opener) holds e = absurd cc
    by (holders.Delegation write) holds e = absurd cc

-- seqids and operations that the tests tell apart
pub is_astray : (o : OwnerRow) (op seqid : ℕ) → (seqid == next_seqid o.seqids.seqid) ≡ false → ((seqid == o.seqids.seqid) && (op == o.seqids.op)) ≡ false → IsAstray o op seqid
is_astray o op seqid next last = record {
  not_next = λ e. true≢false (sym (eq-eqb seqid (next_seqid o.seqids.seqid) e) ∙ next);
  not_last = λ e d. true≢false (sym (both e d) ∙ last);
}
  where
    both : seqid ≡ o.seqids.seqid → op ≡ o.seqids.op → ((seqid == o.seqids.seqid) && (op == o.seqids.op)) ≡ true
    both e d = rw (eq-eqb seqid o.seqids.seqid e) (eq-eqb op o.seqids.op d)

pub passed_is : (s : CoreState) (l : NfsLists) (current : Option ℕ) (op seqid : ℕ) (stateid : Stateid) (r : StateidRow) (w : ℕ) (seqids : SeqidState) → checked s l current op seqid stateid ≡ Passed r w seqids → IsNextOnOpen s l current seqid stateid r w seqids
passed_is s l current op seqid stateid = passes (IsNextOnOpen s l current seqid stateid) kinds.Open s l current op seqid stateid (λ r w o file is live next. record { row = o; opened = open_of s l stateid r w o is; file = file; live = live; seqids_is = refl; seqid_is = next })

pub open_exactly : (s : CoreState) (l : NfsLists) (current : Option ℕ) (op seqid : ℕ) (stateid : Stateid) (r : StateidRow) (w : ℕ) (seqids : SeqidState) → (checked s l current op seqid stateid ≡ Passed r w seqids) ↔ IsNextOnOpen s l current seqid stateid r w seqids
open_exactly s l current op seqid stateid r w seqids = (
  passed_is s l current op seqid stateid r w seqids,
  λ is. ap (λ (x : Option ℕ). checked s l x op seqid stateid) is.file ∙ next_passes kinds.Open s l op seqid stateid r w is.row (opened_is s l stateid r w is.row is.opened) is.seqid_is is.live ∙ ap (λ (t : SeqidState). Passed r w t) (sym is.seqids_is),
)

pub astray_exactly : (s : CoreState) (l : NfsLists) (current : Option ℕ) (op seqid : ℕ) (stateid : Stateid) → (checked s l current op seqid stateid ≡ Refused statuses.BadSeqid) ↔ IsOutOfOrder s l current op seqid stateid
astray_exactly s l current op seqid stateid = (
  λ e. refuses (λ status. status ≡ statuses.BadSeqid → IsOutOfOrder s l current op seqid stateid) kinds.Open s l current op seqid stateid (λ _ d. absurd cc) (λ _ _ d. absurd cc) (λ d. absurd cc)
      (λ r w o file is live next last d. record { row = r; number = w; owner = o; opened = open_of s l stateid r w o is; file = file; live = live; astray = is_astray o op seqid next last }) statuses.BadSeqid e refl,
  λ is. ap (λ (x : Option ℕ). checked s l x op seqid stateid) is.file ∙ others_refused kinds.Open s l op seqid stateid is.row is.number is.owner (opened_is s l stateid is.row is.number is.owner is.opened) is.astray.not_next is.astray.not_last is.live,
)
