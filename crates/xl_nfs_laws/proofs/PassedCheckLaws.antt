-- What a check that passes found: a stateid that isn't closed, and its owner, whose requests came this far.
use Rattle.std.proofs.Common.{◌≡◌, ℕ, false, Option, Some, refl}
use Rattle.std.specs.List.{find}
use Rattle.xl_nfs.specs.declared.basics.Stateid.{Stateid}
use Rattle.xl_nfs_state.specs.State.{NfsLists, is_owner, is_stateid}
use Rattle.xl_nfs_state.specs.declared.owner.OwnerKind.{OwnerKind}
use Rattle.xl_nfs_state.specs.declared.owner.OwnerKind.TheVariants as kinds
use Rattle.xl_nfs_state.specs.declared.owner.OwnerRow.{OwnerRow}
use Rattle.xl_nfs_state.specs.declared.owner.SeqidState.{SeqidState}
use Rattle.xl_nfs_state.specs.declared.stateid.Holder.{Holder}
use Rattle.xl_nfs_state.specs.declared.stateid.Holder.TheVariants as holders
use Rattle.xl_nfs_state.specs.declared.stateid.StateidRow.{StateidRow}
use Rattle.xl_core.specs.State.{CoreState}
use Rattle.xl_nfs_opens.specs.Closing.{checked_as, owner_as}
use Rattle.xl_nfs_opens.specs.declared.opener.Checked.{Checked}
use Rattle.xl_nfs_opens.specs.declared.opener.Checked.TheVariants.{Refused, Repeated, Passed}
use Rattle.xl_nfs_laws.proofs.ListOrderLaws.{owned_by}
use Rattle.xl_nfs_opens.proofs.CheckLaws.{checks}

pub record IsPassed (l : NfsLists) (r : StateidRow) (owner : ℕ) (seqids : SeqidState) : Type 0 where
  pub row : OwnerRow
  pub found : find (is_stateid r.number) l.stateids ≡ Some r
  pub owned : find (is_owner owner) l.owners ≡ Some row
  pub seqids_is : seqids ≡ row.seqids
  pub holder : owned_by r.holder ≡ Some owner
  pub live : r.standing.closed ≡ false

abbrev pub IfPassed : NfsLists → Checked → Type 0
IfPassed l (Passed r owner seqids) = IsPassed l r owner seqids
IfPassed l (Refused status) = Unit {0}
IfPassed l (Repeated owner) = Unit {0}

owned_as : (kind : OwnerKind) (h : Holder) (w : ℕ) → owner_as kind h ≡ Some w → owned_by h ≡ Some w
owned_as kinds.Open (holders.Open owner) w e = e
owned_as kinds.Open (holders.Lock owner under opener) w e = absurd cc
owned_as kinds.Open (holders.Delegation write) w e = absurd cc
owned_as kinds.Lock (holders.Open owner) w e = absurd cc
owned_as kinds.Lock (holders.Lock owner under opener) w e = e
owned_as kinds.Lock (holders.Delegation write) w e = absurd cc

pub checked_passed : (kind : OwnerKind) (s : CoreState) (l : NfsLists) (current : Option ℕ) (op seqid : ℕ) (stateid : Stateid) → IfPassed l (checked_as kind s l current op seqid stateid)
checked_passed kind s l current op seqid stateid =
    checks (IfPassed l) kind s l current op seqid stateid (λ _. tt) (λ _ _. tt) tt (λ _ _ _ _ _ _ _ _. tt) (λ _. tt) (λ r w o file is live next. record { row = o; found = is.found; owned = is.owner; seqids_is = refl; holder = owned_as kind r.holder w is.holder; live = live })
