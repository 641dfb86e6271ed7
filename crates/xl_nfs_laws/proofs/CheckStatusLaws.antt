-- With which status a request on a stateid is refused, and that it is answered so.
use Rattle.std.proofs.Common.{◌≡◌, ℕ, ◌<◌, Bool, true, false, [], Option, Some, None, is_some, refl, sym, ap, ◌∙◌, ◌↔◌, inl, inr, arith, true≢false, not}
use Rattle.std.proofs.lemmas.Bool.{cases_Bool, ltb-false, ltb-true}
use Rattle.std.specs.Bool.{beq}
use Rattle.std.specs.Cmp.{booleans_Decides}
use Rattle.std.specs.Prelude.{◌⊎◌, nat_lt, if◌then◌else◌}
use Rattle.xl_nfs.specs.Locks.{LockArgsItem, NewLockerItem}
use Rattle.xl_nfs.specs.declared.basics.Stateid.{Stateid}
use Rattle.xl_nfs.specs.declared.locks.KnownLocker.{KnownLocker}
use Rattle.xl_nfs.specs.declared.locks.UnlockArgs.{UnlockArgs}
use Rattle.xl_nfs.specs.declared.opens.CloseArgs.{CloseArgs}
use Rattle.xl_nfs.specs.declared.opens.OpenConfirmArgs.{OpenConfirmArgs}
use Rattle.xl_nfs.specs.declared.opens.OpenDowngradeArgs.{OpenDowngradeArgs}
use Rattle.xl_nfs.specs.declared.status.NfsStatus.{NfsStatus}
use Rattle.xl_nfs.specs.declared.status.NfsStatus.TheVariants as statuses
use Rattle.xl_nfs_state.specs.State.{NfsLists}
use Rattle.xl_nfs_state.specs.declared.owner.OwnerKind.{OwnerKind}
use Rattle.xl_nfs_state.specs.declared.owner.SeqidState.{SeqidState}
use Rattle.xl_nfs_state.specs.declared.stateid.StateidRow.{StateidRow}
use Rattle.xl_core.specs.State.{CoreState}
use Rattle.xl_nfs_locks.specs.Checks.{locks_found}
use Rattle.xl_nfs_locks.specs.FirstLocks.{both_of, join_checked, join_standing}
use Rattle.xl_nfs_locks.specs.Locks.{lock_found, lock_standing}
use Rattle.xl_nfs_locks.specs.Unlocks.{unlock_found, unlock_standing}
use Rattle.xl_nfs_opens.proofs.CheckLaws.{refuses}
use Rattle.xl_nfs_opens.specs.Closing.{checked, checked_as, state_found, close_by, close_done, confirm_by, confirm_done, standing_fault}
use Rattle.xl_nfs_opens.specs.Downgrades.{downgrade_by, downgrade_done, downgrade_fault, first_fault, range_fault}
use Rattle.xl_nfs_opens.specs.Plans.{carried}
use Rattle.xl_nfs_opens.specs.Renewing.{number_of}
use Rattle.xl_nfs_opens.specs.declared.opener.Checked.{Checked}
use Rattle.xl_nfs_opens.specs.declared.opener.Checked.TheVariants.{Passed, Refused}
use Rattle.xl_nfs_opens.specs.declared.told.Told.TheVariants.{Ended}
use Rattle.xl_nfs_laws.specs.AnsweredStateids.{IsCheckStatus}

-- ---- what the check refuses

none_back : (kind : OwnerKind) (s : CoreState) (l : NfsLists) (current : Option ℕ) (op seqid : ℕ) (stateid : Stateid) → current ≡ None → checked_as kind s l current op seqid stateid ≡ Refused statuses.NoFileHandle
unfolding checked_as state_found
none_back kind s l None op seqid stateid e = refl
none_back kind s l (Some at) op seqid stateid e = absurd (true≢false (ap is_some e))

pub no_file : (kind : OwnerKind) (s : CoreState) (l : NfsLists) (current : Option ℕ) (op seqid : ℕ) (stateid : Stateid) → (checked_as kind s l current op seqid stateid ≡ Refused statuses.NoFileHandle) ↔ (current ≡ None)
no_file kind s l current op seqid stateid = (
  λ e. refuses (λ status. status ≡ statuses.NoFileHandle → current ≡ None) kind s l current op seqid stateid (λ none d. none) (λ _ _ d. absurd cc) (λ d. absurd cc) (λ _ _ _ _ _ _ _ _ d. absurd cc) statuses.NoFileHandle e refl,
  none_back kind s l current op seqid stateid,
)

stale_back : (kind : OwnerKind) (s : CoreState) (l : NfsLists) (current : Option ℕ) (op seqid : ℕ) (stateid : Stateid) → is_some current ≡ true → number_of s stateid.other ≡ None → checked_as kind s l current op seqid stateid ≡ Refused statuses.StaleStateid
unfolding checked_as state_found
stale_back kind s l None op seqid stateid there none = absurd (true≢false (sym there))
stale_back kind s l (Some at) op seqid stateid there none = rw none refl

pub is_stale : (kind : OwnerKind) (s : CoreState) (l : NfsLists) (current : Option ℕ) (op seqid : ℕ) (stateid : Stateid) → (checked_as kind s l current op seqid stateid ≡ Refused statuses.StaleStateid) ↔ ((is_some current ≡ true) × (number_of s stateid.other ≡ None))
is_stale kind s l current op seqid stateid = (
  λ e. refuses (λ status. status ≡ statuses.StaleStateid → (is_some current ≡ true) × (number_of s stateid.other ≡ None)) kind s l current op seqid stateid (λ _ d. absurd cc) (λ there none d. (there, none)) (λ d. absurd cc) (λ _ _ _ _ _ _ _ _ d. absurd cc) statuses.StaleStateid e refl,
  λ is. stale_back kind s l current op seqid stateid is.0 is.1,
)

pub no_other : (kind : OwnerKind) (s : CoreState) (l : NfsLists) (current : Option ℕ) (op seqid : ℕ) (stateid : Stateid) (status : NfsStatus) → checked_as kind s l current op seqid stateid ≡ Refused status → IsCheckStatus status
no_other kind s l current op seqid stateid = refuses IsCheckStatus kind s l current op seqid stateid (λ _. inl refl) (λ _ _. inr (inl refl)) (inr (inr (inl refl))) (λ _ _ _ _ _ _ _ _. inr (inr (inr refl)))

-- ---- the stateid's own seqid

abbrev Faults : StateidRow → SeqidState → ℕ → Bool → Option NfsStatus → Type 0
Faults r seqids seqid confirmed x =
    ((x ≡ Some statuses.OldStateid) ↔ (seqid < r.standing.seqid))
    × ((x ≡ Some statuses.BadStateid) ↔ ((r.standing.seqid < seqid) ⊎ ((seqid ≡ r.standing.seqid) × (seqids.confirmed ≡ confirmed → ⊥))))

pub standing_statuses : (r : StateidRow) (seqids : SeqidState) (seqid : ℕ) (confirmed : Bool) → Faults r seqids seqid confirmed (standing_fault r seqids seqid confirmed)
unfolding standing_fault
standing_statuses r seqids seqid confirmed =
    elim (cases_Bool (nat_lt seqid r.standing.seqid)) [
      | inl old ↦ (let less : seqid < r.standing.seqid = ltb-true seqid r.standing.seqid old in rw old ((λ e. less, λ e. refl), (λ e. absurd cc, λ e. absurd (not_less less e))))
      | inr nor ↦ elim (cases_Bool (nat_lt r.standing.seqid seqid)) [
        | inl ahead ↦ (let more : r.standing.seqid < seqid = ltb-true r.standing.seqid seqid ahead in rw nor (rw ahead ((λ e. absurd cc, λ e. absurd (omega (arith, e, more))), (λ e. inl more, λ e. refl))))
        | inr even ↦ (let same : seqid ≡ r.standing.seqid = omega (arith, ltb-false seqid r.standing.seqid nor, ltb-false r.standing.seqid seqid even) in rw nor (rw even (by_owner same)))
      ]
    ]
  where
    not_less : seqid < r.standing.seqid → (r.standing.seqid < seqid) ⊎ ((seqid ≡ r.standing.seqid) × (seqids.confirmed ≡ confirmed → ⊥)) → ⊥
    not_less less (inl more) = omega (arith, less, more)
    not_less less (inr same) = omega (arith, less, same.0)

    by_owner : seqid ≡ r.standing.seqid → Faults r seqids seqid confirmed (if not (beq seqids.confirmed confirmed) then Some statuses.BadStateid else None)
    by_owner same =
        elim (cases_Bool (beq seqids.confirmed confirmed)) [
          | inl is ↦ rw is ((λ e. absurd (true≢false (sym (ap is_some e))), λ e. absurd (omega (arith, e, same))), (λ e. absurd (true≢false (sym (ap is_some e))), λ e. absurd (as_is is e)))
          | inr other ↦ rw other ((λ e. absurd cc, λ e. absurd (omega (arith, e, same))), (λ e. inr (same, λ d. true≢false (sym ((booleans_Decides seqids.confirmed confirmed).1 d) ∙ other)), λ e. refl))
        ]
      where
        as_is : beq seqids.confirmed confirmed ≡ true → (r.standing.seqid < seqid) ⊎ ((seqid ≡ r.standing.seqid) × (seqids.confirmed ≡ confirmed → ⊥)) → ⊥
        as_is is (inl more) = omega (arith, more, same)
        as_is is (inr differs) = differs.1 ((booleans_Decides seqids.confirmed confirmed).0 is)

pub old_exactly : (r : StateidRow) (seqids : SeqidState) (seqid : ℕ) (confirmed : Bool) → (standing_fault r seqids seqid confirmed ≡ Some statuses.OldStateid) ↔ (seqid < r.standing.seqid)
old_exactly r seqids seqid confirmed = (standing_statuses r seqids seqid confirmed).0

pub bad_exactly : (r : StateidRow) (seqids : SeqidState) (seqid : ℕ) (confirmed : Bool) → (standing_fault r seqids seqid confirmed ≡ Some statuses.BadStateid) ↔ ((r.standing.seqid < seqid) ⊎ ((seqid ≡ r.standing.seqid) × (seqids.confirmed ≡ confirmed → ⊥)))
bad_exactly r seqids seqid confirmed = (standing_statuses r seqids seqid confirmed).1

-- ---- a request is answered so

pub confirm_refused : (n : ℕ) (s : CoreState) (l : NfsLists) (current : Option ℕ) (a : OpenConfirmArgs) (status : NfsStatus) → checked s l current 20 a.seqid a.stateid ≡ Refused status → carried n s l (confirm_by s l current a (checked s l current 20 a.seqid a.stateid)) ≡ (Ended status, current, [], l, s)
confirm_refused n s l current a status e = ap (λ (c : Checked). carried n s l (confirm_by s l current a c)) e

pub downgrade_refused : (n : ℕ) (s : CoreState) (l : NfsLists) (current : Option ℕ) (a : OpenDowngradeArgs) (status : NfsStatus) → checked s l current 21 a.seqid a.stateid ≡ Refused status → carried n s l (downgrade_by s l current a (checked s l current 21 a.seqid a.stateid)) ≡ (Ended status, current, [], l, s)
downgrade_refused n s l current a status e = ap (λ (c : Checked). carried n s l (downgrade_by s l current a c)) e

pub close_refused : (n : ℕ) (s : CoreState) (l : NfsLists) (current : Option ℕ) (a : CloseArgs) (status : NfsStatus) → checked s l current 4 a.seqid a.stateid ≡ Refused status → carried n s l (close_by s l current a (checked s l current 4 a.seqid a.stateid)) ≡ (Ended status, current, [], l, s)
close_refused n s l current a status e = ap (λ (c : Checked). carried n s l (close_by s l current a c)) e

pub lock_refused : (n : ℕ) (s : CoreState) (l : NfsLists) (current : Option ℕ) (a : LockArgsItem) (x : KnownLocker) (status : NfsStatus) → locks_found s l current 12 x.seqid x.stateid ≡ Refused status → carried n s l (lock_found s l current a x (locks_found s l current 12 x.seqid x.stateid)) ≡ (Ended status, current, [], l, s)
lock_refused n s l current a x status e = ap (λ (c : Checked). carried n s l (lock_found s l current a x c)) e

pub first_refused : (n : ℕ) (s : CoreState) (l : NfsLists) (current : Option ℕ) (a : LockArgsItem) (x : NewLockerItem) (status : NfsStatus) → checked s l current 12 x.open_seqid x.open_stateid ≡ Refused status → carried n s l (join_checked s l current a x (checked s l current 12 x.open_seqid x.open_stateid)) ≡ (Ended status, current, [], l, s)
first_refused n s l current a x status e = ap (λ (c : Checked). carried n s l (join_checked s l current a x c)) e

pub unlock_refused : (n : ℕ) (s : CoreState) (l : NfsLists) (current : Option ℕ) (a : UnlockArgs) (status : NfsStatus) → locks_found s l current 14 a.seqid a.stateid ≡ Refused status → carried n s l (unlock_found s l current a (locks_found s l current 14 a.seqid a.stateid)) ≡ (Ended status, current, [], l, s)
unlock_refused n s l current a status e = ap (λ (c : Checked). carried n s l (unlock_found s l current a c)) e

-- ---- and so by the stateid's own seqid

pub confirm_faults : (n : ℕ) (s : CoreState) (l : NfsLists) (current : Option ℕ) (a : OpenConfirmArgs) (r : StateidRow) (w : ℕ) (seqids : SeqidState) (status : NfsStatus) → checked s l current 20 a.seqid a.stateid ≡ Passed r w seqids → standing_fault r seqids a.stateid.seqid false ≡ Some status → (carried n s l (confirm_by s l current a (checked s l current 20 a.seqid a.stateid))).0 ≡ Ended status
confirm_faults n s l current a r w seqids status e f = ap (λ (c : Checked). (carried n s l (confirm_by s l current a c)).0) e ∙ ap (λ (x : Option NfsStatus). (carried n s l (confirm_done s l current a r w seqids x)).0) f

pub downgrade_faults : (n : ℕ) (s : CoreState) (l : NfsLists) (current : Option ℕ) (a : OpenDowngradeArgs) (r : StateidRow) (w : ℕ) (seqids : SeqidState) (status : NfsStatus) → checked s l current 21 a.seqid a.stateid ≡ Passed r w seqids → standing_fault r seqids a.stateid.seqid true ≡ Some status → (carried n s l (downgrade_by s l current a (checked s l current 21 a.seqid a.stateid))).0 ≡ Ended status
unfolding downgrade_fault
downgrade_faults n s l current a r w seqids status e f = ap (λ (c : Checked). (carried n s l (downgrade_by s l current a c)).0) e ∙ ap (λ (x : Option NfsStatus). (carried n s l (downgrade_done s l current a r w seqids (first_fault x (range_fault r a)))).0) f

pub close_faults : (n : ℕ) (s : CoreState) (l : NfsLists) (current : Option ℕ) (a : CloseArgs) (r : StateidRow) (w : ℕ) (seqids : SeqidState) (status : NfsStatus) → checked s l current 4 a.seqid a.stateid ≡ Passed r w seqids → standing_fault r seqids a.stateid.seqid true ≡ Some status → (carried n s l (close_by s l current a (checked s l current 4 a.seqid a.stateid))).0 ≡ Ended status
close_faults n s l current a r w seqids status e f = ap (λ (c : Checked). (carried n s l (close_by s l current a c)).0) e ∙ ap (λ (x : Option NfsStatus). (carried n s l (close_done s l current a r w seqids x)).0) f

pub lock_faults : (n : ℕ) (s : CoreState) (l : NfsLists) (current : Option ℕ) (a : LockArgsItem) (x : KnownLocker) (r : StateidRow) (w : ℕ) (seqids : SeqidState) (status : NfsStatus) → locks_found s l current 12 x.seqid x.stateid ≡ Passed r w seqids → standing_fault r seqids x.stateid.seqid true ≡ Some status → (carried n s l (lock_found s l current a x (locks_found s l current 12 x.seqid x.stateid))).0 ≡ Ended status
lock_faults n s l current a x r w seqids status e f = ap (λ (c : Checked). (carried n s l (lock_found s l current a x c)).0) e ∙ ap (λ (y : Option NfsStatus). (carried n s l (lock_standing l current a r w seqids x.seqid y)).0) f

pub first_faults : (n : ℕ) (s : CoreState) (l : NfsLists) (current : Option ℕ) (a : LockArgsItem) (x : NewLockerItem) (r : StateidRow) (w : ℕ) (seqids : SeqidState) (status : NfsStatus) → checked s l current 12 x.open_seqid x.open_stateid ≡ Passed r w seqids → standing_fault r seqids x.open_stateid.seqid true ≡ Some status → (carried n s l (join_checked s l current a x (checked s l current 12 x.open_seqid x.open_stateid))).0 ≡ Ended status
first_faults n s l current a x r w seqids status e f = ap (λ (c : Checked). (carried n s l (join_checked s l current a x c)).0) e ∙ ap (λ (y : Option NfsStatus). (carried n s l (join_standing s l current a x (both_of x w seqids) r y)).0) f

pub unlock_faults : (n : ℕ) (s : CoreState) (l : NfsLists) (current : Option ℕ) (a : UnlockArgs) (r : StateidRow) (w : ℕ) (seqids : SeqidState) (status : NfsStatus) → locks_found s l current 14 a.seqid a.stateid ≡ Passed r w seqids → standing_fault r seqids a.stateid.seqid true ≡ Some status → (carried n s l (unlock_found s l current a (locks_found s l current 14 a.seqid a.stateid))).0 ≡ Ended status
unlock_faults n s l current a r w seqids status e f = ap (λ (c : Checked). (carried n s l (unlock_found s l current a c)).0) e ∙ ap (λ (y : Option NfsStatus). (carried n s l (unlock_standing l current a r w seqids y)).0) f
