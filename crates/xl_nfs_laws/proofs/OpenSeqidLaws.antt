-- What a request of an owner that is known leaves, where it counts and where it doesn't.
use Rattle.std.proofs.Common.{◌≡◌, ℕ, Bool, true, false, List, [], ◌∷◌, ◌++◌, Option, Some, None, is_some, option_map, if◌then◌else◌, refl, sym, ap, subst, ◌∙◌, inl, inr, true≢false}
use Rattle.std.proofs.lemmas.Bool.{cases_Bool, eq-eqb, eqb-true}
use Rattle.std.proofs.lemmas.Option.{same_Some}
use Rattle.std.specs.Bool.{◌==◌}
use Rattle.std.specs.List.{find}
use Rattle.xl_nfs.specs.declared.basics.Stateid.{Stateid}
use Rattle.xl_nfs.specs.declared.opens.CloseArgs.{CloseArgs}
use Rattle.xl_nfs.specs.declared.opens.OpenConfirmArgs.{OpenConfirmArgs}
use Rattle.xl_nfs.specs.declared.opens.OpenDowngradeArgs.{OpenDowngradeArgs}
use Rattle.xl_nfs.specs.declared.status.NfsStatus.{NfsStatus}
use Rattle.xl_nfs_state.specs.Filed.{changed}
use Rattle.xl_nfs_state.specs.Rows.{with_result, with_seqids}
use Rattle.xl_nfs_state.specs.State.{NfsLists, is_kept, is_owner}
use Rattle.xl_nfs_state.specs.Verdict.{next_seqid}
use Rattle.xl_nfs_state.specs.declared.kept.KeptRow.{KeptRow}
use Rattle.xl_nfs_state.specs.declared.owner.OwnerKind.{OwnerKind}
use Rattle.xl_nfs_state.specs.declared.owner.OwnerKind.TheVariants as kinds
use Rattle.xl_nfs_state.specs.declared.owner.OwnerRow.{OwnerRow}
use Rattle.xl_nfs_state.specs.declared.owner.SeqidState.{SeqidState}
use Rattle.xl_nfs_state.specs.declared.stateid.StateidRow.{StateidRow}
use Rattle.xl_core.specs.Deeds.{all_done}
use Rattle.xl_core.specs.State.{CoreState}
use Rattle.xl_nfs_laws.specs.OpenSeqids.{closed_by, confirmed_by, seqids_after, CountsFor, HasAdvanced, IsAlone}
use Rattle.xl_nfs_opens.specs.Closing.{checked_as, checked, close_by, close_done, confirm_by, confirm_done, done_lists, ends_locks, failed, locks_gone, locks_under, next_seqids, standing_fault, state_told}
use Rattle.xl_nfs_opens.specs.Downgrades.{downgrade_by, downgrade_done, downgrade_fault}
use Rattle.xl_nfs_opens.specs.Opens.{repeated, stood}
use Rattle.xl_nfs_opens.specs.Plans.{carried, status_of}
use Rattle.xl_nfs_opens.specs.Results.{spelled}
use Rattle.xl_nfs_opens.specs.Seqids.{advances, closed_gone, counted, kept_for, seqid_set}
use Rattle.xl_nfs_opens.specs.declared.opener.Checked.{Checked}
use Rattle.xl_nfs_opens.specs.declared.opener.Checked.TheVariants.{Refused, Repeated, Passed}
use Rattle.xl_nfs_opens.specs.declared.told.Told.TheVariants.{Ended}
use Rattle.xl_nfs_opens.proofs.CheckLaws.{refuses}
use Rattle.xl_nfs_opens.proofs.EndLaws.{IfFault, standing_is_fault}
use Rattle.xl_nfs_laws.proofs.KeptResultLaws.{counted_kept}
use Rattle.xl_nfs_laws.proofs.OpenLaws.{counted_seqids, left_alone, passed_next}
use Rattle.xl_nfs_laws.proofs.PassedCheckLaws.{IfPassed, IsPassed, checked_passed}
use Rattle.xl_nfs_laws.proofs.FirstSeqidLaws.{differs}

-- ---- what is kept for others

kept_changed_apart : (i j : ℕ) (bytes : List ℕ) (ks : List KeptRow) → (i ≡ j → ⊥) → find (is_kept i) (changed (is_kept j) (with_result bytes) ks) ≡ find (is_kept i) ks
kept_changed_apart i j bytes [] other = refl
kept_changed_apart i j bytes (k ∷ ks) other =
    elim (cases_Bool (j == k.owner)) [
      | inl e ↦ rw e (let nor : (i == k.owner) ≡ false = differs i k.owner (λ d. other (d ∙ sym (eqb-true j k.owner e))) in rw nor refl)
      | inr e ↦ rw e (elim (cases_Bool (i == k.owner)) [
        | inl d ↦ rw d refl
        | inr d ↦ rw d (kept_changed_apart i j bytes ks other)
      ])
    ]

kept_behind_apart : (i j : ℕ) (bytes : List ℕ) (ks : List KeptRow) → (i ≡ j → ⊥) → find (is_kept i) (ks ++ record { owner = j; result = bytes } ∷ []) ≡ find (is_kept i) ks
kept_behind_apart i j bytes [] other = rw (differs i j other) refl
kept_behind_apart i j bytes (k ∷ ks) other =
    elim (cases_Bool (i == k.owner)) [
      | inl d ↦ rw d refl
      | inr d ↦ rw d (kept_behind_apart i j bytes ks other)
    ]

pub kept_apart : (i j : ℕ) (bytes : List ℕ) (l : NfsLists) → (i ≡ j → ⊥) → find (is_kept i) (kept_for j bytes l).kept ≡ find (is_kept i) l.kept
kept_apart i j bytes l other =
    elim (cases_Bool (is_some (find (is_kept j) l.kept))) [
      | inl e ↦ rw e (kept_changed_apart i j bytes l.kept other)
      | inr e ↦ rw e (elim (cases_Bool (is_some (find (is_owner j) l.owners))) [
        | inl d ↦ rw d (kept_behind_apart i j bytes l.kept other)
        | inr d ↦ rw d refl
      ])
    ]

pub gone_kept : (closed : Option ℕ) (l : NfsLists) → (closed_gone closed l).kept ≡ l.kept
gone_kept None l = refl
gone_kept (Some number) l = refl

counted_apart : (i owner : ℕ) (closed : Option ℕ) (seqids : SeqidState) (bytes : List ℕ) (l : NfsLists) → (i ≡ owner → ⊥) → find (is_kept i) (counted owner closed seqids bytes l).kept ≡ find (is_kept i) l.kept
unfolding counted
counted_apart i owner closed seqids bytes l other =
    kept_apart i owner bytes (closed_gone closed (seqid_set owner seqids l)) other ∙ ap (λ (ks : List KeptRow). find (is_kept i) ks) (gone_kept closed (seqid_set owner seqids l))

-- ---- a request that counts

pub same_rows : (x : Option OwnerRow) → option_map (λ (r : OwnerRow). r) x ≡ x
same_rows None = refl
same_rows (Some r) = refl

pub counted_advanced : (owner : ℕ) (o : OwnerRow) (closed : Option ℕ) (seqids : SeqidState) (bytes : List ℕ) (l : NfsLists) → find (is_owner owner) l.owners ≡ Some o → HasAdvanced owner o seqids bytes l (counted owner closed seqids bytes l)
counted_advanced owner o closed seqids bytes l found = record {
  own = counted_seqids owner owner closed seqids bytes l ∙ ap (λ (x : Option OwnerRow). option_map (λ (y : OwnerRow). if owner == owner then with_seqids seqids y else y) x) found ∙ rw (eq-eqb owner owner refl) refl;
  kept = counted_kept owner closed seqids bytes l (ap is_some found);
  others = λ number other. counted_seqids owner number closed seqids bytes l ∙ rw (differs number owner other) (same_rows (find (is_owner number) l.owners));
  others_kept = λ number other. counted_apart number owner closed seqids bytes l other;
}

-- with lists whose owners and kept results are these
pub advanced_with : (owner : ℕ) (o : OwnerRow) (seqids : SeqidState) (bytes : List ℕ) (old l m new : NfsLists) → l.owners ≡ old.owners → l.kept ≡ old.kept → new.owners ≡ m.owners → new.kept ≡ m.kept → HasAdvanced owner o seqids bytes l m → HasAdvanced owner o seqids bytes old new
advanced_with owner o seqids bytes old l m new rows kept new_rows new_kept come = record {
  own = ap (λ (os : List OwnerRow). find (is_owner owner) os) new_rows ∙ come.own;
  kept = ap (λ (ks : List KeptRow). find (is_kept owner) ks) new_kept ∙ come.kept;
  others = λ number other. ap (λ (os : List OwnerRow). find (is_owner number) os) new_rows ∙ come.others number other ∙ ap (λ (os : List OwnerRow). find (is_owner number) os) rows;
  others_kept = λ number other. ap (λ (ks : List KeptRow). find (is_kept number) ks) new_kept ∙ come.others_kept number other ∙ ap (λ (ks : List KeptRow). find (is_kept number) ks) kept;
}

-- it was done
pub done_advanced : (s : CoreState) (l : NfsLists) (r : StateidRow) (owner : ℕ) (o : OwnerRow) (seqids : SeqidState) (op seqid : ℕ) (confirmed : Bool) (closing : Option ℕ) (access deny : ℕ) (closed : Bool) → find (is_owner owner) l.owners ≡ Some o → HasAdvanced owner o (next_seqids op seqid confirmed closing) (spelled op (state_told s r)) l (done_lists s l r owner seqids op seqid confirmed closing access deny closed)
done_advanced s l r owner o seqids op seqid confirmed closing access deny closed found =
    let m : NfsLists = stood r.number r access deny closed l in
    let next : SeqidState = next_seqids op seqid confirmed closing in
    let new : NfsLists = done_lists s l r owner seqids op seqid confirmed closing access deny closed in
    advanced_with owner o next (spelled op (state_told s r)) l m new new refl refl refl refl (counted_advanced owner o seqids.closed next (spelled op (state_told s r)) m found)

-- it failed
pub failed_counts : (n : ℕ) (s : CoreState) (l : NfsLists) (current : Option ℕ) (owner : ℕ) (o : OwnerRow) (seqids : SeqidState) (op seqid : ℕ) (status : NfsStatus) → find (is_owner owner) l.owners ≡ Some o → CountsFor owner o (next_seqids op seqid seqids.confirmed None) op l (carried n s l (failed l current owner seqids op seqid status))
failed_counts n s l current owner o seqids op seqid status found = λ counts. rw counts (counted_advanced owner o seqids.closed (next_seqids op seqid seqids.confirmed None) (spelled op (Ended status)) l found)

pub failed_alone : (n : ℕ) (s : CoreState) (l : NfsLists) (current : Option ℕ) (owner : ℕ) (seqids : SeqidState) (op seqid : ℕ) (status : NfsStatus) → advances status ≡ false → IsAlone l s (carried n s l (failed l current owner seqids op seqid status))
failed_alone n s l current owner seqids op seqid status not = (left_alone l owner seqids op seqid status not, refl)

pub repeated_alone : (n : ℕ) (s : CoreState) (l : NfsLists) (current : Option ℕ) (k : Option KeptRow) → IsAlone l s (carried n s l (repeated s l current k))
repeated_alone n s l current None = (refl, refl)
repeated_alone n s l current (Some k) = (refl, refl)

-- ---- what passes, and what is refused

pub record IsNext (owner : ℕ) (o : OwnerRow) (seqids : SeqidState) (seqid : ℕ) : Type 0 where
  pub seqids_is : seqids ≡ o.seqids
  pub seqid_is : seqid ≡ next_seqid o.seqids.seqid

pub passed_is_next : (s : CoreState) (l : NfsLists) (current : Option ℕ) (op seqid : ℕ) (stateid : Stateid) (r : StateidRow) (owner : ℕ) (seqids : SeqidState) (o : OwnerRow) → checked s l current op seqid stateid ≡ Passed r owner seqids → find (is_owner owner) l.owners ≡ Some o → IsNext owner o seqids seqid
passed_is_next s l current op seqid stateid r owner seqids o e found =
    let passed : IsPassed l r owner seqids = subst (λ (c : Checked). IfPassed l c) e (checked_passed kinds.Open s l current op seqid stateid) in
    let same : seqids ≡ o.seqids = passed.seqids_is ∙ ap (λ (y : OwnerRow). y.seqids) (same_Some passed.row o (sym passed.owned ∙ found)) in
    record { seqids_is = same; seqid_is = passed_next s l current op seqid stateid r owner seqids e ∙ ap (λ (t : SeqidState). next_seqid t.seqid) same }

-- what is refused doesn't count
pub refused_not : (kind : OwnerKind) (s : CoreState) (l : NfsLists) (current : Option ℕ) (op seqid : ℕ) (stateid : Stateid) (status : NfsStatus) → checked_as kind s l current op seqid stateid ≡ Refused status → advances status ≡ false
refused_not kind s l current op seqid stateid = refuses (λ status. advances status ≡ false) kind s l current op seqid stateid (λ _. refl) (λ _ _. refl) refl (λ _ _ _ _ _ _ _ _. refl)

-- ---- OPEN_CONFIRM

confirm_done_counts : (n : ℕ) (s : CoreState) (l : NfsLists) (current : Option ℕ) (a : OpenConfirmArgs) (r : StateidRow) (owner : ℕ) (seqids : SeqidState) (o : OwnerRow) (fault : Option NfsStatus) → IfFault fault → find (is_owner owner) l.owners ≡ Some o
    → CountsFor owner o (next_seqids 20 a.seqid (confirmed_by (status_of (carried n s l (confirm_done s l current a r owner seqids fault)).0) seqids.confirmed) None) 20 l (carried n s l (confirm_done s l current a r owner seqids fault))
confirm_done_counts n s l current a r owner seqids o None fails found = λ counts. done_advanced s l r owner o seqids 20 a.seqid true None r.standing.access r.standing.deny false found
confirm_done_counts n s l current a r owner seqids o (Some status) fails found = rw fails.ok (failed_counts n s l current owner o seqids 20 a.seqid status found)

pub confirm_counts : (n : ℕ) (s : CoreState) (l : NfsLists) (current : Option ℕ) (a : OpenConfirmArgs) (r : StateidRow) (owner : ℕ) (seqids : SeqidState) (o : OwnerRow) → checked s l current 20 a.seqid a.stateid ≡ Passed r owner seqids → find (is_owner owner) l.owners ≡ Some o
    → CountsFor owner o (seqids_after o 20 (confirmed_by (status_of (carried n s l (confirm_by s l current a (checked s l current 20 a.seqid a.stateid))).0) o.seqids.confirmed) None) 20 l (carried n s l (confirm_by s l current a (checked s l current 20 a.seqid a.stateid)))
confirm_counts n s l current a r owner seqids o e found =
    let next : IsNext owner o seqids a.seqid = passed_is_next s l current 20 a.seqid a.stateid r owner seqids o e found in
    let fault = standing_fault r seqids a.stateid.seqid false in
    let status : NfsStatus = status_of (carried n s l (confirm_done s l current a r owner seqids fault)).0 in
    let come : next_seqids 20 a.seqid (confirmed_by status seqids.confirmed) None ≡ seqids_after o 20 (confirmed_by status o.seqids.confirmed) None = (λ i. next_seqids 20 (next.seqid_is i) (confirmed_by status (next.seqids_is i).confirmed) None) in
    subst (λ (c : Checked). CountsFor owner o (seqids_after o 20 (confirmed_by (status_of (carried n s l (confirm_by s l current a c)).0) o.seqids.confirmed) None) 20 l (carried n s l (confirm_by s l current a c))) (sym e)
    (subst (λ (t : SeqidState). CountsFor owner o t 20 l (carried n s l (confirm_done s l current a r owner seqids fault))) come (confirm_done_counts n s l current a r owner seqids o fault (standing_is_fault r seqids a.stateid.seqid false) found))

confirm_done_alone : (n : ℕ) (s : CoreState) (l : NfsLists) (current : Option ℕ) (a : OpenConfirmArgs) (r : StateidRow) (owner : ℕ) (seqids : SeqidState) (fault : Option NfsStatus) → advances (status_of (carried n s l (confirm_done s l current a r owner seqids fault)).0) ≡ false → IsAlone l s (carried n s l (confirm_done s l current a r owner seqids fault))
confirm_done_alone n s l current a r owner seqids None not = absurd (true≢false not)
confirm_done_alone n s l current a r owner seqids (Some status) not = failed_alone n s l current owner seqids 20 a.seqid status not

confirm_by_alone : (n : ℕ) (s : CoreState) (l : NfsLists) (current : Option ℕ) (a : OpenConfirmArgs) (c : Checked) → advances (status_of (carried n s l (confirm_by s l current a c)).0) ≡ false → IsAlone l s (carried n s l (confirm_by s l current a c))
confirm_by_alone n s l current a (Refused status) not = (refl, refl)
confirm_by_alone n s l current a (Repeated owner) not = repeated_alone n s l current (find (is_kept owner) l.kept)
confirm_by_alone n s l current a (Passed r owner seqids) not = confirm_done_alone n s l current a r owner seqids (standing_fault r seqids a.stateid.seqid false) not

pub confirm_alone : (n : ℕ) (s : CoreState) (l : NfsLists) (current : Option ℕ) (a : OpenConfirmArgs) → advances (status_of (carried n s l (confirm_by s l current a (checked s l current 20 a.seqid a.stateid))).0) ≡ false → IsAlone l s (carried n s l (confirm_by s l current a (checked s l current 20 a.seqid a.stateid)))
confirm_alone n s l current a not = confirm_by_alone n s l current a (checked s l current 20 a.seqid a.stateid) not

-- ---- OPEN_DOWNGRADE

downgrade_done_counts : (n : ℕ) (s : CoreState) (l : NfsLists) (current : Option ℕ) (a : OpenDowngradeArgs) (r : StateidRow) (owner : ℕ) (seqids : SeqidState) (o : OwnerRow) (fault : Option NfsStatus) → find (is_owner owner) l.owners ≡ Some o
    → CountsFor owner o (next_seqids 21 a.seqid seqids.confirmed None) 21 l (carried n s l (downgrade_done s l current a r owner seqids fault))
downgrade_done_counts n s l current a r owner seqids o None found = λ counts. done_advanced s l r owner o seqids 21 a.seqid seqids.confirmed None a.access a.deny false found
downgrade_done_counts n s l current a r owner seqids o (Some status) found = failed_counts n s l current owner o seqids 21 a.seqid status found

pub downgrade_counts : (n : ℕ) (s : CoreState) (l : NfsLists) (current : Option ℕ) (a : OpenDowngradeArgs) (r : StateidRow) (owner : ℕ) (seqids : SeqidState) (o : OwnerRow) → checked s l current 21 a.seqid a.stateid ≡ Passed r owner seqids → find (is_owner owner) l.owners ≡ Some o
    → CountsFor owner o (seqids_after o 21 o.seqids.confirmed None) 21 l (carried n s l (downgrade_by s l current a (checked s l current 21 a.seqid a.stateid)))
downgrade_counts n s l current a r owner seqids o e found =
    let next : IsNext owner o seqids a.seqid = passed_is_next s l current 21 a.seqid a.stateid r owner seqids o e found in
    let fault = downgrade_fault r seqids a in
    let come : next_seqids 21 a.seqid seqids.confirmed None ≡ seqids_after o 21 o.seqids.confirmed None = (λ i. next_seqids 21 (next.seqid_is i) (next.seqids_is i).confirmed None) in
    subst (λ (c : Checked). CountsFor owner o (seqids_after o 21 o.seqids.confirmed None) 21 l (carried n s l (downgrade_by s l current a c))) (sym e)
    (subst (λ (t : SeqidState). CountsFor owner o t 21 l (carried n s l (downgrade_done s l current a r owner seqids fault))) come (downgrade_done_counts n s l current a r owner seqids o fault found))

downgrade_done_alone : (n : ℕ) (s : CoreState) (l : NfsLists) (current : Option ℕ) (a : OpenDowngradeArgs) (r : StateidRow) (owner : ℕ) (seqids : SeqidState) (fault : Option NfsStatus) → advances (status_of (carried n s l (downgrade_done s l current a r owner seqids fault)).0) ≡ false → IsAlone l s (carried n s l (downgrade_done s l current a r owner seqids fault))
downgrade_done_alone n s l current a r owner seqids None not = absurd (true≢false not)
downgrade_done_alone n s l current a r owner seqids (Some status) not = failed_alone n s l current owner seqids 21 a.seqid status not

downgrade_by_alone : (n : ℕ) (s : CoreState) (l : NfsLists) (current : Option ℕ) (a : OpenDowngradeArgs) (c : Checked) → advances (status_of (carried n s l (downgrade_by s l current a c)).0) ≡ false → IsAlone l s (carried n s l (downgrade_by s l current a c))
downgrade_by_alone n s l current a (Refused status) not = (refl, refl)
downgrade_by_alone n s l current a (Repeated owner) not = repeated_alone n s l current (find (is_kept owner) l.kept)
downgrade_by_alone n s l current a (Passed r owner seqids) not = downgrade_done_alone n s l current a r owner seqids (downgrade_fault r seqids a) not

pub downgrade_alone : (n : ℕ) (s : CoreState) (l : NfsLists) (current : Option ℕ) (a : OpenDowngradeArgs) → advances (status_of (carried n s l (downgrade_by s l current a (checked s l current 21 a.seqid a.stateid))).0) ≡ false → IsAlone l s (carried n s l (downgrade_by s l current a (checked s l current 21 a.seqid a.stateid)))
downgrade_alone n s l current a not = downgrade_by_alone n s l current a (checked s l current 21 a.seqid a.stateid) not

-- ---- CLOSE

close_done_counts : (n : ℕ) (s : CoreState) (l : NfsLists) (current : Option ℕ) (a : CloseArgs) (r : StateidRow) (owner : ℕ) (seqids : SeqidState) (o : OwnerRow) (fault : Option NfsStatus) → IfFault fault → find (is_owner owner) l.owners ≡ Some o
    → CountsFor owner o (next_seqids 4 a.seqid seqids.confirmed (closed_by (status_of (carried n s l (close_done s l current a r owner seqids fault)).0) r.number)) 4 l (carried n s l (close_done s l current a r owner seqids fault))
close_done_counts n s l current a r owner seqids o None fails found = λ counts.
    (let t = all_done n s (ends_locks l r (locks_under l r.number)) in
    let new : NfsLists = done_lists t l r owner seqids 4 a.seqid seqids.confirmed (Some r.number) r.standing.access r.standing.deny true in
    advanced_with owner o (next_seqids 4 a.seqid seqids.confirmed (Some r.number)) (spelled 4 (state_told t r)) l l new (locks_gone r.number new) refl refl refl refl (done_advanced t l r owner o seqids 4 a.seqid seqids.confirmed (Some r.number) r.standing.access r.standing.deny true found))
close_done_counts n s l current a r owner seqids o (Some status) fails found = rw fails.ok (failed_counts n s l current owner o seqids 4 a.seqid status found)

pub close_counts : (n : ℕ) (s : CoreState) (l : NfsLists) (current : Option ℕ) (a : CloseArgs) (r : StateidRow) (owner : ℕ) (seqids : SeqidState) (o : OwnerRow) → checked s l current 4 a.seqid a.stateid ≡ Passed r owner seqids → find (is_owner owner) l.owners ≡ Some o
    → CountsFor owner o (seqids_after o 4 o.seqids.confirmed (closed_by (status_of (carried n s l (close_by s l current a (checked s l current 4 a.seqid a.stateid))).0) r.number)) 4 l (carried n s l (close_by s l current a (checked s l current 4 a.seqid a.stateid)))
close_counts n s l current a r owner seqids o e found =
    let next : IsNext owner o seqids a.seqid = passed_is_next s l current 4 a.seqid a.stateid r owner seqids o e found in
    let fault = standing_fault r seqids a.stateid.seqid true in
    let status : NfsStatus = status_of (carried n s l (close_done s l current a r owner seqids fault)).0 in
    let come : next_seqids 4 a.seqid seqids.confirmed (closed_by status r.number) ≡ seqids_after o 4 o.seqids.confirmed (closed_by status r.number) = (λ i. next_seqids 4 (next.seqid_is i) (next.seqids_is i).confirmed (closed_by status r.number)) in
    subst (λ (c : Checked). CountsFor owner o (seqids_after o 4 o.seqids.confirmed (closed_by (status_of (carried n s l (close_by s l current a c)).0) r.number)) 4 l (carried n s l (close_by s l current a c))) (sym e)
    (subst (λ (t : SeqidState). CountsFor owner o t 4 l (carried n s l (close_done s l current a r owner seqids fault))) come (close_done_counts n s l current a r owner seqids o fault (standing_is_fault r seqids a.stateid.seqid true) found))

close_done_alone : (n : ℕ) (s : CoreState) (l : NfsLists) (current : Option ℕ) (a : CloseArgs) (r : StateidRow) (owner : ℕ) (seqids : SeqidState) (fault : Option NfsStatus) → advances (status_of (carried n s l (close_done s l current a r owner seqids fault)).0) ≡ false → IsAlone l s (carried n s l (close_done s l current a r owner seqids fault))
close_done_alone n s l current a r owner seqids None not = absurd (true≢false not)
close_done_alone n s l current a r owner seqids (Some status) not = failed_alone n s l current owner seqids 4 a.seqid status not

close_by_alone : (n : ℕ) (s : CoreState) (l : NfsLists) (current : Option ℕ) (a : CloseArgs) (c : Checked) → advances (status_of (carried n s l (close_by s l current a c)).0) ≡ false → IsAlone l s (carried n s l (close_by s l current a c))
close_by_alone n s l current a (Refused status) not = (refl, refl)
close_by_alone n s l current a (Repeated owner) not = repeated_alone n s l current (find (is_kept owner) l.kept)
close_by_alone n s l current a (Passed r owner seqids) not = close_done_alone n s l current a r owner seqids (standing_fault r seqids a.stateid.seqid true) not

pub close_alone : (n : ℕ) (s : CoreState) (l : NfsLists) (current : Option ℕ) (a : CloseArgs) → advances (status_of (carried n s l (close_by s l current a (checked s l current 4 a.seqid a.stateid))).0) ≡ false → IsAlone l s (carried n s l (close_by s l current a (checked s l current 4 a.seqid a.stateid)))
close_alone n s l current a not = close_by_alone n s l current a (checked s l current 4 a.seqid a.stateid) not
