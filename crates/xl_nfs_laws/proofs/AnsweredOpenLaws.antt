-- The stateid that an OPEN_CONFIRM, an OPEN_DOWNGRADE or a CLOSE is answered is that of its open as it stands then.
use Rattle.std.proofs.Common.{◌≡◌, ℕ, Bool, true, false, List, Option, Some, None, is_some, ◌++◌, refl, sym, ap, subst, ◌∙◌, inl, inr, true≢false}
use Rattle.std.proofs.lemmas.Bool.{cases_Bool, eq-eqb, eqb-true}
use Rattle.std.specs.Int.{w32, w64, to_be_bytes}
use Rattle.xl_base.specs.Stable.{Stable}
use Rattle.std.specs.Bool.{◌==◌}
use Rattle.std.specs.List.{find}
use Rattle.std.specs.Prelude.{IfSome}
use Rattle.xl_base.proofs.Members.{all_in}
use Rattle.xl_base.proofs.Searches.{find_in}
use Rattle.xl_base.specs.Lists.{IsIn}
use Rattle.xl_matrix.specs.declared.claim.Claim.{Claim}
use Rattle.xl_matrix.specs.declared.claim.Rwd.{Rwd}
use Rattle.xl_nfs.specs.declared.basics.Stateid.{Stateid}
use Rattle.xl_nfs.specs.declared.opens.CloseArgs.{CloseArgs}
use Rattle.xl_nfs.specs.declared.opens.OpenConfirmArgs.{OpenConfirmArgs}
use Rattle.xl_nfs.specs.declared.opens.OpenDowngradeArgs.{OpenDowngradeArgs}
use Rattle.xl_nfs.specs.declared.status.NfsStatus.{NfsStatus}
use Rattle.xl_nfs_state.specs.Rows.{with_standing}
use Rattle.xl_nfs_state.specs.State.{NfsLists, is_kept, is_stateid, is_under, is_whose}
use Rattle.xl_nfs_state.specs.Verdict.{next_seqid}
use Rattle.xl_nfs_state.specs.declared.kept.KeptRow.{KeptRow}
use Rattle.xl_nfs_state.specs.declared.owner.SeqidState.{SeqidState}
use Rattle.xl_nfs_state.specs.declared.stateid.Holder.{Holder}
use Rattle.xl_nfs_state.specs.declared.stateid.Standing.{Standing}
use Rattle.xl_nfs_state.specs.declared.stateid.StateidRow.{StateidRow}
use Rattle.xl_nfs_state.specs.declared.stateid.Whose.TheVariants as whose
use Rattle.xl_core.specs.Deeds.{all_done}
use Rattle.xl_core.specs.Settle.{give_back, share_has, weaken}
use Rattle.xl_core.specs.State.{CoreState}
use Rattle.xl_nfs_opens.specs.Closing.{checked, close_by, close_done, confirm_by, confirm_done, done_lists, ends_locks, locks_under, next_seqids, share_of_open, standing_fault, state_told}
use Rattle.xl_nfs_opens.specs.Downgrades.{downgrade_by, downgrade_done, downgrade_fault, first_fault, range_fault, weakens}
use Rattle.xl_nfs_opens.specs.Opens.{gives, repeated, rights_of, stood}
use Rattle.xl_nfs_opens.specs.Plans.{carried}
use Rattle.xl_nfs_opens.specs.Renewing.{stateid_of}
use Rattle.xl_nfs_opens.specs.Results.{spelled}
use Rattle.xl_nfs_opens.specs.Seqids.{closed_gone, counted, seqid_set}
use Rattle.xl_nfs_opens.specs.declared.opener.Checked.{Checked}
use Rattle.xl_nfs_opens.specs.declared.opener.Checked.TheVariants.{Passed, Refused, Repeated}
use Rattle.xl_nfs_opens.specs.declared.told.Told.{Told}
use Rattle.xl_nfs_opens.specs.declared.told.Told.TheVariants.{State}
use Rattle.xl_nfs_laws.specs.AnsweredStateids.{IsAnswered, IsNextOnOpen}
use Rattle.xl_nfs_laws.specs.Orderly.{IsHeldBy, IsOrderly, closes}
use Rattle.xl_nfs_laws.proofs.EnteredOpenLaws.{changed_found, kept_stateids, left_found}
use Rattle.xl_nfs_laws.proofs.ListOrderLaws.{closed_by, owned_by}
use Rattle.xl_nfs_laws.proofs.OpenCheckLaws.{passed_is}
use Rattle.xl_nfs_laws.proofs.OpenStateidLaws.{stands_exactly}

-- ---- a row that a request changes is there

-- it isn't among those that go
pub stays_named : (closed : Option ℕ) (l : NfsLists) (r : StateidRow) → find (is_stateid r.number) l.stateids ≡ Some r → ((m : ℕ) → closed ≡ Some m → is_whose (whose.Stateid m) r ≡ false) → find (is_stateid r.number) (closed_gone closed l).stateids ≡ Some r
stays_named None l r found stays = found
stays_named (Some m) l r found stays = left_found (is_stateid r.number) (is_whose (whose.Stateid m)) l.stateids r found (stays m refl)

pub done_stands : (s : CoreState) (l : NfsLists) (r : StateidRow) (owner : ℕ) (seqids : SeqidState) (op seqid : ℕ) (confirmed : Bool) (closing : Option ℕ) (access deny : ℕ) (closed : Bool) → find (is_stateid r.number) l.stateids ≡ Some r → ((m : ℕ) → seqids.closed ≡ Some m → is_whose (whose.Stateid m) r ≡ false)
    → find (is_stateid r.number) (done_lists s l r owner seqids op seqid confirmed closing access deny closed).stateids ≡ Some (with_standing (record { seqid = next_seqid r.standing.seqid; access = access; deny = deny; closed = closed }) r)
unfolding counted
done_stands s l r owner seqids op seqid confirmed closing access deny closed found stays =
    let to : Standing = record { seqid = next_seqid r.standing.seqid; access = access; deny = deny; closed = closed } in
    let after : NfsLists = seqid_set owner (next_seqids op seqid confirmed closing) (stood r.number r access deny closed l) in
    ap (λ (ss : List StateidRow). find (is_stateid r.number) ss) (kept_stateids owner (spelled op (state_told s r)) (closed_gone seqids.closed after))
    ∙ stays_named seqids.closed after (with_standing to r) (changed_found r.number to l.stateids r found) stays

-- what an owner's last request closed isn't an open that is live
pub open_stays : (s : CoreState) (l : NfsLists) (current : Option ℕ) (seqid : ℕ) (stateid : Stateid) (r : StateidRow) (w : ℕ) (seqids : SeqidState) → IsOrderly l → IsNextOnOpen s l current seqid stateid r w seqids → (m : ℕ) → seqids.closed ≡ Some m → is_whose (whose.Stateid m) r ≡ false
open_stays s l current seqid stateid r w seqids orderly is m e =
    elim (cases_Bool (m == r.number)) [
      | inr other ↦ rw other (ap (λ (h : Holder). is_under m h) is.opened.holder)
      | inl same ↦ absurd (true≢false (sym (shut (eqb-true m r.number same)) ∙ is.live))
    ]
  where
    there : IsIn r l.stateids × (is_stateid r.number r ≡ true)
    there = subst (λ (o : Option StateidRow). IfSome o (λ y. IsIn y l.stateids × (is_stateid r.number y ≡ true))) is.opened.found (find_in (is_stateid r.number) l.stateids)

    shut : m ≡ r.number → r.standing.closed ≡ true
    shut same =
        closed_by l.owners r r.holder w is.row (ap owned_by is.opened.holder) is.opened.owner (all_in (λ z. IsHeldBy l.owners z z.holder) r l.stateids orderly.held there.0)
        ∙ ap (λ (c : Option ℕ). closes c r.number) (sym (ap (λ (t : SeqidState). t.closed) is.seqids_is) ∙ e) ∙ eq-eqb m r.number same

-- ---- what is answered

abbrev pub stateid_in : Stateid → Told → Stateid
stateid_in other (State stateid) = stateid
stateid_in other _ = other

pub same_stateids : (a b : Stateid) → State a ≡ State b → a ≡ b
same_stateids a b e = ap (stateid_in a) e

-- a repeat is answered with the bytes that were kept
pub repeat_names : {P : Type 0} (n : ℕ) (s : CoreState) (l : NfsLists) (current : Option ℕ) (told : Stateid) (k : Option KeptRow) → (carried n s l (repeated s l current k)).0 ≡ State told → P
repeat_names n s l current told None e = absurd cc
repeat_names n s l current told (Some k) e = absurd cc

-- the core keeps its epoch
pub same_epoch : (s t : CoreState) (number seqid : ℕ) → s.stable ≡ t.stable → stateid_of s number seqid ≡ stateid_of t number seqid
unfolding stateid_of
same_epoch s t number seqid same = ap (λ (x : Stable). stateid_made x.epoch number seqid) same
  where
    stateid_made : ℕ → ℕ → ℕ → Stateid
    stateid_made epoch number seqid = record { seqid = seqid; other = to_be_bytes w32 epoch ++ to_be_bytes w64 number }

gives_stable : (n : ℕ) (s : CoreState) (x : Option Claim) → s.stable ≡ (all_done n s (gives x)).stable
unfolding give_back
gives_stable n s None = refl
gives_stable n s (Some claim) = refl

weakens_stable : (n : ℕ) (s : CoreState) (x : Option Claim) (access deny : Rwd) → s.stable ≡ (all_done n s (weakens x access deny)).stable
unfolding weaken
weakens_stable n s None access deny = refl
weakens_stable n s (Some claim) access deny =
    elim (cases_Bool (share_has claim.what access deny)) [
      | inl e ↦ rw e refl
      | inr e ↦ rw e refl
    ]

-- ---- OPEN_CONFIRM

confirm_passed : (n : ℕ) (s : CoreState) (l : NfsLists) (current : Option ℕ) (a : OpenConfirmArgs) (told : Stateid) (r : StateidRow) (w : ℕ) (seqids : SeqidState) (x : Option NfsStatus) → standing_fault r seqids a.stateid.seqid false ≡ x → IsOrderly l → IsNextOnOpen s l current a.seqid a.stateid r w seqids → (carried n s l (confirm_done s l current a r w seqids x)).0 ≡ State told
    → IsAnswered s l a.stateid told false (carried n s l (confirm_done s l current a r w seqids x))
confirm_passed n s l current a told r w seqids (Some status) e orderly is said = absurd cc
confirm_passed n s l current a told r w seqids None e orderly is said = record {
  was = r;
  row = with_standing (record { seqid = next_seqid r.standing.seqid; access = r.standing.access; deny = r.standing.deny; closed = false }) r;
  named = is.opened.number;
  found = is.opened.found;
  seqid = ((stands_exactly r seqids a.stateid.seqid false).0 e).0;
  stands = done_stands s l r w seqids 20 a.seqid true None r.standing.access r.standing.deny false is.opened.found (open_stays s l current a.seqid a.stateid r w seqids orderly is);
  told_is = sym (same_stateids (stateid_of s r.number (next_seqid r.standing.seqid)) told said);
  advanced = refl;
  holder = refl;
  client = refl;
  file = refl;
  closed_is = refl;
}

pub confirm_names : (n : ℕ) (s : CoreState) (l : NfsLists) (current : Option ℕ) (a : OpenConfirmArgs) (told : Stateid) → IsOrderly l → (carried n s l (confirm_by s l current a (checked s l current 20 a.seqid a.stateid))).0 ≡ State told → IsAnswered s l a.stateid told false (carried n s l (confirm_by s l current a (checked s l current 20 a.seqid a.stateid)))
confirm_names n s l current a told orderly = by (checked s l current 20 a.seqid a.stateid) refl
  where
    by : (c : Checked) → checked s l current 20 a.seqid a.stateid ≡ c → (carried n s l (confirm_by s l current a c)).0 ≡ State told → IsAnswered s l a.stateid told false (carried n s l (confirm_by s l current a c))
    by (Refused status) e said = absurd cc
    by (Repeated owner) e said = repeat_names n s l current told (find (is_kept owner) l.kept) said
    by (Passed r w seqids) e said = confirm_passed n s l current a told r w seqids (standing_fault r seqids a.stateid.seqid false) refl orderly (passed_is s l current 20 a.seqid a.stateid r w seqids e) said

-- ---- OPEN_DOWNGRADE

no_fault : (x y : Option NfsStatus) → first_fault x y ≡ None → x ≡ None
no_fault None y e = refl
no_fault (Some status) y e = absurd (true≢false (ap is_some e))

downgrade_stands : (r : StateidRow) (seqids : SeqidState) (a : OpenDowngradeArgs) → downgrade_fault r seqids a ≡ None → a.stateid.seqid ≡ r.standing.seqid
unfolding downgrade_fault
downgrade_stands r seqids a e = ((stands_exactly r seqids a.stateid.seqid true).0 (no_fault (standing_fault r seqids a.stateid.seqid true) (range_fault r a) e)).0

downgrade_passed : (n : ℕ) (s : CoreState) (l : NfsLists) (current : Option ℕ) (a : OpenDowngradeArgs) (told : Stateid) (r : StateidRow) (w : ℕ) (seqids : SeqidState) (x : Option NfsStatus) → downgrade_fault r seqids a ≡ x → IsOrderly l → IsNextOnOpen s l current a.seqid a.stateid r w seqids → (carried n s l (downgrade_done s l current a r w seqids x)).0 ≡ State told
    → IsAnswered s l a.stateid told false (carried n s l (downgrade_done s l current a r w seqids x))
downgrade_passed n s l current a told r w seqids (Some status) e orderly is said = absurd cc
downgrade_passed n s l current a told r w seqids None e orderly is said =
    let t = all_done n s (weakens (share_of_open s l r w) (rights_of a.access) (rights_of a.deny)) in
    record {
      was = r;
      row = with_standing (record { seqid = next_seqid r.standing.seqid; access = a.access; deny = a.deny; closed = false }) r;
      named = is.opened.number;
      found = is.opened.found;
      seqid = downgrade_stands r seqids a e;
      stands = done_stands s l r w seqids 21 a.seqid seqids.confirmed None a.access a.deny false is.opened.found (open_stays s l current a.seqid a.stateid r w seqids orderly is);
      told_is = sym (same_stateids (stateid_of s r.number (next_seqid r.standing.seqid)) told said) ∙ same_epoch s t r.number (next_seqid r.standing.seqid) (weakens_stable n s (share_of_open s l r w) (rights_of a.access) (rights_of a.deny));
      advanced = refl;
      holder = refl;
      client = refl;
      file = refl;
      closed_is = refl;
    }

pub downgrade_names : (n : ℕ) (s : CoreState) (l : NfsLists) (current : Option ℕ) (a : OpenDowngradeArgs) (told : Stateid) → IsOrderly l → (carried n s l (downgrade_by s l current a (checked s l current 21 a.seqid a.stateid))).0 ≡ State told → IsAnswered s l a.stateid told false (carried n s l (downgrade_by s l current a (checked s l current 21 a.seqid a.stateid)))
downgrade_names n s l current a told orderly = by (checked s l current 21 a.seqid a.stateid) refl
  where
    by : (c : Checked) → checked s l current 21 a.seqid a.stateid ≡ c → (carried n s l (downgrade_by s l current a c)).0 ≡ State told → IsAnswered s l a.stateid told false (carried n s l (downgrade_by s l current a c))
    by (Refused status) e said = absurd cc
    by (Repeated owner) e said = repeat_names n s l current told (find (is_kept owner) l.kept) said
    by (Passed r w seqids) e said = downgrade_passed n s l current a told r w seqids (downgrade_fault r seqids a) refl orderly (passed_is s l current 21 a.seqid a.stateid r w seqids e) said

-- ---- CLOSE

close_passed : (n : ℕ) (s : CoreState) (l : NfsLists) (current : Option ℕ) (a : CloseArgs) (told : Stateid) (r : StateidRow) (w : ℕ) (seqids : SeqidState) (x : Option NfsStatus) → standing_fault r seqids a.stateid.seqid true ≡ x → IsOrderly l → IsNextOnOpen s l current a.seqid a.stateid r w seqids → (carried n s l (close_done s l current a r w seqids x)).0 ≡ State told
    → IsAnswered s l a.stateid told true (carried n s l (close_done s l current a r w seqids x))
close_passed n s l current a told r w seqids (Some status) e orderly is said = absurd cc
close_passed n s l current a told r w seqids None e orderly is said =
    let t = all_done n s (ends_locks l r (locks_under l r.number)) in
    let u = all_done n t (gives (share_of_open t l r w)) in
    let row = with_standing (record { seqid = next_seqid r.standing.seqid; access = r.standing.access; deny = r.standing.deny; closed = true }) r in
    let done : NfsLists = done_lists t l r w seqids 4 a.seqid seqids.confirmed (Some r.number) r.standing.access r.standing.deny true in
    record {
      was = r;
      row = row;
      named = is.opened.number;
      found = is.opened.found;
      seqid = ((stands_exactly r seqids a.stateid.seqid true).0 e).0;
      stands = left_found (is_stateid r.number) (is_whose (whose.Under r.number)) done.stateids row
          (done_stands t l r w seqids 4 a.seqid seqids.confirmed (Some r.number) r.standing.access r.standing.deny true is.opened.found (open_stays s l current a.seqid a.stateid r w seqids orderly is))
          (ap (λ (h : Holder). is_under r.number h) is.opened.holder);
      told_is = sym (same_stateids (stateid_of t r.number (next_seqid r.standing.seqid)) told said) ∙ same_epoch t u r.number (next_seqid r.standing.seqid) (gives_stable n t (share_of_open t l r w));
      advanced = refl;
      holder = refl;
      client = refl;
      file = refl;
      closed_is = refl;
    }

pub close_names : (n : ℕ) (s : CoreState) (l : NfsLists) (current : Option ℕ) (a : CloseArgs) (told : Stateid) → IsOrderly l → (carried n s l (close_by s l current a (checked s l current 4 a.seqid a.stateid))).0 ≡ State told → IsAnswered s l a.stateid told true (carried n s l (close_by s l current a (checked s l current 4 a.seqid a.stateid)))
close_names n s l current a told orderly = by (checked s l current 4 a.seqid a.stateid) refl
  where
    by : (c : Checked) → checked s l current 4 a.seqid a.stateid ≡ c → (carried n s l (close_by s l current a c)).0 ≡ State told → IsAnswered s l a.stateid told true (carried n s l (close_by s l current a c))
    by (Refused status) e said = absurd cc
    by (Repeated owner) e said = repeat_names n s l current told (find (is_kept owner) l.kept) said
    by (Passed r w seqids) e said = close_passed n s l current a told r w seqids (standing_fault r seqids a.stateid.seqid true) refl orderly (passed_is s l current 4 a.seqid a.stateid r w seqids e) said
