-- A result that is kept is there for its owner, and how far the owner's requests have come.
use Rattle.std.proofs.Common.{◌≡◌, ℕ, ◌+◌, Bool, true, false, List, [], ◌∷◌, ◌++◌, Option, Some, None, is_some, refl, sym, ap, ◌∙◌, inl, inr, true≢false}
use Rattle.std.proofs.lemmas.Bool.{cases_Bool, eq-eqb, eqb-true}
use Rattle.std.specs.Bool.{◌==◌}
use Rattle.std.specs.List.{find}
use Rattle.std.specs.Prelude.{◌||◌}
use Rattle.xl_nfs.specs.Opens.{OpenArgsItem}
use Rattle.xl_nfs.specs.declared.status.NfsStatus.{NfsStatus}
use Rattle.xl_nfs_state.specs.Filed.{changed}
use Rattle.xl_nfs_state.specs.Rows.{with_seqids, with_result}
use Rattle.xl_nfs_state.specs.State.{NfsLists, is_kept, is_owner, is_whose, next_owner, with_stateids, without}
use Rattle.xl_nfs_state.specs.declared.kept.KeptRow.{KeptRow}
use Rattle.xl_nfs_state.specs.declared.owner.OwnerRow.{OwnerRow}
use Rattle.xl_nfs_state.specs.declared.owner.SeqidState.{SeqidState}
use Rattle.xl_nfs_state.specs.declared.stateid.StateidRow.{StateidRow}
use Rattle.xl_core.specs.Deeds.{all_done}
use Rattle.xl_core.specs.State.{CoreState, drawn}
use Rattle.xl_nfs_state.specs.declared.stateid.Whose.TheVariants as whose
use Rattle.xl_nfs.specs.declared.opens.CloseArgs.{CloseArgs}
use Rattle.xl_nfs.specs.declared.opens.OpenConfirmArgs.{OpenConfirmArgs}
use Rattle.xl_nfs.specs.declared.opens.OpenDowngradeArgs.{OpenDowngradeArgs}
use Rattle.xl_nfs_opens.specs.Closing.{ends_locks, locks_under, close_done, confirm_done, failed_lists, next_seqids, state_told}
use Rattle.xl_nfs_opens.specs.Downgrades.{downgrade_done}
use Rattle.xl_nfs_opens.specs.declared.told.Told.TheVariants.{Ended}
use Rattle.xl_nfs_opens.specs.Opens.{can_enter, can_stand, delegated, delegated_in, delegation_row, either_bits, entered, entered_in, granted_more, granted_new, open_row, open_seqids, refused_lists, stood}
use Rattle.xl_nfs_opens.specs.Plans.{carried}
use Rattle.xl_nfs_opens.specs.Results.{spelled}
use Rattle.xl_nfs_opens.specs.Seqids.{advances, closed_gone, counted, is_opener, is_room_for, kept_for, new_owner, number_by, opener_number, remembered, seated, seated_by, seqid_set}
use Rattle.xl_nfs_opens.specs.declared.opener.Opener.{Opener}
use Rattle.xl_nfs_opens.proofs.OwnerLaws.{named_there}

-- ---- a result is kept

abbrev result_of : List ℕ → ℕ → Option KeptRow
result_of bytes owner = Some (record { owner = owner; result = bytes })

kept_changed : (owner : ℕ) (bytes : List ℕ) (ks : List KeptRow) → is_some (find (is_kept owner) ks) ≡ true → find (is_kept owner) (changed (is_kept owner) (with_result bytes) ks) ≡ Some (record { owner = owner; result = bytes })
kept_changed owner bytes [] there = absurd (true≢false (sym there))
kept_changed owner bytes (k ∷ ks) there =
    elim (cases_Bool (owner == k.owner)) [
      | inl e ↦ rw e (rw e (ap (λ (m : ℕ). result_of bytes m) (sym (eqb-true owner k.owner e))))
      | inr e ↦ rw e (rw e (kept_changed owner bytes ks (rw e at there)))
    ]

kept_behind : (owner : ℕ) (bytes : List ℕ) (ks : List KeptRow) → is_some (find (is_kept owner) ks) ≡ false → find (is_kept owner) (ks ++ record { owner = owner; result = bytes } ∷ []) ≡ Some (record { owner = owner; result = bytes })
kept_behind owner bytes [] none = rw (eq-eqb owner owner refl) refl
kept_behind owner bytes (k ∷ ks) none =
    elim (cases_Bool (owner == k.owner)) [
      | inl e ↦ absurd (true≢false (rw e at none))
      | inr e ↦ rw e (kept_behind owner bytes ks (rw e at none))
    ]

-- a result that is kept for an owner that is there is the one that is found for it
kept_there : (owner : ℕ) (bytes : List ℕ) (l : NfsLists) → is_some (find (is_owner owner) l.owners) ≡ true → find (is_kept owner) (kept_for owner bytes l).kept ≡ Some (record { owner = owner; result = bytes })
kept_there owner bytes l there =
    elim (cases_Bool (is_some (find (is_kept owner) l.kept))) [
      | inl e ↦ rw e (kept_changed owner bytes l.kept e)
      | inr e ↦ rw e (rw there (kept_behind owner bytes l.kept e))
    ]

-- ---- the owner is there

seqid_set_there : (owner : ℕ) (seqids : SeqidState) (rs : List OwnerRow) → is_some (find (is_owner owner) rs) ≡ true → is_some (find (is_owner owner) (changed (is_owner owner) (with_seqids seqids) rs)) ≡ true
seqid_set_there owner seqids [] there = there
seqid_set_there owner seqids (r ∷ rs) there =
    elim (cases_Bool (owner == r.number)) [
      | inl e ↦ rw e (rw e refl)
      | inr e ↦ rw e (rw e (seqid_set_there owner seqids rs (rw e at there)))
    ]

owner_behind : (r : OwnerRow) (rs : List OwnerRow) → is_some (find (is_owner r.number) (rs ++ r ∷ [])) ≡ true
owner_behind r [] = rw (eq-eqb r.number r.number refl) refl
owner_behind r (x ∷ rs) =
    elim (cases_Bool (r.number == x.number)) [
      | inl e ↦ rw e refl
      | inr e ↦ rw e (owner_behind r rs)
    ]

pub gone_owners : (closed : Option ℕ) (l : NfsLists) → (closed_gone closed l).owners ≡ l.owners
gone_owners None l = refl
gone_owners (Some number) l = refl

counted_there : (owner : ℕ) (closed : Option ℕ) (seqids : SeqidState) (l : NfsLists) → is_some (find (is_owner owner) l.owners) ≡ true → is_some (find (is_owner owner) (closed_gone closed (seqid_set owner seqids l)).owners) ≡ true
counted_there owner closed seqids l there = ap (λ (rs : List OwnerRow). is_some (find (is_owner owner) rs)) (gone_owners closed (seqid_set owner seqids l)) ∙ seqid_set_there owner seqids l.owners there

seated_row : (o : Opener) (seqids : SeqidState) (l : NfsLists) (x : Option OwnerRow) (next : Option ℕ) → find (is_opener o) l.owners ≡ x → next_owner l.owners ≡ next → (is_some x || is_some next) ≡ true → is_some (find (is_owner (number_by x next)) (seated_by o seqids l x).owners) ≡ true
seated_row o seqids l (Some r) next found e room = counted_there r.number r.seqids.closed seqids l (named_there o l.owners r found)
seated_row o seqids l None (Some number) found e room = rw e (owner_behind (new_owner o seqids number) l.owners)
seated_row o seqids l None None found e room = absurd (true≢false (sym room))

seated_there : (o : Opener) (seqids : SeqidState) (l : NfsLists) → is_room_for o l ≡ true → is_some (find (is_owner (opener_number o l)) (seated o seqids l).owners) ≡ true
unfolding seated
seated_there o seqids l room = seated_row o seqids l (find (is_opener o) l.owners) (next_owner l.owners) refl refl room

-- ---- results that are kept

pub counted_kept : (owner : ℕ) (closed : Option ℕ) (seqids : SeqidState) (bytes : List ℕ) (l : NfsLists) → is_some (find (is_owner owner) l.owners) ≡ true → find (is_kept owner) (counted owner closed seqids bytes l).kept ≡ Some (record { owner = owner; result = bytes })
unfolding counted
counted_kept owner closed seqids bytes l there = kept_there owner bytes (closed_gone closed (seqid_set owner seqids l)) (counted_there owner closed seqids l there)

pub remembered_kept : (o : Opener) (seqids : SeqidState) (bytes : List ℕ) (l : NfsLists) → is_room_for o l ≡ true → find (is_kept (opener_number o l)) (remembered o seqids bytes l).kept ≡ Some (record { owner = opener_number o l; result = bytes })
unfolding remembered
remembered_kept o seqids bytes l room = rw room (kept_there (opener_number o l) bytes (seated o seqids l) (seated_there o seqids l room))

-- what is kept for an owner after an OPEN that was granted
granted_kept : (o : Opener) (seqids : SeqidState) (bytes : List ℕ) (l after : NfsLists) → after.owners ≡ (seated o seqids l).owners → is_room_for o l ≡ true → find (is_kept (opener_number o l)) (kept_for (opener_number o l) bytes after).kept ≡ Some (record { owner = opener_number o l; result = bytes })
granted_kept o seqids bytes l after same room = kept_there (opener_number o l) bytes after (ap (λ (rs : List OwnerRow). is_some (find (is_owner (opener_number o l)) rs)) same ∙ seated_there o seqids l room)

come_owners : (r : StateidRow) (l : NfsLists) → (entered_in r l).owners ≡ l.owners
come_owners r l =
    elim (cases_Bool (can_enter r l)) [
      | inl e ↦ rw e refl
      | inr e ↦ rw e refl
    ]

pub entered_owners : (r : StateidRow) (l : NfsLists) → (entered r l).owners ≡ l.owners
unfolding entered
entered_owners r l = come_owners r (with_stateids l (without (is_whose (whose.Stateid r.number)) l.stateids))

pub delegated_owners : (s : CoreState) (o : Opener) (file : ℕ) (write : Option Bool) (l : NfsLists) → (delegated s o file write l).owners ≡ l.owners
unfolding delegated_in
delegated_owners s o file None l = refl
delegated_owners s o file (Some write) l =
    elim (cases_Bool (can_stand (delegation_row (s.counter + 1) o file write) l)) [
      | inl e ↦ rw e refl
      | inr e ↦ rw e refl
    ]

pub new_kept : (n : ℕ) (s : CoreState) (l : NfsLists) (current : Option ℕ) (o : Opener) (a : OpenArgsItem) (file : ℕ) (confirmed : Bool) (write : Option Bool) → is_room_for o l ≡ true → find (is_kept (opener_number o l)) (carried n s l (granted_new s l o a file confirmed write)).3.kept ≡ Some (record { owner = opener_number o l; result = spelled 18 (carried n s l (granted_new s l o a file confirmed write)).0 })
new_kept n s l current o a file confirmed write room =
    let row = open_row (s.counter + 1) o (opener_number o l) file a in
    let there : NfsLists = seated o (open_seqids a confirmed) l in
    granted_kept o (open_seqids a confirmed) (spelled 18 (carried n s l (granted_new s l o a file confirmed write)).0) l (delegated (drawn s) o file write (entered row there)) (delegated_owners (drawn s) o file write (entered row there) ∙ entered_owners row there) room

pub more_kept : (n : ℕ) (s : CoreState) (l : NfsLists) (current : Option ℕ) (o : Opener) (a : OpenArgsItem) (file : ℕ) (confirmed : Bool) (write : Option Bool) (r : StateidRow) → is_room_for o l ≡ true → find (is_kept (opener_number o l)) (carried n s l (granted_more s l o a file confirmed write r)).3.kept ≡ Some (record { owner = opener_number o l; result = spelled 18 (carried n s l (granted_more s l o a file confirmed write r)).0 })
more_kept n s l current o a file confirmed write r room =
    let after : NfsLists = stood r.number r (either_bits r.standing.access a.access) (either_bits r.standing.deny a.deny) false l in
    let there : NfsLists = seated o (open_seqids a confirmed) after in
    granted_kept o (open_seqids a confirmed) (spelled 18 (carried n s l (granted_more s l o a file confirmed write r)).0) after (delegated s o file write there) (delegated_owners s o file write there) room

pub confirm_kept : (n : ℕ) (s : CoreState) (l : NfsLists) (current : Option ℕ) (a : OpenConfirmArgs) (r : StateidRow) (owner : ℕ) (seqids : SeqidState) → is_some (find (is_owner owner) l.owners) ≡ true → find (is_kept owner) (carried n s l (confirm_done s l current a r owner seqids None)).3.kept ≡ Some (record { owner = owner; result = spelled 20 (carried n s l (confirm_done s l current a r owner seqids None)).0 })
confirm_kept n s l current a r owner seqids there = counted_kept owner seqids.closed (next_seqids 20 a.seqid true None) (spelled 20 (state_told s r)) (stood r.number r r.standing.access r.standing.deny false l) there

pub downgrade_kept : (n : ℕ) (s : CoreState) (l : NfsLists) (current : Option ℕ) (a : OpenDowngradeArgs) (r : StateidRow) (owner : ℕ) (seqids : SeqidState) → is_some (find (is_owner owner) l.owners) ≡ true → find (is_kept owner) (carried n s l (downgrade_done s l current a r owner seqids None)).3.kept ≡ Some (record { owner = owner; result = spelled 21 (carried n s l (downgrade_done s l current a r owner seqids None)).0 })
downgrade_kept n s l current a r owner seqids there = counted_kept owner seqids.closed (next_seqids 21 a.seqid seqids.confirmed None) (spelled 21 (state_told s r)) (stood r.number r a.access a.deny false l) there

pub close_kept : (n : ℕ) (s : CoreState) (l : NfsLists) (current : Option ℕ) (a : CloseArgs) (r : StateidRow) (owner : ℕ) (seqids : SeqidState) → is_some (find (is_owner owner) l.owners) ≡ true → find (is_kept owner) (carried n s l (close_done s l current a r owner seqids None)).3.kept ≡ Some (record { owner = owner; result = spelled 4 (carried n s l (close_done s l current a r owner seqids None)).0 })
close_kept n s l current a r owner seqids there =
    let t = all_done n s (ends_locks l r (locks_under l r.number)) in
    counted_kept owner seqids.closed (next_seqids 4 a.seqid seqids.confirmed (Some r.number)) (spelled 4 (state_told t r)) (stood r.number r r.standing.access r.standing.deny true l) there

pub failure_kept : (l : NfsLists) (owner : ℕ) (seqids : SeqidState) (op seqid : ℕ) (status : NfsStatus) → advances status ≡ true → is_some (find (is_owner owner) l.owners) ≡ true → find (is_kept owner) (failed_lists l owner seqids op seqid status).kept ≡ Some (record { owner = owner; result = spelled op (Ended status) })
failure_kept l owner seqids op seqid status counts there = rw counts (counted_kept owner seqids.closed (next_seqids op seqid seqids.confirmed None) (spelled op (Ended status)) l there)

pub refusal_kept : (o : Opener) (a : OpenArgsItem) (confirmed : Bool) (status : NfsStatus) (l : NfsLists) → advances status ≡ true → is_room_for o l ≡ true → find (is_kept (opener_number o l)) (refused_lists o a confirmed status l).kept ≡ Some (record { owner = opener_number o l; result = spelled 18 (Ended status) })
refusal_kept o a confirmed status l counts room = rw counts (remembered_kept o (open_seqids a confirmed) (spelled 18 (Ended status)) l room)
