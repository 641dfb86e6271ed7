-- An open that comes is there by its number, one that is closed is marked, and what the seqid of an OPEN says.
use Rattle.std.proofs.Common.{◌≡◌, ℕ, ◌+◌, Bool, true, false, List, [], ◌∷◌, ◌++◌, Option, Some, None, is_some, option_map, refl, sym, ap, ◌∙◌, inl, inr, true≢false}
use Rattle.std.proofs.lemmas.Bool.{cases_Bool, eq-eqb, eqb-true}
use Rattle.std.proofs.lemmas.Option.{same_Some}
use Rattle.std.specs.Bool.{◌==◌}
use Rattle.std.specs.List.{find}
use Rattle.std.specs.Option.{option_and_then}
use Rattle.std.specs.Prelude.{◌&&◌}
use Rattle.xl_nfs.specs.Opens.{OpenArgsItem}
use Rattle.xl_nfs.specs.declared.opens.CloseArgs.{CloseArgs}
use Rattle.xl_nfs.specs.declared.status.NfsStatus.TheVariants as statuses
use Rattle.xl_nfs_state.specs.Filed.{changed}
use Rattle.xl_nfs_state.specs.Rows.{with_standing}
use Rattle.xl_nfs_state.specs.State.{NfsLists, next_owner, without, is_kept, is_owner, is_stateid, is_under, is_whose}
use Rattle.xl_nfs_state.specs.Verdict.{next_seqid}
use Rattle.xl_nfs_state.specs.declared.owner.OwnerRow.{OwnerRow}
use Rattle.xl_nfs_state.specs.declared.owner.SeqidState.{SeqidState}
use Rattle.xl_nfs_state.specs.declared.stateid.Holder.{Holder}
use Rattle.xl_nfs_state.specs.declared.stateid.Holder.TheVariants as holders
use Rattle.xl_nfs_state.specs.declared.stateid.Standing.{Standing}
use Rattle.xl_nfs_state.specs.declared.stateid.StateidRow.{StateidRow}
use Rattle.xl_nfs_state.specs.declared.stateid.Whose.TheVariants as whose
use Rattle.xl_core.specs.Deeds.{all_done}
use Rattle.xl_core.specs.State.{CoreState, drawn}
use Rattle.xl_nfs_opens.specs.Closing.{ends_locks, locks_under, next_seqids, state_told, close_done}
use Rattle.xl_nfs_laws.specs.OpenLaws.{can_come}
use Rattle.xl_nfs_opens.specs.Opens.{can_stand, delegated, delegated_in, delegation_row, either_bits, entered, open_row, open_seqids, granted_more, granted_new, judged_by, judged, open_judged, stood}
use Rattle.xl_nfs_opens.specs.Plans.{carried}
use Rattle.xl_nfs_opens.specs.Results.{spelled}
use Rattle.xl_nfs_opens.specs.Seqids.{is_opener, closed_gone, seqid_set, kept_for, counted, opener_number, seated, seated_by, seated_new}
use Rattle.xl_nfs_opens.specs.declared.opener.Judged.{Judged}
use Rattle.xl_nfs_opens.specs.declared.opener.Judged.TheVariants as judgements
use Rattle.xl_nfs_opens.specs.declared.opener.Opener.{Opener}
use Rattle.xl_nfs_opens.specs.declared.told.Told.TheVariants.{Ended}
use Rattle.xl_nfs_opens.proofs.OwnerLaws.{number_gone}

-- ---- an open comes

pub found_behind : (r : StateidRow) (ss : List StateidRow) → find (is_stateid r.number) ss ≡ None → find (is_stateid r.number) (ss ++ r ∷ []) ≡ Some r
found_behind r [] e = rw (eq-eqb r.number r.number refl) refl
found_behind r (s ∷ ss) e =
    elim (cases_Bool (r.number == s.number)) [
      | inl h ↦ (let f : Some s ≡ None = rw h at e in absurd (true≢false (ap is_some f)))
      | inr h ↦ rw h (found_behind r ss (rw h at e))
    ]

pub kept_stateids : (owner : ℕ) (bytes : List ℕ) (l : NfsLists) → (kept_for owner bytes l).stateids ≡ l.stateids
kept_stateids owner bytes l =
    elim (cases_Bool (is_some (find (is_kept owner) l.kept))) [
      | inl e ↦ rw e refl
      | inr e ↦ rw e (elim (cases_Bool (is_some (find (is_owner owner) l.owners))) [
        | inl d ↦ rw d refl
        | inr d ↦ rw d refl
      ])
    ]

module _ {A : Type 0} where
  pub found_before : (p : A → Bool) (xs ys : List A) (x : A) → find p xs ≡ Some x → find p (xs ++ ys) ≡ Some x
  found_before p [] ys x e = absurd (true≢false (ap is_some (sym e)))
  found_before p (z ∷ xs) ys x e =
      elim (cases_Bool (p z)) [
        | inl h ↦ (let f : Some z ≡ Some x = rw h at e in rw h f)
        | inr h ↦ rw h (found_before p xs ys x (rw h at e))
      ]

-- what is there stays where a delegation comes
pub delegated_found : (p : StateidRow → Bool) (s : CoreState) (o : Opener) (file : ℕ) (write : Option Bool) (l : NfsLists) (r : StateidRow) → find p l.stateids ≡ Some r → find p (delegated s o file write l).stateids ≡ Some r
unfolding delegated_in
delegated_found p s o file None l r e = e
delegated_found p s o file (Some write) l r e =
    let row = delegation_row (s.counter + 1) o file write in
    elim (cases_Bool (can_stand row l)) [
      | inl h ↦ rw h (found_before p l.stateids (row ∷ []) r e)
      | inr h ↦ rw h e
    ]

pub new_open_comes : (n : ℕ) (s : CoreState) (l : NfsLists) (current : Option ℕ) (o : Opener) (a : OpenArgsItem) (file : ℕ) (confirmed : Bool) (write : Option Bool) → can_come s l o a file confirmed ≡ true → find (is_stateid (s.counter + 1)) (carried n s l (granted_new s l o a file confirmed write)).3.stateids ≡ Some (open_row (s.counter + 1) o (opener_number o l) file a)
unfolding entered
new_open_comes n s l current o a file confirmed write room =
    let row = open_row (s.counter + 1) o (opener_number o l) file a in
    let there : NfsLists = seated o (open_seqids a confirmed) l in
    let come : find (is_stateid (s.counter + 1)) (entered row there).stateids ≡ Some row = rw room (found_behind row (without (is_whose (whose.Stateid (s.counter + 1))) there.stateids) (number_gone (s.counter + 1) there.stateids)) in
    let whole : NfsLists = delegated (drawn s) o file write (entered row there) in
    ap (λ (ss : List StateidRow). find (is_stateid (s.counter + 1)) ss) (kept_stateids (opener_number o l) (spelled 18 (carried n s l (granted_new s l o a file confirmed write)).0) whole)
    ∙ delegated_found (is_stateid (s.counter + 1)) (drawn s) o file write (entered row there) row come

-- ---- an open is closed

pub changed_found : (number : ℕ) (to : Standing) (ss : List StateidRow) (r : StateidRow) → find (is_stateid number) ss ≡ Some r → find (is_stateid number) (changed (is_stateid number) (with_standing to) ss) ≡ Some (with_standing to r)
changed_found number to [] r e = absurd (true≢false (ap is_some (sym e)))
changed_found number to (s ∷ ss) r e =
    elim (cases_Bool (number == s.number)) [
      | inl h ↦ (let f : Some s ≡ Some r = rw h at e in rw h (rw h (ap (λ (x : StateidRow). Some (with_standing to x)) (same_Some s r f))))
      | inr h ↦ rw h (rw h (changed_found number to ss r (rw h at e)))
    ]

pub left_found : {A : Type 0} (p q : A → Bool) (ss : List A) (r : A) → find p ss ≡ Some r → q r ≡ false → find p (without q ss) ≡ Some r
left_found p q [] r e stays = absurd (true≢false (ap is_some (sym e)))
left_found p q (s ∷ ss) r e stays =
    elim (cases_Bool (p s)) [
      | inl h ↦ (let f : Some s ≡ Some r = rw h at e in let same : s ≡ r = same_Some s r f in let d : q s ≡ false = ap q same ∙ stays in rw d (rw h f))
      | inr h ↦ elim (cases_Bool (q s)) [
        | inl d ↦ rw d (left_found p q ss r (rw h at e) stays)
        | inr d ↦ rw d (rw h (left_found p q ss r (rw h at e) stays))
      ]
    ]

not_under : (m by : ℕ) (h : Holder) → h ≡ holders.Open by → is_under m h ≡ false
not_under m by h e = ap (λ (x : Holder). is_under m x) e

pub still_there : (closed : Option ℕ) (l : NfsLists) (r : StateidRow) (by : ℕ) → find (is_stateid r.number) l.stateids ≡ Some r → r.holder ≡ holders.Open by → (closed ≡ Some r.number → ⊥) → find (is_stateid r.number) (closed_gone closed l).stateids ≡ Some r
still_there None l r by found holds other = found
still_there (Some m) l r by found holds other =
    left_found (is_stateid r.number) (is_whose (whose.Stateid m)) l.stateids r found (elim (cases_Bool (m == r.number)) [
      | inl h ↦ absurd (other (ap (λ (x : ℕ). Some x) (eqb-true m r.number h)))
      | inr h ↦ rw h (not_under m by r.holder holds)
    ])

pub close_marks : (n : ℕ) (s : CoreState) (l : NfsLists) (current : Option ℕ) (a : CloseArgs) (r : StateidRow) (owner by : ℕ) (seqids : SeqidState) → find (is_stateid r.number) l.stateids ≡ Some r → r.holder ≡ holders.Open by → (seqids.closed ≡ Some r.number → ⊥) → option_map (λ (x : StateidRow). x.standing.closed) (find (is_stateid r.number) (carried n s l (close_done s l current a r owner seqids None)).3.stateids) ≡ Some true
unfolding counted
close_marks n s l current a r owner by seqids found holds other =
    let t = all_done n s (ends_locks l r (locks_under l r.number)) in
    let to : Standing = record { seqid = next_seqid r.standing.seqid; access = r.standing.access; deny = r.standing.deny; closed = true } in
    let after : NfsLists = seqid_set owner (next_seqids 4 a.seqid seqids.confirmed (Some r.number)) (stood r.number r r.standing.access r.standing.deny true l) in
    let there : find (is_stateid r.number) (closed_gone seqids.closed after).stateids ≡ Some (with_standing to r) = still_there seqids.closed after (with_standing to r) by (changed_found r.number to l.stateids r found) holds other in
    let left : find (is_stateid r.number) (without (is_whose (whose.Under r.number)) (closed_gone seqids.closed after).stateids) ≡ Some (with_standing to r) = left_found (is_stateid r.number) (is_whose (whose.Under r.number)) (closed_gone seqids.closed after).stateids (with_standing to r) there (not_under r.number by r.holder holds) in
    ap (λ (ss : List StateidRow). option_map (λ (x : StateidRow). x.standing.closed) (find (is_stateid r.number) (without (is_whose (whose.Under r.number)) ss))) (kept_stateids owner (spelled 4 (state_told t r)) (closed_gone seqids.closed after))
    ∙ ap (λ (x : Option StateidRow). option_map (λ (x : StateidRow). x.standing.closed) x) left

-- ---- an open is opened again

seated_new_there : (o : Opener) (seqids : SeqidState) (l : NfsLists) (r : StateidRow) (next : Option ℕ) → find (is_stateid r.number) l.stateids ≡ Some r → find (is_stateid r.number) (seated_new o seqids l next).stateids ≡ Some r
seated_new_there o seqids l r None found = found
seated_new_there o seqids l r (Some number) found = found

seated_by_there : (o : Opener) (seqids : SeqidState) (l : NfsLists) (r : StateidRow) (by : ℕ) (x : Option OwnerRow) → find (is_stateid r.number) l.stateids ≡ Some r → r.holder ≡ holders.Open by → (option_and_then (λ (y : OwnerRow). y.seqids.closed) x ≡ Some r.number → ⊥) → find (is_stateid r.number) (seated_by o seqids l x).stateids ≡ Some r
seated_by_there o seqids l r by None found holds other = seated_new_there o seqids l r (next_owner l.owners) found
seated_by_there o seqids l r by (Some y) found holds other = still_there y.seqids.closed (seqid_set y.number seqids l) r by found holds other

pub seated_there : (o : Opener) (seqids : SeqidState) (l : NfsLists) (r : StateidRow) (by : ℕ) → find (is_stateid r.number) l.stateids ≡ Some r → r.holder ≡ holders.Open by → (option_and_then (λ (y : OwnerRow). y.seqids.closed) (find (is_opener o) l.owners) ≡ Some r.number → ⊥) → find (is_stateid r.number) (seated o seqids l).stateids ≡ Some r
unfolding seated
seated_there o seqids l r by found holds other = seated_by_there o seqids l r by (find (is_opener o) l.owners) found holds other

pub more_is_had : (n : ℕ) (s : CoreState) (l : NfsLists) (current : Option ℕ) (o : Opener) (a : OpenArgsItem) (file : ℕ) (confirmed : Bool) (write : Option Bool) (r : StateidRow) (by : ℕ) → find (is_stateid r.number) l.stateids ≡ Some r → r.holder ≡ holders.Open by → (option_and_then (λ (y : OwnerRow). y.seqids.closed) (find (is_opener o) l.owners) ≡ Some r.number → ⊥)
    → find (is_stateid r.number) (carried n s l (granted_more s l o a file confirmed write r)).3.stateids ≡ Some (with_standing (record { seqid = next_seqid r.standing.seqid; access = either_bits r.standing.access a.access; deny = either_bits r.standing.deny a.deny; closed = false }) r)
more_is_had n s l current o a file confirmed write r by found holds other =
    let to : Standing = record { seqid = next_seqid r.standing.seqid; access = either_bits r.standing.access a.access; deny = either_bits r.standing.deny a.deny; closed = false } in
    let after : NfsLists = stood r.number r (either_bits r.standing.access a.access) (either_bits r.standing.deny a.deny) false l in
    let there : NfsLists = seated o (open_seqids a confirmed) after in
    ap (λ (ss : List StateidRow). find (is_stateid r.number) ss) (kept_stateids (opener_number o l) (spelled 18 (carried n s l (granted_more s l o a file confirmed write r)).0) (delegated s o file write there))
    ∙ delegated_found (is_stateid r.number) s o file write there (with_standing to r) (seated_there o (open_seqids a confirmed) after (with_standing to r) by (changed_found r.number to l.stateids r found) holds other)

-- ---- the seqid of an OPEN

pub next_goes_on : (l : NfsLists) (o : Opener) (r : OwnerRow) (seqid : ℕ) → find (is_opener o) l.owners ≡ Some r → r.seqids.confirmed ≡ true → seqid ≡ next_seqid r.seqids.seqid → judged l o seqid ≡ judgements.Next
unfolding judged
next_goes_on l o r seqid found confirmed next = ap (λ (x : Option OwnerRow). judged_by seqid x) found ∙ rw (eq-eqb seqid (next_seqid r.seqids.seqid) next) (rw confirmed refl)

differ : (a b : ℕ) → (a ≡ b → ⊥) → (a == b) ≡ false
differ a b other =
    elim (cases_Bool (a == b)) [
      | inl h ↦ absurd (other (eqb-true a b h))
      | inr h ↦ h
    ]

not_both : (seqid last op : ℕ) → (seqid ≡ last → op ≡ 18 → ⊥) → ((seqid == last) && (18 == op)) ≡ false
not_both seqid last op other =
    elim (cases_Bool (seqid == last)) [
      | inl h ↦ rw h (differ 18 op (λ e. other (eqb-true seqid last h) (sym e)))
      | inr h ↦ rw h refl
    ]

bad_judged : (l : NfsLists) (o : Opener) (r : OwnerRow) (seqid : ℕ) → find (is_opener o) l.owners ≡ Some r → r.seqids.confirmed ≡ true → (seqid ≡ next_seqid r.seqids.seqid → ⊥) → (seqid ≡ r.seqids.seqid → r.seqids.op ≡ 18 → ⊥) → judged l o seqid ≡ judgements.Bad
unfolding judged
bad_judged l o r seqid found confirmed next last =
    ap (λ (x : Option OwnerRow). judged_by seqid x) found ∙ rw (differ seqid (next_seqid r.seqids.seqid) next) (rw (not_both seqid r.seqids.seqid r.seqids.op last) (rw confirmed refl))

pub others_are_bad : (n : ℕ) (files : List (List ℕ)) (others : ℕ) (s : CoreState) (l : NfsLists) (current : Option ℕ) (at : ℕ) (o : Opener) (a : OpenArgsItem) (r : OwnerRow) → find (is_opener o) l.owners ≡ Some r → r.seqids.confirmed ≡ true → (a.seqid ≡ next_seqid r.seqids.seqid → ⊥) → (a.seqid ≡ r.seqids.seqid → r.seqids.op ≡ 18 → ⊥) → carried n s l (open_judged files others s l current at o a (judged l o a.seqid)) ≡ (Ended statuses.BadSeqid, current, [], l, s)
others_are_bad n files others s l current at o a r found confirmed next last =
    ap (λ (j : Judged). carried n s l (open_judged files others s l current at o a j)) (bad_judged l o r a.seqid found confirmed next last)
