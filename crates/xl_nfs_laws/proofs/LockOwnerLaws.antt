-- What LOCK and RELEASE_LOCKOWNER leave of owners: how far their requests have come, and what is kept for them.
use Rattle.std.proofs.Common.{◌≡◌, ℕ, ◌+◌, Bool, true, false, not, ◌||◌, List, [], ◌∷◌, map, Option, Some, None, Ok, Err, Result, is_some, option_map, if◌then◌else◌, refl, sym, ap, subst, ◌∙◌, inl, inr, true≢false}
use Rattle.std.proofs.lemmas.Bool.{cases_Bool, eq-eqb}
use Rattle.std.proofs.lemmas.Map.Keys.{IsDistinct-tail, IsDistinct-head}
use Rattle.std.proofs.lemmas.Option.{same_Some}
use Rattle.std.specs.Bool.{◌==◌}
use Rattle.std.specs.List.{AllByRecursion, IsDistinct, find, list_any}
use Rattle.xl_nfs.specs.Locks.{LockArgsItem}
use Rattle.xl_nfs.specs.Outcomes.{is_ok}
use Rattle.xl_nfs.specs.declared.status.NfsStatus.{NfsStatus}
use Rattle.xl_nfs_state.proofs.SoundLaws.{fresh_number, rising_changed}
use Rattle.xl_nfs_state.specs.Alike.{owner_names_are}
use Rattle.xl_nfs_state.specs.Filed.{changed}
use Rattle.xl_nfs_state.specs.Keys.{owner_name, same_kind, same_owner_name}
use Rattle.xl_nfs_state.specs.Rows.{with_seqids}
use Rattle.xl_nfs_state.specs.State.{NfsLists, IsRising, hangs_on, is_kept, is_owner, is_owner_named, is_whose, next_owner, with_stateids, without, without_owner}
use Rattle.xl_nfs_state.specs.declared.client.ClientRow.{ClientRow}
use Rattle.xl_nfs_state.specs.declared.kept.KeptRow.{KeptRow}
use Rattle.xl_nfs_state.specs.declared.owner.OwnerKind.TheVariants as kinds
use Rattle.xl_nfs_state.specs.declared.owner.OwnerName.{OwnerName}
use Rattle.xl_nfs_state.specs.declared.owner.OwnerRow.{OwnerRow}
use Rattle.xl_nfs_state.specs.declared.owner.SeqidState.{SeqidState}
use Rattle.xl_nfs_state.specs.declared.stateid.StateidRow.{StateidRow}
use Rattle.xl_nfs_state.specs.declared.stateid.Whose.TheVariants as whose
use Rattle.xl_core.specs.Decide.{ask}
use Rattle.xl_core.specs.State.{CoreState, drawn}
use Rattle.xl_core.specs.declared.ask.Answer.{Answer}
use Rattle.xl_nfs_laws.proofs.OpenSeqidLaws.{gone_kept, kept_apart, same_rows}
use Rattle.xl_nfs_laws.proofs.OpenOrderLaws.{passes, rising_found}
use Rattle.xl_nfs_laws.proofs.KeptResultLaws.{counted_kept, remembered_kept}
use Rattle.xl_nfs_laws.proofs.OpenLaws.{counted_seqids, kept_owners}
use Rattle.xl_nfs_laws.proofs.FirstSeqidLaws.{differs, same_come, seated_come}
use Rattle.xl_nfs_opens.specs.Closing.{next_seqids, state_told}
use Rattle.xl_nfs_laws.specs.OpenLaws.{HasCome}
use Rattle.xl_nfs_opens.specs.Opens.{all_rooms, is_granted, stood}
use Rattle.xl_nfs_opens.specs.Plans.{carried, status_of}
use Rattle.xl_nfs_opens.specs.Renewing.{stateid_of}
use Rattle.xl_nfs_opens.specs.Results.{spelled}
use Rattle.xl_nfs_opens.specs.Seqids.{advances, is_opener, is_room_for, number_by, opener_number, remembered, seated, seated_by, seated_new, seqid_set}
use Rattle.xl_nfs_opens.specs.declared.opener.Opener.{Opener}
use Rattle.xl_nfs_opens.specs.declared.told.Told.{Told}
use Rattle.xl_nfs_opens.specs.declared.told.Told.TheVariants.{Ended, State}
use Rattle.xl_nfs_laws.specs.LockOwners.{CountsWithBoth, HaveBothCome, IsForgotten}
use Rattle.xl_nfs_locks.specs.Denials.{lock_told}
use Rattle.xl_nfs_locks.specs.FirstLocks.{both_refused, can_enter, counted_both, counted_open, entered, join_answered, join_to, joined_by, lock_row}
use Rattle.xl_nfs_locks.specs.Ranges.{lock_ask}
use Rattle.xl_nfs_locks.specs.Releases.{holds_any, release_of, released, without_found}
use Rattle.xl_nfs_locks.specs.declared.joining.BothOwners.{BothOwners}
use Rattle.xl_nfs_laws.proofs.LockOrderLaws.{counted_owners, next_seqid_set}

-- ---- the two owners are apart

-- a request of another owner leaves what is found by a name
pub unnamed_seqid_set : (p : OwnerRow → Bool) (seqids : SeqidState) (number : ℕ) (os : List OwnerRow) (w : OwnerRow) → ((x : OwnerRow) → p (with_seqids seqids x) ≡ p x) → find (is_owner number) os ≡ Some w → p w ≡ false → find p (changed (is_owner number) (with_seqids seqids) os) ≡ find p os
unnamed_seqid_set p seqids number [] w same found other = refl
unnamed_seqid_set p seqids number (x ∷ os) w same found other =
    elim (cases_Bool (number == x.number)) [
      | inl e ↦ (
          let f : Some x ≡ Some w = rw e at found in
          let no_x : p x ≡ false = ap p (same_Some x w f) ∙ other in
          let no_seqid_set : p (with_seqids seqids x) ≡ false = same x ∙ no_x in
          rw e (rw no_seqid_set (rw no_x refl)))
      | inr e ↦ rw e (elim (cases_Bool (p x)) [
        | inl d ↦ rw d refl
        | inr d ↦ rw d (unnamed_seqid_set p seqids number os w same (rw e at found) other)
      ])
    ]

apart : (o : Opener) (b : ℕ) (w : OwnerRow) (l : NfsLists) → IsRising l.owners → find (is_owner b) l.owners ≡ Some w → is_opener o w ≡ false → is_room_for o l ≡ true → b ≡ opener_number o l → ⊥
apart o b w l rising found other room = by (find (is_opener o) l.owners) (next_owner l.owners) refl refl room
  where
    by : (x : Option OwnerRow) (next : Option ℕ) → find (is_opener o) l.owners ≡ x → next_owner l.owners ≡ next → (is_some x || is_some next) ≡ true → b ≡ number_by x next → ⊥
    by (Some y) next e f is same =
        let there : find (is_owner y.number) l.owners ≡ Some y = rising_found (is_opener o) l.owners y rising e in
        let alike : w ≡ y = same_Some w y (sym found ∙ ap (λ (m : ℕ). find (is_owner m) l.owners) same ∙ there) in
        true≢false (sym (passes (is_opener o) l.owners y e) ∙ ap (is_opener o) (sym alike) ∙ other)
    by None (Some number) e f is same =
        let none : find (is_owner number) l.owners ≡ None = fresh_number l.owners number rising f in
        true≢false (ap is_some (sym found ∙ ap (λ (m : ℕ). find (is_owner m) l.owners) same ∙ none))
    by None None e f is same = true≢false (sym is)

-- an owner of opens is no lock owner
pub other_kind : (o : Opener) (w : OwnerRow) → w.name.kind ≡ kinds.Open → o.kind ≡ kinds.Lock → is_opener o w ≡ false
other_kind o w opens locks =
    let differ : same_kind o.kind w.name.kind ≡ false = (λ i. same_kind (locks i) (opens i)) in
    elim (cases_Bool (o.client == w.name.client)) [
      | inl e ↦ rw e (rw differ refl)
      | inr e ↦ rw e refl
    ]

-- ---- what is kept for others

new_kept : (o : Opener) (seqids : SeqidState) (l : NfsLists) (next : Option ℕ) → (seated_new o seqids l next).kept ≡ l.kept
new_kept o seqids l None = refl
new_kept o seqids l (Some number) = refl

seated_kept : (o : Opener) (seqids : SeqidState) (l : NfsLists) → (seated o seqids l).kept ≡ l.kept
unfolding seated
seated_kept o seqids l = by (find (is_opener o) l.owners)
  where
    by : (x : Option OwnerRow) → (seated_by o seqids l x).kept ≡ l.kept
    by None = new_kept o seqids l (next_owner l.owners)
    by (Some r) = gone_kept r.seqids.closed (seqid_set r.number seqids l)

remembered_apart : (i : ℕ) (o : Opener) (seqids : SeqidState) (bytes : List ℕ) (l : NfsLists) → is_room_for o l ≡ true → (i ≡ opener_number o l → ⊥) → find (is_kept i) (remembered o seqids bytes l).kept ≡ find (is_kept i) l.kept
unfolding remembered
remembered_apart i o seqids bytes l room other = rw room (kept_apart i (opener_number o l) bytes (seated o seqids l) other ∙ ap (λ (ks : List KeptRow). find (is_kept i) ks) (seated_kept o seqids l))

-- ---- both count

remembered_come : (o : Opener) (seqids : SeqidState) (bytes : List ℕ) (l : NfsLists) → IsRising l.owners → is_room_for o l ≡ true → HasCome o seqids l (remembered o seqids bytes l)
unfolding remembered
remembered_come o seqids bytes l rising room = rw room (same_come o seqids l _ (kept_owners (opener_number o l) bytes (seated o seqids l)) (seated_come o seqids l rising room))

both_come : (b : BothOwners) (w : OwnerRow) (o : Opener) (bytes : List ℕ) (l : NfsLists) → IsRising l.owners → find (is_owner b.number) l.owners ≡ Some w → is_opener o w ≡ false → is_room_for o l ≡ true → HaveBothCome b o bytes l (counted_both b o bytes l)
both_come b w o bytes l rising found other room =
    let first : SeqidState = next_seqids 12 b.open_seqid b.seqids.confirmed None in
    let second : SeqidState = next_seqids 12 b.lock_seqid true None in
    let k : NfsLists = counted_open b bytes l in
    let rows : k.owners ≡ changed (is_owner b.number) (with_seqids first) l.owners = counted_owners b.number b.seqids.closed first bytes l in
    let named : find (is_opener o) k.owners ≡ find (is_opener o) l.owners = ap (λ (os : List OwnerRow). find (is_opener o) os) rows ∙ unnamed_seqid_set (is_opener o) first b.number l.owners w (λ x. refl) found other in
    let next : next_owner k.owners ≡ next_owner l.owners = ap (λ (os : List OwnerRow). next_owner os) rows ∙ next_seqid_set (is_owner b.number) first l.owners in
    let number : opener_number o k ≡ opener_number o l = (λ i. number_by (named i) (next i)) in
    let room_then : is_room_for o k ≡ true = (λ i. is_some (named i) || is_some (next i)) ∙ room in
    let rising_then : IsRising k.owners = subst IsRising (sym rows) (rising_changed (is_owner b.number) first l.owners rising) in
    let come : HasCome o second k (remembered o second bytes k) = remembered_come o second bytes k rising_then room_then in
    let not_lock : b.number ≡ opener_number o k → ⊥ = λ e. apart o b.number w l rising found other room (e ∙ number) in
    record {
      open_owner =
          ap (λ (x : Option OwnerRow). option_map (λ (y : OwnerRow). y.seqids) x) (come.others b.number not_lock ∙ counted_seqids b.number b.number b.seqids.closed first bytes l ∙ ap (λ (x : Option OwnerRow). option_map (λ (y : OwnerRow). if b.number == b.number then with_seqids first y else y) x) found)
          ∙ rw (eq-eqb b.number b.number refl) refl;
      lock_owner = come.own;
      others = λ m no_open no_lock. come.others m (λ e. no_lock (e ∙ number)) ∙ counted_seqids b.number m b.seqids.closed first bytes l ∙ rw (differs m b.number no_open) (same_rows (find (is_owner m) l.owners));
      open_kept = remembered_apart b.number o second bytes k room_then not_lock ∙ counted_kept b.number b.seqids.closed first bytes l (ap is_some found);
      lock_kept = subst (λ (m : ℕ). find (is_kept m) (remembered o second bytes k).kept ≡ Some (record { owner = m; result = bytes })) number (remembered_kept o second bytes k room_then);
    }

-- ---- a LOCK under an open

entered_same : (r : StateidRow) (l : NfsLists) → ((entered r l).owners ≡ l.owners) × ((entered r l).kept ≡ l.kept)
unfolding entered
entered_same r l =
    let m : NfsLists = with_stateids l (without (is_whose (whose.Stateid r.number)) l.stateids) in
    elim (cases_Bool (can_enter r m)) [
      | inl e ↦ rw e (refl, refl)
      | inr e ↦ rw e (refl, refl)
    ]

both_same : (b : BothOwners) (o : Opener) (bytes : List ℕ) (old m new : NfsLists) → new.owners ≡ m.owners → new.kept ≡ m.kept → HaveBothCome b o bytes old m → HaveBothCome b o bytes old new
both_same b o bytes old m new rows kept come = record {
  open_owner = ap (λ (os : List OwnerRow). option_map (λ (x : OwnerRow). x.seqids) (find (is_owner b.number) os)) rows ∙ come.open_owner;
  lock_owner = ap (λ (os : List OwnerRow). option_map (λ (x : OwnerRow). x.seqids) (find (is_opener o) os)) rows ∙ come.lock_owner;
  others = λ number no_open no_lock. ap (λ (os : List OwnerRow). find (is_owner number) os) rows ∙ come.others number no_open no_lock;
  open_kept = ap (λ (ks : List KeptRow). find (is_kept b.number) ks) kept ∙ come.open_kept;
  lock_kept = ap (λ (ks : List KeptRow). find (is_kept (opener_number o old)) ks) kept ∙ come.lock_kept;
}

joined_counts : (n : ℕ) (s : CoreState) (l : NfsLists) (current : Option ℕ) (b : BothOwners) (w : OwnerRow) (o : Opener) (r : StateidRow) (q : Option StateidRow) → IsRising l.owners → find (is_owner b.number) l.owners ≡ Some w → is_opener o w ≡ false → is_room_for o l ≡ true → CountsWithBoth b o l (carried n s l (joined_by s l current b o r q))
joined_counts n s l current b w o r None rising found other room = λ counts.
    (let bytes : List ℕ = spelled 12 (State (stateid_of (drawn s) (s.counter + 1) 1)) in
    let m : NfsLists = counted_both b o bytes l in
    let row : StateidRow = lock_row (s.counter + 1) r b.number (opener_number o m) in
    both_same b o bytes l m (entered row m) (entered_same row m).0 (entered_same row m).1 (both_come b w o bytes l rising found other room))
joined_counts n s l current b w o r (Some q) rising found other room = λ counts.
    (let come = both_come b w o (spelled 12 (state_told s q)) (stood q.number q 0 0 false l) rising found other room in
    record { open_owner = come.open_owner; lock_owner = come.lock_owner; others = come.others; open_kept = come.open_kept; lock_kept = come.lock_kept })

refused_counts : (n : ℕ) (s : CoreState) (l : NfsLists) (current : Option ℕ) (b : BothOwners) (w : OwnerRow) (o : Opener) (told : Told) → IsRising l.owners → find (is_owner b.number) l.owners ≡ Some w → is_opener o w ≡ false → is_room_for o l ≡ true → CountsWithBoth b o l (carried n s l (both_refused l current b o told))
refused_counts n s l current b w o told rising found other room = λ counts. rw counts (both_come b w o (spelled 12 told) l rising found other room)

answered_counts : (n : ℕ) (s : CoreState) (l : NfsLists) (current : Option ℕ) (b : BothOwners) (w : OwnerRow) (o : Opener) (r : StateidRow) (q : Option StateidRow) (reclaim : Bool) (answer : Answer) → IsRising l.owners → find (is_owner b.number) l.owners ≡ Some w → is_opener o w ≡ false → is_room_for o l ≡ true → CountsWithBoth b o l (carried n s l (join_answered l current b o r q reclaim answer s))
answered_counts n s l current b w o r q reclaim answer rising found other room =
    elim (cases_Bool (is_granted answer)) [
      | inl e ↦ rw e (joined_counts n s l current b w o r q rising found other room)
      | inr e ↦ rw e (refused_counts n s l current b w o (lock_told s l reclaim answer) rising found other room)
    ]

pub to_counts : (n : ℕ) (s : CoreState) (l : NfsLists) (current : Option ℕ) (a : LockArgsItem) (b : BothOwners) (w : OwnerRow) (o : Opener) (r : StateidRow) (q : Option StateidRow) (last : Result ℕ NfsStatus) → IsRising l.owners → find (is_owner b.number) l.owners ≡ Some w → w.name.kind ≡ kinds.Open → o.kind ≡ kinds.Lock → is_room_for o l ≡ true → CountsWithBoth b o l (carried n s l (join_to l current a b o r q last))
to_counts n s l current a b w o r q (Err status) rising found opens locks room = refused_counts n s l current b w o (Ended status) rising found (other_kind o w opens locks) room
to_counts n s l current a b w o r q (Ok last) rising found opens locks room =
    let x = ask n all_rooms s (lock_ask o r.file a.kind a.reclaim a.offset last) in
    rw room (answered_counts n x.2 l current b w o r q a.reclaim x.0 rising found (other_kind o w opens locks) room)

-- ---- one that doesn't count

joined_stays : (n : ℕ) (s : CoreState) (l : NfsLists) (current : Option ℕ) (b : BothOwners) (o : Opener) (r : StateidRow) (q : Option StateidRow) → advances (status_of (carried n s l (joined_by s l current b o r q)).0) ≡ false → (carried n s l (joined_by s l current b o r q)).3 ≡ l
joined_stays n s l current b o r None counts_not = absurd (true≢false counts_not)
joined_stays n s l current b o r (Some q) counts_not = absurd (true≢false counts_not)

refused_stays : (n : ℕ) (s : CoreState) (l : NfsLists) (current : Option ℕ) (b : BothOwners) (o : Opener) (told : Told) → advances (status_of (carried n s l (both_refused l current b o told)).0) ≡ false → (carried n s l (both_refused l current b o told)).3 ≡ l
refused_stays n s l current b o told counts_not = rw counts_not refl

abbrev StaysUncounted : NfsLists → Told → NfsLists → Type 0
StaysUncounted l told new = advances (status_of told) ≡ false → new ≡ l

answered_stays : (n : ℕ) (s : CoreState) (l : NfsLists) (current : Option ℕ) (b : BothOwners) (o : Opener) (r : StateidRow) (q : Option StateidRow) (reclaim : Bool) (answer : Answer) → StaysUncounted l (carried n s l (join_answered l current b o r q reclaim answer s)).0 (carried n s l (join_answered l current b o r q reclaim answer s)).3
answered_stays n s l current b o r q reclaim answer =
    elim (cases_Bool (is_granted answer)) [
      | inl e ↦ rw e (joined_stays n s l current b o r q)
      | inr e ↦ rw e (refused_stays n s l current b o (lock_told s l reclaim answer))
    ]

room_stays : (n : ℕ) (s : CoreState) (l : NfsLists) (current : Option ℕ) (a : LockArgsItem) (b : BothOwners) (o : Opener) (r : StateidRow) (q : Option StateidRow) (last : ℕ) → StaysUncounted l (carried n s l (join_to l current a b o r q (Ok last))).0 (carried n s l (join_to l current a b o r q (Ok last))).3
room_stays n s l current a b o r q last =
    let x = ask n all_rooms s (lock_ask o r.file a.kind a.reclaim a.offset last) in
    elim (cases_Bool (is_room_for o l)) [
      | inl e ↦ rw e (answered_stays n x.2 l current b o r q a.reclaim x.0)
      | inr e ↦ rw e (λ counts_not. refl)
    ]

pub to_stays : (n : ℕ) (s : CoreState) (l : NfsLists) (current : Option ℕ) (a : LockArgsItem) (b : BothOwners) (o : Opener) (r : StateidRow) (q : Option StateidRow) (last : Result ℕ NfsStatus) → advances (status_of (carried n s l (join_to l current a b o r q last)).0) ≡ false → (carried n s l (join_to l current a b o r q last)).3 ≡ l
to_stays n s l current a b o r q (Err status) counts_not = refused_stays n s l current b o (Ended status) counts_not
to_stays n s l current a b o r q (Ok last) counts_not = room_stays n s l current a b o r q last counts_not

-- ---- RELEASE_LOCKOWNER

module _ {A : Type 0} where
  none_left : (p : A → Bool) (xs : List A) → find p (without p xs) ≡ None
  none_left p [] = refl
  none_left p (x ∷ xs) =
      elim (cases_Bool (p x)) [
        | inl e ↦ rw e (none_left p xs)
        | inr e ↦ rw e (rw e (none_left p xs))
      ]

  any_gone : (p : A → Bool) (xs : List A) → list_any p (without p xs) ≡ false
  any_gone p [] = refl
  any_gone p (x ∷ xs) =
      elim (cases_Bool (p x)) [
        | inl e ↦ rw e (any_gone p xs)
        | inr e ↦ rw e (rw e (any_gone p xs))
      ]

forgotten : (number : ℕ) (l : NfsLists) → IsForgotten number (without_owner number l)
forgotten number l = (none_left (is_owner number) l.owners, (any_gone (λ q. hangs_on number q.holder) l.stateids, any_gone (is_kept number) l.kept))

pub release_forgets : (n : ℕ) (s : CoreState) (l : NfsLists) (current : Option ℕ) (owner : List ℕ) (c : ClientRow) (r : OwnerRow) → is_ok (status_of (carried n s l (release_of s l current owner (Some c))).0) ≡ true → find (is_owner_named c.number kinds.Lock owner) l.owners ≡ Some r → IsForgotten r.number (carried n s l (release_of s l current owner (Some c))).3
unfolding released
release_forgets n s l current owner c r ok found =
    elim (cases_Bool (holds_any s c.id owner)) [
      | inl e ↦ (let f : false ≡ true = rw e at ok in absurd (true≢false (sym f)))
      | inr e ↦ rw e (subst (λ (x : Option OwnerRow). IsForgotten r.number (without_found l x)) (sym found) (forgotten r.number l))
    ]

alone_named : (p q : OwnerName) (number : ℕ) (os : List OwnerRow) → p ≡ q → AllByRecursion (λ (k : OwnerName). same_owner_name q k ≡ false) (map owner_name os) → find (λ x. same_owner_name p x.name) (without (is_owner number) os) ≡ None
alone_named p q number [] same all = refl
alone_named p q number (x ∷ os) same all =
    elim (cases_Bool (number == x.number)) [
      | inl e ↦ rw e (alone_named p q number os same all.1)
      | inr e ↦ rw e (let nor : same_owner_name p x.name ≡ false = ap (λ (k : OwnerName). same_owner_name k x.name) same ∙ all.0 in rw nor (alone_named p q number os same all.1))
    ]

-- where no two owners have one name
unnamed_left : (p : OwnerName) (os : List OwnerRow) (r : OwnerRow) → IsDistinct same_owner_name (map owner_name os) → find (λ x. same_owner_name p x.name) os ≡ Some r → find (λ x. same_owner_name p x.name) (without (is_owner r.number) os) ≡ None
unnamed_left p [] r distinct found = refl
unnamed_left p (x ∷ os) r distinct found =
    elim (cases_Bool (same_owner_name p x.name)) [
      | inl e ↦ (
          let f : Some x ≡ Some r = rw e at found in
          let here : (r.number == x.number) ≡ true = eq-eqb r.number x.number (ap (λ (y : OwnerRow). y.number) (sym (same_Some x r f))) in
          rw here (alone_named p x.name r.number os (owner_names_are p x.name e) (IsDistinct-head same_owner_name x.name (map owner_name os) distinct)))
      | inr e ↦
          let rest = unnamed_left p os r (IsDistinct-tail same_owner_name x.name (map owner_name os) distinct) (rw e at found) in
          elim (cases_Bool (r.number == x.number)) [
            | inl d ↦ rw d rest
            | inr d ↦ rw d (rw e rest)
          ]
    ]

without_unnamed : (l : NfsLists) (p : OwnerName) (x : Option OwnerRow) → find (λ (y : OwnerRow). same_owner_name p y.name) l.owners ≡ x → IsDistinct same_owner_name (map owner_name l.owners) → find (λ (y : OwnerRow). same_owner_name p y.name) (without_found l x).owners ≡ None
without_unnamed l p None found distinct = found
without_unnamed l p (Some r) found distinct = unnamed_left p l.owners r distinct found

pub release_unnames : (n : ℕ) (s : CoreState) (l : NfsLists) (current : Option ℕ) (owner : List ℕ) (c : ClientRow) → is_ok (status_of (carried n s l (release_of s l current owner (Some c))).0) ≡ true → IsDistinct same_owner_name (map owner_name l.owners) → find (is_owner_named c.number kinds.Lock owner) (carried n s l (release_of s l current owner (Some c))).3.owners ≡ None
unfolding released
release_unnames n s l current owner c ok distinct =
    elim (cases_Bool (holds_any s c.id owner)) [
      | inl e ↦ (let f : false ≡ true = rw e at ok in absurd (true≢false (sym f)))
      | inr e ↦ rw e (without_unnamed l (record { client = c.number; kind = kinds.Lock; owner = owner }) (find (is_owner_named c.number kinds.Lock owner) l.owners) refl distinct)
    ]

pub release_refused : (n : ℕ) (s : CoreState) (l : NfsLists) (current : Option ℕ) (owner : List ℕ) (c : Option ClientRow) → is_ok (status_of (carried n s l (release_of s l current owner c)).0) ≡ false → (carried n s l (release_of s l current owner c)).3 ≡ l
release_refused n s l current owner None refused = refl
release_refused n s l current owner (Some c) refused =
    elim (cases_Bool (holds_any s c.id owner)) [
      | inl e ↦ rw e refl
      | inr e ↦ (let f : true ≡ false = rw e at refused in absurd (true≢false f))
    ]

pub release_told : (n : ℕ) (s : CoreState) (l : NfsLists) (current : Option ℕ) (owner : List ℕ) (c : ClientRow) → is_ok (status_of (carried n s l (release_of s l current owner (Some c))).0) ≡ not (holds_any s c.id owner)
release_told n s l current owner c =
    elim (cases_Bool (holds_any s c.id owner)) [
      | inl e ↦ rw e refl
      | inr e ↦ rw e refl
    ]
