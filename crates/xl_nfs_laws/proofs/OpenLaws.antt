-- What the standard says of opens: repeats, seqids, closed opens, and what an open has.
use Rattle.std.proofs.Common.{◌≡◌, ℕ, ◌<◌, ◌^◌, Bool, true, false, List, [], ◌∷◌, Option, Some, None, is_some, option_map, refl, sym, ap, subst, ◌∙◌, inl, inr, arith}
use Rattle.std.proofs.lemmas.Bool.{cases_Bool, eq-eqb, eqb-true, true≢false}
use Rattle.std.specs.Bool.{◌==◌}
use Rattle.std.specs.List.{find}
use Rattle.std.specs.Prelude.{if◌then◌else◌, ◌||◌}
use Rattle.std.proofs.lemmas.Option.{same_Some}
use Rattle.xl_matrix.specs.Rights.{rights_lie_within}
use Rattle.xl_nfs.specs.Opens.{OpenArgsItem}
use Rattle.xl_nfs.specs.declared.basics.Stateid.{Stateid}
use Rattle.xl_nfs.specs.declared.opens.CloseArgs.{CloseArgs}
use Rattle.xl_nfs.specs.declared.opens.OpenConfirmArgs.{OpenConfirmArgs}
use Rattle.xl_nfs.specs.declared.opens.OpenDowngradeArgs.{OpenDowngradeArgs}
use Rattle.xl_nfs.specs.declared.status.NfsStatus.{NfsStatus}
use Rattle.xl_nfs_state.specs.Filed.{changed}
use Rattle.xl_nfs_state.specs.Rows.{with_seqids}
use Rattle.xl_nfs_state.specs.State.{NfsLists, is_kept, is_owner, is_stateid}
use Rattle.xl_nfs_state.specs.Verdict.{next_seqid}
use Rattle.xl_nfs_state.specs.declared.kept.KeptRow.{KeptRow}
use Rattle.xl_nfs_state.specs.declared.owner.OwnerKind.TheVariants as kinds
use Rattle.xl_nfs_state.specs.declared.owner.OwnerRow.{OwnerRow}
use Rattle.xl_nfs_state.specs.declared.owner.SeqidState.{SeqidState}
use Rattle.xl_nfs_state.specs.declared.stateid.StateidRow.{StateidRow}
use Rattle.xl_core.specs.State.{CoreState}
use Rattle.xl_nfs_opens.proofs.CheckLaws.{IsOwned, passes}
use Rattle.xl_nfs_opens.specs.Closing.{checked, confirm_by, close_by, failed_lists}
use Rattle.xl_nfs_opens.specs.Downgrades.{downgrade_by}
use Rattle.xl_nfs_laws.specs.OpenLaws.{IsRepeated}
use Rattle.xl_nfs_opens.specs.Opens.{rights_of, bits_of, either_bits, judged_by, judged, repeated, open_judged}
use Rattle.xl_nfs_opens.specs.Plans.{carried}
use Rattle.xl_nfs_opens.specs.Renewing.{number_of}
use Rattle.xl_nfs_opens.specs.Seqids.{advances, is_opener, closed_gone, seqid_set, kept_for, counted}
use Rattle.xl_nfs_opens.specs.declared.opener.Checked.TheVariants.{Repeated, Passed}
use Rattle.xl_nfs_opens.specs.declared.opener.Judged.TheVariants as judgements
use Rattle.xl_nfs_opens.specs.declared.opener.Opener.{Opener}

-- ---- repeats

pub repeat_kept : (n : ℕ) (s : CoreState) (l : NfsLists) (current : Option ℕ) (o : Option KeptRow) (k : KeptRow) → o ≡ Some k → IsRepeated k.result l s (carried n s l (repeated s l current o))
repeat_kept n s l current None k e = absurd (true≢false (ap is_some (sym e)))
repeat_kept n s l current (Some x) k e = subst (λ (y : KeptRow). IsRepeated y.result l s (carried n s l (repeated s l current (Some x)))) (same_Some x k e) (refl, refl, refl)

pub open_repeated : (n : ℕ) (files : List (List ℕ)) (others : ℕ) (s : CoreState) (l : NfsLists) (current : Option ℕ) (at : ℕ) (o : Opener) (a : OpenArgsItem) (number : ℕ) (k : KeptRow) → find (is_kept number) l.kept ≡ Some k → IsRepeated k.result l s (carried n s l (open_judged files others s l current at o a (judgements.Repeats number)))
open_repeated n files others s l current at o a number k e = repeat_kept n s l current (find (is_kept number) l.kept) k e

pub confirm_repeated : (n : ℕ) (s : CoreState) (l : NfsLists) (current : Option ℕ) (a : OpenConfirmArgs) (number : ℕ) (k : KeptRow) → find (is_kept number) l.kept ≡ Some k → IsRepeated k.result l s (carried n s l (confirm_by s l current a (Repeated number)))
confirm_repeated n s l current a number k e = repeat_kept n s l current (find (is_kept number) l.kept) k e

pub downgrade_repeated : (n : ℕ) (s : CoreState) (l : NfsLists) (current : Option ℕ) (a : OpenDowngradeArgs) (number : ℕ) (k : KeptRow) → find (is_kept number) l.kept ≡ Some k → IsRepeated k.result l s (carried n s l (downgrade_by s l current a (Repeated number)))
downgrade_repeated n s l current a number k e = repeat_kept n s l current (find (is_kept number) l.kept) k e

pub close_repeated : (n : ℕ) (s : CoreState) (l : NfsLists) (current : Option ℕ) (a : CloseArgs) (number : ℕ) (k : KeptRow) → find (is_kept number) l.kept ≡ Some k → IsRepeated k.result l s (carried n s l (close_by s l current a (Repeated number)))
close_repeated n s l current a number k e = repeat_kept n s l current (find (is_kept number) l.kept) k e

next_differs : (m : ℕ) → m < 2 ^ 32 → (m == next_seqid m) ≡ false
next_differs m le =
    elim (cases_Bool (m == next_seqid m)) [
      | inl e ↦ absurd (omega (arith, eqb-true m (next_seqid m) e, le))
      | inr e ↦ e
    ]

-- the last request of an owner once more is a repeat
repeat_row : (r : OwnerRow) (seqid : ℕ) → seqid ≡ r.seqids.seqid → r.seqids.op ≡ 18 → seqid < 2 ^ 32 → judged_by seqid (Some r) ≡ judgements.Repeats r.number
repeat_row r seqid same op le =
    let last : (seqid == r.seqids.seqid) ≡ true = eq-eqb seqid r.seqids.seqid same in
    let other : (seqid == next_seqid r.seqids.seqid) ≡ false = subst (λ (m : ℕ). (seqid == next_seqid m) ≡ false) same (next_differs seqid le) in
    rw other (rw last (rw (eq-eqb 18 r.seqids.op (sym op)) refl))

pub last_repeats : (l : NfsLists) (o : Opener) (r : OwnerRow) (seqid : ℕ) → find (is_opener o) l.owners ≡ Some r → seqid ≡ r.seqids.seqid → r.seqids.op ≡ 18 → seqid < 2 ^ 32 → judged l o seqid ≡ judgements.Repeats r.number
unfolding judged
last_repeats l o r seqid found same op le = ap (λ (x : Option OwnerRow). judged_by seqid x) found ∙ repeat_row r seqid same op le

-- ---- seqids

pub passed_next : (s : CoreState) (l : NfsLists) (current : Option ℕ) (op seqid : ℕ) (stateid : Stateid) (x : StateidRow) (w : ℕ) (t : SeqidState) → checked s l current op seqid stateid ≡ Passed x w t → seqid ≡ next_seqid t.seqid
passed_next s l current op seqid stateid = passes (λ x w t. seqid ≡ next_seqid t.seqid) kinds.Open s l current op seqid stateid (λ r w o file is live next. next)

-- a request that counts sets how far its owner's have come, and no other's
pub seqid_set_at : (number owner : ℕ) (seqids : SeqidState) (rs : List OwnerRow) → find (is_owner number) (changed (is_owner owner) (with_seqids seqids) rs) ≡ option_map (λ r. if number == owner then with_seqids seqids r else r) (find (is_owner number) rs)
seqid_set_at number owner seqids [] = refl
seqid_set_at number owner seqids (r ∷ rs) =
    elim (cases_Bool (owner == r.number)) [
      | inl e ↦ rw e (elim (cases_Bool (number == r.number)) [
        | inl d ↦ rw d (rw (eq-eqb number owner (eqb-true number r.number d ∙ sym (eqb-true owner r.number e))) refl)
        | inr d ↦ rw d (still number owner seqids r rs d e)
      ])
      | inr e ↦ rw e (elim (cases_Bool (number == r.number)) [
        | inl d ↦ rw d (rw (differ number owner r.number d e) refl)
        | inr d ↦ rw d (seqid_set_at number owner seqids rs)
      ])
    ]
  where
    differ : (m k j : ℕ) → (m == j) ≡ true → (k == j) ≡ false → (m == k) ≡ false
    differ m k j d e = elim (cases_Bool (m == k)) [
      | inl h ↦ absurd (true≢false (sym (eq-eqb k j (sym (eqb-true m k h) ∙ eqb-true m j d)) ∙ e))
      | inr h ↦ h
    ]

    apart : (m k j : ℕ) → (m == j) ≡ false → (k == j) ≡ true → (m == k) ≡ false
    apart m k j d e = elim (cases_Bool (m == k)) [
      | inl h ↦ absurd (true≢false (sym (eq-eqb m j (eqb-true m k h ∙ eqb-true k j e)) ∙ d))
      | inr h ↦ h
    ]

    same : (o : Option OwnerRow) → o ≡ option_map (λ y. y) o
    same None = refl
    same (Some y) = refl

    still : (m k : ℕ) (v : SeqidState) (x : OwnerRow) (xs : List OwnerRow) → (m == x.number) ≡ false → (k == x.number) ≡ true → find (is_owner m) xs ≡ option_map (λ y. if m == k then with_seqids v y else y) (find (is_owner m) xs)
    still m k v x xs d e = rw (apart m k x.number d e) (same (find (is_owner m) xs))

pub kept_owners : (owner : ℕ) (bytes : List ℕ) (l : NfsLists) → (kept_for owner bytes l).owners ≡ l.owners
kept_owners owner bytes l =
    elim (cases_Bool (is_some (find (is_kept owner) l.kept))) [
      | inl e ↦ rw e refl
      | inr e ↦ rw e (elim (cases_Bool (is_some (find (is_owner owner) l.owners))) [
        | inl d ↦ rw d refl
        | inr d ↦ rw d refl
      ])
    ]

gone_owners : (closed : Option ℕ) (l : NfsLists) → (closed_gone closed l).owners ≡ l.owners
gone_owners None l = refl
gone_owners (Some number) l = refl

pub counted_seqids : (owner number : ℕ) (closed : Option ℕ) (seqids : SeqidState) (bytes : List ℕ) (l : NfsLists) → find (is_owner number) (counted owner closed seqids bytes l).owners ≡ option_map (λ r. if number == owner then with_seqids seqids r else r) (find (is_owner number) l.owners)
unfolding counted
counted_seqids owner number closed seqids bytes l =
    ap (λ (rs : List OwnerRow). find (is_owner number) rs) (kept_owners owner bytes (closed_gone closed (seqid_set owner seqids l)) ∙ gone_owners closed (seqid_set owner seqids l))
    ∙ seqid_set_at number owner seqids l.owners

-- a request that doesn't count leaves all as it was
pub left_alone : (l : NfsLists) (owner : ℕ) (seqids : SeqidState) (op seqid : ℕ) (status : NfsStatus) → advances status ≡ false → failed_lists l owner seqids op seqid status ≡ l
left_alone l owner seqids op seqid status e = rw e refl

-- ---- a closed open

-- nothing more is done on it
pub closed_is_over : (s : CoreState) (l : NfsLists) (current : Option ℕ) (op seqid number : ℕ) (stateid : Stateid) (r x : StateidRow) (w : ℕ) (t : SeqidState) → number_of s stateid.other ≡ Some number → find (is_stateid number) l.stateids ≡ Some r → r.standing.closed ≡ true → checked s l current op seqid stateid ≡ Passed x w t → ⊥
closed_is_over s l current op seqid number stateid r x w t named found closed e = passes (λ _ _ _. ⊥) kinds.Open s l current op seqid stateid over x w t e
  where
    over : (y : StateidRow) (v : ℕ) (o : OwnerRow) → current ≡ Some y.file → IsOwned kinds.Open s l stateid y v o → y.standing.closed ≡ false → seqid ≡ next_seqid o.seqids.seqid → ⊥
    over y v o file is live next =
        let one : number ≡ y.number = same_Some number y.number (sym named ∙ is.number) in
        let same : r ≡ y = same_Some r y (sym found ∙ subst (λ (m : ℕ). find (is_stateid m) l.stateids ≡ Some y) (sym one) is.found) in
        true≢false (sym closed ∙ ap (λ (z : StateidRow). z.standing.closed) same ∙ live)

-- ---- what an open has

bits_have : (r w q v : Bool) → rights_lie_within (record { r = q; w = v; d = false }) (rights_of (bits_of (r || q) (w || v))) ≡ true
bits_have true true true true = refl
bits_have true true true false = refl
bits_have true true false true = refl
bits_have true true false false = refl
bits_have true false true true = refl
bits_have true false true false = refl
bits_have true false false true = refl
bits_have true false false false = refl
bits_have false true true true = refl
bits_have false true true false = refl
bits_have false true false true = refl
bits_have false true false false = refl
bits_have false false true true = refl
bits_have false false true false = refl
bits_have false false false true = refl
bits_have false false false false = refl

-- the rights of both have those of each
pub both_have_asked : (a b : ℕ) → rights_lie_within (rights_of b) (rights_of (either_bits a b)) ≡ true
unfolding either_bits
both_have_asked a b = bits_have (rights_of a).r (rights_of a).w (rights_of b).r (rights_of b).w
