-- How far the requests of an owner have come once an OPEN of its counted.
use Rattle.std.proofs.Common.{◌≡◌, ℕ, ◌+◌, ◌<◌, Bool, true, false, List, [], ◌∷◌, ◌++◌, Option, Some, None, is_some, option_map, refl, sym, ap, subst, ◌∙◌, inl, inr, arith, true≢false}
use Rattle.std.proofs.lemmas.Bool.{cases_Bool, eq-eqb, eqb-true}
use Rattle.std.proofs.lemmas.Option.{same_Some}
use Rattle.std.specs.Bool.{◌==◌}
use Rattle.std.specs.List.{AllByRecursion, find}
use Rattle.std.specs.Prelude.{◌||◌}
use Rattle.xl_nfs.specs.Opens.{OpenArgsItem}
use Rattle.xl_nfs.specs.declared.status.NfsStatus.{NfsStatus}
use Rattle.xl_nfs_state.specs.Filed.{changed}
use Rattle.xl_nfs_state.specs.Keys.{same_kind}
use Rattle.xl_nfs_state.specs.Rows.{with_seqids}
use Rattle.xl_nfs_state.specs.State.{NfsLists, IsRising, is_owner, next_owner}
use Rattle.xl_nfs_state.specs.declared.owner.OwnerKind.{OwnerKind}
use Rattle.xl_nfs_state.specs.declared.owner.OwnerKind.TheVariants.{Open as Opens, Lock as Locks}
use Rattle.xl_nfs_state.specs.declared.owner.OwnerRow.{OwnerRow}
use Rattle.xl_nfs_state.specs.declared.owner.SeqidState.{SeqidState}
use Rattle.xl_nfs_state.specs.declared.stateid.StateidRow.{StateidRow}
use Rattle.xl_core.specs.State.{CoreState, drawn}
use Rattle.xl_nfs_laws.specs.OpenLaws.{HasCome}
use Rattle.xl_nfs_opens.specs.Opens.{delegated, either_bits, entered, granted_more, granted_new, open_row, open_seqids, refused_lists, stood}
use Rattle.xl_nfs_opens.specs.Plans.{carried}
use Rattle.xl_nfs_opens.specs.Results.{spelled}
use Rattle.xl_nfs_opens.specs.Seqids.{advances, is_opener, is_room_for, new_owner, number_by, opener_number, remembered, seated, seated_by, seqid_set}
use Rattle.xl_nfs_opens.specs.declared.opener.Opener.{Opener}
use Rattle.xl_nfs_opens.specs.declared.told.Told.TheVariants.{Ended}
use Rattle.xl_nfs_laws.proofs.KeptResultLaws.{delegated_owners, entered_owners, gone_owners}
use Rattle.xl_nfs_laws.proofs.OpenLaws.{kept_owners}
use Rattle.xl_nfs_opens.proofs.OwnerLaws.{own_client}

pub differs : (a b : ℕ) → (a ≡ b → ⊥) → (a == b) ≡ false
differs a b other =
    elim (cases_Bool (a == b)) [
      | inl h ↦ absurd (other (eqb-true a b h))
      | inr h ↦ h
    ]

-- ---- the owner's own

pub behind : (x : OwnerRow) (p : OwnerRow → Bool) (rs : List OwnerRow) (r : OwnerRow) → AllByRecursion (λ q. x.number < q.number) rs → find p rs ≡ Some r → x.number < r.number
behind x p [] r below found = absurd (true≢false (ap is_some (sym found)))
behind x p (y ∷ rs) r below found =
    elim (cases_Bool (p y)) [
      | inl e ↦ (let f : Some y ≡ Some r = rw e at found in subst (λ (z : OwnerRow). x.number < z.number) (same_Some y r f) below.0)
      | inr e ↦ behind x p rs r below.1 (rw e at found)
    ]

own_seqid_set : (o : Opener) (seqids : SeqidState) (rs : List OwnerRow) (r : OwnerRow) → IsRising rs → find (is_opener o) rs ≡ Some r → option_map (λ (x : OwnerRow). x.seqids) (find (is_opener o) (changed (is_owner r.number) (with_seqids seqids) rs)) ≡ Some seqids
own_seqid_set o seqids [] r rising found = absurd (true≢false (ap is_some (sym found)))
own_seqid_set o seqids (x ∷ rs) r rising found =
    elim (cases_Bool (is_opener o x)) [
      | inl e ↦ (let f : Some x ≡ Some r = rw e at found in rw (eq-eqb r.number x.number (ap (λ (y : OwnerRow). y.number) (sym (same_Some x r f)))) (rw e refl))
      | inr e ↦
          let rest : find (is_opener o) rs ≡ Some r = rw e at found in
          let above : x.number < r.number = behind x (is_opener o) rs r rising.0 rest in
          rw (differs r.number x.number (λ d. omega (arith, d, above))) (rw e (own_seqid_set o seqids rs r rising.1 rest))
    ]

own_kind : (kind : OwnerKind) → same_kind kind kind ≡ true
own_kind Opens = refl
own_kind Locks = refl

pub is_own : (o : Opener) (seqids : SeqidState) (number : ℕ) → is_opener o (new_owner o seqids number) ≡ true
is_own o seqids number = rw (eq-eqb o.client o.client refl) (rw (own_kind o.kind) (own_client o.owner))

own_behind : (o : Opener) (seqids : SeqidState) (number : ℕ) (rs : List OwnerRow) → find (is_opener o) rs ≡ None → option_map (λ (x : OwnerRow). x.seqids) (find (is_opener o) (rs ++ new_owner o seqids number ∷ [])) ≡ Some seqids
own_behind o seqids number [] none = rw (is_own o seqids number) refl
own_behind o seqids number (x ∷ rs) none =
    elim (cases_Bool (is_opener o x)) [
      | inl e ↦ (let f : Some x ≡ None = rw e at none in absurd (true≢false (ap is_some f)))
      | inr e ↦ rw e (own_behind o seqids number rs (rw e at none))
    ]

own_seated : (o : Opener) (seqids : SeqidState) (l : NfsLists) (x : Option OwnerRow) (next : Option ℕ) → IsRising l.owners → find (is_opener o) l.owners ≡ x → next_owner l.owners ≡ next → (is_some x || is_some next) ≡ true → option_map (λ (y : OwnerRow). y.seqids) (find (is_opener o) (seated_by o seqids l x).owners) ≡ Some seqids
own_seated o seqids l (Some r) next rising found e room = ap (λ (rs : List OwnerRow). option_map (λ (y : OwnerRow). y.seqids) (find (is_opener o) rs)) (gone_owners r.seqids.closed (seqid_set r.number seqids l)) ∙ own_seqid_set o seqids l.owners r rising found
own_seated o seqids l None (Some number) rising found e room = rw e (own_behind o seqids number l.owners found)
own_seated o seqids l None None rising found e room = absurd (true≢false (sym room))

-- ---- the others'

others_seqid_set : (number owner : ℕ) (seqids : SeqidState) (rs : List OwnerRow) → (number ≡ owner → ⊥) → find (is_owner number) (changed (is_owner owner) (with_seqids seqids) rs) ≡ find (is_owner number) rs
others_seqid_set number owner seqids [] other = refl
others_seqid_set number owner seqids (r ∷ rs) other =
    elim (cases_Bool (owner == r.number)) [
      | inl e ↦ rw e (let not : (number == r.number) ≡ false = differs number r.number (λ d. other (d ∙ sym (eqb-true owner r.number e))) in rw not refl)
      | inr e ↦ rw e (elim (cases_Bool (number == r.number)) [
        | inl d ↦ rw d refl
        | inr d ↦ rw d (others_seqid_set number owner seqids rs other)
      ])
    ]

others_behind : (number : ℕ) (r : OwnerRow) (rs : List OwnerRow) → (number ≡ r.number → ⊥) → find (is_owner number) (rs ++ r ∷ []) ≡ find (is_owner number) rs
others_behind number r [] other = rw (differs number r.number other) refl
others_behind number r (x ∷ rs) other =
    elim (cases_Bool (number == x.number)) [
      | inl d ↦ rw d refl
      | inr d ↦ rw d (others_behind number r rs other)
    ]

others_seated : (o : Opener) (seqids : SeqidState) (l : NfsLists) (x : Option OwnerRow) (next : Option ℕ) (number : ℕ) → next_owner l.owners ≡ next → (number ≡ number_by x next → ⊥) → find (is_owner number) (seated_by o seqids l x).owners ≡ find (is_owner number) l.owners
others_seated o seqids l (Some r) next number e other = ap (λ (rs : List OwnerRow). find (is_owner number) rs) (gone_owners r.seqids.closed (seqid_set r.number seqids l)) ∙ others_seqid_set number r.number seqids l.owners other
others_seated o seqids l None (Some given) number e other = rw e (others_behind number (new_owner o seqids given) l.owners other)
others_seated o seqids l None None number e other = rw e refl

-- ---- a request that counted

pub seated_come : (o : Opener) (seqids : SeqidState) (l : NfsLists) → IsRising l.owners → is_room_for o l ≡ true → HasCome o seqids l (seated o seqids l)
unfolding seated
seated_come o seqids l rising room = record {
  own = own_seated o seqids l (find (is_opener o) l.owners) (next_owner l.owners) rising refl refl room;
  others = λ number other. others_seated o seqids l (find (is_opener o) l.owners) (next_owner l.owners) number refl other;
}

pub same_come : (o : Opener) (seqids : SeqidState) (l new : NfsLists) → new.owners ≡ (seated o seqids l).owners → HasCome o seqids l (seated o seqids l) → HasCome o seqids l new
same_come o seqids l new same come = record {
  own = ap (λ (rs : List OwnerRow). option_map (λ (x : OwnerRow). x.seqids) (find (is_opener o) rs)) same ∙ come.own;
  others = λ number other. ap (λ (rs : List OwnerRow). find (is_owner number) rs) same ∙ come.others number other;
}

pub new_come : (n : ℕ) (s : CoreState) (l : NfsLists) (current : Option ℕ) (o : Opener) (a : OpenArgsItem) (file : ℕ) (confirmed : Bool) (write : Option Bool) → IsRising l.owners → is_room_for o l ≡ true → HasCome o (record { seqid = a.seqid; op = 18; confirmed = confirmed; closed = None }) l (carried n s l (granted_new s l o a file confirmed write)).3
new_come n s l current o a file confirmed write rising room =
    let row = open_row (s.counter + 1) o (opener_number o l) file a in
    let there : NfsLists = seated o (open_seqids a confirmed) l in
    let whole : NfsLists = delegated (drawn s) o file write (entered row there) in
    same_come o (open_seqids a confirmed) l _ (kept_owners (opener_number o l) (spelled 18 (carried n s l (granted_new s l o a file confirmed write)).0) whole ∙ delegated_owners (drawn s) o file write (entered row there) ∙ entered_owners row there) (seated_come o (open_seqids a confirmed) l rising room)

pub more_come : (n : ℕ) (s : CoreState) (l : NfsLists) (current : Option ℕ) (o : Opener) (a : OpenArgsItem) (file : ℕ) (confirmed : Bool) (write : Option Bool) (r : StateidRow) → IsRising l.owners → is_room_for o l ≡ true → HasCome o (record { seqid = a.seqid; op = 18; confirmed = confirmed; closed = None }) l (carried n s l (granted_more s l o a file confirmed write r)).3
more_come n s l current o a file confirmed write r rising room =
    let after : NfsLists = stood r.number r (either_bits r.standing.access a.access) (either_bits r.standing.deny a.deny) false l in
    let there : NfsLists = seated o (open_seqids a confirmed) after in
    let new : NfsLists = (carried n s l (granted_more s l o a file confirmed write r)).3 in
    let come : HasCome o (open_seqids a confirmed) after new = same_come o (open_seqids a confirmed) after new (kept_owners (opener_number o l) (spelled 18 (carried n s l (granted_more s l o a file confirmed write r)).0) (delegated s o file write there) ∙ delegated_owners s o file write there) (seated_come o (open_seqids a confirmed) after rising room) in
    record { own = come.own; others = come.others }

pub refusal_come : (o : Opener) (a : OpenArgsItem) (confirmed : Bool) (status : NfsStatus) (l : NfsLists) → advances status ≡ true → IsRising l.owners → is_room_for o l ≡ true → HasCome o (record { seqid = a.seqid; op = 18; confirmed = confirmed; closed = None }) l (refused_lists o a confirmed status l)
unfolding remembered
refusal_come o a confirmed status l counts rising room =
    rw counts (rw room (same_come o (open_seqids a confirmed) l _ (kept_owners (opener_number o l) (spelled 18 (Ended status)) (seated o (open_seqids a confirmed) l)) (seated_come o (open_seqids a confirmed) l rising room)))

pub refusal_alone : (o : Opener) (a : OpenArgsItem) (confirmed : Bool) (status : NfsStatus) (l : NfsLists) → advances status ≡ false → refused_lists o a confirmed status l ≡ l
refusal_alone o a confirmed status l not = rw not refl
