-- What a stateid of an open that is there is judged by.
use Rattle.std.proofs.Common.{◌≡◌, ℕ, ◌<◌, ◌^◌, Bool, true, false, if◌then◌else◌, Option, Some, None, is_some, option_map, refl, sym, ap, ◌∙◌, ◌↔◌, inl, inr, arith, true≢false}
use Rattle.std.proofs.lemmas.Bool.{cases_Bool, eq-eqb, eqb-true, le-ltb, ltb-false}
use Rattle.std.specs.Bool.{◌==◌, beq}
use Rattle.std.specs.Cmp.{booleans_Decides}
use Rattle.std.specs.List.{find}
use Rattle.std.specs.Prelude.{◌&&◌, nat_lt}
use Rattle.xl_nfs.specs.declared.basics.Stateid.{Stateid}
use Rattle.xl_nfs.specs.declared.status.NfsStatus.TheVariants as statuses
use Rattle.xl_nfs_state.specs.State.{NfsLists, is_owner}
use Rattle.xl_nfs_state.specs.Verdict.{next_seqid}
use Rattle.xl_nfs_state.specs.declared.owner.OwnerKind.{OwnerKind}
use Rattle.xl_nfs_state.specs.declared.owner.OwnerKind.TheVariants as kinds
use Rattle.xl_nfs_state.specs.declared.owner.OwnerRow.{OwnerRow}
use Rattle.xl_nfs_state.specs.declared.owner.SeqidState.{SeqidState}
use Rattle.xl_nfs_state.specs.declared.stateid.StateidRow.{StateidRow}
use Rattle.xl_core.specs.State.{CoreState}
use Rattle.xl_nfs_opens.specs.Closing.{checked_as, owner_as, confirm_done, next_seqids, standing_fault, state_told}
use Rattle.xl_nfs_opens.proofs.CheckLaws.{IsOwned, known}
use Rattle.xl_nfs_laws.specs.OpenLaws.{IsOpenOf}
use Rattle.xl_nfs_opens.specs.Opens.{stood}
use Rattle.xl_nfs_opens.specs.Plans.{carried}
use Rattle.xl_nfs_opens.specs.Results.{spelled}
use Rattle.xl_nfs_laws.proofs.OpenLaws.{counted_seqids}
use Rattle.xl_nfs.specs.declared.opens.OpenConfirmArgs.{OpenConfirmArgs}
use Rattle.xl_nfs_state.specs.Rows.{with_seqids}
use Rattle.xl_nfs_opens.specs.declared.opener.Checked.TheVariants.{Refused, Repeated, Passed}

-- an open that is there is owned so
pub opened_is : (s : CoreState) (l : NfsLists) (stateid : Stateid) (r : StateidRow) (w : ℕ) (o : OwnerRow) → IsOpenOf s l stateid r w o → IsOwned kinds.Open s l stateid r w o
opened_is s l stateid r w o is = record { number = is.number; found = is.found; holder = ap (owner_as kinds.Open) is.holder; owner = is.owner }

pub next_passes : (kind : OwnerKind) (s : CoreState) (l : NfsLists) (op seqid : ℕ) (stateid : Stateid) (r : StateidRow) (w : ℕ) (o : OwnerRow) → IsOwned kind s l stateid r w o → seqid ≡ next_seqid o.seqids.seqid → r.standing.closed ≡ false → checked_as kind s l (Some r.file) op seqid stateid ≡ Passed r w o.seqids
next_passes kind s l op seqid stateid r w o is next stands = known kind s l op seqid stateid r w o is ∙ rw (eq-eqb seqid (next_seqid o.seqids.seqid) next) (rw stands refl)

differs : (a b : ℕ) → (a ≡ b → ⊥) → (a == b) ≡ false
differs a b other =
    elim (cases_Bool (a == b)) [
      | inl h ↦ absurd (other (eqb-true a b h))
      | inr h ↦ h
    ]

pub last_repeated : (kind : OwnerKind) (s : CoreState) (l : NfsLists) (op seqid : ℕ) (stateid : Stateid) (r : StateidRow) (w : ℕ) (o : OwnerRow) → IsOwned kind s l stateid r w o → seqid ≡ o.seqids.seqid → op ≡ o.seqids.op → seqid < 2 ^ 32 → checked_as kind s l (Some r.file) op seqid stateid ≡ Repeated w
last_repeated kind s l op seqid stateid r w o is last same le =
    known kind s l op seqid stateid r w o is
    ∙ rw (differs seqid (next_seqid o.seqids.seqid) (λ e. omega (arith, e, last, le))) (rw (eq-eqb seqid o.seqids.seqid last) (rw (eq-eqb op o.seqids.op same) refl))

pub not_last : (seqid last op by : ℕ) → (seqid ≡ last → op ≡ by → ⊥) → ((seqid == last) && (op == by)) ≡ false
not_last seqid last op by other =
    elim (cases_Bool (seqid == last)) [
      | inl h ↦ rw h (differs op by (λ e. other (eqb-true seqid last h) e))
      | inr h ↦ rw h refl
    ]

pub others_refused : (kind : OwnerKind) (s : CoreState) (l : NfsLists) (op seqid : ℕ) (stateid : Stateid) (r : StateidRow) (w : ℕ) (o : OwnerRow) → IsOwned kind s l stateid r w o → (seqid ≡ next_seqid o.seqids.seqid → ⊥) → (seqid ≡ o.seqids.seqid → op ≡ o.seqids.op → ⊥) → r.standing.closed ≡ false → checked_as kind s l (Some r.file) op seqid stateid ≡ Refused statuses.BadSeqid
others_refused kind s l op seqid stateid r w o is next last stands =
    known kind s l op seqid stateid r w o is
    ∙ rw (differs seqid (next_seqid o.seqids.seqid) next) (rw (not_last seqid o.seqids.seqid op o.seqids.op last) (rw stands refl))

-- ---- the stateid's own seqid

self_same : (b : Bool) → beq b b ≡ true
self_same b = (booleans_Decides b b).1 refl

stands_forth : (r : StateidRow) (seqids : SeqidState) (seqid : ℕ) (confirmed : Bool) → standing_fault r seqids seqid confirmed ≡ None → (seqid ≡ r.standing.seqid) × (seqids.confirmed ≡ confirmed)
unfolding standing_fault
stands_forth r seqids seqid confirmed e =
    elim (cases_Bool (nat_lt seqid r.standing.seqid)) [
      | inl old ↦ (let f : Some statuses.OldStateid ≡ None = rw old at e in absurd (true≢false (ap is_some f)))
      | inr not ↦ elim (cases_Bool (nat_lt r.standing.seqid seqid)) [
        | inl ahead ↦ (let f : Some statuses.BadStateid ≡ None = rw ahead at (rw not at e) in absurd (true≢false (ap is_some f)))
        | inr nor ↦ elim (cases_Bool (beq seqids.confirmed confirmed)) [
          | inl same ↦ (omega (arith, ltb-false seqid r.standing.seqid not, ltb-false r.standing.seqid seqid nor), (booleans_Decides seqids.confirmed confirmed).0 same)
          | inr other ↦ (let f : Some statuses.BadStateid ≡ None = rw other at (rw nor at (rw not at e)) in absurd (true≢false (ap is_some f)))
        ]
      ]
    ]

stands_back : (r : StateidRow) (seqids : SeqidState) (seqid : ℕ) (confirmed : Bool) → (seqid ≡ r.standing.seqid) × (seqids.confirmed ≡ confirmed) → standing_fault r seqids seqid confirmed ≡ None
unfolding standing_fault
stands_back r seqids seqid confirmed same =
    rw (le-ltb seqid r.standing.seqid (omega (arith, same.0)))
    (rw (le-ltb r.standing.seqid seqid (omega (arith, same.0)))
    (rw (ap (λ (b : Bool). beq seqids.confirmed b) (sym same.1) ∙ self_same seqids.confirmed) refl))

pub stands_exactly : (r : StateidRow) (seqids : SeqidState) (seqid : ℕ) (confirmed : Bool) → (standing_fault r seqids seqid confirmed ≡ None) ↔ ((seqid ≡ r.standing.seqid) × (seqids.confirmed ≡ confirmed))
stands_exactly r seqids seqid confirmed = (stands_forth r seqids seqid confirmed, stands_back r seqids seqid confirmed)

-- ---- an owner is confirmed

pub confirm_confirms : (n : ℕ) (s : CoreState) (l : NfsLists) (current : Option ℕ) (a : OpenConfirmArgs) (r : StateidRow) (owner : ℕ) (seqids : SeqidState) (o : OwnerRow) → find (is_owner owner) l.owners ≡ Some o → find (is_owner owner) (carried n s l (confirm_done s l current a r owner seqids None)).3.owners ≡ Some (with_seqids (record { seqid = a.seqid; op = 20; confirmed = true; closed = None }) o)
confirm_confirms n s l current a r owner seqids o found =
    let come : SeqidState = next_seqids 20 a.seqid true None in
    counted_seqids owner owner seqids.closed come (spelled 20 (state_told s r)) (stood r.number r r.standing.access r.standing.deny false l)
    ∙ ap (λ (x : Option OwnerRow). option_map (λ (y : OwnerRow). if owner == owner then with_seqids come y else y) x) found
    ∙ rw (eq-eqb owner owner refl) refl
