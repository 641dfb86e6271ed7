-- What the check of a stateid comes to.
use Rattle.std.proofs.Common.{◌≡◌, ℕ, Bool, true, false, Option, Some, None, Result, Ok, Err, is_some, refl, sym, ap, subst, ◌∙◌, inl, inr, arith}
use Rattle.std.proofs.lemmas.Bool.{cases_Bool, eq-eqb, eqb-true}
use Rattle.std.proofs.lemmas.Bool.Decides.{nat_tests}
use Rattle.std.specs.Bool.{◌==◌}
use Rattle.std.specs.List.{find}
use Rattle.std.specs.Prelude.{◌&&◌, ◌||◌, nat_lt, not, if◌then◌else◌, [], ◌∷◌}
use Rattle.xl_nfs.specs.declared.basics.Stateid.{Stateid}
use Rattle.xl_nfs.specs.declared.status.NfsStatus.{NfsStatus}
use Rattle.xl_nfs.specs.declared.status.NfsStatus.TheVariants as statuses
use Rattle.xl_nfs_state.specs.State.{NfsLists, is_owner, is_stateid}
use Rattle.xl_nfs_state.specs.Verdict.{next_seqid, verdict}
use Rattle.xl_nfs_state.specs.declared.owner.OwnerKind.{OwnerKind}
use Rattle.xl_nfs_state.specs.declared.owner.OwnerRow.{OwnerRow}
use Rattle.xl_nfs_state.specs.declared.owner.SeqidState.{SeqidState}
use Rattle.xl_nfs_state.specs.declared.stateid.StateidRow.{StateidRow}
use Rattle.xl_core.specs.State.{CoreState}
use Rattle.xl_nfs_opens.specs.Checks.{found, refused_by}
use Rattle.xl_nfs_opens.specs.Closing.{owner_as, seqid_checked, state_checked, state_found, checked_as, delegates, state_returned, IsChecked}
use Rattle.xl_nfs_opens.specs.Renewing.{number_of}
use Rattle.xl_nfs_opens.specs.declared.opener.Checked.{Checked}
use Rattle.xl_nfs_opens.specs.declared.opener.Checked.TheVariants.{Refused, Repeated, Passed}
use Rattle.xl_nfs_opens.proofs.OwnerLaws.{is_number, same_number}

-- what holds at each end of a search for a row holds of what is found
pub finds : (Holds : Result StateidRow NfsStatus → Type 0) (s : CoreState) (l : NfsLists) (current : Option ℕ) (stateid : Stateid) → (current ≡ None → Holds (Err statuses.NoFileHandle)) → (is_some current ≡ true → number_of s stateid.other ≡ None → Holds (Err statuses.StaleStateid)) → Holds (Err statuses.BadStateid)
    → ((r : StateidRow) → current ≡ Some r.file → number_of s stateid.other ≡ Some r.number → find (is_stateid r.number) l.stateids ≡ Some r → Holds (Ok r)) → Holds (state_found s l current stateid)
unfolding state_found
finds Holds s l None stateid none stale bad goes = none refl
finds Holds s l (Some at) stateid none stale bad goes = by_number (number_of s stateid.other) refl
  where
    by_row : (number : ℕ) (x : Option StateidRow) → number_of s stateid.other ≡ Some number → find (is_stateid number) l.stateids ≡ x → Holds (found x (Err statuses.BadStateid) (λ r. if r.file == at then Ok r else Err statuses.BadStateid))
    by_row number None named e = bad
    by_row number (Some r) named e =
        elim (cases_Bool (r.file == at)) [
          | inl same ↦ rw same (goes r (ap (λ (m : ℕ). Some m) (sym (eqb-true r.file at same))) (named ∙ ap (λ (m : ℕ). Some m) (is_number l.stateids number r e)) (same_number l.stateids number r e))
          | inr other ↦ rw other bad
        ]

    by_number : (x : Option ℕ) → number_of s stateid.other ≡ x → Holds (found x (Err statuses.StaleStateid) (λ number. found (find (is_stateid number) l.stateids) (Err statuses.BadStateid) (λ r. if r.file == at then Ok r else Err statuses.BadStateid)))
    by_number None named = stale refl named
    by_number (Some number) named = by_row number (find (is_stateid number) l.stateids) named refl

-- the stateid names this row, which is of the owner of that number
pub record IsOwned (kind : OwnerKind) (s : CoreState) (l : NfsLists) (stateid : Stateid) (r : StateidRow) (w : ℕ) (o : OwnerRow) : Type 0 where
  pub number : number_of s stateid.other ≡ Some r.number
  pub found : find (is_stateid r.number) l.stateids ≡ Some r
  pub holder : owner_as kind r.holder ≡ Some w
  pub owner : find (is_owner w) l.owners ≡ Some o

-- so does what holds at each end of the check
pub checks : (Holds : Checked → Type 0) (kind : OwnerKind) (s : CoreState) (l : NfsLists) (current : Option ℕ) (op seqid : ℕ) (stateid : Stateid) → (current ≡ None → Holds (Refused statuses.NoFileHandle)) → (is_some current ≡ true → number_of s stateid.other ≡ None → Holds (Refused statuses.StaleStateid)) → Holds (Refused statuses.BadStateid)
    → ((r : StateidRow) (w : ℕ) (o : OwnerRow) → current ≡ Some r.file → IsOwned kind s l stateid r w o → r.standing.closed ≡ false → (seqid == next_seqid o.seqids.seqid) ≡ false → ((seqid == o.seqids.seqid) && (op == o.seqids.op)) ≡ false → Holds (Refused statuses.BadSeqid))
    → ((w : ℕ) → Holds (Repeated w))
    → ((r : StateidRow) (w : ℕ) (o : OwnerRow) → current ≡ Some r.file → IsOwned kind s l stateid r w o → r.standing.closed ≡ false → seqid ≡ next_seqid o.seqids.seqid → Holds (Passed r w o.seqids)) → Holds (checked_as kind s l current op seqid stateid)
unfolding checked_as
checks Holds kind s l current op seqid stateid none stale bad astray again next = finds (λ x. Holds (state_checked kind l op seqid x)) s l current stateid none stale bad (λ r file number there. by_holder r file number there (owner_as kind r.holder) refl)
  where
    unless_shut : (b : Bool) (passed : Checked) → (b ≡ false → Holds passed) → Holds (if b then Refused statuses.BadStateid else passed)
    unless_shut true passed goes = bad
    unless_shut false passed goes = goes refl

    by_seqid : (r : StateidRow) (w : ℕ) (o : OwnerRow) → current ≡ Some r.file → IsOwned kind s l stateid r w o → Holds (seqid_checked r w o.seqids (verdict (Some o.seqids) op seqid))
    by_seqid r w o file is =
        elim (cases_Bool (seqid == next_seqid o.seqids.seqid)) [
          | inl e ↦ rw e (unless_shut r.standing.closed (Passed r w o.seqids) (λ live. next r w o file is live (eqb-true seqid (next_seqid o.seqids.seqid) e)))
          | inr e ↦ rw e (elim (cases_Bool ((seqid == o.seqids.seqid) && (op == o.seqids.op))) [
            | inl d ↦ rw d (again w)
            | inr d ↦ rw d (elim (cases_Bool r.standing.closed) [
              | inl shut ↦ rw shut bad
              | inr live ↦ rw live (astray r w o file is live e d)
            ])
          ])
        ]

    by_owner : (r : StateidRow) (w : ℕ) → current ≡ Some r.file → number_of s stateid.other ≡ Some r.number → find (is_stateid r.number) l.stateids ≡ Some r → owner_as kind r.holder ≡ Some w → (x : Option OwnerRow) → find (is_owner w) l.owners ≡ x → Holds (found x (Refused statuses.BadStateid) (λ o. seqid_checked r w o.seqids (verdict (Some o.seqids) op seqid)))
    by_owner r w file number there holds None e = bad
    by_owner r w file number there holds (Some o) e = by_seqid r w o file (record { number = number; found = there; holder = holds; owner = e })

    by_holder : (r : StateidRow) → current ≡ Some r.file → number_of s stateid.other ≡ Some r.number → find (is_stateid r.number) l.stateids ≡ Some r → (x : Option ℕ) → owner_as kind r.holder ≡ x → Holds (found x (Refused statuses.BadStateid) (λ w. found (find (is_owner w) l.owners) (Refused statuses.BadStateid) (λ o. seqid_checked r w o.seqids (verdict (Some o.seqids) op seqid))))
    by_holder r file number there None e = bad
    by_holder r file number there (Some w) e = by_owner r w file number there e (find (is_owner w) l.owners) refl

-- it is judged by its owner's seqid
pub known : (kind : OwnerKind) (s : CoreState) (l : NfsLists) (op seqid : ℕ) (stateid : Stateid) (r : StateidRow) (w : ℕ) (o : OwnerRow) → IsOwned kind s l stateid r w o → checked_as kind s l (Some r.file) op seqid stateid ≡ seqid_checked r w o.seqids (verdict (Some o.seqids) op seqid)
unfolding checked_as state_found
known kind s l op seqid stateid r w o is = rw is.number (rw is.found (rw (eq-eqb r.file r.file refl) (rw is.holder (rw is.owner refl))))

-- what holds of each that passes
abbrev IfPassed : (StateidRow → ℕ → SeqidState → Type 0) → Checked → Type 0
IfPassed Holds (Passed r w seqids) = Holds r w seqids
IfPassed Holds _ = Unit {0}

pub passes : (Holds : StateidRow → ℕ → SeqidState → Type 0) (kind : OwnerKind) (s : CoreState) (l : NfsLists) (current : Option ℕ) (op seqid : ℕ) (stateid : Stateid)
    → ((r : StateidRow) (w : ℕ) (o : OwnerRow) → current ≡ Some r.file → IsOwned kind s l stateid r w o → r.standing.closed ≡ false → seqid ≡ next_seqid o.seqids.seqid → Holds r w o.seqids) → (r : StateidRow) (w : ℕ) (seqids : SeqidState) → checked_as kind s l current op seqid stateid ≡ Passed r w seqids → Holds r w seqids
passes Holds kind s l current op seqid stateid next r w seqids e = subst (IfPassed Holds) e (checks (IfPassed Holds) kind s l current op seqid stateid (λ _. tt) (λ _ _. tt) tt (λ _ _ _ _ _ _ _ _. tt) (λ _. tt) next)

-- what holds of each status with which it is refused
abbrev IfRefused : (NfsStatus → Type 0) → Checked → Type 0
IfRefused Holds (Refused status) = Holds status
IfRefused Holds _ = Unit {0}

pub refuses : (Holds : NfsStatus → Type 0) (kind : OwnerKind) (s : CoreState) (l : NfsLists) (current : Option ℕ) (op seqid : ℕ) (stateid : Stateid) → (current ≡ None → Holds statuses.NoFileHandle) → (is_some current ≡ true → number_of s stateid.other ≡ None → Holds statuses.StaleStateid) → Holds statuses.BadStateid
    → ((r : StateidRow) (w : ℕ) (o : OwnerRow) → current ≡ Some r.file → IsOwned kind s l stateid r w o → r.standing.closed ≡ false → (seqid == next_seqid o.seqids.seqid) ≡ false → ((seqid == o.seqids.seqid) && (op == o.seqids.op)) ≡ false → Holds statuses.BadSeqid)
    → (status : NfsStatus) → checked_as kind s l current op seqid stateid ≡ Refused status → Holds status
refuses Holds kind s l current op seqid stateid none stale bad astray status e = subst (IfRefused Holds) e (checks (IfRefused Holds) kind s l current op seqid stateid none stale bad astray (λ _. tt) (λ _ _ _ _ _ _ _. tt))

-- what passes is there
pub passed_there : (kind : OwnerKind) (s : CoreState) (l : NfsLists) (current : Option ℕ) (op seqid : ℕ) (stateid : Stateid) (c : Checked) → c ≡ checked_as kind s l current op seqid stateid → IsChecked l c
passed_there kind s l current op seqid stateid c e =
    subst (IsChecked l) (sym e) (checks (IsChecked l) kind s l current op seqid stateid (λ _. tt) (λ _ _. tt) tt (λ _ _ _ _ _ _ _ _. tt) (λ _. tt) (λ r w o file is live next. (is.found, (ap is_some is.owner, live))))

-- what a DELEGRETURN names by its own seqid: a delegation that wasn't closed
pub returns_is : (x r : StateidRow) (seqid : ℕ) → state_returned seqid (Ok x) ≡ Ok r → (x ≡ r) × (x.standing.closed ≡ false) × (delegates x.holder ≡ true) × (seqid ≡ x.standing.seqid)
returns_is x r seqid e = by x.standing.closed (delegates x.holder) (nat_lt seqid x.standing.seqid) (nat_lt x.standing.seqid seqid) refl refl refl refl e
  where
    even : (a b : ℕ) → nat_lt a b ≡ false → nat_lt b a ≡ false → a ≡ b
    even a b f g = grind (arith, nat_tests, f, g)

    by : (shut is less more : Bool) → x.standing.closed ≡ shut → delegates x.holder ≡ is → nat_lt seqid x.standing.seqid ≡ less → nat_lt x.standing.seqid seqid ≡ more → refused_by Err ((shut || not is, statuses.BadStateid) ∷ (less, statuses.OldStateid) ∷ (more, statuses.BadStateid) ∷ []) (Ok x) ≡ Ok r
        → (x ≡ r) × (x.standing.closed ≡ false) × (delegates x.holder ≡ true) × (seqid ≡ x.standing.seqid)
    by true is less more a b c d f = absurd cc
    by false false less more a b c d f = absurd cc
    by false true true more a b c d f = absurd cc
    by false true false true a b c d f = absurd cc
    by false true false false a b c d f = (cc, a, b, even seqid x.standing.seqid c d)
