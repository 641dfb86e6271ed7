-- How the operations on opens end: what they tell has a spelling, and one that isn't OK leaves the current handle.
use Rattle.std.proofs.Common.{◌≡◌, ℕ, ◌<◌, ◌^◌, Bool, true, false, if◌then◌else◌, List, [], ◌∷◌, Option, Some, None, refl, inl, inr, arith}
use Rattle.std.proofs.lemmas.Bool.{cases_Bool, true≢false}
use Rattle.std.specs.Bool.{◌==◌}
use Rattle.std.specs.List.{AllByRecursion, find}
use Rattle.std.specs.Prelude.{◌&&◌, ◌||◌, Result, Ok, Err}
use Rattle.xl_nfs.specs.Opens.{OpenArgsItem}
use Rattle.xl_nfs.specs.Outcomes.{is_ok, is_denied}
use Rattle.xl_nfs.specs.Results.{ResultItem, OpenAnswer, nfs_result}
use Rattle.xl_nfs.specs.declared.basics.Stateid.{Stateid}
use Rattle.xl_nfs.specs.declared.opens.CloseArgs.{CloseArgs}
use Rattle.xl_nfs.specs.declared.opens.OpenConfirmArgs.{OpenConfirmArgs}
use Rattle.xl_nfs.specs.declared.opens.OpenDowngradeArgs.{OpenDowngradeArgs}
use Rattle.xl_nfs.specs.declared.status.NfsStatus.{NfsStatus}
use Rattle.xl_nfs.specs.declared.status.NfsStatus.TheVariants as statuses
use Rattle.xl_core.specs.State.{CoreState}
use Rattle.xl_core.specs.declared.ask.Answer.{Answer}
use Rattle.xl_nfs_state.specs.State.{NfsLists}
use Rattle.xl_plan.specs.Plans.{AllEnds}
use Rattle.xl_nfs_opens.specs.Plans.{Plan, status_of}
use Rattle.xl_nfs_opens.specs.Results.{ToldFits}
use Rattle.xl_nfs_opens.specs.declared.told.Told.{Told}
use Rattle.xl_nfs_opens.specs.declared.told.Told.TheVariants.{Ended}
use Rattle.xl_core.specs.declared.ask.Answer.TheVariants as answers
use Rattle.xl_nfs_state.specs.State.{without_owner, is_kept}
use Rattle.xl_nfs_state.specs.declared.client.ClientRow.{ClientRow}
use Rattle.xl_nfs_state.specs.declared.kept.KeptRow.{KeptRow}
use Rattle.xl_nfs_state.specs.declared.owner.OwnerKind.{OwnerKind}
use Rattle.xl_nfs_state.specs.declared.owner.OwnerKind.TheVariants as kinds
use Rattle.xl_nfs_state.specs.declared.owner.SeqidState.{SeqidState}
use Rattle.xl_nfs_state.specs.declared.stateid.StateidRow.{StateidRow}
use Rattle.xl_nfs_opens.specs.Checks.{found, unless, refused_by, failing}
use Rattle.xl_nfs_opens.specs.Closing.{checked, checked_as, counts, standing_checks, standing_fault, confirm_done, open_confirm, can_weaken, close_done, close, Returning, returned, returned_checks, state_returned, return_done, deleg_return}
use Rattle.xl_nfs_opens.specs.Downgrades.{range_fault, first_fault, downgrade_fault, downgrade_done, open_downgrade}
use Rattle.xl_nfs_opens.specs.Opens.{asked_checks, asked_fault, file_claimed, is_astray, opened_file, judged, handle_by, handle_again, repeated, reclaims, open_held, has_room, granted_by, is_granted, answer_status, granted_wish, wish_of, answered, open_on, open_by, open_as, open_judged, opener_of, open_of, client_in, open_at, open_claimed, open_file}
use Rattle.xl_nfs_opens.specs.Seqids.{read_status, kept_status, is_short}
use Rattle.xl_nfs_opens.specs.declared.opener.Checked.{Checked}
use Rattle.xl_nfs_opens.specs.declared.opener.Checked.TheVariants.{Refused, Repeated, Passed}
use Rattle.xl_nfs_opens.specs.declared.opener.Judged.{Judged}
use Rattle.xl_nfs_opens.specs.declared.opener.Judged.TheVariants as judgements
use Rattle.xl_nfs_opens.specs.declared.opener.Opener.{Opener}
use Rattle.xl_nfs_opens.proofs.CheckLaws.{checks, finds}
use Rattle.xl_nfs_opens.proofs.ResultLaws.{IsFault, fault_fits, plain_8}

-- the result of the operation of this number has a spelling, and where it isn't OK the current handle stays
abbrev pub Well : ℕ → Option ℕ → Told × Option ℕ → Type 0
Well number current r = ToldFits number r.0 × (is_ok (status_of r.0) ≡ false → r.1 ≡ current)

abbrev pub Ends : ℕ → Option ℕ → Plan → Type 0
Ends number current plan = AllEnds (Well number current) plan

pub fault : (s : NfsStatus) → is_ok s ≡ false → is_denied s ≡ false → IsFault s
fault s ok denied = record { ok = ok; denied = denied }

pub ended : (number : ℕ) → number < 2 ^ 32 → (current : Option ℕ) (status : NfsStatus) → IsFault status → Well number current (Ended status, current)
ended number le current status f = (fault_fits number status le f, λ _. refl)

-- ---- a repeat

again : {F : Type 0} (s : CoreState) (l : NfsLists) (current : Option ℕ) (read : Result (ResultItem × List ℕ) F) → is_ok (read_status read) ≡ false → handle_by s l current read ≡ current
again s l current (Ok (OpenAnswer (Ok r), rest)) e = absurd (true≢false e)
again s l current read e = refl

pub repeat_ends : (number : ℕ) → number < 2 ^ 32 → (s : CoreState) (l : NfsLists) (current : Option ℕ) (o : Option KeptRow) → Ends number current (repeated s l current o)
unfolding handle_again kept_status
repeat_ends number le s l current None = ended number le current statuses.BadSeqid (fault statuses.BadSeqid refl refl)
repeat_ends number le s l current (Some k) =
    elim (cases_Bool (is_short k.result)) [
      | inl short ↦ rw short (tt, λ e. again s l current (nfs_result.at k.result) e)
      | inr long ↦ rw long (tt, λ e. refl)
    ]

-- ---- the checks of OPEN

abbrev pub IfFault : Option NfsStatus → Type 0
IfFault None = Unit {0}
IfFault (Some status) = IsFault status

abbrev pub OrFault : {A : Type 0} → Result A NfsStatus → Type 0
OrFault (Ok x) = Unit {0}
OrFault (Err status) = IsFault status

-- a row of checks fails with what stands in it
failing_fault : (checks : List (Bool × NfsStatus)) → AllByRecursion (λ c. IsFault c.1) checks → IfFault (failing checks)
failing_fault [] all = tt
failing_fault ((true, status) ∷ checks) all = all.0
failing_fault ((false, status) ∷ checks) all = failing_fault checks all.1

-- so does what is refused by it
refused_fault : {A : Type 0} (checks : List (Bool × NfsStatus)) (rest : Result A NfsStatus) → AllByRecursion (λ c. IsFault c.1) checks → OrFault rest → OrFault (refused_by Err checks rest)
refused_fault [] rest all goes = goes
refused_fault ((true, status) ∷ checks) rest all goes = all.0
refused_fault ((false, status) ∷ checks) rest all goes = refused_fault checks rest all.1 goes

unless_fault : {A : Type 0} (o : Option NfsStatus) (rest : Result A NfsStatus) → IfFault o → OrFault rest → OrFault (unless o Err rest)
unless_fault None rest f goes = goes
unless_fault (Some status) rest f goes = f

asked_is_fault : (at : ℕ) (a : OpenArgsItem) → IfFault (asked_fault at a)
unfolding asked_fault
asked_is_fault at a = failing_fault (asked_checks at a) (fault statuses.NotDir refl refl, (fault statuses.IsDir refl refl, (fault statuses.NotSupp refl refl, (fault statuses.Inval refl refl, (fault statuses.NotSupp refl refl, tt)))))

opened_fault : (files : List (List ℕ)) (s : CoreState) (l : NfsLists) (client at : ℕ) (a : OpenArgsItem) → OrFault (opened_file files s l client at a)
unfolding opened_file
opened_fault files s l client at a = unless_fault (asked_fault at a) _ (asked_is_fault at a) (by (file_claimed files at a.claim))
  where
    by : (file : Option ℕ) → OrFault {A = ℕ} (found file (Err statuses.NoEnt) (λ file. refused_by Err ((is_astray s l client file a.claim, statuses.BadStateid) ∷ []) (Ok file)))
    by None = fault statuses.NoEnt refl refl
    by (Some file) = refused_fault ((is_astray s l client file a.claim, statuses.BadStateid) ∷ []) (Ok file) (fault statuses.BadStateid refl refl, tt) tt

-- ---- OPEN

open_ended : (current : Option ℕ) (status : NfsStatus) → IsFault status → Well 18 current (Ended status, current)
open_ended current status f = ended 18 (omega arith) current status f

granted_ends : (s : CoreState) (l : NfsLists) (current : Option ℕ) (o : Opener) (a : OpenArgsItem) (file : ℕ) (confirmed : Bool) (write : Option Bool) (r : Option StateidRow) → Ends 18 current (granted_by s l o a file confirmed write r)
granted_ends s l current o a file confirmed write None = (tt, λ e. absurd (true≢false e))
granted_ends s l current o a file confirmed write (Some r) = (tt, λ e. absurd (true≢false e))

conflict_fault : (reclaim : Bool) → IsFault (if reclaim then statuses.ReclaimConflict else statuses.ShareDenied)
conflict_fault true = fault statuses.ReclaimConflict refl refl
conflict_fault false = fault statuses.ShareDenied refl refl

-- an answer that grants nothing is told as a failure
pub status_fault : (reclaim : Bool) (answer : Answer) → is_granted answer ≡ false → IsFault (answer_status reclaim answer)
status_fault reclaim (answers.Granted c) e = absurd (true≢false e)
status_fault reclaim (answers.Conflict c) e = conflict_fault reclaim
status_fault reclaim (answers.Queued id) e = fault statuses.Delay refl refl
status_fault reclaim (answers.Recall c) e = fault statuses.Delay refl refl
status_fault reclaim (answers.Grace until) e = fault statuses.Grace refl refl
status_fault reclaim (answers.NoGrace clock) e = fault statuses.NoGrace refl refl
status_fault reclaim answers.NotRecorded e = fault statuses.ReclaimBad refl refl
status_fault reclaim (answers.Full limit) e = fault statuses.Resource refl refl
status_fault reclaim answers.NotHeld e = fault statuses.ServerFault refl refl
status_fault reclaim answers.StoreFailed e = fault statuses.ServerFault refl refl

pub status_fails : (reclaim : Bool) (answer : Answer) → is_granted answer ≡ false → is_ok (answer_status reclaim answer) ≡ false
status_fails reclaim answer e = (status_fault reclaim answer e).ok

answered_ends : (l : NfsLists) (current : Option ℕ) (o : Opener) (a : OpenArgsItem) (file : ℕ) (confirmed : Bool) (wish : Option Bool) (answer : Answer) (s : CoreState) → Ends 18 current (answered l current o a file confirmed wish answer s)
answered_ends l current o a file confirmed wish answer s =
    elim (cases_Bool (is_granted answer)) [
      | inl e ↦ rw e (granted_ends s l current o a file (confirmed || reclaims a.claim) (granted_wish s o file wish) (open_held l o file))
      | inr e ↦ rw e (open_ended current (answer_status (reclaims a.claim) answer) (status_fault (reclaims a.claim) answer e))
    ]

on_ends : (others : ℕ) (s : CoreState) (l : NfsLists) (current : Option ℕ) (o : Opener) (a : OpenArgsItem) (confirmed : Bool) (file : ℕ) → Ends 18 current (open_on others s l current o a confirmed file)
on_ends others s l current o a confirmed file =
    elim (cases_Bool (has_room others l o file)) [
      | inl e ↦ rw e (λ answer t. answered_ends l current o a file confirmed (wish_of s l o a confirmed file) answer t)
      | inr e ↦ rw e (open_ended current statuses.Resource (fault statuses.Resource refl refl))
    ]

by_ends : (others : ℕ) (s : CoreState) (l : NfsLists) (current : Option ℕ) (o : Opener) (a : OpenArgsItem) (confirmed : Bool) (r : Result ℕ NfsStatus) → OrFault r → Ends 18 current (open_by others s l current o a confirmed r)
by_ends others s l current o a confirmed (Ok file) f = on_ends others s l current o a confirmed file
by_ends others s l current o a confirmed (Err status) f = open_ended current status f

as_ends : (files : List (List ℕ)) (others : ℕ) (s : CoreState) (l : NfsLists) (current : Option ℕ) (at : ℕ) (o : Opener) (a : OpenArgsItem) (confirmed : Bool) → Ends 18 current (open_as files others s l current at o a confirmed)
unfolding open_as
as_ends files others s l current at o a confirmed = by_ends others s l current o a confirmed (opened_file files s l o.client at a) (opened_fault files s l o.client at a)

judged_ends : (files : List (List ℕ)) (others : ℕ) (s : CoreState) (l : NfsLists) (current : Option ℕ) (at : ℕ) (o : Opener) (a : OpenArgsItem) (j : Judged) → Ends 18 current (open_judged files others s l current at o a j)
judged_ends files others s l current at o a judgements.Bad = open_ended current statuses.BadSeqid (fault statuses.BadSeqid refl refl)
judged_ends files others s l current at o a (judgements.Repeats number) = repeat_ends 18 (omega arith) s l current (find (is_kept number) l.kept)
judged_ends files others s l current at o a (judgements.Anew number) = λ t. as_ends files others t (without_owner number l) current at o a false
judged_ends files others s l current at o a judgements.New = as_ends files others s l current at o a false
judged_ends files others s l current at o a judgements.Next = as_ends files others s l current at o a true

of_ends : (files : List (List ℕ)) (others : ℕ) (s : CoreState) (l : NfsLists) (current : Option ℕ) (at : ℕ) (a : OpenArgsItem) (c : Option ClientRow) → Ends 18 current (open_of files others s l current at a c)
of_ends files others s l current at a None = open_ended current statuses.StaleClientId (fault statuses.StaleClientId refl refl)
of_ends files others s l current at a (Some c) = judged_ends files others s l current at (opener_of c a) a (judged l (opener_of c a) a.seqid)

at_ends : (files : List (List ℕ)) (others : ℕ) (s : CoreState) (l : NfsLists) (a : OpenArgsItem) (current : Option ℕ) → Ends 18 current (open_at files others s l a current)
at_ends files others s l a None = open_ended None statuses.NoFileHandle (fault statuses.NoFileHandle refl refl)
at_ends files others s l a (Some at) = of_ends files others s l (Some at) at a (client_in s l a.owner.clientid)

pub open_ends : (files : List (List ℕ)) (others : ℕ) (s : CoreState) (l : NfsLists) (current : Option ℕ) (a : OpenArgsItem) → Ends 18 current (open_file files others s l current a)
unfolding open_file open_claimed
open_ends files others s l current a = λ t u. at_ends files others u l a current

-- ---- what names an open

abbrev pub Refuses : Checked → Type 0
Refuses (Refused status) = IsFault status
Refuses c = Unit {0}

pub checked_fault : (kind : OwnerKind) (s : CoreState) (l : NfsLists) (current : Option ℕ) (op seqid : ℕ) (stateid : Stateid) → Refuses (checked_as kind s l current op seqid stateid)
checked_fault kind s l current op seqid stateid =
    checks Refuses kind s l current op seqid stateid (λ _. fault statuses.NoFileHandle refl refl) (λ _ _. fault statuses.StaleStateid refl refl) (fault statuses.BadStateid refl refl) (λ _ _ _ _ _ _ _ _. fault statuses.BadSeqid refl refl) (λ _. tt) (λ _ _ _ _ _ _ _. tt)

pub standing_is_fault : (r : StateidRow) (seqids : SeqidState) (seqid : ℕ) (confirmed : Bool) → IfFault (standing_fault r seqids seqid confirmed)
unfolding standing_fault
standing_is_fault r seqids seqid confirmed =
    failing_fault (standing_checks r seqids seqid confirmed) (fault statuses.OldStateid refl refl, (fault statuses.BadStateid refl refl, (fault statuses.BadStateid refl refl, tt)))

-- a request on a stateid ends so, if it does once it passed
pub counts_ends : (number : ℕ) → number < 2 ^ 32 → (s : CoreState) (l : NfsLists) (current : Option ℕ) (rest : StateidRow → ℕ → SeqidState → Plan) (c : Checked) → Refuses c → ((r : StateidRow) (w : ℕ) (seqids : SeqidState) → Ends number current (rest r w seqids)) → Ends number current (counts s l current rest c)
counts_ends number le s l current rest (Refused status) f each = ended number le current status f
counts_ends number le s l current rest (Repeated owner) f each = repeat_ends number le s l current (find (is_kept owner) l.kept)
counts_ends number le s l current rest (Passed r w seqids) f each = each r w seqids

confirm_done_ends : (s : CoreState) (l : NfsLists) (current : Option ℕ) (a : OpenConfirmArgs) (r : StateidRow) (owner : ℕ) (seqids : SeqidState) (o : Option NfsStatus) → IfFault o → Ends 20 current (confirm_done s l current a r owner seqids o)
confirm_done_ends s l current a r owner seqids None f = (tt, λ _. refl)
confirm_done_ends s l current a r owner seqids (Some status) f = ended 20 (omega arith) current status f

pub confirm_ends : (s : CoreState) (l : NfsLists) (current : Option ℕ) (a : OpenConfirmArgs) → Ends 20 current (open_confirm s l current a)
unfolding open_confirm
confirm_ends s l current a = λ t.
    counts_ends 20 (omega arith) t l current (λ r w seqids. confirm_done t l current a r w seqids (standing_fault r seqids a.stateid.seqid false)) (checked t l current 20 a.seqid a.stateid) (checked_fault kinds.Open t l current 20 a.seqid a.stateid)
    (λ r w seqids. confirm_done_ends t l current a r w seqids (standing_fault r seqids a.stateid.seqid false) (standing_is_fault r seqids a.stateid.seqid false))

range_is_fault : (r : StateidRow) (a : OpenDowngradeArgs) → IfFault (range_fault r a)
range_is_fault r a =
    elim (cases_Bool (can_weaken r a.access a.deny)) [
      | inl e ↦ rw e tt
      | inr e ↦ rw e (fault statuses.Inval refl refl)
    ]

first_is_fault : (o later : Option NfsStatus) → IfFault o → IfFault later → IfFault (first_fault o later)
first_is_fault None later f g = g
first_is_fault (Some status) later f g = f

downgrade_is_fault : (r : StateidRow) (seqids : SeqidState) (a : OpenDowngradeArgs) → IfFault (downgrade_fault r seqids a)
unfolding downgrade_fault
downgrade_is_fault r seqids a = first_is_fault (standing_fault r seqids a.stateid.seqid true) (range_fault r a) (standing_is_fault r seqids a.stateid.seqid true) (range_is_fault r a)

downgrade_done_ends : (s : CoreState) (l : NfsLists) (current : Option ℕ) (a : OpenDowngradeArgs) (r : StateidRow) (owner : ℕ) (seqids : SeqidState) (o : Option NfsStatus) → IfFault o → Ends 21 current (downgrade_done s l current a r owner seqids o)
downgrade_done_ends s l current a r owner seqids None f = (tt, λ _. refl)
downgrade_done_ends s l current a r owner seqids (Some status) f = ended 21 (omega arith) current status f

pub downgrade_ends : (s : CoreState) (l : NfsLists) (current : Option ℕ) (a : OpenDowngradeArgs) → Ends 21 current (open_downgrade s l current a)
unfolding open_downgrade
downgrade_ends s l current a = λ t.
    counts_ends 21 (omega arith) t l current (λ r w seqids. downgrade_done t l current a r w seqids (downgrade_fault r seqids a)) (checked t l current 21 a.seqid a.stateid) (checked_fault kinds.Open t l current 21 a.seqid a.stateid)
    (λ r w seqids. downgrade_done_ends t l current a r w seqids (downgrade_fault r seqids a) (downgrade_is_fault r seqids a))

close_done_ends : (s : CoreState) (l : NfsLists) (current : Option ℕ) (a : CloseArgs) (r : StateidRow) (owner : ℕ) (seqids : SeqidState) (o : Option NfsStatus) → IfFault o → Ends 4 current (close_done s l current a r owner seqids o)
close_done_ends s l current a r owner seqids None f = λ t. (tt, λ _. refl)
close_done_ends s l current a r owner seqids (Some status) f = ended 4 (omega arith) current status f

pub close_ends : (s : CoreState) (l : NfsLists) (current : Option ℕ) (a : CloseArgs) → Ends 4 current (close s l current a)
unfolding close
close_ends s l current a = λ t.
    counts_ends 4 (omega arith) t l current (λ r w seqids. close_done t l current a r w seqids (standing_fault r seqids a.stateid.seqid true)) (checked t l current 4 a.seqid a.stateid) (checked_fault kinds.Open t l current 4 a.seqid a.stateid)
    (λ r w seqids. close_done_ends t l current a r w seqids (standing_fault r seqids a.stateid.seqid true) (standing_is_fault r seqids a.stateid.seqid true))

returned_fault : (s : CoreState) (l : NfsLists) (current : Option ℕ) (stateid : Stateid) → OrFault (returned s l current stateid)
unfolding returned
returned_fault s l current stateid =
    finds (λ (x : Returning). OrFault (state_returned stateid.seqid x)) s l current stateid (λ _. fault statuses.NoFileHandle refl refl) (λ _ _. fault statuses.StaleStateid refl refl) (fault statuses.BadStateid refl refl)
    (λ r file number there. refused_fault (returned_checks r stateid.seqid) (Ok r) (fault statuses.BadStateid refl refl, (fault statuses.OldStateid refl refl, (fault statuses.BadStateid refl refl, tt))) tt)

return_done_ends : (s : CoreState) (l : NfsLists) (current : Option ℕ) (x : Returning) → OrFault x → Ends 8 current (return_done s l current x)
return_done_ends s l current (Err status) f = ended 8 (omega arith) current status f
return_done_ends s l current (Ok r) f = (plain_8 statuses.Ok, λ _. refl)

pub return_ends : (s : CoreState) (l : NfsLists) (current : Option ℕ) (stateid : Stateid) → Ends 8 current (deleg_return s l current stateid)
unfolding deleg_return
return_ends s l current stateid = λ t. return_done_ends t l current (returned t l current stateid) (returned_fault t l current stateid)
