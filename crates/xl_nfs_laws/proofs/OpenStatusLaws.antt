-- Why an OPEN that is judged further is told its status.
use Rattle.std.proofs.Common.{◌≡◌, ℕ, Bool, true, false, if◌then◌else◌, List, [], ◌∷◌, inl, inr, Option, Some, None, is_some, Ok, Err, Result, refl, sym, ap, subst, ◌∙◌, ◌↔◌, true≢false}
use Rattle.std.proofs.lemmas.Bool.{and_parts, cases_Bool}
use Rattle.std.proofs.lemmas.Option.{same_Some}
use Rattle.std.specs.List.{filter}
use Rattle.std.specs.Prelude.{◌&&◌, ◌||◌}
use Rattle.xl_base.specs.declared.name.Owner.{Owner}
use Rattle.xl_matrix.specs.Rights.{implies, rights_lie_within}
use Rattle.xl_matrix.specs.declared.claim.Claim.{Claim}
use Rattle.xl_matrix.specs.declared.claim.Rwd.{Rwd}
use Rattle.xl_matrix.specs.declared.claim.What.{What}
use Rattle.xl_nfs.specs.Opens.{OpenArgsItem}
use Rattle.xl_nfs.specs.declared.status.NfsStatus.{NfsStatus}
use Rattle.xl_nfs.specs.declared.status.NfsStatus.TheVariants as statuses
use Rattle.xl_nfs_state.specs.State.{NfsLists, is_whose, without_owner}
use Rattle.xl_nfs_state.specs.declared.stateid.Whose.TheVariants as whose
use Rattle.xl_nfs_state.specs.declared.stateid.StateidRow.{StateidRow}
use Rattle.xl_table.specs.Relock.{either_right, old_shares, shares_of, united_by, united_what, united_with, unites, with_share}
use Rattle.xl_core.proofs.WayAsks.{ask_due, ask_shares}
use Rattle.xl_core.proofs.DeedLists.{deeds_good}
use Rattle.xl_core.specs.Askers.{asker}
use Rattle.xl_core.specs.Deeds.{all_done}
use Rattle.xl_core.specs.Good.{IsGood}
use Rattle.xl_core.specs.Causes.{IsClaimDue}
use Rattle.xl_core.specs.Decide.{ask}
use Rattle.xl_core.specs.Standings.{is_smb}
use Rattle.xl_core.specs.State.{CoreState, drawn}
use Rattle.xl_core.specs.declared.ask.Answer.{Answer}
use Rattle.xl_core.specs.declared.ask.Answer.TheVariants as answers
use Rattle.xl_core.specs.declared.ask.Ask.{Ask}
use Rattle.xl_nfs_laws.proofs.GraceStandings.{never_waits}
use Rattle.xl_nfs_laws.specs.OpenLaws.{goes_on, IsOpenTold, IsShared, share_claim, share_way}
use Rattle.xl_nfs_opens.specs.Opens.{all_rooms, share_ask, reclaims, answer_status, answered, gives_all, granted_by, granted_wish, has_room, judged, wish_of, open_as, open_by, open_held, open_judged, open_on, opened_file, refused_lists, rights_of}
use Rattle.xl_nfs_opens.specs.Plans.{Outcome, carried, status_of}
use Rattle.xl_nfs_opens.specs.declared.opener.Judged.{Judged}
use Rattle.xl_nfs_opens.specs.declared.opener.Judged.TheVariants as judgements
use Rattle.xl_nfs_opens.specs.declared.opener.Opener.{Opener}
use Rattle.xl_nfs_opens.specs.declared.told.Told.TheVariants.{Ended}
use Rattle.xl_nfs_opens.proofs.OpenOwn.{all_given, ask_fits}
use Rattle.xl_matrix.specs.declared.claim.What.TheVariants as whats

claim_forth : (n : ℕ) (s : CoreState) (a : Ask) (claim : Claim) (answer : Answer) → a.blocking ≡ false → a.awaits ≡ false → is_smb a.party ≡ false → IsClaimDue n all_rooms s a claim answer → IsOpenTold n s a claim (answer_status a.reclaim answer)
claim_forth n s a claim (answers.Granted c) hurries rests other due = (refl, due.1, due.2, due.3, due.4)
claim_forth n s a claim (answers.Conflict c) hurries rests other due = by a.reclaim refl where
  by : (late : Bool) → a.reclaim ≡ late → IsOpenTold n s a claim (if a.reclaim then statuses.ReclaimConflict else statuses.ShareDenied)
  by true e = subst (λ (late : Bool). IsOpenTold n s a claim (if late then statuses.ReclaimConflict else statuses.ShareDenied)) (sym e) (e, (c, due))
  by false e = subst (λ (late : Bool). IsOpenTold n s a claim (if late then statuses.ReclaimConflict else statuses.ShareDenied)) (sym e) (e, (c, due))
claim_forth n s a claim (answers.Queued number) hurries rests other due = absurd (never_waits s a claim hurries rests other due.1)
claim_forth n s a claim (answers.NoGrace clock) hurries rests other due = (refl, due.1, due.2)
claim_forth n s a claim (answers.Full limit) hurries rests other due = (limit, due)
claim_forth n s a claim (answers.Recall c) hurries rests other due = (c, due)
claim_forth n s a claim (answers.Grace until) hurries rests other due = (until, due)
claim_forth n s a claim answers.NotRecorded hurries rests other due = due
claim_forth n s a claim answers.NotHeld hurries rests other due = absurd due
claim_forth n s a claim answers.StoreFailed hurries rests other due = due

claim_back : (n : ℕ) (s : CoreState) (a : Ask) (claim : Claim) (r : Answer) → ((answer : Answer) → IsClaimDue n all_rooms s a claim answer → r ≡ answer) → (status : NfsStatus) → IsOpenTold n s a claim status → answer_status a.reclaim r ≡ status
claim_back n s a claim r exact statuses.Ok told = ap (λ (x : Answer). answer_status a.reclaim x) (exact (answers.Granted claim) told)
claim_back n s a claim r exact statuses.ShareDenied told = ap (λ (x : Answer). answer_status a.reclaim x) (exact (answers.Conflict told.1.0) told.1.1) ∙ ap (λ (late : Bool). if late then statuses.ReclaimConflict else statuses.ShareDenied) told.0
claim_back n s a claim r exact statuses.ReclaimConflict told = ap (λ (x : Answer). answer_status a.reclaim x) (exact (answers.Conflict told.1.0) told.1.1) ∙ ap (λ (late : Bool). if late then statuses.ReclaimConflict else statuses.ShareDenied) told.0
claim_back n s a claim r exact statuses.Delay told = ap (λ (x : Answer). answer_status a.reclaim x) (exact (answers.Recall told.0) told.1)
claim_back n s a claim r exact statuses.Resource told = ap (λ (x : Answer). answer_status a.reclaim x) (exact (answers.Full told.0) told.1)
claim_back n s a claim r exact statuses.Grace told = ap (λ (x : Answer). answer_status a.reclaim x) (exact (answers.Grace told.0) told.1)
claim_back n s a claim r exact statuses.NoGrace told = ap (λ (x : Answer). answer_status a.reclaim x) (exact (answers.NoGrace s.clock) told)
claim_back n s a claim r exact statuses.ReclaimBad told = ap (λ (x : Answer). answer_status a.reclaim x) (exact answers.NotRecorded told)
claim_back n s a claim r exact statuses.ServerFault told = ap (λ (x : Answer). answer_status a.reclaim x) (exact answers.StoreFailed told)
claim_back n s a claim r exact _ told = absurd told

-- the core answers so exactly where that is due
share_exactly : (n : ℕ) (s : CoreState) (wish : Option Bool) (o : Opener) (a : OpenArgsItem) (file : ℕ) (status : NfsStatus) → (answer_status (reclaims a.claim) (ask n all_rooms s (share_ask wish o a file)).0 ≡ status) ↔ IsOpenTold n (share_way s wish o a file) (share_ask wish o a file) (share_claim s o a file) status
unfolding share_ask
share_exactly n s wish o a file status =
    let request = share_ask wish o a file in
    let claim = share_claim s o a file in
    let t = share_way s wish o a file in
    let answer = (ask n all_rooms s request).0 in (
      λ e. subst (λ (x : NfsStatus). IsOpenTold n t request claim x) e (claim_forth n t request claim answer refl refl refl ((ask_due n all_rooms s request (whats.Share (rights_of a.access) (rights_of a.deny)) answer refl).0 refl)),
      λ told. claim_back n t request claim answer (λ x due. (ask_due n all_rooms s request (whats.Share (rights_of a.access) (rights_of a.deny)) x refl).1 due) status told,
    )

granted_status : (n : ℕ) (t : CoreState) (l : NfsLists) (current : Option ℕ) (o : Opener) (a : OpenArgsItem) (file : ℕ) (confirmed : Bool) (write : Option Bool) (had : Option StateidRow) → status_of (carried n t l (granted_by t l o a file confirmed write had)).0 ≡ statuses.Ok
granted_status n t l current o a file confirmed write None = refl
granted_status n t l current o a file confirmed write (Some r) = refl

answered_status : (n : ℕ) (t : CoreState) (l : NfsLists) (current : Option ℕ) (o : Opener) (a : OpenArgsItem) (file : ℕ) (confirmed : Bool) (wish : Option Bool) (answer : Answer) → status_of (carried n t l (answered l current o a file confirmed wish answer t)).0 ≡ answer_status (reclaims a.claim) answer
answered_status n t l current o a file confirmed wish (answers.Granted c) = granted_status n t l current o a file _ (granted_wish t o file wish) (open_held l o file)
answered_status n t l current o a file confirmed wish (answers.Conflict c) = refl
answered_status n t l current o a file confirmed wish (answers.Queued number) = refl
answered_status n t l current o a file confirmed wish (answers.Recall c) = refl
answered_status n t l current o a file confirmed wish (answers.Grace until) = refl
answered_status n t l current o a file confirmed wish (answers.NoGrace clock) = refl
answered_status n t l current o a file confirmed wish answers.NotRecorded = refl
answered_status n t l current o a file confirmed wish (answers.Full limit) = refl
answered_status n t l current o a file confirmed wish answers.NotHeld = refl
answered_status n t l current o a file confirmed wish answers.StoreFailed = refl

on_status : (n others : ℕ) (s : CoreState) (l : NfsLists) (current : Option ℕ) (o : Opener) (a : OpenArgsItem) (confirmed : Bool) (file : ℕ) → has_room others l o file ≡ true → status_of (carried n s l (open_on others s l current o a confirmed file)).0 ≡ answer_status (reclaims a.claim) (ask n all_rooms s (share_ask (wish_of s l o a confirmed file) o a file)).0
on_status n others s l current o a confirmed file room =
    let wish = wish_of s l o a confirmed file in
    let r = ask n all_rooms s (share_ask wish o a file) in
    rw room (answered_status n r.2 l current o a file confirmed wish r.0)

pub as_status : (n : ℕ) (files : List (List ℕ)) (others : ℕ) (s : CoreState) (l : NfsLists) (current : Option ℕ) (at : ℕ) (o : Opener) (a : OpenArgsItem) (confirmed : Bool) (file : ℕ) → opened_file files s l o.client at a ≡ Ok file → has_room others l o file ≡ true → status_of (carried n s l (open_as files others s l current at o a confirmed)).0 ≡ answer_status (reclaims a.claim) (ask n all_rooms s (share_ask (wish_of s l o a confirmed file) o a file)).0
unfolding open_as
as_status n files others s l current at o a confirmed file found room =
    ap (λ (x : Result ℕ NfsStatus). status_of (carried n s l (open_by others s l current o a confirmed x)).0) found
    ∙ on_status n others s l current o a confirmed file room

exactly_by : {X : Type 0} (told is status : NfsStatus) → told ≡ is → ((is ≡ status) ↔ X) → ((told ≡ status) ↔ X)
exactly_by told is status e exactly = (λ d. exactly.0 (sym e ∙ d), λ x. e ∙ exactly.1 x)

-- ---- an OPEN that is judged further

pub further : (n : ℕ) (files : List (List ℕ)) (others : ℕ) (s : CoreState) (l : NfsLists) (current : Option ℕ) (at : ℕ) (o : Opener) (a : OpenArgsItem) (j : Judged) (confirmed : Bool) → goes_on j ≡ Some confirmed → carried n s l (open_judged files others s l current at o a j) ≡ carried n s l (open_as files others s l current at o a confirmed)
further n files others s l current at o a judgements.Next confirmed e = ap (λ (b : Bool). carried n s l (open_as files others s l current at o a b)) (same_Some true confirmed e)
further n files others s l current at o a judgements.New confirmed e = ap (λ (b : Bool). carried n s l (open_as files others s l current at o a b)) (same_Some false confirmed e)
further n files others s l current at o a judgements.Bad confirmed e = absurd (true≢false (ap is_some (sym e)))
further n files others s l current at o a (judgements.Repeats number) confirmed e = absurd (true≢false (ap is_some (sym e)))
further n files others s l current at o a (judgements.Anew number) confirmed e = absurd (true≢false (ap is_some (sym e)))

pub further_told : (n : ℕ) (files : List (List ℕ)) (others : ℕ) (s : CoreState) (l : NfsLists) (current : Option ℕ) (at : ℕ) (o : Opener) (a : OpenArgsItem) (confirmed : Bool) (file : ℕ) (status : NfsStatus) → goes_on (judged l o a.seqid) ≡ Some confirmed → opened_file files s l o.client at a ≡ Ok file → has_room others l o file ≡ true → (status_of (carried n s l (open_judged files others s l current at o a (judged l o a.seqid))).0 ≡ status) ↔ IsOpenTold n (share_way s (wish_of s l o a confirmed file) o a file) (share_ask (wish_of s l o a confirmed file) o a file) (share_claim s o a file) status
further_told n files others s l current at o a confirmed file status goes found room =
    exactly_by _ _ status (ap (λ (r : Outcome). status_of r.0) (further n files others s l current at o a (judged l o a.seqid) confirmed goes) ∙ as_status n files others s l current at o a confirmed file found room) (share_exactly n s (wish_of s l o a confirmed file) o a file status)

-- one that was never confirmed is judged further once what it had is gone
pub anew_told : (n : ℕ) (files : List (List ℕ)) (others : ℕ) (s t : CoreState) (l : NfsLists) (current : Option ℕ) (at : ℕ) (o : Opener) (a : OpenArgsItem) (number file : ℕ) (status : NfsStatus) → judged l o a.seqid ≡ judgements.Anew number → t ≡ all_done n s (gives_all s o (filter (is_whose (whose.Owner number)) l.stateids)) → opened_file files t (without_owner number l) o.client at a ≡ Ok file → has_room others (without_owner number l) o file ≡ true
    → (status_of (carried n s l (open_judged files others s l current at o a (judged l o a.seqid))).0 ≡ status) ↔ IsOpenTold n (share_way t (wish_of t (without_owner number l) o a false file) o a file) (share_ask (wish_of t (without_owner number l) o a false file) o a file) (share_claim t o a file) status
anew_told n files others s t l current at o a number file status anew after found room =
    exactly_by _ _ status (
    ap (λ (j : Judged). status_of (carried n s l (open_judged files others s l current at o a j)).0) anew
    ∙ ap (λ (u : CoreState). status_of (carried n u (without_owner number l) (open_as files others u (without_owner number l) current at o a false)).0) (sym after)
    ∙ as_status n files others t (without_owner number l) current at o a false file found room
    ) (share_exactly n t (wish_of t (without_owner number l) o a false file) o a file status)

pub further_fails : (n : ℕ) (files : List (List ℕ)) (others : ℕ) (s : CoreState) (l : NfsLists) (current : Option ℕ) (at : ℕ) (o : Opener) (a : OpenArgsItem) (confirmed : Bool) (status : NfsStatus) → goes_on (judged l o a.seqid) ≡ Some confirmed → opened_file files s l o.client at a ≡ Err status → carried n s l (open_judged files others s l current at o a (judged l o a.seqid)) ≡ (Ended status, current, [], refused_lists o a confirmed status l, s)
unfolding open_as
further_fails n files others s l current at o a confirmed status goes found =
    further n files others s l current at o a (judged l o a.seqid) confirmed goes
    ∙ ap (λ (x : Result ℕ NfsStatus). carried n s l (open_by others s l current o a confirmed x)) found

pub further_full : (n : ℕ) (files : List (List ℕ)) (others : ℕ) (s : CoreState) (l : NfsLists) (current : Option ℕ) (at : ℕ) (o : Opener) (a : OpenArgsItem) (confirmed : Bool) (file : ℕ) → goes_on (judged l o a.seqid) ≡ Some confirmed → opened_file files s l o.client at a ≡ Ok file → has_room others l o file ≡ false → carried n s l (open_judged files others s l current at o a (judged l o a.seqid)) ≡ (Ended statuses.Resource, current, [], l, s)
unfolding open_as
further_full n files others s l current at o a confirmed file goes found full =
    further n files others s l current at o a (judged l o a.seqid) confirmed goes
    ∙ ap (λ (x : Result ℕ NfsStatus). carried n s l (open_by others s l current o a confirmed x)) found
    ∙ rw full refl

-- ---- what an OPEN that is OK leaves its owner with

granted_claims : (n : ℕ) (t : CoreState) (l : NfsLists) (current : Option ℕ) (o : Opener) (a : OpenArgsItem) (file : ℕ) (confirmed : Bool) (write : Option Bool) (had : Option StateidRow) → (carried n t l (granted_by t l o a file confirmed write had)).4.claims ≡ t.claims
unfolding drawn
granted_claims n t l current o a file confirmed None None = refl
granted_claims n t l current o a file confirmed None (Some r) = refl
granted_claims n t l current o a file confirmed (Some write) None = refl
granted_claims n t l current o a file confirmed (Some write) (Some r) = refl

-- the claims that are left by an answer that grants
pub answered_claims : (n : ℕ) (t : CoreState) (l : NfsLists) (current : Option ℕ) (o : Opener) (a : OpenArgsItem) (file : ℕ) (confirmed : Bool) (wish : Option Bool) (answer : Answer) → answer_status (reclaims a.claim) answer ≡ statuses.Ok → ((c : Claim) × (answer ≡ answers.Granted c)) × ((carried n t l (answered l current o a file confirmed wish answer t)).4.claims ≡ t.claims)
answered_claims n t l current o a file confirmed wish (answers.Granted c) ok = ((c, refl), granted_claims n t l current o a file (confirmed || reclaims a.claim) (granted_wish t o file wish) (open_held l o file))
answered_claims n t l current o a file confirmed wish (answers.Conflict c) ok = absurd (by (reclaims a.claim) ok) where
  by : (late : Bool) → (if late then statuses.ReclaimConflict else statuses.ShareDenied) ≡ statuses.Ok → ⊥
  by true e = cc
  by false e = cc
answered_claims n t l current o a file confirmed wish (answers.Queued number) ok = absurd cc
answered_claims n t l current o a file confirmed wish (answers.Recall c) ok = absurd cc
answered_claims n t l current o a file confirmed wish (answers.Grace until) ok = absurd cc
answered_claims n t l current o a file confirmed wish (answers.NoGrace clock) ok = absurd cc
answered_claims n t l current o a file confirmed wish answers.NotRecorded ok = absurd cc
answered_claims n t l current o a file confirmed wish (answers.Full limit) ok = absurd cc
answered_claims n t l current o a file confirmed wish answers.NotHeld ok = absurd cc
answered_claims n t l current o a file confirmed wish answers.StoreFailed ok = absurd cc

share_granted : (n : ℕ) (s : CoreState) (wish : Option Bool) (o : Opener) (a : OpenArgsItem) (file : ℕ) (c : Claim) → IsGood s → (ask n all_rooms s (share_ask wish o a file)).0 ≡ answers.Granted c
    → shares_of file (asker (share_ask None o a file) s.names) (ask n all_rooms s (share_ask wish o a file)).2.claims ≡ with_share (united_by (asker (share_ask None o a file) s.names) (whats.Share (rights_of a.access) (rights_of a.deny)) (old_shares file (asker (share_ask None o a file) s.names) s.claims)) []
unfolding share_ask
share_granted n s wish o a file c good granted = ask_shares n all_rooms s (share_ask wish o a file) (rights_of a.access) (rights_of a.deny) c good (ask_fits wish o a file).party refl granted

pub on_share : (n others : ℕ) (s : CoreState) (l : NfsLists) (current : Option ℕ) (o : Opener) (a : OpenArgsItem) (confirmed : Bool) (file : ℕ) → IsGood s → has_room others l o file ≡ true → answer_status (reclaims a.claim) (ask n all_rooms s (share_ask (wish_of s l o a confirmed file) o a file)).0 ≡ statuses.Ok
    → shares_of file (asker (share_ask None o a file) s.names) (carried n s l (open_on others s l current o a confirmed file)).4.claims ≡ with_share (united_by (asker (share_ask None o a file) s.names) (whats.Share (rights_of a.access) (rights_of a.deny)) (old_shares file (asker (share_ask None o a file) s.names) s.claims)) []
on_share n others s l current o a confirmed file good room ok =
    let wish = wish_of s l o a confirmed file in
    let r = ask n all_rooms s (share_ask wish o a file) in
    let left = answered_claims n r.2 l current o a file confirmed wish r.0 ok in
    rw room (ap (λ (cs : List Claim). shares_of file (asker (share_ask None o a file) s.names) cs) left.1 ∙ share_granted n s wish o a file left.0.0 good left.0.1)

as_share : (n : ℕ) (files : List (List ℕ)) (others : ℕ) (s : CoreState) (l : NfsLists) (current : Option ℕ) (at : ℕ) (o : Opener) (a : OpenArgsItem) (confirmed : Bool) (file : ℕ) → IsGood s → opened_file files s l o.client at a ≡ Ok file → has_room others l o file ≡ true → status_of (carried n s l (open_as files others s l current at o a confirmed)).0 ≡ statuses.Ok
    → shares_of file (asker (share_ask None o a file) s.names) (carried n s l (open_as files others s l current at o a confirmed)).4.claims ≡ with_share (united_by (asker (share_ask None o a file) s.names) (whats.Share (rights_of a.access) (rights_of a.deny)) (old_shares file (asker (share_ask None o a file) s.names) s.claims)) []
unfolding open_as
as_share n files others s l current at o a confirmed file good found room ok =
    ap (λ (x : Result ℕ NfsStatus). shares_of file (asker (share_ask None o a file) s.names) (carried n s l (open_by others s l current o a confirmed x)).4.claims) found
    ∙ on_share n others s l current o a confirmed file good room (sym (as_status n files others s l current at o a confirmed file found room) ∙ ok)

pub ok_share : (n : ℕ) (files : List (List ℕ)) (others : ℕ) (s : CoreState) (l : NfsLists) (current : Option ℕ) (at : ℕ) (o : Opener) (a : OpenArgsItem) (confirmed : Bool) (file : ℕ) → IsGood s → goes_on (judged l o a.seqid) ≡ Some confirmed → opened_file files s l o.client at a ≡ Ok file → has_room others l o file ≡ true → status_of (carried n s l (open_judged files others s l current at o a (judged l o a.seqid))).0 ≡ statuses.Ok
    → shares_of file (asker (share_ask None o a file) s.names) (carried n s l (open_judged files others s l current at o a (judged l o a.seqid))).4.claims ≡ with_share (united_by (asker (share_ask None o a file) s.names) (whats.Share (rights_of a.access) (rights_of a.deny)) (old_shares file (asker (share_ask None o a file) s.names) s.claims)) []
ok_share n files others s l current at o a confirmed file good goes found room ok =
    let same = further n files others s l current at o a (judged l o a.seqid) confirmed goes in
    ap (λ (r : Outcome). shares_of file (asker (share_ask None o a file) s.names) r.4.claims) same
    ∙ as_share n files others s l current at o a confirmed file good found room (sym (ap (λ (r : Outcome). status_of r.0) same) ∙ ok)

-- ---- it has what was asked

either_implies : (p q r : Bool) → implies p q ≡ true → implies p (q || r) ≡ true
either_implies true true r e = refl
either_implies true false r e = absurd (true≢false (sym e))
either_implies false q r e = refl

self_implies : (p : Bool) → implies p p ≡ true
self_implies true = refl
self_implies false = refl

within_either : (p q x : Rwd) → rights_lie_within p q ≡ true → rights_lie_within p (either_right q x) ≡ true
within_either p q x e =
    let first = and_parts (implies p.r q.r) (implies p.w q.w && implies p.d q.d) e in
    let second = and_parts (implies p.w q.w) (implies p.d q.d) first.1 in
    rw (either_implies p.r q.r x.r first.0) (rw (either_implies p.w q.w x.w second.0) (either_implies p.d q.d x.d second.1))

pub within_self : (p : Rwd) → rights_lie_within p p ≡ true
within_self p = rw (self_implies p.r) (rw (self_implies p.w) (self_implies p.d))

united_has : (access deny x y : Rwd) (cs : List Claim) → rights_lie_within access x ≡ true → rights_lie_within deny y ≡ true → IsShared access deny (with_share (united_with (whats.Share x y) cs) [])
united_has access deny x y [] a d = (a, d)
united_has access deny x y (c ∷ cs) a d = by c.what (λ z v p q. united_has access deny z v cs p q)
  where
    by : (w : What) → ((z v : Rwd) → rights_lie_within access z ≡ true → rights_lie_within deny v ≡ true → IsShared access deny (with_share (united_with (whats.Share z v) cs) [])) → IsShared access deny (with_share (united_with (united_what (whats.Share x y) w) cs) [])
    by (whats.Share rights denied) rest = rest (either_right x rights) (either_right y denied) (within_either access x rights a) (within_either deny y denied d)
    by (whats.Range extent exclusive) rest = rest x y a d
    by (whats.Cache kind broken) rest = rest x y a d

pub joined_has : (access deny : Rwd) (owner : Owner) (cs : List Claim) → IsShared access deny (with_share (united_by owner (whats.Share access deny) cs) [])
unfolding united_by
joined_has access deny owner cs =
    elim (cases_Bool (unites owner)) [
      | inl e ↦ rw e (united_has access deny access deny cs (within_self access) (within_self deny))
      | inr e ↦ rw e (within_self access, within_self deny)
    ]

pub ok_has_asked : (n : ℕ) (files : List (List ℕ)) (others : ℕ) (s : CoreState) (l : NfsLists) (current : Option ℕ) (at : ℕ) (o : Opener) (a : OpenArgsItem) (confirmed : Bool) (file : ℕ) → IsGood s → goes_on (judged l o a.seqid) ≡ Some confirmed → opened_file files s l o.client at a ≡ Ok file → has_room others l o file ≡ true → status_of (carried n s l (open_judged files others s l current at o a (judged l o a.seqid))).0 ≡ statuses.Ok
    → IsShared (rights_of a.access) (rights_of a.deny) (shares_of file (asker (share_ask None o a file) s.names) (carried n s l (open_judged files others s l current at o a (judged l o a.seqid))).4.claims)
ok_has_asked n files others s l current at o a confirmed file good goes found room ok =
    subst (λ (shares : List (Rwd × Rwd)). IsShared (rights_of a.access) (rights_of a.deny) shares) (sym (ok_share n files others s l current at o a confirmed file good goes found room ok)) (joined_has (rights_of a.access) (rights_of a.deny) (asker (share_ask None o a file) s.names) (old_shares file (asker (share_ask None o a file) s.names) s.claims))

-- so does one of an owner that was never confirmed, once what it had is gone
pub anew_has_asked : (n : ℕ) (files : List (List ℕ)) (others : ℕ) (s t : CoreState) (l : NfsLists) (current : Option ℕ) (at : ℕ) (o : Opener) (a : OpenArgsItem) (number file : ℕ) → IsGood s → judged l o a.seqid ≡ judgements.Anew number → t ≡ all_done n s (gives_all s o (filter (is_whose (whose.Owner number)) l.stateids)) → opened_file files t (without_owner number l) o.client at a ≡ Ok file → has_room others (without_owner number l) o file ≡ true → status_of (carried n s l (open_judged files others s l current at o a (judged l o a.seqid))).0 ≡ statuses.Ok
    → IsShared (rights_of a.access) (rights_of a.deny) (shares_of file (asker (share_ask None o a file) t.names) (carried n s l (open_judged files others s l current at o a (judged l o a.seqid))).4.claims)
anew_has_asked n files others s t l current at o a number file good anew after found room ok =
    let m = without_owner number l in
    let rows = filter (is_whose (whose.Owner number)) l.stateids in
    let well : IsGood t = subst IsGood (sym after) (deeds_good n s (gives_all s o rows) good (all_given n s (λ _. Unit {0}) o rows good tt).0) in
    let told = ap (λ (j : Judged). status_of (carried n s l (open_judged files others s l current at o a j)).0) anew ∙ ap (λ (u : CoreState). status_of (carried n u m (open_as files others u m current at o a false)).0) (sym after) in
    let claims = ap (λ (j : Judged). (carried n s l (open_judged files others s l current at o a j)).4.claims) anew ∙ ap (λ (u : CoreState). (carried n u m (open_as files others u m current at o a false)).4.claims) (sym after) in
    let shares = ap (λ (cs : List Claim). shares_of file (asker (share_ask None o a file) t.names) cs) claims ∙ as_share n files others t m current at o a false file well found room (sym told ∙ ok) in
    subst (λ (shares : List (Rwd × Rwd)). IsShared (rights_of a.access) (rights_of a.deny) shares) (sym shares) (joined_has (rights_of a.access) (rights_of a.deny) (asker (share_ask None o a file) t.names) (old_shares file (asker (share_ask None o a file) t.names) t.claims))
