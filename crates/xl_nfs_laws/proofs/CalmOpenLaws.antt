-- Operations that neither give a delegation nor take one back leave each client the delegations that it had, by the core and by
-- the lists.
use Rattle.std.proofs.Common.{◌≡◌, ℕ, ◌+◌, ◌≤◌, Bool, true, false, List, [], ◌∷◌, Option, Some, None, is_some, refl, sym, ap, subst, ◌∙◌, inl, inr, true≢false, arith}
use Rattle.std.proofs.lemmas.Bool.{and_parts, cases_Bool}
use Rattle.std.specs.Bool.{◌==◌}
use Rattle.std.specs.List.{AllByRecursion, find}
use Rattle.xl_base.proofs.Members.{all_append, all_from, all_in}
use Rattle.xl_base.specs.declared.name.Owner.TheVariants as owners
use Rattle.xl_base.specs.declared.name.Protocol.TheVariants.{Nfs}
use Rattle.xl_matrix.specs.Blocks.{is_cache, is_share}
use Rattle.xl_matrix.specs.declared.claim.Claim.{Claim}
use Rattle.xl_matrix.specs.declared.claim.Rwd.{Rwd}
use Rattle.xl_matrix.specs.declared.claim.What.{What}
use Rattle.xl_matrix.specs.declared.claim.What.TheVariants as whats
use Rattle.xl_names.specs.Names.{number_of}
use Rattle.xl_names.specs.declared.name.Name.TheVariants.{NfsShare}
use Rattle.xl_nfs.specs.declared.opens.CloseArgs.{CloseArgs}
use Rattle.xl_nfs.specs.declared.opens.OpenConfirmArgs.{OpenConfirmArgs}
use Rattle.xl_nfs.specs.declared.opens.OpenDowngradeArgs.{OpenDowngradeArgs}
use Rattle.xl_nfs.specs.declared.status.NfsStatus.{NfsStatus}
use Rattle.xl_nfs_state.specs.Rows.{with_standing}
use Rattle.xl_nfs_state.specs.State.{NfsLists, is_client, is_kept, is_open, is_owner, is_stateid}
use Rattle.xl_nfs_state.specs.Verdict.{next_seqid}
use Rattle.xl_nfs_state.specs.declared.client.ClientRow.{ClientRow}
use Rattle.xl_nfs_state.specs.declared.kept.KeptRow.{KeptRow}
use Rattle.xl_nfs_state.specs.declared.owner.SeqidState.{SeqidState}
use Rattle.xl_nfs_state.specs.declared.stateid.Standing.{Standing}
use Rattle.xl_nfs_state.specs.declared.owner.OwnerKind.TheVariants as kinds
use Rattle.xl_nfs_state.specs.declared.owner.OwnerKind.{OwnerKind}
use Rattle.xl_nfs.specs.declared.basics.Stateid.{Stateid}
use Rattle.xl_nfs_state.specs.declared.stateid.StateidRow.{StateidRow}
use Rattle.xl_core.proofs.DeedLeaves.{found_in}
use Rattle.xl_core.specs.Decide.{ask}
use Rattle.xl_core.specs.Deeds.{Deed, Asks, all_done}
use Rattle.xl_core.specs.Good.{IsGood}
use Rattle.xl_core.specs.Settle.{share_has}
use Rattle.xl_core.specs.State.{CoreState}
use Rattle.xl_core.specs.declared.ask.Answer.{Answer}
use Rattle.xl_table.specs.Relock.{is_share_of}
use Rattle.xl_nfs_opens.specs.Closing.{checked_as, counts, checked, close, close_by, close_done, confirm_by, confirm_done, done_lists, ends_locks, failed_lists, gives_up, lock_owner, locks_gone, locks_under, next_seqids, open_confirm, opener_by, share_by_opener, share_of_open, standing_fault, state_told}
use Rattle.xl_nfs_laws.specs.Delegated.{AreSet, AreTied, IsShut, is_open_still}
use Rattle.xl_nfs_opens.specs.Downgrades.{downgrade_by, downgrade_done, downgrade_fault, open_downgrade, weakens}
use Rattle.xl_nfs_opens.specs.Opens.{gives, repeated, rights_of, share_by, share_held, stood}
use Rattle.xl_nfs_laws.specs.Orderly.{IsOrderly}
use Rattle.xl_plan.specs.Plans.{Tells, Does, Behind, Asking, deeds_of}
use Rattle.xl_nfs_opens.specs.Plans.{Plan, carried}
use Rattle.xl_nfs_opens.specs.Renewing.{renewals, renewals_by, renewing, state_client}
use Rattle.xl_nfs_opens.specs.Results.{spelled}
use Rattle.xl_nfs_opens.specs.declared.opener.Checked.{Checked}
use Rattle.xl_nfs_opens.specs.declared.opener.Checked.TheVariants.{Refused, Repeated, Passed}
use Rattle.xl_nfs_opens.specs.declared.opener.Opener.{Opener}
use Rattle.xl_nfs_laws.proofs.CloseOwn.{close_own}
use Rattle.xl_nfs_laws.proofs.OpenNumberLaws.{deeds_rise, draws, parts_own}
use Rattle.xl_nfs_opens.proofs.OpenOwn.{Owned, confirm_own, downgrade_own}
use Rattle.xl_nfs_laws.proofs.ListOrderLaws.{all_marked}
use Rattle.xl_nfs_laws.proofs.OpenCheckLaws.{passed_is}
use Rattle.xl_nfs_laws.proofs.PassedCheckLaws.{IfPassed, IsPassed, checked_passed}
use Rattle.xl_nfs_laws.proofs.QuietCacheLaws.{IsQuiet, IsQuietDeed, all_quiet, one_quiet}
use Rattle.xl_nfs_laws.proofs.StillDelegatedLaws.{AreStill, counted_still, failed_still, later_set, locks_still, none_shut, owner_shut, still_kept, still_self, still_then, stood_still}

-- ---- plans

-- where a client keeps what it had, by the core and by the lists, it has just the delegations that its caches are
pub tied_by : (s t : CoreState) (last : ℕ) (l m : NfsLists) → AreTied s l → IsQuiet s t → last ≤ t.counter → AreStill last l m → AreTied t m
tied_by s t last l m tied quiet le still = record {
  set = later_set last t.counter m le still.set;
  delegated = λ id file. quiet.held id file ∙ tied.delegated id file ∙ sym (still_kept last l m still id file);
}

-- whatever it comes to in a state in which this number was given out last, no delegation comes or goes
abbrev pub IsCalm : ℕ → NfsLists → Plan → Type 0
IsCalm last l (Tells told) = Unit {0}
IsCalm last l (Does deeds lists told) = AllByRecursion IsQuietDeed deeds × AreStill (last + draws deeds) l lists
IsCalm last l (Behind deeds lists rest) = AllByRecursion IsQuietDeed deeds × AreStill last l lists × ((t : CoreState) → last ≤ t.counter → IsCalm t.counter lists (rest t))
IsCalm last l (Asking left a rest) = (a.wish ≡ []) × ((answer : Answer) (t : CoreState) → last ≤ t.counter → IsCalm t.counter l (rest answer t))

pub later_still : (a b : ℕ) (l m : NfsLists) → a ≤ b → AreStill a l m → AreStill b l m
later_still a b l m le still = record { set = later_set a b m le still.set; rows = still.rows; names = still.names }

pub does_still : (last : ℕ) (deeds : List Deed) (l m : NfsLists) → AreStill last l m → AreStill (last + draws deeds) l m
does_still last deeds l m still = later_still last (last + draws deeds) l m (omega arith) still

pub carried_tied : (n : ℕ) (s : CoreState) (l : NfsLists) (plan : Plan) (Client : List ℕ → Type 0) → IsGood s → Owned n s Client plan → AreTied s l → IsCalm s.counter l plan → AreTied (carried n s l plan).4 (carried n s l plan).3
carried_tied n s l (Tells told) Client good own tied calm = tied
carried_tied n s l (Does deeds lists told) Client good own tied calm =
    tied_by s (all_done n s deeds) (s.counter + draws deeds) l lists tied (all_quiet n s deeds good own.0 calm.0) (deeds_rise n s Client deeds good own.0 own.1) calm.1
carried_tied n s l (Behind deeds lists rest) Client good own tied calm =
    let t = all_done n s deeds in
    let parts = parts_own n s Client deeds (deeds_of n t (rest t)) own.0 own.1 in
    let quiet = all_quiet n s deeds good parts.0.0 calm.0 in
    carried_tied n t lists (rest t) Client quiet.good parts.1 (tied_by s t s.counter l lists tied quiet quiet.later calm.1) (calm.2 t quiet.later)
carried_tied n s l (Asking left a rest) Client good own tied calm =
    let r = ask n left s a in
    let quiet = one_quiet n s (Asks left a) good own.0.0 calm.0 in
    carried_tied n r.2 l (rest r.0 r.2) Client quiet.good (own.0.1, own.1.1) (tied_by s r.2 s.counter l l tied quiet quiet.later (still_self s.counter l tied.set)) (calm.1 r.0 r.2 quiet.later)

-- ---- leases

pub renewals_quiet : (l : NfsLists) (who : Option ℕ) → AllByRecursion IsQuietDeed (renewals l who)
renewals_quiet l None = tt
renewals_quiet l (Some number) = by (find (is_client number true) l.clients)
  where
    by : (o : Option ClientRow) → AllByRecursion IsQuietDeed (renewals_by o)
    by None = tt
    by (Some r) = (tt, tt)

pub renewing_calm : (last : ℕ) (l : NfsLists) (who : Option ℕ) (rest : CoreState → Plan) → AreSet last l → ((t : CoreState) → last ≤ t.counter → AreSet t.counter l → IsCalm t.counter l (rest t)) → IsCalm last l (renewing l who rest)
renewing_calm last l who rest set each = (renewals_quiet l who, still_self last l set, λ t le. each t le (later_set last t.counter l le set))

-- ---- requests on opens

share_quiet : (s : CoreState) (o : Opener) (file : ℕ) (claim : Claim) → share_held s o file ≡ Some claim → is_cache claim.what ≡ false
unfolding share_held
share_quiet s o file claim e = by (number_of (NfsShare o.id o.owner) s.names) e
  where
    not_cache : (w : What) → is_share w ≡ true → is_cache w ≡ false
    not_cache (whats.Share access deny) h = refl
    not_cache (whats.Range extent exclusive) h = absurd (true≢false (sym h))
    not_cache (whats.Cache kind running) h = absurd (true≢false (sym h))

    by : (x : Option ℕ) → share_by s.claims file x ≡ Some claim → is_cache claim.what ≡ false
    by None f = absurd (true≢false (ap is_some (sym f)))
    by (Some number) f = not_cache claim.what (and_parts _ (is_share claim.what) (found_in (is_share_of file (owners.Name Nfs number)) s.claims claim f).1).1

pub gives_quiet : (s : CoreState) (o : Opener) (file : ℕ) (x : Option Claim) → share_held s o file ≡ x → AllByRecursion IsQuietDeed (gives x)
gives_quiet s o file None e = tt
gives_quiet s o file (Some claim) e = (share_quiet s o file claim e, tt)

-- the share that stands for an open
open_quiet : (s : CoreState) (l : NfsLists) (r : StateidRow) (owner : ℕ) → AllByRecursion IsQuietDeed (gives (share_of_open s l r owner))
open_quiet s l r owner = by (opener_by l r.client owner)
  where
    by : (x : Option Opener) → AllByRecursion IsQuietDeed (gives (share_by_opener s r.file x))
    by None = tt
    by (Some o) = gives_quiet s o r.file (share_held s o r.file) refl

weakens_quiet : (x : Option Claim) (access deny : Rwd) → AllByRecursion IsQuietDeed (weakens x access deny)
weakens_quiet None access deny = tt
weakens_quiet (Some claim) access deny =
    elim (cases_Bool (share_has claim.what access deny)) [
      | inl e ↦ rw e (tt, tt)
      | inr e ↦ rw e tt
    ]

ends_quiet : (l : NfsLists) (r : StateidRow) (qs : List StateidRow) → AllByRecursion IsQuietDeed (ends_locks l r qs)
ends_quiet l r [] = tt
ends_quiet l r (q ∷ qs) = all_append IsQuietDeed (gives_up r.file (opener_by l r.client (lock_owner q.holder))) (ends_locks l r qs) (by (opener_by l r.client (lock_owner q.holder))) (ends_quiet l r qs)
  where
    by : (x : Option Opener) → AllByRecursion IsQuietDeed (gives_up r.file x)
    by None = tt
    by (Some o) = (refl, tt)

-- what the owner's last request closed is no delegation
pub passed_shut : (last : ℕ) (l : NfsLists) (r : StateidRow) (owner : ℕ) (seqids : SeqidState) → IsPassed l r owner seqids → AreSet last l → IsShut last l.stateids seqids.closed
passed_shut last l r owner seqids passed set =
    subst (λ (t : SeqidState). IsShut last l.stateids t.closed) (sym passed.seqids_is) (owner_shut last l (is_owner owner) passed.row passed.owned set)

pub done_still : (last : ℕ) (s : CoreState) (l : NfsLists) (r : StateidRow) (owner : ℕ) (seqids : SeqidState) (op seqid : ℕ) (confirmed : Bool) (closing : Option ℕ) (access deny : ℕ) (closed : Bool) → IsPassed l r owner seqids
    → IsShut last (stood r.number r access deny closed l).stateids closing → AreSet last l → AreStill last l (done_lists s l r owner seqids op seqid confirmed closing access deny closed)
done_still last s l r owner seqids op seqid confirmed closing access deny closed passed shut set =
    let a : NfsLists = stood r.number r access deny closed l in
    let one = stood_still last r.number r access deny closed l set in
    let was : IsShut last a.stateids seqids.closed = subst (λ (t : SeqidState). IsShut last a.stateids t.closed) (sym passed.seqids_is) (owner_shut last a (is_owner owner) passed.row passed.owned one.set) in
    still_then last last l a (done_lists s l r owner seqids op seqid confirmed closing access deny closed) one (counted_still last owner seqids.closed (next_seqids op seqid confirmed closing) (spelled op (state_told s r)) a was shut one.set)

-- what a CLOSE closes is an open
closed_shut : (last : ℕ) (l : NfsLists) (r : StateidRow) (owner : ℕ) (seqids : SeqidState) (access deny : ℕ) → IsPassed l r owner seqids → is_open r.holder ≡ true → IsOrderly l → AreSet last l → IsShut last (stood r.number r access deny true l).stateids (Some r.number)
closed_shut last l r owner seqids access deny passed opened orderly set =
    let to : Standing = record { seqid = next_seqid r.standing.seqid; access = access; deny = deny; closed = true } in
    record {
      given = all_in (λ (q : StateidRow). q.number ≤ last) r l.stateids set.given (found_in (is_stateid r.number) l.stateids r passed.found).0;
      other = all_marked (λ q. Unit {0}) (λ q. is_open_still (Some r.number) q ≡ true) r.number (with_standing to) l.stateids r passed.found orderly.apart
          (λ x other h. apart x other) (λ h. rw opened refl) (all_from (λ q. Unit {0}) l.stateids (λ q there. tt));
    }
  where
    apart : (x : StateidRow) → (r.number == x.number) ≡ false → is_open_still (Some r.number) x ≡ true
    apart x other = elim (cases_Bool (is_open x.holder)) [ inl e ↦ rw e refl | inr e ↦ rw (e, other) refl ]

pub repeat_calm : (last : ℕ) (s : CoreState) (l : NfsLists) (current : Option ℕ) (o : Option KeptRow) → AreSet last l → IsCalm last l (repeated s l current o)
repeat_calm last s l current None set = (tt, does_still last [] l l (still_self last l set))
repeat_calm last s l current (Some k) set = (tt, does_still last [] l l (still_self last l set))

-- ---- OPEN_CONFIRM, OPEN_DOWNGRADE, CLOSE

-- a request on a stateid is calm, if it is once it passed
pub counts_calm : (last : ℕ) (s : CoreState) (l : NfsLists) (current : Option ℕ) (kind : OwnerKind) (op seqid : ℕ) (stateid : Stateid) (rest : StateidRow → ℕ → SeqidState → Plan) → AreSet last l → ((r : StateidRow) (w : ℕ) (v : SeqidState) → IsPassed l r w v → IsCalm last l (rest r w v)) → IsCalm last l (counts s l current rest (checked_as kind s l current op seqid stateid))
counts_calm last s l current kind op seqid stateid rest set each = by (checked_as kind s l current op seqid stateid) (checked_passed kind s l current op seqid stateid)
  where
    by : (c : Checked) → IfPassed l c → IsCalm last l (counts s l current rest c)
    by (Refused status) passed = (tt, does_still last [] l l (still_self last l set))
    by (Repeated owner) passed = repeat_calm last s l current (find (is_kept owner) l.kept) set
    by (Passed r w v) passed = each r w v passed

confirm_done_calm : (last : ℕ) (s : CoreState) (l : NfsLists) (current : Option ℕ) (a : OpenConfirmArgs) (r : StateidRow) (owner : ℕ) (seqids : SeqidState) (x : Option NfsStatus) → IsPassed l r owner seqids → AreSet last l → IsCalm last l (confirm_done s l current a r owner seqids x)
confirm_done_calm last s l current a r owner seqids (Some status) passed set = (tt, does_still last [] l (failed_lists l owner seqids 20 a.seqid status) (failed_still last l owner seqids 20 a.seqid status (passed_shut last l r owner seqids passed set) set))
confirm_done_calm last s l current a r owner seqids None passed set =
    (tt, does_still last [] l (done_lists s l r owner seqids 20 a.seqid true None r.standing.access r.standing.deny false) (done_still last s l r owner seqids 20 a.seqid true None r.standing.access r.standing.deny false passed (none_shut last _ None refl) set))

confirm_calm : (last : ℕ) (s : CoreState) (l : NfsLists) (current : Option ℕ) (a : OpenConfirmArgs) → AreSet last l → IsCalm last l (open_confirm s l current a)
unfolding open_confirm
confirm_calm last s l current a set =
    renewing_calm last l (state_client s l a.stateid) (λ t. confirm_by t l current a (checked t l current 20 a.seqid a.stateid)) set
    (λ t le after. counts_calm t.counter t l current kinds.Open 20 a.seqid a.stateid (λ r w v. confirm_done t l current a r w v (standing_fault r v a.stateid.seqid false)) after (λ r w v passed. confirm_done_calm t.counter t l current a r w v (standing_fault r v a.stateid.seqid false) passed after))

downgrade_done_calm : (last : ℕ) (s : CoreState) (l : NfsLists) (current : Option ℕ) (a : OpenDowngradeArgs) (r : StateidRow) (owner : ℕ) (seqids : SeqidState) (x : Option NfsStatus) → IsPassed l r owner seqids → AreSet last l → IsCalm last l (downgrade_done s l current a r owner seqids x)
downgrade_done_calm last s l current a r owner seqids (Some status) passed set = (tt, does_still last [] l (failed_lists l owner seqids 21 a.seqid status) (failed_still last l owner seqids 21 a.seqid status (passed_shut last l r owner seqids passed set) set))
downgrade_done_calm last s l current a r owner seqids None passed set = (
  weakens_quiet (share_of_open s l r owner) (rights_of a.access) (rights_of a.deny),
  does_still last (weakens (share_of_open s l r owner) (rights_of a.access) (rights_of a.deny)) l (done_lists s l r owner seqids 21 a.seqid seqids.confirmed None a.access a.deny false)
      (done_still last s l r owner seqids 21 a.seqid seqids.confirmed None a.access a.deny false passed (none_shut last _ None refl) set),
)

downgrade_calm : (last : ℕ) (s : CoreState) (l : NfsLists) (current : Option ℕ) (a : OpenDowngradeArgs) → AreSet last l → IsCalm last l (open_downgrade s l current a)
unfolding open_downgrade
downgrade_calm last s l current a set =
    renewing_calm last l (state_client s l a.stateid) (λ t. downgrade_by t l current a (checked t l current 21 a.seqid a.stateid)) set
    (λ t le after. counts_calm t.counter t l current kinds.Open 21 a.seqid a.stateid (λ r w v. downgrade_done t l current a r w v (downgrade_fault r v a)) after (λ r w v passed. downgrade_done_calm t.counter t l current a r w v (downgrade_fault r v a) passed after))

close_done_calm : (last : ℕ) (s : CoreState) (l : NfsLists) (current : Option ℕ) (a : CloseArgs) (r : StateidRow) (owner : ℕ) (seqids : SeqidState) (x : Option NfsStatus) → IsPassed l r owner seqids → is_open r.holder ≡ true → IsOrderly l → AreSet last l → IsCalm last l (close_done s l current a r owner seqids x)
close_done_calm last s l current a r owner seqids (Some status) passed opened orderly set = (tt, does_still last [] l (failed_lists l owner seqids 4 a.seqid status) (failed_still last l owner seqids 4 a.seqid status (passed_shut last l r owner seqids passed set) set))
close_done_calm last s l current a r owner seqids None passed opened orderly set = (
  ends_quiet l r (locks_under l r.number),
  still_self last l set,
  λ t le.
      (let later = later_set last t.counter l le set in
      let after : NfsLists = done_lists t l r owner seqids 4 a.seqid seqids.confirmed (Some r.number) r.standing.access r.standing.deny true in
      let one = done_still t.counter t l r owner seqids 4 a.seqid seqids.confirmed (Some r.number) r.standing.access r.standing.deny true passed (closed_shut t.counter l r owner seqids r.standing.access r.standing.deny passed opened orderly later) later in
      (open_quiet t l r owner, does_still t.counter (gives (share_of_open t l r owner)) l (locks_gone r.number after) (still_then t.counter t.counter l after (locks_gone r.number after) one (locks_still t.counter r.number after one.set)))),
)

close_checked_calm : (last : ℕ) (s : CoreState) (l : NfsLists) (current : Option ℕ) (a : CloseArgs) (c : Checked) → checked s l current 4 a.seqid a.stateid ≡ c → IfPassed l c → IsOrderly l → AreSet last l → IsCalm last l (close_by s l current a c)
close_checked_calm last s l current a (Refused status) e passed orderly set = (tt, does_still last [] l l (still_self last l set))
close_checked_calm last s l current a (Repeated owner) e passed orderly set = repeat_calm last s l current (find (is_kept owner) l.kept) set
close_checked_calm last s l current a (Passed r w v) e passed orderly set =
    close_done_calm last s l current a r w v (standing_fault r v a.stateid.seqid true) passed (ap is_open (passed_is s l current 4 a.seqid a.stateid r w v e).opened.holder) orderly set

close_calm : (last : ℕ) (s : CoreState) (l : NfsLists) (current : Option ℕ) (a : CloseArgs) → IsOrderly l → AreSet last l → IsCalm last l (close s l current a)
unfolding close
close_calm last s l current a orderly set =
    renewing_calm last l (state_client s l a.stateid) (λ t. close_by t l current a (checked t l current 4 a.seqid a.stateid)) set
    (λ t le after. close_checked_calm t.counter t l current a (checked t l current 4 a.seqid a.stateid) refl (checked_passed kinds.Open t l current 4 a.seqid a.stateid) orderly after)

-- ---- each operation

pub confirm_tied : (n : ℕ) (s : CoreState) (l : NfsLists) (current : Option ℕ) (a : OpenConfirmArgs) → IsGood s → AreTied s l → (let r = carried n s l (open_confirm s l current a) in AreTied r.4 r.3)
confirm_tied n s l current a good tied = carried_tied n s l (open_confirm s l current a) _ good (confirm_own n s l current a good) tied (confirm_calm s.counter s l current a tied.set)

pub downgrade_tied : (n : ℕ) (s : CoreState) (l : NfsLists) (current : Option ℕ) (a : OpenDowngradeArgs) → IsGood s → AreTied s l → (let r = carried n s l (open_downgrade s l current a) in AreTied r.4 r.3)
downgrade_tied n s l current a good tied = carried_tied n s l (open_downgrade s l current a) _ good (downgrade_own n s l current a good) tied (downgrade_calm s.counter s l current a tied.set)

pub close_tied : (n : ℕ) (s : CoreState) (l : NfsLists) (current : Option ℕ) (a : CloseArgs) → IsGood s → IsOrderly l → AreTied s l → (let r = carried n s l (close s l current a) in AreTied r.4 r.3)
close_tied n s l current a good orderly tied = carried_tied n s l (close s l current a) _ good (close_own n s l current a good) tied (close_calm s.counter s l current a orderly tied.set)
