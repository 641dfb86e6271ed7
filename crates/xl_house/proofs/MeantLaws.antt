-- What the replies of NLM, NFSv4 and SMB say is done is done.
use Rattle.std.proofs.Common.{◌≡◌, ℕ, Bool, true, false, List, [], ◌∷◌, Option, Some, is_some, sym, ap, subst, ◌∙◌, true≢false}
use Rattle.std.specs.List.{AllByRecursion, find, list_any}
use Rattle.std.specs.Prelude.{bytes_eq}
use Rattle.xl_base.specs.declared.event.Event.{Event}
use Rattle.xl_base.specs.declared.event.Event.TheVariants.{Message}
use Rattle.xl_base.specs.declared.event.Kind.{Kind}
use Rattle.xl_base.specs.declared.journal.Entry.{Entry}
use Rattle.xl_base.specs.declared.journal.Exports.{Exports}
use Rattle.xl_base.specs.declared.journal.Head.{Head}
use Rattle.xl_base.specs.declared.name.Owner.TheVariants as owners
use Rattle.xl_base.specs.declared.name.Protocol.TheVariants as protocols
use Rattle.xl_matrix.specs.declared.claim.Rwd.{Rwd}
use Rattle.xl_names.specs.Names.{number_of}
use Rattle.xl_names.specs.declared.name.Name.TheVariants.{NfsShare}
use Rattle.xl_table.specs.Relock.{shares_of}
use Rattle.xl_programs.specs.Programs.{RequestItem, IncomingItem}
use Rattle.xl_programs.specs.declared.program.Program.{Program}
use Rattle.xl_core.proofs.GoodLaws.{begun_good}
use Rattle.xl_core.specs.Causes.{stands_against}
use Rattle.xl_core.specs.Deeds.{all_done}
use Rattle.xl_core.specs.Good.{IsGood}
use Rattle.xl_core.specs.Leases.{Lease}
use Rattle.xl_core.specs.State.{CoreState}
use Rattle.xl_front_nlm.specs.AsTold as nlm
use Rattle.xl_front_nlm.proofs.AsToldLaws.{request_told}
use Rattle.xl_nfs.specs.Basics.{OwnerItem}
use Rattle.xl_nfs.specs.Locks.{LockTestArgsItem, NewLockerItem}
use Rattle.xl_nfs.specs.declared.basics.Stateid.{Stateid}
use Rattle.xl_nfs.specs.declared.status.NfsStatus.TheVariants as statuses
use Rattle.xl_nfs_opens.specs.Closing.{opener_by}
use Rattle.xl_nfs_opens.specs.Plans.{Outcome, status_of}
use Rattle.xl_nfs_opens.specs.declared.opener.Opener.{Opener}
use Rattle.xl_nfs_opens.specs.declared.told.Told.TheVariants.{Free}
use Rattle.xl_nfs_state.specs.State.{NfsLists, delegated_on, is_owner, is_owner_named, is_stateid}
use Rattle.xl_nfs_state.specs.declared.client.ClientRow.{ClientRow}
use Rattle.xl_nfs_state.specs.declared.owner.OwnerKind.TheVariants as kinds
use Rattle.xl_nfs_state.specs.declared.owner.OwnerRow.{OwnerRow}
use Rattle.xl_nfs_state.specs.declared.stateid.Holder.TheVariants as holders
use Rattle.xl_nfs_state.specs.declared.stateid.StateidRow.{StateidRow}
use Rattle.xl_smb_state.proofs.RowLaws.{none_some}
use Rattle.xl_nfs_laws.specs.AnsweredStateids.{IsAnswered}
use Rattle.xl_nfs_laws.proofs.AsToldLaws as nfs_told
use Rattle.xl_nfs_laws.specs.AsTold as nfs
use Rattle.xl_nfs_laws.specs.DoneAsTold.{IsClosed, IsFirstTold, IsGivenBack, IsLockTestTold, IsNamed, IsReleased, IsRenewed}
use Rattle.xl_nfs_laws.specs.LockLaws.{test_claim}
use Rattle.xl_smb_laws.specs.AsTold as smb
use Rattle.xl_smb_laws.proofs.AsToldLaws.{message_told}
use Rattle.xl_house.specs.Done.{Round, rounds}
use Rattle.xl_house.specs.Free.{IsFree}
use Rattle.xl_house.specs.Lawful.{Always}
use Rattle.xl_house.specs.Meant.{IsMeant, IsMeantBy, IsMeantByNfs, IsMeantByNlm, IsMeantBySmb}
use Rattle.xl_house.specs.Own.{Own, program_own, record_own, message_own}
use Rattle.xl_house.specs.State.{Whole, nfs_opens, smb_opens, start_of}
use Rattle.xl_house.specs.declared.layers.Fronts.{Fronts}
use Rattle.xl_house.proofs.DoneLaws.{each_event, restarts}
use Rattle.xl_house.proofs.NfsTiedLaws.{AreTogether, always_where_tied, found_together, met_tied, round_ties}
use Rattle.xl_house.proofs.RoundLaws.{rounds_so}
use Rattle.xl_house.specs.NfsTied.{IsNfsTied}

abbrev Means : ℕ → Exports → Fronts → CoreState → ℕ → RequestItem → Own → Type 0
Means n exports f s conn r o = nlm.AreAsTold exports f.nlm s conn r o.replies (all_done n s o.deeds)

nlm_meant : (n : ℕ) (s : Whole) (number : ℕ) (bytes : List ℕ) → IsGood s.core → IsMeantByNlm n s number bytes
nlm_meant n s number bytes good = λ rpc r asked program.
    subst (λ (kind : Option Kind). Means n s.exports s.front s.core number r (message_own n s.exports s.front s.core kind number bytes)) (sym rpc)
    (subst (λ (incoming : IncomingItem). Means n s.exports s.front s.core number r (record_own n s.exports s.front s.core number incoming)) (sym asked)
    (subst (λ (p : Program). Means n s.exports s.front s.core number r (program_own n s.exports s.front s.core number r p)) (sym program)
    (request_told n s.exports s.front.nlm s.core number r good)))

abbrev NfsMeans : ℕ → Exports → Fronts → CoreState → ℕ → RequestItem → Own → Type 0
NfsMeans n exports f s conn r o = nfs.AreRequestTold n exports (smb_opens f) f.nfs s conn r o.replies

nfs_meant : (n : ℕ) (s : Whole) (number : ℕ) (bytes : List ℕ) → IsGood s.core → AreTogether [] s.front s.core → IsMeantByNfs n s number bytes
nfs_meant n s number bytes good b = λ rpc r asked program.
    subst (λ (kind : Option Kind). NfsMeans n s.exports s.front s.core number r (message_own n s.exports s.front s.core kind number bytes)) (sym rpc)
    (subst (λ (incoming : IncomingItem). NfsMeans n s.exports s.front s.core number r (record_own n s.exports s.front s.core number incoming)) (sym asked)
    (subst (λ (p : Program). NfsMeans n s.exports s.front s.core number r (program_own n s.exports s.front s.core number r p)) (sym program)
    (nfs_told.request_told n s.exports (smb_opens s.front) s.front.nfs s.core number r good b.orderly b.calm (met_tied s b))))

abbrev SmbMeans : ℕ → Exports → Fronts → CoreState → ℕ → List ℕ → Own → Type 0
SmbMeans n exports f s conn bytes o = smb.AreAsTold exports.files f.smb.state s conn bytes o.replies (all_done n s o.deeds) o.given.2.smb.state

smb_meant : (n : ℕ) (s : Whole) (number : ℕ) (bytes : List ℕ) → IsGood s.core → IsMeantBySmb n s number bytes
smb_meant n s number bytes good = λ packet.
    subst (λ (kind : Option Kind). SmbMeans n s.exports s.front s.core number bytes (message_own n s.exports s.front s.core kind number bytes)) (sym packet)
    (message_told n s.exports (nfs_opens s.front) s.front.smb s.core number bytes good)

-- a round, in a good state in which rows and claims are tied
meant_by : (n : ℕ) (s : Whole) (event : Event) → IsGood s.core → AreTogether [] s.front s.core → IsMeantBy n s event
meant_by n s (Message number bytes) good b = (nlm_meant n s number bytes good, nfs_meant n s number bytes good b, smb_meant n s number bytes good)
meant_by n s event good b = tt

abbrev RoundMeant : ℕ → Round → Type 0
RoundMeant n r = IsMeantBy n r.found r.cause

-- and so each round of an entry
all_meant : (n : ℕ) (s : Whole) (event : Event) → IsFree s → IsNfsTied s → AllByRecursion (λ r. RoundMeant n r) (rounds n s event)
all_meant n s event free tied =
    each_event (λ e. AllByRecursion (λ r. RoundMeant n r) (rounds n s e))
    (λ e other. rounds_so n (AreTogether []) s e (λ r. RoundMeant n r) other (round_ties n) ((λ t good b. meant_by n t e good b), (λ t conn message good b. meant_by n t (Message conn message) good b)) (begun_good s.core free.good) (found_together s tied))
    (restarts n s (λ r. RoundMeant n r)) event

-- ---- machines that tell what isn't so

pub answered_lost_is : (s : CoreState) (l : NfsLists) (asked told : Stateid) (closed : Bool) (done : Outcome) → done.3.stateids ≡ [] → IsAnswered s l asked told closed done → ⊥
answered_lost_is s l asked told closed done none is = none_some (sym (ap (λ (ss : List StateidRow). find (is_stateid is.was.number) ss) none) ∙ is.stands)

pub first_lost_is : (s : CoreState) (l : NfsLists) (x : NewLockerItem) (told : Stateid) (done : Outcome) → done.3.stateids ≡ [] → IsFirstTold s l x told done → ⊥
first_lost_is s l x told done none is = none_some (sym (ap (λ (ss : List StateidRow). find (is_stateid is.locks.row.number) ss) none) ∙ is.locks.found)

abbrev is_filled : List (Rwd × Rwd) → Bool
is_filled [] = false
is_filled (share ∷ shares) = true

pub share_kept_is : (s : CoreState) (l : NfsLists) (stateid : Stateid) (r : StateidRow) (owner number : ℕ) (o : Opener) (share : Rwd × Rwd) (done : Outcome) → IsNamed s l stateid r → r.holder ≡ holders.Open owner → opener_by l r.client owner ≡ Some o → number_of (NfsShare o.id o.owner) done.4.names ≡ Some number
    → shares_of r.file (owners.Name protocols.Nfs number) done.4.claims ≡ share ∷ [] → IsClosed s l stateid done → ⊥
share_kept_is s l stateid r owner number o share done named holds by known held is = true≢false (ap is_filled (sym held ∙ is.share r owner number o named holds by known))

pub cache_kept_is : (s : CoreState) (l : NfsLists) (stateid : Stateid) (done : Outcome) → ((client file : ℕ) → is_some (find (delegated_on client file) done.3.stateids) ≡ true) → IsGivenBack s l stateid done → ⊥
cache_kept_is s l stateid done kept is = true≢false (sym (kept is.row.client is.row.file) ∙ ap is_some is.delegation_gone)

pub renewal_lost_is : (s : CoreState) (l : NfsLists) (clientid : ℕ) (done : Outcome) → done.4.leases ≡ [] → IsRenewed s l clientid done → ⊥
renewal_lost_is s l clientid done none is = none_some (sym (ap (λ (leases : List Lease). find (λ e. bytes_eq is.client.id e.0) leases) none) ∙ is.lease)

pub owner_kept_is : (s : CoreState) (l : NfsLists) (a : OwnerItem) (o : OwnerRow) (done : Outcome) → ((client : ℕ) → find (is_owner_named client kinds.Lock a.owner) l.owners ≡ Some o) → is_some (find (is_owner o.number) done.3.owners) ≡ true → IsReleased s l a done → ⊥
owner_kept_is s l a o done named kept is = true≢false (sym kept ∙ ap is_some (is.gone o (named is.client.number)).0)

pub always_free_is : (l : NfsLists) (a : LockTestArgsItem) (c : ClientRow) (file last : ℕ) (done : Outcome) → ((o : Opener) → list_any (stands_against (test_claim done.4 o file a.kind a.offset last)) done.4.claims ≡ true) → done.0 ≡ Free → IsLockTestTold l a c file last done → ⊥
always_free_is l a c file last done held free is =
    let o : Opener = record { client = c.number; id = c.id; verifier = c.details.verifier; kind = kinds.Lock; owner = a.owner.owner } in
    true≢false (sym (held o) ∙ ((is.told statuses.Ok).0 (ap status_of free)).2)

pub always_meant : (head : Head) (es : List Entry) → Always IsMeant (start_of head) es
always_meant head es = always_where_tied IsMeant (λ n s e free tied. all_meant n s e.event free tied) head es
