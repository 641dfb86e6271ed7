-- Once an OPEN tells a stateid, its owner has one share on the file, with what was asked.
use Rattle.std.proofs.Common.{◌≡◌, ℕ, Bool, true, false, List, [], ◌∷◌, ◌++◌, Option, Some, None, Ok, Err, Result, refl, sym, subst, ◌∙◌, inl, inr}
use Rattle.std.proofs.lemmas.Bool.{cases_Bool}
use Rattle.std.proofs.lemmas.Option.{same_Some}
use Rattle.std.specs.List.{filter, find}
use Rattle.xl_matrix.specs.declared.claim.Claim.{Claim}
use Rattle.xl_matrix.specs.declared.claim.Rwd.{Rwd}
use Rattle.xl_names.specs.declared.name.Name.{Name}
use Rattle.xl_nfs.specs.Opens.{OpenArgsItem}
use Rattle.xl_nfs.specs.declared.basics.Stateid.{Stateid}
use Rattle.xl_nfs.specs.declared.status.NfsStatus.{NfsStatus}
use Rattle.xl_nfs.specs.declared.status.NfsStatus.TheVariants as statuses
use Rattle.xl_nfs_state.specs.State.{NfsLists, is_kept, is_whose, without_owner}
use Rattle.xl_nfs_state.specs.declared.kept.KeptRow.{KeptRow}
use Rattle.xl_nfs_state.specs.declared.stateid.StateidRow.{StateidRow}
use Rattle.xl_nfs_state.specs.declared.stateid.Whose.TheVariants as whose
use Rattle.xl_table.specs.Relock.{old_shares, shares_of}
use Rattle.xl_core.proofs.DeedLists.{deeds_good}
use Rattle.xl_core.specs.Askers.{asker}
use Rattle.xl_core.specs.Decide.{ask}
use Rattle.xl_core.specs.Deeds.{all_done}
use Rattle.xl_core.specs.Good.{IsGood}
use Rattle.xl_core.specs.Settle.{give_back}
use Rattle.xl_core.specs.State.{CoreState}
use Rattle.xl_core.specs.declared.ask.Answer.{Answer}
use Rattle.xl_core.specs.declared.ask.Answer.TheVariants as answers
use Rattle.xl_nfs_opens.proofs.OpenOwn.{all_given}
use Rattle.xl_nfs_opens.specs.Opens.{all_rooms, answer_status, answered, given_up, gives, gives_all, granted_by, has_room, open_as, open_by, open_judged, open_on, opened_file, reclaims, repeated, rights_of, share_ask, share_held, wish_of}
use Rattle.xl_nfs_opens.specs.Plans.{Outcome, carried}
use Rattle.xl_nfs_opens.specs.declared.opener.Judged.{Judged}
use Rattle.xl_nfs_opens.specs.declared.opener.Judged.TheVariants as judgements
use Rattle.xl_nfs_opens.specs.declared.opener.Opener.{Opener}
use Rattle.xl_nfs_opens.specs.declared.told.Told.TheVariants.{Opened}
use Rattle.xl_nfs_laws.specs.DoneAsTold.{HasShare}
use Rattle.xl_nfs_laws.specs.OpenLaws.{IsShared}
use Rattle.xl_nfs_laws.proofs.OpenStatusLaws.{joined_has, on_share}

-- ---- by the core's answer

-- what is opened is the current file
granted_current : (n : ℕ) (t : CoreState) (l : NfsLists) (o : Opener) (a : OpenArgsItem) (file : ℕ) (confirmed : Bool) (write : Option Bool) (x : Option StateidRow) → (carried n t l (granted_by t l o a file confirmed write x)).1 ≡ Some file
granted_current n t l o a file confirmed write None = refl
granted_current n t l o a file confirmed write (Some r) = refl

-- an OPEN tells a stateid only if its share was granted
opened_granted : (n : ℕ) (t : CoreState) (l : NfsLists) (current : Option ℕ) (o : Opener) (a : OpenArgsItem) (file : ℕ) (confirmed : Bool) (wish : Option Bool) (stateid : Stateid) (flags : ℕ) (gave : Option (Stateid × Bool)) (answer : Answer) → (carried n t l (answered l current o a file confirmed wish answer t)).0 ≡ Opened stateid flags gave
    → (answer_status (reclaims a.claim) answer ≡ statuses.Ok) × ((carried n t l (answered l current o a file confirmed wish answer t)).1 ≡ Some file)
opened_granted n t l current o a file confirmed wish stateid flags gave (answers.Granted c) said = (refl, granted_current n t l o a file _ _ _)
opened_granted n t l current o a file confirmed wish stateid flags gave (answers.Conflict c) said = absurd cc
opened_granted n t l current o a file confirmed wish stateid flags gave (answers.Queued id) said = absurd cc
opened_granted n t l current o a file confirmed wish stateid flags gave (answers.Recall c) said = absurd cc
opened_granted n t l current o a file confirmed wish stateid flags gave (answers.Grace until) said = absurd cc
opened_granted n t l current o a file confirmed wish stateid flags gave (answers.NoGrace clock) said = absurd cc
opened_granted n t l current o a file confirmed wish stateid flags gave answers.NotRecorded said = absurd cc
opened_granted n t l current o a file confirmed wish stateid flags gave (answers.Full limit) said = absurd cc
opened_granted n t l current o a file confirmed wish stateid flags gave answers.NotHeld said = absurd cc
opened_granted n t l current o a file confirmed wish stateid flags gave answers.StoreFailed said = absurd cc

-- ---- by what is opened

module _ (n others : ℕ) (l : NfsLists) (current : Option ℕ) (o : Opener) (a : OpenArgsItem) (stateid : Stateid) (flags : ℕ) (gave : Option (Stateid × Bool)) where
  no_room : (s : CoreState) (confirmed : Bool) (file : ℕ) → has_room others l o file ≡ false → (carried n s l (open_on others s l current o a confirmed file)).0 ≡ Opened stateid flags gave → ⊥
  no_room s confirmed file full = rw full (λ said. absurd cc)

  granted_so : (s : CoreState) (confirmed : Bool) (file : ℕ) → has_room others l o file ≡ true → (carried n s l (open_on others s l current o a confirmed file)).0 ≡ Opened stateid flags gave
      → (answer_status (reclaims a.claim) (ask n all_rooms s (share_ask (wish_of s l o a confirmed file) o a file)).0 ≡ statuses.Ok) × ((carried n s l (open_on others s l current o a confirmed file)).1 ≡ Some file)
  granted_so s confirmed file room =
      let wish = wish_of s l o a confirmed file in
      let r = ask n all_rooms s (share_ask wish o a file) in
      rw room (λ said. opened_granted n r.2 l current o a file confirmed wish stateid flags gave r.0 said)

  on_shared : (s : CoreState) (confirmed : Bool) (file : ℕ) → IsGood s → (carried n s l (open_on others s l current o a confirmed file)).0 ≡ Opened stateid flags gave → HasShare s o a (carried n s l (open_on others s l current o a confirmed file))
  on_shared s confirmed file good said = λ at is.
      elim (cases_Bool (has_room others l o file)) [
        | inr full ↦ absurd (no_room s confirmed file full said)
        | inl room ↦ (
            let so = granted_so s confirmed file room said in
            let same : file ≡ at = same_Some file at (sym so.1 ∙ is) in
            let owner = asker (share_ask None o a file) s.names in
            subst (λ (f : ℕ). IsShared (rights_of a.access) (rights_of a.deny) (shares_of f (asker (share_ask None o a f) s.names) (carried n s l (open_on others s l current o a confirmed file)).4.claims)) same
            (subst (λ (shares : List (Rwd × Rwd)). IsShared (rights_of a.access) (rights_of a.deny) shares) (sym (on_share n others s l current o a confirmed file good room so.0)) (joined_has (rights_of a.access) (rights_of a.deny) owner (old_shares file owner s.claims))))
      ]

  by_shared : (s : CoreState) (confirmed : Bool) (r : Result ℕ NfsStatus) → IsGood s → (carried n s l (open_by others s l current o a confirmed r)).0 ≡ Opened stateid flags gave → HasShare s o a (carried n s l (open_by others s l current o a confirmed r))
  by_shared s confirmed (Err status) good said = absurd cc
  by_shared s confirmed (Ok file) good said = on_shared s confirmed file good said

  as_shared : (files : List (List ℕ)) (s : CoreState) (at : ℕ) (confirmed : Bool) → IsGood s → (carried n s l (open_as files others s l current at o a confirmed)).0 ≡ Opened stateid flags gave → HasShare s o a (carried n s l (open_as files others s l current at o a confirmed))
  unfolding open_as
  as_shared files s at confirmed good said = by_shared s confirmed (opened_file files s l o.client at a) good said

-- ---- an owner that was never confirmed

given_names : (n : ℕ) (s : CoreState) (o : Opener) (rows : List StateidRow) → (all_done n s (gives_all s o rows)).names ≡ s.names
unfolding give_back
given_names n s o [] = refl
given_names n s o (r ∷ rows) = by (share_held s o r.file) (λ t. given_names n t o rows)
  where
    by : (x : Option Claim) → ((t : CoreState) → (all_done n t (gives_all t o rows)).names ≡ t.names) → (all_done n s (gives x ++ gives_all (given_up s x) o rows)).names ≡ s.names
    by None rest = rest s
    by (Some claim) rest = rest (give_back s claim).1

-- ---- an OPEN

repeat_shares : {P : Type 0} (n : ℕ) (s : CoreState) (l : NfsLists) (current : Option ℕ) (stateid : Stateid) (flags : ℕ) (gave : Option (Stateid × Bool)) (k : Option KeptRow) → (carried n s l (repeated s l current k)).0 ≡ Opened stateid flags gave → P
repeat_shares n s l current stateid flags gave None said = absurd cc
repeat_shares n s l current stateid flags gave (Some k) said = absurd cc

pub judged_shares : (n : ℕ) (files : List (List ℕ)) (others : ℕ) (s : CoreState) (l : NfsLists) (current : Option ℕ) (at : ℕ) (o : Opener) (a : OpenArgsItem) (stateid : Stateid) (flags : ℕ) (gave : Option (Stateid × Bool)) (j : Judged) → IsGood s → (carried n s l (open_judged files others s l current at o a j)).0 ≡ Opened stateid flags gave → HasShare s o a (carried n s l (open_judged files others s l current at o a j))
judged_shares n files others s l current at o a stateid flags gave judgements.Bad good said = absurd cc
judged_shares n files others s l current at o a stateid flags gave (judgements.Repeats number) good said = repeat_shares n s l current stateid flags gave (find (is_kept number) l.kept) said
judged_shares n files others s l current at o a stateid flags gave (judgements.Anew number) good said = λ file is.
    (let rows = filter (is_whose (whose.Owner number)) l.stateids in
    let t = all_done n s (gives_all s o rows) in
    let m = without_owner number l in
    let well : IsGood t = deeds_good n s (gives_all s o rows) good (all_given n s (λ _. Unit {0}) o rows good tt).0 in
    let done : Outcome = carried n t m (open_as files others t m current at o a false) in
    subst (λ (names : List Name). IsShared (rights_of a.access) (rights_of a.deny) (shares_of file (asker (share_ask None o a file) names) done.4.claims)) (given_names n s o rows)
    (as_shared n others m current o a stateid flags gave files t at false well said file is))
judged_shares n files others s l current at o a stateid flags gave judgements.New good said = as_shared n others l current o a stateid flags gave files s at false good said
judged_shares n files others s l current at o a stateid flags gave judgements.Next good said = as_shared n others l current o a stateid flags gave files s at true good said
