-- Which flags an OPEN is answered, and that it is answered with the delegation that its client came to have.
use Rattle.std.proofs.Common.{◌≡◌, ℕ, Bool, true, false, not, if◌then◌else◌, List, ◌∷◌, Option, Some, None, Result, Ok, Err, is_some, option_map, refl, sym, ap, subst, ◌∙◌, inl, inr, true≢false}
use Rattle.std.proofs.lemmas.Bool.{cases_Bool, and_parts}
use Rattle.std.proofs.lemmas.Option.{same_Some}
use Rattle.std.specs.Bool.{◌==◌}
use Rattle.std.specs.List.{filter, find}
use Rattle.std.specs.Prelude.{◌&&◌, ◌||◌}
use Rattle.xl_matrix.specs.declared.claim.Claim.{Claim}
use Rattle.xl_nfs.specs.Opens.{OpenArgsItem, OpenClaimItem, DelegateCurrent, DelegatePrevious, Null, Previous}
use Rattle.xl_nfs.specs.declared.basics.Stateid.{Stateid}
use Rattle.xl_nfs.specs.declared.status.NfsStatus.{NfsStatus}
use Rattle.xl_nfs_state.specs.State.{NfsLists, delegated_on, is_client, is_kept, is_whose, without_owner}
use Rattle.xl_nfs_state.specs.Verdict.{next_seqid}
use Rattle.xl_nfs_state.specs.declared.kept.KeptRow.{KeptRow}
use Rattle.xl_nfs_state.specs.declared.owner.OwnerRow.{OwnerRow}
use Rattle.xl_nfs_state.specs.declared.owner.SeqidState.{SeqidState}
use Rattle.xl_nfs_state.specs.declared.stateid.StateidRow.{StateidRow}
use Rattle.xl_nfs_state.specs.declared.stateid.Whose.TheVariants as whose
use Rattle.xl_core.specs.Decide.{ask}
use Rattle.xl_core.specs.Deeds.{Draws, all_done}
use Rattle.xl_core.specs.Good.{IsGood}
use Rattle.xl_core.specs.State.{CoreState, drawn}
use Rattle.xl_core.specs.declared.ask.Answer.{Answer}
use Rattle.xl_core.specs.declared.ask.Effect.{Effect}
use Rattle.xl_plan.specs.Plans.{Asking}
use Rattle.xl_nfs_opens.proofs.OpenOwn.{all_given}
use Rattle.xl_nfs_opens.specs.Opens.{all_rooms, answered, cache_held, delegation_in, delegation_told, draws_for, gives_all, granted_by, granted_wish, has_none, has_room, is_granted, judged, judged_by, kind_for, open_as, open_by, open_held, open_judged, opened_file, reclaims, repeated, share_ask, unless_held, wish_of}
use Rattle.xl_nfs_opens.specs.Plans.{Outcome, carried, told_behind}
use Rattle.xl_nfs_opens.specs.Seqids.{is_opener, is_room_for}
use Rattle.xl_nfs_opens.specs.declared.opener.Judged.{Judged}
use Rattle.xl_nfs_opens.specs.declared.opener.Judged.TheVariants as judgements
use Rattle.xl_nfs_opens.specs.declared.opener.Opener.{Opener}
use Rattle.xl_nfs_opens.specs.declared.told.Told.{Told}
use Rattle.xl_nfs_opens.specs.declared.told.Told.TheVariants.{Opened}
use Rattle.xl_nfs_laws.specs.Delegated.{delegation_held}
use Rattle.xl_nfs_laws.specs.OpenAnswers.{IsFlagged, is_confirmed, is_previous}
use Rattle.xl_nfs_laws.specs.Orderly.{IsOrderly}
use Rattle.xl_nfs_laws.proofs.FirstSeqidLaws.{more_come, new_come}
use Rattle.xl_nfs_laws.proofs.GivenDelegationLaws.{unwished_quiet}
use Rattle.xl_nfs_laws.proofs.ListOrderLaws.{owner_goes}
use Rattle.xl_nfs_laws.proofs.OpenDelegationLaws.{gives_all_quiet}
use Rattle.xl_nfs_laws.proofs.QuietCacheLaws.{all_quiet}

-- ---- the owner before

abbrev IfConfirmed : Option OwnerRow → Judged → Type 0
IfConfirmed x judgements.Next = is_confirmed x ≡ true
IfConfirmed x judgements.New = is_confirmed x ≡ false
IfConfirmed x (judgements.Anew number) = is_confirmed x ≡ false
IfConfirmed x judgements.Bad = Unit {0}
IfConfirmed x (judgements.Repeats number) = Unit {0}

next_confirmed : (r : OwnerRow) (b : Bool) → r.seqids.confirmed ≡ b → IfConfirmed (Some r) (if b then judgements.Next else judgements.Anew r.number)
next_confirmed r true e = e
next_confirmed r false e = e

bad_confirmed : (r : OwnerRow) (b : Bool) → r.seqids.confirmed ≡ b → IfConfirmed (Some r) (if b then judgements.Bad else judgements.Anew r.number)
bad_confirmed r true e = tt
bad_confirmed r false e = e

row_confirmed : (seqid : ℕ) (x : Option OwnerRow) → IfConfirmed x (judged_by seqid x)
row_confirmed seqid None = refl
row_confirmed seqid (Some r) =
    elim (cases_Bool (seqid == next_seqid r.seqids.seqid)) [
      | inl e ↦ rw e (next_confirmed r r.seqids.confirmed refl)
      | inr e ↦ elim (cases_Bool ((seqid == r.seqids.seqid) && (18 == r.seqids.op))) [
        | inl d ↦ rw e (rw d tt)
        | inr d ↦ rw e (rw d (bad_confirmed r r.seqids.confirmed refl))
      ]
    ]

was_confirmed : (l : NfsLists) (o : Opener) (seqid : ℕ) → IfConfirmed (find (is_opener o) l.owners) (judged l o seqid)
unfolding judged
was_confirmed l o seqid = row_confirmed seqid (find (is_opener o) l.owners)

-- ---- what is answered

abbrev flags_in : Told → ℕ
flags_in (Opened stateid flags given) = flags
flags_in _ = 0

abbrev given_in : Told → Option (Stateid × Bool)
given_in (Opened stateid flags given) = given
given_in _ = None

-- the owner is confirmed so then, and is answered accordingly
record IsSo (o : Opener) (c : Bool) (flags : ℕ) (delegation : Option (Stateid × Bool)) (done : Outcome) : Type 0 where
  stands : option_map (λ (r : OwnerRow). r.seqids.confirmed) (find (is_opener o) done.3.owners) ≡ Some c
  flag : flags ≡ (if c then 0 else 2)
  alone : c ≡ false → delegation ≡ None

abbrev Flags : Opener → Bool → Stateid → ℕ → Option (Stateid × Bool) → Outcome → Type 0
Flags o c stateid flags delegation done = done.0 ≡ Opened stateid flags delegation → IsSo o c flags delegation done

seqids_confirmed : (x : Option OwnerRow) (seqids : SeqidState) → option_map (λ (r : OwnerRow). r.seqids) x ≡ Some seqids → option_map (λ (r : OwnerRow). r.seqids.confirmed) x ≡ Some seqids.confirmed
seqids_confirmed None seqids e = absurd (true≢false (ap is_some (sym e)))
seqids_confirmed (Some r) seqids e = ap (λ (t : SeqidState). Some t.confirmed) (same_Some r.seqids seqids e)

none_told : (s : CoreState) (c : Bool) (write : Option Bool) → (c ≡ false → write ≡ None) → c ≡ false → delegation_told s write ≡ None
none_told s c write none e = ap (delegation_told s) (none e)

granted_flags : (n : ℕ) (s : CoreState) (l : NfsLists) (o : Opener) (a : OpenArgsItem) (file : ℕ) (c : Bool) (write : Option Bool) (x : Option StateidRow) (stateid : Stateid) (flags : ℕ) (delegation : Option (Stateid × Bool)) → IsOrderly l → is_room_for o l ≡ true → (c ≡ false → write ≡ None) → Flags o c stateid flags delegation (carried n s l (granted_by s l o a file c write x))
granted_flags n s l o a file c write None stateid flags delegation orderly room none = λ said. record {
  stands = seqids_confirmed _ (record { seqid = a.seqid; op = 18; confirmed = c; closed = None }) (new_come n s l None o a file c write orderly.rising room).own;
  flag = sym (ap flags_in said);
  alone = λ e. sym (ap given_in said) ∙ none_told (drawn s) c write none e;
}
granted_flags n s l o a file c write (Some r) stateid flags delegation orderly room none = λ said. record {
  stands = seqids_confirmed _ (record { seqid = a.seqid; op = 18; confirmed = c; closed = None }) (more_come n s l None o a file c write r orderly.rising room).own;
  flag = sym (ap flags_in said);
  alone = λ e. sym (ap given_in said) ∙ none_told s c write none e;
}

-- who isn't confirmed wishes for nothing
unwished : (s : CoreState) (l : NfsLists) (o : Opener) (a : OpenArgsItem) (confirmed : Bool) (file : ℕ) → (confirmed || reclaims a.claim) ≡ false → wish_of s l o a confirmed file ≡ None
unfolding wish_of
unwished s l o a confirmed file e = by confirmed a.claim e
  where
    by : (b : Bool) (x : OpenClaimItem) → (b || reclaims x) ≡ false → unless_held s l o file (kind_for (find (is_client o.client true) l.clients) a b x) ≡ None
    by true x d = absurd (true≢false d)
    by false (Null name) d = refl
    by false (Previous type) d = absurd (true≢false d)
    by false (DelegateCurrent named) d = refl
    by false (DelegatePrevious name) d = refl

so_behind : (o : Opener) (c : Bool) (stateid : Stateid) (flags : ℕ) (delegation : Option (Stateid × Bool)) (effects : List Effect) (done : Outcome) → Flags o c stateid flags delegation done → Flags o c stateid flags delegation (told_behind effects done)
so_behind o c stateid flags delegation effects done so = λ said. (let is = so said in record { stands = is.stands; flag = is.flag; alone = is.alone })

by_flags : (n others : ℕ) (s : CoreState) (l : NfsLists) (current : Option ℕ) (o : Opener) (a : OpenArgsItem) (confirmed : Bool) (stateid : Stateid) (flags : ℕ) (delegation : Option (Stateid × Bool)) (r : Result ℕ NfsStatus) → IsOrderly l → Flags o (confirmed || reclaims a.claim) stateid flags delegation (carried n s l (open_by others s l current o a confirmed r))
by_flags n others s l current o a confirmed stateid flags delegation (Err status) orderly = λ said. absurd cc
by_flags n others s l current o a confirmed stateid flags delegation (Ok file) orderly =
    let wish = wish_of s l o a confirmed file in
    let r = ask n all_rooms s (share_ask wish o a file) in
    elim (cases_Bool (has_room others l o file)) [
      | inr e ↦ rw e (λ said. absurd cc)
      | inl e ↦ rw e (so_behind o (confirmed || reclaims a.claim) stateid flags delegation r.1 (carried n r.2 l (answered l current o a file confirmed wish r.0 r.2)) (by_answer r.0 r.2 (and_parts (is_room_for o l) _ e).0))
    ]
  where
    by_answer : (answer : Answer) (t : CoreState) → is_room_for o l ≡ true → Flags o (confirmed || reclaims a.claim) stateid flags delegation (carried n t l (answered l current o a file confirmed (wish_of s l o a confirmed file) answer t))
    by_answer answer t room =
        elim (cases_Bool (is_granted answer)) [
          | inr d ↦ rw d (λ said. absurd cc)
          | inl d ↦ rw d (granted_flags n t l o a file (confirmed || reclaims a.claim) (granted_wish t o file (wish_of s l o a confirmed file)) (open_held l o file) stateid flags delegation orderly room (λ f. ap (granted_wish t o file) (unwished s l o a confirmed file f)))
        ]

as_flags : (n : ℕ) (files : List (List ℕ)) (others : ℕ) (s : CoreState) (l : NfsLists) (current : Option ℕ) (at : ℕ) (o : Opener) (a : OpenArgsItem) (confirmed : Bool) (stateid : Stateid) (flags : ℕ) (delegation : Option (Stateid × Bool)) → IsOrderly l → Flags o (confirmed || reclaims a.claim) stateid flags delegation (carried n s l (open_as files others s l current at o a confirmed))
unfolding open_as
as_flags n files others s l current at o a confirmed stateid flags delegation orderly = by_flags n others s l current o a confirmed stateid flags delegation (opened_file files s l o.client at a) orderly

reclaims_is : (x : OpenClaimItem) → reclaims x ≡ is_previous x
reclaims_is (Null name) = refl
reclaims_is (Previous type) = refl
reclaims_is (DelegateCurrent named) = refl
reclaims_is (DelegatePrevious name) = refl

flagged : (o : Opener) (a : OpenArgsItem) (l : NfsLists) (was : Bool) (stateid : Stateid) (flags : ℕ) (delegation : Option (Stateid × Bool)) (done : Outcome) → is_confirmed (find (is_opener o) l.owners) ≡ was → Flags o (was || reclaims a.claim) stateid flags delegation done → done.0 ≡ Opened stateid flags delegation → IsFlagged o a l flags delegation done
flagged o a l was stateid flags delegation done before so said =
    let is = so said in
    record {
      confirmed = was || reclaims a.claim;
      stands = is.stands;
      cause = ap (λ (b : Bool). was || b) (reclaims_is a.claim) ∙ ap (λ (b : Bool). b || is_previous a.claim) (sym before);
      flag = is.flag;
      alone = is.alone;
    }

repeat_opens : {P : Type 0} (n : ℕ) (s : CoreState) (l : NfsLists) (current : Option ℕ) (stateid : Stateid) (flags : ℕ) (delegation : Option (Stateid × Bool)) (k : Option KeptRow) → (carried n s l (repeated s l current k)).0 ≡ Opened stateid flags delegation → P
repeat_opens n s l current stateid flags delegation None e = absurd cc
repeat_opens n s l current stateid flags delegation (Some k) e = absurd cc

pub open_flags : (n : ℕ) (files : List (List ℕ)) (others : ℕ) (s : CoreState) (l : NfsLists) (current : Option ℕ) (at : ℕ) (o : Opener) (a : OpenArgsItem) (stateid : Stateid) (flags : ℕ) (delegation : Option (Stateid × Bool)) → IsOrderly l → (carried n s l (open_judged files others s l current at o a (judged l o a.seqid))).0 ≡ Opened stateid flags delegation → IsFlagged o a l flags delegation (carried n s l (open_judged files others s l current at o a (judged l o a.seqid)))
open_flags n files others s l current at o a stateid flags delegation orderly = by (judged l o a.seqid) (was_confirmed l o a.seqid)
  where
    by : (j : Judged) → IfConfirmed (find (is_opener o) l.owners) j → (carried n s l (open_judged files others s l current at o a j)).0 ≡ Opened stateid flags delegation → IsFlagged o a l flags delegation (carried n s l (open_judged files others s l current at o a j))
    by judgements.Bad was said = absurd cc
    by (judgements.Repeats number) was said = repeat_opens n s l current stateid flags delegation (find (is_kept number) l.kept) said
    by judgements.Next was said = flagged o a l true stateid flags delegation _ was (as_flags n files others s l current at o a true stateid flags delegation orderly) said
    by judgements.New was said = flagged o a l false stateid flags delegation _ was (as_flags n files others s l current at o a false stateid flags delegation orderly) said
    by (judgements.Anew number) was said =
        let deeds = gives_all s o (filter (is_whose (whose.Owner number)) l.stateids) in
        let t = all_done n s deeds in
        let m = without_owner number l in
        flagged o a l false stateid flags delegation _ was (so_behind o (false || reclaims a.claim) stateid flags delegation _ (carried n t m (open_as files others t m current at o a false)) (as_flags n files others t m current at o a false stateid flags delegation (owner_goes l number orderly))) said

-- ---- the delegation that comes

-- without one that is answered the client has what it had; and who is answered one had none
record IsSilent (s : CoreState) (o : Opener) (done : Outcome) : Type 0 where
  silent : (stateid : Stateid) (flags file : ℕ) → done.0 ≡ Opened stateid flags None → done.1 ≡ Some file → delegation_held done.4 o.id file ≡ delegation_held s o.id file
  fresh : (stateid : Stateid) (flags file : ℕ) (given : Stateid × Bool) → done.0 ≡ Opened stateid flags (Some given) → done.1 ≡ Some file → delegation_held s o.id file ≡ None

drawn_held : (s : CoreState) (id : List ℕ) (file : ℕ) → delegation_held (drawn s) id file ≡ delegation_held s id file
unfolding drawn cache_held
drawn_held s id file = refl

wish_held : (s : CoreState) (l : NfsLists) (o : Opener) (a : OpenArgsItem) (confirmed : Bool) (file : ℕ) (w : Bool) → wish_of s l o a confirmed file ≡ Some w → delegation_held s o.id file ≡ None
unfolding wish_of
wish_held s l o a confirmed file w e = by (kind_for (find (is_client o.client true) l.clients) a confirmed a.claim) e
  where
    none_of : (x : Option Claim) → not (is_some x) ≡ true → delegation_in x ≡ None
    none_of None h = refl
    none_of (Some c) h = absurd (true≢false (sym h))

    by : (kind : Option Bool) → unless_held s l o file kind ≡ Some w → delegation_held s o.id file ≡ None
    by None d = absurd (true≢false (ap is_some (sym d)))
    by (Some write) d =
        elim (cases_Bool (has_none s l o file)) [
          | inr held ↦ (let no_wish : None ≡ Some w = rw held at d in absurd (true≢false (ap is_some (sym no_wish))))
          | inl free ↦ none_of (cache_held s o.id file) (and_parts (not (is_some (cache_held s o.id file))) (not (is_some (find (delegated_on o.client file) l.stateids))) free).0
        ]

untold : (s : CoreState) (write : Option Bool) → delegation_told s write ≡ None → write ≡ None
untold s None e = refl
untold s (Some w) e = absurd (true≢false (ap is_some e))

-- which file, which flags, what is held then
granted_silent : (n : ℕ) (s : CoreState) (l : NfsLists) (o : Opener) (a : OpenArgsItem) (file : ℕ) (c : Bool) (write : Option Bool) (x : Option StateidRow) (stateid : Stateid) (flags at : ℕ) → (carried n s l (granted_by s l o a file c write x)).0 ≡ Opened stateid flags None → (carried n s l (granted_by s l o a file c write x)).1 ≡ Some at → (file ≡ at) × (write ≡ None) × (delegation_held (carried n s l (granted_by s l o a file c write x)).4 o.id at ≡ delegation_held s o.id at)
granted_silent n s l o a file c write None stateid flags at said here =
    let none : write ≡ None = untold (drawn s) write (ap given_in said) in
    (same_Some file at here, none, ap (λ (w : Option Bool). delegation_held (all_done n s (Draws ∷ draws_for w)) o.id at) none ∙ drawn_held s o.id at)
granted_silent n s l o a file c write (Some r) stateid flags at said here =
    let none : write ≡ None = untold s write (ap given_in said) in
    (same_Some file at here, none, ap (λ (w : Option Bool). delegation_held (all_done n s (draws_for w)) o.id at) none)

granted_fresh : (n : ℕ) (s : CoreState) (l : NfsLists) (o : Opener) (a : OpenArgsItem) (file : ℕ) (c : Bool) (write : Option Bool) (x : Option StateidRow) (stateid : Stateid) (flags at : ℕ) (given : Stateid × Bool) → (carried n s l (granted_by s l o a file c write x)).0 ≡ Opened stateid flags (Some given) → (carried n s l (granted_by s l o a file c write x)).1 ≡ Some at → (file ≡ at) × (is_some write ≡ true)
granted_fresh n s l o a file c None None stateid flags at given said here = absurd (true≢false (sym (ap (λ (t : Told). is_some (given_in t)) said)))
granted_fresh n s l o a file c None (Some r) stateid flags at given said here = absurd (true≢false (sym (ap (λ (t : Told). is_some (given_in t)) said)))
granted_fresh n s l o a file c (Some w) None stateid flags at given said here = (same_Some file at here, refl)
granted_fresh n s l o a file c (Some w) (Some r) stateid flags at given said here = (same_Some file at here, refl)

by_silent : (n others : ℕ) (s : CoreState) (l : NfsLists) (current : Option ℕ) (o : Opener) (a : OpenArgsItem) (confirmed : Bool) (r : Result ℕ NfsStatus) → IsGood s → IsSilent s o (carried n s l (open_by others s l current o a confirmed r))
by_silent n others s l current o a confirmed (Err status) good = record { silent = λ stateid flags at said. absurd cc; fresh = λ stateid flags at given said. absurd cc }
by_silent n others s l current o a confirmed (Ok file) good =
    elim (cases_Bool (has_room others l o file)) [
      | inr e ↦ rw e (record { silent = λ stateid flags at said. absurd cc; fresh = λ stateid flags at given said. absurd cc })
      | inl e ↦ rw e (by_wish (wish_of s l o a confirmed file) refl)
    ]
  where
    -- what was asked for it
    asked : Option Bool → Outcome
    asked wish = carried n s l (Asking all_rooms (share_ask wish o a file) (answered l current o a file confirmed wish))

    no_wish : (t : CoreState) (answer : Answer) → delegation_held t o.id file ≡ delegation_held s o.id file → IsSilent s o (carried n t l (answered l current o a file confirmed None answer t))
    no_wish t answer same =
        elim (cases_Bool (is_granted answer)) [
          | inr d ↦ rw d (record { silent = λ stateid flags at said. absurd cc; fresh = λ stateid flags at given said. absurd cc })
          | inl d ↦ rw d (record {
            silent = λ stateid flags at said here. (let is = granted_silent n t l o a file (confirmed || reclaims a.claim) None (open_held l o file) stateid flags at said here in is.2 ∙ subst (λ (f : ℕ). delegation_held t o.id f ≡ delegation_held s o.id f) is.0 same);
            fresh = λ stateid flags at given said here. absurd (true≢false (sym (granted_fresh n t l o a file (confirmed || reclaims a.claim) None (open_held l o file) stateid flags at given said here).1));
          })
        ]

    a_wish : (w : Bool) (t : CoreState) (answer : Answer) → delegation_held s o.id file ≡ None → IsSilent s o (carried n t l (answered l current o a file confirmed (Some w) answer t))
    a_wish w t answer none =
        elim (cases_Bool (is_granted answer)) [
          | inr d ↦ rw d (record { silent = λ stateid flags at said. absurd cc; fresh = λ stateid flags at given said. absurd cc })
          | inl d ↦ rw d (record {
            silent = λ stateid flags at said here. (let is = granted_silent n t l o a file (confirmed || reclaims a.claim) (delegation_held t o.id file) (open_held l o file) stateid flags at said here in is.2 ∙ subst (λ (f : ℕ). delegation_held t o.id f ≡ delegation_held s o.id f) is.0 (is.1 ∙ sym none));
            fresh = λ stateid flags at given said here. (let is = granted_fresh n t l o a file (confirmed || reclaims a.claim) (delegation_held t o.id file) (open_held l o file) stateid flags at given said here in subst (λ (f : ℕ). delegation_held s o.id f ≡ None) is.0 none);
          })
        ]

    by_wish : (wish : Option Bool) → wish_of s l o a confirmed file ≡ wish → IsSilent s o (asked wish)
    by_wish None e =
        let r = ask n all_rooms s (share_ask None o a file) in
        let is = no_wish r.2 r.0 ((unwished_quiet n s o a file good).held o.id file) in
        record { silent = is.silent; fresh = is.fresh }
    by_wish (Some w) e =
        let r = ask n all_rooms s (share_ask (Some w) o a file) in
        let is = a_wish w r.2 r.0 (wish_held s l o a confirmed file w e) in
        record { silent = is.silent; fresh = is.fresh }

as_silent : (n : ℕ) (files : List (List ℕ)) (others : ℕ) (s : CoreState) (l : NfsLists) (current : Option ℕ) (at : ℕ) (o : Opener) (a : OpenArgsItem) (confirmed : Bool) → IsGood s → IsSilent s o (carried n s l (open_as files others s l current at o a confirmed))
unfolding open_as
as_silent n files others s l current at o a confirmed good = by_silent n others s l current o a confirmed (opened_file files s l o.client at a) good

repeat_silent : (n : ℕ) (s : CoreState) (l : NfsLists) (current : Option ℕ) (o : Opener) (k : Option KeptRow) → IsSilent s o (carried n s l (repeated s l current k))
repeat_silent n s l current o None = record { silent = λ stateid flags at said. absurd cc; fresh = λ stateid flags at given said. absurd cc }
repeat_silent n s l current o (Some k) = record { silent = λ stateid flags at said. absurd cc; fresh = λ stateid flags at given said. absurd cc }

judged_silent : (n : ℕ) (files : List (List ℕ)) (others : ℕ) (s : CoreState) (l : NfsLists) (current : Option ℕ) (at : ℕ) (o : Opener) (a : OpenArgsItem) (j : Judged) → IsGood s → IsSilent s o (carried n s l (open_judged files others s l current at o a j))
judged_silent n files others s l current at o a judgements.Bad good = record { silent = λ stateid flags file said. absurd cc; fresh = λ stateid flags file given said. absurd cc }
judged_silent n files others s l current at o a (judgements.Repeats number) good = repeat_silent n s l current o (find (is_kept number) l.kept)
judged_silent n files others s l current at o a judgements.Next good = as_silent n files others s l current at o a true good
judged_silent n files others s l current at o a judgements.New good = as_silent n files others s l current at o a false good
judged_silent n files others s l current at o a (judgements.Anew number) good =
    let rows = filter (is_whose (whose.Owner number)) l.stateids in
    let deeds = gives_all s o rows in
    let t = all_done n s deeds in
    let m = without_owner number l in
    let fit = (all_given n s (λ _. Unit {0}) o rows good tt).0 in
    let quiet = all_quiet n s deeds good fit (gives_all_quiet s o rows) in
    let is = as_silent n files others t m current at o a false quiet.good in
    record {
      silent = λ stateid flags file said here. is.silent stateid flags file said here ∙ quiet.held o.id file;
      fresh = λ stateid flags file given said here. sym (quiet.held o.id file) ∙ is.fresh stateid flags file given said here;
    }

pub open_silent : (n : ℕ) (files : List (List ℕ)) (others : ℕ) (s : CoreState) (l : NfsLists) (current : Option ℕ) (at : ℕ) (o : Opener) (a : OpenArgsItem) (stateid : Stateid) (flags file : ℕ) → IsGood s → (carried n s l (open_judged files others s l current at o a (judged l o a.seqid))).0 ≡ Opened stateid flags None → (carried n s l (open_judged files others s l current at o a (judged l o a.seqid))).1 ≡ Some file → delegation_held (carried n s l (open_judged files others s l current at o a (judged l o a.seqid))).4 o.id file ≡ delegation_held s o.id file
open_silent n files others s l current at o a stateid flags file good = (judged_silent n files others s l current at o a (judged l o a.seqid) good).silent stateid flags file

pub open_fresh : (n : ℕ) (files : List (List ℕ)) (others : ℕ) (s : CoreState) (l : NfsLists) (current : Option ℕ) (at : ℕ) (o : Opener) (a : OpenArgsItem) (stateid : Stateid) (flags file : ℕ) (given : Stateid × Bool) → IsGood s → (carried n s l (open_judged files others s l current at o a (judged l o a.seqid))).0 ≡ Opened stateid flags (Some given) → (carried n s l (open_judged files others s l current at o a (judged l o a.seqid))).1 ≡ Some file → delegation_held s o.id file ≡ None
open_fresh n files others s l current at o a stateid flags file given good = (judged_silent n files others s l current at o a (judged l o a.seqid) good).fresh stateid flags file given
