-- Each stateid has a number that was given out, whatever an operation on opens comes to.
use Rattle.std.proofs.Common.{◌≡◌, ℕ, ◌+◌, ◌<◌, ◌≤◌, Bool, true, false, ◌||◌, List, [], ◌∷◌, ◌++◌, Option, Some, None, Ok, Err, Result, refl, sym, subst, inl, inr, arith}
use Rattle.std.proofs.lemmas.Bool.{cases_Bool, eqb-true}
use Rattle.std.specs.Bool.{◌==◌}
use Rattle.std.specs.List.{AllByRecursion, find}
use Rattle.xl_base.proofs.Members.{all_append, all_in, all_weaker}
use Rattle.xl_base.specs.Lists.{IsIn}
use Rattle.xl_nfs.specs.Opens.{OpenArgsItem}
use Rattle.xl_nfs.specs.declared.basics.Stateid.{Stateid}
use Rattle.xl_nfs.specs.declared.opens.CloseArgs.{CloseArgs}
use Rattle.xl_nfs.specs.declared.opens.OpenConfirmArgs.{OpenConfirmArgs}
use Rattle.xl_nfs.specs.declared.opens.OpenDowngradeArgs.{OpenDowngradeArgs}
use Rattle.xl_nfs.specs.declared.status.NfsStatus.{NfsStatus}
use Rattle.xl_nfs_state.proofs.AnyLaws.{all_changed, all_left}
use Rattle.xl_nfs_state.specs.Rows.{with_standing}
use Rattle.xl_nfs_state.specs.State.{NfsLists, hangs_on, is_kept, is_stateid, is_whose, next_owner, no_lists, with_stateids, without, without_owner}
use Rattle.xl_nfs_state.specs.Verdict.{next_seqid}
use Rattle.xl_nfs_state.specs.declared.client.ClientRow.{ClientRow}
use Rattle.xl_nfs_state.specs.declared.kept.KeptRow.{KeptRow}
use Rattle.xl_nfs_state.specs.declared.owner.OwnerRow.{OwnerRow}
use Rattle.xl_nfs_state.specs.declared.owner.SeqidState.{SeqidState}
use Rattle.xl_nfs_state.specs.declared.stateid.Standing.{Standing}
use Rattle.xl_nfs_state.specs.declared.stateid.StateidRow.{StateidRow}
use Rattle.xl_nfs_state.specs.declared.stateid.Whose.TheVariants as whose
use Rattle.xl_core.proofs.DeedLists.{deeds_good}
use Rattle.xl_core.proofs.FrameLaws.{ask_frame, end_party_frame, give_back_frame, renew_frame, weaken_frame}
use Rattle.xl_core.specs.Decide.{ask}
use Rattle.xl_core.specs.Deeds.{Deed, Asks, GivesBack, Weakens, Acks, Cancels, Ends, Closes, Serves, Draws, Advances, Lapses, Renews, Expires, FailsStore, EndsGrace, done, all_done, IsFitDeed, AreFit}
use Rattle.xl_core.specs.Good.{IsGood}
use Rattle.xl_core.specs.State.{CoreState, drawn}
use Rattle.xl_core.specs.declared.ask.Answer.{Answer}
use Rattle.xl_nfs_opens.specs.Closing.{counts, checked, close, close_done, cache_of, confirm_done, Returning, returned, return_done, deleg_return, done_lists, failed_lists, locks_gone, next_seqids, open_confirm, share_of_open, standing_fault, state_told}
use Rattle.xl_nfs_opens.specs.Downgrades.{downgrade_done, downgrade_fault, open_downgrade, weakens}
use Rattle.xl_nfs_laws.specs.StateidNumbers.{AreGivenOut, StayGivenOut}
use Rattle.xl_nfs_opens.specs.Opens.{freed, answer_status, answered, can_enter, can_stand, client_in, delegated, delegated_in, delegation_row, delegation_told, drawn_for, draws_for, either_bits, entered, gives, granted_by, granted_new, granted_wish, has_room, is_granted, judged, open_as, open_at, open_by, open_claimed, open_file, open_held, open_judged, open_of, open_row, open_seqids, opened_file, opened_told, opener_of, reclaims, refused, refused_lists, repeated, rights_of, stood, wish_of}
use Rattle.xl_nfs_opens.specs.Owners.{IsBy, AreBy}
use Rattle.xl_plan.specs.Plans.{Tells, Does, Behind, Asking, deeds_of}
use Rattle.xl_nfs_opens.specs.Plans.{Plan, carried}
use Rattle.xl_nfs_opens.specs.Results.{spelled}
use Rattle.xl_nfs_opens.specs.Seqids.{advances, closed_gone, counted, is_opener, is_room_for, kept_for, opener_number, remembered, seated, seated_by, seated_new, seqid_set}
use Rattle.xl_nfs_opens.specs.declared.opener.Checked.{Checked}
use Rattle.xl_nfs_opens.specs.declared.opener.Checked.TheVariants.{Refused, Repeated, Passed}
use Rattle.xl_nfs_opens.specs.declared.opener.Judged.{Judged}
use Rattle.xl_nfs_opens.specs.declared.opener.Judged.TheVariants as judgements
use Rattle.xl_nfs_opens.specs.declared.opener.Opener.{Opener}
use Rattle.xl_nfs_opens.specs.declared.told.Told.TheVariants.{Ended}
use Rattle.xl_nfs_laws.proofs.CloseOwn.{close_own}
use Rattle.xl_nfs_laws.proofs.EnteredOpenLaws.{kept_stateids}
use Rattle.xl_plan.proofs.BudgetLaws.{drawn_number}
use Rattle.xl_nfs_opens.proofs.OpenOwn.{Owned, confirm_own, downgrade_own, open_own, return_own}

-- ---- lists

pub later_on : (a b : ℕ) (l : NfsLists) → a ≤ b → AreGivenOut a l → AreGivenOut b l
later_on a b l le given = all_weaker (λ (r : StateidRow). r.number ≤ a) (λ (r : StateidRow). r.number ≤ b) l.stateids (λ r h. omega (arith, le, h)) given

pub same_given : (last : ℕ) (l new : NfsLists) → new.stateids ≡ l.stateids → AreGivenOut last l → AreGivenOut last new
same_given last l new same given = subst (λ (ss : List StateidRow). AllByRecursion (λ r. r.number ≤ last) ss) (sym same) given

pub less_given : (last : ℕ) (drops : StateidRow → Bool) (l : NfsLists) → AreGivenOut last l → AreGivenOut last (with_stateids l (without drops l.stateids))
less_given last drops l given = all_left (λ (r : StateidRow). r.number ≤ last) (λ (r : StateidRow). r.number ≤ last) drops l.stateids (λ r stays h. h) given

pub without_given : (last number : ℕ) (l : NfsLists) → AreGivenOut last l → AreGivenOut last (without_owner number l)
without_given last number l given = less_given last (λ s. hangs_on number s.holder) l given

gone_given : (last : ℕ) (closed : Option ℕ) (l : NfsLists) → AreGivenOut last l → AreGivenOut last (closed_gone closed l)
gone_given last None l given = given
gone_given last (Some number) l given = less_given last (is_whose (whose.Stateid number)) l given

pub kept_given : (last owner : ℕ) (bytes : List ℕ) (l : NfsLists) → AreGivenOut last l → AreGivenOut last (kept_for owner bytes l)
kept_given last owner bytes l given = same_given last l (kept_for owner bytes l) (kept_stateids owner bytes l) given

pub counted_given : (last owner : ℕ) (closed : Option ℕ) (seqids : SeqidState) (bytes : List ℕ) (l : NfsLists) → AreGivenOut last l → AreGivenOut last (counted owner closed seqids bytes l)
unfolding counted
counted_given last owner closed seqids bytes l given = kept_given last owner bytes (closed_gone closed (seqid_set owner seqids l)) (gone_given last closed (seqid_set owner seqids l) given)

pub stood_given : (last number : ℕ) (r : StateidRow) (access deny : ℕ) (closed : Bool) (l : NfsLists) → AreGivenOut last l → AreGivenOut last (stood number r access deny closed l)
stood_given last number r access deny closed l given =
    let to : Standing = record { seqid = next_seqid r.standing.seqid; access = access; deny = deny; closed = closed } in
    all_changed (λ (q : StateidRow). q.number ≤ last) (λ (q : StateidRow). q.number ≤ last) (is_stateid number) (with_standing to) l.stateids (λ q h. h) (λ q h. h) given

pub seated_given : (last : ℕ) (o : Opener) (seqids : SeqidState) (l : NfsLists) → AreGivenOut last l → AreGivenOut last (seated o seqids l)
unfolding seated
seated_given last o seqids l given = by (find (is_opener o) l.owners)
  where
    new : (next : Option ℕ) → AreGivenOut last (seated_new o seqids l next)
    new None = given
    new (Some number) = given

    by : (x : Option OwnerRow) → AreGivenOut last (seated_by o seqids l x)
    by None = new (next_owner l.owners)
    by (Some r) = gone_given last r.seqids.closed (seqid_set r.number seqids l) given

pub remembered_given : (last : ℕ) (o : Opener) (seqids : SeqidState) (bytes : List ℕ) (l : NfsLists) → AreGivenOut last l → AreGivenOut last (remembered o seqids bytes l)
unfolding remembered
remembered_given last o seqids bytes l given =
    elim (cases_Bool (is_room_for o l)) [
      | inl e ↦ rw e (kept_given last (opener_number o l) bytes (seated o seqids l) (seated_given last o seqids l given))
      | inr e ↦ rw e given
    ]

pub failed_given : (last : ℕ) (l : NfsLists) (owner : ℕ) (seqids : SeqidState) (op seqid : ℕ) (status : NfsStatus) → AreGivenOut last l → AreGivenOut last (failed_lists l owner seqids op seqid status)
failed_given last l owner seqids op seqid status given =
    elim (cases_Bool (advances status)) [
      | inl e ↦ rw e (counted_given last owner seqids.closed (next_seqids op seqid seqids.confirmed None) (spelled op (Ended status)) l given)
      | inr e ↦ rw e given
    ]

pub done_given : (last : ℕ) (s : CoreState) (l : NfsLists) (r : StateidRow) (owner : ℕ) (seqids : SeqidState) (op seqid : ℕ) (confirmed : Bool) (closing : Option ℕ) (access deny : ℕ) (closed : Bool) → AreGivenOut last l → AreGivenOut last (done_lists s l r owner seqids op seqid confirmed closing access deny closed)
done_given last s l r owner seqids op seqid confirmed closing access deny closed given =
    counted_given last owner seqids.closed (next_seqids op seqid confirmed closing) (spelled op (state_told s r)) (stood r.number r access deny closed l) (stood_given last r.number r access deny closed l given)

refused_given : (last : ℕ) (o : Opener) (a : OpenArgsItem) (confirmed : Bool) (status : NfsStatus) (l : NfsLists) → AreGivenOut last l → AreGivenOut last (refused_lists o a confirmed status l)
refused_given last o a confirmed status l given =
    elim (cases_Bool (advances status)) [
      | inl e ↦ rw e (remembered_given last o (open_seqids a confirmed) (spelled 18 (Ended status)) l given)
      | inr e ↦ rw e given
    ]

-- a stateid comes, of the number that was given out last
pub entered_given : (last : ℕ) (r : StateidRow) (l : NfsLists) → r.number ≤ last → AreGivenOut last l → AreGivenOut last (entered r l)
unfolding entered
entered_given last r l le given =
    let m : NfsLists = with_stateids l (without (is_whose (whose.Stateid r.number)) l.stateids) in
    let left : AreGivenOut last m = less_given last (is_whose (whose.Stateid r.number)) l given in
    elim (cases_Bool (can_enter r m)) [
      | inl e ↦ rw e (all_append (λ (q : StateidRow). q.number ≤ last) m.stateids (r ∷ []) left (le, tt))
      | inr e ↦ rw e left
    ]

-- ---- numbers that deeds give out

abbrev deed_draws : Deed → ℕ
deed_draws Draws = 1
deed_draws _ = 0

abbrev pub draws : List Deed → ℕ
draws [] = 0
draws (d ∷ ds) = deed_draws d + draws ds

deed_rises : (n : ℕ) (s : CoreState) (Client : List ℕ → Type 0) (d : Deed) → IsGood s → IsFitDeed s d → IsBy s Client d → s.counter + deed_draws d ≤ (done n s d).counter
deed_rises n s Client Draws good fit own = omega (arith, drawn_number s)
deed_rises n s Client (Asks left a) good fit own = (let frame = ask_frame n left s a good fit.party in omega (arith, frame.counter))
deed_rises n s Client (GivesBack claim) good fit own = (let frame = give_back_frame s claim in omega (arith, frame.counter))
deed_rises n s Client (Weakens share access deny) good fit own = (let frame = weaken_frame s share access deny in omega (arith, frame.counter))
deed_rises n s Client (Ends party) good fit own = (let frame = end_party_frame s party good in omega (arith, frame.counter))
deed_rises n s Client (Renews id) good fit own = (let frame = renew_frame s id in omega (arith, frame.counter))
deed_rises n s Client (Acks cache to) good fit own = absurd own
deed_rises n s Client (Cancels id) good fit own = absurd own
deed_rises n s Client (Closes number party) good fit own = absurd own
deed_rises n s Client (Serves left) good fit own = absurd own
deed_rises n s Client (Advances now) good fit own = absurd own
deed_rises n s Client (Lapses cache) good fit own = absurd own
deed_rises n s Client (Expires id) good fit own = absurd own
deed_rises n s Client (FailsStore stable) good fit own = absurd own
deed_rises n s Client EndsGrace good fit own = absurd own

pub deeds_rise : (n : ℕ) (s : CoreState) (Client : List ℕ → Type 0) (ds : List Deed) → IsGood s → AreFit n s ds → AreBy n s Client ds → s.counter + draws ds ≤ (all_done n s ds).counter
deeds_rise n s Client [] good fit own = omega arith
deeds_rise n s Client (d ∷ ds) good fit own =
    let one = deed_rises n s Client d good fit.0 own.0 in
    let rest = deeds_rise n (done n s d) Client ds (deeds_good n s (d ∷ []) good (fit.0, tt)) fit.1 own.1 in
    omega (arith, one, rest)

pub parts_own : (n : ℕ) (s : CoreState) (Client : List ℕ → Type 0) (ds es : List Deed) → AreFit n s (ds ++ es) → AreBy n s Client (ds ++ es) → (AreFit n s ds × AreBy n s Client ds) × (AreFit n (all_done n s ds) es × AreBy n (all_done n s ds) Client es)
parts_own n s Client [] es fit own = ((tt, tt), (fit, own))
parts_own n s Client (d ∷ ds) es fit own =
    let rest = parts_own n (done n s d) Client ds es fit.1 own.1 in
    (((fit.0, rest.0.0), (own.0, rest.0.1)), rest.1)

-- ---- plans

-- whatever it comes to in a state in which this number was given out last, stateids have numbers that were given out
abbrev pub AreFew : ℕ → Plan → Type 0
AreFew last (Tells told) = Unit {0}
AreFew last (Does deeds lists told) = AreGivenOut (last + draws deeds) lists
AreFew last (Behind deeds lists rest) = AreGivenOut last lists × ((t : CoreState) → last ≤ t.counter → AreFew t.counter (rest t))
AreFew last (Asking left a rest) = (answer : Answer) (t : CoreState) → last ≤ t.counter → AreFew t.counter (rest answer t)

pub does_few : (last : ℕ) (deeds : List Deed) (lists : NfsLists) → AreGivenOut last lists → AreGivenOut (last + draws deeds) lists
does_few last deeds lists given = later_on last (last + draws deeds) lists (omega arith) given

pub carried_few : (n : ℕ) (s : CoreState) (l : NfsLists) (plan : Plan) (Client : List ℕ → Type 0) → IsGood s → Owned n s Client plan → AreGivenOut s.counter l → AreFew s.counter plan → StayGivenOut s (carried n s l plan)
carried_few n s l (Tells told) Client good own given few = (omega arith, given)
carried_few n s l (Does deeds lists told) Client good own given few =
    let up = deeds_rise n s Client deeds good own.0 own.1 in
    (omega (arith, up), later_on (s.counter + draws deeds) (all_done n s deeds).counter lists up few)
carried_few n s l (Behind deeds lists rest) Client good own given few =
    let t = all_done n s deeds in
    let parts = parts_own n s Client deeds (deeds_of n t (rest t)) own.0 own.1 in
    let up = deeds_rise n s Client deeds good parts.0.0 parts.0.1 in
    let le : s.counter ≤ t.counter = omega (arith, up) in
    let more = carried_few n t lists (rest t) Client (deeds_good n s deeds good parts.0.0) parts.1 (later_on s.counter t.counter lists le few.0) (few.1 t le) in
    (omega (arith, le, more.0), more.1)
carried_few n s l (Asking left a rest) Client good own given few =
    let r = ask n left s a in
    let up = deed_rises n s Client (Asks left a) good own.0.0 own.1.0 in
    let le : s.counter ≤ r.2.counter = omega (arith, up) in
    let more = carried_few n r.2 l (rest r.0 r.2) Client (deeds_good n s (Asks left a ∷ []) good (own.0.0, tt)) (own.0.1, own.1.1) (later_on s.counter r.2.counter l le given) (few r.0 r.2 le) in
    (omega (arith, le, more.0), more.1)

-- ---- OPEN

-- a delegation comes, of the number that was given out last
delegated_given : (last : ℕ) (s : CoreState) (o : Opener) (file : ℕ) (write : Option Bool) (l : NfsLists) → s.counter + draws (draws_for write) ≤ last → AreGivenOut last l → AreGivenOut last (delegated s o file write l)
unfolding delegated_in
delegated_given last s o file None l le given = given
delegated_given last s o file (Some write) l le given =
    let row = delegation_row (s.counter + 1) o file write in
    elim (cases_Bool (can_stand row l)) [
      | inl e ↦ rw e (all_append (λ (q : StateidRow). q.number ≤ last) l.stateids (row ∷ []) given (le, tt))
      | inr e ↦ rw e given
    ]

granted_few : (s : CoreState) (l : NfsLists) (o : Opener) (a : OpenArgsItem) (file : ℕ) (confirmed : Bool) (write : Option Bool) (x : Option StateidRow) → AreGivenOut s.counter l → AreFew s.counter (granted_by s l o a file confirmed write x)
granted_few s l o a file confirmed write None given =
    let next : ℕ = s.counter + draws (Draws ∷ draws_for write) in
    let there : NfsLists = seated o (open_seqids a confirmed) l in
    let row : StateidRow = open_row (s.counter + 1) o (opener_number o l) file a in
    kept_given next (opener_number o l) (spelled 18 (opened_told (drawn_for write (drawn s)) (s.counter + 1) 1 confirmed (delegation_told (drawn s) write))) (delegated (drawn s) o file write (entered row there))
    (delegated_given next (drawn s) o file write (entered row there) (omega (arith, drawn_number s))
    (entered_given next row there (omega arith) (seated_given next o (open_seqids a confirmed) l (does_few s.counter (Draws ∷ draws_for write) l given))))
granted_few s l o a file confirmed write (Some r) given =
    let next : ℕ = s.counter + draws (draws_for write) in
    let after : NfsLists = stood r.number r (either_bits r.standing.access a.access) (either_bits r.standing.deny a.deny) false l in
    let there : NfsLists = seated o (open_seqids a confirmed) after in
    kept_given next (opener_number o l) (spelled 18 (opened_told (drawn_for write s) r.number (next_seqid r.standing.seqid) confirmed (delegation_told s write))) (delegated s o file write there)
    (delegated_given next s o file write there (omega arith)
    (does_few s.counter (draws_for write) there (seated_given s.counter o (open_seqids a confirmed) after (stood_given s.counter r.number r (either_bits r.standing.access a.access) (either_bits r.standing.deny a.deny) false l given))))

refused_few : (last : ℕ) (l : NfsLists) (current : Option ℕ) (o : Opener) (a : OpenArgsItem) (confirmed : Bool) (status : NfsStatus) → AreGivenOut last l → AreFew last (refused l current o a confirmed status)
refused_few last l current o a confirmed status given = does_few last [] (refused_lists o a confirmed status l) (refused_given last o a confirmed status l given)

answered_few : (l : NfsLists) (current : Option ℕ) (o : Opener) (a : OpenArgsItem) (file : ℕ) (confirmed : Bool) (wish : Option Bool) (answer : Answer) (s : CoreState) → AreGivenOut s.counter l → AreFew s.counter (answered l current o a file confirmed wish answer s)
answered_few l current o a file confirmed wish answer s given =
    elim (cases_Bool (is_granted answer)) [
      | inl e ↦ rw e (granted_few s l o a file (confirmed || reclaims a.claim) (granted_wish s o file wish) (open_held l o file) given)
      | inr e ↦ rw e (refused_few s.counter l current o a confirmed (answer_status (reclaims a.claim) answer) given)
    ]

by_few : (last others : ℕ) (s : CoreState) (l : NfsLists) (current : Option ℕ) (o : Opener) (a : OpenArgsItem) (confirmed : Bool) (r : Result ℕ NfsStatus) → AreGivenOut last l → AreFew last (open_by others s l current o a confirmed r)
by_few last others s l current o a confirmed (Err status) given = refused_few last l current o a confirmed status given
by_few last others s l current o a confirmed (Ok file) given =
    elim (cases_Bool (has_room others l o file)) [
      | inl e ↦ rw e (λ answer t le. answered_few l current o a file confirmed (wish_of s l o a confirmed file) answer t (later_on last t.counter l le given))
      | inr e ↦ rw e (does_few last [] l given)
    ]

as_few : (last : ℕ) (files : List (List ℕ)) (others : ℕ) (s : CoreState) (l : NfsLists) (current : Option ℕ) (at : ℕ) (o : Opener) (a : OpenArgsItem) (confirmed : Bool) → AreGivenOut last l → AreFew last (open_as files others s l current at o a confirmed)
unfolding open_as
as_few last files others s l current at o a confirmed given = by_few last others s l current o a confirmed (opened_file files s l o.client at a) given

pub repeat_few : (last : ℕ) (s : CoreState) (l : NfsLists) (current : Option ℕ) (o : Option KeptRow) → AreGivenOut last l → AreFew last (repeated s l current o)
repeat_few last s l current None given = does_few last [] l given
repeat_few last s l current (Some k) given = does_few last [] l given

judged_few : (last : ℕ) (files : List (List ℕ)) (others : ℕ) (s : CoreState) (l : NfsLists) (current : Option ℕ) (at : ℕ) (o : Opener) (a : OpenArgsItem) (j : Judged) → AreGivenOut last l → AreFew last (open_judged files others s l current at o a j)
judged_few last files others s l current at o a judgements.Bad given = does_few last [] l given
judged_few last files others s l current at o a (judgements.Repeats number) given = repeat_few last s l current (find (is_kept number) l.kept) given
judged_few last files others s l current at o a (judgements.Anew number) given =
    let rest : AreGivenOut last (without_owner number l) = without_given last number l given in
    (rest, λ t le. as_few t.counter files others t (without_owner number l) current at o a false (later_on last t.counter (without_owner number l) le rest))
judged_few last files others s l current at o a judgements.New given = as_few last files others s l current at o a false given
judged_few last files others s l current at o a judgements.Next given = as_few last files others s l current at o a true given

at_few : (last : ℕ) (files : List (List ℕ)) (others : ℕ) (s : CoreState) (l : NfsLists) (a : OpenArgsItem) (current : Option ℕ) → AreGivenOut last l → AreFew last (open_at files others s l a current)
at_few last files others s l a None given = does_few last [] l given
at_few last files others s l a (Some at) given = of (client_in s l a.owner.clientid)
  where
    of : (c : Option ClientRow) → AreFew last (open_of files others s l (Some at) at a c)
    of None = does_few last [] l given
    of (Some c) = judged_few last files others s l (Some at) at (opener_of c a) a (judged l (opener_of c a) a.seqid) given

pub open_few : (files : List (List ℕ)) (others : ℕ) (s : CoreState) (l : NfsLists) (current : Option ℕ) (a : OpenArgsItem) → AreGivenOut s.counter l → AreFew s.counter (open_file files others s l current a)
unfolding open_file open_claimed
open_few files others s l current a given = (
  given,
  λ t le.
      (let once = later_on s.counter t.counter l le given in
      (once, λ u more. at_few u.counter files others u l a current (later_on t.counter u.counter l more once))),
)

-- ---- OPEN_CONFIRM, OPEN_DOWNGRADE, CLOSE, DELEGRETURN

-- a request on a stateid draws few, if it does once it passed
pub counts_few : (last : ℕ) (s : CoreState) (l : NfsLists) (current : Option ℕ) (rest : StateidRow → ℕ → SeqidState → Plan) (c : Checked) → AreGivenOut last l → ((r : StateidRow) (w : ℕ) (v : SeqidState) → AreFew last (rest r w v)) → AreFew last (counts s l current rest c)
counts_few last s l current rest (Refused status) given each = does_few last [] l given
counts_few last s l current rest (Repeated owner) given each = repeat_few last s l current (find (is_kept owner) l.kept) given
counts_few last s l current rest (Passed r w v) given each = each r w v

confirm_done_few : (last : ℕ) (s : CoreState) (l : NfsLists) (current : Option ℕ) (a : OpenConfirmArgs) (r : StateidRow) (owner : ℕ) (seqids : SeqidState) (x : Option NfsStatus) → AreGivenOut last l → AreFew last (confirm_done s l current a r owner seqids x)
confirm_done_few last s l current a r owner seqids (Some status) given = does_few last [] (failed_lists l owner seqids 20 a.seqid status) (failed_given last l owner seqids 20 a.seqid status given)
confirm_done_few last s l current a r owner seqids None given = does_few last [] (done_lists s l r owner seqids 20 a.seqid true None r.standing.access r.standing.deny false) (done_given last s l r owner seqids 20 a.seqid true None r.standing.access r.standing.deny false given)

pub confirm_few : (s : CoreState) (l : NfsLists) (current : Option ℕ) (a : OpenConfirmArgs) → AreGivenOut s.counter l → AreFew s.counter (open_confirm s l current a)
unfolding open_confirm
confirm_few s l current a given =
    (given, λ t le. (let after = later_on s.counter t.counter l le given in counts_few t.counter t l current (λ r w v. confirm_done t l current a r w v (standing_fault r v a.stateid.seqid false)) (checked t l current 20 a.seqid a.stateid) after (λ r w v. confirm_done_few t.counter t l current a r w v (standing_fault r v a.stateid.seqid false) after)))

downgrade_done_few : (last : ℕ) (s : CoreState) (l : NfsLists) (current : Option ℕ) (a : OpenDowngradeArgs) (r : StateidRow) (owner : ℕ) (seqids : SeqidState) (x : Option NfsStatus) → AreGivenOut last l → AreFew last (downgrade_done s l current a r owner seqids x)
downgrade_done_few last s l current a r owner seqids (Some status) given = does_few last [] (failed_lists l owner seqids 21 a.seqid status) (failed_given last l owner seqids 21 a.seqid status given)
downgrade_done_few last s l current a r owner seqids None given = does_few last (weakens (share_of_open s l r owner) (rights_of a.access) (rights_of a.deny)) (done_lists s l r owner seqids 21 a.seqid seqids.confirmed None a.access a.deny false) (done_given last s l r owner seqids 21 a.seqid seqids.confirmed None a.access a.deny false given)

pub downgrade_few : (s : CoreState) (l : NfsLists) (current : Option ℕ) (a : OpenDowngradeArgs) → AreGivenOut s.counter l → AreFew s.counter (open_downgrade s l current a)
unfolding open_downgrade
downgrade_few s l current a given =
    (given, λ t le. (let after = later_on s.counter t.counter l le given in counts_few t.counter t l current (λ r w v. downgrade_done t l current a r w v (downgrade_fault r v a)) (checked t l current 21 a.seqid a.stateid) after (λ r w v. downgrade_done_few t.counter t l current a r w v (downgrade_fault r v a) after)))

close_done_few : (last : ℕ) (s : CoreState) (l : NfsLists) (current : Option ℕ) (a : CloseArgs) (r : StateidRow) (owner : ℕ) (seqids : SeqidState) (x : Option NfsStatus) → AreGivenOut last l → AreFew last (close_done s l current a r owner seqids x)
close_done_few last s l current a r owner seqids (Some status) given = does_few last [] (failed_lists l owner seqids 4 a.seqid status) (failed_given last l owner seqids 4 a.seqid status given)
close_done_few last s l current a r owner seqids None given = (
  given,
  λ t le.
      (let after : NfsLists = done_lists t l r owner seqids 4 a.seqid seqids.confirmed (Some r.number) r.standing.access r.standing.deny true in
      does_few t.counter (gives (share_of_open t l r owner)) (locks_gone r.number after)
      (less_given t.counter (is_whose (whose.Under r.number)) after
      (done_given t.counter t l r owner seqids 4 a.seqid seqids.confirmed (Some r.number) r.standing.access r.standing.deny true (later_on last t.counter l le given)))),
)

pub close_few : (s : CoreState) (l : NfsLists) (current : Option ℕ) (a : CloseArgs) → AreGivenOut s.counter l → AreFew s.counter (close s l current a)
unfolding close
close_few s l current a given =
    (given, λ t le. (let after = later_on s.counter t.counter l le given in counts_few t.counter t l current (λ r w v. close_done t l current a r w v (standing_fault r v a.stateid.seqid true)) (checked t l current 4 a.seqid a.stateid) after (λ r w v. close_done_few t.counter t l current a r w v (standing_fault r v a.stateid.seqid true) after)))

return_done_few : (s : CoreState) (l : NfsLists) (current : Option ℕ) (x : Returning) → AreGivenOut s.counter l → AreFew s.counter (return_done s l current x)
return_done_few s l current (Err status) given = does_few s.counter [] l given
return_done_few s l current (Ok r) given = does_few s.counter (gives (cache_of s l r)) (freed r.number l) (less_given s.counter (is_whose (whose.Stateid r.number)) l given)

pub return_few : (s : CoreState) (l : NfsLists) (current : Option ℕ) (stateid : Stateid) → AreGivenOut s.counter l → AreFew s.counter (deleg_return s l current stateid)
unfolding deleg_return
return_few s l current stateid given = (given, λ t le. return_done_few t l current (returned t l current stateid) (later_on s.counter t.counter l le given))

-- ---- each operation

pub start_given : (last : ℕ) → AreGivenOut last no_lists
start_given last = tt

pub open_given : (n : ℕ) (files : List (List ℕ)) (others : ℕ) (s : CoreState) (l : NfsLists) (current : Option ℕ) (a : OpenArgsItem) → IsGood s → AreGivenOut s.counter l → StayGivenOut s (carried n s l (open_file files others s l current a))
open_given n files others s l current a good given = carried_few n s l (open_file files others s l current a) _ good (open_own n files others s l current a good) given (open_few files others s l current a given)

pub confirm_given : (n : ℕ) (s : CoreState) (l : NfsLists) (current : Option ℕ) (a : OpenConfirmArgs) → IsGood s → AreGivenOut s.counter l → StayGivenOut s (carried n s l (open_confirm s l current a))
confirm_given n s l current a good given = carried_few n s l (open_confirm s l current a) _ good (confirm_own n s l current a good) given (confirm_few s l current a given)

pub downgrade_given : (n : ℕ) (s : CoreState) (l : NfsLists) (current : Option ℕ) (a : OpenDowngradeArgs) → IsGood s → AreGivenOut s.counter l → StayGivenOut s (carried n s l (open_downgrade s l current a))
downgrade_given n s l current a good given = carried_few n s l (open_downgrade s l current a) _ good (downgrade_own n s l current a good) given (downgrade_few s l current a given)

pub close_given : (n : ℕ) (s : CoreState) (l : NfsLists) (current : Option ℕ) (a : CloseArgs) → IsGood s → AreGivenOut s.counter l → StayGivenOut s (carried n s l (close s l current a))
close_given n s l current a good given = carried_few n s l (close s l current a) _ good (close_own n s l current a good) given (close_few s l current a given)

pub return_given : (n : ℕ) (s : CoreState) (l : NfsLists) (current : Option ℕ) (stateid : Stateid) → IsGood s → AreGivenOut s.counter l → StayGivenOut s (carried n s l (deleg_return s l current stateid))
return_given n s l current stateid good given = carried_few n s l (deleg_return s l current stateid) _ good (return_own n s l current stateid good) given (return_few s l current stateid given)

-- ---- the next number

unused_above : (last number : ℕ) (ss : List StateidRow) → last < number → AllByRecursion (λ (r : StateidRow). r.number ≤ last) ss → find (is_stateid number) ss ≡ None
unused_above last number [] above given = refl
unused_above last number (r ∷ ss) above given =
    elim (cases_Bool (number == r.number)) [
      | inl e ↦ absurd (omega (arith, above, given.0, eqb-true number r.number e))
      | inr e ↦ rw e (unused_above last number ss above given.1)
    ]

pub next_unused : (s : CoreState) (l : NfsLists) → AreGivenOut s.counter l → find (is_stateid (s.counter + 1)) l.stateids ≡ None
next_unused s l given = unused_above s.counter (s.counter + 1) l.stateids (omega arith) given

-- what has the number that came is what came
entered_alone : (last : ℕ) (row : StateidRow) (l : NfsLists) → AreGivenOut last l → AllByRecursion (λ q. q.number ≡ last + 1 → q ≡ row) (entered row l).stateids
unfolding entered
entered_alone last row l given =
    let Alone : StateidRow → Type 0 = λ q. q.number ≡ last + 1 → q ≡ row in
    let m : NfsLists = with_stateids l (without (is_whose (whose.Stateid row.number)) l.stateids) in
    let left : AreGivenOut last m = less_given last (is_whose (whose.Stateid row.number)) l given in
    let old : AllByRecursion Alone m.stateids = all_weaker (λ (q : StateidRow). q.number ≤ last) Alone m.stateids (λ q h e. absurd (omega (arith, h, e))) left in
    elim (cases_Bool (can_enter row m)) [
      | inl e ↦ rw e (all_append Alone m.stateids (row ∷ []) old ((λ _. refl), tt))
      | inr e ↦ rw e old
    ]

-- a delegation that comes has another number
delegated_alone : (s : CoreState) (o : Opener) (file : ℕ) (write : Option Bool) (l : NfsLists) (P : StateidRow → Type 0) → ((r : StateidRow) → r.number ≡ s.counter + 1 → P r) → AllByRecursion P l.stateids → AllByRecursion P (delegated s o file write l).stateids
unfolding delegated_in
delegated_alone s o file None l P each all = all
delegated_alone s o file (Some write) l P each all =
    let row = delegation_row (s.counter + 1) o file write in
    elim (cases_Bool (can_stand row l)) [
      | inl e ↦ rw e (all_append P l.stateids (row ∷ []) all (each row refl, tt))
      | inr e ↦ rw e all
    ]

pub new_alone : (n : ℕ) (s : CoreState) (l : NfsLists) (current : Option ℕ) (o : Opener) (a : OpenArgsItem) (file : ℕ) (confirmed : Bool) (write : Option Bool) (r : StateidRow) → AreGivenOut s.counter l → IsIn r (carried n s l (granted_new s l o a file confirmed write)).3.stateids → r.number ≡ s.counter + 1 → r ≡ open_row (s.counter + 1) o (opener_number o l) file a
new_alone n s l current o a file confirmed write r given here same =
    let there : NfsLists = seated o (open_seqids a confirmed) l in
    let row : StateidRow = open_row (s.counter + 1) o (opener_number o l) file a in
    let whole : NfsLists = delegated (drawn s) o file write (entered row there) in
    let Alone : StateidRow → Type 0 = λ q. q.number ≡ s.counter + 1 → q ≡ row in
    let all : AllByRecursion Alone whole.stateids = delegated_alone (drawn s) o file write (entered row there) Alone (λ q e f. absurd (omega (arith, e, f, drawn_number s))) (entered_alone s.counter row there (seated_given s.counter o (open_seqids a confirmed) l given)) in
    all_in Alone r whole.stateids all (subst (λ (ss : List StateidRow). IsIn r ss) (kept_stateids (opener_number o l) (spelled 18 (opened_told (drawn_for write (drawn s)) (s.counter + 1) 1 confirmed (delegation_told (drawn s) write))) whole) here) same
