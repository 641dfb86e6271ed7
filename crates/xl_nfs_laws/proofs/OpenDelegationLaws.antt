-- Whatever an OPEN or a DELEGRETURN comes to, each client has just the delegations that its caches are.
use Rattle.std.proofs.Common.{◌≡◌, ℕ, ◌+◌, ◌≤◌, Bool, true, false, not, List, [], ◌∷◌, Option, Some, None, Ok, Err, Result, is_some, option_map, refl, sym, ap, subst, ◌∙◌, inl, inr, true≢false, arith}
use Rattle.std.proofs.lemmas.Bool.{and_from, and_parts, cases_Bool, eq-eqb, eqb-true}
use Rattle.std.proofs.lemmas.Option.{same_Some}
use Rattle.std.specs.Bool.{◌==◌, beq}
use Rattle.std.specs.Cmp.Lexicographic.{bytes_decides}
use Rattle.std.specs.List.{AllByRecursion, filter, find}
use Rattle.std.specs.Option.{option_and_then}
use Rattle.std.specs.Prelude.{◌&&◌, ◌||◌, bytes_eq}
use Rattle.xl_base.proofs.Members.{all_append, all_in, all_weaker}
use Rattle.xl_base.specs.Lists.{IsIn, Pairwise}
use Rattle.xl_base.specs.declared.name.Party.{Party}
use Rattle.xl_base.specs.declared.name.Party.TheVariants as parties
use Rattle.xl_base.specs.declared.name.Protocol.TheVariants.{Nfs}
use Rattle.xl_matrix.proofs.EqualLaws.{same_parties-true}
use Rattle.xl_matrix.specs.Blocks.{is_cache}
use Rattle.xl_matrix.specs.Equal.{same_parties}
use Rattle.xl_matrix.specs.declared.claim.Claim.{Claim}
use Rattle.xl_names.proofs.NameLaws.{one_number}
use Rattle.xl_names.specs.Names.{number_of}
use Rattle.xl_names.specs.declared.name.Name.{Name}
use Rattle.xl_names.specs.declared.name.Name.TheVariants.{NfsParty}
use Rattle.xl_nfs.specs.declared.basics.Stateid.{Stateid}
use Rattle.xl_nfs.specs.declared.status.NfsStatus.TheVariants as statuses
use Rattle.xl_nfs_state.proofs.AnyLaws.{all_left}
use Rattle.xl_nfs_state.specs.declared.owner.OwnerRow.{OwnerRow}
use Rattle.xl_core.proofs.DeedLeaves.{found_in}
use Rattle.xl_core.specs.BreakAnswers.{id_of}
use Rattle.xl_core.specs.Places.{is_cache_on}
use Rattle.xl_core.specs.Settle.{give_back}
use Rattle.xl_nfs_state.specs.Keys.{held_at as place_at, same_place}
use Rattle.xl_nfs_state.specs.declared.stateid.Holder.{Holder}
use Rattle.xl_nfs_state.specs.declared.stateid.Holder.TheVariants as holders
use Rattle.xl_nfs_state.specs.declared.stateid.Place.TheVariants.{Delegated}
use Rattle.xl_nfs.specs.Opens.{OpenArgsItem}
use Rattle.xl_nfs.specs.declared.status.NfsStatus.{NfsStatus}
use Rattle.xl_nfs_state.specs.State.{NfsLists, delegated_on, is_client, is_client_named, is_kept, is_stateid, is_under, is_whose, with_stateids, without, without_owner}
use Rattle.xl_nfs_state.specs.declared.client.ClientRow.{ClientRow}
use Rattle.xl_nfs_state.specs.declared.kept.KeptRow.{KeptRow}
use Rattle.xl_nfs_state.specs.declared.stateid.StateidRow.{StateidRow}
use Rattle.xl_nfs_state.specs.declared.stateid.Whose.TheVariants as whose
use Rattle.xl_core.specs.Decide.{ask}
use Rattle.xl_core.proofs.DeedLaws.{deed_good}
use Rattle.xl_core.proofs.FrameLaws.{ask_frame}
use Rattle.xl_core.specs.Deeds.{Deed, Asks, Draws, GivesBack, AreFit, IsFitDeed, all_done}
use Rattle.xl_core.specs.Good.{IsGood, caches_of}
use Rattle.xl_core.specs.State.{CoreState, drawn}
use Rattle.xl_nfs_laws.specs.Delegated.{AreSet, AreTied, IsShut, delegation_held, delegation_kept, delegation_numbered, is_open_still, number_confirmed, written_by}
use Rattle.xl_nfs_opens.specs.Closing.{Returning, cache_of, cache_of_client, deleg_return, return_done, returned, state_found}
use Rattle.xl_core.specs.Ids.{number_in}
use Rattle.xl_nfs_opens.specs.Opens.{all_rooms, answer_status, answered, cache_by, cache_held, claim_client, client_in, delegated, delegation_in, draws_for, either_bits, entered, freed, given_up, gives, gives_all, granted_by, granted_more, granted_new, granted_wish, has_none, has_room, is_granted, judged, kind_for, open_as, open_at, open_by, open_claimed, open_file, open_held, open_judged, open_of, open_row, open_seqids, opened_file, opener_of, reclaims, refused_lists, repeated, share_ask, share_held, stood, unless_held, wish_of}
use Rattle.xl_plan.specs.Plans.{Behind}
use Rattle.xl_nfs_opens.specs.Plans.{Plan, carried}
use Rattle.xl_nfs_laws.specs.Orderly.{IsOrderly, are_apart}
use Rattle.xl_nfs_opens.specs.Renewing.{renewals, renewals_by, renewing, state_client}
use Rattle.xl_nfs_opens.specs.Seqids.{opener_number, seated}
use Rattle.xl_nfs_opens.specs.declared.opener.Judged.{Judged}
use Rattle.xl_nfs_opens.specs.declared.opener.Judged.TheVariants as judgements
use Rattle.xl_nfs_opens.specs.declared.opener.Opener.{Opener}
use Rattle.xl_nfs_laws.proofs.CalmOpenLaws.{gives_quiet, renewals_quiet, tied_by}
use Rattle.xl_nfs_laws.proofs.ToldDelegationLaws.{client_cache_goes, entered_clients, given_names, return_exactly}
use Rattle.xl_nfs_laws.proofs.GivenDelegationLaws.{AreGiven, Owes, delegated_given, id_is, named_is, number_is, numbered_is, others_held, refused_held, unwished_quiet}
use Rattle.xl_nfs_laws.proofs.OpenOrderLaws.{none_in}
use Rattle.xl_nfs_laws.proofs.KnownOpenLaws.{seated_clients}
use Rattle.xl_plan.proofs.BudgetLaws.{drawn_number}
use Rattle.xl_nfs_laws.proofs.OpenNumberLaws.{draws, less_given}
use Rattle.xl_nfs_opens.proofs.OpenOwn.{all_given, ask_fits, no_range}
use Rattle.xl_nfs_opens.proofs.OpenerLaws.{opener_there}
use Rattle.xl_nfs_laws.proofs.QuietCacheLaws.{IsQuiet, IsQuietDeed, all_quiet, deed_held, find_gone_in, find_kept, find_removed, kind_among}
use Rattle.xl_nfs_laws.proofs.StillDelegatedLaws.{AreStill, entered_still, kept_still, later_set, owner_still, placed_delegation, refused_still, seated_still, still_kept, still_self, still_then, stood_still, under_stays}

-- ---- deeds before the rest

behind_tied : (n : ℕ) (s : CoreState) (l : NfsLists) (deeds : List Deed) (lists : NfsLists) (rest : CoreState → Plan) → IsGood s → AreFit n s deeds → AllByRecursion IsQuietDeed deeds → AreTied s l → AreStill s.counter l lists
    → ((t : CoreState) → IsGood t → AreTied t lists → (let r = carried n t lists (rest t) in AreTied r.4 r.3)) → (let r = carried n s l (Behind deeds lists rest) in AreTied r.4 r.3)
behind_tied n s l deeds lists rest good fit calm tied still later =
    let quiet = all_quiet n s deeds good fit calm in
    later (all_done n s deeds) quiet.good (tied_by s (all_done n s deeds) s.counter l lists tied quiet quiet.later still)

pub renews_fit : (n : ℕ) (s : CoreState) (l : NfsLists) (who : Option ℕ) → AreFit n s (renewals l who)
renews_fit n s l None = tt
renews_fit n s l (Some number) = by (find (is_client number true) l.clients)
  where
    by : (o : Option ClientRow) → AreFit n s (renewals_by o)
    by None = tt
    by (Some r) = (tt, tt)

pub renewing_tied : (n : ℕ) (s : CoreState) (l : NfsLists) (who : Option ℕ) (rest : CoreState → Plan) → IsGood s → AreTied s l
    → ((t : CoreState) → IsGood t → AreTied t l → (let r = carried n t l (rest t) in AreTied r.4 r.3)) → (let r = carried n s l (renewing l who rest) in AreTied r.4 r.3)
renewing_tied n s l who rest good tied later = behind_tied n s l (renewals l who) l rest good (renews_fit n s l who) (renewals_quiet l who) tied (still_self s.counter l tied.set) later

-- nothing is done to the core
still_tied : (s : CoreState) (l m : NfsLists) → IsGood s → AreTied s l → AreStill s.counter l m → AreTied s m
still_tied s l m good tied still = tied_by s s s.counter l m tied (record { good = good; later = omega arith; held = λ id file. refl }) (omega arith) still

-- ---- where the share is granted

draws_quiet : (write : Option Bool) → AllByRecursion IsQuietDeed (draws_for write)
draws_quiet None = tt
draws_quiet (Some w) = (tt, tt)

draws_fit : (n : ℕ) (s : CoreState) (write : Option Bool) → AreFit n s (draws_for write)
draws_fit n s None = tt
draws_fit n s (Some w) = (tt, tt)

draws_rise : (n : ℕ) (s : CoreState) (write : Option Bool) → s.counter + draws (draws_for write) ≤ (all_done n s (draws_for write)).counter
draws_rise n s None = omega arith
draws_rise n s (Some w) = omega (arith, drawn_number s)

-- what was given is kept, and numbers went on
given_tied : (t v : CoreState) (last : ℕ) (m k : NfsLists) → AreGiven last t m → IsQuiet t v → last ≤ v.counter → ((set : AreSet last m) → AreStill last m k) → AreTied v k
given_tied t v last m k given quiet le still =
    let is = still given.set in
    record {
      set = later_set last v.counter k le is.set;
      delegated = λ id file. quiet.held id file ∙ given.delegated id file ∙ sym (still_kept last m k is id file);
    }

new_tied : (n : ℕ) (t : CoreState) (l : NfsLists) (current : Option ℕ) (o : Opener) (a : OpenArgsItem) (file : ℕ) (confirmed : Bool) (write : Option Bool) → IsGood t → AreSet t.counter l → Owes t l o file write → (let r = carried n t l (granted_new t l o a file confirmed write) in AreTied r.4 r.3)
new_tied n t l current o a file confirmed write good set owes =
    let u = drawn t in
    let row = open_row (t.counter + 1) o (opener_number o l) file a in
    let there : NfsLists = seated o (open_seqids a confirmed) l in
    let m : NfsLists = entered row there in
    let one = seated_still t.counter o (open_seqids a confirmed) l refl set in
    let two = entered_still t.counter row there (omega arith) refl one.set in
    let still : AreStill u.counter l m = subst (λ (k : ℕ). AreStill k l m) (sym (drawn_number t)) (still_then t.counter (t.counter + 1) l there m one two) in
    let given = delegated_given t u l m o file write still (entered_clients row there ∙ seated_clients o (open_seqids a confirmed) l) owes in
    let quiet = all_quiet n t (Draws ∷ draws_for write) good (tt, draws_fit n u write) (tt, draws_quiet write) in
    given_tied t (all_done n t (Draws ∷ draws_for write)) (u.counter + draws (draws_for write)) (delegated u o file write m) _ given quiet (draws_rise n u write)
    (λ after. kept_still (u.counter + draws (draws_for write)) (opener_number o l) _ (delegated u o file write m) after)

more_tied : (n : ℕ) (t : CoreState) (l : NfsLists) (current : Option ℕ) (o : Opener) (a : OpenArgsItem) (file : ℕ) (confirmed : Bool) (write : Option Bool) (r : StateidRow) → IsGood t → AreSet t.counter l → Owes t l o file write → (let d = carried n t l (granted_more t l o a file confirmed write r) in AreTied d.4 d.3)
more_tied n t l current o a file confirmed write r good set owes =
    let after : NfsLists = stood r.number r (either_bits r.standing.access a.access) (either_bits r.standing.deny a.deny) false l in
    let m : NfsLists = seated o (open_seqids a confirmed) after in
    let one = stood_still t.counter r.number r (either_bits r.standing.access a.access) (either_bits r.standing.deny a.deny) false l set in
    let still : AreStill t.counter l m = still_then t.counter t.counter l after m one (seated_still t.counter o (open_seqids a confirmed) after refl one.set) in
    let given = delegated_given t t l m o file write still (seated_clients o (open_seqids a confirmed) after) owes in
    let quiet = all_quiet n t (draws_for write) good (draws_fit n t write) (draws_quiet write) in
    given_tied t (all_done n t (draws_for write)) (t.counter + draws (draws_for write)) (delegated t o file write m) _ given quiet (draws_rise n t write)
    (λ set. kept_still (t.counter + draws (draws_for write)) (opener_number o l) _ (delegated t o file write m) set)

granted_tied : (n : ℕ) (t : CoreState) (l : NfsLists) (current : Option ℕ) (o : Opener) (a : OpenArgsItem) (file : ℕ) (confirmed : Bool) (write : Option Bool) (x : Option StateidRow) → IsGood t → AreSet t.counter l → Owes t l o file write → (let d = carried n t l (granted_by t l o a file confirmed write x) in AreTied d.4 d.3)
granted_tied n t l current o a file confirmed write None good set owes = new_tied n t l current o a file confirmed write good set owes
granted_tied n t l current o a file confirmed write (Some r) good set owes = more_tied n t l current o a file confirmed write r good set owes

-- ---- the ask

-- of whom the request is
pub record IsOpener (l : NfsLists) (o : Opener) : Type 0 where
  pub there : is_some (find (is_client o.client true) l.clients) ≡ true
  pub named : number_confirmed l.clients o.id ≡ Some o.client
  pub only : (id : List ℕ) → number_confirmed l.clients id ≡ Some o.client → id ≡ o.id

-- what is wished for isn't there
wished_free : (s : CoreState) (l : NfsLists) (o : Opener) (a : OpenArgsItem) (confirmed : Bool) (file : ℕ) (w : Bool) → wish_of s l o a confirmed file ≡ Some w → has_none s l o file ≡ true
unfolding wish_of
wished_free s l o a confirmed file w e = by (kind_for (find (is_client o.client true) l.clients) a confirmed a.claim) e
  where
    by : (kind : Option Bool) → unless_held s l o file kind ≡ Some w → has_none s l o file ≡ true
    by None d = absurd (true≢false (ap is_some (sym d)))
    by (Some write) d =
        elim (cases_Bool (has_none s l o file)) [
          | inl free ↦ free
          | inr held ↦ (let no : None ≡ Some w = rw held at d in absurd (true≢false (ap is_some (sym no))))
        ]

none_of : {A : Type 0} (x : Option A) → not (is_some x) ≡ true → x ≡ None
none_of None e = refl
none_of (Some y) e = absurd (true≢false (sym e))

-- what the core holds once a share is granted without a wish
owes_none : (n : ℕ) (s : CoreState) (l : NfsLists) (o : Opener) (a : OpenArgsItem) (file : ℕ) → IsGood s → IsOpener l o → AreTied s l → Owes (ask n all_rooms s (share_ask None o a file)).2 l o file None
owes_none n s l o a file good opener tied =
    let quiet = unwished_quiet n s o a file good in
    record {
      others = λ id at other. quiet.held id at ∙ tied.delegated id at;
      same = λ none. quiet.held o.id file ∙ tied.delegated o.id file;
      new = λ w e. absurd (true≢false (ap is_some (sym e)));
      there = opener.there;
      named = opener.named;
      only = opener.only;
    }

-- and with a wish, of which the client has what it got
owes_some : (n : ℕ) (s : CoreState) (l : NfsLists) (o : Opener) (a : OpenArgsItem) (file : ℕ) (wish : Option Bool) → has_none s l o file ≡ true → IsGood s → IsOpener l o → AreTied s l → (let t = (ask n all_rooms s (share_ask wish o a file)).2 in Owes t l o file (delegation_held t o.id file))
owes_some n s l o a file wish free good opener tied =
    let parts = and_parts (not (is_some (cache_held s o.id file))) (not (is_some (find (delegated_on o.client file) l.stateids))) free in
    record {
      others = λ id at other. others_held n s wish o a file id at good other ∙ tied.delegated id at;
      same = λ none. none ∙ sym (ap delegation_in (none_of (cache_held s o.id file) parts.0)) ∙ tied.delegated o.id file;
      new = λ w e. (e, none_of (find (delegated_on o.client file) l.stateids) parts.1);
      there = opener.there;
      named = opener.named;
      only = opener.only;
    }

owed : (n : ℕ) (s : CoreState) (l : NfsLists) (o : Opener) (a : OpenArgsItem) (file : ℕ) (wish : Option Bool) → ((w : Bool) → wish ≡ Some w → has_none s l o file ≡ true) → IsGood s → IsOpener l o → AreTied s l → (let t = (ask n all_rooms s (share_ask wish o a file)).2 in Owes t l o file (granted_wish t o file wish))
owed n s l o a file None free good opener tied = owes_none n s l o a file good opener tied
owed n s l o a file (Some w) free good opener tied = owes_some n s l o a file (Some w) (free w refl) good opener tied

asked_tied : (n : ℕ) (s : CoreState) (l : NfsLists) (current : Option ℕ) (o : Opener) (a : OpenArgsItem) (confirmed : Bool) (file : ℕ) (wish : Option Bool) → ((w : Bool) → wish ≡ Some w → has_none s l o file ≡ true) → IsGood s → IsOpener l o → AreTied s l
    → (let r = ask n all_rooms s (share_ask wish o a file) in let d = carried n r.2 l (answered l current o a file confirmed wish r.0 r.2) in AreTied d.4 d.3)
asked_tied n s l current o a confirmed file wish free good opener tied =
    let r = ask n all_rooms s (share_ask wish o a file) in
    let frame = ask_frame n all_rooms s (share_ask wish o a file) good (ask_fits wish o a file).party in
    let well : IsGood r.2 = deed_good n s (Asks all_rooms (share_ask wish o a file)) good (ask_fits wish o a file) in
    let le : s.counter ≤ r.2.counter = omega (arith, frame.counter) in
    elim (cases_Bool (is_granted r.0)) [
      | inl e ↦ rw e (granted_tied n r.2 l current o a file (confirmed || reclaims a.claim) (granted_wish r.2 o file wish) (open_held l o file) well (later_set s.counter r.2.counter l le tied.set) (owed n s l o a file wish free good opener tied))
      | inr e ↦ rw e (tied_by s r.2 s.counter l (refused_lists o a confirmed (answer_status (reclaims a.claim) r.0) l) tied (record { good = well; later = le; held = λ id at. refused_held n s wish o a file id at good e }) le (refused_still s.counter o a confirmed (answer_status (reclaims a.claim) r.0) l tied.set))
    ]

-- ---- OPEN

by_tied : (n others : ℕ) (s : CoreState) (l : NfsLists) (current : Option ℕ) (o : Opener) (a : OpenArgsItem) (confirmed : Bool) (x : Result ℕ NfsStatus) → IsGood s → IsOpener l o → AreTied s l → (let d = carried n s l (open_by others s l current o a confirmed x) in AreTied d.4 d.3)
by_tied n others s l current o a confirmed (Err status) good opener tied = still_tied s l (refused_lists o a confirmed status l) good tied (refused_still s.counter o a confirmed status l tied.set)
by_tied n others s l current o a confirmed (Ok file) good opener tied =
    elim (cases_Bool (has_room others l o file)) [
      | inl e ↦ rw e (asked_tied n s l current o a confirmed file (wish_of s l o a confirmed file) (λ w wished. wished_free s l o a confirmed file w wished) good opener tied)
      | inr e ↦ rw e tied
    ]

as_tied : (n : ℕ) (files : List (List ℕ)) (others : ℕ) (s : CoreState) (l : NfsLists) (current : Option ℕ) (at : ℕ) (o : Opener) (a : OpenArgsItem) (confirmed : Bool) → IsGood s → IsOpener l o → AreTied s l → (let d = carried n s l (open_as files others s l current at o a confirmed) in AreTied d.4 d.3)
unfolding open_as
as_tied n files others s l current at o a confirmed good opener tied = by_tied n others s l current o a confirmed (opened_file files s l o.client at a) good opener tied

pub gives_all_quiet : (s : CoreState) (o : Opener) (rows : List StateidRow) → AllByRecursion IsQuietDeed (gives_all s o rows)
gives_all_quiet s o [] = tt
gives_all_quiet s o (r ∷ rs) = all_append IsQuietDeed (gives (share_held s o r.file)) (gives_all (given_up s (share_held s o r.file)) o rs) (gives_quiet s o r.file (share_held s o r.file) refl) (gives_all_quiet (given_up s (share_held s o r.file)) o rs)

repeat_tied : (n : ℕ) (s : CoreState) (l : NfsLists) (current : Option ℕ) (k : Option KeptRow) → AreTied s l → (let d = carried n s l (repeated s l current k) in AreTied d.4 d.3)
repeat_tied n s l current None tied = tied
repeat_tied n s l current (Some k) tied = tied

judged_tied : (n : ℕ) (files : List (List ℕ)) (others : ℕ) (s : CoreState) (l : NfsLists) (current : Option ℕ) (at : ℕ) (o : Opener) (a : OpenArgsItem) (j : Judged) → IsGood s → IsOpener l o → AreTied s l → (let d = carried n s l (open_judged files others s l current at o a j) in AreTied d.4 d.3)
judged_tied n files others s l current at o a judgements.Bad good opener tied = tied
judged_tied n files others s l current at o a (judgements.Repeats number) good opener tied = repeat_tied n s l current (find (is_kept number) l.kept) tied
judged_tied n files others s l current at o a (judgements.Anew number) good opener tied =
    let rows = filter (is_whose (whose.Owner number)) l.stateids in
    behind_tied n s l (gives_all s o rows) (without_owner number l) (λ t. open_as files others t (without_owner number l) current at o a false) good (all_given n s (λ _. Unit {0}) o rows good tt).0 (gives_all_quiet s o rows) tied (owner_still s.counter number l tied.set)
    (λ t well is. as_tied n files others t (without_owner number l) current at o a false well (record { there = opener.there; named = opener.named; only = opener.only }) is)
judged_tied n files others s l current at o a judgements.New good opener tied = as_tied n files others s l current at o a false good opener tied
judged_tied n files others s l current at o a judgements.Next good opener tied = as_tied n files others s l current at o a true good opener tied

-- a confirmed client's owner
pub opener_is : (s : CoreState) (l : NfsLists) (a : OpenArgsItem) (c : ClientRow) → AreSet s.counter l → client_in s l a.owner.clientid ≡ Some c → IsOpener l (opener_of c a)
opener_is s l a c set e = by (number_in s a.owner.clientid) e
  where
    by : (x : Option ℕ) → option_and_then (λ number. find (is_client number true) l.clients) x ≡ Some c → IsOpener l (opener_of c a)
    by None f = absurd (true≢false (ap is_some (sym f)))
    by (Some number) f = record {
      there = opener_there s l a c (opener_of c a) (sym e) refl;
      named = number_is l.clients number c set.clients.apart f;
      only = λ id is. id_is l.clients number c id set.clients.apart f is;
    }

at_tied : (n : ℕ) (files : List (List ℕ)) (others : ℕ) (s : CoreState) (l : NfsLists) (a : OpenArgsItem) (current : Option ℕ) → IsGood s → AreTied s l → (let d = carried n s l (open_at files others s l a current) in AreTied d.4 d.3)
at_tied n files others s l a None good tied = tied
at_tied n files others s l a (Some at) good tied = of (client_in s l a.owner.clientid) refl
  where
    of : (c : Option ClientRow) → client_in s l a.owner.clientid ≡ c → (let d = carried n s l (open_of files others s l (Some at) at a c) in AreTied d.4 d.3)
    of None e = tied
    of (Some c) e = judged_tied n files others s l (Some at) at (opener_of c a) a (judged l (opener_of c a) a.seqid) good (opener_is s l a c tied.set e) tied

pub open_tied : (n : ℕ) (files : List (List ℕ)) (others : ℕ) (s : CoreState) (l : NfsLists) (current : Option ℕ) (a : OpenArgsItem) → IsGood s → AreTied s l → (let d = carried n s l (open_file files others s l current a) in AreTied d.4 d.3)
unfolding open_file open_claimed
open_tied n files others s l current a good tied =
    renewing_tied n s l (number_in s a.owner.clientid) (λ t. open_claimed files others t l current a) good tied
    (λ t well is. renewing_tied n t l (claim_client t l a.claim) (λ u. open_at files others u l a current) well is (λ u sound ties. at_tied n files others u l a current sound ties))

-- ---- DELEGRETURN

-- two rows that aren't apart are one
one_row : (ss : List StateidRow) (q r : StateidRow) → Pairwise are_apart ss → IsIn q ss → IsIn r ss → are_apart q r ≡ false → are_apart r q ≡ false → q ≡ r
one_row [] q r apart there too first second = absurd there
one_row (x ∷ xs) q r apart (inl e) (inl f) first second = sym e ∙ f
one_row (x ∷ xs) q r apart (inr e) (inr f) first second = one_row xs q r apart.1 e f first second
one_row (x ∷ xs) q r apart (inl e) (inr f) first second = absurd (true≢false (sym (all_in (λ y. are_apart x y ≡ true) r xs apart.0 f) ∙ ap (λ y. are_apart y r) e ∙ first))
one_row (x ∷ xs) q r apart (inr e) (inl f) first second = absurd (true≢false (sym (all_in (λ y. are_apart x y ≡ true) q xs apart.0 e) ∙ ap (λ y. are_apart y q) f ∙ second))

-- so are two of one number
numbered_one : (ss : List StateidRow) (q r : StateidRow) → Pairwise are_apart ss → IsIn q ss → IsIn r ss → (r.number == q.number) ≡ true → q ≡ r
numbered_one ss q r apart there too same =
    one_row ss q r apart there too (rw same refl) (rw (eq-eqb q.number r.number (sym (eqb-true r.number q.number same))) refl)

-- and two delegations of one client on one file
pub placed_one : (ss : List StateidRow) (q r : StateidRow) (client file : ℕ) → Pairwise are_apart ss → IsIn q ss → IsIn r ss → delegated_on client file q ≡ true → delegated_on client file r ≡ true → q ≡ r
placed_one ss q r client file apart there too on also =
    one_row ss q r apart there too (by r.holder q.holder r q also on (not (r.number == q.number))) (by q.holder r.holder q r on also (not (q.number == r.number)))
  where
    both : (a b : Bool) → b ≡ false → (a && b) ≡ false
    both true b e = e
    both false b e = refl

    by : (h k : Holder) (x y : StateidRow) → same_place (Delegated client file) (place_at h x.client x.file) ≡ true → same_place (Delegated client file) (place_at k y.client y.file) ≡ true → (b : Bool) → (b && not (same_place (place_at h x.client x.file) (place_at k y.client y.file))) ≡ false
    by (holders.Delegation w) (holders.Delegation v) x y e f b =
        let first = and_parts (client == x.client) (file == x.file) e in
        let second = and_parts (client == y.client) (file == y.file) f in
        both b _ (ap not (and_from (x.client == y.client) (x.file == y.file) (eq-eqb x.client y.client (sym (eqb-true client x.client first.0) ∙ eqb-true client y.client second.0)) (eq-eqb x.file y.file (sym (eqb-true file x.file first.1) ∙ eqb-true file y.file second.1))))
    by (holders.Open owner) k x y e f b = absurd (true≢false (sym e))
    by (holders.Lock owner under opener) k x y e f b = absurd (true≢false (sym e))
    by (holders.Delegation w) (holders.Open owner) x y e f b = absurd (true≢false (sym f))
    by (holders.Delegation w) (holders.Lock owner under opener) x y e f b = absurd (true≢false (sym f))

less_set : (last : ℕ) (drops : StateidRow → Bool) (l : NfsLists) → AreSet last l → AreSet last (with_stateids l (without drops l.stateids))
less_set last drops l set = record {
  given = less_given last drops l set.given;
  shut = all_weaker (λ (o : OwnerRow). IsShut last l.stateids o.seqids.closed) (λ (o : OwnerRow). IsShut last (without drops l.stateids) o.seqids.closed) l.owners (λ o h. record {
    given = h.given;
    other = all_left (λ (r : StateidRow). is_open_still o.seqids.closed r ≡ true) (λ (r : StateidRow). is_open_still o.seqids.closed r ≡ true) drops l.stateids (λ r left e. e) h.other;
  }) set.shut;
  clients = set.clients;
}

-- what is left once a delegation is returned: that of its client on its file alone is gone
module _ (l : NfsLists) (r : StateidRow) (write : Bool) (orderly : IsOrderly l) (there : IsIn r l.stateids) (holds : r.holder ≡ holders.Delegation write) where
  abbrev left : NfsLists
  left = freed r.number l

  own_place : delegated_on r.client r.file r ≡ true
  own_place = ap (λ (h : Holder). same_place (Delegated r.client r.file) (place_at h r.client r.file)) holds ∙ and_from (r.client == r.client) (r.file == r.file) (eq-eqb r.client r.client refl) (eq-eqb r.file r.file refl)

  rows_other : (file number : ℕ) → ((number == r.client) && (file == r.file)) ≡ false → delegation_numbered left.stateids file number ≡ delegation_numbered l.stateids file number
  rows_other file number other =
      ap (option_and_then (λ (q : StateidRow). written_by q.holder)) (find_kept (delegated_on number file) (λ (q : StateidRow). not (is_whose (whose.Stateid r.number) q)) l.stateids (λ q here on. ap not (stays q here on)))
    where
      stays : (q : StateidRow) → IsIn q l.stateids → delegated_on number file q ≡ true → (r.number == q.number || is_under r.number q.holder) ≡ false
      stays q here on =
          elim (cases_Bool (r.number == q.number)) [
            | inr differs ↦ rw differs (under_stays r.number q.holder (placed_delegation number file q on))
            | inl same ↦
                let is = numbered_one l.stateids q r orderly.apart here there same in
                let so : ((number == r.client) && (file == r.file)) ≡ true = sym (ap (λ (h : Holder). same_place (Delegated number file) (place_at h r.client r.file)) holds) ∙ ap (delegated_on number file) (sym is) ∙ on in
                absurd (true≢false (sym so ∙ other))
          ]

  rows_own : delegation_numbered left.stateids r.file r.client ≡ None
  rows_own =
      ap (option_and_then (λ (q : StateidRow). written_by q.holder)) (find_gone_in (delegated_on r.client r.file) (λ (q : StateidRow). not (is_whose (whose.Stateid r.number) q)) l.stateids (λ q here on. (
      let is = placed_one l.stateids q r r.client r.file orderly.apart here there on own_place in
      let same : (r.number == q.number) ≡ true = eq-eqb r.number q.number (ap (λ (x : StateidRow). x.number) (sym is)) in
      rw same refl)))

  kept_other : (id : List ℕ) (file : ℕ) → (number_confirmed l.clients id ≡ Some r.client → (file == r.file) ≡ true → ⊥) → delegation_kept left id file ≡ delegation_kept l id file
  kept_other id file other = by (number_confirmed l.clients id) refl
    where
      by : (x : Option ℕ) → number_confirmed l.clients id ≡ x → option_and_then (delegation_numbered left.stateids file) x ≡ option_and_then (delegation_numbered l.stateids file) x
      by None e = refl
      by (Some number) e = rows_other file number (elim (cases_Bool ((number == r.client) && (file == r.file))) [
        | inr differs ↦ differs
        | inl both ↦ (let parts = and_parts (number == r.client) (file == r.file) both in absurd (other (e ∙ ap (λ (k : ℕ). Some k) (eqb-true number r.client parts.0)) parts.1))
      ])

  kept_own : (id : List ℕ) → number_confirmed l.clients id ≡ Some r.client → delegation_kept left id r.file ≡ None
  kept_own id is = ap (option_and_then (delegation_numbered left.stateids r.file)) is ∙ rows_own

-- another client's cache, and one on another file, is left
back_other : (n : ℕ) (s : CoreState) (own : List ℕ) (at : ℕ) (id : List ℕ) (file : ℕ) → IsGood s → (id ≡ own → (file == at) ≡ true → ⊥) → delegation_held (all_done n s (gives (cache_held s own at))) id file ≡ delegation_held s id file
unfolding cache_held
back_other n s own at id file good other = by (number_of (NfsParty own) s.names) refl
  where
    name : List ℕ → Name
    name x = NfsParty x

    some : (k : ℕ) → number_of (name own) s.names ≡ Some k → (x : Option Claim) → cache_by s.claims at (Some (parties.Name Nfs k)) ≡ x → delegation_held (all_done n s (gives x)) id file ≡ delegation_held s id file
    some k known None e = refl
    some k known (Some claim) e =
        let found = found_in (is_cache_on at (parties.Name Nfs k)) s.claims claim e in
        let parts = and_parts (is_cache claim.what) ((claim.file == at) && same_parties claim.party (parties.Name Nfs k)) found.1 in
        let here = and_parts (claim.file == at) (same_parties claim.party (parties.Name Nfs k)) parts.1 in
        let fit : IsFitDeed s (GivesBack claim) = (found.0, no_range claim.what parts.0) in
        deed_held n s (GivesBack claim) id file good fit (λ number now.
        ap delegation_in (find_removed (is_cache_on file (parties.Name Nfs number)) claim (caches_of s.claims) (elim (cases_Bool (is_cache_on file (parties.Name Nfs number) claim)) [
          | inr off ↦ off
          | inl on ↦
              let its = and_parts (claim.file == file) (same_parties claim.party (parties.Name Nfs number)) (and_parts (is_cache claim.what) ((claim.file == file) && same_parties claim.party (parties.Name Nfs number)) on).1 in
              let same : number ≡ k = ap number_in (sym (same_parties-true claim.party (parties.Name Nfs number) its.1) ∙ same_parties-true claim.party (parties.Name Nfs k) here.1) in
              let then : number_of (name id) s.names ≡ Some k = ap (number_of (name id)) (sym (given_names n s (Some claim))) ∙ now ∙ ap (λ (m : ℕ). Some m) same in
              let one : name id ≡ name own = (one_number s.names (name own) (name id) k known).0 then in
              absurd (other (same_Some id own (ap (λ (x : Name). id_of (Some x)) one)) (eq-eqb file at (sym (eqb-true claim.file file its.0) ∙ eqb-true claim.file at here.0)))
        ])) ∙ kind_among s.claims file number)
      where
        number_in : Party → ℕ
        number_in (parties.Name protocol m) = m
        number_in (parties.Open m) = m

    by : (x : Option ℕ) → number_of (name own) s.names ≡ x → delegation_held (all_done n s (gives (cache_by s.claims at (option_map (λ number. parties.Name Nfs number) (number_of (name own) s.names))))) id file ≡ delegation_held s id file
    by None e = ap (λ (y : Option ℕ). delegation_held (all_done n s (gives (cache_by s.claims at (option_map (λ number. parties.Name Nfs number) y)))) id file) e
    by (Some k) e = ap (λ (y : Option ℕ). delegation_held (all_done n s (gives (cache_by s.claims at (option_map (λ number. parties.Name Nfs number) y)))) id file) e ∙ some k e (cache_by s.claims at (Some (parties.Name Nfs k))) refl

given_counter : (n : ℕ) (s : CoreState) (x : Option Claim) → (all_done n s (gives x)).counter ≡ s.counter
unfolding give_back
given_counter n s None = refl
given_counter n s (Some claim) = refl

return_done_tied : (n : ℕ) (s : CoreState) (l : NfsLists) (r : StateidRow) (write : Bool) → IsGood s → IsOrderly l → IsIn r l.stateids → r.holder ≡ holders.Delegation write → AreTied s l → AreTied (all_done n s (gives (cache_of s l r))) (freed r.number l)
return_done_tied n s l r write good orderly there holds tied = by (find (is_client r.client true) l.clients) refl
  where
    m : NfsLists
    m = freed r.number l

    set : AreSet s.counter m
    set = less_set s.counter (is_whose (whose.Stateid r.number)) l tied.set

    nobody : find (is_client r.client true) l.clients ≡ None → (id : List ℕ) → number_confirmed l.clients id ≡ Some r.client → ⊥
    nobody none id is = go (find (is_client_named id true) l.clients) refl is
      where
        go : (x : Option ClientRow) → find (is_client_named id true) l.clients ≡ x → option_map (λ (c : ClientRow). c.number) x ≡ Some r.client → ⊥
        go None e f = true≢false (ap is_some (sym f))
        go (Some d) e f =
            let found = found_in (is_client_named id true) l.clients d e in
            let sure = (named_is id d found.1).1 in
            let no = none_in (is_client r.client true) l.clients d none found.0 in
            let is : is_client r.client true d ≡ true = and_from (r.client == d.number) (beq true d.confirmed) (eq-eqb r.client d.number (sym (same_Some d.number r.client f))) (rw sure refl) in
            true≢false (sym is ∙ no)

    -- the client's own, and others'
    mine : (c : ClientRow) → find (is_client r.client true) l.clients ≡ Some c → (id : List ℕ) (file : ℕ) → (let t = all_done n s (gives (cache_held s c.id r.file)) in delegation_held t id file ≡ delegation_kept m id file)
    mine c e id file =
        let found = found_in (is_client r.client true) l.clients c e in
        let number : r.client ≡ c.number = (numbered_is r.client c found.1).0 in
        elim (cases_Bool ((file == r.file) && bytes_eq id c.id)) [
          | inl both ↦
              let parts = and_parts (file == r.file) (bytes_eq id c.id) both in
              let at = eqb-true file r.file parts.0 in
              let is = (bytes_decides id c.id).0 parts.1 in
              let named : number_confirmed l.clients id ≡ Some r.client = ap (number_confirmed l.clients) is ∙ number_is l.clients r.client c tied.set.clients.apart e ∙ ap (λ (k : ℕ). Some k) (sym number) in
              (λ i. delegation_held (all_done n s (gives (cache_held s c.id r.file))) (is i) (at i)) ∙ ap delegation_in (client_cache_goes n s c.id r.file good)
              ∙ sym (ap (delegation_kept m id) at ∙ kept_own l r write orderly there holds id named)
          | inr other ↦
              let apart : (file == r.file) ≡ true → id ≡ c.id → ⊥ = λ f g. true≢false (sym (and_from (file == r.file) (bytes_eq id c.id) f ((bytes_decides id c.id).1 g)) ∙ other) in
              back_other n s c.id r.file id file good (λ g f. apart f g) ∙ tied.delegated id file
              ∙ sym (kept_other l r write orderly there holds id file (λ named f. apart f (id_is l.clients r.client c id tied.set.clients.apart e (named ∙ ap (λ (k : ℕ). Some k) number))))
        ]

    by : (x : Option ClientRow) → find (is_client r.client true) l.clients ≡ x → AreTied (all_done n s (gives (cache_of_client s r.file x))) m
    by None e = record {
      set = set;
      delegated = λ id file. tied.delegated id file ∙ sym (kept_other l r write orderly there holds id file (λ named f. nobody e id named));
    }
    by (Some c) e = record {
      set = subst (λ (k : ℕ). AreSet k m) (sym (given_counter n s (cache_held s c.id r.file))) set;
      delegated = λ id file. mine c e id file;
    }

-- what DELEGRETURN finds is a delegation that is there
record IsFoundRow (l : NfsLists) (r : StateidRow) : Type 0 where
  write : Bool
  there : IsIn r l.stateids
  holds : r.holder ≡ holders.Delegation write

none_returned : (s : CoreState) (l : NfsLists) (stateid : Stateid) → returned s l None stateid ≡ Err statuses.NoFileHandle
unfolding returned state_found
none_returned s l stateid = refl

returned_row : (s : CoreState) (l : NfsLists) (current : Option ℕ) (stateid : Stateid) (r : StateidRow) → returned s l current stateid ≡ Ok r → IsFoundRow l r
returned_row s l None stateid r e = (let no : Err statuses.NoFileHandle ≡ Ok r = sym (none_returned s l stateid) ∙ e in absurd cc)
returned_row s l (Some at) stateid r e =
    let is = (return_exactly s l at stateid r).0 e in
    record { write = is.write; there = (found_in (is_stateid is.number) l.stateids r is.found).0; holds = is.holder }

return_by_tied : (n : ℕ) (s : CoreState) (l : NfsLists) (current : Option ℕ) (stateid : Stateid) (x : Returning) → returned s l current stateid ≡ x → IsGood s → IsOrderly l → AreTied s l → (let d = carried n s l (return_done s l current x) in AreTied d.4 d.3)
return_by_tied n s l current stateid (Err status) e good orderly tied = tied
return_by_tied n s l current stateid (Ok r) e good orderly tied =
    let is = returned_row s l current stateid r e in
    return_done_tied n s l r is.write good orderly is.there is.holds tied

pub return_tied : (n : ℕ) (s : CoreState) (l : NfsLists) (current : Option ℕ) (stateid : Stateid) → IsGood s → IsOrderly l → AreTied s l → (let d = carried n s l (deleg_return s l current stateid) in AreTied d.4 d.3)
unfolding deleg_return
return_tied n s l current stateid good orderly tied =
    renewing_tied n s l (state_client s l stateid) (λ t. return_done t l current (returned t l current stateid)) good tied (λ t well is. return_by_tied n t l current stateid (returned t l current stateid) refl well orderly is)
