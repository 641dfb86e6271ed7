-- A delegation that an OPEN tells is there and held; one that is returned is there no more.
use Rattle.std.proofs.Common.{◌≡◌, ℕ, ◌+◌, Bool, true, false, not, if◌then◌else◌, List, [], ◌∷◌, ◌++◌, map, Option, Some, None, Ok, Err, Result, is_some, refl, sym, ap, subst, ◌∙◌, inl, inr, arith, true≢false}
use Rattle.std.proofs.lemmas.Bool.{cases_Bool, and_parts, and_from, eq-eqb, eqb-true}
use Rattle.std.proofs.lemmas.Bool.Decides.{nat_tests}
use Rattle.std.proofs.lemmas.Option.{same_Some}
use Rattle.std.specs.Bool.{◌==◌}
use Rattle.std.specs.List.{filter, find}
use Rattle.std.specs.Prelude.{◌&&◌, ◌||◌, ◌↔◌, nat_lt}
use Rattle.xl_base.specs.declared.name.Party.{Party}
use Rattle.xl_base.proofs.Members.{in_filter_from}
use Rattle.xl_matrix.specs.Equal.{same_parties}
use Rattle.xl_matrix.specs.declared.claim.Claim.{Claim}
use Rattle.xl_matrix.specs.declared.claim.What.{What}
use Rattle.xl_matrix.specs.declared.claim.What.TheVariants as whats
use Rattle.xl_names.specs.declared.name.Name.{Name}
use Rattle.xl_names.specs.declared.name.Name.TheVariants.{NfsParty}
use Rattle.std.specs.Cmp.Lexicographic.{bytes_decides}
use Rattle.std.specs.Prelude.{bytes_eq}
use Rattle.xl_nfs.specs.Opens.{OpenArgsItem, OpenClaimItem, DelegateCurrent, NamedDelegationItem, Null, Previous}
use Rattle.xl_nfs.specs.declared.basics.Stateid.{Stateid}
use Rattle.xl_nfs.specs.declared.status.NfsStatus.{NfsStatus}
use Rattle.xl_nfs.specs.declared.status.NfsStatus.TheVariants as statuses
use Rattle.xl_nfs_state.specs.Filed.{changed}
use Rattle.xl_nfs_state.specs.Rows.{with_standing}
use Rattle.xl_nfs_state.specs.State.{NfsLists, delegated_on, is_client, is_kept, is_stateid, is_whose, next_owner, without, without_owner}
use Rattle.xl_nfs_state.specs.declared.client.ClientRow.{ClientRow}
use Rattle.xl_nfs_state.specs.declared.kept.KeptRow.{KeptRow}
use Rattle.xl_nfs_state.specs.declared.owner.OwnerRow.{OwnerRow}
use Rattle.xl_nfs_state.specs.declared.owner.SeqidState.{SeqidState}
use Rattle.xl_nfs_state.specs.declared.stateid.Holder.{Holder}
use Rattle.xl_nfs_state.specs.declared.stateid.Holder.TheVariants as holders
use Rattle.xl_nfs_state.specs.declared.stateid.StateidRow.{StateidRow}
use Rattle.xl_nfs_state.specs.declared.stateid.Whose.TheVariants as whose
use Rattle.xl_table.specs.Held.{is_cache}
use Rattle.xl_core.proofs.DeedLaws.{deed_makes}
use Rattle.xl_core.proofs.FrameLaws.{ask_frame}
use Rattle.xl_core.specs.Askers.{party_named}
use Rattle.xl_core.specs.Decide.{ask}
use Rattle.xl_core.proofs.DeedLeaves.{found_in}
use Rattle.xl_core.proofs.DeedLists.{deeds_good}
use Rattle.xl_core.specs.Deeds.{GivesBack, IsFitDeed, all_done, all_told_of}
use Rattle.xl_core.specs.Good.{IsGood}
use Rattle.xl_core.specs.Places.{CacheOf, cleared_by, else_was, held_at, is_cache_on, part_by}
use Rattle.xl_core.specs.Settle.{give_back}
use Rattle.xl_core.specs.State.{CoreState, drawn}
use Rattle.xl_core.specs.declared.ask.Answer.{Answer}
use Rattle.xl_core.specs.declared.ask.Effect.{Effect}
use Rattle.xl_nfs_opens.proofs.CheckLaws.{finds, returns_is}
use Rattle.xl_nfs_opens.specs.Checks.{found, unless, refused_by}
use Rattle.xl_nfs_opens.specs.Closing.{delegates, state_found, state_returned, Returning, cache_of_client, return_done, returned, returned_status}
use Rattle.xl_nfs_laws.specs.StateidNumbers.{AreGivenOut}
use Rattle.xl_nfs_opens.specs.Opens.{all_rooms, answered, asked_fault, file_claimed, is_astray, is_delegation, is_stateid_of, named_file, cache_by, cache_held, delegation_in, can_enter, can_stand, client_in, delegated, delegated_in, delegation_row, delegation_told, either_bits, entered, freed, gives, gives_all, granted_by, granted_more, granted_new, granted_wish, has_room, is_granted, judged, open_as, open_by, open_held, open_judged, open_row, open_seqids, opened_file, opened_told, opener_of, reclaims, repeated, share_ask, stood, wish_of, unless_held, kind_for, type_claimed, wished_kinds, has_program, rights_of, has_none}
use Rattle.xl_nfs_laws.specs.Orderly.{IsDelegated, IsReturned}
use Rattle.xl_nfs_opens.specs.Plans.{Outcome, carried, status_of, told_behind}
use Rattle.xl_nfs_opens.specs.Renewing.{number_of, same_stateid, stateid_of}
use Rattle.xl_nfs_opens.specs.Results.{spelled}
use Rattle.xl_nfs_opens.specs.Seqids.{closed_gone, is_opener, opener_number, seated, seated_by, seated_new, seqid_set}
use Rattle.xl_nfs_opens.specs.declared.opener.Judged.{Judged}
use Rattle.xl_nfs_opens.specs.declared.opener.Judged.TheVariants as judgements
use Rattle.xl_nfs_opens.specs.declared.opener.Opener.{Opener}
use Rattle.xl_nfs_opens.specs.declared.told.Told.{Told}
use Rattle.xl_nfs_opens.specs.declared.told.Told.TheVariants.{Opened}
use Rattle.xl_nfs_laws.proofs.EnteredOpenLaws.{found_behind, kept_stateids}
use Rattle.xl_nfs_laws.proofs.OpenOrderLaws.{none_in}
use Rattle.xl_nfs_laws.proofs.KnownOpenLaws.{free_of, seated_clients}
use Rattle.xl_nfs_laws.proofs.OpenNumberLaws.{entered_given, later_on, next_unused, seated_given, stood_given, deeds_rise, without_given}
use Rattle.xl_plan.proofs.BudgetLaws.{drawn_number}
use Rattle.xl_nfs_opens.proofs.OpenOwn.{all_given, ask_fits, no_range}
use Rattle.xl_nfs_opens.proofs.OpenerLaws.{opener_there}
use Rattle.xl_nfs_opens.proofs.OwnerLaws.{number_gone, own_client}
use Rattle.xl_nfs.specs.declared.opens.DelegationType.{DelegationType}

-- ---- the client has no delegation on the file

module _ {A : Type 0} where
  none_left : (p q : A → Bool) (xs : List A) → find p xs ≡ None → find p (without q xs) ≡ None
  none_left p q xs none = free_of p (without q xs) (λ x here. none_in p xs x none (in_filter_from (λ y. not (q y)) x xs here).0)

  none_changed : (p q : A → Bool) (f : A → A) (xs : List A) → ((x : A) → p (f x) ≡ p x) → find p xs ≡ None → find p (changed q f xs) ≡ None
  none_changed p q f [] same none = refl
  none_changed p q f (x ∷ xs) same none =
      elim (cases_Bool (p x)) [
        | inl e ↦ (let no : Some x ≡ None = rw e at none in absurd (true≢false (ap is_some no)))
        | inr e ↦ elim (cases_Bool (q x)) [
          | inl d ↦ rw d (let fails : p (f x) ≡ false = same x ∙ e in rw fails (rw e at none))
          | inr d ↦ rw d (rw e (none_changed p q f xs same (rw e at none)))
        ]
      ]

  none_behind : (p : A → Bool) (xs : List A) (x : A) → find p xs ≡ None → p x ≡ false → find p (xs ++ x ∷ []) ≡ None
  none_behind p [] x none fails = rw fails refl
  none_behind p (y ∷ ys) x none fails =
      elim (cases_Bool (p y)) [
        | inl e ↦ (let no : Some y ≡ None = rw e at none in absurd (true≢false (ap is_some no)))
        | inr e ↦ rw e (none_behind p ys x (rw e at none) fails)
      ]

abbrev HasNone : ℕ → ℕ → NfsLists → Type 0
HasNone client file l = find (delegated_on client file) l.stateids ≡ None

none_closed : (client file : ℕ) (closed : Option ℕ) (l : NfsLists) → HasNone client file l → HasNone client file (closed_gone closed l)
none_closed client file None l none = none
none_closed client file (Some number) l none = none_left (delegated_on client file) (is_whose (whose.Stateid number)) l.stateids none

none_seated : (client file : ℕ) (o : Opener) (seqids : SeqidState) (l : NfsLists) → HasNone client file l → HasNone client file (seated o seqids l)
unfolding seated
none_seated client file o seqids l none = by (find (is_opener o) l.owners) (next_owner l.owners)
  where
    by : (x : Option OwnerRow) (next : Option ℕ) → HasNone client file (seated_by o seqids l x)
    by (Some r) next = none_closed client file r.seqids.closed (seqid_set r.number seqids l) none
    by None next = new (next_owner l.owners)
      where
        new : (n : Option ℕ) → HasNone client file (seated_new o seqids l n)
        new None = none
        new (Some number) = none

none_entered : (client file number owner at : ℕ) (o : Opener) (a : OpenArgsItem) (l : NfsLists) → HasNone client file l → HasNone client file (entered (open_row number o owner at a) l)
unfolding entered
none_entered client file number owner at o a l none =
    let row = open_row number o owner at a in
    let left : HasNone client file (freed number l) = none_left (delegated_on client file) (is_whose (whose.Stateid number)) l.stateids none in
    elim (cases_Bool (can_enter row (freed number l))) [
      | inl e ↦ rw e (none_behind (delegated_on client file) (freed number l).stateids row left refl)
      | inr e ↦ rw e left
    ]

none_stood : (client file number : ℕ) (r : StateidRow) (access deny : ℕ) (l : NfsLists) → HasNone client file l → HasNone client file (stood number r access deny false l)
none_stood client file number r access deny l none = none_changed (delegated_on client file) (is_stateid number) (with_standing _) l.stateids (λ x. refl) none

pub entered_clients : (r : StateidRow) (l : NfsLists) → (entered r l).clients ≡ l.clients
unfolding entered
entered_clients r l =
    elim (cases_Bool (can_enter r (freed r.number l))) [
      | inl e ↦ rw e refl
      | inr e ↦ rw e refl
    ]

-- ---- a delegation that comes is there

delegation_there : (s : CoreState) (o : Opener) (file : ℕ) (write : Bool) (l : NfsLists) → AreGivenOut s.counter l → HasNone o.client file l → is_some (find (is_client o.client true) l.clients) ≡ true → find (is_stateid (s.counter + 1)) (delegated s o file (Some write) l).stateids ≡ Some (delegation_row (s.counter + 1) o file write)
unfolding delegated_in
delegation_there s o file write l given none client =
    let row = delegation_row (s.counter + 1) o file write in
    let new : find (is_stateid (s.counter + 1)) l.stateids ≡ None = next_unused s l given in
    let stands : can_stand row l ≡ true = rw (new, none, client) refl in
    rw stands (found_behind row l.stateids new)

-- ---- what is told of it

abbrev given_in : Told → Option (Stateid × Bool)
given_in (Opened stateid flags given) = given
given_in _ = None

same_given : (a b : Stateid × Bool) → Some a ≡ Some b → a ≡ b
same_given a b e = same_Some a b e

-- where it tells of a delegation that is there and held
abbrev Gives : Opener → Stateid → Bool → Outcome → Type 0
Gives o given write done = (stateid : Stateid) (flags : ℕ) → done.0 ≡ Opened stateid flags (Some (given, write)) → IsDelegated o given write done

drawn_cache : (s : CoreState) (id : List ℕ) (file : ℕ) → delegation_in (cache_held (drawn s) id file) ≡ delegation_in (cache_held s id file)
unfolding drawn cache_held
drawn_cache s id file = refl

new_delegated : (n : ℕ) (s : CoreState) (l : NfsLists) (current : Option ℕ) (o : Opener) (a : OpenArgsItem) (file : ℕ) (confirmed : Bool) (granted : Option Bool) (given : Stateid) (write : Bool) → AreGivenOut s.counter l → HasNone o.client file l → is_some (find (is_client o.client true) l.clients) ≡ true → delegation_in (cache_held s o.id file) ≡ granted
    → Gives o given write (carried n s l (granted_new s l o a file confirmed granted))
new_delegated n s l current o a file confirmed None given write out none client held = λ stateid flags told. absurd (true≢false (ap is_some (sym (ap given_in told))))
new_delegated n s l current o a file confirmed (Some w) given write out none client held = λ stateid flags told.
    let u = drawn s in
    let row = open_row (s.counter + 1) o (opener_number o l) file a in
    let there : NfsLists = seated o (open_seqids a confirmed) l in
    let m : NfsLists = entered row there in
    let whole : NfsLists = delegated u o file (Some w) m in
    let said : (stateid_of (drawn u) (u.counter + 1) 1, w) ≡ (given, write) = same_given (stateid_of (drawn u) (u.counter + 1) 1, w) (given, write) (ap given_in told) in
    let numbered : AreGivenOut u.counter m = entered_given u.counter row there (omega (arith, drawn_number s)) (seated_given u.counter o (open_seqids a confirmed) l (later_on s.counter u.counter l (omega (arith, drawn_number s)) out)) in
    let clients : m.clients ≡ l.clients = entered_clients row there ∙ seated_clients o (open_seqids a confirmed) l in
    record {
      row = delegation_row (u.counter + 1) o file w;
      found = ap (λ (ss : List StateidRow). find (is_stateid (u.counter + 1)) ss) (kept_stateids (opener_number o l) (spelled 18 (opened_told (drawn u) (s.counter + 1) 1 confirmed (delegation_told u (Some w)))) whole)
          ∙ delegation_there u o file w m numbered (none_entered o.client file (s.counter + 1) (opener_number o l) file o a there (none_seated o.client file o (open_seqids a confirmed) l none)) (ap (λ (cs : List ClientRow). is_some (find (is_client o.client true) cs)) clients ∙ client);
      named = sym (ap (λ (x : Stateid × Bool). x.0) said);
      client = refl;
      file = refl;
      holder = ap (λ (x : Stateid × Bool). delegation x.1) said;
      held = drawn_cache u o.id file ∙ drawn_cache s o.id file ∙ held ∙ ap (λ (x : Stateid × Bool). Some x.1) said;
    }
  where
    delegation : Bool → Holder
    delegation b = holders.Delegation b

more_delegated : (n : ℕ) (s : CoreState) (l : NfsLists) (current : Option ℕ) (o : Opener) (a : OpenArgsItem) (file : ℕ) (confirmed : Bool) (granted : Option Bool) (r : StateidRow) (given : Stateid) (write : Bool) → AreGivenOut s.counter l → HasNone o.client file l → is_some (find (is_client o.client true) l.clients) ≡ true → delegation_in (cache_held s o.id file) ≡ granted
    → Gives o given write (carried n s l (granted_more s l o a file confirmed granted r))
more_delegated n s l current o a file confirmed None r given write out none client held = λ stateid flags told. absurd (true≢false (ap is_some (sym (ap given_in told))))
more_delegated n s l current o a file confirmed (Some w) r given write out none client held = λ stateid flags told.
    let after : NfsLists = stood r.number r (either_bits r.standing.access a.access) (either_bits r.standing.deny a.deny) false l in
    let m : NfsLists = seated o (open_seqids a confirmed) after in
    let whole : NfsLists = delegated s o file (Some w) m in
    let said : (stateid_of (drawn s) (s.counter + 1) 1, w) ≡ (given, write) = same_given (stateid_of (drawn s) (s.counter + 1) 1, w) (given, write) (ap given_in told) in
    let numbered : AreGivenOut s.counter m = seated_given s.counter o (open_seqids a confirmed) after (stood_given s.counter r.number r (either_bits r.standing.access a.access) (either_bits r.standing.deny a.deny) false l out) in
    record {
      row = delegation_row (s.counter + 1) o file w;
      found = ap (λ (ss : List StateidRow). find (is_stateid (s.counter + 1)) ss) (kept_stateids (opener_number o l) (spelled 18 (opened_told (drawn s) r.number _ confirmed (delegation_told s (Some w)))) whole)
          ∙ delegation_there s o file w m numbered (none_seated o.client file o (open_seqids a confirmed) after (none_stood o.client file r.number r (either_bits r.standing.access a.access) (either_bits r.standing.deny a.deny) l none)) (ap (λ (cs : List ClientRow). is_some (find (is_client o.client true) cs)) (seated_clients o (open_seqids a confirmed) after) ∙ client);
      named = sym (ap (λ (x : Stateid × Bool). x.0) said);
      client = refl;
      file = refl;
      holder = ap (λ (x : Stateid × Bool). delegation x.1) said;
      held = drawn_cache s o.id file ∙ held ∙ ap (λ (x : Stateid × Bool). Some x.1) said;
    }
  where
    delegation : Bool → Holder
    delegation b = holders.Delegation b

granted_delegated : (n : ℕ) (s : CoreState) (l : NfsLists) (current : Option ℕ) (o : Opener) (a : OpenArgsItem) (file : ℕ) (confirmed : Bool) (granted : Option Bool) (x : Option StateidRow) (given : Stateid) (write : Bool) → AreGivenOut s.counter l → HasNone o.client file l → is_some (find (is_client o.client true) l.clients) ≡ true → delegation_in (cache_held s o.id file) ≡ granted
    → Gives o given write (carried n s l (granted_by s l o a file confirmed granted x))
granted_delegated n s l current o a file confirmed granted None given write out none client held = new_delegated n s l current o a file confirmed granted given write out none client held
granted_delegated n s l current o a file confirmed granted (Some r) given write out none client held = more_delegated n s l current o a file confirmed granted r given write out none client held

-- where none was granted none is told
no_delegation : (n : ℕ) (s : CoreState) (l : NfsLists) (current : Option ℕ) (o : Opener) (a : OpenArgsItem) (file : ℕ) (confirmed : Bool) (x : Option StateidRow) (given : Stateid) (write : Bool) → Gives o given write (carried n s l (granted_by s l o a file confirmed None x))
no_delegation n s l current o a file confirmed None given write = λ stateid flags told. absurd (true≢false (ap is_some (sym (ap given_in told))))
no_delegation n s l current o a file confirmed (Some r) given write = λ stateid flags told. absurd (true≢false (ap is_some (sym (ap given_in told))))

-- ---- an OPEN

answered_delegated : (n : ℕ) (s : CoreState) (l : NfsLists) (current : Option ℕ) (o : Opener) (a : OpenArgsItem) (file : ℕ) (confirmed : Bool) (wish : Option Bool) (answer : Answer) (given : Stateid) (write : Bool) → ((w : Bool) → wish ≡ Some w → AreGivenOut s.counter l × HasNone o.client file l) → is_some (find (is_client o.client true) l.clients) ≡ true
    → Gives o given write (carried n s l (answered l current o a file confirmed wish answer s))
answered_delegated n s l current o a file confirmed wish answer given write each client =
    elim (cases_Bool (is_granted answer)) [
      | inr e ↦ rw e (λ stateid flags told. absurd cc)
      | inl e ↦ rw e (by wish refl)
    ]
  where
    by : (x : Option Bool) → wish ≡ x → Gives o given write (carried n s l (granted_by s l o a file (confirmed || reclaims a.claim) (granted_wish s o file x) (open_held l o file)))
    by None d = no_delegation n s l current o a file (confirmed || reclaims a.claim) (open_held l o file) given write
    by (Some w) d =
        let parts = each w d in
        granted_delegated n s l current o a file (confirmed || reclaims a.claim) (delegation_in (cache_held s o.id file)) (open_held l o file) given write parts.0 parts.1 client refl

delegated_behind : (o : Opener) (given : Stateid) (write : Bool) (effects : List Effect) (done : Outcome) → Gives o given write done → Gives o given write (told_behind effects done)
delegated_behind o given write effects done gives = λ stateid flags told. (let is = gives stateid flags told in record { row = is.row; found = is.found; named = is.named; client = is.client; file = is.file; holder = is.holder; held = is.held })

-- one that is wished for isn't there before
wish_free : (s : CoreState) (l : NfsLists) (o : Opener) (a : OpenArgsItem) (confirmed : Bool) (file : ℕ) (w : Bool) → wish_of s l o a confirmed file ≡ Some w → HasNone o.client file l
unfolding wish_of
wish_free s l o a confirmed file w e = by (kind_for (find (is_client o.client true) l.clients) a confirmed a.claim) e
  where
    none_of : (x : Option StateidRow) → not (is_some x) ≡ true → x ≡ None
    none_of None h = refl
    none_of (Some r) h = absurd (true≢false (sym h))

    by : (kind : Option Bool) → unless_held s l o file kind ≡ Some w → HasNone o.client file l
    by None d = absurd (true≢false (ap is_some (sym d)))
    by (Some write) d =
        elim (cases_Bool (has_none s l o file)) [
          | inr held ↦ (let no : None ≡ Some w = rw held at d in absurd (true≢false (ap is_some (sym no))))
          | inl free ↦ none_of (find (delegated_on o.client file) l.stateids) (and_parts (not (is_some (cache_held s o.id file))) (not (is_some (find (delegated_on o.client file) l.stateids))) free).1
        ]

by_delegated : (n others : ℕ) (s : CoreState) (l : NfsLists) (current : Option ℕ) (o : Opener) (a : OpenArgsItem) (confirmed : Bool) (given : Stateid) (write : Bool) (r : Result ℕ NfsStatus) → IsGood s → AreGivenOut s.counter l → is_some (find (is_client o.client true) l.clients) ≡ true
    → Gives o given write (carried n s l (open_by others s l current o a confirmed r))
by_delegated n others s l current o a confirmed given write (Err status) good out client = λ stateid flags told. absurd cc
by_delegated n others s l current o a confirmed given write (Ok file) good out client =
    let wish = wish_of s l o a confirmed file in
    let r = ask n all_rooms s (share_ask wish o a file) in
    let frame = ask_frame n all_rooms s (share_ask wish o a file) good (ask_fits wish o a file).party in
    elim (cases_Bool (has_room others l o file)) [
      | inr e ↦ rw e (λ stateid flags told. absurd cc)
      | inl e ↦ rw e (delegated_behind o given write r.1 (carried n r.2 l (answered l current o a file confirmed wish r.0 r.2))
          (answered_delegated n r.2 l current o a file confirmed wish r.0 given write (λ w d. (later_on s.counter r.2.counter l (omega (arith, frame.counter)) out, wish_free s l o a confirmed file w d)) client))
    ]

as_delegated : (n : ℕ) (files : List (List ℕ)) (others : ℕ) (s : CoreState) (l : NfsLists) (current : Option ℕ) (at : ℕ) (o : Opener) (a : OpenArgsItem) (confirmed : Bool) (given : Stateid) (write : Bool) → IsGood s → AreGivenOut s.counter l → is_some (find (is_client o.client true) l.clients) ≡ true
    → Gives o given write (carried n s l (open_as files others s l current at o a confirmed))
unfolding open_as
as_delegated n files others s l current at o a confirmed given write good out client = by_delegated n others s l current o a confirmed given write (opened_file files s l o.client at a) good out client

repeat_delegated : (n : ℕ) (s : CoreState) (l : NfsLists) (current : Option ℕ) (o : Opener) (given : Stateid) (write : Bool) (k : Option KeptRow) → Gives o given write (carried n s l (repeated s l current k))
repeat_delegated n s l current o given write None = λ stateid flags told. absurd cc
repeat_delegated n s l current o given write (Some k) = λ stateid flags told. absurd cc

judged_delegated : (n : ℕ) (files : List (List ℕ)) (others : ℕ) (s : CoreState) (l : NfsLists) (current : Option ℕ) (at : ℕ) (o : Opener) (a : OpenArgsItem) (given : Stateid) (write : Bool) (j : Judged) → IsGood s → AreGivenOut s.counter l → is_some (find (is_client o.client true) l.clients) ≡ true
    → Gives o given write (carried n s l (open_judged files others s l current at o a j))
judged_delegated n files others s l current at o a given write judgements.Bad good out client = λ stateid flags told. absurd cc
judged_delegated n files others s l current at o a given write (judgements.Repeats number) good out client = repeat_delegated n s l current o given write (find (is_kept number) l.kept)
judged_delegated n files others s l current at o a given write (judgements.Anew number) good out client =
    let rows = filter (is_whose (whose.Owner number)) l.stateids in
    let deeds = gives_all s o rows in
    let t = all_done n s deeds in
    let m = without_owner number l in
    let given_back = all_given n s (λ _. Unit {0}) o rows good tt in
    let left : IsGood t = deeds_good n s deeds good given_back.0 in
    let up = deeds_rise n s (λ _. Unit {0}) deeds good given_back.0 given_back.1 in
    let still : AreGivenOut t.counter m = later_on s.counter t.counter m (omega (arith, up)) (without_given s.counter number l out) in
    delegated_behind o given write (all_told_of n s deeds) (carried n t m (open_as files others t m current at o a false)) (as_delegated n files others t m current at o a false given write left still client)
judged_delegated n files others s l current at o a given write judgements.New good out client = as_delegated n files others s l current at o a false given write good out client
judged_delegated n files others s l current at o a given write judgements.Next good out client = as_delegated n files others s l current at o a true given write good out client

pub told_delegated : (n : ℕ) (files : List (List ℕ)) (others : ℕ) (s : CoreState) (l : NfsLists) (current : Option ℕ) (at : ℕ) (c : ClientRow) (a : OpenArgsItem) (stateid given : Stateid) (flags : ℕ) (write : Bool) → IsGood s → AreGivenOut s.counter l → client_in s l a.owner.clientid ≡ Some c → (carried n s l (open_judged files others s l current at (opener_of c a) a (judged l (opener_of c a) a.seqid))).0 ≡ Opened stateid flags (Some (given, write))
    → IsDelegated (opener_of c a) given write (carried n s l (open_judged files others s l current at (opener_of c a) a (judged l (opener_of c a) a.seqid)))
told_delegated n files others s l current at c a stateid given flags write good out found told =
    judged_delegated n files others s l current at (opener_of c a) a given write (judged l (opener_of c a) a.seqid) good out (opener_there s l a c (opener_of c a) (sym found) refl) stateid flags told

-- ---- one that is returned

pub returned_gone : (n : ℕ) (s : CoreState) (l : NfsLists) (current : Option ℕ) (r : StateidRow) → find (is_stateid r.number) (carried n s l (return_done s l current (Ok r))).3.stateids ≡ None
returned_gone n s l current r = number_gone r.number l.stateids

pub no_map : {A B : Type 0} (f : A → B) (xs : List A) → map f xs ≡ [] → xs ≡ []
no_map f [] e = refl
no_map f (x ∷ xs) e = absurd cc

no_filter : {A : Type 0} (p : A → Bool) (xs : List A) → filter p xs ≡ [] → find p xs ≡ None
no_filter p [] e = refl
no_filter {A = A} p (x ∷ xs) e =
    elim (cases_Bool (p x)) [
      | inl h ↦ absurd (filled x (filter p xs) (rw h at e))
      | inr h ↦ rw h (no_filter p xs (rw h at e))
    ]
  where
    filled : (y : A) (ys : List A) → y ∷ ys ≡ [] → ⊥
    filled y ys f = cc

-- a party has one cache on a file: it goes
cache_goes : (n : ℕ) (s : CoreState) (file : ℕ) (party : Party) (x : Option Claim) → IsGood s → cache_by s.claims file (Some party) ≡ x → cache_by (all_done n s (gives x)).claims file (Some party) ≡ None
cache_goes n s file party None good e = e
cache_goes n s file party (Some claim) good e =
    let found = found_in (is_cache_on file party) s.claims claim e in
    let parts = and_parts (is_cache claim.what) ((claim.file == file) && same_parties claim.party party) found.1 in
    let fit : IsFitDeed s (GivesBack claim) = (found.0, no_range claim.what parts.0) in
    no_filter (is_cache_on file party) (give_back s claim).1.claims (no_map (λ (c : Claim). c.what) (filter (is_cache_on file party) (give_back s claim).1.claims)
    (deed_makes n s (GivesBack claim) (CacheOf file party) good fit ∙ rw found.1 (cleared claim.what parts.0)))
  where
    cleared : (w : What) → is_cache w ≡ true → else_was (cleared_by (part_by w (CacheOf file party))) (held_at s (CacheOf file party)) ≡ []
    cleared (whats.Cache kind running) h = refl
    cleared (whats.Share access deny) h = absurd (true≢false (sym h))
    cleared (whats.Range extent exclusive) h = absurd (true≢false (sym h))

pub given_names : (n : ℕ) (s : CoreState) (x : Option Claim) → (all_done n s (gives x)).names ≡ s.names
unfolding give_back
given_names n s None = refl
given_names n s (Some claim) = refl

pub client_cache_goes : (n : ℕ) (s : CoreState) (id : List ℕ) (file : ℕ) → IsGood s → cache_held (all_done n s (gives (cache_held s id file))) id file ≡ None
unfolding cache_held
client_cache_goes n s id file good = ap (λ (names : List Name). cache_by t.claims file (party_named names (NfsParty id))) (given_names n s (cache_by s.claims file (party_named s.names (NfsParty id)))) ∙ by (party_named s.names (NfsParty id)) refl
  where
    t : CoreState
    t = all_done n s (gives (cache_by s.claims file (party_named s.names (NfsParty id))))

    by : (p : Option Party) → party_named s.names (NfsParty id) ≡ p → cache_by t.claims file p ≡ None
    by None e = refl
    by (Some party) e = cache_goes n s file party (cache_by s.claims file (party_named s.names (NfsParty id))) good (ap (λ (q : Option Party). cache_by s.claims file q) (sym e))

pub returned_uncached : (n : ℕ) (s : CoreState) (l : NfsLists) (current : Option ℕ) (r : StateidRow) (c : ClientRow) → IsGood s → find (is_client r.client true) l.clients ≡ Some c → cache_held (carried n s l (return_done s l current (Ok r))).4 c.id r.file ≡ None
returned_uncached n s l current r c good found =
    ap (λ (x : Option ClientRow). cache_held (all_done n s (gives (cache_of_client s r.file x))) c.id r.file) found ∙ client_cache_goes n s c.id r.file good

-- ---- the statuses of DELEGRETURN

return_ok : (n : ℕ) (s : CoreState) (l : NfsLists) (current : Option ℕ) (x : Returning) → status_of (carried n s l (return_done s l current x)).0 ≡ returned_status x
return_ok n s l current (Ok r) = refl
return_ok n s l current (Err status) = refl

pub return_told : (n : ℕ) (s : CoreState) (l : NfsLists) (current : Option ℕ) (stateid : Stateid) → status_of (carried n s l (return_done s l current (returned s l current stateid))).0 ≡ returned_status (returned s l current stateid)
return_told n s l current stateid = return_ok n s l current (returned s l current stateid)

delegates_is : (h : Holder) → delegates h ≡ true → (write : Bool) × (h ≡ holders.Delegation write)
delegates_is (holders.Delegation write) e = (write, refl)
delegates_is (holders.Open owner) e = absurd (true≢false (sym e))
delegates_is (holders.Lock owner under opener) e = absurd (true≢false (sym e))

return_forth : (s : CoreState) (l : NfsLists) (at : ℕ) (stateid : Stateid) (r : StateidRow) → returned s l (Some at) stateid ≡ Ok r → IsReturned s l at stateid r
unfolding returned
return_forth s l at stateid r e = finds (λ (x : Returning). state_returned stateid.seqid x ≡ Ok r → IsReturned s l at stateid r) s l (Some at) stateid (λ _ f. absurd cc) (λ _ _ f. absurd cc) (λ f. absurd cc) by e
  where
    by : (x : StateidRow) → Some at ≡ Some x.file → number_of s stateid.other ≡ Some x.number → find (is_stateid x.number) l.stateids ≡ Some x → state_returned stateid.seqid (Ok x) ≡ Ok r → IsReturned s l at stateid r
    by x file named there f =
        let is = returns_is x r stateid.seqid f in
        let holds = delegates_is x.holder is.2 in
        subst (λ (y : StateidRow). IsReturned s l at stateid y) is.0 (record { number = x.number; write = holds.0; named = named; found = there; file = sym (same_Some at x.file file); live = is.1; holder = holds.1; seqid = is.3 })

return_back : (s : CoreState) (l : NfsLists) (at : ℕ) (stateid : Stateid) (r : StateidRow) → IsReturned s l at stateid r → returned s l (Some at) stateid ≡ Ok r
unfolding returned state_found
return_back s l at stateid r is = rw is.named (rw is.found (rw (eq-eqb r.file at is.file) (rw is.live (rw is.holder (rw is.seqid (rw (never r.standing.seqid) refl))))))
  where
    never : (m : ℕ) → nat_lt m m ≡ false
    never m = grind (arith, nat_tests)

pub return_exactly : (s : CoreState) (l : NfsLists) (at : ℕ) (stateid : Stateid) (r : StateidRow) → (returned s l (Some at) stateid ≡ Ok r) ↔ IsReturned s l at stateid r
return_exactly s l at stateid r = (return_forth s l at stateid r, return_back s l at stateid r)

-- ---- a claim by a delegation

stateids_are : (a b : Stateid) → same_stateid a b ≡ true → a ≡ b
stateids_are a b e =
    let parts = and_parts (a.seqid == b.seqid) (bytes_eq a.other b.other) e in
    let other : a.other ≡ b.other = (bytes_decides a.other b.other).0 parts.1 in
    λ i. record { seqid = eqb-true a.seqid b.seqid parts.0 i; other = other i }

stateid_itself : (a b : Stateid) → a ≡ b → same_stateid a b ≡ true
stateid_itself a b e = subst (λ (x : Stateid). same_stateid a x ≡ true) e (and_from (a.seqid == a.seqid) (bytes_eq a.other a.other) (eq-eqb a.seqid a.seqid refl) (own_client a.other))

claim_forth : (s : CoreState) (stateid : Stateid) (o : Option StateidRow) → is_stateid_of s stateid o ≡ true → (r : StateidRow) × (o ≡ Some r) × (stateid ≡ stateid_of s r.number r.standing.seqid)
claim_forth s stateid None e = absurd (true≢false (sym e))
claim_forth s stateid (Some r) e = (r, refl, stateids_are stateid (stateid_of s r.number r.standing.seqid) e)

claim_back : (s : CoreState) (stateid : Stateid) (o : Option StateidRow) (r : StateidRow) → o ≡ Some r → stateid ≡ stateid_of s r.number r.standing.seqid → is_stateid_of s stateid o ≡ true
claim_back s stateid o r found is = ap (λ (x : Option StateidRow). is_stateid_of s stateid x) found ∙ stateid_itself stateid (stateid_of s r.number r.standing.seqid) is

pub claim_exactly : (s : CoreState) (l : NfsLists) (client file : ℕ) (stateid : Stateid) → (is_delegation s l client file stateid ≡ true) ↔ ((r : StateidRow) × (find (delegated_on client file) l.stateids ≡ Some r) × (stateid ≡ stateid_of s r.number r.standing.seqid))
claim_exactly s l client file stateid = (claim_forth s stateid (find (delegated_on client file) l.stateids), λ x. claim_back s stateid (find (delegated_on client file) l.stateids) x.0 x.1 x.2)

pub claim_opens : (files : List (List ℕ)) (s : CoreState) (l : NfsLists) (client at file : ℕ) (a : OpenArgsItem) (d : NamedDelegationItem) → asked_fault at a ≡ None → a.claim ≡ DelegateCurrent d → named_file files d.name ≡ Some file
    → opened_file files s l client at a ≡ (if is_delegation s l client file d.stateid then Ok file else Err statuses.BadStateid)
unfolding opened_file
claim_opens files s l client at file a d pass is named =
    ap (λ (x : Option NfsStatus). unless x Err (found (file_claimed files at a.claim) (Err statuses.NoEnt) (λ f. refused_by Err ((is_astray s l client f a.claim, statuses.BadStateid) ∷ []) (Ok f)))) pass
    ∙ ap (λ (c : OpenClaimItem). found (file_claimed files at c) (Err statuses.NoEnt) (λ f. refused_by Err ((is_astray s l client f c, statuses.BadStateid) ∷ []) (Ok f))) is
    ∙ ap (λ (x : Option ℕ). found x (Err statuses.NoEnt) (λ f. refused_by Err ((not (is_delegation s l client f d.stateid), statuses.BadStateid) ∷ []) (Ok f))) named
    ∙ elim (cases_Bool (is_delegation s l client file d.stateid)) [
      | inl e ↦ rw e refl
      | inr e ↦ rw e refl
    ]

-- ---- what an OPEN wishes for

unless_is : (s : CoreState) (l : NfsLists) (o : Opener) (file : ℕ) (kind : Option Bool) → unless_held s l o file kind ≡ (if has_none s l o file then kind else None)
unless_is s l o file None = elim (cases_Bool (has_none s l o file)) [ inl e ↦ rw e refl | inr e ↦ rw e refl ]
unless_is s l o file (Some write) = refl

pub wish_reclaims : (s : CoreState) (l : NfsLists) (o : Opener) (a : OpenArgsItem) (confirmed : Bool) (file : ℕ) (type : DelegationType) → a.claim ≡ Previous type → wish_of s l o a confirmed file ≡ (if has_none s l o file then type_claimed type else None)
unfolding wish_of
wish_reclaims s l o a confirmed file type e =
    ap (λ (claim : OpenClaimItem). unless_held s l o file (kind_for (find (is_client o.client true) l.clients) a confirmed claim)) e ∙ unless_is s l o file (type_claimed type)

pub wish_names : (s : CoreState) (l : NfsLists) (o : Opener) (a : OpenArgsItem) (confirmed : Bool) (file : ℕ) (name : List ℕ) → a.claim ≡ Null name
    → wish_of s l o a confirmed file ≡ (if has_none s l o file then (if confirmed && has_program (find (is_client o.client true) l.clients) then Some (rights_of a.access).w else None) else None)
unfolding wish_of
wish_names s l o a confirmed file name e =
    let kind : Option Bool = if confirmed && has_program (find (is_client o.client true) l.clients) then Some (rights_of a.access).w else None in
    ap (λ (claim : OpenClaimItem). unless_held s l o file (kind_for (find (is_client o.client true) l.clients) a confirmed claim)) e ∙ unless_is s l o file kind

share_wish : (o : Opener) (a : OpenArgsItem) (file : ℕ) (wish : Option Bool) → ((share_ask wish o a file).wish ≡ wished_kinds wish) × ((share_ask wish o a file).reclaim ≡ reclaims a.claim)
unfolding share_ask
share_wish o a file wish = (refl, refl)

-- the wish of a reclaim is in the same ask as its share
pub wish_asks : (s : CoreState) (l : NfsLists) (o : Opener) (a : OpenArgsItem) (confirmed : Bool) (file : ℕ) (type : DelegationType) → a.claim ≡ Previous type → has_none s l o file ≡ true
    → ((share_ask (wish_of s l o a confirmed file) o a file).wish ≡ wished_kinds (type_claimed type)) × ((share_ask (wish_of s l o a confirmed file) o a file).reclaim ≡ true)
wish_asks s l o a confirmed file type e free =
    let wish = wish_of s l o a confirmed file in
    let is : wish ≡ type_claimed type = wish_reclaims s l o a confirmed file type e ∙ ap (λ (b : Bool). if b then type_claimed type else None) free in
    ((share_wish o a file wish).0 ∙ ap wished_kinds is, (share_wish o a file wish).1 ∙ ap reclaims e)
