-- What NFSv4's front remembers and what the core holds are tied at each free moment.
use Rattle.std.proofs.Common.{◌≡◌, ◌⊎◌, ℕ, ◌≤◌, Bool, true, false, if◌then◌else◌, List, [], ◌∷◌, ◌++◌, length, map, Option, Some, None, refl, sym, ap, subst, ◌∙◌, inl, inr, arith, append-nil}
use Rattle.std.specs.Prelude.{◌==◌, nat_lt, IfSome, option_map}
use Rattle.std.specs.List.{AllByRecursion, filter}
use Rattle.std.specs.Option.{option_and_then}
use Rattle.std.proofs.lemmas.Bool.{cases_Bool, true≢false}
use Rattle.xl_base.proofs.Members.{all_weaker, in_append_left, in_append_right}
use Rattle.xl_base.specs.Lists.{IsIn}
use Rattle.xl_base.specs.Stable.{Stable, raised}
use Rattle.xl_base.specs.declared.event.Event.{Event}
use Rattle.xl_base.specs.declared.event.Event.TheVariants.{Open, Message, End, Called, Tick, Restart}
use Rattle.xl_base.specs.declared.event.Kind.{Kind}
use Rattle.xl_base.specs.declared.event.Kind.TheVariants.{Rpc, Smb}
use Rattle.xl_base.specs.declared.event.Moment.{Moment}
use Rattle.xl_base.specs.declared.journal.Entry.{Entry}
use Rattle.xl_base.specs.declared.journal.Exports.{Exports}
use Rattle.xl_base.specs.declared.journal.Head.{Head}
use Rattle.xl_base.specs.declared.name.Party.{Party}
use Rattle.xl_base.specs.declared.name.Party.TheVariants as parties
use Rattle.xl_base.specs.declared.name.Protocol.{Protocol}
use Rattle.xl_base.specs.declared.name.Protocol.TheVariants as protocols
use Rattle.xl_matrix.specs.declared.claim.CacheKind.{CacheKind}
use Rattle.xl_matrix.specs.declared.claim.Claim.{Claim}
use Rattle.xl_matrix.specs.declared.claim.Rwd.{Rwd}
use Rattle.xl_names.specs.Names.{number_of, protocol_of}
use Rattle.xl_names.specs.declared.name.Name.{Name}
use Rattle.xl_nlm.specs.Items as calls
use Rattle.xl_nfs_state.specs.State.{NfsLists}
use Rattle.xl_nfs_state.specs.declared.client.ClientRow.{ClientRow}
use Rattle.xl_nfs_state.specs.declared.stateid.StateidRow.{StateidRow}
use Rattle.xl_programs.specs.Programs.{RequestItem, IncomingItem, Unanswered, Refused, Asked, incoming_at}
use Rattle.xl_programs.specs.declared.program.Program.{Program}
use Rattle.xl_programs.specs.declared.program.Program.TheVariants.{Nlm, Nfs}
use Rattle.xl_smb_state.proofs.RowLaws.{none_some, same_Some}
use Rattle.xl_smb_state.specs.State.{Lists}
use Rattle.xl_table.specs.declared.leaver.Leaver.TheVariants as leavers
use Rattle.xl_wait.specs.declared.waiter.Rooms.{Rooms}
use Rattle.xl_wait.specs.declared.waiter.Waiter.{Waiter}
use Rattle.xl_core.proofs.DeedLaws.{deed_good}
use Rattle.xl_core.proofs.DueLaws.{due_is}
use Rattle.xl_core.proofs.FrameLaws.{ask_quiet, ended_expires, expired_both}
use Rattle.xl_core.proofs.GoodLaws.{begun_good}
use Rattle.xl_core.proofs.SettleLaws.{turn_is}
use Rattle.xl_core.proofs.WayLaws.{Begins, NoWay, way_is}
use Rattle.xl_core.specs.Askers.{asked_claims, asked_whats, known_party, party_named}
use Rattle.xl_core.specs.BreakAnswers.{ack, client_of as client_by}
use Rattle.xl_core.specs.BreaksBegun.{begun_told, breaks_begun, breaks_in_order, call_of, last_of}
use Rattle.xl_core.specs.Causes.{IsServed, Answered, WaitsOn, IsTurn}
use Rattle.xl_core.specs.Clients.{IsOf, IsOfSome}
use Rattle.xl_core.specs.Decide.{ask, plea_of, way}
use Rattle.xl_core.specs.Deeds.{Deed, Asks, GivesBack, Weakens, Acks, Cancels, Ends, Closes, Serves, Draws, Advances, Lapses, Renews, Expires, FailsStore, EndsGrace, all_done, all_told_of, done, given, tick_deeds, turned, AreFit, IsFitDeed}
use Rattle.xl_core.specs.Frames.{who_expired}
use Rattle.xl_core.specs.Good.{IsGood}
use Rattle.xl_core.specs.Leases.{Lease}
use Rattle.xl_core.specs.Settle.{cancel, close_open, give_back, gone, plea_again, settle, told_of_one, told_with, waits_with, way_again, weaken}
use Rattle.xl_core.specs.State.{CoreState, started, step_begun}
use Rattle.xl_core.specs.Ticks.{lapse, lapsed_by, renew, tick}
use Rattle.xl_core.specs.Told.{party_protocol, told_to}
use Rattle.xl_core.specs.Ways.{made_way}
use Rattle.xl_core.specs.declared.ask.Answer.{Answer}
use Rattle.xl_core.specs.declared.ask.Effect.{Effect}
use Rattle.xl_core.specs.declared.ask.Effect.TheVariants.{Begun, Served, Cancelled, Expired}
use Rattle.xl_core.specs.declared.ask.Who.{Who}
use Rattle.xl_core.specs.declared.ask.Who.TheVariants as who
use Rattle.xl_core.specs.declared.lease.Times.{Times}
use Rattle.xl_plan.proofs.PlanLaws.{at_each}
use Rattle.xl_front_nlm.proofs.DoesLaws as nlm
use Rattle.xl_front_nlm.specs.Answers.{refusal_deeds}
use Rattle.xl_front_nlm.specs.FrontNlm.{call_in, nlm_client, nlm_deeds}
use Rattle.xl_front_nlm.specs.Serving.{client_of}
use Rattle.xl_front_nlm.specs.State.{FrontState}
use Rattle.xl_front_nlm.specs.declared.grant.Grant.{Grant}
use Rattle.xl_front_nfs.specs.FrontNfs.{nfs_step}
use Rattle.xl_front_nfs.specs.State.{FrontNfs, empty_nfs_front, nfs_shown, nfs_tick}
use Rattle.xl_nfs_opens.specs.Opens.{cache_held}
use Rattle.xl_nfs_laws.proofs.LeaseLaws.{expired_leased, expires_leased, request_leased, start_leased, tick_leased}
use Rattle.xl_nfs_laws.proofs.OtherDeedLaws.{lapsed_held, other_held}
use Rattle.xl_nfs_laws.proofs.RequestDelegationLaws.{expire_tied, expired_tied, lapse_tied, request_tied, start_tied, tick_tied}
use Rattle.xl_nfs_laws.proofs.RequestOrderLaws.{request_orderly, shown_orderly, tick_orderly}
use Rattle.xl_nfs_laws.proofs.StillDelegatedLaws.{later_set}
use Rattle.xl_nfs_laws.proofs.OwnerStayLaws.{request_calm, shown_calm, start_calm, tick_calm}
use Rattle.xl_nfs_laws.specs.AnsweredStateids.{LockersCloseNothing}
use Rattle.xl_nfs_laws.specs.Delegated.{AreTied, AreTiedBut, delegation_held, delegation_kept, delegation_numbered, number_confirmed}
use Rattle.xl_nfs_laws.specs.Leased.{AreLeased, AreLeasedBut, has_lease, is_confirmed}
use Rattle.xl_nfs_laws.specs.Orderly.{IsOrderly}
use Rattle.xl_nfs_laws.specs.OtherDeeds.{is_nfs, is_nfs_party, is_nfs_who, SparesLeases, SparesNfs}
use Rattle.xl_front_smb.specs.Owners.{IsAskedBy, IsHolderOn, IsLeaseOf, IsOwn, IsPartyIn}
use Rattle.xl_smb_laws.proofs.RequestOwn as smb_own
use Rattle.xl_smb_locks.specs.Levels.{party_by}
use Rattle.xl_smb_state.specs.declared.row.Open.{Open as OpenRow}
use Rattle.xl_house.specs.Free.{IsFree}
use Rattle.xl_house.specs.Journals.{is_restart}
use Rattle.xl_house.specs.Lawful.{Always, Law, may_do}
use Rattle.xl_house.specs.Machine.{Turn, heard, restarted, step}
use Rattle.xl_house.specs.Machine as machine
use Rattle.xl_house.specs.NfsTied.{IsNfsTied}
use Rattle.xl_house.specs.Own.{Given, Own, begun_by, end_own, message_own, own_of, program_own, record_own}
use Rattle.xl_house.specs.Shown.{IsShown}
use Rattle.xl_house.specs.State.{Whole, as_found, kind_of, most_connections, nfs_opens, rooms_of, smb_opens, start_of, times_of}
use Rattle.xl_house.specs.Telling.{all_shown, settled, shown_by, showing, turns_sent}
use Rattle.xl_house.specs.Tied.{IsTied}
use Rattle.xl_house.specs.Timed.{leases_left, without_some}
use Rattle.xl_house.specs.declared.layers.Fronts.{Fronts}
use Rattle.xl_house.proofs.DoneLaws.{IsRow, each_event, own_row, program_row}
use Rattle.xl_house.proofs.ForgettingLaws.{expire_tells, in_either}
use Rattle.xl_house.proofs.MachineLaws.{begin_free, heard_good, step_free, step_is}
use Rattle.xl_house.proofs.RoundLaws.{Keeps, gone_keeps}
use Rattle.xl_house.proofs.SettleLaws.{turned_good}
use Rattle.xl_house.proofs.ShownLaws.{all_shown_good, shown_one}
use Rattle.xl_house.proofs.SteadyLaws.{begun_counts, deed_counts}
use Rattle.xl_house.proofs.TimedLaws.{Running, deed_times}
use Rattle.xl_house.proofs.TurnLaws.{of_turns}

-- ---- front and core, while these clients have expired of which the front wasn't told yet

pub record AreTogether (gone : List (List ℕ)) (f : Fronts) (s : CoreState) : Type 0 where
  pub orderly : IsOrderly f.nfs.state
  pub calm : LockersCloseNothing f.nfs.state
  pub tied : AreTiedBut gone s f.nfs.state
  pub leased : AreLeasedBut gone s f.nfs.state

tied_so : (s : CoreState) (l : NfsLists) → AreTied s l → AreTiedBut [] s l
tied_so s l tied = record { set = tied.set; left = λ id there file. absurd there; delegated = λ id apart file. tied.delegated id file }

but_none : (s : CoreState) (l : NfsLists) → AreTiedBut [] s l → AreTied s l
but_none s l tied = record { set = tied.set; delegated = λ id file. tied.delegated id (λ never. never) file }

but_as : (gone more : List (List ℕ)) (s : CoreState) (l : NfsLists) → ((id : List ℕ) → IsIn id gone → IsIn id more) → ((id : List ℕ) → IsIn id more → IsIn id gone) → AreTiedBut gone s l → AreTiedBut more s l
but_as gone more s l on back tied = record {
  set = tied.set;
  left = λ id there file. tied.left id (back id there) file;
  delegated = λ id apart file. tied.delegated id (λ there. apart (on id there)) file;
}

leased_so : (s : CoreState) (l : NfsLists) → AreLeased s l → AreLeasedBut [] s l
leased_so s l leased = record { over = λ id there. absurd there; leased = λ id apart. leased id }

leased_none : (s : CoreState) (l : NfsLists) → AreLeasedBut [] s l → AreLeased s l
leased_none s l leased = λ id. leased.leased id (λ never. never)

leased_as : (gone more : List (List ℕ)) (s : CoreState) (l : NfsLists) → ((id : List ℕ) → IsIn id gone → IsIn id more) → ((id : List ℕ) → IsIn id more → IsIn id gone) → AreLeasedBut gone s l → AreLeasedBut more s l
leased_as gone more s l on back leased = record { over = λ id there. leased.over id (back id there); leased = λ id apart. leased.leased id (λ there. apart (on id there)) }

-- where the leases are what they were
leased_on : (gone : List (List ℕ)) (s t : CoreState) (l : NfsLists) → t.leases ≡ s.leases → AreLeasedBut gone s l → AreLeasedBut gone t l
leased_on gone s t l same leased = record {
  over = λ id there. ap (λ (ls : List Lease). has_lease ls id) same ∙ leased.over id there;
  leased = λ id apart. ap (λ (ls : List Lease). has_lease ls id) same ∙ leased.leased id apart;
}

-- where each client has the delegations that it had, and numbers went on
held_on : (gone : List (List ℕ)) (s t : CoreState) (l : NfsLists) → s.counter ≤ t.counter → ((id : List ℕ) (file : ℕ) → delegation_held t id file ≡ delegation_held s id file) → AreTiedBut gone s l → AreTiedBut gone t l
held_on gone s t l up same tied = record {
  set = later_set s.counter t.counter l up tied.set;
  left = λ id there file. same id file ∙ tied.left id there file;
  delegated = λ id apart file. same id file ∙ tied.delegated id apart file;
}

-- ---- deeds of others

deed_later : (n : ℕ) (s : CoreState) (d : Deed) → IsGood s → IsFitDeed s d → s.counter ≤ (done n s d).counter
deed_later n s d good fit = omega (arith, (deed_counts n s d good fit).counter)

other_tied : (n : ℕ) (gone : List (List ℕ)) (s : CoreState) (l : NfsLists) (d : Deed) → IsGood s → IsFitDeed s d → SparesNfs d → AreTiedBut gone s l → AreTiedBut gone (done n s d) l
other_tied n gone s l d good fit spares tied = held_on gone s (done n s d) l (deed_later n s d good fit) (λ id file. other_held n s d id file good fit spares) tied

others_tied : (n : ℕ) (gone : List (List ℕ)) (s : CoreState) (l : NfsLists) (ds : List Deed) → IsGood s → AreFit n s ds → AllByRecursion SparesNfs ds → AreTiedBut gone s l → AreTiedBut gone (all_done n s ds) l
others_tied n gone s l [] good fit spares tied = tied
others_tied n gone s l (d ∷ ds) good fit spares tied = others_tied n gone (done n s d) l ds (deed_good n s d good fit.0) fit.1 spares.1 (other_tied n gone s l d good fit.0 spares.0 tied)

-- others renew nobody
spared_leases : (s : CoreState) (d : Deed) (leases : List Lease) → SparesLeases d → leases_left s d leases ≡ leases
spared_leases s (Renews client) leases spares = absurd spares
spared_leases s (Expires client) leases spares = absurd spares
spared_leases s (Lapses cache) leases spares = absurd spares
spared_leases s d leases spares = refl

leases_are_left : (n : ℕ) (s : CoreState) (d : Deed) → IsGood s → IsFitDeed s d → (done n s d).leases ≡ leases_left s d s.leases
leases_are_left n s d good fit = ap (λ (x : Running). x.0) (deed_times n s d good fit)

other_leased : (n : ℕ) (gone : List (List ℕ)) (s : CoreState) (l : NfsLists) (d : Deed) → IsGood s → IsFitDeed s d → SparesLeases d → AreLeasedBut gone s l → AreLeasedBut gone (done n s d) l
other_leased n gone s l d good fit spares leased = leased_on gone s (done n s d) l (leases_are_left n s d good fit ∙ spared_leases s d s.leases spares) leased

others_leased : (n : ℕ) (gone : List (List ℕ)) (s : CoreState) (l : NfsLists) (ds : List Deed) → IsGood s → AreFit n s ds → AllByRecursion SparesLeases ds → AreLeasedBut gone s l → AreLeasedBut gone (all_done n s ds) l
others_leased n gone s l [] good fit spares leased = leased
others_leased n gone s l (d ∷ ds) good fit spares leased = others_leased n gone (done n s d) l ds (deed_good n s d good fit.0) fit.1 spares.1 (other_leased n gone s l d good fit.0 spares.0 leased)

-- ---- deeds of the clock

lapse_tells : (s : CoreState) (cache : Claim) (id : List ℕ) → client_by s.names cache.party ≡ Some id → who_expired (lapse s cache).0 ≡ id ∷ []
unfolding lapse
lapse_tells s cache id whose = ap (λ (o : Option (List ℕ)). who_expired (lapsed_by s cache o).0) whose ∙ expire_tells s id

lapse_calm : (s : CoreState) (cache : Claim) → client_by s.names cache.party ≡ None → who_expired (lapse s cache).0 ≡ []
unfolding lapse
lapse_calm s cache nobody = ap (λ (o : Option (List ℕ)). who_expired (lapsed_by s cache o).0) nobody

abbrev Later : ℕ → List (List ℕ) → CoreState → NfsLists → Deed → Type 0
Later n gone s l d = AreTiedBut (who_expired (given n s d).1 ++ gone) (done n s d) l

lapsed_tied : (n : ℕ) (gone : List (List ℕ)) (s : CoreState) (l : NfsLists) (cache : Claim) → IsGood s → IsFitDeed s (Lapses cache) → (o : Option (List ℕ)) → client_by s.names cache.party ≡ o → AreTiedBut gone s l → Later n gone s l (Lapses cache)
lapsed_tied n gone s l cache good fit None whose tied =
    subst (λ (ids : List (List ℕ)). AreTiedBut (ids ++ gone) (done n s (Lapses cache)) l) (sym (lapse_calm s cache whose))
    (held_on gone s (done n s (Lapses cache)) l (deed_later n s (Lapses cache) good fit) (λ id file. lapsed_held n s cache id file good fit (due_is s cache fit).0 whose) tied)
lapsed_tied n gone s l cache good fit (Some id) whose tied =
    subst (λ (ids : List (List ℕ)). AreTiedBut (ids ++ gone) (done n s (Lapses cache)) l) (sym (lapse_tells s cache id whose)) (lapse_tied n s gone l cache id good fit whose tied)

clock_tied : (n : ℕ) (now : Moment) (gone : List (List ℕ)) (s : CoreState) (l : NfsLists) (d : Deed) → may_do (Tick now) d ≡ true → IsGood s → IsFitDeed s d → AreTiedBut gone s l → Later n gone s l d
clock_tied n now gone s l (Lapses cache) may good fit tied = lapsed_tied n gone s l cache good fit (client_by s.names cache.party) refl tied
clock_tied n now gone s l (Expires id) may good fit tied = subst (λ (ids : List (List ℕ)). AreTiedBut (ids ++ gone) (done n s (Expires id)) l) (sym (expire_tells s id)) (expire_tied n s gone l id good fit tied)
clock_tied n now gone s l (Advances moment) may good fit tied = other_tied n gone s l (Advances moment) good fit tt tied
clock_tied n now gone s l (FailsStore stable) may good fit tied = other_tied n gone s l (FailsStore stable) good fit tt tied
clock_tied n now gone s l EndsGrace may good fit tied = other_tied n gone s l EndsGrace good fit tt tied
clock_tied n now gone s l d may good fit tied = absurd (true≢false (sym may))

onward_in : (id : List ℕ) (xs ys gone : List (List ℕ)) → IsIn id (ys ++ (xs ++ gone)) → IsIn id ((xs ++ ys) ++ gone)
onward_in id xs ys gone h =
    elim (in_either id ys (xs ++ gone) h) [
      | inl y ↦ in_append_left id (xs ++ ys) gone (in_append_right id xs ys y)
      | inr r ↦ elim (in_either id xs gone r) [
        | inl x ↦ in_append_left id (xs ++ ys) gone (in_append_left id xs ys x)
        | inr g ↦ in_append_right id (xs ++ ys) gone g
      ]
    ]

back_in : (id : List ℕ) (xs ys gone : List (List ℕ)) → IsIn id ((xs ++ ys) ++ gone) → IsIn id (ys ++ (xs ++ gone))
back_in id xs ys gone h =
    elim (in_either id (xs ++ ys) gone h) [
      | inr g ↦ in_append_right id ys (xs ++ gone) (in_append_right id xs gone g)
      | inl b ↦ elim (in_either id xs ys b) [
        | inl x ↦ in_append_right id ys (xs ++ gone) (in_append_left id xs gone x)
        | inr y ↦ in_append_left id ys (xs ++ gone) y
      ]
    ]

clocks_tied : (n : ℕ) (now : Moment) (gone : List (List ℕ)) (s : CoreState) (l : NfsLists) (ds : List Deed) → AllByRecursion (λ d. may_do (Tick now) d ≡ true) ds → IsGood s → AreFit n s ds → AreTiedBut gone s l → AreTiedBut (who_expired (all_told_of n s ds) ++ gone) (all_done n s ds) l
clocks_tied n now gone s l [] may good fit tied = tied
clocks_tied n now gone s l (d ∷ ds) may good fit tied =
    let t = done n s d in
    let xs = who_expired (given n s d).1 in
    let ys = who_expired (all_told_of n t ds) in
    subst (λ (ids : List (List ℕ)). AreTiedBut (ids ++ gone) (all_done n t ds) l) (sym (expired_both (given n s d).1 (all_told_of n t ds)))
    (but_as (ys ++ (xs ++ gone)) ((xs ++ ys) ++ gone) (all_done n t ds) l (λ id h. onward_in id xs ys gone h) (λ id h. back_in id xs ys gone h)
    (clocks_tied n now (xs ++ gone) t l ds may.1 (deed_good n s d good fit.0) fit.1 (clock_tied n now gone s l d may.0 good fit.0 tied)))

-- the same of leases
abbrev Ran : ℕ → List (List ℕ) → CoreState → NfsLists → Deed → Type 0
Ran n gone s l d = AreLeasedBut (who_expired (given n s d).1 ++ gone) (done n s d) l

lapsed_leased : (n : ℕ) (gone : List (List ℕ)) (s : CoreState) (l : NfsLists) (cache : Claim) → IsGood s → IsFitDeed s (Lapses cache) → (o : Option (List ℕ)) → client_by s.names cache.party ≡ o → AreLeasedBut gone s l → Ran n gone s l (Lapses cache)
lapsed_leased n gone s l cache good fit None whose leased =
    subst (λ (ids : List (List ℕ)). AreLeasedBut (ids ++ gone) (done n s (Lapses cache)) l) (sym (lapse_calm s cache whose))
    (leased_on gone s (done n s (Lapses cache)) l (leases_are_left n s (Lapses cache) good fit ∙ ap (λ (o : Option (List ℕ)). without_some o s.leases) whose) leased)
lapsed_leased n gone s l cache good fit (Some id) whose leased =
    subst (λ (ids : List (List ℕ)). AreLeasedBut (ids ++ gone) (done n s (Lapses cache)) l) (sym (lapse_tells s cache id whose))
    (expires_leased gone s (done n s (Lapses cache)) l id (leases_are_left n s (Lapses cache) good fit ∙ ap (λ (o : Option (List ℕ)). without_some o s.leases) whose) leased)

clock_leased : (n : ℕ) (now : Moment) (gone : List (List ℕ)) (s : CoreState) (l : NfsLists) (d : Deed) → may_do (Tick now) d ≡ true → IsGood s → IsFitDeed s d → AreLeasedBut gone s l → Ran n gone s l d
clock_leased n now gone s l (Lapses cache) may good fit leased = lapsed_leased n gone s l cache good fit (client_by s.names cache.party) refl leased
clock_leased n now gone s l (Expires id) may good fit leased = subst (λ (ids : List (List ℕ)). AreLeasedBut (ids ++ gone) (done n s (Expires id)) l) (sym (expire_tells s id)) (expires_leased gone s (done n s (Expires id)) l id (leases_are_left n s (Expires id) good fit) leased)
clock_leased n now gone s l (Advances moment) may good fit leased = other_leased n gone s l (Advances moment) good fit tt leased
clock_leased n now gone s l (FailsStore stable) may good fit leased = other_leased n gone s l (FailsStore stable) good fit tt leased
clock_leased n now gone s l EndsGrace may good fit leased = other_leased n gone s l EndsGrace good fit tt leased
clock_leased n now gone s l d may good fit leased = absurd (true≢false (sym may))

clocks_leased : (n : ℕ) (now : Moment) (gone : List (List ℕ)) (s : CoreState) (l : NfsLists) (ds : List Deed) → AllByRecursion (λ d. may_do (Tick now) d ≡ true) ds → IsGood s → AreFit n s ds → AreLeasedBut gone s l → AreLeasedBut (who_expired (all_told_of n s ds) ++ gone) (all_done n s ds) l
clocks_leased n now gone s l [] may good fit leased = leased
clocks_leased n now gone s l (d ∷ ds) may good fit leased =
    let t = done n s d in
    let xs = who_expired (given n s d).1 in
    let ys = who_expired (all_told_of n t ds) in
    subst (λ (ids : List (List ℕ)). AreLeasedBut (ids ++ gone) (all_done n t ds) l) (sym (expired_both (given n s d).1 (all_told_of n t ds)))
    (leased_as (ys ++ (xs ++ gone)) ((xs ++ ys) ++ gone) (all_done n t ds) l (λ id h. onward_in id xs ys gone h) (λ id h. back_in id xs ys gone h)
    (clocks_leased n now (xs ++ gone) t l ds may.1 (deed_good n s d good fit.0) fit.1 (clock_leased n now gone s l d may.0 good fit.0 leased)))

-- ---- by these alone clients expire

abbrev IsCalm : Deed → Type 0
IsCalm (Lapses cache) = ⊥
IsCalm (Expires client) = ⊥
IsCalm d = Unit {0}

begun_calm : (last : ℕ) (bs : List (Claim × Option CacheKind)) → who_expired (begun_told last bs) ≡ []
begun_calm last [] = refl
begun_calm last (b ∷ bs) = begun_calm (last_of last (call_of last b)) bs

breaks_calm : (c : Claim) (s : CoreState) → who_expired (breaks_begun c s).0 ≡ []
unfolding breaks_begun
breaks_calm c s = begun_calm s.counter (breaks_in_order c s)

way_calm : (earlier : List Waiter) (p : _) (asked : List Claim) (s : CoreState) → who_expired (made_way earlier p asked s).0 ≡ []
way_calm earlier p asked s =
    elim (way_is earlier p asked s) [
      | NoWay e ↦ ap (λ (w : List Effect × CoreState). who_expired w.0) e
      | Begins c cs is does e ↦ ap (λ (w : List Effect × CoreState). who_expired w.0) e ∙ breaks_calm c s
    ]

served_calm : (n : ℕ) (left : Rooms) (earlier : List Waiter) (s : CoreState) (w : Waiter) (claim : Claim) (told : List Effect) (new : CoreState) → IsServed n left earlier s w claim told new → who_expired told ≡ []
served_calm n left earlier s w claim told new (Answered answer is one each new_is up) = ap who_expired is
served_calm n left earlier s w claim told new (WaitsOn is up same) = ap who_expired is

turn_calm : (n : ℕ) (left : Rooms) (s t : CoreState) (told : List Effect) → IsTurn n left s told t → who_expired told ≡ []
turn_calm n left s t told turn =
    let way = way_again turn.before s turn.waiter in
    let begun = way_calm turn.before (plea_again s turn.waiter) turn.waiter.asked s in
    let served = served_calm n left turn.before way.1 turn.waiter turn.claim turn.told t turn.served in
    ap who_expired turn.effects_are ∙ expired_both way.0 turn.told ∙ (λ i. begun i ++ served i)

turned_calm : (n : ℕ) (left : Rooms) (s : CoreState) (o : Option (List Effect × CoreState)) → IfSome o (λ r. IsTurn n left s r.0 r.1) → who_expired (turned s o).1 ≡ []
turned_calm n left s None turn = refl
turned_calm n left s (Some r) turn = turn_calm n left s r.1 r.0 turn

one_calm : (id : ℕ) (ws : List Waiter) → who_expired (told_of_one id ws) ≡ []
one_calm id [] = refl
one_calm id (w ∷ ws) = elim (cases_Bool (w.id == id)) [ inl e ↦ rw e refl | inr e ↦ rw e (one_calm id ws) ]

gone_calm : (ws : List Waiter) → who_expired (map gone ws) ≡ []
gone_calm [] = refl
gone_calm (w ∷ ws) = gone_calm ws

given_calm : (s : CoreState) (claim : Claim) → who_expired (give_back s claim).0 ≡ []
unfolding give_back
given_calm s claim = refl

weakened_calm : (s : CoreState) (share : Claim) (access deny : Rwd) → who_expired (weaken s share access deny).0 ≡ []
unfolding weaken
weakened_calm s share access deny = refl

acked_calm : (s : CoreState) (cache : Claim) (to : Option CacheKind) → who_expired (ack s cache to).0 ≡ []
unfolding ack
acked_calm s cache to = refl

cancelled_calm : (s : CoreState) (id : ℕ) → who_expired (cancel s id).0 ≡ []
unfolding cancel
cancelled_calm s id = one_calm id s.waiters

closed_calm : (s : CoreState) (number : ℕ) (party : Option Party) → who_expired (close_open s number party).0 ≡ []
unfolding close_open told_with
closed_calm s number party = gone_calm (filter (waits_with (leavers.Open number party)) s.waiters)

renewed_calm : (s : CoreState) (id : List ℕ) → who_expired (renew s id).0 ≡ []
unfolding renew
renewed_calm s id = refl

deed_calm : (n : ℕ) (s : CoreState) (d : Deed) → IsGood s → IsFitDeed s d → IsCalm d → who_expired (given n s d).1 ≡ []
deed_calm n s (Asks left a) good fit calm = ap who_expired (ask_quiet n left s a good fit.party) ∙ way_calm s.waiters (plea_of left s a) (asked_claims a (asked_whats a.act) s.names) s
deed_calm n s (GivesBack claim) good fit calm = given_calm s claim
deed_calm n s (Weakens share access deny) good fit calm = weakened_calm s share access deny
deed_calm n s (Acks cache to) good fit calm = acked_calm s cache to
deed_calm n s (Cancels id) good fit calm = cancelled_calm s id
deed_calm n s (Ends party) good fit calm = ended_expires s party
deed_calm n s (Closes number party) good fit calm = closed_calm s number party
deed_calm n s (Serves left) good fit calm = turned_calm n left s (settle n left s) (turn_is n left s good)
deed_calm n s (Renews id) good fit calm = renewed_calm s id
deed_calm n s (Lapses cache) good fit calm = absurd calm
deed_calm n s (Expires client) good fit calm = absurd calm
deed_calm n s d good fit calm = refl

deeds_calm : (n : ℕ) (s : CoreState) (ds : List Deed) → IsGood s → AreFit n s ds → AllByRecursion IsCalm ds → who_expired (all_told_of n s ds) ≡ []
deeds_calm n s [] good fit calm = refl
deeds_calm n s (d ∷ ds) good fit calm =
    let t = done n s d in
    let first = deed_calm n s d good fit.0 calm.0 in
    let rest = deeds_calm n t ds (deed_good n s d good fit.0) fit.1 calm.1 in
    expired_both (given n s d).1 (all_told_of n t ds) ∙ (λ i. first i ++ rest i)

spared_calm : (d : Deed) → SparesNfs d → IsCalm d
spared_calm (Lapses cache) spares = absurd spares
spared_calm (Expires client) spares = absurd spares
spared_calm d spares = tt

message_calm : (number : ℕ) (bytes : List ℕ) (d : Deed) → may_do (Message number bytes) d ≡ true → IsCalm d
message_calm number bytes (Lapses cache) may = absurd (true≢false (sym may))
message_calm number bytes (Expires client) may = absurd (true≢false (sym may))
message_calm number bytes d may = tt

-- ---- telling

same_held : (s : CoreState) (counter : ℕ) (id : List ℕ) (file : ℕ) → delegation_held (record s { counter = counter }) id file ≡ delegation_held s id file
unfolding cache_held
same_held s counter id file = refl

-- where an effect leaves the front, and gives out numbers alone
moved : (gone : List (List ℕ)) (f g : Fronts) (s t : CoreState) → g.nfs.state ≡ f.nfs.state → IsShown 1 s t → AreTogether gone f s → AreTogether gone g t
moved gone f g s t same is b = record {
  orderly = subst (λ (l : NfsLists). IsOrderly l) (sym same) b.orderly;
  calm = subst (λ (l : NfsLists). LockersCloseNothing l) (sym same) b.calm;
  tied = subst (λ (l : NfsLists). AreTiedBut gone t l) (sym same)
      (held_on gone s t f.nfs.state is.rises (λ id file. ap (λ (x : CoreState). delegation_held x id file) is.parts ∙ same_held s t.counter id file) b.tied);
  leased = subst (λ (l : NfsLists). AreLeasedBut gone t l) (sym same) (leased_on gone s t f.nfs.state (ap (λ (x : CoreState). x.leases) is.parts) b.leased);
}

begun_front : (exports : Exports) (f : Fronts) (s : CoreState) (cache : Claim) (to : Option CacheKind) (call : Option ℕ) (p : Protocol) → (shown_by exports f s (Begun cache to call) p).1.nfs.state ≡ f.nfs.state
unfolding nfs_shown
begun_front exports f s cache to call protocols.Nlm = refl
begun_front exports f s cache to call protocols.Nfs = refl
begun_front exports f s cache to call protocols.Smb = refl

served_front : (exports : Exports) (f : Fronts) (s : CoreState) (party : Party) (id : ℕ) (answer : Answer) (p : Protocol) → (shown_by exports f s (Served party id answer) p).1.nfs.state ≡ f.nfs.state
unfolding nfs_shown
served_front exports f s party id answer protocols.Nlm = refl
served_front exports f s party id answer protocols.Nfs = refl
served_front exports f s party id answer protocols.Smb = refl

cancelled_front : (exports : Exports) (f : Fronts) (s : CoreState) (party : Party) (id : ℕ) (p : Protocol) → (shown_by exports f s (Cancelled party id) p).1.nfs.state ≡ f.nfs.state
unfolding nfs_shown
cancelled_front exports f s party id protocols.Nlm = refl
cancelled_front exports f s party id protocols.Nfs = refl
cancelled_front exports f s party id protocols.Smb = refl

effect_tied : (exports : Exports) (f : Fronts) (s : CoreState) (effect : Effect) (told : List Effect) → AreTogether (who_expired (effect ∷ told)) f s → (let r = showing exports f s effect in AreTogether (who_expired told) r.1 r.2)
effect_tied exports f s (Begun cache to call) told b =
    (let r = showing exports f s (Begun cache to call) in moved (who_expired told) f r.1 s r.2 (begun_front exports f s cache to call (party_protocol cache.party)) (shown_one exports f s (Begun cache to call)) b)
effect_tied exports f s (Served party id answer) told b =
    (let r = showing exports f s (Served party id answer) in moved (who_expired told) f r.1 s r.2 (served_front exports f s party id answer (party_protocol party)) (shown_one exports f s (Served party id answer)) b)
effect_tied exports f s (Cancelled party id) told b =
    (let r = showing exports f s (Cancelled party id) in moved (who_expired told) f r.1 s r.2 (cancelled_front exports f s party id (party_protocol party)) (shown_one exports f s (Cancelled party id)) b)
effect_tied exports f s (Expired id) told b = record { orderly = shown_orderly f.nfs (Expired id) b.orderly; calm = shown_calm f.nfs (Expired id) b.calm; tied = expired_tied s (who_expired told) f.nfs id b.tied; leased = expired_leased s (who_expired told) f.nfs id b.tied.set b.leased }

all_shown_tied : (exports : Exports) (f : Fronts) (s : CoreState) (told : List Effect) → AreTogether (who_expired told) f s → (let r = all_shown exports f s told in AreTogether [] r.1 r.2)
all_shown_tied exports f s [] b = b
all_shown_tied exports f s (effect ∷ told) b = (let r = showing exports f s effect in all_shown_tied exports r.1 r.2 told (effect_tied exports f s effect told b))

-- ---- turns

turn_tied : (n : ℕ) (f : Fronts) (s t : CoreState) (told : List Effect) → IsGood s → settle n (rooms_of f) s ≡ Some (told, t) → AreTogether [] f s → AreTogether (who_expired told) f t
turn_tied n f s t told good e b =
    let d : Deed = Serves (rooms_of f) in
    let same : given n s d ≡ (None, told, t) = ap (λ (o : Option (List Effect × CoreState)). turned s o) e in
    let tied : AreTiedBut (who_expired (given n s d).1) (done n s d) f.nfs.state =
    subst (λ (ids : List (List ℕ)). AreTiedBut ids (done n s d) f.nfs.state) (sym (deed_calm n s d good tt tt)) (other_tied n [] s f.nfs.state d good tt tt b.tied) in
    let leased : AreLeasedBut (who_expired (given n s d).1) (done n s d) f.nfs.state =
    subst (λ (ids : List (List ℕ)). AreLeasedBut ids (done n s d) f.nfs.state) (sym (deed_calm n s d good tt tt)) (other_leased n [] s f.nfs.state d good tt tt b.leased) in
    record {
      orderly = b.orderly;
      calm = b.calm;
      tied = subst (λ (x : Option Answer × List Effect × CoreState). AreTiedBut (who_expired x.1) x.2 f.nfs.state) same tied;
      leased = subst (λ (x : Option Answer × List Effect × CoreState). AreLeasedBut (who_expired x.1) x.2 f.nfs.state) same leased;
    }

settled_tied : (n : ℕ) (exports : Exports) (f : Fronts) (s : CoreState) → IsGood s → AreTogether [] f s → (let r = settled n exports f s in AreTogether [] r.1 r.2)
unfolding settled
settled_tied n exports f s good b =
    of_turns n exports (λ g t ts. IsGood t → AreTogether [] g t → AreTogether [] (turns_sent exports g t ts).1 (turns_sent exports g t ts).2) (λ g t h k. k)
    (λ fuel g t u told e rest h k. rest (all_shown_good exports g u told (turned_good n g t u told h e)) (all_shown_tied exports g u told (turn_tied n g t u told h e k))) f s good b

-- ---- whose deeds are no client's of NFSv4

-- a caller of NLM is none
caller_other : (call : calls.CallItem) (client : Name) → client_of call ≡ Some client → is_nfs (protocol_of client) ≡ false
caller_other calls.Null client is = absurd (none_some is)
caller_other (calls.Granted a) client is = absurd (none_some is)
caller_other (calls.Test a) client is = subst (λ (name : Name). is_nfs (protocol_of name) ≡ false) (same_Some is) refl
caller_other (calls.Lock a) client is = subst (λ (name : Name). is_nfs (protocol_of name) ≡ false) (same_Some is) refl
caller_other (calls.Cancel a) client is = subst (λ (name : Name). is_nfs (protocol_of name) ≡ false) (same_Some is) refl
caller_other (calls.Unlock a) client is = subst (λ (name : Name). is_nfs (protocol_of name) ≡ false) (same_Some is) refl
caller_other (calls.Share a) client is = subst (λ (name : Name). is_nfs (protocol_of name) ≡ false) (same_Some is) refl
caller_other (calls.Unshare a) client is = subst (λ (name : Name). is_nfs (protocol_of name) ≡ false) (same_Some is) refl
caller_other (calls.NmLock a) client is = subst (λ (name : Name). is_nfs (protocol_of name) ≡ false) (same_Some is) refl
caller_other (calls.FreeAll a) client is = subst (λ (name : Name). is_nfs (protocol_of name) ≡ false) (same_Some is) refl

call_other : (o : Option calls.CallItem) (client : Name) → option_and_then (λ call. client_of call) o ≡ Some client → is_nfs (protocol_of client) ≡ false
call_other None client is = absurd (none_some is)
call_other (Some call) client is = caller_other call client is

named_other : (names : List Name) (client : Name) (party : Party) → is_nfs (protocol_of client) ≡ false → party_named names client ≡ Some party → is_nfs_party party ≡ false
named_other names client party plain at = by (number_of client names) at
  where
    by : (o : Option ℕ) → option_map (λ (number : ℕ). parties.Name (protocol_of client) number) o ≡ Some party → is_nfs_party party ≡ false
    by None none = absurd (none_some none)
    by (Some number) some = sym (ap is_nfs_party (same_Some some)) ∙ plain

of_other : (s : CoreState) (client : Name) (d : Deed) → is_nfs (protocol_of client) ≡ false → IsOf s client d → SparesNfs d
of_other s client (Asks left a) plain own = ap is_nfs_who own ∙ plain
of_other s client (GivesBack claim) plain own = named_other s.names client claim.party plain own
of_other s client (Weakens share access deny) plain own = tt
of_other s client (Cancels id) plain own = tt
of_other s client (Ends party) plain own = named_other s.names client party plain own
of_other s client (Renews id) plain own = tt
of_other s client d plain own = absurd own

some_other : (s : CoreState) (o : Option Name) (d : Deed) → ((client : Name) → o ≡ Some client → is_nfs (protocol_of client) ≡ false) → IsOfSome s o d → SparesNfs d
some_other s None d plain own = absurd own
some_other s (Some client) d plain own = of_other s client d (plain client refl) own

nlm_spares : (n : ℕ) (exports : Exports) (f : FrontState) (s : CoreState) (r : RequestItem) → IsGood s → AllByRecursion SparesNfs (nlm_deeds n exports f s r)
nlm_spares n exports f s r good =
    at_each (λ t d. IsOfSome t (nlm_client r) d) SparesNfs n s (nlm_deeds n exports f s r) (λ t d own. some_other t (nlm_client r) d (λ client is. call_other (call_in r) client is) own) (nlm.step_own n exports f s r good)

refusal_spares : (hosts : List (List ℕ)) (o : Option Grant) → AllByRecursion SparesNfs (refusal_deeds hosts o)
refusal_spares hosts None = tt
refusal_spares hosts (Some grant) = (refl, tt)

-- nor do they renew a lease, or end one
of_spares : (s : CoreState) (client : Name) (d : Deed) → is_nfs (protocol_of client) ≡ false → IsOf s client d → SparesLeases d
of_spares s client (Renews id) plain own = absurd (true≢false (ap (λ (c : Name). is_nfs (protocol_of c)) (sym own) ∙ plain))
of_spares s client (Lapses cache) plain own = absurd own
of_spares s client (Expires id) plain own = absurd own
of_spares s client d plain own = tt

some_spares : (s : CoreState) (o : Option Name) (d : Deed) → ((client : Name) → o ≡ Some client → is_nfs (protocol_of client) ≡ false) → IsOfSome s o d → SparesLeases d
some_spares s None d plain own = absurd own
some_spares s (Some client) d plain own = of_spares s client d (plain client refl) own

nlm_leases : (n : ℕ) (exports : Exports) (f : FrontState) (s : CoreState) (r : RequestItem) → IsGood s → AllByRecursion SparesLeases (nlm_deeds n exports f s r)
nlm_leases n exports f s r good =
    at_each (λ t d. IsOfSome t (nlm_client r) d) SparesLeases n s (nlm_deeds n exports f s r) (λ t d own. some_spares t (nlm_client r) d (λ client is. call_other (call_in r) client is) own) (nlm.step_own n exports f s r good)

refusal_leases : (hosts : List (List ℕ)) (o : Option Grant) → AllByRecursion SparesLeases (refusal_deeds hosts o)
refusal_leases hosts None = tt
refusal_leases hosts (Some grant) = (tt, tt)

own_leases : (names : List Name) (conn : ℕ) (l : Lists) (last : ℕ) (d : Deed) → IsOwn names conn l last d → SparesLeases d
own_leases names conn l last (Renews id) own = absurd own
own_leases names conn l last (Lapses cache) own = absurd own
own_leases names conn l last (Expires id) own = absurd own
own_leases names conn l last d own = tt

-- nor is an open of SMB, or a lease
opener_other : (client : List ℕ) (number : ℕ) (lease : Option (List ℕ)) → is_nfs_who (party_by client number lease) ≡ false
opener_other client number None = refl
opener_other client number (Some key) = refl

holder_other : (client : List ℕ) (number : ℕ) (lease : Option (List ℕ)) (names : List Name) → is_nfs_party (known_party (party_by client number lease) names) ≡ false
holder_other client number None names = refl
holder_other client number (Some key) names = refl

asker_other : (conn : ℕ) (l : Lists) (last : ℕ) (owner party : Who) → IsAskedBy conn l last owner party → is_nfs_who party ≡ false
asker_other conn l last (who.Open number) party own = (let row : OpenRow = own.1 in ap is_nfs_who own.3 ∙ opener_other row.client number row.lease)
asker_other conn l last (who.Named name) party own = absurd own

closed_other : (names : List Name) (es : List (ℕ × OpenRow)) (number : ℕ) (party : Option Party) → IsPartyIn names es number party → IfSome party (λ p. is_nfs_party p ≡ false)
closed_other names es number None own = tt
closed_other names es number (Some party) own = (let row : OpenRow = own.0 in ap is_nfs_party own.2 ∙ holder_other row.client number row.lease names)

leased_other : (names : List Name) (client : Option (List ℕ)) (party : Party) → IsLeaseOf names client party → is_nfs_party party ≡ false
leased_other names None party own = absurd own
leased_other names (Some client) party own = ap is_nfs_party own.1

acked_other : (names : List Name) (conn : ℕ) (l : Lists) (party : Party) → IsHolderOn names conn l party → is_nfs_party party ≡ false
acked_other names conn l (parties.Open number) own = refl
acked_other names conn l (parties.Name protocol number) own = leased_other names _ (parties.Name protocol number) own

own_other : (names : List Name) (conn : ℕ) (l : Lists) (last : ℕ) (d : Deed) → IsOwn names conn l last d → SparesNfs d
own_other names conn l last Draws own = tt
own_other names conn l last (Closes number party) own = closed_other names l.opens number party own.1
own_other names conn l last (Asks left a) own = asker_other conn l last a.owner a.party own.0
own_other names conn l last (Acks cache to) own = acked_other names conn l cache.party own
own_other names conn l last (Cancels id) own = tt
own_other names conn l last d own = absurd own

-- ---- what an event gives

abbrev GivesTied : Given → Type 0
GivesTied g = AreTogether (who_expired g.1) g.2 g.3

-- a row that leaves NFSv4's front, by deeds of others
others_row : (n : ℕ) (exports : Exports) (f : Fronts) (s : CoreState) (event : Event) (o : Own) → IsGood s → IsRow n exports f s event o → o.given.2.nfs ≡ f.nfs → AllByRecursion SparesNfs o.deeds → AllByRecursion SparesLeases o.deeds → AreTogether [] f s → GivesTied o.given
others_row n exports f s event o good row same spares leases b =
    let l = f.nfs.state in
    let fits = row.takes good in
    let calm = deeds_calm n s o.deeds good fits (all_weaker SparesNfs IsCalm o.deeds spared_calm spares) in
    let tied : AreTiedBut (who_expired (all_told_of n s o.deeds)) (all_done n s o.deeds) l =
    subst (λ (ids : List (List ℕ)). AreTiedBut ids (all_done n s o.deeds) l) (sym calm) (others_tied n [] s l o.deeds good fits spares b.tied) in
    let left : AreTiedBut (who_expired o.given.1) o.given.3 l =
    subst (λ (told : List Effect). AreTiedBut (who_expired told) o.given.3 l) (sym row.tells) (subst (λ (t : CoreState). AreTiedBut (who_expired (all_told_of n s o.deeds)) t l) (sym row.does) tied) in
    let run : AreLeasedBut (who_expired (all_told_of n s o.deeds)) (all_done n s o.deeds) l =
    subst (λ (ids : List (List ℕ)). AreLeasedBut ids (all_done n s o.deeds) l) (sym calm) (others_leased n [] s l o.deeds good fits leases b.leased) in
    let leased : AreLeasedBut (who_expired o.given.1) o.given.3 l =
    subst (λ (told : List Effect). AreLeasedBut (who_expired told) o.given.3 l) (sym row.tells) (subst (λ (t : CoreState). AreLeasedBut (who_expired (all_told_of n s o.deeds)) t l) (sym row.does) run) in
    record {
      orderly = subst (λ (g : FrontNfs). IsOrderly g.state) (sym same) b.orderly;
      calm = subst (λ (g : FrontNfs). LockersCloseNothing g.state) (sym same) b.calm;
      tied = subst (λ (g : FrontNfs). AreTiedBut (who_expired o.given.1) o.given.3 g.state) (sym same) left;
      leased = subst (λ (g : FrontNfs). AreLeasedBut (who_expired o.given.1) o.given.3 g.state) (sym same) leased;
    }

program_tied : (n : ℕ) (exports : Exports) (f : Fronts) (s : CoreState) (number : ℕ) (r : RequestItem) (program : Program) → IsGood s → AreTogether [] f s → GivesTied (program_own n exports f s number r program).given
program_tied n exports f s number r Nlm good b = others_row n exports f s (Message number []) (program_own n exports f s number r Nlm) good (program_row n [] exports f s number r Nlm) refl (nlm_spares n exports f.nlm s r good) (nlm_leases n exports f.nlm s r good) b
program_tied n exports f s number r Nfs good b =
    let o = program_own n exports f s number r Nfs in
    let row = program_row n [] exports f s number r Nfs in
    let q = nfs_step n exports (smb_opens f) f.nfs s number r in
    let calm : who_expired q.1 ≡ [] = ap who_expired row.tells ∙ deeds_calm n s o.deeds good (row.takes good) (all_weaker (λ d. may_do (Message number []) d ≡ true) IsCalm o.deeds (λ d may. message_calm number [] d may) (row.may good)) in
    record {
      orderly = request_orderly n exports (smb_opens f) f.nfs s number r b.orderly;
      calm = request_calm n exports (smb_opens f) f.nfs s number r b.orderly b.calm;
      tied = subst (λ (ids : List (List ℕ)). AreTiedBut ids q.3 q.2.state) (sym calm) (tied_so q.3 q.2.state (request_tied n exports (smb_opens f) f.nfs s number r good b.orderly (but_none s f.nfs.state b.tied)));
      leased = subst (λ (ids : List (List ℕ)). AreLeasedBut ids q.3 q.2.state) (sym calm) (leased_so q.3 q.2.state (request_leased n exports (smb_opens f) f.nfs s number r good b.orderly (but_none s f.nfs.state b.tied) (leased_none s f.nfs.state b.leased)));
    }

record_tied : (n : ℕ) (exports : Exports) (f : Fronts) (s : CoreState) (number : ℕ) (incoming : IncomingItem) → IsGood s → AreTogether [] f s → GivesTied (record_own n exports f s number incoming).given
record_tied n exports f s number Unanswered good b = b
record_tied n exports f s number (Refused xid verdict) good b = b
record_tied n exports f s number (Asked r) good b = program_tied n exports f s number r r.program good b

message_tied : (n : ℕ) (exports : Exports) (f : Fronts) (s : CoreState) (kind : Option Kind) (number : ℕ) (bytes : List ℕ) → IsGood s → AreTogether [] f s → IsRow n exports f s (Message number bytes) (message_own n exports f s kind number bytes) → GivesTied (message_own n exports f s kind number bytes).given
message_tied n exports f s None number bytes good b row = b
message_tied n exports f s (Some Rpc) number bytes good b row = record_tied n exports f s number (incoming_at bytes) good b
message_tied n exports f s (Some Smb) number bytes good b row =
    let o = message_own n exports f s (Some Smb) number bytes in
    others_row n exports f s (Message number bytes) o good row refl (all_weaker (IsOwn s.names number f.smb.state s.counter) SparesNfs o.deeds (λ d own. own_other s.names number f.smb.state s.counter d own) (smb_own.step_own n exports (nfs_opens f) f.smb s number bytes)) (all_weaker (IsOwn s.names number f.smb.state s.counter) SparesLeases o.deeds (λ d own. own_leases s.names number f.smb.state s.counter d own) (smb_own.step_own n exports (nfs_opens f) f.smb s number bytes)) b

ended_tied : (n : ℕ) (exports : Exports) (f : Fronts) (s : CoreState) (kind : Option Kind) (number : ℕ) → IsGood s → AreTogether [] f s → IsRow n exports f s (End number) (end_own f s kind number) → GivesTied (end_own f s kind number).given
ended_tied n exports f s None number good b row = b
ended_tied n exports f s (Some Rpc) number good b row = b
ended_tied n exports f s (Some Smb) number good b row =
    let o = end_own f s (Some Smb) number in
    others_row n exports f s (End number) o good row refl (all_weaker (IsOwn s.names number f.smb.state s.counter) SparesNfs o.deeds (λ d own. own_other s.names number f.smb.state s.counter d own) (smb_own.end_own f.smb s number)) (all_weaker (IsOwn s.names number f.smb.state s.counter) SparesLeases o.deeds (λ d own. own_leases s.names number f.smb.state s.counter d own) (smb_own.end_own f.smb s number)) b

begun_tied : (f : Fronts) (s : CoreState) (place : ℕ) (kind : Kind) (room : Bool) → AreTogether [] f s → AreTogether [] (if room then begun_by f place kind else f) s
begun_tied f s place kind false b = b
begun_tied f s place Rpc true b = b
begun_tied f s place Smb true b = record { orderly = b.orderly; calm = b.calm; tied = b.tied; leased = b.leased }

ticked_tied : (n : ℕ) (s : Whole) (now : Moment) → IsGood s.core → AreTogether [] s.front s.core → GivesTied (own_of n s (Tick now)).given
ticked_tied n s now good b =
    let row = own_row n s (Tick now) in
    let q = tick n s.core now in
    let f = s.front.nfs in
    let l = (nfs_tick f q.1.clock).state in
    let ds = tick_deeds n s.core now in
    let first : AreTiedBut [] s.core l = tied_so s.core l (tick_tied s.core f q.1.clock good (but_none s.core f.state b.tied)) in
    let tied : AreTiedBut (who_expired (all_told_of n s.core ds)) (all_done n s.core ds) l =
    subst (λ (ids : List (List ℕ)). AreTiedBut ids (all_done n s.core ds) l) (append-nil (who_expired (all_told_of n s.core ds))) (clocks_tied n now [] s.core l ds (row.may good) good (row.takes good) first) in
    let run : AreLeasedBut (who_expired (all_told_of n s.core ds)) (all_done n s.core ds) l =
    subst (λ (ids : List (List ℕ)). AreLeasedBut ids (all_done n s.core ds) l) (append-nil (who_expired (all_told_of n s.core ds))) (clocks_leased n now [] s.core l ds (row.may good) good (row.takes good) (tick_leased [] s.core f q.1.clock b.leased)) in
    record {
      orderly = tick_orderly f q.1.clock b.orderly;
      calm = tick_calm f q.1.clock b.calm;
      tied = subst (λ (told : List Effect). AreTiedBut (who_expired told) q.1 l) (sym row.tells) (subst (λ (t : CoreState). AreTiedBut (who_expired (all_told_of n s.core ds)) t l) (sym row.does) tied);
      leased = subst (λ (told : List Effect). AreLeasedBut (who_expired told) q.1 l) (sym row.tells) (subst (λ (t : CoreState). AreLeasedBut (who_expired (all_told_of n s.core ds)) t l) (sym row.does) run);
    }

given_tied : (n : ℕ) (s : Whole) (event : Event) → IsGood s.core → AreTogether [] s.front s.core → GivesTied (own_of n s event).given
given_tied n s (Open kind) good b = begun_tied s.front s.core s.place kind (nat_lt (length s.connections) most_connections) b
given_tied n s (Message number bytes) good b = message_tied n s.exports s.front s.core (kind_of s.connections number) number bytes good b (own_row n s (Message number bytes))
given_tied n s (End number) good b = ended_tied n s.exports s.front s.core (kind_of s.connections number) number good b (own_row n s (End number))
given_tied n s (Called number bytes) good b = others_row n s.exports s.front s.core (Called number bytes) (own_of n s (Called number bytes)) good (own_row n s (Called number bytes)) refl (refusal_spares s.front.nlm.hosts _) (refusal_leases s.front.nlm.hosts _) b
given_tied n s (Tick now) good b = ticked_tied n s now good b
given_tied n s Restart good b = b

heard_tied : (n : ℕ) (s : Whole) (event : Event) → IsGood s.core → AreTogether [] s.front s.core → (let h = heard n s event in AreTogether [] h.1 h.2)
unfolding heard
heard_tied n s event good b = let g = (own_of n s event).given in all_shown_tied s.exports g.2 g.3 g.1 (given_tied n s event good b)

-- so does each round
pub round_ties : (n : ℕ) → Keeps n (AreTogether [])
round_ties n = λ s event good b. let h = heard n s event in settled_tied n s.exports h.1 h.2 (heard_good n s event good) (heard_tied n s event good b)

-- ---- a step

begun_held : (s : CoreState) (id : List ℕ) (file : ℕ) → delegation_held (step_begun s) id file ≡ delegation_held s id file
unfolding step_begun cache_held
begun_held s id file = refl

pub begun_up : (s : CoreState) → s.counter ≤ (step_begun s).counter
begun_up s = omega (arith, (begun_counts s).counter)

begun_leases : (s : CoreState) → (step_begun s).leases ≡ s.leases
unfolding step_begun
begun_leases s = refl

begun_together : (f : Fronts) (s : CoreState) → AreTogether [] f s → AreTogether [] f (step_begun s)
begun_together f s b = record { orderly = b.orderly; calm = b.calm; tied = held_on [] s (step_begun s) f.nfs.state (begun_up s) (begun_held s) b.tied; leased = leased_on [] s (step_begun s) f.nfs.state (begun_leases s) b.leased }

together : (s : Whole) → IsNfsTied s → AreTogether [] s.front s.core
together s tied = record {
  orderly = tied.orderly;
  calm = tied.lockers;
  tied = tied_so s.core s.front.nfs.state (record { set = record { given = tied.numbers; shut = tied.closed; clients = tied.clients }; delegated = tied.delegations });
  leased = leased_so s.core s.front.nfs.state tied.leases;
}

-- what an entry finds
pub found_together : (s : Whole) → IsNfsTied s → AreTogether [] s.front (step_begun s.core)
found_together s tied = begun_together s.front s.core (together s tied)

-- what a message meets
pub met_tied : (s : Whole) → AreTogether [] s.front s.core → AreTied s.core s.front.nfs.state
met_tied s b = but_none s.core s.front.nfs.state b.tied

apart : (s : Whole) → AreTogether [] s.front s.core → IsNfsTied s
apart s b =
    let tied = but_none s.core s.front.nfs.state b.tied in
    record { orderly = b.orderly; lockers = b.calm; numbers = tied.set.given; closed = tied.set.shut; clients = tied.set.clients; leases = leased_none s.core s.front.nfs.state b.leased; delegations = tied.delegated }

step_ties : (n : ℕ) (s : Whole) (event : Event) → is_restart event ≡ false → IsFree s → IsNfsTied s → IsNfsTied (step n s event).next
step_ties n s event other free tied =
    let r = machine.gone n (as_found s) event in
    let b = begun_together r.1 r.2 (gone_keeps n (AreTogether []) (round_ties n) (as_found s) event (begun_good s.core free.good) (found_together s tied)) in
    subst (λ (x : Turn). IsNfsTied x.next) (sym (step_is n s event other)) (apart _ b)

started_tied : (s : Whole) (stable : Stable) (clock : Moment) (times : Times) → s.core ≡ started stable clock times → s.front.nfs ≡ empty_nfs_front → IsNfsTied s
started_tied s stable clock times core front =
    apart s (record {
      orderly = subst (λ (g : FrontNfs). IsOrderly g.state) (sym front) (record { rising = tt; apart = tt; held = tt });
      calm = subst (λ (g : FrontNfs). LockersCloseNothing g.state) (sym front) start_calm;
      tied = tied_so s.core s.front.nfs.state
          (subst (λ (g : FrontNfs). AreTied s.core g.state) (sym front) (subst (λ (c : CoreState). AreTied c empty_nfs_front.state) (sym core) (start_tied stable clock times)));
      leased = leased_so s.core s.front.nfs.state
          (subst (λ (g : FrontNfs). AreLeased s.core g.state) (sym front) (subst (λ (c : CoreState). AreLeased c empty_nfs_front.state) (sym core) (start_leased stable clock times)));
    })

restart_ties : (n : ℕ) (s : Whole) → IsNfsTied (step n s Restart).next
unfolding step
restart_ties n s = started_tied (restarted n s).next (raised s.core.stable) s.core.clock (times_of s.exports) refl refl

pub step_tied : (n : ℕ) (s : Whole) (event : Event) → IsFree s → IsNfsTied s → IsNfsTied (step n s event).next
step_tied n s event free tied = each_event (λ e. IsNfsTied (step n s e).next) (λ e other. step_ties n s e other free tied) (restart_ties n s) event

begin_tied : (head : Head) → IsNfsTied (start_of head)
begin_tied head = started_tied (start_of head) (raised head.record) head.start (times_of head.exports) refl refl

-- ---- each entry

tied_from : (s : Whole) (es : List Entry) → IsFree s → IsNfsTied s → Always IsTied s es
tied_from s [] free tied = tt
tied_from s (e ∷ es) free tied =
    let next = step_tied e.stores s e.event free tied in
    (next, tied_from (step e.stores s e.event).next es (step_free e.stores s e.event free) next)

pub always_tied : (head : Head) (es : List Entry) → Always IsTied (start_of head) es
always_tied head es = tied_from (start_of head) es (begin_free head) (begin_tied head)

-- a law that each entry meets in a free state whose rows and claims are tied
abbrev pub MeetsTied : Law → Type 0
MeetsTied law = (n : ℕ) (s : Whole) (e : Entry) → IsFree s → IsNfsTied s → law n s e (step n s e.event).next

tied_always : (law : Law) → MeetsTied law → (s : Whole) (es : List Entry) → IsFree s → IsNfsTied s → Always law s es
tied_always law meets s [] free tied = tt
tied_always law meets s (e ∷ es) free tied = (meets e.stores s e free tied, tied_always law meets (step e.stores s e.event).next es (step_free e.stores s e.event free) (step_tied e.stores s e.event free tied))

pub always_where_tied : (law : Law) → MeetsTied law → (head : Head) (es : List Entry) → Always law (start_of head) es
always_where_tied law meets head es = tied_always law meets (start_of head) es (begin_free head) (begin_tied head)

-- ---- a machine that forgets the stateids of delegations

none_kept : (l : NfsLists) (id : List ℕ) (file : ℕ) → l.stateids ≡ [] → delegation_kept l id file ≡ None
none_kept l id file none = ap (λ (ss : List StateidRow). option_and_then (delegation_numbered ss file) (number_confirmed l.clients id)) none ∙ by (number_confirmed l.clients id)
  where
    by : (o : Option ℕ) → option_and_then (delegation_numbered [] file) o ≡ None
    by None = refl
    by (Some number) = refl

pub delegation_lost_in : (n : ℕ) (s t : Whole) (e : Entry) (id : List ℕ) (file : ℕ) (write : Bool) → delegation_held t.core id file ≡ Some write → t.front.nfs.state.stateids ≡ [] → IsTied n s e t → ⊥
delegation_lost_in n s t e id file write held none tied = none_some (sym (none_kept t.front.nfs.state id file none) ∙ sym (tied.delegations id file) ∙ held)

-- ---- machines that keep only one of a client's record and its lease

pub lease_lost_in : (n : ℕ) (s t : Whole) (e : Entry) (id : List ℕ) → is_confirmed t.front.nfs.state.clients id ≡ true → t.core.leases ≡ [] → IsTied n s e t → ⊥
lease_lost_in n s t e id sure none tied = true≢false (sym sure ∙ sym (tied.leases id) ∙ ap (λ (ls : List Lease). has_lease ls id) none)

pub client_lost_in : (n : ℕ) (s t : Whole) (e : Entry) (id : List ℕ) → has_lease t.core.leases id ≡ true → t.front.nfs.state.clients ≡ [] → IsTied n s e t → ⊥
client_lost_in n s t e id has none tied = true≢false (sym has ∙ tied.leases id ∙ ap (λ (cs : List ClientRow). is_confirmed cs id) none)
