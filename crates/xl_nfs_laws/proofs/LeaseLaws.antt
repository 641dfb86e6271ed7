-- The clients whose record is confirmed are those whose lease runs, whatever a request comes to, and as time passes.
use Rattle.std.proofs.Common.{◌≡◌, ℕ, Bool, true, false, not, ◌||◌, List, [], ◌∷◌, ◌++◌, Option, Some, None, is_some, option_map, refl, sym, ap, ◌∙◌, inl, inr, true≢false}
use Rattle.std.proofs.lemmas.Bool.{and_parts, cases_Bool, eqb-true}
use Rattle.std.proofs.lemmas.Option.{same_Some}
use Rattle.std.specs.Bool.{beq, ◌==◌}
use Rattle.std.specs.Cmp.Lexicographic.{bytes_decides}
use Rattle.std.specs.List.{find}
use Rattle.std.specs.Option.{option_and_then}
use Rattle.std.specs.Prelude.{bytes_eq, length, nat_le, ◌⊎◌}
use Rattle.xl_base.proofs.Members.{in_filter_from}
use Rattle.xl_base.specs.Handles.{file_at}
use Rattle.xl_base.specs.Lists.{IsIn, Pairwise}
use Rattle.xl_base.specs.Stable.{Stable}
use Rattle.xl_base.specs.declared.event.Moment.{Moment}
use Rattle.xl_base.specs.declared.journal.Exports.{Exports}
use Rattle.xl_base.specs.declared.name.Party.{Party}
use Rattle.xl_names.specs.declared.name.Name.TheVariants.{NfsParty}
use Rattle.xl_nfs.specs.Clients.{SetClientIdArgsItem}
use Rattle.xl_nfs.specs.Locks.{LockerItem, New, Known}
use Rattle.xl_nfs.specs.Opens.{OpenClaimItem, DelegateCurrent, DelegatePrevious, Null, Previous}
use Rattle.xl_nfs.specs.Ops.{Close, DelegReturn, GetFh, Illegal, Lock, LockT, LockU, Lookup, NotSupported, OpItem, Open, OpenConfirm, OpenDowngrade, PutFh, PutRootFh, ReleaseLockOwner, Renew, SetClientId, SetClientIdConfirm}
use Rattle.xl_nfs_state.specs.Rows.{with_details}
use Rattle.xl_nfs_state.specs.State.{NfsLists, is_client, is_client_named, is_due, without, without_client}
use Rattle.xl_nfs_state.specs.declared.client.ClientRow.{ClientRow}
use Rattle.xl_programs.specs.Programs.{RequestItem}
use Rattle.xl_core.proofs.DeedLeaves.{found_in}
use Rattle.xl_core.proofs.FrameLaws.{ask_frame}
use Rattle.xl_core.specs.Askers.{party_named}
use Rattle.xl_core.specs.Deeds.{AreFit, Asks, Deed, Draws, Ends, GivesBack, IsFitDeed, Renews, Weakens, all_done, done}
use Rattle.xl_core.proofs.DeedLaws.{deed_good}
use Rattle.xl_core.specs.Good.{IsGood}
use Rattle.xl_core.specs.Ids.{number_in}
use Rattle.xl_core.specs.Leases.{Lease, moment_after, with_lease, without_lease}
use Rattle.xl_core.specs.Settle.{end_party, give_back, weaken}
use Rattle.xl_core.specs.State.{CoreState, drawn, started}
use Rattle.xl_core.specs.Ticks.{renew as renew_lease}
use Rattle.xl_core.specs.declared.ask.Effect.TheVariants.{Expired}
use Rattle.xl_core.specs.declared.lease.Times.{Times}
use Rattle.xl_plan.proofs.PlanLaws.{kept_so, plan_does}
use Rattle.xl_plan.specs.Plans.{deeds_of}
use Rattle.xl_nfs_opens.proofs.OpenOwn.{Owned}
use Rattle.xl_nfs_opens.specs.Files.{file_named}
use Rattle.xl_nfs_opens.specs.Owners.{AreBy, IsBy, is_claimant, is_holder, is_locker, is_named}
use Rattle.xl_nfs_opens.specs.Plans.{Plan, carried}
use Rattle.xl_front_nfs.specs.Clients.{come, come_again, confirm_found, confirm_held, confirm_number, confirm_over, confirmed_by, confirmed_row, ends, has_room, number_kept, numbers, record_end, renew, renew_number, renew_found, row_of, set_by, set_client_id, set_client_id_confirm, without_found, without_named, without_number}
use Rattle.xl_front_nfs.specs.FrontNfs.{Called, Compound, Garbage, Null as Nothing, Refused, call_in, nfs_step, replied}
use Rattle.xl_front_nfs.specs.Handles.{found_file, get_fh, look_up, put_fh, put_file, put_root_fh}
use Rattle.xl_front_nfs.specs.State.{FrontNfs, empty_nfs_front, forgotten, nfs_shown, nfs_tick}
use Rattle.xl_front_nfs.specs.Steps.{planned}
use Rattle.xl_nfs_laws.proofs.ClientStayLaws.{Same, Stays, close_stays, confirm_stays, downgrade_stays, lock_stays, open_stays, release_stays, return_stays, test_stays, unlock_stays}
use Rattle.xl_nfs_laws.proofs.GivenDelegationLaws.{find_behind, named_found, named_is, numbered_is, one_client}
use Rattle.xl_nfs_laws.proofs.QuietCacheLaws.{find_kept}
use Rattle.xl_nfs_laws.proofs.RequestDeedLaws.{compound_keeps}
use Rattle.xl_nfs_laws.proofs.RequestDelegationLaws.{item_tied, one_id, own_gone}
use Rattle.xl_nfs_laws.proofs.RequestNumberLaws.{item_good}
use Rattle.xl_nfs_laws.proofs.RequestOrderLaws.{item_orderly}
use Rattle.xl_nfs_laws.proofs.RequestOwn.{plan_own}
use Rattle.xl_nfs_laws.proofs.StillDelegatedLaws.{changed_same}
use Rattle.xl_nfs_laws.specs.Delegated.{AreClients, AreSet, AreTied, clients_apart}
use Rattle.xl_nfs_laws.specs.Leased.{AreLeased, AreLeasedBut, has_lease, is_confirmed}
use Rattle.xl_nfs_laws.specs.Orderly.{IsOrderly}

-- ---- leases

twice : (a c : Bool) → (a || c) ≡ (a || (a || c))
twice true c = refl
twice false c = refl

swapped : (a b c : Bool) → (a || (b || c)) ≡ (b || (a || c))
swapped true true c = refl
swapped true false c = refl
swapped false b c = refl

implied : (a b : Bool) → (a ≡ true → b ≡ true) → (a || b) ≡ b
implied true b h = sym (h refl)
implied false b h = refl

pub renewed : (leases : List Lease) (client : List ℕ) (until : Moment) (id : List ℕ) → has_lease (with_lease client until leases) id ≡ (bytes_eq id client || has_lease leases id)
unfolding with_lease
renewed [] client until id = refl
renewed (l ∷ ls) client until id =
    elim (cases_Bool (bytes_eq client l.0)) [
      | inl same ↦ rw same (twice (bytes_eq id l.0) (has_lease ls id) ∙ ap (λ (i : List ℕ). bytes_eq id i || (bytes_eq id l.0 || has_lease ls id)) (sym ((bytes_decides client l.0).0 same)))
      | inr other ↦ rw other (ap (λ (b : Bool). bytes_eq id l.0 || b) (renewed ls client until id) ∙ swapped (bytes_eq id l.0) (bytes_eq id client) (has_lease ls id))
    ]

pub lease_over : (leases : List Lease) (client : List ℕ) → has_lease (without_lease client leases) client ≡ false
unfolding without_lease
lease_over [] client = refl
lease_over (l ∷ ls) client =
    elim (cases_Bool (bytes_eq client l.0)) [
      | inl same ↦ rw same (lease_over ls client)
      | inr other ↦ rw other (rw other (lease_over ls client))
    ]

pub others_run : (leases : List Lease) (client id : List ℕ) → (id ≡ client → ⊥) → has_lease (without_lease client leases) id ≡ has_lease leases id
unfolding without_lease
others_run [] client id apart = refl
others_run (l ∷ ls) client id apart =
    elim (cases_Bool (bytes_eq client l.0)) [
      | inr other ↦ rw other (ap (λ (b : Bool). bytes_eq id l.0 || b) (others_run ls client id apart))
      | inl same ↦ elim (cases_Bool (bytes_eq id l.0)) [
        | inl its ↦ absurd (apart ((bytes_decides id l.0).0 its ∙ sym ((bytes_decides client l.0).0 same)))
        | inr not_its ↦ rw (same, not_its) (others_run ls client id apart)
      ]
    ]

-- ---- records

-- the confirmed record of a number is that of its id string
numbered_confirmed : (cs : List ClientRow) (o : Option ℕ) (id : List ℕ) → Pairwise clients_apart cs → option_map (λ (r : ClientRow). r.id) (option_and_then (λ number. find (is_client number true) cs) o) ≡ Some id → is_confirmed cs id ≡ true
numbered_confirmed cs None id apart e = absurd cc
numbered_confirmed cs (Some number) id apart e = by (find (is_client number true) cs) refl e
  where
    by : (x : Option ClientRow) → find (is_client number true) cs ≡ x → option_map (λ (r : ClientRow). r.id) x ≡ Some id → is_confirmed cs id ≡ true
    by None f h = absurd cc
    by (Some r) f h =
        let at = found_in (is_client number true) cs r f in
        ap (is_confirmed cs) (sym (same_Some r.id id h)) ∙ ap is_some (named_found cs r apart at.0 (numbered_is number r at.1).1)

-- records that aren't confirmed go
unconfirmed_go : (cs : List ClientRow) (drops : ClientRow → Bool) (id : List ℕ) → ((r : ClientRow) → r.confirmed ≡ true → drops r ≡ false) → is_confirmed (without drops cs) id ≡ is_confirmed cs id
unconfirmed_go cs drops id stays = ap is_some (find_kept (is_client_named id true) (λ (r : ClientRow). not (drops r)) cs (λ r there named. ap not (stays r (named_is id r named).1)))

not_number : (number : ℕ) (r : ClientRow) → r.confirmed ≡ true → is_client number false r ≡ false
not_number number r sure =
    elim (cases_Bool (number == r.number)) [
      | inl e ↦ rw (e, sure) refl
      | inr e ↦ rw e refl
    ]

number_goes : (number : ℕ) (l : NfsLists) (id : List ℕ) → is_confirmed (without_number number l).clients id ≡ is_confirmed l.clients id
number_goes number l id = unconfirmed_go l.clients (is_client number false) id (λ r sure. not_number number r sure)

found_goes : (l : NfsLists) (o : Option ClientRow) (id : List ℕ) → is_confirmed (without_found l o).clients id ≡ is_confirmed l.clients id
found_goes l None id = refl
found_goes l (Some r) id = number_goes r.number l id

-- one comes that isn't confirmed
comes_unconfirmed : (cs : List ClientRow) (row : ClientRow) (id : List ℕ) → row.confirmed ≡ false → is_confirmed (cs ++ row ∷ []) id ≡ is_confirmed cs id
comes_unconfirmed cs row id unsure = ap is_some (find_behind (is_client_named id true) cs row other)
  where
    other : is_client_named id true row ≡ false
    other =
        elim (cases_Bool (bytes_eq id row.id)) [
          | inl e ↦ rw (e, unsure) refl
          | inr e ↦ rw e refl
        ]

module _ {A : Type 0} where
  last_there : (p : A → Bool) (xs : List A) (x : A) → p x ≡ true → is_some (find p (xs ++ x ∷ [])) ≡ true
  last_there p [] x is = rw is refl
  last_there p (y ∷ ys) x is =
      elim (cases_Bool (p y)) [
        | inl e ↦ rw e refl
        | inr e ↦ rw e (last_there p ys x is)
      ]

-- those that go are of this id string
others_confirmed : (cs : List ClientRow) (drops : ClientRow → Bool) (client id : List ℕ) → ((c : ClientRow) → IsIn c cs → drops c ≡ true → c.id ≡ client) → (id ≡ client → ⊥) → is_confirmed (without drops cs) id ≡ is_confirmed cs id
others_confirmed cs drops client id own apart = ap is_some (find_kept (is_client_named id true) (λ (r : ClientRow). not (drops r)) cs (λ c there named. ap not (stays c there (named_is id c named).0)))
  where
    stays : (c : ClientRow) → IsIn c cs → id ≡ c.id → drops c ≡ false
    stays c there its =
        elim (cases_Bool (drops c)) [
          | inr e ↦ e
          | inl e ↦ absurd (apart (its ∙ own c there e))
        ]

-- so is the one that comes, and it is confirmed
comes_confirmed : (cs : List ClientRow) (drops : ClientRow → Bool) (row : ClientRow) (id : List ℕ) → row.confirmed ≡ true → ((c : ClientRow) → IsIn c cs → drops c ≡ true → c.id ≡ row.id) → is_confirmed (without drops cs ++ row ∷ []) id ≡ (bytes_eq id row.id || is_confirmed cs id)
comes_confirmed cs drops row id sure own =
    elim (cases_Bool (bytes_eq id row.id)) [
      | inl same ↦ rw same (last_there (is_client_named id true) (without drops cs) row (rw (same, sure) refl))
      | inr other ↦
          let apart : id ≡ row.id → ⊥ = λ e. true≢false (sym ((bytes_decides id row.id).1 e) ∙ other) in
          let off : is_client_named id true row ≡ false = rw other refl in
          rw other (ap is_some (find_behind (is_client_named id true) (without drops cs) row off) ∙ others_confirmed cs drops row.id id own apart)
    ]

gone_confirmed : (cs : List ClientRow) (drops : ClientRow → Bool) (client id : List ℕ) → ((c : ClientRow) → IsIn c cs → drops c ≡ true → c.id ≡ client) → (bytes_eq id client || is_confirmed (without drops cs) id) ≡ (bytes_eq id client || is_confirmed cs id)
gone_confirmed cs drops client id own =
    elim (cases_Bool (bytes_eq id client)) [
      | inl same ↦ rw same refl
      | inr other ↦ rw other (others_confirmed cs drops client id own (λ e. true≢false (sym ((bytes_decides id client).1 e) ∙ other)))
    ]

-- ---- deeds of a request

-- deeds that renew confirmed clients alone
deed_leased : (n : ℕ) (s : CoreState) (l : NfsLists) (d : Deed) (Client : List ℕ → Type 0) → IsGood s → IsFitDeed s d → IsBy s Client d → ((id : List ℕ) → Client id → is_confirmed l.clients id ≡ true) → AreLeased s l → AreLeased (done n s d) l
unfolding give_back weaken end_party drawn renew_lease
deed_leased n s l (Asks left a) Client good fit by sure leased = λ id. ap (λ (ls : List Lease). has_lease ls id) (ask_frame n left s a good fit.party).leases ∙ leased id
deed_leased n s l (GivesBack claim) Client good fit by sure leased = leased
deed_leased n s l (Weakens share access deny) Client good fit by sure leased = leased
deed_leased n s l (Ends party) Client good fit by sure leased = leased
deed_leased n s l Draws Client good fit by sure leased = leased
deed_leased n s l (Renews client) Client good fit by sure leased = λ id.
    renewed s.leases client (moment_after s.clock s.times.lease) id
    ∙ ap (λ (b : Bool). bytes_eq id client || b) (leased id)
    ∙ implied (bytes_eq id client) (is_confirmed l.clients id) (λ e. ap (is_confirmed l.clients) ((bytes_decides id client).0 e) ∙ sure client by)
deed_leased n s l d Client good fit by sure leased = absurd by

deeds_leased : (n : ℕ) (s : CoreState) (l : NfsLists) (ds : List Deed) (Client : List ℕ → Type 0) → IsGood s → AreFit n s ds → AreBy n s Client ds → ((id : List ℕ) → Client id → is_confirmed l.clients id ≡ true) → AreLeased s l → AreLeased (all_done n s ds) l
deeds_leased n s l [] Client good fit by sure leased = leased
deeds_leased n s l (d ∷ ds) Client good fit by sure leased = deeds_leased n (done n s d) l ds Client (deed_good n s d good fit.0) fit.1 by.1 sure (deed_leased n s l d Client good fit.0 by.0 sure leased)

abbrev Leases : ℕ → CoreState → NfsLists → Plan → Type 0
Leases n s l plan = AreLeased (carried n s l plan).4 (carried n s l plan).3

plan_leased : (n : ℕ) (s : CoreState) (l : NfsLists) (plan : Plan) (Client : List ℕ → Type 0) → IsGood s → Owned n s Client plan → ((id : List ℕ) → Client id → is_confirmed l.clients id ≡ true) → ((id : List ℕ) → is_confirmed (carried n s l plan).3.clients id ≡ is_confirmed l.clients id) → AreLeased s l → Leases n s l plan
plan_leased n s l plan Client good own sure same leased = λ id.
    ap (λ (t : CoreState). has_lease t.leases id) (plan_does n s l plan)
    ∙ deeds_leased n s l (deeds_of n s plan) Client good own.0 own.1 sure leased id
    ∙ sym (same id)

stays_leased : (n : ℕ) (s : CoreState) (l : NfsLists) (plan : Plan) (Client : List ℕ → Type 0) → IsGood s → Owned n s Client plan → ((id : List ℕ) → Client id → is_confirmed l.clients id ≡ true) → Stays l plan → AreLeased s l → Leases n s l plan
stays_leased n s l plan Client good own sure stays leased = plan_leased n s l plan Client good own sure (λ id. ap (λ (cs : List ClientRow). is_confirmed cs id) (kept_so (Same l) n s l plan refl stays)) leased

-- ---- operations on handles

put_stays : (count : ℕ) (l : NfsLists) (current o : Option ℕ) → Stays l (put_file count l current o)
put_stays count l current None = tt
put_stays count l current (Some file) = elim (cases_Bool (nat_le file count)) [ inl e ↦ rw e refl | inr e ↦ rw e tt ]

get_stays : (l : NfsLists) (current : Option ℕ) → Stays l (get_fh l current)
unfolding get_fh
get_stays l None = tt
get_stays l (Some file) = refl

found_stays : (l : NfsLists) (current o : Option ℕ) → Stays l (found_file l current o)
found_stays l current None = tt
found_stays l current (Some file) = refl

look_stays : (files : List (List ℕ)) (l : NfsLists) (current : Option ℕ) (name : List ℕ) → Stays l (look_up files l current name)
unfolding look_up
look_stays files l None name = tt
look_stays files l (Some file) name =
    elim (cases_Bool (file == 0)) [
      | inr e ↦ rw e tt
      | inl e ↦ rw e (elim (cases_Bool (length name == 0)) [
        | inl d ↦ rw d tt
        | inr d ↦ rw d (found_stays l (Some file) (file_named files name))
      ])
    ]

-- ---- RENEW and SETCLIENTID

renew_stays : (l : NfsLists) (current o : Option ℕ) → Stays l (renew_number l current o)
renew_stays l current None = tt
renew_stays l current (Some number) = by (find (is_client number true) l.clients)
  where
    by : (o : Option ClientRow) → Stays l (renew_found l current o)
    by None = tt
    by (Some r) = refl

set_confirmed : (n : ℕ) (s : CoreState) (k l : NfsLists) (current : Option ℕ) (a : SetClientIdArgsItem) (kept : Option ℕ) (id : List ℕ) → is_confirmed (carried n s k (set_by s l current a kept)).3.clients id ≡ is_confirmed l.clients id
set_confirmed n s k l current a kept id =
    elim (cases_Bool (has_room l)) [
      | inr full ↦ rw full refl
      | inl room ↦ (
          let number = (numbers s.counter kept).0 in
          let row = row_of (record_end s) a number (numbers s.counter kept).1 in
          rw room (comes_unconfirmed (without_number number l).clients row id refl ∙ number_goes number l id))
    ]

-- ---- SETCLIENTID_CONFIRM

renews_leased : (n : ℕ) (s : CoreState) (l m : NfsLists) (client : List ℕ) → is_confirmed l.clients client ≡ true → ((id : List ℕ) → is_confirmed m.clients id ≡ is_confirmed l.clients id) → AreLeased s l → AreLeased (all_done n s (Renews client ∷ [])) m
unfolding renew_lease
renews_leased n s l m client sure same leased = λ id.
    renewed s.leases client (moment_after s.clock s.times.lease) id
    ∙ ap (λ (b : Bool). bytes_eq id client || b) (leased id)
    ∙ implied (bytes_eq id client) (is_confirmed l.clients id) (λ e. ap (is_confirmed l.clients) ((bytes_decides id client).0 e) ∙ sure)
    ∙ sym (same id)

-- the client's lease runs then, and the others' as before
ends_renewed : (n : ℕ) (s : CoreState) (x : Option Party) (client id : List ℕ) → has_lease (all_done n s (ends x ++ Renews client ∷ [])).leases id ≡ (bytes_eq id client || has_lease s.leases id)
unfolding end_party renew_lease
ends_renewed n s None client id = renewed s.leases client (moment_after s.clock s.times.lease) id
ends_renewed n s (Some party) client id = renewed s.leases client (moment_after s.clock s.times.lease) id

over_leased : (n : ℕ) (s : CoreState) (l : NfsLists) (current : Option ℕ) (number : ℕ) (r : ClientRow) (x : Option ClientRow) → IsIn r l.clients → number ≡ r.number → find (is_client_named r.id true) (without_number number l).clients ≡ x → AreClients s.counter l.clients → AreLeased s l → Leases n s l (confirm_over s (without_number number l) current number r x)
over_leased n s l current number r x here is e set leased = by x e
  where
    m : NfsLists
    m = without_number number l

    -- a record of the number is of the id string
    its : (c : ClientRow) → IsIn c m.clients → is_client number true c ≡ true → c.id ≡ r.id
    its c there numbered = one_id l.clients c r set.one (in_filter_from (λ (q : ClientRow). not (is_client number false q)) c l.clients there).0 here (sym (numbered_is number c numbered).0 ∙ is)

    new : AreLeased (all_done n s (Renews r.id ∷ [])) (come m number r)
    new = λ id.
        ends_renewed n s None r.id id
        ∙ ap (λ (b : Bool). bytes_eq id r.id || b) (leased id ∙ sym (number_goes number l id))
        ∙ sym (comes_confirmed m.clients (is_client number true) (confirmed_row number r) id refl its)

    over : (o : ClientRow) → find (is_client_named r.id true) m.clients ≡ Some o → AreLeased (all_done n s (ends (party_named s.names (NfsParty r.id)) ++ Renews r.id ∷ [])) (come (without_client o.number m) number r)
    over o f = λ id.
        ends_renewed n s (party_named s.names (NfsParty r.id)) r.id id
        ∙ ap (λ (b : Bool). bytes_eq id r.id || b) (leased id ∙ sym (number_goes number l id))
        ∙ sym (gone_confirmed m.clients (is_client o.number true) r.id id (other o f))
        ∙ sym (comes_confirmed (without (is_client o.number true) m.clients) (is_client number true) (confirmed_row number r) id refl (λ c there numbered. its c (in_filter_from (λ (q : ClientRow). not (is_client o.number true q)) c m.clients there).0 numbered))
      where
        -- so is one of the other's number
        other : (o : ClientRow) → find (is_client_named r.id true) m.clients ≡ Some o → (c : ClientRow) → IsIn c m.clients → is_client o.number true c ≡ true → c.id ≡ r.id
        other o f c there numbered =
            let at = found_in (is_client_named r.id true) m.clients o f in
            one_id l.clients c o set.one (in_filter_from (λ (q : ClientRow). not (is_client number false q)) c l.clients there).0 (in_filter_from (λ (q : ClientRow). not (is_client number false q)) o l.clients at.0).0 (sym (numbered_is o.number c numbered).0)
            ∙ sym (named_is r.id o at.1).0

    again : (o : ClientRow) → find (is_client_named r.id true) m.clients ≡ Some o → AreLeased (all_done n s (Renews r.id ∷ [])) (come_again m number r)
    again o f =
        renews_leased n s l (come_again m number r) r.id (sym (number_goes number l r.id) ∙ ap is_some f)
        (λ id. changed_same (λ (q : Option ClientRow). is_some q) (is_client_named id true) (is_client number true) (with_details r.details) m.clients (λ q. refl) (λ q. refl) ∙ number_goes number l id) leased

    by : (y : Option ClientRow) → find (is_client_named r.id true) m.clients ≡ y → Leases n s l (confirm_over s m current number r y)
    by None f = new
    by (Some o) f =
        elim (cases_Bool (o.number == number)) [
          | inl d ↦ rw d (again o f)
          | inr d ↦ rw d (over o f)
        ]

held_leased : (n : ℕ) (s : CoreState) (l : NfsLists) (current : Option ℕ) (verifier : List ℕ) (number : ℕ) (x : Option ClientRow) → find (is_client number true) l.clients ≡ x → Pairwise clients_apart l.clients → AreLeased s l → Leases n s l (confirm_held l current verifier x)
held_leased n s l current verifier number None e apart leased = leased
held_leased n s l current verifier number (Some r) e apart leased =
    let at = found_in (is_client number true) l.clients r e in
    renews_leased n s l l r.id (ap is_some (named_found l.clients r apart at.0 (numbered_is number r at.1).1)) (λ id. refl) leased

found_leased : (n : ℕ) (s : CoreState) (l : NfsLists) (current : Option ℕ) (number : ℕ) (verifier : List ℕ) (x : Option ClientRow) → find (is_client number false) l.clients ≡ x → AreClients s.counter l.clients → AreLeased s l → Leases n s l (confirm_found s l current number verifier (confirmed_by verifier x))
found_leased n s l current number verifier None e set leased = held_leased n s l current verifier number (find (is_client number true) l.clients) refl set.apart leased
found_leased n s l current number verifier (Some r) e set leased =
    elim (cases_Bool (bytes_eq r.details.confirm verifier)) [
      | inl d ↦ rw d (over_leased n s l current number r (find (is_client_named r.id true) (without_number number l).clients) at.0 is refl set leased)
      | inr d ↦ rw d (held_leased n s l current verifier number (find (is_client number true) l.clients) refl set.apart leased)
    ]
  where
    at : IsIn r l.clients × (is_client number false r ≡ true)
    at = found_in (is_client number false) l.clients r e

    is : number ≡ r.number
    is = eqb-true number r.number (and_parts (number == r.number) (beq false r.confirmed) at.1).0

number_leased : (n : ℕ) (s : CoreState) (l : NfsLists) (current : Option ℕ) (verifier : List ℕ) (x : Option ℕ) → AreClients s.counter l.clients → AreLeased s l → Leases n s l (confirm_number s l current verifier x)
number_leased n s l current verifier None set leased = leased
number_leased n s l current verifier (Some number) set leased = found_leased n s l current number verifier (find (is_client number false) l.clients) refl set leased

-- ---- an operation

claimant_confirmed : (s : CoreState) (l : NfsLists) (claim : OpenClaimItem) (id : List ℕ) → Pairwise clients_apart l.clients → is_claimant s l claim id → is_confirmed l.clients id ≡ true
claimant_confirmed s l (DelegateCurrent a) id apart is = numbered_confirmed l.clients _ id apart is
claimant_confirmed s l (Null name) id apart is = absurd is
claimant_confirmed s l (Previous type) id apart is = absurd is
claimant_confirmed s l (DelegatePrevious name) id apart is = absurd is

locker_confirmed : (s : CoreState) (l : NfsLists) (x : LockerItem) (id : List ℕ) → Pairwise clients_apart l.clients → is_locker s l x id → is_confirmed l.clients id ≡ true
locker_confirmed s l (New x) id apart (inl is) = numbered_confirmed l.clients _ id apart is
locker_confirmed s l (New x) id apart (inr is) = numbered_confirmed l.clients _ id apart is
locker_confirmed s l (Known x) id apart is = numbered_confirmed l.clients _ id apart is

opener_confirmed : (s : CoreState) (l : NfsLists) (clientid : ℕ) (claim : OpenClaimItem) (id : List ℕ) → Pairwise clients_apart l.clients → is_named s l clientid true id ⊎ is_claimant s l claim id → is_confirmed l.clients id ≡ true
opener_confirmed s l clientid claim id apart (inl is) = numbered_confirmed l.clients _ id apart is
opener_confirmed s l clientid claim id apart (inr is) = claimant_confirmed s l claim id apart is

pub item_leased : (n : ℕ) (files : List (List ℕ)) (others : ℕ) (s : CoreState) (l : NfsLists) (current : Option ℕ) (item : OpItem) → IsGood s → AreClients s.counter l.clients → AreLeased s l → Leases n s l (planned files others s l current item)
unfolding planned put_root_fh put_fh renew set_client_id set_client_id_confirm
item_leased n files others s l current PutRootFh good set leased = leased
item_leased n files others s l current (PutFh fh) good set leased = stays_leased n s l (put_file (length files) l current (file_at fh)) (λ id. ⊥) good (plan_own n files others s l current (PutFh fh) good) (λ id never. absurd never) (put_stays (length files) l current (file_at fh)) leased
item_leased n files others s l current GetFh good set leased = stays_leased n s l (get_fh l current) (λ id. ⊥) good (plan_own n files others s l current GetFh good) (λ id never. absurd never) (get_stays l current) leased
item_leased n files others s l current (Lookup name) good set leased = stays_leased n s l (look_up files l current name) (λ id. ⊥) good (plan_own n files others s l current (Lookup name) good) (λ id never. absurd never) (look_stays files l current name) leased
item_leased n files others s l current (SetClientId a) good set leased =
    let m = without_named a.id l in
    let kept = number_kept a.verifier (find (is_client_named a.id true) m.clients) in
    plan_leased n s l (set_by s m current a kept) (λ id. ⊥) good (plan_own n files others s l current (SetClientId a) good) (λ id never. absurd never) (λ id. set_confirmed n s l m current a kept id ∙ found_goes l (find (is_client_named a.id false) l.clients) id) leased
item_leased n files others s l current (SetClientIdConfirm a) good set leased = number_leased n s l current a.verifier (number_in s a.clientid) set leased
item_leased n files others s l current (Renew clientid) good set leased = stays_leased n s l (renew_number l current (number_in s clientid)) (is_named s l clientid true) good (plan_own n files others s l current (Renew clientid) good) (λ id is. numbered_confirmed l.clients _ id set.apart is) (renew_stays l current (number_in s clientid)) leased
item_leased n files others s l current (Open a) good set leased = stays_leased n s l (planned files others s l current (Open a)) (λ id. is_named s l a.owner.clientid true id ⊎ is_claimant s l a.claim id) good (plan_own n files others s l current (Open a) good) (λ id is. opener_confirmed s l a.owner.clientid a.claim id set.apart is) (open_stays files others s l current a) leased
item_leased n files others s l current (OpenConfirm a) good set leased = stays_leased n s l (planned files others s l current (OpenConfirm a)) (is_holder s l a.stateid) good (plan_own n files others s l current (OpenConfirm a) good) (λ id is. numbered_confirmed l.clients _ id set.apart is) (confirm_stays s l current a) leased
item_leased n files others s l current (OpenDowngrade a) good set leased = stays_leased n s l (planned files others s l current (OpenDowngrade a)) (is_holder s l a.stateid) good (plan_own n files others s l current (OpenDowngrade a) good) (λ id is. numbered_confirmed l.clients _ id set.apart is) (downgrade_stays s l current a) leased
item_leased n files others s l current (Close a) good set leased = stays_leased n s l (planned files others s l current (Close a)) (is_holder s l a.stateid) good (plan_own n files others s l current (Close a) good) (λ id is. numbered_confirmed l.clients _ id set.apart is) (close_stays s l current a) leased
item_leased n files others s l current (DelegReturn stateid) good set leased = stays_leased n s l (planned files others s l current (DelegReturn stateid)) (is_holder s l stateid) good (plan_own n files others s l current (DelegReturn stateid) good) (λ id is. numbered_confirmed l.clients _ id set.apart is) (return_stays s l current stateid) leased
item_leased n files others s l current (Lock a) good set leased = stays_leased n s l (planned files others s l current (Lock a)) (is_locker s l a.locker) good (plan_own n files others s l current (Lock a) good) (λ id is. locker_confirmed s l a.locker id set.apart is) (lock_stays s l current a) leased
item_leased n files others s l current (LockT a) good set leased = stays_leased n s l (planned files others s l current (LockT a)) (is_named s l a.owner.clientid true) good (plan_own n files others s l current (LockT a) good) (λ id is. numbered_confirmed l.clients _ id set.apart is) (test_stays s l current a) leased
item_leased n files others s l current (LockU a) good set leased = stays_leased n s l (planned files others s l current (LockU a)) (is_holder s l a.stateid) good (plan_own n files others s l current (LockU a) good) (λ id is. numbered_confirmed l.clients _ id set.apart is) (unlock_stays s l current a) leased
item_leased n files others s l current (ReleaseLockOwner a) good set leased = stays_leased n s l (planned files others s l current (ReleaseLockOwner a)) (is_named s l a.clientid true) good (plan_own n files others s l current (ReleaseLockOwner a) good) (λ id is. numbered_confirmed l.clients _ id set.apart is) (release_stays s l current a) leased
item_leased n files others s l current (Illegal number) good set leased = leased
item_leased n files others s l current (NotSupported number) good set leased = leased

-- ---- a request

-- the state is good, owners and stateids are orderly, each client has just the delegations that its caches are, and those whose
-- record is confirmed have a lease
record IsRun (s : CoreState) (l : NfsLists) : Type 0 where
  good : IsGood s
  orderly : IsOrderly l
  tied : AreTied s l
  leased : AreLeased s l

item_runs : (n : ℕ) (files : List (List ℕ)) (others : ℕ) (s : CoreState) (l : NfsLists) (current : Option ℕ) (item : OpItem) → IsRun s l → (let r = carried n s l (planned files others s l current item) in IsRun r.4 r.3)
item_runs n files others s l current item is = record {
  good = item_good n files others s l current item is.good;
  orderly = item_orderly n files others s l current item is.orderly;
  tied = item_tied n files others s l current item is.good is.orderly is.tied;
  leased = item_leased n files others s l current item is.good is.tied.set.clients is.leased;
}

call_leased : (n : ℕ) (files : List (List ℕ)) (others : ℕ) (f : FrontNfs) (s : CoreState) (xid : ℕ) (called : Called) → IsRun s f.state → AreLeased (replied n files others f s xid called).3 (replied n files others f s xid called).2.state
call_leased n files others f s xid (Compound tag steps) is = (compound_keeps IsRun n files others s f.state steps (λ t m current op run. item_runs n files others t m current op run) is).leased
call_leased n files others f s xid Garbage is = is.leased
call_leased n files others f s xid Nothing is = is.leased
call_leased n files others f s xid (Refused tag status) is = is.leased

pub request_leased : (n : ℕ) (exports : Exports) (others : ℕ) (f : FrontNfs) (s : CoreState) (conn : ℕ) (r : RequestItem) → IsGood s → IsOrderly f.state → AreTied s f.state → AreLeased s f.state → AreLeased (nfs_step n exports others f s conn r).3 (nfs_step n exports others f s conn r).2.state
unfolding nfs_step
request_leased n exports others f s conn r good orderly tied leased = call_leased n exports.files others f s r.xid (call_in r) (record { good = good; orderly = orderly; tied = tied; leased = leased })

-- ---- a start, and time

pub start_leased : (stable : Stable) (clock : Moment) (times : Times) → AreLeased (started stable clock times) empty_nfs_front.state
start_leased stable clock times = λ id. refl

confirmed_stays : (now : Moment) (r : ClientRow) → r.confirmed ≡ true → is_due now r ≡ false
confirmed_stays now r sure = rw sure refl

pub tick_leased : (gone : List (List ℕ)) (s : CoreState) (f : FrontNfs) (now : Moment) → AreLeasedBut gone s f.state → AreLeasedBut gone s (nfs_tick f now).state
unfolding nfs_tick
tick_leased gone s f now leased = record {
  over = leased.over;
  leased = λ id apart. leased.leased id apart ∙ sym (unconfirmed_go f.state.clients (is_due now) id (λ r sure. confirmed_stays now r sure));
}

-- ---- clients that expire

expired_by : (s : CoreState) (gone : List (List ℕ)) (l : NfsLists) (id : List ℕ) (x : Option ClientRow) → find (is_client_named id true) l.clients ≡ x → AreSet s.counter l → AreLeasedBut (id ∷ gone) s l → AreLeasedBut gone s (forgotten l x)
expired_by s gone l id x e set leased = record {
  over = λ other there. leased.over other (inr there);
  leased = λ other apart. by other apart (cases_Bool (bytes_eq other id));
}
  where
    none : (y : Option ClientRow) → find (is_client_named id true) l.clients ≡ y → is_confirmed (forgotten l y).clients id ≡ false
    none None f = ap is_some f
    none (Some r) f =
        let at = found_in (is_client_named id true) l.clients r f in
        let is = named_is id r at.1 in
        ap (is_confirmed (forgotten l (Some r)).clients) is.0 ∙ ap is_some (own_gone s.counter l r at.0 is.1 set)

    same : (y : Option ClientRow) → find (is_client_named id true) l.clients ≡ y → (other : List ℕ) → (other ≡ id → ⊥) → is_confirmed (forgotten l y).clients other ≡ is_confirmed l.clients other
    same None f other differs = refl
    same (Some r) f other differs =
        let at = found_in (is_client_named id true) l.clients r f in
        let is = named_is id r at.1 in
        others_confirmed l.clients (is_client r.number true) id other (λ c there numbered. ap (λ (q : ClientRow). q.id) (one_client l.clients c r set.clients.apart there at.0 (numbered_is r.number c numbered).1 is.1 (sym (numbered_is r.number c numbered).0)) ∙ sym is.0) differs

    either : (other : List ℕ) → (other ≡ id → ⊥) → (IsIn other gone → ⊥) → IsIn other (id ∷ gone) → ⊥
    either other differs apart (inl its) = differs (sym its)
    either other differs apart (inr there) = apart there

    by : (other : List ℕ) → (IsIn other gone → ⊥) → ((bytes_eq other id ≡ true) ⊎ (bytes_eq other id ≡ false)) → has_lease s.leases other ≡ is_confirmed (forgotten l x).clients other
    by other apart (inl h) =
        let is = (bytes_decides other id).0 h in
        leased.over other (inl (sym is)) ∙ sym (ap (is_confirmed (forgotten l x).clients) is ∙ none x e)
    by other apart (inr h) =
        let differs : other ≡ id → ⊥ = λ f. true≢false (sym ((bytes_decides other id).1 f) ∙ h) in
        leased.leased other (either other differs apart) ∙ sym (same x e other differs)

pub expired_leased : (s : CoreState) (gone : List (List ℕ)) (f : FrontNfs) (id : List ℕ) → AreSet s.counter f.state → AreLeasedBut (id ∷ gone) s f.state → AreLeasedBut gone s (nfs_shown f (Expired id)).state
unfolding nfs_shown
expired_leased s gone f id set leased = expired_by s gone f.state id (find (is_client_named id true) f.state.clients) refl set leased

-- a client expires in the core: its lease is over, and the others' run on
pub expires_leased : (gone : List (List ℕ)) (s t : CoreState) (l : NfsLists) (id : List ℕ) → t.leases ≡ without_lease id s.leases → AreLeasedBut gone s l → AreLeasedBut (id ∷ gone) t l
expires_leased gone s t l id is leased = record {
  over = λ other there. at other ∙ over other there (cases_Bool (bytes_eq other id));
  leased = λ other apart. at other ∙ others_run s.leases id other (λ f. apart (inl (sym f))) ∙ leased.leased other (λ there. apart (inr there));
}
  where
    at : (other : List ℕ) → has_lease t.leases other ≡ has_lease (without_lease id s.leases) other
    at other = ap (λ (ls : List Lease). has_lease ls other) is

    own : (other : List ℕ) → other ≡ id → has_lease (without_lease id s.leases) other ≡ false
    own other f = ap (has_lease (without_lease id s.leases)) f ∙ lease_over s.leases id

    over : (other : List ℕ) → IsIn other (id ∷ gone) → ((bytes_eq other id ≡ true) ⊎ (bytes_eq other id ≡ false)) → has_lease (without_lease id s.leases) other ≡ false
    over other there (inl h) = own other ((bytes_decides other id).0 h)
    over other (inl same) (inr h) = own other (sym same)
    over other (inr there) (inr h) = others_run s.leases id other (λ f. true≢false (sym ((bytes_decides other id).1 f) ∙ h)) ∙ leased.over other there
