-- Each client has just the delegations that its caches are, whatever a request comes to, and as time passes.
use Rattle.std.proofs.Common.{Bool, List, None, Option, Some, [], ap, arith, false, inl, inr, is_some, length, not, option_map, refl, subst, sym, true, true≢false, ℕ, ◌++◌, ◌+◌, ◌∙◌, ◌∷◌, ◌≡◌, ◌≤◌}
use Rattle.std.proofs.lemmas.Bool.{and_from, and_parts, cases_Bool, eq-eqb, eqb-true}
use Rattle.std.proofs.lemmas.Option.{same_Some}
use Rattle.std.specs.Bool.{beq, ◌==◌}
use Rattle.std.specs.Cmp.Lexicographic.{bytes_decides}
use Rattle.std.specs.List.{AllByRecursion, find, slice_get}
use Rattle.std.specs.Option.{option_and_then}
use Rattle.std.specs.Prelude.{bytes_eq, if◌then◌else◌, nat_le, ◌<◌, ◌⊎◌}
use Rattle.xl_base.proofs.Members.{all_append, all_from, all_in, all_weaker, in_filter_from, pairwise_append, pairwise_filter}
use Rattle.xl_base.specs.Handles.{file_at}
use Rattle.xl_base.specs.Lists.{IsIn, Pairwise}
use Rattle.xl_base.specs.declared.event.Moment.{Moment}
use Rattle.xl_base.specs.declared.journal.Exports.{Exports}
use Rattle.xl_base.specs.Stable.{is_recorded}
use Rattle.xl_base.specs.declared.name.Party.{Party}
use Rattle.xl_base.specs.declared.name.Party.TheVariants as parties
use Rattle.xl_base.specs.declared.name.Protocol.TheVariants.{Nfs, Nlm, Smb}
use Rattle.xl_nfs.specs.Clients.{SetClientIdArgsItem}
use Rattle.xl_nfs.specs.Ops.{Close, DelegReturn, GetFh, Illegal, Lock, LockT, LockU, Lookup, NotSupported, OpItem, Open, OpenConfirm, OpenDowngrade, PutFh, PutRootFh, ReleaseLockOwner, Renew, SetClientId, SetClientIdConfirm}
use Rattle.xl_nfs_state.proofs.AnyLaws.{all_left}
use Rattle.xl_nfs_state.specs.Rows.{with_details}
use Rattle.xl_nfs_state.specs.State.{NfsLists, delegated_on, is_client, is_client_named, is_due, with_clients, without, without_client}
use Rattle.xl_nfs_state.specs.declared.client.ClientRow.{ClientRow}
use Rattle.xl_nfs_state.specs.declared.owner.OwnerRow.{OwnerRow}
use Rattle.xl_nfs_state.specs.Keys.{held_at as place_at, same_place}
use Rattle.xl_nfs_state.specs.declared.stateid.Holder.{Holder}
use Rattle.xl_nfs_state.specs.declared.stateid.Holder.TheVariants as holders
use Rattle.xl_nfs_state.specs.declared.stateid.Place.TheVariants.{Delegated}
use Rattle.xl_nfs_state.specs.declared.stateid.StateidRow.{StateidRow}
use Rattle.xl_core.proofs.DeedLeaves.{found_in}
use Rattle.xl_names.proofs.NameLaws.{number_at}
use Rattle.xl_names.specs.declared.name.Name.{Name}
use Rattle.xl_names.specs.declared.name.Name.TheVariants.{NfsParty, NfsRange, NfsShare, NlmParty, NlmRange, NlmShare, SmbLease}
use Rattle.xl_programs.specs.Programs.{RequestItem}
use Rattle.xl_core.specs.Askers.{party_named}
use Rattle.xl_core.specs.Deeds.{AreFit, Deed, Draws, Ends, Expires, Lapses, Renews, all_done, caches_without, caches_without_party, done}
use Rattle.xl_core.specs.Good.{IsGood, caches_of}
use Rattle.xl_core.specs.State.{CoreState, drawn, started}
use Rattle.xl_core.specs.declared.ask.Effect.TheVariants.{Expired}
use Rattle.xl_nfs_laws.proofs.CalmLockLaws.{lock_tied, release_tied, test_tied, unlock_tied}
use Rattle.xl_nfs_laws.proofs.CalmOpenLaws.{close_tied, confirm_tied, downgrade_tied, tied_by}
use Rattle.xl_nfs_laws.proofs.GivenDelegationLaws.{find_behind, find_last as last_found, itself_named, named_found, named_is, numbered_is, one_client}
use Rattle.xl_nfs_laws.proofs.OpenDelegationLaws.{open_tied, return_tied}
use Rattle.xl_nfs_laws.proofs.OpenOrderLaws.{none_in}
use Rattle.xl_plan.proofs.BudgetLaws.{drawn_number}
use Rattle.xl_nfs_laws.proofs.QuietCacheLaws.{IsLeft, IsQuiet, all_quiet, deed_leaves, find_gone_in, find_kept, named_held}
use Rattle.xl_nfs_laws.proofs.StillDelegatedLaws.{AreStill, details_still, later_set, still_kept, still_self, still_then}
use Rattle.xl_nfs_laws.specs.Delegated.{AreDelegated, AreSet, AreTied, AreTiedBut, IsShut, clients_apart, delegation_held, delegation_kept, delegation_numbered, is_one_client, is_open_still, number_confirmed, written_by}
use Rattle.xl_nfs_opens.specs.Files.{file_named}
use Rattle.xl_core.specs.Ids.{number_in}
use Rattle.xl_nfs_laws.specs.Orderly.{IsOrderly}
use Rattle.xl_nfs_opens.specs.Plans.{Plan, carried}
use Rattle.xl_nfs_laws.proofs.RequestOrderLaws.{item_orderly}
use Rattle.xl_front_nfs.specs.Clients.{come, come_again, confirm_found, confirm_held, confirm_number, confirm_over, confirmed_by, confirmed_row, draws, ends, has_room, number_kept, numbers, record_end, renew, renew_found, renew_number, row_of, set_by, set_client_id, set_client_id_confirm, set_under, with_row, without_found, without_named, without_number}
use Rattle.xl_front_nfs.specs.FrontNfs.{Called, Compound, Garbage, Null, Refused, call_in, nfs_step, replied}
use Rattle.xl_front_nfs.specs.Handles.{found_file, get_fh, look_up, put_fh, put_file, put_root_fh}
use Rattle.xl_front_nfs.specs.State.{FrontNfs, empty_nfs_front, forgotten, nfs_shown, nfs_tick}
use Rattle.xl_front_nfs.specs.Steps.{planned}
use Rattle.xl_nfs_laws.proofs.RequestDeedLaws.{compound_keeps}
use Rattle.xl_base.specs.Stable.{Stable}
use Rattle.xl_matrix.specs.Blocks.{is_cache}
use Rattle.xl_matrix.specs.declared.claim.CacheKind.{CacheKind}
use Rattle.xl_matrix.specs.declared.claim.Claim.{Claim}
use Rattle.xl_core.proofs.FrameLaws.{end_party_frame}
use Rattle.xl_core.specs.BreakAnswers.{client_of, due, id_of}
use Rattle.xl_core.specs.Leases.{ended}
use Rattle.xl_core.specs.Settle.{end_party}
use Rattle.xl_core.specs.Stores.{client_name, stored}
use Rattle.xl_core.specs.Ticks.{end_some, expire, lapse, lapsed_by, unleased, barred, forgotten as forgotten_client, gone_client}
use Rattle.xl_core.specs.declared.lease.Times.{Times}
use Rattle.xl_nfs_opens.specs.Opens.{cache_by, cache_held, delegation_in}
use Rattle.xl_nfs_laws.proofs.RequestNumberLaws.{item_good}
use Rattle.xl_nfs_laws.proofs.RecallLaws.{below_is}
use Rattle.xl_front_nfs.specs.Recalls.{IsRecalledOnce, client_by, recall_out, recalled_as, recalled_from, recalls}

-- ---- where nothing is done to the core

abbrev Ties : ℕ → CoreState → NfsLists → Plan → Type 0
Ties n s l plan = AreTied (carried n s l plan).4 (carried n s l plan).3

stays_quiet : (s : CoreState) → IsGood s → IsQuiet s s
stays_quiet s good = record { good = good; later = omega arith; held = λ id file. refl }

lists_tied : (s : CoreState) (l m : NfsLists) → IsGood s → AreTied s l → AreStill s.counter l m → AreTied s m
lists_tied s l m good tied still = tied_by s s s.counter l m tied (stays_quiet s good) (omega arith) still

-- ---- operations on handles

put_tied : (n : ℕ) (s : CoreState) (count : ℕ) (l : NfsLists) (current o : Option ℕ) → AreTied s l → Ties n s l (put_file count l current o)
put_tied n s count l current None tied = tied
put_tied n s count l current (Some file) tied = elim (cases_Bool (nat_le file count)) [ inl e ↦ rw e tied | inr e ↦ rw e tied ]

get_tied : (n : ℕ) (s : CoreState) (l : NfsLists) (current : Option ℕ) → AreTied s l → Ties n s l (get_fh l current)
unfolding get_fh
get_tied n s l None tied = tied
get_tied n s l (Some file) tied = tied

found_tied : (n : ℕ) (s : CoreState) (l : NfsLists) (current o : Option ℕ) → AreTied s l → Ties n s l (found_file l current o)
found_tied n s l current None tied = tied
found_tied n s l current (Some file) tied = tied

look_tied : (n : ℕ) (s : CoreState) (files : List (List ℕ)) (l : NfsLists) (current : Option ℕ) (name : List ℕ) → AreTied s l → Ties n s l (look_up files l current name)
unfolding look_up
look_tied n s files l None name tied = tied
look_tied n s files l (Some file) name tied =
    elim (cases_Bool (file == 0)) [
      | inr e ↦ rw e tied
      | inl e ↦ rw e (elim (cases_Bool (length name == 0)) [
        | inl d ↦ rw d tied
        | inr d ↦ rw d (found_tied n s l (Some file) (file_named files name) tied)
      ])
    ]

-- ---- records that come and go unconfirmed

-- records that aren't confirmed go
unconfirmed_still : (last : ℕ) (drops : ClientRow → Bool) (l : NfsLists) → ((r : ClientRow) → r.confirmed ≡ true → drops r ≡ false) → AreSet last l → AreStill last l (with_clients l (without drops l.clients))
unconfirmed_still last drops l stays set = record {
  set = record {
    given = set.given;
    shut = set.shut;
    clients = record {
      apart = pairwise_filter clients_apart (λ (r : ClientRow). not (drops r)) l.clients set.clients.apart;
      one = pairwise_filter is_one_client (λ (r : ClientRow). not (drops r)) l.clients set.clients.one;
      given = all_left (λ (r : ClientRow). r.number ≤ last) (λ (r : ClientRow). r.number ≤ last) drops l.clients (λ r left h. h) set.clients.given;
    };
  };
  rows = λ file number. refl;
  names = λ id. ap (option_map (λ (r : ClientRow). r.number)) (find_kept (is_client_named id true) (λ (r : ClientRow). not (drops r)) l.clients (λ r there named. ap not (stays r (named_is id r named).1)));
}

not_number : (number : ℕ) (r : ClientRow) → r.confirmed ≡ true → is_client number false r ≡ false
not_number number r sure =
    elim (cases_Bool (number == r.number)) [
      | inl e ↦ rw (e, sure) refl
      | inr e ↦ rw e refl
    ]

number_still : (last number : ℕ) (l : NfsLists) → AreSet last l → AreStill last l (without_number number l)
number_still last number l set = unconfirmed_still last (is_client number false) l (λ r sure. not_number number r sure) set

found_still : (last : ℕ) (l : NfsLists) (o : Option ClientRow) → AreSet last l → AreStill last l (without_found l o)
found_still last l None set = still_self last l set
found_still last l (Some r) set = number_still last r.number l set

-- one comes, not confirmed, of a number that is its id string's
comes_still : (last : ℕ) (l : NfsLists) (row : ClientRow) → row.confirmed ≡ false → row.number ≤ last → AllByRecursion (λ r. is_one_client r row ≡ true) l.clients → AreSet last l → AreStill last l (with_row l row)
comes_still last l row unsure le one set = record {
  set = record {
    given = set.given;
    shut = set.shut;
    clients = record {
      apart = pairwise_append clients_apart l.clients (row ∷ []) set.clients.apart (tt, tt) (λ x y here there. elim there [ inl same ↦ apart x y (ap (λ (r : ClientRow). r.confirmed) (sym same) ∙ unsure) | inr nowhere ↦ absurd nowhere ]);
      one = pairwise_append is_one_client l.clients (row ∷ []) set.clients.one (tt, tt) (λ x y here there. elim there [ inl same ↦ subst (λ (r : ClientRow). is_one_client x r ≡ true) same (all_in (λ r. is_one_client r row ≡ true) x l.clients one here) | inr nowhere ↦ absurd nowhere ]);
      given = all_append (λ (r : ClientRow). r.number ≤ last) l.clients (row ∷ []) set.clients.given (le, tt);
    };
  };
  rows = λ file number. refl;
  names = λ id. ap (option_map (λ (r : ClientRow). r.number)) (behind id l.clients);
}
  where
    apart : (x y : ClientRow) → y.confirmed ≡ false → clients_apart x y ≡ true
    apart x y e = elim (cases_Bool x.confirmed) [ inl d ↦ rw (d, e) refl | inr d ↦ rw d refl ]

    other : (id : List ℕ) → is_client_named id true row ≡ false
    other id =
        elim (cases_Bool (bytes_eq id row.id)) [
          | inl e ↦ rw (e, unsure) refl
          | inr e ↦ rw e refl
        ]

    behind : (id : List ℕ) (cs : List ClientRow) → find (is_client_named id true) (cs ++ row ∷ []) ≡ find (is_client_named id true) cs
    behind id [] = rw (other id) refl
    behind id (c ∷ cs) =
        elim (cases_Bool (is_client_named id true c)) [
          | inl e ↦ rw e refl
          | inr e ↦ rw e (behind id cs)
        ]

alike_ids : (a b : ClientRow) → is_one_client a b ≡ true → a.number ≡ b.number → a.id ≡ b.id
alike_ids a b one same = (bytes_decides a.id b.id).0 (let e = eq-eqb a.number b.number same in rw e at one)

-- records of one number are of one id string
pub one_id : (cs : List ClientRow) (a b : ClientRow) → Pairwise is_one_client cs → IsIn a cs → IsIn b cs → a.number ≡ b.number → a.id ≡ b.id
one_id [] a b one here there same = absurd here
one_id (x ∷ xs) a b one (inl e) (inl f) same = ap (λ (r : ClientRow). r.id) (sym e ∙ f)
one_id (x ∷ xs) a b one (inr e) (inr f) same = one_id xs a b one.1 e f same
one_id (x ∷ xs) a b one (inl e) (inr f) same = ap (λ (r : ClientRow). r.id) (sym e) ∙ alike_ids x b (all_in (λ (r : ClientRow). is_one_client x r ≡ true) b xs one.0 f) (ap (λ (r : ClientRow). r.number) e ∙ same)
one_id (x ∷ xs) a b one (inr e) (inl f) same = sym (ap (λ (r : ClientRow). r.id) (sym f) ∙ alike_ids x a (all_in (λ (r : ClientRow). is_one_client x r ≡ true) a xs one.0 e) (ap (λ (r : ClientRow). r.number) f ∙ sym same))

-- ---- RENEW and SETCLIENTID

renews_tied : (n : ℕ) (s : CoreState) (l m : NfsLists) (id : List ℕ) → IsGood s → AreTied s l → AreStill s.counter l m → AreTied (all_done n s (Renews id ∷ [])) m
renews_tied n s l m id good tied still =
    let quiet = all_quiet n s (Renews id ∷ []) good (tt, tt) (tt, tt) in
    tied_by s (all_done n s (Renews id ∷ [])) s.counter l m tied quiet quiet.later still

renew_tied : (n : ℕ) (s : CoreState) (l : NfsLists) (current x : Option ℕ) → IsGood s → AreTied s l → Ties n s l (renew_number l current x)
renew_tied n s l current None good tied = tied
renew_tied n s l current (Some number) good tied = by (find (is_client number true) l.clients)
  where
    by : (o : Option ClientRow) → Ties n s l (renew_found l current o)
    by None = tied
    by (Some r) = renews_tied n s l l r.id good tied (still_self s.counter l tied.set)

above_one : (last number : ℕ) (r row : ClientRow) → r.number ≤ last → last < row.number → is_one_client r row ≡ true
above_one last number r row le above =
    elim (cases_Bool (r.number == row.number)) [
      | inl e ↦ absurd (omega (arith, eqb-true r.number row.number e, le, above))
      | inr e ↦ rw e refl
    ]

set_tied : (n : ℕ) (s : CoreState) (k l : NfsLists) (current : Option ℕ) (a : SetClientIdArgsItem) (x : Option ClientRow) → find (is_client_named a.id true) l.clients ≡ x → IsGood s → AreTied s l → Ties n s k (set_by s l current a (number_kept a.verifier x))
set_tied n s k l current a x e good tied =
    elim (cases_Bool (has_room l)) [
      | inr full ↦ rw full tied
      | inl room ↦ rw room (by x e)
    ]
  where
    time : Moment
    time = record_end s

    new : AreTied (all_done n s (Draws ∷ Draws ∷ [])) (set_under time l a (s.counter + 1) (s.counter + 2))
    new =
        let quiet = all_quiet n s (Draws ∷ Draws ∷ []) good (tt, (tt, tt)) (tt, (tt, tt)) in
        let m : NfsLists = without_number (s.counter + 1) l in
        let row = row_of time a (s.counter + 1) (s.counter + 2) in
        let one = number_still s.counter (s.counter + 1) l tied.set in
        let up : AreSet (s.counter + 1) m = later_set s.counter (s.counter + 1) m (omega arith) one.set in
        let two = comes_still (s.counter + 1) m row refl (omega arith) (all_weaker (λ (r : ClientRow). r.number ≤ s.counter) (λ (r : ClientRow). is_one_client r row ≡ true) m.clients (λ r le. above_one s.counter (s.counter + 1) r row le (omega arith)) one.set.clients.given) up in
        let rises : s.counter + 1 ≤ (all_done n s (Draws ∷ Draws ∷ [])).counter = omega (arith, drawn_number s, drawn_number (drawn s)) in
        tied_by s (all_done n s (Draws ∷ Draws ∷ [])) (s.counter + 1) l (with_row m row) tied quiet rises (still_then s.counter (s.counter + 1) l m (with_row m row) one two)

    again : (r : ClientRow) → find (is_client_named a.id true) l.clients ≡ Some r → AreTied (all_done n s (Draws ∷ [])) (set_under time l a r.number (s.counter + 1))
    again r f =
        let found = found_in (is_client_named a.id true) l.clients r f in
        let quiet = all_quiet n s (Draws ∷ []) good (tt, tt) (tt, tt) in
        let m : NfsLists = without_number r.number l in
        let row = row_of time a r.number (s.counter + 1) in
        let one = number_still s.counter r.number l tied.set in
        let le : r.number ≤ s.counter = all_in (λ (q : ClientRow). q.number ≤ s.counter) r l.clients tied.set.clients.given found.0 in
        let two = comes_still s.counter m row refl le (all_from (λ (q : ClientRow). is_one_client q row ≡ true) m.clients (λ q here. same q (in_filter_from (λ (c : ClientRow). not (is_client r.number false c)) q l.clients here).0)) one.set in
        tied_by s (all_done n s (Draws ∷ [])) s.counter l (with_row m row) tied quiet quiet.later (still_then s.counter s.counter l m (with_row m row) one two)
      where
        same : (q : ClientRow) → IsIn q l.clients → is_one_client q (row_of time a r.number (s.counter + 1)) ≡ true
        same q here =
            elim (cases_Bool (q.number == r.number)) [
              | inr other ↦ rw other refl
              | inl equal ↦
                  let found = found_in (is_client_named a.id true) l.clients r f in
                  let is : q.id ≡ a.id = one_id l.clients q r tied.set.clients.one here found.0 (eqb-true q.number r.number equal) ∙ sym (named_is a.id r found.1).0 in
                  rw (equal, (bytes_decides q.id a.id).1 is) refl
            ]

    by : (y : Option ClientRow) → find (is_client_named a.id true) l.clients ≡ y → AreTied (all_done n s (draws (number_kept a.verifier y))) (set_under time l a (numbers s.counter (number_kept a.verifier y)).0 (numbers s.counter (number_kept a.verifier y)).1)
    by None f = new
    by (Some r) f =
        elim (cases_Bool (bytes_eq r.details.verifier a.verifier)) [
          | inl h ↦ rw h (again r f)
          | inr h ↦ rw h new
        ]

-- ---- a client that goes

-- without the client and all that is its
module _ (last : ℕ) (l : NfsLists) (o : ClientRow) (here : IsIn o l.clients) (sure : o.confirmed ≡ true) (set : AreSet last l) where
  abbrev left : NfsLists
  left = without_client o.number l

  left_set : AreSet last left
  left_set = record {
    given = all_left (λ (r : StateidRow). r.number ≤ last) (λ (r : StateidRow). r.number ≤ last) (λ r. o.number == r.client) l.stateids (λ r stays h. h) set.given;
    shut = all_left (λ (x : OwnerRow). IsShut last l.stateids x.seqids.closed) (λ (x : OwnerRow). IsShut last left.stateids x.seqids.closed) (λ x. o.number == x.name.client) l.owners (λ x stays h. record {
      given = h.given;
      other = all_left (λ (r : StateidRow). is_open_still x.seqids.closed r ≡ true) (λ (r : StateidRow). is_open_still x.seqids.closed r ≡ true) (λ r. o.number == r.client) l.stateids (λ r stays h. h) h.other;
    }) set.shut;
    clients = record {
      apart = pairwise_filter clients_apart (λ (r : ClientRow). not (is_client o.number true r)) l.clients set.clients.apart;
      one = pairwise_filter is_one_client (λ (r : ClientRow). not (is_client o.number true r)) l.clients set.clients.one;
      given = all_left (λ (r : ClientRow). r.number ≤ last) (λ (r : ClientRow). r.number ≤ last) (is_client o.number true) l.clients (λ r stays h. h) set.clients.given;
    };
  }

  pub own_gone : find (is_client_named o.id true) left.clients ≡ None
  own_gone = find_gone_in (is_client_named o.id true) (λ (r : ClientRow). not (is_client o.number true r)) l.clients (λ r there named. ap not (its r there named))
    where
      its : (r : ClientRow) → IsIn r l.clients → is_client_named o.id true r ≡ true → is_client o.number true r ≡ true
      its r there named =
          let is = named_is o.id r named in
          let first = named_found l.clients r set.clients.apart there is.1 in
          let second = named_found l.clients o set.clients.apart here sure in
          let same : r ≡ o = same_Some r o (sym first ∙ ap (λ (id : List ℕ). find (is_client_named id true) l.clients) (sym is.0) ∙ second) in
          and_from (o.number == r.number) (beq true r.confirmed) (eq-eqb o.number r.number (ap (λ (x : ClientRow). x.number) (sym same))) (rw is.1 refl)

  others_stay : (id : List ℕ) → (id ≡ o.id → ⊥) → number_confirmed left.clients id ≡ number_confirmed l.clients id
  others_stay id other = ap (option_map (λ (r : ClientRow). r.number)) (find_kept (is_client_named id true) (λ (r : ClientRow). not (is_client o.number true r)) l.clients (λ r there named. ap not (stays r there named)))
    where
      stays : (r : ClientRow) → IsIn r l.clients → is_client_named id true r ≡ true → is_client o.number true r ≡ false
      stays r there named =
          elim (cases_Bool (is_client o.number true r)) [
            | inr e ↦ e
            | inl e ↦
                let is = named_is id r named in
                let same = one_client l.clients r o set.clients.apart there here is.1 sure (sym (numbered_is o.number r e).0) in
                absurd (other (is.0 ∙ ap (λ (x : ClientRow). x.id) same))
          ]

-- what stands in a client's place is the client's
placed_client : (number file : ℕ) (r : StateidRow) → delegated_on number file r ≡ true → number ≡ r.client
placed_client number file r on = by r.holder on
  where
    by : (h : Holder) → same_place (Delegated number file) (place_at h r.client r.file) ≡ true → number ≡ r.client
    by (holders.Open owner) e = absurd (true≢false (sym e))
    by (holders.Lock owner under opener) e = absurd (true≢false (sym e))
    by (holders.Delegation write) e = eqb-true number r.client (and_parts (number == r.client) (file == r.file) e).0

-- a client's delegations stay where another's stateids go
rows_stay : (l : NfsLists) (gone file number : ℕ) → (gone == number) ≡ false → delegation_numbered (without (λ (r : StateidRow). gone == r.client) l.stateids) file number ≡ delegation_numbered l.stateids file number
rows_stay l gone file number other = ap (option_and_then (λ (r : StateidRow). written_by r.holder)) (find_kept (delegated_on number file) (λ (r : StateidRow). not (gone == r.client)) l.stateids (λ r there on. ap not (ap (λ (k : ℕ). gone == k) (sym (placed_client number file r on)) ∙ other)))

rows_gone : (l : NfsLists) (file number : ℕ) → delegation_numbered (without (λ (r : StateidRow). number == r.client) l.stateids) file number ≡ None
rows_gone l file number = ap (option_and_then (λ (r : StateidRow). written_by r.holder)) (find_gone_in (delegated_on number file) (λ (r : StateidRow). not (number == r.client)) l.stateids (λ r there on. ap not (eq-eqb number r.client (placed_client number file r on))))

-- what the others have stays, and of the client nothing is left
gone_kept : (last : ℕ) (l : NfsLists) (o : ClientRow) → IsIn o l.clients → o.confirmed ≡ true → AreSet last l → (id : List ℕ) (file : ℕ) → (id ≡ o.id → ⊥) → delegation_kept (without_client o.number l) id file ≡ delegation_kept l id file
gone_kept last l o here sure set id file other = by (find (is_client_named id true) l.clients) refl
  where
    same : number_confirmed (without_client o.number l).clients id ≡ number_confirmed l.clients id
    same = others_stay last l o here sure set id other

    by : (x : Option ClientRow) → find (is_client_named id true) l.clients ≡ x → delegation_kept (without_client o.number l) id file ≡ delegation_kept l id file
    by None e =
        ap (option_and_then (delegation_numbered (without_client o.number l).stateids file)) (same ∙ ap (option_map (λ (r : ClientRow). r.number)) e)
        ∙ sym (ap (option_and_then (delegation_numbered l.stateids file)) (ap (option_map (λ (r : ClientRow). r.number)) e))
    by (Some r) e =
        let found = found_in (is_client_named id true) l.clients r e in
        let is = named_is id r found.1 in
        let differs : (o.number == r.number) ≡ false = elim (cases_Bool (o.number == r.number)) [
          | inr d ↦ d
          | inl d ↦ absurd (other (is.0 ∙ ap (λ (x : ClientRow). x.id) (one_client l.clients r o set.clients.apart found.0 here is.1 sure (sym (eqb-true o.number r.number d)))))
        ] in
        ap (option_and_then (delegation_numbered (without_client o.number l).stateids file)) (same ∙ ap (option_map (λ (q : ClientRow). q.number)) e) ∙ rows_stay l o.number file r.number differs
        ∙ sym (ap (option_and_then (delegation_numbered l.stateids file)) (ap (option_map (λ (q : ClientRow). q.number)) e))

gone_none : (last : ℕ) (l : NfsLists) (o : ClientRow) → IsIn o l.clients → o.confirmed ≡ true → AreSet last l → (file : ℕ) → delegation_kept (without_client o.number l) o.id file ≡ None
gone_none last l o here sure set file = ap (λ (x : Option ClientRow). option_and_then (delegation_numbered (without_client o.number l).stateids file) (option_map (λ (r : ClientRow). r.number) x)) (own_gone last l o here sure set)

-- ---- a client that comes

module _ {A : Type 0} where
  gone_too : (p drops : A → Bool) (xs : List A) → find p xs ≡ None → find p (without drops xs) ≡ None
  gone_too p drops [] none = refl
  gone_too p drops (x ∷ xs) none =
      elim (cases_Bool (p x)) [
        | inl here ↦ (let no : Some x ≡ None = rw here at none in absurd (true≢false (ap is_some no)))
        | inr other ↦ elim (cases_Bool (drops x)) [
          | inl goes ↦ rw goes (gone_too p drops xs (rw other at none))
          | inr stays ↦ rw stays (rw other (gone_too p drops xs (rw other at none)))
        ]
      ]

-- none is confirmed of this number or id string; the client comes, and nothing that stood under its number before stays
module _ (last : ℕ) (l : NfsLists) (row : ClientRow) (sure : row.confirmed ≡ true) (unnamed : find (is_client_named row.id true) l.clients ≡ None) (unnumbered : find (is_client row.number true) l.clients ≡ None) where
  abbrev come_lists : NfsLists
  come_lists = with_row (without_client row.number l) row

  come_set : row.number ≤ last → AllByRecursion (λ r. is_one_client r row ≡ true) l.clients → AreSet last l → AreSet last come_lists
  come_set le one set =
      let cs : List ClientRow = without (is_client row.number true) l.clients in
      record {
        given = all_left (λ (r : StateidRow). r.number ≤ last) (λ (r : StateidRow). r.number ≤ last) (λ r. row.number == r.client) l.stateids (λ r stays h. h) set.given;
        shut = all_left (λ (x : OwnerRow). IsShut last l.stateids x.seqids.closed) (λ (x : OwnerRow). IsShut last come_lists.stateids x.seqids.closed) (λ x. row.number == x.name.client) l.owners (λ x stays h. record {
          given = h.given;
          other = all_left (λ (r : StateidRow). is_open_still x.seqids.closed r ≡ true) (λ (r : StateidRow). is_open_still x.seqids.closed r ≡ true) (λ r. row.number == r.client) l.stateids (λ r stays h. h) h.other;
        }) set.shut;
        clients = record {
          apart = pairwise_append clients_apart cs (row ∷ []) (pairwise_filter clients_apart (λ (r : ClientRow). not (is_client row.number true r)) l.clients set.clients.apart) (tt, tt) (λ x y here there. elim there [ inl same ↦ subst (λ (r : ClientRow). clients_apart x r ≡ true) same (apart x (in_filter_from (λ (r : ClientRow). not (is_client row.number true r)) x l.clients here).0) | inr nowhere ↦ absurd nowhere ]);
          one = pairwise_append is_one_client cs (row ∷ []) (pairwise_filter is_one_client (λ (r : ClientRow). not (is_client row.number true r)) l.clients set.clients.one) (tt, tt) (λ x y here there. elim there [ inl same ↦ subst (λ (r : ClientRow). is_one_client x r ≡ true) same (all_in (λ r. is_one_client r row ≡ true) x l.clients one (in_filter_from (λ (r : ClientRow). not (is_client row.number true r)) x l.clients here).0) | inr nowhere ↦ absurd nowhere ]);
          given = all_append (λ (r : ClientRow). r.number ≤ last) cs (row ∷ []) (all_left (λ (r : ClientRow). r.number ≤ last) (λ (r : ClientRow). r.number ≤ last) (is_client row.number true) l.clients (λ r stays h. h) set.clients.given) (le, tt);
        };
      }
    where
      apart : (x : ClientRow) → IsIn x l.clients → clients_apart x row ≡ true
      apart x here =
          elim (cases_Bool x.confirmed) [
            | inr unsure ↦ rw unsure refl
            | inl is ↦
                let named = none_in (is_client_named row.id true) l.clients x unnamed here in
                let numbered = none_in (is_client row.number true) l.clients x unnumbered here in
                let ids : bytes_eq x.id row.id ≡ false = elim (cases_Bool (bytes_eq x.id row.id)) [
                  | inr d ↦ d
                  | inl d ↦ absurd (true≢false (sym (and_from (bytes_eq row.id x.id) (beq true x.confirmed) ((bytes_decides row.id x.id).1 (sym ((bytes_decides x.id row.id).0 d))) (rw is refl)) ∙ named))
                ] in
                let numbers : (x.number == row.number) ≡ false = elim (cases_Bool (x.number == row.number)) [
                  | inr d ↦ d
                  | inl d ↦ absurd (true≢false (sym (and_from (row.number == x.number) (beq true x.confirmed) (eq-eqb row.number x.number (sym (eqb-true x.number row.number d))) (rw is refl)) ∙ numbered))
                ] in
                rw (is, sure, numbers, ids) refl
          ]

  -- it is the one of its id string
  own_named : number_confirmed come_lists.clients row.id ≡ Some row.number
  own_named = ap (option_map (λ (r : ClientRow). r.number)) (last_found (is_client_named row.id true) (without (is_client row.number true) l.clients) row (gone_too (is_client_named row.id true) (is_client row.number true) l.clients unnamed) (itself_named row sure))

  own_none : (file : ℕ) → delegation_kept come_lists row.id file ≡ None
  own_none file = ap (option_and_then (delegation_numbered come_lists.stateids file)) own_named ∙ rows_gone l file row.number

  other_kept : (id : List ℕ) (file : ℕ) → (id ≡ row.id → ⊥) → delegation_kept come_lists id file ≡ delegation_kept l id file
  other_kept id file other = by (find (is_client_named id true) l.clients) refl
    where
      off : is_client_named id true row ≡ false
      off = elim (cases_Bool (is_client_named id true row)) [ inr e ↦ e | inl e ↦ absurd (other (named_is id row e).0) ]

      unlike : (r : ClientRow) → IsIn r l.clients → is_client row.number true r ≡ false
      unlike r here = none_in (is_client row.number true) l.clients r unnumbered here

      same : find (is_client_named id true) come_lists.clients ≡ find (is_client_named id true) l.clients
      same = find_behind (is_client_named id true) (without (is_client row.number true) l.clients) row off ∙ find_kept (is_client_named id true) (λ (r : ClientRow). not (is_client row.number true r)) l.clients (λ r there on. ap not (unlike r there))

      by : (x : Option ClientRow) → find (is_client_named id true) l.clients ≡ x → delegation_kept come_lists id file ≡ delegation_kept l id file
      by None e = ap (λ (x : Option ClientRow). option_and_then (delegation_numbered come_lists.stateids file) (option_map (λ (r : ClientRow). r.number) x)) (same ∙ e) ∙ sym (ap (λ (x : Option ClientRow). option_and_then (delegation_numbered l.stateids file) (option_map (λ (r : ClientRow). r.number) x)) e)
      by (Some r) e =
          let found = found_in (is_client_named id true) l.clients r e in
          let is = named_is id r found.1 in
          let differs : (row.number == r.number) ≡ false = elim (cases_Bool (row.number == r.number)) [
            | inr d ↦ d
            | inl d ↦ absurd (true≢false (sym (and_from (row.number == r.number) (beq true r.confirmed) d (rw is.1 refl)) ∙ unlike r found.0))
          ] in
          ap (λ (x : Option ClientRow). option_and_then (delegation_numbered come_lists.stateids file) (option_map (λ (q : ClientRow). q.number) x)) (same ∙ e) ∙ rows_stay l row.number file r.number differs
          ∙ sym (ap (λ (x : Option ClientRow). option_and_then (delegation_numbered l.stateids file) (option_map (λ (q : ClientRow). q.number) x)) e)

-- ---- SETCLIENTID_CONFIRM

none_held : (s : CoreState) (id : List ℕ) (file : ℕ) → party_named s.names (NfsParty id) ≡ None → delegation_held s id file ≡ None
unfolding cache_held
none_held s id file e = ap (λ (x : Option Party). delegation_in (cache_by s.claims file x)) e

-- the party of a client ends, where it has a name
ends_leave : (n : ℕ) (s : CoreState) (id : List ℕ) → IsGood s → IsLeft s (all_done n s (ends (party_named s.names (NfsParty id)))) id
ends_leave n s id good = by (party_named s.names (NfsParty id)) refl
  where
    by : (x : Option Party) → party_named s.names (NfsParty id) ≡ x → IsLeft s (all_done n s (ends x)) id
    by None e = record {
      good = good;
      later = omega arith;
      own = λ file. none_held s id file e;
      others = λ other file differs. refl;
    }
    by (Some party) e =
        let frame = end_party_frame s party good in
        deed_leaves n s (Ends party) id good tt (omega (arith, frame.counter)) (ap (λ (x : Option Party). caches_without_party x (caches_of s.claims)) (sym e))

ends_fit : (n : ℕ) (s : CoreState) (x : Option Party) → AreFit n s (ends x)
ends_fit n s None = tt
ends_fit n s (Some party) = (tt, tt)

all_done_append : (n : ℕ) (s : CoreState) (ds es : List Deed) → all_done n s (ds ++ es) ≡ all_done n (all_done n s ds) es
all_done_append n s [] es = refl
all_done_append n s (d ∷ ds) es = all_done_append n (done n s d) ds es

-- what is confirmed: the record of the number, whose client it is
record IsRecord (l : NfsLists) (number : ℕ) (r : ClientRow) : Type 0 where
  here : IsIn r l.clients
  is : number ≡ r.number

over_tied : (n : ℕ) (s : CoreState) (l : NfsLists) (current : Option ℕ) (number : ℕ) (r : ClientRow) (x : Option ClientRow) → IsRecord l number r → find (is_client_named r.id true) (without_number number l).clients ≡ x → IsGood s → AreTied s l → Ties n s l (confirm_over s (without_number number l) current number r x)
over_tied n s l current number r x found e good tied = by x e
  where
    m : NfsLists
    m = without_number number l

    first : AreStill s.counter l m
    first = number_still s.counter number l tied.set

    row : ClientRow
    row = confirmed_row number r

    within : (q : ClientRow) → IsIn q m.clients → IsIn q l.clients
    within q there = (in_filter_from (λ (c : ClientRow). not (is_client number false c)) q l.clients there).0

    le : number ≤ s.counter
    le = subst (λ (k : ℕ). k ≤ s.counter) (sym found.is) (all_in (λ (q : ClientRow). q.number ≤ s.counter) r l.clients tied.set.clients.given found.here)

    -- a record of the number is of the id string
    its_id : (q : ClientRow) → IsIn q l.clients → number ≡ q.number → q.id ≡ r.id
    its_id q there same = one_id l.clients q r tied.set.clients.one there found.here (sym same ∙ found.is)

    one : (q : ClientRow) → IsIn q l.clients → is_one_client q row ≡ true
    one q there =
        elim (cases_Bool (q.number == number)) [
          | inr other ↦ rw other refl
          | inl same ↦ rw (same, (bytes_decides q.id r.id).1 (its_id q there (sym (eqb-true q.number number same)))) refl
        ]

    new : find (is_client_named r.id true) m.clients ≡ None → AreTied (all_done n s (Renews r.id ∷ [])) (come m number r)
    new none =
        let quiet = all_quiet n s (Renews r.id ∷ []) good (tt, tt) (tt, tt) in
        let unnumbered : find (is_client number true) m.clients ≡ None = nobody (find (is_client number true) m.clients) refl in
        record {
          set = later_set s.counter (all_done n s (Renews r.id ∷ [])).counter (come m number r) quiet.later (come_set s.counter m row refl none unnumbered le (all_from (λ q. is_one_client q row ≡ true) m.clients (λ q there. one q (within q there))) first.set);
          delegated = λ id file. quiet.held id file ∙ tied.delegated id file ∙ sym (still_kept s.counter l m first id file) ∙ agrees unnumbered id file;
        }
      where
        nobody : (y : Option ClientRow) → find (is_client number true) m.clients ≡ y → find (is_client number true) m.clients ≡ None
        nobody None f = f
        nobody (Some c) f =
            let at = found_in (is_client number true) m.clients c f in
            let is = numbered_is number c at.1 in
            let named = none_in (is_client_named r.id true) m.clients c none at.0 in
            let same = its_id c (within c at.0) is.0 in
            absurd (true≢false (sym (and_from (bytes_eq r.id c.id) (beq true c.confirmed) ((bytes_decides r.id c.id).1 (sym same)) (rw is.1 refl)) ∙ named))

        agrees : find (is_client number true) m.clients ≡ None → (id : List ℕ) (file : ℕ) → delegation_kept m id file ≡ delegation_kept (come m number r) id file
        agrees unnumbered id file =
            elim (cases_Bool (bytes_eq id r.id)) [
              | inl same ↦
                  let is = (bytes_decides id r.id).0 same in
                  ap (λ (x : Option ClientRow). option_and_then (delegation_numbered m.stateids file) (option_map (λ (c : ClientRow). c.number) x)) (ap (λ (i : List ℕ). find (is_client_named i true) m.clients) is ∙ none)
                  ∙ sym (ap (λ (i : List ℕ). delegation_kept (come m number r) i file) is ∙ own_none s.counter m row refl none unnumbered file)
              | inr other ↦ sym (other_kept s.counter m row refl none unnumbered id file (λ f. true≢false (sym ((bytes_decides id r.id).1 f) ∙ other)))
            ]

    -- another client of the id string makes way
    over : (o : ClientRow) → find (is_client_named r.id true) m.clients ≡ Some o → (o.number == number) ≡ false → AreTied (all_done n s (ends (party_named s.names (NfsParty r.id)) ++ Renews r.id ∷ [])) (come (without_client o.number m) number r)
    over o f other =
        let at = found_in (is_client_named r.id true) m.clients o f in
        let is = named_is r.id o at.1 in
        let ds = ends (party_named s.names (NfsParty r.id)) in
        let t = all_done n s ds in
        let gone = ends_leave n s r.id good in
        let quiet = all_quiet n t (Renews r.id ∷ []) gone.good (tt, tt) (tt, tt) in
        let k : NfsLists = without_client o.number m in
        let set = left_set s.counter m o at.0 is.1 first.set in
        let unnamed : find (is_client_named r.id true) k.clients ≡ None = ap (λ (i : List ℕ). find (is_client_named i true) k.clients) is.0 ∙ own_gone s.counter m o at.0 is.1 first.set in
        let unnumbered = nobody o at.0 is other (find (is_client number true) k.clients) refl in
        subst (λ (v : CoreState). AreTied v (come k number r)) (sym (all_done_append n s ds (Renews r.id ∷ []))) (record {
          set = later_set s.counter (all_done n t (Renews r.id ∷ [])).counter (come k number r) (omega (arith, gone.later, quiet.later))
              (come_set s.counter k row refl unnamed unnumbered le (all_from (λ q. is_one_client q row ≡ true) k.clients (λ q there. one q (within q (in_filter_from (λ (c : ClientRow). not (is_client o.number true c)) q m.clients there).0))) set);
          delegated = λ id file. quiet.held id file ∙ agrees o at.0 is unnamed unnumbered gone id file;
        })
      where
        nobody : (o : ClientRow) → IsIn o m.clients → (r.id ≡ o.id) × (o.confirmed ≡ true) → (o.number == number) ≡ false → (y : Option ClientRow) → find (is_client number true) (without_client o.number m).clients ≡ y → find (is_client number true) (without_client o.number m).clients ≡ None
        nobody o here is other None f = f
        nobody o here is other (Some c) f =
            let at = found_in (is_client number true) (without_client o.number m).clients c f in
            let there = (in_filter_from (λ (q : ClientRow). not (is_client o.number true q)) c m.clients at.0).0 in
            let its = numbered_is number c at.1 in
            let same : c.id ≡ o.id = its_id c (within c there) its.0 ∙ is.0 in
            let one : c ≡ o = same_Some c o (sym (named_found m.clients c first.set.clients.apart there its.1) ∙ ap (λ (i : List ℕ). find (is_client_named i true) m.clients) same ∙ named_found m.clients o first.set.clients.apart here is.1) in
            absurd (true≢false (sym (eq-eqb o.number number (ap (λ (q : ClientRow). q.number) (sym one) ∙ sym its.0)) ∙ other))

        agrees : (o : ClientRow) → IsIn o m.clients → (r.id ≡ o.id) × (o.confirmed ≡ true) → find (is_client_named r.id true) (without_client o.number m).clients ≡ None → find (is_client number true) (without_client o.number m).clients ≡ None → {t : CoreState} → IsLeft s t r.id
            → (id : List ℕ) (file : ℕ) → delegation_held t id file ≡ delegation_kept (come (without_client o.number m) number r) id file
        agrees o here is unnamed unnumbered {t} gone id file =
            let k : NfsLists = without_client o.number m in
            elim (cases_Bool (bytes_eq id r.id)) [
              | inl same ↦
                  let eq = (bytes_decides id r.id).0 same in
                  ap (λ (i : List ℕ). delegation_held t i file) eq ∙ gone.own file
                  ∙ sym (ap (λ (i : List ℕ). delegation_kept (come k number r) i file) eq ∙ own_none s.counter k row refl unnamed unnumbered file)
              | inr differs ↦
                  let apart : id ≡ r.id → ⊥ = λ f. true≢false (sym ((bytes_decides id r.id).1 f) ∙ differs) in
                  gone.others id file apart ∙ tied.delegated id file ∙ sym (still_kept s.counter l m first id file)
                  ∙ sym (gone_kept s.counter m o here is.1 first.set id file (λ f. apart (f ∙ sym is.0)))
                  ∙ sym (other_kept s.counter k row refl unnamed unnumbered id file apart)
            ]

    by : (y : Option ClientRow) → find (is_client_named r.id true) m.clients ≡ y → Ties n s l (confirm_over s m current number r y)
    by None f = new f
    by (Some o) f =
        elim (cases_Bool (o.number == number)) [
          | inl same ↦ rw same (renews_tied n s l (come_again m number r) r.id good tied (still_then s.counter s.counter l m (come_again m number r) first (details_still s.counter (is_client number true) (with_details row.details) m (λ c. (refl, refl, refl)) first.set)))
          | inr other ↦ rw other (over o f other)
        ]

confirmed_is : (verifier : List ℕ) (x : Option ClientRow) (r : ClientRow) → confirmed_by verifier x ≡ Some r → x ≡ Some r
confirmed_is verifier None r e = e
confirmed_is verifier (Some q) r e = by (bytes_eq q.details.confirm verifier) e
  where
    by : (b : Bool) → (if b then Some q else None) ≡ Some r → Some q ≡ Some r
    by true f = f
    by false f = absurd (true≢false (ap is_some (sym f)))

confirm_tied_by : (n : ℕ) (s : CoreState) (l : NfsLists) (current : Option ℕ) (verifier : List ℕ) (x : Option ℕ) → IsGood s → AreTied s l → Ties n s l (confirm_number s l current verifier x)
confirm_tied_by n s l current verifier None good tied = tied
confirm_tied_by n s l current verifier (Some number) good tied = by (confirmed_by verifier (find (is_client number false) l.clients)) refl
  where
    held : (o : Option ClientRow) → Ties n s l (confirm_held l current verifier o)
    held None = tied
    held (Some r) = renews_tied n s l l r.id good tied (still_self s.counter l tied.set)

    by : (y : Option ClientRow) → confirmed_by verifier (find (is_client number false) l.clients) ≡ y → Ties n s l (confirm_found s l current number verifier y)
    by None e = held (find (is_client number true) l.clients)
    by (Some r) e =
        let found = found_in (is_client number false) l.clients r (confirmed_is verifier (find (is_client number false) l.clients) r e) in
        over_tied n s l current number r (find (is_client_named r.id true) (without_number number l).clients) (record { here = found.0; is = eqb-true number r.number (and_parts (number == r.number) (beq false r.confirmed) found.1).0 }) refl good tied

-- ---- an operation

pub item_tied : (n : ℕ) (files : List (List ℕ)) (others : ℕ) (s : CoreState) (l : NfsLists) (current : Option ℕ) (item : OpItem) → IsGood s → IsOrderly l → AreTied s l → Ties n s l (planned files others s l current item)
unfolding planned put_root_fh put_fh renew set_client_id set_client_id_confirm
item_tied n files others s l current PutRootFh good orderly tied = tied
item_tied n files others s l current (PutFh fh) good orderly tied = put_tied n s (length files) l current (file_at fh) tied
item_tied n files others s l current GetFh good orderly tied = get_tied n s l current tied
item_tied n files others s l current (Lookup name) good orderly tied = look_tied n s files l current name tied
item_tied n files others s l current (SetClientId a) good orderly tied = (let m = without_named a.id l in set_tied n s l m current a (find (is_client_named a.id true) m.clients) refl good (lists_tied s l m good tied (found_still s.counter l (find (is_client_named a.id false) l.clients) tied.set)))
item_tied n files others s l current (SetClientIdConfirm a) good orderly tied = confirm_tied_by n s l current a.verifier (number_in s a.clientid) good tied
item_tied n files others s l current (Renew clientid) good orderly tied = renew_tied n s l current (number_in s clientid) good tied
item_tied n files others s l current (Open a) good orderly tied = open_tied n files others s l current a good tied
item_tied n files others s l current (OpenConfirm a) good orderly tied = confirm_tied n s l current a good tied
item_tied n files others s l current (OpenDowngrade a) good orderly tied = downgrade_tied n s l current a good tied
item_tied n files others s l current (Close a) good orderly tied = close_tied n s l current a good orderly tied
item_tied n files others s l current (DelegReturn stateid) good orderly tied = return_tied n s l current stateid good orderly tied
item_tied n files others s l current (Lock a) good orderly tied = lock_tied n s l current a good tied
item_tied n files others s l current (LockT a) good orderly tied = test_tied n s l current a good tied
item_tied n files others s l current (LockU a) good orderly tied = unlock_tied n s l current a good tied
item_tied n files others s l current (ReleaseLockOwner a) good orderly tied = release_tied n s l current a good tied
item_tied n files others s l current (Illegal number) good orderly tied = tied
item_tied n files others s l current (NotSupported number) good orderly tied = tied

-- ---- a request

-- the state is good, owners and stateids are orderly, and each client has just the delegations that its caches are
record IsTied (s : CoreState) (l : NfsLists) : Type 0 where
  good : IsGood s
  orderly : IsOrderly l
  tied : AreTied s l

item_is_tied : (n : ℕ) (files : List (List ℕ)) (others : ℕ) (s : CoreState) (l : NfsLists) (current : Option ℕ) (item : OpItem) → IsTied s l → (let r = carried n s l (planned files others s l current item) in IsTied r.4 r.3)
item_is_tied n files others s l current item is = record {
  good = item_good n files others s l current item is.good;
  orderly = item_orderly n files others s l current item is.orderly;
  tied = item_tied n files others s l current item is.good is.orderly is.tied;
}

call_tied : (n : ℕ) (files : List (List ℕ)) (others : ℕ) (f : FrontNfs) (s : CoreState) (xid : ℕ) (called : Called) → IsGood s → IsOrderly f.state → AreTied s f.state → AreTied (replied n files others f s xid called).3 (replied n files others f s xid called).2.state
call_tied n files others f s xid (Compound tag steps) good orderly tied = (compound_keeps IsTied n files others s f.state steps (λ t m current op is. item_is_tied n files others t m current op is) (record { good = good; orderly = orderly; tied = tied })).tied
call_tied n files others f s xid Garbage good orderly tied = tied
call_tied n files others f s xid Null good orderly tied = tied
call_tied n files others f s xid (Refused tag status) good orderly tied = tied

pub request_tied : (n : ℕ) (exports : Exports) (others : ℕ) (f : FrontNfs) (s : CoreState) (conn : ℕ) (r : RequestItem) → IsGood s → IsOrderly f.state → AreTied s f.state → AreTied (nfs_step n exports others f s conn r).3 (nfs_step n exports others f s conn r).2.state
unfolding nfs_step
request_tied n exports others f s conn r good orderly tied = call_tied n exports.files others f s r.xid (call_in r) good orderly tied

-- ---- a start, and time

pub start_tied : (stable : Stable) (clock : Moment) (times : Times) → AreTied (started stable clock times) empty_nfs_front.state
unfolding cache_held
start_tied stable clock times = record {
  set = record { given = tt; shut = tt; clients = record { apart = tt; one = tt; given = tt } };
  delegated = λ id file. refl;
}

confirmed_stays : (now : Moment) (r : ClientRow) → r.confirmed ≡ true → is_due now r ≡ false
confirmed_stays now r sure = rw sure refl

pub tick_tied : (s : CoreState) (f : FrontNfs) (now : Moment) → IsGood s → AreTied s f.state → AreTied s (nfs_tick f now).state
unfolding nfs_tick
tick_tied s f now good tied = lists_tied s f.state _ good tied (unconfirmed_still s.counter (is_due now) f.state (λ r sure. confirmed_stays now r sure) tied.set)

-- ---- clients that expire

-- a client that has no cache any more is forgotten, and the others have what they had
expired_by : (s : CoreState) (gone : List (List ℕ)) (l : NfsLists) (id : List ℕ) (x : Option ClientRow) → find (is_client_named id true) l.clients ≡ x → AreTiedBut (id ∷ gone) s l → AreTiedBut gone s (forgotten l x)
expired_by s gone l id None e tied = record {
  set = tied.set;
  left = λ other there file. tied.left other (inr there) file;
  delegated = λ other apart file. by other apart file (cases_Bool (bytes_eq other id));
}
  where
    either : (other : List ℕ) → (other ≡ id → ⊥) → (IsIn other gone → ⊥) → IsIn other (id ∷ gone) → ⊥
    either other differs apart (inl same) = differs (sym same)
    either other differs apart (inr there) = apart there

    by : (other : List ℕ) → (IsIn other gone → ⊥) → (file : ℕ) → ((bytes_eq other id ≡ true) ⊎ (bytes_eq other id ≡ false)) → delegation_held s other file ≡ delegation_kept l other file
    by other apart file (inl same) =
        let is = (bytes_decides other id).0 same in
        tied.left other (inl (sym is)) file
        ∙ sym (ap (λ (x : Option ClientRow). option_and_then (delegation_numbered l.stateids file) (option_map (λ (r : ClientRow). r.number) x)) (ap (λ (i : List ℕ). find (is_client_named i true) l.clients) is ∙ e))
    by other apart file (inr differs) = tied.delegated other (either other (λ f. true≢false (sym ((bytes_decides other id).1 f) ∙ differs)) apart) file
expired_by s gone l id (Some r) e tied = record {
  set = left_set s.counter l r found.0 is.1 tied.set;
  left = λ other there file. tied.left other (inr there) file;
  delegated = λ other apart file. by other apart file (cases_Bool (bytes_eq other id));
}
  where
    found : IsIn r l.clients × (is_client_named id true r ≡ true)
    found = found_in (is_client_named id true) l.clients r e

    is : (id ≡ r.id) × (r.confirmed ≡ true)
    is = named_is id r found.1

    either : (other : List ℕ) → (other ≡ id → ⊥) → (IsIn other gone → ⊥) → IsIn other (id ∷ gone) → ⊥
    either other differs apart (inl same) = differs (sym same)
    either other differs apart (inr there) = apart there

    by : (other : List ℕ) → (IsIn other gone → ⊥) → (file : ℕ) → ((bytes_eq other id ≡ true) ⊎ (bytes_eq other id ≡ false)) → delegation_held s other file ≡ delegation_kept (without_client r.number l) other file
    by other apart file (inl same) =
        let eq = (bytes_decides other id).0 same in
        tied.left other (inl (sym eq)) file ∙ sym (ap (λ (i : List ℕ). delegation_kept (without_client r.number l) i file) (eq ∙ is.0) ∙ gone_none s.counter l r found.0 is.1 tied.set file)
    by other apart file (inr differs) =
        let unlike : other ≡ id → ⊥ = λ f. true≢false (sym ((bytes_decides other id).1 f) ∙ differs) in
        tied.delegated other (either other unlike apart) file ∙ sym (gone_kept s.counter l r found.0 is.1 tied.set other file (λ f. unlike (f ∙ sym is.0)))

pub expired_tied : (s : CoreState) (gone : List (List ℕ)) (f : FrontNfs) (id : List ℕ) → AreTiedBut (id ∷ gone) s f.state → AreTiedBut gone s (nfs_shown f (Expired id)).state
unfolding nfs_shown
expired_tied s gone f id tied = expired_by s gone f.state id (find (is_client_named id true) f.state.clients) refl tied

-- the core takes out all that an expiring client has
pub expires_tied : (n : ℕ) (s : CoreState) (gone : List (List ℕ)) (l : NfsLists) (d : Deed) (id : List ℕ) → IsLeft s (done n s d) id → AreTiedBut gone s l → AreTiedBut (id ∷ gone) (done n s d) l
expires_tied n s gone l d id left tied = record {
  set = later_set s.counter (done n s d).counter l left.later tied.set;
  left = λ other there file. lost other there file;
  delegated = λ other apart file. left.others other file (λ f. apart (inl (sym f))) ∙ tied.delegated other (λ there. apart (inr there)) file;
}
  where
    lost : (other : List ℕ) → IsIn other (id ∷ gone) → (file : ℕ) → delegation_held (done n s d) other file ≡ None
    lost other (inl same) file = ap (λ (i : List ℕ). delegation_held (done n s d) i file) (sym same) ∙ left.own file
    lost other (inr there) file = by (cases_Bool (bytes_eq other id))
      where
        by : ((bytes_eq other id ≡ true) ⊎ (bytes_eq other id ≡ false)) → delegation_held (done n s d) other file ≡ None
        by (inl same) = ap (λ (i : List ℕ). delegation_held (done n s d) i file) ((bytes_decides other id).0 same) ∙ left.own file
        by (inr differs) = left.others other file (λ f. true≢false (sym ((bytes_decides other id).1 f) ∙ differs)) ∙ tied.left other there file

gone_later : (s : CoreState) (id : List ℕ) → s.counter ≤ (gone_client s id).1.counter
unfolding gone_client barred end_party
gone_later s id = by (party_named s.names (NfsParty id))
  where
    by : (x : Option Party) → s.counter ≤ (unleased id (end_some (barred s id) x)).1.counter
    by None = omega arith
    by (Some party) = omega arith

forgotten_counter : (s : CoreState) (id : List ℕ) → (forgotten_client s id).counter ≡ s.counter
unfolding stored
forgotten_counter s id =
    elim (cases_Bool (is_recorded (client_name id) s.stable.names)) [
      | inl e ↦ rw e refl
      | inr e ↦ rw e refl
    ]

expire_later : (s : CoreState) (id : List ℕ) → s.counter ≤ (expire s id).1.counter
unfolding expire
expire_later s id = omega (arith, gone_later (forgotten_client s id) id, forgotten_counter s id)

lapse_later : (s : CoreState) (cache : Claim) → s.counter ≤ (lapse s cache).1.counter
unfolding lapse
lapse_later s cache = by (client_of s.names cache.party)
  where
    by : (x : Option (List ℕ)) → s.counter ≤ (lapsed_by s cache x).1.counter
    by None = omega arith
    by (Some id) = expire_later s id

pub expire_tied : (n : ℕ) (s : CoreState) (gone : List (List ℕ)) (l : NfsLists) (id : List ℕ) → IsGood s → IsIn id (ended s.clock s.leases) → AreTiedBut gone s l → AreTiedBut (id ∷ gone) (done n s (Expires id)) l
expire_tied n s gone l id good first tied = expires_tied n s gone l (Expires id) id (deed_leaves n s (Expires id) id good first (expire_later s id) refl) tied

pub lapse_tied : (n : ℕ) (s : CoreState) (gone : List (List ℕ)) (l : NfsLists) (cache : Claim) (id : List ℕ) → IsGood s → IsIn cache (due s) → client_of s.names cache.party ≡ Some id → AreTiedBut gone s l → AreTiedBut (id ∷ gone) (done n s (Lapses cache)) l
lapse_tied n s gone l cache id good first whose tied =
    expires_tied n s gone l (Lapses cache) id (deed_leaves n s (Lapses cache) id good first (lapse_later s cache) (ap (λ (x : Option (List ℕ)). caches_without s.names cache x (caches_of s.claims)) whose)) tied

-- ---- a cache has its record and its stateid

-- the client's confirmed record, and its delegation on the file
pub record HasRow (l : NfsLists) (id : List ℕ) (file : ℕ) : Type 0 where
  pub client : ClientRow
  pub row : StateidRow
  pub confirmed : find (is_client_named id true) l.clients ≡ Some client
  pub delegated : find (delegated_on client.number file) l.stateids ≡ Some row

some_row : (l : NfsLists) (id : List ℕ) (file : ℕ) (w : Bool) → delegation_kept l id file ≡ Some w → HasRow l id file
some_row l id file w e = by (find (is_client_named id true) l.clients) refl e
  where
    by : (x : Option ClientRow) → find (is_client_named id true) l.clients ≡ x → option_and_then (delegation_numbered l.stateids file) (option_map (λ (r : ClientRow). r.number) x) ≡ Some w → HasRow l id file
    by None f h = absurd (true≢false (ap is_some (sym h)))
    by (Some c) f h = on (find (delegated_on c.number file) l.stateids) refl h
      where
        on : (y : Option StateidRow) → find (delegated_on c.number file) l.stateids ≡ y → option_and_then (λ (r : StateidRow). written_by r.holder) y ≡ Some w → HasRow l id file
        on None g k = absurd (true≢false (ap is_some (sym k)))
        on (Some r) g k = record { client = c; row = r; confirmed = f; delegated = g }

named_party : (names : List Name) (party : Party) (id : List ℕ) → client_of names party ≡ Some id → (number : ℕ) × (party ≡ parties.Name Nfs number) × (slice_get names number ≡ Some (NfsParty id))
named_party names (parties.Name Nfs number) id e = (number, refl, by (slice_get names number) e)
  where
    by : (x : Option Name) → id_of x ≡ Some id → x ≡ Some (NfsParty id)
    by (Some (NfsParty other)) f = ap (λ (i : List ℕ). Some (NfsParty i)) (same_Some other id f)
    by None f = absurd (true≢false (ap is_some (sym f)))
    by (Some (NlmRange caller svid oh)) f = absurd (true≢false (ap is_some (sym f)))
    by (Some (NlmShare caller oh)) f = absurd (true≢false (ap is_some (sym f)))
    by (Some (NlmParty caller)) f = absurd (true≢false (ap is_some (sym f)))
    by (Some (NfsRange client owner)) f = absurd (true≢false (ap is_some (sym f)))
    by (Some (NfsShare client owner)) f = absurd (true≢false (ap is_some (sym f)))
    by (Some (SmbLease guid key)) f = absurd (true≢false (ap is_some (sym f)))
named_party names (parties.Name Nlm number) id e = absurd (true≢false (ap is_some (sym e)))
named_party names (parties.Name Smb number) id e = absurd (true≢false (ap is_some (sym e)))
named_party names (parties.Open number) id e = absurd (true≢false (ap is_some (sym e)))

pub cache_has_row : (s : CoreState) (l : NfsLists) (c : Claim) (id : List ℕ) → IsGood s → AreDelegated s l → IsIn c s.claims → is_cache c.what ≡ true → client_of s.names c.party ≡ Some id → HasRow l id c.file
cache_has_row s l c id good tied here cache whose =
    let is = named_party s.names c.party id whose in
    let held = named_held s c id is.0 good here cache is.1 (number_at s.names (NfsParty id) is.0 good.distinct is.2) in
    some_row l id c.file held.0 (sym (tied id c.file) ∙ held.1)

-- so each break of such a cache is one call to the client's callback, for that delegation
pub one_recall : (f : FrontNfs) (s t : CoreState) (cache : Claim) (to : Option CacheKind) (number : ℕ) (id : List ℕ) → IsGood s → AreTied s f.state → IsIn cache s.claims → is_cache cache.what ≡ true → client_of s.names cache.party ≡ Some id → client_of t.names cache.party ≡ Some id → s.counter < number
    → IsRecalledOnce f t cache to number id
unfolding recalls
one_recall f s t cache to number id good tied here is whose told above =
    let has = cache_has_row s f.state cache id good tied.delegated here is whose in
    let le : has.row.number ≤ s.counter = all_in (λ (r : StateidRow). r.number ≤ s.counter) has.row f.state.stateids tied.set.given (found_in (delegated_on has.client.number cache.file) f.state.stateids has.row has.delegated).0 in
    record {
      client = has.client;
      row = has.row;
      sent = ap (λ (x : Option (List ℕ)). recalled_from t f.state number cache.file (client_by f.state x)) told
          ∙ ap (recalled_from t f.state number cache.file) has.confirmed
          ∙ ap (recalled_as t number cache.file has.client) has.delegated
          ∙ ap (λ (b : Bool). if b then recall_out t number cache.file has.client has.row ∷ [] else []) (below_is has.row.number number (omega (arith, le, above)));
      confirmed = has.confirmed;
      delegated = has.delegated;
    }
