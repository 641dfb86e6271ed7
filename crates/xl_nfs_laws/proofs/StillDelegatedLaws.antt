-- What operations change in the lists, but for delegations: each client has the delegations that it had.
use Rattle.std.proofs.Common.{◌≡◌, ℕ, ◌<◌, ◌≤◌, Bool, true, false, not, List, [], ◌∷◌, ◌++◌, Option, Some, None, IfSome, is_some, option_map, refl, sym, ap, subst, ◌∙◌, inl, inr, true≢false, arith}
use Rattle.std.proofs.lemmas.Bool.{cases_Bool, eqb-true}
use Rattle.std.specs.Bool.{◌==◌, beq}
use Rattle.std.specs.List.{AllByRecursion, find}
use Rattle.std.specs.Option.{option_and_then}
use Rattle.std.specs.Prelude.{◌&&◌, ◌||◌, bytes_eq}
use Rattle.xl_base.proofs.Members.{all_append, all_from, all_in, all_weaker}
use Rattle.xl_base.specs.Lists.{IsIn, Pairwise}
use Rattle.xl_nfs_state.proofs.AnyLaws.{all_changed, all_left}
use Rattle.xl_nfs_state.specs.Filed.{changed}
use Rattle.xl_nfs_state.specs.Keys.{held_at as place_at, same_place}
use Rattle.xl_nfs_state.specs.Rows.{with_standing, with_seqids}
use Rattle.xl_nfs_state.specs.State.{NfsLists, delegated_on, hangs_on, is_client_named, is_kept, is_open, is_owner, is_stateid, is_under, is_whose, next_owner, with_clients, with_stateids, without, without_owner}
use Rattle.xl_nfs_state.specs.Verdict.{next_seqid}
use Rattle.xl_nfs_state.specs.declared.client.ClientRow.{ClientRow}
use Rattle.xl_nfs_state.specs.declared.owner.OwnerRow.{OwnerRow}
use Rattle.xl_nfs_state.specs.declared.owner.SeqidState.{SeqidState}
use Rattle.xl_nfs_state.specs.declared.stateid.Holder.{Holder}
use Rattle.xl_nfs_state.specs.declared.stateid.Holder.TheVariants as holders
use Rattle.xl_nfs_state.specs.declared.stateid.Place.TheVariants.{Delegated}
use Rattle.xl_nfs_state.specs.declared.stateid.Standing.{Standing}
use Rattle.xl_nfs_state.specs.declared.stateid.StateidRow.{StateidRow}
use Rattle.xl_nfs_state.specs.declared.stateid.Whose.TheVariants as whose
use Rattle.xl_core.proofs.DeedLeaves.{found_in}
use Rattle.xl_nfs_opens.specs.Closing.{locks_gone, next_seqids, failed_lists}
use Rattle.xl_nfs_laws.specs.Orderly.{closes}
use Rattle.xl_nfs_laws.specs.Delegated.{AreClients, AreSet, AreShut, IsShut, clients_apart, is_one_client, delegation_kept, delegation_numbered, is_open_still, number_confirmed, written_by}
use Rattle.xl_nfs_opens.specs.Opens.{can_enter, entered, freed, open_seqids, refused_lists, stood}
use Rattle.xl_nfs_opens.specs.Results.{spelled}
use Rattle.xl_nfs_opens.specs.Seqids.{advances, closed_gone, counted, is_opener, is_room_for, kept_for, opener_number, remembered, seated, seated_by, seated_new, seqid_set}
use Rattle.xl_nfs_opens.specs.declared.opener.Opener.{Opener}
use Rattle.xl_nfs_opens.specs.declared.told.Told.TheVariants.{Ended}
use Rattle.xl_nfs.specs.Opens.{OpenArgsItem}
use Rattle.xl_nfs.specs.declared.status.NfsStatus.{NfsStatus}
use Rattle.xl_nfs_laws.proofs.EnteredOpenLaws.{kept_stateids}
use Rattle.xl_nfs_laws.proofs.OpenNumberLaws.{later_on, less_given}
use Rattle.xl_nfs_laws.proofs.QuietCacheLaws.{find_kept}

-- ---- lists in general

module _ {A : Type 0} where
  pub changed_same : {C : Type 0} (f : Option A → C) (p q : A → Bool) (to : A → A) (xs : List A) → ((x : A) → p (to x) ≡ p x) → ((x : A) → f (Some (to x)) ≡ f (Some x)) → f (find p (changed q to xs)) ≡ f (find p xs)
  changed_same f p q to [] same told = refl
  changed_same f p q to (x ∷ xs) same told =
      elim (cases_Bool (q x)) [
        | inl which ↦ rw which (elim (cases_Bool (p x)) [
          | inl here ↦ rw (same x ∙ here) (rw here (told x))
          | inr other ↦ rw (same x ∙ other) (rw other refl)
        ])
        | inr which ↦ rw which (elim (cases_Bool (p x)) [
          | inl here ↦ rw here refl
          | inr other ↦ rw other (changed_same f p q to xs same told)
        ])
      ]

  pub pairwise_changed : (test : A → A → Bool) (q : A → Bool) (to : A → A) (xs : List A) → ((x y : A) → test (to x) y ≡ test x y) → ((x y : A) → test x (to y) ≡ test x y) → Pairwise test xs → Pairwise test (changed q to xs)
  pairwise_changed test q to [] left right apart = tt
  pairwise_changed test q to (x ∷ xs) left right apart =
      elim (cases_Bool (q x)) [
        | inl which ↦ rw which (all_weaker (λ (y : A). test x y ≡ true) (λ (y : A). test (to x) y ≡ true) xs (λ y h. left x y ∙ h) apart.0, apart.1)
        | inr which ↦ rw which (all_changed (λ (y : A). test x y ≡ true) (λ (y : A). test x y ≡ true) q to xs (λ y h. h) (λ y h. right x y ∙ h) apart.0, pairwise_changed test q to xs left right apart.1)
      ]

-- ---- two lists that agree on delegations

-- each client has the delegations that it had, and the lists are as they have to be where this number was given out last
pub record AreStill (last : ℕ) (l m : NfsLists) : Type 0 where
  pub set : AreSet last m
  pub rows : (file number : ℕ) → delegation_numbered m.stateids file number ≡ delegation_numbered l.stateids file number
  pub names : (id : List ℕ) → number_confirmed m.clients id ≡ number_confirmed l.clients id

pub still_self : (last : ℕ) (l : NfsLists) → AreSet last l → AreStill last l l
still_self last l set = record { set = set; rows = λ file number. refl; names = λ id. refl }

pub still_then : (first last : ℕ) (l m k : NfsLists) → AreStill first l m → AreStill last m k → AreStill last l k
still_then first last l m k one two = record {
  set = two.set;
  rows = λ file number. two.rows file number ∙ one.rows file number;
  names = λ id. two.names id ∙ one.names id;
}

pub still_kept : (last : ℕ) (l m : NfsLists) → AreStill last l m → (id : List ℕ) (file : ℕ) → delegation_kept m id file ≡ delegation_kept l id file
still_kept last l m still id file = by (number_confirmed l.clients id) (still.names id)
  where
    by : (x : Option ℕ) → number_confirmed m.clients id ≡ x → option_and_then (delegation_numbered m.stateids file) (number_confirmed m.clients id) ≡ option_and_then (delegation_numbered l.stateids file) x
    by None e = ap (option_and_then (delegation_numbered m.stateids file)) e
    by (Some number) e = ap (option_and_then (delegation_numbered m.stateids file)) e ∙ still.rows file number

-- of later numbers
pub later_clients : (a b : ℕ) (cs : List ClientRow) → a ≤ b → AreClients a cs → AreClients b cs
later_clients a b cs le clients = record {
  apart = clients.apart;
  one = clients.one;
  given = all_weaker (λ (r : ClientRow). r.number ≤ a) (λ (r : ClientRow). r.number ≤ b) cs (λ r h. omega (arith, le, h)) clients.given;
}

pub later_set : (a b : ℕ) (l : NfsLists) → a ≤ b → AreSet a l → AreSet b l
later_set a b l le set = record {
  given = later_on a b l le set.given;
  shut = all_weaker (λ (o : OwnerRow). IsShut a l.stateids o.seqids.closed) (λ (o : OwnerRow). IsShut b l.stateids o.seqids.closed) l.owners (λ o h. record { given = up o.seqids.closed h.given; other = h.other }) set.shut;
  clients = later_clients a b l.clients le set.clients;
}
  where
    up : (closed : Option ℕ) → IfSome closed (λ number. number ≤ a) → IfSome closed (λ number. number ≤ b)
    up None h = tt
    up (Some number) h = omega (arith, le, h)

-- where neither stateids nor owners nor clients change
pub same_still : (last : ℕ) (l m : NfsLists) → m.stateids ≡ l.stateids → m.owners ≡ l.owners → m.clients ≡ l.clients → AreSet last l → AreStill last l m
same_still last l m stateids owners clients set = record {
  set = record {
    given = subst (λ (ss : List StateidRow). AllByRecursion (λ r. r.number ≤ last) ss) (sym stateids) set.given;
    shut = subst (λ (os : List OwnerRow). AreShut last m.stateids os) (sym owners) (subst (λ (ss : List StateidRow). AreShut last ss l.owners) (sym stateids) set.shut);
    clients = subst (λ (cs : List ClientRow). AreClients last cs) (sym clients) set.clients;
  };
  rows = λ file number. ap (λ (ss : List StateidRow). delegation_numbered ss file number) stateids;
  names = λ id. ap (λ (cs : List ClientRow). number_confirmed cs id) clients;
}

-- ---- stateids that go

-- what stands in a delegation's place is a delegation
pub placed_delegation : (client file : ℕ) (r : StateidRow) → delegated_on client file r ≡ true → is_some (written_by r.holder) ≡ true
placed_delegation client file r on = by r.holder on
  where
    by : (h : Holder) → same_place (Delegated client file) (place_at h r.client r.file) ≡ true → is_some (written_by h) ≡ true
    by (holders.Open owner) e = absurd (true≢false (sym e))
    by (holders.Lock owner under opener) e = absurd (true≢false (sym e))
    by (holders.Delegation write) e = refl

pub less_still : (last : ℕ) (drops : StateidRow → Bool) (l : NfsLists) → ((r : StateidRow) → IsIn r l.stateids → is_some (written_by r.holder) ≡ true → drops r ≡ false) → AreSet last l → AreStill last l (with_stateids l (without drops l.stateids))
less_still last drops l stays set = record {
  set = record {
    given = less_given last drops l set.given;
    shut = all_weaker (λ (o : OwnerRow). IsShut last l.stateids o.seqids.closed) (λ (o : OwnerRow). IsShut last (without drops l.stateids) o.seqids.closed) l.owners (λ o h. record {
      given = h.given;
      other = all_left (λ (r : StateidRow). is_open_still o.seqids.closed r ≡ true) (λ (r : StateidRow). is_open_still o.seqids.closed r ≡ true) drops l.stateids (λ r left e. e) h.other;
    }) set.shut;
    clients = set.clients;
  };
  rows = λ file number. ap (option_and_then (λ (r : StateidRow). written_by r.holder)) (find_kept (delegated_on number file) (λ (r : StateidRow). not (drops r)) l.stateids (λ r there on. ap not (stays r there (placed_delegation number file r on))));
  names = λ id. refl;
}

-- no delegation is under an open or of an owner
hung_stays : (owner : ℕ) (h : Holder) → is_some (written_by h) ≡ true → hangs_on owner h ≡ false
hung_stays owner (holders.Open by) e = absurd (true≢false (sym e))
hung_stays owner (holders.Lock by under opener) e = absurd (true≢false (sym e))
hung_stays owner (holders.Delegation write) e = refl

pub under_stays : (number : ℕ) (h : Holder) → is_some (written_by h) ≡ true → is_under number h ≡ false
under_stays number (holders.Open by) e = absurd (true≢false (sym e))
under_stays number (holders.Lock by under opener) e = absurd (true≢false (sym e))
under_stays number (holders.Delegation write) e = refl

-- nor is one an open
not_open : (h : Holder) → is_some (written_by h) ≡ true → is_open h ≡ false
not_open (holders.Open by) e = absurd (true≢false (sym e))
not_open (holders.Lock by under opener) e = refl
not_open (holders.Delegation write) e = refl

-- nor one that a request closed
pub gone_still : (last : ℕ) (closed : Option ℕ) (l : NfsLists) → IsShut last l.stateids closed → AreSet last l → AreStill last l (closed_gone closed l)
gone_still last None l shut set = still_self last l set
gone_still last (Some number) l shut set =
    less_still last (is_whose (whose.Stateid number)) l (λ r there is. by r is (all_in (λ (q : StateidRow). is_open_still (Some number) q ≡ true) r l.stateids shut.other there)) set
  where
    by : (r : StateidRow) → is_some (written_by r.holder) ≡ true → is_open_still (Some number) r ≡ true → (number == r.number || is_under number r.holder) ≡ false
    by r is still =
        elim (cases_Bool (number == r.number)) [
          | inl same ↦ (let no : false ≡ true = rw (not_open r.holder is) at (rw same at still) in absurd (true≢false (sym no)))
          | inr other ↦ rw other (under_stays number r.holder is)
        ]

-- of a number that wasn't given out there is nothing
pub freed_still : (last number : ℕ) (l : NfsLists) → last < number → AreSet last l → AreStill last l (freed number l)
freed_still last number l above set =
    less_still last (is_whose (whose.Stateid number)) l (λ r there is. by r is (all_in (λ (q : StateidRow). q.number ≤ last) r l.stateids set.given there)) set
  where
    by : (r : StateidRow) → is_some (written_by r.holder) ≡ true → r.number ≤ last → (number == r.number || is_under number r.holder) ≡ false
    by r is le =
        elim (cases_Bool (number == r.number)) [
          | inl same ↦ absurd (omega (arith, eqb-true number r.number same, above, le))
          | inr other ↦ rw other (under_stays number r.holder is)
        ]

pub locks_still : (last number : ℕ) (l : NfsLists) → AreSet last l → AreStill last l (locks_gone number l)
locks_still last number l set = less_still last (is_whose (whose.Under number)) l (λ r there is. under_stays number r.holder is) set

pub owner_still : (last number : ℕ) (l : NfsLists) → AreSet last l → AreStill last l (without_owner number l)
owner_still last number l set =
    let m : NfsLists = with_stateids l (without (λ s. hangs_on number s.holder) l.stateids) in
    let less = less_still last (λ s. hangs_on number s.holder) l (λ r there is. hung_stays number r.holder is) set in
    record {
      set = record {
        given = less.set.given;
        shut = all_left (λ (o : OwnerRow). IsShut last m.stateids o.seqids.closed) (λ (o : OwnerRow). IsShut last m.stateids o.seqids.closed) (is_owner number) l.owners (λ o left h. h) less.set.shut;
        clients = less.set.clients;
      };
      rows = less.rows;
      names = less.names;
    }

-- ---- stateids that come, and that change

-- nothing closed a number that wasn't given out
pub not_closed : (last number : ℕ) (closed : Option ℕ) → IfSome closed (λ k. k ≤ last) → last < number → closes closed number ≡ false
not_closed last number None h above = refl
not_closed last number (Some k) h above =
    elim (cases_Bool (k == number)) [
      | inl e ↦ absurd (omega (arith, eqb-true k number e, h, above))
      | inr e ↦ e
    ]

-- so a stateid of such a number is none that a request closed
pub new_still : (last : ℕ) (r : StateidRow) (closed : Option ℕ) → IfSome closed (λ k. k ≤ last) → last < r.number → is_open_still closed r ≡ true
new_still last r closed h above =
    elim (cases_Bool (is_open r.holder)) [
      | inl e ↦ rw e refl
      | inr e ↦ rw e (ap not (not_closed last r.number closed h above))
    ]

-- an open comes, or locks
pub comes_still : (last : ℕ) (r : StateidRow) (l : NfsLists) → last < r.number → written_by r.holder ≡ None → AreSet last l → AreStill r.number l (with_stateids l (l.stateids ++ r ∷ []))
comes_still last r l above none set = record {
  set = record {
    given = all_append (λ (q : StateidRow). q.number ≤ r.number) l.stateids (r ∷ []) up.given (omega arith, tt);
    shut = all_weaker (λ (o : OwnerRow). IsShut last l.stateids o.seqids.closed) (λ (o : OwnerRow). IsShut r.number (l.stateids ++ r ∷ []) o.seqids.closed) l.owners (λ o h. record {
      given = raised o.seqids.closed h.given;
      other = all_append (λ (q : StateidRow). is_open_still o.seqids.closed q ≡ true) l.stateids (r ∷ []) h.other (new_still last r o.seqids.closed h.given above, tt);
    }) set.shut;
    clients = up.clients;
  };
  rows = λ file number. ap (option_and_then (λ (q : StateidRow). written_by q.holder)) (behind file number l.stateids);
  names = λ id. refl;
}
  where
    up : AreSet r.number l
    up = later_set last r.number l (omega (arith, above)) set

    raised : (closed : Option ℕ) → IfSome closed (λ k. k ≤ last) → IfSome closed (λ k. k ≤ r.number)
    raised None h = tt
    raised (Some k) h = omega (arith, h, above)

    other : (file number : ℕ) → delegated_on number file r ≡ false
    other file number =
        elim (cases_Bool (delegated_on number file r)) [
          | inl on ↦ absurd (true≢false (sym (placed_delegation number file r on) ∙ ap is_some none))
          | inr off ↦ off
        ]

    behind : (file number : ℕ) (ss : List StateidRow) → find (delegated_on number file) (ss ++ r ∷ []) ≡ find (delegated_on number file) ss
    behind file number [] = rw (other file number) refl
    behind file number (s ∷ ss) =
        elim (cases_Bool (delegated_on number file s)) [
          | inl on ↦ rw on refl
          | inr off ↦ rw off (behind file number ss)
        ]

pub entered_still : (last : ℕ) (r : StateidRow) (l : NfsLists) → last < r.number → written_by r.holder ≡ None → AreSet last l → AreStill r.number l (entered r l)
unfolding entered
entered_still last r l above none set =
    let m : NfsLists = freed r.number l in
    let free = freed_still last r.number l above set in
    let up : AreSet r.number m = later_set last r.number m (omega (arith, above)) free.set in
    elim (cases_Bool (can_enter r m)) [
      | inl e ↦ rw e (still_then last r.number l m (with_stateids m (m.stateids ++ r ∷ [])) free (comes_still last r m above none free.set))
      | inr e ↦ rw e (still_then last r.number l m m free (still_self r.number m up))
    ]

pub stood_still : (last number : ℕ) (r : StateidRow) (access deny : ℕ) (closed : Bool) (l : NfsLists) → AreSet last l → AreStill last l (stood number r access deny closed l)
stood_still last number r access deny closed l set =
    let to : Standing = record { seqid = next_seqid r.standing.seqid; access = access; deny = deny; closed = closed } in
    record {
      set = record {
        given = all_changed (λ (q : StateidRow). q.number ≤ last) (λ (q : StateidRow). q.number ≤ last) (is_stateid number) (with_standing to) l.stateids (λ q h. h) (λ q h. h) set.given;
        shut = all_weaker (λ (o : OwnerRow). IsShut last l.stateids o.seqids.closed) (λ (o : OwnerRow). IsShut last (changed (is_stateid number) (with_standing to) l.stateids) o.seqids.closed) l.owners (λ o h. record {
          given = h.given;
          other = all_changed (λ (q : StateidRow). is_open_still o.seqids.closed q ≡ true) (λ (q : StateidRow). is_open_still o.seqids.closed q ≡ true) (is_stateid number) (with_standing to) l.stateids (λ q e. e) (λ q e. e) h.other;
        }) set.shut;
        clients = set.clients;
      };
      rows = λ file client. changed_same (option_and_then (λ (q : StateidRow). written_by q.holder)) (delegated_on client file) (is_stateid number) (with_standing to) l.stateids (λ q. refl) (λ q. refl);
      names = λ id. refl;
    }

-- ---- owners

pub seqid_set_still : (last owner : ℕ) (seqids : SeqidState) (l : NfsLists) → IsShut last l.stateids seqids.closed → AreSet last l → AreStill last l (seqid_set owner seqids l)
seqid_set_still last owner seqids l shut set = record {
  set = record {
    given = set.given;
    shut = all_changed (λ (o : OwnerRow). IsShut last l.stateids o.seqids.closed) (λ (o : OwnerRow). IsShut last l.stateids o.seqids.closed) (is_owner owner) (with_seqids seqids) l.owners (λ o h. h) (λ o h. shut) set.shut;
    clients = set.clients;
  };
  rows = λ file number. refl;
  names = λ id. refl;
}

pub none_shut : (last : ℕ) (ss : List StateidRow) (closed : Option ℕ) → closed ≡ None → IsShut last ss closed
none_shut last ss closed e = subst (λ (c : Option ℕ). IsShut last ss c) (sym e) (record { given = tt; other = all_from (λ r. is_open_still None r ≡ true) ss (λ r there. none r) })
  where
    none : (r : StateidRow) → is_open_still None r ≡ true
    none r = elim (cases_Bool (is_open r.holder)) [ inl e ↦ rw e refl | inr e ↦ rw e refl ]

kept_others : (owner : ℕ) (bytes : List ℕ) (l : NfsLists) → ((kept_for owner bytes l).owners ≡ l.owners) × ((kept_for owner bytes l).clients ≡ l.clients)
kept_others owner bytes l =
    elim (cases_Bool (is_some (find (is_kept owner) l.kept))) [
      | inl e ↦ rw e (refl, refl)
      | inr e ↦ rw e (elim (cases_Bool (is_some (find (is_owner owner) l.owners))) [
        | inl d ↦ rw d (refl, refl)
        | inr d ↦ rw d (refl, refl)
      ])
    ]

pub kept_still : (last owner : ℕ) (bytes : List ℕ) (l : NfsLists) → AreSet last l → AreStill last l (kept_for owner bytes l)
kept_still last owner bytes l set =
    let others = kept_others owner bytes l in
    same_still last l (kept_for owner bytes l) (kept_stateids owner bytes l) others.0 others.1 set

-- a request of the owner, which stood so, counted
pub counted_still : (last owner : ℕ) (closed : Option ℕ) (seqids : SeqidState) (bytes : List ℕ) (l : NfsLists) → IsShut last l.stateids closed → IsShut last l.stateids seqids.closed → AreSet last l → AreStill last l (counted owner closed seqids bytes l)
unfolding counted
counted_still last owner closed seqids bytes l was shut set =
    let a : NfsLists = seqid_set owner seqids l in
    let one = seqid_set_still last owner seqids l shut set in
    let two = gone_still last closed a was one.set in
    let b : NfsLists = closed_gone closed a in
    still_then last last l b (kept_for owner bytes b) (still_then last last l a b one two) (kept_still last owner bytes b two.set)

-- that of an owner that is found
pub owner_shut : (last : ℕ) (l : NfsLists) (p : OwnerRow → Bool) (o : OwnerRow) → find p l.owners ≡ Some o → AreSet last l → IsShut last l.stateids o.seqids.closed
owner_shut last l p o found set = all_in (λ (x : OwnerRow). IsShut last l.stateids x.seqids.closed) o l.owners set.shut (found_in p l.owners o found).0

pub seated_still : (last : ℕ) (o : Opener) (seqids : SeqidState) (l : NfsLists) → seqids.closed ≡ None → AreSet last l → AreStill last l (seated o seqids l)
unfolding seated
seated_still last o seqids l none set = by (find (is_opener o) l.owners) refl
  where
    new : (next : Option ℕ) → AreStill last l (seated_new o seqids l next)
    new None = still_self last l set
    new (Some number) = record {
      set = record {
        given = set.given;
        shut = all_append (λ (x : OwnerRow). IsShut last l.stateids x.seqids.closed) l.owners _ set.shut (none_shut last l.stateids seqids.closed none, tt);
        clients = set.clients;
      };
      rows = λ file client. refl;
      names = λ id. refl;
    }

    by : (x : Option OwnerRow) → find (is_opener o) l.owners ≡ x → AreStill last l (seated_by o seqids l x)
    by None e = new (next_owner l.owners)
    by (Some r) e =
        let a : NfsLists = seqid_set r.number seqids l in
        let one = seqid_set_still last r.number seqids l (none_shut last l.stateids seqids.closed none) set in
        still_then last last l a (closed_gone r.seqids.closed a) one (gone_still last r.seqids.closed a (owner_shut last l (is_opener o) r e set) one.set)

pub remembered_still : (last : ℕ) (o : Opener) (seqids : SeqidState) (bytes : List ℕ) (l : NfsLists) → seqids.closed ≡ None → AreSet last l → AreStill last l (remembered o seqids bytes l)
unfolding remembered
remembered_still last o seqids bytes l none set =
    let seat = seated_still last o seqids l none set in
    elim (cases_Bool (is_room_for o l)) [
      | inl e ↦ rw e (still_then last last l (seated o seqids l) (kept_for (opener_number o l) bytes (seated o seqids l)) seat (kept_still last (opener_number o l) bytes (seated o seqids l) seat.set))
      | inr e ↦ rw e (still_self last l set)
    ]

pub refused_still : (last : ℕ) (o : Opener) (a : OpenArgsItem) (confirmed : Bool) (status : NfsStatus) (l : NfsLists) → AreSet last l → AreStill last l (refused_lists o a confirmed status l)
refused_still last o a confirmed status l set =
    elim (cases_Bool (advances status)) [
      | inl e ↦ rw e (remembered_still last o (open_seqids a confirmed) (spelled 18 (Ended status)) l refl set)
      | inr e ↦ rw e (still_self last l set)
    ]

-- ---- requests on opens

pub failed_still : (last : ℕ) (l : NfsLists) (owner : ℕ) (seqids : SeqidState) (op seqid : ℕ) (status : NfsStatus) → IsShut last l.stateids seqids.closed → AreSet last l → AreStill last l (failed_lists l owner seqids op seqid status)
failed_still last l owner seqids op seqid status was set =
    elim (cases_Bool (advances status)) [
      | inl e ↦ rw e (counted_still last owner seqids.closed (next_seqids op seqid seqids.confirmed None) (spelled op (Ended status)) l was (none_shut last l.stateids None refl) set)
      | inr e ↦ rw e (still_self last l set)
    ]

-- ---- leases

-- records that change in what stands in them alone
pub details_still : (last : ℕ) (which : ClientRow → Bool) (to : ClientRow → ClientRow) (l : NfsLists) → ((c : ClientRow) → ((to c).number ≡ c.number) × ((to c).confirmed ≡ c.confirmed) × ((to c).id ≡ c.id)) → AreSet last l → AreStill last l (with_clients l (changed which to l.clients))
details_still last which to l same set = record {
  set = record {
    given = set.given;
    shut = set.shut;
    clients = record {
      apart = pairwise_changed clients_apart which to l.clients (λ a b. left_apart a b) (λ a b. right_apart a b) set.clients.apart;
      one = pairwise_changed is_one_client which to l.clients (λ a b. left_one a b) (λ a b. right_one a b) set.clients.one;
      given = all_changed (λ (c : ClientRow). c.number ≤ last) (λ (c : ClientRow). c.number ≤ last) which to l.clients (λ c h. h) (λ c h. subst (λ (n : ℕ). n ≤ last) (sym (same c).0) h) set.clients.given;
    };
  };
  rows = λ file client. refl;
  names = λ id. changed_same (option_map (λ (c : ClientRow). c.number)) (is_client_named id true) which to l.clients (λ c. named c id) (λ c. ap (λ (n : ℕ). Some n) (same c).0);
}
  where
    named : (c : ClientRow) (id : List ℕ) → is_client_named id true (to c) ≡ is_client_named id true c
    named c id = (λ i. bytes_eq id ((same c).2 i) && beq true ((same c).1 i))

    left_apart : (a b : ClientRow) → clients_apart (to a) b ≡ clients_apart a b
    left_apart a b = (λ i. not ((same a).1 i && (b.confirmed && ((same a).0 i == b.number || bytes_eq ((same a).2 i) b.id))))

    right_apart : (a b : ClientRow) → clients_apart a (to b) ≡ clients_apart a b
    right_apart a b = (λ i. not (a.confirmed && ((same b).1 i && (a.number == (same b).0 i || bytes_eq a.id ((same b).2 i)))))

    left_one : (a b : ClientRow) → is_one_client (to a) b ≡ is_one_client a b
    left_one a b = (λ i. not ((same a).0 i == b.number) || bytes_eq ((same a).2 i) b.id)

    right_one : (a b : ClientRow) → is_one_client a (to b) ≡ is_one_client a b
    right_one a b = (λ i. not (a.number == (same b).0 i) || bytes_eq a.id ((same b).2 i))
