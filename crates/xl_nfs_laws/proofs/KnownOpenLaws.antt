-- What an OPEN that is OK tells names one open from then on.
use Rattle.std.proofs.Common.{◌≡◌, ℕ, ◌+◌, ◌<◌, ◌≤◌, Bool, true, false, not, ◌&&◌, ◌||◌, List, [], ◌∷◌, nat_lt, Option, Some, None, Ok, Err, Result, is_some, if◌then◌else◌, refl, sym, ap, subst, ◌∙◌, inl, inr, arith, true≢false}
use Rattle.std.proofs.lemmas.Bool.{cases_Bool, and_parts, and_from, eq-eqb, eqb-true, false_from_ne_true, lt-ltb, ltb-true}
use Rattle.std.proofs.lemmas.Option.{same_Some}
use Rattle.std.specs.Bool.{◌==◌}
use Rattle.std.specs.List.{filter, find}
use Rattle.std.specs.Option.{option_and_then}
use Rattle.std.specs.Prelude.{IfSome}
use Rattle.xl_base.proofs.Members.{all_in, in_filter_from}
use Rattle.xl_base.proofs.Searches.{find_in}
use Rattle.xl_base.specs.Lists.{IsIn, Pairwise}
use Rattle.xl_nfs.specs.Opens.{OpenArgsItem}
use Rattle.xl_nfs.specs.declared.basics.Stateid.{Stateid}
use Rattle.xl_nfs.specs.declared.status.NfsStatus.{NfsStatus}
use Rattle.xl_nfs_state.proofs.SoundLaws.{fresh_number}
use Rattle.xl_nfs_state.specs.Alike.{kinds_are}
use Rattle.xl_nfs_state.specs.Keys.{held_at, place_of, same_kind, same_place}
use Rattle.xl_nfs_state.specs.Rows.{with_standing}
use Rattle.xl_nfs_state.specs.State.{NfsLists, can_hang, is_client, is_kept, is_live, is_owner, is_under, is_whose, most_opens, next_owner, opens, owned_on, owner_fits, without, without_owner}
use Rattle.xl_nfs_state.specs.Verdict.{next_seqid}
use Rattle.xl_nfs_state.specs.declared.client.ClientRow.{ClientRow}
use Rattle.xl_nfs_state.specs.declared.kept.KeptRow.{KeptRow}
use Rattle.xl_nfs_state.specs.declared.owner.OwnerKind.TheVariants as kinds
use Rattle.xl_nfs_state.specs.declared.owner.OwnerRow.{OwnerRow}
use Rattle.xl_nfs_state.specs.declared.owner.SeqidState.{SeqidState}
use Rattle.xl_nfs_state.specs.declared.stateid.Holder.{Holder}
use Rattle.xl_nfs_state.specs.declared.stateid.Holder.TheVariants as holders
use Rattle.xl_nfs_state.specs.declared.stateid.Place.{Place}
use Rattle.xl_nfs_state.specs.declared.stateid.Place.TheVariants.{Owned, Delegated}
use Rattle.xl_nfs_state.specs.declared.stateid.StateidRow.{StateidRow}
use Rattle.xl_nfs_state.specs.declared.stateid.Whose.TheVariants as whose
use Rattle.xl_core.specs.Deeds.{all_done, all_told_of}
use Rattle.xl_core.specs.Decide.{ask}
use Rattle.xl_core.specs.State.{CoreState, drawn}
use Rattle.xl_core.specs.declared.ask.Answer.{Answer}
use Rattle.xl_core.specs.declared.ask.Effect.{Effect}
use Rattle.xl_nfs_laws.specs.OpenLaws.{can_come}
use Rattle.xl_nfs_opens.specs.Opens.{freed, all_rooms, answered, delegated, delegation_told, drawn_for, draws_for, either_bits, entered, gives_all, granted_by, granted_more, granted_new, granted_wish, has_room, is_granted, judged, live, client_in, open_as, open_by, open_held, open_judged, open_row, open_seqids, opened_file, opened_told, opener_of, reclaims, repeated, rights_of, share_ask, stood, wish_of}
use Rattle.xl_nfs_opens.specs.Renewing.{stateid_of}
use Rattle.xl_nfs_laws.specs.Orderly.{are_apart, closes, IsHeldBy, IsKnown, IsOrderly, IsOwnedBy}
use Rattle.xl_nfs_opens.specs.Plans.{Outcome, carried, told_behind}
use Rattle.xl_nfs_opens.specs.Results.{spelled}
use Rattle.xl_nfs_opens.specs.Seqids.{closed_gone, is_opener, is_room_for, number_by, opener_number, seated, seated_by, seated_new, seqid_set}
use Rattle.xl_nfs_opens.specs.declared.opener.Judged.{Judged}
use Rattle.xl_nfs_opens.specs.declared.opener.Judged.TheVariants as judgements
use Rattle.xl_nfs_opens.specs.declared.opener.Opener.{Opener}
use Rattle.xl_nfs_opens.specs.declared.told.Told.{Told}
use Rattle.xl_nfs_opens.specs.declared.told.Told.TheVariants.{Opened}
use Rattle.xl_nfs_laws.proofs.EnteredOpenLaws.{more_is_had, new_open_comes}
use Rattle.xl_nfs_laws.proofs.OpenOrderLaws.{IsSeated, had_is, none_in, rising_found, seat_is}
use Rattle.xl_nfs_laws.proofs.KeptResultLaws.{delegated_owners, entered_owners}
use Rattle.xl_nfs_laws.proofs.OpenLaws.{both_have_asked, kept_owners}
use Rattle.xl_nfs_opens.proofs.OpenerLaws.{opener_there}
use Rattle.xl_nfs_laws.proofs.ListOrderLaws.{closed_by, owned_by, owner_goes}
use Rattle.xl_nfs_laws.proofs.OpenStatusLaws.{within_self}

-- ---- one place

place_is : (a b : Place) → same_place a b ≡ true → a ≡ b
place_is (Owned a f) (Owned b g) e = (let parts = and_parts (a == b) (f == g) e in λ i. Owned (eqb-true a b parts.0 i) (eqb-true f g parts.1 i))
place_is (Delegated a f) (Delegated b g) e = (let parts = and_parts (a == b) (f == g) e in λ i. Delegated (eqb-true a b parts.0 i) (eqb-true f g parts.1 i))
place_is (Owned a f) (Delegated b g) e = absurd (true≢false (sym e))
place_is (Delegated a f) (Owned b g) e = absurd (true≢false (sym e))

place_same : (a b : Place) → a ≡ b → same_place a b ≡ true
place_same a b e = subst (λ (c : Place). same_place a c ≡ true) e (itself a)
  where
    itself : (p : Place) → same_place p p ≡ true
    itself (Owned w f) = and_from (w == w) (f == f) (eq-eqb w w refl) (eq-eqb f f refl)
    itself (Delegated c f) = and_from (c == c) (f == f) (eq-eqb c c refl) (eq-eqb f f refl)

-- what stands in a place stands there alone
pub alone_there : (p : Place) (ss : List StateidRow) (r x : StateidRow) → Pairwise are_apart ss → find (λ s. same_place p (place_of s)) ss ≡ Some r → IsIn x ss → same_place p (place_of x) ≡ true → x ≡ r
alone_there p [] r x apart found here at = absurd here
alone_there p (y ∷ ss) r x apart found here at =
    elim (cases_Bool (same_place p (place_of y))) [
      | inl e ↦ (
          let f : Some y ≡ Some r = rw e at found in
          elim here [
            | inl same ↦ sym same ∙ same_Some y r f
            | inr later ↦
                let apart_is = and_parts (not (x.number == y.number)) (not (same_place (place_of x) (place_of y))) (all_in (λ z. are_apart y z ≡ true) x ss apart.0 later) in
                absurd (true≢false (sym apart_is.1 ∙ ap not (place_same (place_of x) (place_of y) (sym (place_is p (place_of x) at) ∙ place_is p (place_of y) e))))
          ])
      | inr e ↦ elim here [
        | inl same ↦ absurd (true≢false (sym at ∙ ap (λ (z : StateidRow). same_place p (place_of z)) (sym same) ∙ e))
        | inr later ↦ alone_there p ss r x apart.1 (rw e at found) later at
      ]
    ]

-- what an owner has on a file is held by it
pub held_by : (w file client at : ℕ) (h : Holder) → same_place (Owned w file) (held_at h client at) ≡ true → owned_by h ≡ Some w
held_by w file client at (holders.Open by) e = ap (λ (m : ℕ). Some m) (sym (eqb-true w by (and_parts (w == by) (file == at) e).0))
held_by w file client at (holders.Lock by under opener) e = ap (λ (m : ℕ). Some m) (sym (eqb-true w by (and_parts (w == by) (file == at) e).0))
held_by w file client at (holders.Delegation write) e = absurd (true≢false (sym e))

pub place_file : (w file : ℕ) (r : StateidRow) → owned_on w file r ≡ true → file ≡ r.file
place_file w file r e = by r.holder e
  where
    by : (h : Holder) → same_place (Owned w file) (held_at h r.client r.file) ≡ true → file ≡ r.file
    by (holders.Open x) e = eqb-true file r.file (and_parts (w == x) (file == r.file) e).1
    by (holders.Lock x under opener) e = eqb-true file r.file (and_parts (w == x) (file == r.file) e).1
    by (holders.Delegation write) e = absurd (true≢false (sym e))

pub free_of : {A : Type 0} (p : A → Bool) (xs : List A) → ((x : A) → IsIn x xs → p x ≡ false) → find p xs ≡ None
free_of {A = A} p xs each = by (find p xs) refl (find_in p xs)
  where
    by : (o : Option A) → find p xs ≡ o → IfSome o (λ x. IsIn x xs × (p x ≡ true)) → find p xs ≡ None
    by None e h = e
    by (Some x) e h = absurd (true≢false (sym h.1 ∙ each x h.0))

-- ---- a new open can come

-- what is left once what an owner closed is gone
pub gone_in : (closed : Option ℕ) (l : NfsLists) (x : StateidRow) → IsIn x (closed_gone closed l).stateids → IsIn x l.stateids × (closes closed x.number ≡ false)
gone_in None l x here = (here, refl)
gone_in (Some number) l x here =
    let parts = in_filter_from (λ q. not (is_whose (whose.Stateid number) q)) x l.stateids here in
    (parts.0, false_from_ne_true (number == x.number) (λ e. true≢false (sym parts.1 ∙ ap (λ (b : Bool). not (b || is_under number x.holder)) e)))

pub not_held : (r : StateidRow) (owner : ℕ) (os : List OwnerRow) (h : Holder) → owned_by h ≡ Some owner → find (is_owner owner) os ≡ None → IsHeldBy os r h → ⊥
not_held r owner os (holders.Open w) is none held = subst (λ (x : Option OwnerRow). IsOwnedBy r kinds.Open x) (ap (λ (m : ℕ). find (is_owner m) os) (same_Some w owner is) ∙ none) held
not_held r owner os (holders.Lock w under opener) is none held = subst (λ (x : Option OwnerRow). IsOwnedBy r kinds.Lock x) (ap (λ (m : ℕ). find (is_owner m) os) (same_Some w owner is) ∙ none) held
not_held r owner os (holders.Delegation write) is none held = true≢false (sym (ap is_some is))

-- nothing stands in its place
place_free : (o : Opener) (seqids : SeqidState) (l : NfsLists) (file : ℕ) → IsOrderly l → is_room_for o l ≡ true → open_held l o file ≡ None → (y : StateidRow) → IsIn y (seated o seqids l).stateids → owned_on (opener_number o l) file y ≡ false
unfolding seated
place_free o seqids l file orderly room none y here = by (find (is_opener o) l.owners) (next_owner l.owners) refl refl room none here
  where
    closed_there : (r : StateidRow) → live (Some r) ≡ None → r.standing.closed ≡ true
    closed_there r e = told r.standing.closed refl e
      where
        told : (b : Bool) → r.standing.closed ≡ b → (if b then None else Some r) ≡ None → r.standing.closed ≡ true
        told true is f = is
        told false is f = absurd (true≢false (ap is_some f))

    had : (x : OwnerRow) → find (is_opener o) l.owners ≡ Some x → (q : Option StateidRow) → find (owned_on x.number file) l.stateids ≡ q → live q ≡ None → IsIn y l.stateids → closes x.seqids.closed y.number ≡ false → owned_on x.number file y ≡ true → ⊥
    had x named None f e there left at = true≢false (sym at ∙ none_in (owned_on x.number file) l.stateids y f there)
    had x named (Some r) f e there left at =
        let same : y ≡ r = alone_there (Owned x.number file) l.stateids r y orderly.apart f there at in
        let held : IsHeldBy l.owners y y.holder = all_in (λ z. IsHeldBy l.owners z z.holder) y l.stateids orderly.held there in
        let is = closed_by l.owners y y.holder x.number x (held_by x.number file y.client y.file y.holder at) (rising_found (is_opener o) l.owners x orderly.rising named) held in
        true≢false (sym (ap (λ (z : StateidRow). z.standing.closed) same ∙ closed_there r e) ∙ is ∙ left)

    by : (x : Option OwnerRow) (next : Option ℕ) → find (is_opener o) l.owners ≡ x → next_owner l.owners ≡ next → (is_some x || is_some next) ≡ true → live (option_and_then (λ (w : OwnerRow). find (owned_on w.number file) l.stateids) x) ≡ None → IsIn y (seated_by o seqids l x).stateids → owned_on (number_by x next) file y ≡ false
    by (Some x) next named f is e there =
        let parts = gone_in x.seqids.closed (seqid_set x.number seqids l) y there in
        false_from_ne_true (owned_on x.number file y) (had x named (find (owned_on x.number file) l.stateids) refl e parts.0 parts.1)
    by None (Some number) named f is e there =
        let in_old : IsIn y l.stateids = subst (λ (next : Option ℕ). IsIn y (seated_new o seqids l next).stateids) f there in
        false_from_ne_true (owned_on number file y) (λ at. not_held y number l.owners y.holder (held_by number file y.client y.file y.holder at) (fresh_number l.owners number orderly.rising f) (all_in (λ z. IsHeldBy l.owners z z.holder) y l.stateids orderly.held in_old))
    by None None named f is e there = absurd (true≢false (sym is))

-- fewer opens are there than before
fewer : (drops : StateidRow → Bool) (ss : List StateidRow) → opens (without drops ss) ≤ opens ss
fewer drops [] = omega arith
fewer drops (x ∷ ss) =
    elim (cases_Bool (drops x)) [
      | inl e ↦ rw e (elim (cases_Bool (is_live x)) [ inl d ↦ rw d (omega (arith, fewer drops ss)) | inr d ↦ rw d (fewer drops ss) ])
      | inr e ↦ rw e (elim (cases_Bool (is_live x)) [ inl d ↦ rw d (omega (arith, fewer drops ss)) | inr d ↦ rw d (fewer drops ss) ])
    ]

gone_fewer : (closed : Option ℕ) (l : NfsLists) → opens (closed_gone closed l).stateids ≤ opens l.stateids
gone_fewer None l = omega arith
gone_fewer (Some number) l = fewer (is_whose (whose.Stateid number)) l.stateids

seated_fewer : (o : Opener) (seqids : SeqidState) (l : NfsLists) → opens (seated o seqids l).stateids ≤ opens l.stateids
unfolding seated
seated_fewer o seqids l = by (find (is_opener o) l.owners)
  where
    new : (next : Option ℕ) → opens (seated_new o seqids l next).stateids ≤ opens l.stateids
    new None = omega arith
    new (Some number) = omega arith

    by : (x : Option OwnerRow) → opens (seated_by o seqids l x).stateids ≤ opens l.stateids
    by None = new (next_owner l.owners)
    by (Some r) = gone_fewer r.seqids.closed (seqid_set r.number seqids l)

pub seated_clients : (o : Opener) (seqids : SeqidState) (l : NfsLists) → (seated o seqids l).clients ≡ l.clients
unfolding seated
seated_clients o seqids l = by (find (is_opener o) l.owners)
  where
    gone : (closed : Option ℕ) (m : NfsLists) → (closed_gone closed m).clients ≡ m.clients
    gone None m = refl
    gone (Some number) m = refl

    new : (next : Option ℕ) → (seated_new o seqids l next).clients ≡ l.clients
    new None = refl
    new (Some number) = refl

    by : (x : Option OwnerRow) → (seated_by o seqids l x).clients ≡ l.clients
    by None = new (next_owner l.owners)
    by (Some r) = gone r.seqids.closed (seqid_set r.number seqids l)

-- its owner is there, and of its client
owner_hangs : (o : Opener) (seqids : SeqidState) (l : NfsLists) → o.kind ≡ kinds.Open → IsSeated o seqids l (seated o seqids l) → owner_fits o.client kinds.Open (find (is_owner (opener_number o l)) (seated o seqids l).owners) ≡ true
owner_hangs o seqids l kind is =
    ap (λ (m : ℕ). owner_fits o.client kinds.Open (find (is_owner m) (seated o seqids l).owners)) (sym is.number)
    ∙ ap (owner_fits o.client kinds.Open) is.found
    ∙ and_from (o.client == is.row.name.client) (same_kind kinds.Open is.row.name.kind) (eq-eqb o.client is.row.name.client (sym is.client)) (ap (same_kind kinds.Open) (is.kind ∙ kind))

pub comes : (others : ℕ) (s : CoreState) (l : NfsLists) (o : Opener) (a : OpenArgsItem) (file : ℕ) (confirmed : Bool) → o.kind ≡ kinds.Open → is_some (find (is_client o.client true) l.clients) ≡ true → IsOrderly l → has_room others l o file ≡ true → open_held l o file ≡ None → can_come s l o a file confirmed ≡ true
comes others s l o a file confirmed kind client orderly room none =
    let seqids = open_seqids a confirmed in
    let parts = and_parts (is_room_for o l) (is_some (open_held l o file) || nat_lt (opens l.stateids + others) most_opens) room in
    let few : nat_lt (opens l.stateids + others) most_opens ≡ true = ap (λ (x : Option StateidRow). is_some x || nat_lt (opens l.stateids + others) most_opens) (sym none) ∙ parts.1 in
    let is = seat_is o seqids l orderly.rising parts.0 in
    let l' = freed (s.counter + 1) (seated o seqids l) in
    let p : StateidRow → Bool = owned_on (opener_number o l) file in
    let free : find p l'.stateids ≡ None = free_of p l'.stateids (λ y here. place_free o seqids l file orderly parts.0 none y (in_filter_from (λ q. not (is_whose (whose.Stateid (s.counter + 1)) q)) y (seated o seqids l).stateids here).0) in
    let less = ltb-true (opens l.stateids + others) most_opens few in
    let fits : opens l'.stateids < most_opens = omega (arith, less, fewer (is_whose (whose.Stateid (s.counter + 1))) (seated o seqids l).stateids, seated_fewer o seqids l) in
    and_from (not (is_some (find p l'.stateids))) (can_hang l' (open_row (s.counter + 1) o (opener_number o l) file a) && nat_lt (opens l'.stateids) most_opens) (ap (λ (x : Option StateidRow). not (is_some x)) free)
    (and_from (can_hang l' (open_row (s.counter + 1) o (opener_number o l) file a)) (nat_lt (opens l'.stateids) most_opens)
    (and_from (is_some (find (is_client o.client true) (seated o seqids l).clients)) (owner_fits o.client kinds.Open (find (is_owner (opener_number o l)) (seated o seqids l).owners))
    (ap (λ (cs : List ClientRow). is_some (find (is_client o.client true) cs)) (seated_clients o seqids l) ∙ client) (owner_hangs o seqids l kind is))
    (lt-ltb (opens l'.stateids) most_opens fits))

-- ---- what it tells

abbrev stateid_in : Stateid → Told → Stateid
stateid_in other (Opened stateid flags gave) = stateid
stateid_in other _ = other

-- the numbers that are drawn for a delegation
done_for : (n : ℕ) (s : CoreState) (write : Option Bool) → all_done n s (draws_for write) ≡ drawn_for write s
done_for n s None = refl
done_for n s (Some write) = refl

new_known : (n others : ℕ) (s : CoreState) (l : NfsLists) (current : Option ℕ) (o : Opener) (a : OpenArgsItem) (file : ℕ) (confirmed : Bool) (write : Option Bool) (stateid : Stateid) (flags : ℕ) (gave : Option (Stateid × Bool)) → o.kind ≡ kinds.Open → is_some (find (is_client o.client true) l.clients) ≡ true → IsOrderly l → has_room others l o file ≡ true → open_held l o file ≡ None
    → (carried n s l (granted_new s l o a file confirmed write)).0 ≡ Opened stateid flags gave → IsKnown o a stateid (carried n s l (granted_new s l o a file confirmed write))
new_known n others s l current o a file confirmed write stateid flags gave kind client orderly room none told =
    let seqids = open_seqids a confirmed in
    let there : NfsLists = seated o seqids l in
    let row = open_row (s.counter + 1) o (opener_number o l) file a in
    let whole : NfsLists = delegated (drawn s) o file write (entered row there) in
    let is = seat_is o seqids l orderly.rising (and_parts (is_room_for o l) _ room).0 in
    record {
      row = row;
      owner = is.row;
      found = new_open_comes n s l current o a file confirmed write (comes others s l o a file confirmed kind client orderly room none);
      named = sym (ap (stateid_in stateid) told) ∙ ap (λ (u : CoreState). stateid_of u (s.counter + 1) 1) (sym (done_for n (drawn s) write));
      opener = ap (λ (os : List OwnerRow). find (is_opener o) os) (kept_owners (opener_number o l) (spelled 18 (opened_told (drawn_for write (drawn s)) (s.counter + 1) 1 confirmed (delegation_told (drawn s) write))) whole ∙ delegated_owners (drawn s) o file write (entered row there) ∙ entered_owners row there) ∙ is.named;
      holder = ap (λ (m : ℕ). holders.Open m) (sym is.number);
      file = refl;
      live = refl;
      access = within_self (rights_of a.access);
      deny = within_self (rights_of a.deny);
    }

-- what an owner of opens has on a file is an open
open_holds : (r : StateidRow) (o : Opener) (x : OwnerRow) (os : List OwnerRow) (h : Holder) → o.kind ≡ kinds.Open → x.name.kind ≡ o.kind → owned_by h ≡ Some x.number → find (is_owner x.number) os ≡ Some x → IsHeldBy os r h → h ≡ holders.Open x.number
open_holds r o x os (holders.Open w) kind same is found held = ap (λ (m : ℕ). holders.Open m) (same_Some w x.number is)
open_holds r o x os (holders.Lock w under opener) kind same is found held =
    let owned : IsOwnedBy r kinds.Lock (Some x) = subst (λ (y : Option OwnerRow). IsOwnedBy r kinds.Lock y) (ap (λ (m : ℕ). find (is_owner m) os) (same_Some w x.number is) ∙ found) held in
    absurd (true≢false (ap (same_kind kinds.Open) (sym kind ∙ sym same ∙ owned.1)))
open_holds r o x os (holders.Delegation write) kind same is found held = absurd (true≢false (sym (ap is_some is)))

found_there : {A : Type 0} (p : A → Bool) (xs : List A) (x : A) → find p xs ≡ Some x → IsIn x xs × (p x ≡ true)
found_there {A = A} p xs x found = subst (λ (o : Option A). IfSome o (λ y. IsIn y xs × (p y ≡ true))) found (find_in p xs)

more_known : (n : ℕ) (s : CoreState) (l : NfsLists) (current : Option ℕ) (o : Opener) (a : OpenArgsItem) (file : ℕ) (confirmed : Bool) (write : Option Bool) (r : StateidRow) (stateid : Stateid) (flags : ℕ) (gave : Option (Stateid × Bool)) → o.kind ≡ kinds.Open → is_room_for o l ≡ true → IsOrderly l → open_held l o file ≡ Some r
    → (carried n s l (granted_more s l o a file confirmed write r)).0 ≡ Opened stateid flags gave → IsKnown o a stateid (carried n s l (granted_more s l o a file confirmed write r))
more_known n s l current o a file confirmed write r stateid flags gave kind room orderly e told =
    let seqids = open_seqids a confirmed in
    let had = had_is o file l r orderly e in
    let x = had.owner in
    let there = found_there (owned_on x.number file) l.stateids r had.placed in
    let held : IsHeldBy l.owners r r.holder = all_in (λ z. IsHeldBy l.owners z z.holder) r l.stateids orderly.held there.0 in
    let found = rising_found (is_opener o) l.owners x orderly.rising had.named in
    let mine : owned_by r.holder ≡ Some x.number = held_by x.number file r.client r.file r.holder there.1 in
    let names = and_parts (o.client == x.name.client) _ (found_there (is_opener o) l.owners x had.named).1 in
    let same : x.name.kind ≡ o.kind = sym (kinds_are o.kind x.name.kind (and_parts (same_kind o.kind x.name.kind) _ names.1).0) in
    let holds : r.holder ≡ holders.Open x.number = open_holds r o x l.owners r.holder kind same mine found held in
    let stays : option_and_then (λ (y : OwnerRow). y.seqids.closed) (find (is_opener o) l.owners) ≡ Some r.number → ⊥ = λ d. true≢false (sym (closed_by l.owners r r.holder x.number x mine found held ∙ ap (λ (c : Option ℕ). closes c r.number) (sym (ap (λ (y : Option OwnerRow). option_and_then (λ (z : OwnerRow). z.seqids.closed) y) had.named) ∙ d) ∙ eq-eqb r.number r.number refl) ∙ had.live) in
    let after : NfsLists = stood r.number r (either_bits r.standing.access a.access) (either_bits r.standing.deny a.deny) false l in
    let is = seat_is o seqids after orderly.rising room in
    record {
      row = with_standing (record { seqid = next_seqid r.standing.seqid; access = either_bits r.standing.access a.access; deny = either_bits r.standing.deny a.deny; closed = false }) r;
      owner = is.row;
      found = more_is_had n s l current o a file confirmed write r x.number had.found holds stays;
      named = sym (ap (stateid_in stateid) told) ∙ ap (λ (u : CoreState). stateid_of u r.number (next_seqid r.standing.seqid)) (sym (done_for n s write));
      opener = ap (λ (os : List OwnerRow). find (is_opener o) os) (kept_owners (opener_number o l) (spelled 18 (opened_told (drawn_for write s) r.number (next_seqid r.standing.seqid) confirmed (delegation_told s write))) (delegated s o file write (seated o seqids after)) ∙ delegated_owners s o file write (seated o seqids after)) ∙ is.named;
      holder = holds ∙ ap (λ (m : ℕ). holders.Open m) (ap (λ (y : Option OwnerRow). number_by y (next_owner l.owners)) (sym had.named) ∙ sym is.number);
      file = ap (λ (m : ℕ). Some m) (place_file x.number file r there.1);
      live = refl;
      access = both_have_asked r.standing.access a.access;
      deny = both_have_asked r.standing.deny a.deny;
    }

-- ---- an OPEN

known_behind : (o : Opener) (a : OpenArgsItem) (stateid : Stateid) (effects : List Effect) (done : Outcome) → IsKnown o a stateid done → IsKnown o a stateid (told_behind effects done)
known_behind o a stateid effects done known = record { row = known.row; owner = known.owner; found = known.found; named = known.named; opener = known.opener; holder = known.holder; file = known.file; live = known.live; access = known.access; deny = known.deny }

-- where it tells a stateid, that is known
abbrev Knows : Opener → OpenArgsItem → Stateid → ℕ → Option (Stateid × Bool) → Outcome → Type 0
Knows o a stateid flags gave done = done.0 ≡ Opened stateid flags gave → IsKnown o a stateid done

granted_known : (n others : ℕ) (s : CoreState) (l : NfsLists) (current : Option ℕ) (o : Opener) (a : OpenArgsItem) (file : ℕ) (confirmed : Bool) (stateid : Stateid) (flags : ℕ) (gave : Option (Stateid × Bool)) (write : Option Bool) (x : Option StateidRow) → open_held l o file ≡ x → o.kind ≡ kinds.Open → is_some (find (is_client o.client true) l.clients) ≡ true → IsOrderly l → has_room others l o file ≡ true → Knows o a stateid flags gave (carried n s l (granted_by s l o a file confirmed write x))
granted_known n others s l current o a file confirmed stateid flags gave write None e kind client orderly room = new_known n others s l current o a file confirmed write stateid flags gave kind client orderly room e
granted_known n others s l current o a file confirmed stateid flags gave write (Some r) e kind client orderly room = more_known n s l current o a file confirmed write r stateid flags gave kind (and_parts (is_room_for o l) _ room).0 orderly e

answered_known : (n others : ℕ) (s : CoreState) (l : NfsLists) (current : Option ℕ) (o : Opener) (a : OpenArgsItem) (file : ℕ) (confirmed : Bool) (stateid : Stateid) (flags : ℕ) (gave : Option (Stateid × Bool)) (wish : Option Bool) (answer : Answer) → o.kind ≡ kinds.Open → is_some (find (is_client o.client true) l.clients) ≡ true → IsOrderly l → has_room others l o file ≡ true → Knows o a stateid flags gave (carried n s l (answered l current o a file confirmed wish answer s))
answered_known n others s l current o a file confirmed stateid flags gave wish answer kind client orderly room =
    elim (cases_Bool (is_granted answer)) [
      | inl e ↦ rw e (granted_known n others s l current o a file (confirmed || reclaims a.claim) stateid flags gave (granted_wish s o file wish) (open_held l o file) refl kind client orderly room)
      | inr e ↦ rw e (λ d. absurd cc)
    ]

by_known : (n others : ℕ) (s : CoreState) (l : NfsLists) (current : Option ℕ) (o : Opener) (a : OpenArgsItem) (confirmed : Bool) (stateid : Stateid) (flags : ℕ) (gave : Option (Stateid × Bool)) (r : Result ℕ NfsStatus) → o.kind ≡ kinds.Open → is_some (find (is_client o.client true) l.clients) ≡ true → IsOrderly l → Knows o a stateid flags gave (carried n s l (open_by others s l current o a confirmed r))
by_known n others s l current o a confirmed stateid flags gave (Err status) kind client orderly = λ d. absurd cc
by_known n others s l current o a confirmed stateid flags gave (Ok file) kind client orderly =
    let wish = wish_of s l o a confirmed file in
    let r = ask n all_rooms s (share_ask wish o a file) in
    elim (cases_Bool (has_room others l o file)) [
      | inl e ↦ rw e (λ told. known_behind o a stateid r.1 (carried n r.2 l (answered l current o a file confirmed wish r.0 r.2)) (answered_known n others r.2 l current o a file confirmed stateid flags gave wish r.0 kind client orderly e told))
      | inr e ↦ rw e (λ d. absurd cc)
    ]

as_known : (n : ℕ) (files : List (List ℕ)) (others : ℕ) (s : CoreState) (l : NfsLists) (current : Option ℕ) (at : ℕ) (o : Opener) (a : OpenArgsItem) (confirmed : Bool) (stateid : Stateid) (flags : ℕ) (gave : Option (Stateid × Bool)) → o.kind ≡ kinds.Open → is_some (find (is_client o.client true) l.clients) ≡ true → IsOrderly l → Knows o a stateid flags gave (carried n s l (open_as files others s l current at o a confirmed))
unfolding open_as
as_known n files others s l current at o a confirmed stateid flags gave kind client orderly = by_known n others s l current o a confirmed stateid flags gave (opened_file files s l o.client at a) kind client orderly

repeat_known : (n : ℕ) (s : CoreState) (l : NfsLists) (current : Option ℕ) (o : Opener) (a : OpenArgsItem) (stateid : Stateid) (flags : ℕ) (gave : Option (Stateid × Bool)) (k : Option KeptRow) → Knows o a stateid flags gave (carried n s l (repeated s l current k))
repeat_known n s l current o a stateid flags gave None = λ d. absurd cc
repeat_known n s l current o a stateid flags gave (Some k) = λ d. absurd cc

judged_known : (n : ℕ) (files : List (List ℕ)) (others : ℕ) (s : CoreState) (l : NfsLists) (current : Option ℕ) (at : ℕ) (o : Opener) (a : OpenArgsItem) (stateid : Stateid) (flags : ℕ) (gave : Option (Stateid × Bool)) (j : Judged) → o.kind ≡ kinds.Open → is_some (find (is_client o.client true) l.clients) ≡ true → IsOrderly l → Knows o a stateid flags gave (carried n s l (open_judged files others s l current at o a j))
judged_known n files others s l current at o a stateid flags gave judgements.Bad kind client orderly = λ d. absurd cc
judged_known n files others s l current at o a stateid flags gave (judgements.Repeats number) kind client orderly = repeat_known n s l current o a stateid flags gave (find (is_kept number) l.kept)
judged_known n files others s l current at o a stateid flags gave (judgements.Anew number) kind client orderly =
    let deeds = gives_all s o (filter (is_whose (whose.Owner number)) l.stateids) in
    let m = without_owner number l in
    λ told. known_behind o a stateid (all_told_of n s deeds) (carried n (all_done n s deeds) m (open_as files others (all_done n s deeds) m current at o a false)) (as_known n files others (all_done n s deeds) m current at o a false stateid flags gave kind client (owner_goes l number orderly) told)
judged_known n files others s l current at o a stateid flags gave judgements.New kind client orderly = as_known n files others s l current at o a false stateid flags gave kind client orderly
judged_known n files others s l current at o a stateid flags gave judgements.Next kind client orderly = as_known n files others s l current at o a true stateid flags gave kind client orderly

pub told_is_known : (n : ℕ) (files : List (List ℕ)) (others : ℕ) (s : CoreState) (l : NfsLists) (current : Option ℕ) (at : ℕ) (c : ClientRow) (a : OpenArgsItem) (stateid : Stateid) (flags : ℕ) (gave : Option (Stateid × Bool)) → IsOrderly l → client_in s l a.owner.clientid ≡ Some c → (carried n s l (open_judged files others s l current at (opener_of c a) a (judged l (opener_of c a) a.seqid))).0 ≡ Opened stateid flags gave
    → IsKnown (opener_of c a) a stateid (carried n s l (open_judged files others s l current at (opener_of c a) a (judged l (opener_of c a) a.seqid)))
told_is_known n files others s l current at c a stateid flags gave orderly found told =
    judged_known n files others s l current at (opener_of c a) a stateid flags gave (judged l (opener_of c a) a.seqid) refl (opener_there s l a c (opener_of c a) (sym found) refl) orderly told
