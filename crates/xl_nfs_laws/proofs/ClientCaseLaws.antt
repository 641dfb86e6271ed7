-- What RENEW, SETCLIENTID and SETCLIENTID_CONFIRM come to, case by case.
use Rattle.std.proofs.Common.{◌≡◌, ℕ, ◌+◌, Bool, true, false, not, List, [], ◌∷◌, ◌++◌, Option, Some, None, is_some, refl, sym, ap, subst, ◌∙◌, ◌↔◌, inl, inr, true≢false}
use Rattle.std.proofs.lemmas.Bool.{cases_Bool, and_parts, eq-eqb, eqb-true}
use Rattle.std.proofs.lemmas.Option.{same_Some}
use Rattle.std.specs.Bool.{◌==◌, beq}
use Rattle.std.specs.Cmp.Lexicographic.{bytes_decides}
use Rattle.std.specs.List.{find}
use Rattle.std.specs.Option.{option_and_then}
use Rattle.std.specs.Prelude.{◌&&◌, IfSome, bytes_eq}
use Rattle.xl_base.proofs.Members.{in_filter_from}
use Rattle.xl_base.proofs.Searches.{find_in}
use Rattle.xl_base.specs.Lists.{IsIn}
use Rattle.xl_base.specs.declared.name.Party.{Party}
use Rattle.xl_matrix.proofs.EqualLaws.{same_parties-self}
use Rattle.xl_matrix.specs.Equal.{same_parties}
use Rattle.xl_matrix.specs.declared.claim.Claim.{Claim}
use Rattle.xl_names.specs.declared.name.Name.TheVariants.{NfsParty}
use Rattle.xl_nfs.specs.Clients.{SetClientIdArgsItem}
use Rattle.xl_nfs.specs.declared.clients.ClientConfirm.{ClientConfirm}
use Rattle.xl_nfs.specs.declared.status.NfsStatus.TheVariants as statuses
use Rattle.xl_nfs_state.specs.Filed.{changed}
use Rattle.xl_nfs_state.specs.Rows.{with_details}
use Rattle.xl_nfs_state.specs.State.{NfsLists, is_client, is_client_named, without, without_client}
use Rattle.xl_nfs_state.specs.declared.client.ClientDetails.{ClientDetails}
use Rattle.xl_nfs_state.specs.declared.client.ClientRow.{ClientRow}
use Rattle.xl_nfs_state.specs.declared.owner.OwnerRow.{OwnerRow}
use Rattle.xl_nfs_state.specs.declared.stateid.StateidRow.{StateidRow}
use Rattle.xl_core.specs.Askers.{party_named}
use Rattle.xl_core.specs.Deeds.{Renews, all_done}
use Rattle.xl_core.specs.Ids.{number_in}
use Rattle.xl_core.specs.Settle.{end_party}
use Rattle.xl_core.specs.State.{CoreState}
use Rattle.xl_core.specs.Ticks.{renew as renew_lease}
use Rattle.xl_front_nfs.specs.Clients.{come, confirm_found, confirm_held, confirm_number, confirm_of, confirm_over, confirmed_by, confirmed_row, ends, has_room, number_kept, numbers, record_end, renew, renew_found, renew_number, row_of, set_by, set_client_id, set_client_id_confirm, without_found, without_named, without_number}
use Rattle.xl_nfs_opens.specs.Opens.{client_in}
use Rattle.xl_nfs_opens.specs.Plans.{Plan, carried}
use Rattle.xl_nfs_opens.specs.declared.told.Told.TheVariants.{Ended}
use Rattle.xl_nfs_laws.specs.ClientCases.{CanConfirm, IsConfirmed, IsGone, IsSet, IsUnconfirmed, KeepsState}

-- ---- lists

module _ {A : Type 0} where
  -- what is looked for isn't among those that go
  pub find_without : (p q : A → Bool) (xs : List A) → ((x : A) → p x ≡ true → q x ≡ false) → find p (without q xs) ≡ find p xs
  find_without p q [] apart = refl
  find_without p q (x ∷ xs) apart =
      elim (cases_Bool (p x)) [
        | inl e ↦ (let stays : q x ≡ false = apart x e in rw stays (rw e refl))
        | inr e ↦ elim (cases_Bool (q x)) [
          | inl d ↦ rw d (rw e (find_without p q xs apart))
          | inr d ↦ rw d (rw e (find_without p q xs apart))
        ]
      ]

  pub none_without : (p : A → Bool) (xs : List A) → find p (without p xs) ≡ None
  none_without p [] = refl
  none_without p (x ∷ xs) =
      elim (cases_Bool (p x)) [
        | inl e ↦ rw e (none_without p xs)
        | inr e ↦ rw e (rw e (none_without p xs))
      ]

  pub find_last : (p : A → Bool) (xs : List A) (x : A) → find p xs ≡ None → p x ≡ true → find p (xs ++ x ∷ []) ≡ Some x
  find_last p [] x none is = rw is refl
  find_last p (y ∷ xs) x none is =
      elim (cases_Bool (p y)) [
        | inl e ↦ (let f : Some y ≡ None = rw e at none in absurd (true≢false (ap is_some f)))
        | inr e ↦ rw e (find_last p xs x (rw e at none) is)
      ]

  pub find_beside : (p : A → Bool) (xs : List A) (x : A) → p x ≡ false → find p (xs ++ x ∷ []) ≡ find p xs
  find_beside p [] x other = rw other refl
  find_beside p (y ∷ xs) x other =
      elim (cases_Bool (p y)) [
        | inl e ↦ rw e refl
        | inr e ↦ rw e (find_beside p xs x other)
      ]

  pub none_after : (p q : A → Bool) (xs : List A) → find p xs ≡ None → find p (without q xs) ≡ None
  none_after p q [] none = refl
  none_after p q (x ∷ xs) none =
      elim (cases_Bool (p x)) [
        | inl e ↦ (let f : Some x ≡ None = rw e at none in absurd (true≢false (ap is_some f)))
        | inr e ↦ elim (cases_Bool (q x)) [
          | inl d ↦ rw d (none_after p q xs (rw e at none))
          | inr d ↦ rw d (rw e (none_after p q xs (rw e at none)))
        ]
      ]

  pub found_passes : (p : A → Bool) (xs : List A) (x : A) → find p xs ≡ Some x → p x ≡ true
  found_passes p xs x e = (subst (λ (o : Option A). IfSome o (λ y. IsIn y xs × (p y ≡ true))) e (find_in p xs)).1

-- ---- records, confirmed or not

both_apart : (x y b : Bool) → (x && beq true b) ≡ true → (y && beq false b) ≡ false
both_apart true true true e = refl
both_apart true false true e = refl
both_apart true true false e = absurd (true≢false (sym e))
both_apart true false false e = absurd (true≢false (sym e))
both_apart false y b e = absurd (true≢false (sym e))

-- who is confirmed isn't unconfirmed
number_apart : (m k : ℕ) (r : ClientRow) → is_client m true r ≡ true → is_client k false r ≡ false
number_apart m k r e = both_apart (m == r.number) (k == r.number) r.confirmed e

pub named_apart : (id : List ℕ) (k : ℕ) (r : ClientRow) → is_client_named id true r ≡ true → is_client k false r ≡ false
named_apart id k r e = both_apart (bytes_eq id r.id) (k == r.number) r.confirmed e

-- so nothing of the confirmed goes with an unconfirmed record
confirmed_stay : (m k : ℕ) (l : NfsLists) → find (is_client m true) (without_number k l).clients ≡ find (is_client m true) l.clients
confirmed_stay m k l = find_without (is_client m true) (is_client k false) l.clients (number_apart m k)

confirmed_named : (id : List ℕ) (k : ℕ) (l : NfsLists) → find (is_client_named id true) (without_number k l).clients ≡ find (is_client_named id true) l.clients
confirmed_named id k l = find_without (is_client_named id true) (is_client k false) l.clients (named_apart id k)

-- ---- RENEW

pub renew_exactly : (n : ℕ) (s : CoreState) (l : NfsLists) (current : Option ℕ) (clientid : ℕ) → ((carried n s l (renew s l current clientid)).0 ≡ Ended statuses.Ok) ↔ ((c : ClientRow) × (client_in s l clientid ≡ Some c))
unfolding renew
renew_exactly n s l current clientid = by (number_in s clientid)
  where
    found : (o : Option ClientRow) → ((carried n s l (renew_found l current o)).0 ≡ Ended statuses.Ok) ↔ ((c : ClientRow) × (o ≡ Some c))
    found None = (λ e. absurd cc, λ e. absurd (true≢false (ap is_some (sym e.1))))
    found (Some c) = (λ e. (c, refl), λ e. refl)

    by : (o : Option ℕ) → ((carried n s l (renew_number l current o)).0 ≡ Ended statuses.Ok) ↔ ((c : ClientRow) × (option_and_then (λ number. find (is_client number true) l.clients) o ≡ Some c))
    by None = (λ e. absurd cc, λ e. absurd (true≢false (ap is_some (sym e.1))))
    by (Some number) = found (find (is_client number true) l.clients)

pub renew_else : (n : ℕ) (s : CoreState) (l : NfsLists) (current : Option ℕ) (clientid : ℕ) → client_in s l clientid ≡ None → carried n s l (renew s l current clientid) ≡ (Ended statuses.StaleClientId, current, [], l, s)
unfolding renew
renew_else n s l current clientid none = by (number_in s clientid) none
  where
    found : (o : Option ClientRow) → o ≡ None → carried n s l (renew_found l current o) ≡ (Ended statuses.StaleClientId, current, [], l, s)
    found None e = refl
    found (Some c) e = absurd (true≢false (ap is_some e))

    by : (o : Option ℕ) → option_and_then (λ number. find (is_client number true) l.clients) o ≡ None → carried n s l (renew_number l current o) ≡ (Ended statuses.StaleClientId, current, [], l, s)
    by None e = refl
    by (Some number) e = found (find (is_client number true) l.clients) e

pub renew_keeps : (n : ℕ) (s : CoreState) (l : NfsLists) (current : Option ℕ) (clientid : ℕ) → (carried n s l (renew s l current clientid)).3 ≡ l
unfolding renew
renew_keeps n s l current clientid = by (number_in s clientid)
  where
    found : (o : Option ClientRow) → (carried n s l (renew_found l current o)).3 ≡ l
    found None = refl
    found (Some c) = refl

    by : (o : Option ℕ) → (carried n s l (renew_number l current o)).3 ≡ l
    by None = refl
    by (Some number) = found (find (is_client number true) l.clients)

-- ---- SETCLIENTID

-- only an unconfirmed record goes
record IsLess (l new : NfsLists) : Type 0 where
  confirmed : (m : ℕ) → find (is_client m true) new.clients ≡ find (is_client m true) l.clients
  named : (id : List ℕ) → find (is_client_named id true) new.clients ≡ find (is_client_named id true) l.clients
  owners : new.owners ≡ l.owners
  stateids : new.stateids ≡ l.stateids
  kept : new.kept ≡ l.kept

named_less : (id : List ℕ) (l : NfsLists) → IsLess l (without_named id l)
named_less id l = by (find (is_client_named id false) l.clients)
  where
    by : (o : Option ClientRow) → IsLess l (without_found l o)
    by None = record { confirmed = λ m. refl; named = λ id. refl; owners = refl; stateids = refl; kept = refl }
    by (Some r) = record { confirmed = λ m. confirmed_stay m r.number l; named = λ id. confirmed_named id r.number l; owners = refl; stateids = refl; kept = refl }

not_confirmed : (m k : ℕ) → (m == k && beq true false) ≡ false
not_confirmed m k = elim (cases_Bool (m == k)) [ inl e ↦ rw e refl | inr e ↦ rw e refl ]

own_number : (k : ℕ) → (k == k && beq false false) ≡ true
own_number k = rw (eq-eqb k k refl) refl

set_stands : (n : ℕ) (s : CoreState) (l m : NfsLists) (current : Option ℕ) (a : SetClientIdArgsItem) (kept : Option ℕ) → IsLess l m → has_room m ≡ true → IsSet s l a (numbers s.counter kept).0 (carried n s l (set_by s m current a kept))
set_stands n s l m current a kept less room =
    let number = (numbers s.counter kept).0 in
    let confirm = (numbers s.counter kept).1 in
    let row = row_of (record_end s) a number confirm in
    rw room (record {
      told = confirm_of s number confirm;
      row = row;
      told_is = refl;
      clientid = refl;
      stands = find_last (is_client number false) (without_number number m).clients row (none_without (is_client number false) m.clients) (own_number number);
      id_is = refl;
      verifier = refl;
      confirm = refl;
      callback = refl;
      confirmed = λ other. find_beside (is_client other true) (without_number number m).clients row (not_confirmed other number) ∙ confirmed_stay other number m ∙ less.confirmed other;
      owners = less.owners;
      stateids = less.stateids;
      kept = less.kept;
    })

kept_same : (verifier : List ℕ) (o : Option ClientRow) (r : ClientRow) → o ≡ Some r → r.details.verifier ≡ verifier → number_kept verifier o ≡ Some r.number
kept_same verifier None r e same = absurd (true≢false (ap is_some (sym e)))
kept_same verifier (Some x) r e same =
    let is : x ≡ r = same_Some x r e in
    rw ((bytes_decides x.details.verifier verifier).1 (ap (λ (y : ClientRow). y.details.verifier) is ∙ same)) (ap (λ (y : ClientRow). Some y.number) is)

kept_none : (verifier : List ℕ) (o : Option ClientRow) → ((r : ClientRow) → o ≡ Some r → r.details.verifier ≡ verifier → ⊥) → number_kept verifier o ≡ None
kept_none verifier None other = refl
kept_none verifier (Some x) other =
    elim (cases_Bool (bytes_eq x.details.verifier verifier)) [
      | inl e ↦ absurd (other x refl ((bytes_decides x.details.verifier verifier).0 e))
      | inr e ↦ rw e refl
    ]

pub set_same : (n : ℕ) (s : CoreState) (l : NfsLists) (current : Option ℕ) (a : SetClientIdArgsItem) (r : ClientRow) → has_room (without_named a.id l) ≡ true → find (is_client_named a.id true) l.clients ≡ Some r → r.details.verifier ≡ a.verifier → IsSet s l a r.number (carried n s l (set_client_id s l current a))
unfolding set_client_id
set_same n s l current a r room found same =
    let m : NfsLists = without_named a.id l in
    let less = named_less a.id l in
    let kept : number_kept a.verifier (find (is_client_named a.id true) m.clients) ≡ Some r.number = kept_same a.verifier (find (is_client_named a.id true) m.clients) r (less.named a.id ∙ found) same in
    subst (λ (x : Option ℕ). IsSet s l a r.number (carried n s l (set_by s m current a x))) (sym kept) (set_stands n s l m current a (Some r.number) less room)

pub set_new : (n : ℕ) (s : CoreState) (l : NfsLists) (current : Option ℕ) (a : SetClientIdArgsItem) → has_room (without_named a.id l) ≡ true → ((r : ClientRow) → find (is_client_named a.id true) l.clients ≡ Some r → r.details.verifier ≡ a.verifier → ⊥) → IsSet s l a (s.counter + 1) (carried n s l (set_client_id s l current a))
unfolding set_client_id
set_new n s l current a room other =
    let m : NfsLists = without_named a.id l in
    let less = named_less a.id l in
    let kept : number_kept a.verifier (find (is_client_named a.id true) m.clients) ≡ None = kept_none a.verifier (find (is_client_named a.id true) m.clients) (λ r e. other r (sym (less.named a.id) ∙ e)) in
    subst (λ (x : Option ℕ). IsSet s l a (s.counter + 1) (carried n s l (set_by s m current a x))) (sym kept) (set_stands n s l m current a None less room)

-- ---- SETCLIENTID_CONFIRM

by_this : (verifier : List ℕ) (o : Option ClientRow) (r : ClientRow) → o ≡ Some r → r.details.confirm ≡ verifier → confirmed_by verifier o ≡ Some r
by_this verifier None r e same = absurd (true≢false (ap is_some (sym e)))
by_this verifier (Some x) r e same =
    let is : x ≡ r = same_Some x r e in
    rw ((bytes_decides x.details.confirm verifier).1 (ap (λ (y : ClientRow). y.details.confirm) is ∙ same)) e

by_none : (verifier : List ℕ) (o : Option ClientRow) → ((r : ClientRow) → o ≡ Some r → r.details.confirm ≡ verifier → ⊥) → confirmed_by verifier o ≡ None
by_none verifier None other = refl
by_none verifier (Some x) other =
    elim (cases_Bool (bytes_eq x.details.confirm verifier)) [
      | inl e ↦ absurd (other x refl ((bytes_decides x.details.confirm verifier).0 e))
      | inr e ↦ rw e refl
    ]

-- neither record has the verifier
pub confirm_stale : (n : ℕ) (s : CoreState) (l : NfsLists) (current : Option ℕ) (a : ClientConfirm) → (CanConfirm s l a → ⊥) → ((carried n s l (set_client_id_confirm s l current a)).0 ≡ Ended statuses.StaleClientId) × ((carried n s l (set_client_id_confirm s l current a)).3 ≡ l)
unfolding set_client_id_confirm
confirm_stale n s l current a not = by (number_in s a.clientid) refl
  where
    held : (number : ℕ) (o : Option ClientRow) → number_in s a.clientid ≡ Some number → find (is_client number true) l.clients ≡ o → ((carried n s l (confirm_held l current a.verifier o)).0 ≡ Ended statuses.StaleClientId) × ((carried n s l (confirm_held l current a.verifier o)).3 ≡ l)
    held number None named e = (refl, refl)
    held number (Some r) named e =
        elim (cases_Bool (bytes_eq r.details.confirm a.verifier)) [
          | inl d ↦ absurd (not (record { number = number; row = r; named = named; found = inr e; verifier = (bytes_decides r.details.confirm a.verifier).0 d }))
          | inr d ↦ rw d (refl, refl)
        ]

    by : (o : Option ℕ) → number_in s a.clientid ≡ o → ((carried n s l (confirm_number s l current a.verifier o)).0 ≡ Ended statuses.StaleClientId) × ((carried n s l (confirm_number s l current a.verifier o)).3 ≡ l)
    by None named = (refl, refl)
    by (Some number) named =
        let none : confirmed_by a.verifier (find (is_client number false) l.clients) ≡ None = by_none a.verifier (find (is_client number false) l.clients) (λ r e d. not (record { number = number; row = r; named = named; found = inl e; verifier = d })) in
        subst (λ (x : Option ClientRow). ((carried n s l (confirm_found s l current number a.verifier x)).0 ≡ Ended statuses.StaleClientId) × ((carried n s l (confirm_found s l current number a.verifier x)).3 ≡ l)) (sym none) (held number (find (is_client number true) l.clients) named refl)

-- it was confirmed so already
pub confirm_again : (n : ℕ) (s : CoreState) (l : NfsLists) (current : Option ℕ) (a : ClientConfirm) (number : ℕ) (c : ClientRow) → number_in s a.clientid ≡ Some number → ((r : ClientRow) → IsUnconfirmed s l a number r → ⊥) → find (is_client number true) l.clients ≡ Some c → c.details.confirm ≡ a.verifier → ((carried n s l (set_client_id_confirm s l current a)).0 ≡ Ended statuses.Ok) × ((carried n s l (set_client_id_confirm s l current a)).3 ≡ l)
unfolding set_client_id_confirm
confirm_again n s l current a number c named other found same =
    let none : confirmed_by a.verifier (find (is_client number false) l.clients) ≡ None = by_none a.verifier (find (is_client number false) l.clients) (λ r e d. other r (record { named = named; found = e; verifier = d })) in
    let right : bytes_eq c.details.confirm a.verifier ≡ true = (bytes_decides c.details.confirm a.verifier).1 same in
    subst (λ (o : Option ℕ). Holds (confirm_number s l current a.verifier o)) (sym named)
    (subst (λ (x : Option ClientRow). Holds (confirm_found s l current number a.verifier x)) (sym none)
    (subst (λ (x : Option ClientRow). Holds (confirm_held l current a.verifier x)) (sym found) (rw right (refl, refl))))
  where
    Holds : Plan → Type 0
    Holds p = ((carried n s l p).0 ≡ Ended statuses.Ok) × ((carried n s l p).3 ≡ l)

-- an unconfirmed record that the verifier confirms is judged beside the confirmed one of its id string
confirm_plan : (s : CoreState) (l : NfsLists) (current : Option ℕ) (a : ClientConfirm) (number : ℕ) (r : ClientRow) (o : Option ClientRow) → IsUnconfirmed s l a number r → find (is_client_named r.id true) l.clients ≡ o → set_client_id_confirm s l current a ≡ confirm_over s (without_number number l) current number r o
unfolding set_client_id_confirm
confirm_plan s l current a number r o is beside =
    ap (λ (x : Option ℕ). confirm_number s l current a.verifier x) is.named
    ∙ ap (λ (x : Option ClientRow). confirm_found s l current number a.verifier x) (by_this a.verifier (find (is_client number false) l.clients) r is.found is.verifier)
    ∙ ap (λ (x : Option ClientRow). confirm_over s (without_number number l) current number r x) (confirmed_named r.id number l ∙ beside)

not_unconfirmed : (m k : ℕ) → (m == k && beq false true) ≡ false
not_unconfirmed m k = elim (cases_Bool (m == k)) [ inl e ↦ rw e refl | inr e ↦ rw e refl ]

own_confirmed : (k : ℕ) → (k == k && beq true true) ≡ true
own_confirmed k = rw (eq-eqb k k refl) refl

-- the client that comes stands then, and its unconfirmed record is gone
come_stands : (m : NfsLists) (number : ℕ) (r : ClientRow) → find (is_client number true) (come m number r).clients ≡ Some (confirmed_row number r)
come_stands m number r = find_last (is_client number true) (without_client number m).clients (confirmed_row number r) (none_without (is_client number true) m.clients) (own_confirmed number)

come_no_more : (m : NfsLists) (number : ℕ) (r : ClientRow) → find (is_client number false) m.clients ≡ None → find (is_client number false) (come m number r).clients ≡ None
come_no_more m number r none = find_beside (is_client number false) (without_client number m).clients (confirmed_row number r) (not_unconfirmed number number) ∙ none_after (is_client number false) (is_client number true) m.clients none

pub confirm_comes : (n : ℕ) (s : CoreState) (l : NfsLists) (current : Option ℕ) (a : ClientConfirm) (number : ℕ) (r : ClientRow) → IsUnconfirmed s l a number r → find (is_client_named r.id true) l.clients ≡ None → IsConfirmed number r (carried n s l (set_client_id_confirm s l current a))
confirm_comes n s l current a number r is none =
    let m : NfsLists = without_number number l in
    subst (λ (p : Plan). IsConfirmed number r (carried n s l p)) (sym (confirm_plan s l current a number r None is none)) (record {
      told = refl;
      row = confirmed_row number r;
      stands = come_stands m number r;
      id_is = refl;
      details = refl;
      no_more = come_no_more m number r (none_without (is_client number false) l.clients);
    })

-- the confirmed record changes
details_changed : (number : ℕ) (details : ClientDetails) (cs : List ClientRow) (o : ClientRow) → find (is_client number true) cs ≡ Some o → find (is_client number true) (changed (is_client number true) (with_details details) cs) ≡ Some (with_details details o)
details_changed number details [] o e = absurd (true≢false (ap is_some (sym e)))
details_changed number details (c ∷ cs) o e =
    elim (cases_Bool (is_client number true c)) [
      | inl h ↦ (let f : Some c ≡ Some o = rw h at e in rw h (rw h (ap (λ (x : ClientRow). Some (with_details details x)) (same_Some c o f))))
      | inr h ↦ rw h (rw h (details_changed number details cs o (rw h at e)))
    ]

none_changed : (p q : ClientRow → Bool) (f : ClientRow → ClientRow) (cs : List ClientRow) → ((c : ClientRow) → p (f c) ≡ p c) → find p cs ≡ None → find p (changed q f cs) ≡ None
none_changed p q f [] same none = refl
none_changed p q f (c ∷ cs) same none =
    elim (cases_Bool (p c)) [
      | inl e ↦ (let g : Some c ≡ None = rw e at none in absurd (true≢false (ap is_some g)))
      | inr e ↦ elim (cases_Bool (q c)) [
        | inl d ↦ (let other : p (f c) ≡ false = same c ∙ e in rw d (rw other (none_left cs (rw e at none))))
        | inr d ↦ rw d (rw e (none_changed p q f cs same (rw e at none)))
      ]
    ]
  where
    none_left : (ds : List ClientRow) → find p ds ≡ None → find p ds ≡ None
    none_left ds e = e

pub confirm_same : (n : ℕ) (s : CoreState) (l : NfsLists) (current : Option ℕ) (a : ClientConfirm) (number : ℕ) (r o : ClientRow) → IsUnconfirmed s l a number r → find (is_client_named r.id true) l.clients ≡ Some o → o.number ≡ number → find (is_client number true) l.clients ≡ Some o → IsConfirmed number r (carried n s l (set_client_id_confirm s l current a)) × KeepsState l (carried n s l (set_client_id_confirm s l current a))
confirm_same n s l current a number r o is beside same found =
    let m : NfsLists = without_number number l in
    let here : (o.number == number) ≡ true = eq-eqb o.number number same in
    subst (λ (p : Plan). IsConfirmed number r (carried n s l p) × KeepsState l (carried n s l p)) (sym (confirm_plan s l current a number r (Some o) is beside)) (rw here (
      record {
        told = refl;
        row = with_details r.details o;
        stands = details_changed number r.details m.clients o (confirmed_stay number number l ∙ found);
        id_is = sym ((bytes_decides r.id o.id).0 (and_parts (bytes_eq r.id o.id) (beq true o.confirmed) (found_passes (is_client_named r.id true) l.clients o beside)).0);
        details = refl;
        no_more = none_changed (is_client number false) (is_client number true) (with_details r.details) m.clients (λ c. refl) (none_without (is_client number false) l.clients);
      },
      record { owners = refl; stateids = refl; kept = refl },
    ))

-- ---- another client of the id string

not_of : (client : ℕ) (x : ℕ) → not (client == x) ≡ true → x ≡ client → ⊥
not_of client x e same = true≢false (sym e ∙ ap not (eq-eqb client x (sym same)))

no_claims : (n : ℕ) (s : CoreState) (x : Option Party) (id : List ℕ) (c : Claim) → IsIn c (all_done n s (ends x ++ Renews id ∷ [])).claims → x ≡ Some c.party → ⊥
unfolding end_party renew_lease
no_claims n s None id c here e = true≢false (ap is_some (sym e))
no_claims n s (Some party) id c here e =
    let is : party ≡ c.party = same_Some party c.party e in
    true≢false (sym (in_filter_from (λ d. not (same_parties d.party party)) c s.claims here).1 ∙ ap not (ap (λ (x : Party). same_parties c.party x) is ∙ same_parties-self c.party))

pub confirm_other : (n : ℕ) (s : CoreState) (l : NfsLists) (current : Option ℕ) (a : ClientConfirm) (number : ℕ) (r o : ClientRow) → IsUnconfirmed s l a number r → find (is_client_named r.id true) l.clients ≡ Some o → (o.number ≡ number → ⊥) → IsConfirmed number r (carried n s l (set_client_id_confirm s l current a)) × IsGone s o.number r.id (carried n s l (set_client_id_confirm s l current a))
confirm_other n s l current a number r o is beside other =
    let m : NfsLists = without_number number l in
    let left : NfsLists = without_client o.number m in
    let apart : (o.number == number) ≡ false = differ o.number number other in
    subst (λ (p : Plan). IsConfirmed number r (carried n s l p) × IsGone s o.number r.id (carried n s l p)) (sym (confirm_plan s l current a number r (Some o) is beside)) (rw apart (
      record {
        told = refl;
        row = confirmed_row number r;
        stands = come_stands left number r;
        id_is = refl;
        details = refl;
        no_more = come_no_more left number r (none_after (is_client number false) (is_client o.number true) m.clients (none_without (is_client number false) l.clients));
      },
      record {
        clients = find_beside (is_client o.number true) (without_client number left).clients (confirmed_row number r) (not_own apart)
            ∙ none_after (is_client o.number true) (is_client number true) left.clients (none_without (is_client o.number true) m.clients);
        owners = λ x here. not_of o.number x.name.client (in_filter_from (λ (y : OwnerRow). not (o.number == y.name.client)) x m.owners (in_filter_from (λ (y : OwnerRow). not (number == y.name.client)) x left.owners here).0).1;
        stateids = λ x here. not_of o.number x.client (in_filter_from (λ (y : StateidRow). not (o.number == y.client)) x m.stateids (in_filter_from (λ (y : StateidRow). not (number == y.client)) x left.stateids here).0).1;
        claims = λ c here. no_claims n s (party_named s.names (NfsParty r.id)) r.id c here;
      },
    ))
  where
    differ : (x y : ℕ) → (x ≡ y → ⊥) → (x == y) ≡ false
    differ x y distinct = elim (cases_Bool (x == y)) [ inl e ↦ absurd (distinct (eqb-true x y e)) | inr e ↦ e ]

    not_own : (o.number == number) ≡ false → (o.number == number && beq true true) ≡ false
    not_own e = rw e refl
