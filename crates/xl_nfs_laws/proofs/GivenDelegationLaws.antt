-- OPEN and DELEGRETURN: where a client gets a cache it gets a delegation, and where it gives one back it has neither.
use Rattle.std.proofs.Common.{◌≡◌, ℕ, ◌+◌, ◌<◌, ◌≤◌, Bool, true, false, not, List, [], ◌∷◌, ◌++◌, Option, Some, None, is_some, option_map, refl, sym, ap, subst, ◌∙◌, inl, inr, true≢false, arith}
use Rattle.std.proofs.lemmas.Bool.{and_from, and_parts, cases_Bool, eq-eqb, eqb-true}
use Rattle.std.proofs.lemmas.Option.{same_Some}
use Rattle.std.specs.Bool.{◌==◌, beq}
use Rattle.std.specs.Cmp.{booleans_Decides}
use Rattle.std.specs.Cmp.Lexicographic.{bytes_decides}
use Rattle.std.specs.List.{find}
use Rattle.std.specs.Option.{option_and_then}
use Rattle.std.specs.Prelude.{◌&&◌, ◌||◌, bytes_eq, IfSome}
use Rattle.xl_base.proofs.Members.{all_append, all_in, all_weaker}
use Rattle.xl_base.specs.Lists.{IsIn, Pairwise}
use Rattle.xl_base.specs.declared.name.Party.{Party}
use Rattle.xl_base.specs.declared.name.Party.TheVariants as parties
use Rattle.xl_base.specs.declared.name.Protocol.TheVariants.{Nfs}
use Rattle.xl_matrix.specs.declared.claim.Claim.{Claim}
use Rattle.xl_matrix.proofs.EqualLaws.{same_parties-true}
use Rattle.xl_matrix.specs.Equal.{same_parties}
use Rattle.xl_matrix.specs.declared.claim.What.{What}
use Rattle.xl_matrix.specs.declared.claim.What.TheVariants.{Share}
use Rattle.xl_names.proofs.NameLaws.{number_entered, one_number}
use Rattle.xl_names.specs.Names.{entered as name_entered, number_of, place_of as place_named}
use Rattle.xl_names.specs.declared.name.Name.{Name}
use Rattle.xl_names.specs.declared.name.Name.TheVariants.{NfsParty, NfsShare}
use Rattle.xl_nfs_state.specs.State.{NfsLists, delegated_on, is_client, is_client_named, is_stateid, with_stateids}
use Rattle.xl_nfs_state.specs.declared.client.ClientRow.{ClientRow}
use Rattle.xl_nfs_state.specs.declared.owner.OwnerRow.{OwnerRow}
use Rattle.xl_nfs_state.specs.declared.stateid.StateidRow.{StateidRow}
use Rattle.xl_core.proofs.DeedLaws.{deed_due}
use Rattle.xl_core.proofs.DeedLeaves.{found_in}
use Rattle.xl_core.proofs.FrameLaws.{ask_frame}
use Rattle.xl_core.proofs.WayAsks.{ask_way_names}
use Rattle.xl_core.specs.Askers.{asked_claim, asking_party}
use Rattle.xl_core.specs.BreakAnswers.{id_of}
use Rattle.xl_core.specs.Causes.{IsClaimDue}
use Rattle.xl_core.specs.Decide.{ask, before_wish, does_wish, way}
use Rattle.xl_core.specs.Places.{is_cache_on}
use Rattle.xl_core.specs.Deeds.{Asks, caches_asked}
use Rattle.xl_core.specs.Frames.{names_after}
use Rattle.xl_core.specs.Good.{IsGood, caches_of}
use Rattle.xl_core.specs.State.{CoreState}
use Rattle.xl_core.specs.Wishes.{caches_wished, wish_of as wish_by, wished_kind}
use Rattle.xl_core.specs.declared.ask.Ask.{Ask}
use Rattle.xl_core.specs.declared.ask.Answer.{Answer}
use Rattle.xl_wait.specs.declared.waiter.Rooms.{Rooms}
use Rattle.xl_nfs.specs.Opens.{OpenArgsItem}
use Rattle.xl_core.specs.declared.ask.Answer.TheVariants as answers
use Rattle.xl_nfs_laws.specs.Delegated.{AreDelegated, AreSet, IsShut, clients_apart, delegation_held, delegation_kept, delegation_numbered, is_open_still, number_confirmed, written_by}
use Rattle.xl_nfs_opens.specs.Opens.{all_rooms, can_stand, delegated, delegated_in, delegation_in, delegation_row, draws_for, is_granted, rights_of, share_ask}
use Rattle.xl_nfs_opens.specs.declared.opener.Opener.{Opener}
use Rattle.xl_nfs_laws.proofs.OpenNumberLaws.{draws, next_unused}
use Rattle.xl_nfs_opens.proofs.OpenOwn.{ask_fits}
use Rattle.xl_nfs_opens.proofs.OwnerLaws.{own_client}
use Rattle.xl_nfs_laws.proofs.QuietCacheLaws.{IsQuiet, asked_kind, deed_held, once_other, one_quiet}
use Rattle.xl_nfs_laws.proofs.StillDelegatedLaws.{AreStill, later_set, new_still, placed_delegation, still_kept}

-- ---- confirmed clients

pub itself_named : (x : ClientRow) → x.confirmed ≡ true → is_client_named x.id true x ≡ true
itself_named x sure = and_from (bytes_eq x.id x.id) (beq true x.confirmed) (own_client x.id) (rw sure refl)

-- the test says the same of what is found
pub named_is : (id : List ℕ) (x : ClientRow) → is_client_named id true x ≡ true → (id ≡ x.id) × (x.confirmed ≡ true)
named_is id x e =
    let parts = and_parts (bytes_eq id x.id) (beq true x.confirmed) e in
    ((bytes_decides id x.id).0 parts.0, sym ((booleans_Decides true x.confirmed).0 parts.1))

pub numbered_is : (number : ℕ) (x : ClientRow) → is_client number true x ≡ true → (number ≡ x.number) × (x.confirmed ≡ true)
numbered_is number x e =
    let parts = and_parts (number == x.number) (beq true x.confirmed) e in
    (eqb-true number x.number parts.0, sym ((booleans_Decides true x.confirmed).0 parts.1))

-- two that are apart have neither one number nor one id string
are_two : (a b : ClientRow) → clients_apart a b ≡ true → a.confirmed ≡ true → b.confirmed ≡ true → ((a.number == b.number) ≡ false) × (bytes_eq a.id b.id ≡ false)
are_two a b apart sure too =
    let rest : not (a.number == b.number || bytes_eq a.id b.id) ≡ true = rw (sure, too) at apart in
    neither (a.number == b.number) (bytes_eq a.id b.id) rest
  where
    neither : (p q : Bool) → not (p || q) ≡ true → (p ≡ false) × (q ≡ false)
    neither false false e = (refl, refl)
    neither false true e = absurd (true≢false (sym e))
    neither true q e = absurd (true≢false (sym e))

-- a confirmed client is found by its id string
pub named_found : (cs : List ClientRow) (c : ClientRow) → Pairwise clients_apart cs → IsIn c cs → c.confirmed ≡ true → find (is_client_named c.id true) cs ≡ Some c
named_found [] c apart there sure = absurd there
named_found (x ∷ xs) c apart (inl same) sure = subst (λ (y : ClientRow). find (is_client_named y.id true) (x ∷ xs) ≡ Some y) same (rw (itself_named x (ap (λ (y : ClientRow). y.confirmed) same ∙ sure)) refl)
named_found (x ∷ xs) c apart (inr later) sure =
    elim (cases_Bool (is_client_named c.id true x)) [
      | inr other ↦ rw other (named_found xs c apart.1 later sure)
      | inl here ↦
          let is = named_is c.id x here in
          let two = are_two x c (all_in (λ (y : ClientRow). clients_apart x y ≡ true) c xs apart.0 later) is.1 sure in
          absurd (true≢false (sym ((bytes_decides x.id c.id).1 (sym is.0)) ∙ two.1))
    ]

-- and two confirmed ones of one number are one
pub one_client : (cs : List ClientRow) (a b : ClientRow) → Pairwise clients_apart cs → IsIn a cs → IsIn b cs → a.confirmed ≡ true → b.confirmed ≡ true → a.number ≡ b.number → a ≡ b
one_client [] a b apart there too sure and same = absurd there
one_client (x ∷ xs) a b apart (inl e) (inl f) sure and same = sym e ∙ f
one_client (x ∷ xs) a b apart (inr e) (inr f) sure and same = one_client xs a b apart.1 e f sure and same
one_client (x ∷ xs) a b apart (inl e) (inr f) sure and same =
    let two = are_two x b (all_in (λ (y : ClientRow). clients_apart x y ≡ true) b xs apart.0 f) (ap (λ (y : ClientRow). y.confirmed) e ∙ sure) and in
    absurd (true≢false (sym (eq-eqb x.number b.number (ap (λ (y : ClientRow). y.number) e ∙ same)) ∙ two.0))
one_client (x ∷ xs) a b apart (inr e) (inl f) sure and same =
    let two = are_two x a (all_in (λ (y : ClientRow). clients_apart x y ≡ true) a xs apart.0 e) (ap (λ (y : ClientRow). y.confirmed) f ∙ and) sure in
    absurd (true≢false (sym (eq-eqb x.number a.number (ap (λ (y : ClientRow). y.number) f ∙ sym same)) ∙ two.0))

-- the client of this number, by its id string
pub number_is : (cs : List ClientRow) (number : ℕ) (c : ClientRow) → Pairwise clients_apart cs → find (is_client number true) cs ≡ Some c → number_confirmed cs c.id ≡ Some c.number
number_is cs number c apart e =
    let found = found_in (is_client number true) cs c e in
    ap (option_map (λ (r : ClientRow). r.number)) (named_found cs c apart found.0 (numbered_is number c found.1).1)

pub id_is : (cs : List ClientRow) (number : ℕ) (c : ClientRow) (id : List ℕ) → Pairwise clients_apart cs → find (is_client number true) cs ≡ Some c → number_confirmed cs id ≡ Some c.number → id ≡ c.id
id_is cs number c id apart e is = by (find (is_client_named id true) cs) refl is
  where
    by : (x : Option ClientRow) → find (is_client_named id true) cs ≡ x → option_map (λ (r : ClientRow). r.number) x ≡ Some c.number → id ≡ c.id
    by None f h = absurd (true≢false (ap is_some (sym h)))
    by (Some d) f h =
        let found = found_in (is_client number true) cs c e in
        let named = found_in (is_client_named id true) cs d f in
        let parts = named_is id d named.1 in
        parts.0 ∙ ap (λ (r : ClientRow). r.id) (one_client cs d c apart named.0 found.0 parts.1 (numbered_is number c found.1).1 (same_Some d.number c.number h))

-- ---- a share with a wish

granted_party : (o : Opener) (a : OpenArgsItem) (wish : Option Bool) (file : ℕ) (names : List Name) → asking_party (share_ask wish o a file) names ≡ parties.Name Nfs (place_named (NfsParty o.id) (name_entered (NfsShare o.id o.owner) names))
unfolding share_ask
granted_party o a wish file names = refl

granted_names : (o : Opener) (a : OpenArgsItem) (wish : Option Bool) (file : ℕ) (c : Claim) (names : List Name) → names_after (share_ask wish o a file) (answers.Granted c) names ≡ name_entered (NfsParty o.id) (name_entered (NfsShare o.id o.owner) names)
unfolding share_ask
granted_names o a wish file c names = refl

-- what is granted is the share of this file and party
granted_claim : (n : ℕ) (s : CoreState) (wish : Option Bool) (o : Opener) (a : OpenArgsItem) (file : ℕ) (c : Claim) → IsGood s → (ask n all_rooms s (share_ask wish o a file)).0 ≡ answers.Granted c → (c.file ≡ file) × (c.party ≡ asking_party (share_ask wish o a file) s.names)
unfolding share_ask
granted_claim n s wish o a file c good at =
    let due = deed_due n s (Asks all_rooms (share_ask wish o a file)) good (ask_fits wish o a file) in
    let t = (way all_rooms s (share_ask wish o a file)).1 in
    let what : What = Share (rights_of a.access) (rights_of a.deny) in
    let is : c ≡ asked_claim (share_ask wish o a file) what t.names = (subst (λ (answer : Answer). IsClaimDue n all_rooms t (share_ask wish o a file) (asked_claim (share_ask wish o a file) what t.names) answer) at due.cause).0 in
    (ap (λ (d : Claim). d.file) is, ap (λ (d : Claim). d.party) is ∙ ap (asking_party (share_ask wish o a file)) (ask_way_names all_rooms s (share_ask wish o a file)))

-- so no other client, and on no other file, gets a cache by it
share_other : (n : ℕ) (s : CoreState) (wish : Option Bool) (o : Opener) (a : OpenArgsItem) (file : ℕ) (id : List ℕ) (at number : ℕ) (c : Claim) → IsGood s → ((file == at) ≡ true → id ≡ o.id → ⊥) → (ask n all_rooms s (share_ask wish o a file)).0 ≡ answers.Granted c
    → number_of (NfsParty id) (ask n all_rooms s (share_ask wish o a file)).2.names ≡ Some number → ((c.file == at) && same_parties c.party (parties.Name Nfs number)) ≡ false
share_other n s wish o a file id at number c good other granted known =
    elim (cases_Bool ((c.file == at) && same_parties c.party (parties.Name Nfs number))) [
      | inr e ↦ e
      | inl e ↦
          let is = granted_claim n s wish o a file c good granted in
          let both = and_parts (c.file == at) (same_parties c.party (parties.Name Nfs number)) e in
          let names = name_entered (NfsShare o.id o.owner) s.names in
          let place = place_named (NfsParty o.id) names in
          let frame = ask_frame n all_rooms s (share_ask wish o a file) good (ask_fits wish o a file).party in
          let party : parties.Name Nfs number ≡ parties.Name Nfs place = sym (same_parties-true c.party (parties.Name Nfs number) both.1) ∙ is.1 ∙ granted_party o a wish file s.names in
          let same : number ≡ place = ap number_in party in
          let then : (ask n all_rooms s (share_ask wish o a file)).2.names ≡ name_entered (NfsParty o.id) names = frame.names ∙ ap (λ (answer : Answer). names_after (share_ask wish o a file) answer s.names) granted ∙ granted_names o a wish file c s.names in
          let now : number_of (NfsParty id) (name_entered (NfsParty o.id) names) ≡ Some place = ap (number_of (NfsParty id)) (sym then) ∙ known ∙ ap (λ (k : ℕ). Some k) same in
          let one : NfsParty id ≡ NfsParty o.id = (one_number (name_entered (NfsParty o.id) names) (NfsParty o.id) (NfsParty id) place (number_entered names (NfsParty o.id))).0 now in
          absurd (other (ap (λ (k : ℕ). k == at) (sym is.0) ∙ both.0) (same_Some id o.id (ap (λ (name : Name). id_of (Some name)) one)))
    ]
  where
    number_in : Party → ℕ
    number_in (parties.Name protocol k) = k
    number_in (parties.Open k) = k

-- a wish changes the cache of who asks on the file alone
wished_other : (n : ℕ) (left : Rooms) (s : CoreState) (a : Ask) (caches : List Claim) (file : ℕ) (party : Party) → ((c : Claim) → (ask n left s a).0 ≡ answers.Granted c → ((c.file == file) && same_parties c.party party) ≡ false)
    → find (is_cache_on file party) (caches_asked n left s a caches) ≡ find (is_cache_on file party) caches
wished_other n left s a caches file party each =
    elim (cases_Bool (does_wish a.act)) [
      | inr doesnt ↦ rw doesnt refl
      | inl does ↦ rw does (by (ask n left s a).0 each)
    ]
  where
    t : CoreState
    t = (before_wish n left s a).2

    by : (answer : Answer) → ((c : Claim) → answer ≡ answers.Granted c → ((c.file == file) && same_parties c.party party) ≡ false) → find (is_cache_on file party) (caches_wished a.wish answer t caches) ≡ find (is_cache_on file party) caches
    by (answers.Granted c) other = once_other (wish_by a.wish c) (wished_kind (wish_by a.wish c) t) caches file party (other c refl)
    by (answers.Queued number) other = refl
    by (answers.Conflict d) other = refl
    by (answers.Recall d) other = refl
    by (answers.Grace until) other = refl
    by (answers.NoGrace clock) other = refl
    by answers.NotRecorded other = refl
    by (answers.Full limit) other = refl
    by answers.NotHeld other = refl
    by answers.StoreFailed other = refl

share_held_by : (n : ℕ) (s : CoreState) (wish : Option Bool) (o : Opener) (a : OpenArgsItem) (file : ℕ) (id : List ℕ) (at : ℕ) → IsGood s
    → ((c : Claim) (number : ℕ) → (ask n all_rooms s (share_ask wish o a file)).0 ≡ answers.Granted c → number_of (NfsParty id) (ask n all_rooms s (share_ask wish o a file)).2.names ≡ Some number → ((c.file == at) && same_parties c.party (parties.Name Nfs number)) ≡ false)
    → delegation_held (ask n all_rooms s (share_ask wish o a file)).2 id at ≡ delegation_held s id at
share_held_by n s wish o a file id at good each =
    deed_held n s (Asks all_rooms (share_ask wish o a file)) id at good (ask_fits wish o a file) (λ number known.
    ap delegation_in (wished_other n all_rooms s (share_ask wish o a file) (caches_of (way all_rooms s (share_ask wish o a file)).1.claims) at (parties.Name Nfs number) (λ c granted. each c number granted known))
    ∙ asked_kind all_rooms s (share_ask wish o a file) at number good)

-- what else is held stays: other clients' and on other files, and all where the share isn't granted
pub others_held : (n : ℕ) (s : CoreState) (wish : Option Bool) (o : Opener) (a : OpenArgsItem) (file : ℕ) (id : List ℕ) (at : ℕ) → IsGood s → ((file == at) ≡ true → id ≡ o.id → ⊥) → delegation_held (ask n all_rooms s (share_ask wish o a file)).2 id at ≡ delegation_held s id at
others_held n s wish o a file id at good other = share_held_by n s wish o a file id at good (λ c number granted known. share_other n s wish o a file id at number c good other granted known)

pub refused_held : (n : ℕ) (s : CoreState) (wish : Option Bool) (o : Opener) (a : OpenArgsItem) (file : ℕ) (id : List ℕ) (at : ℕ) → IsGood s → is_granted (ask n all_rooms s (share_ask wish o a file)).0 ≡ false → delegation_held (ask n all_rooms s (share_ask wish o a file)).2 id at ≡ delegation_held s id at
refused_held n s wish o a file id at good refused = share_held_by n s wish o a file id at good (λ c number granted known. absurd (true≢false (sym (ap is_granted granted) ∙ refused)))

pub unwished_quiet : (n : ℕ) (s : CoreState) (o : Opener) (a : OpenArgsItem) (file : ℕ) → IsGood s → IsQuiet s (ask n all_rooms s (share_ask None o a file)).2
unfolding share_ask
unwished_quiet n s o a file good = one_quiet n s (Asks all_rooms (share_ask None o a file)) good (ask_fits None o a file) refl

-- ---- a delegation comes

module _ {A : Type 0} where
  pub find_behind : (p : A → Bool) (xs : List A) (x : A) → p x ≡ false → find p (xs ++ x ∷ []) ≡ find p xs
  find_behind p [] x other = rw other refl
  find_behind p (y ∷ ys) x other =
      elim (cases_Bool (p y)) [
        | inl here ↦ rw here refl
        | inr next ↦ rw next (find_behind p ys x other)
      ]

  pub find_last : (p : A → Bool) (xs : List A) (x : A) → find p xs ≡ None → p x ≡ true → find p (xs ++ x ∷ []) ≡ Some x
  find_last p [] x none is = rw is refl
  find_last p (y ∷ ys) x none is =
      elim (cases_Bool (p y)) [
        | inl here ↦ (let no : Some y ≡ None = rw here at none in absurd (true≢false (ap is_some no)))
        | inr next ↦ rw next (find_last p ys x (rw next at none) is)
      ]

new_set : (last : ℕ) (row : StateidRow) (m : NfsLists) → last < row.number → AreSet last m → AreSet row.number (with_stateids m (m.stateids ++ row ∷ []))
new_set last row m above set =
    let up = later_set last row.number m (omega (arith, above)) set in
    record {
      given = all_append (λ (q : StateidRow). q.number ≤ row.number) m.stateids (row ∷ []) up.given (omega arith, tt);
      shut = all_weaker (λ (o : OwnerRow). IsShut last m.stateids o.seqids.closed) (λ (o : OwnerRow). IsShut row.number (m.stateids ++ row ∷ []) o.seqids.closed) m.owners (λ o h. record {
        given = raised o.seqids.closed h.given;
        other = all_append (λ (q : StateidRow). is_open_still o.seqids.closed q ≡ true) m.stateids (row ∷ []) h.other (new_still last row o.seqids.closed h.given above, tt);
      }) set.shut;
      clients = up.clients;
    }
  where
    raised : (closed : Option ℕ) → IfSome closed (λ k. k ≤ last) → IfSome closed (λ k. k ≤ row.number)
    raised None h = tt
    raised (Some k) h = omega (arith, h, above)

-- what the core holds then, and what the lists have had so far: of the client on the file what it was granted, if anything, and it
-- had none there where it was granted something; elsewhere they agree
pub record Owes (t : CoreState) (l : NfsLists) (o : Opener) (file : ℕ) (write : Option Bool) : Type 0 where
  pub others : (id : List ℕ) (at : ℕ) → ((file == at) ≡ true → id ≡ o.id → ⊥) → delegation_held t id at ≡ delegation_kept l id at
  pub same : write ≡ None → delegation_held t o.id file ≡ delegation_kept l o.id file
  pub new : (w : Bool) → write ≡ Some w → (delegation_held t o.id file ≡ Some w) × (find (delegated_on o.client file) l.stateids ≡ None)
  pub there : is_some (find (is_client o.client true) l.clients) ≡ true
  pub named : number_confirmed l.clients o.id ≡ Some o.client
  pub only : (id : List ℕ) → number_confirmed l.clients id ≡ Some o.client → id ≡ o.id

-- they agree once the delegation has come
pub record AreGiven (last : ℕ) (t : CoreState) (m : NfsLists) : Type 0 where
  pub set : AreSet last m
  pub delegated : AreDelegated t m

-- no row in the client's place: it has none
none_row : (l m : NfsLists) (file number : ℕ) → delegation_numbered m.stateids file number ≡ delegation_numbered l.stateids file number → find (delegated_on number file) l.stateids ≡ None → find (delegated_on number file) m.stateids ≡ None
none_row l m file number same none = by (find (delegated_on number file) m.stateids) refl
  where
    by : (x : Option StateidRow) → find (delegated_on number file) m.stateids ≡ x → find (delegated_on number file) m.stateids ≡ None
    by None e = e
    by (Some r) e =
        let on = (found_in (delegated_on number file) m.stateids r e).1 in
        let some : written_by r.holder ≡ None = sym (ap (option_and_then (λ (q : StateidRow). written_by q.holder)) e) ∙ same ∙ ap (option_and_then (λ (q : StateidRow). written_by q.holder)) none in
        absurd (true≢false (sym (placed_delegation number file r on) ∙ ap is_some some))

come_given : (t u : CoreState) (l m : NfsLists) (o : Opener) (file : ℕ) (w : Bool) → AreStill u.counter l m → m.clients ≡ l.clients → Owes t l o file (Some w) → AreGiven (u.counter + 1) t (delegated u o file (Some w) m)
unfolding delegated_in
come_given t u l m o file w still clients owes = rw stands (record { set = new_set u.counter row m (omega arith) still.set; delegated = λ id at. by id at })
  where
    row : StateidRow
    row = delegation_row (u.counter + 1) o file w

    after : NfsLists
    after = with_stateids m (m.stateids ++ row ∷ [])

    free : find (delegated_on o.client file) m.stateids ≡ None
    free = none_row l m file o.client (still.rows file o.client) (owes.new w refl).1

    unused : find (is_stateid (u.counter + 1)) m.stateids ≡ None
    unused = next_unused u m still.set.given

    client : is_some (find (is_client o.client true) m.clients) ≡ true
    client = ap (λ (cs : List ClientRow). is_some (find (is_client o.client true) cs)) clients ∙ owes.there

    stands : can_stand row m ≡ true
    stands = rw (unused, free, client) refl

    own : delegation_numbered after.stateids file o.client ≡ Some w
    own = ap (option_and_then (λ (q : StateidRow). written_by q.holder)) (find_last (delegated_on o.client file) m.stateids row free (and_from (o.client == o.client) (file == file) (eq-eqb o.client o.client refl) (eq-eqb file file refl)))

    apart : (at number : ℕ) → ((number == o.client) && (at == file)) ≡ false → delegation_numbered after.stateids at number ≡ delegation_numbered m.stateids at number
    apart at number other = ap (option_and_then (λ (q : StateidRow). written_by q.holder)) (find_behind (delegated_on number at) m.stateids row other)

    elsewhere : (id : List ℕ) (at : ℕ) → ((file == at) ≡ true → id ≡ o.id → ⊥) → (x : Option ℕ) → number_confirmed m.clients id ≡ x → option_and_then (delegation_numbered after.stateids at) x ≡ option_and_then (delegation_numbered m.stateids at) x
    elsewhere id at other None e = refl
    elsewhere id at other (Some number) e =
        apart at number (elim (cases_Bool ((number == o.client) && (at == file))) [
          | inr differs ↦ differs
          | inl both ↦
              let parts = and_parts (number == o.client) (at == file) both in
              let is : number_confirmed l.clients id ≡ Some o.client = sym (still.names id) ∙ e ∙ ap (λ (k : ℕ). Some k) (eqb-true number o.client parts.0) in
              absurd (other (eq-eqb file at (sym (eqb-true at file parts.1))) (owes.only id is))
        ])

    kept_elsewhere : (id : List ℕ) (at : ℕ) → ((file == at) ≡ true → id ≡ o.id → ⊥) → delegation_held t id at ≡ delegation_kept after id at
    kept_elsewhere id at other = owes.others id at other ∙ sym (still_kept u.counter l m still id at) ∙ sym (elsewhere id at other (number_confirmed m.clients id) refl)

    here : (id : List ℕ) (at : ℕ) → file ≡ at → id ≡ o.id → delegation_held t id at ≡ delegation_kept after id at
    here id at same is =
        (λ i. delegation_held t (is i) (sym same i)) ∙ (owes.new w refl).0
        ∙ sym (ap (λ (x : Option ℕ). option_and_then (delegation_numbered after.stateids at) x) (ap (number_confirmed m.clients) is ∙ still.names o.id ∙ owes.named) ∙ ap (λ (k : ℕ). delegation_numbered after.stateids k o.client) (sym same) ∙ own)

    by : (id : List ℕ) (at : ℕ) → delegation_held t id at ≡ delegation_kept after id at
    by id at =
        elim (cases_Bool (file == at)) [
          | inr other ↦ kept_elsewhere id at (λ e is. true≢false (sym e ∙ other))
          | inl same ↦ elim (cases_Bool (bytes_eq id o.id)) [
            | inl is ↦ here id at (eqb-true file at same) ((bytes_decides id o.id).0 is)
            | inr other ↦ kept_elsewhere id at (λ e is. true≢false (sym ((bytes_decides id o.id).1 is) ∙ other))
          ]
        ]

-- the same of one that comes or of none
pub delegated_given : (t u : CoreState) (l m : NfsLists) (o : Opener) (file : ℕ) (write : Option Bool) → AreStill u.counter l m → m.clients ≡ l.clients → Owes t l o file write → AreGiven (u.counter + draws (draws_for write)) t (delegated u o file write m)
delegated_given t u l m o file (Some w) still clients owes = come_given t u l m o file w still clients owes
delegated_given t u l m o file None still clients owes = record { set = later_set u.counter (u.counter + 0) m (omega arith) still.set; delegated = λ id at. by id at ∙ sym (still_kept u.counter l m still id at) }
  where
    by : (id : List ℕ) (at : ℕ) → delegation_held t id at ≡ delegation_kept l id at
    by id at =
        elim (cases_Bool (file == at)) [
          | inr other ↦ owes.others id at (λ e is. true≢false (sym e ∙ other))
          | inl same ↦ elim (cases_Bool (bytes_eq id o.id)) [
            | inl is ↦ (let e = (bytes_decides id o.id).0 is in let f = eqb-true file at same in (λ i. delegation_held t (e i) (sym f i)) ∙ owes.same refl ∙ sym (λ i. delegation_kept l (e i) (sym f i)))
            | inr other ↦ owes.others id at (λ e is. true≢false (sym ((bytes_decides id o.id).1 is) ∙ other))
          ]
        ]
