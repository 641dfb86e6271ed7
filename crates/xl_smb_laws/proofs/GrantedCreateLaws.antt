-- A CREATE that waited and is granted stands.
use Rattle.std.proofs.Common.{◌≡◌, ℕ, ◌-◌, ◌≤◌, Bool, true, false, not, ◌&&◌, eqb, List, [], ◌∷◌, ◌++◌, length, Option, Some, None, is_some, refl, sym, ap, subst, ◌∙◌, inl, inr, arith}
use Rattle.std.specs.Prelude.{◌⊎◌, nat_lt, IfSome}
use Rattle.std.proofs.lemmas.Bool.{true≢false, false≢true}
use Rattle.std.proofs.lemmas.Bool.Decides.{nat_tests}
use Rattle.xl_base.proofs.Members.{all_in, in_append_right}
use Rattle.xl_base.specs.Lists.{IsIn, Pairwise}
use Rattle.xl_base.specs.RecordFile.{most_record_bytes}
use Rattle.xl_base.specs.declared.event.Out.{Out}
use Rattle.xl_base.specs.declared.name.Owner.TheVariants as owners
use Rattle.xl_base.specs.declared.name.Party.{Party}
use Rattle.xl_matrix.specs.declared.claim.Claim.{Claim}
use Rattle.xl_smb_state.proofs.RowLaws.{equal_self}
use Rattle.xl_smb_state.specs.Links.{most_opens}
use Rattle.xl_smb_state.specs.State.{Lists, is_key, is_of_file, lease_of, open_of, waiting_dropped, waiting_of}
use Rattle.xl_smb_state.specs.declared.row.Holder.{Holder}
use Rattle.xl_smb_state.specs.declared.row.LeaseKey.{LeaseKey}
use Rattle.xl_smb_state.specs.declared.row.Open.{Open}
use Rattle.xl_smb_state.specs.declared.row.Request.{Request}
use Rattle.xl_smb_state.specs.declared.row.Request.TheVariants as request
use Rattle.xl_smb_state.specs.declared.row.Waiting.{Waiting}
use Rattle.xl_wait.specs.declared.waiter.Rooms.{Rooms}
use Rattle.xl_wait.specs.declared.waiter.Waiter.{Waiter}
use Rattle.xl_core.proofs.DecideLaws.{blockers_none, free_unless}
use Rattle.xl_core.proofs.FrameLaws.{way_leaves}
use Rattle.xl_core.proofs.LimitLaws.{grant_found}
use Rattle.xl_core.proofs.SettleLaws.{turn_is}
use Rattle.xl_core.specs.Blockers.{blocker, is_in_line, cache_against, is_stopped}
use Rattle.xl_core.specs.Causes.{IsEachBehind, IsTurn, Answered, WaitsOn, last_answer, name_waiting}
use Rattle.xl_core.specs.Frames.{who_left}
use Rattle.xl_core.specs.Judge.{to_record}
use Rattle.xl_core.specs.Stores.{bytes_with, may_record}
use Rattle.xl_core.specs.Good.{IsGood, are_apart}
use Rattle.xl_core.specs.Limits.{first_passed, grant_limits, is_passed, most_hosts, most_owners}
use Rattle.xl_table.specs.Least.{least}
use Rattle.xl_table.specs.Relock.{granted_claims, most_claims}
use Rattle.xl_names.specs.Names.{most_names}
use Rattle.xl_core.specs.Settle.{plea_again, settle, way_again}
use Rattle.xl_core.specs.State.{CoreState}
use Rattle.xl_core.specs.declared.ask.Answer.{Answer}
use Rattle.xl_core.specs.declared.ask.Answer.TheVariants as answers
use Rattle.xl_core.specs.declared.ask.Effect.{Effect}
use Rattle.xl_core.specs.declared.ask.Effect.TheVariants as effects
use Rattle.xl_smb_locks.proofs.NoticeLaws.{granted_stands, granted_told}
use Rattle.xl_smb_locks.specs.Finals.{final_outs, holder_stands, may_stand}
use Rattle.xl_smb_locks.specs.declared.finals.FinalReply.TheVariants.{Opened}
use Rattle.xl_core.specs.Ids.{id_of}
use Rattle.xl_smb_locks.specs.Levels.{caching}
use Rattle.xl_smb_laws.specs.WaitingRequests.{AreAwaited, AsksToOpen, IsAskerOf, IsAwaited, IsGranted, IsUnder, MayStand}
use Rattle.xl_front_smb.specs.FrontSmb.{smb_shown}
use Rattle.xl_front_smb.specs.State.{FrontSmb}
use Rattle.xl_front_smb.specs.Laws.{IsLeased}
use Rattle.xl_smb_laws.proofs.AwaitedRequestLaws.{row_in}
use Rattle.xl_smb_laws.proofs.LeaseKeyLaws.{comes_leased, lease_on}

-- ---- who is granted had room

not_conflict : {c d : Claim} → answers.Granted c ≡ answers.Conflict d → ⊥
not_conflict e = cc

not_recall : {c d : Claim} → answers.Granted c ≡ answers.Recall d → ⊥
not_recall e = cc

not_full : {c : Claim} {limit : ℕ} → answers.Granted c ≡ answers.Full limit → ⊥
not_full e = cc

not_less : (m n : ℕ) → nat_lt m n ≡ false → n ≤ m
not_less m n e = grind (arith, nat_tests, e)

second_passed : (a b : Bool) (rest : List (ℕ × Bool)) → is_passed ((most_hosts, a) ∷ (most_opens, b) ∷ rest) most_opens ≡ false → b ≡ false
second_passed a false rest h = refl
second_passed a true rest h = absurd (true≢false h)

each_room : (earlier : List Waiter) (left rows : Rooms) (bytes kept : ℕ) (last : Answer) (c d : Claim) (s : CoreState) → IsEachBehind earlier left rows bytes kept last (c ∷ []) s (answers.Granted d) → rows.opens ≤ left.opens
each_room earlier left rows bytes kept last c d s due =
    let moves : is_stopped earlier s c ≡ false = free_of (blocker earlier s c) refl in
    let clear : cache_against s.claims c ≡ None = none_of moves (cache_against s.claims c) refl in
    let free : is_in_line earlier s c ≡ false = free_unless earlier s c moves clear in
    by free (first_passed (grant_limits left rows (length (granted_claims c s.claims)) bytes kept)) refl
  where
    free_of : (o : Option Claim) → blocker earlier s c ≡ o → is_stopped earlier s c ≡ false
    free_of None e = blockers_none earlier s c e
    free_of (Some x) e = absurd (not_conflict (due.0 x e))

    none_of : is_stopped earlier s c ≡ false → (o : Option Claim) → cache_against s.claims c ≡ o → o ≡ None
    none_of moves None e = refl
    none_of moves (Some x) e = absurd (not_recall (due.1 x moves e))

    by : is_in_line earlier s c ≡ false → (o : Option ℕ) → first_passed (grant_limits left rows (length (granted_claims c s.claims)) bytes kept) ≡ o → rows.opens ≤ left.opens
    by free None e = not_less left.opens rows.opens (second_passed (nat_lt left.hosts rows.hosts) (nat_lt left.opens rows.opens)
        ((most_owners, nat_lt left.owners rows.owners) ∷ (most_claims, nat_lt most_claims (length (granted_claims c s.claims))) ∷ (most_record_bytes, nat_lt most_record_bytes bytes) ∷ (most_names, nat_lt most_names kept) ∷ [])
        (grant_found left rows (length (granted_claims c s.claims)) bytes kept None e most_opens))
    by free (Some limit) e = absurd (not_full (due.2 limit free (grant_found left rows (length (granted_claims c s.claims)) bytes kept (Some limit) e)))

-- ---- who is served is the waiter of the row

pub none_served : (party : Party) (id : ℕ) (answer : Answer) (es : List Effect) → who_left es ≡ [] → IsIn (effects.Served party id answer) es → ⊥
none_served party id answer [] none here = absurd here
none_served party id answer (effects.Served other k told ∷ es) none here = cc
none_served party id answer (effects.Cancelled other k ∷ es) none here = cc
none_served party id answer (effects.Begun cache to call ∷ es) none here = elim here [ inl same ↦ absurd (differs same) | inr rest ↦ none_served party id answer es none rest ]
  where
    differs : effects.Begun cache to call ≡ effects.Served party id answer → ⊥
    differs e = cc
none_served party id answer (effects.Expired client ∷ es) none here = elim here [ inl same ↦ absurd (differs same) | inr rest ↦ none_served party id answer es none rest ]
  where
    differs : effects.Expired client ≡ effects.Served party id answer → ⊥
    differs e = cc

pub in_either : (e : Effect) (xs ys : List Effect) → IsIn e (xs ++ ys) → IsIn e xs ⊎ IsIn e ys
in_either e [] ys here = inr here
in_either e (x ∷ xs) ys here = elim here [ inl same ↦ inl (inl same) | inr rest ↦ elim (in_either e xs ys rest) [ inl old ↦ inl (inr old) | inr new ↦ inr new ] ]

pub one_waiter : (ws : List Waiter) (v w : Waiter) → Pairwise are_apart ws → IsIn v ws → IsIn w ws → v.id ≡ w.id → v ≡ w
one_waiter [] v w apart here there same = absurd here
one_waiter (x ∷ ws) v w apart here there same =
    elim here [
      | inl first ↦ elim there [
        | inl second ↦ sym first ∙ second
        | inr rest ↦ absurd (not_apart x w (ap (λ (y : Waiter). y.id) first ∙ same) (all_in (λ (y : Waiter). are_apart x y ≡ true) w ws apart.0 rest))
      ]
      | inr later ↦ elim there [
        | inl second ↦ absurd (not_apart x v (ap (λ (y : Waiter). y.id) second ∙ sym same) (all_in (λ (y : Waiter). are_apart x y ≡ true) v ws apart.0 later))
        | inr rest ↦ one_waiter ws v w apart.1 later rest same
      ]
    ]
  where
    not_apart : (y z : Waiter) → y.id ≡ z.id → are_apart y z ≡ true → ⊥
    not_apart y z e apart = false≢true (ap not (sym (ap (λ (k : ℕ). eqb y.id k) (sym e) ∙ equal_self y.id)) ∙ apart)

pub first_of : {c d : Claim} {cs ds : List Claim} → c ∷ cs ≡ d ∷ ds → c ≡ d
first_of e = cc

pub rest_of : {c d : Claim} {cs ds : List Claim} → c ∷ cs ≡ d ∷ ds → cs ≡ ds
rest_of e = cc

same_granted : {c d : Claim} → answers.Granted c ≡ answers.Granted d → c ≡ d
same_granted e = cc

pub same_party : {party other : Party} {id k : ℕ} {answer told : Answer} → effects.Served other k told ≡ effects.Served party id answer → other ≡ party
same_party e = cc

pub same_id : {party other : Party} {id k : ℕ} {answer told : Answer} → effects.Served other k told ≡ effects.Served party id answer → k ≡ id
same_id e = cc

pub same_answer : {party other : Party} {id k : ℕ} {answer told : Answer} → effects.Served other k told ≡ effects.Served party id answer → told ≡ answer
same_answer e = cc

-- what is served with a grant
pub record IsGrantOf (left : Rooms) (s : CoreState) (told : List Effect) (party : Party) (id : ℕ) (claim : Claim) : Type 0 where
  pub before : List Effect
  pub begun : who_left before ≡ []
  pub last : told ≡ before ++ effects.Served party id (answers.Granted claim) ∷ []
  pub waiter : Waiter
  pub waits : IsIn waiter s.waiters
  pub number : waiter.id ≡ id
  pub named : waiter.party ≡ party
  pub claims : List Claim
  pub asked : waiter.asked ≡ claim ∷ claims
  pub room : claims ≡ [] → waiter.rows.opens ≤ left.opens

pub served_grant : (n : ℕ) (left : Rooms) (s t : CoreState) (told : List Effect) (party : Party) (id : ℕ) (claim : Claim) → IsTurn n left s told t → IsIn (effects.Served party id (answers.Granted claim)) told → IsGrantOf left s told party id claim
served_grant n left s t told party id claim turn here =
    elim (in_either (effects.Served party id (answers.Granted claim)) (way_again turn.before s turn.waiter).0 turn.told (subst (λ (es : List Effect). IsIn (effects.Served party id (answers.Granted claim)) es) turn.effects_are here)) [
      | inl begun ↦ absurd (none_served party id (answers.Granted claim) (way_again turn.before s turn.waiter).0 (way_leaves turn.before (plea_again s turn.waiter) turn.waiter.asked s) begun)
      | inr last ↦ elim turn.served [
        | WaitsOn none up same ↦ absurd (subst (λ (es : List Effect). IsIn (effects.Served party id (answers.Granted claim)) es) none last)
        | Answered answer is granted due new free ↦ elim (subst (λ (es : List Effect). IsIn (effects.Served party id (answers.Granted claim)) es) is last) [
          | inr none ↦ absurd none
          | inl one ↦ (
              let own : answer ≡ answers.Granted claim = same_answer one in
              let this : claim ≡ turn.claim = granted claim own in
              record {
                before = (way_again turn.before s turn.waiter).0;
                begun = way_leaves turn.before (plea_again s turn.waiter) turn.waiter.asked s;
                last = turn.effects_are ∙ ap (λ (es : List Effect). (way_again turn.before s turn.waiter).0 ++ es) is ∙ ap (λ (x : Effect). (way_again turn.before s turn.waiter).0 ++ x ∷ []) one;
                waiter = turn.waiter;
                waits = subst (λ (ws : List Waiter). IsIn turn.waiter ws) (sym turn.stood) (in_append_right turn.waiter turn.before (turn.waiter ∷ turn.behind) (inl refl));
                number = same_id one;
                named = same_party one;
                claims = turn.claims;
                asked = turn.asked ∙ ap (λ (c : Claim). c ∷ turn.claims) (sym this);
                room = λ alone.
                    let u : CoreState = (way_again turn.before s turn.waiter).1 in
                    let bytes = bytes_with (name_waiting u turn.waiter) u.stable in
                    let told_last = last_answer (may_record n u (to_record (name_waiting u turn.waiter) turn.waiter.asked)) turn.claim in
                    each_room turn.before left turn.waiter.rows bytes (length u.names) told_last turn.claim claim u (due_of turn bytes told_last answer own (turn.asked ∙ ap (λ (cs : List Claim). turn.claim ∷ cs) alone) due);
              })
        ]
      ]
    ]
  where
    due_of : (turn : IsTurn n left s told t) (bytes : ℕ) (last answer : Answer) → answer ≡ answers.Granted claim → turn.waiter.asked ≡ turn.claim ∷ []
        → IsEachBehind turn.before left turn.waiter.rows bytes (length (way_again turn.before s turn.waiter).1.names) last turn.waiter.asked (way_again turn.before s turn.waiter).1 answer
        → IsEachBehind turn.before left turn.waiter.rows bytes (length (way_again turn.before s turn.waiter).1.names) last (turn.claim ∷ []) (way_again turn.before s turn.waiter).1 (answers.Granted claim)
    due_of turn bytes last answer own alone due =
        let u : CoreState = (way_again turn.before s turn.waiter).1 in
        subst (λ (cs : List Claim). IsEachBehind turn.before left turn.waiter.rows bytes (length u.names) last cs u (answers.Granted claim)) alone
        (subst (λ (a : Answer). IsEachBehind turn.before left turn.waiter.rows bytes (length u.names) last turn.waiter.asked u a) own due)

-- ---- so the open may stand

-- the row's waiter asked for the share alone, and its open may stand
pub record MakesStand (l : Lists) (row : Waiting) (made : Open) (claim : Claim) : Type 0 where
  pub may : may_stand row.opened made l ≡ true
  pub owner : claim.owner ≡ owners.Open row.opened
  pub file : claim.file ≡ made.file
  pub on : (key : LeaseKey) → is_key key made.client made.lease ≡ true → is_of_file made.file (lease_of key l) ≡ true

all_three : (a b c : Bool) → a ≡ true → b ≡ false → c ≡ true → (a && (not b && c)) ≡ true
all_three a b c first second third = rw (first, second, third) refl

pub grant_stands : (n : ℕ) (left : Rooms) (s t : CoreState) (l : Lists) (told : List Effect) (party : Party) (id : ℕ) (claim : Claim) (row : Waiting) (made : Open) → IsGood s → AreAwaited s l → IsTurn n left s told t → IsIn (effects.Served party id (answers.Granted claim)) told
    → left.opens ≤ most_opens - length l.opens → waiting_of id l ≡ Some row → row.request ≡ request.Create made → MakesStand l row made claim
grant_stands n left s t l told party id claim row made good all turn here room at makes =
    let grant = served_grant n left s t told party id claim turn here in
    let is = all_in (IsAwaited s l) (id, row) l.waiting all (row_in id l.waiting row at) in
    let one : is.waiter ≡ grant.waiter = one_waiter s.waiters is.waiter grant.waiter good.apart is.waits grant.waits (is.number ∙ sym grant.number) in
    let asks : AsksToOpen is.waiter row.opened made = subst (λ (r : Request). IsAskerOf is.waiter row.opened r) makes is.asker in
    let under : MayStand l (id, row) made = subst (λ (r : Request). IsUnder l (id, row) r) makes is.under in
    let asked : asks.claim ∷ [] ≡ claim ∷ grant.claims = sym asks.asked ∙ ap (λ (w : Waiter). w.asked) one ∙ grant.asked in
    let rows : grant.waiter.rows.opens ≡ 1 = ap (λ (w : Waiter). w.rows.opens) (sym one) ∙ asks.row in
    let fits : grant.waiter.rows.opens ≤ left.opens = grant.room (sym (rest_of asked)) in
    let few : nat_lt (length l.opens) most_opens ≡ true = grind (arith, nat_tests, rows, fits, room) in
    let same : claim ≡ asks.claim = sym (first_of asked) in
    record {
      may = all_three (nat_lt (length l.opens) most_opens) (is_some (open_of row.opened l)) (holder_stands made.holder made.client l) few under.free (ap (λ (by : Holder). holder_stands by made.client l) under.held ∙ under.place);
      owner = ap (λ (c : Claim). c.owner) same ∙ asks.owner;
      file = ap (λ (c : Claim). c.file) same ∙ asks.file;
      on = λ key own. lease_on key made.file l (under.keyed key own).leases;
    }

pub turn_of : (n : ℕ) (left : Rooms) (s t : CoreState) (told : List Effect) → IsGood s → settle n left s ≡ Some (told, t) → IsTurn n left s told t
turn_of n left s t told good e = subst (λ (o : Option (List Effect × CoreState)). IfSome o (λ x. IsTurn n left s x.0 x.1)) e (turn_is n left s good)

-- ---- as the laws say it

module _ (n : ℕ) (left : Rooms) (s t u : CoreState) (f : FrontSmb) (party : Party) (id : ℕ) (row : Waiting) (made : Open) (claim : Claim) where
  stands : IsGood s → AreAwaited s f.state → IsGranted n left s t f.state party id row made claim → MakesStand f.state row made claim
  stands good all is = grant_stands n left s t f.state is.told party id claim row made good all (turn_of n left s t is.told good is.turn) is.served is.room is.waits is.makes

  pub granted_share : IsGood s → AreAwaited s f.state → IsGranted n left s t f.state party id row made claim → (claim.owner ≡ owners.Open row.opened) × (claim.file ≡ made.file)
  granted_share good all is = let made_so = stands good all is in (made_so.owner, made_so.file)

  pub granted_row : IsGood s → AreAwaited s f.state → IsGranted n left s t f.state party id row made claim → open_of row.opened (smb_shown f u (effects.Served party id (answers.Granted claim))).1.state ≡ Some made
  unfolding smb_shown
  granted_row good all is = granted_stands u f.state party id claim row made is.waits is.makes (stands good all is).may

  pub granted_reply : IsGood s → AreAwaited s f.state → IsGranted n left s t f.state party id row made claim → (smb_shown f u (effects.Served party id (answers.Granted claim))).0 ≡ final_outs id row (Opened (id_of u row.opened) (caching u row.opened made))
  unfolding smb_shown
  granted_reply good all is = ap (λ (r : List Out × Lists). r.0) (granted_told u f.state party id claim row made is.waits is.makes (stands good all is).may)

  pub granted_lease : IsGood s → AreAwaited s f.state → IsGranted n left s t f.state party id row made claim → IsLeased (smb_shown f u (effects.Served party id (answers.Granted claim))).1.state row.opened made
  unfolding smb_shown
  granted_lease good all is =
      let made_so = stands good all is in
      let told = ap (λ (r : List Out × Lists). r.1) (granted_told u f.state party id claim row made is.waits is.makes made_so.may) in
      subst (λ (m : Lists). IsLeased m row.opened made) (sym told) (comes_leased row.opened made (waiting_dropped id f.state) made_so.on)
