-- What is sent for a CANCEL.
use Rattle.std.proofs.Common.{◌≡◌, ℕ, Bool, true, false, not, eqb, List, [], ◌∷◌, ◌++◌, Option, Some, None, if◌then◌else◌, refl, sym, ap, subst, ◌∙◌, append-nil, inl, inr}
use Rattle.std.proofs.lemmas.Bool.{cases_Bool, false≢true, true≢false, eqb-true}
use Rattle.std.proofs.lemmas.Map.Keys.{IsDistinct-head, IsDistinct-tail}
use Rattle.std.specs.Prelude.{nat_eq, ◌==◌}
use Rattle.std.specs.List.{AllByRecursion, IsDistinct}
use Rattle.std.specs.Map.{keys_of, lookup}
use Rattle.xl_base.proofs.Members.{all_in}
use Rattle.xl_base.specs.Lists.{IsIn, Pairwise}
use Rattle.xl_base.specs.declared.event.Out.{Out}
use Rattle.xl_base.specs.declared.journal.Exports.{Exports}
use Rattle.xl_base.specs.declared.name.Party.{Party}
use Rattle.xl_smb.specs.Calls.{Cancel}
use Rattle.xl_smb.specs.declared.head.Route.{Route}
use Rattle.xl_smb.specs.declared.head.SmbHead.{SmbHead}
use Rattle.xl_smb_state.proofs.RowLaws.{equal_from, equal_self}
use Rattle.xl_smb_state.specs.State.{Lists, client_of, covers, keys_where, waiting_dropped, waiting_of}
use Rattle.xl_smb_state.specs.declared.row.Scope.TheVariants as scope
use Rattle.xl_smb_state.specs.declared.row.Waiting.{Waiting}
use Rattle.xl_wait.specs.Waiting.{cancelled, is_waiting}
use Rattle.xl_wait.specs.declared.waiter.Waiter.{Waiter}
use Rattle.xl_core.specs.Good.{IsGood, are_apart}
use Rattle.xl_core.specs.Settle.{cancel as cancel_of, told_of_one}
use Rattle.xl_core.specs.State.{CoreState}
use Rattle.xl_core.specs.declared.ask.Effect.{Effect}
use Rattle.xl_core.specs.declared.ask.Effect.TheVariants.{Cancelled}
use Rattle.xl_smb_locks.specs.Finals.{dismissed, ended_with, final_outs, request_ended}
use Rattle.xl_smb_locks.specs.declared.finals.FinalReply.TheVariants.{Failed}
use Rattle.xl_smb_locks.specs.declared.status.SmbStatus.TheVariants as statuses
use Rattle.xl_front_smb.specs.Checks.{negotiated_by}
use Rattle.xl_front_smb.specs.Ending.{all_dismissed}
use Rattle.xl_front_smb.specs.FrontSmb.{answered, sent_by, smb_step}
use Rattle.xl_front_smb.specs.Laws.{IsRequest, outcome_of}
use Rattle.xl_front_smb.specs.Locks.{came_by, cancel, cancel_named, request_named}
use Rattle.xl_front_smb.specs.Plans.{Outcome, Plan, carried}
use Rattle.xl_front_smb.specs.Replies.{reply_of}
use Rattle.xl_front_smb.specs.Requests.{commanded, planned}
use Rattle.xl_front_smb.specs.State.{FrontSmb}
use Rattle.xl_front_smb.specs.declared.told.Told.TheVariants as told
use Rattle.xl_front_smb.proofs.EndLaws.{IsFound}
use Rattle.xl_smb_laws.proofs.MessageLaws.{request_comes}
use Rattle.xl_smb_laws.proofs.RequestOwn.{named_in}

-- ---- of one that waits no more, among requests

abbrev one_over : Party → ℕ → List Effect
one_over party id = Cancelled party id ∷ []

none_dismissed : (party : Party) (id : ℕ) (ids : List ℕ) (l : Lists) → AllByRecursion (λ k. eqb id k ≡ false) ids → dismissed (one_over party id) ids l ≡ ([], l)
none_dismissed party id [] l all = refl
none_dismissed party id (k ∷ ids) l all = let other : eqb id k ≡ false = all.0 in rw other (none_dismissed party id ids l all.1)

first_dismissed : (party : Party) (id : ℕ) (ids : List ℕ) (l : Lists) → ((m : Lists) → dismissed (one_over party id) ids m ≡ ([], m)) → dismissed (one_over party id) (id ∷ ids) l ≡ request_ended id statuses.Cancelled l
first_dismissed party id ids l none =
    let ended : List Out × Lists = request_ended id statuses.Cancelled l in
    let same : eqb id id ≡ true = equal_self id in
    rw same ((λ i. (ended.0 ++ (none ended.1 i).0, (none ended.1 i).1)) ∙ (λ i. (append-nil ended.0 i, ended.1)))

one_dismissed : (party : Party) (id : ℕ) (ids : List ℕ) (l : Lists) → IsDistinct nat_eq ids → IsIn id ids → dismissed (one_over party id) ids l ≡ request_ended id statuses.Cancelled l
one_dismissed party id [] l distinct here = absurd here
one_dismissed party id (k ∷ ids) l distinct here =
    elim (cases_Bool (eqb id k)) [
      | inl same ↦ (
          let is : id ≡ k = eqb-true id k same in
          subst (λ (j : ℕ). dismissed (one_over party j) (k ∷ ids) l ≡ request_ended j statuses.Cancelled l) (sym is)
          (first_dismissed party k ids l (λ m. none_dismissed party k ids m (IsDistinct-head nat_eq k ids distinct))))
      | inr other ↦ (
          let later : IsIn id ids = elim here [ inl first ↦ absurd (true≢false (sym (subst (λ (j : ℕ). eqb j k ≡ true) first (equal_self k)) ∙ other)) | inr rest ↦ rest ] in
          rw other (one_dismissed party id ids l (IsDistinct-tail nat_eq k ids distinct) later))
    ]

-- ---- the request that is named

module _ {X : Type 0} where
  in_keys : (test : X → Bool) (es : List (ℕ × X)) (id : ℕ) → IsIn id (keys_where test es) → IsIn id (keys_of es)
  in_keys test [] id here = absurd here
  in_keys test (e ∷ es) id here =
      elim (cases_Bool (test e.1)) [
        | inl on ↦ (let there : IsIn id (e.0 ∷ keys_where test es) = rw on at here in elim there [ inl first ↦ inl first | inr rest ↦ inr (in_keys test es id rest) ])
        | inr off ↦ inr (in_keys test es id (rw off at here))
      ]

  pub found_once : (test : X → Bool) (es : List (ℕ × X)) (id : ℕ) → IsDistinct nat_eq (keys_of es) → IsIn id (keys_where test es) → IsFound test (lookup (nat_eq id) es)
  found_once test [] id distinct here = absurd here
  found_once test (e ∷ es) id distinct here =
      elim (cases_Bool (eqb id e.0)) [
        | inl same ↦ rw same (elim (cases_Bool (test e.1)) [
          | inl on ↦ on
          | inr off ↦ (
              let there : IsIn id (keys_of es) = in_keys test es id (rw off at here) in
              let apart : eqb e.0 id ≡ false = all_in (λ (k : ℕ). eqb e.0 k ≡ false) id (keys_of es) (IsDistinct-head nat_eq e.0 (keys_of es) distinct) there in
              absurd (true≢false (sym (subst (λ (k : ℕ). eqb e.0 k ≡ true) (equal_from id e.0 same) (equal_self e.0)) ∙ apart)))
        ])
        | inr other ↦ rw other (found_once test es id (IsDistinct-tail nat_eq e.0 (keys_of es) distinct) (elim (cases_Bool (test e.1)) [
          | inl on ↦ (let there : IsIn id (e.0 ∷ keys_where test es) = rw on at here in elim there [ inl first ↦ absurd (true≢false (sym (subst (λ (k : ℕ). eqb k e.0 ≡ true) first (equal_self e.0)) ∙ other)) | inr rest ↦ rest ])
          | inr off ↦ rw off at here
        ]))
      ]

came : (conn : ℕ) (o : Option Waiting) → IsFound (λ (r : Waiting). covers (scope.Connection conn) r.place) o → came_by conn o ≡ true
came conn None found = absurd found
came conn (Some row) found = found

pub named_came : (conn : ℕ) (l : Lists) (message : ℕ) (route : Route) (id : ℕ) → IsDistinct nat_eq (keys_of l.waiting) → request_named conn l message route ≡ Some id → came_by conn (waiting_of id l) ≡ true
named_came conn l message route id distinct named = came conn (waiting_of id l) (found_once (λ (r : Waiting). covers (scope.Connection conn) r.place) l.waiting id distinct (named_in conn l message route id named))

-- ---- a CANCEL

unanswered : (h : SmbHead) → reply_of h told.Nothing ≡ None
unfolding reply_of
unanswered h =
    elim (cases_Bool (h.command == 12)) [
      | inl e ↦ rw e refl
      | inr e ↦ rw e refl
    ]

-- what is sent where this is told
answered_so : (conn : ℕ) (h : SmbHead) (l : Lists) (effects : List Effect) (s : CoreState) → answered conn h (told.Nothing, effects, l, s) ≡ ((all_dismissed effects l).0, effects, record { state = (all_dismissed effects l).1 }, s)
answered_so conn h l effects s =
    ap (λ (x : Option (List ℕ)). ((all_dismissed effects l).0 ++ sent_by conn x, effects, record { state = (all_dismissed effects l).1 }, s)) (unanswered h)
    ∙ ap (λ (xs : List Out). (xs, effects, record { state = (all_dismissed effects l).1 }, s)) (append-nil (all_dismissed effects l).0)

untold : (ids : List ℕ) (l : Lists) → dismissed [] ids l ≡ ([], l)
untold [] l = refl
untold (id ∷ ids) l = untold ids l

named_plan : (s : CoreState) (files : List (List ℕ)) (others : ℕ) (l : Lists) (conn : ℕ) (h : SmbHead) (client : List ℕ) (o : Option ℕ) → client_of conn l ≡ Some client → request_named conn l h.message_id h.route ≡ o → planned s files others l conn h Cancel ≡ cancel_named s l o
unfolding cancel planned commanded
named_plan s files others l conn h client o known named = ap (negotiated_by (λ k. cancel s l conn h)) known ∙ ap (cancel_named s l) named

quiet : (n : ℕ) (exports : Exports) (others : ℕ) (f : FrontSmb) (s : CoreState) (conn : ℕ) (bytes : List ℕ) (h : SmbHead) → IsRequest bytes h Cancel → outcome_of n s exports.files others f.state conn h Cancel ≡ (told.Nothing, [], f.state, s) → smb_step n exports others f s conn bytes ≡ ([], [], f, s)
quiet n exports others f s conn bytes h is comes =
    request_comes n exports others f s conn bytes h Cancel is
    ∙ ap (answered conn h) comes
    ∙ answered_so conn h f.state [] s
    ∙ ap (λ (r : List Out × Lists). (r.0, [], record { state = r.1 }, s)) (untold (keys_of f.state.waiting) f.state)

pub cancel_unnamed : (n : ℕ) (exports : Exports) (others : ℕ) (f : FrontSmb) (s : CoreState) (conn : ℕ) (bytes : List ℕ) (h : SmbHead) (client : List ℕ) → IsRequest bytes h Cancel → client_of conn f.state ≡ Some client → request_named conn f.state h.message_id h.route ≡ None → smb_step n exports others f s conn bytes ≡ ([], [], f, s)
cancel_unnamed n exports others f s conn bytes h client is known named =
    quiet n exports others f s conn bytes h is (ap (λ (p : Plan). carried n s f.state p) (named_plan s exports.files others f.state conn h client None known named))

over_plan : (n : ℕ) (s : CoreState) (l : Lists) (id : ℕ) (b : Bool) → is_waiting id s.waiters ≡ b → b ≡ false → carried n s l (cancel_named s l (Some id)) ≡ (told.Nothing, [], l, s)
over_plan n s l id b is over = (let none : is_waiting id s.waiters ≡ false = is ∙ over in rw none refl)

pub cancel_over : (n : ℕ) (exports : Exports) (others : ℕ) (f : FrontSmb) (s : CoreState) (conn : ℕ) (bytes : List ℕ) (h : SmbHead) (client : List ℕ) (id : ℕ) → IsRequest bytes h Cancel → client_of conn f.state ≡ Some client → request_named conn f.state h.message_id h.route ≡ Some id → is_waiting id s.waiters ≡ false → smb_step n exports others f s conn bytes ≡ ([], [], f, s)
cancel_over n exports others f s conn bytes h client id is known named over =
    quiet n exports others f s conn bytes h is (ap (λ (p : Plan). carried n s f.state p) (named_plan s exports.files others f.state conn h client (Some id) known named) ∙ over_plan n s f.state id (is_waiting id s.waiters) refl over)

waits_plan : (n : ℕ) (s : CoreState) (l : Lists) (id : ℕ) → is_waiting id s.waiters ≡ true → carried n s l (cancel_named s l (Some id)) ≡ (told.Nothing, (cancel_of s id).0, l, (cancel_of s id).1)
waits_plan n s l id waits = rw waits (λ i. (told.Nothing, append-nil (cancel_of s id).0 i, l, (cancel_of s id).1))

-- ---- whom it names waits no more

none_named : (w : Waiter) (id : ℕ) (ws : List Waiter) → eqb w.id id ≡ true → AllByRecursion (λ v. are_apart w v ≡ true) ws → is_waiting id ws ≡ false
none_named w id [] same all = refl
none_named w id (v ∷ ws) same all =
    elim (cases_Bool (eqb v.id id)) [
      | inl it ↦ (
          let one : eqb w.id v.id ≡ true = subst (λ (k : ℕ). eqb k v.id ≡ true) (equal_from w.id id same) (subst (λ (k : ℕ). eqb id k ≡ true) (equal_from v.id id it) (equal_self id)) in
          let apart : not (eqb w.id v.id) ≡ true = all.0 in
          let f : false ≡ true = rw one at apart in absurd (false≢true f))
      | inr other ↦ rw other (none_named w id ws same all.1)
    ]

cancelled_gone : (id : ℕ) (ws : List Waiter) → Pairwise are_apart ws → is_waiting id (cancelled id ws) ≡ false
cancelled_gone id [] apart = refl
cancelled_gone id (w ∷ ws) apart = by (eqb w.id id) refl (cancelled_gone id ws apart.1)
  where
    by : (b : Bool) → eqb w.id id ≡ b → is_waiting id (cancelled id ws) ≡ false → is_waiting id (if b then ws else w ∷ cancelled id ws) ≡ false
    by true same rest = none_named w id ws same apart.0
    by false other rest = rw other rest

left_waiting : (s : CoreState) (id : ℕ) → (cancel_of s id).1.waiters ≡ cancelled id s.waiters
unfolding cancel_of
left_waiting s id = refl

pub cancel_ends : (n : ℕ) (s : CoreState) (files : List (List ℕ)) (others : ℕ) (l : Lists) (conn : ℕ) (h : SmbHead) (client : List ℕ) (id : ℕ) → IsGood s → client_of conn l ≡ Some client → request_named conn l h.message_id h.route ≡ Some id
    → is_waiting id (outcome_of n s files others l conn h Cancel).3.waiters ≡ false
cancel_ends n s files others l conn h client id good known named =
    let so = ap (λ (p : Plan). (carried n s l p).3.waiters) (named_plan s files others l conn h client (Some id) known named) in
    elim (cases_Bool (is_waiting id s.waiters)) [
      | inl waits ↦ ap (is_waiting id) (so ∙ ap (λ (r : Outcome). r.3.waiters) (waits_plan n s l id waits) ∙ left_waiting s id) ∙ cancelled_gone id s.waiters good.apart
      | inr over ↦ ap (is_waiting id) (so ∙ ap (λ (r : Outcome). r.3.waiters) (over_plan n s l id (is_waiting id s.waiters) refl over)) ∙ over
    ]

-- it is told of one, by its party
told_among : (id : ℕ) (ws : List Waiter) → is_waiting id ws ≡ true → (party : Party) × (told_of_one id ws ≡ one_over party id)
told_among id [] waits = absurd (true≢false (sym waits))
told_among id (w ∷ ws) waits =
    elim (cases_Bool (eqb w.id id)) [
      | inl same ↦ (w.party, rw same (ap (λ (k : ℕ). one_over w.party k) (sym (equal_from w.id id same))))
      | inr other ↦ (let later = told_among id ws (rw other at waits) in (later.0, rw other later.1))
    ]

told_is : (s : CoreState) (id : ℕ) → is_waiting id s.waiters ≡ true → (party : Party) × ((cancel_of s id).0 ≡ one_over party id)
unfolding cancel_of
told_is s id waits = told_among id s.waiters waits

ended_so : (id : ℕ) (l : Lists) (row : Waiting) → waiting_of id l ≡ Some row → request_ended id statuses.Cancelled l ≡ (final_outs id row (Failed statuses.Cancelled), waiting_dropped id l)
unfolding request_ended
ended_so id l row found = ap (λ (o : Option Waiting). ended_with id statuses.Cancelled o l) found

pub cancel_sends : (n : ℕ) (exports : Exports) (others : ℕ) (f : FrontSmb) (s : CoreState) (conn : ℕ) (bytes : List ℕ) (h : SmbHead) (client : List ℕ) (id : ℕ) (row : Waiting) → IsRequest bytes h Cancel → client_of conn f.state ≡ Some client → IsDistinct nat_eq (keys_of f.state.waiting) → request_named conn f.state h.message_id h.route ≡ Some id → waiting_of id f.state ≡ Some row → is_waiting id s.waiters ≡ true
    → smb_step n exports others f s conn bytes ≡ (final_outs id row (Failed statuses.Cancelled), (cancel_of s id).0, record { state = waiting_dropped id f.state }, (cancel_of s id).1)
cancel_sends n exports others f s conn bytes h client id row is known distinct named found waits =
    let t : CoreState = (cancel_of s id).1 in
    let effects : List Effect = (cancel_of s id).0 in
    let own = told_is s id waits in
    let sent : all_dismissed effects f.state ≡ (final_outs id row (Failed statuses.Cancelled), waiting_dropped id f.state) =
    ap (λ (es : List Effect). all_dismissed es f.state) own.1 ∙ one_dismissed own.0 id (keys_of f.state.waiting) f.state distinct (in_keys (λ (r : Waiting). covers (scope.Connection conn) r.place) f.state.waiting id (named_in conn f.state h.message_id h.route id named)) ∙ ended_so id f.state row found in
    request_comes n exports others f s conn bytes h Cancel is
    ∙ ap (λ (p : Plan). answered conn h (carried n s f.state p)) (named_plan s exports.files others f.state conn h client (Some id) known named)
    ∙ ap (answered conn h) (waits_plan n s f.state id waits)
    ∙ answered_so conn h f.state effects t
    ∙ ap (λ (r : List Out × Lists). (r.0, effects, record { state = r.1 }, t)) sent
