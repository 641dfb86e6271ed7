-- Of one who waits still nothing told that it waits no more.
use Rattle.std.proofs.Common.{◌≡◌, ℕ, ◌+◌, ◌<◌, ◌≤◌, arith, append-nil, true, false, ◌||◌, eqb, List, [], ◌∷◌, ◌++◌, Option, Some, None, refl, sym, subst, ◌∙◌, ◌⊎◌, inl, inr}
use Rattle.std.specs.Prelude.{IfSome}
use Rattle.std.specs.List.{list_any}
use Rattle.std.proofs.lemmas.Bool.{cases_Bool, not-true, true≢false, false≢true}
use Rattle.std.proofs.lemmas.List.Folds.{list_any-append}
use Rattle.xl_base.proofs.Members.{all_in}
use Rattle.xl_base.specs.Lists.{IsIn, Pairwise}
use Rattle.xl_base.specs.declared.event.Moment.{Moment}
use Rattle.xl_names.specs.declared.name.Name.{Name}
use Rattle.xl_smb_state.proofs.RowLaws.{equal_from, equal_self, unequal_both}
use Rattle.xl_wait.specs.Waiting.{cancelled, is_waiting}
use Rattle.xl_wait.specs.declared.waiter.Waiter.{Waiter}
use Rattle.xl_core.proofs.DeedLaws.{deed_good}
use Rattle.xl_core.proofs.FrameLaws.{ack_frame, advanced_ticked, ask_frame, cancel_frame, close_open_frame, drawn_frame, end_grace_left, end_party_frame, expire_left, failed_left, give_back_frame, lapse_left, turn_frame, weaken_frame}
use Rattle.xl_core.proofs.GoodLaws.{cancelled_all}
use Rattle.xl_core.specs.Askers.{is_client}
use Rattle.xl_core.specs.Decide.{ask}
use Rattle.xl_core.specs.Deeds.{Deed, Asks, GivesBack, Weakens, Acks, Cancels, Ends, Closes, Serves, Draws, Advances, Lapses, Renews, Expires, FailsStore, EndsGrace, AreFit, IsFitDeed, all_done, all_told_of, done, given, turned}
use Rattle.xl_core.specs.Frames.{AllLeave, IsFrame, IsTicked, calls_in, come_by, drawn_by, names_after, who_left}
use Rattle.xl_core.specs.Good.{IsGood, IsWaiter, are_apart}
use Rattle.xl_core.specs.Settle.{all_cancelled, settle}
use Rattle.xl_core.specs.State.{CoreState}
use Rattle.xl_core.specs.Stores.{store_failed}
use Rattle.xl_core.specs.Ticks.{advanced, end_grace, expire, lapse, renew}
use Rattle.xl_core.specs.declared.ask.Answer.{Answer}
use Rattle.xl_core.specs.declared.ask.Answer.TheVariants as answers
use Rattle.xl_core.specs.declared.ask.Ask.{Ask}
use Rattle.xl_wait.specs.declared.waiter.Rooms.{Rooms}
use Rattle.xl_core.specs.declared.ask.Effect.{Effect}
use Rattle.xl_core.specs.declared.ask.Effect.TheVariants as effects
use Rattle.xl_smb_laws.specs.WaitingRequests.{ends_wait}
use Rattle.xl_front_smb.proofs.AskLaws.{queued_after}
use Rattle.xl_smb_laws.proofs.AwaitedRequestLaws.{in_append}
use Rattle.xl_smb_laws.proofs.StillWaitingLaws.{over}

-- ---- who leaves the queue

pub over_left : (id : ℕ) (told : List Effect) → over id told ≡ true → IsIn id (who_left told)
over_left id [] any = absurd (false≢true any)
over_left id (effects.Served party k answer ∷ es) any = elim (cases_Bool (eqb k id)) [ inl same ↦ inl (sym (equal_from k id same)) | inr other ↦ inr (over_left id es (rw other at any)) ]
over_left id (effects.Cancelled party k ∷ es) any = elim (cases_Bool (eqb k id)) [ inl same ↦ inl (sym (equal_from k id same)) | inr other ↦ inr (over_left id es (rw other at any)) ]
over_left id (effects.Begun cache to call ∷ es) any = over_left id es any
over_left id (effects.Expired client ∷ es) any = over_left id es any

waiting_in : (id : ℕ) (ws : List Waiter) → is_waiting id ws ≡ true → (w : Waiter) × IsIn w ws × (w.id ≡ id)
waiting_in id [] is = absurd (false≢true is)
waiting_in id (v ∷ ws) is =
    elim (cases_Bool (eqb v.id id)) [
      | inl same ↦ (v, inl refl, sym (equal_from v.id id same))
      | inr other ↦ (let later = waiting_in id ws (rw other at is) in (later.0, inr later.1, later.2))
    ]

pub in_cancelled : (id : ℕ) (ws : List Waiter) (w : Waiter) → IsIn w (cancelled id ws) → IsIn w ws
in_cancelled id [] w here = absurd here
in_cancelled id (v ∷ ws) w here =
    elim (cases_Bool (eqb v.id id)) [
      | inl same ↦ inr (rw same at here)
      | inr other ↦ (let there : IsIn w (v ∷ cancelled id ws) = rw other at here in elim there [ inl first ↦ inl first | inr rest ↦ inr (in_cancelled id ws w rest) ])
    ]

out_cancelled : (id : ℕ) (ws : List Waiter) (w : Waiter) → Pairwise are_apart ws → IsIn w (cancelled id ws) → eqb w.id id ≡ false
out_cancelled id [] w apart here = absurd here
out_cancelled id (v ∷ ws) w apart here =
    elim (cases_Bool (eqb v.id id)) [
      | inl same ↦ (
          let there : IsIn w ws = rw same at here in
          let other : eqb v.id w.id ≡ false = not-true (eqb v.id w.id) (all_in (λ (y : Waiter). are_apart v y ≡ true) w ws apart.0 there) in
          unequal_both id w.id (subst (λ (k : ℕ). eqb k w.id ≡ false) (sym (equal_from v.id id same)) other))
      | inr other ↦ (let there : IsIn w (v ∷ cancelled id ws) = rw other at here in elim there [ inl first ↦ subst (λ (x : Waiter). eqb x.id id ≡ false) first other | inr rest ↦ out_cancelled id ws w apart.1 rest ])
    ]

cancelled_apart : (id : ℕ) (ws : List Waiter) → Pairwise are_apart ws → Pairwise are_apart (cancelled id ws)
cancelled_apart id [] apart = tt
cancelled_apart id (v ∷ ws) apart =
    elim (cases_Bool (eqb v.id id)) [
      | inl same ↦ rw same apart.1
      | inr other ↦ rw other (cancelled_all (λ (y : Waiter). are_apart v y ≡ true) id ws apart.0, cancelled_apart id ws apart.1)
    ]

-- who is left of some waiters is of another number than those who left
out_all : (ids : List ℕ) (ws : List Waiter) (w : Waiter) → Pairwise are_apart ws → IsIn w (all_cancelled ids ws) → IsIn w ws × ((id : ℕ) → IsIn id ids → eqb w.id id ≡ false)
out_all [] ws w apart here = (here, λ id none. absurd none)
out_all (k ∷ ids) ws w apart here =
    let later = out_all ids (cancelled k ws) w (cancelled_apart k ws apart) here in
    (in_cancelled k ws w later.0, λ id named. elim named [ inl same ↦ subst (λ (j : ℕ). eqb w.id j ≡ false) same (out_cancelled k ws w apart later.0) | inr rest ↦ later.1 id rest ])

leave_wait : (ids : List ℕ) (ws : List Waiter) (id : ℕ) → AllLeave ids ws → IsIn id ids → (w : Waiter) × IsIn w ws × (w.id ≡ id)
leave_wait [] ws id all named = absurd named
leave_wait (k ∷ ids) ws id all named =
    elim named [
      | inl same ↦ (let found = waiting_in k ws all.0 in (found.0, found.1, found.2 ∙ same))
      | inr rest ↦ (let later = leave_wait ids (cancelled k ws) id all.1 rest in (later.0, in_cancelled k ws later.0 later.1, later.2))
    ]

-- ---- a call

-- who waits then are those of whom it isn't told that they wait no more, and behind them who comes, under numbers given out since
pub record Moves (s : CoreState) (told : List Effect) (t : CoreState) (come : List Waiter) : Type 0 where
  pub waiters : t.waiters ≡ all_cancelled (who_left told) s.waiters ++ come
  pub leave : AllLeave (who_left told) s.waiters
  pub counter : s.counter ≤ t.counter
  pub later : (w : Waiter) → IsIn w come → s.counter < w.id

frame_moves : (s t : CoreState) (told : List Effect) (given : ℕ) (known : List Name) (come : List Waiter) → IsFrame s told t given known come → ((w : Waiter) → IsIn w come → s.counter < w.id) → Moves s told t come
frame_moves s t told given known come frame later = record { waiters = frame.waiters; leave = frame.leave; counter = omega (arith, frame.counter); later = later }

ticked_moves : (s t : CoreState) (told : List Effect) (now : Moment) → IsTicked s now told t → Moves s told t []
ticked_moves s t told now frame = record { waiters = frame.waiters ∙ sym (append-nil (all_cancelled (who_left told) s.waiters)); leave = frame.leave; counter = omega (arith, frame.counter); later = λ w none. absurd none }

turn_moves : (s : CoreState) (turn : Option (List Effect × CoreState)) (calls : List Effect → ℕ) → IfSome turn (λ r. IsFrame s r.0 r.1 (calls r.0) s.names []) → Moves s (turned s turn).1 (turned s turn).2 []
turn_moves s None calls frame = record { waiters = sym (append-nil s.waiters); leave = tt; counter = omega arith; later = λ w none. absurd none }
turn_moves s (Some r) calls frame = frame_moves s r.1 r.0 (calls r.0) s.names [] frame (λ w none. absurd none)

come_later : (a : Ask) (answer : Answer) (names : List Name) (k : ℕ) → ((id : ℕ) → answer ≡ answers.Queued id → k < id) → (w : Waiter) → IsIn w (come_by a answer names) → k < w.id
come_later a (answers.Queued id) names k later w here = elim here [ inl same ↦ subst (λ (x : Waiter). k < x.id) same (later id refl) | inr none ↦ absurd none ]
come_later a (answers.Granted c) names k later w here = absurd here
come_later a (answers.Conflict c) names k later w here = absurd here
come_later a (answers.Recall c) names k later w here = absurd here
come_later a (answers.Grace until) names k later w here = absurd here
come_later a (answers.NoGrace clock) names k later w here = absurd here
come_later a answers.NotRecorded names k later w here = absurd here
come_later a (answers.Full limit) names k later w here = absurd here
come_later a answers.NotHeld names k later w here = absurd here
come_later a answers.StoreFailed names k later w here = absurd here

-- who comes by a deed
abbrev pub come_of : ℕ → CoreState → Deed → List Waiter
come_of n s (Asks left a) = come_by a (ask n left s a).0 s.names
come_of n s deed = []

pub ask_moves : (n : ℕ) (left : Rooms) (s : CoreState) (a : Ask) → IsGood s → is_client a.owner a.party ≡ true → Moves s (ask n left s a).1 (ask n left s a).2 (come_by a (ask n left s a).0 s.names)
ask_moves n left s a good client =
    let r = ask n left s a in
    frame_moves s r.2 r.1 (drawn_by r.0 + calls_in r.1) (names_after a r.0 s.names) (come_by a r.0 s.names) (ask_frame n left s a good client) (come_later a r.0 s.names s.counter (λ id at. queued_after n left s a id good client at))

pub deed_moves : (n : ℕ) (s : CoreState) (d : Deed) → IsGood s → IsFitDeed s d → Moves s (given n s d).1 (done n s d) (come_of n s d)
unfolding renew
deed_moves n s (Asks left a) good fit = ask_moves n left s a good fit.party
deed_moves n s (GivesBack claim) good fit = frame_moves s _ _ 0 s.names [] (give_back_frame s claim) (λ w none. absurd none)
deed_moves n s (Weakens share access deny) good fit = frame_moves s _ _ 0 s.names [] (weaken_frame s share access deny) (λ w none. absurd none)
deed_moves n s (Acks cache to) good fit = frame_moves s _ _ 0 s.names [] (ack_frame s cache to) (λ w none. absurd none)
deed_moves n s (Cancels id) good fit = frame_moves s _ _ 0 s.names [] (cancel_frame s id fit) (λ w none. absurd none)
deed_moves n s (Ends party) good fit = frame_moves s _ _ 0 s.names [] (end_party_frame s party good) (λ w none. absurd none)
deed_moves n s (Closes number party) good fit = frame_moves s _ _ 0 s.names [] (close_open_frame s number party good) (λ w none. absurd none)
deed_moves n s (Serves left) good fit = turn_moves s (settle n left s) calls_in (turn_frame n left s good)
deed_moves n s Draws good fit = frame_moves s _ _ 1 s.names [] (drawn_frame s) (λ w none. absurd none)
deed_moves n s (Advances now) good fit = ticked_moves s (advanced s now) [] now (advanced_ticked s now)
deed_moves n s (Lapses cache) good fit = ticked_moves s (lapse s cache).1 (lapse s cache).0 s.clock ((lapse_left s cache).0 good)
deed_moves n s (Renews client) good fit = record { waiters = sym (append-nil s.waiters); leave = tt; counter = omega arith; later = λ w none. absurd none }
deed_moves n s (Expires client) good fit = ticked_moves s (expire s client).1 (expire s client).0 s.clock ((expire_left s client).0 good)
deed_moves n s (FailsStore stable) good fit = ticked_moves s (store_failed stable s) [] s.clock ((failed_left s stable).0 good)
deed_moves n s EndsGrace good fit = ticked_moves s (end_grace s) [] s.clock ((end_grace_left s).0 good)

-- ---- so it is by one call

pub moved_from : (s t : CoreState) (told : List Effect) (come : List Waiter) (w : Waiter) → IsGood s → Moves s told t come → IsIn w t.waiters → (IsIn w s.waiters × (over w.id told ≡ false)) ⊎ IsIn w come
moved_from s t told come w good moves here =
    elim (in_append w (all_cancelled (who_left told) s.waiters) come (subst (λ (ws : List Waiter). IsIn w ws) moves.waiters here)) [
      | inr new ↦ inr new
      | inl old ↦ (
          let out = out_all (who_left told) s.waiters w good.apart old in
          inl (
            out.0,
            elim (cases_Bool (over w.id told)) [
              | inr quiet ↦ quiet
              | inl told_so ↦ absurd (true≢false (sym (equal_self w.id) ∙ out.1 w.id (over_left w.id told told_so)))
            ],
          ))
    ]

-- of a number that wasn't given out nothing is told
pub new_quiet : (s t : CoreState) (told : List Effect) (come : List Waiter) (id : ℕ) → IsGood s → Moves s told t come → s.counter < id → over id told ≡ false
new_quiet s t told come id good moves after =
    elim (cases_Bool (over id told)) [
      | inr quiet ↦ quiet
      | inl told_so ↦ (
          let found = leave_wait (who_left told) s.waiters id moves.leave (over_left id told told_so) in
          let known : found.0.id ≤ s.counter = (all_in (IsWaiter s.names s.counter) found.0 s.waiters good.waiters found.1).0 in
          absurd (omega (arith, known, found.2, after)))
    ]

-- ---- and by several

none_both : (id : ℕ) (xs ys : List Effect) → over id xs ≡ false → over id ys ≡ false → over id (xs ++ ys) ≡ false
none_both id xs ys first later = list_any-append (ends_wait id) xs ys ∙ (λ i. first i || later i)

deeds_quiet : (n : ℕ) (s : CoreState) (ds : List Deed) (w : Waiter) → IsGood s → AreFit n s ds → IsIn w (all_done n s ds).waiters → (over w.id (all_told_of n s ds) ≡ false) × (IsIn w s.waiters ⊎ (s.counter < w.id))
deeds_quiet n s [] w good fit here = (refl, inl here)
deeds_quiet n s (d ∷ ds) w good fit here =
    let t : CoreState = done n s d in
    let told : List Effect = (given n s d).1 in
    let moves = deed_moves n s d good fit.0 in
    let later = deeds_quiet n t ds w (deed_good n s d good fit.0) fit.1 here in
    let both : over w.id told ≡ false → over w.id (told ++ all_told_of n t ds) ≡ false = λ first. none_both w.id told (all_told_of n t ds) first later.0 in
    elim later.1 [
      | inl there ↦ elim (moved_from s t told (come_of n s d) w good moves there) [
        | inl old ↦ (both old.1, inl old.0)
        | inr new ↦ (both (new_quiet s t told (come_of n s d) w.id good moves (moves.later w new)), inr (moves.later w new))
      ]
      | inr after ↦ (
          let new : s.counter < w.id = omega (arith, moves.counter, after) in
          (both (new_quiet s t told (come_of n s d) w.id good moves new), inr new))
    ]

pub waits_still : (n : ℕ) (s : CoreState) (ds : List Deed) (w : Waiter) → IsGood s → AreFit n s ds → IsIn w (all_done n s ds).waiters → list_any (ends_wait w.id) (all_told_of n s ds) ≡ false
waits_still n s ds w good fit here = (deeds_quiet n s ds w good fit here).0
