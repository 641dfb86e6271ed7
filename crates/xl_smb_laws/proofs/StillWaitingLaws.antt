-- Who waits stays, whatever is done to the core, or is told to wait no more.
use Rattle.std.proofs.Common.{◌≡◌, ℕ, Bool, true, false, eqb, List, [], ◌∷◌, Option, Some, None, refl, sym, subst, ◌∙◌, inl, inr}
use Rattle.std.specs.Prelude.{◌⊎◌, IfSome}
use Rattle.std.specs.List.{list_any}
use Rattle.std.proofs.lemmas.Bool.{cases_Bool, true≢false, false≢true}
use Rattle.xl_base.proofs.Members.{all_in, in_append_left}
use Rattle.xl_base.specs.Lists.{IsIn}
use Rattle.xl_base.specs.declared.name.Party.{Party}
use Rattle.xl_matrix.specs.declared.claim.Claim.{Claim}
use Rattle.xl_smb_state.specs.State.{Lists}
use Rattle.xl_smb_state.specs.declared.row.Waiting.{Waiting}
use Rattle.xl_smb_state.proofs.RowLaws.{equal_from, unequal_both}
use Rattle.xl_wait.specs.Waiting.{cancelled}
use Rattle.xl_wait.specs.declared.waiter.Waiter.{Waiter}
use Rattle.xl_core.proofs.AsideLaws.{IsAside, failed_aside, grace_aside, of_expire, with_aside}
use Rattle.xl_core.proofs.DeedLaws.{deed_good}
use Rattle.xl_core.proofs.FrameLaws.{turn_frame}
use Rattle.xl_core.proofs.SettleLaws.{open_waiters, party_waiters}
use Rattle.xl_names.specs.declared.name.Name.TheVariants.{NfsParty}
use Rattle.xl_core.specs.Askers.{party_named}
use Rattle.xl_core.specs.BreakAnswers.{ack}
use Rattle.xl_core.specs.Decide.{ask}
use Rattle.xl_core.specs.Deeds.{Deed, Asks, GivesBack, Weakens, Acks, Cancels, Ends, Closes, Serves, Draws, Advances, Lapses, Renews, Expires, FailsStore, EndsGrace, AreFit, IsFitDeed, all_done, all_told_of, done, given, turned}
use Rattle.xl_core.specs.Frames.{IsFrame, calls_in, come_by, who_left}
use Rattle.xl_core.specs.Good.{IsGood}
use Rattle.xl_core.specs.Settle.{all_cancelled, cancel, close_open, end_party, give_back, settle, told_of_one, waits_as, waits_for, weaken}
use Rattle.xl_core.specs.State.{CoreState, drawn}
use Rattle.xl_core.specs.Stores.{store_failed}
use Rattle.xl_core.specs.Ticks.{advanced, end_grace, end_some, expire, lapse, lapsed_by, renew}
use Rattle.xl_core.specs.declared.ask.Effect.{Effect}
use Rattle.xl_core.specs.declared.ask.Effect.TheVariants as effects
use Rattle.xl_smb_locks.specs.Finals.{cancels, is_cancelled}
use Rattle.xl_smb_laws.specs.WaitingRequests.{AreAwaited, IsAwaited, ends_wait}
use Rattle.xl_smb_laws.proofs.AwaitedRequestLaws.{any_left, any_right, asked_waits, cancelled_in, moved, closed_told, one_told, party_told}
use Rattle.xl_smb_laws.proofs.PlaceLaws.{keeps_self}

-- one of these tells that this one waits no more
abbrev pub over : ℕ → List Effect → Bool
over id told = list_any (ends_wait id) told

-- the waiter is still there, or it was told
abbrev Stays : Waiter → List Effect → CoreState → Type 0
Stays w told t = IsIn w t.waiters ⊎ (over w.id told ≡ true)

-- ---- by one call

pub cancelled_over : (id : ℕ) (es : List Effect) → list_any (cancels id) es ≡ true → over id es ≡ true
cancelled_over id [] any = absurd (false≢true any)
cancelled_over id (effects.Cancelled party k ∷ es) any = elim (cases_Bool (eqb k id)) [ inl same ↦ rw same refl | inr other ↦ rw other (cancelled_over id es (rw other at any)) ]
cancelled_over id (effects.Served party k answer ∷ es) any = elim (cases_Bool (eqb k id)) [ inl same ↦ rw same refl | inr other ↦ rw other (cancelled_over id es any) ]
cancelled_over id (effects.Begun cache to call ∷ es) any = cancelled_over id es any
cancelled_over id (effects.Expired client ∷ es) any = cancelled_over id es any

party_stays : (s : CoreState) (party : Party) (w : Waiter) → IsIn w s.waiters → Stays w (end_party s party).0 (end_party s party).1
party_stays s party w here =
    elim (cases_Bool (waits_for party w)) [
      | inl waits ↦ inr (cancelled_over w.id (end_party s party).0 (party_told s party w here waits))
      | inr no_wait ↦ inl ((party_waiters s party w).1 (here, no_wait))
    ]

closed_stays : (s : CoreState) (number : ℕ) (party : Option Party) (w : Waiter) → IsIn w s.waiters → Stays w (close_open s number party).0 (close_open s number party).1
closed_stays s number party w here =
    elim (cases_Bool (waits_as number w)) [
      | inl waits ↦ inr (cancelled_over w.id (close_open s number party).0 (closed_told s number party w here waits))
      | inr no_wait ↦ inl ((open_waiters s number party w).1 (here, no_wait))
    ]

some_stays : (s : CoreState) (party : Option Party) (w : Waiter) → IsIn w s.waiters → Stays w (end_some s party).0 (end_some s party).1
some_stays s None w here = inl here
some_stays s (Some party) w here = party_stays s party w here

-- where the record, the grace and the stores change alone
pub aside_stays : (s t : CoreState) (w : Waiter) → IsAside s t → IsIn w s.waiters → IsIn w t.waiters
aside_stays s t w is here = subst (λ (u : CoreState). IsIn w u.waiters) (sym is) here

expire_stays : (s : CoreState) (client : List ℕ) (w : Waiter) → IsIn w s.waiters → Stays w (expire s client).0 (expire s client).1
expire_stays s client w here =
    let party : Option Party = party_named s.names (NfsParty client) in
    of_expire (λ (r : List Effect × CoreState). Stays w r.0 r.1) s client (λ x. elim (some_stays (with_aside x s) party w here) [
      | inl stays ↦ inl stays
      | inr told ↦ inr (any_left (ends_wait w.id) (end_some (with_aside x s) party).0 (effects.Expired client ∷ []) told)
    ])

lapse_by : (s : CoreState) (cache : Claim) (client : Option (List ℕ)) (w : Waiter) → IsIn w s.waiters → Stays w (lapsed_by s cache client).0 (lapsed_by s cache client).1
lapse_by s cache None w here = inl here
lapse_by s cache (Some client) w here = expire_stays s client w here

lapse_stays : (s : CoreState) (cache : Claim) (w : Waiter) → IsIn w s.waiters → Stays w (lapse s cache).0 (lapse s cache).1
unfolding lapse
lapse_stays s cache w here = lapse_by s cache _ w here

-- who isn't among those told stays
pub left_stays : (told : List Effect) (ws : List Waiter) (w : Waiter) → IsIn w ws → IsIn w (all_cancelled (who_left told) ws) ⊎ (over w.id told ≡ true)
left_stays [] ws w here = inl here
left_stays (effects.Served party k answer ∷ es) ws w here =
    elim (cases_Bool (eqb k w.id)) [
      | inl same ↦ inr (rw same refl)
      | inr other ↦ elim (left_stays es (cancelled k ws) w (cancelled_in k ws w here (unequal_both k w.id other))) [ inl stays ↦ inl stays | inr told ↦ inr (rw other told) ]
    ]
left_stays (effects.Cancelled party k ∷ es) ws w here =
    elim (cases_Bool (eqb k w.id)) [
      | inl same ↦ inr (rw same refl)
      | inr other ↦ elim (left_stays es (cancelled k ws) w (cancelled_in k ws w here (unequal_both k w.id other))) [ inl stays ↦ inl stays | inr told ↦ inr (rw other told) ]
    ]
left_stays (effects.Begun cache to call ∷ es) ws w here = left_stays es ws w here
left_stays (effects.Expired client ∷ es) ws w here = left_stays es ws w here

turn_stays : (s : CoreState) (w : Waiter) (turn : Option (List Effect × CoreState)) → IfSome turn (λ r. (given : ℕ) × IsFrame s r.0 r.1 given s.names []) → IsIn w s.waiters → Stays w (turned s turn).1 (turned s turn).2
turn_stays s w None frame here = inl here
turn_stays s w (Some r) frame here =
    elim (left_stays r.0 s.waiters w here) [
      | inl stays ↦ inl (subst (λ (ws : List Waiter). IsIn w ws) (sym frame.1.waiters) (in_append_left w (all_cancelled (who_left r.0) s.waiters) [] stays))
      | inr told ↦ inr told
    ]

turn_framed : (turn : Option (List Effect × CoreState)) (s : CoreState) (calls : List Effect → ℕ) → IfSome turn (λ r. IsFrame s r.0 r.1 (calls r.0) s.names []) → IfSome turn (λ r. (given : ℕ) × IsFrame s r.0 r.1 given s.names [])
turn_framed None s calls frame = tt
turn_framed (Some r) s calls frame = (calls r.0, frame)

deed_stays : (n : ℕ) (s : CoreState) (d : Deed) (w : Waiter) → IsGood s → IsFitDeed s d → IsIn w s.waiters → Stays w (given n s d).1 (done n s d)
unfolding give_back weaken ack cancel drawn advanced renew
deed_stays n s (Asks left a) w good fit here = inl (subst (λ (ws : List Waiter). IsIn w ws) (sym (asked_waits n left s a good fit.party)) (in_append_left w s.waiters (come_by a (ask n left s a).0 s.names) here))
deed_stays n s (GivesBack claim) w good fit here = inl here
deed_stays n s (Weakens share access deny) w good fit here = inl here
deed_stays n s (Acks cache to) w good fit here = inl here
deed_stays n s (Cancels id) w good fit here =
    elim (cases_Bool (eqb id w.id)) [
      | inl same ↦ inr (cancelled_over w.id (told_of_one id s.waiters) (subst (λ (k : ℕ). is_cancelled w.id (told_of_one k s.waiters) ≡ true) (equal_from id w.id same) (one_told w s.waiters here)))
      | inr other ↦ inl (cancelled_in id s.waiters w here (unequal_both id w.id other))
    ]
deed_stays n s (Ends party) w good fit here = party_stays s party w here
deed_stays n s (Closes number party) w good fit here = closed_stays s number party w here
deed_stays n s (Serves left) w good fit here = turn_stays s w (settle n left s) (turn_framed (settle n left s) s calls_in (turn_frame n left s good)) here
deed_stays n s Draws w good fit here = inl here
deed_stays n s (Advances now) w good fit here = inl here
deed_stays n s (Lapses cache) w good fit here = lapse_stays s cache w here
deed_stays n s (Renews client) w good fit here = inl here
deed_stays n s (Expires client) w good fit here = expire_stays s client w here
deed_stays n s (FailsStore stable) w good fit here = inl (aside_stays s (store_failed stable s) w (failed_aside stable s) here)
deed_stays n s EndsGrace w good fit here = inl (aside_stays s (end_grace s) w (grace_aside s) here)

-- ---- by several

pub deeds_stay : (n : ℕ) (s : CoreState) (ds : List Deed) (w : Waiter) → IsGood s → AreFit n s ds → IsIn w s.waiters → IsIn w (all_done n s ds).waiters ⊎ (over w.id (all_told_of n s ds) ≡ true)
deeds_stay n s [] w good fit here = inl here
deeds_stay n s (d ∷ ds) w good fit here =
    elim (deed_stays n s d w good fit.0 here) [
      | inr told ↦ inr (any_left (ends_wait w.id) (given n s d).1 (all_told_of n (done n s d) ds) told)
      | inl stays ↦ elim (deeds_stay n (done n s d) ds w (deed_good n s d good fit.0) fit.1 stays) [
        | inl still ↦ inl still
        | inr later ↦ inr (any_right (ends_wait w.id) (given n s d).1 (all_told_of n (done n s d) ds) later)
      ]
    ]

-- so a request that isn't told of stays awaited
pub told_awaited : (n : ℕ) (s : CoreState) (l : Lists) (ds : List Deed) (e : ℕ × Waiting) → IsGood s → AreFit n s ds → AreAwaited s l → IsIn e l.waiting → over e.0 (all_told_of n s ds) ≡ false → IsAwaited (all_done n s ds) l e
told_awaited n s l ds e good fit all here quiet =
    let is = all_in (IsAwaited s l) e l.waiting all here in
    elim (deeds_stay n s ds is.waiter good fit is.waits) [
      | inl stays ↦ moved s (all_done n s ds) l l e is stays (keeps_self l e e.1.request)
      | inr told ↦ absurd (true≢false (sym (subst (λ (k : ℕ). over k (all_told_of n s ds) ≡ true) is.number told) ∙ quiet))
    ]
