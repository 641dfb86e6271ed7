-- Machines that keep nothing, drop who waits, let go what is to be kept, stand still at a reading of the clock, or forget requests of
-- SMB that wait, or their opens, don't meet the laws of an entry.
use Rattle.std.proofs.Common.{◌≡◌, ◌⊎◌, inl, inr, ℕ, nat_lt, if◌then◌else◌, Bool, true, false, List, [], ◌∷◌, ◌++◌, Option, Some, None, refl, sym, ap, subst, ◌∙◌, arith}
use Rattle.std.specs.Prelude.{nat_eq}
use Rattle.std.specs.List.{AllByRecursion}
use Rattle.std.specs.Map.{lookup}
use Rattle.std.proofs.lemmas.Bool.{both_ways}
use Rattle.std.proofs.lemmas.Bool.Decides.{nat_tests}
use Rattle.xl_base.specs.Lists.{IsIn}
use Rattle.xl_base.specs.Stable.{Stable, is_recorded}
use Rattle.xl_base.specs.declared.event.Event.TheVariants.{Message, Tick}
use Rattle.xl_base.specs.declared.event.Moment.{Moment}
use Rattle.xl_base.specs.declared.event.Out.{Out}
use Rattle.xl_base.specs.declared.journal.Entry.{Entry}
use Rattle.xl_base.specs.declared.name.Owner.TheVariants as owners
use Rattle.xl_base.specs.declared.name.Party.{Party}
use Rattle.xl_base.specs.declared.stable.Recorded.{Recorded}
use Rattle.xl_grace.specs.Grace.{Running}
use Rattle.xl_smb_state.proofs.RowLaws.{none_some}
use Rattle.xl_smb_state.specs.State.{Lists, open_of}
use Rattle.xl_smb_state.specs.declared.row.Open.{Open}
use Rattle.xl_smb_state.specs.declared.row.Request.{Request}
use Rattle.xl_smb_state.specs.declared.row.Request.TheVariants as request
use Rattle.xl_smb_state.specs.declared.row.Waiting.{Waiting}
use Rattle.xl_cache.specs.BreakPlans.{is_running}
use Rattle.xl_matrix.specs.declared.claim.Claim.{Claim}
use Rattle.xl_matrix.specs.declared.claim.Extent.{Extent}
use Rattle.xl_matrix.specs.declared.claim.What.{What}
use Rattle.xl_wait.specs.declared.waiter.Rooms.{Rooms}
use Rattle.xl_wait.specs.declared.waiter.Waiter.{Waiter}
use Rattle.xl_core.proofs.GoodLaws.{begun_good}
use Rattle.xl_core.proofs.HollowLaws.{nothing_kept, waiter_dropped}
use Rattle.xl_core.specs.Causes.{asks_claims}
use Rattle.xl_core.specs.Decide.{ask}
use Rattle.xl_core.specs.Deeds.{Deed, Asks, Draws, all_done, queue_after, any_ends_break}
use Rattle.xl_core.specs.Dues.{IsPutOff}
use Rattle.xl_core.specs.Leases.{Lease, ended}
use Rattle.xl_core.specs.Places.{stands, IsChangedBy}
use Rattle.xl_core.specs.Smallest.{all_room, smallest_lock, unnamed}
use Rattle.xl_core.specs.State.{CoreState, started, step_begun}
use Rattle.xl_core.specs.declared.ask.Act.TheVariants.{Test}
use Rattle.xl_core.specs.declared.ask.Ask.{Ask}
use Rattle.xl_core.specs.declared.lease.Times.{Times}
use Rattle.xl_plan.specs.Plans.{AllAt}
use Rattle.xl_base.proofs.Members.{all_in}
use Rattle.xl_core.specs.Settle.{settle, waits_as}
use Rattle.xl_core.specs.declared.ask.Answer.TheVariants.{Granted}
use Rattle.xl_core.specs.declared.ask.Effect.{Effect}
use Rattle.xl_core.specs.declared.ask.Effect.TheVariants.{Served}
use Rattle.xl_smb_laws.proofs.TiedLaws.{shareless_is}
use Rattle.xl_smb_laws.specs.WaitingRequests.{IsKept as HasRequest}
use Rattle.xl_front_smb.specs.Checks.{is_open_on}
use Rattle.xl_house.specs.Awaited.{AreServed, HaveOpens, IsRoundServed, IsServed, OpenStands}
use Rattle.xl_house.specs.Done.{Round, deeds, rounds, rounds_by}
use Rattle.xl_house.specs.Free.{IsFree}
use Rattle.xl_house.specs.Lawful.{found, IsLawful, IsWaiting, IsKept, IsComplete}
use Rattle.xl_house.specs.Machine.{heard, is_plain}
use Rattle.xl_house.specs.Own.{own_of}
use Rattle.xl_house.specs.Recording.{AnyAt, IsMonitored, IsRecording, IsAdmittedBy, IsAdmitting}
use Rattle.xl_house.specs.State.{Whole, as_found, rooms_of}
use Rattle.xl_house.specs.Telling.{TurnTaken}
use Rattle.xl_house.specs.Timed.{leases_after}
use Rattle.xl_house.proofs.LawfulLaws.{begun_held, begun_waits}
use Rattle.xl_house.proofs.MarkLaws.{like_in, recorded_of}
use Rattle.xl_house.proofs.MachineLaws.{heard_good}
use Rattle.xl_house.proofs.DoneLaws.{rounds_are}
use Rattle.xl_house.proofs.SettleLaws.{turns_are}

pub nothing_kept_in : (n stores number epoch : ℕ) (bytes : List ℕ) (outs : List Out) (s t : Whole) (clock : Moment) (times : Times) → found s ≡ started (unnamed epoch) clock times → deeds n s (Message number bytes) ≡ Asks all_room smallest_lock ∷ []
    → t.core.claims ≡ [] → IsLawful n s (record { event = Message number bytes; stores = stores; outs = outs }) t → ⊥
nothing_kept_in n stores number epoch bytes outs s t clock times begun does none lawful =
    nothing_kept n epoch clock times t.core none
    (subst (λ (x : CoreState). IsChangedBy n x (Asks all_room smallest_lock ∷ []) t.core) begun (subst (λ (ds : List Deed). IsChangedBy n (found s) ds t.core) does (λ p. lawful.0 p ∙ ap (λ (had : List What). stands n (found s) (deeds n s (Message number bytes)) p had) (sym (begun_held s.core p)))))

pub waiter_dropped_in : (n stores number : ℕ) (bytes : List ℕ) (outs : List Out) (s t : Whole) (left : Rooms) (a : Ask) (w : Waiter) (extent : Extent) (exclusive : Bool) → a.act ≡ Test extent exclusive → deeds n s (Message number bytes) ≡ Asks left a ∷ []
    → s.core.waiters ≡ w ∷ [] → t.core.waiters ≡ [] → IsWaiting n s (record { event = Message number bytes; stores = stores; outs = outs }) t → ⊥
waiter_dropped_in n stores number bytes outs s t left a w extent exclusive act does one none waiting =
    waiter_dropped n left (found s) t.core a w extent exclusive act (begun_waits s.core ∙ one) none
    (waiting.0 ∙ ap (λ (ds : List Deed). queue_after n (found s) ds s.core.waiters) does ∙ ap (λ (ws : List Waiter). queue_after n (found s) (Asks left a ∷ []) ws) (sym (begun_waits s.core)))

pub cache_let_go_in : (n stores number : ℕ) (bytes : List ℕ) (outs : List Out) (s t : Whole) (left : Rooms) (a : Ask) (c : Claim) → deeds n s (Message number bytes) ≡ Asks left a ∷ []
    → IsIn c s.core.claims → is_running c.what ≡ true → t.core.claims ≡ [] → IsKept n s (record { event = Message number bytes; stores = stores; outs = outs }) t → ⊥
cache_let_go_in n stores number bytes outs s t left a c does there runs none kept =
    subst (λ (cs : List Claim). IsIn c cs) none (kept c there runs (ap (λ (ds : List Deed). any_ends_break n (found s) c ds) does)).0

pub leases_dropped_in : (n stores number : ℕ) (bytes : List ℕ) (outs : List Out) (s t : Whole) (left : Rooms) (a : Ask) (l : Lease) → deeds n s (Message number bytes) ≡ Asks left a ∷ []
    → IsIn l s.core.leases → t.core.leases ≡ [] → IsLawful n s (record { event = Message number bytes; stores = stores; outs = outs }) t → ⊥
leases_dropped_in n stores number bytes outs s t left a l does there none lawful =
    subst (λ (ls : List Lease). IsIn l ls) (sym (lawful.1 ∙ ap (λ (ds : List Deed). leases_after n (found s) ds s.core.leases) does) ∙ none) there

not_less : (a : ℕ) → nat_lt a a ≡ false
not_less a = grind (arith, nat_tests)

pub clock_stands_in : (n stores : ℕ) (outs : List Out) (s t : Whole) (now : Moment) → nat_lt s.core.clock.0 now.0 ≡ true → t.core.clock ≡ s.core.clock → IsLawful n s (record { event = Tick now; stores = stores; outs = outs }) t → ⊥
clock_stands_in n stores outs s t now less stands lawful =
    let shows : s.core.clock ≡ now = sym stands ∙ lawful.2 ∙ ap (λ (b : Bool). if b then now else s.core.clock) less in
    both_ways (nat_lt now.0 now.0) (not_less now.0) (subst (λ (m : Moment). nat_lt m.0 now.0 ≡ true) shows less)

pub lease_runs_on_in : (n stores : ℕ) (outs : List Out) (s t : Whole) (now : Moment) (client : List ℕ) → IsIn client (ended t.core.clock t.core.leases)
    → (let left = all_done n (found s) (own_of n (as_found s) (Tick now)).deeds in IsPutOff left.failed left.stable client → ⊥) → IsComplete n s (record { event = Tick now; stores = stores; outs = outs }) t → ⊥
lease_runs_on_in n stores outs s t now client runs timely complete =
    let left = all_done n (found s) (own_of n (as_found s) (Tick now)).deeds in
    timely (all_in (λ id. IsPutOff left.failed left.stable id) client (ended t.core.clock t.core.leases) complete.1.leases runs)

-- ---- requests of SMB that wait, and their opens

pub request_forgotten_in : (n : ℕ) (s t : Whole) (e : Entry) (w : Waiter) (number : ℕ) → IsIn w t.core.waiters → waits_as number w ≡ true → t.front.smb.state.waiting ≡ [] → IsServed n s e t → ⊥
request_forgotten_in n s t e w number there waits none served =
    let l : Lists = t.front.smb.state in
    let kept = all_in (HasRequest l) w t.core.waiters served.0.keeps there number waits in
    none_some (sym (ap (λ (es : List (ℕ × Waiting)). lookup (nat_eq w.id) es) none) ∙ kept.1)

-- one that keeps an open, and nothing of it
pub open_shareless_in : (n : ℕ) (s t : Whole) (e : Entry) (number : ℕ) (row : Open) → open_of number t.front.smb.state ≡ Some row → t.core.claims ≡ [] → IsServed n s e t → ⊥
open_shareless_in n s t e number row at none served = shareless_is t.core t.front.smb.state number row at none served.0.tied

-- an open that isn't there doesn't stand
none_stands : (last : Lists) (row : Waiting) (claim : Claim) (r : Request) → open_of row.opened last ≡ None → OpenStands last row claim r → ⊥
none_stands last row claim (request.Create made) none stands = none_some (sym none ∙ stands.1)
none_stands last row claim request.Lock none stands = both_ways false refl (sym (ap (λ (o : Option Open). is_open_on row.place.connection o) none) ∙ stands)

pub open_unmade_in : (n stores conn : ℕ) (bytes : List ℕ) (outs : List Out) (s t : Whole) (u : CoreState) (told : List Effect) (party : Party) (id number : ℕ) (claim : Claim) → IsFree s → is_plain s (Message conn bytes) ≡ true
    → (let h = heard n (as_found s) (Message conn bytes) in settle n (rooms_of h.1) h.2 ≡ Some (told, u))
    → IsIn (Served party id (Granted claim)) told → claim.owner ≡ owners.Open number → open_of number t.front.smb.state ≡ None → IsServed n s (record { event = Message conn bytes; stores = stores; outs = outs }) t → ⊥
open_unmade_in n stores conn bytes outs s t u told party id number claim free plain e here owner none served =
    let event = Message conn bytes in
    let h = heard n (as_found s) event in
    let last : Lists = t.front.smb.state in
    let first = subst (λ (rs : List Round). AreServed n rs t) (rounds_are n s event refl ∙ ap (λ (b : Bool). rounds_by n (as_found s) event b) plain) served.1 in
    let have = subst (λ (ts : List TurnTaken). AllByRecursion (λ turn. HaveOpens s.exports last turn) ts) (turns_are n s.exports h.1 h.2 u told (heard_good n (as_found s) event (begun_good s.core free.good)) e) first.0.granted in
    let is = have.0 party id number claim here owner in
    none_stands last is.row claim is.row.request (ap (λ (k : ℕ). open_of k last) is.own ∙ none) is.there

-- nor is there one of a later part, as the entry's last round grants it
pub last_unmade_in : (n : ℕ) (s t : Whole) (e : Entry) (before : List Round) (r : Round) (turn : TurnTaken) (party : Party) (id number : ℕ) (claim : Claim) → rounds n s e.event ≡ before ++ r ∷ [] → IsIn turn r.turns
    → IsIn (Served party id (Granted claim)) turn.told → claim.owner ≡ owners.Open number → open_of number t.front.smb.state ≡ None → IsServed n s e t → ⊥
last_unmade_in n s t e before r turn party id number claim are taken here owner none served =
    let last : Lists = t.front.smb.state in
    let round = last_of before (subst (λ (rs : List Round). AreServed n rs t) are served.1) in
    let is = all_in (λ x. HaveOpens r.found.exports last x) turn r.turns round.granted taken party id number claim here owner in
    none_stands last is.row claim is.row.request (ap (λ (k : ℕ). open_of k last) is.own ∙ none) is.there
  where
    last_of : (rs : List Round) → AreServed n (rs ++ r ∷ []) t → IsRoundServed n r t
    last_of [] all = all.0
    last_of (x ∷ rs) all = last_of rs all.1

-- ---- the record, and who is let in while grace runs

begun_as : (s : CoreState) → ((step_begun s).stable ≡ s.stable) × ((step_begun s).grace ≡ s.grace)
unfolding step_begun
begun_as s = (refl, refl)

neither : ⊥ ⊎ ⊥ → ⊥
neither (inl x) = x
neither (inr x) = x

pub record_changed_in : (n stores number : ℕ) (bytes : List ℕ) (outs : List Out) (s t : Whole) (name : Recorded) → deeds n s (Message number bytes) ≡ Draws ∷ []
    → is_recorded name s.core.stable.names ≡ false → is_recorded name t.core.stable.names ≡ true → IsRecording n s (record { event = Message number bytes; stores = stores; outs = outs }) t → ⊥
record_changed_in n stores number bytes outs s t name does before now recording =
    let held = recorded_of name t.core.stable.names now in
    elim (recording.0.comes held.0 held.1) [
      | inl there ↦ both_ways (is_recorded name s.core.stable.names) before (sym (ap (λ (stable : Stable). is_recorded name stable.names) (begun_as s.core).0) ∙ like_in name held.0 (found s).stable.names there held.2)
      | inr by ↦ neither (subst (λ (ds : List Deed). AnyAt (λ u d. IsMonitored held.0 n u d) n (found s) ds) does by)
    ]

pub let_in_in : (n stores number : ℕ) (bytes : List ℕ) (outs : List Out) (s t : Whole) (left : Rooms) (a : Ask) (g : Running) (c : Claim) → deeds n s (Message number bytes) ≡ Asks left a ∷ [] → s.core.grace ≡ Some g → asks_claims a.act ≡ true
    → a.reclaim ≡ false → (ask n left (found s) a).0 ≡ Granted c → IsAdmitting n s (record { event = Message number bytes; stores = stores; outs = outs }) t → ⊥
let_in_in n stores number bytes outs s t left a g c does runs claims fresh granted admitting =
    both_ways a.reclaim fresh ((subst (λ (ds : List Deed). AllAt (λ u d. IsAdmittedBy n u d) n (found s) ds) does admitting).0 g c ((begun_as s.core).1 ∙ runs) claims granted).0
