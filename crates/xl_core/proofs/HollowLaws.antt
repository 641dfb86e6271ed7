-- Machines that keep nothing, or drop who waits, don't do what their deeds say.
use Rattle.std.proofs.Common.{None, ◌≡◌, ℕ, ◌==◌, Bool, true, false, List, [], ◌∷◌, refl, sym, ap, ◌∙◌}
use Rattle.xl_core.specs.Standings.{standing}
use Rattle.std.specs.List.{AllByRecursion}
use Rattle.std.proofs.lemmas.Bool.{and_right}
use Rattle.xl_base.specs.declared.event.Moment.{Moment}
use Rattle.xl_matrix.specs.declared.claim.Claim.{Claim}
use Rattle.xl_matrix.specs.declared.claim.Extent.{Extent}
use Rattle.xl_matrix.specs.declared.claim.Extent.TheVariants.{Bytes}
use Rattle.xl_matrix.specs.declared.claim.What.TheVariants.{Range}
use Rattle.xl_spans.specs.Spans.{relocked}
use Rattle.xl_table.specs.Flat.{inserted}
use Rattle.xl_table.specs.Relock.{granted_claims, relocked_in, unranged}
use Rattle.xl_wait.specs.declared.waiter.Rooms.{Rooms}
use Rattle.xl_wait.specs.declared.waiter.Waiter.{Waiter}
use Rattle.xl_core.specs.State.{CoreState, started}
use Rattle.xl_core.specs.Askers.{asker, asked_claim}
use Rattle.xl_core.specs.Causes.{limits_of_grant}
use Rattle.xl_core.specs.Deeds.{Asks, queue_with, queue_after}
use Rattle.xl_core.specs.Decide.{ask}
use Rattle.xl_core.specs.Limits.{IsRoom}
use Rattle.xl_core.specs.declared.ask.Effect.{Effect}
use Rattle.xl_core.specs.Places.{Place, ByteOf, held_in, else_was, stands, IsChangedBy, all_entered_for, then_entered, broken_at, answered_at}
use Rattle.xl_core.specs.Smallest.{all_room, smallest_lock, unnamed}
use Rattle.xl_core.specs.declared.ask.Act.TheVariants.{Test}
use Rattle.xl_core.specs.declared.ask.Answer.{Answer}
use Rattle.xl_core.specs.declared.ask.Answer.TheVariants as answers
use Rattle.xl_core.specs.declared.ask.Ask.{Ask}
use Rattle.xl_core.specs.declared.lease.Times.{Times}
use Rattle.xl_core.proofs.DecideLaws.{none_ahead}
use Rattle.xl_core.proofs.WayDeeds.{then_else}
use Rattle.xl_core.proofs.WayAsks.{ask_free, ask_test, ask_way_free}

-- ---- one that keeps nothing

no_limit : (limits : List (ℕ × Bool)) → AllByRecursion (λ limit. limit.1 ≡ false) limits → IsRoom limits
no_limit [] each = λ n. refl
no_limit (limit ∷ limits) each = λ n. rw (each.0, and_right (limit.0 == n) false refl) (no_limit limits each.1 n)

abbrev first_claim : Claim
first_claim = asked_claim smallest_lock (Range (Bytes 0 0) true) []

has_room : (epoch : ℕ) (clock : Moment) (times : Times) → IsRoom (limits_of_grant all_room (started (unnamed epoch) clock times) smallest_lock first_claim)
unfolding granted_claims relocked_in unranged inserted relocked
has_room epoch clock times = no_limit (limits_of_grant all_room (started (unnamed epoch) clock times) smallest_lock first_claim) (refl, (refl, (refl, (refl, (refl, (refl, tt))))))

first_granted : (n : ℕ) (epoch : ℕ) (clock : Moment) (times : Times) → (ask n all_room (started (unnamed epoch) clock times) smallest_lock).0 ≡ answers.Granted first_claim
unfolding standing
first_granted n epoch clock times = ask_free n all_room (started (unnamed epoch) clock times) smallest_lock (Range (Bytes 0 0) true) refl refl (refl, refl, none_ahead (started (unnamed epoch) clock times) first_claim) (has_room epoch clock times) refl

abbrev first_place : Place
first_place = ByteOf 1 (asker smallest_lock []) 0

first_held : (n : ℕ) (epoch : ℕ) (clock : Moment) (times : Times) → stands n (started (unnamed epoch) clock times) (Asks all_room smallest_lock ∷ []) first_place [] ≡ Range (Bytes 0 0) true ∷ []
first_held n epoch clock times =
    let s = started (unnamed epoch) clock times in
    ap (λ (w : List Effect × CoreState). else_was (then_entered (then_entered (broken_at s w.0 first_place) (answered_at w.1.claims smallest_lock.act (ask n all_room s smallest_lock).0 first_place)) None) [])
    (ask_way_free all_room s smallest_lock (Range (Bytes 0 0) true) refl refl)
    ∙ then_else (broken_at s [] first_place) (answered_at s.claims smallest_lock.act (ask n all_room s smallest_lock).0 first_place) []
    ∙ ap (λ (answer : Answer). else_was (all_entered_for [] ((Bytes 0 0, true) ∷ []) answer first_place) []) (first_granted n epoch clock times)

pub nothing_kept : (n : ℕ) (epoch : ℕ) (clock : Moment) (times : Times) (t : CoreState) → t.claims ≡ [] → IsChangedBy n (started (unnamed epoch) clock times) (Asks all_room smallest_lock ∷ []) t → ⊥
nothing_kept n epoch clock times t none changed =
    let two : held_in [] first_place ≡ Range (Bytes 0 0) true ∷ [] = sym (ap (λ (cs : List Claim). held_in cs first_place) none) ∙ changed first_place ∙ first_held n epoch clock times in
    absurd cc

-- ---- one that drops who waits

not_queued : (s : CoreState) (a : Ask) (ws : List Waiter) (answer : Answer) → ((id : ℕ) → answer ≡ answers.Queued id → ⊥) → queue_with s a answer ws ≡ ws
not_queued s a ws (answers.Queued id) none = absurd (none id refl)
not_queued s a ws (answers.Granted c) none = refl
not_queued s a ws (answers.Conflict c) none = refl
not_queued s a ws (answers.Recall c) none = refl
not_queued s a ws (answers.Grace until) none = refl
not_queued s a ws (answers.NoGrace clock) none = refl
not_queued s a ws answers.NotRecorded none = refl
not_queued s a ws (answers.Full limit) none = refl
not_queued s a ws answers.NotHeld none = refl
not_queued s a ws answers.StoreFailed none = refl

pub waiter_dropped : (n : ℕ) (left : Rooms) (s t : CoreState) (a : Ask) (w : Waiter) (extent : Extent) (exclusive : Bool) → a.act ≡ Test extent exclusive → s.waiters ≡ w ∷ [] → t.waiters ≡ [] → t.waiters ≡ queue_after n s (Asks left a ∷ []) s.waiters → ⊥
waiter_dropped n left s t a w extent exclusive act one none waiting =
    let stays = not_queued s a s.waiters (ask n left s a).0 (λ id e. (ask_test n left s a extent exclusive (answers.Queued id) act).0 e) in
    let two : (let empty : List Waiter = [] in empty ≡ w ∷ []) = sym none ∙ waiting ∙ stays ∙ one in
    absurd cc
