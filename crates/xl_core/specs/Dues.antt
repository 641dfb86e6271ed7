-- What is due to a deed: the answer that its cause gives, and what nothing stands against.
use Rattle.std.specs.Prelude.{◌≡◌, ℕ, Bool, true, false, not, ◌&&◌, ◌||◌, is_some, bytes_eq, if◌then◌else◌, List, [], ◌∷◌, map, Option, Some, None, IfSome}
use Rattle.std.specs.List.{AllByRecursion, list_any}
use Rattle.xl_base.specs.Lists.{IsIn}
use Rattle.xl_matrix.specs.Equal.{same_claims}
use Rattle.xl_matrix.specs.Owners.{posix}
use Rattle.xl_matrix.specs.declared.claim.Claim.{Claim}
use Rattle.xl_matrix.specs.declared.claim.Extent.{Extent}
use Rattle.xl_matrix.specs.declared.claim.Extent.TheVariants as extents
use Rattle.xl_matrix.specs.declared.claim.What.{What}
use Rattle.xl_wait.specs.declared.waiter.Rooms.{Rooms}
use Rattle.xl_core.specs.State.{CoreState}
use Rattle.xl_core.specs.Askers.{range_what, asked_what, asked_claim, asked_claims, known_claim}
use Rattle.xl_core.specs.Limits.{IsRoom}
use Rattle.xl_core.specs.Causes.{limits_of_grant, IsFree, wanted, IsClaimDue, IsWishDue, IsTestDue, IsUnlockDue, IsElementDue, IsEachDue, IsTurn}
use Rattle.xl_core.specs.Decide.{way, ask}
use Rattle.xl_core.specs.BreakAnswers.{due, client_of}
use Rattle.xl_base.specs.Stable.{Stable, same_name, is_recorded}
use Rattle.xl_core.specs.Deeds.{Deed, Asks, Serves, Lapses, Expires, FailsStore, EndsGrace, done}
use Rattle.xl_core.specs.Stores.{may_store, client_name, without_name}
use Rattle.xl_core.specs.Ticks.{may_expire, may_lapse}
use Rattle.xl_core.specs.Standings.{stands, enters}
use Rattle.xl_core.specs.Stores.{may_record}
use Rattle.xl_core.specs.declared.standings.Standing.TheVariants.{Timely}
use Rattle.xl_base.specs.declared.stable.Recorded.{Recorded}
use Rattle.xl_core.specs.Frames.{who_expired}
use Rattle.xl_core.specs.declared.ask.Effect.{Effect}
use Rattle.xl_grace.specs.Grace.{is_over, is_back, shortened}
use Rattle.xl_core.specs.Leases.{ended}
use Rattle.xl_core.specs.Blockers.{is_in_line}
use Rattle.xl_core.specs.Judge.{those_before}
use Rattle.xl_core.specs.Good.{IsSettled}
use Rattle.xl_core.specs.Settle.{settle}
use Rattle.xl_core.specs.declared.ask.Act.{Act}
use Rattle.xl_core.specs.declared.ask.Act.TheVariants as acts
use Rattle.xl_core.specs.declared.ask.Answer.{Answer}
use Rattle.xl_core.specs.declared.ask.Answer.TheVariants.{Granted}
use Rattle.xl_core.specs.declared.ask.Ask.{Ask}

-- a share or a lock is granted if grace lets it in, nothing held stands against it, nor, unless it is a reclaim, the range of one who
-- waits, no limit is passed and its client is recorded or can be; and each answer has its cause
pub record IsGrantDue (n : ℕ) (left : Rooms) (s : CoreState) (a : Ask) (what : What) (answer : Answer) : Type 0 where
  pub free : enters (stands s a) ≡ true → IsFree s a (asked_claim a what s.names) → IsRoom (limits_of_grant left s a (asked_claim a what s.names)) → may_record n s (wanted s a) ≡ true → answer ≡ Granted (asked_claim a what s.names)
  pub cause : IsClaimDue n left s a (asked_claim a what s.names) answer

-- what is due to an ask for this; an ask for nothing is owed nothing
abbrev pub IsWhatDue : ℕ → Rooms → CoreState → Ask → Option What → Answer → Type 0
IsWhatDue n left s a None answer = Unit {0}
IsWhatDue n left s a (Some what) answer = IsGrantDue n left s a what answer

-- what is due to an ask for these ranges: to one what is due to its claim, and to several the same if grace keeps it off or
-- something blocks the first, and else that each be judged beside those before it
abbrev pub IsRangesDue : ℕ → Rooms → CoreState → Ask → List (Extent × Bool) → Answer → Type 0
IsRangesDue n left s a [] answer = Unit {0}
IsRangesDue n left s a (range ∷ []) answer = IsGrantDue n left s a (range_what range) answer
IsRangesDue n left s a (range ∷ more ∷ ranges) answer =
    (enters (stands s a) ≡ false → IsClaimDue n left s a (asked_claim a (range_what range) s.names) answer)
    × (is_in_line (those_before (stands s a) s.waiters) s (asked_claim a (range_what range) s.names) ≡ true → IsClaimDue n left s a (asked_claim a (range_what range) s.names) answer)
    × (stands s a ≡ Timely → is_in_line s.waiters s (asked_claim a (range_what range) s.names) ≡ false → IsEachDue left s a (asked_claim a (range_what range) s.names) (asked_claims a (map range_what (range ∷ more ∷ ranges)) s.names) answer)

-- what is due to an unlock of a range by this claim's owner: of bytes, or of an element
abbrev pub IsBytesDue : CoreState → Claim → ℕ → ℕ → Bool → Answer → Type 0
IsBytesDue s claim first last true answer = IsUnlockDue s claim first last answer
IsBytesDue s claim first last false answer = IsElementDue s claim (extents.Bytes first last) answer

-- what an ask is answered is what is due to it
abbrev pub IsAnswerDue : ℕ → Rooms → CoreState → Ask → Act → Answer → Type 0
IsAnswerDue n left s a (acts.Share access deny) answer = IsWhatDue n left s a (asked_what (acts.Share access deny)) answer
IsAnswerDue n left s a (acts.Ranges ranges) answer = IsRangesDue n left s a ranges answer
IsAnswerDue n left s a acts.Wish answer = IsWishDue left s a a.wish answer
IsAnswerDue n left s a (acts.Test extent exclusive) answer = IsTestDue s a (known_claim a extent exclusive s.names) answer
IsAnswerDue n left s a (acts.Unlock (extents.Bytes first last)) answer =
    let claim = known_claim a (extents.Bytes first last) false s.names in IsBytesDue s claim first last (posix claim.owner) answer
IsAnswerDue n left s a (acts.Unlock (extents.Empty offset)) answer = IsElementDue s (known_claim a (extents.Empty offset) false s.names) (extents.Empty offset) answer

-- there is a turn unless each waiter is blocked, and it is the turn of the first who is not
pub record IsTurnOwed (n : ℕ) (left : Rooms) (s : CoreState) : Type 0 where
  pub none : settle n left s ≡ None → IsSettled s
  pub first : IfSome (settle n left s) (λ r. IsTurn n left s r.0 r.1)

-- what is due to a deed: an ask its answer, a turn to who may have it; a break is over whose deadline has come, a client
-- expires whose lease has ended, and grace ends once its end has come
abbrev pub IsDue : ℕ → CoreState → Deed → Type 0
IsDue n s (Asks left a) = IsAnswerDue n left (way left s a).1 a a.act (ask n left s a).0
IsDue n s (Serves left) = IsTurnOwed n left s
IsDue n s (Lapses cache) = IsIn cache (due s)
IsDue n s (Expires client) = IsIn client (ended s.clock s.leases)
IsDue n s EndsGrace = is_over s.grace s.clock ≡ true
IsDue n s _ = Unit {0}

-- each of these deeds, in the state that those before it left
abbrev pub AreDue : ℕ → CoreState → List Deed → Type 0
AreDue n s [] = Unit {0}
AreDue n s (d ∷ ds) = IsDue n s d × AreDue n (done n s d) ds

-- ---- in their order

-- those that stand ahead of the first that passes the test
abbrev pub ahead : {A : Type 0} → (A → Bool) → List A → List A
ahead test [] = []
ahead test (x ∷ xs) = if test x then [] else x ∷ ahead test xs

-- The record is wanted stored by a reading of the clock: without a client that it has, whose lease has ended, or which did not
-- return a delegation; or at the end of grace without the names that reclaimed nothing.
pub data IsWanted (s : CoreState) (stable : Stable) : Type 0 where
  Ended : (client : List ℕ) → IsIn client (ended s.clock s.leases) → is_recorded (client_name client) s.stable.names ≡ true → stable ≡ without_name (client_name client) s.stable → IsWanted s stable
  Unreturned : (cache : Claim) (client : List ℕ) → IsIn cache (due s) → client_of s.names cache.party ≡ Some client → is_recorded (client_name client) s.stable.names ≡ true → stable ≡ without_name (client_name client) s.stable → IsWanted s stable
  Shortened : is_over s.grace s.clock ≡ true → stable ≡ shortened s.grace s.stable → IsWanted s stable

-- What comes in turn with n stores that succeed. An expiry waits for its store if the record has the client, and so does the end of
-- grace; a store fails only if it is wanted and no more succeeds (RECORD-10). Whatever is due or has ended ahead of what a deed
-- takes stands so at the end as well: nothing is passed over whose turn is to come.
abbrev pub IsInTurn : ℕ → CoreState → CoreState → Deed → Type 0
IsInTurn n s t (Lapses cache) = (may_lapse n s cache ≡ true) × AllByRecursion (λ c. IsIn c (due t)) (ahead (same_claims cache) (due s))
IsInTurn n s t (Expires client) = (may_expire n s client ≡ true) × AllByRecursion (λ id. IsIn id (ended t.clock t.leases)) (ahead (bytes_eq client) (ended s.clock s.leases))
IsInTurn n s t (FailsStore stable) = IsWanted s stable × (may_store n s ≡ false)
IsInTurn n s t EndsGrace = may_store n s ≡ true
IsInTurn n s t _ = Unit {0}

-- each of these deeds, in the state that those before it left
abbrev pub AreInTurn : ℕ → CoreState → List Deed → CoreState → Type 0
AreInTurn n s [] t = Unit {0}
AreInTurn n s (d ∷ ds) t = IsInTurn n s t d × AreInTurn n (done n s d) ds t

-- ---- put off

-- the client's expiry is put off: a store of the step failed, and the record has the client still (RECORD-10)
abbrev pub IsPutOff : Bool → Stable → List ℕ → Type 0
IsPutOff failed stable client = (failed ≡ true) × (is_recorded (client_name client) stable.names ≡ true)

-- so the break of its cache is not over
abbrev pub IsLate : CoreState → Option (List ℕ) → Type 0
IsLate s None = ⊥
IsLate s (Some client) = IsPutOff s.failed s.stable client

-- ---- the record behind a reading

-- the client of this name is told of as expired
abbrev pub has_expired : Recorded → List Effect → Bool
has_expired name told = list_any (λ client. same_name (client_name client) name) (who_expired told)

-- grace ran, and is over
abbrev pub is_grace_over : CoreState → CoreState → Bool
is_grace_over s t = is_some s.grace && not (is_some t.grace)

-- What a reading of the clock with these effects makes of the record: it has each name that it had, except those of clients that
-- expired, and where grace is over of those that reclaimed nothing in it. It has no other name, and grace is over in no reading in
-- which a store failed, nor before its end.
pub record IsThinned (s : CoreState) (told : List Effect) (t : CoreState) : Type 0 where
  pub names : (name : Recorded) → is_recorded name t.stable.names ≡ ((is_recorded name s.stable.names && not (has_expired name told)) && (not (is_grace_over s t) || is_back name s.grace))
  pub over : is_grace_over s t ≡ true → (is_over s.grace t.clock ≡ true) × (t.failed ≡ false)
