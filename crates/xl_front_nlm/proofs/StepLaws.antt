-- A call is read, and there is room for its host.
use Rattle.std.proofs.Common.{◌≡◌, ℕ, ◌≤◌, ◌<◌, Bool, true, false, List, length, Some, None, Ok, refl, sym, ap, ◌∙◌, arith}
use Rattle.std.proofs.lemmas.Bool.{false≢true}
use Rattle.std.specs.Bool.{◌==◌}
use Rattle.xl_matrix.specs.declared.claim.Claim.{Claim}
use Rattle.xl_matrix.specs.declared.claim.Extent.TheVariants.{Bytes}
use Rattle.xl_matrix.specs.declared.claim.What.TheVariants as whats
use Rattle.xl_wait.specs.declared.waiter.Rooms.{Rooms}
use Rattle.xl_core.specs.State.{CoreState}
use Rattle.xl_core.specs.Askers.{both_entered, asked_claim}
use Rattle.xl_core.specs.Causes.{IsClaimDue, wanted}
use Rattle.xl_core.specs.Decide.{beside_of, way, ask}
use Rattle.xl_core.specs.Judge.{held_then}
use Rattle.xl_core.specs.Limits.{most_hosts}
use Rattle.xl_core.specs.Stores.{bytes_with}
use Rattle.xl_core.proofs.LimitLaws.{grant_least, grant_room, wait_least, wait_room}
use Rattle.xl_core.proofs.WayAsks.{ask_due}
use Rattle.xl_core.specs.declared.ask.Answer.TheVariants as answers
use Rattle.xl_core.specs.declared.ask.Answer.{Answer}
use Rattle.xl_core.specs.declared.ask.Ask.{Ask}
use Rattle.xl_nlm.specs.Items.{LockArgsItem, ShareArgsItem, CallItem}
use Rattle.xl_nlm.specs.Arguments.{arguments_at}
use Rattle.xl_programs.specs.Programs.{RequestItem}
use Rattle.xl_front_nlm.specs.FrontNlm.{whole_call, call_in}
use Rattle.xl_front_nlm.specs.Asks.{lock_ask, rights_of, share_ask}
use Rattle.xl_front_nlm.specs.Hosts.{is_host, rooms, host_rows, makes_host}
use Rattle.xl_front_nlm.specs.declared.aim.Aim.{Aim}

-- ---- a grant and a wait have room for their hosts

abbrev HasRoom : Rooms → Rooms → Type 0
HasRoom left rows = rows.hosts ≤ left.hosts

-- where the answer makes its asker a host, there was room for the ask's rows
room_for : (n : ℕ) (left : Rooms) (s : CoreState) (a : Ask) (claim : Claim) (answer : Answer) → IsClaimDue n left s a claim answer → makes_host answer ≡ true → HasRoom left a.rows
room_for n left s a claim (answers.Granted c) due makes = (grant_room left a.rows held bytes kept (grant_least left a.rows held bytes kept None due.3)).0 where
  held : ℕ
  held = held_then (beside_of a.reclaim a.wish) claim s.claims

  bytes : ℕ
  bytes = bytes_with (wanted s a) s.stable

  kept : ℕ
  kept = length (both_entered a s.names)
room_for n left s a claim (answers.Queued id) due makes = (wait_room left a.rows (length s.waiters) (length (both_entered a s.names)) (wait_least left a.rows (length s.waiters) (length (both_entered a s.names)) None due.2)).0
room_for n left s a claim (answers.Conflict c) due makes = absurd (false≢true makes)
room_for n left s a claim (answers.NoGrace clock) due makes = absurd (false≢true makes)
room_for n left s a claim (answers.Full limit) due makes = absurd (false≢true makes)
room_for n left s a claim (answers.Recall c) due makes = absurd (false≢true makes)
room_for n left s a claim (answers.Grace until) due makes = absurd (false≢true makes)
room_for n left s a claim answers.NotRecorded due makes = absurd (false≢true makes)
room_for n left s a claim answers.NotHeld due makes = absurd due
room_for n left s a claim answers.StoreFailed due makes = absurd (false≢true makes)

pub lock_has_room : (monitored : Bool) (n : ℕ) (left rows : Rooms) (s : CoreState) (a : LockArgsItem) (at : Aim) → makes_host (ask n left s (lock_ask monitored rows a at)).0 ≡ true → HasRoom left rows
lock_has_room monitored n left rows s a at makes =
    let request = lock_ask monitored rows a at in
    let what = whats.Range (Bytes at.first at.last) a.exclusive in
    room_for n left (way left s request).1 request (asked_claim request what s.names) (ask n left s request).0 ((ask_due n left s request what (ask n left s request).0 refl).0 refl) makes

pub share_has_room : (n : ℕ) (left rows : Rooms) (s : CoreState) (a : ShareArgsItem) (file : ℕ) → makes_host (ask n left s (share_ask rows a file)).0 ≡ true → HasRoom left rows
share_has_room n left rows s a file makes =
    let request = share_ask rows a file in
    let what = whats.Share (rights_of a.access) (rights_of a.mode) in
    room_for n left (way left s request).1 request (asked_claim request what s.names) (ask n left s request).0 ((ask_due n left s request what (ask n left s request).0 refl).0 refl) makes

pub fresh_room : (caller : List ℕ) (hosts : List (List ℕ)) (rows : Rooms) → rows ≡ host_rows caller hosts → HasRoom (rooms hosts) rows → is_host caller hosts ≡ false → length hosts < most_hosts
fresh_room caller hosts rows e room fresh =
    let one : rows.hosts ≡ 1 = ap (λ (r : Rooms). r.hosts) e ∙ rw fresh refl in
    omega (arith, room, one)

-- ---- the arguments of a call were read, and nothing stands behind them

pub call_is_read : (r : RequestItem) (call : CallItem) (rest left : List ℕ) → arguments_at r.procedure r.arguments ≡ Ok (call, rest) → left ≡ rest → (length left == 0) ≡ true → call_in r ≡ Some call
unfolding call_in
call_is_read r call rest left e k none =
    let empty : (length rest == 0) ≡ true = ap (λ (x : List ℕ). length x == 0) (sym k) ∙ none in
    ap whole_call e ∙ rw empty refl
