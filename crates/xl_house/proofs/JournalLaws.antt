-- Journals with one entry more.
use Rattle.std.proofs.Common.{◌≡◌, ℕ, None, Result, Ok, Err, IfOk, ◌+◌, ◌*◌, ◌<◌, ◌≤◌, Bool, true, false, not, ◌&&◌, ◌==◌, arith, length-append, Option, List, [], ◌∷◌, ◌++◌, length, refl, sym, ap, subst, ◌∙◌}
use Rattle.xl_base.specs.Limits.{most_numbers}
use Rattle.xl_base.specs.Stable.{Stable, raised}
use Rattle.xl_base.specs.declared.event.Event.{Event}
use Rattle.xl_base.specs.declared.event.Event.TheVariants.{Restart}
use Rattle.xl_base.specs.declared.event.Moment.{Moment}
use Rattle.xl_base.specs.declared.event.Out.{Out}
use Rattle.xl_base.specs.declared.journal.Entry.{Entry}
use Rattle.xl_base.specs.declared.journal.Head.{Head}
use Rattle.xl_core.specs.Numbers.{numbers_of}
use Rattle.xl_core.specs.State.{CoreState, started}
use Rattle.xl_core.specs.Stores.{Telling}
use Rattle.xl_core.specs.declared.lease.Times.{Times}
use Rattle.xl_front_nlm.specs.Short.{AreShort}
use Rattle.xl_house.specs.Awaited.{IsAwaiting, IsServed, IsServedBy}
use Rattle.xl_house.specs.Lawful.{Always}
use Rattle.xl_house.specs.Machine.{Turn, Gives, restarted, step}
use Rattle.xl_house.specs.Recording.{HasKept}
use Rattle.xl_house.specs.Starts.{IsStored}
use Rattle.xl_house.specs.State.{Whole, times_of, start_of}
use Rattle.xl_house.specs.Journals.{replay, is_restart, IsStep, IsLegal, entry, last_stores, may_enter, most_entries}
use Rattle.xl_house.specs.Free.{IsFree}
use Rattle.xl_house.specs.Sifting.{paused_left}
use Rattle.xl_base.specs.Serials.{Extends}
use Rattle.xl_house.specs.Housed.{Housed, Holds, Stands}
use Rattle.xl_house.proofs.AwaitedLaws.{Ready}
use Rattle.xl_house.proofs.MachineLaws.{begin_free, next_place, step_free}
use Rattle.xl_house.proofs.ServedLaws.{always_more, begin_awaits, step_awaits, step_serves}

-- the stores of the last entry
pub last_is : (es : List Entry) (e : Entry) → last_stores (es ++ e ∷ []) ≡ e.stores
last_is [] e = refl
last_is (first ∷ []) e = refl
last_is (first ∷ second ∷ es) e = last_is (second ∷ es) e

-- where these entries end in one with what the step gave for so many stores
pub record IsEntered (es new : List Entry) (m : ℕ) (s left : Whole) (event : Event) : Type 0 where
  pub last : last_stores new ≡ m
  pub entered : new ≡ es ++ entry (last_stores new) s event ∷ []
  pub made : (step (last_stores new) s event).made ≡ last_stores new
  pub next : left ≡ (step (last_stores new) s event).next

pub entered_is : (es new : List Entry) (m : ℕ) (s left : Whole) (event : Event) (outs : List Out) → new ≡ es ++ record { event = event; stores = m; outs = outs } ∷ [] → Gives (step m s event) left m outs → IsEntered es new m s left event
entered_is es new m s left event outs is gives =
    let it : Entry = record { event = event; stores = m; outs = outs } in
    let last : last_stores new ≡ m = ap last_stores is ∙ last_is es it in
    record {
      last = last;
      entered = is ∙ (λ i. es ++ record { event = event; stores = sym gives.made i; outs = sym gives.outs i } ∷ []) ∙ ap (λ (n : ℕ). es ++ entry n s event ∷ []) (sym last);
      made = subst (λ (n : ℕ). (step n s event).made ≡ n) (sym last) gives.made;
      next = sym gives.next ∙ ap (λ (n : ℕ). (step n s event).next) (sym last);
    }

-- and for so many that the keeper tells to succeed
pub entered_so : (m n k : ℕ) (s left : Whole) (event : Event) (outs : List Out) → k ≡ m → Gives (step m s event) left m outs → Gives (step n s event) left m outs → (entry n s event ≡ entry k s event) × ((step n s event).next ≡ left)
entered_so m n k s left event outs last gives so = (
  (λ i. record { event = event; stores = (so.made ∙ sym gives.made) i; outs = (so.outs ∙ sym gives.outs) i }) ∙ ap (λ (j : ℕ). entry j s event) (sym last),
  so.next,
)

pub entered_kept : (m k : ℕ) (s : Whole) (event : Event) (before now : Telling) → k ≡ m → HasKept (step m s event) before now → HasKept (step k s event) before now
entered_kept m k s event before now last kept = subst (λ (n : ℕ). HasKept (step n s event) before now) (sym last) kept

pub replay_more : (s : Whole) (es : List Entry) (e : Entry) → replay s (es ++ e ∷ []) ≡ (step e.stores (replay s es) e.event).next
replay_more s [] e = refl
replay_more s (first ∷ es) e = replay_more (step first.stores s first.event).next es e

pub legal_more : (s : Whole) (es : List Entry) (e : Entry) → IsStep (replay s es) e → IsLegal s es → IsLegal s (es ++ e ∷ [])
legal_more s [] e is legal = (is, tt)
legal_more s (first ∷ es) e is legal = (legal.0, legal_more (step first.stores s first.event).next es e is legal.1)

-- ---- the house stands for the replay of its entries

-- an entry of the machine's step, at its place
pub step_next : (start : Whole) (es : List Entry) (old : Whole) (n : ℕ) (event : Event) → Stands start es old → (step n old event).made ≡ n → may_enter n event ≡ true → IsStep (replay start es) (entry n old event)
step_next start es old n event stands made may =
    subst (λ (s : Whole). IsStep s (entry n old event)) stands.replayed
    (subst (λ (m : ℕ). IsStep old (record { event = event; stores = m; outs = (step n old event).outs })) (sym made) (sym made, refl, may))

pub legal_next : (start : Whole) (es : List Entry) (old : Whole) (n : ℕ) (event : Event) → Stands start es old → (step n old event).made ≡ n → may_enter n event ≡ true → IsLegal start es → IsLegal start (es ++ entry n old event ∷ [])
legal_next start es old n event stands made may legal = legal_more start es (entry n old event) (step_next start es old n event stands made may) legal

-- the state that it leads to
pub next_replayed : (start : Whole) (es : List Entry) (old new : Whole) (n : ℕ) (event : Event) → Stands start es old → (step n old event).made ≡ n → new ≡ (step n old event).next → new ≡ replay start (es ++ entry n old event ∷ [])
next_replayed start es old new n event stands made e =
    e ∙ (λ i. (step (sym made i) (stands.replayed i) event).next) ∙ sym (replay_more start es (entry n old event))

-- what isn't a restart makes an entry
pub other_enters : (n : ℕ) (event : Event) → is_restart event ≡ false → may_enter n event ≡ true
other_enters n event other = ap (λ (b : Bool). not (b && (n == 0))) other

-- the journal then, with so many stores as were allowed
pub allowed_next : (start : Whole) (es new : List Entry) (old left : Whole) (k n : ℕ) (event : Event) → Stands start es old → new ≡ es ++ entry k old event ∷ [] → (step k old event).made ≡ k → left ≡ (step k old event).next
    → (entry n old event ≡ entry k old event) × ((step n old event).next ≡ left) → (new ≡ es ++ entry n (replay start es) event ∷ []) × (replay start new ≡ (step n (replay start es) event).next)
allowed_next start es new old left k n event stands entered made next so = (
  entered ∙ (λ i. es ++ (sym so.0 ∙ (λ j. entry n (stands.replayed j) event)) i ∷ []),
  ap (replay start) entered ∙ sym (next_replayed start es old left k event stands made next) ∙ sym so.1 ∙ (λ i. (step n (stands.replayed i) event).next),
)

begun_numbers : (head : Head) (s : Whole) → s ≡ start_of head → numbers_of s.core + 3 * paused_left s.paused ≤ most_numbers * 0
begun_numbers head s e = subst (λ (w : Whole). numbers_of w.core + 3 * paused_left w.paused ≤ most_numbers * 0) (sym e) (omega arith)

started_short : (s : Whole) (stable : Stable) (now : Moment) (times : Times) → s.core ≡ started stable now times → AreShort s.core.names
started_short s stable now times e = subst (λ (c : CoreState). AreShort c.names) (sym e) tt

-- at a start
pub begun_stands : (head : Head) (s : Whole) → s ≡ start_of head → Stands (start_of head) [] s
begun_stands head s e = record {
  replayed = e;
  place = ap (λ (w : Whole). w.place) e;
  free = subst (λ (w : Whole). IsFree w) (sym e) (begin_free head);
  awaiting = subst (λ (w : Whole). IsAwaiting w) (sym e) (begin_awaits head);
  numbers = begun_numbers head s e;
  short = started_short s (raised head.record) head.start (times_of head.exports) (ap (λ (w : Whole). w.core) e);
}

pub holds_started : (held : Option Stable) (s : CoreState) (stable : Stable) (now : Moment) (times : Times) → s ≡ started stable now times → Holds held stable → Holds held s.stable
holds_started held s stable now times e holds = subst (λ (c : CoreState). Holds held c.stable) (sym e) holds

pub holds_stands : (held : Option Stable) (start s : Whole) (es : List Entry) → Stands start es s → Holds held s.core.stable → Holds held (replay start es).core.stable
holds_stands held start s es stands holds = subst (λ (w : Whole). Holds held w.core.stable) stands.replayed holds

pub stands_next : (start : Whole) (es : List Entry) (old new : Whole) (n : ℕ) (event : Event) → Stands start es old → Ready old.front → (step n old event).made ≡ n → new ≡ (step n old event).next → numbers_of new.core + 3 * paused_left new.paused ≤ numbers_of old.core + 3 * paused_left old.paused + most_numbers → AreShort new.core.names → Stands start (es ++ entry n old event ∷ []) new
stands_next start es old new n event stands ready made e numbers short =
    let longer = length-append es (entry n old event ∷ []) in
    record {
      replayed = next_replayed start es old new n event stands made e;
      place = ap (λ (s : Whole). s.place) e ∙ next_place n old event ∙ omega (arith, stands.place, longer);
      free = subst (λ (s : Whole). IsFree s) (sym e) (step_free n old event stands.free);
      awaiting = subst (λ (s : Whole). IsAwaiting s) (sym e) (step_awaits n old event stands.free ready stands.awaiting);
      numbers = omega (arith, numbers, stands.numbers, longer);
      short = short;
    }

-- the keeper holds the machine's record then
pub holds_next : (held : Option Stable) (turn : Whole) (new : Whole) → new ≡ turn → Holds held turn.core.stable → Holds held new.core.stable
holds_next held turn new e holds = subst (λ (s : Whole). Holds held s.core.stable) (sym e) holds

pub holds_after : (held : Option Stable) (start : Whole) (es : List Entry) (old new : Whole) (n : ℕ) (event : Event) → Stands start es old → (step n old event).made ≡ n → new ≡ (step n old event).next → Holds held new.core.stable → Holds held (replay start (es ++ entry n old event ∷ [])).core.stable
holds_after held start es old new n event stands made e holds = subst (λ (s : Whole). Holds held s.core.stable) (next_replayed start es old new n event stands made e) holds

-- ---- a restart

-- what its entry is, if its store succeeds
pub restart_is : (s : Whole) → (entry 1 s Restart ≡ record { event = Restart; stores = 1; outs = [] }) × ((step 1 s Restart).made ≡ 1) × (step 1 s Restart ≡ restarted 1 s)
unfolding step
restart_is s = (refl, refl, refl)

-- as the code begins anew
pub restart_next : (s new : Whole) → new ≡ (restarted 1 s).next → new ≡ (step 1 s Restart).next
restart_next s new e = e ∙ sym (ap (λ (t : Turn). t.next) (restart_is s).2)

pub restart_stands : (start : Whole) (es : List Entry) (old new : Whole) → Stands start es old → Ready old.front → new ≡ (restarted 1 old).next → Stands start (es ++ entry 1 old Restart ∷ []) new
restart_stands start es old new stands ready e =
    stands_next start es old new 1 Restart stands ready (restart_is old).1 (restart_next old new e)
    (subst (λ (w : Whole). numbers_of w.core + 3 * paused_left w.paused ≤ numbers_of old.core + 3 * paused_left old.paused + most_numbers) (sym e) (omega arith))
    (subst (λ (w : Whole). AreShort w.core.names) (sym e) tt)

-- room for one entry more
pub few_more : (es new : List Entry) (e : Entry) → new ≡ es ++ e ∷ [] → length es ≤ most_entries → (length es ≡ most_entries → ⊥) → length new ≤ most_entries
few_more es new e is few differs = omega (arith, ap length is ∙ length-append es (e ∷ []), few, differs)

-- what the keeper tells then
pub restart_kept : (s : Whole) (before now : Telling) → IsStored (raised s.core.stable) before now → HasKept (step 1 s Restart) before now
restart_kept s before now stored =
    subst (λ (t : Turn). HasKept t before now) (sym (restart_is s).2)
    (record {
      held = stored.held;
      given = stored.given;
      rose = λ falls. absurd cc;
      still = λ _. stored.still;
      left = λ n told. stored.left n told;
    })

-- ---- what a step grants to SMB's opens

pub served_after : (start : Whole) (es : List Entry) (old : Whole) (n : ℕ) (event : Event) → Stands start es old → Ready old.front → (step n old event).made ≡ n → IsServedBy n (replay start es) event (replay start (es ++ entry n old event ∷ []))
served_after start es old n event stands ready made =
    subst (λ (t : Whole). IsServedBy n (replay start es) event t) (next_replayed start es old (step n old event).next n event stands made refl)
    (subst (λ (x : Whole). IsServedBy n x event (step n old event).next) stands.replayed (step_serves n old event stands.free ready stands.awaiting))

pub served_next : (start : Whole) (es : List Entry) (old : Whole) (n : ℕ) (event : Event) → Stands start es old → Ready old.front → (step n old event).made ≡ n → Always IsServed start es → Always IsServed start (es ++ entry n old event ∷ [])
served_next start es old n event stands ready made served =
    always_more IsServed start es (entry n old event) served
    (subst (λ (x : Whole). IsServedBy (step n old event).made x event (step (step n old event).made x event).next) stands.replayed
    (subst (λ (m : ℕ). IsServedBy m old event (step m old event).next) (sym made) (step_serves n old event stands.free ready stands.awaiting)))

pub both_ok : {T E : Type 0} (r : Result T E) (P Q R : T → Type 0) → ((x : T) → P x → Q x → R x) → IfOk r P → IfOk r Q → IfOk r R
both_ok (Ok x) P Q R as_r p q = as_r x p q
both_ok (Err e) P Q R as_r p q = tt

-- a house with one entry more
pub extends_by : {K : Type 0} (old new : Housed K) (e : Entry) (keeper : K) (event : Event) (place : ℕ) → e.event ≡ event → place < most_entries
    → (place ≡ length old.entries) × (new ≡ record { head = old.head; entries = old.entries ++ e ∷ []; halt = None; keeper = keeper }) → Extends 0 old.entries new.entries event place
extends_by old new e keeper event place is below ok = (e, ap (λ (h : Housed _). h.entries) ok.1, is, omega (arith, ok.0), omega (arith, below))
