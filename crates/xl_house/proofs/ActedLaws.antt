-- What the code of an event leaves of the machine and of the keeper.
use Rattle.std.proofs.Common.{◌≡◌, ℕ, ◌+◌, ◌*◌, ◌≤◌, arith, false, List, length, Some, refl, sym, ap, subst, ◌∙◌}
use Rattle.std.specs.Prelude.{nat_lt}
use Rattle.xl_base.specs.Stable.{Stable}
use Rattle.xl_base.specs.declared.event.Event.{Event}
use Rattle.xl_base.specs.Limits.{most_numbers}
use Rattle.xl_core.specs.Numbers.{numbers_of}
use Rattle.xl_plan.proofs.BudgetLaws.{all_come}
use Rattle.xl_front_nlm.specs.Short.{IsShort, AreShort, IsReady}
use Rattle.xl_house.specs.Owing.{LeavesOwed}
use Rattle.xl_core.specs.State.{CoreState, MayBe, step_begun}
use Rattle.xl_core.specs.Stores.{Telling, Holds}
use Rattle.xl_core.proofs.StoreLaws.{may_be_made}
use Rattle.xl_plan.specs.Keepers.{IsTold}
use Rattle.xl_house.specs.Free.{IsFree}
use Rattle.xl_house.specs.Journals.{is_restart}
use Rattle.xl_house.specs.Machine.{Gone, Turn, Gives, connected, step}
use Rattle.xl_house.specs.Recording.{HasKept}
use Rattle.xl_house.specs.State.{Whole, as_found}
use Rattle.xl_house.specs.declared.connections.Connection.{Connection}
use Rattle.xl_house.specs.declared.frames.Going.{Going}
use Rattle.xl_house.specs.declared.layers.Fronts.{Fronts}
use Rattle.xl_house.proofs.DoneLaws.{left_by}
use Rattle.xl_house.proofs.MachineLaws.{IsActed, acted_step}
use Rattle.xl_house.proofs.HearLaws.{begun_numbers, begun_short}
use Rattle.xl_house.proofs.RecordLaws.{left_stored}
use Rattle.xl_house.proofs.StoringLaws.{HasStored, short_is}

-- as many stores may be as the keeper tells that succeed
pub may_allowed : (before now : Telling) (s : CoreState) (n : ℕ) → IsTold before s now → before.left ≡ Some n → MayBe n s
may_allowed before now s n told is = let allows = told.left n is in record { enough = allows.0; spent = allows.2 }

-- with each number of stores that it may be the event gives this
pub acted_gives : (s : Whole) (e : Event) (go : Going) (g : Fronts) (last next : CoreState) (connections : List Connection) (stores n : ℕ)
    → is_restart e ≡ false → IsActed s e go g last → connections ≡ connected s.connections s.place e → next ≡ step_begun last → stores ≡ last.made → MayBe n last
    → Gives (step n s e) (record { exports = s.exports; place = s.place + 1; connections = connections; paused = go.paused; front = g; core = next }) stores go.outs
acted_gives s e go g last next connections stores n other acted links begun many may =
    let is = acted_step s e go g last next connections other acted links begun n may in
    record { next = ap (λ (t : Turn). t.next) is; made = ap (λ (t : Turn). t.made) is ∙ sym many; outs = ap (λ (t : Turn). t.outs) is }

pub acted_made : (s : Whole) (e : Event) (go : Going) (g : Fronts) (last next : CoreState) (connections : List Connection) (stores : ℕ)
    → is_restart e ≡ false → IsActed s e go g last → connections ≡ connected s.connections s.place e → next ≡ step_begun last → stores ≡ last.made
    → Gives (step stores s e) (record { exports = s.exports; place = s.place + 1; connections = connections; paused = go.paused; front = g; core = next }) stores go.outs
acted_made s e go g last next connections stores other acted links begun many =
    acted_gives s e go g last next connections stores stores other acted links begun many (subst (λ (n : ℕ). MayBe n last) (sym many) (may_be_made last))

begun_stable : (s : CoreState) → (step_begun s).stable ≡ s.stable
unfolding step_begun
begun_stable s = refl

-- what the keeper tells then
pub acted_kept : (s : Whole) (e : Event) (go : Going) (g : Fronts) (last next : CoreState) (connections : List Connection) (stores : ℕ) (before now : Telling)
    → is_restart e ≡ false → IsFree s → IsActed s e go g last → connections ≡ connected s.connections s.place e → next ≡ step_begun last → stores ≡ last.made → IsTold before last now → HasKept (step stores s e) before now
acted_kept s e go g last next connections stores before now other free acted links begun many told =
    subst (λ (n : ℕ). HasKept (step n s e) before now) (sym many)
    (subst (λ (turn : Turn). HasKept turn before now) (sym (acted_step s e go g last next connections other acted links begun last.made (may_be_made last)))
    (record {
      held = subst (λ (stable : Stable). Holds now.held stable) (sym (ap (λ (t : CoreState). t.stable) begun ∙ begun_stable last)) told.held;
      given = told.given;
      rose = λ falls. told.rose (sym short ∙ falls);
      still = λ none. told.still (sym short ∙ none);
      left = λ n is. (let allows = told.left n is in (allows.0, allows.1));
    }))
  where
    here : left_by last.made (as_found s) e ≡ last
    here = ap (λ (r : Gone). r.2) (acted last.made (may_be_made last))

    has : HasStored last.made s.core.stable last
    has = subst (λ (t : CoreState). HasStored last.made s.core.stable t) here (left_stored last.made s e other free)

    short : nat_lt last.made (length last.given) ≡ last.failed
    short = short_is last.made s.core.stable last has

-- ---- what the event leaves of numbers and names

-- so many more steps of frames are owed, and the names are short
pub owed_after : (s u v : CoreState) (before after : ℕ) → IsReady (most_numbers + 3 * before) s → LeavesOwed before after (step_begun s) u → v ≡ step_begun u
    → (numbers_of v + 3 * after ≤ numbers_of s + 3 * before + most_numbers) × AreShort v.names
owed_after s u v before after ready owed e =
    subst (λ (x : CoreState). (numbers_of x + 3 * after ≤ numbers_of s + 3 * before + most_numbers) × AreShort x.names) (sym e)
    (omega (arith, owed.numbers, begun_numbers s, begun_numbers u), begun_short u (all_come IsShort (step_begun s).names u.names (λ name is. is) owed.names (begun_short s ready.short)))
