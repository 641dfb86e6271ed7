use Rattle.std.proofs.Common.{◌≡◌, ◌++◌, ◌∷◌, [], ap, sym, refl, subst, ◌∙◌, arith}
use Rattle.xl_base.specs.Stable.{Stable, raised}
use Rattle.xl_base.specs.declared.event.Event.TheVariants.{Restart}
use Rattle.xl_base.specs.declared.halt.Halt.TheVariants.{JournalFull}
use Rattle.xl_smb_state.specs.Links.{AreDistinct, IsSound}
use Rattle.xl_smb_state.specs.State.{Lists}
use Rattle.xl_core.specs.State.{started}
use Rattle.xl_core.specs.Stores.{Telling, Holds}
use Rattle.xl_plan.specs.Keepers.{telling}
use Rattle.xl_house.specs.Housed.{Housed, is_spoiled}
use Rattle.xl_house.specs.Journals.{entry, replay}
use Rattle.xl_house.specs.Machine.{restarted, step}
use Rattle.xl_house.specs.Recording.{HasKept}
use Rattle.xl_house.specs.Starts.{IsGiven, IsStored}
use Rattle.xl_house.specs.State.{Whole, start_of}
use Rattle.xl_house.specs.Whole.{whole_of}
use Rattle.xl_house.proofs.JournalLaws.{allowed_next, few_more, legal_next, restart_is, restart_kept, restart_next, restart_stands, served_next}
use Rattle.xl_house.proofs.StartLaws.{as_failed, bare, goes_on, same_halt, some_maps, tried_of}
use Rattle.xl_house.proofs.house.House.restart.Goals as goal

pub begin_anew-requires : goal.begin_anew-requires
begin_anew-requires g c = omega (arith, (c.self.invariant.stands (ap is_spoiled c.in-Ok.ensures.runs)).place, c.self.invariant.few)

pub push_reserved-requires : goal.push_reserved-requires
push_reserved-requires g c = c.in-Ok.ensures.room.0

pub invariant_of-result : goal.invariant_of-result
invariant_of-result g c =
    let stands = c.self.invariant.stands (ap is_spoiled c.in-Ok.ensures.runs) in
    let sound : IsSound c.self.inside.machine.layers.front.smb.state = subst (λ (l : Lists). IsSound l) c.state.ensures c.links.ensures.sound in
    let distinct : AreDistinct c.self.inside.machine.layers.front.smb.state = subst (λ (l : Lists). AreDistinct l) c.state.ensures c.links.ensures.distinct in
    let s : Whole = whole_of c.self.inside.head.exports c.self.inside.machine in
    let new : Whole = whole_of c.self.inside.head.exports c.begin_anew.new.machine in
    let next : new ≡ (restarted 1 s).next =
    λ i. record { exports = c.self.inside.head.exports; place = c.begin_anew.ensures.place i; connections = c.begin_anew.ensures.connections i; paused = c.begin_anew.ensures.paused i; front = c.begin_anew.ensures.front i; core = (c.begin_anew.ensures.core ∙ c.new-core.ensures.state ∙ (λ j. started ((c.in-Ok.ensures.raised.0 ∙ ap raised c.stable.ensures) j) (c.clock-clock.ensures j) (c.times_of.ensures j))) i } in
    let entered : c.push_reserved.new.self.items ≡ c.self.inside.entries.items ++ entry 1 s Restart ∷ [] =
    c.push_reserved.ensures.items ∙ (λ i. c.again.ensures.items i ++ (c.restarted.ensures ∙ sym (restart_is s).0) i ∷ []) in
    record {
      stands = λ _. rw entered (restart_stands _ _ s new stands (sound, distinct) next);
      holds = λ _. subst (λ (stable : Stable). Holds (g.K.Keeper.held c.again.new.keeper) stable) (ap raised c.stable.ensures ∙ sym (ap (λ (w : Whole). w.core.stable) next)) c.in-Ok.ensures.keeper.held;
      few = few_more _ _ _ entered c.self.invariant.few c.in-Ok.ensures.room.1;
      legal = rw entered (legal_next _ _ s 1 Restart stands (restart_is s).1 refl c.self.invariant.legal);
      served = rw entered (served_next _ _ s 1 Restart stands (sound, distinct) (restart_is s).1 c.self.invariant.served);
      halts = tt;
    }

pub returns-in-Ok-clause-ok : goal.returns-in-Ok-clause-ok
returns-in-Ok-clause-ok g c =
    rw (← c.self.view_is)
    (refl, c.push_reserved.ensures.items ∙ (λ i. c.again.ensures.items i ++ (c.restarted.ensures ∙ sym (restart_is (replay (start_of c.self.inside.head) c.self.inside.entries.items)).0) i ∷ []), refl)

pub returns-in-Ok-clause-next : goal.returns-in-Ok-clause-next
returns-in-Ok-clause-next g c =
    let stands = c.self.invariant.stands (ap is_spoiled c.in-Ok.ensures.runs) in
    let s : Whole = whole_of c.self.inside.head.exports c.self.inside.machine in
    let new : Whole = whole_of c.self.inside.head.exports c.begin_anew.new.machine in
    let next : new ≡ (restarted 1 s).next =
    λ i. record { exports = c.self.inside.head.exports; place = c.begin_anew.ensures.place i; connections = c.begin_anew.ensures.connections i; paused = c.begin_anew.ensures.paused i; front = c.begin_anew.ensures.front i; core = (c.begin_anew.ensures.core ∙ c.new-core.ensures.state ∙ (λ j. started ((c.in-Ok.ensures.raised.0 ∙ ap raised c.stable.ensures) j) (c.clock-clock.ensures j) (c.times_of.ensures j))) i } in
    let entered : c.push_reserved.new.self.items ≡ c.self.inside.entries.items ++ entry 1 s Restart ∷ [] =
    c.push_reserved.ensures.items ∙ (λ i. c.again.ensures.items i ++ (c.restarted.ensures ∙ sym (restart_is s).0) i ∷ []) in
    let onward = restart_next s new next in
    rw (← c.self.view_is) ((allowed_next _ _ _ s new 1 1 Restart stands entered (restart_is s).1 onward (refl, sym onward)).1)

pub returns-in-Ok-clause-below : goal.returns-in-Ok-clause-below
returns-in-Ok-clause-below g c = rw (← c.self.view_is) (omega (arith, c.self.invariant.few, c.in-Ok.ensures.room.1))

pub returns-in-Ok-clause-runs : goal.returns-in-Ok-clause-runs
returns-in-Ok-clause-runs g c = sym (ap (λ (h : Housed _). h.halt) c.self.view_is) ∙ c.in-Ok.ensures.runs

pub returns-in-Ok-clause-keeper : goal.returns-in-Ok-clause-keeper
returns-in-Ok-clause-keeper g c =
    let stands = c.self.invariant.stands (ap is_spoiled c.in-Ok.ensures.runs) in
    let before : Telling = telling g.K.Keeper.held g.K.Keeper.given g.K.Keeper.faults g.K.Keeper.left c.self.inside.keeper in
    let now : Telling = telling g.K.Keeper.held g.K.Keeper.given g.K.Keeper.faults g.K.Keeper.left c.again.new.keeper in
    rw (← c.self.view_is)
    (subst (λ (w : Whole). HasKept (step 1 w Restart) before now) stands.replayed
    (restart_kept (whole_of c.self.inside.head.exports c.self.inside.machine) before now (subst (λ (stable : Stable). IsStored (raised stable) before now) c.stable.ensures c.in-Ok.ensures.keeper)))

pub returns-in-Ok-clause-holds : goal.returns-in-Ok-clause-holds
returns-in-Ok-clause-holds g c =
    let stands = c.self.invariant.stands (ap is_spoiled c.in-Ok.ensures.runs) in
    rw (← c.self.view_is)
    (subst (λ (w : Whole). Holds (g.K.Keeper.held c.again.new.keeper) (raised w.core.stable)) stands.replayed
    (subst (λ (stable : Stable). Holds (g.K.Keeper.held c.again.new.keeper) (raised stable)) c.stable.ensures c.in-Ok.ensures.keeper.held))

pub returns-in-Ok-clause-stays : goal.returns-in-Ok-clause-stays
returns-in-Ok-clause-stays g c = goes_on c.args.self.halt _ (sym (ap (λ (h : Housed _). h.halt) c.self.view_is) ∙ c.in-Ok.ensures.runs)

pub returns-in-Err-clause-stays : goal.returns-in-Err-clause-stays
returns-in-Err-clause-stays g c = rw (← c.self.view_is) (some_maps c.self.inside.halt _ _ (λ reason both. (same_halt _ _ reason both.0, both.1)) c.in-Err.ensures.stays)

pub returns-in-Err-clause-full : goal.returns-in-Err-clause-full
returns-in-Err-clause-full g c = rw (← c.self.view_is) (λ count none. bare _ _ (JournalFull count) _ (c.in-Err.ensures.full count none))

pub returns-in-Err-clause-count : goal.returns-in-Err-clause-count
returns-in-Err-clause-count g c = rw (← c.self.view_is) (λ count is. c.in-Err.ensures.count count (as_failed _ _ _ is))

pub returns-in-Err-clause-spent : goal.returns-in-Err-clause-spent
returns-in-Err-clause-spent g c = rw (← c.self.view_is) (λ n count left is. c.in-Err.ensures.spent n count left (as_failed _ _ _ is))

pub returns-in-Err-clause-tried : goal.returns-in-Err-clause-tried
returns-in-Err-clause-tried g c =
    rw (← c.self.view_is)
    (tried_of c.self.inside.halt _ (g.K.Keeper.held c.self.inside.keeper) c.self.inside.machine.layers.core.stable _ (g.K.Keeper.given c.self.inside.keeper) (g.K.Keeper.given c.again.new.keeper) (subst (λ (stable : Stable). IsGiven (g.K.Keeper.held c.self.inside.keeper) stable (g.K.Keeper.given c.self.inside.keeper) (g.K.Keeper.given c.again.new.keeper)) c.stable.ensures c.in-Err.ensures.tried)
    (λ sound. ap (λ (w : Whole). w.core.stable) (c.self.invariant.stands sound).replayed) c.again.ensures.stays (λ reason same. ap g.K.Keeper.given same.1))
