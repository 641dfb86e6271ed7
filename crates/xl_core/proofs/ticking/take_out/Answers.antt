use Rattle.std.proofs.Common.{ℕ, List, refl, ap, ◌∙◌}
use Rattle.xl_names.specs.declared.name.Name.TheVariants.{NfsParty}
use Rattle.xl_core.specs.Askers.{party_named}
use Rattle.xl_core.specs.Ticks.{barred}
use Rattle.xl_core.specs.Whole.{state_of}
use Rattle.xl_core.proofs.TickCode.{gone_is}
use Rattle.xl_core.proofs.UnsettledLaws.{kept_up}
use Rattle.xl_core.proofs.ticking.take_out.Goals as goal

pub returns-in_err-push-clause-held_up : goal.returns-in_err-push-clause-held_up
returns-in_err-push-clause-held_up c = kept_up c.end_some.new.unsettled (state_of c.end_some.new.parts) _ refl refl refl c.in_ok-effects.ensures.held_up

pub returns-clause-held_up : goal.returns-clause-held_up
returns-clause-held_up c = kept_up c.end_some.new.unsettled (state_of c.end_some.new.parts) _ refl refl refl c.in_ok-effects.ensures.held_up

pub returns-clause-state : goal.returns-clause-state
returns-clause-state c =
    gone_is (state_of c.args.parts.now) (state_of c.bar.new.parts) (state_of c.end_some.new.parts) c.args.client c.in_ok-party.party c.in_ok-effects.effects c.push.new.self _
    (c.in_ok-bar.ensures.state ∙ ap (λ (id : List ℕ). barred (state_of c.args.parts.now) id) c.as_slice.ensures)
    (c.in_ok-party.ensures ∙ ap (λ (id : List ℕ). party_named c.bar.new.parts.names (NfsParty id)) c.as_slice-2.ensures)
    c.in_ok-effects.ensures.state c.drop_lease.ensures c.in_ok-push.ensures.ok
