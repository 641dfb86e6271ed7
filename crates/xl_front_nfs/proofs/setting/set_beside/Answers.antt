use Rattle.std.proofs.Common.{◌∙◌, sym, ap}
use Rattle.xl_base.specs.declared.event.Moment.{Moment}
use Rattle.xl_nfs.specs.Clients.{shown_set_client_id_args}
use Rattle.xl_front_nfs.specs.Clients.{set_under}
use Rattle.xl_front_nfs.proofs.ClientLaws.{set_done}
use Rattle.xl_front_nfs.proofs.setting.set_beside.Goals as goal

pub returns-clause-done : goal.returns-clause-done
returns-clause-done c = λ n.
    let drawn = c.draw_numbers-number in
    rw c.confirm_of-told.ensures (rw c.new.ensures
    (set_done n c.args.core.now drawn.new.core c.args.state.now c.args.current (shown_set_client_id_args c.args.args.now) c.number_kept-kept.result drawn.result.0 drawn.result.1 c.set_under.new.state
    (sym c.has_room.ensures ∙ c.if-not-has_room.false) c.number_kept-kept.ensures drawn.ensures.numbers (drawn.ensures.state n) (drawn.ensures.told n) drawn.ensures.stable
    (c.in_ok-set_under.ensures ∙ ap (λ (t : Moment). set_under t c.args.state.now (shown_set_client_id_args c.args.args.now) drawn.result.0 drawn.result.1) c.record_end-time.ensures)))
