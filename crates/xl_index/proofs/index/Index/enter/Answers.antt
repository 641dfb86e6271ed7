use Rattle.std.proofs.Common.{refl, vec_capacity}
use Rattle.xl_index.proofs.IndexLaws.{few_run, index_still, err_still}
use Rattle.xl_index.proofs.index.Index.enter.Goals as goal

pub returns-in_err-come-clause-err : goal.returns-in_err-come-clause-err
returns-in_err-come-clause-err c =
    err_still c.from_residual-in_err-come.result _
    (index_still c.args.self.now (record { count = c.args.self.now.count; deadlines = c.make_room.new.moments; stands = c.come.new.stands })
    c.make_room.ensures.items c.make_room.ensures.capacity c.come.ensures.told c.in_err-come.ensures.err refl)

pub enter_moment-requires-clause-room : goal.enter_moment-requires-clause-room
enter_moment-requires-clause-room c =
    few_run c.args.self.now c.args.self.now.deadlines.items c.make_room.new.moments.items (vec_capacity c.make_room.new.moments) c.requires.index refl c.make_room.ensures.items c.in_ok-make_room.ensures.room
