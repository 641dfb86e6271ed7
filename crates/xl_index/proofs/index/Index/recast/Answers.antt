use Rattle.std.proofs.Common.{vec_capacity}
use Rattle.xl_index.proofs.IndexLaws.{room_again}
use Rattle.xl_index.proofs.index.Index.recast.Goals as goal

pub enter_moment-requires-clause-room : goal.enter_moment-requires-clause-room
enter_moment-requires-clause-room c =
    room_again c.args.self.now c.args.claim.now c.leave_moment.new.moments.items (vec_capacity c.leave_moment.new.moments) c.requires.index c.leave_moment.ensures.fewer c.leave_moment.ensures.capacity
