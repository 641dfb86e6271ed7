use Rattle.std.proofs.Common.{sym, ◌∙◌}
use Rattle.xl_core.proofs.WishLaws.{own_held, raised_sound, room_left}
use Rattle.xl_core.proofs.wishes.put_cache.Goals as goal

pub change-requires-clause-held : goal.change-requires-clause-held
change-requires-clause-held c = own_held c.args.wanted.now c.args.table.now c.in-Some.claim (sym c.in-Some.is ∙ c.requires.own)

pub change-requires-clause-sound : goal.change-requires-clause-sound
change-requires-clause-sound c = raised_sound c.in-Some.claim c.args.kind c.args.table.now c.requires.kept.sound

pub enter_cache-requires-clause-room : goal.enter_cache-requires-clause-room
enter_cache-requires-clause-room c = room_left c.args.table.now c.args.own c.in-None.is c.requires.room
