use Rattle.std.proofs.Common.{arith}
use Rattle.xl_table.proofs.PlaceLaws.{found_behind, found_none, room_behind}
use Rattle.xl_table.proofs.placing.find_in.Goals as goal

pub find_from-requires : goal.find_from-requires
find_from-requires c = omega (arith, room_behind c.args.pages.now c.count_whole-at.result, c.requires.room)

pub overflow_add-result : goal.overflow_add-result
overflow_add-result c = omega (arith, room_behind c.args.pages.now c.count_whole-at.result, c.count_front-front.ensures, c.in-Some.ensures.found.within, c.requires.room)

pub returns-in-Some-clause-found : goal.returns-in-Some-clause-found
returns-in-Some-clause-found c =
    found_behind c.args.claim.now c.in-Some.i c.count_front-front.result c.count_whole-at.result c.args.pages.now c.key_of-key.result c.requires.ordered c.requires.full c.key_of-key.ensures c.count_whole-at.ensures.count c.count_front-front.ensures c.in-Some.ensures.found

pub returns-in-None-clause-none : goal.returns-in-None-clause-none
returns-in-None-clause-none c = found_none c.args.claim.now c.count_whole-at.result c.args.pages.now c.key_of-key.result c.requires.ordered c.requires.full c.key_of-key.ensures c.count_whole-at.ensures.count c.in-None.ensures.none
