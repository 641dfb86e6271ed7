use Rattle.xl_core.specs.Whole.{state_of}
use Rattle.xl_core.proofs.UnsettledLaws.{removed_noted}
use Rattle.xl_core.proofs.ticking.lapse.Goals as goal

pub returns-in-None-clause-held_up : goal.returns-in-None-clause-held_up
returns-in-None-clause-held_up g c = removed_noted c.args.unsettled.now c.note.new.unsettled (state_of c.args.parts.now) c.args.cache.now c.remove.new.self c.note.ensures c.remove.ensures c.requires.held_up
