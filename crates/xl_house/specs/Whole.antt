-- The state that the machine's parts make up.
use Rattle.xl_base.specs.declared.journal.Exports.{Exports}
use Rattle.xl_house.specs.Machine.{Ground}
use Rattle.xl_house.specs.State.{Whole}
use Rattle.xl_house.specs.declared.frames.Ground.{Ground as GroundHeld}
use Rattle.xl_house.specs.declared.machine.Machine.{Machine}

-- beside what is exported
abbrev pub whole_of : Exports → Machine → Whole
whole_of exports m = record { exports = exports; place = m.place; connections = m.connections.items; paused = m.paused; front = m.layers.front; core = m.layers.core }

-- what is exported, and the open connections, as the code has them
abbrev pub ground_of : GroundHeld → Ground
ground_of g = (g.exports.now, g.connections.now)
