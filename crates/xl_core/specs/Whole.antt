-- The state that the core's parts make up.
use Rattle.xl_core.specs.State.{CoreState}
use Rattle.xl_core.specs.Stores.{made_of}
use Rattle.xl_core.specs.declared.parts.Parts.{Parts}

abbrev pub state_of : Parts → CoreState
state_of p = record { claims = p.table; waiters = p.queue; names = p.names; stable = p.stable; grace = p.grace; clock = p.clock; times = p.times; leases = p.leases.entries; counter = p.counter; made = made_of p.failed p.given.items; failed = p.failed; given = p.given.items }
