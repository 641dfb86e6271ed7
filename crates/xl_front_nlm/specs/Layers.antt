-- The front and the core, as a call that was given them left them.
use Rattle.std.specs.Borrow.{MutBor}

-- the front afterwards
abbrev pub front_of : {F C R : Type 0} → MutBor F × (MutBor C × R) → F
front_of parts = parts.0.now

-- the core afterwards
abbrev pub core_of : {F C R : Type 0} → MutBor F × (MutBor C × R) → C
core_of parts = parts.1.0.now
