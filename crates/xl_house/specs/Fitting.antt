-- Deeds that the core takes.
use Rattle.xl_core.specs.Deeds.{AreFit}
use Rattle.xl_house.specs.Done.{deeds}
use Rattle.xl_house.specs.Lawful.{Law, found}

-- Each deed of the entry is one that may be done in the state that those before it left. What is given back is held. A
-- share that is made weaker comes to have no more than it has. If the break of a cache is answered, that cache is held,
-- its break runs, and no more is left of it than the break leaves. Who is taken out waits. A break is over only once its
-- deadline has come, and a client expires only once its lease has ended.
abbrev pub IsFitting : Law
IsFitting n s e t = AreFit n (found s) (deeds n s e.event)
