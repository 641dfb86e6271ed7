use Rattle.xl_core.proofs.HeldCaches.{cache_entered, cache_changed, cache_weakened}
use Rattle.xl_core.proofs.law.caches_may_be_held.Goals as goal

pub returns-clause-entered : goal.returns-clause-entered
returns-clause-entered c = cache_entered

pub returns-clause-raised : goal.returns-clause-raised
returns-clause-raised c = cache_changed

pub returns-clause-weakened : goal.returns-clause-weakened
returns-clause-weakened c = cache_weakened
