use Rattle.xl_front_nlm.proofs.LeftLaws.{cancels_take_out}
use Rattle.xl_front_nlm.proofs.call_laws.cancelled_locks_wait_no_more.Goals as goal

pub returns : goal.returns
returns c = cancels_take_out
