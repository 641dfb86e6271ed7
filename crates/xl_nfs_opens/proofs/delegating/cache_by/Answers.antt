use Rattle.std.proofs.Common.{rules}
use Rattle.xl_nfs_opens.proofs.CacheLaws.{cache_found, found_held}
use Rattle.xl_nfs_opens.proofs.delegating.cache_by.Goals as goal

pub returns-clause-value : goal.returns-clause-value
returns-clause-value c = rw c.in-Some.is (cache_found c.args.file c.in-Some.party c.args.core.now.claims c.deref.result.now c.cache_in.result (search rules) c.cache_in.ensures)

pub returns-clause-held : goal.returns-clause-held
returns-clause-held c = found_held c.args.file c.in-Some.party c.args.core.now.claims c.deref.result.now c.cache_in.result (search rules) c.cache_in.ensures
