use Rattle.std.proofs.Common.{not, rules}
use Rattle.std.specs.Prelude.{bytes_eq}
use Rattle.indexmap.proofs.CallerLemmas.{filter-RetainsPairs}
use Rattle.xl_core.specs.Leases.{without_lease}
use Rattle.xl_core.proofs.lease.drop_lease.Goals as goal

pub returns : goal.returns
unfolding without_lease
returns c = filter-RetainsPairs _ (λ e. not (bytes_eq c.args.client.now e.0)) _ (λ k v b w f h. search rules) _ _ c.retain.ensures.filtered
