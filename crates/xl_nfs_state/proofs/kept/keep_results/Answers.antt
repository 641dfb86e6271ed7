use Rattle.std.proofs.Common.{rules}
use Rattle.std.specs.List.{list_any}
use Rattle.indexmap.proofs.CallerLemmas.{filter-RetainsPairs}
use Rattle.xl_nfs_state.specs.State.{is_owner}
use Rattle.xl_nfs_state.proofs.kept.keep_results.Goals as goal

pub returns : goal.returns
returns c = filter-RetainsPairs _ (λ e. list_any (is_owner e.0) c.args.owners.now) _ (λ k v b w f h. search rules) _ _ c.retain.ensures.filtered
