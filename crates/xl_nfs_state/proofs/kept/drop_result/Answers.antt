use Rattle.std.proofs.Common.{rules, not, ◌==◌}
use Rattle.indexmap.proofs.CallerLemmas.{filter-RetainsPairs}
use Rattle.xl_nfs_state.proofs.kept.drop_result.Goals as goal

pub returns : goal.returns
returns c = filter-RetainsPairs _ (λ e. not (c.args.owner == e.0)) _ (λ k v b w f h. search rules) _ _ c.retain.ensures.filtered
