use Rattle.std.proofs.Common.{rules, is_some}
use Rattle.indexmap.proofs.CallerLemmas.{filter-RetainsPairs}
use Rattle.slab.specs.Slab.{get}
use Rattle.xl_nfs_state.proofs.filed.keep_entries.Goals as goal

pub returns : goal.returns
returns g c = filter-RetainsPairs _ (λ e. is_some (get c.args.rows.now e.1)) _ (λ k v b w f h. search rules) _ _ c.retain.ensures.filtered
