use Rattle.std.proofs.Common.{rules, is_some}
use Rattle.indexmap.proofs.CallerLemmas.{filter-RetainsPairs}
use Rattle.xl_smb_state.proofs.rows.close_up.Goals as goal

pub returns : goal.returns
returns g c = filter-RetainsPairs _ (λ e. is_some e.1) _ (λ k v b w f h. search rules) _ _ c.retain.ensures.filtered
