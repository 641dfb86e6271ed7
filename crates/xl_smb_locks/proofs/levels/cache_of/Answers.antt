use Rattle.std.proofs.Common.{◌&&◌, List, ap, ◌∙◌}
use Rattle.std.specs.Prelude.{◌==◌}
use Rattle.std.specs.List.{filter}
use Rattle.xl_matrix.specs.declared.claim.Claim.{Claim}
use Rattle.xl_table.specs.Held.{is_cache}
use Rattle.xl_smb_locks.proofs.LevelLaws.{cache_found, cache_held}
use Rattle.xl_smb_locks.proofs.levels.cache_of.Goals as goal

pub returns-clause-value : goal.returns-clause-value
returns-clause-value c =
    cache_found c.args.file c.args.party c.args.core.now.claims c.deref.result.now c.find_of-found.result
    (c.deref.ensures.value ∙ c.in_ok-caches.ensures ∙ ap (λ (cs : List Claim). filter (λ (d : Claim). (d.file == c.args.file) && is_cache d.what) cs) c.table.ensures)
    c.find_of-found.ensures

pub returns-clause-held : goal.returns-clause-held
returns-clause-held c = cache_held c.args.file c.args.party c.args.core.now.claims c.find_of-found.result (returns-clause-value c)
