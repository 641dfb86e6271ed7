use Rattle.std.proofs.Common.{rules}
use Rattle.std.proofs.lemmas.Map.Made.{map_same_pairs}
use Rattle.xl_wait.specs.Waiting.{closed_up}
use Rattle.xl_wait.proofs.FileLaws.{closed_all, closed_each}
use Rattle.xl_wait.proofs.files.close_all.Goals as goal

pub returns-clause-places : goal.returns-clause-places
returns-clause-places c = closed_all c.args.queues.now c.retain.new.self c.args.at (map_same_pairs _ (closed_up c.args.at) _ (λ k v b w f' t. search rules) _ _ c.retain.ensures.filtered)

pub returns-clause-each : goal.returns-clause-each
returns-clause-each c = closed_each c.args.queues.now c.retain.new.self c.args.at (map_same_pairs _ (closed_up c.args.at) _ (λ k v b w f' t. search rules) _ _ c.retain.ensures.filtered)
