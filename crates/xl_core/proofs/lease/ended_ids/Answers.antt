use Rattle.std.proofs.Common.{map, rules}
use Rattle.std.specs.List.{filter}
use Rattle.xl_core.specs.Leases.{has_ended}
use Rattle.xl_core.proofs.LeaseLaws.{one_more}
use Rattle.xl_core.proofs.lease.ended_ids.Goals as goal

pub leases-preserved : goal.leases-preserved
leases-preserved c =
    one_more c.args.now (c.in-Some.id.now, c.in-Some.until.now) c.next.new.self c.leases.ids.items (map (λ l. l.0) (filter (has_ended c.args.now) c.args.leases.now.entries)) c.push_ended.new.ids.items (search rules) c.in_ok-push_ended.ensures
