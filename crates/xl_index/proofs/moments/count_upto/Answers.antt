use Rattle.std.proofs.Common.{ℕ, Bool, nat_le, rules}
use Rattle.std.proofs.lemmas.List.Sorted.{IsPartitionPoint-from_clause}
use Rattle.xl_index.proofs.MomentLaws.{upto_parted}
use Rattle.xl_index.proofs.PartedLaws.{parted_by, point_is}
use Rattle.xl_index.proofs.moments.count_upto.Goals as goal

pub returns-clause-count : goal.returns-clause-count
returns-clause-count c =
    let p : ℕ → Bool = λ m. nat_le m c.args.moment in
    let moments = c.args.moments.now in
    let point = IsPartitionPoint-from_clause p _ _ c.partition_point.ensures.partitioned (parted_by p moments (upto_parted c.args.moment moments c.requires)) (λ a r q k. search rules) in
    point_is p moments c.partition_point.result c.partition_point.ensures.bound point
