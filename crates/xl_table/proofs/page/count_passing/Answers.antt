use Rattle.std.proofs.Common.{rules}
use Rattle.std.proofs.lemmas.List.Sorted.{IsPartitionPoint-from_clause}
use Rattle.xl_table.specs.Pages.{passes}
use Rattle.xl_index.proofs.PartedLaws.{parted_by, point_is}
use Rattle.xl_table.proofs.page.count_passing.Goals as goal

pub returns-clause-count : goal.returns-clause-count
returns-clause-count c =
    let p = passes c.args.mark c.args.front.now in
    let claims = c.args.claims.now in
    let point = IsPartitionPoint-from_clause p _ _ c.partition_point.ensures.partitioned (parted_by p claims c.requires) (λ a r q k. search rules) in
    point_is p claims c.partition_point.result c.partition_point.ensures.bound point
