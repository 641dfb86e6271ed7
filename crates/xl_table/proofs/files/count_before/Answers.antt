use Rattle.std.proofs.Common.{Bool, nat_lt, rules}
use Rattle.std.proofs.lemmas.List.Sorted.{IsPartitionPoint-from_clause}
use Rattle.xl_table.specs.declared.files.OnFile.{OnFile}
use Rattle.xl_table.proofs.FileLaws.{before_parted}
use Rattle.xl_index.proofs.PartedLaws.{parted_by, point_is}
use Rattle.xl_table.proofs.files.count_before.Goals as goal

pub returns-clause-count : goal.returns-clause-count
returns-clause-count c =
    let p : OnFile → Bool = λ list. nat_lt list.file c.args.file in
    let lists = c.args.lists.now in
    let point = IsPartitionPoint-from_clause p _ _ c.partition_point.ensures.partitioned (parted_by p lists (before_parted c.args.file lists c.requires)) (λ a r q k. search rules) in
    point_is p lists c.partition_point.result c.partition_point.ensures.bound point
