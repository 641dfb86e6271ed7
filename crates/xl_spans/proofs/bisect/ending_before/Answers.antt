use Rattle.std.proofs.Common.{rules}
use Rattle.std.proofs.lemmas.List.Sorted.{IsPartitionPoint-from_clause}
use Rattle.xl_spans.specs.Spans.{ends_before}
use Rattle.xl_spans.proofs.Places.{ends_parted, point_is}
use Rattle.xl_spans.proofs.bisect.ending_before.Goals as goal

pub returns-clause-count : goal.returns-clause-count
returns-clause-count c =
    let spans = c.args.spans.now in
    let point = IsPartitionPoint-from_clause (ends_before c.args.byte) _ _ c.partition_point.ensures.partitioned (ends_parted c.args.byte spans c.requires) (λ a r q k. search rules) in
    point_is (ends_before c.args.byte) spans c.partition_point.result c.partition_point.ensures.bound point
