use Rattle.std.proofs.Common.{Bool, List, rules}
use Rattle.std.proofs.lemmas.List.Sorted.{IsPartitionPoint-from_clause}
use Rattle.xl_matrix.specs.declared.claim.Claim.{Claim}
use Rattle.xl_table.specs.Pages.{passes, ends}
use Rattle.xl_index.proofs.PartedLaws.{parted_by, point_is}
use Rattle.xl_table.proofs.PageLaws.{pages_parted}
use Rattle.xl_table.proofs.pages.count_whole.Goals as goal

pub returns-clause-count : goal.returns-clause-count
returns-clause-count c =
    let p : List Claim → Bool = ends (passes c.args.mark c.args.front.now) in
    let pages = c.args.pages.now in
    let point = IsPartitionPoint-from_clause p _ _ c.partition_point.ensures.partitioned (parted_by p pages (pages_parted (passes c.args.mark c.args.front.now) pages c.requires.full c.requires.parted)) (λ a r q k. search rules) in
    point_is p pages c.partition_point.result c.partition_point.ensures.bound point
