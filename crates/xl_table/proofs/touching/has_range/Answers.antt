use Rattle.std.proofs.Common.{◌+◌, ◌<◌, ◌^◌, List, length, drop, sym, subst}
use Rattle.xl_base.specs.Lists.{Pairwise}
use Rattle.xl_matrix.specs.declared.claim.Claim.{Claim}
use Rattle.xl_table.specs.Order.{goes_first}
use Rattle.xl_table.specs.Pages.{paged, AreFull}
use Rattle.xl_table.proofs.TouchLaws.{left_at, first_ordered, first_room, range_found, range_later}
use Rattle.xl_table.proofs.touching.has_range.Goals as goal

pub has_range_in-requires-clause-ordered : goal.has_range_in-requires-clause-ordered
has_range_in-requires-clause-ordered c =
    let left = left_at c.args.owner c.args.lists.now c.loop-list.list-index c.list-item.result c.loop-list-test.true c.list-item.is c.loop-list.invariant in
    subst (λ (ps : List (List Claim)). Pairwise goes_first (paged ps)) (sym c.deref.ensures.value)
    (first_ordered c.args.owner c.args.lists.now (drop (c.loop-list.list-index + 1) c.args.lists.now) c.list-item.result left)

pub has_range_in-requires-clause-room : goal.has_range_in-requires-clause-room
has_range_in-requires-clause-room c =
    let left = left_at c.args.owner c.args.lists.now c.loop-list.list-index c.list-item.result c.loop-list-test.true c.list-item.is c.loop-list.invariant in
    subst (λ (ps : List (List Claim)). length (paged ps) < 2 ^ 32) (sym c.deref.ensures.value)
    (first_room c.args.owner c.args.lists.now (drop (c.loop-list.list-index + 1) c.args.lists.now) c.list-item.result left)

pub has_range_in-requires-clause-full : goal.has_range_in-requires-clause-full
has_range_in-requires-clause-full c =
    let left = left_at c.args.owner c.args.lists.now c.loop-list.list-index c.list-item.result c.loop-list-test.true c.list-item.is c.loop-list.invariant in
    subst (λ (ps : List (List Claim)). AreFull ps) (sym c.deref.ensures.value) left.filed.3

pub returns-then-has_range_in : goal.returns-then-has_range_in
returns-then-has_range_in c =
    let left = left_at c.args.owner c.args.lists.now c.loop-list.list-index c.list-item.result c.loop-list-test.true c.list-item.is c.loop-list.invariant in
    range_found c.args.owner c.args.lists.now (drop (c.loop-list.list-index + 1) c.args.lists.now) c.list-item.result c.has_range_in.result left
    (rw c.deref.ensures.value at c.has_range_in.ensures) c.if-has_range_in.true

pub loop-list-preserved : goal.loop-list-preserved
loop-list-preserved c =
    let left = left_at c.args.owner c.args.lists.now c.loop-list.list-index c.list-item.result c.loop-list-test.true c.list-item.is c.loop-list.invariant in
    range_later c.args.owner c.args.lists.now (drop (c.loop-list.list-index + 1) c.args.lists.now) c.list-item.result c.has_range_in.result left
    (rw c.deref.ensures.value at c.has_range_in.ensures) c.if-has_range_in.false
