use Rattle.std.proofs.Common.{◌+◌, List, ℕ, ap, ◌∙◌, Option, arith}
use Rattle.xl_base.specs.Lists.{sorted}
use Rattle.xl_matrix.specs.declared.claim.CacheKind.{CacheKind}
use Rattle.xl_matrix.specs.declared.claim.Claim.{Claim}
use Rattle.xl_core.specs.BreaksBegun.{told_before, recalls, begun_told}
use Rattle.xl_core.specs.BreaksInOrder.{row_before}
use Rattle.xl_core.specs.declared.breaks.Row.{Row}
use Rattle.xl_core.proofs.BreaksInOrderLaws.{recalls_sorted, rows_told, rows_many}
use Rattle.xl_core.proofs.breaks.tell_all.Goals as goal

pub tell-requires : goal.tell-requires
tell-requires c =
    let rows = c.deref.ensures.value ∙ c.in_ok-rows.ensures ∙ ap (λ (xs : List Row). sorted row_before xs) c.in_ok-rows_of.ensures in
    let many = rows_many c.args.names.now c.args.breaks.now c.deref.result.now rows in
    omega (arith, many, c.requires)

pub returns-clause-told : goal.returns-clause-told
returns-clause-told c =
    let rows = c.deref.ensures.value ∙ c.in_ok-rows.ensures ∙ ap (λ (xs : List Row). sorted row_before xs) c.in_ok-rows_of.ensures in
    c.in_ok-told.ensures.told ∙ ap (λ (bs : List (Claim × Option CacheKind)). begun_told c.args.last bs) (rows_told c.args.names.now c.args.breaks.now c.deref.result.now rows)

pub returns-clause-last : goal.returns-clause-last
returns-clause-last c =
    let rows = c.deref.ensures.value ∙ c.in_ok-rows.ensures ∙ ap (λ (xs : List Row). sorted row_before xs) c.in_ok-rows_of.ensures in
    c.in_ok-told.ensures.last
    ∙ ap (λ (bs : List (Claim × Option CacheKind)). c.args.last + recalls bs) (rows_told c.args.names.now c.args.breaks.now c.deref.result.now rows)
    ∙ ap (λ (n : ℕ). c.args.last + n) (recalls_sorted (told_before c.args.names.now) c.args.breaks.now)
