use Rattle.std.proofs.Common.{sym, ◌∙◌, arith}
use Rattle.xl_core.specs.Judge.{held_then}
use Rattle.xl_core.specs.Stores.{bytes_with}
use Rattle.xl_core.proofs.LimitLaws.{grant_room}
use Rattle.xl_core.proofs.RowLaws.{held_less}
use Rattle.xl_core.proofs.judge.check_room.Goals as goal

pub returns-in-None-clause-fits : goal.returns-in-None-clause-fits
returns-in-None-clause-fits c =
    let p = c.args.plea.now in
    let all = held_then p.beside c.args.claim.now c.args.parts.now.table in
    let whole = bytes_with p.unrecorded c.args.parts.now.stable in
    let room = grant_room c.args.left.now p.rows all whole p.kept (sym (c.passed_by_grant.ensures all whole c.in_ok-held.ensures c.bytes_with-bytes.ensures) ∙ c.in-None.is) in
    λ _. omega (arith, c.requires, held_less p.beside c.args.claim.now c.args.parts.now.table, room.1)
