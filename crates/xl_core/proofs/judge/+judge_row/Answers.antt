use Rattle.std.proofs.Common.{rules, Ok, List, ap, subst, sym}
use Rattle.std.specs.List.{AllByRecursion}
use Rattle.xl_matrix.specs.declared.claim.Claim.{Claim}
use Rattle.xl_wait.specs.declared.waiter.Waiter.{Waiter}
use Rattle.xl_core.specs.InFront.{in_front_of, IsInLine}
use Rattle.xl_core.specs.Whole.{state_of}
use Rattle.xl_core.proofs.DoorLaws.{head_rest, none_left, rest_row, rest_alone, came_behind, came_last, back_state, ahead_state}
use Rattle.xl_core.proofs.LineLaws.{rest_line}
use Rattle.xl_core.proofs.PassageLaws.{known_first}
use Rattle.xl_core.proofs.judge.+judge_row.Goals as goal

pub returns-in_default-clause-state : goal.returns-in_default-clause-state
returns-in_default-clause-state t c = none_left c.args.claims.now (state_of c.args.parts.now) c.in_default.len_below

pub judge_one-requires-clause-known : goal.judge_one-requires-clause-known
judge_one-requires-clause-known t c = known_first (in_front_of c.args.front c.args.parts.now.queue) c.args.known (state_of c.args.parts.now) c.args.claims.now _ _ (head_rest c.args.claims.now _ c.in-len1-up.len_at_least) c.requires.known

pub judge_row-requires : goal.judge_row-requires
judge_row-requires t c =
    let is = head_rest c.args.claims.now _ c.in-len1-up.len_at_least in (
      search rules,
      (
        rest_line c.args.front c.args.parts.now.queue c.judge_one.new.parts.queue c.args.claims.now _ _ is c.in_ok-ruling.ensures.queue c.requires.line,
        (
          tt,
          (
            rest_row c.args.claims.now _ _ is c.requires.row,
            rest_alone c.args.parts.now c.judge_one.new.parts c.args.claims.now _ _ c.in_ok-ruling.field-0 is c.requires.row c.requires.party c.in_ok-ruling.ensures.state c.in_default-2.is,
          ),
        ),
      ),
    )

pub take_back-requires : goal.take_back-requires
take_back-requires t c =
    let is = head_rest c.args.claims.now _ c.in-len1-up.len_at_least in
    let behind = came_behind c.args.parts.now c.judge_one.new.parts c.judge_row.new.parts (in_front_of c.args.front c.judge_one.new.parts.queue) c.args.left.now _ c.args.claims.now _ _ c.in_ok-ruling.field-0 c.in_ok-ruling-2.field-0 c.in-Some-2.ruling
    is c.requires.row c.in_ok-ruling.ensures.state c.in_default-2.is c.in_ok-ruling-2.ensures.stop c.in_ok-ruling-2.ensures.state c.in-Some-2.is in
    record { last = came_last _ c.args.parts.now.table c.judge_row.new.parts.table (c.in_ok-ruling.ensures.kept (ap Ok c.in_default-2.is)) behind }

pub returns-in-Some-2-clause-state : goal.returns-in-Some-2-clause-state
returns-in-Some-2-clause-state t c =
    let is = head_rest c.args.claims.now _ c.in-len1-up.len_at_least in
    let behind = came_behind c.args.parts.now c.judge_one.new.parts c.judge_row.new.parts (in_front_of c.args.front c.judge_one.new.parts.queue) c.args.left.now _ c.args.claims.now _ _ c.in_ok-ruling.field-0 c.in_ok-ruling-2.field-0 c.in-Some-2.ruling
    is c.requires.row c.in_ok-ruling.ensures.state c.in_default-2.is c.in_ok-ruling-2.ensures.stop c.in_ok-ruling-2.ensures.state c.in-Some-2.is in
    back_state c.args.parts.now c.judge_one.new.parts c.judge_row.new.parts c.take_back.new.self _ _ c.in_ok-ruling.field-0 c.in_ok-ruling-2.field-0 c.in-Some-2.ruling
    (c.take_back.ensures.before c.args.parts.now.table behind)
    c.in_ok-ruling.ensures.state c.in_default-2.is c.in_ok-ruling-2.ensures.state c.in-Some-2.is

pub returns-clause-state : goal.returns-clause-state
returns-clause-state t c =
    let is = head_rest c.args.claims.now _ c.in-len1-up.len_at_least in
    ahead_state c.args.parts.now c.judge_one.new.parts c.judge_row.new.parts c.args.claims.now _ _ c.in_ok-ruling.field-0 c.in_ok-ruling-2.field-0
    is c.in_ok-ruling.ensures.state c.in_default-2.is c.in_ok-ruling-2.ensures.state c.in_default-3.is
