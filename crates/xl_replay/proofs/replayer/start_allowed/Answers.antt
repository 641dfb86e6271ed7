use Rattle.std.proofs.Common.{rules, ◌≡◌, ◌∙◌, ap, length, sym, arith}
use Rattle.xl_house.specs.State.{start_of}
use Rattle.xl_house.specs.Journals.{replay}
use Rattle.xl_replay.specs.Replays.{allowed_at}
use Rattle.xl_replay.proofs.ReplayLaws.{ended_orderly, never_full, spent_all, started_events, started_made, started_some}
use Rattle.xl_replay.proofs.replayer.start_allowed.Goals as goal

pub returns-clause-made : goal.returns-clause-made
returns-clause-made c =
    let ready = c.allow.new.self in
    let n = c.allowed_at.result in
    let at : n ≡ allowed_at c.args.allowed.now (length ready.entries) = c.allowed_at.ensures ∙ ap (allowed_at c.args.allowed.now) (omega (arith, c.next_place-place.ensures.place, ap (λ h. length h.entries) c.allow.ensures.same)) in
    started_made ready c.args.allowed.now n c.restart.result (search rules) at (started_some n (replay (start_of ready.head) ready.entries) _ _ c.restart.result c.allow.ensures.left c.restart.ensures.keeper) c.restart.ensures.ok

pub returns-clause-entered : goal.returns-clause-entered
returns-clause-entered c = search (rules, started_events c.args.house c.restart.result (search rules))

pub returns-clause-full : goal.returns-clause-full
returns-clause-full c = never_full c.allow.new.self c.restart.result (search rules) (search rules) c.restart.ensures.full

pub returns-clause-failed : goal.returns-clause-failed
returns-clause-failed c =
    let is : allowed_at c.args.allowed.now (length c.args.house.entries) ≡ c.allowed_at.result = ap (allowed_at c.args.allowed.now) (omega (arith, c.next_place-place.ensures.place)) ∙ sym c.allowed_at.ensures in
    spent_all c.allowed_at.result (allowed_at c.args.allowed.now (length c.args.house.entries)) _ c.restart.result c.allow.ensures.left is c.restart.ensures.spent

pub returns-clause-orderly : goal.returns-clause-orderly
returns-clause-orderly c = ended_orderly c.restart.result c.restart.ensures.legal
