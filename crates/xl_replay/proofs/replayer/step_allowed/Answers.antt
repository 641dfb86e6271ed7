use Rattle.std.proofs.Common.{rules, ◌≡◌, ◌∙◌, length, ap, arith, subst, sym}
use Rattle.xl_house.specs.State.{start_of}
use Rattle.xl_replay.specs.Replays.{AreMade, allowed_at}
use Rattle.xl_replay.proofs.ReplayLaws.{extends_so, first_of, step_enters, stepped_made}
use Rattle.xl_replay.proofs.replayer.step_allowed.Goals as goal

pub returns-clause-made : goal.returns-clause-made
returns-clause-made c =
    let before = c.args.house.now in
    let ready = c.allow.new.self in
    let after = c.step.new.self in
    let n = c.allowed_at.result in
    let head : after.head ≡ before.head = search rules in
    let is : n ≡ allowed_at c.args.allowed.now (length before.entries) = c.allowed_at.ensures ∙ ap (allowed_at c.args.allowed.now) (omega (arith, c.next_place-place.ensures.place)) in
    let entered = step_enters n c.args.event before.head ready.head before.entries ready.entries after.entries c.step.result (search rules) (search rules) (c.step.ensures.allowed n c.allow.ensures.left) in
    subst (λ h. AreMade (start_of h) after.entries c.args.allowed.now) (sym head)
    (stepped_made (start_of before.head) before.entries after.entries c.args.allowed.now n c.args.event c.step.result c.requires.takes c.requires.made is entered (search rules))

pub returns-clause-ok : goal.returns-clause-ok
returns-clause-ok c =
    let before = c.args.house.now in
    let ready = c.allow.new.self in
    let after = c.step.new.self in
    let n = c.allowed_at.result in
    let entered = step_enters n c.args.event before.head ready.head before.entries ready.entries after.entries c.step.result (search rules) (search rules) (c.step.ensures.allowed n c.allow.ensures.left) in
    extends_so before.entries after.entries _ n c.args.event c.step.result (first_of c.step.result _ _ entered) (search rules)
