use Rattle.std.proofs.Common.{length}
use Rattle.xl_spans.proofs.Looks.{one_look_before, one_look_behind}
use Rattle.xl_spans.proofs.counted.+mode_in.Goals as goal

pub returns-then-byte-span-clause-few : goal.returns-then-byte-span-clause-few
returns-then-byte-span-clause-few g t c =
    one_look_before c.args.steps.now c.look-span.new.steps c.mode_in.new.steps (length c.args.spans.now) (length c.before-rest.result.now) c.middle_of-middle.result
    c.look-span.ensures.step c.mode_in.ensures.more c.middle_of-middle.ensures.within c.middle_of-middle.ensures.before c.before-rest.ensures.len c.mode_in.ensures.few

pub returns-then-span-byte-clause-few : goal.returns-then-span-byte-clause-few
returns-then-span-byte-clause-few g t c =
    one_look_behind c.args.steps.now c.look-span.new.steps c.mode_in-then-span-byte.new.steps (length c.args.spans.now) (length c.behind-rest.result.now) c.middle_of-middle.result
    c.look-span.ensures.step c.mode_in-then-span-byte.ensures.more c.middle_of-middle.ensures.within c.middle_of-middle.ensures.behind c.behind-rest.ensures.len c.mode_in-then-span-byte.ensures.few
