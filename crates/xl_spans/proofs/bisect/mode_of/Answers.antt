use Rattle.std.proofs.Common.{sym, ◌∙◌}
use Rattle.std.proofs.lemmas.Bool.{le-leb, lt-leb}
use Rattle.xl_spans.proofs.Search.{mode_there, mode_past}
use Rattle.xl_spans.proofs.bisect.mode_of.Goals as goal

pub returns-then-span-byte : goal.returns-then-span-byte
returns-then-span-byte c =
    let span = c.in_ok-span.span.now in
    let found = mode_there c.args.spans.now c.args.byte c.ending_before.result span c.requires c.ending_before.ensures.count c.in_ok-span.ensures.lookup.3.0 c.in_ok-span.ensures.lookup.1 in
    sym (rw (le-leb span.first c.args.byte c.if-span-byte.true) at found)

pub returns-else-span-byte : goal.returns-else-span-byte
returns-else-span-byte c =
    let span = c.in_ok-span.span.now in
    let found = mode_there c.args.spans.now c.args.byte c.ending_before.result span c.requires c.ending_before.ensures.count c.in_ok-span.ensures.lookup.3.0 c.in_ok-span.ensures.lookup.1 in
    sym (rw (lt-leb span.first c.args.byte c.if-span-byte.false) at found)

pub returns-in_err-span : goal.returns-in_err-span
returns-in_err-span c =
    c.from_residual.ensures ∙ sym (mode_past c.args.spans.now c.args.byte c.ending_before.result c.requires c.ending_before.ensures.count c.in_err-span.ensures.lookup.3)
