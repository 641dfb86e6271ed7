use Rattle.std.proofs.Common.{◌+◌, List, sym, ap, subst, ◌∙◌}
use Rattle.xl_spans.specs.declared.span.Span.{Span}
use Rattle.xl_spans.specs.Spans.{IsCanonical, mode_at}
use Rattle.xl_spans.proofs.Looks.{canonical_behind, mode_above, all_left}
use Rattle.xl_spans.proofs.counted.behind.Goals as goal

pub returns-clause-canonical : goal.returns-clause-canonical
returns-clause-canonical c =
    subst IsCanonical (sym (all_left c.args.spans.now (c.args.place + 1))) (canonical_behind c.args.spans.now (c.args.place + 1) c.requires.canonical)

pub returns-clause-mode : goal.returns-clause-mode
returns-clause-mode c =
    ap (λ (ss : List Span). mode_at ss c.args.byte) (all_left c.args.spans.now (c.args.place + 1))
    ∙ mode_above c.args.spans.now c.args.place c.args.span c.args.byte c.requires.canonical c.requires.there c.requires.past
