use Rattle.std.proofs.Common.{sym, ap, subst, ◌∙◌}
use Rattle.xl_spans.specs.Spans.{mode_at, IsCanonical}
use Rattle.xl_spans.proofs.Bytes.{relocked_mode}
use Rattle.xl_spans.proofs.Chains.{canonical_ranges, relocked_canonical}
use Rattle.xl_spans.proofs.relock.relock.Goals as goal

pub returns-clause-bytes : goal.returns-clause-bytes
returns-clause-bytes c = λ x.
    ap (λ ss. mode_at ss x) c.cut_and_join.ensures.spans
    ∙ relocked_mode c.args.items.now.items c.args.first c.args.last c.args.mode x c.requires.ends (canonical_ranges c.args.items.now.items c.requires.canonical)

pub returns-clause-canonical : goal.returns-clause-canonical
returns-clause-canonical c =
    subst IsCanonical (sym c.cut_and_join.ensures.spans) (relocked_canonical c.args.items.now.items c.args.first c.args.last c.args.mode c.requires.ends c.requires.canonical)
