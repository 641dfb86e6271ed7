use Rattle.std.proofs.Common.{◌∙◌, rules, tests}
use Rattle.std.proofs.lemmas.Iterator.{YieldsList-from_slice}
use Rattle.std.proofs.lemmas.Iterator.Search.{find_from_yields_List}
use Rattle.xl_spans.specs.Spans.{excludes}
use Rattle.xl_spans.proofs.bisect.first_excluding.Goals as goal

pub returns : goal.returns
returns c =
    c.copied.ensures ∙ find_from_yields_List (λ s. excludes c.args.mode s.mode) _ _ c.find.result c.find.ensures.ran (YieldsList-from_slice c.args.spans.now c.iter.ensures.rest) (λ x b q k. search (rules, tests))
