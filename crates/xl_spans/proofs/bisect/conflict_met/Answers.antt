use Rattle.std.proofs.Common.{sym, ap, ◌∙◌, arith}
use Rattle.std.specs.List.{find, slice_range}
use Rattle.xl_spans.specs.Spans.{excludes, first_conflict}
use Rattle.xl_spans.proofs.Chains.{canonical_chain_all}
use Rattle.xl_spans.proofs.InPlace.{places_in_order}
use Rattle.xl_spans.proofs.Search.{conflict_met}
use Rattle.xl_spans.proofs.bisect.conflict_met.Goals as goal

pub part_of-requires-clause-order : goal.part_of-requires-clause-order
part_of-requires-clause-order c =
    let order = places_in_order c.args.first c.args.last c.args.spans.now (omega (arith, c.requires.ends)) c.requires.canonical in
    omega (arith, order, c.ending_before-start.ensures.count, c.beginning_by-end.ensures.count)

pub returns : goal.returns
unfolding first_conflict
returns c =
    let met = conflict_met c.args.first c.args.last c.args.mode c.args.spans.now 0 c.requires.ends (canonical_chain_all c.args.spans.now c.requires.canonical) in
    let part = c.part_of.ensures ∙ (λ i. slice_range c.args.spans.now (c.ending_before-start.ensures.count i) (c.beginning_by-end.ensures.count i)) in
    c.first_excluding.ensures ∙ ap (find (λ s. excludes c.args.mode s.mode)) part ∙ sym met
