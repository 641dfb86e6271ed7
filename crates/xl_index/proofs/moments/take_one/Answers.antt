use Rattle.std.proofs.Common.{ℕ, nat_lt, List, ap, ◌∙◌}
use Rattle.std.specs.List.{prefix_len}
use Rattle.xl_index.proofs.MomentLaws.{found_within, take_rising, take_counted}
use Rattle.xl_index.proofs.moments.take_one.Goals as goal

pub take_at-requires : goal.take_at-requires
take_at-requires c =
    record {
      place = found_within c.args.moments.now.items c.args.moment c.count_before-place.result c.requires.rising c.requires.some
          (c.count_before-place.ensures.count ∙ ap (λ (ms : List ℕ). prefix_len (λ m. nat_lt m c.args.moment) ms) c.as_slice.ensures.value);
    }

pub returns-clause-rising : goal.returns-clause-rising
returns-clause-rising c =
    take_rising c.args.moments.now.items c.take_at.new.moments.items c.args.moment c.count_before-place.result c.requires.rising c.requires.some
    (c.count_before-place.ensures.count ∙ ap (λ (ms : List ℕ). prefix_len (λ m. nat_lt m c.args.moment) ms) c.as_slice.ensures.value)
    c.take_at.ensures.items

pub returns-clause-fewer : goal.returns-clause-fewer
returns-clause-fewer c =
    take_counted c.args.moments.now.items c.take_at.new.moments.items c.args.moment c.count_before-place.result c.requires.rising c.requires.some
    (c.count_before-place.ensures.count ∙ ap (λ (ms : List ℕ). prefix_len (λ m. nat_lt m c.args.moment) ms) c.as_slice.ensures.value)
    c.take_at.ensures.items
