use Rattle.std.proofs.Common.{ℕ, nat_le, List, ap, ◌∙◌}
use Rattle.std.specs.List.{prefix_len}
use Rattle.xl_index.proofs.MomentLaws.{put_rising}
use Rattle.xl_index.proofs.moments.put.Goals as goal

pub returns-clause-rising : goal.returns-clause-rising
returns-clause-rising c =
    put_rising c.args.moments.now.items c.put_at.new.moments.items c.args.moment c.count_upto-place.result c.requires.rising
    (c.count_upto-place.ensures.count ∙ ap (λ (ms : List ℕ). prefix_len (λ m. nat_le m c.args.moment) ms) c.as_slice.ensures.value)
    c.put_at.ensures.items
