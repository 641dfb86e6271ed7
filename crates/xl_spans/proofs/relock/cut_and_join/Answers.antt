use Rattle.std.proofs.Common.{◌≡◌, refl, ◌+◌, ◌-◌, ◌^◌, min, take, drop, ◌++◌, arith}
use Rattle.std.specs.List.{prefix_len}
use Rattle.xl_spans.specs.Spans.{ends_before, begins_by, left_part, right_part, listed, runs}
use Rattle.xl_spans.proofs.InPlace.{touched, rest_far, relocked_by_parts}
use Rattle.xl_spans.proofs.relock.cut_and_join.Goals as goal

pub returns-clause-spans : goal.returns-clause-spans
returns-clause-spans c =
    let ss = c.args.items.now.items in
    let f = c.args.first in
    let l = c.args.last in
    let t = min (l + 1) (2 ^ 64 - 1) in
    let places = c.touched_places-start.ensures in
    let below = rw c.deref.ensures.value at places.below in
    let far = rest_far ss l (2 ^ 64) t (omega arith) refl c.requires.canonical below in
    let parts : listed c.pieces-left.result.0 c.pieces-left.result.1 c.pieces-left.result.2 ≡ runs (listed (left_part f (touched (f - 1) t ss)) c.asked_span-asked.result (right_part l (touched (f - 1) t ss))) = cc in
    let put : c.replace.new.items.items ≡ take (prefix_len (ends_before (f - 1)) ss) ss ++ (listed c.pieces-left.result.0 c.pieces-left.result.1 c.pieces-left.result.2 ++ drop (prefix_len (begins_by t) ss) ss) = cc in
    relocked_by_parts ss c.replace.new.items.items f l t c.args.mode c.asked_span-asked.result c.pieces-left.result.0 c.pieces-left.result.1 c.pieces-left.result.2 c.requires.ends (omega arith) (omega arith) c.requires.canonical far c.asked_span-asked.ensures parts put
