use Rattle.std.proofs.Common.{◌≡◌, ℕ, List, take, Option, sym, subst, rules, tests}
use Rattle.std.specs.declared.iter.Take.{Take}
use Rattle.std.specs.Iterator.Adapters.{take_source, take_count, take_steps}
use Rattle.std.proofs.lemmas.Iterator.{YieldsList, YieldsList-from_take}
use Rattle.std.proofs.lemmas.Iterator.Consumers.{map_from_collect}
use Rattle.std.proofs.lemmas.Iterator.Splits.{YieldsList-from_slice_split}
use Rattle.xl_capture.proofs.capture.words_of.Goals as goal

-- the first items of an iterator
first_of : {S A B : Type 0} {steps : S → Option A → S → Type 0} {v : A → B} {ys : List B} {s : Take S} (n : ℕ) (source : S) → take_source s ≡ source → YieldsList steps v source ys → take_count s ≡ n → YieldsList (take_steps steps) v s (take n ys)
first_of {S} {A} {B} {steps} {v} {ys} n source is all count = YieldsList-from_take {steps = steps} n (subst (λ (x : S). YieldsList steps v x ys) (sym is) all) count

pub returns : goal.returns
returns c = map_from_collect _ c.collect.ensures.ran (first_of 5 c.split.result c.take.ensures.source (YieldsList-from_slice_split _ _ c.args.line.now c.split.ensures.rest c.split.ensures.done c.split.ensures.closure (λ x r q k. search (rules, tests))) c.take.ensures.count)
