use Rattle.std.proofs.Common.{◌≡◌, ℕ, ◌<◌, List, length, get_or, set, ap, ◌∙◌, arith}
use Rattle.std.proofs.Math.Numerals.{suc-eq-add-one}
use Rattle.xl_wait.specs.Waiting.{nearer}
use Rattle.xl_wait.proofs.FileLaws.{done_to, done_next, all_done, as_long}
use Rattle.xl_wait.proofs.files.bring_nearer.Goals as goal

within : (g : ℕ → ℕ) (i n : ℕ) (xs ys : List ℕ) → ys ≡ done_to g i xs → i < n → n ≡ length ys → i < length xs
within g i n xs ys is below all = omega (arith, below, all, ap (λ (zs : List ℕ). length zs) is, as_long g i xs)

pub places-smaller : goal.places-smaller
places-smaller c = omega (arith, within (nearer c.args.at) c.places.i (length c.as_slice.result.now) c.args.places.now.items c.places.places.items c.places.invariant.1 c.places-test.true (ap (λ (zs : List ℕ). length zs) c.as_slice.ensures.value))

pub places-preserved : goal.places-preserved
places-preserved c =
    let g : ℕ → ℕ = nearer c.args.at in
    let i : ℕ = c.places.i in
    let xs : List ℕ = c.args.places.now.items in
    let ys : List ℕ = c.places.places.items in
    let below : i < length xs = within g i (length c.as_slice.result.now) xs ys c.places.invariant.1 c.places-test.true (ap (λ (zs : List ℕ). length zs) c.as_slice.ensures.value) in (
      omega (arith, below),
      ap (λ (v : ℕ). set ys i v) (c.nearer.ensures ∙ ap g c.index.ensures)
          ∙ ap (λ (zs : List ℕ). set zs i (g (get_or zs i c.index.result.now))) c.places.invariant.1
          ∙ done_next g i c.index.result.now xs below
          ∙ ap (λ (k : ℕ). done_to g k xs) (suc-eq-add-one i),
    )

pub returns : goal.returns
returns c =
    let xs : List ℕ = c.args.places.now.items in
    let end : c.places.i ≡ length xs = omega (arith, c.places-test.false, ap (λ (zs : List ℕ). length zs) c.as_slice.ensures.value, c.places.invariant.0, ap (λ (zs : List ℕ). length zs) c.places.invariant.1, as_long (nearer c.args.at) c.places.i xs) in
    c.places.invariant.1 ∙ ap (λ (k : ℕ). done_to (nearer c.args.at) k xs) end ∙ all_done (nearer c.args.at) xs
