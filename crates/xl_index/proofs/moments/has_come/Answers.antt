use Rattle.std.proofs.Common.{ℕ, nat_le, nat_lt, List, sym, ap, subst, ◌∙◌, drop, get_or, arith}
use Rattle.std.proofs.lemmas.List.{nil_from_length}
use Rattle.xl_index.specs.Moments.{passing, AreRising}
use Rattle.xl_index.proofs.MomentLaws.{first_come, row_read}
use Rattle.xl_index.proofs.moments.has_come.Goals as goal

pub returns-in-empty : goal.returns-in-empty
returns-in-empty c =
    sym (ap (λ (ms : List ℕ). nat_lt 0 (passing (λ m. nat_le m c.args.now.0) ms)) (nil_from_length c.args.moments.now (omega (arith, c.in-empty.len_below))))

pub returns-in-len1-up : goal.returns-in-len1-up
returns-in-len1-up c =
    let ms = c.args.moments.now in
    let row = row_read ms 0 (omega (arith, c.in-len1-up.len_at_least)) in
    first_come c.args.now.0 (get_or ms 0 0) (drop 1 ms) (subst AreRising row c.requires)
    ∙ ap (λ (ns : List ℕ). nat_lt 0 (passing (λ m. nat_le m c.args.now.0) ns)) (sym row)
