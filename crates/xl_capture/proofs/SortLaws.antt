-- The order of rows is one, so std's sort gives them in it.
use Rattle.std.specs.Cmp.{IsStrictWeakOrder, IsTotalOrder}
use Rattle.std.proofs.lemmas.Cmp.{nat_cmp_total, nat_list_cmp_total, on_total, then_total}
use Rattle.std.proofs.lemmas.List.MinMax.{ranks_by}
use Rattle.xl_capture.specs.Rows.{class_of, range_key, row_cmp, row_before}
use Rattle.xl_capture.specs.declared.rows.Row.{Row}

row_cmp_total : IsTotalOrder row_cmp
unfolding row_cmp
row_cmp_total =
    then_total (on_total (λ (r : Row). r.file) nat_cmp_total)
    (then_total (on_total (λ (r : Row). class_of r.what) nat_cmp_total)
    (then_total (on_total (λ (r : Row). r.holder) nat_list_cmp_total) (on_total (λ (r : Row). range_key r.what) nat_list_cmp_total)))

pub rows_ranked : IsStrictWeakOrder row_before
rows_ranked = ranks_by row_cmp_total (λ (r : Row). r)
