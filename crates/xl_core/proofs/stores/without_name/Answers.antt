use Rattle.std.proofs.Common.{◌≡◌, true, false, not, subst, sym, ◌∙◌}
use Rattle.xl_base.specs.declared.stable.Recorded.{Recorded}
use Rattle.xl_base.specs.Stable.{same_name, is_recordable, is_recorded}
use Rattle.xl_grace.proofs.GraceLaws.{addable}
use Rattle.xl_core.proofs.stores.without_name.Goals as goal

pub add-requires : goal.add-requires
add-requires c =
    let name : Recorded = c.held-item.result in
    let held = c.names.shorter.names in
    let is_new = addable (λ one. not (same_name one c.args.name.now)) c.names-names.result.now held c.names.held-index name c.names-names.ensures.recordable c.names-test.true c.held-item.is (sym c.is_other.ensures ∙ c.if-is_other.true) c.names.invariant.1 in
    subst (λ (one : Recorded). (is_recordable one ≡ true) × (is_recorded one held ≡ false)) (sym c.in_ok-copy.ensures) is_new
