use Rattle.std.proofs.Common.{◌≡◌, true, false, subst, sym, ◌∙◌}
use Rattle.xl_base.specs.declared.stable.Recorded.{Recorded}
use Rattle.xl_base.specs.Stable.{is_recordable, is_recorded}
use Rattle.xl_grace.specs.Grace.{is_back}
use Rattle.xl_grace.proofs.GraceLaws.{addable}
use Rattle.xl_grace.proofs.grace.Grace.shorter.Goals as goal

pub add-requires : goal.add-requires
add-requires c =
    let name : Recorded = c.name-item.result in
    let held = c.names.shorter.names in
    let is_new = addable (λ one. is_back one c.args.self.now) c.names-names.result.now held c.names.name-index name c.names-names.ensures.recordable c.names-test.true c.name-item.is (sym c.is_back.ensures ∙ c.if-is_back.true) c.names.invariant.1 in
    subst (λ (one : Recorded). (is_recordable one ≡ true) × (is_recorded one held ≡ false)) (sym c.in_ok-copy.ensures) is_new
