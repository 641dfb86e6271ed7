use Rattle.std.proofs.Common.{refl, sym, ◌∙◌}
use Rattle.std.proofs.lemmas.Result.{IfOk-weaker}
use Rattle.xl_names.proofs.NameLaws.{place_new}
use Rattle.xl_names.proofs.names.enter.Goals as goal

pub returns-in-None-clause-number : goal.returns-in-None-clause-number
returns-in-None-clause-number c =
    let new = c.in-None.ensures.new refl in
    IfOk-weaker c.add.result _ _ (λ id is. is ∙ sym (place_new c.args.name.now c.args.set.now.keys new)) c.add.ensures.number

pub returns-in-None-clause-full : goal.returns-in-None-clause-full
returns-in-None-clause-full c =
    let new = c.in-None.ensures.new refl in
    λ n. (
      λ e. let full = (c.add.ensures.full n).0 e in (full.0, full.1, new),
      λ h. (c.add.ensures.full n).1 (h.0, h.1),
    )
