use Rattle.std.proofs.Common.{◌≡◌, List, OnOk, position, sym, ap, subst, ◌∙◌}
use Rattle.xl_base.specs.declared.stable.Recorded.{Recorded}
use Rattle.xl_base.specs.Stable.{same_name}
use Rattle.xl_base.proofs.StableLaws.{put_at, put_behind}
use Rattle.xl_base.proofs.stable.put_in.Goals as goal

pub returns-in-Some-clause-ok : goal.returns-in-Some-clause-ok
returns-in-Some-clause-ok c =
    let at = ap (λ (ns : List Recorded). position (λ held. same_name held c.args.name) ns) (sym c.as_slice.ensures) ∙ sym c.place_of.ensures ∙ c.in-Some.is in
    c.set.ensures ∙ sym (put_at c.args.name c.args.names.now c.in-Some.place at).1

pub returns-in-None-clause-ok : goal.returns-in-None-clause-ok
returns-in-None-clause-ok c =
    let none = ap (λ (ns : List Recorded). position (λ held. same_name held c.args.name) ns) (sym c.as_slice.ensures) ∙ sym c.place_of.ensures ∙ c.in-None.is in
    subst (λ (ns : List Recorded). OnOk c.push.result (c.push.new.self ≡ ns)) (sym (put_behind c.args.name c.args.names.now none)) c.push.ensures.ok
