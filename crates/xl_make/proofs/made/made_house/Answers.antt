use Rattle.std.proofs.Common.{◌≡◌, List, take, length, subst, rules}
use Rattle.std.proofs.Math.Seq.{take-length}
use Rattle.xl_base.specs.declared.journal.Entry.{Entry}
use Rattle.xl_make.specs.Made.{made_entries}
use Rattle.xl_make.proofs.made.made_house.Goals as goal

pub returns-in-Ok-step_made-clause-begun : goal.returns-in-Ok-step_made-clause-begun
unfolding made_entries
returns-in-Ok-step_made-clause-begun c =
    let same : c.step_made.new.house.entries ≡ made_entries c.args.seed c.args.count = search rules in
    subst (λ (es : List Entry). take (length c.step_made.new.house.entries) es ≡ c.step_made.new.house.entries) same (take-length c.step_made.new.house.entries)
