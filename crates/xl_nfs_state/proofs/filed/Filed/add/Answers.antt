use Rattle.xl_nfs_state.proofs.FiledLaws.{entered_filed, entered_rows}
use Rattle.xl_nfs_state.proofs.filed.Filed.add.Goals as goal

pub invariant_of-self-2 : goal.invariant_of-self-2
invariant_of-self-2 g c =
    let old = c.self.inside in
    let told = c.in_ok-enter.ensures in
    entered_filed g.R.Row.number g.R.Row.name old.rows c.enter.new.rows old.numbers.entries c.enter.new.numbers.entries old.names.entries c.enter.new.names.entries g.R.Number.PartialEq.eq g.R.Name.PartialEq.eq old.rows.vacant_key c.args.row c.number-number.result c.in_ok-name.name
    c.number-number.ensures c.in_ok-name.ensures c.self.invariant told.vacant told.row told.numbers told.names c.args.self.now c.self.view_is c.requires.number c.requires.name

pub returns-clause-ok : goal.returns-clause-ok
returns-clause-ok g c =
    let old = c.self.inside in
    let told = c.in_ok-enter.ensures in
    entered_rows g.R.Row.number g.R.Row.name old.rows c.enter.new.rows old.numbers.entries c.enter.new.numbers.entries old.names.entries c.enter.new.names.entries g.R.Number.PartialEq.eq g.R.Name.PartialEq.eq old.rows.vacant_key c.args.row c.number-number.result c.in_ok-name.name
    c.number-number.ensures c.in_ok-name.ensures c.self.invariant told.vacant told.row told.numbers told.names c.args.self.now c.self.view_is c.requires.number c.requires.name
