use Rattle.std.proofs.Common.{sym, subst}
use Rattle.xl_names.specs.Names.{AreDistinct}
use Rattle.xl_names.proofs.NameLaws.{added, added_place, distinct_push, number_pushed}
use Rattle.xl_names.proofs.names.insert_new.Goals as goal

pub returns-clause-names : goal.returns-clause-names
returns-clause-names c = added c.insert_full.new.self.keys c.args.set.now.keys c.args.name c.requires.new c.in_ok-number.ensures.keys

pub returns-clause-number : goal.returns-clause-number
returns-clause-number c = added_place c.in_ok-number.number c.args.set.now.keys c.args.name c.requires.new c.in_ok-number.ensures.index

pub returns-clause-distinct : goal.returns-clause-distinct
returns-clause-distinct c =
    let keys = added c.insert_full.new.self.keys c.args.set.now.keys c.args.name c.requires.new c.in_ok-number.ensures.keys in
    subst AreDistinct (sym keys) (distinct_push c.args.set.now.keys c.args.name c.requires.distinct c.requires.new)

pub returns-clause-found : goal.returns-clause-found
returns-clause-found c =
    let ns = c.args.set.now.keys in
    let keys = added c.insert_full.new.self.keys ns c.args.name c.requires.new c.in_ok-number.ensures.keys in
    number_pushed c.insert_full.new.self.keys ns c.args.name c.in_ok-number.number c.requires.new keys (added_place c.in_ok-number.number ns c.args.name c.requires.new c.in_ok-number.ensures.index)
