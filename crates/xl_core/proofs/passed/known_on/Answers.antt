use Rattle.std.proofs.Common.{sym, ◌∙◌}
use Rattle.xl_core.specs.Whole.{state_of}
use Rattle.xl_core.proofs.PassedLaws.{passed_shut, passed_up}
use Rattle.xl_core.proofs.passed.known_on.Goals as goal

pub returns-clause-up : goal.returns-clause-up
returns-clause-up c = passed_up c.args.passed (state_of c.args.parts.now) c.args.file c.if-passed-file.false (sym c.has_cache.ensures ∙ c.if-has_cache.false) c.requires

pub returns-clause-shut : goal.returns-clause-shut
returns-clause-shut c = passed_shut c.args.passed (state_of c.args.parts.now) c.args.file c.if-passed-file.false c.requires
