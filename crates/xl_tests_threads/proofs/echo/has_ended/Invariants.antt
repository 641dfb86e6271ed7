use Rattle.std.proofs.Common.{◌≡◌, drop}
use Rattle.xl_tests_threads.specs.Echoes.{has_ended}
use Rattle.xl_tests_threads.proofs.echo.has_ended.Given as goal

abbrev pub invariant-entries : goal.invariant-entries
invariant-entries l = has_ended l.conn l.entries ≡ has_ended l.conn (drop l.entry-index l.entries)
