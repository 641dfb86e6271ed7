use Rattle.std.proofs.Common.{◌≡◌, ◌+◌, ℕ, true, List, subst, sym}
use Rattle.std.specs.List.{AllByRecursion}
use Rattle.xl_base.specs.declared.journal.Entry.{Entry}
use Rattle.xl_tests_threads.specs.Echoes.{may_go, IsEcho}
use Rattle.xl_tests_threads.proofs.EchoLaws.{echo_grows}
use Rattle.xl_tests_threads.proofs.echo.enter.Goals as goal

pub returns-clause-echo : goal.returns-clause-echo
returns-clause-echo c =
    subst (λ log. IsEcho c.args.first log) (sym c.in-Ok-push.ensures.ok)
    (echo_grows c.args.first c.args.entries.now _ c.requires.echo (subst (λ (z : ℕ × List Entry). AllByRecursion (λ o. may_go (c.args.first + z.0) z.1 o.dest ≡ true) c.in-Ok.outs) (λ i. (c.len-count.ensures i, c.as_slice.ensures i)) c.in-Ok.ensures))
