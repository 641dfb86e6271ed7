use Rattle.std.proofs.Common.{append_assoc}
use Rattle.xl_rpc.specs.Calls.{call}
use Rattle.xl_rpc.proofs.call.put_head.Goals as goal

pub returns-clause-ok : goal.returns-clause-ok
unfolding call
returns-clause-ok c =
    rw (c.in_ok-put_auth-2.ensures.0, c.in_ok-put_auth.ensures.0, c.in_ok-u32-6.ensures.ok, c.in_ok-u32-5.ensures.ok, c.in_ok-u32-4.ensures.ok, c.in_ok-u32-3.ensures.ok, c.in_ok-u32-2.ensures.ok, c.in_ok-u32.ensures.ok)
    (simp append_assoc)
