use Rattle.std.proofs.Common.{List, subst}
use Rattle.xl_matrix.specs.declared.claim.Claim.{Claim}
use Rattle.xl_table.specs.Bounds.{AreWithin}
use Rattle.xl_table.proofs.BeyondLaws.{quiet_counts_none, beyond_counts_none}
use Rattle.xl_table.proofs.page.Page.least_with.Goals as goal

pub returns-then-is_quiet : goal.returns-then-is_quiet
returns-then-is_quiet c =
    quiet_counts_none c.args.names.now c.args.least c.args.ask.now c.args.ranges c.is_quiet.result c.self.inside.bounds c.args.self.now
    (subst (λ (cs : List Claim). AreWithin c.self.inside.bounds cs) c.self.view_is c.self.invariant) c.is_quiet.ensures c.if-is_quiet.true

pub returns-then-is_beyond : goal.returns-then-is_beyond
returns-then-is_beyond c =
    beyond_counts_none c.args.names.now c.args.least c.args.ask.now c.args.ranges c.is_beyond.result c.self.inside.bounds c.args.self.now
    (subst (λ (cs : List Claim). AreWithin c.self.inside.bounds cs) c.self.view_is c.self.invariant) c.is_beyond.ensures c.if-is_beyond.true
