use Rattle.std.proofs.Common.{◌≡◌, List, true, subst, sym, ◌∙◌}
use Rattle.xl_matrix.specs.declared.claim.Claim.{Claim}
use Rattle.xl_core.specs.Passed.{replace_none}
use Rattle.xl_core.proofs.PassedLaws.{all_add}
use Rattle.xl_core.proofs.passed.frees_nobody.Goals as goal

pub returns-clause-free : goal.returns-clause-free
returns-clause-free c = λ yes. record {
  wish = c.is_empty.ensures.0 c.if-not-is_empty.false;
  uncached = sym c.has_cache.ensures ∙ c.if-has_cache.false;
  adds = all_add c.args.called.now.asked c.args.parts.now.table c.requires.kept (subst (λ (asked : List Claim). replace_none asked c.args.parts.now.table ≡ true) c.as_slice.ensures (sym c.in_ok-free.ensures ∙ yes));
}
