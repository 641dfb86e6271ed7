use Rattle.std.proofs.Common.{rules, tests, ◌∙◌}
use Rattle.std.proofs.lemmas.Iterator.Search.{find_from_yields_List}
use Rattle.std.proofs.lemmas.Iterator.{YieldsList-from_slice}
use Rattle.std.specs.Bool.{◌==◌}
use Rattle.xl_front_nlm.specs.declared.call.GrantedCall.{GrantedCall}
use Rattle.xl_front_nlm.proofs.front.find_call.Goals as goal

pub returns : goal.returns
returns c =
    c.copied.ensures ∙ find_from_yields_List (λ (call : GrantedCall). call.number == c.args.number) _ _ c.find.result c.find.ensures.ran (YieldsList-from_slice c.args.calls.now c.iter.ensures.rest) (λ x b q k. search (rules, tests))
