use Rattle.std.proofs.Common.{◌≡◌, true, subst}
use Rattle.std.specs.Option.{IfSome}
use Rattle.xl_base.specs.Lists.{IsIn}
use Rattle.xl_exact.specs.Elements.{conflicts_own}
use Rattle.xl_exact.proofs.ElementLaws.{found_passes}
use Rattle.xl_exact.proofs.exact.Exact.first_own_conflict.Goals as goal

pub returns-clause-found : goal.returns-clause-found
returns-clause-found c =
    let es = c.args.self.now.elements in
    let test = conflicts_own c.args.first c.args.len c.args.exclusive in
    subst (λ r. IfSome r (λ e. IsIn e es × (test e ≡ true))) (cc) (found_passes test es)
