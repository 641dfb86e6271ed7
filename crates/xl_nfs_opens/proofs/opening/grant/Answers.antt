use Rattle.std.proofs.Common.{◌∙◌, Option, sym, ap}
use Rattle.xl_nfs.specs.Opens.{shown_open_args}
use Rattle.xl_nfs_state.specs.declared.stateid.StateidRow.{StateidRow}
use Rattle.xl_nfs_opens.specs.Opens.{granted_by}
use Rattle.xl_nfs_opens.specs.Plans.{carried}
use Rattle.xl_nfs_opens.proofs.opening.grant.Goals as goal

pub returns-in_ok-said-in-Some-clause-done : goal.returns-in_ok-said-in-Some-clause-done
returns-in_ok-said-in-Some-clause-done c = λ n. ap (λ (o : Option StateidRow). carried n c.args.core.now c.args.state.now (granted_by c.args.core.now c.args.state.now c.args.opening.now.opener.now (shown_open_args c.args.opening.now.args.now) c.args.opened.file c.args.opened.confirmed c.args.opened.write o)) (sym c.in-Some.ensures.value) ∙ c.in_ok-said-in-Some.ensures.done n

pub returns-in_ok-said-in-None-clause-done : goal.returns-in_ok-said-in-None-clause-done
returns-in_ok-said-in-None-clause-done c = λ n. ap (λ (o : Option StateidRow). carried n c.args.core.now c.args.state.now (granted_by c.args.core.now c.args.state.now c.args.opening.now.opener.now (shown_open_args c.args.opening.now.args.now) c.args.opened.file c.args.opened.confirmed c.args.opened.write o)) (sym c.in-None.ensures.value) ∙ c.in_ok-said-in-None.ensures.done n
