use Rattle.xl_names.specs.declared.name.Name.TheVariants.{NfsParty}
use Rattle.xl_core.specs.Askers.{party_named}
use Rattle.xl_front_nfs.specs.Clients.{ends}
use Rattle.xl_plan.proofs.BudgetLaws.{leaves_then}
use Rattle.xl_front_nfs.proofs.EndingLaws.{over_done, over_told}
use Rattle.xl_front_nfs.proofs.confirming.ended_and_renewed.Goals as goal

pub returns-clause-told : goal.returns-clause-told
returns-clause-told c = λ n. over_told n c.args.core.now (ends (party_named c.args.core.now.names (NfsParty c.args.id.now))) c.args.id.now c.in_ok-effects.effects (c.in_ok-effects.ensures.told n)

pub returns-clause-state : goal.returns-clause-state
returns-clause-state c = λ n. over_done n c.args.core.now c.ended.new.core c.renewed.new.core (ends (party_named c.args.core.now.names (NfsParty c.args.id.now))) c.args.id.now (c.in_ok-effects.ensures.state n) (c.in_ok-renewed.ensures.state n)

pub returns-clause-leaves : goal.returns-clause-leaves
returns-clause-leaves c = leaves_then c.args.core.now c.ended.new.core c.renewed.new.core 0 0 c.in_ok-effects.ensures.leaves c.in_ok-renewed.ensures.leaves

pub returns-clause-quiet : goal.returns-clause-quiet
returns-clause-quiet c = λ before now told. c.in_ok-renewed.ensures.quiet before now (c.in_ok-effects.ensures.quiet before now told)
