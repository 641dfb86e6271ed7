use Rattle.std.proofs.Common.{◌≡◌, not, Option, sym, subst}
use Rattle.std.specs.List.{filter}
use Rattle.xl_base.specs.declared.name.Party.{Party}
use Rattle.xl_table.specs.Files.{joined}
use Rattle.xl_table.specs.Leaving.{goes}
use Rattle.xl_table.specs.declared.leaver.Leaver.TheVariants as leavers
use Rattle.xl_table.proofs.LeavingLaws.{open_gone, both_gone}
use Rattle.xl_table.proofs.leaving.drop_open.Goals as goal

pub returns-in-None-clause-claims : goal.returns-in-None-clause-claims
returns-in-None-clause-claims c =
    subst (λ (p : Option Party). joined c.drop_by.new.lists.items ≡ filter (λ held. not (goes (leavers.Open c.args.number p) held)) (joined c.args.lists.now.items)) (sym c.in-None.is)
    (open_gone c.args.number c.who_opens.result (joined c.args.lists.now.items) (joined c.drop_by.new.lists.items) c.who_opens.ensures c.drop_by.ensures.gone c.drop_by.ensures.still)

pub returns-in-Some-clause-claims : goal.returns-in-Some-clause-claims
returns-in-Some-clause-claims c =
    subst (λ (p : Option Party). joined c.drop_by-in-Some-2.new.lists.items ≡ filter (λ held. not (goes (leavers.Open c.args.number p) held)) (joined c.args.lists.now.items)) (sym c.in-Some.is)
    (both_gone c.args.number c.in-Some.own c.who_opens-in-Some.result c.who_of.result (joined c.args.lists.now.items) (joined c.drop_by-in-Some.new.lists.items) (joined c.drop_by-in-Some-2.new.lists.items) c.who_opens-in-Some.ensures c.who_of.ensures
    c.drop_by-in-Some.ensures.gone c.drop_by-in-Some-2.ensures.fewer c.drop_by-in-Some-2.ensures.gone c.drop_by-in-Some.ensures.still c.drop_by-in-Some-2.ensures.still)
