use Rattle.std.proofs.Common.{◌≡◌, not, sym, subst}
use Rattle.std.specs.List.{filter}
use Rattle.xl_table.specs.Leaving.{goes}
use Rattle.xl_table.specs.declared.leaver.Leaver.{Leaver}
use Rattle.xl_table.specs.Files.{joined}
use Rattle.xl_table.proofs.LeavingLaws.{party_gone}
use Rattle.xl_table.proofs.leaving.drop_leaver.Goals as goal

pub returns-in-Party-clause-claims : goal.returns-in-Party-clause-claims
returns-in-Party-clause-claims c =
    subst (λ (w : Leaver). joined c.drop_by.new.lists.items ≡ filter (λ held. not (goes w held)) (joined c.args.lists.now.items)) (sym c.in-Party.is)
    (party_gone c.in-Party.party c.who_of.result (joined c.args.lists.now.items) (joined c.drop_by.new.lists.items) c.who_of.ensures c.drop_by.ensures.gone c.drop_by.ensures.still)

pub returns-in-Open-clause-claims : goal.returns-in-Open-clause-claims
returns-in-Open-clause-claims c =
    subst (λ (w : Leaver). joined c.drop_open.new.lists.items ≡ filter (λ held. not (goes w held)) (joined c.args.lists.now.items)) (sym c.in-Open.is) c.drop_open.ensures.claims
