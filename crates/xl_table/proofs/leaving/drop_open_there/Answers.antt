use Rattle.std.proofs.Common.{◌≡◌, not, List, Option, sym, subst, ◌∙◌}
use Rattle.std.specs.List.{filter}
use Rattle.xl_base.specs.declared.name.Party.{Party}
use Rattle.xl_index.specs.Index.{Has, HasLeft}
use Rattle.xl_matrix.specs.declared.claim.Claim.{Claim}
use Rattle.xl_table.specs.Leaving.{goes}
use Rattle.xl_table.specs.Pages.{paged}
use Rattle.xl_table.specs.declared.leaver.Leaver.TheVariants as leavers
use Rattle.xl_table.proofs.DropLaws.{owned_in, owned_out, all_owned_in, all_owned_out}
use Rattle.xl_table.proofs.leaving.drop_open_there.Goals as goal

pub drop_owned-requires-clause-has : goal.drop_owned-requires-clause-has
drop_owned-requires-clause-has c =
    let cs = paged c.args.pages.now.items in
    subst (λ (ds : List Claim). Has c.args.index.now ds) (sym (owned_in c.args.file c.args.number cs c.requires.own))
    (subst (λ (p : Option Party). Has c.args.index.now (filter (goes (leavers.Open c.args.number p)) cs)) c.in-None.is c.requires.has)

pub drop_all_owned-requires-clause-has : goal.drop_all_owned-requires-clause-has
drop_all_owned-requires-clause-has c =
    let cs = paged c.args.pages.now.items in
    subst (λ (ds : List Claim). Has c.args.index.now ds) (sym (all_owned_in c.args.file c.args.number c.in-Some.party cs c.requires.own))
    (subst (λ (p : Option Party). Has c.args.index.now (filter (goes (leavers.Open c.args.number p)) cs)) c.in-Some.is c.requires.has)

pub returns-in-None-clause-claims : goal.returns-in-None-clause-claims
returns-in-None-clause-claims c =
    let cs = paged c.args.pages.now.items in
    subst (λ (p : Option Party). paged c.drop_owned.new.pages.items ≡ filter (λ x. not (goes (leavers.Open c.args.number p) x)) cs) (sym c.in-None.is)
    (c.drop_owned.ensures.claims ∙ owned_out c.args.file c.args.number cs c.requires.own)

pub returns-in-None-clause-index : goal.returns-in-None-clause-index
returns-in-None-clause-index c =
    let cs = paged c.args.pages.now.items in
    subst (λ (p : Option Party). HasLeft c.args.index.now c.drop_owned.new.index (filter (goes (leavers.Open c.args.number p)) cs)) (sym c.in-None.is)
    (subst (λ (ds : List Claim). HasLeft c.args.index.now c.drop_owned.new.index ds) (owned_in c.args.file c.args.number cs c.requires.own) c.drop_owned.ensures.index)

pub returns-in-Some-clause-claims : goal.returns-in-Some-clause-claims
returns-in-Some-clause-claims c =
    let cs = paged c.args.pages.now.items in
    subst (λ (p : Option Party). paged c.drop_all_owned.new.pages.items ≡ filter (λ x. not (goes (leavers.Open c.args.number p) x)) cs) (sym c.in-Some.is)
    (c.drop_all_owned.ensures.claims ∙ all_owned_out c.args.file c.args.number c.in-Some.party cs c.requires.own)

pub returns-in-Some-clause-index : goal.returns-in-Some-clause-index
returns-in-Some-clause-index c =
    let cs = paged c.args.pages.now.items in
    subst (λ (p : Option Party). HasLeft c.args.index.now c.drop_all_owned.new.index (filter (goes (leavers.Open c.args.number p)) cs)) (sym c.in-Some.is)
    (subst (λ (ds : List Claim). HasLeft c.args.index.now c.drop_all_owned.new.index ds) (all_owned_in c.args.file c.args.number c.in-Some.party cs c.requires.own) c.drop_all_owned.ensures.index)
