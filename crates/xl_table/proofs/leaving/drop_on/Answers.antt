use Rattle.std.proofs.Common.{List, not, sym, subst, refl, ap, ◌∙◌}
use Rattle.std.specs.List.{filter}
use Rattle.xl_matrix.specs.declared.claim.Claim.{Claim}
use Rattle.xl_table.specs.declared.files.OnFile.{OnFile}
use Rattle.xl_table.specs.Files.{joined, IsAt, here, AreOn}
use Rattle.xl_table.specs.Leaving.{goes_on}
use Rattle.xl_table.specs.Pages.{paged}
use Rattle.xl_base.specs.Lists.{Pairwise}
use Rattle.xl_table.specs.Order.{goes_first}
use Rattle.xl_table.proofs.FileLaws.{full_at, room_here, ordered_here, here_at, done_at, here_on}
use Rattle.xl_table.proofs.LeavingLaws.{has_there, index_dropped, dropped_on, dropped_alone, dropped_here, none_on}
use Rattle.xl_table.proofs.leaving.drop_on.Goals as goal

pub drop_there-requires : goal.drop_there-requires
drop_there-requires c =
    let file = c.args.file in
    let lists = c.args.lists.now.items in
    let there : IsAt file c.in-Some.at lists = subst (λ (ls : List OnFile). IsAt file c.in-Some.at ls) c.as_slice.ensures.value c.in-Some.ensures.found.0 in
    let x = c.index_mut.result.now in
    let here = here_at file c.in-Some.at lists x c.requires.filed there c.index_mut.ensures.value in
    record {
      own = subst (λ (cs : List Claim). AreOn file cs) (sym here) (here_on file (joined lists));
      ordered = subst (λ (cs : List Claim). Pairwise goes_first cs) (sym here) (ordered_here file (joined lists) c.requires.ordered);
      full = full_at file c.in-Some.at lists x c.requires.filed there c.index_mut.ensures.value;
      room = room_here file (joined lists) (paged x.pages.items) c.requires.room here;
      has = has_there c.args.leaver file c.args.index.now (joined lists) (paged x.pages.items) c.requires.index here;
    }

pub returns-in-Some-clause-claims : goal.returns-in-Some-clause-claims
returns-in-Some-clause-claims c =
    let who = c.args.leaver in
    let file = c.args.file in
    let lists = c.args.lists.now.items in
    let there : IsAt file c.in-Some.at lists = subst (λ (ls : List OnFile). IsAt file c.in-Some.at ls) c.as_slice.ensures.value c.in-Some.ensures.found.0 in
    let x = c.index_mut.result.now in
    let y : OnFile = record { file = x.file; pages = c.drop_there.new.pages } in
    let own : AreOn file (paged x.pages.items) = subst (λ (cs : List Claim). AreOn file cs) (sym (here_at file c.in-Some.at lists x c.requires.filed there c.index_mut.ensures.value)) (here_on file (joined lists)) in
    (done_at (λ cs. filter (λ d. not (goes_on who file d)) cs) file c.in-Some.at lists x y c.requires.filed there c.index_mut.ensures.value refl c.drop_there.ensures.full
    (dropped_on who file (paged x.pages.items) (paged c.drop_there.new.pages.items) own c.drop_there.ensures.claims) (dropped_here who file (joined lists)) (dropped_alone who file (joined lists) c.requires.ordered)).claims

pub returns-in-Some-clause-filed : goal.returns-in-Some-clause-filed
returns-in-Some-clause-filed c =
    let who = c.args.leaver in
    let file = c.args.file in
    let lists = c.args.lists.now.items in
    let there : IsAt file c.in-Some.at lists = subst (λ (ls : List OnFile). IsAt file c.in-Some.at ls) c.as_slice.ensures.value c.in-Some.ensures.found.0 in
    let x = c.index_mut.result.now in
    let y : OnFile = record { file = x.file; pages = c.drop_there.new.pages } in
    let own : AreOn file (paged x.pages.items) = subst (λ (cs : List Claim). AreOn file cs) (sym (here_at file c.in-Some.at lists x c.requires.filed there c.index_mut.ensures.value)) (here_on file (joined lists)) in
    (done_at (λ cs. filter (λ d. not (goes_on who file d)) cs) file c.in-Some.at lists x y c.requires.filed there c.index_mut.ensures.value refl c.drop_there.ensures.full
    (dropped_on who file (paged x.pages.items) (paged c.drop_there.new.pages.items) own c.drop_there.ensures.claims) (dropped_here who file (joined lists)) (dropped_alone who file (joined lists) c.requires.ordered)).filed

pub returns-in-Some-clause-index : goal.returns-in-Some-clause-index
returns-in-Some-clause-index c =
    let file = c.args.file in
    let lists = c.args.lists.now.items in
    let there : IsAt file c.in-Some.at lists = subst (λ (ls : List OnFile). IsAt file c.in-Some.at ls) c.as_slice.ensures.value c.in-Some.ensures.found.0 in
    let x = c.index_mut.result.now in
    index_dropped c.args.leaver file c.args.index.now c.drop_there.new.index (joined lists) (paged x.pages.items) _ c.requires.index
    (here_at file c.in-Some.at lists x c.requires.filed there c.index_mut.ensures.value) c.drop_there.ensures.index (returns-in-Some-clause-claims c)

pub returns-in_default-clause-claims : goal.returns-in_default-clause-claims
returns-in_default-clause-claims c =
    none_on c.args.leaver c.args.file (joined c.args.lists.now.items) (ap (λ (ls : List OnFile). here c.args.file (joined ls)) (sym c.as_slice.ensures.value) ∙ c.in_default.ensures.none)
