use Rattle.std.proofs.Common.{◌≡◌, List, [], sym, subst, refl, ap, ◌∙◌}
use Rattle.xl_table.specs.declared.files.OnFile.{OnFile}
use Rattle.xl_table.specs.Files.{joined, IsAt, here}
use Rattle.xl_table.specs.Pages.{paged}
use Rattle.xl_table.specs.Flat.{removed}
use Rattle.xl_base.specs.Lists.{Pairwise}
use Rattle.xl_matrix.specs.declared.claim.Claim.{Claim}
use Rattle.xl_table.specs.Order.{goes_first}
use Rattle.xl_table.proofs.FileLaws.{full_at, room_here, ordered_here, here_at, done_at}
use Rattle.xl_table.proofs.FlatLaws.{removed_none}
use Rattle.xl_table.proofs.AloneLaws.{equal_here, removed_alone, removed_on}
use Rattle.xl_table.proofs.placing.take_out.Goals as goal

pub returns-in-Some-clause-claims : goal.returns-in-Some-clause-claims
returns-in-Some-clause-claims c =
    let claim = c.args.claim.now in
    let lists = c.args.lists.now.items in
    let there : IsAt claim.file c.in-Some.at lists = subst (λ (ls : List OnFile). IsAt claim.file c.in-Some.at ls) c.as_slice.ensures.value c.in-Some.ensures.found.0 in
    let x = c.index_mut.result.now in
    let y : OnFile = record { file = x.file; pages = c.take_from.new.pages } in
    (done_at (removed claim) claim.file c.in-Some.at lists x y c.requires.filed there c.index_mut.ensures.value refl c.take_from.ensures.full c.take_from.ensures.claims (removed_on claim (joined lists)) (removed_alone claim (joined lists) c.requires.ordered)).claims

pub returns-in-Some-clause-held : goal.returns-in-Some-clause-held
returns-in-Some-clause-held c =
    let claim = c.args.claim.now in
    let lists = c.args.lists.now.items in
    let there : IsAt claim.file c.in-Some.at lists = subst (λ (ls : List OnFile). IsAt claim.file c.in-Some.at ls) c.as_slice.ensures.value c.in-Some.ensures.found.0 in
    c.take_from.ensures.held
    ∙ equal_here claim (joined lists) (paged c.index_mut.result.now.pages.items) (here_at claim.file c.in-Some.at lists c.index_mut.result.now c.requires.filed there c.index_mut.ensures.value)

pub returns-in-Some-clause-filed : goal.returns-in-Some-clause-filed
returns-in-Some-clause-filed c =
    let claim = c.args.claim.now in
    let lists = c.args.lists.now.items in
    let there : IsAt claim.file c.in-Some.at lists = subst (λ (ls : List OnFile). IsAt claim.file c.in-Some.at ls) c.as_slice.ensures.value c.in-Some.ensures.found.0 in
    let x = c.index_mut.result.now in
    let y : OnFile = record { file = x.file; pages = c.take_from.new.pages } in
    (done_at (removed claim) claim.file c.in-Some.at lists x y c.requires.filed there c.index_mut.ensures.value refl c.take_from.ensures.full c.take_from.ensures.claims (removed_on claim (joined lists)) (removed_alone claim (joined lists) c.requires.ordered)).filed

pub returns-in-None-clause-claims : goal.returns-in-None-clause-claims
returns-in-None-clause-claims c =
    let claim = c.args.claim.now in
    let lists = c.args.lists.now.items in
    let none : here claim.file (joined lists) ≡ [] = ap (λ (ls : List OnFile). here claim.file (joined ls)) (sym c.as_slice.ensures.value) ∙ c.in-None.ensures.none in
    sym (removed_none claim (joined lists) (sym (equal_here claim (joined lists) [] (sym none))))

pub returns-in-None-clause-held : goal.returns-in-None-clause-held
returns-in-None-clause-held c =
    let claim = c.args.claim.now in
    let lists = c.args.lists.now.items in
    let none : here claim.file (joined lists) ≡ [] = ap (λ (ls : List OnFile). here claim.file (joined ls)) (sym c.as_slice.ensures.value) ∙ c.in-None.ensures.none in
    equal_here claim (joined lists) [] (sym none)

pub take_from-requires-clause-full : goal.take_from-requires-clause-full
take_from-requires-clause-full c =
    let claim = c.args.claim.now in
    let lists = c.args.lists.now.items in
    let there : IsAt claim.file c.in-Some.at lists = subst (λ (ls : List OnFile). IsAt claim.file c.in-Some.at ls) c.as_slice.ensures.value c.in-Some.ensures.found.0 in
    full_at claim.file c.in-Some.at lists c.index_mut.result.now c.requires.filed there c.index_mut.ensures.value

pub take_from-requires-clause-room : goal.take_from-requires-clause-room
take_from-requires-clause-room c =
    let claim = c.args.claim.now in
    let lists = c.args.lists.now.items in
    let there : IsAt claim.file c.in-Some.at lists = subst (λ (ls : List OnFile). IsAt claim.file c.in-Some.at ls) c.as_slice.ensures.value c.in-Some.ensures.found.0 in
    room_here claim.file (joined lists) (paged c.index_mut.result.now.pages.items) c.requires.room (here_at claim.file c.in-Some.at lists c.index_mut.result.now c.requires.filed there c.index_mut.ensures.value)

pub take_from-requires-clause-ordered : goal.take_from-requires-clause-ordered
take_from-requires-clause-ordered c =
    let claim = c.args.claim.now in
    let lists = c.args.lists.now.items in
    let there : IsAt claim.file c.in-Some.at lists = subst (λ (ls : List OnFile). IsAt claim.file c.in-Some.at ls) c.as_slice.ensures.value c.in-Some.ensures.found.0 in
    subst (λ (cs : List Claim). Pairwise goes_first cs) (sym (here_at claim.file c.in-Some.at lists c.index_mut.result.now c.requires.filed there c.index_mut.ensures.value))
    (ordered_here claim.file (joined lists) c.requires.ordered)
