use Rattle.std.proofs.Common.{◌≡◌, List, [], sym, subst, refl, ap, ◌∙◌}
use Rattle.xl_base.specs.Lists.{Pairwise}
use Rattle.xl_matrix.specs.declared.claim.Claim.{Claim}
use Rattle.xl_table.specs.declared.files.OnFile.{OnFile}
use Rattle.xl_table.specs.Elements.{taken_back}
use Rattle.xl_table.specs.Files.{joined, IsAt, here}
use Rattle.xl_table.specs.Order.{goes_first}
use Rattle.xl_table.specs.Pages.{paged}
use Rattle.xl_table.proofs.FileLaws.{full_at, room_here, here_at, done_at, ordered_here}
use Rattle.xl_table.proofs.ElementLaws.{last_here, last_alone, last_on, last_ordered, last_none}
use Rattle.xl_table.proofs.placing.take_back.Goals as goal

pub returns-in-Some-clause-claims : goal.returns-in-Some-clause-claims
returns-in-Some-clause-claims c =
    let claim = c.args.claim.now in
    let lists = c.args.lists.now.items in
    let there : IsAt claim.file c.in-Some.at lists = subst (λ (ls : List OnFile). IsAt claim.file c.in-Some.at ls) c.as_slice.ensures.value c.in-Some.ensures.found.0 in
    let x = c.index_mut.result.now in
    let y : OnFile = record { file = x.file; pages = c.take_last.new.pages } in
    (done_at (taken_back claim) claim.file c.in-Some.at lists x y c.requires.filed there c.index_mut.ensures.value refl c.take_last.ensures.full c.take_last.ensures.claims (last_on claim (joined lists) c.requires.last) (last_alone claim (joined lists) c.requires.last)).claims

pub returns-in-Some-clause-filed : goal.returns-in-Some-clause-filed
returns-in-Some-clause-filed c =
    let claim = c.args.claim.now in
    let lists = c.args.lists.now.items in
    let there : IsAt claim.file c.in-Some.at lists = subst (λ (ls : List OnFile). IsAt claim.file c.in-Some.at ls) c.as_slice.ensures.value c.in-Some.ensures.found.0 in
    let x = c.index_mut.result.now in
    let y : OnFile = record { file = x.file; pages = c.take_last.new.pages } in
    (done_at (taken_back claim) claim.file c.in-Some.at lists x y c.requires.filed there c.index_mut.ensures.value refl c.take_last.ensures.full c.take_last.ensures.claims (last_on claim (joined lists) c.requires.last) (last_alone claim (joined lists) c.requires.last)).filed

pub returns-in_default-clause-claims : goal.returns-in_default-clause-claims
returns-in_default-clause-claims c =
    let claim = c.args.claim.now in
    let lists = c.args.lists.now.items in
    let none : here claim.file (joined lists) ≡ [] = ap (λ (ls : List OnFile). here claim.file (joined ls)) (sym c.as_slice.ensures.value) ∙ c.in_default.ensures.none in
    absurd (last_none claim (joined lists) c.requires.last none)

pub take_last-requires-clause-some : goal.take_last-requires-clause-some
take_last-requires-clause-some c =
    let claim = c.args.claim.now in
    let lists = c.args.lists.now.items in
    let there : IsAt claim.file c.in-Some.at lists = subst (λ (ls : List OnFile). IsAt claim.file c.in-Some.at ls) c.as_slice.ensures.value c.in-Some.ensures.found.0 in
    last_here claim (joined lists) (paged c.index_mut.result.now.pages.items) c.requires.last (here_at claim.file c.in-Some.at lists c.index_mut.result.now c.requires.filed there c.index_mut.ensures.value)

pub take_last-requires-clause-ordered : goal.take_last-requires-clause-ordered
take_last-requires-clause-ordered c =
    let claim = c.args.claim.now in
    let lists = c.args.lists.now.items in
    let there : IsAt claim.file c.in-Some.at lists = subst (λ (ls : List OnFile). IsAt claim.file c.in-Some.at ls) c.as_slice.ensures.value c.in-Some.ensures.found.0 in
    subst (λ (cs : List Claim). Pairwise goes_first cs)
    (sym (here_at claim.file c.in-Some.at lists c.index_mut.result.now c.requires.filed there c.index_mut.ensures.value))
    (ordered_here claim.file (joined lists) (last_ordered claim (joined lists) c.requires.last))

pub take_last-requires-clause-full : goal.take_last-requires-clause-full
take_last-requires-clause-full c =
    let claim = c.args.claim.now in
    let lists = c.args.lists.now.items in
    let there : IsAt claim.file c.in-Some.at lists = subst (λ (ls : List OnFile). IsAt claim.file c.in-Some.at ls) c.as_slice.ensures.value c.in-Some.ensures.found.0 in
    full_at claim.file c.in-Some.at lists c.index_mut.result.now c.requires.filed there c.index_mut.ensures.value

pub take_last-requires-clause-room : goal.take_last-requires-clause-room
take_last-requires-clause-room c =
    let claim = c.args.claim.now in
    let lists = c.args.lists.now.items in
    let there : IsAt claim.file c.in-Some.at lists = subst (λ (ls : List OnFile). IsAt claim.file c.in-Some.at ls) c.as_slice.ensures.value c.in-Some.ensures.found.0 in
    room_here claim.file (joined lists) (paged c.index_mut.result.now.pages.items) c.requires.room (here_at claim.file c.in-Some.at lists c.index_mut.result.now c.requires.filed there c.index_mut.ensures.value)
