use Rattle.std.proofs.Common.{List, [], sym, subst, refl, ap, ◌∙◌}
use Rattle.xl_base.specs.Lists.{Pairwise}
use Rattle.xl_matrix.specs.declared.claim.Claim.{Claim}
use Rattle.xl_table.specs.declared.files.OnFile.{OnFile}
use Rattle.xl_table.specs.Files.{joined, IsAt, here}
use Rattle.xl_table.specs.Pages.{paged}
use Rattle.xl_table.specs.Flat.{changed}
use Rattle.xl_table.specs.Order.{goes_first}
use Rattle.xl_table.proofs.FileLaws.{full_at, room_here, here_at, held_here, ordered_here, done_at}
use Rattle.xl_table.proofs.AloneLaws.{changed_alone, changed_on}
use Rattle.xl_table.proofs.placing.replace.Goals as goal

pub replace_in-requires-clause-held : goal.replace_in-requires-clause-held
replace_in-requires-clause-held c =
    let claim = c.args.claim.now in
    let lists = c.args.lists.now.items in
    let there : IsAt claim.file c.in-Some.at lists = subst (λ (ls : List OnFile). IsAt claim.file c.in-Some.at ls) c.as_slice.ensures.value c.in-Some.ensures.found.0 in
    held_here claim (joined lists) (paged c.index_mut.result.now.pages.items) c.requires.held (here_at claim.file c.in-Some.at lists c.index_mut.result.now c.requires.filed there c.index_mut.ensures.value)

pub replace_in-requires-clause-ordered : goal.replace_in-requires-clause-ordered
replace_in-requires-clause-ordered c =
    let claim = c.args.claim.now in
    let lists = c.args.lists.now.items in
    let there : IsAt claim.file c.in-Some.at lists = subst (λ (ls : List OnFile). IsAt claim.file c.in-Some.at ls) c.as_slice.ensures.value c.in-Some.ensures.found.0 in
    subst (λ (cs : List Claim). Pairwise goes_first cs) (sym (here_at claim.file c.in-Some.at lists c.index_mut.result.now c.requires.filed there c.index_mut.ensures.value))
    (ordered_here claim.file (joined lists) c.requires.ordered)

pub returns-in-Some-clause-claims : goal.returns-in-Some-clause-claims
returns-in-Some-clause-claims c =
    let claim = c.args.claim.now in
    let lists = c.args.lists.now.items in
    let there : IsAt claim.file c.in-Some.at lists = subst (λ (ls : List OnFile). IsAt claim.file c.in-Some.at ls) c.as_slice.ensures.value c.in-Some.ensures.found.0 in
    let x = c.index_mut.result.now in
    let y : OnFile = record { file = x.file; pages = c.replace_in.new.pages } in
    (done_at (changed claim c.args.to) claim.file c.in-Some.at lists x y c.requires.filed there c.index_mut.ensures.value refl c.replace_in.ensures.full c.replace_in.ensures.changed (changed_on claim c.args.to (joined lists)) (changed_alone claim c.args.to (joined lists) c.requires.ordered)).claims

pub returns-in-Some-clause-filed : goal.returns-in-Some-clause-filed
returns-in-Some-clause-filed c =
    let claim = c.args.claim.now in
    let lists = c.args.lists.now.items in
    let there : IsAt claim.file c.in-Some.at lists = subst (λ (ls : List OnFile). IsAt claim.file c.in-Some.at ls) c.as_slice.ensures.value c.in-Some.ensures.found.0 in
    let x = c.index_mut.result.now in
    let y : OnFile = record { file = x.file; pages = c.replace_in.new.pages } in
    (done_at (changed claim c.args.to) claim.file c.in-Some.at lists x y c.requires.filed there c.index_mut.ensures.value refl c.replace_in.ensures.full c.replace_in.ensures.changed (changed_on claim c.args.to (joined lists)) (changed_alone claim c.args.to (joined lists) c.requires.ordered)).filed

pub returns-in_default-clause-claims : goal.returns-in_default-clause-claims
returns-in_default-clause-claims c =
    let claim = c.args.claim.now in
    absurd (held_here claim (joined c.args.lists.now.items) [] c.requires.held (sym (ap (λ (ls : List OnFile). here claim.file (joined ls)) (sym c.as_slice.ensures.value) ∙ c.in_default.ensures.none)))

pub replace_in-requires-clause-full : goal.replace_in-requires-clause-full
replace_in-requires-clause-full c =
    let claim = c.args.claim.now in
    let lists = c.args.lists.now.items in
    let there : IsAt claim.file c.in-Some.at lists = subst (λ (ls : List OnFile). IsAt claim.file c.in-Some.at ls) c.as_slice.ensures.value c.in-Some.ensures.found.0 in
    full_at claim.file c.in-Some.at lists c.index_mut.result.now c.requires.filed there c.index_mut.ensures.value

pub replace_in-requires-clause-room : goal.replace_in-requires-clause-room
replace_in-requires-clause-room c =
    let claim = c.args.claim.now in
    let lists = c.args.lists.now.items in
    let there : IsAt claim.file c.in-Some.at lists = subst (λ (ls : List OnFile). IsAt claim.file c.in-Some.at ls) c.as_slice.ensures.value c.in-Some.ensures.found.0 in
    room_here claim.file (joined lists) (paged c.index_mut.result.now.pages.items) c.requires.room (here_at claim.file c.in-Some.at lists c.index_mut.result.now c.requires.filed there c.index_mut.ensures.value)
