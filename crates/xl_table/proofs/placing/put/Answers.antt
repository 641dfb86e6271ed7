use Rattle.std.proofs.Common.{List, sym, subst, refl}
use Rattle.xl_base.specs.Lists.{Pairwise}
use Rattle.xl_matrix.specs.declared.claim.Claim.{Claim}
use Rattle.xl_table.specs.declared.files.OnFile.{OnFile}
use Rattle.xl_table.specs.Files.{joined}
use Rattle.xl_table.specs.Pages.{paged}
use Rattle.xl_table.specs.Flat.{inserted}
use Rattle.xl_table.specs.Order.{goes_first}
use Rattle.xl_table.proofs.FileLaws.{full_at, room_here, here_at, ordered_here, same_at, done_at, on_err}
use Rattle.xl_table.proofs.AloneLaws.{inserted_alone, inserted_on}
use Rattle.xl_table.proofs.placing.put.Goals as goal

pub put_in-requires-clause-ordered : goal.put_in-requires-clause-ordered
put_in-requires-clause-ordered c =
    let lists = c.args.lists.now.items in
    subst (λ (cs : List Claim). Pairwise goes_first cs)
    (sym (here_at c.args.claim.file c.args.at lists c.index_mut.result.now c.requires.filed c.requires.at c.index_mut.ensures.value))
    (ordered_here c.args.claim.file (joined lists) c.requires.ordered)

pub put_in-requires-clause-full : goal.put_in-requires-clause-full
put_in-requires-clause-full c = full_at c.args.claim.file c.args.at c.args.lists.now.items c.index_mut.result.now c.requires.filed c.requires.at c.index_mut.ensures.value

pub put_in-requires-clause-room : goal.put_in-requires-clause-room
put_in-requires-clause-room c =
    room_here c.args.claim.file (joined c.args.lists.now.items) (paged c.index_mut.result.now.pages.items) c.requires.room (here_at c.args.claim.file c.args.at c.args.lists.now.items c.index_mut.result.now c.requires.filed c.requires.at c.index_mut.ensures.value)

pub returns-in_err-put_in-clause-err : goal.returns-in_err-put_in-clause-err
returns-in_err-put_in-clause-err c =
    let x = c.index_mut.result.now in
    let y : OnFile = record { file = x.file; pages = c.put_in.new.pages } in
    on_err c.from_residual.result (same_at c.args.claim.file c.args.at c.args.lists.now.items x y c.requires.filed c.requires.at c.index_mut.ensures.value refl c.put_in.ensures.full c.in_err-put_in.ensures.err).claims

pub returns-in_err-put_in-clause-filed : goal.returns-in_err-put_in-clause-filed
returns-in_err-put_in-clause-filed c =
    let x = c.index_mut.result.now in
    let y : OnFile = record { file = x.file; pages = c.put_in.new.pages } in
    (same_at c.args.claim.file c.args.at c.args.lists.now.items x y c.requires.filed c.requires.at c.index_mut.ensures.value refl c.put_in.ensures.full c.in_err-put_in.ensures.err).filed

pub returns-clause-ok : goal.returns-clause-ok
returns-clause-ok c =
    let claim = c.args.claim in
    let lists = c.args.lists.now.items in
    let x = c.index_mut.result.now in
    let y : OnFile = record { file = x.file; pages = c.put_in.new.pages } in
    (done_at (inserted claim) claim.file c.args.at lists x y c.requires.filed c.requires.at c.index_mut.ensures.value refl c.put_in.ensures.full c.in_ok-put_in.ensures.ok (inserted_on claim (joined lists)) (inserted_alone claim (joined lists) c.requires.ordered)).claims

pub returns-clause-filed : goal.returns-clause-filed
returns-clause-filed c =
    let claim = c.args.claim in
    let lists = c.args.lists.now.items in
    let x = c.index_mut.result.now in
    let y : OnFile = record { file = x.file; pages = c.put_in.new.pages } in
    (done_at (inserted claim) claim.file c.args.at lists x y c.requires.filed c.requires.at c.index_mut.ensures.value refl c.put_in.ensures.full c.in_ok-put_in.ensures.ok (inserted_on claim (joined lists)) (inserted_alone claim (joined lists) c.requires.ordered)).filed
