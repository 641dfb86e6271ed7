use Rattle.std.proofs.Common.{◌≤◌, List, length, sym, subst, refl}
use Rattle.xl_matrix.specs.declared.claim.Claim.{Claim}
use Rattle.xl_table.specs.declared.files.OnFile.{OnFile}
use Rattle.xl_table.proofs.FileLaws.{full_at, here_at, same_at, on_err}
use Rattle.xl_table.proofs.GrantLaws.{write_done}
use Rattle.xl_table.proofs.change.write_at.Goals as goal

pub splice-requires-clause-within : goal.splice-requires-clause-within
splice-requires-clause-within c =
    let change = c.args.change.now in
    subst (λ (cs : List Claim). change.end ≤ length cs) (sym (here_at change.file c.args.at c.args.lists.now.items c.index_mut.result.now c.requires.filed c.requires.at c.index_mut.ensures.value)) c.requires.fits.within

pub returns-in_err-splice-clause-err : goal.returns-in_err-splice-clause-err
returns-in_err-splice-clause-err c =
    let x = c.index_mut.result.now in
    let y : OnFile = record { file = x.file; pages = c.splice.new.pages } in
    on_err c.from_residual.result (same_at c.args.change.now.file c.args.at c.args.lists.now.items x y c.requires.filed c.requires.at c.index_mut.ensures.value refl c.splice.ensures.full c.in_err-splice.ensures.err).claims

pub returns-in_err-splice-clause-filed : goal.returns-in_err-splice-clause-filed
returns-in_err-splice-clause-filed c =
    let x = c.index_mut.result.now in
    let y : OnFile = record { file = x.file; pages = c.splice.new.pages } in
    (same_at c.args.change.now.file c.args.at c.args.lists.now.items x y c.requires.filed c.requires.at c.index_mut.ensures.value refl c.splice.ensures.full c.in_err-splice.ensures.err).filed

pub returns-clause-ok : goal.returns-clause-ok
returns-clause-ok c =
    let x = c.index_mut.result.now in
    let y : OnFile = record { file = x.file; pages = c.splice.new.pages } in
    (write_done c.args.change.now c.args.at c.args.lists.now.items x y c.requires.filed c.requires.at c.requires.fits c.index_mut.ensures.value refl c.splice.ensures.full c.in_ok-splice.ensures.ok).claims

pub returns-clause-filed : goal.returns-clause-filed
returns-clause-filed c =
    let x = c.index_mut.result.now in
    let y : OnFile = record { file = x.file; pages = c.splice.new.pages } in
    (write_done c.args.change.now c.args.at c.args.lists.now.items x y c.requires.filed c.requires.at c.requires.fits c.index_mut.ensures.value refl c.splice.ensures.full c.in_ok-splice.ensures.ok).filed

pub splice-requires-clause-full : goal.splice-requires-clause-full
splice-requires-clause-full c = full_at c.args.change.now.file c.args.at c.args.lists.now.items c.index_mut.result.now c.requires.filed c.requires.at c.index_mut.ensures.value
