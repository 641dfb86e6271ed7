use Rattle.std.proofs.Common.{List, sym, subst}
use Rattle.xl_matrix.specs.declared.claim.Claim.{Claim}
use Rattle.xl_index.specs.Index.{HasCome}
use Rattle.xl_index.proofs.MomentLaws.{row}
use Rattle.xl_index.proofs.IndexLaws.{still_has, come_back, both_come}
use Rattle.xl_index.proofs.index.+enter_all.Goals as goal

pub leave-requires : goal.leave-requires
leave-requires t c =
    record { index = still_has c.args.index.now c.enter.new.self c.enter_all.new.index _ c.requires.index c.in_ok-enter.ensures.ok c.in-Err.ensures.err }

pub returns-in-Err-clause-err : goal.returns-in-Err-clause-err
returns-in-Err-clause-err t c =
    come_back c.args.index.now c.enter.new.self c.enter_all.new.index c.leave.new.self _ c.in_ok-enter.ensures.ok c.in-Err.ensures.err c.leave.ensures

pub returns-in_default-enter_all-clause-ok : goal.returns-in_default-enter_all-clause-ok
returns-in_default-enter_all-clause-ok t c =
    subst (λ (cs : List Claim). HasCome c.args.index.now c.enter_all.new.index cs) (sym (row c.args.claims.now _ c.in-len1-up.len_at_least))
    (both_come c.args.index.now c.enter.new.self c.enter_all.new.index _ _ c.in_ok-enter.ensures.ok c.in_default-enter_all.ensures.ok)
