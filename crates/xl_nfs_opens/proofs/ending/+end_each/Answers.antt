use Rattle.std.proofs.Common.{◌∙◌, ℕ, List, Option, sym, ap}
use Rattle.xl_nfs_state.specs.declared.stateid.StateidRow.{StateidRow}
use Rattle.xl_core.specs.Deeds.{all_done}
use Rattle.xl_nfs_opens.specs.Closing.{ends_locks, gives_up, lock_owner, opener_by}
use Rattle.xl_nfs_opens.specs.declared.opener.Opener.{Opener}
use Rattle.xl_nfs_opens.proofs.UnderLaws.{ends_done, ends_told}
use Rattle.xl_nfs_opens.proofs.ending.+end_each.Goals as goal

pub returns-clause-done : goal.returns-clause-done
returns-clause-done g t c = λ n.
    let s = c.args.core.now in
    let l = c.args.state.now in
    let r = c.args.above.now in
    let owner = c.in_ok-owner.ensures ∙ ap (λ (m : ℕ). opener_by l r.client m) c.lock_owner.ensures in
    ap (λ (qs : List StateidRow). all_done n s (ends_locks l r qs)) c.in-Some.ensures.cases.0
    ∙ ends_done n s c.give_up.new.core c.end_each.new.core (gives_up r.file (opener_by l r.client (lock_owner c.in-Some.lock.now.holder))) (ends_locks l r c.in-Some.rest.now)
    (ap (λ (o : Option Opener). all_done n s (gives_up r.file o)) (sym owner) ∙ c.in_ok-give_up.ensures.done n)
    (c.in_ok-end_each.ensures.done n)

pub returns-clause-told : goal.returns-clause-told
returns-clause-told g t c = λ n. ends_told n c.args.core.now c.args.state.now c.args.above.now c.args.locks.now

pub returns-clause-keeper : goal.returns-clause-keeper
returns-clause-keeper g t c = λ before told. c.in_ok-end_each.ensures.keeper before (c.in_ok-give_up.ensures.keeper before told)
