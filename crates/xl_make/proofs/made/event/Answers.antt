use Rattle.std.proofs.Common.{◌%◌, ◌∙◌, List, ℕ, sym, ap, subst}
use Rattle.xl_base.specs.declared.event.Event.TheVariants.{Message}
use Rattle.xl_nlm.specs.Arguments.{CallFits}
use Rattle.xl_nlm.specs.Items.{LockItem, CallItem}
use Rattle.xl_make.specs.Made.{asked_by, exclusive_by, record_of}
use Rattle.xl_make.proofs.CallLaws.{call_fits}
use Rattle.xl_make.proofs.made.event.Goals as goal

pub put_record-requires-clause-fits : goal.put_record-requires-clause-fits
put_record-requires-clause-fits c =
    let draws = c.args.draws in
    let is = c.call-procedure.ensures.call ∙ ap (λ (l : LockItem). asked_by (draws.first % 4) (exclusive_by draws.first) l) c.lock.ensures in
    subst (λ (x : CallItem). CallFits x) (sym is) (call_fits (draws.first % 4) (exclusive_by draws.first) draws.second draws.third draws.fourth)

pub returns : goal.returns
returns c =
    let draws = c.args.draws in
    let is = c.call-procedure.ensures.call ∙ ap (λ (l : LockItem). asked_by (draws.first % 4) (exclusive_by draws.first) l) c.lock.ensures in
    ap (λ (bytes : List ℕ). Message 0 bytes) (c.in_ok-from_slice.ensures ∙ c.as_slice.ensures ∙ c.in_ok-put_record.ensures ∙ ap (λ (x : CallItem). record_of c.args.number x) is)
