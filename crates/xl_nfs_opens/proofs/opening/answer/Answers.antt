use Rattle.std.proofs.Common.{◌≡◌, ◌∙◌, ◌||◌, ℕ, Bool, true, Option, Some, rules, sym, ap}
use Rattle.xl_core.specs.State.{CoreState}
use Rattle.xl_core.specs.declared.ask.Answer.{Answer}
use Rattle.xl_nfs.specs.Opens.{OpenArgsItem, shown_open_args}
use Rattle.xl_nfs_state.specs.State.{NfsLists}
use Rattle.xl_nfs_opens.specs.Opens.{answered, granted_by, granted_wish, is_granted, open_held, reclaims}
use Rattle.xl_nfs_opens.specs.Plans.{Outcome, carried}
use Rattle.xl_nfs_opens.specs.declared.opener.Opener.{Opener}
use Rattle.xl_nfs_opens.proofs.BehindLaws.{ended_done}
use Rattle.xl_nfs_opens.proofs.opening.answer.Goals as goal
use Rattle.xl_nfs_opens.proofs.opening.answer.Goals.{then-opened, else-opened}

-- an answer that grants
granted_done : (n : ℕ) (s : CoreState) (l : NfsLists) (current : Option ℕ) (o : Opener) (a : OpenArgsItem) (file : ℕ) (confirmed both : Bool) (wish write : Option Bool) (answer : Answer) (r : Outcome) → is_granted answer ≡ true → both ≡ (confirmed || reclaims a.claim) → write ≡ granted_wish s o file wish
    → carried n s l (granted_by s l o a file both write (open_held l o file)) ≡ r → carried n s l (answered l current o a file confirmed wish answer s) ≡ r
granted_done n s l current o a file confirmed both wish write answer r granted is wishes e =
    rw granted
    (ap (λ (b : Bool). carried n s l (granted_by s l o a file b (granted_wish s o file wish) (open_held l o file))) (sym is)
    ∙ ap (λ (w : Option Bool). carried n s l (granted_by s l o a file both w (open_held l o file))) (sym wishes) ∙ e)

pub returns-then-is_granted-clause-done : goal.returns-then-is_granted-clause-done
returns-then-is_granted-clause-done c = λ n.
    granted_done n c.args.core.now c.args.state.now (Some c.args.opening.now.at) c.args.opening.now.opener.now (shown_open_args c.args.opening.now.args.now) c.args.opened.file c.args.opened.confirmed c.if-opened.confirmed c.args.opened.write c.in_ok-write.write c.args.answer _ (sym c.is_granted.ensures ∙ c.if-is_granted.true)
    (elim c.if-opened.branch [
      | then-opened w ↦ search rules
      | else-opened w ↦ search rules
    ])
    c.in_ok-write.ensures (c.in_ok-granted.ensures.done n)

pub returns-clause-done : goal.returns-clause-done
returns-clause-done c = λ n. ended_done n c.args.core.now c.args.state.now (Some c.args.opening.now.at) c.args.opening.now.opener.now (shown_open_args c.args.opening.now.args.now) c.args.opened.file c.args.opened.confirmed c.reclaims-reclaim.result c.args.opened.write c.args.answer c.answer_status-status.result _ (sym c.is_granted.ensures ∙ c.if-is_granted.false) c.reclaims-reclaim.ensures c.answer_status-status.ensures (c.in_ok-ended.ensures.done n c.args.core.now)
