-- A message's step is what its deeds leave and tell, and so is the end of a connection.
use Rattle.std.proofs.Common.{◌≡◌, ℕ, List, ◌++◌, Option, Some, None, refl, sym}
use Rattle.xl_base.specs.declared.journal.Exports.{Exports}
use Rattle.xl_smb.specs.Heads.{head_of}
use Rattle.xl_smb.specs.declared.head.SmbHead.{SmbHead}
use Rattle.xl_smb_state.specs.State.{Lists}
use Rattle.xl_smb_state.specs.declared.row.Scope.TheVariants as scope
use Rattle.xl_core.specs.Deeds.{all_done, all_told_of, answers_of}
use Rattle.xl_core.specs.State.{CoreState}
use Rattle.xl_front_smb.specs.Ending.{leavers_under, all_dismissed, smb_end_deeds, smb_end}
use Rattle.xl_front_smb.specs.FrontSmb.{sent_by, head_heard, plan_for, deeds_for, smb_deeds, reply_for, smb_reply, finals_for, smb_replies, stepped, smb_step}
use Rattle.xl_front_smb.specs.Plans.{Plan, Fails, Does, Opens, Locks, as_plan, deeds_of, answered_by, carried}
use Rattle.xl_plan.proofs.PlanLaws.{plan_does, plan_tells}
use Rattle.xl_front_smb.specs.Replies.{reply_of}
use Rattle.xl_front_smb.specs.State.{FrontSmb}
use Rattle.xl_front_smb.proofs.EndLaws.{ended_done, ended_told}

-- ---- a plan

plan_answers : (n : ℕ) (s : CoreState) (l : Lists) (plan : Plan) → (let r = carried n s l plan in (r.0, r.2) ≡ answered_by (all_done n s (deeds_of n s l plan)) l plan (answers_of n s (deeds_of n s l plan)))
plan_answers n s l (Fails status) = refl
plan_answers n s l (Does deeds lists told) = refl
plan_answers n s l (Opens left a number row id waiting) = refl
plan_answers n s l (Locks a row) = refl

-- ---- a message

heard_does : (n : ℕ) (exports : Exports) (others : ℕ) (f : FrontSmb) (s : CoreState) (conn : ℕ) (bytes : List ℕ) (h : Option SmbHead) → (stepped n exports others f s conn bytes h).3 ≡ all_done n s (deeds_for n exports others f s conn bytes h)
heard_does n exports others f s conn bytes None = refl
heard_does n exports others f s conn bytes (Some h) = plan_does n s f.state (as_plan f.state (plan_for exports others f s conn bytes h))

heard_tells : (n : ℕ) (exports : Exports) (others : ℕ) (f : FrontSmb) (s : CoreState) (conn : ℕ) (bytes : List ℕ) (h : Option SmbHead) → (stepped n exports others f s conn bytes h).1 ≡ all_told_of n s (deeds_for n exports others f s conn bytes h)
heard_tells n exports others f s conn bytes None = refl
heard_tells n exports others f s conn bytes (Some h) = plan_tells n s f.state (as_plan f.state (plan_for exports others f s conn bytes h))

heard_replies : (n : ℕ) (exports : Exports) (others : ℕ) (f : FrontSmb) (s : CoreState) (conn : ℕ) (bytes : List ℕ) (h : Option SmbHead)
    → (stepped n exports others f s conn bytes h).0
    ≡ finals_for exports others f s conn bytes (answers_of n s (deeds_for n exports others f s conn bytes h)) (all_told_of n s (deeds_for n exports others f s conn bytes h)) (all_done n s (deeds_for n exports others f s conn bytes h)) h
    ++ sent_by conn (reply_for exports others f s conn bytes (answers_of n s (deeds_for n exports others f s conn bytes h)) (all_done n s (deeds_for n exports others f s conn bytes h)) h)
heard_replies n exports others f s conn bytes None = refl
heard_replies n exports others f s conn bytes (Some h) =
    let plan = plan_for exports others f s conn bytes h in
    λ j. (all_dismissed (plan_tells n s f.state (as_plan f.state plan) j) (plan_answers n s f.state plan j).1).0 ++ sent_by conn (reply_of h (plan_answers n s f.state plan j).0)

pub step_does : (n : ℕ) (exports : Exports) (others : ℕ) (f : FrontSmb) (s : CoreState) (conn : ℕ) (bytes : List ℕ) → (smb_step n exports others f s conn bytes).3 ≡ all_done n s (smb_deeds n exports others f s conn bytes)
unfolding smb_step smb_deeds
step_does n exports others f s conn bytes = heard_does n exports others f s conn bytes (head_heard (head_of bytes))

pub step_tells : (n : ℕ) (exports : Exports) (others : ℕ) (f : FrontSmb) (s : CoreState) (conn : ℕ) (bytes : List ℕ) → (smb_step n exports others f s conn bytes).1 ≡ all_told_of n s (smb_deeds n exports others f s conn bytes)
unfolding smb_step smb_deeds
step_tells n exports others f s conn bytes = heard_tells n exports others f s conn bytes (head_heard (head_of bytes))

pub step_replies : (n : ℕ) (exports : Exports) (others : ℕ) (f : FrontSmb) (s : CoreState) (conn : ℕ) (bytes : List ℕ) → (smb_step n exports others f s conn bytes).0 ≡ smb_replies exports others f s conn bytes (answers_of n s (smb_deeds n exports others f s conn bytes)) (all_told_of n s (smb_deeds n exports others f s conn bytes)) (all_done n s (smb_deeds n exports others f s conn bytes))
unfolding smb_step smb_replies smb_reply smb_deeds
step_replies n exports others f s conn bytes = heard_replies n exports others f s conn bytes (head_heard (head_of bytes))

-- ---- the end of a connection

pub end_does : (n : ℕ) (f : FrontSmb) (s : CoreState) (conn : ℕ) → (smb_end f s conn).2 ≡ all_done n s (smb_end_deeds f s conn)
unfolding smb_end smb_end_deeds
end_does n f s conn = sym (ended_done n s (leavers_under s.names (scope.Connection conn) f.state))

pub end_tells : (n : ℕ) (f : FrontSmb) (s : CoreState) (conn : ℕ) → (smb_end f s conn).0 ≡ all_told_of n s (smb_end_deeds f s conn)
unfolding smb_end smb_end_deeds
end_tells n f s conn = sym (ended_told n s (leavers_under s.names (scope.Connection conn) f.state))
