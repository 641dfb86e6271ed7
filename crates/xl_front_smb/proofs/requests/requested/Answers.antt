use Rattle.xl_plan.proofs.BudgetLaws.{leaves_self}
use Rattle.std.proofs.Common.{subst}
use Rattle.xl_smb.specs.Calls.{shown_call}
use Rattle.xl_smb.specs.Heads.{head_at}
use Rattle.xl_smb.specs.Messages.{IsOf, HasSpelling, shown}
use Rattle.xl_smb.specs.declared.message.SmbMessage.{SmbMessage}
use Rattle.xl_front_smb.proofs.ReplyLaws.{answers_head}
use Rattle.xl_front_smb.proofs.requests.requested.Goals as goal

pub returns-in_ok-planned-in-Ok-Call-clause-answer : goal.returns-in_ok-planned-in-Ok-Call-clause-answer
returns-in_ok-planned-in-Ok-Call-clause-answer g c =
    let found = subst (λ (m : SmbMessage). IsOf (head_at c.args.bytes.now) (shown m) × HasSpelling (shown m)) c.in-Ok-Call.field-0-is c.in-Ok-Call.ensures.found in
    answers_head c.args.bytes.now c.args.arrival.now.head.now c.in-Ok-Call.of (shown_call c.in-Ok-Call.call) c.in_ok-planned-in-Ok-Call.field-0.0 c.requires.head found.0 found.1 c.in_ok-planned-in-Ok-Call.ensures.answer

pub returns-then-head-ne0-clause-leaves : goal.returns-then-head-ne0-clause-leaves
returns-then-head-ne0-clause-leaves g c = leaves_self _ _ _ c.requires.ready

pub returns-then-is_none-clause-leaves : goal.returns-then-is_none-clause-leaves
returns-then-is_none-clause-leaves g c = leaves_self _ _ _ c.requires.ready

pub returns-in-Ok-Reply-clause-leaves : goal.returns-in-Ok-Reply-clause-leaves
returns-in-Ok-Reply-clause-leaves g c = leaves_self _ _ _ c.requires.ready
