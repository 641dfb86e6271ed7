-- What is written is read again.
use Rattle.std.proofs.Common.{◌≡◌, ℕ, List, ◌++◌, length, drop, Ok, refl}
use Rattle.xl_rpc.proofs.XdrLaws.{read_again}
use Rattle.xl_nlm.specs.Items.{CallItem, ReplyItem}
use Rattle.xl_nlm.specs.Arguments.{arguments_of, procedure_of, arguments, CallFits, arguments_at}
use Rattle.xl_nlm.specs.Replies.{results_of, results, IsReplyTo, results_at}

pub call_again : (c : CallItem) (old new rest : List ℕ) → CallFits c → new ≡ old ++ arguments c → arguments_at (procedure_of c) (drop (length old) new ++ rest) ≡ Ok (c, rest)
unfolding arguments_of
call_again c old new rest fits is = read_again ((arguments_of (procedure_of c)).codec) c old new (refl, fits) is rest

pub reply_again : (proc : ℕ) (r : ReplyItem) (old new rest : List ℕ) → IsReplyTo proc r → new ≡ old ++ results r → results_at proc (drop (length old) new ++ rest) ≡ Ok (r, rest)
unfolding results_of
reply_again proc r old new rest fits is = read_again ((results_of proc).codec) r old new fits is rest
