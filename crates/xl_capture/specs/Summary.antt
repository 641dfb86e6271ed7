-- The summary of a journal: how many entries it has, how many calls of NLM were granted and denied, and how many claims
-- are held after it.
use Rattle.std.specs.Prelude.{ℕ, Bool, true, false, nat_lt, if◌then◌else◌, List, [], ◌∷◌, ◌++◌, length, drop, codes, count_by, Option, Some, None, Result, Ok, Err}
use Rattle.std.specs.Fmt.{decimal}
use Rattle.xl_base.specs.declared.event.Dest.{Dest}
use Rattle.xl_base.specs.declared.event.Dest.TheVariants.{Conn, Back}
use Rattle.xl_base.specs.declared.event.Out.{Out}
use Rattle.xl_base.specs.declared.journal.Entry.{Entry}
use Rattle.xl_matrix.specs.declared.claim.Claim.{Claim}
use Rattle.xl_rpc.specs.declared.fault.RpcBad.{RpcBad}
use Rattle.xl_rpc.specs.declared.reply.Verdict.{Verdict}
use Rattle.xl_rpc.specs.declared.reply.Verdict.TheVariants.{Success}
use Rattle.xl_rpc.specs.Replies.{reply_at}
use Rattle.xl_nlm.specs.declared.item.NlmStatus.{NlmStatus}
use Rattle.xl_nlm.specs.declared.item.NlmStatus.TheVariants as stats
use Rattle.xl_nlm.specs.Items.{ReplyItem, Answer}
use Rattle.xl_nlm.specs.Replies.{results_at}

-- ---- the status of a reply: the results of each call on locks begin with a cookie and a status

abbrev pub stat_of : ReplyItem → Option NlmStatus
stat_of (Answer r) = Some r.stat
stat_of _ = None

abbrev pub results_status : Result (ReplyItem × List ℕ) RpcBad → Option NlmStatus
results_status (Ok x) = stat_of x.0
results_status (Err fault) = None

-- behind the verdict of a call that was done
abbrev pub body_status : Verdict → List ℕ → Option NlmStatus
body_status Success body = results_status (results_at 2 body)
body_status _ body = None

abbrev pub read_status : Result ((ℕ × Verdict) × List ℕ) RpcBad → Option NlmStatus
read_status (Ok x) = body_status x.0.1 x.1
read_status (Err fault) = None

-- in a message, in front of which stand the four bytes of its frame
unfoldable pub framed_status : List ℕ → Option NlmStatus
framed_status bytes = if nat_lt (length bytes) 4 then None else read_status (reply_at (drop 4 bytes))

-- a call to a client is no reply
abbrev pub sent_status : Dest → List ℕ → Option NlmStatus
sent_status (Conn number) bytes = framed_status bytes
sent_status (Back call) bytes = None

-- the status, or if there is none the other one
abbrev pub or_status : Option NlmStatus → Option NlmStatus → Option NlmStatus
or_status None other = other
or_status (Some status) other = Some status

-- the first status in what an entry sends (MAKE-1)
abbrev pub told_status : List Out → Option NlmStatus
told_status [] = None
told_status (o ∷ os) = or_status (sent_status o.dest o.bytes) (told_status os)

-- ---- what is counted

abbrev pub is_granted : Option NlmStatus → Bool
is_granted (Some stats.Granted) = true
is_granted _ = false

abbrev pub is_denied : Option NlmStatus → Bool
is_denied (Some stats.Denied) = true
is_denied _ = false

-- how many of the entries answer that a call was granted (status 0), and that it was denied (status 1)
abbrev pub granted : List Entry → ℕ
granted es = count_by (λ e. is_granted (told_status e.outs)) es

abbrev pub denied : List Entry → ℕ
denied es = count_by (λ e. is_denied (told_status e.outs)) es

-- four numbers, a line each
unfoldable pub counts : ℕ → ℕ → ℕ → ℕ → List ℕ
counts entries granted denied claims =
    codes "entries " ++ decimal entries ++ codes "\n" ++ codes "granted " ++ decimal granted ++ codes "\n" ++ codes "denied " ++ decimal denied ++ codes "\n" ++ codes "claims " ++ decimal claims ++ codes "\n"

-- the summary of a journal's entries, and of the claims that are held after it
abbrev pub summary : List Entry → List Claim → List ℕ
summary es claims = counts (length es) (granted es) (denied es) (length claims)
