-- How what became of a call is sent (XNFS C702, nlm4_stats, nlm4_testres, nlm4_res, nlm4_shareres).
use Rattle.std.specs.Prelude.{ℕ, ℤ, pos, false, List, [], Option, Some, None, slice_get}
use Rattle.xl_base.specs.declared.name.Owner.{Owner}
use Rattle.xl_base.specs.declared.name.Owner.TheVariants as owners
use Rattle.xl_matrix.specs.declared.claim.Claim.{Claim}
use Rattle.xl_matrix.specs.declared.claim.Extent.TheVariants.{Bytes}
use Rattle.xl_matrix.specs.declared.claim.What.{What}
use Rattle.xl_matrix.specs.declared.claim.What.TheVariants.{Range}
use Rattle.xl_names.specs.declared.name.Name.{Name}
use Rattle.xl_names.specs.declared.name.Name.TheVariants.{NlmRange}
use Rattle.xl_nlm.specs.Items.{CallItem, Test, Lock, Cancel, Unlock, Share, Unshare, NmLock, HolderItem, TestResItem, ReplyItem, Void, TestAnswer, Answer as ResAnswer, ShareAnswer}
use Rattle.xl_nlm.specs.declared.item.NlmStatus.{NlmStatus}
use Rattle.xl_nlm.specs.declared.item.NlmStatus.TheVariants as stats
use Rattle.xl_core.specs.declared.ask.Answer.{Answer}
use Rattle.xl_core.specs.declared.ask.Answer.TheVariants as answers
use Rattle.xl_front_nlm.specs.Aims.{length_of}
use Rattle.xl_front_nlm.specs.declared.outcome.Outcome.{Outcome}
use Rattle.xl_front_nlm.specs.declared.outcome.Outcome.TheVariants.{NoFile, TooBig, Waits, NotWaiting, Answered, Ended, Nothing}

-- ---- the status, by one map for all calls

-- the map of the core's answers (NLM-7, NLM-14)
abbrev pub answer_status : Answer → NlmStatus
answer_status (answers.Granted c) = stats.Granted
answer_status (answers.Conflict c) = stats.Denied
answer_status (answers.Queued id) = stats.Blocked
answer_status (answers.Recall c) = stats.Denied
answer_status (answers.Grace until) = stats.DeniedGracePeriod
answer_status (answers.NoGrace clock) = stats.DeniedGracePeriod
answer_status answers.NotRecorded = stats.Denied
answer_status (answers.Full limit) = stats.DeniedNolocks
answer_status answers.NotHeld = stats.Granted
answer_status answers.StoreFailed = stats.Failed

-- the status that says how a call came out (XNFS C702, nlm4_stats)
abbrev pub status_of : Outcome → NlmStatus
status_of NoFile = stats.StaleFh
status_of TooBig = stats.Fbig
status_of Waits = stats.Blocked
status_of NotWaiting = stats.Denied
status_of (Answered answer) = answer_status answer
status_of Ended = stats.Granted
status_of Nothing = stats.Granted

-- ---- TEST

-- what a test may be answered: it asks for nothing that is entered, waits for or needs room, no cache is in its way, and it never
-- reclaims (CORE-4)
abbrev pub IsTestAnswer : Answer → Type 0
IsTestAnswer (answers.Granted c) = Unit {0}
IsTestAnswer (answers.Conflict c) = Unit {0}
IsTestAnswer (answers.Grace until) = Unit {0}
IsTestAnswer _ = ⊥

abbrev pub IsTestOutcome : Outcome → Type 0
IsTestOutcome NoFile = Unit {0}
IsTestOutcome TooBig = Unit {0}
IsTestOutcome (Answered answer) = IsTestAnswer answer
IsTestOutcome _ = ⊥

-- what may become of a call: of a test these outcomes, so that it is denied just if it gives a holder
abbrev pub IsOutcomeOf : CallItem → Outcome → Type 0
IsOutcomeOf (Test a) outcome = IsTestOutcome outcome
IsOutcomeOf _ outcome = Unit {0}

-- the svid and oh of an owner of NLM ranges; of another 0 and none
abbrev pub parts_by : Option Name → ℤ × List ℕ
parts_by (Some (NlmRange caller svid oh)) = (svid, oh)
parts_by _ = (pos 0, [])

-- the process and the handle of an owner, as a denied test gives them
abbrev pub owner_parts : List Name → Owner → ℤ × List ℕ
owner_parts names (owners.Name protocol number) = parts_by (slice_get names number)
owner_parts names (owners.Open number) = (pos 0, [])

-- the holder that a denied test gives (nlm4_holder)
abbrev pub holder_by : ℤ × List ℕ → What → HolderItem
holder_by who (Range (Bytes first last) exclusive) = record { exclusive = exclusive; svid = who.0; oh = who.1; l_offset = first; l_len = length_of first last }
holder_by who _ = record { exclusive = false; svid = who.0; oh = who.1; l_offset = 0; l_len = length_of 0 0 }

-- a held range as TEST gives it (NLM-19)
abbrev pub holder_of : List Name → Claim → HolderItem
holder_of names c = holder_by (owner_parts names c.owner) c.what

-- the holder, if one is given
abbrev pub test_holder : List Name → Outcome → Option HolderItem
test_holder names (Answered (answers.Conflict c)) = Some (holder_of names c)
test_holder names _ = None

-- the result of a test (nlm4_testres)
abbrev pub test_result : List ℕ → List Name → Outcome → TestResItem
test_result cookie names outcome = record { cookie = cookie; stat = status_of outcome; holder = test_holder names outcome }

-- ---- the results of a call

-- with the call's cookie
abbrev pub res_of : List ℕ → Outcome → ReplyItem
res_of cookie outcome = ResAnswer (record { cookie = cookie; stat = status_of outcome })

-- the sequence is not used (NLM-2)
abbrev pub share_res_of : List ℕ → Outcome → ReplyItem
share_res_of cookie outcome = ShareAnswer (record { cookie = cookie; stat = status_of outcome; sequence = pos 0 })

-- these are the names kept after the call
unfoldable pub reply_of : List Name → CallItem → Outcome → ReplyItem
reply_of names (Test a) outcome = TestAnswer (test_result a.cookie names outcome)
reply_of names (Lock a) outcome = res_of a.cookie outcome
reply_of names (Cancel a) outcome = res_of a.cookie outcome
reply_of names (Unlock a) outcome = res_of a.cookie outcome
reply_of names (Share a) outcome = share_res_of a.cookie outcome
reply_of names (Unshare a) outcome = share_res_of a.cookie outcome
reply_of names (NmLock a) outcome = res_of a.cookie outcome
reply_of names _ outcome = Void
