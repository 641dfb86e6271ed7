-- The results of each procedure (XNFS C702, chapter 14).
use Rattle.std.specs.Prelude.{◌≡◌, ℕ, ◌^◌, ◌==◌, ◌||◌, Bool, true, false, List, Result, nat_lt, if◌then◌else◌}
use Rattle.std.proofs.Common.{refl}
use Rattle.xl_base.specs.Formats.{Format, Cases, case, Chosen, chosen, spelled, IsMade}
use Rattle.xl_rpc.specs.declared.fault.RpcBad.{RpcBad}
use Rattle.xl_rpc.specs.declared.fault.RpcBad.TheVariants as bad
use Rattle.xl_format.specs.Formats.{u64, i32, flag, ◌⋆◌, followed, seen, nothing, numbered, otherwise, none_else, choice, optional}
use Rattle.xl_nlm.specs.declared.item.NlmStatus.{NlmStatus}
use Rattle.xl_nlm.specs.declared.item.NlmStatus.TheVariants as stats
use Rattle.xl_nlm.specs.Items.{HolderItem, TestResItem, ResItem, ShareResItem, ReplyItem, Void, TestAnswer, Answer, ShareAnswer}
use Rattle.xl_nlm.specs.Arguments.{name}

-- nlm4_stats
abbrev pub status_number : NlmStatus → ℕ
status_number stats.Granted = 0
status_number stats.Denied = 1
status_number stats.DeniedNolocks = 2
status_number stats.Blocked = 3
status_number stats.DeniedGracePeriod = 4
status_number stats.Deadlck = 5
status_number stats.Rofs = 6
status_number stats.StaleFh = 7
status_number stats.Fbig = 8
status_number stats.Failed = 9

abbrev pub made_status : ℕ → NlmStatus
made_status n =
    if n == 0 then stats.Granted else if n == 1 then stats.Denied else if n == 2 then stats.DeniedNolocks else if n == 3 then stats.Blocked else if n == 4 then stats.DeniedGracePeriod
    else if n == 5 then stats.Deadlck else if n == 6 then stats.Rofs else if n == 7 then stats.StaleFh else if n == 8 then stats.Fbig else stats.Failed

pub status_made : (s : NlmStatus) → (made_status (status_number s) ≡ s) × (nat_lt (status_number s) (2 ^ 32) ≡ true)
status_made stats.Granted = (refl, refl)
status_made _ = (refl, refl)

-- nlm4_stats; any other number is a fault (NLM-1)
unfoldable pub status : Format NlmStatus RpcBad
status = numbered bad.Value made_status status_number status_made

-- nlm4_holder
unfoldable pub holder : Format HolderItem RpcBad
holder = seen (λ h. record { exclusive = h.0; svid = h.1.0; oh = h.1.1.0; l_offset = h.1.1.1.0; l_len = h.1.1.1.1 })
    (λ h. (h.exclusive, (h.svid, (h.oh, (h.l_offset, h.l_len))))) (flag ⋆ i32 ⋆ name ⋆ u64 ⋆ u64) (λ _. refl) (λ _. refl)

-- a holder stands just if the status is Denied
abbrev pub is_denied : NlmStatus → Bool
is_denied stats.Denied = true
is_denied _ = false

-- nlm4_testres
unfoldable pub test_res : Format TestResItem RpcBad
test_res = seen (λ r. record { cookie = r.0; stat = r.1.0; holder = r.1.1 }) (λ r. (r.cookie, (r.stat, r.holder))) (name ⋆ followed status (λ s. optional (is_denied s) holder)) (λ _. refl) (λ _. refl)

-- nlm4_res
unfoldable pub res : Format ResItem RpcBad
res = seen (λ r. record { cookie = r.0; stat = r.1 }) (λ r. (r.cookie, r.stat)) (name ⋆ status) (λ _. refl) (λ _. refl)

-- nlm4_shareres
unfoldable pub share_res : Format ShareResItem RpcBad
share_res = seen (λ r. record { cookie = r.0; stat = r.1.0; sequence = r.1.1 }) (λ r. (r.cookie, (r.stat, r.sequence))) (name ⋆ status ⋆ i32) (λ _. refl) (λ _. refl)

-- ---- the results by their procedure

-- the forms: no results 0, testres 1, res 2, shareres 3; of another procedure none
abbrev pub form_of : ℕ → ℕ
form_of proc =
    if (proc == 0) || (proc == 23) then 0 else if proc == 1 then 1
    else if (proc == 2) || (proc == 3) || (proc == 4) || (proc == 5) || (proc == 22) then 2
    else if (proc == 20) || (proc == 21) then 3 else 4

abbrev pub replies : Cases ℕ ReplyItem RpcBad
replies = case 0 (λ _. Void) nothing (case 1 TestAnswer test_res (case 2 Answer res (case 3 ShareAnswer share_res (otherwise bad.Value))))

abbrev pub reply : ReplyItem → Chosen ℕ ReplyItem RpcBad
reply Void = chosen 0 (λ _. Void) nothing tt
reply (TestAnswer r) = chosen 1 TestAnswer test_res r
reply (Answer r) = chosen 2 Answer res r
reply (ShareAnswer r) = chosen 3 ShareAnswer share_res r

pub reply_made : (r : ReplyItem) → IsMade replies r (reply r)
reply_made Void = (refl, λ _ _. refl)
reply_made _ = (refl, λ _ _. refl)

-- the results of the procedure of this number
unfoldable pub results_of : ℕ → Format ReplyItem RpcBad
results_of proc = choice replies reply (λ _. refl, (λ _. refl, (λ _. refl, (λ _. refl, none_else reply _ bad.Value)))) reply_made (form_of proc)

abbrev pub results : ReplyItem → List ℕ
results r = spelled (reply r)

abbrev pub ReplyFits : ReplyItem → Type 0
ReplyFits r = (reply r).Fit

abbrev pub ResFits : ResItem → Type 0
ResFits r = res.Fit r

-- results of this procedure that have a spelling
abbrev pub IsReplyTo : ℕ → ReplyItem → Type 0
IsReplyTo proc r = ((reply r).key ≡ form_of proc) × ReplyFits r

abbrev pub results_at : ℕ → List ℕ → Result (ReplyItem × List ℕ) RpcBad
results_at proc bytes = (results_of proc).at bytes
