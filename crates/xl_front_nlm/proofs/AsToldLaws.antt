-- What a reply says is done is done.
use Rattle.std.proofs.Common.{◌≡◌, ℕ, List, [], ◌∷◌, ◌++◌, length, Option, Some, sym, ap, subst, ◌∙◌}
use Rattle.xl_base.specs.declared.journal.Exports.{Exports}
use Rattle.xl_matrix.specs.declared.claim.Claim.{Claim}
use Rattle.xl_nlm.specs.Items.{CallItem, ShareArgsItem, Null, Test, Lock, Cancel, Unlock, Granted, Share, Unshare, NmLock, FreeAll}
use Rattle.xl_nlm.specs.Replies.{results}
use Rattle.xl_nlm.specs.declared.item.NlmStatus.TheVariants as stats
use Rattle.xl_programs.specs.Programs.{RequestItem}
use Rattle.xl_programs.specs.Sent.{sent_to}
use Rattle.xl_rpc.specs.Replies.{reply}
use Rattle.xl_rpc.specs.declared.reply.Verdict.TheVariants.{Success}
use Rattle.xl_table.specs.Relock.{shares_of}
use Rattle.xl_core.specs.Askers.{asker}
use Rattle.xl_core.specs.Deeds.{all_done, answers_of}
use Rattle.xl_core.specs.Good.{IsGood}
use Rattle.xl_core.specs.State.{CoreState}
use Rattle.xl_front_nlm.specs.Aims.{exported}
use Rattle.xl_front_nlm.specs.Asks.{rights_of, share_ask}
use Rattle.xl_front_nlm.specs.AsTold.{AreAsTold, IsAsTold}
use Rattle.xl_front_nlm.specs.FrontNlm.{call_in, nlm_deeds, nlm_reply, nlm_step, replied, sent_with}
use Rattle.xl_front_nlm.specs.Hosts.{host_rows}
use Rattle.xl_front_nlm.specs.Results.{reply_of, status_of}
use Rattle.xl_front_nlm.specs.Serving.{served}
use Rattle.xl_front_nlm.specs.State.{FrontState}
use Rattle.xl_front_nlm.specs.declared.outcome.Outcome.{Outcome}
use Rattle.xl_front_nlm.proofs.DoesLaws.{step_does, step_replies}
use Rattle.xl_front_nlm.proofs.LeftLaws.{cancels_take_out, freed_have_nothing, locks_are_held, nm_locks_are_held, shares_are_held, unlocks_are_free, unshared_are_free}

call_told : (n count : ℕ) (f : FrontState) (s : CoreState) (call : CallItem) → IsGood s → (let r = served n count f s call in IsAsTold count f s call r.0 r.3)
call_told n count f s (Lock a) good = λ at aim granted. (locks_are_held n count f s a at good aim granted).0
call_told n count f s (NmLock a) good = λ at aim granted. (nm_locks_are_held n count f s a at good aim granted).0
call_told n count f s (Unlock a) good = λ at aim granted. unlocks_are_free n count f s a at good aim granted
call_told n count f s (Share a) good = λ file is granted. (shares_are_held n count f s a file good is granted).0
call_told n count f s (Unshare a) good = λ file number is named. unshared_are_free n count f s a file number good is named
call_told n count f s (Cancel a) good = λ at aim. cancels_take_out n count f s a at good aim
call_told n count f s (FreeAll a) good = λ number named. freed_have_nothing n count f s a number good named
call_told n count f s Null good = tt
call_told n count f s (Test a) good = tt
call_told n count f s (Granted a) good = tt

-- a step of a request whose call this is
step_sends : (n : ℕ) (exports : Exports) (f : FrontState) (s : CoreState) (conn : ℕ) (r : RequestItem) (call : CallItem) → call_in r ≡ Some call
    → (let d = served n (length exports.files) f s call in (nlm_step n exports f s conn r).0 ≡ sent_to conn (reply r.xid Success ++ results (reply_of d.3.names call d.0)))
unfolding nlm_step
step_sends n exports f s conn r call e = ap (λ (o : Option CallItem). (sent_with conn (replied n (length exports.files) f s r.xid o)).0) e

step_leaves : (n : ℕ) (exports : Exports) (f : FrontState) (s : CoreState) (conn : ℕ) (r : RequestItem) (call : CallItem) → call_in r ≡ Some call → (nlm_step n exports f s conn r).3 ≡ (served n (length exports.files) f s call).3
unfolding nlm_step
step_leaves n exports f s conn r call e = ap (λ (o : Option CallItem). (sent_with conn (replied n (length exports.files) f s r.xid o)).3) e

pub request_told : (n : ℕ) (exports : Exports) (f : FrontState) (s : CoreState) (conn : ℕ) (r : RequestItem) → IsGood s
    → (let t = all_done n s (nlm_deeds n exports f s r) in AreAsTold exports f s conn r (sent_to conn (nlm_reply exports f s t.names r (answers_of n s (nlm_deeds n exports f s r)))) t)
request_told n exports f s conn r good call e =
    let d = served n (length exports.files) f s call in
    let left : d.3 ≡ all_done n s (nlm_deeds n exports f s r) = sym (step_leaves n exports f s conn r call e) ∙ step_does n exports f s conn r in (
      d.0,
      sym (step_replies n exports f s conn r) ∙ step_sends n exports f s conn r call e ∙ ap (λ (u : CoreState). sent_to conn (reply r.xid Success ++ results (reply_of u.names call d.0))) left,
      subst (λ (u : CoreState). IsAsTold (length exports.files) f s call d.0 u) left (call_told n (length exports.files) f s call good),
    )

-- ---- a machine that doesn't

none_one : {A : Type 0} (x : A) → [] ≡ (x ∷ []) → ⊥
none_one x e = cc

-- one answers a SHARE that it is granted, and keeps nothing
pub share_dropped_is : (count : ℕ) (f : FrontState) (s t : CoreState) (a : ShareArgsItem) (outcome : Outcome) (file : ℕ) → exported count a.fh ≡ Some file → status_of outcome ≡ stats.Granted → t.claims ≡ [] → IsAsTold count f s (Share a) outcome t → ⊥
share_dropped_is count f s t a outcome file is granted none told =
    none_one (rights_of a.access, rights_of a.mode) (sym (ap (λ (cs : List Claim). shares_of file (asker (share_ask (host_rows a.caller_name f.hosts) a file) s.names) cs) none) ∙ told file is granted)
