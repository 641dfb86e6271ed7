-- What the answer to a call of GRANTED does.
use Rattle.std.proofs.Common.{◌≡◌, ℕ, Bool, true, false, not, ◌≤◌, List, [], ◌∷◌, ◌++◌, Option, Some, None, refl, sym, ap, subst, ◌∙◌, append-nil}
use Rattle.std.specs.Bool.{◌==◌}
use Rattle.std.specs.List.{find}
use Rattle.xl_nlm.specs.Items.{ResItem, Answer as ResAnswer}
use Rattle.xl_nlm.specs.Replies.{res, ResFits, results_at, results_of}
use Rattle.xl_rpc.proofs.ReplyLaws.{reply_codec}
use Rattle.xl_rpc.specs.Replies.{reply}
use Rattle.xl_rpc.specs.Xdr.{UnsignedFits}
use Rattle.xl_rpc.specs.declared.reply.Verdict.TheVariants.{Success}
use Rattle.xl_core.specs.Decide.{ask}
use Rattle.xl_core.specs.Deeds.{Asks, all_done, all_told_of, AreFit}
use Rattle.xl_front_nlm.proofs.AskLaws.{own_client}
use Rattle.xl_front_nlm.proofs.AimLaws.{grant_real}
use Rattle.xl_core.specs.State.{CoreState}
use Rattle.xl_core.specs.declared.ask.Effect.{Effect}
use Rattle.xl_front_nlm.specs.Answers.{is_granted, refuses_with, refuses_by, refuses, refused_grant, refusal_deeds, called_deeds, given_up, with_front, called_by, nlm_called}
use Rattle.xl_front_nlm.specs.Asks.{refusal_ask}
use Rattle.xl_front_nlm.specs.Grants.{grant_of}
use Rattle.xl_front_nlm.specs.Hosts.{rooms}
use Rattle.xl_front_nlm.specs.State.{FrontState, taken}
use Rattle.xl_front_nlm.specs.declared.call.GrantedCall.{GrantedCall}
use Rattle.xl_front_nlm.specs.declared.grant.Grant.{Grant}

-- ---- as the code does it

pub called_given_up : (n : ℕ) (f after : FrontState) (s new : CoreState) (number : ℕ) (reply : Option (List ℕ)) (call : GrantedCall) (refused : Bool) (grant : Option Grant) (effects : List Effect)
    → refused ≡ refuses reply → Some call ≡ find (λ (c : GrantedCall). c.number == number) f.calls → after ≡ taken f number → grant ≡ refused_grant s refused (Some call)
    → given_up n after.hosts s grant ≡ (effects, new) → nlm_called n f s number reply ≡ (effects, after, new)
unfolding nlm_called
called_given_up n f after s new number reply call refused grant effects said found gone told is =
    ap (λ (o : Option GrantedCall). called_by n f s number (refuses reply) o) (sym found)
    ∙ ap (λ (b : Bool). called_by n f s number b (Some call)) (sym said)
    ∙ ap (λ (g : Option Grant). with_front (taken f number) (given_up n f.hosts s g)) (sym told)
    ∙ ap (λ (r : List Effect × CoreState). with_front (taken f number) r) (subst (λ (hosts : List (List ℕ)). given_up n hosts s grant ≡ (effects, new)) (ap (λ (x : FrontState). x.hosts) gone) is)
    ∙ ap (λ (x : FrontState). with_front x (effects, new)) (sym gone)

-- ---- what it does

given_does : (n : ℕ) (hosts : List (List ℕ)) (s : CoreState) (o : Option Grant) → ((given_up n hosts s o).1 ≡ all_done n s (refusal_deeds hosts o)) × ((given_up n hosts s o).0 ≡ all_told_of n s (refusal_deeds hosts o))
given_does n hosts s None = (refl, refl)
given_does n hosts s (Some g) = (refl, sym (append-nil (ask n (rooms hosts) s (refusal_ask g)).1))

by_call : (n : ℕ) (f : FrontState) (s : CoreState) (number : ℕ) (refused : Bool) (o : Option GrantedCall) → ((called_by n f s number refused o).2 ≡ all_done n s (refusal_deeds f.hosts (refused_grant s refused o))) × ((called_by n f s number refused o).0 ≡ all_told_of n s (refusal_deeds f.hosts (refused_grant s refused o)))
by_call n f s number refused None = (refl, refl)
by_call n f s number refused (Some call) = given_does n f.hosts s (refused_grant s refused (Some call))

pub answer_does : (n : ℕ) (f : FrontState) (s : CoreState) (number : ℕ) (reply : Option (List ℕ)) → (nlm_called n f s number reply).2 ≡ all_done n s (called_deeds f s number reply)
unfolding nlm_called
answer_does n f s number reply = (by_call n f s number (refuses reply) (find (λ (c : GrantedCall). c.number == number) f.calls)).0

pub answer_tells : (n : ℕ) (f : FrontState) (s : CoreState) (number : ℕ) (reply : Option (List ℕ)) → (nlm_called n f s number reply).0 ≡ all_told_of n s (called_deeds f s number reply)
unfolding nlm_called
answer_tells n f s number reply = (by_call n f s number (refuses reply) (find (λ (c : GrantedCall). c.number == number) f.calls)).1

refusal_takes : (n : ℕ) (hosts : List (List ℕ)) (s : CoreState) (o : Option Grant) → ((g : Grant) → o ≡ Some g → g.first ≤ g.last) → AreFit n s (refusal_deeds hosts o)
refusal_takes n hosts s None real = tt
refusal_takes n hosts s (Some g) real = (record { act = real g refl; own = refl; party = own_client g.caller; wish = refl }, tt)

refused_real : (s : CoreState) (refused : Bool) (o : Option GrantedCall) (g : Grant) → refused_grant s refused o ≡ Some g → g.first ≤ g.last
refused_real s refused None g e = absurd cc
refused_real s true (Some call) g e = grant_real s.names call.claim g e
refused_real s false (Some call) g e = absurd cc

pub answer_takes : (n : ℕ) (f : FrontState) (s : CoreState) (number : ℕ) (reply : Option (List ℕ)) → AreFit n s (called_deeds f s number reply)
answer_takes n f s number reply =
    let o = refused_grant s (refuses reply) (find (λ (c : GrantedCall). c.number == number) f.calls) in
    refusal_takes n f.hosts s o (λ g e. refused_real s (refuses reply) (find (λ (c : GrantedCall). c.number == number) f.calls) g e)

-- a refusal of a call that awaits its answer unlocks what the call told, any other end does nothing
pub refused_unlocks : (f : FrontState) (s : CoreState) (number : ℕ) (reply : Option (List ℕ)) (call : GrantedCall) (g : Grant)
    → find (λ (c : GrantedCall). c.number == number) f.calls ≡ Some call → refuses reply ≡ true → grant_of s.names call.claim ≡ Some g → called_deeds f s number reply ≡ Asks (rooms f.hosts) (refusal_ask g) ∷ []
refused_unlocks f s number reply call g e k grant =
    ap (λ (o : Option GrantedCall). refusal_deeds f.hosts (refused_grant s (refuses reply) o)) e
    ∙ ap (λ (b : Bool). refusal_deeds f.hosts (refused_grant s b (Some call))) k
    ∙ ap (λ (o : Option Grant). refusal_deeds f.hosts o) grant

not_refused : (s : CoreState) (o : Option GrantedCall) → refused_grant s false o ≡ None
not_refused s None = refl
not_refused s (Some call) = refl

pub lost_keeps : (f : FrontState) (s : CoreState) (number : ℕ) (reply : Option (List ℕ)) → refuses reply ≡ false → called_deeds f s number reply ≡ []
lost_keeps f s number reply k =
    let o = find (λ (c : GrantedCall). c.number == number) f.calls in
    ap (λ (b : Bool). refusal_deeds f.hosts (refused_grant s b o)) k ∙ ap (λ (g : Option Grant). refusal_deeds f.hosts g) (not_refused s o)

pub unknown_keeps : (f : FrontState) (s : CoreState) (number : ℕ) (reply : Option (List ℕ)) → find (λ (c : GrantedCall). c.number == number) f.calls ≡ None → called_deeds f s number reply ≡ []
unknown_keeps f s number reply e = ap (λ (o : Option GrantedCall). refusal_deeds f.hosts (refused_grant s (refuses reply) o)) e

-- ---- what a reply says

-- the results behind an accepted reply
body_says : (r : ResItem) (rest : List ℕ) → ResFits r → refuses_with (results_at 5 (res.spell r ++ rest)) ≡ not (is_granted r.stat)
unfolding results_of
body_says r rest fits = ap refuses_with ((results_of 5).codec.again (ResAnswer r) rest (refl, fits))

pub refusals_are_read : (xid : ℕ) (r : ResItem) (rest : List ℕ) → UnsignedFits xid → ResFits r → refuses (Some (reply xid Success ++ (res.spell r ++ rest))) ≡ not (is_granted r.stat)
unfolding refuses
refusals_are_read xid r rest small fits = ap refuses_by (reply_codec.again (xid, Success) (res.spell r ++ rest) (small, tt)) ∙ body_says r rest fits
