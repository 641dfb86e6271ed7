-- What a plan comes to, put together.
use Rattle.std.proofs.Common.{◌≡◌, ℕ, Bool, true, false, List, [], ◌∷◌, Some, Option, Result, sym, ap, ◌∙◌, append-nil}
use Rattle.std.specs.Prelude.{not}
use Rattle.xl_nfs.specs.Opens.{OpenArgsItem}
use Rattle.xl_nfs.specs.declared.status.NfsStatus.{NfsStatus}
use Rattle.xl_nfs.specs.declared.status.NfsStatus.TheVariants as statuses
use Rattle.xl_nfs_opens.specs.Checks.{refused_by}
use Rattle.xl_nfs_opens.specs.Opens.{all_rooms, share_ask, has_room, is_granted, answer_status, reclaims, refused, answered, wish_of, open_wish, open_on, opened_file, open_by, open_as, gives_all, open_judged, opener_of, judged, client_in, open_of, open_at}
use Rattle.std.specs.List.{filter}
use Rattle.xl_nfs_state.specs.State.{is_whose, without_owner}
use Rattle.xl_nfs_state.specs.declared.client.ClientRow.{ClientRow}
use Rattle.xl_nfs_state.specs.declared.stateid.StateidRow.{StateidRow}
use Rattle.xl_nfs_state.specs.declared.stateid.Whose.TheVariants as whose
use Rattle.xl_nfs_opens.specs.Renewing.{renewals, renewing}
use Rattle.xl_nfs_opens.specs.declared.opener.Judged.{Judged}
use Rattle.xl_nfs_opens.specs.declared.opener.Judged.TheVariants as judgements
use Rattle.xl_nfs_opens.specs.declared.opener.Opener.{Opener}
use Rattle.xl_wait.specs.declared.waiter.Rooms.{Rooms}
use Rattle.xl_core.specs.Decide.{ask}
use Rattle.xl_core.specs.Deeds.{all_done, all_told_of}
use Rattle.xl_core.specs.State.{CoreState}
use Rattle.xl_core.specs.declared.ask.Answer.{Answer}
use Rattle.xl_core.specs.declared.ask.Ask.{Ask}
use Rattle.xl_core.specs.declared.ask.Effect.{Effect}
use Rattle.xl_nfs_state.specs.State.{NfsLists}
use Rattle.xl_plan.specs.Plans.{Behind, Asking}
use Rattle.xl_nfs_opens.specs.Plans.{Plan, Outcome, told_behind, carried}
use Rattle.xl_nfs_opens.specs.declared.told.Told.{Told}

-- an ask, and the rest by its answer
pub asking_done : (n : ℕ) (s t u : CoreState) (l lists : NfsLists) (handle : Option ℕ) (left : Rooms) (a : Ask) (rest : Answer → CoreState → Plan) (answer : Answer) (told : Told) (effects : List Effect)
    → ask n left s a ≡ (answer, effects, t) → carried n t l (rest answer t) ≡ (told, handle, [], lists, u) → carried n s l (Asking left a rest) ≡ (told, handle, effects, lists, u)
asking_done n s t u l lists handle left a rest answer told effects asked e =
    ap (λ (r : Answer × List Effect × CoreState). told_behind r.1 (carried n r.2 l (rest r.0 r.2))) asked
    ∙ ap (λ (x : Outcome). told_behind effects x) e
    ∙ ap (λ (x : List Effect). (told, handle, x, lists, u)) (append-nil effects)

-- the share that is asked where there is room
pub room_done : (n others : ℕ) (s t u : CoreState) (l lists : NfsLists) (current handle : Option ℕ) (o : Opener) (a : OpenArgsItem) (confirmed : Bool) (file : ℕ) (wish : Option Bool) (request : Ask) (answer : Answer) (told : Told) (effects : List Effect)
    → has_room others l o file ≡ true → wish ≡ wish_of s l o a confirmed file → request ≡ share_ask wish o a file → ask n all_rooms s request ≡ (answer, effects, t) → carried n t l (answered l current o a file confirmed wish answer t) ≡ (told, handle, [], lists, u)
    → carried n s l (open_on others s l current o a confirmed file) ≡ (told, handle, effects, lists, u)
room_done n others s t u l lists current handle o a confirmed file wish request answer told effects room wishes is asked e =
    ap (λ (w : Option Bool). carried n s l (refused_by (refused l current o a confirmed) ((not (has_room others l o file), statuses.Resource) ∷ []) (open_wish l current o a confirmed file w))) (sym wishes)
    ∙ rw room
    (asking_done n s t u l lists handle all_rooms (share_ask wish o a file) (answered l current o a file confirmed wish) answer told effects (ap (λ (q : Ask). ask n all_rooms s q) (sym is) ∙ asked) e)

-- what is opened, or why not
pub open_done : (n : ℕ) (files : List (List ℕ)) (others : ℕ) (s : CoreState) (l : NfsLists) (current : Option ℕ) (at : ℕ) (o : Opener) (a : OpenArgsItem) (confirmed : Bool) (found : Result ℕ NfsStatus) (r : Outcome) → found ≡ opened_file files s l o.client at a → carried n s l (open_by others s l current o a confirmed found) ≡ r → carried n s l (open_as files others s l current at o a confirmed) ≡ r
unfolding open_as
open_done n files others s l current at o a confirmed found r is e = ap (λ (x : Result ℕ NfsStatus). carried n s l (open_by others s l current o a confirmed x)) (sym is) ∙ e

-- the lease of the client that is named is renewed, and then the rest
pub renewing_done : (n : ℕ) (s t : CoreState) (l : NfsLists) (client who : Option ℕ) (rest : CoreState → Plan) (r : Outcome) → client ≡ who → all_done n s (renewals l client) ≡ t → all_told_of n s (renewals l client) ≡ [] → carried n t l (rest t) ≡ r → carried n s l (renewing l who rest) ≡ r
renewing_done n s t l client who rest r same done told e =
    ap (λ (w : Option ℕ). carried n s l (renewing l w rest)) (sym same)
    ∙ (λ i. told_behind (told i) (carried n (done i) l (rest (done i))))
    ∙ ap (λ (x : Outcome). told_behind [] x) e

-- an owner that was never confirmed goes with its open, and is new
pub anew_done : (n : ℕ) (files : List (List ℕ)) (others : ℕ) (s t : CoreState) (l k : NfsLists) (current : Option ℕ) (at : ℕ) (o : Opener) (a : OpenArgsItem) (number : ℕ) (rows : List StateidRow) (r : Outcome) → rows ≡ filter (is_whose (whose.Owner number)) l.stateids → all_done n s (gives_all s o rows) ≡ t → all_told_of n s (gives_all s o rows) ≡ [] → k ≡ without_owner number l
    → carried n t k (open_as files others t k current at o a false) ≡ r → carried n s l (open_judged files others s l current at o a (judgements.Anew number)) ≡ r
anew_done n files others s t l k current at o a number rows r are done told is e =
    ap (λ (rs : List StateidRow). carried n s l (Behind (gives_all s o rs) (without_owner number l) (λ u. open_as files others u (without_owner number l) current at o a false))) (sym are)
    ∙ (λ i. told_behind (told i) (carried n (done i) (without_owner number l) (open_as files others (done i) (without_owner number l) current at o a false)))
    ∙ ap (λ (x : NfsLists). told_behind [] (carried n t x (open_as files others t x current at o a false))) (sym is)
    ∙ ap (λ (x : Outcome). told_behind [] x) e

-- an answer that grants nothing
pub ended_done : (n : ℕ) (s : CoreState) (l : NfsLists) (current : Option ℕ) (o : Opener) (a : OpenArgsItem) (file : ℕ) (confirmed reclaim : Bool) (wish : Option Bool) (answer : Answer) (status : NfsStatus) (r : Outcome) → is_granted answer ≡ false → reclaim ≡ reclaims a.claim → status ≡ answer_status reclaim answer → carried n s l (refused l current o a confirmed status) ≡ r → carried n s l (answered l current o a file confirmed wish answer s) ≡ r
ended_done n s l current o a file confirmed reclaim wish answer status r denied same is e =
    rw denied
    (ap (λ (b : Bool). carried n s l (refused l current o a confirmed (answer_status b answer))) (sym same)
    ∙ ap (λ (x : NfsStatus). carried n s l (refused l current o a confirmed x)) (sym is) ∙ e)

-- by what is found for the client and the owner
pub at_done : (n : ℕ) (files : List (List ℕ)) (others : ℕ) (s : CoreState) (l : NfsLists) (at : ℕ) (a : OpenArgsItem) (c : ClientRow) (o : Opener) (j : Judged) (r : Outcome) → Some c ≡ client_in s l a.owner.clientid → o ≡ opener_of c a → j ≡ judged l o a.seqid → carried n s l (open_judged files others s l (Some at) at o a j) ≡ r → carried n s l (open_at files others s l a (Some at)) ≡ r
at_done n files others s l at a c o j r found is said e =
    ap (λ (x : Option ClientRow). carried n s l (open_of files others s l (Some at) at a x)) (sym found)
    ∙ ap (λ (x : Opener). carried n s l (open_judged files others s l (Some at) at x a (judged l x a.seqid))) (sym is)
    ∙ ap (λ (x : Judged). carried n s l (open_judged files others s l (Some at) at o a x)) (sym said) ∙ e
