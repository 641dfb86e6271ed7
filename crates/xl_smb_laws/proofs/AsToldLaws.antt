-- What a reply says is done is done.
use Rattle.std.proofs.Common.{◌≡◌, ◌+◌, ℕ, true, false, eqb, List, [], ◌∷◌, ◌++◌, Option, Some, refl, sym, ap, subst, ◌∙◌, inl, inr}
use Rattle.std.specs.Map.{keys_of}
use Rattle.std.proofs.lemmas.Bool.{cases_Bool, true≢false}
use Rattle.xl_base.specs.Lists.{IsIn}
use Rattle.xl_base.specs.declared.event.Out.{Out}
use Rattle.xl_base.specs.declared.journal.Exports.{Exports}
use Rattle.xl_base.specs.declared.name.Owner.TheVariants as owners
use Rattle.xl_base.specs.declared.name.Party.{Party}
use Rattle.xl_matrix.specs.Blocks.{is_cache}
use Rattle.xl_matrix.specs.declared.claim.Claim.{Claim}
use Rattle.xl_matrix.specs.declared.claim.What.{What}
use Rattle.xl_matrix.specs.declared.claim.What.TheVariants.{Share}
use Rattle.xl_smb.specs.Calls.{CallItem, Negotiate, SessionSetup, Logoff, TreeConnect, TreeDisconnect, Create, Close, Lock, Cancel, Echo, OplockBreak, Other}
use Rattle.xl_smb.specs.Creates.{CreateCallItem}
use Rattle.xl_smb.specs.Heads.{head_of}
use Rattle.xl_smb.specs.declared.breaks.Break.{Break as Acknowledgement}
use Rattle.xl_smb.specs.declared.breaks.Break.TheVariants as breaks
use Rattle.xl_smb.specs.declared.file.FileId.{FileId}
use Rattle.xl_smb.specs.declared.head.SmbHead.{SmbHead}
use Rattle.xl_smb.specs.declared.lock.CloseCall.{CloseCall}
use Rattle.xl_smb_state.specs.Links.{AreDistinct, IsSound}
use Rattle.xl_smb_state.specs.State.{Lists, client_of, covers_holder, open_of, opens_under}
use Rattle.xl_smb_state.specs.declared.row.Open.{Open}
use Rattle.xl_smb_state.specs.declared.row.Place.{Place}
use Rattle.xl_smb_state.specs.declared.row.Scope.{Scope}
use Rattle.xl_smb_state.specs.declared.row.Scope.TheVariants as scope
use Rattle.xl_wait.specs.Waiting.{is_waiting}
use Rattle.xl_wait.specs.declared.waiter.Waiter.{Waiter}
use Rattle.xl_core.specs.Deeds.{Deed, all_done, all_told_of, answers_of}
use Rattle.xl_core.specs.Good.{IsGood}
use Rattle.xl_core.specs.Places.{ShareOf, held_in}
use Rattle.xl_core.specs.Settle.{waits_as}
use Rattle.xl_core.specs.State.{CoreState}
use Rattle.xl_core.specs.declared.ask.Effect.{Effect}
use Rattle.xl_plan.proofs.PlanLaws.{plan_does}
use Rattle.xl_smb_locks.specs.Levels.{level_held}
use Rattle.xl_smb_locks.specs.declared.levels.Caching.{Caching}
use Rattle.xl_front_smb.specs.Ending.{all_dismissed, ends, leavers_under, party_going}
use Rattle.xl_front_smb.specs.Files.{access_of, deny_of, open_row}
use Rattle.xl_front_smb.specs.FrontSmb.{finals_for, head_heard, reply_for, sent_by, smb_deeds, smb_replies, smb_reply, smb_step}
use Rattle.xl_front_smb.specs.Laws.{IsAckOf, IsInSession, IsOnTree, IsRequest, Without, outcome_of, rows_but, waits_among}
use Rattle.xl_front_smb.specs.Locks.{request_named}
use Rattle.xl_front_smb.specs.Plans.{Plan, Fails, Does, Opens, Locks, Outcome, answered_by, as_plan, carried, deeds_of}
use Rattle.xl_front_smb.specs.Replies.{reply_of}
use Rattle.xl_front_smb.specs.Requests.{planned}
use Rattle.xl_front_smb.specs.State.{FrontSmb}
use Rattle.xl_front_smb.specs.Texts.{file_spelled}
use Rattle.xl_front_smb.specs.declared.told.Told.{Told}
use Rattle.xl_front_smb.specs.declared.told.Told.TheVariants as said
use Rattle.xl_front_smb.proofs.EndLaws.{dismissed_keeps, numbers_going}
use Rattle.xl_front_smb.proofs.GoneLaws.{closes_open, disconnected, done_without, logged_off, off_opens, off_sessions, off_trees, opens_out, out_one, tree_trees}
use Rattle.xl_smb_laws.specs.AsTold.{AreAsTold, IsAsTold, IsBreakTold, IsCloseTold, IsCreateTold, IsDisconnectTold, IsGone, IsLogoffTold}
use Rattle.xl_smb_laws.specs.OpenRights.{is_held_under}
use Rattle.xl_smb_laws.proofs.AskedMessageLaws.{message_deeds}
use Rattle.xl_smb_laws.proofs.AwaitedRequestLaws.{numbers_in}
use Rattle.xl_smb_laws.proofs.BreakLaws.{ack_told, lease_told}
use Rattle.xl_smb_laws.proofs.CancelLaws.{cancel_ends}
use Rattle.xl_smb_laws.proofs.CreateLaws.{open_leased, open_shares, open_stands}
use Rattle.xl_smb_laws.proofs.LeaseKeyLaws.{leased_with}
use Rattle.xl_smb_laws.proofs.MessageLaws.{request_comes, requested_is}
use Rattle.xl_smb_laws.proofs.NothingHeldLaws.{closed_leaves, nothing_left}
use Rattle.xl_smb_laws.proofs.RangeLaws.{locked_holds, unlocked_takes}

-- ---- what is kept of the lists

-- the lists once those have their final replies who wait no more
abbrev after : Outcome → Lists
after r = (all_dismissed r.1 r.2).1

same_rest : (r : Outcome) → after r ≡ record r.2 { waiting = (after r).waiting }
same_rest r = dismissed_keeps r.1 (keys_of r.2.waiting) r.2

-- ---- what is gone

none_waits : (going : List (ℕ × Option Party)) (w : Waiter) (number : ℕ) → IsIn number (numbers_in going) → waits_among going w ≡ false → waits_as number w ≡ false
none_waits [] w number here none = absurd here
none_waits (e ∷ going) w number here none =
    elim (cases_Bool (waits_as e.0 w)) [
      | inl waits ↦ (let f : true ≡ false = rw waits at none in absurd (true≢false f))
      | inr apart ↦ elim here [ inl first ↦ subst (λ (k : ℕ). waits_as k w ≡ false) first apart | inr rest ↦ none_waits going w number rest (rw apart at none) ]
    ]

gone_with : (n : ℕ) (s : CoreState) (l : Lists) (under : Scope) (m : Lists) → IsSound l → m.opens ≡ rows_but (λ (e : ℕ × Open). covers_holder under e.1.holder) l.opens → IsGone under l s (all_done n s (ends (leavers_under s.names under l))) m
gone_with n s l under m sound opens =
    let going : List (ℕ × Option Party) = leavers_under s.names under l in
    let left = done_without n going s in
    record {
      held = nothing_left s.names under l s _ sound left;
      opens = opens;
      waits = λ number w here there. none_waits going w number (subst (λ (numbers : List ℕ). IsIn number numbers) (sym (numbers_going s.names under l)) here) ((left.waiters w).0 there).1;
    }

-- ---- a request

module _ (n : ℕ) (s : CoreState) (files : List (List ℕ)) (others : ℕ) (l : Lists) (conn : ℕ) (h : SmbHead) (good : IsGood s) where
  create_told : (c : CreateCallItem) → (let r = outcome_of n s files others l conn h (Create c) in IsCreateTold files l s conn h c r.0 r.3 (after r))
  create_told c =
      let r = outcome_of n s files others l conn h (Create c) in
      record {
        share = λ client session file id cache place named at done. open_shares n s files others l conn h client c session file id cache place named at done good;
        row = λ client session file id cache place named at done.
            (let made : Open = open_row file client place c in (
              ap (λ (x : Lists). open_of (s.counter + 1) x) (same_rest r) ∙ open_stands n s files others l conn h client c session file id cache place named at done,
              leased_with r.2 (after r) (s.counter + 1) made (ap (λ (x : Lists). x.leases) (same_rest r)) (open_leased n s files others l conn h client c session file id cache place named at done),
            ));
      }

  close_told : (c : CloseCall) → (let r = outcome_of n s files others l conn h (Close c) in IsCloseTold l s conn h c r.0 r.3 (after r))
  close_told c =
      let r = outcome_of n s files others l conn h (Close c) in
      record {
        told = λ client session place number named at. closes_open n s files others l conn h client (λ (r : Outcome). r.0 ≡ said.Closed) c session place number named at refl;
        held = λ client session place number named at claim here own.
            closed_leaves number (party_going s.names l number) s _ claim
            (closes_open n s files others l conn h client (λ (r : Outcome). Without ((number, party_going s.names l number) ∷ []) s r.3) c session place number named at (done_without n ((number, party_going s.names l number) ∷ []) s)) here own;
        row = λ client session place number named at distinct.
            ap (λ (x : Lists). x.opens) (same_rest r)
            ∙ closes_open n s files others l conn h client (λ (r : Outcome). r.2.opens ≡ rows_but (λ e. eqb number e.0) l.opens) c session place number named at (out_one number l.opens distinct.opens);
      }

  logoff_told : (let r = outcome_of n s files others l conn h Logoff in IsLogoffTold l s conn h r.0 r.3 (after r))
  logoff_told =
      let r = outcome_of n s files others l conn h Logoff in
      record {
        told = λ client session named. logged_off n s files others l conn h client (λ (r : Outcome). r.0 ≡ said.LoggedOff) session named refl;
        gone = λ client session named sound distinct.
            (let under : Scope = scope.Session session in
            logged_off n s files others l conn h client (λ (x : Outcome). (m : Lists) → m.opens ≡ x.2.opens → IsGone under l s x.3 m) session named
            (λ m same. gone_with n s l under m sound (same ∙ off_opens session l distinct)) (after r) (ap (λ (x : Lists). x.opens) (same_rest r)));
        sessions = λ client session named distinct.
            ap (λ (x : Lists). x.sessions) (same_rest r)
            ∙ logged_off n s files others l conn h client (λ (x : Outcome). x.2.sessions ≡ rows_but (λ e. eqb session e.0) l.sessions) session named (off_sessions session l (opens_under (scope.Session session) l) distinct);
        trees = λ client session named distinct.
            ap (λ (x : Lists). x.trees) (same_rest r)
            ∙ logged_off n s files others l conn h client (λ (x : Outcome). x.2.trees ≡ rows_but (λ e. eqb e.1.session session) l.trees) session named (off_trees session l (opens_under (scope.Session session) l) distinct);
      }

  disconnect_told : (let r = outcome_of n s files others l conn h TreeDisconnect in IsDisconnectTold l s conn h r.0 r.3 (after r))
  disconnect_told =
      let r = outcome_of n s files others l conn h TreeDisconnect in
      record {
        told = λ client session place named. disconnected n s files others l conn h client (λ (r : Outcome). r.0 ≡ said.Disconnected) session place named refl;
        gone = λ client session place named sound distinct.
            (let under : Scope = scope.Tree place.tree in
            disconnected n s files others l conn h client (λ (x : Outcome). (m : Lists) → m.opens ≡ x.2.opens → IsGone under l s x.3 m) session place named
            (λ m same. gone_with n s l under m sound (same ∙ opens_out under l distinct.opens)) (after r) (ap (λ (x : Lists). x.opens) (same_rest r)));
        trees = λ client session place named distinct.
            ap (λ (x : Lists). x.trees) (same_rest r)
            ∙ disconnected n s files others l conn h client (λ (x : Outcome). x.2.trees ≡ rows_but (λ e. eqb place.tree e.0) l.trees) session place named (tree_trees l place.tree (opens_under (scope.Tree place.tree) l) distinct);
      }

  break_told : (b : Acknowledgement) → (let r = outcome_of n s files others l conn h (OplockBreak b) in IsBreakTold l s conn h b r.0 r.3)
  break_told (breaks.Oplock level id) = λ client session number named left row of told. ack_told n s files others l conn h client session level id number row of named left good told
  break_told (breaks.Lease lease) = λ client session left row named there told. lease_told n s files others l conn h client session lease named row there left good told

  call_told : (call : CallItem) → (let r = outcome_of n s files others l conn h call in IsAsTold files l s conn h call r.0 r.3 (after r))
  call_told (Lock c) = record {
    locks = λ client session place number row of first done. ((locked_holds n s files others l conn h client c session place number row of first good).0 done).0;
    unlocks = λ client session place number row of first done. (unlocked_takes n s files others l conn h client c session place number row of first good done).0;
  }
  call_told (Create c) = create_told c
  call_told (Close c) = close_told c
  call_told Logoff = logoff_told
  call_told TreeDisconnect = disconnect_told
  call_told (OplockBreak b) = break_told b
  call_told Cancel = λ client id known named. cancel_ends n s files others l conn h client id good known named
  call_told (Negotiate c) = tt
  call_told (SessionSetup c) = tt
  call_told (TreeConnect path) = tt
  call_told Echo = tt
  call_told Other = tt

-- ---- a message

plan_answers : (n : ℕ) (s : CoreState) (l : Lists) (plan : Plan) → (carried n s l plan).0 ≡ (answered_by (all_done n s (deeds_of n s l plan)) l plan (answers_of n s (deeds_of n s l plan))).0
plan_answers n s l (Fails status) = refl
plan_answers n s l (Does deeds lists told) = refl
plan_answers n s l (Opens left a number row id waiting) = refl
plan_answers n s l (Locks a row) = refl

own_reply : (n : ℕ) (exports : Exports) (others : ℕ) (f : FrontSmb) (s : CoreState) (conn : ℕ) (bytes : List ℕ) (h : SmbHead) (call : CallItem) → IsRequest bytes h call
    → (let ds = smb_deeds n exports others f s conn bytes in smb_reply exports others f s conn bytes (answers_of n s ds) (all_done n s ds) ≡ reply_of h (outcome_of n s exports.files others f.state conn h call).0)
unfolding smb_reply
own_reply n exports others f s conn bytes h call is =
    let plan = planned s exports.files others f.state conn h call in
    let ds = deeds_of n s f.state plan in
    ap (λ (es : List Deed). reply_for exports others f s conn bytes (answers_of n s es) (all_done n s es) (head_heard (head_of bytes))) (message_deeds n exports others f s conn bytes h call is)
    ∙ ap (λ (o : Option SmbHead). reply_for exports others f s conn bytes (answers_of n s ds) (all_done n s ds) o) is.heard
    ∙ ap (λ (p : Plan). reply_of h (answered_by (all_done n s ds) f.state p (answers_of n s ds)).0) (requested_is s exports.files others f.state conn bytes h call is)
    ∙ ap (λ (answer : Told). reply_of h answer) (sym (plan_answers n s f.state plan))

pub message_told : (n : ℕ) (exports : Exports) (others : ℕ) (f : FrontSmb) (s : CoreState) (conn : ℕ) (bytes : List ℕ) → IsGood s
    → (let ds = smb_deeds n exports others f s conn bytes in AreAsTold exports.files f.state s conn bytes (smb_replies exports others f s conn bytes (answers_of n s ds) (all_told_of n s ds) (all_done n s ds)) (all_done n s ds) (smb_step n exports others f s conn bytes).2.state)
unfolding smb_replies
message_told n exports others f s conn bytes good h call is =
    let ds = smb_deeds n exports others f s conn bytes in
    let finals = finals_for exports others f s conn bytes (answers_of n s ds) (all_told_of n s ds) (all_done n s ds) (head_heard (head_of bytes)) in
    let r = outcome_of n s exports.files others f.state conn h call in
    let left : r.3 ≡ all_done n s ds = plan_does n s f.state (as_plan f.state (planned s exports.files others f.state conn h call)) ∙ ap (λ (es : List Deed). all_done n s es) (sym (message_deeds n exports others f s conn bytes h call is)) in (
      r.0,
      finals,
      ap (λ (o : Option (List ℕ)). finals ++ sent_by conn o) (own_reply n exports others f s conn bytes h call is),
      subst (λ (t : CoreState). IsAsTold exports.files f.state s conn h call r.0 t (smb_step n exports others f s conn bytes).2.state) left
          (subst (λ (m : Lists). IsAsTold exports.files f.state s conn h call r.0 r.3 m) (sym (ap (λ (x : List Out × List Effect × FrontSmb × CoreState). x.2.state) (request_comes n exports others f s conn bytes h call is)))
          (call_told n s exports.files others f.state conn h good call)),
    )

-- ---- machines that don't

none_one : (w : What) → [] ≡ (w ∷ []) → ⊥
none_one w e = cc

-- one answers a CREATE that its file is open, and keeps nothing
pub open_dropped_is : (files : List (List ℕ)) (l m : Lists) (s t : CoreState) (conn : ℕ) (h : SmbHead) (c : CreateCallItem) (client : List ℕ) (session file id : ℕ) (cache : Caching) (place : Place) → IsOnTree s l conn h client session place → file_spelled files c.name ≡ Some file → t.claims ≡ [] → IsAsTold files l s conn h (Create c) (said.Opened id cache) t m → ⊥
open_dropped_is files l m s t conn h c client session file id cache place named at none told =
    none_one (Share (access_of c.desired_access) (deny_of (access_of c.desired_access) c.share_access))
    (sym (ap (λ (cs : List Claim). held_in cs (ShareOf file (owners.Open (s.counter + 1)))) none) ∙ told.share client session file id cache place named at refl)

-- one answers a LOGOFF, and keeps a share or a range of an open under its session
pub kept_by_logoff_is : (files : List (List ℕ)) (l m : Lists) (s t : CoreState) (conn : ℕ) (h : SmbHead) (client : List ℕ) (session number : ℕ) (answer : Told) (c : Claim) → IsInSession s l conn h client session → IsSound l → AreDistinct l → is_held_under (scope.Session session) (open_of number l) ≡ true → IsIn c t.claims → c.owner ≡ owners.Open number → is_cache c.what ≡ false
    → IsAsTold files l s conn h Logoff answer t m → ⊥
kept_by_logoff_is files l m s t conn h client session number answer c named sound distinct under here own kept told = true≢false (sym ((told.gone client session named sound distinct).held.opens number c under here own) ∙ kept)

-- one answers a break with a level that isn't the one which the open has then
pub level_untrue_is : (files : List (List ℕ)) (l m : Lists) (s t : CoreState) (conn : ℕ) (h : SmbHead) (client : List ℕ) (session level number named left : ℕ) (id : FileId) (row : Open) → IsAckOf s l conn h client id level session number row → (level_held t row.file number ≡ left → ⊥) → IsAsTold files l s conn h (OplockBreak (breaks.Oplock level id)) (said.Acknowledged named left) t m → ⊥
level_untrue_is files l m s t conn h client session level number named left id row of other told = other (told client session number named left row of refl).2

-- one lets who is cancelled wait on
pub waits_on_is : (files : List (List ℕ)) (l m : Lists) (s t : CoreState) (conn : ℕ) (h : SmbHead) (client : List ℕ) (id : ℕ) (answer : Told) → client_of conn l ≡ Some client → request_named conn l h.message_id h.route ≡ Some id → is_waiting id t.waiters ≡ true → IsAsTold files l s conn h Cancel answer t m → ⊥
waits_on_is files l m s t conn h client id answer known named waits told = true≢false (sym waits ∙ told client id known named)
