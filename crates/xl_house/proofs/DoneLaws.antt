-- What is done in a round leaves the core as its deeds do, and the core takes them; and so it is of an entry.
use Rattle.std.proofs.Common.{◌≡◌, ℕ, zero, suc, Bool, true, false, inl, inr, List, [], ◌∷◌, ◌++◌, Option, Some, None, refl, sym, ap, subst, ◌∙◌, append_assoc, append-nil}
use Rattle.std.specs.List.{AllByRecursion}
use Rattle.xl_base.proofs.Members.{all_append}
use Rattle.xl_base.specs.declared.event.Event.{Event}
use Rattle.xl_base.specs.declared.event.Event.TheVariants.{Open, Message, End, Called, Tick, Restart}
use Rattle.xl_base.specs.declared.event.Kind.{Kind}
use Rattle.xl_base.specs.declared.event.Kind.TheVariants.{Rpc, Smb}
use Rattle.xl_base.specs.declared.event.Out.{Out}
use Rattle.xl_base.specs.declared.journal.Exports.{Exports}
use Rattle.xl_base.specs.declared.name.Protocol.{Protocol}
use Rattle.xl_base.specs.declared.name.Protocol.TheVariants as protocols
use Rattle.xl_matrix.specs.declared.claim.Claim.{Claim}
use Rattle.xl_programs.specs.Programs.{RequestItem, IncomingItem, Unanswered, Refused, Asked, incoming_at}
use Rattle.xl_programs.specs.declared.program.Program.{Program}
use Rattle.xl_programs.specs.declared.program.Program.TheVariants.{Nlm, Nfs}
use Rattle.xl_programs.specs.Sent.{refusal_of, sent_to}
use Rattle.xl_core.specs.State.{CoreState, step_begun}
use Rattle.xl_core.specs.Deeds.{Deed, Lapses, Expires, turned, done, all_done, all_told_of, deeds_in_turn, or_fails, lapse_of, expiries, lapses, grace_deeds, tick_deeds, AreFit}
use Rattle.xl_core.specs.Good.{IsGood}
use Rattle.xl_core.specs.Settle.{settle}
use Rattle.xl_core.specs.Told.{told_to}
use Rattle.xl_core.specs.declared.ask.Effect.{Effect}
use Rattle.xl_base.specs.declared.event.Moment.{Moment}
use Rattle.std.proofs.lemmas.Bool.{cases_Bool, eq-eqb}
use Rattle.xl_core.specs.Leases.{ended}
use Rattle.xl_core.specs.BreakAnswers.{due, client_of}
use Rattle.xl_core.specs.Stores.{may_store}
use Rattle.xl_grace.specs.Grace.{is_over}
use Rattle.xl_core.specs.Ticks.{advanced, is_still_held, is_lease_over, may_expire}
use Rattle.xl_core.proofs.TickLaws.{tick_done, tick_fits, tick_tells}
use Rattle.xl_core.proofs.DeedLists.{deeds_good, done_append, fit_append}
use Rattle.xl_front_nlm.proofs.AnswerLaws.{answer_does, answer_takes, answer_tells}
use Rattle.xl_front_nlm.proofs.DoesLaws.{step_does, step_own, step_replies, step_takes, step_tells}
use Rattle.xl_front_nlm.proofs.GrantLaws.{telling_does, telling_takes}
use Rattle.xl_front_nlm.specs.Answers.{refusal_deeds}
use Rattle.xl_front_nlm.specs.Grants.{news, drawn_for}
use Rattle.xl_house.specs.declared.layers.Fronts.{Fronts}
use Rattle.xl_front_nlm.specs.declared.grant.Grant.{Grant}
use Rattle.xl_nfs_laws.proofs.RequestDeedLaws as nfs
use Rattle.xl_nfs_laws.proofs.RequestOwn as nfs_own
use Rattle.xl_smb_laws.proofs.RequestDeedLaws as smb
use Rattle.xl_smb_laws.proofs.RequestOwn as smb_own
use Rattle.xl_house.specs.Done.{Round, deeds_by, told_deeds, turn_deeds, turns_deeds, told_of, behind_own, round_deeds, round_outs, rounds_deeds, round_told, begun_with, done_round, first_by, first_round, heard_outs, joined_by, joined_for, joined_from, messages, part_by, round_of, rounds, rounds_by, rounds_for, rounds_in, step_by, step_round, top_by, top_round, turn_outs, deeds}
use Rattle.xl_house.specs.Journals.{is_restart}
use Rattle.xl_house.specs.Lawful.{may_do, may_follow, IsCausedBy}
use Rattle.xl_smb_frames.specs.Steps.{next_step}
use Rattle.xl_smb_frames.specs.declared.frame.Frame.{Frame}
use Rattle.xl_smb_frames.specs.declared.steps.Step.{Step}
use Rattle.xl_smb_frames.specs.declared.steps.Step.TheVariants as step
use Rattle.xl_house.specs.Machine.{Gone, Ground, advanced_by, advanced_for, begun_by, cancelled_in, found_in, frame_in, frames_begun, gone, gone_by, gone_further, gone_on, heard, heard_in, is_plain, part_done, part_in, paused_after, replied_by, run, sorted_in, steps_left, telling}
use Rattle.xl_house.specs.Sifting.{brings_frame, is_smb, last_apart, popped, sifted}
use Rattle.xl_smb_frames.specs.declared.frame.Paused.{Paused}
use Rattle.xl_house.specs.declared.connections.Connection.{Connection}
use Rattle.xl_house.specs.declared.frames.Going.{Going}
use Rattle.xl_house.specs.Own.{Own, begun, idle, program_own, record_own, message_own, end_own, own_of}
use Rattle.xl_house.specs.Owners.{AreRefusals, AreOf}
use Rattle.xl_house.specs.State.{Whole, as_found, nfs_opens, smb_opens, kind_of, rooms_of}
use Rattle.xl_house.specs.Telling.{TurnTaken, shown_by, showing, framed_by, all_shown, taken, turns, turns_sent, settled}
use Rattle.xl_house.proofs.TurnLaws.{of_turns}
use Rattle.xl_house.proofs.MayLaws.{nlm_may, nfs_may, smb_may, last_may}

-- ---- telling

shown_does : (n : ℕ) (exports : Exports) (f : Fronts) (s : CoreState) (effect : Effect) (p : Protocol) → (shown_by exports f s effect p).2 ≡ all_done n s (deeds_by exports s effect p)
shown_does n exports f s effect protocols.Nlm = telling_does n exports f.nlm s effect
shown_does n exports f s effect protocols.Nfs = refl
shown_does n exports f s effect protocols.Smb = refl

shown_takes : (n : ℕ) (exports : Exports) (s : CoreState) (effect : Effect) (p : Protocol) → AreFit n s (deeds_by exports s effect p)
shown_takes n exports s effect protocols.Nlm = telling_takes n exports s effect
shown_takes n exports s effect protocols.Nfs = tt
shown_takes n exports s effect protocols.Smb = tt

told_does : (n : ℕ) (exports : Exports) (f : Fronts) (s : CoreState) (effects : List Effect) → (all_shown exports f s effects).2 ≡ all_done n s (told_deeds exports f s effects)
told_does n exports f s [] = refl
told_does n exports f s (effect ∷ effects) =
    let r = showing exports f s effect in
    told_does n exports r.1 r.2 effects
    ∙ ap (λ (t : CoreState). all_done n t (told_deeds exports r.1 r.2 effects)) (shown_does n exports f s effect (told_to effect))
    ∙ sym (done_append n s (deeds_by exports s effect (told_to effect)) (told_deeds exports r.1 r.2 effects))

told_fit : (n : ℕ) (exports : Exports) (f : Fronts) (s : CoreState) (effects : List Effect) → AreFit n s (told_deeds exports f s effects)
told_fit n exports f s [] = tt
told_fit n exports f s (effect ∷ effects) =
    let r = showing exports f s effect in
    fit_append n s (deeds_by exports s effect (told_to effect)) (told_deeds exports r.1 r.2 effects) (shown_takes n exports s effect (told_to effect))
    (subst (λ (t : CoreState). AreFit n t (told_deeds exports r.1 r.2 effects)) (shown_does n exports f s effect (told_to effect)) (told_fit n exports r.1 r.2 effects))

abbrev Follow : List Deed → Type 0
Follow ds = AllByRecursion (λ d. may_follow d ≡ true) ds

drawn_follow : (o : Option (Claim × Grant × List ℕ)) → Follow (drawn_for o)
drawn_follow None = tt
drawn_follow (Some told) = (refl, tt)

shown_follow : (exports : Exports) (s : CoreState) (effect : Effect) (p : Protocol) → Follow (deeds_by exports s effect p)
shown_follow exports s effect protocols.Nlm = drawn_follow (news exports s effect)
shown_follow exports s effect protocols.Nfs = tt
shown_follow exports s effect protocols.Smb = tt

told_follow : (exports : Exports) (f : Fronts) (s : CoreState) (effects : List Effect) → Follow (told_deeds exports f s effects)
told_follow exports f s [] = tt
told_follow exports f s (effect ∷ effects) =
    let r = showing exports f s effect in
    all_append (λ d. may_follow d ≡ true) (deeds_by exports s effect (told_to effect)) (told_deeds exports r.1 r.2 effects) (shown_follow exports s effect (told_to effect)) (told_follow exports r.1 r.2 effects)

-- ---- turns

turn_does : (n : ℕ) (exports : Exports) (f : Fronts) (s t : CoreState) (told : List Effect) (ts : List TurnTaken) → settle n (rooms_of f) s ≡ Some (told, t)
    → (let r = all_shown exports f t told in let turn : TurnTaken = record { front = f; told = told; left = t } in (turns_sent exports r.1 r.2 ts).2 ≡ all_done n r.2 (turns_deeds exports ts) → (turns_sent exports f s (turn ∷ ts)).2 ≡ all_done n s (turns_deeds exports (turn ∷ ts)))
turn_does n exports f s t told ts e rest =
    let ds = told_deeds exports f t told in
    let later = turns_deeds exports ts in
    rest
    ∙ ap (λ (u : CoreState). all_done n u later) (told_does n exports f t told)
    ∙ sym (done_append n t ds later)
    ∙ ap (λ (x : Option (List Effect × CoreState)). all_done n (turned s x).2 (ds ++ later)) (sym e)

turns_do : (n : ℕ) (exports : Exports) (f : Fronts) (s : CoreState) → (settled n exports f s).2 ≡ all_done n s (turns_deeds exports (turns n exports f s))
unfolding settled
turns_do n exports f s =
    of_turns n exports (λ g t ts. (turns_sent exports g t ts).2 ≡ all_done n t (turns_deeds exports ts)) (λ g t. refl)
    (λ fuel g t u told e rest. let r = all_shown exports g u told in turn_does n exports g t u told (taken fuel n exports r.1 r.2) e rest) f s

turn_fits : (n : ℕ) (exports : Exports) (f : Fronts) (s t : CoreState) (told : List Effect) (ts : List TurnTaken) → settle n (rooms_of f) s ≡ Some (told, t)
    → (let r = all_shown exports f t told in AreFit n r.2 (turns_deeds exports ts) → AreFit n s (turns_deeds exports (record { front = f; told = told; left = t } ∷ ts)))
turn_fits n exports f s t told ts e rest =
    let ds = told_deeds exports f t told in
    let later = turns_deeds exports ts in (
      tt,
      subst (λ (x : Option (List Effect × CoreState)). AreFit n (turned s x).2 (ds ++ later)) (sym e)
          (fit_append n t ds later (told_fit n exports f t told) (subst (λ (u : CoreState). AreFit n u later) (told_does n exports f t told) rest)),
    )

turns_fit : (n : ℕ) (exports : Exports) (f : Fronts) (s : CoreState) → AreFit n s (turns_deeds exports (turns n exports f s))
turns_fit n exports f s =
    of_turns n exports (λ g t ts. AreFit n t (turns_deeds exports ts)) (λ g t. tt) (λ fuel g t u told e rest. let r = all_shown exports g u told in turn_fits n exports g t u told (taken fuel n exports r.1 r.2) e rest) f s

turns_follow : (exports : Exports) (ts : List TurnTaken) → Follow (turns_deeds exports ts)
turns_follow exports [] = tt
turns_follow exports (t ∷ ts) = all_append (λ d. may_follow d ≡ true) (turn_deeds exports t) (turns_deeds exports ts) (refl, told_follow exports t.front t.left t.told) (turns_follow exports ts)

-- ---- what each row keeps

-- It leaves of the core, tells of, and is answered what its deeds make of it; the core takes these, such an event may do them, and they
-- are of whom the row says.
pub record IsRow (n : ℕ) (exports : Exports) (f : Fronts) (s : CoreState) (event : Event) (o : Own) : Type 0 where
  pub does : o.given.3 ≡ all_done n s o.deeds
  pub tells : o.given.1 ≡ all_told_of n s o.deeds
  pub sends : o.given.0 ≡ o.replies
  pub takes : IsGood s → AreFit n s o.deeds
  pub may : IsGood s → AllByRecursion (λ d. may_do event d ≡ true) o.deeds
  pub own : IsGood s → AreOf n exports f s o.whose o.deeds

idle_row : (n : ℕ) (exports : Exports) (f g : Fronts) (s : CoreState) (event : Event) (outs : List Out) → IsRow n exports f s event (idle outs g s)
idle_row n exports f g s event outs = record { does = refl; tells = refl; sends = refl; takes = λ good. tt; may = λ good. tt; own = λ good. refl }

pub program_row : (n : ℕ) (bytes : List ℕ) (exports : Exports) (f : Fronts) (s : CoreState) (number : ℕ) (r : RequestItem) (program : Program) → IsRow n exports f s (Message number bytes) (program_own n exports f s number r program)
program_row n bytes exports f s number r Nlm = record {
  does = step_does n exports f.nlm s number r;
  tells = step_tells n exports f.nlm s number r;
  takes = λ good. step_takes n exports f.nlm s r;
  may = λ good. nlm_may n number bytes exports f.nlm s r good;
  sends = step_replies n exports f.nlm s number r;
  own = λ good. step_own n exports f.nlm s r good;
}
program_row n bytes exports f s number r Nfs = record {
  does = nfs.request_does n exports (smb_opens f) f.nfs s number r;
  tells = nfs.request_tells n exports (smb_opens f) f.nfs s number r;
  takes = λ good. nfs_own.request_takes n exports (smb_opens f) f.nfs s r good;
  may = λ good. nfs_may n number bytes exports (smb_opens f) f.nfs s r good;
  sends = nfs.request_replies n exports (smb_opens f) f.nfs s number r;
  own = λ good. nfs_own.request_own n exports (smb_opens f) f.nfs s r good;
}

record_row : (n : ℕ) (bytes : List ℕ) (exports : Exports) (f : Fronts) (s : CoreState) (number : ℕ) (incoming : IncomingItem) → IsRow n exports f s (Message number bytes) (record_own n exports f s number incoming)
record_row n bytes exports f s number Unanswered = idle_row n exports f f s (Message number bytes) []
record_row n bytes exports f s number (Refused xid verdict) = idle_row n exports f f s (Message number bytes) (sent_to number (refusal_of xid verdict))
record_row n bytes exports f s number (Asked r) = program_row n bytes exports f s number r r.program

message_row : (n : ℕ) (exports : Exports) (f : Fronts) (s : CoreState) (kind : Option Kind) (number : ℕ) (bytes : List ℕ) → IsRow n exports f s (Message number bytes) (message_own n exports f s kind number bytes)
message_row n exports f s None number bytes = idle_row n exports f f s (Message number bytes) []
message_row n exports f s (Some Rpc) number bytes = record_row n bytes exports f s number (incoming_at bytes)
message_row n exports f s (Some Smb) number bytes = record {
  does = smb.step_does n exports (nfs_opens f) f.smb s number bytes;
  tells = smb.step_tells n exports (nfs_opens f) f.smb s number bytes;
  takes = λ good. smb_own.step_takes n exports (nfs_opens f) f.smb s number bytes;
  may = λ good. smb_may n exports (nfs_opens f) f.smb s number bytes;
  sends = smb.step_replies n exports (nfs_opens f) f.smb s number bytes;
  own = λ good. smb_own.step_own n exports (nfs_opens f) f.smb s number bytes;
}

end_row : (n : ℕ) (exports : Exports) (f : Fronts) (s : CoreState) (kind : Option Kind) (number : ℕ) → IsRow n exports f s (End number) (end_own f s kind number)
end_row n exports f s None number = idle_row n exports f f s (End number) []
end_row n exports f s (Some Rpc) number = idle_row n exports f f s (End number) []
end_row n exports f s (Some Smb) number = record { does = smb.end_does n f.smb s number; tells = smb.end_tells n f.smb s number; takes = λ good. smb_own.end_takes n f.smb s number; may = λ good. last_may f.smb s number; sends = refl; own = λ good. smb_own.end_own f.smb s number }

refusal_may : (hosts : List (List ℕ)) (number : ℕ) (bytes : Option (List ℕ)) (o : Option Grant) → AllByRecursion (λ d. may_do (Called number bytes) d ≡ true) (refusal_deeds hosts o)
refusal_may hosts number bytes None = tt
refusal_may hosts number bytes (Some grant) = (refl, tt)

turns_may : {A : Type 0} (n : ℕ) (now : Moment) (is_left : CoreState → A → Bool) (does : CoreState → A → Deed) → ((s : CoreState) (x : A) → may_do (Tick now) (does s x) ≡ true) → (xs : List A) (s : CoreState) → AllByRecursion (λ d. may_do (Tick now) d ≡ true) (deeds_in_turn is_left does n xs s)
turns_may n now is_left does may [] s = tt
turns_may n now is_left does may (x ∷ xs) s =
    elim (cases_Bool (is_left s x)) [
      | inl e ↦ rw e (may s x, turns_may n now is_left does may xs (done n s (does s x)))
      | inr e ↦ rw e (turns_may n now is_left does may xs s)
    ]

fails_may : (n : ℕ) (now : Moment) (s : CoreState) (client : List ℕ) (d : Deed) → may_do (Tick now) d ≡ true → may_do (Tick now) (or_fails n s client d) ≡ true
fails_may n now s client d may = elim (cases_Bool (may_expire n s client)) [ inl e ↦ rw e may | inr e ↦ rw e refl ]

lapse_may : (n : ℕ) (now : Moment) (s : CoreState) (cache : Claim) (o : Option (List ℕ)) → may_do (Tick now) (lapse_of n s cache o) ≡ true
lapse_may n now s cache None = refl
lapse_may n now s cache (Some client) = fails_may n now s client (Lapses cache) refl

grace_may : (n : ℕ) (now : Moment) (s : CoreState) → AllByRecursion (λ d. may_do (Tick now) d ≡ true) (grace_deeds n s)
grace_may n now s =
    elim (cases_Bool (is_over s.grace s.clock)) [
      | inr runs ↦ rw runs tt
      | inl over ↦ elim (cases_Bool (may_store n s)) [ inl may ↦ rw (over, may) (refl, tt) | inr none ↦ rw (over, none) (refl, tt) ]
    ]

tick_may : (n : ℕ) (now : Moment) (s : CoreState) → AllByRecursion (λ d. may_do (Tick now) d ≡ true) (tick_deeds n s now)
tick_may n now s =
    let t = advanced s now in
    let u = all_done n t (lapses n t) in
    let ds = lapses n t ++ expiries n u in (
      eq-eqb now.0 now.0 refl,
      all_append (λ d. may_do (Tick now) d ≡ true) ds (grace_deeds n (all_done n t ds))
          (all_append (λ d. may_do (Tick now) d ≡ true) (lapses n t) (expiries n u) (turns_may n now is_still_held _ (λ x c. lapse_may n now x c (client_of x.names c.party)) (due t) t)
          (turns_may n now is_lease_over _ (λ x id. fails_may n now x id (Expires id) refl) (ended u.clock u.leases) u))
          (grace_may n now (all_done n t ds)),
    )

refusal_own : (hosts : List (List ℕ)) (o : Option Grant) → AreRefusals o (refusal_deeds hosts o)
refusal_own hosts None = refl
refusal_own hosts (Some grant) = ((refl, refl, refl, refl), tt)

pub own_row : (n : ℕ) (s : Whole) (event : Event) → IsRow n s.exports s.front s.core event (own_of n s event)
own_row n s (Open kind) = idle_row n s.exports s.front (begun s.front s.connections s.place kind) s.core (Open kind) []
own_row n s (Message number bytes) = message_row n s.exports s.front s.core (kind_of s.connections number) number bytes
own_row n s (End number) = end_row n s.exports s.front s.core (kind_of s.connections number) number
own_row n s (Called number bytes) = record {
  does = answer_does n s.front.nlm s.core number bytes;
  tells = answer_tells n s.front.nlm s.core number bytes;
  takes = λ good. answer_takes n s.front.nlm s.core number bytes;
  may = λ good. refusal_may s.front.nlm.hosts number bytes _;
  sends = refl;
  own = λ good. refusal_own s.front.nlm.hosts _;
}
own_row n s (Tick moment) = record { does = sym (tick_done n s.core moment); tells = sym (tick_tells n s.core moment); takes = λ good. tick_fits n s.core moment; may = λ good. tick_may n moment s.core; sends = refl; own = λ good. tt }
own_row n s Restart = idle_row n s.exports s.front s.front s.core Restart []

-- ---- all that is done in a round

abbrev pub own_and_told : ℕ → Whole → Event → List Deed
own_and_told n s event = (own_of n s event).deeds ++ told_of s.exports (own_of n s event).given

pub heard_does : (n : ℕ) (s : Whole) (event : Event) → (heard n s event).2 ≡ all_done n s.core (own_and_told n s event)
unfolding heard
heard_does n s event =
    let g = (own_of n s event).given in
    let told = told_of s.exports g in
    told_does n s.exports g.2 g.3 g.1
    ∙ ap (λ (t : CoreState). all_done n t told) (own_row n s event).does
    ∙ sym (done_append n s.core (own_of n s event).deeds told)

pub heard_takes : (n : ℕ) (s : Whole) (event : Event) → IsGood s.core → AreFit n s.core (own_and_told n s event)
heard_takes n s event good =
    let g = (own_of n s event).given in
    let told = told_of s.exports g in
    fit_append n s.core (own_of n s event).deeds told ((own_row n s event).takes good)
    (subst (λ (t : CoreState). AreFit n t told) (own_row n s event).does (told_fit n s.exports g.2 g.3 g.1))

-- the core at the end of a round
abbrev pub round_left : ℕ → Whole → Event → CoreState
round_left n s event = (settled n s.exports (heard n s event).1 (heard n s event).2).2

abbrev turns_behind : ℕ → Whole → Event → List Deed
turns_behind n s event = turns_deeds s.exports (turns n s.exports (heard n s event).1 (heard n s event).2)

round_is : (n : ℕ) (s : Whole) (event : Event) → own_and_told n s event ++ turns_behind n s event ≡ round_deeds (round_of n s event)
round_is n s event = append_assoc (own_of n s event).deeds (told_of s.exports (own_of n s event).given) (turns_behind n s event)

round_does : (n : ℕ) (s : Whole) (event : Event) → round_left n s event ≡ all_done n s.core (round_deeds (round_of n s event))
round_does n s event =
    let h = heard n s event in
    let later = turns_behind n s event in
    turns_do n s.exports h.1 h.2
    ∙ ap (λ (t : CoreState). all_done n t later) (heard_does n s event)
    ∙ sym (done_append n s.core (own_and_told n s event) later)
    ∙ ap (λ (ds : List Deed). all_done n s.core ds) (round_is n s event)

round_takes : (n : ℕ) (s : Whole) (event : Event) → IsGood s.core → AreFit n s.core (round_deeds (round_of n s event))
round_takes n s event good =
    let h = heard n s event in
    let later = turns_behind n s event in
    subst (λ (ds : List Deed). AreFit n s.core ds) (round_is n s event)
    (fit_append n s.core (own_and_told n s event) later (heard_takes n s event good) (subst (λ (t : CoreState). AreFit n t later) (heard_does n s event) (turns_fit n s.exports h.1 h.2)))

-- ---- the rounds of a frame's parts

deeds_append : (rs qs : List Round) → rounds_deeds (rs ++ qs) ≡ rounds_deeds rs ++ rounds_deeds qs
deeds_append [] qs = refl
deeds_append (r ∷ rs) qs = ap (λ (ds : List Deed). round_deeds r ++ ds) (deeds_append rs qs) ∙ sym (append_assoc (round_deeds r) (rounds_deeds rs) (rounds_deeds qs))

-- one round alone
one_does : (n : ℕ) (s : Whole) (event : Event) → round_left n s event ≡ all_done n s.core (rounds_deeds (round_of n s event ∷ []))
one_does n s event = round_does n s event ∙ ap (λ (ds : List Deed). all_done n s.core ds) (sym (append-nil (round_deeds (round_of n s event))))

one_takes : (n : ℕ) (s : Whole) (event : Event) → IsGood s.core → AreFit n s.core (rounds_deeds (round_of n s event ∷ []))
one_takes n s event good = subst (λ (ds : List Deed). AreFit n s.core ds) (sym (append-nil (round_deeds (round_of n s event)))) (round_takes n s event good)

part_does : (n : ℕ) (at : Ground) (g : Gone) (f : Frame) (message : List ℕ) (smb : Bool) → (part_done n at g f message smb).2 ≡ all_done n g.2 (rounds_deeds (done_round n at g f.conn message smb))
part_does n at g f message true = one_does n (found_in at g.1 g.2) (Message f.conn message)
part_does n at g f message false = refl

went_does : (n : ℕ) (at : Ground) (g : Gone) (f : Frame) (next : Step) → (gone_on n at g f next).2 ≡ all_done n g.2 (rounds_deeds (step_round n at g f next))
went_does n at g f step.Ends = refl
went_does n at g f (step.Replied reply) = refl
went_does n at g f (step.Asked message) = part_does n at g f message (is_smb (kind_of at.1 f.conn))

top_does : (n : ℕ) (at : Ground) (g : Gone) → (gone_further n at g).2 ≡ all_done n g.2 (rounds_deeds (top_round n at g (popped g.0.stack).0))
unfolding gone_further
top_does n at g = by (popped g.0.stack) where
  by : (p : Option Frame × List Frame) → (advanced_by n at g p).2 ≡ all_done n g.2 (rounds_deeds (top_round n at g p.0))
  by (None, rest) = refl
  by (Some f, rest) = went_does n at (record g.0 { stack = rest }, g.1, g.2) f (next_step f)

rounds_do : (fuel n : ℕ) (at : Ground) (g : Gone) → (advanced_for fuel n at g).2 ≡ all_done n g.2 (rounds_deeds (rounds_for fuel n at g))
rounds_do zero n at g = refl
rounds_do (suc fuel) n at g =
    let first = top_round n at g (popped g.0.stack).0 in
    let later = rounds_for fuel n at (gone_further n at g) in
    rounds_do fuel n at (gone_further n at g)
    ∙ ap (λ (t : CoreState). all_done n t (rounds_deeds later)) (top_does n at g)
    ∙ sym (done_append n g.2 (rounds_deeds first) (rounds_deeds later))
    ∙ ap (λ (ds : List Deed). all_done n g.2 ds) (sym (deeds_append first later))

part_takes : (n : ℕ) (at : Ground) (g : Gone) (conn : ℕ) (message : List ℕ) (smb : Bool) → IsGood g.2 → AreFit n g.2 (rounds_deeds (done_round n at g conn message smb))
part_takes n at g conn message true good = one_takes n (found_in at g.1 g.2) (Message conn message) good
part_takes n at g conn message false good = tt

step_takes_part : (n : ℕ) (at : Ground) (g : Gone) (f : Frame) (next : Step) → IsGood g.2 → AreFit n g.2 (rounds_deeds (step_round n at g f next))
step_takes_part n at g f step.Ends good = tt
step_takes_part n at g f (step.Replied reply) good = tt
step_takes_part n at g f (step.Asked message) good = part_takes n at g f.conn message (is_smb (kind_of at.1 f.conn)) good

top_takes : (n : ℕ) (at : Ground) (g : Gone) (top : Option Frame) → IsGood g.2 → AreFit n g.2 (rounds_deeds (top_round n at g top))
top_takes n at g None good = tt
top_takes n at g (Some f) good = step_takes_part n at g f (next_step f) good

pub further_good : (n : ℕ) (at : Ground) (g : Gone) → IsGood g.2 → IsGood (gone_further n at g).2
further_good n at g good =
    let top = (popped g.0.stack).0 in
    subst (λ (t : CoreState). IsGood t) (sym (top_does n at g)) (deeds_good n g.2 (rounds_deeds (top_round n at g top)) good (top_takes n at g top good))

rounds_take : (fuel n : ℕ) (at : Ground) (g : Gone) → IsGood g.2 → AreFit n g.2 (rounds_deeds (rounds_for fuel n at g))
rounds_take zero n at g good = tt
rounds_take (suc fuel) n at g good =
    let first = top_round n at g (popped g.0.stack).0 in
    let later = rounds_for fuel n at (gone_further n at g) in
    let takes : AreFit n g.2 (rounds_deeds first) = top_takes n at g (popped g.0.stack).0 good in
    subst (λ (ds : List Deed). AreFit n g.2 ds) (sym (deeds_append first later))
    (fit_append n g.2 (rounds_deeds first) (rounds_deeds later) takes
    (subst (λ (t : CoreState). AreFit n t (rounds_deeds later)) (top_does n at g) (rounds_take fuel n at (gone_further n at g) (further_good n at g good))))

-- ---- the rounds of an entry in which frames go on

begun_does : (n : ℕ) (s : Whole) (event : Event) → (frames_begun n s event).2 ≡ all_done n s.core (rounds_deeds (first_round n s event))
unfolding frames_begun
begun_does n s event = by (brings_frame s.connections event) where
  by : (brings : Bool) → (begun_by n s event brings).2 ≡ all_done n s.core (rounds_deeds (first_by n s event brings))
  by true = refl
  by false = one_does n s event

begun_takes : (n : ℕ) (s : Whole) (event : Event) → IsGood s.core → AreFit n s.core (rounds_deeds (first_round n s event))
begun_takes n s event good = by (brings_frame s.connections event) where
  by : (brings : Bool) → AreFit n s.core (rounds_deeds (first_by n s event brings))
  by true = tt
  by false = one_takes n s event good

pub frames_good : (n : ℕ) (s : Whole) (event : Event) → IsGood s.core → IsGood (frames_begun n s event).2
frames_good n s event good = subst (λ (t : CoreState). IsGood t) (sym (begun_does n s event)) (deeds_good n s.core (rounds_deeds (first_round n s event)) good (begun_takes n s event good))

in_does : (n : ℕ) (s : Whole) (event : Event) → (heard_in n s event).2 ≡ all_done n s.core (rounds_deeds (rounds_in n s event))
unfolding heard_in run
in_does n s event =
    let g = frames_begun n s event in
    let at : Ground = (s.exports, s.connections) in
    let first = first_round n s event in
    let later = rounds_for (steps_left g.0) n at g in
    rounds_do (steps_left g.0) n at g
    ∙ ap (λ (t : CoreState). all_done n t (rounds_deeds later)) (begun_does n s event)
    ∙ sym (done_append n s.core (rounds_deeds first) (rounds_deeds later))
    ∙ ap (λ (ds : List Deed). all_done n s.core ds) (sym (deeds_append first later))

in_takes : (n : ℕ) (s : Whole) (event : Event) → IsGood s.core → AreFit n s.core (rounds_deeds (rounds_in n s event))
in_takes n s event good =
    let g = frames_begun n s event in
    let at : Ground = (s.exports, s.connections) in
    let first = first_round n s event in
    let later = rounds_for (steps_left g.0) n at g in
    let takes : AreFit n s.core (rounds_deeds first) = begun_takes n s event good in
    subst (λ (ds : List Deed). AreFit n s.core ds) (sym (deeds_append first later))
    (fit_append n s.core (rounds_deeds first) (rounds_deeds later) takes
    (subst (λ (t : CoreState). AreFit n t (rounds_deeds later)) (begun_does n s event) (rounds_take (steps_left g.0) n at g (frames_good n s event good))))

-- ---- the rounds of an entry

-- what holds of each event but a restart, and of that, holds of each
pub each_event : (P : Event → Type 0) → ((e : Event) → is_restart e ≡ false → P e) → P Restart → (e : Event) → P e
each_event P other restart Restart = restart
each_event P other restart event = other event refl

-- the core at the end of an entry
abbrev pub left_by : ℕ → Whole → Event → CoreState
left_by n s event = (gone n s event).2

pub rounds_are : (n : ℕ) (s : Whole) (event : Event) → is_restart event ≡ false → rounds n s event ≡ rounds_by n (as_found s) event (is_plain s event)
unfolding rounds
rounds_are n s Restart other = absurd cc
rounds_are n s event other = refl

pub deeds_are : (n : ℕ) (s : Whole) (event : Event) → is_restart event ≡ false → deeds n s event ≡ rounds_deeds (rounds_by n (as_found s) event (is_plain s event))
unfolding deeds
deeds_are n s event other = ap rounds_deeds (rounds_are n s event other)

-- the step is its deeds
gone_does : (n : ℕ) (s : Whole) (event : Event) → (gone n s event).2 ≡ all_done n s.core (rounds_deeds (rounds_by n s event (is_plain s event)))
unfolding gone
gone_does n s event = by (is_plain s event) where
  by : (plain : Bool) → (gone_by n s event plain).2 ≡ all_done n s.core (rounds_deeds (rounds_by n s event plain))
  by true = one_does n s event
  by false = in_does n s event

pub left_is : (n : ℕ) (s : Whole) (event : Event) → is_restart event ≡ false → left_by n (as_found s) event ≡ all_done n (step_begun s.core) (deeds n s event)
left_is n s event other = gone_does n (as_found s) event ∙ ap (λ (ds : List Deed). all_done n (step_begun s.core) ds) (sym (deeds_are n s event other))

gone_takes : (n : ℕ) (s : Whole) (event : Event) (plain : Bool) → IsGood s.core → AreFit n s.core (rounds_deeds (rounds_by n s event plain))
gone_takes n s event true good = one_takes n s event good
gone_takes n s event false good = in_takes n s event good

pub deeds_taken : (n : ℕ) (s : Whole) (event : Event) → is_restart event ≡ false → IsGood (step_begun s.core) → AreFit n (step_begun s.core) (deeds n s event)
deeds_taken n s event other good = subst (λ (ds : List Deed). AreFit n (step_begun s.core) ds) (sym (deeds_are n s event other)) (gone_takes n (as_found s) event (is_plain s event) good)

-- ---- what holds of the deeds of each round

-- what holds of no deeds, of deeds behind others, and of each round in a good state, holds of those of an entry
abbrev pub Rounds : ℕ → (CoreState → List Deed → Type 0) → Type 0
Rounds n Q = ((u : CoreState) → Q u []) × ((u : CoreState) (ds es : List Deed) → Q u ds → Q (all_done n u ds) es → Q u (ds ++ es)) × ((s : Whole) (event : Event) → IsGood s.core → Q s.core (round_deeds (round_of n s event)))

one_holds : (n : ℕ) (Q : CoreState → List Deed → Type 0) → Rounds n Q → (s : Whole) (event : Event) → IsGood s.core → Q s.core (rounds_deeds (round_of n s event ∷ []))
one_holds n Q law s event good = subst (λ (ds : List Deed). Q s.core ds) (sym (append-nil (round_deeds (round_of n s event)))) (law.2 s event good)

part_holds : (n : ℕ) (Q : CoreState → List Deed → Type 0) → Rounds n Q → (at : Ground) (g : Gone) (conn : ℕ) (message : List ℕ) (smb : Bool) → IsGood g.2 → Q g.2 (rounds_deeds (done_round n at g conn message smb))
part_holds n Q law at g conn message true good = one_holds n Q law (found_in at g.1 g.2) (Message conn message) good
part_holds n Q law at g conn message false good = law.0 g.2

step_holds : (n : ℕ) (Q : CoreState → List Deed → Type 0) → Rounds n Q → (at : Ground) (g : Gone) (f : Frame) (next : Step) → IsGood g.2 → Q g.2 (rounds_deeds (step_round n at g f next))
step_holds n Q law at g f step.Ends good = law.0 g.2
step_holds n Q law at g f (step.Replied reply) good = law.0 g.2
step_holds n Q law at g f (step.Asked message) good = part_holds n Q law at g f.conn message (is_smb (kind_of at.1 f.conn)) good

top_holds : (n : ℕ) (Q : CoreState → List Deed → Type 0) → Rounds n Q → (at : Ground) (g : Gone) (top : Option Frame) → IsGood g.2 → Q g.2 (rounds_deeds (top_round n at g top))
top_holds n Q law at g None good = law.0 g.2
top_holds n Q law at g (Some f) good = step_holds n Q law at g f (next_step f) good

steps_hold : (fuel n : ℕ) (Q : CoreState → List Deed → Type 0) → Rounds n Q → (at : Ground) (g : Gone) → IsGood g.2 → Q g.2 (rounds_deeds (rounds_for fuel n at g))
steps_hold zero n Q law at g good = law.0 g.2
steps_hold (suc fuel) n Q law at g good =
    let first = top_round n at g (popped g.0.stack).0 in
    let later = rounds_for fuel n at (gone_further n at g) in
    subst (λ (ds : List Deed). Q g.2 ds) (sym (deeds_append first later))
    (law.1 g.2 (rounds_deeds first) (rounds_deeds later) (top_holds n Q law at g (popped g.0.stack).0 good)
    (subst (λ (t : CoreState). Q t (rounds_deeds later)) (top_does n at g) (steps_hold fuel n Q law at (gone_further n at g) (further_good n at g good))))

begun_holds : (n : ℕ) (Q : CoreState → List Deed → Type 0) → Rounds n Q → (s : Whole) (event : Event) (brings : Bool) → IsGood s.core → Q s.core (rounds_deeds (first_by n s event brings))
begun_holds n Q law s event true good = law.0 s.core
begun_holds n Q law s event false good = one_holds n Q law s event good

in_holds : (n : ℕ) (Q : CoreState → List Deed → Type 0) → Rounds n Q → (s : Whole) (event : Event) → IsGood s.core → Q s.core (rounds_deeds (rounds_in n s event))
in_holds n Q law s event good =
    let g = frames_begun n s event in
    let at : Ground = (s.exports, s.connections) in
    let first = first_round n s event in
    let later = rounds_for (steps_left g.0) n at g in
    subst (λ (ds : List Deed). Q s.core ds) (sym (deeds_append first later))
    (law.1 s.core (rounds_deeds first) (rounds_deeds later) (begun_holds n Q law s event (brings_frame s.connections event) good)
    (subst (λ (t : CoreState). Q t (rounds_deeds later)) (begun_does n s event) (steps_hold (steps_left g.0) n Q law at g (frames_good n s event good))))

rounds_hold : (n : ℕ) (Q : CoreState → List Deed → Type 0) → Rounds n Q → (s : Whole) (event : Event) (plain : Bool) → IsGood s.core → Q s.core (rounds_deeds (rounds_by n s event plain))
rounds_hold n Q law s event true good = one_holds n Q law s event good
rounds_hold n Q law s event false good = in_holds n Q law s event good

pub deeds_hold : (n : ℕ) (Q : CoreState → List Deed → Type 0) → Rounds n Q → (s : Whole) (event : Event) → is_restart event ≡ false → IsGood (step_begun s.core) → Q (step_begun s.core) (deeds n s event)
deeds_hold n Q law s event other good =
    subst (λ (ds : List Deed). Q (step_begun s.core) ds) (sym (deeds_are n s event other)) (rounds_hold n Q law (as_found s) event (is_plain s event) good)

-- ---- causes

pub behind_follows : (r : Round) → Follow (behind_own r)
behind_follows r =
    let g = r.own.given in
    all_append (λ d. may_follow d ≡ true) (told_of r.found.exports g) (turns_deeds r.found.exports r.turns) (told_follow r.found.exports g.2 g.3 g.1) (turns_follow r.found.exports r.turns)

round_caused : (n : ℕ) (s : Whole) (event : Event) → IsGood s.core → IsCausedBy n event (round_of n s event)
round_caused n s event good = record { cause = inl refl; own = (own_row n s event).may good; clients = (own_row n s event).own good; behind = behind_follows (round_of n s event) }

part_caused : (n : ℕ) (s : Whole) (event : Event) (conn : ℕ) (message : List ℕ) → IsGood s.core → IsCausedBy n event (round_of n s (Message conn message))
part_caused n s event conn message good =
    let cause = Message conn message in
    record { cause = inr (conn, message, refl); own = (own_row n s cause).may good; clients = (own_row n s cause).own good; behind = behind_follows (round_of n s cause) }

-- ---- what holds of each round

-- a restart has none
pub restarts : (n : ℕ) (s : Whole) (P : Round → Type 0) → AllByRecursion P (rounds n s Restart)
unfolding rounds
restarts n s P = tt

-- what holds of the round of the event, and of each part, in a good state, holds of each round of an entry
abbrev pub EachRound : ℕ → Event → (Round → Type 0) → Type 0
EachRound n event P = ((s : Whole) → IsGood s.core → P (round_of n s event)) × ((s : Whole) (conn : ℕ) (message : List ℕ) → IsGood s.core → P (round_of n s (Message conn message)))

part_each : (n : ℕ) (event : Event) (P : Round → Type 0) → EachRound n event P → (at : Ground) (g : Gone) (conn : ℕ) (message : List ℕ) (smb : Bool) → IsGood g.2 → AllByRecursion P (done_round n at g conn message smb)
part_each n event P law at g conn message true good = (law.1 (found_in at g.1 g.2) conn message good, tt)
part_each n event P law at g conn message false good = tt

step_each : (n : ℕ) (event : Event) (P : Round → Type 0) → EachRound n event P → (at : Ground) (g : Gone) (f : Frame) (next : Step) → IsGood g.2 → AllByRecursion P (step_round n at g f next)
step_each n event P law at g f step.Ends good = tt
step_each n event P law at g f (step.Replied reply) good = tt
step_each n event P law at g f (step.Asked message) good = part_each n event P law at g f.conn message (is_smb (kind_of at.1 f.conn)) good

top_each : (n : ℕ) (event : Event) (P : Round → Type 0) → EachRound n event P → (at : Ground) (g : Gone) (top : Option Frame) → IsGood g.2 → AllByRecursion P (top_round n at g top)
top_each n event P law at g None good = tt
top_each n event P law at g (Some f) good = step_each n event P law at g f (next_step f) good

steps_each : (fuel n : ℕ) (event : Event) (P : Round → Type 0) → EachRound n event P → (at : Ground) (g : Gone) → IsGood g.2 → AllByRecursion P (rounds_for fuel n at g)
steps_each zero n event P law at g good = tt
steps_each (suc fuel) n event P law at g good =
    all_append P (top_round n at g (popped g.0.stack).0) (rounds_for fuel n at (gone_further n at g)) (top_each n event P law at g (popped g.0.stack).0 good) (steps_each fuel n event P law at (gone_further n at g) (further_good n at g good))

first_each : (n : ℕ) (event : Event) (P : Round → Type 0) → EachRound n event P → (s : Whole) (brings : Bool) → IsGood s.core → AllByRecursion P (first_by n s event brings)
first_each n event P law s true good = tt
first_each n event P law s false good = (law.0 s good, tt)

rounds_each : (n : ℕ) (event : Event) (P : Round → Type 0) → EachRound n event P → (s : Whole) (plain : Bool) → IsGood s.core → AllByRecursion P (rounds_by n s event plain)
rounds_each n event P law s true good = (law.0 s good, tt)
rounds_each n event P law s false good =
    let g = frames_begun n s event in
    all_append P (first_round n s event) (rounds_for (steps_left g.0) n (s.exports, s.connections) g) (first_each n event P law s (brings_frame s.connections event) good) (steps_each (steps_left g.0) n event P law (s.exports, s.connections) g (frames_good n s event good))

pub each_round : (n : ℕ) (s : Whole) (event : Event) (P : Round → Type 0) → EachRound n event P → IsGood (step_begun s.core) → AllByRecursion P (rounds n s event)
each_round n s event P law good =
    each_event (λ e. EachRound n e P → AllByRecursion P (rounds n s e)) (λ e other holds. subst (λ (rs : List Round). AllByRecursion P rs) (sym (rounds_are n s e other)) (rounds_each n e P holds (as_found s) (is_plain s e) good)) (λ holds. restarts n s P) event law

pub rounds_caused : (n : ℕ) (s : Whole) (event : Event) → IsGood (step_begun s.core) → AllByRecursion (λ r. IsCausedBy n event r) (rounds n s event)
rounds_caused n s event good = each_round n s event (λ r. IsCausedBy n event r) ((λ t well. round_caused n t event well), (λ t conn message well. part_caused n t event conn message well)) good

-- ---- what is sent

heard_sends : (n : ℕ) (s : Whole) (event : Event) → (heard n s event).0 ≡ heard_outs (round_of n s event)
unfolding heard
heard_sends n s event = ap (λ (outs : List Out). (telling s.exports (own_of n s event).given).0 ++ framed_by (replied_by s event) outs) (own_row n s event).sends

turns_send : (n : ℕ) (s : Whole) (event : Event) → (settled n s.exports (heard n s event).1 (heard n s event).2).0 ≡ turn_outs (round_of n s event)
unfolding heard settled
turns_send n s event = refl

round_sends : (n : ℕ) (s : Whole) (event : Event) → (heard n s event).0 ++ (settled n s.exports (heard n s event).1 (heard n s event).2).0 ≡ round_outs (round_of n s event)
round_sends n s event =
    let r = round_of n s event in
    let first = heard_sends n s event in
    let later = turns_send n s event in
    (λ i. first i ++ later i) ∙ append_assoc (round_told r).0 (framed_by (replied_by s event) r.own.replies) (turn_outs r)

-- the replies of a frame

part_sends : (n : ℕ) (at : Ground) (g : Gone) (f : Frame) (message : List ℕ) (smb : Bool) (rest : List Round) → part_by g.0 f smb (done_round n at g f.conn message smb ++ rest) ≡ ((part_done n at g f message smb).0, rest)
part_sends n at g f message true rest =
    let first = sym (heard_sends n (found_in at g.1 g.2) (Message f.conn message)) in
    let later = sym (turns_send n (found_in at g.1 g.2) (Message f.conn message)) in
    (λ i. (sorted_in (part_in g.0 f (last_apart (first i))) (sifted false (part_in g.0 f (last_apart (first i))).paused (later i)), rest))
part_sends n at g f message false rest = refl

step_sends : (n : ℕ) (at : Ground) (g : Gone) (f : Frame) (next : Step) (rest : List Round) → step_by at.1 g.0 f next (step_round n at g f next ++ rest) ≡ ((gone_on n at g f next).0, rest)
step_sends n at g f step.Ends rest = refl
step_sends n at g f (step.Replied reply) rest = refl
step_sends n at g f (step.Asked message) rest = part_sends n at g f message (is_smb (kind_of at.1 f.conn)) rest

top_sends : (n : ℕ) (at : Ground) (g : Gone) (rest : List Round) → top_by at.1 g.0 (popped g.0.stack) (top_round n at g (popped g.0.stack).0 ++ rest) ≡ ((gone_further n at g).0, rest)
unfolding gone_further
top_sends n at g rest = by (popped g.0.stack) where
  by : (p : Option Frame × List Frame) → top_by at.1 g.0 p (top_round n at g p.0 ++ rest) ≡ ((advanced_by n at g p).0, rest)
  by (None, others) = refl
  by (Some f, others) = step_sends n at (record g.0 { stack = others }, g.1, g.2) f (next_step f) rest

steps_send : (fuel n : ℕ) (at : Ground) (g : Gone) → (advanced_for fuel n at g).0 ≡ joined_for fuel at.1 (g.0, rounds_for fuel n at g)
steps_send zero n at g = refl
steps_send (suc fuel) n at g =
    steps_send fuel n at (gone_further n at g)
    ∙ ap (λ (j : Going × List Round). joined_for fuel at.1 j) (sym (top_sends n at g (rounds_for fuel n at (gone_further n at g))))

begun_sends : (n : ℕ) (s : Whole) (event : Event) (brings : Bool) (rest : List Round) → begun_with s.paused event brings (first_by n s event brings ++ rest) ≡ ((begun_by n s event brings).0, rest)
begun_sends n s event true rest = refl
begun_sends n s event false rest =
    let first = sym (heard_sends n s event) in
    let later = sym (turns_send n s event) in
    (λ i. (sorted_in (cancelled_in (sifted true (paused_after s.paused event) (first i))) (sifted false (cancelled_in (sifted true (paused_after s.paused event) (first i))).paused (later i)), rest))

in_sends : (n : ℕ) (s : Whole) (event : Event) → (heard_in n s event).0.outs ≡ joined_by s event (rounds_in n s event) false
unfolding heard_in run frames_begun
in_sends n s event =
    let at : Ground = (s.exports, s.connections) in
    let brings = brings_frame s.connections event in
    let g = begun_by n s event brings in
    let later = rounds_for (steps_left g.0) n at g in
    ap (λ (go : Going). go.outs) (steps_send (steps_left g.0) n at g)
    ∙ ap (λ (j : Going × List Round). (joined_from s.connections j).outs) (sym (begun_sends n s event brings later))

gone_sends : (n : ℕ) (s : Whole) (event : Event) → (gone n s event).0.outs ≡ joined_by s event (rounds_by n s event (is_plain s event)) (is_plain s event)
unfolding gone
gone_sends n s event = by (is_plain s event) where
  by : (plain : Bool) → (gone_by n s event plain).0.outs ≡ joined_by s event (rounds_by n s event plain) plain
  by true = round_sends n s event ∙ sym (append-nil (round_outs (round_of n s event)))
  by false = in_sends n s event

pub all_sent : (n : ℕ) (s : Whole) (event : Event) → is_restart event ≡ false → (gone n (as_found s) event).0.outs ≡ messages n s event
unfolding messages
all_sent n s event other = gone_sends n (as_found s) event ∙ ap (λ (rs : List Round). joined_by s event rs (is_plain s event)) (sym (rounds_are n s event other))

-- a restart sends nothing
none_joined : (fuel : ℕ) (cs : List Connection) (ps : List Paused) → (joined_for fuel cs (record { paused = ps; stack = []; outs = [] }, [])).outs ≡ []
none_joined zero cs ps = refl
none_joined (suc fuel) cs ps = none_joined fuel cs ps

pub restart_sends : (n : ℕ) (s : Whole) → messages n s Restart ≡ []
unfolding messages rounds
restart_sends n s = by (is_plain s Restart) where
  by : (plain : Bool) → joined_by s Restart [] plain ≡ []
  by true = refl
  by false = none_joined (steps_left (frame_in s.paused Restart)) s.connections s.paused
