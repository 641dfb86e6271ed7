-- An entry sends the news of its effects and its replies, and nothing besides.
use Rattle.std.proofs.Common.{◌≡◌, ℕ, false, List, [], ◌∷◌, Option, Some, None, refl, sym, ap, subst}
use Rattle.std.specs.List.{AllByRecursion}
use Rattle.xl_base.specs.declared.event.Event.{Event}
use Rattle.xl_base.specs.declared.event.Event.TheVariants.{Open, Message, End, Called, Tick, Restart}
use Rattle.xl_base.specs.declared.event.Kind.{Kind}
use Rattle.xl_base.specs.declared.event.Kind.TheVariants.{Rpc, Smb}
use Rattle.xl_base.specs.declared.event.Out.{Out}
use Rattle.xl_base.specs.declared.journal.Entry.{Entry}
use Rattle.xl_base.specs.declared.journal.Exports.{Exports}
use Rattle.xl_base.specs.declared.journal.Head.{Head}
use Rattle.xl_programs.specs.Programs.{incoming_at}
use Rattle.xl_core.specs.Deeds.{all_told_of, turned}
use Rattle.xl_core.specs.State.{CoreState}
use Rattle.xl_core.specs.declared.ask.Effect.{Effect}
use Rattle.xl_plan.specs.Plans.{AllAt}
use Rattle.xl_smb_laws.proofs.HeardLaws.{message_heard}
use Rattle.xl_house.specs.Done.{deeds, messages, round_of, round_outs, rounds}
use Rattle.xl_house.specs.Free.{IsFree}
use Rattle.xl_house.specs.Journals.{IsLegal, is_restart}
use Rattle.xl_house.specs.Lawful.{Always, IsTold, Law, found}
use Rattle.xl_house.specs.Machine.{heard, replied_by, step}
use Rattle.xl_house.specs.Notified.{AreNews, AreReplies, AreRepliesBy, AreTurnNews, IsAnnouncing, IsNotified, IsRoundSent, IsSentBy}
use Rattle.xl_house.specs.Own.{end_own, message_own, own_of}
use Rattle.xl_house.specs.State.{Whole, kind_of, nfs_opens, start_of}
use Rattle.xl_house.specs.Telling.{all_shown, framed_by, showing, taken, turns, turns_sent}
use Rattle.xl_house.specs.declared.layers.Fronts.{Fronts}
use Rattle.xl_house.proofs.AnnouncedLaws.{deed_announces}
use Rattle.xl_house.proofs.DoneLaws.{each_round, own_row, restart_sends}
use Rattle.xl_core.proofs.GoodLaws.{begun_good}
use Rattle.xl_house.proofs.EachEntry.{always}
use Rattle.xl_house.proofs.EntryLaws.{each_deed}
use Rattle.xl_house.proofs.LawfulLaws.{always_told}
use Rattle.xl_house.proofs.NoticesLaws.{effect_news}
use Rattle.xl_house.proofs.ReplyingLaws.{record_replied}
use Rattle.xl_house.proofs.TurnLaws.{of_turns}

-- ---- news

all_news : (exports : Exports) (f : Fronts) (s : CoreState) (effects : List Effect) → AreNews exports f s effects (all_shown exports f s effects).0
all_news exports f s [] = refl
all_news exports f s (effect ∷ effects) = (let r = showing exports f s effect in (r.0, (all_shown exports r.1 r.2 effects).0, refl, effect_news exports f s effect, all_news exports r.1 r.2 effects))

turns_news : (n : ℕ) (exports : Exports) (f : Fronts) (s : CoreState) → AreTurnNews n exports f s (turns n exports f s) (turns_sent exports f s (turns n exports f s)).0
turns_news n exports f s =
    of_turns n exports (λ g t ts. AreTurnNews n exports g t ts (turns_sent exports g t ts).0) (λ g t. refl)
    (λ fuel g t u told e rest. (let r = all_shown exports g u told in (ap (λ (o : Option (List Effect × CoreState)). turned t o) e, (r.0, (turns_sent exports r.1 r.2 (taken fuel n exports r.1 r.2)).0, refl, all_news exports g u told, rest)))) f s

-- ---- replies

message_answered : (n : ℕ) (exports : Exports) (f : Fronts) (s : CoreState) (kind : Option Kind) (conn : ℕ) (bytes : List ℕ)
    → (let o = message_own n exports f s kind conn bytes in AreRepliesBy n exports f s o.deeds kind conn bytes (framed_by kind o.replies))
message_answered n exports f s None conn bytes = refl
message_answered n exports f s (Some Rpc) conn bytes = ((message_own n exports f s (Some Rpc) conn bytes).replies, refl, record_replied n exports f s conn (incoming_at bytes))
message_answered n exports f s (Some Smb) conn bytes = ((message_own n exports f s (Some Smb) conn bytes).replies, refl, message_heard n exports (nfs_opens f) f.smb s conn bytes)

end_unanswered : (f : Fronts) (s : CoreState) (kind : Option Kind) (number : ℕ) → framed_by None (end_own f s kind number).replies ≡ []
end_unanswered f s None number = refl
end_unanswered f s (Some Rpc) number = refl
end_unanswered f s (Some Smb) number = refl

event_answered : (n : ℕ) (s : Whole) (event : Event) → AreReplies n s (own_of n s event).deeds event (framed_by (replied_by s event) (own_of n s event).replies)
event_answered n s (Open kind) = refl
event_answered n s (Message conn bytes) = message_answered n s.exports s.front s.core (kind_of s.connections conn) conn bytes
event_answered n s (End number) = end_unanswered s.front s.core (kind_of s.connections number) number
event_answered n s (Called call reply) = refl
event_answered n s (Tick now) = refl
event_answered n s Restart = refl

-- ---- a round

round_sent : (n : ℕ) (s : Whole) (event : Event) → IsRoundSent n (round_of n s event) (round_outs (round_of n s event))
unfolding heard
round_sent n s event =
    let o = own_of n s event in
    let g = o.given in
    let row = own_row n s event in
    let told = all_shown s.exports g.2 g.3 g.1 in
    let ts = turns n s.exports told.1 told.2 in
    let later = (turns_sent s.exports told.1 told.2 ts).0 in
    record {
      first = told.0;
      replies = framed_by (replied_by s event) o.replies;
      later = later;
      all = refl;
      own = subst (λ (t : CoreState). AreNews s.exports g.2 t (all_told_of n s.core o.deeds) told.0) row.does (subst (λ (effects : List Effect). AreNews s.exports g.2 g.3 effects told.0) row.tells (all_news s.exports g.2 g.3 g.1));
      answered = event_answered n s event;
      turns = subst (λ (t : CoreState). (let h = all_shown s.exports g.2 t (all_told_of n s.core o.deeds) in AreTurnNews n s.exports h.1 h.2 ts later)) row.does
          (subst (λ (effects : List Effect). (let h = all_shown s.exports g.2 g.3 effects in AreTurnNews n s.exports h.1 h.2 ts later)) row.tells (turns_news n s.exports told.1 told.2));
    }

-- ---- an entry

sent_other : (n : ℕ) (s : Whole) (event : Event) → is_restart event ≡ false → IsFree s → (messages n s event ≡ messages n s event) × AllByRecursion (λ r. IsRoundSent n r (round_outs r)) (rounds n s event) × AllAt (λ u d. IsAnnouncing n u d) n (found s) (deeds n s event)
sent_other n s event other free = (
  refl,
  each_round n s event (λ r. IsRoundSent n r (round_outs r)) ((λ t good. round_sent n t event), (λ t conn message good. round_sent n t (Message conn message))) (begun_good s.core free.good),
  each_deed (λ u d. IsAnnouncing n u d) n s event (λ u d good fit. deed_announces n u d good fit) free,
)

event_sent : (n : ℕ) (s : Whole) (event : Event) → IsFree s → IsSentBy n s event (messages n s event)
event_sent n s Restart free = restart_sends n s
event_sent n s event free = sent_other n s event refl free

-- ---- each journal

-- what is owed to what the machine sends
abbrev Owed : Law
Owed n s e t = IsSentBy n s e.event (messages n s e.event)

both_so : (s : Whole) (es : List Entry) → Always Owed s es → Always IsTold s es → Always IsNotified s es
both_so s [] owed told = tt
both_so s (e ∷ es) owed told = (subst (λ (outs : List Out). IsSentBy e.stores s e.event outs) (sym told.0) owed.0, both_so (step e.stores s e.event).next es owed.1 told.1)

pub always_notified : (head : Head) (es : List Entry) → IsLegal (start_of head) es → Always IsNotified (start_of head) es
always_notified head es legal = both_so (start_of head) es (always Owed (λ n s e free. event_sent n s e.event free) head es) (always_told head es legal)
