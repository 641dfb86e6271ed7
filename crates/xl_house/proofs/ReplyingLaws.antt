-- Each call of ONC RPC has one reply, on its own connection and with its own xid.
use Rattle.std.proofs.Common.{◌≡◌, ℕ, List, [], ◌∷◌, ◌++◌, Option, Some, None, refl, ◌∙◌, ap, append_assoc}
use Rattle.xl_base.specs.declared.event.Dest.TheVariants.{Conn}
use Rattle.xl_base.specs.declared.event.Event.{Event}
use Rattle.xl_base.specs.declared.event.Event.TheVariants.{Message}
use Rattle.xl_base.specs.declared.event.Kind.{Kind}
use Rattle.xl_base.specs.declared.event.Kind.TheVariants.{Rpc, Smb}
use Rattle.xl_base.specs.declared.event.Out.{Out}
use Rattle.xl_base.specs.declared.journal.Entry.{Entry}
use Rattle.xl_base.specs.declared.journal.Exports.{Exports}
use Rattle.xl_base.specs.declared.journal.Head.{Head}
use Rattle.xl_names.specs.declared.name.Name.{Name}
use Rattle.xl_nlm.specs.Items.{CallItem}
use Rattle.xl_programs.specs.Programs.{RequestItem, IncomingItem, Unanswered, Refused, Asked, incoming_at}
use Rattle.xl_programs.specs.Sent.{refusal_of, sent_to}
use Rattle.xl_programs.specs.declared.program.Program.{Program}
use Rattle.xl_programs.specs.declared.program.Program.TheVariants.{Nlm, Nfs}
use Rattle.xl_rpc.specs.Replies.{reply, reply_stat, told}
use Rattle.xl_rpc.specs.Xdr.{unsigned}
use Rattle.xl_rpc.specs.declared.reply.Verdict.{Verdict}
use Rattle.xl_rpc.specs.declared.reply.Verdict.TheVariants.{Success, GarbageArgs}
use Rattle.xl_core.specs.State.{CoreState}
use Rattle.xl_core.specs.declared.ask.Answer.{Answer}
use Rattle.xl_front_nfs.specs.FrontNfs as nfs
use Rattle.xl_front_nfs.specs.State.{FrontNfs}
use Rattle.xl_front_nlm.specs.FrontNlm as nlm
use Rattle.xl_front_nlm.specs.State.{FrontState}
use Rattle.xl_house.specs.Lawful.{Always}
use Rattle.xl_house.specs.Own.{program_own, record_own, message_own}
use Rattle.xl_house.specs.Replying.{IsOneReply, IsRecordReplied, IsRepliedBy, IsReplied}
use Rattle.xl_house.specs.State.{Whole, kind_of, start_of}
use Rattle.xl_house.specs.declared.layers.Fronts.{Fronts}
use Rattle.xl_core.proofs.GoodLaws.{begun_good}
use Rattle.xl_house.proofs.DoneLaws.{each_round}
use Rattle.xl_house.proofs.EachEntry.{always}

-- the bytes begin with this xid
abbrev Begins : ℕ → List ℕ → Type 0
Begins xid bytes = (rest : List ℕ) × (bytes ≡ unsigned xid ++ rest)

reply_begins : (xid : ℕ) (v : Verdict) → Begins xid (reply xid v)
unfolding reply
reply_begins xid v = (unsigned 1 ++ (unsigned (reply_stat v) ++ told v), refl)

begins_more : (xid : ℕ) (bytes more : List ℕ) → Begins xid bytes → Begins xid (bytes ++ more)
begins_more xid bytes more is = (is.0 ++ more, ap (λ (xs : List ℕ). xs ++ more) is.1 ∙ append_assoc (unsigned xid) is.0 more)

one_reply : (conn xid : ℕ) (bytes : List ℕ) → Begins xid bytes → IsOneReply conn xid (sent_to conn bytes)
one_reply conn xid bytes is = (record { dest = Conn conn; to = []; bytes = bytes }, refl, refl, is)

nlm_begins : (count : ℕ) (f : FrontState) (s : CoreState) (names : List Name) (xid : ℕ) (call : Option CallItem) (answers : List Answer) → Begins xid (nlm.call_reply count f s names xid call answers)
nlm_begins count f s names xid None answers = reply_begins xid GarbageArgs
nlm_begins count f s names xid (Some call) answers = begins_more xid (reply xid Success) _ (reply_begins xid Success)

nfs_begins : (n : ℕ) (files : List (List ℕ)) (others : ℕ) (f : FrontNfs) (s : CoreState) (xid : ℕ) (call : nfs.Called) → Begins xid (nfs.call_reply n files others f s xid call)
nfs_begins n files others f s xid nfs.Garbage = reply_begins xid GarbageArgs
nfs_begins n files others f s xid nfs.Null = reply_begins xid Success
nfs_begins n files others f s xid (nfs.Refused tag status) = begins_more xid (reply xid Success) _ (reply_begins xid Success)
nfs_begins n files others f s xid (nfs.Compound tag steps) = begins_more xid (reply xid Success) _ (reply_begins xid Success)

program_replied : (n : ℕ) (exports : Exports) (f : Fronts) (s : CoreState) (conn : ℕ) (r : RequestItem) (program : Program) → IsOneReply conn r.xid (program_own n exports f s conn r program).replies
program_replied n exports f s conn r Nlm = one_reply conn r.xid _ (nlm_begins _ f.nlm s _ r.xid (nlm.call_in r) _)
program_replied n exports f s conn r Nfs = one_reply conn r.xid _ (nfs_begins n exports.files _ f.nfs s r.xid (nfs.call_in r))

pub record_replied : (n : ℕ) (exports : Exports) (f : Fronts) (s : CoreState) (conn : ℕ) (incoming : IncomingItem) → IsRecordReplied conn incoming (record_own n exports f s conn incoming).replies
record_replied n exports f s conn Unanswered = refl
record_replied n exports f s conn (Refused xid verdict) = one_reply conn xid (refusal_of xid verdict) (reply_begins xid verdict)
record_replied n exports f s conn (Asked r) = program_replied n exports f s conn r r.program

message_replied : (n : ℕ) (exports : Exports) (f : Fronts) (s : CoreState) (kind : Option Kind) (conn : ℕ) (bytes : List ℕ) → kind ≡ Some Rpc → IsRecordReplied conn (incoming_at bytes) (message_own n exports f s kind conn bytes).replies
message_replied n exports f s (Some Rpc) conn bytes e = record_replied n exports f s conn (incoming_at bytes)
message_replied n exports f s (Some Smb) conn bytes e = absurd cc
message_replied n exports f s None conn bytes e = absurd cc

replied_by : (n : ℕ) (s : Whole) (event : Event) → IsRepliedBy n s event
replied_by n s (Message number bytes) = λ rpc. message_replied n s.exports s.front s.core (kind_of s.connections number) number bytes rpc
replied_by n s event = tt

pub always_replied : (head : Head) (es : List Entry) → Always IsReplied (start_of head) es
always_replied head es =
    always IsReplied (λ n s e free. each_round n s e.event (λ r. IsRepliedBy n r.found r.cause) ((λ t good. replied_by n t e.event), (λ t conn message good. replied_by n t (Message conn message))) (begun_good s.core free.good)) head es

-- ---- a machine that doesn't

-- one sends the reply to another connection
pub reply_astray_is : (conn other xid : ℕ) (bytes : List ℕ) → (Conn other ≡ Conn conn → ⊥) → IsOneReply conn xid (sent_to other bytes) → ⊥
reply_astray_is conn other xid bytes apart is = apart (same_dest other bytes is.0 is.1 ∙ is.2) where
  same_dest : (other : ℕ) (bytes : List ℕ) (out : Out) → sent_to other bytes ≡ out ∷ [] → Conn other ≡ out.dest
  same_dest other bytes out e = ap (λ (o : Out). o.dest) (same_out (record { dest = Conn other; to = []; bytes = bytes }) out e) where
    same_out : (a b : Out) → (a ∷ []) ≡ (b ∷ []) → a ≡ b
    same_out a b e = cc
