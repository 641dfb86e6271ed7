-- What an event does itself: a row for each program, each kind of connection, and each event, as the front that hears of it has it.
use Rattle.std.specs.Prelude.{ℕ, ◌==◌, nat_lt, if◌then◌else◌, List, [], length, find, Option, Some, None}
use Rattle.xl_base.specs.declared.event.Event.{Event}
use Rattle.xl_base.specs.declared.event.Event.TheVariants.{Open, Message, End, Called, Tick, Restart}
use Rattle.xl_base.specs.declared.event.Kind.{Kind}
use Rattle.xl_base.specs.declared.event.Kind.TheVariants.{Rpc, Smb}
use Rattle.xl_base.specs.declared.event.Moment.{Moment}
use Rattle.xl_base.specs.declared.event.Out.{Out}
use Rattle.xl_base.specs.declared.journal.Exports.{Exports}
use Rattle.xl_programs.specs.Programs.{RequestItem, IncomingItem, Unanswered, Refused, Asked, incoming_at}
use Rattle.xl_programs.specs.declared.program.Program.{Program}
use Rattle.xl_programs.specs.declared.program.Program.TheVariants.{Nlm, Nfs}
use Rattle.xl_programs.specs.Sent.{refusal_of, sent_to}
use Rattle.xl_core.specs.State.{CoreState}
use Rattle.xl_core.specs.Deeds.{Deed, all_done, all_told_of, answers_of, tick_deeds}
use Rattle.xl_core.specs.Ticks.{tick}
use Rattle.xl_core.specs.declared.ask.Answer.{Answer}
use Rattle.xl_core.specs.declared.ask.Effect.{Effect}
use Rattle.xl_front_nlm.specs.Answers.{called_deeds, nlm_called, refused_grant, refuses}
use Rattle.xl_front_nlm.specs.FrontNlm.{nlm_client, nlm_deeds, nlm_reply, nlm_step}
use Rattle.xl_front_nlm.specs.State.{FrontState}
use Rattle.xl_front_nfs.specs.FrontNfs.{nfs_deeds, nfs_reply, nfs_step}
use Rattle.xl_front_nfs.specs.State.{FrontNfs, nfs_tick}
use Rattle.xl_front_smb.specs.Ending.{smb_end, smb_end_deeds}
use Rattle.xl_front_smb.specs.FrontSmb.{smb_deeds, smb_replies, smb_step}
use Rattle.xl_front_smb.specs.State.{FrontSmb, smb_begin}
use Rattle.xl_house.specs.Owners.{Whose, OfClient, OfClients, OfConnection, OfGrant, OfClock, OfNobody}
use Rattle.xl_house.specs.State.{Whole, kind_of, most_connections, nfs_opens, smb_opens}
use Rattle.xl_house.specs.declared.connections.Connection.{Connection}
use Rattle.xl_house.specs.declared.layers.Fronts.{Fronts}

-- What an event gives of itself: its replies, without their frames, what the core told of, and the fronts and the core afterwards.
-- What the fronts show for that is sent before the replies.
abbrev pub Given : Type 0
Given = List Out × List Effect × Fronts × CoreState

-- what a front gave for a message, with the others as they are
abbrev pub with_nlm : Fronts → List Out × List Effect × FrontState × CoreState → Given
with_nlm f r = (r.0, r.1, record f { nlm = r.2 }, r.3)

abbrev pub with_nfs : Fronts → List Out × List Effect × FrontNfs × CoreState → Given
with_nfs f r = (r.0, r.1, record f { nfs = r.2 }, r.3)

abbrev pub with_smb : Fronts → List Out × List Effect × FrontSmb × CoreState → Given
with_smb f r = (r.0, r.1, record f { smb = r.2 }, r.3)

-- what is not replied to
abbrev pub after_call : Fronts → List Effect × FrontState × CoreState → Given
after_call f r = ([], r.0, record f { nlm = r.1 }, r.2)

abbrev pub after_end : Fronts → List Effect × FrontSmb × CoreState → Given
after_end f r = ([], r.0, record f { smb = r.1 }, r.2)

-- the fronts once a connection of this kind opened: that of SMB keeps its own
abbrev pub begun_by : Fronts → ℕ → Kind → Fronts
begun_by f number Rpc = f
begun_by f number Smb = record f { smb = smb_begin f.smb number }

-- the fronts after the opening at this place; if there is no room nothing begins
abbrev pub begun : Fronts → List Connection → ℕ → Kind → Fronts
begun f connections place kind = if nat_lt (length connections) most_connections then begun_by f place kind else f

-- what a reading of the clock gives: unconfirmed clients whose time has come are forgotten
abbrev pub ticked : Fronts → Moment → Fronts
ticked f now = record f { nfs = nfs_tick f.nfs now }

abbrev pub after_tick : Fronts → List Effect × CoreState → Given
after_tick f r = ([], r.0, ticked f r.1.clock, r.1)

-- ---- rows

-- Whose its deeds are, what it gives, the deeds, and its replies by what these are answered: a function of the message, of what the
-- deeds are answered and tell of, and of the state that they leave.
pub record Own : Type 0 where
  pub whose : Whose
  pub given : Given
  pub deeds : List Deed
  pub replies : List Out

abbrev pub replied : ℕ → CoreState → Whose → Given → List Deed → (List Answer → List Effect → CoreState → List Out) → Own
replied n s whose given ds replies = record { whose = whose; given = given; deeds = ds; replies = replies (answers_of n s ds) (all_told_of n s ds) (all_done n s ds) }

abbrev pub unreplied : Whose → Given → List Deed → Own
unreplied whose given ds = record { whose = whose; given = given; deeds = ds; replies = [] }

-- nothing is done, and these are sent
abbrev pub idle : List Out → Fronts → CoreState → Own
idle outs f s = record { whose = OfNobody; given = (outs, [], f, s); deeds = []; replies = outs }

-- a request of a program that is served
abbrev pub program_own : ℕ → Exports → Fronts → CoreState → ℕ → RequestItem → Program → Own
program_own n exports f s number r Nlm =
    replied n s (OfClient (nlm_client r)) (with_nlm f (nlm_step n exports f.nlm s number r)) (nlm_deeds n exports f.nlm s r) (λ answers told t. sent_to number (nlm_reply exports f.nlm s t.names r answers))
program_own n exports f s number r Nfs =
    replied n s (OfClients r) (with_nfs f (nfs_step n exports (smb_opens f) f.nfs s number r)) (nfs_deeds n exports (smb_opens f) f.nfs s r) (λ answers told t. sent_to number (nfs_reply n exports (smb_opens f) f.nfs s r))

-- a record of ONC RPC
abbrev pub record_own : ℕ → Exports → Fronts → CoreState → ℕ → IncomingItem → Own
record_own n exports f s number Unanswered = idle [] f s
record_own n exports f s number (Refused xid verdict) = idle (sent_to number (refusal_of xid verdict)) f s
record_own n exports f s number (Asked r) = program_own n exports f s number r r.program

-- a message from a connection of this kind, if it is open
abbrev pub message_own : ℕ → Exports → Fronts → CoreState → Option Kind → ℕ → List ℕ → Own
message_own n exports f s (Some Rpc) number bytes = record_own n exports f s number (incoming_at bytes)
message_own n exports f s (Some Smb) number bytes =
    replied n s (OfConnection number) (with_smb f (smb_step n exports (nfs_opens f) f.smb s number bytes)) (smb_deeds n exports (nfs_opens f) f.smb s number bytes)
    (λ answers told t. smb_replies exports (nfs_opens f) f.smb s number bytes answers told t)
message_own n exports f s None number bytes = idle [] f s

-- the end of a connection of this kind, if it was open: each open of SMB under it is closed; that of ONC RPC changes nothing (NLM-20)
abbrev pub end_own : Fronts → CoreState → Option Kind → ℕ → Own
end_own f s (Some Smb) number = unreplied (OfConnection number) (after_end f (smb_end f.smb s number)) (smb_end_deeds f.smb s number)
end_own f s (Some Rpc) number = idle [] f s
end_own f s None number = idle [] f s

-- an event, in the state that it finds
abbrev pub own_of : ℕ → Whole → Event → Own
own_of n s (Open kind) = idle [] (begun s.front s.connections s.place kind) s.core
own_of n s (Message number bytes) = message_own n s.exports s.front s.core (kind_of s.connections number) number bytes
own_of n s (End number) = end_own s.front s.core (kind_of s.connections number) number
own_of n s (Called call reply) =
    unreplied (OfGrant (refused_grant s.core (refuses reply) (find (λ c. c.number == call) s.front.nlm.calls))) (after_call s.front (nlm_called n s.front.nlm s.core call reply)) (called_deeds s.front.nlm s.core call reply)
own_of n s (Tick now) = unreplied OfClock (after_tick s.front (tick n s.core now)) (tick_deeds n s.core now)
own_of n s Restart = idle [] s.front s.core
