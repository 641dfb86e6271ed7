-- What a front of ONC RPC sends, before it has a frame.
use Rattle.std.specs.Prelude.{ℕ, ◌≤◌, List, [], ◌∷◌, length}
use Rattle.xl_base.specs.Limits.{most_message_bytes}
use Rattle.xl_base.specs.declared.event.Dest.{Dest}
use Rattle.xl_base.specs.declared.event.Dest.TheVariants.{Conn, Back}
use Rattle.xl_base.specs.declared.event.Out.{Out}
use Rattle.xl_rpc.specs.Replies.{reply}
use Rattle.xl_rpc.specs.declared.reply.Verdict.{Verdict}

-- a reply that has a verdict alone, and no results
abbrev pub refusal_of : ℕ → Verdict → List ℕ
refusal_of xid verdict = reply xid verdict

-- a reply to the connection that the request came from
abbrev pub sent_to : ℕ → List ℕ → List Out
sent_to conn bytes = record { dest = Conn conn; to = []; bytes = bytes } ∷ []

-- what is sent to a connection fits a frame; a call is sent without one
abbrev pub FitsBy : Out → Dest → Type 0
FitsBy out (Conn number) = length out.bytes ≤ most_message_bytes
FitsBy out (Back call) = Unit {0}

abbrev pub FitsFrame : Out → Type 0
FitsFrame out = FitsBy out out.dest
