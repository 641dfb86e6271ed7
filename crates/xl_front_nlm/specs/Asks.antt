-- What the core is asked for a call.
use Rattle.std.specs.Prelude.{ℕ, Bool, true, false, List, [], ◌∷◌, Some, None}
use Rattle.xl_base.specs.declared.stable.Mark.{Mark}
use Rattle.xl_base.specs.declared.stable.Mark.TheVariants.{State}
use Rattle.xl_matrix.specs.declared.claim.Extent.TheVariants.{Bytes}
use Rattle.xl_matrix.specs.declared.claim.Rwd.{Rwd}
use Rattle.xl_names.specs.declared.name.Name.{Name}
use Rattle.xl_names.specs.declared.name.Name.TheVariants.{NlmRange, NlmShare, NlmParty}
use Rattle.xl_nlm.specs.Items.{LockItem, TestArgsItem, LockArgsItem, UnlockArgsItem, ShareArgsItem}
use Rattle.xl_nlm.specs.declared.item.Rights.{Rights}
use Rattle.xl_rpc.specs.Xdr.{signed}
use Rattle.xl_wait.specs.Waiting.{no_rows}
use Rattle.xl_wait.specs.declared.waiter.Rooms.{Rooms}
use Rattle.xl_core.specs.declared.ask.Who.TheVariants.{Named}
use Rattle.xl_core.specs.declared.ask.Act.{Act}
use Rattle.xl_core.specs.declared.ask.Act.TheVariants as acts
use Rattle.xl_core.specs.declared.ask.Ask.{Ask}
use Rattle.xl_front_nlm.specs.declared.aim.Aim.{Aim}
use Rattle.xl_front_nlm.specs.declared.grant.Grant.{Grant}

-- An ask of NLM that neither waits nor reclaims, doesn't want its caller recorded, and has no mark: the party is the caller, a late
-- answer is sent by a call of its own, and no cache is wished for (NLM-15).
abbrev pub ask_of : Name → List ℕ → ℕ → Act → Rooms → Ask
ask_of owner caller file act rows = record {
  file = file;
  owner = Named owner;
  party = Named (NlmParty caller);
  act = act;
  wish = [];
  conn = None;
  blocking = false;
  awaits = false;
  reclaim = false;
  monitored = false;
  mark = None;
  rows = rows;
}

-- ---- ranges

-- the owner of what a lock names (NLM-16)
abbrev pub owner_of : LockItem → Name
owner_of l = NlmRange l.caller_name l.svid l.oh

abbrev pub test_ask : TestArgsItem → Aim → Ask
test_ask a at = ask_of (owner_of a.lock) a.lock.caller_name at.file (acts.Test (Bytes at.first at.last) a.exclusive) no_rows

-- the state of the caller's host, as XDR spells it
abbrev pub state_mark : LockArgsItem → Mark
state_mark a = State (signed a.state)

-- A lock waits only if the client blocks, and then for its whole range (NLM-8). The caller of a LOCK is monitored, so that it is
-- recorded, with the state of its host, before it is granted something; that of an NM_LOCK isn't (XNFS C702, NLM_NM_LOCK) (NLM-6).
-- A reclaim by either is checked against the state that is recorded.
abbrev pub lock_ask : Bool → Rooms → LockArgsItem → Aim → Ask
lock_ask monitored rows a at = record (ask_of (owner_of a.lock) a.lock.caller_name at.file (acts.Ranges ((Bytes at.first at.last, a.exclusive) ∷ [])) rows) {
  blocking = a.block;
  awaits = a.block;
  reclaim = a.reclaim;
  monitored = monitored;
  mark = Some (state_mark a);
}

abbrev pub unlock_ask : UnlockArgsItem → Aim → Ask
unlock_ask a at = ask_of (owner_of a.lock) a.lock.caller_name at.file (acts.Unlock (Bytes at.first at.last)) no_rows

-- what is asked if a client refuses a lock whose grant it was sent
abbrev pub refusal_ask : Grant → Ask
refusal_ask g = ask_of (NlmRange g.caller g.svid g.oh) g.caller g.file (acts.Unlock (Bytes g.first g.last)) no_rows

-- ---- shares

-- the access of a share, or what it denies to others (fsh4_access, fsh4_mode); NLM knows no deleting (NLM-12)
abbrev pub rights_of : Rights → Rwd
rights_of r = record { r = r.read; w = r.write; d = false }

-- the owner of a share (NLM-12)
abbrev pub share_owner : ShareArgsItem → Name
share_owner a = NlmShare a.caller_name a.oh

-- a share never waits; its mode is what it denies, and its caller is monitored as a LOCK's is, but it names no state (NLM-12)
abbrev pub share_ask : Rooms → ShareArgsItem → ℕ → Ask
share_ask rows a file = record (ask_of (share_owner a) a.caller_name file (acts.Share (rights_of a.access) (rights_of a.mode)) rows) {
  reclaim = a.reclaim;
  monitored = true;
}
