-- The smallest ask, at a start; and breaks that nobody answers.
use Rattle.std.specs.Prelude.{ℕ, pos, true, false, List, [], ◌∷◌, Some, None}
use Rattle.xl_base.specs.Stable.{Stable}
use Rattle.xl_base.specs.declared.name.Owner.TheVariants as owners
use Rattle.xl_base.specs.declared.name.Party.TheVariants as parties
use Rattle.xl_base.specs.declared.name.Protocol.TheVariants.{Nfs}
use Rattle.xl_matrix.specs.declared.claim.CacheKind.TheVariants.{R, RWH, WriteDeleg}
use Rattle.xl_matrix.specs.declared.claim.Claim.{Claim}
use Rattle.xl_matrix.specs.declared.claim.What.TheVariants.{Share, Cache}
use Rattle.xl_matrix.specs.declared.claim.Extent.TheVariants.{Bytes}
use Rattle.xl_names.specs.declared.name.Name.TheVariants.{NlmRange, NlmParty, NfsShare, NfsParty}
use Rattle.xl_wait.specs.declared.waiter.Rooms.{Rooms}
use Rattle.xl_core.specs.State.{CoreState, started}
use Rattle.xl_core.specs.declared.lease.Times.{Times}
use Rattle.xl_core.specs.Limits.{most_hosts, most_opens, most_owners}
use Rattle.xl_core.specs.declared.ask.Act.TheVariants.{Ranges}
use Rattle.xl_core.specs.declared.ask.Ask.{Ask}
use Rattle.xl_core.specs.declared.ask.Who.TheVariants.{Named}

-- the room at a start
abbrev pub all_room : Rooms
all_room = record { hosts = most_hosts; owners = most_owners; opens = most_opens }

-- byte 0 of file 1, alone, as a caller that is new asks for it
abbrev pub smallest_lock : Ask
smallest_lock = record {
  file = 1;
  owner = Named (NlmRange [] (pos 0) []);
  party = Named (NlmParty []);
  act = Ranges ((Bytes 0 0, true) ∷ []);
  wish = [];
  conn = None;
  blocking = false;
  awaits = false;
  reclaim = false;
  monitored = false;
  mark = None;
  rows = record { hosts = 1; owners = 0; opens = 0 };
}

-- a batch oplock of an open, of which the break that runs leaves level II, and whose answer is due at moment 7
abbrev pub broken_oplock : Claim
broken_oplock = record {
  file = 1;
  owner = owners.Open 1;
  party = parties.Open 1;
  what = Cache RWH (Some (record { target = Some R; deadline = record { 0 = 7 } }));
}

-- a share of an NFSv4 client, whose name has number 0
abbrev pub its_share : Claim
its_share = record {
  file = 2;
  owner = owners.Name Nfs 1;
  party = parties.Name Nfs 0;
  what = Share (record { r = true; w = true; d = false }) (record { r = false; w = false; d = false });
}

-- its delegation of another file, which is to be returned by moment 7
abbrev pub broken_delegation : Claim
broken_delegation = record {
  file = 1;
  owner = owners.Name Nfs 1;
  party = parties.Name Nfs 0;
  what = Cache WriteDeleg (Some (record { target = None; deadline = record { 0 = 7 } }));
}

-- a state at moment 0 that holds these
abbrev pub with_claims : Stable → Times → List Claim → CoreState
with_claims stable times claims = record (started stable (record { 0 = 0 }) times) { claims = claims; names = NfsParty [] ∷ NfsShare [] [] ∷ [] }

-- a record of this epoch without names, so that no grace begins with it
abbrev pub unnamed : ℕ → Stable
unnamed epoch = record { epoch = epoch; names = [] }
