-- What the core is asked for a lock owner.
use Rattle.std.specs.Prelude.{ℕ, ◌-◌, ◌^◌, Bool, true, false, [], Some, None}
use Rattle.xl_base.specs.declared.stable.Mark.TheVariants.{Verifier}
use Rattle.xl_matrix.specs.declared.claim.Extent.TheVariants.{Bytes}
use Rattle.xl_names.specs.declared.name.Name.TheVariants.{NfsRange, NfsParty}
use Rattle.xl_wait.specs.Waiting.{no_rows}
use Rattle.xl_core.specs.declared.ask.Act.{Act}
use Rattle.xl_core.specs.declared.ask.Act.TheVariants as acts
use Rattle.xl_core.specs.declared.ask.Ask.{Ask}
use Rattle.xl_core.specs.declared.ask.Who.TheVariants.{Named}
use Rattle.xl_nfs_opens.specs.declared.opener.Opener.{Opener}

-- the last byte that there is, and the length that reaches it
abbrev pub all_ones : ℕ
all_ones = 2 ^ 64 - 1

-- an ask of a lock owner, which never waits; its client is recorded with its verifier before a grant (RFC 7530 9.1.1, 9.6.3)
abbrev pub range_ask : Opener → ℕ → Act → Bool → Ask
range_ask o file act reclaim = record {
  file = file;
  owner = Named (NfsRange o.id o.owner);
  party = Named (NfsParty o.id);
  act = act;
  wish = [];
  conn = None;
  blocking = false;
  awaits = false;
  reclaim = reclaim;
  monitored = true;
  mark = Some (Verifier o.verifier);
  rows = no_rows;
}

abbrev pub unlock_ask : Opener → ℕ → ℕ → ℕ → Ask
unlock_ask o file first last = range_ask o file (acts.Unlock (Bytes first last)) false
