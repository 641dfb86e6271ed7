-- Rows with a part changed.
use Rattle.std.specs.Prelude.{ℕ, List}
use Rattle.xl_nfs_state.specs.declared.client.ClientRow.{ClientRow}
use Rattle.xl_nfs_state.specs.declared.client.ClientDetails.{ClientDetails}
use Rattle.xl_nfs_state.specs.declared.kept.KeptRow.{KeptRow}
use Rattle.xl_nfs_state.specs.declared.owner.OwnerRow.{OwnerRow}
use Rattle.xl_nfs_state.specs.declared.owner.SeqidState.{SeqidState}
use Rattle.xl_nfs_state.specs.declared.stateid.StateidRow.{StateidRow}
use Rattle.xl_nfs_state.specs.declared.stateid.Standing.{Standing}

abbrev pub with_details : ClientDetails → ClientRow → ClientRow
with_details details r = record { number = r.number; confirmed = r.confirmed; id = r.id; details = details }

abbrev pub with_seqids : SeqidState → OwnerRow → OwnerRow
with_seqids seqids r = record { number = r.number; name = r.name; seqids = seqids }

abbrev pub with_standing : Standing → StateidRow → StateidRow
with_standing standing r = record { number = r.number; client = r.client; file = r.file; holder = r.holder; standing = standing }

abbrev pub kept_row : ℕ × List ℕ → KeptRow
kept_row e = record { owner = e.0; result = e.1 }

abbrev pub with_result : List ℕ → KeptRow → KeptRow
with_result result k = record { owner = k.owner; result = result }
