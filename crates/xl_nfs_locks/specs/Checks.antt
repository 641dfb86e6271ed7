-- The check of a lock's stateid (RFC 7530 9.1.4, 9.1.7), by its lock owner's seqid.
use Rattle.std.specs.Prelude.{ℕ, Option}
use Rattle.xl_nfs.specs.declared.basics.Stateid.{Stateid}
use Rattle.xl_nfs_state.specs.State.{NfsLists}
use Rattle.xl_nfs_state.specs.declared.owner.OwnerKind.TheVariants as kinds
use Rattle.xl_core.specs.State.{CoreState}
use Rattle.xl_nfs_opens.specs.Closing.{checked_as}
use Rattle.xl_nfs_opens.specs.declared.opener.Checked.{Checked}

abbrev pub locks_found : CoreState → NfsLists → Option ℕ → ℕ → ℕ → Stateid → Checked
locks_found s l current op seqid stateid = checked_as kinds.Lock s l current op seqid stateid
