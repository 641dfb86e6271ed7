-- What the record has of the clients of owners (RFC 7530 9.1.1, 9.6.3).
use Rattle.std.specs.Prelude.{◌≡◌, Bool, true, false, Some}
use Rattle.xl_base.specs.Stable.{Stable, is_kept}
use Rattle.xl_base.specs.declared.stable.Mark.TheVariants.{Verifier}
use Rattle.xl_base.specs.declared.stable.Recorded.{Recorded}
use Rattle.xl_grace.specs.Grace.{is_known}
use Rattle.xl_core.specs.Knowing.{KnowsRecord}
use Rattle.xl_core.specs.Standings.{marked}
use Rattle.xl_core.specs.State.{CoreState}
use Rattle.xl_core.specs.Stores.{client_name}
use Rattle.xl_nfs_opens.specs.declared.opener.Opener.{Opener}

-- the owner's client as it is recorded: its name, with its verifier
abbrev pub recorded_for : Opener → Recorded
recorded_for o = marked (client_name o.id) (Some (Verifier o.verifier))

-- The record behind a grant to this owner. It has its client, with its verifier if the grant was no reclaim's; of a reclaim the
-- verifier agrees with the one that is kept, if those who might reclaim before were those of the record.
abbrev pub IsRecordedFor : Opener → Bool → CoreState → Stable → Type 0
IsRecordedFor o reclaim s stable = (reclaim ≡ false → is_kept (recorded_for o) stable.names ≡ true) × (KnowsRecord s → is_known (recorded_for o) stable.names ≡ true)
