-- The flags that an OPEN is answered (RFC 7530 16.16, 16.18).
use Rattle.std.specs.Prelude.{◌≡◌, ℕ, Bool, true, false, ◌||◌, if◌then◌else◌, Option, Some, None, option_map}
use Rattle.std.specs.List.{find}
use Rattle.xl_nfs.specs.Opens.{OpenArgsItem, OpenClaimItem, Previous}
use Rattle.xl_nfs.specs.declared.basics.Stateid.{Stateid}
use Rattle.xl_nfs_state.specs.State.{NfsLists}
use Rattle.xl_nfs_state.specs.declared.owner.OwnerRow.{OwnerRow}
use Rattle.xl_nfs_opens.specs.Plans.{Outcome}
use Rattle.xl_nfs_opens.specs.Seqids.{is_opener}
use Rattle.xl_nfs_opens.specs.declared.opener.Opener.{Opener}

-- the owner was known, and confirmed
abbrev pub is_confirmed : Option OwnerRow → Bool
is_confirmed None = false
is_confirmed (Some r) = r.seqids.confirmed

-- the file was open before a restart
abbrev pub is_previous : OpenClaimItem → Bool
is_previous (Previous type) = true
is_previous _ = false

-- The owner is there then. It is confirmed exactly if it was, or if it reclaims; the flag OPEN4_RESULT_CONFIRM, which
-- is 2, is answered exactly if it isn't, and then no delegation.
pub record IsFlagged (o : Opener) (a : OpenArgsItem) (l : NfsLists) (flags : ℕ) (delegation : Option (Stateid × Bool)) (done : Outcome) : Type 0 where
  pub confirmed : Bool
  pub stands : option_map (λ (r : OwnerRow). r.seqids.confirmed) (find (is_opener o) done.3.owners) ≡ Some confirmed
  pub cause : confirmed ≡ (is_confirmed (find (is_opener o) l.owners) || is_previous a.claim)
  pub flag : flags ≡ (if confirmed then 0 else 2)
  pub alone : confirmed ≡ false → delegation ≡ None
