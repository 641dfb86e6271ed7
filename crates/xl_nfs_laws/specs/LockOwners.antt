-- What a LOCK under an open leaves of both owners, and RELEASE_LOCKOWNER of one (RFC 7530 9.1.7, 9.1.8, 16.37).
use Rattle.std.specs.Prelude.{◌≡◌, ℕ, true, List, Some, None, option_map}
use Rattle.std.specs.List.{find}
use Rattle.xl_nfs_state.specs.State.{NfsLists, IsIdleOwner, is_kept, is_owner}
use Rattle.xl_nfs_state.specs.declared.owner.OwnerRow.{OwnerRow}
use Rattle.xl_nfs_opens.specs.Closing.{next_seqids}
use Rattle.xl_nfs_opens.specs.Plans.{Outcome, status_of}
use Rattle.xl_nfs_opens.specs.Results.{spelled}
use Rattle.xl_nfs_opens.specs.Seqids.{advances, is_opener, opener_number}
use Rattle.xl_nfs_opens.specs.declared.opener.Opener.{Opener}
use Rattle.xl_nfs_locks.specs.declared.joining.BothOwners.{BothOwners}

-- The requests of the open's owner and those of the lock owner have come this far, and those of others as far as before; and
-- this result is kept for both.
pub record HaveBothCome (b : BothOwners) (o : Opener) (bytes : List ℕ) (old new : NfsLists) : Type 0 where
  pub open_owner : option_map (λ (x : OwnerRow). x.seqids) (find (is_owner b.number) new.owners) ≡ Some (next_seqids 12 b.open_seqid b.seqids.confirmed None)
  pub lock_owner : option_map (λ (x : OwnerRow). x.seqids) (find (is_opener o) new.owners) ≡ Some (next_seqids 12 b.lock_seqid true None)
  pub others : (number : ℕ) → (number ≡ b.number → ⊥) → (number ≡ opener_number o old → ⊥) → find (is_owner number) new.owners ≡ find (is_owner number) old.owners
  pub open_kept : find (is_kept b.number) new.kept ≡ Some (record { owner = b.number; result = bytes })
  pub lock_kept : find (is_kept (opener_number o old)) new.kept ≡ Some (record { owner = opener_number o old; result = bytes })

-- if it ends so that it counts, it counts with both
abbrev pub CountsWithBoth : BothOwners → Opener → NfsLists → Outcome → Type 0
CountsWithBoth b o l r = advances (status_of r.0) ≡ true → HaveBothCome b o (spelled 12 r.0) l r.3

-- the owner of this number isn't there, nothing hangs on it, and no result is kept for it
abbrev pub IsForgotten : ℕ → NfsLists → Type 0
IsForgotten number l = (find (is_owner number) l.owners ≡ None) × IsIdleOwner number l
