-- What a request of an owner that is known leaves, if it counts and if it doesn't (RFC 7530 9.1.7, 9.1.8).
use Rattle.std.specs.Prelude.{◌≡◌, ℕ, Bool, true, ◌||◌, if◌then◌else◌, List, Option, Some, None}
use Rattle.std.specs.List.{find}
use Rattle.xl_nfs.specs.Outcomes.{is_ok}
use Rattle.xl_nfs.specs.declared.status.NfsStatus.{NfsStatus}
use Rattle.xl_nfs_state.specs.Rows.{with_seqids}
use Rattle.xl_nfs_state.specs.State.{NfsLists, is_kept, is_owner}
use Rattle.xl_nfs_state.specs.Verdict.{next_seqid}
use Rattle.xl_nfs_state.specs.declared.owner.OwnerRow.{OwnerRow}
use Rattle.xl_nfs_state.specs.declared.owner.SeqidState.{SeqidState}
use Rattle.xl_core.specs.State.{CoreState}
use Rattle.xl_nfs_opens.specs.Closing.{next_seqids}
use Rattle.xl_nfs_opens.specs.Plans.{Outcome, status_of}
use Rattle.xl_nfs_opens.specs.Results.{spelled}
use Rattle.xl_nfs_opens.specs.Seqids.{advances}

-- The requests of this owner, which were so before, have come this far, and these bytes are kept for it. Each other
-- owner stays as it was, and what is kept for it is as it was.
pub record HasAdvanced (owner : ℕ) (was : OwnerRow) (seqids : SeqidState) (bytes : List ℕ) (old new : NfsLists) : Type 0 where
  pub own : find (is_owner owner) new.owners ≡ Some (with_seqids seqids was)
  pub kept : find (is_kept owner) new.kept ≡ Some (record { owner = owner; result = bytes })
  pub others : (number : ℕ) → (number ≡ owner → ⊥) → find (is_owner number) new.owners ≡ find (is_owner number) old.owners
  pub others_kept : (number : ℕ) → (number ≡ owner → ⊥) → find (is_kept number) new.kept ≡ find (is_kept number) old.kept

-- how far the requests of an owner that stood so have come once one by the seqid after its last counted
abbrev pub seqids_after : OwnerRow → ℕ → Bool → Option ℕ → SeqidState
seqids_after was op confirmed closed = next_seqids op (next_seqid was.seqids.seqid) confirmed closed

-- if the operation ends so that it counts, the owner's requests have come this far, and what was answered is kept
abbrev pub CountsFor : ℕ → OwnerRow → SeqidState → ℕ → NfsLists → Outcome → Type 0
CountsFor owner was seqids op l r = advances (status_of r.0) ≡ true → HasAdvanced owner was seqids (spelled op r.0) l r.3

-- nothing is remembered of it, and the core stays
abbrev pub IsAlone : NfsLists → CoreState → Outcome → Type 0
IsAlone l s r = (r.3 ≡ l) × (r.4 ≡ s)

-- the owner of an OPEN_CONFIRM that ended so is confirmed then
abbrev pub confirmed_by : NfsStatus → Bool → Bool
confirmed_by status was = is_ok status || was

-- what a CLOSE of this open that ended so closed
abbrev pub closed_by : NfsStatus → ℕ → Option ℕ
closed_by status number = if is_ok status then Some number else None
