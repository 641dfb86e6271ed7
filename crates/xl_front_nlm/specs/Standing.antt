-- What a call finds: who waits for the same already, and the owner's share.
use Rattle.std.specs.Prelude.{ℕ, Bool, false, ◌==◌, ◌&&◌, List, Option, Some, None, is_some, option_map}
use Rattle.std.specs.List.{find, slice_get}
use Rattle.xl_base.specs.declared.name.Owner.{Owner}
use Rattle.xl_base.specs.declared.name.Owner.TheVariants as owners
use Rattle.xl_base.specs.declared.name.Protocol.TheVariants.{Nlm}
use Rattle.xl_matrix.specs.Equal.{same_owners, same_flag}
use Rattle.xl_matrix.specs.declared.claim.Claim.{Claim}
use Rattle.xl_matrix.specs.declared.claim.Extent.TheVariants.{Bytes}
use Rattle.xl_matrix.specs.declared.claim.What.{What}
use Rattle.xl_matrix.specs.declared.claim.What.TheVariants.{Range}
use Rattle.xl_names.specs.Names.{number_of}
use Rattle.xl_nlm.specs.Items.{LockItem, LockArgsItem, ShareArgsItem}
use Rattle.xl_wait.specs.declared.waiter.Waiter.{Waiter}
use Rattle.xl_table.specs.Relock.{is_share_of}
use Rattle.xl_core.specs.State.{CoreState}
use Rattle.xl_front_nlm.specs.Asks.{owner_of, share_owner}
use Rattle.xl_front_nlm.specs.declared.aim.Aim.{Aim}

-- ---- one who waits for the same already

abbrev pub is_aimed : What → Aim → Bool → Bool
is_aimed (Range (Bytes first last) alone) at exclusive = (first == at.first) && ((last == at.last) && same_flag alone exclusive)
is_aimed _ at exclusive = false

-- a claim of this owner on the very bytes, in this mode
abbrev pub is_same : Owner → Aim → Bool → Option Claim → Bool
is_same owner at exclusive None = false
is_same owner at exclusive (Some c) = (c.file == at.file) && (same_owners c.owner owner && is_aimed c.what at exclusive)

abbrev pub waits_for : Owner → Aim → Bool → Waiter → Bool
waits_for owner at exclusive w = is_same owner at exclusive (slice_get w.asked 0)

abbrev pub waiter_by : List Waiter → Aim → Bool → Option ℕ → Option ℕ
waiter_by waiters at exclusive None = None
waiter_by waiters at exclusive (Some number) = option_map (λ w. w.id) (find (waits_for (owners.Name Nlm number) at exclusive) waiters)

-- the number of the first waiter of the same owner, file, range and mode (NLM-9)
abbrev pub waiter_for : CoreState → LockItem → Bool → Aim → Option ℕ
waiter_for s l exclusive at = waiter_by s.waiters at exclusive (number_of (owner_of l) s.names)

abbrev pub does_wait : CoreState → LockArgsItem → Aim → Bool
does_wait s a at = is_some (waiter_for s a.lock a.exclusive at)

-- ---- the owner's share

abbrev pub share_by : List Claim → ℕ → Option ℕ → Option Claim
share_by claims file None = None
share_by claims file (Some number) = find (is_share_of file (owners.Name Nlm number)) claims

-- the owner's share on the file; it has one at most (NLM-12)
abbrev pub share_held : CoreState → ShareArgsItem → ℕ → Option Claim
share_held s a file = share_by s.claims file (number_of (share_owner a) s.names)
