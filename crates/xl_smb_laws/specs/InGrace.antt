-- Words of the laws of requests while grace runs (RFC 7530 9.6.2; MS-SMB2 3.3.5.9, 3.3.5.14).
use Rattle.std.specs.Prelude.{◌≡◌, ◌⊎◌, ◌==◌, ◌+◌, ℕ, nat_lt, Bool, true, false, List, []}
use Rattle.xl_smb.specs.Creates.{CreateCallItem}
use Rattle.xl_smb_state.specs.State.{Lists}
use Rattle.xl_core.specs.Limits.{IsRoom, IsLeastPassed}
use Rattle.xl_core.specs.State.{CoreState}
use Rattle.xl_smb_locks.specs.declared.status.SmbStatus.TheVariants.{InsufficientResources}
use Rattle.xl_front_smb.specs.Files.{has_room_for_open, is_key_elsewhere, key_asked, lease_key, overwrites}
use Rattle.xl_front_smb.specs.Plans.{Outcome}
use Rattle.xl_front_smb.specs.declared.told.Told.TheVariants.{Failed, Pending}

-- a CREATE of this client passes the checks before its share is asked for: its disposition opens the file, which is there, the key
-- of the lease that it asks for isn't in use on another file, and there is room for its open
pub record MayAsk (s : CoreState) (others : ℕ) (l : Lists) (client : List ℕ) (c : CreateCallItem) (file : ℕ) : Type 0 where
  pub known : nat_lt 5 c.disposition ≡ false
  pub keeps : overwrites c.disposition ≡ false
  pub opens : (c.disposition == 2) ≡ false
  pub keyed : is_key_elsewhere file (lease_key client (key_asked c)) l ≡ false
  pub room : has_room_for_open others l (s.counter + 1) ≡ true

-- the request is pending under this number, if one who waits passes none of these limits, and else there is no room for it; nothing
-- is told of besides, and what is held stays (SMB-29)
pub record WaitsForGrace (limits : List (ℕ × Bool)) (number : ℕ) (s : CoreState) (r : Outcome) : Type 0 where
  pub told : ((r.0 ≡ Pending number) × IsRoom limits) ⊎ ((limit : ℕ) × (r.0 ≡ Failed InsufficientResources) × IsLeastPassed limits limit)
  pub silent : r.1 ≡ []
  pub held : r.3.claims ≡ s.claims
