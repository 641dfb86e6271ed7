-- What a LOCK does to the core, and what it comes to (MS-SMB2 3.3.5.14, MS-FSA 2.1.5.8, 2.1.5.9).
use Rattle.std.specs.Prelude.{ℕ, Bool, true, false, List, [], ◌∷◌, map, Option, Some, None}
use Rattle.xl_matrix.specs.declared.claim.Extent.{Extent}
use Rattle.xl_smb.specs.declared.lock.LockElement.{LockElement}
use Rattle.xl_smb_state.specs.declared.row.Open.{Open}
use Rattle.xl_wait.specs.Waiting.{no_rows}
use Rattle.xl_core.specs.Decide.{ask}
use Rattle.xl_core.specs.Deeds.{Deed, Asks}
use Rattle.xl_core.specs.State.{CoreState}
use Rattle.xl_core.specs.declared.ask.Act.{Act}
use Rattle.xl_core.specs.declared.ask.Act.TheVariants as acts
use Rattle.xl_core.specs.declared.ask.Answer.{Answer}
use Rattle.xl_core.specs.declared.ask.Answer.TheVariants as answers
use Rattle.xl_core.specs.declared.ask.Ask.{Ask}
use Rattle.xl_core.specs.declared.ask.Effect.{Effect}
use Rattle.xl_core.specs.declared.ask.Who.TheVariants as who
use Rattle.xl_smb_locks.specs.Elements.{extent_of, is_exclusive, any_waits, unlock_fault}
use Rattle.xl_smb_locks.specs.Levels.{party_for}
use Rattle.xl_smb_locks.specs.Statuses.{comes_to}
use Rattle.xl_smb_locks.specs.declared.locking.Locking.{Locking}
use Rattle.xl_smb_locks.specs.declared.locking.Locking.TheVariants.{Done, Failed}
use Rattle.xl_smb_locks.specs.declared.status.SmbStatus.{SmbStatus}
use Rattle.xl_smb_locks.specs.declared.status.SmbStatus.TheVariants.{LockNotGranted, RangeNotLocked}

-- ---- what the core is asked

-- an ask of the open of this number; it waits for answers to breaks in any case (MS-SMB2 3.3.5.14) (CORE-3)
abbrev pub range_ask : Option ℕ → ℕ → Open → Act → Bool → Ask
range_ask conn number row act blocking = record {
  file = row.file;
  owner = who.Open number;
  party = party_for number row;
  act = act;
  wish = [];
  conn = conn;
  blocking = blocking;
  awaits = true;
  reclaim = false;
  monitored = false;
  mark = None;
  rows = no_rows;
}

-- one range is unlocked
unfoldable pub unlock_ask : ℕ → Open → LockElement → Ask
unlock_ask number row e = range_ask None number row (acts.Unlock (extent_of e)) false

abbrev pub range_of : LockElement → Extent × Bool
range_of e = (extent_of e, is_exclusive e)

-- all ranges are locked in order, or none; while grace runs they wait for its end, if a cache keeps the first off they wait for
-- the answer to its break, one that may wait does if something stands against it for good, and who waits is answered by this
-- connection (SMB-24)
unfoldable pub lock_ask : ℕ → ℕ → Open → List LockElement → Ask
lock_ask conn number row es = range_ask (Some conn) number row (acts.Ranges (map range_of es)) (any_waits es)

-- what was asked for is granted
abbrev pub is_granted : Answer → Bool
is_granted (answers.Granted c) = true
is_granted answer = false

-- ---- unlocks: in order, up to the first that fails; those before it stay

abbrev pub unlock_told : Ask → Answer → List Deed × Locking → List Deed × Locking
unlock_told a (answers.Granted c) rest = (Asks no_rows a ∷ rest.0, rest.1)
unlock_told a answer rest = (Asks no_rows a ∷ [], Failed RangeNotLocked)

abbrev pub unlock_next : Option SmbStatus → List Deed × Locking → List Deed × Locking
unlock_next None next = next
unlock_next (Some status) next = ([], Failed status)

-- what the unlocks do, and what they come to (SMB-23)
abbrev pub unlocks : CoreState → ℕ → Open → List LockElement → List Deed × Locking
unlocks s number row [] = ([], Done)
unlocks s number row (e ∷ es) =
    let r = ask 0 no_rows s (unlock_ask number row e) in unlock_next (unlock_fault e) (unlock_told (unlock_ask number row e) r.0 (unlocks r.2 number row es))

-- ---- locks: all of them, or none

-- what the answer makes of it
abbrev pub lock_told : Answer → Locking
lock_told answer = comes_to LockNotGranted answer

abbrev pub lock_done : Answer × List Effect × CoreState → Locking × List Effect × CoreState
lock_done r = (lock_told r.0, r.1, r.2)
