-- Which two claims may be held together.
use Rattle.std.specs.Prelude.{ℕ, Bool, true, false, not, ◌&&◌, ◌||◌, ◌==◌, Option, Some, None, if◌then◌else◌, List, ◌≡◌, ◌≤◌}
use Rattle.std.specs.List.{list_any}
use Rattle.xl_base.specs.declared.name.Owner.{Owner}
use Rattle.xl_matrix.specs.declared.claim.Rwd.{Rwd}
use Rattle.xl_matrix.specs.declared.claim.Extent.{Extent}
use Rattle.xl_matrix.specs.declared.claim.What.{What}
use Rattle.xl_matrix.specs.declared.claim.What.TheVariants.{Share, Range, Cache}
use Rattle.xl_matrix.specs.declared.claim.Claim.{Claim}
use Rattle.xl_matrix.specs.Owners.{posix}
use Rattle.xl_matrix.specs.Rights.{common, implies}
use Rattle.xl_matrix.specs.Extents.{has_byte, meeting}
use Rattle.xl_matrix.specs.Kinds.{writes, guarding}
use Rattle.xl_matrix.specs.Equal.{same_owners, same_parties}

-- neither's access meets what the other denies
abbrev pub shares_fit : Rwd → Rwd → Rwd → Rwd → Bool
shares_fit access deny rights denied = not (common access denied) && not (common rights deny)

-- the ranges of these owners meet: an empty range stands against SMB ranges alone (CLAIM-3)
abbrev pub ranges_meet : Owner → Extent → Owner → Extent → Bool
ranges_meet owner extent other place = meeting (not (posix owner) && not (posix other)) extent place

-- which modes may stand on one byte: of two owners both shared, of one POSIX owner none, of one SMB open all except
-- two exclusive ones (CLAIM-2)
abbrev pub modes_fit : Owner → Bool → Owner → Bool → Bool
modes_fit owner exclusive other alone =
    if same_owners owner other
    then not (posix owner) && not (exclusive && alone)
    else not exclusive && not alone

-- the ranges don't meet, or their modes may stand on one byte
abbrev pub ranges_fit : Owner → Extent → Bool → Owner → Extent → Bool → Bool
ranges_fit owner extent exclusive other place alone = not (ranges_meet owner extent other place) || modes_fit owner exclusive other alone

-- the matrix on one file, for what the two claims claim; a break that runs changes nothing (CLAIM-4)
unfoldable pub fit_by : Claim → Claim → What → What → Bool
fit_by a b (Share access deny) (Share rights denied) = shares_fit access deny rights denied
fit_by a b (Share access deny) (Range extent exclusive) = true
fit_by a b (Share access deny) (Cache kind running) = same_parties a.party b.party || not (guarding kind access deny)
fit_by a b (Range extent exclusive) (Share access deny) = true
fit_by a b (Range extent exclusive) (Range place alone) = ranges_fit a.owner extent exclusive b.owner place alone
fit_by a b (Range extent exclusive) (Cache kind running) = same_parties a.party b.party
fit_by a b (Cache kind running) (Share access deny) = same_parties a.party b.party || not (guarding kind access deny)
fit_by a b (Cache kind running) (Range extent exclusive) = same_parties a.party b.party
fit_by a b (Cache kind running) (Cache other due) = not (same_parties a.party b.party) && (not (writes kind) && not (writes other))

-- two claims may be held together: on two files, or if the matrix says so (CLAIM-1)
unfoldable pub compat : Claim → Claim → Bool
compat a b = not (a.file == b.file) || fit_by a b a.what b.what

-- the mode in which a claim locks the byte, true for exclusive; None if it is no range or has not that byte
abbrev pub lock_by : What → ℕ → Option Bool
lock_by (Range extent exclusive) byte = if has_byte extent byte then Some exclusive else None
lock_by _ byte = None

abbrev pub lock_on : Claim → ℕ → Option Bool
lock_on claim byte = lock_by claim.what byte

-- what the two claims of these owners do to one byte may stand together
abbrev pub locks_agree : Owner → Option Bool → Owner → Option Bool → Bool
locks_agree owner (Some exclusive) other (Some alone) = modes_fit owner exclusive other alone
locks_agree owner lock other place = true

-- the byte is locked, and at least in this mode
abbrev pub is_as_strong : Bool → Option Bool → Bool
is_as_strong exclusive None = false
is_as_strong exclusive (Some alone) = implies exclusive alone

-- the part has the names of the whole, on its file, and locks the byte at least in this mode
abbrev pub is_part : Claim → Bool → ℕ → Claim → Bool
is_part whole exclusive byte part =
    (part.file == whole.file) && (same_owners part.owner whole.owner && (same_parties part.party whole.party && is_as_strong exclusive (lock_on part byte)))

-- each byte from the first to the last is locked by some part of the whole, at least in this mode
abbrev pub IsMadeOf : Claim → ℕ → ℕ → Bool → List Claim → Type 0
IsMadeOf whole first last exclusive parts = (byte : ℕ) → first ≤ byte → byte ≤ last → list_any (is_part whole exclusive byte) parts ≡ true
