-- Ranges meet by their bytes.
use Rattle.std.proofs.Common.{◌≡◌, ℕ, Bool, true, max, arith}
use Rattle.std.proofs.lemmas.Bool.Decides.{nat_tests}
use Rattle.xl_matrix.specs.declared.claim.Extent.TheVariants.{Bytes}
use Rattle.xl_matrix.specs.Extents.{has_byte, meeting}

pub meeting-common : (smb : Bool) (first last start end : ℕ) → meeting smb (Bytes first last) (Bytes start end) ≡ true → (x : ℕ) × (has_byte (Bytes first last) x ≡ true) × (has_byte (Bytes start end) x ≡ true)
meeting-common smb first last start end h = (max first start, grind (arith, nat_tests), grind (arith, nat_tests))

pub common-meeting : (smb : Bool) (first last start end x : ℕ) → has_byte (Bytes first last) x ≡ true → has_byte (Bytes start end) x ≡ true → meeting smb (Bytes first last) (Bytes start end) ≡ true
common-meeting smb first last start end x h k = grind (arith, nat_tests)
