-- Words of the laws of opens: the rights that a CREATE asks for, and what ends leave.
use Rattle.std.specs.Prelude.{◌≡◌, ℕ, ◌||◌, Bool, true, false, List, [], ◌∷◌, Option, Some, None}
use Rattle.std.specs.List.{AllByRecursion}
use Rattle.xl_base.specs.Lists.{IsIn}
use Rattle.xl_base.specs.declared.name.Owner.TheVariants as owners
use Rattle.xl_base.specs.declared.name.Party.TheVariants as parties
use Rattle.xl_matrix.specs.Blocks.{is_cache}
use Rattle.xl_matrix.specs.declared.claim.Claim.{Claim}
use Rattle.xl_matrix.specs.declared.claim.Rwd.{Rwd}
use Rattle.xl_names.specs.declared.name.Name.{Name}
use Rattle.xl_smb_state.specs.State.{Lists, covers_holder, lease_of, makes_under, open_of, waiting_of}
use Rattle.xl_smb_state.specs.declared.row.Lease.{Lease}
use Rattle.xl_smb_state.specs.declared.row.LeaseKey.{LeaseKey}
use Rattle.xl_smb_state.specs.declared.row.Open.{Open}
use Rattle.xl_smb_state.specs.declared.row.Scope.{Scope}
use Rattle.xl_smb_state.specs.declared.row.Waiting.{Waiting}
use Rattle.xl_core.specs.State.{CoreState}
use Rattle.xl_smb_locks.specs.Levels.{lease_party}

-- ---- access (MS-SMB2 2.2.13.1.1)

abbrev pub nothing : Rwd
nothing = record { r = false; w = false; d = false }

abbrev pub reading : Rwd
reading = record { r = true; w = false; d = false }

abbrev pub writing : Rwd
writing = record { r = false; w = true; d = false }

abbrev pub deletion : Rwd
deletion = record { r = false; w = false; d = true }

abbrev pub everything : Rwd
everything = record { r = true; w = true; d = true }

-- each right of a DesiredAccess by itself, from the lowest bit on, with the access that it is: FILE_READ_DATA,
-- FILE_WRITE_DATA, FILE_APPEND_DATA, FILE_READ_EA, FILE_WRITE_EA, FILE_EXECUTE, FILE_DELETE_CHILD, FILE_READ_ATTRIBUTES,
-- FILE_WRITE_ATTRIBUTES; DELETE, READ_CONTROL, WRITE_DAC, WRITE_OWNER, SYNCHRONIZE; ACCESS_SYSTEM_SECURITY,
-- MAXIMUM_ALLOWED; GENERIC_ALL, GENERIC_EXECUTE, GENERIC_WRITE, GENERIC_READ
abbrev pub rights : List (ℕ × Rwd)
rights =
    (0x1, reading) ∷ (0x2, writing) ∷ (0x4, writing) ∷ (0x8, nothing) ∷ (0x10, nothing) ∷ (0x20, reading) ∷ (0x40, nothing) ∷ (0x80, nothing) ∷ (0x100, nothing)
    ∷ (0x10000, deletion) ∷ (0x20000, nothing) ∷ (0x40000, nothing) ∷ (0x80000, nothing) ∷ (0x100000, nothing)
    ∷ (0x01000000, nothing) ∷ (0x02000000, everything)
    ∷ (0x10000000, everything) ∷ (0x20000000, reading) ∷ (0x40000000, writing) ∷ (0x80000000, reading) ∷ []

-- the access of two together
abbrev pub united : Rwd → Rwd → Rwd
united a b = record { r = a.r || b.r; w = a.w || b.w; d = a.d || b.d }

-- ---- what the end of a session, a tree connect or a connection leaves

-- the open, as it is found, is held under it
abbrev pub is_held_under : Scope → Option Open → Bool
is_held_under under None = false
is_held_under under (Some row) = covers_holder under row.holder

-- Of each open under it no share and no range is held; no cache of one that is under no lease; and no cache of a lease of
-- which each open is under it. Nor is a share or range held of an open that a request under it waits to make.
pub record LeavesNothing (names : List Name) (under : Scope) (l : Lists) (left : CoreState) : Type 0 where
  pub opens : (number : ℕ) (c : Claim) → is_held_under under (open_of number l) ≡ true → IsIn c left.claims → c.owner ≡ owners.Open number → is_cache c.what ≡ true
  pub oplocks : (number : ℕ) (row : Open) (c : Claim) → open_of number l ≡ Some row → covers_holder under row.holder ≡ true → row.lease ≡ None → IsIn c left.claims → is_cache c.what ≡ true → c.party ≡ parties.Open number → ⊥
  pub leases : (key : LeaseKey) (row : Lease) (c : Claim) → lease_of key l ≡ Some row → AllByRecursion (λ n. is_held_under under (open_of n l) ≡ true) row.opens → IsIn c left.claims → is_cache c.what ≡ true → c.party ≡ lease_party names key.client key.key → ⊥
  pub waiting : (id : ℕ) (row : Waiting) (c : Claim) → waiting_of id l ≡ Some row → makes_under under row ≡ true → IsIn c left.claims → c.owner ≡ owners.Open row.opened → is_cache c.what ≡ true
