-- Kinds of caches as SMB numbers them: oplock levels and lease states (MS-SMB2 2.2.13, 2.2.13.2.8).
use Rattle.std.specs.Prelude.{ℕ, ◌==◌, Option, Some, None, if◌then◌else◌, List, [], ◌∷◌}
use Rattle.xl_matrix.specs.declared.claim.CacheKind.{CacheKind}
use Rattle.xl_matrix.specs.declared.claim.CacheKind.TheVariants.{R, RH, RW, RWH}

-- the bits of a lease state: 1 for reading, 2 for the handle, 4 for writing
abbrev pub state_of : Option CacheKind → ℕ
state_of (Some R) = 1
state_of (Some RH) = 3
state_of (Some RW) = 5
state_of (Some RWH) = 7
state_of _ = 0

-- the kind of a lease state; without reading a lease has none
unfoldable pub kind_of_state : ℕ → Option CacheKind
kind_of_state state =
    if state == 1 then Some R else if state == 3 then Some RH else if state == 5 then Some RW else if state == 7 then Some RWH else None

-- level II, exclusive and batch; RH is no oplock's, and is shown as level II
abbrev pub level_of : Option CacheKind → ℕ
level_of (Some R) = 1
level_of (Some RH) = 1
level_of (Some RW) = 8
level_of (Some RWH) = 9
level_of _ = 0

-- the choices of one who asks for a lease of this state, the first one first
abbrev pub choices_of_kind : Option CacheKind → List CacheKind
choices_of_kind (Some RWH) = RWH ∷ RH ∷ R ∷ []
choices_of_kind (Some RW) = RW ∷ R ∷ []
choices_of_kind (Some RH) = RH ∷ R ∷ []
choices_of_kind (Some R) = R ∷ []
choices_of_kind _ = []

abbrev pub lease_choices : ℕ → List CacheKind
lease_choices state = choices_of_kind (kind_of_state state)

-- the choices of one who asks for an oplock of this level
unfoldable pub oplock_choices : ℕ → List CacheKind
oplock_choices level =
    if level == 9 then RWH ∷ R ∷ [] else if level == 8 then RW ∷ R ∷ [] else if level == 1 then R ∷ [] else []
