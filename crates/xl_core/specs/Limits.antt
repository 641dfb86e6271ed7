-- The limits that a grant or a wait may pass.
use Rattle.std.specs.Prelude.{◌≡◌, ℕ, ◌≤◌, Bool, true, false, ◌&&◌, ◌==◌, nat_lt, nat_le, if◌then◌else◌, List, [], ◌∷◌, Option, Some, None}
use Rattle.std.specs.List.{list_any}
pub use Rattle.xl_base.specs.Limits.{most_waiters, most_opens, most_owners}
use Rattle.xl_base.specs.RecordFile.{most_record_bytes}
use Rattle.xl_names.specs.Names.{most_names}
use Rattle.xl_wait.specs.declared.waiter.Rooms.{Rooms}
use Rattle.xl_table.specs.Relock.{most_claims}

abbrev pub most_hosts : ℕ
most_hosts = 256

-- each limit of a grant, the lesser first, and whether it is passed: so many rows are left and come, so many claims are
-- held afterwards, the record that is stored for it has so many bytes, and so many names are kept (CORE-5)
abbrev pub grant_limits : Rooms → Rooms → ℕ → ℕ → ℕ → List (ℕ × Bool)
grant_limits left rows held bytes kept =
    (most_hosts, nat_lt left.hosts rows.hosts) ∷ (most_opens, nat_lt left.opens rows.opens) ∷ (most_owners, nat_lt left.owners rows.owners)
    ∷ (most_claims, nat_lt most_claims held) ∷ (most_record_bytes, nat_lt most_record_bytes bytes) ∷ (most_names, nat_lt most_names kept) ∷ []

-- each limit of a wait, if so many wait already (CORE-5)
abbrev pub wait_limits : Rooms → Rooms → ℕ → ℕ → List (ℕ × Bool)
wait_limits left rows waiting kept =
    (most_hosts, nat_lt left.hosts rows.hosts) ∷ (most_waiters, nat_le most_waiters waiting) ∷ (most_names, nat_lt most_names kept) ∷ []

-- each limit of a wish by itself: so many claims may be held afterwards as are, and then it gets no cache (CACHE-10)
abbrev pub wish_limits : Rooms → Rooms → ℕ → List (ℕ × Bool)
wish_limits left rows kept =
    (most_hosts, nat_lt left.hosts rows.hosts) ∷ (most_opens, nat_lt left.opens rows.opens) ∷ (most_owners, nat_lt left.owners rows.owners) ∷ (most_names, nat_lt most_names kept) ∷ []

-- the first limit that is passed
abbrev pub first_passed : List (ℕ × Bool) → Option ℕ
first_passed [] = None
first_passed (limit ∷ limits) = if limit.1 then Some limit.0 else first_passed limits

-- ---- what that is

-- the limit is among these, and passed
abbrev pub is_passed : List (ℕ × Bool) → ℕ → Bool
is_passed limits n = list_any (λ limit. (limit.0 == n) && limit.1) limits

-- none of the limits is passed
abbrev pub IsRoom : List (ℕ × Bool) → Type 0
IsRoom limits = (n : ℕ) → is_passed limits n ≡ false

-- this limit is passed, and no lesser one
abbrev pub IsLeastPassed : List (ℕ × Bool) → ℕ → Type 0
IsLeastPassed limits n = (is_passed limits n ≡ true) × ((m : ℕ) → is_passed limits m ≡ true → n ≤ m)
