-- Leases of NFSv4 clients: what a client has is kept until its lease ends, which it renews (RFC 7530 9.5).
use Rattle.std.specs.Prelude.{ℕ, ◌+◌, ◌-◌, ◌^◌, Bool, not, ◌&&◌, nat_le, nat_lt, min, bytes_eq, if◌then◌else◌, List, [], ◌∷◌, ◌++◌, map}
use Rattle.std.specs.List.{filter, list_any}
use Rattle.std.specs.Cmp.Lexicographic.{slice_cmp}
use Rattle.std.specs.Ordering.{nat_cmp, is_lt}
use Rattle.xl_base.specs.Lists.{sorted}
use Rattle.xl_base.specs.declared.event.Moment.{Moment}

-- a client's id string, and the moment at which its lease ends
abbrev pub Lease : Type 0
Lease = List ℕ × Moment

-- the moment so many milliseconds later; sums stop at the last moment that there is (HOUSE-7)
abbrev pub moment_after : Moment → ℕ → Moment
moment_after now milliseconds = record { 0 = min (now.0 + milliseconds) (2 ^ 64 - 1) }

-- the later of two moments
abbrev pub later : Moment → Moment → Moment
later a b = if nat_lt a.0 b.0 then b else a

-- the leases with the client's ending then: in its place, or behind the others if the client has none
unfoldable pub with_lease : List ℕ → Moment → List Lease → List Lease
with_lease client until [] = (client, until) ∷ []
with_lease client until (l ∷ ls) = if bytes_eq client l.0 then (l.0, until) ∷ ls else l ∷ with_lease client until ls

-- the leases without the client's
unfoldable pub without_lease : List ℕ → List Lease → List Lease
without_lease client leases = filter (λ l. not (bytes_eq client l.0)) leases

-- the lease ends at this moment, or ended before (HOUSE-7)
abbrev pub has_ended : Moment → Lease → Bool
has_ended now l = nat_le l.1.0 now.0

-- these id strings with the client's behind them, if its lease has ended
abbrev pub with_ended : Moment → Lease → List (List ℕ) → List (List ℕ)
with_ended now l ids = if has_ended now l then ids ++ l.0 ∷ [] else ids

-- the first id string stands before the second, by bytes
abbrev pub comes_before : List ℕ → List ℕ → Bool
comes_before a b = is_lt (slice_cmp nat_cmp a b)

-- the clients whose lease has ended, by their id strings and in the order of these (HOUSE-8)
unfoldable pub ended : Moment → List Lease → List (List ℕ)
ended now leases = sorted comes_before (map (λ l. l.0) (filter (has_ended now) leases))

-- the client is one of them
unfoldable pub is_ended : Moment → List Lease → List ℕ → Bool
is_ended now leases client = list_any (λ l. has_ended now l && bytes_eq client l.0) leases
