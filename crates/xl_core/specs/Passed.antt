-- How far the queue of a file was gone through: who is shut out by what is held, in front of a turn that frees nobody there, is so
-- behind it too.
use Rattle.std.specs.Prelude.{◌≡◌, ℕ, Bool, true, false, not, ◌&&◌, ◌||◌, ◌==◌, if◌then◌else◌, List, [], ◌∷◌, length, take, is_some, find}
use Rattle.std.specs.List.{AllByRecursion, list_all, list_any}
use Rattle.xl_matrix.specs.Owners.{posix}
use Rattle.xl_matrix.specs.declared.claim.CacheKind.{CacheKind}
use Rattle.xl_matrix.specs.declared.claim.Claim.{Claim}
use Rattle.xl_matrix.specs.declared.claim.Extent.TheVariants.{Bytes, Empty}
use Rattle.xl_matrix.specs.declared.claim.What.{What}
use Rattle.xl_matrix.specs.declared.claim.What.TheVariants.{Share, Range, Cache}
use Rattle.xl_table.specs.Flat.{is_blocked}
use Rattle.xl_table.specs.Held.{is_cache, is_range, spans_of}
use Rattle.xl_table.specs.Relock.{is_share_of}
use Rattle.xl_wait.specs.Waiting.{waiting_on}
use Rattle.xl_wait.specs.declared.waiter.Waiter.{Waiter}
use Rattle.xl_core.specs.State.{CoreState}
use Rattle.xl_core.specs.Good.{of_first}
use Rattle.xl_core.specs.Judge.{all_granted}
use Rattle.xl_core.specs.declared.ask.Effect.{Effect}
use Rattle.xl_core.specs.declared.passed.Passed.{Passed}
use Rattle.xl_core.specs.declared.settling.Called.{Called}

-- something held blocks the first claim that the waiter asks for, and it waits for that; who waits in front has no part in it
abbrev pub is_shut_out : CoreState → Waiter → Bool
is_shut_out s w = w.blocking && of_first (λ c. is_blocked s.claims c) w.asked

-- so it is with the first so many who wait on the file
unfoldable pub ArePassed : Passed → CoreState → Type 0
ArePassed p s = AllByRecursion (λ w. is_shut_out s w ≡ true) (take p.count (waiting_on p.file s.waiters))

-- a cache is on the file
abbrev pub has_cache : ℕ → List Claim → Bool
has_cache file cs = list_any (λ c. (c.file == file) && is_cache c.what) cs

-- the claim is one of an SMB open's ranges
abbrev pub is_element : Claim → Bool
is_element c = is_range c.what && not (posix c.owner)

-- nothing is held in whose place the claim comes, so that all that is held stays beside it
abbrev pub replaces_none_by : Claim → What → List Claim → Bool
replaces_none_by c (Share access deny) cs = not (is_some (find (is_share_of c.file c.owner) cs))
replaces_none_by c (Range (Bytes first last) exclusive) cs = not (posix c.owner) || (length (spans_of c.file c.owner cs) == 0)
replaces_none_by c (Range (Empty offset) exclusive) cs = true
replaces_none_by c (Cache kind running) cs = true

abbrev pub replaces_none : Claim → List Claim → Bool
replaces_none c cs = replaces_none_by c c.what cs

-- so it is with all of these, of which several are ranges of an SMB open
abbrev pub replace_none : List Claim → List Claim → Bool
replace_none (c ∷ []) cs = replaces_none c cs
replace_none asked cs = list_all is_element asked

-- how many of those who wait on the file are known to be held up: those who were passed there, while it has no cache
abbrev pub known_on : Passed → ℕ → List Claim → ℕ
known_on p file cs = if (p.file == file) && not (has_cache file cs) then p.count else 0

-- no cache is wished for
abbrev pub wishes_none : List CacheKind → Bool
wishes_none [] = true
wishes_none (kind ∷ kinds) = false

-- a grant to who is called is seen to free nobody who waits on the file
abbrev pub is_seen_free : Called → ℕ → List Claim → Bool
is_seen_free called file cs = (wishes_none called.wish && not (has_cache file cs)) && replace_none called.asked cs

-- those who were passed before who is called, as far as its turn is seen to free none of them and began no break
abbrev pub passed_then : Passed → Bool → List Effect → Passed
passed_then front true [] = front
passed_then front frees_nobody begun = record { file = 0; count = 0 }

-- a grant to who is called frees nobody who waits on the file: no cache is there, none is wished for, and whatever is held stays
pub record FreesNobody (called : Called) (file : ℕ) (s : CoreState) : Type 0 where
  pub wish : called.wish ≡ []
  pub uncached : has_cache file s.claims ≡ false
  pub adds : (test : Claim → Bool) → list_any test s.claims ≡ true → list_any test (all_granted called.asked s.claims) ≡ true

-- so many who wait on the file are shut out by what is held, and none of them is who is called
pub record StandBefore (called : Called) (p : Passed) (s : CoreState) : Type 0 where
  pub shut : AllByRecursion (λ w. is_shut_out s w ≡ true) (take p.count (waiting_on p.file s.waiters))
  pub others : AllByRecursion (λ w. (w.id == called.id) ≡ false) (take p.count (waiting_on p.file s.waiters))
