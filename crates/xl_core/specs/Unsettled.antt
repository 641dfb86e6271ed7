-- What is kept beside the state, so that not all who wait are looked at after each change: the files on which someone may
-- wait whom nothing blocks, neither what is held nor a range that is asked for in front of it.
use Rattle.std.specs.Prelude.{◌≡◌, ℕ, Bool, true, false, ◌==◌, if◌then◌else◌, List, [], ◌∷◌, Option, Some, None, IfSome, is_some}
use Rattle.std.specs.List.{AllByRecursion, list_any}
use Rattle.xl_matrix.specs.declared.claim.Claim.{Claim}
use Rattle.xl_table.specs.Leaving.{goes}
use Rattle.xl_table.specs.declared.leaver.Leaver.{Leaver}
use Rattle.xl_wait.specs.Waiting.{first_file, waits_on}
use Rattle.xl_wait.specs.declared.waiter.Waiter.{Waiter}
use Rattle.xl_core.specs.Settle.{waits_with}
use Rattle.xl_core.specs.State.{CoreState}
use Rattle.xl_core.specs.Blockers.{before_number}
use Rattle.xl_core.specs.Good.{is_held_up}
use Rattle.xl_core.specs.declared.ask.Act.{Act}
use Rattle.xl_core.specs.declared.ask.Act.TheVariants.{Share, Ranges, Test, Unlock, Wish}
use Rattle.xl_core.specs.declared.ask.Answer.{Answer}
use Rattle.xl_core.specs.declared.ask.Answer.TheVariants.{Granted}
use Rattle.xl_core.specs.declared.ask.Ask.{Ask}
use Rattle.xl_core.specs.declared.ask.Effect.{Effect}
use Rattle.xl_core.specs.declared.unsettled.Unsettled.{Unsettled}
use Rattle.xl_core.specs.declared.unsettled.Unsettled.TheVariants.{Files, All}

-- the file is one of these
abbrev pub is_among : Unsettled → ℕ → Bool
is_among (Files files) file = list_any (λ f. file == f) files
is_among All file = true

-- the file, if there is one alone
abbrev pub only_file : Unsettled → Option ℕ
only_file (Files []) = None
only_file (Files (file ∷ [])) = Some file
only_file (Files (file ∷ other ∷ files)) = None
only_file All = None

-- this file is one of them too
abbrev pub with_file : ℕ → Unsettled → Unsettled
with_file file (Files files) = Files (file ∷ files)
with_file file All = All

-- each of the files of one is among those of the other
abbrev pub IsWider : Unsettled → Unsettled → Type 0
IsWider old new = (file : ℕ) → is_among new file ≡ false → is_among old file ≡ false

-- a file is noted: it is among them, if someone of these waits on it
pub record Notes (old new : Unsettled) (file : ℕ) (ws : List Waiter) : Type 0 where
  pub wider : IsWider old new
  pub own : waits_on file ws ≡ true → is_among new file ≡ true

-- the file on which the waiter waits is among them
abbrev pub IsNoted : Unsettled → Waiter → Type 0
IsNoted unsettled w = IfSome (first_file w.asked) (λ file. is_among unsettled file ≡ true)

-- and so is each from which claims go with who leaves
pub record NotesLeft (old new : Unsettled) (leaver : Leaver) (held : List Claim) (ws : List Waiter) : Type 0 where
  pub wider : IsWider old new
  pub own : AllByRecursion (λ c. goes leaver c ≡ true → waits_on c.file ws ≡ true → is_among new c.file ≡ true) held

-- and each on which someone of these waits no more with who leaves: who waits behind it there may have waited for it
pub record NotesGone (old new : Unsettled) (leaver : Leaver) (ws : List Waiter) : Type 0 where
  pub wider : IsWider old new
  pub gone : AllByRecursion (λ w. waits_with leaver w ≡ true → IsNoted new w) ws

-- and that of the waiter of this number, who cancels
pub record NotesOne (old new : Unsettled) (id : ℕ) (ws : List Waiter) : Type 0 where
  pub wider : IsWider old new
  pub one : AllByRecursion (λ w. (w.id == id) ≡ true → IsNoted new w) ws

-- an ask that is answered so may have changed what is held on its file: one that waits is blocked, and none other changes it
abbrev pub is_granted : Answer → Bool
is_granted (Granted c) = true
is_granted _ = false

abbrev pub may_free : Act → Answer → Bool
may_free (Share access deny) answer = is_granted answer
may_free (Ranges ranges) answer = is_granted answer
may_free (Test extent exclusive) answer = false
may_free (Unlock extent) answer = is_granted answer
may_free Wish answer = is_granted answer

-- it told of breaks that began, or may have changed what is held there
abbrev pub may_change : Ask → Answer → List Effect → Bool
may_change a answer [] = may_free a.act answer
may_change a answer (effect ∷ told) = true

-- the unsettled files then
abbrev pub left_by_ask : Ask → Answer → List Effect → Unsettled → Unsettled
left_by_ask a answer told unsettled = if may_change a answer told then with_file a.file unsettled else unsettled

-- there is none of them
abbrev pub is_none : Unsettled → Bool
is_none (Files []) = true
is_none (Files (file ∷ files)) = false
is_none All = false

-- the first of these is so, if there is one
abbrev pub IsOfFirst : (Claim → Type 0) → List Claim → Type 0
IsOfFirst P [] = Unit {0}
IsOfFirst P (c ∷ cs) = P c

-- of what one asks for who waits behind these the first claim is held up, or its file is one of these
abbrev pub IsHeldUp : Unsettled → List Waiter → CoreState → Waiter → List Claim → Type 0
IsHeldUp unsettled earlier s w asked = IsOfFirst (λ c. is_among unsettled c.file ≡ false → is_held_up earlier s w c ≡ true) asked

-- each of these is, behind those who wait before it
abbrev pub AreUp : Unsettled → CoreState → List Waiter → Type 0
AreUp unsettled s ws = AllByRecursion (λ w. IsHeldUp unsettled (before_number w.id s.waiters) s w w.asked) ws

-- who isn't held up behind those before it waits on one of these files, unless grace runs (TABLE-17)
unfoldable pub AreHeldUp : Unsettled → CoreState → Type 0
AreHeldUp unsettled s = is_some s.grace ≡ false → AreUp unsettled s s.waiters
