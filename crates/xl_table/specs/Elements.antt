-- The byte ranges that an SMB open has locked on a file, one by one (MS-FSA 2.1.5.8, 2.1.5.9), and how a lock is taken back.
use Rattle.std.specs.Prelude.{◌≡◌, ℕ, ◌-◌, Bool, true, false, ◌&&◌, if◌then◌else◌, List, [], ◌∷◌, Option, Some, None, find}
use Rattle.std.specs.List.{list_any, prefix_len, remove}
use Rattle.std.specs.Option.{option_or}
use Rattle.xl_base.specs.declared.name.Owner.{Owner}
use Rattle.xl_matrix.specs.Equal.{same_what, same_claims}
use Rattle.xl_matrix.specs.declared.claim.Claim.{Claim}
use Rattle.xl_matrix.specs.declared.claim.Extent.{Extent}
use Rattle.xl_matrix.specs.declared.claim.What.{What}
use Rattle.xl_matrix.specs.declared.claim.What.TheVariants.{Range}
use Rattle.xl_table.specs.Flat.{inserted, removed}
use Rattle.xl_table.specs.Held.{IsKept}
use Rattle.xl_table.specs.Order.{goes_first}
use Rattle.xl_table.specs.Relock.{is_range_of}

-- the owner's ranges on the file, in the order of the list: those of an SMB open as they were locked
abbrev pub elements_of : ℕ → Owner → List Claim → List What
elements_of file owner [] = []
elements_of file owner (c ∷ cs) = if is_range_of file owner c then c.what ∷ elements_of file owner cs else elements_of file owner cs

-- one of these is equal to it
abbrev pub is_among : What → List What → Bool
is_among what ws = list_any (λ w. same_what w what) ws

-- without the first of these that is equal to it
abbrev pub without : What → List What → List What
without what [] = []
without what (w ∷ ws) = if same_what w what then ws else w ∷ without what ws

-- the elements after an unlock of the range: without the first exclusive one that is equal to it, or if there is none,
-- without the first shared one
unfoldable pub unlocked_elements : Extent → List What → List What
unlocked_elements extent es = if is_among (Range extent true) es then without (Range extent true) es else without (Range extent false) es

-- ---- among the claims

-- the claim is held
abbrev pub is_held : Claim → List Claim → Bool
is_held claim cs = list_any (λ c. same_claims c claim) cs

-- the claim is a range of the asker's on its file, and is this one
abbrev pub is_element : Claim → What → Claim → Bool
is_element ask what c = is_range_of ask.file ask.owner c && same_what c.what what

-- the held claim that the asker's unlock of the range takes out: the first of just this range, exclusive before shared
unfoldable pub element_held : Claim → Extent → List Claim → Option Claim
element_held ask extent cs = option_or (find (is_element ask (Range extent true)) cs) (find (is_element ask (Range extent false)) cs)

-- the claims without it, if there is one
abbrev pub taken_out : Option Claim → List Claim → List Claim
taken_out None cs = cs
taken_out (Some c) cs = removed c cs

-- ---- a lock taken back

-- without the claim that stands last of those no later than this one, which is where this one was put in
unfoldable pub taken_back : Claim → List Claim → List Claim
taken_back claim cs = remove cs (prefix_len (λ c. goes_first c claim) cs - 1)

-- the claim was the last that came among its like: without it, these are claims that a table may hold
pub record CameLast (claim : Claim) (cs : List Claim) : Type 0 where
  pub before : List Claim
  pub kept : IsKept before
  pub is : cs ≡ inserted claim before
