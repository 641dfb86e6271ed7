-- The ranges of an SMB open on a file as the list of elements that xl_exact keeps (MS-FSA 2.1.5.8, 2.1.5.9).
use Rattle.std.specs.Prelude.{◌≡◌, ℕ, ◌+◌, ◌-◌, ◌^◌, Bool, true, false, not, ◌&&◌, ◌==◌, nat_le, List, [], ◌∷◌, Option, Some, None, find, is_some, if◌then◌else◌}
use Rattle.std.specs.List.{AllByRecursion}
use Rattle.std.specs.Option.{option_or}
use Rattle.xl_exact.specs.declared.element.Element.{Element}
use Rattle.xl_matrix.specs.Equal.{same_what}
use Rattle.xl_matrix.specs.declared.claim.Claim.{Claim}
use Rattle.xl_matrix.specs.declared.claim.Extent.{Extent}
use Rattle.xl_matrix.specs.declared.claim.Extent.TheVariants.{Bytes, Empty}
use Rattle.xl_matrix.specs.declared.claim.What.{What}
use Rattle.xl_matrix.specs.declared.claim.What.TheVariants.{Share, Range, Cache}

-- the bytes stand in order, and are not all bytes: 64 bits count them
abbrev pub is_counted : ℕ → ℕ → Bool
is_counted first last = nat_le first last && not ((first == 0) && (last == 2 ^ 64 - 1))

-- a range as an element: its offset, its length and its mode
abbrev pub element_of : What → Option Element
element_of (Range (Bytes first last) exclusive) = if is_counted first last then Some (record { first = first; len = last - first + 1; exclusive = exclusive }) else None
element_of (Range (Empty offset) exclusive) = Some (record { first = offset; len = 0; exclusive = exclusive })
element_of (Share access deny) = None
element_of (Cache kind running) = None

-- the element before these, if there is one
abbrev pub with_element : Option Element → List Element → List Element
with_element None es = es
with_element (Some e) es = e ∷ es

-- the elements of these claims, in the order of the list
abbrev pub elements_in : List Claim → List Element
elements_in [] = []
elements_in (c ∷ cs) = with_element (element_of c.what) (elements_in cs)

-- each of these claims is an element
abbrev pub AreElements : List Claim → Type 0
AreElements cs = AllByRecursion (λ c. is_some (element_of c.what) ≡ true) cs

-- the first of these claims that is this range, exclusive before shared
abbrev pub first_unlocked : Extent → List Claim → Option Claim
first_unlocked extent cs = option_or (find (λ c. same_what c.what (Range extent true)) cs) (find (λ c. same_what c.what (Range extent false)) cs)
