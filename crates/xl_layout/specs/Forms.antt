-- Forms: bodies that begin with their size, and which form a body has.
use Rattle.std.specs.Prelude.{◌≡◌, ℕ, ◌+◌, Bool, true, false, ◌&&◌, not, ◌==◌, List, [], ◌∷◌, ◌++◌, length, nat_lt, Option, Some, None, Result, Ok, Err, OnOk, if◌then◌else◌}
use Rattle.std.specs.Int.{w16}
use Rattle.xl_base.specs.Codec.{little_endian, ◌>>=◌}
use Rattle.xl_layout.specs.Places.{u16_at, joined}
use Rattle.xl_layout.specs.Layouts.{Layout, read, parts_at, all_stand, extent, fields, parts, Fit}

-- How many bytes of a frame stand before the body; the size, in two bytes, with which it begins; how many of its bytes are
-- fixed; and the fields behind the size.
pub record Form (A : Type 0) : Type 0 where
  pub before : ℕ
  pub size : ℕ
  pub fixed : ℕ
  pub layout : Layout A

-- ---- reading

-- the size with which a body begins, 0 if its two bytes are cut
unfoldable pub size_found : List ℕ → ℕ
size_found body = if nat_lt (length body) 2 then 0 else u16_at 0 body

-- whether a body begins with this size and its fixed part, of so many bytes, is whole
unfoldable pub has_fixed : ℕ → ℕ → List ℕ → Bool
has_fixed size fixed body = (size_found body == size) && not (nat_lt (length body) fixed)

abbrev pub form_value : {A : Type 0} → Form A → List ℕ → List ℕ → A
form_value f frame body = read f.layout 2 f.fixed frame body

abbrev pub form_parts : {A : Type 0} → Form A → List ℕ → List ℕ → List Bool
form_parts f frame body = parts_at f.layout 2 f.fixed frame body

-- What a body of a form tells, in its frame. It is cut if it begins with another size, which the fault names, or its fixed
-- part isn't whole; else a part may not stand.
unfoldable pub form_read : {A E : Type 0} → (ℕ → E) → E → Form A → List ℕ → List ℕ → Result A E
form_read cut gone f frame body =
    if has_fixed f.size f.fixed body then (if all_stand (form_parts f frame body) then Ok (form_value f frame body) else Err gone)
    else Err (cut (size_found body))

-- a body that is not looked at, and tells this; or one of a form, which tells what this makes of it
pub data Body (A : Type 0) : Type 1 where
  unread : A → Body A
  reads : {B : Type 0} → (B → A) → Form B → Body A

-- one body if the test holds, and another if it doesn't
abbrev pub either_body : {A : Type 0} → Bool → Body A → Body A → Body A
either_body true this other = this
either_body false this other = other

abbrev pub body_read : {A E : Type 0} → (ℕ → E) → E → Body A → List ℕ → List ℕ → Result A E
body_read cut gone (unread a) frame body = Ok a
body_read cut gone (reads make f) frame body = form_read cut gone f frame body >>= λ b. Ok (make b)

-- ---- faults

-- whether a body has the form of this size and fixed part; one that is not looked at has none, and needs none
abbrev pub has_form : Option (ℕ × ℕ) → List ℕ → Bool
has_form None body = true
has_form (Some form) body = has_fixed form.0 form.1 body

-- the fault of a body of this size, by whether it has its form, and whether its parts stand
abbrev pub first_fault : {E : Type 0} → (ℕ → E) → E → ℕ → Bool → Bool → Option E
first_fault cut gone found formed stand = if formed then (if stand then None else Some gone) else Some (cut found)

-- ---- spelling

-- where in the frame the parts begin: behind the size and the fields
abbrev pub parts_begin : {A : Type 0} → Form A → A → ℕ
parts_begin f a = f.before + (2 + extent f.layout a)

unfoldable pub form_text : {A : Type 0} → Form A → A → List ℕ
form_text f a = joined (little_endian w16 f.size ∷ (fields f.layout (parts_begin f a) a ++ parts f.layout (parts_begin f a) a))

abbrev pub FormFits : {A : Type 0} → Form A → A → Type 0
FormFits f a = Fit f.layout a

-- what is spelled of a message: no body, or one of a form for this value
pub data Spelling : Type 1 where
  no_body : Spelling
  by_form : {A : Type 0} → Form A → A → Spelling

abbrev pub spelled : Spelling → List ℕ
spelled no_body = []
spelled (by_form f a) = form_text f a

abbrev pub SpellingFits : Spelling → Type 0
SpellingFits no_body = Unit {0}
SpellingFits (by_form f a) = FormFits f a

-- what a function that writes a body does: unless memory runs out it adds what is spelled, and what is spelled fits its fields
abbrev pub Puts : {X E : Type 0} → Spelling → Result X E → List ℕ → List ℕ → Type 0
Puts s result old new = OnOk result (new ≡ old ++ spelled s) × SpellingFits s
