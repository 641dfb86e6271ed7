-- Formats: a message's reading, spelling, bounds and law in one place.
use Rattle.std.specs.Prelude.{◌≡◌, ℕ, ◌==◌, ◌||◌, Bool, true, false, List, Result}
use Rattle.std.proofs.lemmas.Bool.{eqb-true}
use Rattle.xl_base.specs.Codec.{as_at, guard_at, choose_at, IsCodec}

-- How a value is read and spelled, which values have a spelling, and that reading and spelling undo each other (WIRE-3).
pub record Format (A E : Type 0) : Type 1 where
  pub at : List ℕ → Result (A × List ℕ) E
  pub spell : A → List ℕ
  pub Fit : A → Type 0
  pub codec : IsCodec at spell Fit

-- ---- values that are numbered

-- the value that has this number; a number of none is a fault
abbrev pub numbered_at : {A E : Type 0} → E → (ℕ → A) → (A → ℕ) → (List ℕ → Result (ℕ × List ℕ) E) → List ℕ → Result (A × List ℕ) E
numbered_at fault to from number bytes = as_at to (guard_at (λ n. n == from (to n)) fault number) bytes

-- ---- one form of several, by a key that is known before it is read

-- The forms in the order in which their tests are tried: the key that alone passes the test, what is made of what is
-- read, and how it is read. Behind them stands what is read at the keys that pass none.
pub data Cases (K A E : Type 0) : Type 1 where
  others : (K → Format A E) → Cases K A E
  when : {B : Type 0} → (test : K → Bool) → (key : K) → ((k : K) → test k ≡ true → k ≡ key) → (B → A) → Format B E → Cases K A E → Cases K A E

-- the form at this number
abbrev pub case : {A B E : Type 0} → ℕ → (B → A) → Format B E → Cases ℕ A E → Cases ℕ A E
case m make f behind = when (λ n. n == m) m (λ n holds. eqb-true n m holds) make f behind

abbrev pub cases_at : {K A E : Type 0} → Cases K A E → K → List ℕ → Result (A × List ℕ) E
cases_at (others f) k bytes = (f k).at bytes
cases_at (when test key is make f behind) k bytes = choose_at (test k) (as_at make f.at) (cases_at behind k) bytes

-- whether the key is that of a form, or was known before
abbrev pub known_in : {K A E : Type 0} → (K → Bool) → Cases K A E → K → Bool
known_in before (others f) k = before k
known_in before (when test key is make f behind) k = known_in (λ j. before j || test j) behind k

-- what is read at a key that is none of a form's
abbrev pub other_of : {K A E : Type 0} → Cases K A E → K → Format A E
other_of (others f) k = f k
other_of (when test key is make f behind) k = other_of behind k

abbrev pub is_listed : {K A E : Type 0} → Cases K A E → K → Bool
is_listed cases k = known_in (λ _. false) cases k

-- A value as one of the forms: its key, its part, and what has to hold that it has a spelling.
pub record Chosen (K A E : Type 0) : Type 1 where
  pub key : K
  pub Part : Type 0
  pub make : Part → A
  pub format : Format Part E
  pub part : Part
  pub Fit : Type 0
  pub fits : Fit → format.Fit part

abbrev pub chosen : {K A B E : Type 0} → K → (B → A) → Format B E → B → Chosen K A E
chosen {K} {A} {B} key make f part = record { key = key; Part = B; make = make; format = f; part = part; Fit = f.Fit part; fits = λ fit. fit }

abbrev pub spelled : {K A E : Type 0} → Chosen K A E → List ℕ
spelled c = c.format.spell c.part

-- What a form gives is seen as that form, with what was read as its part; what is read at an unknown key has that key
-- and its spelling.
abbrev pub AreSeen : {K A E : Type 0} → (A → Chosen K A E) → (K → Bool) → Cases K A E → Type 1
AreSeen {K} {A} choose before (others f) = ((k : K) → before k ≡ false → (a : A) → (f k).Fit a → (spelled (choose a) ≡ (f k).spell a) × (((choose a).key ≡ k) × (choose a).Fit)) × Unit {1}
AreSeen choose before (when {B} test key is make f behind) = ((b : B) → choose (make b) ≡ chosen key make f b) × AreSeen choose (λ j. before j || test j) behind

-- a value is made of its part, and at its key the part is read
abbrev pub IsMade : {K A E : Type 0} → Cases K A E → A → Chosen K A E → Type 0
IsMade cases a c = (c.make c.part ≡ a) × (c.Fit → (bytes : List ℕ) → cases_at cases c.key bytes ≡ as_at c.make c.format.at bytes)
