-- Numbers in texts.
use Rattle.std.specs.Prelude.{ℕ, ◌+◌, ◌-◌, ◌*◌, ◌^◌, Bool, false, ◌==◌, ◌&&◌, nat_le, nat_lt, if◌then◌else◌, List, [], ◌∷◌, Option, Some, None}
use Rattle.std.specs.Option.{option_and_then}

-- a decimal digit
abbrev pub is_digit : ℕ → Bool
is_digit b = nat_le 48 b && nat_le b 57

-- the number with one decimal digit more at its end; none if the byte is no digit, or from 2 ^ 64 on
abbrev pub with_digit : ℕ → ℕ → Option ℕ
with_digit n b = if is_digit b && nat_lt (n * 10 + (b - 48)) (2 ^ 64) then Some (n * 10 + (b - 48)) else None

-- the number with these decimal digits more at its end
abbrev pub value_from : ℕ → List ℕ → Option ℕ
value_from n [] = Some n
value_from n (b ∷ bs) = option_and_then (λ m. value_from m bs) (with_digit n b)

-- a zero stands before other bytes
abbrev pub has_leading_zero : List ℕ → Bool
has_leading_zero [] = false
has_leading_zero (b ∷ []) = false
has_leading_zero (b ∷ c ∷ bs) = b == 48

-- the number below 2 ^ 64 that a word of decimal digits is, without sign and without leading zeros
abbrev pub number_of : List ℕ → Option ℕ
number_of [] = None
number_of (b ∷ bs) = if has_leading_zero (b ∷ bs) then None else value_from 0 (b ∷ bs)
