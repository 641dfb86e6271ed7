-- Records as they are spelled (RFC 5531 11), apart from how they are read.
use Rattle.std.specs.Prelude.{◌≡◌, ℕ, ◌+◌, ◌^◌, ◌<◌, ◌≤◌, Bool, true, false, if◌then◌else◌, List, [], ◌∷◌, ◌++◌, length}
use Rattle.std.specs.Int.{w32, to_be_bytes}
use Rattle.std.specs.List.{AllByRecursion}
use Rattle.xl_base.specs.Limits.{most_message_bytes}

-- a fragment: four bytes, of which the top bit says whether it is its record's last and the others how many bytes follow,
-- and these bytes
abbrev pub fragment : Bool → List ℕ → List ℕ
fragment last body = to_be_bytes w32 ((if last then 2 ^ 31 else 0) + length body) ++ body

-- a record in fragments with these bytes, of which the last ones are those of its last
abbrev pub spelled : List (List ℕ) → List ℕ → List ℕ
spelled [] ending = fragment true ending
spelled (body ∷ bodies) ending = fragment false body ++ spelled bodies ending

-- its fragments joined
abbrev pub message_in : List (List ℕ) → List ℕ → List ℕ
message_in [] ending = ending
message_in (body ∷ bodies) ending = body ++ message_in bodies ending

-- it has at most 64 fragments, of which only the last may be empty, and at most 65,536 bytes
pub record IsRecord (bodies : List (List ℕ)) (ending : List ℕ) : Type 0 where
  pub few : length bodies < 64
  pub filled : AllByRecursion (λ body. 0 < length body) bodies
  pub short : length (message_in bodies ending) ≤ most_message_bytes

-- the stream begins with a record of this message, and these bytes stand behind it
pub record Begins (stream message behind : List ℕ) : Type 0 where
  pub bodies : List (List ℕ)
  pub ending : List ℕ
  pub fits : IsRecord bodies ending
  pub is : message ≡ message_in bodies ending
  pub stands : stream ≡ spelled bodies ending ++ behind
