-- A list and its front.
use Rattle.std.proofs.Common.{◌≡◌, ◌≤◌, List, [], ◌∷◌, ◌++◌, length, refl, sym, ap, ◌∙◌, append-nil, length-append, arith}
use mathlib.Core.List.{IsPrefix}

-- a list without elements is empty
pub none_left : {A : Type 0} (xs : List A) → length xs ≡ 0 → xs ≡ []
none_left [] none = refl
none_left (x ∷ xs) none = absurd (omega (arith, none))

-- a front of the same length is all
pub front_all : {A : Type 0} (xs ys : List A) → IsPrefix xs ys → length xs ≡ length ys → xs ≡ ys
front_all xs ys front same =
    let rest = none_left front.0 (omega (arith, ap length front.1, length-append xs front.0, same)) in
    sym (append-nil xs) ∙ ap (λ (zs : List _). xs ++ zs) (sym rest) ∙ front.1

pub longer : {A : Type 0} (xs ys : List A) → IsPrefix xs ys → length xs ≤ length ys
longer xs ys front = omega (arith, ap length front.1, length-append xs front.0)
