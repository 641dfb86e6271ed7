-- Laws of texts that are joined, and of things of a size.
use Rattle.std.proofs.Common.{◌≡◌, ℕ, zero, suc, ◌+◌, ◌*◌, ◌/◌, ◌<◌, ◌≤◌, List, [], ◌∷◌, ◌++◌, length, map, take, drop, get_or, slice_index_or, refl, sym, ap, ◌∙◌, append_assoc, arith}
use Rattle.std.specs.Borrow.{Bor}
use Rattle.std.proofs.lemmas.Grind.{take_at_read}
use Rattle.std.proofs.Math.Nat.{mul-zero, mul-suc, add_comm, add-div_right, div-eq_of_lt}
use Rattle.std.proofs.lemmas.List.{append-nil, map-append, drop-drop, length-drop}
use Rattle.xl_layout.specs.Places.{joined, each_of, whole_of}

abbrev pub contents : List (Bor (List ℕ)) → List (List ℕ)
contents texts = map (λ text. text.now) texts

pub joined-append : (xs ys : List (List ℕ)) → joined (xs ++ ys) ≡ joined xs ++ joined ys
joined-append [] ys = refl
joined-append (x ∷ xs) ys = ap (λ (t : List ℕ). x ++ t) (joined-append xs ys) ∙ sym (append_assoc x (joined xs) (joined ys))

-- one text more
pub joined_more : (texts : List (Bor (List ℕ))) (i : ℕ) (d : Bor (List ℕ)) (old : List ℕ) → i < length texts
    → (old ++ joined (contents (take i texts))) ++ (get_or texts i d).now ≡ old ++ joined (contents (take (i + 1) texts))
joined_more texts i d old within =
    let one : joined (contents (take (i + 1) texts)) ≡ joined (contents (take i texts)) ++ (get_or texts i d).now = ap (λ (t : List (Bor (List ℕ))). joined (contents t)) (take_at_read texts i d within).1 ∙ ap joined (map-append (λ (text : Bor (List ℕ)). text.now) (take i texts) (get_or texts i d ∷ [])) ∙ joined-append (contents (take i texts)) ((get_or texts i d).now ∷ []) ∙ ap (λ (t : List ℕ). joined (contents (take i texts)) ++ t) (append-nil (get_or texts i d).now) in
    append_assoc old (joined (contents (take i texts))) (get_or texts i d).now ∙ ap (λ (t : List ℕ). old ++ t) (sym one)

pub each_length : {A : Type 0} (at : List ℕ → A) (size count : ℕ) (bytes : List ℕ) → length (each_of at size count bytes) ≡ count
unfolding each_of
each_length at size zero bytes = refl
each_length at size (suc count) bytes = ap suc (each_length at size count (drop size bytes))

each_at : {A : Type 0} (at : List ℕ → A) (size count : ℕ) (bytes : List ℕ) (i : ℕ) (d : A) → i < count → get_or (each_of at size count bytes) i d ≡ at (drop (size * i) bytes)
unfolding each_of
each_at at size zero bytes i d within = absurd (omega arith)
each_at at size (suc count) bytes zero d within = ap (λ (n : ℕ). at (drop n bytes)) (sym (mul-zero size))
each_at at size (suc count) bytes (suc i) d within =
    let place : size + size * i ≡ size * suc i = sym (mul-suc size i ∙ add_comm (size * i) size) in
    each_at at size count (drop size bytes) i d (omega arith) ∙ ap at (drop-drop (size * i) size bytes) ∙ ap (λ (n : ℕ). at (drop n bytes)) place

-- the whole thing of this index
pub whole_at : {A : Type 0} (at : List ℕ → A) (size : ℕ) (bytes : List ℕ) (i : ℕ) (d : A) → i < length (whole_of at size bytes) → slice_index_or (whole_of at size bytes) i d ≡ at (drop (size * i) bytes)
whole_at at size bytes i d within = each_at at size (length bytes / size) bytes i d (omega (arith, within, each_length at size (length bytes / size) bytes))

-- the first of the whole things, or none
pub whole_more : {A : Type 0} (at : List ℕ → A) (size : ℕ) (bytes : List ℕ) → 0 < size → size ≤ length bytes → whole_of at size bytes ≡ at bytes ∷ whole_of at size (drop size bytes)
unfolding each_of
whole_more at size bytes some enough =
    let split : length bytes ≡ length (drop size bytes) + size = omega (arith, length-drop size bytes) in
    let count : length bytes / size ≡ suc (length (drop size bytes) / size) = ap (λ (n : ℕ). n / size) split ∙ add-div_right (length (drop size bytes)) some ∙ omega arith in
    rw count refl

pub whole_none : {A : Type 0} (at : List ℕ → A) (size : ℕ) (bytes : List ℕ) → length bytes < size → whole_of at size bytes ≡ []
unfolding each_of
whole_none at size bytes few = rw (div-eq_of_lt few) refl
