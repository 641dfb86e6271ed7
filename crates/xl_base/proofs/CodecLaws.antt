-- A reader and a spelling that are put together of codecs are a codec.
use Rattle.std.proofs.Common.{◌≡◌, ℕ, ◌+◌, ◌^◌, ◌<◌, ◌≤◌, ◌==◌, Bool, true, false, cond, ltb, eqb, List, [], ◌++◌, length, take, drop, Result, Ok, Err, refl, sym, ap, subst, ◌∙◌, append_assoc, arith, inl, inr}
use Rattle.std.specs.Prelude.{IfOk}
use Rattle.std.specs.Int.{Width, w32, w64, byte_len, from_be_bytes, to_be_bytes}
use Rattle.std.proofs.lemmas.Bool.{cases_Bool, cases_lt, eqb-true, ltb-false, le-ltb}
use Rattle.std.proofs.lemmas.Bool.Decides.{nat_tests}
use Rattle.std.proofs.lemmas.List.{take_at, drop_at, take-append-drop, length-append, length-take, get_or-drop, get_or-take, get_or_past}
use Rattle.std.proofs.lemmas.Nat.{be_bytes_4, be_bytes_8, from_be_bytes-to_be_bytes_4, from_be_bytes-to_be_bytes_8}
use Rattle.xl_base.specs.Results.{Gives}
use Rattle.xl_base.specs.Codec.{big_endian, ◌>>=◌, pair_at, as_at, guard_at, exactly_at, tagged_at, if_at, nothing_at, never_at, fixed_at, big_endian_at, IsBytes, Takes, IsCodec, Advances}

-- ---- bytes

pub IsBytes-drop : (n : ℕ) (bytes : List ℕ) → IsBytes bytes → IsBytes (drop n bytes)
IsBytes-drop n bytes h i = rw get_or-drop (h (n + i))

pub IsBytes-take : (n : ℕ) (bytes : List ℕ) → IsBytes bytes → IsBytes (take n bytes)
IsBytes-take n bytes h i =
    elim (cases_lt i n) [
      | inl lt ↦ rw (get_or-take n bytes i 0 lt) (h i)
      | inr le ↦ rw (get_or_past (take n bytes) i 0 (omega (arith, length-take n bytes))) (omega arith)
    ]

-- ---- results

-- the value of a step that did not fail
pub bind_ok : {A B E : Type 0} (r : Result A E) (f : A → Result B E) (y : B) → (r >>= f) ≡ Ok y → (x : A) × (r ≡ Ok x) × (f x ≡ Ok y)
bind_ok (Ok x) f y e = (x, refl, e)
bind_ok (Err d) f y e = absurd cc

-- a test that did not fail, in either form
pub guard_ok : {A E : Type 0} (b : Bool) (d : E) (r : Result A E) (y : A) → cond b r (Err d) ≡ Ok y → (b ≡ true) × (r ≡ Ok y)
guard_ok true d r y e = (refl, e)
guard_ok false d r y e = absurd cc

pub guard_not : {A E : Type 0} (b : Bool) (d : E) (r : Result A E) (y : A) → cond b (Err d) r ≡ Ok y → (b ≡ false) × (r ≡ Ok y)
guard_not true d r y e = absurd cc
guard_not false d r y e = (refl, e)

abbrev done : {A E : Type 0} → A → Result A E
done x = Ok x

pub ok_is : {A E : Type 0} (x y : A) → done {E = E} x ≡ done y → x ≡ y
ok_is x y e = cc

-- ---- taking one text after another

pub Takes-then : (a x b y c : List ℕ) → Takes a x b → Takes b y c → Takes a (x ++ y) c
Takes-then a x b y c p q = record { parts = p.parts ∙ ap (λ (t : List ℕ). x ++ t) q.parts ∙ sym (append_assoc x y c); rest_is = q.rest_is }

pub Takes-none : (bytes : List ℕ) → IsBytes bytes → Takes bytes [] bytes
Takes-none bytes is = record { parts = refl; rest_is = is }

-- ---- the combinators

pub pair_codec : {A B E : Type 0} {first : List ℕ → Result (A × List ℕ) E} {second : A → List ℕ → Result (B × List ℕ) E} {spell_first : A → List ℕ} {spell_second : A → B → List ℕ} {Fit_first : A → Type 0} {Fit_second : A → B → Type 0}
    → IsCodec first spell_first Fit_first → ((a : A) → IsCodec (second a) (spell_second a) (Fit_second a))
    → IsCodec (pair_at first second) (λ p. spell_first p.0 ++ spell_second p.0 p.1) (λ p. Fit_first p.0 × Fit_second p.0 p.1)
pair_codec {A} {B} {E} {first} {second} {spell_first} {spell_second} {Fit_first} {Fit_second} f g = record {
  takes = λ bytes x is e.
      let a = bind_ok (first bytes) (λ a. second a.0 a.1 >>= λ b. Ok ((a.0, b.0), b.1)) x e in
      let b = bind_ok (second a.0.0 a.0.1) (λ b. Ok ((a.0.0, b.0), b.1)) x a.2 in
      let one = f.takes bytes a.0 is a.1 in
      let two = (g a.0.0).takes a.0.1 b.0 one.0.rest_is b.1 in
      let made : (A × B) × List ℕ = ((a.0.0, b.0.0), b.0.1) in
      subst (λ (y : (A × B) × List ℕ). Takes bytes (spell_first y.0.0 ++ spell_second y.0.0 y.0.1) y.1 × (Fit_first y.0.0 × Fit_second y.0.0 y.0.1)) (ok_is {E = E} made x b.2)
      (Takes-then bytes (spell_first a.0.0) a.0.1 (spell_second a.0.0 b.0.0) b.0.1 one.0 two.0, (one.1, two.1));
  again = λ v rest fit.
      ap (pair_at first second) (append_assoc (spell_first v.0) (spell_second v.0 v.1) rest)
      ∙ rw (f.again v.0 (spell_second v.0 v.1 ++ rest) fit.0, (g v.0).again v.1 rest fit.1) refl;
}

-- the same thing, seen otherwise, where the two views undo each other on what fits
pub as_codec : {A B E : Type 0} {at : List ℕ → Result (A × List ℕ) E} {spell : A → List ℕ} {Fit : A → Type 0} (to : A → B) (from : B → A)
    → IsCodec at spell Fit → ((a : A) → Fit a → from (to a) ≡ a) → ((b : B) → to (from b) ≡ b)
    → IsCodec (as_at to at) (λ b. spell (from b)) (λ b. Fit (from b))
as_codec {A} {B} {E} {at} {spell} {Fit} to from f back forth = record {
  takes = λ bytes x is e.
      let a = bind_ok (at bytes) (λ a. Ok (to a.0, a.1)) x e in
      let one = f.takes bytes a.0 is a.1 in
      let made : B × List ℕ = (to a.0.0, a.0.1) in
      let same = sym (back a.0.0 one.1) in
      subst (λ (y : B × List ℕ). Takes bytes (spell (from y.0)) y.1 × Fit (from y.0)) (ok_is {E = E} made x a.2)
      (subst (λ (t : A). Takes bytes (spell t) a.0.1 × Fit t) same one);
  again = λ v rest fit. rw (f.again (from v) rest fit) (ap (λ (b : B). Ok (b, rest)) (forth v));
}

-- the same, where only the values that fit are views of others
pub view_codec : {A B E : Type 0} {at : List ℕ → Result (A × List ℕ) E} {spell : A → List ℕ} {Fit : A → Type 0} (to : A → B) (spelled : B → List ℕ) (Fits : B → Type 0)
    → IsCodec at spell Fit → ((a : A) → Fit a → (spelled (to a) ≡ spell a) × Fits (to a)) → ((b : B) → Fits b → (a : A) × (to a ≡ b) × Fit a)
    → IsCodec (as_at to at) spelled Fits
view_codec {A} {B} {E} {at} {spell} {Fit} to spelled Fits f there back = record {
  takes = λ bytes x is e.
      let a = bind_ok (at bytes) (λ a. Ok (to a.0, a.1)) x e in
      let one = f.takes bytes a.0 is a.1 in
      let made : B × List ℕ = (to a.0.0, a.0.1) in
      let seen = there a.0.0 one.1 in
      subst (λ (y : B × List ℕ). Takes bytes (spelled y.0) y.1 × Fits y.0) (ok_is {E = E} made x a.2)
      (subst (λ (text : List ℕ). Takes bytes text a.0.1) (sym seen.0) one.0, seen.1);
  again = λ v rest fit.
      let a = back v fit in
      let text : spelled v ≡ spell a.0 = ap spelled (sym a.1) ∙ (there a.0 a.2).0 in
      rw (text, f.again a.0 rest a.2) (ap (λ (b : B). Ok (b, rest)) a.1);
}

pub guard_codec : {A E : Type 0} {at : List ℕ → Result (A × List ℕ) E} {spell : A → List ℕ} {Fit : A → Type 0} (test : A → Bool) (fault : E)
    → IsCodec at spell Fit → IsCodec (guard_at test fault at) spell (λ a. Fit a × (test a ≡ true))
guard_codec {A} {E} {at} {spell} {Fit} test fault f = record {
  takes = λ bytes x is e.
      let a = bind_ok (at bytes) (λ a. cond (test a.0) (Ok a) (Err fault)) x e in
      let g = guard_ok (test a.0.0) fault (Ok a.0) x a.2 in
      let one = f.takes bytes a.0 is a.1 in
      subst (λ (y : A × List ℕ). Takes bytes (spell y.0) y.1 × (Fit y.0 × (test y.0 ≡ true))) (ok_is {E = E} a.0 x g.1) (one.0, (one.1, g.0));
  again = λ v rest fit. rw (f.again v rest fit.0, fit.1) refl;
}

pub exactly_codec : {A E : Type 0} {number : List ℕ → Result (ℕ × List ℕ) E} {spell_number : ℕ → List ℕ} {Fit_number : ℕ → Type 0} {at : List ℕ → Result (A × List ℕ) E} {spell : A → List ℕ} {Fit : A → Type 0} (n : ℕ) (fault : E)
    → IsCodec number spell_number Fit_number → Fit_number n → IsCodec at spell Fit
    → IsCodec (exactly_at n fault number at) (λ a. spell_number n ++ spell a) Fit
exactly_codec {A} {E} {number} {spell_number} {Fit_number} {at} {spell} {Fit} n fault f fits g = record {
  takes = λ bytes x is e.
      let m = bind_ok (number bytes) (λ m. cond (eqb m.0 n) (at m.1) (Err fault)) x e in
      let there = guard_ok (eqb m.0.0 n) fault (at m.0.1) x m.2 in
      let one = f.takes bytes m.0 is m.1 in
      let front = subst (λ (k : ℕ). Takes bytes (spell_number k) m.0.1) (eqb-true _ _ there.0) one.0 in
      let two = g.takes m.0.1 x one.0.rest_is there.1 in
      (Takes-then bytes (spell_number n) m.0.1 (spell x.0) x.1 front two.0, two.1);
  again = λ v rest fit.
      let same : eqb n n ≡ true = grind (arith, nat_tests) in
      ap (exactly_at n fault number at) (append_assoc (spell_number n) (spell v) rest)
      ∙ rw (f.again n (spell v ++ rest) fits, same) (g.again v rest fit);
}

pub nothing_codec : {E : Type 0} → IsCodec (nothing_at {E = E}) (λ _. []) (λ _. Unit {0})
nothing_codec = record {
  takes = λ bytes x is e. (subst (λ (y : Unit {0} × List ℕ). Takes bytes [] y.1) (ok_is _ x e) (Takes-none bytes is), tt);
  again = λ v rest fit. refl;
}

pub never_codec : {A E : Type 0} (fault : E) (spell : A → List ℕ) (Fit : A → Type 0) → ((v : A) → Fit v → ⊥) → IsCodec (never_at {A = A} fault) spell Fit
never_codec fault spell Fit none = record {
  takes = λ bytes x is e. absurd cc;
  again = λ v rest fit. absurd (none v fit);
}

-- what stands behind a tag: tag_of is the tag of a value
pub tagged_codec : {K A E : Type 0} {key : List ℕ → Result (K × List ℕ) E} {spell_key : K → List ℕ} {Fit_key : K → Type 0} {at : K → List ℕ → Result (A × List ℕ) E} {spell : A → List ℕ} {Fit : A → Type 0} (tag_of : A → K)
    → IsCodec key spell_key Fit_key → ((tag : K) → IsCodec (at tag) spell (λ v. (tag_of v ≡ tag) × Fit v))
    → IsCodec (tagged_at key at) (λ v. spell_key (tag_of v) ++ spell v) (λ v. Fit_key (tag_of v) × Fit v)
tagged_codec {K} {A} {E} {key} {spell_key} {Fit_key} {at} {spell} {Fit} tag_of f g = record {
  takes = λ bytes x is e.
      let tag = bind_ok (key bytes) (λ tag. at tag.0 tag.1) x e in
      let one = f.takes bytes tag.0 is tag.1 in
      let two = (g tag.0.0).takes tag.0.1 x one.0.rest_is tag.2 in
      let same : tag.0.0 ≡ tag_of x.0 = sym two.1.0 in
      let both = Takes-then bytes (spell_key tag.0.0) tag.0.1 (spell x.0) x.1 one.0 two.0 in
      (subst (λ (k : K). Takes bytes (spell_key k ++ spell x.0) x.1) same both, (subst Fit_key same one.1, two.1.1));
  again = λ v rest fit.
      ap (tagged_at key at) (append_assoc (spell_key (tag_of v)) (spell v) rest)
      ∙ rw (f.again (tag_of v) (spell v ++ rest) fit.0) ((g (tag_of v)).again v rest (refl, fit.1));
}

-- one tag after the other: what stands behind tag n, and what stands behind the others
pub if_codec : {A E : Type 0} {this other : List ℕ → Result (A × List ℕ) E} {spell : A → List ℕ} (Fits : ℕ → A → Type 0) (tag n : ℕ)
    → IsCodec this spell (Fits n) → ((tag == n) ≡ false → IsCodec other spell (Fits tag))
    → IsCodec (if_at tag n this other) spell (Fits tag)
if_codec {A} {E} {this} {other} {spell} Fits tag n f g =
    elim (cases_Bool (eqb tag n)) [
      | inl holds ↦ (
          let same : n ≡ tag = sym (eqb-true _ _ holds) in
          let there : IsCodec this spell (Fits tag) = subst (λ (k : ℕ). IsCodec this spell (Fits k)) same f in
          record {
            takes = λ bytes x is e. there.takes bytes x is (rw holds at e);
            again = λ v rest fit. rw holds (there.again v rest fit);
          })
      | inr fails ↦ (
          let there = g fails in
          record {
            takes = λ bytes x is e. there.takes bytes x is (rw fails at e);
            again = λ v rest fit. rw fails (there.again v rest fit);
          })
    ]

-- the same codec by another name of its spelling and of what fits
pub same_codec : {A E : Type 0} {at : List ℕ → Result (A × List ℕ) E} {spell : A → List ℕ} {Fit : A → Type 0} (spelled : A → List ℕ) (Fits : A → Type 0)
    → IsCodec at spell Fit → ((v : A) → Fit v → (spelled v ≡ spell v) × Fits v) → ((v : A) → Fits v → Fit v)
    → IsCodec at spelled Fits
same_codec {A} {E} {at} {spell} {Fit} spelled Fits f there back = record {
  takes = λ bytes x is e.
      let one = f.takes bytes x is e in
      let seen = there x.0 one.1 in
      (subst (λ (text : List ℕ). Takes bytes text x.1) (sym seen.0) one.0, seen.1);
  again = λ v rest fit.
      let fits = back v fit in
      rw ((there v fits).0) (f.again v rest fits);
}

pub fixed_codec : {E : Type 0} (short : E) (n : ℕ) → IsCodec (fixed_at short n) (λ bytes. bytes) (λ bytes. length bytes ≡ n)
fixed_codec {E} short n = record {
  takes = λ bytes x is e.
      let g = guard_not (ltb (length bytes) n) short (Ok (take n bytes, drop n bytes)) x e in
      let long : n ≤ length bytes = ltb-false _ _ g.0 in
      let front : Takes bytes (take n bytes) (drop n bytes) = record { parts = sym (take-append-drop n bytes); rest_is = IsBytes-drop n bytes is } in
      subst (λ (y : List ℕ × List ℕ). Takes bytes y.0 y.1 × (length y.0 ≡ n)) (ok_is {E = E} (take n bytes, drop n bytes) x g.1) (front, omega (arith, length-take n bytes));
  again = λ v rest fit.
      let long : ltb (length (v ++ rest)) n ≡ false = le-ltb _ _ (omega (arith, length-append v rest)) in
      rw (long, take_at v rest n fit, drop_at v rest n fit) refl;
}

-- ---- numbers

-- a number of this width, which is below the limit, and its bytes
pub record IsWide (w : Width) (limit : ℕ) (spelled : ℕ → List ℕ) (read : List ℕ → ℕ) : Type 0 where
  pub len : (n : ℕ) → length (spelled n) ≡ byte_len w
  pub back : (bytes : List ℕ) → length bytes ≡ byte_len w → IsBytes bytes → spelled (read bytes) ≡ bytes
  pub again : (n : ℕ) → n < limit → read (spelled n) ≡ n
  pub below : (bytes : List ℕ) → IsBytes bytes → read bytes < limit

pub wide_codec : {E : Type 0} (short : E) (w : Width) (limit : ℕ) (spelled : ℕ → List ℕ) (read : List ℕ → ℕ) → IsWide w limit spelled read
    → IsCodec (λ bytes. cond (ltb (length bytes) (byte_len w)) (Err short) (Ok (read (take (byte_len w) bytes), drop (byte_len w) bytes))) spelled (λ n. n < limit)
wide_codec {E} short w limit spelled read wide = record {
  takes = λ bytes x is e.
      let front = take (byte_len w) bytes in
      let rest = drop (byte_len w) bytes in
      let g = guard_not (ltb (length bytes) (byte_len w)) short (Ok (read front, rest)) x e in
      let long : byte_len w ≤ length bytes = ltb-false _ _ g.0 in
      let front_is : IsBytes front = IsBytes-take (byte_len w) bytes is in
      let text : spelled (read front) ≡ front = wide.back front (omega (arith, length-take (byte_len w) bytes)) front_is in
      let parts : bytes ≡ spelled (read front) ++ rest = rw text (sym (take-append-drop (byte_len w) bytes)) in
      let one : Takes bytes (spelled (read front)) rest = record { parts = parts; rest_is = IsBytes-drop (byte_len w) bytes is } in
      subst (λ (y : ℕ × List ℕ). Takes bytes (spelled y.0) y.1 × (y.0 < limit)) (ok_is {E = E} (read front, rest) x g.1) (one, wide.below front front_is);
  again = λ n rest lt.
      let len = wide.len n in
      let long : ltb (length (spelled n ++ rest)) (byte_len w) ≡ false = le-ltb _ _ (omega (arith, length-append (spelled n) rest)) in
      rw (long, take_at (spelled n) rest (byte_len w) len, drop_at (spelled n) rest (byte_len w) len, wide.again n lt) refl;
}

pub big_endian_32 : {E : Type 0} (short : E) → IsCodec (big_endian_at short w32) (big_endian w32) (λ n. n < 2 ^ 32)
unfolding big_endian
big_endian_32 short = wide_codec short w32 (2 ^ 32) (to_be_bytes w32) (from_be_bytes w32) record {
  len = λ n. refl;
  back = λ bytes len is. be_bytes_4 bytes _ len is refl;
  again = λ n lt. from_be_bytes-to_be_bytes_4 n lt;
  below = λ bytes is. omega (arith, is 0, is 1, is 2, is 3);
}

pub big_endian_64 : {E : Type 0} (short : E) → IsCodec (big_endian_at short w64) (big_endian w64) (λ n. n < 2 ^ 64)
unfolding big_endian
big_endian_64 short = wide_codec short w64 (2 ^ 64) (to_be_bytes w64) (from_be_bytes w64) record {
  len = λ n. refl;
  back = λ bytes len is. be_bytes_8 bytes _ len is refl;
  again = λ n lt. from_be_bytes-to_be_bytes_8 n lt;
  below = λ bytes is. omega (arith, is 0, is 1, is 2, is 3, is 4, is 5, is 6, is 7);
}

-- ---- what a reader's clauses say, from the one that it gives what its definition gives

-- what is read is spelled so, and fits
pub found_by : {X A E : Type 0} {at : List ℕ → Result (A × List ℕ) E} {spell : A → List ℕ} {Fit : A → Type 0} (view : X → A × List ℕ)
    → IsCodec at spell Fit → (bytes : List ℕ) (r : Result X E) → IsBytes bytes → Gives view r (at bytes)
    → IfOk r (λ x. (bytes ≡ spell (view x).0 ++ (view x).1) × Fit (view x).0)
found_by view f bytes (Ok x) is exact = let t = f.takes bytes (view x) is exact in (t.0.parts, t.1)
found_by view f bytes (Err e) is exact = tt

-- what is spelled so and fits is read, whatever follows
pub only_by : {X A E : Type 0} {at : List ℕ → Result (A × List ℕ) E} {spell : A → List ℕ} {Fit : A → Type 0} (view : X → A × List ℕ)
    → IsCodec at spell Fit → (bytes : List ℕ) (r : Result X E) → Gives view r (at bytes)
    → (v : A) (rest : List ℕ) → Fit v → bytes ≡ spell v ++ rest → Gives view r (Ok (v, rest))
only_by {X} {A} {E} {at} {spell} {Fit} view f bytes r exact v rest fit is =
    subst (Gives view r) (ap at is ∙ f.again v rest fit) exact

-- the same of a method that moves a reader on
pub found_on : {X A E : Type 0} {at : List ℕ → Result (A × List ℕ) E} {spell : A → List ℕ} {Fit : A → Type 0} (view : X → A)
    → IsCodec at spell Fit → (old new : List ℕ) (r : Result X E) → IsBytes old → Advances view r old new (at old)
    → IfOk r (λ x. (old ≡ spell (view x) ++ new) × Fit (view x))
found_on view f old new (Ok x) is exact = let t = f.takes old (view x, new) is exact in (t.0.parts, t.1)
found_on view f old new (Err e) is exact = tt

pub only_on : {X A E : Type 0} {at : List ℕ → Result (A × List ℕ) E} {spell : A → List ℕ} {Fit : A → Type 0} (view : X → A)
    → IsCodec at spell Fit → (old new : List ℕ) (r : Result X E) → Advances view r old new (at old)
    → (v : A) (rest : List ℕ) → Fit v → old ≡ spell v ++ rest → Advances view r old new (Ok (v, rest))
only_on {X} {A} {E} {at} {spell} {Fit} view f old new r exact v rest fit is =
    subst (Advances view r old new) (ap at is ∙ f.again v rest fit) exact

-- Where two spellings begin the same bytes, they are one, and so are the values: none is a proper beginning of another.
pub one_spelling : {A E : Type 0} {at : List ℕ → Result (A × List ℕ) E} {spell : A → List ℕ} {Fit : A → Type 0}
    → IsCodec at spell Fit → (v w : A) (x y : List ℕ) → Fit v → Fit w → spell v ++ x ≡ spell w ++ y → (v ≡ w) × (x ≡ y)
one_spelling {A} {E} {at} {spell} {Fit} f v w x y fit_v fit_w same =
    let both : (v, x) ≡ (w, y) = ok_is {E = E} (v, x) (w, y) (sym (f.again v x fit_v) ∙ ap at same ∙ f.again w y fit_w) in
    (ap (λ (p : A × List ℕ). p.0) both, ap (λ (p : A × List ℕ). p.1) both)
