-- What is read of an XDR item is the item that was written, and what was written is read again.
use Rattle.std.proofs.Common.{◌≡◌, ℕ, zero, suc, ◌+◌, ◌*◌, ◌/◌, ◌%◌, ◌^◌, ◌<◌, ◌≤◌, ◌==◌, Bool, true, false, cond, eqb, ltb, leb, List, [], ◌∷◌, ◌++◌, length, take, drop, replicate, Result, Ok, Err, append_assoc, subst, sym, refl, ap, ◌∙◌, arith, rules, Fits}
use Rattle.std.specs.Int.{w32, cast_signed, cast_unsigned}
use Rattle.std.specs.Int.RustNames.{FitsSigned}
use Rattle.std.specs.List.{list_all}
use Rattle.std.proofs.Math.Facts.{sfits_to_z, Fits-of_z}
use Rattle.std.proofs.lemmas.Bool.{eqb-true, ltb-true, ltb-false, leb-true, le-leb, and_parts}
use Rattle.std.proofs.lemmas.Bool.Decides.{nat_tests}
use Rattle.std.proofs.lemmas.Int.{of_z-to_z, to_z-of_z}
use Rattle.std.proofs.lemmas.List.{length-append, length-drop, length-replicate, length-take-le, take-append-drop, take_at, drop_at, append-nil}
use Rattle.xl_base.specs.Codec.{IsCodec, guard_at, fixed_at, nothing_at}
use Rattle.xl_base.proofs.CodecLaws.{view_codec, guard_codec, tagged_codec, same_codec, fixed_codec, bind_ok, guard_ok, guard_not, ok_is, nothing_codec, big_endian_32, big_endian_64}
use Rattle.std.specs.Prelude.{OnOk, OnErr}
use Rattle.xl_rpc.specs.declared.fault.RpcBad.{RpcBad}
use Rattle.xl_rpc.specs.declared.fault.RpcBad.TheVariants as bad
use Rattle.xl_rpc.specs.Xdr.{void, words, words_at, WordsFit, Begins, Keeps, IsReadAgain, unsigned, hyper, signed, boolean, pad, fixed, opaque, unsigned_at, hyper_at, signed_at, boolean_at, is_padded, opaque_fixed_at, opaque_at}

-- the front of four zeros
pub zeros_are : (n : ℕ) → n < 4 → take {A = ℕ} n (0 ∷ 0 ∷ 0 ∷ 0 ∷ []) ≡ replicate n 0
zeros_are zero h = refl
zeros_are (suc zero) h = refl
zeros_are (suc (suc zero)) h = refl
zeros_are (suc (suc (suc zero))) h = refl
zeros_are (suc (suc (suc (suc n)))) h = absurd (omega arith)

-- of nothing the length alone is spelled
pub opaque_none : (bytes : List ℕ) → (length bytes == 0) ≡ true → unsigned 0 ≡ opaque bytes
unfolding fixed opaque pad
opaque_none [] e = sym (append-nil (unsigned 0))
opaque_none (b ∷ bytes) e = absurd (omega (arith, eqb-true (length (b ∷ bytes)) 0 e))

-- bytes that are all zero
zeros_from : (n : ℕ) (bytes : List ℕ) → length bytes ≡ n → list_all (λ b. b == 0) bytes ≡ true → bytes ≡ replicate n 0
zeros_from zero [] len all = refl
zeros_from zero (b ∷ bytes) len all = absurd (omega arith)
zeros_from (suc n) [] len all = absurd (omega arith)
zeros_from (suc n) (b ∷ bytes) len all =
    let parts = and_parts (eqb b 0) (list_all (λ b. b == 0) bytes) all in
    let rest = zeros_from n bytes (omega arith) parts.1 in
    let first : b ≡ 0 = eqb-true b 0 parts.0 in
    rw (first, rest) refl

zeros_all : (n : ℕ) → list_all (λ b. b == 0) (replicate n 0) ≡ true
zeros_all zero = refl
zeros_all (suc n) = zeros_all n

-- ---- the items

pub unsigned_codec : IsCodec unsigned_at unsigned (λ n. n < 2 ^ 32)
unfolding unsigned_at
unsigned_codec = big_endian_32 bad.Short

pub hyper_codec : IsCodec hyper_at hyper (λ n. n < 2 ^ 64)
unfolding hyper_at
hyper_codec = big_endian_64 bad.Short

fits_number : (n : ℕ) → n < 2 ^ 32 → Fits w32 n
fits_number n lt = search rules

pub signed_codec : IsCodec signed_at signed (FitsSigned w32)
unfolding signed_at
signed_codec = view_codec (cast_signed w32) signed (FitsSigned w32) unsigned_codec
    (λ n lt. (ap unsigned (of_z-to_z w32 n lt), sfits_to_z (fits_number n lt)))
    (λ z fits. (cast_unsigned w32 z, to_z-of_z w32 z fits, omega (arith, Fits-of_z fits)))

number_of_flag : (n : ℕ) → n < 2 → cond (eqb n 1) 1 0 ≡ n
number_of_flag n lt = grind (arith, nat_tests)

flag_of_number : (b : Bool) → eqb (cond b 1 0) 1 ≡ b
flag_of_number true = refl
flag_of_number false = refl

flag_below : (b : Bool) → ltb (cond b 1 0) 2 ≡ true
flag_below true = refl
flag_below false = refl

flag_fits : (b : Bool) → cond b 1 0 < 2 ^ 32
flag_fits true = omega arith
flag_fits false = omega arith

pub boolean_codec : IsCodec boolean_at boolean (λ _. Unit {0})
unfolding boolean_at
boolean_codec = view_codec (λ n. n == 1) boolean (λ _. Unit {0}) (guard_codec (λ n. ltb n 2) bad.Bool unsigned_codec)
    (λ n fit. (ap unsigned (number_of_flag n (omega (arith, ltb-true n 2 fit.1))), tt))
    (λ b _. (cond b 1 0, flag_of_number b, (flag_fits b, flag_below b)))

padded : (n : ℕ) (units : List ℕ) → (length units ≡ n + pad n) × (is_padded n units ≡ true) → (fixed (take n units) ≡ units) × (length (take n units) ≡ n)
unfolding fixed
padded n units fit =
    let len : length (take n units) ≡ n = length-take-le n units (omega arith) in
    let zeros : drop n units ≡ replicate (pad n) 0 = zeros_from (pad n) (drop n units) (omega (arith, length-drop n units)) fit.1 in
    (rw (len, ← zeros) (take-append-drop n units), len)

unpadded : (n : ℕ) (bytes : List ℕ) → length bytes ≡ n → (units : List ℕ) × (take n units ≡ bytes) × ((length units ≡ n + pad n) × (is_padded n units ≡ true))
unpadded n bytes len =
    let zeros = replicate (pad n) 0 in
    (bytes ++ zeros, take_at bytes zeros n len, (omega (arith, length-append bytes zeros, length-replicate {A = ℕ} (pad n) 0), ap (list_all (λ b. b == 0)) (drop_at bytes zeros n len) ∙ zeros_all (pad n)))

pub opaque_fixed_codec : (n : ℕ) → IsCodec (opaque_fixed_at n) fixed (λ bytes. length bytes ≡ n)
unfolding opaque_fixed_at
opaque_fixed_codec n = view_codec (take n) fixed (λ bytes. length bytes ≡ n) (guard_codec (is_padded n) bad.Pad (fixed_codec bad.Short (n + pad n))) (padded n) (unpadded n)

pub opaque_codec : (most : ℕ) → most < 2 ^ 32 → IsCodec (opaque_at most) opaque (λ bytes. length bytes ≤ most)
unfolding opaque_at opaque
opaque_codec most lt = same_codec opaque (λ bytes. length bytes ≤ most)
    (tagged_codec {Fit = λ _. Unit {0}} length (guard_codec (λ n. leb n most) bad.TooLong unsigned_codec)
    (λ n. same_codec fixed (λ bytes. (length bytes ≡ n) × Unit {0}) (opaque_fixed_codec n) (λ bytes len. (refl, (len, tt))) (λ bytes fit. fit.0)))
    (λ bytes fit. (refl, leb-true (length bytes) most fit.0.1))
    (λ bytes le. ((omega arith, le-leb (length bytes) most le), tt))

pub void_codec : IsCodec {E = RpcBad} nothing_at (λ _. void) (λ _. Unit {0})
unfolding void
void_codec = nothing_codec

pub words_codec : IsCodec words_at words WordsFit
unfolding words_at words
words_codec = tagged_codec (λ bytes. length bytes / 4) unsigned_codec
    (λ n. same_codec (λ bytes. bytes) (λ bytes. (length bytes / 4 ≡ n) × (length bytes % 4 ≡ 0)) (fixed_codec bad.Short (n * 4))
    (λ bytes len. (refl, (omega (arith, len), omega (arith, len))))
    (λ bytes fit. omega (arith, fit.0, fit.1)))

-- what is read of a fixed length has it
length_is : (n : ℕ) (bytes : List ℕ) (x : List ℕ × List ℕ) → opaque_fixed_at n bytes ≡ Ok x → length x.0 ≡ n
unfolding opaque_fixed_at
length_is n bytes x e =
    let a = bind_ok (guard_at (is_padded n) bad.Pad (fixed_at bad.Short (n + pad n)) bytes) (λ a. Ok (take n a.0, a.1)) x e in
    let b = bind_ok (fixed_at bad.Short (n + pad n) bytes) (λ b. cond (is_padded n b.0) (Ok b) (Err bad.Pad)) a.0 a.1 in
    let g = guard_ok (is_padded n b.0.0) bad.Pad (Ok b.0) a.0 b.2 in
    let f = guard_not (ltb (length bytes) (n + pad n)) bad.Short (Ok (take (n + pad n) bytes, drop (n + pad n) bytes)) b.0 b.1 in
    let long : n + pad n ≤ length bytes = ltb-false _ _ f.0 in
    let units : length (take (n + pad n) bytes) ≡ n + pad n = length-take-le (n + pad n) bytes long in
    let whole : length (take n (take (n + pad n) bytes)) ≡ n = length-take-le n (take (n + pad n) bytes) (omega (arith, units)) in
    let one = subst (λ (y : List ℕ × List ℕ). length (take n y.0) ≡ n) (ok_is {E = RpcBad} _ b.0 f.1) whole in
    let two = subst (λ (y : List ℕ × List ℕ). length (take n y.0) ≡ n) (ok_is {E = RpcBad} b.0 a.0 g.1) one in
    subst (λ (y : List ℕ × List ℕ). length y.0 ≡ n) (ok_is {E = RpcBad} _ x a.2) two

pub fixed_length : (n : ℕ) (bytes taken rest : List ℕ) → opaque_fixed_at n bytes ≡ Ok (taken, rest) → length taken ≡ n
fixed_length n bytes taken rest e = length_is n bytes (taken, rest) e

-- whole words have no padding
pub fixed_words : (bytes : List ℕ) → length bytes % 4 ≡ 0 → fixed bytes ≡ bytes
unfolding fixed pad
fixed_words bytes whole = rw whole (append-nil bytes)

-- ---- writing

pub keeps_front : {E : Type 0} (result : Result (Unit {0}) E) (old new text front : List ℕ) → OnOk result (new ≡ old ++ text) → OnErr result (new ≡ old) → Begins front old → Begins front new
unfolding Begins
keeps_front (Ok x) old new text front ok err begins = (begins.0 ++ text, ok ∙ ap (λ (t : List ℕ). t ++ text) begins.1 ∙ append_assoc front begins.0 text)
keeps_front (Err e) old new text front ok err begins = (begins.0, err ∙ begins.1)

-- what stood before a message stands there alone where all behind it is taken back
pub taken_back : (old written : List ℕ) → Keeps old written → take (length old) written ≡ old
unfolding Begins
taken_back old written keeps =
    let there = keeps old ([], sym (append-nil old)) in
    rw (there.1) (take_at old there.0 (length old) refl)

pub read_again : {A E : Type 0} {at : List ℕ → Result (A × List ℕ) E} {spell : A → List ℕ} {Fit : A → Type 0} → IsCodec at spell Fit → (v : A) (old new : List ℕ) → Fit v → new ≡ old ++ spell v → IsReadAgain at v old new
read_again {A} {E} {at} {spell} f v old new fit is rest = rw (is, drop_at old (spell v) (length old) refl) (f.again v rest fit)
