-- Equal texts are of equal names.
use Rattle.std.proofs.Common.{◌≡◌, ℕ, ◌<◌, ◌^◌, zero, suc, ℤ, pos, negsuc, ◌/◌, ◌%◌, List, [], ◌∷◌, ◌++◌, get_or, drop, length, refl, sym, ap, subst, ◌∙◌, append_assoc, arith}
use Rattle.std.specs.List.{AllByRecursion}
use Rattle.std.specs.Char.{digit_value}
use Rattle.std.specs.Int.Signed.{mag}
use Rattle.std.specs.Str.Parse.{AllDigits}
use Rattle.std.specs.Fmt.{decimal, signed_decimal}
use Rattle.std.proofs.lemmas.Fmt.{decimal_is_IsNumeral, decimal_injective, signed_decimal_injective}
use Rattle.hex.specs.Hex.{IsBytes, encode_lower, encode_with, decode_of, lower_digits}
use Rattle.hex.proofs.HexLemmas.{decode_of-encode_lower}
use Rattle.xl_names.specs.declared.name.Name.{Name}
use Rattle.xl_names.specs.declared.name.Name.TheVariants.{NlmRange, NlmShare, NlmParty, NfsRange, NfsShare, NfsParty, SmbLease}
use Rattle.xl_names.specs.Texts.{hex_word, name_text, open_text, IsOfBytes, text_form}

-- ---- words parted by a slash

abbrev NoSlash : List ℕ → Type 0
NoSlash cs = AllByRecursion (λ c. c ≡ 47 → ⊥) cs

tail_is : {x y : ℕ} {xs ys : List ℕ} → (x ∷ xs) ≡ (y ∷ ys) → xs ≡ ys
tail_is e = ap (drop 1) e

head_is : {x y : ℕ} {xs ys : List ℕ} → (x ∷ xs) ≡ (y ∷ ys) → x ≡ y
head_is e = ap (λ (cs : List ℕ). get_or cs 0 0) e

parted : (xs ys rs bs : List ℕ) → NoSlash xs → NoSlash rs → xs ++ 47 ∷ ys ≡ rs ++ 47 ∷ bs → (xs ≡ rs) × (ys ≡ bs)
parted [] ys [] bs h k e = (refl, tail_is e)
parted [] ys (a ∷ rs) bs h k e = absurd (k.0 (sym (head_is e)))
parted (x ∷ xs) ys [] bs h k e = absurd (h.0 (head_is e))
parted (x ∷ xs) ys (a ∷ rs) bs h k e = let rest = parted xs ys rs bs h.1 k.1 (tail_is e) in (λ i. head_is e i ∷ rest.0 i, rest.1)

not_parted : (xs rs bs : List ℕ) → NoSlash xs → xs ≡ rs ++ 47 ∷ bs → ⊥
not_parted [] [] bs h e = absurd cc
not_parted [] (a ∷ rs) bs h e = absurd cc
not_parted (x ∷ xs) [] bs h e = h.0 (head_is e)
not_parted (x ∷ xs) (a ∷ rs) bs h e = not_parted xs rs bs h.1 (tail_is e)

-- ---- a word in hex

no_slash_at : (cs : List ℕ) (i : ℕ) → NoSlash cs → get_or cs i 0 ≡ 47 → ⊥
no_slash_at [] i h e = omega (arith, e)
no_slash_at (c ∷ cs) zero h e = h.0 e
no_slash_at (c ∷ cs) (suc i) h e = no_slash_at cs i h.1 e

digits_no_slash : NoSlash lower_digits
digits_no_slash = ((λ e. omega (arith, e)), ((λ e. omega (arith, e)), ((λ e. omega (arith, e)), ((λ e. omega (arith, e)), ((λ e. omega (arith, e)), ((λ e. omega (arith, e)), ((λ e. omega (arith, e)), ((λ e. omega (arith, e)), ((λ e. omega (arith, e)), ((λ e. omega (arith, e)), ((λ e. omega (arith, e)), ((λ e. omega (arith, e)), ((λ e. omega (arith, e)), ((λ e. omega (arith, e)), ((λ e. omega (arith, e)), ((λ e. omega (arith, e)), tt))))))))))))))))

hex_no_slash : (bs : List ℕ) → NoSlash (encode_lower bs)
unfolding encode_with
hex_no_slash [] = tt
hex_no_slash (b ∷ bs) = (no_slash_at lower_digits (b / 16) digits_no_slash, (no_slash_at lower_digits (b % 16) digits_no_slash, hex_no_slash bs))

word_no_slash : (bs : List ℕ) → NoSlash (hex_word bs)
word_no_slash [] = ((λ e. omega (arith, e)), tt)
word_no_slash (b ∷ bs) = hex_no_slash (b ∷ bs)

same_ok : (a b : List ℕ) → IsBytes a → IsBytes b → encode_lower a ≡ encode_lower b → a ≡ b
same_ok a b h k e = let both = sym (decode_of-encode_lower a h) ∙ ap decode_of e ∙ decode_of-encode_lower b k in cc

not_dash : (b : ℕ) (bs : List ℕ) → 45 ∷ [] ≡ encode_lower (b ∷ bs) → ⊥
unfolding encode_with
not_dash b bs e = omega (arith, ap (λ (cs : List ℕ). length cs) e)

word_is : (a b : List ℕ) → IsBytes a → IsBytes b → hex_word a ≡ hex_word b → a ≡ b
word_is [] [] h k e = refl
word_is [] (y ∷ ys) h k e = absurd (not_dash y ys e)
word_is (x ∷ xs) [] h k e = absurd (not_dash x xs (sym e))
word_is (x ∷ xs) (y ∷ ys) h k e = same_ok (x ∷ xs) (y ∷ ys) h k e

-- ---- a number

all_digits : (cs : List ℕ) → AllDigits 10 cs → NoSlash cs
all_digits [] h = tt
all_digits (c ∷ cs) h = ((λ e. omega (arith, subst (λ (n : ℕ). digit_value n < 10) e h.0)), all_digits cs h.1)

number_no_slash : (n : ℕ) → n < 2 ^ 64 → NoSlash (decimal n)
number_no_slash n h = all_digits (decimal n) (decimal_is_IsNumeral n h).0.1

signed_no_slash : (z : ℤ) → mag z < 2 ^ 63 → NoSlash (signed_decimal z)
signed_no_slash (pos n) h = number_no_slash n (omega (arith, h))
signed_no_slash (negsuc n) h = ((λ e. omega (arith, e)), number_no_slash (suc n) (omega (arith, h)))

-- ---- texts of names

two_are : (a b c d : List ℕ) → IsBytes a → IsBytes b → IsBytes c → IsBytes d → hex_word a ++ 47 ∷ hex_word b ≡ hex_word c ++ 47 ∷ hex_word d → (a ≡ c) × (b ≡ d)
two_are a b c d p q r s e =
    let parts = parted (hex_word a) (hex_word b) (hex_word c) (hex_word d) (word_no_slash a) (word_no_slash c) e in
    (word_is a c p r parts.0, word_is b d q s parts.1)

-- a word before a slash is no word alone
alone : (a b : List ℕ) (rest : List ℕ) → hex_word a ≡ hex_word b ++ 47 ∷ rest → ⊥
alone a b rest e = not_parted (hex_word a) (hex_word b) rest (word_no_slash a) e

-- the second letter of a text tells the protocol
abbrev letter : Name → ℕ
letter (NlmRange a n b) = 108
letter (NlmShare a b) = 108
letter (NlmParty a) = 108
letter (NfsRange a b) = 102
letter (NfsShare a b) = 102
letter (NfsParty a) = 102
letter (SmbLease a b) = 109

letter_is : (a : Name) → get_or (name_text a) 1 0 ≡ letter a
unfolding name_text
letter_is (NlmRange a n b) = refl
letter_is (NlmShare a b) = refl
letter_is (NlmParty a) = refl
letter_is (NfsRange a b) = refl
letter_is (NfsShare a b) = refl
letter_is (NfsParty a) = refl
letter_is (SmbLease a b) = refl

one_letter : (a b : Name) → name_text a ≡ name_text b → letter a ≡ letter b
one_letter a b e = sym (letter_is a) ∙ ap (λ (cs : List ℕ). get_or cs 1 0) e ∙ letter_is b

-- a text behind its tag, with its words one behind another
abbrev words : Name → List ℕ
words (NlmRange a n b) = hex_word a ++ 47 ∷ (signed_decimal n ++ 47 ∷ hex_word b)
words (NlmShare a b) = hex_word a ++ 47 ∷ hex_word b
words (NlmParty a) = hex_word a
words (NfsRange a b) = hex_word a ++ 47 ∷ hex_word b
words (NfsShare a b) = hex_word a ++ 47 ∷ hex_word b
words (NfsParty a) = hex_word a
words (SmbLease a b) = hex_word a ++ 47 ∷ hex_word b

words_are : (a : Name) → drop 4 (name_text a) ≡ words a
unfolding name_text
words_are (NlmRange a n b) =
    append_assoc ((hex_word a ++ 47 ∷ []) ++ signed_decimal n) (47 ∷ []) (hex_word b)
    ∙ append_assoc (hex_word a ++ 47 ∷ []) (signed_decimal n) (47 ∷ hex_word b)
    ∙ append_assoc (hex_word a) (47 ∷ []) (signed_decimal n ++ 47 ∷ hex_word b)
words_are (NlmShare a b) = append_assoc (hex_word a) (47 ∷ []) (hex_word b)
words_are (NlmParty a) = refl
words_are (NfsRange a b) = append_assoc (hex_word a) (47 ∷ []) (hex_word b)
words_are (NfsShare a b) = append_assoc (hex_word a) (47 ∷ []) (hex_word b)
words_are (NfsParty a) = refl
words_are (SmbLease a b) = append_assoc (hex_word a) (47 ∷ []) (hex_word b)

same : (a b : Name) → IsOfBytes a → IsOfBytes b → letter a ≡ letter b → words a ≡ words b → text_form a ≡ text_form b
same (NlmRange a n b) (NlmRange c m d) h k l e =
    let front = parted (hex_word a) (signed_decimal n ++ 47 ∷ hex_word b) (hex_word c) (signed_decimal m ++ 47 ∷ hex_word d) (word_no_slash a) (word_no_slash c) e in
    let back = parted (signed_decimal n) (hex_word b) (signed_decimal m) (hex_word d) (signed_no_slash n h.1) (signed_no_slash m k.1) front.1 in
    λ i. NlmRange (word_is a c h.0 k.0 front.0 i) (signed_decimal_injective n m h.1 k.1 back.0 i) (word_is b d h.2 k.2 back.1 i)
same (NlmRange a n b) (NlmShare c d) h k l e =
    let front = parted (hex_word a) (signed_decimal n ++ 47 ∷ hex_word b) (hex_word c) (hex_word d) (word_no_slash a) (word_no_slash c) e in
    absurd (not_parted (hex_word d) (signed_decimal n) (hex_word b) (word_no_slash d) (sym front.1))
same (NlmShare c d) (NlmRange a n b) h k l e =
    let front = parted (hex_word a) (signed_decimal n ++ 47 ∷ hex_word b) (hex_word c) (hex_word d) (word_no_slash a) (word_no_slash c) (sym e) in
    absurd (not_parted (hex_word d) (signed_decimal n) (hex_word b) (word_no_slash d) (sym front.1))
same (NlmRange a n b) (NlmParty c) h k l e = absurd (alone c a _ (sym e))
same (NlmParty c) (NlmRange a n b) h k l e = absurd (alone c a _ e)
same (NlmShare a b) (NlmShare c d) h k l e = let both = two_are a b c d h.0 h.1 k.0 k.1 e in λ i. NlmShare (both.0 i) (both.1 i)
same (NlmShare a b) (NlmParty c) h k l e = absurd (alone c a _ (sym e))
same (NlmParty c) (NlmShare a b) h k l e = absurd (alone c a _ e)
same (NlmParty a) (NlmParty b) h k l e = ap NlmParty (word_is a b h k e)
same (NfsRange a b) (NfsRange c d) h k l e = let both = two_are a b c d h.0 h.1 k.0 k.1 e in λ i. NfsRange (both.0 i) (both.1 i)
same (NfsRange a b) (NfsShare c d) h k l e = let both = two_are a b c d h.0 h.1 k.0 k.1 e in λ i. NfsRange (both.0 i) (both.1 i)
same (NfsShare a b) (NfsRange c d) h k l e = let both = two_are a b c d h.0 h.1 k.0 k.1 e in λ i. NfsRange (both.0 i) (both.1 i)
same (NfsShare a b) (NfsShare c d) h k l e = let both = two_are a b c d h.0 h.1 k.0 k.1 e in λ i. NfsRange (both.0 i) (both.1 i)
same (NfsRange a b) (NfsParty c) h k l e = absurd (alone c a _ (sym e))
same (NfsShare a b) (NfsParty c) h k l e = absurd (alone c a _ (sym e))
same (NfsParty c) (NfsRange a b) h k l e = absurd (alone c a _ e)
same (NfsParty c) (NfsShare a b) h k l e = absurd (alone c a _ e)
same (NfsParty a) (NfsParty b) h k l e = ap NfsParty (word_is a b h k e)
same (SmbLease a b) (SmbLease c d) h k l e = let both = two_are a b c d h.0 h.1 k.0 k.1 e in λ i. SmbLease (both.0 i) (both.1 i)
same a b h k l e = absurd (omega (arith, l))

pub equal_texts : (a b : Name) → IsOfBytes a → IsOfBytes b → name_text a ≡ name_text b → text_form a ≡ text_form b
equal_texts a b h k e = same a b h k (one_letter a b e) (sym (words_are a) ∙ ap (drop 4) e ∙ words_are b)

pub equal_opens : (m n : ℕ) → m < 2 ^ 64 → n < 2 ^ 64 → open_text m ≡ open_text n → m ≡ n
equal_opens m n h k e = decimal_injective m n h k (ap (drop 4) e)

pub no_open : (a : Name) (n : ℕ) → n < 2 ^ 64 → name_text a ≡ open_text n → ⊥
unfolding name_text
no_open (SmbLease a b) n h e = not_parted (decimal n) (hex_word a) (hex_word b) (number_no_slash n h) (sym (ap (drop 4) e) ∙ words_are (SmbLease a b))
no_open a n h e = omega (arith, sym (letter_is a) ∙ ap (λ (cs : List ℕ). get_or cs 1 0) e)
