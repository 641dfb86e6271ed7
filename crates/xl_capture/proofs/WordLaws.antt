-- Words that are written are read: numbers, bytes, and lines of words.
use Rattle.std.proofs.Common.{◌≡◌, ℕ, zero, suc, ◌+◌, ◌-◌, ◌*◌, ◌/◌, ◌%◌, ◌^◌, ◌<◌, ◌≤◌, Bool, true, false, eqb, ltb, leb, inl, inr, List, [], ◌∷◌, ◌++◌, length, get_or, slice_index, Some, Ok, refl, sym, ap, ◌∙◌, append_assoc, arith}
use Rattle.std.specs.Prelude.{bytes_eq, codes}
use Rattle.std.specs.Fmt.{decimal}
use Rattle.std.specs.List.{AllByRecursion, list_all, slice_split}
use Rattle.std.specs.Option.{option_and_then}
use Rattle.std.specs.Str.Parse.{AllDigits, digits_value_after}
use Rattle.std.specs.Char.{digit_value}
use Rattle.std.proofs.lemmas.Bool.{and_parts, cases_Bool, cases_lt, lt-ltb, le-leb, ltb-true, ne_eqb}
use Rattle.std.proofs.lemmas.Fmt.{decimal_is_IsNumeral, decimal_digit, first_decimal}
use Rattle.std.proofs.lemmas.Str.{digit_value_digit}
use Rattle.std.proofs.lemmas.Str.Parse.{digit_from_value}
use Rattle.hex.specs.Hex.{encode_with, encode_lower, lower_digits, decode_of}
use Rattle.hex.proofs.HexLemmas.{decode_of-encode_lower}
use Rattle.xl_base.specs.Codec.{IsBytes}
use Rattle.xl_base.proofs.Members.{all_append, all_weaker}
use Rattle.xl_names.specs.Texts.{hex_word}
use Rattle.xl_capture.specs.Capture.{bytes_of, is_blank, is_line_end, whole_lines, lines_of, words_of, with_words, with_line, with_lines, stores_of, most_stores, epoch_of, time_of, longest_time}
use Rattle.xl_capture.specs.Numbers.{with_digit, value_from, has_leading_zero, number_of}
use Rattle.xl_capture.specs.declared.capture.Reading.{Reading}
use Rattle.xl_capture.proofs.LineLaws.{more_lines}

-- ---- numbers

after_ge : (n : ℕ) (ds : List ℕ) → n ≤ digits_value_after 10 n ds
after_ge n [] = omega arith
after_ge n (d ∷ ds) = let more = after_ge (n * 10 + digit_value d) ds in omega (arith, more)

digit_read : (n d : ℕ) → digit_value d < 10 → n * 10 + digit_value d < 2 ^ 64 → with_digit n d ≡ Some (n * 10 + digit_value d)
digit_read n d small fits =
    let range = digit_from_value d small in
    let value : digit_value d ≡ d - 48 = omega (arith, range, digit_value_digit d range) in
    let first : leb 48 d ≡ true = le-leb _ _ (omega (arith, range)) in
    let last : leb d 57 ≡ true = le-leb _ _ (omega (arith, range)) in
    let below : ltb (n * 10 + (d - 48)) (2 ^ 64) ≡ true = lt-ltb _ _ (omega (arith, fits, value)) in
    rw (first, last, below, value) refl

digits_read : (n v : ℕ) (ds : List ℕ) → AllDigits 10 ds → digits_value_after 10 n ds ≡ v → v < 2 ^ 64 → value_from n ds ≡ Some v
digits_read n v [] all e fits = ap Some e
digits_read n v (d ∷ ds) all e fits =
    let next = n * 10 + digit_value d in
    let small : next < 2 ^ 64 = omega (arith, fits, e, after_ge next ds) in
    ap (option_and_then (λ m. value_from m ds)) (digit_read n d all.0 small) ∙ digits_read next v ds all.1 e fits

leads : (ds : List ℕ) → 48 < get_or ds 0 0 → has_leading_zero ds ≡ false
leads [] more = refl
leads (d ∷ []) more = refl
leads (d ∷ e ∷ ds) more = ne_eqb d 48 (λ is. absurd (omega (arith, is, more)))

numeral_read : (n : ℕ) (ds : List ℕ) → 0 < length ds → AllDigits 10 ds → digits_value_after 10 0 ds ≡ n → n < 2 ^ 64 → has_leading_zero ds ≡ false → number_of ds ≡ Some n
numeral_read n [] some all e fits leads = absurd (omega (arith, some))
numeral_read n (d ∷ ds) some all e fits leads = rw leads (digits_read 0 n (d ∷ ds) all e fits)

no_leading : (n : ℕ) → n < 2 ^ 64 → has_leading_zero (decimal n) ≡ false
no_leading n fits =
    elim (cases_lt 0 n) [
      | inl more ↦ leads (decimal n) (first_decimal n more fits)
      | inr none ↦ let zero : n ≡ 0 = omega (arith, none) in ap (λ (m : ℕ). has_leading_zero (decimal m)) zero ∙ ap has_leading_zero (decimal_digit 0 (omega arith))
    ]

-- a number below 2 ^ 64 is read from its digits
pub number_read : (n : ℕ) → n < 2 ^ 64 → number_of (decimal n) ≡ Some n
number_read n fits =
    let numeral = decimal_is_IsNumeral n fits in
    numeral_read n (decimal n) numeral.0.0 numeral.0.1 numeral.1 fits (no_leading n fits)

pub epoch_read : (n : ℕ) → n < 2 ^ 32 → epoch_of (decimal n) ≡ Some n
epoch_read n fits =
    let below : ltb n (2 ^ 32) ≡ true = lt-ltb _ _ fits in
    rw (number_read n (omega (arith, fits)), below) refl

pub time_read : (n : ℕ) → 1 ≤ n → n ≤ longest_time → time_of (decimal n) ≡ Some n
time_read n some fits =
    let least : leb 1 n ≡ true = le-leb _ _ some in
    let most : leb n longest_time ≡ true = le-leb _ _ fits in
    rw (number_read n (omega (arith, fits)), least, most) refl

pub stores_read : (n : ℕ) → n ≤ most_stores → stores_of (33 ∷ decimal n) ≡ Some n
stores_read n few =
    let most : leb n most_stores ≡ true = le-leb _ _ few in
    rw (number_read n (omega (arith, few)), most) refl

-- ---- bytes

other_dash : (c d : ℕ) (cs : List ℕ) → bytes_eq (c ∷ d ∷ cs) (codes "-") ≡ false
other_dash c d cs =
    elim (cases_Bool (eqb c 45)) [
      | inl same ↦ rw same refl
      | inr other ↦ rw other refl
    ]

hex_read : (c d : ℕ) (cs bytes : List ℕ) → decode_of (c ∷ d ∷ cs) ≡ Ok bytes → bytes_of (c ∷ d ∷ cs) ≡ Some bytes
hex_read c d cs bytes e = rw (other_dash c d cs, e) refl

-- bytes are read from their word
pub bytes_read : (bytes : List ℕ) → IsBytes bytes → bytes_of (hex_word bytes) ≡ Some bytes
unfolding encode_with
bytes_read [] all = refl
bytes_read (b ∷ bs) all = hex_read _ _ (encode_lower bs) (b ∷ bs) (decode_of-encode_lower (b ∷ bs) all)

-- ---- words

-- no blank and no line end, but what stands behind them
abbrev pub AreShown : List ℕ → Type 0
AreShown word = AllByRecursion (λ b. 33 ≤ b) word

digits_shown : (ds : List ℕ) → AllDigits 10 ds → AreShown ds
digits_shown [] all = tt
digits_shown (d ∷ ds) all = (omega (arith, digit_from_value d all.0), digits_shown ds all.1)

pub decimal_shown : (n : ℕ) → n < 2 ^ 64 → AreShown (decimal n)
decimal_shown n fits = digits_shown (decimal n) (decimal_is_IsNumeral n fits).0.1

at_shown : (ds : List ℕ) (k : ℕ) → AreShown ds → k < length ds → 33 ≤ slice_index ds k
at_shown [] k all less = absurd (omega (arith, less))
at_shown (d ∷ ds) zero all less = all.0
at_shown (d ∷ ds) (suc k) all less = at_shown ds k all.1 (omega (arith, less))

all_shown : (ds : List ℕ) → list_all (ltb 32) ds ≡ true → AreShown ds
all_shown [] all = tt
all_shown (d ∷ ds) all =
    let parts = and_parts (ltb 32 d) (list_all (ltb 32) ds) all in
    (omega (arith, ltb-true 32 d parts.0), all_shown ds parts.1)

table_shown : AreShown lower_digits
table_shown = all_shown lower_digits refl

encoded_shown : (bytes : List ℕ) → IsBytes bytes → AreShown (encode_lower bytes)
unfolding encode_with
encoded_shown [] all = tt
encoded_shown (b ∷ bs) all =
    let byte : b < 256 = all 0 in
    (at_shown lower_digits (b / 16) table_shown (omega (arith, byte)), (at_shown lower_digits (b % 16) table_shown (omega (arith, byte)), encoded_shown bs (λ i. all (suc i))))

pub word_shown : (bytes : List ℕ) → IsBytes bytes → AreShown (hex_word bytes)
word_shown [] all = (omega arith, tt)
word_shown (b ∷ bs) all = encoded_shown (b ∷ bs) all

no_blank : (b : ℕ) → 33 ≤ b → is_blank b ≡ false
no_blank b more =
    let space : eqb b 32 ≡ false = ne_eqb b 32 (λ is. absurd (omega (arith, is, more))) in
    let tab : eqb b 9 ≡ false = ne_eqb b 9 (λ is. absurd (omega (arith, is, more))) in
    rw (space, tab) refl

split_first : (p : ℕ → Bool) (word : List ℕ) (mark : ℕ) (rest : List ℕ) → AllByRecursion (λ b. p b ≡ false) word → p mark ≡ true → slice_split p (word ++ mark ∷ rest) ≡ word ∷ slice_split p rest
split_first p [] mark rest none is = rw is refl
split_first p (b ∷ bs) mark rest none is = rw (none.0, split_first p bs mark rest none.1 is) refl

split_only : (p : ℕ → Bool) (word : List ℕ) → AllByRecursion (λ b. p b ≡ false) word → slice_split p word ≡ word ∷ []
split_only p [] none = refl
split_only p (b ∷ bs) none = rw (none.0, split_only p bs none.1) refl

-- ---- lines

-- words with a blank between each two
abbrev joined : List (List ℕ) → List ℕ
joined [] = []
joined (word ∷ []) = word
joined (word ∷ next ∷ words) = word ++ 32 ∷ joined (next ∷ words)

-- the line of words with its end
abbrev pub line_of : List (List ℕ) → List ℕ
line_of [] = 10 ∷ []
line_of (word ∷ []) = word ++ 10 ∷ []
line_of (word ∷ next ∷ words) = word ++ 32 ∷ line_of (next ∷ words)

abbrev pub AreWords : List (List ℕ) → Type 0
AreWords words = AllByRecursion AreShown words

shown_unless : (p : ℕ → Bool) (word : List ℕ) → ((b : ℕ) → 33 ≤ b → p b ≡ false) → AreShown word → AllByRecursion (λ b. p b ≡ false) word
shown_unless p word none all = all_weaker (λ b. 33 ≤ b) (λ b. p b ≡ false) word none all

words_read : (word : List ℕ) (words : List (List ℕ)) → AreWords (word ∷ words) → words_of (joined (word ∷ words)) ≡ word ∷ words
words_read word [] all = split_only is_blank word (shown_unless is_blank word no_blank all.0)
words_read word (next ∷ words) all =
    split_first is_blank word 32 (joined (next ∷ words)) (shown_unless is_blank word no_blank all.0) refl
    ∙ ap (λ (ws : List (List ℕ)). word ∷ ws) (words_read next words all.1)

no_end : (b : ℕ) → 33 ≤ b → is_line_end b ≡ false
no_end b more = ne_eqb b 10 (λ is. absurd (omega (arith, is, more)))

-- a line has no end within
unended : (word : List ℕ) (words : List (List ℕ)) → AreWords (word ∷ words) → AllByRecursion (λ b. is_line_end b ≡ false) (joined (word ∷ words))
unended word [] all = shown_unless is_line_end word no_end all.0
unended word (next ∷ words) all =
    all_append (λ b. is_line_end b ≡ false) word (32 ∷ joined (next ∷ words)) (shown_unless is_line_end word no_end all.0) (refl, unended next words all.1)

spelled : (word : List ℕ) (words : List (List ℕ)) (rest : List ℕ) → line_of (word ∷ words) ++ rest ≡ joined (word ∷ words) ++ 10 ∷ rest
spelled word [] rest = append_assoc word (10 ∷ []) rest
spelled word (next ∷ words) rest =
    append_assoc word (32 ∷ line_of (next ∷ words)) rest
    ∙ ap (λ (more : List ℕ). word ++ 32 ∷ more) (spelled next words rest)
    ∙ sym (append_assoc word (32 ∷ joined (next ∷ words)) (10 ∷ rest))

first_is : (word : List ℕ) (words : List (List ℕ)) (rest : List ℕ) → AreWords (word ∷ words) → lines_of (line_of (word ∷ words) ++ rest) ≡ joined (word ∷ words) ∷ lines_of rest
first_is word words rest all =
    ap lines_of (spelled word words rest)
    ∙ ap whole_lines (split_first is_line_end (joined (word ∷ words)) 10 rest (unended word words all) refl)
    ∙ more_lines (joined (word ∷ words)) rest

-- words with a blank behind each but the last, however they are joined
pub two_words : (first last ending : List ℕ) → ((first ++ 32 ∷ []) ++ last) ++ ending ≡ first ++ 32 ∷ (last ++ ending)
two_words first last ending = append_assoc (first ++ 32 ∷ []) last ending ∙ append_assoc first (32 ∷ []) (last ++ ending)

pub three_words : (first next last ending : List ℕ) → ((((first ++ 32 ∷ []) ++ next) ++ 32 ∷ []) ++ last) ++ ending ≡ first ++ 32 ∷ (next ++ 32 ∷ (last ++ ending))
three_words first next last ending = two_words ((first ++ 32 ∷ []) ++ next) last ending ∙ two_words first next (32 ∷ (last ++ ending))

-- ---- what is known behind a text

-- with a text more, whatever stands behind it, this is known
abbrev pub Reads : Reading → List ℕ → Reading → Type 0
Reads r text s = (rest : List ℕ) (n : ℕ) → (m : ℕ) × (with_lines false r n (lines_of (text ++ rest)) ≡ with_lines false s m (lines_of rest))

pub reads_none : (r : Reading) → Reads r [] r
reads_none r rest n = (n, refl)

pub reads_both : (r s t : Reading) (a b : List ℕ) → Reads r a s → Reads s b t → Reads r (a ++ b) t
reads_both r s t a b first second rest n =
    let one = first (b ++ rest) n in
    let two = second rest one.0 in
    (two.0, ap (λ (text : List ℕ). with_lines false r n (lines_of text)) (append_assoc a b rest) ∙ one.1 ∙ two.1)

goes_on : (r s : Reading) (n : ℕ) (line : List ℕ) (lines : List (List ℕ)) → with_line r line ≡ Some s → with_lines false r n (line ∷ lines) ≡ with_lines false s (n + 1) lines
unfolding with_lines
goes_on r s n line lines e = rw e refl

line_known : (r s : Reading) (c : ℕ) (cs : List ℕ) (words : List (List ℕ)) → eqb c 35 ≡ false → with_words r words ≡ Some s → words_of (c ∷ cs) ≡ words → with_line r (c ∷ cs) ≡ Some s
unfolding with_line
line_known r s c cs words other e is = rw (other, is) e

line_is : (r s : Reading) (c : ℕ) (words : List (List ℕ)) → eqb c 35 ≡ false → with_words r ((c ∷ []) ∷ words) ≡ Some s → words_of (joined ((c ∷ []) ∷ words)) ≡ (c ∷ []) ∷ words → with_line r (joined ((c ∷ []) ∷ words)) ≡ Some s
line_is r s c [] other e is = line_known r s c [] ((c ∷ []) ∷ []) other e is
line_is r s c (next ∷ words) other e is = line_known r s c (32 ∷ joined (next ∷ words)) ((c ∷ []) ∷ next ∷ words) other e is

-- a line of words is read; its first word is one letter, and no comment's
pub reads_line : (r s : Reading) (c : ℕ) (words : List (List ℕ)) → 33 ≤ c → eqb c 35 ≡ false → AreWords words → with_words r ((c ∷ []) ∷ words) ≡ Some s → Reads r (line_of ((c ∷ []) ∷ words)) s
reads_line r s c words shown other all e rest n =
    let line = joined ((c ∷ []) ∷ words) in
    let each : AreWords ((c ∷ []) ∷ words) = ((shown, tt), all) in
    (n + 1, ap (with_lines false r n) (first_is (c ∷ []) words rest each) ∙ goes_on r s n line (lines_of rest) (line_is r s c words other e (words_read (c ∷ []) words each)))
