-- What is spelled by a form is read again, and how long it is; what holds of all that is read; which fault is met.
use Rattle.std.proofs.Common.{◌≡◌, ℕ, ◌+◌, ◌^◌, ◌<◌, Bool, true, false, cond, ltb, leb, eqb, List, [], ◌∷◌, ◌++◌, length, drop, Option, Some, None, Result, Ok, Err, refl, sym, ap, subst, ◌∙◌, append_assoc, inl, inr, arith}
use Rattle.std.specs.Int.{w16}
use Rattle.std.specs.Result.{result_err}
use Rattle.std.proofs.lemmas.Bool.{cases_Bool, ltb-true, leb-true, le-ltb}
use Rattle.std.proofs.lemmas.Bool.Decides.{nat_tests}
use Rattle.std.proofs.lemmas.List.{drop_at, drop-drop, append-nil, length-append}
use Rattle.xl_base.specs.Codec.{little_endian, ◌>>=◌, IsBytes}
use Rattle.xl_base.proofs.CodecLaws.{guard_ok, ok_is}
use Rattle.xl_layout.specs.Places.{joined}
use Rattle.xl_layout.specs.Layouts.{U16, all_stand, extent, fields, parts}
use Rattle.xl_layout.specs.Forms.{Form, size_found, has_fixed, form_value, form_parts, form_read, Body, unread, reads, body_read, has_form, first_fault, parts_begin, form_text, FormFits, Spelling, no_body, by_form, spelled, SpellingFits}
use Rattle.xl_layout.proofs.PlaceLaws.{joined-append}
use Rattle.xl_layout.proofs.LayoutLaws.{next, number_length, number_again, fields_length, can_tell, again, AllRead, found}

-- ---- what is spelled is read again

-- the size fits its number, the fields take the fixed part, and the places of the parts can be told
abbrev pub IsWhole : {A : Type 0} → Form A → A → Type 0
IsWhole f a = (ltb f.size (2 ^ 16) ≡ true) × (leb f.fixed (2 + extent f.layout a) ≡ true) × (can_tell f.layout f.before f.fixed (parts_begin f a) 0 a ≡ true)

-- the size and the fields, and the parts behind them
text_parts : {A : Type 0} (f : Form A) (a : A) → form_text f a ≡ (little_endian w16 f.size ++ joined (fields f.layout (parts_begin f a) a)) ++ joined (parts f.layout (parts_begin f a) a)
unfolding form_text
text_parts f a =
    let start = parts_begin f a in
    ap (λ (t : List ℕ). little_endian w16 f.size ++ t) (joined-append (fields f.layout start a) (parts f.layout start a)) ∙ sym (append_assoc (little_endian w16 f.size) (joined (fields f.layout start a)) (joined (parts f.layout start a)))

front_length : {A : Type 0} (f : Form A) (a : A) → FormFits f a → length (little_endian w16 f.size ++ joined (fields f.layout (parts_begin f a) a)) ≡ 2 + extent f.layout a
front_length f a fits = omega (arith, length-append (little_endian w16 f.size) (joined (fields f.layout (parts_begin f a) a)), number_length U16 f.size, fields_length f.layout (parts_begin f a) a fits)

form_length : {A : Type 0} (f : Form A) (a : A) → FormFits f a → length (form_text f a) ≡ 2 + extent f.layout a + length (joined (parts f.layout (parts_begin f a) a))
form_length f a fits = ap length (text_parts f a) ∙ length-append (little_endian w16 f.size ++ joined (fields f.layout (parts_begin f a) a)) (joined (parts f.layout (parts_begin f a) a)) ∙ rw (front_length f a fits) refl

-- the size with which a spelling begins
size_stands : {A : Type 0} (f : Form A) (a : A) → FormFits f a → f.size < 2 ^ 16 → size_found (form_text f a) ≡ f.size
unfolding size_found
size_stands f a fits small =
    let long : ltb (length (form_text f a)) 2 ≡ false = le-ltb _ _ (omega (arith, form_length f a fits)) in
    rw long (number_again U16 f.size 0 (joined (fields f.layout (parts_begin f a) a)) (joined (parts f.layout (parts_begin f a) a)) (form_text f a) small (text_parts f a))

form_again : {A : Type 0} (f : Form A) (a : A) (front : List ℕ) → length front ≡ f.before → FormFits f a → IsWhole f a
    → (size_found (form_text f a) ≡ f.size) × (has_fixed f.size f.fixed (form_text f a) ≡ true) × (all_stand (form_parts f (front ++ form_text f a) (form_text f a)) ≡ true) × (form_value f (front ++ form_text f a) (form_text f a) ≡ a)
unfolding has_fixed
form_again f a front length_is fits whole =
    let start = parts_begin f a in
    let size = little_endian w16 f.size in
    let these = joined (fields f.layout start a) in
    let those = joined (parts f.layout start a) in
    let frame = front ++ form_text f a in
    let is_body : drop f.before frame ≡ form_text f a = drop_at front (form_text f a) f.before length_is in
    let body : drop f.before frame ≡ (size ++ these) ++ those = is_body ∙ text_parts f a in
    let here : drop 2 (drop f.before frame) ≡ these ++ those = next 2 0 size these those (drop f.before frame) (number_length U16 f.size) body in
    let there : drop start frame ≡ those ++ [] = sym (drop-drop (2 + extent f.layout a) f.before frame) ∙ ap (λ (t : List ℕ). drop (2 + extent f.layout a) t) body ∙ drop_at (size ++ these) those (2 + extent f.layout a) (front_length f a fits) ∙ sym (append-nil those) in
    let seen = again f.layout a f.before f.fixed start 0 2 start frame those [] fits whole.2 (omega arith) (omega arith) here there in
    let begins = size_stands f a fits (ltb-true _ _ whole.0) in
    let uncut : ltb (length (form_text f a)) f.fixed ≡ false = le-ltb _ _ (omega (arith, form_length f a fits, leb-true _ _ whole.1)) in
    let same : eqb f.size f.size ≡ true = grind (arith, nat_tests) in
    let at_front = subst (λ (b : List ℕ). (all_stand (form_parts f frame b) ≡ true) × (form_value f frame b ≡ a)) is_body seen in
    (begins, rw (begins, same, uncut) refl, at_front.0, at_front.1)

-- this is read of what is spelled behind so many bytes, by the body for the size that is spelled
abbrev pub IsRead : {A E : Type 0} → ℕ → (ℕ → E) → E → (ℕ → Body A) → Spelling → A → Type 0
IsRead before cut gone b no_body a = (size : ℕ) (frame body : List ℕ) → body_read cut gone (b size) frame body ≡ Ok a
IsRead before cut gone b (by_form f x) a = (f.before ≡ before) × IsWhole f x × ((frame body : List ℕ) → form_read cut gone f frame body ≡ Ok x → body_read cut gone (b f.size) frame body ≡ Ok a)

pub spelled_again : {A E : Type 0} (cut : ℕ → E) (gone : E) (b : ℕ → Body A) (s : Spelling) (a : A) (front : List ℕ) → SpellingFits s → IsRead (length front) cut gone b s a
    → body_read cut gone (b (size_found (spelled s))) (front ++ spelled s) (spelled s) ≡ Ok a
unfolding form_read
spelled_again cut gone b no_body a front fits speaks = speaks (size_found []) (front ++ []) []
spelled_again cut gone b (by_form f x) a front fits speaks =
    let seen = form_again f x front (sym speaks.0) fits speaks.1 in
    rw (seen.0) (speaks.2 (front ++ form_text f x) (form_text f x) (rw (seen.1, seen.2, seen.3) refl))

-- how many bytes are spelled
abbrev pub total : List (List ℕ) → ℕ
total [] = 0
total (t ∷ []) = length t
total (t ∷ ts) = length t + total ts

total_is : (ts : List (List ℕ)) → length (joined ts) ≡ total ts
total_is [] = refl
total_is (t ∷ []) = ap length (append-nil t)
total_is (t ∷ u ∷ ts) = length-append t (joined (u ∷ ts)) ∙ rw (total_is (u ∷ ts)) refl

abbrev pub spelled_size : Spelling → ℕ
spelled_size no_body = 0
spelled_size (by_form f x) = 2 + extent f.layout x + total (parts f.layout (parts_begin f x) x)

pub spelled_length : (s : Spelling) → SpellingFits s → length (spelled s) ≡ spelled_size s
spelled_length no_body fits = refl
spelled_length (by_form f x) fits = form_length f x fits ∙ rw (total_is (parts f.layout (parts_begin f x) x)) refl

-- ---- what is read

pub seen_ok : {A B E : Type 0} (r : Result A E) (f : A → B) (y : B) → (r >>= λ x. Ok (f x)) ≡ Ok y → (x : A) × (r ≡ Ok x) × (f x ≡ y)
seen_ok {E = E} (Ok x) f y is = (x, refl, ok_is {E = E} (f x) y is)
seen_ok (Err e) f y is = absurd cc

-- P holds of all that a body may tell
abbrev pub AllTold : {A : Type 0} → Body A → (A → Type 0) → Type 0
AllTold (unread a) P = P a
AllTold (reads make f) P = AllRead f.layout (λ b. P (make b))

pub body_found : {A E : Type 0} (cut : ℕ → E) (gone : E) (b : Body A) (P : A → Type 0) (frame body : List ℕ) (a : A) → IsBytes body → AllTold b P → body_read cut gone b frame body ≡ Ok a → P a
unfolding form_read
body_found {E = E} cut gone (unread x) P frame body a is all e = subst P (ok_is {E = E} x a e) all
body_found {E = E} cut gone (reads make f) P frame body a is all e =
    let x = seen_ok (form_read cut gone f frame body) make a e in
    let fixed = guard_ok (has_fixed f.size f.fixed body) (cut (size_found body)) (cond (all_stand (form_parts f frame body)) (Ok (form_value f frame body)) (Err gone)) x.0 x.1 in
    let stand = guard_ok (all_stand (form_parts f frame body)) gone (Ok (form_value f frame body)) x.0 fixed.1 in
    subst P (ap make (ok_is {E = E} (form_value f frame body) x.0 stand.1) ∙ x.2) (found f.layout (λ b. P (make b)) 2 f.fixed frame body is all stand.0)

-- ---- which fault is met

pub seen_err : {A B E : Type 0} (r : Result A E) (f : A → B) → result_err (r >>= λ x. Ok (f x)) ≡ result_err r
seen_err (Ok x) f = refl
seen_err (Err e) f = refl

-- a body has this form, and names these parts
abbrev pub IsListed : {A : Type 0} → Body A → Option (ℕ × ℕ) → (List ℕ → List ℕ → List Bool) → Type 0
IsListed (unread a) form named = (None ≡ form) × ((frame body : List ℕ) → [] ≡ named frame body)
IsListed (reads make f) form named = (Some (f.size, f.fixed) ≡ form) × ((frame body : List ℕ) → form_parts f frame body ≡ named frame body)

pub body_fault : {A E : Type 0} (cut : ℕ → E) (gone : E) (b : Body A) (form : Option (ℕ × ℕ)) (named : List ℕ → List ℕ → List Bool) (frame body : List ℕ) → IsListed b form named
    → result_err (body_read cut gone b frame body) ≡ first_fault cut gone (size_found body) (has_form form body) (all_stand (named frame body))
unfolding form_read
body_fault cut gone (unread a) form named frame body is = rw (← is.0, ← is.1 frame body) refl
body_fault cut gone (reads make f) form named frame body is =
    rw (← is.0, ← is.1 frame body) (seen_err (form_read cut gone f frame body) make ∙ elim (cases_Bool (has_fixed f.size f.fixed body)) [
      | inl whole ↦ rw whole (elim (cases_Bool (all_stand (form_parts f frame body))) [ inl stand ↦ rw stand refl | inr none ↦ rw none refl ])
      | inr short ↦ rw short refl
    ])
