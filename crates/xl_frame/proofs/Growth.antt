-- What stands at the front of bytes stays there when more bytes come.
use Rattle.std.proofs.Common.{◌≡◌, ℕ, zero, suc, ◌+◌, ◌-◌, ◌<◌, ◌≤◌, Bool, true, false, if◌then◌else◌, ltb, List, [], ◌++◌, length, take, drop, get_or, Option, Some, None, refl, sym, ap, ◌∙◌, append_assoc, arith, inl, inr}
use Rattle.std.specs.Int.{w32, from_be_bytes}
use Rattle.std.proofs.lemmas.Bool.{cases_Bool, ltb-false, le-ltb}
use Rattle.std.proofs.lemmas.List.{append-nil, drop-drop, length-append, length-drop, take-append-le, drop-append-le}
use Rattle.xl_base.specs.declared.event.Kind.{Kind}
use Rattle.xl_frame.specs.declared.fault.FrameBad.{FrameBad}
use Rattle.xl_frame.specs.declared.message.Progress.{Progress}
use Rattle.xl_frame.specs.Frames.{is_last, count_of, fault_of, Fragment, Short, Faulty, More, Last, judged, under, fragment_at, Front, Whole, Part, Broken, joined, beyond, message_at, front_of}
use Rattle.xl_frame.specs.Progress.{IsWhole, IsPart, IsBroken, sight, Resumes}

-- ---- one fragment

-- the fragment with more bytes behind it
abbrev pub fragment_with : List ℕ → Fragment → Fragment
fragment_with more Short = Short
fragment_with more (Faulty fault) = Faulty fault
fragment_with more (More body rest) = More body (rest ++ more)
fragment_with more (Last body rest) = Last body (rest ++ more)

abbrev pub is_judged : Fragment → Bool
is_judged Short = false
is_judged (Faulty fault) = true
is_judged (More body rest) = true
is_judged (Last body rest) = true

end_with : (last : Bool) (body rest more : List ℕ) → (if last then Last body (rest ++ more) else More body (rest ++ more)) ≡ fragment_with more (if last then Last body rest else More body rest)
end_with true body rest more = refl
end_with false body rest more = refl

judged_with : (f : Option FrameBad) (last : Bool) (count : ℕ) (rest more : List ℕ) → is_judged (judged f last count rest) ≡ true → judged f last count (rest ++ more) ≡ fragment_with more (judged f last count rest)
judged_with (Some fault) last count rest more is = refl
judged_with None last count rest more is =
    elim (cases_Bool (ltb (length rest) count)) [
      | inl short ↦ absurd (let no : false ≡ true = rw short at is in cc)
      | inr long ↦
          let within : count ≤ length rest = ltb-false _ _ long in
          let still : ltb (length (rest ++ more)) count ≡ false = le-ltb _ _ (omega (arith, length-append rest more)) in
          rw (long, still, take-append-le count rest more within, drop-append-le count rest more within) (end_with last (take count rest) (drop count rest) more)
    ]

pub fragment_grows : (kind : Kind) (left sum : ℕ) (bytes more : List ℕ) → is_judged (fragment_at kind left sum bytes) ≡ true → fragment_at kind left sum (bytes ++ more) ≡ fragment_with more (fragment_at kind left sum bytes)
unfolding fragment_at
fragment_grows kind left sum bytes more is =
    elim (cases_Bool (ltb (length bytes) 4)) [
      | inl short ↦ absurd (let no : false ≡ true = rw short at is in cc)
      | inr long ↦
          let within : 4 ≤ length bytes = ltb-false _ _ long in
          let still : ltb (length (bytes ++ more)) 4 ≡ false = le-ltb _ _ (omega (arith, length-append bytes more)) in
          let first = get_or (take 4 bytes) 0 0 in
          let number = from_be_bytes w32 (take 4 bytes) in
          let judged_is : is_judged (under kind left sum first number (drop 4 bytes)) ≡ true = rw long at is in
          rw (long, still, take-append-le 4 bytes more within, drop-append-le 4 bytes more within) (judged_with (fault_of kind left sum first number) (is_last kind number) (count_of kind number) (drop 4 bytes) more judged_is)
    ]

-- a whole fragment takes at least its header
abbrev pub IsShorter : List ℕ → Fragment → Type 0
IsShorter bytes Short = Unit {0}
IsShorter bytes (Faulty fault) = Unit {0}
IsShorter bytes (More body rest) = length rest + 4 ≤ length bytes
IsShorter bytes (Last body rest) = length rest + 4 ≤ length bytes

end_shorter : (last : Bool) (bytes body rest : List ℕ) → length rest + 4 ≤ length bytes → IsShorter bytes (if last then Last body rest else More body rest)
end_shorter true bytes body rest h = h
end_shorter false bytes body rest h = h

judged_shorter : (f : Option FrameBad) (last : Bool) (count : ℕ) (bytes : List ℕ) → 4 ≤ length bytes → IsShorter bytes (judged f last count (drop 4 bytes))
judged_shorter (Some fault) last count bytes h = tt
judged_shorter None last count bytes h =
    elim (cases_Bool (ltb (length (drop 4 bytes)) count)) [
      | inl short ↦ rw short tt
      | inr long ↦ rw long (end_shorter last bytes (take count (drop 4 bytes)) (drop count (drop 4 bytes)) (omega (arith, length-drop count (drop 4 bytes), length-drop 4 bytes)))
    ]

fragment_shorter : (kind : Kind) (left sum : ℕ) (bytes : List ℕ) → IsShorter bytes (fragment_at kind left sum bytes)
unfolding fragment_at
fragment_shorter kind left sum bytes =
    elim (cases_Bool (ltb (length bytes) 4)) [
      | inl short ↦ rw short tt
      | inr long ↦
          let first = get_or (take 4 bytes) 0 0 in
          let number = from_be_bytes w32 (take 4 bytes) in
          rw long (judged_shorter (fault_of kind left sum first number) (is_last kind number) (count_of kind number) bytes (ltb-false _ _ long))
    ]

-- ---- one message

abbrev pub front_with : List ℕ → Front → Front
front_with more (Whole message rest) = Whole message (rest ++ more)
front_with more Part = Part
front_with more (Broken fault) = Broken fault

abbrev pub is_settled : Front → Bool
is_settled (Whole message rest) = true
is_settled Part = false
is_settled (Broken fault) = true

joined_with : (body more : List ℕ) (f : Front) → joined body (front_with more f) ≡ front_with more (joined body f)
joined_with body more (Whole message rest) = refl
joined_with body more Part = refl
joined_with body more (Broken fault) = refl

joined_settled : (body : List ℕ) (f : Front) → is_settled (joined body f) ≡ is_settled f
joined_settled body (Whole message rest) = refl
joined_settled body Part = refl
joined_settled body (Broken fault) = refl

beyond_with : (next : ℕ → List ℕ → Front) (more : List ℕ) → ((s : ℕ) (b : List ℕ) → is_settled (next s b) ≡ true → next s (b ++ more) ≡ front_with more (next s b))
    → (sum : ℕ) (x y : Fragment) → (is_judged x ≡ true → y ≡ fragment_with more x) → is_settled (beyond next sum x) ≡ true → beyond next sum y ≡ front_with more (beyond next sum x)
beyond_with next more hyp sum Short y same is = absurd cc
beyond_with next more hyp sum (Faulty fault) y same is = rw (same refl) refl
beyond_with next more hyp sum (Last body rest) y same is = rw (same refl) refl
beyond_with next more hyp sum (More body rest) y same is =
    rw (same refl) (rw (hyp (sum + length body) rest (sym (joined_settled body (next (sum + length body) rest)) ∙ is)) (joined_with body more (next (sum + length body) rest)))

part_grows : (more : List ℕ) (s : ℕ) (b : List ℕ) → is_settled Part ≡ true → Part ≡ front_with more Part
part_grows more s b is = refl

pub message_grows : (kind : Kind) (left sum : ℕ) (bytes more : List ℕ) → is_settled (message_at kind left sum bytes) ≡ true → message_at kind left sum (bytes ++ more) ≡ front_with more (message_at kind left sum bytes)
unfolding message_at
message_grows kind zero sum bytes more is =
    beyond_with (λ _ _. Part) more (part_grows more) sum (fragment_at kind 0 sum bytes) (fragment_at kind 0 sum (bytes ++ more)) (fragment_grows kind 0 sum bytes more) is
message_grows kind (suc left) sum bytes more is =
    beyond_with (message_at kind left) more (λ s b. message_grows kind left s b more) sum (fragment_at kind (suc left) sum bytes) (fragment_at kind (suc left) sum (bytes ++ more)) (fragment_grows kind (suc left) sum bytes more) is

-- a whole message takes at least a header
abbrev pub IsAhead : List ℕ → Front → Type 0
IsAhead bytes (Whole message rest) = length rest + 4 ≤ length bytes
IsAhead bytes Part = Unit {0}
IsAhead bytes (Broken fault) = Unit {0}

joined_ahead : (bytes behind body : List ℕ) (f : Front) → length behind + 4 ≤ length bytes → IsAhead behind f → IsAhead bytes (joined body f)
joined_ahead bytes behind body (Whole message rest) h g = omega arith
joined_ahead bytes behind body Part h g = tt
joined_ahead bytes behind body (Broken fault) h g = tt

beyond_ahead : (next : ℕ → List ℕ → Front) → ((s : ℕ) (b : List ℕ) → IsAhead b (next s b)) → (sum : ℕ) (bytes : List ℕ) (x : Fragment) → IsShorter bytes x → IsAhead bytes (beyond next sum x)
beyond_ahead next hyp sum bytes Short h = tt
beyond_ahead next hyp sum bytes (Faulty fault) h = tt
beyond_ahead next hyp sum bytes (Last body rest) h = h
beyond_ahead next hyp sum bytes (More body rest) h = joined_ahead bytes rest body (next (sum + length body) rest) h (hyp (sum + length body) rest)

pub message_ahead : (kind : Kind) (left sum : ℕ) (bytes : List ℕ) → IsAhead bytes (message_at kind left sum bytes)
unfolding message_at
message_ahead kind zero sum bytes = beyond_ahead (λ _ _. Part) (λ s b. tt) sum bytes (fragment_at kind 0 sum bytes) (fragment_shorter kind 0 sum bytes)
message_ahead kind (suc left) sum bytes = beyond_ahead (message_at kind left) (message_ahead kind left) sum bytes (fragment_at kind (suc left) sum bytes) (fragment_shorter kind (suc left) sum bytes)

-- ---- steps of the walk over a message's fragments

pub message_short : (kind : Kind) (left sum : ℕ) (bytes : List ℕ) → Short ≡ fragment_at kind left sum bytes → message_at kind left sum bytes ≡ Part
unfolding message_at
message_short kind zero sum bytes is = rw (← is) refl
message_short kind (suc left) sum bytes is = rw (← is) refl

pub message_faulty : (kind : Kind) (left sum : ℕ) (bytes : List ℕ) (fault : FrameBad) → Faulty fault ≡ fragment_at kind left sum bytes → message_at kind left sum bytes ≡ Broken fault
unfolding message_at
message_faulty kind zero sum bytes fault is = rw (← is) refl
message_faulty kind (suc left) sum bytes fault is = rw (← is) refl

pub message_last : (kind : Kind) (left sum : ℕ) (bytes body rest : List ℕ) → Last body rest ≡ fragment_at kind left sum bytes → message_at kind left sum bytes ≡ Whole body rest
unfolding message_at
message_last kind zero sum bytes body rest is = rw (← is) refl
message_last kind (suc left) sum bytes body rest is = rw (← is) refl

pub message_more : (kind : Kind) (left sum : ℕ) (bytes body rest : List ℕ) → 0 < left → More body rest ≡ fragment_at kind left sum bytes → message_at kind left sum bytes ≡ joined body (message_at kind (left - 1) (sum + length body) rest)
unfolding message_at
message_more kind zero sum bytes body rest some is = absurd (omega arith)
message_more kind (suc left) sum bytes body rest some is =
    let less : suc left - 1 ≡ left = omega arith in
    rw (← is, less) refl

sight_joined : (body : List ℕ) (f : Front) → sight (joined body f) ≡ sight f
sight_joined body (Whole message rest) = refl
sight_joined body Part = refl
sight_joined body (Broken fault) = refl

-- behind a fragment that isn't the last, the message is read further
pub Resumes-more : (kind : Kind) (p : Progress) (bytes body rest : List ℕ) → Resumes kind p bytes → 0 < p.left → p.sum + length body ≤ 65536 → 4 + length body ≤ length (drop p.at bytes) → rest ≡ drop (4 + length body) (drop p.at bytes) → More body rest ≡ fragment_at kind p.left p.sum (drop p.at bytes)
    → Resumes kind (record { at = p.at + (4 + length body); left = p.left - 1; sum = p.sum + length body }) bytes
Resumes-more kind p bytes body rest r some sum within behind is = record {
  within = omega (arith, r.within, length-drop p.at bytes);
  sum = sum;
  same = λ more.
      let judged : is_judged (fragment_at kind p.left p.sum (drop p.at bytes)) ≡ true = rw (← is) refl in
      let grown : fragment_at kind p.left p.sum (drop p.at bytes ++ more) ≡ More body (rest ++ more) = fragment_grows kind p.left p.sum (drop p.at bytes) more judged ∙ rw (← is) refl in
      let step : message_at kind p.left p.sum (drop p.at bytes ++ more) ≡ joined body (message_at kind (p.left - 1) (p.sum + length body) (rest ++ more)) = message_more kind p.left p.sum (drop p.at bytes ++ more) body (rest ++ more) some (sym grown) in
      let place : rest ≡ drop (p.at + (4 + length body)) bytes = behind ∙ drop-drop (4 + length body) p.at bytes in
      rw (← place) (sym (sight_joined body (message_at kind (p.left - 1) (p.sum + length body) (rest ++ more))) ∙ ap sight (sym step) ∙ r.same more);
}

-- what is seen from where it is read to
pub Resumes-now : (kind : Kind) (p : Progress) (bytes : List ℕ) → Resumes kind p bytes → sight (message_at kind p.left p.sum (drop p.at bytes)) ≡ sight (front_of kind bytes)
Resumes-now kind p bytes r =
    ap (λ (b : List ℕ). sight (message_at kind p.left p.sum b)) (sym (append-nil (drop p.at bytes))) ∙ r.same [] ∙ ap (λ (b : List ℕ). sight (front_of kind b)) (append-nil bytes)

pub Resumes-start : (kind : Kind) (bytes : List ℕ) → Resumes kind (record { at = 0; left = 64; sum = 0 }) bytes
Resumes-start kind bytes = record { within = omega arith; sum = omega arith; same = λ more. refl }

pub seen_short : (kind : Kind) (p : Progress) (bytes : List ℕ) → Resumes kind p bytes → Short ≡ fragment_at kind p.left p.sum (drop p.at bytes) → IsPart ≡ sight (front_of kind bytes)
seen_short kind p bytes r is = sym (ap sight (message_short kind p.left p.sum (drop p.at bytes) is)) ∙ Resumes-now kind p bytes r

pub seen_faulty : (kind : Kind) (p : Progress) (bytes : List ℕ) (fault : FrameBad) → Resumes kind p bytes → Faulty fault ≡ fragment_at kind p.left p.sum (drop p.at bytes) → IsBroken fault ≡ sight (front_of kind bytes)
seen_faulty kind p bytes fault r is = sym (ap sight (message_faulty kind p.left p.sum (drop p.at bytes) fault is)) ∙ Resumes-now kind p bytes r

pub seen_last : (kind : Kind) (p : Progress) (bytes body rest : List ℕ) → Resumes kind p bytes → Last body rest ≡ fragment_at kind p.left p.sum (drop p.at bytes) → IsWhole ≡ sight (front_of kind bytes)
seen_last kind p bytes body rest r is = sym (ap sight (message_last kind p.left p.sum (drop p.at bytes) body rest is)) ∙ Resumes-now kind p bytes r

-- ---- the message read so far, in front of what is still to be read

joined_joined : (a b : List ℕ) (f : Front) → joined (a ++ b) f ≡ joined a (joined b f)
joined_joined a b (Whole message rest) = ap (λ (m : List ℕ). Whole m rest) (append_assoc a b message)
joined_joined a b Part = refl
joined_joined a b (Broken fault) = refl

pub read_more : (kind : Kind) (at left sum : ℕ) (bytes message body rest : List ℕ) (front : Front) → joined message (message_at kind left sum (drop at bytes)) ≡ front → 0 < left → rest ≡ drop (4 + length body) (drop at bytes) → More body rest ≡ fragment_at kind left sum (drop at bytes)
    → joined (message ++ body) (message_at kind (left - 1) (sum + length body) (drop (at + (4 + length body)) bytes)) ≡ front
read_more kind at left sum bytes message body rest front so_far some behind is =
    let step : message_at kind left sum (drop at bytes) ≡ joined body (message_at kind (left - 1) (sum + length body) rest) = message_more kind left sum (drop at bytes) body rest some is in
    let place : rest ≡ drop (at + (4 + length body)) bytes = behind ∙ drop-drop (4 + length body) at bytes in
    rw (← place) (joined_joined message body (message_at kind (left - 1) (sum + length body) rest) ∙ ap (joined message) (sym step) ∙ so_far)

pub read_last : (kind : Kind) (at left sum : ℕ) (bytes message body rest : List ℕ) (front : Front) → joined message (message_at kind left sum (drop at bytes)) ≡ front → rest ≡ drop (4 + length body) (drop at bytes) → Last body rest ≡ fragment_at kind left sum (drop at bytes)
    → front ≡ Whole (message ++ body) (drop (at + 4 + length body) bytes)
read_last kind at left sum bytes message body rest front so_far behind is =
    let place : rest ≡ drop (at + 4 + length body) bytes = behind ∙ drop-drop (4 + length body) at bytes ∙ ap (λ (n : ℕ). drop n bytes) (omega arith) in
    rw (← place) (sym so_far ∙ ap (joined message) (message_last kind left sum (drop at bytes) body rest is))

pub read_short : (kind : Kind) (at left sum : ℕ) (bytes message : List ℕ) (front : Front) → joined message (message_at kind left sum (drop at bytes)) ≡ front → sight front ≡ IsWhole → Short ≡ fragment_at kind left sum (drop at bytes) → ⊥
read_short kind at left sum bytes message front so_far whole is =
    let seen : IsPart ≡ IsWhole = ap (λ (f : Front). sight (joined message f)) (sym (message_short kind left sum (drop at bytes) is)) ∙ ap sight so_far ∙ whole in
    cc

pub read_faulty : (kind : Kind) (at left sum : ℕ) (bytes message : List ℕ) (fault : FrameBad) (front : Front) → joined message (message_at kind left sum (drop at bytes)) ≡ front → sight front ≡ IsWhole → Faulty fault ≡ fragment_at kind left sum (drop at bytes) → ⊥
read_faulty kind at left sum bytes message fault front so_far whole is =
    let seen : IsBroken fault ≡ IsWhole = ap (λ (f : Front). sight (joined message f)) (sym (message_faulty kind left sum (drop at bytes) fault is)) ∙ ap sight so_far ∙ whole in
    cc
