-- What is spelled as a record is cut out, and what is cut out is spelled so.
use Rattle.std.proofs.Common.{◌≡◌, ℕ, zero, suc, ◌+◌, ◌-◌, ◌^◌, ◌<◌, ◌≤◌, Bool, true, false, not, ◌&&◌, if◌then◌else◌, ltb, eqb, List, [], ◌∷◌, ◌++◌, length, take, drop, get_or, Option, Some, None, refl, sym, ap, subst, ◌∙◌, append_assoc, arith, inl, inr}
use Rattle.std.specs.Int.{w32, to_be_bytes, from_be_bytes, bytes_high_first}
use Rattle.std.specs.List.{AllByRecursion}
use Rattle.std.proofs.lemmas.Bool.{cases_Bool, eqb-true, le-ltb, ltb-false, true≢false}
use Rattle.std.proofs.lemmas.Bool.Decides.{nat_tests}
use Rattle.std.proofs.lemmas.List.{take_at, drop_at, take-append-drop, length-append, length-take}
use Rattle.std.proofs.lemmas.Nat.{be_bytes_4, from_be_bytes-to_be_bytes_4}
use Rattle.xl_base.specs.Codec.{IsBytes}
use Rattle.xl_base.proofs.CodecLaws.{IsBytes-take, IsBytes-drop}
use Rattle.xl_base.specs.declared.event.Kind.TheVariants.{Rpc, Smb}
use Rattle.xl_frame.specs.declared.fault.FrameBad.{FrameBad}
use Rattle.xl_frame.specs.declared.fault.FrameBad.TheVariants.{Empty, Fragments, Long, Marker}
use Rattle.xl_frame.specs.Frames.{header, wrapped, is_last, count_of, long_fault, record_fault, fault_of, Fragment, Short, Faulty, More, Last, judged, under, fragment_at, Front, Whole, Part, Broken, joined, beyond, message_at, front_of, Framed, with_frames, cut, frames}
use Rattle.xl_frame.specs.Records.{fragment, spelled, message_in, IsRecord, Begins}
use Rattle.xl_frame.proofs.Growth.{message_last, message_more}
use Rattle.xl_frame.proofs.FrameLaws.{frames_whole, frames_step}
use Rattle.xl_frame.proofs.StreamLaws.{fragment_under}

abbrev ended : Bool → List ℕ → List ℕ → Fragment
ended last body rest = if last then Last body rest else More body rest

abbrev number_of : Bool → ℕ → ℕ
number_of last count = (if last then 2 ^ 31 else 0) + count

-- ---- what is spelled is read

marks : (last : Bool) (left sum first n : ℕ) → 0 < left → sum + n ≤ 65536 → (last ≡ false → 0 < n) → (fault_of Rpc left sum first (number_of last n) ≡ None) × (is_last Rpc (number_of last n) ≡ last) × (n ≡ count_of Rpc (number_of last n))
marks true left sum first n some most filled = (grind (arith, nat_tests), grind (arith, nat_tests), grind (arith, nat_tests))
marks false left sum first n some most filled = let more : 0 < n = filled refl in (grind (arith, nat_tests), grind (arith, nat_tests), grind (arith, nat_tests))

judged_spelled : (f : Option FrameBad) (is last : Bool) (count : ℕ) (body rest : List ℕ) → f ≡ None → is ≡ last → length body ≡ count → judged f is count (body ++ rest) ≡ ended last body rest
judged_spelled f is last count body rest none same len =
    let long : ltb (length (body ++ rest)) count ≡ false = le-ltb _ _ (omega (arith, length-append body rest)) in
    rw (none, same, long, take_at body rest count len, drop_at body rest count len) refl

number_small : (last : Bool) (n : ℕ) → n ≤ 65536 → number_of last n < 2 ^ 32
number_small true n h = omega arith
number_small false n h = omega arith

fragment_spelled : (last : Bool) (left sum : ℕ) (body rest : List ℕ) → 0 < left → sum + length body ≤ 65536 → (last ≡ false → 0 < length body) → fragment_at Rpc left sum (fragment last body ++ rest) ≡ ended last body rest
fragment_spelled last left sum body rest some most filled =
    let n = length body in
    let head = to_be_bytes w32 (number_of last n) in
    let is = marks last left sum (get_or head 0 0) n some most filled in
    ap (fragment_at Rpc left sum) (append_assoc head body rest)
    ∙ fragment_under Rpc left sum head (body ++ rest) refl
    ∙ ap (λ (k : ℕ). under Rpc left sum (get_or head 0 0) k (body ++ rest)) (from_be_bytes-to_be_bytes_4 (number_of last n) (number_small last n (omega arith)))
    ∙ judged_spelled (fault_of Rpc left sum (get_or head 0 0) (number_of last n)) (is_last Rpc (number_of last n)) last (count_of Rpc (number_of last n)) body rest is.0 is.1 is.2

message_spelled : (bodies : List (List ℕ)) (ending rest : List ℕ) (left sum : ℕ) → length bodies < left → AllByRecursion (λ body. 0 < length body) bodies → sum + length (message_in bodies ending) ≤ 65536 → message_at Rpc left sum (spelled bodies ending ++ rest) ≡ Whole (message_in bodies ending) rest
message_spelled [] ending rest left sum few filled short =
    message_last Rpc left sum (fragment true ending ++ rest) ending rest (sym (fragment_spelled true left sum ending rest (omega arith) short (λ no. absurd cc)))
message_spelled (body ∷ bodies) ending rest left sum few filled short =
    let len = length-append body (message_in bodies ending) in
    let behind = spelled bodies ending ++ rest in
    ap (message_at Rpc left sum) (append_assoc (fragment false body) (spelled bodies ending) rest)
    ∙ message_more Rpc left sum (fragment false body ++ behind) body behind (omega arith) (sym (fragment_spelled false left sum body behind (omega arith) (omega arith) (λ _. filled.0)))
    ∙ ap (joined body) (message_spelled bodies ending rest (left - 1) (sum + length body) (omega arith) filled.1 (omega arith))

-- a record is cut out, whatever follows
pub records_cut : (bodies : List (List ℕ)) (ending rest : List ℕ) → IsRecord bodies ending → frames Rpc (spelled bodies ending ++ rest) ≡ with_frames (message_in bodies ending ∷ []) (frames Rpc rest)
records_cut bodies ending rest fits = frames_whole Rpc (spelled bodies ending ++ rest) (message_in bodies ending) rest (message_spelled bodies ending rest 64 0 fits.few fits.filled (omega (arith, fits.short)))

-- ---- what is read is spelled

filled_means : (last : Bool) (count : ℕ) → (not last && eqb count 0) ≡ false → last ≡ false → 0 < count
filled_means true count is same = absurd cc
filled_means false count is same = grind (arith, nat_tests)

none_means : (left sum : ℕ) (last : Bool) (count : ℕ) → record_fault left sum last count ≡ None → (0 < left) × (sum + count ≤ 65536) × (last ≡ false → 0 < count)
none_means left sum last count is =
    elim (cases_Bool (not last && eqb count 0)) [
      | inl empty ↦ absurd (let no : Some Empty ≡ None = rw empty at is in cc)
      | inr filled ↦
          let is : (if eqb left 0 then Some (Fragments 65) else long_fault (sum + count)) ≡ None = rw filled at is in
          elim (cases_Bool (eqb left 0)) [
            | inl none ↦ absurd (let no : Some (Fragments 65) ≡ None = rw none at is in cc)
            | inr some ↦
                let is : long_fault (sum + count) ≡ None = rw some at is in
                elim (cases_Bool (ltb 65536 (sum + count))) [
                  | inl long ↦ absurd (let no : Some (Long (sum + count)) ≡ None = rw long at is in cc)
                  | inr short ↦ (grind (arith, nat_tests), ltb-false _ _ short, filled_means last count filled)
                ]
          ]
    ]

number_is : (number : ℕ) → number_of (is_last Rpc number) (count_of Rpc number) ≡ number
number_is number = grind (arith, nat_tests)

-- what a whole fragment says of the bytes at whose front it stands
record Stands (left sum : ℕ) (bytes : List ℕ) (last : Bool) (body rest : List ℕ) : Type 0 where
  some : 0 < left
  most : sum + length body ≤ 65536
  filled : last ≡ false → 0 < length body
  parts : bytes ≡ fragment last body ++ rest

ended_parts : (a b : Bool) (x y v w : List ℕ) → ended a x y ≡ ended b v w → (a ≡ b) × (x ≡ v) × (y ≡ w)
ended_parts true true x y v w is = (refl, cc, cc)
ended_parts true false x y v w is = absurd cc
ended_parts false true x y v w is = absurd cc
ended_parts false false x y v w is = (refl, cc, cc)

not_short : (b : Bool) (v w : List ℕ) → Short ≡ ended b v w → ⊥
not_short true v w is = cc
not_short false v w is = cc

not_faulty : (b : Bool) (v w : List ℕ) (fault : FrameBad) → Faulty fault ≡ ended b v w → ⊥
not_faulty true v w fault is = cc
not_faulty false v w fault is = cc

judged_found : (f : Option FrameBad) (is last : Bool) (count : ℕ) (tail body rest : List ℕ) → judged f is count tail ≡ ended last body rest → (f ≡ None) × (is ≡ last) × (count ≤ length tail) × (take count tail ≡ body) × (drop count tail ≡ rest)
judged_found (Some fault) is last count tail body rest e = absurd (not_faulty last body rest fault e)
judged_found None is last count tail body rest e =
    elim (cases_Bool (ltb (length tail) count)) [
      | inl short ↦ absurd (not_short last body rest (rw short at e))
      | inr long ↦
          let p = ended_parts is last (take count tail) (drop count tail) body rest (rw long at e) in
          (refl, p.0, ltb-false _ _ long, p.1, p.2)
    ]

fragment_found : (left sum : ℕ) (bytes : List ℕ) (last : Bool) (body rest : List ℕ) → IsBytes bytes → fragment_at Rpc left sum bytes ≡ ended last body rest → Stands left sum bytes last body rest
unfolding fragment_at
fragment_found left sum bytes last body rest fits e =
    elim (cases_Bool (ltb (length bytes) 4)) [
      | inl short ↦ absurd (not_short last body rest (rw short at e))
      | inr long ↦
          let head = take 4 bytes in
          let number = from_be_bytes w32 head in
          let within : 4 ≤ length bytes = ltb-false _ _ long in
          let p = judged_found (fault_of Rpc left sum (get_or head 0 0) number) (is_last Rpc number) last (count_of Rpc number) (drop 4 bytes) body rest (rw long at e) in
          found left sum bytes last body rest number (is_last Rpc number) (count_of Rpc number) within fits refl (number_is number) p.0 p.1 p.2 p.3 p.4
    ]
  where
    found : (left sum : ℕ) (bytes : List ℕ) (last : Bool) (body rest : List ℕ) (number : ℕ) (is : Bool) (count : ℕ) → 4 ≤ length bytes → IsBytes bytes → number ≡ from_be_bytes w32 (take 4 bytes) → number_of is count ≡ number → record_fault left sum is count ≡ None → is ≡ last → count ≤ length (drop 4 bytes) → take count (drop 4 bytes) ≡ body → drop count (drop 4 bytes) ≡ rest → Stands left sum bytes last body rest
    found left sum bytes last body rest number is count within fits number-is made none same room front behind =
        let len : length body ≡ count = ap length (sym front) ∙ omega (arith, length-take count (drop 4 bytes)) in
        let means : (0 < left) × (sum + count ≤ 65536) × (last ≡ false → 0 < count) = subst (λ (b : Bool). (0 < left) × (sum + count ≤ 65536) × (b ≡ false → 0 < count)) same (none_means left sum is count none) in
        let head : to_be_bytes w32 number ≡ take 4 bytes = be_bytes_4 (take 4 bytes) number (omega (arith, length-take 4 bytes)) (IsBytes-take 4 bytes fits) number-is in
        let told : number_of last (length body) ≡ number = ap (number_of last) len ∙ ap (λ (b : Bool). number_of b count) (sym same) ∙ made in
        let text : fragment last body ≡ take 4 bytes ++ body = ap (λ (k : ℕ). to_be_bytes w32 k ++ body) told ∙ ap (λ (h : List ℕ). h ++ body) head in
        let tail : body ++ rest ≡ drop 4 bytes = ap (λ (b : List ℕ). b ++ rest) (sym front) ∙ ap (λ (r : List ℕ). take count (drop 4 bytes) ++ r) (sym behind) ∙ take-append-drop count (drop 4 bytes) in
        record {
          some = means.0;
          most = omega (arith, means.1);
          filled = λ no. omega (arith, means.2 no);
          parts = sym (ap (λ (t : List ℕ). t ++ rest) text ∙ append_assoc (take 4 bytes) body rest ∙ ap (λ (t : List ℕ). take 4 bytes ++ t) tail ∙ take-append-drop 4 bytes);
        }

-- the message that may have so many fragments more, read from bytes at whose front it is spelled
record Reads (left sum : ℕ) (bytes message rest : List ℕ) : Type 0 where
  bodies : List (List ℕ)
  ending : List ℕ
  few : length bodies < left
  filled : AllByRecursion (λ body. 0 < length body) bodies
  short : sum + length (message_in bodies ending) ≤ 65536
  is : message ≡ message_in bodies ending
  stands : bytes ≡ spelled bodies ending ++ rest

whole_parts : (m r message rest : List ℕ) → Whole m r ≡ Whole message rest → (m ≡ message) × (r ≡ rest)
whole_parts m r message rest e = (cc, cc)

joined_found : (body : List ℕ) (f : Front) (message rest : List ℕ) → joined body f ≡ Whole message rest → (m : List ℕ) × (f ≡ Whole m rest) × (message ≡ body ++ m)
joined_found body (Whole m r) message rest e = let p = whole_parts (body ++ m) r message rest e in (m, ap (Whole m) p.1, sym p.0)
joined_found body Part message rest e = absurd cc
joined_found body (Broken fault) message rest e = absurd cc

IsBytes-behind : (text rest bytes : List ℕ) → bytes ≡ text ++ rest → IsBytes bytes → IsBytes rest
IsBytes-behind text rest bytes e fits = subst IsBytes (ap (drop (length text)) e ∙ drop_at text rest (length text) refl) (IsBytes-drop (length text) bytes fits)

step_found : (next : ℕ → List ℕ → Front) (left sum : ℕ) (bytes message rest : List ℕ) → IsBytes bytes → ((s : ℕ) (b m r : List ℕ) → IsBytes b → next s b ≡ Whole m r → Reads (left - 1) s b m r) → (x : Fragment) → fragment_at Rpc left sum bytes ≡ x → beyond next sum x ≡ Whole message rest → Reads left sum bytes message rest
step_found next left sum bytes message rest fits hyp Short e w = absurd cc
step_found next left sum bytes message rest fits hyp (Faulty fault) e w = absurd cc
step_found next left sum bytes message rest fits hyp (Last body behind) e w =
    let f = fragment_found left sum bytes true body behind fits e in
    let p = whole_parts body behind message rest w in
    record { bodies = []; ending = body; few = f.some; filled = tt; short = f.most; is = sym p.0; stands = f.parts ∙ ap (λ (r : List ℕ). fragment true body ++ r) p.1 }
step_found next left sum bytes message rest fits hyp (More body behind) e w =
    let f = fragment_found left sum bytes false body behind fits e in
    let j = joined_found body (next (sum + length body) behind) message rest w in
    let r = hyp (sum + length body) behind j.0 rest (IsBytes-behind (fragment false body) behind bytes f.parts fits) j.1 in
    record {
      bodies = body ∷ r.bodies;
      ending = r.ending;
      few = omega (arith, r.few, f.some);
      filled = (f.filled refl, r.filled);
      short = omega (arith, r.short, length-append body (message_in r.bodies r.ending));
      is = j.2 ∙ ap (λ (t : List ℕ). body ++ t) r.is;
      stands = f.parts ∙ ap (λ (t : List ℕ). fragment false body ++ t) r.stands ∙ sym (append_assoc (fragment false body) (spelled r.bodies r.ending) rest);
    }

message_found : (left sum : ℕ) (bytes message rest : List ℕ) → IsBytes bytes → message_at Rpc left sum bytes ≡ Whole message rest → Reads left sum bytes message rest
unfolding message_at
message_found zero sum bytes message rest fits w =
    step_found (λ _ _. Part) 0 sum bytes message rest fits (λ s b m r _ e. absurd cc) (fragment_at Rpc 0 sum bytes) refl w
message_found (suc left) sum bytes message rest fits w =
    let less : suc left - 1 ≡ left = omega arith in
    step_found (message_at Rpc left) (suc left) sum bytes message rest fits (λ s b m r fit e. subst (λ (l : ℕ). Reads l s b m r) (sym less) (message_found left s b m r fit e)) (fragment_at Rpc (suc left) sum bytes) refl w

first_found : (stream message : List ℕ) (more : List (List ℕ)) → IsBytes stream → (x : Front) → front_of Rpc stream ≡ x → (cut (frames Rpc) stream x).frames ≡ message ∷ more → (behind : List ℕ) × Begins stream message behind × (cut (frames Rpc) stream x ≡ with_frames (message ∷ []) (frames Rpc behind))
first_found stream message more fits (Whole m rest) e is =
    let same : m ≡ message = cc in
    let r = message_found 64 0 stream m rest fits e in
    (rest, record { bodies = r.bodies; ending = r.ending; fits = record { few = r.few; filled = r.filled; short = omega (arith, r.short) }; is = sym same ∙ r.is; stands = r.stands }, ap (λ (n : List ℕ). with_frames (n ∷ []) (frames Rpc rest)) same)
first_found stream message more fits Part e is = absurd cc
first_found stream message more fits (Broken fault) e is = absurd cc

-- the first message that is cut out is that of a record at the front, and the others are those behind it
pub cut_are_records : (stream message : List ℕ) (more : List (List ℕ)) → IsBytes stream → (frames Rpc stream).frames ≡ message ∷ more → (behind : List ℕ) × Begins stream message behind × (frames Rpc stream ≡ with_frames (message ∷ []) (frames Rpc behind))
cut_are_records stream message more fits is =
    let step = frames_step Rpc stream in
    let found = first_found stream message more fits (front_of Rpc stream) refl (sym (ap (λ (f : Framed). f.frames) step) ∙ is) in
    (found.0, found.1, step ∙ found.2)

-- ---- what is read of SMB is in a frame of its own

no_fault : (first number : ℕ) → fault_of Smb 64 0 first number ≡ None → (first ≡ 0) × (number ≤ 65536)
no_fault first number is =
    elim (cases_Bool (eqb first 0)) [
      | inr other ↦ absurd (let never : Some (Marker first) ≡ None = rw other at is in cc)
      | inl none ↦
          let is : long_fault number ≡ None = rw none at is in
          elim (cases_Bool (ltb 65536 number)) [
            | inl long ↦ absurd (let never : Some (Long number) ≡ None = rw long at is in cc)
            | inr short ↦ (eqb-true first 0 none, ltb-false _ _ short)
          ]
    ]

-- four bytes of which the first is zero are the header of the number that they make
smb_header : (head : List ℕ) (number : ℕ) → length head ≡ 4 → IsBytes head → number ≡ from_be_bytes w32 head → get_or head 0 0 ≡ 0 → head ≡ header Smb number
smb_header head number len fits is first =
    let spelled : to_be_bytes w32 number ≡ head = be_bytes_4 head number len fits is in
    let low : get_or (to_be_bytes w32 number) 0 0 ≡ 0 = ap (λ (h : List ℕ). get_or h 0 0) spelled ∙ first in
    sym spelled ∙ ap (λ (b : ℕ). b ∷ bytes_high_first 3 number) low

packet_found : (stream body rest : List ℕ) (last : Bool) → IsBytes stream → fragment_at Smb 64 0 stream ≡ ended last body rest → (last ≡ true) × (length body ≤ 65536) × (stream ≡ wrapped Smb body ++ rest)
unfolding fragment_at
packet_found stream body rest last fits e =
    elim (cases_Bool (ltb (length stream) 4)) [
      | inl short ↦ absurd (not_short last body rest (rw short at e))
      | inr long ↦
          let head = take 4 stream in
          let number = from_be_bytes w32 head in
          let within : 4 ≤ length stream = ltb-false _ _ long in
          let p = judged_found (fault_of Smb 64 0 (get_or head 0 0) number) true last number (drop 4 stream) body rest (rw long at e) in
          let plain = no_fault (get_or head 0 0) number p.0 in
          let len : length body ≡ number = ap length (sym p.3) ∙ omega (arith, length-take number (drop 4 stream), p.2) in
          let is : head ≡ header Smb number = smb_header head number (omega (arith, length-take 4 stream, within)) (IsBytes-take 4 stream fits) refl plain.0 in
          let tail : body ++ rest ≡ drop 4 stream = ap (λ (b : List ℕ). b ++ rest) (sym p.3) ∙ ap (λ (r : List ℕ). take number (drop 4 stream) ++ r) (sym p.4) ∙ take-append-drop number (drop 4 stream) in (
            sym p.1,
            omega (arith, len, plain.1),
            sym (append_assoc (header Smb (length body)) body rest ∙ ap (λ (n : ℕ). header Smb n ++ (body ++ rest)) len ∙ ap (λ (h : List ℕ). h ++ (body ++ rest)) (sym is) ∙ ap (λ (t : List ℕ). head ++ t) tail ∙ take-append-drop 4 stream),
          )
    ]

smb_step : (stream message rest : List ℕ) → IsBytes stream → (x : Fragment) → fragment_at Smb 64 0 stream ≡ x → beyond (message_at Smb 63) 0 x ≡ Whole message rest → (length message ≤ 65536) × (stream ≡ wrapped Smb message ++ rest)
smb_step stream message rest fits Short e w = absurd cc
smb_step stream message rest fits (Faulty fault) e w = absurd cc
smb_step stream message rest fits (More body behind) e w = absurd (true≢false (sym (packet_found stream body behind false fits e).0))
smb_step stream message rest fits (Last body behind) e w =
    let p = whole_parts body behind message rest w in
    let found = packet_found stream body behind true fits e in
    (subst (λ (m : List ℕ). length m ≤ 65536) p.0 found.1, found.2 ∙ ap (λ (m : List ℕ). wrapped Smb m ++ behind) p.0 ∙ ap (λ (r : List ℕ). wrapped Smb message ++ r) p.1)

smb_whole : (stream message rest : List ℕ) → IsBytes stream → front_of Smb stream ≡ Whole message rest → (length message ≤ 65536) × (stream ≡ wrapped Smb message ++ rest)
unfolding message_at
smb_whole stream message rest fits w = smb_step stream message rest fits (fragment_at Smb 64 0 stream) refl w

smb_first : (stream message : List ℕ) (more : List (List ℕ)) → IsBytes stream → (x : Front) → front_of Smb stream ≡ x → (cut (frames Smb) stream x).frames ≡ message ∷ more
    → (behind : List ℕ) × (length message ≤ 65536) × (stream ≡ wrapped Smb message ++ behind) × (cut (frames Smb) stream x ≡ with_frames (message ∷ []) (frames Smb behind))
smb_first stream message more fits (Whole m rest) e is =
    let same : m ≡ message = cc in
    let found = smb_whole stream m rest fits e in
    (rest, subst (λ (n : List ℕ). length n ≤ 65536) same found.0, found.1 ∙ ap (λ (n : List ℕ). wrapped Smb n ++ rest) same, ap (λ (n : List ℕ). with_frames (n ∷ []) (frames Smb rest)) same)
smb_first stream message more fits Part e is = absurd cc
smb_first stream message more fits (Broken fault) e is = absurd cc

-- the first message that is cut out of SMB's stream stands at the front in its frame, and the others are those behind it
pub cut_are_packets : (stream message : List ℕ) (more : List (List ℕ)) → IsBytes stream → (frames Smb stream).frames ≡ message ∷ more
    → (behind : List ℕ) × (length message ≤ 65536) × (stream ≡ wrapped Smb message ++ behind) × (frames Smb stream ≡ with_frames (message ∷ []) (frames Smb behind))
cut_are_packets stream message more fits is =
    let step = frames_step Smb stream in
    let found = smb_first stream message more fits (front_of Smb stream) refl (sym (ap (λ (f : Framed). f.frames) step) ∙ is) in
    (found.0, found.1, found.2, step ∙ found.3)
