-- A record file and its reading undo each other.
use Rattle.std.proofs.Common.{◌≡◌, ℕ, zero, suc, ◌+◌, ◌-◌, ◌*◌, ◌^◌, ◌<◌, ◌≤◌, min, true, false, cond, ltb, eqb, List, [], ◌∷◌, ◌++◌, length, get_or, set, take, drop, Result, Ok, Err, Option, Some, None, refl, sym, ap, subst, ◌∙◌, append_assoc, arith, inl, inr}
use Rattle.std.specs.Prelude.{bytes_eq, nat_lt, if◌then◌else◌, IfOk, IfSome}
use Rattle.std.specs.Int.{w16, w32, to_be_bytes, from_be_bytes}
use Rattle.std.specs.List.{AllByRecursion, position}
use Rattle.std.proofs.lemmas.Bool.{cases_Bool, eqb-true, ltb-true, ltb-false, le-ltb, lt-ltb, and_parts, and_from, or_parts, true≢false}
use Rattle.std.proofs.lemmas.Bool.Decides.{nat_tests}
use Rattle.std.proofs.lemmas.List.{append-nil, length-append, length-drop, take_all, drop_more, drop_all}
use Rattle.std.proofs.lemmas.List.Folds.{list_any-append}
use Rattle.std.proofs.lemmas.Nat.{be_bytes_2, from_be_bytes-to_be_bytes_2}
use Rattle.std.proofs.lemmas.Slice.Eq.{bytes_eq-Decides}
use Rattle.xl_base.specs.declared.name.Protocol.{Protocol}
use Rattle.xl_base.specs.declared.name.Protocol.TheVariants.{Nlm, Nfs, Smb}
use Rattle.xl_base.specs.declared.stable.Mark.{Mark}
use Rattle.xl_base.specs.declared.stable.Mark.TheVariants.{Verifier, State}
use Rattle.xl_base.specs.declared.stable.Recorded.{Recorded}
use Rattle.xl_base.specs.declared.record_file.RecordForm.{RecordForm}
use Rattle.xl_base.specs.declared.record_file.RecordForm.TheVariants.{Unmarked, Marked}
use Rattle.xl_base.specs.declared.record_file.RecordBad.{RecordBad}
use Rattle.xl_base.specs.declared.record_file.RecordBad.TheVariants as bad
use Rattle.xl_base.specs.Codec.{big_endian, big_endian_at, as_at, fixed_at, IsBytes, Takes, IsCodec}
use Rattle.xl_base.specs.Results.{GivesUnless}
use Rattle.xl_base.specs.Stable.{Stable, mark_bytes, same_name, is_recorded, is_mark_of, is_reclaiming, put_name, AreRecordable, IsWhole, AreWhole}
use Rattle.xl_base.specs.RecordFile.{magic_of, form_of, most_bytes_of, fault_of, kind_of, mark_text, name_text, names_text, file_text, record_text, KeepsMark, Fits, IsSpelled, IsFileOf, are_short, HasFile, magic_at, protocol_at, text_at, mark_length, mark_of, mark_at, name_at, added, with_name, names_at, ended, file_at, record_at}
use Rattle.xl_base.proofs.CodecLaws.{bind_ok, guard_not, ok_is, Takes-then, Takes-none, pair_codec, as_codec, guard_codec, same_codec, tagged_codec, fixed_codec, wide_codec, big_endian_32}
use Rattle.xl_base.proofs.StableLaws.{same_name-sym, put_at, put_behind}

-- ---- one name

big_endian_16 : {E : Type 0} (short : E) → IsCodec (big_endian_at short w16) (big_endian w16) (λ n. n < 2 ^ 16)
unfolding big_endian
big_endian_16 short = wide_codec short w16 (2 ^ 16) (to_be_bytes w16) (from_be_bytes w16) record {
  len = λ n. refl;
  back = λ bytes len is. be_bytes_2 bytes _ len is refl;
  again = λ n lt. from_be_bytes-to_be_bytes_2 n lt;
  below = λ bytes is. omega (arith, is 0, is 1);
}

abbrev IsKind : Protocol → Type 0
IsKind protocol = nat_lt 0 (kind_of protocol) ≡ true

protocol_takes : (bytes : List ℕ) (x : Protocol × List ℕ) → IsBytes bytes → protocol_at bytes ≡ Ok x → Takes bytes (kind_of x.0 ∷ []) x.1 × IsKind x.0
protocol_takes [] x is e = absurd cc
protocol_takes (kind ∷ rest) x is e =
    elim (cases_Bool (eqb kind 1)) [
      | inl one ↦ (
          let made : Protocol × List ℕ = (Nfs, rest) in
          let parts : kind ∷ rest ≡ (1 ∷ []) ++ rest = ap (λ (k : ℕ). k ∷ rest) (eqb-true kind 1 one) in
          subst (λ (y : Protocol × List ℕ). Takes (kind ∷ rest) (kind_of y.0 ∷ []) y.1 × IsKind y.0) (ok_is {E = RecordBad} made x (rw one at e))
          (record { parts = parts; rest_is = λ i. is (suc i) }, refl))
      | inr other ↦ elim (cases_Bool (eqb kind 2)) [
        | inl two ↦ (
            let made : Protocol × List ℕ = (Nlm, rest) in
            let parts : kind ∷ rest ≡ (2 ∷ []) ++ rest = ap (λ (k : ℕ). k ∷ rest) (eqb-true kind 2 two) in
            subst (λ (y : Protocol × List ℕ). Takes (kind ∷ rest) (kind_of y.0 ∷ []) y.1 × IsKind y.0) (ok_is {E = RecordBad} made x (rw (other, two) at e))
            (record { parts = parts; rest_is = λ i. is (suc i) }, refl))
        | inr neither ↦ (
            let fails : Err (bad.Kind kind) ≡ Ok x = rw (other, neither) at e in
            absurd cc)
      ]
    ]

protocol_again : (protocol : Protocol) (rest : List ℕ) → IsKind protocol → protocol_at ((kind_of protocol ∷ []) ++ rest) ≡ Ok (protocol, rest)
protocol_again Nfs rest is = refl
protocol_again Nlm rest is = refl
protocol_again Smb rest is = absurd (true≢false (sym is))

protocol_codec : IsCodec protocol_at (λ protocol. kind_of protocol ∷ []) IsKind
protocol_codec = record { takes = protocol_takes; again = protocol_again }

text_codec : IsCodec text_at (λ text. big_endian w16 (length text) ++ text) (λ text. length text < 2 ^ 16)
text_codec =
    same_codec (λ text. big_endian w16 (length text) ++ text) (λ text. length text < 2 ^ 16)
    (tagged_codec length (big_endian_16 bad.Cut)
    (λ n. same_codec (λ text. text) (λ text. (length text ≡ n) × Unit {0}) (fixed_codec bad.Cut n) (λ text len. (refl, (len, tt))) (λ text fits. fits.0)))
    (λ text fit. (refl, fit.0))
    (λ text fits. (fits, tt))

-- what stands behind its length is a mark of the protocol
kept_is : (protocol : Protocol) (bytes : List ℕ) → length bytes ≡ mark_length protocol → 0 < mark_length protocol
    → (mark_bytes (mark_of protocol bytes) ≡ bytes) × (is_mark_of protocol (Some (mark_of protocol bytes)) ≡ true) × IsWhole (Some (mark_of protocol bytes))
kept_is Nfs bytes len some = (refl, refl, len)
kept_is Nlm bytes len some = (refl, refl, len)
kept_is Smb bytes len some = absurd (omega (arith, some))

-- a mark that the form keeps, of the protocol
abbrev KeepsIts : RecordForm → Protocol → Option Mark → Type 0
KeepsIts form protocol mark = (is_mark_of protocol mark ≡ true) × KeepsMark form mark

no_mark : (protocol : Protocol) → is_mark_of protocol None ≡ true
no_mark protocol = refl

mark_takes : (form : RecordForm) (protocol : Protocol) (bytes : List ℕ) (x : Option Mark × List ℕ) → IsBytes bytes → mark_at form protocol bytes ≡ Ok x → Takes bytes (mark_text form x.0) x.1 × KeepsIts form protocol x.0
unfolding mark_at
mark_takes Unmarked protocol bytes x is e =
    let made : Option Mark × List ℕ = (None, bytes) in
    subst (λ (y : Option Mark × List ℕ). Takes bytes (mark_text Unmarked y.0) y.1 × KeepsIts Unmarked protocol y.0) (ok_is {E = RecordBad} made x e)
    (Takes-none bytes is, (no_mark protocol, refl))
mark_takes Marked protocol [] x is e = absurd cc
mark_takes Marked protocol (n ∷ rest) x is e =
    elim (cases_Bool (eqb n 0)) [
      | inl none ↦ (
          let made : Option Mark × List ℕ = (None, rest) in
          let parts : n ∷ rest ≡ (0 ∷ []) ++ rest = ap (λ (k : ℕ). k ∷ rest) (eqb-true n 0 none) in
          subst (λ (y : Option Mark × List ℕ). Takes (n ∷ rest) (mark_text Marked y.0) y.1 × KeepsIts Marked protocol y.0) (ok_is {E = RecordBad} made x (rw none at e))
          (record { parts = parts; rest_is = λ i. is (suc i) }, (no_mark protocol, tt)))
      | inr some ↦ elim (cases_Bool (eqb n (mark_length protocol))) [
        | inl long ↦ (
            let len : n ≡ mark_length protocol = eqb-true n (mark_length protocol) long in
            let positive : 0 < mark_length protocol = grind (arith, nat_tests, some, len) in
            let read : as_at (λ mark. Some (mark_of protocol mark)) (fixed_at bad.Cut n) rest ≡ Ok x = rw (some, long) at e in
            let a = bind_ok (fixed_at bad.Cut n rest) (λ a. Ok (Some (mark_of protocol a.0), a.1)) x read in
            let one = (fixed_codec bad.Cut n).takes rest a.0 (λ i. is (suc i)) a.1 in
            let kept = kept_is protocol a.0.0 (one.1 ∙ len) positive in
            let made : Option Mark × List ℕ = (Some (mark_of protocol a.0.0), a.0.1) in
            let text : mark_text Marked made.0 ≡ n ∷ a.0.0 = ap (λ (t : List ℕ). length t ∷ t) kept.0 ∙ ap (λ (k : ℕ). k ∷ a.0.0) one.1 in
            let parts : n ∷ rest ≡ mark_text Marked made.0 ++ a.0.1 = ap (λ (t : List ℕ). n ∷ t) one.0.parts ∙ ap (λ (t : List ℕ). t ++ a.0.1) (sym text) in
            subst (λ (y : Option Mark × List ℕ). Takes (n ∷ rest) (mark_text Marked y.0) y.1 × KeepsIts Marked protocol y.0) (ok_is {E = RecordBad} made x a.2)
            (record { parts = parts; rest_is = one.0.rest_is }, (kept.1, kept.2)))
        | inr other ↦ (
            let fails : Err (bad.Mark n) ≡ Ok x = rw (some, other) at e in
            absurd cc)
      ]
    ]

mark_again : (form : RecordForm) (protocol : Protocol) (mark : Option Mark) (rest : List ℕ) → KeepsIts form protocol mark → mark_at form protocol (mark_text form mark ++ rest) ≡ Ok (mark, rest)
unfolding mark_at
mark_again Unmarked protocol mark rest fit = ap (λ (m : Option Mark). Ok (m, rest)) (sym fit.1)
mark_again Marked protocol None rest fit = refl
mark_again Marked Nfs (Some (Verifier bytes)) rest fit = rw (fit.1, (fixed_codec bad.Cut 8).again bytes rest fit.1) refl
mark_again Marked Nlm (Some (State bytes)) rest fit = rw (fit.1, (fixed_codec bad.Cut 4).again bytes rest fit.1) refl
mark_again Marked Nfs (Some (State bytes)) rest fit = absurd (true≢false (sym fit.0))
mark_again Marked Nlm (Some (Verifier bytes)) rest fit = absurd (true≢false (sym fit.0))
mark_again Marked Smb (Some (Verifier bytes)) rest fit = absurd (true≢false (sym fit.0))
mark_again Marked Smb (Some (State bytes)) rest fit = absurd (true≢false (sym fit.0))

mark_codec : (form : RecordForm) (protocol : Protocol) → IsCodec (mark_at form protocol) (mark_text form) (KeepsIts form protocol)
mark_codec form protocol = record { takes = mark_takes form protocol; again = mark_again form protocol }

reclaiming_kind : (protocol : Protocol) → is_reclaiming protocol ≡ nat_lt 0 (kind_of protocol)
reclaiming_kind Nfs = refl
reclaiming_kind Nlm = refl
reclaiming_kind Smb = refl

-- what the parts of a name say together
abbrev Parts : Type 0
Parts = Protocol × (List ℕ × Option Mark)

spelled_parts : (form : RecordForm) (name : Recorded) → IsKind name.protocol → length name.name < 2 ^ 16 → KeepsIts form name.protocol name.mark → IsSpelled form name
spelled_parts form name kind short kept =
    (and_from (is_mark_of name.protocol name.mark) (is_reclaiming name.protocol) kept.0 (reclaiming_kind name.protocol ∙ kind), (short, kept.1))

parts_spelled : (form : RecordForm) (name : Recorded) → IsSpelled form name → IsKind name.protocol × ((length name.name < 2 ^ 16) × KeepsIts form name.protocol name.mark)
parts_spelled form name spelled =
    let both = and_parts (is_mark_of name.protocol name.mark) (is_reclaiming name.protocol) spelled.0 in
    (sym (reclaiming_kind name.protocol) ∙ both.1, (spelled.1.0, (both.0, spelled.1.1)))

pub name_codec : (form : RecordForm) → IsCodec (name_at form) (name_text form) (IsSpelled form)
unfolding name_at name_text
name_codec form =
    same_codec (λ (name : Recorded). (kind_of name.protocol ∷ []) ++ (big_endian w16 (length name.name) ++ (name.name ++ mark_text form name.mark))) (IsSpelled form)
    (as_codec (λ (p : Parts). record { protocol = p.0; name = p.1.0; mark = p.1.1 }) (λ (name : Recorded). (name.protocol, (name.name, name.mark)))
    (pair_codec protocol_codec (λ protocol. pair_codec text_codec (λ _. mark_codec form protocol))) (λ p fit. refl) (λ name. refl))
    (λ name fit. (ap (λ (t : List ℕ). (kind_of name.protocol ∷ []) ++ t) (sym (append_assoc (big_endian w16 (length name.name)) name.name (mark_text form name.mark))), spelled_parts form name fit.0 fit.1.0 fit.1.1))
    (λ name fits. parts_spelled form name fits)

-- ---- the names

abbrev named : ℕ → List Recorded → Stable
named epoch names = record { epoch = epoch; names = names }

-- so many names were taken, and stand behind those from before
record ReadOn (form : RecordForm) (count : ℕ) (stable : Stable) (bytes : List ℕ) (x : Stable × List ℕ) : Type 0 where
  new : List Recorded
  all : x.0 ≡ named stable.epoch (stable.names ++ new)
  count_is : length new ≡ count
  took : Takes bytes (names_text form new) x.1
  spelled : AllByRecursion (Fits form) new

names_take : (form : RecordForm) (count : ℕ) (stable : Stable) (bytes : List ℕ) (x : Stable × List ℕ) → IsBytes bytes → names_at form count stable bytes ≡ Ok x → ReadOn form count stable bytes x
unfolding names_at
names_take form zero stable bytes x is e =
    subst (λ (y : Stable × List ℕ). ReadOn form 0 stable bytes y) (ok_is {E = RecordBad} (stable, bytes) x e)
    (record { new = []; all = ap (named stable.epoch) (sym (append-nil stable.names)); count_is = refl; took = Takes-none bytes is; spelled = tt })
names_take form (suc count) stable bytes x is e =
    let a = bind_ok (name_at form bytes) (λ y. cond (is_recorded y.0 stable.names) (Err bad.Twice) (names_at form count (added y.0 stable) y.1)) x e in
    let g = guard_not (is_recorded a.0.0 stable.names) bad.Twice (names_at form count (added a.0.0 stable) a.0.1) x a.2 in
    let one = (name_codec form).takes bytes a.0 is a.1 in
    let more = names_take form count (added a.0.0 stable) a.0.1 x one.0.rest_is g.1 in
    record {
      new = a.0.0 ∷ more.new;
      all = more.all ∙ ap (named stable.epoch) (append_assoc stable.names (a.0.0 ∷ []) more.new);
      count_is = ap suc more.count_is;
      took = Takes-then bytes (name_text form a.0.0) a.0.1 (names_text form more.new) x.1 one.0 more.took;
      spelled = (one.1.1, more.spelled);
    }

-- a name behind others isn't among them
pub apart : (names : List Recorded) (name : Recorded) (more : List Recorded) → AreRecordable (names ++ name ∷ more) → is_recorded name names ≡ false
apart [] name more ok = refl
apart (first ∷ names) name more ok =
    let behind = or_parts (is_recorded first names) (is_recorded first (name ∷ more)) (sym (list_any-append (λ held. same_name held first) names (name ∷ more)) ∙ ok.1) in
    let other = or_parts (same_name name first) (is_recorded first more) behind.1 in
    let differs : same_name first name ≡ false = same_name-sym first name ∙ other.0 in
    rw differs (apart names name more ok.2)

names_again : (form : RecordForm) (names : List Recorded) (stable : Stable) (rest : List ℕ) → AllByRecursion (IsSpelled form) names → AreRecordable (stable.names ++ names)
    → names_at form (length names) stable (names_text form names ++ rest) ≡ Ok (named stable.epoch (stable.names ++ names), rest)
unfolding names_at
names_again form [] stable rest spelled ok = ap (λ (ns : List Recorded). Ok (named stable.epoch ns, rest)) (sym (append-nil stable.names))
names_again form (name ∷ names) stable rest spelled ok =
    let behind : List ℕ = names_text form names ++ rest in
    let text : names_text form (name ∷ names) ++ rest ≡ name_text form name ++ behind = append_assoc (name_text form name) (names_text form names) rest in
    let grouped : stable.names ++ name ∷ names ≡ (stable.names ++ name ∷ []) ++ names = sym (append_assoc stable.names (name ∷ []) names) in
    let new : is_recorded name stable.names ≡ false = apart stable.names name names ok in
    let more = names_again form names (added name stable) rest spelled.1 (subst AreRecordable grouped ok) in
    ap (names_at form (suc (length names)) stable) text
    ∙ rw ((name_codec form).again name behind spelled.0, new) (more ∙ ap (λ (ns : List Recorded). Ok (named stable.epoch ns, rest)) (sym grouped))

-- ---- lengths

-- bytes of a name in a file, with its mark
pub name_length : (form : RecordForm) (name : Recorded) → length (name_text form name) ≡ 3 + (length name.name + length (mark_text form name.mark))
unfolding name_text big_endian
name_length form name = omega (arith, length-append (to_be_bytes w16 (length name.name)) (name.name ++ mark_text form name.mark), length-append name.name (mark_text form name.mark))

magic_length : (form : RecordForm) → length (magic_of form) ≡ 4
magic_length Unmarked = refl
magic_length Marked = refl

pub head_length : (form : RecordForm) (stable : Stable) → length (file_text form stable) ≡ 12 + length (names_text form stable.names)
unfolding file_text big_endian
head_length form stable = omega (arith, magic_length form, length-append (magic_of form) (to_be_bytes w32 stable.epoch ++ (to_be_bytes w32 (length stable.names) ++ names_text form stable.names)))

count_within : (form : RecordForm) (names : List Recorded) → 3 * length names ≤ length (names_text form names)
count_within form [] = omega arith
count_within form (name ∷ names) = omega (arith, count_within form names, name_length form name, length-append (name_text form name) (names_text form names))

pub few_names : (stable : Stable) → HasFile stable → length stable.names < 2 ^ 32
few_names stable fits = omega (arith, fits.0, head_length Marked stable, count_within Marked stable.names)

-- names that are short, one by one
pub all_short : (names : List Recorded) → are_short names ≡ true → AllByRecursion (λ (name : Recorded). length name.name < 2 ^ 16) names
all_short [] short = tt
all_short (name ∷ names) short =
    let both = and_parts (nat_lt (length name.name) 65536) (are_short names) short in
    (ltb-true _ _ both.0, all_short names both.1)

short_all : (form : RecordForm) (names : List Recorded) → AllByRecursion (Fits form) names → are_short names ≡ true
short_all form [] fits = refl
short_all form (name ∷ names) fits = and_from (nat_lt (length name.name) 65536) (are_short names) (lt-ltb _ _ fits.0.0) (short_all form names fits.1)

all_spelled : (form : RecordForm) (names : List Recorded) → AreRecordable names → AllByRecursion (Fits form) names → AllByRecursion (IsSpelled form) names
all_spelled form [] ok fits = tt
all_spelled form (name ∷ names) ok fits = ((ok.0, fits.0), all_spelled form names ok.2 fits.1)

-- short names with whole marks fit
all_fit : (names : List Recorded) → AllByRecursion (λ (name : Recorded). length name.name < 2 ^ 16) names → AreWhole names → AllByRecursion (Fits Marked) names
all_fit [] short whole = tt
all_fit (name ∷ names) short whole = ((short.0, whole.0), all_fit names short.1 whole.1)

-- A record of the older form has a file in the newer one: a byte more for each name, of which each has three at least.
longer : (names : List Recorded) → AllByRecursion (Fits Unmarked) names → length (names_text Marked names) ≡ length names + length (names_text Unmarked names)
longer [] fits = refl
longer (name ∷ names) fits =
    let none : length (mark_text Marked name.mark) ≡ 1 = ap (λ (m : Option Mark). length (mark_text Marked m)) fits.0.1 in
    omega (arith, none, name_length Marked name, name_length Unmarked name, length-append (name_text Marked name) (names_text Marked names), length-append (name_text Unmarked name) (names_text Unmarked names), longer names fits.1)

migrates : (form : RecordForm) (stable : Stable) → AllByRecursion (Fits form) stable.names → length (file_text form stable) ≤ most_bytes_of form → HasFile stable
migrates Marked stable fits few = (few, short_all Marked stable.names fits)
migrates Unmarked stable fits few =
    (omega (arith, few, head_length Unmarked stable, head_length Marked stable, longer stable.names fits, count_within Unmarked stable.names), short_all Unmarked stable.names fits)

-- ---- the file

ended_ok : {A : Type 0} (y : A × List ℕ) (x : A) → ended y ≡ Ok x → (y.1 ≡ []) × (y.0 ≡ x)
ended_ok (y, []) x e = (refl, ok_is {E = RecordBad} y x e)
ended_ok (y, byte ∷ bytes) x e = absurd cc

magic_codec : (form : RecordForm) → IsCodec (magic_at form) (λ magic. magic) (λ magic. (length magic ≡ 4) × (bytes_eq magic (magic_of form) ≡ true))
magic_codec form = guard_codec (λ magic. bytes_eq magic (magic_of form)) bad.Magic (fixed_codec bad.Magic 4)

-- the parts of a file, put together
whole_is : (form : RecordForm) (bytes magic behind_magic behind_epoch behind_count rest : List ℕ) (epoch count : ℕ) (names : List Recorded) (read stable : Stable) → Takes bytes magic behind_magic → Takes behind_magic (big_endian w32 epoch) behind_epoch
    → Takes behind_epoch (big_endian w32 count) behind_count → Takes behind_count (names_text form names) rest → magic ≡ magic_of form → rest ≡ [] → length names ≡ count → read ≡ named epoch names → read ≡ stable → bytes ≡ file_text form stable
unfolding file_text
whole_is form bytes magic behind_magic behind_epoch behind_count rest epoch count names read stable one two three four marked none count_is all made =
    let last = Takes-then behind_epoch (big_endian w32 count) behind_count (names_text form names) rest three four in
    let later = Takes-then behind_magic (big_endian w32 epoch) behind_epoch (big_endian w32 count ++ names_text form names) rest two last in
    let whole = Takes-then bytes magic behind_magic (big_endian w32 epoch ++ (big_endian w32 count ++ names_text form names)) rest one later in
    whole.parts ∙ rw (marked, none, ← count_is, ← made, all) (append-nil (file_text form (named epoch names)))

same_held : (epoch : ℕ) (new : List Recorded) (read stable : Stable) → read ≡ named epoch new → read ≡ stable → new ≡ stable.names
same_held epoch new read stable all made = ap (λ (s : Stable). s.names) (sym all ∙ made)

-- what is read is spelled so
file_takes : (form : RecordForm) (bytes : List ℕ) (stable : Stable) → IsBytes bytes → file_at form bytes ≡ Ok stable → (bytes ≡ file_text form stable) × (length bytes ≤ most_bytes_of form) × AllByRecursion (Fits form) stable.names
unfolding file_at
file_takes form bytes stable is e =
    let g = guard_not (ltb (most_bytes_of form) (length bytes)) (bad.Long (length bytes)) _ stable e in
    let magic = bind_ok (magic_at form bytes) _ stable g.1 in
    let epoch = bind_ok (big_endian_at bad.Cut w32 magic.0.1) _ stable magic.2 in
    let count = bind_ok (big_endian_at bad.Cut w32 epoch.0.1) _ stable epoch.2 in
    let names = bind_ok (names_at form count.0.0 (named epoch.0.0 []) count.0.1) ended stable count.2 in
    let end = ended_ok names.0 stable names.2 in
    let one = (magic_codec form).takes bytes magic.0 is magic.1 in
    let two = (big_endian_32 bad.Cut).takes magic.0.1 epoch.0 one.0.rest_is epoch.1 in
    let three = (big_endian_32 bad.Cut).takes epoch.0.1 count.0 two.0.rest_is count.1 in
    let four = names_take form count.0.0 (named epoch.0.0 []) count.0.1 names.0 three.0.rest_is names.1 in
    let marked : magic.0.0 ≡ magic_of form = (bytes_eq-Decides magic.0.0 (magic_of form)).0 one.1.1 in
    let text : bytes ≡ file_text form stable = whole_is form bytes magic.0.0 magic.0.1 epoch.0.1 count.0.1 names.0.1 epoch.0.0 count.0.0 four.new names.0.0 stable one.0 two.0 three.0 four.took marked end.0 four.count_is four.all end.1 in
    let held : four.new ≡ stable.names = same_held epoch.0.0 four.new names.0.0 stable four.all end.1 in
    (text, ltb-false _ _ g.0, subst (AllByRecursion (Fits form)) held four.spelled)

-- the reading by its parts
by_parts : (form : RecordForm) (bytes magic epoch count : List ℕ) (e n : ℕ) (stable : Stable) (rest : List ℕ) (first : List ℕ) → length bytes ≤ most_bytes_of form → magic_at form bytes ≡ Ok (first, magic)
    → big_endian_at bad.Cut w32 magic ≡ Ok (e, epoch) → big_endian_at bad.Cut w32 epoch ≡ Ok (n, count) → names_at form n (named e []) count ≡ Ok (stable, rest) → file_at form bytes ≡ ended (stable, rest)
unfolding file_at
by_parts form bytes magic epoch count e n stable rest first fits marked one two named_so =
    let short : ltb (most_bytes_of form) (length bytes) ≡ false = le-ltb _ _ fits in
    rw (short, marked, one, two, named_so) refl

-- a file begins in its form
begins : (form : RecordForm) (behind : List ℕ) → form_of (magic_of form ++ behind) ≡ form
begins Unmarked behind = refl
begins Marked behind = refl

magic_is : (form : RecordForm) → (length (magic_of form) ≡ 4) × (bytes_eq (magic_of form) (magic_of form) ≡ true)
magic_is Unmarked = (refl, refl)
magic_is Marked = (refl, refl)

most_few : (form : RecordForm) → most_bytes_of form ≤ 131072
most_few Unmarked = omega arith
most_few Marked = omega arith

-- what is spelled so is read, and a fault where something stands behind it
pub file_again : (form : RecordForm) (stable : Stable) (rest : List ℕ) → stable.epoch < 2 ^ 32 → AreRecordable stable.names → AllByRecursion (Fits form) stable.names → length (file_text form stable ++ rest) ≤ most_bytes_of form
    → record_at (file_text form stable ++ rest) ≡ ended (stable, rest)
unfolding file_text
file_again form stable rest small ok spelled fits =
    let text : List ℕ = names_text form stable.names in
    let len = length-append (file_text form stable) rest in
    let count : length stable.names < 2 ^ 32 = omega (arith, len, fits, most_few form, head_length form stable, count_within form stable.names) in
    let behind_count : List ℕ = text ++ rest in
    let behind_epoch : List ℕ = big_endian w32 (length stable.names) ++ behind_count in
    let behind_magic : List ℕ = big_endian w32 stable.epoch ++ behind_epoch in
    let grouped : file_text form stable ++ rest ≡ magic_of form ++ behind_magic =
    append_assoc (magic_of form) (big_endian w32 stable.epoch ++ (big_endian w32 (length stable.names) ++ text)) rest
    ∙ ap (λ (t : List ℕ). magic_of form ++ t) (append_assoc (big_endian w32 stable.epoch) (big_endian w32 (length stable.names) ++ text) rest ∙ ap (λ (t : List ℕ). big_endian w32 stable.epoch ++ t) (append_assoc (big_endian w32 (length stable.names)) text rest)) in
    ap record_at grouped
    ∙ ap (λ (f : RecordForm). file_at f (magic_of form ++ behind_magic)) (begins form behind_magic)
    ∙ by_parts form (magic_of form ++ behind_magic) behind_magic behind_epoch behind_count stable.epoch (length stable.names) stable rest (magic_of form)
    (subst (λ (t : List ℕ). length t ≤ most_bytes_of form) grouped fits)
    ((magic_codec form).again (magic_of form) behind_magic (magic_is form))
    ((big_endian_32 bad.Cut).again stable.epoch behind_epoch small)
    ((big_endian_32 bad.Cut).again (length stable.names) behind_count count)
    (names_again form stable.names (named stable.epoch []) rest (all_spelled form stable.names ok spelled) ok)

-- what the clauses of reading and writing say
pub found_by : (bytes : List ℕ) (r : Result Stable RecordBad) → IsBytes bytes → GivesUnless fault_of (λ (s : Stable). s) r (record_at bytes) → IfOk r (λ s. IsFileOf s bytes × HasFile s)
found_by bytes (Ok s) is exact =
    let read = file_takes (form_of bytes) bytes s is exact in
    (read, migrates (form_of bytes) s read.2 (subst (λ (t : List ℕ). length t ≤ most_bytes_of (form_of bytes)) read.0 read.1))
found_by bytes (Err e) is exact = tt

pub only_by : (bytes : List ℕ) (r : Result Stable RecordBad) → GivesUnless fault_of (λ (s : Stable). s) r (record_at bytes)
    → (form : RecordForm) (stable : Stable) (rest : List ℕ) → stable.epoch < 2 ^ 32 → AreRecordable stable.names → AllByRecursion (Fits form) stable.names → length bytes ≤ most_bytes_of form → bytes ≡ file_text form stable ++ rest → GivesUnless fault_of (λ (s : Stable). s) r (ended (stable, rest))
only_by bytes r exact form stable rest small ok spelled fits is =
    subst (GivesUnless fault_of (λ (s : Stable). s) r) (ap record_at is ∙ file_again form stable rest small ok spelled (subst (λ (t : List ℕ). length t ≤ most_bytes_of form) is fits)) exact

pub read_again : (stable : Stable) (text : List ℕ) → stable.epoch < 2 ^ 32 → AreRecordable stable.names → AreWhole stable.names → HasFile stable → text ≡ record_text stable → record_at text ≡ Ok stable
read_again stable text small ok whole fits is =
    let all : record_text stable ++ [] ≡ record_text stable = append-nil (record_text stable) in
    ap record_at (is ∙ sym all)
    ∙ file_again Marked stable [] small ok (all_fit stable.names (all_short stable.names fits.1) whole) (subst (λ (t : List ℕ). length t ≤ 131072) (sym all) fits.0)

-- ---- the loops

-- an error that a part tells is told by the whole
pub told : {A : Type 0} (e : RecordBad) (given : Result A RecordBad) → given ≡ Err e → IfSome (fault_of e) (λ fault. given ≡ Err fault)
told bad.NoMemory given is = tt
told _ given is = is

-- an error of one step is one of all, where its fault is
pub handed : {A B : Type 0} (error : Option RecordBad) (part : Result A RecordBad) (whole : Result B RecordBad) → ((fault : RecordBad) → part ≡ Err fault → whole ≡ Err fault)
    → IfSome error (λ fault. part ≡ Err fault) → IfSome error (λ fault. whole ≡ Err fault)
handed None part whole on is = tt
handed (Some fault) part whole on is = on fault is

err_is : {A B : Type 0} (e f : RecordBad) → Path (Result A RecordBad) (Err e) (Err f) → Path (Result B RecordBad) (Err e) (Err f)
err_is e f is = let same : e ≡ f = cc in ap Err same

pub goes_on : (form : RecordForm) (count i : ℕ) (stable : Stable) (bytes : List ℕ) (name : Recorded) (rest : List ℕ) (total : Result (Stable × List ℕ) RecordBad) → i < count → name_at form bytes ≡ Ok (name, rest)
    → is_recorded name stable.names ≡ false → names_at form (count - i) stable bytes ≡ total → names_at form (count - (i + 1)) (added name stable) rest ≡ total
unfolding names_at
goes_on form count i stable bytes name rest total lt reads new so_far =
    let k : count - i ≡ suc (count - (i + 1)) = omega arith in
    let one : names_at form (count - i) stable bytes ≡ names_at form (count - (i + 1)) (added name stable) rest = rw (k, reads, new) refl in
    sym one ∙ so_far

pub fails : (form : RecordForm) (count i : ℕ) (stable : Stable) (bytes : List ℕ) (e : RecordBad) (total : Result (Stable × List ℕ) RecordBad) → i < count → name_at form bytes ≡ Err e
    → names_at form (count - i) stable bytes ≡ total → total ≡ Err e
unfolding names_at
fails form count i stable bytes e total lt reads so_far =
    let k : count - i ≡ suc (count - (i + 1)) = omega arith in
    let one : names_at form (count - i) stable bytes ≡ Err e = rw (k, reads) refl in
    sym so_far ∙ one

pub repeats : (form : RecordForm) (count i : ℕ) (stable : Stable) (bytes : List ℕ) (name : Recorded) (rest : List ℕ) (total : Result (Stable × List ℕ) RecordBad) → i < count → name_at form bytes ≡ Ok (name, rest)
    → is_recorded name stable.names ≡ true → names_at form (count - i) stable bytes ≡ total → total ≡ Err bad.Twice
unfolding names_at
repeats form count i stable bytes name rest total lt reads known so_far =
    let k : count - i ≡ suc (count - (i + 1)) = omega arith in
    let one : names_at form (count - i) stable bytes ≡ Err bad.Twice = rw (k, reads, known) refl in
    sym so_far ∙ one

pub refuses : (form : RecordForm) (count i : ℕ) (stable : Stable) (bytes : List ℕ) (name : Recorded) (rest : List ℕ) (error : RecordBad) (total : Result (Stable × List ℕ) RecordBad) → i < count → name_at form bytes ≡ Ok (name, rest)
    → IfSome (fault_of error) (λ fault. (if is_recorded name stable.names then Err bad.Twice else Ok (added name stable)) ≡ Err fault)
    → names_at form (count - i) stable bytes ≡ total → IfSome (fault_of error) (λ fault. total ≡ Err fault)
refuses form count i stable bytes name rest error total lt reads refused so_far =
    handed (fault_of error) (if is_recorded name stable.names then Err bad.Twice else Ok (added name stable)) total
    (λ fault is.
    elim (cases_Bool (is_recorded name stable.names)) [
      | inl known ↦ repeats form count i stable bytes name rest total lt reads known so_far ∙ err_is bad.Twice fault (rw known at is)
      | inr new ↦ (let never : Ok (added name stable) ≡ Err fault = rw new at is in absurd cc)
    ])
    refused

pub is_done : (form : RecordForm) (count i : ℕ) (stable : Stable) (bytes : List ℕ) (total : Result (Stable × List ℕ) RecordBad) → count ≤ i → names_at form (count - i) stable bytes ≡ total → total ≡ Ok (stable, bytes)
unfolding names_at
is_done form count i stable bytes total le so_far =
    let k : count - i ≡ 0 = omega arith in
    let one : names_at form (count - i) stable bytes ≡ Ok (stable, bytes) = rw k refl in
    sym so_far ∙ one

-- the length so far with what a name adds, where sums stop at the last number
pub length_on : (total adds next whole i : ℕ) (names : List Recorded) (name : Recorded) → i < length names → name ≡ get_or names i name → adds ≡ min (length (name_text Marked name)) (2 ^ 64 - 1)
    → next ≡ min (total + adds) (2 ^ 64 - 1) → min (total + length (names_text Marked (drop i names))) (2 ^ 64 - 1) ≡ whole → min (next + length (names_text Marked (drop (i + 1) names))) (2 ^ 64 - 1) ≡ whole
length_on total adds next whole i names name lt is adds_is next_is so_far =
    let rest = drop (i + 1) names in
    let front : drop i names ≡ name ∷ rest = drop_more names i name lt ∙ ap (λ (n : Recorded). n ∷ rest) (sym is) in
    let sum : length (names_text Marked (drop i names)) ≡ length (name_text Marked name) + length (names_text Marked rest) =
    ap (λ (ns : List Recorded). length (names_text Marked ns)) front ∙ length-append (name_text Marked name) (names_text Marked rest) in
    omega (arith, adds_is, next_is, so_far, sum)

pub length_is : (total i : ℕ) (names : List Recorded) → length names ≤ i → total ≤ 2 ^ 64 - 1
    → min (total + length (names_text Marked (drop i names))) (2 ^ 64 - 1) ≡ min (length (names_text Marked names)) (2 ^ 64 - 1) → total ≡ min (length (names_text Marked names)) (2 ^ 64 - 1)
length_is total i names le small so_far =
    let none : drop i names ≡ [] = drop_all i names le in
    let sum : length (names_text Marked (drop i names)) ≡ 0 = ap (λ (ns : List Recorded). length (names_text Marked ns)) none in
    omega (arith, so_far, sum)

-- the whole file
pub length_whole : (stable : Stable) (names whole : ℕ) → names ≡ min (length (names_text Marked stable.names)) (2 ^ 64 - 1) → whole ≡ min (12 + names) (2 ^ 64 - 1) → whole ≡ min (length (record_text stable)) (2 ^ 64 - 1)
length_whole stable names whole names_is whole_is = omega (arith, names_is, whole_is, head_length Marked stable)

names_behind : (names : List Recorded) (name : Recorded) → length (names_text Marked (names ++ name ∷ [])) ≡ length (names_text Marked names) + length (name_text Marked name)
names_behind [] name = omega (arith, length-append (name_text Marked name) [])
names_behind (first ∷ names) name = omega (arith, length-append (name_text Marked first) (names_text Marked (names ++ name ∷ [])), length-append (name_text Marked first) (names_text Marked names), names_behind names name)

-- a new name
pub length_behind : (stable : Stable) (name : Recorded) (names : List Recorded) (whole one sum : ℕ) → names ≡ stable.names → position (λ held. same_name held name) names ≡ None → whole ≡ min (length (record_text stable)) (2 ^ 64 - 1) → one ≡ min (length (name_text Marked name)) (2 ^ 64 - 1) → sum ≡ min (whole + one) (2 ^ 64 - 1)
    → sum ≡ min (length (record_text (with_name name stable))) (2 ^ 64 - 1)
length_behind stable name names whole one sum are new whole_is one_is sum_is =
    let text : length (names_text Marked (put_name name stable.names)) ≡ length (names_text Marked stable.names) + length (name_text Marked name) =
    ap (λ (ns : List Recorded). length (names_text Marked ns)) (put_behind name stable.names (subst (λ (ns : List Recorded). position (λ held. same_name held name) ns ≡ None) are new)) ∙ names_behind stable.names name in
    omega (arith, whole_is, one_is, sum_is, text, head_length Marked stable, head_length Marked (with_name name stable))

names_set : (names : List Recorded) (i : ℕ) (name : Recorded) → i < length names
    → length (names_text Marked (set names i name)) ≡ length (names_text Marked (take i names)) + (length (name_text Marked name) + length (names_text Marked (drop (i + 1) names)))
names_set [] i name within = absurd (omega (arith, within))
names_set (first ∷ names) zero name within = omega (arith, length-append (name_text Marked name) (names_text Marked names))
names_set (first ∷ names) (suc i) name within =
    let more = names_set names i name (omega (arith, within)) in
    let next : suc i + 1 ≡ suc (i + 1) = omega arith in
    let texts : length (names_text Marked (first ∷ set names i name)) ≡ length (name_text Marked first) + length (names_text Marked (set names i name)) = length-append (name_text Marked first) (names_text Marked (set names i name)) in
    let taken : length (names_text Marked (first ∷ take i names)) ≡ length (name_text Marked first) + length (names_text Marked (take i names)) = length-append (name_text Marked first) (names_text Marked (take i names)) in
    subst (λ (k : ℕ). length (names_text Marked (first ∷ set names i name)) ≡ length (names_text Marked (first ∷ take i names)) + (length (name_text Marked name) + length (names_text Marked (drop k (first ∷ names))))) (sym next)
    (total (length (names_text Marked (first ∷ set names i name))) (length (names_text Marked (set names i name))) (length (name_text Marked first)) (length (names_text Marked (first ∷ take i names))) (length (names_text Marked (take i names))) (length (name_text Marked name)) (length (names_text Marked (drop (i + 1) names))) texts taken more) where
      total : (all rest one front before new behind : ℕ) → all ≡ one + rest → front ≡ one + before → rest ≡ before + (new + behind) → all ≡ front + (new + behind)
      total all rest one front before new behind a b c = omega (arith, a, b, c)

-- a name in its place
pub length_put : (stable : Stable) (name : Recorded) (names : List Recorded) (i front back one others whole sum : ℕ) → names ≡ stable.names → position (λ held. same_name held name) names ≡ Some i
    → front ≡ min (length (names_text Marked (take i names))) (2 ^ 64 - 1) → back ≡ min (length (names_text Marked (take (length names - (i + 1)) (drop (i + 1) names)))) (2 ^ 64 - 1)
    → one ≡ min (length (name_text Marked name)) (2 ^ 64 - 1) → others ≡ min (front + back) (2 ^ 64 - 1) → whole ≡ min (12 + others) (2 ^ 64 - 1) → sum ≡ min (whole + one) (2 ^ 64 - 1)
    → sum ≡ min (length (record_text (with_name name stable))) (2 ^ 64 - 1)
length_put stable name names i front back one others whole sum are at front_is back_is one_is others_is whole_is sum_is =
    let placed = put_at name names i at in
    let text : length (names_text Marked (put_name name stable.names)) ≡ length (names_text Marked (take i names)) + (length (name_text Marked name) + length (names_text Marked (drop (i + 1) names))) =
    ap (λ (ns : List Recorded). length (names_text Marked (put_name name ns))) (sym are) ∙ ap (λ (ns : List Recorded). length (names_text Marked ns)) placed.1 ∙ names_set names i name placed.0 in
    let behind : length (names_text Marked (take (length names - (i + 1)) (drop (i + 1) names))) ≡ length (names_text Marked (drop (i + 1) names)) =
    ap (λ (ns : List Recorded). length (names_text Marked ns)) (take_all (length names - (i + 1)) (drop (i + 1) names) (omega (arith, length-drop (i + 1) names))) in
    omega (arith, front_is, back_is, one_is, others_is, whole_is, sum_is, text, behind, head_length Marked (with_name name stable))
