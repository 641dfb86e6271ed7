-- The header lines that are written of a head are read.
use Rattle.std.proofs.Common.{◌≡◌, ℕ, ◌+◌, ◌<◌, ◌≤◌, ◌^◌, Bool, true, false, ltb, leb, ◌&&◌, ◌||◌, not, inl, inr, List, [], ◌∷◌, ◌++◌, length, Option, Some, None, refl, sym, ap, subst, ◌∙◌, append_assoc, arith}
use Rattle.std.specs.Prelude.{codes, if◌then◌else◌}
use Rattle.std.specs.Option.{option_and_then}
use Rattle.std.specs.Fmt.{decimal}
use Rattle.std.specs.List.{AllByRecursion, list_all}
use Rattle.std.proofs.lemmas.Bool.{and_from, and_parts, cases_lt, lt-ltb, leb-true, or_from, or_parts}
use Rattle.std.proofs.lemmas.Bool.Decides.{nat_tests}
use Rattle.std.proofs.lemmas.List.{append-nil, length-append}
use Rattle.std.proofs.lemmas.List.Folds.{list_any-append}
use Rattle.xl_base.specs.Codec.{IsBytes}
use Rattle.xl_base.specs.declared.journal.Exports.{Exports}
use Rattle.xl_base.specs.declared.journal.Head.{Head}
use Rattle.xl_base.specs.declared.name.Protocol.{Protocol}
use Rattle.xl_base.specs.declared.name.Protocol.TheVariants.{Nlm, Nfs, Smb}
use Rattle.xl_base.specs.declared.stable.Mark.{Mark}
use Rattle.xl_base.specs.declared.stable.Mark.TheVariants.{Verifier, State}
use Rattle.xl_base.specs.declared.stable.Recorded.{Recorded}
use Rattle.xl_base.specs.Stable.{Stable, AreRecordable, IsWhole, mark_bytes, same_name, is_mark_of, is_reclaiming, is_recordable, is_recorded}
use Rattle.xl_base.proofs.StableLaws.{same_name-sym}
use Rattle.xl_names.specs.Texts.{hex_word}
use Rattle.xl_capture.specs.Addresses.{has_address}
use Rattle.xl_capture.specs.Again.{AreNamed, AreAddressed, IsTime, IsMarkBytes, IsHeaded}
use Rattle.xl_capture.specs.Capture.{most_files, is_name_byte, is_file_name, is_graphic, is_address, is_named, no_record, no_lines, no_reading, bytes_of, time_of, takes_file, takes_address, takes_client, with_file, with_host, with_address, with_lasting, with_epoch, with_count, with_named, with_marked, mark_said, with_client, protocol_of, with_words}
use Rattle.xl_capture.specs.declared.capture.Reading.{Reading}
use Rattle.xl_capture.specs.Written.{file_lines, address_lines, times_line, epoch_line, protocol_word, mark_word, name_lines, header_lines}
use Rattle.xl_capture.proofs.WordLaws.{AreShown, line_of, Reads, reads_none, reads_both, reads_line, two_words, three_words, bytes_read, word_shown, decimal_shown, time_read, epoch_read}

-- what is known behind these files, behind these addresses, behind all that is exported, and behind these names
abbrev with_callers : List (List ℕ) → List (List ℕ × List ℕ) → Reading
with_callers files addresses = record no_reading { capture = record no_lines { files = files; addresses = addresses } }

abbrev with_files : List (List ℕ) → Reading
with_files files = with_callers files []

abbrev with_names_of : Exports → Stable → Bool → Reading
with_names_of e stable counted = record {
  capture = record { files = e.files; addresses = e.addresses; lease = e.lease; grace = e.grace; break_time = e.break_time; stable = stable; steps = [] };
  links = [];
  timed = true;
  counted = counted;
  begun = false;
}

abbrev with_exports : Exports → Reading
with_exports e = with_names_of e no_record false

abbrev pub with_names : Exports → ℕ → List Recorded → Reading
with_names e epoch names = with_names_of e (record { epoch = epoch; names = names }) true

-- ---- files

name_byte : (b : ℕ) → is_name_byte b ≡ true → 33 ≤ b
name_byte b is = elim (cases_lt b 33) [
  | inr more ↦ more
  | inl less ↦ grind (arith, nat_tests)
]

name_shown : (name : List ℕ) → list_all is_name_byte name ≡ true → AreShown name
name_shown [] all = tt
name_shown (b ∷ bs) all =
    let parts = and_parts (is_name_byte b) (list_all is_name_byte bs) all in
    (name_byte b parts.0, name_shown bs parts.1)

file_shown : (name : List ℕ) → is_file_name name ≡ true → AreShown name
file_shown name is =
    let parts = and_parts (leb 1 (length name) && leb (length name) 64) (list_all is_name_byte name) is in
    name_shown name parts.1

-- a test that passes, and one that doesn't
passed : {A : Type 0} (b : Bool) (x y : A) → b ≡ true → (if b then x else y) ≡ x
passed true x y is = refl
passed false x y is = absurd cc

failed : {A : Type 0} (b : Bool) (x y : A) → b ≡ false → (if b then x else y) ≡ y
failed true x y is = absurd cc
failed false x y is = refl

file_taken : (before : List (List ℕ)) (name : List ℕ) → is_file_name name ≡ true → is_named name before ≡ false → length before < most_files
    → with_words (with_files before) (codes "F" ∷ name ∷ []) ≡ Some (with_files (before ++ name ∷ []))
unfolding with_words with_file
file_taken before name is new few =
    let room : ltb (length before) most_files ≡ true = lt-ltb _ _ few in
    passed (takes_file (with_files before) name) _ None (and_from _ _ (and_from _ _ room is) (ap not new))

files_read : (before fs : List (List ℕ)) → AreNamed before fs → length before + length fs ≤ most_files → Reads (with_files before) (file_lines fs) (with_files (before ++ fs))
files_read before [] named few = subst (λ (all : List (List ℕ)). Reads (with_files before) [] (with_files all)) (sym (append-nil before)) (reads_none (with_files before))
files_read before (f ∷ fs) named few =
    let next = before ++ f ∷ [] in
    let first = reads_line (with_files before) (with_files next) 70 (f ∷ []) (omega arith) refl (file_shown f named.0, tt) (file_taken before f named.0 named.1 (omega (arith, few))) in
    let rest = files_read next fs named.2 (omega (arith, few, length-append before (f ∷ []))) in
    subst (λ (all : List (List ℕ)). Reads (with_files before) (file_lines (f ∷ fs)) (with_files all)) (append_assoc before (f ∷ []) fs)
    (reads_both (with_files before) (with_files next) (with_files (next ++ fs)) (line_of (codes "F" ∷ f ∷ [])) (file_lines fs) first rest)

-- ---- addresses

graphic : (b : ℕ) → is_graphic b ≡ true → 33 ≤ b
graphic b is = let parts = and_parts (leb 33 b) (leb b 126) is in leb-true _ _ parts.0

graphic_shown : (address : List ℕ) → list_all is_graphic address ≡ true → AreShown address
graphic_shown [] all = tt
graphic_shown (b ∷ bs) all =
    let parts = and_parts (is_graphic b) (list_all is_graphic bs) all in
    (graphic b parts.0, graphic_shown bs parts.1)

address_shown : (address : List ℕ) → is_address address ≡ true → AreShown address
address_shown address is =
    let parts = and_parts (leb 1 (length address) && leb (length address) 64) (list_all is_graphic address) is in
    graphic_shown address parts.1

address_taken : (files : List (List ℕ)) (before : List (List ℕ × List ℕ)) (caller address : List ℕ) → IsBytes caller → is_address address ≡ true → has_address caller before ≡ false
    → with_words (with_callers files before) (codes "H" ∷ hex_word caller ∷ address ∷ []) ≡ Some (with_callers files (before ++ (caller, address) ∷ []))
unfolding with_words with_host with_address
address_taken files before caller address bytes is new =
    ap (option_and_then (λ name. with_address (with_callers files before) name address)) (bytes_read caller bytes)
    ∙ passed (takes_address (with_callers files before) caller address) _ None (and_from _ _ (and_from _ _ is refl) (ap not new))

addresses_read : (files : List (List ℕ)) (before rest : List (List ℕ × List ℕ)) → AreAddressed before rest → Reads (with_callers files before) (address_lines rest) (with_callers files (before ++ rest))
addresses_read files before [] all = subst (λ (held : List (List ℕ × List ℕ)). Reads (with_callers files before) [] (with_callers files held)) (sym (append-nil before)) (reads_none (with_callers files before))
addresses_read files before (a ∷ rest) all =
    let next = before ++ a ∷ [] in
    let words : List (List ℕ) = hex_word a.0 ∷ a.1 ∷ [] in
    let first = reads_line (with_callers files before) (with_callers files next) 72 words (omega arith) refl (word_shown a.0 all.0, (address_shown a.1 all.1, tt)) (address_taken files before a.0 a.1 all.0 all.1 all.2) in
    let more = addresses_read files next rest all.3 in
    let text : line_of (codes "H" ∷ words) ≡ codes "H " ++ hex_word a.0 ++ codes " " ++ a.1 ++ codes "\n" = ap (λ (t : List ℕ). 72 ∷ 32 ∷ t) (sym (two_words (hex_word a.0) a.1 (10 ∷ []))) in
    let line = subst (λ (t : List ℕ). Reads (with_callers files before) t (with_callers files next)) text first in
    subst (λ (held : List (List ℕ × List ℕ)). Reads (with_callers files before) (address_lines (a ∷ rest)) (with_callers files held)) (append_assoc before (a ∷ []) rest)
    (reads_both (with_callers files before) (with_callers files next) (with_callers files (next ++ rest)) (codes "H " ++ hex_word a.0 ++ codes " " ++ a.1 ++ codes "\n") (address_lines rest) line more)

-- ---- times and the epoch

times_taken : (e : Exports) → IsTime e.lease → IsTime e.grace → IsTime e.break_time → with_words (with_callers e.files e.addresses) (codes "L" ∷ decimal e.lease ∷ decimal e.grace ∷ decimal e.break_time ∷ []) ≡ Some (with_exports e)
unfolding with_words with_lasting
times_taken e lease grace break_time =
    let a : time_of (decimal e.lease) ≡ Some e.lease = time_read e.lease lease.0 lease.1 in
    let b : time_of (decimal e.grace) ≡ Some e.grace = time_read e.grace grace.0 grace.1 in
    let c : time_of (decimal e.break_time) ≡ Some e.break_time = time_read e.break_time break_time.0 break_time.1 in
    rw (a, b, c) refl

time_shown : (n : ℕ) → IsTime n → AreShown (decimal n)
time_shown n is = decimal_shown n (omega (arith, is.1))

times_read : (e : Exports) → IsTime e.lease → IsTime e.grace → IsTime e.break_time → Reads (with_callers e.files e.addresses) (times_line e) (with_exports e)
unfolding times_line
times_read e lease grace break_time =
    let text : line_of (codes "L" ∷ decimal e.lease ∷ decimal e.grace ∷ decimal e.break_time ∷ []) ≡ times_line e = ap (λ (t : List ℕ). 76 ∷ 32 ∷ t) (sym (three_words (decimal e.lease) (decimal e.grace) (decimal e.break_time) (10 ∷ []))) in
    subst (λ (t : List ℕ). Reads (with_callers e.files e.addresses) t (with_exports e)) text (reads_line (with_callers e.files e.addresses) (with_exports e) 76 (decimal e.lease ∷ decimal e.grace ∷ decimal e.break_time ∷ []) (omega arith) refl
    (time_shown e.lease lease, (time_shown e.grace grace, (time_shown e.break_time break_time, tt))) (times_taken e lease grace break_time))

epoch_taken : (e : Exports) (epoch : ℕ) → epoch < 2 ^ 32 → with_words (with_exports e) (codes "K" ∷ decimal epoch ∷ []) ≡ Some (with_names e epoch [])
unfolding with_words with_epoch
epoch_taken e epoch fits = ap (option_and_then (λ n. with_count (with_exports e) n)) (epoch_read epoch fits)

epoch_line_read : (e : Exports) (epoch : ℕ) → epoch < 2 ^ 32 → Reads (with_exports e) (epoch_line epoch) (with_names e epoch [])
epoch_line_read e epoch fits =
    reads_line (with_exports e) (with_names e epoch []) 75 (decimal epoch ∷ []) (omega arith) refl (decimal_shown epoch (omega (arith, fits)), tt) (epoch_taken e epoch fits)

-- ---- recorded clients

-- no client is recorded twice
new_behind : (before : List Recorded) (n : Recorded) (rest : List Recorded) → AreRecordable (before ++ n ∷ rest) → is_recorded n before ≡ false
new_behind [] n rest ok = refl
new_behind (b ∷ bs) n rest ok =
    let among : (is_recorded b bs || is_recorded b (n ∷ rest)) ≡ false = sym (list_any-append (λ held. same_name held b) bs (n ∷ rest)) ∙ ok.1 in
    let other = or_parts (same_name n b) (is_recorded b rest) (or_parts (is_recorded b bs) (is_recorded b (n ∷ rest)) among).1 in
    or_from (same_name b n) (is_recorded n bs) (same_name-sym b n ∙ other.0) (new_behind bs n rest ok.2)

recordable_at : (before : List Recorded) (n : Recorded) (rest : List Recorded) → AreRecordable (before ++ n ∷ rest) → is_recordable n ≡ true
recordable_at [] n rest ok = ok.0
recordable_at (b ∷ bs) n rest ok = recordable_at bs n rest ok.2

protocol_read : (p : Protocol) → is_reclaiming p ≡ true → protocol_of (protocol_word p) ≡ Some p
protocol_read Nlm able = refl
protocol_read Nfs able = refl
protocol_read Smb able = absurd cc

protocol_shown : (p : Protocol) → AreShown (protocol_word p)
protocol_shown Nlm = (omega arith, (omega arith, (omega arith, tt)))
protocol_shown Nfs = (omega arith, (omega arith, (omega arith, tt)))
protocol_shown Smb = (omega arith, (omega arith, (omega arith, tt)))

abbrev client_of : Protocol → List ℕ → Option Mark → Recorded
client_of p name mark = record { protocol = p; name = name; mark = mark }

-- the words behind those of the name
abbrev mark_words : Option Mark → List (List ℕ)
mark_words None = []
mark_words (Some mark) = hex_word (mark_bytes mark) ∷ []

-- a mark is read of its bytes
mark_read : (p : Protocol) (mark : Mark) → is_mark_of p (Some mark) ≡ true → IsWhole (Some mark) → mark_said p (mark_bytes mark) ≡ Some mark
mark_read Nfs (Verifier bytes) fits whole = rw whole refl
mark_read Nlm (State bytes) fits whole = rw whole refl
mark_read Nfs (State bytes) fits whole = absurd cc
mark_read Nlm (Verifier bytes) fits whole = absurd cc
mark_read Smb (Verifier bytes) fits whole = absurd cc
mark_read Smb (State bytes) fits whole = absurd cc

name_taken : (e : Exports) (epoch : ℕ) (before : List Recorded) (p : Protocol) (name : List ℕ) (mark : Option Mark) → IsBytes name → IsWhole mark → IsMarkBytes mark → is_recordable (client_of p name mark) ≡ true → is_recorded (client_of p name mark) before ≡ false
    → with_words (with_names e epoch before) (codes "N" ∷ protocol_word p ∷ hex_word name ∷ mark_words mark) ≡ Some (with_names e epoch (before ++ client_of p name mark ∷ []))
unfolding with_words with_named with_marked with_client
name_taken e epoch before p name None bytes whole kept able new =
    let reclaims = (and_parts (is_mark_of p None) (is_reclaiming p) able).1 in
    ap (option_and_then (λ protocol. option_and_then (λ word. with_client (with_names e epoch before) protocol word None) (bytes_of (hex_word name)))) (protocol_read p reclaims)
    ∙ ap (option_and_then (λ word. with_client (with_names e epoch before) p word None)) (bytes_read name bytes)
    ∙ passed (takes_client (with_names e epoch before) (client_of p name None)) _ None (ap not new)
name_taken e epoch before p name (Some mark) bytes whole kept able new =
    let parts = and_parts (is_mark_of p (Some mark)) (is_reclaiming p) able in
    ap (option_and_then (λ protocol. option_and_then (λ word. option_and_then (λ said. option_and_then (λ it. with_client (with_names e epoch before) protocol word (Some it)) (mark_said protocol said)) (bytes_of (hex_word (mark_bytes mark)))) (bytes_of (hex_word name)))) (protocol_read p parts.1)
    ∙ ap (option_and_then (λ word. option_and_then (λ said. option_and_then (λ it. with_client (with_names e epoch before) p word (Some it)) (mark_said p said)) (bytes_of (hex_word (mark_bytes mark))))) (bytes_read name bytes)
    ∙ ap (option_and_then (λ said. option_and_then (λ it. with_client (with_names e epoch before) p name (Some it)) (mark_said p said))) (bytes_read (mark_bytes mark) kept)
    ∙ ap (option_and_then (λ it. with_client (with_names e epoch before) p name (Some it))) (mark_read p mark parts.0 whole)
    ∙ passed (takes_client (with_names e epoch before) (client_of p name (Some mark))) _ None (ap not new)

-- the line of one client
abbrev line_said : Protocol → List ℕ → Option Mark → List ℕ
line_said p name mark = codes "N " ++ protocol_word p ++ codes " " ++ hex_word name ++ mark_word mark ++ codes "\n"

name_read : (e : Exports) (epoch : ℕ) (before : List Recorded) (p : Protocol) (name : List ℕ) (mark : Option Mark) → IsBytes name → IsWhole mark → IsMarkBytes mark → is_recordable (client_of p name mark) ≡ true → is_recorded (client_of p name mark) before ≡ false
    → Reads (with_names e epoch before) (line_said p name mark) (with_names e epoch (before ++ client_of p name mark ∷ []))
name_read e epoch before p name None bytes whole kept able new =
    let next = before ++ client_of p name None ∷ [] in
    let words : List (List ℕ) = protocol_word p ∷ hex_word name ∷ [] in
    let first = reads_line (with_names e epoch before) (with_names e epoch next) 78 words (omega arith) refl (protocol_shown p, (word_shown name bytes, tt)) (name_taken e epoch before p name None bytes whole kept able new) in
    let text : line_of (codes "N" ∷ words) ≡ line_said p name None =
    ap (λ (t : List ℕ). 78 ∷ 32 ∷ t) (sym (two_words (protocol_word p) (hex_word name) (10 ∷ []))) ∙ ap (λ (t : List ℕ). t ++ codes "\n") (sym (append-nil (codes "N " ++ protocol_word p ++ codes " " ++ hex_word name))) in
    subst (λ (t : List ℕ). Reads (with_names e epoch before) t (with_names e epoch next)) text first
name_read e epoch before p name (Some mark) bytes whole kept able new =
    let next = before ++ client_of p name (Some mark) ∷ [] in
    let words : List (List ℕ) = protocol_word p ∷ hex_word name ∷ hex_word (mark_bytes mark) ∷ [] in
    let first = reads_line (with_names e epoch before) (with_names e epoch next) 78 words (omega arith) refl (protocol_shown p, (word_shown name bytes, (word_shown (mark_bytes mark) kept, tt))) (name_taken e epoch before p name (Some mark) bytes whole kept able new) in
    let text : line_of (codes "N" ∷ words) ≡ line_said p name (Some mark) = ap (λ (t : List ℕ). 78 ∷ 32 ∷ t) (sym (three_words (protocol_word p) (hex_word name) (hex_word (mark_bytes mark)) (10 ∷ [])))
    ∙ ap (λ (t : List ℕ). t ++ codes "\n") (append_assoc (codes "N " ++ protocol_word p ++ codes " " ++ hex_word name) (codes " ") (hex_word (mark_bytes mark))) in
    subst (λ (t : List ℕ). Reads (with_names e epoch before) t (with_names e epoch next)) text first

names_read : (e : Exports) (epoch : ℕ) (before rest : List Recorded) → AreRecordable (before ++ rest) → AllByRecursion (λ n. IsBytes n.name) rest → AllByRecursion (λ n. IsWhole n.mark × IsMarkBytes n.mark) rest → Reads (with_names e epoch before) (name_lines rest) (with_names e epoch (before ++ rest))
names_read e epoch before [] ok bytes marks = subst (λ (held : List Recorded). Reads (with_names e epoch before) [] (with_names e epoch held)) (sym (append-nil before)) (reads_none (with_names e epoch before))
names_read e epoch before (n ∷ rest) ok bytes marks =
    let next = before ++ n ∷ [] in
    let line = name_read e epoch before n.protocol n.name n.mark bytes.0 marks.0.0 marks.0.1 (recordable_at before n rest ok) (new_behind before n rest ok) in
    let more = names_read e epoch next rest (subst AreRecordable (sym (append_assoc before (n ∷ []) rest)) ok) bytes.1 marks.1 in
    subst (λ (held : List Recorded). Reads (with_names e epoch before) (name_lines (n ∷ rest)) (with_names e epoch held)) (append_assoc before (n ∷ []) rest)
    (reads_both (with_names e epoch before) (with_names e epoch next) (with_names e epoch (next ++ rest)) (line_said n.protocol n.name n.mark) (name_lines rest) line more)

-- ---- the whole

pub header_read : (h : Head) → IsHeaded h → Reads no_reading (header_lines h) (with_names h.exports h.«record».epoch h.«record».names)
header_read h is =
    let e = h.exports in
    let first = files_read [] e.files is.files (omega (arith, is.few)) in
    let second = addresses_read e.files [] e.addresses is.addresses in
    let third = times_read e is.lease is.grace is.break_time in
    let fourth = epoch_line_read e h.«record».epoch is.epoch in
    let last = names_read e h.«record».epoch [] h.«record».names is.names is.bytes is.marks in
    let to_addresses = reads_both no_reading (with_files e.files) (with_callers e.files e.addresses) (file_lines e.files) (address_lines e.addresses) first second in
    let to_times = reads_both no_reading (with_callers e.files e.addresses) (with_exports e) (file_lines e.files ++ address_lines e.addresses) (times_line e) to_addresses third in
    let to_epoch = reads_both no_reading (with_exports e) (with_names e h.«record».epoch []) (file_lines e.files ++ address_lines e.addresses ++ times_line e) (epoch_line h.«record».epoch) to_times fourth in
    reads_both no_reading (with_names e h.«record».epoch []) (with_names e h.«record».epoch h.«record».names) (file_lines e.files ++ address_lines e.addresses ++ times_line e ++ epoch_line h.«record».epoch) (name_lines h.«record».names) to_epoch last
