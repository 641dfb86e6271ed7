-- The open connections have distinct numbers, each the place of an event.
use Rattle.std.proofs.Common.{◌≡◌, ℕ, ◌+◌, ◌<◌, Bool, true, false, cond, eqb, ltb, inl, inr, List, [], ◌∷◌, ◌++◌, length, Option, Some, None, Result, Ok, Err, refl, sym, ap, subst, ◌∙◌, ◌&&◌, ◌||◌, IfSome, arith}
use Rattle.std.specs.Option.{option_map, option_map_or, option_and_then, option_to_list, is_none}
use Rattle.std.specs.Prelude.{bytes_eq, codes}
use Rattle.std.proofs.lemmas.Bool.{cases_Bool, eqb-true, eqb-false, ne_eqb}
use Rattle.std.proofs.lemmas.List.{append-nil, length-append}
use Rattle.xl_base.proofs.Members.{all_append, all_weaker}
use Rattle.xl_base.specs.declared.event.Event.{Event}
use Rattle.xl_base.specs.declared.event.Event.TheVariants.{Open, End, Called, Tick, Restart}
use Rattle.xl_base.specs.declared.event.Kind.{Kind}
use Rattle.xl_base.specs.declared.name.Protocol.{Protocol}
use Rattle.xl_base.specs.declared.stable.Mark.{Mark}
use Rattle.xl_base.specs.declared.stable.Recorded.{Recorded}
use Rattle.xl_frame.specs.Frames.{Framed}
use Rattle.xl_capture.specs.Capture.{IsNumbered, words_of, bytes_of, takes_file, with_name, with_file, takes_address, with_caller, with_address, with_host, time_of, with_times, with_lasting, epoch_of, with_count, with_epoch, protocol_of, takes_client, with_recorded, with_client, with_named, mark_said, with_marked, all_stores, steps_of, with_events, kind_of, most_connections, with_link, with_opened, with_open, with_stream, with_piece, with_bytes, with_last, with_ended, with_end, with_called, with_reply, with_no_reply, with_tick, with_restart, with_event, said_stores, all_but_last, with_entries, with_words, is_passed_over, with_line, is_last, with_lines}
use Rattle.xl_capture.specs.Links.{Link, opened, link_of, without, framed, events_of, still_open, AreDistinct, AreBelow}
use Rattle.xl_capture.specs.Numbers.{number_of}
use Rattle.xl_capture.specs.declared.capture.Reading.{Reading}
use Rattle.xl_capture.proofs.CutLaws.{found_conn}

-- ---- lists of connections

some_link : (a b : Link) → Some a ≡ Some b → a ≡ b
some_link a b e = cc

conn_of : (a b : Link) → Some a ≡ Some b → a.conn ≡ b.conn
conn_of a b e = ap (λ (l : Link). l.conn) (some_link a b e)

below_without : (n conn : ℕ) (ls : List Link) → AreBelow n ls → AreBelow n (without conn ls)
below_without n conn [] all = tt
below_without n conn (l ∷ ls) all =
    elim (cases_Bool (eqb l.conn conn)) [
      | inl same ↦ rw same all.1
      | inr other ↦ rw other (all.0, below_without n conn ls all.1)
    ]

below_found : (n conn : ℕ) (ls : List Link) (l : Link) → AreBelow n ls → link_of conn ls ≡ Some l → l.conn < n
below_found n conn [] l all e = absurd cc
below_found n conn (m ∷ ms) l all e =
    elim (cases_Bool (eqb m.conn conn)) [
      | inl same ↦ let one : Some m ≡ Some l = rw same at e in subst (λ (k : ℕ). k < n) (conn_of m l one) all.0
      | inr other ↦ let rest : link_of conn ms ≡ Some l = rw other at e in below_found n conn ms l all.1 rest
    ]

-- the place of the next event is no connection's number
pub next_is_new : (n : ℕ) (ls : List Link) → AreBelow n ls → link_of n ls ≡ None
next_is_new n [] all = refl
next_is_new n (l ∷ ls) all =
    let other : eqb l.conn n ≡ false = ne_eqb l.conn n (λ e. absurd (omega (arith, e, all.0))) in
    rw other (next_is_new n ls all.1)

none_without : (conn other : ℕ) (ls : List Link) → link_of other ls ≡ None → link_of other (without conn ls) ≡ None
none_without conn other [] e = refl
none_without conn other (l ∷ ls) e =
    elim (cases_Bool (eqb l.conn other)) [
      | inl is ↦ let none : Some l ≡ None = rw is at e in absurd cc
      | inr differs ↦
          let rest : link_of other ls ≡ None = rw differs at e in
          elim (cases_Bool (eqb l.conn conn)) [
            | inl same ↦ rw same rest
            | inr kept ↦ rw (kept, differs) (none_without conn other ls rest)
          ]
    ]

distinct_without : (conn : ℕ) (ls : List Link) → AreDistinct ls → AreDistinct (without conn ls)
distinct_without conn [] all = tt
distinct_without conn (l ∷ ls) all =
    elim (cases_Bool (eqb l.conn conn)) [
      | inl same ↦ rw same all.1
      | inr other ↦ rw other (none_without conn l.conn ls all.0, distinct_without conn ls all.1)
    ]

-- taken out, none of the number is left
pub none_left : (conn : ℕ) (ls : List Link) → AreDistinct ls → link_of conn (without conn ls) ≡ None
none_left conn [] all = refl
none_left conn (l ∷ ls) all =
    elim (cases_Bool (eqb l.conn conn)) [
      | inl same ↦ rw same (ap (λ (n : ℕ). link_of n ls) (sym (eqb-true l.conn conn same)) ∙ all.0)
      | inr other ↦ rw (other, other) (none_left conn ls all.1)
    ]

none_append : (conn : ℕ) (ls : List Link) (l : Link) → link_of conn ls ≡ None → eqb l.conn conn ≡ false → link_of conn (ls ++ l ∷ []) ≡ None
none_append conn [] l e differs = rw differs refl
none_append conn (m ∷ ms) l e differs =
    elim (cases_Bool (eqb m.conn conn)) [
      | inl is ↦ let none : Some m ≡ None = rw is at e in absurd cc
      | inr other ↦ let rest : link_of conn ms ≡ None = rw other at e in rw other (none_append conn ms l rest differs)
    ]

distinct_append : (ls : List Link) (l : Link) → AreDistinct ls → link_of l.conn ls ≡ None → AreDistinct (ls ++ l ∷ [])
distinct_append [] l all e = (refl, tt)
distinct_append (m ∷ ms) l all e =
    elim (cases_Bool (eqb m.conn l.conn)) [
      | inl is ↦ let none : Some m ≡ None = rw is at e in absurd cc
      | inr other ↦
          let rest : link_of l.conn ms ≡ None = rw other at e in
          let turned : eqb l.conn m.conn ≡ false = ne_eqb l.conn m.conn (λ same. eqb-false m.conn l.conn other (sym same)) in
          (none_append m.conn ms l all.0 turned, distinct_append ms l all.1 rest)
    ]

-- ---- lines

pub events_numbered : (r : Reading) (stores : ℕ) (events : List Event) (links : List Link) → AreBelow (length r.capture.steps) links → AreDistinct links → IsNumbered (with_events r stores events links)
events_numbered r stores events links below distinct = record {
  places = all_weaker (λ l. l.conn < length r.capture.steps) (λ l. l.conn < length (r.capture.steps ++ steps_of stores events)) links (λ l less. omega (arith, less, length-append r.capture.steps (steps_of stores events))) below;
  distinct = distinct;
}

link_below : (test : Bool) (n : ℕ) (kind : Kind) (ls : List Link) → AreBelow n ls → AreBelow (n + 1) (cond test (ls ++ opened n kind ∷ []) ls)
link_below true n kind ls all = all_append (λ l. l.conn < n + 1) ls (opened n kind ∷ []) (all_weaker (λ l. l.conn < n) (λ l. l.conn < n + 1) ls (λ l less. omega (arith, less)) all) (omega arith, tt)
link_below false n kind ls all = all_weaker (λ l. l.conn < n) (λ l. l.conn < n + 1) ls (λ l less. omega (arith, less)) all

link_distinct : (test : Bool) (n : ℕ) (kind : Kind) (ls : List Link) → AreBelow n ls → AreDistinct ls → AreDistinct (cond test (ls ++ opened n kind ∷ []) ls)
link_distinct true n kind ls all distinct = distinct_append ls (opened n kind) distinct (next_is_new n ls all)
link_distinct false n kind ls all distinct = distinct

pub opened_numbered : (r : Reading) (stores : ℕ) (kind : Kind) → IsNumbered r → IsNumbered (with_opened r stores kind)
unfolding with_opened
opened_numbered r stores kind is =
    let n = length r.capture.steps in
    record {
      places = subst (λ (m : ℕ). AreBelow m (with_link r.links n kind)) (sym (length-append r.capture.steps (steps_of stores (Open kind ∷ [])))) (link_below (ltb (length r.links) most_connections) n kind r.links is.places);
      distinct = link_distinct (ltb (length r.links) most_connections) n kind r.links is.places is.distinct;
    }

kept_below : (n : ℕ) (l : Link) (f : Framed) (test : Bool) (others : List Link) → AreBelow n others → l.conn < n → AreBelow n (others ++ option_to_list (cond test (Some (record l { rest = f.rest })) None))
kept_below n l f true others all less = all_append (λ m. m.conn < n) others (record l { rest = f.rest } ∷ []) all (less, tt)
kept_below n l f false others all less = all_append (λ m. m.conn < n) others [] all tt

kept_distinct : (l : Link) (f : Framed) (test : Bool) (others : List Link) → AreDistinct others → link_of l.conn others ≡ None → AreDistinct (others ++ option_to_list (cond test (Some (record l { rest = f.rest })) None))
kept_distinct l f true others all none = distinct_append others (record l { rest = f.rest }) all none
kept_distinct l f false others all none = subst AreDistinct (sym (append-nil others)) all

stream_numbered : (r : Reading) (stores : ℕ) (others : List Link) (o : Option Link) (bytes : List ℕ) → AreBelow (length r.capture.steps) others → AreDistinct others → IfSome o (λ l. (l.conn < length r.capture.steps) × (link_of l.conn others ≡ None)) → IsNumbered (with_stream r stores others o bytes)
stream_numbered r stores others None bytes below distinct is = events_numbered r stores [] others below distinct
stream_numbered r stores others (Some l) bytes below distinct is =
    let f = framed l bytes in
    events_numbered r stores (events_of l.conn f) (others ++ option_to_list (still_open l f)) (kept_below (length r.capture.steps) l f (is_none f.bad) others below is.0) (kept_distinct l f (is_none f.bad) others distinct is.1)

found_new : (n conn : ℕ) (ls : List Link) (o : Option Link) → AreBelow n ls → AreDistinct ls → link_of conn ls ≡ o → IfSome o (λ l. (l.conn < n) × (link_of l.conn (without conn ls) ≡ None))
found_new n conn ls None below distinct e = tt
found_new n conn ls (Some l) below distinct e = (below_found n conn ls l below e, ap (λ (m : ℕ). link_of m (without conn ls)) (found_conn conn ls l e) ∙ none_left conn ls distinct)

pub piece_numbered : (r : Reading) (stores conn : ℕ) (bytes : List ℕ) → IsNumbered r → IsNumbered (with_piece r stores conn bytes)
unfolding with_piece
piece_numbered r stores conn bytes is =
    let n = length r.capture.steps in
    stream_numbered r stores (without conn r.links) (link_of conn r.links) bytes (below_without n conn r.links is.places) (distinct_without conn r.links is.distinct) (found_new n conn r.links (link_of conn r.links) is.places is.distinct refl)

last_numbered : (r : Reading) (stores : ℕ) (others : List Link) (o : Option Link) → AreBelow (length r.capture.steps) others → AreDistinct others → IsNumbered (with_last r stores others o)
last_numbered r stores others None below distinct = events_numbered r stores [] others below distinct
last_numbered r stores others (Some l) below distinct = events_numbered r stores (End l.conn ∷ []) others below distinct

pub ended_numbered : (r : Reading) (stores conn : ℕ) → IsNumbered r → IsNumbered (with_ended r stores conn)
unfolding with_ended
ended_numbered r stores conn is = last_numbered r stores (without conn r.links) (link_of conn r.links) (below_without (length r.capture.steps) conn r.links is.places) (distinct_without conn r.links is.distinct)

-- what a line makes
abbrev IsNumberedIf : Option Reading → Type 0
IsNumberedIf None = Unit {0}
IsNumberedIf (Some r) = IsNumbered r

either_numbered : (b : Bool) (x y : Option Reading) → IsNumberedIf x → IsNumberedIf y → IsNumberedIf (cond b x y)
either_numbered true x y p q = p
either_numbered false x y p q = q

map_numbered : {A : Type 0} (f : A → Reading) (o : Option A) → ((x : A) → IsNumbered (f x)) → IsNumberedIf (option_map f o)
map_numbered f None each = tt
map_numbered f (Some x) each = each x

then_numbered : {A : Type 0} (f : A → Option Reading) (o : Option A) → ((x : A) → IsNumberedIf (f x)) → IsNumberedIf (option_and_then f o)
then_numbered f None each = tt
then_numbered f (Some x) each = each x

file_numbered : (r : Reading) (name : List ℕ) → IsNumbered r → IsNumberedIf (with_file r name)
unfolding with_file
file_numbered r name is = either_numbered (takes_file r name) (Some (with_name r name)) None (record { places = is.places; distinct = is.distinct }) tt

address_numbered : (r : Reading) (caller address : List ℕ) → IsNumbered r → IsNumberedIf (with_address r caller address)
unfolding with_address
address_numbered r caller address is = either_numbered (takes_address r caller address) (Some (with_caller r caller address)) None (record { places = is.places; distinct = is.distinct }) tt

host_numbered : (r : Reading) (hex address : List ℕ) → IsNumbered r → IsNumberedIf (with_host r hex address)
unfolding with_host
host_numbered r hex address is = then_numbered (λ caller. with_address r caller address) (bytes_of hex) (λ caller. address_numbered r caller address is)

times_numbered : (r : Reading) (lease grace break_time : ℕ) → IsNumbered r → IsNumberedIf (with_times r lease grace break_time)
times_numbered r lease grace break_time is = either_numbered (r.begun || r.timed) None _ tt (record { places = is.places; distinct = is.distinct })

lasting_numbered : (r : Reading) (lease grace break_time : List ℕ) → IsNumbered r → IsNumberedIf (with_lasting r lease grace break_time)
unfolding with_lasting
lasting_numbered r lease grace break_time is =
    then_numbered (λ a. option_and_then (λ b. option_and_then (λ c. with_times r a b c) (time_of break_time)) (time_of grace)) (time_of lease)
    (λ a. then_numbered (λ b. option_and_then (λ c. with_times r a b c) (time_of break_time)) (time_of grace)
    (λ b. then_numbered (λ c. with_times r a b c) (time_of break_time) (λ c. times_numbered r a b c is)))

count_numbered : (r : Reading) (epoch : ℕ) → IsNumbered r → IsNumberedIf (with_count r epoch)
count_numbered r epoch is = either_numbered (r.begun || r.counted) None _ tt (record { places = is.places; distinct = is.distinct })

epoch_numbered : (r : Reading) (word : List ℕ) → IsNumbered r → IsNumberedIf (with_epoch r word)
unfolding with_epoch
epoch_numbered r word is = then_numbered (λ epoch. with_count r epoch) (epoch_of word) (λ epoch. count_numbered r epoch is)

client_numbered : (r : Reading) (protocol : Protocol) (name : List ℕ) (mark : Option Mark) → IsNumbered r → IsNumberedIf (with_client r protocol name mark)
unfolding with_client
client_numbered r protocol name mark is =
    let client : Recorded = record { protocol = protocol; name = name; mark = mark } in
    either_numbered (takes_client r client) (Some (with_recorded r client)) None (record { places = is.places; distinct = is.distinct }) tt

named_numbered : (r : Reading) (word hex : List ℕ) → IsNumbered r → IsNumberedIf (with_named r word hex)
unfolding with_named
named_numbered r word hex is = then_numbered (λ protocol. option_and_then (λ name. with_client r protocol name None) (bytes_of hex)) (protocol_of word)
    (λ protocol. then_numbered (λ name. with_client r protocol name None) (bytes_of hex) (λ name. client_numbered r protocol name None is))

marked_numbered : (r : Reading) (word hex mark : List ℕ) → IsNumbered r → IsNumberedIf (with_marked r word hex mark)
unfolding with_marked
marked_numbered r word hex mark is = then_numbered (λ protocol. option_and_then (λ name. option_and_then (λ bytes. option_and_then (λ kept. with_client r protocol name (Some kept)) (mark_said protocol bytes)) (bytes_of mark)) (bytes_of hex)) (protocol_of word)
    (λ protocol. then_numbered (λ name. option_and_then (λ bytes. option_and_then (λ kept. with_client r protocol name (Some kept)) (mark_said protocol bytes)) (bytes_of mark)) (bytes_of hex)
    (λ name. then_numbered (λ bytes. option_and_then (λ kept. with_client r protocol name (Some kept)) (mark_said protocol bytes)) (bytes_of mark)
    (λ bytes. then_numbered (λ kept. with_client r protocol name (Some kept)) (mark_said protocol bytes) (λ kept. client_numbered r protocol name (Some kept) is))))

open_numbered : (r : Reading) (stores : ℕ) (word : List ℕ) → IsNumbered r → IsNumberedIf (with_open r stores word)
unfolding with_open
open_numbered r stores word is = map_numbered (λ kind. with_opened r stores kind) (kind_of word) (λ kind. opened_numbered r stores kind is)

bytes_numbered : (r : Reading) (stores : ℕ) (conn hex : List ℕ) → IsNumbered r → IsNumberedIf (with_bytes r stores conn hex)
unfolding with_bytes
bytes_numbered r stores conn hex is = then_numbered (λ n. option_map (λ bytes. with_piece r stores n bytes) (bytes_of hex)) (number_of conn)
    (λ n. map_numbered (λ bytes. with_piece r stores n bytes) (bytes_of hex) (λ bytes. piece_numbered r stores n bytes is))

end_numbered : (r : Reading) (stores : ℕ) (conn : List ℕ) → IsNumbered r → IsNumberedIf (with_end r stores conn)
unfolding with_end
end_numbered r stores conn is = map_numbered (λ n. with_ended r stores n) (number_of conn) (λ n. ended_numbered r stores n is)

called_numbered : (r : Reading) (stores call : ℕ) (reply : Option (List ℕ)) → IsNumbered r → IsNumbered (with_called r stores call reply)
unfolding with_called
called_numbered r stores call reply is = events_numbered r stores (Called call reply ∷ []) r.links is.places is.distinct

reply_numbered : (r : Reading) (stores : ℕ) (call hex : List ℕ) → IsNumbered r → IsNumberedIf (with_reply r stores call hex)
unfolding with_reply
reply_numbered r stores call hex is = then_numbered (λ n. option_map (λ bytes. with_called r stores n (Some bytes)) (bytes_of hex)) (number_of call)
    (λ n. map_numbered (λ bytes. with_called r stores n (Some bytes)) (bytes_of hex) (λ bytes. called_numbered r stores n (Some bytes) is))

no_reply_numbered : (r : Reading) (stores : ℕ) (call : List ℕ) → IsNumbered r → IsNumberedIf (with_no_reply r stores call)
unfolding with_no_reply
no_reply_numbered r stores call is = map_numbered (λ n. with_called r stores n None) (number_of call) (λ n. called_numbered r stores n None is)

tick_numbered : (r : Reading) (stores : ℕ) (moment : List ℕ) → IsNumbered r → IsNumberedIf (with_tick r stores moment)
unfolding with_tick
tick_numbered r stores moment is = map_numbered (λ n. with_events r stores (Tick (record { 0 = n }) ∷ []) r.links) (number_of moment) (λ n. events_numbered r stores (Tick (record { 0 = n }) ∷ []) r.links is.places is.distinct)

event_numbered : (r : Reading) (stores : ℕ) (words : List (List ℕ)) → IsNumbered r → IsNumberedIf (with_event r stores words)
unfolding with_event
event_numbered r stores [] is = tt
event_numbered r stores (a ∷ []) is =
    either_numbered (bytes_eq a (codes "R")) (Some (with_restart r stores)) None (events_numbered r stores (Restart ∷ []) [] tt tt) tt
event_numbered r stores (a ∷ b ∷ []) is =
    either_numbered (bytes_eq a (codes "O")) (with_open r stores b) _ (open_numbered r stores b is)
    (either_numbered (bytes_eq a (codes "E")) (with_end r stores b) _ (end_numbered r stores b is)
    (either_numbered (bytes_eq a (codes "C")) (with_no_reply r stores b) _ (no_reply_numbered r stores b is)
    (either_numbered (bytes_eq a (codes "T")) (with_tick r stores b) None (tick_numbered r stores b is) tt)))
event_numbered r stores (a ∷ b ∷ d ∷ []) is =
    either_numbered (bytes_eq a (codes "B")) (with_bytes r stores b d) _ (bytes_numbered r stores b d is)
    (either_numbered (bytes_eq a (codes "C")) (with_reply r stores b d) None (reply_numbered r stores b d is) tt)
event_numbered r stores (a ∷ b ∷ d ∷ e ∷ more) is = tt

entries_numbered : (r : Reading) (words : List (List ℕ)) (said : Option ℕ) → IsNumbered r → IsNumberedIf (with_entries r words said)
entries_numbered r words None is = event_numbered r all_stores words is
entries_numbered r words (Some stores) is = event_numbered r stores (all_but_last words) is

words_numbered : (r : Reading) (words : List (List ℕ)) → IsNumbered r → IsNumberedIf (with_words r words)
unfolding with_words
words_numbered r [] is = entries_numbered r [] (said_stores []) is
words_numbered r (a ∷ []) is = entries_numbered r (a ∷ []) (said_stores (a ∷ [])) is
words_numbered r (a ∷ b ∷ []) is =
    let words : List (List ℕ) = a ∷ b ∷ [] in
    either_numbered (bytes_eq a (codes "F")) (with_file r b) _ (file_numbered r b is)
    (either_numbered (bytes_eq a (codes "K")) (with_epoch r b) _ (epoch_numbered r b is) (entries_numbered r words (said_stores words) is))
words_numbered r (a ∷ b ∷ d ∷ []) is =
    let words : List (List ℕ) = a ∷ b ∷ d ∷ [] in
    either_numbered (bytes_eq a (codes "H")) (with_host r b d) _ (host_numbered r b d is)
    (either_numbered (bytes_eq a (codes "N")) (with_named r b d) _ (named_numbered r b d is) (entries_numbered r words (said_stores words) is))
words_numbered r (a ∷ b ∷ d ∷ e ∷ []) is =
    let words : List (List ℕ) = a ∷ b ∷ d ∷ e ∷ [] in
    either_numbered (bytes_eq a (codes "L")) (with_lasting r b d e) _ (lasting_numbered r b d e is)
    (either_numbered (bytes_eq a (codes "N")) (with_marked r b d e) _ (marked_numbered r b d e is) (entries_numbered r words (said_stores words) is))
words_numbered r (a ∷ b ∷ d ∷ e ∷ f ∷ more) is = entries_numbered r (a ∷ b ∷ d ∷ e ∷ f ∷ more) (said_stores (a ∷ b ∷ d ∷ e ∷ f ∷ more)) is

line_numbered : (r : Reading) (line : List ℕ) → IsNumbered r → IsNumberedIf (with_line r line)
unfolding with_line
line_numbered r line is = either_numbered (is_passed_over line) (Some r) (with_words r (words_of line)) is (words_numbered r (words_of line) is)

-- what lines make
abbrev IsNumberedOf : Result Reading ℕ → Type 0
IsNumberedOf (Ok r) = IsNumbered r
IsNumberedOf (Err line) = Unit {0}

err_numbered : (b : Bool) (line : ℕ) (r : Result Reading ℕ) → IsNumberedOf r → IsNumberedOf (cond b (Err line) r)
err_numbered true line r is = tt
err_numbered false line r is = is

next_numbered : (past : Bool) (n : ℕ) (ls : List (List ℕ)) (o : Option Reading) → IsNumberedIf o → ((s : Reading) → IsNumbered s → IsNumberedOf (with_lines past s (n + 1) ls)) → IsNumberedOf (option_map_or (λ s. with_lines past s (n + 1) ls) o (Err (n + 1)))
next_numbered past n ls None is rest = tt
next_numbered past n ls (Some s) is rest = rest s is

lines_numbered : (past : Bool) (r : Reading) (n : ℕ) (ls : List (List ℕ)) → IsNumbered r → IsNumberedOf (with_lines past r n ls)
unfolding with_lines
lines_numbered past r n [] is = is
lines_numbered past r n (l ∷ ls) is =
    err_numbered (past && is_last ls) (n + 1) (option_map_or (λ s. with_lines past s (n + 1) ls) (with_line r l) (Err (n + 1)))
    (next_numbered past n ls (with_line r l) (line_numbered r l is) (λ s more. lines_numbered past s (n + 1) ls more))

-- lines keep the numbers so
pub stays_numbered : (past : Bool) (r s : Reading) (n : ℕ) (lines : List (List ℕ)) → IsNumbered r → with_lines past r n lines ≡ Ok s → IsNumbered s
stays_numbered past r s n lines is e = subst IsNumberedOf e (lines_numbered past r n lines is)
