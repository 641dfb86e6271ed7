-- The event lines that are written of entries are read.
use Rattle.std.proofs.Common.{◌≡◌, ℕ, zero, suc, ◌+◌, ◌<◌, ◌≤◌, ◌^◌, Bool, true, false, eqb, ltb, leb, cond, not, ◌⊎◌, inl, inr, List, [], ◌∷◌, ◌++◌, length, map, filter, Option, Some, None, refl, sym, ap, subst, ◌∙◌, append_assoc, arith}
use Rattle.std.specs.Prelude.{codes, slice_get, if◌then◌else◌}
use Rattle.std.specs.Fmt.{decimal}
use Rattle.std.specs.Int.{byte_at, bytes_high_first}
use Rattle.std.specs.List.{AllByRecursion}
use Rattle.std.specs.Option.{option_map, option_and_then}
use Rattle.std.proofs.lemmas.Bool.{cases_Bool, eqb-true, eqb-false, eq-eqb, ne_eqb, le-leb, true≢false}
use Rattle.std.proofs.lemmas.List.{append-nil, length-append}
use Rattle.xl_base.specs.Codec.{IsBytes}
use Rattle.xl_base.specs.Limits.{most_message_bytes}
use Rattle.xl_base.specs.Lists.{IsIn}
use Rattle.xl_base.specs.declared.event.Event.{Event}
use Rattle.xl_base.specs.declared.event.Event.TheVariants.{Open, Message, End, Called, Tick, Restart}
use Rattle.xl_base.specs.declared.event.Kind.{Kind}
use Rattle.xl_base.specs.declared.event.Kind.TheVariants.{Rpc, Smb}
use Rattle.xl_base.specs.declared.journal.Entry.{Entry}
use Rattle.xl_base.specs.declared.journal.Exports.{Exports}
use Rattle.xl_base.specs.declared.stable.Recorded.{Recorded}
use Rattle.xl_base.proofs.Members.{all_append, all_in, all_weaker, in_filter_from}
use Rattle.xl_frame.specs.Frames.{Framed, wrapped, frames, frames_within}
use Rattle.xl_frame.proofs.StreamLaws.{wrapped_are_cut}
use Rattle.xl_names.specs.Texts.{hex_word}
use Rattle.xl_capture.specs.Again.{opened_after, IsSaid, AreSaid, AreReplied, step_of}
use Rattle.xl_capture.specs.Capture.{IsNumbered, most_connections, most_stores, steps_of, with_events, with_link, with_opened, with_open, with_piece, with_bytes, with_stream, with_frames, with_ended, with_end, with_last, with_called, with_reply, with_no_reply, with_tick, with_restart, with_event, with_entries, with_words, bytes_of}
use Rattle.xl_capture.specs.Links.{Link, opened, link_of, without, framed}
use Rattle.xl_capture.specs.Written.{kind_word, opened_by, opened_in, kind_at, stores_end, message_line, answer_words, event_line, event_lines}
use Rattle.xl_capture.specs.declared.capture.Capture.{Capture}
use Rattle.xl_capture.specs.declared.capture.Reading.{Reading}
use Rattle.xl_capture.specs.declared.step.Step.{Step}
use Rattle.xl_capture.proofs.HeadLaws.{with_names}
use Rattle.xl_capture.proofs.CutLaws.{found_conn, link_behind}
use Rattle.xl_capture.proofs.NumberLaws.{none_left, next_is_new, opened_numbered, piece_numbered, ended_numbered, events_numbered}
use Rattle.xl_capture.proofs.WordLaws.{AreShown, AreWords, line_of, Reads, reads_none, reads_both, reads_line, two_words, number_read, stores_read, bytes_read, word_shown, decimal_shown}

-- ---- connections

some_link : (a b : Link) → Some a ≡ Some b → a ≡ b
some_link a b e = cc

all_without : (P : Link → Type 0) (conn : ℕ) (ls : List Link) → AllByRecursion P ls → AllByRecursion P (without conn ls)
all_without P conn [] all = tt
all_without P conn (l ∷ ls) all =
    elim (cases_Bool (eqb l.conn conn)) [
      | inl same ↦ rw same all.1
      | inr other ↦ rw other (all.0, all_without P conn ls all.1)
    ]

all_found : (P : Link → Type 0) (conn : ℕ) (ls : List Link) (l : Link) → AllByRecursion P ls → link_of conn ls ≡ Some l → P l
all_found P conn [] l all e = absurd cc
all_found P conn (m ∷ ms) l all e =
    elim (cases_Bool (eqb m.conn conn)) [
      | inl same ↦ let one : Some m ≡ Some l = rw same at e in subst P (some_link m l one) all.0
      | inr other ↦ let rest : link_of conn ms ≡ Some l = rw other at e in all_found P conn ms l all.1 rest
    ]

length_without : (conn : ℕ) (ls : List Link) (l : Link) → link_of conn ls ≡ Some l → length (without conn ls) + 1 ≡ length ls
length_without conn [] l e = absurd cc
length_without conn (m ∷ ms) l e =
    elim (cases_Bool (eqb m.conn conn)) [
      | inl same ↦ rw same (omega arith)
      | inr other ↦ let rest : link_of conn ms ≡ Some l = rw other at e in rw other (let shorter = length_without conn ms l rest in omega (arith, shorter))
    ]

found_without : (conn other : ℕ) (ls : List Link) → (conn ≡ other → ⊥) → link_of other (without conn ls) ≡ link_of other ls
found_without conn other [] apart = refl
found_without conn other (l ∷ ls) apart =
    elim (cases_Bool (eqb l.conn conn)) [
      | inl same ↦
          let differs : eqb l.conn other ≡ false = ne_eqb l.conn other (λ is. apart (sym (eqb-true l.conn conn same) ∙ is)) in
          rw (same, differs) refl
      | inr kept ↦ elim (cases_Bool (eqb l.conn other)) [
        | inl is ↦ rw (kept, is) refl
        | inr differs ↦ rw (kept, differs) (found_without conn other ls apart)
      ]
    ]

found_append : (conn : ℕ) (ls more : List Link) (l : Link) → link_of conn ls ≡ Some l → link_of conn (ls ++ more) ≡ Some l
found_append conn [] more l e = absurd cc
found_append conn (m ∷ ms) more l e =
    elim (cases_Bool (eqb m.conn conn)) [
      | inl same ↦ let one : Some m ≡ Some l = rw same at e in rw same one
      | inr other ↦ let rest : link_of conn ms ≡ Some l = rw other at e in rw other (found_append conn ms more l rest)
    ]

-- ---- numbers of connections

-- no number stands twice
abbrev pub AreApart : List ℕ → Type 0
AreApart [] = Unit {0}
AreApart (c ∷ cs) = (IsIn c cs → ⊥) × AreApart cs

abbrev others : ℕ → ℕ → Bool
others number c = not (eqb c number)

either_in : (c : ℕ) (cs : List ℕ) (new : ℕ) → IsIn c (cs ++ new ∷ []) → IsIn c cs ⊎ (new ≡ c)
either_in c [] new (inl is) = inr is
either_in c [] new (inr none) = absurd none
either_in c (d ∷ ds) new (inl is) = inl (inl is)
either_in c (d ∷ ds) new (inr more) = elim (either_in c ds new more) [
  | inl old ↦ inl (inr old)
  | inr last ↦ inr last
]

apart_append : (cs : List ℕ) (new : ℕ) → AreApart cs → AllByRecursion (λ c. c < new) cs → AreApart (cs ++ new ∷ [])
apart_append [] new apart below = ((λ is. is), tt)
apart_append (c ∷ cs) new apart below = (
  (λ is. elim (either_in c cs new is) [
    | inl old ↦ apart.0 old
    | inr last ↦ absurd (omega (arith, last, below.0))
  ]),
  apart_append cs new apart.1 below.1,
)

apart_filter : (p : ℕ → Bool) (cs : List ℕ) → AreApart cs → AreApart (filter p cs)
apart_filter p [] apart = tt
apart_filter p (c ∷ cs) apart =
    elim (cases_Bool (p c)) [
      | inl is ↦ rw is ((λ stands. apart.0 (in_filter_from p c cs stands).0), apart_filter p cs apart.1)
      | inr out ↦ rw out (apart_filter p cs apart.1)
    ]

kept_all : (number : ℕ) (cs : List ℕ) → (IsIn number cs → ⊥) → filter (others number) cs ≡ cs
kept_all number [] none = refl
kept_all number (c ∷ cs) none =
    let other : eqb c number ≡ false = ne_eqb c number (λ is. none (inl is)) in
    rw other (ap (λ (ds : List ℕ). c ∷ ds) (kept_all number cs (λ is. none (inr is))))

length_filter : (number : ℕ) (cs : List ℕ) → AreApart cs → IsIn number cs → length (filter (others number) cs) + 1 ≡ length cs
length_filter number [] apart none = absurd none
length_filter number (c ∷ cs) apart (inl is) =
    let same : eqb c number ≡ true = eq-eqb c number is in
    let kept = kept_all number cs (subst (λ (d : ℕ). IsIn d cs → ⊥) is apart.0) in
    rw (same, kept) (omega arith)
length_filter number (c ∷ cs) apart (inr more) =
    let other : eqb c number ≡ false = ne_eqb c number (λ is. apart.0 (subst (λ (d : ℕ). IsIn d cs) (sym is) more)) in
    let shorter = length_filter number cs apart.1 more in
    rw other (omega (arith, shorter))

all_filter : (P : ℕ → Type 0) (p : ℕ → Bool) (cs : List ℕ) → AllByRecursion P cs → AllByRecursion P (filter p cs)
all_filter P p [] all = tt
all_filter P p (c ∷ cs) all =
    elim (cases_Bool (p c)) [
      | inl is ↦ rw is (all.0, all_filter P p cs all.1)
      | inr out ↦ rw out (all_filter P p cs all.1)
    ]

other_is : (number c : ℕ) → number ≡ c → others number c ≡ true → ⊥
other_is number c same other =
    let is : eqb c number ≡ true = eq-eqb c number (sym same) in
    true≢false (sym other ∙ ap not is)

-- ---- what is known between entries

-- an open connection is at the end of a whole frame, and its kind is that of its opening
abbrev pub IsWhole : List Entry → Link → Type 0
IsWhole all l = (l.kind ≡ kind_at all l.conn) × (l.rest ≡ [])

-- what was read of the entries so far has these connections open
pub record Stands (all : List Entry) (conns : List ℕ) (r : Reading) : Type 0 where
  pub numbered : IsNumbered r
  pub count : length conns ≡ length r.links
  pub apart : AreApart conns
  pub below : AllByRecursion (λ c. c < length r.capture.steps) conns
  pub found : (c : ℕ) → IsIn c conns → (l : Link) × (link_of c r.links ≡ Some l)
  pub whole : AllByRecursion (IsWhole all) r.links

-- with one step more, and these links
abbrev stepped : Reading → ℕ → Event → List Link → Reading
stepped r stores event links = with_events r stores (event ∷ []) links

length_stepped : (r : Reading) (stores : ℕ) (event : Event) (links : List Link) → length (stepped r stores event links).capture.steps ≡ length r.capture.steps + 1
length_stepped r stores event links = length-append r.capture.steps (steps_of stores (event ∷ []))

below_more : (r : Reading) (stores : ℕ) (event : Event) (links : List Link) (conns : List ℕ) → AllByRecursion (λ c. c < length r.capture.steps) conns → AllByRecursion (λ c. c < length (stepped r stores event links).capture.steps) conns
below_more r stores event links conns below =
    all_weaker (λ c. c < length r.capture.steps) (λ c. c < length (stepped r stores event links).capture.steps) conns (λ c less. omega (arith, less, length_stepped r stores event links)) below

-- an event that opens and ends nothing
same_stands : (all : List Entry) (conns : List ℕ) (r : Reading) (stores : ℕ) (event : Event) → Stands all conns r → Stands all conns (stepped r stores event r.links)
same_stands all conns r stores event is = record {
  numbered = events_numbered r stores (event ∷ []) r.links is.numbered.places is.numbered.distinct;
  count = is.count;
  apart = is.apart;
  below = below_more r stores event r.links conns is.below;
  found = is.found;
  whole = is.whole;
}

none_stands : (all : List Entry) (r : Reading) (stores : ℕ) → Stands all [] (with_restart r stores)
none_stands all r stores = record {
  numbered = events_numbered r stores (Restart ∷ []) [] tt tt;
  count = refl;
  apart = tt;
  below = tt;
  found = λ c none. absurd none;
  whole = tt;
}

found_opened : (conns : List ℕ) (links : List Link) (place : ℕ) (kind : Kind) (c : ℕ) → ((d : ℕ) → IsIn d conns → (l : Link) × (link_of d links ≡ Some l)) → link_of place links ≡ None → IsIn c (conns ++ place ∷ []) → (l : Link) × (link_of c (links ++ opened place kind ∷ []) ≡ Some l)
found_opened conns links place kind c found new among = elim (either_in c conns place among) [
  | inl old ↦ let held = found c old in (held.0, found_append c links (opened place kind ∷ []) held.0 held.1)
  | inr last ↦ (opened place kind, subst (λ (d : ℕ). link_of d (links ++ opened place kind ∷ []) ≡ Some (opened place kind)) last (link_behind place links (opened place kind) new refl))
]

-- with the opening of a connection, if there is room for one
opened_stands : (all : List Entry) (conns : List ℕ) (r : Reading) (stores : ℕ) (kind : Kind) (room : Bool) → kind ≡ kind_at all (length r.capture.steps) → Stands all conns r
    → IsNumbered (stepped r stores (Open kind) (cond room (r.links ++ opened (length r.capture.steps) kind ∷ []) r.links))
    → Stands all (cond room (conns ++ length r.capture.steps ∷ []) conns) (stepped r stores (Open kind) (cond room (r.links ++ opened (length r.capture.steps) kind ∷ []) r.links))
opened_stands all conns r stores kind false from is numbered = record {
  numbered = numbered;
  count = is.count;
  apart = is.apart;
  below = below_more r stores (Open kind) r.links conns is.below;
  found = is.found;
  whole = is.whole;
}
opened_stands all conns r stores kind true from is numbered =
    let place = length r.capture.steps in
    let link = opened place kind in
    let links = r.links ++ link ∷ [] in
    record {
      numbered = numbered;
      count = omega (arith, is.count, length-append conns (place ∷ []), length-append r.links (link ∷ []));
      apart = apart_append conns place is.apart is.below;
      below = all_append (λ c. c < length (stepped r stores (Open kind) links).capture.steps) conns (place ∷ []) (below_more r stores (Open kind) links conns is.below) (omega (arith, length_stepped r stores (Open kind) links), tt);
      found = λ c among. found_opened conns r.links place kind c is.found (next_is_new place r.links is.numbered.places) among;
      whole = all_append (IsWhole all) r.links (link ∷ []) is.whole ((from, refl), tt);
    }

-- without a connection that ends
ended_stands : (all : List Entry) (conns : List ℕ) (r : Reading) (stores number : ℕ) (l : Link) → Stands all conns r → IsIn number conns → link_of number r.links ≡ Some l
    → IsNumbered (stepped r stores (End number) (without number r.links)) → Stands all (filter (others number) conns) (stepped r stores (End number) (without number r.links))
ended_stands all conns r stores number l is among e numbered =
    let links = without number r.links in
    record {
      numbered = numbered;
      count = omega (arith, is.count, length_filter number conns is.apart among, length_without number r.links l e);
      apart = apart_filter (others number) conns is.apart;
      below = below_more r stores (End number) links (filter (others number) conns) (all_filter (λ c. c < length r.capture.steps) (others number) conns is.below);
      found = λ c stands.
          let held = in_filter_from (others number) c conns stands in
          let link = is.found c held.0 in
          (link.0, found_without number c r.links (λ same. absurd (other_is number c same held.1)) ∙ link.1);
      whole = all_without (IsWhole all) number r.links is.whole;
    }

-- with a connection at the end, behind the others, whose message came
moved_stands : (all : List Entry) (conns : List ℕ) (r : Reading) (stores number : ℕ) (bytes : List ℕ) (l : Link) → Stands all conns r → link_of number r.links ≡ Some l
    → IsNumbered (stepped r stores (Message number bytes) (without number r.links ++ l ∷ [])) → Stands all conns (stepped r stores (Message number bytes) (without number r.links ++ l ∷ []))
moved_stands all conns r stores number bytes l is e numbered =
    let rest = without number r.links in
    let links = rest ++ l ∷ [] in
    let conn : l.conn ≡ number = found_conn number r.links l e in
    record {
      numbered = numbered;
      count = omega (arith, is.count, length_without number r.links l e, length-append rest (l ∷ []));
      apart = is.apart;
      below = below_more r stores (Message number bytes) links conns is.below;
      found = λ c stands. elim (cases_Bool (eqb number c)) [
        | inl same ↦ (l, subst (λ (d : ℕ). link_of d links ≡ Some l) (eqb-true number c same) (link_behind number rest l (none_left number r.links is.numbered.distinct) conn))
        | inr other ↦
            let link = is.found c stands in
            (link.0, found_append c rest (l ∷ []) link.0 (found_without number c r.links (eqb-false number c other) ∙ link.1))
      ];
      whole = all_append (IsWhole all) rest (l ∷ []) (all_without (IsWhole all) number r.links is.whole) (all_found (IsWhole all) number r.links l is.whole e, tt);
    }

-- ---- lines

abbrev said : ℕ → List ℕ
said stores = 33 ∷ decimal stores

said_shown : (stores : ℕ) → stores ≤ most_stores → AreShown (said stores)
said_shown stores few = (omega arith, decimal_shown stores (omega (arith, few)))

restart_known : (r : Reading) (n : ℕ) → n ≤ most_stores → with_words r (codes "R" ∷ said n ∷ []) ≡ Some (with_restart r n)
unfolding with_words with_event
restart_known r n few = ap (with_entries r (codes "R" ∷ said n ∷ [])) (stores_read n few)

open_known : (r : Reading) (n : ℕ) (kind : Kind) → n ≤ most_stores → with_words r (codes "O" ∷ kind_word kind ∷ said n ∷ []) ≡ Some (with_opened r n kind)
unfolding with_words with_event with_open
open_known r n Rpc few = ap (with_entries r (codes "O" ∷ codes "rpc" ∷ said n ∷ [])) (stores_read n few)
open_known r n Smb few = ap (with_entries r (codes "O" ∷ codes "smb" ∷ said n ∷ [])) (stores_read n few)

end_known : (r : Reading) (n number : ℕ) → n ≤ most_stores → number < 2 ^ 64 → with_words r (codes "E" ∷ decimal number ∷ said n ∷ []) ≡ Some (with_ended r n number)
unfolding with_words with_event with_end
end_known r n number few fits =
    ap (with_entries r (codes "E" ∷ decimal number ∷ said n ∷ [])) (stores_read n few)
    ∙ ap (option_map (λ conn. with_ended r n conn)) (number_read number fits)

no_reply_known : (r : Reading) (n call : ℕ) → n ≤ most_stores → call < 2 ^ 64 → with_words r (codes "C" ∷ decimal call ∷ said n ∷ []) ≡ Some (with_called r n call None)
unfolding with_words with_event with_no_reply
no_reply_known r n call few fits =
    ap (with_entries r (codes "C" ∷ decimal call ∷ said n ∷ [])) (stores_read n few)
    ∙ ap (option_map (λ number. with_called r n number None)) (number_read call fits)

tick_known : (r : Reading) (n moment : ℕ) → n ≤ most_stores → moment < 2 ^ 64 → with_words r (codes "T" ∷ decimal moment ∷ said n ∷ []) ≡ Some (stepped r n (Tick (record { 0 = moment })) r.links)
unfolding with_words with_event with_tick
tick_known r n moment few fits =
    ap (with_entries r (codes "T" ∷ decimal moment ∷ said n ∷ [])) (stores_read n few)
    ∙ ap (option_map (λ number. with_events r n (Tick (record { 0 = number }) ∷ []) r.links)) (number_read moment fits)

reply_known : (r : Reading) (n call : ℕ) (bytes : List ℕ) → n ≤ most_stores → call < 2 ^ 64 → IsBytes bytes → with_words r (codes "C" ∷ decimal call ∷ hex_word bytes ∷ said n ∷ []) ≡ Some (with_called r n call (Some bytes))
unfolding with_words with_event with_reply
reply_known r n call bytes few fits all =
    ap (with_entries r (codes "C" ∷ decimal call ∷ hex_word bytes ∷ said n ∷ [])) (stores_read n few)
    ∙ ap (option_and_then (λ number. option_map (λ reply. with_called r n number (Some reply)) (bytes_of (hex_word bytes)))) (number_read call fits)
    ∙ ap (option_map (λ reply. with_called r n call (Some reply))) (bytes_read bytes all)

piece_known : (r : Reading) (n conn : ℕ) (bytes : List ℕ) → n ≤ most_stores → conn < 2 ^ 64 → IsBytes bytes → with_words r (codes "B" ∷ decimal conn ∷ hex_word bytes ∷ said n ∷ []) ≡ Some (with_piece r n conn bytes)
unfolding with_words with_event with_bytes
piece_known r n conn bytes few fits all =
    ap (with_entries r (codes "B" ∷ decimal conn ∷ hex_word bytes ∷ said n ∷ [])) (stores_read n few)
    ∙ ap (option_and_then (λ number. option_map (λ piece. with_piece r n number piece) (bytes_of (hex_word bytes)))) (number_read conn fits)
    ∙ ap (option_map (λ piece. with_piece r n conn piece)) (bytes_read bytes all)

-- ---- whole frames

bytes_cons : (b : ℕ) (bs : List ℕ) → b < 256 → IsBytes bs → IsBytes (b ∷ bs)
bytes_cons b bs small all zero = small
bytes_cons b bs small all (suc i) = all i

byte_small : (k n : ℕ) → byte_at k n < 256
byte_small zero n = omega arith
byte_small (suc k) n = omega arith

high_bytes : (k n : ℕ) (bs : List ℕ) → IsBytes bs → IsBytes (bytes_high_first k n ++ bs)
high_bytes zero n bs all = all
high_bytes (suc k) n bs all = bytes_cons (byte_at k n) (bytes_high_first k n ++ bs) (byte_small k n) (high_bytes k n bs all)

frame_bytes : (kind : Kind) (bytes : List ℕ) → IsBytes bytes → IsBytes (wrapped kind bytes)
frame_bytes Rpc bytes all = high_bytes 4 (2 ^ 31 + length bytes) bytes all
frame_bytes Smb bytes all = bytes_cons 0 (bytes_high_first 3 (length bytes) ++ bytes) (omega arith) (high_bytes 3 (length bytes) bytes all)

abbrev one_frame : List ℕ → Framed
one_frame bytes = record { frames = bytes ∷ []; rest = []; bad = None }

frame_cut : (kind : Kind) (bytes : List ℕ) → length bytes ≤ most_message_bytes → frames kind (wrapped kind bytes) ≡ one_frame bytes
unfolding frames frames_within
frame_cut kind bytes few = ap (frames kind) (sym (append-nil (wrapped kind bytes))) ∙ wrapped_are_cut kind bytes [] few

whole_frame : (all : List Entry) (number : ℕ) (bytes : List ℕ) (l : Link) → IsWhole all l → l.conn ≡ number → length bytes ≤ most_message_bytes → framed l (wrapped (kind_at all number) bytes) ≡ one_frame bytes
whole_frame all number bytes l is conn few =
    let kind : l.kind ≡ kind_at all number = is.0 ∙ ap (kind_at all) conn in
    ap (λ (rest : List ℕ). frames l.kind (rest ++ wrapped (kind_at all number) bytes)) is.1
    ∙ ap (λ (k : Kind). frames k (wrapped (kind_at all number) bytes)) kind
    ∙ frame_cut (kind_at all number) bytes few

piece_stepped : (all : List Entry) (r : Reading) (n number : ℕ) (bytes : List ℕ) (l : Link) → link_of number r.links ≡ Some l → IsWhole all l → length bytes ≤ most_message_bytes
    → with_piece r n number (wrapped (kind_at all number) bytes) ≡ stepped r n (Message number bytes) (without number r.links ++ l ∷ [])
unfolding with_piece
piece_stepped all r n number bytes l e is few =
    let piece = wrapped (kind_at all number) bytes in
    let rest = without number r.links in
    let conn : l.conn ≡ number = found_conn number r.links l e in
    ap (λ (o : Option Link). with_stream r n rest o piece) e
    ∙ ap (λ (f : Framed). with_frames r n rest l f) (whole_frame all number bytes l is conn few)
    ∙ ap (λ (c : ℕ). stepped r n (Message c bytes) (rest ++ record l { rest = [] } ∷ [])) conn
    ∙ ap (λ (m : List ℕ). stepped r n (Message number bytes) (rest ++ record l { rest = m } ∷ [])) (sym is.1)

ended_stepped : (r : Reading) (n number : ℕ) (l : Link) → link_of number r.links ≡ Some l → with_ended r n number ≡ stepped r n (End number) (without number r.links)
unfolding with_ended
ended_stepped r n number l e =
    ap (λ (o : Option Link). with_last r n (without number r.links) o) e
    ∙ ap (λ (c : ℕ). stepped r n (End c) (without number r.links)) (found_conn number r.links l e)

opened_stepped : (r : Reading) (n : ℕ) (kind : Kind) → with_opened r n kind ≡ stepped r n (Open kind) (with_link r.links (length r.capture.steps) kind)
unfolding with_opened
opened_stepped r n kind = refl

kind_shown : (kind : Kind) → AreShown (kind_word kind)
kind_shown Rpc = (omega arith, (omega arith, (omega arith, tt)))
kind_shown Smb = (omega arith, (omega arith, (omega arith, tt)))

-- ---- entries

-- with this text a step more is known, and these connections are open
record Adds (all : List Entry) (r : Reading) (text : List ℕ) (event : Event) (stores : ℕ) (conns : List ℕ) : Type 0 where
  pub links : List Link
  pub reads : Reads r text (stepped r stores event links)
  pub stands : Stands all conns (stepped r stores event links)

message_text : (kind : Kind) (number : ℕ) (bytes : List ℕ) (n : ℕ) → length bytes ≤ most_message_bytes → line_of (codes "B" ∷ decimal number ∷ hex_word (wrapped kind bytes) ∷ said n ∷ []) ≡ message_line kind number bytes n
unfolding message_line
message_text kind number bytes n few =
    let fits : leb (length bytes) most_message_bytes ≡ true = le-leb _ _ few in
    rw fits (ap (λ (t : List ℕ). 66 ∷ 32 ∷ t) (sym (two_words (decimal number) (hex_word (wrapped kind bytes)) (stores_end n))))

called_read : (r : Reading) (n call : ℕ) (reply : Option (List ℕ)) → n ≤ most_stores → call < 2 ^ 64 → AreReplied reply
    → Reads r ((codes "C " ++ decimal call) ++ answer_words reply ++ stores_end n) (stepped r n (Called call reply) r.links)
unfolding with_called
called_read r n call None few fits all =
    let line = reads_line r (with_called r n call None) 67 (decimal call ∷ said n ∷ []) (omega arith) refl (decimal_shown call fits, (said_shown n few, tt)) (no_reply_known r n call few fits) in
    subst (λ (t : List ℕ). Reads r (67 ∷ 32 ∷ (t ++ stores_end n)) (with_called r n call None)) (sym (append-nil (decimal call))) line
called_read r n call (Some bytes) few fits all =
    let words : List (List ℕ) = decimal call ∷ hex_word bytes ∷ said n ∷ [] in
    let line = reads_line r (with_called r n call (Some bytes)) 67 words (omega arith) refl (decimal_shown call fits, (word_shown bytes all, (said_shown n few, tt))) (reply_known r n call bytes few fits all) in
    subst (λ (t : List ℕ). Reads r (67 ∷ 32 ∷ t) (with_called r n call (Some bytes))) (sym (append_assoc (decimal call) (32 ∷ hex_word bytes) (stores_end n))) line

opening_read : (all : List Entry) (conns : List ℕ) (r : Reading) (kind : Kind) (n : ℕ) → Stands all conns r → kind_at all (length r.capture.steps) ≡ kind → n ≤ most_stores
    → Adds all r (line_of (codes "O" ∷ kind_word kind ∷ said n ∷ [])) (Open kind) n (opened_after conns (length r.capture.steps) (Open kind))
opening_read all conns r kind n is at few =
    let place = length r.capture.steps in
    let room = ltb (length r.links) most_connections in
    let links = with_link r.links place kind in
    let step : with_opened r n kind ≡ stepped r n (Open kind) links = opened_stepped r n kind in
    let line = reads_line r (with_opened r n kind) 79 (kind_word kind ∷ said n ∷ []) (omega arith) refl (kind_shown kind, (said_shown n few, tt)) (open_known r n kind few) in
    let stands = opened_stands all conns r n kind room (sym at) is (subst IsNumbered step (opened_numbered r n kind is.numbered)) in
    record {
      links = links;
      reads = subst (Reads r (line_of (codes "O" ∷ kind_word kind ∷ said n ∷ []))) step line;
      stands = subst (λ (size : ℕ). Stands all (if ltb size most_connections then conns ++ place ∷ [] else conns) (stepped r n (Open kind) links)) (sym is.count) stands;
    }

message_read : (all : List Entry) (conns : List ℕ) (r : Reading) (number : ℕ) (bytes : List ℕ) (n : ℕ) → Stands all conns r → IsSaid conns (Message number bytes) → n ≤ most_stores → length r.capture.steps < 2 ^ 64
    → Adds all r (message_line (kind_at all number) number bytes n) (Message number bytes) n conns
message_read all conns r number bytes n is ok few fits =
    let held = is.found number ok.0 in
    let links = without number r.links ++ held.0 ∷ [] in
    let piece = wrapped (kind_at all number) bytes in
    let all_bytes = frame_bytes (kind_at all number) bytes ok.2 in
    let number_fits : number < 2 ^ 64 = omega (arith, fits, all_in (λ c. c < length r.capture.steps) number conns is.below ok.0) in
    let whole = all_found (IsWhole all) number r.links held.0 is.whole held.1 in
    let step = piece_stepped all r n number bytes held.0 held.1 whole ok.1 in
    let words : List (List ℕ) = decimal number ∷ hex_word piece ∷ said n ∷ [] in
    let shown : AreWords words = (decimal_shown number number_fits, (word_shown piece all_bytes, (said_shown n few, tt))) in
    let line = reads_line r (with_piece r n number piece) 66 words (omega arith) refl shown (piece_known r n number piece few number_fits all_bytes) in
    let text = subst (λ (t : List ℕ). Reads r t (with_piece r n number piece)) (message_text (kind_at all number) number bytes n ok.1) line in
    record {
      links = links;
      reads = subst (Reads r (message_line (kind_at all number) number bytes n)) step text;
      stands = moved_stands all conns r n number bytes held.0 is held.1 (subst IsNumbered step (piece_numbered r n number piece is.numbered));
    }

ending_read : (all : List Entry) (conns : List ℕ) (r : Reading) (number n : ℕ) → Stands all conns r → IsIn number conns → n ≤ most_stores → length r.capture.steps < 2 ^ 64
    → Adds all r (line_of (codes "E" ∷ decimal number ∷ said n ∷ [])) (End number) n (opened_after conns (length r.capture.steps) (End number))
ending_read all conns r number n is among few fits =
    let held = is.found number among in
    let number_fits : number < 2 ^ 64 = omega (arith, fits, all_in (λ c. c < length r.capture.steps) number conns is.below among) in
    let step = ended_stepped r n number held.0 held.1 in
    let line = reads_line r (with_ended r n number) 69 (decimal number ∷ said n ∷ []) (omega arith) refl (decimal_shown number number_fits, (said_shown n few, tt)) (end_known r n number few number_fits) in
    record {
      links = without number r.links;
      reads = subst (Reads r (line_of (codes "E" ∷ decimal number ∷ said n ∷ []))) step line;
      stands = ended_stands all conns r n number held.0 is among held.1 (subst IsNumbered step (ended_numbered r n number is.numbered));
    }

entry_read : (all : List Entry) (conns : List ℕ) (r : Reading) (event : Event) (n : ℕ) → Stands all conns r → kind_at all (length r.capture.steps) ≡ opened_by event → IsSaid conns event → n ≤ most_stores → length r.capture.steps < 2 ^ 64
    → Adds all r (event_line all event n) event n (opened_after conns (length r.capture.steps) event)
unfolding event_line
entry_read all conns r (Open kind) n is at ok few fits = opening_read all conns r kind n is at few
entry_read all conns r (Message number bytes) n is at ok few fits = message_read all conns r number bytes n is ok few fits
entry_read all conns r (End number) n is at ok few fits = ending_read all conns r number n is ok few fits
entry_read all conns r (Called call reply) n is at ok few fits = record {
  links = r.links;
  reads = called_read r n call reply few ok.0 ok.1;
  stands = same_stands all conns r n (Called call reply) is;
}
entry_read all conns r (Tick moment) n is at ok few fits = record {
  links = r.links;
  reads = reads_line r (stepped r n (Tick moment) r.links) 84 (decimal moment.0 ∷ said n ∷ []) (omega arith) refl (decimal_shown moment.0 ok, (said_shown n few, tt)) (tick_known r n moment.0 few ok);
  stands = same_stands all conns r n (Tick moment) is;
}
entry_read all conns r Restart n is at ok few fits = record {
  links = [];
  reads = reads_line r (with_restart r n) 82 (said n ∷ []) (omega arith) refl (said_shown n few, tt) (restart_known r n few);
  stands = none_stands all r n;
}

-- the entry at its place
at_place : (done : List Entry) (e : Entry) (es : List Entry) → slice_get (done ++ e ∷ es) (length done) ≡ Some e
at_place [] e es = refl
at_place (d ∷ done) e es = at_place done e es

abbrev with_steps : Capture → List Step → Capture
with_steps c steps = record c { steps = c.steps ++ steps }

-- what is known behind all lines
pub record Ends (r : Reading) (text : List ℕ) (c : Capture) : Type 0 where
  pub known : Reading
  pub reads : Reads r text known
  pub same : known.capture ≡ c

pub entries_read : (done es : List Entry) (conns : List ℕ) (r : Reading) → Stands (done ++ es) conns r → length done ≡ length r.capture.steps → AreSaid conns (length r.capture.steps) es → length (done ++ es) < 2 ^ 64
    → Ends r (event_lines (done ++ es) es) (with_steps r.capture (map step_of es))
entries_read done [] conns r is place ok fits = record {
  known = r;
  reads = reads_none r;
  same = ap (λ (steps : List Step). record r.capture { steps = steps }) (sym (append-nil r.capture.steps));
}
entries_read done (e ∷ es) conns r is place ok fits =
    let all = done ++ e ∷ es in
    let below : length r.capture.steps < 2 ^ 64 = omega (arith, place, fits, length-append done (e ∷ es)) in
    let at : kind_at all (length r.capture.steps) ≡ opened_by e.event = ap (kind_at all) (sym place) ∙ ap opened_in (at_place done e es) in
    let added = entry_read all conns r e.event e.stores is at ok.0 ok.1 below in
    let s = stepped r e.stores e.event added.links in
    let next = opened_after conns (length r.capture.steps) e.event in
    let seam : (done ++ e ∷ []) ++ es ≡ all = append_assoc done (e ∷ []) es in
    let length_next : length s.capture.steps ≡ length r.capture.steps + 1 = length_stepped r e.stores e.event added.links in
    let rest = entries_read (done ++ e ∷ []) es next s
    (subst (λ (every : List Entry). Stands every next s) (sym seam) added.stands)
    (omega (arith, place, length_next, length-append done (e ∷ [])))
    (subst (λ (m : ℕ). AreSaid next m es) (sym length_next) ok.2)
    (subst (λ (every : List Entry). length every < 2 ^ 64) (sym seam) fits) in
    record {
      known = rest.known;
      reads = reads_both r s rest.known (event_line all e.event e.stores) (event_lines all es) added.reads (subst (λ (every : List Entry). Reads s (event_lines every es) rest.known) seam rest.reads);
      same = ◌∙◌ {a = rest.known.capture} rest.same (ap (λ (steps : List Step). record r.capture { steps = steps }) (append_assoc r.capture.steps (step_of e ∷ []) (map step_of es)));
    }

pub none_open : (all : List Entry) (e : Exports) (epoch : ℕ) (names : List Recorded) → Stands all [] (with_names e epoch names)
none_open all e epoch names = record {
  numbered = record { places = tt; distinct = tt };
  count = refl;
  apart = tt;
  below = tt;
  found = λ c none. absurd none;
  whole = tt;
}
