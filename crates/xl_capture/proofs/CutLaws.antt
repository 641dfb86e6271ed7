-- A connection's bytes come to the same wherever its lines cut them.
use Rattle.std.proofs.Common.{◌≡◌, inl, inr, ℕ, true, eqb, List, [], ◌∷◌, ◌++◌, map, Option, Some, None, IfSome, refl, sym, ap, ◌∙◌, append_assoc}
use Rattle.std.specs.Option.{option_to_list}
use Rattle.std.proofs.lemmas.Bool.{cases_Bool, eqb-true, eq-eqb}
use Rattle.std.proofs.lemmas.List.{append-nil, map-append}
use Rattle.xl_base.specs.declared.event.Event.{Event}
use Rattle.xl_base.specs.declared.event.Event.TheVariants.{Message, End}
use Rattle.xl_frame.specs.Cutting.{then_piece}
use Rattle.xl_frame.specs.Frames.{Framed, frames}
use Rattle.xl_frame.specs.declared.fault.FrameBad.{FrameBad}
use Rattle.xl_frame.proofs.StreamLaws.{cut_anywhere}
use Rattle.xl_capture.specs.Capture.{steps_of, with_events, with_frames, with_stream, with_piece}
use Rattle.xl_capture.specs.Links.{Link, link_of, without, framed, end_of, events_of, still_open}
use Rattle.xl_capture.specs.declared.capture.Reading.{Reading}
use Rattle.xl_capture.specs.declared.step.Step.{Step}

some_link : (a b : Link) → Some a ≡ Some b → a ≡ b
some_link a b e = cc

-- what has no connection of the number is as it is without it
none_without : (conn : ℕ) (ls : List Link) → link_of conn ls ≡ None → without conn ls ≡ ls
none_without conn [] e = refl
none_without conn (l ∷ ls) e =
    elim (cases_Bool (eqb l.conn conn)) [
      | inl same ↦ let none : Some l ≡ None = rw same at e in absurd cc
      | inr other ↦ let rest : link_of conn ls ≡ None = rw other at e in rw other (ap (λ (ms : List Link). l ∷ ms) (none_without conn ls rest))
    ]

-- behind others without it stands a connection of the number
pub link_behind : (conn : ℕ) (others : List Link) (l : Link) → link_of conn others ≡ None → l.conn ≡ conn → link_of conn (others ++ l ∷ []) ≡ Some l
link_behind conn [] l none is = rw (eq-eqb l.conn conn is) refl
link_behind conn (o ∷ os) l none is =
    elim (cases_Bool (eqb o.conn conn)) [
      | inl same ↦ let no : Some o ≡ None = rw same at none in absurd cc
      | inr other ↦ let rest : link_of conn os ≡ None = rw other at none in rw other (link_behind conn os l rest is)
    ]

without_behind : (conn : ℕ) (others : List Link) (l : Link) → link_of conn others ≡ None → l.conn ≡ conn → without conn (others ++ l ∷ []) ≡ others
without_behind conn [] l none is = rw (eq-eqb l.conn conn is) refl
without_behind conn (o ∷ os) l none is =
    elim (cases_Bool (eqb o.conn conn)) [
      | inl same ↦ let no : Some o ≡ None = rw same at none in absurd cc
      | inr other ↦ let rest : link_of conn os ≡ None = rw other at none in rw other (ap (λ (ms : List Link). o ∷ ms) (without_behind conn os l rest is))
    ]

-- the connection that is found has the number
pub found_conn : (conn : ℕ) (ls : List Link) (l : Link) → link_of conn ls ≡ Some l → l.conn ≡ conn
found_conn conn [] l e = absurd cc
found_conn conn (m ∷ ms) l e =
    elim (cases_Bool (eqb m.conn conn)) [
      | inl same ↦ let one : m ≡ l = some_link m l (rw same at e) in ap (λ (k : Link). k.conn) (sym one) ∙ eqb-true _ _ same
      | inr other ↦ let rest : link_of conn ms ≡ Some l = rw other at e in found_conn conn ms l rest
    ]

abbrev cut_as : List (List ℕ) → List ℕ → Option FrameBad → Framed
cut_as messages rest bad = record { frames = messages; rest = rest; bad = bad }

abbrev reading_with : Reading → List Link → List Step → Reading
reading_with r links steps = record r { capture = record r.capture { steps = steps }; links = links; begun = true }

-- two event lines
events_twice : (r : Reading) (n : ℕ) (events more : List Event) (links last : List Link) → with_events (with_events r n events links) n more last ≡ with_events r n (events ++ more) last
events_twice r n events more links last =
    ap (reading_with r last) (append_assoc r.capture.steps (steps_of n events) (steps_of n more) ∙ ap (λ (ss : List Step). r.capture.steps ++ ss) (sym (map-append (λ event. record { event = event; stores = n }) events more)))

-- what messages and what stands behind them come to
events_join : (conn : ℕ) (messages others : List (List ℕ)) (ends : List Event) → (map (Message conn) messages ++ []) ++ (map (Message conn) others ++ ends) ≡ map (Message conn) (messages ++ others) ++ ends
events_join conn messages others ends =
    ap (λ (es : List Event). es ++ (map (Message conn) others ++ ends)) (append-nil (map (Message conn) messages))
    ∙ sym (append_assoc (map (Message conn) messages) (map (Message conn) others) ends)
    ∙ ap (λ (es : List Event). es ++ ends) (sym (map-append (Message conn) messages others))

more_frames : (r : Reading) (n : ℕ) (others : List Link) (l : Link) (messages : List (List ℕ)) (rest : List ℕ) (bad : Option FrameBad) (more : List ℕ) → link_of l.conn others ≡ None
    → with_piece (with_frames r n others l (cut_as messages rest bad)) n l.conn more ≡ with_frames r n others l (then_piece l.kind (cut_as messages rest bad) more)
unfolding with_piece then_piece
more_frames r n others l messages rest None more none =
    let conn = l.conn in
    let cut : Link = record l { rest = rest } in
    let r1 = with_frames r n others l (cut_as messages rest None) in
    let f = frames l.kind (rest ++ more) in
    ap (λ (o : Option Link). with_stream r1 n (without conn (others ++ cut ∷ [])) o more) (link_behind conn others cut none refl)
    ∙ ap (λ (ls : List Link). with_frames r1 n ls cut f) (without_behind conn others cut none refl)
    ∙ events_twice r n (map (Message conn) messages ++ []) (events_of conn f) (others ++ cut ∷ []) (others ++ option_to_list (still_open l f))
    ∙ ap (λ (es : List Event). with_events r n es (others ++ option_to_list (still_open l f))) (events_join conn messages f.frames (end_of conn f.bad))
more_frames r n others l messages rest (Some fault) more none =
    let conn = l.conn in
    let r1 = with_frames r n others l (cut_as messages rest (Some fault)) in
    let all : List Event = map (Message conn) messages ++ End conn ∷ [] in
    ap (λ (ls : List Link). with_stream r1 n (without conn ls) (link_of conn ls) more) (append-nil others)
    ∙ ap (λ (o : Option Link). with_stream r1 n (without conn others) o more) none
    ∙ ap (λ (ls : List Link). with_events r1 n [] ls) (none_without conn others none ∙ sym (append-nil others))
    ∙ events_twice r n all [] (others ++ []) (others ++ [])
    ∙ ap (λ (es : List Event). with_events r n es (others ++ [])) (append-nil all)

stream_joins : (r : Reading) (n : ℕ) (others : List Link) (o : Option Link) (conn : ℕ) (bytes more : List ℕ) → link_of conn others ≡ None → IfSome o (λ l. l.conn ≡ conn)
    → with_piece (with_stream r n others o bytes) n conn more ≡ with_stream r n others o (bytes ++ more)
unfolding with_piece
stream_joins r n others None conn bytes more none is =
    ap (λ (o : Option Link). with_stream (with_events r n [] others) n (without conn others) o more) none
    ∙ events_twice r n [] [] others (without conn others)
    ∙ ap (λ (ls : List Link). with_events r n [] ls) (none_without conn others none)
stream_joins r n others (Some l) conn bytes more none is =
    let f = framed l bytes in
    let here : link_of l.conn others ≡ None = ap (λ (n : ℕ). link_of n others) is ∙ none in
    let joined : then_piece l.kind f more ≡ framed l (bytes ++ more) = sym (cut_anywhere l.kind (l.rest ++ bytes) more) ∙ ap (frames l.kind) (append_assoc l.rest bytes more) in
    ap (λ (c : ℕ). with_piece (with_frames r n others l f) n c more) (sym is)
    ∙ more_frames r n others l f.frames f.rest f.bad more here
    ∙ ap (with_frames r n others l) joined

found : (conn : ℕ) (ls : List Link) (o : Option Link) → link_of conn ls ≡ o → IfSome o (λ l. l.conn ≡ conn)
found conn ls None e = tt
found conn ls (Some l) e = found_conn conn ls l e

-- two pieces of a connection's stream come to the same as both at once
pub pieces_join : (r : Reading) (n conn : ℕ) (bytes more : List ℕ) → link_of conn (without conn r.links) ≡ None → with_piece (with_piece r n conn bytes) n conn more ≡ with_piece r n conn (bytes ++ more)
unfolding with_piece
pieces_join r n conn bytes more none = stream_joins r n (without conn r.links) (link_of conn r.links) conn bytes more none (found conn r.links (link_of conn r.links) refl)
