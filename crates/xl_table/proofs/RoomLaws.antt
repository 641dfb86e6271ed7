-- An unlock leaves more claims than there were only where it cuts a range in two.
use Rattle.std.proofs.Common.{◌≡◌, ℕ, ◌+◌, ◌<◌, ◌≤◌, true, false, nat_lt, if◌then◌else◌, List, [], ◌∷◌, ◌++◌, length, map, None, inl, inr, refl, ap, ◌∙◌, arith}
use Rattle.std.specs.List.{AllByRecursion, filter, filter_map, list_any}
use Rattle.std.proofs.lemmas.Bool.{cases_Bool, both_ways, not-true, or_parts, true_from_ne_false}
use Rattle.std.proofs.lemmas.List.{length-append}
use Rattle.xl_base.specs.declared.name.Owner.{Owner}
use Rattle.xl_base.specs.declared.name.Party.{Party}
use Rattle.xl_matrix.specs.declared.claim.Claim.{Claim}
use Rattle.xl_matrix.specs.declared.claim.Extent.TheVariants.{Bytes, Empty}
use Rattle.xl_matrix.specs.declared.claim.What.{What}
use Rattle.xl_matrix.specs.declared.claim.What.TheVariants.{Share, Range, Cache}
use Rattle.xl_matrix.specs.Owners.{posix}
use Rattle.xl_spans.specs.Spans.{part_before, part_past, joins, joined, runs, relocked}
use Rattle.xl_spans.specs.declared.span.Span.{Span}
use Rattle.xl_table.specs.Held.{is_of, is_range, is_real_by, is_real, with_span, spans_of, IsSound}
use Rattle.xl_table.specs.Relock.{range_claim, is_range_of, unranged, relocked_in, is_cut}
use Rattle.xl_table.proofs.WriteBack.{is_of-true, relocked_is, length_all_inserted, length_new, length_split}

joined_shorter : (s : Span) (ss : List Span) → length (joined s ss) ≤ length ss + 1
joined_shorter s [] = omega arith
joined_shorter s (t ∷ ts) = elim (cases_Bool (joins s t)) [ inl h ↦ rw h (omega arith) | inr h ↦ rw h (omega arith) ]

runs_shorter : (ss : List Span) → length (runs ss) ≤ length ss
runs_shorter [] = omega arith
runs_shorter (s ∷ ss) = omega (arith, joined_shorter s (runs ss), runs_shorter ss)

-- a span that is not cut leaves a part on one side at most
parts_left : (first last : ℕ) (ss : List Span) → list_any (is_cut first last) ss ≡ false → length (filter_map (part_before first) ss) + length (filter_map (part_past last) ss) ≤ length ss
parts_left first last [] none = omega arith
parts_left first last (s ∷ ss) none =
    let apart = or_parts (is_cut first last s) (list_any (is_cut first last) ss) none in
    let rest = parts_left first last ss apart.1 in
    elim (cases_Bool (nat_lt s.first first)) [
      | inr here ↦ elim (cases_Bool (nat_lt last s.last)) [
        | inl past ↦ rw (here, past) (omega (arith, rest))
        | inr gone ↦ rw (here, gone) (omega (arith, rest))
      ]
      | inl before ↦ elim (cases_Bool (nat_lt last s.last)) [
        | inl past ↦ let both : true ≡ false = rw (before, past) at apart.0 in absurd (both_ways true both refl)
        | inr gone ↦ rw (before, gone) (omega (arith, rest))
      ]
    ]

unlocked_shorter : (first last : ℕ) (ss : List Span) → list_any (is_cut first last) ss ≡ false → length (relocked ss first last None) ≤ length ss
unfolding relocked
unlocked_shorter first last ss none =
    omega (
      arith,
      runs_shorter (filter_map (part_before first) ss ++ filter_map (part_past last) ss),
      length-append (filter_map (part_before first) ss) (filter_map (part_past last) ss),
      parts_left first last ss none,
    )

-- each range of a POSIX owner is a span
length_ranges : (file : ℕ) (owner : Owner) (cs : List Claim) → posix owner ≡ true → AllByRecursion (λ c. is_real c ≡ true) cs → length (filter (is_range_of file owner) cs) ≡ length (spans_of file owner cs)
length_ranges file owner [] p real = refl
length_ranges file owner (c ∷ cs) p real =
    let rest = length_ranges file owner cs p real.1 in
    elim (cases_Bool (is_of file owner c)) [
      | inr apart ↦ rw apart rest
      | inl own ↦ rw own (by c.what (ap (λ (o : Owner). posix o) (is_of-true file owner c own).1 ∙ p) real.0 rest)
    ]
  where
    by : (w : What) → posix c.owner ≡ true → is_real_by c.owner w ≡ true → length (filter (is_range_of file owner) cs) ≡ length (spans_of file owner cs)
        → length (if is_range w then c ∷ filter (is_range_of file owner) cs else filter (is_range_of file owner) cs) ≡ length (with_span w (spans_of file owner cs))
    by (Share access deny) p real rest = rest
    by (Cache kind running) p real rest = rest
    by (Range (Empty offset) exclusive) p real rest = absurd (both_ways (posix c.owner) (not-true (posix c.owner) real) p)
    by (Range (Bytes first last) exclusive) p real rest = omega (arith, rest)

pub unlock_grows : (file : ℕ) (owner : Owner) (party : Party) (first last : ℕ) (held : List Claim) → IsSound held → posix owner ≡ true → length held < length (relocked_in file owner party first last None held) → list_any (is_cut first last) (spans_of file owner held) ≡ true
unfolding unranged
unlock_grows file owner party first last held sound p more =
    true_from_ne_false (list_any (is_cut first last) (spans_of file owner held)) (λ none. impossible none)
  where
    impossible : list_any (is_cut first last) (spans_of file owner held) ≡ false → ⊥
    impossible none =
        omega (
          arith,
          more,
          ap (λ (ds : List Claim). length ds) (relocked_is file owner party first last None held),
          length_all_inserted (map (range_claim file owner party) (relocked (spans_of file owner held) first last None)) (unranged file owner held),
          length_new file owner party (relocked (spans_of file owner held) first last None),
          unlocked_shorter first last (spans_of file owner held) none,
          length_ranges file owner held p sound.real,
          length_split (is_range_of file owner) held,
        )
