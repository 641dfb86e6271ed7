-- What a map of leases holds once one is put in, the order of id strings, and which leases have ended.
use Rattle.std.proofs.Common.{◌≡◌, ℕ, Bool, true, false, not, ◌&&◌, if◌then◌else◌, inl, inr, List, [], ◌∷◌, ◌++◌, map, refl, sym, ap, ◌∙◌}
use Rattle.std.specs.List.{filter}
use Rattle.std.proofs.lemmas.Bool.{cases_Bool, both_ways, and_parts}
use Rattle.std.proofs.lemmas.List.{append_assoc}
use Rattle.std.specs.Prelude.{bytes_eq}
use Rattle.std.specs.Cmp.Lexicographic.{bytes_decides}
use Rattle.xl_base.specs.Lists.{IsIn, sorted}
use Rattle.xl_base.proofs.SortLaws.{in_sorted, in_sorted_from, sorted_filter}
use Rattle.std.specs.Cmp.{IsStrictWeakOrder}
use Rattle.std.proofs.lemmas.Cmp.{nat_list_cmp_total}
use Rattle.std.proofs.lemmas.List.MinMax.{ranks_by}
use Rattle.indexmap.specs.IndexMap.{insert_entry}
use Rattle.xl_base.specs.declared.event.Moment.{Moment}
use Rattle.xl_core.specs.Leases.{Lease, with_lease, without_lease, has_ended, with_ended, comes_before, ended, is_ended}
use Rattle.xl_core.proofs.InTurnLaws.{filter_turned}

entries_with : (client : List ℕ) (until : Moment) (ls : List Lease) → insert_entry bytes_eq ls client until ≡ with_lease client until ls
unfolding with_lease
entries_with client until [] = refl
entries_with client until (l ∷ ls) = ap (λ (rest : List Lease). if bytes_eq client l.0 then (l.0, until) ∷ ls else l ∷ rest) (entries_with client until ls)

pub lease_put : (client : List ℕ) (until : Moment) (new old : List Lease) → new ≡ insert_entry bytes_eq old client until → new ≡ with_lease client until old
lease_put client until new old e = e ∙ entries_with client until old

pub ids_ranked : IsStrictWeakOrder comes_before
ids_ranked = ranks_by nat_list_cmp_total (λ (id : List ℕ). id)

-- of the leases one is looked at more
pub one_more : (now : Moment) (e : Lease) (es : List Lease) (ids all new : List (List ℕ)) → ids ++ map (λ l. l.0) (filter (has_ended now) (e ∷ es)) ≡ all → new ≡ with_ended now e ids → new ++ map (λ l. l.0) (filter (has_ended now) es) ≡ all
one_more now e es ids all new before is = ap (λ (xs : List (List ℕ)). xs ++ map (λ l. l.0) (filter (has_ended now) es)) is ∙ by ∙ before where
  by : with_ended now e ids ++ map (λ l. l.0) (filter (has_ended now) es) ≡ ids ++ map (λ l. l.0) (filter (has_ended now) (e ∷ es))
  by =
      elim (cases_Bool (has_ended now e)) [
        | inl over ↦ rw over (append_assoc ids (e.0 ∷ []) (map (λ l. l.0) (filter (has_ended now) es)))
        | inr runs ↦ rw runs refl
      ]

-- ---- leases that have ended

map_where : (q : List ℕ → Bool) (ls : List Lease) → map (λ l. l.0) (filter (λ l. q l.0) ls) ≡ filter q (map (λ l. l.0) ls)
map_where q [] = refl
map_where q (l ∷ ls) = elim (cases_Bool (q l.0)) [ inl e ↦ rw e (ap (λ (ids : List (List ℕ)). l.0 ∷ ids) (map_where q ls)) | inr e ↦ rw e (map_where q ls) ]

-- once the client's lease is taken out the others are left
pub ended_without : (now : Moment) (client : List ℕ) (ls : List Lease) → ended now (without_lease client ls) ≡ filter (λ id. not (bytes_eq client id)) (ended now ls)
unfolding ended without_lease
ended_without now client ls =
    ap (λ (xs : List Lease). sorted comes_before (map (λ l. l.0) xs)) (filter_turned (has_ended now) (λ l. not (bytes_eq client l.0)) ls)
    ∙ ap (λ (ids : List (List ℕ)). sorted comes_before ids) (map_where (λ id. not (bytes_eq client id)) (filter (has_ended now) ls))
    ∙ sorted_filter ids_ranked (λ id. not (bytes_eq client id)) (map (λ l. l.0) (filter (has_ended now) ls))

and_false : (b : Bool) → (b && false) ≡ false
and_false true = refl
and_false false = refl

pub is_ended_without : (now : Moment) (client id : List ℕ) (ls : List Lease) → is_ended now (without_lease client ls) id ≡ (is_ended now ls id && not (bytes_eq client id))
unfolding is_ended without_lease
is_ended_without now client id [] = refl
is_ended_without now client id (l ∷ ls) =
    let rest = is_ended_without now client id ls in
    elim (cases_Bool (bytes_eq client l.0)) [
      | inl gone ↦ elim (cases_Bool (has_ended now l && bytes_eq id l.0)) [
        | inr none ↦ rw (gone, none) rest
        | inl one ↦
            let same : client ≡ id = (bytes_decides client l.0).0 gone ∙ sym ((bytes_decides id l.0).0 (and_parts (has_ended now l) (bytes_eq id l.0) one).1) in
            let out : not (bytes_eq client id) ≡ false = ap not ((bytes_decides client id).1 same) in
            rw (gone, one, out) (rest ∙ ap (λ (b : Bool). is_ended now ls id && b) out ∙ and_false (is_ended now ls id))
      ]
      | inr stays ↦ elim (cases_Bool (has_ended now l && bytes_eq id l.0)) [
        | inr none ↦ rw (stays, none) rest
        | inl one ↦
            let same : id ≡ l.0 = (bytes_decides id l.0).0 (and_parts (has_ended now l) (bytes_eq id l.0) one).1 in
            let on : not (bytes_eq client id) ≡ true = ap not (ap (bytes_eq client) same ∙ stays) in
            rw (stays, one, on) refl
      ]
    ]

-- whoever is told apart by the test is among them, and the other way round
id_found : (now : Moment) (ls : List Lease) (id : List ℕ) → IsIn id (map (λ l. l.0) (filter (has_ended now) ls)) → is_ended now ls id ≡ true
unfolding is_ended
id_found now [] id here = absurd here
id_found now (l ∷ ls) id here =
    elim (cases_Bool (has_ended now l)) [
      | inr runs ↦ rw runs (id_found now ls id (rw runs at here))
      | inl over ↦ elim (rw over at here) [
        | inl e ↦ let same : bytes_eq id l.0 ≡ true = (bytes_decides id l.0).1 (sym e) in rw (over, same) refl
        | inr later ↦ elim (cases_Bool (bytes_eq id l.0)) [ inl same ↦ rw (over, same) refl | inr other ↦ rw (over, other) (id_found now ls id later) ]
      ]
    ]

pub ended_found : (now : Moment) (ls : List Lease) (id : List ℕ) → IsIn id (ended now ls) → is_ended now ls id ≡ true
unfolding ended
ended_found now ls id here = id_found now ls id (in_sorted_from comes_before id (map (λ l. l.0) (filter (has_ended now) ls)) here)

id_there : (now : Moment) (ls : List Lease) (id : List ℕ) → is_ended now ls id ≡ true → IsIn id (map (λ l. l.0) (filter (has_ended now) ls))
unfolding is_ended
id_there now [] id found = absurd (both_ways false refl found)
id_there now (l ∷ ls) id found =
    elim (cases_Bool (has_ended now l)) [
      | inr runs ↦ rw runs (id_there now ls id (rw runs at found))
      | inl over ↦ elim (cases_Bool (bytes_eq id l.0)) [
        | inl same ↦ rw over (inl (sym ((bytes_decides id l.0).0 same)))
        | inr other ↦ rw over (inr (id_there now ls id (rw (over, other) at found)))
      ]
    ]

pub ended_here : (now : Moment) (ls : List Lease) (id : List ℕ) → is_ended now ls id ≡ true → IsIn id (ended now ls)
unfolding ended
ended_here now ls id found = in_sorted comes_before id (map (λ l. l.0) (filter (has_ended now) ls)) (id_there now ls id found)
