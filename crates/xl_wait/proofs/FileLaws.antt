-- The queues of the files on which some wait, as one comes and as one leaves.
use Rattle.std.proofs.Common.{◌≡◌, ◌≢◌, ℕ, zero, suc, ◌+◌, ◌-◌, ◌<◌, ◌≤◌, ◌==◌, ◌||◌, Bool, true, false, nat_lt, List, [], ◌∷◌, ◌++◌, map, take, drop, Option, Some, None, is_some, slice_get, length, get_or, set, refl, sym, ap, subst, ◌∙◌, inl, inr, arith}
use Rattle.std.proofs.lemmas.Bool.{cases_Bool, both_ways, eq-eqb}
use Rattle.std.proofs.lemmas.Bool.Decides.{nat_tests}
use Rattle.std.proofs.lemmas.List.{map-append, take-map, drop-map}
use Rattle.std.proofs.lemmas.Map.Made.{lookup-map_values}
use Rattle.std.specs.BTreeMap.{BTreeMap, get}
use Rattle.std.specs.List.{list_any, remove}
use Rattle.std.specs.Map.{lookup}
use Rattle.std.specs.Option.{option_map, unwrap_or}
use Rattle.std.specs.Ordering.{is_eq, nat_cmp}
use Rattle.xl_wait.specs.Waiting.{first_file, files_of, is_file, waits_on, waiting_on, places_from, places_in, nearer, closed_up, one_more, passed, NoneEmpty, AreQueued}
use Rattle.xl_wait.specs.declared.waiter.Waiter.{Waiter}

files_entered : (ws : List Waiter) (w : Waiter) → files_of (ws ++ w ∷ []) ≡ files_of ws ++ first_file w.asked ∷ []
files_entered ws w = map-append (λ (v : Waiter). first_file v.asked) ws (w ∷ [])

files_left : (ws : List Waiter) (i : ℕ) → files_of (remove ws i) ≡ remove (files_of ws) i
files_left ws i =
    let file : Waiter → Option ℕ = λ w. first_file w.asked in
    map-append file (take i ws) (drop (suc i) ws) ∙ (λ j. sym (take-map file i ws) j ++ sym (drop-map file (suc i) ws) j)

as_many : (ws : List Waiter) → length (files_of ws) ≡ length ws
as_many [] = refl
as_many (w ∷ ws) = omega (arith, as_many ws)

-- someone waits on a file exactly where its queue has a place
positive : (k : ℕ) → nat_lt 0 (suc k) ≡ true
positive k = grind (arith, nat_tests)

some_from : (n file : ℕ) (fs : List (Option ℕ)) → nat_lt 0 (length (places_from n file fs)) ≡ list_any (is_file file) fs
some_from n file [] = refl
some_from n file (f ∷ fs) =
    elim (cases_Bool (is_file file f)) [
      | inl e ↦ rw e (positive (length (places_from (n + 1) file fs)))
      | inr e ↦ rw e (some_from (n + 1) file fs)
    ]

no_places : (ps : List ℕ) → nat_lt 0 (length ps) ≡ false → ps ≡ []
no_places [] none = refl
no_places (p ∷ ps) none = absurd (both_ways (nat_lt 0 (suc (length ps))) none (positive (length ps)))

-- ---- one comes

come_from : (n file : ℕ) (fs : List (Option ℕ)) (own : Option ℕ) → places_from n file (fs ++ own ∷ []) ≡ places_from n file fs ++ one_more file own (n + length fs)
come_from n file [] own =
    elim (cases_Bool (is_file file own)) [
      | inl e ↦ rw e (ap (λ (k : ℕ). k ∷ []) (omega arith))
      | inr e ↦ rw e refl
    ]
come_from n file (f ∷ fs) own =
    let behind : places_from (n + 1) file (fs ++ own ∷ []) ≡ places_from (n + 1) file fs ++ one_more file own (n + length (f ∷ fs)) =
    come_from (n + 1) file fs own ∙ ap (λ (k : ℕ). places_from (n + 1) file fs ++ one_more file own k) (omega arith) in
    elim (cases_Bool (is_file file f)) [
      | inl e ↦ rw e (ap (λ (ps : List ℕ). n ∷ ps) behind)
      | inr e ↦ rw e behind
    ]

pub queued_in : (first : ℕ) (old new : BTreeMap ℕ (List ℕ)) (ws vs : List Waiter) (w : Waiter) (place : ℕ) → AreQueued first old (files_of ws) → place ≡ first + length ws → ((file : ℕ) → places_in new file ≡ places_in old file ++ one_more file (first_file w.asked) place) → (NoneEmpty old → NoneEmpty new) → vs ≡ ws ++ w ∷ [] → AreQueued first new (files_of vs)
queued_in first old new ws vs w place queued at more filled is = (places, filled queued.1)
  where
    here : place ≡ first + length (files_of ws)
    here = omega (arith, at, as_many ws)

    places : (file : ℕ) → places_in new file ≡ places_from first file (files_of vs)
    places file =
        more file
        ∙ (λ i. queued.0 file i ++ one_more file (first_file w.asked) (here i))
        ∙ sym (come_from first file (files_of ws) (first_file w.asked))
        ∙ ap (λ (fs : List (Option ℕ)). places_from first file fs) (sym (files_entered ws w) ∙ ap files_of (sym is))

-- after an error they stand as they stood
pub queued_still : (first : ℕ) (old new : BTreeMap ℕ (List ℕ)) (ws : List Waiter) → AreQueued first old (files_of ws) → ((file : ℕ) → places_in new file ≡ places_in old file) → (NoneEmpty old → NoneEmpty new) → AreQueued first new (files_of ws)
queued_still first old new ws queued stay filled = ((λ file. stay file ∙ queued.0 file), filled queued.1)

-- ---- one leaves

-- all of these stand behind the place
far_first : (at n : ℕ) → at < n → (n == at) ≡ false
far_first at n h = grind (arith, nat_tests)

near_first : (at n : ℕ) → n < at → (n == at) ≡ false
near_first at n h = grind (arith, nat_tests)

nearer_far : (at n : ℕ) → at < n + 1 → nearer at (n + 1) ≡ n
nearer_far at n h = grind (arith, nat_tests)

nearer_near : (at n : ℕ) → n < at → nearer at n ≡ n
nearer_near at n h = grind (arith, nat_tests)

-- a queue by its first
closed_far : (at n : ℕ) (ps : List ℕ) → at < n + 1 → closed_up at ((n + 1) ∷ ps) ≡ n ∷ closed_up at ps
closed_far at n ps h = rw (far_first at (n + 1) h) (ap (λ (k : ℕ). k ∷ closed_up at ps) (nearer_far at n h))

closed_near : (at n : ℕ) (ps : List ℕ) → n < at → closed_up at (n ∷ ps) ≡ n ∷ closed_up at ps
closed_near at n ps h = rw (near_first at n h) (ap (λ (k : ℕ). k ∷ closed_up at ps) (nearer_near at n h))

closed_here : (at : ℕ) (ps : List ℕ) → closed_up at (at ∷ ps) ≡ closed_up at ps
closed_here at ps = rw (eq-eqb at at refl) refl

-- those behind the place that is left come one nearer
all_nearer : (at n file : ℕ) (fs : List (Option ℕ)) → at < n + 1 → closed_up at (places_from (n + 1) file fs) ≡ places_from n file fs
all_nearer at n file [] h = refl
all_nearer at n file (f ∷ fs) h =
    let behind : closed_up at (places_from (n + 1 + 1) file fs) ≡ places_from (n + 1) file fs = all_nearer at (n + 1) file fs (omega (arith, h)) in
    elim (cases_Bool (is_file file f)) [
      | inl e ↦ rw e (closed_far at n (places_from (n + 1 + 1) file fs) h ∙ ap (λ (ps : List ℕ). n ∷ ps) behind)
      | inr e ↦ rw e behind
    ]

leave_from : (n file i : ℕ) (fs : List (Option ℕ)) → i < length fs → places_from n file (remove fs i) ≡ closed_up (n + i) (places_from n file fs)
leave_from n file i [] h = absurd (omega (arith, h))
leave_from n file zero (f ∷ fs) h =
    let here : n ≡ n + 0 = omega arith in
    subst (λ (at : ℕ). places_from n file fs ≡ closed_up at (places_from n file (f ∷ fs))) here
    (elim (cases_Bool (is_file file f)) [
      | inl e ↦ rw e (sym (closed_here n (places_from (n + 1) file fs) ∙ all_nearer n n file fs (omega arith)))
      | inr e ↦ rw e (sym (all_nearer n n file fs (omega arith)))
    ])
leave_from n file (suc i) (f ∷ fs) h =
    let at : (n + 1) + i ≡ n + suc i = omega arith in
    let behind : places_from (n + 1) file (remove fs i) ≡ closed_up (n + suc i) (places_from (n + 1) file fs) =
    leave_from (n + 1) file i fs (omega (arith, h)) ∙ ap (λ (k : ℕ). closed_up k (places_from (n + 1) file fs)) at in
    elim (cases_Bool (is_file file f)) [
      | inl e ↦ rw e (ap (λ (ps : List ℕ). n ∷ ps) behind ∙ sym (closed_near (n + suc i) n (places_from (n + 1) file fs) (omega arith)))
      | inr e ↦ rw e behind
    ]

-- who leaves doesn't change whether someone waits on another file
still_waits : (file : ℕ) (ws : List Waiter) (at : ℕ) (w : Waiter) → at < length ws → w ≡ get_or ws at w → is_file file (first_file w.asked) ≡ false → waits_on file (remove ws at) ≡ waits_on file ws
still_waits file [] at w h is off = absurd (omega (arith, h))
still_waits file (v ∷ vs) zero w h is off =
    let own : is_file file (first_file v.asked) ≡ false = sym (ap (λ (u : Waiter). is_file file (first_file u.asked)) is) ∙ off in
    rw own refl
still_waits file (v ∷ vs) (suc at) w h is off = ap (λ (b : Bool). is_file file (first_file v.asked) || b) (still_waits file vs at w (omega (arith, h)) is off)

was_empty : (o : Option (List ℕ)) (g : List ℕ → List ℕ) → option_map g o ≡ Some [] → unwrap_or o [] ≡ [] → o ≡ Some []
was_empty None g is none = absurd (both_ways false refl (ap is_some is))
was_empty (Some ps) g is none = ap (λ (qs : List ℕ). Some qs) none

pub queued_out : (first : ℕ) (old new : BTreeMap ℕ (List ℕ)) (ws vs : List Waiter) (w : Waiter) (at : ℕ) → AreQueued first old (files_of ws) → at < length ws → w ≡ get_or ws at w → ((file : ℕ) → places_in new file ≡ closed_up (first + at) (places_in old file))
    → ((file : ℕ) → get nat_cmp new file ≡ Some [] → (is_file file (first_file w.asked) ≡ false) × (option_map (closed_up (first + at)) (get nat_cmp old file) ≡ Some [])) → vs ≡ remove ws at → AreQueued first new (files_of vs)
queued_out first old new ws vs w at queued h who left empty is = (places, filled)
  where
    places : (file : ℕ) → places_in new file ≡ places_from first file (files_of vs)
    places file =
        left file
        ∙ ap (λ (ps : List ℕ). closed_up (first + at) ps) (queued.0 file)
        ∙ sym (leave_from first file at (files_of ws) (omega (arith, h, as_many ws)))
        ∙ ap (λ (fs : List (Option ℕ)). places_from first file fs) (sym (files_left ws at) ∙ ap files_of (sym is))

    filled : (file : ℕ) → get nat_cmp new file ≢ Some []
    filled file none =
        let gone : (is_file file (first_file w.asked) ≡ false) × (option_map (closed_up (first + at)) (get nat_cmp old file) ≡ Some []) = empty file none in
        let after : waits_on file vs ≡ false = sym (some_from first file (files_of vs)) ∙ ap (λ (ps : List ℕ). nat_lt 0 (length ps)) (sym (places file) ∙ ap (λ (o : Option (List ℕ)). unwrap_or o []) none) in
        let before : waits_on file ws ≡ false = sym (still_waits file ws at w h who gone.0) ∙ ap (λ (us : List Waiter). waits_on file us) (sym is) ∙ after in
        queued.1 file (was_empty (get nat_cmp old file) (closed_up (first + at)) gone.1 (queued.0 file ∙ no_places (places_from first file (files_of ws)) (some_from first file (files_of ws) ∙ before)))

-- the first leaves
pub queued_past : (first : ℕ) (old new : BTreeMap ℕ (List ℕ)) (w : Waiter) (ws : List Waiter) → AreQueued first old (files_of (w ∷ ws)) → ((file : ℕ) → places_in new file ≡ passed file (first_file w.asked) (places_in old file)) → (NoneEmpty old → NoneEmpty new) → AreQueued (first + 1) new (files_of ws)
queued_past first old new w ws queued left filled = ((λ file. left file ∙ ap (λ (ps : List ℕ). passed file (first_file w.asked) ps) (queued.0 file) ∙ behind file), filled queued.1)
  where
    behind : (file : ℕ) → passed file (first_file w.asked) (places_from first file (files_of (w ∷ ws))) ≡ places_from (first + 1) file (files_of ws)
    behind file = elim (cases_Bool (is_file file (first_file w.asked))) [ inl on ↦ rw on refl | inr off ↦ rw off refl ]

-- a file's queue without its first stays one, if it isn't empty
pub none_left : (old mid new : BTreeMap ℕ (List ℕ)) (own : ℕ) → ((file : ℕ) → is_file file (Some own) ≡ false → get nat_cmp mid file ≡ get nat_cmp old file) → ((file : ℕ) → get nat_cmp new file ≡ Some [] → (is_file file (Some own) ≡ false) × (get nat_cmp mid file ≡ Some [])) → NoneEmpty old → NoneEmpty new
none_left old mid new own others empty filled file none = let gone = empty file none in filled file (sym (others file gone.0) ∙ gone.1)

-- something is done to the first i of these, and not to the others
abbrev pub done_to : (g : ℕ → ℕ) (i : ℕ) (xs : List ℕ) → List ℕ
done_to g zero xs = xs
done_to g (suc i) [] = []
done_to g (suc i) (x ∷ xs) = g x ∷ done_to g i xs

pub done_next : (g : ℕ → ℕ) (i d : ℕ) (xs : List ℕ) → i < length xs → set (done_to g i xs) i (g (get_or (done_to g i xs) i d)) ≡ done_to g (suc i) xs
done_next g i d [] h = absurd (omega (arith, h))
done_next g zero d (x ∷ xs) h = refl
done_next g (suc i) d (x ∷ xs) h = ap (λ (ys : List ℕ). g x ∷ ys) (done_next g i d xs (omega (arith, h)))

pub all_done : (g : ℕ → ℕ) (xs : List ℕ) → done_to g (length xs) xs ≡ map g xs
all_done g [] = refl
all_done g (x ∷ xs) = ap (λ (ys : List ℕ). g x ∷ ys) (all_done g xs)

pub as_long : (g : ℕ → ℕ) (i : ℕ) (xs : List ℕ) → length (done_to g i xs) ≡ length xs
as_long g zero xs = refl
as_long g (suc i) [] = refl
as_long g (suc i) (x ∷ xs) = ap (λ (n : ℕ). suc n) (as_long g i xs)

-- what is done to each queue is done to a file's
mapped : (test : ℕ → Bool) (g : List ℕ → List ℕ) (es : List (ℕ × List ℕ)) → g [] ≡ [] → unwrap_or (lookup test (map (λ e. (e.0, g e.1)) es)) [] ≡ g (unwrap_or (lookup test es) [])
mapped test g [] none = sym none
mapped test g (e ∷ es) none = elim (cases_Bool (test e.0)) [ inl is ↦ rw is refl | inr is ↦ rw is (mapped test g es none) ]

pub closed_each : (old new : BTreeMap ℕ (List ℕ)) (at : ℕ) → new.entries ≡ map (λ e. (e.0, closed_up at e.1)) old.entries → (file : ℕ) → get nat_cmp new file ≡ option_map (closed_up at) (get nat_cmp old file)
closed_each old new at is file =
    ap (λ (es : List (ℕ × List ℕ)). lookup (λ q. is_eq (nat_cmp file q)) es) is
    ∙ lookup-map_values (closed_up at) (λ q. is_eq (nat_cmp file q)) old.entries

pub closed_all : (old new : BTreeMap ℕ (List ℕ)) (at : ℕ) → new.entries ≡ map (λ e. (e.0, closed_up at e.1)) old.entries → (file : ℕ) → places_in new file ≡ closed_up at (places_in old file)
closed_all old new at is file =
    ap (λ (es : List (ℕ × List ℕ)). unwrap_or (lookup (λ q. is_eq (nat_cmp file q)) es) []) is
    ∙ mapped (λ q. is_eq (nat_cmp file q)) (closed_up at) old.entries refl

-- ---- someone waits

pub some_queued : (first : ℕ) (queues : BTreeMap ℕ (List ℕ)) (ws : List Waiter) (file : ℕ) → AreQueued first queues (files_of ws) → nat_lt 0 (length (places_in queues file)) ≡ waits_on file ws
some_queued first queues ws file queued = ap (λ (ps : List ℕ). nat_lt 0 (length ps)) (queued.0 file) ∙ some_from first file (files_of ws)

-- who has the place that stands behind so many others in a file's queue waits on the file behind as many
abbrev IsNth : ℕ → ℕ → ℕ → ℕ → List Waiter → Type 0
IsNth n file k p ws = (n ≤ p) × (slice_get ws (p - n) ≡ slice_get (waiting_on file ws) k)

-- behind one more
one_behind : (n p : ℕ) (w : Waiter) (ws : List Waiter) (found : Option Waiter) → (n + 1 ≤ p) × (slice_get ws (p - (n + 1)) ≡ found) → (n ≤ p) × (slice_get (w ∷ ws) (p - n) ≡ found)
one_behind n p w ws found rest =
    let far : p - n ≡ suc (p - (n + 1)) = omega (arith, rest.0) in
    (omega (arith, rest.0), ap (λ (q : ℕ). slice_get (w ∷ ws) q) far ∙ rest.1)

first_has : (n p : ℕ) (w : Waiter) (ws : List Waiter) → Some n ≡ Some p → (n ≤ p) × (slice_get (w ∷ ws) (p - n) ≡ Some w)
first_has n p w ws is =
    let same : n ≡ p = cc is in
    let none : p - n ≡ 0 = omega (arith, same) in
    (omega (arith, same), ap (λ (q : ℕ). slice_get (w ∷ ws) q) none)

nth_some : (n file k p : ℕ) (ws : List Waiter) → slice_get (places_from n file (files_of ws)) k ≡ Some p → IsNth n file k p ws
nth_some n file k p [] is = absurd (cc is)
nth_some n file zero p (w ∷ ws) is =
    elim (cases_Bool (is_file file (first_file w.asked))) [
      | inl on ↦ rw on (first_has n p w ws (rw on at is))
      | inr off ↦ rw off (one_behind n p w ws (slice_get (waiting_on file ws) zero) (nth_some (n + 1) file zero p ws (rw off at is)))
    ]
nth_some n file (suc k) p (w ∷ ws) is =
    elim (cases_Bool (is_file file (first_file w.asked))) [
      | inl on ↦ rw on (one_behind n p w ws (slice_get (waiting_on file ws) k) (nth_some (n + 1) file k p ws (rw on at is)))
      | inr off ↦ rw off (one_behind n p w ws (slice_get (waiting_on file ws) (suc k)) (nth_some (n + 1) file (suc k) p ws (rw off at is)))
    ]

nth_none : (n file k : ℕ) (ws : List Waiter) → slice_get (places_from n file (files_of ws)) k ≡ None → slice_get (waiting_on file ws) k ≡ None
nth_none n file k [] none = refl
nth_none n file zero (w ∷ ws) none =
    elim (cases_Bool (is_file file (first_file w.asked))) [
      | inl on ↦ absurd (cc (rw on at none))
      | inr off ↦ rw off (nth_none (n + 1) file zero ws (rw off at none))
    ]
nth_none n file (suc k) (w ∷ ws) none =
    elim (cases_Bool (is_file file (first_file w.asked))) [
      | inl on ↦ rw on (nth_none (n + 1) file k ws (rw on at none))
      | inr off ↦ rw off (nth_none (n + 1) file (suc k) ws (rw off at none))
    ]

-- the one who waits behind so many others
abbrev pub nth_at : ℕ → List Waiter → Option ℕ → Option Waiter
nth_at first ws None = None
nth_at first ws (Some p) = slice_get ws (p - first)

pub nth_queued : (first : ℕ) (queues : BTreeMap ℕ (List ℕ)) (ws : List Waiter) (file k : ℕ) (place : Option ℕ) → AreQueued first queues (files_of ws) → place ≡ slice_get (places_in queues file) k → nth_at first ws place ≡ slice_get (waiting_on file ws) k
nth_queued first queues ws file k None queued is = sym (nth_none first file k ws (ap (λ (ps : List ℕ). slice_get ps k) (sym (queued.0 file)) ∙ sym is))
nth_queued first queues ws file k (Some p) queued is = (nth_some first file k p ws (ap (λ (ps : List ℕ). slice_get ps k) (sym (queued.0 file)) ∙ sym is)).1
