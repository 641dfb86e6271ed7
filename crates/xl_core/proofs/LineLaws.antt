-- Who waits in front of whom, and the ranges that block an ask of those who do.
use Rattle.std.proofs.Common.{◌≡◌, ℕ, zero, suc, ◌+◌, ◌≤◌, Bool, true, false, not, ◌&&◌, ◌||◌, ◌==◌, if◌then◌else◌, inl, inr, List, [], ◌∷◌, ◌++◌, drop, length, Option, Some, None, slice_get, refl, sym, ap, subst, ◌∙◌, arith}
use Rattle.std.specs.List.{AllByRecursion, filter, list_any}
use Rattle.std.proofs.lemmas.Bool.{cases_Bool, both_ways, eq-eqb, or_parts}
use Rattle.std.proofs.lemmas.List.{drop_all}
use Rattle.xl_base.specs.Lists.{Pairwise}
use Rattle.xl_base.specs.declared.name.Owner.{Owner}
use Rattle.xl_matrix.specs.Equal.{same_owners}
use Rattle.xl_matrix.specs.declared.claim.Claim.{Claim}
use Rattle.xl_matrix.specs.declared.claim.What.{What}
use Rattle.xl_matrix.specs.declared.claim.What.TheVariants.{Share, Range, Cache}
use Rattle.xl_table.specs.Flat.{blocks}
use Rattle.xl_table.specs.Held.{is_cache, is_range}
use Rattle.xl_table.specs.Relock.{holds_range, is_range_by}
use Rattle.xl_wait.specs.Waiting.{first_file, is_file, waiting_on}
use Rattle.xl_wait.specs.declared.waiter.Waiter.{Waiter}
use Rattle.xl_core.specs.Blockers.{is_blocked_by, is_against, ranges_of, ranges_of_all, ranges_ahead, first_claim, first_of, range_ahead, before_number}
use Rattle.xl_core.specs.InFront.{in_front_of, ends_at, IsInLine}
use Rattle.xl_core.specs.BreaksBegun.{with_break, once_broken, breaks_begun}
use Rattle.xl_core.specs.Good.{are_apart}
use Rattle.xl_core.specs.Leases.{moment_after}
use Rattle.xl_core.specs.State.{CoreState}
use Rattle.xl_core.specs.declared.blockers.Front.{Front}
use Rattle.xl_core.specs.declared.blockers.Front.TheVariants.{Nobody, Everybody, Before}
use Rattle.xl_core.proofs.BreaksBegunLaws.{broken_cache, broken_is_cache, filter_broken}

-- ---- for whom one waits

-- of what blocks a claim some is a range of this owner, as some of what is held is that blocks it
pub any_blocking : (owner : Owner) (held : List Claim) (asked : Claim) → list_any (is_range_by owner) (filter (λ d. blocks asked d) held) ≡ list_any (λ d. is_range_by owner d && blocks asked d) held
any_blocking owner [] asked = refl
any_blocking owner (c ∷ cs) asked =
    elim (cases_Bool (blocks asked c)) [
      | inl e ↦ rw e (same (is_range_by owner c) _ _ (any_blocking owner cs asked))
      | inr e ↦ rw e (off (is_range_by owner c) _ _ (any_blocking owner cs asked))
    ]
  where
    same : (b x y : Bool) → x ≡ y → (b || x) ≡ ((b && true) || y)
    same true x y e = refl
    same false x y e = e

    off : (b x y : Bool) → x ≡ y → x ≡ ((b && false) || y)
    off true x y e = e
    off false x y e = e

-- nobody waits for one who holds no range
none_of : (owner : Owner) (held : List Claim) (asked : Claim) → holds_range owner held ≡ false → list_any (λ d. is_range_by owner d && blocks asked d) held ≡ false
none_of owner [] asked none = refl
none_of owner (c ∷ cs) asked none =
    let parts = or_parts (is_range_by owner c) (list_any (is_range_by owner) cs) none in
    rw parts.0 (none_of owner cs asked parts.1)

pub none_holds : (held : List Claim) (ask : Claim) (asked : List Claim) → holds_range ask.owner held ≡ false → list_any (is_blocked_by held ask) asked ≡ false
none_holds held ask [] none = refl
none_holds held ask (c ∷ cs) none = rw (none_of ask.owner held c none) (by (c.file == ask.file) (none_holds held ask cs none)) where
  by : (b : Bool) → list_any (is_blocked_by held ask) cs ≡ false → ((b && false) || list_any (is_blocked_by held ask) cs) ≡ false
  by true rest = rest
  by false rest = rest

-- ---- the search in a file's queue

abbrev pub first_range : List Claim → Claim → List Waiter → Option Claim
first_range held ask ws = first_claim (ranges_of_all held ask ws)

first_append : (xs ys : List Claim) → first_claim (xs ++ ys) ≡ first_of (first_claim xs) (first_claim ys)
first_append [] ys = refl
first_append (x ∷ xs) ys = refl

first_by : (held : List Claim) (ask : Claim) (w : Waiter) (ws : List Waiter) (o : Option Claim) → o ≡ first_claim (ranges_of held ask w) → first_range held ask (w ∷ ws) ≡ first_of o (first_range held ask ws)
first_by held ask w ws o is = first_append (ranges_of held ask w) (ranges_of_all held ask ws) ∙ ap (λ (x : Option Claim). first_of x (first_range held ask ws)) (sym is)

-- of these the next stands there
stands_next : (ws : List Waiter) (i : ℕ) (w : Waiter) → slice_get ws i ≡ Some w → drop i ws ≡ w ∷ drop (suc i) ws
stands_next [] i w is = absurd (cc is)
stands_next (x ∷ xs) zero w is = let same : x ≡ w = cc is in ap (λ (v : Waiter). v ∷ xs) same
stands_next (x ∷ xs) (suc i) w is = stands_next xs i w is

none_next : (ws : List Waiter) (i : ℕ) → slice_get ws i ≡ None → drop i ws ≡ []
none_next [] zero is = refl
none_next [] (suc i) is = refl
none_next (x ∷ xs) zero is = absurd (cc is)
none_next (x ∷ xs) (suc i) is = none_next xs i is

front_none : (front : Front) → in_front_of front [] ≡ []
front_none Nobody = refl
front_none Everybody = refl
front_none (Before id) = refl

front_ends : (front : Front) (w : Waiter) (ws : List Waiter) → ends_at front w.id ≡ true → in_front_of front (w ∷ ws) ≡ []
front_ends Nobody w ws e = refl
front_ends Everybody w ws e = absurd (both_ways false refl e)
front_ends (Before id) w ws e = rw e refl

front_goes : (front : Front) (w : Waiter) (ws : List Waiter) → ends_at front w.id ≡ false → in_front_of front (w ∷ ws) ≡ w ∷ in_front_of front ws
front_goes Nobody w ws e = absurd (both_ways true e refl)
front_goes Everybody w ws e = refl
front_goes (Before id) w ws e = rw e refl

pub range_none : (held : List Claim) (ask : Claim) (front : Front) (ws : List Waiter) (i : ℕ) → slice_get ws i ≡ None → first_range held ask (in_front_of front (drop i ws)) ≡ first_range held ask (in_front_of front ws) → None ≡ first_range held ask (in_front_of front ws)
range_none held ask front ws i is so_far = ap (first_range held ask) (sym (ap (in_front_of front) (none_next ws i is) ∙ front_none front)) ∙ so_far

pub range_end : (held : List Claim) (ask : Claim) (front : Front) (ws : List Waiter) (i : ℕ) (w : Waiter) → slice_get ws i ≡ Some w → ends_at front w.id ≡ true → first_range held ask (in_front_of front (drop i ws)) ≡ first_range held ask (in_front_of front ws) → None ≡ first_range held ask (in_front_of front ws)
range_end held ask front ws i w is ends so_far = ap (first_range held ask) (sym (ap (in_front_of front) (stands_next ws i w is) ∙ front_ends front w (drop (suc i) ws) ends)) ∙ so_far

next_by : (held : List Claim) (ask : Claim) (front : Front) (ws : List Waiter) (i : ℕ) (w : Waiter) (o : Option Claim) → slice_get ws i ≡ Some w → ends_at front w.id ≡ false → o ≡ first_claim (ranges_of held ask w) → first_range held ask (in_front_of front (drop i ws)) ≡ first_of o (first_range held ask (in_front_of front (drop (suc i) ws)))
next_by held ask front ws i w o is goes found = ap (first_range held ask) (ap (in_front_of front) (stands_next ws i w is) ∙ front_goes front w (drop (suc i) ws) goes) ∙ first_by held ask w (in_front_of front (drop (suc i) ws)) o found

pub range_here : (held : List Claim) (ask : Claim) (front : Front) (ws : List Waiter) (i : ℕ) (w : Waiter) (c : Claim) → slice_get ws i ≡ Some w → ends_at front w.id ≡ false → Some c ≡ first_claim (ranges_of held ask w) → first_range held ask (in_front_of front (drop i ws)) ≡ first_range held ask (in_front_of front ws) → Some c ≡ first_range held ask (in_front_of front ws)
range_here held ask front ws i w c is goes found so_far = sym (next_by held ask front ws i w (Some c) is goes found) ∙ so_far

pub range_past : (held : List Claim) (ask : Claim) (front : Front) (ws : List Waiter) (i : ℕ) (w : Waiter) → slice_get ws i ≡ Some w → ends_at front w.id ≡ false → None ≡ first_claim (ranges_of held ask w) → first_range held ask (in_front_of front (drop i ws)) ≡ first_range held ask (in_front_of front ws) → first_range held ask (in_front_of front (drop (i + 1) ws)) ≡ first_range held ask (in_front_of front ws)
range_past held ask front ws i w is goes none so_far =
    let next : suc i ≡ i + 1 = omega arith in
    ap (λ (k : ℕ). first_range held ask (in_front_of front (drop k ws))) (sym next) ∙ sym (next_by held ask front ws i w None is goes none) ∙ so_far

few_on : (file : ℕ) (ws : List Waiter) → length (waiting_on file ws) ≤ length ws
few_on file [] = omega arith
few_on file (w ∷ ws) =
    let rest = few_on file ws in
    elim (cases_Bool (is_file file (first_file w.asked))) [ inl on ↦ rw on (omega (arith, rest)) | inr off ↦ rw off (omega (arith, rest)) ]

pub range_over : (held : List Claim) (ask : Claim) (front : Front) (file i : ℕ) (ws : List Waiter) → length ws ≤ i → first_range held ask (in_front_of front (drop i (waiting_on file ws))) ≡ first_range held ask (in_front_of front (waiting_on file ws)) → None ≡ first_range held ask (in_front_of front (waiting_on file ws))
range_over held ask front file i ws far so_far = (let few = few_on file ws in ap (first_range held ask) (sym (ap (in_front_of front) (drop_all i (waiting_on file ws) (omega (arith, few, far))) ∙ front_none front))) ∙ so_far

-- ---- as the definition has it

pub range_is_first : (front : Front) (s : CoreState) (ask : Claim) (ws : List Waiter) → IsInLine front ws ask → is_range ask.what ≡ true → first_range s.claims ask (in_front_of front (waiting_on ask.file ws)) ≡ range_ahead (in_front_of front ws) s ask
unfolding range_ahead ranges_ahead
range_is_first front s ask ws line range = rw range (ap (first_range s.claims ask) (sym line))

pub no_range_ahead : (earlier : List Waiter) (s : CoreState) (ask : Claim) → is_range ask.what ≡ false → None ≡ range_ahead earlier s ask
unfolding range_ahead ranges_ahead
no_range_ahead earlier s ask none = rw none refl

-- it is the same behind those who wait on the same file
pub range_alike : (before after : List Waiter) (s : CoreState) (ask : Claim) → waiting_on ask.file before ≡ waiting_on ask.file after → range_ahead before s ask ≡ range_ahead after s ask
unfolding range_ahead ranges_ahead
range_alike before after s ask same = ap (λ (ws : List Waiter). first_claim (if is_range ask.what then ranges_of_all s.claims ask ws else [])) same

-- and where the held ranges are the same that block what is asked for on its file
blocked_alike : (old new : List Claim) (ask c : Claim) → ((asked : Claim) → (asked.file == ask.file) ≡ true → list_any (λ d. is_range_by ask.owner d && blocks asked d) new ≡ list_any (λ d. is_range_by ask.owner d && blocks asked d) old) → is_blocked_by new ask c ≡ is_blocked_by old ask c
blocked_alike old new ask c alike = elim (cases_Bool (c.file == ask.file)) [ inl on ↦ rw on (alike c on) | inr off ↦ rw off refl ]

waits_alike : (old new : List Claim) (ask : Claim) (asked : List Claim) → ((c : Claim) → (c.file == ask.file) ≡ true → list_any (λ d. is_range_by ask.owner d && blocks c d) new ≡ list_any (λ d. is_range_by ask.owner d && blocks c d) old) → list_any (is_blocked_by new ask) asked ≡ list_any (is_blocked_by old ask) asked
waits_alike old new ask [] alike = refl
waits_alike old new ask (c ∷ cs) alike = λ i. blocked_alike old new ask c alike i || waits_alike old new ask cs alike i

ranges_alike : (old new : List Claim) (ask : Claim) (ws : List Waiter) → ((c : Claim) → (c.file == ask.file) ≡ true → list_any (λ d. is_range_by ask.owner d && blocks c d) new ≡ list_any (λ d. is_range_by ask.owner d && blocks c d) old) → ranges_of_all new ask ws ≡ ranges_of_all old ask ws
ranges_alike old new ask [] alike = refl
ranges_alike old new ask (w ∷ ws) alike = λ i. (if waits_alike old new ask w.asked alike i then [] else filter (is_against ask) w.asked) ++ ranges_alike old new ask ws alike i

pub range_held_alike : (earlier : List Waiter) (s : CoreState) (new : List Claim) (ask : Claim) → ((c : Claim) → (c.file == ask.file) ≡ true → list_any (λ d. is_range_by ask.owner d && blocks c d) new ≡ list_any (λ d. is_range_by ask.owner d && blocks c d) s.claims) → range_ahead earlier (record s { claims = new }) ask ≡ range_ahead earlier s ask
unfolding range_ahead ranges_ahead
range_held_alike earlier s new ask alike = ap (λ (cs : List Claim). first_claim (if is_range ask.what then cs else [])) (ranges_alike s.claims new ask (waiting_on ask.file earlier) alike)

-- ---- where breaks begin

no_range : (w : What) → is_cache w ≡ true → is_range w ≡ false
no_range (Cache kind running) h = refl
no_range (Share access deny) h = absurd (both_ways false refl h)
no_range (Range extent exclusive) h = absurd (both_ways false refl h)

abbrev is_filled : List Claim → Bool
is_filled [] = false
is_filled (c ∷ cs) = true

any_of : (p : Claim → Bool) (cs : List Claim) → list_any p cs ≡ is_filled (filter p cs)
any_of p [] = refl
any_of p (c ∷ cs) = elim (cases_Bool (p c)) [ inl e ↦ rw e refl | inr e ↦ rw e (any_of p cs) ]

-- ranges stay
begun_ranges : (s : CoreState) (c asked : Claim) (owner : Owner) → list_any (λ d. is_range_by owner d && blocks asked d) (breaks_begun c s).1.claims ≡ list_any (λ d. is_range_by owner d && blocks asked d) s.claims
unfolding breaks_begun
begun_ranges s c asked owner =
    let deadline = moment_after s.clock s.times.break_time in
    any_of (λ d. is_range_by owner d && blocks asked d) (once_broken deadline c s.claims)
    ∙ ap is_filled (filter_broken deadline c s.claims (λ d. is_range_by owner d && blocks asked d) (record {
      old = λ d b e. none d (broken_is_cache c s.claims d b e);
      new = λ d b e. none (with_break d d.what b.1 deadline) (broken_cache d d.what b.1 deadline refl ∙ broken_is_cache c s.claims d b e);
    }))
    ∙ sym (any_of (λ d. is_range_by owner d && blocks asked d) s.claims)
  where
    none : (d : Claim) → is_cache d.what ≡ true → (is_range_by owner d && blocks asked d) ≡ false
    none d cache = rw (no_range d.what cache) (by (same_owners d.owner owner)) where
      by : (b : Bool) → ((b && false) && blocks asked d) ≡ false
      by true = refl
      by false = refl

begun_is : (s : CoreState) (c ask : Claim) (earlier : List Waiter) → range_ahead earlier (breaks_begun c s).1 ask ≡ range_ahead earlier (record s { claims = (breaks_begun c s).1.claims }) ask
unfolding breaks_begun range_ahead ranges_ahead
begun_is s c ask earlier = refl

-- so who stands in front of a claim does so whatever breaks begin
pub begun_line : (earlier : List Waiter) (s : CoreState) (c ask : Claim) → range_ahead earlier (breaks_begun c s).1 ask ≡ range_ahead earlier s ask
begun_line earlier s c ask = begun_is s c ask earlier ∙ range_held_alike earlier s (breaks_begun c s).1.claims ask (λ asked on. begun_ranges s c asked ask.owner)

-- ---- in front of one who waits

-- a waiter's place in its file's queue is its place among all
pub in_its_line : (id file : ℕ) (ws : List Waiter) → AllByRecursion (λ w. (w.id == id) ≡ true → is_file file (first_file w.asked) ≡ true) ws → waiting_on file (before_number id ws) ≡ before_number id (waiting_on file ws)
in_its_line id file [] own = refl
in_its_line id file (w ∷ ws) own =
    elim (cases_Bool (w.id == id)) [
      | inl is ↦ rw (is, own.0 is, is) refl
      | inr other ↦
          let rest = in_its_line id file ws own.1 in
          elim (cases_Bool (is_file file (first_file w.asked))) [ inl on ↦ rw (other, on, other) (ap (λ (vs : List Waiter). w ∷ vs) rest) | inr off ↦ rw (other, off) rest ]
    ]

-- those in front of the one who stands there
pub before_is : (before : List Waiter) (w : Waiter) (behind : List Waiter) → AllByRecursion (λ v. (v.id == w.id) ≡ false) before → before_number w.id (before ++ w ∷ behind) ≡ before
before_is [] w behind apart = rw (eq-eqb w.id w.id refl) refl
before_is (v ∷ vs) w behind apart = rw apart.0 (ap (λ (us : List Waiter). v ∷ us) (before_is vs w behind apart.1))

-- of those who are apart
pub apart_before : (before : List Waiter) (w : Waiter) (behind : List Waiter) → Pairwise are_apart (before ++ w ∷ behind) → AllByRecursion (λ v. (v.id == w.id) ≡ false) before
apart_before [] w behind apart = tt
apart_before (v ∷ vs) w behind apart = (other (v.id == w.id) (found vs apart.0), apart_before vs w behind apart.1) where
  other : (b : Bool) → not b ≡ true → b ≡ false
  other true h = absurd (both_ways false refl h)
  other false h = refl

  found : (us : List Waiter) → AllByRecursion (λ u. are_apart v u ≡ true) (us ++ w ∷ behind) → are_apart v w ≡ true
  found [] all = all.0
  found (u ∷ us) all = found us all.1

-- who comes behind all stands in front of nobody
pub before_more : (id : ℕ) (ws : List Waiter) (new : Waiter) → AllByRecursion (λ v. (v.id == id) ≡ false) ws → before_number id (ws ++ new ∷ []) ≡ (if new.id == id then ws else ws ++ new ∷ [])
before_more id [] new apart = refl
before_more id (w ∷ ws) new apart = rw apart.0 (ap (λ (us : List Waiter). w ∷ us) (before_more id ws new apart.1) ∙ by (new.id == id)) where
  by : (b : Bool) → w ∷ (if b then ws else ws ++ new ∷ []) ≡ (if b then w ∷ ws else w ∷ ws ++ new ∷ [])
  by true = refl
  by false = refl

-- those behind the first stand where it does
pub rest_line : (front : Front) (ws vs : List Waiter) (cs : List Claim) (c : Claim) (rest : List Claim) → cs ≡ c ∷ rest → vs ≡ ws → AllByRecursion (IsInLine front ws) cs → AllByRecursion (IsInLine front vs) rest
rest_line front ws vs cs c rest is same all = subst (λ (us : List Waiter). AllByRecursion (IsInLine front us) rest) (sym same) (subst (λ (ds : List Claim). AllByRecursion (IsInLine front ws) ds) is all).1

-- all who wait, and nobody
pub all_line : (ws : List Waiter) (cs : List Claim) → AllByRecursion (IsInLine Everybody ws) cs
all_line ws [] = tt
all_line ws (c ∷ cs) = (refl, all_line ws cs)

pub none_line : (ws : List Waiter) (cs : List Claim) → AllByRecursion (IsInLine Nobody ws) cs
none_line ws [] = tt
none_line ws (c ∷ cs) = (refl, none_line ws cs)
