-- A wish that is granted keeps the state good, and nothing but the cache of its party on the file changes.
use Rattle.std.proofs.Common.{◌≡◌, ℕ, ◌+◌, ◌≤◌, ◌<◌, Bool, true, false, not, ◌&&◌, ◌||◌, ◌==◌, nat_lt, if◌then◌else◌, List, [], ◌∷◌, map, length, find, inl, inr, Option, Some, None, refl, sym, ap, subst, ◌∙◌, arith}
use Rattle.std.specs.Prelude.{IsSome, IfSome}
use Rattle.std.proofs.lemmas.Bool.Decides.{nat_tests}
use Rattle.std.specs.List.{AllByRecursion, filter, filter_map, list_all}
use Rattle.std.proofs.lemmas.Bool.{cases_Bool, both_ways, and_parts, and_right, eq-eqb, eqb-true, ltb-true}
use Rattle.xl_base.specs.Lists.{IsIn, Pairwise}
use Rattle.xl_base.proofs.Members.{all_in, all_from}
use Rattle.xl_base.proofs.Searches.{find_in, none_found, in_filter_map_from}
use Rattle.xl_base.specs.declared.name.Owner.{Owner}
use Rattle.xl_base.specs.declared.name.Party.{Party}
use Rattle.xl_cache.specs.Parties.{is_kind_of, is_cache_of}
use Rattle.xl_cache.specs.BreakPlans.{is_running}
use Rattle.xl_cache.specs.Wishing.{wished_claim, may_stand, best_of, joined, is_its_cache, may_replace, best_join_of, raised_by, granted_beside, granted_kind}
use Rattle.xl_cache.specs.declared.wish.Wish.{Wish}
use Rattle.xl_cache.proofs.PartyLaws.{joined_kind}
use Rattle.xl_cache.proofs.WishLaws.{best_is_chosen}
use Rattle.xl_matrix.specs.Equal.{same_parties, same_claims}
use Rattle.xl_matrix.proofs.EqualLaws.{same_claims-true, same_parties-true, same_parties-self, eqb-sym}
use Rattle.xl_matrix.specs.Kinds.{guarding, writes}
use Rattle.xl_matrix.specs.Matrix.{compat, fit_by}
use Rattle.xl_matrix.specs.declared.claim.CacheKind.{CacheKind}
use Rattle.xl_matrix.specs.declared.claim.Claim.{Claim}
use Rattle.xl_matrix.specs.declared.claim.What.{What}
use Rattle.xl_matrix.specs.declared.claim.What.TheVariants.{Share, Range, Cache}
use Rattle.xl_table.specs.Flat.{inserted, removed, changed, with_what}
use Rattle.xl_table.specs.Elements.{elements_of}
use Rattle.xl_table.specs.Held.{is_cache, spans_of, IsSound}
use Rattle.xl_table.specs.Order.{goes_first}
use Rattle.xl_table.specs.Relock.{most_claims, shares_of}
use Rattle.xl_table.proofs.FlatLaws.{all_removed, pairwise_others}
use Rattle.xl_table.proofs.InsertLaws.{sound_inserted_other, sound_changed_other}
use Rattle.xl_core.specs.BreaksBegun.{is_idle, idle_caches, others_of, is_recalled, idle_delegations}
use Rattle.xl_core.specs.Good.{are_kept, IsHeldBy, IsHeld, is_single, IsGood, holding}
use Rattle.xl_core.specs.Places.{CacheOf, is_cache_on, held_in, else_was}
use Rattle.xl_core.specs.State.{CoreState}
use Rattle.xl_core.specs.Wishes.{has_room, wished_kind, cached, once_wished, wish_granted, wish_of, wished_at, is_waited_for}
use Rattle.xl_core.proofs.BreaksBegunLaws.{same_others, no_two}
use Rattle.xl_core.proofs.CachePlaces.{IsSameButCaches, stays_beside, stays_rest}
use Rattle.xl_core.proofs.ClaimLaws.{is_single-sym}
use Rattle.xl_core.proofs.HeldCaches.{cache_entered, cache_changed}

-- ---- a wish looks at one file's claims

abbrev is_on : Wish → Claim → Bool
is_on wanted c = c.file == wanted.file

-- on another file all goes with the cache
goes_elsewhere : (wanted : Wish) (kind : CacheKind) (c : Claim) → is_on wanted c ≡ false → compat (wished_claim wanted kind) c ≡ true
unfolding compat
goes_elsewhere wanted kind c other = let apart : (wanted.file == c.file) ≡ false = eqb-sym wanted.file c.file ∙ other in rw apart refl

own_there : (wanted : Wish) (c : Claim) → is_on wanted c ≡ false → is_its_cache wanted c ≡ false
own_there wanted c other = rw other (and_right (is_cache c.what) false refl)

all_within : (p q : Claim → Bool) (cs : List Claim) → ((c : Claim) → q c ≡ false → p c ≡ true) → list_all p (filter q cs) ≡ list_all p cs
all_within p q [] out = refl
all_within p q (c ∷ cs) out =
    elim (cases_Bool (q c)) [
      | inl in_it ↦ rw in_it (ap (λ (b : Bool). p c && b) (all_within p q cs out))
      | inr past ↦ rw (past, out c past) (all_within p q cs out)
    ]

first_within : (p q : Claim → Bool) (cs : List Claim) → ((c : Claim) → q c ≡ false → p c ≡ false) → find p (filter q cs) ≡ find p cs
first_within p q [] out = refl
first_within p q (c ∷ cs) out =
    elim (cases_Bool (q c)) [
      | inl in_it ↦ rw (in_it, first_within p q cs out) refl
      | inr past ↦ rw (past, out c past) (first_within p q cs out)
    ]

first_alike : (p q : CacheKind → Bool) (kinds : List CacheKind) → ((kind : CacheKind) → p kind ≡ q kind) → find p kinds ≡ find q kinds
first_alike p q [] same = refl
first_alike p q (kind ∷ kinds) same = ap (λ (b : Bool). if b then Some kind else find p kinds) (same kind) ∙ ap (λ (o : Option CacheKind). if q kind then Some kind else o) (first_alike p q kinds same)

stands_here : (wanted : Wish) (held : List Claim) (kind : CacheKind) → may_stand wanted (filter (is_on wanted) held) kind ≡ may_stand wanted held kind
stands_here wanted held kind = all_within (compat (wished_claim wanted kind)) (is_on wanted) held (goes_elsewhere wanted kind)

replaces_here : (wanted : Wish) (held : List Claim) (kind : CacheKind) → may_replace wanted (filter (is_on wanted) held) kind ≡ may_replace wanted held kind
replaces_here wanted held kind =
    all_within (λ c. is_its_cache wanted c || compat (wished_claim wanted kind) c) (is_on wanted) held (λ c other. rw (own_there wanted c other, goes_elsewhere wanted kind c other) refl)

pub own_here : (wanted : Wish) (held : List Claim) → find (is_its_cache wanted) (filter (λ c. c.file == wanted.file) held) ≡ find (is_its_cache wanted) held
own_here wanted held = first_within (is_its_cache wanted) (is_on wanted) held (own_there wanted)

raised_here : (wanted : Wish) (held : List Claim) (w : What) → raised_by wanted (filter (is_on wanted) held) w ≡ raised_by wanted held w
unfolding best_join_of
raised_here wanted held (Cache kind None) = first_alike (may_replace wanted (filter (is_on wanted) held)) (may_replace wanted held) (filter_map (joined kind) wanted.kinds) (replaces_here wanted held)
raised_here wanted held (Cache kind (Some running)) = refl
raised_here wanted held (Share access deny) = refl
raised_here wanted held (Range extent exclusive) = refl

beside_here : (wanted : Wish) (held : List Claim) (o : Option Claim) → granted_beside wanted (filter (is_on wanted) held) o ≡ granted_beside wanted held o
unfolding best_of
beside_here wanted held None = first_alike (may_stand wanted (filter (is_on wanted) held)) (may_stand wanted held) wanted.kinds (stands_here wanted held)
beside_here wanted held (Some c) = raised_here wanted held c.what

pub kind_here : (wanted : Wish) (held : List Claim) → granted_kind wanted (filter (λ c. c.file == wanted.file) held) ≡ granted_kind wanted held
unfolding granted_kind
kind_here wanted held = ap (λ (o : Option Claim). granted_beside wanted (filter (is_on wanted) held) o) (own_here wanted held) ∙ beside_here wanted held (find (is_its_cache wanted) held)

-- ---- the table takes it

-- the party's own cache is held, and of the party on the file
pub found_own : (wanted : Wish) (held : List Claim) (c : Claim) → find (is_its_cache wanted) held ≡ Some c → IsIn c held × (is_its_cache wanted c ≡ true)
found_own wanted held c e = subst (λ (o : Option Claim). IfSome o (λ x. IsIn x held × (is_its_cache wanted x ≡ true))) e (find_in (is_its_cache wanted) held)

pub own_held : (wanted : Wish) (held : List Claim) (c : Claim) → Some c ≡ find (is_its_cache wanted) held → IsIn c held
own_held wanted held c e = (found_own wanted held c (sym e)).0

pub cache_sound : (wanted : Wish) (kind : CacheKind) (held : List Claim) → IsSound held → IsSound (inserted (wished_claim wanted kind) held)
cache_sound wanted kind held sound = sound_inserted_other (wished_claim wanted kind) held sound refl

pub raised_sound : (c : Claim) (kind : CacheKind) (held : List Claim) → IsSound held → IsSound (changed c (Cache kind None) held)
raised_sound c kind held sound = sound_changed_other c (Cache kind None) held sound refl

-- ---- what is granted, by what the table and the queue answer

pub room_left : (held : List Claim) (o : Option Claim) → o ≡ None → has_room o held ≡ true → length held < 16384
room_left held None e room = ltb-true (length held) 16384 room
room_left held (Some c) e room = absurd cc

pub waits_granted : (wanted : Wish) (s : CoreState) → is_waited_for wanted.file s ≡ true → s ≡ wish_granted wanted s
unfolding wished_kind wish_granted
waits_granted wanted s waits = rw waits refl

pub full_granted : (wanted : Wish) (s : CoreState) (own : Option Claim) → own ≡ find (is_its_cache wanted) s.claims → has_room own s.claims ≡ false → s ≡ wish_granted wanted s
unfolding wished_kind wish_granted
full_granted wanted s own is full =
    let none : has_room (find (is_its_cache wanted) s.claims) s.claims ≡ false = ap (λ (o : Option Claim). has_room o s.claims) (sym is) ∙ full in
    elim (cases_Bool (is_waited_for wanted.file s)) [ inl waits ↦ rw waits refl | inr free ↦ rw (free, none) refl ]

pub none_granted : (wanted : Wish) (s : CoreState) → granted_kind wanted s.claims ≡ None → s ≡ wish_granted wanted s
unfolding wished_kind wish_granted
none_granted wanted s none =
    elim (cases_Bool (is_waited_for wanted.file s)) [
      | inl waits ↦ rw waits refl
      | inr free ↦ elim (cases_Bool (has_room (find (is_its_cache wanted) s.claims) s.claims)) [ inl room ↦ rw (free, room, none) refl | inr full ↦ rw (free, full) refl ]
    ]

pub kind_granted : (wanted : Wish) (s : CoreState) (own : Option Claim) (kind : CacheKind) (claims : List Claim) → is_waited_for wanted.file s ≡ false → own ≡ find (is_its_cache wanted) s.claims → has_room own s.claims ≡ true → granted_kind wanted s.claims ≡ Some kind → claims ≡ cached wanted kind own s.claims
    → record s { claims = claims } ≡ wish_granted wanted s
unfolding wished_kind wish_granted
kind_granted wanted s own kind claims free is room some e =
    let there : has_room (find (is_its_cache wanted) s.claims) s.claims ≡ true = ap (λ (o : Option Claim). has_room o s.claims) (sym is) ∙ room in
    rw (free, there, some) (ap (λ (cs : List Claim). record s { claims = cs }) (e ∙ ap (λ (o : Option Claim). cached wanted kind o s.claims) is))

-- a wish for nothing gets nothing
none_beside : (wanted : Wish) (held : List Claim) (o : Option Claim) → wanted.kinds ≡ [] → granted_beside wanted held o ≡ None
unfolding best_of best_join_of
none_beside wanted held None none = ap (λ (kinds : List CacheKind). find (may_stand wanted held) kinds) none
none_beside wanted held (Some c) none = by c.what where
  by : (w : What) → raised_by wanted held w ≡ None
  by (Cache kind None) = ap (λ (kinds : List CacheKind). find (may_replace wanted held) (filter_map (joined kind) kinds)) none
  by (Cache kind (Some running)) = refl
  by (Share access deny) = refl
  by (Range extent exclusive) = refl

none_wanted : (wanted : Wish) (held : List Claim) → wanted.kinds ≡ [] → granted_kind wanted held ≡ None
unfolding granted_kind
none_wanted wanted held none = none_beside wanted held (find (is_its_cache wanted) held) none

pub no_wish : (kinds : List CacheKind) (c : Claim) (s : CoreState) → kinds ≡ [] → wish_granted (wish_of kinds c) s ≡ s
no_wish kinds c s none = sym (none_granted (wish_of kinds c) s (none_wanted (wish_of kinds c) s.claims none))

-- ---- the state stays good

all_true : (p : Claim → Bool) (cs : List Claim) → list_all p cs ≡ true → AllByRecursion (λ c. p c ≡ true) cs
all_true p [] h = tt
all_true p (c ∷ cs) h = let both = and_parts (p c) (list_all p cs) h in (both.0, all_true p cs both.1)

-- why it gets this kind
gets : (wanted : Wish) (s : CoreState) (kind : CacheKind) → wished_kind wanted s ≡ Some kind → (has_room (find (is_its_cache wanted) s.claims) s.claims ≡ true) × (granted_kind wanted s.claims ≡ Some kind)
unfolding wished_kind
gets wanted s kind e = by (is_waited_for wanted.file s) (has_room (find (is_its_cache wanted) s.claims) s.claims) refl e where
  by : (waits room : Bool) → has_room (find (is_its_cache wanted) s.claims) s.claims ≡ room → (if waits then None else if room then granted_kind wanted s.claims else None) ≡ Some kind → (has_room (find (is_its_cache wanted) s.claims) s.claims ≡ true) × (granted_kind wanted s.claims ≡ Some kind)
  by true room at e = absurd cc
  by false true at e = (at, e)
  by false false at e = absurd cc

-- what it has of its own there is raised where no break of it runs
pub raised_idle : (wanted : Wish) (s : CoreState) (own : Claim) (kind : CacheKind) → wished_kind wanted s ≡ Some kind → find (is_its_cache wanted) s.claims ≡ Some own → is_running own.what ≡ false
unfolding granted_kind
raised_idle wanted s own kind e found = by own.what (sym (ap (granted_beside wanted s.claims) found) ∙ (gets wanted s kind e).1) where
  by : (w : What) → raised_by wanted s.claims w ≡ Some kind → is_running w ≡ false
  by (Cache whole None) e = refl
  by (Cache whole (Some running)) e = absurd cc
  by (Share access deny) e = absurd cc
  by (Range extent exclusive) e = absurd cc

-- the cache goes by its file, its kind and its party
same_fit : (a b d : Claim) (kind : CacheKind) (w : What) → a.party ≡ b.party → fit_by a d (Cache kind None) w ≡ fit_by b d (Cache kind None) w
unfolding fit_by
same_fit a b d kind (Share access deny) e = ap (λ (p : Party). same_parties p d.party || not (guarding kind access deny)) e
same_fit a b d kind (Range extent exclusive) e = ap (λ (p : Party). same_parties p d.party) e
same_fit a b d kind (Cache other due) e = ap (λ (p : Party). not (same_parties p d.party) && (not (writes kind) && not (writes other))) e

same_compat : (wanted : Wish) (c d : Claim) (kind : CacheKind) → c.file ≡ wanted.file → c.party ≡ wanted.party → compat (with_what c (Cache kind None)) d ≡ compat (wished_claim wanted kind) d
unfolding compat
same_compat wanted c d kind file party =
    ap (λ (n : ℕ). not (n == d.file) || fit_by (with_what c (Cache kind None)) d (Cache kind None) d.what) file
    ∙ ap (λ (b : Bool). not (wanted.file == d.file) || b) (same_fit (with_what c (Cache kind None)) (wished_claim wanted kind) d kind d.what party)

pub own_parts : (wanted : Wish) (c : Claim) → is_its_cache wanted c ≡ true → (is_cache c.what ≡ true) × (c.file ≡ wanted.file) × (c.party ≡ wanted.party)
own_parts wanted c own =
    let one = and_parts (is_cache c.what) ((c.file == wanted.file) && same_parties c.party wanted.party) own in
    let two = and_parts (c.file == wanted.file) (same_parties c.party wanted.party) one.1 in
    (one.0, eqb-true c.file wanted.file two.0, same_parties-true c.party wanted.party two.1)

abbrev AreOfParty : Wish → Type 0
AreOfParty wanted = AllByRecursion (λ kind. is_kind_of wanted.party kind ≡ true) wanted.kinds

module _ (wanted : Wish) (s : CoreState) (good : IsGood s) (kinds : AreOfParty wanted) (kept : are_kept s.names wanted.owner wanted.party ≡ true) where
  -- a first cache
  entered_good : (kind : CacheKind) → nat_lt (length s.claims) most_claims ≡ true → best_of wanted s.claims ≡ Some kind → IsGood (holding s (inserted (wished_claim wanted kind) s.claims))
  unfolding is_cache_of
  entered_good kind room best =
      let chosen = subst (λ (o : Option CacheKind). IfSome o (λ k. IsIn k wanted.kinds × (may_stand wanted s.claims k ≡ true))) best (best_is_chosen wanted s.claims) in
      let may : is_kind_of wanted.party kind ≡ true = all_in (λ k. is_kind_of wanted.party k ≡ true) kind wanted.kinds kinds chosen.0 in
      cache_entered s (wished_claim wanted kind) good ((rw may refl, refl), kept) refl (all_true (compat (wished_claim wanted kind)) s.claims chosen.1) (ltb-true (length s.claims) most_claims room)

  -- a cache that is raised
  raised_good : (kind whole : CacheKind) (c : Claim) → find (is_its_cache wanted) s.claims ≡ Some c → c.what ≡ Cache whole None → best_join_of wanted whole s.claims ≡ Some kind → IsGood (holding s (changed c (Cache kind None) s.claims))
  unfolding is_cache_of best_join_of
  raised_good kind whole c own at best =
      let found = found_own wanted s.claims c own in
      let parts = own_parts wanted c found.1 in
      let chosen = subst (λ (o : Option CacheKind). IfSome o (λ k. IsIn k (filter_map (joined whole) wanted.kinds) × (may_replace wanted s.claims k ≡ true))) best (find_in (may_replace wanted s.claims) (filter_map (joined whole) wanted.kinds)) in
      let from = in_filter_map_from (joined whole) kind wanted.kinds chosen.0 in
      let known = all_in (IsHeld s.names) c s.claims good.known found.0 in
      let had : (is_kind_of c.party whole && true) ≡ true = subst (λ (w : What). IsHeldBy c.party w) at known.0.0 in
      let has : is_kind_of wanted.party whole ≡ true = subst (λ (p : Party). is_kind_of p whole ≡ true) parts.2 (and_parts (is_kind_of c.party whole) true had).0 in
      let other = all_in (λ k. is_kind_of wanted.party k ≡ true) from.0 wanted.kinds kinds from.1 in
      let may = subst (λ (o : Option CacheKind). IfSome o (λ k. is_kind_of wanted.party k ≡ true)) from.2 (joined_kind wanted.party whole from.0 has other) in
      let its : is_kind_of c.party kind ≡ true = subst (λ (p : Party). is_kind_of p kind ≡ true) (sym parts.2) may in
      let others = pairwise_others is_single is_single-sym c s.claims found.0 good.single in
      let beside = all_removed (λ d. (is_its_cache wanted d || compat (wished_claim wanted kind) d) ≡ true) c s.claims (all_true (λ d. is_its_cache wanted d || compat (wished_claim wanted kind) d) s.claims chosen.1) in
      cache_changed s c (Cache kind None) good found.0 ((rw its refl, refl), known.1) refl
      (all_from (λ d. compat (with_what c (Cache kind None)) d ≡ true) (removed c s.claims) (λ d h.
      let apart : is_its_cache wanted d ≡ false = no_two wanted.file wanted.party c d (all_in (λ x. is_single c x ≡ true) d (removed c s.claims) others h) found.1 in
      let fits = all_in (λ x. (is_its_cache wanted x || compat (wished_claim wanted kind) x) ≡ true) d (removed c s.claims) beside h in
      same_compat wanted c d kind parts.1 parts.2 ∙ (rw apart at fits)))

  own_good : (kind : CacheKind) (o : Option Claim) → find (is_its_cache wanted) s.claims ≡ o → has_room o s.claims ≡ true → granted_beside wanted s.claims o ≡ Some kind → IsGood (holding s (cached wanted kind o s.claims))
  own_good kind None own room granted = entered_good kind room granted
  own_good kind (Some c) own room granted = by c.what refl granted where
    by : (w : What) → c.what ≡ w → raised_by wanted s.claims w ≡ Some kind → IsGood (holding s (changed c (Cache kind None) s.claims))
    by (Cache whole None) at e = raised_good kind whole c own at e
    by (Cache whole (Some running)) at e = absurd cc
    by (Share access deny) at e = absurd cc
    by (Range extent exclusive) at e = absurd cc

  kind_good : (o : Option CacheKind) → wished_kind wanted s ≡ o → IsGood (holding s (once_wished wanted o s.claims))
  unfolding granted_kind
  kind_good None e = good
  kind_good (Some kind) e = let why = gets wanted s kind e in own_good kind (find (is_its_cache wanted) s.claims) refl why.0 why.1

pub wish_good : (wanted : Wish) (s : CoreState) → IsGood s → AllByRecursion (λ kind. is_kind_of wanted.party kind ≡ true) wanted.kinds → are_kept s.names wanted.owner wanted.party ≡ true → IsGood (wish_granted wanted s)
unfolding wish_granted
wish_good wanted s good kinds kept = kind_good wanted s good kinds kept (wished_kind wanted s) refl

-- ---- what comes and goes, by a test

module _ (test : Claim → Bool) where
  -- one that fails it comes, or goes
  pub filter_inserted : (c : Claim) (cs : List Claim) → test c ≡ false → filter test (inserted c cs) ≡ filter test cs
  unfolding inserted
  filter_inserted c [] fails = rw fails refl
  filter_inserted c (d ∷ ds) fails =
      elim (cases_Bool (goes_first d c)) [
        | inl early ↦ rw early (ap (λ (xs : List Claim). if test d then d ∷ xs else xs) (filter_inserted c ds fails))
        | inr late ↦ rw (late, fails) refl
      ]

  pub filter_removed : (c : Claim) (cs : List Claim) → test c ≡ false → filter test (removed c cs) ≡ filter test cs
  filter_removed c [] fails = refl
  filter_removed c (d ∷ ds) fails =
      elim (cases_Bool (same_claims d c)) [
        | inl same ↦ let gone : test d ≡ false = ap test (same_claims-true d c same) ∙ fails in rw (same, gone) refl
        | inr apart ↦ rw apart (ap (λ (xs : List Claim). if test d then d ∷ xs else xs) (filter_removed c ds fails))
      ]

  filter_none : (cs : List Claim) → AllByRecursion (λ c. test c ≡ false) cs → filter test cs ≡ []
  filter_none [] all = refl
  filter_none (c ∷ cs) all = rw all.0 (filter_none cs all.1)

  -- the only one that passes comes
  filter_alone : (c : Claim) (cs : List Claim) → test c ≡ true → AllByRecursion (λ d. test d ≡ false) cs → filter test (inserted c cs) ≡ c ∷ []
  unfolding inserted
  filter_alone c [] passes all = rw passes refl
  filter_alone c (d ∷ ds) passes all =
      elim (cases_Bool (goes_first d c)) [
        | inl early ↦ rw (early, all.0) (filter_alone c ds passes all.1)
        | inr late ↦ rw (late, passes, all.0) (ap (λ (xs : List Claim). c ∷ xs) (filter_none ds all.1))
      ]

  -- one more at most
  pub count_inserted : (c : Claim) (cs : List Claim) → length (filter test (inserted c cs)) ≤ length (filter test cs) + 1
  unfolding inserted
  count_inserted c [] = elim (cases_Bool (test c)) [ inl passes ↦ rw passes (omega arith) | inr fails ↦ rw fails (omega arith) ]
  count_inserted c (d ∷ ds) =
      let rest = count_inserted c ds in
      elim (cases_Bool (goes_first d c)) [
        | inl early ↦ elim (cases_Bool (test d)) [ inl passes ↦ rw (early, passes) (omega (arith, rest)) | inr fails ↦ rw (early, fails) rest ]
        | inr late ↦ elim (cases_Bool (test c)) [ inl passes ↦ rw (late, passes) (omega arith) | inr fails ↦ rw (late, fails) (omega arith) ]
      ]

  pub count_removed : (c : Claim) (cs : List Claim) → length (filter test (removed c cs)) ≤ length (filter test cs)
  count_removed c [] = omega arith
  count_removed c (d ∷ ds) =
      let rest = count_removed c ds in
      elim (cases_Bool (same_claims d c)) [
        | inl same ↦ elim (cases_Bool (test d)) [ inl passes ↦ rw (same, passes) (omega arith) | inr fails ↦ rw (same, fails) (omega arith) ]
        | inr apart ↦ elim (cases_Bool (test d)) [ inl passes ↦ rw (apart, passes) (omega (arith, rest)) | inr fails ↦ rw (apart, fails) rest ]
      ]

-- what no cache of the party on the file passes stays
pub filter_wished : (test : Claim → Bool) (wanted : Wish) (o : Option CacheKind) (held : List Claim) → ((c : Claim) → is_its_cache wanted c ≡ true → test c ≡ false) → filter test (once_wished wanted o held) ≡ filter test held
unfolding changed
filter_wished test wanted None held fails = refl
filter_wished test wanted (Some kind) held fails = by (find (is_its_cache wanted) held) refl where
  its : is_its_cache wanted (wished_claim wanted kind) ≡ true
  its = rw (eq-eqb wanted.file wanted.file refl, same_parties-self wanted.party) refl

  by : (o : Option Claim) → find (is_its_cache wanted) held ≡ o → filter test (cached wanted kind o held) ≡ filter test held
  by None e = filter_inserted test (wished_claim wanted kind) held (fails (wished_claim wanted kind) its)
  by (Some c) e =
      let own = (found_own wanted held c e).1 in
      let new : Claim = with_what c (Cache kind None) in
      let there : is_its_cache wanted new ≡ true = (and_parts (is_cache c.what) ((c.file == wanted.file) && same_parties c.party wanted.party) own).1 in
      filter_inserted test new (removed c held) (fails new there) ∙ filter_removed test c held (fails c own)

pub count_wished : (test : Claim → Bool) (wanted : Wish) (o : Option CacheKind) (held : List Claim) → length (filter test (once_wished wanted o held)) ≤ length (filter test held) + 1
unfolding changed
count_wished test wanted None held = omega arith
count_wished test wanted (Some kind) held = by (find (is_its_cache wanted) held) where
  by : (o : Option Claim) → length (filter test (cached wanted kind o held)) ≤ length (filter test held) + 1
  by None = count_inserted test (wished_claim wanted kind) held
  by (Some c) = let put = count_inserted test (with_what c (Cache kind None)) (removed c held) in let out = count_removed test c held in omega (arith, put, out)

-- ---- what stays

-- shares and ranges
pub wish_others : (wanted : Wish) (s : CoreState) → others_of (wish_granted wanted s).claims ≡ others_of s.claims
unfolding wish_granted
wish_others wanted s =
    filter_wished (λ c. not (is_cache c.what)) wanted (wished_kind wanted s) s.claims (λ c own. let cache = (own_parts wanted c own).0 in rw cache refl)

pub wish_beside : (wanted : Wish) (s : CoreState) → IsSameButCaches s.claims (wish_granted wanted s).claims
wish_beside wanted s = same_others s.claims (wish_granted wanted s).claims (wish_others wanted s)

pub wish_spans : (wanted : Wish) (s : CoreState) (file : ℕ) (owner : Owner) → spans_of file owner (wish_granted wanted s).claims ≡ spans_of file owner s.claims
wish_spans wanted s = (wish_beside wanted s).spans

pub wish_shares : (wanted : Wish) (s : CoreState) (file : ℕ) (owner : Owner) → shares_of file owner (wish_granted wanted s).claims ≡ shares_of file owner s.claims
wish_shares wanted s = (wish_beside wanted s).shares

pub wish_elements : (wanted : Wish) (s : CoreState) (file : ℕ) (owner : Owner) → elements_of file owner (wish_granted wanted s).claims ≡ elements_of file owner s.claims
wish_elements wanted s = (wish_beside wanted s).elements

-- the claims on another file
pub wish_elsewhere : (wanted : Wish) (s : CoreState) (file : ℕ) → (wanted.file == file) ≡ false → filter (λ c. c.file == file) (wish_granted wanted s).claims ≡ filter (λ c. c.file == file) s.claims
unfolding wish_granted
wish_elsewhere wanted s file other =
    filter_wished (λ c. c.file == file) wanted (wished_kind wanted s) s.claims (λ c own. ap (λ (n : ℕ). n == file) (own_parts wanted c own).1 ∙ other)

-- the caches of others
pub wish_caches : (wanted : Wish) (s : CoreState) → filter (λ c. not (is_its_cache wanted c)) (wish_granted wanted s).claims ≡ filter (λ c. not (is_its_cache wanted c)) s.claims
unfolding wish_granted
wish_caches wanted s = filter_wished (λ c. not (is_its_cache wanted c)) wanted (wished_kind wanted s) s.claims (λ c own. rw own refl)

-- one cache more at most may be broken
pub wish_idle : (wanted : Wish) (s : CoreState) → idle_caches (wish_granted wanted s).claims ≤ idle_caches s.claims + 1
unfolding wish_granted
wish_idle wanted s = count_wished is_idle wanted (wished_kind wanted s) s.claims

pub wish_delegations : (wanted : Wish) (s : CoreState) → idle_delegations (wish_granted wanted s).claims ≤ idle_delegations s.claims + 1
unfolding wish_granted
wish_delegations wanted s = count_wished (λ c. is_idle c && is_recalled c.party) wanted (wished_kind wanted s) s.claims

-- where it gets no kind nothing changes
pub wish_none : (wanted : Wish) (s : CoreState) → wished_kind wanted s ≡ None → wish_granted wanted s ≡ s
unfolding wish_granted
wish_none wanted s none = ap (λ (o : Option CacheKind). record s { claims = once_wished wanted o s.claims }) none

-- ---- a party's cache on a file

-- the party's is of this kind then
own_kind : (wanted : Wish) (held : List Claim) (kind : CacheKind) → Pairwise is_single held → map (λ (c : Claim). c.what) (filter (is_its_cache wanted) (once_wished wanted (Some kind) held)) ≡ Cache kind None ∷ []
unfolding changed
own_kind wanted held kind single = by (find (is_its_cache wanted) held) refl where
  its : is_its_cache wanted (wished_claim wanted kind) ≡ true
  its = rw (eq-eqb wanted.file wanted.file refl, same_parties-self wanted.party) refl

  by : (o : Option Claim) → find (is_its_cache wanted) held ≡ o → map (λ (c : Claim). c.what) (filter (is_its_cache wanted) (cached wanted kind o held)) ≡ Cache kind None ∷ []
  by None e = ap (λ (cs : List Claim). map (λ (c : Claim). c.what) cs) (filter_alone (is_its_cache wanted) (wished_claim wanted kind) held its (none_found (is_its_cache wanted) held e))
  by (Some c) e =
      let found = found_own wanted held c e in
      let new : Claim = with_what c (Cache kind None) in
      let there : is_its_cache wanted new ≡ true = (and_parts (is_cache c.what) ((c.file == wanted.file) && same_parties c.party wanted.party) found.1).1 in
      let others = pairwise_others is_single is_single-sym c held found.0 single in
      let none = all_from (λ d. is_its_cache wanted d ≡ false) (removed c held) (λ d h. no_two wanted.file wanted.party c d (all_in (λ x. is_single c x ≡ true) d (removed c held) others h) found.1) in
      ap (λ (cs : List Claim). map (λ (x : Claim). x.what) cs) (filter_alone (is_its_cache wanted) new (removed c held) there none)

not_there : (wanted : Wish) (file : ℕ) (party : Party) (c : Claim) → (is_cache c.what ≡ true) × (c.file ≡ wanted.file) × (c.party ≡ wanted.party) → ((wanted.file == file) && same_parties wanted.party party) ≡ false → is_cache_on file party c ≡ false
not_there wanted file party c parts other =
    ap (λ (b : Bool). b && ((c.file == file) && same_parties c.party party)) parts.0
    ∙ ap (λ (n : ℕ). (n == file) && same_parties c.party party) parts.1
    ∙ ap (λ (p : Party). (wanted.file == file) && same_parties p party) parts.2
    ∙ other

-- of the party there is the cache of the kind that it gets, and of each other what was there
pub wish_cache : (wanted : Wish) (s : CoreState) (file : ℕ) (party : Party) → IsGood s
    → held_in (wish_granted wanted s).claims (CacheOf file party) ≡ else_was (wished_at wanted (wished_kind wanted s) file party) (held_in s.claims (CacheOf file party))
unfolding wish_granted
wish_cache wanted s file party good = by (wished_kind wanted s) where
  by : (o : Option CacheKind) → held_in (once_wished wanted o s.claims) (CacheOf file party) ≡ else_was (wished_at wanted o file party) (held_in s.claims (CacheOf file party))
  by None = refl
  by (Some kind) = at ((wanted.file == file) && same_parties wanted.party party) refl where
    at : (here : Bool) → ((wanted.file == file) && same_parties wanted.party party) ≡ here → held_in (once_wished wanted (Some kind) s.claims) (CacheOf file party) ≡ else_was (if here then Some (Cache kind None ∷ []) else None) (held_in s.claims (CacheOf file party))
    at false other = ap (λ (cs : List Claim). map (λ c. c.what) cs) (filter_wished (is_cache_on file party) wanted (Some kind) s.claims (λ c own. not_there wanted file party c (own_parts wanted c own) other))
    at true here =
        let both = and_parts (wanted.file == file) (same_parties wanted.party party) here in
        subst (λ (n : ℕ). held_in (once_wished wanted (Some kind) s.claims) (CacheOf n party) ≡ Cache kind None ∷ []) (eqb-true wanted.file file both.0)
        (subst (λ (p : Party). held_in (once_wished wanted (Some kind) s.claims) (CacheOf wanted.file p) ≡ Cache kind None ∷ []) (same_parties-true wanted.party party both.1) (own_kind wanted s.claims kind good.single))

-- ---- a break that runs

-- of one whose break runs its party gets no more
own_stays : (wanted : Wish) (held : List Claim) (o : Option CacheKind) (c : Claim) → IsIn c held → ((own : Claim) → IsSome o → find (is_its_cache wanted) held ≡ Some own → same_claims own c ≡ false) → IsIn c (once_wished wanted o held)
own_stays wanted held None c there apart = there
own_stays wanted held (Some kind) c there apart = by (find (is_its_cache wanted) held) refl where
  by : (found : Option Claim) → find (is_its_cache wanted) held ≡ found → IsIn c (cached wanted kind found held)
  by None e = stays_beside (wished_claim wanted kind) c held there
  by (Some own) e = stays_rest own c (Some kind) held there (apart own refl e)

-- a wish leaves it as it is
pub running_stays : (wanted : Wish) (s : CoreState) (c : Claim) → IsIn c s.claims → is_running c.what ≡ true → IsIn c (wish_granted wanted s).claims
unfolding wish_granted
running_stays wanted s c there runs = own_stays wanted s.claims (wished_kind wanted s) c there (λ own some found. idle own (wished_kind wanted s) refl some found) where
  idle : (own : Claim) (o : Option CacheKind) → wished_kind wanted s ≡ o → IsSome o → find (is_its_cache wanted) s.claims ≡ Some own → same_claims own c ≡ false
  idle own None e some found = absurd (both_ways false refl some)
  idle own (Some kind) e some found =
      let none : is_running own.what ≡ false = raised_idle wanted s own kind e found in
      elim (cases_Bool (same_claims own c)) [
        | inr apart ↦ apart
        | inl same ↦ absurd (both_ways (is_running own.what) none (ap (λ (x : Claim). is_running x.what) (same_claims-true own c same) ∙ runs))
      ]

-- ---- where it gets nothing

pub waits_stand : (wanted : Wish) (s : CoreState) → is_waited_for wanted.file s ≡ true → wish_granted wanted s ≡ s
waits_stand wanted s waits = sym (waits_granted wanted s waits)

pub full_stands : (wanted : Wish) (s : CoreState) → find (is_its_cache wanted) s.claims ≡ None → most_claims ≤ length s.claims → wish_granted wanted s ≡ s
full_stands wanted s none full = sym (full_granted wanted s None (sym none) (grind (arith, nat_tests)))
