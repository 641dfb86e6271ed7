-- What blocks an ask: for good, or a cache that a break may move.
use Rattle.std.proofs.Common.{◌≡◌, Bool, true, false, not, ◌&&◌, if◌then◌else◌, List, [], ◌∷◌, ◌++◌, Option, Some, None, inl, inr, refl, subst, map, IfSome, IsSome, sym, ap, is_some, ◌∙◌}
use Rattle.std.specs.List.{filter, list_any}
use Rattle.std.proofs.lemmas.Bool.{cases_Bool, both_ways, and_parts, and_from, or_cases, or_left, or_right, or_parts, not-true}
use Rattle.xl_base.specs.Lists.{IsIn}
use Rattle.xl_base.proofs.Members.{in_filter_from}
use Rattle.xl_base.proofs.Searches.{any_found, any_none, none_passes as none_pass}
use Rattle.xl_cache.specs.BreakPlans.{is_running, keeps_open, is_covered, is_final, blocking_shares, covers, is_in_the_way, broken_claim, is_obstacle, planned}
use Rattle.xl_cache.proofs.BreakLaws.{keeper_in_the_way}
use Rattle.xl_cache.proofs.BreakPlanLaws.{names_all, names_only}
use Rattle.xl_matrix.specs.Equal.{same_parties}
use Rattle.xl_matrix.specs.declared.claim.CacheKind.{CacheKind}
use Rattle.xl_matrix.specs.declared.claim.Claim.{Claim}
use Rattle.xl_table.specs.Flat.{blocks, is_blocked}
use Rattle.xl_table.specs.Held.{is_share, is_range, is_cache}
use Rattle.xl_table.specs.Least.{least}
use Rattle.xl_table.proofs.LeastLaws.{least_in, least_none, least_empty, none_passes, none_stays, one_passes}
use Rattle.xl_wait.specs.Waiting.{first_file, is_file, waiting_on}
use Rattle.xl_wait.specs.declared.waiter.Waiter.{Waiter}
use Rattle.xl_core.specs.State.{CoreState}
use Rattle.xl_core.specs.Blockers.{held_blockers, is_barred, is_against, waits_for_asker, ranges_of, ranges_of_all, ranges_ahead, first_claim, range_ahead, is_stopped, first_of, blocker, is_in_line, first_broken, cache_by, all_run, cache_against}
use Rattle.xl_core.specs.Causes.{IsBarring}

no_range : (o : Option Claim) → is_some o ≡ false → o ≡ None
no_range None e = refl
no_range (Some c) e = absurd (both_ways true e refl)

-- ---- what is held

pub held_none : (s : CoreState) (ask : Claim) → least s.names (held_blockers s ask) ≡ None → is_barred s ask ≡ false
unfolding held_blockers
held_none s ask e = none_passes (is_final ask s.claims) s.claims (least_none s.names (filter (is_final ask s.claims) s.claims) e)

pub none_held : (s : CoreState) (ask : Claim) → is_barred s ask ≡ false → least s.names (held_blockers s ask) ≡ None
unfolding held_blockers
none_held s ask free = least_empty s.names (filter (is_final ask s.claims) s.claims) (none_stays (is_final ask s.claims) s.claims free)

pub final_in : (s : CoreState) (ask c : Claim) → least s.names (held_blockers s ask) ≡ Some c → IsIn c s.claims × (is_final ask s.claims c ≡ true)
unfolding held_blockers
final_in s ask c e = in_filter_from (is_final ask s.claims) c s.claims (least_in s.names (filter (is_final ask s.claims) s.claims) c e)

pub held_some : (s : CoreState) (ask c : Claim) → least s.names (held_blockers s ask) ≡ Some c → IsIn c s.claims × (blocks ask c ≡ true)
held_some s ask c e = let found = final_in s ask c e in (found.0, (and_parts (blocks ask c) _ found.1).0)

pub held_bars : (s : CoreState) (ask c : Claim) → least s.names (held_blockers s ask) ≡ Some c → is_barred s ask ≡ true
held_bars s ask c e = let found = final_in s ask c e in one_passes (is_final ask s.claims) s.claims c found.0 found.1

pub barred_blocked : (s : CoreState) (ask : Claim) → is_barred s ask ≡ true → is_blocked s.claims ask ≡ true
barred_blocked s ask h =
    let found = any_found (is_final ask s.claims) s.claims h in
    one_passes (λ d. blocks ask d) s.claims found.0 found.1 (and_parts (blocks ask found.0) _ found.2).0

-- ---- for good, behind some who wait

-- what is named is held, or nothing held blocks for good and a range that is waited for is
pub blocker_by : (earlier : List Waiter) (s : CoreState) (ask : Claim) (o : Option Claim) → least s.names (held_blockers s ask) ≡ o → blocker earlier s ask ≡ first_of o (range_ahead earlier s ask)
unfolding blocker
blocker_by earlier s ask o e = ap (λ (x : Option Claim). first_of x (range_ahead earlier s ask)) e

pub blockers_none : (earlier : List Waiter) (s : CoreState) (ask : Claim) → blocker earlier s ask ≡ None → is_stopped earlier s ask ≡ false
blockers_none earlier s ask e = by (least s.names (held_blockers s ask)) refl where
  by : (o : Option Claim) → least s.names (held_blockers s ask) ≡ o → is_stopped earlier s ask ≡ false
  by (Some d) is = let two : Some d ≡ None = sym (blocker_by earlier s ask (Some d) is) ∙ e in absurd cc
  by None is = rw (held_none s ask is) (ap is_some (sym (blocker_by earlier s ask None is) ∙ e))

pub none_blockers : (earlier : List Waiter) (s : CoreState) (ask : Claim) → is_stopped earlier s ask ≡ false → blocker earlier s ask ≡ None
none_blockers earlier s ask free =
    let parts = or_parts (is_barred s ask) (is_some (range_ahead earlier s ask)) free in
    blocker_by earlier s ask None (none_held s ask parts.0) ∙ no_range (range_ahead earlier s ask) parts.1

pub some_stops : (earlier : List Waiter) (s : CoreState) (ask c : Claim) → blocker earlier s ask ≡ Some c → is_stopped earlier s ask ≡ true
some_stops earlier s ask c e = by (least s.names (held_blockers s ask)) refl where
  by : (o : Option Claim) → least s.names (held_blockers s ask) ≡ o → is_stopped earlier s ask ≡ true
  by (Some d) is = or_left (is_barred s ask) (is_some (range_ahead earlier s ask)) (held_bars s ask d is)
  by None is = or_right (is_barred s ask) (is_some (range_ahead earlier s ask)) (ap is_some (sym (blocker_by earlier s ask None is) ∙ e))

pub stopped_in_line : (earlier : List Waiter) (s : CoreState) (ask : Claim) → is_stopped earlier s ask ≡ true → is_in_line earlier s ask ≡ true
stopped_in_line earlier s ask h =
    elim (or_cases (is_barred s ask) (is_some (range_ahead earlier s ask)) h) [
      | inl barred ↦ or_left (is_blocked s.claims ask) (is_some (range_ahead earlier s ask)) (barred_blocked s ask barred)
      | inr behind ↦ or_right (is_blocked s.claims ask) (is_some (range_ahead earlier s ask)) behind
    ]

pub some_blocks : (earlier : List Waiter) (s : CoreState) (ask c : Claim) → blocker earlier s ask ≡ Some c → is_in_line earlier s ask ≡ true
some_blocks earlier s ask c e = stopped_in_line earlier s ask (some_stops earlier s ask c e)

pub blocked_in_line : (earlier : List Waiter) (s : CoreState) (ask : Claim) → is_blocked s.claims ask ≡ true → is_in_line earlier s ask ≡ true
blocked_in_line earlier s ask blocked = or_left (is_blocked s.claims ask) (is_some (range_ahead earlier s ask)) blocked

pub stops_some : (earlier : List Waiter) (s : CoreState) (ask : Claim) → is_stopped earlier s ask ≡ true → (c : Claim) × (blocker earlier s ask ≡ Some c)
stops_some earlier s ask stopped = go (blocker earlier s ask) refl where
  go : (o : Option Claim) → blocker earlier s ask ≡ o → (c : Claim) × (blocker earlier s ask ≡ Some c)
  go None e = absurd (both_ways (is_stopped earlier s ask) (blockers_none earlier s ask e) stopped)
  go (Some c) e = (c, e)

-- something does where one is named
pub stopped_is : (earlier : List Waiter) (s : CoreState) (ask : Claim) (o : Option Claim) → o ≡ blocker earlier s ask → is_some o ≡ is_stopped earlier s ask
stopped_is earlier s ask None e = sym (blockers_none earlier s ask (sym e))
stopped_is earlier s ask (Some c) e = sym (some_stops earlier s ask c (sym e))

-- ---- the range that is named

found_against : (ask c : Claim) (asked : List Claim) → first_claim (filter (is_against ask) asked) ≡ Some c → IsIn c asked × (is_against ask c ≡ true)
found_against ask c asked e = by asked e where
  same : (x y : Claim) → Some x ≡ Some y → x ≡ y
  same x y k = cc

  by : (cs : List Claim) → first_claim (filter (is_against ask) cs) ≡ Some c → IsIn c cs × (is_against ask c ≡ true)
  by [] k = absurd cc
  by (d ∷ ds) k =
      elim (cases_Bool (is_against ask d)) [
        | inl here ↦ let is : d ≡ c = same d c (sym (rw here refl) ∙ k) in (inl is, subst (λ (x : Claim). is_against ask x ≡ true) is here)
        | inr off ↦ let behind = by ds (sym (rw off refl) ∙ k) in (inr behind.0, behind.1)
      ]

first_append : (xs ys : List Claim) → first_claim (xs ++ ys) ≡ first_of (first_claim xs) (first_claim ys)
first_append [] ys = refl
first_append (x ∷ xs) ys = refl

-- one of these who wait asks for it, and doesn't wait for the asker
pub record IsAskedAhead (held : List Claim) (ask c : Claim) (ws : List Waiter) : Type 0 where
  pub waiter : Waiter
  pub waits : IsIn waiter ws
  pub asks : IsIn c waiter.asked
  pub against : is_against ask c ≡ true
  pub stays : waits_for_asker held ask waiter ≡ false

asked_ahead : (held : List Claim) (ask c : Claim) (ws : List Waiter) → first_claim (ranges_of_all held ask ws) ≡ Some c → IsAskedAhead held ask c ws
asked_ahead held ask c [] e = absurd cc
asked_ahead held ask c (w ∷ ws) e = by (first_claim (ranges_of held ask w)) refl (sym (first_append (ranges_of held ask w) (ranges_of_all held ask ws)) ∙ e) (λ k. asked_ahead held ask c ws k) where
  same : (x y : Claim) → Some x ≡ Some y → x ≡ y
  same x y k = cc

  here : first_claim (ranges_of held ask w) ≡ Some c → IsAskedAhead held ask c (w ∷ ws)
  here k = elim (cases_Bool (waits_for_asker held ask w)) [
    | inl waits ↦ let none : None ≡ Some c = sym (rw waits refl) ∙ k in absurd cc
    | inr stays ↦
        let found = found_against ask c w.asked (sym (rw stays refl) ∙ k) in
        record { waiter = w; waits = inl refl; asks = found.0; against = found.1; stays = stays }
  ]

  by : (o : Option Claim) → first_claim (ranges_of held ask w) ≡ o → first_of o (first_claim (ranges_of_all held ask ws)) ≡ Some c → (first_claim (ranges_of_all held ask ws) ≡ Some c → IsAskedAhead held ask c ws) → IsAskedAhead held ask c (w ∷ ws)
  by (Some d) is k rest = here (is ∙ k)
  by None is k rest = let behind = rest k in record { waiter = behind.waiter; waits = inr behind.waits; asks = behind.asks; against = behind.against; stays = behind.stays }

-- what is named as a range that is waited for is one
pub range_is : (earlier : List Waiter) (s : CoreState) (ask c : Claim) → range_ahead earlier s ask ≡ Some c → IsAskedAhead s.claims ask c earlier × (is_range ask.what ≡ true)
unfolding range_ahead ranges_ahead
range_is earlier s ask c e = elim (cases_Bool (is_range ask.what)) [
  | inr off ↦ let none : None ≡ Some c = sym (rw off refl) ∙ e in absurd cc
  | inl on ↦
      let found = asked_ahead s.claims ask c (waiting_on ask.file earlier) (sym (rw on refl) ∙ e) in (
        record { waiter = found.waiter; waits = (in_filter_from (λ w. is_file ask.file (first_file w.asked)) found.waiter earlier found.waits).0; asks = found.asks; against = found.against; stays = found.stays },
        on,
      )
]

-- where no range stands in front what is named is the least that is held
pub named_is_held : (earlier : List Waiter) (s : CoreState) (ask c : Claim) → range_ahead earlier s ask ≡ None → blocker earlier s ask ≡ Some c → least s.names (held_blockers s ask) ≡ Some c
named_is_held earlier s ask c none e = by (least s.names (held_blockers s ask)) refl where
  by : (o : Option Claim) → least s.names (held_blockers s ask) ≡ o → least s.names (held_blockers s ask) ≡ Some c
  by (Some d) is = is ∙ sym (blocker_by earlier s ask (Some d) is) ∙ e
  by None is = let two : None ≡ Some c = sym none ∙ sym (blocker_by earlier s ask None is) ∙ e in absurd cc

-- so what is named is held and blocks the ask, or is such a range
pub blockers_some : (earlier : List Waiter) (s : CoreState) (ask c : Claim) → blocker earlier s ask ≡ Some c → IsBarring earlier s ask c
blockers_some earlier s ask c e = by (least s.names (held_blockers s ask)) refl where
  by : (o : Option Claim) → least s.names (held_blockers s ask) ≡ o → IsBarring earlier s ask c
  by (Some d) is = inl (held_some s ask c (is ∙ sym (blocker_by earlier s ask (Some d) is) ∙ e))
  by None is =
      let range = range_is earlier s ask c (sym (blocker_by earlier s ask None is) ∙ e) in
      inr (record { waiter = range.0.waiter; waits = range.0.waits; asks = range.0.asks; range = range.1; against = range.0.against; stays = range.0.stays; unbarred = held_none s ask is })

-- ---- caches

-- what is in the way of an ask blocks it, or a share does that it covers
pub obstacle_blocks : (ask : Claim) (held : List Claim) (c : Claim) → IsIn c held → is_obstacle ask held c ≡ true → is_blocked held ask ≡ true
unfolding is_in_the_way
obstacle_blocks ask held c there way =
    elim (or_cases (is_cache c.what && blocks ask c) (covers ask (blocking_shares ask held) c) way) [
      | inl soft ↦ one_passes (λ d. blocks ask d) held c there (and_parts (is_cache c.what) (blocks ask c) soft).1
      | inr cover ↦
          let shares = blocking_shares ask held in
          let share = any_found (λ d. keeps_open d c) shares (and_parts (not (same_parties c.party ask.party)) (list_any (λ d. keeps_open d c) shares) cover).1 in
          let is = in_filter_from (λ d. is_share d.what && blocks ask d) share.0 held share.1 in
          one_passes (λ d. blocks ask d) held share.0 is.0 (and_parts (is_share share.0.what) (blocks ask share.0) is.1).1
    ]

-- what blocks an ask does so for good, or something is in its way
blocks_so : (ask : Claim) (held : List Claim) (c : Claim) → IsIn c held → blocks ask c ≡ true → is_final ask held c ≡ false → (d : Claim) × IsIn d held × (is_obstacle ask held d ≡ true)
unfolding is_covered is_in_the_way
blocks_so ask held c there blocked moves =
    elim (cases_Bool (is_cache c.what)) [
      | inl soft ↦ (c, there, or_left (is_cache c.what && blocks ask c) (covers ask (blocking_shares ask held) c) (and_from (is_cache c.what) (blocks ask c) soft blocked))
      | inr hard ↦
          let covered : is_covered ask held c ≡ true = stays (blocks ask c) (is_cache c.what) (is_covered ask held c) blocked hard moves in
          let parts = and_parts (is_share c.what) (not (same_parties c.party ask.party) && list_any (keeps_open c) held) covered in
          let rest = and_parts (not (same_parties c.party ask.party)) (list_any (keeps_open c) held) parts.1 in
          let keeper = any_found (keeps_open c) held rest.1 in
          (keeper.0, keeper.1, keeper_in_the_way ask held c keeper.0 there parts.0 blocked (not-true (same_parties c.party ask.party) rest.0) keeper.2)
    ]
  where
    stays : (x y z : Bool) → x ≡ true → y ≡ false → (x && (not y && not z)) ≡ false → z ≡ true
    stays x y true e f h = refl
    stays x y false e f h = let two : true ≡ false = rw (e, f) at h in absurd cc

-- the cache that a plan names is in the ask's way
pub cache_some : (held : List Claim) (ask c : Claim) → cache_against held ask ≡ Some c → IsIn c held × (is_obstacle ask held c ≡ true)
unfolding cache_against
cache_some held ask c e = by (planned ask held).awaited (planned ask held).breaks (names_only ask held).awaited (λ b i. (names_only ask held).begun b i) e where
  same : (x y : Claim) → Some x ≡ Some y → x ≡ y
  same x y k = cc

  by : (o : Option Claim) (bs : List (Claim × Option CacheKind)) → IfSome o (λ d. IsIn d held × (is_obstacle ask held d ≡ true) × (is_running d.what ≡ true))
      → ((b : Claim × Option CacheKind) → IsIn b bs → IsIn b.0 held × (is_obstacle ask held b.0 ≡ true) × (is_running b.0.what ≡ false)) → cache_by o bs ≡ Some c → IsIn c held × (is_obstacle ask held c ≡ true)
  by (Some d) bs is begun k = subst (λ (x : Claim). IsIn x held × (is_obstacle ask held x ≡ true)) (same d c k) (is.0, is.1)
  by None [] is begun k = absurd cc
  by None (b ∷ bs) is begun k = let one = begun b (inl refl) in subst (λ (x : Claim). IsIn x held × (is_obstacle ask held x ≡ true)) (same b.0 c k) (one.0, one.1)

-- and where no break is left to begin for the ask, its break runs
pub cache_runs : (held : List Claim) (ask c : Claim) → all_run held ask ≡ true → cache_against held ask ≡ Some c → is_running c.what ≡ true
unfolding cache_against
cache_runs held ask c run e = by (planned ask held).awaited (planned ask held).breaks (names_only ask held).awaited run e where
  same : (x y : Claim) → Some x ≡ Some y → x ≡ y
  same x y k = cc

  by : (o : Option Claim) (bs : List (Claim × Option CacheKind)) → IfSome o (λ d. IsIn d held × (is_obstacle ask held d ≡ true) × (is_running d.what ≡ true)) → not (is_some (first_broken bs)) ≡ true → cache_by o bs ≡ Some c → is_running c.what ≡ true
  by (Some d) bs is none k = subst (λ (x : Claim). is_running x.what ≡ true) (same d c k) is.2
  by None [] is none k = absurd cc
  by None (b ∷ bs) is none k = absurd (both_ways false refl none)

-- where a plan names none nothing is
cache_none : (held : List Claim) (ask c : Claim) → cache_against held ask ≡ None → IsIn c held → is_obstacle ask held c ≡ true → ⊥
unfolding cache_against
cache_none held ask c e there way =
    elim (cases_Bool (is_running c.what)) [
      | inl runs ↦ waited (planned ask held).awaited (planned ask held).breaks ((names_all ask held).awaited c there way runs) e
      | inr idle ↦ begun (planned ask held).awaited (planned ask held).breaks ((names_all ask held).begun c there way idle) e
    ]
  where
    waited : (o : Option Claim) (bs : List (Claim × Option CacheKind)) → IsSome o → cache_by o bs ≡ None → ⊥
    waited (Some d) bs some k = cc
    waited None bs some k = cc

    begun : (o : Option Claim) (bs : List (Claim × Option CacheKind)) → IsIn c (map broken_claim bs) → cache_by o bs ≡ None → ⊥
    begun (Some d) bs i k = cc
    begun None [] i k = i
    begun None (b ∷ bs) i k = cc

-- ---- both

pub cache_blocked : (held : List Claim) (ask c : Claim) → cache_against held ask ≡ Some c → is_blocked held ask ≡ true
cache_blocked held ask c e = let found = cache_some held ask c e in obstacle_blocks ask held c found.0 found.1

-- what neither blocks for good nor by a cache is free
pub unbarred_free : (s : CoreState) (ask : Claim) → is_barred s ask ≡ false → cache_against s.claims ask ≡ None → is_blocked s.claims ask ≡ false
unbarred_free s ask moves clear =
    any_none (blocks ask) s.claims (λ c there.
    elim (cases_Bool (blocks ask c)) [
      | inr e ↦ e
      | inl b ↦ let way = blocks_so ask s.claims c there b (none_pass (is_final ask s.claims) c s.claims moves there) in absurd (cache_none s.claims ask way.0 clear way.1 way.2)
    ])

pub free_unless : (earlier : List Waiter) (s : CoreState) (ask : Claim) → is_stopped earlier s ask ≡ false → cache_against s.claims ask ≡ None → is_in_line earlier s ask ≡ false
free_unless earlier s ask moves clear =
    let parts = or_parts (is_barred s ask) (is_some (range_ahead earlier s ask)) moves in
    rw (unbarred_free s ask parts.0 clear) parts.1

pub free_moves : (earlier : List Waiter) (s : CoreState) (ask : Claim) → is_in_line earlier s ask ≡ false → is_stopped earlier s ask ≡ false
free_moves earlier s ask free =
    elim (cases_Bool (is_stopped earlier s ask)) [
      | inr e ↦ e
      | inl stopped ↦ absurd (both_ways (is_in_line earlier s ask) free (stopped_in_line earlier s ask stopped))
    ]

-- of what waits in front and of what is held
pub free_parts : (earlier : List Waiter) (s : CoreState) (ask : Claim) → is_in_line earlier s ask ≡ false → (is_blocked s.claims ask ≡ false) × (range_ahead earlier s ask ≡ None)
free_parts earlier s ask free = let parts = or_parts (is_blocked s.claims ask) (is_some (range_ahead earlier s ask)) free in (parts.0, no_range (range_ahead earlier s ask) parts.1)

pub free_from : (earlier : List Waiter) (s : CoreState) (ask : Claim) → is_blocked s.claims ask ≡ false → range_ahead earlier s ask ≡ None → is_in_line earlier s ask ≡ false
free_from earlier s ask free none = rw free (ap is_some none)

-- nobody waits in front of nobody
pub none_ahead : (s : CoreState) (ask : Claim) → range_ahead [] s ask ≡ None
unfolding range_ahead ranges_ahead
none_ahead s ask = by (is_range ask.what) where
  by : (b : Bool) → first_claim (if b then [] else []) ≡ None
  by true = refl
  by false = refl

pub free_clear : (held : List Claim) (ask : Claim) → is_blocked held ask ≡ false → cache_against held ask ≡ None
free_clear held ask free = by (cache_against held ask) refl where
  by : (o : Option Claim) → cache_against held ask ≡ o → o ≡ None
  by None e = refl
  by (Some c) e = absurd (both_ways (is_blocked held ask) free (cache_blocked held ask c e))

-- what blocks, and not for good, is a cache's doing
pub moves_blocked : (earlier : List Waiter) (s : CoreState) (ask : Claim) → is_in_line earlier s ask ≡ true → is_stopped earlier s ask ≡ false → is_blocked s.claims ask ≡ true
moves_blocked earlier s ask line moves =
    elim (or_cases (is_blocked s.claims ask) (is_some (range_ahead earlier s ask)) line) [
      | inl blocked ↦ blocked
      | inr behind ↦ absurd (both_ways (is_some (range_ahead earlier s ask)) (or_parts (is_barred s ask) (is_some (range_ahead earlier s ask)) moves).1 behind)
    ]

pub moves_cache : (earlier : List Waiter) (s : CoreState) (ask : Claim) → is_in_line earlier s ask ≡ true → is_stopped earlier s ask ≡ false → (c : Claim) × (cache_against s.claims ask ≡ Some c)
moves_cache earlier s ask line moves = by (cache_against s.claims ask) refl where
  by : (o : Option Claim) → cache_against s.claims ask ≡ o → (c : Claim) × (cache_against s.claims ask ≡ Some c)
  by None e = absurd (both_ways (is_in_line earlier s ask) (free_unless earlier s ask moves e) line)
  by (Some c) e = (c, e)
