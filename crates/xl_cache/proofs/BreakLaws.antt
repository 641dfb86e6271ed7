-- What is left of a broken cache may stand beside what is asked, and is less than there was; and an ask that need not
-- wait is blocked by nothing that is left.
use Rattle.std.proofs.Common.{◌≡◌, Bool, true, false, not, ◌&&◌, ◌||◌, ◌==◌, Option, Some, None, inl, inr, List, find, refl, sym, ap, subst, ◌∙◌}
use Rattle.std.specs.Prelude.{IsSome, IfSome}
use Rattle.std.specs.List.{list_any}
use Rattle.std.proofs.lemmas.Bool.{cases_Bool, both_ways, and_parts, and_from, or_cases, or_left, or_right, or_parts, not-true, not-false, not_from_false}
use Rattle.xl_base.specs.Lists.{IsIn}
use Rattle.xl_base.specs.declared.name.Owner.{Owner}
use Rattle.xl_base.specs.declared.name.Party.{Party}
use Rattle.xl_base.proofs.Members.{in_filter, in_filter_from}
use Rattle.xl_base.proofs.Searches.{any_found, any_from, any_none, none_passes, find_some, in_filter_map, in_filter_map_from}
use Rattle.xl_matrix.specs.declared.claim.Rwd.{Rwd}
use Rattle.xl_matrix.specs.declared.claim.CacheKind.{CacheKind}
use Rattle.xl_matrix.specs.declared.claim.CacheKind.TheVariants.{R, RH, RW, RWH, ReadDeleg, WriteDeleg}
use Rattle.xl_matrix.specs.declared.claim.Break.{Break}
use Rattle.xl_matrix.specs.declared.claim.What.{What}
use Rattle.xl_matrix.specs.declared.claim.What.TheVariants.{Share, Range, Cache}
use Rattle.xl_matrix.specs.declared.claim.Claim.{Claim}
use Rattle.xl_matrix.specs.Kinds.{guarding, keeps_handle}
use Rattle.xl_matrix.specs.Equal.{same_owners, same_parties, same_claims}
use Rattle.xl_matrix.specs.Matrix.{fit_by, compat}
use Rattle.xl_matrix.specs.Blocks.{is_share, is_range, is_cache, is_own, is_met, is_met_by_own, blocks}
use Rattle.xl_matrix.proofs.EqualLaws.{same_parties-true, same_claims-self}
use Rattle.xl_cache.specs.declared.need.Need.{Need}
use Rattle.xl_cache.specs.Targets.{loses_handle, target_of}
use Rattle.xl_cache.specs.BreakPlans.{keeps_handle_by, is_running, with_kind, keeps_open, is_covered, is_final, blocking_shares, covers, is_in_the_way, need_of, break_by, break_of, needs_answer_by, is_slow, recalled_by, is_ended, left_by, planned, is_obstacle, FitsWhenBroken, is_less}
use Rattle.xl_cache.proofs.TargetLaws.{rest_by}
use Rattle.xl_cache.proofs.BreakPlanLaws.{no_wait, obstacle_breaks, names_all}

-- ---- what is left

-- what is left stands against no share
quiet : (kind : CacheKind) (range handle : Bool) → IfSome (rest_by kind range handle) (λ left. (access deny : Rwd) → guarding left access deny ≡ false)
quiet R true handle = tt
quiet RH true handle = tt
quiet RW true handle = tt
quiet RWH true handle = tt
quiet ReadDeleg true handle = tt
quiet WriteDeleg true handle = tt
quiet R false true = λ access deny. refl
quiet RH false true = λ access deny. refl
quiet RW false true = λ access deny. refl
quiet RWH false true = λ access deny. refl
quiet ReadDeleg false true = tt
quiet WriteDeleg false true = tt
quiet R false false = λ access deny. refl
quiet RH false false = λ access deny. refl
quiet RW false false = λ access deny. refl
quiet RWH false false = λ access deny. refl
quiet ReadDeleg false false = tt
quiet WriteDeleg false false = tt

-- it may stand beside what is asked
fits_by : (ask c : Claim) (what : What) (left : Option CacheKind) → is_cache what ≡ false → (is_range what ≡ true → left ≡ None) → IfSome left (λ kind. (access deny : Rwd) → guarding kind access deny ≡ false) → IfSome left (λ kind. fit_by ask (with_kind c kind) what (Cache kind None) ≡ true)
unfolding fit_by
fits_by ask c what None n r q = tt
fits_by ask c (Share access deny) (Some kind) n r q = or_right (same_parties ask.party c.party) (not (guarding kind access deny)) (not_from_false (guarding kind access deny) (q access deny))
fits_by ask c (Range extent exclusive) (Some kind) n r q = let none : Some kind ≡ None = r refl in absurd cc
fits_by ask c (Cache other running) (Some kind) n r q = absurd (both_ways true n refl)

fits_then : (ask c : Claim) (left : Option CacheKind) → IfSome left (λ kind. fit_by ask (with_kind c kind) ask.what (Cache kind None) ≡ true) → IfSome left (λ kind. compat ask (with_kind c kind) ≡ true)
unfolding compat
fits_then ask c None h = tt
fits_then ask c (Some kind) h = or_right (not (ask.file == c.file)) (fit_by ask (with_kind c kind) ask.what (Cache kind None)) h

ends_for_range : (kind : CacheKind) (range handle : Bool) → range ≡ true → rest_by kind range handle ≡ None
ends_for_range R true handle h = refl
ends_for_range RH true handle h = refl
ends_for_range RW true handle h = refl
ends_for_range RWH true handle h = refl
ends_for_range ReadDeleg true handle h = refl
ends_for_range WriteDeleg true handle h = refl
ends_for_range kind false handle h = absurd (both_ways false refl h)

target_fits : (ask c : Claim) (kind : CacheKind) (need : Need) → is_cache ask.what ≡ false → need.range ≡ is_range ask.what → IfSome (target_of kind need) (λ left. compat ask (with_kind c left) ≡ true)
unfolding target_of
target_fits ask c kind need n r =
    fits_then ask c (rest_by kind need.range (loses_handle need))
    (fits_by ask c ask.what (rest_by kind need.range (loses_handle need)) n (λ (range : is_range ask.what ≡ true). ends_for_range kind need.range (loses_handle need) (r ∙ range)) (quiet kind need.range (loses_handle need)))

-- a break and what it leaves, of a cache
begun_fits : (ask c : Claim) (need : Need) (what : What) (b : Claim × Option CacheKind) → is_cache ask.what ≡ false → need.range ≡ is_range ask.what → break_by c need what ≡ Some b → FitsWhenBroken ask b
begun_fits ask c need (Share access deny) b n r h = absurd cc
begun_fits ask c need (Range extent exclusive) b n r h = absurd cc
begun_fits ask c need (Cache kind (Some running)) b n r h = absurd cc
begun_fits ask c need (Cache kind None) b n r h = subst (λ (e : Claim × Option CacheKind). FitsWhenBroken ask e) (inside b h) (target_fits ask c kind need n r) where
  or_pair : Claim × Option CacheKind → Option (Claim × Option CacheKind) → Claim × Option CacheKind
  or_pair d None = d
  or_pair d (Some e) = e

  inside : (b : Claim × Option CacheKind) → Some (c, target_of kind need) ≡ Some b → (c, target_of kind need) ≡ b
  inside b h = ap (or_pair b) h

pub plan_fits : (ask : Claim) (held : List Claim) → is_cache ask.what ≡ false → (b : Claim × Option CacheKind) → IsIn b (planned ask held).breaks → FitsWhenBroken ask b
unfolding planned break_of
plan_fits ask held n b i =
    let shares = blocking_shares ask held in
    let from = in_filter_map_from (break_of ask shares) b held i in
    elim (cases_Bool (is_in_the_way ask shares from.0)) [
      | inl there ↦ begun_fits ask from.0 (need_of ask shares from.0) from.0.what b n refl (rw there at from.2)
      | inr clear ↦ let none : None ≡ Some b = rw clear at from.2 in absurd cc
    ]

-- ---- a break leaves less

-- what keeps a handle ends, or loses it, where the handle has to go
less_handle : (c : Claim) (kind : CacheKind) (range handle : Bool) → keeps_handle kind ≡ true → handle ≡ true → is_less (Cache kind None) (rest_by kind range handle) ≡ true
less_handle c R range handle k h = absurd (both_ways false refl k)
less_handle c RW range handle k h = absurd (both_ways false refl k)
less_handle c RH true true k h = refl
less_handle c RH false true k h = refl
less_handle c RWH true true k h = refl
less_handle c RWH false true k h = refl
less_handle c ReadDeleg true true k h = refl
less_handle c ReadDeleg false true k h = refl
less_handle c WriteDeleg true true k h = refl
less_handle c WriteDeleg false true k h = refl
less_handle c kind range false k h = absurd (both_ways false refl h)

-- what stands against a share ends, or no longer writes
less_share : (kind : CacheKind) (access deny : Rwd) (range handle : Bool) → guarding kind access deny ≡ true → is_less (Cache kind None) (rest_by kind range handle) ≡ true
less_share R access deny range handle g = absurd (both_ways false refl g)
less_share RH access deny range handle g = absurd (both_ways false refl g)
less_share RW access deny true handle g = refl
less_share RW access deny false true g = refl
less_share RW access deny false false g = refl
less_share RWH access deny true handle g = refl
less_share RWH access deny false true g = refl
less_share RWH access deny false false g = refl
less_share ReadDeleg access deny true handle g = refl
less_share ReadDeleg access deny false true g = refl
less_share ReadDeleg access deny false false g = refl
less_share WriteDeleg access deny true handle g = refl
less_share WriteDeleg access deny false true g = refl
less_share WriteDeleg access deny false false g = refl

less_range : (kind : CacheKind) (range handle : Bool) → range ≡ true → is_less (Cache kind None) (rest_by kind range handle) ≡ true
less_range kind range handle h = rw (ends_for_range kind range handle h) refl

-- a cache is nobody's to replace, and meets no range of its owner
not_met : (owner : Owner) (what : What) (other : Owner) (kind : CacheKind) (running : Option Break) → is_met owner what other (Cache kind running) ≡ false
not_met owner (Share access deny) other kind running = refl
not_met owner (Range extent true) other kind running = refl
not_met owner (Range extent false) other kind running = refl
not_met owner (Cache second due) other kind running = refl

-- a cache that blocks doesn't fit
soft_by : (ask c : Claim) (kind : CacheKind) (running : Option Break) → c.what ≡ Cache kind running → blocks ask c ≡ true → fit_by ask c ask.what c.what ≡ false
unfolding blocks compat
soft_by ask c kind running is h =
    let parts = and_parts (not (is_own ask c)) (not (compat ask c) || is_met_by_own ask c) h in
    elim (or_cases (not (compat ask c)) (is_met_by_own ask c) parts.1) [
      | inl apart ↦ (or_parts (not (ask.file == c.file)) (fit_by ask c ask.what c.what) (not-true (compat ask c) apart)).1
      | inr met ↦
          let at = and_parts (ask.file == c.file) (same_owners ask.owner c.owner && is_met ask.owner ask.what c.owner c.what) met in
          let on = and_parts (same_owners ask.owner c.owner) (is_met ask.owner ask.what c.owner c.what) at.1 in
          absurd (both_ways (is_met ask.owner ask.what c.owner c.what) (rw is (not_met ask.owner ask.what c.owner kind running)) on.1)
    ]

soft_less : (ask c : Claim) (what : What) (kind : CacheKind) (range handle : Bool) → is_cache what ≡ false → range ≡ is_range what → fit_by ask c what (Cache kind None) ≡ false → is_less (Cache kind None) (rest_by kind range handle) ≡ true
unfolding fit_by
soft_less ask c (Share access deny) kind range handle n r h = less_share kind access deny range handle (not-false (guarding kind access deny) (or_parts (same_parties ask.party c.party) (not (guarding kind access deny)) h).1)
soft_less ask c (Range extent exclusive) kind range handle n r h = less_range kind range handle r
soft_less ask c (Cache other running) kind range handle n r h = absurd (both_ways true n refl)

-- a cache in the way is broken to less
obstacle_less : (ask c : Claim) (shares : List Claim) (kind : CacheKind) → is_cache ask.what ≡ false → c.what ≡ Cache kind None → is_in_the_way ask shares c ≡ true → is_less (Cache kind None) (target_of kind (need_of ask shares c)) ≡ true
unfolding is_in_the_way target_of
obstacle_less ask c shares kind n is h =
    elim (or_cases (is_cache c.what && blocks ask c) (covers ask shares c) h) [
      | inl soft ↦
          let apart : fit_by ask c ask.what (Cache kind None) ≡ false = subst (λ (w : What). fit_by ask c ask.what w ≡ false) is (soft_by ask c kind None is (and_parts (is_cache c.what) (blocks ask c) soft).1) in
          soft_less ask c ask.what kind (is_range ask.what) (loses_handle (need_of ask shares c)) n refl apart
      | inr cover ↦
          let one = any_found (λ share. keeps_open share c) shares (and_parts (not (same_parties c.party ask.party)) (list_any (λ share. keeps_open share c) shares) cover).1 in
          let keeps : keeps_handle_by c.what ≡ true = (and_parts (keeps_handle_by c.what) _ one.2).0 in
          let goes : loses_handle (need_of ask shares c) ≡ true = or_left (covers ask shares c) _ cover in
          less_handle c kind (is_range ask.what) (loses_handle (need_of ask shares c)) (subst (λ (w : What). keeps_handle_by w ≡ true) is keeps) goes
    ]

begun_less : (ask c : Claim) (shares : List Claim) (what : What) (b : Claim × Option CacheKind) → is_cache ask.what ≡ false → c.what ≡ what → is_in_the_way ask shares c ≡ true → break_by c (need_of ask shares c) what ≡ Some b → is_less b.0.what b.1 ≡ true
begun_less ask c shares (Share access deny) b n is t h = absurd cc
begun_less ask c shares (Range extent exclusive) b n is t h = absurd cc
begun_less ask c shares (Cache kind (Some running)) b n is t h = absurd cc
begun_less ask c shares (Cache kind None) b n is t h =
    subst (λ (e : Claim × Option CacheKind). is_less e.0.what e.1 ≡ true) (inside b h) (subst (λ (w : What). is_less w (target_of kind (need_of ask shares c)) ≡ true) (sym is) (obstacle_less ask c shares kind n is t))
  where
    or_pair : Claim × Option CacheKind → Option (Claim × Option CacheKind) → Claim × Option CacheKind
    or_pair d None = d
    or_pair d (Some e) = e

    inside : (b : Claim × Option CacheKind) → Some (c, target_of kind (need_of ask shares c)) ≡ Some b → (c, target_of kind (need_of ask shares c)) ≡ b
    inside b h = ap (or_pair b) h

pub plan_less : (ask : Claim) (held : List Claim) → is_cache ask.what ≡ false → (b : Claim × Option CacheKind) → IsIn b (planned ask held).breaks → is_less b.0.what b.1 ≡ true
unfolding planned break_of
plan_less ask held n b i =
    let shares = blocking_shares ask held in
    let from = in_filter_map_from (break_of ask shares) b held i in
    elim (cases_Bool (is_in_the_way ask shares from.0)) [
      | inl there ↦ begun_less ask from.0 shares from.0.what b n refl there (rw there at from.2)
      | inr clear ↦ let none : None ≡ Some b = rw clear at from.2 in absurd cc
    ]

-- ---- an ask that need not wait

some_none : {A : Type 0} (o : Option A) → o ≡ None → IsSome o → ⊥
some_none None e s = both_ways false refl s
some_none (Some x) e s = absurd cc

-- where nothing is waited for, an obstacle's break begins, and needs no answer
at_once : (ask : Claim) (held : List Claim) (c : Claim) → recalled_by (planned ask held) ≡ None → IsIn c held → is_obstacle ask held c ≡ true → (left : Option CacheKind) × IsIn (c, left) (planned ask held).breaks × (is_slow (c, left) ≡ false)
unfolding planned
at_once ask held c none i t =
    let quick = no_wait (planned ask held) none in
    elim (cases_Bool (is_running c.what)) [
      | inl runs ↦ absurd (some_none (planned ask held).awaited quick.0 ((names_all ask held).awaited c i t runs))
      | inr still ↦
          let b = obstacle_breaks ask (blocking_shares ask held) c t still in
          let there : IsIn (c, b.0) (planned ask held).breaks = in_filter_map (break_of ask (blocking_shares ask held)) c (c, b.0) held i b.1 in
          elim (cases_Bool (is_slow (c, b.0))) [
            | inl slow ↦ absurd (some_none (find is_slow (planned ask held).breaks) quick.1 (find_some is_slow (c, b.0) (planned ask held).breaks there slow))
            | inr quick ↦ (b.0, there, quick)
          ]
    ]

-- a cache that keeps the handle never ends at once
pub handle_is_slow : (what : What) (left : Option CacheKind) → keeps_handle_by what ≡ true → needs_answer_by what left ≡ true
handle_is_slow (Share access deny) left h = h
handle_is_slow (Range extent exclusive) left h = h
handle_is_slow (Cache R running) left h = absurd (both_ways false refl h)
handle_is_slow (Cache RW running) left h = absurd (both_ways false refl h)
handle_is_slow (Cache RH running) left h = refl
handle_is_slow (Cache RWH running) left h = refl
handle_is_slow (Cache ReadDeleg running) left h = refl
handle_is_slow (Cache WriteDeleg running) left h = refl

-- the keeper of a covered share is in the way
pub keeper_in_the_way : (ask : Claim) (held : List Claim) (share c : Claim) → IsIn share held → is_share share.what ≡ true → blocks ask share ≡ true → same_parties share.party ask.party ≡ false → keeps_open share c ≡ true → is_obstacle ask held c ≡ true
unfolding is_in_the_way
keeper_in_the_way ask held share c i s b p k =
    let opens = (and_parts (keeps_handle_by c.what) _ k).1 in
    let one : share.party ≡ c.party = same_parties-true share.party c.party (and_parts (share.file == c.file) (same_parties share.party c.party) opens).1 in
    let apart : same_parties c.party ask.party ≡ false = subst (λ (q : Party). same_parties q ask.party ≡ false) one p in
    let there = in_filter (λ d. is_share d.what && blocks ask d) share held i (and_from (is_share share.what) (blocks ask share) s b) in
    or_right (is_cache c.what && blocks ask c) (covers ask (blocking_shares ask held) c)
    (and_from (not (same_parties c.party ask.party)) (list_any (λ d. keeps_open d c) (blocking_shares ask held)) (not_from_false (same_parties c.party ask.party) apart) (any_from (λ d. keeps_open d c) share (blocking_shares ask held) there k))

-- an obstacle that is not waited for has ended
obstacle_ends : (ask : Claim) (held : List Claim) (c : Claim) → recalled_by (planned ask held) ≡ None → IsIn c held → is_obstacle ask held c ≡ true → is_ended (planned ask held).breaks c ≡ true
obstacle_ends ask held c none i t =
    let b = at_once ask held c none i t in
    any_from (λ e. same_claims e.0 c && not (is_slow e)) (c, b.0) (planned ask held).breaks b.1
    (and_from (same_claims c c) (not (is_slow (c, b.0))) (same_claims-self c) (not_from_false (is_slow (c, b.0)) b.2))

-- what is covered is waited for
covered_waits : (ask : Claim) (held : List Claim) (share : Claim) → recalled_by (planned ask held) ≡ None → IsIn share held → blocks ask share ≡ true → is_covered ask held share ≡ true → ⊥
unfolding is_covered
covered_waits ask held share none i b h =
    let parts = and_parts (is_share share.what) (not (same_parties share.party ask.party) && list_any (keeps_open share) held) h in
    let rest = and_parts (not (same_parties share.party ask.party)) (list_any (keeps_open share) held) parts.1 in
    let keeper = any_found (keeps_open share) held rest.1 in
    let t = keeper_in_the_way ask held share keeper.0 i parts.0 b (not-true (same_parties share.party ask.party) rest.0) keeper.2 in
    let begun = at_once ask held keeper.0 none keeper.1 t in
    both_ways (is_slow (keeper.0, begun.0)) begun.2 (handle_is_slow keeper.0.what begun.0 (and_parts (keeps_handle_by keeper.0.what) _ keeper.2).0)

blocker_ends : (ask : Claim) (held : List Claim) (c : Claim) → recalled_by (planned ask held) ≡ None → list_any (is_final ask held) held ≡ false → IsIn c held → blocks ask c ≡ true → is_ended (planned ask held).breaks c ≡ true
unfolding is_in_the_way
blocker_ends ask held c none free i b =
    elim (cases_Bool (is_cache c.what)) [
      | inl cache ↦ obstacle_ends ask held c none i (or_left (is_cache c.what && blocks ask c) (covers ask (blocking_shares ask held) c) (and_from (is_cache c.what) (blocks ask c) cache b))
      | inr hard ↦ elim (cases_Bool (is_covered ask held c)) [
        | inl covered ↦ absurd (covered_waits ask held c none i b covered)
        | inr bare ↦
            absurd
            (both_ways (is_final ask held c) (none_passes (is_final ask held) c held free i)
            (and_from (blocks ask c) (not (is_cache c.what) && not (is_covered ask held c)) b (and_from (not (is_cache c.what)) (not (is_covered ask held c)) (not_from_false (is_cache c.what) hard) (not_from_false (is_covered ask held c) bare))))
      ]
    ]

pub plan_frees : (ask : Claim) (held : List Claim) → recalled_by (planned ask held) ≡ None → list_any (is_final ask held) held ≡ false → list_any (blocks ask) (left_by (planned ask held) held) ≡ false
unfolding left_by
plan_frees ask held none free =
    any_none (blocks ask) (left_by (planned ask held) held)
    (λ c i.
    let stays = in_filter_from (λ d. not (is_ended (planned ask held).breaks d)) c held i in
    elim (cases_Bool (blocks ask c)) [
      | inl b ↦ absurd (both_ways (is_ended (planned ask held).breaks c) (not-true (is_ended (planned ask held).breaks c) stays.1) (blocker_ends ask held c none free stays.0 b))
      | inr e ↦ e
    ])
