-- A plan names each cache in the way of an ask, and no other.
use Rattle.std.proofs.Common.{◌≡◌, true, false, not, ◌&&◌, Option, Some, None, inl, inr, List, map, find, refl, sym, ap, subst}
use Rattle.std.specs.Prelude.{IfSome}
use Rattle.std.specs.List.{filter, list_any, AllByRecursion}
use Rattle.std.proofs.lemmas.Bool.{cases_Bool, both_ways, and_parts, and_from, or_cases}
use Rattle.xl_base.specs.Lists.{IsIn}
use Rattle.xl_base.proofs.Members.{in_map, in_filter}
use Rattle.xl_base.proofs.Searches.{any_found, find_in, find_some, none_found, in_filter_map, in_filter_map_from}
use Rattle.xl_matrix.specs.declared.claim.CacheKind.{CacheKind}
use Rattle.xl_matrix.specs.declared.claim.What.{What}
use Rattle.xl_matrix.specs.declared.claim.What.TheVariants.{Share, Range, Cache}
use Rattle.xl_matrix.specs.declared.claim.Claim.{Claim}
use Rattle.xl_matrix.specs.Equal.{same_parties}
use Rattle.xl_matrix.specs.Blocks.{is_cache, blocks}
use Rattle.xl_cache.specs.declared.need.Need.{Need}
use Rattle.xl_cache.specs.declared.break_plan.BreakPlan.{BreakPlan}
use Rattle.xl_cache.specs.Targets.{target_of}
use Rattle.xl_cache.specs.BreakPlans.{keeps_handle_by, is_running, keeps_open, blocking_shares, covers, is_in_the_way, need_of, break_by, break_of, is_awaited, is_slow, recalled_from, recalled_by, planned, broken_claim, is_obstacle, NamesAll, NamesOnly}

-- what keeps a handle is a cache
keeper_is_cache : (what : What) → keeps_handle_by what ≡ true → is_cache what ≡ true
keeper_is_cache (Share access deny) h = h
keeper_is_cache (Range extent exclusive) h = h
keeper_is_cache (Cache kind running) h = refl

pub obstacle_is_cache : (ask : Claim) (shares : List Claim) (c : Claim) → is_in_the_way ask shares c ≡ true → is_cache c.what ≡ true
unfolding is_in_the_way
obstacle_is_cache ask shares c h =
    elim (or_cases (is_cache c.what && blocks ask c) (covers ask shares c) h) [
      | inl soft ↦ (and_parts (is_cache c.what) (blocks ask c) soft).0
      | inr cover ↦
          let one = any_found (λ share. keeps_open share c) shares (and_parts (not (same_parties c.party ask.party)) (list_any (λ share. keeps_open share c) shares) cover).1 in
          keeper_is_cache c.what (and_parts (keeps_handle_by c.what) _ one.2).0
    ]

-- a cache of which no break runs gets one
begins : (c : Claim) (need : Need) (what : What) → is_cache what ≡ true → is_running what ≡ false → (left : Option CacheKind) × (break_by c need what ≡ Some (c, left))
begins c need (Share access deny) h r = absurd (both_ways false refl h)
begins c need (Range extent exclusive) h r = absurd (both_ways false refl h)
begins c need (Cache kind None) h r = (target_of kind need, refl)
begins c need (Cache kind (Some running)) h r = absurd (both_ways true r refl)

pub obstacle_breaks : (ask : Claim) (shares : List Claim) (c : Claim) → is_in_the_way ask shares c ≡ true → is_running c.what ≡ false → (left : Option CacheKind) × (break_of ask shares c ≡ Some (c, left))
unfolding break_of
obstacle_breaks ask shares c h r = rw h (begins c (need_of ask shares c) c.what (obstacle_is_cache ask shares c h) r)

-- what a break is of
begun_of : (c : Claim) (need : Need) (what : What) (b : Claim × Option CacheKind) → break_by c need what ≡ Some b → (b.0 ≡ c) × (is_running what ≡ false)
begun_of c need (Share access deny) b h = absurd cc
begun_of c need (Range extent exclusive) b h = absurd cc
begun_of c need (Cache kind None) b h = (sym (ap (λ (o : Option (Claim × Option CacheKind)). first_or o) h), refl) where
  first_or : Option (Claim × Option CacheKind) → Claim
  first_or None = c
  first_or (Some e) = e.0
begun_of c need (Cache kind (Some running)) b h = absurd cc

pub break_is_of : (ask : Claim) (shares : List Claim) (c : Claim) (b : Claim × Option CacheKind) → break_of ask shares c ≡ Some b → (b.0 ≡ c) × (is_in_the_way ask shares c ≡ true) × (is_running c.what ≡ false)
unfolding break_of
break_is_of ask shares c b h =
    elim (cases_Bool (is_in_the_way ask shares c)) [
      | inl there ↦ let is = begun_of c (need_of ask shares c) c.what b (rw there at h) in (is.0, there, is.1)
      | inr clear ↦ let none : None ≡ Some b = rw clear at h in absurd cc
    ]

pub names_all : (ask : Claim) (held : List Claim) → NamesAll ask held (planned ask held)
unfolding planned
names_all ask held = record {
  begun = λ c i h r.
      let b = obstacle_breaks ask (blocking_shares ask held) c h r in
      in_map broken_claim (c, b.0) (planned ask held).breaks (in_filter_map (break_of ask (blocking_shares ask held)) c (c, b.0) held i b.1);
  awaited = λ c i h r. find_some (is_awaited ask (blocking_shares ask held)) c held i (and_from (is_in_the_way ask (blocking_shares ask held) c) (is_running c.what) h r);
}

-- a break of the plan is that of an obstacle
begun_in : (ask : Claim) (held : List Claim) (b : Claim × Option CacheKind) → IsIn b (planned ask held).breaks → IsIn b.0 held × (is_obstacle ask held b.0 ≡ true) × (is_running b.0.what ≡ false)
unfolding planned
begun_in ask held b i =
    let from = in_filter_map_from (break_of ask (blocking_shares ask held)) b held i in
    let is = break_is_of ask (blocking_shares ask held) from.0 b from.2 in
    subst (λ (c : Claim). IsIn c held × (is_obstacle ask held c ≡ true) × (is_running c.what ≡ false)) (sym is.0) (from.1, is.1, is.2)

awaited_in : (ask : Claim) (held : List Claim) → IfSome (planned ask held).awaited (λ c. IsIn c held × (is_obstacle ask held c ≡ true) × (is_running c.what ≡ true))
unfolding planned
awaited_in ask held = by (find (is_awaited ask (blocking_shares ask held)) held) (find_in (is_awaited ask (blocking_shares ask held)) held) where
  by : (o : Option Claim) → IfSome o (λ c. IsIn c held × (is_awaited ask (blocking_shares ask held) c ≡ true)) → IfSome o (λ c. IsIn c held × (is_obstacle ask held c ≡ true) × (is_running c.what ≡ true))
  by None h = tt
  by (Some c) h = let parts = and_parts (is_obstacle ask held c) (is_running c.what) h.1 in (h.0, parts.0, parts.1)

recalled_in : (ask : Claim) (held : List Claim) → IfSome (recalled_by (planned ask held)) (λ c. IsIn c held × (is_obstacle ask held c ≡ true))
unfolding recalled_by
recalled_in ask held = by (planned ask held).awaited (find is_slow (planned ask held).breaks) (awaited_in ask held) (find_in is_slow (planned ask held).breaks) where
  by : (o : Option Claim) (s : Option (Claim × Option CacheKind)) → IfSome o (λ c. IsIn c held × (is_obstacle ask held c ≡ true) × (is_running c.what ≡ true)) → IfSome s (λ b. IsIn b (planned ask held).breaks × (is_slow b ≡ true)) → IfSome (recalled_from o s) (λ c. IsIn c held × (is_obstacle ask held c ≡ true))
  by (Some c) s h k = (h.0, h.1)
  by None None h k = tt
  by None (Some b) h k = let is = begun_in ask held b k.0 in (is.0, is.1)

pub names_only : (ask : Claim) (held : List Claim) → NamesOnly ask held (planned ask held)
names_only ask held = record { begun = begun_in ask held; awaited = awaited_in ask held; recalled = recalled_in ask held }

-- ---- who is recalled

pub awaited_is_recalled : (p : BreakPlan) → IfSome p.awaited (λ c. recalled_by p ≡ Some c)
unfolding recalled_by
awaited_is_recalled p = by p.awaited where
  by : (o : Option Claim) → IfSome o (λ c. recalled_from o (find is_slow p.breaks) ≡ Some c)
  by None = tt
  by (Some c) = refl

pub slow_is_recalled : (p : BreakPlan) → p.awaited ≡ None → IfSome (recalled_by p) (λ c. IsIn c (map broken_claim (filter is_slow p.breaks)))
unfolding recalled_by
slow_is_recalled p none = rw none (by (find is_slow p.breaks) (find_in is_slow p.breaks)) where
  by : (s : Option (Claim × Option CacheKind)) → IfSome s (λ b. IsIn b p.breaks × (is_slow b ≡ true)) → IfSome (recalled_from None s) (λ c. IsIn c (map broken_claim (filter is_slow p.breaks)))
  by None h = tt
  by (Some b) h = in_map broken_claim b (filter is_slow p.breaks) (in_filter is_slow b p.breaks h.0 h.1)

recalled_none : (awaited : Option Claim) (slow : Option (Claim × Option CacheKind)) → recalled_from awaited slow ≡ None → (awaited ≡ None) × (slow ≡ None)
recalled_none (Some c) slow h = absurd cc
recalled_none None (Some b) h = absurd cc
recalled_none None None h = (refl, refl)

pub no_wait : (p : BreakPlan) → recalled_by p ≡ None → (p.awaited ≡ None) × (find is_slow p.breaks ≡ None)
unfolding recalled_by
no_wait p h = recalled_none p.awaited (find is_slow p.breaks) h

pub none_is_slow : (p : BreakPlan) → recalled_by p ≡ None → (p.awaited ≡ None) × AllByRecursion (λ b. is_slow b ≡ false) p.breaks
none_is_slow p h = let both = no_wait p h in (both.0, none_found is_slow p.breaks both.1)
