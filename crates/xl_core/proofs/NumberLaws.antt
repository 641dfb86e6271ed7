-- How far numbers may go: an ask adds a few, and nothing else adds any.
use Rattle.std.proofs.Common.{◌≡◌, ℕ, suc, ◌+◌, ◌≤◌, Bool, true, false, not, ◌&&◌, if◌then◌else◌, inl, inr, List, [], ◌∷◌, ◌++◌, length, Option, Some, None, is_some, IfSome, refl, sym, ap, subst, ◌∙◌, ◌⊎◌, arith}
use Rattle.xl_core.proofs.StandingLaws.{stays_asks}
use Rattle.xl_core.specs.declared.standings.Standing.TheVariants.{Timely, Reclaims, Early, Late, Unrecorded}
use Rattle.xl_core.specs.declared.standings.Standing.TheVariants as standings
use Rattle.xl_core.specs.declared.standings.Standing.{Standing}
use Rattle.xl_core.specs.Standings.{asker_as, is_smb, stands}
use Rattle.std.specs.List.{AllByRecursion, cons_option, filter, filter_map}
use Rattle.std.proofs.lemmas.Bool.{cases_Bool, both_ways, and_parts, and_right}
use Rattle.std.proofs.lemmas.List.{length-append}
use Rattle.xl_base.specs.Lists.{IsIn}
use Rattle.xl_base.specs.declared.event.Moment.{Moment}
use Rattle.xl_base.specs.declared.name.Party.{Party}
use Rattle.xl_base.specs.declared.name.Party.TheVariants as parties
use Rattle.xl_base.specs.declared.name.Protocol.TheVariants.{Nlm, Nfs, Smb}
use Rattle.xl_cache.specs.Parties.{is_kind_of, is_cache_of}
use Rattle.xl_cache.specs.BreakPlans.{is_in_the_way, blocking_shares, need_of, break_by, break_of, planned, is_slow}
use Rattle.xl_cache.specs.Targets.{is_delegation, loses_handle, target_of, rest_lies_within}
use Rattle.xl_cache.specs.declared.need.Need.{Need}
use Rattle.xl_matrix.specs.Equal.{same_parties, same_claims}
use Rattle.xl_matrix.proofs.EqualLaws.{same_claims-true, same_claims-self}
use Rattle.xl_matrix.specs.declared.claim.CacheKind.{CacheKind}
use Rattle.xl_matrix.specs.declared.claim.CacheKind.TheVariants.{R, RH, RW, RWH, ReadDeleg, WriteDeleg}
use Rattle.xl_matrix.specs.declared.claim.Claim.{Claim}
use Rattle.xl_matrix.specs.declared.claim.Rwd.{Rwd}
use Rattle.xl_matrix.specs.declared.claim.What.{What}
use Rattle.xl_matrix.specs.declared.claim.What.TheVariants.{Share, Range, Cache}
use Rattle.xl_names.specs.declared.name.Name.{Name}
use Rattle.xl_names.specs.declared.name.Name.TheVariants.{NfsParty}
use Rattle.xl_table.specs.Flat.{removed, changed, with_what}
use Rattle.xl_table.specs.Held.{is_cache}
use Rattle.xl_wait.specs.Waiting.{cancelled}
use Rattle.xl_wait.specs.declared.waiter.Rooms.{Rooms}
use Rattle.xl_wait.specs.declared.waiter.Waiter.{Waiter}
use Rattle.xl_core.specs.Askers.{asking_party, party_named, asked_whats, asked_claims, IsFit}
use Rattle.xl_core.specs.BreaksBegun.{with_break, once_begun, once_broken, is_recalled, recalls, breaks_begun}
use Rattle.xl_core.specs.Blockers.{is_stopped}
use Rattle.xl_core.specs.BreakAnswers.{may_be_left, with_rest, ack, due, client_of}
use Rattle.xl_core.specs.Causes.{may_wait, IsWaiting}
use Rattle.xl_core.specs.Decide.{Answered, plea_of, waiter_of, decided, way, before_wish, does_wish, wish_after, ask}
use Rattle.xl_core.specs.Wishes.{wished_kind, wish_granted, wish_of, wish_for}
use Rattle.xl_cache.specs.declared.wish.Wish.{Wish}
use Rattle.xl_core.specs.Good.{IsWished, caches_of, IsHeldBy, IsHeld, IsGood}
use Rattle.xl_core.specs.Judge.{held_with}
use Rattle.xl_core.specs.Leases.{moment_after, ended}
use Rattle.xl_core.specs.Frames.{who_left}
use Rattle.xl_core.specs.Numbers.{may_be_broken, may_be_recalled, delegations_left, numbers_of}
use Rattle.xl_table.specs.Leaving.{goes}
use Rattle.xl_table.specs.declared.leaver.Leaver.TheVariants as leavers
use Rattle.xl_core.specs.Settle.{plea_again, way_again, settle, waits_for, waits_as, cancel, give_back, weaken, end_party, close_open}
use Rattle.xl_core.specs.State.{CoreState, drawn}
use Rattle.xl_base.specs.Stable.{Stable}
use Rattle.xl_core.specs.Stores.{store_failed, client_name, without_name}
use Rattle.xl_core.specs.Ticks.{advanced, renew, end_some, expire, may_expire, try_expire, lapsed_by, try_lapsed_by, lapse, try_lapse, is_still_held, is_lease_over, lapse_all, expire_all, end_grace, tick}
use Rattle.xl_core.proofs.AsideLaws.{with_aside, failed_aside, grace_aside, of_aside, of_end, of_expire}
use Rattle.xl_core.specs.Ways.{made_way}
use Rattle.xl_core.specs.declared.ask.Answer.{Answer}
use Rattle.xl_core.specs.declared.ask.Answer.TheVariants as answers
use Rattle.xl_core.specs.declared.ask.Ask.{Ask}
use Rattle.xl_core.specs.declared.ask.Effect.{Effect}
use Rattle.xl_core.specs.declared.ask.Effect.TheVariants.{Served}
use Rattle.xl_core.specs.declared.judge.Plea.{Plea}
use Rattle.xl_core.proofs.InTurnLaws.{in_turn_keeps}
use Rattle.xl_core.proofs.CacheLaws.{all_granted_caches}
use Rattle.xl_core.proofs.ChangeLaws.{AskWay, Stays, Tests, Holds, Waits, Frees, Gives, decided_way, decided_caches}
use Rattle.xl_core.proofs.AskWishLaws.{wish_claims, empty_wish, ungranted_wish, ungranted_after, wish_for_left}
use Rattle.xl_core.proofs.GoodLaws.{once_answered, fewer_cancelled, fewer_filtered, Turned, IsMoved, Answers, Rests, IsFirst, each_turn, asked_way_good}
use Rattle.xl_core.proofs.SettleLaws.{once_cases, waiters_left}
use Rattle.xl_core.proofs.FrameLaws.{told_both, way_leaves}
use Rattle.xl_core.proofs.WayLaws.{Told, NoWay, Begins, way_is, way_waiters}
use Rattle.xl_core.proofs.WishLaws.{own_parts, filter_wished, filter_inserted, count_removed, count_inserted}

-- ---- a break that begins

-- nothing is left of a delegation
no_target : (kind : CacheKind) (need : Need) → is_delegation kind ≡ true → target_of kind need ≡ None
unfolding target_of
no_target ReadDeleg need h = by need.range (loses_handle need) where
  by : (a b : Bool) → (let none : Option CacheKind = None in (if a then none else if b then none else none) ≡ none)
  by true b = refl
  by false true = refl
  by false false = refl
no_target WriteDeleg need h = by need.range (loses_handle need) where
  by : (a b : Bool) → (let none : Option CacheKind = None in (if a then none else if b then none else none) ≡ none)
  by true b = refl
  by false true = refl
  by false false = refl
no_target R need h = absurd (both_ways false refl h)
no_target RH need h = absurd (both_ways false refl h)
no_target RW need h = absurd (both_ways false refl h)
no_target RWH need h = absurd (both_ways false refl h)

-- an NFSv4 client's cache is a delegation
delegation_of : (p : Party) (kind : CacheKind) → is_recalled p ≡ true → is_cache_of p kind None ≡ true → is_delegation kind ≡ true
unfolding is_cache_of is_kind_of
delegation_of (parties.Name Nfs number) kind h may = (and_parts (is_delegation kind) true may).0
delegation_of (parties.Name Nlm number) kind h may = absurd (both_ways false refl h)
delegation_of (parties.Name Smb number) kind h may = absurd (both_ways false refl h)
delegation_of (parties.Open number) kind h may = absurd (both_ways false refl h)

same_break : (a b : Claim × Option CacheKind) → Some a ≡ Some b → a ≡ b
same_break a b e = cc

broken_by : (c : Claim) (need : Need) (w : What) (b : Claim × Option CacheKind) → break_by c need w ≡ Some b → (kind : CacheKind) × (w ≡ Cache kind None) × (b ≡ (c, target_of kind need))
broken_by c need (Cache kind None) b e = (kind, refl, sym (same_break (c, target_of kind need) b e))
broken_by c need (Cache kind (Some running)) b e = absurd cc
broken_by c need (Share access deny) b e = absurd cc
broken_by c need (Range extent exclusive) b e = absurd cc

broken_so : (ask : Claim) (shares : List Claim) (c : Claim) (b : Claim × Option CacheKind) → break_of ask shares c ≡ Some b → (kind : CacheKind) × (c.what ≡ Cache kind None) × (b ≡ (c, target_of kind (need_of ask shares c)))
unfolding break_of
broken_so ask shares c b e = by (is_in_the_way ask shares c) e where
  by : (stands : Bool) → (if stands then break_by c (need_of ask shares c) c.what else None) ≡ Some b → (kind : CacheKind) × (c.what ≡ Cache kind None) × (b ≡ (c, target_of kind (need_of ask shares c)))
  by true e = broken_by c (need_of ask shares c) c.what b e
  by false e = absurd cc

module _ (names : List Name) (deadline : Moment) (ask : Claim) (held : List Claim) where
  abbrev broken : Claim → Option (Claim × Option CacheKind)
  broken c = break_of ask (blocking_shares ask held) c

  abbrev begun : Claim → Option Claim
  begun c = once_begun deadline c (break_of ask (blocking_shares ask held) c)

  -- as many delegations fewer may be recalled as are
  fewer : (cs : List Claim) → AllByRecursion (IsHeld names) cs → delegations_left (filter_map begun cs) + recalls (filter_map broken cs) ≤ delegations_left cs
  fewer [] all = omega arith
  fewer (c ∷ cs) all = by (broken c) refl (fewer cs all.1) where
    by : (o : Option (Claim × Option CacheKind)) → broken c ≡ o → delegations_left (filter_map begun cs) + recalls (filter_map broken cs) ≤ delegations_left cs
        → delegations_left (cons_option (once_begun deadline c o) (filter_map begun cs)) + recalls (cons_option o (filter_map broken cs)) ≤ delegations_left (c ∷ cs)
    by None e rest = elim (cases_Bool (may_be_recalled c)) [ inl one ↦ rw one (omega (arith, rest)) | inr other ↦ rw other rest ]
    by (Some b) e rest = elim (cases_Bool (is_recalled c.party)) [ inl one ↦ whole one (is_slow b) | inr other ↦ none other (is_slow b) ] where
      is : (kind : CacheKind) × (c.what ≡ Cache kind None) × (b ≡ (c, target_of kind (need_of ask (blocking_shares ask held) c)))
      is = broken_so ask (blocking_shares ask held) c b e

      party : is_recalled b.0.party ≡ is_recalled c.party
      party = ap (λ (x : Claim × Option CacheKind). is_recalled x.0.party) is.2

      whole : is_recalled c.party ≡ true → (slow : Bool) → delegations_left (cons_option (if slow then Some (with_break c c.what b.1 deadline) else None) (filter_map begun cs)) + recalls (b ∷ filter_map broken cs) ≤ delegations_left (c ∷ cs)
      whole one slow =
          let kind : is_delegation is.0 ≡ true = delegation_of c.party is.0 one (subst (λ (w : What). IsHeldBy c.party w) is.1 all.0.0.0) in
          let target : b.1 ≡ None = ap (λ (x : Claim × Option CacheKind). x.1) is.2 ∙ no_target is.0 (need_of ask (blocking_shares ask held) c) kind in
          let counts : may_be_recalled c ≡ true = rw (one, is.1) refl in
          let runs : may_be_recalled (with_break c c.what b.1 deadline) ≡ false = rw (is.1, target) (and_right (is_recalled c.party) false refl) in
          let told : is_recalled b.0.party ≡ true = party ∙ one in
          left slow counts runs told
        where
          left : (slow : Bool) → may_be_recalled c ≡ true → may_be_recalled (with_break c c.what b.1 deadline) ≡ false → is_recalled b.0.party ≡ true → delegations_left (cons_option (if slow then Some (with_break c c.what b.1 deadline) else None) (filter_map begun cs)) + recalls (b ∷ filter_map broken cs) ≤ delegations_left (c ∷ cs)
          left true counts runs told = rw (told, counts, runs) (omega (arith, rest))
          left false counts runs told = rw (told, counts) (omega (arith, rest))

      none : is_recalled c.party ≡ false → (slow : Bool) → delegations_left (cons_option (if slow then Some (with_break c c.what b.1 deadline) else None) (filter_map begun cs)) + recalls (b ∷ filter_map broken cs) ≤ delegations_left (c ∷ cs)
      none other slow =
          let counts : may_be_recalled c ≡ false = rw other refl in
          let runs : may_be_recalled (with_break c c.what b.1 deadline) ≡ false = rw is.1 (rw other refl) in
          left slow counts runs (party ∙ other)
        where
          left : (slow : Bool) → may_be_recalled c ≡ false → may_be_recalled (with_break c c.what b.1 deadline) ≡ false → is_recalled b.0.party ≡ false → delegations_left (cons_option (if slow then Some (with_break c c.what b.1 deadline) else None) (filter_map begun cs)) + recalls (b ∷ filter_map broken cs) ≤ delegations_left (c ∷ cs)
          left true counts runs told = rw (told, counts, runs) rest
          left false counts runs told = rw (told, counts) rest

begun_numbers : (s : CoreState) (c : Claim) → IsGood s → numbers_of (breaks_begun c s).1 ≤ numbers_of s
unfolding breaks_begun once_broken planned
begun_numbers s c good = omega (arith, fewer s.names (moment_after s.clock s.times.break_time) c s.claims s.claims good.known)

-- a way takes the numbers of the delegations that it recalls
way_numbers : (earlier : List Waiter) (p : Plea) (asked : List Claim) (s : CoreState) → IsGood s → numbers_of (made_way earlier p asked s).1 ≤ numbers_of s
way_numbers earlier p asked s good =
    elim (way_is earlier p asked s) [
      | NoWay e ↦ subst (λ (w : Told). numbers_of w.1 ≤ numbers_of s) (sym e) (omega arith)
      | Begins c cs is does e ↦ subst (λ (w : Told). numbers_of w.1 ≤ numbers_of s) (sym e) (begun_numbers s c good)
    ]

-- ---- claims that come and go

-- of the caches alone
recalled_cache : (w : What) → may_be_broken w ≡ true → is_cache w ≡ true
recalled_cache (Cache kind running) h = refl
recalled_cache (Share access deny) h = absurd (both_ways false refl h)
recalled_cache (Range extent exclusive) h = absurd (both_ways false refl h)

left_by : (held : List Claim) → delegations_left held ≡ delegations_left (caches_of held)
left_by [] = refl
left_by (c ∷ cs) =
    elim (cases_Bool (is_cache c.what)) [
      | inl e ↦ rw e (elim (cases_Bool (may_be_recalled c)) [ inl one ↦ rw one (ap suc (left_by cs)) | inr other ↦ rw other (left_by cs) ])
      | inr e ↦ elim (cases_Bool (may_be_recalled c)) [
        | inl one ↦ absurd (both_ways (is_cache c.what) e (recalled_cache c.what (and_parts (is_recalled c.party) (may_be_broken c.what) one).1))
        | inr other ↦ rw (e, other) (left_by cs)
      ]
    ]

same_left : (old new : List Claim) → caches_of new ≡ caches_of old → delegations_left new ≡ delegations_left old
same_left old new e = left_by new ∙ ap delegations_left e ∙ sym (left_by old)

fewer_filtered_claims : (keep : Claim → Bool) (cs : List Claim) → delegations_left (filter keep cs) ≤ delegations_left cs
fewer_filtered_claims keep [] = omega arith
fewer_filtered_claims keep (c ∷ cs) =
    let rest = fewer_filtered_claims keep cs in
    elim (cases_Bool (keep c)) [
      | inl e ↦ elim (cases_Bool (may_be_recalled c)) [ inl one ↦ rw (e, one) (omega (arith, rest)) | inr other ↦ rw (e, other) rest ]
      | inr e ↦ elim (cases_Bool (may_be_recalled c)) [ inl one ↦ rw (e, one) (omega (arith, rest)) | inr other ↦ rw (e, other) rest ]
    ]

-- a held one that may be recalled leaves one fewer
one_removed : (c : Claim) (cs : List Claim) → IsIn c cs → may_be_recalled c ≡ true → delegations_left (removed c cs) + 1 ≡ delegations_left cs
one_removed c [] h one = absurd h
one_removed c (d ∷ ds) h one =
    elim (cases_Bool (same_claims d c)) [
      | inl same ↦ let mine : may_be_recalled d ≡ true = ap may_be_recalled (same_claims-true d c same) ∙ one in rw (same, mine) (omega arith)
      | inr apart ↦ elim h [
        | inl e ↦ absurd (both_ways (same_claims d c) apart (subst (λ (x : Claim). same_claims x c ≡ true) (sym e) (same_claims-self c)))
        | inr later ↦
            let rest = one_removed c ds later one in
            elim (cases_Bool (may_be_recalled d)) [ inl counts ↦ rw (apart, counts) (omega (arith, rest)) | inr other ↦ rw (apart, other) rest ]
      ]
    ]

-- ---- an ask

decided_numbers : (n : ℕ) (left : Rooms) (s : CoreState) (a : Ask) → IsGood s → IsFit a → numbers_of (decided n left s a).2 ≤ numbers_of s + 2
unfolding held_with
decided_numbers n left s a good fit = omega (arith, others, same_left s.claims (decided n left s a).2.claims (decided_caches n left s a good fit.party)) where
  by : (r : Answered) → AskWay s a r → r.2.counter + length r.2.waiters ≤ s.counter + length s.waiters + 2
  by r (Stays answer refused e) = subst (λ (x : Answered). x.2.counter + length x.2.waiters ≤ s.counter + length s.waiters + 2) (sym e) (omega arith)
  by r (Tests c holds e) = subst (λ (x : Answered). x.2.counter + length x.2.waiters ≤ s.counter + length s.waiters + 2) (sym e) (omega arith)
  by r (Holds c claims is holds e) = subst (λ (x : Answered). x.2.counter + length x.2.waiters ≤ s.counter + length s.waiters + 2) (sym e) (omega arith)
  by r (Waits c cs why is holds e) = subst (λ (x : Answered). x.2.counter + length x.2.waiters ≤ s.counter + length s.waiters + 2) (sym e) (omega (arith, length-append s.waiters (waiter_of (s.counter + 1) a (asking_party a s.names) (c ∷ cs) ∷ [])))
  by r (Frees c first last holds act file owner e) = subst (λ (x : Answered). x.2.counter + length x.2.waiters ≤ s.counter + length s.waiters + 2) (sym e) (omega arith)
  by r (Gives c d holds act file owner range e) = subst (λ (x : Answered). x.2.counter + length x.2.waiters ≤ s.counter + length s.waiters + 2) (sym e) (omega arith)

  others : (decided n left s a).2.counter + length (decided n left s a).2.waiters ≤ s.counter + length s.waiters + 2
  others = by (decided n left s a) (decided_way n left s a good fit.party)

-- one who is granted what it asks for draws none
granted_decided : (n : ℕ) (left : Rooms) (s : CoreState) (a : Ask) (d : Claim) → IsGood s → IsFit a → (decided n left s a).0 ≡ answers.Granted d → numbers_of (decided n left s a).2 ≤ numbers_of s
unfolding held_with
granted_decided n left s a d good fit at = omega (arith, others, same_left s.claims (decided n left s a).2.claims (decided_caches n left s a good fit.party)) where
  by : (r : Answered) → AskWay s a r → r.0 ≡ answers.Granted d → r.2.counter + length r.2.waiters ≤ s.counter + length s.waiters
  by r (Stays answer refused e) at = subst (λ (x : Answered). x.2.counter + length x.2.waiters ≤ s.counter + length s.waiters) (sym e) (omega arith)
  by r (Tests c holds e) at = subst (λ (x : Answered). x.2.counter + length x.2.waiters ≤ s.counter + length s.waiters) (sym e) (omega arith)
  by r (Holds c claims is holds e) at = subst (λ (x : Answered). x.2.counter + length x.2.waiters ≤ s.counter + length s.waiters) (sym e) (omega arith)
  by r (Waits c cs why is holds e) at = let two : answers.Queued (s.counter + 1) ≡ answers.Granted d = sym (ap (λ (x : Answered). x.0) e) ∙ at in absurd cc
  by r (Frees c first last holds act file owner e) at = subst (λ (x : Answered). x.2.counter + length x.2.waiters ≤ s.counter + length s.waiters) (sym e) (omega arith)
  by r (Gives c given holds act file owner range e) at = subst (λ (x : Answered). x.2.counter + length x.2.waiters ≤ s.counter + length s.waiters) (sym e) (omega arith)

  others : (decided n left s a).2.counter + length (decided n left s a).2.waiters ≤ s.counter + length s.waiters
  others = by (decided n left s a) (decided_way n left s a good fit.party) at

-- one who asks at once, and waits for nothing, draws none
at_once_numbers : (n : ℕ) (left : Rooms) (s : CoreState) (a : Ask) → IsGood s → IsFit a → a.blocking ≡ false → a.awaits ≡ false → is_smb a.party ≡ false → numbers_of (decided n left s a).2 ≤ numbers_of s
unfolding held_with
at_once_numbers n left s a good fit hurries stays other = omega (arith, others, same_left s.claims (decided n left s a).2.claims (decided_caches n left s a good fit.party)) where
  no_wait : (c : Claim) → may_wait s.waiters s a c ≡ false
  no_wait c = by (is_stopped s.waiters s c) where
    by : (b : Bool) → (if b then a.blocking else a.awaits) ≡ false
    by true = hurries
    by false = stays

  never : (c : Claim) (standing : Standing) → stands s a ≡ standing → IsWaiting standing s.waiters s a c → ⊥
  never c Timely is why = both_ways (may_wait s.waiters s a c) (no_wait c) why.0
  never c standings.Stays is why = both_ways (is_smb a.party) other (stays_asks s (asker_as a) (is_smb a.party) a.reclaim is)
  never c Reclaims is why = why
  never c (Early until) is why = why
  never c (Late clock) is why = why
  never c Unrecorded is why = why

  by : (r : Answered) → AskWay s a r → r.2.counter + length r.2.waiters ≤ s.counter + length s.waiters
  by r (Stays answer refused e) = subst (λ (x : Answered). x.2.counter + length x.2.waiters ≤ s.counter + length s.waiters) (sym e) (omega arith)
  by r (Tests c holds e) = subst (λ (x : Answered). x.2.counter + length x.2.waiters ≤ s.counter + length s.waiters) (sym e) (omega arith)
  by r (Holds c claims is holds e) = subst (λ (x : Answered). x.2.counter + length x.2.waiters ≤ s.counter + length s.waiters) (sym e) (omega arith)
  by r (Waits c cs why is holds e) = absurd (never c (stands s a) refl why)
  by r (Frees c first last holds act file owner e) = subst (λ (x : Answered). x.2.counter + length x.2.waiters ≤ s.counter + length s.waiters) (sym e) (omega arith)
  by r (Gives c d holds act file owner range e) = subst (λ (x : Answered). x.2.counter + length x.2.waiters ≤ s.counter + length s.waiters) (sym e) (omega arith)

  others : (decided n left s a).2.counter + length (decided n left s a).2.waiters ≤ s.counter + length s.waiters
  others = by (decided n left s a) (decided_way n left s a good fit.party)

-- the state that its way left
ask_way_numbers : (left : Rooms) (s : CoreState) (a : Ask) → IsGood s → numbers_of (way left s a).1 ≤ numbers_of s
ask_way_numbers left s a good = way_numbers s.waiters (plea_of left s a) (asked_claims a (asked_whats a.act) s.names) s good

-- a wish that is granted may bring one delegation
after_numbers : (a : Ask) (answer : Answer) (s : CoreState) → numbers_of (wish_after a answer s) ≤ numbers_of s + 1
after_numbers a answer s = by (does_wish a.act) where
  by : (b : Bool) → numbers_of (if b then wish_for a.wish answer s else s) ≤ numbers_of s + 1
  by true = omega (arith, ap (λ (t : CoreState). t.counter) (wish_claims a.wish answer s), ap (λ (t : CoreState). length t.waiters) (wish_claims a.wish answer s), wish_for_left a.wish answer s)
  by false = omega arith

before_numbers : (n : ℕ) (left : Rooms) (s : CoreState) (a : Ask) → IsGood s → IsFit a → numbers_of (before_wish n left s a).2 ≤ numbers_of (way left s a).1 + 2
unfolding before_wish
before_numbers n left s a good fit = decided_numbers n left (way left s a).1 a (asked_way_good left s a good) fit

granted_before : (n : ℕ) (left : Rooms) (s : CoreState) (a : Ask) (d : Claim) → IsGood s → IsFit a → (before_wish n left s a).0 ≡ answers.Granted d → numbers_of (before_wish n left s a).2 ≤ numbers_of (way left s a).1
unfolding before_wish
granted_before n left s a d good fit at = granted_decided n left (way left s a).1 a d (asked_way_good left s a good) fit at

grants_or_not : (answer : Answer) → ((c : Claim) × (answer ≡ answers.Granted c)) ⊎ ((c : Claim) → answer ≡ answers.Granted c → ⊥)
grants_or_not (answers.Granted c) = inl (c, refl)
grants_or_not (answers.Queued number) = inr (λ c e. absurd cc)
grants_or_not (answers.Conflict d) = inr (λ c e. absurd cc)
grants_or_not (answers.Recall d) = inr (λ c e. absurd cc)
grants_or_not (answers.Grace until) = inr (λ c e. absurd cc)
grants_or_not (answers.NoGrace clock) = inr (λ c e. absurd cc)
grants_or_not answers.NotRecorded = inr (λ c e. absurd cc)
grants_or_not (answers.Full limit) = inr (λ c e. absurd cc)
grants_or_not answers.NotHeld = inr (λ c e. absurd cc)
grants_or_not answers.StoreFailed = inr (λ c e. absurd cc)

-- one who is granted what it asks for draws none, and for no other a wish is granted
pub ask_numbers : (n : ℕ) (left : Rooms) (s : CoreState) (a : Ask) → IsGood s → IsFit a → numbers_of (ask n left s a).2 ≤ numbers_of s + 2
unfolding ask
ask_numbers n left s a good fit = by (grants_or_not r.0) where
  r : Answered
  r = before_wish n left s a

  by : ((c : Claim) × (r.0 ≡ answers.Granted c)) ⊎ ((c : Claim) → r.0 ≡ answers.Granted c → ⊥) → numbers_of (wish_after a r.0 r.2) ≤ numbers_of s + 2
  by (inl does) = omega (arith, ask_way_numbers left s a good, granted_before n left s a does.0 good fit does.1, after_numbers a r.0 r.2)
  by (inr doesnt) = omega (arith, ask_way_numbers left s a good, before_numbers n left s a good fit, ap numbers_of (ungranted_after a r.0 r.2 doesnt))

pub ask_numbers_at_once : (n : ℕ) (left : Rooms) (s : CoreState) (a : Ask) → IsGood s → IsFit a → a.blocking ≡ false → a.awaits ≡ false → is_smb a.party ≡ false → numbers_of (ask n left s a).2 ≤ numbers_of s + 1
unfolding ask before_wish
ask_numbers_at_once n left s a good fit hurries stays other =
    omega (arith, ask_way_numbers left s a good, at_once_numbers n left (way left s a).1 a (asked_way_good left s a good) fit hurries stays other, after_numbers a (before_wish n left s a).0 (before_wish n left s a).2)

-- ---- a turn

-- a cache that is no delegation isn't recalled
unrecalled : (p : Party) (kind : CacheKind) → is_kind_of p kind ≡ true → is_delegation kind ≡ false → is_recalled p ≡ false
unfolding is_kind_of
unrecalled (parties.Name Nfs number) kind may other = absurd (both_ways (is_delegation kind) other may)
unrecalled (parties.Name Nlm number) kind may other = refl
unrecalled (parties.Name Smb number) kind may other = refl
unrecalled (parties.Open number) kind may other = refl

granted_same_left : (wanted : Wish) (s : CoreState) → is_recalled wanted.party ≡ false → delegations_left (wish_granted wanted s).claims ≡ delegations_left s.claims
unfolding wish_granted
granted_same_left wanted s other =
    ap (λ (cs : List Claim). length cs) (filter_wished may_be_recalled wanted (wished_kind wanted s) s.claims (λ c own.
    ap (λ (p : Party). is_recalled p && may_be_broken c.what) (own_parts wanted c own).2 ∙ ap (λ (b : Bool). b && may_be_broken c.what) other))

-- one who waited gets no delegation
for_same_left : (kinds : List CacheKind) (answer : Answer) (s : CoreState) (c : Claim) (cs : List Claim) → IsWished kinds (c ∷ cs) → ((d : Claim) → answer ≡ answers.Granted d → d ≡ c) → delegations_left (wish_for kinds answer s).claims ≡ delegations_left s.claims
for_same_left [] answer s c cs wished is = ap (λ (x : CoreState). delegations_left x.claims) (empty_wish [] answer s refl)
for_same_left (kind ∷ kinds) answer s c cs wished is = by (grants_or_not answer) where
  by : ((d : Claim) × (answer ≡ answers.Granted d)) ⊎ ((d : Claim) → answer ≡ answers.Granted d → ⊥) → delegations_left (wish_for (kind ∷ kinds) answer s).claims ≡ delegations_left s.claims
  by (inr none) = ap (λ (x : CoreState). delegations_left x.claims) (ungranted_wish (kind ∷ kinds) answer s none)
  by (inl does) =
      let other : is_recalled does.0.party ≡ false = ap (λ (x : Claim). is_recalled x.party) (is does.0 does.1) ∙ unrecalled c.party kind wished.0.0 wished.0.2 in
      ap (λ (x : Answer). delegations_left (wish_for (kind ∷ kinds) x s).claims) does.1 ∙ granted_same_left (wish_of (kind ∷ kinds) does.0) s other

first_numbers : (n : ℕ) (left : Rooms) (s : CoreState) (turn : Turned) → IsGood s → IsFirst n left s [] s.waiters turn → numbers_of turn.1 + length (who_left turn.0) ≤ numbers_of s
first_numbers n left s turn good first = by first.moved where
  w : Waiter
  w = first.waiter

  t : CoreState
  t = (way_again first.before s w).1

  fell : numbers_of t ≤ numbers_of s
  fell = way_numbers first.before (plea_again s w) w.asked s good

  waiters : t.waiters ≡ s.waiters
  waiters = way_waiters first.before (plea_again s w) w.asked s

  leave : (told : List Effect) → turn.0 ≡ (way_again first.before s w).0 ++ told → who_left turn.0 ≡ who_left told
  leave told e = ap who_left e ∙ told_both (way_again first.before s w).0 told ∙ ap (λ (ids : List ℕ). ids ++ who_left told) (way_leaves first.before (plea_again s w) w.asked s)

  by : IsMoved n left first.before s w first.claim first.claims turn → numbers_of turn.1 + length (who_left turn.0) ≤ numbers_of s
  by (Answers answer told new due pass clear) =
      let u = once_answered t w (first.claim ∷ first.claims) answer in
      let caches : delegations_left u.claims ≡ delegations_left t.claims = same_left t.claims u.claims
      (once_cases (λ cs. caches_of cs ≡ caches_of t.claims) (first.claim ∷ first.claims) t.claims answer refl (all_granted_caches (first.claim ∷ first.claims) t.claims)) in
      let wished = for_same_left w.wish answer u first.claim first.claims (subst (λ (cs : List Claim). IsWished w.wish cs) first.asked first.is.3) (λ d e. (pass d e).0) in
      let gone : turn.1.waiters ≡ first.before ++ first.behind = ap (λ (x : CoreState). x.waiters) (new ∙ wish_claims w.wish answer u) ∙ ap (λ (ws : List Waiter). cancelled w.id ws) waiters ∙ waiters_left n left s turn first good in
      let one : length t.waiters ≡ length (first.before ++ w ∷ first.behind) = ap (λ (ws : List Waiter). length ws) (waiters ∙ first.stood) in
      omega (arith, fell, caches, wished, ap (λ (x : CoreState). delegations_left x.claims) new, ap (λ (x : CoreState). x.counter) (new ∙ wish_claims w.wish answer u), ap (λ (ws : List Waiter). length ws) gone, one, length-append first.before first.behind, length-append first.before (w ∷ first.behind), ap (λ (ids : List ℕ). length ids) (leave (Served w.party w.id answer ∷ []) told))
  by (Rests e up) = omega (arith, fell, ap (λ (x : Turned). numbers_of x.1) e, ap (λ (x : Turned). length (who_left x.0)) e, ap (λ (ids : List ℕ). length ids) (way_leaves first.before (plea_again s w) w.asked s))

-- who was served waits no more, so that a call may tell of it
pub turn_numbers : (n : ℕ) (left : Rooms) (s : CoreState) → IsGood s → IfSome (settle n left s) (λ r. numbers_of r.1 + length (who_left r.0) ≤ numbers_of s)
turn_numbers n left s good = each_turn n left s (λ r. numbers_of r.1 + length (who_left r.0) ≤ numbers_of s) good (λ turn first. first_numbers n left s turn good first)

-- ---- the other calls

pub counter_numbers : (s : CoreState) → s.counter ≤ numbers_of s
counter_numbers s = omega arith

pub drawn_numbers : (s : CoreState) → numbers_of (drawn s) ≡ numbers_of s + 1
unfolding drawn
drawn_numbers s = omega arith

pub cancel_numbers : (s : CoreState) (id : ℕ) → numbers_of (cancel s id).1 ≤ numbers_of s
unfolding cancel
cancel_numbers s id = omega (arith, fewer_cancelled id s.waiters)

pub give_back_numbers : (s : CoreState) (claim : Claim) → numbers_of (give_back s claim).1 ≤ numbers_of s
unfolding give_back
give_back_numbers s claim = omega (arith, count_removed may_be_recalled claim s.claims)

weakened_left : (share : Claim) (access deny : Rwd) (held : List Claim) → delegations_left (changed share (Share access deny) held) ≤ delegations_left held
unfolding changed
weakened_left share access deny held =
    omega (arith, ap (λ (cs : List Claim). length cs) (filter_inserted may_be_recalled (with_what share (Share access deny)) (removed share held) (and_right (is_recalled share.party) false refl)), count_removed may_be_recalled share held)

pub weaken_numbers : (s : CoreState) (share : Claim) (access deny : Rwd) → numbers_of (weaken s share access deny).1 ≤ numbers_of s
unfolding weaken
weaken_numbers s share access deny = omega (arith, weakened_left share access deny s.claims)

-- of a cache something is left only where its break leaves something
may_leave : (w : What) (kind : CacheKind) → may_be_left w (Some kind) ≡ true → may_be_broken w ≡ true
may_leave (Cache whole (Some running)) kind h = by running.target h where
  by : (o : Option CacheKind) → rest_lies_within (Some kind) o ≡ true → is_some o ≡ true
  by None h = absurd (both_ways false refl h)
  by (Some target) h = refl
may_leave (Cache whole None) kind h = absurd (both_ways false refl h)
may_leave (Share access deny) kind h = absurd (both_ways false refl h)
may_leave (Range extent exclusive) kind h = absurd (both_ways false refl h)

acked_left : (cache : Claim) (to : Option CacheKind) (held : List Claim) → IsIn cache held → may_be_left cache.what to ≡ true → delegations_left (with_rest cache to held) ≤ delegations_left held
unfolding changed
acked_left cache None held there may = count_removed may_be_recalled cache held
acked_left cache (Some kind) held there may =
    elim (cases_Bool (is_recalled cache.party)) [
      | inl one ↦
          let counts : may_be_recalled cache ≡ true = rw one (may_leave cache.what kind may) in
          omega (arith, one_removed cache held there counts, count_inserted may_be_recalled (with_what cache (Cache kind None)) (removed cache held))
      | inr other ↦
          let fails : may_be_recalled (with_what cache (Cache kind None)) ≡ false = rw other refl in
          omega (arith, ap (λ (cs : List Claim). length cs) (filter_inserted may_be_recalled (with_what cache (Cache kind None)) (removed cache held) fails), count_removed may_be_recalled cache held)
    ]

pub ack_numbers : (s : CoreState) (cache : Claim) (to : Option CacheKind) → IsIn cache s.claims → may_be_left cache.what to ≡ true → numbers_of (ack s cache to).1 ≤ numbers_of s
unfolding ack
ack_numbers s cache to there may = omega (arith, acked_left cache to s.claims there may)

pub end_party_numbers : (s : CoreState) (party : Party) → numbers_of (end_party s party).1 ≤ numbers_of s
unfolding end_party
end_party_numbers s party = omega (arith, fewer_filtered_claims (λ c. not (same_parties c.party party)) s.claims, fewer_filtered (λ w. not (waits_for party w)) s.waiters)

pub close_open_numbers : (s : CoreState) (number : ℕ) (party : Option Party) → numbers_of (close_open s number party).1 ≤ numbers_of s
unfolding close_open
close_open_numbers s number party = omega (arith, fewer_filtered_claims (λ c. not (goes (leavers.Open number party) c)) s.claims, fewer_filtered (λ w. not (waits_as number w)) s.waiters)

pub renew_numbers : (s : CoreState) (client : List ℕ) → numbers_of (renew s client).1 ≤ numbers_of s
unfolding renew
renew_numbers s client = omega arith

some_numbers : (s : CoreState) (party : Option Party) → numbers_of (end_some s party).1 ≤ numbers_of s
some_numbers s None = omega arith
some_numbers s (Some party) = end_party_numbers s party

pub expire_numbers : (s : CoreState) (client : List ℕ) → numbers_of (expire s client).1 ≤ numbers_of s
expire_numbers s client = of_expire (λ (r : List Effect × CoreState). numbers_of r.1 ≤ numbers_of s) s client (λ x. omega (arith, some_numbers (with_aside x s) (party_named s.names (NfsParty client))))

pub store_failed_numbers : (stable : Stable) (s : CoreState) → numbers_of (store_failed stable s) ≤ numbers_of s
store_failed_numbers stable s = of_aside (λ t. numbers_of t ≤ numbers_of s) s (store_failed stable s) (failed_aside stable s) (λ x. omega arith)

pub end_grace_numbers : (s : CoreState) → numbers_of (end_grace s) ≤ numbers_of s
end_grace_numbers s = of_aside (λ t. numbers_of t ≤ numbers_of s) s (end_grace s) (grace_aside s) (λ x. omega arith)

try_expire_numbers : (n : ℕ) (s : CoreState) (client : List ℕ) → numbers_of (try_expire n s client).1 ≤ numbers_of s
unfolding try_expire
try_expire_numbers n s client =
    elim (cases_Bool (may_expire n s client)) [ inl may ↦ rw may (expire_numbers s client) | inr none ↦ rw none (store_failed_numbers (without_name (client_name client) s.stable) s) ]

lapsed_by_numbers : (s : CoreState) (cache : Claim) (client : Option (List ℕ)) → numbers_of (lapsed_by s cache client).1 ≤ numbers_of s
lapsed_by_numbers s cache None = omega (arith, count_removed may_be_recalled cache s.claims)
lapsed_by_numbers s cache (Some client) = expire_numbers s client

pub lapse_numbers : (s : CoreState) (cache : Claim) → numbers_of (lapse s cache).1 ≤ numbers_of s
unfolding lapse
lapse_numbers s cache = lapsed_by_numbers s cache (client_of s.names cache.party)

try_lapsed_numbers : (n : ℕ) (s : CoreState) (cache : Claim) (client : Option (List ℕ)) → numbers_of (try_lapsed_by n s cache client).1 ≤ numbers_of s
try_lapsed_numbers n s cache None = lapsed_by_numbers s cache None
try_lapsed_numbers n s cache (Some client) = try_expire_numbers n s client

try_lapse_numbers : (n : ℕ) (s : CoreState) (cache : Claim) → numbers_of (try_lapse n s cache).1 ≤ numbers_of s
unfolding try_lapse
try_lapse_numbers n s cache = try_lapsed_numbers n s cache (client_of s.names cache.party)

lapse_all_numbers : (n : ℕ) (s : CoreState) → numbers_of (lapse_all n s).1 ≤ numbers_of s
unfolding lapse_all
lapse_all_numbers n s = in_turn_keeps is_still_held (try_lapse n) (λ t. numbers_of t ≤ numbers_of s) (λ t cache few. omega (arith, try_lapse_numbers n t cache, few)) (due s) s (omega arith)

expire_all_numbers : (n : ℕ) (s : CoreState) → numbers_of (expire_all n s).1 ≤ numbers_of s
unfolding expire_all
expire_all_numbers n s = in_turn_keeps is_lease_over (try_expire n) (λ t. numbers_of t ≤ numbers_of s) (λ t client few. omega (arith, try_expire_numbers n t client, few)) (ended s.clock s.leases) s (omega arith)

pub advanced_numbers : (s : CoreState) (now : Moment) → numbers_of (advanced s now) ≡ numbers_of s
unfolding advanced
advanced_numbers s now = refl

pub tick_numbers : (n : ℕ) (s : CoreState) (now : Moment) → numbers_of (tick n s now).1 ≤ numbers_of s
unfolding tick
tick_numbers n s now =
    let t = (lapse_all n (advanced s now)).1 in
    let u = (expire_all n t).1 in
    of_end n (λ v. numbers_of v ≤ numbers_of s) u (λ x. omega (arith, advanced_numbers s now, lapse_all_numbers n (advanced s now), expire_all_numbers n t))
