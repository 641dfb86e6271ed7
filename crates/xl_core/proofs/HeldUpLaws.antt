-- Who is blocked stays so by what changes on other files; so who may have a turn waits on a file that is kept as unsettled.
use Rattle.xl_cache.specs.declared.break_plan.BreakPlan.{BreakPlan}
use Rattle.xl_core.specs.BreaksBegun.{breaks_begun}
use Rattle.xl_core.proofs.StoreLaws.{may_be_made}
use Rattle.xl_core.proofs.AsideLaws.{with_aside, by_runs}
use Rattle.xl_core.proofs.StandingLaws.{stays_runs, late, reclaims_asks}
use Rattle.xl_grace.specs.Grace.{Running}
use Rattle.xl_core.specs.declared.standings.Standing.TheVariants.{Timely, Reclaims, Early, Late, Unrecorded}
use Rattle.xl_core.specs.declared.standings.Standing.TheVariants as standings
use Rattle.xl_core.specs.declared.standings.Standing.{Standing}
use Rattle.xl_core.specs.Standings.{asker_as, is_smb, stands, standing}
use Rattle.xl_core.proofs.BreaksInOrderLaws.{final_here, planned_here}
use Rattle.xl_core.proofs.BreaksBegunLaws.{begun_elsewhere}
use Rattle.xl_core.proofs.WayLaws.{NoWay, Begins, way_is, way_stopped, way_runs, way_quiet, way_waiters, way_keeps}
use Rattle.xl_core.proofs.WayAsks.{ask_way_names, ask_way_waiters, ask_way_keeps}
use Rattle.xl_core.proofs.FrameLaws.{decided_quiet}
use Rattle.xl_core.proofs.LimitLaws.{wait_least}
use Rattle.xl_core.specs.Ways.{made_way}
use Rattle.xl_core.specs.Frames.{asks_to_hold}
use Rattle.xl_core.specs.declared.judge.Plea.{Plea}
use Rattle.xl_cache.specs.BreakPlans.{is_final}
use Rattle.xl_core.specs.Blockers.{is_barred, is_in_line, first_claim, ranges_of_all, ranges_ahead, range_ahead, before_number, is_stopped, first_broken, all_run}
use Rattle.xl_core.specs.Judge.{those_before}
use Rattle.xl_core.proofs.LineLaws.{range_alike, range_held_alike, before_is, apart_before, before_more}
use Rattle.xl_table.specs.Relock.{is_range_by}
use Rattle.std.proofs.Common.{◌≡◌, ℕ, ◌+◌, Bool, true, false, not, ◌&&◌, ◌||◌, ◌==◌, inl, inr, List, [], ◌∷◌, ◌++◌, map, length, append-nil, Option, Some, None, IfSome, is_some, if◌then◌else◌, option_map, refl, sym, ap, subst, ◌⊎◌, ◌≤◌, ◌∙◌, arith}
use Rattle.std.specs.List.{AllByRecursion, filter, list_any}
use Rattle.std.proofs.lemmas.Bool.{cases_Bool, both_ways, or_parts, eqb-true, eq-eqb}
use Rattle.std.proofs.lemmas.Bool.Decides.{nat_tests}
use Rattle.std.proofs.lemmas.List.{append_assoc}
use Rattle.xl_base.specs.Lists.{placed, IsIn, Pairwise}
use Rattle.xl_base.proofs.Members.{all_append, all_from, all_in}
use Rattle.xl_base.specs.declared.name.Owner.{Owner}
use Rattle.xl_base.specs.declared.name.Party.{Party}
use Rattle.xl_matrix.proofs.EqualLaws.{same_claims-true, eqb-sym}
use Rattle.xl_matrix.specs.Blocks.{is_own}
use Rattle.xl_matrix.specs.Equal.{same_claims}
use Rattle.xl_matrix.specs.Matrix.{compat}
use Rattle.xl_matrix.specs.declared.claim.CacheKind.{CacheKind}
use Rattle.xl_matrix.specs.declared.claim.Claim.{Claim}
use Rattle.xl_matrix.specs.declared.claim.Extent.TheVariants.{Bytes, Empty}
use Rattle.xl_matrix.specs.declared.claim.Rwd.{Rwd}
use Rattle.xl_matrix.specs.declared.claim.What.{What}
use Rattle.xl_matrix.specs.declared.claim.What.TheVariants.{Share, Range, Cache}
use Rattle.xl_names.specs.declared.name.Name.{Name}
use Rattle.xl_spans.specs.Spans.{relocked}
use Rattle.xl_spans.specs.declared.span.Mode.{Mode}
use Rattle.xl_spans.specs.declared.span.Span.{Span}
use Rattle.xl_table.proofs.SectionLaws.{any_within}
use Rattle.xl_table.proofs.WriteBack.{is_of-true}
use Rattle.xl_table.specs.Flat.{blocks, inserted, removed, with_what, changed, is_blocked}
use Rattle.xl_table.specs.Held.{is_of, is_range, is_share, mode_of, spans_of}
use Rattle.xl_table.specs.Order.{goes_first}
use Rattle.xl_table.specs.Relock.{all_inserted, range_claim, is_range_of, unranged, relocked_in, is_share_of, unshared, united, shared_in, granted_by, granted_claims}
use Rattle.xl_wait.specs.Waiting.{cancelled, first_file, is_file, waiting_on}
use Rattle.xl_wait.specs.declared.waiter.Rooms.{Rooms}
use Rattle.xl_wait.specs.declared.waiter.Waiter.{Waiter}
use Rattle.xl_core.specs.State.{CoreState, step_begun, drawn, MayBe, aside_of}
use Rattle.xl_core.specs.Askers.{asking_party, both_entered, asked_whats, asked_claims, IsFit}
use Rattle.xl_core.specs.Causes.{IsClaimDue, IsServed, Answered as TurnAnswered, WaitsOn, IsTurn, may_wait, held_once, IsWaiting, noted_by}
use Rattle.xl_core.specs.Decide.{Answered, plea_of, waiter_of, named, waiting, unlocked_claims, claims_asked, acted, decided, way, before_wish, does_wish, wish_after, ask}
use Rattle.xl_core.specs.Wishes.{wish_granted, wish_of, wish_for}
use Rattle.xl_cache.specs.declared.wish.Wish.{Wish}
use Rattle.xl_core.proofs.WishLaws.{wish_elsewhere}
use Rattle.xl_core.proofs.AskWishLaws.{wished_waiters}
use Rattle.xl_core.specs.Good.{are_apart, IsWaiter, IsGood, AllBehind, IsUp, IsSettled, is_held_up, of_first, holds_up, IsPled}
use Rattle.xl_core.specs.Judge.{all_granted, held_with}
use Rattle.xl_core.specs.Settle.{plea_again, way_again, settle, cancel, give_back, weaken}
use Rattle.xl_core.specs.BreakAnswers.{with_rest, ack}
use Rattle.xl_core.specs.Ticks.{renew}
use Rattle.xl_core.specs.Unsettled.{is_among, is_none, with_file, is_granted, may_free, left_by_ask, IsWider, IsNoted, NotesOne, IsHeldUp, AreUp, AreHeldUp}
use Rattle.xl_core.specs.declared.ask.Act.{Act}
use Rattle.xl_core.specs.declared.ask.Act.TheVariants as acts
use Rattle.xl_core.specs.declared.ask.Answer.{Answer}
use Rattle.xl_core.specs.declared.ask.Answer.TheVariants as answers
use Rattle.xl_core.specs.declared.ask.Ask.{Ask}
use Rattle.xl_core.specs.declared.ask.Effect.{Effect}
use Rattle.xl_core.specs.declared.unsettled.Unsettled.{Unsettled}
use Rattle.xl_core.specs.declared.unsettled.Unsettled.TheVariants.{Files, All}
use Rattle.xl_core.proofs.CauseLaws.{test_leaves, first_due}
use Rattle.xl_core.proofs.ChangeLaws.{AskWay, Stays, Tests, Holds, Waits, Frees, decided_way, Gives}
use Rattle.xl_core.proofs.GoodLaws.{cancelled_all, asked_way_good, decided_grants, once_answered}
use Rattle.xl_core.proofs.RowLaws.{is_refusal}
use Rattle.xl_core.proofs.SettleLaws.{settle_rests, settled_is, none_settled, turn_is, once_cases, turn_is_known, without, told_state}
use Rattle.xl_matrix.specs.Owners.{posix}

-- ---- what is held on a file, where another changes

-- the claims on this file
abbrev pub on_file : ℕ → List Claim → List Claim
on_file file cs = filter (λ c. c.file == file) cs

-- the file is another
abbrev pub IsElsewhere : ℕ → ℕ → Type 0
IsElsewhere file other = (file == other) ≡ false

filter_placed : (p : Claim → Bool) (below : Claim → Claim → Bool) (c : Claim) (cs : List Claim) → p c ≡ false → filter p (placed below c cs) ≡ filter p cs
filter_placed p below c [] e = rw e refl
filter_placed p below c (d ∷ ds) e =
    elim (cases_Bool (below d c)) [
      | inl earlier ↦ rw earlier (ap (λ (xs : List Claim). if p d then d ∷ xs else xs) (filter_placed p below c ds e))
      | inr later ↦ rw (later, e) refl
    ]

there_inserted : (file : ℕ) (c : Claim) (cs : List Claim) → IsElsewhere c.file file → on_file file (inserted c cs) ≡ on_file file cs
unfolding inserted
there_inserted file c cs e = filter_placed (λ d. d.file == file) goes_first c cs e

there_all_inserted : (file : ℕ) (ns cs : List Claim) → AllByRecursion (λ c. IsElsewhere c.file file) ns → on_file file (all_inserted ns cs) ≡ on_file file cs
there_all_inserted file [] cs apart = refl
there_all_inserted file (n ∷ ns) cs apart = there_all_inserted file ns (inserted n cs) apart.1 ∙ there_inserted file n cs apart.0

pub left_out : (b : Bool) → not b ≡ false → b ≡ true
left_out true e = refl
left_out false e = sym e

first_of_both : (a b : Bool) → (a && b) ≡ true → a ≡ true
first_of_both true b e = refl
first_of_both false b e = e

-- what is taken out on another file is not missed here
there_kept : (file : ℕ) (keep : Claim → Bool) (cs : List Claim) → ((c : Claim) → keep c ≡ false → IsElsewhere c.file file) → on_file file (filter keep cs) ≡ on_file file cs
there_kept file keep [] apart = refl
there_kept file keep (c ∷ cs) apart =
    elim (cases_Bool (keep c)) [
      | inl stays ↦ rw stays (ap (λ (xs : List Claim). if c.file == file then c ∷ xs else xs) (there_kept file keep cs apart))
      | inr goes ↦ rw (goes, apart c goes) (there_kept file keep cs apart)
    ]

there_relocked : (file at : ℕ) (owner : Owner) (party : Party) (first last : ℕ) (mode : Option Mode) (cs : List Claim) → IsElsewhere at file → on_file file (relocked_in at owner party first last mode cs) ≡ on_file file cs
unfolding relocked_in unranged
there_relocked file at owner party first last mode cs apart =
    there_all_inserted file (map (range_claim at owner party) (relocked (spans_of at owner cs) first last mode)) (filter (λ c. not (is_range_of at owner c)) cs) (all (relocked (spans_of at owner cs) first last mode))
    ∙ there_kept file (λ c. not (is_range_of at owner c)) cs (λ c out. subst (λ (f : ℕ). IsElsewhere f file) (sym (is_of-true at owner c (first_of_both (is_of at owner c) (is_range c.what) (left_out (is_range_of at owner c) out))).0) apart)
  where
    all : (ss : List Span) → AllByRecursion (λ c. IsElsewhere c.file file) (map (range_claim at owner party) ss)
    all [] = tt
    all (s ∷ ss) = (apart, all ss)

there_shared : (file : ℕ) (c : Claim) (cs : List Claim) → IsElsewhere c.file file → on_file file (shared_in c cs) ≡ on_file file cs
unfolding shared_in unshared
there_shared file c cs apart =
    there_inserted file (united c cs) (filter (λ d. not (is_share_of c.file c.owner d)) cs) apart
    ∙ there_kept file (λ d. not (is_share_of c.file c.owner d)) cs (λ d out. subst (λ (f : ℕ). IsElsewhere f file) (sym (is_of-true c.file c.owner d (first_of_both (is_of c.file c.owner d) (is_share d.what) (left_out (is_share_of c.file c.owner d) out))).0) apart)

there_by : (file : ℕ) (c : Claim) (w : What) (cs : List Claim) → IsElsewhere c.file file → on_file file (granted_by c w cs) ≡ on_file file cs
there_by file c (Range (Bytes first last) exclusive) cs apart =
    elim (cases_Bool (posix c.owner)) [
      | inl named ↦ rw named (there_relocked file c.file c.owner c.party first last (Some (mode_of exclusive)) cs apart)
      | inr unnamed ↦ rw unnamed (there_inserted file c cs apart)
    ]
there_by file c (Range (Empty offset) exclusive) cs apart = there_inserted file c cs apart
there_by file c (Share access deny) cs apart = there_shared file c cs apart
there_by file c (Cache kind running) cs apart = refl

there_granted : (file : ℕ) (c : Claim) (cs : List Claim) → IsElsewhere c.file file → on_file file (granted_claims c cs) ≡ on_file file cs
unfolding granted_claims
there_granted file c cs apart = there_by file c c.what cs apart

there_all_granted : (file at : ℕ) (cs held : List Claim) → AllByRecursion (λ c. c.file ≡ at) cs → IsElsewhere at file → on_file file (all_granted cs held) ≡ on_file file held
there_all_granted file at [] held are apart = refl
there_all_granted file at (c ∷ cs) held are apart =
    there_all_granted file at cs (granted_claims c held) are.1 apart ∙ there_granted file c held (subst (λ (f : ℕ). IsElsewhere f file) (sym are.0) apart)

pub there_removed : (file : ℕ) (claim : Claim) (cs : List Claim) → IsElsewhere claim.file file → on_file file (removed claim cs) ≡ on_file file cs
there_removed file claim [] apart = refl
there_removed file claim (c ∷ cs) apart =
    elim (cases_Bool (same_claims c claim)) [
      | inl same ↦
          let other : IsElsewhere c.file file = subst (λ (f : ℕ). IsElsewhere f file) (sym (ap (λ (d : Claim). d.file) (same_claims-true c claim same))) apart in
          rw (same, other) refl
      | inr other ↦ rw other (ap (λ (xs : List Claim). if c.file == file then c ∷ xs else xs) (there_removed file claim cs apart))
    ]

there_changed : (file : ℕ) (claim : Claim) (to : What) (cs : List Claim) → IsElsewhere claim.file file → on_file file (changed claim to cs) ≡ on_file file cs
unfolding changed
there_changed file claim to cs apart = there_inserted file (with_what claim to) (removed claim cs) apart ∙ there_removed file claim cs apart

-- ---- who is held up is so by what is held on its file

blocks_elsewhere : (ask held : Claim) → (held.file == ask.file) ≡ false → blocks ask held ≡ false
unfolding blocks compat
blocks_elsewhere ask held apart =
    let other : (ask.file == held.file) ≡ false = eqb-sym ask.file held.file ∙ apart in
    rw other (no_way (not (is_own ask held)))
  where
    no_way : (b : Bool) → (b && false) ≡ false
    no_way true = refl
    no_way false = refl

abbrev pub is_filled : List Claim → Bool
is_filled [] = false
is_filled (c ∷ cs) = true

pub any_of : (p : Claim → Bool) (cs : List Claim) → list_any p cs ≡ is_filled (filter p cs)
any_of p [] = refl
any_of p (c ∷ cs) = elim (cases_Bool (p c)) [ inl e ↦ rw e refl | inr e ↦ rw e (any_of p cs) ]

-- the state in which what is held on this file is held alone
abbrev here : ℕ → CoreState → CoreState
here file s = record s { claims = on_file file s.claims }

barred_here : (s : CoreState) (c : Claim) → is_barred (here c.file s) c ≡ is_barred s c
barred_here s c = any_of (is_final c (on_file c.file s.claims)) (on_file c.file s.claims) ∙ ap is_filled (final_here c s.claims) ∙ sym (any_of (is_final c s.claims) s.claims)

run_here : (c : Claim) (held : List Claim) → all_run (on_file c.file held) c ≡ all_run held c
run_here c held = ap (λ (p : BreakPlan). not (is_some (first_broken p.breaks))) (planned_here c held)

blocked_here : (c : Claim) (held : List Claim) → is_blocked (on_file c.file held) c ≡ is_blocked held c
blocked_here c held = any_within (blocks c) (λ d. d.file == c.file) held (λ d apart. blocks_elsewhere c d apart)

no_range_by : (b : Bool) → (b && false) ≡ false
no_range_by true = refl
no_range_by false = refl

line_here : (earlier : List Waiter) (s : CoreState) (c : Claim) → range_ahead earlier (here c.file s) c ≡ range_ahead earlier s c
line_here earlier s c = range_held_alike earlier s (on_file c.file s.claims) c
    (λ asked on. any_within (λ d. is_range_by c.owner d && blocks asked d) (λ d. d.file == c.file) s.claims
    (λ d apart. ap (λ (b : Bool). is_range_by c.owner d && b) (blocks_elsewhere asked d (ap (λ (f : ℕ). d.file == f) (eqb-true asked.file c.file on) ∙ apart)) ∙ no_range_by (is_range_by c.owner d)))

held_up_here : (earlier : List Waiter) (s : CoreState) (w : Waiter) (c : Claim) → is_held_up earlier (here c.file s) w c ≡ is_held_up earlier s w c
held_up_here earlier s w c = λ i. (blocked_here c s.claims i || is_some (line_here earlier s c i)) && (if barred_here s c i || is_some (line_here earlier s c i) then w.blocking else run_here c s.claims i)

range_of_claims : (earlier : List Waiter) (s t : CoreState) (c : Claim) → t.claims ≡ s.claims → range_ahead earlier t c ≡ range_ahead earlier s c
unfolding range_ahead ranges_ahead
range_of_claims earlier s t c same = ap (λ (cs : List Claim). first_claim (if is_range c.what then ranges_of_all cs c (waiting_on c.file earlier) else [])) same

up_of_claims : (earlier : List Waiter) (s t : CoreState) (w : Waiter) (c : Claim) → t.claims ≡ s.claims → is_held_up earlier t w c ≡ is_held_up earlier s w c
up_of_claims earlier s t w c same = λ i. (is_blocked (same i) c || is_some (range_of_claims earlier s t c same i)) && (if list_any (is_final c (same i)) (same i) || is_some (range_of_claims earlier s t c same i) then w.blocking else all_run (same i) c)

-- and by who waits there in front of it; by nothing else
pub held_up_still : (before after : List Waiter) (s t : CoreState) (w : Waiter) (c : Claim) → waiting_on c.file after ≡ waiting_on c.file before → on_file c.file t.claims ≡ on_file c.file s.claims → is_held_up after t w c ≡ is_held_up before s w c
held_up_still before after s t w c line e =
    sym (held_up_here after t w c) ∙ up_of_claims after (here c.file s) (here c.file t) w c e ∙ held_up_here after s w c
    ∙ (λ i. (is_blocked s.claims c || is_some (range_alike after before s c line i)) && (if is_barred s c || is_some (range_alike after before s c line i) then w.blocking else all_run s.claims c))

-- ---- the unsettled files

pub both_apart : (file other : ℕ) (u : Unsettled) → is_among (with_file file u) other ≡ false → (is_among u other ≡ false) × ((file == other) ≡ false)
both_apart file other (Files files) e = let parts = or_parts (other == file) (list_any (λ f. other == f) files) e in (parts.1, eqb-sym file other ∙ parts.0)
both_apart file other All e = absurd (both_ways true e refl)

-- who is held up stays so where each other file has what was held there
abbrev StaysElsewhere : Unsettled → Unsettled → List Claim → List Claim → Type 0
StaysElsewhere u v old new = (file : ℕ) → is_among v file ≡ false → (is_among u file ≡ false) × (on_file file new ≡ on_file file old)

-- nobody came or went, on a file that isn't one of these, in front of who has this number
abbrev StandsSo : Unsettled → ℕ → List Waiter → List Waiter → Type 0
StandsSo v id old new = (file : ℕ) → is_among v file ≡ false → waiting_on file (before_number id new) ≡ waiting_on file (before_number id old)

still_up : (u v : Unsettled) (s t : CoreState) (w : Waiter) (asked : List Claim) → StaysElsewhere u v s.claims t.claims → StandsSo v w.id s.waiters t.waiters → IsHeldUp u (before_number w.id s.waiters) s w asked → IsHeldUp v (before_number w.id t.waiters) t w asked
still_up u v s t w [] on stands up = tt
still_up u v s t w (c ∷ cs) on stands up = λ e. let same = on c.file e in held_up_still (before_number w.id s.waiters) (before_number w.id t.waiters) s t w c (stands c.file e) same.1 ∙ up same.0

-- these alone wait then
pub few_up : (u v : Unsettled) (s t : CoreState) (ws : List Waiter) → t.waiters ≡ ws → StaysElsewhere u v s.claims t.claims → ((w : Waiter) → IsIn w ws → StandsSo v w.id s.waiters ws) → (is_some t.grace ≡ false → AreUp u s ws) → AreHeldUp v t
unfolding AreHeldUp
few_up u v s t ws are on stands all = λ calm.
    subst (λ (vs : List Waiter). AllByRecursion (λ w. IsHeldUp v (before_number w.id t.waiters) t w w.asked) vs) (sym are)
    (all_from (λ (w : Waiter). IsHeldUp v (before_number w.id t.waiters) t w w.asked) ws
    (λ w there. still_up u v s t w w.asked on (subst (λ (vs : List Waiter). StandsSo v w.id s.waiters vs) (sym are) (stands w there)) (all_in (λ (x : Waiter). IsHeldUp u (before_number x.id s.waiters) s x x.asked) w ws (all calm) there)))

-- the same wait, and grace runs if it ran
pub all_still_up : (u v : Unsettled) (s t : CoreState) → t.waiters ≡ s.waiters → is_some t.grace ≡ is_some s.grace → StaysElsewhere u v s.claims t.claims → AreHeldUp u s → AreHeldUp v t
unfolding AreHeldUp
all_still_up u v s t same runs on all = few_up u v s t s.waiters same on (λ w there file n. refl) (λ calm. all (sym runs ∙ calm))

-- nor is anything said where nobody waits
pub none_up : (u : Unsettled) (s : CoreState) → s.waiters ≡ [] → AreHeldUp u s
none_up u s none = few_up u u s s [] none (λ file n. (n, refl)) (λ w there. absurd there) (λ calm. tt)

-- where all files are unsettled nothing is said of anyone
pub any_up : (s : CoreState) → AreHeldUp All s
unfolding AreHeldUp
any_up s = λ calm. by s.waiters where
  one : (earlier : List Waiter) (w : Waiter) (asked : List Claim) → IsHeldUp All earlier s w asked
  one earlier w [] = tt
  one earlier w (c ∷ cs) = λ e. absurd (both_ways true e refl)

  by : (ws : List Waiter) → AllByRecursion (λ w. IsHeldUp All (before_number w.id s.waiters) s w w.asked) ws
  by [] = tt
  by (w ∷ ws) = (one (before_number w.id s.waiters) w w.asked, by ws)

-- ---- who comes and who goes

in_append : (w : Waiter) (xs ys : List Waiter) → IsIn w (xs ++ ys) → IsIn w xs ⊎ IsIn w ys
in_append w [] ys there = inr there
in_append w (x ∷ xs) ys there = elim there [
  | inl is ↦ inl (inl is)
  | inr behind ↦ elim (in_append w xs ys behind) [ inl one ↦ inl (inr one) | inr other ↦ inr other ]
]

-- who comes stands in front of nobody
before_push : (w new : Waiter) (ws : List Waiter) → IsIn w ws → before_number w.id (ws ++ new ∷ []) ≡ before_number w.id ws
before_push w new [] there = absurd there
before_push w new (v ∷ vs) there = elim (cases_Bool (v.id == w.id)) [
  | inl same ↦ rw same refl
  | inr other ↦ rw other (ap (λ (us : List Waiter). v ∷ us) (before_push w new vs (behind there other)))
]
  where
    behind : (v ≡ w) ⊎ IsIn w vs → (v.id == w.id) ≡ false → IsIn w vs
    behind (inl is) other = absurd (both_ways (v.id == w.id) other (eq-eqb v.id w.id (ap (λ (x : Waiter). x.id) is)))
    behind (inr rest) other = rest

-- who goes is missed on its file alone, by those of other numbers
goes_apart : (id gone file : ℕ) (ws : List Waiter) → (gone == id) ≡ false → AllByRecursion (λ w. (w.id == gone) ≡ true → is_file file (first_file w.asked) ≡ false) ws → waiting_on file (before_number id (cancelled gone ws)) ≡ waiting_on file (before_number id ws)
goes_apart id gone file [] apart off = refl
goes_apart id gone file (w ∷ ws) apart off = elim (cases_Bool (w.id == gone)) [
  | inl is ↦
      let other : (w.id == id) ≡ false = ap (λ (n : ℕ). n == id) (eqb-true w.id gone is) ∙ apart in
      rw (is, other, off.0 is) refl
  | inr stays ↦
      let rest = goes_apart id gone file ws apart off.1 in
      elim (cases_Bool (w.id == id)) [
        | inl own ↦ rw (stays, own) refl
        | inr other ↦ rw (stays, other) (ap (λ (us : List Waiter). if is_file file (first_file w.asked) then w ∷ us else us) rest)
      ]
]

pub kept_apart : (keep : Waiter → Bool) (id file : ℕ) (ws : List Waiter) → AllByRecursion (λ w. keep w ≡ false → ((w.id == id) ≡ false) × (is_file file (first_file w.asked) ≡ false)) ws → waiting_on file (before_number id (filter keep ws)) ≡ waiting_on file (before_number id ws)
kept_apart keep id file [] off = refl
kept_apart keep id file (w ∷ ws) off = let rest = kept_apart keep id file ws off.1 in elim (cases_Bool (keep w)) [
  | inr out ↦ let apart = off.0 out in rw (out, apart.0, apart.1) rest
  | inl stays ↦ elim (cases_Bool (w.id == id)) [
    | inl own ↦ rw (stays, own) refl
    | inr other ↦ rw (stays, other) (ap (λ (us : List Waiter). if is_file file (first_file w.asked) then w ∷ us else us) rest)
  ]
]

-- the file of one that is noted isn't one that isn't
pub noted_off : (v : Unsettled) (w : Waiter) (file : ℕ) → IsNoted v w → is_among v file ≡ false → is_file file (first_file w.asked) ≡ false
noted_off v w file noted apart = by (first_file w.asked) noted where
  by : (o : Option ℕ) → IfSome o (λ f. is_among v f ≡ true) → is_file file o ≡ false
  by None is = refl
  by (Some f) is = elim (cases_Bool (f == file)) [
    | inr other ↦ other
    | inl same ↦ absurd (both_ways (is_among v file) apart (subst (λ (g : ℕ). is_among v g ≡ true) (eqb-true f file same) is))
  ]

-- ---- an ask

pub asked_there : (a : Ask) (whats : List What) (names : List Name) → AllByRecursion (λ c. c.file ≡ a.file) (asked_claims a whats names)
asked_there a [] names = tt
asked_there a (w ∷ ws) names = (refl, asked_there a ws names)

-- a refusal grants nothing
refused_not_given : (answer : Answer) → is_refusal answer ≡ true → is_granted answer ≡ true → ⊥
refused_not_given (answers.Granted c) refused given = absurd (both_ways false refl refused)
refused_not_given (answers.Queued number) refused given = absurd (both_ways false refl given)
refused_not_given (answers.Conflict c) refused given = absurd (both_ways false refl given)
refused_not_given (answers.Recall c) refused given = absurd (both_ways false refl given)
refused_not_given (answers.Grace until) refused given = absurd (both_ways false refl given)
refused_not_given (answers.NoGrace clock) refused given = absurd (both_ways false refl given)
refused_not_given answers.NotRecorded refused given = absurd (both_ways false refl given)
refused_not_given (answers.Full limit) refused given = absurd (both_ways false refl given)
refused_not_given answers.NotHeld refused given = absurd (both_ways false refl given)
refused_not_given answers.StoreFailed refused given = absurd (both_ways false refl given)

-- what is asked for there is held, or given up, and who waits on other files stays blocked
way_up : (u : Unsettled) (s : CoreState) (a : Ask) (answer : Answer) (t : CoreState) → AskWay s a (answer, [], t) → is_granted answer ≡ true → AreHeldUp u s → AreHeldUp (with_file a.file u) t
unfolding held_with
way_up u s a answer t (Stays other refused e) given all = absurd (refused_not_given other refused (ap (λ (x : Answered). is_granted x.0) (sym e) ∙ given))
way_up u s a answer t (Tests c holds e) given all = subst (λ (x : Answered). AreHeldUp (with_file a.file u) x.2) (sym e) (all_still_up u (with_file a.file u) s s refl refl (λ file n. ((both_apart a.file file u n).0, refl)) all)
way_up u s a answer t (Holds c claims is holds e) given all =
    let there = subst (λ (cs : List Claim). AllByRecursion (λ d. d.file ≡ a.file) cs) (sym is) (asked_there a (asked_whats a.act) s.names) in
    subst (λ (x : Answered). AreHeldUp (with_file a.file u) x.2) (sym e)
    (all_still_up u (with_file a.file u) s (with_aside (aside_of (noted_by s a (answers.Granted c))) (named a (record s { claims = all_granted claims s.claims }))) refl (by_runs s a (answers.Granted c)) (λ file n. let apart = both_apart a.file file u n in (apart.0, there_all_granted file a.file claims s.claims there apart.1)) all)
way_up u s a answer t (Waits c cs why is holds e) given all = absurd (both_ways (is_granted answer) (ap (λ (x : Answered). is_granted x.0) e) given)
way_up u s a answer t (Frees claim first last holds act at owner e) given all =
    subst (λ (x : Answered). AreHeldUp (with_file a.file u) x.2) (sym e)
    (all_still_up u (with_file a.file u) s (record s { claims = unlocked_claims claim first last s.claims }) refl refl
    (λ file n. let apart = both_apart a.file file u n in (apart.0, there_relocked file claim.file claim.owner claim.party first last None s.claims (subst (λ (f : ℕ). IsElsewhere f file) (sym at) apart.1))) all)
way_up u s a answer t (Gives claim d holds act at owner range e) given all =
    subst (λ (x : Answered). AreHeldUp (with_file a.file u) x.2) (sym e)
    (all_still_up u (with_file a.file u) s (record s { claims = removed d s.claims }) refl refl
    (λ file n. let apart = both_apart a.file file u n in (apart.0, there_removed file d s.claims (subst (λ (f : ℕ). IsElsewhere f file) (sym at) apart.1))) all)

-- where one is told to wait for answers to breaks, all of these run
abbrev Runs : CoreState → Ask → Answer → Type 0
Runs s a answer = is_some s.grace ≡ false → (id : ℕ) (c : Claim) (cs : List Claim) → answer ≡ answers.Queued id → c ∷ cs ≡ asked_claims a (asked_whats a.act) s.names → asks_to_hold a.act ≡ true → is_in_line s.waiters s c ≡ true → is_stopped s.waiters s c ≡ false → all_run s.claims c ≡ true

-- where no grace runs who comes to wait waits for what is in its way
waits_calm : (s : CoreState) (a : Ask) (c : Claim) → is_some s.grace ≡ false → IsWaiting (stands s a) s.waiters s a c → (stands s a ≡ Timely) × (may_wait s.waiters s a c ≡ true) × (is_in_line s.waiters s c ≡ true)
waits_calm s a c calm why = by (stands s a) refl why where
  by : (standing : Standing) → stands s a ≡ standing → IsWaiting standing s.waiters s a c → (stands s a ≡ Timely) × (may_wait s.waiters s a c ≡ true) × (is_in_line s.waiters s c ≡ true)
  by Timely is why = (is, why.0, why.1)
  by standings.Stays is why = absurd (both_ways (is_some s.grace) calm (stays_runs s (asker_as a) (is_smb a.party) a.reclaim is))
  by Reclaims is why = absurd why
  by (Early until) is why = absurd why
  by (Late clock) is why = absurd why
  by Unrecorded is why = absurd why

-- who comes to wait is held up
comes_up : (u : Unsettled) (s : CoreState) (a : Ask) (c : Claim) (cs : List Claim) → may_wait s.waiters s a c ≡ true → is_in_line s.waiters s c ≡ true → (is_stopped s.waiters s c ≡ false → all_run s.claims c ≡ true) → IsHeldUp u s.waiters s (waiter_of (s.counter + 1) a (asking_party a s.names) (c ∷ cs)) (c ∷ cs)
comes_up u s a c cs may blocked run = λ e. by (is_in_line s.waiters s c) (is_stopped s.waiters s c) a.blocking a.awaits (all_run s.claims c) may blocked run where
  by : (x y z v r : Bool) → (if y then z else v) ≡ true → x ≡ true → (y ≡ false → r ≡ true) → (x && (if y then z else r)) ≡ true
  by true true z v r m b run = m
  by true false z v r m b run = run refl
  by false y z v r m b run = absurd (both_ways false refl b)

above : (n m : ℕ) → n ≤ m → (n == m + 1) ≡ false
above n m le = grind (arith, nat_tests)

same_up : (u : Unsettled) (s : CoreState) (a : Ask) (answer : Answer) (t : CoreState) → AskWay s a (answer, [], t) → is_granted answer ≡ false → Runs s a answer → IsGood s → AreHeldUp u s → AreHeldUp u t
unfolding AreHeldUp
same_up u s a answer t (Stays other refused e) given runs good all = subst (λ (x : Answered). AreHeldUp u x.2) (sym e) (all_still_up u u s (with_aside (aside_of (noted_by s a other)) s) refl (by_runs s a other) (λ file n. (n, refl)) all)
same_up u s a answer t (Tests c holds e) given runs good all = subst (λ (x : Answered). AreHeldUp u x.2) (sym e) all
same_up u s a answer t (Holds c claims of holds e) given runs good all = absurd (both_ways (is_granted answer) given (ap (λ (x : Answered). is_granted x.0) e))
same_up u s a answer t (Gives claim d holds act file owner range e) given runs good all = absurd (both_ways (is_granted answer) given (ap (λ (x : Answered). is_granted x.0) e))
same_up u s a answer t (Waits c cs why is holds e) given runs good all =
    subst (λ (x : Answered). AreHeldUp u x.2) (sym e)
    (few_up u u s (waiting a (c ∷ cs) s) (s.waiters ++ new ∷ []) refl (λ file n. (n, refl)) stands
    (λ calm. all_append (λ (w : Waiter). IsHeldUp u (before_number w.id s.waiters) s w w.asked) s.waiters (new ∷ []) (all calm)
    (let now = waits_calm s a c calm why in subst (λ (ws : List Waiter). IsHeldUp u ws s new (c ∷ cs)) (sym in_front) (comes_up u s a c cs now.1 now.2 (runs calm (s.counter + 1) c cs (ap (λ (x : Answered). x.0) e) is holds now.2)), tt)))
  where
    new : Waiter
    new = waiter_of (s.counter + 1) a (asking_party a s.names) (c ∷ cs)

    apart : (ws : List Waiter) → AllByRecursion (IsWaiter s.names s.counter) ws → AllByRecursion (λ v. (v.id == s.counter + 1) ≡ false) ws
    apart [] are = tt
    apart (w ∷ ws) are = (above w.id s.counter are.0.0, apart ws are.1)

    in_front : before_number (s.counter + 1) s.waiters ≡ s.waiters
    in_front = none_of s.waiters (apart s.waiters good.waiters) where
      none_of : (ws : List Waiter) → AllByRecursion (λ v. (v.id == s.counter + 1) ≡ false) ws → before_number (s.counter + 1) ws ≡ ws
      none_of [] off = refl
      none_of (w ∷ ws) off = rw off.0 (ap (λ (us : List Waiter). w ∷ us) (none_of ws off.1))

    in_front_then : before_number (s.counter + 1) (s.waiters ++ new ∷ []) ≡ s.waiters
    in_front_then = before_more (s.counter + 1) s.waiters new (apart s.waiters good.waiters) ∙ ap (λ (b : Bool). if b then s.waiters else s.waiters ++ new ∷ []) (eq-eqb (s.counter + 1) (s.counter + 1) refl)

    stands : (w : Waiter) → IsIn w (s.waiters ++ new ∷ []) → StandsSo u w.id s.waiters (s.waiters ++ new ∷ [])
    stands w there file n = elim (in_append w s.waiters (new ∷ []) there) [
      | inl before ↦ ap (waiting_on file) (before_push w new s.waiters before)
      | inr last ↦ elim last [
        | inl is ↦ subst (λ (x : Waiter). waiting_on file (before_number x.id (s.waiters ++ new ∷ [])) ≡ waiting_on file (before_number x.id s.waiters)) is (ap (waiting_on file) (in_front_then ∙ sym in_front))
        | inr none ↦ absurd none
      ]
    ]
same_up u s a answer t (Frees claim first last holds act file owner e) given runs good all = absurd (both_ways (is_granted answer) given (ap (λ (x : Answered). is_granted x.0) e))

decided_up : (n : ℕ) (u : Unsettled) (left : Rooms) (s t : CoreState) (a : Ask) (answer : Answer) → decided n left s a ≡ (answer, [], t) → IsGood s → IsFit a → Runs s a answer → AreHeldUp u s → AreHeldUp (if may_free a.act answer then with_file a.file u else u) t
decided_up n u left s t a answer e good fit runs all = by a.act refl where
  way : AskWay s a (answer, [], t)
  way = subst (AskWay s a) e (decided_way n left s a good fit.party)

  given : (b : Bool) → is_granted answer ≡ b → AreHeldUp (if b then with_file a.file u else u) t
  given true is = way_up u s a answer t way is all
  given false is = same_up u s a answer t way is runs good all

  by : (act : Act) → a.act ≡ act → AreHeldUp (if may_free act answer then with_file a.file u else u) t
  by (acts.Share access deny) is = given (is_granted answer) refl
  by (acts.Ranges ranges) is = given (is_granted answer) refl
  by (acts.Test extent exclusive) is = subst (λ (x : CoreState). AreHeldUp u x) (sym (test_leaves n left s a extent exclusive is) ∙ ap (λ (x : Answered). x.2) e) all
  by (acts.Unlock extent) is = given (is_granted answer) refl
  by acts.Wish is = given (is_granted answer) refl

-- where it asks to hold something it is judged for just that
hold_is : (n : ℕ) (left : Rooms) (s : CoreState) (a : Ask) (c : Claim) (cs : List Claim) → c ∷ cs ≡ asked_claims a (asked_whats a.act) s.names → asks_to_hold a.act ≡ true → decided n left s a ≡ claims_asked n left s a (asked_claims a (asked_whats a.act) s.names)
unfolding decided
hold_is n left s a c cs some holds = by a.act some holds where
  by : (act : Act) → c ∷ cs ≡ asked_claims a (asked_whats act) s.names → asks_to_hold act ≡ true → acted n left s a act ≡ claims_asked n left s a (asked_claims a (asked_whats act) s.names)
  by (acts.Share access deny) some h = refl
  by (acts.Ranges ranges) some h = refl
  by (acts.Test extent exclusive) some h = absurd (both_ways false refl h)
  by (acts.Unlock extent) some h = absurd (both_ways false refl h)
  by acts.Wish some h = let two : c ∷ cs ≡ [] = some in absurd cc

-- one who is told to wait where no grace runs is no reclaim, and its wait passes no limit
plea_waits : (n : ℕ) (left : Rooms) (s : CoreState) (a : Ask) (claim : Claim) (id : ℕ) → is_some s.grace ≡ false → IsClaimDue n left s a claim (answers.Queued id) → ((plea_of left s a).standing ≡ Timely) × ((plea_of left s a).crowded ≡ None)
unfolding plea_of
plea_waits n left s a claim id calm due = ((waits_calm s a claim calm due.1).0, wait_least left a.rows (length s.waiters) (length (both_entered a s.names)) None due.2)

begun_plea : (left : Rooms) (a : Ask) (c : Claim) (s : CoreState) → plea_of left (breaks_begun c s).1 a ≡ plea_of left s a
unfolding plea_of breaks_begun standing
begun_plea left a c s = refl

pub begun_grace : (c : Claim) (s : CoreState) → (breaks_begun c s).1.grace ≡ s.grace
unfolding breaks_begun
begun_grace c s = refl

reclaims_runs : (s : CoreState) (a : Ask) → stands s a ≡ Reclaims → is_some s.grace ≡ true
reclaims_runs s a e = by s.grace refl where
  by : (g : Option Running) → s.grace ≡ g → is_some g ≡ true
  by (Some running) is = refl
  by None is =
      let two : Late s.clock ≡ Reclaims = sym (late s (asker_as a) (is_smb a.party) is) ∙ ap (standing s (asker_as a) (is_smb a.party)) (sym (reclaims_asks s (asker_as a) (is_smb a.party) a.reclaim e)) ∙ e in
      absurd cc

-- who is told to wait isn't one who reclaims, so what is in its way is so behind all who wait
in_its_line : (s : CoreState) (a : Ask) (c : Claim) (cs : List Claim) → c ∷ cs ≡ asked_claims a (asked_whats a.act) s.names → asks_to_hold a.act ≡ true → is_some s.grace ≡ false → is_in_line s.waiters s c ≡ true → is_in_line (those_before (stands s a) s.waiters) s c ≡ true
in_its_line s a c cs is holds calm line = subst (λ (ws : List Waiter). is_in_line ws s c ≡ true) (sym (by (stands s a) refl)) line where
  by : (standing : Standing) → stands s a ≡ standing → those_before standing s.waiters ≡ s.waiters
  by Timely e = refl
  by Reclaims e = absurd (both_ways (is_some s.grace) calm (reclaims_runs s a e))
  by standings.Stays e = refl
  by (Early until) e = refl
  by (Late clock) e = refl
  by Unrecorded e = refl

-- so where the way of one is made that is told to wait, all breaks run that it waits for
way_all_run : (n : ℕ) (left : Rooms) (s : CoreState) (a : Ask) → Runs (way left s a).1 a (decided n left (way left s a).1 a).0
way_all_run n left s a calm id c cs at is holds blocked moves =
    let t = (way left s a).1 in
    let names : t.names ≡ s.names = ask_way_names left s a in
    let due = subst (IsClaimDue n left t a c) at (first_due n left t a c cs (decided n left t a) (in_its_line t a c cs is holds calm blocked) (hold_is n left t a c cs is holds ∙ ap (claims_asked n left t a) (sym is))) in
    let pleads = plea_waits n left t a c id calm due in
    let same : plea_of left t a ≡ plea_of left s a = ask_way_keeps (λ x. plea_of left x a) left s a (λ d. begun_plea left a d s) in
    let asked : asked_claims a (asked_whats a.act) s.names ≡ c ∷ cs = ap (λ (ns : List Name). asked_claims a (asked_whats a.act) ns) (sym names) ∙ sym is in
    let made : way left s a ≡ made_way s.waiters (plea_of left s a) (c ∷ cs) s = ap (λ (ds : List Claim). made_way s.waiters (plea_of left s a) ds s) asked in
    elim (cases_Bool (is_stopped s.waiters s c)) [
      | inl stops ↦
          let stays : t ≡ s = ap (λ (w : List Effect × CoreState). w.1) (made ∙ way_stopped s.waiters (plea_of left s a) c cs s stops) in
          absurd (both_ways (is_stopped t.waiters t c) moves (subst (λ (x : CoreState). is_stopped x.waiters x c ≡ true) (sym stays) stops))
      | inr moved ↦
          ap (λ (w : List Effect × CoreState). all_run w.1.claims c) made
          ∙ way_runs s.waiters (plea_of left s a) c cs s (ap (λ (p : Plea). p.standing) (sym same) ∙ pleads.0) (ap (λ (p : Plea). p.crowded) (sym same) ∙ pleads.1) moved
    ]

-- who waits on a file that isn't among more of them is held up, where all are that don't wait on these
wider_up : (u v : Unsettled) (s : CoreState) → IsWider u v → AreHeldUp u s → AreHeldUp v s
wider_up u v s wider all = all_still_up u v s s refl refl (λ file n. (wider file n, refl)) all

same_file : (f : ℕ) (u : Unsettled) → IsWider (with_file f (with_file f u)) (with_file f u)
same_file f (Files files) file n = let apart = both_apart f file (Files files) n in rw (eqb-sym file f ∙ apart.1, apart.0) refl
same_file f All file n = n

-- what an ask begins it begins on its own file
way_elsewhere : (left : Rooms) (s : CoreState) (a : Ask) (file : ℕ) → (a.file == file) ≡ false → on_file file (way left s a).1.claims ≡ on_file file s.claims
way_elsewhere left s a file apart =
    elim (way_is s.waiters (plea_of left s a) (asked_claims a (asked_whats a.act) s.names) s) [
      | NoWay e ↦ ap (λ (w : List Effect × CoreState). on_file file w.1.claims) e
      | Begins c cs is does e ↦
          let here = (subst (λ (ds : List Claim). AllByRecursion (λ d. d.file ≡ a.file) ds) is (asked_there a (asked_whats a.act) s.names)).0 in
          ap (λ (w : List Effect × CoreState). on_file file w.1.claims) e ∙ begun_elsewhere s c file (ap (λ (f : ℕ). f == file) here ∙ apart)
    ]

-- ---- a wish

other_file : (u : Unsettled) (file other : ℕ) → is_among u file ≡ true → is_among u other ≡ false → (file == other) ≡ false
other_file u file other there apart =
    elim (cases_Bool (file == other)) [
      | inr e ↦ e
      | inl same ↦ absurd (both_ways (is_among u other) apart (subst (λ (f : ℕ). is_among u f ≡ true) (eqb-true file other same) there))
    ]

wished_grace : (wanted : Wish) (s : CoreState) → (wish_granted wanted s).grace ≡ s.grace
unfolding wish_granted
wished_grace wanted s = refl

-- who waits on a file that isn't unsettled stays held up where a wish is granted on one that is
granted_up : (v : Unsettled) (wanted : Wish) (s : CoreState) → is_among v wanted.file ≡ true → AreHeldUp v s → AreHeldUp v (wish_granted wanted s)
granted_up v wanted s there all =
    all_still_up v v s (wish_granted wanted s) (wished_waiters wanted s) (ap is_some (wished_grace wanted s)) (λ file n. (n, wish_elsewhere wanted s file (other_file v wanted.file file there n))) all

for_up : (v : Unsettled) (kinds : List CacheKind) (answer : Answer) (s : CoreState) → ((d : Claim) → answer ≡ answers.Granted d → is_among v d.file ≡ true) → AreHeldUp v s → AreHeldUp v (wish_for kinds answer s)
for_up v kinds (answers.Granted c) s there all = granted_up v (wish_of kinds c) s (there c refl) all
for_up v kinds (answers.Queued number) s there all = all
for_up v kinds (answers.Conflict c) s there all = all
for_up v kinds (answers.Recall c) s there all = all
for_up v kinds (answers.Grace until) s there all = all
for_up v kinds (answers.NoGrace clock) s there all = all
for_up v kinds answers.NotRecorded s there all = all
for_up v kinds (answers.Full limit) s there all = all
for_up v kinds answers.NotHeld s there all = all
for_up v kinds answers.StoreFailed s there all = all

after_up : (v : Unsettled) (a : Ask) (answer : Answer) (s : CoreState) → (does_wish a.act ≡ true → is_granted answer ≡ true → is_among v a.file ≡ true) → (does_wish a.act ≡ true → (d : Claim) → answer ≡ answers.Granted d → d.file ≡ a.file) → AreHeldUp v s → AreHeldUp v (wish_after a answer s)
after_up v a answer s own there all = by (does_wish a.act) refl where
  by : (b : Bool) → does_wish a.act ≡ b → AreHeldUp v (if b then wish_for a.wish answer s else s)
  by true does = for_up v a.wish answer s (λ d e. subst (λ (f : ℕ). is_among v f ≡ true) (sym (there does d e)) (own does (ap is_granted e))) all
  by false doesnt = all

is_with : (file : ℕ) (u : Unsettled) → is_among (with_file file u) file ≡ true
is_with file (Files files) = rw (eq-eqb file file refl) refl
is_with file All = refl

wish_frees : (act : Act) (answer : Answer) → does_wish act ≡ true → is_granted answer ≡ true → may_free act answer ≡ true
wish_frees (acts.Share access deny) answer does given = given
wish_frees (acts.Ranges ranges) answer does given = absurd (both_ways false refl does)
wish_frees (acts.Test extent exclusive) answer does given = absurd (both_ways false refl does)
wish_frees (acts.Unlock extent) answer does given = absurd (both_ways false refl does)
wish_frees acts.Wish answer does given = given

pub ask_up : (u : Unsettled) (left : Rooms) (s t : CoreState) (a : Ask) (answer : Answer) (told : List Effect) → ((n : ℕ) → MayBe n t → ask n left s a ≡ (answer, told, t)) → IsGood s → IsFit a → AreHeldUp u s → AreHeldUp (left_by_ask a answer told u) t
unfolding ask before_wish
ask_up u left s t a answer told e good fit all =
    subst (AreHeldUp (left_by_ask a answer told u)) (ap (λ (x : Answer). wish_after a x before) (sym answers) ∙ ap (λ (r : Answered). r.2) now)
    (after_up (left_by_ask a answer told u) a answer before (λ does given. own_file told does given) (λ does d at. ap (λ (c : Claim). c.file) (decided_grants n left way_state a d does (answers ∙ at)).1)
    (by told (way_told ∙ ap (λ (r : Answered). r.1) now)))
  where
    n : ℕ
    n = t.made

    now : ask n left s a ≡ (answer, told, t)
    now = e n (may_be_made t)

    way_state : CoreState
    way_state = (way left s a).1

    sound : IsGood way_state
    sound = asked_way_good left s a good

    way_told : (way left s a).0 ≡ (way left s a).0 ++ (decided n left way_state a).1
    way_told = sym (append-nil (way left s a).0) ∙ ap (λ (xs : List Effect). (way left s a).0 ++ xs) (sym (decided_quiet n left way_state a sound fit.party))

    before : CoreState
    before = (decided n left way_state a).2

    answers : (decided n left way_state a).0 ≡ answer
    answers = ap (λ (r : Answered). r.0) now

    judged_so : decided n left way_state a ≡ (answer, [], before)
    judged_so = λ i. (answers i, decided_quiet n left way_state a sound fit.party i, before)

    -- its file is unsettled where its wish may be granted
    own_file : (xs : List Effect) → does_wish a.act ≡ true → is_granted answer ≡ true → is_among (left_by_ask a answer xs u) a.file ≡ true
    own_file [] does given = subst (λ (b : Bool). is_among (if b then with_file a.file u else u) a.file ≡ true) (sym (wish_frees a.act answer does given)) (is_with a.file u)
    own_file (x ∷ xs) does given = is_with a.file u

    runs : Runs way_state a answer
    runs = subst (Runs way_state a) (ap (λ (r : Answered). r.0) now) (way_all_run n left s a)

    on_its_file : AreHeldUp (with_file a.file u) way_state
    on_its_file =
        all_still_up u (with_file a.file u) s way_state (ask_way_waiters left s a) (ap is_some (ask_way_keeps (λ x. x.grace) left s a (λ c. begun_grace c s))) (λ file n. let apart = both_apart a.file file u n in (apart.0, way_elsewhere left s a file apart.1)) all

    by : (xs : List Effect) → (way left s a).0 ≡ xs → AreHeldUp (left_by_ask a answer xs u) before
    by [] none =
        let quiet : way left s a ≡ ([], s) = way_quiet s.waiters (plea_of left s a) (asked_claims a (asked_whats a.act) s.names) s none in
        decided_up n u left way_state before a answer judged_so sound fit runs (subst (λ (w : List Effect × CoreState). AreHeldUp u w.1) (sym quiet) all)
    by (x ∷ xs) some =
        both (may_free a.act answer) (decided_up n (with_file a.file u) left way_state before a answer judged_so sound fit runs on_its_file)
      where
        both : (b : Bool) → AreHeldUp (if b then with_file a.file (with_file a.file u) else with_file a.file u) before → AreHeldUp (with_file a.file u) before
        both true up = wider_up (with_file a.file (with_file a.file u)) (with_file a.file u) before (same_file a.file u) up
        both false up = up

-- ---- who leaves

-- of those apart one has the number
pub one_number : (w v : Waiter) (ws : List Waiter) → Pairwise are_apart ws → IsIn w ws → IsIn v ws → (v.id == w.id) ≡ true → v ≡ w
one_number w v [] apart there too same = absurd there
one_number w v (x ∷ xs) apart there too same = by there too (λ t o. one_number w v xs apart.1 t o same) where
  off : (y z : Waiter) → are_apart y z ≡ true → (y.id == z.id) ≡ true → ⊥
  off y z e f = both_ways false refl (sym (rw f refl) ∙ e)

  by : (x ≡ w) ⊎ IsIn w xs → (x ≡ v) ⊎ IsIn v xs → (IsIn w xs → IsIn v xs → v ≡ w) → v ≡ w
  by (inl is) (inl has) rest = sym has ∙ is
  by (inl is) (inr behind) rest = absurd (off w v (all_in (λ u. are_apart w u ≡ true) v xs (subst (λ (y : Waiter). AllByRecursion (λ u. are_apart y u ≡ true) xs) is apart.0) behind) (eqb-sym w.id v.id ∙ same))
  by (inr behind) (inl has) rest = absurd (off v w (all_in (λ u. are_apart v u ≡ true) w xs (subst (λ (y : Waiter). AllByRecursion (λ u. are_apart y u ≡ true) xs) has apart.0) behind) same)
  by (inr behind) (inr past) rest = rest behind past

-- who is left once one is taken out is another
left_other : (id : ℕ) (w : Waiter) (ws : List Waiter) → Pairwise are_apart ws → IsIn w (cancelled id ws) → IsIn w ws × ((id == w.id) ≡ false)
left_other id w [] apart there = absurd there
left_other id w (v ∷ vs) apart there = elim (cases_Bool (v.id == id)) [
  | inl is ↦
      let left : cancelled id (v ∷ vs) ≡ vs = rw is refl in
      let behind : IsIn w vs = subst (λ (ws : List Waiter). IsIn w ws) left there in
      (inr behind, ap (λ (n : ℕ). n == w.id) (sym (eqb-true v.id id is)) ∙ not_so (v.id == w.id) (all_in (λ u. are_apart v u ≡ true) w vs apart.0 behind))
  | inr other ↦ let left : cancelled id (v ∷ vs) ≡ v ∷ cancelled id vs = rw other refl in by other (subst (λ (ws : List Waiter). IsIn w ws) left there) (λ behind. left_other id w vs apart.1 behind)
]
  where
    not_so : (b : Bool) → not b ≡ true → b ≡ false
    not_so true e = absurd (both_ways false refl e)
    not_so false e = refl

    by : (v.id == id) ≡ false → (v ≡ w) ⊎ IsIn w (cancelled id vs) → (IsIn w (cancelled id vs) → IsIn w vs × ((id == w.id) ≡ false)) → IsIn w (v ∷ vs) × ((id == w.id) ≡ false)
    by other (inl is) rest = (inl is, eqb-sym id w.id ∙ ap (λ (x : Waiter). x.id == id) (sym is) ∙ other)
    by other (inr behind) rest = let more = rest behind in (inr more.0, more.1)

pub cancel_up : (u v : Unsettled) (s : CoreState) (id : ℕ) → IsGood s → NotesOne u v id s.waiters → AreHeldUp u s → AreHeldUp v (cancel s id).1
unfolding cancel AreHeldUp
cancel_up u v s id good notes all =
    few_up u v s (cancel s id).1 (cancelled id s.waiters) refl (λ file n. (notes.wider file n, refl))
    (λ w there file n. goes_apart w.id id file s.waiters (left_other id w s.waiters good.apart there).1 (all_from (λ (x : Waiter). (x.id == id) ≡ true → is_file file (first_file x.asked) ≡ false) s.waiters (λ x held e. noted_off v x file (all_in (λ y. (y.id == id) ≡ true → IsNoted v y) x s.waiters notes.one held e) n)))
    (λ calm. cancelled_all (λ (w : Waiter). IsHeldUp u (before_number w.id s.waiters) s w w.asked) id s.waiters (all calm))

pub renew_up : (u : Unsettled) (s : CoreState) (client : List ℕ) → AreHeldUp u s → AreHeldUp u (renew s client).1
unfolding renew
renew_up u s client all = all_still_up u u s (renew s client).1 refl refl (λ file n. (n, refl)) all

pub give_back_up : (u : Unsettled) (s : CoreState) (claim : Claim) → AreHeldUp u s → AreHeldUp (with_file claim.file u) (give_back s claim).1
unfolding give_back
give_back_up u s claim all =
    all_still_up u (with_file claim.file u) s (give_back s claim).1 refl refl (λ file n. let apart = both_apart claim.file file u n in (apart.0, there_removed file claim s.claims apart.1)) all

pub weaken_up : (u : Unsettled) (s : CoreState) (share : Claim) (access deny : Rwd) → AreHeldUp u s → AreHeldUp (with_file share.file u) (weaken s share access deny).1
unfolding weaken
weaken_up u s share access deny all =
    all_still_up u (with_file share.file u) s (weaken s share access deny).1 refl refl
    (λ file n. let apart = both_apart share.file file u n in (apart.0, there_changed file share (Share access deny) s.claims apart.1)) all

-- what is left of a cache stands on its file alone
there_rest : (file : ℕ) (cache : Claim) (to : Option CacheKind) (cs : List Claim) → IsElsewhere cache.file file → on_file file (with_rest cache to cs) ≡ on_file file cs
there_rest file cache None cs apart = there_removed file cache cs apart
there_rest file cache (Some kind) cs apart = there_changed file cache (Cache kind None) cs apart

pub ack_up : (u : Unsettled) (s : CoreState) (cache : Claim) (to : Option CacheKind) → AreHeldUp u s → AreHeldUp (with_file cache.file u) (ack s cache to).1
unfolding ack
ack_up u s cache to all =
    all_still_up u (with_file cache.file u) s (ack s cache to).1 refl refl (λ file n. let apart = both_apart cache.file file u n in (apart.0, there_rest file cache to s.claims apart.1)) all

pub begun_up : (u : Unsettled) (s : CoreState) → AreHeldUp u s → AreHeldUp u (step_begun s)
unfolding step_begun
begun_up u s all = all_still_up u u s (step_begun s) refl refl (λ file n. (n, refl)) all

pub drawn_up : (u : Unsettled) (s : CoreState) → AreHeldUp u s → AreHeldUp u (drawn s)
unfolding drawn
drawn_up u s all = all_still_up u u s (drawn s) refl refl (λ file n. (n, refl)) all

-- ---- a turn

-- where no file is unsettled none is among them
none_among : (u : Unsettled) (file : ℕ) → is_none u ≡ true → is_among u file ≡ false
none_among (Files []) file e = refl
none_among (Files (f ∷ fs)) file e = absurd (both_ways false refl e)
none_among All file e = absurd (both_ways false refl e)

held_one : (u : Unsettled) (earlier : List Waiter) (s : CoreState) (w : Waiter) (asked : List Claim) → IsPled asked → ((c : Claim) (cs : List Claim) → asked ≡ c ∷ cs → is_among u c.file ≡ false) → IsHeldUp u earlier s w asked → holds_up earlier s w asked ≡ true
held_one u earlier s w [] none apart up = absurd none
held_one u earlier s w (c ∷ cs) some apart up = ap (λ (b : Bool). is_some s.grace || b) (up (apart c cs refl)) ∙ or_true (is_some s.grace) where
  or_true : (b : Bool) → (b || true) ≡ true
  or_true true = refl
  or_true false = refl

-- what holds of each behind those before it
pub behind_each : (P : List Waiter → Waiter → Type 0) (s : CoreState) (before ws : List Waiter) → s.waiters ≡ before ++ ws → Pairwise are_apart s.waiters → AllByRecursion (λ w. P (before_number w.id s.waiters) w) ws → AllBehind P before ws
behind_each P s before [] are apart all = tt
behind_each P s before (w ∷ ws) are apart all =
    let front : before_number w.id s.waiters ≡ before = ap (before_number w.id) are ∙ before_is before w ws (apart_before before w ws (subst (λ (vs : List Waiter). Pairwise are_apart vs) are apart)) in
    (subst (λ (vs : List Waiter). P vs w) front all.0, behind_each P s (before ++ w ∷ []) ws (are ∙ sym (append_assoc before (w ∷ []) ws)) apart all.1)

pub each_behind : (P : List Waiter → Waiter → Type 0) (s : CoreState) (before ws : List Waiter) → s.waiters ≡ before ++ ws → Pairwise are_apart s.waiters → AllBehind P before ws → AllByRecursion (λ w. P (before_number w.id s.waiters) w) ws
each_behind P s before [] are apart all = tt
each_behind P s before (w ∷ ws) are apart all =
    let front : before_number w.id s.waiters ≡ before = ap (before_number w.id) are ∙ before_is before w ws (apart_before before w ws (subst (λ (vs : List Waiter). Pairwise are_apart vs) are apart)) in
    (subst (λ (vs : List Waiter). P vs w) (sym front) all.0, each_behind P s (before ++ w ∷ []) ws (are ∙ sym (append_assoc before (w ∷ []) ws)) apart all.1)

idle_all : (u : Unsettled) (s : CoreState) (earlier ws : List Waiter) → AllByRecursion (IsWaiter s.names s.counter) ws → is_none u ≡ true → AllBehind (λ before w. IsHeldUp u before s w w.asked) earlier ws → AllBehind (IsUp s) earlier ws
idle_all u s earlier [] are e all = tt
idle_all u s earlier (w ∷ ws) are e all =
    (held_one u earlier s w w.asked are.0.2 (λ c cs asked. none_among u c.file e) all.0, idle_all u s (earlier ++ w ∷ []) ws are.1 e all.1)

-- while grace runs all wait for its end
all_wait : (s : CoreState) (earlier ws : List Waiter) → is_some s.grace ≡ true → AllBehind (IsUp s) earlier ws
all_wait s earlier [] runs = tt
all_wait s earlier (w ∷ ws) runs = (ap (λ (b : Bool). b || of_first (λ c. is_held_up earlier s w c) w.asked) runs, all_wait s (earlier ++ w ∷ []) ws runs)

idle_settled : (u : Unsettled) (s : CoreState) → IsGood s → is_none u ≡ true → AreHeldUp u s → IsSettled s
unfolding AreHeldUp
idle_settled u s good e all =
    elim (cases_Bool (is_some s.grace)) [ inl runs ↦ all_wait s [] s.waiters runs | inr calm ↦ idle_all u s [] s.waiters good.waiters e (behind_each (λ before w. IsHeldUp u before s w w.asked) s [] s.waiters refl good.apart (all calm)) ]

settled_none : (n : ℕ) (left : Rooms) (s : CoreState) → IsSettled s → settle n left s ≡ None
settled_none n left s is = (settle_rests n left s).1 ((settled_is n left s).1 is)

pub idle_none : (u : Unsettled) (left : Rooms) (s : CoreState) → IsGood s → is_none u ≡ true → AreHeldUp u s → (n : ℕ) → settle n left s ≡ None
idle_none u left s good e all n = settled_none n left s (idle_settled u s good e all)

-- once all are found held up no file is unsettled
one_up : (earlier : List Waiter) (s : CoreState) (w : Waiter) (asked : List Claim) → is_some s.grace ≡ false → holds_up earlier s w asked ≡ true → IsHeldUp (Files []) earlier s w asked
one_up earlier s w [] calm up = tt
one_up earlier s w (c ∷ cs) calm up = λ none. ap (λ (b : Bool). b || is_held_up earlier s w c) (sym calm) ∙ up

settled_up : (s : CoreState) → IsGood s → IsSettled s → AreHeldUp (Files []) s
unfolding AreHeldUp
settled_up s good is = λ calm. each_behind (λ before w. IsHeldUp (Files []) before s w w.asked) s [] s.waiters refl good.apart (by calm [] s.waiters is) where
  by : is_some s.grace ≡ false → (earlier ws : List Waiter) → AllBehind (IsUp s) earlier ws → AllBehind (λ before w. IsHeldUp (Files []) before s w w.asked) earlier ws
  by calm earlier [] all = tt
  by calm earlier (w ∷ ws) all = (one_up earlier s w w.asked calm all.0, by calm (earlier ++ w ∷ []) ws all.1)

-- who has a turn waited on an unsettled file, and only what is held there changes
on_unsettled : (u : Unsettled) (earlier : List Waiter) (s : CoreState) (w : Waiter) (asked : List Claim) (claim : Claim) (claims : List Claim) → asked ≡ claim ∷ claims → is_held_up earlier s w claim ≡ false → IsHeldUp u earlier s w asked → is_among u claim.file ≡ true
on_unsettled u earlier s w asked claim claims is free up =
    elim (cases_Bool (is_among u claim.file)) [
      | inl there ↦ there
      | inr apart ↦ let stays : is_held_up earlier s w claim ≡ true = subst (λ (cs : List Claim). IsHeldUp u earlier s w cs) is up apart in absurd (both_ways (is_held_up earlier s w claim) free stays)
    ]

once_there : (file at : ℕ) (asked held : List Claim) (answer : Answer) → AllByRecursion (λ c. c.file ≡ at) asked → IsElsewhere at file → on_file file (held_once asked answer held) ≡ on_file file held
once_there file at asked held answer are apart = once_cases (λ cs. on_file file cs ≡ on_file file held) asked held answer refl (there_all_granted file at asked held are apart)

in_middle : (w : Waiter) (before behind : List Waiter) → IsIn w (before ++ w ∷ behind)
in_middle w [] behind = inl refl
in_middle w (v ∷ vs) behind = inr (in_middle w vs behind)

others_in : (P : Waiter → Type 0) (before : List Waiter) (w : Waiter) (behind : List Waiter) → AllByRecursion P (before ++ w ∷ behind) → AllByRecursion P (before ++ behind) × P w
others_in P [] w behind all = (all.1, all.0)
others_in P (v ∷ vs) w behind all = let rest = others_in P vs w behind all.1 in ((all.0, rest.0), rest.1)

next_elsewhere : (earlier : List Waiter) (s : CoreState) (w : Waiter) (claim : Claim) (claims : List Claim) (file : ℕ) → w.asked ≡ claim ∷ claims → IsElsewhere claim.file file → on_file file (way_again earlier s w).1.claims ≡ on_file file s.claims
next_elsewhere earlier s w claim claims file asked apart =
    elim (way_is earlier (plea_again s w) w.asked s) [
      | NoWay e ↦ ap (λ (x : List Effect × CoreState). on_file file x.1.claims) e
      | Begins c cs is does e ↦
          let two : c ∷ cs ≡ claim ∷ claims = sym is ∙ asked in
          let first : c ≡ claim = cc in
          ap (λ (x : List Effect × CoreState). on_file file x.1.claims) e ∙ begun_elsewhere s c file (ap (λ (d : Claim). d.file == file) first ∙ apart)
    ]

turn_up : (u : Unsettled) (n : ℕ) (left : Rooms) (s : CoreState) (effects : List Effect) (t : CoreState) → IsGood s → IsTurn n left s effects t → AreHeldUp u s → AreHeldUp u t
unfolding AreHeldUp
turn_up u n left s effects t good turn all = by turn.served where
  w : Waiter
  w = turn.waiter

  way_state : CoreState
  way_state = (way_again turn.before s w).1

  parts : AreUp u s (turn.before ++ turn.behind) × IsHeldUp u (before_number w.id s.waiters) s w w.asked
  parts = others_in (λ v. IsHeldUp u (before_number v.id s.waiters) s v v.asked) turn.before w turn.behind (subst (AreUp u s) turn.stood (all (ap is_some turn.calm)))

  in_front : before_number w.id s.waiters ≡ turn.before
  in_front = ap (before_number w.id) turn.stood ∙ before_is turn.before w turn.behind (apart_before turn.before w turn.behind (subst (λ (ws : List Waiter). Pairwise are_apart ws) turn.stood good.apart))

  there : is_among u turn.claim.file ≡ true
  there = on_unsettled u turn.before s w w.asked turn.claim turn.claims turn.asked turn.free (subst (λ (ws : List Waiter). IsHeldUp u ws s w w.asked) in_front parts.1)

  files : AllByRecursion (λ c. c.file ≡ turn.claim.file) w.asked
  files = subst (λ (cs : List Claim). AllByRecursion (λ c. c.file ≡ turn.claim.file) cs) (sym turn.asked) (refl, (subst IsPled turn.asked (turn_is_known n left s effects t good turn).1).1)

  same : way_state.waiters ≡ s.waiters
  same = way_waiters turn.before (plea_again s w) w.asked s

  among : IsIn w s.waiters
  among = subst (λ (ws : List Waiter). IsIn w ws) (sym turn.stood) (in_middle w turn.before turn.behind)

  own_file : (file : ℕ) → is_among u file ≡ false → is_file file (first_file w.asked) ≡ false
  own_file file n = ap (λ (cs : List Claim). is_file file (first_file cs)) turn.asked ∙ other_file u turn.claim.file file there n

  by : IsServed n left turn.before way_state w turn.claim turn.told t → AreHeldUp u t
  by (TurnAnswered answer told is due new clear) =
      let before : CoreState = once_answered way_state w w.asked answer in
      let gone : before.waiters ≡ turn.before ++ turn.behind =
      ap (λ (ws : List Waiter). cancelled w.id ws) (same ∙ turn.stood)
      ∙ without turn.before w turn.behind (subst (λ (ws : List Waiter). Pairwise are_apart ws) turn.stood good.apart) in
      subst (AreHeldUp u) (sym (new ∙ ap (wish_for w.wish answer) (told_state way_state w answer)))
      (for_up u w.wish answer before (λ d e. subst (λ (c : Claim). is_among u c.file ≡ true) (sym (is d e)) there)
      (few_up u u s before (turn.before ++ turn.behind) gone
      (λ file n.
      let apart = other_file u turn.claim.file file there n in
      (n, once_there file turn.claim.file w.asked way_state.claims answer files apart ∙ next_elsewhere turn.before s w turn.claim turn.claims file turn.asked apart))
      (λ x left file n. subst (λ (ws : List Waiter). waiting_on file (before_number x.id ws) ≡ waiting_on file (before_number x.id s.waiters)) (sym (ap (λ (ws : List Waiter). cancelled w.id ws) same) ∙ gone)
      (goes_apart x.id w.id file s.waiters (left_other w.id x s.waiters good.apart (subst (λ (ws : List Waiter). IsIn x ws) (sym gone ∙ ap (λ (ws : List Waiter). cancelled w.id ws) same) left)).1
      (all_from (λ (y : Waiter). (y.id == w.id) ≡ true → is_file file (first_file y.asked) ≡ false) s.waiters (λ y held e. subst (λ (z : Waiter). is_file file (first_file z.asked) ≡ false) (sym (one_number w y s.waiters good.apart among held e)) (own_file file n)))))
      (λ calm. parts.0)))
  by (WaitsOn told up new) =
      subst (λ (x : CoreState). AreHeldUp u x) (sym new)
      (all_still_up u u s way_state same (ap is_some (way_keeps (λ x. x.grace) turn.before (plea_again s w) w.asked s (λ c. begun_grace c s))) (λ file n. (n, next_elsewhere turn.before s w turn.claim turn.claims file turn.asked (other_file u turn.claim.file file there n))) all)

pub settle_up : (u : Unsettled) (left : Rooms) (s t : CoreState) (r : Option (List Effect)) → ((n : ℕ) → MayBe n t → settle n left s ≡ option_map (λ effects. (effects, t)) r) → (r ≡ None → t ≡ s) → IsGood s → AreHeldUp u s → AreHeldUp (if is_some r then u else Files []) t
settle_up u left s t None e same good all = subst (λ (x : CoreState). AreHeldUp (Files []) x) (sym (same refl)) (settled_up s good (none_settled t.made left s (e t.made (may_be_made t))))
settle_up u left s t (Some effects) e same good all =
    let turn = subst (λ (o : Option (List Effect × CoreState)). IfSome o (λ x. IsTurn t.made left s x.0 x.1)) (e t.made (may_be_made t)) (turn_is t.made left s good) in
    turn_up u t.made left s effects t good turn all
