-- How the way is made: where no cache stands on the file none is.
use Rattle.std.proofs.Common.{◌≡◌, ℕ, ◌+◌, ◌≤◌, Bool, true, false, ◌&&◌, ◌==◌, List, [], ◌∷◌, map, Some, refl, sym, ap, subst, ◌∙◌, arith}
use Rattle.std.specs.List.{AllByRecursion, list_any}
use Rattle.xl_cache.specs.BreakPlans.{is_final, planned}
use Rattle.xl_table.specs.Flat.{blocks, is_blocked}
use Rattle.xl_core.specs.Blockers.{is_barred}
use Rattle.std.proofs.lemmas.Bool.{both_ways}
use Rattle.xl_core.specs.Judge.{those_before}
use Rattle.xl_core.specs.Standings.{asker_as, is_smb, is_timely, stands}
use Rattle.xl_core.specs.declared.standings.Standing.{Standing}
use Rattle.xl_core.specs.declared.standings.Standing.TheVariants.{Timely, Reclaims, Stays, Early, Late, Unrecorded}
use Rattle.xl_core.proofs.StandingLaws.{reclaims_asks, timely_asks}
use Rattle.xl_core.proofs.BreaksInOrderLaws.{all_final}
use Rattle.xl_core.proofs.HeldUpLaws.{is_filled, any_of, asked_there}
use Rattle.xl_matrix.specs.declared.claim.Claim.{Claim}
use Rattle.xl_table.specs.Held.{is_cache}
use Rattle.xl_core.specs.BreaksBegun.{recalls, breaks_begun}
use Rattle.xl_core.specs.Good.{IsGood, is_held_up}
use Rattle.xl_core.specs.State.{CoreState}
use Rattle.xl_core.specs.Ways.{made_way}
use Rattle.xl_core.specs.declared.ask.Effect.{Effect}
use Rattle.xl_core.specs.declared.judge.Plea.{Plea}
use Rattle.xl_core.proofs.BreaksBegunLaws.{none_begun_there, recalls_few}
use Rattle.xl_names.specs.declared.name.Name.{Name}
use Rattle.xl_base.proofs.Members.{all_weaker}
use Rattle.xl_table.specs.Held.{has_one_party}
use Rattle.xl_core.specs.Good.{IsKnown}
use Rattle.xl_core.specs.Settle.{first_called}
use Rattle.xl_core.specs.Whole.{state_of}
use Rattle.xl_core.specs.declared.parts.Parts.{Parts}
use Rattle.xl_core.specs.declared.settling.Called.{Called}
use Rattle.xl_matrix.specs.declared.claim.Extent.{Extent}
use Rattle.xl_wait.specs.declared.waiter.Rooms.{Rooms}
use Rattle.xl_wait.specs.declared.waiter.Waiter.{Waiter}
use Rattle.xl_core.specs.Askers.{range_what, asked_whats, asked_claim, asked_claims}
use Rattle.xl_core.specs.declared.ask.Act.{Act}
use Rattle.xl_core.specs.declared.ask.Act.TheVariants as acts
use Rattle.xl_matrix.specs.declared.claim.Rwd.{Rwd}
use Rattle.xl_matrix.specs.declared.claim.What.TheVariants as whats
use Rattle.xl_core.specs.Decide.{plea_of, way}
use Rattle.xl_core.specs.declared.ask.Ask.{Ask}
use Rattle.xl_core.proofs.GoodLaws.{known_one_party, asked_way_good}
use Rattle.xl_core.proofs.TurnLaws.{called_known}
use Rattle.xl_core.proofs.WayLaws.{NoWay, Begins, way_is, way_graced, way_good, way_names, known_no_cache}

pub no_way : (earlier : List Waiter) (p : Plea) (c : Claim) (cs : List Claim) (s : CoreState) → list_any (λ d. (d.file == c.file) && is_cache d.what) s.claims ≡ false → made_way earlier p (c ∷ cs) s ≡ ([], s)
no_way earlier p c cs s none =
    elim (way_is earlier p (c ∷ cs) s) [
      | NoWay e ↦ e
      | Begins d ds is does e ↦ let two : c ∷ cs ≡ d ∷ ds = is in let same : c ≡ d = cc in e ∙ none_begun_there s d (subst (λ (x : Claim). list_any (λ y. (y.file == x.file) && is_cache y.what) s.claims ≡ false) same none)
    ]

begun_counter : (c : Claim) (s : CoreState) → (breaks_begun c s).1.counter ≡ s.counter + recalls (planned c s.claims).breaks
unfolding breaks_begun
begun_counter c s = refl

pub no_way_first : (earlier : List Waiter) (p : Plea) (cs : List Claim) (c : Claim) (rest : List Claim) (s : CoreState) (told : List Effect) → cs ≡ c ∷ rest → list_any (λ d. (d.file == c.file) && is_cache d.what) s.claims ≡ false → told ≡ [] → made_way earlier p cs s ≡ (told, s)
no_way_first earlier p cs c rest s told is none quiet = ap (λ (ds : List Claim). made_way earlier p ds s) is ∙ no_way earlier p c rest s none ∙ (λ i. (sym quiet i, s))

pub begun_few : (c : Claim) (s t : CoreState) (told : List Effect) → IsGood s → breaks_begun c s ≡ (told, t) → t.counter ≤ s.counter + 16384
begun_few c s t told good e = omega (arith, ap (λ (w : List Effect × CoreState). w.1.counter) e, begun_counter c s, recalls_few s c good)

-- once its way is made its claims still have one party
pub called_alone_then : (earlier : List Waiter) (p q : Parts) (called : Called) (told : List Effect) → IsGood (state_of p) → first_called (state_of p) [] p.queue ≡ Some called → made_way earlier called.plea called.asked (state_of p) ≡ (told, state_of q)
    → AllByRecursion (λ c. AllByRecursion (λ d. has_one_party c d ≡ true) q.table) called.asked
called_alone_then earlier p q called told good e made =
    let known = (called_known (state_of p) [] p.queue called good.waiters e).0 in
    let sound : IsGood (state_of q) = subst (λ (w : List Effect × CoreState). IsGood w.1) made (way_good earlier called.plea called.asked (state_of p) good (known_no_cache p.names called.asked known)) in
    let names : q.names ≡ p.names = sym (ap (λ (w : List Effect × CoreState). w.1.names) made) ∙ way_names earlier called.plea called.asked (state_of p) in
    all_weaker (IsKnown q.names) (λ c. AllByRecursion (λ d. has_one_party c d ≡ true) q.table) called.asked (λ c kept. known_one_party (state_of q) c sound kept)
    (subst (λ (ns : List Name). AllByRecursion (IsKnown ns) called.asked) (sym names) known)

-- without a cache on the file all that blocks a claim does so for good
pub barred_uncached : (s : CoreState) (c : Claim) → list_any (λ d. (d.file == c.file) && is_cache d.what) s.claims ≡ false → is_barred s c ≡ is_blocked s.claims c
barred_uncached s c none = any_of (is_final c s.claims) s.claims ∙ ap is_filled (all_final c s.claims none) ∙ sym (any_of (blocks c) s.claims)

-- who waits for what blocks the claim for good is held up by that
pub waits_blocking : (earlier : List Waiter) (s : CoreState) (w : Waiter) (c : Claim) → is_blocked s.claims c ≡ true → is_barred s c ≡ true → w.blocking ≡ is_held_up earlier s w c
waits_blocking earlier s w c blocked stopped = rw (blocked, stopped) refl

-- a reclaim begins no break
pub no_way_back : (left : Rooms) (s : CoreState) (a : Ask) (told : List Effect) → a.reclaim ≡ true → told ≡ [] → way left s a ≡ (told, s)
unfolding plea_of
no_way_back left s a told back quiet = way_graced s.waiters (plea_of left s a) (asked_claims a (asked_whats a.act) s.names) s (late_way (stands s a) refl) ∙ (λ i. (sym quiet i, s)) where
  late_way : (standing : Standing) → stands s a ≡ standing → is_timely (stands s a) ≡ false
  late_way Timely e = absurd (both_ways a.reclaim (timely_asks s (asker_as a) (is_smb a.party) a.reclaim e) back)
  late_way Reclaims e = ap is_timely e
  late_way Stays e = ap is_timely e
  late_way (Early until) e = ap is_timely e
  late_way (Late clock) e = ap is_timely e
  late_way Unrecorded e = ap is_timely e

-- who doesn't reclaim stands behind all who wait
pub behind_them : (s : CoreState) (a : Ask) → a.reclaim ≡ false → those_before (stands s a) s.waiters ≡ s.waiters
behind_them s a fresh = by (stands s a) refl where
  by : (standing : Standing) → stands s a ≡ standing → those_before standing s.waiters ≡ s.waiters
  by Timely e = refl
  by Reclaims e = absurd (both_ways a.reclaim fresh (reclaims_asks s (asker_as a) (is_smb a.party) a.reclaim e))
  by Stays e = refl
  by (Early until) e = refl
  by (Late clock) e = refl
  by Unrecorded e = refl

-- nor is a way made for an ask on a file without caches
pub no_way_for : (left : Rooms) (s : CoreState) (a : Ask) (told : List Effect) → list_any (λ d. (d.file == a.file) && is_cache d.what) s.claims ≡ false → told ≡ [] → way left s a ≡ (told, s)
no_way_for left s a told none quiet =
    elim (way_is s.waiters (plea_of left s a) (asked_claims a (asked_whats a.act) s.names) s) [
      | NoWay e ↦ e
      | Begins c cs is does e ↦
          let here : c.file ≡ a.file = (subst (λ (ds : List Claim). AllByRecursion (λ d. d.file ≡ a.file) ds) is (asked_there a (asked_whats a.act) s.names)).0 in
          e ∙ none_begun_there s c (subst (λ (f : ℕ). list_any (λ y. (y.file == f) && is_cache y.what) s.claims ≡ false) (sym here) none)
    ] ∙ (λ i. (sym quiet i, s))

pub way_leaves_good : (left : Rooms) (s t : CoreState) (a : Ask) (told : List Effect) → IsGood s → way left s a ≡ (told, t) → IsGood t
way_leaves_good left s t a told good e = subst (λ (w : List Effect × CoreState). IsGood w.1) e (asked_way_good left s a good)

-- what is asked for is the same once its way is made, as no name is entered by that
pub asked_share_then : (a : Ask) (access deny : Rwd) (claim : Claim) (old new : List Name) → a.act ≡ acts.Share access deny → claim ≡ asked_claim a (whats.Share access deny) old → new ≡ old → claim ∷ [] ≡ asked_claims a (asked_whats a.act) new
asked_share_then a access deny claim old new act is names = ap (λ (c : Claim). c ∷ []) is ∙ (λ i. asked_claims a (asked_whats (sym act i)) (sym names i))

pub asked_ranges_then : (a : Ask) (ranges : List (Extent × Bool)) (claims : List Claim) (old new : List Name) → a.act ≡ acts.Ranges ranges → claims ≡ asked_claims a (map range_what ranges) old → new ≡ old → claims ≡ asked_claims a (asked_whats a.act) new
asked_ranges_then a ranges claims old new act is names = is ∙ (λ i. asked_claims a (asked_whats (sym act i)) (sym names i))

-- the way that is made for an ask for a share is that of its one claim
pub way_of_share : (left : Rooms) (s : CoreState) (a : Ask) (access deny : Rwd) (plea : Plea) (claim : Claim) → a.act ≡ acts.Share access deny → plea ≡ plea_of left s a → claim ≡ asked_claim a (whats.Share access deny) s.names
    → made_way s.waiters plea (claim ∷ []) s ≡ way left s a
way_of_share left s a access deny plea claim act pleads claims =
    (λ i. made_way s.waiters (pleads i) (claims i ∷ []) s) ∙ ap (λ (b : Act). made_way s.waiters (plea_of left s a) (asked_claims a (asked_whats b) s.names) s) (sym act)
