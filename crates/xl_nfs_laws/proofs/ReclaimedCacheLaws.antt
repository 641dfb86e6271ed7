-- A cache that is reclaimed with a share comes with it (RFC 7530 10.2.1).
use Rattle.std.proofs.Common.{◌≡◌, ℕ, ◌+◌, ◌≤◌, ◌<◌, Bool, true, false, not, List, [], ◌∷◌, Option, Some, None, is_some, refl, sym, ap, subst, ◌∙◌, inl, inr, true≢false, arith, if◌then◌else◌}
use Rattle.std.proofs.lemmas.Bool.{and_from, both_ways, cases_Bool, eq-eqb, eqb-true}
use Rattle.std.proofs.lemmas.Bool.Decides.{nat_tests}
use Rattle.std.specs.Bool.{◌==◌}
use Rattle.std.specs.List.{AllByRecursion, filter, find, list_all, list_any}
use Rattle.std.specs.Prelude.{◌&&◌, ◌⊎◌, length, nat_lt}
use Rattle.xl_base.proofs.Members.{all_in, all_from, in_filter_from}
use Rattle.xl_base.proofs.Searches.{none_passes}
use Rattle.xl_base.specs.Lists.{IsIn}
use Rattle.xl_base.specs.declared.name.Owner.{Owner}
use Rattle.xl_base.specs.declared.stable.Recorded.{Recorded}
use Rattle.xl_grace.specs.Grace.{Running, admission, may_reclaim, reclaimed}
use Rattle.xl_grace.specs.declared.grace.Admission.TheVariants.{Enters, NotRecorded}
use Rattle.xl_cache.specs.Wishing.{best_of, granted_kind, is_its_cache, may_stand}
use Rattle.xl_cache.specs.declared.wish.Wish.{Wish}
use Rattle.xl_matrix.proofs.EqualLaws.{same_owners-true, same_parties-self}
use Rattle.xl_matrix.specs.Blocks.{blocks}
use Rattle.xl_matrix.specs.Equal.{same_owners, same_parties}
use Rattle.xl_matrix.specs.Matrix.{compat, fit_by}
use Rattle.xl_matrix.specs.Owners.{posix}
use Rattle.xl_matrix.specs.declared.claim.CacheKind.{CacheKind}
use Rattle.xl_matrix.specs.declared.claim.Claim.{Claim}
use Rattle.xl_matrix.specs.declared.claim.Rwd.{Rwd}
use Rattle.xl_matrix.specs.declared.claim.What.{What}
use Rattle.xl_matrix.specs.declared.claim.What.TheVariants as whats
use Rattle.xl_names.specs.declared.name.Name.{Name}
use Rattle.xl_table.proofs.FlatLaws.{all_inserted}
use Rattle.xl_table.specs.Held.{IsGrantable, is_cache}
use Rattle.xl_table.specs.Relock.{granted_by, granted_claims, most_claims, shared_in, united, unshared, is_share_of}
use Rattle.xl_wait.specs.declared.waiter.Rooms.{Rooms}
use Rattle.xl_core.proofs.CauseLaws.{fit_owned, fit_what}
use Rattle.xl_core.proofs.DeedCalls.{decided_enters}
use Rattle.xl_core.proofs.DeedLaws.{entered_made}
use Rattle.xl_core.proofs.FrameLaws.{ask_frame}
use Rattle.xl_core.proofs.GoodLaws.{before_good}
use Rattle.xl_core.proofs.KnownLaws.{asked_known, one_party}
use Rattle.xl_core.proofs.WayAsks.{ask_due, ask_wishes, grant_frame}
use Rattle.xl_core.proofs.WishLaws.{wish_cache}
use Rattle.xl_core.specs.Askers.{IsFit, asked_claim, asked_claims, asked_what, asked_whats, asking_party, both_entered, owner_in}
use Rattle.xl_core.specs.Causes.{IsClaimDue, asks_claims, limits_of_grant, name_asked, noted_by}
use Rattle.xl_core.specs.Decide.{ask, before_wish, beside_of, decided, does_wish, plea_of, way}
use Rattle.xl_core.specs.Frames.{asks_to_hold, names_after}
use Rattle.xl_core.specs.Good.{IsGood, IsHeld, are_kept}
use Rattle.xl_core.specs.Judge.{blocks_beside, blocks_its_cache, cache_beside, held_then}
use Rattle.xl_core.specs.Limits.{IsRoom}
use Rattle.xl_core.specs.Places.{CacheOf, else_was, held_in, is_cache_on}
use Rattle.xl_core.specs.Standings.{asker_as, enters, is_smb, is_timely, recorded_as, standing, standing_by, stands}
use Rattle.xl_core.specs.State.{Aside, CoreState, aside_of}
use Rattle.xl_core.specs.Stores.{recorded, stored}
use Rattle.xl_core.specs.Ways.{made_way}
use Rattle.xl_core.specs.Wishes.{wish_granted, wish_of, wished_at, wished_kind}
use Rattle.xl_core.specs.declared.ask.Act.TheVariants as acts
use Rattle.xl_core.specs.declared.ask.Answer.{Answer}
use Rattle.xl_core.specs.declared.ask.Answer.TheVariants as answers
use Rattle.xl_core.specs.declared.ask.Ask.{Ask}
use Rattle.xl_core.specs.declared.ask.Effect.{Effect}
use Rattle.xl_nfs_laws.proofs.OpenOrderLaws.{none_in}
use Rattle.xl_nfs_laws.proofs.ToldDelegationLaws.{no_map}

-- ---- a reclaim in grace

untimely : (s : CoreState) (a : Ask) → a.reclaim ≡ true → is_timely (stands s a) ≡ false
unfolding standing
untimely s a re = rw re (by s.grace)
  where
    lets : (b : Bool) → is_timely (standing_by (is_smb a.party) true s.clock (if b then Enters else NotRecorded)) ≡ false
    lets true = refl
    lets false = refl

    by : (g : Option Running) → is_timely (standing_by (is_smb a.party) true s.clock (admission g (asker_as a) true)) ≡ false
    by None = refl
    by (Some g) = lets (may_reclaim (asker_as a) g.reclaimants)

-- no way is made for it
reclaim_way : (left : Rooms) (s : CoreState) (a : Ask) → a.reclaim ≡ true → way left s a ≡ ([], s)
unfolding plea_of made_way
reclaim_way left s a re = by (asked_claims a (asked_whats a.act) s.names)
  where
    by : (cs : List Claim) → made_way s.waiters (plea_of left s a) cs s ≡ ([], s)
    by [] = refl
    by (c ∷ cs) = rw (untimely s a re) refl

-- it enters only while grace runs
in_grace : (s : CoreState) (a : Ask) → a.reclaim ≡ true → enters (stands s a) ≡ true → is_some s.grace ≡ true
unfolding standing
in_grace s a re goes = by s.grace (rw re at goes)
  where
    by : (g : Option Running) → enters (standing_by (is_smb a.party) true s.clock (admission g (asker_as a) true)) ≡ true → is_some g ≡ true
    by None e = absurd (both_ways false refl e)
    by (Some g) e = refl

-- and grace runs on behind it
noted_runs : (s : CoreState) (a : Ask) (c : Claim) → asks_claims a.act ≡ true → a.reclaim ≡ true → is_some s.grace ≡ true → is_some (noted_by s a (answers.Granted c)).grace ≡ true
unfolding stored
noted_runs s a c asks re runs = rw asks (by a.reclaim re)
  where
    got : CoreState
    got = recorded (name_asked s a) s

    still : (name : Option Recorded) → is_some (recorded name s).grace ≡ true
    still None = runs
    still (Some name) = runs

    back : (g : Option Running) → is_some g ≡ true → is_some (reclaimed (recorded_as a.party) g) ≡ true
    back None e = absurd (both_ways false refl e)
    back (Some g) e = refl

    by : (b : Bool) → b ≡ true → is_some (if b then record got { grace = reclaimed (recorded_as a.party) got.grace } else got).grace ≡ true
    by true e = back got.grace (still (name_asked s a))
    by false e = absurd (both_ways false refl e)

-- ---- room for both

not_over : (most held : ℕ) → nat_lt most held ≡ false → held ≤ most
not_over most held e = grind (arith, nat_tests)

is_under : (held most : ℕ) → held < most → nat_lt held most ≡ true
is_under held most e = grind (arith, nat_tests)

room_beside : (left : Rooms) (s : CoreState) (a : Ask) (claim : Claim) (kind : CacheKind) → beside_of a.reclaim a.wish ≡ Some kind → list_any (is_its_cache (wish_of [] claim)) s.claims ≡ false → IsRoom (limits_of_grant left s a claim) → length (granted_claims claim s.claims) < most_claims
room_beside left s a claim kind beside none room =
    let held = held_then (beside_of a.reclaim a.wish) claim s.claims in
    let few : nat_lt most_claims held ≡ false = none_passes (λ limit. (limit.0 == most_claims) && limit.1) (most_claims, nat_lt most_claims held) (limits_of_grant left s a claim) (room most_claims) (inr (inr (inr (inl refl)))) in
    let is : held ≡ length (granted_claims claim s.claims) + 1 = ap (λ (b : Option CacheKind). held_then b claim s.claims) beside ∙ ap (λ (b : Bool). length (granted_claims claim s.claims) + (if b then 0 else 1)) none in
    omega (arith, is, not_over most_claims held few)

-- ---- what the cache may stand beside

-- whatever its own party holds, except a cache on its file
beside_own : (c d : Claim) (kind : CacheKind) → c.party ≡ d.party → is_its_cache (wish_of [] c) d ≡ false → compat (cache_beside kind c) d ≡ true
unfolding compat fit_by
beside_own c d kind same none =
    elim (cases_Bool (c.file == d.file)) [
      | inr other ↦ rw other refl
      | inl here ↦ rw here (by here d.what none)
    ]
  where
    alike : same_parties c.party d.party ≡ true
    alike = ap (same_parties c.party) (sym same) ∙ same_parties-self c.party

    by : (c.file == d.file) ≡ true → (w : What) → (is_cache w && ((d.file == c.file) && same_parties d.party c.party)) ≡ false → fit_by (cache_beside kind c) d (whats.Cache kind None) w ≡ true
    by here (whats.Share access deny) e = rw alike refl
    by here (whats.Range extent exclusive) e = alike
    by here (whats.Cache other due) e =
        let file : (d.file == c.file) ≡ true = eq-eqb d.file c.file (sym (eqb-true c.file d.file here)) in
        let party : same_parties d.party c.party ≡ true = ap (same_parties d.party) same ∙ same_parties-self d.party in
        absurd (both_ways ((d.file == c.file) && same_parties d.party c.party) e (and_from (d.file == c.file) (same_parties d.party c.party) file party))

-- what others hold that doesn't block it
beside_free : (c d : Claim) (kind : CacheKind) → same_owners c.owner d.owner ≡ false → blocks (cache_beside kind c) d ≡ false → compat (cache_beside kind c) d ≡ true
unfolding blocks
beside_free c d kind apart free =
    elim (cases_Bool (compat (cache_beside kind c) d)) [
      | inl fits ↦ fits
      | inr meets ↦ (let no : true ≡ false = rw (apart, meets) at free in absurd (true≢false no))
    ]

-- what is held once a share is granted is of its party, or was held before
all_near : (c : Claim) (access deny : Rwd) (cs : List Claim) → c.what ≡ whats.Share access deny → AllByRecursion (λ d. (d.party ≡ c.party) ⊎ IsIn d cs) (granted_claims c cs)
unfolding granted_claims shared_in unshared
all_near c access deny cs is =
    subst (λ (w : What). AllByRecursion (λ d. (d.party ≡ c.party) ⊎ IsIn d cs) (granted_by c w cs)) (sym is)
    (all_inserted (λ d. (d.party ≡ c.party) ⊎ IsIn d cs) (united c cs) (unshared c.file c.owner cs) (inl refl)
    (all_from (λ d. (d.party ≡ c.party) ⊎ IsIn d cs) (unshared c.file c.owner cs) (λ d h. inr (in_filter_from (λ x. not (is_share_of c.file c.owner x)) d cs h).0)))

module _ (c : Claim) (kind : CacheKind) (s u : CoreState) (sound : IsGood u) (named : posix c.owner ≡ true) (kept : are_kept u.names c.owner c.party ≡ true)
    (free : list_any (λ x. blocks_its_cache (Some kind) c x) s.claims ≡ false) (none : find (is_its_cache (wish_of [] c)) u.claims ≡ None) where
  one_fits : (d : Claim) → IsIn d u.claims → (d.party ≡ c.party) ⊎ IsIn d s.claims → compat (cache_beside kind c) d ≡ true
  one_fits d there (inl same) = beside_own c d kind (sym same) (none_in (is_its_cache (wish_of [] c)) u.claims d none there)
  one_fits d there (inr before) =
      let own = none_in (is_its_cache (wish_of [] c)) u.claims d none there in
      elim (cases_Bool (same_owners c.owner d.owner)) [
        | inl same ↦
            let held = (all_in (IsHeld u.names) d u.claims sound.known there).1 in
            beside_own c d kind (one_party u.names c.owner c.party d.party named sound.distinct kept (subst (λ (o : Owner). are_kept u.names o d.party ≡ true) (sym (same_owners-true c.owner d.owner same)) held)) own
        | inr apart ↦ beside_free c d kind apart (unblocked (none_passes (λ x. blocks_its_cache (Some kind) c x) d s.claims free before) own)
      ]
    where
      unblocked : blocks_beside kind c d ≡ false → is_its_cache (wish_of [] c) d ≡ false → blocks (cache_beside kind c) d ≡ false
      unblocked e own = rw own at e

  all_fit : (cs : List Claim) → ((d : Claim) → IsIn d cs → compat (cache_beside kind c) d ≡ true) → list_all (compat (cache_beside kind c)) cs ≡ true
  all_fit [] each = refl
  all_fit (d ∷ ds) each = and_from (compat (cache_beside kind c) d) (list_all (compat (cache_beside kind c)) ds) (each d (inl refl)) (all_fit ds (λ x h. each x (inr h)))

  -- so the wish for it is granted
  kind_wished : is_some u.grace ≡ true → length u.claims < most_claims → AllByRecursion (λ d. (d.party ≡ c.party) ⊎ IsIn d s.claims) u.claims → wished_kind (wish_of (kind ∷ []) c) u ≡ Some kind
  unfolding wished_kind granted_kind best_of
  kind_wished runs few near =
      let fits : may_stand (wish_of (kind ∷ []) c) u.claims kind ≡ true = all_fit u.claims (λ d there. one_fits d there (all_in (λ x. (x.party ≡ c.party) ⊎ IsIn x s.claims) d u.claims near there)) in
      rw runs (rw none (rw (is_under (length u.claims) most_claims few) (rw fits refl)))

-- ---- a share with a cache

none_filtered : {A : Type 0} (p : A → Bool) (xs : List A) → filter p xs ≡ [] → (list_any p xs ≡ false) × (find p xs ≡ None)
none_filtered p [] e = (refl, refl)
none_filtered {A = A} p (x ∷ xs) e =
    elim (cases_Bool (p x)) [
      | inl h ↦ absurd (filled x (filter p xs) (rw h at e))
      | inr h ↦ rw h (none_filtered p xs (rw h at e))
    ]
  where
    filled : (y : A) (ys : List A) → y ∷ ys ≡ [] → ⊥
    filled y ys f = cc

-- its party's caches on the file
none_its : (c : Claim) (cs : List Claim) → held_in cs (CacheOf c.file c.party) ≡ [] → (list_any (is_its_cache (wish_of [] c)) cs ≡ false) × (find (is_its_cache (wish_of [] c)) cs ≡ None)
none_its c cs e = none_filtered (is_cache_on c.file c.party) cs (no_map (λ (d : Claim). d.what) (filter (is_cache_on c.file c.party) cs) e)

share_entered : (n : ℕ) (left : Rooms) (s : CoreState) (a : Ask) (what : What) (c : Claim) → IsGood s → IsFit a → asked_what a.act ≡ Some what → way left s a ≡ ([], s) → (ask n left s a).0 ≡ answers.Granted c → IsGrantable c × ((before_wish n left s a).2.claims ≡ granted_claims c s.claims)
unfolding ask before_wish
share_entered n left s a what c good fit act stays at =
    subst (λ (w : List Effect × CoreState). (decided n left w.1 a).0 ≡ answers.Granted c → IsGrantable c × ((decided n left w.1 a).2.claims ≡ granted_claims c s.claims)) (sym stays) (λ e. decided_enters n left s a what c good fit act e) at

-- a wish leaves the grace and the names
wish_aside : (wanted : Wish) (u : CoreState) → aside_of u ≡ aside_of (wish_granted wanted u)
unfolding wish_granted
wish_aside wanted u = refl

wish_names : (wanted : Wish) (u : CoreState) → u.names ≡ (wish_granted wanted u).names
unfolding wish_granted
wish_names wanted u = refl

-- A reclaim of a share with a cache that is granted leaves both, if its party had no cache on the file.
pub reclaimed_both : (n : ℕ) (left : Rooms) (s : CoreState) (a : Ask) (access deny : Rwd) (kind : CacheKind) (c : Claim) → IsGood s → IsFit a → posix (owner_in a.owner s.names) ≡ true → a.act ≡ acts.Share access deny → a.wish ≡ kind ∷ [] → a.reclaim ≡ true
    → held_in s.claims (CacheOf a.file (asking_party a s.names)) ≡ [] → (ask n left s a).0 ≡ answers.Granted c → held_in (ask n left s a).2.claims (CacheOf a.file (asking_party a s.names)) ≡ whats.Cache kind None ∷ []
reclaimed_both n left s a access deny kind c good fit named act wish re none granted =
    ap (λ (x : CoreState). held_in x.claims (CacheOf claim.file claim.party)) (ask_wishes n left s a claim (ap does_wish act) at ∙ ap (λ (kinds : List CacheKind). wish_granted (wish_of kinds claim) u) wish)
    ∙ wish_cache wanted u claim.file claim.party sound
    ∙ ap (λ (k : Option CacheKind). else_was (wished_at wanted k claim.file claim.party) (held_in u.claims (CacheOf claim.file claim.party))) gets
    ∙ rw (and_from (claim.file == claim.file) (same_parties claim.party claim.party) (eq-eqb claim.file claim.file refl) (same_parties-self claim.party)) refl
  where
    what : What
    what = whats.Share access deny

    claim : Claim
    claim = asked_claim a what s.names

    wanted : Wish
    wanted = wish_of (kind ∷ []) claim

    u : CoreState
    u = (before_wish n left s a).2

    sound : IsGood u
    sound = before_good n left s a good fit

    stays : way left s a ≡ ([], s)
    stays = reclaim_way left s a re

    due : IsClaimDue n left s a claim (answers.Granted c)
    due = subst (λ (w : List Effect × CoreState). IsClaimDue n left w.1 a claim (answers.Granted c)) stays ((ask_due n left s a what (answers.Granted c) (ap asked_what act)).0 granted)

    at : (ask n left s a).0 ≡ answers.Granted claim
    at = granted ∙ ap (λ (x : Claim). answers.Granted x) due.0

    beside : beside_of a.reclaim a.wish ≡ Some kind
    beside = λ i. beside_of (re i) (wish i)

    entered : IsGrantable claim × (u.claims ≡ granted_claims claim s.claims)
    entered = share_entered n left s a what claim good fit (ap asked_what act) stays at

    its : (list_any (is_its_cache (wish_of [] claim)) s.claims ≡ false) × (find (is_its_cache (wish_of [] claim)) s.claims ≡ None)
    its = none_its claim s.claims none

    uncached : find (is_its_cache (wish_of [] claim)) u.claims ≡ None
    uncached = (none_its claim u.claims (ap (λ (cs : List Claim). held_in cs (CacheOf claim.file claim.party)) entered.1 ∙ entered_made claim s.claims (CacheOf claim.file claim.party) good.kept entered.0 ∙ none)).1

    few : length u.claims < most_claims
    few = subst (λ (cs : List Claim). length cs < most_claims) (sym entered.1) (room_beside left s a claim kind beside its.0 due.3)

    near : AllByRecursion (λ d. (d.party ≡ claim.party) ⊎ IsIn d s.claims) u.claims
    near = subst (λ (cs : List Claim). AllByRecursion (λ d. (d.party ≡ claim.party) ⊎ IsIn d s.claims) cs) (sym entered.1) (all_near claim access deny s.claims refl)

    aside : aside_of u ≡ aside_of (noted_by s a (answers.Granted claim))
    aside = wish_aside (wish_of a.wish claim) u ∙ ap aside_of (sym (ask_wishes n left s a claim (ap does_wish act) at)) ∙ (grant_frame n left s a claim good fit.party at).1

    runs : is_some u.grace ≡ true
    runs = ap (λ (x : Aside). is_some x.grace) aside ∙ noted_runs s a claim (ap asks_claims act) re (in_grace s a re due.1)

    kept : are_kept u.names claim.owner claim.party ≡ true
    kept = subst (λ (names : List Name). are_kept names claim.owner claim.party ≡ true) (sym names) (asked_known a what s.names fit.party (fit_owned a what fit (ap asked_what act)) (fit_what a what fit (ap asked_what act))).1
      where
        names : u.names ≡ both_entered a s.names
        names =
            wish_names (wish_of a.wish claim) u ∙ ap (λ (x : CoreState). x.names) (sym (ask_wishes n left s a claim (ap does_wish act) at))
            ∙ (ask_frame n left s a good fit.party).names ∙ ap (λ (answer : Answer). names_after a answer s.names) at ∙ ap (λ (b : Bool). if b then both_entered a s.names else s.names) (ap asks_to_hold act)

    gets : wished_kind wanted u ≡ Some kind
    gets = kind_wished claim kind s u sound named kept (ap (λ (b : Option CacheKind). list_any (λ x. blocks_its_cache b claim x) s.claims) (sym beside) ∙ due.2.1) uncached runs few near
