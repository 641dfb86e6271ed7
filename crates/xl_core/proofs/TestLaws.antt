-- A test foretells the lock.
use Rattle.xl_cache.specs.BreakPlans.{is_covered, is_final}
use Rattle.xl_core.proofs.StandingLaws.{enters_cases, reclaims_asks, timely, timely_calm}
use Rattle.xl_core.specs.declared.standings.Standing.TheVariants.{Timely, Reclaims, Stays, Early, Late, Unrecorded}
use Rattle.xl_core.specs.declared.standings.Standing.{Standing}
use Rattle.xl_core.specs.Standings.{asker_as, is_smb, standing, stands, stands_alone, enters}
use Rattle.std.proofs.Common.{◌≡◌, ℕ, ◌<◌, ◌≤◌, Bool, true, false, not, ◌&&◌, ◌||◌, ◌==◌, eqb, List, [], ◌∷◌, length, Option, Some, None, inl, inr, refl, sym, ap, ◌∙◌, arith, slice_get, subst, is_some}
use Rattle.std.specs.List.{list_any}
use Rattle.std.proofs.lemmas.Bool.{both_ways, and_parts, and_right, ne_eqb, cases_lt, not-true, or_left}
use Rattle.xl_base.specs.Lists.{IsIn}
use Rattle.xl_base.proofs.Members.{all_in}
use Rattle.xl_base.specs.Stable.{same_protocol}
use Rattle.xl_base.specs.declared.name.Owner.{Owner}
use Rattle.xl_base.specs.declared.name.Owner.TheVariants as owners
use Rattle.xl_base.specs.declared.name.Party.{Party}
use Rattle.xl_base.specs.declared.name.Protocol.{Protocol}
use Rattle.xl_matrix.specs.Equal.{same_owners}
use Rattle.xl_matrix.specs.Extents.{meeting}
use Rattle.xl_matrix.specs.Matrix.{compat, fit_by, ranges_meet}
use Rattle.xl_matrix.specs.Owners.{posix}
use Rattle.xl_matrix.specs.declared.claim.Claim.{Claim}
use Rattle.xl_matrix.specs.declared.claim.Extent.{Extent}
use Rattle.xl_matrix.specs.declared.claim.Extent.TheVariants.{Bytes}
use Rattle.xl_matrix.specs.declared.claim.What.{What}
use Rattle.xl_matrix.specs.declared.claim.What.TheVariants.{Share, Range, Cache}
use Rattle.xl_names.specs.Names.{protocol_of, number_of, place_of, most_names}
use Rattle.xl_names.specs.declared.name.Name.{Name}
use Rattle.xl_names.proofs.NameLaws.{kept_from_number, new_from_none, place_new}
use Rattle.xl_table.specs.Flat.{is_met, blocks}
use Rattle.xl_table.specs.Held.{IsShareOrLock, is_range, is_cache}
use Rattle.xl_table.specs.Least.{least}
use Rattle.xl_table.proofs.LeastLaws.{one_passes}
use Rattle.xl_wait.specs.declared.waiter.Rooms.{Rooms}
use Rattle.xl_core.specs.State.{CoreState}
use Rattle.xl_core.specs.Askers.{asked_claim, asked_what, known_claim, known_owner, number_or, no_number, is_client, is_named, owner_in}
use Rattle.xl_core.specs.Blockers.{test_blockers, is_barred, range_ahead, is_stopped}
use Rattle.xl_core.specs.Causes.{stands_against, IsSameAsker, IsConflict, IsAgainst}
use Rattle.xl_core.specs.Decide.{decided}
use Rattle.xl_core.specs.Good.{are_kept, IsHeldBy, IsHeld, IsGood}
use Rattle.xl_core.specs.declared.ask.Act.TheVariants.{Ranges, Test}
use Rattle.xl_core.specs.declared.ask.Answer.TheVariants.{Conflict}
use Rattle.xl_core.specs.declared.ask.Ask.{Ask}
use Rattle.xl_core.specs.declared.ask.Who.{Who}
use Rattle.xl_core.specs.declared.ask.Who.TheVariants.{Named}
use Rattle.xl_core.proofs.CacheLaws.{range_no_cache}
use Rattle.xl_core.proofs.CauseLaws.{lock_due, test_due, test_none, test_some, option_cases}
use Rattle.xl_core.proofs.DecideLaws.{blockers_some, stops_some, final_in, named_is_held}
use Rattle.xl_core.proofs.KnownLaws.{kept_named, is_client_is, client_posix, get_none}

-- ---- only ranges block a range, and by their owners alone

met : (e : Bool) (p q o : Owner) (first last : ℕ) (place : Extent) (alone : Bool) → ranges_meet p (Bytes first last) o place ≡ ranges_meet q (Bytes first last) o place
    → is_met p (Range (Bytes first last) e) o (Range place alone) ≡ is_met q (Range (Bytes first last) e) o (Range place alone)
met true p q o first last place alone meet = meet
met false p q o first last place alone meet = refl

by_none : (own apart file same : Bool) → (own && (not (apart || true) || (file && (same && false)))) ≡ false
by_none true true file same = and_right file (same && false) (and_right same false refl)
by_none true false file same = and_right file (same && false) (and_right same false refl)
by_none false apart file same = refl

blocks_by : (a b d : Claim) (first last : ℕ) (exclusive : Bool) (w : What) → d.what ≡ w → IsShareOrLock w → a.file ≡ b.file → a.what ≡ Range (Bytes first last) exclusive → b.what ≡ Range (Bytes first last) exclusive → posix a.owner ≡ posix b.owner → same_owners a.owner d.owner ≡ same_owners b.owner d.owner
    → stands_against a d ≡ blocks b d
unfolding blocks compat fit_by
blocks_by a b d first last exclusive (Range place alone) is real file what other posix_is same =
    let meet : ranges_meet a.owner (Bytes first last) d.owner place ≡ ranges_meet b.owner (Bytes first last) d.owner place = ap (λ (p : Bool). meeting (not p && not (posix d.owner)) (Bytes first last) place) posix_is in
    rw (is, what, other, file, same, met exclusive a.owner b.owner d.owner first last place alone meet, meet, posix_is) refl
blocks_by a b d first last exclusive (Cache kind running) is real file what other posix_is same = absurd real
blocks_by a b d first last true (Share access deny) is real file what other posix_is same = rw (is, other) (sym (by_none (not (same_owners b.owner d.owner && true)) (not (eqb b.file d.file)) (eqb b.file d.file) (same_owners b.owner d.owner)))
blocks_by a b d first last false (Share access deny) is real file what other posix_is same = rw (is, other) (sym (by_none (not (same_owners b.owner d.owner && true)) (not (eqb b.file d.file)) (eqb b.file d.file) (same_owners b.owner d.owner)))

-- ---- who asks, with and without its name entered

apart_number : (protocol other : Protocol) (n m : ℕ) → ((n ≡ m) → ⊥) → same_owners (owners.Name protocol n) (owners.Name other m) ≡ false
apart_number protocol other n m apart = and_right (same_protocol protocol other) (n == m) (ne_eqb n m apart)

-- a number that a name has is less than how many there are
number_within : (names : List Name) (number : ℕ) (name : Name) → slice_get names number ≡ Some name → number < length names
number_within names number name e = elim (cases_lt number (length names)) [ inl h ↦ h | inr h ↦ absurd (get_none names number name h e) ]

same_to : (name : Name) (names : List Name) (d : Owner) (party : Party) (o : Option ℕ) → number_of name names ≡ o → length names ≤ most_names → are_kept names d party ≡ true
    → same_owners (owners.Name (protocol_of name) (number_or o)) d ≡ same_owners (owners.Name (protocol_of name) (place_of name names)) d
same_to name names d party (Some number) e few kept = ap (λ (n : ℕ). same_owners (owners.Name (protocol_of name) n) d) (sym (kept_from_number name names number e).1)
same_to name names (owners.Open number) party None e few kept = refl
same_to name names (owners.Name protocol number) party None e few kept =
    let is = kept_named names protocol number party kept in
    let small = number_within names is.number is.name is.owner_at in
    let place = place_new name names (new_from_none name names e) in
    ap (λ (x : Owner). same_owners (owners.Name (protocol_of name) no_number) x) is.owner_is
    ∙ apart_number (protocol_of name) (protocol_of is.name) no_number is.number (λ same. omega (arith, same, small, few))
    ∙ sym (apart_number (protocol_of name) (protocol_of is.name) (place_of name names) is.number (λ same. omega (arith, same, small, place)))
    ∙ ap (λ (x : Owner). same_owners (owners.Name (protocol_of name) (place_of name names)) x) (sym is.owner_is)

held_posix : (party : Party) (w : What) → is_cache w ≡ false → IsHeldBy party w → IsShareOrLock w
held_posix party (Share access deny) other held = tt
held_posix party (Range extent exclusive) other held = held
held_posix party (Cache kind running) other held = absurd (both_ways true other refl)

-- what the claim of a test meets, that of the lock does, caches aside
meets_both : (s : CoreState) (test lock : Ask) (first last : ℕ) (exclusive : Bool) (d : Claim) → IsGood s → is_client lock.owner lock.party ≡ true → is_named lock.owner ≡ true → IsSameAsker test lock → IsIn d s.claims → is_cache d.what ≡ false
    → stands_against (known_claim test (Bytes first last) exclusive s.names) d ≡ blocks (asked_claim lock (Range (Bytes first last) exclusive) s.names) d
meets_both s test lock first last exclusive d good client has same h other =
    let known = all_in (IsHeld s.names) d s.claims good.known h in
    let is = is_client_is lock.owner lock.party client has in
    let named : test.owner ≡ Named is.0 = same.owner ∙ is.2 in
    blocks_by (known_claim test (Bytes first last) exclusive s.names) (asked_claim lock (Range (Bytes first last) exclusive) s.names) d first last exclusive d.what refl (held_posix d.party d.what other known.0.0) same.file refl refl
    (ap (λ (w : Who). posix (known_owner w s.names)) named ∙ client_posix is.0 is.1 is.4 (number_or (number_of is.0 s.names)) ∙ sym (ap (λ (w : Who). posix (owner_in w s.names)) is.2 ∙ client_posix is.0 is.1 is.4 (place_of is.0 s.names)))
    (ap (λ (w : Who). same_owners (known_owner w s.names) d.owner) named ∙ same_to is.0 s.names d.owner d.party (number_of is.0 s.names) refl good.few known.1 ∙ sym (ap (λ (w : Who). same_owners (owner_in w s.names) d.owner) is.2))

-- ---- a test foretells the lock

-- a range that blocks does so for good
range_stops : (ask d : Claim) (held : List Claim) → is_range d.what ≡ true → blocks ask d ≡ true → is_final ask held d ≡ true
unfolding is_covered
range_stops ask d held range blocked = by d.what refl range where
  by : (w : What) → d.what ≡ w → is_range w ≡ true → is_final ask held d ≡ true
  by (Range extent mode) is r = rw (blocked, is) refl
  by (Share access deny) is r = absurd (both_ways false refl r)
  by (Cache kind running) is r = absurd (both_ways false refl r)

-- one that is no reclaim meets a conflict where no grace runs, with the least of what blocks it for good
against_timely : (s : CoreState) (a : Ask) (claim c : Claim) → a.reclaim ≡ false → IsAgainst (stands s a) s a claim c → (stands s a ≡ Timely) × IsAgainst Timely s a claim c
against_timely s a claim c fresh due = by (stands s a) refl due where
  by : (standing : Standing) → stands s a ≡ standing → IsAgainst standing s a claim c → (stands s a ≡ Timely) × IsAgainst Timely s a claim c
  by Timely is due = (is, due)
  by Reclaims is due = absurd (both_ways a.reclaim fresh (reclaims_asks s (asker_as a) (is_smb a.party) a.reclaim is))
  by Stays is due = absurd due
  by (Early until) is due = absurd due
  by (Late clock) is due = absurd due
  by Unrecorded is due = absurd due

-- where one of no reclaim goes on, so does another
goes_too : (s : CoreState) (a b : Ask) (stays other : Bool) → b.reclaim ≡ false → standing s (asker_as a) stays a.reclaim ≡ Timely → standing s (asker_as b) other b.reclaim ≡ Timely
goes_too s a b stays other fresh is = ap (standing s (asker_as b) other) fresh ∙ timely s (asker_as b) other (timely_calm s (asker_as a) stays a.reclaim is)

pub test_foretells : (n : ℕ) (left : Rooms) (s : CoreState) (test lock : Ask) (first last : ℕ) (exclusive : Bool) → IsGood s → is_client lock.owner lock.party ≡ true → is_named lock.owner ≡ true → IsSameAsker test lock
    → test.act ≡ Test (Bytes first last) exclusive → lock.act ≡ Ranges ((Bytes first last, exclusive) ∷ []) → lock.blocking ≡ false → lock.reclaim ≡ false
    → (range_ahead s.waiters s (asked_claim lock (Range (Bytes first last) exclusive) s.names) ≡ None → IsConflict (decided n left s lock).0 → IsConflict (decided n left s test).0) × (IsConflict (decided n left s test).0 → IsConflict (decided n left s lock).0)
test_foretells n left s test lock first last exclusive good client has same tests locks hurries fresh = (back, forth) where
  what : What
  what = Range (Bytes first last) exclusive

  known : Claim
  known = known_claim test (Bytes first last) exclusive s.names

  asked : Claim
  asked = asked_claim lock what s.names

  alike : (d : Claim) → IsIn d s.claims → is_cache d.what ≡ false → stands_against known d ≡ blocks asked d
  alike d h other = meets_both s test lock first last exclusive d good client has same h other

  refused : stands s lock ≡ Timely → is_stopped s.waiters s asked ≡ true → IsConflict (decided n left s lock).0
  refused timely stops =
      let found = stops_some s.waiters s asked stops in
      let held = blockers_some s.waiters s asked found.0 found.1 in
      (found.0, (lock_due n left s lock what (Conflict found.0) (ap asked_what locks)).1 (subst (λ (st : Standing). IsAgainst st s lock asked found.0) (sym timely) (hurries, found.1, held)))

  -- the test goes on where no grace runs
  goes : enters (stands_alone s test) ≡ true → stands_alone s test ≡ Timely
  goes e = elim (enters_cases (stands_alone s test) e) [
    | inl timely ↦ timely
    | inr back ↦ absurd (both_ways test.reclaim (same.reclaim ∙ fresh) (reclaims_asks s (asker_as test) false test.reclaim back))
  ]

  forth : IsConflict (decided n left s test).0 → IsConflict (decided n left s lock).0
  forth told =
      let due = (test_due n left s test (Bytes first last) exclusive (Conflict told.0) tests).0 told.1 in
      let range = (and_parts (is_range told.0.what) (blocks known told.0) due.3).0 in
      refused (goes_too s test lock false (is_smb lock.party) fresh (goes due.0)) (or_left (is_barred s asked) (is_some (range_ahead s.waiters s asked)) (one_passes (is_final asked s.claims) s.claims told.0 due.2 (range_stops asked told.0 s.claims range (sym (alike told.0 due.2 (range_no_cache told.0.what range)) ∙ due.3))))

  denied : stands_alone s test ≡ Timely → (c : Claim) → IsIn c s.claims → stands_against known c ≡ true → IsConflict (decided n left s test).0
  denied timely c there against =
      elim (option_cases (least s.names (test_blockers s known))) [
        | inl none ↦ absurd (both_ways (list_any (stands_against known) s.claims) (test_none s known none) (one_passes (stands_against known) s.claims c there against))
        | inr found ↦
            let held = test_some s known found.0 found.1 in
            (found.0, (test_due n left s test (Bytes first last) exclusive (Conflict found.0) tests).1 (ap enters timely, found.1, held.0, held.1))
      ]

  -- nobody waits in front, so what is named is held
  back : range_ahead s.waiters s asked ≡ None → IsConflict (decided n left s lock).0 → IsConflict (decided n left s test).0
  back none told =
      let why = against_timely s lock asked told.0 fresh ((lock_due n left s lock what (Conflict told.0) (ap asked_what locks)).0 told.1) in
      let due = why.1 in
      let found = final_in s asked told.0 (named_is_held s.waiters s asked told.0 none due.1) in
      let parts = and_parts (blocks asked told.0) (not (is_cache told.0.what) && not (is_covered asked s.claims told.0)) found.1 in
      let hard = (and_parts (not (is_cache told.0.what)) (not (is_covered asked s.claims told.0)) parts.1).0 in
      denied (goes_too s lock test (is_smb lock.party) false (same.reclaim ∙ fresh) why.0) told.0 found.0 (alike told.0 found.0 (not-true (is_cache told.0.what) hard) ∙ parts.0)

-- ---- what is granted leaves the record, the clock and the counter
