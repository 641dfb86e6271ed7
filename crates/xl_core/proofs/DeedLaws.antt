-- What one deed makes of each place, and who waits after it.
use Rattle.xl_base.specs.declared.name.Owner.TheVariants as owners
use Rattle.xl_table.specs.Leaving.{goes, is_some_party}
use Rattle.xl_table.specs.declared.leaver.Leaver.TheVariants as leavers
use Rattle.xl_base.proofs.Members.{all_in, in_append_right}
use Rattle.std.proofs.Common.{◌≡◌, ℕ, Bool, true, false, cond, if◌then◌else◌, ◌==◌, inl, inr, List, [], ◌∷◌, ◌++◌, map, append-nil, Option, Some, None, IfSome, refl, sym, ap, subst, ◌∙◌, slice_get, ◌&&◌, length, filter, not}
use Rattle.std.proofs.lemmas.Bool.{cases_Bool, both_ways, and_from, eq-eqb, not-true, and_parts}
use Rattle.std.specs.List.{AllByRecursion, list_any}
use Rattle.xl_base.specs.Lists.{IsIn, Pairwise}
use Rattle.xl_base.specs.declared.name.Owner.{Owner}
use Rattle.xl_base.specs.declared.name.Party.{Party}
use Rattle.xl_matrix.proofs.EqualLaws.{same_owners-self, same_owners-true, same_parties-true}
use Rattle.xl_matrix.specs.Equal.{same_owners, same_parties}
use Rattle.xl_matrix.specs.Owners.{posix}
use Rattle.xl_matrix.specs.declared.claim.CacheKind.{CacheKind}
use Rattle.xl_matrix.specs.declared.claim.Claim.{Claim}
use Rattle.xl_matrix.specs.declared.claim.Extent.TheVariants.{Bytes, Empty}
use Rattle.xl_matrix.specs.declared.claim.Rwd.{Rwd}
use Rattle.xl_matrix.specs.declared.claim.What.{What}
use Rattle.xl_matrix.specs.declared.claim.What.TheVariants.{Share, Range, Cache}
use Rattle.xl_names.specs.declared.name.Name.{Name}
use Rattle.xl_spans.proofs.Bytes.{relocked_mode}
use Rattle.xl_spans.proofs.Chains.{canonical_ranges}
use Rattle.xl_spans.specs.Spans.{within, mode_at}
use Rattle.xl_spans.specs.declared.span.Mode.{Mode}
use Rattle.xl_spans.specs.declared.span.Span.{Span}
use Rattle.xl_table.specs.Flat.{removed}
use Rattle.xl_table.specs.Held.{IsShareOrLock, IsGrantable, is_share, is_range, is_cache, mode_of, is_of, spans_of, IsKept}
use Rattle.xl_wait.specs.Waiting.{cancelled}
use Rattle.xl_wait.specs.declared.waiter.Rooms.{Rooms}
use Rattle.xl_wait.specs.declared.waiter.Waiter.{Waiter}
use Rattle.xl_core.specs.State.{CoreState, drawn}
use Rattle.xl_core.specs.Askers.{asked_what, asked_whats, asked_claim, known_claim, IsFit, IsFitAct, known_owner, range_what, asked_claims, both_entered}
use Rattle.xl_core.specs.Causes.{IsTurn, held_once}
use Rattle.xl_core.specs.Askers.{asking_party, party_named}
use Rattle.xl_core.specs.BreakAnswers.{may_be_left, ack, due, client_of}
use Rattle.xl_base.specs.Stable.{Stable}
use Rattle.xl_core.specs.Stores.{store_failed}
use Rattle.xl_core.specs.Ticks.{advanced, renew, end_some, unleased, expire, lapsed_by, lapse, end_grace}
use Rattle.xl_core.proofs.AsideLaws.{with_aside, aside_good, failed_aside, grace_aside, of_aside, of_expire}
use Rattle.xl_names.specs.declared.name.Name.TheVariants.{NfsParty}
use Rattle.xl_base.specs.declared.event.Moment.{Moment}
use Rattle.xl_core.specs.Deeds.{wish_by_number, asked_by, once_served, Deed, Asks, GivesBack, Weakens, Acks, Cancels, Ends, Serves, Draws, Advances, Lapses, Renews, Expires, Closes, FailsStore, EndsGrace, queue_without_party, queue_without_client, turned, done, IsFitDeed, queue_without, waits_after, queue_with, KeepNames}
use Rattle.xl_core.specs.Decide.{Answered, decided, plea_of, waiter_of, wish_by, wish_graced, wish_asked, acted, way, before_wish, does_wish, wish_after, ask}
use Rattle.xl_core.specs.Standings.{refusal, stands_alone}
use Rattle.xl_core.specs.Limits.{wish_limits, first_passed}
use Rattle.xl_core.specs.Wishes.{wish_granted, wish_of, wish_for, wished_kind, wished_at}
use Rattle.xl_cache.specs.declared.wish.Wish.{Wish}
use Rattle.xl_core.proofs.WishLaws.{wish_cache, wish_spans, wish_shares, wish_elements}
use Rattle.xl_core.proofs.AskWishLaws.{wish_claims, after_claims}
use Rattle.xl_core.specs.Frames.{serves_none}
use Rattle.xl_core.specs.declared.ask.Effect.TheVariants.{Begun, Served, Cancelled, Expired}
use Rattle.xl_core.proofs.WayAsks.{ask_way_names, ask_way_waiters}
use Rattle.xl_core.proofs.WayDeeds.{then_else, nothing_made, way_made, next_is, next_none}
use Rattle.xl_core.proofs.WayLaws.{way_good, way_names, way_waiters, way_serves, known_no_cache}
use Rattle.xl_core.specs.Dues.{IsDue}
use Rattle.xl_core.specs.Good.{IsGood, are_apart, IsKnown}
use Rattle.xl_core.specs.Places.{wish_at, wished_for, wished_then, Place, ByteOf, ShareOf, byte_held, share_held, held_in, held_at, part_by, held_as, entered_by, entered_at, CacheOf, is_cache_on, acked_at, lapsed_at, cleared_by, cleared_at, entered_for, answered_at, ended_at, ended_some, told_at, broken_at, made, else_was, unlocked_at, RangesOf, all_entered_at, all_entered_for, unlocked_for, then_entered, served_at, is_at, closed_at}
use Rattle.xl_table.specs.Relock.{with_share, shares_of, old_shares, united_by, granted_claims, is_range_of}
use Rattle.xl_table.proofs.ShareLaws.{united_share}
use Rattle.xl_core.specs.Settle.{next_way, way_again, settle, waits_as, cancel, give_back, weaken, end_party, close_open, plea_again}
use Rattle.xl_core.specs.declared.ask.Act.{Act}
use Rattle.xl_core.specs.declared.ask.Act.TheVariants as acts
use Rattle.xl_core.specs.declared.ask.Answer.{Answer}
use Rattle.xl_core.specs.declared.ask.Answer.TheVariants as answers
use Rattle.xl_core.specs.declared.ask.Ask.{Ask}
use Rattle.xl_core.specs.declared.ask.Effect.{Effect}
use Rattle.xl_core.proofs.CauseLaws.{test_leaves, empty_due}
use Rattle.xl_core.proofs.ChangeLaws.{spans_apart, shares_apart, granted_share, granted_spans, empty_spans}
use Rattle.xl_core.proofs.DeedCalls.{Clears, decided_enters, decided_keeps_claims, decided_clears, answer_is_due, decided_queue, decided_names, Releases, decided_releases, ranges_enter, no_empty}
use Rattle.xl_core.proofs.DeedLeaves.{spans_of-given, shares_of-given_apart, shares_of-given, none_gone, all_gone}
use Rattle.xl_core.proofs.GoodLaws.{before_good, once_answered, served_good, ask_good, asked_way_good, again_pleads, IsMoved, Answers, Rests, settle_good, cancel_good, give_back_good, drawn_good, end_party_good, close_open_good, advanced_good, renew_good, expire_good, lapse_good, store_failed_good, end_grace_good, IsFirst, each_turn, good_claims, clear_up, kind_once}
use Rattle.xl_core.proofs.BreakAnswerLaws.{is_cache_left, ack_good}
use Rattle.xl_core.proofs.CacheLaws.{removed_caches, granted_caches}
use Rattle.xl_core.proofs.CachePlaces.{held_of_caches, rest_of_made}
use Rattle.xl_core.proofs.DueLaws.{due_is}
use Rattle.xl_core.proofs.SettleLaws.{none_settled, turn_is}
use Rattle.xl_core.proofs.WeakenLaws.{weaken_good, weakened_queue, weakened_names, weaken_made}
use Rattle.xl_table.proofs.WriteBack.{is_of-true}
use Rattle.xl_table.specs.Elements.{elements_of, unlocked_elements}
use Rattle.xl_core.proofs.ElementLaws.{open_of, not_open, share_no_range, with_element, elements_granted}
use Rattle.xl_core.proofs.KnownLaws.{known_named}
use Rattle.xl_core.specs.Judge.{all_granted}
use Rattle.xl_core.proofs.RowLaws.{AllPass}
use Rattle.xl_core.proofs.ClaimLaws.{AreGood, granted_good}
use Rattle.xl_core.specs.declared.judge.Plea.{Plea}
use Rattle.xl_table.proofs.ElementLaws.{elements_removed_apart}
use Rattle.xl_names.specs.Names.{AreDistinct}
use Rattle.xl_matrix.specs.declared.claim.Extent.{Extent}
use Rattle.xl_base.proofs.Searches.{none_passes}

-- ---- a claim that is entered

is_of_from : (file : ℕ) (owner : Owner) (c : Claim) → file ≡ c.file → owner ≡ c.owner → is_of file owner c ≡ true
is_of_from file owner c e f = and_from (c.file == file) (same_owners c.owner owner) (eq-eqb c.file file (sym e)) (subst (λ (o : Owner). same_owners c.owner o ≡ true) (sym f) (same_owners-self c.owner))

locked_byte : (owner : Owner) (byte : ℕ) (inside exclusive : Bool) (mode : Option Mode) → posix owner ≡ true → byte_held owner byte (cond inside (Some (mode_of exclusive)) mode) ≡ else_was (entered_by (if posix owner && inside then Range (Bytes byte byte) exclusive ∷ [] else [])) (byte_held owner byte mode)
locked_byte owner byte true true mode own = rw own refl
locked_byte owner byte true false mode own = rw own refl
locked_byte owner byte false exclusive mode own = rw own refl

-- a byte of no POSIX owner's has no lock of its own
no_lock : (owner : Owner) (byte : ℕ) (mode : Option Mode) → posix owner ≡ false → byte_held owner byte mode ≡ []
no_lock owner byte None unnamed = refl
no_lock owner byte (Some mode) unnamed = rw unnamed refl

no_byte_of : (file : ℕ) (owner : Owner) (byte : ℕ) (w : What) → is_share w ≡ true → part_by w (ByteOf file owner byte) ≡ []
no_byte_of file owner byte (Share access deny) h = refl
no_byte_of file owner byte (Range extent exclusive) h = absurd (both_ways false refl h)
no_byte_of file owner byte (Cache kind running) h = absurd (both_ways false refl h)

byte_made : (c : Claim) (w : What) (cs : List Claim) (byte : ℕ) → c.what ≡ w → IsKept cs → IsShareOrLock w → byte_held c.owner byte (mode_at (spans_of c.file c.owner (granted_claims c cs)) byte) ≡ else_was (entered_by (part_by (held_as cs c w) (ByteOf c.file c.owner byte))) (byte_held c.owner byte (mode_at (spans_of c.file c.owner cs) byte))
byte_made c (Range (Bytes first last) exclusive) cs byte is kept real = by (posix c.owner) refl where
  old : List Span
  old = spans_of c.file c.owner cs

  by : (b : Bool) → posix c.owner ≡ b → byte_held c.owner byte (mode_at (spans_of c.file c.owner (granted_claims c cs)) byte) ≡ else_was (entered_by (if posix c.owner && within first last byte then Range (Bytes byte byte) exclusive ∷ [] else [])) (byte_held c.owner byte (mode_at old byte))
  by true own =
      ap (λ (ss : List Span). byte_held c.owner byte (mode_at ss byte)) (granted_spans c first last exclusive cs kept is own real)
      ∙ ap (λ (m : Option Mode). byte_held c.owner byte m) (relocked_mode old first last (Some (mode_of exclusive)) byte real (canonical_ranges old (kept.sound.canonical c.file c.owner own)))
      ∙ locked_byte c.owner byte (within first last byte) exclusive (mode_at old byte) own
  by false unnamed =
      no_lock c.owner byte _ unnamed
      ∙ sym (no_lock c.owner byte (mode_at old byte) unnamed)
      ∙ ap (λ (b : Bool). else_was (entered_by (if b && within first last byte then Range (Bytes byte byte) exclusive ∷ [] else [])) (byte_held c.owner byte (mode_at old byte))) (sym unnamed)
byte_made c (Range (Empty offset) exclusive) cs byte is kept real = by (posix c.owner) refl where
  by : (b : Bool) → posix c.owner ≡ b → byte_held c.owner byte (mode_at (spans_of c.file c.owner (granted_claims c cs)) byte) ≡ byte_held c.owner byte (mode_at (spans_of c.file c.owner cs) byte)
  by b e = ap (λ (ss : List Span). byte_held c.owner byte (mode_at ss byte)) (empty_spans c offset exclusive cs is)
byte_made c (Share access deny) cs byte is kept real =
    ap (λ (ss : List Span). byte_held c.owner byte (mode_at ss byte)) (spans_apart c cs c.file c.owner (λ at. absurd (both_ways (is_share c.what) at.2 (ap is_share is))))
    ∙ ap (λ (part : List What). else_was (entered_by part) (byte_held c.owner byte (mode_at (spans_of c.file c.owner cs) byte))) (sym (no_byte_of c.file c.owner byte (held_as cs c (Share access deny)) (united_share c.owner (Share access deny) (old_shares c.file c.owner cs) refl)))
byte_made c (Cache kind running) cs byte is kept real = absurd real

held_share : (file : ℕ) (owner : Owner) (w : What) (had : List What) → is_share w ≡ true → map share_held (with_share w []) ≡ else_was (entered_by (part_by w (ShareOf file owner))) had
held_share file owner (Share access deny) had h = refl
held_share file owner (Range extent exclusive) had h = absurd (both_ways false refl h)
held_share file owner (Cache kind running) had h = absurd (both_ways false refl h)

share_made : (c : Claim) (w : What) (cs : List Claim) → c.what ≡ w → IsShareOrLock w → map share_held (shares_of c.file c.owner (granted_claims c cs)) ≡ else_was (entered_by (part_by (held_as cs c w) (ShareOf c.file c.owner))) (map share_held (shares_of c.file c.owner cs))
share_made c (Share access deny) cs is real =
    let old = old_shares c.file c.owner cs in
    ap (λ (shares : List (Rwd × Rwd)). map share_held shares) (granted_share c access deny cs is)
    ∙ ap (λ (w : What). map share_held (with_share (united_by c.owner w old) [])) is
    ∙ held_share c.file c.owner (united_by c.owner (Share access deny) old) (map share_held (shares_of c.file c.owner cs)) (united_share c.owner (Share access deny) old refl)
share_made c (Range (Bytes first last) exclusive) cs is real = ap (λ (shares : List (Rwd × Rwd)). map share_held shares) (shares_apart c cs c.file c.owner (λ at. absurd (both_ways (is_share c.what) (ap is_share is) at.2)))
share_made c (Range (Empty offset) exclusive) cs is real = ap (λ (shares : List (Rwd × Rwd)). map share_held shares) (shares_apart c cs c.file c.owner (λ at. absurd (both_ways (is_share c.what) (ap is_share is) at.2)))
share_made c (Cache kind running) cs is real = absurd real

pub entered_made : (c : Claim) (cs : List Claim) (p : Place) → IsKept cs → IsGrantable c → held_in (granted_claims c cs) p ≡ else_was (entered_at cs c p) (held_in cs p)
entered_made c cs (ByteOf file owner byte) kept real =
    elim (cases_Bool (is_of file owner c)) [
      | inr other ↦ rw other (ap (λ (ss : List Span). byte_held owner byte (mode_at ss byte)) (spans_apart c cs file owner (λ at. absurd (both_ways (is_of file owner c) other (is_of_from file owner c at.0 at.1)))))
      | inl own ↦
          let here = is_of-true file owner c own in
          rw own (subst (λ (f : ℕ). byte_held owner byte (mode_at (spans_of f owner (granted_claims c cs)) byte) ≡ else_was (entered_by (part_by (held_as cs c c.what) (ByteOf f owner byte))) (byte_held owner byte (mode_at (spans_of f owner cs) byte))) here.0
          (subst (λ (o : Owner). byte_held o byte (mode_at (spans_of c.file o (granted_claims c cs)) byte) ≡ else_was (entered_by (part_by (held_as cs c c.what) (ByteOf c.file o byte))) (byte_held o byte (mode_at (spans_of c.file o cs) byte))) here.1
          (byte_made c c.what cs byte refl kept real.0)))
    ]
entered_made c cs (CacheOf file party) kept real = held_of_caches file party cs (granted_claims c cs) (granted_caches c cs)
entered_made c cs (RangesOf file number) kept real =
    elements_granted c cs file number kept real.0 ∙ by (is_range_of file (open_of number) c)
  where
    by : (b : Bool) → with_element b c.what (elements_of file (open_of number) cs) ≡ else_was (if b then Some (elements_of file (open_of number) cs ++ c.what ∷ []) else None) (elements_of file (open_of number) cs)
    by true = refl
    by false = refl
entered_made c cs (ShareOf file owner) kept real =
    elim (cases_Bool (is_of file owner c)) [
      | inr other ↦ rw other (ap (λ (shares : List (Rwd × Rwd)). map share_held shares) (shares_apart c cs file owner (λ at. absurd (both_ways (is_of file owner c) other (is_of_from file owner c at.0 at.1)))))
      | inl own ↦
          let here = is_of-true file owner c own in
          rw own (subst (λ (f : ℕ). map share_held (shares_of f owner (granted_claims c cs)) ≡ else_was (entered_by (part_by (held_as cs c c.what) (ShareOf f owner))) (map share_held (shares_of f owner cs))) here.0
          (subst (λ (o : Owner). map share_held (shares_of c.file o (granted_claims c cs)) ≡ else_was (entered_by (part_by (held_as cs c c.what) (ShareOf c.file o))) (map share_held (shares_of c.file o cs))) here.1
          (share_made c c.what cs refl real.0)))
    ]

-- claims that pass, one behind another, are entered one behind another
all_entered_made : (left : Rooms) (p : Plea) (names : List Name) (asked held : List Claim) (place : Place) → AreDistinct names → AreGood names held → AllByRecursion (IsKnown names) asked → AllPass left p held asked
    → held_in (all_granted asked held) place ≡ else_was (all_entered_at held asked place) (held_in held place)
all_entered_made left p names [] held place distinct good known pass = refl
all_entered_made left p names (c ∷ cs) held place distinct good known pass =
    all_entered_made left p names cs (granted_claims c held) place distinct next known.1 pass.2
    ∙ ap (λ (had : List What). else_was (all_entered_at (granted_claims c held) cs place) had) (entered_made c held place good.kept known.0.0)
    ∙ by (entered_at held c place) (all_entered_at (granted_claims c held) cs place)
  where
    next : AreGood names (granted_claims c held)
    next = granted_good names c held distinct good known.0 pass.0 pass.1.1

    by : (first later : Option (List What)) → else_was later (else_was first (held_in held place)) ≡ else_was (then_entered first later) (held_in held place)
    by first None = refl
    by first (Some has) = refl

-- ---- answers

-- the answer grants, or makes nothing of any place
pub data Grants (answer : Answer) : Type 0 where
  Does : (c : Claim) → answer ≡ answers.Granted c → Grants answer
  Doesnt : ((c : Claim) → answer ≡ answers.Granted c → ⊥) → ((held : List Claim) (p : Place) (ranges : List (Extent × Bool)) (extent : Extent) → (entered_for held answer p ≡ None) × (all_entered_for held ranges answer p ≡ None) × (unlocked_for held extent answer p ≡ None)) → Grants answer

pub grants_or : (answer : Answer) → Grants answer
grants_or (answers.Granted c) = Does c refl
grants_or (answers.Conflict c) = Doesnt (λ d e. absurd cc) (λ held p ranges extent. (refl, refl, refl))
grants_or (answers.Queued id) = Doesnt (λ d e. absurd cc) (λ held p ranges extent. (refl, refl, refl))
grants_or (answers.Recall c) = Doesnt (λ d e. absurd cc) (λ held p ranges extent. (refl, refl, refl))
grants_or (answers.Grace until) = Doesnt (λ d e. absurd cc) (λ held p ranges extent. (refl, refl, refl))
grants_or (answers.NoGrace clock) = Doesnt (λ d e. absurd cc) (λ held p ranges extent. (refl, refl, refl))
grants_or answers.NotRecorded = Doesnt (λ d e. absurd cc) (λ held p ranges extent. (refl, refl, refl))
grants_or (answers.Full limit) = Doesnt (λ d e. absurd cc) (λ held p ranges extent. (refl, refl, refl))
grants_or answers.NotHeld = Doesnt (λ d e. absurd cc) (λ held p ranges extent. (refl, refl, refl))
grants_or answers.StoreFailed = Doesnt (λ d e. absurd cc) (λ held p ranges extent. (refl, refl, refl))

-- ---- an ask

claim_made : (n : ℕ) (left : Rooms) (s : CoreState) (a : Ask) (what : What) (p : Place) → IsGood s → IsFit a → asked_what a.act ≡ Some what → held_at (decided n left s a).2 p ≡ else_was (entered_for s.claims (decided n left s a).0 p) (held_at s p)
claim_made n left s a what p good fit act =
    let r = decided n left s a in
    elim (grants_or r.0) [
      | Does c e ↦
          let is = decided_enters n left s a what c good fit act e in
          ap (λ (cs : List Claim). held_in cs p) is.1 ∙ entered_made c s.claims p good.kept is.0 ∙ ap (λ (answer : Answer). else_was (entered_for s.claims answer p) (held_at s p)) (sym e)
      | Doesnt none nothing ↦ ap (λ (cs : List Claim). held_in cs p) (decided_keeps_claims n left s a good fit none) ∙ ap (λ (o : Option (List What)). else_was o (held_at s p)) (sym (nothing s.claims p [] (Empty 0)).0)
    ]

unlocked_byte : (owner : Owner) (byte : ℕ) (inside exclusive : Bool) (mode : Option Mode) → posix owner ≡ true → byte_held owner byte (cond inside None mode) ≡ else_was (cleared_by (if posix owner && inside then Range (Bytes byte byte) exclusive ∷ [] else [])) (byte_held owner byte mode)
unlocked_byte owner byte true exclusive mode own = rw own refl
unlocked_byte owner byte false exclusive mode own = rw own refl

clears_byte : (c : Claim) (first last : ℕ) (old new : List Claim) (byte : ℕ) → IsKept old → Clears c first last old new → byte_held c.owner byte (mode_at (spans_of c.file c.owner new) byte) ≡ else_was (cleared_by (part_by c.what (ByteOf c.file c.owner byte))) (byte_held c.owner byte (mode_at (spans_of c.file c.owner old) byte))
clears_byte c first last old new byte kept is =
    let ss = spans_of c.file c.owner old in
    ap (λ (x : List Span). byte_held c.owner byte (mode_at x byte)) is.spans
    ∙ ap (λ (m : Option Mode). byte_held c.owner byte m) (relocked_mode ss first last None byte is.ends (canonical_ranges ss (kept.sound.canonical c.file c.owner is.own)))
    ∙ unlocked_byte c.owner byte (within first last byte) false (mode_at ss byte) is.own
    ∙ ap (λ (w : What). else_was (cleared_by (part_by w (ByteOf c.file c.owner byte))) (byte_held c.owner byte (mode_at ss byte))) (sym is.what)

cleared_made : (c : Claim) (first last : ℕ) (old new : List Claim) (p : Place) → IsKept old → Clears c first last old new → held_in new p ≡ else_was (unlocked_at old (Bytes first last) c p) (held_in old p)
cleared_made c first last old new (ByteOf file owner byte) kept is =
    elim (cases_Bool (is_of file owner c)) [
      | inr other ↦ rw other (ap (λ (ss : List Span). byte_held owner byte (mode_at ss byte)) (is.apart file owner (λ at. absurd (both_ways (is_of file owner c) other (is_of_from file owner c at.0 at.1)))))
      | inl own ↦
          let here = is_of-true file owner c own in
          rw own (subst (λ (f : ℕ). byte_held owner byte (mode_at (spans_of f owner new) byte) ≡ else_was (cleared_by (part_by c.what (ByteOf f owner byte))) (byte_held owner byte (mode_at (spans_of f owner old) byte))) here.0
          (subst (λ (o : Owner). byte_held o byte (mode_at (spans_of c.file o new) byte) ≡ else_was (cleared_by (part_by c.what (ByteOf c.file o byte))) (byte_held o byte (mode_at (spans_of c.file o old) byte))) here.1
          (clears_byte c first last old new byte kept is)))
    ]
cleared_made c first last old new (CacheOf file party) kept is = held_of_caches file party old new is.caches
cleared_made c first last old new (RangesOf file number) kept is = let other = not_open file number c is.own in rw other (is.elements file number)
cleared_made c first last old new (ShareOf file owner) kept is = ap (λ (shares : List (Rwd × Rwd)). map share_held shares) (is.shares file owner)

-- an open's unlock
released_made : (c : Claim) (extent : Extent) (old new : List Claim) (p : Place) → Releases c extent old new → held_in new p ≡ else_was (unlocked_at old extent c p) (held_in old p)
released_made c extent old new (ByteOf file owner byte) is =
    elim (cases_Bool (is_of file owner c)) [
      | inr other ↦ rw other (ap (λ (ss : List Span). byte_held owner byte (mode_at ss byte)) (is.spans file owner other))
      | inl own ↦
          let unnamed : posix owner ≡ false = ap (λ (o : Owner). posix o) (sym (is_of-true file owner c own).1) ∙ is.unnamed in
          rw own (no_lock owner byte _ unnamed ∙ sym (no_lock owner byte (mode_at (spans_of file owner old) byte) unnamed)
          ∙ ap (λ (part : List What). else_was (cleared_by part) (byte_held owner byte (mode_at (spans_of file owner old) byte))) (sym (ap (λ (w : What). part_by w (ByteOf file owner byte)) is.what ∙ no_part extent unnamed)))
    ]
  where
    no_part : (e : Extent) → posix owner ≡ false → part_by (Range e false) (ByteOf file owner byte) ≡ []
    no_part (Bytes first last) unnamed = rw unnamed refl
    no_part (Empty offset) unnamed = refl
released_made c extent old new (ShareOf file owner) is = ap (λ (shares : List (Rwd × Rwd)). map share_held shares) (is.shares file owner)
released_made c extent old new (CacheOf file party) is = held_of_caches file party old new is.caches
released_made c extent old new (RangesOf file number) is =
    elim (cases_Bool (is_of file (open_of number) c)) [
      | inr other ↦ rw other (is.elements file (open_of number) other)
      | inl own ↦
          let here = is_of-true file (open_of number) c own in
          rw own (subst (λ (f : ℕ). elements_of f (open_of number) new ≡ unlocked_elements extent (elements_of f (open_of number) old)) here.0
          (subst (λ (o : Owner). elements_of c.file o new ≡ unlocked_elements extent (elements_of c.file o old)) here.1 is.mine))
    ]

unlock_made : (n : ℕ) (left : Rooms) (s : CoreState) (a : Ask) (extent : Extent) (p : Place) → IsGood s → IsFit a → a.act ≡ acts.Unlock extent → ((c : Claim) → (decided n left s a).0 ≡ answers.Granted c → held_in (decided n left s a).2.claims p ≡ else_was (unlocked_at s.claims extent c p) (held_in s.claims p))
    → held_at (decided n left s a).2 p ≡ else_was (unlocked_for s.claims extent (decided n left s a).0 p) (held_at s p)
unlock_made n left s a extent p good fit act does =
    let r = decided n left s a in
    elim (grants_or r.0) [
      | Does c e ↦ does c e ∙ ap (λ (answer : Answer). else_was (unlocked_for s.claims extent answer p) (held_at s p)) (sym e)
      | Doesnt none nothing ↦ ap (λ (cs : List Claim). held_in cs p) (decided_keeps_claims n left s a good fit none) ∙ ap (λ (o : Option (List What)). else_was o (held_at s p)) (sym (nothing s.claims p [] extent).2)
    ]

unlock_by_owner : (n : ℕ) (left : Rooms) (s : CoreState) (a : Ask) (extent : Extent) (p : Place) (b : Bool) → IsGood s → IsFit a → a.act ≡ acts.Unlock extent → posix (known_owner a.owner s.names) ≡ b → (c : Claim) → (decided n left s a).0 ≡ answers.Granted c → held_in (decided n left s a).2.claims p ≡ else_was (unlocked_at s.claims extent c p) (held_in s.claims p)
unlock_by_owner n left s a (Bytes first last) p true good fit act named c e =
    cleared_made c first last s.claims (decided n left s a).2.claims p good.kept (decided_clears n left s a first last c good fit (sym (known_named a s.names fit.party) ∙ named) act e)
unlock_by_owner n left s a (Empty offset) p true good fit act named c e =
    absurd (no_empty (known_claim a (Empty offset) false s.names) offset s good named ((empty_due n left s a offset (answers.Granted c) act).0 e).1)
unlock_by_owner n left s a extent p false good fit act unnamed c e =
    released_made c extent s.claims (decided n left s a).2.claims p (decided_releases n left s a extent c good fit unnamed act e)

-- several ranges of an open
ranges_made : (n : ℕ) (left : Rooms) (s : CoreState) (a : Ask) (range : Extent × Bool) (ranges : List (Extent × Bool)) (p : Place) → IsGood s → IsFit a → a.act ≡ acts.Ranges (range ∷ ranges) → held_at (decided n left s a).2 p ≡ else_was (all_entered_for s.claims (range ∷ ranges) (decided n left s a).0 p) (held_at s p)
ranges_made n left s a range ranges p good fit act =
    let r = decided n left s a in
    elim (grants_or r.0) [
      | Does c e ↦
          let is = ranges_enter n left s a range ranges c good fit act e in
          ap (λ (cs : List Claim). held_in cs p) is.claims
          ∙ all_entered_made left (plea_of left s a) (both_entered a s.names) (asked_claims a (map range_what (range ∷ ranges)) s.names) s.claims p is.distinct is.good is.known is.pass
          ∙ ap (λ (cs : List Claim). else_was (all_entered_at s.claims cs p) (held_at s p)) (sym is.like)
          ∙ ap (λ (answer : Answer). else_was (all_entered_for s.claims (range ∷ ranges) answer p) (held_at s p)) (sym e)
      | Doesnt none nothing ↦ ap (λ (cs : List Claim). held_in cs p) (decided_keeps_claims n left s a good fit none) ∙ ap (λ (o : Option (List What)). else_was o (held_at s p)) (sym (nothing s.claims p (range ∷ ranges) (Empty 0)).1)
    ]

-- a wish by itself changes no claim before it is granted
wish_leaves : (n : ℕ) (left : Rooms) (s : CoreState) (a : Ask) → a.act ≡ acts.Wish → (decided n left s a).2.claims ≡ s.claims
unfolding decided wish_asked
wish_leaves n left s a is = ap (λ (act : Act). (acted n left s a act).2.claims) is ∙ by a.wish where
  by : (kinds : List CacheKind) → (wish_asked left s a kinds).2.claims ≡ s.claims
  by [] = refl
  by (kind ∷ kinds) = graced (refusal (stands_alone s a)) where
    one : (o : Option ℕ) → (wish_by s a (asked_claim a (Cache kind None) s.names) o).2.claims ≡ s.claims
    one None = refl
    one (Some limit) = refl

    graced : (o : Option Answer) → (wish_graced left s a (asked_claim a (Cache kind None) s.names) o).2.claims ≡ s.claims
    graced None = one (first_passed (wish_limits left a.rows (length (both_entered a s.names))))
    graced (Some answer) = refl

act_made : (n : ℕ) (left : Rooms) (s : CoreState) (a : Ask) (act : Act) (p : Place) → a.act ≡ act → IsFitAct a.owner a.blocking act → IsGood s → IsFit a → held_at (decided n left s a).2 p ≡ else_was (answered_at s.claims act (decided n left s a).0 p) (held_at s p)
act_made n left s a (acts.Share access deny) p is real good fit = claim_made n left s a (Share access deny) p good fit (ap asked_what is)
act_made n left s a (acts.Ranges []) p is real good fit = absurd real
act_made n left s a (acts.Ranges (range ∷ ranges)) p is real good fit = ranges_made n left s a range ranges p good fit is
act_made n left s a (acts.Test extent exclusive) p is real good fit = ap (λ (t : CoreState). held_at t p) (test_leaves n left s a extent exclusive is)
act_made n left s a acts.Wish p is real good fit = ap (λ (cs : List Claim). held_in cs p) (wish_leaves n left s a is)
act_made n left s a (acts.Unlock extent) p is real good fit = unlock_made n left s a extent p good fit is (unlock_by_owner n left s a extent p (posix (known_owner a.owner s.names)) good fit is refl)

-- ---- a claim given back, a party ended

given_made : (claim : Claim) (w : What) (s : CoreState) (p : Place) → claim.what ≡ w → IsGood s → IsIn claim s.claims → is_range w ≡ false → held_in (removed claim s.claims) p ≡ else_was (cleared_at claim p) (held_in s.claims p)
given_made claim (Share access deny) s (ByteOf file owner byte) is good there other =
    ap (λ (ss : List Span). byte_held owner byte (mode_at ss byte)) (spans_of-given file owner claim s.claims (ap is_share is))
    ∙ ap (λ (o : Option (List What)). else_was o (held_at s (ByteOf file owner byte))) (sym (no_byte_cleared (is_of file owner claim)))
  where
    no_byte_cleared : (b : Bool) → cleared_by (if b then part_by claim.what (ByteOf file owner byte) else []) ≡ None
    no_byte_cleared true = ap (λ (w : What). cleared_by (part_by w (ByteOf file owner byte))) is
    no_byte_cleared false = refl
given_made claim (Share access deny) s (RangesOf file number) is good there other =
    elements_removed_apart file (open_of number) claim s.claims (share_no_range file (open_of number) claim (ap is_share is))
    ∙ ap (λ (o : Option (List What)). else_was o (held_at s (RangesOf file number))) (sym (none_cleared (is_of file (open_of number) claim)))
  where
    none_cleared : (b : Bool) → cleared_by (if b then part_by claim.what (RangesOf file number) else []) ≡ None
    none_cleared true = ap (λ (w : What). cleared_by (part_by w (RangesOf file number))) is
    none_cleared false = refl
given_made claim (Share access deny) s (CacheOf file party) is good there other =
    held_of_caches file party s.claims (removed claim s.claims) (removed_caches claim s.claims (ap is_cache is))
    ∙ ap (λ (o : Option (List What)). else_was o (held_at s (CacheOf file party))) (sym (none_cleared (is_cache_on file party claim)))
  where
    none_cleared : (b : Bool) → cleared_by (if b then part_by claim.what (CacheOf file party) else []) ≡ None
    none_cleared true = ap (λ (w : What). cleared_by (part_by w (CacheOf file party))) is
    none_cleared false = refl
given_made claim (Share access deny) s (ShareOf file owner) is good there other =
    elim (cases_Bool (is_of file owner claim)) [
      | inr apart ↦ rw apart (ap (λ (shares : List (Rwd × Rwd)). map share_held shares) (shares_of-given_apart file owner claim s.claims apart))
      | inl own ↦
          rw own (ap (λ (shares : List (Rwd × Rwd)). map share_held shares) (shares_of-given file owner claim s.claims good.single there (and_from (is_of file owner claim) (is_share claim.what) own (ap is_share is)))
          ∙ ap (λ (w : What). else_was (cleared_by (part_by w (ShareOf file owner))) (held_at s (ShareOf file owner))) (sym is))
    ]
given_made claim (Range extent exclusive) s p is good there other = absurd (both_ways true other refl)
given_made claim (Cache kind running) s p is good there other = rest_of_made claim None s.claims p good.single there (ap is_cache is)

give_back_made : (s : CoreState) (claim : Claim) (p : Place) → IsGood s → IsIn claim s.claims → is_range claim.what ≡ false → held_at (give_back s claim).1 p ≡ else_was (cleared_at claim p) (held_at s p)
unfolding give_back
give_back_made s claim p good there other = given_made claim claim.what s p refl good there other

ack_made : (s : CoreState) (cache : Claim) (to : Option CacheKind) (p : Place) → IsGood s → IsIn cache s.claims → may_be_left cache.what to ≡ true → held_at (ack s cache to).1 p ≡ else_was (acked_at cache to p) (held_at s p)
unfolding ack
ack_made s cache to p good there may = rest_of_made cache to s.claims p good.single there (is_cache_left cache.what to may)

-- where nothing at the place goes, what is held there stays
place_stays : (goes : Claim → Bool) (cs : List Claim) (p : Place) → ((d : Claim) → IsIn d cs → is_at p d ≡ true → goes d ≡ false) → held_in (filter (λ c. not (goes c)) cs) p ≡ held_in cs p
place_stays goes cs (ByteOf file owner byte) none = ap (λ (ss : List Span). byte_held owner byte (mode_at ss byte)) (none_gone file owner goes cs (λ d h own real. none d h own)).0
place_stays goes cs (ShareOf file owner) none = ap (λ (shares : List (Rwd × Rwd)). map share_held shares) (none_gone file owner goes cs (λ d h own real. none d h own)).1
place_stays goes cs (RangesOf file number) none = (none_gone file (open_of number) goes cs (λ d h own real. none d h own)).2
place_stays goes cs (CacheOf file party) none = ap (λ (ds : List Claim). map (λ (c : Claim). c.what) ds) (by cs none) where
  by : (ds : List Claim) → ((d : Claim) → IsIn d ds → is_cache_on file party d ≡ true → goes d ≡ false) → filter (is_cache_on file party) (filter (λ c. not (goes c)) ds) ≡ filter (is_cache_on file party) ds
  by [] each = refl
  by (d ∷ ds) each =
      let rest = by ds (λ e h on. each e (inr h) on) in
      elim (cases_Bool (is_cache_on file party d)) [
        | inl on ↦ rw (each d (inl refl) on) (rw on (ap (λ (es : List Claim). d ∷ es) rest))
        | inr off ↦ elim (cases_Bool (goes d)) [ inl gone ↦ rw gone (rw off rest) | inr stay ↦ rw stay (rw off rest) ]
      ]

end_party_made : (s : CoreState) (party : Party) (p : Place) → IsGood s → held_at (end_party s party).1 p ≡ else_was (ended_at s.claims party p) (held_at s p)
unfolding end_party
end_party_made s party p good =
    elim (cases_Bool (list_any (λ c. if is_at p c then same_parties c.party party else false) s.claims)) [
      | inl has ↦ rw has refl
      | inr none ↦ rw none (place_stays (λ c. same_parties c.party party) s.claims p (λ d h at. of_none d h at none))
    ]
  where
    of_none : (d : Claim) → IsIn d s.claims → is_at p d ≡ true → list_any (λ c. if is_at p c then same_parties c.party party else false) s.claims ≡ false → same_parties d.party party ≡ false
    of_none d h on none =
        let other : (if is_at p d then same_parties d.party party else false) ≡ false = none_passes (λ c. if is_at p c then same_parties c.party party else false) d s.claims none h in
        rw on at other

-- a cache is no share or range, and goes where its party does
close_open_made : (s : CoreState) (number : ℕ) (party : Option Party) (p : Place) → IsGood s → held_at (close_open s number party).1 p ≡ else_was (closed_at number party p) (held_at s p)
unfolding close_open
close_open_made s number party (ByteOf file owner byte) good =
    elim (cases_Bool (posix owner)) [
      | inl named ↦ ap (λ (ss : List Span). byte_held owner byte (mode_at ss byte)) (none_gone file owner (goes (leavers.Open number party)) s.claims (λ d h own real. rw real (apart d own named))).0
      | inr smb ↦ no_byte smb (mode_at (spans_of file owner (filter (λ c. not (goes (leavers.Open number party) c)) s.claims)) byte) ∙ sym (no_byte smb (mode_at (spans_of file owner s.claims) byte))
    ]
  where
    apart : (d : Claim) → is_of file owner d ≡ true → posix owner ≡ true → same_owners d.owner (owners.Open number) ≡ false
    apart d own named =
        elim (cases_Bool (same_owners d.owner (owners.Open number))) [
          | inr e ↦ e
          | inl same ↦ absurd (both_ways (posix owner) (ap (λ (o : Owner). posix o) (sym (is_of-true file owner d own).1 ∙ same_owners-true d.owner (owners.Open number) same)) named)
        ]

    no_byte : posix owner ≡ false → (mode : Option Mode) → byte_held owner byte mode ≡ []
    no_byte smb None = refl
    no_byte smb (Some mode) = rw smb refl
close_open_made s number party (ShareOf file owner) good =
    elim (cases_Bool (same_owners owner (owners.Open number))) [
      | inl same ↦ rw same (ap (λ (shares : List (Rwd × Rwd)). map share_held shares) (all_gone file owner (goes (leavers.Open number party)) s.claims (λ d h own real. rw real (ap (λ (o : Owner). same_owners o (owners.Open number)) (is_of-true file owner d own).1 ∙ same))).0)
      | inr other ↦ rw other (ap (λ (shares : List (Rwd × Rwd)). map share_held shares) (none_gone file owner (goes (leavers.Open number party)) s.claims (λ d h own real. rw real (ap (λ (o : Owner). same_owners o (owners.Open number)) (is_of-true file owner d own).1 ∙ other))).1)
    ]
close_open_made s number party (RangesOf file at) good =
    elim (cases_Bool (at == number)) [
      | inl same ↦ rw same (all_gone file (open_of at) (goes (leavers.Open number party)) s.claims (λ d h own real. rw real (ap (λ (o : Owner). same_owners o (owners.Open number)) (is_of-true file (open_of at) d own).1 ∙ same))).1
      | inr other ↦ rw other (none_gone file (open_of at) (goes (leavers.Open number party)) s.claims (λ d h own real. rw real (ap (λ (o : Owner). same_owners o (owners.Open number)) (is_of-true file (open_of at) d own).1 ∙ other))).2
    ]
close_open_made s number party (CacheOf file holder) good =
    elim (cases_Bool (is_some_party party holder)) [
      | inl gone ↦ rw gone (ap (λ (ds : List Claim). map (λ (c : Claim). c.what) ds) (no_cache s.claims gone))
      | inr stays ↦ rw stays (place_stays (goes (leavers.Open number party)) s.claims (CacheOf file holder) (λ d h on. at_cache d on ∙ stays))
    ]
  where
    at_cache : (d : Claim) → is_cache_on file holder d ≡ true → goes (leavers.Open number party) d ≡ is_some_party party holder
    at_cache d on =
        let parts = and_parts (is_cache d.what) ((d.file == file) && same_parties d.party holder) on in
        let same = same_parties-true d.party holder (and_parts (d.file == file) (same_parties d.party holder) parts.1).1 in
        rw parts.0 (ap (is_some_party party) same)

    no_cache : (ds : List Claim) → is_some_party party holder ≡ true → filter (is_cache_on file holder) (filter (λ c. not (goes (leavers.Open number party) c)) ds) ≡ []
    no_cache [] gone = refl
    no_cache (d ∷ ds) gone =
        elim (cases_Bool (is_cache_on file holder d)) [
          | inl on ↦ rw (at_cache d on ∙ gone) (no_cache ds gone)
          | inr off ↦ elim (cases_Bool (goes (leavers.Open number party) d)) [ inl out ↦ rw out (no_cache ds gone) | inr stay ↦ rw stay (rw off (no_cache ds gone)) ]
        ]

-- ---- a turn

-- who is served waits for what stands under its number
pub asked_there : (before : List Waiter) (w : Waiter) (behind : List Waiter) → Pairwise are_apart (before ++ w ∷ behind) → asked_by w.id (before ++ w ∷ behind) ≡ w.asked
asked_there [] w behind apart = let same : (w.id == w.id) ≡ true = eq-eqb w.id w.id refl in rw same refl
asked_there (v ∷ vs) w behind apart =
    let other : (v.id == w.id) ≡ false = not-true (v.id == w.id) (all_in (λ x. are_apart v x ≡ true) w (vs ++ w ∷ behind) apart.0 (in_append_right w vs (w ∷ behind) (inl refl))) in
    rw other (asked_there vs w behind apart.1)

-- and wishes for what that one wishes for
pub wished_there : (before : List Waiter) (w : Waiter) (behind : List Waiter) → Pairwise are_apart (before ++ w ∷ behind) → wish_by_number w.id (before ++ w ∷ behind) ≡ w.wish
wished_there [] w behind apart = let same : (w.id == w.id) ≡ true = eq-eqb w.id w.id refl in rw same refl
wished_there (v ∷ vs) w behind apart =
    let other : (v.id == w.id) ≡ false = not-true (v.id == w.id) (all_in (λ x. are_apart v x ≡ true) w (vs ++ w ∷ behind) apart.0 (in_append_right w vs (w ∷ behind) (inl refl))) in
    rw other (wished_there vs w behind apart.1)

-- what a wish that is granted makes of each place
granted_made : (wanted : Wish) (s : CoreState) (p : Place) → IsGood s → held_at (wish_granted wanted s) p ≡ else_was (wish_at wanted s p) (held_at s p)
granted_made wanted s (ByteOf file owner byte) good = ap (λ (ss : List Span). byte_held owner byte (mode_at ss byte)) (wish_spans wanted s file owner)
granted_made wanted s (ShareOf file owner) good = ap (λ (shares : List (Rwd × Rwd)). map share_held shares) (wish_shares wanted s file owner)
granted_made wanted s (RangesOf file number) good = wish_elements wanted s file (open_of number)
granted_made wanted s (CacheOf file party) good = wish_cache wanted s file party good

for_made : (kinds : List CacheKind) (answer : Answer) (s : CoreState) (p : Place) → IsGood s → held_at (wish_for kinds answer s) p ≡ else_was (wished_for kinds answer s p) (held_at s p)
for_made kinds (answers.Granted c) s p good = granted_made (wish_of kinds c) s p good
for_made kinds (answers.Queued number) s p good = refl
for_made kinds (answers.Conflict c) s p good = refl
for_made kinds (answers.Recall c) s p good = refl
for_made kinds (answers.Grace until) s p good = refl
for_made kinds (answers.NoGrace clock) s p good = refl
for_made kinds answers.NotRecorded s p good = refl
for_made kinds (answers.Full limit) s p good = refl
for_made kinds answers.NotHeld s p good = refl
for_made kinds answers.StoreFailed s p good = refl

-- what a turn makes of each place
once_made : (left : Rooms) (s : CoreState) (w : Waiter) (asked : List Claim) (answer : Answer) (p : Place) → IsGood s → AllByRecursion (IsKnown s.names) asked → ((d : Claim) → answer ≡ answers.Granted d → AllPass left (plea_again s w) s.claims asked)
    → held_in (held_once asked answer s.claims) p ≡ else_was (served_at s.claims asked answer p) (held_at s p)
once_made left s w asked (answers.Granted c) p good known pass = all_entered_made left (plea_again s w) s.names asked s.claims p good.distinct (good_claims s good) known (pass c refl)
once_made left s w asked (answers.Queued number) p good known pass = refl
once_made left s w asked (answers.Conflict c) p good known pass = refl
once_made left s w asked (answers.Recall c) p good known pass = refl
once_made left s w asked (answers.Grace until) p good known pass = refl
once_made left s w asked (answers.NoGrace clock) p good known pass = refl
once_made left s w asked answers.NotRecorded p good known pass = refl
once_made left s w asked (answers.Full limit) p good known pass = refl
once_made left s w asked answers.NotHeld p good known pass = refl
once_made left s w asked answers.StoreFailed p good known pass = refl

-- what is told before a grant is of breaks
told_behind : (t : CoreState) (way effects : List Effect) (p : Place) → serves_none way ≡ true → told_at t (way ++ effects) p ≡ told_at t effects p
told_behind t [] effects p none = refl
told_behind t (Served party id answer ∷ told) effects p none = absurd (both_ways false refl none)
told_behind t (Begun c to call ∷ told) effects p none = told_behind t told effects p none
told_behind t (Cancelled party id ∷ told) effects p none = told_behind t told effects p none
told_behind t (Expired text ∷ told) effects p none = told_behind t told effects p none

wished_behind : (t : CoreState) (way effects : List Effect) (p : Place) → serves_none way ≡ true → wished_then t (way ++ effects) p ≡ wished_then t effects p
wished_behind t [] effects p none = refl
wished_behind t (Served party id answer ∷ told) effects p none = absurd (both_ways false refl none)
wished_behind t (Begun c to call ∷ told) effects p none = wished_behind t told effects p none
wished_behind t (Cancelled party id ∷ told) effects p none = wished_behind t told effects p none
wished_behind t (Expired text ∷ told) effects p none = wished_behind t told effects p none

queue_behind : (way effects : List Effect) (ws : List Waiter) → serves_none way ≡ true → queue_without (way ++ effects) ws ≡ queue_without effects ws
queue_behind [] effects ws none = refl
queue_behind (Served party id answer ∷ told) effects ws none = absurd (both_ways false refl none)
queue_behind (Begun c to call ∷ told) effects ws none = queue_behind told effects ws none
queue_behind (Cancelled party id ∷ told) effects ws none = queue_behind told effects ws none
queue_behind (Expired text ∷ told) effects ws none = queue_behind told effects ws none

-- the breaks, then what is granted, then the wish
abbrev turn_makes : CoreState → List Effect × CoreState → List Effect → Place → Option (List What)
turn_makes s way told p = then_entered (then_entered (broken_at s way.0 p) (told_at way.1 told p)) (wished_then way.1 told p)

wish_alike : (wanted : Wish) (s t : CoreState) (p : Place) → wished_kind wanted s ≡ wished_kind wanted t → wish_at wanted s p ≡ wish_at wanted t p
wish_alike wanted s t (CacheOf file party) e = ap (λ (o : Option CacheKind). wished_at wanted o file party) e
wish_alike wanted s t (ByteOf file owner byte) e = refl
wish_alike wanted s t (ShareOf file owner) e = refl
wish_alike wanted s t (RangesOf file number) e = refl

wished_once : (kinds : List CacheKind) (answer : Answer) (t : CoreState) (w : Waiter) (p : Place) → wished_for kinds answer (once_served t w.id answer) p ≡ wished_for kinds answer (once_answered t w (asked_by w.id t.waiters) answer) p
wished_once kinds (answers.Granted c) t w p = wish_alike (wish_of kinds c) (once_served t w.id (answers.Granted c)) (once_answered t w (asked_by w.id t.waiters) (answers.Granted c)) p (kind_once (wish_of kinds c) (answers.Granted c) t w)
wished_once kinds (answers.Queued number) t w p = refl
wished_once kinds (answers.Conflict c) t w p = refl
wished_once kinds (answers.Recall c) t w p = refl
wished_once kinds (answers.Grace until) t w p = refl
wished_once kinds (answers.NoGrace clock) t w p = refl
wished_once kinds answers.NotRecorded t w p = refl
wished_once kinds (answers.Full limit) t w p = refl
wished_once kinds answers.NotHeld t w p = refl
wished_once kinds answers.StoreFailed t w p = refl

first_made : (n : ℕ) (left : Rooms) (s : CoreState) (turn : List Effect × CoreState) (p : Place) → IsGood s → IsFirst n left s [] s.waiters turn → held_at turn.1 p ≡ else_was (turn_makes s (next_way s) turn.0 p) (held_at s p)
first_made n left s turn p good first =
    subst (λ (way : List Effect × CoreState). held_at turn.1 p ≡ else_was (turn_makes s way turn.0 p) (held_at s p)) (sym next) (by first.moved)
  where
    w : Waiter
    w = first.waiter

    way : List Effect × CoreState
    way = way_again first.before s w

    t : CoreState
    t = way.1

    all : List Claim
    all = first.claim ∷ first.claims

    next : next_way s ≡ way
    next = next_is s first.before w first.behind first.stood first.blocked (clear_up first.before s w first.claim first.claims first.calm first.asked first.free)

    sound : IsGood t
    sound = way_good first.before (plea_again s w) w.asked s good (known_no_cache s.names w.asked first.is.1)

    named : t.names ≡ s.names
    named = way_names first.before (plea_again s w) w.asked s

    known : AllByRecursion (IsKnown t.names) all
    known = subst (λ (names : List Name). AllByRecursion (IsKnown names) all) (sym named) (subst (λ (cs : List Claim). AllByRecursion (IsKnown s.names) cs) first.asked first.is.1)

    there : asked_by w.id t.waiters ≡ all
    there =
        ap (asked_by w.id) (way_waiters first.before (plea_again s w) w.asked s ∙ first.stood)
        ∙ asked_there first.before w first.behind (subst (λ (ws : List Waiter). Pairwise are_apart ws) first.stood good.apart) ∙ first.asked

    wishes : wish_by_number w.id t.waiters ≡ w.wish
    wishes =
        ap (wish_by_number w.id) (way_waiters first.before (plea_again s w) w.asked s ∙ first.stood)
        ∙ wished_there first.before w first.behind (subst (λ (ws : List Waiter). Pairwise are_apart ws) first.stood good.apart)

    -- behind the way
    behind : held_at t p ≡ else_was (broken_at s way.0 p) (held_at s p)
    behind = way_made first.before (plea_again s w) w.asked s p good

    whole : (later wish : Option (List What)) → held_at turn.1 p ≡ else_was wish (else_was later (held_at t p)) → told_at t turn.0 p ≡ later → wished_then t turn.0 p ≡ wish → held_at turn.1 p ≡ else_was (turn_makes s way turn.0 p) (held_at s p)
    whole later wish is told wished =
        is ∙ ap (λ (had : List What). else_was wish (else_was later had)) behind
        ∙ sym (then_else (then_entered (broken_at s way.0 p) later) wish (held_at s p) ∙ ap (else_was wish) (then_else (broken_at s way.0 p) later (held_at s p)))
        ∙ (λ i. else_was (then_entered (then_entered (broken_at s way.0 p) (sym told i)) (sym wished i)) (held_at s p))

    by : IsMoved n left first.before s w first.claim first.claims turn → held_at turn.1 p ≡ else_was (turn_makes s way turn.0 p) (held_at s p)
    by (Answers answer told new due pass clear) =
        let u = once_answered t w all answer in
        let once : once_answered t w (asked_by w.id t.waiters) answer ≡ u = ap (λ (cs : List Claim). once_answered t w cs answer) there in
        let sole : List Effect = Served w.party w.id answer ∷ [] in
        whole (served_at t.claims all answer p) (wished_for w.wish answer u p)
        (ap (λ (x : CoreState). held_at x p) new ∙ for_made w.wish answer u p (served_good n left s turn first good answer pass).0
        ∙ ap (else_was (wished_for w.wish answer u p)) (once_made left t w all answer p sound known (λ d e. subst (λ (plea : Plea). AllPass left plea t.claims all) (again_pleads first.before s w) (pass d e).1)))
        (ap (λ (effects : List Effect). told_at t effects p) told ∙ told_behind t way.0 sole p (way_serves first.before (plea_again s w) w.asked s) ∙ ap (λ (cs : List Claim). served_at t.claims cs answer p) there)
        (ap (λ (effects : List Effect). wished_then t effects p) told ∙ wished_behind t way.0 sole p (way_serves first.before (plea_again s w) w.asked s) ∙ wished_once (wish_by_number w.id t.waiters) answer t w p ∙ (λ i. wished_for (wishes i) answer (once i) p))
    by (Rests e up) =
        whole None None (ap (λ (x : List Effect × CoreState). held_at x.1 p) e)
        (ap (λ (x : List Effect × CoreState). told_at t x.0 p) e ∙ ap (λ (effects : List Effect). told_at t effects p) (sym (append-nil way.0)) ∙ told_behind t way.0 [] p (way_serves first.before (plea_again s w) w.asked s))
        (ap (λ (x : List Effect × CoreState). wished_then t x.0 p) e ∙ ap (λ (effects : List Effect). wished_then t effects p) (sym (append-nil way.0)) ∙ wished_behind t way.0 [] p (way_serves first.before (plea_again s w) w.asked s))

turn_made : (n : ℕ) (left : Rooms) (s : CoreState) (p : Place) → (o : Option (List Effect × CoreState)) → settle n left s ≡ o → IfSome o (λ r. held_at r.1 p ≡ else_was (turn_makes s (next_way s) r.0 p) (held_at s p))
    → held_at (turned s o).2 p ≡ else_was (turn_makes s (next_way s) (turned s o).1 p) (held_at s p)
turn_made n left s p None e made = nothing_made s p ∙ ap (λ (told : List Effect). else_was (broken_at s told p) (held_at s p)) (sym (ap (λ (way : List Effect × CoreState). way.0) (next_none s (none_settled n left s e))))
turn_made n left s p (Some r) e made = made

first_queue : (n : ℕ) (left : Rooms) (s : CoreState) (turn : List Effect × CoreState) → IsGood s → IsFirst n left s [] s.waiters turn → turn.1.waiters ≡ queue_without turn.0 s.waiters
first_queue n left s turn good first = by first.moved where
  w : Waiter
  w = first.waiter

  way : List Effect × CoreState
  way = way_again first.before s w

  same : way.1.waiters ≡ s.waiters
  same = way_waiters first.before (plea_again s w) w.asked s

  by : IsMoved n left first.before s w first.claim first.claims turn → turn.1.waiters ≡ queue_without turn.0 s.waiters
  by (Answers answer told new due pass clear) =
      ap (λ (x : CoreState). x.waiters) (new ∙ wish_claims w.wish answer (once_answered way.1 w (first.claim ∷ first.claims) answer)) ∙ ap (λ (ws : List Waiter). cancelled w.id ws) same
      ∙ sym (ap (λ (effects : List Effect). queue_without effects s.waiters) told ∙ queue_behind way.0 (Served w.party w.id answer ∷ []) s.waiters (way_serves first.before (plea_again s w) w.asked s))
  by (Rests e up) =
      ap (λ (x : List Effect × CoreState). x.1.waiters) e ∙ same
      ∙ sym (ap (λ (x : List Effect × CoreState). queue_without x.0 s.waiters) e ∙ ap (λ (effects : List Effect). queue_without effects s.waiters) (sym (append-nil way.0)) ∙ queue_behind way.0 [] s.waiters (way_serves first.before (plea_again s w) w.asked s))

turn_queue : (s : CoreState) (o : Option (List Effect × CoreState)) → IfSome o (λ r. r.1.waiters ≡ queue_without r.0 s.waiters) → (turned s o).2.waiters ≡ queue_without (turned s o).1 s.waiters
turn_queue s None each = refl
turn_queue s (Some r) each = each

turn_names : (n : ℕ) (left : Rooms) (s : CoreState) (o : Option (List Effect × CoreState)) → IfSome o (λ r. IsTurn n left s r.0 r.1) → KeepNames s.names (turned s o).2.names
turn_names n left s None turn = λ number name h. h
turn_names n left s (Some r) turn = λ number name h. subst (λ (names : List Name). slice_get names number ≡ Some name) (sym turn.names) h

turn_good : (s : CoreState) (o : Option (List Effect × CoreState)) → IsGood s → IfSome o (λ r. IsGood r.1) → IsGood (turned s o).2
turn_good s None good each = good
turn_good s (Some r) good each = each

-- ---- one deed

drawn_is : (s : CoreState) → ((drawn s).claims ≡ s.claims) × ((drawn s).waiters ≡ s.waiters) × ((drawn s).names ≡ s.names)
unfolding drawn
drawn_is s = (refl, refl, refl)

cancel_is : (s : CoreState) (id : ℕ) → ((cancel s id).1.claims ≡ s.claims) × ((cancel s id).1.waiters ≡ cancelled id s.waiters) × ((cancel s id).1.names ≡ s.names)
unfolding cancel
cancel_is s id = (refl, refl, refl)

pub deed_good : (n : ℕ) (s : CoreState) (d : Deed) → IsGood s → IsFitDeed s d → IsGood (done n s d)
deed_good n s (Asks left a) good fit = ask_good n left s a good fit
deed_good n s (GivesBack claim) good fit = give_back_good s claim good
deed_good n s (Weakens share access deny) good fit = weaken_good s share access deny good fit.0 fit.1
deed_good n s (Acks cache to) good fit = ack_good s cache to good fit.0 fit.1
deed_good n s (Cancels id) good fit = cancel_good s id good
deed_good n s (Ends party) good fit = end_party_good s party good
deed_good n s (Serves left) good fit = turn_good s (settle n left s) good (settle_good n left s good)
deed_good n s Draws good fit = drawn_good s good
deed_good n s (Advances now) good fit = advanced_good s now good
deed_good n s (Lapses cache) good fit = lapse_good s cache good
deed_good n s (Renews client) good fit = renew_good s client good
deed_good n s (Expires client) good fit = expire_good s client good
deed_good n s (Closes number party) good fit = close_open_good s number party good
deed_good n s (FailsStore stable) good fit = store_failed_good stable s good
deed_good n s EndsGrace good fit = end_grace_good s good

-- the clock and leases change nothing that is held, nobody who waits and no name
abbrev IsStill : CoreState → CoreState → Type 0
IsStill s t = (t.claims ≡ s.claims) × (t.waiters ≡ s.waiters) × (t.names ≡ s.names)

advanced_still : (s : CoreState) (now : Moment) → IsStill s (advanced s now)
unfolding advanced
advanced_still s now = (refl, refl, refl)

renew_still : (s : CoreState) (client : List ℕ) → IsStill s (renew s client).1
unfolding renew
renew_still s client = (refl, refl, refl)

-- nor do a store that fails and the end of grace
store_failed_still : (s : CoreState) (stable : Stable) → IsStill s (store_failed stable s)
store_failed_still s stable = of_aside (IsStill s) s (store_failed stable s) (failed_aside stable s) (λ x. (refl, refl, refl))

end_grace_still : (s : CoreState) → IsStill s (end_grace s)
end_grace_still s = of_aside (IsStill s) s (end_grace s) (grace_aside s) (λ x. (refl, refl, refl))

expired_made : (s : CoreState) (client : List ℕ) (party : Option Party) (p : Place) → IsGood s → held_at (unleased client (end_some s party)).1 p ≡ else_was (ended_some s.claims party p) (held_at s p)
expired_made s client None p good = refl
expired_made s client (Some party) p good = end_party_made s party p good

expire_made : (s : CoreState) (client : List ℕ) (p : Place) → IsGood s → held_at (expire s client).1 p ≡ else_was (ended_some s.claims (party_named s.names (NfsParty client)) p) (held_at s p)
expire_made s client p good =
    of_expire (λ (r : List Effect × CoreState). held_at r.1 p ≡ else_was (ended_some s.claims (party_named s.names (NfsParty client)) p) (held_at s p)) s client
    (λ x. expired_made (with_aside x s) client (party_named s.names (NfsParty client)) p (aside_good x s good))

lapsed_made : (s : CoreState) (cache : Claim) (client : Option (List ℕ)) (p : Place) → IsGood s → IsIn cache s.claims → is_cache cache.what ≡ true → held_at (lapsed_by s cache client).1 p ≡ else_was (lapsed_at s cache client p) (held_at s p)
lapsed_made s cache None p good there is = rest_of_made cache None s.claims p good.single there is
lapsed_made s cache (Some client) p good there is = expire_made s client p good

lapse_made : (s : CoreState) (cache : Claim) (p : Place) → IsGood s → IsIn cache (due s) → held_at (lapse s cache).1 p ≡ else_was (lapsed_at s cache (client_of s.names cache.party) p) (held_at s p)
unfolding lapse
lapse_made s cache p good here = let is = due_is s cache here in lapsed_made s cache (client_of s.names cache.party) p good is.0 is.1

-- an ask makes of it what its way does, and then what it is answered
before_made : (n : ℕ) (left : Rooms) (s : CoreState) (a : Ask) (p : Place) → IsGood s → IsFit a
    → held_at (before_wish n left s a).2 p ≡ else_was (then_entered (broken_at s (way left s a).0 p) (answered_at (way left s a).1.claims a.act (before_wish n left s a).0 p)) (held_at s p)
unfolding before_wish
before_made n left s a p good fit =
    let t = (way left s a).1 in
    let later = answered_at t.claims a.act (decided n left t a).0 p in
    act_made n left t a a.act p refl fit.act (asked_way_good left s a good) fit
    ∙ ap (else_was later) (way_made s.waiters (plea_of left s a) (asked_claims a (asked_whats a.act) s.names) s p good)
    ∙ sym (then_else (broken_at s (way left s a).0 p) later (held_at s p))

after_made : (a : Ask) (answer : Answer) (s : CoreState) (p : Place) → IsGood s → held_at (wish_after a answer s) p ≡ else_was (if does_wish a.act then wished_for a.wish answer s p else None) (held_at s p)
after_made a answer s p good = by (does_wish a.act) where
  by : (b : Bool) → held_at (if b then wish_for a.wish answer s else s) p ≡ else_was (if b then wished_for a.wish answer s p else None) (held_at s p)
  by true = for_made a.wish answer s p good
  by false = refl

ask_made : (n : ℕ) (left : Rooms) (s : CoreState) (a : Ask) (p : Place) → IsGood s → IsFit a → held_at (ask n left s a).2 p ≡ else_was (made n s (Asks left a) p) (held_at s p)
unfolding ask
ask_made n left s a p good fit =
    after_made a r.0 r.2 p (before_good n left s a good fit)
    ∙ ap (else_was wish) (before_made n left s a p good fit)
    ∙ sym (then_else (then_entered (broken_at s (way left s a).0 p) (answered_at (way left s a).1.claims a.act r.0 p)) wish (held_at s p))
  where
    r : Answered
    r = before_wish n left s a

    wish : Option (List What)
    wish = if does_wish a.act then wished_for a.wish r.0 r.2 p else None

-- at each place there is what the deed made of it
pub deed_makes : (n : ℕ) (s : CoreState) (d : Deed) (p : Place) → IsGood s → IsFitDeed s d → held_at (done n s d) p ≡ else_was (made n s d p) (held_at s p)
deed_makes n s (Asks left a) p good fit = ask_made n left s a p good fit
deed_makes n s (GivesBack claim) p good fit = give_back_made s claim p good fit.0 fit.1
deed_makes n s (Weakens share access deny) p good fit = weaken_made s share access deny p good fit.0 fit.1
deed_makes n s (Acks cache to) p good fit = ack_made s cache to p good fit.0 fit.1
deed_makes n s (Cancels id) p good fit = ap (λ (cs : List Claim). held_in cs p) (cancel_is s id).0
deed_makes n s (Ends party) p good fit = end_party_made s party p good
deed_makes n s (Serves left) p good fit = turn_made n left s p (settle n left s) refl (each_turn n left s (λ r. held_at r.1 p ≡ else_was (turn_makes s (next_way s) r.0 p) (held_at s p)) good (λ turn first. first_made n left s turn p good first))
deed_makes n s Draws p good fit = ap (λ (cs : List Claim). held_in cs p) (drawn_is s).0
deed_makes n s (Advances now) p good fit = ap (λ (cs : List Claim). held_in cs p) (advanced_still s now).0
deed_makes n s (Lapses cache) p good fit = lapse_made s cache p good fit
deed_makes n s (Renews client) p good fit = ap (λ (cs : List Claim). held_in cs p) (renew_still s client).0
deed_makes n s (Expires client) p good fit = expire_made s client p good
deed_makes n s (Closes number party) p good fit = close_open_made s number party p good
deed_makes n s (FailsStore stable) p good fit = ap (λ (cs : List Claim). held_in cs p) (store_failed_still s stable).0
deed_makes n s EndsGrace p good fit = ap (λ (cs : List Claim). held_in cs p) (end_grace_still s).0

ended_queue : (s : CoreState) (party : Party) → (end_party s party).1.waiters ≡ waits_after 0 s (Ends party) s.waiters
unfolding end_party
ended_queue s party = refl

closed_queue : (s : CoreState) (number : ℕ) (party : Option Party) → (close_open s number party).1.waiters ≡ filter (λ w. not (waits_as number w)) s.waiters
unfolding close_open
closed_queue s number party = refl

given_queue : (s : CoreState) (claim : Claim) → (give_back s claim).1.waiters ≡ s.waiters
unfolding give_back
given_queue s claim = refl

expired_queue : (s : CoreState) (client : List ℕ) (party : Option Party) → (unleased client (end_some s party)).1.waiters ≡ queue_without_party party s.waiters
expired_queue s client None = refl
expired_queue s client (Some party) = ended_queue s party

expire_queue : (s : CoreState) (client : List ℕ) → (expire s client).1.waiters ≡ queue_without_party (party_named s.names (NfsParty client)) s.waiters
expire_queue s client =
    of_expire (λ (r : List Effect × CoreState). r.1.waiters ≡ queue_without_party (party_named s.names (NfsParty client)) s.waiters) s client
    (λ x. expired_queue (with_aside x s) client (party_named s.names (NfsParty client)))

ack_still : (s : CoreState) (cache : Claim) (to : Option CacheKind) → ((ack s cache to).1.waiters ≡ s.waiters) × ((ack s cache to).1.names ≡ s.names)
unfolding ack
ack_still s cache to = (refl, refl)

lapsed_queue : (s : CoreState) (cache : Claim) (client : Option (List ℕ)) → (lapsed_by s cache client).1.waiters ≡ queue_without_client s.names client s.waiters
lapsed_queue s cache None = refl
lapsed_queue s cache (Some client) = expire_queue s client

lapse_queue : (s : CoreState) (cache : Claim) → (lapse s cache).1.waiters ≡ queue_without_client s.names (client_of s.names cache.party) s.waiters
unfolding lapse
lapse_queue s cache = lapsed_queue s cache (client_of s.names cache.party)

queue_named : (s t : CoreState) (a : Ask) (answer : Answer) → t.names ≡ s.names → t.waiters ≡ s.waiters → queue_with t a answer t.waiters ≡ queue_with s a answer s.waiters
queue_named s t a (answers.Queued id) names waiters = λ i. waiters i ++ waiter_of id a (asking_party a (names i)) (asked_claims a (asked_whats a.act) (names i)) ∷ []
queue_named s t a (answers.Granted c) names waiters = waiters
queue_named s t a (answers.Conflict c) names waiters = waiters
queue_named s t a (answers.Recall c) names waiters = waiters
queue_named s t a (answers.Grace until) names waiters = waiters
queue_named s t a (answers.NoGrace clock) names waiters = waiters
queue_named s t a answers.NotRecorded names waiters = waiters
queue_named s t a (answers.Full limit) names waiters = waiters
queue_named s t a answers.NotHeld names waiters = waiters
queue_named s t a answers.StoreFailed names waiters = waiters

pub ask_queue : (n : ℕ) (left : Rooms) (s : CoreState) (a : Ask) → IsGood s → IsFit a → (ask n left s a).2.waiters ≡ queue_with s a (ask n left s a).0 s.waiters
unfolding ask before_wish
ask_queue n left s a good fit =
    let t = (way left s a).1 in
    ap (λ (x : CoreState). x.waiters) (after_claims a (decided n left t a).0 (decided n left t a).2) ∙
    decided_queue n left t a (asked_way_good left s a good) fit ∙ queue_named s t a (decided n left t a).0 (ask_way_names left s a) (ask_way_waiters left s a)

pub ask_names : (n : ℕ) (left : Rooms) (s : CoreState) (a : Ask) → IsGood s → IsFit a → KeepNames s.names (ask n left s a).2.names
unfolding ask before_wish
ask_names n left s a good fit =
    let t = (way left s a).1 in
    subst (λ (names : List Name). KeepNames s.names names) (sym (ap (λ (x : CoreState). x.names) (after_claims a (decided n left t a).0 (decided n left t a).2)))
    (subst (λ (names : List Name). KeepNames names (decided n left t a).2.names) (ask_way_names left s a) (decided_names n left t a (asked_way_good left s a good) fit))

ask_is_due : (n : ℕ) (left : Rooms) (s : CoreState) (a : Ask) → IsGood s → IsFit a → IsDue n s (Asks left a)
unfolding ask before_wish
ask_is_due n left s a good fit = answer_is_due n left (way left s a).1 a (asked_way_good left s a good) fit

pub deed_queues : (n : ℕ) (s : CoreState) (d : Deed) → IsGood s → IsFitDeed s d → (done n s d).waiters ≡ waits_after n s d s.waiters
deed_queues n s (Asks left a) good fit = ask_queue n left s a good fit
deed_queues n s (GivesBack claim) good fit = given_queue s claim
deed_queues n s (Weakens share access deny) good fit = weakened_queue s share access deny
deed_queues n s (Acks cache to) good fit = (ack_still s cache to).0
deed_queues n s (Cancels id) good fit = (cancel_is s id).1
deed_queues n s (Ends party) good fit = ended_queue s party
deed_queues n s (Serves left) good fit = turn_queue s (settle n left s) (each_turn n left s (λ r. r.1.waiters ≡ queue_without r.0 s.waiters) good (λ turn first. first_queue n left s turn good first))
deed_queues n s Draws good fit = (drawn_is s).1
deed_queues n s (Advances now) good fit = (advanced_still s now).1
deed_queues n s (Lapses cache) good fit = lapse_queue s cache
deed_queues n s (Renews client) good fit = (renew_still s client).1
deed_queues n s (Expires client) good fit = expire_queue s client
deed_queues n s (Closes number party) good fit = closed_queue s number party
deed_queues n s (FailsStore stable) good fit = (store_failed_still s stable).1
deed_queues n s EndsGrace good fit = (end_grace_still s).1

closed_names : (s : CoreState) (number : ℕ) (party : Option Party) → (close_open s number party).1.names ≡ s.names
unfolding close_open
closed_names s number party = refl

ended_names : (s : CoreState) (party : Party) → (end_party s party).1.names ≡ s.names
unfolding end_party
ended_names s party = refl

given_names : (s : CoreState) (claim : Claim) → (give_back s claim).1.names ≡ s.names
unfolding give_back
given_names s claim = refl

same_names : (old new : List Name) → new ≡ old → KeepNames old new
same_names old new e = subst (λ (names : List Name). KeepNames old names) (sym e) (λ number name h. h)

expired_names : (s : CoreState) (client : List ℕ) (party : Option Party) → (unleased client (end_some s party)).1.names ≡ s.names
expired_names s client None = refl
expired_names s client (Some party) = ended_names s party

expire_names : (s : CoreState) (client : List ℕ) → (expire s client).1.names ≡ s.names
expire_names s client = of_expire (λ (r : List Effect × CoreState). r.1.names ≡ s.names) s client (λ x. expired_names (with_aside x s) client (party_named s.names (NfsParty client)))

lapsed_names : (s : CoreState) (cache : Claim) (client : Option (List ℕ)) → (lapsed_by s cache client).1.names ≡ s.names
lapsed_names s cache None = refl
lapsed_names s cache (Some client) = expire_names s client

lapse_names : (s : CoreState) (cache : Claim) → (lapse s cache).1.names ≡ s.names
unfolding lapse
lapse_names s cache = lapsed_names s cache (client_of s.names cache.party)

pub deed_names : (n : ℕ) (s : CoreState) (d : Deed) → IsGood s → IsFitDeed s d → KeepNames s.names (done n s d).names
deed_names n s (Asks left a) good fit = ask_names n left s a good fit
deed_names n s (GivesBack claim) good fit = same_names s.names (give_back s claim).1.names (given_names s claim)
deed_names n s (Weakens share access deny) good fit = same_names s.names (weaken s share access deny).1.names (weakened_names s share access deny)
deed_names n s (Acks cache to) good fit = same_names s.names (ack s cache to).1.names (ack_still s cache to).1
deed_names n s (Cancels id) good fit = same_names s.names (cancel s id).1.names (cancel_is s id).2
deed_names n s (Ends party) good fit = same_names s.names (end_party s party).1.names (ended_names s party)
deed_names n s (Serves left) good fit = turn_names n left s (settle n left s) (turn_is n left s good)
deed_names n s Draws good fit = same_names s.names (drawn s).names (drawn_is s).2
deed_names n s (Advances now) good fit = same_names s.names (advanced s now).names (advanced_still s now).2
deed_names n s (Lapses cache) good fit = same_names s.names (lapse s cache).1.names (lapse_names s cache)
deed_names n s (Renews client) good fit = same_names s.names (renew s client).1.names (renew_still s client).2
deed_names n s (Expires client) good fit = same_names s.names (expire s client).1.names (expire_names s client)
deed_names n s (Closes number party) good fit = same_names s.names (close_open s number party).1.names (closed_names s number party)
deed_names n s (FailsStore stable) good fit = same_names s.names (store_failed stable s).names (store_failed_still s stable).2
deed_names n s EndsGrace good fit = same_names s.names (end_grace s).names (end_grace_still s).2

pub deed_due : (n : ℕ) (s : CoreState) (d : Deed) → IsGood s → IsFitDeed s d → IsDue n s d
deed_due n s (Asks left a) good fit = ask_is_due n left s a good fit
deed_due n s (GivesBack claim) good fit = tt
deed_due n s (Weakens share access deny) good fit = tt
deed_due n s (Acks cache to) good fit = tt
deed_due n s (Cancels id) good fit = tt
deed_due n s (Ends party) good fit = tt
deed_due n s (Serves left) good fit = record { none = none_settled n left s; first = turn_is n left s good }
deed_due n s Draws good fit = tt
deed_due n s (Advances now) good fit = tt
deed_due n s (Lapses cache) good fit = fit
deed_due n s (Renews client) good fit = tt
deed_due n s (Expires client) good fit = fit
deed_due n s (Closes number party) good fit = tt
deed_due n s (FailsStore stable) good fit = tt
deed_due n s EndsGrace good fit = fit
