-- A share that is made weaker: its owner has it so, and all else stands as it stood.
use Rattle.std.proofs.Common.{◌≡◌, ℕ, Bool, true, false, not, ◌&&◌, if◌then◌else◌, ◌==◌, inl, inr, List, [], ◌∷◌, map, Option, None, refl, sym, ap, subst, ◌∙◌}
use Rattle.std.proofs.lemmas.Bool.{cases_Bool, both_ways, and_from, eq-eqb, and_right}
use Rattle.xl_base.specs.Lists.{IsIn}
use Rattle.xl_base.proofs.Members.{all_in, all_weaker}
use Rattle.xl_base.specs.declared.name.Owner.{Owner}
use Rattle.xl_matrix.proofs.EqualLaws.{same_owners-self, same_parties-self}
use Rattle.xl_matrix.specs.Equal.{same_owners, same_parties}
use Rattle.xl_matrix.specs.Rights.{rights_lie_within}
use Rattle.xl_matrix.specs.Weaker.{weaker_by, weaker}
use Rattle.xl_matrix.specs.declared.claim.Claim.{Claim}
use Rattle.xl_matrix.specs.declared.claim.Rwd.{Rwd}
use Rattle.xl_matrix.specs.declared.claim.What.{What}
use Rattle.xl_matrix.specs.declared.claim.What.TheVariants.{Share, Range, Cache}
use Rattle.xl_names.specs.declared.name.Name.{Name}
use Rattle.xl_spans.specs.Spans.{mode_at}
use Rattle.xl_spans.specs.declared.span.Span.{Span}
use Rattle.xl_table.specs.Flat.{removed, changed, with_what}
use Rattle.xl_table.specs.Held.{is_share, is_of, spans_of, IsSound}
use Rattle.xl_table.specs.Relock.{shares_of}
use Rattle.xl_table.proofs.FitLaws.{weakened_fits}
use Rattle.xl_table.proofs.FlatLaws.{all_inserted as all_put, all_removed, pairwise_removed, pairwise_others, pairwise_into}
use Rattle.xl_table.proofs.InsertLaws.{spans_of-inserted_other, sound_changed_other}
use Rattle.xl_table.proofs.KeptLaws.{kept_changed}
use Rattle.xl_table.proofs.ElementLaws.{elements_apart, elements_removed_apart}
use Rattle.xl_table.specs.Elements.{elements_of}
use Rattle.xl_core.proofs.ElementLaws.{open_of, share_no_range}
use Rattle.xl_table.proofs.ShareLaws.{shares_of-inserted_apart, shares_of-inserted_own, is_own}
use Rattle.xl_table.proofs.WriteBack.{is_of-true}
use Rattle.xl_core.specs.State.{CoreState}
use Rattle.xl_core.specs.Good.{IsHeld, is_single_by, is_single, IsGood, caches_of}
use Rattle.xl_core.specs.Places.{Place, ByteOf, ShareOf, RangesOf, CacheOf, is_cache_on, byte_held, share_held, held_at, entered_by, weakened_at, else_was}
use Rattle.xl_core.specs.Settle.{share_has, weaken}
use Rattle.xl_core.specs.Whole.{state_of}
use Rattle.xl_core.specs.declared.parts.Parts.{Parts}
use Rattle.xl_core.proofs.CacheLaws.{share_no_cache, inserted_caches, removed_caches}
use Rattle.xl_core.proofs.CachePlaces.{held_of_caches}
use Rattle.xl_core.proofs.ClaimLaws.{AreGood, is_single-sym}
use Rattle.xl_core.proofs.DeedLeaves.{spans_of-given, shares_of-given_apart, shares_of-given}
use Rattle.xl_core.proofs.GoodLaws.{good_claims, good_from}

-- ---- what is less

-- what has at least this access and deny is a share
pub share_less : (w : What) (access deny : Rwd) → share_has w access deny ≡ true → is_share w ≡ true
share_less (Share rights denied) access deny h = refl
share_less (Range extent exclusive) access deny h = absurd (both_ways false refl h)
share_less (Cache kind running) access deny h = absurd (both_ways false refl h)

less_by : (c : Claim) (w : What) (access deny : Rwd) → share_has w access deny ≡ true → weaker_by (with_what c (Share access deny)) c (Share access deny) w ≡ true
unfolding weaker_by
less_by c (Share rights denied) access deny less = and_from (same_owners c.owner c.owner) (rights_lie_within access rights && rights_lie_within deny denied) (same_owners-self c.owner) less
less_by c (Range extent exclusive) access deny less = absurd (both_ways false refl less)
less_by c (Cache kind running) access deny less = absurd (both_ways false refl less)

-- the share is no more than it was
pub weaker_share : (c : Claim) (access deny : Rwd) → share_has c.what access deny ≡ true → weaker (with_what c (Share access deny)) c ≡ true
unfolding weaker
weaker_share c access deny less =
    let rest = weaker_by (with_what c (Share access deny)) c (Share access deny) c.what in
    and_from (c.file == c.file) (same_parties c.party c.party && rest) (eq-eqb c.file c.file refl)
    (and_from (same_parties c.party c.party) rest (same_parties-self c.party) (less_by c c.what access deny less))

-- ---- the state stays good

single_same : (c d : Claim) (w v to : What) → is_share w ≡ true → is_share to ≡ true → is_single_by (with_what c to) d to v ≡ is_single_by c d w v
single_same c d (Share rights denied) (Share have ban) (Share access deny) h k = refl
single_same c d (Share rights denied) (Range extent exclusive) (Share access deny) h k = refl
single_same c d (Share rights denied) (Cache kind running) (Share access deny) h k = refl
single_same c d (Share rights denied) v (Range extent exclusive) h k = absurd (both_ways false refl k)
single_same c d (Share rights denied) v (Cache kind running) h k = absurd (both_ways false refl k)
single_same c d (Range extent exclusive) v to h k = absurd (both_ways false refl h)
single_same c d (Cache kind running) v to h k = absurd (both_ways false refl h)

-- beside another claim it is one share of its owner as before
single_still : (c d : Claim) (to : What) → is_share c.what ≡ true → is_share to ≡ true → is_single c d ≡ true → is_single (with_what c to) d ≡ true
single_still c d to h k one = ap (λ (b : Bool). not ((c.file == d.file) && not b)) (single_same c d c.what d.what to h k) ∙ one

-- who may hold a share may hold another
held_still : (names : List Name) (c : Claim) (access deny : Rwd) → IsHeld names c → IsHeld names (with_what c (Share access deny))
held_still names c access deny held = ((tt, refl), held.1)

weakened_good : (names : List Name) (c : Claim) (access deny : Rwd) (cs : List Claim) → AreGood names cs → IsIn c cs → share_has c.what access deny ≡ true → AreGood names (changed c (Share access deny) cs)
unfolding changed
weakened_good names c access deny cs good there less =
    let to : What = Share access deny in
    let less_now : Claim = with_what c to in
    let share = share_less c.what access deny less in
    record {
      kept = kept_changed c to cs good.kept there (sound_changed_other c to cs good.kept.sound refl);
      compatible = weakened_fits c to cs good.compatible there (weaker_share c access deny less);
      single = pairwise_into is_single is_single-sym less_now (removed c cs)
          (all_weaker (λ d. is_single c d ≡ true) (λ d. is_single less_now d ≡ true) (removed c cs) (λ (d : Claim) (one : is_single c d ≡ true). single_still c d to share refl one) (pairwise_others is_single is_single-sym c cs there good.single))
          (pairwise_removed is_single c cs good.single);
      known = all_put (IsHeld names) less_now (removed c cs) (held_still names c access deny (all_in (IsHeld names) c cs good.known there)) (all_removed (IsHeld names) c cs good.known);
    }

pub weaken_good : (s : CoreState) (share : Claim) (access deny : Rwd) → IsGood s → IsIn share s.claims → share_has share.what access deny ≡ true → IsGood (weaken s share access deny).1
unfolding weaken
weaken_good s share access deny good there less =
    good_from (record s { claims = changed share (Share access deny) s.claims }) (weakened_good s.names share access deny s.claims (good_claims s good) there less) good.distinct good.few good.waiters good.apart good.crowd

-- the table takes the change
pub weakened_sound : (p : Parts) (share : Claim) (access deny : Rwd) → IsGood (state_of p) → IsSound (changed share (Share access deny) p.table)
weakened_sound p share access deny good = sound_changed_other share (Share access deny) p.table good.kept.sound refl

-- ---- what is left

-- its owner has just this access and deny on the file
pub weakened_share : (s : CoreState) (share : Claim) (access deny : Rwd) → IsGood s → IsIn share s.claims → share_has share.what access deny ≡ true → shares_of share.file share.owner (weaken s share access deny).1.claims ≡ (access, deny) ∷ []
unfolding weaken changed
weakened_share s share access deny good there less =
    shares_of-inserted_own share.file share.owner (with_what share (Share access deny)) access deny (removed share s.claims) (is_own share) refl
    (shares_of-given share.file share.owner share s.claims good.single there (and_from (is_of share.file share.owner share) (is_share share.what) (is_own share) (share_less share.what access deny less)))

-- each other owner, and on each other file, keeps its share
pub weakened_apart : (s : CoreState) (share : Claim) (access deny : Rwd) (file : ℕ) (owner : Owner) → is_of file owner share ≡ false → shares_of file owner (weaken s share access deny).1.claims ≡ shares_of file owner s.claims
unfolding weaken changed
weakened_apart s share access deny file owner apart =
    shares_of-inserted_apart file owner (with_what share (Share access deny)) (removed share s.claims) apart ∙ shares_of-given_apart file owner share s.claims apart

-- no range changes
pub weakened_spans : (s : CoreState) (share : Claim) (access deny : Rwd) (file : ℕ) (owner : Owner) → share_has share.what access deny ≡ true → spans_of file owner (weaken s share access deny).1.claims ≡ spans_of file owner s.claims
unfolding weaken changed
weakened_spans s share access deny file owner less =
    spans_of-inserted_other file owner (with_what share (Share access deny)) (removed share s.claims) (λ spans. refl) ∙ spans_of-given file owner share s.claims (share_less share.what access deny less)

-- nor a cache
pub weakened_caches : (s : CoreState) (share : Claim) (access deny : Rwd) → share_has share.what access deny ≡ true → caches_of (weaken s share access deny).1.claims ≡ caches_of s.claims
unfolding weaken changed
weakened_caches s share access deny less =
    inserted_caches (with_what share (Share access deny)) (removed share s.claims) refl
    ∙ removed_caches share s.claims (share_no_cache share.what (share_less share.what access deny less))

-- nobody leaves the queue, and each name stays
pub weakened_queue : (s : CoreState) (share : Claim) (access deny : Rwd) → (weaken s share access deny).1.waiters ≡ s.waiters
unfolding weaken
weakened_queue s share access deny = refl

pub weakened_names : (s : CoreState) (share : Claim) (access deny : Rwd) → (weaken s share access deny).1.names ≡ s.names
unfolding weaken
weakened_names s share access deny = refl

-- nor an open's ranges
weakened_elements : (s : CoreState) (share : Claim) (access deny : Rwd) (file : ℕ) (owner : Owner) → share_has share.what access deny ≡ true → elements_of file owner (weaken s share access deny).1.claims ≡ elements_of file owner s.claims
unfolding weaken changed
weakened_elements s share access deny file owner less =
    elements_apart file owner (with_what share (Share access deny)) (removed share s.claims) (and_right (is_of file owner share) false refl)
    ∙ elements_removed_apart file owner share s.claims (share_no_range file owner share (share_less share.what access deny less))

-- ---- places

no_byte : (b : Bool) → entered_by (if b then [] else []) ≡ None
no_byte true = refl
no_byte false = refl

-- what is left at each place
pub weaken_made : (s : CoreState) (share : Claim) (access deny : Rwd) (p : Place) → IsGood s → IsIn share s.claims → share_has share.what access deny ≡ true → held_at (weaken s share access deny).1 p ≡ else_was (weakened_at share access deny p) (held_at s p)
weaken_made s share access deny (ByteOf file owner byte) good there less =
    ap (λ (ss : List Span). byte_held owner byte (mode_at ss byte)) (weakened_spans s share access deny file owner less)
    ∙ ap (λ (o : Option (List What)). else_was o (held_at s (ByteOf file owner byte))) (sym (no_byte (is_of file owner share)))
weaken_made s share access deny (CacheOf file party) good there less =
    held_of_caches file party s.claims (weaken s share access deny).1.claims (weakened_caches s share access deny less)
    ∙ ap (λ (o : Option (List What)). else_was o (held_at s (CacheOf file party))) (sym (no_byte (is_cache_on file party (with_what share (Share access deny)))))
weaken_made s share access deny (RangesOf file number) good there less =
    weakened_elements s share access deny file (open_of number) less ∙ ap (λ (o : Option (List What)). else_was o (held_at s (RangesOf file number))) (sym (no_byte (is_of file (open_of number) share)))
weaken_made s share access deny (ShareOf file owner) good there less =
    elim (cases_Bool (is_of file owner share)) [
      | inr other ↦ rw other (ap (λ (shares : List (Rwd × Rwd)). map share_held shares) (weakened_apart s share access deny file owner other))
      | inl own ↦
          let here = is_of-true file owner share own in
          rw own
          (subst (λ (f : ℕ). map share_held (shares_of f owner (weaken s share access deny).1.claims) ≡ Share access deny ∷ []) here.0
          (subst (λ (o : Owner). map share_held (shares_of share.file o (weaken s share access deny).1.claims) ≡ Share access deny ∷ []) here.1
          (ap (λ (shares : List (Rwd × Rwd)). map share_held shares) (weakened_share s share access deny good there less))))
    ]
